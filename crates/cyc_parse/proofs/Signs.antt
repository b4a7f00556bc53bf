-- If a given sign (punctuation token) comes next it is read, and any other sign is rejected.
use Rattle.std.proofs.Common.{◌≡◌, ℕ, suc, true, false, List, [], ◌∷◌, Option, Some, None, Err, refl}
use Rattle.std.specs.Prelude.{is_some}
use Rattle.cyc_syntax.specs.declared.tokens.Sign.{Sign}
use Rattle.cyc_syntax.specs.Symbols.{Symbol}
use Rattle.cyc_parse.specs.inside.Code.{accepted}
use Rattle.cyc_parse.specs.inside.Parsing.{Unexpected, next, sees, sign, is_sign, take, accept_if, only_place, advance}

pub seen_next : (s : Sign) (ts : List Symbol) → sees s ts ≡ true → is_some (next ts) ≡ true
seen_next s [] h = absurd (cc)
seen_next s (t ∷ ts) h = refl

pub sign_seen : (room : ℕ) (s : Sign) (ts : List Symbol) → sees s ts ≡ true → sign room s ts ≡ accepted room ts
unfolding take
sign_seen room s [] h = absurd (cc)
sign_seen room s (t ∷ ts) h = go (is_sign s t.terminal) h
  where
    go : (o : Option (Unit {0})) → is_some o ≡ true → accept_if room o only_place t ts ≡ accepted room (t ∷ ts)
    go None e = absurd (cc)
    go (Some x) e = refl

pub sign_not_seen : (room : ℕ) (s : Sign) (ts : List Symbol) → sees s ts ≡ false → sign room s ts ≡ Err (record { reason = Unexpected; left = ts })
unfolding take
sign_not_seen room s [] h = refl
sign_not_seen room s (t ∷ ts) h = go (is_sign s t.terminal) h
  where
    go : (o : Option (Unit {0})) → is_some o ≡ false → accept_if room o only_place t ts ≡ Err (record { reason = Unexpected; left = t ∷ ts })
    go None e = refl
    go (Some x) e = absurd (cc)

pub accepted_here : (room : ℕ) (ts : List Symbol) → accepted (suc room) ts ≡ advance ts
accepted_here room [] = refl
accepted_here room (t ∷ ts) = refl
