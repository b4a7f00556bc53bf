-- Facts about operands that are a single number or name, followed by no arguments, no postfix and no tighter operator. The file also has
-- facts about postfixes other than an index in brackets.
use Rattle.std.proofs.Common.{◌≡◌, ℕ, zero, suc, Bool, true, false, not, ◌||◌, List, [], ◌∷◌, Option, None, Some, is_some, Ok, refl, ap, subst, ◌∙◌}
use Rattle.std.proofs.lemmas.Bool.{or_parts}
use Rattle.cyc_words.proofs.Options.{none_from_is_some}
use Rattle.cyc_syntax.specs.declared.tokens.Sign.TheVariants as signs
use Rattle.cyc_syntax.specs.Symbols.{Terminal, Place, Symbol, Identifier}
use Rattle.cyc_syntax.specs.Symbols as terminals
use Rattle.cyc_syntax.specs.Grammar.{max_items}
use Rattle.cyc_syntax.specs.Trees.{Expression, Number, Variable, NoPostfixes}
use Rattle.cyc_parse.specs.inside.Parsing.{Outcome, and_then, bind, choose, if_sees, next, sees, advance}
use Rattle.cyc_parse.specs.inside.Expressions.{Nested, nested, unary, primary, postfixes}
use Rattle.cyc_parse.specs.inside.Steps.{one_field, one_postfix, with_chain, level_at, following, is_continued, has_more, is_plain_before, is_plain, operand}
use Rattle.cyc_parse.proofs.Levels.{climb_all, climb_ends}

no_postfix_seen : (room left : ℕ) (inner : Nested) (ts : List Symbol) → sees signs.LeftBracket ts || sees signs.Arrow ts ≡ false → postfixes room inner left ts ≡ Ok (NoPostfixes, ts)
unfolding postfixes if_sees
no_postfix_seen room zero inner ts none = let each = or_parts (sees signs.LeftBracket ts) (sees signs.Arrow ts) none in rw (each.0, each.1) refl
no_postfix_seen room (suc left) inner ts none = let each = or_parts (sees signs.LeftBracket ts) (sees signs.Arrow ts) none in rw (each.0, each.1) refl

-- If neither `[` nor `->` follows an operand, then the operand has no postfix.
pub no_chain : (room : ℕ) (e : Expression) (ts : List Symbol) → sees signs.LeftBracket ts || sees signs.Arrow ts ≡ false → with_chain room (nested room) e ts ≡ Ok (e, ts)
unfolding bind
no_chain room e ts none = rw (no_postfix_seen room max_items (nested room) ts none) refl

-- If no operator of a tighter precedence level follows an operand, then the operand consists only
-- of its prefixes, its primary expression and its postfixes.
operand_ends : (room below : ℕ) (e : Expression) (ts us : List Symbol) → unary room (nested room) ts ≡ Ok (e, us) → level_at 0 below (next us) ≡ None → operand room (nested room) below ts ≡ Ok (e, us)
unfolding bind
operand_ends room below e ts us first none = rw first (climb_all room below e us ∙ climb_ends room 0 below e us none)

module _ (room : ℕ) (t : Symbol) (ts : List Symbol) (no_call : sees signs.LeftParen ts ≡ false) (no_more : sees signs.LeftBracket ts || sees signs.Arrow ts ≡ false) where
  bare_number : (n : ℕ) → t.terminal ≡ terminals.Number n → unary room (nested room) (t ∷ ts) ≡ Ok (Number t.place n, ts)
  unfolding unary primary choose bind
  bare_number n is = rw is (rw (no_postfix_seen room max_items (nested room) ts no_more) refl)

  bare_variable : (x : ℕ) → t.terminal ≡ Identifier x → unary room (nested room) (t ∷ ts) ≡ Ok (Variable (record { name = x; place = t.place }), ts)
  unfolding unary primary choose bind if_sees
  bare_variable x is = rw is (rw no_call (rw (no_postfix_seen room max_items (nested room) ts no_more) refl))

module _ (room below : ℕ) (t : Symbol) (ts : List Symbol) (alone : is_continued below ts ≡ false) where
  no_call : sees signs.LeftParen ts ≡ false
  no_call = (or_parts (sees signs.LeftParen ts) ((sees signs.LeftBracket ts || sees signs.Arrow ts) || is_some (level_at 0 below (next ts))) alone).0

  no_more : (sees signs.LeftBracket ts || sees signs.Arrow ts ≡ false) × (is_some (level_at 0 below (next ts)) ≡ false)
  no_more = or_parts (sees signs.LeftBracket ts || sees signs.Arrow ts) (is_some (level_at 0 below (next ts)))
      (or_parts (sees signs.LeftParen ts) ((sees signs.LeftBracket ts || sees signs.Arrow ts) || is_some (level_at 0 below (next ts))) alone).1

  number : (n : ℕ) → t.terminal ≡ terminals.Number n → operand room (nested room) below (t ∷ ts) ≡ Ok (Number t.place n, ts)
  number n is = operand_ends room below (Number t.place n) (t ∷ ts) ts (bare_number room t ts no_call no_more.0 n is) (none_from_is_some (level_at 0 below (next ts)) no_more.1)

  variable : (x : ℕ) → t.terminal ≡ Identifier x → operand room (nested room) below (t ∷ ts) ≡ Ok (Variable (record { name = x; place = t.place }), ts)
  variable x is = operand_ends room below (Variable (record { name = x; place = t.place })) (t ∷ ts) ts (bare_variable room t ts no_call no_more.0 x is) (none_from_is_some (level_at 0 below (next ts)) no_more.1)

terminal_of : Terminal → Option Terminal → Terminal
terminal_of t None = t
terminal_of t (Some u) = u

pub lone_number : (room below n : ℕ) (ts us : List Symbol) (p : Place) → next ts ≡ Some (terminals.Number n) → advance ts ≡ Ok (p, us) → is_continued below (following ts) ≡ false → operand room (nested room) below ts ≡ Ok (Number p n, us)
unfolding terminal_of
lone_number room below n [] us p is taken alone = absurd (cc)
lone_number room below n (t ∷ ts) us p is taken alone = number room below t ts alone n (ap (terminal_of t.terminal) is) ∙ ap (λ (o : Outcome Place). and_then o (λ q vs. Ok (Number q n, vs))) taken

pub lone_variable : (room below x : ℕ) (ts us : List Symbol) (p : Place) → next ts ≡ Some (Identifier x) → advance ts ≡ Ok (p, us) → is_continued below (following ts) ≡ false → operand room (nested room) below ts ≡ Ok (Variable (record { name = x; place = p }), us)
unfolding terminal_of
lone_variable room below x [] us p is taken alone = absurd (cc)
lone_variable room below x (t ∷ ts) us p is taken alone = variable room below t ts alone x (ap (terminal_of t.terminal) is) ∙ ap (λ (o : Outcome Place). and_then o (λ q vs. Ok (Variable (record { name = x; place = q }), vs))) taken

nothing_more : (ts : List Symbol) → not (has_more ts) ≡ true → (sees signs.LeftParen ts ≡ false) × (sees signs.LeftBracket ts || sees signs.Arrow ts ≡ false)
nothing_more ts h = or_parts (sees signs.LeftParen ts) (sees signs.LeftBracket ts || sees signs.Arrow ts) (none (has_more ts) h)
  where
    none : (b : Bool) → not b ≡ true → b ≡ false
    none true e = absurd (cc)
    none false e = refl

pub plain_number : (room n : ℕ) (ts us : List Symbol) (p : Place) → is_plain ts ≡ true → next ts ≡ Some (terminals.Number n) → advance ts ≡ Ok (p, us) → unary room (nested room) ts ≡ Ok (Number p n, us)
unfolding terminal_of
plain_number room n [] us p plain is taken = absurd (cc)
plain_number room n (t ∷ ts) us p plain is taken =
    let it : t.terminal ≡ terminals.Number n = ap (terminal_of t.terminal) is in
    let alone = nothing_more ts (subst (λ (u : Terminal). is_plain_before ts (Some u) ≡ true) it plain) in
    bare_number room t ts alone.0 alone.1 n it ∙ ap (λ (o : Outcome Place). and_then o (λ q vs. Ok (Number q n, vs))) taken

pub plain_variable : (room x : ℕ) (ts us : List Symbol) (p : Place) → is_plain ts ≡ true → next ts ≡ Some (Identifier x) → advance ts ≡ Ok (p, us) → unary room (nested room) ts ≡ Ok (Variable (record { name = x; place = p }), us)
unfolding terminal_of
plain_variable room x [] us p plain is taken = absurd (cc)
plain_variable room x (t ∷ ts) us p plain is taken =
    let it : t.terminal ≡ Identifier x = ap (terminal_of t.terminal) is in
    let alone = nothing_more ts (subst (λ (u : Terminal). is_plain_before ts (Some u) ≡ true) it plain) in
    bare_variable room t ts alone.0 alone.1 x it ∙ ap (λ (o : Outcome Place). and_then o (λ q vs. Ok (Variable (record { name = x; place = q }), vs))) taken

pub field_is_postfix : (room : ℕ) (ts : List Symbol) → sees signs.LeftBracket ts ≡ false → one_field (suc room) ts ≡ one_postfix room (nested room) ts
unfolding if_sees
field_is_postfix room ts h = rw h refl
