-- The code computes the set of regions that have a key among a function's types. The set of regions with a key
-- gives the same requirements and the same effect as the function's types themselves.
use Rattle.std.proofs.Common.{◌≡◌, ℕ, zero, suc, ◌-◌, ◌<◌, ◌+◌, Bool, true, false, cond, not, ◌&&◌, List, [], ◌∷◌, ◌++◌, Option, Some, None, refl, sym, ap, ◌∙◌, arith}
use Rattle.std.proofs.lemmas.List.{append_assoc}
use Rattle.cyc_words.specs.declared.fault.Code.TheVariants as codes
use Rattle.cyc_syntax.specs.Trees.{Named}
use Rattle.cyc_types.specs.declared.region.Region.{Region}
use Rattle.cyc_types.specs.declared.region.Region.TheVariants.{Unique, Variable}
use Rattle.cyc_types.specs.Types.{Ty}
use Rattle.cyc_types.specs.Rules.{Demand, demand}
use Rattle.cyc_types.specs.typing.Scopes.{RegionName}
use Rattle.cyc_types.specs.typing.Formation.{region_of, is_name_of, name_demanded}
use Rattle.cyc_types.specs.typing.DeclarationRules.{has_key, without_keys, effect_of, effect_demanded}
use Rattle.cyc_declarations.specs.declared.keys.Keys.{Keys}
use Rattle.cyc_declarations.specs.inside.KeyTables.{has, AreKeysOf, without, effect_by, effect_asked}

without_same : (k : Keys) (ts : List Ty) (m n : ℕ) → AreKeysOf k ts → without k m n ≡ without_keys ts m n
without_same k ts zero n h = refl
without_same k ts (suc m) n h =
    ap (λ (b : Bool). cond b (without k m (suc n)) (Variable n ∷ without k m (suc n))) (h (Variable n))
    ∙ ap (λ (rs : List Region). cond (has_key ts (Variable n)) rs (Variable n ∷ rs)) (without_same k ts m (suc n) h)

pub effect_same : (names : List RegionName) (k : Keys) (ts : List Ty) (n : ℕ) (e : Option (List Named)) → AreKeysOf k ts → effect_by names k n e ≡ effect_of names ts n e
effect_same names k ts n None h = without_same k ts n 1 h
effect_same names k ts n (Some rs) h = refl

pub asked_same : (names : List RegionName) (k : Keys) (ts : List Ty) (rs : List Named) → AreKeysOf k ts → effect_asked names k rs ≡ effect_demanded names ts rs
asked_same names k ts [] h = refl
asked_same names k ts (r ∷ rs) h =
    ap (λ (b : Bool). name_demanded names None r ∷ demand codes.RegionOrKeyMisused r.place (not (is_name_of names Unique r) && not b) ∷ effect_asked names k rs) (h (region_of names r))
    ∙ ap (λ (ds : List Demand). name_demanded names None r ∷ demand codes.RegionOrKeyMisused r.place (not (is_name_of names Unique r) && not (has_key ts (region_of names r))) ∷ ds) (asked_same names k ts rs h)

-- ---- the remaining region variables

next_left : (k : Keys) (count i : ℕ) (b : Bool) → i < count → has k (Variable (i + 1)) ≡ b
    → without k (count - i) (i + 1) ≡ cond b (without k (count - (i + 1)) (i + 1 + 1)) (Variable (i + 1) ∷ without k (count - (i + 1)) (i + 1 + 1))
next_left k count i b lt e =
    let left : count - i ≡ suc (count - (i + 1)) = omega (arith, lt) in
    let next : suc (i + 1) ≡ i + 1 + 1 = omega arith in
    ap (λ (m : ℕ). without k m (i + 1)) left
    ∙ ap (λ (n : ℕ). cond (has k (Variable (i + 1))) (without k (count - (i + 1)) n) (Variable (i + 1) ∷ without k (count - (i + 1)) n)) next
    ∙ ap (λ (a : Bool). cond a (without k (count - (i + 1)) (i + 1 + 1)) (Variable (i + 1) ∷ without k (count - (i + 1)) (i + 1 + 1))) e

pub one_without : (k : Keys) (count i : ℕ) (front whole : List Region) → i < count → has k (Variable (i + 1)) ≡ false → front ++ without k (count - i) (i + 1) ≡ whole
    → (front ++ Variable (i + 1) ∷ []) ++ without k (count - (i + 1)) (i + 1 + 1) ≡ whole
one_without k count i front whole lt e so_far =
    append_assoc front (Variable (i + 1) ∷ []) (without k (count - (i + 1)) (i + 1 + 1)) ∙ sym (ap (λ (rs : List Region). front ++ rs) (next_left k count i false lt e)) ∙ so_far

pub one_with : (k : Keys) (count i : ℕ) (front whole : List Region) → i < count → has k (Variable (i + 1)) ≡ true → front ++ without k (count - i) (i + 1) ≡ whole → front ++ without k (count - (i + 1)) (i + 1 + 1) ≡ whole
one_with k count i front whole lt e so_far = sym (ap (λ (rs : List Region). front ++ rs) (next_left k count i true lt e)) ∙ so_far
