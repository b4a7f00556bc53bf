-- This file states the typing rule for `let alias` in terms of those properties of its scope that hold after its region is declared.
use Rattle.std.proofs.Common.{◌≡◌, ℕ, [], ◌∷◌, Option, None, refl, sym, ap, subst, ◌∙◌}
use Rattle.cyc_words.specs.declared.fault.Fault.{Fault}
use Rattle.cyc_syntax.specs.Symbols.{Place}
use Rattle.cyc_syntax.specs.Trees.{Named, WrittenType}
use Rattle.cyc_types.specs.declared.scope.Kind.TheVariants as kinds
use Rattle.cyc_types.specs.TypedTrees as typed
use Rattle.cyc_types.specs.Rules.{Rule, and_then, unless, settled, demands, run}
use Rattle.cyc_types.specs.typing.Scopes.{Scope, Meaning, Unknown, Variable, Fixed, Counter, Routine, meaning_of, is_declared, with_name, with_opened}
use Rattle.cyc_types.specs.typing.Formation.{type_demanded}
use Rattle.cyc_types.specs.typing.Statements.{new_name_demanded, aliased, rule_alias}
use Rattle.cyc_scope.specs.declared.stop.Stop.{Stop}
use Rattle.cyc_scope.specs.inside.Code.{Stops}
use Rattle.cyc_statements.specs.inside.Aliases.{alias_of}

-- The typing rule, in a given scope, for a `let alias`, which declares the local `x` so that it shares the object of the variable `y`.
abbrev alias_in : (s : Scope) (own : ℕ) (x : Named) → WrittenType → (y : Named) → Rule typed.Item
alias_in s own x w y = alias_of (is_declared s x) s.structs s.names s.next_local own x w (meaning_of s y) y.place

same_alias : (g : Scope) (r x : Named) (w : WrittenType) (m : Meaning) (p : Place)
    → alias_of (is_declared g x) g.structs (with_name r g).names g.next_local g.next_region x w m p ≡ aliased g r x w m p
same_alias g r x w Unknown p = refl
same_alias g r x w (Variable l t home) p = refl
same_alias g r x w (Fixed l t) p = refl
same_alias g r x w (Counter n) p = refl
same_alias g r x w (Routine f s) p = refl

following_region : (g : Scope) (r x : Named) (w : WrittenType) (y : Named) → settled None (new_name_demanded g r ∷ []) ≡ None
    → and_then (run (demands (type_demanded g.structs (with_name r g).names None w))) (λ u. run (alias_in (with_opened kinds.Alias r g) g.next_region x w y)) ≡ run (rule_alias g r w x y)
following_region g r x w y new =
    ap (λ (m : Rule typed.Item). and_then (run (demands (type_demanded g.structs (with_name r g).names None w))) (λ u. run m)) (same_alias g r x w (meaning_of g y) y.place)
    ∙ sym (ap (λ (o : Option Fault). and_then (unless o (tt {0})) (λ v. and_then (run (demands (type_demanded g.structs (with_name r g).names None w))) (λ u. run (aliased g r x w (meaning_of g y) y.place)))) new)

-- If a `let alias` has a new region name and a valid type, then a fault found after its region is declared is the whole
-- declaration's fault.
pub alias_stops : (g s : Scope) (own : ℕ) (r x : Named) (w : WrittenType) (y : Named) (e : Stop) → s ≡ with_opened kinds.Alias r g → own ≡ g.next_region
    → settled None (new_name_demanded g r ∷ []) ≡ None → settled None (type_demanded s.structs s.names None w) ≡ None → Stops e (run (alias_in s own x w y)) → Stops e (run (rule_alias g r w x y))
alias_stops g s own r x w y e opened number new known stops =
    subst (λ z. Stops e z) (following_region g r x w y new)
    (subst (λ q. Stops e (and_then (run (demands (type_demanded g.structs (with_name r g).names None w))) (λ u. run (alias_in (with_opened kinds.Alias r g) q x w y)))) number
    (subst (λ (z : Scope). Stops e (and_then (run (demands (type_demanded z.structs z.names None w))) (λ u. run (alias_in z own x w y)))) opened
    (subst (λ (o : Option Fault). Stops e (and_then (unless o (tt {0})) (λ u. run (alias_in s own x w y)))) (sym known) stops)))
