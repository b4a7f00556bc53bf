-- A list of symbols has at most one tree that keeps the limits on nesting and list length, because the parser returns each such tree.
use Rattle.std.specs.Prelude.{◌≡◌, Bool, true, false, cond, nat_lt, List, [], ◌∷◌, Ok, Err}
use Rattle.std.specs.List.{AllByRecursion}
use Rattle.std.proofs.Common.{sym, ◌∙◌, ap, refl}
use Rattle.cyc_words.proofs.Numbers.{le-nat_lt}
use Rattle.cyc_syntax.specs.Symbols.{Symbol}
use Rattle.cyc_syntax.specs.Trees.{Declaration}
use Rattle.cyc_syntax.specs.Yields.{Yield}
use Rattle.cyc_syntax.specs.Yields as yields
use Rattle.cyc_syntax.specs.Grammar.{HasTree, IsWithin, IsWithinLimits, max_nesting, max_items}
use Rattle.cyc_parse.specs.inside.Parsing.{Outcome, Refusal, TooDeep, TooLong}
use Rattle.cyc_parse.proofs.Rules.{judge}
use Rattle.cyc_parse.proofs.Completeness.{program_of-complete}

-- If all leaves of a yield keep the limits on nesting and list length, then checking the leaves against the limits
-- does not change an outcome.
pub judge-within : {A : Type 0} (leaves : Yield) (ts : List Symbol) (outcome : Outcome A) → AllByRecursion IsWithin leaves → judge leaves ts outcome ≡ outcome
judge-within [] ts outcome all = refl
judge-within (l ∷ ls) [] outcome all = refl
judge-within (l ∷ ls) (t ∷ ts) outcome (one, more) = rw (le-nat_lt max_nesting l.nesting one.nesting, le-nat_lt max_items l.item one.item) (judge-within ls ts outcome more)

-- If a conditional expression gives either a rejection or an outcome, and its value is a success, then this outcome is that success.
chosen : {A : Type 0} (b : Bool) (e : Refusal) (outcome : Outcome A) (y : A × List Symbol) → cond b (Err e) outcome ≡ Ok y → outcome ≡ Ok y
chosen true e outcome y h = cc
chosen false e outcome y h = h

judged_same : {A : Type 0} (leaves : Yield) (ts : List Symbol) (x y : A × List Symbol) → judge leaves ts (Ok x) ≡ Ok y → x ≡ y
judged_same [] ts x y h = cc
judged_same (l ∷ ls) [] x y h = cc
judged_same (l ∷ ls) (t ∷ ts) x y h =
    judged_same ls ts x y (chosen (nat_lt max_items l.item) (record { reason = TooLong; left = t ∷ ts }) _ y
    (chosen (nat_lt max_nesting l.nesting) (record { reason = TooDeep; left = t ∷ ts }) _ y h))

pub one_tree : (ts : List Symbol) (a b : List Declaration) → HasTree ts a → IsWithinLimits a → HasTree ts b → a ≡ b
one_tree ts a b has small other =
    ap (λ (p : List Declaration × List Symbol). p.0)
    (sym (judged_same (yields.program b) ts (b, []) (a, []) (sym (program_of-complete ts b other) ∙ (program_of-complete ts a has ∙ judge-within (yields.program a) ts (Ok (a, [])) small))))
