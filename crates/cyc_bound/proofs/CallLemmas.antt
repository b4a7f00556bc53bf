-- Lemmas about chains of calls (each function calls the next one) and about lists of the functions that a function calls.
use Rattle.std.proofs.Common.{◌≡◌, ℕ, suc, ◌≤◌, List, [], ◌∷◌, Option, Some, subst, sym, arith}
use Rattle.std.specs.Prelude.{slice_get, Contains}
use Rattle.cyc_words.proofs.Members.{all_from_members}
use Rattle.cyc_types.specs.TypedTrees.{Function, Program}
use Rattle.cyc_meaning.specs.State.{Entry, Needs, NeedsPlace, Discard, Rest, Join, Loop, CloseRegion, CloseLexical, EndLoan, Handler, Caller, Main, calls_in}
use Rattle.cyc_bound.specs.Callees.{items_callees}
use Rattle.cyc_bound.specs.Bound.{callees_of, Calls, Row, Alone, Before}
use Rattle.cyc_bound.specs.inside.UnderWay.{AreOf, Waits}

-- ---- chains of calls

module _ (program : Program) where
  -- a chain of calls can be extended by a callee of its last function
  pub following : (first last next count : ℕ) → Row program first last count → Calls program last next → Row program first next (suc count)
  following first last next count (Alone function) call = Before function next next 1 call (Alone next)
  following first last next count (Before f g l n here row) call = Before f g next (suc n) here (following g l next n row call)

  -- the number of active calls is at most the number of functions in a chain of calls from `main` to the newest call
  pub row_of : (function : ℕ) (stack : List Entry) → Waits program function stack → (count : ℕ) × Row program program.main function count × (calls_in stack ≤ count)
  row_of function [] h = (1, subst (λ (f : ℕ). Row program program.main f 1) (sym h) (Alone program.main), omega arith)
  row_of function (Caller outer ∷ stack) (caller, call, h) =
      let (count, row, less) = row_of caller stack h in
      (suc count, following program.main caller function count row call, omega (arith, less))
  row_of function (Main ∷ []) h = (1, subst (λ (f : ℕ). Row program program.main f 1) (sym h) (Alone program.main), omega arith)
  row_of function (Main ∷ entry ∷ stack) h = absurd h
  row_of function (Needs a ∷ stack) h = row_of function stack h.1
  row_of function (NeedsPlace a ∷ stack) h = row_of function stack h.1
  row_of function (Discard ∷ stack) h = row_of function stack h.1
  row_of function (Rest items ∷ stack) h = row_of function stack h.1
  row_of function (Join ∷ stack) h = row_of function stack h.1
  row_of function (Loop condition body ∷ stack) h = row_of function stack h.1
  row_of function (CloseRegion region home ∷ stack) h = row_of function stack h.1
  row_of function (CloseLexical region ∷ stack) h = row_of function stack h.1
  row_of function (EndLoan lent ∷ stack) h = row_of function stack h.1
  row_of function (Handler handler ∷ stack) h = row_of function stack h.1

-- ---- callees of a function

-- a function calls exactly the functions in the list of callees that is computed from the calls in its body
pub body_is_of : (program : Program) (function : ℕ) (h : Function) → slice_get program.functions function ≡ Some h → AreOf program function (items_callees h.body)
body_is_of program function h there =
    all_from_members (λ (callee : ℕ). Calls program function callee) (items_callees h.body) (λ callee k. subst (λ (o : Option Function). Contains (callees_of o) callee) (sym there) k)
