-- While a value is passed to a waiting evaluation step, as many arrays are being filled as there are slots for their loop counters. After
-- a statement no array is being filled.
use Rattle.std.proofs.Common.{length-append, ◌≡◌, ℕ, ◌+◌, Bool, true, false, List, [], ◌∷◌, length, Option, refl, arith, inl, inr}
use Rattle.std.specs.Prelude.{option_map, not}
use Rattle.cyc_types.specs.declared.typed.Kind.{Kind}
use Rattle.cyc_types.specs.declared.typed.Kind.TheVariants as kinds
use Rattle.cyc_types.specs.declared.typed.Callee.TheVariants as callees
use Rattle.cyc_types.specs.TypedTrees.{Expression, Convert, NoOperations, Program}
use Rattle.cyc_meaning.specs.Values.{is_thin, bytes_of_kind}
use Rattle.cyc_plain.specs.declared.instruction.Operand.{Operand}
use Rattle.cyc_plain.specs.declared.instruction.Operand.TheVariants as operands
use Rattle.cyc_plain.specs.inside.State.{Frame}
use Rattle.cyc_meaning.specs.State.{FreeObject, CloseByKey, PlaceBy, BesideHandle, CountElements, Index, Advance, ThrowWith, SwapLeft, SwapRight, Handler, ConvertTo, Operate, Chain, Apply, ApplyPointer, Follow, LoadFrom, Decide, Store, Pass, MakePlain, MakeFields}
use Rattle.cyc_meaning.specs.State.{MakeArray, FillElement, Initialise, Choose, Test, Return, Entry, Needs, NeedsPlace, Discard, Rest, Join, Loop, CloseRegion, EndLoan, CloseLexical, Caller, Main, FollowMember, TakeAddress, StoreTo, StoreCell, OpenBy, AliasOf}
use Rattle.cyc_lower_proof.specs.declared.exits.Exits.{Exits}
use Rattle.cyc_lower_proof.specs.inside.ValueCode.{reached_operand, followed_operand}
use Rattle.cyc_meaning.specs.Pointers.{result_kind as operator_kind}
use Rattle.cyc_lower_proof.proofs.slots.Widths.{chain_kind, made_kind}
use Rattle.cyc_lower_proof.proofs.relation.simulation.Stacks.{to_slot, to_jump, ValueStack, PlaceStack, DecidedStack, DroppedStack, AheadStack, StatementStack, LandsMade, called_at, top, code_of, bounds_at, types_on}
use Rattle.cyc_lower_proof.proofs.relation.code.Tested.{tests_reach}
use Rattle.cyc_lower_proof.proofs.relation.contents.HeldValues.{held, height, counters_of, arrays_in}
use Rattle.cyc_lower_proof.proofs.relation.simulation.Matched.{by_lands, by_hands, by_prints}
use Rattle.cyc_meaning.specs.Operators.{unary_kind}
use Rattle.cyc_types.specs.declared.typed.UnaryOperator.TheVariants as unary

abbrev AllCount : List Entry → Type 0
AllCount k = arrays_in k ≡ length (counters_of 0 k)

fill_counts : (object count index level : ℕ) (wanted : Kind) (a : Expression) (k : List Entry) → AllCount k → AllCount (Needs (FillElement object count index level wanted a) ∷ k)
fill_counts object count index level wanted a k counts = omega (arith, counts, length-append (counters_of 0 k) ((height 0 (held k) + 2) ∷ []))

module _ (source : Program) where
  mutual
    value_arrays : (g : ℕ) (locals : ℕ → Option ℕ) (kind : Kind) (o : Operand) (p : ℕ) (frames : List Frame) (k : List Entry) → ValueStack source g locals kind o p frames k → AllCount k
    value_arrays g locals kind o p frames [] stack = absurd stack
    value_arrays g locals kind o p frames (Needs (ConvertTo from to target) ∷ k) (inl (d, is, at, lands)) =
        by_lands source lands (λ stack. value_arrays g locals kinds.Char (operands.Slot d) (p + 1) frames k stack) (λ stack. ahead_arrays g locals kinds.Char d (p + 1) frames k stack)
    value_arrays g locals kind o p frames (Needs (ConvertTo from to target) ∷ k) (inr (q, whole, at, stack)) = value_arrays g locals to o q frames k stack
    value_arrays g locals kind o p frames (Needs (Operate unary.Widen) ∷ k) stack = value_arrays g locals kinds.Int o p frames k stack
    value_arrays g locals kind o p frames (Needs (Operate u) ∷ k) (to_slot (d, at, lands)) =
        by_lands source lands (λ stack. value_arrays g locals (unary_kind u) (operands.Slot d) (p + 1) frames k stack) (λ stack. ahead_arrays g locals (unary_kind u) d (p + 1) frames k stack)
    value_arrays g locals kind o p frames (Needs (Operate u) ∷ k) (to_jump (is, (f, h, fork, first, second))) = decided_arrays g false f frames k first
    value_arrays g locals kind o p frames (Needs (Chain NoOperations) ∷ k) stack = value_arrays g locals kind o p frames k stack
    value_arrays g locals kind o p frames (Needs (Chain os) ∷ k) (low, to_slot (d, q, at, lands)) =
        by_lands source lands (λ stack. value_arrays g locals (chain_kind kind os) (operands.Slot d) q frames k stack) (λ stack. ahead_arrays g locals (chain_kind kind os) d q frames k stack)
    value_arrays g locals kind o p frames (Needs (Chain os) ∷ k) (low, to_jump (inl (failing, r, q, at, (f, h, fork, first, second)))) = decided_arrays g true f frames k first
    value_arrays g locals kind o p frames (Needs (Chain os) ∷ k) (low, to_jump (inr (f, h, fork, first, second))) =
        tests_reach (code_of source g) (bounds_at source g) (types_on source g k) (λ fails q stack. decided_arrays g fails q frames k stack) os true (top source g k) f first
    value_arrays g locals kind o p frames (Needs (Apply u left) ∷ k) (to_slot (d, q, at, lands)) =
        by_lands source lands (λ stack. value_arrays g locals kinds.Int (operands.Slot d) q frames k stack) (λ stack. ahead_arrays g locals kinds.Int d q frames k stack)
    value_arrays g locals kind o p frames (Needs (Apply u left) ∷ k) (to_jump (failing, is, (f, h, fork, first, second))) = decided_arrays g true f frames k first
    value_arrays g locals kind o p frames (Needs (ApplyPointer peek u left) ∷ k) (to_slot (d, q, at, lands)) =
        by_lands source lands (λ stack. value_arrays g locals (operator_kind u) (operands.Slot d) q frames k stack) (λ stack. ahead_arrays g locals (operator_kind u) d q frames k stack)
    value_arrays g locals kind o p frames (Needs (ApplyPointer peek u left) ∷ k) (to_jump (failing, is, (f, h, fork, first, second))) = decided_arrays g true f frames k first
    value_arrays g locals kind o p frames (Needs CountElements ∷ k) (fat, d, q, at, lands) =
        by_lands source lands (λ stack. value_arrays g locals kinds.Int (operands.Slot d) q frames k stack) (λ stack. ahead_arrays g locals kinds.Int d q frames k stack)
    value_arrays g locals kind o p frames (Needs Decide ∷ k) (to_jump (f, h, fork, first, second)) = decided_arrays g true f frames k first
    value_arrays g locals kind o p frames (Needs Decide ∷ k) (to_slot (d, q, is, at, lands)) =
        by_lands source lands (λ stack. value_arrays g locals kinds.Int (operands.Slot d) q frames k stack) (λ stack. ahead_arrays g locals kinds.Int d q frames k stack)
    value_arrays g locals kind o p frames (Needs (Store place) ∷ k) (l, to, q, at, is, hands) =
        by_hands source hands (λ stack. dropped_arrays g q frames k stack) (λ stack. value_arrays g locals kind to q frames k stack)
        (λ d r lands. by_lands source lands (λ stack. value_arrays g locals kind (operands.Slot d) r frames k stack) (λ stack. ahead_arrays g locals kind d r frames k stack))
    value_arrays g locals kind o p frames (Needs (StoreCell peek place) ∷ k) (q, at, hands) =
        by_hands source hands (λ stack. dropped_arrays g q frames k stack) (λ stack. value_arrays g locals kind o q frames k stack)
        (λ d r lands. by_lands source lands (λ stack. value_arrays g locals kind (operands.Slot d) r frames k stack) (λ stack. ahead_arrays g locals kind d r frames k stack))
    value_arrays g locals kind o p frames (Needs (Pass callees.Putchar before cs) ∷ k) (none, single, at, prints) =
        by_prints source prints (λ stack. dropped_arrays g (p + 1) frames k stack)
        (λ d lands. by_lands source lands (λ stack. value_arrays g locals kinds.Int (operands.Slot d) (p + 1 + 1) frames k stack) (λ stack. ahead_arrays g locals kinds.Int d (p + 1 + 1) frames k stack))
    value_arrays g locals kind o p frames (Needs (Pass callees.Getchar before cs) ∷ k) (d, m, q, all, is, at, call, long, lands) =
        by_lands source lands (λ stack. value_arrays g locals kinds.Int (operands.Slot d) q frames k stack) (λ stack. ahead_arrays g locals kinds.Int d q frames k stack)
    value_arrays g locals kind o p frames (Needs (Pass (callees.Function n) before cs) ∷ k) (d, m, q, all, is, at, call, long, lands) =
        by_lands source lands (λ stack. value_arrays g locals (called_at source g (callees.Function n)) (operands.Slot d) q frames k stack) (λ stack. ahead_arrays g locals (called_at source g (callees.Function n)) d q frames k stack)
    value_arrays g locals kind o p frames (Needs (PlaceBy initial) ∷ k) (d, q, is, at, lands) =
        by_lands source lands (λ stack. value_arrays g locals (made_kind initial) (operands.Slot d) q frames k stack) (λ stack. ahead_arrays g locals (made_kind initial) d q frames k stack)
    value_arrays g locals kind o p frames (Needs (BesideHandle region) ∷ k) stack = value_arrays g locals kind o p frames k stack
    value_arrays g locals kind o p frames (Needs (MakePlain owner wanted) ∷ k) (handle, d, q, owned, is, at, lands) =
        by_lands source lands (λ stack. value_arrays g locals kinds.NonNull (operands.Slot d) q frames k stack) (λ stack. ahead_arrays g locals kinds.NonNull d q frames k stack)
    value_arrays g locals kind o p frames (Needs (MakeFields owner before cs) ∷ k) (handle, d, m, q, all, owned, is, at_cs, at, long, lands) =
        by_lands source lands (λ stack. value_arrays g locals kinds.NonNull (operands.Slot d) q frames k stack) (λ stack. ahead_arrays g locals kinds.NonNull d q frames k stack)
    value_arrays g locals kind o p frames (Needs (MakeArray owner level wanted a) ∷ k) (handle, d, h, r, s, q, owned, is, begun, level_is, at, lands) =
        by_lands source lands (λ stack. value_arrays g locals kinds.Fat (operands.Slot d) q frames k stack) (λ stack. ahead_arrays g locals kinds.Fat d q frames k stack)
    value_arrays g locals kind o p frames (Needs (FillElement object count index level wanted a) ∷ k) (d, h, s, q, is, inside, few, level_is, at, lands) =
        fill_counts object count index level wanted a k (by_lands source lands (λ stack. value_arrays g locals kinds.Fat (operands.Slot d) q frames k stack) (λ stack. ahead_arrays g locals kinds.Fat d q frames k stack))
    value_arrays g locals kind o p frames (Needs (Initialise n wanted items) ∷ k) (exits, q, at, below, of_type, items_at, stack) = statement_arrays g exits q frames k stack
    value_arrays g locals kind o p frames (Needs (Choose s t) ∷ k) (f, h, fork, (exits, q, at_t, stack), second) = statement_arrays g exits q frames k stack
    value_arrays g locals kind o p frames (Needs (Test a s) ∷ k) (f, h, fork, (outer, q, comes, stack), second) = statement_arrays g outer q frames k stack
    value_arrays g locals kind o p frames (Needs Return ∷ k) (exits, q, s, r, is, leave, at, one, stack) = statement_arrays g exits q frames k stack
    value_arrays g locals kind o p frames (Needs (Follow pointer target) ∷ k) (q, low, at, place) = place_arrays g locals (followed_operand (is_thin pointer) (option_map bytes_of_kind target) o (top source g k)) 0 q frames k place
    value_arrays g locals kind o p frames (Needs (Index peek target i) ∷ k) (inl (x, m, q, there, at, sum, reached, place)) =
        place_arrays g locals (reached_operand (option_map bytes_of_kind target) (top source g k) (top source g k)) 0 q frames k place
    value_arrays g locals kind o p frames (Needs (Index peek target i) ∷ k) (inr (n, x, m, q, there, low, simple, at, sum, reached, place)) =
        place_arrays g locals (reached_operand (option_map bytes_of_kind target) n (top source g k)) 0 q frames k place
    value_arrays g locals kind o p frames (Needs (Advance peek target pointer) ∷ k) (q, sum, reached, place) =
        place_arrays g locals (reached_operand (option_map bytes_of_kind target) (top source g k) (top source g k)) 0 q frames k place
    value_arrays g locals kind o p frames (Needs (FollowMember pointer fields field) ∷ k) (c, q, thin, check, inside, is, place) = place_arrays g locals o c q frames k place
    value_arrays g locals kind o p frames (Discard ∷ k) (exits, stack) = statement_arrays g exits p frames k stack
    value_arrays g locals kind o p frames (Needs FreeObject ∷ k) (d, q, freed, lands) =
        by_lands source lands (λ stack. value_arrays g locals kinds.Int (operands.Slot d) q frames k stack) (λ stack. ahead_arrays g locals kinds.Int d q frames k stack)
    value_arrays g locals kind o p frames (Needs CloseByKey ∷ k) (d, q, at, end, lands) =
        by_lands source lands (λ stack. value_arrays g locals kinds.Int (operands.Slot d) q frames k stack) (λ stack. ahead_arrays g locals kinds.Int d q frames k stack)
    value_arrays g locals kind o p frames (Needs (ThrowWith tag) ∷ k) (exits, q, small, at, stack) = statement_arrays g exits q frames k stack
    value_arrays g locals kind o p frames (Needs (OpenBy number lent items) ∷ k) (exits, m, q, named, items_at, stack) = statement_arrays g exits q frames k stack
    value_arrays g locals kind o p frames (Needs (AliasOf number lent items) ∷ k) (exits, m, q, named, items_at, stack) = statement_arrays g exits q frames k stack
    value_arrays g locals kind o p frames (entry ∷ k) stack = absurd stack

    place_arrays : (g : ℕ) (locals : ℕ → Option ℕ) (o : Operand) (c p : ℕ) (frames : List Frame) (k : List Entry) → PlaceStack source g locals o c p frames k → AllCount k
    place_arrays g locals o c p frames (NeedsPlace (LoadFrom cell) ∷ k) (d, q, at, lands) =
        by_lands source lands (λ stack. value_arrays g locals cell (operands.Slot d) q frames k stack) (λ stack. ahead_arrays g locals cell d q frames k stack)
    place_arrays g locals o c p frames (NeedsPlace TakeAddress ∷ k) (d, q, at, lands) =
        by_lands source lands (λ stack. value_arrays g locals kinds.NonNull (operands.Slot d) q frames k stack) (λ stack. ahead_arrays g locals kinds.NonNull d q frames k stack)
    place_arrays g locals o c p frames (NeedsPlace (StoreTo peek (Convert from to a)) ∷ k) (x, s, u, q, at, at_a, store, hands) =
        by_hands source hands (λ stack. dropped_arrays g q frames k stack) (λ stack. value_arrays g locals to x q frames k stack)
        (λ d r lands. by_lands source lands (λ stack. value_arrays g locals to (operands.Slot d) r frames k stack) (λ stack. ahead_arrays g locals to d r frames k stack))
    place_arrays g locals o c p frames (NeedsPlace (SwapLeft kind peek right) ∷ k) (exits, x, m, r, q, has, address, side, exchange, stack) = statement_arrays g exits q frames k stack
    place_arrays g locals o c p frames (NeedsPlace (SwapRight kind peek is_cell left) ∷ k) (exits, a, y, m, q, has, is, address, exchange, stack) = statement_arrays g exits q frames k stack
    place_arrays g locals o c p frames k place = absurd place

    decided_arrays : (g : ℕ) (fails : Bool) (p : ℕ) (frames : List Frame) (k : List Entry) → DecidedStack source g fails p frames k → AllCount k
    decided_arrays g fails p frames (Needs (Chain os) ∷ k) stack =
        tests_reach (code_of source g) (bounds_at source g) (types_on source g k) (λ after q stack. decided_arrays g after q frames k stack) os fails (top source g k) p stack
    decided_arrays g fails p frames (Needs Decide ∷ k) stack = decided_arrays g fails p frames k stack
    decided_arrays g fails p frames (Needs (Operate unary.Not) ∷ k) stack = decided_arrays g (not fails) p frames k stack
    decided_arrays g true p frames (Needs (Choose s t) ∷ k) (exits, q, at_t, stack) = statement_arrays g exits q frames k stack
    decided_arrays g false p frames (Needs (Choose s t) ∷ k) (exits, m, q, at_s, comes, stack) = statement_arrays g exits q frames k stack
    decided_arrays g true p frames (Needs (Test a s) ∷ k) (outer, q, comes, stack) = statement_arrays g outer q frames k stack
    decided_arrays g false p frames (Needs (Test a s) ∷ k) (exits, outer, m, q, at, is, stack) = statement_arrays g outer q frames k stack
    decided_arrays g fails p frames k stack = absurd stack

    dropped_arrays : (g p : ℕ) (frames : List Frame) (k : List Entry) → DroppedStack source g p frames k → AllCount k
    dropped_arrays g p frames (Discard ∷ k) (exits, stack) = statement_arrays g exits p frames k stack
    dropped_arrays g p frames k stack = absurd stack

    ahead_arrays : (g : ℕ) (locals : ℕ → Option ℕ) (kind : Kind) (n p : ℕ) (frames : List Frame) (k : List Entry) → AheadStack source g locals kind n p frames k → AllCount k
    ahead_arrays g locals kind n p frames (Needs (ConvertTo from to target) ∷ k) (quiet, whole, wide, stack) = ahead_arrays g locals to n p frames k stack
    ahead_arrays g locals kind n p frames (Needs (Operate unary.Widen) ∷ k) (one, stack) = ahead_arrays g locals kinds.Int n p frames k stack
    ahead_arrays g locals kind n p frames (Needs (Chain NoOperations) ∷ k) stack = ahead_arrays g locals kind n p frames k stack
    ahead_arrays g locals kind n p frames (Needs (BesideHandle region) ∷ k) stack = ahead_arrays g locals kind n p frames k stack
    ahead_arrays g locals kind n p frames (Needs (Store place) ∷ k) (number, object, is, found, same, room, hands) =
        by_hands source hands (λ stack. dropped_arrays g p frames k stack) (λ stack. value_arrays g locals kind (operands.Slot n) p frames k stack)
        (λ d r lands. by_lands source lands (λ stack. value_arrays g locals kind (operands.Slot d) r frames k stack) (λ stack. ahead_arrays g locals kind d r frames k stack))
    ahead_arrays g locals kind n p frames (Needs (Initialise number wanted items) ∷ k) (exits, q, is, few, of_type, items_at, stack) = statement_arrays g exits q frames k stack
    ahead_arrays g locals kind n p frames k stack = absurd stack

    statement_arrays : (g : ℕ) (exits : Exits) (p : ℕ) (frames : List Frame) (k : List Entry) → StatementStack source g exits p frames k → arrays_in k ≡ 0
    statement_arrays g exits p frames (Rest js ∷ k) (q, at, stack) = statement_arrays g exits q frames k stack
    statement_arrays g exits p frames (Join ∷ k) (q, at, stack) = statement_arrays g exits q frames k stack
    statement_arrays g exits p frames (Loop a s ∷ k) (outer, q, at, stack) = statement_arrays g outer q frames k stack
    statement_arrays g exits p frames (CloseRegion r h ∷ k) (q, at, stack) = statement_arrays g exits q frames k stack
    statement_arrays g exits p frames (Handler handler ∷ k) (outer, q, is, leave, jump, stack) = statement_arrays g outer q frames k stack
    statement_arrays g exits p frames (CloseLexical region ∷ k) (outer, q, is, closing, stack) = statement_arrays g outer q frames k stack
    statement_arrays g exits p frames (EndLoan lent ∷ k) stack = statement_arrays g exits p frames k stack
    statement_arrays g exits p frames (Caller e ∷ k) stack = refl
    statement_arrays g exits p [] (Main ∷ []) (s, at, outside, last) = refl
    statement_arrays g exits p (f ∷ frames) (Main ∷ k) (s, at, outside, last) = absurd last
    statement_arrays g exits p [] (Main ∷ entry ∷ k) (s, at, outside, last) = absurd last
    statement_arrays g exits p frames k stack = absurd stack

  pub lands_arrays : (g : ℕ) (locals : ℕ → Option ℕ) (kind : Kind) (d p : ℕ) (frames : List Frame) (k : List Entry) → LandsMade source g locals kind d p frames k → arrays_in k ≡ length (counters_of 0 k)
  lands_arrays g locals kind d p frames k lands = by_lands source lands (λ stack. value_arrays g locals kind (operands.Slot d) p frames k stack) (λ stack. ahead_arrays g locals kind d p frames k stack)
