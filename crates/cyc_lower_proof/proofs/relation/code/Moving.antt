-- Stores through pointers change slots of waiting calls, but neither their return points nor the slots after their locals. Hence stores
-- through pointers preserve the facts about the control stack and its code.
use Rattle.std.proofs.Common.{◌≡◌, ℕ, Bool, true, false, suc, ◌+◌, ◌≤◌, ◌<◌, List, [], ◌∷◌, length, Option, Some, refl, sym, ap, subst, arith, inl, inr, zero, set, slice_get, option_map}
use Rattle.std.specs.Prelude.{option_map, not}
use Rattle.cyc_types.specs.declared.typed.Kind.{Kind}
use Rattle.cyc_types.specs.declared.typed.Kind.TheVariants as kinds
use Rattle.cyc_types.specs.declared.typed.Callee.TheVariants as callees
use Rattle.cyc_types.specs.TypedTrees.{Expression, Convert, NoOperations, Statement, Program, Clauses}
use Rattle.cyc_meaning.specs.Values.{is_thin, words_of_kind, bytes_of_kind}
use Rattle.cyc_plain.specs.declared.instruction.Comparison.TheVariants as comparisons
use Rattle.cyc_plain.specs.declared.instruction.Operand.{Operand}
use Rattle.cyc_plain.specs.declared.instruction.Operand.TheVariants as operands
use Rattle.cyc_plain.specs.declared.instruction.Instruction.{Instruction}
use Rattle.cyc_plain.specs.inside.State as plain
use Rattle.cyc_plain.specs.inside.State.{Frame, Words, put}
use Rattle.cyc_meaning.specs.State.{FreeObject, CloseByKey, PlaceBy, BesideHandle, CountElements, Index, Advance, ThrowWith, SwapLeft, SwapRight, Handler, ConvertTo, Operate, Chain, Apply, ApplyPointer, Follow, LoadFrom, Decide, Store, Pass, MakePlain, MakeFields}
use Rattle.cyc_meaning.specs.State.{MakeArray, FillElement, Initialise, Choose, Test, Return, Entry, Needs, NeedsPlace, Discard, Rest, Join, Loop, CloseRegion, EndLoan, CloseLexical, Caller, Main, FollowMember, TakeAddress, StoreTo, StoreCell, OpenBy, AliasOf}
use Rattle.cyc_lower_proof.specs.declared.exits.Exits.{Exits}
use Rattle.cyc_lower_proof.specs.inside.ValueCode.{reached_operand, followed_operand}
use Rattle.cyc_meaning.specs.Pointers.{result_kind as operator_kind}
use Rattle.cyc_lower_proof.proofs.slots.Widths.{chain_kind, made_kind}
use Rattle.cyc_lower_proof.proofs.relation.simulation.Relation.{HandlersStand, CatchesAt}
use Rattle.cyc_lower_proof.proofs.relation.simulation.Stacks.{base_of, Lands, in_temporary, in_local, HandsOn, drops, leaves, copies, Prints, prints_only, gives_byte, to_slot, to_jump, ValueStack, PlaceStack, DecidedStack, ChosenAt, RepeatedAt, DroppedStack, AheadStack, StatementStack}
use Rattle.cyc_lower_proof.proofs.relation.simulation.Stacks.{called_at, returned_at, top, floor, code_of, bounds_at, types_on, LandsStack, LandsMade, HandsOnStack}
use Rattle.cyc_lower_proof.proofs.relation.contents.HandlerData.{handlers_same}
use Rattle.cyc_lower_proof.proofs.relation.code.Tested.{tests_go, forks_go}
use Rattle.cyc_plain.proofs.MemoryLaws.{with_slot_of}
use Rattle.cyc_plain.proofs.SlotLaws.{put-other}
use Rattle.std.proofs.lemmas.Option.{same_Some, none-some}
use Rattle.cyc_meaning.specs.Operators.{unary_kind}
use Rattle.cyc_types.specs.declared.typed.UnaryOperator.TheVariants as unary

-- Says that two lists of waiting calls are equal except for the words in the slots of their locals.
module _ (source : Program) where
  abbrev pub Like : List Frame → List Frame → Type 0
  Like [] [] = Unit {0}
  Like (f ∷ frames) (h ∷ others) =
      ((slots : Words) × (h ≡ record f { caller = record f.caller { slots = slots } }) × ((n : ℕ) → base_of source f.caller.function ≤ n → slots n ≡ f.caller.slots n)) × Like frames others
  Like frames others = ⊥

  pub like_same : (frames : List Frame) → Like frames frames
  like_same [] = tt
  like_same (f ∷ frames) = ((f.caller.slots, refl, (λ n least. refl)), like_same frames)

  -- Writing a word of a local leaves the waiting calls equal except for the words in the slots of their locals.
  pub like_set : (frames : List Frame) (i : ℕ) (f : Frame) (slot word : ℕ) → slice_get frames i ≡ Some f → slot < base_of source f.caller.function → Like frames (set frames i (with_slot_of f slot word))
  like_set [] i f slot word at below = absurd (none-some f at)
  like_set (h ∷ frames) zero f slot word at below =
      let same = same_Some h f at in (
        (
          put f.caller.slots slot word,
          ap (λ (x : Frame). let z : Frame = record x { caller = record x.caller { slots = put f.caller.slots slot word } } in z) (sym same),
          λ n least.
              subst (λ (x : Frame). base_of source x.caller.function ≤ n → put f.caller.slots slot word n ≡ x.caller.slots n) (sym same)
              (λ least. put-other f.caller.slots slot n word (λ equal. omega (arith, equal, below, least))) least,
        ),
        like_same frames,
      )
  like_set (h ∷ frames) (suc i) f slot word at below = ((h.caller.slots, refl, (λ n least. refl)), like_set frames i f slot word at below)

  -- Writing several words of a local leaves the waiting calls equal except for the words in the slots of their locals.
  pub like_slots : (frames : List Frame) (i : ℕ) (f : Frame) (slots : Words) → slice_get frames i ≡ Some f → ((n : ℕ) → base_of source f.caller.function ≤ n → slots n ≡ f.caller.slots n)
      → Like frames (set frames i (record f { caller = record f.caller { slots = slots } }))
  like_slots [] i f slots at same = absurd (none-some f at)
  like_slots (h ∷ frames) zero f slots at same =
      let equal = same_Some h f at in (
        (
          slots,
          ap (λ (x : Frame). let z : Frame = record x { caller = record x.caller { slots = slots } } in z) (sym equal),
          subst (λ (x : Frame). (n : ℕ) → base_of source x.caller.function ≤ n → slots n ≡ x.caller.slots n) (sym equal) same,
        ),
        like_same frames,
      )
  like_slots (h ∷ frames) (suc i) f slots at same = ((h.caller.slots, refl, (λ n least. refl)), like_slots frames i f slots at same)

  pub like_long : (frames others : List Frame) → Like frames others → length others ≡ length frames
  like_long [] [] like = refl
  like_long [] (h ∷ others) like = absurd like
  like_long (f ∷ frames) [] like = absurd like
  like_long (f ∷ frames) (h ∷ others) (one, like) = ap suc (like_long frames others like)

  -- ---- the control stack

  lands_move : {base free d words : ℕ} {temporary ahead later beyond : Type 0} → (temporary → later) → (ahead → beyond) → Lands source base free d words temporary ahead → Lands source base free d words later beyond
  lands_move first second (in_temporary least stack) = in_temporary least (first stack)
  lands_move first second (in_local below stack) = in_local below (second stack)

  hands_move : {code : List Instruction} {words : ℕ} {o : Operand} {p : ℕ} {dropped stays out keeps : Type 0} {comes goes : (d q : ℕ) → Type 0} → (dropped → out) → (stays → keeps) → ((d q : ℕ) → comes d q → goes d q)
      → HandsOn source code words o p dropped stays comes → HandsOn source code words o p out keeps goes
  hands_move first second third (drops stack) = drops (first stack)
  hands_move first second third (leaves stack) = leaves (second stack)
  hands_move first second third (copies d q at stack) = copies d q at (third d q stack)

  prints_move : {code : List Instruction} {o : Operand} {p : ℕ} {dropped out : Type 0} {comes goes : (d : ℕ) → Type 0} → (dropped → out) → ((d : ℕ) → comes d → goes d)
      → Prints source code o p dropped comes → Prints source code o p out goes
  prints_move first second (prints_only stack) = prints_only (first stack)
  prints_move first second (gives_byte d at stack) = gives_byte d at (second d stack)

  chosen_move : {waits others : Exits → ℕ → Type 0} → ((exits : Exits) (q : ℕ) → waits exits q → others exits q) → (g t : ℕ) (s u : Statement) (fails : Bool) (p : ℕ)
      → ChosenAt source g t s u waits fails p → ChosenAt source g t s u others fails p
  chosen_move leads g t s u true p (exits, q, at_u, stack) = (exits, q, at_u, leads exits q stack)
  chosen_move leads g t s u false p (exits, m, q, at_s, comes, stack) = (exits, m, q, at_s, comes, leads exits q stack)

  repeated_move : {waits others : Exits → ℕ → Type 0} → ((exits : Exits) (q : ℕ) → waits exits q → others exits q) → (g t : ℕ) (a : Expression) (s : Statement) (fails : Bool) (p : ℕ)
      → RepeatedAt source g t a s waits fails p → RepeatedAt source g t a s others fails p
  repeated_move leads g t a s true p (outer, q, comes, stack) = (outer, q, comes, leads outer q stack)
  repeated_move leads g t a s false p (exits, outer, m, q, at, is, stack) = (exits, outer, m, q, at, is, leads outer q stack)

  mutual
    pub value_moves : (g : ℕ) (locals : ℕ → Option ℕ) (kind : Kind) (o : Operand) (p : ℕ) (frames others : List Frame) → Like frames others → (k : List Entry) → ValueStack source g locals kind o p frames k → ValueStack source g locals kind o p others k
    value_moves g locals kind o p frames others like [] stack = absurd stack
    value_moves g locals kind o p frames others like (Needs (ConvertTo from to target) ∷ k) (inl (d, is, at, lands)) =
        inl (d, is, at, lands_move (λ stack. value_moves g locals kinds.Char (operands.Slot d) (p + 1) frames others like k stack) (λ stack. ahead_moves g locals kinds.Char d (p + 1) frames others like k stack) lands)
    value_moves g locals kind o p frames others like (Needs (ConvertTo from to target) ∷ k) (inr (q, whole, at, stack)) =
        inr (q, whole, at, value_moves g locals to o q frames others like k stack)
    value_moves g locals kind o p frames others like (Needs (Operate unary.Widen) ∷ k) stack = value_moves g locals kinds.Int o p frames others like k stack
    value_moves g locals kind o p frames others like (Needs (Operate u) ∷ k) (to_slot (d, at, lands)) =
        to_slot (d, at, lands_move (λ stack. value_moves g locals (unary_kind u) (operands.Slot d) (p + 1) frames others like k stack) (λ stack. ahead_moves g locals (unary_kind u) d (p + 1) frames others like k stack) lands)
    value_moves g locals kind o p frames others like (Needs (Operate u) ∷ k) (to_jump (is, stack)) =
        to_jump (is, forks_go (code_of source g) (bounds_at source g) (types_on source g k) (λ fails q stack. decided_moves g (not fails) q frames others like k stack) comparisons.Equal o (operands.Word 0) p stack)
    value_moves g locals kind o p frames others like (Needs (Chain NoOperations) ∷ k) stack = value_moves g locals kind o p frames others like k stack
    value_moves g locals kind o p frames others like (Needs (Chain os) ∷ k) (low, to_slot (d, q, at, lands)) =
        (low, to_slot (d, q, at, lands_move (λ stack. value_moves g locals (chain_kind kind os) (operands.Slot d) q frames others like k stack) (λ stack. ahead_moves g locals (chain_kind kind os) d q frames others like k stack) lands))
    value_moves g locals kind o p frames others like (Needs (Chain os) ∷ k) (low, to_jump (inl (failing, r, q, at, stack))) =
        (low, to_jump (inl (failing, r, q, at, forks_go (code_of source g) (bounds_at source g) (types_on source g k) (λ fails s stack. decided_moves g fails s frames others like k stack) failing o r q stack)))
    value_moves g locals kind o p frames others like (Needs (Chain os) ∷ k) (low, to_jump (inr stack)) = (
      low,
      to_jump (inr (forks_go (code_of source g) (bounds_at source g) (types_on source g k)
          (λ fails q at. tests_go (code_of source g) (bounds_at source g) (types_on source g k) (λ after s stack. decided_moves g after s frames others like k stack) os fails (top source g k) q at) comparisons.Equal o (operands.Word 0) p stack)),
    )
    value_moves g locals kind o p frames others like (Needs (Apply u left) ∷ k) (to_slot (d, q, at, lands)) =
        to_slot (d, q, at, lands_move (λ stack. value_moves g locals kinds.Int (operands.Slot d) q frames others like k stack) (λ stack. ahead_moves g locals kinds.Int d q frames others like k stack) lands)
    value_moves g locals kind o p frames others like (Needs (Apply u left) ∷ k) (to_jump (failing, is, stack)) =
        to_jump (failing, is, forks_go (code_of source g) (bounds_at source g) (types_on source g k) (λ fails q stack. decided_moves g fails q frames others like k stack) failing (operands.Slot (top source g k)) o p stack)
    value_moves g locals kind o p frames others like (Needs (ApplyPointer peek u left) ∷ k) (to_slot (d, q, at, lands)) =
        to_slot (d, q, at, lands_move (λ stack. value_moves g locals (operator_kind u) (operands.Slot d) q frames others like k stack) (λ stack. ahead_moves g locals (operator_kind u) d q frames others like k stack) lands)
    value_moves g locals kind o p frames others like (Needs (ApplyPointer peek u left) ∷ k) (to_jump (failing, is, stack)) =
        to_jump (failing, is, forks_go (code_of source g) (bounds_at source g) (types_on source g k) (λ fails q stack. decided_moves g fails q frames others like k stack) failing (operands.Slot (top source g k)) o p stack)
    value_moves g locals kind o p frames others like (Needs CountElements ∷ k) (fat, d, q, at, lands) =
        (fat, d, q, at, lands_move (λ stack. value_moves g locals kinds.Int (operands.Slot d) q frames others like k stack) (λ stack. ahead_moves g locals kinds.Int d q frames others like k stack) lands)
    value_moves g locals kind o p frames others like (Needs Decide ∷ k) (to_jump stack) =
        to_jump (forks_go (code_of source g) (bounds_at source g) (types_on source g k) (λ fails q stack. decided_moves g fails q frames others like k stack) comparisons.Equal o (operands.Word 0) p stack)
    value_moves g locals kind o p frames others like (Needs Decide ∷ k) (to_slot (d, q, is, at, lands)) =
        to_slot (d, q, is, at, lands_move (λ stack. value_moves g locals kinds.Int (operands.Slot d) q frames others like k stack) (λ stack. ahead_moves g locals kinds.Int d q frames others like k stack) lands)
    value_moves g locals kind o p frames others like (Needs (Store place) ∷ k) (l, to, q, at, is, hands) =
        (l, to, q, at, is, hands_move (λ stack. dropped_moves g q frames others like k stack) (λ stack. value_moves g locals kind to q frames others like k stack) (λ d r lands. lands_move (λ stack. value_moves g locals kind (operands.Slot d) r frames others like k stack) (λ stack. ahead_moves g locals kind d r frames others like k stack) lands) hands)
    value_moves g locals kind o p frames others like (Needs (StoreCell peek place) ∷ k) (q, at, hands) =
        (q, at, hands_move (λ stack. dropped_moves g q frames others like k stack) (λ stack. value_moves g locals kind o q frames others like k stack) (λ d r lands. lands_move (λ stack. value_moves g locals kind (operands.Slot d) r frames others like k stack) (λ stack. ahead_moves g locals kind d r frames others like k stack) lands) hands)
    value_moves g locals kind o p frames others like (Needs (Pass callees.Putchar before cs) ∷ k) (none, single, at, prints) =
        (none, single, at, prints_move (λ stack. dropped_moves g (p + 1) frames others like k stack) (λ d lands. lands_move (λ stack. value_moves g locals kinds.Int (operands.Slot d) (p + 1 + 1) frames others like k stack) (λ stack. ahead_moves g locals kinds.Int d (p + 1 + 1) frames others like k stack) lands) prints)
    value_moves g locals kind o p frames others like (Needs (Pass callees.Getchar before cs) ∷ k) (d, m, q, all, is, at, call, long, lands) =
        (d, m, q, all, is, at, call, long, lands_move (λ stack. value_moves g locals kinds.Int (operands.Slot d) q frames others like k stack) (λ stack. ahead_moves g locals kinds.Int d q frames others like k stack) lands)
    value_moves g locals kind o p frames others like (Needs (Pass (callees.Function n) before cs) ∷ k) (d, m, q, all, is, at, call, long, lands) =
        (d, m, q, all, is, at, call, long, lands_move (λ stack. value_moves g locals (called_at source g (callees.Function n)) (operands.Slot d) q frames others like k stack) (λ stack. ahead_moves g locals (called_at source g (callees.Function n)) d q frames others like k stack) lands)
    value_moves g locals kind o p frames others like (Needs (PlaceBy initial) ∷ k) (d, q, is, at, lands) =
        (d, q, is, at, lands_move (λ stack. value_moves g locals (made_kind initial) (operands.Slot d) q frames others like k stack) (λ stack. ahead_moves g locals (made_kind initial) d q frames others like k stack) lands)
    value_moves g locals kind o p frames others like (Needs (BesideHandle region) ∷ k) stack = value_moves g locals kind o p frames others like k stack
    value_moves g locals kind o p frames others like (Needs (MakePlain owner wanted) ∷ k) (handle, d, q, owned, is, at, lands) =
        (handle, d, q, owned, is, at, lands_move (λ stack. value_moves g locals kinds.NonNull (operands.Slot d) q frames others like k stack) (λ stack. ahead_moves g locals kinds.NonNull d q frames others like k stack) lands)
    value_moves g locals kind o p frames others like (Needs (MakeFields owner before cs) ∷ k) (handle, d, m, q, all, owned, is, at_cs, at, long, lands) =
        (handle, d, m, q, all, owned, is, at_cs, at, long, lands_move (λ stack. value_moves g locals kinds.NonNull (operands.Slot d) q frames others like k stack) (λ stack. ahead_moves g locals kinds.NonNull d q frames others like k stack) lands)
    value_moves g locals kind o p frames others like (Needs (MakeArray owner level wanted a) ∷ k) (handle, d, h, r, s, q, owned, is, begun, level_is, at, lands) =
        (handle, d, h, r, s, q, owned, is, begun, level_is, at, lands_move (λ stack. value_moves g locals kinds.Fat (operands.Slot d) q frames others like k stack) (λ stack. ahead_moves g locals kinds.Fat d q frames others like k stack) lands)
    value_moves g locals kind o p frames others like (Needs (FillElement object count index level wanted a) ∷ k) (d, h, s, q, is, inside, few, level_is, at, lands) =
        (d, h, s, q, is, inside, few, level_is, at, lands_move (λ stack. value_moves g locals kinds.Fat (operands.Slot d) q frames others like k stack) (λ stack. ahead_moves g locals kinds.Fat d q frames others like k stack) lands)
    value_moves g locals kind o p frames others like (Needs (Initialise n wanted items) ∷ k) (exits, q, at, below, of_type, items_at, stack) =
        (exits, q, at, below, of_type, items_at, statement_moves g exits q frames others like k stack)
    value_moves g locals kind o p frames others like (Needs (Choose s t) ∷ k) stack =
        forks_go (code_of source g) (bounds_at source g) (types_on source g k) (λ fails q at. chosen_move (λ exits r stack. statement_moves g exits r frames others like k stack) g (floor source g k) s t fails q at) comparisons.Equal o (operands.Word 0) p stack
    value_moves g locals kind o p frames others like (Needs (Test a s) ∷ k) stack =
        forks_go (code_of source g) (bounds_at source g) (types_on source g k) (λ fails q at. repeated_move (λ exits r stack. statement_moves g exits r frames others like k stack) g (floor source g k) a s fails q at) comparisons.Equal o (operands.Word 0) p stack
    value_moves g locals kind o p frames others like (Needs Return ∷ k) (exits, q, s, r, is, leave, at, one, stack) =
        (exits, q, s, r, is, leave, at, one, statement_moves g exits q frames others like k stack)
    value_moves g locals kind o p frames others like (Needs (Follow pointer target) ∷ k) (q, low, at, place) =
        (q, low, at, place_moves g locals (followed_operand (is_thin pointer) (option_map bytes_of_kind target) o (top source g k)) 0 q frames others like k place)
    value_moves g locals kind o p frames others like (Needs (Index peek target i) ∷ k) (inl (x, m, q, there, at, sum, reached, place)) =
        inl (x, m, q, there, at, sum, reached, place_moves g locals (reached_operand (option_map bytes_of_kind target) (top source g k) (top source g k)) 0 q frames others like k place)
    value_moves g locals kind o p frames others like (Needs (Index peek target i) ∷ k) (inr (n, x, m, q, there, low, simple, at, sum, reached, place)) =
        inr (n, x, m, q, there, low, simple, at, sum, reached, place_moves g locals (reached_operand (option_map bytes_of_kind target) n (top source g k)) 0 q frames others like k place)
    value_moves g locals kind o p frames others like (Needs (Advance peek target pointer) ∷ k) (q, sum, reached, place) =
        (q, sum, reached, place_moves g locals (reached_operand (option_map bytes_of_kind target) (top source g k) (top source g k)) 0 q frames others like k place)
    value_moves g locals kind o p frames others like (Needs (FollowMember pointer fields field) ∷ k) (c, q, thin, check, inside, is, place) =
        (c, q, thin, check, inside, is, place_moves g locals o c q frames others like k place)
    value_moves g locals kind o p frames others like (Discard ∷ k) (exits, stack) =
        (exits, statement_moves g exits p frames others like k stack)
    value_moves g locals kind o p frames others like (Needs FreeObject ∷ k) (d, q, freed, lands) =
        (d, q, freed, lands_move (λ stack. value_moves g locals kinds.Int (operands.Slot d) q frames others like k stack) (λ stack. ahead_moves g locals kinds.Int d q frames others like k stack) lands)
    value_moves g locals kind o p frames others like (Needs CloseByKey ∷ k) (d, q, at, end, lands) =
        (d, q, at, end, lands_move (λ stack. value_moves g locals kinds.Int (operands.Slot d) q frames others like k stack) (λ stack. ahead_moves g locals kinds.Int d q frames others like k stack) lands)
    value_moves g locals kind o p frames others like (Needs (ThrowWith tag) ∷ k) (exits, q, small, at, stack) =
        (exits, q, small, at, statement_moves g exits q frames others like k stack)
    value_moves g locals kind o p frames others like (Needs (OpenBy number lent items) ∷ k) (exits, m, q, named, items_at, stack) =
        (exits, m, q, named, items_at, statement_moves g exits q frames others like k stack)
    value_moves g locals kind o p frames others like (Needs (AliasOf number lent items) ∷ k) (exits, m, q, named, items_at, stack) =
        (exits, m, q, named, items_at, statement_moves g exits q frames others like k stack)
    value_moves g locals kind o p frames others like (entry ∷ k) stack = absurd stack

    pub place_moves : (g : ℕ) (locals : ℕ → Option ℕ) (o : Operand) (c p : ℕ) (frames others : List Frame) → Like frames others → (k : List Entry) → PlaceStack source g locals o c p frames k → PlaceStack source g locals o c p others k
    place_moves g locals o c p frames others like (NeedsPlace (LoadFrom cell) ∷ k) (d, q, at, lands) =
        (d, q, at, lands_move (λ stack. value_moves g locals cell (operands.Slot d) q frames others like k stack) (λ stack. ahead_moves g locals cell d q frames others like k stack) lands)
    place_moves g locals o c p frames others like (NeedsPlace TakeAddress ∷ k) (d, q, at, lands) =
        (d, q, at, lands_move (λ stack. value_moves g locals kinds.NonNull (operands.Slot d) q frames others like k stack) (λ stack. ahead_moves g locals kinds.NonNull d q frames others like k stack) lands)
    place_moves g locals o c p frames others like (NeedsPlace (StoreTo peek (Convert from to a)) ∷ k) (x, s, u, q, at, at_a, store, hands) =
        (x, s, u, q, at, at_a, store, hands_move (λ stack. dropped_moves g q frames others like k stack) (λ stack. value_moves g locals to x q frames others like k stack) (λ d r lands. lands_move (λ stack. value_moves g locals to (operands.Slot d) r frames others like k stack) (λ stack. ahead_moves g locals to d r frames others like k stack) lands) hands)
    place_moves g locals o c p frames others like (NeedsPlace (SwapLeft kind peek right) ∷ k) (exits, x, m, r, q, has, address, side, exchange, stack) =
        (exits, x, m, r, q, has, address, side, exchange, statement_moves g exits q frames others like k stack)
    place_moves g locals o c p frames others like (NeedsPlace (SwapRight kind peek is_cell left) ∷ k) (exits, a, y, m, q, has, is, address, exchange, stack) =
        (exits, a, y, m, q, has, is, address, exchange, statement_moves g exits q frames others like k stack)
    place_moves g locals o c p frames others like k place = absurd place

    pub decided_moves : (g : ℕ) (fails : Bool) (p : ℕ) (frames others : List Frame) → Like frames others → (k : List Entry) → DecidedStack source g fails p frames k → DecidedStack source g fails p others k
    decided_moves g fails p frames others like (Needs (Chain os) ∷ k) stack =
        tests_go (code_of source g) (bounds_at source g) (types_on source g k) (λ after q stack. decided_moves g after q frames others like k stack) os fails (top source g k) p stack
    decided_moves g fails p frames others like (Needs Decide ∷ k) stack = decided_moves g fails p frames others like k stack
    decided_moves g fails p frames others like (Needs (Operate unary.Not) ∷ k) stack = decided_moves g (not fails) p frames others like k stack
    decided_moves g fails p frames others like (Needs (Choose s t) ∷ k) stack = chosen_move (λ exits r waits. statement_moves g exits r frames others like k waits) g (floor source g k) s t fails p stack
    decided_moves g fails p frames others like (Needs (Test a s) ∷ k) stack = repeated_move (λ exits r waits. statement_moves g exits r frames others like k waits) g (floor source g k) a s fails p stack
    decided_moves g fails p frames others like k stack = absurd stack

    pub dropped_moves : (g p : ℕ) (frames others : List Frame) → Like frames others → (k : List Entry) → DroppedStack source g p frames k → DroppedStack source g p others k
    dropped_moves g p frames others like (Discard ∷ k) (exits, stack) =
        (exits, statement_moves g exits p frames others like k stack)
    dropped_moves g p frames others like k stack = absurd stack

    pub ahead_moves : (g : ℕ) (locals : ℕ → Option ℕ) (kind : Kind) (n p : ℕ) (frames others : List Frame) → Like frames others → (k : List Entry) → AheadStack source g locals kind n p frames k → AheadStack source g locals kind n p others k
    ahead_moves g locals kind n p frames others like (Needs (ConvertTo from to target) ∷ k) (quiet, whole, wide, stack) =
        (quiet, whole, wide, ahead_moves g locals to n p frames others like k stack)
    ahead_moves g locals kind n p frames others like (Needs (Operate unary.Widen) ∷ k) (one, stack) =
        (one, ahead_moves g locals kinds.Int n p frames others like k stack)
    ahead_moves g locals kind n p frames others like (Needs (Chain NoOperations) ∷ k) stack = ahead_moves g locals kind n p frames others like k stack
    ahead_moves g locals kind n p frames others like (Needs (BesideHandle region) ∷ k) stack = ahead_moves g locals kind n p frames others like k stack
    ahead_moves g locals kind n p frames others like (Needs (Store place) ∷ k) (number, object, is, found, same, room, hands) =
        (number, object, is, found, same, room, hands_move (λ stack. dropped_moves g p frames others like k stack) (λ stack. value_moves g locals kind (operands.Slot n) p frames others like k stack) (λ d r lands. lands_move (λ stack. value_moves g locals kind (operands.Slot d) r frames others like k stack) (λ stack. ahead_moves g locals kind d r frames others like k stack) lands) hands)
    ahead_moves g locals kind n p frames others like (Needs (Initialise number wanted items) ∷ k) (exits, q, is, few, of_type, items_at, stack) =
        (exits, q, is, few, of_type, items_at, statement_moves g exits q frames others like k stack)
    ahead_moves g locals kind n p frames others like k stack = absurd stack

    pub statement_moves : (g : ℕ) (exits : Exits) (p : ℕ) (frames others : List Frame) → Like frames others → (k : List Entry) → StatementStack source g exits p frames k → StatementStack source g exits p others k
    statement_moves g exits p frames others like (Rest js ∷ k) (q, at, stack) =
        (q, at, statement_moves g exits q frames others like k stack)
    statement_moves g exits p frames others like (Join ∷ k) (q, at, stack) =
        (q, at, statement_moves g exits q frames others like k stack)
    statement_moves g exits p frames others like (Loop a s ∷ k) (outer, q, at, stack) =
        (outer, q, at, statement_moves g outer q frames others like k stack)
    statement_moves g exits p frames others like (CloseRegion r h ∷ k) (q, at, stack) =
        (q, at, statement_moves g exits q frames others like k stack)
    statement_moves g exits p frames others like (Handler handler ∷ k) (outer, q, is, leave, jump, stack) =
        (outer, q, is, leave, jump, statement_moves g outer q frames others like k stack)
    statement_moves g exits p frames others like (CloseLexical region ∷ k) (outer, q, is, closing, stack) =
        (outer, q, is, closing, statement_moves g outer q frames others like k stack)
    statement_moves g exits p frames others like (EndLoan lent ∷ k) stack = statement_moves g exits p frames others like k stack
    statement_moves g exits p (f ∷ frames) (h ∷ others) like (Caller e ∷ k) (s, at, outside, lands) = (
      s,
      at,
      outside,
      subst (λ (x : Frame). Lands source (base_of source x.caller.function) (top source x.caller.function k) x.result (words_of_kind (returned_at source g))
          (ValueStack source x.caller.function e.locals (returned_at source g) (operands.Slot x.result) x.caller.next others k) (AheadStack source x.caller.function e.locals (returned_at source g) x.result x.caller.next others k)) (sym like.0.1)
          (lands_move
          (λ stack. value_moves f.caller.function e.locals (returned_at source g) (operands.Slot f.result) f.caller.next frames others like.1 k stack)
          (λ stack. ahead_moves f.caller.function e.locals (returned_at source g) f.result f.caller.next frames others like.1 k stack) lands),
    )
    statement_moves g exits p [] others like (Caller e ∷ k) (s, at, outside, lands) = absurd lands
    statement_moves g exits p (f ∷ frames) [] like (Caller e ∷ k) stack = absurd like
    statement_moves g exits p [] [] like (Main ∷ k) stack = stack
    statement_moves g exits p [] (h ∷ others) like (Main ∷ k) stack = absurd like
    statement_moves g exits p (f ∷ frames) others like (Main ∷ k) (s, at, outside, last) = absurd last
    statement_moves g exits p frames others like k stack = absurd stack

  pub lands_moves : (g : ℕ) (locals : ℕ → Option ℕ) (kind : Kind) (d p : ℕ) (frames others : List Frame) → Like frames others → (k : List Entry) → LandsStack source g locals kind d p frames k → LandsStack source g locals kind d p others k
  lands_moves g locals kind d p frames others like k lands =
      lands_move (λ stack. value_moves g locals kind (operands.Slot d) p frames others like k stack) (λ stack. ahead_moves g locals kind d p frames others like k stack) lands

  pub made_moves : (g : ℕ) (locals : ℕ → Option ℕ) (kind : Kind) (d p : ℕ) (frames others : List Frame) → Like frames others → (k : List Entry) → LandsMade source g locals kind d p frames k → LandsMade source g locals kind d p others k
  made_moves g locals kind d p frames others like k lands =
      lands_move (λ stack. value_moves g locals kind (operands.Slot d) p frames others like k stack) (λ stack. ahead_moves g locals kind d p frames others like k stack) lands

  pub hands_moves : (g : ℕ) (locals : ℕ → Option ℕ) (kind : Kind) (o : Operand) (p : ℕ) (frames others : List Frame) → Like frames others → (k : List Entry) → HandsOnStack source g locals kind o p frames k → HandsOnStack source g locals kind o p others k
  hands_moves g locals kind o p frames others like k hands =
      hands_move (λ stack. dropped_moves g p frames others like k stack) (λ stack. value_moves g locals kind o p frames others like k stack) (λ d q lands. lands_moves g locals kind d q frames others like k lands) hands

  -- ---- handler records

  caught_moves : (g : ℕ) (handler : Clauses) (index : ℕ) (frames others : List Frame) → Like frames others → (k : List Entry) → CatchesAt source g handler index frames k → CatchesAt source g handler index others k
  caught_moves g handler index frames others like k (exits, m, p, out, q, opens, restored, clauses_at, jump, stack) =
      (exits, m, p, out, q, opens, restored, clauses_at, jump, statement_moves g exits q frames others like k stack)

  pub handlers_move : (g : ℕ) (slots : Words) (handlers : List plain.Handler) (frames others : List Frame) → Like frames others → (k : List Entry) → HandlersStand source g slots handlers frames k → HandlersStand source g slots handlers others k
  handlers_move g slots handlers frames others like [] stand = absurd stand
  handlers_move g slots [] frames others like (Handler handler ∷ k) stand = absurd stand
  handlers_move g slots (plain.Caught ∷ handlers) frames others like (Handler handler ∷ k) stand = absurd stand
  handlers_move g slots (plain.Open index first contents ∷ handlers) frames others like (Handler handler ∷ k) (is, intact, kept, catches, rest) =
      (is, intact, kept, caught_moves g handler index frames others like k catches, handlers_move g slots handlers frames others like k rest)
  handlers_move g slots handlers [] others like (Caller e ∷ k) (none, rest) = absurd rest
  handlers_move g slots handlers (f ∷ frames) [] like (Caller e ∷ k) stand = absurd like
  handlers_move g slots handlers (f ∷ frames) (h ∷ others) like (Caller e ∷ k) (none, rest) = (
    none,
    subst (λ (x : Frame). HandlersStand source x.caller.function x.caller.slots x.caller.handlers others k) (sym like.0.1)
        (handlers_same source f.caller.function f.caller.slots like.0.0 f.caller.handlers others k (λ n from to. like.0.2 n from) (handlers_move f.caller.function f.caller.slots f.caller.handlers frames others like.1 k rest)),
  )
  handlers_move g slots handlers [] [] like (Main ∷ k) stand = stand
  handlers_move g slots handlers [] (h ∷ others) like (Main ∷ k) stand = absurd like
  handlers_move g slots handlers (f ∷ frames) others like (Main ∷ []) (none, last) = absurd last
  handlers_move g slots handlers (f ∷ frames) others like (Main ∷ entry ∷ k) (none, last) = absurd last
  handlers_move g slots handlers frames others like (CloseLexical region ∷ k) (marked, stand) = (marked, handlers_move g slots handlers frames others like k stand)
  handlers_move g slots handlers frames others like (entry ∷ k) stand = handlers_move g slots handlers frames others like k stand
