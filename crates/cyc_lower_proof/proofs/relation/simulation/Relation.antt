-- This file defines the relation between a source state and a plain state while the plain program matches the source.
use Rattle.std.proofs.Common.{max, ◌≡◌, ◌⊎◌, ℕ, suc, ◌+◌, ◌*◌, ◌≤◌, ◌<◌, true, List, [], ◌∷◌, ◌++◌, length, Option, None, Some, ◌^◌, false, Bool}
use Rattle.cyc_words.specs.Word.{add_of, IsWord as IsNumber}
use Rattle.cyc_words.specs.Seen.{showing}
use Rattle.std.specs.Prelude.{if◌then◌else◌, option_map}
use Rattle.cyc_types.specs.declared.typed.Kind.{Kind}
use Rattle.cyc_types.specs.declared.typed.Kind.TheVariants as kinds
use Rattle.cyc_types.specs.declared.typed.UnaryOperator.TheVariants as unary
use Rattle.cyc_types.specs.declared.typed.Callee.TheVariants as callees
use Rattle.cyc_types.specs.Types.{Ty}
use Rattle.cyc_types.specs.TypedTrees.{Expression, Program, Side, Clauses}
use Rattle.cyc_store.specs.State.{StoreState}
use Rattle.cyc_store.specs.declared.range.TheConstants.{MOST_BLOCK_WORDS}
use Rattle.cyc_memory_relation.specs.inside.Tables.{Tables}
use Rattle.cyc_memory_relation.specs.inside.Words.{bytes_of_kinds, Is, Points, before}
use Rattle.cyc_memory_relation.specs.inside.Related.{scopes}
use Rattle.cyc_plain.specs.declared.instruction.Comparison.{Comparison}
use Rattle.cyc_plain.specs.inside.Operators.{compares}
use Rattle.cyc_plain.specs.declared.instruction.Operand.{Operand}
use Rattle.cyc_plain.specs.declared.instruction.Operand.TheVariants as operands
use Rattle.cyc_plain.specs.declared.instruction.Request.TheVariants as requests
use Rattle.cyc_plain.specs.declared.instruction.Instruction.TheVariants as instructions
use Rattle.cyc_plain.specs.declared.limits.TheConstants.{RECORD_WORDS}
use Rattle.cyc_plain.specs.inside.State.{Words, Activation, Frame, Configuration}
use Rattle.cyc_plain.specs.inside.Step.{operand_word, throws}
use Rattle.cyc_plain.specs.inside.State as plain
use Rattle.cyc_plain.specs.inside.Straight.{At}
use Rattle.cyc_meaning.specs.Values.{Fat, Thin, Operand as Kinded, kinds_of, words_of_kind, bytes_of_kind, words_for}
use Rattle.cyc_meaning.specs.Allocation.{writes_from, blanks_of}
use Rattle.cyc_meaning.specs.State.{World, Environment, Operate, Chain, Apply, ApplyPointer, Follow, Entry, Needs, CloseLexical, Handler, Caller, Main, calls_in, Focus, Evaluating}
use Rattle.cyc_meaning.specs.State.{Locating, Given, Executing, Proceeding, Calling, Entering, Binding, Writing, Beginning, Repeating, Breaking, Continuing, Returning, Throwing, State, Running, Ended, GivenPlace, Swapping, Naming, Catching, Advance}
use Rattle.cyc_meaning.specs.Operators.{is_zero}
use Rattle.cyc_meaning.specs.FrameCount.{words_of_all}
use Rattle.cyc_lower_proof.specs.declared.exits.Exits.{Exits}
use Rattle.cyc_lower_proof.specs.inside.Slots.{slot_of}
use Rattle.cyc_lower_proof.specs.inside.ValueCode.{move_of, reached_operand, unary_instruction}
use Rattle.cyc_lower_proof.specs.inside.ObjectCode.{right_slot}
use Rattle.cyc_lower_proof.specs.inside.ControlCode.{break_target, continue_target, outside_loops, null_failing, pointers_failing}
use Rattle.cyc_lower_proof.specs.inside.ExpressionCode.{are_simple, is_simple}
use Rattle.cyc_lower_proof.specs.inside.Lowering.{scopes_of}
use Rattle.cyc_lower_proof.proofs.slots.Widths.{Outside, HasLocal}
use Rattle.cyc_lower_proof.proofs.relation.code.Stands.{ElementsAt, PlaceAt, OperatorAt, ExpressionAt, OperationsAt, ValueAt, BranchesAt, CellsAt, ReachedAt}
use Rattle.cyc_lower_proof.proofs.relation.code.Statements.{DiscardedAt, StatementAt, ItemsAt, HasSide, ReadAt, WriteAt, ExchangeAt, ClausesAt, MarksAt, RestoredAt}
use Rattle.cyc_lower_proof.proofs.relation.contents.HeldValues.{IsIn, IsLow, IsParts, words_held, Holds, HoldsFrom, held, kept, counters_of, AreCounted, IsHandleOf, IsObject, scopes_in, MayBeOpen, callers, Newest, IsIntact, IsKept, left_by, handling, homes}
use Rattle.cyc_lower_proof.proofs.relation.simulation.Shared.{Shared, store_by, IsAhead}
use Rattle.cyc_lower_proof.proofs.relation.simulation.Stacks.{code_of, bounds_at, types_at, starts_at, types_on, starts_on, parameters_at, base_of, given_at, called_at, floor, opened_by, top, DataAt, Below, IsLast, IsSideAt, WritesAt, IsReturned}
use Rattle.cyc_lower_proof.proofs.relation.simulation.Stacks.{CallAt, ValueStack, PlaceStack, DecidedStack, DroppedStack, AheadStack, StatementStack, ConditionStack, LandsStack, LandsMade, PrintsStack, AppliedStack, AdvancesAt}

module _ (source : Program) where
  -- ---- the focus

  -- The value of the right operand is in a slot or constant of the plain program, and the left operand is still in its slot or
  -- constant. The code from position p on uses both operands, and then executes the waiting continuation frames. A right operand
  -- may become the left operand of the next operator, or the value of a chain of operators.
  abbrev pub BesideAt : Tables → (ℕ → Option ℕ) → (g : ℕ) → Operand → (p : ℕ) → Words → List Frame → List Entry → Type 0
  BesideAt t locals g o p slots frames (Needs (Apply operator left) ∷ k) =
      (l : Operand) × IsIn t left slots l × IsLow l (top source g k)
      × ((Holds t slots (floor source g k) (held k) × AppliedStack source g locals operator l o p frames k)
      ⊎ ((q : ℕ) × OperatorAt (code_of source g) (bounds_at source g) (types_on source g k) operator (top source g k) l o p q × BesideAt t locals g (operands.Slot (top source g k)) q slots frames k))
  -- The next jump compares a pointer with null or with the right operand.
  BesideAt t locals g o p slots frames (Needs (ApplyPointer peek operator left) ∷ k) =
      (l : Operand) × (failing : Comparison) × IsIn t left slots l × IsLow l (top source g k) × Holds t slots (floor source g k) (held k)
      × (((null_failing operator ≡ Some failing) × ConditionStack source g failing l (operands.Word 0) p frames k)
      ⊎ ((pointers_failing operator ≡ Some failing) × ConditionStack source g failing l o p frames k))
  BesideAt t locals g o p slots frames (Needs (Advance peek target base) ∷ k) =
      (n : ℕ) × (q : ℕ) × Is t base.kind base.value slots n × (n ≤ top source g k) × Holds t slots (floor source g k) (held k)
      × AdvancesAt source g locals base.kind (option_map bytes_of_kind target) n o p q frames k
  BesideAt t locals g o p slots frames (Needs (Chain operations) ∷ k) =
      (q : ℕ) × IsLow o (top source g k) × (are_simple (starts_on source g k) operations ≡ true)
      × OperationsAt (code_of source g) (bounds_at source g) (types_on source g k) operations o (top source g k) (top source g k) p q × BesideAt t locals g (operands.Slot (top source g k)) q slots frames k
  BesideAt t locals g o p slots frames (Needs (Operate unary.Widen) ∷ k) = BesideAt t locals g o p slots frames k
  BesideAt t locals g o p slots frames (Needs (Operate operator) ∷ k) =
      At (code_of source g) p (unary_instruction operator (top source g k) o) × BesideAt t locals g (operands.Slot (top source g k)) (p + 1) slots frames k
  BesideAt t locals g o p slots frames k = ⊥

  -- Says that the code of a right operand whose evaluation has no effect is at p.
  abbrev pub RightAt : Tables → Expression → (ℕ → Option ℕ) → (g p : ℕ) → Words → List Frame → List Entry → Type 0
  RightAt t a locals g p slots frames k =
      (r : Operand) × (q : ℕ) × (is_simple (starts_on source g k) a ≡ true) × ValueAt (code_of source g) (bounds_at source g) (types_on source g k) a (top source g k) r p q × BesideAt t locals g r q slots frames k

  -- Says that the right operand of an operator has been evaluated.
  abbrev pub ReadyAt : Tables → Kinded → (ℕ → Option ℕ) → (g p : ℕ) → Words → List Frame → List Entry → Type 0
  ReadyAt t v locals g p slots frames k = (r : Operand) × IsIn t v slots r × BesideAt t locals g r p slots frames k

  -- Says that the code at p accesses a fat pointer whose index is in a separate slot from its other words.
  abbrev pub PartsAt : Tables → Kinded → (ℕ → Option ℕ) → (g p : ℕ) → Words → List Frame → List Entry → Type 0
  PartsAt t v locals g p slots frames (Needs (Follow pointer target) ∷ k) =
      (n : ℕ) × (m : ℕ) × (q : ℕ) × (pointer ≡ kinds.Fat) × IsParts t v.value slots n m × ((n ≤ top source g k) × (m < top source g k + 3)) × Holds t slots (floor source g k) (held k)
      × ReachedAt (code_of source g) (bounds_at source g) (types_on source g k) (option_map bytes_of_kind target) n m (top source g k) p q
      × PlaceStack source g locals (reached_operand (option_map bytes_of_kind target) n (top source g k)) 0 q frames k
  PartsAt t v locals g p slots frames k = ⊥

  -- Says that the code of an expression is at p; the cases differ in the destination of the expression's value.
  pub data EvaluatingAt (t : Tables) (a : Expression) (locals : ℕ → Option ℕ) (g p : ℕ) (slots : Words) (frames : List Frame) (k : List Entry) : Type 0 where
    as_operand : (o : Operand) → (q : ℕ) → ValueAt (code_of source g) (bounds_at source g) (types_on source g k) a (top source g k) o p q → Holds t slots (floor source g k) (held k)
        → ValueStack source g locals (given_at source g a) o q frames k → EvaluatingAt t a locals g p slots frames k
    into_slot : (d q : ℕ) → ExpressionAt (code_of source g) (bounds_at source g) (types_on source g k) a d (top source g k) p q → Holds t slots (floor source g k) (held k)
        → LandsStack source g locals (given_at source g a) d q frames k → EvaluatingAt t a locals g p slots frames k
    for_effect : (q : ℕ) → DiscardedAt (code_of source g) (bounds_at source g) (types_on source g k) a (top source g k) p q → Holds t slots (floor source g k) (held k)
        → DroppedStack source g q frames k → EvaluatingAt t a locals g p slots frames k
    as_right : RightAt t a locals g p slots frames k → EvaluatingAt t a locals g p slots frames k
    as_condition : (f h : ℕ) → BranchesAt (code_of source g) (bounds_at source g) (types_on source g k) a f h (top source g k) p → Holds t slots (floor source g k) (held k)
        → DecidedStack source g true f frames k → DecidedStack source g false h frames k → EvaluatingAt t a locals g p slots frames k

  abbrev pub FocusAt : Tables → Focus → List Entry → (ℕ → Option ℕ) → (g p : ℕ) → Words → List Frame → Type 0
  FocusAt t (Evaluating a) k locals g p slots frames = EvaluatingAt t a locals g p slots frames k
  FocusAt t (Locating x) k locals g p slots frames =
      (o : Operand) × (c : ℕ) × (q : ℕ) × PlaceAt (code_of source g) (bounds_at source g) (types_on source g k) x o c (top source g k) p q × Holds t slots (floor source g k) (held k)
      × PlaceStack source g locals o c q frames k
  FocusAt t (GivenPlace (Thin object offset)) k locals g p slots frames =
      (o : Operand) × (c : ℕ) × (operand_word slots o < 2 ^ 32) × Points t object offset (add_of (operand_word slots o) c) × Holds t slots (floor source g k) (held k)
      × PlaceStack source g locals o c p frames k
  FocusAt t (Executing s) k locals g p slots frames =
      (exits : Exits) × (q : ℕ) × StatementAt (code_of source g) (bounds_at source g) (types_at source g) s exits (floor source g k) p q × StatementStack source g exits q frames k
  FocusAt t (Calling callees.Putchar before) k locals g p slots frames =
      (v : Kinded) × (o : Operand) × (before ≡ v ∷ []) × IsIn t v slots o × Holds t slots (floor source g k) (held k) × PrintsStack source g locals o p frames k
  FocusAt t (Calling callee before) k locals g p slots frames =
      (d : ℕ) × (q : ℕ) × CallAt source g callee (words_held before) (top source g k) d p q × Holds t slots (floor source g k) (before ++ held k)
      × LandsStack source g locals (called_at source g callee) d q frames k
  FocusAt t (Entering h arguments) k locals g p slots frames =
      (m : ℕ) × ItemsAt (code_of source g) (bounds_at source g) (types_at source g) h.body outside_loops (floor source g k) p m × StatementStack source g outside_loops m frames k
      × HoldsFrom t slots 0 arguments × (parameters_at source g ≡ h.parameters)
  FocusAt t (Binding number types arguments body) k locals g p slots frames =
      (m : ℕ) × (first : List Ty) × ItemsAt (code_of source g) (bounds_at source g) (types_at source g) body outside_loops (floor source g k) p m × StatementStack source g outside_loops m frames k
      × HoldsFrom t slots (words_of_all first) arguments × (parameters_at source g ≡ first ++ types) × (length first ≡ number)
  FocusAt t (Writing writes (Some pointer)) k locals g p slots frames =
      (object : ℕ) × (done : List Kind) × (values : List Kinded) × (address : ℕ) × (slot : ℕ) × (d : ℕ) × (m : ℕ) × (q : ℕ)
      × (writes ≡ writes_from object (length done) values) × (pointer ≡ record { kind = kinds.NonNull; value = Thin object 0 })
      × IsObject t object (slots address) (done ++ kinds_of (blanks_of values)) × (length values ≤ words_held values) × (base_of source g ≤ address) × (base_of source g ≤ slot)
      × HoldsFrom t slots slot values × CellsAt (code_of source g) (bounds_at source g) (types_on source g k) (kinds_of (blanks_of values)) address (bytes_of_kinds done) slot p m
      × At (code_of source g) m (instructions.Move d (operands.Slot address)) × (m + 1 ≡ q)
      × Holds t slots (floor source g k) (held k) × LandsMade source g locals kinds.NonNull d q frames k
  FocusAt t (Beginning owner count level wanted element) k locals g p slots frames =
      (handle : Operand) × (d : ℕ) × (h : ℕ) × (r : ℕ) × (s : ℕ) × (q : ℕ) × IsHandleOf owner handle (top source g k) k
      × At (code_of source g) p (instructions.Ask (requests.Allocate (top source g k) handle (operands.Slot (top source g k + 3)))) × (p + 1 ≡ h)
      × (words_for (count * bytes_of_kind wanted) ≤ MOST_BLOCK_WORDS) × (slots (top source g k + 1) ≡ count) × (slots (top source g k + 2) ≡ 0) × (slots (top source g k + 3) ≡ max 1 (words_for (count * bytes_of_kind wanted)))
      × (level ≡ length (counters_of (floor source g k) k)) × ElementsAt (code_of source g) (bounds_at source g) (types_on source g k) element wanted (top source g k) d h r s q
      × Holds t slots (floor source g k) (held k) × LandsMade source g locals kinds.Fat d q frames k
  FocusAt t (Repeating object count index level wanted element) k locals g p slots frames =
      (d : ℕ) × (r : ℕ) × (s : ℕ) × (q : ℕ) × Is t kinds.Fat (Fat object 0 count index) slots (top source g k) × (index ≤ count) × (words_for (count * bytes_of_kind wanted) ≤ MOST_BLOCK_WORDS)
      × (level ≡ length (counters_of (floor source g k) k)) × ElementsAt (code_of source g) (bounds_at source g) (types_on source g k) element wanted (top source g k) d p r s q
      × Holds t slots (floor source g k) (held k) × LandsMade source g locals kinds.Fat d q frames k
  FocusAt t (Writing writes None) k locals g p slots frames =
      (exits : Exits) × (q : ℕ) × WritesAt source t locals g slots writes p q × StatementStack source g exits q frames k
  FocusAt t (Swapping kind (Thin object offset) (Thin other beside) None) k locals g p slots frames =
      (exits : Exits) × (q : ℕ) × (a : Side) × (b : Side) × HasSide (code_of source g) (bounds_at source g) (types_at source g) a kind × HasSide (code_of source g) (bounds_at source g) (types_at source g) b kind
      × IsSideAt source t locals slots a (floor source g k) object offset × IsSideAt source t locals slots b (right_slot a (floor source g k)) other beside
      × ExchangeAt (code_of source g) (bounds_at source g) (types_at source g) kind a b (floor source g k) p q × StatementStack source g exits q frames k
  FocusAt t (Swapping kind (Thin object offset) (Thin other beside) (Some before)) k locals g p slots frames =
      (exits : Exits) × (q : ℕ) × (a : Side) × (b : Side) × HasSide (code_of source g) (bounds_at source g) (types_at source g) a kind × HasSide (code_of source g) (bounds_at source g) (types_at source g) b kind
      × IsSideAt source t locals slots a (floor source g k) object offset × IsSideAt source t locals slots b (right_slot a (floor source g k)) other beside
      × (before.kind ≡ kind) × Is t before.kind before.value slots (floor source g k + 2)
      × ((m : ℕ) × (r : ℕ) × ReadAt (code_of source g) (bounds_at source g) (types_at source g) b kind (right_slot a (floor source g k)) (floor source g k + 2 + words_of_kind kind) p m
      × WriteAt (code_of source g) (bounds_at source g) (types_at source g) a kind (floor source g k) (floor source g k + 2 + words_of_kind kind) m r
      × WriteAt (code_of source g) (bounds_at source g) (types_at source g) b kind (right_slot a (floor source g k)) (floor source g k + 2) r q) × StatementStack source g exits q frames k
  FocusAt t (Naming number v items) k locals g p slots frames =
      (exits : Exits) × (q : ℕ) × (o : Operand) × At (code_of source g) p (move_of (words_of_kind v.kind) (slot_of (starts_at source g) number) o) × IsIn t v slots o
      × (number < length (types_at source g).locals) × HasLocal (types_at source g) number v.kind
      × ItemsAt (code_of source g) (bounds_at source g) (types_at source g) items exits (floor source g k) (p + 1) q × StatementStack source g exits q frames k
  FocusAt t (Catching tag value handler) k locals g p slots frames =
      (exits : Exits) × (out : ℕ) × (q : ℕ) × ClausesAt (code_of source g) (bounds_at source g) (types_at source g) handler out exits (floor source g k) p q × At (code_of source g) out (instructions.Jump q)
      × StatementStack source g exits q frames k × IsNumber tag × (slots (floor source g k) ≡ tag) × (slots (floor source g k + 1) ≡ value)
  FocusAt t Breaking k locals g p slots frames =
      (exits : Exits) × (q : ℕ) × At (code_of source g) p (instructions.Jump (break_target exits)) × StatementStack source g exits q frames k
  FocusAt t Continuing k locals g p slots frames =
      (exits : Exits) × (q : ℕ) × At (code_of source g) p (instructions.Jump (continue_target exits)) × StatementStack source g exits q frames k
  FocusAt t (Returning (Some v)) k locals g p slots frames =
      (exits : Exits) × (q : ℕ) × (s : ℕ) × At (code_of source g) p (instructions.Finish s) × Is t v.kind v.value slots s × IsReturned source g v.kind
      × StatementStack source g exits q frames k
  FocusAt t (Returning None) k locals g p slots frames =
      (exits : Exits) × (q : ℕ) × (s : ℕ) × At (code_of source g) p (instructions.Finish s) × StatementStack source g exits q frames k
  FocusAt t focus k locals g p slots frames = ⊥

  -- ---- states

  -- The condition on the loop counters of arrays and on the open lexical regions. It compares the number of regions that continuation
  -- frames close with the number that the source has open.
  abbrev pub ScopesBy : (closing : Option ℕ) → StoreState → (ended now : ℕ) → Type 0
  ScopesBy None store ended now = MayBeOpen (scopes_of source) ended
  ScopesBy (Some mark) store ended now = IsAhead (scopes_of source) store now

  abbrev pub CountsBy : (closing : Option ℕ) → Environment → List Entry → StoreState → (now : ℕ) → Type 0
  CountsBy closing e k store now = AreCounted e.counters k × ScopesBy closing store (scopes_in k) now

  -- The invariant that source run and plain run share, while lexical regions are being left and at all other times.
  abbrev pub SharedBy : (closing : Option ℕ) → (pages calls : ℕ) → List Entry → Environment → World → Configuration → Type 0
  SharedBy closing pages calls k e w c =
      Shared pages calls w (e.home ∷ homes k) (CountsBy closing e k c.store (scopes w.regions)) c.output c.input (store_by closing c.store (scopes w.regions)) (length c.frames)

  abbrev pub SharedAt : (pages calls : ℕ) → List Entry → Environment → World → Configuration → Type 0
  SharedAt pages calls k e w c = SharedBy None pages calls k e w c

  -- Says that a handler catches an exception at the code position `index`: the instruction at this position
  -- opened the handler. The code of the handler's clauses ends at the continuation.
  abbrev pub CatchesAt : (g : ℕ) → Clauses → (index : ℕ) → List Frame → List Entry → Type 0
  CatchesAt g handler index frames k =
      (exits : Exits) × (m : ℕ) × (p : ℕ) × (out : ℕ) × (q : ℕ) × At (code_of source g) index (instructions.Try (floor source g k) m)
      × RestoredAt (code_of source g) (bounds_at source g) (types_at source g) (scopes_of source) (floor source g k + RECORD_WORDS) m p
      × ClausesAt (code_of source g) (bounds_at source g) (types_at source g) handler out exits (floor source g k) p q × At (code_of source g) out (instructions.Jump q) × StatementStack source g exits q frames k

  -- Says that the plain machine has one open handler, with its record, for each handler frame of the running call and the waiting
  -- calls. For each lexical region, a slot saves the number of regions that were open before it.
  abbrev pub HandlersStand : (g : ℕ) → Words → List plain.Handler → List Frame → List Entry → Type 0
  HandlersStand g slots handlers frames [] = ⊥
  HandlersStand g slots handlers frames (Handler handler ∷ k) =
      Newest handlers (λ index first contents later. (first ≡ floor source g k) × IsIntact slots first contents × IsKept (scopes_of source) slots (floor source g k + RECORD_WORDS) (scopes_in k)
      × CatchesAt g handler index frames k × HandlersStand g slots later frames k)
  HandlersStand g slots handlers frames (Caller e ∷ k) =
      (handlers ≡ []) × Below source frames (λ f rest. HandlersStand f.caller.function f.caller.slots f.caller.handlers rest k)
  HandlersStand g slots handlers frames (Main ∷ k) = (handlers ≡ []) × IsLast source frames k
  HandlersStand g slots handlers frames (CloseLexical region ∷ k) = (slots (floor source g k) ≡ scopes_in k) × HandlersStand g slots handlers frames k
  HandlersStand g slots handlers frames (entry ∷ k) = HandlersStand g slots handlers frames k

  -- The facts about the data of the running call and the waiting calls, given the running call's slots and the continuation frames of
  -- its handlers.
  abbrev pub DataFor : Tables → (slots : Words) → (handled k : List Entry) → Environment → World → Configuration → Type 0
  DataFor t slots handled k e w c =
      DataAt source t c.active.function c.active.base w.objects e.locals (callers k) slots c.globals c.frames × HandlersStand c.active.function slots c.active.handlers c.frames handled

  abbrev pub DataIn : Tables → (slots : Words) → List Entry → Environment → World → Configuration → Type 0
  DataIn t slots k e w c = DataFor t slots k k e w c

  -- The facts about the data of all calls, except for the slots of one local: there the facts hold of
  -- earlier words instead of the words now in these slots.
  abbrev pub DataBut : Tables → (n words : ℕ) → List Entry → Environment → World → Configuration → Type 0
  DataBut t n words k e w c = (old : Words) × ((m : ℕ) → Outside n words m → old m ≡ c.active.slots m) × DataIn t old k e w c

  abbrev pub GoesOn : (pages calls : ℕ) → Focus → List Entry → Environment → World → Configuration → Type 0
  GoesOn pages calls focus k e w c =
      (shared : SharedAt pages calls k e w c) × DataFor shared.tables c.active.slots (handling focus k) k e w c
      × FocusAt shared.tables focus k e.locals c.active.function c.active.next c.active.slots c.frames

  -- Holds if a branch jumps to this code position.
  abbrev pub LeadsTo : Configuration → (p : ℕ) → Type 0
  LeadsTo c p =
      (comparison : Comparison) × (l : Operand) × (r : Operand) × (target : ℕ) × At (code_of source c.active.function) c.active.next (instructions.Branch comparison l r target)
      × ((if compares comparison (operand_word c.active.slots l) (operand_word c.active.slots r) then target else c.active.next + 1) ≡ p)

  -- Says where a value is when it is passed to the newest continuation frame. A value that is only tested has no slot: the plain program is
  -- before the branch on the value. The plain program takes this branch when the next operand is evaluated or a statement is chosen.
  pub data GivenAt (t : Tables) (v : Kinded) (k : List Entry) (e : Environment) (w : World) (c : Configuration) : Type 0 where
    in_operand : (o : Operand) → DataIn t c.active.slots k e w c → IsIn t v c.active.slots o
        → Holds t c.active.slots (floor source c.active.function k) (kept k) → ValueStack source c.active.function e.locals v.kind o c.active.next c.frames k → GivenAt t v k e w c
    nowhere : DataIn t c.active.slots k e w c → DroppedStack source c.active.function c.active.next c.frames k → GivenAt t v k e w c
    ahead : (n : ℕ) → DataBut t n (words_of_kind v.kind) k e w c → Is t v.kind v.value c.active.slots n
        → Holds t c.active.slots (floor source c.active.function k) (kept k) → AheadStack source c.active.function e.locals v.kind n c.active.next c.frames k → GivenAt t v k e w c
    decided : (fails : Bool) → (p : ℕ) → DataIn t c.active.slots k e w c → is_zero v.value ≡ Some fails → Holds t c.active.slots (floor source c.active.function k) (held k)
        → LeadsTo c p → DecidedStack source c.active.function fails p c.frames k → GivenAt t v k e w c
    with_left : DataIn t c.active.slots k e w c → ReadyAt t v e.locals c.active.function c.active.next c.active.slots c.frames k → GivenAt t v k e w c
    in_parts : DataIn t c.active.slots k e w c → PartsAt t v e.locals c.active.function c.active.next c.active.slots c.frames k → GivenAt t v k e w c

  -- Relates a source run that continues without a value to a plain run: after a statement, or after a call without a result. If a value
  -- is required, then the next step of the source is a fault.
  pub data ProceedingAt (t : Tables) (k : List Entry) (e : Environment) (w : World) (c : Configuration) : Type 0 where
    following_statement : (exits : Exits) → DataIn t c.active.slots k e w c → StatementStack source c.active.function exits c.active.next c.frames k → ProceedingAt t k e w c
    following_call : (kind : Kind) → (o : Operand) → DataIn t c.active.slots k e w c → ValueStack source c.active.function e.locals kind o c.active.next c.frames k → ProceedingAt t k e w c
    following_wrong : (kind : Kind) → (n : ℕ) → calls_in k ≡ suc (length c.frames) → AheadStack source c.active.function e.locals kind n c.active.next c.frames k → ProceedingAt t k e w c

  -- An exception reaches the newest handler by one instruction, or ends the plain program, while the source removes its
  -- continuation frames one by one. The plain program stays at the throw until the source reaches the handler. The newest handler
  -- was opened by the call whose continuation frames the source removes (`a`), or by one of the waiting calls (`rest`).
  abbrev pub CaughtBy : Activation → List Frame → List Entry → Type 0
  CaughtBy a rest [] = (a.handlers ≡ []) × (rest ≡ [])
  CaughtBy a rest (entry ∷ k) = HandlersStand a.function a.slots a.handlers rest (entry ∷ k)

  abbrev pub Throws : (pages calls : ℕ) → (tag value : ℕ) → List Entry → Environment → World → Configuration → Type 0
  Throws pages calls tag value k e w c =
      (shared : SharedBy (scopes_of source) pages calls k e w c) × (calls_in k ≤ calls) × IsNumber tag
      × (x : Operand) × (o : Operand) × At (code_of source c.active.function) c.active.next (instructions.Throw x o) × (operand_word c.active.slots x ≡ tag) × (operand_word c.active.slots o ≡ value)
      × (a : Activation) × (rest : List Frame) × (length rest ≤ length c.frames) × (throws c tag value c.active c.frames ≡ throws c tag value a rest)
      × DataAt source shared.tables a.function a.base w.objects e.locals (callers k) a.slots c.globals rest × CaughtBy a rest k

  -- Continuation frames are left, and lexical regions among them. The plain program closes all of these regions in the step in which the
  -- source leaves the outermost one. Until then the plain program is before the closing instruction, and a slot holds the number of
  -- regions that stay open.
  abbrev pub IsMark : Option ℕ → Words → (many : ℕ) → Type 0
  IsMark None slots many = Unit {0}
  IsMark (Some mark) slots many = slots mark ≡ many

  abbrev pub Leaves : (loop : Bool) → (closing : Option ℕ) → (pages calls : ℕ) → Focus → List Entry → Environment → World → Configuration → Type 0
  Leaves loop closing pages calls focus k e w c =
      (shared : SharedBy closing pages calls k e w c) × DataFor shared.tables c.active.slots (left_by loop k) k e w c
      × (r : ℕ) × MarksAt (code_of source c.active.function) (bounds_at source c.active.function) (types_at source c.active.function) closing c.active.next r
      × IsMark closing c.active.slots (scopes_in (left_by loop k)) × FocusAt shared.tables focus k e.locals c.active.function r c.active.slots c.frames

  abbrev pub Related : (pages calls : ℕ) → Focus → List Entry → Environment → World → Configuration → Type 0
  Related pages calls (Throwing tag value) k e w c = Throws pages calls tag value k e w c
  Related pages calls Breaking k e w c = Leaves true (opened_by source true c.active.function k).mark pages calls Breaking k e w c
  Related pages calls Continuing k e w c = Leaves true (opened_by source true c.active.function k).mark pages calls Continuing k e w c
  Related pages calls (Returning v) k e w c = Leaves false (opened_by source false c.active.function k).mark pages calls (Returning v) k e w c
  Related pages calls (Given v) k e w c = (shared : SharedAt pages calls k e w c) × GivenAt shared.tables v k e w c
  Related pages calls Proceeding k e w c = (shared : SharedAt pages calls k e w c) × ProceedingAt shared.tables k e w c
  Related pages calls focus k e w c = GoesOn pages calls focus k e w c

  abbrev pub Matches : (pages calls : ℕ) → State → plain.State → Type 0
  Matches pages calls (Running focus k e w) (plain.Running c) = Related pages calls focus k e w c
  Matches pages calls (Ended ending output input) (plain.Ended same same_output same_input) = (same ≡ ending) × (showing same_output same_input ≡ showing output input)
  Matches pages calls s t = ⊥
