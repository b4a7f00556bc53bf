-- This file says where the code of statements is in the code of a function. The code positions at which the pieces of code of
-- a statement begin are existentially quantified.
use Rattle.std.proofs.Common.{◌≡◌, ℕ, ◌+◌, ◌<◌, List, Option, None, Some}
use Rattle.cyc_words.specs.Word.{IsWord}
use Rattle.cyc_types.specs.declared.typed.Kind.{Kind}
use Rattle.cyc_types.specs.declared.typed.Kind.TheVariants as kinds
use Rattle.cyc_types.specs.declared.typed.Callee.TheVariants as callees
use Rattle.cyc_types.specs.TypedTrees.{Local, Global, Expression, Call, Assign, Converted, Convert, Statement, Block, Empty, Evaluate, If, While, Return, Break, Continue, Items, NoItems, MoreItems, Execute, Declare, Store}
use Rattle.cyc_types.specs.TypedTrees.{Side, VariableSide, CellSide, Swap, Throw, Try, Clauses, NoClauses, Default, Case, DeclareRegion, OpenRegion, DeclareAlias, DeclareKey}
use Rattle.cyc_types.specs.typing.Expressions.{type_of_side}
use Rattle.cyc_types.specs.Numbered.{Numbering}
use Rattle.cyc_plain.specs.declared.limits.TheConstants.{RECORD_WORDS}
use Rattle.cyc_plain.specs.declared.instruction.Operand.{Operand}
use Rattle.cyc_plain.specs.declared.instruction.Operand.TheVariants as operands
use Rattle.cyc_plain.specs.declared.instruction.Request.TheVariants as requests
use Rattle.cyc_plain.specs.declared.instruction.Instruction.{Instruction}
use Rattle.cyc_plain.specs.declared.instruction.Instruction.TheVariants as instructions
use Rattle.cyc_plain.specs.inside.Straight.{At}
use Rattle.cyc_meaning.specs.Values.{words_of_kind, kind_of}
use Rattle.cyc_lower_proof.specs.declared.exits.Exits.{Exits}
use Rattle.cyc_lower_proof.specs.declared.exits.Opened.{Opened}
use Rattle.cyc_lower_proof.specs.inside.Slots.{Types, starts_of, slot_of, global_of}
use Rattle.cyc_lower_proof.specs.inside.ValueCode.{move_of, span_of, kind_passed}
use Rattle.cyc_lower_proof.specs.inside.ObjectCode.{right_slot, load_at}
use Rattle.cyc_lower_proof.specs.inside.ControlCode.{break_target, continue_target, inside_loop, inside_try, after_record_in, tag_operand, other_jump, goes_on, inside_region}
use Rattle.cyc_lower_proof.specs.inside.ExpressionCode.{operand_of, source_of}
use Rattle.cyc_lower_proof.specs.inside.Lowering.{results_of}
use Rattle.cyc_lower_proof.proofs.slots.Widths.{kind_of_result, HasRoom, HasGlobal, HasLocal}
use Rattle.cyc_lower_proof.proofs.relation.code.Stands.{EachAt, GlobalAt, AddressAt, OverAt, BlankAt, OperandBy, ReturnedAt, ConversionAt, LoadAt, StoresAt, ExpressionAt, PlaceAt, InitialAt, PrintedAt, BroughtAt, ValueAt, BranchesAt, EntryAt, AssignmentAt, StoredAt}

-- States what instructions must be at the code positions from p to q, in a function with the bounds `bounds` on indices, the
-- local types `types`, and temporaries from slot t on.
module _ (code : List Instruction) (bounds : Numbering) (types : Types) where
  -- ---- swaps

  -- Holds if one operand of a swap `:=:` has enough words for a value of representation kind `kind` (int, char, pointer, ..).
  abbrev pub HasSide : Side → Kind → Type 0
  HasSide (VariableSide (Local w n) ty) kind = HasRoom types n kind
  HasSide (VariableSide (Global n) ty) kind = HasGlobal types n kind
  HasSide (CellSide x) kind = Unit {0}

  -- Holds if the code at p moves the address of one operand of a swap to slot t, if this operand is a cell.
  abbrev pub SideAt : Side → (t p q : ℕ) → Type 0
  SideAt (VariableSide l ty) t p q = p ≡ q
  SideAt (CellSide x) t p q = (o : Operand) × (c : ℕ) × (m : ℕ) × PlaceAt code bounds types x o c t p m × AddressAt code o c t m q

  -- Holds if the code at p loads the words of one operand of a swap into slots from d on.
  abbrev pub ReadAt : Side → Kind → (s d p q : ℕ) → Type 0
  ReadAt (VariableSide l ty) kind s d p q = LoadAt code bounds types (words_of_kind kind) l d p q
  ReadAt (CellSide x) kind s d p q = EachAt code (load_at kind s) (words_of_kind kind) 0 d p q

  -- Holds if the code at p stores the words in the slots from v on in one operand of a swap.
  abbrev pub WriteAt : Side → Kind → (s v p q : ℕ) → Type 0
  WriteAt (VariableSide (Local w n) ty) kind s v p q = At code p (move_of (words_of_kind kind) (slot_of (starts_of types) n) (operands.Slot v)) × (p + 1 ≡ q)
  WriteAt (VariableSide (Global n) ty) kind s v p q = GlobalAt code (words_of_kind kind) (global_of (starts_of types) n) (operands.Slot v) p q
  WriteAt (CellSide x) kind s v p q = StoresAt code bounds types kind (words_of_kind kind) s 0 v p q

  -- Holds if the code at p reads both operands of a swap, the left operand first, and then writes both operands.
  abbrev pub ExchangeAt : Kind → (left right : Side) → (t p q : ℕ) → Type 0
  ExchangeAt kind a b t p q =
      (m : ℕ) × (r : ℕ) × (s : ℕ) × ReadAt a kind t (t + 2) p m × ReadAt b kind (right_slot a t) (t + 2 + words_of_kind kind) m r
      × WriteAt a kind t (t + 2 + words_of_kind kind) r s × WriteAt b kind (right_slot a t) (t + 2) s q

  abbrev pub SwapAt : (left right : Side) → (t p q : ℕ) → Type 0
  SwapAt a b t p q =
      (m : ℕ) × (r : ℕ) × HasSide a (kind_of (type_of_side a)) × HasSide b (kind_of (type_of_side a))
      × SideAt a t p m × SideAt b (right_slot a t) m r × ExchangeAt (kind_of (type_of_side a)) a b t r q

  -- true if the code at p evaluates an expression and drops its value
  abbrev pub DiscardedAt : Expression → (t p q : ℕ) → Type 0
  DiscardedAt (Call callees.Putchar cs ty) t p q = (o : Operand) × (m : ℕ) × PrintedAt code bounds types cs t o p m × At code m (instructions.WriteByte o) × (m + 1 ≡ q)
  DiscardedAt (Assign l c ty) t p q = (o : Operand) × AssignmentAt code bounds types l c o t p q
  DiscardedAt (Store x v ty) t p q = (o : Operand) × StoredAt code bounds types x v t o p q
  DiscardedAt a t p q = (o : Operand) × OperandBy code bounds types (operand_of (starts_of types) a) (ExpressionAt code bounds types a t t p q) t o p q

  -- ---- statements

  -- Holds if the code at p closes exception handlers from the outermost one on; without open handlers it contains nothing.
  abbrev pub HandlersAt : Option ℕ → (p q : ℕ) → Type 0
  HandlersAt None p q = p ≡ q
  HandlersAt (Some first) p q = At code p (instructions.Leave first) × (p + 1 ≡ q)

  -- Holds if the code at p closes lexical regions until their number is the number saved in a slot.
  abbrev pub ClosedAt : (mark p q : ℕ) → Type 0
  ClosedAt mark p q = At code p (instructions.Ask (requests.CloseTo (operands.Slot mark))) × (p + 1 ≡ q)

  abbrev pub MarksAt : Option ℕ → (p q : ℕ) → Type 0
  MarksAt None p q = p ≡ q
  MarksAt (Some mark) p q = ClosedAt mark p q

  -- Holds if the code at p closes the handlers and regions that a construct has opened.
  abbrev pub LeaveAt : Opened → (p q : ℕ) → Type 0
  LeaveAt opened p q = (r : ℕ) × HandlersAt opened.handler p r × MarksAt opened.mark r q

  -- Holds if the code at p saves the number of open lexical regions in a slot for a `try`; the handler of the `try` closes
  -- the regions opened later.
  abbrev pub KeptAt : (scopes : Option ℕ) → (slot p q : ℕ) → Type 0
  KeptAt None slot p q = p ≡ q
  KeptAt (Some place) slot p q = At code p (instructions.CountLexical slot) × (p + 1 ≡ q)

  abbrev pub RestoredAt : (scopes : Option ℕ) → (slot p q : ℕ) → Type 0
  RestoredAt None slot p q = p ≡ q
  RestoredAt (Some place) slot p q = ClosedAt slot p q

  abbrev pub ReturnAt : Option Converted → Exits → (t p : ℕ) → Type 0
  ReturnAt None exits t p = (s : ℕ) × (m : ℕ) × LeaveAt exits.in_function p m × At code m (instructions.Finish s)
  ReturnAt (Some (Convert from to a)) exits t p =
      (s : ℕ) × (m : ℕ) × (r : ℕ) × (u : ℕ) × ReturnedAt code bounds types (source_of (starts_of types) (Convert from to a)) (BroughtAt code bounds types (Convert from to a) t t p m) t s p m × ConversionAt code bounds types from to (span_of a) (operands.Slot s) t m r
      × LeaveAt exits.in_function r u × At code u (instructions.Finish s) × (results_of bounds.result ≡ words_of_kind to) × (to ≡ kind_of_result bounds.result)

  abbrev pub DeclarationAt : ℕ → Kind → Option Converted → (t p q : ℕ) → Type 0
  DeclarationAt n kind None t p q = (n < bounds.locals) × BlankAt code kind (slot_of (starts_of types) n) p q
  DeclarationAt n kind (Some c) t p q = (n < bounds.locals) × HasRoom types n (kind_passed c) × InitialAt code bounds types c (slot_of (starts_of types) n) t p q

  -- Holds if the code at p evaluates the value of a thrown exception into an operand.
  abbrev pub ThrownAt : Option Expression → Operand → (t p q : ℕ) → Type 0
  ThrownAt None o t p q = (o ≡ operands.Word 0) × (p ≡ q)
  ThrownAt (Some a) o t p q = ValueAt code bounds types a t o p q

  -- Holds if the code at p moves the value of an exception to the local of a `catch` clause.
  abbrev pub CaughtAt : (number : Option ℕ) → (t p q : ℕ) → Type 0
  CaughtAt None t p q = p ≡ q
  CaughtAt (Some n) t p q =
      (n < bounds.locals) × HasLocal types n kinds.Int × At code p (instructions.Move (slot_of (starts_of types) n) (operands.Slot (t + 1))) × (p + 1 ≡ q)

  -- true if the code at p moves a value of a kind from an operand to a declared local
  abbrev pub NamedAt : (number : ℕ) → Kind → Operand → (p q : ℕ) → Type 0
  NamedAt n kind o p q =
      (n < bounds.locals) × HasLocal types n kind × At code p (move_of (words_of_kind kind) (slot_of (starts_of types) n) o) × (p + 1 ≡ q)

  -- Holds if the code at p opens a lexical region, in a program that may open regions.
  abbrev pub OpenedAt : (number t p q : ℕ) → Type 0
  OpenedAt n t p q =
      (place : ℕ) × (types.scopes ≡ Some place) × At code p (instructions.Ask (requests.OpenLexical (t + 1)))
      × At code (p + 1) (instructions.Move t (operands.Slot (t + 2)))
      × NamedAt n kinds.Handle (operands.Slot (t + 1)) (p + 1 + 1) q

  -- Says that the code of statements is at p, given the targets of `break` and `continue` and what an exit must close.
  abbrev mutual
    pub StatementAt : Statement → Exits → (t p q : ℕ) → Type 0
    StatementAt (Block r js) exits t p q = ItemsAt js exits t p q
    StatementAt Empty exits t p q = p ≡ q
    StatementAt (Evaluate a) exits t p q = DiscardedAt a t p q
    StatementAt (Swap a b) exits t p q = SwapAt a b t p q
    StatementAt (If a s u) exits t p q =
        (f : ℕ) × (h : ℕ) × (r : ℕ) × BranchesAt code bounds types a f h t p × StatementAt s exits t h r × OverAt code r q × StatementAt u exits t f q
    StatementAt (While w a s) exits t p q =
        (l : ℕ) × (b : ℕ) × (r : ℕ) × EntryAt code bounds types a (inside_loop p l exits) b t r × At code l (instructions.Jump q)
        × StatementAt s (inside_loop p l exits) t b r × ((f : ℕ) × BranchesAt code bounds types a f b t r × OverAt code f q) × (l < q)
    StatementAt (Return v) exits t p q = ReturnAt v exits t p
    StatementAt Break exits t p q = (m : ℕ) × LeaveAt exits.in_loop p m × At code m (instructions.Jump (break_target exits))
    StatementAt Continue exits t p q = (m : ℕ) × LeaveAt exits.in_loop p m × At code m (instructions.Jump (continue_target exits))
    StatementAt (Throw tag v) exits t p q = IsWord tag × (o : Operand) × (m : ℕ) × ThrownAt v o t p m × At code m (instructions.Throw (tag_operand tag) o)
    StatementAt (Try s cs) exits t p q =
        (r : ℕ) × (m : ℕ) × (u : ℕ) × KeptAt types.scopes (t + RECORD_WORDS) p r × At code r (instructions.Try t (m + 1 + 1))
        × StatementAt s (inside_try exits t) (after_record_in types.scopes t) (r + 1) m × At code m (instructions.Leave t)
        × At code (m + 1) (instructions.Jump q) × RestoredAt types.scopes (t + RECORD_WORDS) (m + 1 + 1) u × ClausesAt cs (m + 1) exits t u q

    pub ItemsAt : Items → Exits → (t p q : ℕ) → Type 0
    ItemsAt NoItems exits t p q = p ≡ q
    ItemsAt (MoreItems (Execute s) js) exits t p q = (m : ℕ) × StatementAt s exits t p m × ItemsAt js exits t m q
    ItemsAt (MoreItems (Declare n ty v) js) exits t p q = (m : ℕ) × HasLocal types n (kind_of ty) × DeclarationAt n (kind_of ty) v t p m × ItemsAt js exits t m q
    ItemsAt (MoreItems (DeclareRegion r n) js) exits t p q =
        (m : ℕ) × (u : ℕ) × OpenedAt n t p m × ItemsAt js (inside_region exits t) (t + 1) m u × ClosedAt t u q
    ItemsAt (MoreItems (OpenRegion r n w key) js) exits t p q =
        (m : ℕ) × NamedAt n kinds.Handle (operands.Slot (slot_of (starts_of types) key)) p m × ItemsAt js exits t m q
    ItemsAt (MoreItems (DeclareAlias r n ty w lent) js) exits t p q =
        (m : ℕ) × NamedAt n (kind_of ty) (operands.Slot (slot_of (starts_of types) lent)) p m × ItemsAt js exits t m q
    ItemsAt (MoreItems (DeclareKey r n) js) exits t p q =
        (m : ℕ) × At code p (instructions.Ask (requests.OpenDynamic t)) × NamedAt n kinds.Key (operands.Slot t) (p + 1) m × ItemsAt js exits t m q

    -- Says that the code of the clauses of a `try` is at p; the code of each clause ends in a jump to `out`.
    pub ClausesAt : Clauses → (out : ℕ) → Exits → (t p q : ℕ) → Type 0
    ClausesAt NoClauses out exits t p q = At code p (goes_on t)
    ClausesAt (Default r js) out exits t p q = ItemsAt js exits t p q
    ClausesAt (Case tag x r js cs) out exits t p q =
        (m : ℕ) × (u : ℕ) × IsWord tag × At code p (other_jump tag t (u + 1)) × CaughtAt x t (p + 1) m × ItemsAt js exits t m u × At code u (instructions.Jump out) × (out < u)
        × ClausesAt cs out exits t (u + 1) q
