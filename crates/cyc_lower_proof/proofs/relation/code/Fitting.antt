-- This file states the requirements of lowering on a tree. Each index in the tree denotes a local, global, function,
-- struct or loop counter that exists, and each destination has enough words for its value.
use Rattle.std.proofs.Common.{◌≡◌, ℕ, ◌≤◌, ◌<◌, Bool, true, false, List, [], ◌∷◌, length, Option, None, Some, slice_get}
use Rattle.cyc_words.specs.Word.{IsWord}
use Rattle.cyc_types.specs.declared.typed.Kind.{Kind}
use Rattle.cyc_types.specs.declared.typed.Kind.TheVariants as kinds
use Rattle.cyc_types.specs.declared.typed.UnaryOperator.TheVariants as unary
use Rattle.cyc_types.specs.Types.{Ty, words_of}
use Rattle.cyc_types.specs.TypedTrees.{Load, New, OnHeap, AsUnique, ByHandle, Initial, Plain, Fields, Array, Dereference, Target, Lvalue, Local, Global, Expression, Number, NullPointer, Copy, Peek, Call, Unary, Binary, Assign}
use Rattle.cyc_types.specs.TypedTrees.{Converted, Convert, Arguments, NoArguments, MoreArguments, Operations, NoOperations, ThenCompute, ThenTest, ThenPointer, Statement, Block, Empty, Evaluate, If, While, Return, Break, Continue}
use Rattle.cyc_types.specs.TypedTrees.{Items, NoItems, MoreItems, Execute, Declare, Signature, StructType, GlobalVariable, Function, Program, Store, Member, Element, type_of, HeapRegion, Counter, Move, AddressOf, AddressOfCell}
use Rattle.cyc_types.specs.TypedTrees.{NumberOfElements, FreeUnique, FreeKey, ThenPointerPeek, Side, VariableSide, CellSide, Swap, Throw, Try, Clauses, NoClauses, Default, Case, DeclareRegion, OpenRegion, DeclareAlias, DeclareKey}
use Rattle.cyc_types.specs.typing.Scopes.{signature_of_ints}
use Rattle.cyc_types.specs.typing.Expressions.{type_of_side}
use Rattle.cyc_types.specs.typing.WellTyped.{AreWellTypedGlobals}
use Rattle.cyc_types.specs.Numbered.{Numbering, signatures_of, IsSignature, argument_count, numbering_of}
use Rattle.cyc_lower_proof.specs.inside.Lowerable.{is_converted, is_pointer}
use Rattle.cyc_store.specs.declared.range.TheConstants.{MOST_BLOCK_WORDS}
use Rattle.cyc_meaning.specs.Values.{kind_of, is_thin, words_of_kind}
use Rattle.cyc_meaning.specs.FrameCount.{result_words, words_of_all, operand_words}
use Rattle.cyc_lower_proof.specs.inside.Slots.{Types, counted, global_types}
use Rattle.cyc_lower_proof.specs.inside.ValueCode.{all_passed, left_kind, kind_passed}
use Rattle.cyc_lower_proof.specs.inside.Lowering.{types_of, results_of, scopes_of}
use Rattle.cyc_lower_proof.proofs.slots.Widths.{given, HasRoom, HasGlobal, HasField, HasVariable, HasLocal}

-- ---- the demands

module _ (b : Numbering) (types : Types) where
  -- Says that a variable exists and has enough words for a value of representation kind `kind` (int, char, pointer, ..). The
  -- value is read from the variable or stored in it.
  abbrev pub FitsPlace : Lvalue → Kind → Type 0
  FitsPlace (Local p n) kind = (n < b.locals) × HasRoom types n kind
  FitsPlace (Global n) kind = HasGlobal types n kind

  -- Says that a variable whose address is taken exists. The variable has as many words as the target of the pointer.
  abbrev pub FitsAddress : Lvalue → Ty → Type 0
  FitsAddress (Local p n) t = (n < b.locals) × HasVariable types.locals n t
  FitsAddress (Global n) t = HasVariable types.globals n t

module _ (b : Numbering) where
  abbrev mutual
    pub Fits : (types : Types) → Expression → Type 0
    Fits types (Number n) = Unit {0}
    Fits types NullPointer = Unit {0}
    Fits types HeapRegion = Unit {0}
    Fits types (Counter l) = l < length types.counters
    Fits types (Copy l t) = FitsPlace b types l (kind_of t)
    Fits types (Move p n t) = FitsPlace b types (Local p n) (kind_of t)
    Fits types (Peek p n t) = FitsPlace b types (Local p n) (kind_of t)
    Fits types (Call f cs t) =
        (s : Signature) × IsSignature b f s × (argument_count cs ≡ length s.parameters) × (all_passed cs ≡ words_of_all s.parameters)
        × (results_of s.result ≤ result_words t) × FitArguments types cs
    Fits types (NumberOfElements a) = (given b.functions a ≡ kinds.Fat) × Fits types a
    Fits types (Unary unary.Widen a) = (words_of_kind (given b.functions a) ≡ 1) × Fits types a
    Fits types (Unary o a) = Fits types a
    Fits types (Binary a os t) = Fits types a × FitOperations types (operand_words (type_of a)) t os
    Fits types (Assign l c t) = FitsPlace b types l (kind_passed c) × FitsConverted types c
    Fits types (Load x) = FitsCell types x
    Fits types (FreeUnique a) = Fits types a
    Fits types (FreeKey a) = Fits types a
    Fits types (New OnHeap i t) = FitsObject types i
    Fits types (New AsUnique i t) = FitsObject types i
    Fits types (New (ByHandle a) i t) = (given b.functions a ≡ kinds.Handle) × Fits types a × FitsObject types i
    Fits types (AddressOf l t) = FitsAddress b types l t
    Fits types (AddressOfCell x t) = FitsCell types x
    Fits types (Store x c t) = FitsCell types x × FitsConverted types c

    pub FitsCell : (types : Types) → Dereference → Type 0
    FitsCell types (Element a i t) = (given b.functions a ≡ kinds.Fat) × (3 ≤ operand_words (type_of a)) × Fits types a × Fits types i
    FitsCell types (Target k a t) = (is_pointer k ≡ true) × (k ≡ given b.functions a) × (words_of_kind k ≤ operand_words (type_of a)) × Fits types a
    FitsCell types (Member k a s f t) = (is_thin k ≡ true) × HasField types s f × Fits types a

    -- Says that the initial values of a new object meet the requirements of lowering.
    pub FitsObject : (types : Types) → Initial → Type 0
    FitsObject types (Plain kind a) = (kind ≡ given b.functions a) × Fits types a
    FitsObject types (Fields cs) = (1 ≤ argument_count cs) × (all_passed cs ≤ MOST_BLOCK_WORDS) × FitArguments types cs
    FitsObject types (Array w level n kind a) =
        (level ≡ length types.counters) × (kind ≡ given b.functions a) × Fits types n × ((slot : ℕ) → Fits (counted types slot) a)

    pub FitsConverted : (types : Types) → Converted → Type 0
    FitsConverted types (Convert from to a) = (from ≡ given b.functions a) × (is_converted from to ≡ true) × Fits types a

    pub FitArguments : (types : Types) → Arguments → Type 0
    FitArguments types NoArguments = Unit {0}
    FitArguments types (MoreArguments c cs) = FitsConverted types c × FitArguments types cs

    -- Says that the operators after a left operand of `left` machine words meet the requirements of lowering, in an operator chain
    -- whose values have type t.
    pub FitOperations : (types : Types) → (left : ℕ) → Ty → Operations → Type 0
    FitOperations types left t NoOperations = Unit {0}
    FitOperations types left t (ThenCompute o a os) = Fits types a × FitOperations types (words_of t) t os
    FitOperations types left t (ThenTest o a os) = Fits types a × FitOperations types (words_of t) t os
    FitOperations types left t (ThenPointer o a os) = (words_of_kind (left_kind o) ≤ left) × Fits types a × FitOperations types (words_of t) t os
    FitOperations types left t (ThenPointerPeek n o a os) = (words_of_kind (left_kind o) ≤ left) × Fits types a × FitOperations types (words_of t) t os

-- Holds if the program may open lexical regions.
abbrev pub IsCounting : (scopes : Option ℕ) → Type 0
IsCounting scopes = (place : ℕ) × (scopes ≡ Some place)

module _ (b : Numbering) (types : Types) where
  -- Says that one operand of a swap `:=:` of values of one representation kind (int, char, pointer, ..) meets the requirements of lowering.
  abbrev pub FitsSide : Side → Kind → Type 0
  FitsSide (VariableSide l t) kind = FitsPlace b types l kind
  FitsSide (CellSide x) kind = FitsCell b types x

  abbrev pub FitsReturn : Option Ty → Option Converted → Type 0
  FitsReturn None None = Unit {0}
  FitsReturn None (Some c) = ⊥
  FitsReturn (Some t) None = ⊥
  FitsReturn (Some t) (Some c) = (kind_passed c ≡ kind_of t) × FitsConverted b types c

  abbrev pub FitsInitial : (number : ℕ) → Option Converted → Type 0
  FitsInitial n None = Unit {0}
  FitsInitial n (Some c) = HasRoom types n (kind_passed c) × FitsConverted b types c

  abbrev pub FitsThrown : Option Expression → Type 0
  FitsThrown None = Unit {0}
  FitsThrown (Some a) = Fits b types a

  abbrev pub FitsCaught : (number : Option ℕ) → Type 0
  FitsCaught None = Unit {0}
  FitsCaught (Some n) = (n < b.locals) × HasLocal types n kinds.Int

  abbrev mutual
    pub FitsStatement : (in_loop : Bool) → Statement → Type 0
    FitsStatement l (Block r js) = FitItems l js
    FitsStatement l Empty = Unit {0}
    FitsStatement l (Evaluate a) = Fits b types a
    FitsStatement l (Swap x y) =
        FitsSide x (kind_of (type_of_side x)) × FitsSide y (kind_of (type_of_side x))
    FitsStatement l (If a s t) = Fits b types a × FitsStatement l s × FitsStatement l t
    FitsStatement l (While p a s) = Fits b types a × FitsStatement true s
    FitsStatement l (Return v) = FitsReturn b.result v
    FitsStatement l Break = l ≡ true
    FitsStatement l Continue = l ≡ true
    FitsStatement l (Throw tag v) = IsWord tag × FitsThrown v
    FitsStatement l (Try s cs) = FitsStatement l s × FitClauses l cs

    pub FitItems : Bool → Items → Type 0
    FitItems l NoItems = Unit {0}
    FitItems l (MoreItems (Execute s) js) = FitsStatement l s × FitItems l js
    FitItems l (MoreItems (Declare n t v) js) = (n < b.locals) × HasLocal types n (kind_of t) × FitsInitial n v × FitItems l js
    FitItems l (MoreItems (DeclareRegion r n) js) = IsCounting types.scopes × (n < b.locals) × HasLocal types n kinds.Handle × FitItems l js
    FitItems l (MoreItems (OpenRegion r n w k) js) =
        (n < b.locals) × HasLocal types n kinds.Handle × (k < b.locals) × HasRoom types k kinds.Handle × FitItems l js
    FitItems l (MoreItems (DeclareAlias r n t w m) js) =
        (n < b.locals) × HasLocal types n (kind_of t) × (m < b.locals) × HasRoom types m (kind_of t) × FitItems l js
    FitItems l (MoreItems (DeclareKey r n) js) = (n < b.locals) × HasLocal types n kinds.Key × FitItems l js

    pub FitClauses : Bool → Clauses → Type 0
    FitClauses l NoClauses = Unit {0}
    FitClauses l (Default r js) = FitItems l js
    FitClauses l (Case tag x r js cs) = IsWord tag × FitsCaught x × FitItems l js × FitClauses l cs

abbrev pub AreFitting : List StructType → List GlobalVariable → (scopes : Option ℕ) → List Signature → List Function → Type 0
AreFitting structs globals scopes functions [] = Unit {0}
AreFitting structs globals scopes functions (h ∷ hs) =
    FitItems (numbering_of (length globals) functions h) (types_of structs (global_types globals) scopes h) false h.body × AreFitting structs globals scopes functions hs

pub record IsFitting (p : Program) : Type 0 where
  pub functions : AreFitting p.structs p.globals (scopes_of p) (signatures_of p.functions) p.functions
  pub globals : AreWellTypedGlobals p.globals
  pub main : slice_get (signatures_of p.functions) p.main ≡ Some (signature_of_ints [])
