-- This file says that all integers of a typed tree that can be lowered are 32-bit words: the integers in its functions,
-- and the initial values of its globals.
use Rattle.std.specs.Prelude.{List, [], ◌∷◌, Option}
use Rattle.cyc_words.specs.Word.{IsWord}
use Rattle.cyc_types.specs.TypedTrees.{Expression, Dereference, Initial, Converted, Arguments, Operations, Side, Statement, Items, Clauses, Constant, Word, Null, GlobalVariable, Function, Program}
use Rattle.cyc_types.specs.Demands.{Meets, CellMeets, ObjectMeets, ConvertedMeets, ArgumentsMeet, OperationsMeet, SideMeets, ValueMeets, ThrownMeets, StatementMeets, ItemsMeet, ClausesMeet, FunctionsMeet}
use Rattle.cyc_lower_proof.specs.inside.Lowerable.{lowering_demands}

abbrev pub IsOfWords : Expression → Type 0
IsOfWords a = Meets lowering_demands a

abbrev pub IsOfWordsCell : Dereference → Type 0
IsOfWordsCell x = CellMeets lowering_demands x

abbrev pub IsOfWordsObject : Initial → Type 0
IsOfWordsObject i = ObjectMeets lowering_demands i

abbrev pub IsOfWordsConverted : Converted → Type 0
IsOfWordsConverted c = ConvertedMeets lowering_demands c

abbrev pub AreOfWordsArguments : Arguments → Type 0
AreOfWordsArguments cs = ArgumentsMeet lowering_demands cs

abbrev pub AreOfWordsOperations : Operations → Type 0
AreOfWordsOperations os = OperationsMeet lowering_demands os

abbrev pub IsOfWordsSide : Side → Type 0
IsOfWordsSide x = SideMeets lowering_demands x

abbrev pub IsOfWordsInitial : Option Converted → Type 0
IsOfWordsInitial v = ValueMeets lowering_demands v

abbrev pub IsOfWordsThrown : Option Expression → Type 0
IsOfWordsThrown v = ThrownMeets lowering_demands v

abbrev pub IsOfWordsStatement : Statement → Type 0
IsOfWordsStatement s = StatementMeets lowering_demands s

abbrev pub AreOfWordsItems : Items → Type 0
AreOfWordsItems js = ItemsMeet lowering_demands js

abbrev pub AreOfWordsClauses : Clauses → Type 0
AreOfWordsClauses cs = ClausesMeet lowering_demands cs

abbrev pub AreOfWordsFunctions : List Function → Type 0
AreOfWordsFunctions hs = FunctionsMeet lowering_demands hs

abbrev pub IsOfWordsConstant : Constant → Type 0
IsOfWordsConstant (Word n) = IsWord n
IsOfWordsConstant Null = Unit {0}

abbrev pub AreOfWordsGlobals : List GlobalVariable → Type 0
AreOfWordsGlobals [] = Unit {0}
AreOfWordsGlobals (g ∷ gs) = IsOfWordsConstant g.value × AreOfWordsGlobals gs

pub record IsOfWordsProgram (p : Program) : Type 0 where
  pub functions : AreOfWordsFunctions p.functions
  pub globals : AreOfWordsGlobals p.globals
