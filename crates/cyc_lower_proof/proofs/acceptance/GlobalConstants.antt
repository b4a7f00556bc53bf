-- The initial values of a typed program's globals are 32-bit words if the constants of the untyped tree are.
use Rattle.std.proofs.Common.{ℕ, Bool, true, false, cond, List, [], ◌∷◌, Option, Some, None, sym, ap, subst, arith, ◌-◌, ◌%◌, ◌^◌}
use Rattle.cyc_words.specs.Word.{IsWord}
use Rattle.cyc_syntax.specs.Trees.{GlobalValue, Positive, Negative, Byte, NullPointer, Declaration, StructType, Exceptions, Global, Function}
use Rattle.cyc_types.specs.Types.{Ty}
use Rattle.cyc_types.specs.Types as types
use Rattle.cyc_types.specs.TypedTrees as typed
use Rattle.cyc_types.specs.typing.Tests.{is_pointer}
use Rattle.cyc_types.specs.typing.Programs.{Program, program_known, constant_of, globals_of, IsTypedProgram, word_of}
use Rattle.cyc_types.specs.typing.DeclarationRules as heads
use Rattle.cyc_types.proofs.typing.TreeConstants.{IsOfWordsGlobalValue, IsOfWordsTree}
use Rattle.cyc_lower_proof.specs.inside.Words.{IsOfWordsConstant, AreOfWordsGlobals}

either_constant : (b : Bool) → IsOfWordsConstant (cond b typed.Null (typed.Word 0))
either_constant true = tt
either_constant false = omega arith

value_word : (t : Ty) (n : ℕ) → IsWord n → IsWord (word_of t n)
value_word types.Char n w = omega arith
value_word t n w = w

-- The constant of a negative global value is a 32-bit word, because a negative value is stored modulo 2^32.
global_constants : (t : Ty) (v : Option GlobalValue) → IsOfWordsGlobalValue v → IsOfWordsConstant (constant_of t v)
global_constants t None w = either_constant (is_pointer t)
global_constants t (Some (Positive p n)) w = value_word t n w
global_constants t (Some (Negative p n)) w = value_word t ((2 ^ 32 - n) % 2 ^ 32) (omega arith)
global_constants t (Some (Byte p c)) w = value_word t c w
global_constants t (Some (NullPointer p)) w = tt

globals_constants : (k : heads.Known) (tree : List Declaration) → IsOfWordsTree tree → AreOfWordsGlobals (globals_of k tree)
globals_constants k [] w = tt
globals_constants k (StructType s rs ms ∷ tree) (w, ws) = globals_constants k tree ws
globals_constants k (Exceptions cs ∷ tree) (w, ws) = globals_constants k tree ws
globals_constants k (Global t x v ∷ tree) (w, ws) = (global_constants _ v w, globals_constants k tree ws)
globals_constants k (Function r x ps b ∷ tree) (w, ws) = globals_constants k tree ws

pub typed_globals : (texts : List (List ℕ)) (tree : List Declaration) (p : typed.Program) → IsTypedProgram texts tree p → IsOfWordsTree tree → AreOfWordsGlobals p.globals
typed_globals texts tree p (u, heads_kept, (v, main, (fs, functions, (x, eq)))) w =
    let q : Program = program_known texts tree in
    subst AreOfWordsGlobals (sym (ap (λ (z : typed.Program). z.globals) eq)) (globals_constants q.known tree w)
