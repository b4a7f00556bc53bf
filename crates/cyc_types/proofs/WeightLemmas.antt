-- Bounds on the weight (a token count) of typed trees, written types and programs.
use Rattle.std.proofs.Common.{◌≡◌, ℕ, zero, suc, ◌+◌, ◌*◌, ◌≤◌, List, [], ◌∷◌, Option, Some, None, ap, arith, length, slice_get}
use Rattle.cyc_syntax.specs.Trees.{BaseType, Int, Char, WrittenType}
use Rattle.cyc_syntax.specs.inside.Weight.{sum_of, separated_weight, optional_weight, type_weight, result_weight}
use Rattle.cyc_syntax.specs.inside.Weight as written
use Rattle.cyc_types.specs.Types.{Ty}
use Rattle.cyc_types.specs.TypedTrees as typed
use Rattle.cyc_types.specs.Weight.{expression_weight, else_weight, statement_weight, constant_weight, global_weight, function_weight, program_weight}

-- the weight (token count) of an expression is at least one token
pub some_token : (a : typed.Expression) → 1 ≤ expression_weight a
some_token (typed.Unary o a) = omega (arith, some_token a)
some_token (typed.Binary a os t) = omega (arith, some_token a)
some_token (typed.Load (typed.Target k a t)) = omega arith
some_token (typed.Load (typed.Member k a s f t)) = omega arith
some_token (typed.Load (typed.Element a i t)) = omega arith
some_token (typed.New typed.OnHeap i t) = omega arith
some_token (typed.New typed.AsUnique i t) = omega arith
some_token (typed.New (typed.ByHandle a) i t) = omega arith
some_token a = omega arith

pub else_lighter : (t : typed.Statement) (n : ℕ) → else_weight t n ≤ 1 + n
else_lighter typed.Empty n = omega arith
else_lighter t n = omega arith

-- the weight (token count) of an `else` branch's statement is at most one token more than the weight that the branch adds to the `if`
pub else_written : (t : typed.Statement) → statement_weight t ≤ 1 + else_weight t (statement_weight t)
else_written typed.Empty = omega arith
else_written t = omega arith

base_written : (b : BaseType) → 1 ≤ written.base_weight b
base_written Int = omega arith
base_written Char = omega arith
base_written b = omega arith

pub type_token : (w : WrittenType) → 1 ≤ type_weight w
type_token w = let base : 1 ≤ written.base_weight w.base = base_written w.base in omega arith

pub word_lighter : (n : ℕ) → constant_weight (typed.Word n) ≤ 2
word_lighter zero = omega arith
word_lighter (suc n) = omega arith

pub result_token : (r : Option WrittenType) → 1 ≤ result_weight r
result_token None = omega arith
result_token (Some w) = type_token w

-- ---- counts bounded by the number of tokens

globals_counted : (gs : List typed.GlobalVariable) → 3 * length gs ≤ sum_of global_weight gs
globals_counted [] = omega arith
globals_counted (g ∷ gs) = let rest : 3 * length gs ≤ sum_of global_weight gs = globals_counted gs in omega arith

functions_counted : (hs : List typed.Function) → 6 * length hs ≤ sum_of function_weight hs
functions_counted [] = omega arith
functions_counted (h ∷ hs) = let rest : 6 * length hs ≤ sum_of function_weight hs = functions_counted hs in omega arith

pub declarations_counted : (p : typed.Program) → 3 * length p.globals + 6 * length p.functions ≤ program_weight p
declarations_counted p =
    let globals : 3 * length p.globals ≤ sum_of global_weight p.globals = globals_counted p.globals in
    let functions : 6 * length p.functions ≤ sum_of function_weight p.functions = functions_counted p.functions in
    omega arith

function_within : (hs : List typed.Function) (n : ℕ) (h : typed.Function) → slice_get hs n ≡ Some h → function_weight h ≤ sum_of function_weight hs
function_within [] n h e = absurd (cc)
function_within (k ∷ hs) zero h e = let same : function_weight k ≡ function_weight h = ap (optional_weight function_weight) e in omega arith
function_within (k ∷ hs) (suc n) h e = let rest : function_weight h ≤ sum_of function_weight hs = function_within hs n h e in omega arith

pub function_of_program : (p : typed.Program) (n : ℕ) (h : typed.Function) → slice_get p.functions n ≡ Some h → function_weight h ≤ program_weight p
function_of_program p n h e = let part : function_weight h ≤ sum_of function_weight p.functions = function_within p.functions n h e in omega arith

pub parameters_counted : (ts : List Ty) → (2 * length ts ≤ separated_weight (λ t. 2) ts) × (2 * length ts ≤ sum_of (λ t. 1 + 2) ts)
parameters_counted [] = (omega arith, omega arith)
parameters_counted (t ∷ ts) = let rest : 2 * length ts ≤ sum_of (λ t. 1 + 2) ts = (parameters_counted ts).1 in (omega arith, omega arith)
