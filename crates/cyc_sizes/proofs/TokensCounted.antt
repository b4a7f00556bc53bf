-- This file is about counting the tokens of lists: the tokens counted so far, plus those of the remaining elements, are all tokens of the
-- list. The file also counts the tokens of tree nodes that contain lists.
use Rattle.std.proofs.Common.{◌≡◌, ℕ, ◌+◌, ◌*◌, ◌-◌, ◌<◌, ◌≤◌, List, [], ◌∷◌, length, get_or, drop, map, Option, sym, ap, ◌∙◌, arith}
use Rattle.std.proofs.lemmas.List.{drop_more}
use Rattle.std.specs.declared.vec.Vec.{Vec}
use Rattle.std.specs.declared.boxed.Box.{Box}
use Rattle.std.specs.declared.alloc.Global.{Global as Heap}
use Rattle.cyc_syntax.specs.Sums.{sum_of, separated_weight}
use Rattle.cyc_types.specs.declared.ty.Ty.{Ty as TyCode}
use Rattle.cyc_types.specs.declared.typed.ValueType.{ValueType as ValueTypeCode}
use Rattle.cyc_types.specs.declared.typed.Callee.{Callee}
use Rattle.cyc_types.specs.declared.typed.Expr.{Expr}
use Rattle.cyc_types.specs.declared.typed.Expr.TheVariants as expr
use Rattle.cyc_types.specs.declared.typed.Initial.{Initial}
use Rattle.cyc_types.specs.declared.typed.Initial.TheVariants as initial
use Rattle.cyc_types.specs.declared.typed.Converted.{Converted as ConvertedCode}
use Rattle.cyc_types.specs.declared.typed.Operation.{Operation}
use Rattle.cyc_types.specs.declared.typed.Stmt.{Stmt}
use Rattle.cyc_types.specs.declared.typed.Stmt.TheVariants as stmt
use Rattle.cyc_types.specs.declared.typed.Item.{Item as ItemCode}
use Rattle.cyc_types.specs.declared.typed.Clause.{Clause}
use Rattle.cyc_types.specs.declared.typed.Body.{Body}
use Rattle.cyc_types.specs.declared.typed.Global.{Global as GlobalCode}
use Rattle.cyc_types.specs.declared.typed.Function.{Function as FunctionCode}
use Rattle.cyc_types.specs.TypedTrees.{Arguments, NoArguments, MoreArguments, Clauses, NoClauses}
use Rattle.cyc_types.specs.TypeView.{view_ty}
use Rattle.cyc_types.specs.TypedTreeView.{view_expression, view_initial, view_statement, view_global, view_function, arguments_of, operations_of, items_of, clauses_of, default_of}
use Rattle.cyc_types.specs.Weight.{expression_weight, initial_weight, arguments_weight, more_arguments_weight, operations_weight, statement_weight, items_weight, clauses_weight, global_weight, function_weight}
use Rattle.cyc_types.proofs.TypedTreeViewLemmas.{view_typed_call, view_typed_binary, view_typed_fields, view_block, view_typed_try}

-- ---- the count so far plus the remaining elements

-- Says that the tokens counted so far plus the tokens of the remaining operands, with a comma before each operand, are the tokens of all
-- operands.
abbrev pub ArgumentsLeft : List ConvertedCode → (i weight : ℕ) → Type 0
ArgumentsLeft cs i weight = weight + more_arguments_weight (arguments_of (drop i cs)) ≡ more_arguments_weight (arguments_of cs)

abbrev pub OperationsLeft : List Operation → (i weight : ℕ) → Type 0
OperationsLeft os i weight = weight + operations_weight (operations_of (drop i os)) ≡ operations_weight (operations_of os)

abbrev pub ItemsLeft : List ItemCode → (i weight : ℕ) → Type 0
ItemsLeft js i weight = weight + items_weight (items_of (drop i js)) ≡ items_weight (items_of js)

abbrev pub ClausesLeft : List Clause → (i weight : ℕ) → Type 0
ClausesLeft cs i weight = weight + clauses_weight (clauses_of (drop i cs) NoClauses) ≡ clauses_weight (clauses_of cs NoClauses)

abbrev pub GlobalsLeft : List GlobalCode → (i weight : ℕ) → Type 0
GlobalsLeft gs i weight = weight + sum_of global_weight (map view_global (drop i gs)) ≡ sum_of global_weight (map view_global gs)

abbrev pub FunctionsLeft : List FunctionCode → (i weight : ℕ) → Type 0
FunctionsLeft hs i weight = weight + sum_of function_weight (map view_function (drop i hs)) ≡ sum_of function_weight (map view_function hs)

-- ---- commas

-- In the count of tokens, no comma is counted before the first operand of a list.
pub first_without_comma : (cs : Arguments) → arguments_weight cs ≡ more_arguments_weight cs - 1
first_without_comma NoArguments = omega arith
first_without_comma (MoreArguments c cs) = omega arith

-- The tokens counted so far plus those of the next operand with its comma exceed the tokens of the whole list by at most one.
module _ (cs : List ConvertedCode) (i weight : ℕ) (c : ConvertedCode) (inside : i < length cs) (at : c ≡ get_or cs i c) where
  pub argument_left : ArgumentsLeft cs i weight → weight + (1 + expression_weight (view_expression c.value)) ≤ 1 + arguments_weight (arguments_of cs)
  argument_left left =
      let here : drop i cs ≡ c ∷ drop (i + 1) cs = drop_more cs i c inside ∙ ap (λ (d : ConvertedCode). d ∷ drop (i + 1) cs) (sym at) in
      let found = ap (λ (ds : List ConvertedCode). weight + more_arguments_weight (arguments_of ds)) (sym here) ∙ left in
      omega (arith, found, first_without_comma (arguments_of cs))

-- Each parameter is spelled as a type and a name, and all parameters except the first have a comma before them.
more_parameters : (ts : List TyCode) → sum_of (λ _. 1 + 2) (map view_ty ts) ≡ 3 * length ts
more_parameters [] = omega arith
more_parameters (t ∷ ts) = omega (arith, more_parameters ts)

pub parameters_weigh : (ts : List TyCode) → separated_weight (λ _. 2) (map view_ty ts) ≡ 3 * length ts - 1
parameters_weigh [] = omega arith
parameters_weigh (t ∷ ts) = omega (arith, more_parameters ts)

-- ---- nodes that contain lists

-- The tokens of catch clauses with a `default` clause are those of the `default` clause plus those of the other clauses.
default_weighs : (cs : List Clause) (default : Clauses) → clauses_weight (clauses_of cs default) ≡ clauses_weight (clauses_of cs NoClauses) + clauses_weight default
default_weighs [] default = omega arith
default_weighs (c ∷ cs) default = omega (arith, default_weighs cs default)

pub call_weighs : (value : Expr) {w : _} (f : Callee) (v : Vec ConvertedCode Heap) (t : ValueTypeCode) → value ≡ expr.Call w f v t → (items : List ConvertedCode) → items ≡ v.items
    → expression_weight (view_expression value) ≡ 3 + arguments_weight (arguments_of items)
call_weighs value {w} f v t is items same =
    ap (λ (x : Expr). expression_weight (view_expression x)) is ∙ ap expression_weight (view_typed_call w f v t)
    ∙ ap (λ (cs : List ConvertedCode). 3 + arguments_weight (arguments_of cs)) (sym same)

pub fields_weigh : (value : Initial) (v : Vec ConvertedCode Heap) → value ≡ initial.Fields v → (items : List ConvertedCode) → items ≡ v.items
    → initial_weight (view_initial value) ≡ 3 + arguments_weight (arguments_of items)
fields_weigh value v is items same =
    ap (λ (x : Initial). initial_weight (view_initial x)) is ∙ ap initial_weight (view_typed_fields v)
    ∙ ap (λ (cs : List ConvertedCode). 3 + arguments_weight (arguments_of cs)) (sym same)

pub binary_weighs : (value : Expr) (b : Box Expr Heap) (v : Vec Operation Heap) (t : TyCode) → value ≡ expr.Binary b v t → (first : Expr) → first ≡ b.value → (items : List Operation) → items ≡ v.items
    → expression_weight (view_expression value) ≡ expression_weight (view_expression first) + operations_weight (operations_of items)
binary_weighs value b v t is first at items same =
    ap (λ (x : Expr). expression_weight (view_expression x)) is ∙ ap expression_weight (view_typed_binary b v t)
    ∙ ap (λ (x : Expr). expression_weight (view_expression x) + operations_weight (operations_of v.items)) (sym at)
    ∙ ap (λ (os : List Operation). expression_weight (view_expression first) + operations_weight (operations_of os)) (sym same)

pub block_weighs : (value : Stmt) (r : ℕ) (v : Vec ItemCode Heap) → value ≡ stmt.Block r v → (items : List ItemCode) → items ≡ v.items
    → statement_weight (view_statement value) ≡ 2 + items_weight (items_of items)
block_weighs value r v is items same =
    ap (λ (x : Stmt). statement_weight (view_statement x)) is ∙ ap statement_weight (view_block r v)
    ∙ ap (λ (js : List ItemCode). 2 + items_weight (items_of js)) (sym same)

module _ (value : Stmt) {w : _} (b : Box Stmt Heap) (v : Vec Clause Heap) (d : Option Body) (is : value ≡ stmt.Try w b v d) (body : Stmt) (at : body ≡ b.value) (clauses : List Clause) (same : clauses ≡ v.items) where
  pub try_weighs : statement_weight (view_statement value) ≡ 4 + statement_weight (view_statement body) + (clauses_weight (clauses_of clauses NoClauses) + clauses_weight (default_of d))
  try_weighs =
      ap (λ (x : Stmt). statement_weight (view_statement x)) is ∙ ap statement_weight (view_typed_try w b v d)
      ∙ ap (λ (n : ℕ). 4 + statement_weight (view_statement b.value) + n) (default_weighs v.items (default_of d))
      ∙ ap (λ (x : Stmt). 4 + statement_weight (view_statement x) + (clauses_weight (clauses_of v.items NoClauses) + clauses_weight (default_of d))) (sym at)
      ∙ ap (λ (cs : List Clause). 4 + statement_weight (view_statement body) + (clauses_weight (clauses_of cs NoClauses) + clauses_weight (default_of d))) (sym same)
