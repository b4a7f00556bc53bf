-- The search for callees. The callees in the first elements of a list and those in its remaining elements are the callees of the list.
-- The fact about the callees of lists is also proved for tree nodes with lists.
use Rattle.std.proofs.Common.{◌≡◌, ℕ, List, [], ◌∷◌, ◌++◌, drop, Option, refl, sym, ap, ◌∙◌, append_assoc}
use Rattle.std.specs.declared.vec.Vec.{Vec}
use Rattle.std.specs.declared.boxed.Box.{Box}
use Rattle.std.specs.declared.alloc.Global.{Global as Heap}
use Rattle.cyc_types.specs.declared.ty.Ty.{Ty as TyCode}
use Rattle.cyc_types.specs.declared.typed.ValueType.{ValueType as ValueTypeCode}
use Rattle.cyc_types.specs.declared.typed.Callee.{Callee}
use Rattle.cyc_types.specs.declared.typed.Expr.{Expr}
use Rattle.cyc_types.specs.declared.typed.Expr.TheVariants as expr
use Rattle.cyc_types.specs.declared.typed.Initial.{Initial}
use Rattle.cyc_types.specs.declared.typed.Initial.TheVariants as initial
use Rattle.cyc_types.specs.declared.typed.Converted.{Converted as ConvertedCode}
use Rattle.cyc_types.specs.declared.typed.Operation.{Operation}
use Rattle.cyc_types.specs.declared.typed.Stmt.{Stmt}
use Rattle.cyc_types.specs.declared.typed.Stmt.TheVariants as stmt
use Rattle.cyc_types.specs.declared.typed.Item.{Item as ItemCode}
use Rattle.cyc_types.specs.declared.typed.Clause.{Clause}
use Rattle.cyc_types.specs.declared.typed.Body.{Body}
use Rattle.cyc_types.specs.TypedTrees.{Clauses, NoClauses}
use Rattle.cyc_types.specs.TypedTreeView.{view_expression, view_initial, view_statement, arguments_of, operations_of, items_of, clauses_of, default_of}
use Rattle.cyc_types.proofs.TypedTreeViewLemmas.{view_typed_call, view_typed_binary, view_typed_fields, view_block, view_typed_try}
use Rattle.cyc_bound.specs.Callees.{callee_of, expression_callees, initial_callees, arguments_callees, operations_callees, statement_callees, items_callees, clauses_callees}

-- ---- lists

-- says that the list found so far, followed by the callees of the arguments from index i on, is the list for all arguments
abbrev pub ArgumentsLeft : List ConvertedCode → (i : ℕ) → (old found : List ℕ) → Type 0
ArgumentsLeft cs i old found = found ++ arguments_callees (arguments_of (drop i cs)) ≡ old ++ arguments_callees (arguments_of cs)

abbrev pub OperationsLeft : List Operation → (i : ℕ) → (old found : List ℕ) → Type 0
OperationsLeft os i old found = found ++ operations_callees (operations_of (drop i os)) ≡ old ++ operations_callees (operations_of os)

abbrev pub ItemsLeft : List ItemCode → (i : ℕ) → (old found : List ℕ) → Type 0
ItemsLeft js i old found = found ++ items_callees (items_of (drop i js)) ≡ old ++ items_callees (items_of js)

abbrev pub ClausesLeft : List Clause → (i : ℕ) → (old found : List ℕ) → Type 0
ClausesLeft cs i old found = found ++ clauses_callees (clauses_of (drop i cs) NoClauses) ≡ old ++ clauses_callees (clauses_of cs NoClauses)

-- ---- nodes that contain lists

pub call_calls : (value : Expr) {w : _} (f : Callee) (v : Vec ConvertedCode Heap) (t : ValueTypeCode) → value ≡ expr.Call w f v t → (items : List ConvertedCode) → items ≡ v.items
    → expression_callees (view_expression value) ≡ arguments_callees (arguments_of items) ++ callee_of f
call_calls value {w} f v t is items same =
    ap (λ (x : Expr). expression_callees (view_expression x)) is ∙ ap expression_callees (view_typed_call w f v t)
    ∙ ap (λ (cs : List ConvertedCode). arguments_callees (arguments_of cs) ++ callee_of f) (sym same)

pub binary_calls : (value : Expr) (b : Box Expr Heap) (v : Vec Operation Heap) (t : TyCode) → value ≡ expr.Binary b v t → (first : Expr) → first ≡ b.value → (items : List Operation) → items ≡ v.items
    → expression_callees (view_expression value) ≡ expression_callees (view_expression first) ++ operations_callees (operations_of items)
binary_calls value b v t is first at items same =
    ap (λ (x : Expr). expression_callees (view_expression x)) is ∙ ap expression_callees (view_typed_binary b v t)
    ∙ ap (λ (x : Expr). expression_callees (view_expression x) ++ operations_callees (operations_of v.items)) (sym at)
    ∙ ap (λ (os : List Operation). expression_callees (view_expression first) ++ operations_callees (operations_of os)) (sym same)

pub fields_call : (value : Initial) (v : Vec ConvertedCode Heap) → value ≡ initial.Fields v → (items : List ConvertedCode) → items ≡ v.items
    → initial_callees (view_initial value) ≡ arguments_callees (arguments_of items)
fields_call value v is items same =
    ap (λ (x : Initial). initial_callees (view_initial x)) is ∙ ap initial_callees (view_typed_fields v)
    ∙ ap (λ (cs : List ConvertedCode). arguments_callees (arguments_of cs)) (sym same)

pub block_calls : (value : Stmt) (r : ℕ) (v : Vec ItemCode Heap) → value ≡ stmt.Block r v → (items : List ItemCode) → items ≡ v.items
    → statement_callees (view_statement value) ≡ items_callees (items_of items)
block_calls value r v is items same =
    ap (λ (x : Stmt). statement_callees (view_statement x)) is ∙ ap statement_callees (view_block r v) ∙ ap (λ (js : List ItemCode). items_callees (items_of js)) (sym same)

-- the functions called in the default clause come after those called in the other catch clauses
clauses_with : (cs : List Clause) (default : Clauses) → clauses_callees (clauses_of cs default) ≡ clauses_callees (clauses_of cs NoClauses) ++ clauses_callees default
clauses_with [] default = refl
clauses_with (c ∷ cs) default =
    ap (λ (l : List ℕ). items_callees (items_of c.items.items) ++ l) (clauses_with cs default)
    ∙ sym (append_assoc (items_callees (items_of c.items.items)) (clauses_callees (clauses_of cs NoClauses)) (clauses_callees default))

pub try_calls : (value : Stmt) {w : _} (b : Box Stmt Heap) (v : Vec Clause Heap) (d : Option Body) → value ≡ stmt.Try w b v d → (body : Stmt) → body ≡ b.value → (clauses : List Clause) → clauses ≡ v.items
    → statement_callees (view_statement value) ≡ (statement_callees (view_statement body) ++ clauses_callees (clauses_of clauses NoClauses)) ++ clauses_callees (default_of d)
try_calls value {w} b v d is body at clauses same =
    ap (λ (x : Stmt). statement_callees (view_statement x)) is ∙ ap statement_callees (view_typed_try w b v d)
    ∙ ap (λ (l : List ℕ). statement_callees (view_statement b.value) ++ l) (clauses_with v.items (default_of d))
    ∙ sym (append_assoc (statement_callees (view_statement b.value)) (clauses_callees (clauses_of v.items NoClauses)) (clauses_callees (default_of d)))
    ∙ ap (λ (x : Stmt). (statement_callees (view_statement x) ++ clauses_callees (clauses_of v.items NoClauses)) ++ clauses_callees (default_of d)) (sym at)
    ∙ ap (λ (cs : List Clause). (statement_callees (view_statement body) ++ clauses_callees (clauses_of cs NoClauses)) ++ clauses_callees (default_of d)) (sym same)
