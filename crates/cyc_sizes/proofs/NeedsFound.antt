-- This file is about computing the number of machine words that a frame needs. The number of words that a list's first elements need,
-- combined with that of the remaining elements, is the number for the list. That the words needed by list elements combine to those of
-- the list is also proved for typed tree nodes that have lists.
use Rattle.std.proofs.Common.{◌≡◌, ℕ, ◌+◌, ◌<◌, max, List, [], ◌∷◌, length, get_or, drop, map, Option, sym, ap, ◌∙◌, arith}
use Rattle.std.proofs.lemmas.List.{drop_more}
use Rattle.std.specs.declared.vec.Vec.{Vec}
use Rattle.std.specs.declared.boxed.Box.{Box}
use Rattle.std.specs.declared.alloc.Global.{Global as Heap}
use Rattle.cyc_types.specs.declared.ty.Ty.{Ty as TyCode}
use Rattle.cyc_types.specs.declared.typed.ValueType.{ValueType as ValueTypeCode}
use Rattle.cyc_types.specs.declared.typed.Callee.{Callee}
use Rattle.cyc_types.specs.declared.typed.Expr.{Expr}
use Rattle.cyc_types.specs.declared.typed.Expr.TheVariants as expr
use Rattle.cyc_types.specs.declared.typed.Initial.{Initial}
use Rattle.cyc_types.specs.declared.typed.Initial.TheVariants as initial
use Rattle.cyc_types.specs.declared.typed.Converted.{Converted as ConvertedCode}
use Rattle.cyc_types.specs.declared.typed.Operation.{Operation}
use Rattle.cyc_types.specs.declared.typed.Stmt.{Stmt}
use Rattle.cyc_types.specs.declared.typed.Stmt.TheVariants as stmt
use Rattle.cyc_types.specs.declared.typed.Item.{Item as ItemCode}
use Rattle.cyc_types.specs.declared.typed.Clause.{Clause}
use Rattle.cyc_types.specs.declared.typed.Body.{Body}
use Rattle.cyc_types.specs.Types.{Ty, words_of}
use Rattle.cyc_types.specs.TypeView.{view_ty, view_value_type}
use Rattle.cyc_types.specs.TypedTrees.{type_of, Arguments, Clauses, NoClauses}
use Rattle.cyc_types.specs.TypedTreeView.{view_expression, view_initial, view_statement, arguments_of, operations_of, items_of, clauses_of, default_of}
use Rattle.cyc_types.proofs.TypedTreeViewLemmas.{view_typed_call, view_typed_binary, view_typed_fields, view_block, view_typed_try}
use Rattle.cyc_meaning.specs.FrameCount.{result_words, operand_words, expression_need, initial_value_need, argument_words, arguments_need, operations_need, statement_need, items_need, clauses_need, kept_by, kept_by_items, kept_by_clauses, words_of_all}
use Rattle.cyc_sizes.specs.inside.Needs.{operands_need}

-- ---- arguments

-- Says that the frame words needed by the arguments so far, combined with those of the remaining ones, are those of all; `first`
-- words precede the first argument.
abbrev pub ArgumentsLeft : List ConvertedCode → (first i need before : ℕ) → Type 0
ArgumentsLeft cs first i need before =
    (max need (arguments_need (arguments_of (drop i cs)) before) ≡ arguments_need (arguments_of cs) first)
    × (before + argument_words (arguments_of (drop i cs)) ≡ first + argument_words (arguments_of cs))

-- ---- chains

abbrev pub OperationsLeft : List Operation → Ty → (first i need left : ℕ) → Type 0
OperationsLeft os t first i need left = max need (operations_need (operations_of (drop i os)) t left) ≡ operations_need (operations_of os) t first

-- ---- blocks

abbrev pub ItemsLeft : List ItemCode → (i need : ℕ) → Type 0
ItemsLeft js i need = max need (items_need (items_of (drop i js))) ≡ items_need (items_of js)

-- Says that the frame words reserved for the declarations and statements counted so far, plus those for the remaining ones, are
-- those reserved for the complete block.
abbrev pub ItemsKeptLeft : List ItemCode → (i words : ℕ) → Type 0
ItemsKeptLeft js i words = words + kept_by_items (items_of (drop i js)) ≡ kept_by_items (items_of js)

-- ---- clauses

abbrev pub ClausesLeft : List Clause → (i need : ℕ) → Type 0
ClausesLeft cs i need = max need (clauses_need (clauses_of (drop i cs) NoClauses)) ≡ clauses_need (clauses_of cs NoClauses)

abbrev pub ClausesKeptLeft : List Clause → (i words : ℕ) → Type 0
ClausesKeptLeft cs i words = words + kept_by_clauses (clauses_of (drop i cs) NoClauses) ≡ kept_by_clauses (clauses_of cs NoClauses)

-- The frame words that catch clauses with a `default` clause need are the maximum of those that the `default` clause needs and those that
-- the other clauses need.
pub clauses_need_with : (cs : List Clause) (default : Clauses) → clauses_need (clauses_of cs default) ≡ max (clauses_need (clauses_of cs NoClauses)) (clauses_need default)
clauses_need_with [] default = omega arith
clauses_need_with (c ∷ cs) default = omega (arith, clauses_need_with cs default)

pub clauses_kept_with : (cs : List Clause) (default : Clauses) → kept_by_clauses (clauses_of cs default) ≡ kept_by_clauses (clauses_of cs NoClauses) + kept_by_clauses default
clauses_kept_with [] default = omega arith
clauses_kept_with (c ∷ cs) default = omega (arith, clauses_kept_with cs default)

-- ---- types

abbrev pub WordsLeft : List TyCode → (i words : ℕ) → Type 0
WordsLeft ts i words = words + words_of_all (map view_ty (drop i ts)) ≡ words_of_all (map view_ty ts)

module _ (ts : List TyCode) (i words : ℕ) (t : TyCode) (inside : i < length ts) (at : t ≡ get_or ts i t) where
  pub words_left : WordsLeft ts i words → words + (words_of (view_ty t) + words_of_all (map view_ty (drop (i + 1) ts))) ≡ words_of_all (map view_ty ts)
  words_left h =
      let here : drop i ts ≡ t ∷ drop (i + 1) ts = drop_more ts i t inside ∙ ap (λ (y : TyCode). y ∷ drop (i + 1) ts) (sym at) in
      ap (λ (xs : List TyCode). words + words_of_all (map view_ty xs)) (sym here) ∙ h

-- ---- nodes that contain lists

nothing_before : (cs : Arguments) (own : ℕ) → max (argument_words cs + own) (arguments_need cs 0) ≡ operands_need cs 0 own
nothing_before cs own = omega arith

pub call_needs : (value : Expr) {w : _} (f : Callee) (v : Vec ConvertedCode Heap) (t : ValueTypeCode) → value ≡ expr.Call w f v t → (items : List ConvertedCode) → items ≡ v.items
    → expression_need (view_expression value) ≡ operands_need (arguments_of items) 0 (result_words (view_value_type t))
call_needs value {w} f v t is items same =
    ap (λ (x : Expr). expression_need (view_expression x)) is ∙ ap expression_need (view_typed_call w f v t) ∙ nothing_before (arguments_of v.items) (result_words (view_value_type t))
    ∙ ap (λ (cs : List ConvertedCode). operands_need (arguments_of cs) 0 (result_words (view_value_type t))) (sym same)

pub fields_need : (value : Initial) (v : Vec ConvertedCode Heap) (handle own : ℕ) → value ≡ initial.Fields v → (items : List ConvertedCode) → items ≡ v.items
    → initial_value_need (view_initial value) handle own ≡ operands_need (arguments_of items) handle own
fields_need value v handle own is items same =
    ap (λ (x : Initial). initial_value_need (view_initial x) handle own) is ∙ ap (λ x. initial_value_need x handle own) (view_typed_fields v)
    ∙ ap (λ (cs : List ConvertedCode). operands_need (arguments_of cs) handle own) (sym same)

pub binary_needs : (value : Expr) (b : Box Expr Heap) (v : Vec Operation Heap) (t : TyCode) → value ≡ expr.Binary b v t → (first : Expr) → first ≡ b.value → (items : List Operation) → items ≡ v.items
    → expression_need (view_expression value) ≡ max (expression_need (view_expression first)) (operations_need (operations_of items) (view_ty t) (operand_words (type_of (view_expression first))))
binary_needs value b v t is first at items same =
    ap (λ (x : Expr). expression_need (view_expression x)) is ∙ ap expression_need (view_typed_binary b v t)
    ∙ ap (λ (x : Expr). max (expression_need (view_expression x)) (operations_need (operations_of v.items) (view_ty t) (operand_words (type_of (view_expression x))))) (sym at)
    ∙ ap (λ (os : List Operation). max (expression_need (view_expression first)) (operations_need (operations_of os) (view_ty t) (operand_words (type_of (view_expression first))))) (sym same)

pub block_needs : (value : Stmt) (r : ℕ) (v : Vec ItemCode Heap) → value ≡ stmt.Block r v → (items : List ItemCode) → items ≡ v.items → statement_need (view_statement value) ≡ items_need (items_of items)
block_needs value r v is items same =
    ap (λ (x : Stmt). statement_need (view_statement x)) is ∙ ap statement_need (view_block r v) ∙ ap (λ (js : List ItemCode). items_need (items_of js)) (sym same)

pub block_keeps : (value : Stmt) (r : ℕ) (v : Vec ItemCode Heap) → value ≡ stmt.Block r v → (items : List ItemCode) → items ≡ v.items → kept_by (view_statement value) ≡ kept_by_items (items_of items)
block_keeps value r v is items same =
    ap (λ (x : Stmt). kept_by (view_statement x)) is ∙ ap kept_by (view_block r v) ∙ ap (λ (js : List ItemCode). kept_by_items (items_of js)) (sym same)

module _ (value : Stmt) {w : _} (b : Box Stmt Heap) (v : Vec Clause Heap) (d : Option Body) (is : value ≡ stmt.Try w b v d) (body : Stmt) (at : body ≡ b.value) (clauses : List Clause) (same : clauses ≡ v.items) where
  pub try_needs : statement_need (view_statement value) ≡ max (statement_need (view_statement body)) (max (clauses_need (clauses_of clauses NoClauses)) (clauses_need (default_of d)))
  try_needs =
      ap (λ (x : Stmt). statement_need (view_statement x)) is ∙ ap statement_need (view_typed_try w b v d)
      ∙ ap (λ (n : ℕ). max (statement_need (view_statement b.value)) n) (clauses_need_with v.items (default_of d))
      ∙ ap (λ (x : Stmt). max (statement_need (view_statement x)) (max (clauses_need (clauses_of v.items NoClauses)) (clauses_need (default_of d)))) (sym at)
      ∙ ap (λ (cs : List Clause). max (statement_need (view_statement body)) (max (clauses_need (clauses_of cs NoClauses)) (clauses_need (default_of d)))) (sym same)

  pub try_keeps : kept_by (view_statement value) ≡ 6 + kept_by (view_statement body) + (kept_by_clauses (clauses_of clauses NoClauses) + kept_by_clauses (default_of d))
  try_keeps =
      ap (λ (x : Stmt). kept_by (view_statement x)) is ∙ ap kept_by (view_typed_try w b v d)
      ∙ ap (λ (n : ℕ). 6 + kept_by (view_statement b.value) + n) (clauses_kept_with v.items (default_of d))
      ∙ ap (λ (x : Stmt). 6 + kept_by (view_statement x) + (kept_by_clauses (clauses_of v.items NoClauses) + kept_by_clauses (default_of d))) (sym at)
      ∙ ap (λ (cs : List Clause). 6 + kept_by (view_statement body) + (kept_by_clauses (clauses_of cs NoClauses) + kept_by_clauses (default_of d))) (sym same)
