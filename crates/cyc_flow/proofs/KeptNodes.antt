-- If a node of the typed tree contains a list of elements, the flow check computes the flow state after the node
-- from these elements, one after the other.
use Rattle.std.proofs.Common.{◌≡◌, ℕ, List, [], ◌++◌, Option, None, Some, Result, Ok, Err, sym, ap, subst, ◌∙◌}
use Rattle.std.specs.declared.vec.Vec.{Vec}
use Rattle.std.specs.declared.boxed.Box.{Box}
use Rattle.std.specs.declared.alloc.Global.{Global as Heap}
use Rattle.cyc_types.specs.declared.typed.Callee.{Callee}
use Rattle.cyc_types.specs.declared.typed.Converted.{Converted as ConvertedCode}
use Rattle.cyc_types.specs.declared.typed.Operation.{Operation}
use Rattle.cyc_types.specs.declared.typed.Expr.{Expr}
use Rattle.cyc_types.specs.declared.typed.Expr.TheVariants as expr
use Rattle.cyc_types.specs.declared.typed.Initial.{Initial as InitialCode}
use Rattle.cyc_types.specs.declared.typed.Initial.TheVariants as initial
use Rattle.cyc_types.specs.declared.typed.Stmt.{Stmt}
use Rattle.cyc_types.specs.declared.typed.Stmt.TheVariants as stmt
use Rattle.cyc_types.specs.declared.typed.Item.{Item as ItemCode}
use Rattle.cyc_types.specs.declared.typed.Side.{Side as SideCode}
use Rattle.cyc_types.specs.declared.typed.Body.{Body}
use Rattle.cyc_types.specs.declared.typed.Clause.{Clause}
use Rattle.cyc_words.specs.declared.span.Span.{Span}
use Rattle.cyc_syntax.specs.inside.TreeView.{place_of_span}
use Rattle.cyc_types.specs.declared.ty.Ty.{Ty}
use Rattle.cyc_types.specs.declared.typed.ValueType.{ValueType}
use Rattle.cyc_types.specs.TypeView.{view_ty, view_value_type}
use Rattle.cyc_types.specs.TypedTrees.{Expression, Initial, Statement, Call, Binary, Fields, Block, While, Try, Default}
use Rattle.cyc_types.specs.TypedTreeView.{view_expression, view_initial, arguments_of, operations_of, view_side, view_statement, items_of, default_of, clauses_of}
use Rattle.cyc_types.proofs.TypedTreeViewLemmas.{view_typed_call, view_typed_binary, view_typed_fields, view_block, view_typed_try}
use Rattle.cyc_types.specs.Rules.{Checked, and_then, run}
use Rattle.cyc_types.proofs.RuleLaws.{then_on}
use Rattle.cyc_types.specs.flow.States.{State, emptied}
use Rattle.cyc_types.specs.flow.Touched.{touched, touched_initial, touched_arguments, touched_operations, touched_side, touched_statement, touched_items, touched_clauses}
use Rattle.cyc_types.specs.flow.Expressions.{rule, rule_initial, rule_arguments, rule_operations}
use Rattle.cyc_types.specs.flow.Statements.{Loop, Around, Known, with_caught, or_clause, at_end, rule_swapped, rule_statement, rule_items, rule_clauses}
use Rattle.cyc_types.specs.flow.Programs.{in_function}
use Rattle.cyc_flow.specs.declared.expressions.Tracked.{Tracked}
use Rattle.cyc_flow.specs.declared.evaluation.Evaluation.{Evaluation}
use Rattle.cyc_flow.specs.declared.stop.Stop.{Stop}
use Rattle.cyc_flow.specs.declared.stop.Stop.TheVariants as stops
use Rattle.cyc_flow.specs.inside.Code.{Leads, Gives, GivesKnown, known}
use Rattle.cyc_flow.specs.inside.Steps.{stands}

module _ (value : Expr) {w' : Span} (f : Callee) (v : Vec ConvertedCode Heap) (of_type : ValueType) (is : value ≡ expr.Call w' f v of_type) (items : List ConvertedCode) (same : items ≡ v.items) (r : Result (Unit {0}) Stop) (w : Evaluation) (q : List ℕ) (s : State) (ns : List ℕ) (start : State) where
  pub kept_call : Leads r w (run (rule_arguments q (arguments_of items) s)) (touched_arguments (arguments_of items) ns) start → Leads r w (run (rule q (view_expression value) s)) (touched (view_expression value) ns) start
  kept_call h =
      let e : view_expression value ≡ Call f (arguments_of items) (view_value_type of_type)
      = ap view_expression is ∙ view_typed_call w' f v of_type ∙ ap (λ (cs : List ConvertedCode). Call f (arguments_of cs) (view_value_type of_type)) (sym same) in
      let P : Expression → Type 0 = λ a. Leads r w (run (rule q a s)) (touched a ns) start in
      subst P (sym e) h

module _ (value : Expr) (b : Box Expr Heap) (v : Vec Operation Heap) (of_type : Ty) (is : value ≡ expr.Binary b v of_type) (first : Expr) (at : first ≡ b.value) (items : List Operation) (same : items ≡ v.items) (r : Result (Unit {0}) Stop) (w : Evaluation) (q : List ℕ) (s following : State) (ns touches : List ℕ) (start now : State) where
  pub kept_binary : run (rule q (view_expression first) s) ≡ Ok following → touches ≡ touched (view_expression first) ns → now ≡ start
      → Leads r w (run (rule_operations q (operations_of items) following)) (touched_operations (operations_of items) touches) now → Leads r w (run (rule q (view_expression value) s)) (touched (view_expression value) ns) start
  kept_binary k d n h =
      let e : view_expression value ≡ Binary (view_expression first) (operations_of items) (view_ty of_type)
      = ap view_expression is ∙ view_typed_binary b v of_type ∙ ap (λ (os : List Operation). Binary (view_expression b.value) (operations_of os) (view_ty of_type)) (sym same) ∙ ap (λ (x : Expr). Binary (view_expression x) (operations_of items) (view_ty of_type)) (sym at) in
      let P : Expression → Type 0 = λ a. Leads r w (run (rule q a s)) (touched a ns) start in
      let Q : List ℕ → Type 0 = λ ms. Leads r w (run (rule_operations q (operations_of items) following)) (touched_operations (operations_of items) ms) start in
      let R : Checked State → Type 0 = λ o. Leads r w (and_then o (λ g. run (rule_operations q (operations_of items) g))) (touched_operations (operations_of items) (touched (view_expression first) ns)) start in
      let S : State → Type 0 = λ f. Leads r w (run (rule_operations q (operations_of items) following)) (touched_operations (operations_of items) touches) f in
      subst P (sym e) (subst R (sym k) (subst Q d (subst S n h)))

module _ (value : InitialCode) (v : Vec ConvertedCode Heap) (is : value ≡ initial.Fields v) (items : List ConvertedCode) (same : items ≡ v.items) (r : Result (Unit {0}) Stop) (w : Evaluation) (q : List ℕ) (s : State) (ns : List ℕ) (start : State) where
  pub kept_fields : Leads r w (run (rule_arguments q (arguments_of items) s)) (touched_arguments (arguments_of items) ns) start → Leads r w (run (rule_initial q (view_initial value) s)) (touched_initial (view_initial value) ns) start
  kept_fields h =
      let e : view_initial value ≡ Fields (arguments_of items) = ap view_initial is ∙ view_typed_fields v ∙ ap (λ (cs : List ConvertedCode). Fields (arguments_of cs)) (sym same) in
      let P : Initial → Type 0 = λ a. Leads r w (run (rule_initial q a s)) (touched_initial a ns) start in
      subst P (sym e) h

module _ (statement : Stmt) (region : ℕ) (v : Vec ItemCode Heap) (is : statement ≡ stmt.Block region v) (items : List ItemCode) (same : items ≡ v.items) (r : Result Tracked Stop) (c : Around) (k : Known) (ns : List ℕ) (breaks : State) where
  pub kept_block : GivesKnown r (and_then (run (rule_items c (items_of items) k)) (λ l. Ok (at_end (items_of items) l))) (touched_items (items_of items) ns) breaks
      → GivesKnown r (run (rule_statement c (view_statement statement) k)) (touched_statement (view_statement statement) ns) breaks
  kept_block h =
      let e : view_statement statement ≡ Block region (items_of items)
      = ap view_statement is ∙ view_block region v ∙ ap (λ (js : List ItemCode). Block region (items_of js)) (sym same) in
      let P : Statement → Type 0 = λ a. GivesKnown r (run (rule_statement c a k)) (touched_statement a ns) breaks in
      subst P (sym e) h

-- If a statement is an expression, the flow state after the statement is that after the expression.
-- The flow state at the `break` statements so far is unchanged.
gives_known : (r : Result Tracked Stop) (checked : Checked State) (ns : List ℕ) (breaks : State) → Gives r checked ns → GivesKnown r (and_then checked (λ f. Ok (known f breaks))) ns breaks
gives_known (Ok t) checked ns breaks (h, k) = (ap (λ (o : Checked State). and_then o (λ f. Ok (known f breaks))) h, k)
gives_known (Err stops.Memory) checked ns breaks h = tt
gives_known (Err (stops.Refused x n)) checked ns breaks h = ap (λ (o : Checked State). and_then o (λ f. Ok (known f breaks))) h

module _ (statement : Stmt) {span : Span} (x y : SideCode) (is : statement ≡ stmt.Swap span x y) (r : Result Tracked Stop) (c : Around) (f : State) (ns : List ℕ) (breaks : State) where
  pub kept_swap : Gives r (run (rule_swapped (view_side x) (view_side y) f)) (touched_side (view_side y) (touched_side (view_side x) ns))
      → GivesKnown r (run (rule_statement c (view_statement statement) (known f breaks))) (touched_statement (view_statement statement) ns) breaks
  kept_swap h =
      let P : Statement → Type 0 = λ s. GivesKnown r (run (rule_statement c s (known f breaks))) (touched_statement s ns) breaks in
      subst P (sym (ap view_statement is)) (gives_known r (run (rule_swapped (view_side x) (view_side y) f)) (touched_side (view_side y) (touched_side (view_side x) ns)) breaks h)

module _ (statement : Stmt) (span : Span) (condition : Expr) (b : Box Stmt Heap) (is : statement ≡ stmt.While span condition b) (body : Stmt) (at : body ≡ b.value) (r : Result Tracked Stop) (c : Around) (k : Known) (ns : List ℕ) (breaks : State) where
  pub kept_loop : GivesKnown r (run (rule_statement in_function (While (place_of_span span) (view_expression condition) (view_statement body)) k)) (touched_statement (view_statement body) (touched (view_expression condition) ns)) breaks
      → GivesKnown r (run (rule_statement c (view_statement statement) k)) (touched_statement (view_statement statement) ns) breaks
  kept_loop h =
      let e : view_statement statement ≡ While (place_of_span span) (view_expression condition) (view_statement body)
      = ap view_statement is ∙ ap (λ (s : Stmt). While (place_of_span span) (view_expression condition) (view_statement s)) (sym at) in
      let P : Statement → Type 0 = λ s. GivesKnown r (run (rule_statement c s k)) (touched_statement s ns) breaks in
      subst P (sym e) h

-- If the body of a `try` was checked without a fault, the flow check's result for the catch clauses is its result
-- for the whole `try` statement.
module _
    (statement : Stmt) {span : Span} (b : Box Stmt Heap) (v : Vec Clause Heap) (d : Option Body) (is : statement ≡ stmt.Try span b v d) (body : Stmt) (at : body ≡ b.value) (items : List Clause) (same : items ≡ v.items)
    (l : Option Loop) (locks later : List ℕ) (unlocked : later ≡ locks) (f breaks before end inside start now : State) (copied : before ≡ f) (goes_on : now ≡ end)
    (body_run : run (rule_statement (stands l locks) (view_statement body) (known f breaks)) ≡ Ok (known end inside)) (ns new ts all : List ℕ) (fresh : new ≡ [])
    (touches : ts ≡ touched_statement (view_statement body) new) (starts : start ≡ emptied ts before) (adds : all ≡ ns ++ ts) where
  whole : view_statement statement ≡ Try (view_statement body) (clauses_of items (default_of d))
  whole =
      ap view_statement is ∙ view_typed_try span b v d ∙ ap (λ (s : Stmt). Try (view_statement s) (clauses_of v.items (default_of d))) (sym at)
      ∙ ap (λ (cs : List Clause). Try (view_statement body) (clauses_of cs (default_of d))) (sym same)

  touches_all : ts ≡ touched_statement (view_statement body) []
  touches_all = touches ∙ ap (touched_statement (view_statement body)) fresh

  pub tried : run (rule_statement (stands l locks) (view_statement statement) (known f breaks)) ≡ run (rule_clauses (stands l later) start (clauses_of items (default_of d)) (known now inside))
  tried =
      let cs = clauses_of items (default_of d) in
      let starts_so : start ≡ emptied (touched_statement (view_statement body) []) f = starts ∙ ap (emptied ts) copied ∙ ap (λ (ms : List ℕ). emptied ms f) touches_all in
      ap (λ (s : Statement). run (rule_statement (stands l locks) s (known f breaks))) whole
      ∙ then_on (λ k. run (rule_clauses (stands l locks) (emptied (touched_statement (view_statement body) []) f) cs k)) body_run
      (ap (λ (g : State). run (rule_clauses (stands l locks) g cs (known end inside))) (sym starts_so)
      ∙ ap (λ (g : State). run (rule_clauses (stands l locks) start cs (known g inside))) (sym goes_on)
      ∙ ap (λ (ks : List ℕ). run (rule_clauses (stands l ks) start cs (known now inside))) (sym unlocked))

  pub tried_touched : touched_statement (view_statement statement) ns ≡ touched_clauses (clauses_of items (default_of d)) all
  tried_touched =
      ap (λ (s : Statement). touched_statement s ns) whole
      ∙ ap (touched_clauses (clauses_of items (default_of d))) (ap (λ (ms : List ℕ). ns ++ ms) (sym touches_all) ∙ sym adds)

-- The flow state after the catch clauses of a `try` is the state after the statement, or the state before the body of its default clause.
module _ (d : Option Body) (l : Option Loop) (locks : List ℕ) (start following breaks : State) (whole : Checked Known) (whole_touched ns : List ℕ)
    (run_on : whole ≡ run (rule_clauses (stands l locks) start (default_of d) (known following breaks))) (touched_on : whole_touched ≡ touched_clauses (default_of d) ns) where
  pub no_default : d ≡ None → (whole ≡ Ok (known following breaks)) × (ns ≡ whole_touched)
  no_default is =
      (run_on ∙ ap (λ (e : Option Body). run (rule_clauses (stands l locks) start (default_of e) (known following breaks))) is, sym (touched_on ∙ ap (λ (e : Option Body). touched_clauses (default_of e) ns) is))

  pub with_default : (b : Body) → d ≡ Some b → (items : List ItemCode) → items ≡ b.items.items → (later : List ℕ) → later ≡ locks → (r : Result Tracked Stop) (end : State)
      → GivesKnown r (and_then (run (rule_items (stands l later) (items_of items) (known (with_caught None start) breaks))) (λ k. Ok (or_clause following (items_of items) k))) (touched_items (items_of items) ns) end
      → GivesKnown r whole whole_touched end
  with_default b is items same later unlocked r end h =
      let run_so : whole ≡ and_then (run (rule_items (stands l later) (items_of items) (known (with_caught None start) breaks))) (λ k. Ok (or_clause following (items_of items) k)) =
      run_on
      ∙ ap (λ (e : Option Body). run (rule_clauses (stands l locks) start (default_of e) (known following breaks))) is
      ∙ ap (λ (ks : List ℕ). run (rule_clauses (stands l ks) start (Default b.region (items_of b.items.items)) (known following breaks))) (sym unlocked)
      ∙ ap (λ (js : List ItemCode). run (rule_clauses (stands l later) start (Default b.region (items_of js)) (known following breaks))) (sym same) in
      let touched_so : whole_touched ≡ touched_items (items_of items) ns =
      touched_on ∙ ap (λ (e : Option Body). touched_clauses (default_of e) ns) is ∙ ap (λ (js : List ItemCode). touched_items (items_of js) ns) (sym same) in
      let P : Checked Known → Type 0 = λ o. GivesKnown r o whole_touched end in
      let Q : List ℕ → Type 0 = λ ms. GivesKnown r (and_then (run (rule_items (stands l later) (items_of items) (known (with_caught None start) breaks))) (λ k. Ok (or_clause following (items_of items) k))) ms end in
      subst P (sym run_so) (subst Q (sym touched_so) h)
