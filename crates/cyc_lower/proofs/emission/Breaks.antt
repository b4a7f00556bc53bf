-- The search for a `break` that leaves the body of a loop visits one declaration or statement after the other.
use Rattle.std.proofs.Common.{◌≡◌, ℕ, Bool, true, false, List, [], ◌∷◌, drop, Option, refl, sym, ap, ◌∙◌}
use Rattle.std.specs.Prelude.{◌||◌}
use Rattle.cyc_words.proofs.Booleans.{or_assoc}
use Rattle.std.specs.declared.vec.Vec.{Vec}
use Rattle.std.specs.declared.boxed.Box.{Box}
use Rattle.std.specs.declared.alloc.Global.{Global as Heap}
use Rattle.cyc_types.specs.declared.typed.Stmt.{Stmt}
use Rattle.cyc_types.specs.declared.typed.Stmt.TheVariants as stmt
use Rattle.cyc_types.specs.declared.typed.Item.{Item as ItemCode}
use Rattle.cyc_types.specs.declared.typed.Clause.{Clause}
use Rattle.cyc_types.specs.declared.typed.Body.{Body}
use Rattle.cyc_types.specs.TypedTrees.{Clauses, NoClauses}
use Rattle.cyc_types.specs.TypedTreeView.{view_statement, items_of, clauses_of, default_of}
use Rattle.cyc_types.proofs.TypedTreeViewLemmas.{view_block, view_typed_try}
use Rattle.cyc_lower_proof.specs.inside.ControlCode.{breaks, items_break, clauses_break}

-- ---- the items of a block

abbrev pub ItemsStay : List ItemCode → (i : ℕ) → Type 0
ItemsStay js i = items_break (items_of (drop i js)) ≡ items_break (items_of js)

-- ---- the clauses of a `try`

abbrev pub ClausesStay : List Clause → (i : ℕ) → Type 0
ClausesStay cs i = clauses_break (clauses_of (drop i cs) NoClauses) ≡ clauses_break (clauses_of cs NoClauses)

-- ---- statements with lists

clauses_break_with : (cs : List Clause) (default : Clauses) → clauses_break (clauses_of cs default) ≡ (clauses_break (clauses_of cs NoClauses) || clauses_break default)
clauses_break_with [] default = refl
clauses_break_with (c ∷ cs) default =
    ap (λ (b : Bool). items_break (items_of c.items.items) || b) (clauses_break_with cs default)
    ∙ sym (or_assoc (items_break (items_of c.items.items)) (clauses_break (clauses_of cs NoClauses)) (clauses_break default))

pub block_breaks : (value : Stmt) (r : ℕ) (v : Vec ItemCode Heap) → value ≡ stmt.Block r v → (items : List ItemCode) → items ≡ v.items → breaks (view_statement value) ≡ items_break (items_of items)
block_breaks value r v is items same =
    ap (λ (x : Stmt). breaks (view_statement x)) is ∙ ap breaks (view_block r v) ∙ ap (λ (js : List ItemCode). items_break (items_of js)) (sym same)

pub try_breaks : (value : Stmt) {w : _} (b : Box Stmt Heap) (v : Vec Clause Heap) (d : Option Body) → value ≡ stmt.Try w b v d → (body : Stmt) → body ≡ b.value → (clauses : List Clause) → clauses ≡ v.items
    → breaks (view_statement value) ≡ (breaks (view_statement body) || (clauses_break (clauses_of clauses NoClauses) || clauses_break (default_of d)))
try_breaks value {w} b v d is body at clauses same =
    ap (λ (x : Stmt). breaks (view_statement x)) is ∙ ap breaks (view_typed_try w b v d)
    ∙ ap (λ (n : Bool). breaks (view_statement b.value) || n) (clauses_break_with v.items (default_of d))
    ∙ ap (λ (x : Stmt). breaks (view_statement x) || (clauses_break (clauses_of v.items NoClauses) || clauses_break (default_of d))) (sym at)
    ∙ ap (λ (cs : List Clause). breaks (view_statement body) || (clauses_break (clauses_of cs NoClauses) || clauses_break (default_of d))) (sym same)

module _ (value : Stmt) {w : _} (b : Box Stmt Heap) (v : Vec Clause Heap) (d : Option Body) (is : value ≡ stmt.Try w b v d) (body : Stmt) (at : body ≡ b.value) where
  pub body_leaves : breaks (view_statement body) ≡ true → true ≡ breaks (view_statement value)
  body_leaves some =
      sym (try_breaks value b v d is body at v.items refl ∙ ap (λ (x : Bool). x || (clauses_break (clauses_of v.items NoClauses) || clauses_break (default_of d))) some)

  module _ (clauses : List Clause) (same : clauses ≡ v.items) (none : breaks (view_statement body) ≡ false) where
    others_break : breaks (view_statement value) ≡ (clauses_break (clauses_of clauses NoClauses) || clauses_break (default_of d))
    others_break = try_breaks value b v d is body at clauses same ∙ ap (λ (x : Bool). x || (clauses_break (clauses_of clauses NoClauses) || clauses_break (default_of d))) none

    pub clauses_leave : clauses_break (clauses_of clauses NoClauses) ≡ true → true ≡ breaks (view_statement value)
    clauses_leave some = sym (others_break ∙ ap (λ (x : Bool). x || clauses_break (default_of d)) some)

    pub default_leaves : clauses_break (clauses_of clauses NoClauses) ≡ false → clauses_break (default_of d) ≡ breaks (view_statement value)
    default_leaves stay = sym (others_break ∙ ap (λ (x : Bool). x || clauses_break (default_of d)) stay)
