-- How the code collects the types of the locals that a typed body declares, one statement, declaration or catch clause after the other.
use Rattle.std.proofs.Common.{◌≡◌, ◌+◌, List, [], ◌∷◌, ◌++◌, Option, None, Some, refl, sym, ap, ◌∙◌, append_assoc}
use Rattle.std.specs.declared.vec.Vec.{Vec}
use Rattle.std.specs.declared.boxed.Box.{Box}
use Rattle.std.specs.declared.alloc.Global.{Global as Heap}
use Rattle.cyc_words.specs.declared.span.Span.{Span}
use Rattle.cyc_types.specs.Types.{Ty}
use Rattle.cyc_types.specs.declared.typed.Body.{Body}
use Rattle.cyc_types.specs.declared.typed.Item.{Item as ItemCode}
use Rattle.cyc_types.specs.declared.typed.Clause.{Clause}
use Rattle.cyc_types.specs.declared.typed.Stmt.{Stmt as StmtCode}
use Rattle.cyc_types.specs.declared.typed.Stmt.TheVariants as stmt
use Rattle.cyc_types.specs.TypedTrees.{Statement, Clauses, NoClauses, Try}
use Rattle.cyc_types.specs.TypedTreeView.{view_statement, items_of, default_of, clauses_of}
use Rattle.cyc_types.specs.Declarations.{declared_types, item_types, clause_types, caught_types}
use Rattle.cyc_types.proofs.TypedTreeViewLemmas.{view_typed_try}

-- The types of the locals that catch clauses with a default clause declare are those of the clauses, followed by those
-- of the default clause.
pub types_with_default : (cs : List Clause) (d : Clauses) → clause_types (clauses_of cs d) ≡ clause_types (clauses_of cs NoClauses) ++ clause_types d
types_with_default [] d = refl
types_with_default (c ∷ cs) d =
    ap (λ ts. caught_types c.number ++ (item_types (items_of c.items.items) ++ ts)) (types_with_default cs d)
    ∙ ap (λ ts. caught_types c.number ++ ts) (sym (append_assoc (item_types (items_of c.items.items)) (clause_types (clauses_of cs NoClauses)) (clause_types d)))
    ∙ sym (append_assoc (caught_types c.number) (item_types (items_of c.items.items) ++ clause_types (clauses_of cs NoClauses)) (clause_types d))

-- ---- a catch with and without a default clause

pub try_viewed : (s : StmtCode) {w : Span} (b : Box StmtCode Heap) (v : Vec Clause Heap) (d : Option Body) → s ≡ stmt.Try w b v d → view_statement s ≡ Try (view_statement b.value) (clauses_of v.items (default_of d))
try_viewed s {w} b v d is = ap view_statement is ∙ view_typed_try w b v d

both_declared : (old one two : List Ty) (b d : StmtCode) (cs ks : List Clause) → d ≡ b → ks ≡ cs → one ≡ old ++ declared_types (view_statement d) → two ≡ one ++ clause_types (clauses_of ks NoClauses)
    → two ≡ old ++ (declared_types (view_statement b) ++ clause_types (clauses_of cs NoClauses))
both_declared old one two b d cs ks base list h k =
    k ∙ ap (λ ts. ts ++ clause_types (clauses_of ks NoClauses)) h ∙ append_assoc old (declared_types (view_statement d)) (clause_types (clauses_of ks NoClauses))
    ∙ ap (λ x. old ++ (declared_types (view_statement x) ++ clause_types (clauses_of ks NoClauses))) base ∙ ap (λ xs. old ++ (declared_types (view_statement b) ++ clause_types (clauses_of xs NoClauses))) list

pub try_types : (old one two : List Ty) (s : Statement) (b d : StmtCode) (cs ks : List Clause) (o : Option Body) → s ≡ Try (view_statement b) (clauses_of cs (default_of o)) → d ≡ b → ks ≡ cs → o ≡ None
    → one ≡ old ++ declared_types (view_statement d) → two ≡ one ++ clause_types (clauses_of ks NoClauses) → two ≡ old ++ declared_types s
try_types old one two s b d cs ks o is base list none h k =
    both_declared old one two b d cs ks base list h k ∙ sym (ap (λ x. old ++ declared_types x) is ∙ ap (λ x. old ++ (declared_types (view_statement b) ++ clause_types (clauses_of cs (default_of x)))) none)

pub default_types : (old one two : List Ty) (s : Statement) (b d : StmtCode) (cs ks : List Clause) (o : Option Body) (last : Body) (is : List ItemCode) → s ≡ Try (view_statement b) (clauses_of cs (default_of o)) → d ≡ b → ks ≡ cs → o ≡ Some last
    → is ≡ last.items.items → one ≡ old ++ declared_types (view_statement d) → two ≡ one ++ clause_types (clauses_of ks NoClauses) → two ++ item_types (items_of is) ≡ old ++ declared_types s
default_types old one two s b d cs ks o last is same base list some items h k =
    ap (λ ts. ts ++ item_types (items_of is)) (both_declared old one two b d cs ks base list h k) ∙ append_assoc old (declared_types (view_statement b) ++ clause_types (clauses_of cs NoClauses)) (item_types (items_of is))
    ∙ ap (λ ts. old ++ ts) (append_assoc (declared_types (view_statement b)) (clause_types (clauses_of cs NoClauses)) (item_types (items_of is)))
    ∙ ap (λ xs. old ++ (declared_types (view_statement b) ++ (clause_types (clauses_of cs NoClauses) ++ item_types (items_of xs)))) items
    ∙ sym (ap (λ x. old ++ declared_types x) same ∙ ap (λ x. old ++ (declared_types (view_statement b) ++ clause_types (clauses_of cs (default_of x)))) some
    ∙ ap (λ ts. old ++ (declared_types (view_statement b) ++ ts)) (types_with_default cs (default_of (Some last))))
