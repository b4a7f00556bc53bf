-- The code of exception handlers is emitted piece by piece: catch clauses, whose jumps get their targets later. The code of
-- exception handlers also needs slots other than those of variables, for example for handler records.
use Rattle.std.proofs.Common.{◌≡◌, ℕ, zero, suc, ◌+◌, ◌≤◌, ◌<◌, List, [], ◌∷◌, ◌++◌, length, get_or, set, Option, None, Some, refl, sym, ap, ◌∙◌, arith, append_assoc, length-set}
use Rattle.std.proofs.lemmas.List.{drop_all, length-append}
use Rattle.std.specs.declared.vec.Vec.{Vec}
use Rattle.std.specs.declared.boxed.Box.{Box}
use Rattle.std.specs.declared.alloc.Global.{Global as Heap}
use Rattle.cyc_words.specs.declared.span.Span.{Span}
use Rattle.cyc_types.specs.declared.typed.Stmt.{Stmt}
use Rattle.cyc_types.specs.declared.typed.Stmt.TheVariants as stmt
use Rattle.cyc_types.specs.declared.typed.Clause.{Clause}
use Rattle.cyc_types.specs.declared.typed.Body.{Body}
use Rattle.cyc_types.specs.TypedTrees.{Statement, Try, Items, NoItems, Clauses, NoClauses, Default}
use Rattle.cyc_types.specs.TypedTreeView.{view_statement, items_of, clauses_of, default_of}
use Rattle.cyc_types.proofs.TypedTreeViewLemmas.{view_typed_try}
use Rattle.cyc_plain.specs.declared.instruction.Instruction.{Instruction}
use Rattle.cyc_plain.specs.declared.instruction.Instruction.TheVariants as instructions
use Rattle.cyc_meaning.specs.FrameCount.{kept_by_items, kept_by_clauses}
use Rattle.cyc_lower_proof.specs.declared.exits.Exits.{Exits}
use Rattle.cyc_lower_proof.specs.inside.Slots.{Starts}
use Rattle.cyc_lower_proof.specs.inside.ControlCode.{other_jump, inside_try, after_record, after_record_in, kept_code, restored_code}
use Rattle.cyc_lower_proof.specs.inside.Lowering.{statement_code, clauses_code, caught_code, items_code}
use Rattle.cyc_lower.specs.inside.Emission.{case_code, caught_items_code, BeginClauses}
use Rattle.cyc_lower.proofs.emission.Emitting.{Remains, goes_on_by, emitted_joined, written_back}
use Rattle.cyc_lower.proofs.emission.Branching.{branched}

-- ---- kept slots

pub kept_of_clause : (cs : List Clause) (i : ℕ) (x : Clause) → i < length cs → x ≡ get_or cs i x → kept_by_items (items_of x.items.items) ≤ kept_by_clauses (clauses_of cs NoClauses)
kept_of_clause [] i x inside at = absurd (omega (arith, inside))
kept_of_clause (y ∷ cs) zero x inside at = let e = ap (λ (z : Clause). kept_by_items (items_of z.items.items)) at in omega (arith, e)
kept_of_clause (y ∷ cs) (suc i) x inside at = omega (arith, kept_of_clause cs i x (omega (arith, inside)) at)

-- ---- clauses

abbrev pub all_clauses : Starts → Clauses → (out : ℕ) → Exits → List Clause → (p t : ℕ) → List Instruction
all_clauses starts default out exits cs p t = clauses_code starts (clauses_of cs default) p out exits t

abbrev pub one_clause : Starts → (out : ℕ) → Exits → Clause → List Clause → (p t : ℕ) → List Instruction
one_clause starts out exits c cs p t = case_code starts c.tag c.number (items_of c.items.items) p out exits t

abbrev pub next_clause : Clause → List Clause → (t : ℕ) → ℕ
next_clause c cs t = t

-- Once all catch clauses are visited, the code of all catch clauses has been emitted.
pub made_clauses : (starts : Starts) (out : ℕ) (exits : Exits) (old : List Instruction) (cs : List Clause) (i : ℕ) (code : List Instruction) (t : ℕ) → length cs ≤ i
    → ((default : Clauses) → Remains (all_clauses starts default out exits) old cs t i code t) → BeginClauses starts cs out exits t old code
made_clauses starts out exits old cs i code t done r default =
    ap (λ (xs : List Clause). code ++ all_clauses starts default out exits xs (length code) t) (sym (drop_all i cs done)) ∙ r default

-- Emitting one more catch clause keeps the invariant of the loop over the catch clauses.
pub more_clauses : (starts : Starts) (out : ℕ) (exits : Exits) (old : List Instruction) (cs : List Clause) (i : ℕ) (code new : List Instruction) (t : ℕ) (x : Clause) → i < length cs → x ≡ get_or cs i x
    → new ≡ code ++ case_code starts x.tag x.number (items_of x.items.items) (length code) out exits t
    → ((default : Clauses) → Remains (all_clauses starts default out exits) old cs t i code t) → (default : Clauses) → Remains (all_clauses starts default out exits) old cs t (i + 1) new t
more_clauses starts out exits old cs i code new t x inside at is r default =
    goes_on_by (all_clauses starts default out exits) (one_clause starts out exits) next_clause (λ c rest p s. refl) old cs t i code new t x inside at is (r default)

-- The code of a default clause does not depend on where the catch clauses before it jump.
default_alike : (starts : Starts) (d : Option Body) (p out : ℕ) (exits : Exits) (t : ℕ) → clauses_code starts (default_of d) p 0 exits t ≡ clauses_code starts (default_of d) p out exits t
default_alike starts None p out exits t = refl
default_alike starts (Some body) p out exits t = refl

-- ---- a clause

module _ (starts : Starts) (tag : ℕ) (x : Option ℕ) (js : Items) (out : ℕ) (exits : Exits) (t : ℕ) (old : List Instruction) (jump : Instruction) (m1 m2 m3 m4 m5 : List Instruction) (over : ℕ) where
  pub made_clause : over ≡ length old → m1 ≡ old ++ jump ∷ [] → m2 ≡ m1 ++ caught_code starts x t → m3 ≡ m2 ++ items_code starts js (length m2) exits t → m4 ≡ m3 ++ instructions.Jump out ∷ []
      → m5 ≡ set m4 over (other_jump tag t (length m4)) → m5 ≡ old ++ case_code starts tag x js (length old) out exits t
  made_clause at e1 e2 e3 e4 e5 =
      let inner : ℕ → List Instruction = λ p. caught_items_code starts x js p exits t in
      let body : ℕ → List Instruction = λ p. inner p ++ instructions.Jump out ∷ [] in
      let first = caught_code starts x t in
      let l2 : length m2 ≡ length m1 + length first = ap length e2 ∙ length-append m1 first in
      let made : m3 ≡ m1 ++ inner (length m1)
      = e3 ∙ ap (λ (n : ℕ). m2 ++ items_code starts js n exits t) l2 ∙ ap (λ (l : List Instruction). l ++ items_code starts js (length m1 + length first) exits t) e2
      ∙ append_assoc m1 first (items_code starts js (length m1 + length first) exits t) in
      let whole : m4 ≡ m1 ++ body (length m1) = e4 ∙ ap (λ (l : List Instruction). l ++ instructions.Jump out ∷ []) made ∙ append_assoc m1 (inner (length m1)) (instructions.Jump out ∷ []) in
      let long : length old + 1 + length (body (length old + 1)) ≡ length old + 1 + length (inner (length old + 1)) + 1
      = let e = length-append (inner (length old + 1)) (instructions.Jump out ∷ []) in omega (arith, e) in
      written_back old jump body (λ (n : ℕ). other_jump tag t n) m1 m4 m5 e1 whole (e5 ∙ ap (λ (n : ℕ). set m4 n (other_jump tag t (length m4))) at)
      ∙ ap (λ (n : ℕ). old ++ other_jump tag t n ∷ body (length old + 1)) long

-- ---- a `try`

module _ (starts : Starts) (s : Statement) (cs : Clauses) (exits : Exits) (t : ℕ) (old : List Instruction) (x y : Instruction) (m0 m1 m2 m3 m4 m5 m6 m7 m8 : List Instruction) (opening out : ℕ) where
  pub made_try : m0 ≡ old ++ kept_code starts t → opening ≡ length m0 → m1 ≡ m0 ++ x ∷ [] → m2 ≡ m1 ++ statement_code starts s (length m1) (inside_try exits t) (after_record starts t) → m3 ≡ m2 ++ instructions.Leave t ∷ []
      → out ≡ length m3 → m4 ≡ m3 ++ y ∷ [] → m5 ≡ set m4 opening (instructions.Try t (length m4)) → m6 ≡ m5 ++ restored_code starts t → m7 ≡ m6 ++ clauses_code starts cs (length m6) out exits t
      → m8 ≡ set m7 out (instructions.Jump (length m7)) → m8 ≡ old ++ statement_code starts (Try s cs) (length old) exits t
  made_try e0 h1 e1 e2 e3 h2 e4 e5 e6 e7 e8 =
      let kept = kept_code starts t in
      let restored = restored_code starts t in
      let first : ℕ → List Instruction = λ p. statement_code starts s p (inside_try exits t) (after_record starts t) ++ instructions.Leave t ∷ [] in
      let second : ℕ → List Instruction = λ p. restored ++ clauses_code starts cs (p + length restored) out exits t in
      let p = length old + length kept + 1 in
      let q = p + length (first p) + 1 in
      let made : m3 ≡ m1 ++ first (length m1)
      = e3 ∙ ap (λ (l : List Instruction). l ++ instructions.Leave t ∷ []) e2 ∙ append_assoc m1 (statement_code starts s (length m1) (inside_try exits t) (after_record starts t)) (instructions.Leave t ∷ []) in
      let l0 : length m0 ≡ length old + length kept = ap length e0 ∙ length-append old kept in
      let l1 : length m1 ≡ p = ap length e1 ∙ length-append m0 (x ∷ []) ∙ ap (λ (n : ℕ). n + 1) l0 in
      let there : out ≡ p + length (first p) = h2 ∙ ap length made ∙ length-append m1 (first (length m1)) ∙ ap (λ (n : ℕ). n + length (first n)) l1 in
      let following : m7 ≡ m5 ++ second (length m5) = emitted_joined m5 restored (λ (n : ℕ). clauses_code starts cs n out exits t) m6 m7 e6 e7 in
      branched old (λ _. kept) (λ _ code. code) (λ rest target. refl) (λ target. refl) x y first second (λ (n : ℕ). instructions.Try t n) (λ (n : ℕ). instructions.Jump n) m0 m1 m3 m4 m5 m7 m8
      e0 e1 made e4 (e5 ∙ ap (λ (n : ℕ). set m4 n (instructions.Try t (length m4))) h1) following (e8 ∙ ap (λ (n : ℕ). set m7 n (instructions.Jump (length m7))) h2)
      p refl q refl
      ∙ ap (λ (n : ℕ). old ++ (kept ++ (instructions.Try t q ∷ (first p ++ (instructions.Jump (q + length (restored ++ clauses_code starts cs (q + length restored) n exits t)) ∷ (restored ++ clauses_code starts cs (q + length restored) n exits t)))))) there

module _ (starts : Starts) (value : Stmt) {w : Span} (b : Box Stmt Heap) (v : Vec Clause Heap) (d : Option Body) (is : value ≡ stmt.Try w b v d) (body : Stmt) (at : body ≡ b.value) (clauses : List Clause) (same : clauses ≡ v.items) (exits : Exits) (t : ℕ) (old : List Instruction) (x : Instruction) (m0 m1 m2 m3 m4 m5 m6 m7 : List Instruction) (opening out : ℕ) where
  pub made_handler : m0 ≡ old ++ kept_code starts t → opening ≡ length m0 → m1 ≡ m0 ++ x ∷ [] → m2 ≡ m1 ++ statement_code starts (view_statement body) (length m1) (inside_try exits t) (after_record starts t) → out ≡ length m2 + 1
      → m3 ≡ set (m2 ++ instructions.Leave t ∷ instructions.Jump 0 ∷ []) opening (instructions.Try t (length m2 + 2)) → m4 ≡ m3 ++ restored_code starts t → BeginClauses starts clauses out exits t m4 m5
      → m6 ≡ m5 ++ clauses_code starts (default_of d) (length m5) 0 exits t → m7 ≡ set m6 out (instructions.Jump (length m6))
      → m7 ≡ old ++ statement_code starts (view_statement value) (length old) exits t
  made_handler e0 h1 e1 e2 h2 e3 e4 begin e6 e7 =
      let left = m2 ++ instructions.Leave t ∷ [] in
      let jumped = left ++ instructions.Jump 0 ∷ [] in
      let long : length left ≡ length m2 + 1 = length-append m2 (instructions.Leave t ∷ []) in
      let longer : length jumped ≡ length left + 1 = length-append left (instructions.Jump 0 ∷ []) in
      let all : length m2 + 2 ≡ length jumped = omega (arith, long, longer) in
      let cs = clauses_of clauses (default_of d) in
      let e : view_statement value ≡ Try (view_statement body) cs
      = ap view_statement is ∙ view_typed_try w b v d ∙ ap (λ (x : Stmt). Try (view_statement x) (clauses_of v.items (default_of d))) (sym at)
      ∙ ap (λ (cs : List Clause). Try (view_statement body) (clauses_of cs (default_of d))) (sym same) in
      made_try starts (view_statement body) cs exits t old x (instructions.Jump 0) m0 m1 m2 left jumped m3 m4 m6 m7 opening out
      e0 h1 e1 e2 refl (h2 ∙ sym long) refl
      (e3 ∙ ap (λ (l : List Instruction). set l opening (instructions.Try t (length m2 + 2))) (sym (append_assoc m2 (instructions.Leave t ∷ []) (instructions.Jump 0 ∷ [])))
      ∙ ap (λ (n : ℕ). set jumped opening (instructions.Try t n)) all)
      e4
      (e6 ∙ ap (λ (l : List Instruction). m5 ++ l) (default_alike starts d (length m5) out exits t) ∙ begin (default_of d)) e7
      ∙ ap (λ (s : Statement). old ++ statement_code starts s (length old) exits t) (sym e)

-- The record of an exception handler, with the number of open regions stored after it, takes at most six slots.
pub record_room : (scopes : Option ℕ) (t : ℕ) → after_record_in scopes t ≤ t + 6
record_room None t = omega arith
record_room (Some place) t = omega arith

-- ---- lengths

pub clauses_longer : (starts : Starts) (cs : List Clause) (out : ℕ) (exits : Exits) (t : ℕ) (old new : List Instruction) → BeginClauses starts cs out exits t old new → length old ≤ length new
clauses_longer starts cs out exits t old new begin =
    let more = clauses_code starts (clauses_of cs (Default 0 NoItems)) (length old) out exits t in
    let e : length (new ++ []) ≡ length (old ++ more) = ap length (begin (Default 0 NoItems)) in
    omega (arith, e, length-append new [], length-append old more)

pub body_longer : (old new : List Instruction) (x y z : Instruction) (n : ℕ) → new ≡ set (old ++ x ∷ y ∷ []) n z → length new ≡ length old + 2
body_longer old new x y z n is = ap length is ∙ length-set (old ++ x ∷ y ∷ []) n z ∙ length-append old (x ∷ y ∷ [])
