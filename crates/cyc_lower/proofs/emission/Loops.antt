-- The code of loops is emitted piece by piece, with two jumps whose targets are set later. Of these two jumps of a loop, one goes to
-- the end of the loop, the other to the condition after the body.
use Rattle.std.proofs.Common.{◌≡◌, ℕ, ◌+◌, Bool, true, false, List, [], ◌∷◌, ◌++◌, length, set, refl, sym, ap, ◌∙◌, arith, append_assoc, subst}
use Rattle.std.specs.Prelude.{if◌then◌else◌}
use Rattle.std.proofs.lemmas.List.{length-append, length-set}
use Rattle.std.proofs.Math.Seq.{set-append_seam}
use Rattle.cyc_types.specs.declared.typed.LogicalOperator.TheVariants as logical
use Rattle.cyc_types.specs.TypedTrees.{Expression, Statement, While}
use Rattle.cyc_plain.specs.declared.instruction.Instruction.{Instruction}
use Rattle.cyc_plain.specs.declared.instruction.Instruction.TheVariants as instructions
use Rattle.cyc_lower_proof.specs.declared.condition.Condition.{Condition}
use Rattle.cyc_lower_proof.specs.declared.exits.Exits.{Exits}
use Rattle.cyc_lower_proof.specs.inside.Slots.{Starts}
use Rattle.cyc_lower_proof.specs.inside.ControlCode.{holding_jump, body_target, inside_loop, entry_code, entry_length, over_code, over_length, failing_jump, through_end}
use Rattle.cyc_lower_proof.specs.inside.Lowering.{is_guard, choice_code, choice_of, statement_code, goes_through}
use Rattle.cyc_lower_proof.proofs.emission.CodeLengths.{entry_long}
use Rattle.cyc_lower.specs.inside.Emission.{begun_loop, entered_loop, loop_code, through_loop}
use Rattle.std.specs.declared.boxed.Box.{Box}
use Rattle.std.specs.declared.alloc.Global.{Global as Heap}
use Rattle.cyc_words.specs.declared.span.Span.{Span}
use Rattle.cyc_syntax.specs.Symbols.{place_of_span}
use Rattle.cyc_types.specs.declared.typed.Expr.{Expr}
use Rattle.cyc_types.specs.declared.typed.Stmt.{Stmt}
use Rattle.cyc_types.specs.declared.typed.Stmt.TheVariants as stmt
use Rattle.cyc_types.specs.TypedTreeView.{view_expression, view_statement}

-- Setting the target of the jump at a loop's entry does not change the length of the code.
pub entering_keeps : (starts : Starts) (a : Expression) (code : List Instruction) (head : ℕ) (new : List Instruction) → new ≡ entered_loop starts a code head → length new ≡ length code
entering_keeps starts a code head new is = ap length is ∙ by (is_guard starts a)
  where
    by : (guarded : Bool) → length (if guarded then code else set code head (instructions.Jump (length code))) ≡ length code
    by true = refl
    by false = length-set code head (instructions.Jump (length code))

-- If the condition of a loop may be emitted twice, its first copy decides if the loop is entered.
pub entered_first : (starts : Starts) (a : Expression) (t : ℕ) (o : Condition) (old m1 m2 : List Instruction) (body : ℕ) → is_guard starts a ≡ true → o ≡ choice_of starts logical.AndThen a t
    → m1 ≡ old ++ choice_code starts logical.AndThen a (length old) t → body ≡ length m1 + 2 → m2 ≡ m1 ++ holding_jump o body ∷ [] → m2 ≡ old ++ begun_loop starts a (length old) t
entered_first starts a t o old m1 m2 body guarded is made there jumps =
    let p = length old in
    let condition = choice_code starts logical.AndThen a p t in
    let answer = choice_of starts logical.AndThen a t in
    let place : body ≡ p + length condition + 1 + 1 = omega (arith, there, ap length made, length-append old condition) in
    jumps
    ∙ ap (λ (n : ℕ). m1 ++ holding_jump o n ∷ []) place
    ∙ ap (λ (c : Condition). m1 ++ holding_jump c (p + length condition + 1 + 1) ∷ []) is
    ∙ ap (λ (l : List Instruction). l ++ holding_jump answer (p + length condition + 1 + 1) ∷ []) made
    ∙ append_assoc old condition (holding_jump answer (p + length condition + 1 + 1) ∷ [])
    ∙ ap (λ (s : Bool). old ++ entry_code s condition (holding_jump answer) 0 p) (sym guarded)

-- The module assumes the code at a loop's entry, with the pieces of code that follow it.
module _ (guarded : Bool) (old condition : List Instruction) (jump : ℕ → Instruction) (y test : Instruction) (body again : List Instruction) (m1 m2 m3 m4 m5 m6 m7 : List Instruction) where
  abbrev entry : (place : ℕ) → List Instruction
  entry place = entry_code guarded condition jump place (length old)

  abbrev IsEntered : Bool → (first : ℕ → List Instruction) → Type 0
  IsEntered guarded first = m1 ≡ old ++ first 0 → m3 ≡ m1 ++ (y ∷ body) → m4 ≡ (if guarded then m3 else set m3 (length old) (instructions.Jump (length m3))) → m4 ≡ old ++ (first (length m3) ++ (y ∷ body))

  entered : IsEntered guarded entry
  entered = by guarded
    where
      by : (guarded : Bool) → IsEntered guarded (λ (place : ℕ). entry_code guarded condition jump place (length old))
      by true e1 e3 e4 =
          let front = condition ++ jump (length old + length condition + 1 + 1) ∷ [] in
          e4 ∙ e3 ∙ ap (λ (l : List Instruction). l ++ (y ∷ body)) e1 ∙ append_assoc old front (y ∷ body)
      by false e1 e3 e4 =
          let inside : m3 ≡ old ++ instructions.Jump 0 ∷ (y ∷ body)
          = e3 ∙ ap (λ (l : List Instruction). l ++ (y ∷ body)) e1 ∙ append_assoc old (instructions.Jump 0 ∷ []) (y ∷ body) in
          e4 ∙ ap (λ (l : List Instruction). set l (length old) (instructions.Jump (length m3))) inside ∙ set-append_seam old (instructions.Jump 0) (y ∷ body) (instructions.Jump (length m3))

  pub looped : m1 ≡ old ++ entry 0 → m2 ≡ m1 ++ y ∷ [] → m3 ≡ m2 ++ body → m4 ≡ (if guarded then m3 else set m3 (length old) (instructions.Jump (length m3))) → m5 ≡ m4 ++ again → m6 ≡ m5 ++ test ∷ []
      → m7 ≡ set m6 (length m1) (instructions.Jump (length m6)) → m7 ≡ old ++ (entry (length m3) ++ (instructions.Jump (length m6) ∷ ((body ++ again) ++ test ∷ [])))
  looped e1 e2 e3 e4 e5 e6 e7 =
      let first = entry (length m3) in
      let before = old ++ first in
      let b3 : m3 ≡ m1 ++ (y ∷ body) = e3 ∙ ap (λ (l : List Instruction). l ++ body) e2 ∙ append_assoc m1 (y ∷ []) body in
      let b4 : m4 ≡ before ++ (y ∷ body) = entered e1 b3 e4 ∙ sym (append_assoc old first (y ∷ body)) in
      let here : length m1 ≡ length before
      = ap length e1 ∙ length-append old (entry 0) ∙ ap (λ (n : ℕ). length old + n) (entry_long guarded condition jump 0 (length old))
      ∙ sym (length-append old first ∙ ap (λ (n : ℕ). length old + n) (entry_long guarded condition jump (length m3) (length old))) in
      let b5 : m5 ≡ before ++ (y ∷ (body ++ again)) = e5 ∙ ap (λ (l : List Instruction). l ++ again) b4 ∙ append_assoc before (y ∷ body) again in
      let whole = (body ++ again) ++ test ∷ [] in
      let b6 : m6 ≡ before ++ (y ∷ whole) = e6 ∙ ap (λ (l : List Instruction). l ++ test ∷ []) b5 ∙ append_assoc before (y ∷ (body ++ again)) (test ∷ []) in
      e7
      ∙ ap (λ (n : ℕ). set m6 n (instructions.Jump (length m6))) here
      ∙ ap (λ (l : List Instruction). set l (length before) (instructions.Jump (length m6))) b6
      ∙ set-append_seam before y whole (instructions.Jump (length m6))
      ∙ append_assoc old first (instructions.Jump (length m6) ∷ whole)

  -- The code pieces of a loop, such as its entry, body and condition, begin at positions computed from the lengths of the pieces before
  -- them.
  pub parts_long : m1 ≡ old ++ entry 0 → m2 ≡ m1 ++ y ∷ [] → m3 ≡ m2 ++ body → m4 ≡ (if guarded then m3 else set m3 (length old) (instructions.Jump (length m3))) → m5 ≡ m4 ++ again → m6 ≡ m5 ++ test ∷ []
      → (leaving : ℕ) → leaving ≡ length old + entry_length guarded condition
      → (length m1 ≡ leaving) × (length m2 ≡ body_target leaving) × (length m3 ≡ body_target leaving + length body) × (length m4 ≡ body_target leaving + length body) × (length m6 ≡ body_target leaving + length body + length again + 1)
  parts_long e1 e2 e3 e4 e5 e6 leaving at =
      let b3 : m3 ≡ m1 ++ (y ∷ body) = e3 ∙ ap (λ (l : List Instruction). l ++ body) e2 ∙ append_assoc m1 (y ∷ []) body in
      let one : length m1 ≡ length old + length (entry 0) = ap length e1 ∙ length-append old (entry 0) in
      let two : length m2 ≡ length m1 + 1 = ap length e2 ∙ length-append m1 (y ∷ []) in
      let three : length m3 ≡ length m2 + length body = ap length e3 ∙ length-append m2 body in
      let four : length m4 ≡ length old + (length (entry (length m3)) + length (y ∷ body))
      = ap length (entered e1 b3 e4) ∙ length-append old (entry (length m3) ++ (y ∷ body)) ∙ ap (λ (n : ℕ). length old + n) (length-append (entry (length m3)) (y ∷ body)) in
      let five : length m5 ≡ length m4 + length again = ap length e5 ∙ length-append m4 again in
      let six : length m6 ≡ length m5 + 1 = ap length e6 ∙ length-append m5 (test ∷ []) in
      let first = entry_long guarded condition jump 0 (length old) in
      let same = entry_long guarded condition jump (length m3) (length old) in
      let l1 : length m1 ≡ leaving = omega (arith, one, first, at) in
      let l2 : length m2 ≡ body_target leaving = omega (arith, two, l1) in
      let l3 : length m3 ≡ body_target leaving + length body = omega (arith, three, l2) in
      let l4 : length m4 ≡ body_target leaving + length body = omega (arith, four, same, at) in
      (l1, l2, l3, l4, omega (arith, l4, five, six))

module _ (starts : Starts) (a : Expression) (s : Statement) (exits : Exits) (d : ℕ) (o : Condition) (o_is : o ≡ choice_of starts logical.AndThen a d) (old : List Instruction) (y : Instruction) (m1 m2 m3 m4 m5 m6 m7 : List Instruction) (head leaving again : ℕ) (here : head ≡ length old) where
  pub made_loop : m1 ≡ old ++ begun_loop starts a (length old) d → leaving ≡ length m1 → m2 ≡ m1 ++ y ∷ [] → again ≡ length m2 → m3 ≡ m2 ++ statement_code starts s (length m2) (inside_loop head leaving exits) d
      → m4 ≡ entered_loop starts a m3 head → m5 ≡ m4 ++ choice_code starts logical.AndThen a (length m4) d → m6 ≡ m5 ++ holding_jump o again ∷ [] → m7 ≡ set m6 leaving (instructions.Jump (length m6))
      → m7 ≡ old ++ loop_code starts a s (length old) exits d
  made_loop e1 k1 e2 k2 e3 e4 e5 e6 e7 =
      let guarded = is_guard starts a in
      let begin = length old in
      let condition = choice_code starts logical.AndThen a begin d in
      let jump : ℕ → Instruction = λ n. holding_jump (choice_of starts logical.AndThen a d) n in
      let l = begin + entry_length guarded condition in
      let body = statement_code starts s (length m2) (inside_loop head leaving exits) d in
      let after = choice_code starts logical.AndThen a (length m4) d in
      let test = holding_jump o again in
      let f4 : m4 ≡ (if guarded then m3 else set m3 begin (instructions.Jump (length m3))) = e4 ∙ ap (λ (n : ℕ). if guarded then m3 else set m3 n (instructions.Jump (length m3))) here in
      let f7 : m7 ≡ set m6 (length m1) (instructions.Jump (length m6)) = e7 ∙ ap (λ (n : ℕ). set m6 n (instructions.Jump (length m6))) k1 in
      let (l1, l2, l3, l4, l6) = parts_long guarded old condition jump y test body after m1 m2 m3 m4 m5 m6 m7 e1 e2 e3 f4 e5 e6 l refl in
      let left : leaving ≡ l = k1 ∙ l1 in
      let turned : again ≡ body_target l = k2 ∙ l2 in
      let body_is : body ≡ statement_code starts s (body_target l) (inside_loop begin l exits) d
      = ap (λ (n : ℕ). statement_code starts s n (inside_loop head leaving exits) d) l2
      ∙ ap (λ (n : ℕ). statement_code starts s (body_target l) (inside_loop n leaving exits) d) here
      ∙ ap (λ (n : ℕ). statement_code starts s (body_target l) (inside_loop begin n exits) d) left in
      let final = statement_code starts s (body_target l) (inside_loop begin l exits) d in
      let r = body_target l + length final in
      let at_test : body_target l + length body ≡ r = ap (λ (b : List Instruction). body_target l + length b) body_is in
      let after_is : after ≡ choice_code starts logical.AndThen a r d = ap (λ (n : ℕ). choice_code starts logical.AndThen a n d) (l4 ∙ at_test) in
      let test_is : test ≡ jump (body_target l) = ap (λ (n : ℕ). holding_jump o n) turned ∙ ap (λ (c : Condition). holding_jump c (body_target l)) o_is in
      let last : length m6 ≡ r + length (choice_code starts logical.AndThen a r d) + 1
      = l6 ∙ ap (λ (n : ℕ). n + length after + 1) at_test ∙ ap (λ (c : List Instruction). r + length c + 1) after_is in
      looped guarded old condition jump y test body after m1 m2 m3 m4 m5 m6 m7 e1 e2 e3 f4 e5 e6 f7
      ∙ ap (λ (n : ℕ). old ++ (entry_code guarded condition jump n begin ++ (instructions.Jump (length m6) ∷ ((body ++ after) ++ test ∷ [])))) (l3 ∙ at_test)
      ∙ ap (λ (n : ℕ). old ++ (entry_code guarded condition jump r begin ++ (instructions.Jump n ∷ ((body ++ after) ++ test ∷ [])))) last
      ∙ ap (λ (b : List Instruction). old ++ (entry_code guarded condition jump r begin ++ (instructions.Jump (r + length (choice_code starts logical.AndThen a r d) + 1) ∷ ((b ++ after) ++ test ∷ [])))) body_is
      ∙ ap (λ (c : List Instruction). old ++ (entry_code guarded condition jump r begin ++ (instructions.Jump (r + length (choice_code starts logical.AndThen a r d) + 1) ∷ ((final ++ c) ++ test ∷ [])))) after_is
      ∙ ap (λ (i : Instruction). old ++ (entry_code guarded condition jump r begin ++ (instructions.Jump (r + length (choice_code starts logical.AndThen a r d) + 1) ∷ ((final ++ choice_code starts logical.AndThen a r d) ++ i ∷ [])))) test_is

-- The module concerns a loop whose first copy of the condition jumps to the loop's end if it fails.
module _ (starts : Starts) (a : Expression) (s : Statement) (exits : Exits) (d : ℕ) (first last : Condition) (first_is : first ≡ choice_of starts logical.OrElse a d) (last_is : last ≡ choice_of starts logical.AndThen a d) (old : List Instruction) (y : Instruction) (m0 m1 m2 m3 m4 m5 m6 : List Instruction) (head over again end : ℕ) (here : head ≡ length old) where
  pub made_through : m0 ≡ old ++ choice_code starts logical.OrElse a (length old) d → over ≡ length m0 → m1 ≡ m0 ++ y ∷ [] → again ≡ length m1 → m2 ≡ m1 ++ statement_code starts s (length m1) (inside_loop head head exits) d
      → m3 ≡ m2 ++ choice_code starts logical.AndThen a (length m2) d → m4 ≡ m3 ++ holding_jump last again ∷ [] → m5 ≡ set m4 over (failing_jump first (length m4)) → end ≡ length m5 + 1 → m6 ≡ m5 ++ instructions.Jump end ∷ []
      → m6 ≡ old ++ through_loop starts a s (length old) exits d
  made_through e0 k0 e1 k1 e2 e3 e4 e5 k5 e6 =
      let p = length old in
      let front = choice_code starts logical.OrElse a p d in
      let x = p + length front + 1 in
      let body = statement_code starts s x (inside_loop p p exits) d in
      let r = x + length body in
      let condition = choice_code starts logical.AndThen a r d in
      let back = holding_jump (choice_of starts logical.AndThen a d) x in
      let finish = through_end front body condition p in
      let leave = failing_jump (choice_of starts logical.OrElse a d) finish in
      let inner = (body ++ condition) ++ back ∷ [] in
      let l0 : length m0 ≡ p + length front = ap length e0 ∙ length-append old front in
      let l1 : length m1 ≡ x = let e : length m1 ≡ length m0 + 1 = ap length e1 ∙ length-append m0 (y ∷ []) in omega (arith, e, l0) in
      let b2 : m2 ≡ m1 ++ body
      = e2
      ∙ ap (λ (n : ℕ). m1 ++ statement_code starts s n (inside_loop head head exits) d) l1
      ∙ ap (λ (n : ℕ). m1 ++ statement_code starts s x (inside_loop n n exits) d) here in
      let l2 : length m2 ≡ r = let e : length m2 ≡ length m1 + length body = ap length b2 ∙ length-append m1 body in omega (arith, e, l1) in
      let b3 : m3 ≡ m1 ++ (body ++ condition)
      = e3 ∙ ap (λ (n : ℕ). m2 ++ choice_code starts logical.AndThen a n d) l2 ∙ ap (λ (l : List Instruction). l ++ condition) b2 ∙ append_assoc m1 body condition in
      let turned : again ≡ x = k1 ∙ l1 in
      let b4 : m4 ≡ m0 ++ (y ∷ inner)
      = e4
      ∙ ap (λ (n : ℕ). m3 ++ holding_jump last n ∷ []) turned
      ∙ ap (λ (c : Condition). m3 ++ holding_jump c x ∷ []) last_is
      ∙ ap (λ (l : List Instruction). l ++ back ∷ []) b3
      ∙ append_assoc m1 (body ++ condition) (back ∷ [])
      ∙ ap (λ (l : List Instruction). l ++ inner) e1
      ∙ append_assoc m0 (y ∷ []) inner in
      let l4 : length m4 ≡ finish
      = let e : length m4 ≡ length m0 + length (y ∷ inner) = ap length b4 ∙ length-append m0 (y ∷ inner) in
      let long : length inner ≡ length (body ++ condition) + 1 = length-append (body ++ condition) (back ∷ []) in
      omega (arith, e, long, length-append body condition, l0) in
      let b5 : m5 ≡ m0 ++ (leave ∷ inner)
      = e5
      ∙ ap (λ (n : ℕ). set m4 n (failing_jump first (length m4))) k0
      ∙ ap (λ (n : ℕ). set m4 (length m0) (failing_jump first n)) l4
      ∙ ap (λ (c : Condition). set m4 (length m0) (failing_jump c finish)) first_is
      ∙ ap (λ (l : List Instruction). set l (length m0) leave) b4
      ∙ set-append_seam m0 y inner leave in
      let l5 : end ≡ finish + 1
      = let e : length m5 ≡ length m4 = ap length e5 ∙ length-set m4 over (failing_jump first (length m4)) in omega (arith, e, l4, k5) in
      let tail = instructions.Jump (finish + 1) ∷ [] in
      e6
      ∙ ap (λ (n : ℕ). m5 ++ instructions.Jump n ∷ []) l5
      ∙ ap (λ (l : List Instruction). l ++ tail) b5
      ∙ append_assoc m0 (leave ∷ inner) tail
      ∙ ap (λ (l : List Instruction). m0 ++ (leave ∷ l)) (append_assoc (body ++ condition) (back ∷ []) tail)
      ∙ ap (λ (l : List Instruction). l ++ (leave ∷ ((body ++ condition) ++ (back ∷ tail)))) e0
      ∙ append_assoc old front (leave ∷ ((body ++ condition) ++ (back ∷ tail)))

-- The code of a `while` statement is one of two kinds of loops, chosen by its condition and its body.
module _ (starts : Starts) (value : Stmt) {w : Span} (e : Expr) (b : Box Stmt Heap) (is : value ≡ stmt.While w e b) (body : Stmt) (at : body ≡ b.value) (exits : Exits) (d : ℕ) (old new : List Instruction) where
  while_viewed : (p : ℕ) → statement_code starts (While (place_of_span w) (view_expression e) (view_statement body)) p exits d ≡ statement_code starts (view_statement value) p exits d
  while_viewed p = sym (ap (λ (x : Stmt). statement_code starts (view_statement x) p exits d) is ∙ ap (λ (z : Stmt). statement_code starts (While (place_of_span w) (view_expression e) (view_statement z)) p exits d) (sym at))

  abbrev IsLoop : Bool → Type 0
  IsLoop goes = new ≡ old ++ (if goes then through_loop starts (view_expression e) (view_statement body) (length old) exits d else loop_code starts (view_expression e) (view_statement body) (length old) exits d)

  pub made_while : (goes : Bool) → goes ≡ goes_through starts (view_expression e) (view_statement body) → IsLoop goes → new ≡ old ++ statement_code starts (view_statement value) (length old) exits d
  made_while goes goes_is made = subst IsLoop goes_is made ∙ ap (λ (l : List Instruction). old ++ l) (while_viewed (length old))
