-- The code of statements is emitted piece by piece: blocks with their regions, and branches whose targets are set later.
use Rattle.std.proofs.Common.{◌≡◌, ℕ, zero, suc, ◌+◌, ◌-◌, ◌<◌, ◌≤◌, Bool, true, false, List, [], ◌∷◌, ◌++◌, length, get_or, drop, set, refl, sym, ap, ◌∙◌, arith, append_assoc, append-nil}
use Rattle.std.proofs.lemmas.List.{drop_all, drop_more, length-append, length-set}
use Rattle.std.specs.declared.vec.Vec.{Vec}
use Rattle.std.specs.declared.boxed.Box.{Box}
use Rattle.std.specs.declared.alloc.Global.{Global as Heap}
use Rattle.cyc_words.specs.declared.span.Span.{Span}
use Rattle.cyc_types.specs.declared.typed.LogicalOperator.TheVariants as logical
use Rattle.cyc_types.specs.declared.typed.Expr.{Expr}
use Rattle.cyc_types.specs.declared.typed.Stmt.{Stmt}
use Rattle.cyc_types.specs.declared.typed.Stmt.TheVariants as stmt
use Rattle.cyc_types.specs.declared.typed.Item.{Item as ItemCode}
use Rattle.cyc_types.specs.declared.typed.Item.TheVariants as item
use Rattle.cyc_types.specs.TypedTrees.{Expression, Statement, Empty, Block, If}
use Rattle.cyc_types.specs.TypedTreeView.{view_expression, view_statement, items_of}
use Rattle.cyc_types.proofs.TypedTreeViewLemmas.{view_block}
use Rattle.cyc_meaning.specs.FrameCount.{kept_by_items}
use Rattle.cyc_plain.specs.declared.instruction.Instruction.{Instruction}
use Rattle.cyc_plain.specs.declared.instruction.Instruction.TheVariants as instructions
use Rattle.cyc_lower_proof.specs.declared.condition.Condition.{Condition}
use Rattle.cyc_lower.specs.declared.conditions.Pending.{Pending}
use Rattle.cyc_lower_proof.specs.declared.exits.Exits.{Exits}
use Rattle.cyc_lower_proof.specs.inside.Slots.{Starts}
use Rattle.cyc_lower_proof.specs.inside.ControlCode.{failing_jump, inside_region, opened_code, closed_code, is_nothing, over_code, over_length}
use Rattle.cyc_lower_proof.specs.inside.Lowering.{branch_code, branch_of, statement_code, items_code}
use Rattle.cyc_sizes.specs.inside.Needs.{kept_by_item}
use Rattle.cyc_lower.specs.inside.Emission.{most_locals, failed, Aims, item_code, exits_after, free_after, then_code}
use Rattle.cyc_lower.proofs.emission.Emitting.{Remains, goes_on_by, no_shorter_than, written_back}
use Rattle.cyc_lower_proof.proofs.emission.CodeLengths.{branch_same}

-- ---- blocks

-- Returns the code of one declaration or statement of a block, without the code that closes its regions at the end of the block. The state
-- passed from one element of a block to the next is the exits (handlers and regions to close) and the first slot for temporaries.
abbrev pub one_item : Starts → ItemCode → List ItemCode → (p : ℕ) → Exits × ℕ → List Instruction
one_item starts j js p s = item_code starts j p s.0 s.1

abbrev pub next_item : ItemCode → List ItemCode → Exits × ℕ → Exits × ℕ
next_item j js s = (exits_after j s.0 s.1, free_after j s.1)

abbrev pub opened_items : Starts → List ItemCode → (p : ℕ) → Exits × ℕ → List Instruction
opened_items starts [] p s = []
opened_items starts (j ∷ js) p s = one_item starts j js p s ++ opened_items starts js (p + length (one_item starts j js p s)) (next_item j js s)

-- Returns the code that closes `many` lexical regions, newest first; the slots from `t` on hold the number of regions open before each.
abbrev pub closed_items : (many t : ℕ) → List Instruction
closed_items zero t = []
closed_items (suc many) t = closed_items many (t + 1) ++ closed_code t

abbrev pub regions_in : List ItemCode → ℕ
regions_in [] = 0
regions_in (item.Region w r n ∷ js) = suc (regions_in js)
regions_in (j ∷ js) = regions_in js

after_one : (starts : Starts) (j : ItemCode) (js : List ItemCode) (p : ℕ) (exits : Exits) (t : ℕ) → items_code starts (items_of js) (p + length (item_code starts j p exits t)) exits t ≡ opened_items starts js (p + length (item_code starts j p exits t)) (exits, t) ++ closed_items (regions_in js) t
    → item_code starts j p exits t ++ items_code starts (items_of js) (p + length (item_code starts j p exits t)) exits t ≡ (item_code starts j p exits t ++ opened_items starts js (p + length (item_code starts j p exits t)) (exits, t)) ++ closed_items (regions_in js) t
after_one starts j js p exits t rest =
    let one = item_code starts j p exits t in
    ap (λ (l : List Instruction). one ++ l) rest ∙ sym (append_assoc one (opened_items starts js (p + length one) (exits, t)) (closed_items (regions_in js) t))

items_open_and_close : (starts : Starts) (js : List ItemCode) (p : ℕ) (exits : Exits) (t : ℕ) → items_code starts (items_of js) p exits t ≡ opened_items starts js p (exits, t) ++ closed_items (regions_in js) t
items_open_and_close starts [] p exits t = refl
items_open_and_close starts (item.Region w r n ∷ js) p exits t =
    let first = opened_code starts n t in
    let front = opened_items starts js (p + length first) (inside_region exits t, t + 1) in
    let back = closed_items (regions_in js) (t + 1) in
    ap (λ (l : List Instruction). first ++ (l ++ closed_code t)) (items_open_and_close starts js (p + length first) (inside_region exits t) (t + 1))
    ∙ ap (λ (l : List Instruction). first ++ l) (append_assoc front back (closed_code t))
    ∙ sym (append_assoc first front (back ++ closed_code t))
items_open_and_close starts (item.Execute s ∷ js) p exits t = after_one starts (item.Execute s) js p exits t (items_open_and_close starts js _ exits t)
items_open_and_close starts (item.Local w n ty v ∷ js) p exits t = after_one starts (item.Local w n ty v) js p exits t (items_open_and_close starts js _ exits t)
items_open_and_close starts (item.Open r n w k ∷ js) p exits t = after_one starts (item.Open r n w k) js p exits t (items_open_and_close starts js _ exits t)
items_open_and_close starts (item.Alias r n ty w s ∷ js) p exits t = after_one starts (item.Alias r n ty w s) js p exits t (items_open_and_close starts js _ exits t)
items_open_and_close starts (item.DynamicRegion w r n ∷ js) p exits t = after_one starts (item.DynamicRegion w r n) js p exits t (items_open_and_close starts js _ exits t)

-- Of several lexical regions, the newest is closed first.
closed_first : (many t : ℕ) → closed_items (suc many) t ≡ closed_code (t + many) ++ closed_items many t
closed_first zero t = let e : t + 0 ≡ t = omega arith in sym (append-nil _ ∙ ap closed_code e)
closed_first (suc many) t =
    let e : t + 1 + many ≡ t + suc many = omega arith in
    ap (λ (l : List Instruction). l ++ closed_code t) (closed_first many (t + 1))
    ∙ append_assoc (closed_code (t + 1 + many)) (closed_items many (t + 1)) (closed_code t)
    ∙ ap (λ (n : ℕ). closed_code n ++ closed_items (suc many) t) e

-- `ItemsRemain` says that the code so far, extended by that of the block's remaining declarations and statements, is the code of the
-- whole block. The exits (handlers and regions to close) and the first slot for temporaries are those of the block's next element. The
-- frame has space for the values that later elements of the block keep.
abbrev pub ItemsRemain : Starts → (old : List Instruction) → List ItemCode → (first : Exits) → (free i : ℕ) → (code : List Instruction) → (inside : Exits) → (following : ℕ) → Type 0
ItemsRemain starts old js first free i code inside following =
    Remains (opened_items starts) old js (first, free) i code (inside, following)
    × (following + regions_in (drop i js) ≡ free + regions_in js)
    × (following + kept_by_items (items_of (drop i js)) ≤ most_locals)
    × (inside.head ≤ length code)

items_kept : (j : ItemCode) (js : List ItemCode) → kept_by_items (items_of (j ∷ js)) ≡ kept_by_item j + kept_by_items (items_of js)
items_kept (item.Execute s) js = refl
items_kept (item.Region w r n) js = refl
items_kept j js = omega arith

-- A statement that opens a lexical region takes one slot, which holds the number of regions open before, with which the region is closed.
one_region : (j : ItemCode) (js : List ItemCode) (t : ℕ) → free_after j t + regions_in js ≡ t + regions_in (j ∷ js)
one_region (item.Region w r n) js t = omega arith
one_region j js t = refl

region_kept : (j : ItemCode) (t : ℕ) → free_after j t ≤ t + kept_by_item j
region_kept (item.Region w r n) t = omega arith
region_kept j t = omega arith

same_head : (j : ItemCode) (exits : Exits) (t : ℕ) → (exits_after j exits t).head ≡ exits.head
same_head (item.Region w r n) exits t = refl
same_head j exits t = refl

module _ (starts : Starts) (old : List Instruction) (js : List ItemCode) (first : Exits) (free i : ℕ) (code : List Instruction) (inside : Exits) (following : ℕ) where
  pub item_room : (x : ItemCode) → i < length js → x ≡ get_or js i x → ItemsRemain starts old js first free i code inside following → following + kept_by_item x ≤ most_locals
  item_room x within at (made, regions, kept, begun) =
      let here : drop i js ≡ x ∷ drop (i + 1) js = drop_more js i x within ∙ ap (λ (y : ItemCode). y ∷ drop (i + 1) js) (sym at) in
      let all = ap (λ (l : List ItemCode). kept_by_items (items_of l)) here ∙ items_kept x (drop (i + 1) js) in
      omega (arith, kept, all)

  pub more_items : (x : ItemCode) (new : List Instruction) (exits : Exits) (t : ℕ) → i < length js → x ≡ get_or js i x → new ≡ code ++ item_code starts x (length code) inside following
      → exits ≡ exits_after x inside following → t ≡ free_after x following → ItemsRemain starts old js first free i code inside following → ItemsRemain starts old js first free (i + 1) new exits t
  more_items x new exits t within at is exits_is t_is (made, regions, kept, begun) =
      let rest = drop (i + 1) js in
      let here : drop i js ≡ x ∷ rest = drop_more js i x within ∙ ap (λ (y : ItemCode). y ∷ rest) (sym at) in
      let all = ap (λ (l : List ItemCode). kept_by_items (items_of l)) here ∙ items_kept x rest in
      let opens = ap regions_in here in
      let longer = no_shorter_than code _ new is in
      let head = ap (λ (e : Exits). e.head) exits_is ∙ same_head x inside following in (
        ap (λ (e : Exits). new ++ opened_items starts rest (length new) (e, t)) exits_is
            ∙ ap (λ (n : ℕ). new ++ opened_items starts rest (length new) (exits_after x inside following, n)) t_is
            ∙ goes_on_by (opened_items starts) (one_item starts) next_item (λ j l p s. refl) old js (first, free) i code new (inside, following) x within at is made,
        omega (arith, regions, opens, one_region x rest following, t_is),
        omega (arith, kept, all, region_kept x following, t_is),
        omega (arith, begun, longer, head),
      )

-- `ClosesLeft` says that the code so far, extended by code that closes the lexical regions with slots from `following` down to
-- `free`, is the whole code.
abbrev pub ClosesLeft : (whole code : List Instruction) → (free following : ℕ) → Type 0
ClosesLeft whole code free following = (many : ℕ) × (following ≡ free + many) × (code ++ closed_items many free ≡ whole)

pub closes_begin : (starts : Starts) (old : List Instruction) (js : List ItemCode) (first : Exits) (free i : ℕ) (code : List Instruction) (inside : Exits) (following : ℕ) → length js ≤ i
    → ItemsRemain starts old js first free i code inside following → ClosesLeft (old ++ items_code starts (items_of js) (length old) first free) code free following
closes_begin starts old js first free i code inside following done (made, regions, kept, begun) =
    let none = drop_all i js done in
    let front = opened_items starts js (length old) (first, free) in
    let whole : code ≡ old ++ front
    = sym (append-nil code) ∙ ap (λ (l : List ItemCode). code ++ opened_items starts l (length code) (inside, following)) (sym none) ∙ made in (
      regions_in js,
      let e = ap regions_in none in omega (arith, regions, e),
      ap (λ (l : List Instruction). l ++ closed_items (regions_in js) free) whole
          ∙ append_assoc old front (closed_items (regions_in js) free)
          ∙ ap (λ (l : List Instruction). old ++ l) (sym (items_open_and_close starts js (length old) first free)),
    )

pub closes_next : (whole code new : List Instruction) (free following next : ℕ) → free < following → next ≡ following - 1 → new ≡ code ++ closed_code next → ClosesLeft whole code free following → ClosesLeft whole new free next
closes_next whole code new free following next more next_is is (zero, many_is, made) = absurd (omega (arith, more, many_is))
closes_next whole code new free following next more next_is is (suc many, many_is, made) =
    let e : next ≡ free + many = omega (arith, next_is, many_is) in (
      many,
      e,
      ap (λ (l : List Instruction). l ++ closed_items many free) (is ∙ ap (λ (n : ℕ). code ++ closed_code n) e)
          ∙ append_assoc code (closed_code (free + many)) (closed_items many free)
          ∙ ap (λ (l : List Instruction). code ++ l) (sym (closed_first many free))
          ∙ made,
    )

pub closes_end : (whole code : List Instruction) (free following : ℕ) → following ≤ free → ClosesLeft whole code free following → code ≡ whole
closes_end whole code free following done (zero, many_is, made) = sym (append-nil code) ∙ made
closes_end whole code free following done (suc many, many_is, made) = absurd (omega (arith, done, many_is))

module _ (starts : Starts) (value : Stmt) (region : ℕ) (v : Vec ItemCode Heap) (is : value ≡ stmt.Block region v) (items : List ItemCode) (same : items ≡ v.items) (old new : List Instruction) (exits : Exits) (d : ℕ) where
  pub made_block : new ≡ old ++ items_code starts (items_of items) (length old) exits d → new ≡ old ++ statement_code starts (view_statement value) (length old) exits d
  made_block h =
      let e : view_statement value ≡ Block region (items_of items)
      = ap view_statement is ∙ view_block region v ∙ ap (λ (js : List ItemCode). Block region (items_of js)) (sym same) in
      h ∙ ap (λ (s : Statement). old ++ statement_code starts s (length old) exits d) (sym e)

-- ---- branches

-- The module assumes a condition followed by two pieces of code, each after a jump whose target is set later. If the condition fails, the
-- jump after it and its inner jumps go to the second of the two pieces of code that follow the condition.
module _ (old : List Instruction) (condition : ℕ → List Instruction) (aim : ℕ → List Instruction → List Instruction) (aims : (rest : List Instruction) (target : ℕ) → aim target (old ++ (condition 0 ++ rest)) ≡ old ++ (condition target ++ rest)) (same : (target : ℕ) → length (condition target) ≡ length (condition 0)) (x y : Instruction) (first second : ℕ → List Instruction) (over : ℕ → Instruction) (out : ℕ → Instruction) (m0 m1 m2 m3 m4 m5 m6 : List Instruction) where
  pub branched : m0 ≡ old ++ condition 0 → m1 ≡ m0 ++ x ∷ [] → m2 ≡ m1 ++ first (length m1) → m3 ≡ m2 ++ y ∷ [] → m4 ≡ aim (length m3) (set m3 (length m0) (over (length m3)))
      → m5 ≡ m4 ++ second (length m4) → m6 ≡ set m5 (length m2) (out (length m5)) → (p : ℕ) → p ≡ length old + length (condition 0) + 1 → (q : ℕ) → q ≡ p + length (first p) + 1
      → m6 ≡ old ++ (condition q ++ (over q ∷ (first p ++ (out (q + length (second q)) ∷ second q))))
  branched e0 e1 e2 e3 e4 e5 e6 p at_first q at_second =
      let l0 : length m0 + 1 ≡ p = let a : length m0 ≡ length old + length (condition 0) = ap length e0 ∙ length-append old (condition 0) in omega (arith, a, at_first) in
      let l1 : length m1 ≡ p = ap length e1 ∙ length-append m0 (x ∷ []) ∙ l0 in
      let t = first p in
      let long : p + length (t ++ y ∷ []) ≡ q = let a : length (t ++ y ∷ []) ≡ length t + 1 = length-append t (y ∷ []) in omega (arith, a, at_second) in
      let b2 : m2 ≡ m1 ++ t = e2 ∙ ap (λ (n : ℕ). m1 ++ first n) l1 in
      let b3 : m3 ≡ m1 ++ (first (length m1) ++ y ∷ []) = e3 ∙ ap (λ (l : List Instruction). l ++ y ∷ []) e2 ∙ append_assoc m1 (first (length m1)) (y ∷ []) in
      let last = over q ∷ (t ++ y ∷ []) in
      let patched = set m3 (length m0) (over (length m3)) in
      let made : patched ≡ old ++ (condition 0 ++ last)
      = written_back m0 x (λ (n : ℕ). first n ++ y ∷ []) over m1 m3 patched e1 b3 refl
      ∙ ap (λ (n : ℕ). m0 ++ over (n + length (first n ++ y ∷ [])) ∷ (first n ++ y ∷ [])) l0
      ∙ ap (λ (n : ℕ). m0 ++ over n ∷ (t ++ y ∷ [])) long
      ∙ ap (λ (l : List Instruction). l ++ last) e0
      ∙ append_assoc old (condition 0) last in
      let l3 : length m3 ≡ q = omega (arith, length-set m3 (length m0) (over (length m3)), ap length made, length-append old (condition 0 ++ last), length-append (condition 0) last, long, at_first) in
      let tested = old ++ condition q in
      let before = tested ++ over q ∷ t in
      let b4 : m4 ≡ before ++ y ∷ []
      = e4 ∙ ap (λ (n : ℕ). aim n patched) l3 ∙ ap (aim q) made ∙ aims last q
      ∙ sym (append_assoc old (condition q) last)
      ∙ sym (append_assoc tested (over q ∷ t) (y ∷ [])) in
      let l2 : length m2 ≡ p + length t = ap length b2 ∙ length-append m1 t ∙ ap (λ (n : ℕ). n + length t) l1 in
      let lb : length before + 1 ≡ q = omega (arith, length-append tested (over q ∷ t), length-append old (condition q), same q, at_first, at_second) in
      let here : length m2 ≡ length before = omega (arith, l2, lb, at_second) in
      let rest = out (q + length (second q)) ∷ second q in
      written_back before y second out m4 m5 m6 b4 e5 (e6 ∙ ap (λ (n : ℕ). set m5 n (out (length m5))) here)
      ∙ ap (λ (n : ℕ). before ++ out (n + length (second n)) ∷ second n) lb
      ∙ append_assoc tested (over q ∷ t) rest
      ∙ append_assoc old (condition q) (over q ∷ (t ++ rest))

nothing_is : (s : Statement) → is_nothing s ≡ true → s ≡ Empty
nothing_is Empty is = refl
nothing_is s is = absurd (let f : false ≡ true = is in cc)

-- The code of an `if` without an `else` part, whose jump target is set after the statement is emitted.
module _ (starts : Starts) (a : Expression) (s : Statement) (exits : Exits) (d : ℕ) (o : Condition) (early : List Pending) (o_is : o ≡ branch_of starts logical.AndThen a d) (old : List Instruction) (aims : Aims early (λ other. branch_code starts logical.AndThen a other (length old) d) (length old)) (x : Instruction) (m0 m1 m2 m3 : List Instruction) (over : ℕ) where
  pub made_then : m0 ≡ old ++ branch_code starts logical.AndThen a 0 (length old) d → over ≡ length m0 → m1 ≡ m0 ++ x ∷ [] → m2 ≡ m1 ++ statement_code starts s (length m1) exits d → m3 ≡ failed early (length m2) (set m2 over (failing_jump o (length m2)))
      → m3 ≡ old ++ then_code starts a s (length old) exits d
  made_then e0 h1 e1 e2 e3 =
      let condition : ℕ → List Instruction = λ other. branch_code starts logical.AndThen a other (length old) d in
      let jump : ℕ → Instruction = λ n. failing_jump (branch_of starts logical.AndThen a d) n in
      let first : ℕ → List Instruction = λ p. statement_code starts s p exits d in
      let p = length old + length (condition 0) + 1 in
      let q = p + length (first p) + 0 in
      let l0 : length m0 + 1 ≡ p = let e : length m0 ≡ length old + length (condition 0) = ap length e0 ∙ length-append old (condition 0) in omega (arith, e) in
      let end : p + length (first p) ≡ q = omega arith in
      let rest = jump q ∷ first p in
      let patched = set m2 over (failing_jump o (length m2)) in
      let made : patched ≡ old ++ (condition 0 ++ rest)
      = written_back m0 x first jump m1 m2 patched e1 e2 (ap (λ (n : ℕ). set m2 n (failing_jump o (length m2))) h1 ∙ ap (λ (c : Condition). set m2 (length m0) (failing_jump c (length m2))) o_is)
      ∙ ap (λ (n : ℕ). m0 ++ jump (n + length (first n)) ∷ first n) l0
      ∙ ap (λ (n : ℕ). m0 ++ jump n ∷ first p) end
      ∙ ap (λ (l : List Instruction). l ++ rest) e0
      ∙ append_assoc old (condition 0) rest in
      let long : length m2 ≡ q = omega (arith, length-set m2 over (failing_jump o (length m2)), ap length made, length-append old (condition 0 ++ rest), length-append (condition 0) rest) in
      e3 ∙ ap (λ (n : ℕ). failed early n patched) long ∙ ap (failed early q) made ∙ aims old rest q refl
      ∙ ap (λ (l : List Instruction). old ++ l) (sym (append-nil (condition q ++ rest)))

module _ (starts : Starts) (value : Stmt) {w : Span} (e : Expr) (b b' : Box Stmt Heap) (is : value ≡ stmt.If w e b b') (s t : Stmt) (at : s ≡ b.value) (at' : t ≡ b'.value) where
  pub if_viewed : view_statement value ≡ If (view_expression e) (view_statement s) (view_statement t)
  if_viewed = ap view_statement is ∙ ap (λ (z : Stmt). If (view_expression e) (view_statement z) (view_statement b'.value)) (sym at) ∙ ap (λ (z : Stmt). If (view_expression e) (view_statement s) (view_statement z)) (sym at')

  pub made_alone : is_nothing (view_statement t) ≡ true → (exits : Exits) (d : ℕ) (old new : List Instruction) → new ≡ old ++ then_code starts (view_expression e) (view_statement s) (length old) exits d
      → new ≡ old ++ statement_code starts (view_statement value) (length old) exits d
  made_alone none exits d old new made =
      made
      ∙ ap (λ (z : Statement). old ++ statement_code starts (If (view_expression e) (view_statement s) z) (length old) exits d) (sym (nothing_is (view_statement t) none))
      ∙ ap (λ (z : Statement). old ++ statement_code starts z (length old) exits d) (sym if_viewed)

module _ (starts : Starts) (value : Stmt) {w : Span} (e : Expr) (b b' : Box Stmt Heap) (is : value ≡ stmt.If w e b b') (s t : Stmt) (at : s ≡ b.value) (at' : t ≡ b'.value) (exits : Exits) (d : ℕ) (o : Condition) (early : List Pending) (o_is : o ≡ branch_of starts logical.AndThen (view_expression e) d) (old : List Instruction) (aims : Aims early (λ other. branch_code starts logical.AndThen (view_expression e) other (length old) d) (length old)) (x y : Instruction) (m0 m1 m2 m3 m4 m5 m6 : List Instruction) (p1 p2 : ℕ) where
  pub made_if : is_nothing (view_statement t) ≡ false → m0 ≡ old ++ branch_code starts logical.AndThen (view_expression e) 0 (length old) d → p1 ≡ length m0 → m1 ≡ m0 ++ x ∷ [] → m2 ≡ m1 ++ statement_code starts (view_statement s) (length m1) exits d → p2 ≡ length m2 → m3 ≡ m2 ++ y ∷ []
      → m4 ≡ failed early (length m3) (set m3 p1 (failing_jump o (length m3))) → m5 ≡ m4 ++ statement_code starts (view_statement t) (length m4) exits d → m6 ≡ set m5 p2 (instructions.Jump (length m5))
      → m6 ≡ old ++ statement_code starts (view_statement value) (length old) exits d
  made_if some e0 h1 e1 e2 h2 e3 e4 e5 e6 =
      let condition : ℕ → List Instruction = λ other. branch_code starts logical.AndThen (view_expression e) other (length old) d in
      let jump : ℕ → Instruction = λ n. failing_jump (branch_of starts logical.AndThen (view_expression e) d) n in
      let first : ℕ → List Instruction = λ p. statement_code starts (view_statement s) p exits d in
      let second : ℕ → List Instruction = λ p. statement_code starts (view_statement t) p exits d in
      let p = length old + length (condition 0) + 1 in
      let q = p + length (first p) + 1 in
      branched old condition (failed early) (λ rest target. aims old rest target refl) (λ target. branch_same starts logical.AndThen (view_expression e) target 0 (length old) d) x y first second jump (λ (n : ℕ). instructions.Jump n) m0 m1 m2 m3 m4 m5 m6
      e0 e1 e2 e3
      (e4 ∙ ap (λ (n : ℕ). failed early (length m3) (set m3 n (failing_jump o (length m3)))) h1 ∙ ap (λ (r : Condition). failed early (length m3) (set m3 (length m0) (failing_jump r (length m3)))) o_is)
      e5 (e6 ∙ ap (λ (n : ℕ). set m5 n (instructions.Jump (length m5))) h2)
      p refl q refl
      ∙ ap (λ (l : List Instruction). old ++ l) (sym (append_assoc (condition q) (jump q ∷ first p) (instructions.Jump (q + length (second q)) ∷ second q)))
      ∙ ap (λ (last : Bool). old ++ ((condition (p + length (first p) + over_length last) ++ jump (p + length (first p) + over_length last) ∷ first p) ++ (over_code last (p + length (first p) + over_length last + length (second (p + length (first p) + over_length last))) ++ second (p + length (first p) + over_length last)))) (sym some)
      ∙ ap (λ (z : Statement). old ++ statement_code starts z (length old) exits d) (sym (if_viewed starts value e b b' is s t at at'))
