-- Code is emitted piece by piece: for lists of tree nodes, for nodes that contain lists, and for jumps whose targets are set later.
use Rattle.std.proofs.Common.{◌≡◌, ℕ, zero, suc, ◌+◌, ◌-◌, ◌<◌, ◌≤◌, Bool, true, false, List, [], ◌∷◌, ◌++◌, length, get_or, drop, set, refl, sym, ap, ◌∙◌, arith, append_assoc, append-nil}
use Rattle.std.specs.Prelude.{if◌then◌else◌}
use Rattle.std.proofs.lemmas.List.{drop_all, drop_more, length-append, length-drop}
use Rattle.std.proofs.Math.Seq.{set-append_seam}
use Rattle.std.specs.declared.vec.Vec.{Vec}
use Rattle.std.specs.declared.boxed.Box.{Box}
use Rattle.std.specs.declared.alloc.Global.{Global as Heap}
use Rattle.cyc_words.specs.declared.span.Span.{Span}
use Rattle.cyc_types.specs.declared.ty.Ty.{Ty as TyCode}
use Rattle.cyc_types.specs.declared.typed.ValueType.{ValueType as ValueTypeCode}
use Rattle.cyc_types.specs.declared.typed.Callee.{Callee}
use Rattle.cyc_types.specs.declared.typed.Operator.{Operator}
use Rattle.cyc_types.specs.declared.typed.Operator.TheVariants as operators
use Rattle.cyc_types.specs.declared.typed.Expr.{Expr}
use Rattle.cyc_types.specs.declared.typed.Expr.TheVariants as expr
use Rattle.cyc_types.specs.declared.typed.Converted.{Converted as ConvertedCode}
use Rattle.cyc_types.specs.declared.typed.Operation.{Operation}
use Rattle.cyc_types.specs.declared.typed.Operation.TheVariants as operation
use Rattle.cyc_types.specs.TypeView.{view_ty, view_value_type}
use Rattle.cyc_types.specs.TypedTrees.{Expression, Call, Binary}
use Rattle.cyc_types.specs.TypedTreeView.{view_expression, arguments_of, operations_of}
use Rattle.cyc_types.specs.declared.typed.Kind.{Kind}
use Rattle.cyc_meaning.specs.Values.{words_of_kind}
use Rattle.cyc_types.proofs.TypedTreeViewLemmas.{view_typed_call, view_typed_binary}
use Rattle.cyc_plain.specs.declared.instruction.BinaryOperator.TheVariants as plain_binary
use Rattle.cyc_plain.specs.declared.instruction.Comparison.TheVariants as comparisons
use Rattle.cyc_plain.specs.declared.instruction.Operand.{Operand}
use Rattle.cyc_plain.specs.declared.instruction.Operand.TheVariants as operands
use Rattle.cyc_plain.specs.declared.instruction.Instruction.{Instruction}
use Rattle.cyc_plain.specs.declared.instruction.Instruction.TheVariants as instructions
use Rattle.cyc_lower_proof.specs.inside.Slots.{with_counter, Starts}
use Rattle.cyc_lower_proof.specs.declared.condition.Condition.{Condition}
use Rattle.cyc_lower_proof.specs.inside.ValueCode.{all_passed, load_of, next_slot, operator_code, binary_operator, address_code, count_code, word_by_word}
use Rattle.cyc_lower_proof.specs.inside.ObjectCode.{measured_code, asked_code, begun_code, written_code, filled_code, restarted_code, ended_code, elements_code, last_element}
use Rattle.cyc_lower_proof.specs.inside.ControlCode.{failing_jump}
use Rattle.cyc_lower_proof.specs.inside.ExpressionCode.{expression_code}

pub some_after : (xs ys : List Instruction) → 0 < length ys → 0 < length (xs ++ ys)
some_after xs ys some = omega (arith, length-append xs ys)

pub before : (xs ys : List Instruction) → 0 < length xs → 0 < length (xs ++ ys)
before xs ys some = omega (arith, length-append xs ys)

pub loaded_some : (narrow : Bool) (kind : Kind) (o : Operand) (bytes d t : ℕ)
    → 0 < length (if narrow then load_of kind d o bytes ∷ [] else address_code o bytes t ++ (instructions.Load (d + 2) (operands.Slot t) 8 ∷ instructions.Load (d + 1) (operands.Slot t) 4 ∷ instructions.Load d (operands.Slot t) 0 ∷ []))
loaded_some true kind o bytes d t = omega arith
loaded_some false kind o bytes d t = some_after (address_code o bytes t) _ (omega arith)

pub counted_some : (o : Operand) (p d : ℕ) → 0 < length (count_code o p d)
counted_some (operands.Slot n) p d = omega arith
counted_some (operands.Word n) p d = omega arith

pub operates : (starts : Starts) (o : Operator) (l r : Operand) (d : ℕ) → 0 < length (operator_code starts o l r d)
operates starts operators.Divide l r d = some_after _ (instructions.Binary (binary_operator operators.Divide) d l r ∷ []) (omega arith)
operates starts operators.Remainder l r d = some_after _ (instructions.Binary (binary_operator operators.Remainder) d l r ∷ []) (omega arith)
operates starts o l r d = omega arith

-- ---- lists

-- `Lowers` says that the code of a list of tree nodes is emitted one node after the other. Each tree node of the list is emitted at a code
-- position and for a state, such as the index of the next slot. The code of a tree node may depend on the tree nodes after it in the list.
pub record Lowers {X S : Type 0} (all : List X → ℕ → S → List Instruction) (one : X → List X → ℕ → S → List Instruction) (next : X → List X → S → S) : Type 0 where
  pub none : (p : ℕ) (s : S) → all [] p s ≡ []
  pub more : (x : X) (xs : List X) (p : ℕ) (s : S) → all (x ∷ xs) p s ≡ one x xs p s ++ all xs (p + length (one x xs p s)) (next x xs s)

-- `Remains` says that the code emitted so far, followed by the code of a list's remaining nodes, equals the code
-- from before the list, followed by the code of the whole list.
abbrev pub Remains : {X S : Type 0} → (all : List X → ℕ → S → List Instruction) → (old : List Instruction) → (xs : List X) → (first : S) → (i : ℕ) → (code : List Instruction) → S → Type 0
Remains all old xs first i code s = code ++ all (drop i xs) (length code) s ≡ old ++ all xs (length old) first

module _ {X S : Type 0} (all : List X → ℕ → S → List Instruction) (one : X → List X → ℕ → S → List Instruction) (next : X → List X → S → S) (more : (x : X) (xs : List X) (p : ℕ) (s : S) → all (x ∷ xs) p s ≡ one x xs p s ++ all xs (p + length (one x xs p s)) (next x xs s)) where
  pub goes_on_by : (old : List Instruction) (xs : List X) (first : S) (i : ℕ) (code new : List Instruction) (s : S) (x : X) → i < length xs → x ≡ get_or xs i x
      → new ≡ code ++ one x (drop (i + 1) xs) (length code) s → Remains all old xs first i code s → Remains all old xs first (i + 1) new (next x (drop (i + 1) xs) s)
  goes_on_by old xs first i code new s x inside at is r =
      let rest = drop (i + 1) xs in
      let here : drop i xs ≡ x ∷ rest = drop_more xs i x inside ∙ ap (λ (y : X). y ∷ rest) (sym at) in
      let added = one x rest (length code) s in
      let after = next x rest s in
      let long : length new ≡ length code + length added = ap length is ∙ length-append code added in
      ap (λ (n : ℕ). new ++ all rest n after) long
      ∙ ap (λ (l : List Instruction). l ++ all rest (length code + length added) after) is
      ∙ append_assoc code added (all rest (length code + length added) after)
      ∙ ap (λ (l : List Instruction). code ++ l) (sym (more x rest (length code) s))
      ∙ ap (λ (ys : List X). code ++ all ys (length code) s) (sym here)
      ∙ r

module _ {X S : Type 0} (all : List X → ℕ → S → List Instruction) (one : X → List X → ℕ → S → List Instruction) (next : X → List X → S → S) (lowers : Lowers all one next) where
  pub goes_on : (old : List Instruction) (xs : List X) (first : S) (i : ℕ) (code new : List Instruction) (s : S) (x : X) → i < length xs → x ≡ get_or xs i x
      → new ≡ code ++ one x (drop (i + 1) xs) (length code) s → Remains all old xs first i code s → Remains all old xs first (i + 1) new (next x (drop (i + 1) xs) s)
  goes_on = goes_on_by all one next lowers.more

  pub all_made : (old : List Instruction) (xs : List X) (first : S) (i : ℕ) (code : List Instruction) (s : S) → length xs ≤ i → Remains all old xs first i code s → code ≡ old ++ all xs (length old) first
  all_made old xs first i code s done r =
      sym (append-nil code)
      ∙ ap (λ (l : List Instruction). code ++ l) (sym (lowers.none (length code) s))
      ∙ ap (λ (ys : List X). code ++ all ys (length code) s) (sym (drop_all i xs done))
      ∙ r

-- The result of the last operator of a chain goes to slot `d`, and that of any earlier operator of the chain goes to slot `t`.
next_slot_some : (o : Operation) (os : List Operation) (d t : ℕ) → next_slot (operations_of (o ∷ os)) d t ≡ t
next_slot_some (operation.Compute w o e) os d t = refl
next_slot_some (operation.Test o e) os d t = refl
next_slot_some (operation.Pointer o e) os d t = refl
next_slot_some (operation.PointerPeek n o e) os d t = refl

pub slot_after : (os : List Operation) (d t : ℕ) → 0 < length os → next_slot (operations_of os) d t ≡ t
slot_after [] d t some = absurd (omega (arith, some))
slot_after (o ∷ os) d t some = next_slot_some o os d t

pub slot_at_end : (os : List Operation) (d t : ℕ) → length os ≡ 0 → next_slot (operations_of os) d t ≡ d
slot_at_end [] d t none = refl
slot_at_end (o ∷ os) d t none = absurd (omega (arith, none))

-- The words of the arguments passed so far and those of the remaining arguments are all argument words of the call.
pub passed_on : (cs : List ConvertedCode) (i slot first : ℕ) (c : ConvertedCode) → i < length cs → c ≡ get_or cs i c → slot + all_passed (arguments_of (drop i cs)) ≡ first + all_passed (arguments_of cs)
    → slot + words_of_kind c.to + all_passed (arguments_of (drop (i + 1) cs)) ≡ first + all_passed (arguments_of cs)
passed_on cs i slot first c inside at left =
    let here : drop i cs ≡ c ∷ drop (i + 1) cs = drop_more cs i c inside ∙ ap (λ (y : ConvertedCode). y ∷ drop (i + 1) cs) (sym at) in
    let words : all_passed (arguments_of (drop i cs)) ≡ words_of_kind c.to + all_passed (arguments_of (drop (i + 1) cs)) = ap (λ (l : List ConvertedCode). all_passed (arguments_of l)) here in
    omega (arith, left, words)

pub call_viewed : (value : Expr) {w : Span} (f : Callee) (v : Vec ConvertedCode Heap) (t : ValueTypeCode) → value ≡ expr.Call w f v t → (items : List ConvertedCode) → items ≡ v.items
    → view_expression value ≡ Call f (arguments_of items) (view_value_type t)
call_viewed value {w} f v t is items same =
    ap view_expression is ∙ view_typed_call w f v t ∙ ap (λ (cs : List ConvertedCode). Call f (arguments_of cs) (view_value_type t)) (sym same)

pub binary_viewed : (value : Expr) (b : Box Expr Heap) (v : Vec Operation Heap) (t : TyCode) → value ≡ expr.Binary b v t → (first : Expr) → first ≡ b.value → (items : List Operation) → items ≡ v.items
    → view_expression value ≡ Binary (view_expression first) (operations_of items) (view_ty t)
binary_viewed value b v t is first at items same =
    ap view_expression is ∙ view_typed_binary b v t ∙ ap (λ (a : Expr). Binary (view_expression a) (operations_of v.items) (view_ty t)) (sym at)
    ∙ ap (λ (os : List Operation). Binary (view_expression first) (operations_of os) (view_ty t)) (sym same)

-- ---- targets that are set later

-- The module assumes an instruction that jumps over a body of code after it, and whose target is set once the body is emitted.
module _ (old : List Instruction) (x : Instruction) (body : ℕ → List Instruction) (jump : ℕ → Instruction) (begun made patched : List Instruction) where
  pub written_back : begun ≡ old ++ x ∷ [] → made ≡ begun ++ body (length begun) → patched ≡ set made (length old) (jump (length made))
      → patched ≡ old ++ jump (length old + 1 + length (body (length old + 1))) ∷ body (length old + 1)
  written_back b m p =
      let first : length begun ≡ length old + 1 = ap length b ∙ length-append old (x ∷ []) in
      let inside : made ≡ old ++ x ∷ body (length old + 1)
      = m ∙ ap (λ (n : ℕ). begun ++ body n) first ∙ ap (λ (l : List Instruction). l ++ body (length old + 1)) b ∙ append_assoc old (x ∷ []) (body (length old + 1)) in
      let last : length made ≡ length old + 1 + length (body (length old + 1))
      = ap length inside ∙ length-append old (x ∷ body (length old + 1)) ∙ omega arith in
      p
      ∙ ap (λ (n : ℕ). set made (length old) (jump n)) last
      ∙ ap (λ (l : List Instruction). set l (length old) (jump (length old + 1 + length (body (length old + 1))))) inside
      ∙ set-append_seam old x (body (length old + 1)) (jump (length old + 1 + length (body (length old + 1))))

-- The module assumes the code of a logical operator: the jump over its right operand, the operand's code, and the
-- conversion to a truth value.
module _ (old : List Instruction) (x : Instruction) (body : ℕ → List Instruction) (jump : ℕ → Instruction) (begun made patched new last : List Instruction) (place : ℕ) (here : place ≡ length old) (target : ℕ) where
  pub tested : begun ≡ old ++ x ∷ [] → made ≡ begun ++ body (length begun) → target ≡ length made → patched ≡ set made place (jump target) → new ≡ patched ++ last
      → new ≡ old ++ (jump (length old + 1 + length (body (length old + 1))) ∷ (body (length old + 1) ++ last))
  tested b m t p n =
      let all = jump (length old + 1 + length (body (length old + 1))) ∷ body (length old + 1) in
      n
      ∙ ap (λ (l : List Instruction). l ++ last)
      (written_back old x body jump begun made patched b m (p ∙ ap (λ (k : ℕ). set made k (jump target)) here ∙ ap (λ (k : ℕ). set made (length old) (jump k)) t))
      ∙ append_assoc old all last

-- If two pieces of code are emitted one after the other, the second is emitted for the position after the first.
pub emitted_joined : (old x : List Instruction) (y : ℕ → List Instruction) (m1 m2 : List Instruction) → m1 ≡ old ++ x → m2 ≡ m1 ++ y (length m1) → m2 ≡ old ++ (x ++ y (length old + length x))
emitted_joined old x y m1 m2 e1 e2 =
    let place = length old + length x in
    e2 ∙ ap (λ (n : ℕ). m1 ++ y n) (ap length e1 ∙ length-append old x) ∙ ap (λ (l : List Instruction). l ++ y place) e1 ∙ append_assoc old x (y place)

-- Appending instructions to code does not make the code shorter.
pub no_shorter_than : (old more new : List Instruction) → new ≡ old ++ more → length old ≤ length new
no_shorter_than old more new is = let e : length new ≡ length (old ++ more) = ap length is in omega (arith, e, length-append old more)

-- The slot for the result of an operator is determined by the number of operators that follow in the chain.
pub slot_by_count : (xs : List Operation) (i many to d t : ℕ) → many + (i + 1) ≡ length xs → (many ≡ 0 → to ≡ d) → (0 < many → to ≡ t) → to ≡ next_slot (operations_of (drop (i + 1) xs)) d t
slot_by_count xs i zero to d t counted none some = none refl ∙ sym (slot_at_end (drop (i + 1) xs) d t (omega (arith, length-drop (i + 1) xs, counted)))
slot_by_count xs i (suc many) to d t counted none some = some (omega arith) ∙ sym (slot_after (drop (i + 1) xs) d t (omega (arith, length-drop (i + 1) xs, counted)))

-- ---- new objects

-- Returns the code that counts the elements of a fat pointer into a slot.
abbrev counting_code : (d length index none past : ℕ) → List Instruction
counting_code d length index none past =
    instructions.Branch comparisons.LessUnsigned (operands.Slot length) (operands.Slot index) none
    ∷ instructions.Binary plain_binary.Subtract d (operands.Slot length) (operands.Slot index)
    ∷ instructions.Jump past ∷ []

pub made_count : (pointer : Operand) (n following here d : ℕ) (old m1 m2 m3 : List Instruction)
    → pointer ≡ operands.Slot n
    → following ≡ n + 3
    → here ≡ length old
    → m1 ≡ old ++ counting_code d (following - 2) (following - 1) (here + 3) (here + 3 + 1)
    → m2 ≡ m1
    → m3 ≡ m2 ++ instructions.Move d (operands.Word 0) ∷ []
    → m3 ≡ old ++ count_code pointer (length old) d
made_count pointer n following here d old m1 m2 m3 pointer_is following_is here_is made same last =
    let first : following - 2 ≡ n + 1 = omega (arith, following_is) in
    let second : following - 1 ≡ n + 2 = omega (arith, following_is) in
    let target = length old + 3 in
    let there : here + 3 ≡ target = omega (arith, here_is) in
    let past : here + 3 + 1 ≡ length old + 4 = omega (arith, here_is) in
    let none = instructions.Move d (operands.Word 0) in
    let counted : m1 ≡ old ++ counting_code d (n + 1) (n + 2) target (length old + 4) =
    made
    ∙ ap (λ (x : ℕ). old ++ counting_code d x (following - 1) (here + 3) (here + 3 + 1)) first
    ∙ ap (λ (x : ℕ). old ++ counting_code d (n + 1) x (here + 3) (here + 3 + 1)) second
    ∙ ap (λ (x : ℕ). old ++ counting_code d (n + 1) (n + 2) x (here + 3 + 1)) there
    ∙ ap (λ (x : ℕ). old ++ counting_code d (n + 1) (n + 2) target x) past in
    emitted_joined old (counting_code d (n + 1) (n + 2) target (length old + 4)) (λ p. none ∷ []) m1 m3 counted (last ∙ ap (λ (l : List Instruction). l ++ none ∷ []) same)
    ∙ ap (λ (o : Operand). old ++ count_code o (length old) d) (sym pointer_is)

-- ---- arrays

pub made_begun : (starts : Starts) (old m1 m2 : List Instruction) (handle : Operand) (kind : Kind) (following t : ℕ) → following ≡ t + 3 → m1 ≡ old ++ measured_code starts kind (following - 2) (following - 1) t
    → m2 ≡ m1 ++ asked_code handle kind following t → m2 ≡ old ++ begun_code starts handle kind t
made_begun starts old m1 m2 handle kind following t is e1 e2 =
    let x : following - 2 ≡ t + 1 = omega (arith, is) in
    let y : following - 1 ≡ t + 2 = omega (arith, is) in
    e2
    ∙ ap (λ (s : ℕ). m1 ++ asked_code handle kind s t) is
    ∙ ap (λ (l : List Instruction). l ++ asked_code handle kind (t + 3) t) (e1 ∙ ap (λ (n : ℕ). old ++ measured_code starts kind n (following - 1) t) x ∙ ap (λ (n : ℕ). old ++ measured_code starts kind (t + 1) n t) y)
    ∙ append_assoc old (measured_code starts kind (t + 1) (t + 2) t) (asked_code handle kind (t + 3) t)

-- The code of a new array's elements is emitted as a loop that begins at position `head`.
pub made_elements : (starts : Starts) (counters : List ℕ) (a : Expression) (old begun made filled patched new : List Instruction) (x : Instruction) (last : Condition) (kind : Kind) (head following d t : ℕ) → following ≡ t + 3
    → counters ≡ starts.counters ++ (following - 1) ∷ [] → head ≡ length old → begun ≡ old ++ x ∷ []
    → made ≡ begun ++ expression_code (record { locals = starts.locals; tag_slot = starts.tag_slot; structs = starts.structs; raises = starts.raises; counters = counters; globals = starts.globals; scopes = starts.scopes }) a (length begun) following following
    → filled ≡ made ++ written_code kind head (following - 1) following (following + words_of_kind kind) t → last ≡ last_element (following - 2) (following - 1)
    → patched ≡ set filled head (failing_jump last (length filled)) → new ≡ patched ++ restarted_code d (following - 1) t
    → new ≡ old ++ elements_code kind (expression_code (with_counter starts (t + 2)) a (length old + 1) (t + 3) (t + 3)) (length old) d t
made_elements starts counters a old begun made filled patched new i last kind head following d t is counters_are here e0 e1 e2 last_is e3 e4 =
    let x : following - 2 ≡ t + 1 = omega (arith, is) in
    let y : following - 1 ≡ t + 2 = omega (arith, is) in
    let z : following + words_of_kind kind ≡ t + 3 + words_of_kind kind = omega (arith, is) in
    let first : made ≡ begun ++ expression_code (with_counter starts (t + 2)) a (length begun) (t + 3) (t + 3)
    = e1
    ∙ ap (λ (cs : List ℕ). begun ++ expression_code (record { locals = starts.locals; tag_slot = starts.tag_slot; structs = starts.structs; raises = starts.raises; counters = cs; globals = starts.globals; scopes = starts.scopes }) a (length begun) following following) (counters_are ∙ ap (λ (n : ℕ). starts.counters ++ n ∷ []) y)
    ∙ ap (λ (n : ℕ). begun ++ expression_code (with_counter starts (t + 2)) a (length begun) n n) is in
    let second : filled ≡ made ++ filled_code kind (length old) t
    = e2
    ∙ ap (λ (n : ℕ). made ++ written_code kind n (following - 1) following (following + words_of_kind kind) t) here
    ∙ ap (λ (n : ℕ). made ++ written_code kind (length old) n following (following + words_of_kind kind) t) y
    ∙ ap (λ (n : ℕ). made ++ written_code kind (length old) (t + 2) n (following + words_of_kind kind) t) is
    ∙ ap (λ (n : ℕ). made ++ written_code kind (length old) (t + 2) (t + 3) n t) z in
    let element = λ (p : ℕ). expression_code (with_counter starts (t + 2)) a p (t + 3) (t + 3) in
    let third : patched ≡ set filled head (failing_jump (last_element (t + 1) (t + 2)) (length filled))
    = e3
    ∙ ap (λ (c : Condition). set filled head (failing_jump c (length filled))) (last_is ∙ ap (λ (n : ℕ). last_element n (following - 1)) x ∙ ap (λ (n : ℕ). last_element (t + 1) n) y) in
    tested old i (λ (p : ℕ). element p ++ filled_code kind (length old) t) (λ (q : ℕ). failing_jump (last_element (t + 1) (t + 2)) q) begun filled patched new (ended_code d t) head here (length filled)
    e0
    (second ∙ ap (λ (l : List Instruction). l ++ filled_code kind (length old) t) first ∙ append_assoc begun (element (length begun)) (filled_code kind (length old) t))
    refl third (e4 ∙ ap (λ (n : ℕ). patched ++ restarted_code d n t) y)

-- ---- words of globals

-- `WordsLeft` says that the instructions so far, extended by those for the remaining words of a global, are all instructions.
abbrev pub WordsLeft : (each : (global slot : ℕ) → Instruction) → (old code : List Instruction) → (words first slot i : ℕ) → Type 0
WordsLeft each old code words first slot i =
    (left : ℕ) × (i + left ≡ words) × (code ++ word_by_word each left (first + i) (slot + i) ≡ old ++ word_by_word each words first slot)

pub words_begin : (each : (global slot : ℕ) → Instruction) (old : List Instruction) (words first slot : ℕ) → WordsLeft each old old words first slot 0
words_begin each old words first slot = (
  words,
  omega arith,
  ap (λ (n : ℕ). old ++ word_by_word each words n (slot + 0)) (let e : first + 0 ≡ first = omega arith in e)
      ∙ ap (λ (n : ℕ). old ++ word_by_word each words first n) (let e : slot + 0 ≡ slot = omega arith in e),
)

pub words_next : (each : (global slot : ℕ) → Instruction) (old code new : List Instruction) (words first slot i : ℕ) → i < words → new ≡ code ++ each (first + i) (slot + i) ∷ []
    → WordsLeft each old code words first slot i → WordsLeft each old new words first slot (i + 1)
words_next each old code new words first slot i below added (zero, count, made) = absurd (omega (arith, count, below))
words_next each old code new words first slot i below added (suc left, count, made) = (
  left,
  omega (arith, count),
  ap (λ (n : ℕ). new ++ word_by_word each left n (slot + (i + 1))) (let e : first + (i + 1) ≡ suc (first + i) = omega arith in e)
      ∙ ap (λ (n : ℕ). new ++ word_by_word each left (suc (first + i)) n) (let e : slot + (i + 1) ≡ suc (slot + i) = omega arith in e)
      ∙ ap (λ (l : List Instruction). l ++ word_by_word each left (suc (first + i)) (suc (slot + i))) added
      ∙ append_assoc code (each (first + i) (slot + i) ∷ []) (word_by_word each left (suc (first + i)) (suc (slot + i)))
      ∙ made,
)

pub word_code_ends : (each : (global slot : ℕ) → Instruction) (old code : List Instruction) (words first slot i : ℕ) → words ≤ i → WordsLeft each old code words first slot i → code ≡ old ++ word_by_word each words first slot
word_code_ends each old code words first slot i done (zero, count, made) = sym (append-nil code) ∙ made
word_code_ends each old code words first slot i done (suc left, count, made) = absurd (omega (arith, count, done))
