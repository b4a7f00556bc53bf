-- This file converts a fat pointer to a thin one. The fat pointer is tested for null, its index is compared with its length, and then the
-- address of the cell is computed.
use Rattle.std.proofs.Common.{◌≡◌, ◌≢◌, ℕ, ◌+◌, ◌≤◌, true, false, List, [], ◌∷◌, Option, None, Some, refl, sym, ap, subst, ◌∙◌, arith}
use Rattle.std.specs.Prelude.{◌==◌, nat_lt, nat_le}
use Rattle.std.proofs.lemmas.Bool.{eq-eqb, ne_eqb, ltb-true, ltb-false, le-leb, lt-leb}
use Rattle.cyc_words.specs.Word.{add_of}
use Rattle.cyc_types.specs.TypedTrees.{Program}
use Rattle.cyc_plain.specs.declared.instruction.BinaryOperator.TheVariants as plain_binary
use Rattle.cyc_plain.specs.declared.instruction.Comparison.TheVariants as comparisons
use Rattle.cyc_plain.specs.declared.instruction.Operand.TheVariants as operands
use Rattle.cyc_plain.specs.declared.instruction.Instruction.TheVariants as instructions
use Rattle.cyc_plain.specs.inside.State as plain
use Rattle.cyc_plain.specs.inside.State.{Words, put, Configuration}
use Rattle.cyc_plain.specs.inside.Step.{Choice, with_slots, at, performed}
use Rattle.cyc_plain.specs.inside.Straight.{At}
use Rattle.cyc_plain.proofs.SlotLaws.{put-same, put-other}
use Rattle.cyc_meaning.specs.Operators.{null_exception, array_bounds}
use Rattle.cyc_meaning.specs.State.{World, Environment, Entry, Focus, Throwing, State, Running}
use Rattle.cyc_meaning.specs.Step.{step}
use Rattle.cyc_lower_proof.specs.inside.ValueCode.{raising, scale_of}
use Rattle.cyc_lower_proof.specs.inside.Lowering.{lower_program}
use Rattle.cyc_lower_proof.proofs.relation.code.Stands.{SteppedAt, ReachedBy}
use Rattle.cyc_lower_proof.proofs.relation.simulation.Relation.{DataIn, SharedAt, Matches}
use Rattle.cyc_lower_proof.proofs.relation.simulation.Stacks.{types_at, code_of, bounds_at}
use Rattle.cyc_lower_proof.proofs.relation.simulation.Matched.{IsMatched, by_one}
use Rattle.cyc_lower_proof.proofs.handler_steps.Handling.{raised}
use Rattle.cyc_lower_proof.proofs.relation.simulation.Paths.{Link, IsPath, is_quiet, by_path}
use Rattle.cyc_lower_proof.proofs.value_steps.ValueWords.{branch_taken, branch_passed}
use Rattle.cyc_lower_proof.proofs.pointer_steps.ElementWords.{scaled, scales}

module _ (source : Program) (pages calls : ℕ) where
  -- ---- the test for null

  module _ (focus : Focus) (k₀ k : List Entry) (e : Environment) (w : World) (c : Configuration) (null : ℕ → Type 0) (n r : ℕ) (shared : SharedAt source pages calls k₀ e w c)
      (test : (x : ℕ) × At (code_of source c.active.function) c.active.next (instructions.Branch comparisons.Equal (operands.Slot n) (operands.Word 0) x) × null x × (c.active.next + 1 ≡ r)) where
    -- For a null pointer, the code continues at a separate position.
    pub leaves_null : (next : State) → c.active.slots n ≡ 0 → step source (Running focus k₀ e w) ≡ next → ((block : ℕ) → null block → Matches source pages calls next (plain.Running (at c block)))
        → IsMatched source pages calls (Running focus k₀ e w) (plain.Running c)
    leaves_null next is_zero does goes =
        let (block, jump, leads, end) = test in
        by_one source pages calls does shared jump
        (λ choice. subst (Matches source pages calls next) (sym (branch_taken c (c.active.slots n == 0) block (eq-eqb (c.active.slots n) 0 is_zero))) (goes block leads))

    -- Converting a null pointer raises an exception.
    pub raises_null : (shared_after : SharedAt source pages calls k e w c) → DataIn source shared_after.tables c.active.slots k e w c → c.active.slots n ≡ 0 → step source (Running focus k₀ e w) ≡ Running (Throwing null_exception 0) k e w
        → ((block : ℕ) → null block → At (code_of source c.active.function) block (raising null_exception)) → IsMatched source pages calls (Running focus k₀ e w) (plain.Running c)
    raises_null shared_after facts is_zero does raises =
        leaves_null (Running (Throwing null_exception 0) k e w) is_zero does
        (λ block leads. raised source pages calls null_exception 0 k e w (at c block) (operands.Word null_exception) (operands.Word 0) (omega arith) shared_after facts (raises block leads) refl refl)

    -- The branch that a pointer which is not null takes past the null case.
    abbrev past_null : Link
    past_null = record { instruction = instructions.Branch comparisons.Equal (operands.Slot n) (operands.Word 0) test.0; following = at c r }

    past_null_path : c.active.slots n ≢ 0 → (links : List Link) → IsPath source (at c r) links → IsPath source c (past_null ∷ links)
    past_null_path some links path =
        let (block, jump, leads, end) = test in
        (jump, (λ choice. branch_passed c (c.active.slots n == 0) block (ne_eqb (c.active.slots n) 0 some) ∙ ap (λ i. plain.Running (at c i)) end), omega (arith, end), is_quiet c (at c r).active, path)

  -- ---- comparing an index before it is scaled

  module _ (focus : Focus) (k₀ k : List Entry) (e : Environment) (w : World) (c : Configuration) (null : ℕ → Type 0) (span : Option ℕ) (n m t q : ℕ) (shared : SharedAt source pages calls k₀ e w c)
      (here : ReachedBy (code_of source c.active.function) (bounds_at source c.active.function) (types_at source c.active.function) null span n m t c.active.next q) where
    abbrev slots : Words
    slots = c.active.slots

    abbrev r : ℕ
    r = here.0

    abbrev s : ℕ
    s = here.1

    abbrev not_null : Link
    not_null = past_null focus k₀ k e w c null n r shared here.2

    not_null_path : slots n ≢ 0 → (links : List Link) → IsPath source (at c r) links → IsPath source c (not_null ∷ links)
    not_null_path = past_null_path focus k₀ k e w c null n r shared here.2

    abbrev in_bounds : Link
    in_bounds = record { instruction = instructions.Branch comparisons.GreaterOrEqualUnsigned (operands.Slot m) (operands.Slot (n + 1)) here.3.0; following = at c s }

    in_bounds_leads : nat_lt (slots m) (slots (n + 1)) ≡ true → (choice : Choice) → performed (lower_program source) choice (at c r) in_bounds.instruction ≡ plain.Running (at c s)
    in_bounds_leads less choice =
        branch_passed (at c r) (nat_le (slots (n + 1)) (slots m)) here.3.0 (lt-leb (slots (n + 1)) (slots m) (ltb-true (slots m) (slots (n + 1)) less)) ∙ ap (λ i. plain.Running (at c i)) here.3.3

    -- An index that is not below the length of the pointer raises an exception.
    pub raises_bounds : (shared_after : SharedAt source pages calls k e w c) → DataIn source shared_after.tables c.active.slots k e w c → slots n ≢ 0 → nat_lt (slots m) (slots (n + 1)) ≡ false
        → step source (Running focus k₀ e w) ≡ Running (Throwing array_bounds 0) k e w → IsMatched source pages calls (Running focus k₀ e w) (plain.Running c)
    raises_bounds shared_after facts some least does =
        let (other, branch, raise, following) = here.3 in
        by_path source pages calls focus k₀ e w c (Running (Throwing array_bounds 0) k e w) (not_null ∷ []) in_bounds.instruction does shared (not_null_path some [] tt) branch
        (λ choice. subst (Matches source pages calls (Running (Throwing array_bounds 0) k e w)) (sym (branch_taken (at c r) (nat_le (slots (n + 1)) (slots m)) other (le-leb (slots (n + 1)) (slots m) (ltb-false (slots m) (slots (n + 1)) least))))
        (raised source pages calls array_bounds 0 k e w (at c other) (operands.Word array_bounds) (operands.Word 0) (omega arith) shared_after facts raise refl refl))

    -- The access reaches the first cell of the object, without an index.
    pub reaches_first : span ≡ None → (next : State) → slots n ≢ 0 → nat_lt (slots m) (slots (n + 1)) ≡ true → step source (Running focus k₀ e w) ≡ next
        → Matches source pages calls next (plain.Running (at c q)) → IsMatched source pages calls (Running focus k₀ e w) (plain.Running c)
    reaches_first first next some less does goes =
        let (other, branch, raise, following) = here.3 in
        let there : s ≡ q = subst (λ x. SteppedAt (code_of source c.active.function) (bounds_at source c.active.function) (types_at source c.active.function) x n m t s q) first here.4 in
        by_path source pages calls focus k₀ e w c next (not_null ∷ []) in_bounds.instruction does shared (not_null_path some [] tt) branch
        (λ choice. subst (Matches source pages calls next) (sym (in_bounds_leads less choice)) (subst (λ i. Matches source pages calls next (plain.Running (at c i))) (sym there) goes))

    -- The slots after the address of the cell at the index has been computed and moved to slot t.
    abbrev pub stepped : (bytes : ℕ) → Words
    stepped bytes = put (put slots (t + 2) (scaled bytes (slots m))) t (add_of (slots n) (scaled bytes (slots m)))

    pub reaches_cell : (bytes : ℕ) → span ≡ Some bytes → (next : State) → n ≤ t → slots n ≢ 0 → nat_lt (slots m) (slots (n + 1)) ≡ true → step source (Running focus k₀ e w) ≡ next
        → Matches source pages calls next (plain.Running (at (with_slots c (stepped bytes)) q)) → IsMatched source pages calls (Running focus k₀ e w) (plain.Running c)
    reaches_cell bytes cells next low some less does goes =
        let g = c.active.function in
        let (other, branch, raise, following) = here.3 in
        let (scale, sum, last) = subst (λ x. SteppedAt (code_of source g) (bounds_at source g) (types_at source g) x n m t s q) cells here.4 in
        let far = scaled bytes (slots m) in
        let before = put slots (t + 2) far in
        let b : Configuration = at (with_slots c before) (s + 1) in
        let first : before n ≡ slots n = put-other slots (t + 2) n far (λ same. absurd (omega (arith, same, low))) in
        by_path source pages calls focus k₀ e w c next
        (not_null ∷ in_bounds ∷ record { instruction = scale_of bytes (t + 2) m; following = b } ∷ [])
        (instructions.Binary plain_binary.Add t (operands.Slot n) (operands.Slot (t + 2))) does shared
        (not_null_path some (in_bounds ∷ record { instruction = scale_of bytes (t + 2) m; following = b } ∷ [])
        (branch, in_bounds_leads less, omega (arith, following), is_quiet (at c r) (at c s).active, (scale, scales source bytes (t + 2) m (at c s), omega arith, is_quiet (at c s) b.active, tt)))
        sum
        (λ choice. subst (λ (x : ℕ). Matches source pages calls next (plain.Running (at (with_slots c (put before t x)) (s + 1 + 1))))
        (sym (ap (λ (y : ℕ). add_of y (before (t + 2))) first ∙ ap (add_of (slots n)) (put-same slots (t + 2) far)))
        (subst (λ i. Matches source pages calls next (plain.Running (at (with_slots c (stepped bytes)) i))) (sym last) goes))

  -- Holds if this block of instructions raises the null exception.
  abbrev pub RaisesNull : ℕ → (block : ℕ) → Type 0
  RaisesNull g block = At (code_of source g) block (raising null_exception)
