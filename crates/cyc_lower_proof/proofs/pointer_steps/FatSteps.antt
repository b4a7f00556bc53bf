-- This file proves the steps of operators on fat pointers.
use Rattle.std.proofs.Common.{◌≡◌, ◌≢◌, ℕ, ◌+◌, ◌-◌, ◌≤◌, Bool, true, false, not, List, [], ◌∷◌, Option, refl, sym, ap, subst, ◌∙◌, arith, inl, inr}
use Rattle.std.specs.Prelude.{◌==◌, nat_lt, nat_le, if◌then◌else◌}
use Rattle.std.proofs.lemmas.Bool.{cases_Bool, ltb-true, ltb-false, le-leb, lt-leb}
use Rattle.cyc_words.specs.Word.{IsWord, sub_of}
use Rattle.cyc_types.specs.declared.typed.Kind.{Kind}
use Rattle.cyc_types.specs.declared.typed.Kind.TheVariants as kinds
use Rattle.cyc_types.specs.TypedTrees.{Program}
use Rattle.cyc_plain.specs.declared.instruction.BinaryOperator.TheVariants as plain_binary
use Rattle.cyc_plain.specs.declared.instruction.Comparison.TheVariants as comparisons
use Rattle.cyc_plain.specs.declared.instruction.Operand.{Operand}
use Rattle.cyc_plain.specs.declared.instruction.Operand.TheVariants as operands
use Rattle.cyc_plain.specs.declared.instruction.Instruction.TheVariants as instructions
use Rattle.cyc_plain.specs.inside.Operators.{truth}
use Rattle.cyc_plain.specs.inside.State as plain
use Rattle.cyc_plain.specs.inside.State.{Words, put, Configuration}
use Rattle.cyc_plain.specs.inside.Step.{Choice, with_slots, at, performed}
use Rattle.cyc_plain.proofs.SlotLaws.{put-same, put-other}
use Rattle.cyc_meaning.specs.Values.{Value, Int, Null, Thin, Fat, Handle, Key, Operand as Kinded, words_of_kind}
use Rattle.cyc_meaning.specs.Operators.{Result, Gives, Misfits}
use Rattle.cyc_meaning.specs.Pointers.{element_count}
use Rattle.cyc_meaning.specs.Conversion.{conversion}
use Rattle.cyc_meaning.specs.State.{World, Environment, ConvertTo, CountElements, Entry, Needs, Given, Running}
use Rattle.cyc_meaning.specs.Step.{computed, step}
use Rattle.cyc_memory_relation.specs.inside.Tables.{Tables}
use Rattle.cyc_memory_relation.specs.inside.Words.{IsPartOf, Is}
use Rattle.cyc_memory_relation.proofs.Pointers.{thin-to_fat}
use Rattle.cyc_lower_proof.specs.inside.Lowering.{lower_program}
use Rattle.cyc_lower_proof.proofs.slots.Widths.{Outside}
use Rattle.cyc_lower_proof.proofs.relation.code.Stands.{CountAt, WidenedAt}
use Rattle.cyc_lower_proof.proofs.object_steps.Handles.{kept_holds}
use Rattle.cyc_lower_proof.proofs.relation.contents.HeldValues.{IsIn, Holds, held}
use Rattle.cyc_lower_proof.proofs.relation.simulation.Relation.{in_operand, DataIn, SharedAt, Matches}
use Rattle.cyc_lower_proof.proofs.relation.simulation.Stacks.{floor, types_at, ValueStack, LandsStack, code_of, bounds_at, top}
use Rattle.cyc_lower_proof.proofs.relation.contents.Data.{height-least, Holds-same}
use Rattle.cyc_lower_proof.proofs.relation.contents.HandlerData.{data_written}
use Rattle.cyc_lower_proof.proofs.relation.simulation.Accesses.{IsWell}
use Rattle.cyc_lower_proof.proofs.relation.simulation.Matched.{IsMatched, by_one}
use Rattle.cyc_lower_proof.proofs.relation.simulation.Paths.{Link, is_quiet, by_path}
use Rattle.cyc_lower_proof.proofs.value_steps.Landings.{landed_word}
use Rattle.cyc_lower_proof.proofs.value_steps.ValueWords.{branch_taken, branch_passed}

-- ---- the words of a fat pointer

-- If a value is a fat pointer to an object, then its representation kind is the one of three machine words.
pub fat_is : (t : Tables) (kind : Kind) (object start count index : ℕ) (words : Words) (p : ℕ) → Is t kind (Fat object start count index) words p
    → IsPartOf t object start count (words p) × (words (p + 1) ≡ count) × (words (p + 2) ≡ index)
fat_is t kinds.Fat object start count index words p is = is
fat_is t kind object start count index words p is = absurd is

-- The second word of a null fat pointer is 0.
null_length : (t : Tables) (kind : Kind) (words : Words) (p : ℕ) → kind ≡ kinds.Fat → Is t kind Null words p → words (p + 1) ≡ 0
null_length t kind words p fat is = (subst (λ (x : Kind). Is t x Null words p) fat is).1

-- A fat pointer is never represented by one word.
not_a_word : (t : Tables) (kind : Kind) (object start count index : ℕ) (slots : Words) (w : ℕ) → IsIn t (record { kind = kind; value = Fat object start count index }) slots (operands.Word w) → ⊥
not_a_word t kinds.Fat object start count index slots w is = is
not_a_word t kind object start count index slots w is = is

-- The subtraction of a word from a larger or equal word does not wrap around.
difference : (a b : ℕ) → b ≤ a → IsWord a → sub_of a b ≡ a - b
difference a b below fits = omega (arith, below, fits)

module _ (source : Program) (pages calls : ℕ) where
  -- ---- the number of elements

  module _ (v : Kinded) (n d q : ℕ) (k : List Entry) (e : Environment) (w : World) (c : Configuration) (shared : SharedAt source pages calls k e w c) (facts : DataIn source shared.tables c.active.slots k e w c)
      (holds : Holds shared.tables c.active.slots (floor source c.active.function k) (held k))
      (here : CountAt (code_of source c.active.function) (bounds_at source c.active.function) (types_at source c.active.function) (operands.Slot n) d c.active.next q)
      (lands : LandsStack source c.active.function e.locals kinds.Int d q c.frames k) where
    abbrev slots : Words
    slots = c.active.slots

    abbrev p : ℕ
    p = c.active.next

    abbrev Counted : (word : ℕ) → Type 0
    Counted word = step source (Running (Given v) (Needs CountElements ∷ k) e w) ≡ Running (Given (record { kind = kinds.Int; value = Int word })) k e w

    abbrev in_bounds : (following : Configuration) → Link
    in_bounds following = record { instruction = instructions.Branch comparisons.LessUnsigned (operands.Slot (n + 1)) (operands.Slot (n + 2)) (p + 3); following = following }

    -- If the element count of a pointer is 0, then the last instruction of the code that counts elements yields this 0.
    none_counted : (choice : Choice) → Matches source pages calls (Running (Given (record { kind = kinds.Int; value = Int 0 })) k e w) (performed (lower_program source) choice (at c (p + 3)) (instructions.Move d (operands.Word 0)))
    none_counted choice =
        let (past, subtract, jump, move, end) = here in
        landed_word source pages calls 0 0 d k e w (at c (p + 3)) q refl shared facts holds (omega (arith, end)) lands

    counts_past : nat_lt (slots (n + 1)) (slots (n + 2)) ≡ true → Counted 0 → IsMatched source pages calls (Running (Given v) (Needs CountElements ∷ k) e w) (plain.Running c)
    counts_past less does =
        let (past, subtract, jump, move, end) = here in
        by_path source pages calls (Given v) (Needs CountElements ∷ k) e w c (Running (Given (record { kind = kinds.Int; value = Int 0 })) k e w) (in_bounds (at c (p + 3)) ∷ []) (instructions.Move d (operands.Word 0)) does shared
        (past, (λ choice. branch_taken c (nat_lt (slots (n + 1)) (slots (n + 2))) (p + 3) less), omega arith, is_quiet c (at c (p + 3)).active, tt)
        move none_counted

    counts_some : nat_lt (slots (n + 1)) (slots (n + 2)) ≡ false → Counted (sub_of (slots (n + 1)) (slots (n + 2))) → IsMatched source pages calls (Running (Given v) (Needs CountElements ∷ k) e w) (plain.Running c)
    counts_some least does =
        let (past, subtract, jump, move, end) = here in
        let many = sub_of (slots (n + 1)) (slots (n + 2)) in
        let computed_at : Configuration = at (with_slots c (put slots d many)) (p + 2) in
        let second : p + 1 + 1 ≡ p + 2 = omega arith in
        let fourth : p + 3 + 1 ≡ q = omega (arith, end) in
        by_path source pages calls (Given v) (Needs CountElements ∷ k) e w c (Running (Given (record { kind = kinds.Int; value = Int many })) k e w)
        (in_bounds (at c (p + 1)) ∷ record { instruction = instructions.Binary plain_binary.Subtract d (operands.Slot (n + 1)) (operands.Slot (n + 2)); following = computed_at } ∷ [])
        (instructions.Jump q) does shared (
          past,
          (λ choice. branch_passed c (nat_lt (slots (n + 1)) (slots (n + 2))) (p + 3) least),
          omega arith,
          is_quiet c (at c (p + 1)).active,
          (subtract, (λ choice. ap (λ i. plain.Running (at (with_slots c (put slots d many)) i)) second), omega arith, is_quiet (at c (p + 1)) computed_at.active, tt),
        )
        jump
        (λ choice. subst (λ i. Matches source pages calls (Running (Given (record { kind = kinds.Int; value = Int many })) k e w) (plain.Running (at (with_slots c (put slots d many)) i))) fourth
        (landed_word source pages calls many many d k e w (at c (p + 3)) q refl shared facts holds fourth lands))

    -- The element count of a null pointer is 0, because its length word is 0.
    counts_null : slots (n + 1) ≡ 0 → Counted 0 → IsMatched source pages calls (Running (Given v) (Needs CountElements ∷ k) e w) (plain.Running c)
    counts_null zero does =
        elim (cases_Bool (nat_lt (slots (n + 1)) (slots (n + 2)))) [
          | inl less ↦ counts_past less does
          | inr least ↦
              let none : 0 ≡ sub_of (slots (n + 1)) (slots (n + 2)) = omega (arith, ltb-false (slots (n + 1)) (slots (n + 2)) least, zero) in
              counts_some least (does ∙ ap (λ (x : ℕ). Running (Given (record { kind = kinds.Int; value = Int x })) k e w) none)
        ]

    -- The element count of a fat pointer that is not null.
    counts_fat : (object start count index : ℕ) → v.value ≡ Fat object start count index → IsWord (slots (n + 1))
        → IsPartOf shared.tables object start count (slots n) × (slots (n + 1) ≡ count) × (slots (n + 2) ≡ index)
        → IsMatched source pages calls (Running (Given v) (Needs CountElements ∷ k) e w) (plain.Running c)
    counts_fat object start count index value fits (part, count_is, index_is) =
        let does : step source (Running (Given v) (Needs CountElements ∷ k) e w) ≡ Running (Given (record { kind = kinds.Int; value = Int (if nat_le index count then count - index else 0) })) k e w
        = ap (λ (x : Value). computed kinds.Int (element_count x) k e w) value in
        elim (cases_Bool (nat_lt (slots (n + 1)) (slots (n + 2)))) [
          | inl less ↦
              counts_past less
              (does ∙ ap (λ (b : Bool). Running (Given (record { kind = kinds.Int; value = Int (if b then count - index else 0) })) k e w)
              (lt-leb index count (omega (arith, ltb-true (slots (n + 1)) (slots (n + 2)) less, count_is, index_is))))
          | inr least ↦
              let below : slots (n + 2) ≤ slots (n + 1) = ltb-false (slots (n + 1)) (slots (n + 2)) least in
              counts_some least
              (does
              ∙ (ap (λ (b : Bool). Running (Given (record { kind = kinds.Int; value = Int (if b then count - index else 0) })) k e w) (le-leb index count (omega (arith, below, count_is, index_is)))
              ∙ ap (λ (x : ℕ). Running (Given (record { kind = kinds.Int; value = Int x })) k e w)
              (let same : count - index ≡ slots (n + 1) - slots (n + 2) = omega (arith, count_is, index_is) in same ∙ sym (difference (slots (n + 1)) (slots (n + 2)) below fits))))
        ]

  -- The step that counts the elements of a pointer in any operand.
  pub counts : (v : Kinded) (o : Operand) (d q : ℕ) (k : List Entry) (e : Environment) (w : World) (c : Configuration) → plain.HoldsWords (plain.Running c)
      → IsWell (step source (Running (Given v) (Needs CountElements ∷ k) e w))
      → (shared : SharedAt source pages calls k e w c) → DataIn source shared.tables c.active.slots k e w c → IsIn shared.tables v c.active.slots o
      → Holds shared.tables c.active.slots (floor source c.active.function k) (held k)
      → CountAt (code_of source c.active.function) (bounds_at source c.active.function) (types_at source c.active.function) o d c.active.next q
      → LandsStack source c.active.function e.locals kinds.Int d q c.frames k
      → v.kind ≡ kinds.Fat
      → IsMatched source pages calls (Running (Given v) (Needs CountElements ∷ k) e w) (plain.Running c)
  counts v o d q k e w c words well shared facts is holds here lands fat = by v.kind v.value o refl well is here
    where
      by : (kind : Kind) (value : Value) (o : Operand) → v ≡ record { kind = kind; value = value } → IsWell (computed kinds.Int (element_count value) k e w) → IsIn shared.tables (record { kind = kind; value = value }) c.active.slots o
          → CountAt (code_of source c.active.function) (bounds_at source c.active.function) (types_at source c.active.function) o d c.active.next q
          → IsMatched source pages calls (Running (Given v) (Needs CountElements ∷ k) e w) (plain.Running c)
      by kind Null (operands.Slot n) same well is here = counts_null v n d q k e w c shared facts holds here lands (null_length shared.tables kind c.active.slots n (sym (ap (λ (x : Kinded). x.kind) same) ∙ fat) is) (ap (λ (x : Kinded). computed kinds.Int (element_count x.value) k e w) same)
      by kind Null (operands.Word x) same well is (move, end) =
          by_one source pages calls (ap (λ (x : Kinded). computed kinds.Int (element_count x.value) k e w) same) shared move
          (λ choice. landed_word source pages calls 0 0 d k e w c q refl shared facts holds end lands)
      by kind (Fat object start count index) (operands.Slot n) same well is here =
          counts_fat v n d q k e w c shared facts holds here lands object start count index (ap (λ (x : Kinded). x.value) same) (words.0 (n + 1)) (fat_is shared.tables kind object start count index c.active.slots n is)
      by kind (Fat object start count index) (operands.Word x) same well is here = absurd (not_a_word shared.tables kind object start count index c.active.slots x is)
      by kind (Int a) o same well is here = absurd (well refl)
      by kind (Thin object offset) o same well is here = absurd (well refl)
      by kind (Handle region) o same well is here = absurd (well refl)
      by kind (Key region) o same well is here = absurd (well refl)

-- ---- converting thin pointers to fat pointers

-- The second and third words of a converted pointer: they describe one cell, or no cell if the first word is 0.
abbrev many_of : ℕ → ℕ
many_of word = truth (not (word == 0))

abbrev widened : Words → ℕ → Words
widened slots n = put (put slots (n + 1) (many_of (slots n))) (n + 2) 0

widened_elsewhere : (slots : Words) (n m : ℕ) → Outside (n + 1) 2 m → widened slots n m ≡ slots m
widened_elsewhere slots n m (inl below) =
    put-other (put slots (n + 1) (many_of (slots n))) (n + 2) m 0 (λ same. absurd (omega (arith, same, below))) ∙ put-other slots (n + 1) m (many_of (slots n)) (λ same. absurd (omega (arith, same, below)))
widened_elsewhere slots n m (inr above) =
    put-other (put slots (n + 1) (many_of (slots n))) (n + 2) m 0 (λ same. absurd (omega (arith, same, above))) ∙ put-other slots (n + 1) m (many_of (slots n)) (λ same. absurd (omega (arith, same, above)))

-- The three words that result from converting a thin pointer are those of a fat pointer to one cell. The
-- first of these words is the address of this cell.
widened_is : (t : Tables) (kind : Kind) (v u : Value) (slots : Words) (n : ℕ) → words_of_kind kind ≢ 3 → conversion kinds.Fat v ≡ Gives u → Is t kind v slots n → Is t kinds.Fat u (widened slots n) n
widened_is t kind v u slots n narrow gives is = by kind v is gives narrow
  where
    after : Words
    after = widened slots n

    first : after n ≡ slots n
    first = widened_elsewhere slots n n (inl (omega arith))

    turned : (none : Bool) → truth (not none) ≡ (if none then 0 else 1)
    turned true = refl
    turned false = refl

    second : after (n + 1) ≡ (if slots n == 0 then 0 else 1)
    second =
        put-other (put slots (n + 1) (many_of (slots n))) (n + 2) (n + 1) 0 (λ same. absurd (omega (arith, same))) ∙ (put-same slots (n + 1) (many_of (slots n)) ∙ turned (slots n == 0))

    third : after (n + 2) ≡ 0
    third = put-same (put slots (n + 1) (many_of (slots n))) (n + 2) 0

    by : (kind : Kind) (v : Value) → Is t kind v slots n → conversion kinds.Fat v ≡ Gives u → words_of_kind kind ≢ 3 → Is t kinds.Fat u after n
    by kinds.Nullable v is gives narrow = thin-to_fat t kinds.Nullable v u slots after n n refl is gives first second third
    by kinds.NonNull v is gives narrow = thin-to_fat t kinds.NonNull v u slots after n n refl is gives first second third
    by kinds.Fat v is gives narrow = absurd (narrow refl)
    by kinds.Int (Int a) is gives narrow = absurd (let f : Misfits ≡ Gives u = gives in cc)
    by kinds.Char (Int a) is gives narrow = absurd (let f : Misfits ≡ Gives u = gives in cc)
    by kinds.Char v is gives narrow = absurd is
    by kinds.Handle (Handle region) is gives narrow = absurd (let f : Misfits ≡ Gives u = gives in cc)
    by kinds.Key (Key region) is gives narrow = absurd (let f : Misfits ≡ Gives u = gives in cc)
    by kind v is gives narrow = absurd is

-- The result of a conversion to a fat pointer; this conversion raises no exception.
pub record IsWidened (v : Value) : Type 0 where
  pub value : Value
  pub gives : conversion kinds.Fat v ≡ Gives value

is_widened : (v : Value) (k : List Entry) (e : Environment) (w : World) → IsWell (computed kinds.Fat (conversion kinds.Fat v) k e w) → IsWidened v
is_widened Null k e w well = record { value = Null; gives = refl }
is_widened (Thin object offset) k e w well = record { value = Fat object offset 1 0; gives = refl }
is_widened (Fat object start count index) k e w well = record { value = Fat object start count index; gives = refl }
is_widened v k e w well = absurd (well refl)

module _ (source : Program) (pages calls : ℕ) where
  pub widens : (from : Kind) (target : Option Kind) (v : Kinded) (o : Operand) (q : ℕ) (k : List Entry) (e : Environment) (w : World) (c : Configuration)
      → step source (Running (Given v) (Needs (ConvertTo from kinds.Fat target) ∷ k) e w) ≡ computed kinds.Fat (conversion kinds.Fat v.value) k e w → IsWell (computed kinds.Fat (conversion kinds.Fat v.value) k e w)
      → words_of_kind v.kind ≢ 3
      → (shared : SharedAt source pages calls k e w c) → DataIn source shared.tables c.active.slots k e w c → IsIn shared.tables v c.active.slots o
      → Holds shared.tables c.active.slots (floor source c.active.function k) (held k)
      → WidenedAt (code_of source c.active.function) (bounds_at source c.active.function) (types_at source c.active.function) o (top source c.active.function k) c.active.next q
      → ValueStack source c.active.function e.locals kinds.Fat o q c.frames k
      → IsMatched source pages calls (Running (Given v) (Needs (ConvertTo from kinds.Fat target) ∷ k) e w) (plain.Running c)
  widens from target v (operands.Word x) q k e w c does well narrow shared facts is holds widened stack = absurd widened
  widens from target v (operands.Slot n) q k e w c does well narrow shared facts is holds (there, first, second, end) stack =
      let found = is_widened v.value k e w well in
      let u : Kinded = record { kind = kinds.Fat; value = found.value } in
      let g = c.active.function in
      let base = floor source g k in
      let slots = c.active.slots in
      let after = widened slots n in
      let d : Configuration = at (with_slots c (put slots (n + 1) (many_of (slots n)))) (c.active.next + 1) in
      let following : c.active.next + 1 + 1 ≡ q = omega (arith, end) in
      by_path source pages calls (Given v) (Needs (ConvertTo from kinds.Fat target) ∷ k) e w c (Running (Given u) k e w) (record { instruction = instructions.Binary plain_binary.NotEqual (n + 1) (operands.Slot n) (operands.Word 0); following = d } ∷ []) (instructions.Move (n + 2) (operands.Word 0))
      (does ∙ ap (λ (r : Result). computed kinds.Fat r k e w) found.gives) shared
      (first, (λ choice. refl), omega arith, is_quiet c d.active, tt)
      second
      (λ choice. (
        shared,
        in_operand (operands.Slot n)
            (data_written source shared.tables g c.active.base w.objects e.locals k slots after c.active.handlers c.globals c.frames (n + 1) 2 (omega (arith, there, height-least base (held k))) (λ m out. widened_elsewhere slots n m out) facts)
            (widened_is shared.tables v.kind v.value found.value slots n narrow found.gives is)
            (kept_holds _ _ _ k (Holds-same shared.tables slots after base (held k) (λ m below. widened_elsewhere slots n m (inl (omega (arith, below, there)))) holds))
            (subst (λ r. ValueStack source g e.locals kinds.Fat (operands.Slot n) r c.frames k) (sym following) stack),
      ))
