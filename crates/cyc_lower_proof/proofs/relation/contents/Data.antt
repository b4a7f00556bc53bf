-- This file is about the data in slots, variables and globals that are preserved while a step changes other data.
use Rattle.std.proofs.Common.{◌≡◌, ◌≢◌, ℕ, ◌+◌, ◌≤◌, ◌<◌, Bool, List, [], ◌∷◌, ◌++◌, length, reverse, Option, None, Some, refl, sym, ap, subst, ◌∙◌, arith, inl, inr, length-append}
use Rattle.std.specs.Prelude.{◌==◌, if◌then◌else◌}
use Rattle.std.proofs.lemmas.Bool.{cases_eq, eq-eqb, eqb-true, false_from_ne_true}
use Rattle.std.proofs.lemmas.List.{reverse-append}
use Rattle.std.proofs.lemmas.Option.{same_Some, none-some}
use Rattle.cyc_words.proofs.Lists.{slice_get_last, slice_get_before}
use Rattle.cyc_types.specs.TypedTrees.{Program}
use Rattle.cyc_plain.specs.inside.State.{Words, copied, Frame}
use Rattle.cyc_plain.specs.inside.Step.{operand_word}
use Rattle.cyc_plain.proofs.SlotLaws.{copied-inside}
use Rattle.cyc_types.specs.declared.typed.Kind.{Kind}
use Rattle.cyc_types.specs.declared.typed.Kind.TheVariants as kinds
use Rattle.cyc_meaning.specs.Values.{Value, Int, Null, Thin, Handle, Key, Operand, words_of_kind}
use Rattle.cyc_meaning.specs.State.{Object, Environment, with_local}
use Rattle.cyc_meaning.specs.FrameCount.{words_of_all}
use Rattle.cyc_lower_proof.specs.inside.Slots.{starts_of, slot_of, global_of, global_types, Types}
use Rattle.cyc_lower_proof.specs.inside.Lowering.{scopes_of}
use Rattle.cyc_lower_proof.proofs.slots.Widths.{words_in, HasRoom, HasGlobal, Outside, kind_positive}
use Rattle.cyc_lower_proof.proofs.slots.Slots.{slot-room, slot-apart, global-room, global-apart, global-inside}
use Rattle.cyc_plain.specs.declared.instruction.Operand.{Operand as Place}
use Rattle.cyc_plain.specs.declared.instruction.Operand.TheVariants as operands
use Rattle.cyc_memory_relation.specs.inside.Tables.{Tables}
use Rattle.cyc_memory_relation.specs.inside.Words.{Points, Is}
use Rattle.cyc_memory_relation.proofs.Values.{Is-same as words_same}
use Rattle.cyc_lower_proof.proofs.relation.contents.HeldValues.{CallSlots, IsLocalRow, IsWord, IsIn, Waiting, words_held, height, Holds, HoldsFrom, content_of, contents, LocalsHold, GlobalsHold, IsCharAt}
use Rattle.cyc_lower_proof.proofs.relation.simulation.Stacks.{call_slots, FramesHold, DataAt, types_at, starts_at, base_of}
use Rattle.cyc_memory_relation.proofs.Chars.{char-small}

-- ---- values in slots

pub height-is : (base : ℕ) (vs : List Operand) → height base vs ≡ base + words_held vs
height-is base [] = omega arith
height-is base (v ∷ vs) = omega (arith, height-is base vs)

pub height-least : (base : ℕ) (vs : List Operand) → base ≤ height base vs
height-least base vs = omega (arith, height-is base vs)

pub height-append : (base : ℕ) (vs rest : List Operand) → height base (vs ++ rest) ≡ height base rest + words_held vs
height-append base [] rest = omega arith
height-append base (v ∷ vs) rest = omega (arith, height-append base vs rest)

words_held-append : (vs us : List Operand) → words_held (vs ++ us) ≡ words_held vs + words_held us
words_held-append [] us = omega arith
words_held-append (v ∷ vs) us = omega (arith, words_held-append vs us)

pub words-reverse : (vs : List Operand) → words_held (reverse vs) ≡ words_held vs
words-reverse [] = refl
words-reverse (v ∷ vs) = omega (arith, ap words_held (reverse-append (v ∷ []) vs), words_held-append (reverse vs) (v ∷ []), words-reverse vs)

-- ---- objects

pub contents_made : (objects : List Object) (x : Object) (o : ℕ) → o < length objects → contents (objects ++ x ∷ []) o ≡ contents objects o
contents_made objects x o below = ap content_of (slice_get_before objects x o below)

pub contents_new : (objects : List Object) (x : Object) → contents (objects ++ x ∷ []) (length objects) ≡ content_of (Some x)
contents_new objects x = ap content_of (slice_get_last objects x)

-- Compares two lists of objects: holds if each object whose index is in a range contains equal values in both lists.
abbrev pub SameBetween : (low high : ℕ) (objects others : List Object) → Type 0
SameBetween low high objects others = (o : ℕ) → low ≤ o → o < high → contents others o ≡ contents objects o

-- ---- the locals of a call

-- The words of a local are outside the words of any other local.
other_outside : (types : Types) (n number many m : ℕ) → n < length types.locals → number < length types.locals → n ≢ number → many ≤ words_in types.locals number
    → slot_of (starts_of types) n ≤ m → m < slot_of (starts_of types) n + words_in types.locals n → Outside (slot_of (starts_of types) number) many m
other_outside types n number many m inside there other few from to = elim (slot-apart types n number inside there other) [
  | inl before ↦ inl (omega (arith, before, to))
  | inr following ↦ inr (omega (arith, following, from, few))
]

-- A lookup of the index that was added to a map last yields the value that was added with it.
pub newest_there : (given : ℕ → Option ℕ) (number new : ℕ) → (if number == number then Some new else given number) ≡ Some new
newest_there given number new = ap (λ (b : Bool). if b then Some new else given number) (eq-eqb number number refl)

other_local : (locals : ℕ → Option ℕ) (number other object : ℕ) → other ≢ number → (if other == number then Some object else locals other) ≡ locals other
other_local locals number other object apart =
    ap (λ (b : Bool). if b then Some object else locals other) (false_from_ne_true (other == number) (λ h. apart (eqb-true other number h)))

-- ---- facts about values

module _ (t : Tables) where
  pub IsWord-is : (kind : Kind) (v : Value) (word : ℕ) (words : Words) (p : ℕ) → words p ≡ word → IsWord t kind v word → Is t kind v words p
  IsWord-is kinds.Int (Int a) word words p same is = same ∙ is
  IsWord-is kinds.Char (Int a) word words p same is = (same ∙ is.0, is.1)
  IsWord-is kinds.Nullable Null word words p same is = same ∙ is
  IsWord-is kinds.Nullable (Thin object offset) word words p same is = subst (Points t object offset) (sym same) is
  IsWord-is kinds.NonNull (Thin object offset) word words p same is = subst (Points t object offset) (sym same) is
  IsWord-is kinds.Handle (Handle region) word words p same is = is ∙ ap (λ x. Some (Some x)) (sym same)
  IsWord-is kinds.Key (Key region) word words p same is = is ∙ ap (λ x. Some (Some x)) (sym same)
  IsWord-is kind v word words p same is = absurd is

  -- If an operand (a slot or a constant) holds a value, then some sequence of words represents this
  -- value and begins with the operand's word.
  pub in_words : (v : Operand) (slots : Words) (o : Place) → IsIn t v slots o → (words : Words) × (p : ℕ) × (words p ≡ operand_word slots o) × Is t v.kind v.value words p
  in_words v slots (operands.Slot n) is = (slots, n, refl, is)
  in_words v slots (operands.Word w) is = ((λ (i : ℕ). w), 0, refl, IsWord-is v.kind v.value w (λ (i : ℕ). w) 0 refl is)

  -- A null pointer is represented by the word 0.
  pub null_at : (kind : Kind) (words : Words) (p : ℕ) → Is t kind Null words p → words p ≡ 0
  null_at kinds.Nullable words p is = is
  null_at kinds.Fat words p is = is.0
  null_at kind words p is = absurd is

  pub null_is : (kind : Kind) (slots : Words) (o : Place) → IsIn t (record { kind = kind; value = Null }) slots o → operand_word slots o ≡ 0
  null_is kind slots o is =
      let (words, p, same, is_it) = in_words (record { kind = kind; value = Null }) slots o is in
      sym same ∙ null_at kind words p is_it

  -- the word of a thin pointer is the address of a cell
  pub points_at : (kind : Kind) (object offset : ℕ) (words : Words) (p : ℕ) → Is t kind (Thin object offset) words p → Points t object offset (words p)
  points_at kinds.Nullable object offset words p is = is
  points_at kinds.NonNull object offset words p is = is
  points_at kind object offset words p is = absurd is

  pub points_in : (kind : Kind) (object offset : ℕ) (slots : Words) (o : Place) → IsIn t (record { kind = kind; value = Thin object offset }) slots o → Points t object offset (operand_word slots o)
  points_in kind object offset slots o is =
      let (words, p, same, is_it) = in_words (record { kind = kind; value = Thin object offset }) slots o is in
      subst (Points t object offset) same (points_at kind object offset words p is_it)

  -- A value of one word is represented by that word.
  pub one_word : (kind : Kind) (v : Value) (words : Words) (p : ℕ) → words_of_kind kind ≡ 1 → Is t kind v words p → IsWord t kind v (words p)
  one_word kinds.Int (Int a) words p one is = is
  one_word kinds.Char (Int a) words p one is = is
  one_word kinds.Nullable Null words p one is = is
  one_word kinds.Nullable (Thin object offset) words p one is = is
  one_word kinds.NonNull (Thin object offset) words p one is = is
  one_word kinds.Fat v words p one is = absurd (omega (arith, one))
  one_word kinds.Handle (Handle region) words p one is = is
  one_word kinds.Key (Key region) words p one is = is
  one_word kind v words p one is = absurd is

  -- Words that are equal to the words of a value represent this value.
  pub Is-same : (kind : Kind) (v : Value) (words other : Words) (p q : ℕ) → ((i : ℕ) → i < words_of_kind kind → other (q + i) ≡ words (p + i)) → Is t kind v words p → Is t kind v other q
  Is-same kind v words other p q same is = words_same t kind v words other p q same is

  -- Two maps from slots to words are equal in all slots below a bound. If these slots contain the words of
  -- a list of values in one map, then they do so in the other map as well.
  pub Holds-same : (slots other : Words) (base : ℕ) (vs : List Operand) → ((n : ℕ) → n < height base vs → other n ≡ slots n) → Holds t slots base vs → Holds t other base vs
  Holds-same slots other base [] same holds = tt
  Holds-same slots other base (v ∷ vs) same (is, holds) = (
    Is-same v.kind v.value slots other (height base vs) (height base vs) (λ i below. same (height base vs + i) (omega (arith, below))) is,
    Holds-same slots other base vs (λ n below. same n (omega (arith, below))) holds,
  )

  -- If two maps from slots to words are equal in all slots from the end of the locals on, then these slots hold equal values in both maps.
  pub Holds-above : (slots other : Words) (base : ℕ) (vs : List Operand) → ((n : ℕ) → base ≤ n → other n ≡ slots n) → Holds t slots base vs → Holds t other base vs
  Holds-above slots other base [] same holds = tt
  Holds-above slots other base (v ∷ vs) same (is, holds) = (
    Is-same v.kind v.value slots other (height base vs) (height base vs) (λ i below. same (height base vs + i) (omega (arith, height-least base vs))) is,
    Holds-above slots other base vs same holds,
  )

  pub Holds-rest : (slots : Words) (base : ℕ) (vs rest : List Operand) → Holds t slots base (vs ++ rest) → Holds t slots base rest
  Holds-rest slots base [] rest holds = holds
  Holds-rest slots base (v ∷ vs) rest (is, holds) = Holds-rest slots base vs rest holds

  HoldsFrom-snoc : (slots : Words) (first : ℕ) (vs : List Operand) (v : Operand) → HoldsFrom t slots first vs → Is t v.kind v.value slots (first + words_held vs) → HoldsFrom t slots first (vs ++ v ∷ [])
  HoldsFrom-snoc slots first [] v holds is = (subst (Is t v.kind v.value slots) (let e : first + 0 ≡ first = omega arith in e) is, tt)
  HoldsFrom-snoc slots first (u ∷ vs) v (is_u, holds) is = (
    is_u,
    HoldsFrom-snoc slots (first + words_of_kind u.kind) vs v holds
        (subst (Is t v.kind v.value slots) (let e : first + (words_held vs + words_of_kind u.kind) ≡ first + words_of_kind u.kind + words_held vs = omega arith in e) is),
  )

  -- Values that were pushed one by one on a list are in consecutive slots, in the order in which they were pushed.
  pub in_order : (slots : Words) (base : ℕ) (vs rest : List Operand) → Holds t slots base (vs ++ rest) → HoldsFrom t slots (height base rest) (reverse vs)
  in_order slots base [] rest holds = tt
  in_order slots base (v ∷ vs) rest (is, holds) =
      let place : height base (vs ++ rest) ≡ height base rest + words_held (reverse vs) = omega (arith, height-append base vs rest, words-reverse vs) in
      subst (HoldsFrom t slots (height base rest)) (sym (reverse-append (v ∷ []) vs))
      (HoldsFrom-snoc slots (height base rest) (reverse vs) v (in_order slots base vs rest holds) (subst (Is t v.kind v.value slots) place is))

  -- A call copies its arguments into the first slots of the callee.
  pub arguments_copied : (from to : Words) (source i many : ℕ) (vs : List Operand) → i + words_held vs ≤ many → HoldsFrom t from (source + i) vs → HoldsFrom t (copied from source many to 0) i vs
  arguments_copied from to source i many [] few holds = tt
  arguments_copied from to source i many (v ∷ vs) few (is, holds) = (
    Is-same v.kind v.value from (copied from source many to 0) (source + i) i
        (λ j below.
        let start : i + j ≡ 0 + (i + j) = omega arith in
        let there : source + (i + j) ≡ source + i + j = omega arith in
        ap (copied from source many to 0) start ∙ copied-inside from to source many 0 (i + j) (omega (arith, few, below)) ∙ ap from there)
        is,
    arguments_copied from to source (i + words_of_kind v.kind) many vs (omega (arith, few))
        (subst (λ n. HoldsFrom t from n vs) (let e : source + i + words_of_kind v.kind ≡ source + (i + words_of_kind v.kind) = omega arith in e) holds),
  )

  pub locals_kept : (types : Types) (s : CallSlots) (objects others : List Object) (locals : ℕ → Option ℕ) (low high : ℕ) (slots : Words)
      → SameBetween low high objects others → LocalsHold t types s objects locals low high slots → LocalsHold t types s others locals low high slots
  locals_kept types s objects others locals low high slots same hold = record {
    within = hold.within;
    apart = hold.apart;
    rows = hold.rows;
    holds = λ number object v at has.
        let inside = hold.within number object at in
        hold.holds number object v at (sym (same object inside.1 inside.2) ∙ has);
    small = hold.small;
  }

  -- If two maps from slots to words are equal in the slot of a char local, and the char is below 256 in one
  -- map, then it is below 256 in the other map as well.
  small_same : (types : Types) (slots other : Words) (number : ℕ) (kind : Kind) → HasRoom types number kind
      → ((m : ℕ) → slot_of (starts_of types) number ≤ m → m < slot_of (starts_of types) number + words_in types.locals number → other m ≡ slots m)
      → slots (slot_of (starts_of types) number) < 256 → other (slot_of (starts_of types) number) < 256
  small_same types slots other number kind room same low =
      let slot = slot_of (starts_of types) number in
      subst (λ (w : ℕ). w < 256) (sym (same slot (omega arith) (omega (arith, room, kind_positive kind)))) low

  -- If two maps from slots to words are equal in the slots of a local, and these slots represent the local's
  -- value in one map, then they do so in the other map as well.
  local_same : (types : Types) (slots other : Words) (number : ℕ) (v : Operand) → number < length types.locals → HasRoom types number v.kind
      → ((m : ℕ) → slot_of (starts_of types) number ≤ m → m < slot_of (starts_of types) number + words_in types.locals number → other m ≡ slots m)
      → Is t v.kind v.value slots (slot_of (starts_of types) number) → Is t v.kind v.value other (slot_of (starts_of types) number)
  local_same types slots other number v inside room same is =
      let slot = slot_of (starts_of types) number in
      Is-same v.kind v.value slots other slot slot (λ i below. same (slot + i) (omega arith) (omega (arith, below, room))) is

  pub locals_same_slots : (types : Types) (s : CallSlots) (objects : List Object) (locals : ℕ → Option ℕ) (low high : ℕ) (slots other : Words)
      → ((n : ℕ) → n < words_of_all types.locals → other n ≡ slots n) → LocalsHold t types s objects locals low high slots → LocalsHold t types s objects locals low high other
  locals_same_slots types s objects locals low high slots other same hold = record {
    within = hold.within;
    apart = hold.apart;
    rows = hold.rows;
    holds = λ number object v at has.
        let inside = (hold.within number object at).0 in
        let (is, room) = hold.holds number object v at has in
        (local_same types slots other number v inside room (λ m from to. same m (omega (arith, to, slot-room types number inside))) is, room);
    small = λ number object at char.
        let inside = (hold.within number object at).0 in
        let r = hold.rows number object at in
        small_same types slots other number r.kind r.room (λ m from to. same m (omega (arith, to, slot-room types number inside))) (hold.small number object at char);
  }

  -- Assigning a local changes only the words of its value.
  pub locals_assigned : (types : Types) (s : CallSlots) (objects others : List Object) (locals : ℕ → Option ℕ) (low high : ℕ) (slots after : Words) (number object : ℕ) (v : Operand)
      → locals number ≡ Some object → contents others object ≡ Some v → ((o : ℕ) → o ≢ object → contents others o ≡ contents objects o)
      → HasRoom types number v.kind → Is t v.kind v.value after (slot_of (starts_of types) number) → (IsCharAt t object → v.kind ≡ kinds.Char)
      → ((m : ℕ) → Outside (slot_of (starts_of types) number) (words_of_kind v.kind) m → after m ≡ slots m)
      → LocalsHold t types s objects locals low high slots → LocalsHold t types s others locals low high after
  locals_assigned types s objects others locals low high slots after number object v here now same room is char elsewhere hold = record {
    within = hold.within;
    apart = hold.apart;
    rows = hold.rows;
    holds = λ n o u at has. elim (cases_eq n number) [
      | inl equal ↦
          let o_is : o ≡ object = same_Some o object (sym at ∙ ap locals equal ∙ here) in
          let u_is : v ≡ u = same_Some v u (sym now ∙ sym (ap (contents others) o_is) ∙ has) in
          subst (λ m. Is t u.kind u.value after (slot_of (starts_of types) m) × HasRoom types m u.kind) (sym equal)
          (subst (λ (x : Operand). Is t x.kind x.value after (slot_of (starts_of types) number) × HasRoom types number x.kind) u_is (is, room))
      | inr other ↦
          let inside = (hold.within n o at).0 in
          let (is_u, room_u) = hold.holds n o u at (sym (same o (λ e. other (hold.apart n number object (at ∙ ap Some e) here))) ∙ has) in (
            local_same types slots after n u inside room_u
                (λ m from to. elsewhere m (other_outside types n number (words_of_kind v.kind) m inside (hold.within number object here).0 other room from to)) is_u,
            room_u,
          )
    ];
    small = λ n o at is_char. elim (cases_eq n number) [
      | inl equal ↦
          let o_is : o ≡ object = same_Some o object (sym at ∙ ap locals equal ∙ here) in
          let slot = slot_of (starts_of types) number in
          subst (λ m. after (slot_of (starts_of types) m) < 256) (sym equal)
          (char-small t v.value after slot (subst (λ (k : Kind). Is t k v.value after slot) (char (subst (IsCharAt t) o_is is_char)) is))
      | inr other ↦
          let inside = (hold.within n o at).0 in
          let r = hold.rows n o at in
          small_same types slots after n r.kind r.room
          (λ m from to. elsewhere m (other_outside types n number (words_of_kind v.kind) m inside (hold.within number object here).0 other room from to)) (hold.small n o at is_char)
    ];
  }

  -- A local is declared with the newest object, and the words of its value are written.
  pub locals_declared : (types : Types) (s : CallSlots) (objects : List Object) (e : Environment) (low : ℕ) (slots other : Words) (number many : ℕ) (x : Object)
      → number < length types.locals → many ≤ words_in types.locals number → low ≤ length objects → IsLocalRow t types s number (length objects)
      → ((m : ℕ) → Outside (slot_of (starts_of types) number) many m → other m ≡ slots m)
      → ((v : Operand) → content_of (Some x) ≡ Some v → Is t v.kind v.value other (slot_of (starts_of types) number) × HasRoom types number v.kind)
      → (IsCharAt t (length objects) → other (slot_of (starts_of types) number) < 256)
      → LocalsHold t types s objects e.locals low (length objects) slots
      → LocalsHold t types s (objects ++ x ∷ []) (with_local e number (length objects)).locals low (length (objects ++ x ∷ [])) other
  locals_declared types s objects e low slots other number many x below few low_is row same is low_word hold =
      let locals = e.locals in
      let long : length (objects ++ x ∷ []) ≡ length objects + 1 = length-append objects (x ∷ []) in
      record {
        within = λ n o at. elim (cases_eq n number) [
          | inl equal ↦
              let o_is : length objects ≡ o = same_Some (length objects) o (sym (newest_there locals number (length objects)) ∙ ap (with_local e number (length objects)).locals (sym equal) ∙ at) in
              (omega (arith, equal, below), omega (arith, o_is, low_is), omega (arith, o_is, long))
          | inr apart ↦
              let old = hold.within n o (sym (other_local locals number n (length objects) apart) ∙ at) in
              (old.0, old.1, omega (arith, old.2, long))
        ];
        apart = λ n m o at_n at_m. elim (cases_eq n number) [
          | inl n_is ↦ elim (cases_eq m number) [
            | inl m_is ↦ n_is ∙ sym m_is
            | inr m_not ↦
                let o_is : length objects ≡ o = same_Some (length objects) o (sym (newest_there locals number (length objects)) ∙ ap (with_local e number (length objects)).locals (sym n_is) ∙ at_n) in
                let old = hold.within m o (sym (other_local locals number m (length objects) m_not) ∙ at_m) in
                absurd (omega (arith, o_is, old.2))
          ]
          | inr n_not ↦ elim (cases_eq m number) [
            | inl m_is ↦
                let o_is : length objects ≡ o = same_Some (length objects) o (sym (newest_there locals number (length objects)) ∙ ap (with_local e number (length objects)).locals (sym m_is) ∙ at_m) in
                let old = hold.within n o (sym (other_local locals number n (length objects) n_not) ∙ at_n) in
                absurd (omega (arith, o_is, old.2))
            | inr m_not ↦ hold.apart n m o (sym (other_local locals number n (length objects) n_not) ∙ at_n) (sym (other_local locals number m (length objects) m_not) ∙ at_m)
          ]
        ];
        rows = λ n o at. elim (cases_eq n number) [
          | inl equal ↦
              let o_is : length objects ≡ o = same_Some (length objects) o (sym (newest_there locals number (length objects)) ∙ ap (with_local e number (length objects)).locals (sym equal) ∙ at) in
              subst (λ m. IsLocalRow t types s m o) (sym equal) (subst (IsLocalRow t types s number) o_is row)
          | inr apart ↦ hold.rows n o (sym (other_local locals number n (length objects) apart) ∙ at)
        ];
        holds = λ n o v at has. elim (cases_eq n number) [
          | inl equal ↦
              let o_is : length objects ≡ o = same_Some (length objects) o (sym (newest_there locals number (length objects)) ∙ ap (with_local e number (length objects)).locals (sym equal) ∙ at) in
              subst (λ m. Is t v.kind v.value other (slot_of (starts_of types) m) × HasRoom types m v.kind) (sym equal) (is v (sym (contents_new objects x) ∙ ap (contents (objects ++ x ∷ [])) o_is ∙ has))
          | inr apart ↦
              let at_old = sym (other_local locals number n (length objects) apart) ∙ at in
              let old = hold.within n o at_old in
              let (is_v, room) = hold.holds n o v at_old (sym (contents_made objects x o old.2) ∙ has) in
              (local_same types slots other n v old.0 room (λ m from to. same m (other_outside types n number many m old.0 below apart few from to)) is_v, room)
        ];
        small = λ n o at is_char. elim (cases_eq n number) [
          | inl equal ↦
              let o_is : length objects ≡ o = same_Some (length objects) o (sym (newest_there locals number (length objects)) ∙ ap (with_local e number (length objects)).locals (sym equal) ∙ at) in
              subst (λ m. other (slot_of (starts_of types) m) < 256) (sym equal) (low_word (subst (IsCharAt t) (sym o_is) is_char))
          | inr apart ↦
              let at_old = sym (other_local locals number n (length objects) apart) ∙ at in
              let old = hold.within n o at_old in
              let r = hold.rows n o at_old in
              small_same types slots other n r.kind r.room (λ m from to. same m (other_outside types n number many m old.0 below apart few from to)) (hold.small n o at_old is_char)
        ];
      }

  -- Before the first declaration of a call, the call has no locals.
  pub no_locals_hold : (types : Types) (s : CallSlots) (objects : List Object) (low high : ℕ) (slots : Words) → LocalsHold t types s objects (λ (number : ℕ). None) low high slots
  no_locals_hold types s objects low high slots = record {
    within = λ number object at. absurd (none-some object at);
    apart = λ number other object at at_other. absurd (none-some object at);
    rows = λ number object at. absurd (none-some object at);
    holds = λ number object v at has. absurd (none-some object at);
    small = λ number object at is_char. absurd (none-some object at);
  }

  pub locals_raised : (types : Types) (s : CallSlots) (objects : List Object) (locals : ℕ → Option ℕ) (low high higher : ℕ) (slots : Words) → high ≤ higher
      → LocalsHold t types s objects locals low high slots → LocalsHold t types s objects locals low higher slots
  locals_raised types s objects locals low high higher slots raised hold = record {
    within = λ number object at. let inside = hold.within number object at in (inside.0, inside.1, omega (arith, inside.2, raised));
    apart = hold.apart;
    rows = hold.rows;
    holds = hold.holds;
    small = hold.small;
  }

  module _ (source : Program) where
    abbrev global_count : ℕ
    global_count = length (global_types source.globals)

    pub globals_below : (objects : List Object) (high : ℕ) (frames : List Frame) (outer : List Waiting) → FramesHold source t objects high frames outer → global_count ≤ high
    globals_below objects high [] [] hold = hold
    globals_below objects high [] (e ∷ outer) hold = absurd hold
    globals_below objects high (f ∷ frames) [] hold = absurd hold
    globals_below objects high (f ∷ frames) (e ∷ outer) (low, below, (hold, values), rest) = omega (arith, globals_below objects low frames outer rest, below)

    pub frames_kept : (objects others : List Object) (high : ℕ) (frames : List Frame) (outer : List Waiting) → SameBetween global_count high objects others → FramesHold source t objects high frames outer → FramesHold source t others high frames outer
    frames_kept objects others high [] [] same hold = hold
    frames_kept objects others high [] (e ∷ outer) same hold = absurd hold
    frames_kept objects others high (f ∷ frames) [] same hold = absurd hold
    frames_kept objects others high (f ∷ frames) (e ∷ outer) same (low, below, (hold, values), rest) =
        let above = globals_below objects low frames outer rest in (
          low,
          below,
          (locals_kept (types_at source f.caller.function) (call_slots source f.caller.function f.caller.base) objects others e.locals low high f.caller.slots (λ o from to. same o (omega (arith, above, from)) to) hold, values),
          frames_kept objects others low frames outer (λ o from to. same o from (omega (arith, to, below))) rest,
        )

    pub globals_kept : (g : ℕ) (objects others : List Object) (words : Words) → SameBetween 0 global_count objects others → GlobalsHold t (types_at source g) objects words → GlobalsHold t (types_at source g) others words
    globals_kept g objects others words same hold number below =
        let (row, is, low) = hold number below in
        (row, (λ v has. is v (sym (same number (omega arith) below) ∙ has)), low)

    -- ---- the data of all calls

    pub data_same : (g base : ℕ) (objects : List Object) (locals : ℕ → Option ℕ) (outer : List Waiting) (slots other globals : Words) (frames : List Frame)
        → ((n : ℕ) → n < base_of source g → other n ≡ slots n) → DataAt source t g base objects locals outer slots globals frames → DataAt source t g base objects locals outer other globals frames
    data_same g base objects locals outer slots other globals frames same (low, below, hold, waiting, words) =
        (low, below, locals_same_slots (types_at source g) (call_slots source g base) objects locals low (length objects) slots other same hold, waiting, words)

    -- Writing words after the slots of the locals preserves the facts about the data of the call.
    pub data_above : (g base : ℕ) (objects : List Object) (locals : ℕ → Option ℕ) (outer : List Waiting) (slots after globals : Words) (frames : List Frame) (n many : ℕ)
        → base_of source g ≤ n → ((m : ℕ) → Outside n many m → after m ≡ slots m) → DataAt source t g base objects locals outer slots globals frames → DataAt source t g base objects locals outer after globals frames
    data_above g base objects locals outer slots after globals frames n many above same facts =
        data_same g base objects locals outer slots after globals frames (λ m below. same m (inl (omega (arith, below, above)))) facts

    pub data_assigned : (g base : ℕ) (objects others : List Object) (locals : ℕ → Option ℕ) (outer : List Waiting) (slots after globals : Words) (frames : List Frame) (number object : ℕ) (v : Operand)
        → locals number ≡ Some object → contents others object ≡ Some v → ((o : ℕ) → o ≢ object → contents others o ≡ contents objects o) → length others ≡ length objects
        → HasRoom (types_at source g) number v.kind → Is t v.kind v.value after (slot_of (starts_at source g) number) → (IsCharAt t object → v.kind ≡ kinds.Char)
        → ((m : ℕ) → Outside (slot_of (starts_at source g) number) (words_of_kind v.kind) m → after m ≡ slots m)
        → DataAt source t g base objects locals outer slots globals frames → DataAt source t g base others locals outer after globals frames
    data_assigned g base objects others locals outer slots after globals frames number object v here now same long room is char elsewhere (low, below, hold, waiting, words) =
        let inside = hold.within number object here in
        let above = globals_below objects low frames outer waiting in
        let not : (o : ℕ) → o < low → o ≢ object = λ o less e. absurd (omega (arith, e, less, inside.1)) in (
          low,
          omega (arith, below, long),
          subst (λ high. LocalsHold t (types_at source g) (call_slots source g base) others locals low high after) (sym long)
              (locals_assigned (types_at source g) (call_slots source g base) objects others locals low (length objects) slots after number object v here now same room is char elsewhere hold),
          frames_kept objects others low frames outer (λ o from to. same o (not o to)) waiting,
          globals_kept g objects others globals (λ o from to. same o (not o (omega (arith, to, above)))) words,
        )

    -- Writing the words of a global leaves the value of every other global unchanged.
    global_same : (g number other : ℕ) (v u : Operand) (globals after : Words) → HasGlobal (types_at source g) number v.kind → HasGlobal (types_at source g) other u.kind → other ≢ number
        → ((m : ℕ) → Outside (global_of (starts_at source g) number) (words_of_kind v.kind) m → after m ≡ globals m) → Is t u.kind u.value globals (global_of (starts_at source g) other)
        → Is t u.kind u.value after (global_of (starts_at source g) other)
    global_same g number other v u globals after room room_u apart elsewhere is =
        let types = types_at source g in
        words_same t u.kind u.value globals after (global_of (starts_at source g) other) (global_of (starts_at source g) other) (λ i below.
        elsewhere (global_of (starts_at source g) other + i) (
        elim (global-apart types other number (global-inside types other u.kind room_u) (global-inside types number v.kind room) apart) [
          | inl before ↦ inl (omega (arith, below, before, room_u))
          | inr following ↦ inr (omega (arith, below, following, room))
        ])) is

    -- Writing the words of a global leaves the first word of every other global unchanged.
    global_first_same : (g number other : ℕ) (v : Operand) (kind : Kind) (globals after : Words) → HasGlobal (types_at source g) number v.kind → HasGlobal (types_at source g) other kind → other ≢ number
        → ((m : ℕ) → Outside (global_of (starts_at source g) number) (words_of_kind v.kind) m → after m ≡ globals m)
        → after (global_of (starts_at source g) other) ≡ globals (global_of (starts_at source g) other)
    global_first_same g number other v kind globals after room room_other apart elsewhere =
        let types = types_at source g in
        elsewhere (global_of (starts_at source g) other) (
        elim (global-apart types other number (global-inside types other kind room_other) (global-inside types number v.kind room) apart) [
          | inl before ↦ inl (omega (arith, before, room_other, kind_positive kind))
          | inr following ↦ inr (omega (arith, following, room))
        ])

    pub data_assigned_global : (g base : ℕ) (objects others : List Object) (locals : ℕ → Option ℕ) (outer : List Waiting) (slots globals after : Words) (frames : List Frame) (number : ℕ) (v : Operand)
        → HasGlobal (types_at source g) number v.kind → contents others number ≡ Some v → ((o : ℕ) → o ≢ number → contents others o ≡ contents objects o) → length others ≡ length objects
        → Is t v.kind v.value after (global_of (starts_at source g) number) → (IsCharAt t number → v.kind ≡ kinds.Char)
        → ((m : ℕ) → Outside (global_of (starts_at source g) number) (words_of_kind v.kind) m → after m ≡ globals m)
        → DataAt source t g base objects locals outer slots globals frames → DataAt source t g base others locals outer slots after frames
    data_assigned_global g base objects others locals outer slots globals after frames number v room now same long is char elsewhere (low, below, hold, waiting, words) =
        let above = globals_below objects low frames outer waiting in
        let few = global-inside (types_at source g) number v.kind room in
        let not : (o : ℕ) → global_count ≤ o → o ≢ number = λ o from e. absurd (omega (arith, e, from, few)) in (
          low,
          omega (arith, below, long),
          subst (λ high. LocalsHold t (types_at source g) (call_slots source g base) others locals low high slots) (sym long)
              (locals_kept (types_at source g) (call_slots source g base) objects others locals low (length objects) slots (λ o from to. same o (not o (omega (arith, above, from)))) hold),
          frames_kept objects others low frames outer (λ o from to. same o (not o from)) waiting,
          λ n less.
              let (row, held, small) = words n less in (
                row,
                (λ u has. elim (cases_eq n number) [
                  | inl equal ↦
                      let u_is : v ≡ u = same_Some v u (sym now ∙ sym (ap (contents others) equal) ∙ has) in
                      subst (λ (x : Operand). Is t x.kind x.value after (global_of (starts_at source g) n) × HasGlobal (types_at source g) n x.kind) u_is
                      (subst (λ m. Is t v.kind v.value after (global_of (starts_at source g) m) × HasGlobal (types_at source g) m v.kind) (sym equal) (is, room))
                  | inr other ↦
                      let (is_u, room_u) = held u (sym (same n other) ∙ has) in
                      (global_same g number n v u globals after room room_u other elsewhere is_u, room_u)
                ]),
                λ is_char. elim (cases_eq n number) [
                  | inl equal ↦
                      let first = global_of (starts_at source g) number in
                      subst (λ m. after (global_of (starts_at source g) m) < 256) (sym equal)
                      (char-small t v.value after first (subst (λ (k : Kind). Is t k v.value after first) (char (subst (IsCharAt t) equal is_char)) is))
                  | inr other ↦ subst (λ (w : ℕ). w < 256) (sym (global_first_same g number n v row.kind globals after room row.room other elsewhere)) (small is_char)
                ],
              ),
        )

    -- Writing words after all globals preserves the facts about the data of all calls.
    pub data_after : (g base : ℕ) (objects : List Object) (locals : ℕ → Option ℕ) (outer : List Waiting) (slots globals after : Words) (frames : List Frame)
        → ((m : ℕ) → m < words_of_all (global_types source.globals) → after m ≡ globals m)
        → DataAt source t g base objects locals outer slots globals frames → DataAt source t g base objects locals outer slots after frames
    data_after g base objects locals outer slots globals after frames same (low, below, hold, waiting, words) = (
      low,
      below,
      hold,
      waiting,
      λ n less.
          let (row, held, small) = words n less in
          let first = global_of (starts_at source g) n in
          let inside = global-room (types_at source g) n less in (
            row,
            (λ v has.
                let (is, room) = held v has in
                (words_same t v.kind v.value globals after first first (λ i few. same (first + i) (omega (arith, few, room, inside))) is, room)),
            λ is_char. subst (λ (w : ℕ). w < 256) (sym (same first (omega (arith, row.room, kind_positive row.kind, inside)))) (small is_char),
          ),
    )

    pub data_declared : (g base : ℕ) (objects : List Object) (e : Environment) (outer : List Waiting) (slots other globals : Words) (frames : List Frame) (number many : ℕ) (x : Object)
        → number < length (types_at source g).locals → many ≤ words_in (types_at source g).locals number → IsLocalRow t (types_at source g) (call_slots source g base) number (length objects)
        → ((m : ℕ) → Outside (slot_of (starts_at source g) number) many m → other m ≡ slots m)
        → ((v : Operand) → content_of (Some x) ≡ Some v → Is t v.kind v.value other (slot_of (starts_at source g) number) × HasRoom (types_at source g) number v.kind)
        → (IsCharAt t (length objects) → other (slot_of (starts_at source g) number) < 256)
        → DataAt source t g base objects e.locals outer slots globals frames → DataAt source t g base (objects ++ x ∷ []) (with_local e number (length objects)).locals outer other globals frames
    data_declared g base objects e outer slots other globals frames number many x inside few row same is low_word (low, below, hold, waiting, words) =
        let above = globals_below objects low frames outer waiting in (
          low,
          omega (arith, below, length-append objects (x ∷ [])),
          locals_declared (types_at source g) (call_slots source g base) objects e low slots other number many x inside few below row same is low_word hold,
          frames_kept objects (objects ++ x ∷ []) low frames outer (λ o from to. contents_made objects x o (omega (arith, to, below))) waiting,
          globals_kept g objects (objects ++ x ∷ []) globals (λ o from to. contents_made objects x o (omega (arith, to, above, below))) words,
        )

    -- When a call begins, the callee has no locals yet, and its caller waits.
    pub data_called : (g base callee callee_base : ℕ) (objects : List Object) (e : Environment) (temporaries : Option ℕ → ℕ → ℕ) (values : List Operand) (outer : List Waiting) (slots other globals : Words) (f : Frame) (frames : List Frame)
        → f.caller.function ≡ g → f.caller.base ≡ base → f.caller.slots ≡ slots → Holds t slots (temporaries (scopes_of source) (base_of source g)) values → DataAt source t g base objects e.locals outer slots globals frames
        → DataAt source t callee callee_base objects (λ (number : ℕ). None) (record { locals = e.locals; temporaries = temporaries; values = values } ∷ outer) other globals (f ∷ frames)
    data_called g base callee callee_base objects e temporaries values outer slots other globals f frames function_is base_is slots_are holds (low, below, hold, waiting, words) = (
      length objects,
      omega arith,
      no_locals_hold (types_at source callee) (call_slots source callee callee_base) objects (length objects) (length objects) other,
      (
        low,
        below,
        (
          subst (λ n. LocalsHold t (types_at source n) (call_slots source n f.caller.base) objects e.locals low (length objects) f.caller.slots) (sym function_is)
              (subst (λ n. LocalsHold t (types_at source g) (call_slots source g n) objects e.locals low (length objects) f.caller.slots) (sym base_is)
              (subst (λ (s : Words). LocalsHold t (types_at source g) (call_slots source g base) objects e.locals low (length objects) s) (sym slots_are) hold)),
          subst (λ n. Holds t f.caller.slots (temporaries (scopes_of source) (base_of source n)) values) (sym function_is) (subst (λ (s : Words). Holds t s (temporaries (scopes_of source) (base_of source g)) values) (sym slots_are) holds),
        ),
        waiting,
      ),
      words,
    )

    -- After a call returns, the data of the caller are preserved, and a temporary has been written.
    pub data_returned : (g base : ℕ) (objects : List Object) (locals : ℕ → Option ℕ) (e : Waiting) (outer : List Waiting) (slots other globals : Words) (f : Frame) (frames : List Frame)
        → ((n : ℕ) → n < base_of source f.caller.function → other n ≡ f.caller.slots n)
        → DataAt source t g base objects locals (e ∷ outer) slots globals (f ∷ frames) → DataAt source t f.caller.function f.caller.base objects e.locals outer other globals frames
    data_returned g base objects locals e outer slots other globals f frames same (low, below, hold, (under, less, (waits, values), waiting), words) = (
      under,
      omega (arith, below, less),
      locals_same_slots (types_at source f.caller.function) (call_slots source f.caller.function f.caller.base) objects e.locals under (length objects) f.caller.slots other same
          (locals_raised (types_at source f.caller.function) (call_slots source f.caller.function f.caller.base) objects e.locals under low (length objects) f.caller.slots below waits),
      waiting,
      words,
    )

    -- When a call returns, the caller still holds in slots the intermediate values that it had computed before the call.
    pub held_by_caller : (g base : ℕ) (objects : List Object) (locals : ℕ → Option ℕ) (e : Waiting) (outer : List Waiting) (slots globals : Words) (f : Frame) (frames : List Frame)
        → DataAt source t g base objects locals (e ∷ outer) slots globals (f ∷ frames) → Holds t f.caller.slots (e.temporaries (scopes_of source) (base_of source f.caller.function)) e.values
    held_by_caller g base objects locals e outer slots globals f frames (low, below, hold, (under, less, (waits, values), waiting), words) = values
