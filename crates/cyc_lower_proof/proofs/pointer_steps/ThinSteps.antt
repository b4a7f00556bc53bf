-- This file converts fat pointers to thin ones: null stays null or raises an exception, and any other pointer becomes the address of
-- the cell at its index.
use Rattle.std.proofs.Common.{◌≡◌, ℕ, ◌+◌, ◌<◌, Bool, true, List, ◌∷◌, Option, None, Some, refl, sym, ap, subst, ◌∙◌, arith, inl, inr}
use Rattle.std.specs.Prelude.{nat_lt, if◌then◌else◌, option_map}
use Rattle.std.proofs.lemmas.Bool.{eqb-true, cases_Bool, ltb-true}
use Rattle.cyc_words.specs.Word.{add_of}
use Rattle.cyc_types.specs.declared.typed.Kind.{Kind}
use Rattle.cyc_types.specs.declared.typed.Kind.TheVariants as kinds
use Rattle.cyc_types.specs.TypedTrees.{Program}
use Rattle.cyc_plain.specs.declared.instruction.Operand.{Operand}
use Rattle.cyc_plain.specs.declared.instruction.Operand.TheVariants as operands
use Rattle.cyc_plain.specs.inside.State as plain
use Rattle.cyc_plain.specs.inside.State.{Words, put, Configuration}
use Rattle.cyc_plain.specs.inside.Step.{at}
use Rattle.cyc_plain.proofs.SlotLaws.{put-same}
use Rattle.cyc_meaning.specs.Values.{Value, Null, Thin, Fat, Operand as Kinded, bytes_of_kind}
use Rattle.cyc_meaning.specs.Operators.{Result, Gives, Raises, array_bounds}
use Rattle.cyc_meaning.specs.Pointers.{Reach, Stops, followed}
use Rattle.cyc_meaning.specs.Pointers as reaches
use Rattle.cyc_meaning.specs.Conversion.{conversion}
use Rattle.cyc_meaning.specs.State.{World, Environment, ConvertTo, Entry, Needs, Given, Running}
use Rattle.cyc_meaning.specs.Step.{computed, step, leads_to}
use Rattle.cyc_memory_relation.specs.inside.Words.{IsPartOf, Points, Is}
use Rattle.cyc_memory_relation.proofs.Pointers.{part-not-null}
use Rattle.cyc_lower_proof.proofs.relation.code.Stands.{ReachedBy, ThinnedAt}
use Rattle.cyc_lower_proof.proofs.object_steps.Handles.{kept_holds}
use Rattle.cyc_lower_proof.proofs.relation.contents.HeldValues.{IsIn, Holds, held}
use Rattle.cyc_lower_proof.proofs.relation.simulation.Relation.{in_operand, DataIn, SharedAt, Matches}
use Rattle.cyc_lower_proof.proofs.relation.simulation.Stacks.{types_at, floor, ValueStack, code_of, bounds_at, top}
use Rattle.cyc_lower_proof.proofs.relation.contents.Data.{height-least, Holds-same}
use Rattle.cyc_lower_proof.proofs.relation.contents.HandlerData.{data_written}
use Rattle.cyc_lower_proof.proofs.relation.simulation.Matched.{IsMatched}
use Rattle.cyc_lower_proof.proofs.pointer_steps.ElementWords.{scaled, first_is, cell_is, elsewhere}
use Rattle.cyc_lower_proof.proofs.pointer_steps.Narrowing.{leaves_null, raises_null, raises_bounds, reaches_first, reaches_cell, RaisesNull}

module _ (source : Program) (pages calls : ℕ) where
  -- The converted pointer is in the slots from n on; `null` states an assumption about the code position to which a null pointer jumps.
  module _ (from to : Kind) (target : Option Kind) (v : Kinded) (n q : ℕ) (k : List Entry) (e : Environment) (w : World) (c : Configuration) (null : ℕ → Type 0) (shared : SharedAt source pages calls k e w c)
      (facts : DataIn source shared.tables c.active.slots k e w c) (holds : Holds shared.tables c.active.slots (floor source c.active.function k) (held k)) (there : n ≡ top source c.active.function k)
      (stack : ValueStack source c.active.function e.locals to (operands.Slot n) q c.frames k) where
    abbrev waiting : List Entry
    waiting = Needs (ConvertTo from to target) ∷ k

    abbrev slots : Words
    slots = c.active.slots

    abbrev ReachedFor : Option Kind → Type 0
    ReachedFor found = ReachedBy (code_of source c.active.function) (bounds_at source c.active.function) (types_at source c.active.function) null (option_map bytes_of_kind found) n (n + 2) n c.active.next q

    -- Holds if the address of a cell represents a thin pointer to the cell.
    abbrev IsThin : (object offset : ℕ) → Type 0
    IsThin object offset = (words : Words) → Points shared.tables object offset (words n) → Is shared.tables to (Thin object offset) words n

    -- The conversion of a fat pointer whose index is within bounds.
    leads_on : (object start count index : ℕ) (found : Option Kind) → ReachedFor found → (part : IsPartOf shared.tables object start count (slots n)) → slots (n + 2) ≡ index → index < count
        → nat_lt (slots (n + 2)) (slots (n + 1)) ≡ true → leads_to w found (reaches.At object (start + index)) ≡ true → IsThin object (start + index)
        → step source (Running (Given v) waiting e w) ≡ Running (Given (record { kind = to; value = Thin object (start + index) })) k e w → IsMatched source pages calls (Running (Given v) waiting e w) (plain.Running c)
    leads_on object start count index None here part index_is below less leads thin does =
        reaches_first source pages calls (Given v) waiting k e w c null None n (n + 2) n q shared here refl (Running (Given (record { kind = to; value = Thin object (start + index) })) k e w) (part-not-null part) less does
        (shared, in_operand (operands.Slot n) facts (thin slots (first_is index part (eqb-true (start + index) 0 leads) below)) (kept_holds _ _ _ k holds) stack)
    leads_on object start count index (Some kind) here part index_is below less leads thin does =
        let g = c.active.function in
        let bytes = bytes_of_kind kind in
        let far = scaled bytes (slots (n + 2)) in
        let address = add_of (slots n) far in
        let after = put (put slots (n + 2) far) n address in
        let points = cell_is shared.related index (slots (n + 2)) part kind index_is below leads in
        reaches_cell source pages calls (Given v) waiting k e w c null (Some bytes) n (n + 2) n q shared here bytes refl (Running (Given (record { kind = to; value = Thin object (start + index) })) k e w) (omega arith) (part-not-null part) less does (
          shared,
          in_operand (operands.Slot n)
              (data_written source shared.tables g c.active.base w.objects e.locals k slots after c.active.handlers c.globals c.frames n 3 (omega (arith, there, height-least (floor source g k) (held k))) (λ x out. elsewhere slots n 2 far address x out) facts)
              (thin after (subst (Points shared.tables object (start + index)) (sym (put-same (put slots (n + 2) far) n address)) points))
              (kept_holds _ _ _ k (Holds-same shared.tables slots after (floor source g k) (held k) (λ x short. elsewhere slots n 2 far address x (inl (omega (arith, short, there)))) holds)) stack,
        )

    -- The conversion of a fat pointer that is not null.
    narrows_fat : (object start count index : ℕ) → v.value ≡ Fat object start count index → IsPartOf shared.tables object start count (slots n) × (slots (n + 1) ≡ count) × (slots (n + 2) ≡ index)
        → conversion to (Fat object start count index) ≡ (if nat_lt index count then Gives (Thin object (start + index)) else Raises array_bounds) → IsThin object (start + index)
        → step source (Running (Given v) waiting e w) ≡ computed to (conversion to v.value) k e w → leads_to w target (followed v.value) ≡ true → ReachedFor target → IsMatched source pages calls (Running (Given v) waiting e w) (plain.Running c)
    narrows_fat object start count index value (part, count_is, index_is) gives thin does leads here =
        let same : nat_lt (slots (n + 2)) (slots (n + 1)) ≡ nat_lt index count = ap (λ (y : ℕ). nat_lt y (slots (n + 1))) index_is ∙ ap (nat_lt index) count_is in
        let goes = does ∙ ap (λ (x : Value). computed to (conversion to x) k e w) value ∙ ap (λ (r : Result). computed to r k e w) gives in
        elim (cases_Bool (nat_lt (slots (n + 2)) (slots (n + 1)))) [
          | inl less ↦
              let inside = sym same ∙ less in
              leads_on object start count index target here part index_is (ltb-true index count inside) less
              (subst (λ (y : Reach). leads_to w target y ≡ true) (ap followed value ∙ ap (λ (b : Bool). if b then reaches.At object (start + index) else Stops array_bounds) inside) leads) thin
              (goes ∙ ap (λ (b : Bool). computed to (if b then Gives (Thin object (start + index)) else Raises array_bounds) k e w) inside)
          | inr least ↦
              raises_bounds source pages calls (Given v) waiting k e w c null (option_map bytes_of_kind target) n (n + 2) n q shared here shared facts (part-not-null part) least
              (goes ∙ ap (λ (b : Bool). computed to (if b then Gives (Thin object (start + index)) else Raises array_bounds) k e w) (sym same ∙ least))
        ]

  pub narrows : (from to : Kind) (target : Option Kind) (v : Kinded) (o : Operand) (q : ℕ) (k : List Entry) (e : Environment) (w : World) (c : Configuration)
      → step source (Running (Given v) (Needs (ConvertTo from to target) ∷ k) e w) ≡ computed to (conversion to v.value) k e w → leads_to w target (followed v.value) ≡ true → v.kind ≡ kinds.Fat
      → (shared : SharedAt source pages calls k e w c) → DataIn source shared.tables c.active.slots k e w c → IsIn shared.tables v c.active.slots o
      → Holds shared.tables c.active.slots (floor source c.active.function k) (held k)
      → ThinnedAt (code_of source c.active.function) (bounds_at source c.active.function) (types_at source c.active.function) to (option_map bytes_of_kind target) o (top source c.active.function k) c.active.next q
      → ValueStack source c.active.function e.locals to o q c.frames k
      → IsMatched source pages calls (Running (Given v) (Needs (ConvertTo from to target) ∷ k) e w) (plain.Running c)
  narrows from kinds.NonNull target v (operands.Slot n) q k e w c does leads fat shared facts is holds (there, here) stack =
      by v.value refl (subst (λ i. Is shared.tables i v.value c.active.slots n) fat is)
    where
      by : (x : Value) → v.value ≡ x → Is shared.tables kinds.Fat x c.active.slots n → IsMatched source pages calls (Running (Given v) (Needs (ConvertTo from kinds.NonNull target) ∷ k) e w) (plain.Running c)
      by Null value is =
          raises_null source pages calls (Given v) (Needs (ConvertTo from kinds.NonNull target) ∷ k) k e w c (RaisesNull source pages calls c.active.function) n here.0 shared here.2 shared facts is.0
          (does ∙ ap (λ (y : Value). computed kinds.NonNull (conversion kinds.NonNull y) k e w) value) (λ block raises. raises)
      by (Fat object start count index) value is =
          narrows_fat from kinds.NonNull target v n q k e w c (RaisesNull source pages calls c.active.function) shared facts holds there stack object start count index value is refl (λ words points. points) does leads here
      by x value is = absurd is
  narrows from kinds.Nullable target v (operands.Slot n) q k e w c does leads fat shared facts is holds (there, here) stack =
      by v.value refl (subst (λ i. Is shared.tables i v.value c.active.slots n) fat is)
    where
      by : (x : Value) → v.value ≡ x → Is shared.tables kinds.Fat x c.active.slots n → IsMatched source pages calls (Running (Given v) (Needs (ConvertTo from kinds.Nullable target) ∷ k) e w) (plain.Running c)
      by Null value is =
          let next = Running (Given (record { kind = kinds.Nullable; value = Null })) k e w in
          leaves_null source pages calls (Given v) (Needs (ConvertTo from kinds.Nullable target) ∷ k) k e w c (λ x. x ≡ q) n here.0 shared here.2 next is.0
          (does ∙ ap (λ (y : Value). computed kinds.Nullable (conversion kinds.Nullable y) k e w) value)
          (λ block same. subst (λ i. Matches source pages calls next (plain.Running (at c i))) (sym same) (shared, in_operand (operands.Slot n) facts is.0 (kept_holds _ _ _ k holds) stack))
      by (Fat object start count index) value is =
          narrows_fat from kinds.Nullable target v n q k e w c (λ x. x ≡ q) shared facts holds there stack object start count index value is refl (λ words points. points) does leads here
      by x value is = absurd is
  narrows from to target v o q k e w c does leads fat shared facts is holds thinned stack = absurd thinned
