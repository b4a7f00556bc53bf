-- This file proves the steps that begin an array: the length is checked, and a block is allocated.
use Rattle.std.proofs.Common.{◌≡◌, ◌≢◌, ℕ, zero, suc, ◌+◌, ◌*◌, ◌≤◌, ◌<◌, max, Bool, true, false, List, [], ◌∷◌, ◌++◌, length, None, refl, sym, ap, subst, ◌∙◌, arith, inl, inr, length-append}
use Rattle.std.specs.Prelude.{nat_le, nat_lt, ◌==◌, if◌then◌else◌}
use Rattle.std.proofs.lemmas.Bool.{le-leb, false_from_ne_true, leb-true, leb-false, cases_Bool}
use Rattle.cyc_words.specs.Word.{add_of, mul_of, sar_of}
use Rattle.cyc_words.proofs.Numbers.{nat_le-beyond}
use Rattle.cyc_types.specs.declared.typed.Kind.{Kind}
use Rattle.cyc_types.specs.declared.typed.Kind.TheVariants as kinds
use Rattle.cyc_types.specs.TypedTrees.{Expression, Program}
use Rattle.cyc_types.specs.Numbered.{Numbering}
use Rattle.cyc_store.specs.State.{demand}
use Rattle.cyc_store.specs.Services as services
use Rattle.cyc_store.specs.Services.{Allocate, refusal, full_at}
use Rattle.cyc_store.specs.declared.range.TheConstants.{MOST_BLOCK_WORDS}
use Rattle.cyc_store.proofs.ServiceLemmas.{served-sound}
use Rattle.cyc_plain.specs.declared.instruction.BinaryOperator.TheVariants as plain_binary
use Rattle.cyc_plain.specs.declared.instruction.UnaryOperator.TheVariants as plain_unary
use Rattle.cyc_plain.specs.declared.instruction.Comparison.TheVariants as comparisons
use Rattle.cyc_plain.specs.declared.instruction.Operand.{Operand}
use Rattle.cyc_plain.specs.declared.instruction.Operand.TheVariants as operands
use Rattle.cyc_plain.specs.declared.instruction.Instruction.TheVariants as instructions
use Rattle.cyc_plain.specs.declared.instruction.Request.TheVariants as requests
use Rattle.cyc_plain.specs.inside.Operators.{truth}
use Rattle.cyc_plain.specs.inside.State as plain
use Rattle.cyc_plain.specs.inside.State.{Words, put, Configuration}
use Rattle.cyc_plain.specs.inside.Step.{Choice, operand_word, with_slots, at, advanced, served_to, performed}
use Rattle.cyc_plain.specs.inside.Step as plain_step
use Rattle.cyc_plain.specs.inside.Straight.{At}
use Rattle.cyc_plain.proofs.SlotLaws.{put-same, put-other}
use Rattle.cyc_meaning.specs.Values.{Value, Int, Fat, Operand as Kinded, Cell, kinds_of, words_of_kind, bytes_of_kind, words_for, block_size}
use Rattle.cyc_meaning.specs.Operators.{array_size}
use Rattle.cyc_meaning.specs.Allocation.{blanks, begun, makes_array, most_words}
use Rattle.cyc_meaning.specs.Objects.{created}
use Rattle.cyc_meaning.specs.inside.Effects.{pages_of}
use Rattle.cyc_meaning.specs.State.{Owner, World, Access, Found, Closed, Missing, Environment, MakeArray, Entry, Needs, Focus, Given, Beginning, Repeating, Throwing, Running}
use Rattle.cyc_meaning.specs.Step.{step}
use Rattle.cyc_memory_relation.specs.inside.Tables.{Placed, Tables, with_row, Grows}
use Rattle.cyc_memory_relation.specs.inside.Words.{IsPartOf, Is}
use Rattle.cyc_memory_relation.proofs.Values.{Grows-row}
use Rattle.cyc_memory_relation.proofs.Places.{blanks-size}
use Rattle.cyc_memory_relation.proofs.Making.{blanks-blank, part-made}
use Rattle.cyc_lower_proof.specs.inside.ObjectCode.{most_elements}
use Rattle.cyc_lower_proof.specs.inside.Lowering.{lower_program}
use Rattle.cyc_lower_proof.proofs.slots.Widths.{Outside}
use Rattle.cyc_lower_proof.proofs.relation.code.Stands.{BegunAt, ElementsAt, SizedAt}
use Rattle.cyc_lower_proof.proofs.object_steps.Handles.{has_handle}
use Rattle.cyc_lower_proof.proofs.relation.contents.HeldValues.{IsIn, Holds, held, callers, counters_of, IsHandleOf, homes, contents}
use Rattle.cyc_lower_proof.proofs.relation.simulation.Relation.{DataIn, SharedAt, Matches}
use Rattle.cyc_lower_proof.proofs.relation.simulation.Stacks.{LandsMade, ValueStack, code_of, bounds_at, types_on, floor, top}
use Rattle.cyc_lower_proof.proofs.relation.contents.Data.{height-least, Holds-same, contents_made}
use Rattle.cyc_lower_proof.proofs.relation.contents.HandlerData.{data_written}
use Rattle.cyc_lower_proof.proofs.relation.contents.GrowingData.{Holds-grows, data_grows, variables_grow}
use Rattle.cyc_lower_proof.proofs.relation.simulation.Accesses.{IsWell}
use Rattle.cyc_lower_proof.proofs.relation.simulation.Paths.{Link, is_quiet, end_of, IsPath, end_joined, path_joined, by_path}
use Rattle.cyc_lower_proof.proofs.place_steps.CellWrites.{SameVariables, data_beside}
use Rattle.cyc_lower_proof.proofs.relation.simulation.Matched.{IsMatched, by_one, shared_within}
use Rattle.cyc_lower_proof.proofs.value_steps.Landings.{IsStep}
use Rattle.cyc_lower_proof.proofs.handler_steps.Handling.{raised}
use Rattle.cyc_lower_proof.proofs.object_steps.Allocations.{Makes, made_for}
use Rattle.cyc_lower_proof.proofs.object_steps.ArrayWords.{elements_few, array_words_few, quarter_is, product_is, sized_is}
use Rattle.cyc_lower_proof.proofs.object_steps.Asking.{by_asking, by_full}
use Rattle.cyc_lower_proof.proofs.relation.places.Known.{row-made_there}
use Rattle.cyc_lower_proof.specs.inside.Slots.{Types, global_types}
use Rattle.cyc_lower_proof.proofs.pointer_steps.PointerSteps.{int_word}

-- ---- the owner of the array

-- If the step that allocates an array is no fault, then the allocation for the array's owner (a region or a unique
-- pointer) yields a new heap state.
array_made : (a : Access World) (object count level : ℕ) (wanted : Kind) (element : Expression) (k : List Entry) (e : Environment) (w : World)
    → IsWell (begun a object count level wanted element k e w) → (made : World) × (a ≡ Found made)
array_made (Found made) object count level wanted element k e w well = (made, refl)
array_made Closed object count level wanted element k e w well = absurd (well refl)
array_made Missing object count level wanted element k e w well = absurd (well refl)

-- A path of instructions that computes into a slot how many words n array elements take, all of one
-- representation kind (int, char, pointer, ..).
record Sized (source : Program) (kind : Kind) (a : Configuration) (t r n : ℕ) : Type 0 where
  pub slots : Words
  pub links : List Link
  pub ends : end_of a links ≡ at (with_slots a slots) r
  pub path : IsPath source a links
  pub words : slots t ≡ words_for (n * bytes_of_kind kind)
  pub others : (x : ℕ) → x ≢ t → slots x ≡ a.active.slots x

module _ (source : Program) (a : Configuration) (t r n : ℕ) (is : a.active.slots t ≡ n) where
  -- The size of an array whose elements take a fixed number of words each.
  product_sized : (kind : Kind) → words_for (n * bytes_of_kind kind) ≡ n * words_of_kind kind → words_for (n * bytes_of_kind kind) ≤ MOST_BLOCK_WORDS
      → At (code_of source a.active.function) a.active.next (instructions.Binary plain_binary.Multiply t (operands.Slot t) (operands.Word (words_of_kind kind))) × (a.active.next + 1 ≡ r)
      → Sized source kind a t r n
  product_sized kind whole few (all, end) =
      let s1 = put a.active.slots t (mul_of (a.active.slots t) (words_of_kind kind)) in
      let a1 = advanced (with_slots a s1) in
      record {
        slots = s1;
        links = record { instruction = instructions.Binary plain_binary.Multiply t (operands.Slot t) (operands.Word (words_of_kind kind)); following = a1 } ∷ [];
        ends = ap (at (with_slots a s1)) end;
        path = (all, (λ choice. refl), omega arith, is_quiet a a1.active, tt);
        words = put-same a.active.slots t (mul_of (a.active.slots t) (words_of_kind kind)) ∙ ap (λ m. mul_of m (words_of_kind kind)) is
            ∙ product_is n (words_of_kind kind) (subst (λ m. m ≤ MOST_BLOCK_WORDS) whole few) ∙ sym whole;
        others = λ x other. put-other a.active.slots t x (mul_of (a.active.slots t) (words_of_kind kind)) other;
      }

  -- The size of a char array: four chars share a word.
  quarter_sized : words_for (n * bytes_of_kind kinds.Char) ≤ MOST_BLOCK_WORDS
      → At (code_of source a.active.function) a.active.next (instructions.Binary plain_binary.Add t (operands.Slot t) (operands.Word 3))
      × At (code_of source a.active.function) (a.active.next + 1) (instructions.Binary plain_binary.ShiftRight t (operands.Slot t) (operands.Word 2)) × (a.active.next + 1 + 1 ≡ r)
      → Sized source kinds.Char a t r n
  quarter_sized few (sum, shift, end) =
      let s1 = put a.active.slots t (add_of (a.active.slots t) 3) in
      let s2 = put s1 t (sar_of (s1 t) 2) in
      let a1 = advanced (with_slots a s1) in
      let a2 = advanced (with_slots a1 s2) in
      record {
        slots = s2;
        links = record { instruction = instructions.Binary plain_binary.Add t (operands.Slot t) (operands.Word 3); following = a1 }
            ∷ record { instruction = instructions.Binary plain_binary.ShiftRight t (operands.Slot t) (operands.Word 2); following = a2 } ∷ [];
        ends = ap (at (with_slots a s2)) end;
        path = (sum, (λ choice. refl), omega arith, is_quiet a a1.active, (shift, (λ choice. refl), omega arith, is_quiet a1 a2.active, tt));
        words = put-same s1 t (sar_of (s1 t) 2) ∙ ap (λ m. sar_of m 2) (put-same a.active.slots t (add_of (a.active.slots t) 3) ∙ ap (λ m. add_of m 3) is) ∙ quarter_is n few;
        others = λ x other. put-other s1 t x (sar_of (s1 t) 2) other ∙ put-other a.active.slots t x (add_of (a.active.slots t) 3) other;
      }

  sizes : (bounds : Numbering) (types : Types) (kind : Kind) → words_for (n * bytes_of_kind kind) ≤ MOST_BLOCK_WORDS
      → SizedAt (code_of source a.active.function) bounds types kind t a.active.next r → Sized source kind a t r n
  sizes bounds types kinds.Char few sized = quarter_sized few sized
  sizes bounds types kinds.Int few sized = product_sized kinds.Int (omega arith) few sized
  sizes bounds types kinds.Nullable few sized = product_sized kinds.Nullable (omega arith) few sized
  sizes bounds types kinds.NonNull few sized = product_sized kinds.NonNull (omega arith) few sized
  sizes bounds types kinds.Fat few sized = product_sized kinds.Fat (omega arith) few sized
  sizes bounds types kinds.Handle few sized = product_sized kinds.Handle (omega arith) few sized
  sizes bounds types kinds.Key few sized = product_sized kinds.Key (omega arith) few sized

module _ (source : Program) (pages calls : ℕ) where
  -- ---- checking the length

  module _ (owner : Owner) (level : ℕ) (wanted : Kind) (element : Expression) (k : List Entry) (e : Environment) (w : World) (c : Configuration) (shared : SharedAt source pages calls k e w c)
      (facts : DataIn source shared.tables c.active.slots k e w c) (holds : Holds shared.tables c.active.slots (floor source c.active.function k) (held k)) where
    abbrev t : ℕ
    t = top source c.active.function k

    -- Says at which code position the instructions after the computation of an array's length are.
    abbrev Waits : (p : ℕ) → Type 0
    Waits p =
        (handle : Operand) × (d : ℕ) × (h : ℕ) × (r : ℕ) × (s : ℕ) × (q : ℕ) × IsHandleOf owner handle t k
        × BegunAt (code_of source c.active.function) (bounds_at source c.active.function) (types_on source c.active.function k) handle wanted t p h
        × (level ≡ length (counters_of (floor source c.active.function k) k))
        × ElementsAt (code_of source c.active.function) (bounds_at source c.active.function) (types_on source c.active.function k) element wanted t d h r s q
        × LandsMade source c.active.function e.locals kinds.Fat d q c.frames k

    -- If the length of the array is at most the limit, then the code computes the arguments of the allocation into slots.
    begins : (focus : Focus) (k₀ : List Entry) (n : ℕ) → step source (Running focus k₀ e w) ≡ Running (Beginning owner n level wanted element) k e w → SharedAt source pages calls k₀ e w c
        → c.active.slots t ≡ n → words_for (n * bytes_of_kind wanted) ≤ MOST_BLOCK_WORDS → Waits c.active.next → IsMatched source pages calls (Running focus k₀ e w) (plain.Running c)
    begins focus k₀ n does shared₀ is few (handle, d, h, r, s, q, owned, (m, u, (block_at, branch, raising_it, passed), count, index, size, none, sum, ask, end), level_is, elements, lands) =
        let slots = c.active.slots in
        let g = c.active.function in
        let base = floor source g k in
        let words = words_for (n * bytes_of_kind wanted) in
        let next = Running (Beginning owner n level wanted element) k e w in
        let s1 = put slots (t + 1) (slots t) in
        let s2 = put s1 (t + 2) 0 in
        let c0 = at c m in
        let c1 = advanced (with_slots c0 s1) in
        let c2 = advanced (with_slots c1 s2) in
        let first : s2 t ≡ slots t = put-other s1 (t + 2) t 0 (λ same. omega (arith, same)) ∙ put-other slots (t + 1) t (slots t) (λ same. omega (arith, same)) in
        let sized = sizes source c2 t u n (first ∙ is) (bounds_at source g) (types_on source g k) wanted few size in
        let s3 = sized.slots in
        let s4 = put s3 (t + 3) (truth (s3 t == 0)) in
        let s5 = put s4 (t + 3) (add_of (s4 (t + 3)) (s4 t)) in
        let c3 = at (with_slots c2 s3) u in
        let c4 = advanced (with_slots c3 s4) in
        let c5 = advanced (with_slots c4 s5) in
        let second : s4 t ≡ words = put-other s3 (t + 3) t (truth (s3 t == 0)) (λ same. omega (arith, same)) ∙ sized.words in
        let third : s4 (t + 3) ≡ truth (words == 0) = put-same s3 (t + 3) (truth (s3 t == 0)) ∙ ap (λ x. truth (x == 0)) sized.words in
        let block : s5 (t + 3) ≡ max 1 words = put-same s4 (t + 3) (add_of (s4 (t + 3)) (s4 t)) ∙ ap (λ x. add_of x (s4 t)) third ∙ ap (add_of (truth (words == 0))) second ∙ sized_is words few in
        let following : (x : ℕ) → t < x → x < t + 3 → s5 x ≡ s2 x
        = λ x above below. put-other s4 (t + 3) x (add_of (s4 (t + 3)) (s4 t)) (λ same. omega (arith, same, below)) ∙ put-other s3 (t + 3) x (truth (s3 t == 0)) (λ same. omega (arith, same, below))
        ∙ sized.others x (λ same. omega (arith, same, above)) in
        let long : s5 (t + 1) ≡ n = following (t + 1) (omega arith) (omega arith) ∙ put-other s1 (t + 2) (t + 1) 0 (λ same. omega (arith, same)) ∙ put-same slots (t + 1) (slots t) ∙ is in
        let start : s5 (t + 2) ≡ 0 = following (t + 2) (omega arith) (omega arith) ∙ put-same s1 (t + 2) 0 in
        let kept : (x : ℕ) → Outside t 4 x → s5 x ≡ slots x
        = λ x out. put-other s4 (t + 3) x (add_of (s4 (t + 3)) (s4 t)) (apart_from x t 4 (t + 3) out (omega arith) (omega arith)) ∙ put-other s3 (t + 3) x (truth (s3 t == 0)) (apart_from x t 4 (t + 3) out (omega arith) (omega arith))
        ∙ sized.others x (apart_from x t 4 t out (omega arith) (omega arith))
        ∙ put-other s1 (t + 2) x 0 (apart_from x t 4 (t + 2) out (omega arith) (omega arith)) ∙ put-other slots (t + 1) x (slots t) (apart_from x t 4 (t + 1) out (omega arith) (omega arith)) in
        let matches : Matches source pages calls next (plain.Running c5) = (
          shared,
          data_written source shared.tables g c.active.base w.objects e.locals k slots s5 c.active.handlers c.globals c.frames t 4 (height-least base (held k)) kept facts,
          (
            handle,
            d,
            h,
            r,
            s,
            q,
            owned,
            ask,
            omega (arith, end),
            few,
            long,
            start,
            block,
            level_is,
            elements,
            Holds-same shared.tables slots s5 base (held k) (λ x short. kept x (inl short)) holds,
            lands,
          ),
        ) in
        let short : nat_le (most_elements (bytes_of_kind wanted) + 1) n ≡ false
        = false_from_ne_true (nat_le (most_elements (bytes_of_kind wanted) + 1) n) (λ reported. absurd (omega (arith, elements_few wanted n few, leb-true (most_elements (bytes_of_kind wanted) + 1) n reported))) in
        let tests : Link = record { instruction = instructions.Unary plain_unary.Not (t + 3) (operands.Slot t); following = c4 } in
        let end_is : end_of c2 (sized.links ++ tests ∷ []) ≡ c4 = end_joined c2 sized.links (tests ∷ []) in
        let adds = instructions.Binary plain_binary.Add (t + 3) (operands.Slot (t + 3)) (operands.Slot t) in
        by_path source pages calls focus k₀ e w c next (
        record { instruction = instructions.Branch comparisons.GreaterOrEqualUnsigned (operands.Slot t) (operands.Word (most_elements (bytes_of_kind wanted) + 1)) block_at; following = c0 }
        ∷ record { instruction = instructions.Move (t + 1) (operands.Slot t); following = c1 }
        ∷ record { instruction = instructions.Move (t + 2) (operands.Word 0); following = c2 }
        ∷ (sized.links ++ tests ∷ [])
        )
        adds does shared₀ (
          branch,
          (λ choice. ap (λ b. plain_step.branches c b block_at) (ap (nat_le (most_elements (bytes_of_kind wanted) + 1)) is ∙ short) ∙ ap (λ x. plain.Running (at c x)) passed),
          omega (arith, passed),
          is_quiet c c0.active,
          (
            count,
            (λ choice. refl),
            omega arith,
            is_quiet c0 c1.active,
            (
              index,
              (λ choice. refl),
              omega arith,
              is_quiet c1 c2.active,
              path_joined source c2 sized.links (tests ∷ []) sized.path (subst (λ x. IsPath source x (tests ∷ [])) (sym sized.ends) (none, (λ choice. refl), omega arith, is_quiet c3 c4.active, tt)),
            ),
          ),
        )
        (subst (λ (x : Configuration). At (code_of source x.active.function) x.active.next adds) (sym end_is) sum)
        (λ choice. subst (λ (x : Configuration). Matches source pages calls next (performed (lower_program source) choice x adds)) (sym end_is) matches)
      where
        apart_from : (m first many x : ℕ) → Outside first many m → first ≤ x → x < first + many → m ≢ x
        apart_from m first many x (inl before) from to same = omega (arith, before, from, same)
        apart_from m first many x (inr following) from to same = omega (arith, following, to, same)

    -- The length of the array is too large, so the code raises an exception.
    raises : (focus : Focus) (k₀ : List Entry) (n : ℕ) → step source (Running focus k₀ e w) ≡ Running (Throwing array_size 0) k e w → SharedAt source pages calls k₀ e w c
        → c.active.slots t ≡ n → (words_for (n * bytes_of_kind wanted) ≤ MOST_BLOCK_WORDS → ⊥) → Waits c.active.next → IsMatched source pages calls (Running focus k₀ e w) (plain.Running c)
    raises focus k₀ n does shared₀ is long (handle, d, h, r, s, q, owned, (m, u, (block_at, branch, raising_it, passed), count, index, size, none, sum, ask, end), level_is, elements, lands) =
        let limit = most_elements (bytes_of_kind wanted) + 1 in
        by_one source pages calls does shared₀ branch
        (λ choice. subst (λ b. Matches source pages calls (Running (Throwing array_size 0) k e w) (plain_step.branches c b block_at))
        (sym (ap (nat_le limit) is ∙ too_long limit refl))
        (raised source pages calls array_size 0 k e w (at c block_at) (operands.Word array_size) (operands.Word 0) (omega arith) shared facts raising_it refl refl))
      where
        few_by : (x : ℕ) → nat_le (most_elements (bytes_of_kind wanted) + 1) x ≡ false → x ≤ most_elements (bytes_of_kind wanted)
        few_by x less = omega (arith, leb-false (most_elements (bytes_of_kind wanted) + 1) x less)

        too_long : (limit : ℕ) → limit ≡ most_elements (bytes_of_kind wanted) + 1 → nat_le limit n ≡ true
        too_long limit is_limit = elim (cases_Bool (nat_le limit n)) [
          | inl more ↦ more
          | inr less ↦ absurd (long (array_words_few wanted n (few_by n (subst (λ x. nat_le x n ≡ false) is_limit less))))
        ]

    measures : (i : Kind) (u : Value) → IsWell (makes_array owner level wanted element u k e w) → Is shared.tables i u c.active.slots t → SharedAt source pages calls (Needs (MakeArray owner level wanted element) ∷ k) e w c
        → Waits c.active.next → IsMatched source pages calls (Running (Given (record { kind = i; value = u })) (Needs (MakeArray owner level wanted element) ∷ k) e w) (plain.Running c)
    measures i (Int n) well is shared₀ waits = by (nat_le (words_for (n * bytes_of_kind wanted)) most_words) refl
      where
        by : (fits : Bool) → nat_le (words_for (n * bytes_of_kind wanted)) most_words ≡ fits
            → IsMatched source pages calls (Running (Given (record { kind = i; value = Int n })) (Needs (MakeArray owner level wanted element) ∷ k) e w) (plain.Running c)
        by true reported =
            begins (Given (record { kind = i; value = Int n })) (Needs (MakeArray owner level wanted element) ∷ k) n
            (ap (λ (b : Bool). if b then Running (Beginning owner n level wanted element) k e w else Running (Throwing array_size 0) k e w) reported) shared₀
            (int_word shared.tables i n c.active.slots t is) (leb-true (words_for (n * bytes_of_kind wanted)) most_words reported) waits
        by false reported =
            raises (Given (record { kind = i; value = Int n })) (Needs (MakeArray owner level wanted element) ∷ k) n
            (ap (λ (b : Bool). if b then Running (Beginning owner n level wanted element) k e w else Running (Throwing array_size 0) k e w) reported) shared₀
            (int_word shared.tables i n c.active.slots t is)
            (λ few. let f : false ≡ true = sym reported ∙ le-leb (words_for (n * bytes_of_kind wanted)) most_words few in cc) waits
    measures i u well is shared₀ waits = absurd (well refl)

  -- The length of an array has been computed and is checked.
  pub array_sized : (owner : Owner) (level : ℕ) (wanted : Kind) (element : Expression) (v : Kinded) (o : Operand) (k : List Entry) (e : Environment) (w : World) (c : Configuration)
      → IsWell (step source (Running (Given v) (Needs (MakeArray owner level wanted element) ∷ k) e w)) → (shared : SharedAt source pages calls k e w c) → DataIn source shared.tables c.active.slots k e w c
      → IsIn shared.tables v c.active.slots o → Holds shared.tables c.active.slots (floor source c.active.function k) (held k)
      → ValueStack source c.active.function e.locals v.kind o c.active.next c.frames (Needs (MakeArray owner level wanted element) ∷ k)
      → IsMatched source pages calls (Running (Given v) (Needs (MakeArray owner level wanted element) ∷ k) e w) (plain.Running c)
  array_sized owner level wanted element v o k e w c well shared facts is holds (handle, d, h, r, s, q, owned, there, begun_at, level_is, elements, lands) =
      measures owner level wanted element k e w c shared facts holds v.kind v.value well (subst (IsIn shared.tables v c.active.slots) there is) shared (handle, d, h, r, s, q, owned, begun_at, level_is, elements, lands)

  -- ---- allocating the block

  module _ (k : List Entry) (e : Environment) (w : World) (c : Configuration) (shared : SharedAt source pages calls k e w c) (facts : DataIn source shared.tables c.active.slots k e w c)
      (holds : Holds shared.tables c.active.slots (floor source c.active.function k) (held k)) (count : ℕ) (wanted : Kind) (owner : Owner) (handle : ℕ) (new : World)
      (makes : Makes shared.tables w c.store owner handle (blanks count wanted) new)
      (choice : services.Choice) (free : refusal c.store (Allocate handle (block_size (blanks count wanted))) ≡ None) (served : plain_step.IsServed c.store (Allocate handle (block_size (blanks count wanted))) choice) where
    abbrev cells : List Cell
    cells = blanks count wanted

    abbrev first : ℕ
    first = top source c.active.function k

    abbrev grown : Tables
    grown = with_row shared.tables (Placed choice.address (kinds_of cells))

    abbrev after : Configuration
    after = served_to choice c first (Allocate handle (block_size cells))

    grows : Grows shared.tables grown
    grows = Grows-row shared.tables (Placed choice.address (kinds_of cells))

    abbrev shared_made : SharedAt source pages calls k e new after
    shared_made = record {
      tables = grown;
      same_output = shared.same_output ∙ sym makes.output;
      same_input = shared.same_input ∙ sym makes.input;
      same_pages = makes.pages choice ∙ shared.same_pages;
      related = makes.related choice free served.allowed;
      globals = shared.globals;
      variables = variables_grow shared.tables grown grows (e.home ∷ homes k) shared.variables;
      few_pages = within_pages;
      fits = shared.fits;
      counters = shared.counters;
    }
      where
        within_pages : demand after.store ≤ pages
        within_pages = omega (arith, (served-sound c.store (Allocate handle (block_size cells)) choice shared.related.sound free served.allowed).demand, makes.pages choice, shared.same_pages)

    -- The allocation of the array's block changes only the slot of the block's address.
    same_slots : (m : ℕ) → Outside first 1 m → after.active.slots m ≡ c.active.slots m
    same_slots m (inl short) = put-other c.active.slots first m choice.address (λ same. omega (arith, same, short))
    same_slots m (inr long) = put-other c.active.slots first m choice.address (λ same. omega (arith, same, long))

    data_made : DataIn source grown after.active.slots k e new after
    data_made =
        let g = c.active.function in
        let many : length new.objects ≡ length w.objects + 1 = ap length makes.joined ∙ length-append w.objects (record { owner = owner; cells = cells } ∷ []) in
        data_written source grown g c.active.base new.objects e.locals k c.active.slots after.active.slots c.active.handlers c.globals c.frames first 1 (omega (arith, height-least (floor source g k) (held k))) same_slots (
          data_grows shared.tables grown grows source g c.active.base new.objects e.locals (callers k) c.active.slots c.globals c.frames
              (data_beside shared.tables source g c.active.base w.objects new.objects e.locals (callers k) c.active.slots c.globals c.frames (omega (arith, many)) beside facts.0),
          facts.1,
        )
      where
        beside : SameVariables shared.tables (global_types source.globals) w.objects new.objects
        beside o row = ap (λ l. contents l o) makes.joined ∙ contents_made w.objects (record { owner = owner; cells = cells }) o (row-made_there shared.related (global_types source.globals) o row)

    holds_made : Holds grown after.active.slots (floor source c.active.function k) (held k)
    holds_made =
        Holds-same grown c.active.slots after.active.slots (floor source c.active.function k) (held k) (λ n short. same_slots n (inl (omega (arith, short))))
        (Holds-grows shared.tables grown grows c.active.slots (floor source c.active.function k) (held k) holds)

    -- After the allocation, the fat pointer to the array is in slots.
    array_there : block_size cells ≤ MOST_BLOCK_WORDS → c.active.slots (first + 1) ≡ count → c.active.slots (first + 2) ≡ 0 → Is grown kinds.Fat (Fat (length w.objects) 0 count 0) after.active.slots first
    array_there short long start = (
      subst (IsPartOf grown (length w.objects) 0 count) (sym (put-same c.active.slots first choice.address)) (part-made shared.related handle count wanted choice (omega (arith, short)) served.allowed),
      same_slots (first + 1) (inr (omega arith)) ∙ long,
      same_slots (first + 2) (inr (omega arith)) ∙ start,
    )

  -- The step that allocates the block of an array.
  pub beginning : (owner : Owner) (count level : ℕ) (wanted : Kind) (element : Expression) (k : List Entry) (e : Environment) (w : World) (c : Configuration) → IsStep source pages calls (Beginning owner count level wanted element) k e w c
  beginning owner count level wanted element k e w c well (shared, facts, (handle, d, h, r, s, q, owned, ask, next_is, few, long, start, block, level_is, elements, holds, lands)) =
      let g = c.active.function in
      let t = top source g k in
      let word = operand_word c.active.slots handle in
      let has = has_handle shared.tables c.active.slots (floor source g k) owner handle k shared.related.heap owned holds in
      let cells = blanks count wanted in
      let size : c.active.slots (t + 3) ≡ block_size cells = block ∙ sym (blanks-size count wanted) in
      let small : block_size cells ≤ MOST_BLOCK_WORDS = omega (arith, size, block, at_most (words_for (count * bytes_of_kind wanted)) few) in
      let (made, creates) = array_made (created w owner cells) (length w.objects) count level wanted element k e w well in
      let (new, makes) = made_for shared.related cells (blanks-blank count wanted) small owner word made has creates in
      let next = Running (Repeating (length w.objects) count 0 level wanted element) k e new in
      let does : step source (Running (Beginning owner count level wanted element) k e w) ≡ next = ap (λ a. begun a (length w.objects) count level wanted element k e w) makes.creates in
      let request = requests.Allocate t handle (operands.Slot (t + 3)) in
      let refuses = ap (λ n. refusal c.store (Allocate word n)) size ∙ makes.refuses in
      elim (cases_Bool (nat_lt c.store.pages (pages_of new))) [
        | inl over ↦
            by_full source pages calls (Beginning owner count level wanted element) k e w c next request does
            (nat_le-beyond pages (pages_of new) _ (subst (λ p. nat_lt p (pages_of new) ≡ true) shared.same_pages over)) shared ask (refuses ∙ ap full_at over)
        | inr room ↦
            let free = refuses ∙ ap full_at room in
            let free_block = sym (ap (λ n. refusal c.store (Allocate word n)) size) ∙ free in
            by_asking source pages calls (Beginning owner count level wanted element) k e w c next request does shared ask free
            (λ choice served.
            let given = subst (λ n. plain_step.IsServed c.store (Allocate word n) choice) size served in
            let later = shared_made k e w c shared facts holds count wanted owner word new makes choice free_block given in
            subst (λ n. Matches source pages calls next (plain.Running (served_to choice c t (Allocate word n))) × (plain_step.is_within pages calls (plain.Running (served_to choice c t (Allocate word n))) ≡ true)) (sym size) (
              (
                later,
                data_made k e w c shared facts holds count wanted owner word new makes choice free_block given,
                (
                  d,
                  r,
                  s,
                  q,
                  array_there k e w c shared facts holds count wanted owner word new makes choice free_block given small long start,
                  omega arith,
                  few,
                  level_is,
                  subst (λ n. ElementsAt (code_of source g) (bounds_at source g) (types_on source g k) element wanted t d n r s q) (sym next_is) elements,
                  holds_made k e w c shared facts holds count wanted owner word new makes choice free_block given,
                  lands,
                ),
              ),
              shared_within source pages calls k e new (served_to choice c t (Allocate word (block_size cells))) later,
            ))
      ]
    where
      at_most : (n : ℕ) → n ≤ MOST_BLOCK_WORDS → max 1 n ≤ MOST_BLOCK_WORDS
      at_most zero less = omega arith
      at_most (suc n) less = omega (arith, less)
