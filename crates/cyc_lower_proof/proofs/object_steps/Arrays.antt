-- This file proves the steps that fill an array: each element is evaluated and written.
use Rattle.std.proofs.Common.{◌≡◌, ◌≢◌, ℕ, suc, ◌+◌, ◌*◌, ◌≤◌, ◌<◌, Bool, true, false, List, [], ◌∷◌, ◌++◌, length, None, refl, sym, ap, subst, ◌∙◌, arith, inl, inr}
use Rattle.std.specs.Prelude.{◌==◌, if◌then◌else◌}
use Rattle.std.proofs.lemmas.Bool.{eqb-true, eq-eqb, cases_eq}
use Rattle.cyc_words.specs.Word.{add_of, mul_of, shl_of}
use Rattle.cyc_words.specs.Word.{IsWord as IsMachineWord}
use Rattle.cyc_types.specs.declared.typed.Kind.{Kind}
use Rattle.cyc_types.specs.declared.typed.Kind.TheVariants as kinds
use Rattle.cyc_types.specs.TypedTrees.{Expression, Program}
use Rattle.cyc_store.specs.State.{demand}
use Rattle.cyc_store.specs.declared.range.TheConstants.{MOST_BLOCK_WORDS}
use Rattle.cyc_plain.specs.declared.instruction.BinaryOperator.TheVariants as plain_binary
use Rattle.cyc_plain.specs.declared.instruction.Comparison.TheVariants as comparisons
use Rattle.cyc_plain.specs.declared.instruction.Operand.{Operand}
use Rattle.cyc_plain.specs.declared.instruction.Operand.TheVariants as operands
use Rattle.cyc_plain.specs.declared.instruction.Instruction.TheVariants as instructions
use Rattle.cyc_plain.specs.inside.State as plain
use Rattle.cyc_plain.specs.inside.State.{Words, put, Configuration}
use Rattle.cyc_plain.specs.inside.Step.{Choice, with_slots, at, advanced, performed}
use Rattle.cyc_plain.specs.inside.Step as plain_step
use Rattle.cyc_plain.specs.inside.Straight.{At}
use Rattle.cyc_plain.proofs.SlotLaws.{put-same, put-other}
use Rattle.cyc_meaning.specs.Values.{Fat, Operand as Kinded, is_kind, words_of_kind, bytes_of_kind, words_for}
use Rattle.cyc_meaning.specs.Parts.{gives}
use Rattle.cyc_meaning.specs.State.{World, Found, Located, cell_at, written, Environment, with_counter, FillElement, Entry, Needs, Focus, Evaluating, Given, Repeating, Running}
use Rattle.cyc_meaning.specs.Step.{wrong, stored as stored_in, step}
use Rattle.cyc_memory_relation.specs.inside.Words.{Points, IsPartOf, Is}
use Rattle.cyc_memory_relation.specs.inside.Related as objects
use Rattle.cyc_memory_relation.proofs.Pointers.{pointer-word}
use Rattle.cyc_memory_relation.proofs.Cells.{element-found}
use Rattle.cyc_lower_proof.specs.inside.ValueCode.{is_in, scale_of, store_of}
use Rattle.cyc_lower_proof.specs.inside.Lowering.{lower_program}
use Rattle.cyc_lower_proof.proofs.slots.Widths.{Outside, same_kind, wide_kind}
use Rattle.cyc_lower_proof.proofs.relation.code.Stands.{CopyBy, ElementsAt, StoresAt}
use Rattle.cyc_lower_proof.proofs.relation.contents.HeldValues.{IsWord, IsIn, Holds, held, callers, counters_of, arrays_in}
use Rattle.cyc_lower_proof.proofs.relation.simulation.Relation.{DataIn, SharedAt, into_slot, Matches}
use Rattle.cyc_lower_proof.proofs.relation.simulation.Stacks.{in_temporary, LandsMade, ValueStack, code_of, bounds_at, types_on, floor, top, base_of}
use Rattle.cyc_lower_proof.proofs.relation.simulation.Shared.{silent}
use Rattle.cyc_lower_proof.proofs.relation.contents.Data.{Is-same, height-least, one_word, Holds-same, Holds-above, newest_there}
use Rattle.cyc_lower_proof.proofs.relation.contents.HandlerData.{data_written, floor-least}
use Rattle.cyc_lower_proof.proofs.relation.simulation.Accesses.{IsWell, is_fitting}
use Rattle.cyc_lower_proof.proofs.relation.contents.Counters.{counters-many, counted_before}
use Rattle.cyc_lower_proof.proofs.relation.contents.Sharing.{shared_less}
use Rattle.cyc_lower_proof.proofs.place_steps.PlaceWords.{add_is, stays, cell_kind, word_is}
use Rattle.cyc_lower_proof.proofs.relation.simulation.Paths.{Link, is_quiet, end_of, IsPath, end_joined, path_joined, by_path}
use Rattle.cyc_lower_proof.proofs.place_steps.WideCells.{stored, all_links, all_path, shared_stored, data_stored, Parts, parts_of, stage, above_stored, frames_stored}
use Rattle.cyc_lower_proof.proofs.pointer_steps.ElementWords.{scaled}
use Rattle.cyc_lower_proof.proofs.place_steps.CellWrites.{cell_is_there, with_word, saves_there, demand_there, shared_saved, data_saved, above_there, frames_there}
use Rattle.cyc_lower_proof.proofs.relation.code.Levels.{lands_arrays}
use Rattle.cyc_lower_proof.proofs.relation.simulation.Matched.{IsMatched, by_one, by_two, by_three, shared_way, shared_within}
use Rattle.cyc_lower_proof.proofs.value_steps.Landings.{IsStep, landed_made, made_moved}
use Rattle.cyc_lower_proof.proofs.object_steps.ArrayWords.{elements_few, most_is, scaled_is, scaled_word}
use Rattle.cyc_words.proofs.WordLemmas.{IsWord-add_of}
use Rattle.cyc_lower_proof.proofs.relation.places.Leads.{AreNamed}
use Rattle.cyc_lower_proof.proofs.relation.code.Moving.{Like, like_long, made_moves}
use Rattle.cyc_lower_proof.proofs.place_steps.KindWords.{saved_at, saves_by}

module _ (source : Program) (pages calls : ℕ) where
  -- ---- the elements

  -- After the last element of an array is written, the pointer to the array is moved to its slot.
  ends : (object count index level : ℕ) (wanted : Kind) (element : Expression) (k : List Entry) (e : Environment) (w : World) (c : Configuration) (d s q : ℕ) (there : Bool)
      → step source (Running (Repeating object count index level wanted element) k e w) ≡ gives kinds.Fat (Fat object 0 count 0) k e w → index ≡ count
      → (shared : SharedAt source pages calls k e w c) → DataIn source shared.tables c.active.slots k e w c → Is shared.tables kinds.Fat (Fat object 0 count index) c.active.slots (top source c.active.function k)
      → Holds shared.tables c.active.slots (floor source c.active.function k) (held k)
      → At (code_of source c.active.function) c.active.next (instructions.Branch comparisons.Equal (operands.Slot (top source c.active.function k + 2)) (operands.Slot (top source c.active.function k + 1)) s)
      → c.active.next < s → At (code_of source c.active.function) s (instructions.Move (top source c.active.function k + 2) (operands.Word 0)) → is_in (operands.Slot (top source c.active.function k)) d ≡ there
      → CopyBy (code_of source c.active.function) there 3 (operands.Slot (top source c.active.function k)) d (s + 1) q → LandsMade source c.active.function e.locals kinds.Fat d q c.frames k
      → IsMatched source pages calls (Running (Repeating object count index level wanted element) k e w) (plain.Running c)
  ends object count index level wanted element k e w c d s q there does last shared facts (part, long, now) holds branch before restart reported copy lands =
      by there reported copy
    where
      g : ℕ
      g = c.active.function

      t : ℕ
      t = top source c.active.function k

      v : Kinded
      v = record { kind = kinds.Fat; value = Fat object 0 count 0 }

      s1 : Words
      s1 = put c.active.slots (t + 2) 0

      c0 : Configuration
      c0 = at c s

      c1 : Configuration
      c1 = advanced (with_slots c0 s1)

      jumps : (choice : Choice) → performed (lower_program source) choice c (instructions.Branch comparisons.Equal (operands.Slot (t + 2)) (operands.Slot (t + 1)) s) ≡ plain.Running c0
      jumps choice = ap (λ b. plain_step.branches c b s) (eq-eqb (c.active.slots (t + 2)) (c.active.slots (t + 1)) (now ∙ last ∙ sym long))

      pointer : Is shared.tables kinds.Fat (Fat object 0 count 0) s1 t
      pointer = (
        subst (IsPartOf shared.tables object 0 count) (sym (put-other c.active.slots (t + 2) t 0 (λ same. omega (arith, same)))) part,
        put-other c.active.slots (t + 2) (t + 1) 0 (λ same. omega (arith, same)) ∙ long,
        put-same c.active.slots (t + 2) 0,
      )

      elsewhere : (m : ℕ) → Outside t 3 m → s1 m ≡ c.active.slots m
      elsewhere m (inl short) = put-other c.active.slots (t + 2) m 0 (λ same. omega (arith, same, short))
      elsewhere m (inr far) = put-other c.active.slots (t + 2) m 0 (λ same. omega (arith, same, far))

      by : (there : Bool) → is_in (operands.Slot t) d ≡ there → CopyBy (code_of source g) there 3 (operands.Slot t) d (s + 1) q
          → IsMatched source pages calls (Running (Repeating object count index level wanted element) k e w) (plain.Running c)
      by true reported end =
          let d_is : t ≡ d = eqb-true t d reported in
          by_two source pages calls c0 does shared shared branch jumps restart (λ same. omega (arith, same, before))
          (λ choice. landed_made source pages calls v s1 d k e w c0 q shared (subst (Is shared.tables kinds.Fat (Fat object 0 count 0) s1) d_is pointer)
          (λ m out. elsewhere m (subst (λ n. Outside n 3 m) (sym d_is) out)) facts holds end lands)
      by false reported (move, end) =
          by_three source pages calls c0 c1 does shared (shared_within source pages calls k e w c0 shared) (shared_way source pages calls (Repeating object count index level wanted element) k e w c0 shared)
          (shared_within source pages calls k e w c1 shared) (shared_way source pages calls (Repeating object count index level wanted element) k e w c1 shared)
          branch jumps restart (λ choice. refl) move (λ same. omega (arith, same, before)) (λ same. omega (arith, same, before)) (λ same. omega (arith, same))
          (λ choice. made_moved source pages calls v (operands.Slot t) d k e w c1 q choice shared pointer
          (data_written source shared.tables g c.active.base w.objects e.locals k c.active.slots s1 c.active.handlers c.globals c.frames t 3 (omega (arith, height-least (floor source g k) (held k))) elsewhere facts)
          (Holds-same shared.tables c.active.slots s1 (floor source g k) (held k) (λ m short. elsewhere m (inl (omega (arith, short)))) holds) end lands)

  -- The next element of an array is evaluated, or all elements have been written.
  pub repeating : (object count index level : ℕ) (wanted : Kind) (element : Expression) (k : List Entry) (e : Environment) (w : World) (c : Configuration)
      → IsStep source pages calls (Repeating object count index level wanted element) k e w c
  repeating object count index level wanted element k e w c well (shared, facts, (d, r, s, q, (part, long, now), inside, few, level_is, (branch, before, at_element, filled, restart, copy), holds, lands)) =
      by (index == count) refl
    where
      g : ℕ
      g = c.active.function

      inner : Environment
      inner = with_counter e level index

      stack : List Entry
      stack = Needs (FillElement object count index level wanted element) ∷ k

      by : (last : Bool) → (index == count) ≡ last → IsMatched source pages calls (Running (Repeating object count index level wanted element) k e w) (plain.Running c)
      by true reported =
          ends object count index level wanted element k e w c d s q (is_in (operands.Slot (top source g k)) d)
          (ap (λ (b : Bool). if b then gives kinds.Fat (Fat object 0 count 0) k e w else Running (Evaluating element) stack inner w) reported)
          (eqb-true index count reported) shared facts (part, long, now) holds branch before restart refl copy lands
      by false reported =
          let more : index < count = omega (arith, inside, not_equal) in
          let levels : level ≡ length (counters_of 0 k) = level_is ∙ counters-many (floor source g k) k in
          let nested : level ≡ arrays_in k = levels ∙ sym (lands_arrays source g e.locals kinds.Fat d q c.frames k lands) in
          let counted : SharedAt source pages calls stack inner w (at c (c.active.next + 1)) = record {
            tables = shared.tables;
            same_output = shared.same_output;
            same_input = shared.same_input;
            same_pages = shared.same_pages;
            related = shared.related;
            globals = shared.globals;
            variables = shared.variables;
            few_pages = shared.few_pages;
            fits = shared.fits;
            counters = (((nested, levels, newest_there e.counters level index), counted_before e.counters level index k (omega (arith, nested)) shared.counters.0), shared.counters.1);
          } in
          by_one source pages calls
          (ap (λ (b : Bool). if b then gives kinds.Fat (Fat object 0 count 0) k e w else Running (Evaluating element) stack inner w) reported) shared branch
          (λ choice. subst (λ b. Matches source pages calls (Running (Evaluating element) stack inner w) (plain_step.branches c b s))
          (sym (ap (λ x. x == c.active.slots (top source g k + 1)) now ∙ ap (λ x. index == x) long ∙ reported)) (
            counted,
            facts,
            into_slot (top source g k + 3) r at_element ((part, long, now), holds)
                (in_temporary (omega arith) (d, c.active.next, s, q, refl, more, few, level_is, (branch, before, at_element, filled, restart, copy), lands)),
          ))
        where
          not_equal : index ≢ count
          not_equal same = let f : false ≡ true = sym reported ∙ eq-eqb index count same in cc

  -- ---- an element

  module _ (object count index level : ℕ) (wanted : Kind) (element : Expression) (v : Kinded) (k : List Entry) (e : Environment) (w : World) (c : Configuration)
      (words : plain.HoldsWords (plain.Running c)) (names : AreNamed source e.locals (callers k) w c.active.function c.active.base c.frames c.store) (shared₀ : SharedAt source pages calls (Needs (FillElement object count index level wanted element) ∷ k) e w c)
      (facts : DataIn source shared₀.tables c.active.slots k e w c) (part : IsPartOf shared₀.tables object 0 count (c.active.slots (top source c.active.function k)))
      (long : c.active.slots (top source c.active.function k + 1) ≡ count) (now : c.active.slots (top source c.active.function k + 2) ≡ index)
      (holds : Holds shared₀.tables c.active.slots (floor source c.active.function k) (held k)) (d h s q : ℕ) (inside : index < count) (few : words_for (count * bytes_of_kind wanted) ≤ MOST_BLOCK_WORDS)
      (level_is : level ≡ length (counters_of (floor source c.active.function k) k))
      (elements : ElementsAt (code_of source c.active.function) (bounds_at source c.active.function) (types_on source c.active.function k) element wanted (top source c.active.function k) d h c.active.next s q)
      (lands : LandsMade source c.active.function e.locals kinds.Fat d q c.frames k) (cell : Located) (found : cell_at w object index ≡ Found cell) (same : cell.cell.kind ≡ wanted) (fits : v.kind ≡ wanted)
      (does : step source (Running (Given v) (Needs (FillElement object count index level wanted element) ∷ k) e w)
      ≡ Running (Repeating object count (suc index) level wanted element) k e (written w object index cell v.value)) where
    abbrev g : ℕ
    g = c.active.function

    abbrev free : ℕ
    free = top source g k

    abbrev own : ℕ
    own = words_of_kind wanted

    abbrev z : ℕ
    z = free + 3 + own

    abbrev slots : Words
    slots = c.active.slots

    abbrev entry : Entry
    entry = Needs (FillElement object count index level wanted element)

    abbrev shared : SharedAt source pages calls k e w c
    shared = shared_less source None pages calls (FillElement object count index level wanted element) k e w c shared₀

    abbrev new : World
    new = written w object index cell v.value

    abbrev bytes : ℕ
    bytes = scaled (bytes_of_kind wanted) (slots (free + 2))

    abbrev s1 : Words
    s1 = put slots z bytes

    abbrev s2 : Words
    s2 = put s1 z (add_of (s1 free) (s1 z))

    abbrev c1 : Configuration
    c1 = advanced (with_slots c s1)

    abbrev c2 : Configuration
    c2 = advanced (with_slots c1 s2)

    outside_one : (slots : Words) (n m x : ℕ) → Outside n 1 m → put slots n x m ≡ slots m
    outside_one slots n m x (inl short) = put-other slots n m x (λ e. omega (arith, e, short))
    outside_one slots n m x (inr far) = put-other slots n m x (λ e. omega (arith, e, far))

    outside_both : (m : ℕ) → Outside z 1 m → s2 m ≡ slots m
    outside_both m out = outside_one s1 z m (add_of (s1 free) (s1 z)) out ∙ outside_one slots z m bytes out

    early : (m : ℕ) → m < z → s2 m ≡ slots m
    early m less = outside_both m (inl less)

    -- The computed address points to the cell of the array element.
    points : Points shared.tables object index (slots free + index * bytes_of_kind wanted)
    points =
        subst (λ kind. Points shared.tables object index (slots free + index * bytes_of_kind kind)) same
        (subst (λ n. Points shared.tables object n (slots free + index * bytes_of_kind cell.cell.kind)) first_index
        (element-found shared.related index cell part inside (ap (cell_at w object) first_index ∙ found)))
      where
        first_index : 0 + index ≡ index
        first_index = omega arith

    -- The code computes the address of the array element's cell into a slot.
    place : s2 z ≡ slots free + index * bytes_of_kind wanted
    place =
        put-same s1 z (add_of (s1 free) (s1 z)) ∙ ap (λ n. add_of n (s1 z)) (outside_one slots z free bytes (inl (omega arith)))
        ∙ ap (add_of (slots free)) (put-same slots z bytes ∙ ap (scaled (bytes_of_kind wanted)) now ∙ scaled_is wanted index (omega (arith, inside, elements_few wanted count few, most_is wanted)))
        ∙ add_is (slots free) (index * bytes_of_kind wanted) (pointer-word points)

    here : Points shared.tables object index (s2 z)
    here = subst (Points shared.tables object index) (sym place) points

    scales : (choice : Choice) → performed (lower_program source) choice c (scale_of (bytes_of_kind wanted) z (free + 2)) ≡ plain.Running c1
    scales choice = by (bytes_of_kind wanted == 4) (bytes_of_kind wanted == 1)
      where
        by : (narrow one : Bool)
            → performed (lower_program source) choice c
            (if narrow then instructions.Binary plain_binary.ShiftLeft z (operands.Slot (free + 2)) (operands.Word 2) else if one then instructions.Move z (operands.Slot (free + 2)) else instructions.Binary plain_binary.Multiply z (operands.Slot (free + 2)) (operands.Word 12))
            ≡ plain.Running (advanced (with_slots c (put slots z (if narrow then shl_of (slots (free + 2)) 2 else if one then slots (free + 2) else mul_of (slots (free + 2)) 12))))
        by true one = refl
        by false true = refl
        by false false = refl

    facts_there : DataIn source shared.tables s2 k e w c2
    facts_there = data_written source shared.tables g c.active.base w.objects e.locals k slots s2 c.active.handlers c.globals c.frames z 1 (omega (arith, height-least (floor source g k) (held k))) outside_both facts

    -- The configuration at instruction m of the code, after a store instruction has changed the heap store, the globals or the
    -- slots of locals.
    abbrev reached : Parts → (m : ℕ) → Configuration
    reached s m = stage c2 s m

    -- A path of instructions stores the words of an array element in its cell, and then increments the index of the element.
    goes_on : (m : ℕ) (parts : Parts) (links : List Link) → end_of c2 links ≡ reached parts m → IsPath source c2 links
        → At (code_of source g) m (instructions.Binary plain_binary.Add (free + 2) (operands.Slot (free + 2)) (operands.Word 1)) → At (code_of source g) (m + 1) (instructions.Jump h)
        → objects.Related shared.tables (silent new) parts.store → parts.store.pages ≡ pages → demand parts.store ≤ pages
        → Like source c.frames parts.frames → ((n : ℕ) → base_of source g ≤ n → parts.slots n ≡ s2 n) → DataIn source shared.tables parts.slots k e new (reached parts m)
        → IsMatched source pages calls (Running (Given v) (entry ∷ k) e w) (plain.Running c)
    goes_on m parts links ends path count_up jump related same_pages few_pages like stands facts_later =
        let (branch, before, at_element, (p, scale, sum, stores, next_up, next_jump, end), restart, copy) = elements in
        let least : base_of source g ≤ free = omega (arith, floor-least source g k, height-least (floor source g k) (held k)) in
        let late : (n : ℕ) → free ≤ n → n < z → parts.slots n ≡ slots n = λ n from less. stands n (omega (arith, from, least)) ∙ early n less in
        let s3 = put parts.slots (free + 2) (add_of (parts.slots (free + 2)) 1) in
        let c3 = reached parts m in
        let c4 = advanced (with_slots c3 s3) in
        let next = Running (Repeating object count (suc index) level wanted element) k e new in
        let up : (x : ℕ) → Outside (free + 2) 1 x → s3 x ≡ parts.slots x = λ x out. outside_one parts.slots (free + 2) x (add_of (parts.slots (free + 2)) 1) out in
        let index_is : s3 (free + 2) ≡ suc index
        = put-same parts.slots (free + 2) (add_of (parts.slots (free + 2)) 1) ∙ ap (λ n. add_of n 1) (late (free + 2) (omega arith) (omega arith) ∙ now) ∙ add_is index 1 (omega (arith, inside, elements_few wanted count few, most_is wanted)) ∙ one_more index in
        let later : SharedAt source pages calls k e new (reached parts m)
        = record {
          tables = shared.tables;
          same_output = shared.same_output;
          same_input = shared.same_input;
          related = related;
          same_pages = same_pages;
          globals = shared.globals;
          variables = shared.variables;
          few_pages = few_pages;
          fits = subst (λ n. suc n ≤ calls) (sym (like_long source c.frames parts.frames like)) shared.fits;
          counters = shared.counters;
        } in
        let matches : Matches source pages calls next (plain.Running (at c4 h)) = (
          later,
          data_written source shared.tables g c.active.base new.objects e.locals k parts.slots s3 c.active.handlers parts.globals parts.frames (free + 2) 1 (omega (arith, height-least (floor source g k) (held k))) up facts_later,
          (
            d,
            c.active.next,
            s,
            q,
            (
              subst (IsPartOf shared.tables object 0 count) (sym (up free (inl (omega arith)) ∙ late free (omega arith) (omega arith))) part,
              up (free + 1) (inl (omega arith)) ∙ late (free + 1) (omega arith) (omega arith) ∙ long,
              index_is,
            ),
            omega (arith, inside),
            few,
            level_is,
            elements,
            Holds-same shared.tables parts.slots s3 (floor source g k) (held k) (λ x less. up x (inl (omega (arith, less))))
                (Holds-above shared.tables s2 parts.slots (floor source g k) (held k) (λ x from. stands x (omega (arith, from, floor-least source g k)))
                (Holds-same shared.tables slots s2 (floor source g k) (held k) (λ x less. early x (omega (arith, less))) holds)),
            made_moves source g e.locals kinds.Fat d q c.frames parts.frames like k lands,
          ),
        ) in
        let counts : Link = record { instruction = instructions.Binary plain_binary.Add (free + 2) (operands.Slot (free + 2)) (operands.Word 1); following = c4 } in
        let end_is : end_of c2 (links ++ counts ∷ []) ≡ c4 = end_joined c2 links (counts ∷ []) in
        by_path source pages calls (Given v) (entry ∷ k) e w c next
        (record { instruction = scale_of (bytes_of_kind wanted) z (free + 2); following = c1 } ∷ record { instruction = instructions.Binary plain_binary.Add z (operands.Slot free) (operands.Slot z); following = c2 } ∷ (links ++ counts ∷ []))
        (instructions.Jump h) does shared₀ (
          scale,
          scales,
          omega arith,
          is_quiet c c1.active,
          (
            sum,
            (λ choice. refl),
            omega arith,
            is_quiet c1 c2.active,
            path_joined source c2 links (counts ∷ []) path (subst (λ x. IsPath source x (counts ∷ [])) (sym ends) (count_up, (λ choice. refl), omega arith, is_quiet c3 c4.active, tt)),
          ),
        )
        (subst (λ (x : Configuration). At (code_of source x.active.function) x.active.next (instructions.Jump h)) (sym end_is) jump)
        (λ choice. subst (λ (x : Configuration). Matches source pages calls next (performed (lower_program source) choice x (instructions.Jump h))) (sym end_is) matches)
      where
        one_more : (n : ℕ) → n + 1 ≡ suc n
        one_more n = omega arith

    -- The step that writes an array element of one word.
    fills_word : own ≡ 1 → Is shared.tables v.kind v.value slots (free + 3) → IsMatched source pages calls (Running (Given v) (entry ∷ k) e w) (plain.Running c)
    fills_word one is =
        let (branch, before, at_element, (m, scale, sum, stores, count_up, jump, end), restart, copy) = elements in
        let (store, last) = subst (λ n. StoresAt (code_of source g) (bounds_at source g) (types_on source g k) wanted n z 0 (free + 3) (c.active.next + 1 + 1) m) one stores in
        let address = add_of (s2 z) 0 in
        let word = s2 (free + 3) in
        let there : Points shared.tables object index address = stays here in
        let word_is : word ≡ slots (free + 3) = early (free + 3) (omega (arith, one)) in
        let value : IsWord shared.tables cell.cell.kind v.value word
        = subst (λ i. IsWord shared.tables i v.value word) (fits ∙ sym same)
        (subst (IsWord shared.tables v.kind v.value) (sym word_is) (one_word shared.tables v.kind v.value slots (free + 3) (ap words_of_kind fits ∙ one) is)) in
        let machine : IsMachineWord word = subst IsMachineWord (sym word_is) (words.0 (free + 3)) in
        let after = with_word source pages calls k e w c2 shared names facts_there object index address word cell v.value found there value machine in
        let kept : SharedAt source pages calls k e new (advanced after) = shared_saved source pages calls k e w c2 shared names facts_there object index address word cell v.value found there value machine in
        let saves_it = saves_there source pages calls k e w c2 shared names facts_there object index address word cell v.value found there value machine in
        goes_on m (parts_of after) (record { instruction = store_of wanted (operands.Slot z) 0 (operands.Slot (free + 3)); following = advanced after } ∷ [])
        (ap (reached (parts_of after)) last) (
          store,
          (λ choice. saves_by (lower_program source) choice c2 wanted (operands.Slot z) 0 (operands.Slot (free + 3))
              ∙ ap (λ (i : Kind). saved_at (lower_program source) i c2 address word) (sym same) ∙ saves_it),
          omega arith,
          record { seen = refl; demand = demand_there source pages calls k e w c2 shared names facts_there object index address word cell v.value found there value machine; frames = like_long source c.frames after.frames (frames_there source pages calls k e w c2 shared names facts_there object index address word cell v.value found there value machine) },
          tt,
        )
        count_up jump (shared_saved source pages calls k e w c2 shared names facts_there object index address word cell v.value found there value machine).related kept.same_pages kept.few_pages
        (frames_there source pages calls k e w c2 shared names facts_there object index address word cell v.value found there value machine)
        (λ n least. above_there source pages calls k e w c2 shared names facts_there object index address word cell v.value found there value machine n least)
        (data_saved source pages calls k e w c2 shared names facts_there object index address word cell v.value found there value machine)

    -- The slots still contain 32-bit words after one slot has received the address of the cell.
    words_there : plain.HoldsWords (plain.Running c2)
    words_there = (with_slot s1 (add_of (s1 free) (s1 z)) (with_slot slots bytes words.0 (scaled_word wanted (slots (free + 2)) (words.0 (free + 2)))) (IsWord-add_of (s1 free) (s1 z)), words.1, words.2, words.3, words.4)
      where
        with_slot : (slots : Words) (x : ℕ) → ((m : ℕ) → IsMachineWord (slots m)) → IsMachineWord x → (m : ℕ) → IsMachineWord (put slots z x m)
        with_slot slots x are is m = elim (cases_eq m z) [
          | inl same ↦ subst (λ n. IsMachineWord (put slots z x n)) (sym same) (subst IsMachineWord (sym (put-same slots z x)) is)
          | inr other ↦ subst IsMachineWord (sym (put-other slots z m x other)) (are m)
        ]

    -- The step that writes an array element of three words.
    fills_words : wanted ≡ kinds.Fat → Is shared.tables v.kind v.value slots (free + 3) → IsMatched source pages calls (Running (Given v) (entry ∷ k) e w) (plain.Running c)
    fills_words fat is =
        let (branch, before, at_element, (m, scale, sum, stores, count_up, jump, end), restart, copy) = elements in
        let three : own ≡ 3 = ap words_of_kind fat in
        let (at_first, (at_second, (at_third, last))) = subst (λ (i : Kind). StoresAt (code_of source g) (bounds_at source g) (types_on source g k) i (words_of_kind i) z 0 (free + 3) (c.active.next + 1 + 1) m) fat stores in
        let wide = same ∙ fat in
        let fat_is : Is shared.tables kinds.Fat v.value s2 (free + 3)
        = Is-same shared.tables kinds.Fat v.value slots s2 (free + 3) (free + 3) (λ i below. early (free + 3 + i) (omega (arith, three, below))) (subst (λ i. Is shared.tables i v.value slots (free + 3)) (fits ∙ fat) is) in
        let kind_there = cell_kind shared.related cell here found in
        let following : (j : ℕ) → j < 3 → add_of (s2 z) (4 * j) ≡ s2 z + 4 * j = λ j below. word_is here cell.cell.kind j kind_there (omega (arith, below, ap words_of_kind wide)) in
        let three_high : base_of source g ≤ free + 3 = omega (arith, floor-least source g k, height-least (floor source g k) (held k)) in
        let z_high : base_of source g ≤ z = omega (arith, three_high) in
        let first = following 0 (omega arith) in
        let second = following 1 (omega arith) in
        let third = following 2 (omega arith) in
        let after = stored source pages calls k e w c2 shared names facts_there object index (s2 z) z 0 (free + 3) z_high (inl three_high) cell v.value found here wide fat_is words_there first second third in
        let kept : SharedAt source pages calls k e new after = shared_stored source pages calls k e w c2 shared names facts_there object index (s2 z) z 0 (free + 3) z_high (inl three_high) cell v.value found here wide fat_is words_there first second third in
        goes_on m (parts_of after) (all_links source pages calls k e w c2 shared names facts_there object index (s2 z) z 0 (free + 3) z_high (inl three_high) cell v.value found here wide fat_is words_there first second third) (ap (reached (parts_of after)) last)
        (all_path source pages calls k e w c2 shared names facts_there object index (s2 z) z 0 (free + 3) z_high (inl three_high) cell v.value found here wide fat_is words_there first second third at_first at_second at_third)
        count_up jump (shared_stored source pages calls k e w c2 shared names facts_there object index (s2 z) z 0 (free + 3) z_high (inl three_high) cell v.value found here wide fat_is words_there first second third).related kept.same_pages kept.few_pages
        (frames_stored source pages calls k e w c2 shared names facts_there object index (s2 z) z 0 (free + 3) z_high (inl three_high) cell v.value found here wide fat_is words_there first second third)
        (λ n least. above_stored source pages calls k e w c2 shared names facts_there object index (s2 z) z 0 (free + 3) z_high (inl three_high) cell v.value found here wide fat_is words_there first second third n least)
        (data_stored source pages calls k e w c2 shared names facts_there object index (s2 z) z 0 (free + 3) z_high (inl three_high) cell v.value found here wide fat_is words_there first second third)

    fills : (narrow : Bool) → (own == 1) ≡ narrow → Is shared.tables v.kind v.value slots (free + 3) → IsMatched source pages calls (Running (Given v) (entry ∷ k) e w) (plain.Running c)
    fills true narrow is = fills_word (eqb-true own 1 narrow) is
    fills false wide is = fills_words (wide_kind wanted wide) is

  -- The array element is written, and then the index is incremented.
  pub array_filled : (object count index level : ℕ) (wanted : Kind) (element : Expression) (v : Kinded) (o : Operand) (k : List Entry) (e : Environment) (w : World) (c : Configuration) → plain.HoldsWords (plain.Running c) → AreNamed source e.locals (callers k) w c.active.function c.active.base c.frames c.store
      → IsWell (step source (Running (Given v) (Needs (FillElement object count index level wanted element) ∷ k) e w))
      → (shared : SharedAt source pages calls (Needs (FillElement object count index level wanted element) ∷ k) e w c) → DataIn source shared.tables c.active.slots k e w c
      → IsIn shared.tables v c.active.slots o → Holds shared.tables c.active.slots (floor source c.active.function k) (held (Needs (FillElement object count index level wanted element) ∷ k))
      → ValueStack source c.active.function e.locals v.kind o c.active.next c.frames (Needs (FillElement object count index level wanted element) ∷ k)
      → IsMatched source pages calls (Running (Given v) (Needs (FillElement object count index level wanted element) ∷ k) e w) (plain.Running c)
  array_filled object count index level wanted element v o k e w c words names well shared facts is ((part, long, now), holds) (d, h, s, q, there, inside, few, level_is, elements, lands) =
      let following : Focus = Repeating object count (suc index) level wanted element in
      let fitting = is_fitting (is_kind v.kind wanted) (stored_in (cell_at w object index) object index v following k e w) w well in
      let does : step source (Running (Given v) (Needs (FillElement object count index level wanted element) ∷ k) e w) ≡ stored_in (cell_at w object index) object index v following k e w
      = ap (λ (b : Bool). if b then stored_in (cell_at w object index) object index v following k e w else wrong w) fitting in
      let (cell, found, same, goes) = cell_is_there (cell_at w object index) object index v following k e w (subst IsWell does well) in
      let fits = same_kind v.kind wanted fitting in
      fills object count index level wanted element v k e w c words names shared facts part long now holds d h s q inside few level_is elements lands cell found (same ∙ fits) fits (does ∙ goes)
      (words_of_kind wanted == 1) refl (subst (IsIn shared.tables v c.active.slots) there is)
