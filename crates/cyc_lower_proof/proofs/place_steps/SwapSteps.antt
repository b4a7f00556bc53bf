-- This file proves the steps of a swap `:=:`: both operands are evaluated, both values are read, and then both values are written.
-- Each operand is a local, a global or a cell.
use Rattle.std.proofs.Common.{◌≡◌, ℕ, zero, suc, ◌+◌, ◌*◌, ◌≤◌, ◌<◌, Bool, true, false, List, [], ◌∷◌, length, Option, None, Some, refl, sym, ap, subst, ◌∙◌, arith, inl, inr}
use Rattle.std.specs.Prelude.{◌==◌, if◌then◌else◌}
use Rattle.std.proofs.lemmas.Bool.{eqb-true}
use Rattle.std.proofs.lemmas.Option.{same_Some}
use Rattle.cyc_words.specs.Word.{add_of}
use Rattle.cyc_types.specs.declared.typed.Kind.{Kind}
use Rattle.cyc_types.specs.declared.typed.Kind.TheVariants as kinds
use Rattle.cyc_types.specs.TypedTrees.{Local, Global, Dereference, Side, VariableSide, CellSide, type_of_place, peeked, Swap, Program}
use Rattle.cyc_plain.specs.declared.instruction.Operand.TheVariants as operands
use Rattle.cyc_plain.specs.inside.State as plain
use Rattle.cyc_plain.specs.inside.State.{Words, put, Configuration}
use Rattle.cyc_plain.specs.inside.Step.{with_slots, advanced, at}
use Rattle.cyc_plain.proofs.SlotLaws.{put-same}
use Rattle.cyc_meaning.specs.Values.{Value, Thin, Operand as Kinded, is_kind, kind_of, words_of_kind}
use Rattle.cyc_meaning.specs.State.{World, Access, Found, Closed, Missing, Located, cell_at, written, Environment, SwapLeft, SwapRight, Entry, NeedsPlace, Write, Focus, Locating, GivenPlace, Executing, Proceeding, Writing, Swapping, State, Running}
use Rattle.cyc_meaning.specs.Step.{wrong, stored_at, object_of, step}
use Rattle.cyc_meaning.specs.Swaps.{finds_right_object, finds_left_object, swap_read, swap_content, swap_loaded}
use Rattle.cyc_memory_relation.specs.inside.Tables.{Tables}
use Rattle.cyc_memory_relation.specs.inside.Words.{Points, Is}
use Rattle.cyc_lower_proof.specs.declared.exits.Exits.{Exits}
use Rattle.cyc_lower_proof.specs.inside.ValueCode.{move_of, load_word}
use Rattle.cyc_lower_proof.specs.inside.ObjectCode.{right_slot, load_at}
use Rattle.cyc_lower_proof.specs.inside.Lowering.{lower_program}
use Rattle.cyc_lower_proof.specs.inside.Slots.{slot_of, global_of, global_types}
use Rattle.cyc_lower_proof.proofs.slots.Widths.{same_kind, kind_positive, wide_kind, Outside}
use Rattle.cyc_lower_proof.proofs.slots.Slots.{slot-room, global-inside}
use Rattle.cyc_lower_proof.proofs.relation.contents.Moves.{put_elsewhere, moved_slots, moves, moved_elsewhere, moved_is}
use Rattle.cyc_lower_proof.proofs.relation.simulation.Weights.{focus_weight, stack_weight}
use Rattle.cyc_lower_proof.proofs.relation.code.Stands.{EachAt, StoresAt, PlaceAt}
use Rattle.cyc_lower_proof.proofs.relation.code.Statements.{HasSide, SideAt, ReadAt, WriteAt, ExchangeAt}
use Rattle.cyc_lower_proof.proofs.relation.contents.HeldValues.{IsWord, Holds, held, contents, callers, IsCharAt}
use Rattle.cyc_lower_proof.proofs.relation.simulation.Relation.{following_statement, DataIn, SharedAt, Matches}
use Rattle.cyc_lower_proof.proofs.relation.simulation.Stacks.{base_of, floor, IsSideAt, IsLeft, WritesAt, StatementStack, code_of, bounds_at, types_at, starts_at, base_of}
use Rattle.cyc_lower_proof.proofs.relation.contents.Data.{Is-same, one_word, data_assigned, data_assigned_global}
use Rattle.cyc_lower_proof.proofs.relation.contents.HandlerData.{data_written, handlers_beside, floor-least}
use Rattle.cyc_lower_proof.proofs.relation.contents.Sharing.{shared_written, shared_beside}
use Rattle.cyc_lower_proof.proofs.relation.simulation.Accesses.{IsWell, is_stored, written_here, written_elsewhere, written_length}
use Rattle.cyc_lower_proof.proofs.place_steps.CellWrites.{cell_is_there, saves_there, shared_saved, data_saved, with_word, above_there, frames_there}
use Rattle.cyc_lower_proof.proofs.place_steps.PlaceWords.{stays, cell_kind, word_is}
use Rattle.cyc_lower_proof.proofs.relation.simulation.Paths.{Link, is_quiet, end_of, IsPath}
use Rattle.cyc_lower_proof.proofs.value_steps.GlobalSteps.{each_put, each-outside, each_is, load_links, load_end, load_path, stored_globals, stored_elsewhere, stored_is, global_links, is_stored_by, by_links}
use Rattle.cyc_lower_proof.proofs.place_steps.CellLoads.{word_links, word_end, word_path}
use Rattle.cyc_lower_proof.proofs.place_steps.WideCells.{all_links, all_path, shared_stored, data_stored, stored, above_stored, frames_stored}
use Rattle.cyc_lower_proof.proofs.place_steps.AddressSteps.{Brought, in_slot, by_word}
use Rattle.cyc_lower_proof.proofs.relation.simulation.Matched.{IsMatched, silently, by_one}
use Rattle.cyc_lower_proof.proofs.value_steps.Landings.{IsStep, object_of_same}
use Rattle.cyc_lower_proof.proofs.place_steps.CellReads.{held_there, cell_reads, read_there, low_same}
use Rattle.cyc_lower_proof.proofs.relation.places.Known.{IsGlobalRow}
use Rattle.cyc_lower_proof.proofs.relation.places.Rows.{local-row, char_cell}
use Rattle.cyc_lower_proof.proofs.relation.places.Leads.{AreNamed}
use Rattle.cyc_lower_proof.proofs.relation.code.Moving.{statement_moves}
use Rattle.cyc_lower_proof.proofs.place_steps.KindWords.{loaded_at, saved_at, saves_by}

-- ---- the values that a swap reads

-- The cell that is one operand of a swap, and the value stored in this cell.
pub record IsSwapped (kind : Kind) (found : Access Located) (left right : Value) (before : Option Kinded) (k : List Entry) (e : Environment) (w : World) : Type 0 where
  pub at : Located
  pub there : found ≡ Found at
  pub same : at.cell.kind ≡ kind
  pub value : Value
  pub has : at.cell.content ≡ Some value
  pub gives : swap_loaded kind left right before found k e w ≡ swap_read kind left right before value k e w

is_swapped : (kind : Kind) (found : Access Located) (left right : Value) (before : Option Kinded) (k : List Entry) (e : Environment) (w : World) → IsWell (swap_loaded kind left right before found k e w)
    → IsSwapped kind found left right before k e w
is_swapped kind Closed left right before k e w well = absurd (well refl)
is_swapped kind Missing left right before k e w well = absurd (well refl)
is_swapped kind (Found at) left right before k e w well =
    let (same, v, has, gives) = by (is_kind at.cell.kind kind) at.cell.content refl well in
    record { at = at; there = refl; same = same; value = v; has = has; gives = gives }
  where
    by : (fits : Bool) (content : Option Value) → is_kind at.cell.kind kind ≡ fits → IsWell (if fits then swap_content kind left right before content k e w else wrong w)
        → (at.cell.kind ≡ kind) × (v : Value) × (content ≡ Some v) × ((if fits then swap_content kind left right before content k e w else wrong w) ≡ swap_read kind left right before v k e w)
    by false content reported well = absurd (well refl)
    by true None reported well = absurd (well refl)
    by true (Some v) reported well = (same_kind at.cell.kind kind reported, v, refl, refl)

module _ (source : Program) (pages calls : ℕ) where
  -- ---- sides stay in place

  side_same : (t : Tables) (locals : ℕ → Option ℕ) (slots other : Words) (a : Side) (s object offset : ℕ) → other s ≡ slots s → IsSideAt source t locals slots a s object offset → IsSideAt source t locals other a s object offset
  side_same t locals slots other (VariableSide l ty) s object offset same is = is
  side_same t locals slots other (CellSide x) s object offset same is = subst (Points t object offset) (sym same) is

  writes_same : (t : Tables) (locals : ℕ → Option ℕ) (g : ℕ) (slots other : Words) (writes : List Write) (p q : ℕ) → ((m : ℕ) → base_of source g ≤ m → other m ≡ slots m)
      → WritesAt source t locals g slots writes p q → WritesAt source t locals g other writes p q
  writes_same t locals g slots other [] p q same at = at
  writes_same t locals g slots other (x ∷ writes) p q same (a, object, offset, s, v, r, here, has, high, above, place, is, value, rest) = (
    a,
    object,
    offset,
    s,
    v,
    r,
    here,
    has,
    high,
    above,
    place,
    side_same t locals slots other a s object offset (same s high) is,
    Is-same t x.operand.kind x.operand.value slots other v v (λ i below. same (v + i) (omega (arith, above))) value,
    writes_same t locals g slots other writes r q same rest,
  )

  -- ---- reading a side

  -- Says that instructions load the words of one operand of a swap into slots from d on.
  pub record IsSideRead (t : Tables) (kind : Kind) (v : Value) (d q : ℕ) (c : Configuration) : Type 0 where
    pub links : List Link
    pub some : 0 < length links
    pub path : IsPath source c links
    pub slots : Words
    pub leads : end_of c links ≡ at (with_slots c slots) q
    pub is : Is t kind v slots d
    pub elsewhere : (m : ℕ) → Outside d (words_of_kind kind) m → slots m ≡ c.active.slots m

  -- The instructions that load the words of a global.
  reads_global : (t : Tables) (kind : Kind) (v : Value) (first d q words : ℕ) (c : Configuration) → 1 ≤ words → words_of_kind kind ≡ words → Is t kind v c.globals first
      → EachAt (code_of source c.active.function) load_word words first d c.active.next q → IsSideRead t kind v d q c
  reads_global t kind v first d q zero c some wide is here = absurd (omega (arith, some))
  reads_global t kind v first d q (suc words) c some wide is here =
      let (path, end) = load_path source c (suc words) first d q here in
      let slots = each_put c.globals c.active.slots (suc words) first d in
      let last : c.active.next + words + 1 ≡ q = omega (arith, end) in
      record {
        links = load_links c (suc words) first d;
        some = omega arith;
        path = path;
        slots = slots;
        leads = load_end c words first d ∙ ap (λ (n : ℕ). at (with_slots c slots) n) last;
        is = each_is t (record { kind = kind; value = v }) c.globals c.active.slots (suc words) first d wide is;
        elsewhere = λ m out. each-outside c.globals c.active.slots (suc words) first d m (subst (λ n. Outside d n m) wide out);
      }

  -- The instructions that load the words of a cell through the address in slot s.
  reads_cell : (t : Tables) (kind : Kind) (v : Value) (address s d q words bound : ℕ) (c : Configuration) → 1 ≤ words → words_of_kind kind ≡ words → c.active.slots s ≡ address → s < d → bound ≤ d
      → (word : ℕ → ℕ) → ((slots : Words) (next j : ℕ) → ((n : ℕ) → n < bound → slots n ≡ c.active.slots n) → j < words → loaded_at (lower_program source) kind (at (with_slots c slots) next) (add_of address (4 * j)) ≡ Some (word j)) → Is t kind v word 0
      → EachAt (code_of source c.active.function) (load_at kind s) words 0 d c.active.next q → IsSideRead t kind v d q c
  reads_cell t kind v address s d q zero bound c some wide same before least word there is here = absurd (omega (arith, some))
  reads_cell t kind v address s d q (suc words) bound c some wide same before least word there is here =
      let (path, end) = word_path source kind word c address (suc words) 0 s d q bound same before least (λ slots next j low below. there slots next j low (omega (arith, below))) here in
      let slots = each_put word c.active.slots (suc words) 0 d in
      let last : c.active.next + words + 1 ≡ q = omega (arith, end) in
      record {
        links = word_links kind word c (suc words) 0 s d;
        some = omega arith;
        path = path;
        slots = slots;
        leads = word_end kind word c words 0 s d ∙ ap (λ (n : ℕ). at (with_slots c slots) n) last;
        is = each_is t (record { kind = kind; value = v }) word c.active.slots (suc words) 0 d wide is;
        elsewhere = λ m out. each-outside word c.active.slots (suc words) 0 d m (subst (λ n. Outside d n m) wide out);
      }

  reads_side : (a : Side) (s d q object offset : ℕ) (kind : Kind) (v : Value) (k : List Entry) (e : Environment) (w : World) (c : Configuration) (shared : SharedAt source pages calls k e w c)
      → DataIn source shared.tables c.active.slots k e w c → (found : Located) → cell_at w object offset ≡ Found found → found.cell.kind ≡ kind → found.cell.content ≡ Some v → s < d → base_of source c.active.function ≤ d → AreNamed source e.locals (callers k) w c.active.function c.active.base c.frames c.store
      → IsSideAt source shared.tables e.locals c.active.slots a s object offset → HasSide (code_of source c.active.function) (bounds_at source c.active.function) (types_at source c.active.function) a kind
      → ReadAt (code_of source c.active.function) (bounds_at source c.active.function) (types_at source c.active.function) a kind s d c.active.next q → IsSideRead shared.tables kind v d q c
  reads_side (VariableSide (Local p n) ty) s d q object offset kind v k e w c shared facts found there same has before least names (first, is_there) room (here, end) =
      let g = c.active.function in
      let slot = slot_of (starts_at source g) n in
      let x : Kinded = record { kind = kind; value = v } in
      let holds = held_there w object found kind v (subst (λ i. cell_at w object i ≡ Found found) first there) same has in
      let slots = moved_slots c.active.slots (words_of_kind kind) d (operands.Slot slot) in
      record {
        links = record { instruction = move_of (words_of_kind kind) d (operands.Slot slot); following = advanced (with_slots c slots) } ∷ [];
        some = omega arith;
        path = (here, (λ choice. moves (lower_program source) choice c (words_of_kind kind) d (operands.Slot slot)), omega arith, is_quiet c (advanced (with_slots c slots)).active, tt);
        slots = slots;
        leads = ap (λ (n : ℕ). at (with_slots c slots) n) end;
        is = moved_is shared.tables x c.active.slots d (operands.Slot slot) (facts.0.2.holds n object x is_there holds).0;
        elsewhere = λ m out. moved_elsewhere c.active.slots (words_of_kind kind) d (operands.Slot slot) m (kind_positive kind) out;
      }
  reads_side (VariableSide (Global n) ty) s d q object offset kind v k e w c shared facts found there same has before least names (first, is_there) room (inside, here) =
      let x : Kinded = record { kind = kind; value = v } in
      let holds = held_there w object found kind v (subst (λ i. cell_at w object i ≡ Found found) first there) same has in
      let is_n : n ≡ object = same_Some n object is_there in
      reads_global shared.tables kind v (global_of (starts_at source c.active.function) n) d q (words_of_kind kind) c (kind_positive kind) refl
      ((facts.0.4 n inside).1 x (ap (contents w.objects) is_n ∙ holds)).0 here
  reads_side (CellSide x) s d q object offset kind v k e w c shared facts found there same has before least names points none here =
      let g = c.active.function in
      let address = c.active.slots s in
      let reads = cell_reads source c shared.related names facts.0 object offset address found there points in
      reads_cell shared.tables kind v address s d q (words_of_kind kind) (base_of source g) c (kind_positive kind) refl refl before least reads.word
      (λ slots next j low below. sym (ap (λ (i : Kind). loaded_at (lower_program source) i (at (with_slots c slots) next) (add_of address (4 * j))) same) ∙ read_there source c shared.related found there points reads slots next j (low_same source g found.cell.kind reads.here c.active.slots slots reads.own low) (omega (arith, below, ap words_of_kind same)))
      (subst (λ i. Is shared.tables i v reads.word 0) same (reads.is v has)) here

  -- ---- reading both sides

  below_base : (base : ℕ) (a : Side) → base ≤ right_slot a base
  below_base base (VariableSide l ty) = omega arith
  below_base base (CellSide x) = omega arith

  right_below : (base : ℕ) (a : Side) → right_slot a base < base + 2
  right_below base (VariableSide l ty) = omega arith
  right_below base (CellSide x) = omega arith

  pub swapping : (kind : Kind) (left right : Value) (before : Option Kinded) (k : List Entry) (e : Environment) (w : World) (c : Configuration) → AreNamed source e.locals (callers k) w c.active.function c.active.base c.frames c.store → IsStep source pages calls (Swapping kind left right before) k e w c
  swapping kind (Thin object offset) (Thin other beside) None k e w c names well (shared, facts, (exits, q, a, b, has_a, has_b, is_a, is_b, (m, r, u, read, next, first, second), stack)) =
      let g = c.active.function in
      let base = floor source g k in
      let d = base + 2 in
      let words = words_of_kind kind in
      let found = is_swapped kind (cell_at w object offset) (Thin object offset) (Thin other beside) None k e w well in
      let reads = reads_side a base d m object offset kind found.value k e w c shared facts found.at found.there found.same found.has (omega arith) (omega (arith, floor-least source g k)) names is_a has_a read in
      let following : State = Running (Swapping kind (Thin object offset) (Thin other beside) (Some (record { kind = kind; value = found.value }))) k e w in
      by_links source pages calls (Swapping kind (Thin object offset) (Thin other beside) None) k e w c following reads.links reads.some found.gives shared reads.path
      (subst (λ (x : Configuration). Matches source pages calls following (plain.Running x)) (sym reads.leads) (
        shared,
        data_written source shared.tables g c.active.base w.objects e.locals k c.active.slots reads.slots c.active.handlers c.globals c.frames d words (omega arith) reads.elsewhere facts,
        (
          exits,
          q,
          a,
          b,
          has_a,
          has_b,
          side_same shared.tables e.locals c.active.slots reads.slots a base object offset (reads.elsewhere base (inl (omega arith))) is_a,
          side_same shared.tables e.locals c.active.slots reads.slots b (right_slot a base) other beside (reads.elsewhere (right_slot a base) (inl (omega (arith, right_below base a)))) is_b,
          refl,
          reads.is,
          (r, u, next, first, second),
          stack,
        ),
      ))
  swapping kind (Thin object offset) (Thin other beside) (Some before) k e w c names well (shared, facts, (exits, q, a, b, has_a, has_b, is_a, is_b, same_before, is_before, (m, r, read, first, second), stack)) =
      let g = c.active.function in
      let base = floor source g k in
      let words = words_of_kind kind in
      let d = base + 2 + words in
      let above = floor-least source g k in
      let found = is_swapped kind (cell_at w other beside) (Thin object offset) (Thin other beside) (Some before) k e w well in
      let reads = reads_side b (right_slot a base) d m other beside kind found.value k e w c shared facts found.at found.there found.same found.has (omega (arith, right_below base a)) (omega (arith, floor-least source g k)) names is_b has_b read in
      let writes : List Write = record { place = Thin object offset; operand = record { kind = kind; value = found.value } } ∷ record { place = Thin other beside; operand = before } ∷ [] in
      let has_before : HasSide (code_of source g) (bounds_at source g) (types_at source g) b before.kind = subst (HasSide (code_of source g) (bounds_at source g) (types_at source g) b) (sym same_before) has_b in
      by_links source pages calls (Swapping kind (Thin object offset) (Thin other beside) (Some before)) k e w c (Running (Writing writes None) k e w) reads.links reads.some found.gives shared reads.path
      (subst (λ (x : Configuration). Matches source pages calls (Running (Writing writes None) k e w) (plain.Running x)) (sym reads.leads) (
        shared,
        data_written source shared.tables g c.active.base w.objects e.locals k c.active.slots reads.slots c.active.handlers c.globals c.frames d words (omega arith) reads.elsewhere facts,
        (
          exits,
          q,
          (
            a,
            object,
            offset,
            base,
            d,
            r,
            first,
            has_a,
            above,
            omega (arith, above),
            refl,
            side_same shared.tables e.locals c.active.slots reads.slots a base object offset (reads.elsewhere base (inl (omega arith))) is_a,
            reads.is,
            (
              b,
              other,
              beside,
              right_slot a base,
              base + 2,
              q,
              subst (λ i. WriteAt (code_of source g) (bounds_at source g) (types_at source g) b i (right_slot a base) (base + 2) r q) (sym same_before) second,
              has_before,
              omega (arith, above, below_base base a),
              omega (arith, above),
              refl,
              side_same shared.tables e.locals c.active.slots reads.slots b (right_slot a base) other beside (reads.elsewhere (right_slot a base) (inl (omega (arith, right_below base a)))) is_b,
              Is-same shared.tables before.kind before.value c.active.slots reads.slots (base + 2) (base + 2)
                  (λ i below. reads.elsewhere (base + 2 + i) (inl (omega (arith, below, ap words_of_kind same_before)))) is_before,
              refl,
            ),
          ),
          stack,
        ),
      ))
  swapping kind left right before k e w c names well (shared, facts, at) = absurd at

  -- ---- writing a cell

  module _ (x : Write) (writes : List Write) (object offset s v r q : ℕ) (exits : Exits) (k : List Entry) (e : Environment) (w : World) (c : Configuration) (words : plain.HoldsWords (plain.Running c))
      (names : AreNamed source e.locals (callers k) w c.active.function c.active.base c.frames c.store) (high : base_of source c.active.function ≤ s) (above : base_of source c.active.function ≤ v)
      (shared : SharedAt source pages calls k e w c) (facts : DataIn source shared.tables c.active.slots k e w c)
      (does : stored_at x.place x.operand (Writing writes None) k e w ≡ stored_at (Thin object offset) x.operand (Writing writes None) k e w)
      (well : IsWell (stored_at (Thin object offset) x.operand (Writing writes None) k e w)) (points : Points shared.tables object offset (c.active.slots s))
      (value : Is shared.tables x.operand.kind x.operand.value c.active.slots v)
      (here : StoresAt (code_of source c.active.function) (bounds_at source c.active.function) (types_at source c.active.function) x.operand.kind (words_of_kind x.operand.kind) s 0 v c.active.next r)
      (rest : WritesAt source shared.tables e.locals c.active.function c.active.slots writes r q) (stack : StatementStack source c.active.function exits q c.frames k) where
    writes_word : words_of_kind x.operand.kind ≡ 1 → IsMatched source pages calls (Running (Writing (x ∷ writes) None) k e w) (plain.Running c)
    writes_word one =
        let g = c.active.function in
        let (store, end) = subst (λ n. StoresAt (code_of source g) (bounds_at source g) (types_at source g) x.operand.kind n s 0 v c.active.next r) one here in
        let address = add_of (c.active.slots s) 0 in
        let (cell, found, same, gives) = cell_is_there (cell_at w object offset) object offset x.operand (Writing writes None) k e w well in
        let is_word = subst (λ i. IsWord shared.tables i x.operand.value (c.active.slots v)) (sym same) (one_word shared.tables x.operand.kind x.operand.value c.active.slots v one value) in
        let after = with_word source pages calls k e w c shared names facts object offset address (c.active.slots v) cell x.operand.value found (stays points) is_word (words.0 v) in
        by_one source pages calls (does ∙ gives) shared store
        (λ choice. subst (Matches source pages calls (Running (Writing writes None) k e (written w object offset cell x.operand.value)))
        (sym (saves_by (lower_program source) choice c x.operand.kind (operands.Slot s) 0 (operands.Slot v)
        ∙ ap (λ (i : Kind). saved_at (lower_program source) i c address (c.active.slots v)) (sym same)
        ∙ saves_there source pages calls k e w c shared names facts object offset address (c.active.slots v) cell x.operand.value found (stays points) is_word (words.0 v))) (
          shared_saved source pages calls k e w c shared names facts object offset address (c.active.slots v) cell x.operand.value found (stays points) is_word (words.0 v),
          data_saved source pages calls k e w c shared names facts object offset address (c.active.slots v) cell x.operand.value found (stays points) is_word (words.0 v),
          (
            exits,
            q,
            writes_same shared.tables e.locals g c.active.slots after.active.slots writes (c.active.next + 1) q (above_there source pages calls k e w c shared names facts object offset address (c.active.slots v) cell x.operand.value found (stays points) is_word (words.0 v)) (subst (λ m. WritesAt source shared.tables e.locals g c.active.slots writes m q) (sym end) rest),
            statement_moves source g exits q c.frames after.frames (frames_there source pages calls k e w c shared names facts object offset address (c.active.slots v) cell x.operand.value found (stays points) is_word (words.0 v)) k stack,
          ),
        ))

    writes_words : x.operand.kind ≡ kinds.Fat → IsMatched source pages calls (Running (Writing (x ∷ writes) None) k e w) (plain.Running c)
    writes_words fat =
        let g = c.active.function in
        let (at_first, (at_second, (at_third, end))) = subst (λ (i : Kind). StoresAt (code_of source g) (bounds_at source g) (types_at source g) i (words_of_kind i) s 0 v c.active.next r) fat here in
        let address = c.active.slots s in
        let (cell, found, same, gives) = cell_is_there (cell_at w object offset) object offset x.operand (Writing writes None) k e w well in
        let wide = same ∙ fat in
        let fat_is = subst (λ i. Is shared.tables i x.operand.value c.active.slots v) fat value in
        let there = cell_kind shared.related cell points found in
        let following : (j : ℕ) → j < 3 → add_of address (4 * j) ≡ address + 4 * j = λ j below. word_is points cell.cell.kind j there (omega (arith, below, ap words_of_kind wide)) in
        let first = following 0 (omega arith) in
        let second = following 1 (omega arith) in
        let third = following 2 (omega arith) in
        let next = Running (Writing writes None) k e (written w object offset cell x.operand.value) in
        let after = stored source pages calls k e w c shared names facts object offset address s 0 v high (inl above) cell x.operand.value found points wide fat_is words first second third in
        by_links source pages calls (Writing (x ∷ writes) None) k e w c next
        (all_links source pages calls k e w c shared names facts object offset address s 0 v high (inl above) cell x.operand.value found points wide fat_is words first second third) (omega arith) (does ∙ gives) shared
        (all_path source pages calls k e w c shared names facts object offset address s 0 v high (inl above) cell x.operand.value found points wide fat_is words first second third at_first at_second at_third) (
          shared_stored source pages calls k e w c shared names facts object offset address s 0 v high (inl above) cell x.operand.value found points wide fat_is words first second third,
          data_stored source pages calls k e w c shared names facts object offset address s 0 v high (inl above) cell x.operand.value found points wide fat_is words first second third,
          (
            exits,
            q,
            writes_same shared.tables e.locals g c.active.slots after.active.slots writes (c.active.next + 1 + 1 + 1) q (above_stored source pages calls k e w c shared names facts object offset address s 0 v high (inl above) cell x.operand.value found points wide fat_is words first second third) (subst (λ m. WritesAt source shared.tables e.locals g c.active.slots writes m q) (sym end) rest),
            statement_moves source g exits q c.frames after.frames (frames_stored source pages calls k e w c shared names facts object offset address s 0 v high (inl above) cell x.operand.value found points wide fat_is words first second third) k stack,
          ),
        )

    writes_cell : (narrow : Bool) → (words_of_kind x.operand.kind == 1) ≡ narrow → IsMatched source pages calls (Running (Writing (x ∷ writes) None) k e w) (plain.Running c)
    writes_cell true narrow = writes_word (eqb-true (words_of_kind x.operand.kind) 1 narrow)
    writes_cell false wide = writes_words (wide_kind x.operand.kind wide)

  -- ---- writing a side

  -- In a swap, the next operand is written; after the last operand, the statement ends.
  pub writing_sides : (writes : List Write) (k : List Entry) (e : Environment) (w : World) (c : Configuration) → plain.HoldsWords (plain.Running c) → AreNamed source e.locals (callers k) w c.active.function c.active.base c.frames c.store → IsStep source pages calls (Writing writes None) k e w c
  writing_sides [] k e w c words names well (shared, facts, (exits, q, end, stack)) =
      silently source pages calls (Running (Writing [] None) k e w) (Running Proceeding k e w) (plain.Running c) refl
      (shared, following_statement exits facts (subst (λ p. StatementStack source c.active.function exits p c.frames k) (sym end) stack))
      (omega arith)
  writing_sides (x ∷ writes) k e w c words names well (shared, facts, (exits, q, (VariableSide (Local p n) ty, object, offset, s, v, r, (here, end), room, high, above, place, (first, found), value, rest), stack)) =
      let g = c.active.function in
      let slot = slot_of (starts_at source g) n in
      let own = words_of_kind x.operand.kind in
      let does : stored_at x.place x.operand (Writing writes None) k e w ≡ stored_at (Thin object 0) x.operand (Writing writes None) k e w = ap (λ p. stored_at p x.operand (Writing writes None) k e w) (place ∙ ap (Thin object) first) in
      let stored = is_stored object x.operand (Writing writes None) k e w (subst IsWell does well) in
      let inside = slot-room (types_at source g) n (facts.0.2.within n object found).0 in
      let slots = moved_slots c.active.slots own slot (operands.Slot v) in
      let elsewhere : (m : ℕ) → Outside slot own m → slots m ≡ c.active.slots m = λ m out. moved_elsewhere c.active.slots own slot (operands.Slot v) m (kind_positive x.operand.kind) out in
      let after : Configuration = advanced (with_slots c slots) in
      let next = written w object 0 stored.at x.operand.value in
      by_one source pages calls (does ∙ stored.gives) shared here
      (λ choice. subst (Matches source pages calls (Running (Writing writes None) k e next)) (sym (moves (lower_program source) choice c own slot (operands.Slot v))) (
        shared_written source pages calls k e w after shared object stored.at x.operand.value stored.object_there stored.cell_there (local-row (global_types source.globals) (facts.0.2.rows n object found)),
        (
          data_assigned shared.tables source g c.active.base w.objects next.objects e.locals (callers k) c.active.slots slots c.globals c.frames n object x.operand found
              (written_here w object stored.at x.operand.value stored.object_there stored.cell_there x.operand.kind stored.same) (written_elsewhere w object stored.at x.operand.value stored.object_there stored.cell_there)
              (written_length w object stored.at x.operand.value stored.object_there stored.cell_there) room
              (moved_is shared.tables x.operand c.active.slots slot (operands.Slot v) value)
              (λ is_char. sym stored.same ∙ char_cell shared.related object stored.at.object stored.at.cell stored.object_there stored.cell_there is_char) elsewhere facts.0,
          handlers_beside source g c.active.slots slots c.active.handlers c.frames k slot own (omega (arith, inside, room)) elsewhere facts.1,
        ),
        (
          exits,
          q,
          writes_same shared.tables e.locals g c.active.slots slots writes (c.active.next + 1) q (λ m least. elsewhere m (inr (omega (arith, inside, room, least))))
              (subst (λ m. WritesAt source shared.tables e.locals g c.active.slots writes m q) (sym end) rest),
          stack,
        ),
      ))
  writing_sides (x ∷ writes) k e w c words names well (shared, facts, (exits, q, (VariableSide (Global n) ty, object, offset, s, v, r, here, room, high, above, place, (first, found), value, rest), stack)) =
      let g = c.active.function in
      let own = words_of_kind x.operand.kind in
      let does : stored_at x.place x.operand (Writing writes None) k e w ≡ stored_at (Thin object 0) x.operand (Writing writes None) k e w = ap (λ p. stored_at p x.operand (Writing writes None) k e w) (place ∙ ap (Thin object) first) in
      let stored = is_stored object x.operand (Writing writes None) k e w (subst IsWell does well) in
      let same : n ≡ object = same_Some n object found in
      let few = global-inside (types_at source g) n x.operand.kind room in
      let place_of = global_of (starts_at source g) n in
      let by = is_stored_by source c own place_of (operands.Slot v) r (kind_positive x.operand.kind) here in
      let globals = stored_globals c.active.slots c.globals own place_of (operands.Slot v) in
      let after : Configuration = advanced (record (at c by.last) { globals = globals }) in
      let next = written w object 0 stored.at x.operand.value in
      by_links source pages calls (Writing (x ∷ writes) None) k e w c (Running (Writing writes None) k e next) (global_links c own place_of (operands.Slot v)) by.some (does ∙ stored.gives) shared by.path
      (subst (λ (y : Configuration). Matches source pages calls (Running (Writing writes None) k e next) (plain.Running y)) (sym by.leads) (
        shared_written source pages calls k e w after
            (shared_beside source pages calls k e w c shared globals)
            object stored.at x.operand.value stored.object_there stored.cell_there (inr (inl (subst (IsGlobalRow shared.tables (global_types source.globals)) same (facts.0.4 n few).0))),
        (
          data_assigned_global shared.tables source g c.active.base w.objects next.objects e.locals (callers k) c.active.slots c.globals globals c.frames n x.operand room
              (ap (contents next.objects) same ∙ written_here w object stored.at x.operand.value stored.object_there stored.cell_there x.operand.kind stored.same)
              (λ i other. written_elsewhere w object stored.at x.operand.value stored.object_there stored.cell_there i (λ equal. other (equal ∙ sym same)))
              (written_length w object stored.at x.operand.value stored.object_there stored.cell_there) (stored_is shared.tables x.operand c.active.slots c.globals place_of (operands.Slot v) value)
              (λ is_char. sym stored.same ∙ char_cell shared.related object stored.at.object stored.at.cell stored.object_there stored.cell_there (subst (IsCharAt shared.tables) same is_char))
              (λ m out. stored_elsewhere c.active.slots c.globals own place_of (operands.Slot v) m (kind_positive x.operand.kind) out) facts.0,
          facts.1,
        ),
        (exits, q, subst (λ m. WritesAt source shared.tables e.locals g c.active.slots writes m q) (sym by.end) rest, stack),
      ))
  writing_sides (x ∷ writes) k e w c words names well (shared, facts, (exits, q, (CellSide y, object, offset, s, v, r, here, has, high, above, place, points, value, rest), stack)) =
      writes_cell x writes object offset s v r q exits k e w c words names high above shared facts
      (ap (λ p. stored_at p x.operand (Writing writes None) k e w) place) (subst IsWell (ap (λ p. stored_at p x.operand (Writing writes None) k e w) place) well)
      points value here rest stack (words_of_kind x.operand.kind == 1) refl

  -- ---- evaluating the places

  -- The address of a cell is moved to a slot, and execution continues after this move.
  comes_to : (focus next : Focus) (k₀ k : List Entry) (e : Environment) (w : World) (c : Configuration) (object offset d q : ℕ) (shared : SharedAt source pages calls k₀ e w c) → step source (Running focus k₀ e w) ≡ Running next k e w
      → focus_weight next + stack_weight k < focus_weight focus + stack_weight k₀ → Brought source shared.tables object offset d q c
      → ((slots : Words) → ((m : ℕ) → Outside d 1 m → slots m ≡ c.active.slots m) → Points shared.tables object offset (slots d) → Matches source pages calls (Running next k e w) (plain.Running (at (with_slots c slots) q)))
      → IsMatched source pages calls (Running focus k₀ e w) (plain.Running c)
  comes_to focus next k₀ k e w c object offset d q shared does lighter (in_slot end points) goes =
      silently source pages calls (Running focus k₀ e w) (Running next k e w) (plain.Running c) does
      (subst (λ p. Matches source pages calls (Running next k e w) (plain.Running (at c p))) (sym end) (goes c.active.slots (λ m out. refl) points)) lighter
  comes_to focus next k₀ k e w c object offset d q shared does lighter (by_word i word here performs end points) goes =
      by_one source pages calls does shared here
      (λ choice. subst (Matches source pages calls (Running next k e w)) (sym (performs choice))
      (subst (λ p. Matches source pages calls (Running next k e w) (plain.Running (at (with_slots c (put c.active.slots d word)) p))) (sym end)
      (goes (put c.active.slots d word) (λ m out. put_elsewhere c.active.slots d word 1 m (omega arith) out) (subst (Points shared.tables object offset) (sym (put-same c.active.slots d word)) points))))

  -- An operand of a swap that is a variable needs no instructions that compute its address.
  right_there : (kind : Kind) (left : Value) (x : Option ℕ) (k : List Entry) (e : Environment) (w : World) → IsWell (finds_right_object kind left x k e w) → (object : ℕ) × (x ≡ Some object)
  right_there kind left None k e w well = absurd (well refl)
  right_there kind left (Some object) k e w well = (object, refl)

  left_there : (kind : Kind) (x : Option ℕ) (right : Side) (k : List Entry) (e : Environment) (w : World) → IsWell (finds_left_object kind x right k e w) → (object : ℕ) × (x ≡ Some object)
  left_there kind None right k e w well = absurd (well refl)
  left_there kind (Some object) right k e w well = (object, refl)

  slots_above : (t : Tables) (d q : ℕ) (slots : Words) (k : List Entry) (e : Environment) (w : World) (c : Configuration) → floor source c.active.function k ≤ d → ((m : ℕ) → Outside d 1 m → slots m ≡ c.active.slots m)
      → DataIn source t c.active.slots k e w c → DataIn source t slots k e w (at (with_slots c slots) q)
  slots_above t d q slots k e w c above same facts = data_written source t c.active.function c.active.base w.objects e.locals k c.active.slots slots c.active.handlers c.globals c.frames d 1 above same facts

  -- The left operand of a swap is a cell that has been found, and the right operand is evaluated next.
  pub left_found : (object offset : ℕ) (kind : Kind) (peek : Option ℕ) (right : Side) (k : List Entry) (e : Environment) (w : World) (c : Configuration) {m : ℕ}
      → IsWell (step source (Running (GivenPlace (Thin object offset)) (NeedsPlace (SwapLeft kind peek right) ∷ k) e w)) → (shared : SharedAt source pages calls k e w c) → DataIn source shared.tables c.active.slots k e w c
      → Brought source shared.tables object offset (floor source c.active.function k) m c
      → (let g = c.active.function in (exits : Exits) × (x : Dereference) × (r : ℕ) × (q : ℕ) × HasSide (code_of source g) (bounds_at source g) (types_at source g) right kind
      × SideAt (code_of source g) (bounds_at source g) (types_at source g) right (floor source g k + 1) m r
      × ExchangeAt (code_of source g) (bounds_at source g) (types_at source g) kind (CellSide x) right (floor source g k) r q × StatementStack source g exits q c.frames k)
      → IsMatched source pages calls (Running (GivenPlace (Thin object offset)) (NeedsPlace (SwapLeft kind peek right) ∷ k) e w) (plain.Running c)
  left_found object offset kind peek (VariableSide l ty) k e w c {m} well shared facts brought (exits, x, r, q, has, end, exchange, stack) =
      let g = c.active.function in
      let base = floor source g k in
      let (other, found) = right_there kind (Thin object offset) (object_of e l) k e w well in
      comes_to (GivenPlace (Thin object offset)) (Swapping kind (Thin object offset) (Thin other 0) None) (NeedsPlace (SwapLeft kind peek (VariableSide l ty)) ∷ k) k e w c object offset base m shared
      (ap (λ y. finds_right_object kind (Thin object offset) y k e w) found) (omega arith) brought
      (λ slots same points. (
        shared,
        slots_above shared.tables base m slots k e w c (omega arith) same facts,
        (
          exits,
          q,
          CellSide x,
          VariableSide l ty,
          tt,
          has,
          points,
          (refl, object_of_same l e ∙ found),
          subst (λ p. ExchangeAt (code_of source g) (bounds_at source g) (types_at source g) kind (CellSide x) (VariableSide l ty) base p q) (sym end) exchange,
          stack,
        ),
      ))
  left_found object offset kind peek (CellSide y) k e w c {m} well shared facts brought (exits, x, r, q, has, (o, more, s, at_y, address), exchange, stack) =
      let g = c.active.function in
      let base = floor source g k in
      comes_to (GivenPlace (Thin object offset)) (Locating y) (NeedsPlace (SwapLeft kind peek (CellSide y)) ∷ k) (NeedsPlace (SwapRight kind peek true (Thin object offset)) ∷ k) e w c object offset base m shared
      refl (omega arith) brought
      (λ slots same points. (
        shared,
        slots_above shared.tables base m slots k e w c (omega arith) same facts,
        (o, more, s, at_y, (points, tt), (exits, CellSide x, y, r, q, tt, tt, address, exchange, stack)),
      ))

  -- Both operands of a swap have been evaluated.
  pub right_found : (object offset : ℕ) (kind : Kind) (peek : Option ℕ) (is_cell : Bool) (left : Value) (a : Side) (k : List Entry) (e : Environment) (w : World) (c : Configuration) {m : ℕ}
      (shared : SharedAt source pages calls k e w c) → DataIn source shared.tables c.active.slots k e w c → Holds shared.tables c.active.slots (floor source c.active.function k) (held (NeedsPlace (SwapRight kind peek is_cell left) ∷ k))
      → Brought source shared.tables object offset (right_slot a (floor source c.active.function k)) m c → IsLeft source e.locals is_cell a left
      → (let g = c.active.function in (exits : Exits) × (y : Dereference) × (q : ℕ) × HasSide (code_of source g) (bounds_at source g) (types_at source g) a kind
      × ExchangeAt (code_of source g) (bounds_at source g) (types_at source g) kind a (CellSide y) (floor source g k) m q × StatementStack source g exits q c.frames k)
      → IsMatched source pages calls (Running (GivenPlace (Thin object offset)) (NeedsPlace (SwapRight kind peek is_cell left) ∷ k) e w) (plain.Running c)
  right_found object offset kind peek false (Thin first start) (VariableSide l ty) k e w c {m} shared facts holds brought is_left (exits, y, q, has, exchange, stack) =
      let base = floor source c.active.function k in
      comes_to (GivenPlace (Thin object offset)) (Swapping kind (Thin first start) (Thin object offset) None) (NeedsPlace (SwapRight kind peek false (Thin first start)) ∷ k) k e w c object offset base m shared refl (omega arith) brought
      (λ slots same points. (
        shared,
        slots_above shared.tables base m slots k e w c (omega arith) same facts,
        (exits, q, VariableSide l ty, CellSide y, has, tt, is_left, points, exchange, stack),
      ))
  right_found object offset kind peek true (Thin first start) (CellSide x) k e w c {m} shared facts (is_first, none) brought is_left (exits, y, q, has, exchange, stack) =
      let base = floor source c.active.function k in
      comes_to (GivenPlace (Thin object offset)) (Swapping kind (Thin first start) (Thin object offset) None) (NeedsPlace (SwapRight kind peek true (Thin first start)) ∷ k) k e w c object offset (base + 1) m shared refl (omega arith) brought
      (λ slots same points. (
        shared,
        slots_above shared.tables (base + 1) m slots k e w c (omega arith) same facts,
        (exits, q, CellSide x, CellSide y, tt, tt, subst (Points shared.tables first start) (sym (same base (inl (omega arith)))) is_first, points, exchange, stack),
      ))
  right_found object offset kind peek false left (VariableSide l ty) k e w c shared facts holds brought is_left following = absurd is_left
  right_found object offset kind peek false left (CellSide x) k e w c shared facts holds brought is_left following = absurd is_left
  right_found object offset kind peek true left (VariableSide l ty) k e w c shared facts holds brought is_left following = absurd is_left
  right_found object offset kind peek true left (CellSide x) k e w c shared facts holds brought is_left following = absurd is_left

  -- ---- the beginning of a swap

  pub begins_swap : (a b : Side) (k : List Entry) (e : Environment) (w : World) (c : Configuration) → IsStep source pages calls (Executing (Swap a b)) k e w c
  begins_swap (VariableSide l ty) (VariableSide l' ty') k e w c well (shared, facts, (exits, q, (m, r, has_a, has_b, start, end, exchange), stack)) =
      let g = c.active.function in
      let kind = kind_of ty in
      let (object, found) = left_there kind (object_of e l) (VariableSide l' ty') k e w well in
      let does = ap (λ x. finds_left_object kind x (VariableSide l' ty') k e w) found in
      let (other, found_right) = right_there kind (Thin object 0) (object_of e l') k e w (subst IsWell does well) in
      silently source pages calls (Running (Executing (Swap (VariableSide l ty) (VariableSide l' ty'))) k e w) (Running (Swapping kind (Thin object 0) (Thin other 0) None) k e w) (plain.Running c)
      (does ∙ ap (λ x. finds_right_object kind (Thin object 0) x k e w) found_right) (
        shared,
        facts,
        (
          exits,
          q,
          VariableSide l ty,
          VariableSide l' ty',
          has_a,
          has_b,
          (refl, object_of_same l e ∙ found),
          (refl, object_of_same l' e ∙ found_right),
          subst (λ p. ExchangeAt (code_of source g) (bounds_at source g) (types_at source g) kind (VariableSide l ty) (VariableSide l' ty') (floor source g k) p q) (sym (start ∙ end)) exchange,
          stack,
        ),
      )
      (omega arith)
  begins_swap (VariableSide l ty) (CellSide y) k e w c well (shared, facts, (exits, q, (m, r, has_a, has_b, start, (o, more, s, at_y, address), exchange), stack)) =
      let g = c.active.function in
      let kind = kind_of ty in
      let (object, found) = left_there kind (object_of e l) (CellSide y) k e w well in
      silently source pages calls (Running (Executing (Swap (VariableSide l ty) (CellSide y))) k e w) (Running (Locating y) (NeedsPlace (SwapRight kind None false (Thin object 0)) ∷ k) e w) (plain.Running c)
      (ap (λ x. finds_left_object kind x (CellSide y) k e w) found) (
        shared,
        facts,
        (
          o,
          more,
          s,
          subst (λ p. PlaceAt (code_of source g) (bounds_at source g) (types_at source g) y o more (floor source g k) p s) (sym start) at_y,
          tt,
          (exits, VariableSide l ty, y, r, q, has_a, (refl, object_of_same l e ∙ found), address, exchange, stack),
        ),
      )
      (omega arith)
  begins_swap (CellSide x) b k e w c well (shared, facts, (exits, q, (m, r, has_a, has_b, (o, more, s, at_x, address), at_b, exchange), stack)) =
      let kind = kind_of (type_of_place x) in
      silently source pages calls (Running (Executing (Swap (CellSide x) b)) k e w) (Running (Locating x) (NeedsPlace (SwapLeft kind (peeked x) b) ∷ k) e w) (plain.Running c) refl
      (shared, facts, (o, more, s, at_x, tt, (exits, x, m, r, q, has_b, address, at_b, exchange, stack)))
      (omega arith)
