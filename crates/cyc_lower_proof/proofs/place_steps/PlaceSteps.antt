-- This file proves the steps after the address of a cell has been evaluated. The cell is read, or its address is taken, or the address
-- waits in a slot while the value to store is evaluated.
use Rattle.std.proofs.Common.{◌≡◌, ◌⊎◌, ℕ, ◌+◌, ◌*◌, ◌^◌, ◌<◌, ◌≤◌, Bool, true, false, List, ◌∷◌, Option, None, Some, refl, sym, ap, subst, ◌∙◌, arith, inl, inr}
use Rattle.std.specs.Prelude.{◌==◌, if◌then◌else◌}
use Rattle.std.proofs.lemmas.Bool.{eqb-true}
use Rattle.cyc_words.specs.Word.{add_of}
use Rattle.cyc_types.specs.declared.typed.Kind.{Kind}
use Rattle.cyc_types.specs.declared.typed.Kind.TheVariants as kinds
use Rattle.cyc_types.specs.TypedTrees.{Expression, Convert, Program, NoOperations}
use Rattle.cyc_plain.specs.declared.instruction.Operand.{Operand}
use Rattle.cyc_plain.specs.declared.instruction.Operand.TheVariants as operands
use Rattle.cyc_plain.specs.declared.instruction.Instruction.TheVariants as instructions
use Rattle.cyc_plain.specs.inside.State as plain
use Rattle.cyc_plain.specs.inside.State.{put, Frame, Configuration, Words}
use Rattle.cyc_plain.specs.inside.Step.{operand_word, with_slots, at, advanced, loads}
use Rattle.cyc_plain.specs.inside.Straight.{At}
use Rattle.cyc_plain.proofs.SlotLaws.{put-same}
use Rattle.cyc_meaning.specs.Values.{Value, Thin, Operand as Kinded, is_kind, words_of_kind}
use Rattle.cyc_meaning.specs.State.{World, Access, Found, Closed, Missing, Located, cell_at, Environment, LoadFrom, Entry, NeedsPlace, GivenPlace, Given, Running, ConvertTo, StoreCell, TakeAddress, StoreTo, Needs, Evaluating, SwapLeft, SwapRight, Chain, BesideHandle, Store, Initialise, Operate}
use Rattle.cyc_meaning.specs.Step.{wrong, read, loaded, target_by}
use Rattle.cyc_memory_relation.specs.inside.Words.{Points, Is}
use Rattle.cyc_lower_proof.specs.inside.ObjectCode.{right_slot}
use Rattle.cyc_lower_proof.specs.inside.ExpressionCode.{source_of, source_slot}
use Rattle.cyc_lower_proof.specs.inside.Lowering.{lower_program}
use Rattle.cyc_lower_proof.proofs.slots.Widths.{kind_positive, same_kind, wide_kind, Outside, HasRoom}
use Rattle.cyc_lower_proof.proofs.relation.contents.Moves.{put_elsewhere}
use Rattle.cyc_lower_proof.proofs.relation.contents.HeldValues.{held, Holds, callers}
use Rattle.cyc_lower_proof.proofs.relation.simulation.Relation.{Matches, DataIn, SharedAt, Related}
use Rattle.cyc_lower_proof.proofs.relation.simulation.Stacks.{types_on, starts_on, in_temporary, in_local, LandsStack, HandsOnStack, code_of, bounds_at, top, floor, AheadStack, types_at, starts_at}
use Rattle.cyc_lower_proof.proofs.relation.contents.Data.{height-least, Holds-same}
use Rattle.cyc_lower_proof.proofs.relation.contents.HandlerData.{floor-least, data_written}
use Rattle.cyc_lower_proof.proofs.relation.code.Stands.{OperandBy, ConvertedOperandAt, LoadedBy, SavedAt, BroughtAt}
use Rattle.cyc_lower_proof.proofs.place_steps.CellReads.{cell_reads, read_there, one_there, one_is, IsRead as IsCellRead, IsOwn, AreSame}
use Rattle.cyc_lower_proof.proofs.place_steps.AddressSteps.{Brought, in_slot, by_word, brought}
use Rattle.cyc_lower_proof.proofs.place_steps.SwapSteps.{left_found, right_found}
use Rattle.cyc_lower_proof.proofs.place_steps.WideLoads.{all_in, load_links, load_path, load_last, loaded_is, loaded_elsewhere, ComesTo, AreMixed, mixed_same}
use Rattle.cyc_lower_proof.proofs.relation.simulation.Accesses.{IsWell}
use Rattle.cyc_lower_proof.proofs.relation.simulation.Matched.{IsMatched, silently, by_one}
use Rattle.cyc_lower_proof.proofs.relation.simulation.Paths.{is_quiet, by_path}
use Rattle.cyc_lower_proof.proofs.value_steps.Landings.{IsStep, landed}
use Rattle.cyc_lower_proof.proofs.value_steps.Beginnings.{sources}
use Rattle.cyc_lower_proof.proofs.value_steps.ValueWords.{of_kind}
use Rattle.cyc_lower_proof.proofs.value_steps.Assignments.{landed_there}
use Rattle.cyc_plain.specs.inside.Memory.{memory_at}
use Rattle.cyc_lower_proof.proofs.relation.places.Leads.{AreNamed}
use Rattle.cyc_lower_proof.proofs.slots.Slots.{room-inside}
use Rattle.cyc_lower_proof.specs.inside.Slots.{slot_of}
use Rattle.cyc_memory_relation.specs.inside.Tables.{Tables}
use Rattle.cyc_lower_proof.proofs.place_steps.KindWords.{loaded_at, loads_by}
use Rattle.cyc_types.specs.declared.typed.UnaryOperator.TheVariants as unary

-- ---- reading a cell

pub record IsRead (kind : Kind) (found : Access Located) (k : List Entry) (e : Environment) (w : World) : Type 0 where
  pub at : Located
  pub there : found ≡ Found at
  pub same : at.cell.kind ≡ kind
  pub value : Value
  pub has : at.cell.content ≡ Some value
  pub gives : loaded kind found k e w ≡ Running (Given (record { kind = kind; value = value })) k e w

pub loaded_is_read : (kind : Kind) (found : Access Located) (k : List Entry) (e : Environment) (w : World) → IsWell (loaded kind found k e w) → IsRead kind found k e w
loaded_is_read kind Closed k e w well = absurd (well refl)
loaded_is_read kind Missing k e w well = absurd (well refl)
loaded_is_read kind (Found at) k e w well =
    let (same, v, has, gives) = by (is_kind at.cell.kind kind) at.cell.content refl well in
    record { at = at; there = refl; same = same; value = v; has = has; gives = gives }
  where
    by : (fits : Bool) (content : Option Value) → is_kind at.cell.kind kind ≡ fits → IsWell (if fits then read kind content k e w else wrong w)
        → (at.cell.kind ≡ kind) × (v : Value) × (content ≡ Some v) × ((if fits then read kind content k e w else wrong w) ≡ Running (Given (record { kind = kind; value = v })) k e w)
    by false content reported well = absurd (well refl)
    by true None reported well = absurd (well refl)
    by true (Some v) reported well = (same_kind at.cell.kind kind reported, v, refl, refl)

module _ (source : Program) (pages calls : ℕ) where
  -- ---- taking the address of a cell

  takes_address : (object offset more : ℕ) (o : Operand) (d q : ℕ) (k : List Entry) (e : Environment) (w : World) (c : Configuration)
      → (shared : SharedAt source pages calls (NeedsPlace TakeAddress ∷ k) e w c) → DataIn source shared.tables c.active.slots k e w c → Holds shared.tables c.active.slots (floor source c.active.function k) (held k)
      → Brought source shared.tables object offset d q c → LandsStack source c.active.function e.locals kinds.NonNull d q c.frames k
      → IsMatched source pages calls (Running (GivenPlace (Thin object offset)) (NeedsPlace TakeAddress ∷ k) e w) (plain.Running c)
  takes_address object offset more o d q k e w c shared facts holds (in_slot end points) lands =
      silently source pages calls (Running (GivenPlace (Thin object offset)) (NeedsPlace TakeAddress ∷ k) e w) (Running (Given (of_kind kinds.NonNull (Thin object offset))) k e w) (plain.Running c) refl
      (landed_there source pages calls (of_kind kinds.NonNull (Thin object offset)) d k e w c q (shared, facts, points, holds) end lands)
      (omega arith)
  takes_address object offset more o d q k e w c shared facts holds (by_word i word here goes end points) lands =
      let v = of_kind kinds.NonNull (Thin object offset) in
      let after = put c.active.slots d word in
      by_one source pages calls refl shared here
      (λ choice. subst (Matches source pages calls (Running (Given v) k e w)) (sym (goes choice))
      (landed source pages calls v after d k e w c q shared (subst (Points shared.tables object offset) (sym (put-same c.active.slots d word)) points)
      (λ m out. put_elsewhere c.active.slots d word 1 m (omega arith) out) facts holds end lands))

  -- ---- the pending address of a store

  -- The right operand of an assignment is evaluated next. The address of the left operand is in the temporary before those of the right
  -- operand.
  abbrev StoresAfter : (from to : Kind) → Expression → List Entry → Environment → Configuration → (s : ℕ) → Type 0
  StoresAfter from to a k e c s =
      (x : Operand) × (u : ℕ) × (q : ℕ) × ConvertedOperandAt (code_of source c.active.function) (bounds_at source c.active.function) (types_on source c.active.function k) (Convert from to a) (top source c.active.function k + 1) x s u
      × SavedAt (code_of source c.active.function) (bounds_at source c.active.function) (types_on source c.active.function k) to (top source c.active.function k) x u q
      × HandsOnStack source c.active.function e.locals to x q c.frames k

  abbrev right_side : (from to : Kind) → Expression → Option ℕ → (place : Value) → List Entry → List Entry
  right_side from to a peek place k = Needs (ConvertTo from to (target_by a)) ∷ Needs (StoreCell peek place) ∷ k

  right_begins : (from to : Kind) (a : Expression) (peek : Option ℕ) (object offset : ℕ) (k : List Entry) (e : Environment) (w : World) (c : Configuration) (s : ℕ)
      → (shared : SharedAt source pages calls k e w c) → DataIn source shared.tables c.active.slots k e w c → Holds shared.tables c.active.slots (floor source c.active.function k) (held k)
      → Points shared.tables object offset (c.active.slots (top source c.active.function k)) → c.active.next ≡ s → StoresAfter from to a k e c s
      → Related source pages calls (Evaluating a) (right_side from to a peek (Thin object offset) k) e w c
  right_begins from to a peek object offset k e w c s shared facts holds points start (x, u, q, (m, at_a, at_to), store, hands) =
      let g = c.active.function in
      let entries = right_side from to a peek (Thin object offset) k in (
        shared,
        facts,
        sources source pages calls shared.tables from to a (Needs (StoreCell peek (Thin object offset)) ∷ k) e w c x m u
            (subst
            (λ p. OperandBy (code_of source g) (bounds_at source g) (types_on source g k) (source_of (starts_on source g k) (Convert from to a))
            (BroughtAt (code_of source g) (bounds_at source g) (types_on source g k) (Convert from to a) (source_slot (starts_on source g k) (Convert from to a) (top source g entries)) (top source g entries) p m)
            (source_slot (starts_on source g k) (Convert from to a) (top source g entries)) x p m)
            (sym start) at_a)
            at_to (points, holds) (q, store, hands),
      )

  stores_to : (from to : Kind) (a : Expression) (peek : Option ℕ) (object offset : ℕ) (k : List Entry) (e : Environment) (w : World) (c : Configuration) (s : ℕ)
      → (shared : SharedAt source pages calls k e w c) → DataIn source shared.tables c.active.slots k e w c → Holds shared.tables c.active.slots (floor source c.active.function k) (held k)
      → Brought source shared.tables object offset (top source c.active.function k) s c → StoresAfter from to a k e c s
      → IsMatched source pages calls (Running (GivenPlace (Thin object offset)) (NeedsPlace (StoreTo peek (Convert from to a)) ∷ k) e w) (plain.Running c)
  stores_to from to a peek object offset k e w c s shared facts holds (in_slot end points) following =
      silently source pages calls (Running (GivenPlace (Thin object offset)) (NeedsPlace (StoreTo peek (Convert from to a)) ∷ k) e w) (Running (Evaluating a) (right_side from to a peek (Thin object offset) k) e w) (plain.Running c) refl
      (right_begins from to a peek object offset k e w c s shared facts holds points end following)
      (omega arith)
  stores_to from to a peek object offset k e w c s shared facts holds (by_word i word here goes end points) following =
      let g = c.active.function in
      let base = floor source g k in
      let free = top source g k in
      let after = put c.active.slots free word in
      by_one source pages calls refl shared here
      (λ choice. subst (Matches source pages calls (Running (Evaluating a) (right_side from to a peek (Thin object offset) k) e w)) (sym (goes choice))
      (right_begins from to a peek object offset k e w (advanced (with_slots c after)) s shared
      (data_written source shared.tables g c.active.base w.objects e.locals k c.active.slots after c.active.handlers c.globals c.frames free 1 (height-least base (held k)) (λ m out. put_elsewhere c.active.slots free word 1 m (omega arith) out) facts)
      (Holds-same shared.tables c.active.slots after base (held k) (λ m below. put_elsewhere c.active.slots free word 1 m (omega arith) (inl below)) holds)
      (subst (Points shared.tables object offset) (sym (put-same c.active.slots free word)) points) end following))

  -- ---- loading a cell

  -- A value that is computed directly into its destination is in the slot of a local.
  ahead_slot : (g : ℕ) (locals : ℕ → Option ℕ) (kind : Kind) (d q : ℕ) (frames : List Frame) (k : List Entry) → AheadStack source g locals kind d q frames k
      → (number : ℕ) × (slot_of (starts_at source g) number ≡ d) × HasRoom (types_at source g) number kind
  ahead_slot g locals kind d q frames (Needs (ConvertTo from to target) ∷ k) (quiet, whole, wide, stack) =
      let (number, start, room) = ahead_slot g locals to d q frames k stack in (number, start, omega (arith, wide, room))
  ahead_slot g locals kind d q frames (Needs (Operate unary.Widen) ∷ k) (one, stack) =
      let (number, start, room) = ahead_slot g locals kinds.Int d q frames k stack in (number, start, omega (arith, one, room))
  ahead_slot g locals kind d q frames (Needs (Chain NoOperations) ∷ k) stack = ahead_slot g locals kind d q frames k stack
  ahead_slot g locals kind d q frames (Needs (BesideHandle region) ∷ k) stack = ahead_slot g locals kind d q frames k stack
  ahead_slot g locals kind d q frames (Needs (Store place) ∷ k) (number, object, is, found, start, room, hands) = (number, start, room)
  ahead_slot g locals kind d q frames (Needs (Initialise number wanted items) ∷ k) (exits, r, start, room, of_type, at, stack) = (number, start, room)
  ahead_slot g locals kind d q frames k stack = absurd stack

  -- Says where a value of three words is moved: to temporaries or to the slots of a local.
  comes_where : (g : ℕ) (locals : ℕ → Option ℕ) (kind : Kind) (d q : ℕ) (frames : List Frame) (k : List Entry) → kind ≡ kinds.Fat → LandsStack source g locals kind d q frames k → ComesTo source g d
  comes_where g locals kind d q frames k fat (in_temporary least stack) = inl (omega (arith, least, floor-least source g k, height-least (floor source g k) (held k)))
  comes_where g locals kind d q frames k fat (in_local below stack) =
      let (number, start, room) = ahead_slot g locals kind d q frames k stack in
      inr (number, room-inside (types_at source g) number kind room, start, subst (HasRoom (types_at source g) number) fat room)

  -- The slot of the address is not one of the last two slots of the value's destination.
  lands_apart : (g : ℕ) (locals : ℕ → Option ℕ) (kind : Kind) (d q : ℕ) (frames : List Frame) (k : List Entry) → kind ≡ kinds.Fat → LandsStack source g locals kind d q frames k → (top source g k ≤ d) ⊎ (d + 3 ≤ top source g k)
  lands_apart g locals kind d q frames k fat (in_temporary least stack) = inl least
  lands_apart g locals kind d q frames k fat (in_local below stack) = inr (omega (arith, below, ap words_of_kind fat, floor-least source g k, height-least (floor source g k) (held k)))

  -- While some words of a cell are loaded into slots, the words that are not yet loaded stay unchanged.
  reads_mixed : {t : Tables} {address : ℕ} {X : Type 0} (c : Configuration) (d : ℕ) (at : Located) {kind : Kind} → kind ≡ kinds.Fat → at.cell.kind ≡ kinds.Fat → (reads : IsCellRead source t c address at.cell.kind at.cell.content) → ComesTo source c.active.function d
      → (slots : Words) → AreMixed d reads.word c.active.slots slots → {j : ℕ} → (AreSame reads.here (words_of_kind at.cell.kind) c.active.slots slots → j < words_of_kind at.cell.kind → X) → j < 3 → X
  reads_mixed {t} {address} {X} c d at {kind} fat wide reads comes slots mixed {j} goes below =
      goes
      (subst (λ i. AreSame reads.here (words_of_kind i) c.active.slots slots) (sym wide)
      (mixed_same source c.active.function d reads.word reads.here c.active.slots slots (subst (λ i. IsOwn source c.active.function i reads.here) wide reads.own) reads.stays comes mixed))
      (omega (arith, below, ap words_of_kind wide))

  -- The three words of a cell are loaded through the address of the cell in the first temporary.
  loads_wide : (object offset d r q : ℕ) (kind : Kind) (k : List Entry) (e : Environment) (w : World) (c : Configuration) → AreNamed source e.locals (callers k) w c.active.function c.active.base c.frames c.store → kind ≡ kinds.Fat → IsWell (loaded kind (cell_at w object offset) k e w)
      → (shared : SharedAt source pages calls (NeedsPlace (LoadFrom kind) ∷ k) e w c) → DataIn source shared.tables c.active.slots k e w c → Holds shared.tables c.active.slots (floor source c.active.function k) (held k)
      → Brought source shared.tables object offset (top source c.active.function k) r c
      → At (code_of source c.active.function) r (instructions.Load (d + 2) (operands.Slot (top source c.active.function k)) 8)
      → At (code_of source c.active.function) (r + 1) (instructions.Load (d + 1) (operands.Slot (top source c.active.function k)) 4)
      → At (code_of source c.active.function) (r + 1 + 1) (instructions.Load d (operands.Slot (top source c.active.function k)) 0) → r + 1 + 1 + 1 ≡ q
      → LandsStack source c.active.function e.locals kind d q c.frames k
      → IsMatched source pages calls (Running (GivenPlace (Thin object offset)) (NeedsPlace (LoadFrom kind) ∷ k) e w) (plain.Running c)
  loads_wide object offset d r q kind k e w c names fat well shared facts holds (in_slot same points) at_first at_second at_third end lands =
      let g = c.active.function in
      let t = top source g k in
      let apart = lands_apart g e.locals kind d q c.frames k fat lands in
      let found = loaded_is_read kind (cell_at w object offset) k e w well in
      let v : Kinded = record { kind = kind; value = found.value } in
      let wide = found.same ∙ fat in
      let reads = cell_reads source c shared.related names facts.0 object offset (c.active.slots t) found.at found.there points in
      let content = subst (λ i. Is shared.tables i found.value reads.word 0) wide (reads.is found.value found.has) in
      let there : (slots : Words) (next j : ℕ) → AreMixed d reads.word c.active.slots slots → j < 3 → memory_at (lower_program source) (at (with_slots c slots) next) (add_of (c.active.slots t) (4 * j)) ≡ Some (reads.word j)
      = λ slots next j mixed below. reads_mixed c d found.at fat wide reads (comes_where g e.locals kind d q c.frames k fat lands) slots mixed (λ same few. sym (ap (λ (i : Kind). loaded_at (lower_program source) i (at (with_slots c slots) next) (add_of (c.active.slots t) (4 * j))) wide) ∙ read_there source c shared.related found.at found.there points reads slots next j same few) below in
      let after = all_in source shared.tables c d t apart found.value reads.word there content in
      by_path source pages calls (GivenPlace (Thin object offset)) (NeedsPlace (LoadFrom kind) ∷ k) e w c (Running (Given v) k e w) (load_links source shared.tables c d t apart found.value reads.word there content) (instructions.Load d (operands.Slot t) 0)
      found.gives shared
      (load_path source shared.tables c d t apart found.value reads.word there content
      (subst (λ n. At (code_of source g) n (instructions.Load (d + 2) (operands.Slot t) 8)) (sym same) at_first)
      (subst (λ n. At (code_of source g) (n + 1) (instructions.Load (d + 1) (operands.Slot t) 4)) (sym same) at_second))
      (subst (λ n. At (code_of source g) (n + 1 + 1) (instructions.Load d (operands.Slot t) 0)) (sym same) at_third)
      (λ choice. subst (Matches source pages calls (Running (Given v) k e w))
      (sym (load_last source shared.tables c d t apart found.value reads.word there content choice))
      (landed source pages calls v after d k e w (at c (c.active.next + 1 + 1)) q shared
      (subst (λ i. Is shared.tables i found.value after d) (sym fat) (loaded_is source shared.tables c d t apart found.value reads.word there content))
      (λ m out. loaded_elsewhere source shared.tables c d t apart found.value reads.word there content m (subst (λ i. Outside d (words_of_kind i) m) fat out))
      facts holds (ap (λ n. n + 1 + 1 + 1) same ∙ end) lands))
  loads_wide object offset d r q kind k e w c names fat well shared facts holds (by_word i word here goes same points) at_first at_second at_third end lands =
      let g = c.active.function in
      let t = top source g k in
      let base = floor source g k in
      let apart = lands_apart g e.locals kind d q c.frames k fat lands in
      let brings = put c.active.slots t word in
      let b : Configuration = advanced (with_slots c brings) in
      let facts_there : DataIn source shared.tables b.active.slots k e w b = data_written source shared.tables g c.active.base w.objects e.locals k c.active.slots brings c.active.handlers c.globals c.frames t 1 (height-least base (held k)) (λ m out. put_elsewhere c.active.slots t word 1 m (omega arith) out) facts in
      let found = loaded_is_read kind (cell_at w object offset) k e w well in
      let v : Kinded = record { kind = kind; value = found.value } in
      let wide = found.same ∙ fat in
      let points_there = subst (Points shared.tables object offset) (sym (put-same c.active.slots t word)) points in
      let reads = cell_reads source b shared.related names facts_there.0 object offset (b.active.slots t) found.at found.there points_there in
      let content = subst (λ i. Is shared.tables i found.value reads.word 0) wide (reads.is found.value found.has) in
      let there : (slots : Words) (next j : ℕ) → AreMixed d reads.word b.active.slots slots → j < 3 → memory_at (lower_program source) (at (with_slots b slots) next) (add_of (b.active.slots t) (4 * j)) ≡ Some (reads.word j)
      = λ slots next j mixed below. reads_mixed b d found.at fat wide reads (comes_where g e.locals kind d q c.frames k fat lands) slots mixed (λ same few. sym (ap (λ (i : Kind). loaded_at (lower_program source) i (at (with_slots b slots) next) (add_of (b.active.slots t) (4 * j))) wide) ∙ read_there source b shared.related found.at found.there points_there reads slots next j same few) below in
      let after = all_in source shared.tables b d t apart found.value reads.word there content in
      by_path source pages calls (GivenPlace (Thin object offset)) (NeedsPlace (LoadFrom kind) ∷ k) e w c (Running (Given v) k e w)
      (record { instruction = i; following = b } ∷ load_links source shared.tables b d t apart found.value reads.word there content) (instructions.Load d (operands.Slot t) 0)
      found.gives shared (
        here,
        goes,
        omega arith,
        is_quiet c b.active,
        load_path source shared.tables b d t apart found.value reads.word there content
            (subst (λ n. At (code_of source g) n (instructions.Load (d + 2) (operands.Slot t) 8)) (sym same) at_first)
            (subst (λ n. At (code_of source g) (n + 1) (instructions.Load (d + 1) (operands.Slot t) 4)) (sym same) at_second),
      )
      (subst (λ n. At (code_of source g) (n + 1 + 1) (instructions.Load d (operands.Slot t) 0)) (sym same) at_third)
      (λ choice. subst (Matches source pages calls (Running (Given v) k e w))
      (sym (load_last source shared.tables b d t apart found.value reads.word there content choice))
      (landed source pages calls v after d k e w (at b (b.active.next + 1 + 1)) q shared
      (subst (λ i. Is shared.tables i found.value after d) (sym fat) (loaded_is source shared.tables b d t apart found.value reads.word there content))
      (λ m out. loaded_elsewhere source shared.tables b d t apart found.value reads.word there content m (subst (λ i. Outside d (words_of_kind i) m) fat out))
      (data_written source shared.tables g c.active.base w.objects e.locals k c.active.slots brings c.active.handlers c.globals c.frames t 1 (height-least base (held k)) (λ m out. put_elsewhere c.active.slots t word 1 m (omega arith) out) facts)
      (Holds-same shared.tables c.active.slots brings base (held k) (λ m below. put_elsewhere c.active.slots t word 1 m (omega arith) (inl below)) holds)
      (ap (λ n. n + 1 + 1 + 1) same ∙ end) lands))

  loads_cell : (narrow : Bool) (object offset more : ℕ) (o : Operand) (d q : ℕ) (kind : Kind) (k : List Entry) (e : Environment) (w : World) (c : Configuration) → AreNamed source e.locals (callers k) w c.active.function c.active.base c.frames c.store → (words_of_kind kind == 1) ≡ narrow
      → IsWell (loaded kind (cell_at w object offset) k e w)
      → (shared : SharedAt source pages calls (NeedsPlace (LoadFrom kind) ∷ k) e w c) → DataIn source shared.tables c.active.slots k e w c → Holds shared.tables c.active.slots (floor source c.active.function k) (held k)
      → operand_word c.active.slots o < 2 ^ 32 → Points shared.tables object offset (add_of (operand_word c.active.slots o) more)
      → LoadedBy (code_of source c.active.function) narrow kind o more d (top source c.active.function k) c.active.next q → LandsStack source c.active.function e.locals kind d q c.frames k
      → IsMatched source pages calls (Running (GivenPlace (Thin object offset)) (NeedsPlace (LoadFrom kind) ∷ k) e w) (plain.Running c)
  loads_cell true object offset more o d q kind k e w c names narrow well shared facts holds small points (load, end) lands =
      let found = loaded_is_read kind (cell_at w object offset) k e w well in
      let v : Kinded = record { kind = kind; value = found.value } in
      let word = add_of (operand_word c.active.slots o) more in
      let reads = cell_reads source c shared.related names facts.0 object offset word found.at found.there points in
      let one = ap words_of_kind found.same ∙ eqb-true (words_of_kind kind) 1 narrow in
      let after = put c.active.slots d (reads.word 0) in
      by_one source pages calls found.gives shared load
      (λ choice. subst (Matches source pages calls (Running (Given v) k e w))
      (sym (loads_by (lower_program source) choice c kind d o more
      ∙ ap (λ (i : Kind). loads c d (loaded_at (lower_program source) i c word)) (sym found.same)
      ∙ ap (loads c d) (one_there reads one)))
      (landed source pages calls v after d k e w c q shared
      (subst (λ i. Is shared.tables i found.value after d) found.same (one_is reads one found.value found.has after d (put-same c.active.slots d (reads.word 0))))
      (λ m out. put_elsewhere c.active.slots d (reads.word 0) (words_of_kind kind) m (kind_positive kind) out) facts holds end lands))
  loads_cell false object offset more o d q kind k e w c names wide well shared facts holds small points (r, address, first, second, third, end) lands =
      loads_wide object offset d r q kind k e w c names (wide_kind kind wide) well shared facts holds (brought source shared.tables object offset more o (top source c.active.function k) r c small points address) first second third end lands

  -- The step after the address of a cell has been evaluated.
  pub given_place : (place : Value) (k : List Entry) (e : Environment) (w : World) (c : Configuration) → AreNamed source e.locals (callers k) w c.active.function c.active.base c.frames c.store → IsStep source pages calls (GivenPlace place) k e w c
  given_place (Thin object offset) (NeedsPlace (LoadFrom kind) ∷ k) e w c names well (shared, facts, (o, more, small, points, holds, (d, q, load, lands))) =
      loads_cell (words_of_kind kind == 1) object offset more o d q kind k e w c names refl well shared facts holds small points load lands
  given_place (Thin object offset) (NeedsPlace TakeAddress ∷ k) e w c names well (shared, facts, (o, more, small, points, holds, (d, q, address, lands))) =
      takes_address object offset more o d q k e w c shared facts holds (brought source shared.tables object offset more o d q c small points address) lands
  given_place (Thin object offset) (NeedsPlace (StoreTo peek (Convert from to a)) ∷ k) e w c names well (shared, facts, (o, more, small, points, holds, (x, s, u, q, address, at_a, store, hands))) =
      stores_to from to a peek object offset k e w c s shared facts holds (brought source shared.tables object offset more o (top source c.active.function k) s c small points address)
      (x, u, q, at_a, store, hands)
  given_place (Thin object offset) (NeedsPlace (SwapLeft kind peek right) ∷ k) e w c names well (shared, facts, (o, more, small, points, holds, (exits, x, m, r, q, has, address, at_right, exchange, stack))) =
      left_found source pages calls object offset kind peek right k e w c well shared facts (brought source shared.tables object offset more o (floor source c.active.function k) m c small points address)
      (exits, x, r, q, has, at_right, exchange, stack)
  given_place (Thin object offset) (NeedsPlace (SwapRight kind peek is_cell left) ∷ k) e w c names well (shared, facts, (o, more, small, points, holds, (exits, a, y, m, q, has, is_left, address, exchange, stack))) =
      right_found source pages calls object offset kind peek is_cell left a k e w c shared facts holds (brought source shared.tables object offset more o (right_slot a (floor source c.active.function k)) m c small points address)
      is_left (exits, y, q, has, exchange, stack)
  given_place (Thin object offset) k e w c names well (shared, facts, (o, more, small, points, holds, place)) = absurd place
  given_place place k e w c names well (shared, facts, at) = absurd at
