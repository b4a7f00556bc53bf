-- This file proves the steps that pass a value to an assigned variable or cell, and then to the code that uses the value of the assignment.
use Rattle.std.proofs.Common.{◌≡◌, ◌≢◌, ℕ, ◌+◌, ◌<◌, Bool, true, false, List, [], ◌∷◌, Option, Some, refl, sym, ap, subst, ◌∙◌, arith, inl, inr, length, ◌*◌, ◌++◌, ◌≤◌}
use Rattle.std.specs.Prelude.{◌==◌}
use Rattle.std.proofs.lemmas.Bool.{eqb-true}
use Rattle.std.proofs.lemmas.Option.{same_Some}
use Rattle.cyc_words.specs.Word.{add_of, IsWord as IsMachineWord}
use Rattle.cyc_words.proofs.Members.{All_at}
use Rattle.cyc_types.specs.declared.typed.Kind.{Kind}
use Rattle.cyc_types.specs.declared.typed.Kind.TheVariants as kinds
use Rattle.cyc_types.specs.TypedTrees.{Lvalue, Local, Global, Program}
use Rattle.cyc_plain.specs.declared.instruction.Operand.{Operand}
use Rattle.cyc_plain.specs.declared.instruction.Operand.TheVariants as operands
use Rattle.cyc_plain.specs.declared.instruction.Instruction.{Instruction}
use Rattle.cyc_plain.specs.inside.State as plain
use Rattle.cyc_plain.specs.inside.State.{Words, Configuration}
use Rattle.cyc_plain.specs.inside.Step.{Choice, operand_word, with_slots, at, advanced, gives, performed}
use Rattle.cyc_plain.specs.inside.Step as plain_step
use Rattle.cyc_plain.specs.inside.Program.{CodePlace, no_routine}
use Rattle.cyc_plain.specs.inside.WellFormed.{HasWord, HasWords}
use Rattle.cyc_plain.proofs.Steps.{function_known}
use Rattle.cyc_plain.specs.inside.Straight.{At}
use Rattle.cyc_meaning.specs.Values.{Value, Thin, Operand as Kinded, words_of_kind}
use Rattle.cyc_meaning.specs.State.{World, Environment, written, Store, Entry, Needs, Focus, Given, Running, cell_at, StoreCell}
use Rattle.cyc_meaning.specs.Step.{object_of, stored_at, step}
use Rattle.cyc_lower_proof.specs.inside.Slots.{slot_of, global_of, global_types}
use Rattle.cyc_lower_proof.proofs.slots.Slots.{slot-room, global-inside}
use Rattle.cyc_lower_proof.proofs.slots.Widths.{kind_positive, HasRoom, Outside, wide_kind}
use Rattle.cyc_lower_proof.proofs.relation.contents.Moves.{moved_slots, moves, moved_elsewhere, moved_is}
use Rattle.cyc_lower_proof.specs.inside.ValueCode.{is_in, move_of, store_of}
use Rattle.cyc_lower_proof.specs.inside.Lowering.{lower_program}
use Rattle.cyc_lower_proof.proofs.relation.code.Stands.{CopyBy, CopyAt, StoresAt}
use Rattle.cyc_memory_relation.specs.inside.Tables.{Tables}
use Rattle.cyc_memory_relation.specs.inside.Words.{Points, Is}
use Rattle.cyc_lower_proof.proofs.relation.contents.Sharing.{shared_written, shared_beside}
use Rattle.cyc_lower_proof.proofs.relation.contents.HeldValues.{IsWord, IsIn, Holds, held, contents, callers, IsCharAt}
use Rattle.cyc_lower_proof.proofs.relation.simulation.Relation.{DataIn, SharedAt, in_operand, nowhere, ahead, Related, Matches}
use Rattle.cyc_lower_proof.proofs.relation.simulation.Stacks.{types_on, starts_on, types_at, starts_at, in_temporary, in_local, drops, leaves, copies, StoreAt, ValueStack, DroppedStack, AheadStack, LandsStack, HandsOnStack, code_of, bounds_at, top, floor, base_of}
use Rattle.cyc_lower_proof.proofs.relation.simulation.Shared.{seen_in, shared_seen}
use Rattle.cyc_lower_proof.proofs.object_steps.Handles.{kept_holds}
use Rattle.cyc_lower_proof.proofs.relation.contents.Data.{IsWord-is, one_word, height-least, Holds-above, data_assigned, data_assigned_global, Is-same}
use Rattle.cyc_lower_proof.proofs.relation.contents.HandlerData.{floor-least, handlers_beside}
use Rattle.cyc_lower_proof.proofs.relation.simulation.Accesses.{IsWell, is_stored, written_here, written_elsewhere, written_length}
use Rattle.cyc_lower_proof.proofs.place_steps.PlaceWords.{stays, cell_kind, word_is}
use Rattle.cyc_lower_proof.proofs.place_steps.CellWrites.{cell_is_there, with_word, saves_there, shared_saved, data_saved, above_there, frames_there, word_stays}
use Rattle.cyc_lower_proof.proofs.relation.simulation.Weights.{weight}
use Rattle.cyc_lower_proof.proofs.relation.simulation.Matched.{IsMatched, silently, by_one, by_two, shared_within, by_two_known, seen_way}
use Rattle.cyc_lower_proof.proofs.relation.simulation.Paths.{Link, IsPath, end_of, by_path}
use Rattle.cyc_lower_proof.proofs.place_steps.WideCells.{store_links, stored, store_path, all_path, store_last, shared_stored, data_stored, IsStanding, above_stored, frames_stored, value_stays}
use Rattle.cyc_lower_proof.proofs.value_steps.Landings.{landed_moved, object_of_same}
use Rattle.cyc_lower_proof.proofs.value_steps.GlobalSteps.{stored_globals, stored_elsewhere, stored_is, global_links, is_stored_by, by_links}
use Rattle.cyc_lower_proof.proofs.relation.places.Known.{IsGlobalRow}
use Rattle.cyc_lower_proof.proofs.relation.places.Rows.{local-row, char_cell}
use Rattle.cyc_lower_proof.proofs.relation.places.Leads.{AreNamed}
use Rattle.cyc_lower_proof.proofs.relation.code.Moving.{hands_moves}
use Rattle.cyc_lower_proof.proofs.place_steps.KindWords.{saved_at, saves_by}
use Rattle.cyc_lower_proof.proofs.value_steps.Conversions.{Stands, GoesAfter}

module _ (source : Program) (pages calls : ℕ) where
  -- ---- assignments

  -- The value of an assignment is at its destination, or one instruction moves it there.
  pub data Handed (v : Kinded) (k : List Entry) (e : Environment) (w : World) (c : Configuration) : Type 0 where
    at_once : Related source pages calls (Given v) k e w c → Handed v k e w c
    by_copy : (i : Instruction) → At (code_of source c.active.function) c.active.next i
        → ((choice : Choice) → Matches source pages calls (Running (Given v) k e w) (performed (lower_program source) choice c i)) → Handed v k e w c

  -- A value that is already in the slot of its destination needs no move.
  pub landed_there : (v : Kinded) (d : ℕ) (k : List Entry) (e : Environment) (w : World) (c : Configuration) (q : ℕ) → Stands source pages calls v (operands.Slot d) k e w c → c.active.next ≡ q
      → LandsStack source c.active.function e.locals v.kind d q c.frames k → Related source pages calls (Given v) k e w c
  landed_there v d k e w c q (shared, facts, is, holds) end (in_temporary least stack) =
      (shared, in_operand (operands.Slot d) facts is (kept_holds _ _ _ k holds) (subst (λ r. ValueStack source c.active.function e.locals v.kind (operands.Slot d) r c.frames k) (sym end) stack))
  landed_there v d k e w c q (shared, facts, is, holds) end (in_local below stack) = (
    shared,
    ahead d (c.active.slots, λ m out. refl, facts) is (kept_holds _ _ _ k holds) (subst (λ r. AheadStack source c.active.function e.locals v.kind d r c.frames k) (sym end) stack),
  )

  copied : (b : Bool) (v : Kinded) (o : Operand) (d : ℕ) (k : List Entry) (e : Environment) (w : World) (c : Configuration) (q : ℕ) → is_in o d ≡ b → Stands source pages calls v o k e w c
      → CopyBy (code_of source c.active.function) b (words_of_kind v.kind) o d c.active.next q → LandsStack source c.active.function e.locals v.kind d q c.frames k → Handed v k e w c
  copied true v (operands.Slot n) d k e w c q same stands end lands =
      at_once (landed_there v d k e w c q (subst (λ x. Stands source pages calls v (operands.Slot x) k e w c) (eqb-true n d same) stands) end lands)
  copied true v (operands.Word n) d k e w c q same stands end lands = absurd (let f : false ≡ true = same in cc)
  copied false v o d k e w c q same (shared, facts, is, holds) (here, end) lands =
      by_copy (move_of (words_of_kind v.kind) d o) here (λ choice. landed_moved source pages calls v o d k e w c q choice shared is facts holds end lands)

  handed : (v : Kinded) (o : Operand) (k : List Entry) (e : Environment) (w : World) (c : Configuration) (q : ℕ) → c.active.next ≡ q → Stands source pages calls v o k e w c
      → HandsOnStack source c.active.function e.locals v.kind o q c.frames k → Handed v k e w c
  handed v o k e w c q here (shared, facts, is, holds) (drops stack) =
      at_once (shared, nowhere facts (subst (λ r. DroppedStack source c.active.function r c.frames k) (sym here) stack))
  handed v o k e w c q here (shared, facts, is, holds) (leaves stack) =
      at_once (shared, in_operand o facts is (kept_holds _ _ _ k holds) (subst (λ r. ValueStack source c.active.function e.locals v.kind o r c.frames k) (sym here) stack))
  handed v o k e w c q here stands (copies d r copy lands) =
      copied (is_in o d) v o d k e w c r refl stands (subst (λ x. CopyAt (code_of source c.active.function) (words_of_kind v.kind) o d x r) (sym here) copy) lands

  -- After one instruction or none, a source step passes the assigned value to the next continuation frame.
  hands_after : {focus : Focus} {before : List Entry} {w0 : World} {i : Instruction} (v : Kinded) (k : List Entry) (e : Environment) (w : World) (c d : Configuration)
      → step source (Running focus before e w0) ≡ Running (Given v) k e w → SharedAt source pages calls before e w0 c → SharedAt source pages calls before e w0 d
      → At (code_of source c.active.function) c.active.next i → ((choice : Choice) → performed (lower_program source) choice c i ≡ plain.Running d) → c.active.next ≢ d.active.next
      → Handed v k e w d → IsMatched source pages calls (Running focus before e w0) (plain.Running c)
  hands_after {focus} {before} {w0} {i} v k e w c d does shared shared_d here first other (at_once related) =
      by_one source pages calls does shared here (λ choice. subst (Matches source pages calls (Running (Given v) k e w)) (sym (first choice)) related)
  hands_after {focus} {before} {w0} {i} v k e w c d does shared shared_d here first other (by_copy j at goes) =
      by_two source pages calls d does shared shared_d here first at other goes

  -- After several instructions, a source step passes the assigned value to the next continuation frame.
  hands_through : {focus : Focus} {before : List Entry} {w0 : World} (v : Kinded) (k : List Entry) (e : Environment) (w : World) (c d : Configuration) (links : List Link) → 0 < length links
      → step source (Running focus before e w0) ≡ Running (Given v) k e w → SharedAt source pages calls before e w0 c → IsPath source c links → end_of c links ≡ d
      → Handed v k e w d → IsMatched source pages calls (Running focus before e w0) (plain.Running c)
  hands_through {focus} {before} {w0} v k e w c d links some does shared path end (at_once related) =
      by_links source pages calls focus before e w0 c (Running (Given v) k e w) links some does shared path (subst (λ x. Matches source pages calls (Running (Given v) k e w) (plain.Running x)) (sym end) related)
  hands_through {focus} {before} {w0} v k e w c d links some does shared path end (by_copy j here goes) =
      by_path source pages calls focus before e w0 c (Running (Given v) k e w) links j does shared path (subst (λ x. At (code_of source x.active.function) x.active.next j) (sym end) here)
      (λ choice. subst (λ x. Matches source pages calls (Running (Given v) k e w) (performed (lower_program source) choice x j)) (sym end) (goes choice))

  -- Holds if an operand contains the word of the value in this configuration.
  abbrev IsWordNow : Configuration → Kinded → Operand → Type 0
  IsWordNow c v o = (t : Tables) → IsIn t v c.active.slots o → IsWord t v.kind v.value (operand_word c.active.slots o)

  -- A source step stores a value, and after several instructions the value is passed to the next continuation frame.
  hands_stored : {i : Instruction} (v : Kinded) (before : List Entry) (k : List Entry) (e : Environment) (w0 w : World) (c d : Configuration) (links : List Link)
      → step source (Running (Given v) before e w0) ≡ Running (Given v) k e w → SharedAt source pages calls before e w0 c → IsPath source c links
      → At (code_of source (end_of c links).active.function) (end_of c links).active.next i → ((choice : Choice) → performed (lower_program source) choice (end_of c links) i ≡ plain.Running d)
      → (IsPath source c links → IsPath source c (links ++ record { instruction = i; following = d } ∷ [])) → end_of c (links ++ record { instruction = i; following = d } ∷ []) ≡ d
      → Handed v k e w d → IsMatched source pages calls (Running (Given v) before e w0) (plain.Running c)
  hands_stored {i} v before k e w0 w c d links does shared path here last longer ends (at_once related) =
      by_path source pages calls (Given v) before e w0 c (Running (Given v) k e w) links i does shared path here (λ choice. subst (Matches source pages calls (Running (Given v) k e w)) (sym (last choice)) related)
  hands_stored {i} v before k e w0 w c d links does shared path here last longer ends (by_copy j at goes) =
      by_path source pages calls (Given v) before e w0 c (Running (Given v) k e w) (links ++ record { instruction = i; following = d } ∷ []) j does shared (longer path)
      (subst (λ (x : Configuration). At (code_of source x.active.function) x.active.next j) (sym ends) at)
      (λ choice. subst (λ (x : Configuration). Matches source pages calls (Running (Given v) k e w) (performed (lower_program source) choice x j)) (sym ends) (goes choice))

  -- A source step stores a value in memory, and after several instructions the value is passed to the next continuation frame.
  hands_saved : {i : Instruction} (v : Kinded) (before : List Entry) (k : List Entry) (e : Environment) (w0 w : World) (c d : Configuration)
      → step source (Running (Given v) before e w0) ≡ Running (Given v) k e w → SharedAt source pages calls before e w0 c → plain_step.is_within pages calls (plain.Running d) ≡ true → plain.seen_of (plain.Running d) ≡ seen_in w0
      → At (code_of source c.active.function) c.active.next i → ((choice : Choice) → performed (lower_program source) choice c i ≡ plain.Running d) → c.active.next ≢ d.active.next
      → Handed v k e w d → IsMatched source pages calls (Running (Given v) before e w0) (plain.Running c)
  hands_saved {i} v before k e w0 w c d does shared within_d same here first other (at_once related) =
      by_one source pages calls does shared here (λ choice. subst (Matches source pages calls (Running (Given v) k e w)) (sym (first choice)) related)
  hands_saved {i} v before k e w0 w c d does shared within_d same here first other (by_copy j at goes) =
      by_two_known source pages calls d does shared within_d (seen_way source pages calls (Given v) before e w0 d same) here first at other goes

  hands_at_once : (v : Kinded) (before : List Entry) (k : List Entry) (e : Environment) (w0 w : World) (c : Configuration)
      → step source (Running (Given v) before e w0) ≡ Running (Given v) k e w → SharedAt source pages calls before e w0 c
      → weight (Running (Given v) k e w) < weight (Running (Given v) before e w0) → Handed v k e w c → GoesAfter source pages calls v before e w0 c
  hands_at_once v before k e w0 w c does shared lighter (at_once related) = silently source pages calls (Running (Given v) before e w0) (Running (Given v) k e w) (plain.Running c) does related lighter
  hands_at_once v before k e w0 w c does shared lighter (by_copy i at goes) = by_one source pages calls does shared at goes

  stores : (object : ℕ) (v : Kinded) (l : Lvalue) (o to : Operand) (k : List Entry) (e : Environment) (w : World) (c : Configuration) (q : ℕ)
      → object_of e l ≡ Some object → IsWell (stored_at (Thin object 0) v (Given v) k e w) → Stands source pages calls v o k e w c
      → StoreAt source c.active.function v.kind l o to c.active.next q → HandsOnStack source c.active.function e.locals v.kind to q c.frames k
      → GoesAfter source pages calls v (Needs (Store (Thin object 0)) ∷ k) e w c
  stores object v (Local p n) o to k e w c q found well (shared, facts, is, holds) (here, end, there, room) hands =
      let g = c.active.function in
      let words = words_of_kind v.kind in
      let stored = is_stored object v (Given v) k e w well in
      let slot = slot_of (starts_on source g k) n in
      let inside = slot-room (types_on source g k) n (facts.0.2.within n object found).0 in
      let slots = moved_slots c.active.slots words slot o in
      let elsewhere : (m : ℕ) → Outside slot words m → slots m ≡ c.active.slots m = λ m out. moved_elsewhere c.active.slots words slot o m (kind_positive v.kind) out in
      let moved = moved_is shared.tables v c.active.slots slot o is in
      let after : Configuration = advanced (with_slots c slots) in
      let next = written w object 0 stored.at v.value in
      hands_after v k e next c after stored.gives shared shared here (λ choice. moves (lower_program source) choice c words slot o) (λ same. omega (arith, same))
      (handed v to k e next after q end (
        shared_written source pages calls k e w after shared object stored.at v.value stored.object_there stored.cell_there (local-row (global_types source.globals) (facts.0.2.rows n object found)),
        (
          data_assigned shared.tables source g c.active.base w.objects next.objects e.locals (callers k) c.active.slots slots c.globals c.frames n object v found
              (written_here w object stored.at v.value stored.object_there stored.cell_there v.kind stored.same) (written_elsewhere w object stored.at v.value stored.object_there stored.cell_there)
              (written_length w object stored.at v.value stored.object_there stored.cell_there) room moved
              (λ is_char. sym stored.same ∙ char_cell shared.related object stored.at.object stored.at.cell stored.object_there stored.cell_there is_char) elsewhere facts.0,
          handlers_beside source g c.active.slots slots c.active.handlers c.frames k slot words (omega (arith, inside, room)) elsewhere facts.1,
        ),
        subst (IsIn shared.tables v slots) (sym there) moved,
        Holds-above shared.tables c.active.slots slots (floor source g k) (held k) (λ m above. elsewhere m (inr (omega (arith, inside, room, above, floor-least source g k)))) holds,
      ) hands)
  stores object v (Global n) o to k e w c q found well (shared, facts, is, holds) (at_c, there, room) hands =
      let g = c.active.function in
      let words = words_of_kind v.kind in
      let stored = is_stored object v (Given v) k e w well in
      let same : n ≡ object = same_Some n object found in
      let few = global-inside (types_at source g) n v.kind room in
      let first = global_of (starts_at source g) n in
      let by = is_stored_by source c words first o q (kind_positive v.kind) at_c in
      let globals = stored_globals c.active.slots c.globals words first o in
      let after : Configuration = advanced (record (at c by.last) { globals = globals }) in
      let next = written w object 0 stored.at v.value in
      hands_through v k e next c after (global_links c words first o) by.some stored.gives shared by.path by.leads
      (handed v to k e next after q by.end (
        shared_written source pages calls k e w after
            (shared_beside source pages calls k e w c shared globals)
            object stored.at v.value stored.object_there stored.cell_there (inr (inl (subst (IsGlobalRow shared.tables (global_types source.globals)) same (facts.0.4 n few).0))),
        (
          data_assigned_global shared.tables source g c.active.base w.objects next.objects e.locals (callers k) c.active.slots c.globals globals c.frames n v room
              (ap (contents next.objects) same ∙ written_here w object stored.at v.value stored.object_there stored.cell_there v.kind stored.same)
              (λ i other. written_elsewhere w object stored.at v.value stored.object_there stored.cell_there i (λ equal. other (equal ∙ sym same)))
              (written_length w object stored.at v.value stored.object_there stored.cell_there) (stored_is shared.tables v c.active.slots c.globals first o is)
              (λ is_char. sym stored.same ∙ char_cell shared.related object stored.at.object stored.at.cell stored.object_there stored.cell_there (subst (IsCharAt shared.tables) same is_char))
              (λ m out. stored_elsewhere c.active.slots c.globals words first o m (kind_positive v.kind) out) facts.0,
          facts.1,
        ),
        subst (IsIn shared.tables v c.active.slots) (sym there) is,
        holds,
      ) hands)

  pub stores_at : (place : Value) (v : Kinded) (o : Operand) (k : List Entry) (e : Environment) (w : World) (c : Configuration)
      → IsWell (step source (Running (Given v) (Needs (Store place) ∷ k) e w)) → Stands source pages calls v o k e w c
      → ValueStack source c.active.function e.locals v.kind o c.active.next c.frames (Needs (Store place) ∷ k) → GoesAfter source pages calls v (Needs (Store place) ∷ k) e w c
  stores_at place v o k e w c well stands (l, to, q, here, (object, place_is, found), hands) =
      subst (λ p. GoesAfter source pages calls v (Needs (Store p) ∷ k) e w c) (sym place_is)
      (stores object v l o to k e w c q (sym (object_of_same l e) ∙ found) (subst (λ p. IsWell (stored_at p v (Given v) k e w)) place_is well) stands here hands)

  -- A constant operand that a store instruction writes is a 32-bit word.
  stored_has : (kind : Kind) (address : Operand) (bytes n : ℕ) → HasWord (store_of kind address bytes (operands.Word n)) → IsMachineWord n
  stored_has kinds.Char address bytes n has = has.2
  stored_has kind address bytes n has = has.2

  stored_word : (c : Configuration) → HasWords (lower_program source) → plain.HoldsWords (plain.Running c) → (kind : Kind) (p : ℕ) (address : Operand) (bytes : ℕ) (o : Operand)
      → At (code_of source c.active.function) p (store_of kind address bytes o) → IsMachineWord (operand_word c.active.slots o)
  stored_word c of_words words kind p address bytes (operands.Slot n) here = words.0 n
  stored_word c of_words words kind p address bytes (operands.Word n) here =
      let g = c.active.function in
      let place : CodePlace = record { function = g; index = p } in
      stored_has kind address bytes n
      (All_at HasWord (code_of source g) p (store_of kind address bytes (operands.Word n))
      (of_words.functions g no_routine (function_known (lower_program source) place (store_of kind address bytes (operands.Word n)) here)) here)

  -- Writing the word of a one-word value over slots that already hold this word does not change the value in an operand.
  stays_in : (t : Tables) (v : Kinded) (o : Operand) (slots other : Words) → ((n : ℕ) → slots n ≡ operand_word slots o → other n ≡ operand_word slots o) → IsWord t v.kind v.value (operand_word slots o) → IsIn t v slots o → IsIn t v other o
  stays_in t v (operands.Slot n) slots other same tells is = IsWord-is t v.kind v.value (slots n) other n (same n refl) tells
  stays_in t v (operands.Word w) slots other same tells is = is

  -- A value of one word is stored in a cell, whose address waits in a temporary. After the store, the value of one word is passed to
  -- the next continuation frame.
  stores_word : (peek : Option ℕ) (object offset : ℕ) (v : Kinded) (o : Operand) (q : ℕ) (k : List Entry) (e : Environment) (w : World) (c : Configuration) → HasWords (lower_program source) → plain.HoldsWords (plain.Running c) → AreNamed source e.locals (callers k) w c.active.function c.active.base c.frames c.store
      → IsWell (step source (Running (Given v) (Needs (StoreCell peek (Thin object offset)) ∷ k) e w)) → Stands source pages calls v o (Needs (StoreCell peek (Thin object offset)) ∷ k) e w c
      → IsWordNow c v o → At (code_of source c.active.function) c.active.next (store_of v.kind (operands.Slot (top source c.active.function k)) 0 o) → c.active.next + 1 ≡ q
      → HandsOnStack source c.active.function e.locals v.kind o q c.frames k → GoesAfter source pages calls v (Needs (StoreCell peek (Thin object offset)) ∷ k) e w c
  stores_word peek object offset v o q k e w c of_words words names well (shared, facts, is, (is_place, holds)) tells here end hands =
      let g = c.active.function in
      let free = top source g k in
      let address = add_of (c.active.slots free) 0 in
      let word = operand_word c.active.slots o in
      let points : Points shared.tables object offset address = stays is_place in
      let (at, found, same, gives) = cell_is_there (cell_at w object offset) object offset v (Given v) k e w well in
      let is_word = subst (λ i. IsWord shared.tables i v.value word) (sym same) (tells shared.tables is) in
      let fits = stored_word c of_words words v.kind c.active.next (operands.Slot free) 0 o here in
      let after : Configuration = advanced (with_word source pages calls k e w c shared names facts object offset address word at v.value found points is_word fits) in
      let next = written w object offset at v.value in
      let saves_it = saves_there source pages calls k e w c shared names facts object offset address word at v.value found points is_word fits in
      let saved : (choice : Choice) → performed (lower_program source) choice c (store_of v.kind (operands.Slot free) 0 o) ≡ plain.Running after
      = λ choice. saves_by (lower_program source) choice c v.kind (operands.Slot free) 0 o ∙ ap (λ (i : Kind). saved_at (lower_program source) i c address word) (sym same) ∙ saves_it in
      let kept : SharedAt source pages calls k e next after = shared_saved source pages calls k e w c shared names facts object offset address word at v.value found points is_word fits in
      let facts_kept : DataIn source shared.tables after.active.slots k e next after = data_saved source pages calls k e w c shared names facts object offset address word at v.value found points is_word fits in
      hands_saved v (Needs (StoreCell peek (Thin object offset)) ∷ k) k e w next c after gives shared (shared_within source pages calls k e next after kept) (shared_seen shared) here saved
      (λ equal. omega (arith, equal))
      (handed v o k e next after q end (
        kept,
        facts_kept,
        stays_in shared.tables v o c.active.slots after.active.slots (λ m holds. word_stays source pages calls k e w c shared names facts object offset address word at v.value found points is_word fits m holds) (tells shared.tables is) is,
        Holds-above shared.tables c.active.slots after.active.slots (floor source g k) (held k) (λ m above. above_there source pages calls k e w c shared names facts object offset address word at v.value found points is_word fits m (omega (arith, above, floor-least source g k))) holds,
      ) (hands_moves source g e.locals v.kind o q c.frames after.frames (frames_there source pages calls k e w c shared names facts object offset address word at v.value found points is_word fits) k hands))

  -- A value of three words is stored in a cell, whose address waits in a temporary. After the store, the value of three words is passed to
  -- the next continuation frame.
  stores_words : (peek : Option ℕ) (object offset : ℕ) (v : Kinded) (n q : ℕ) (k : List Entry) (e : Environment) (w : World) (c : Configuration) → plain.HoldsWords (plain.Running c) → AreNamed source e.locals (callers k) w c.active.function c.active.base c.frames c.store
      → IsWell (step source (Running (Given v) (Needs (StoreCell peek (Thin object offset)) ∷ k) e w)) → Stands source pages calls v (operands.Slot n) (Needs (StoreCell peek (Thin object offset)) ∷ k) e w c
      → IsStanding source c.active.function n → v.kind ≡ kinds.Fat → StoresAt (code_of source c.active.function) (bounds_at source c.active.function) (types_on source c.active.function k) kinds.Fat 3 (top source c.active.function k) 0 n c.active.next q
      → HandsOnStack source c.active.function e.locals v.kind (operands.Slot n) q c.frames k → GoesAfter source pages calls v (Needs (StoreCell peek (Thin object offset)) ∷ k) e w c
  stores_words peek object offset v n q k e w c words names well (shared, facts, is, (is_place, holds)) standing fat (at_first, (at_second, (at_third, end))) hands =
      let g = c.active.function in
      let free = top source g k in
      let place = c.active.slots free in
      let temporary : base_of source g ≤ free = omega (arith, floor-least source g k, height-least (floor source g k) (held k)) in
      let (cell, found, same, gives) = cell_is_there (cell_at w object offset) object offset v (Given v) k e w well in
      let wide = same ∙ fat in
      let fat_is = subst (λ i. Is shared.tables i v.value c.active.slots n) fat is in
      let there = cell_kind shared.related cell is_place found in
      let following : (j : ℕ) → j < 3 → add_of place (4 * j) ≡ place + 4 * j = λ j below. word_is is_place cell.cell.kind j there (omega (arith, below, ap words_of_kind wide)) in
      let first = following 0 (omega arith) in
      let second = following 1 (omega arith) in
      let third = following 2 (omega arith) in
      let after = stored source pages calls k e w c shared names facts object offset place free 0 n temporary standing cell v.value found is_place wide fat_is words first second third in
      let next = written w object offset cell v.value in
      let kept : SharedAt source pages calls k e next after = shared_stored source pages calls k e w c shared names facts object offset place free 0 n temporary standing cell v.value found is_place wide fat_is words first second third in
      let facts_kept : DataIn source shared.tables after.active.slots k e next after = data_stored source pages calls k e w c shared names facts object offset place free 0 n temporary standing cell v.value found is_place wide fat_is words first second third in
      hands_stored v (Needs (StoreCell peek (Thin object offset)) ∷ k) k e w next c after
      (store_links source pages calls k e w c shared names facts object offset place free 0 n temporary standing cell v.value found is_place wide fat_is words first second third)
      gives shared
      (store_path source pages calls k e w c shared names facts object offset place free 0 n temporary standing cell v.value found is_place wide fat_is words first second third at_first at_second)
      at_third (store_last source pages calls k e w c shared names facts object offset place free 0 n temporary standing cell v.value found is_place wide fat_is words first second third)
      (λ path. all_path source pages calls k e w c shared names facts object offset place free 0 n temporary standing cell v.value found is_place wide fat_is words first second third at_first at_second at_third) refl
      (handed v (operands.Slot n) k e next after q end (
        kept,
        facts_kept,
        Is-same shared.tables v.kind v.value c.active.slots after.active.slots n n (λ j below. value_stays source pages calls k e w c shared names facts object offset place free 0 n temporary standing cell v.value found is_place wide fat_is words first second third j (omega (arith, below, ap words_of_kind fat))) is,
        Holds-above shared.tables c.active.slots after.active.slots (floor source g k) (held k) (λ m above. above_stored source pages calls k e w c shared names facts object offset place free 0 n temporary standing cell v.value found is_place wide fat_is words first second third m (omega (arith, above, floor-least source g k))) holds,
      ) (hands_moves source g e.locals v.kind (operands.Slot n) q c.frames after.frames (frames_stored source pages calls k e w c shared names facts object offset place free 0 n temporary standing cell v.value found is_place wide fat_is words first second third) k hands))

  pub stores_cell : (peek : Option ℕ) (place : Value) (v : Kinded) (o : Operand) (k : List Entry) (e : Environment) (w : World) (c : Configuration) → HasWords (lower_program source) → plain.HoldsWords (plain.Running c) → AreNamed source e.locals (callers k) w c.active.function c.active.base c.frames c.store
      → IsWell (step source (Running (Given v) (Needs (StoreCell peek place) ∷ k) e w)) → Stands source pages calls v o (Needs (StoreCell peek place) ∷ k) e w c
      → ValueStack source c.active.function e.locals v.kind o c.active.next c.frames (Needs (StoreCell peek place) ∷ k) → GoesAfter source pages calls v (Needs (StoreCell peek place) ∷ k) e w c
  stores_cell peek (Thin object offset) v (operands.Word x) k e w c of_words words names well stands (q, (here, end), hands) =
      stores_word peek object offset v (operands.Word x) q k e w c of_words words names well stands (λ t is. is) here end hands
  stores_cell peek (Thin object offset) v (operands.Slot n) k e w c of_words words names well stands (q, (here, apart), hands) = by (words_of_kind v.kind == 1) refl
    where
      stands_where : v.kind ≡ kinds.Fat → IsStanding source c.active.function n
      stands_where fat = elim apart [
        | inl one ↦ absurd (omega (arith, one, ap words_of_kind fat))
        | inr several ↦ elim several [
          | inl following ↦ inl (omega (arith, following, floor-least source c.active.function k, height-least (floor source c.active.function k) (held k)))
          | inr (number, inside, start, room) ↦ inr (number, inside, start, omega (arith, room, ap words_of_kind fat))
        ]
      ]

      by : (narrow : Bool) → (words_of_kind v.kind == 1) ≡ narrow → GoesAfter source pages calls v (Needs (StoreCell peek (Thin object offset)) ∷ k) e w c
      by true narrow =
          let g = c.active.function in
          let one = eqb-true (words_of_kind v.kind) 1 narrow in
          let (store, end) = subst (λ m. StoresAt (code_of source g) (bounds_at source g) (types_on source g k) v.kind m (top source g k) 0 n c.active.next q) one here in
          stores_word peek object offset v (operands.Slot n) q k e w c of_words words names well stands (λ t is. one_word t v.kind v.value c.active.slots n one is) store end hands
      by false wide =
          let g = c.active.function in
          let fat = wide_kind v.kind wide in
          stores_words peek object offset v n q k e w c words names well stands (stands_where fat) fat
          (subst (λ i. StoresAt (code_of source g) (bounds_at source g) (types_on source g k) i (words_of_kind i) (top source g k) 0 n c.active.next q) fat here) hands
  stores_cell peek place v o k e w c of_words words names well stands stack = absurd (well refl)

  -- The slots of the local already hold the value when the source assigns it to the local.
  pub catches_up : (object n : ℕ) (old : Words) (v : Kinded) (k : List Entry) (e : Environment) (w : World) (c : Configuration) (shared : SharedAt source pages calls k e w c)
      → e.locals n ≡ Some object → IsWell (stored_at (Thin object 0) v (Given v) k e w)
      → ((m : ℕ) → Outside (slot_of (starts_on source c.active.function k) n) (words_of_kind v.kind) m → old m ≡ c.active.slots m) → DataIn source shared.tables old k e w c
      → HasRoom (types_at source c.active.function) n v.kind
      → Is shared.tables v.kind v.value c.active.slots (slot_of (starts_on source c.active.function k) n) → Holds shared.tables c.active.slots (floor source c.active.function k) (held k)
      → HandsOnStack source c.active.function e.locals v.kind (operands.Slot (slot_of (starts_on source c.active.function k) n)) c.active.next c.frames k → GoesAfter source pages calls v (Needs (Store (Thin object 0)) ∷ k) e w c
  catches_up object n old v k e w c shared found well same facts room is holds hands =
      let g = c.active.function in
      let stored = is_stored object v (Given v) k e w well in
      let next = written w object 0 stored.at v.value in
      let inside = slot-room (types_on source g k) n (facts.0.2.within n object found).0 in
      hands_at_once v (Needs (Store (Thin object 0)) ∷ k) k e w next c stored.gives shared (omega arith)
      (handed v (operands.Slot (slot_of (starts_on source g k) n)) k e next c c.active.next refl (
        shared_written source pages calls k e w c shared object stored.at v.value stored.object_there stored.cell_there (local-row (global_types source.globals) (facts.0.2.rows n object found)),
        (
          data_assigned shared.tables source g c.active.base w.objects next.objects e.locals (callers k) old c.active.slots c.globals c.frames n object v found
              (written_here w object stored.at v.value stored.object_there stored.cell_there v.kind stored.same) (written_elsewhere w object stored.at v.value stored.object_there stored.cell_there)
              (written_length w object stored.at v.value stored.object_there stored.cell_there) room is
              (λ is_char. sym stored.same ∙ char_cell shared.related object stored.at.object stored.at.cell stored.object_there stored.cell_there is_char) (λ m out. sym (same m out)) facts.0,
          handlers_beside source g old c.active.slots c.active.handlers c.frames k (slot_of (starts_on source g k) n) (words_of_kind v.kind) (omega (arith, inside, room)) (λ m out. sym (same m out)) facts.1,
        ),
        is,
        holds,
      ) hands)
