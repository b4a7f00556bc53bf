-- An ordinary instruction has the same effect in the labelled machine and in the MIPS machine, whose memory additionally contains the
-- assembled machine code.
use Rattle.std.proofs.Common.{◌≡◌, ℕ, ◌+◌, ◌*◌, ◌%◌, ◌≤◌, List, [], ◌∷◌, length, Bool, true, false, ◌||◌, cond, nat_le, Option, None, Some, refl, sym, ap, ◌∙◌, arith, inl, inr}
use Rattle.std.specs.Prelude.{◌⊎◌, not, is_some, slice_index_or, if◌then◌else◌}
use Rattle.std.proofs.lemmas.Bool.{or_cases}
use Rattle.cyc_words.specs.Word.{add_of}
use Rattle.cyc_words.specs.Bytes.{byte_in, with_byte}
use Rattle.cyc_isa.specs.Effect.{place_address}
use Rattle.cyc_isa.specs.declared.operand.Register.{Register}
use Rattle.cyc_isa.specs.declared.instr.Instr.{Instr}
use Rattle.cyc_isa.specs.declared.instr.Instr.TheVariants.{Immediate, LoadUpper, Memory, Branch, BranchZero, Jump, Shift, ShiftVariable, JumpRegister, JumpRegisterLink, Exception, MoveFrom, MultiplyDivide, Arithmetic}
use Rattle.cyc_isa.specs.declared.instr.MemoryOp.{MemoryOp}
use Rattle.cyc_isa.specs.declared.instr.MemoryOp.TheVariants.{LoadWord, StoreWord, LoadByte, StoreByte}
use Rattle.cyc_isa.specs.declared.instr.ExceptionOp.TheVariants.{Syscall, Break}
use Rattle.cyc_isa.specs.declared.instr.MoveFromOp.TheVariants.{High, Low}
use Rattle.cyc_isa.specs.declared.instr.MultiplyDivideOp.TheVariants.{Multiply, Divide}
use Rattle.cyc_store.specs.State.{StoreState}
use Rattle.cyc_store.specs.Services.{Answer, Refused, Done, Opened, OpenedLexical, Allocated}
use Rattle.cyc_machine_model.specs.declared.event.Cause.{Cause}
use Rattle.cyc_machine_model.specs.declared.event.Cause.TheVariants as causes
use Rattle.cyc_machine_model.specs.declared.event.End.{End}
use Rattle.cyc_machine_model.specs.declared.event.Event.{Event}
use Rattle.cyc_machine_model.specs.declared.event.Event.TheVariants.{Ran, WantsByte, Puts, Ended}
use Rattle.cyc_machine_model.specs.declared.phase.Phase.TheVariants as phases
use Rattle.cyc_machine_model.specs.State as machines
use Rattle.cyc_machine_model.specs.State.{text_base, text_end, data_base, stack_base, store_base, words_per_page, text_at, place_of, is_within, Place, InText, InGlobals, InStack, InStore, Nowhere, is_dead, word_number, register}
use Rattle.cyc_machine_model.specs.Step.{Action, Does, Acts, Service, GetByte, PutByte, EndReturned, EndUncaught, Asks, EndFull, refused_by, reported_by, answered, with_store, cause_of, first_of, loads, stores, after, performs, calls, asked, address_of, is_aligned, is_nowhere, is_text}
use Rattle.cyc_machine_model.specs.Run.{World, reported}
use Rattle.cyc_machine_model.specs.WorldMachine.{seen_of}
use Rattle.cyc_select.specs.inside.Labelled.{is_ordinary}
use Rattle.cyc_select.specs.inside.Machine.{Configuration, machine_of, memory_of, world_of, from_world}
use Rattle.cyc_asm.specs.inside.Text.{text_of}
use Rattle.cyc_asm.proofs.Fetching.{world_at, no_text_past_end}

-- ---- loads and stores

module _ (words : List ℕ) (inside : text_base + 4 * length words ≤ text_end) (c : Configuration) (small : length c.stack ≤ 1048576) where
  -- Returns the memory of the labelled machine together with the assembled text.
  abbrev memory_with : machines.Memory
  memory_with = record { text = text_of words; globals = c.globals; stack = c.stack; store = c.store }

  -- `Known` says that an address has the same memory location with and without the assembled machine code in memory,
  -- if the labelled machine maps this address.
  data Known (address : ℕ) : Type 0 where
    globals : (n : ℕ) → place_of (memory_of c) address ≡ InGlobals n → place_of memory_with address ≡ InGlobals n → Known address
    stack : (n : ℕ) → place_of (memory_of c) address ≡ InStack n → place_of memory_with address ≡ InStack n → Known address
    cells : (n : ℕ) → place_of (memory_of c) address ≡ InStore n → place_of memory_with address ≡ InStore n → Known address

  -- Returns the memory location to which an address is mapped, from the word of text at the address and the range of the address.
  abbrev place_by : Option ℕ → (in_globals in_stack in_store : Bool) → (address : ℕ) → Place
  place_by found in_globals in_stack in_store address =
      cond (is_some found) (InText (word_number text_base address))
      (cond in_globals (InGlobals (word_number data_base address))
      (cond in_stack (InStack (word_number (stack_base c.stack) address)) (cond in_store (InStore address) Nowhere)))

  none_found : (address : ℕ) → text_at [] address ≡ None
  none_found address = elim (nat_le text_base address) as (λ b. cond b (slice_index_or (memory_of c).text (word_number text_base address) None) None ≡ None) [ true ↦ refl | false ↦ refl ]

  following : (base count address : ℕ) → text_end ≤ base → is_within base count address ≡ true → text_end ≤ address
  following base count address above within = grind (arith, above, within)

  -- An address in a range above the text is mapped to the same memory location with the assembled text in memory and without it.
  range_known : (found : Option ℕ) (in_globals in_stack in_store : Bool) (address : ℕ)
      → place_of (memory_of c) address ≡ place_by None in_globals in_stack in_store address → place_of memory_with address ≡ place_by found in_globals in_stack in_store address
      → ((in_globals || (in_stack || in_store)) ≡ true → found ≡ None) → is_nowhere (place_of (memory_of c) address) ≡ false → Known address
  range_known found true in_stack in_store address without with none there =
      globals (word_number data_base address) without (with ∙ ap (λ (f : Option ℕ). place_by f true in_stack in_store address) (none refl))
  range_known found false true in_store address without with none there =
      stack (word_number (stack_base c.stack) address) without (with ∙ ap (λ (f : Option ℕ). place_by f false true in_store address) (none refl))
  range_known found false false true address without with none there =
      cells address without (with ∙ ap (λ (f : Option ℕ). place_by f false false true address) (none refl))
  range_known found false false false address without with none there =
      let both : true ≡ false = sym (ap is_nowhere without) ∙ there in cc

  abbrev in_globals : ℕ → Bool
  in_globals address = is_within data_base (length c.globals) address

  abbrev in_stack : ℕ → Bool
  in_stack address = is_within (stack_base c.stack) (length c.stack) address

  abbrev in_store : ℕ → Bool
  in_store address = is_within store_base (words_per_page * c.store.pages) address

  above : (address : ℕ) → (in_globals address || (in_stack address || in_store address)) ≡ true → text_end ≤ address
  above address within = elim (or_cases (in_globals address) (in_stack address || in_store address) within) [
    | inl within_data ↦ following data_base (length c.globals) address (omega arith) within_data
    | inr others ↦ elim (or_cases (in_stack address) (in_store address) others) [
      | inl low ↦ following (stack_base c.stack) (length c.stack) address (omega (arith, small)) low
      | inr pages ↦ following store_base (words_per_page * c.store.pages) address (omega arith) pages
    ]
  ]

  known : (address : ℕ) → is_nowhere (place_of (memory_of c) address) ≡ false → Known address
  known address there =
      range_known (text_at (text_of words) address) (in_globals address) (in_stack address) (in_store address) address
      (ap (λ (found : Option ℕ). place_by found (in_globals address) (in_stack address) (in_store address) address) (none_found address)) refl
      (λ within. no_text_past_end words address inside (above address within)) there

  -- ---- forbidden instructions

  -- Returns the reason why the machine refuses a load or a store at a memory location, or `None` if it performs the access.
  abbrev cause_for : machines.Memory → (misaligned stores : Bool) → Place → Option Cause
  cause_for memory misaligned stores place = first_of (
      (false, causes.Unpredictable)
      ∷ (misaligned, causes.Misaligned)
      ∷ (is_nowhere place, causes.NoSuchAddress)
      ∷ (is_dead memory place, causes.DeadCell)
      ∷ ((if stores then is_text place else false), causes.WriteToText)
      ∷ (false, causes.Break)
      ∷ (false, causes.BadService)
      ∷ [])

  third : (misaligned nowhere : Bool) (rules : List (Bool × Cause)) → first_of ((false, causes.Unpredictable) ∷ (misaligned, causes.Misaligned) ∷ (nowhere, causes.NoSuchAddress) ∷ rules) ≡ None → nowhere ≡ false
  third true nowhere rules none = cc
  third false true rules none = cc
  third false false rules none = refl

  -- Returns the address that a load or a store accesses.
  abbrev address : Register → ℕ → ℕ
  address base offset = address_of (machine_of c).core base.number offset

  abbrev misaligned : MemoryOp → (base : Register) → (offset : ℕ) → Bool
  misaligned op base offset = not (is_aligned (place_address op (address base offset)))

  found : (wrong stores : Bool) (at : ℕ) → cause_for (memory_of c) wrong stores (place_of (memory_of c) at) ≡ None → Known at
  found wrong stores at none =
      let place : Place = place_of (memory_of c) at in
      known at (third wrong (is_nowhere place) ((is_dead (memory_of c) place, causes.DeadCell) ∷ ((if stores then is_text place else false), causes.WriteToText) ∷ (false, causes.Break) ∷ (false, causes.BadService) ∷ []) none)

  there : (op : MemoryOp) (target base : Register) (offset : ℕ) → cause_of (machine_of c) (Memory op target base offset) ≡ None → Known (place_address op (address base offset))
  there LoadWord target base offset none = found (misaligned LoadWord base offset) false (place_address LoadWord (address base offset)) none
  there StoreWord target base offset none = found (misaligned StoreWord base offset) true (place_address StoreWord (address base offset)) none
  there LoadByte target base offset none = found (misaligned LoadByte base offset) false (place_address LoadByte (address base offset)) none
  there StoreByte target base offset none = found (misaligned StoreByte base offset) true (place_address StoreByte (address base offset)) none

  cause_there : (wrong stores : Bool) (at : ℕ) → cause_for (memory_of c) wrong stores (place_of (memory_of c) at) ≡ None → Known at → cause_for memory_with wrong stores (place_of memory_with at) ≡ None
  cause_there wrong stores at none (globals n without with) = ap (cause_for memory_with wrong stores) with ∙ sym (ap (cause_for (memory_of c) wrong stores) without) ∙ none
  cause_there wrong stores at none (stack n without with) = ap (cause_for memory_with wrong stores) with ∙ sym (ap (cause_for (memory_of c) wrong stores) without) ∙ none
  cause_there wrong stores at none (cells n without with) = ap (cause_for memory_with wrong stores) with ∙ sym (ap (cause_for (memory_of c) wrong stores) without) ∙ none

  memory_cause : (at next : ℕ) (in_slot : Bool) (op : MemoryOp) (target base : Register) (offset : ℕ) → cause_of (machine_of c) (Memory op target base offset) ≡ None → Known (place_address op (address base offset))
      → cause_of (world_at words c at next in_slot).machine (Memory op target base offset) ≡ None
  memory_cause at next in_slot LoadWord target base offset none known_there = cause_there (misaligned LoadWord base offset) false (place_address LoadWord (address base offset)) none known_there
  memory_cause at next in_slot StoreWord target base offset none known_there = cause_there (misaligned StoreWord base offset) true (place_address StoreWord (address base offset)) none known_there
  memory_cause at next in_slot LoadByte target base offset none known_there = cause_there (misaligned LoadByte base offset) false (place_address LoadByte (address base offset)) none known_there
  memory_cause at next in_slot StoreByte target base offset none known_there = cause_there (misaligned StoreByte base offset) true (place_address StoreByte (address base offset)) none known_there

  -- If the machine without the assembled text in memory does not refuse an instruction, the machine with the text does not refuse it.
  pub same_cause : (at next : ℕ) (in_slot : Bool) (i : Instr) → is_ordinary i ≡ true → cause_of (machine_of c) i ≡ None → cause_of (world_at words c at next in_slot).machine i ≡ None
  same_cause at next in_slot (Memory op t b h) ordinary none = memory_cause at next in_slot op t b h none (there op t b h none)
  same_cause at next in_slot (Immediate op t b h) ordinary none = none
  same_cause at next in_slot (LoadUpper t h) ordinary none = none
  same_cause at next in_slot (Branch op l r h) ordinary none = cc
  same_cause at next in_slot (BranchZero op b h) ordinary none = cc
  same_cause at next in_slot (Jump op x) ordinary none = cc
  same_cause at next in_slot (Shift op d b a) ordinary none = none
  same_cause at next in_slot (ShiftVariable op d b k) ordinary none = none
  same_cause at next in_slot (JumpRegister b) ordinary none = cc
  same_cause at next in_slot (JumpRegisterLink d b) ordinary none = cc
  same_cause at next in_slot (Exception Syscall x) ordinary none = none
  same_cause at next in_slot (Exception Break x) ordinary none = none
  same_cause at next in_slot (MoveFrom op d) ordinary none = none
  same_cause at next in_slot (MultiplyDivide Multiply l r) ordinary none = none
  same_cause at next in_slot (MultiplyDivide Divide l r) ordinary none = none
  same_cause at next in_slot (Arithmetic op d l r) ordinary none = none

  -- ---- effects

  -- `Shown` relates the states of the labelled machine and the MIPS machine after an instruction: both run on, the latter at
  -- `next`, or both ended.
  abbrev pub Shown : (next : ℕ) → World → World → Type 0
  Shown next above below =
      ((above.machine.phase ≡ phases.Running) × (below ≡ world_at words (from_world above 0) next (add_of next 4) false))
      ⊎ ((end : End) × (above.machine.phase ≡ phases.Over end) × (below.machine.phase ≡ phases.Over end) × (seen_of below ≡ seen_of above))

  -- `Matched` says that the machine of labelled code may emit an event after which its state and the state of the MIPS machine match.
  abbrev pub Matched : (at next : ℕ) (in_slot : Bool) → Action → (event : Event) → machines.State → Type 0
  Matched at next in_slot above event s =
      (e : Event) × (t : machines.State) × Acts above (machine_of c) e t
      × Shown next (reported (world_of c) e t) (reported (world_at words c at next in_slot) event s)

  abbrev world_here : (at next : ℕ) (in_slot : Bool) → World
  world_here at next in_slot = world_at words c at next in_slot

  reported_same : (at next : ℕ) (in_slot : Bool) (event reported_event : Event) (s left : machines.State) → event ≡ reported_event → s ≡ left → reported (world_here at next in_slot) event s ≡ reported (world_here at next in_slot) reported_event left
  reported_same at next in_slot event reported_event s left same_event same_state = ap (λ e. reported (world_here at next in_slot) e s) same_event ∙ ap (λ x. reported (world_here at next in_slot) reported_event x) same_state

  did : (at next : ℕ) (in_slot : Bool) (above left : machines.State) (event : Event) (s : machines.State) → above.phase ≡ phases.Running
      → reported (world_here at next in_slot) Ran left ≡ world_at words (from_world (reported (world_of c) Ran above) 0) next (add_of next 4) false
      → Acts (Does Ran left) (world_here at next in_slot).machine event s → Matched at next in_slot (Does Ran above) event s
  did at next in_slot above left event s running is acts =
      (Ran, above, (refl, refl), inl (running, reported_same at next in_slot event Ran s left acts.0 acts.1 ∙ is))

  load_did : (at next : ℕ) (in_slot : Bool) (target : ℕ) (value : ℕ → ℕ) (address : ℕ) (event : Event) (s : machines.State) → Known address
      → Acts (Does Ran (loads (world_here at next in_slot).machine target (place_of memory_with address) value)) (world_here at next in_slot).machine event s
      → Matched at next in_slot (Does Ran (loads (machine_of c) target (place_of (memory_of c) address) value)) event s
  load_did at next in_slot target value address event s (globals n without with) acts =
      did at next in_slot _ _ event s refl (
      ap (λ place. reported (world_here at next in_slot) Ran (loads (world_here at next in_slot).machine target place value)) with
      ∙ sym (ap (λ place. world_at words (from_world (reported (world_of c) Ran (loads (machine_of c) target place value)) 0) next (add_of next 4) false) without)) acts
  load_did at next in_slot target value address event s (stack n without with) acts =
      did at next in_slot _ _ event s refl (
      ap (λ place. reported (world_here at next in_slot) Ran (loads (world_here at next in_slot).machine target place value)) with
      ∙ sym (ap (λ place. world_at words (from_world (reported (world_of c) Ran (loads (machine_of c) target place value)) 0) next (add_of next 4) false) without)) acts
  load_did at next in_slot target value address event s (cells n without with) acts =
      did at next in_slot _ _ event s refl (
      ap (λ place. reported (world_here at next in_slot) Ran (loads (world_here at next in_slot).machine target place value)) with
      ∙ sym (ap (λ place. world_at words (from_world (reported (world_of c) Ran (loads (machine_of c) target place value)) 0) next (add_of next 4) false) without)) acts

  store_did : (at next : ℕ) (in_slot : Bool) (value : ℕ → ℕ) (address : ℕ) (event : Event) (s : machines.State) → Known address
      → Acts (Does Ran (stores (world_here at next in_slot).machine (place_of memory_with address) value)) (world_here at next in_slot).machine event s
      → Matched at next in_slot (Does Ran (stores (machine_of c) (place_of (memory_of c) address) value)) event s
  store_did at next in_slot value address event s (globals n without with) acts =
      did at next in_slot _ _ event s refl (
      ap (λ place. reported (world_here at next in_slot) Ran (stores (world_here at next in_slot).machine place value)) with
      ∙ sym (ap (λ place. world_at words (from_world (reported (world_of c) Ran (stores (machine_of c) place value)) 0) next (add_of next 4) false) without)) acts
  store_did at next in_slot value address event s (stack n without with) acts =
      did at next in_slot _ _ event s refl (
      ap (λ place. reported (world_here at next in_slot) Ran (stores (world_here at next in_slot).machine place value)) with
      ∙ sym (ap (λ place. world_at words (from_world (reported (world_of c) Ran (stores (machine_of c) place value)) 0) next (add_of next 4) false) without)) acts
  store_did at next in_slot value address event s (cells n without with) acts =
      did at next in_slot _ _ event s refl (
      ap (λ place. reported (world_here at next in_slot) Ran (stores (world_here at next in_slot).machine place value)) with
      ∙ sym (ap (λ place. world_at words (from_world (reported (world_of c) Ran (stores (machine_of c) place value)) 0) next (add_of next 4) false) without)) acts

  memory_did : (at next : ℕ) (in_slot : Bool) (op : MemoryOp) (t b : Register) (h : ℕ) (event : Event) (s : machines.State) → Known (place_address op (address b h))
      → Acts (Does Ran (after (world_here at next in_slot).machine (Memory op t b h))) (world_here at next in_slot).machine event s → Matched at next in_slot (Does Ran (after (machine_of c) (Memory op t b h))) event s
  memory_did at next in_slot LoadWord t b h event s known_there acts = load_did at next in_slot t.number (λ word. word) (place_address LoadWord (address b h)) event s known_there acts
  memory_did at next in_slot StoreWord t b h event s known_there acts = store_did at next in_slot (λ old. register (machine_of c).core t.number) (place_address StoreWord (address b h)) event s known_there acts
  memory_did at next in_slot LoadByte t b h event s known_there acts =
      load_did at next in_slot t.number (λ word. byte_in word (address b h % 4)) (place_address LoadByte (address b h)) event s known_there acts
  memory_did at next in_slot StoreByte t b h event s known_there acts =
      store_did at next in_slot (λ old. with_byte old (address b h % 4) (register (machine_of c).core t.number % 256)) (place_address StoreByte (address b h)) event s known_there acts

  ended : (at next : ℕ) (in_slot : Bool) (end : End) (event : Event) (s : machines.State) → (event ≡ Ended end) × (s ≡ machines.over (world_here at next in_slot).machine end)
      → Shown next (reported (world_of c) (Ended end) (machines.over (machine_of c) end)) (reported (world_here at next in_slot) event s)
  ended at next in_slot end event s acts =
      let same = reported_same at next in_slot event (Ended end) s (machines.over (world_here at next in_slot).machine end) acts.0 acts.1 in
      inr (end, refl, ap (λ (w : World). w.machine.phase) same, ap seen_of same)

  -- After the store (the heap of regions) has served a system call, the states of the labelled machine and the MIPS machine match.
  gone_on : (at next : ℕ) (in_slot : Bool) (answer : Answer) (store : StoreState) (event : Event) (s : machines.State) → event ≡ reported_by answer → s ≡ answered (with_store (world_here at next in_slot).machine store) answer
      → Shown next (reported (world_of c) (reported_by answer) (answered (with_store (machine_of c) store) answer)) (reported (world_here at next in_slot) event s)
  gone_on at next in_slot (Refused why) store event s same_event same_state =
      let same = reported_same at next in_slot event (Ended (refused_by why)) s _ same_event same_state in
      inr (refused_by why, refl, ap (λ (w : World). w.machine.phase) same, ap seen_of same)
  gone_on at next in_slot Done store event s same_event same_state = inl (refl, reported_same at next in_slot event Ran s _ same_event same_state)
  gone_on at next in_slot (Opened handle) store event s same_event same_state = inl (refl, reported_same at next in_slot event Ran s _ same_event same_state)
  gone_on at next in_slot (OpenedLexical handle mark) store event s same_event same_state = inl (refl, reported_same at next in_slot event Ran s _ same_event same_state)
  gone_on at next in_slot (Allocated block) store event s same_event same_state = inl (refl, reported_same at next in_slot event Ran s _ same_event same_state)

  served : (at next : ℕ) (in_slot : Bool) (service : Option Service) (event : Event) (s : machines.State) → Acts (calls service (world_here at next in_slot).machine) (world_here at next in_slot).machine event s → Matched at next in_slot (calls service (machine_of c)) event s
  served at next in_slot (Some GetByte) event s acts = (WantsByte, _, (refl, refl), inl (refl, reported_same at next in_slot event WantsByte s _ acts.0 acts.1))
  served at next in_slot (Some PutByte) event s acts = (Puts _, _, (refl, refl), inl (refl, reported_same at next in_slot event (Puts _) s _ acts.0 acts.1))
  served at next in_slot (Some EndReturned) event s acts = (Ended _, _, (refl, refl), ended at next in_slot _ event s acts)
  served at next in_slot (Some EndUncaught) event s acts = (Ended _, _, (refl, refl), ended at next in_slot _ event s acts)
  served at next in_slot (Some (Asks call)) event s (answer, store, serves, same_event, same_state) =
      (reported_by answer, answered (with_store (machine_of c) store) answer, (answer, store, serves, refl, refl), gone_on at next in_slot answer store event s same_event same_state)
  served at next in_slot (Some EndFull) event s acts = (Ended _, _, (refl, refl), ended at next in_slot _ event s acts)
  served at next in_slot None event s acts = (Ended _, _, (refl, refl), ended at next in_slot _ event s acts)

  pub performed : (at next : ℕ) (in_slot : Bool) (i : Instr) → is_ordinary i ≡ true → cause_of (machine_of c) i ≡ None → (event : Event) (s : machines.State)
      → Acts (performs (world_here at next in_slot).machine i) (world_here at next in_slot).machine event s → Matched at next in_slot (performs (machine_of c) i) event s
  performed at next in_slot (Memory op t b h) ordinary none event s acts = memory_did at next in_slot op t b h event s (there op t b h none) acts
  performed at next in_slot (Immediate op t b h) ordinary none event s acts = did at next in_slot _ _ event s refl refl acts
  performed at next in_slot (LoadUpper t h) ordinary none event s acts = did at next in_slot _ _ event s refl refl acts
  performed at next in_slot (Branch op l r h) ordinary none event s acts = cc
  performed at next in_slot (BranchZero op b h) ordinary none event s acts = cc
  performed at next in_slot (Jump op x) ordinary none event s acts = cc
  performed at next in_slot (Shift op d b a) ordinary none event s acts = did at next in_slot _ _ event s refl refl acts
  performed at next in_slot (ShiftVariable op d b k) ordinary none event s acts = did at next in_slot _ _ event s refl refl acts
  performed at next in_slot (JumpRegister b) ordinary none event s acts = cc
  performed at next in_slot (JumpRegisterLink d b) ordinary none event s acts = cc
  performed at next in_slot (Exception Syscall x) ordinary none event s acts = served at next in_slot (asked (machine_of c).core) event s acts
  performed at next in_slot (Exception Break x) ordinary none event s acts = cc
  performed at next in_slot (MoveFrom High d) ordinary none event s acts = did at next in_slot _ _ event s refl refl acts
  performed at next in_slot (MoveFrom Low d) ordinary none event s acts = did at next in_slot _ _ event s refl refl acts
  performed at next in_slot (MultiplyDivide op l r) ordinary none event s acts = did at next in_slot _ _ event s refl refl acts
  performed at next in_slot (Arithmetic op d l r) ordinary none event s acts = did at next in_slot _ _ event s refl refl acts
