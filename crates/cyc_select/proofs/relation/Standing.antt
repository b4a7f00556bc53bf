-- How the calls of a plain program are represented in the memory of the labelled machine. The frames of the calls lie one below another,
-- from the end of the stack on. Each frame contains the call's slots and, if the call waits, its return address.
use Rattle.std.proofs.Common.{◌≡◌, ◌≢◌, ℕ, suc, ◌+◌, ◌*◌, ◌%◌, ◌^◌, ◌<◌, ◌≤◌, Bool, true, false, List, length, refl, sym, ap, subst, ◌∙◌, arith, inl, inr}
use Rattle.std.specs.List.{AllByRecursion}
use Rattle.cyc_plain.specs.declared.limits.TheConstants.{MOST_FRAME_WORDS}
use Rattle.cyc_select.specs.declared.constants.TheConstants.{LOWEST, FRAME, HANDLERS, REGIONS, GLOBALS, GLOBALS_MIDDLE}
use Rattle.cyc_words.specs.Word.{IsWord}
use Rattle.cyc_isa.specs.Effect.{memory_address}
use Rattle.cyc_machine_model.specs.declared.constants.TheConstants.{RETURN_ADDRESS}
use Rattle.cyc_machine_model.specs.State.{data_base, stack_end, globals_length, words_per_call}
use Rattle.cyc_store.specs.State.{Home, StoreState, lexical_count, saved}
use Rattle.cyc_plain.specs.inside.Program.{Program, routine_at}
use Rattle.cyc_plain.specs.inside.State as states
use Rattle.cyc_plain.specs.inside.State.{Words, put, Configuration}
use Rattle.cyc_plain.specs.inside.WellFormed.{IsWellFormed}
use Rattle.cyc_plain.proofs.SlotLaws.{put-same, put-other}
use Rattle.std.proofs.lemmas.Bool.{cases_eq}
use Rattle.cyc_frame.specs.inside.Layout.{IsFrame, AreFrames, slot_word, frame_at}
use Rattle.cyc_frame.specs.inside.Frame.{Frame}
use Rattle.cyc_select.specs.inside.Instructions.{slot_offset}
use Rattle.cyc_select.specs.inside.Slots.{is_kept}
use Rattle.cyc_select.proofs.values.Blocks.{lasting, newest_lasts, count_lasts, middle_lasts}
use Rattle.cyc_select.proofs.relation.Cells.{IsCell}
use Rattle.cyc_select.proofs.values.Operations.{address_at}
use Rattle.cyc_select.proofs.relation.Stores.{IsLaid, saved_laid, saved_regions}
use Rattle.cyc_select.proofs.effects.Views.{Contents, written, saved_in}
use Rattle.cyc_select.proofs.relation.Waiting.{frame_size, Holds, preserved_of, Left, LeftBy, left_same, Chain, chain_kept, Lies, chain_lies, IsNewest, AreBased, IsBack, back_in, back_by}

-- `Stage` says how far a call is: its function was just entered and has saved nothing yet, or it has saved its registers and, if
-- `in_frame` holds, its return address.
pub data Stage : Type 0 where
  entering : Stage
  under_way : (in_frame : Bool) → Stage

abbrev pub in_frame_at : Stage → Bool
in_frame_at entering = false
in_frame_at (under_way in_frame) = in_frame

-- Returns how many callee-saved registers a call has saved at a stage: 0 if the call was just entered, otherwise all that its
-- function saves.
abbrev pub saved_at : Stage → Frame → ℕ
saved_at entering frame = 0
saved_at (under_way in_frame) frame = frame.saved

-- Returns the stage of a call after its entry code, which saves the return address only if the frame has a word for it.
abbrev pub stage_of : List Frame → Configuration → Stage
stage_of frames c = under_way (frame_at frames c.active.function).saves

-- `Standing` says that the registers and the memory of the labelled machine represent the active call, with the given slot
-- values, and the waiting calls.
pub record Standing (program : Program) (frames : List Frame) (addresses : ℕ → ℕ) (pages calls : ℕ) (c : Configuration) (r : Words) (w : Contents) (base back : ℕ) (stage : Stage) (slots : Words) : Type 0 where
  pub known : c.active.function < length program.functions
  pub base_is : r FRAME ≡ base
  pub zero_is : r 0 ≡ 0
  pub lowest : r LOWEST + frame_size * calls ≡ stack_end
  pub deep : suc (length c.frames) ≤ calls
  pub holds : Holds program frames c.active.function base w slots
  -- `left` are the words that the active call leaves in the callee-saved registers when it returns.
  pub left : Words
  pub chain : Chain program frames addresses w base back left c.active.function c.frames
  pub leaves : (j : ℕ) → j < 7
      → Left (frame_at frames c.active.function).first_saved (saved_at stage (frame_at frames c.active.function)) base (preserved_of r) w j ≡ left j
  pub globals : (global : ℕ) → global < length program.globals → w.words (data_base + 4 * global) ≡ c.globals global
  pub input : AllByRecursion IsWord c.input
  pub newest : IsNewest program frames addresses (r HANDLERS) base c.active.function c.active.handlers c.frames
  pub way : IsBack (in_frame_at stage) (frame_at frames c.active.function) r w base back
  pub based : AreBased frames base c.active.function c.active.base c.frames
  pub store : w.store ≡ c.store
  pub laid : IsLaid pages c.store
  pub counted : r REGIONS ≡ lexical_count c.store.regions % 2 ^ 32
  pub middle : r GLOBALS ≡ GLOBALS_MIDDLE

module _ (program : Program) (well : IsWellFormed program) (frames : List Frame) (fit : AreFrames program frames) (addresses : ℕ → ℕ) (pages calls : ℕ) (few : calls ≤ 4096) where
  abbrev data_words : ℕ
  data_words = globals_length

  abbrev stack_words : ℕ
  stack_words = words_per_call * calls

  module _ (c : Configuration) (r : Words) (w : Contents) (base back : ℕ) (stage : Stage) (slots : Words) (s : Standing program frames addresses pages calls c r w base back stage slots) where
    pub lies : Lies program frames fit addresses base (suc (length c.frames))
    lies = chain_lies program frames fit addresses w base back s.left c.active.function c.frames s.chain

    abbrev own_frame : IsFrame (routine_at program c.active.function) (frame_at frames c.active.function)
    own_frame = fit.each c.active.function s.known

    saved_few : saved_at stage (frame_at frames c.active.function) ≤ 7
    saved_few = go stage
      where
        go : (x : Stage) → saved_at x (frame_at frames c.active.function) ≤ 7
        go entering = omega arith
        go (under_way in_frame) = own_frame.most_saved

    -- The words that a call leaves in the callee-saved registers depend only on the unsaved registers and on the words saved in its frame.
    leaves_kept : (r' : Words) (w' : Contents) → ((j : ℕ) → saved_at stage (frame_at frames c.active.function) ≤ j → j < 7 → preserved_of r' j ≡ preserved_of r j)
        → ((j : ℕ) → j < 7 → w'.words (base + 4 * ((frame_at frames c.active.function).first_saved + j)) ≡ w.words (base + 4 * ((frame_at frames c.active.function).first_saved + j)))
        → (j : ℕ) → j < 7 → Left (frame_at frames c.active.function).first_saved (saved_at stage (frame_at frames c.active.function)) base (preserved_of r') w' j ≡ s.left j
    leaves_kept r' w' same words j high =
        left_same (frame_at frames c.active.function).first_saved (saved_at stage (frame_at frames c.active.function)) base (preserved_of r) (preserved_of r') w w' same (λ i below small. words i small) j high
        ∙ s.leaves j high

    -- The slots of the active function lie within its frame.
    pub slot_inside : (slot : ℕ) → slot < (routine_at program c.active.function).slots → slot_word (frame_at frames c.active.function) slot < MOST_FRAME_WORDS
    slot_inside slot below = omega (arith, own_frame.inside slot below, own_frame.small)

    pub saved_inside : (j : ℕ) → j < 7 → (frame_at frames c.active.function).first_saved + j < MOST_FRAME_WORDS
    saved_inside j below = (let inside = own_frame.saved_inside j below in omega (arith, inside, own_frame.small))

    pub return_inside : (frame_at frames c.active.function).return_address < MOST_FRAME_WORDS
    return_inside = omega (arith, own_frame.return_inside, own_frame.small)

    -- The address of word `word` of the active call's frame is the frame's base plus 4 times `word`.
    pub word_address : (word : ℕ) → word < MOST_FRAME_WORDS → memory_address (r FRAME) (4 * word) ≡ base + 4 * word
    word_address word inside =
        ap (λ (x : ℕ). memory_address x (4 * word)) s.base_is
        ∙ address_at base (4 * word) (omega (arith, inside)) (omega (arith, inside, lies.below_end))

    pub word_cell : (word : ℕ) → word < MOST_FRAME_WORDS → IsCell data_words stack_words (base + 4 * word)
    word_cell word inside =
        inr ((omega (arith, lies.aligned)), (omega (arith, lies.above_low, s.deep)), (omega (arith, inside, lies.below_end)))

    pub slot_address : (slot : ℕ) → slot < (routine_at program c.active.function).slots → memory_address (r FRAME) (slot_offset (frame_at frames c.active.function) slot) ≡ base + slot_offset (frame_at frames c.active.function) slot
    slot_address slot below = word_address (slot_word (frame_at frames c.active.function) slot) (slot_inside slot below)

    pub slot_cell : (slot : ℕ) → slot < (routine_at program c.active.function).slots → IsCell data_words stack_words (memory_address (r FRAME) (slot_offset (frame_at frames c.active.function) slot))
    slot_cell slot below =
        subst (IsCell data_words stack_words) (sym (slot_address slot below)) (word_cell (slot_word (frame_at frames c.active.function) slot) (slot_inside slot below))

    pub slot_word_is : (slot : ℕ) → slot < (routine_at program c.active.function).slots → is_kept (frame_at frames c.active.function) slot ≡ true → w.words (memory_address (r FRAME) (slot_offset (frame_at frames c.active.function) slot)) ≡ slots slot
    slot_word_is slot below slot_kept = ap w.words (slot_address slot below) ∙ s.holds slot below slot_kept

    pub return_address : memory_address (r FRAME) (4 * (frame_at frames c.active.function).return_address) ≡ base + 4 * (frame_at frames c.active.function).return_address
    return_address = word_address (frame_at frames c.active.function).return_address return_inside

    pub return_cell : IsCell data_words stack_words (memory_address (r FRAME) (4 * (frame_at frames c.active.function).return_address))
    return_cell = subst (IsCell data_words stack_words) (sym return_address) (word_cell (frame_at frames c.active.function).return_address return_inside)

    -- The word of each global is at an address in the machine's data range.
    pub global_cell : (global : ℕ) → global < length program.globals → IsCell data_words stack_words (data_base + 4 * global)
    global_cell global below = inl ((omega arith), (omega arith), (omega (arith, well.globals)))

    -- ---- changes that keep the relation

    -- `Standing` (registers and memory represent the calls) still holds if registers change that hold no value on which `Standing` relies.
    -- `Standing` relies on the addresses of the current and the lowest frame, on the return address and on callee-saved words not yet
    -- saved. `Standing` also relies on the newest exception handler, the number of open regions and the base address of globals.
    pub standing_registers : (r' : Words) → r' 0 ≡ r 0 → r' FRAME ≡ r FRAME → r' LOWEST ≡ r LOWEST → (in_frame_at stage ≡ false → r' RETURN_ADDRESS ≡ r RETURN_ADDRESS) → lasting r' ≡ lasting r
        → ((j : ℕ) → saved_at stage (frame_at frames c.active.function) ≤ j → j < 7 → preserved_of r' j ≡ preserved_of r j) → Standing program frames addresses pages calls c r' w base back stage slots
    standing_registers r' zero_same base_same lowest_same back_same lasts_same preserved_same = record {
      known = s.known;
      base_is = base_same ∙ s.base_is;
      zero_is = zero_same ∙ s.zero_is;
      lowest = ap (λ (n : ℕ). n + frame_size * calls) lowest_same ∙ s.lowest;
      deep = s.deep;
      holds = s.holds;
      left = s.left;
      chain = s.chain;
      leaves = leaves_kept r' w preserved_same (λ j high. refl);
      globals = s.globals;
      input = s.input;
      newest = subst (λ (n : ℕ). IsNewest program frames addresses n base c.active.function c.active.handlers c.frames) (sym (newest_lasts r' r lasts_same)) s.newest;
      way = back_by (in_frame_at stage) (frame_at frames c.active.function) r r' w base back back_same s.way;
      based = s.based;
      store = s.store;
      laid = s.laid;
      counted = count_lasts r' r lasts_same ∙ s.counted;
      middle = middle_lasts r' r lasts_same ∙ s.middle;
    }

    -- `Standing` (registers and memory represent the calls) still holds after the active call moves to another position of its code.
    pub standing_at : (d : Configuration) → d.active.function ≡ c.active.function → d.active.base ≡ c.active.base → d.active.handlers ≡ c.active.handlers → d.frames ≡ c.frames → d.globals ≡ c.globals → d.store ≡ c.store → AllByRecursion IsWord d.input
        → Standing program frames addresses pages calls d r w base back stage slots
    standing_at d function_same place_same handlers_same frames_same globals_same store_same input = record {
      known = subst (λ (f : ℕ). f < length program.functions) (sym function_same) s.known;
      base_is = s.base_is;
      zero_is = s.zero_is;
      lowest = s.lowest;
      deep = subst (λ (fs : List states.Frame). suc (length fs) ≤ calls) (sym frames_same) s.deep;
      holds = subst (λ (f : ℕ). Holds program frames f base w slots) (sym function_same) s.holds;
      left = s.left;
      chain = subst (λ (f : ℕ). Chain program frames addresses w base back s.left f d.frames) (sym function_same)
          (subst (λ (fs : List states.Frame). Chain program frames addresses w base back s.left c.active.function fs) (sym frames_same) s.chain);
      leaves =
          subst (λ (f : ℕ). (j : ℕ) → j < 7 → Left (frame_at frames f).first_saved (saved_at stage (frame_at frames f)) base (preserved_of r) w j ≡ s.left j) (sym function_same) s.leaves;
      globals = λ global below. s.globals global below ∙ ap (λ (g : Words). g global) (sym globals_same);
      input = input;
      newest =
          subst (λ (f : ℕ). IsNewest program frames addresses (r HANDLERS) base f d.active.handlers d.frames) (sym function_same)
          (subst (λ (hs : List states.Handler). IsNewest program frames addresses (r HANDLERS) base c.active.function hs d.frames) (sym handlers_same)
          (subst (λ (fs : List states.Frame). IsNewest program frames addresses (r HANDLERS) base c.active.function c.active.handlers fs) (sym frames_same) s.newest));
      way = subst (λ (f : ℕ). IsBack (in_frame_at stage) (frame_at frames f) r w base back) (sym function_same) s.way;
      based =
          subst (λ (f : ℕ). AreBased frames base f d.active.base d.frames) (sym function_same)
          (subst (λ (b : ℕ). AreBased frames base c.active.function b d.frames) (sym place_same)
          (subst (λ (fs : List states.Frame). AreBased frames base c.active.function c.active.base fs) (sym frames_same) s.based));
      store = s.store ∙ sym store_same;
      laid = subst (IsLaid pages) (sym store_same) s.laid;
      counted = s.counted ∙ ap (λ (x : StoreState). lexical_count x.regions % 2 ^ 32) (sym store_same);
      middle = s.middle;
    }

    -- `Standing` (registers and memory represent the calls) still holds after the active call's list of exception handlers changes, and
    -- after registers change on which `Standing` states nothing.
    pub standing_handlers : (handlers : List states.Handler) (r' : Words) → r' 0 ≡ r 0 → r' FRAME ≡ r FRAME → r' LOWEST ≡ r LOWEST → r' RETURN_ADDRESS ≡ r RETURN_ADDRESS → r' REGIONS ≡ r REGIONS → r' GLOBALS ≡ r GLOBALS
        → ((j : ℕ) → saved_at stage (frame_at frames c.active.function) ≤ j → j < 7 → preserved_of r' j ≡ preserved_of r j)
        → IsNewest program frames addresses (r' HANDLERS) base c.active.function handlers c.frames
        → Standing program frames addresses pages calls (record c { active = record c.active { handlers = handlers } }) r' w base back stage slots
    standing_handlers handlers r' zero_same base_same lowest_same back_same count_same middle_same preserved_same newest = record {
      known = s.known;
      base_is = base_same ∙ s.base_is;
      zero_is = zero_same ∙ s.zero_is;
      lowest = ap (λ (n : ℕ). n + frame_size * calls) lowest_same ∙ s.lowest;
      deep = s.deep;
      holds = s.holds;
      left = s.left;
      chain = s.chain;
      leaves = leaves_kept r' w preserved_same (λ j high. refl);
      globals = s.globals;
      input = s.input;
      newest = newest;
      way = back_by (in_frame_at stage) (frame_at frames c.active.function) r r' w base back (λ outside. back_same) s.way;
      based = s.based;
      store = s.store;
      laid = s.laid;
      counted = count_same ∙ s.counted;
      middle = middle_same ∙ s.middle;
    }

    -- No word of a stack frame has the address of a global in the data range.
    above_data : (word global : ℕ) → word < MOST_FRAME_WORDS → global < length program.globals → data_base + 4 * global ≢ base + 4 * word
    above_data word global inside below same =
        absurd (omega (arith, same, below, well.globals, lies.above_low, s.deep))

    other_slot : (a b : ℕ) → a < (routine_at program c.active.function).slots → b < (routine_at program c.active.function).slots → b ≢ a
        → base + slot_offset (frame_at frames c.active.function) b ≢ base + slot_offset (frame_at frames c.active.function) a
    other_slot a b a_below b_below apart same =
        apart ((fit.each c.active.function s.known).apart b a b_below a_below (omega (arith, same)))

    abbrev slot_at : ℕ → ℕ
    slot_at slot = base + slot_offset (frame_at frames c.active.function) slot

    abbrev return_at : ℕ
    return_at = base + 4 * (frame_at frames c.active.function).return_address

    abbrev global_at : ℕ → ℕ
    global_at global = data_base + 4 * global

    -- `Standing` (registers and memory represent the calls) still holds after a new word for a slot is written to the
    -- slot's word of the frame.
    pub standing_slot : (slot word : ℕ) → slot < (routine_at program c.active.function).slots
        → Standing program frames addresses pages calls c r (written w (base + slot_offset (frame_at frames c.active.function) slot) word) base back stage (put slots slot word)
    standing_slot slot word below = record {
      known = s.known;
      base_is = s.base_is;
      zero_is = s.zero_is;
      lowest = s.lowest;
      deep = s.deep;
      holds = λ other other_below other_kept. elim (cases_eq other slot) [
        | inl same ↦
            ap (λ (x : ℕ). put w.words (slot_at slot) word (base + slot_offset (frame_at frames c.active.function) x)) same
            ∙ (put-same w.words (slot_at slot) word ∙ sym (ap (put slots slot word) same ∙ put-same slots slot word))
        | inr apart ↦
            put-other w.words (slot_at slot) (base + slot_offset (frame_at frames c.active.function) other) word (other_slot slot other below other_below apart)
            ∙ (s.holds other other_below other_kept ∙ sym (put-other slots slot other word apart))
      ];
      left = s.left;
      chain = chain_kept program frames fit addresses w (written w (slot_at slot) word) base back s.left s.left c.active.function c.frames
          (λ a from. put-other w.words (slot_at slot) a word (λ e. absurd (omega (arith, e, from, slot_inside slot below)))) (λ j high. refl) s.chain;
      leaves = leaves_kept r (written w (slot_at slot) word) (λ j past high. refl)
          (λ j high. put-other w.words (slot_at slot) (base + 4 * ((frame_at frames c.active.function).first_saved + j)) word (λ e. absurd (own_frame.saved_beside slot j below high (omega (arith, e)))));
      globals = λ global global_below.
          put-other w.words (slot_at slot) (data_base + 4 * global) word (above_data (slot_word (frame_at frames c.active.function) slot) global (slot_inside slot below) global_below)
          ∙ s.globals global global_below;
      input = s.input;
      newest = s.newest;
      way = back_in (in_frame_at stage) (frame_at frames c.active.function) r w (written w (slot_at slot) word) base back
          (put-other w.words (slot_at slot) return_at word (λ e. (fit.each c.active.function s.known).beside slot below (omega (arith, e)))) s.way;
      based = s.based;
      store = s.store;
      laid = s.laid;
      counted = s.counted;
      middle = s.middle;
    }

    -- `Standing` (registers and memory represent the calls) still holds if each slot that changes has its word only in a
    -- register, not in memory.
    pub standing_unkept_words : (slots' : Words) → ((slot : ℕ) → is_kept (frame_at frames c.active.function) slot ≡ true → slots' slot ≡ slots slot)
        → Standing program frames addresses pages calls c r w base back stage slots'
    standing_unkept_words slots' same = record {
      known = s.known;
      base_is = s.base_is;
      zero_is = s.zero_is;
      lowest = s.lowest;
      deep = s.deep;
      holds = λ slot slot_below slot_kept. s.holds slot slot_below slot_kept ∙ sym (same slot slot_kept);
      left = s.left;
      chain = s.chain;
      leaves = s.leaves;
      globals = s.globals;
      input = s.input;
      newest = s.newest;
      way = s.way;
      based = s.based;
      store = s.store;
      laid = s.laid;
      counted = s.counted;
      middle = s.middle;
    }

    -- `Standing` (registers and memory represent the calls) still holds if one slot changes whose word is only in a
    -- register, not in memory.
    pub standing_unkept : (slot word : ℕ) → is_kept (frame_at frames c.active.function) slot ≡ false
        → Standing program frames addresses pages calls c r w base back stage (put slots slot word)
    standing_unkept slot word unkept = standing_unkept_words (put slots slot word) (λ other other_kept. elim (cases_eq other slot) [
      | inl same ↦ absurd (let e : true ≡ false = sym other_kept ∙ (ap (is_kept (frame_at frames c.active.function)) same ∙ unkept) in cc)
      | inr apart ↦ put-other slots slot other word apart
    ])

    -- `Standing` (registers and memory represent the calls) holds for a function after the saves at its entry.
    pub standing_begun : (w' : Contents) (in_frame : Bool)
        → ((a : ℕ) → a ≢ return_at → ((j : ℕ) → j < 7 → a ≢ base + 4 * ((frame_at frames c.active.function).first_saved + j)) → w'.words a ≡ w.words a) → w'.store ≡ w.store
        → IsBack in_frame (frame_at frames c.active.function) r w' base back
        → ((j : ℕ) → j < 7 → LeftBy (frame_at frames c.active.function) base (preserved_of r) w' j ≡ s.left j)
        → Standing program frames addresses pages calls c r w' base back (under_way in_frame) slots
    standing_begun w' in_frame same store_same way leaves = record {
      known = s.known;
      base_is = s.base_is;
      zero_is = s.zero_is;
      lowest = s.lowest;
      deep = s.deep;
      holds = λ slot below slot_kept.
          same (base + slot_offset (frame_at frames c.active.function) slot)
          (λ e. own_frame.beside slot below (omega (arith, e)))
          (λ j high e. own_frame.saved_beside slot j below high (omega (arith, e)))
          ∙ s.holds slot below slot_kept;
      left = s.left;
      chain = chain_kept program frames fit addresses w w' base back s.left s.left c.active.function c.frames
          (λ a from.
          same a (λ e. absurd (omega (arith, e, from, return_inside))) (λ j high e. absurd (let inside = saved_inside j high in omega (arith, e, from, inside)))) (λ j high. refl) s.chain;
      leaves = leaves;
      globals = λ global below.
          same (data_base + 4 * global)
          (λ e. above_data (frame_at frames c.active.function).return_address global return_inside below e)
          (λ j high e. above_data ((frame_at frames c.active.function).first_saved + j) global (saved_inside j high) below e)
          ∙ s.globals global below;
      input = s.input;
      newest = s.newest;
      way = way;
      based = s.based;
      store = store_same ∙ s.store;
      laid = s.laid;
      counted = s.counted;
      middle = s.middle;
    }

    -- `Standing` (registers and memory represent the calls) still holds after the region store changes and the register with the
    -- number of open lexical regions is updated.
    pub standing_store : (store : StoreState) (r' : Words) → r' 0 ≡ r 0 → r' FRAME ≡ r FRAME → r' LOWEST ≡ r LOWEST → r' RETURN_ADDRESS ≡ r RETURN_ADDRESS → r' HANDLERS ≡ r HANDLERS
        → r' REGIONS ≡ lexical_count store.regions % 2 ^ 32 → r' GLOBALS ≡ r GLOBALS → IsLaid pages store
        → ((j : ℕ) → saved_at stage (frame_at frames c.active.function) ≤ j → j < 7 → preserved_of r' j ≡ preserved_of r j)
        → Standing program frames addresses pages calls (record c { store = store }) r' (record w { store = store }) base back stage slots
    standing_store store r' zero_same base_same lowest_same back_same newest_same counted middle_same laid preserved_same = record {
      known = s.known;
      base_is = base_same ∙ s.base_is;
      zero_is = zero_same ∙ s.zero_is;
      lowest = ap (λ (n : ℕ). n + frame_size * calls) lowest_same ∙ s.lowest;
      deep = s.deep;
      holds = s.holds;
      left = s.left;
      chain = chain_kept program frames fit addresses w (record w { store = store }) base back s.left s.left c.active.function c.frames (λ a from. refl) (λ j high. refl) s.chain;
      leaves = leaves_kept r' (record w { store = store }) preserved_same (λ j high. refl);
      globals = s.globals;
      input = s.input;
      newest = subst (λ (n : ℕ). IsNewest program frames addresses n base c.active.function c.active.handlers c.frames) (sym newest_same) s.newest;
      way = back_in (in_frame_at stage) (frame_at frames c.active.function) r' w (record w { store = store }) base back refl (back_by (in_frame_at stage) (frame_at frames c.active.function) r r' w base back (λ outside. back_same) s.way);
      based = s.based;
      store = refl;
      laid = laid;
      counted = counted;
      middle = middle_same ∙ s.middle;
    }

    -- `Standing` (registers and memory represent the calls) still holds after a write to a word of a live block of the region store.
    pub standing_saved : (address word : ℕ) → IsWord word
        → Standing program frames addresses pages calls (record c { store = saved c.store address word }) r (saved_in w address word) base back stage slots
    standing_saved address word is_word = record {
      known = s.known;
      base_is = s.base_is;
      zero_is = s.zero_is;
      lowest = s.lowest;
      deep = s.deep;
      holds = s.holds;
      left = s.left;
      chain = chain_kept program frames fit addresses w (saved_in w address word) base back s.left s.left c.active.function c.frames (λ a from. refl) (λ j high. refl) s.chain;
      leaves = leaves_kept r (saved_in w address word) (λ j past high. refl) (λ j high. refl);
      globals = s.globals;
      input = s.input;
      newest = s.newest;
      way = back_in (in_frame_at stage) (frame_at frames c.active.function) r w (saved_in w address word) base back refl s.way;
      based = s.based;
      store = ap (λ (x : StoreState). saved x address word) s.store;
      laid = saved_laid pages c.store address word is_word s.laid;
      counted = s.counted ∙ ap (λ (rs : List Home). lexical_count rs % 2 ^ 32) (sym (saved_regions c.store address word));
      middle = s.middle;
    }

    -- `Standing` (registers and memory represent the calls) still holds after a write to a global.
    pub standing_global : (global word : ℕ) → global < length program.globals
        → Standing program frames addresses pages calls (record c { globals = put c.globals global word }) r (written w (data_base + 4 * global) word) base back stage slots
    standing_global global word below = record {
      known = s.known;
      base_is = s.base_is;
      zero_is = s.zero_is;
      lowest = s.lowest;
      deep = s.deep;
      holds = λ slot slot_below slot_kept.
          put-other w.words (global_at global) (base + slot_offset (frame_at frames c.active.function) slot) word
          (λ e. above_data (slot_word (frame_at frames c.active.function) slot) global (slot_inside slot slot_below) below (sym e))
          ∙ s.holds slot slot_below slot_kept;
      left = s.left;
      chain = chain_kept program frames fit addresses w (written w (global_at global) word) base back s.left s.left c.active.function c.frames
          (λ a from. put-other w.words (global_at global) a word (λ e. absurd (omega (arith, e, from, below, well.globals, lies.above_low, s.deep)))) (λ j high. refl) s.chain;
      leaves = leaves_kept r (written w (global_at global) word) (λ j past high. refl)
          (λ j high. put-other w.words (global_at global) (base + 4 * ((frame_at frames c.active.function).first_saved + j)) word (λ e. above_data ((frame_at frames c.active.function).first_saved + j) global (saved_inside j high) below (sym e)));
      globals = λ other other_below. elim (cases_eq other global) [
        | inl same ↦
            ap (λ (x : ℕ). put w.words (global_at global) word (data_base + 4 * x)) same
            ∙ (put-same w.words (global_at global) word ∙ sym (ap (put c.globals global word) same ∙ put-same c.globals global word))
        | inr apart ↦
            put-other w.words (global_at global) (data_base + 4 * other) word (λ e. apart (omega (arith, e)))
            ∙ (s.globals other other_below ∙ sym (put-other c.globals global other word apart))
      ];
      input = s.input;
      newest = s.newest;
      way = back_in (in_frame_at stage) (frame_at frames c.active.function) r w (written w (global_at global) word) base back
          (put-other w.words (global_at global) return_at word (λ e. above_data (frame_at frames c.active.function).return_address global return_inside below (sym e))) s.way;
      based = s.based;
      store = s.store;
      laid = s.laid;
      counted = s.counted;
      middle = s.middle;
    }
