-- This file is about the data in slots, variables and frames that are preserved while the tables of objects grow.
use Rattle.std.proofs.Common.{◌≡◌, ℕ, ◌+◌, List, [], ◌∷◌, length, Option, None, Some, slice_get, sym, ◌∙◌, ◌*◌}
use Rattle.cyc_types.specs.TypedTrees.{Program}
use Rattle.cyc_plain.specs.inside.State.{Words, Frame}
use Rattle.cyc_plain.specs.declared.limits.TheConstants.{GLOBALS_BASE}
use Rattle.cyc_meaning.specs.Values.{Operand, words_of_kind}
use Rattle.cyc_meaning.specs.State.{Object}
use Rattle.cyc_lower_proof.specs.inside.Slots.{starts_of, slot_of, global_of, global_types, Types}
use Rattle.cyc_lower_proof.specs.inside.Lowering.{scopes_of}
use Rattle.cyc_memory_relation.specs.inside.Tables.{Tables, Grows, Row, Placed}
use Rattle.cyc_memory_relation.proofs.Values.{Is-grows}
use Rattle.cyc_lower_proof.proofs.relation.places.Known.{global-row_grows, first_word}
use Rattle.cyc_lower_proof.proofs.relation.contents.HeldValues.{CallSlots, row_of, Waiting, height, Holds, HoldsFrom, LocalsHold, IsCharAt}
use Rattle.cyc_lower_proof.proofs.relation.simulation.Stacks.{call_slots, FramesHold, DataAt, types_at, starts_at, base_of}
use Rattle.cyc_lower_proof.proofs.relation.simulation.Shared.{AreOfVariables}
use Rattle.cyc_lower_proof.specs.inside.ValueCode.{variable_bytes}

-- ---- growing tables

module _ (t u : Tables) (grows : Grows t u) where
  pub Holds-grows : (slots : Words) (base : ℕ) (vs : List Operand) → Holds t slots base vs → Holds u slots base vs
  Holds-grows slots base [] holds = tt
  Holds-grows slots base (v ∷ vs) (is, holds) = (Is-grows grows v.kind v.value slots (height base vs) is, Holds-grows slots base vs holds)

  pub HoldsFrom-grows : (slots : Words) (first : ℕ) (vs : List Operand) → HoldsFrom t slots first vs → HoldsFrom u slots first vs
  HoldsFrom-grows slots first [] holds = tt
  HoldsFrom-grows slots first (v ∷ vs) (is, holds) = (Is-grows grows v.kind v.value slots first is, HoldsFrom-grows slots (first + words_of_kind v.kind) vs holds)

  -- If the table of objects grows, then an object that already had a row in this table keeps its row.
  char_before : (object : ℕ) (row : Row) → slice_get t.rows object ≡ Some row → IsCharAt u object → IsCharAt t object
  char_before object row there (address, is) = (address, there ∙ (sym (grows.rows object row there) ∙ is))

  locals_grow : (types : Types) (s : CallSlots) (objects : List Object) (locals : ℕ → Option ℕ) (low high : ℕ) (slots : Words) → LocalsHold t types s objects locals low high slots
      → LocalsHold u types s objects locals low high slots
  locals_grow types s objects locals low high slots hold = record {
    within = hold.within;
    apart = hold.apart;
    rows = λ number object at.
        let r = hold.rows number object at in
        record { kind = r.kind; room = r.room; of_type = r.of_type; row = grows.rows object (row_of s (slot_of (starts_of types) number) r.kind) r.row };
    holds = λ number object v at has. let (is, room) = hold.holds number object v at has in (Is-grows grows v.kind v.value slots (slot_of (starts_of types) number) is, room);
    small = λ number object at is_char.
        let r = hold.rows number object at in
        hold.small number object at (char_before object (row_of s (slot_of (starts_of types) number) r.kind) r.row is_char);
  }

  frames_grow : (source : Program) (objects : List Object) (high : ℕ) (frames : List Frame) (outer : List Waiting) → FramesHold source t objects high frames outer → FramesHold source u objects high frames outer
  frames_grow source objects high [] [] hold = hold
  frames_grow source objects high [] (x ∷ outer) hold = absurd hold
  frames_grow source objects high (f ∷ frames) [] hold = absurd hold
  frames_grow source objects high (f ∷ frames) (x ∷ outer) (low, below, (hold, values), rest) = (
    low,
    below,
    (
      locals_grow (types_at source f.caller.function) (call_slots source f.caller.function f.caller.base) objects x.locals low high f.caller.slots hold,
      Holds-grows f.caller.slots (x.temporaries (scopes_of source) (base_of source f.caller.function)) x.values values,
    ),
    frames_grow source objects low frames outer rest,
  )

  -- If the tables of objects grow, then the facts about the data of all calls still hold.
  pub data_grows : (source : Program) (g base : ℕ) (objects : List Object) (locals : ℕ → Option ℕ) (outer : List Waiting) (slots globals : Words) (frames : List Frame)
      → DataAt source t g base objects locals outer slots globals frames → DataAt source u g base objects locals outer slots globals frames
  data_grows source g base objects locals outer slots globals frames (low, below, hold, waiting, words) = (
    low,
    below,
    locals_grow (types_at source g) (call_slots source g base) objects locals low (length objects) slots hold,
    frames_grow source objects low frames outer waiting,
    λ number few.
        let (row, holds, small) = words number few in (
          global-row_grows t u grows (global_types source.globals) number row,
          (λ v has. let (is, room) = holds v has in (Is-grows grows v.kind v.value globals (global_of (starts_at source g) number) is, room)),
          λ is_char. small (char_before number (Placed (GLOBALS_BASE + 4 * first_word (global_types source.globals) number + variable_bytes row.kind) (row.kind ∷ [])) row.row is_char),
        ),
  )

  pub variables_grow : (regions : List ℕ) → AreOfVariables t regions → AreOfVariables u regions
  variables_grow [] are = tt
  variables_grow (region ∷ regions) (one, all) = (grows.handles region None one, variables_grow regions all)
