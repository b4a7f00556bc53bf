-- This file is about a local of a waiting call: the frame of its call, and the data that are preserved when the local is assigned.
use Rattle.std.proofs.Common.{◌≡◌, ◌≢◌, ℕ, zero, suc, ◌≤◌, ◌<◌, List, [], ◌∷◌, length, set, Option, Some, slice_get, refl, sym, ap, subst, arith, inr}
use Rattle.std.proofs.lemmas.Option.{same_Some, none-some}
use Rattle.cyc_types.specs.TypedTrees.{Program}
use Rattle.cyc_plain.specs.inside.Program.{Program as PlainProgram}
use Rattle.cyc_plain.specs.inside.State.{Words, Frame}
use Rattle.cyc_meaning.specs.Values.{Operand, words_of_kind}
use Rattle.cyc_meaning.specs.State.{Object, Entry, Caller}
use Rattle.cyc_memory_relation.specs.inside.Tables.{Tables}
use Rattle.cyc_memory_relation.specs.inside.Words.{Is}
use Rattle.cyc_lower_proof.specs.inside.Slots.{slot_of, global_types}
use Rattle.cyc_lower_proof.specs.inside.Lowering.{scopes_of}
use Rattle.cyc_lower_proof.proofs.slots.Widths.{HasRoom, Outside}
use Rattle.cyc_lower_proof.proofs.slots.Slots.{slot-room}
use Rattle.cyc_lower_proof.proofs.relation.contents.HeldValues.{Waiting, LocalsHold, Holds, contents, callers, IsCharAt}
use Rattle.cyc_lower_proof.proofs.relation.simulation.Stacks.{FramesHold, DataAt, call_slots, types_at, starts_at, base_of}
use Rattle.cyc_lower_proof.proofs.relation.contents.Data.{locals_assigned, locals_kept, frames_kept, globals_kept, globals_below, Holds-above}
use Rattle.cyc_lower_proof.proofs.relation.contents.HandlerData.{following-least}
use Rattle.cyc_plain.specs.inside.Memory.{IsBelow, AreBelow}
use Rattle.cyc_types.specs.declared.typed.Kind.TheVariants as kinds

-- The frame `f` with its slots replaced.
abbrev pub with_slots_of : Frame → Words → Frame
with_slots_of f slots = record f { caller = record f.caller { slots = slots } }

-- The temporaries of a waiting call begin after its locals.
pub callers_least : (k : List Entry) (scopes : Option ℕ) (i : ℕ) (x : Waiting) → slice_get (callers k) i ≡ Some x → (base : ℕ) → base ≤ x.temporaries scopes base
callers_least [] scopes i x at base = absurd (none-some x at)
callers_least (Caller e ∷ k) scopes zero x at base = subst (λ (y : Waiting). base ≤ y.temporaries scopes base) (same_Some _ x at) (following-least k scopes base)
callers_least (Caller e ∷ k) scopes (suc i) x at base = callers_least k scopes i x at base
callers_least (entry ∷ k) scopes i x at base = callers_least k scopes i x at base

-- Writing slots of a waiting call leaves the addresses of all calls unchanged.
pub below_set : (program : PlainProgram) (function base : ℕ) (frames : List Frame) (i : ℕ) (f : Frame) (slots : Words) → slice_get frames i ≡ Some f → AreBelow program function base frames
    → AreBelow program function base (set frames i (with_slots_of f slots))
below_set program function base [] i f slots at below = absurd (none-some f at)
below_set program function base (h ∷ frames) zero f slots at (first, rest) =
    let same = same_Some h f at in (
      subst (λ (x : Frame). IsBelow program function base x.caller.base) same first,
      subst (λ (x : Frame). AreBelow program x.caller.function x.caller.base frames) same rest,
    )
below_set program function base (h ∷ frames) (suc i) f slots at (first, rest) = (first, below_set program h.caller.function h.caller.base frames i f slots at rest)

pub frame_set_at : (frames : List Frame) (i : ℕ) (f h : Frame) → slice_get frames i ≡ Some f → slice_get (set frames i h) i ≡ Some h
frame_set_at [] i f h at = absurd (none-some f at)
frame_set_at (x ∷ frames) zero f h at = refl
frame_set_at (x ∷ frames) (suc i) f h at = frame_set_at frames i f h at

pub set_again : (frames : List Frame) (i : ℕ) (f h : Frame) → set (set frames i f) i h ≡ set frames i h
set_again [] i f h = refl
set_again (x ∷ frames) zero f h = refl
set_again (x ∷ frames) (suc i) f h = ap (λ (fs : List Frame). x ∷ fs) (set_again frames i f h)

module _ (t : Tables) (source : Program) where
  abbrev Locals : (objects : List Object) → Waiting → Frame → (low high : ℕ) → Type 0
  Locals objects x f low high = LocalsHold t (types_at source f.caller.function) (call_slots source f.caller.function f.caller.base) objects x.locals low high f.caller.slots

  -- The frame of a waiting call, with the facts about its locals.
  pub record IsFrameAt (objects : List Object) (high : ℕ) (frames : List Frame) (x : Waiting) (i : ℕ) : Type 0 where
    pub frame : Frame
    pub at : slice_get frames i ≡ Some frame
    pub low : ℕ
    pub upper : ℕ
    pub below : upper ≤ high
    pub holds : LocalsHold t (types_at source frame.caller.function) (call_slots source frame.caller.function frame.caller.base) objects x.locals low upper frame.caller.slots

  pub frame_at : (objects : List Object) (high : ℕ) (frames : List Frame) (outer : List Waiting) (i : ℕ) (x : Waiting) → FramesHold source t objects high frames outer → slice_get outer i ≡ Some x
      → IsFrameAt objects high frames x i
  frame_at objects high [] [] i x hold at = absurd (none-some x at)
  frame_at objects high [] (y ∷ outer) i x hold at = absurd hold
  frame_at objects high (f ∷ frames) [] i x hold at = absurd hold
  frame_at objects high (f ∷ frames) (y ∷ outer) zero x (low, below, (hold, values), rest) at = record {
    frame = f;
    at = refl;
    low = low;
    upper = high;
    below = omega arith;
    holds = subst (λ (z : Waiting). Locals objects z f low high) (same_Some y x at) hold;
  }
  frame_at objects high (f ∷ frames) (y ∷ outer) (suc i) x (low, below, (hold, values), rest) at =
      let there = frame_at objects low frames outer i x rest at in
      record { frame = there.frame; at = there.at; low = there.low; upper = there.upper; below = omega (arith, there.below, below); holds = there.holds }

  -- ---- assigning the local

  module _ (objects others : List Object) (f : Frame) (x : Waiting) (number object : ℕ) (v : Operand) (after : Words) (here : x.locals number ≡ Some object) (now : contents others object ≡ Some v)
      (same : (o : ℕ) → o ≢ object → contents others o ≡ contents objects o) (room : HasRoom (types_at source f.caller.function) number v.kind)
      (is : Is t v.kind v.value after (slot_of (starts_at source f.caller.function) number)) (char : IsCharAt t object → v.kind ≡ kinds.Char)
      (elsewhere : (m : ℕ) → Outside (slot_of (starts_at source f.caller.function) number) (words_of_kind v.kind) m → after m ≡ f.caller.slots m)
      (least : (base : ℕ) → base ≤ x.temporaries (scopes_of source) base) where
    abbrev g : ℕ
    g = f.caller.function

    pub frames_assigned : (high : ℕ) (frames : List Frame) (outer : List Waiting) (i : ℕ) → slice_get frames i ≡ Some f → slice_get outer i ≡ Some x → FramesHold source t objects high frames outer
        → FramesHold source t others high (set frames i (with_slots_of f after)) outer × (length (global_types source.globals) ≤ object) × (object < high)
    frames_assigned high [] outer i at there hold = absurd (none-some f at)
    frames_assigned high (h ∷ frames) [] i at there hold = absurd hold
    frames_assigned high (h ∷ frames) (y ∷ outer) zero at there (low, below, (hold, values), rest) =
        let h_is = same_Some h f at in
        let y_is = same_Some y x there in
        let hold_is : Locals objects x f low high = subst (λ (z : Waiting). Locals objects z f low high) y_is (subst (λ (j : Frame). Locals objects y j low high) h_is hold) in
        let values_is : Holds t f.caller.slots (x.temporaries (scopes_of source) (base_of source g)) x.values
        = subst (λ (z : Waiting). Holds t f.caller.slots (z.temporaries (scopes_of source) (base_of source g)) z.values) y_is
        (subst (λ (j : Frame). Holds t j.caller.slots (y.temporaries (scopes_of source) (base_of source j.caller.function)) y.values) h_is values) in
        let inside = hold_is.within number object here in
        let above = globals_below t source objects low frames outer rest in
        let slots_room = slot-room (types_at source g) number inside.0 in (
          (
            low,
            below,
            (
              subst (λ (z : Waiting). LocalsHold t (types_at source g) (call_slots source g f.caller.base) others z.locals low high after) (sym y_is)
                  (locals_assigned t (types_at source g) (call_slots source g f.caller.base) objects others x.locals low high f.caller.slots after number object v here now same room is char elsewhere hold_is),
              subst (λ (z : Waiting). Holds t after (z.temporaries (scopes_of source) (base_of source g)) z.values) (sym y_is)
                  (Holds-above t f.caller.slots after (x.temporaries (scopes_of source) (base_of source g)) x.values (λ n from. elsewhere n (inr (omega (arith, from, least (base_of source g), slots_room, room)))) values_is),
            ),
            frames_kept t source objects others low frames outer (λ o from to. same o (λ e. absurd (omega (arith, e, to, inside.1)))) rest,
          ),
          omega (arith, above, inside.1),
          inside.2,
        )
    frames_assigned high (h ∷ frames) (y ∷ outer) (suc i) at there (low, below, (hold, values), rest) =
        let (later, from, under) = frames_assigned low frames outer i at there rest in (
          (
            low,
            below,
            (
              locals_kept t (types_at source h.caller.function) (call_slots source h.caller.function h.caller.base) objects others y.locals low high h.caller.slots (λ o least_o to. same o (λ e. absurd (omega (arith, e, least_o, under)))) hold,
              values,
            ),
            later,
          ),
          from,
          omega (arith, under, below),
        )

    pub data_assigned_waiting : (callee base : ℕ) (locals : ℕ → Option ℕ) (outer : List Waiting) (slots globals : Words) (frames : List Frame) (i : ℕ) → length others ≡ length objects → slice_get frames i ≡ Some f → slice_get outer i ≡ Some x
        → DataAt source t callee base objects locals outer slots globals frames → DataAt source t callee base others locals outer slots globals (set frames i (with_slots_of f after))
    data_assigned_waiting callee base locals outer slots globals frames i long at there (low, below, hold, waiting, words) =
        let (later, from, under) = frames_assigned low frames outer i at there waiting in (
          low,
          omega (arith, below, long),
          subst (λ high. LocalsHold t (types_at source callee) (call_slots source callee base) others locals low high slots) (sym long)
              (locals_kept t (types_at source callee) (call_slots source callee base) objects others locals low (length objects) slots (λ o least_o to. same o (λ e. absurd (omega (arith, e, least_o, under)))) hold),
          later,
          globals_kept t source callee objects others globals (λ o least_o to. same o (λ e. absurd (omega (arith, e, to, from)))) words,
        )
