-- This file is about the handler records that are preserved while a step changes slots, and about the number of calls in the frames.
use Rattle.std.proofs.Common.{◌≡◌, ℕ, suc, ◌+◌, ◌≤◌, ◌<◌, Bool, true, false, List, [], ◌∷◌, length, Option, None, Some, refl, ap, ◌∙◌, arith, inl, inr}
use Rattle.cyc_types.specs.TypedTrees.{Program}
use Rattle.cyc_plain.specs.inside.State as plain
use Rattle.cyc_plain.specs.inside.State.{Words, Frame}
use Rattle.cyc_plain.specs.declared.limits.TheConstants.{RECORD_WORDS}
use Rattle.cyc_meaning.specs.State.{Object, Entry, Handler, Caller, Main, calls_in, CloseLexical, Loop}
use Rattle.cyc_lower_proof.specs.inside.ControlCode.{after_record_in}
use Rattle.cyc_lower_proof.specs.inside.Lowering.{scopes_of}
use Rattle.cyc_lower_proof.proofs.slots.Widths.{Outside}
use Rattle.cyc_memory_relation.specs.inside.Tables.{Tables}
use Rattle.cyc_lower_proof.proofs.relation.contents.HeldValues.{after_records, scopes_in, IsKept, callers, contents, left_by}
use Rattle.cyc_lower_proof.proofs.relation.simulation.Relation.{HandlersStand}
use Rattle.cyc_lower_proof.proofs.relation.simulation.Stacks.{floor, DataAt, base_of}
use Rattle.cyc_lower_proof.proofs.relation.contents.Data.{data_above}

-- ---- handler records

record-least : (scopes : Option ℕ) (slot : ℕ) → slot + RECORD_WORDS ≤ after_record_in scopes slot
record-least None slot = omega arith
record-least (Some place) slot = omega arith

-- Temporaries begin after the locals and after the slot for the tag of an exception.
following-above : (k : List Entry) (scopes : Option ℕ) (slot : ℕ) → slot < after_records k scopes slot
following-above [] scopes slot = omega arith
following-above (Handler handler ∷ k) scopes slot = omega (arith, following-above k scopes slot, record-least scopes (after_records k scopes slot))
following-above (CloseLexical region ∷ k) scopes slot = omega (arith, following-above k scopes slot)
following-above (Caller e ∷ k) scopes slot = omega arith
following-above (Main ∷ k) scopes slot = omega arith
following-above (entry ∷ k) scopes slot = following-above k scopes slot

pub following-least : (k : List Entry) (scopes : Option ℕ) (slot : ℕ) → slot ≤ after_records k scopes slot
following-least k scopes slot = omega (arith, following-above k scopes slot)

floor-above : (source : Program) (g : ℕ) (k : List Entry) → base_of source g < floor source g k
floor-above source g k = following-above k (scopes_of source) (base_of source g)

pub floor-least : (source : Program) (g : ℕ) (k : List Entry) → base_of source g ≤ floor source g k
floor-least source g k = following-least k (scopes_of source) (base_of source g)

-- A handler record ends before the temporaries, and so does the region count that is saved after it.
pub record_below : (source : Program) (g : ℕ) (k : List Entry) → floor source g k + RECORD_WORDS ≤ after_record_in (scopes_of source) (floor source g k)
record_below source g k = record-least (scopes_of source) (floor source g k)

record_kept : (scopes : Option ℕ) (slots other : Words) (slot many : ℕ) → (slot + RECORD_WORDS < after_record_in scopes slot → other (slot + RECORD_WORDS) ≡ slots (slot + RECORD_WORDS))
    → IsKept scopes slots (slot + RECORD_WORDS) many → IsKept scopes other (slot + RECORD_WORDS) many
record_kept None slots other slot many same kept = tt
record_kept (Some place) slots other slot many same kept = same (omega arith) ∙ kept

module _ (source : Program) where
  -- If two slot maps are equal from the slot for exception tags up to the temporaries, then they contain equal handler records.
  handlers_above : (g : ℕ) (slots other : Words) (handlers : List plain.Handler) (frames : List Frame) (k : List Entry)
      → ((n : ℕ) → base_of source g < n → n < floor source g k → other n ≡ slots n) → HandlersStand source g slots handlers frames k → HandlersStand source g other handlers frames k
  handlers_above g slots other handlers frames [] same stand = absurd stand
  handlers_above g slots other [] frames (Handler handler ∷ k) same stand = absurd stand
  handlers_above g slots other (plain.Caught ∷ handlers) frames (Handler handler ∷ k) same stand = absurd stand
  handlers_above g slots other (plain.Open index first contents ∷ handlers) frames (Handler handler ∷ k) same (is, (zeroth, second, third, fourth), kept, catches, rest) =
      let least = floor-above source g k in
      let inside = record_below source g k in (
        is,
        (
          same first (omega (arith, is, least)) (omega (arith, is, inside)) ∙ zeroth,
          same (first + 1) (omega (arith, is, least)) (omega (arith, is, inside)) ∙ second,
          same (first + 2) (omega (arith, is, least)) (omega (arith, is, inside)) ∙ third,
          same (first + 3) (omega (arith, is, least)) (omega (arith, is, inside)) ∙ fourth,
        ),
        record_kept (scopes_of source) slots other (floor source g k) (scopes_in k) (λ inside. same (floor source g k + RECORD_WORDS) (omega (arith, least)) inside) kept,
        catches,
        handlers_above g slots other handlers frames k (λ n from to. same n from (omega (arith, to, inside))) rest,
      )
  handlers_above g slots other handlers frames (Caller e ∷ k) same stand = stand
  handlers_above g slots other handlers frames (Main ∷ k) same stand = stand
  handlers_above g slots other handlers frames (CloseLexical region ∷ k) same (marked, stand) =
      (same (floor source g k) (floor-above source g k) (omega arith) ∙ marked, handlers_above g slots other handlers frames k (λ n from to. same n from (omega (arith, to))) stand)
  handlers_above g slots other handlers frames (entry ∷ k) same stand = handlers_above g slots other handlers frames k same stand

  pub handlers_same : (g : ℕ) (slots other : Words) (handlers : List plain.Handler) (frames : List Frame) (k : List Entry)
      → ((n : ℕ) → base_of source g ≤ n → n < floor source g k → other n ≡ slots n) → HandlersStand source g slots handlers frames k → HandlersStand source g other handlers frames k
  handlers_same g slots other handlers frames k same stand = handlers_above g slots other handlers frames k (λ n from to. same n (omega (arith, from)) to) stand

  -- Writing a local preserves the handler records.
  pub handlers_beside : (g : ℕ) (slots after : Words) (handlers : List plain.Handler) (frames : List Frame) (k : List Entry) (n many : ℕ) → n + many ≤ base_of source g
      → ((m : ℕ) → Outside n many m → after m ≡ slots m) → HandlersStand source g slots handlers frames k → HandlersStand source g after handlers frames k
  handlers_beside g slots after handlers frames k n many below same stand =
      handlers_same g slots after handlers frames k (λ m from to. same m (inr (omega (arith, below, from)))) stand

  -- Writing words after the handler records preserves the facts about the data of all calls.
  pub data_written : (t : Tables) (g base : ℕ) (objects : List Object) (locals : ℕ → Option ℕ) (k : List Entry) (slots after : Words) (handlers : List plain.Handler) (globals : Words) (frames : List Frame) (n many : ℕ)
      → floor source g k ≤ n → ((m : ℕ) → Outside n many m → after m ≡ slots m)
      → DataAt source t g base objects locals (callers k) slots globals frames × HandlersStand source g slots handlers frames k
      → DataAt source t g base objects locals (callers k) after globals frames × HandlersStand source g after handlers frames k
  data_written t g base objects locals k slots after handlers globals frames n many above same (facts, stand) = (
    data_above t source g base objects locals (callers k) slots after globals frames n many (omega (arith, above, floor-least source g k)) same facts,
    handlers_same g slots after handlers frames k (λ m from to. same m (inl (omega (arith, to, above)))) stand,
  )

  -- Writing the slot for the tag of an exception preserves the facts about the data of all calls.
  pub data_reported : (t : Tables) (g base : ℕ) (objects : List Object) (locals : ℕ → Option ℕ) (k : List Entry) (slots after : Words) (handlers : List plain.Handler) (globals : Words) (frames : List Frame)
      → ((m : ℕ) → Outside (base_of source g) 1 m → after m ≡ slots m)
      → DataAt source t g base objects locals (callers k) slots globals frames × HandlersStand source g slots handlers frames k
      → DataAt source t g base objects locals (callers k) after globals frames × HandlersStand source g after handlers frames k
  data_reported t g base objects locals k slots after handlers globals frames same (facts, stand) = (
    data_above t source g base objects locals (callers k) slots after globals frames (base_of source g) 1 (omega arith) same facts,
    handlers_above g slots after handlers frames k (λ m from to. same m (inr (omega (arith, from)))) stand,
  )

  -- The number of active calls is the number of frames plus one for the running call.
  pub calls_counted : (g : ℕ) (slots : Words) (handlers : List plain.Handler) (frames : List Frame) (k : List Entry) → HandlersStand source g slots handlers frames k → calls_in k ≡ suc (length frames)
  calls_counted g slots handlers frames [] stand = absurd stand
  calls_counted g slots [] frames (Handler handler ∷ k) stand = absurd stand
  calls_counted g slots (plain.Caught ∷ handlers) frames (Handler handler ∷ k) stand = absurd stand
  calls_counted g slots (plain.Open index first contents ∷ handlers) frames (Handler handler ∷ k) (is, intact, kept, catches, rest) = calls_counted g slots handlers frames k rest
  calls_counted g slots handlers [] (Caller e ∷ k) (none, rest) = absurd rest
  calls_counted g slots handlers (f ∷ frames) (Caller e ∷ k) (none, rest) = ap suc (calls_counted f.caller.function f.caller.slots f.caller.handlers frames k rest)
  calls_counted g slots handlers [] (Main ∷ []) (none, last) = refl
  calls_counted g slots handlers [] (Main ∷ entry ∷ k) (none, last) = absurd last
  calls_counted g slots handlers (f ∷ frames) (Main ∷ k) (none, last) = absurd last
  calls_counted g slots handlers frames (CloseLexical region ∷ k) (marked, stand) = calls_counted g slots handlers frames k stand
  calls_counted g slots handlers frames (entry ∷ k) stand = calls_counted g slots handlers frames k stand

-- Popping continuation frames of one call does not change the number of active calls.
pub calls_left : (loop : Bool) (k : List Entry) → calls_in (left_by loop k) ≡ calls_in k
calls_left loop [] = refl
calls_left true (Loop condition body ∷ k) = refl
calls_left false (Loop condition body ∷ k) = calls_left false k
calls_left loop (Caller e ∷ k) = refl
calls_left loop (Main ∷ k) = refl
calls_left loop (entry ∷ k) = calls_left loop k
