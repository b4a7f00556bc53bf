-- No memory word is part of the values of two live variables, because globals and the locals of active calls do not overlap.
use Rattle.std.proofs.Common.{◌≡◌, ◌≢◌, ℕ, zero, suc, ◌+◌, ◌*◌, ◌<◌, ◌≤◌, true, List, [], ◌∷◌, length, Option, None, Some, slice_get, sym, ap, subst, ◌∙◌, arith, inl, inr}
use Rattle.std.proofs.lemmas.Bool.{cases_eq, cases_lt}
use Rattle.std.proofs.lemmas.Option.{same_Some, none-some}
use Rattle.cyc_types.specs.Types.{Ty}
use Rattle.cyc_types.specs.TypedTrees.{Program}
use Rattle.cyc_store.specs.State.{StoreState}
use Rattle.cyc_store.specs.declared.range.TheConstants.{STORE_BASE}
use Rattle.cyc_plain.specs.declared.limits.TheConstants.{GLOBALS_BASE}
use Rattle.cyc_plain.specs.inside.Program.{Program as PlainProgram, routine_at}
use Rattle.cyc_plain.specs.inside.State.{Words, Frame}
use Rattle.cyc_plain.specs.inside.Memory.{AreBelow, slots_base, is_pinned}
use Rattle.cyc_plain.proofs.MemoryLaws.{below-waiting, below-low, pinned-inside}
use Rattle.cyc_meaning.specs.Values.{words_of_kind}
use Rattle.cyc_meaning.specs.State.{World}
use Rattle.cyc_memory_relation.specs.inside.Tables.{Tables}
use Rattle.cyc_memory_relation.specs.inside.Words.{Points}
use Rattle.cyc_memory_relation.specs.inside.Related as objects
use Rattle.cyc_memory_relation.specs.inside.Related.{AreApart}
use Rattle.cyc_memory_relation.proofs.Values.{kind-some}
use Rattle.cyc_lower_proof.specs.inside.Slots.{Types, slot_of, global_types}
use Rattle.cyc_lower_proof.specs.inside.Lowering.{lower_program}
use Rattle.cyc_lower_proof.proofs.slots.Widths.{words_in}
use Rattle.cyc_lower_proof.proofs.slots.Slots.{slot-apart, global-apart}
use Rattle.cyc_lower_proof.proofs.relation.places.Known.{global-first, first_word}
use Rattle.cyc_lower_proof.proofs.relation.contents.HeldValues.{Waiting}
use Rattle.cyc_lower_proof.proofs.relation.simulation.Stacks.{DataAt, code_of, types_at, starts_at}
use Rattle.cyc_lower_proof.proofs.relation.simulation.Shared.{silent}
use Rattle.cyc_lower_proof.proofs.relation.places.Rows.{local-pointer}
use Rattle.cyc_lower_proof.proofs.relation.contents.WaitingData.{frame_at}
use Rattle.cyc_lower_proof.proofs.relation.places.Leads.{IsNamed, is_global, is_local, is_waiting, AreNamed}
use Rattle.cyc_lower_proof.specs.inside.ValueCode.{variable_bytes}
use Rattle.cyc_lower_proof.proofs.slots.CellBytes.{last_low}

-- Of two waiting calls, the older one has its slots at higher addresses than the newer one.
frames_below : (program : PlainProgram) (function base : ℕ) (frames : List Frame) (i j : ℕ) (f h : Frame) → AreBelow program function base frames → slice_get frames i ≡ Some f → slice_get frames j ≡ Some h → i < j
    → f.caller.base + 4 * (routine_at program f.caller.function).slots ≤ h.caller.base
frames_below program function base [] i j f h below at there less = absurd (none-some f at)
frames_below program function base (x ∷ frames) zero zero f h below at there less = absurd (omega (arith, less))
frames_below program function base (x ∷ frames) zero (suc j) f h (first, rest) at there less =
    subst (λ (y : Frame). y.caller.base + 4 * (routine_at program y.caller.function).slots ≤ h.caller.base) (same_Some x f at) (below-waiting program x.caller.function x.caller.base frames j h rest there)
frames_below program function base (x ∷ frames) (suc i) zero f h below at there less = absurd (omega (arith, less))
frames_below program function base (x ∷ frames) (suc i) (suc j) f h (first, rest) at there less = frames_below program x.caller.function x.caller.base frames i j f h rest at there (omega (arith, less))

-- The position of a word of a variable: it is in a global, or in a local of the running call or of a waiting call.
data Lies (source : Program) (locals : ℕ → Option ℕ) (outer : List Waiting) (g base : ℕ) (frames : List Frame) (object word : ℕ) : Type 0 where
  in_global : object < length (global_types source.globals) → (bytes : ℕ) → bytes ≤ 3 → word ≡ GLOBALS_BASE + 4 * first_word (global_types source.globals) object + bytes → (words : ℕ) → 0 < words → words ≤ words_in (global_types source.globals) object
      → GLOBALS_BASE + 4 * (first_word (global_types source.globals) object + words) ≤ STORE_BASE → Lies source locals outer g base frames object word
  in_running : (number : ℕ) → locals number ≡ Some object → number < length (types_at source g).locals → 1 ≤ words_in (types_at source g).locals number → is_pinned (code_of source g) (slot_of (starts_at source g) number) ≡ true
      → (bytes : ℕ) → bytes ≤ 3 → word ≡ base + 4 * slot_of (starts_at source g) number + bytes → Lies source locals outer g base frames object word
  in_other : (i number : ℕ) → (x : Waiting) → (f : Frame) → slice_get outer i ≡ Some x → slice_get frames i ≡ Some f → x.locals number ≡ Some object → number < length (types_at source f.caller.function).locals
      → 1 ≤ words_in (types_at source f.caller.function).locals number → is_pinned (code_of source f.caller.function) (slot_of (starts_at source f.caller.function) number) ≡ true
      → (bytes : ℕ) → bytes ≤ 3 → word ≡ f.caller.base + 4 * slot_of (starts_at source f.caller.function) number + bytes → Lies source locals outer g base frames object word

module _ (source : Program) {t : Tables} {w : World} {store : StoreState} {locals : ℕ → Option ℕ} {outer : List Waiting} {g base : ℕ} {frames : List Frame} (slots globals : Words)
    (names : AreNamed source locals outer w g base frames store) (related : objects.Related t (silent w) store) (facts : DataAt source t g base w.objects locals outer slots globals frames) where
  abbrev types : List Ty
  types = global_types source.globals

  abbrev lowered : PlainProgram
  lowered = lower_program source

  lies : (object offset word : ℕ) → IsNamed (length types) locals outer object → Points t object offset word → Lies source locals outer g base frames object word
  lies object offset word (is_global few) points =
      let row = (facts.4 object few).0 in
      in_global few (variable_bytes row.kind) (last_low row.kind) (global-first types object offset word row points).1 (words_of_kind row.kind) (kind-some row.kind) row.room row.low
  lies object offset word (is_local number here) points =
      let r = facts.2.rows number object here in
      let place = local-pointer r points in
      in_running number here (facts.2.within number object here).0 (omega (arith, r.room, kind-some r.kind)) place.pinned (variable_bytes r.kind) (last_low r.kind) place.at
  lies object offset word (is_waiting i number x waits here) points =
      let frame = frame_at t source w.objects facts.0 frames outer i x facts.3 waits in
      let r = frame.holds.rows number object here in
      let place = local-pointer r points in
      in_other i number x frame.frame waits frame.at here (frame.holds.within number object here).0 (omega (arith, r.room, kind-some r.kind)) place.pinned (variable_bytes r.kind) (last_low r.kind) place.at

  -- Two locals of one call do not overlap.
  same_call : (h : ℕ) (at a b bytes more : ℕ) → bytes ≤ 3 → more ≤ 3 → a < length (types_at source h).locals → b < length (types_at source h).locals → 1 ≤ words_in (types_at source h).locals a → 1 ≤ words_in (types_at source h).locals b
      → at + 4 * slot_of (starts_at source h) a + bytes ≡ at + 4 * slot_of (starts_at source h) b + more → a ≡ b
  same_call h at a b bytes more few fewer inside around some also same = elim (cases_eq a b) [
    | inl equal ↦ equal
    | inr other ↦ absurd (elim (slot-apart (types_at source h) a b inside around other) [
      | inl before ↦ omega (arith, before, same, some, few, fewer)
      | inr following ↦ omega (arith, following, same, also, few, fewer)
    ])
  ]

  low : slots_base ≤ base
  low = below-low lowered g base frames names.lie

  -- A word of a waiting call has a higher address than the words of the running call.
  above_running : (i : ℕ) (f : Frame) (slot other bytes more : ℕ) → bytes ≤ 3 → slice_get frames i ≡ Some f → is_pinned (code_of source g) slot ≡ true → base + 4 * slot + bytes ≢ f.caller.base + 4 * other + more
  above_running i f slot other bytes more low at pinned same =
      absurd (omega (arith, same, low, below-waiting lowered g base frames i f names.lie at, pinned-inside lowered names.well g slot pinned))

  above_other : (i j : ℕ) (f h : Frame) (slot other bytes more : ℕ) → bytes ≤ 3 → slice_get frames i ≡ Some f → slice_get frames j ≡ Some h → i < j → is_pinned (code_of source f.caller.function) slot ≡ true
      → f.caller.base + 4 * slot + bytes ≢ h.caller.base + 4 * other + more
  above_other i j f h slot other bytes more low at there less pinned same =
      absurd (omega (arith, same, low, frames_below lowered g base frames i j f h names.lie at there less, pinned-inside lowered names.well f.caller.function slot pinned))

  -- Globals are at lower addresses than the heap store, and the slots of calls are at higher addresses.
  before_slots : (i : ℕ) (f : Frame) → slice_get frames i ≡ Some f → slots_base ≤ f.caller.base
  before_slots i f at = omega (arith, below-waiting lowered g base frames i f names.lie at, low)

  one_variable : (a b word : ℕ) → Lies source locals outer g base frames a word → Lies source locals outer g base frames b word → a ≡ b
  one_variable a b word (in_global few bytes low_bytes at words some room end) (in_global fewer more low_more there others also wide last) = elim (cases_eq a b) [
    | inl equal ↦ equal
    | inr other ↦
        let ts : Types = record { locals = []; structs = []; raises = 0; counters = []; globals = types; scopes = None } in
        absurd (elim (global-apart ts a b few fewer other) [
          | inl before ↦ omega (arith, before, at, there, room, some, low_bytes, low_more)
          | inr following ↦ omega (arith, following, at, there, wide, also, low_bytes, low_more)
        ])
  ]
  one_variable a b word (in_global few bytes low_bytes at words some room end) (in_running number here inside is pinned more low_more there) = absurd (omega (arith, at, end, some, there, low, low_bytes))
  one_variable a b word (in_global few bytes low_bytes at words some room end) (in_other i number x f waits frame here inside is pinned more low_more there) = absurd (omega (arith, at, end, some, there, before_slots i f frame, low_bytes))
  one_variable a b word (in_running number here inside is pinned more low_more there) (in_global few bytes low_bytes at words some room end) = absurd (omega (arith, at, end, some, there, low, low_bytes))
  one_variable a b word (in_other i number x f waits frame here inside is pinned more low_more there) (in_global few bytes low_bytes at words some room end) = absurd (omega (arith, at, end, some, there, before_slots i f frame, low_bytes))
  one_variable a b word (in_running number here inside is pinned bytes low_bytes at) (in_running other there around also taken more low_more also_at) =
      let same = same_call g base number other bytes more low_bytes low_more inside around is also (sym at ∙ also_at) in
      same_Some a b (sym here ∙ (ap locals same ∙ there))
  one_variable a b word (in_running number here inside is pinned bytes low_bytes at) (in_other i other x f waits frame there around also taken more low_more also_at) = absurd (above_running i f _ _ bytes more low_bytes frame pinned (sym at ∙ also_at))
  one_variable a b word (in_other i other x f waits frame there around also taken more low_more also_at) (in_running number here inside is pinned bytes low_bytes at) = absurd (above_running i f _ _ bytes more low_bytes frame pinned (sym at ∙ also_at))
  one_variable a b word (in_other i number x f waits frame here inside is pinned bytes low_bytes at) (in_other j other y h also_waits also_frame there around also taken more low_more also_at) = elim (cases_lt i j) [
    | inl less ↦ absurd (above_other i j f h _ _ bytes more low_bytes frame also_frame less pinned (sym at ∙ also_at))
    | inr most ↦ elim (cases_lt j i) [
      | inl less ↦ absurd (above_other j i h f _ _ more bytes low_more also_frame frame less taken (sym also_at ∙ at))
      | inr least ↦
          let same : i ≡ j = omega (arith, most, least) in
          let f_is : h ≡ f = same_Some h f (sym also_frame ∙ (ap (slice_get frames) (sym same) ∙ frame)) in
          let x_is : y ≡ x = same_Some y x (sym also_waits ∙ (ap (slice_get outer) (sym same) ∙ waits)) in
          let numbers = same_call f.caller.function f.caller.base number other bytes more low_bytes low_more inside (subst (λ (z : Frame). other < length (types_at source z.caller.function).locals) f_is around) is (subst (λ (z : Frame). 1 ≤ words_in (types_at source z.caller.function).locals other) f_is also)
          (sym at ∙ subst (λ (z : Frame). word ≡ z.caller.base + 4 * slot_of (starts_at source z.caller.function) other + more) f_is also_at) in
          same_Some a b (sym here ∙ (ap x.locals numbers ∙ subst (λ (z : Waiting). z.locals other ≡ Some b) x_is there))
    ]
  ]

  pub variables-apart : AreApart t (silent w)
  variables-apart a b offset beside word x y first second points also =
      one_variable a b word (lies a offset word (names.named t related a x first) points) (lies b beside word (names.named t related b y second) also)
