-- This file is about the loop counters of arrays that are being filled: each counter is in the slot for the index of the fat pointer to
-- its array.
use Rattle.std.proofs.Common.{◌≡◌, ◌≢◌, ℕ, ◌+◌, ◌≤◌, Bool, List, [], ◌∷◌, length, Option, Some, slice_get, refl, ap, ◌∙◌, arith, inl, inr, length-append}
use Rattle.std.specs.Prelude.{◌==◌, if◌then◌else◌}
use Rattle.std.proofs.lemmas.Bool.{eqb-true, false_from_ne_true}
use Rattle.std.proofs.lemmas.Option.{none-some}
use Rattle.cyc_words.proofs.Items.{slice_get_last_cases}
use Rattle.cyc_plain.specs.inside.State.{Words}
use Rattle.cyc_meaning.specs.State.{FreeObject, CloseByKey, PlaceBy, BesideHandle, CountElements, Index, Advance, LoadFrom, TakeAddress, StoreTo, Awaiting, ConvertTo, Operate, Chain, Apply}
use Rattle.cyc_meaning.specs.State.{ApplyPointer, Follow, FollowMember, Decide, Store, StoreCell, Pass, MakePlain, MakeFields, MakeArray, FillElement, Entry, Needs, NeedsPlace, Caller}
use Rattle.cyc_memory_relation.specs.inside.Tables.{Tables}
use Rattle.cyc_lower_proof.proofs.relation.contents.HeldValues.{height, Holds, held, counters_of, arrays_in, AreCounted}
use Rattle.cyc_lower_proof.proofs.relation.contents.Data.{Holds-rest, height-append}

-- The number of loop counters of arrays that are being filled does not depend on the slot at which the locals end.
pub counters-many : (base : ℕ) (k : List Entry) → length (counters_of base k) ≡ length (counters_of 0 k)
counters-many base [] = refl
counters-many base (Needs (ConvertTo from to target) ∷ k) = counters-many base k
counters-many base (Needs (Operate u) ∷ k) = counters-many base k
counters-many base (Needs (Chain os) ∷ k) = counters-many base k
counters-many base (Needs (Apply u left) ∷ k) = counters-many base k
counters-many base (Needs (ApplyPointer peek u left) ∷ k) = counters-many base k
counters-many base (Needs Decide ∷ k) = counters-many base k
counters-many base (Needs CountElements ∷ k) = counters-many base k
counters-many base (Needs (Store place) ∷ k) = counters-many base k
counters-many base (Needs (StoreCell peek place) ∷ k) = counters-many base k
counters-many base (Needs (Pass callee before cs) ∷ k) = counters-many base k
counters-many base (Needs (PlaceBy initial) ∷ k) = counters-many base k
counters-many base (Needs (BesideHandle region) ∷ k) = counters-many base k
counters-many base (Needs (MakePlain owner kind) ∷ k) = counters-many base k
counters-many base (Needs (MakeFields owner before cs) ∷ k) = counters-many base k
counters-many base (Needs (MakeArray owner level kind a) ∷ k) = counters-many base k
counters-many base (Needs (FillElement object count index level kind a) ∷ k) =
    omega (arith, length-append (counters_of base k) ((height base (held k) + 2) ∷ []), length-append (counters_of 0 k) ((height 0 (held k) + 2) ∷ []), counters-many base k)
counters-many base (Needs (Follow pointer target) ∷ k) = counters-many base k
counters-many base (Needs (FollowMember pointer fields field) ∷ k) = counters-many base k
counters-many base (Needs FreeObject ∷ k) = counters-many base k
counters-many base (Needs CloseByKey ∷ k) = counters-many base k
counters-many base (Needs (Index peek target i) ∷ k) = counters-many base k
counters-many base (Needs (Advance peek target pointer) ∷ k) = counters-many base k
counters-many base (NeedsPlace (LoadFrom cell) ∷ k) = counters-many base k
counters-many base (NeedsPlace TakeAddress ∷ k) = counters-many base k
counters-many base (NeedsPlace (StoreTo peek c) ∷ k) = counters-many base k
counters-many base (entry ∷ k) = refl

-- The slot of each loop counter that fills an array comes before the first free slot.
pub counters_low : (base : ℕ) (k : List Entry) (level slot : ℕ) → slice_get (counters_of base k) level ≡ Some slot → slot ≤ height base (held k)
counters_low base [] level slot found = absurd (none-some slot found)
counters_low base (Needs (ConvertTo from to target) ∷ k) level slot found = counters_low base k level slot found
counters_low base (Needs (Operate u) ∷ k) level slot found = counters_low base k level slot found
counters_low base (Needs (Chain os) ∷ k) level slot found = counters_low base k level slot found
counters_low base (Needs (Apply u left) ∷ k) level slot found = omega (arith, counters_low base k level slot found)
counters_low base (Needs (ApplyPointer peek u left) ∷ k) level slot found = omega (arith, counters_low base k level slot found)
counters_low base (Needs Decide ∷ k) level slot found = counters_low base k level slot found
counters_low base (Needs CountElements ∷ k) level slot found = counters_low base k level slot found
counters_low base (Needs (Store place) ∷ k) level slot found = counters_low base k level slot found
counters_low base (Needs (StoreCell peek place) ∷ k) level slot found = omega (arith, counters_low base k level slot found)
counters_low base (Needs (Pass callee before cs) ∷ k) level slot found = omega (arith, height-append base before (held k), counters_low base k level slot found)
counters_low base (Needs (PlaceBy initial) ∷ k) level slot found = counters_low base k level slot found
counters_low base (Needs (BesideHandle region) ∷ k) level slot found = omega (arith, counters_low base k level slot found)
counters_low base (Needs (MakePlain owner kind) ∷ k) level slot found = counters_low base k level slot found
counters_low base (Needs (MakeFields owner before cs) ∷ k) level slot found = omega (arith, height-append base before (held k), counters_low base k level slot found)
counters_low base (Needs (MakeArray owner inner kind a) ∷ k) level slot found = counters_low base k level slot found
counters_low base (Needs (FillElement object count index inner kind a) ∷ k) level slot found = elim (slice_get_last_cases (counters_of base k) (height base (held k) + 2) level slot found) [
  | inl before ↦ omega (arith, counters_low base k level slot before)
  | inr (level_is, slot_is) ↦ omega (arith, slot_is)
]
counters_low base (Needs (Follow pointer target) ∷ k) level slot found = counters_low base k level slot found
counters_low base (Needs (FollowMember pointer fields field) ∷ k) level slot found = counters_low base k level slot found
counters_low base (Needs FreeObject ∷ k) level slot found = counters_low base k level slot found
counters_low base (Needs CloseByKey ∷ k) level slot found = counters_low base k level slot found
counters_low base (Needs (Index peek target i) ∷ k) level slot found = counters_low base k level slot found
counters_low base (Needs (Advance peek target pointer) ∷ k) level slot found = omega (arith, counters_low base k level slot found)
counters_low base (NeedsPlace (LoadFrom cell) ∷ k) level slot found = counters_low base k level slot found
counters_low base (NeedsPlace TakeAddress ∷ k) level slot found = counters_low base k level slot found
counters_low base (NeedsPlace (StoreTo peek c) ∷ k) level slot found = counters_low base k level slot found
counters_low base (entry ∷ k) level slot found = absurd (none-some slot found)

-- Says that each loop counter that fills an array is in its slot.
abbrev pub CountersHold : (counters : ℕ → Option ℕ) → Words → (base : ℕ) → List Entry → Type 0
CountersHold counters slots base k =
    (level slot : ℕ) → slice_get (counters_of base k) level ≡ Some slot → (index : ℕ) × (counters level ≡ Some index) × (slots slot ≡ index)

pub counters_hold : (t : Tables) (counters : ℕ → Option ℕ) (slots : Words) (base : ℕ) (k : List Entry) → AreCounted counters k → Holds t slots base (held k) → CountersHold counters slots base k
counters_hold t counters slots base [] count holds level slot found = absurd (none-some slot found)
counters_hold t counters slots base (Needs (ConvertTo from to target) ∷ k) count holds level slot found = counters_hold t counters slots base k count holds level slot found
counters_hold t counters slots base (Needs (Operate u) ∷ k) count holds level slot found = counters_hold t counters slots base k count holds level slot found
counters_hold t counters slots base (Needs (Chain os) ∷ k) count holds level slot found = counters_hold t counters slots base k count holds level slot found
counters_hold t counters slots base (Needs (Apply u left) ∷ k) count holds level slot found = counters_hold t counters slots base k count holds.1 level slot found
counters_hold t counters slots base (Needs (ApplyPointer peek u left) ∷ k) count holds level slot found = counters_hold t counters slots base k count holds.1 level slot found
counters_hold t counters slots base (Needs Decide ∷ k) count holds level slot found = counters_hold t counters slots base k count holds level slot found
counters_hold t counters slots base (Needs CountElements ∷ k) count holds level slot found = counters_hold t counters slots base k count holds level slot found
counters_hold t counters slots base (Needs (Store place) ∷ k) count holds level slot found = counters_hold t counters slots base k count holds level slot found
counters_hold t counters slots base (Needs (StoreCell peek place) ∷ k) count holds level slot found = counters_hold t counters slots base k count holds.1 level slot found
counters_hold t counters slots base (Needs (Pass callee before cs) ∷ k) count holds level slot found = counters_hold t counters slots base k count (Holds-rest t slots base before (held k) holds) level slot found
counters_hold t counters slots base (Needs (PlaceBy initial) ∷ k) count holds level slot found = counters_hold t counters slots base k count holds level slot found
counters_hold t counters slots base (Needs (BesideHandle region) ∷ k) count holds level slot found = counters_hold t counters slots base k count holds.1 level slot found
counters_hold t counters slots base (Needs (MakePlain owner kind) ∷ k) count holds level slot found = counters_hold t counters slots base k count holds level slot found
counters_hold t counters slots base (Needs (MakeFields owner before cs) ∷ k) count holds level slot found = counters_hold t counters slots base k count (Holds-rest t slots base before (held k) holds) level slot found
counters_hold t counters slots base (Needs (MakeArray owner inner kind a) ∷ k) count holds level slot found = counters_hold t counters slots base k count holds level slot found
counters_hold t counters slots base (Needs (FillElement object count index inner kind a) ∷ k) ((nested, last, now), more) ((part, length_is, index_is), holds) level slot found =
    elim (slice_get_last_cases (counters_of base k) (height base (held k) + 2) level slot found) [
      | inl before ↦ counters_hold t counters slots base k more holds level slot before
      | inr (level_is, slot_is) ↦ (index, ap counters (omega (arith, level_is, last, counters-many base k)) ∙ now, ap slots slot_is ∙ index_is)
    ]
counters_hold t counters slots base (Needs (Follow pointer target) ∷ k) count holds level slot found = counters_hold t counters slots base k count holds level slot found
counters_hold t counters slots base (Needs (FollowMember pointer fields field) ∷ k) count holds level slot found = counters_hold t counters slots base k count holds level slot found
counters_hold t counters slots base (Needs FreeObject ∷ k) count holds level slot found = counters_hold t counters slots base k count holds level slot found
counters_hold t counters slots base (Needs CloseByKey ∷ k) count holds level slot found = counters_hold t counters slots base k count holds level slot found
counters_hold t counters slots base (Needs (Index peek target i) ∷ k) count holds level slot found = counters_hold t counters slots base k count holds level slot found
counters_hold t counters slots base (Needs (Advance peek target pointer) ∷ k) count holds level slot found = counters_hold t counters slots base k count holds.1 level slot found
counters_hold t counters slots base (NeedsPlace (LoadFrom cell) ∷ k) count holds level slot found = counters_hold t counters slots base k count holds level slot found
counters_hold t counters slots base (NeedsPlace TakeAddress ∷ k) count holds level slot found = counters_hold t counters slots base k count holds level slot found
counters_hold t counters slots base (NeedsPlace (StoreTo peek c) ∷ k) count holds level slot found = counters_hold t counters slots base k count holds level slot found
counters_hold t counters slots base (entry ∷ k) count holds level slot found = absurd (none-some slot found)

-- If the loop counter of one array changes, then the counter of an array at another nesting level keeps its value.
counter_other : (counters : ℕ → Option ℕ) (level index other : ℕ) → other ≢ level → (if other == level then Some index else counters other) ≡ counters other
counter_other counters level index other apart =
    ap (λ (b : Bool). if b then Some index else counters other) (false_from_ne_true (other == level) (λ h. absurd (apart (eqb-true other level h))))

pub counted_before : (counters : ℕ → Option ℕ) (level index : ℕ) (k : List Entry) → arrays_in k ≤ level → AreCounted counters k → AreCounted (λ other. if other == level then Some index else counters other) k
counted_before counters level index [] few count = tt
counted_before counters level index (Needs (FillElement object many at inner kind a) ∷ k) few ((nested, last, now), more) = (
  (nested, last, counter_other counters level index inner (λ same. omega (arith, same, nested, few)) ∙ now),
  counted_before counters level index k (omega (arith, few)) more,
)
counted_before counters level index (Caller e ∷ k) few count = count
counted_before counters level index (entry ∷ k) few count = counted_before counters level index k few count

-- If the newest continuation frame is removed, then the facts about the loop counters of arrays still hold.
pub counted_less : (counters : ℕ → Option ℕ) (a : Awaiting) (k : List Entry) → AreCounted counters (Needs a ∷ k) → AreCounted counters k
counted_less counters (FillElement object many at inner kind b) k (now, count) = count
counted_less counters a k count = count
