-- This file is about the locals in scope, their loans, and the regions that are yet to be closed.
use Rattle.std.proofs.Common.{◌≡◌, ◌≢◌, inl, inr, ℕ, ◌≤◌, ◌<◌, Bool, true, false, List, [], ◌∷◌, Option, Some, None, slice_get, eqb, refl, sym, ap, subst, ◌∙◌, arith}
use Rattle.std.specs.Prelude.{if◌then◌else◌}
use Rattle.std.proofs.lemmas.Bool.{eqb-true, eq-eqb, false_from_ne_true}
use Rattle.std.proofs.lemmas.Option.{same_Some}
use Rattle.cyc_words.proofs.Numbers.{same_or_other}
use Rattle.cyc_types.specs.declared.region.Region.{Region as Region'}
use Rattle.cyc_types.specs.declared.region.Region.TheVariants as regions
use Rattle.cyc_types.specs.Types.{Ty}
use Rattle.cyc_types.specs.TypedTrees.{Program}
use Rattle.cyc_types.specs.typing.Tests.{is_moved}
use Rattle.cyc_types.specs.typing.WellTyped.{LocalInScope, HasLocal, HasPlace}
use Rattle.cyc_types.specs.flow.States as flow
use Rattle.cyc_types.specs.flow.States.{Full, is_reached, with_fullness}
use Rattle.cyc_meaning.specs.State.{Object, Region, Access, Found, Closed, Missing, found_region, is_open, heap_number, globals_number, World, Environment, with_local, Awaiting, Entry, CloseRegion, CloseLexical, Caller}
use Rattle.cyc_meaning.specs.inside.Nesting.{ends_of, IsFound, AreOpen, IsHome, IsNested}
use Rattle.cyc_meaning.specs.inside.Nesting as nesting
use Rattle.cyc_soundness.specs.inside.Lives.{Life, OfRegion, Owned, Kept, heap_life, RunTy, RunValue, Lives, at}
use Rattle.cyc_soundness.specs.inside.Worlds.{Thing, KeyOf, IsHeld, Holder, Nobody, Hand, At, Lent, IsHere, is_lent_by, IsOpenIn, ObjectType, Typing}
use Rattle.cyc_soundness.specs.inside.Worlds.{IsTyped, IsFull, IsEndOf, whole, following, Outlasts, alike, heap as for_ever, globals as with_globals, stays, encloses, borrows, PointerTo, IsOpenLife, IsKnownOwner}
use Rattle.cyc_soundness.specs.inside.Frames.{IsAmong, first, later, Bound, InScope, Variable, Level, Home, lives_in, IsThere, home_of, IsHomed, IsScope, AreBelow, IsBound, AreVariables, IsLasting, AreLiveIn}
use Rattle.cyc_soundness.specs.inside.Frames.{home_in, LiveIn, IsInner, Within, itself, older, IsSet, AreSet, IsFullIn, Holds, AreFullAt, Exits, life_named, local_type}
use Rattle.cyc_soundness.specs.inside.Classes.{is_full, Relied}
use Rattle.cyc_soundness.specs.inside.Awaited.{Want, Waits, IsCommonLife}
use Rattle.cyc_soundness.specs.inside.Awaited as awaited
use Rattle.cyc_soundness.proofs.flow.FlowLemmas.{other_set, other_full, full_put, reached_with}
use Rattle.cyc_soundness.proofs.types.ValueLemmas.{ends_through}
use Rattle.cyc_soundness.proofs.types.RegionLemmas.{there_lasting, there_open}
use Rattle.cyc_soundness.proofs.states.WorldLemmas.{dynamic_open}
use Rattle.cyc_soundness.proofs.states.Hands.{Changed, here_kept}

-- the object of a local, which has the local's type and lasts as long as its block
pub record BoundTo (these : Lives) (bs : List InScope) (n : ℕ) (t : Ty) (region : ℕ) : Type 0 where
  pub bound : Bound
  pub among : IsAmong (Variable bound) bs
  pub number : bound.number ≡ n
  pub of_type : bound.of_type ≡ at these t
  pub hidden : bound.is_hidden ≡ is_moved t
  pub life : IsHomed these region bound.life

bound_after : (these : Lives) (b : InScope) (bs : List InScope) (n : ℕ) (t : Ty) (r : ℕ) → BoundTo these bs n t r → BoundTo these (b ∷ bs) n t r
bound_after these b bs n t r x = record { bound = x.bound; among = later b bs x.among; number = x.number; of_type = x.of_type; hidden = x.hidden; life = x.life }

pub bound_to : (these : Lives) (vs : List LocalInScope) (bs : List InScope) (n : ℕ) (t : Ty) (r : ℕ) → IsScope these vs bs → HasLocal vs n t r → BoundTo these bs n t r
bound_to these vs [] n t r is has = absurd (subst (λ us. HasLocal us n t r) is has)
bound_to these vs (Variable b ∷ bs) n t r (rest, (v, vs_are, number, of_type, hidden, life), is) has = elim (subst (λ us. HasLocal us n t r) vs_are has) [
  | inl here ↦ record {
    bound = b;
    among = first bs;
    number = sym number ∙ here.0;
    of_type = sym of_type ∙ ap (at these) here.1;
    hidden = sym hidden ∙ ap is_moved here.1;
    life = subst (λ i. IsHomed these i b.life) here.2 life;
  }
  | inr there ↦ bound_after these (Variable b) bs n t r (bound_to these rest bs n t r is there)
]
bound_to these vs (b ∷ bs) n t r (rest, vs_are, is) has = bound_after these b bs n t r (bound_to these rest bs n t r is (subst (λ us. HasLocal us n t r) vs_are has))

pub bound_of : (these : Lives) (vs : List LocalInScope) (bs : List InScope) (n : ℕ) (t : Ty) (r : ℕ) → IsScope these vs bs → HasLocal vs n t r
    → (b : Bound) × IsAmong (Variable b) bs × (b.number ≡ n) × (b.of_type ≡ at these t)
bound_of these vs bs n t r is has = let x = bound_to these vs bs n t r is has in (x.bound, x.among, x.number, x.of_type)

pub place_local : (vs : List LocalInScope) (n : ℕ) (t : Ty) (r : ℕ) → HasPlace vs n t r → HasLocal vs n t r
place_local [] n t r has = absurd has
place_local (v ∷ vs) n t r (inl (same, of_type, region, place)) = inl (same, of_type, region)
place_local (v ∷ vs) n t r (inr has) = inr (place_local vs n t r has)

pub among_bound : {b : Bound} {bs : List InScope} (e : Environment) → IsAmong (Variable b) bs → IsBound e.locals e.counters bs → e.locals b.number ≡ Some b.object
among_bound e (first cs) (is, are) = is
among_bound e (later c cs among) (is, are) = among_bound e among are

pub among_variable : {b : Bound} {bs : List InScope} (g : Typing) → IsAmong (Variable b) bs → AreVariables g bs → slice_get g.objects b.object ≡ Some (local_type g.depth b)
among_variable g (first cs) (is, are) = is.0
among_variable g (later c cs among) (is, are) = among_variable g among are

pub among_open : {b : Bound} {bs : List InScope} (g : Typing) → IsAmong (Variable b) bs → AreVariables g bs → IsOpenIn g b.life
among_open g (first cs) (is, are) = is.1
among_open g (later c cs among) (is, are) = among_open g among are

pub among_live : {b : Bound} {bs : List InScope} (regions : List ℕ) → IsAmong (Variable b) bs → AreLiveIn regions bs → IsLasting regions b.life
among_live regions (first cs) (is, are) = is
among_live regions (later c cs among) (is, are) = among_live regions among are

pub among_set : {b : Bound} {bs : List InScope} (g : Typing) (f : flow.State) → IsAmong (Variable b) bs → AreSet g f bs → IsSet f b.number → IsFull g b.object
among_set g f (first cs) (is, are) s = is.0 s
among_set g f (later c cs among) (is, are) s = among_set g f among are s

-- A full local (one whose value is not lent) holds the resource that its value represents.
pub among_own : {b : Bound} {bs : List InScope} (g : Typing) (f : flow.State) → IsAmong (Variable b) bs → AreSet g f bs → IsFullIn f b.number → IsHere g g.depth b.number b.object
among_own g f (first cs) (is, are) s = is.1 s
among_own g f (later c cs among) (is, are) s = among_own g f among are s

pub among_level : {l : ℕ} {bs : List InScope} (e : Environment) → IsAmong (Level l) bs → IsBound e.locals e.counters bs → (index : ℕ) × (e.counters l ≡ Some index)
among_level e (first cs) (is, are) = is
among_level e (later c cs among) (is, are) = among_level e among are

-- A fact about all locals and loop counters of an inner scope, for example that the environment contains them, also holds about those of an
-- enclosing scope.
pub within_bound : (e : Environment) (cs bs : List InScope) → Within cs bs → IsBound e.locals e.counters bs → IsBound e.locals e.counters cs
within_bound e cs bs (itself _) are = are
within_bound e cs bs (older b _ ds inner within) (is, are) = within_bound e cs ds within are

pub within_variables : (g : Typing) (cs bs : List InScope) → Within cs bs → AreVariables g bs → AreVariables g cs
within_variables g cs bs (itself _) are = are
within_variables g cs bs (older b _ ds inner within) (is, are) = within_variables g cs ds within are

within_lasting : (regions : List ℕ) (cs bs : List InScope) → Within cs bs → AreLiveIn regions bs → AreLiveIn regions cs
within_lasting regions cs bs (itself _) are = are
within_lasting regions cs bs (older b _ ds inner within) (is, are) = within_lasting regions cs ds within are

inner_home : (b : InScope) (bs : List InScope) → IsInner b → home_of (b ∷ bs) ≡ home_of bs
inner_home (Home region) bs inner = absurd inner
inner_home b bs inner = refl

within_home : (cs bs : List InScope) → Within cs bs → home_of cs ≡ home_of bs
within_home cs bs (itself _) = refl
within_home cs bs (older b _ ds inner within) = within_home cs ds within ∙ sym (inner_home b ds inner)

pub within_live : (k : List Entry) (cs bs : List InScope) → Within cs bs → LiveIn k bs → LiveIn k cs
within_live k cs bs within (are, home) = (within_lasting (ends_of k) cs bs within are, within_home cs bs within ∙ home)

within_set : (g : Typing) (f : flow.State) (cs bs : List InScope) → Within cs bs → AreSet g f bs → AreSet g f cs
within_set g f cs bs (itself _) are = are
within_set g f cs bs (older b _ ds inner within) (is, are) = within_set g f cs ds within are

pub within_holds : (g : Typing) (f : flow.State) (cs bs : List InScope) → Within cs bs → Holds g f bs → Holds g f cs
within_holds g f cs bs within (reached, are) = (reached, within_set g f cs bs within are)

pub scopes_below_more : (n m : ℕ) (bs : List InScope) → n ≤ m → AreBelow n bs → AreBelow m bs
scopes_below_more n m [] less are = tt
scopes_below_more n m (Variable b ∷ bs) less (is, are) = (omega (arith, less, is), scopes_below_more n m bs less are)
scopes_below_more n m (b ∷ bs) less (is, are) = (tt, scopes_below_more n m bs less are)

-- ---- a new local, and a store to a local

pub local_new : (e : Environment) (number object : ℕ) → (with_local e number object).locals number ≡ Some object
local_new e number object = ap (λ (b : Bool). if b then Some object else e.locals number) (eq-eqb number number refl)

local_other : (e : Environment) (number other object : ℕ) → other ≢ number → (with_local e number object).locals other ≡ e.locals other
local_other e number other object apart =
    ap (λ (b : Bool). if b then Some object else e.locals other) (false_from_ne_true (eqb other number) (λ h. apart (eqb-true other number h)))

pub bound_more : (e : Environment) (number object : ℕ) (bs : List InScope) → AreBelow number bs → IsBound e.locals e.counters bs → IsBound (with_local e number object).locals e.counters bs
bound_more e number object [] below are = tt
bound_more e number object (Variable b ∷ bs) (less, below) (is, are) =
    (local_other e number b.number object (λ e. (let k : b.number ≡ number = e in absurd (omega (arith, less, k)))) ∙ is, bound_more e number object bs below are)
bound_more e number object (b ∷ bs) (less, below) (is, are) = (is, bound_more e number object bs below are)

pub set_with_fullness : (g : Typing) (a : flow.Fullness) (f : flow.State) (number : ℕ) (bs : List InScope) → AreBelow number bs → AreSet g f bs → AreSet g (with_fullness a f number) bs
set_with_fullness g a f number [] below are = tt
set_with_fullness g a f number (Variable b ∷ bs) (less, below) ((set, full), are) =
    let apart : b.number ≢ number = (λ e. (let k : b.number ≡ number = e in absurd (omega (arith, less, k)))) in
    ((λ s. set (other_set a f number b.number apart s), λ s. full (other_full a f number b.number apart s)), set_with_fullness g a f number bs below are)
set_with_fullness g a f number (b ∷ bs) (less, below) (is, are) = (tt, set_with_fullness g a f number bs below are)

-- All locals in scope that have the same index are bound to the same object.
one_object : (e : Environment) (number object : ℕ) (b : Bound) → e.locals number ≡ Some object → e.locals b.number ≡ Some b.object → b.number ≡ number → b.object ≡ object
one_object e number object b there here same =
    let k : Some object ≡ Some b.object = sym there ∙ ap e.locals (sym same) ∙ here in
    sym (same_Some object b.object k)

moved_here : (g : Typing) (number object : ℕ) (b : Bound) → b.number ≡ number → b.object ≡ object → IsHere g g.depth number object → IsHere g g.depth b.number b.object
moved_here g number object b same one is = subst (λ i. IsHere g g.depth i b.object) (sym same) (subst (λ i. IsHere g g.depth number i) (sym one) is)

pub set_stored : (g : Typing) (e : Environment) (a : flow.Fullness) (f : flow.State) (number object : ℕ) (bs : List InScope) → IsBound e.locals e.counters bs → e.locals number ≡ Some object → IsFull g object → is_reached f ≡ true
    → (is_full a ≡ true → IsHere g g.depth number object) → AreSet g f bs → AreSet g (with_fullness a f number) bs
set_stored g e a f number object [] bound one full reached own are = tt
set_stored g e a f number object (Variable b ∷ bs) (here, bound) one full reached own ((set, has), are) = ((go, goes), set_stored g e a f number object bs bound one full reached own are)
  where
    go : IsSet (with_fullness a f number) b.number → IsFull g b.object
    go s = elim (same_or_other b.number number) [
      | inl same ↦ subst (λ i. IsFull g i) (sym (one_object e number object b one here same)) full
      | inr apart ↦ set (other_set a f number b.number apart s)
    ]

    goes : IsFullIn (with_fullness a f number) b.number → IsHere g g.depth b.number b.object
    goes s = elim (same_or_other b.number number) [
      | inl same ↦ moved_here g number object b same (one_object e number object b one here same) (own (full_put a f number reached (subst (λ i. IsFullIn (with_fullness a f number) i) same s)))
      | inr apart ↦ has (other_full a f number b.number apart s)
    ]
set_stored g e a f number object (b ∷ bs) (here, bound) one full reached own (is, are) = (tt, set_stored g e a f number object bs bound one full reached own are)

-- ---- lent locals

pub none_among : {A B : Type 0} {a : A} → IsAmong a [] → B
none_among among = elim among [ ]

-- The value of a local is stored in only one object.
pub full_here : (g : Typing) (e : Environment) (n object : ℕ) (bs : List InScope) → IsBound e.locals e.counters bs → e.locals n ≡ Some object → IsFull g object → AreFullAt g n object bs
full_here g e n object [] bound one full = tt
full_here g e n object (Variable b ∷ bs) (here, bound) one full =
    ((λ same. (subst (λ i. IsFull g i) (sym (one_object e n object b one here same)) full, one_object e n object b one here same)), full_here g e n object bs bound one full)
full_here g e n object (b ∷ bs) (here, bound) one full = (tt, full_here g e n object bs bound one full)

pub within_full_at : (g : Typing) (n object : ℕ) (cs bs : List InScope) → Within cs bs → AreFullAt g n object bs → AreFullAt g n object cs
within_full_at g n object cs bs (itself _) are = are
within_full_at g n object cs bs (older b _ ds inner within) (is, are) = within_full_at g n object cs ds within are

module _ (old : Holder) (g h : Typing) (changed : Changed old g h) (n object : ℕ) (none : (m : ℕ) → At m 0 ≢ old) (now : IsHere h h.depth n object) where
  refilled_set : (f : flow.State) (bs : List InScope) → AreFullAt g n object bs → AreSet g f bs → AreSet h (with_fullness Full f n) bs
  refilled_set f [] at are = tt
  refilled_set f (Variable b ∷ bs) (here, at) ((set, full), are) = ((go, goes), refilled_set f bs at are)
    where
      go : IsSet (with_fullness Full f n) b.number → IsFull h b.object
      go s = changed.grows.filled b.object 1 (elim (same_or_other b.number n) [ inl same ↦ (here same).0 | inr apart ↦ set (other_set Full f n b.number apart s) ])

      goes : IsFullIn (with_fullness Full f n) b.number → IsHere h h.depth b.number b.object
      goes s = elim (same_or_other b.number n) [
        | inl same ↦ moved_here h n object b same (here same).1 now
        | inr apart ↦ subst (λ d. IsHere h d b.number b.object) (sym changed.depth) (here_kept old g h changed g.depth b.number b.object (none b.object) (full (other_full Full f n b.number apart s)))
      ]
  refilled_set f (b ∷ bs) (here, at) (is, are) = (tt, refilled_set f bs at are)

  -- When the loan of a local ends, the local is full again: it holds a value that is not lent.
  pub given_back : (f : flow.State) (bs : List InScope) → AreFullAt g n object bs → Holds g f bs → Holds h (with_fullness Full f n) bs
  given_back f bs at (reached, are) = (reached_with Full f n reached, refilled_set f bs at are)

-- ---- regions still to be closed

found_open : (o : Option Region) → IsFound (found_region o) → is_open o ≡ true
found_open None h = absurd h
found_open (Some r) h = go r.is_open refl
  where
    go : (b : Bool) → r.is_open ≡ b → r.is_open ≡ true
    go true e = e
    go false e = absurd (subst (λ (b : Bool). IsFound (if b then Found r else Closed)) e h)

pub open_of : {n : ℕ} {ns : List ℕ} (regions : List Region) → IsAmong n ns → AreOpen regions ns → is_open (slice_get regions n) ≡ true
open_of {n} regions (first ms) (is, are) = found_open (slice_get regions n) is
open_of regions (later m ms among) (is, are) = open_of regions among are

pub globals_among : (k : List Entry) → IsAmong globals_number (ends_of k)
globals_among [] = first []
globals_among (CloseRegion region home ∷ k) = later region (ends_of k) (globals_among k)
globals_among (CloseLexical region ∷ k) = later region (ends_of k) (globals_among k)
globals_among (entry ∷ k) = globals_among k

-- The heap is not one of the regions that are closed when the control stack is unwound.
pub above_globals : (bound : ℕ) (k : List Entry) → nesting.AreBelow bound (ends_of k) → globals_number < bound
above_globals bound [] (less, are) = less
above_globals bound (CloseRegion region home ∷ k) (less, are) = let past : globals_number < region = above_globals region k are in omega (arith, less, past)
above_globals bound (CloseLexical region ∷ k) (less, are) = let past : globals_number < region = above_globals region k are in omega (arith, less, past)
above_globals bound (entry ∷ k) are = above_globals bound k are

pub lexical_not_heap : (region : ℕ) (k : List Entry) (e : Environment) (w : World) → IsNested (CloseLexical region ∷ k) e w → heap_number ≢ region
lexical_not_heap region k e w nests same = let past : globals_number < region = above_globals region k nests.1.1 in absurd (omega (arith, past, same))

pub not_heap : (region home : ℕ) (k : List Entry) (e : Environment) (w : World) → IsNested (CloseRegion region home ∷ k) e w → heap_number ≢ region
not_heap region home k e w nests same = let past : globals_number < region = above_globals region k nests.1.1 in absurd (omega (arith, past, same))

-- The region in which new variables are stored is the region of the innermost open block.
pub home_is : (home : ℕ) (k : List Entry) → IsHome home k → home ≡ home_in k
home_is home [] is = is
home_is home (CloseRegion region outer ∷ k) is = is.0
home_is home (Caller outer ∷ k) is = is.0
home_is home (entry ∷ k) is = home_is home k is

-- A region that is closed when the control stack is unwound is open until then.
end_among : (m : ℕ) (ms ns : List ℕ) → IsEndOf (m ∷ ms) ns → IsAmong m ns
end_among m ms ns whole = first ms
end_among m ms ns (following n os end) = later n os (end_among m ms os end)

-- Says that the dynamic region of a lifetime is open.
abbrev pub IsKeptOpen : List Region → Life → Type 0
IsKeptOpen regions (Kept (KeyOf number)) = is_open (slice_get regions number) ≡ true
IsKeptOpen regions l = Unit {0}

-- A resource (key or unique pointer) that is lent has a holder that owns it.
pub lent_held : (count : ℕ) (h : Holder) → is_lent_by count h ≡ true → IsHeld h
lent_held count Nobody e = absurd (let k : false ≡ true = e in cc)
lent_held count (Hand i) e = tt
lent_held count (At m i) e = tt
lent_held count (Lent j object) e = tt

pub kept_open : (g : Typing) (regions : List Region) (objects : List Object) (l : Life) → IsTyped g regions objects → IsKnownOwner g l → IsOpenIn g l → IsKeptOpen regions l
kept_open g regions objects (Kept (KeyOf number)) typed known opens = dynamic_open (slice_get regions number) ((typed.kept number known).1 (lent_held g.loans (g.own (KeyOf number)) opens))
kept_open g regions objects (Kept (PointerTo object)) typed known opens = tt
kept_open g regions objects (OfRegion number ns us) typed known opens = tt
kept_open g regions objects Owned typed known opens = tt

-- Says that a lifetime has not ended.
abbrev pub IsPresent : Typing → List ℕ → Life → Type 0
IsPresent g ns Owned = Unit {0}
IsPresent g ns l = IsLasting ns l × IsOpenIn g l

lasting_present : (g : Typing) (ns : List ℕ) (l : Life) → IsLasting ns l → IsOpenIn g l → IsPresent g ns l
lasting_present g ns (OfRegion number around lent) lasts opens = (lasts, opens)
lasting_present g ns (Kept a) lasts opens = (lasts, opens)
lasting_present g ns Owned lasts opens = tt

pub there_present : (g : Typing) (ns : List ℕ) (bs : List InScope) (r : Region') → AreLiveIn ns bs → AreVariables g bs → IsThere bs r → IsPresent g ns (lives_in bs r)
there_present g ns bs regions.Heap live variables there = (inl refl, there_open g bs regions.Heap variables there)
there_present g ns bs regions.Unique live variables there = tt
there_present g ns bs (regions.Variable n) live variables there =
    lasting_present g ns (life_named bs n) (there_lasting ns bs (regions.Variable n) live (λ e. let z : regions.Variable n ≡ regions.Unique = e in absurd (cc)) there) (there_open g bs (regions.Variable n) variables there)

pub object_known : (g : Typing) (regions : List Region) (objects : List Object) (number : ℕ) (t : ObjectType) → IsTyped g regions objects → slice_get g.objects number ≡ Some t → IsKnownOwner g t.life
object_known g regions objects number t typed there = let (x, m, at, flag, is) = typed.each number t there in is.known

pub lasting_open : (regions : List Region) (ns : List ℕ) (l : Life) → AreOpen regions ns → is_open (slice_get regions heap_number) ≡ true → IsKeptOpen regions l → IsLasting ns l → IsOpenLife regions l
lasting_open regions ns (OfRegion m ms us) opens heap kept (inl is_heap) = subst (λ l. IsOpenLife regions l) (sym is_heap) heap
lasting_open regions ns (OfRegion m ms us) opens heap kept (inr end) = open_of regions (end_among m ms ns end) opens
lasting_open regions ns Owned opens heap kept is = absurd is
lasting_open regions ns (Kept (KeyOf number)) opens heap kept is = kept
lasting_open regions ns (Kept (PointerTo object)) opens heap kept is = tt

around_heap : (n : ℕ) (ns : List ℕ) (us : Thing → Bool) → OfRegion n ns us ≡ heap_life → ns ≡ []
around_heap n ns us e = ap around_of e
  where
    around_of : Life → List ℕ
    around_of (OfRegion n ns us) = ns
    around_of l = []

-- A lifetime is open if all resources lent at its beginning are still lent. If one lifetime outlasts an open lifetime that is not that of a
-- unique object, then the outlasting lifetime is open too.
pub open_outlasting : (g : Typing) (l m : Life) → Outlasts l m → IsCommonLife m → IsOpenIn g m → IsOpenIn g l
open_outlasting g l m (alike _) common opens = opens
open_outlasting g l m (for_ever _) common opens = λ r e. absurd (let k : false ≡ true = e in cc)
open_outlasting g l m (with_globals _) common opens = λ r e. absurd (let k : false ≡ true = e in cc)
open_outlasting g l m (stays a n ns us has) common opens = opens a has
open_outlasting g l m (borrows object) common opens = absurd common
open_outlasting g l m (encloses a b as' bs us vs end more) common opens = λ r e. opens r (more r e)

-- If the lifetime of an object outlasts a lifetime that has not ended, then the object is live.
pub outlasting_open : (regions : List Region) (ns : List ℕ) (l m : Life) → AreOpen regions ns → is_open (slice_get regions heap_number) ≡ true → is_open (slice_get regions globals_number) ≡ true → IsKeptOpen regions l → Outlasts l m
    → IsLasting ns m → IsOpenLife regions l
outlasting_open regions ns l m opens heap globals kept (alike _) is = lasting_open regions ns l opens heap kept is
outlasting_open regions ns l m opens heap globals kept (for_ever _) is = heap
outlasting_open regions ns l m opens heap globals kept (with_globals _) is = globals
outlasting_open regions ns l m opens heap globals kept (stays (KeyOf r) n os us has) is = kept
outlasting_open regions ns l m opens heap globals kept (stays (PointerTo object) n os us has) is = tt
outlasting_open regions ns l m opens heap globals kept (borrows object) is = tt
outlasting_open regions ns l m opens heap globals kept (encloses a b as' bs us vs end more) (inl heap_is) = elim (subst (λ z. IsEndOf (a ∷ as') z) (around_heap b bs vs heap_is) end) [ ]
outlasting_open regions ns l m opens heap globals kept (encloses a b as' bs us vs end more) (inr later') = open_of regions (end_among a as' ns (ends_through (a ∷ as') bs b ns end later')) opens

pub found_is : (a : Access Region) → IsFound a → (r : Region) × (a ≡ Found r)
found_is (Found r) h = (r, refl)
found_is Closed h = absurd h
found_is Missing h = absurd h

pub waits_within : {p : Program} {x : Exits} {q : Relied} {bs cs : List InScope} {a : Awaiting} {ts : List RunTy} {r : RunValue} {f : flow.State} {next : Want} → Waits p x q bs a ts r f cs next → Within cs bs
waits_within {bs = bs} (awaited.converts c v t f agrees keeps conv from to target) = itself bs
waits_within {bs = bs} (awaited.negates f) = itself bs
waits_within {bs = bs} (awaited.complements f) = itself bs
waits_within {bs = bs} (awaited.widens f) = itself bs
waits_within {bs = bs} (awaited.narrows f) = itself bs
waits_within {bs = bs} (awaited.denies seen v f tested) = itself bs
waits_within {bs = bs} (awaited.chains seen c v t f h stands computes chained) = itself bs
waits_within {bs = bs} (awaited.applies f) = itself bs
waits_within {bs = bs} (awaited.decides seen v f h tested i) = itself bs
waits_within {bs = bs} (awaited.stores_local b t f among same spared) = itself bs
waits_within {bs = bs} (awaited.stores_global number t f there same) = itself bs
waits_within {bs = bs} (awaited.points also c t v w f stands op) = itself bs
waits_within {bs = bs} (awaited.null_points also c v w f op) = itself bs
waits_within {bs = bs} (awaited.stores_cell t r f alive) = itself bs
waits_within {bs = bs} (awaited.follows seen v m t r f through kind target alive) = itself bs
waits_within {bs = bs} (awaited.follows_member seen m n ls s t u r f kind struct fields field is alive) = itself bs
waits_within {bs = bs} (awaited.indexes c t r f h stands evaluates target alive) = itself bs
waits_within {bs = bs} (awaited.advances t r f target alive) = itself bs
waits_within {bs = bs} (awaited.counts_elements seen t l f) = itself bs
waits_within {bs = bs} (awaited.places_by c m t r f h stands makes alive) = itself bs
waits_within {bs = bs} (awaited.beside_handle t f) = itself bs
waits_within {bs = bs} (awaited.makes_plain t r f keyless alive owner kind) = itself bs
waits_within {bs = bs} (awaited.makes_fields c done t ts n ls r f h alive owner stands passes fields) = itself bs
waits_within {bs = bs} (awaited.makes_array c t r f alive owner stands repeats) = itself bs
waits_within (awaited.fills {level = level} cs c t r f h same alive stands repeats i) = subst (λ z. Within cs z) (sym same) (older (Level level) cs cs tt (itself cs))
waits_within {bs = bs} (awaited.passes c done t ts r f h stands passes called) = itself bs
waits_within (awaited.initialises cs c t f h within stands new number kind continues) = within
waits_within {bs = bs} (awaited.chooses seen c d v f g h i tested first_stands second_stands one two j k) = itself bs
waits_within {bs = bs} (awaited.tests seen l v f h loop) = itself bs
waits_within {bs = bs} (awaited.returns t u f h result gives) = itself bs
waits_within {bs = bs} (awaited.frees_object k t f) = itself bs
waits_within {bs = bs} (awaited.closes_by_key r f) = itself bs
waits_within {bs = bs} (awaited.throws f h) = itself bs
waits_within (awaited.opens_by cs c b r f h i within stands among number of_type hides set spared full less alive next continues again) = within
waits_within (awaited.aliases cs c b u t f h i within stands among number same hides set spared full unique known of_type alive next continues again) = within
