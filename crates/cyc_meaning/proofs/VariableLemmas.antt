-- Each live variable of a block is a local of an active call. The lemmas that prove this cover each change of the heap state,
-- opening and leaving blocks, calls and returns, and declaring a local.
use Rattle.std.proofs.Common.{◌≡◌, ℕ, zero, suc, Bool, true, List, [], ◌∷◌, ◌++◌, set, length, Some, None, refl, sym, ap, ◌∙◌, inl, inr, arith}
use Rattle.std.specs.Prelude.{◌⊎◌, ◌<◌, if◌then◌else◌, slice_get}
use Rattle.cyc_types.specs.TypedTrees.{Statement}
use Rattle.cyc_meaning.specs.State.{Region, Object, Found, Closed, Missing, found_region, globals_number, Initialise, Choose, Test, OpenBy, AliasOf, Entry, Needs, Rest, Loop, Handler, Caller}
use Rattle.cyc_meaning.specs.inside.Variables.{region_of, region_in, LivesIn, IsShut, HasVariables, Locals, waiting, AreLow, StatementDeclares, DeclareLater, LiveInBlocks, WaitInBlocks, HaveNames, LiveInRegions, AreNamed}

-- ---- the regions that contain objects

pub lives_once : (objects : List Object) (object region other : ℕ) → LivesIn objects object region → LivesIn objects object other → region ≡ other
lives_once objects object region other first second = let e : Some region ≡ Some other = sym first ∙ second in cc

pub lives_below : (objects : List Object) (object region : ℕ) → LivesIn objects object region → object < length objects
lives_below [] object region lives = absurd (let e : None ≡ Some region = lives in cc)
lives_below (x ∷ objects) zero region lives = omega arith
lives_below (x ∷ objects) (suc object) region lives = let less : object < length objects = lives_below objects object region lives in omega (arith, less)

pub lives_more : (objects : List Object) (x : Object) (object region : ℕ) → LivesIn objects object region → LivesIn (objects ++ x ∷ []) object region
lives_more [] x object region lives = absurd (let e : None ≡ Some region = lives in cc)
lives_more (y ∷ objects) x zero region lives = lives
lives_more (y ∷ objects) x (suc object) region lives = lives_more objects x object region lives

-- After an allocation, a live object is the newest one or existed before.
pub lives_newest : (objects : List Object) (x : Object) (object region : ℕ) → LivesIn (objects ++ x ∷ []) object region → LivesIn objects object region ⊎ ((object ≡ length objects) × (region_of x.owner ≡ Some region))
lives_newest [] x zero region lives = inr (refl, lives)
lives_newest [] x (suc object) region lives = absurd (let e : None ≡ Some region = lives in cc)
lives_newest (y ∷ objects) x zero region lives = inl lives
lives_newest (y ∷ objects) x (suc object) region lives = elim (lives_newest objects x object region lives) [
  | inl old ↦ inl old
  | inr new ↦ inr (ap suc new.0, new.1)
]

-- Replacing an object by another one with the same owner does not change the region in which any object lives.
pub lives_same : (objects : List Object) (number object : ℕ) (x y : Object) → slice_get objects number ≡ Some x → region_of y.owner ≡ region_of x.owner → region_in (slice_get (set objects number y) object) ≡ region_in (slice_get objects object)
lives_same [] number object x y there same = refl
lives_same (z ∷ objects) zero zero x y there same = same ∙ sym (ap region_in there)
lives_same (z ∷ objects) zero (suc object) x y there same = refl
lives_same (z ∷ objects) (suc number) zero x y there same = refl
lives_same (z ∷ objects) (suc number) (suc object) x y there same = lives_same objects number object x y there same

-- ---- regions

pub shut_open : (regions : List Region) (region : ℕ) (r : Region) → IsShut regions region → slice_get regions region ≡ Some r → r.is_open ≡ true → ⊥
shut_open regions region r shut there opens =
    let e : found_region (Some r) ≡ Closed = sym (ap found_region there) ∙ shut in
    let k : Found r ≡ Closed = sym (ap (λ (b : Bool). if b then Found r else Closed) opens) ∙ e in absurd (cc)

pub shut_more : (regions : List Region) (r : Region) (region : ℕ) → IsShut regions region → IsShut (regions ++ r ∷ []) region
shut_more [] r region shut = absurd (let e : Missing ≡ Closed = shut in cc)
shut_more (q ∷ regions) r zero shut = shut
shut_more (q ∷ regions) r (suc region) shut = shut_more regions r region shut

pub region_below : (regions : List Region) (region : ℕ) (r : Region) → slice_get regions region ≡ Some r → region < length regions
region_below [] region r there = absurd (let e : None ≡ Some r = there in cc)
region_below (q ∷ regions) zero r there = omega arith
region_below (q ∷ regions) (suc region) r there = let less : region < length regions = region_below regions region r there in omega (arith, less)

pub region_before : (regions : List Region) (new r : Region) (region : ℕ) → region < length regions → slice_get (regions ++ new ∷ []) region ≡ Some r → slice_get regions region ≡ Some r
region_before [] new r region less there = absurd (omega (arith, less))
region_before (q ∷ regions) new r zero less there = there
region_before (q ∷ regions) new r (suc region) less there = region_before regions new r region (omega (arith, less)) there

pub set_region_there : (regions : List Region) (number : ℕ) (r s : Region) → slice_get regions number ≡ Some r → slice_get (set regions number s) number ≡ Some s
set_region_there [] number r s there = absurd (let e : None ≡ Some r = there in cc)
set_region_there (q ∷ regions) zero r s there = refl
set_region_there (q ∷ regions) (suc number) r s there = set_region_there regions number r s there

-- If a region is replaced, and a closed region only by a closed one, then every closed region stays closed.
pub shut_set : (regions : List Region) (number region : ℕ) (r s : Region) → slice_get regions number ≡ Some r → (found_region (Some r) ≡ Closed → found_region (Some s) ≡ Closed) → IsShut regions region → IsShut (set regions number s) region
shut_set [] number region r s there keep shut = shut
shut_set (q ∷ regions) zero zero r s there keep shut = keep (sym (ap found_region there) ∙ shut)
shut_set (q ∷ regions) zero (suc region) r s there keep shut = shut
shut_set (q ∷ regions) (suc number) zero r s there keep shut = shut
shut_set (q ∷ regions) (suc number) (suc region) r s there keep shut = shut_set regions number region r s there keep shut

-- ---- changes of the world

-- Says what a change of the heap state preserves: live objects stay in their regions, closed regions stay closed, and no variable
-- becomes live that was not live before the change.
pub record Passes (objects : List Object) (regions : List Region) (more : List Object) (others : List Region) : Type 0 where
  pub lives : (object region : ℕ) → LivesIn objects object region → LivesIn more object region
  pub shut : (region : ℕ) → IsShut regions region → IsShut others region
  pub back : (object region : ℕ) (r : Region) → LivesIn more object region → slice_get others region ≡ Some r → HasVariables r
      → LivesIn objects object region × ((q : Region) × (slice_get regions region ≡ Some q) × HasVariables q)
  pub inside : LiveInRegions more others

module _ (objects more : List Object) (still : (object region : ℕ) → LivesIn objects object region → LivesIn more object region) where
  pub low_passes : (m : ℕ) (stack : List Entry) (locals : Locals) → AreLow m stack locals objects → AreLow m stack locals more
  low_passes m stack locals low number object is =
      let (region, lives, less) = low number object is in (region, still object region lives, less)

  statement_passes : (s : Statement) (stack : List Entry) (locals : Locals) → StatementDeclares s stack locals objects → StatementDeclares s stack locals more
  statement_passes s stack locals (m, rises, low) = (m, rises, low_passes m stack locals low)

  pub later_passes : (stack : List Entry) (locals : Locals) → DeclareLater stack locals objects → DeclareLater stack locals more
  later_passes [] locals h = tt
  later_passes (Needs (Initialise number kind items) ∷ stack) locals ((rises, low, here), h) = ((rises, low_passes number stack locals low, here), later_passes stack locals h)
  later_passes (Needs (OpenBy number lent items) ∷ stack) locals ((rises, low, here), h) = ((rises, low_passes number stack locals low, here), later_passes stack locals h)
  later_passes (Needs (AliasOf number lent items) ∷ stack) locals ((rises, low, here), h) = ((rises, low_passes number stack locals low, here), later_passes stack locals h)
  later_passes (Needs (Choose first second) ∷ stack) locals (both, h) =
      ((statement_passes first stack locals both.0, statement_passes second stack locals both.1), later_passes stack locals h)
  later_passes (Needs (Test condition body) ∷ stack) locals (s, h) = (statement_passes body stack locals s, later_passes stack locals h)
  later_passes (Rest items ∷ stack) locals ((m, rises, low, here), h) = ((m, rises, low_passes m stack locals low, here), later_passes stack locals h)
  later_passes (Loop condition body ∷ stack) locals (s, h) = (statement_passes body stack locals s, later_passes stack locals h)
  later_passes (Handler handler ∷ stack) locals ((m, rises, low), h) = ((m, rises, low_passes m stack locals low), later_passes stack locals h)
  later_passes (Caller outer ∷ stack) locals h = later_passes stack outer.locals h
  later_passes (entry ∷ stack) locals h = later_passes stack locals h

  module _ (regions others : List Region) (shuts : (region : ℕ) → IsShut regions region → IsShut others region) where
    in_blocks_pass : (stack : List Entry) (locals : Locals) → LiveInBlocks stack locals objects regions → LiveInBlocks stack locals more others
    in_blocks_pass stack locals h number object is =
        let (region, lives, where_it_is) = h number object is in (
          region,
          still object region lives,
          elim where_it_is [
            | inl here ↦ inl here
            | inr shut ↦ inr (shuts region shut)
          ],
        )

    pub waiting_pass : (stack : List Entry) → WaitInBlocks stack objects regions → WaitInBlocks stack more others
    waiting_pass [] h = tt
    waiting_pass (Caller outer ∷ stack) (here, h) = (in_blocks_pass stack outer.locals here, waiting_pass stack h)
    waiting_pass (entry ∷ stack) h = waiting_pass stack h

module _ (objects : List Object) (regions : List Region) (more : List Object) (others : List Region) (p : Passes objects regions more others) where
  names_pass : (globals : ℕ) (calls : List Locals) → HaveNames globals calls objects regions → HaveNames globals calls more others
  names_pass globals calls h object region r lives there has =
      let (old, is) = p.back object region r lives there has in h object region is.0 old is.1 is.2

  pub passes : (globals : ℕ) (stack : List Entry) (locals : Locals) → AreNamed globals stack locals objects regions → AreNamed globals stack locals more others
  passes globals stack locals h = (
    later_passes objects more p.lives stack locals h.0,
    in_blocks_pass objects more p.lives regions others p.shut stack locals h.1,
    waiting_pass objects more p.lives regions others p.shut stack h.2,
    names_pass globals (locals ∷ waiting stack) h.3,
    h.4,
    (λ object less. p.lives object globals_number (h.5 object less)),
    p.inside,
  )
