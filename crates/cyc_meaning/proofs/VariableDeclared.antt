-- The effect of declaring a local on the invariant that each live variable is a global or a local of an active call. The declared local is
-- a new object, and the object that the local's index denoted before can no longer be reached.
use Rattle.std.proofs.Common.{◌≡◌, ℕ, zero, suc, Bool, List, [], ◌∷◌, ◌++◌, length, Option, Some, None, refl, sym, ap, subst, ◌∙◌, inl, inr, arith}
use Rattle.std.specs.Prelude.{◌≢◌, ◌⊎◌, ◌<◌, ◌==◌, if◌then◌else◌, slice_get}
use Rattle.std.proofs.lemmas.Bool.{eq-eqb, eqb-true, false_from_ne_true, cases_eq}
use Rattle.cyc_words.proofs.Lists.{slice_get_last}
use Rattle.cyc_types.specs.declared.typed.Kind.{Kind}
use Rattle.cyc_types.specs.TypedTrees.{Statement}
use Rattle.cyc_meaning.specs.Values.{Value}
use Rattle.cyc_meaning.specs.State.{Region, Object, World, Found, region_at, globals_number, variable, Environment, with_local, Initialise, Choose, Test, OpenBy, AliasOf, Entry, Needs, Rest, Loop, CloseRegion, CloseLexical, EndLoan, Handler, Caller}
use Rattle.cyc_meaning.specs.inside.Nesting.{ends_of, AreBelow, IsHome, IsNested}
use Rattle.cyc_meaning.specs.inside.Variables.{region_in, LivesIn, IsShut, HasVariables, Locals, waiting, IsLocal, IsOfCall, IsInBlock, AreLow, StatementDeclares, DeclareLater, LiveInBlocks, WaitInBlocks, HaveNames, AreDistinct, AreNamed}
use Rattle.cyc_meaning.proofs.NestingLemmas.{region_found}
use Rattle.cyc_meaning.proofs.VariableLemmas.{lives_once, lives_below, lives_more, lives_newest, shut_open, region_below, later_passes, waiting_pass}
use Rattle.cyc_meaning.proofs.VariableChanges.{local_here}

-- ---- blocks

of_call_below : (stack : List Entry) (bound region : ℕ) → AreBelow bound (ends_of stack) → IsOfCall region stack → region < bound
of_call_below [] bound region below of_call = absurd of_call
of_call_below (CloseRegion ending home ∷ stack) bound region (less, below) of_call = elim of_call [
  | inl same ↦ omega (arith, less, same)
  | inr older ↦ (let lower : region < ending = of_call_below stack ending region below older in omega (arith, less, lower))
]
of_call_below (CloseLexical ending ∷ stack) bound region (less, below) of_call =
    let lower : region < ending = of_call_below stack ending region below of_call in omega (arith, less, lower)
of_call_below (Caller outer ∷ stack) bound region below of_call = absurd of_call
of_call_below (entry ∷ stack) bound region below of_call = of_call_below stack bound region below of_call

home_of_call : (stack : List Entry) (home : ℕ) → IsInBlock stack → IsHome home stack → IsOfCall home stack
home_of_call [] home here is = absurd here
home_of_call (CloseRegion ending outer ∷ stack) home here is = inl is.0
home_of_call (CloseLexical ending ∷ stack) home here is = home_of_call stack home here is
home_of_call (EndLoan lent ∷ stack) home here is = home_of_call stack home here is
home_of_call (entry ∷ stack) home here is = absurd here

-- The object that a local denoted before the next declaration of this local is in no open block.
pub former_left : (number : ℕ) (stack : List Entry) (locals : Locals) (objects : List Object) (regions : List Region) → AreLow number stack locals objects → LiveInBlocks stack locals objects regions
    → (object region : ℕ) → locals number ≡ Some object → LivesIn objects object region → IsShut regions region
former_left number stack locals objects regions low live object region is lives =
    let (other, lived, where_it_is) = live number object is in
    let (another, lived_too, less) = low number object is in
    elim where_it_is [
      | inl here ↦
          (let lower : number < number = less (subst (λ (n : ℕ). IsOfCall n stack) (lives_once objects object other another lived lived_too) here) in
          absurd (omega (arith, lower)))
      | inr shut ↦ subst (λ (n : ℕ). IsShut regions n) (lives_once objects object other region lived lives) shut
    ]

-- ---- one more local

module _ (number : ℕ) (locals : Locals) (x : Object) (objects : List Object) (home : ℕ) (owns : LivesIn (objects ++ x ∷ []) (length objects) home) where
  abbrev then_locals : Locals
  then_locals = λ (other : ℕ). if other == number then Some (length objects) else locals other

  abbrev then_objects : List Object
  then_objects = objects ++ x ∷ []

  -- After a declaration of a local, the object of any local is the new object or the object that it had before.
  pub then_local : (other object : ℕ) → then_locals other ≡ Some object → ((other ≡ number) × (object ≡ length objects)) ⊎ ((other ≢ number) × (locals other ≡ Some object))
  then_local other object is = elim (cases_eq other number) [
    | inl same ↦
        (let e : Some (length objects) ≡ Some object = sym (ap (λ (b : Bool). if b then Some (length objects) else locals other) (eq-eqb other number same)) ∙ is in
        let k : length objects ≡ object = cc in inl (same, sym k))
    | inr others ↦ inr (others, sym (ap (λ (b : Bool). if b then Some (length objects) else locals other) (false_from_ne_true (other == number) (λ e. others (eqb-true other number e)))) ∙ is)
  ]

  pub then_other : (other object : ℕ) → other ≢ number → locals other ≡ Some object → then_locals other ≡ Some object
  then_other other object others is = ap (λ (b : Bool). if b then Some (length objects) else locals other) (false_from_ne_true (other == number) (λ e. others (eqb-true other number e))) ∙ is

  pub then_here : then_locals number ≡ Some (length objects)
  then_here = ap (λ (b : Bool). if b then Some (length objects) else locals number) (eq-eqb number number refl)

  -- Declaring a local preserves the bounds on the indices of the locals of enclosing blocks.
  low_around : (m : ℕ) (stack : List Entry) → (IsOfCall home stack → ⊥) → AreLow m stack locals objects → AreLow m stack then_locals then_objects
  low_around m stack around low other object is = elim (then_local other object is) [
    | inl new ↦ (home, subst (λ (o : ℕ). LivesIn then_objects o home) (sym new.1) owns, λ of_call. absurd (around of_call))
    | inr old ↦ (let (region, lives, less) = low other object old.1 in (region, lives_more objects x object region lives, less))
  ]

  -- After a declaration, the locals of its block have indices below that of the next local to be declared.
  pub low_after : (stack : List Entry) → AreLow number stack locals objects → AreLow (suc number) stack then_locals then_objects
  low_after stack low other object is = elim (then_local other object is) [
    | inl new ↦ (home, subst (λ (o : ℕ). LivesIn then_objects o home) (sym new.1) owns, λ of_call. (let e : other ≡ number = new.0 in omega (arith, e)))
    | inr old ↦
        (let (region, lives, less) = low other object old.1 in
        (region, lives_more objects x object region lives, λ of_call. (let lower : other < number = less of_call in omega (arith, lower))))
  ]

  statement_around : (s : Statement) (stack : List Entry) → (IsOfCall home stack → ⊥) → StatementDeclares s stack locals objects → StatementDeclares s stack then_locals then_objects
  statement_around s stack around (m, rises, low) = (m, rises, low_around m stack around low)

  later_around : (stack : List Entry) → (IsOfCall home stack → ⊥) → DeclareLater stack locals objects → DeclareLater stack then_locals then_objects
  later_around [] around h = tt
  later_around (Needs (Initialise n kind items) ∷ stack) around ((rises, low, here), h) = ((rises, low_around n stack around low, here), later_around stack around h)
  later_around (Needs (OpenBy n lent items) ∷ stack) around ((rises, low, here), h) = ((rises, low_around n stack around low, here), later_around stack around h)
  later_around (Needs (AliasOf n lent items) ∷ stack) around ((rises, low, here), h) = ((rises, low_around n stack around low, here), later_around stack around h)
  later_around (Needs (Choose first second) ∷ stack) around (both, h) =
      ((statement_around first stack around both.0, statement_around second stack around both.1), later_around stack around h)
  later_around (Needs (Test condition body) ∷ stack) around (s, h) = (statement_around body stack around s, later_around stack around h)
  later_around (Rest items ∷ stack) around ((m, rises, low, here), h) = ((m, rises, low_around m stack around low, here), later_around stack around h)
  later_around (Loop condition body ∷ stack) around (s, h) = (statement_around body stack around s, later_around stack around h)
  later_around (Handler handler ∷ stack) around ((m, rises, low), h) = ((m, rises, low_around m stack around low), later_around stack around h)
  later_around (CloseRegion ending outer ∷ stack) around h = later_around stack (λ of_call. around (inr of_call)) h
  later_around (Caller outer ∷ stack) around h = later_passes objects then_objects (lives_more objects x) stack outer.locals h
  later_around (entry ∷ stack) around h = later_around stack around h

  pub later_declared : (stack : List Entry) (bound : ℕ) → IsInBlock stack → IsHome home stack → AreBelow bound (ends_of stack) → DeclareLater stack locals objects → DeclareLater stack then_locals then_objects
  later_declared [] bound here is below h = absurd here
  later_declared (CloseRegion ending outer ∷ stack) bound here is below h =
      later_around stack (λ of_call. (let lower : home < ending = of_call_below stack ending home below.1 of_call in let same : home ≡ ending = is.0 in absurd (omega (arith, lower, same)))) h
  later_declared (CloseLexical ending ∷ stack) bound here is below h = later_declared stack ending here is below.1 h
  later_declared (EndLoan lent ∷ stack) bound here is below h = later_declared stack bound here is below h
  later_declared (entry ∷ stack) bound here is below h = absurd here

-- Each local of an active call is an object whose owner is a region.
waiting_lives : (stack : List Entry) (objects : List Object) (regions : List Region) → WaitInBlocks stack objects regions → (call number object : ℕ) → IsLocal (waiting stack) call number object → (region : ℕ) × LivesIn objects object region
waiting_lives [] objects regions h call number object (locals, there, is) = absurd (let e : None ≡ Some locals = there in cc)
waiting_lives (Caller outer ∷ stack) objects regions h zero number object is =
    let (region, lives, where_it_is) = h.0 number object (local_here outer.locals (waiting stack) number object is) in (region, lives)
waiting_lives (Caller outer ∷ stack) objects regions h (suc call) number object is = waiting_lives stack objects regions h.1 call number object is
waiting_lives (entry ∷ stack) objects regions h call number object is = waiting_lives stack objects regions h call number object is

pub local_lives : (globals : ℕ) (stack : List Entry) (locals : Locals) (objects : List Object) (regions : List Region) → AreNamed globals stack locals objects regions
    → (call number object : ℕ) → IsLocal (locals ∷ waiting stack) call number object → (region : ℕ) × LivesIn objects object region
local_lives globals stack locals objects regions h zero number object is =
    let (region, lives, where_it_is) = h.1 number object (local_here locals (waiting stack) number object is) in (region, lives)
local_lives globals stack locals objects regions h (suc call) number object is = waiting_lives stack objects regions h.2 call number object is

-- ---- declaring a variable

module _ (globals number : ℕ) (kind : Kind) (content : Option Value) (stack : List Entry) (e : Environment) (w : World) (r : Region)
    (found : region_at w e.home ≡ Found r) (nested : IsNested stack e w) (here : IsInBlock stack)
    (low : AreLow number stack e.locals w.objects) (h : AreNamed globals stack e.locals w.objects w.regions) where
  abbrev x : Object
  x = variable e.home kind content

  abbrev new : Locals
  new = (with_local e number (length w.objects)).locals

  abbrev more : List Object
  more = w.objects ++ x ∷ []

  owns : LivesIn more (length w.objects) e.home
  owns = ap (λ (o : Option Object). region_in o) (slice_get_last w.objects x)

  open_home : e.home < length w.regions
  open_home = region_below w.regions e.home r (region_found w e.home r found)

  inside : (object region : ℕ) → LivesIn more object region → region < length w.regions
  inside object region lives = elim (lives_newest w.objects x object region lives) [
    | inl old ↦ h.6 object region old
    | inr newest ↦ (let k : Some e.home ≡ Some region = newest.1 in let same : e.home ≡ region = cc in omega (arith, same, open_home))
  ]

  in_blocks : LiveInBlocks stack new more w.regions
  in_blocks other object is = elim (then_local number e.locals x w.objects e.home owns other object is) [
    | inl newest ↦ (e.home, subst (λ (o : ℕ). LivesIn more o e.home) (sym newest.1) owns, inl (home_of_call stack e.home here nested.2))
    | inr old ↦ (let (region, lives, where_it_is) = h.1 other object old.1 in (region, lives_more w.objects x object region lives, where_it_is))
  ]

  -- A live object that is a local of an active call stays that local when another local is declared.
  stays : (call other object region : ℕ) (q : Region) → LivesIn w.objects object region → slice_get w.regions region ≡ Some q → HasVariables q
      → IsLocal (e.locals ∷ waiting stack) call other object → IsLocal (new ∷ waiting stack) call other object
  stays zero other object region q lives there has is =
      let local : e.locals other ≡ Some object = local_here e.locals (waiting stack) other object is in
      elim (cases_eq other number) [
        | inl same ↦ absurd (shut_open w.regions region q
            (former_left number stack e.locals w.objects w.regions low h.1 object region (sym (ap e.locals same) ∙ local) lives) there has.open_now)
        | inr others ↦ (new, refl, then_other number e.locals x w.objects e.home owns other object others local)
      ]
  stays (suc call) other object region q lives there has is = is

  have_names : HaveNames globals (new ∷ waiting stack) more w.regions
  have_names object region q lives there has = elim (lives_newest w.objects x object region lives) [
    | inl old ↦ elim (h.3 object region q old there has) [
      | inl global ↦ inl global
      | inr named ↦ inr (named.0, named.1, stays named.0 named.1 object region q old there has named.2)
    ]
    | inr newest ↦ inr (0, number, (new, refl, then_here number e.locals x w.objects e.home owns ∙ ap (λ (o : ℕ). Some o) (sym newest.0)))
  ]

  -- After a declaration, the object of a local of any active call is the new object or the object that it had before.
  split : (call other object : ℕ) → IsLocal (new ∷ waiting stack) call other object → ((call ≡ 0) × (other ≡ number) × (object ≡ length w.objects)) ⊎ IsLocal (e.locals ∷ waiting stack) call other object
  split zero other object is = elim (then_local number e.locals x w.objects e.home owns other object (local_here new (waiting stack) other object is)) [
    | inl newest ↦ inl (refl, newest.0, newest.1)
    | inr old ↦ inr (e.locals, refl, old.1)
  ]
  split (suc call) other object is = inr is

  older : (call other object : ℕ) → IsLocal (e.locals ∷ waiting stack) call other object → object < length w.objects
  older call other object is =
      let (region, lives) = local_lives globals stack e.locals w.objects w.regions h call other object is in lives_below w.objects object region lives

  distinct : AreDistinct (new ∷ waiting stack)
  distinct call other beside next object first second = elim (split call beside object first) [
    | inl a ↦ elim (split other next object second) [
      | inl b ↦ (a.0 ∙ sym b.0, a.1 ∙ sym b.1)
      | inr b ↦ (let less : object < length w.objects = older other next object b in let same : object ≡ length w.objects = a.2 in absurd (omega (arith, less, same)))
    ]
    | inr a ↦ elim (split other next object second) [
      | inl b ↦ (let less : object < length w.objects = older call beside object a in let same : object ≡ length w.objects = b.2 in absurd (omega (arith, less, same)))
      | inr b ↦ h.4 call other beside next object a b
    ]
  ]

  pub low_declared : AreLow (suc number) stack new more
  low_declared = low_after number e.locals x w.objects e.home owns stack low

  pub named_declared : AreNamed globals stack new more w.regions
  named_declared = (
    later_declared number e.locals x w.objects e.home owns stack (length w.regions) here nested.2 nested.1 h.0,
    in_blocks,
    waiting_pass w.objects more (lives_more w.objects x) w.regions w.regions (λ region shut. shut) stack h.2,
    have_names,
    distinct,
    (λ object less. lives_more w.objects x object globals_number (h.5 object less)),
    inside,
  )
