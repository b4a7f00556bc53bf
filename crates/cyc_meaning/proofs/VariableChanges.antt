-- The effect of each change of the state on the invariant that each live variable is a global or a local of an active call. The changes
-- are opening and leaving blocks, calling and returning, allocating, writing and freeing.
use Rattle.std.proofs.Common.{◌≡◌, ℕ, zero, suc, Bool, true, false, List, [], ◌∷◌, ◌++◌, set, length, Some, None, refl, sym, ap, subst, ◌∙◌, inl, inr, arith, length-append}
use Rattle.std.specs.Prelude.{◌⊎◌, ◌<◌, if◌then◌else◌, slice_get}
use Rattle.std.proofs.lemmas.Bool.{cases_eq}
use Rattle.std.proofs.lemmas.List.{length-set}
use Rattle.cyc_words.proofs.Items.{slice_get-set_other}
use Rattle.cyc_meaning.specs.Values.{Value, Cell, block_size}
use Rattle.cyc_meaning.specs.State.{Sort, Region, InRegion, Unique, Object, World, Found, Closed, found_region, region_at, Located, cell_at, new_region, opened_as, closed, written, Environment, no_locals, Entry, CloseRegion, Caller}
use Rattle.cyc_meaning.specs.Objects.{made_in, made_unique, freed}
use Rattle.cyc_meaning.specs.inside.Variables.{region_of, LivesIn, IsShut, HasVariables, Locals, waiting, IsLocal, AreLow, LiveInRegions, AreNamed}
use Rattle.cyc_meaning.proofs.NestingLemmas.{region_found}
use Rattle.cyc_meaning.proofs.WorldLaws.{cell_found}
use Rattle.cyc_meaning.proofs.VariableLemmas.{lives_once, lives_more, lives_newest, lives_same, shut_open, shut_more, region_below, region_before, set_region_there, shut_set, Passes, passes}

-- The invariant that each live variable of a block is a local of an active call, for a given heap state (regions and objects).
abbrev AllNamed : (globals : ℕ) → List Entry → Locals → World → Type 0
AllNamed globals stack locals w = AreNamed globals stack locals w.objects w.regions

abbrev Passing : World → World → Type 0
Passing old new = Passes old.objects old.regions new.objects new.regions

-- ---- regions

opened_passes : (sort : Sort) (w : World) → LiveInRegions w.objects w.regions → Passing w (opened_as sort w)
opened_passes sort w inside = record {
  lives = λ object region lives. lives;
  shut = shut_more w.regions (new_region sort);
  back = λ object region r lives there has. (lives, (r, region_before w.regions (new_region sort) r region (inside object region lives) there, has));
  inside = λ object region lives. (let less : region < length w.regions = inside object region lives in omega (arith, less, length-append w.regions (new_region sort ∷ [])));
}

pub named_opened : (sort : Sort) (globals : ℕ) (stack : List Entry) (locals : Locals) (w : World) → AllNamed globals stack locals w → AllNamed globals stack locals (opened_as sort w)
named_opened sort globals stack locals w h =
    passes w.objects w.regions (opened_as sort w).objects (opened_as sort w).regions (opened_passes sort w h.6) globals stack locals h

-- A region may be replaced by one without live variables; every live variable then was in another
-- region or is still a local of an active call.
set_back : (objects : List Object) (regions : List Region) (number : ℕ) (s : Region) → (HasVariables s → ⊥)
    → (object region : ℕ) (r : Region) → LivesIn objects object region → slice_get (set regions number s) region ≡ Some r → HasVariables r
    → LivesIn objects object region × ((q : Region) × (slice_get regions region ≡ Some q) × HasVariables q)
set_back objects regions number s none object region r lives there has = elim (cases_eq region number) [
  | inl same ↦ absurd (go regions number region same there)
  | inr other ↦ (lives, (r, sym (slice_get-set_other regions number region s other) ∙ there, has))
]
  where
    go : (rs : List Region) (i j : ℕ) → j ≡ i → slice_get (set rs i s) j ≡ Some r → ⊥
    go [] i j same at = absurd (let e : None ≡ Some r = at in cc)
    go (q ∷ rs) zero zero same at =
        let e : Some s ≡ Some r = at in
        let k : s ≡ r = cc in none (subst HasVariables (sym k) has)
    go (q ∷ rs) zero (suc j) same at = absurd (omega (arith, same))
    go (q ∷ rs) (suc i) zero same at = absurd (omega (arith, same))
    go (q ∷ rs) (suc i) (suc j) same at = go rs i j (let e : suc j ≡ suc i = same in omega (arith, e)) at

shut_has_no_variables : (r : Region) → HasVariables (record r { is_open = false }) → ⊥
shut_has_no_variables r has = let e : false ≡ true = has.open_now in absurd (cc)

closed_passes : (number : ℕ) (r : Region) (w : World) → slice_get w.regions number ≡ Some r → LiveInRegions w.objects w.regions → Passing w (closed w number r)
closed_passes number r w there inside = record {
  lives = λ object region lives. lives;
  shut = λ region. shut_set w.regions number region r (record r { is_open = false }) there (λ e. refl);
  back = set_back w.objects w.regions number (record r { is_open = false }) (shut_has_no_variables r);
  inside = λ object region lives. (let less : region < length w.regions = inside object region lives in omega (arith, less, length-set w.regions number (record r { is_open = false })));
}

pub named_closed : (number : ℕ) (r : Region) (globals : ℕ) (stack : List Entry) (locals : Locals) (w : World) → region_at w number ≡ Found r → AllNamed globals stack locals w → AllNamed globals stack locals (closed w number r)
named_closed number r globals stack locals w found h =
    passes w.objects w.regions (closed w number r).objects (closed w number r).regions (closed_passes number r w (region_found w number r found) h.6) globals stack locals h

-- ---- objects

some_block : (r : Region) (blocks : List ℕ) (size : ℕ) → HasVariables (record r { blocks = blocks ++ size ∷ [] }) → ⊥
some_block r blocks size has = go blocks has.blocks
  where
    go : (ns : List ℕ) → ns ++ size ∷ [] ≡ [] → ⊥
    go [] e = absurd (let k : size ∷ [] ≡ [] = e in cc)
    go (n ∷ ns) e = absurd (let k : n ∷ (ns ++ size ∷ []) ≡ [] = e in cc)

still_shut : (r : Region) (blocks : List ℕ) → found_region (Some r) ≡ Closed → found_region (Some (record r { blocks = blocks })) ≡ Closed
still_shut r blocks = go r.is_open
  where
    go : (b : Bool) → (if b then Found r else Closed) ≡ Closed → (if b then Found (record r { blocks = blocks }) else Closed) ≡ Closed
    go true e = absurd (let k : Found r ≡ Closed = e in cc)
    go false e = refl

abbrev with_block : Region → List Cell → Region
with_block r cells = record r { blocks = r.blocks ++ block_size cells ∷ [] }

made_in_passes : (number : ℕ) (r : Region) (cells : List Cell) (w : World) → slice_get w.regions number ≡ Some r → LiveInRegions w.objects w.regions → Passing w (made_in w number r cells)
made_in_passes number r cells w there inside = record {
  lives = lives_more w.objects (record { owner = InRegion number; cells = cells });
  shut = λ region. shut_set w.regions number region r (with_block r cells) there (still_shut r (r.blocks ++ block_size cells ∷ []));
  back = λ object region q lives at has. elim (lives_newest w.objects (record { owner = InRegion number; cells = cells }) object region lives) [
    | inl old ↦ set_back w.objects w.regions number (with_block r cells) (some_block r r.blocks (block_size cells)) object region q old at has
    | inr new ↦ absurd (newest region new.1 q at has)
  ];
  inside = λ object region lives. elim (lives_newest w.objects (record { owner = InRegion number; cells = cells }) object region lives) [
    | inl old ↦ (let less : region < length w.regions = inside object region old in omega (arith, less, length-set w.regions number (with_block r cells)))
    | inr new ↦
        (let e : Some number ≡ Some region = new.1 in
        let k : number ≡ region = cc in
        let less : number < length w.regions = region_below w.regions number r there in
        omega (arith, k, less, length-set w.regions number (with_block r cells)))
  ];
}
  where
    newest : (region : ℕ) → Some number ≡ Some region → (q : Region) → slice_get (set w.regions number (with_block r cells)) region ≡ Some q → HasVariables q → ⊥
    newest region same q at has =
        let k : number ≡ region = cc in
        let e : Some (with_block r cells) ≡ Some q = sym (set_region_there w.regions number r (with_block r cells) there) ∙ (ap (slice_get (set w.regions number (with_block r cells))) k ∙ at) in
        let j : with_block r cells ≡ q = cc in
        some_block r r.blocks (block_size cells) (subst HasVariables (sym j) has)

pub named_made_in : (number : ℕ) (r : Region) (cells : List Cell) (globals : ℕ) (stack : List Entry) (locals : Locals) (w : World) → region_at w number ≡ Found r → AllNamed globals stack locals w → AllNamed globals stack locals (made_in w number r cells)
named_made_in number r cells globals stack locals w found h =
    passes w.objects w.regions (made_in w number r cells).objects (made_in w number r cells).regions (made_in_passes number r cells w (region_found w number r found) h.6) globals stack locals h

unique_passes : (cells : List Cell) (w : World) → LiveInRegions w.objects w.regions → Passing w (made_unique w cells)
unique_passes cells w inside = record {
  lives = lives_more w.objects (record { owner = Unique true; cells = cells });
  shut = λ region shut. shut;
  back = λ object region r lives there has. (old object region lives, (r, there, has));
  inside = λ object region lives. inside object region (old object region lives);
}
  where
    old : (object region : ℕ) → LivesIn (made_unique w cells).objects object region → LivesIn w.objects object region
    old object region lives = elim (lives_newest w.objects (record { owner = Unique true; cells = cells }) object region lives) [
      | inl there ↦ there
      | inr new ↦ absurd (let e : None ≡ Some region = new.1 in cc)
    ]

pub named_made_unique : (cells : List Cell) (globals : ℕ) (stack : List Entry) (locals : Locals) (w : World) → AllNamed globals stack locals w → AllNamed globals stack locals (made_unique w cells)
named_made_unique cells globals stack locals w h =
    passes w.objects w.regions (made_unique w cells).objects (made_unique w cells).regions (unique_passes cells w h.6) globals stack locals h

-- Replacing an object by another one with the same owner keeps the invariant that each live variable is a global or a local of an active
-- call.
same_passes : (number : ℕ) (x y : Object) (w : World) → slice_get w.objects number ≡ Some x → region_of y.owner ≡ region_of x.owner → LiveInRegions w.objects w.regions → Passes w.objects w.regions (set w.objects number y) w.regions
same_passes number x y w there same inside = record {
  lives = λ object region lives. lives_same w.objects number object x y there same ∙ lives;
  shut = λ region shut. shut;
  back = λ object region r lives at has. (sym (lives_same w.objects number object x y there same) ∙ lives, (r, at, has));
  inside = λ object region lives. inside object region (sym (lives_same w.objects number object x y there same) ∙ lives);
}

pub named_freed : (number : ℕ) (x : Object) (globals : ℕ) (stack : List Entry) (locals : Locals) (w : World) → slice_get w.objects number ≡ Some x → x.owner ≡ Unique true → AllNamed globals stack locals w → AllNamed globals stack locals (freed w number x)
named_freed number x globals stack locals w there live h =
    passes w.objects w.regions (freed w number x).objects w.regions (same_passes number x (record x { owner = Unique false }) w there (sym (ap region_of live)) h.6) globals stack locals h

pub named_written : (object offset : ℕ) (at : Located) (value : Value) (globals : ℕ) (stack : List Entry) (locals : Locals) (w : World) → cell_at w object offset ≡ Found at → AllNamed globals stack locals w → AllNamed globals stack locals (written w object offset at value)
named_written object offset at value globals stack locals w found h =
    passes w.objects w.regions (written w object offset at value).objects w.regions
    (same_passes object at.object (record at.object { cells = set at.object.cells offset (record at.cell { content = Some value }) }) w (cell_found w object offset at found).0 refl h.6) globals stack locals h

-- ---- blocks

pub low_opened : (m home : ℕ) (stack : List Entry) (locals : Locals) (w : World) → LiveInRegions w.objects w.regions → AreLow m stack locals w.objects → AreLow m (CloseRegion (length w.regions) home ∷ stack) locals w.objects
low_opened m home stack locals w inside low number object is =
    let (region, lives, less) = low number object is in (
      region,
      lives,
      λ of_call. elim of_call [
        | inl newest ↦ (let lower : region < length w.regions = inside object region lives in absurd (omega (arith, lower, newest)))
        | inr older ↦ less older
      ],
    )

pub named_entered : (ending home globals : ℕ) (stack : List Entry) (locals : Locals) (w : World) → AllNamed globals stack locals w → AllNamed globals (CloseRegion ending home ∷ stack) locals w
named_entered ending home globals stack locals w h =
    (h.0, (λ number object is. (let (region, lives, where_it_is) = h.1 number object is in (region, lives, elim where_it_is [ inl here ↦ inl (inr here) | inr shut ↦ inr shut ]))), h.2, h.3, h.4, h.5, h.6)

pub named_left : (ending home : ℕ) (globals : ℕ) (stack : List Entry) (locals : Locals) (w : World) → IsShut w.regions ending → AllNamed globals (CloseRegion ending home ∷ stack) locals w → AllNamed globals stack locals w
named_left ending home globals stack locals w ended h = (
  h.0,
  (λ number object is. (let (region, lives, where_it_is) = h.1 number object is in (
    region,
    lives,
    elim where_it_is [
      | inl here ↦ elim here [ inl same ↦ inr (subst (λ (n : ℕ). IsShut w.regions n) (sym same) ended) | inr older ↦ inl older ]
      | inr shut ↦ inr shut
    ],
  ))),
  h.2,
  h.3,
  h.4,
  h.5,
  h.6,
)

pub is_shut : (w : World) (number : ℕ) (r : Region) → region_at w number ≡ Found r → IsShut (closed w number r).regions number
is_shut w number r found = ap found_region (set_region_there w.regions number r (record r { is_open = false }) (region_found w number r found))

-- ---- calls

pub local_here : (locals : Locals) (calls : List Locals) (number object : ℕ) → IsLocal (locals ∷ calls) 0 number object → locals number ≡ Some object
local_here locals calls number object (others, there, is) =
    let e : Some locals ≡ Some others = there in
    let k : locals ≡ others = cc in
    subst (λ (f : Locals). f number ≡ Some object) (sym k) is

none_named : (calls : List Locals) (call number object : ℕ) → IsLocal (no_locals.locals ∷ calls) call number object → (before : ℕ) × (call ≡ suc before) × IsLocal calls before number object
none_named calls zero number object is = absurd (let e : None ≡ Some object = local_here no_locals.locals calls number object is in cc)
none_named calls (suc call) number object is = (call, refl, is)

pub named_call : (globals : ℕ) (stack : List Entry) (e : Environment) (w : World) → AllNamed globals stack e.locals w → AllNamed globals (Caller e ∷ stack) no_locals.locals w
named_call globals stack e w h = (
  h.0,
  (λ number object is. absurd (let k : None ≡ Some object = is in cc)),
  (h.1, h.2),
  (λ object region r lives there has. elim (h.3 object region r lives there has) [
    | inl global ↦ inl global
    | inr named ↦ inr (suc named.0, named.1, named.2)
  ]),
  (λ call other number beside object first second.
      let (i, i_is, here) = none_named (e.locals ∷ waiting stack) call number object first in
      let (j, j_is, there) = none_named (e.locals ∷ waiting stack) other beside object second in
      let (same, alike) = h.4 i j number beside object here there in
      (i_is ∙ (ap suc same ∙ sym j_is), alike)),
  h.5,
  h.6,
)

pub named_return : (globals : ℕ) (stack : List Entry) (locals : Locals) (outer : Environment) (w : World) → AllNamed globals (Caller outer ∷ stack) locals w → AllNamed globals stack outer.locals w
named_return globals stack locals outer w h = (
  h.0,
  h.2.0,
  h.2.1,
  (λ object region r lives there has. elim (h.3 object region r lives there has) [
    | inl global ↦ inl global
    | inr named ↦ go named.0 named.1 object region r lives there has named.2
  ]),
  (λ call other number beside object first second.
      let (same, alike) = h.4 (suc call) (suc other) number beside object first second in
      ((let e : suc call ≡ suc other = same in omega (arith, e)), alike)),
  h.5,
  h.6,
)
  where
    go : (call number object region : ℕ) (r : Region) → LivesIn w.objects object region → slice_get w.regions region ≡ Some r → HasVariables r → IsLocal (locals ∷ (outer.locals ∷ waiting stack)) call number object
        → (object < globals) ⊎ ((before beside : ℕ) × IsLocal (outer.locals ∷ waiting stack) before beside object)
    go zero number object region r lives there has named =
        let (other, lived, where_it_is) = h.1 number object (local_here locals (outer.locals ∷ waiting stack) number object named) in
        elim where_it_is [
          | inl here ↦ absurd here
          | inr shut ↦ absurd (shut_open w.regions region r (subst (λ (n : ℕ). IsShut w.regions n) (lives_once w.objects object other region lived lives) shut) there has.open_now)
        ]
    go (suc call) number object region r lives there has named = inr (call, number, named)
