-- Laws of the heap state: the index of a region or object is never reused for another region or object.
use Rattle.std.proofs.Common.{◌≡◌, ℕ, zero, suc, Bool, true, false, List, [], ◌∷◌, Option, Some, None, refl, sym, ap, subst, ◌∙◌}
use Rattle.std.specs.Prelude.{if◌then◌else◌, slice_get}
use Rattle.cyc_words.proofs.Items.{slice_get-set_related, slice_get_front, map-set}
use Rattle.cyc_types.specs.TypedTrees.{Program}
use Rattle.cyc_meaning.specs.Values.{Cell}
use Rattle.cyc_meaning.specs.State.{Region, Owner, InRegion, Unique, Object, World, Found, Closed, Missing, Located, located, is_live, cell_in, cell_at, new_region, variable, State, Running, Ended, Dead, Wrong}
use Rattle.cyc_meaning.specs.Step.{step, stepped}
use Rattle.cyc_meaning.specs.inside.Effects.{Changes, Keeps, Opens, Closes, Makes, MakesIn, MakesUnique, Frees, Writes, Prints, Reads, OwnerStays, RegionStays, ObjectStays, WorldStays, StaysIn}
use Rattle.cyc_meaning.specs.Run.{steps}
use Rattle.cyc_meaning.proofs.NestingLemmas.{region_found}
use Rattle.cyc_meaning.proofs.Outcomes.{Outcome, Goes, Ends, Dies, Fails, outcome}

-- ---- results of an access

cell_is : (x : Object) (o : Option Cell) (at : Located) → located x o ≡ Found at → (at.object ≡ x) × (o ≡ Some at.cell)
cell_is x None at found = absurd (let e : Missing ≡ Found at = found in cc)
cell_is x (Some c) at found =
    let e : Found (record { object = x; cell = c }) ≡ Found at = found in
    let k : record { object = x; cell = c } ≡ at = cc in
    (sym (ap (λ (l : Located). l.object) k), ap (λ (l : Located). Some l.cell) k)

cell_within : (w : World) (o : Option Object) (offset : ℕ) (at : Located) → cell_in w o offset ≡ Found at → (o ≡ Some at.object) × (slice_get at.object.cells offset ≡ Some at.cell)
cell_within w None offset at found = absurd (let e : Missing ≡ Found at = found in cc)
cell_within w (Some x) offset at found = go (is_live w x.owner) refl
  where
    go : (b : Bool) → is_live w x.owner ≡ b → (Some x ≡ Some at.object) × (slice_get at.object.cells offset ≡ Some at.cell)
    go true e =
        let (same, there) = cell_is x (slice_get x.cells offset) at (ap (λ (b : Bool). if b then located x (slice_get x.cells offset) else Closed) (sym e) ∙ found) in
        (ap (λ (y : Object). Some y) (sym same), subst (λ (y : Object). slice_get y.cells offset ≡ Some at.cell) (sym same) there)
    go false e = absurd (let k : Closed ≡ Found at = ap (λ (b : Bool). if b then located x (slice_get x.cells offset) else Closed) (sym e) ∙ found in cc)

pub cell_found : (w : World) (object offset : ℕ) (at : Located) → cell_at w object offset ≡ Found at → (slice_get w.objects object ≡ Some at.object) × (slice_get at.object.cells offset ≡ Some at.cell)
cell_found w object offset at found = cell_within w (slice_get w.objects object) offset at found

-- ---- numbers are never reused

region_same : (r : Region) → RegionStays r r
region_same r = record { sort = refl; closed = λ e. e }

owner_same : (o : Owner) → OwnerStays o o
owner_same (InRegion region) = refl
owner_same (Unique true) = (true, refl)
owner_same (Unique false) = refl

owner_later : (o p q : Owner) → OwnerStays o p → OwnerStays p q → OwnerStays o q
owner_later (InRegion region) p q first second = subst (λ z. OwnerStays z q) first second
owner_later (Unique true) p q (live, first) second = go live (subst (λ z. OwnerStays z q) first second)
  where
    go : (b : Bool) → OwnerStays (Unique b) q → (c : Bool) × (q ≡ Unique c)
    go true stays = stays
    go false stays = (false, stays)
owner_later (Unique false) p q first second = subst (λ z. OwnerStays z q) first second

object_same : (x : Object) → ObjectStays x x
object_same x = record { owner = owner_same x.owner; kinds = refl }

pub world_same : (w : World) → WorldStays w w
world_same w = record {
  regions = λ number r found. (r, found, region_same r);
  objects = λ number x found. (x, found, object_same x);
}

pub world_later : (u v w : World) → WorldStays u v → WorldStays v w → WorldStays u w
world_later u v w first second = record {
  regions = λ number r found.
      let (s, at_s, stays) = first.regions number r found in
      let (t, at_t, more) = second.regions number s at_s in
      (t, at_t, record { sort = more.sort ∙ stays.sort; closed = λ e. more.closed (stays.closed e) });
  objects = λ number x found.
      let (y, at_y, stays) = first.objects number x found in
      let (z, at_z, more) = second.objects number y at_y in
      (z, at_z, record { owner = owner_later x.owner y.owner z.owner stays.owner more.owner; kinds = more.kinds ∙ stays.kinds });
}

change_stays : {w new : World} {printed : List ℕ} {count : ℕ} → Changes w printed count new → WorldStays w new
change_stays {w} Keeps = world_same w
change_stays {w} (Opens sort) = record {
  regions = λ number r found. (r, slice_get_front w.regions (new_region sort ∷ []) number r found, region_same r);
  objects = λ number x found. (x, found, object_same x);
}
change_stays {w} (Closes number r found) = record {
  regions = slice_get-set_related RegionStays w.regions number r (record r { is_open = false }) (region_found w number r found) (record { sort = refl; closed = λ e. refl }) region_same;
  objects = λ object x there. (x, there, object_same x);
}
change_stays {w} (Makes number r kind content found) = record {
  regions = λ other s is. (s, is, region_same s);
  objects = λ object y there. (y, slice_get_front w.objects (variable number kind content ∷ []) object y there, object_same y);
}
change_stays {w} (MakesIn number r cells found) = record {
  regions = slice_get-set_related RegionStays w.regions number r _ (region_found w number r found) (record { sort = refl; closed = λ e. e }) region_same;
  objects = λ object y there. (y, slice_get_front w.objects (record { owner = InRegion number; cells = cells } ∷ []) object y there, object_same y);
}
change_stays {w} (MakesUnique cells) = record {
  regions = λ other s is. (s, is, region_same s);
  objects = λ object y there. (y, slice_get_front w.objects (record { owner = Unique true; cells = cells } ∷ []) object y there, object_same y);
}
change_stays {w} (Frees number x there live) = record {
  regions = λ other s is. (s, is, region_same s);
  objects = slice_get-set_related ObjectStays w.objects number x (record x { owner = Unique false }) there
      (record { owner = subst (λ o. OwnerStays o (Unique false)) (sym live) (false, refl); kinds = refl }) object_same;
}
change_stays {w} (Writes object offset at value found) =
    let (there, cell) = cell_found w object offset at found in
    record {
      regions = λ number r is. (r, is, region_same r);
      objects = slice_get-set_related ObjectStays w.objects object at.object _ there
          (record { owner = owner_same at.object.owner; kinds = map-set (λ (c : Cell). c.kind) at.object.cells offset at.cell _ cell refl }) object_same;
    }
change_stays {w} (Prints word) = record {
  regions = λ number r found. (r, found, region_same r);
  objects = λ number x found. (x, found, object_same x);
}
change_stays {w} Reads = record {
  regions = λ number r found. (r, found, region_same r);
  objects = λ number x found. (x, found, object_same x);
}

outcome_stays : {nested : Type 0} {w : World} {access : Bool} {printed : List ℕ} {count calls : ℕ} {s : State} → Outcome nested w access printed count calls s → StaysIn w s
outcome_stays (Goes calls changes nests) = change_stays changes
outcome_stays (Ends ending other) = tt
outcome_stays (Dies alone) = tt
outcome_stays Fails = tt

later_in : (u v : World) (s : State) → WorldStays u v → StaysIn v s → StaysIn u s
later_in u v (Running focus stack e w) first second = world_later u v w first second
later_in u v (Ended ending output input) first second = tt
later_in u v (Dead output input) first second = tt
later_in u v (Wrong output input) first second = tt

step_stays : (program : Program) (w : World) (s : State) → StaysIn w s → StaysIn w (step program s)
step_stays program w (Running focus stack e v) stays = later_in w v (stepped program focus stack e v) stays (outcome_stays (outcome program focus stack e v))
step_stays program w (Ended ending output input) stays = tt
step_stays program w (Dead output input) stays = tt
step_stays program w (Wrong output input) stays = tt

pub steps_stay : (program : Program) (n : ℕ) (w : World) (s : State) → StaysIn w s → StaysIn w (steps program n s)
steps_stay program zero w s stays = stays
steps_stay program (suc n) w s stays = steps_stay program n w (step program s) (step_stays program w s stays)
