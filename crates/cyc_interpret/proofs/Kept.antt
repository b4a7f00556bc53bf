-- What is looked up is what the definition finds.
use Rattle.std.proofs.Common.{◌≡◌, refl, ap, ◌∙◌, ℕ, Bool, true, false, Option, Some, None, option_map, List, slice_get}
use Rattle.cyc_meaning.specs.State.{World, Owner, Object, Entry, Environment, is_live, located, cell_at, Found, Closed, Missing}
use Rattle.cyc_meaning.specs.Objects.{found_object}
use Rattle.cyc_meaning.specs.Parts.{dead, wrong}
use Rattle.cyc_meaning.specs.Step.{tells}
use Rattle.cyc_interpret.specs.declared.found.Access.{Access as AccessCode}
use Rattle.cyc_interpret.specs.declared.found.Access.TheVariants as access
use Rattle.cyc_interpret.specs.inside.Found.{IsAccess, IsCell}

module _ (w : World) (object : ℕ) where
  pub accessed : (offset : ℕ) (code : AccessCode) (x : Object) → slice_get w.objects object ≡ Some x → is_live w x.owner ≡ true → IsCell code (located x (slice_get x.cells offset)) x → IsAccess w object code (cell_at w object offset)
  accessed offset (access.Found c) x at live is = (x, at, rw at (rw live is))
  accessed offset access.Closed x at live is = rw at (rw live is)
  accessed offset access.Missing x at live is = rw at (rw live is)

  pub past : (offset : ℕ) → slice_get w.objects object ≡ None → cell_at w object offset ≡ Missing
  past offset at = rw at refl

  pub gone : (offset : ℕ) (x : Object) → slice_get w.objects object ≡ Some x → is_live w x.owner ≡ false → cell_at w object offset ≡ Closed
  gone offset x at live = rw at (rw live refl)

-- whether an object is there, by its owner
module _ (w : World) (found : Option Object) where
  pub there : (owner : Owner) → Some owner ≡ option_map (λ (x : Object). x.owner) found → is_live w owner ≡ true → (y : Object) × (found_object w found ≡ Found y)
  there owner is live = go found is
    where
      go : (f : Option Object) → Some owner ≡ option_map (λ (x : Object). x.owner) f → (y : Object) × (found_object w f ≡ Found y)
      go None absent = absurd (let e : Some owner ≡ None = absent in cc)
      go (Some x) at =
          let e : Some owner ≡ Some x.owner = at in
          let same : x.owner ≡ owner = cc in
          let lives : is_live w x.owner ≡ true = ap (λ (o : Owner). is_live w o) same ∙ live in
          (x, rw lives refl)

  pub ended : (owner : Owner) → Some owner ≡ option_map (λ (x : Object). x.owner) found → is_live w owner ≡ false → found_object w found ≡ Closed
  ended owner is live = go found is
    where
      go : (f : Option Object) → Some owner ≡ option_map (λ (x : Object). x.owner) f → found_object w f ≡ Closed
      go None absent = absurd (let e : Some owner ≡ None = absent in cc)
      go (Some x) at =
          let e : Some owner ≡ Some x.owner = at in
          let same : x.owner ≡ owner = cc in
          let dead : is_live w x.owner ≡ false = ap (λ (o : Owner). is_live w o) same ∙ live in
          rw dead refl

  pub never : None ≡ option_map (λ (x : Object). x.owner) found → found_object w found ≡ Missing
  never is = go found is
    where
      go : (f : Option Object) → None ≡ option_map (λ (x : Object). x.owner) f → found_object w f ≡ Missing
      go None absent = refl
      go (Some x) at = absurd (let e : None ≡ Some x.owner = at in cc)

-- what is told where an object is gone or was never made
module _ (stack : List Entry) (e : Environment) (w : World) where
  pub tells_closed : (negated : Bool) → tells negated Closed stack e w ≡ dead w
  tells_closed true = refl
  tells_closed false = refl

  pub tells_missing : (negated : Bool) → tells negated Missing stack e w ≡ wrong w
  tells_missing true = refl
  tells_missing false = refl
