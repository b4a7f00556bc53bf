-- If any number of regions are closed, the store's blocks are still laid out in pages.
use Rattle.std.proofs.Common.{◌≡◌, ℕ, ◌<◌, ◌≤◌, List, [], ◌∷◌, length, None, Some, refl, sym, ap, subst, ◌∙◌, inl, inr, arith}
use Rattle.std.specs.Prelude.{◌⊎◌}
use Rattle.std.proofs.lemmas.Bool.{cases_eq}
use Rattle.cyc_words.proofs.Numbers.{when_equal}
use Rattle.cyc_words.proofs.Options.{never_none_and_some}
use Rattle.cyc_store.specs.State.{lookup, without, AreDistinct, Home, handle_of}
use Rattle.cyc_store.proofs.LookupLemmas.{when_other, IsPart, is_empty, is_left, is_kept, lookup-here, lookup-there, IsPart-without}
use Rattle.cyc_store.proofs.PagedClosing.{without-none}

part-length : {A : Type 0} {xs ys : List A} → IsPart xs ys → length xs ≤ length ys
part-length is_empty = omega arith
part-length (is_left {x} {xs} {ys} part) = let rest : length xs ≤ length ys = part-length part in omega (arith, rest)
part-length (is_kept {x} {xs} {ys} part) = let rest : length xs ≤ length ys = part-length part in omega (arith, rest)

pub shorter_without : (rs : List Home) (h : ℕ) (r : Home) → lookup handle_of rs h ≡ Some r → length (without handle_of rs h) < length rs
shorter_without [] h r there = absurd (let e : None ≡ Some r = there in cc)
shorter_without (q ∷ rs) h r there = elim (cases_eq q.handle h) [
  | inl same ↦
      let fewer : length (without handle_of rs h) ≤ length rs = part-length (IsPart-without handle_of rs h) in
      subst (λ l. length l < length (q ∷ rs)) (sym (when_equal q.handle h (without handle_of rs h) (q ∷ without handle_of rs h) same)) (omega (arith, fewer))
  | inr other ↦
      let fewer : length (without handle_of rs h) < length rs = shorter_without rs h r (sym (lookup-there handle_of q rs h other) ∙ there) in
      subst (λ l. length l < length (q ∷ rs)) (sym (when_other q.handle h (without handle_of rs h) (q ∷ without handle_of rs h) other)) (omega (arith, fewer))
]

-- Says that qs is a sublist of rs that leaves out at least one region.
pub record LeavesOut (qs rs : List Home) : Type 0 where
  pub region : Home
  pub there : lookup handle_of rs region.handle ≡ Some region
  pub part : IsPart qs (without handle_of rs region.handle)

pub part-step : {qs rs : List Home} → IsPart qs rs → AreDistinct handle_of rs → (qs ≡ rs) ⊎ LeavesOut qs rs
part-step is_empty distinct = inl refl
part-step (is_left {x = r} {xs = qs} {ys = rs} part) distinct = inr (record {
  region = r;
  there = lookup-here handle_of r rs r.handle refl;
  part = subst (IsPart qs)
      (sym (when_equal r.handle r.handle (without handle_of rs r.handle) (r ∷ without handle_of rs r.handle) refl ∙ without-none rs r.handle distinct.0)) part;
})
part-step (is_kept {x = r} {xs = qs} {ys = rs} part) distinct = elim (part-step part distinct.1) [
  | inl same ↦ inl (ap (λ l. r ∷ l) same)
  | inr out ↦
      let other : (r.handle ≡ out.region.handle → ⊥) = λ e. never_none_and_some (subst (λ h. lookup handle_of rs h ≡ None) e distinct.0) out.there in
      inr (record {
        region = out.region;
        there = lookup-there handle_of r rs out.region.handle other ∙ out.there;
        part = subst (IsPart (r ∷ qs))
            (sym (when_other r.handle out.region.handle (without handle_of rs out.region.handle) (r ∷ without handle_of rs out.region.handle) other))
            (is_kept out.part);
      })
]
