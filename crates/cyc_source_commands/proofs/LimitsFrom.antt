-- The limits that follow from the bounds of a program are allowed, and are at least the bounds.
use Rattle.std.proofs.Common.{◌≡◌, ℕ, Bool, true, false, Some, None, refl, arith}
use Rattle.std.specs.Prelude.{◌&&◌, IfSome, nat_le, max, if◌then◌else◌}
use Rattle.std.proofs.lemmas.Bool.{leb-true, and_parts}
use Rattle.std.proofs.Math.Nat.{le-max_left, le-max_right, max-le}
use Rattle.cyc_machine_model.specs.Bounds.{AreAllowed}
use Rattle.cyc_machine_model.specs.declared.constants.TheConstants.{MIN_PAGES, MAX_PAGES, MIN_CALLS, MAX_CALLS}
use Rattle.cyc_bound.specs.declared.bound.CallBound.{CallBound}
use Rattle.cyc_bound.specs.declared.bound.CallBound.TheVariants as call_bounds
use Rattle.cyc_bound.specs.declared.pages.PageBound.{PageBound}
use Rattle.cyc_bound.specs.declared.pages.PageBound.TheVariants as page_bounds
use Rattle.cyc_compiler.specs.declared.bounded.Bounds as needs
use Rattle.cyc_compiler.specs.BoundedRuns.{CoversCalls, CoversPages}
use Rattle.cyc_cli.specs.inside.Limits.{Given, carried_by}
use Rattle.cyc_source_commands.specs.inside.Work.{limits_from, CarriesEnough}

-- Says that carried limits are at least two bounds, given one by one.
abbrev pub CarriesBoth : CallBound → PageBound → Given → Type 0
CarriesBoth calls pages given =
    (limits : ℕ × ℕ) × (carried_by given.pages given.calls ≡ Some limits) × AreAllowed limits.0 limits.1
    × (CoversCalls calls limits.1 × CoversPages pages limits.0)

module _ (pages calls : ℕ) where
  given : Given
  given = record { pages = Some (max MIN_PAGES pages); calls = Some (max MIN_CALLS calls) }

  chosen : (b : Bool) → (nat_le pages MAX_PAGES && nat_le calls MAX_CALLS) ≡ b
      → IfSome (if b then Some given else None) (CarriesBoth (call_bounds.Calls calls) (page_bounds.Pages pages))
  unfolding given
  chosen true fits =
      let (few_pages, few_calls) = and_parts (nat_le pages MAX_PAGES) (nat_le calls MAX_CALLS) fits in (
        (max MIN_PAGES pages, max MIN_CALLS calls),
        refl,
        record {
          enough_pages = le-max_left MIN_PAGES pages;
          few_pages = max-le {a = MIN_PAGES} {b = pages} {k = MAX_PAGES} (omega arith) (leb-true pages MAX_PAGES few_pages);
          enough_calls = le-max_left MIN_CALLS calls;
          few_calls = max-le {a = MIN_CALLS} {b = calls} {k = MAX_CALLS} (omega arith) (leb-true calls MAX_CALLS few_calls);
        },
        (le-max_right MIN_CALLS calls, le-max_right MIN_PAGES pages),
      )
  chosen false fits = tt

both_enough : (calls : CallBound) (pages : PageBound) → IfSome (limits_from calls pages) (CarriesBoth calls pages)
unfolding given
both_enough (call_bounds.Calls calls) (page_bounds.Pages pages) = chosen pages calls (nat_le pages MAX_PAGES && nat_le calls MAX_CALLS) refl
both_enough (call_bounds.Calls calls) page_bounds.TooMany = tt
both_enough (call_bounds.Calls calls) page_bounds.Cycle = tt
both_enough (call_bounds.Cycle functions) pages = tt
both_enough call_bounds.Deep pages = tt

pub carries_enough : (bounds : needs.Bounds) → IfSome (limits_from bounds.calls bounds.pages) (CarriesEnough bounds)
carries_enough bounds = both_enough bounds.calls bounds.pages
