-- This file defines the limits on pages and calls that a command line gives, and their effect. The form of limits on a
-- command line is this project's own choice.
use Rattle.std.specs.Prelude.{ℕ, ◌≤◌, ◌&&◌, nat_le, min, max, if◌then◌else◌, Option, Some, None, IfSome, unwrap_or}
use Rattle.cyc_machine_model.specs.Bounds.{Bounds}
use Rattle.cyc_machine_model.specs.declared.constants.TheConstants.{MIN_PAGES, MAX_PAGES, MIN_CALLS, MAX_CALLS}
use Rattle.cyc_cli.specs.declared.limits.TheConstants.{DEFAULT_PAGES, DEFAULT_CALLS}

-- The limits on the pages and calls of a run that a command line gives, each of which is optional.
pub record Given : Type 0 where
  pub pages : Option ℕ
  pub calls : Option ℕ

-- Says that each limit on pages or calls that the command line gives is in its range.
pub record AreInRange (pages calls : Option ℕ) : Type 0 where
  pub pages_fit : IfSome pages (λ n. (MIN_PAGES ≤ n) × (n ≤ MAX_PAGES))
  pub calls_fit : IfSome calls (λ n. (MIN_CALLS ≤ n) × (n ≤ MAX_CALLS))

-- The limits on pages and calls that are stored in a compiled image. If neither the limit on pages nor that on calls is
-- given, no limits are stored; if only one is given, the default is stored for the other.
abbrev pub carried_by : (pages calls : Option ℕ) → Option (ℕ × ℕ)
carried_by None None = None
carried_by None (Some calls) = Some (DEFAULT_PAGES, calls)
carried_by (Some pages) calls = Some (pages, unwrap_or calls DEFAULT_CALLS)

-- The limits for a run that needs this many pages and calls. Each limit is the greater of the need and the least allowed limit; the
-- result is empty if a need exceeds the greatest allowed limit.
abbrev pub limits_for : (pages calls : ℕ) → Option Given
limits_for pages calls =
    if nat_le pages MAX_PAGES && nat_le calls MAX_CALLS
    then Some (record { pages = Some (max MIN_PAGES pages); calls = Some (max MIN_CALLS calls) })
    else None

-- The limits on pages and calls for a run of an image: each is the one that the command line gives, or else the image's limit, or
-- else the default.
abbrev pub limits_by : Given → (note : Option (ℕ × ℕ)) → Bounds
limits_by given None = record { pages = unwrap_or given.pages DEFAULT_PAGES; calls = unwrap_or given.calls DEFAULT_CALLS }
limits_by given (Some limits) = record { pages = unwrap_or given.pages limits.0; calls = unwrap_or given.calls limits.1 }

-- Returns the smaller of a number and an upper bound (cap), or the number itself if there is no upper bound.
abbrev pub capped : Option ℕ → ℕ → ℕ
capped None n = n
capped (Some most) n = min n most

-- The limits on pages and calls, after each is lowered to its cap (upper bound) if it exceeds the cap.
abbrev pub capped_by : Given → Bounds → Bounds
capped_by caps limits = record { pages = capped caps.pages limits.pages; calls = capped caps.calls limits.calls }
