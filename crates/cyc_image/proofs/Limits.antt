-- The limits that an image contains are valid limits of a run.
use Rattle.std.proofs.Common.{ℕ, Option, None, Some}
use Rattle.std.specs.Prelude.{IfSome}
use Rattle.cyc_elf.specs.Note.{AreLimits}
use Rattle.cyc_machine_model.specs.Bounds.{AreAllowed}
use Rattle.cyc_image.specs.Notes.{AreAllowedIfAny}

pub limits_allowed : (limits : ℕ × ℕ) → AreLimits limits → AreAllowed limits.0 limits.1
limits_allowed limits fit = record { enough_pages = fit.enough_pages; few_pages = fit.few_pages; enough_calls = fit.enough_calls; few_calls = fit.few_calls }

pub allowed_limits : (limits : ℕ × ℕ) → AreAllowed limits.0 limits.1 → AreLimits limits
allowed_limits limits fit = record { enough_pages = fit.enough_pages; few_pages = fit.few_pages; enough_calls = fit.enough_calls; few_calls = fit.few_calls }

pub limits_if_any : (note : Option (ℕ × ℕ)) → AreAllowedIfAny note → IfSome note AreLimits
limits_if_any None allowed = tt
limits_if_any (Some limits) allowed = allowed_limits limits allowed

pub allowed_if_any : (note : Option (ℕ × ℕ)) → IfSome note AreLimits → AreAllowedIfAny note
allowed_if_any None fit = tt
allowed_if_any (Some limits) fit = limits_allowed limits fit
