-- A local that is named, and a counter that is set.
use Rattle.std.proofs.Common.{◌≡◌, ap, ℕ, ◌==◌, Option, Some, slice_get, if◌then◌else◌}
use mathlib.Core.Path.{fun_ext}
use Rattle.std.specs.declared.vec.Vec.{Vec}
use Rattle.std.specs.declared.alloc.Global.{Global as Heap}
use Rattle.cyc_meaning.specs.State.{Environment, with_local, with_counter}
use Rattle.cyc_interpret.specs.declared.entry.Environment.{Environment as EnvironmentCode}
use Rattle.cyc_interpret.specs.View.{flat, view_environment}

abbrev with_locals : (ℕ → Option ℕ) → Environment → Environment
with_locals f e = record e { locals = f }

abbrev with_counters : (ℕ → Option ℕ) → Environment → Environment
with_counters f e = record e { counters = f }

module _ (e : EnvironmentCode) (ls : Vec (Option ℕ) Heap) (n v : ℕ) where
  pub named : ((other : ℕ) → flat (slice_get ls.items other) ≡ (if other == n then Some v else flat (slice_get e.locals.items other)))
      → view_environment (record e { locals = ls }) ≡ with_local (view_environment e) n v
  named h = ap (λ (f : ℕ → Option ℕ). with_locals f (view_environment e)) (fun_ext h)

  pub numbered : ((other : ℕ) → flat (slice_get ls.items other) ≡ (if other == n then Some v else flat (slice_get e.counters.items other)))
      → view_environment (record e { counters = ls }) ≡ with_counter (view_environment e) n v
  numbered h = ap (λ (f : ℕ → Option ℕ). with_counters f (view_environment e)) (fun_ext h)
