-- All functions of a program that the flow rules accept satisfy the guarded form of these rules.
use Rattle.std.proofs.Common.{◌≡◌, ℕ, zero, suc, ◌<◌, true, false, not, nat_lt, List, [], ◌∷◌, ◌++◌, Option, Some, None, get_or, length, refl, sym, subst, arith}
use Rattle.cyc_words.proofs.Numbers.{lt-nat_lt, nat_lt-true}
use Rattle.cyc_types.specs.Types.{Ty}
use Rattle.cyc_types.specs.TypedTrees.{Function}
use Rattle.cyc_types.specs.Rules.{Derives, AllKept}
use Rattle.cyc_types.specs.flow.States.{Vacant, Full, State, Unreached, Reached, is_vacant, is_reached}
use Rattle.cyc_types.specs.flow.Programs.{each_is, start_of, in_function, end_demanded, rule_function, rule_functions}
use Rattle.cyc_soundness.specs.inside.guard.Held.{Never, nowhere, no_guard}
use Rattle.cyc_soundness.specs.inside.guard.Programs.{EndsIn, IsGuardedFunction, AreGuarded}
use Rattle.cyc_soundness.proofs.guard.States.{is_full, held_of, at_least_same}
use Rattle.cyc_soundness.proofs.guard.Fitting.{FitsAt, FitsEach, leaves_none}
use Rattle.cyc_soundness.proofs.guard.Numbers.{AreFresh}
use Rattle.cyc_soundness.proofs.guard.Kept.{kept_items}

-- ---- the start of a function

vacant_start : (us : List Ty) (n : ℕ) → get_or (each_is Vacant us) n Vacant ≡ Vacant
vacant_start [] n = refl
vacant_start (u ∷ us) zero = refl
vacant_start (u ∷ us) (suc n) = vacant_start us n

fits_vacant : (n : ℕ) → FitsAt no_guard n Vacant
fits_vacant n = (refl, λ s. absurd (cc))

fits_start : (ts us : List Ty) → FitsEach no_guard (each_is Full ts ++ each_is Vacant us)
fits_start [] us n = subst (FitsAt no_guard n) (sym (vacant_start us n)) (fits_vacant n)
fits_start (t ∷ ts) us zero = (refl, λ s. refl)
fits_start (t ∷ ts) us (suc n) = let h : FitsAt no_guard n (get_or (each_is Full ts ++ each_is Vacant us) n Vacant) = fits_start ts us n in (h.0, λ s. absurd (cc))

full_start : (ts us : List Ty) (n : ℕ) → is_full (each_is Full ts ++ each_is Vacant us) n ≡ true → nat_lt n (length ts) ≡ true
full_start [] us n h = let k : not (is_vacant Vacant) ≡ true = subst (λ a. not (is_vacant a) ≡ true) (vacant_start us n) h in absurd (cc)
full_start (t ∷ ts) us zero h = lt-nat_lt zero (suc (length ts)) (omega arith)
full_start (t ∷ ts) us (suc n) h = let k : n < length ts = nat_lt-true n (length ts) (full_start ts us n h) in lt-nat_lt (suc n) (suc (length ts)) (omega arith)

-- ---- the end of a function

never_ends : (f : State) → not (is_reached f) ≡ true → held_of f ≡ Never
never_ends Unreached h = refl
never_ends (Reached as') h = absurd (cc)

kept_ends_in : (t : Option Ty) (h : Function) (f : State) → AllKept (end_demanded t h.end f) → EndsIn t (held_of f)
kept_ends_in None h f k = tt
kept_ends_in (Some t) h f (k, u) = never_ends f k

-- ---- all functions

pub function_guarded : (h : Function) → AreFresh nowhere h.body → Derives (rule_function h) tt → IsGuardedFunction h
function_guarded h new (k, x, (kept, eq)) = (
  held_of (start_of h),
  held_of k.now,
  full_start h.parameters h.locals,
  kept_items no_guard no_guard false in_function h.body (record { now = start_of h; breaks = Unreached }) k [] (held_of k.now) (held_of k.breaks) (fits_start h.parameters h.locals) tt (leaves_none no_guard false) new
      (λ n s m. absurd (cc)) (λ n. refl) x (at_least_same (held_of k.now)) (at_least_same (held_of k.breaks)),
  kept_ends_in h.result h k.now kept,
)

abbrev pub AreAllFresh : List Function → Type 0
AreAllFresh [] = Unit {0}
AreAllFresh (h ∷ hs) = AreFresh nowhere h.body × AreAllFresh hs

pub functions_guarded : (hs : List Function) → AreAllFresh hs → Derives (rule_functions hs) tt → AreGuarded hs
functions_guarded [] new d = tt
functions_guarded (h ∷ hs) (new, news) (u, x, y) = (function_guarded h new x, functions_guarded hs news y)
