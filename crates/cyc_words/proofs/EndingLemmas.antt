-- The relation `Alike` holds between two endings of runs exactly if they are equal.
use Rattle.std.proofs.Common.{◌≡◌, refl, ap, subst}
use Rattle.cyc_words.specs.Ending.{Ending, Returned, Uncaught, Full, Alike}

pub Alike-refl : (e : Ending) → Alike e e
Alike-refl (Returned x) = refl
Alike-refl (Uncaught t x) = (refl, refl)
Alike-refl Full = tt

pub same_when_alike : (e f : Ending) → Alike e f → e ≡ f
same_when_alike (Returned x) (Returned y) h = ap Returned h
same_when_alike (Uncaught t x) (Uncaught u y) h = let tags : t ≡ u = h.0 in let values : x ≡ y = h.1 in cc
same_when_alike Full Full h = refl
same_when_alike (Returned x) (Uncaught u y) h = absurd h
same_when_alike (Returned x) Full h = absurd h
same_when_alike (Uncaught t x) (Returned y) h = absurd h
same_when_alike (Uncaught t x) Full h = absurd h
same_when_alike Full (Returned y) h = absurd h
same_when_alike Full (Uncaught u y) h = absurd h

pub alike_when_same : (e f : Ending) → e ≡ f → Alike e f
alike_when_same e f h = let P : Ending → Type 0 = Alike e in subst P h (Alike-refl e)
