-- The flow state of unreachable code, and the flow state at the start of a function.
use Rattle.std.proofs.Common.{◌≡◌, ℕ, ◌+◌, List, [], ◌∷◌, ◌++◌, length, drop, map, replicate, refl, ap, ◌∙◌, arith}
use Rattle.std.proofs.lemmas.List.{drop-replicate}
use Rattle.cyc_types.specs.Types.{Ty}
use Rattle.cyc_types.specs.flow.States.{Fullness, Vacant, Full, Unreached, with_each, emptied}
use Rattle.cyc_types.specs.flow.Programs.{each_is}

-- In unreachable code, emptying locals leaves the flow state unreachable.
pub emptied_unreached : (ns : List ℕ) → emptied ns Unreached ≡ Unreached
emptied_unreached [] = refl
emptied_unreached (n ∷ ns) = emptied_unreached ns

pub each_unreached : (a : Fullness) (ns : List ℕ) → with_each a ns Unreached ≡ Unreached
each_unreached a [] = refl
each_unreached a (n ∷ ns) = each_unreached a ns

-- ---- the state at the start of a function

each_known : {X : Type 0} (view : X → Ty) (a : Fullness) (ts : List X) → replicate (length ts) a ≡ each_is a (map view ts)
each_known view a [] = refl
each_known view a (t ∷ ts) = ap (λ as'. a ∷ as') (each_known view a ts)

-- At the start of a function, its parameters, which are its first locals, are full (hold a value). All other locals are empty.
pub start_known : {X : Type 0} (view : X → Ty) (ts us : List X) (n m : ℕ) → n ≡ length ts → m ≡ length us → (start filled : List Fullness)
    → start ≡ replicate (n + m) Vacant → filled ≡ replicate n Full ++ drop n start
    → filled ≡ each_is Full (map view ts) ++ each_is Vacant (map view us)
start_known view ts us n m d e start filled h k =
    k
    ∙ ap (λ as'. replicate n Full ++ drop n as') h
    ∙ ap (λ as'. replicate n Full ++ as') (drop-replicate n (n + m) Vacant ∙ ap (λ (i : ℕ). replicate i Vacant) (omega arith))
    ∙ ap (λ as'. as' ++ replicate m Vacant) (ap (λ (i : ℕ). replicate i Full) d ∙ each_known view Full ts)
    ∙ ap (λ as'. each_is Full (map view ts) ++ as') (ap (λ (i : ℕ). replicate i Vacant) e ∙ each_known view Vacant us)
