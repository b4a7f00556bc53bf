-- Lemmas about a list that the checker's code visits in a loop: the results for the first elements
-- and for the remaining elements give the result for the list.
use Rattle.std.proofs.Common.{◌≡◌, List, [], ◌∷◌, ◌++◌, Ok, Err, refl, sym, ap}
use Rattle.cyc_types.specs.Rules.{Checked, and_then}

module _ {X Y B : Type 0} (view : X → Y) (add : Y → B → B) where
  -- adds elements in front of a list, each in the form that the specification gives it
  abbrev pub onto : List X → B → B
  onto [] b = b
  onto (x ∷ xs) b = add (view x) (onto xs b)

  -- the result of adding the elements checked so far in front of the result for the remaining elements
  abbrev pub with_front : List X → Checked B → Checked B
  with_front front checked = and_then checked (λ b. Ok (onto front b))

  pub onto-append : (front : List X) (x : X) (b : B) → onto (front ++ x ∷ []) b ≡ onto front (add (view x) b)
  onto-append [] x b = refl
  onto-append (y ∷ ys) x b = ap (add (view y)) (onto-append ys x b)

  pub regroup : (front : List X) (x : X) (checked : Checked B) → with_front front (and_then checked (λ b. Ok (add (view x) b))) ≡ with_front (front ++ x ∷ []) checked
  regroup front x (Ok b) = ap Ok (sym (onto-append front x b))
  regroup front x (Err e) = refl

  pub onto_nothing : (checked : Checked B) → with_front [] checked ≡ checked
  onto_nothing (Ok b) = refl
  onto_nothing (Err e) = refl
