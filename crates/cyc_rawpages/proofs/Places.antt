-- Lemmas about adjacent memory cells: one cell is taken out and put back, or borrowed. The lemmas of
-- this file assume the program logic `Logic`.
use mathlib.Core.Path.{◌≡◌, refl, sym, ap, subst, ◌∙◌}
use Prim.Native.Nat.{ℕ, zero, suc, ◌+◌, ◌*◌, ◌<◌, ◌≤◌}
use native.Mathlib.Omega.{arith}
use mathlib.Core.List.{List, [], ◌∷◌, ◌++◌}
use lib.ListN.{length, take, drop, set, get_or, replicate, take-append-drop, length-take}
use lib.Seq.{drop-cons, set_split}
use seplogic.Ra.Ura.{Ura}
use mir.Syntax.{w32, ty_int, ty_array}
use mir.Val.{vint}
use base.Fraction.{full_share}
use base.Logic.{ent, sep, via, snd∗, id⊢}
use base.Fml.{Fml, Lft, ftrue, fsep, froom}
use types.Logic.{Logic, sem}
use types.Kit.{‵, ◌⊛◌, ◌$◌, ◌∵◌, !, qed, by, move, keep, use1, use2, split, rewrite, fsplit, fjoin, frame, done, drop as skip}
use denote.Plain.{uint_out}
use denote.Steps.{nothing}
use Rattle.std.specs.Prelude.{Option, Some, None}
use Rattle.cyc_rawpages.specs.inside.Ownership.{place, places, place_lent, places_lent}

pub filled_within : (cs : List (Option ℕ)) (i w : ℕ) → get_or cs i None ≡ Some w → i < length cs
filled_within [] i w e = cc
filled_within (c ∷ cs) zero w e = omega arith
filled_within (c ∷ cs) (suc i) w e = omega (arith, filled_within cs i w e)

module _ {M : Type 1} {𝓤 : Ura M} (𝓛 : Logic 𝓤) (b : ℕ) where
  open 𝓛 use {H}

  cut : (xs ys : List (Option ℕ)) (o at : ℕ) → at ≡ 4 * length xs + o → ent 𝓤 (sem 𝓛 (places b o (xs ++ ys))) (sep 𝓤 (sem 𝓛 (places b o xs)) (sem 𝓛 (places b at ys)))
  cut [] ys o at e = qed 𝓛 (‵ (places b o ys) ∷ []) ∵ rewrite ! 0 (λ (k : ℕ). ‵ (places b k ys)) {x = at} (omega (arith, e)) refl $ nothing ! $ done !
  cut (x ∷ xs) ys o at e = qed 𝓛 (‵ (places b o (x ∷ xs ++ ys)) ∷ []) ∵ fsplit ! $ move ! (1 ∷ []) $
      use1 𝓛 (‵ (places b (o + 4) xs) ⊛ ‵ (places b at ys)) (cut xs ys (o + 4) at (omega (arith, e))) $ split ! $ move ! (2 ∷ 0 ∷ []) $ fjoin ! $ done !

  glue : (xs ys : List (Option ℕ)) (o at : ℕ) → at ≡ 4 * length xs + o → ent 𝓤 (sep 𝓤 (sem 𝓛 (places b o xs)) (sem 𝓛 (places b at ys))) (sem 𝓛 (places b o (xs ++ ys)))
  glue [] ys o at e = qed 𝓛 (‵ ftrue ∷ ‵ (places b at ys) ∷ []) ∵ skip ! $ rewrite ! 0 (λ (k : ℕ). ‵ (places b k ys)) {x = o} (omega (arith, e)) refl $ done !
  glue (x ∷ xs) ys o at e = qed 𝓛 (‵ (places b o (x ∷ xs)) ∷ ‵ (places b at ys) ∷ []) ∵ fsplit ! $ move ! (1 ∷ 2 ∷ []) $
      use2 𝓛 (‵ (places b (o + 4) (xs ++ ys))) (glue xs ys (o + 4) at (omega (arith, e))) $ move ! (1 ∷ 0 ∷ []) $ fjoin ! $ done !

  module _ (o : ℕ) (cs : List (Option ℕ)) (i : ℕ) where
    -- The assertion that owns all cells except the i-th.
    abbrev pub besides : Fml
    besides = fsep (places b o (take i cs)) (places b (i * 4 + o + 4) (drop (suc i) cs))

    before : i ≤ length cs → i * 4 + o ≡ 4 * length (take i cs) + o
    before le = omega (arith, length-take i cs)

    pub place_out : i < length cs → ent 𝓤 (sem 𝓛 (places b o cs)) (sep 𝓤 (sem 𝓛 (place b (i * 4 + o) (get_or cs i None))) (sem 𝓛 besides))
    place_out lt = qed 𝓛 (‵ (places b o cs) ∷ []) ∵
        rewrite ! 0 (λ (l : List (Option ℕ)). ‵ (places b o l)) (sym (take-append-drop i cs) ∙ ap (λ l. take i cs ++ l) (drop-cons cs i None lt)) refl $
        use1 𝓛 (‵ (places b o (take i cs)) ⊛ ‵ (places b (i * 4 + o) (get_or cs i None ∷ drop (suc i) cs))) (cut (take i cs) (get_or cs i None ∷ drop (suc i) cs) o (i * 4 + o) (before (omega arith))) $
        split ! $ move ! (1 ∷ []) $ fsplit ! $ move ! (2 ∷ 1 ∷ []) $ fjoin ! $ move ! (1 ∷ []) $ done !

    pub place_in : i < length cs → (c : Option ℕ) → ent 𝓤 (sep 𝓤 (sem 𝓛 (place b (i * 4 + o) c)) (sem 𝓛 besides)) (sem 𝓛 (places b o (set cs i c)))
    place_in lt c = qed 𝓛 (‵ (place b (i * 4 + o) c) ∷ ‵ besides ∷ []) ∵ move ! (1 ∷ []) $ fsplit ! $ move ! (2 ∷ 1 ∷ []) $ fjoin ! $ move ! (1 ∷ 0 ∷ []) $
        use2 𝓛 (‵ (places b o (take i cs ++ c ∷ drop (suc i) cs))) (glue (take i cs) (c ∷ drop (suc i) cs) o (i * 4 + o) (before (omega arith))) $
        rewrite ! 0 (λ (l : List (Option ℕ)). ‵ (places b o l)) (sym (set_split cs i c lt)) refl $ done !

  -- Ownership of a cell, whatever it contains, gives ownership of space for a word.
  pub place_room : (o : ℕ) (c : Option ℕ) → ent 𝓤 (sem 𝓛 (place b o c)) (H.room (ty_int w32) b o)
  place_room o (Some w) = via 𝓤 _ (uint_out 𝓛 full_share w32 w b o) (𝓛.laws.at_room (ty_int w32) b o (vint w32 w))
  place_room o None = id⊢ 𝓤 _

  -- Ownership of a block's space is ownership of its empty cells. Ownership of its cells, whatever they contain, gives ownership of the
  -- space.
  pub of_room : (n o : ℕ) → ent 𝓤 (H.room (ty_array (ty_int w32) n) b o) (sem 𝓛 (places b o (replicate n None)))
  of_room zero o = qed 𝓛 (‵ (froom (ty_array (ty_int w32) 0) b o) ∷ []) ∵ keep ! [] $ done !
  of_room (suc n) o = qed 𝓛 (‵ (froom (ty_array (ty_int w32) (suc n)) b o) ∷ []) ∵
      use1 𝓛 (‵ (froom (ty_int w32) b o) ⊛ ‵ (froom (ty_array (ty_int w32) n) b (o + 4))) (𝓛.laws.room_uncons (ty_int w32) n b o) $ split ! $ frame ! $ by ! (of_room n (o + 4))

  pub to_room : (cs : List (Option ℕ)) (o : ℕ) → ent 𝓤 (sem 𝓛 (places b o cs)) (H.room (ty_array (ty_int w32) (length cs)) b o)
  to_room [] o = 𝓛.laws.room_nil (ty_int w32) b o
  to_room (c ∷ cs) o = qed 𝓛 (‵ (place b o c) ∷ ‵ (places b (o + 4) cs) ∷ []) ∵
      use1 𝓛 (‵ (froom (ty_int w32) b o)) (place_room o c) $ move ! (1 ∷ []) $
      use1 𝓛 (‵ (froom (ty_array (ty_int w32) (length cs)) b (o + 4))) (to_room cs (o + 4)) $ move ! (1 ∷ []) $ by ! (𝓛.laws.room_cons (ty_int w32) (length cs) b o)

  module _ (κ : Lft) where
    from_on : (cs : List (Option ℕ)) (i o at : ℕ) → i ≤ length cs → at ≡ i * 4 + o → ent 𝓤 (sem 𝓛 (places_lent b o cs κ)) (sem 𝓛 (places_lent b at (drop i cs) κ))
    from_on cs zero o at le e = subst (λ k. ent 𝓤 (sem 𝓛 (places_lent b o cs κ)) (sem 𝓛 (places_lent b k cs κ))) {x = o} {y = at} (omega (arith, e)) (id⊢ 𝓤 _)
    from_on [] (suc i) o at le e = absurd (omega arith)
    from_on (c ∷ cs) (suc i) o at le e =
        via 𝓤 (sem 𝓛 (places_lent b (o + 4) cs κ)) (snd∗ 𝓤 (sem 𝓛 (place_lent b o c κ)) (sem 𝓛 (places_lent b (o + 4) cs κ))) (from_on cs i (o + 4) at (omega arith) (omega (arith, e)))

    pub place_seen : (o : ℕ) (cs : List (Option ℕ)) (i : ℕ) → i < length cs → ent 𝓤 (sem 𝓛 (places_lent b o cs κ)) (sem 𝓛 (place_lent b (i * 4 + o) (get_or cs i None) κ))
    place_seen o cs i lt = qed 𝓛 (‵ (places_lent b o cs κ) ∷ []) ∵ use1 𝓛 (‵ (places_lent b (i * 4 + o) (drop i cs) κ)) (from_on cs i o (i * 4 + o) (omega arith) refl) $
        rewrite ! 0 (λ (l : List (Option ℕ)). ‵ (places_lent b (i * 4 + o) l κ)) (drop-cons cs i None lt) refl $ fsplit ! $ keep ! (0 ∷ []) $ done !
