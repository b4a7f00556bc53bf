-- Lemmas about values that functions receive after the requirements on these values were checked, and about the tree nodes that contain
-- the values.
use Rattle.std.proofs.Common.{◌≡◌, Bool, true, false, cond, nat_lt, Option, Some, None, refl, sym, ap, ◌∙◌}
use Rattle.std.specs.declared.boxed.Box.{Box}
use Rattle.std.specs.declared.alloc.Global.{Global}
use Rattle.cyc_words.specs.declared.fault.Fault.{Fault}
use Rattle.cyc_words.specs.Fault.{number_of}
use Rattle.cyc_syntax.specs.Symbols.{Place}
use Rattle.cyc_types.specs.Types.{Pointer}
use Rattle.cyc_types.specs.TypeView.{view_ty}
use Rattle.cyc_types.specs.TypedTrees.{type_of_place}
use Rattle.cyc_types.specs.TypedTrees as typed
use Rattle.cyc_types.specs.TypedTreeView.{view_dereference, view_initial}
use Rattle.cyc_types.specs.Rules.{lesser, settled, unless, run}
use Rattle.cyc_types.specs.typing.Expressions.{Reached, Placed, Made, content_demanded, loaded, reached, created}
use Rattle.cyc_typing.specs.declared.places.Reached.{Reached as ReachedCode}
use Rattle.cyc_typing.specs.declared.objects.Placed.{Placed as PlacedCode}
use Rattle.cyc_operands.specs.declared.made.Made.{Made as MadeCode}
use Rattle.cyc_operands.specs.inside.Operands.{IsMade}
use Rattle.cyc_typing.specs.inside.Forms.{IsReached, IsPlaced, merged, loaded_after, reached_after, created_after}
use Rattle.cyc_typing.proofs.Settling.{settled_after, settled_merged}

pub loaded_is : (r : Box ReachedCode Global) (w : Reached) (p : Place) → IsReached r w → loaded_after r.value.settled.known p (view_dereference r.value.cell.value) ≡ run (loaded p w)
loaded_is r w p h =
    ap (λ d. unless (settled r.value.settled.known (content_demanded (type_of_place d) p)) (typed.Load d)) h.cell
    ∙ ap (λ o. unless o (typed.Load w.cell)) (sym (settled_after r.value.settled.known w.asked (content_demanded (type_of_place w.cell) p) h.asked))

pub reached_is : (r : Box ReachedCode Global) (w : Reached) → IsReached r w → reached_after r.value.settled.known (view_dereference r.value.cell.value) r.value.region ≡ run (reached w)
reached_is r w h =
    ap (λ o. reached_after o (view_dereference r.value.cell.value) r.value.region) h.asked
    ∙ ap (λ d. reached_after (settled None w.asked) d r.value.region) h.cell
    ∙ ap (reached_after (settled None w.asked) w.cell) h.region

-- If a fault was already found, the result of a check does not depend on the checked value, because a fault is returned instead of
-- this value.
refused_alike : (known : Option Fault) (f : Fault) (a b : typed.Expression) → unless (lesser known f) a ≡ unless (lesser known f) b
refused_alike None f a b = refl
refused_alike (Some e) f a b = by_test (nat_lt (number_of f.code) (number_of e.code))
  where
    by_test : (t : Bool) → unless (cond t (Some f) (Some e)) a ≡ unless (cond t (Some f) (Some e)) b
    by_test true = refl
    by_test false = refl

where_kept : (known other : Option Fault) (a b : typed.Expression) → (other ≡ None → a ≡ b) → unless (merged known other) a ≡ unless (merged known other) b
where_kept known None a b h = ap (unless known) (h refl)
where_kept known (Some f) a b h = refused_alike known f a b

pub created_is : (p : Box PlacedCode Global) (m : Box MadeCode Global) (w : Placed) (n : Made) → IsPlaced p w → IsMade m n → created_after p m ≡ run (created w n)
created_is p m w n h k =
    ap (λ q. unless (merged p.value.settled.known m.value.settled.known) (typed.New q (view_initial m.value.initial.value) (Pointer m.value.mark (view_ty m.value.target) p.value.region))) h.placement
    ∙ ap (λ r. unless (merged p.value.settled.known m.value.settled.known) (typed.New w.placement (view_initial m.value.initial.value) (Pointer m.value.mark (view_ty m.value.target) r))) h.region
    ∙ ap (λ t. unless (merged p.value.settled.known m.value.settled.known) (typed.New w.placement (view_initial m.value.initial.value) (Pointer m.value.mark t w.region))) k.target
    ∙ ap (λ k. unless (merged p.value.settled.known m.value.settled.known) (typed.New w.placement (view_initial m.value.initial.value) (Pointer k n.target w.region))) k.mark
    ∙ where_kept p.value.settled.known m.value.settled.known (typed.New w.placement (view_initial m.value.initial.value) (Pointer n.mark n.target w.region))
    (typed.New w.placement n.initial (Pointer n.mark n.target w.region)) (λ e. ap (λ i. typed.New w.placement i (Pointer n.mark n.target w.region)) (k.initial e))
    ∙ ap (λ o. unless o (typed.New w.placement n.initial (Pointer n.mark n.target w.region)))
    (ap (merged p.value.settled.known) k.asked ∙ sym (settled_merged p.value.settled.known n.asked) ∙ sym (settled_after p.value.settled.known w.asked n.asked h.asked))
