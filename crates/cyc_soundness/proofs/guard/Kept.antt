-- This file proves that the derivations of the flow rules satisfy the guarded form of these rules. From a flow state of the rules, the
-- proofs take the set of locals that hold values. The guarded form lets a proof choose its flow states, which are sets of locals that
-- hold values.
use Rattle.std.proofs.Common.{◌≡◌, ℕ, Bool, true, false, cond, not, ◌&&◌, ◌||◌, nat_eq, List, [], ◌∷◌, ◌++◌, Option, Some, None, get_or, refl, sym, ap, subst, ◌∙◌}
use Rattle.std.proofs.lemmas.Bool.{and_parts, not-true}
use Rattle.cyc_words.proofs.Booleans.{or_false_right, or_true_right}
use Rattle.cyc_types.specs.TypedTrees.{Lvalue, Local, Global, Expression, Number, NullPointer, HeapRegion, Counter, Copy, Move, Peek, Load, AddressOf, AddressOfCell, NumberOfElements, FreeUnique, FreeKey, Call, Unary}
use Rattle.cyc_types.specs.TypedTrees.{Binary, Assign, Store, New, Dereference, Target, Member, Element, Placement, OnHeap, AsUnique, ByHandle, Initial, Plain, Fields, Array, Converted, Convert, Arguments, NoArguments}
use Rattle.cyc_types.specs.TypedTrees.{MoreArguments, Operations, NoOperations, ThenCompute, ThenTest, ThenPointer, ThenPointerPeek, Side, VariableSide, CellSide, Statement, Block, Empty, Evaluate, Swap, If, While}
use Rattle.cyc_types.specs.TypedTrees.{Return, Break, Continue, Throw, Try, Items, NoItems, MoreItems, Item, Execute, Declare, DeclareRegion, OpenRegion, DeclareAlias, DeclareKey, Clauses, NoClauses, Default, Case}
use Rattle.cyc_types.specs.Rules.{Demand, Derives, AllKept}
use Rattle.cyc_types.specs.flow.States.{Fullness, State, Unreached, Reached, Vacant, Locked, Full, meet, fullness, with_fullness, with_each, is_vacant, is_locked, emptied}
use Rattle.cyc_types.specs.flow.Touched.{and_local, touched, touched_place, touched_placement, touched_initial, touched_converted, touched_arguments, touched_operations, touched_side, touched_value, touched_thrown, touched_declaration, touched_statement, touched_items, touched_item, touched_clauses}
use Rattle.cyc_types.specs.flow.Expressions.{and_peeked, peek_of, peek_after, used, stored, is_free, rule, rule_place, rule_placement, rule_initial, rule_converted, rule_arguments, rule_operations}
use Rattle.cyc_types.specs.flow.Statements.{Loop, Around, Known, at, in_loop, left_loop, continue_demanded, rule_value, rule_thrown, rule_side, peeked_side, side_demanded}
use Rattle.cyc_types.specs.flow.Statements.{rule_swapped, locked_by, locks_of, rule_declared, caught, with_caught, or_clause, rule_statement, rule_items, rule_item, rule_clauses}
use Rattle.cyc_types.specs.flow.Statements as published
use Rattle.cyc_soundness.specs.inside.guard.Held.{Held, IsAtLeast, with_held, and_held, Guard, peeking, relying, IsSeen, IsUsable, IsAssignable, IsSpared, IsReliable, at_catch}
use Rattle.cyc_soundness.specs.inside.guard.Expressions.{KeepsUse, KeepsAssignment, Keeps, KeepsPlace, KeepsPlacement, KeepsInitial, KeepsConverted, KeepsArguments, KeepsOperations}
use Rattle.cyc_soundness.specs.inside.guard.Statements.{Exits, KeepsValue, KeepsThrown, KeepsSide, IsSwappable, KeepsBreak, KeepsContinue, following_item, KeepsDeclaration, KeepsLoan, KeepsStatement, KeepsItems, KeepsItem, KeepsClauses}
use Rattle.cyc_soundness.proofs.guard.Bools.{has, has_append, has_last}
use Rattle.cyc_soundness.proofs.guard.States.{is_full, held_of, at_least_same, at_least_trans, meet_left, meet_right, tested, filled_at_least, emptied_at_least, lent_at_least, emptied_one, emptied_never, Emptied, emptied_at}
use Rattle.cyc_soundness.proofs.guard.Fitting.{FitsAt, Fits, Rests, not_locked, not_relied, fits_meet, emptied_fits, Leaves, leaves_none, leaves_append, unlocked, unlocked_at_least, peeking_fits, peeking_rests}
use Rattle.cyc_soundness.proofs.guard.Numbers.{IsFresh, AreFresh, IsFreshItem, AreFreshClauses}
use Rattle.cyc_soundness.proofs.guard.Followed.{rests_back, before, before_initial, before_converted, before_arguments, before_operations, before_assigned, before_side, before_statement, before_items, before_clauses, after_rests, followed}
use Rattle.cyc_soundness.proofs.guard.Followed.{followed_place, followed_placement, followed_converted, followed_side, BothFit, ItemFits, ItemsFit, caught_fits, followed_statement, followed_items, followed_item, falls, falls_items, falls_clauses}
use Rattle.cyc_soundness.proofs.guard.Never.{never_items}

-- Says that the locals that were read early (peeked at), and whose read values are not yet used, are exactly the guard's peeked locals.
abbrev pub Waits : Guard → List ℕ → Type 0
Waits p q = (n : ℕ) → p.peeked n ≡ has q n

peek_added : (t x y : Bool) → x ≡ y → cond t true x ≡ (y || (t || false))
peek_added true x y h = sym (or_true_right y)
peek_added false x y h = h ∙ sym (or_false_right y)

waits_more : (o : Option ℕ) (p : Guard) (q : List ℕ) → Waits p q → Waits (peeking o p) (and_peeked o q)
waits_more None p q h = h
waits_more (Some m) p q h = λ n. peek_added (nat_eq m n) (p.peeked n) (has q n) (h n) ∙ sym (has_append q (m ∷ []) n)

-- If all facts of a set hold in a flow state, then they also hold in every flow state that equals it.
moved_to : (f g : State) (h : Held) → f ≡ g → IsAtLeast (held_of f) h → IsAtLeast (held_of g) h
moved_to f g h eq i = subst (λ x. IsAtLeast (held_of x) h) eq i

-- ---- locals

module _ (p : Guard) (q : List ℕ) (n : ℕ) where
  seen_kept : (f : State) → Fits p false f → not (is_vacant (fullness f n)) ≡ true → not (is_locked (fullness f n)) ≡ true → IsSeen p n (held_of f)
  seen_kept Unreached h k l = tt
  seen_kept (Reached as') h k l = (k, not_locked p as' n h l)

  usable_kept : (f : State) → Fits p false f → Waits p q → not (is_vacant (fullness f n)) ≡ true → not (is_locked (fullness f n)) ≡ true → is_free q n f ≡ true → IsUsable p n (held_of f)
  usable_kept Unreached h w k l m = tt
  usable_kept (Reached as') h w k l m = (k, not_locked p as' n h l, w n ∙ not-true (has q n) m)

  assignable_kept : (f : State) → Fits p false f → Waits p q → (not (is_locked (fullness f n)) && is_free q n f) ≡ true → IsAssignable p n (held_of f)
  assignable_kept Unreached h w k = tt
  assignable_kept (Reached as') h w k =
      let parts : (not (is_locked (get_or as' n Vacant)) ≡ true) × (not (has q n) ≡ true) = and_parts (not (is_locked (get_or as' n Vacant))) (not (has q n)) k in
      (not_locked p as' n h parts.0, w n ∙ not-true (has q n) parts.1)

  spared_kept : (f : State) (ns : List ℕ) → Fits p false f → Rests p ns → has ns n ≡ true → not (is_locked (fullness f n)) ≡ true → IsSpared p n (held_of f)
  spared_kept Unreached ns h r m l = tt
  spared_kept (Reached as') ns h r m l = not_relied p n ns r m (not_locked p as' n h l)

kept_use : (p : Guard) (q : List ℕ) (l : Lvalue) (f g : State) (j : Held) → Fits p false f → Waits p q → Derives (used q l f) g → IsAtLeast (held_of g) j → KeepsUse p l (held_of f) j
kept_use p q (Local at n) f g j h w ((k1, (k2, (k3, u))), eq) i = (usable_kept p q n f h w k1 k2 k3, moved_to g f j eq i)
kept_use p q (Global n) f g j h w (u, eq) i = moved_to g f j eq i

kept_assignment : (p : Guard) (q : List ℕ) (l : Lvalue) (f g : State) (j : Held) → Fits p false f → Waits p q → Derives (stored q l f) g → IsAtLeast (held_of g) j → KeepsAssignment p l (held_of f) j
kept_assignment p q (Local at n) f g j h w ((k, u), eq) i = (
  assignable_kept p q n f h w k,
  at_least_trans (with_held true (held_of f) n) (held_of (with_fullness Full f n)) j (filled_at_least f n) (moved_to g (with_fullness Full f n) j eq i),
)
kept_assignment p q (Global n) f g j h w (u, eq) i = moved_to g f j eq i

-- ---- expressions

mutual
  pub kept : (p : Guard) (a : Expression) (q : List ℕ) (f g : State) (ns : List ℕ) (j : Held) → Fits p false f → Waits p q → Rests p (touched a ns) → Derives (rule q a f) g
      → IsAtLeast (held_of g) j → Keeps p a (held_of f) j
  kept p (Number n) q f g ns j h w r (u, eq) i = moved_to g f j eq i
  kept p NullPointer q f g ns j h w r (u, eq) i = moved_to g f j eq i
  kept p HeapRegion q f g ns j h w r (u, eq) i = moved_to g f j eq i
  kept p (Counter l) q f g ns j h w r (u, eq) i = moved_to g f j eq i
  kept p (Copy l t) q f g ns j h w r d i = kept_use p q l f g j h w d i
  kept p (Move at n t) q f g ns j h w r ((k1, (k2, (k3, u))), eq) i = (
    usable_kept p q n f h w k1 k2 k3,
    spared_kept p q n f (and_local n ns) h r (has_last ns n) k2,
    at_least_trans (with_held false (held_of f) n) (held_of (with_fullness Vacant f n)) j (emptied_at_least f n) (moved_to g (with_fullness Vacant f n) j eq i),
  )
  kept p (Peek at n t) q f g ns j h w r ((k1, (k2, u)), eq) i = (seen_kept p q n f h k1 k2, moved_to g f j eq i)
  kept p (Load d) q f g ns j h w r x i = kept_place p d q f g ns j h w r x i
  kept p (AddressOf l t) q f g ns j h w r d i = kept_use p q l f g j h w d i
  kept p (AddressOfCell d t) q f g ns j h w r x i = kept_place p d q f g ns j h w r x i
  kept p (NumberOfElements a) q f g ns j h w r x i = kept p a q f g ns j h w r x i
  kept p (FreeUnique a) q f g ns j h w r x i = kept p a q f g ns j h w r x i
  kept p (FreeKey a) q f g ns j h w r x i = kept p a q f g ns j h w r x i
  kept p (Call c as' t) q f g ns j h w r x i = kept_arguments p as' q f g ns j h w r x i
  kept p (Unary o a) q f g ns j h w r x i = kept p a q f g ns j h w r x i
  kept p (Binary a os t) q f g ns j h w r (b, x, y) i =
      let ra : Rests p (touched a ns) = before_operations p os (touched a ns) r in
      (held_of b, kept p a q f b ns (held_of b) h w ra x (at_least_same (held_of b)), kept_operations p os q b g (touched a ns) j (followed p false a q f b ns h ra x) w r y i)
  kept p (Assign l c t) q f g ns j h w r (b, x, y) i =
      let rc : Rests p (touched_converted c ns) = before_assigned p l t (touched_converted c ns) r in
      (held_of b, kept_converted p c q f b ns (held_of b) h w rc x (at_least_same (held_of b)), kept_assignment p q l b g j (followed_converted p false c q f b ns h rc x) w y i)
  kept p (Store d c t) q f g ns j h w r (b, x, y) i =
      let o = peek_after d in
      let rd : Rests p (touched_place d ns) = before_converted p c (touched_place d ns) r in (
        held_of b,
        kept_place p d q f b ns (held_of b) h w rd x (at_least_same (held_of b)),
        kept_converted (peeking o p) c (and_peeked o q) b g (touched_place d ns) j (peeking_fits o p false b (followed_place p false d q f b ns h rd x)) (waits_more o p q w)
            (peeking_rests o p (touched_converted c (touched_place d ns)) r) y i,
      )
  kept p (New v t u) q f g ns j h w r (b, x, y) i =
      let rv : Rests p (touched_placement v ns) = before_initial p t (touched_placement v ns) r in
      (held_of b, kept_placement p v q f b ns (held_of b) h w rv x (at_least_same (held_of b)), kept_initial p t q b g (touched_placement v ns) j (followed_placement p false v q f b ns h rv x) w r y i)

  pub kept_place : (p : Guard) (d : Dereference) (q : List ℕ) (f g : State) (ns : List ℕ) (j : Held) → Fits p false f → Waits p q → Rests p (touched_place d ns) → Derives (rule_place q d f) g
      → IsAtLeast (held_of g) j → KeepsPlace p d (held_of f) j
  kept_place p (Target k a t) q f g ns j h w r x i = kept p a q f g ns j h w r x i
  kept_place p (Member k a s m t) q f g ns j h w r x i = kept p a q f g ns j h w r x i
  kept_place p (Element a e t) q f g ns j h w r (b, x, y) i =
      let o = peek_of a in
      let ra : Rests p (touched a ns) = before p e (touched a ns) r in (
        held_of b,
        kept p a q f b ns (held_of b) h w ra x (at_least_same (held_of b)),
        kept (peeking o p) e (and_peeked o q) b g (touched a ns) j (peeking_fits o p false b (followed p false a q f b ns h ra x)) (waits_more o p q w) (peeking_rests o p (touched e (touched a ns)) r) y i,
      )

  kept_placement : (p : Guard) (v : Placement) (q : List ℕ) (f g : State) (ns : List ℕ) (j : Held) → Fits p false f → Waits p q → Rests p (touched_placement v ns) → Derives (rule_placement q v f) g
      → IsAtLeast (held_of g) j → KeepsPlacement p v (held_of f) j
  kept_placement p OnHeap q f g ns j h w r (u, eq) i = moved_to g f j eq i
  kept_placement p AsUnique q f g ns j h w r (u, eq) i = moved_to g f j eq i
  kept_placement p (ByHandle a) q f g ns j h w r x i = kept p a q f g ns j h w r x i

  kept_initial : (p : Guard) (t : Initial) (q : List ℕ) (f g : State) (ns : List ℕ) (j : Held) → Fits p false f → Waits p q → Rests p (touched_initial t ns) → Derives (rule_initial q t f) g
      → IsAtLeast (held_of g) j → KeepsInitial p t (held_of f) j
  kept_initial p (Plain k a) q f g ns j h w r x i = kept p a q f g ns j h w r x i
  kept_initial p (Fields as') q f g ns j h w r x i = kept_arguments p as' q f g ns j h w r x i
  kept_initial p (Array at l n k a) q f g ns j h w r (b, x, (c, y, ((t, u), eq))) i =
      let rn : Rests p (touched n ns) = before p a (touched n ns) r in (
        held_of b,
        kept p n q f b ns (held_of b) h w rn x (at_least_same (held_of b)),
        kept p a q b c (touched n ns) (held_of b) (followed p false n q f b ns h rn x) w r y (tested c b t),
        moved_to g b j eq i,
      )

  pub kept_converted : (p : Guard) (c : Converted) (q : List ℕ) (f g : State) (ns : List ℕ) (j : Held) → Fits p false f → Waits p q → Rests p (touched_converted c ns) → Derives (rule_converted q c f) g
      → IsAtLeast (held_of g) j → KeepsConverted p c (held_of f) j
  kept_converted p (Convert from to a) q f g ns j h w r x i = kept p a q f g ns j h w r x i

  kept_arguments : (p : Guard) (as' : Arguments) (q : List ℕ) (f g : State) (ns : List ℕ) (j : Held) → Fits p false f → Waits p q → Rests p (touched_arguments as' ns) → Derives (rule_arguments q as' f) g
      → IsAtLeast (held_of g) j → KeepsArguments p as' (held_of f) j
  kept_arguments p NoArguments q f g ns j h w r (u, eq) i = moved_to g f j eq i
  kept_arguments p (MoreArguments c as') q f g ns j h w r (b, x, y) i =
      let rc : Rests p (touched_converted c ns) = before_arguments p as' (touched_converted c ns) r in (
        held_of b,
        kept_converted p c q f b ns (held_of b) h w rc x (at_least_same (held_of b)),
        kept_arguments p as' q b g (touched_converted c ns) j (followed_converted p false c q f b ns h rc x) w r y i,
      )

  kept_operations : (p : Guard) (os : Operations) (q : List ℕ) (f g : State) (ns : List ℕ) (j : Held) → Fits p false f → Waits p q → Rests p (touched_operations os ns) → Derives (rule_operations q os f) g
      → IsAtLeast (held_of g) j → KeepsOperations p os (held_of f) j
  kept_operations p NoOperations q f g ns j h w r (u, eq) i = moved_to g f j eq i
  kept_operations p (ThenCompute o a os) q f g ns j h w r (b, x, y) i =
      let ra : Rests p (touched a ns) = before_operations p os (touched a ns) r in
      (held_of b, kept p a q f b ns (held_of b) h w ra x (at_least_same (held_of b)), kept_operations p os q b g (touched a ns) j (followed p false a q f b ns h ra x) w r y i)
  kept_operations p (ThenTest o a os) q f g ns j h w r (b, x, y) i =
      let ra : Rests p (touched a ns) = before_operations p os (touched a ns) r in
      let met : State = meet f b in (
        held_of met,
        meet_left f b,
        kept p a q f b ns (held_of met) h w ra x (meet_right f b),
        kept_operations p os q met g (touched a ns) j (fits_meet p false f b h (followed p false a q f b ns h ra x)) w r y i,
      )
  kept_operations p (ThenPointer o a os) q f g ns j h w r (b, x, y) i =
      let ra : Rests p (touched a ns) = before_operations p os (touched a ns) r in
      (held_of b, kept p a q f b ns (held_of b) h w ra x (at_least_same (held_of b)), kept_operations p os q b g (touched a ns) j (followed p false a q f b ns h ra x) w r y i)
  kept_operations p (ThenPointerPeek n o a os) q f g ns j h w r (b, x, y) i =
      let ra : Rests p (touched a ns) = before_operations p os (touched a ns) r in (
        held_of b,
        kept (peeking (Some n) p) a (and_peeked (Some n) q) f b ns (held_of b) (peeking_fits (Some n) p false f h) (waits_more (Some n) p q w) (peeking_rests (Some n) p (touched a ns) ra) x (at_least_same (held_of b)),
        kept_operations p os q b g (touched a ns) j (followed p false a (and_peeked (Some n) q) f b ns h ra x) w r y i,
      )

-- ---- parts of statements

kept_value : (p : Guard) (v : Option Converted) (f g : State) (ns : List ℕ) → Fits p false f → Waits p [] → Rests p (touched_value v ns) → Derives (rule_value v f) g → KeepsValue p v (held_of f) (held_of g)
kept_value p None f g ns h w r (u, eq) = moved_to g f (held_of g) eq (at_least_same (held_of g))
kept_value p (Some c) f g ns h w r x = kept_converted p c [] f g ns (held_of g) h w r x (at_least_same (held_of g))

kept_thrown : (p : Guard) (v : Option Expression) (f g : State) (ns : List ℕ) → Fits p false f → Waits p [] → Rests p (touched_thrown v ns) → Derives (rule_thrown v f) g
    → KeepsThrown p v (held_of f) (held_of g)
kept_thrown p None f g ns h w r (u, eq) = moved_to g f (held_of g) eq (at_least_same (held_of g))
kept_thrown p (Some a) f g ns h w r x = kept p a [] f g ns (held_of g) h w r x (at_least_same (held_of g))

kept_side : (p : Guard) (x : Side) (q : List ℕ) (f g : State) (ns : List ℕ) → Fits p false f → Waits p q → Rests p (touched_side x ns) → Derives (rule_side q x f) g → KeepsSide p x (held_of f) (held_of g)
kept_side p (VariableSide l t) q f g ns h w r (u, eq) = moved_to g f (held_of g) eq (at_least_same (held_of g))
kept_side p (CellSide d) q f g ns h w r x = kept_place p d q f g ns (held_of g) h w r x (at_least_same (held_of g))

kept_front : (ds es : List Demand) → AllKept (ds ++ es) → AllKept ds
kept_front [] es k = tt
kept_front (d ∷ ds) es (k, l) = (k, kept_front ds es l)

kept_back : (ds es : List Demand) → AllKept (ds ++ es) → AllKept es
kept_back [] es k = k
kept_back (d ∷ ds) es (k, l) = kept_back ds es l

swappable : (p : Guard) (q : List ℕ) (x : Side) (f : State) → Fits p false f → Waits p q → AllKept (side_demanded q x f) → IsSwappable p x (held_of f)
swappable p q (VariableSide (Local at n) t) f h w (k1, (k2, (k3, u))) = usable_kept p q n f h w k1 k2 k3
swappable p q (VariableSide (Global n) t) f h w k = tt
swappable p q (CellSide d) f h w k = tt

kept_swap : (p : Guard) (z : Option Exits) (x y : Side) (f g : State) (ns : List ℕ) (j : Held) → Fits p false f → Waits p [] → Rests p (touched_side y (touched_side x ns)) → Derives (rule_swapped x y f) g
    → IsAtLeast (held_of g) j → KeepsStatement p z (Swap x y) (held_of f) j
kept_swap p z x y f g ns j h w r (b, k, (c, l, (both, eq))) i =
    let o = peeked_side x in
    let rx : Rests p (touched_side x ns) = before_side p y (touched_side x ns) r in
    let hb : Fits p false b = followed_side p false x [] f b ns h rx k in
    let hc : Fits p false c = followed_side p false y (and_peeked o []) b c (touched_side x ns) hb r l in (
      held_of b,
      held_of c,
      kept_side p x [] f b ns h w rx k,
      kept_side (peeking o p) y (and_peeked o []) b c (touched_side x ns) (peeking_fits o p false b hb) (waits_more o p [] w) (peeking_rests o p (touched_side y (touched_side x ns)) r) l,
      swappable p [] x c hc w (kept_front (side_demanded [] x c) (side_demanded (and_peeked o []) y c) both),
      swappable (peeking o p) (and_peeked o []) y c (peeking_fits o p false c hc) (waits_more o p [] w) (kept_back (side_demanded [] x c) (side_demanded (and_peeked o []) y c) both),
      moved_to g c j eq i,
    )

kept_declaration : (p : Guard) (n : ℕ) (v : Option Converted) (f g : State) (ns : List ℕ) (j : Held) → Fits p false f → p.locked n ≡ false → Waits p [] → Rests p (touched_declaration n v ns)
    → Derives (rule_declared n v f) g → IsAtLeast (held_of g) j → KeepsDeclaration p n v (held_of f) j
kept_declaration p n None f g ns j h new w r (u, eq) i = (
  declared_spared f (not_relied p n (and_local n ns) r (has_last ns n) new),
  at_least_trans (with_held false (held_of f) n) (held_of (with_fullness Vacant f n)) j (emptied_at_least f n) (moved_to g (with_fullness Vacant f n) j eq i),
)
  where
    declared_spared : (f : State) → p.relied n ≡ false → IsSpared p n (held_of f)
    declared_spared Unreached k = tt
    declared_spared (Reached as') k = k
kept_declaration p n (Some c) f g ns j h new w r (b, x, (u, eq)) i = (
  held_of b,
  kept_converted p c [] f b ns (held_of b) h w r x (at_least_same (held_of b)),
  at_least_trans (with_held true (held_of b) n) (held_of (with_fullness Full b n)) j (filled_at_least b n) (moved_to g (with_fullness Full b n) j eq i),
)

-- ---- loops

-- The flow rules' facts about the enclosing loop, given the flow state after the loop.
abbrev pub exits_at : Option Loop → Held → Option Exits
exits_at None b = None
exits_at (Some l) b = Some (record { head = held_of l.head; following = b })

kept_break : (t : Option Loop) (f b : Held) → IsAtLeast f b → KeepsBreak (exits_at t b) f
kept_break None f b h = tt
kept_break (Some l) f b h = h

kept_continue : (t : Option Loop) (f left : State) (b : Held) → ((g : Held) → IsAtLeast (held_of left) g → IsAtLeast (held_of f) g) → AllKept (continue_demanded t left) → KeepsContinue (exits_at t b) (held_of f)
kept_continue None f left b h k = tt
kept_continue (Some l) f left b h (k, u) = h (held_of l.head) (tested left l.head k)

-- ---- catch clauses

-- The locals on which the catch clauses of a `try` rely: the locals that hold values at the start of the clauses.
record Caught (p : Guard) (ts : List ℕ) (f : State) : Type 0 where
  relied : ℕ → Bool
  reliable : IsReliable p relied (held_of f)
  more : (n : ℕ) → p.relied n ≡ true → relied n ≡ true
  fits : Fits (relying relied p) false f
  rests : Rests (relying relied p) ts
  start : at_catch relied (held_of f) ≡ held_of (emptied ts f)

still_relied : (p : Guard) (n : ℕ) (t : Bool) (a : Fullness) → FitsAt p n a → (p.relied n ≡ true → t ≡ true → p.locked n ≡ true) → p.relied n ≡ true → not (is_vacant (emptied_one t a)) ≡ true
still_relied p n false a h r s = ap not (h.1 s)
still_relied p n true Vacant h r s = let e : true ≡ false = h.1 s in absurd (cc)
still_relied p n true Locked h r s = refl
still_relied p n true Full h r s = let e : p.locked n ≡ true = r s refl in let k : false ≡ p.locked n = h.0 in absurd (cc)

was_full : (t : Bool) (a : Fullness) → not (is_vacant (emptied_one t a)) ≡ true → not (is_vacant a) ≡ true
was_full false a h = h
was_full true Vacant h = h
was_full true Locked h = refl
was_full true Full h = refl

was_locked : (a : Fullness) → not (is_vacant (emptied_one true a)) ≡ true → is_locked a ≡ true
was_locked Vacant h = absurd (cc)
was_locked Locked h = refl
was_locked Full h = absurd (cc)

caught_at : (p : Guard) (ts : List ℕ) (f : State) → Fits p false f → Rests p ts → Caught p ts f
caught_at p ts Unreached h r = record { relied = p.relied; reliable = tt; more = λ n s. s; fits = tt; rests = r; start = ap held_of (sym (emptied_never ts)) }
caught_at p ts (Reached as') h r =
    record {
      relied = is_full x.left;
      reliable = (more, known);
      more = more;
      fits = λ n. ((h n).0, λ s. not-true (is_vacant (get_or as' n Vacant)) (known n s));
      rests = λ n s k. sym (h n).0 ∙ was_locked (get_or as' n Vacant) (subst (λ t. not (is_vacant (emptied_one t (get_or as' n Vacant))) ≡ true) k (left n s));
      start = sym (ap held_of x.is);
    }
  where
    x : Emptied ts as' (emptied ts (Reached as'))
    x = emptied_at ts as'

    left : (n : ℕ) → is_full x.left n ≡ true → not (is_vacant (emptied_one (has ts n) (get_or as' n Vacant))) ≡ true
    left n s = subst (λ a. not (is_vacant a) ≡ true) (x.at n) s

    more : (n : ℕ) → p.relied n ≡ true → is_full x.left n ≡ true
    more n s = subst (λ a. not (is_vacant a) ≡ true) (sym (x.at n)) (still_relied p n (has ts n) (get_or as' n Vacant) (h n) (r n) s)

    known : (n : ℕ) → is_full x.left n ≡ true → is_full as' n ≡ true
    known n s = was_full (has ts n) (get_or as' n Vacant) (left n s)

leaves_relying : (ls : List ℕ) (p o : Guard) (d : Bool) (r : ℕ → Bool) → ((n : ℕ) → p.relied n ≡ true → r n ≡ true) → Leaves ls p false o d → Leaves ls (relying r p) false o d
leaves_relying ls p o true r h x = x
leaves_relying ls p o false r h x = λ n. ((x n).0, (x n).1, λ s. h n ((x n).2 s))

-- The flow state after the catch clauses of a `try` has at most the facts of the state before the clauses.
clauses_fall : (c : Around) (start : State) (cs : Clauses) (k l : Known) → Derives (rule_clauses c start cs k) l → IsAtLeast (held_of k.now) (held_of l.now)
clauses_fall c start NoClauses k l (u, eq) = subst (λ z. IsAtLeast (held_of k.now) (held_of z.now)) (sym eq) (at_least_same (held_of k.now))
clauses_fall c start (Default b js) k l (m, x, (u, eq)) = subst (λ z. IsAtLeast (held_of k.now) (held_of z.now)) (sym eq) (meet_left k.now (with_each Full (locks_of js) m.now))
clauses_fall c start (Case t n b js cs) k l (m, x, y) =
    at_least_trans (held_of k.now) (held_of (or_clause k.now js m).now) (held_of l.now) (meet_left k.now (with_each Full (locks_of js) m.now)) (clauses_fall c start cs (or_clause k.now js m) l y)

caught_at_least : (n : Option ℕ) (f : State) → IsAtLeast (and_held n (held_of f)) (held_of (with_caught n f))
caught_at_least None f = at_least_same (held_of f)
caught_at_least (Some n) f = filled_at_least f n

-- ---- all forms

now_to : (k l : Known) (j : Held) → k ≡ l → IsAtLeast (held_of k.now) j → IsAtLeast (held_of l.now) j
now_to k l j eq i = subst (λ z. IsAtLeast (held_of z.now) j) eq i

breaks_to : (k l : Known) (j : Held) → k ≡ l → IsAtLeast (held_of k.breaks) j → IsAtLeast (held_of l.breaks) j
breaks_to k l j eq i = subst (λ z. IsAtLeast (held_of z.breaks) j) eq i

kept_filled : (n : ℕ) (k l : Known) (j : Held) → l ≡ at (with_fullness Full k.now n) k → IsAtLeast (held_of l.now) j → IsAtLeast (with_held true (held_of k.now) n) j
kept_filled n k l j eq jn =
    at_least_trans (with_held true (held_of k.now) n) (held_of (with_fullness Full k.now n)) j (filled_at_least k.now n) (now_to l (at (with_fullness Full k.now n) k) j eq jn)

kept_loan : (p : Guard) (n m : ℕ) (f g : State) (j : Held) → Fits p false f → not (is_vacant (fullness f m)) ≡ true → not (is_locked (fullness f m)) ≡ true
    → g ≡ with_fullness Full (with_fullness Locked f m) n → IsAtLeast (held_of g) j → KeepsLoan p n m (held_of f) j
kept_loan p n m f g j h k1 k2 eq i =
    let lent : State = with_fullness Full (with_fullness Locked f m) n in
    (seen_kept p [] m f h k1 k2, at_least_trans (with_held true (held_of f) n) (held_of lent) j (lent_at_least f n m k1) (moved_to g lent j eq i))

-- A list of block items (declarations and statements) is unreachable, or it satisfies the guarded form of the flow rules.
run_or_never : (p : Guard) (e : Bool) (x : Option Exits) (js : Items) (f : State) (j : Held) → Fits p e f → (e ≡ false → KeepsItems p x js (held_of f) j) → KeepsItems p x js (held_of f) j
run_or_never p true x js f j h k = subst (λ g. KeepsItems p x js (held_of g) j) (sym h) (never_items p x js j)
run_or_never p false x js f j h k = k refl

mutual
  pub kept_statement : (p o : Guard) (d : Bool) (c : Around) (s : Statement) (k l : Known) (ns : List ℕ) (j b : Held) → Fits p false k.now → Fits o d k.breaks → Leaves c.locks p false o d
      → IsFresh p.locked s → Rests p (touched_statement s ns) → Waits p [] → Derives (rule_statement c s k) l → IsAtLeast (held_of l.now) j → IsAtLeast (held_of l.breaks) b
      → KeepsStatement p (exits_at c.loop b) s (held_of k.now) j
  kept_statement p o d c (Block t js) k l ns j b h i w new r v (m, x, (u, eq)) jn jb =
      let y : ItemsFit (locks_of js) p false o d m = followed_items p false o d c js k m ns h i w new r x in
      kept_items p o d c js k m ns j b h i w new r v x
      (unlocked_at_least (locks_of js) y.inner y.never p false m.now j y.leaves y.now (now_to l (published.at_end js m) j eq jn)) (breaks_to l (published.at_end js m) b eq jb)
  kept_statement p o d c Empty k l ns j b h i w new r v (u, eq) jn jb = now_to l k j eq jn
  kept_statement p o d c (Evaluate a) k l ns j b h i w new r v (f, x, (u, eq)) jn jb = kept p a [] k.now f ns j h v r x (now_to l (at f k) j eq jn)
  kept_statement p o d c (Swap x y) k l ns j b h i w new r v (f, z, (u, eq)) jn jb = kept_swap p (exits_at c.loop b) x y k.now f ns j h v r z (now_to l (at f k) j eq jn)
  kept_statement p o d c (If a s t) k l ns j b h i w (new, new') r v (f, x, (m, y, (n, z, (u, eq)))) jn jb =
      let rt : Rests p (touched_statement s (touched a ns)) = before_statement p t (touched_statement s (touched a ns)) r in
      let ra : Rests p (touched a ns) = before_statement p s (touched a ns) rt in
      let hf : Fits p false f = followed p false a [] k.now f ns h ra x in
      let one : BothFit p false o d m = followed_statement p false o d c s (at f k) m (touched a ns) hf i w new rt y in
      let met : IsAtLeast (held_of (meet m.now n.now)) j = now_to l (at (meet m.now n.now) n) j eq jn in
      let bn : IsAtLeast (held_of n.breaks) b = breaks_to l (at (meet m.now n.now) n) b eq jb in (
        held_of f,
        kept p a [] k.now f ns (held_of f) h v ra x (at_least_same (held_of f)),
        kept_statement p o d c s (at f k) m (touched a ns) j b hf i w new rt v y (at_least_trans (held_of m.now) (held_of (meet m.now n.now)) j (meet_left m.now n.now) met)
            (at_least_trans (held_of m.breaks) (held_of n.breaks) b (falls c t (at f m) n z) bn),
        kept_statement p o d c t (at f m) n (touched_statement s (touched a ns)) j b hf one.1 w new' r v z (at_least_trans (held_of n.now) (held_of (meet m.now n.now)) j (meet_right m.now n.now) met) bn,
      )
  kept_statement p o d c (While q a s) k l ns j b h i w new r v (f, x, (m, y, ((t, u), eq))) jn jb =
      let ra : Rests p (touched a ns) = before_statement p s (touched a ns) r in
      let met : IsAtLeast (held_of (meet f m.breaks)) j = now_to l (record { now = meet f m.breaks; breaks = k.breaks }) j eq jn in (
        held_of k.now,
        held_of f,
        at_least_same (held_of k.now),
        kept p a [] k.now f ns (held_of f) h v ra x (at_least_same (held_of f)),
        kept_statement p p false (in_loop q k.now) s (record { now = f; breaks = Unreached }) m (touched a ns) (held_of k.now) j (followed p false a [] k.now f ns h ra x) tt (leaves_none p false) new r v y
            (tested m.now k.now t) (at_least_trans (held_of m.breaks) (held_of (meet f m.breaks)) j (meet_right f m.breaks) met),
        at_least_trans (held_of f) (held_of (meet f m.breaks)) j (meet_left f m.breaks) met,
      )
  kept_statement p o d c (Return e) k l ns j b h i w new r v (f, x, (u, eq)) jn jb = (held_of f, kept_value p e k.now f ns h v r x)
  kept_statement p o d c Break k l ns j b h i w new r v (u, eq) jn jb =
      let met : IsAtLeast (held_of (meet k.breaks (left_loop c k.now))) b = breaks_to l (record { now = Unreached; breaks = meet k.breaks (left_loop c k.now) }) b eq jb in
      kept_break c.loop (held_of k.now) b
      (unlocked_at_least c.locks p false o d k.now b w h
      (at_least_trans (held_of (left_loop c k.now)) (held_of (meet k.breaks (left_loop c k.now))) b (meet_right k.breaks (left_loop c k.now)) met))
  kept_statement p o d c Continue k l ns j b h i w new r v (kept', eq) jn jb =
      kept_continue c.loop k.now (left_loop c k.now) b (λ g x. unlocked_at_least c.locks p false o d k.now g w h x) kept'
  kept_statement p o d c (Throw t e) k l ns j b h i w new r v (f, x, (u, eq)) jn jb = (held_of f, kept_thrown p e k.now f ns h v r x)
  kept_statement p o d c (Try s cs) k l ns j b h i w (new, new') r v (m, x, y) jn jb =
      let all : Rests p (ns ++ touched_statement s []) = before_clauses p cs (ns ++ touched_statement s []) r in
      let rs : Rests p (touched_statement s []) = rests_back p ns (touched_statement s []) all in
      let body : BothFit p false o d m = followed_statement p false o d c s k m [] h i w new rs x in
      let z : Caught p (touched_statement s []) k.now = caught_at p (touched_statement s []) k.now h rs in (
        z.relied,
        z.reliable,
        kept_statement (relying z.relied p) o d c s k m [] j b z.fits i (leaves_relying c.locks p o d z.relied z.more w) new z.rests v x
            (at_least_trans (held_of m.now) (held_of l.now) j (clauses_fall c (caught k.now s) cs m l y) jn)
            (at_least_trans (held_of m.breaks) (held_of l.breaks) b (falls_clauses c (caught k.now s) cs m l y) jb),
        subst (λ t. KeepsClauses p (exits_at c.loop b) cs t j) (sym z.start)
            (kept_clauses p o d c (caught k.now s) cs m l (ns ++ touched_statement s []) j b (emptied_fits p false (touched_statement s []) k.now h rs) body.0 body.1 w new' r v y jn jb),
      )

  pub kept_items : (p o : Guard) (d : Bool) (c : Around) (js : Items) (k l : Known) (ns : List ℕ) (j b : Held) → Fits p false k.now → Fits o d k.breaks → Leaves c.locks p false o d
      → AreFresh p.locked js → Rests p (touched_items js ns) → Waits p [] → Derives (rule_items c js k) l → IsAtLeast (held_of l.now) j → IsAtLeast (held_of l.breaks) b
      → KeepsItems p (exits_at c.loop b) js (held_of k.now) j
  kept_items p o d c NoItems k l ns j b h i w new r v (u, eq) jn jb = now_to l k j eq jn
  kept_items p o d c (MoreItems t js) k l ns j b h i w (new, new') r v (m, x, y) jn jb =
      let rt : Rests p (touched_item t ns) = before_items p js (touched_item t ns) r in
      let one : ItemFits t p false o d m = followed_item p false o d c t k m ns h i w new rt x in (
        held_of m.now,
        kept_item p o d c t k m ns (held_of m.now) b h i w new rt v x (at_least_same (held_of m.now))
            (at_least_trans (held_of m.breaks) (held_of l.breaks) b (falls_items (published.following_item t c) js m l y) jb),
        run_or_never (following_item t p) one.0 (exits_at c.loop b) js m.now j one.2
            (λ is. kept_items (following_item t p) o d (published.following_item t c) js m l (touched_item t ns) j b (subst (λ e. Fits (following_item t p) e m.now) is one.2) one.3
            (subst (λ e. Leaves (c.locks ++ locked_by t) (following_item t p) e o d) is (leaves_append c.locks (locked_by t) p false (following_item t p) one.0 o d w one.1))
            new' (after_rests t p (touched_items js (touched_item t ns)) r) v y jn jb),
      )

  kept_item : (p o : Guard) (d : Bool) (c : Around) (t : Item) (k l : Known) (ns : List ℕ) (j b : Held) → Fits p false k.now → Fits o d k.breaks → Leaves c.locks p false o d
      → IsFreshItem p.locked t → Rests p (touched_item t ns) → Waits p [] → Derives (rule_item c t k) l → IsAtLeast (held_of l.now) j → IsAtLeast (held_of l.breaks) b
      → KeepsItem p (exits_at c.loop b) t (held_of k.now) j
  kept_item p o d c (Execute s) k l ns j b h i w new r v x jn jb = kept_statement p o d c s k l ns j b h i w new r v x jn jb
  kept_item p o d c (Declare n t e) k l ns j b h i w new r v (f, x, (u, eq)) jn jb = kept_declaration p n e k.now f ns j h new v r x (now_to l (at f k) j eq jn)
  kept_item p o d c (DeclareRegion t n) k l ns j b h i w new r v (u, eq) jn jb = kept_filled n k l j eq jn
  kept_item p o d c (OpenRegion t n q m) k l ns j b h i w new r v (f, ((k1, (k2, z)), is), (u, eq)) jn jb = kept_loan p n m k.now f j h k1 k2 is (now_to l (at f k) j eq jn)
  kept_item p o d c (DeclareAlias t n y q m) k l ns j b h i w new r v (f, ((k1, (k2, z)), is), (u, eq)) jn jb = kept_loan p n m k.now f j h k1 k2 is (now_to l (at f k) j eq jn)
  kept_item p o d c (DeclareKey t n) k l ns j b h i w new r v (u, eq) jn jb = kept_filled n k l j eq jn

  kept_clauses : (p o : Guard) (d : Bool) (c : Around) (start : State) (cs : Clauses) (k l : Known) (ns : List ℕ) (j b : Held) → Fits p false start → Fits p false k.now → Fits o d k.breaks
      → Leaves c.locks p false o d → AreFreshClauses p.locked cs → Rests p (touched_clauses cs ns) → Waits p [] → Derives (rule_clauses c start cs k) l
      → IsAtLeast (held_of l.now) j → IsAtLeast (held_of l.breaks) b → KeepsClauses p (exits_at c.loop b) cs (held_of start) j
  kept_clauses p o d c start NoClauses k l ns j b g h i w new r v x jn jb = tt
  kept_clauses p o d c start (Default t js) k l ns j b g h i w new r v (m, x, (u, eq)) jn jb =
      let y : ItemsFit (locks_of js) p false o d m = followed_items p false o d c js (at start k) m ns g i w new r x in
      let end : State = with_each Full (locks_of js) m.now in
      let met : IsAtLeast (held_of (meet k.now end)) j = now_to l (or_clause k.now js m) j eq jn in
      kept_items p o d c js (at start k) m ns j b g i w new r v x
      (unlocked_at_least (locks_of js) y.inner y.never p false m.now j y.leaves y.now (at_least_trans (held_of end) (held_of (meet k.now end)) j (meet_right k.now end) met)) (breaks_to l (or_clause k.now js m) b eq jb)
  kept_clauses p o d c start (Case t n a js cs) k l ns j b g h i w (one, new, new') r v (m, x, z) jn jb =
      let rj : Rests p (touched_items js ns) = before_clauses p cs (touched_items js ns) r in
      let begin : State = with_caught n start in
      let gn : Fits p false begin = caught_fits p false n start g one in
      let y : ItemsFit (locks_of js) p false o d m = followed_items p false o d c js (at begin k) m ns gn i w new rj x in
      let end : State = with_each Full (locks_of js) m.now in
      let both : BothFit p false o d (or_clause k.now js m) = (fits_meet p false k.now end h (unlocked (locks_of js) y.inner y.never p false m.now y.leaves y.now), y.breaks) in
      let met : IsAtLeast (held_of (meet k.now end)) j = at_least_trans (held_of (meet k.now end)) (held_of l.now) j (clauses_fall c start cs (or_clause k.now js m) l z) jn in (
        held_of begin,
        caught_at_least n start,
        kept_items p o d c js (at begin k) m ns j b gn i w new rj v x
            (unlocked_at_least (locks_of js) y.inner y.never p false m.now j y.leaves y.now (at_least_trans (held_of end) (held_of (meet k.now end)) j (meet_right k.now end) met))
            (at_least_trans (held_of m.breaks) (held_of l.breaks) b (falls_clauses c start cs (or_clause k.now js m) l z) jb),
        kept_clauses p o d c start cs (or_clause k.now js m) l (touched_items js ns) j b g both.0 both.1 w new' r v z jn jb,
      )
