-- This file is about the evaluation of a well-typed expression: each step yields a well-typed run state.
use Rattle.std.proofs.Common.{◌≡◌, ◌⊎◌, inl, inr, ℕ, Bool, true, List, [], ◌∷◌, map, Some, slice_get, refl, sym, ap, subst, ◌∙◌}
use Rattle.std.specs.Prelude.{if◌then◌else◌, option_map}
use Rattle.std.proofs.lemmas.Bool.{not-true}
use Rattle.cyc_words.proofs.Items.{slice_get-map_from_turned}
use Rattle.cyc_syntax.specs.declared.tree.PointerKind.TheVariants as marks
use Rattle.cyc_types.specs.declared.typed.Kind.TheVariants as kinds
use Rattle.cyc_types.specs.declared.typed.Callee.{Callee}
use Rattle.cyc_types.specs.declared.typed.Callee.TheVariants as callees
use Rattle.cyc_types.specs.declared.typed.UnaryOperator.TheVariants as unary
use Rattle.cyc_types.specs.declared.region.Region.{Region}
use Rattle.cyc_types.specs.declared.region.Region.TheVariants as regions
use Rattle.cyc_syntax.specs.Symbols.{Place}
use Rattle.cyc_types.specs.Types.{Ty, ValueType, result_type, substituted_ty}
use Rattle.cyc_types.specs.Types as types
use Rattle.cyc_types.specs.TypedTrees.{Local, Global, Expression, Number, NullPointer, HeapRegion, Counter, Copy, Move, Peek, Load, AddressOf, AddressOfCell, NumberOfElements, FreeUnique, FreeKey, Call, Unary, Binary, Assign, New, OnHeap, AsUnique, ByHandle, type_of_place, peeked, Convert}
use Rattle.cyc_types.specs.TypedTrees.{Arguments, NoArguments, MoreArguments, Operations, NoOperations, ThenCompute, ThenTest, ThenPointer, ThenPointerPeek, Signature, Function, Program}
use Rattle.cyc_types.specs.TypedTrees as typed'
use Rattle.cyc_types.specs.Rules.{Derives}
use Rattle.cyc_types.specs.typing.Tests.{is_moved}
use Rattle.cyc_types.specs.typing.Expressions.{assigned_type, instantiated}
use Rattle.cyc_types.specs.typing.WellTyped.{Context, AreLive, AreOutliving, IsCallee, WellTyped, IsPeek, IsPeekOf, IsLeft, ArePassed, signature_of, AreNotUnique, AreConstraints}
use Rattle.cyc_types.specs.flow.States as flow
use Rattle.cyc_types.specs.flow.States.{Vacant, Full, fullness, with_fullness, is_vacant}
use Rattle.cyc_types.specs.flow.Expressions.{and_peeked, peek_of, peek_after, rule, rule_arguments}
use Rattle.cyc_meaning.specs.Values.{Operand}
use Rattle.cyc_meaning.specs.Values as values
use Rattle.cyc_meaning.specs.State.{InRegion, Unique, World, heap_number, Environment, ConvertTo, Operate, Chain, Store, FreeObject, CloseByKey, Pass, CountElements, PlaceBy, LoadFrom, TakeAddress, StoreTo, Entry, Needs, NeedsPlace, Focus, Evaluating, Locating, Given, Calling, Running}
use Rattle.cyc_meaning.specs.Parts.{target_by}
use Rattle.cyc_meaning.specs.inside.Nesting.{ends_of, AreOpen}
use Rattle.cyc_meaning.specs.Step.{step_evaluating, addressed, counts, passes, assigned}
use Rattle.cyc_soundness.specs.inside.Lives.{heap_life, as_heap, RunTy, RunValue, Value, looked}
use Rattle.cyc_soundness.specs.inside.Lives as lives
use Rattle.cyc_soundness.specs.inside.Worlds.{Hand, Typing, IsFull, global_type, Outlasts, globals as with_globals, IsResult, AreOperands, IsTyped, life_at}
use Rattle.cyc_soundness.specs.inside.Frames.{local_type, InScope, IsBound, AreVariables, LiveIn, IsSet, Holds, Implies, Exits, IsContext, KnowsProgram, lives_in, read, read_value}
use Rattle.cyc_soundness.specs.inside.Classes.{Relied, and_looked, IsSpared, InExpression, InArguments, InOperations, SparesAssigned}
use Rattle.cyc_soundness.specs.inside.Judgements as judgements
use Rattle.cyc_soundness.specs.inside.Awaited.{IsChained, Val, Go, turned, relied_at, IsCalled}
use Rattle.cyc_soundness.specs.inside.Awaited as awaited
use Rattle.cyc_soundness.specs.inside.Stacks.{IsStack, IsFocus, IsWell}
use Rattle.cyc_soundness.proofs.types.TypeLemmas.{place_type, target_typed}
use Rattle.cyc_soundness.proofs.flow.FlowLemmas.{used_full, implies_self}
use Rattle.cyc_soundness.proofs.types.Sharing.{keeps_by, region_common, unique_by_type}
use Rattle.cyc_soundness.proofs.states.StackLemmas.{keeps_passed}
use Rattle.cyc_soundness.proofs.states.StackClaims.{void_goes}
use Rattle.cyc_soundness.proofs.states.StackLocals.{bound_to, place_local, among_bound, among_variable, among_level, among_set}
use Rattle.cyc_soundness.proofs.types.ValueLemmas.{lasts_itself}
use Rattle.cyc_soundness.proofs.types.RegionLemmas.{agrees_of, there_of}
use Rattle.cyc_soundness.proofs.types.CallRegions.{instance_is, cell_live, these_by, is_among, parameters_mean, result_means}
use Rattle.cyc_soundness.proofs.states.Cells.{plain_claims, pointer_plain, running, part_at}
use Rattle.cyc_soundness.proofs.flow.Looking.{looked_converted, peeked_so}
use Rattle.cyc_soundness.proofs.steps.ArrayObjects.{makes_on}
use Rattle.cyc_soundness.proofs.steps.Places.{gives}
use Rattle.cyc_soundness.proofs.steps.Variables.{moves, global_there, copies, peeks, from_global}

abbrev left_typed : (q : Relied) (well : Type 0) (c : Context) (a : Expression) (v : ValueType) (os : Operations) → InOperations q os → IsLeft well c a v os → well ⊎ IsPeek c a v
left_typed q well c a v NoOperations kept is = inl is
left_typed q well c a v (ThenCompute o b os) kept is = inl is
left_typed q well c a v (ThenTest o b os) kept is = is
left_typed q well c a v (ThenPointer o b os) kept is = inl is
left_typed q well c a v (ThenPointerPeek n o b os) kept is = inr is.0

-- The semantics agrees with the typing rules on which expression is a peek: a read of a local that does not move its value.
peek_is : (n : ℕ) (a : Expression) → IsPeekOf n a → peek_of a ≡ Some n
peek_is n (Peek p m u) is = ap (λ i. Some i) (sym is)
peek_is n a is = absurd is

left_chained : (q : Relied) (well : Type 0) (c : Context) (a : Expression) (v : ValueType) (os : Operations) (kept : InOperations q os) (is : IsLeft well c a v os) (r : RunValue) → IsChained (judgements.seen_by a (left_typed q well c a v os kept is)) r os
left_chained q well c a v NoOperations kept is r = refl
left_chained q well c a v (ThenCompute o b os) kept is r = refl
left_chained q well c a v (ThenTest o b os) kept is r = tt
left_chained q well c a v (ThenPointer o b os) kept is r = refl
left_chained q well c a v (ThenPointerPeek n o b os) kept is r = inl (peek_is n a is.1)

-- No flow state requires a local to hold its value if a unique pointer or a key is assigned to the local.
moved_spared : (q : Relied) (place : Place) (n : ℕ) (v : Ty) (u : ValueType) → u ≡ assigned_type v → is_moved v ≡ true → SparesAssigned q (Local place n) u → IsSpared q n
moved_spared q place n v u gives moved spared = subst (λ z. SparesAssigned q (Local place n) z) (gives ∙ ap (λ (b : Bool). if b then types.Void else types.Value v) moved) spared

module _ (p : Program) where
  -- If the region variables of a called function are instantiated with these lifetimes, then the function takes and returns these types.
  called_is : (x : Exits) (bs : List InScope) (c : Context) (callee : Callee) (s : Signature) (m : List Region) → IsContext p x bs c → IsCallee c callee s → AreNotUnique m → ((number : ℕ) (h : Function) → slice_get p.functions number ≡ Some h → AreConstraints h.variables h.constraints) → AreLive c (instantiated m s).effect
      → AreOutliving c (instantiated m s).constraints
      → IsCalled p bs callee (map (read bs) (map (substituted_ty m) s.parameters)) (read_value bs (result_type (option_map (substituted_ty m) s.result)))
  called_is x bs c callees.Putchar s m stands is apart named alive outlive =
      subst (λ (z : Signature). IsCalled p bs callees.Putchar (map (read bs) (map (substituted_ty m) z.parameters)) (read_value bs (result_type (option_map (substituted_ty m) z.result)))) (sym is) (refl, refl)
  called_is x bs c callees.Getchar s m stands is apart named alive outlive =
      subst (λ (z : Signature). IsCalled p bs callees.Getchar (map (read bs) (map (substituted_ty m) z.parameters)) (read_value bs (result_type (option_map (substituted_ty m) z.result)))) (sym is) (refl, refl)
  called_is x bs c (callees.Function n) s m stands is apart named alive outlive =
      let (h, there, same) = slice_get-map_from_turned signature_of p.functions n s (ap (λ ss. slice_get ss n) (sym stands.functions) ∙ is) in
      let these = these_by (lives_in bs) m in
      let instance = instance_is p x bs c stands h m apart (named n h there) (subst (λ (z : Signature). AreLive c (instantiated m z).effect) (sym same) alive) (subst (λ (z : Signature). AreOutliving c (instantiated m z).constraints) (sym same) outlive) in
      subst (λ (z : Signature). IsCalled p bs (callees.Function n) (map (read bs) (map (substituted_ty m) z.parameters)) (read_value bs (result_type (option_map (substituted_ty m) z.result)))) same
      (h, these, (λ k. is_among k h.effect), there, instance, parameters_mean bs m h.parameters, result_means bs m h.result)

  module _ (g : Typing) (x : Exits) (bs : List InScope) (e : Environment) (w : World) (typed : IsTyped g w.regions w.objects) (globals : KnowsProgram g p) (bound : IsBound e.locals e.counters bs) (variables : AreVariables g bs) where
    on : (focus : Focus) (k : List Entry) → LiveIn k bs → IsFocus p g x bs focus k → IsWell p (Running focus k e w)
    on focus k live stands = running p g x bs e w typed globals bound variables focus k live stands

    -- Passing a value to the stack entry that awaits it yields a well-typed run state.
    pub hands : (k : List Entry) (r s : RunValue) (v : Operand) (f h : flow.State) → LiveIn k bs → Holds g f bs → h ≡ f → r ≡ s → IsResult g s v → awaited.Comes g s v k → IsStack p g x bs (Val r h) k
        → IsWell p (Running (Given v) k e w)
    hands k r s v f h live holds same_flow same_type is comes stack =
        on (Given v) k live (r, h, subst (λ z. Holds g z bs) (sym same_flow) holds, subst (λ z. IsResult g z v) (sym same_type) is, subst (λ z. awaited.Comes g z v k) (sym same_type) comes, stack)

    -- ---- arguments

    pub pass_on : (k : List Entry) (callee : Callee) (before : List Operand) (done : List RunTy) (as' : Arguments) (ts : List Ty) (c : Context) (r : ValueType) (f h : flow.State) (q : List ℕ)
        → LiveIn k bs → IsContext p x bs c → Holds g f bs → ArePassed c ts as' → Derives (rule_arguments q as' f) h → InArguments (relied_at x.relied k) as' → AreOperands g done before → awaited.AreClaimed g.own (awaited.operands_in k) done before
        → IsCalled p bs callee (turned done (map (read bs) ts)) (read_value bs r) → IsStack p g x bs (Val (read_value bs r) h) k → IsWell p (passes callee before as' k e w)
    pass_on k callee before done NoArguments [] c r f h q live stands holds passed (u, same) kept operands claims called stack =
        on (Calling callee before) k live (done, read_value bs r, h, subst (λ z. Holds g z bs) (sym same) holds, called, operands, claims, stack)
    pass_on k callee before done NoArguments (t ∷ ts) c r f h q live stands holds passed flows kept operands claims called stack = absurd passed
    pass_on k callee before done (MoreArguments d as') [] c r f h q live stands holds passed flows kept operands claims called stack = absurd passed
    pass_on k callee before done (MoreArguments (Convert from to a) as') (t ∷ ts) c r f h q live stands holds ((v, well, conv, from_is, to_is), passed) (f1, d, ds) (one, kept) operands claims called stack =
        on (Evaluating a) (Needs (ConvertTo from to (target_by a)) ∷ Needs (Pass callee before as') ∷ k) live (
          c,
          v,
          f,
          f1,
          stands,
          holds,
          record { waiting = q; typed = inl well; flows = d; kept = one },
          (
            [],
            bs,
            Val (Value (read bs t)) f1,
            awaited.converts c v t f1 (agrees_of p x bs c stands) (keeps_by g bs variables c.regions stands.regions) conv from_is to_is (target_typed c a v (inl well)),
            tt,
            (done, bs, Val (read_value bs r) h, awaited.passes c done t ts r f1 h stands (record { waiting = q; typed = passed; flows = ds; kept = kept }) called, keeps_passed g (awaited.operands_in k) callee before as' done operands claims, stack),
          ),
        )

    -- ---- expressions

    pub evaluate : (a : Expression) (k : List Entry) (c : Context) (t : ValueType) (f h : flow.State) (q : List ℕ) → AreOpen w.regions (ends_of k) → LiveIn k bs → IsContext p x bs c → Holds g f bs
        → (well : WellTyped c a t ⊎ IsPeek c a t) → Derives (rule q a f) h → InExpression (relied_at x.relied k) a → IsStack p g x bs (Val (looked (judgements.seen_by a well) (read_value bs t)) h) k → IsWell p (step_evaluating a k e w)
    evaluate (Number n) k c t f h q opens live stands holds (inl is) (u, same) kept stack =
        hands k (read_value bs t) (Value lives.Int) (record { kind = kinds.Int; value = values.Int n }) f h live holds same (ap (read_value bs) is) (refl, tt) (tt, tt) stack
    evaluate NullPointer k c t f h q opens live stands holds (inl is) (u, same) kept stack =
        hands k (read_value bs t) lives.Null (record { kind = kinds.Nullable; value = values.Null }) f h live holds same (ap (read_value bs) is) (refl, refl) tt stack
    evaluate HeapRegion k c t f h q opens live stands holds (inl is) (u, same) kept stack =
        hands k (read_value bs t) (Value (lives.Handle heap_life)) (record { kind = kinds.Handle; value = values.Handle 0 }) f h live holds same (ap (read_value bs) is) (refl, refl) (tt, tt) stack
    evaluate (Counter l) k c t f h q opens live stands holds (inl (less, is)) (u, same) kept stack =
        let (index, counted) = among_level e (stands.counters l less) bound in
        subst (λ o. IsWell p (counts o k e w)) (sym counted)
        (hands k (read_value bs t) (Value lives.Int) (record { kind = kinds.Int; value = values.Int index }) f h live holds same (ap (read_value bs) is) (refl, tt) (tt, tt) stack)
    evaluate (Copy (Local place n) u) k c t f h q opens live stands holds (inl ((has, there), moved, same)) (demands, known) kept stack =
        copies p g x bs e w typed globals bound variables k c n u t f h opens live stands holds has (not-true (is_vacant (fullness f n)) demands.0) moved (subst (λ z. Implies f z) (sym known) (implies_self f)) same stack
    evaluate (Copy (Global n) u) k c t f h q opens live stands holds (inl (there, moved, same)) (demands, known) kept stack =
        from_global p g x bs e w typed globals bound variables k c n u t h opens live stands (subst (λ z. Holds g z bs) (sym known) holds) there moved same stack
    evaluate (Move place n u) k c t f h q opens live stands holds (inl ((has, there), moved, same)) (demands, known) kept stack =
        moves p g x bs e w typed globals bound variables k c n u f opens live stands holds has moved (used_full f n demands.0 demands.1.0) kept
        (subst (λ z. IsStack p g x bs (Val z (with_fullness Vacant f n)) k) (ap (read_value bs) same) (subst (λ z. IsStack p g x bs (Val (read_value bs t) z) k) known stack))
    evaluate (Peek place n u) k c t f h q opens live stands holds (inr ((has, there), unique, same)) (demands, known) kept stack =
        peeks p g x bs e w typed globals bound variables k c n u t f h opens live stands holds has unique (used_full f n demands.0 demands.1.0) (subst (λ z. Implies f z) (sym known) (implies_self f)) same stack
    evaluate (Call callee as' u) k c t f h q opens live stands holds (inl (s, m, is, count, apart, passed, alive, outlive, gives_u, same)) flows kept stack =
        pass_on k callee [] [] as' (map (substituted_ty m) s.parameters) c (result_type (option_map (substituted_ty m) s.result)) f h q live stands holds passed flows kept tt tt
        (called_is x bs c callee s m stands is apart globals.constraints alive outlive) (subst (λ z. IsStack p g x bs (Val (read_value bs z) h) k) (same ∙ gives_u) stack)
    evaluate (Unary unary.Not a) k c t f h q opens live stands holds (inl (v, (well, is_tested'), same)) flows kept stack =
        on (Evaluating a) (Needs (Operate unary.Not) ∷ k) live (
          c,
          v,
          f,
          h,
          stands,
          holds,
          record { waiting = q; typed = well; flows = flows; kept = kept },
          ([], bs, Val (Value lives.Int) h, awaited.denies (judgements.seen_by a well) v h is_tested', tt, subst (λ z. IsStack p g x bs (Val (read_value bs z) h) k) same stack),
        )
    evaluate (Unary unary.Negate a) k c t f h q opens live stands holds (inl (v, (well, int), same)) flows kept stack =
        on (Evaluating a) (Needs (Operate unary.Negate) ∷ k) live (
          c,
          types.Value types.Int,
          f,
          h,
          stands,
          holds,
          record { waiting = q; typed = inl (subst (λ z. WellTyped c a z) int well); flows = flows; kept = kept },
          ([], bs, Val (Value lives.Int) h, awaited.negates h, tt, subst (λ z. IsStack p g x bs (Val (read_value bs z) h) k) same stack),
        )
    evaluate (Unary unary.Complement a) k c t f h q opens live stands holds (inl (v, (well, int), same)) flows kept stack =
        on (Evaluating a) (Needs (Operate unary.Complement) ∷ k) live (
          c,
          types.Value types.Int,
          f,
          h,
          stands,
          holds,
          record { waiting = q; typed = inl (subst (λ z. WellTyped c a z) int well); flows = flows; kept = kept },
          ([], bs, Val (Value lives.Int) h, awaited.complements h, tt, subst (λ z. IsStack p g x bs (Val (read_value bs z) h) k) same stack),
        )
    evaluate (Unary unary.Widen a) k c t f h q opens live stands holds (inl (v, (well, int), same)) flows kept stack =
        on (Evaluating a) (Needs (Operate unary.Widen) ∷ k) live (
          c,
          types.Value types.Char,
          f,
          h,
          stands,
          holds,
          record { waiting = q; typed = inl (subst (λ z. WellTyped c a z) int well); flows = flows; kept = kept },
          ([], bs, Val (Value lives.Int) h, awaited.widens h, tt, subst (λ z. IsStack p g x bs (Val (read_value bs z) h) k) same stack),
        )
    evaluate (Unary unary.LowByte a) k c t f h q opens live stands holds (inl (v, (well, int), same)) flows kept stack =
        on (Evaluating a) (Needs (Operate unary.LowByte) ∷ k) live (
          c,
          types.Value types.Int,
          f,
          h,
          stands,
          holds,
          record { waiting = q; typed = inl (subst (λ z. WellTyped c a z) int well); flows = flows; kept = kept },
          ([], bs, Val (Value lives.Char) h, awaited.narrows h, tt, subst (λ z. IsStack p g x bs (Val (read_value bs z) h) k) same stack),
        )
    evaluate (Binary a os u) k c t f h q opens live stands holds (inl (v, left, chain, same)) (f1, d, ds) (one, kept) stack =
        on (Evaluating a) (Needs (Chain os) ∷ k) live (
          c,
          v,
          f,
          f1,
          stands,
          holds,
          record { waiting = q; typed = left_typed (relied_at x.relied k) (WellTyped c a v) c a v os kept left; flows = d; kept = one },
          (
            [],
            bs,
            Val (Value (read bs u)) h,
            awaited.chains (judgements.seen_by a (left_typed (relied_at x.relied k) (WellTyped c a v) c a v os kept left)) c v u f1 h stands (record { waiting = q; typed = chain; flows = ds; kept = kept })
                (left_chained (relied_at x.relied k) (WellTyped c a v) c a v os kept left (read_value bs v)),
            tt,
            subst (λ z. IsStack p g x bs (Val (read_value bs z) h) k) same stack,
          ),
        )
    evaluate (Assign (Local place n) (Convert from to a) u) k c t f h q opens live stands holds (inl (v, r, (m, has, region, there), (s, well, conv, from_is, to_is), gives_u, same)) (f1, d, (demands, known)) (assigns, kept) stack =
        let bound_is = bound_to (lives_in bs) c.locals bs n v m stands.scope (place_local c.locals n v m has) in
        let b = bound_is.bound in
        let among = bound_is.among in
        let number = bound_is.number in
        let of_type = bound_is.of_type in
        let spared : b.is_hidden ≡ true → IsSpared (relied_at x.relied k) b.number = (λ hides. subst (λ i. IsSpared (relied_at x.relied k) i) (sym number) (moved_spared (relied_at x.relied k) place n v u gives_u (sym bound_is.hidden ∙ hides) assigns)) in
        let at : e.locals n ≡ Some b.object = ap e.locals (sym number) ∙ among_bound e among bound in
        let known_is : h ≡ with_fullness Full f1 b.number = known ∙ ap (λ i. with_fullness Full f1 i) (sym number) in
        subst (λ o. IsWell p (assigned o (Convert from to a) k e w)) (sym at) (
        on (Evaluating a) (Needs (ConvertTo from to (target_by a)) ∷ Needs (Store (values.Thin b.object 0)) ∷ k) live (
          c,
          s,
          f,
          f1,
          stands,
          holds,
          record { waiting = q; typed = inl well; flows = d; kept = kept },
          (
            [],
            bs,
            Val (Value (read bs v)) f1,
            awaited.converts c s v f1 (agrees_of p x bs c stands) (keeps_by g bs variables c.regions stands.regions) conv from_is to_is (target_typed c a s (inl well)),
            tt,
            (
              [],
              bs,
              Val (read_value bs (assigned_type v)) (with_fullness Full f1 b.number),
              awaited.stores_local b v f1 among of_type spared,
              tt,
              subst (λ z. IsStack p g x bs (Val (read_value bs (assigned_type v)) z) k) known_is (subst (λ z. IsStack p g x bs (Val (read_value bs z) h) k) (same ∙ gives_u) stack),
            ),
          ),
        ))
    evaluate (Assign (Global n) (Convert from to a) u) k c t f h q opens live stands holds (inl (v, r, (region, there), (s, well, conv, from_is, to_is), gives_u, same)) (f1, d, (demands, known)) (assigns, kept) stack =
        on (Evaluating a) (Needs (ConvertTo from to (target_by a)) ∷ Needs (Store (values.Thin n 0)) ∷ k) live (
          c,
          s,
          f,
          f1,
          stands,
          holds,
          record { waiting = q; typed = inl well; flows = d; kept = kept },
          (
            [],
            bs,
            Val (Value (read bs v)) f1,
            awaited.converts c s v f1 (agrees_of p x bs c stands) (keeps_by g bs variables c.regions stands.regions) conv from_is to_is (target_typed c a s (inl well)),
            tt,
            (
              [],
              bs,
              Val (read_value bs (assigned_type v)) f1,
              awaited.stores_global n v f1 (global_there p g x bs e w typed globals bound variables n v c stands there).0 (global_there p g x bs e w typed globals bound variables n v c stands there).1,
              tt,
              subst (λ z. IsStack p g x bs (Val (read_value bs (assigned_type v)) z) k) known (subst (λ z. IsStack p g x bs (Val (read_value bs z) h) k) (same ∙ gives_u) stack),
            ),
          ),
        )
    evaluate (Load d) k c t f h q opens live stands holds (inl (u, r, cell, plain, unique, same)) flows kept stack =
        on (Locating d) (NeedsPlace (LoadFrom (values.kind_of (type_of_place d))) ∷ k) live (
          c,
          u,
          r,
          f,
          h,
          stands,
          holds,
          record { waiting = q; typed = cell; flows = flows; kept = kept },
          (
            Val (Value (read bs u)) h,
            awaited.loads_from (peek_after d) u r h (there_of p x bs c stands r (cell_live c d u r cell)) (unique_by_type g bs variables u unique) plain (ap values.kind_of (sym (place_type c d u r cell))),
            tt,
            subst (λ z. IsStack p g x bs (Val (read_value bs z) h) k) same stack,
          ),
        )
    evaluate (AddressOf (Global n) u) k c t f h q opens live stands holds (inl (v, r, (region, has), plain, u_is, same)) (unit, known) kept stack =
        let (there, means) = global_there p g x bs e w typed globals bound variables n v c stands has in
        let (at, full, closed) = globals.globals n v there in
        let part = part_at g w typed n (global_type (lives.at as_heap v)) (lives.at as_heap v) 0 at refl full in
        let common = region_common g bs variables r (λ same. let z : regions.Heap ≡ regions.Unique = sym region ∙ same in absurd (cc)) in
        let is : read_value bs t ≡ Value (lives.Pointer marks.NonNull (lives.at as_heap v) (lives_in bs r)) =
        ap (read_value bs) (same ∙ ap types.Value u_is) ∙ ap (λ z. Value (lives.Pointer marks.NonNull z (lives_in bs r))) means in
        hands k (read_value bs t) (Value (lives.Pointer marks.NonNull (lives.at as_heap v) (lives_in bs r))) (record { kind = kinds.NonNull; value = values.Thin n 0 }) f h live holds known
        is (refl, (global_type (lives.at as_heap v), at, refl, with_globals (lives_in bs r), part))
        (plain_claims g.own (Hand (awaited.operands_in k)) (lives.Pointer marks.NonNull (lives.at as_heap v) (lives_in bs r)) (values.Thin n 0) (pointer_plain marks.NonNull (lives.at as_heap v) (lives_in bs r) common)) stack
    evaluate (AddressOf (Local place n) u) k c t f h q opens live stands holds (inl (v, r, (m, has, region, there), plain, u_is, same)) (demands, known) kept stack =
        let l = bound_to (lives_in bs) c.locals bs n v m stands.scope (place_local c.locals n v m has) in
        let b = l.bound in
        let at : e.locals n ≡ Some b.object = ap e.locals (sym l.number) ∙ among_bound e l.among bound in
        let full : IsFull g b.object = among_set g f l.among holds.1 (subst (λ m. IsSet f m) (sym l.number) (not-true (is_vacant (fullness f n)) demands.0)) in
        let life : b.life ≡ lives_in bs r = l.life ∙ ap (lives_in bs) (sym region) in
        let y = local_type g.depth b in
        let part = part_at g w typed b.object y (read bs v) 0 (among_variable g l.among variables) (ap (λ z. Some z) l.of_type) full in
        let common = region_common g bs variables r (λ same. let z : regions.Variable m ≡ regions.Unique = sym region ∙ same in absurd (cc)) in
        subst (λ o. IsWell p (addressed o k e w)) (sym at)
        (hands k (read_value bs t) (Value (lives.Pointer marks.NonNull (read bs v) (lives_in bs r))) (record { kind = kinds.NonNull; value = values.Thin b.object 0 }) f h live holds known
        (ap (read_value bs) (same ∙ ap types.Value u_is))
        (refl, (y, among_variable g l.among variables, l.hidden ∙ plain, subst (λ z. Outlasts (life_at b.object z) (lives_in bs r)) (sym life) (lasts_itself b.object (lives_in bs r)), part))
        (plain_claims g.own (Hand (awaited.operands_in k)) (lives.Pointer marks.NonNull (read bs v) (lives_in bs r)) (values.Thin b.object 0) (pointer_plain marks.NonNull (read bs v) (lives_in bs r) common)) stack)
    evaluate (AddressOfCell d u) k c t f h q opens live stands holds (inl (v, r, cell, plain, other, u_is, same)) flows kept stack =
        on (Locating d) (NeedsPlace TakeAddress ∷ k) live (
          c,
          v,
          r,
          f,
          h,
          stands,
          holds,
          record { waiting = q; typed = cell; flows = flows; kept = kept },
          (
            Val (Value (lives.Pointer marks.NonNull (read bs v) (lives_in bs r))) h,
            awaited.takes_address (peek_after d) (read bs v) (lives_in bs r) h (region_common g bs variables r other),
            tt,
            subst (λ z. IsStack p g x bs (Val (read_value bs z) h) k) (same ∙ ap types.Value u_is) stack,
          ),
        )
    evaluate (NumberOfElements a) k c t f h q opens live stands holds (inl (u, r, well, same)) flows kept stack =
        on (Evaluating a) (Needs CountElements ∷ k) live (
          c,
          types.Value (types.Pointer marks.Fat u r),
          f,
          h,
          stands,
          holds,
          record { waiting = q; typed = well; flows = flows; kept = kept },
          ([], bs, Val (Value lives.Int) h, awaited.counts_elements (judgements.seen_by a well) (read bs u) (lives_in bs r) h, tt, subst (λ z. IsStack p g x bs (Val (read_value bs z) h) k) same stack),
        )
    evaluate (typed'.Store d (Convert from to a) u) k c t f h q opens live stands holds (inl (v, r, cell, (s, well, conv, from_is, to_is), gives_u, same)) (f1, dp, dc) (kd, kc) stack =
        on (Locating d) (NeedsPlace (StoreTo (peeked d) (Convert from to a)) ∷ k) live (
          c,
          v,
          r,
          f,
          f1,
          stands,
          holds,
          record { waiting = q; typed = cell; flows = dp; kept = kd },
          (
            Val (read_value bs (assigned_type v)) h,
            subst (λ o. awaited.WaitsPlace p x (relied_at x.relied k) bs (StoreTo (peeked d) (Convert from to a)) o (read bs v) (lives_in bs r) f1 (Val (read_value bs (assigned_type v)) h)) (peeked_so d)
                (awaited.stores_to c s v r f1 h (there_of p x bs c stands r (cell_live c d v r cell)) stands (λ reached. (
                  record {
                    waiting = and_peeked (peek_after d) q;
                    typed = inl well;
                    flows = dc;
                    kept = subst (λ o. InExpression (and_looked o (relied_at x.relied k)) a) (sym (peeked_so d)) (looked_converted (relied_at x.relied k) (peek_after d) (Convert from to a) q f1 h reached dc kc);
                  },
                  refl,
                )) conv from_is to_is),
            tt,
            subst (λ z. IsStack p g x bs (Val (read_value bs z) h) k) (same ∙ gives_u) stack,
          ),
        )
    evaluate (New OnHeap i u) k c t f h q opens live stands holds (inl (m, v, r, region, made, u_is, same)) (f1, (unit, known), di) kept stack =
        makes_on p g x bs e w typed globals bound variables i (InRegion heap_number) k c m v regions.Heap f1 h q opens live stands (subst (λ z. Holds g z bs) (sym known) holds) tt refl made di kept.1
        (subst (λ z. IsStack p g x bs (Val (read_value bs z) h) k) (same ∙ ap types.Value (u_is ∙ ap (λ z. types.Pointer m v z) region)) stack)
    evaluate (New AsUnique i u) k c t f h q opens live stands holds (inl (m, v, r, region, made, u_is, same)) (f1, (unit, known), di) kept stack =
        makes_on p g x bs e w typed globals bound variables i (Unique true) k c m v regions.Unique f1 h q opens live stands (subst (λ z. Holds g z bs) (sym known) holds) tt tt made di kept.1
        (subst (λ z. IsStack p g x bs (Val (read_value bs z) h) k) (same ∙ ap types.Value (u_is ∙ ap (λ z. types.Pointer m v z) region)) stack)
    evaluate (New (ByHandle a) i u) k c t f h q opens live stands holds (inl (m, v, r, (well, alive), made, u_is, same)) (f1, d, di) (ka, ki) stack =
        on (Evaluating a) (Needs (PlaceBy i) ∷ k) live (
          c,
          types.Value (types.Handle r),
          f,
          f1,
          stands,
          holds,
          record { waiting = q; typed = inl well; flows = d; kept = ka },
          (
            [],
            bs,
            Val (Value (lives.Pointer m (read bs v) (lives_in bs r))) h,
            awaited.places_by c m v r f1 h stands (record { waiting = q; typed = made; flows = di; kept = ki }) (there_of p x bs c stands r alive),
            tt,
            subst (λ z. IsStack p g x bs (Val (read_value bs z) h) k) (same ∙ ap types.Value u_is) stack,
          ),
        )
    evaluate (FreeUnique a) k c t f h q opens live stands holds (inl (m, u, well, same)) flows kept stack =
        on (Evaluating a) (Needs FreeObject ∷ k) live (
          c,
          types.Value (types.Pointer m u regions.Unique),
          f,
          h,
          stands,
          holds,
          record { waiting = q; typed = inl well; flows = flows; kept = kept },
          ([], bs, Go h, awaited.frees_object m (read bs u) h, tt, void_goes p g x bs h (read_value bs t) k (ap (read_value bs) same) stack),
        )
    evaluate (FreeKey a) k c t f h q opens live stands holds (inl (r, well, same)) flows kept stack =
        on (Evaluating a) (Needs CloseByKey ∷ k) live (
          c,
          types.Value (types.Key r),
          f,
          h,
          stands,
          holds,
          record { waiting = q; typed = inl well; flows = flows; kept = kept },
          ([], bs, Go h, awaited.closes_by_key r h, tt, void_goes p g x bs h (read_value bs t) k (ap (read_value bs) same) stack),
        )
    evaluate (Peek place n u) k c t f h q opens live stands holds (inl is) flows kept stack = absurd is
    evaluate a k c t f h q opens live stands holds (inr is) flows kept stack = absurd is
