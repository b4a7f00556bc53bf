-- This file is about unwinding the control stack one continuation frame after the other: normally, by `break`, `continue` and
-- `return`, and by an exception.
use Rattle.std.proofs.Common.{◌≡◌, ◌≤◌, ℕ, zero, suc, arith, Bool, true, false, List, [], ◌∷◌, Option, Some, None, refl, sym, ap, subst, ◌∙◌, slice_get}
use Rattle.std.proofs.lemmas.Option.{same_Some}
use Rattle.cyc_types.specs.Types.{Ty, ValueType}
use Rattle.cyc_types.specs.Types as types
use Rattle.cyc_types.specs.TypedTrees.{Expression, Statement, Program}
use Rattle.cyc_types.specs.flow.States as flow
use Rattle.cyc_types.specs.flow.States.{Full, is_reached, with_fullness, with_each}
use Rattle.cyc_meaning.specs.Values.{Operand, Cell}
use Rattle.cyc_meaning.specs.Values as values
use Rattle.cyc_meaning.specs.State.{World, closed, region_at, Environment, Test, Entry, Needs, NeedsPlace, Discard, Rest, Join, Loop, CloseRegion, CloseLexical, EndLoan, Handler, Caller, Main, Focus, Evaluating, Given, Proceeding, Breaking, Continuing, Returning, Throwing, Catching, Running, Object}
use Rattle.cyc_meaning.specs.Parts.{closing}
use Rattle.cyc_meaning.specs.Regions.{closing_lexical}
use Rattle.cyc_meaning.specs.inside.Nesting.{IsNested}
use Rattle.cyc_meaning.specs.Step.{step_proceeding, step_breaking, step_continuing, returned, main_returned, step_returning, step_throwing}
use Rattle.cyc_soundness.specs.inside.Lives.{Life, RunTy, RunValue, Value}
use Rattle.cyc_soundness.specs.inside.Lives as lives
use Rattle.cyc_soundness.specs.inside.Worlds.{OfLocal, Hand, At, Lent, thing_of, Claims, given, marked, handing, variable_type, Typing, HasType, IsTyped, Here, Thing, Holder, Owns, IsHere}
use Rattle.cyc_soundness.specs.inside.Frames.{InScope, Names, Home, IsBound, AreVariables, AreFullAt, LiveIn, Holds, Implies, LoopExit, Exits, HasResult, is_loop, KnowsProgram}
use Rattle.cyc_soundness.specs.inside.Judgements as judgements
use Rattle.cyc_soundness.specs.inside.Awaited.{IsLoop, Want, Nothing, Val, PlaceOf, Go, operands_in}
use Rattle.cyc_soundness.specs.inside.Awaited as awaited
use Rattle.cyc_soundness.specs.inside.Stacks.{IsLentOut, IsBlocked, IsReturn, IsStack, IsFocus, IsWell}
use Rattle.cyc_soundness.proofs.flow.FlowLemmas.{holds_implied, full_added}
use Rattle.cyc_soundness.proofs.states.StackLocals.{given_back}
use Rattle.cyc_soundness.proofs.states.StackLemmas.{none_lent, full_at_grown}
use Rattle.cyc_soundness.proofs.states.StackClaims.{void_goes, stack_changed}
use Rattle.cyc_soundness.proofs.states.StackLocals.{not_heap, lexical_not_heap, within_bound, within_variables, within_live, within_holds, found_is, waits_within}
use Rattle.cyc_soundness.proofs.states.WorldLemmas.{closed_typed, result_grown, typed_cell}
use Rattle.cyc_soundness.proofs.states.Hands.{Changed, at_not_lent, given_now, marked_now, handing_changed, away_same}
use Rattle.cyc_soundness.proofs.states.StillHands.{alone_comes, returned_typed}
use Rattle.cyc_soundness.proofs.states.Hands.{alone_kept, variables_kept}
use Rattle.cyc_soundness.proofs.states.CallHands.{hands_globals, moment_grows, moment_typed, moment_globals, holds_lent}
use Rattle.cyc_soundness.proofs.states.Cells.{running}
use Rattle.cyc_soundness.proofs.steps.Execution.{continue_with}

never_loop : (o : Option LoopExit) (l : LoopExit) → is_loop o ≡ false → o ≡ Some l → ⊥
never_loop o l none same = let z : true ≡ false = subst (λ u. is_loop u ≡ false) same none in absurd (cc)

module _ (p : Program) (g : Typing) (e : Environment) (w : World) (typed : IsTyped g w.regions w.objects) (globals : KnowsProgram g p) where
  module _ (x : Exits) (bs : List InScope) (bound : IsBound e.locals e.counters bs) (variables : AreVariables g bs) where
    on : (focus : Focus) (k : List Entry) → LiveIn k bs → IsFocus p g x bs focus k → IsWell p (Running focus k e w)
    on focus k live stands = running p g x bs e w typed globals bound variables focus k live stands

    -- A region is closed, and the name of the region leaves the scope.
    closes : (focus : Focus) (region home number : ℕ) (l : Life) (alive : Bool) (k : List Entry) (cs : List InScope) → bs ≡ Home region ∷ Names number l alive ∷ cs → IsNested (CloseRegion region home ∷ k) e w → LiveIn k cs
        → IsFocus p g x cs focus k → IsWell p (closing (region_at w region) focus region home k e w)
    closes focus region home number l alive k cs same nests live stands =
        let (r, found) = found_is (region_at w region) nests.0.0 in
        let (u, (v, outer)) = subst (λ z. IsBound e.locals e.counters z) same bound in
        let (u2, (v2, outside)) = subst (λ z. AreVariables g z) same variables in
        subst (λ a. IsWell p (closing a focus region home k e w)) (sym found)
        (running p g x cs (record e { home = home }) (closed w region r) (closed_typed g w.regions region (record r { is_open = false }) w.objects (not_heap region home k e w nests) nests.0.0 typed) globals outer outside focus k live stands)

    outside_holds : (f : flow.State) (region number : ℕ) (l : Life) (alive : Bool) (cs : List InScope) → bs ≡ Home region ∷ Names number l alive ∷ cs → Holds g f bs → Holds g f cs
    outside_holds f region number l alive cs same holds = let (reached, (u, (v, are))) = subst (λ z. Holds g f z) same holds in (reached, are)

    closes_lexical : (focus : Focus) (region : ℕ) (k : List Entry) → IsNested (CloseLexical region ∷ k) e w → LiveIn k bs → IsFocus p g x bs focus k → IsWell p (closing_lexical (region_at w region) focus region k e w)
    closes_lexical focus region k nests live stands =
        let (r, found) = found_is (region_at w region) nests.0.0 in
        subst (λ a. IsWell p (closing_lexical a focus region k e w)) (sym found)
        (running p g x bs e (closed w region r) (closed_typed g w.regions region (record r { is_open = false }) w.objects (lexical_not_heap region k e w nests) nests.0.0 typed) globals bound variables focus k live stands)

    -- The state in which the condition of a loop is evaluated again satisfies the invariant of the soundness proof.
    tests_again : (condition : Expression) (body : Statement) (k : List Entry) (y : Exits) (l : LoopExit) (v : ValueType) (u h : flow.State) → LiveIn k bs → IsLoop p y bs l condition body v u h → Holds g l.head bs → IsStack p g y bs (Go h) k
        → IsWell p (Running (Evaluating condition) (Needs (Test condition body) ∷ k) e w)
    tests_again condition body k y l v u h live loop holds stack =
        running p g y bs e w typed globals bound variables (Evaluating condition) (Needs (Test condition body) ∷ k) live
        (loop.context, v, l.head, u, loop.stands, holds, loop.first, ([], bs, Go h, awaited.tests (judgements.seen_by condition loop.first.typed) l v u h loop, tt, stack))

    -- ---- the end of a loan

    -- The typing after a loan has ended: the local that lent the resource (key or unique pointer) owns it again.
    abbrev ended_typing : (j : ℕ) → Option Thing → (object : ℕ) → Typing
    ended_typing j o object = handing (record g { loans = j }) o (At object 0) object Here

    record HasEnded (lent j object : ℕ) (y : Exits) (h : flow.State) (k : List Entry) : Type 0 where
      what : Option Thing
      changed : Changed (Lent j object) (record g { loans = j }) (ended_typing j what object)
      here : IsHere (ended_typing j what object) g.depth lent object
      objects : IsTyped (ended_typing j what object) w.regions w.objects
      knows : KnowsProgram (ended_typing j what object) p
      scope : AreVariables (ended_typing j what object) bs
      stack : IsStack p (ended_typing j what object) y bs (Go h) k

    -- If the value of a lent local represents a resource (key or unique pointer), then the loan of this local owns exactly this resource.
    lent_content : (lent j : ℕ) (t : RunTy) (object : ℕ) → IsLentOut g lent j t object
        → (o : Option Thing) × Owns g.own (Lent j object) o × ((own : Thing → Holder) → Owns own (At object 0) o → (x : Object) → slice_get w.objects object ≡ Some x → (c : Cell) (v : values.Value) → slice_get x.cells 0 ≡ Some c → c.content ≡ Some v → Claims own (At object 0) t v)
    lent_content lent j t object (l, there, away) =
        let (x, m, stands, filled, is) = typed.each object (variable_type t l true (OfLocal g.depth lent)) there in
        let c = typed_cell g (t ∷ []) x.cells m 0 t is.cells refl in
        go x stands c.cell c.at c.cell.content refl
      where
        go : (x : Object) → slice_get w.objects object ≡ Some x → (c : Cell) → slice_get x.cells 0 ≡ Some c → (content : Option values.Value) → c.content ≡ content
            → (o : Option Thing) × Owns g.own (Lent j object) o × ((own : Thing → Holder) → Owns own (At object 0) o → (x : Object) → slice_get w.objects object ≡ Some x → (c : Cell) (v : values.Value) → slice_get x.cells 0 ≡ Some c → c.content ≡ Some v → Claims own (At object 0) t v)
        go x stands c at None content = (
          None,
          tt,
          λ own owns y found d v there full.
              (let same : x ≡ y = same_Some x y (sym stands ∙ found) in
              let one : c ≡ d = same_Some c d (sym at ∙ ap (λ (z : Object). slice_get z.cells 0) same ∙ there) in
              let k : None ≡ Some v = sym content ∙ ap (λ (z : Cell). z.content) one ∙ full in absurd (cc)),
        )
        go x stands c at (Some u) content =
            let claims : Claims g.own (Lent j object) t u = typed.lent object (variable_type t l true (OfLocal g.depth lent)) x there stands 0 j t c u away refl refl at content in (
              thing_of t u,
              claims.0,
              λ own owns y found d v there full.
                  (let same : x ≡ y = same_Some x y (sym stands ∙ found) in
                  let one : c ≡ d = same_Some c d (sym at ∙ ap (λ (z : Object). slice_get z.cells 0) same ∙ there) in
                  let value_is : u ≡ v = same_Some u v (sym content ∙ ap (λ (z : Cell). z.content) one ∙ full) in
                  subst (λ z. Claims own (At object 0) t z) value_is (owns, claims.1)),
            )

    ends : (lent j : ℕ) (t : RunTy) (object : ℕ) (y : Exits) (h : flow.State) (k : List Entry) → IsLentOut g lent j t object → AreVariables (record g { loans = j }) bs → IsStack p (record g { loans = j }) y bs (Go h) k → HasEnded lent j object y h k
    ends lent j t object y h k (l, there, away) scope stack =
        let m = record g { loans = j } in
        let (o, owns, claims) = lent_content lent j t object (l, there, away) in
        let its = At object 0 in
        let old = Lent j object in
        let z = ended_typing j o object in
        let le : j ≤ j = omega arith in
        let changed : Changed old m z = handing_changed m o old its object Here owns (λ e i is. ap (λ n. Lent n object) (away_same i j (sym is ∙ away))) (λ other. absurd (other refl)) in
        record {
          what = o;
          changed = changed;
          here = (marked_now object Here g.here, (variable_type t l true (OfLocal g.depth lent), there, refl));
          objects = returned_typed m o object j (variable_type t l true (OfLocal g.depth lent)) w.regions w.objects owns there (λ x stands i u c v. variable_claims z.own t x (claims z.own (given_now g.own o its) x stands) i u c v) (moment_typed g g.depth j w.regions w.objects typed);
          knows = hands_globals p m (given o its g.own) (marked object Here g.here) (moment_globals p g g.depth j globals);
          scope = variables_kept old m z changed bs (none_lent true y m k old le) scope;
          stack = stack_changed p old m z y bs (Go h) k changed le stack;
        }
      where
        variable_claims : (own : Thing → Holder) (t : RunTy) (x : Object) → ((c : Cell) (v : values.Value) → slice_get x.cells 0 ≡ Some c → c.content ≡ Some v → Claims own (At object 0) t v)
            → (i : ℕ) (u : RunTy) (c : Cell) (v : values.Value) → slice_get (t ∷ []) i ≡ Some u → slice_get x.cells i ≡ Some c → c.content ≡ Some v → Claims own (At object i) u v
        variable_claims own t x claims zero u c v found at content = subst (λ e. Claims own (At object 0) e v) (same_Some t u found) (claims c v at content)
        variable_claims own t x claims (suc i) u c v found at content = absurd (let e : None ≡ Some u = found in cc)

    -- After the end of its loan, a local is full, that is, it holds a value that is not lent.
    ended_holds : (f : flow.State) (lent j object : ℕ) (y : Exits) (h : flow.State) (k : List Entry) (z : HasEnded lent j object y h k) → AreFullAt g lent object bs → Holds g f bs → Holds (ended_typing j z.what object) (with_fullness Full f lent) bs
    ended_holds f lent j object y h k z full holds =
        let m = record g { loans = j } in
        given_back (Lent j object) m (ended_typing j z.what object) z.changed lent object (λ i. at_not_lent i 0 j object) z.here f bs
        (full_at_grown p g m (moment_grows g g.depth j) lent object bs full) (holds_lent g j f bs holds)

    -- The resource of a value that is returned is still owned by the same operand when a loan ends.
    return_other : (i j object : ℕ) (what : Option Thing) (o : Option Ty) (r : RunValue) (v : Option Operand) → Changed (Lent j object) (record g { loans = j }) (ended_typing j what object) → IsReturn g i o r v → IsReturn (ended_typing j what object) i o r v
    return_other i j object what None r None changed is = tt
    return_other i j object what None r (Some v) changed is = absurd is
    return_other i j object what (Some u) r None changed is = absurd is
    return_other i j object what (Some u) r (Some v) changed (is, has) = (
      result_grown g (ended_typing j what object) (record { objects = λ n u is. is; filled = λ n count is. is; fields = λ n ls ts is. is; kept = λ n is. is }) r v is,
      alone_kept (Lent j object) (record g { loans = j }) (ended_typing j what object) changed i r v.value (λ e. let z : Hand i ≡ Lent j object = e in absurd (cc)) has,
    )

    -- ---- unwinding to the end of a call

    pub proceed : (k : List Entry) (f : flow.State) → IsNested k e w → LiveIn k bs → Holds g f bs → IsStack p g x bs (Go f) k → IsWell p (step_proceeding k e w)
    proceed (Discard ∷ k) f nests live holds stack = on Proceeding k live (f, holds, stack)
    proceed (Rest js ∷ k) f nests live holds (cs, c, h, within, stands, rest, stack) =
        continue_with p g x bs e w typed globals bound variables js k cs c f h rest.before rest.following rest.ending nests live within stands holds rest.typed rest.flows rest.breaks (rest.kept holds.0) rest.ends stack
    proceed (Join ∷ k) f nests live holds (h, i, stack) = on Proceeding k live (h, holds_implied g f h bs i holds, stack)
    proceed (Loop condition body ∷ k) f nests live holds (y, l, v, u, h, same, loop, i, stack) = tests_again condition body k y l v u h live loop (holds_implied g f l.head bs i holds) stack
    proceed (CloseRegion region home ∷ k) f nests live holds (cs, number, l, alive, h, same, i, outer, stack) =
        closes Proceeding region home number l alive k cs same nests outer (h, holds_implied g f h cs i (outside_holds f region number l alive cs same holds), stack)
    proceed (CloseLexical region ∷ k) f nests live holds (h, i, outer, stack) = closes_lexical Proceeding region k nests outer (h, holds_implied g f h bs i holds, stack)
    proceed (EndLoan lent ∷ k) f nests live holds (y, h, j, t, object, same, loans, claims, i, full, scope, stack) =
        let z = ends lent j t object y h k claims scope stack in
        running p (ended_typing j z.what object) y bs e w z.objects z.knows bound z.scope Proceeding k live
        (h, holds_implied (ended_typing j z.what object) (with_fullness Full f lent) h bs i (ended_holds f lent j object y h k z full holds), z.stack)
    proceed (Handler cs ∷ k) f nests live holds (y, c, start, h, same, stands, known, catches, i, stack) =
        running p g y bs e w typed globals bound variables Proceeding k live (h, holds_implied g f h bs i holds, stack)
    proceed (Caller outer ∷ k) f nests live holds (y, cs, h, d, depth, loop, blocked, gives, bound', variables', live', holds', stack) = go x.result refl
      where
        go : (o : Option Ty) → x.result ≡ o → IsWell p (Running Proceeding k outer w)
        go None same = running p (record g { depth = d }) y cs outer w (moment_typed g d g.loans w.regions w.objects typed) (moment_globals p g d g.loans globals) bound' variables' Proceeding k live'
            (h, holds', void_goes p (record g { depth = d }) y cs h x.gives k (subst (λ z. HasResult z x.gives) same gives) stack)
        go (Some t) same = let blocked_is : is_reached f ≡ false = subst (λ z. IsBlocked z f) same blocked in let z : true ≡ false = sym holds.0 ∙ blocked_is in absurd (cc)
    proceed (Main ∷ k) f nests live holds (loop, int, gives, blocked, stack) = let z : true ≡ false = sym holds.0 ∙ blocked in absurd (cc)
    proceed k f nests live holds stack = absurd stack

    -- ---- unwinding to the enclosing loop

    pub breaks : (k : List Entry) (l : LoopExit) (f h : flow.State) → IsNested k e w → LiveIn k bs → x.loop ≡ Some l → Holds g f bs → Implies (with_each Full x.locks f) l.breaks → IsStack p g x bs (Go h) k → IsWell p (step_breaking k e w)
    breaks (Discard ∷ k) l f h nests live same holds left stack = on Breaking k live (l, f, h, same, holds, left, stack)
    breaks (Rest js ∷ k) l f h nests live same holds left (cs, c, i, within, stands, rest, stack) =
        running p g x cs e w typed globals (within_bound e cs bs within bound) (within_variables g cs bs within variables) Breaking k (within_live k cs bs within live)
        (l, f, i, same, within_holds g f cs bs within holds, left, stack)
    breaks (Join ∷ k) l f h nests live same holds left (i, implies, stack) = on Breaking k live (l, f, i, same, holds, left, stack)
    breaks (Loop condition body ∷ k) l f h nests live same holds left (y, m, v, u, i, around_is, loop, implies, stack) =
        let one : m ≡ l = same_Some m l (sym (ap (λ (z : Exits). z.loop) around_is) ∙ same) in
        let none : Implies f l.breaks = subst (λ ns. Implies (with_each Full ns f) l.breaks) (ap (λ (z : Exits). z.locks) around_is) left in
        let now : Holds g m.breaks bs = subst (λ (z : LoopExit). Holds g z.breaks bs) (sym one) (holds_implied g f l.breaks bs none holds) in
        running p g y bs e w typed globals bound variables Proceeding k live (i, holds_implied g m.breaks i bs loop.left now, stack)
    breaks (CloseRegion region home ∷ k) l f h nests live same holds left (cs, number, m, alive, i, bs_are, implies, outer, stack) =
        closes Breaking region home number m alive k cs bs_are nests outer (l, f, i, same, outside_holds f region number m alive cs bs_are holds, left, stack)
    breaks (CloseLexical region ∷ k) l f h nests live same holds left (i, implies, outer, stack) = closes_lexical Breaking region k nests outer (l, f, i, same, holds, left, stack)
    breaks (EndLoan lent ∷ k) l f h nests live same holds left (y, i, j, t, object, lent_is, loans, claims, implies, full, scope, stack) =
        let z = ends lent j t object y i k claims scope stack in
        let locks : with_each Full x.locks f ≡ with_each Full y.locks (with_fullness Full f lent) = ap (λ (z : Exits). with_each Full z.locks f) lent_is ∙ full_added lent y.locks f in
        running p (ended_typing j z.what object) y bs e w z.objects z.knows bound z.scope Breaking k live
        (l, with_fullness Full f lent, i, sym (ap (λ (z : Exits). z.loop) lent_is) ∙ same, ended_holds f lent j object y i k z full holds, subst (λ z. Implies z l.breaks) locks left, z.stack)
    breaks (Handler cs ∷ k) l f h nests live same holds left (y, c, start, i, relies, stands, known, catches, implies, stack) =
        running p g y bs e w typed globals bound variables Breaking k live
        (l, f, i, sym (ap (λ (z : Exits). z.loop) relies) ∙ same, holds, subst (λ ns. Implies (with_each Full ns f) l.breaks) (ap (λ (z : Exits). z.locks) relies) left, stack)
    breaks (Caller outer ∷ k) l f h nests live same holds left (y, cs, i, d, depth, loop, blocked, gives, bound', variables', live', holds', stack) = absurd (never_loop x.loop l loop same)
    breaks (Main ∷ k) l f h nests live same holds left (loop, int, gives, blocked, stack) = absurd (never_loop x.loop l loop same)
    breaks k l f h nests live same holds left stack = absurd stack

    pub continues : (k : List Entry) (l : LoopExit) (f h : flow.State) → IsNested k e w → LiveIn k bs → x.loop ≡ Some l → Holds g f bs → Implies (with_each Full x.locks f) l.head → IsStack p g x bs (Go h) k → IsWell p (step_continuing k e w)
    continues (Discard ∷ k) l f h nests live same holds left stack = on Continuing k live (l, f, h, same, holds, left, stack)
    continues (Rest js ∷ k) l f h nests live same holds left (cs, c, i, within, stands, rest, stack) =
        running p g x cs e w typed globals (within_bound e cs bs within bound) (within_variables g cs bs within variables) Continuing k (within_live k cs bs within live)
        (l, f, i, same, within_holds g f cs bs within holds, left, stack)
    continues (Join ∷ k) l f h nests live same holds left (i, implies, stack) = on Continuing k live (l, f, i, same, holds, left, stack)
    continues (Loop condition body ∷ k) l f h nests live same holds left (y, m, v, u, i, around_is, loop, implies, stack) =
        let one : m ≡ l = same_Some m l (sym (ap (λ (z : Exits). z.loop) around_is) ∙ same) in
        let none : Implies f l.head = subst (λ ns. Implies (with_each Full ns f) l.head) (ap (λ (z : Exits). z.locks) around_is) left in
        let now : Holds g m.head bs = subst (λ (z : LoopExit). Holds g z.head bs) (sym one) (holds_implied g f l.head bs none holds) in
        tests_again condition body k y m v u i live loop now stack
    continues (CloseRegion region home ∷ k) l f h nests live same holds left (cs, number, m, alive, i, bs_are, implies, outer, stack) =
        closes Continuing region home number m alive k cs bs_are nests outer (l, f, i, same, outside_holds f region number m alive cs bs_are holds, left, stack)
    continues (CloseLexical region ∷ k) l f h nests live same holds left (i, implies, outer, stack) = closes_lexical Continuing region k nests outer (l, f, i, same, holds, left, stack)
    continues (EndLoan lent ∷ k) l f h nests live same holds left (y, i, j, t, object, lent_is, loans, claims, implies, full, scope, stack) =
        let z = ends lent j t object y i k claims scope stack in
        let locks : with_each Full x.locks f ≡ with_each Full y.locks (with_fullness Full f lent) = ap (λ (z : Exits). with_each Full z.locks f) lent_is ∙ full_added lent y.locks f in
        running p (ended_typing j z.what object) y bs e w z.objects z.knows bound z.scope Continuing k live
        (l, with_fullness Full f lent, i, sym (ap (λ (z : Exits). z.loop) lent_is) ∙ same, ended_holds f lent j object y i k z full holds, subst (λ z. Implies z l.head) locks left, z.stack)
    continues (Handler cs ∷ k) l f h nests live same holds left (y, c, start, i, relies, stands, known, catches, implies, stack) =
        running p g y bs e w typed globals bound variables Continuing k live
        (l, f, i, sym (ap (λ (z : Exits). z.loop) relies) ∙ same, holds, subst (λ ns. Implies (with_each Full ns f) l.head) (ap (λ (z : Exits). z.locks) relies) left, stack)
    continues (Caller outer ∷ k) l f h nests live same holds left (y, cs, i, d, depth, loop, blocked, gives, bound', variables', live', holds', stack) = absurd (never_loop x.loop l loop same)
    continues (Main ∷ k) l f h nests live same holds left (loop, int, gives, blocked, stack) = absurd (never_loop x.loop l loop same)
    continues k l f h nests live same holds left stack = absurd stack

    -- ---- returning to the caller

    main_on : (i : ℕ) (v : Option Operand) → IsReturn g i (Some types.Int) (Value lives.Int) v → IsWell p (main_returned v w)
    main_on i None is = absurd is
    main_on i (Some v) is = go v.value is.0.1
      where
        go : (value : values.Value) → HasType g lives.Int value → IsWell p (main_returned (Some (record v { value = value })) w)
        go (values.Int word) has = tt
        go value has = absurd has

    pub returns_on : (k : List Entry) (v : Option Operand) (f : flow.State) → IsNested k e w → LiveIn k bs → IsReturn g (operands_in k) x.result x.gives v → IsStack p g x bs (Go f) k → IsWell p (step_returning v k e w)
    returns_on (Discard ∷ k) v f nests live is stack = on (Returning v) k live (f, is, stack)
    returns_on (Rest js ∷ k) v f nests live is (cs, c, h, within, stands, rest, stack) =
        running p g x cs e w typed globals (within_bound e cs bs within bound) (within_variables g cs bs within variables) (Returning v) k (within_live k cs bs within live) (h, is, stack)
    returns_on (Join ∷ k) v f nests live is (h, i, stack) = on (Returning v) k live (h, is, stack)
    returns_on (Loop condition body ∷ k) v f nests live is (y, m, t, u, h, around_is, loop, i, stack) =
        running p g y bs e w typed globals bound variables (Returning v) k live (h, subst (λ (z : Exits). IsReturn g (operands_in k) z.result z.gives v) around_is is, stack)
    returns_on (CloseRegion region home ∷ k) v f nests live is (cs, number, l, alive, h, same, i, outer, stack) = closes (Returning v) region home number l alive k cs same nests outer (h, is, stack)
    returns_on (CloseLexical region ∷ k) v f nests live is (h, i, outer, stack) = closes_lexical (Returning v) region k nests outer (h, is, stack)
    returns_on (EndLoan lent ∷ k) v f nests live is (y, h, j, t, object, lent_is, loans, claims, i, full, scope, stack) =
        let z = ends lent j t object y h k claims scope stack in
        running p (ended_typing j z.what object) y bs e w z.objects z.knows bound z.scope (Returning v) k live
        (h, return_other (operands_in k) j object z.what y.result y.gives v z.changed (subst (λ (z : Exits). IsReturn g (operands_in k) z.result z.gives v) lent_is is), z.stack)
    returns_on (Handler cs ∷ k) v f nests live is (y, c, start, h, relies, stands, known, catches, i, stack) =
        running p g y bs e w typed globals bound variables (Returning v) k live (h, subst (λ (z : Exits). IsReturn g (operands_in k) z.result z.gives v) relies is, stack)
    returns_on (Caller outer ∷ k) v f nests live is (y, cs, h, d, depth, loop, blocked, gives, bound', variables', live', holds', stack) = go x.result v refl is
      where
        back : (focus : Focus) → IsFocus p (record g { depth = d }) y cs focus k → IsWell p (Running focus k outer w)
        back focus stands = running p (record g { depth = d }) y cs outer w (moment_typed g d g.loans w.regions w.objects typed) (moment_globals p g d g.loans globals) bound' variables' focus k live' stands

        go : (o : Option Ty) (v : Option Operand) → x.result ≡ o → IsReturn g (operands_in k) o x.gives v → IsWell p (returned v k outer w)
        go None None same is = back Proceeding (h, holds', void_goes p (record g { depth = d }) y cs h x.gives k (subst (λ z. HasResult z x.gives) same gives) stack)
        go None (Some v) same is = absurd is
        go (Some t) None same is = absurd is
        go (Some t) (Some v) same (is, comes) = back (Given v) (x.gives, h, holds', result_grown g (record g { depth = d }) (moment_grows g d g.loans) x.gives v is, alone_comes (record g { depth = d }) (operands_in k) x.gives v.value comes, stack)
    returns_on (Main ∷ k) v f nests live is (loop, int, gives, blocked, stack) = main_on (operands_in k) v (subst (λ z. IsReturn g (operands_in k) (Some types.Int) z v) gives (subst (λ z. IsReturn g (operands_in k) z x.gives v) int is))
    returns_on k v f nests live is stack = absurd stack

    -- ---- unwinding to a `try`

    pub throws_on : (k : List Entry) (tag value : ℕ) (want : Want) → IsNested k e w → LiveIn k bs → IsStack p g x bs want k → IsWell p (step_throwing tag value k e w)
    throws_on [] tag value want nests live stack = tt
    throws_on (Needs a ∷ k) tag value (Val r f) nests live (ts, cs, next, waits, are, stack) =
        let within = waits_within waits in
        running p g x cs e w typed globals (within_bound e cs bs within bound) (within_variables g cs bs within variables) (Throwing tag value) k (within_live k cs bs within live) (next, stack)
    throws_on (NeedsPlace a ∷ k) tag value (PlaceOf peek t l f) nests live (next, waits, keeps, stack) = on (Throwing tag value) k live (next, stack)
    throws_on (Discard ∷ k) tag value (Val r f) nests live stack = on (Throwing tag value) k live (Go f, stack)
    throws_on (Discard ∷ k) tag value (Go f) nests live stack = on (Throwing tag value) k live (Go f, stack)
    throws_on (Rest js ∷ k) tag value (Go f) nests live (cs, c, h, within, stands, rest, stack) =
        running p g x cs e w typed globals (within_bound e cs bs within bound) (within_variables g cs bs within variables) (Throwing tag value) k (within_live k cs bs within live) (Go h, stack)
    throws_on (Join ∷ k) tag value (Go f) nests live (h, i, stack) = on (Throwing tag value) k live (Go h, stack)
    throws_on (Loop condition body ∷ k) tag value (Go f) nests live (y, m, t, u, h, around_is, loop, i, stack) =
        running p g y bs e w typed globals bound variables (Throwing tag value) k live (Go h, stack)
    throws_on (CloseRegion region home ∷ k) tag value (Go f) nests live (cs, number, l, alive, h, same, i, outer, stack) = closes (Throwing tag value) region home number l alive k cs same nests outer (Go h, stack)
    throws_on (CloseLexical region ∷ k) tag value (Go f) nests live (h, i, outer, stack) = closes_lexical (Throwing tag value) region k nests outer (Go h, stack)
    throws_on (EndLoan lent ∷ k) tag value (Go f) nests live (y, h, j, t, object, lent_is, loans, claims, i, full, scope, stack) =
        let z = ends lent j t object y h k claims scope stack in
        running p (ended_typing j z.what object) y bs e w z.objects z.knows bound z.scope (Throwing tag value) k live (Go h, z.stack)
    throws_on (Handler cs ∷ k) tag value (Go f) nests live (y, c, start, h, relies, stands, known, catches, i, stack) =
        running p g y bs e w typed globals bound variables (Catching tag value cs) k live (c, start, f, h, stands, known, catches, stack)
    throws_on (Caller outer ∷ k) tag value (Go f) nests live (y, cs, h, d, depth, loop, blocked, gives, bound', variables', live', holds', stack) =
        running p (record g { depth = d }) y cs outer w (moment_typed g d g.loans w.regions w.objects typed) (moment_globals p g d g.loans globals) bound' variables' (Throwing tag value) k live' (Val x.gives h, stack)
    throws_on (Main ∷ k) tag value (Go f) nests live (loop, int, gives, blocked, stack) = on (Throwing tag value) k live (Nothing, stack)
    throws_on k tag value Nothing nests live stack = absurd stack
    throws_on k tag value (Val r f) nests live stack = absurd stack
    throws_on k tag value (PlaceOf peek t l f) nests live stack = absurd stack
    throws_on k tag value (Go f) nests live stack = absurd stack
