-- This file is about calls, where arguments become parameters and the function body begins, and about the
-- start of the catch clauses of a `try`.
use Rattle.std.proofs.Common.{◌≡◌, ℕ, suc, ◌+◌, ◌<◌, ◌≤◌, ◌%◌, Bool, true, false, List, [], ◌∷◌, ◌++◌, length, map, reverse, Option, Some, None, refl, sym, ap, subst, ◌∙◌, arith}
use Rattle.std.specs.Prelude.{if◌then◌else◌, ◌==◌}
use Rattle.std.proofs.lemmas.Bool.{eq-eqb}
use Rattle.cyc_types.specs.declared.typed.Kind.TheVariants as kinds
use Rattle.cyc_types.specs.declared.typed.Callee.{Callee}
use Rattle.cyc_types.specs.declared.typed.Callee.TheVariants as callees
use Rattle.cyc_types.specs.Types.{Ty, result_type}
use Rattle.cyc_types.specs.Types as types
use Rattle.cyc_types.specs.TypedTrees.{Items, Clauses, NoClauses, Default, Case, Function, Program}
use Rattle.cyc_types.specs.Declarations.{caught_types, item_types, item_regions}
use Rattle.cyc_types.specs.Outlives.{live_regions}
use Rattle.cyc_types.specs.declared.region.Region.TheVariants as regions
use Rattle.cyc_types.specs.declared.scope.Kind.TheVariants as scopes
use Rattle.cyc_types.specs.Rules.{Derives}
use Rattle.cyc_types.specs.typing.WellTyped.{LocalInScope, Context, IsLive, IsCaught, in_block, with_local, with_caught, after_clause, WellTypedItems, WellTypedClauses, body_context, parameters_in_scope}
use Rattle.cyc_types.specs.flow.States as flow
use Rattle.cyc_types.specs.flow.States.{Unreached, Full, meet, with_fullness, with_each, is_reached}
use Rattle.cyc_types.specs.flow.Statements.{Known, locks_of, or_clause, rule_items, rule_clauses}
use Rattle.cyc_types.specs.flow.Statements as statements
use Rattle.cyc_types.specs.flow.Programs.{start_of}
use Rattle.cyc_meaning.specs.Values.{Operand}
use Rattle.cyc_meaning.specs.Values as values
use Rattle.cyc_meaning.specs.State.{Stack, new_region, World, opened, Environment, no_locals, region_at, Entry, Rest, Caller, Given, Proceeding, Entering, Binding, Naming, Throwing, Catching, Running}
use Rattle.cyc_meaning.specs.Parts.{wrong, inside, region_end, declared}
use Rattle.cyc_meaning.specs.Exceptions.{catches, step_catching}
use Rattle.cyc_meaning.specs.inside.Nesting.{ends_of, IsNested}
use Rattle.cyc_meaning.specs.Step.{called, values_of, prints, reads, step_calling, step_entering, step_binding}
use Rattle.cyc_soundness.specs.inside.Lives.{Life, OfRegion, Kept, RunTy, RunValue, Value, Lives, at, value_at, lives_of}
use Rattle.cyc_soundness.specs.inside.Lives as lives
use Rattle.cyc_soundness.specs.inside.Worlds.{Hand, IsHere, lent_now, IsOpenIn, Stays, Typing, IsKnownLife, HasType, AreOperands, IsTyped, Grows, KeyOf, PointerTo}
use Rattle.cyc_soundness.specs.inside.Frames.{InScope, Variable, Names, Instance, Home, lives_in, read, IsScope, AreBelow, IsBound, AreVariables, IsLasting, LiveIn, Within, itself, older, AreSet, Holds, Implies, Exits, HasResult, loop_of, around, AreBreaks, Stand, IsHome, IsContext, KnowsProgram}
use Rattle.cyc_soundness.specs.inside.Classes.{InItems, InClauses}
use Rattle.cyc_soundness.specs.inside.Judgements.{Continues, Catches, IsAccepted}
use Rattle.cyc_soundness.specs.inside.Awaited.{regions_at_call, IsInstance, Val, Go, turned, operands_in, AreClaimed, AreGiven, IsCalled}
use Rattle.cyc_soundness.specs.inside.Stacks.{IsBlocked, AreFull, AreOwn, IsBody, IsStack, IsWell}
use Rattle.cyc_soundness.proofs.types.TypeLemmas.{is_kind_same, kind_meant}
use Rattle.cyc_soundness.proofs.flow.FlowLemmas.{implies_self, implies_after, meet_second, each_full_implies}
use Rattle.cyc_soundness.proofs.flow.RuleLemmas.{breaks_clauses, clauses_implied}
use Rattle.cyc_soundness.proofs.states.WorldLemmas.{type_grown, operands_grown, opened_typed}
use Rattle.cyc_soundness.proofs.states.Hands.{Changed, hand_same, at_no_hand, claims_kept, here_kept}
use Rattle.cyc_soundness.proofs.states.StillHands.{variables_grown, holds_grown}
use Rattle.cyc_soundness.proofs.states.CallHands.{moment_grows, moment_typed, moment_globals}
use Rattle.cyc_soundness.proofs.states.StackLemmas.{AreAccepted}
use Rattle.cyc_soundness.proofs.states.StackClaims.{stack_changed, stack_grown}
use Rattle.cyc_soundness.proofs.states.StackLocals.{scopes_below_more}
use Rattle.cyc_soundness.proofs.types.RegionLemmas.{life_known, there_open, opened_known, live_more, there_lasting, opened_lasting, stand_opened, new_home, context_inside, other_life}
use Rattle.cyc_soundness.proofs.types.CallRegions.{named_function, known_body}
use Rattle.cyc_soundness.proofs.states.Cells.{running}
use Rattle.cyc_soundness.proofs.steps.Objects.{operands_reversed, given_turned}
use Rattle.cyc_soundness.proofs.steps.Supply.{new_life, made_typing, declares}
use Rattle.cyc_soundness.proofs.steps.Execution.{block_scope, block_live, block_stack, context_following, breaks_before}

-- ---- lists of operands

turned_length : {A : Type 0} (as' bs : List A) → length (turned as' bs) ≡ length as' + length bs
turned_length [] bs = let e : 0 + length bs ≡ length bs = omega arith in sym e
turned_length (a ∷ as') bs =
    let e : length (turned as' (a ∷ bs)) ≡ length as' + suc (length bs) = turned_length as' (a ∷ bs) in
    let r : length (turned as' (a ∷ bs)) ≡ suc (length as') + length bs = omega (arith, e) in
    r

-- When an argument becomes a parameter, the arguments after it still own the resources (keys and unique pointers) that their values
-- represent.
given_later : (g h : Typing) (i j : ℕ) (ts : List RunTy) (vs : List Operand) → Changed (Hand i) g h → i < j → AreGiven g.own j ts vs → AreGiven h.own j ts vs
given_later g h i j [] vs changed less are = tt
given_later g h i j (t ∷ ts) [] changed less are = tt
given_later g h i j (t ∷ ts) (v ∷ vs) changed less (is, are) = (
  claims_kept (Hand i) g h changed (Hand j) t v.value (λ e. (let same : j ≡ i = hand_same j i e in absurd (omega (arith, less, same)))) is,
  given_later g h i (suc j) ts vs changed (let more : i < suc j = omega (arith, less) in more) are,
)

-- When an argument becomes a parameter, earlier parameters keep their values.
own_kept : (g h : Typing) (i : ℕ) (bs : List InScope) → Changed (Hand i) g h → AreOwn g bs → AreOwn h bs
own_kept g h i [] changed are = tt
own_kept g h i (Variable b ∷ bs) changed (is, are) = (subst (λ d. IsHere h d b.number b.object) (sym changed.depth) (here_kept (Hand i) g h changed g.depth b.number b.object (at_no_hand b.object 0 i) is), own_kept g h i bs changed are)
own_kept g h i (b ∷ bs) changed (is, are) = (tt, own_kept g h i bs changed are)

-- Lifetimes that are open at a call stay open inside the call.
open_inside : (g : Typing) (d : ℕ) (l : Life) → IsOpenIn g l → IsOpenIn (record g { depth = d }) l
open_inside g d (OfRegion number ns us) opens = opens
open_inside g d (Kept region) opens = opens
open_inside g d lives.Owned opens = opens

known_inside : (g : Typing) (d : ℕ) (l : Life) → IsKnownLife g l → IsKnownLife (record g { depth = d }) l
known_inside g d (OfRegion number ns us) known = known
known_inside g d (Kept (KeyOf region)) known = known
known_inside g d (Kept (PointerTo object)) known = known
known_inside g d lives.Owned known = known

-- A call leaves the typing of its caller's state unchanged.
same_around : (g : Typing) → Stays g (record g { depth = g.depth })
same_around g = record {
  grows = record { objects = λ n u is. is; filled = λ n count is. is; fields = λ n ls ts is. is; kept = λ n is. is };
  own = refl;
  here = refl;
  pending = refl;
  depth = refl;
  loans = refl;
}

operands_count : (n : Lives) (g : Typing) (ts : List Ty) (vs : List Operand) → AreOperands g (map (at n) ts) vs → length vs ≡ length ts
operands_count n g [] [] are = refl
operands_count n g [] (v ∷ vs) are = absurd are
operands_count n g (t ∷ ts) [] are = absurd are
operands_count n g (t ∷ ts) (v ∷ vs) are = ap suc (operands_count n g ts vs are.1)

pub blocked_of : (o : Option Ty) (f : flow.State) → ((t : Ty) → o ≡ Some t → is_reached f ≡ false) → IsBlocked o f
blocked_of None f ends = tt
blocked_of (Some t) f ends = ends t refl

full_are_set : (g : Typing) (f : flow.State) (bs : List InScope) → AreFull g bs → AreOwn g bs → AreSet g f bs
full_are_set g f [] are have = tt
full_are_set g f (Variable b ∷ bs) (is, are) (has, have) = ((λ s. is, λ s. has), full_are_set g f bs are have)
full_are_set g f (b ∷ bs) (is, are) (has, have) = (tt, full_are_set g f bs are have)

full_grown : (g h : Typing) → Grows g h → (bs : List InScope) → AreFull g bs → AreFull h bs
full_grown g h grows [] are = tt
full_grown g h grows (Variable b ∷ bs) (is, are) = (grows.filled b.object 1 is, full_grown g h grows bs are)
full_grown g h grows (b ∷ bs) (is, are) = (tt, full_grown g h grows bs are)

-- a function without a result returns no value
result_given : (o : Option Ty) (n : Lives) → HasResult o (value_at n (result_type o))
result_given None n = refl
result_given (Some t) n = tt

-- The region of a block is live inside the block.
block_region : (c : Context) → IsLive (in_block c) (regions.Variable c.next_region)
block_region c = (0, (let e : 0 < suc (length (live_regions c.regions.live c.regions.opened)) = omega arith in e), refl)

module _ (p : Program) (accepted : AreAccepted p) where
  module _ (g : Typing) (x : Exits) (bs : List InScope) (e : Environment) (w : World) (typed : IsTyped g w.regions w.objects) (globals : KnowsProgram g p) (bound : IsBound e.locals e.counters bs) (variables : AreVariables g bs) where
    -- ---- calls

    printed_on : (ts : List RunTy) (vs : List Operand) (k : List Entry) (f : flow.State) → LiveIn k bs → Holds g f bs → turned ts [] ≡ lives.Int ∷ [] → AreOperands g ts vs
        → IsStack p g x bs (Val (Value lives.Int) f) k → IsWell p (prints (values_of vs) k e w)
    printed_on [] vs k f live holds same are stack = absurd (let z : [] ≡ lives.Int ∷ [] = same in cc)
    printed_on (t ∷ []) [] k f live holds same are stack = absurd are
    printed_on (t ∷ []) (v ∷ v2 ∷ vs) k f live holds same are stack = absurd are.1
    printed_on (t ∷ u ∷ ts) vs k f live holds same are stack =
        let e1 : length (turned ts (u ∷ t ∷ [])) ≡ length ts + 2 = turned_length ts (u ∷ t ∷ []) in let e2 : length (turned ts (u ∷ t ∷ [])) ≡ 1 = ap length same in absurd (omega (arith, e1, e2))
    printed_on (t ∷ []) (v ∷ []) k f live holds same (is, unit) stack =
        let int : t ≡ lives.Int = (let z : t ∷ [] ≡ lives.Int ∷ [] = same in cc) in
        go v.value (subst (λ z. HasType g z v.value) int is.1)
      where
        go : (value : values.Value) → HasType g lives.Int value → IsWell p (prints (value ∷ []) k e w)
        go (values.Int word) has = running p g x bs e (record w { output = w.output ++ word % 256 ∷ [] }) typed globals bound variables
            (Given (record { kind = kinds.Int; value = values.Int (word % 256) })) k live (Value lives.Int, f, holds, (refl, tt), (tt, tt), stack)
        go value has = absurd has

    read_on : (ts : List RunTy) (vs : List Operand) (k : List Entry) (f : flow.State) → LiveIn k bs → Holds g f bs → turned ts [] ≡ [] → AreOperands g ts vs
        → IsStack p g x bs (Val (Value lives.Int) f) k → IsWell p (reads (values_of vs) k e w)
    read_on [] [] k f live holds same are stack =
        running p g x bs e _ typed globals bound variables (Given _) k live (Value lives.Int, f, holds, (refl, tt), (tt, tt), stack)
    read_on [] (v ∷ vs) k f live holds same are stack = absurd are
    read_on (t ∷ ts) vs k f live holds same are stack =
        let e1 : length (turned ts (t ∷ [])) ≡ length ts + 1 = turned_length ts (t ∷ []) in let e2 : length (turned ts (t ∷ [])) ≡ 0 = ap length same in absurd (omega (arith, e1, e2))

    -- The lifetimes that are live in a called function have not ended.
    instance_lasting : (k : List Entry) (h : Function) (these : ℕ → Life) (alive : ℕ → Bool) → LiveIn k bs → IsInstance bs h these alive → (n : ℕ) → alive n ≡ true → IsLasting (ends_of k) (these n)
    instance_lasting k h these alive live instance n is =
        let (r, plain, there, same) = instance.lasting n is in
        subst (λ l. IsLasting (ends_of k) l) same (there_lasting (ends_of k) bs r live.0 plain there)

    instance_known : (h : Function) (these : ℕ → Life) (alive : ℕ → Bool) → IsInstance bs h these alive → (n : ℕ) → IsKnownLife g (these n)
    instance_known h these alive instance n = let (r, plain, same) = instance.named n in subst (λ l. IsKnownLife g l) same (life_known g bs r plain variables)

    instance_open : (h : Function) (these : ℕ → Life) (alive : ℕ → Bool) → IsInstance bs h these alive → (n : ℕ) → alive n ≡ true → IsOpenIn g (these n)
    instance_open h these alive instance n is = let (r, plain, there, same) = instance.lasting n is in subst (λ l. IsOpenIn g l) same (there_open g bs r variables there)

    pub call : (callee : Callee) (vs : List Operand) (k : List Entry) (ts : List RunTy) (r : RunValue) (f : flow.State) → LiveIn k bs → Holds g f bs → IsCalled p bs callee (turned ts []) r → AreOperands g ts vs → AreClaimed g.own (operands_in k) ts vs
        → IsStack p g x bs (Val r f) k → IsWell p (step_calling p callee vs k e w)
    call callees.Putchar vs k ts r f live holds (types_is, result_is) are claims stack = printed_on ts vs k f live holds types_is are (subst (λ z. IsStack p g x bs (Val z f) k) result_is stack)
    call callees.Getchar vs k ts r f live holds (types_is, result_is) are claims stack = read_on ts vs k f live holds types_is are (subst (λ z. IsStack p g x bs (Val z f) k) result_is stack)
    call (callees.Function n) vs k ts r f live holds (h, these, alive, there, instance, types_is, result_is) are claims stack =
        let (end, ok) = accepted n h there in
        let arguments : AreOperands g (map (at (lives_of these)) h.parameters) (reverse vs) = subst (λ us. AreOperands g us (reverse vs)) types_is (operands_reversed g ts vs are) in
        let given_value : RunValue = value_at (lives_of these) (result_type h.result) in
        let y : Exits = record { loop = None; result = h.result; gives = given_value; locks = []; relied = [] } in
        let cs : List InScope = Instance these alive ∷ [] in
        let d = suc g.depth in
        let i = record g { depth = d } in
        let grows : Grows g i = moment_grows g d g.loans in
        let claimed : AreGiven g.own (operands_in k) (map (at (lives_of these)) h.parameters) (reverse vs) = subst (λ us. AreGiven g.own (operands_in k) us (reverse vs)) types_is (given_turned g (operands_in k) ts [] vs [] are claims tt) in
        let same = same_around g in
        let back = record i { depth = g.depth } in
        subst (λ o. IsWell p (called o (reverse vs) (Caller e ∷ k) w)) (sym there)
        (subst (λ (b : Bool). IsWell p (if b then Running (Entering h (reverse vs)) (Caller e ∷ k) no_locals w else wrong w))
        (sym (eq-eqb (length (reverse vs)) (length h.parameters) (operands_count (lives_of these) g h.parameters (reverse vs) arguments)))
        (running p i y cs no_locals w (moment_typed g d g.loans w.regions w.objects typed) (moment_globals p g d g.loans globals) (tt, tt)
        ((λ n. (known_inside g d (these n) (instance_known h these alive instance n), λ e. open_inside g d (these n) (instance_open h these alive instance n e))), tt) (Entering h (reverse vs)) (Caller e ∷ k) ((instance_lasting k h these alive live instance, tt), refl) (
          end,
          these,
          alive,
          ok,
          (refl, refl, refl, refl, refl),
          refl,
          instance.stand,
          operands_grown g i grows (map (at (lives_of these)) h.parameters) (reverse vs) arguments,
          claimed,
          (
            x,
            bs,
            f,
            g.depth,
            refl,
            refl,
            blocked_of h.result end ok.ends,
            result_given h.result (lives_of these),
            bound,
            variables_grown g back same bs variables,
            live,
            holds_grown g back same f bs holds,
            stack_grown p g back same x bs (Val given_value f) k (subst (λ z. IsStack p g x bs (Val z f) k) result_is stack),
          ),
        )))

    pub enter : (h : Function) (vs : List Operand) (k : List Entry) (end : flow.State) (these : ℕ → Life) (alive : ℕ → Bool) → LiveIn k bs → IsAccepted p h end → IsBody x bs h → (bs ≡ Instance these alive ∷ [])
        → Stand (regions_at_call h) bs → AreOperands g (map (read bs) h.parameters) vs → AreGiven g.own (operands_in k) (map (read bs) h.parameters) vs → IsStack p g x bs (Go end) k → IsWell p (step_entering h vs k e w)
    enter h vs k end these alive live ok body these_are stand are claims stack =
        let count : 0 + length h.parameters ≡ length h.parameters = omega arith in
        let region = length w.regions in
        let l : Life = OfRegion region (ends_of k) (lent_now g) in
        let cs : List InScope = Home region ∷ Names 0 l true ∷ bs in
        let bare : IsScope (lives_in cs) [] bs = subst (λ z. IsScope (lives_in cs) [] z) (sym these_are) ([], refl, refl) in
        let below : AreBelow 0 bs = subst (λ z. AreBelow 0 z) (sym these_are) (tt, tt) in
        let full : AreFull g bs = subst (λ z. AreFull g z) (sym these_are) (tt, tt) in
        let own : AreOwn g bs = subst (λ z. AreOwn g z) (sym these_are) (tt, tt) in
        let named = named_function p h ok.typed in
        let same = other_life 0 l true bs in
        running p g x cs (inside e w) (opened w) (opened_typed g w.regions (new_region Stack ∷ []) w.objects typed) globals (tt, (tt, bound)) (tt, (opened_known g region (ends_of k), variables)) (Binding 0 h.parameters vs h.body) (region_end e w ∷ k)
        ((tt, ((λ is. opened_lasting region (ends_of k) (lent_now g)), live_more region (ends_of k) bs live.0)), refl) (
          h,
          end,
          [],
          cs,
          itself cs,
          ok,
          (body.0, body.1, body.2, body.3, sym (named.result (lives_in bs) (lives_in cs) same) ∙ body.4),
          refl,
          refl,
          count,
          subst (λ us. AreOperands g us vs) (named.parameters (lives_in bs) (lives_in cs) same) are,
          ([], refl, ([], refl, bare)),
          (tt, (tt, below)),
          (tt, (tt, full)),
          stand_opened g scopes.Block 0 region (ends_of k) (regions_at_call h) bs variables refl live.0 named.live named.pairs stand,
          new_home 0 region (ends_of k) (lent_now g) bs,
          (operands_in k, (let le : operands_in k ≤ operands_in k = omega arith in le), subst (λ us. AreGiven g.own (operands_in k) us vs) (named.parameters (lives_in bs) (lives_in cs) same) claims),
          (tt, (tt, own)),
          (bs, 0, l, true, end, refl, implies_self end, live, stack),
        )

    begin : (h : Function) (number : ℕ) (js : Items) (k : List Entry) (end : flow.State) (vs : List LocalInScope) (cs : List InScope) → LiveIn k bs → Within cs bs → IsAccepted p h end → IsBody x bs h → js ≡ h.body
        → vs ≡ parameters_in_scope h.parameters 0 [] → number + 0 ≡ length h.parameters → IsScope (lives_in bs) vs bs → AreBelow number bs → AreFull g bs
        → Stand (body_context p h).regions bs → IsHome 0 bs → AreOwn g bs → IsStack p g x cs (Go end) k → IsWell p (Running Proceeding (Rest js ∷ k) e w)
    begin h number js k end vs cs live within ok (loop, locks, relied, result, gives) body scope_is count scope below full stand at_home own stack =
        let flows = subst (λ o. Derives (rule_items (record { loop = loop_of o; locks = x.locks }) h.body (record { now = start_of h; breaks = Unreached })) (record { now = end; breaks = ok.breaks })) (sym loop)
        (subst (λ ns. Derives (rule_items (record { loop = None; locks = ns }) h.body (record { now = start_of h; breaks = Unreached })) (record { now = end; breaks = ok.breaks })) (sym locks) ok.flows) in
        let rest : Continues x (body_context p h) h.body (start_of h) end = record {
          before = Unreached;
          following = ok.breaks;
          ending = end;
          typed = ok.typed.body;
          flows = flows;
          breaks = subst (λ o. AreBreaks o ok.breaks) (sym loop) tt;
          kept = λ reached. subst (λ q. InItems q (suc h.variables) h.body) (sym relied) ok.kept;
          ends = each_full_implies (locks_of h.body) end;
        } in
        let last : number ≤ length h.parameters = omega (arith, count) in
        let stands : IsContext p x bs (body_context p h) = record {
          globals = refl;
          functions = refl;
          structs = refl;
          result = sym result;
          gives = gives;
          loop = λ no. (let z : false ≡ true = no in absurd (cc));
          scope = subst (λ z. IsScope (lives_in bs) z bs) scope_is scope;
          below = scopes_below_more number (length h.parameters) bs last below;
          counters = λ l less. absurd (omega (arith, less));
          known = known_body p h ok.typed;
          regions = stand;
          home = at_home;
        } in
        subst (λ z. IsWell p (Running Proceeding (Rest z ∷ k) e w)) (sym body)
        (running p g x bs e w typed globals bound variables Proceeding (Rest h.body ∷ k) live
        (start_of h, (refl, full_are_set g (start_of h) bs full own), (cs, body_context p h, end, within, stands, rest, stack)))

    pub bind : (number : ℕ) (ts : List Ty) (arguments : List Operand) (js : Items) (k : List Entry) (h : Function) (end : flow.State) (vs : List LocalInScope) (cs : List InScope) → IsNested k e w → LiveIn k bs
        → Within cs bs → IsAccepted p h end → IsBody x bs h → js ≡ h.body → parameters_in_scope ts number vs ≡ parameters_in_scope h.parameters 0 [] → number + length ts ≡ length h.parameters
        → AreOperands g (map (read bs) ts) arguments → IsScope (lives_in bs) vs bs → AreBelow number bs → AreFull g bs → Stand (body_context p h).regions bs → IsHome 0 bs
        → (i : ℕ) × (operands_in k ≤ i) × AreGiven g.own i (map (read bs) ts) arguments → AreOwn g bs → IsStack p g x cs (Go end) k → IsWell p (step_binding number ts arguments js k e w)
    bind number [] [] js k h end vs cs nests live within ok body body_is scope_is count are scope below full stand at_home claims own stack =
        begin h number js k end vs cs live within ok body body_is scope_is count scope below full stand at_home own stack
    bind number [] (v ∷ arguments) js k h end vs cs nests live within ok body body_is scope_is count are scope below full stand at_home claims own stack = absurd are
    bind number (t ∷ ts) [] js k h end vs cs nests live within ok body body_is scope_is count are scope below full stand at_home claims own stack = absurd are
    bind number (t ∷ ts) (v ∷ arguments) js k h end vs cs nests live within ok body body_is scope_is count (is, are) scope below full stand at_home (i, least, (has, claims)) own stack =
        let more : suc number + length ts ≡ length h.parameters = omega (arith, count) in
        let l = new_life bs 0 e.home k live at_home nests.2 in
        let hand = Hand i in
        let h' = made_typing p g x bs e w typed globals bound variables number t l.life 1 (Some v.value) in
        subst (λ (b : Bool). IsWell p (if b then declared (region_at w e.home) (Binding (suc number) ts arguments js) number (values.kind_of t) (Some v.value) k e w else wrong w))
        (sym (is_kind_same v.kind (values.kind_of t) (is.0 ∙ kind_meant (lives_in bs) t)))
        (declares p g x bs e w typed globals bound variables number (values.kind_of t) t (Some v.value) 1 i l.life (Binding (suc number) ts arguments js) k nests live below
        l.number l.lasting (l.known g variables) has
        (λ grows. ((sym (kind_meant (lives_in bs) t), type_grown g h' grows (read bs t) v.value is.1), tt))
        (λ changed filled here. (
          h,
          end,
          record { number = number; of_type = t; region = 0; is_place = true } ∷ vs,
          cs,
          older _ cs bs tt within,
          ok,
          body,
          body_is,
          scope_is,
          more,
          operands_grown g h' changed.grows (map (read bs) ts) arguments are,
          (vs, (_, refl, refl, refl, refl, l.homed), scope),
          ((let less : number < suc number = omega arith in less), scopes_below_more number (suc number) bs (let le : number ≤ suc number = omega arith in le) below),
          (filled, full_grown g h' changed.grows bs full),
          stand,
          at_home,
          (suc i, (let le : operands_in k ≤ suc i = omega (arith, least) in le), given_later g h' i (suc i) (map (read bs) ts) arguments changed (let less : i < suc i = omega arith in less) claims),
          (here, own_kept g h' i bs changed own),
          stack_changed p hand g h' x cs (Go end) k changed least stack,
        )))

    -- ---- clauses

    abbrev scope : Context → List Entry → List InScope
    scope c k = block_scope p g x bs e w typed globals bound variables c k

    begin_clause : (js : Items) (k : List Entry) (c : Context) (start h before : flow.State) (l : Known) → LiveIn k bs → IsContext p x bs c → Holds g start bs → WellTypedItems (in_block c) js
        → Derives (rule_items (around x) js (record { now = start; breaks = before })) l → AreBreaks x.loop l.breaks → InItems x.relied (suc c.next_region) js → Implies (with_each Full (locks_of js) l.now) h → IsStack p g x bs (Go h) k
        → IsWell p (Running Proceeding (Rest js ∷ region_end e w ∷ k) (inside e w) (opened w))
    begin_clause js k c start h before l live stands holds well flows are kept implies stack =
        let rest : Continues x (in_block c) js start h = record {
          before = before;
          following = l.breaks;
          ending = l.now;
          typed = well;
          flows = flows;
          breaks = are;
          kept = λ reached. kept;
          ends = implies;
        } in
        running p g x (scope c k) (inside e w) (opened w) (opened_typed g w.regions (new_region Stack ∷ []) w.objects typed) globals (tt, (tt, bound)) (tt, (opened_known g (length w.regions) (ends_of k), variables)) Proceeding (Rest js ∷ region_end e w ∷ k)
        (block_live p g x bs e w typed globals bound variables c k live) (
          start,
          (holds.0, (tt, (tt, holds.1))),
          (
            scope c k,
            in_block c,
            h,
            itself (scope c k),
            context_inside p x bs c stands g variables (length w.regions) (ends_of k) live.0,
            rest,
            block_stack p g x bs e w typed globals bound variables c k h h live (implies_self h) stack,
          ),
        )

    caught : (value : ℕ) (v : Option ℕ) (js : Items) (k : List Entry) (c : Context) (start h before : flow.State) (has : Bool) (l : Known) → LiveIn k bs → IsContext p x bs c → Holds g start bs → IsCaught c has v
        → WellTypedItems (with_caught v (in_block c)) js → Derives (rule_items (around x) js (record { now = statements.with_caught v start; breaks = before })) l → AreBreaks x.loop l.breaks → InItems x.relied (suc c.next_region) js → Implies (with_each Full (locks_of js) l.now) h
        → IsStack p g x bs (Go h) k → IsWell p (catches value v js k e w)
    caught value None js k c start h before has l live stands holds is well flows are kept implies stack = begin_clause js k c start h before l live stands holds well flows are kept implies stack
    caught value (Some n) js k c start h before false l live stands holds is well flows are kept implies stack = absurd is
    caught value (Some n) js k c start h before true l live stands holds (number, there) well flows are kept implies stack =
        let rest : Continues x (with_local true types.Int (in_block c)) js (with_fullness Full start n) h = record {
          before = before;
          following = l.breaks;
          ending = l.now;
          typed = well;
          flows = flows;
          breaks = are;
          kept = λ reached. kept;
          ends = implies;
        } in
        running p g x (scope c k) (inside e w) (opened w) (opened_typed g w.regions (new_region Stack ∷ []) w.objects typed) globals (tt, (tt, bound)) (tt, (opened_known g (length w.regions) (ends_of k), variables))
        (Naming n (record { kind = kinds.Int; value = values.Int value }) js) (region_end e w ∷ k) (block_live p g x bs e w typed globals bound variables c k live) (
          in_block c,
          true,
          types.Int,
          scope c k,
          start,
          h,
          itself (scope c k),
          context_inside p x bs c stands g variables (length w.regions) (ends_of k) live.0,
          (holds.0, (tt, (tt, holds.1))),
          (tt, block_region c),
          number,
          (refl, tt),
          (tt, tt),
          rest,
          block_stack p g x bs e w typed globals bound variables c k h h live (implies_self h) stack,
        )

    pub catch : (tag value : ℕ) (ds : Clauses) (k : List Entry) (c : Context) (start f h before following : flow.State) → LiveIn k bs → IsContext p x bs c → Holds g start bs → WellTypedClauses c ds
        → Derives (rule_clauses (around x) start ds (record { now = f; breaks = before })) (record { now = h; breaks = following }) → AreBreaks x.loop following → InClauses x.relied c.next_region ds → IsStack p g x bs (Go h) k
        → IsWell p (step_catching tag value ds k e w)
    catch tag value NoClauses k c start f h before following live stands holds well flows are kept stack = running p g x bs e w typed globals bound variables (Throwing tag value) k live (Go h, stack)
    catch tag value (Default r js) k c start f h before following live stands holds (number, well) (l, d, (u, known)) are kept stack =
        let now : h ≡ meet f (with_each Full (locks_of js) l.now) = ap (λ (z : Known). z.now) known in
        let full = with_each Full (locks_of js) l.now in
        begin_clause js k c start h before l live stands holds well d (subst (λ z. AreBreaks x.loop z) (ap (λ (z : Known). z.breaks) known) are) kept (subst (λ z. Implies full z) (sym now) (meet_second f full)) stack
    catch tag value (Case n v r js ds) k c start f h before following live stands holds (has, is, bind', number, well, later) (l, d, dlater) are (kjs, kds) stack = go (n == tag)
      where
        sooner : AreBreaks x.loop l.breaks
        sooner = breaks_before x.loop l.breaks following (breaks_clauses (around x) start ds (or_clause f js l) (record { now = h; breaks = following }) dlater) are

        full : flow.State
        full = with_each Full (locks_of js) l.now

        implies : Implies full h
        implies = implies_after full (or_clause f js l).now h
            (meet_second f full)
            (clauses_implied (around x) start ds (or_clause f js l) (record { now = h; breaks = following }) dlater)

        following_stands : IsContext p x bs (after_clause c v js)
        following_stands = context_following p x bs c (length (caught_types v) + length (item_types js)) (suc (item_regions js)) stands

        next : Catches x (after_clause c v js) start ds (or_clause f js l).now h
        next = record { before = l.breaks; following = following; typed = later; flows = dlater; breaks = are; kept = kds }

        go : (b : Bool) → IsWell p (if b then catches value v js k e w else Running (Catching tag value ds) k e w)
        go true = caught value v js k c start h before has l live stands holds bind' well d sooner kjs implies stack
        go false = running p g x bs e w typed globals bound variables (Catching tag value ds) k live
            (after_clause c v js, start, (or_clause f js l).now, h, following_stands, holds, next, stack)
