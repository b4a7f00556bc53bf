-- This file is about statements and the declarations of blocks: each step yields a well-typed run state.
use Rattle.std.proofs.Common.{◌≡◌, inl, ℕ, suc, ◌+◌, ◌≤◌, ◌<◌, Bool, true, false, List, [], ◌∷◌, length, Option, Some, None, refl, sym, ap, subst, ◌∙◌, arith}
use Rattle.std.proofs.lemmas.Bool.{not-true}
use Rattle.cyc_words.proofs.Members.{Contains-tail}
use Rattle.cyc_types.specs.declared.typed.Kind.{Kind}
use Rattle.cyc_types.specs.Types.{Ty, result_type}
use Rattle.cyc_types.specs.Types as types
use Rattle.cyc_types.specs.TypedTrees.{Expression, Convert, Statement, Block, Empty, Evaluate, Swap, If, While, Break, Continue, Throw, Try, Items, NoItems, MoreItems, Execute, Declare, DeclareRegion, OpenRegion, DeclareAlias, DeclareKey, Program}
use Rattle.cyc_types.specs.TypedTrees as typed
use Rattle.cyc_types.specs.Rules.{AllKept, Derives}
use Rattle.cyc_types.specs.Declarations.{declared_types, declared_regions}
use Rattle.cyc_types.specs.Outlives.{live_regions}
use Rattle.cyc_types.specs.declared.region.Region.{Region}
use Rattle.cyc_types.specs.declared.region.Region.TheVariants as regions
use Rattle.cyc_types.specs.declared.scope.Kind.TheVariants as scopes
use Rattle.cyc_types.specs.declared.typed.Kind.TheVariants as kinds
use Rattle.cyc_types.specs.typing.WellTyped.{Context, IsReturned, IsThrown, in_block, following, IsLive, with_local, with_opened, with_key_opened, WellTypedStatement, WellTypedItems}
use Rattle.cyc_types.specs.typing.Statements.{with_region_of}
use Rattle.cyc_types.specs.flow.States as flow
use Rattle.cyc_types.specs.flow.States.{Unreached, Vacant, Locked, Full, is_vacant, meet, with_fullness, with_each}
use Rattle.cyc_types.specs.flow.Expressions.{and_peeked}
use Rattle.cyc_types.specs.flow.Statements.{peeked_side, side_demanded, Known, locks_of, caught, rule_statement, rule_items}
use Rattle.cyc_types.specs.flow.Statements as statements
use Rattle.cyc_meaning.specs.Values as values
use Rattle.cyc_meaning.specs.State.{Stack, Lexical, new_region, opened_as, CloseLexical, Naming, World, opened, Environment, ConvertTo, Initialise, Choose, Test, ThrowWith, OpenBy}
use Rattle.cyc_meaning.specs.State.{AliasOf, Entry, Needs, Discard, Rest, Handler, Focus, Evaluating, Executing, Proceeding, Breaking, Continuing, Returning, Throwing, State, Running}
use Rattle.cyc_meaning.specs.State as state
use Rattle.cyc_meaning.specs.Parts.{target_by, loaded_from, inside, region_end}
use Rattle.cyc_meaning.specs.Exceptions.{throws}
use Rattle.cyc_meaning.specs.inside.Nesting.{ends_of, IsNested}
use Rattle.cyc_meaning.specs.Step.{step_executing, returns, continues_with}
use Rattle.cyc_soundness.proofs.flow.Looking.{looked_side}
use Rattle.cyc_soundness.specs.inside.Lives.{Life, OfRegion, Value}
use Rattle.cyc_soundness.specs.inside.Worlds.{IsNumber, Typing, lent_now, IsTyped}
use Rattle.cyc_soundness.specs.inside.Frames.{InScope, Names, Home, life_named, lives_in, read, read_value, IsBound, AreVariables, LiveIn, Within, itself, older, IsSet, Holds, Implies, LoopExit, Exits, loop_of, around, lending, relying, AreBreaks, is_loop, IsContext, KnowsProgram, IsFullIn}
use Rattle.cyc_soundness.specs.inside.Classes.{IsDeclarable, InStatement, InItems, InValue, InThrown, may_end}
use Rattle.cyc_soundness.specs.inside.Judgements.{Evaluates, Executes, Continues, Catches}
use Rattle.cyc_soundness.specs.inside.Judgements as judgements
use Rattle.cyc_soundness.specs.inside.Awaited.{IsLoop, Val, Go, operands_in}
use Rattle.cyc_soundness.specs.inside.Awaited as awaited
use Rattle.cyc_soundness.specs.inside.Stacks.{IsReturn, IsStack, IsFocus, IsWell}
use Rattle.cyc_soundness.proofs.types.TypeLemmas.{target_typed, kind_read, kind_meant}
use Rattle.cyc_soundness.proofs.flow.FlowLemmas.{used_full, implies_self, implies_after, meet_first, meet_second, at_least_implies, emptied_implied, holds_implied, full_last}
use Rattle.cyc_soundness.proofs.flow.RuleLemmas.{breaks_statement, breaks_items, breaks_clauses, clauses_implied, nothing_locked}
use Rattle.cyc_soundness.proofs.states.StackLocals.{within_bound, within_variables, within_live, within_holds, scopes_below_more, bound_to}
use Rattle.cyc_soundness.proofs.types.RegionLemmas.{opened_known, live_more, same_name, known_after, opened_lasting, agrees_of, context_inside, context_lexical}
use Rattle.cyc_soundness.proofs.states.WorldLemmas.{opened_typed}
use Rattle.cyc_soundness.proofs.types.Sharing.{keeps_by}
use Rattle.cyc_soundness.proofs.states.Cells.{running}
use Rattle.cyc_soundness.proofs.steps.Variables.{looks_bound, unique_moved}
use Rattle.cyc_soundness.proofs.steps.Loans.{local_type_known, keys_on}
use Rattle.cyc_soundness.specs.inside.guard.Held.{nowhere, updated}
use Rattle.cyc_soundness.proofs.guard.Bools.{updated_same}
use Rattle.cyc_soundness.proofs.guard.WellNumbered.{InScope as AreScoped, found_below, lent_below, next_in_scope, statement_fresh, items_fresh}
use Rattle.cyc_soundness.proofs.flow.Locking.{IsLockedIn, ends_so, locked_items, now_locked, scope_below}
use Rattle.cyc_soundness.proofs.flow.Touched.{relied_body, asked_of}
use Rattle.cyc_soundness.proofs.steps.Supply.{declares_blank}
use Rattle.cyc_soundness.proofs.steps.Swapping.{swap_on}
use Rattle.cyc_types.specs.flow.Touched.{touched_statement}
use Rattle.cyc_types.proofs.typing.TestLemmas.{kept_append}

-- A typing context stays valid in a scope if the indices of the next local and of the next region are raised.
pub context_following : (p : Program) (x : Exits) (bs : List InScope) (c : Context) (locals regions : ℕ) → IsContext p x bs c
    → IsContext p x bs (record c { next_local = c.next_local + locals; next_region = c.next_region + regions })
context_following p x bs c locals regions stands = record {
  globals = stands.globals;
  functions = stands.functions;
  structs = stands.structs;
  result = stands.result;
  gives = stands.gives;
  loop = stands.loop;
  scope = stands.scope;
  below = scopes_below_more c.next_local (c.next_local + locals) bs (let le : c.next_local ≤ c.next_local + locals = omega arith in le) stands.below;
  counters = stands.counters;
  known = known_after c.next_region (c.next_region + regions) c.regions c.locals c.result (let le : c.next_region ≤ c.next_region + regions = omega arith in le) stands.known;
  regions = stands.regions;
  home = stands.home;
}

-- The typing context inside the body of a `try`.
context_relying : (p : Program) (x : Exits) (bs : List InScope) (c : Context) (f : flow.State) → IsContext p x bs c → IsContext p (relying x f) bs c
context_relying p x bs c f stands = record {
  globals = stands.globals;
  functions = stands.functions;
  structs = stands.structs;
  result = stands.result;
  gives = stands.gives;
  loop = stands.loop;
  scope = stands.scope;
  below = stands.below;
  counters = stands.counters;
  known = stands.known;
  regions = stands.regions;
  home = stands.home;
}

pub context_after : (p : Program) (x : Exits) (bs : List InScope) (c : Context) (s : Statement) → IsContext p x bs c → IsContext p x bs (following c s)
context_after p x bs c s stands = context_following p x bs c (length (declared_types s)) (declared_regions s) stands

-- A local whose type is that of the handle of an opened region may be declared in the scope.
new_handle : (n r : ℕ) → r ≡ n → IsDeclarable (suc n) (types.Handle (regions.Variable r))
new_handle n r same = let e : r < suc n = omega (arith, same) in e

alias_kind : (r : Region) (t : Ty) → values.kind_of (with_region_of r t) ≡ values.kind_of t
alias_kind r types.Int = refl
alias_kind r types.Char = refl
alias_kind r (types.Pointer k t s) = refl
alias_kind r (types.Handle s) = refl
alias_kind r (types.Key s) = refl
alias_kind r (types.Struct n rs) = refl

-- If the flow state at all `break` statements so far implies the state after the loop, so does the stronger state at the earlier ones.
pub breaks_before : (l : Option LoopExit) (a b : flow.State) → Implies a b → AreBreaks l b → AreBreaks l a
breaks_before None a b i are = tt
breaks_before (Some l) a b i are = implies_after a b l.breaks i are

module _ (p : Program) (g : Typing) (x : Exits) (bs : List InScope) (e : Environment) (w : World) (typed' : IsTyped g w.regions w.objects) (globals : KnowsProgram g p) (bound : IsBound e.locals e.counters bs) (variables : AreVariables g bs) where
  on : (focus : Focus) (k : List Entry) → LiveIn k bs → IsFocus p g x bs focus k → IsWell p (Running focus k e w)
  on focus k live stands = running p g x bs e w typed' globals bound variables focus k live stands

  return_none : (i : ℕ) (r : Option Ty) (c : Context) → IsReturned c r None → IsReturn g i r x.gives None
  return_none i None c is = tt
  return_none i (Some t) c is = absurd is

  return_on : (a : Expression) (from to : Kind) (k : List Entry) (c : Context) (f h : flow.State) (o : Option Ty) → LiveIn k bs → IsContext p x bs c → Holds g f bs → o ≡ x.result → o ≡ c.result
      → IsReturned c o (Some (Convert from to a)) → Derives (statements.rule_value (Some (Convert from to a)) f) h → InValue x.relied (Some (Convert from to a)) → IsStack p g x bs (Go Unreached) k
      → IsWell p (returns (Some (Convert from to a)) k e w)
  return_on a from to k c f h None live stands holds result same is flows kept stack = absurd is
  return_on a from to k c f h (Some t) live stands holds result same (s, well, conv, from_is, to_is) flows kept stack =
      on (Evaluating a) (Needs (ConvertTo from to (target_by a)) ∷ Needs state.Return ∷ k) live (
        c,
        s,
        f,
        h,
        stands,
        holds,
        record { waiting = []; typed = inl well; flows = flows; kept = kept },
        ([], bs, Val (Value (read bs t)) h, awaited.converts c s t h (agrees_of p x bs c stands) (keeps_by g bs variables c.regions stands.regions) conv from_is to_is (target_typed c a s (inl well)), tt, ([], bs, Go Unreached, awaited.returns t (read bs t) h Unreached (sym result) (ap (λ o. read_value bs (result_type o)) same ∙ stands.gives), tt, stack)),
      )

  break_on : (k : List Entry) (c : Context) (f h before following' : flow.State) (o : Option LoopExit) → x.loop ≡ o → is_loop o ≡ true → LiveIn k bs → Holds g f bs → following' ≡ meet before (with_each Full x.locks f)
      → AreBreaks o following' → IsStack p g x bs (Go h) k → IsWell p (Running Breaking k e w)
  break_on k c f h before following' None same is live holds known are stack = absurd (let z : false ≡ true = is in cc)
  break_on k c f h before following' (Some l) same is live holds known are stack =
      let left = with_each Full x.locks f in
      on Breaking k live (l, f, h, same, holds, implies_after left following' l.breaks (subst (λ z. Implies left z) (sym known) (meet_second before left)) are, stack)

  continue_on : (k : List Entry) (f h : flow.State) (o : Option LoopExit) → x.loop ≡ o → is_loop o ≡ true → LiveIn k bs → Holds g f bs
      → AllKept (statements.continue_demanded (loop_of o) (with_each Full x.locks f)) → IsStack p g x bs (Go h) k → IsWell p (Running Continuing k e w)
  continue_on k f h None same is live holds kept stack = absurd (let z : false ≡ true = is in cc)
  continue_on k f h (Some l) same is live holds kept stack = on Continuing k live (l, f, h, same, holds, at_least_implies (with_each Full x.locks f) l.head kept.0, stack)

  thrown : (has : Bool) (tag : ℕ) (a : Expression) (k : List Entry) (c : Context) (f h i : flow.State) → LiveIn k bs → IsContext p x bs c → Holds g f bs → IsThrown c has (Some a)
      → Derives (statements.rule_thrown (Some a) f) h → InThrown x.relied (Some a) → IsStack p g x bs (Go i) k → IsWell p (throws tag (Some a) k e w)
  thrown true tag a k c f h i live stands holds well flows kept stack =
      on (Evaluating a) (Needs (ThrowWith tag) ∷ k) live (
        c,
        types.Value types.Int,
        f,
        h,
        stands,
        holds,
        record { waiting = []; typed = inl well; flows = flows; kept = kept },
        ([], bs, Go i, awaited.throws h i, tt, stack),
      )
  thrown false tag a k c f h i live stands holds well flows kept stack = absurd well

  -- ---- blocks

  -- The scope of a block whose region has been opened.
  abbrev pub block_scope : Context → List Entry → List InScope
  block_scope c k = Home (length w.regions) ∷ Names c.next_region (OfRegion (length w.regions) (ends_of k) (lent_now g)) true ∷ bs

  pub block_live : (c : Context) (k : List Entry) → LiveIn k bs → LiveIn (region_end e w ∷ k) (block_scope c k)
  block_live c k live = ((tt, ((λ is. opened_lasting (length w.regions) (ends_of k) (lent_now g)), live_more (length w.regions) (ends_of k) bs live.0)), refl)

  -- The stack at the end of a block is typed.
  pub block_stack : (c : Context) (k : List Entry) (f h : flow.State) → LiveIn k bs → Implies f h → IsStack p g x bs (Go h) k → IsStack p g x (block_scope c k) (Go f) (region_end e w ∷ k)
  block_stack c k f h live implies stack = (bs, c.next_region, OfRegion (length w.regions) (ends_of k) (lent_now g), true, h, refl, implies, live, stack)

  -- ---- statements

  pub execute : (s : Statement) (k : List Entry) (c : Context) (f h before following' : flow.State) → LiveIn k bs → IsContext p x bs c → Holds g f bs → WellTypedStatement c s
      → Derives (rule_statement (around x) s (record { now = f; breaks = before })) (record { now = h; breaks = following' }) → AreBreaks x.loop following' → InStatement x.relied c.next_region s → IsStack p g x bs (Go h) k
      → IsWell p (step_executing s k e w)
  execute (Block r js) k c f h before following' live stands holds (number, well) (l, d, (u, known)) are kept stack =
      let now : h ≡ with_each Full (locks_of js) l.now = ap (λ (z : Known). z.now) known in
      let breaks : following' ≡ l.breaks = ap (λ (z : Known). z.breaks) known in
      let continues : Continues x (in_block c) js f h = record {
        before = before;
        following = l.breaks;
        ending = l.now;
        typed = well;
        flows = d;
        breaks = subst (λ z. AreBreaks x.loop z) breaks are;
        kept = λ reached. kept;
        ends = subst (λ z. Implies z h) now (implies_self h);
      } in
      running p g x (block_scope c k) (inside e w) (opened w) (opened_typed g w.regions (new_region Stack ∷ []) w.objects typed') globals (tt, (tt, bound)) (tt, (opened_known g (length w.regions) (ends_of k), variables)) Proceeding (Rest js ∷ region_end e w ∷ k)
      (block_live c k live) (
        f,
        (holds.0, (tt, (tt, holds.1))),
        (
          block_scope c k,
          in_block c,
          h,
          itself (block_scope c k),
          context_inside p x bs c stands g variables (length w.regions) (ends_of k) live.0,
          continues,
          block_stack c k h h live (implies_self h) stack,
        ),
      )
  execute Empty k c f h before following' live stands holds well (u, known) are kept stack =
      on Proceeding k live (h, subst (λ z. Holds g z bs) (sym (ap (λ (z : Known). z.now) known)) holds, stack)
  execute (Evaluate a) k c f h before following' live stands holds (t, well) (f1, d, (u, known)) are kept stack =
      on (Evaluating a) (Discard ∷ k) live (
        c,
        t,
        f,
        f1,
        stands,
        holds,
        record { waiting = []; typed = inl well; flows = d; kept = kept },
        subst (λ z. IsStack p g x bs (Go z) k) (ap (λ (z : Known). z.now) known) stack,
      )
  execute (Swap y z) k c f h before following' live stands holds (t, ty, tz, plain) (f1, (f2, dy, (f3, dz, (demands, same))), (u, known)) are (ky, kz) stack =
      let now : h ≡ f3 = ap (λ (z : Known). z.now) known ∙ same in
      let (first, second) = kept_append (side_demanded [] y f3) (side_demanded (and_peeked (peeked_side y) []) z f3) demands in
      swap_on p g x bs e w typed' globals bound variables y z c t k f f2 f3 (and_peeked (peeked_side y) []) live stands holds plain ty dy first ky
      (λ reached. record { waiting = and_peeked (peeked_side y) []; typed = tz; flows = dz; used = second; kept = looked_side x.relied (peeked_side y) z [] f2 f3 reached dz kz }) (subst (λ i. IsStack p g x bs (Go i) k) now stack)
  execute (If a s t) k c f h before following' live stands holds ((v, well, tested), ws, wt) (f1, d, (l, ds, (m, dt, (u, known)))) are (ka, ks, kt) stack =
      let now : h ≡ meet l.now m.now = ap (λ (z : Known). z.now) known in
      let breaks : following' ≡ m.breaks = ap (λ (z : Known). z.breaks) known in
      let later : AreBreaks x.loop m.breaks = subst (λ z. AreBreaks x.loop z) breaks are in
      let sooner : AreBreaks x.loop l.breaks = breaks_before x.loop l.breaks m.breaks (breaks_statement (around x) t (record { now = f1; breaks = l.breaks }) m dt) later in
      let one : Executes x c s f1 l.now = record { before = before; following = l.breaks; typed = ws; flows = ds; breaks = sooner; kept = ks } in
      let two : Executes x (following c s) t f1 m.now = record { before = l.breaks; following = m.breaks; typed = wt; flows = dt; breaks = later; kept = kt } in
      on (Evaluating a) (Needs (Choose s t) ∷ k) live (
        c,
        v,
        f,
        f1,
        stands,
        holds,
        record { waiting = []; typed = well; flows = d; kept = ka },
        (
          [],
          bs,
          Go h,
          awaited.chooses (judgements.seen_by a well) c (following c s) v f1 l.now m.now h tested stands (context_after p x bs c s stands) one two
              (subst (λ z. Implies l.now z) (sym now) (meet_first l.now m.now)) (subst (λ z. Implies m.now z) (sym now) (meet_second l.now m.now)),
          tt,
          stack,
        ),
      )
  execute (While place a s) k c f h before following' live stands holds ((v, well, tested), ws) (f1, d, (l, ds, (demands, known))) are (ka, ks) stack =
      let now : h ≡ meet f1 l.breaks = ap (λ (z : Known). z.now) known in
      let exit : LoopExit = record { place = place; head = f; breaks = l.breaks } in
      let first : Evaluates x.relied c a f v f1 = record { waiting = []; typed = well; flows = d; kept = ka } in
      let loop : IsLoop p x bs exit a s v f1 h = record {
        context = c;
        now = l.now;
        stands = stands;
        tested = tested;
        first = first;
        again = record { before = Unreached; following = l.breaks; typed = ws; flows = ds; breaks = implies_self l.breaks; kept = ks };
        back = at_least_implies l.now f demands.0;
        fails = subst (λ z. Implies f1 z) (sym now) (meet_first f1 l.breaks);
        left = subst (λ z. Implies l.breaks z) (sym now) (meet_second f1 l.breaks);
      } in
      on (Evaluating a) (Needs (Test a s) ∷ k) live (c, v, f, f1, stands, holds, first, ([], bs, Go h, awaited.tests (judgements.seen_by a well) exit v f1 h loop, tt, stack))
  execute (typed.Return None) k c f h before following' live stands holds is (f1, d, (u, known)) are kept stack =
      on (Returning None) k live (h, return_none (operands_in k) x.result c (subst (λ r. IsReturned c r None) stands.result is), stack)
  execute (typed.Return (Some (Convert from to a))) k c f h before following' live stands holds is (f1, d, (u, known)) are kept stack =
      return_on a from to k c f f1 c.result live stands holds stands.result refl is d kept (subst (λ z. IsStack p g x bs (Go z) k) (ap (λ (z : Known). z.now) known) stack)
  execute Break k c f h before following' live stands holds is (u, known) are kept stack =
      break_on k c f h before following' x.loop refl (stands.loop is) live holds (ap (λ (z : Known). z.breaks) known) are stack
  execute Continue k c f h before following' live stands holds is (demands, known) are kept stack = continue_on k f h x.loop refl (stands.loop is) live holds demands stack
  execute (Throw tag None) k c f h before following' live stands holds well (f1, d, (u, known)) are kept stack = on (Throwing tag 0) k live (Go h, stack)
  execute (Throw tag (Some a)) k c f h before following' live stands holds (has, is, well) (f1, d, (u, known)) are kept stack = thrown has tag a k c f f1 h live stands holds well d kept stack
  execute (Try s cs) k c f h before following' live stands holds (ws, wcs) (l, ds, dcs) are (ks, kcs) stack =
      let sooner : AreBreaks x.loop l.breaks = breaks_before x.loop l.breaks following' (breaks_clauses (around x) (caught f s) cs l (record { now = h; breaks = following' }) dcs) are in
      let y : Exits = relying x (caught f s) in
      let one : Executes y c s f l.now = record { before = before; following = l.breaks; typed = ws; flows = ds; breaks = sooner; kept = relied_body x.relied c.next_region s f ks } in
      let catches : Catches x (following c s) (caught f s) cs l.now h = record { before = l.breaks; following = following'; typed = wcs; flows = dcs; breaks = are; kept = kcs } in
      running p g y bs e w typed' globals bound variables (Executing s) (Handler cs ∷ k) live (
        c,
        f,
        l.now,
        context_relying p x bs c (caught f s) stands,
        holds,
        one,
        (
          x,
          following c s,
          caught f s,
          h,
          refl,
          context_after p x bs c s stands,
          holds_implied g f (caught f s) bs (emptied_implied (touched_statement s []) f) holds,
          catches,
          clauses_implied (around x) (caught f s) cs l (record { now = h; breaks = following' }) dcs,
          stack,
        ),
      )

  -- ---- items

  -- The remaining declarations and statements of a block, after one that lends a local, satisfy the typing and flow judgement `Continues`.
  lent_rest : (lent : ℕ) (js : Items) (c : Context) (f before following' ending : flow.State) → lent < c.next_local → IsLockedIn lent f → AreScoped c.locals c.next_local → WellTypedItems c js
      → Derives (rule_items (around (lending x lent)) js (record { now = f; breaks = before })) (record { now = ending; breaks = following' }) → AreBreaks x.loop following' → InItems x.relied c.next_region js
      → Continues (lending x lent) c js f (with_each Full (locks_of js) ending)
  lent_rest lent js c f before following' ending less locked scope well flows are kept = record {
    before = before;
    following = following';
    ending = ending;
    typed = well;
    flows = flows;
    breaks = are;
    kept = λ reached. locked_items x.relied lent (updated nowhere lent true) c.next_region (around (lending x lent)) js (record { now = f; breaks = before }) (record { now = ending; breaks = following' }) (updated_same nowhere lent true lent refl)
        (items_fresh (updated nowhere lent true) c js (lent_below nowhere c.next_local lent (λ n s. let k : false ≡ true = s in absurd (cc)) less) scope well) locked flows kept;
    ends = implies_self (with_each Full (locks_of js) ending);
  }

  again : (lent : ℕ) (js : Items) (ending h : flow.State) → Implies (with_each Full (lent ∷ locks_of js) ending) h → Implies (with_fullness Full (with_each Full (locks_of js) ending) lent) h
  again lent js ending h ends = subst (λ z. Implies z h) (sym (full_last lent (locks_of js) ending)) ends

  pub continue_with : (js : Items) (k : List Entry) (cs : List InScope) (c : Context) (f h before following' ending : flow.State) → IsNested k e w → LiveIn k bs → Within cs bs → IsContext p x bs c → Holds g f bs
      → WellTypedItems c js → Derives (rule_items (around x) js (record { now = f; breaks = before })) (record { now = ending; breaks = following' }) → AreBreaks x.loop following' → InItems x.relied c.next_region js
      → Implies (with_each Full (locks_of js) ending) h → IsStack p g x cs (Go h) k → IsWell p (continues_with js k e w)
  continue_with NoItems k cs c f h before following' ending nests live within stands holds well (u, known) are kept ends stack =
      let now : ending ≡ f = ap (λ (z : Known). z.now) known in
      let implies : Implies f h = subst (λ z. Implies z h) now ends in
      running p g x cs e w typed' globals (within_bound e cs bs within bound) (within_variables g cs bs within variables) Proceeding k (within_live k cs bs within live)
      (h, within_holds g h cs bs within (holds_implied g f h bs implies holds), stack)
  continue_with (MoreItems (Execute s) js) k cs c f h before following' ending nests live within stands holds (ws, wjs) (l, ds, djs') are (ks, kjs) ends stack =
      let djs = nothing_locked (around x) js l (record { now = ending; breaks = following' }) djs' in
      let sooner : AreBreaks x.loop l.breaks = breaks_before x.loop l.breaks following' (breaks_items (around x) js l (record { now = ending; breaks = following' }) djs) are in
      let one : Executes x c s f l.now = record { before = before; following = l.breaks; typed = ws; flows = ds; breaks = sooner; kept = ks } in
      let rest : Continues x (following c s) js l.now h =
      record { before = l.breaks; following = following'; ending = ending; typed = wjs; flows = djs; breaks = are; kept = λ reached. asked_of (may_end s) (ends_so nowhere (around x) s (record { now = f; breaks = before }) l (statement_fresh nowhere c s (λ n s. let k : false ≡ true = s in absurd (cc)) (scope_below p x bs c stands) ws) ds reached) kjs; ends = ends } in
      on (Executing s) (Rest js ∷ k) live (c, f, l.now, stands, holds, one, (cs, following c s, h, within, context_after p x bs c s stands, rest, stack))
  continue_with (MoreItems (Declare n t None) js) k cs c f h before following' ending nests live within stands holds ((number, has, alive), initial, wjs) (l, (f1, (u1, known1), (u2, known2)), djs') are (named, kv, kjs) ends stack =
      let djs = nothing_locked (around x) js l (record { now = ending; breaks = following' }) djs' in
      let l_is : l ≡ record { now = with_fullness Vacant f n; breaks = before } = known2 ∙ ap (λ z. record { now = z; breaks = before }) known1 in
      let flows = subst (λ (z : Known). Derives (rule_items (around x) js z) (record { now = ending; breaks = following' })) l_is djs in
      declares_blank p g x bs e w typed' globals bound variables n (values.kind_of t) t js cs c f h k nests live within stands holds (named, alive) number (sym (kind_meant (lives_in bs) t))
      (record { before = before; following = following'; ending = ending; typed = wjs; flows = flows; breaks = are; kept = λ reached. kjs; ends = ends }) stack
  continue_with (MoreItems (Declare n t (Some (Convert from to a))) js) k cs c f h before following' ending nests live within stands holds ((number, has, alive), (s, well, conv, from_is, to_is), wjs) (l, (f2, (f1, d, (u1, known1)), (u2, known2)), djs') are (named, kv, kjs) ends stack =
      let djs = nothing_locked (around x) js l (record { now = ending; breaks = following' }) djs' in
      let l_is : l ≡ record { now = with_fullness Full f1 n; breaks = before } = known2 ∙ ap (λ z. record { now = z; breaks = before }) known1 in
      let flows = subst (λ (z : Known). Derives (rule_items (around x) js z) (record { now = ending; breaks = following' })) l_is djs in
      let rest : Continues x (with_local true t c) js (with_fullness Full f1 n) h =
      record { before = before; following = following'; ending = ending; typed = wjs; flows = flows; breaks = are; kept = λ reached. kjs; ends = ends } in
      on (Evaluating a) (Needs (ConvertTo from to (target_by a)) ∷ Needs (Initialise n (values.kind_of t) js) ∷ k) live (
        c,
        s,
        f,
        f1,
        stands,
        holds,
        record { waiting = []; typed = inl well; flows = d; kept = kv },
        (
          [],
          bs,
          Val (Value (read bs t)) f1,
          awaited.converts c s t f1 (agrees_of p x bs c stands) (keeps_by g bs variables c.regions stands.regions) conv from_is to_is (target_typed c a s (inl well)),
          tt,
          ([], cs, Go h, awaited.initialises cs c t f1 h within stands (named, alive) number (sym (kind_meant (lives_in bs) t) ∙ kind_read (lives_in bs) t) rest, tt, stack),
        ),
      )
  continue_with (MoreItems (DeclareRegion r n) js) k cs c f h before following' ending nests live within stands holds ((region, less), (number, has, alive), wjs) (l, (u, known), djs') are kjs ends stack =
      let djs = nothing_locked (around x) js l (record { now = ending; breaks = following' }) djs' in
      let flows = subst (λ (z : Known). Derives (rule_items (around x) js z) (record { now = ending; breaks = following' })) known djs in
      let t : Ty = types.Handle (regions.Variable r) in
      let d : Context = with_opened scopes.Lexical c in
      let rest : Continues x (with_local false t d) js (with_fullness Full f n) h =
      record { before = before; following = following'; ending = ending; typed = wjs; flows = flows; breaks = are; kept = λ reached. kjs; ends = ends } in
      let l : Life = OfRegion (length w.regions) (ends_of k) (lent_now g) in
      let inner : List InScope = Names c.next_region l true ∷ bs in
      let here : IsContext p x inner d = context_lexical p x bs c stands g variables (length w.regions) (ends_of k) live.0 alive in
      let stands_for : lives_in inner (regions.Variable r) ≡ l = ap (λ i. life_named inner i) region ∙ same_name c.next_region l (life_named bs c.next_region) in
      let there : IsLive d (regions.Variable c.region) = Contains-tail (regions.Variable c.next_region) (live_regions c.regions.live c.regions.opened) (regions.Variable c.region) alive in
      running p g x inner e (opened_as Lexical w) (opened_typed g w.regions (new_region Lexical ∷ []) w.objects typed') globals (tt, bound) (opened_known g (length w.regions) (ends_of k), variables)
      (Naming n (record { kind = kinds.Handle; value = values.Handle (length w.regions) }) js) (CloseLexical (length w.regions) ∷ k)
      (((λ is. opened_lasting (length w.regions) (ends_of k) (lent_now g)), live_more (length w.regions) (ends_of k) bs live.0), live.1) (
        d,
        false,
        t,
        cs,
        f,
        h,
        older (Names c.next_region l true) cs bs tt within,
        here,
        (holds.0, (tt, holds.1)),
        (new_handle c.next_region r region, there),
        number,
        (refl, subst (λ z. IsNumber z (length w.regions)) (sym stands_for) refl),
        (tt, tt),
        rest,
        (h, implies_self h, within_live k cs bs within live, stack),
      )
  continue_with (MoreItems (OpenRegion r n place key) js) k cs c f h before following' ending nests live within stands holds (((home, has), there), (number, variable, alive), wjs) (l, (f1, (demands, known1), (u, known2)), djs) are (spared, kjs) ends stack =
      let t : Ty = types.Key (regions.Variable r) in
      let now : l ≡ record { now = with_fullness Full (with_fullness Locked f key) n; breaks = before } = known2 ∙ ap (λ z. record { now = z; breaks = before }) known1 in
      let bound_is = bound_to (lives_in bs) c.locals bs key t home stands.scope has in
      let b = bound_is.bound in
      let bound_among = bound_is.among in
      let number_of = bound_is.number in
      let of_type = bound_is.of_type in
      let hides : b.is_hidden ≡ true = bound_is.hidden in
      let below = scope_below p x bs c stands in
      let less : key < c.next_local = found_below c.locals c.next_local key t home below has in
      let lent_now' : IsLockedIn key (with_fullness Full (with_fullness Locked f key) n) = now_locked f key n holds.0 demands.0 (λ same. let e : key ≡ n = same in absurd (omega (arith, less, e, number))) in
      let set : IsSet f key = not-true (is_vacant (flow.fullness f key)) demands.0 in
      let rest = lent_rest key js (with_local false (types.Handle (regions.Variable r)) (with_key_opened r c)) (with_fullness Full (with_fullness Locked f key) n) before following' ending (let past : key < suc c.next_local = omega (arith, less) in past) lent_now' (next_in_scope c below) wjs
      (subst (λ (z : Known). Derives (rule_items (around (lending x key)) js z) (record { now = ending; breaks = following' })) now djs) are kjs in
      looks_bound p g x bs e w typed' globals bound variables (Needs (OpenBy n key js) ∷ k) key t b f nests.0 live holds bound_among number_of of_type (used_full f key demands.0 demands.1.0) (
        [],
        cs,
        Go h,
        awaited.opens_by cs c b r f (with_each Full (locks_of js) ending) h within stands bound_among number_of of_type hides set spared (used_full f key demands.0 demands.1.0) (local_type_known c key t home stands.known has) alive number rest (again key js ending h ends),
        tt,
        stack,
      )
  continue_with (MoreItems (DeclareAlias r n t place source) js) k cs c f h before following' ending nests live within stands holds ((region, less), (v, ((home, has), there), unique, of_type), (number, variable, alive), wjs) (l, (f1, (demands, known1), (u, known2)), djs) are (spared, kjs) ends stack =
      let now : l ≡ record { now = with_fullness Full (with_fullness Locked f source) n; breaks = before } = known2 ∙ ap (λ z. record { now = z; breaks = before }) known1 in
      let bound_is = bound_to (lives_in bs) c.locals bs source v home stands.scope has in
      let b = bound_is.bound in
      let bound_among = bound_is.among in
      let number_of = bound_is.number in
      let of_bound = bound_is.of_type in
      let hides : b.is_hidden ≡ true = bound_is.hidden ∙ unique_moved v unique in
      let below = scope_below p x bs c stands in
      let less' : source < c.next_local = found_below c.locals c.next_local source v home below has in
      let lent_now' : IsLockedIn source (with_fullness Full (with_fullness Locked f source) n) = now_locked f source n holds.0 demands.0 (λ same. let e : source ≡ n = same in absurd (omega (arith, less', e, number))) in
      let full : IsFullIn f source = used_full f source demands.0 demands.1.0 in
      let set : IsSet f source = not-true (is_vacant (flow.fullness f source)) demands.0 in
      let rest = lent_rest source js (with_local true t (with_opened scopes.Alias c)) (with_fullness Full (with_fullness Locked f source) n) before following' ending (let past : source < suc c.next_local = omega (arith, less') in past) lent_now' (next_in_scope c below) wjs
      (subst (λ (z : Known). Derives (rule_items (around (lending x source)) js z) (record { now = ending; breaks = following' })) now djs) are kjs in
      subst (λ kind. IsWell p (loaded_from kind (e.locals source) (Needs (AliasOf n source js) ∷ k) e w)) (sym (ap values.kind_of of_type ∙ alias_kind (regions.Variable r) v))
      (looks_bound p g x bs e w typed' globals bound variables (Needs (AliasOf n source js) ∷ k) source v b f nests.0 live holds bound_among number_of of_bound full (
        [],
        cs,
        Go h,
        awaited.aliases cs c b v t f (with_each Full (locks_of js) ending) h within stands bound_among number_of of_bound hides set spared full unique (local_type_known c source v home stands.known has)
            (of_type ∙ ap (λ i. with_region_of (regions.Variable i) v) region) alive number rest (again source js ending h ends),
        tt,
        stack,
      ))
  continue_with (MoreItems (DeclareKey r n) js) k cs c f h before following' ending nests live within stands holds ((region, less), (number, variable, alive), wjs) (l, (u, known), djs') are kjs ends stack =
      let djs = nothing_locked (around x) js l (record { now = ending; breaks = following' }) djs' in
      let flows = subst (λ (z : Known). Derives (rule_items (around x) js z) (record { now = ending; breaks = following' })) known djs in
      keys_on p g x bs e w typed' globals bound variables n r js k cs c f h nests live holds within stands region alive number
      (record { before = before; following = following'; ending = ending; typed = wjs; flows = flows; breaks = are; kept = λ reached. kjs; ends = ends }) stack
