-- A step does not raise the cost of a run. The cost of a run is the sum of the costs of the focus (next action), of the
-- stack and of the resources used so far. This sum never increases. If steps are counted, the sum decreases at each step.
use Rattle.std.proofs.Common.{◌≡◌, ℕ, suc, ◌+◌, ◌*◌, ◌-◌, ◌%◌, ◌^◌, ◌<◌, ◌≤◌, min, List, [], ◌∷◌, ◌++◌, drop, length, reverse, Option, Some, None, refl, ap, arith, suc-mul}
use Rattle.std.specs.Prelude.{◌==◌, unwrap_or, slice_get, get_or}
use Rattle.cyc_words.proofs.Items.{get_or-map}
use Rattle.cyc_types.specs.declared.typed.Kind.TheVariants as kinds
use Rattle.cyc_types.specs.declared.typed.Callee.{Callee}
use Rattle.cyc_types.specs.declared.typed.Callee.TheVariants as callees
use Rattle.cyc_types.specs.Types.{Ty}
use Rattle.cyc_types.specs.TypedTrees.{Expression, Converted, Convert, Statement, Block, Empty, Evaluate, Swap, If, While, Break, Continue, Throw, Try, Items, NoItems, MoreItems, Execute, Declare, DeclareRegion, OpenRegion, DeclareAlias, DeclareKey, Clauses, NoClauses, Default, Case}
use Rattle.cyc_types.specs.TypedTrees.{Function, Program}
use Rattle.cyc_types.specs.TypedTrees as typed
use Rattle.cyc_meaning.specs.Values.{Value, Int, Null, Thin, Fat, Handle, Key, Operand, kind_of, is_kind}
use Rattle.cyc_meaning.specs.State.{Stack, Region, Lexical, Dynamic, World, Access, Found, Closed, Missing, region_at, Environment, Awaiting, OpenBy, AliasOf, AwaitingPlace, Entry, Needs, NeedsPlace, Discard, Rest, Join, Loop, CloseRegion, CloseLexical, EndLoan, Handler, Caller, Main}
use Rattle.cyc_meaning.specs.State.{Write, Focus, Evaluating, Locating, Given, GivenPlace, Executing, Proceeding, Calling, Entering, Binding, Naming, Writing, Beginning, Repeating, Swapping, Breaking, Continuing, Returning, Throwing, Catching, State, Running, Ended, Dead, Wrong}
use Rattle.cyc_meaning.specs.Objects.{created}
use Rattle.cyc_meaning.specs.Parts.{step_writing, closing}
use Rattle.cyc_meaning.specs.Allocation.{blanks}
use Rattle.cyc_meaning.specs.Exceptions.{throws, catches, step_catching}
use Rattle.cyc_meaning.specs.Regions.{closing_lexical}
use Rattle.cyc_meaning.specs.Step.{values_of, called, step_calling, step_binding, step_executing, declares, continues_with, step_proceeding, step_breaking, step_continuing, returned, ends_with, main_returned, step_returning, step_throwing, stepped}
use Rattle.cyc_meaning.specs.Step as steps
use Rattle.cyc_bound.specs.declared.costs.Measure.{Measure}
use Rattle.cyc_bound.specs.Costs.{too_many, step_cost, callee_cost, expression_cost, value_cost, thrown_cost, caught_cost, statement_cost, items_cost, clauses_cost, function_cost, IsClosed}
use Rattle.cyc_bound.specs.inside.Remaining.{Delivery, Nothing, Anything, focus_delivers, entry_delivers, stack_cost, focus_cost, TakesAtMost}
use Rattle.cyc_bound.proofs.CostLemmas.{Fits, FitsIn, loop_is_free, items_least, clauses_least, awaiting_least, awaiting_place_least, nothing}
use Rattle.cyc_bound.proofs.CostWorlds.{Counts}
use Rattle.cyc_bound.proofs.CostValues.{int, either, gives_value, throws_now, returns_now, loads_from, stores_at, names, locating, swapping, swapping_values, given_place, begins, repeating, evaluating, testing_loop, given}

-- ---- steps within one call

module _ (program : Program) (m : Measure) (costs : List ℕ) (counted : World → ℕ) (adds : Counts m counted) (k : ℕ) (few : k + step_cost m < too_many) where
  abbrev t : ℕ
  t = step_cost m

  abbrev S : Delivery → List Entry → ℕ
  S d stack = stack_cost m costs d stack

  abbrev A : List Entry → World → ℕ
  A stack w = S Anything stack + counted w

  abbrev B : State → Type 0
  B s = TakesAtMost counted m costs k s

  writing : (writes : List Write) (o : Option Operand) (stack : List Entry) (e : Environment) (w : World) → length writes * t + 2 * t + A stack w ≤ k + t → B (step_writing writes o stack e w)
  writing [] (Some v) stack e w h = gives_value program m costs counted adds k few v stack e w (omega (arith, h))
  writing [] None stack e w h = omega (arith, h)
  writing (x ∷ writes) result stack e w h = stores_at program m costs counted adds k few x.place x.operand (Writing writes result) stack e w (omega (arith, h, suc-mul (length writes) t))

  putchar_prints : (arguments : List Value) (stack : List Entry) (e : Environment) (w : World) → t + A stack w ≤ k → B (steps.prints arguments stack e w)
  putchar_prints (Int word ∷ []) stack e w h = gives_value program m costs counted adds k few (int (word % 256)) stack e (record w { output = w.output ++ word % 256 ∷ [] }) (omega (arith, h, adds.printed w (w.output ++ word % 256 ∷ [])))
  putchar_prints [] stack e w h = tt
  putchar_prints (Int word ∷ value ∷ arguments) stack e w h = tt
  putchar_prints (Null ∷ arguments) stack e w h = tt
  putchar_prints (Thin object offset ∷ arguments) stack e w h = tt
  putchar_prints (Fat object start count index ∷ arguments) stack e w h = tt
  putchar_prints (Handle region ∷ arguments) stack e w h = tt
  putchar_prints (Key region ∷ arguments) stack e w h = tt

  getchar_reads : (arguments : List Value) (stack : List Entry) (e : Environment) (w : World) → t + A stack w ≤ k → B (steps.reads arguments stack e w)
  getchar_reads [] stack e w h = gives_value program m costs counted adds k few (int (unwrap_or (slice_get w.input 0) (2 ^ 32 - 1))) stack e (record w { input = drop 1 w.input }) (omega (arith, h, adds.read w (drop 1 w.input)))
  getchar_reads (value ∷ arguments) stack e w h = tt

  binding : (number : ℕ) (types : List Ty) (arguments : List Operand) (body : Items) (stack : List Entry) (e : Environment) (w : World)
      → length types * t + (2 * t + items_cost m costs body) + A stack w ≤ k + t → B (step_binding number types arguments body stack e w)
  binding number [] [] body stack e w h = omega (arith, h)
  binding number [] (value ∷ arguments) body stack e w h = tt
  binding number (type ∷ types) [] body stack e w h = tt
  binding number (type ∷ types) (value ∷ arguments) body stack e w h =
      either program m costs counted adds k few (is_kind value.kind (kind_of type)) _ _ (names program m costs counted adds k few (region_at w e.home) (Binding (suc number) types arguments body) number (kind_of type) (Some value.value) stack e w (omega (arith, h, suc-mul (length types) t))) tt

  -- ---- exceptions

  catching_in : (value : ℕ) (number : Option ℕ) (items : Items) (stack : List Entry) (e : Environment) (w : World)
      → caught_cost m number (items_cost m costs items) + A stack w ≤ k → B (catches value number items stack e w)
  catching_in value None items stack e w h = omega (arith, h, adds.opened Stack w)
  catching_in value (Some number) items stack e w h = omega (arith, h, adds.opened Stack w)

  catching : (tag value : ℕ) (clauses : Clauses) (stack : List Entry) (e : Environment) (w : World) → clauses_cost m costs clauses + A stack w ≤ k + t → B (step_catching tag value clauses stack e w)
  catching tag value NoClauses stack e w h = throws_now program m costs counted adds k few tag value stack e w (omega (arith, h))
  catching tag value (Default region items) stack e w h = catching_in value None items stack e w (omega (arith, h))
  catching tag value (Case caught number region items later) stack e w h =
      either program m costs counted adds k few (caught == tag) _ _ (catching_in value number items stack e w (omega (arith, h))) (omega (arith, h))

  -- ---- statements

  returning_value : (o : Option Converted) (stack : List Entry) (e : Environment) (w : World) → 2 * t + value_cost m costs o + A stack w ≤ k + t → B (steps.returns o stack e w)
  returning_value None stack e w h = returns_now program m costs counted adds k few None stack e w (omega (arith, h))
  returning_value (Some (Convert from to a)) stack e w h = omega (arith, h)

  unwinds : (focus : Focus) (stack : List Entry) (e : Environment) (w : World) → focus_cost m costs focus ≡ t → focus_delivers focus ≡ Nothing → t + A stack w ≤ k
      → focus_cost m costs focus + (S (focus_delivers focus) stack + counted w) ≤ k
  unwinds focus stack e w cost none h =
      let same : S (focus_delivers focus) stack ≡ S Nothing stack = ap (λ (d : Delivery). S d stack) none in
      omega (arith, h, few, cost, same, nothing m costs Anything stack (omega (arith, h, few)))

  throwing_new : (tag : ℕ) (o : Option Expression) (stack : List Entry) (e : Environment) (w : World) → 2 * t + thrown_cost m costs o + A stack w ≤ k + t → B (throws tag o stack e w)
  throwing_new tag None stack e w h = throws_now program m costs counted adds k few tag 0 stack e w (omega (arith, h))
  throwing_new tag (Some a) stack e w h = omega (arith, h)

  executing : (s : Statement) (stack : List Entry) (e : Environment) (w : World) → statement_cost m costs s + A stack w ≤ k + t → B (step_executing s stack e w)
  executing (Block region items) stack e w h = omega (arith, h, adds.opened Stack w)
  executing Empty stack e w h = omega (arith, h)
  executing (Evaluate a) stack e w h = omega (arith, h)
  executing (Swap first right) stack e w h = swapping program m costs counted adds k few first right stack e w h
  executing (If condition first second) stack e w h = omega (arith, h)
  executing (While place condition body) stack e w h = testing_loop program m costs counted adds k few condition body stack e w h
  executing (typed.Return value) stack e w h = returning_value value stack e w h
  executing Break stack e w h = unwinds Breaking stack e w refl refl (omega (arith, h))
  executing Continue stack e w h = unwinds Continuing stack e w refl refl (omega (arith, h))
  executing (Throw tag value) stack e w h = throwing_new tag value stack e w h
  executing (Try s handler) stack e w h = omega (arith, h)

  declaring : (number : ℕ) (type : Ty) (o : Option Converted) (items : Items) (stack : List Entry) (e : Environment) (w : World)
      → t + value_cost m costs o + items_cost m costs items + A stack w ≤ k → B (declares number type o items stack e w)
  declaring number type None items stack e w h = names program m costs counted adds k few (region_at w e.home) Proceeding number (kind_of type) None (Rest items ∷ stack) e w (omega (arith, h))
  declaring number type (Some (Convert from to a)) items stack e w h = omega (arith, h)

  continuing_with : (items : Items) (stack : List Entry) (e : Environment) (w : World) → items_cost m costs items + A stack w ≤ k → B (continues_with items stack e w)
  continuing_with NoItems stack e w h = h
  continuing_with (MoreItems (Execute s) items) stack e w h = omega (arith, h)
  continuing_with (MoreItems (Declare number type value) items) stack e w h = declaring number type value items stack e w h
  continuing_with (MoreItems (DeclareRegion region number) items) stack e w h = omega (arith, h, adds.opened Lexical w)
  continuing_with (MoreItems (OpenRegion region number p key) items) stack e w h = loads_from program m costs counted adds k few kinds.Key (e.locals key) (Needs (OpenBy number key items) ∷ stack) e w (omega (arith, h))
  continuing_with (MoreItems (DeclareAlias region number type p source) items) stack e w h =
      loads_from program m costs counted adds k few (kind_of type) (e.locals source) (Needs (AliasOf number source items) ∷ stack) e w (omega (arith, h))
  continuing_with (MoreItems (DeclareKey region number) items) stack e w h = omega (arith, h, adds.opened Dynamic w)

  -- ---- unwinding: each popped entry costs at least a step

  abbrev N : Entry → List Entry → World → ℕ
  N entry stack w = t + (S Nothing (entry ∷ stack) + counted w)

  leaves_needs : (a : Awaiting) (stack : List Entry) (w : World) → N (Needs a) stack w ≤ k + t → t + (S Nothing stack + counted w) ≤ k
  leaves_needs a stack w h =
      omega (arith, h, few, awaiting_least m costs a (omega (arith, h, few)), nothing m costs (entry_delivers (Needs a)) stack (omega (arith, h, few)))

  leaves_place : (a : AwaitingPlace) (stack : List Entry) (w : World) → N (NeedsPlace a) stack w ≤ k + t → t + (S Nothing stack + counted w) ≤ k
  leaves_place a stack w h = omega (arith, h, few, awaiting_place_least m costs a, nothing m costs Anything stack (omega (arith, h, few)))

  leaves_rest : (items : Items) (stack : List Entry) (w : World) → N (Rest items) stack w ≤ k + t → t + (S Nothing stack + counted w) ≤ k
  leaves_rest items stack w h = omega (arith, h, few, items_least m costs items, nothing m costs Anything stack (omega (arith, h, few)))

  leaves_loop : (condition : Expression) (body : Statement) (stack : List Entry) (w : World) → N (Loop condition body) stack w ≤ k + t → t + (S Nothing stack + counted w) ≤ k
  leaves_loop condition body stack w h =
      let free = loop_is_free (t + (expression_cost m costs condition + statement_cost m costs body)) (omega (arith, h, few)) in
      omega (arith, h, few, free, nothing m costs Anything stack (omega (arith, h, few)))

  leaves_handler : (handler : Clauses) (stack : List Entry) (w : World) → N (Handler handler) stack w ≤ k + t → t + (S Nothing stack + counted w) ≤ k
  leaves_handler handler stack w h = omega (arith, h, few, clauses_least m costs handler, nothing m costs Anything stack (omega (arith, h, few)))

  leaves : (stack : List Entry) (w : World) → t + (t + S Anything stack + counted w) ≤ k + t → t + (S Nothing stack + counted w) ≤ k
  leaves stack w h = omega (arith, h, few, nothing m costs Anything stack (omega (arith, h, few)))

  closes : (a : Access Region) (focus : Focus) (region home : ℕ) (stack : List Entry) (e : Environment) (w : World) → region_at w region ≡ a
      → focus_cost m costs focus + (S (focus_delivers focus) stack + counted w) ≤ k → B (closing a focus region home stack e w)
  closes (Found r) focus region home stack e w is h = omega (arith, h, adds.closed w region r is)
  closes Closed focus region home stack e w is h = tt
  closes Missing focus region home stack e w is h = tt

  closes_lexical : (a : Access Region) (focus : Focus) (region : ℕ) (stack : List Entry) (e : Environment) (w : World) → region_at w region ≡ a
      → focus_cost m costs focus + (S (focus_delivers focus) stack + counted w) ≤ k → B (closing_lexical a focus region stack e w)
  closes_lexical (Found r) focus region stack e w is h = omega (arith, h, adds.closed w region r is)
  closes_lexical Closed focus region stack e w is h = tt
  closes_lexical Missing focus region stack e w is h = tt

  breaking : (stack : List Entry) (e : Environment) (w : World) → t + (S Nothing stack + counted w) ≤ k + t → B (step_breaking stack e w)
  breaking [] e w h = tt
  breaking (Needs a ∷ stack) e w h = leaves_needs a stack w h
  breaking (NeedsPlace a ∷ stack) e w h = leaves_place a stack w h
  breaking (Discard ∷ stack) e w h = leaves stack w (omega (arith, h))
  breaking (Rest items ∷ stack) e w h = leaves_rest items stack w h
  breaking (Join ∷ stack) e w h = leaves stack w (omega (arith, h))
  breaking (Loop condition body ∷ stack) e w h = omega (arith, h, loop_is_free (t + (expression_cost m costs condition + statement_cost m costs body)) (omega (arith, h, few)))
  breaking (CloseRegion region home ∷ stack) e w h = closes (region_at w region) Breaking region home stack e w refl (leaves stack w (omega (arith, h)))
  breaking (CloseLexical region ∷ stack) e w h = closes_lexical (region_at w region) Breaking region stack e w refl (leaves stack w (omega (arith, h)))
  breaking (EndLoan lent ∷ stack) e w h = leaves stack w (omega (arith, h))
  breaking (Handler handler ∷ stack) e w h = leaves_handler handler stack w h
  breaking (Caller outer ∷ stack) e w h = tt
  breaking (Main ∷ stack) e w h = tt

  continuing : (stack : List Entry) (e : Environment) (w : World) → t + (S Nothing stack + counted w) ≤ k + t → B (step_continuing stack e w)
  continuing [] e w h = tt
  continuing (Needs a ∷ stack) e w h = leaves_needs a stack w h
  continuing (NeedsPlace a ∷ stack) e w h = leaves_place a stack w h
  continuing (Discard ∷ stack) e w h = leaves stack w (omega (arith, h))
  continuing (Rest items ∷ stack) e w h = leaves_rest items stack w h
  continuing (Join ∷ stack) e w h = leaves stack w (omega (arith, h))
  continuing (Loop condition body ∷ stack) e w h = testing_loop program m costs counted adds k few condition body stack e w (omega (arith, h))
  continuing (CloseRegion region home ∷ stack) e w h = closes (region_at w region) Continuing region home stack e w refl (leaves stack w (omega (arith, h)))
  continuing (CloseLexical region ∷ stack) e w h = closes_lexical (region_at w region) Continuing region stack e w refl (leaves stack w (omega (arith, h)))
  continuing (EndLoan lent ∷ stack) e w h = leaves stack w (omega (arith, h))
  continuing (Handler handler ∷ stack) e w h = leaves_handler handler stack w h
  continuing (Caller outer ∷ stack) e w h = tt
  continuing (Main ∷ stack) e w h = tt

  ending_with : (value : Value) (w : World) → B (ends_with value w)
  ending_with (Int word) w = tt
  ending_with Null w = tt
  ending_with (Thin object offset) w = tt
  ending_with (Fat object start count index) w = tt
  ending_with (Handle region) w = tt
  ending_with (Key region) w = tt

  ending_main : (o : Option Operand) (w : World) → B (main_returned o w)
  ending_main None w = tt
  ending_main (Some value) w = ending_with value.value w

-- ---- steps that begin or end a call

module _ (program : Program) (m : Measure) (costs : List ℕ) (closed : IsClosed program m costs) (counted : World → ℕ) (adds : Counts m counted) (k : ℕ) (few : k + step_cost m < too_many) where
  abbrev D : State → Type 0
  D s = TakesAtMost counted m costs k s

  abbrev R : Delivery → List Entry → World → ℕ
  R d stack w = stack_cost m costs d stack + counted w

  -- a call continues with the function's body; the function's cost is at least the body's cost
  begins_call : (number : ℕ) (arguments : List Operand) (outer : Environment) (stack : List Entry) (w : World) (o : Option Function) → slice_get program.functions number ≡ o
      → step_cost m + get_or costs number 0 + R Anything stack w ≤ k → D (called o arguments (Caller outer ∷ stack) w)
  begins_call number arguments outer stack w None there h = tt
  begins_call number arguments outer stack w (Some f) there h =
      let cost = get_or-map (λ (g : Function). min too_many (function_cost m costs g)) program.functions number f there in
      either program m costs counted adds k few (length arguments == length f.parameters) _ _ (omega (arith, h, few, cost, closed number)) tt

  calling : (callee : Callee) (arguments : List Operand) (stack : List Entry) (e : Environment) (w : World)
      → callee_cost m costs callee + R Anything stack w ≤ k + step_cost m → D (step_calling program callee arguments stack e w)
  calling callees.Putchar arguments stack e w h = putchar_prints program m costs counted adds k few (values_of arguments) stack e w (omega (arith, h))
  calling callees.Getchar arguments stack e w h = getchar_reads program m costs counted adds k few (values_of arguments) stack e w (omega (arith, h))
  calling (callees.Function number) arguments stack e w h = begins_call number (reverse arguments) e stack w (slice_get program.functions number) refl (omega (arith, h))

  proceeding : (stack : List Entry) (e : Environment) (w : World) → step_cost m + R Anything stack w ≤ k + step_cost m → D (step_proceeding stack e w)
  proceeding [] e w h = tt
  proceeding (Needs a ∷ stack) e w h = tt
  proceeding (NeedsPlace a ∷ stack) e w h = tt
  proceeding (Discard ∷ stack) e w h = omega (arith, h)
  proceeding (Rest items ∷ stack) e w h = continuing_with program m costs counted adds k few items stack e w (omega (arith, h))
  proceeding (Join ∷ stack) e w h = omega (arith, h)
  proceeding (Loop condition body ∷ stack) e w h = testing_loop program m costs counted adds k few condition body stack e w (omega (arith, h))
  proceeding (CloseRegion region home ∷ stack) e w h = closes program m costs counted adds k few (region_at w region) Proceeding region home stack e w refl (omega (arith, h))
  proceeding (CloseLexical region ∷ stack) e w h = closes_lexical program m costs counted adds k few (region_at w region) Proceeding region stack e w refl (omega (arith, h))
  proceeding (EndLoan lent ∷ stack) e w h = omega (arith, h)
  proceeding (Handler handler ∷ stack) e w h = omega (arith, h, clauses_least m costs handler)
  proceeding (Caller outer ∷ stack) e w h = omega (arith, h)
  proceeding (Main ∷ stack) e w h = tt

  returning_to : (o : Option Operand) (stack : List Entry) (e : Environment) (w : World) → step_cost m + R Anything stack w ≤ k → TakesAtMost counted m costs k (returned o stack e w)
  returning_to (Some v) stack e w h = gives_value program m costs counted adds k few v stack e w h
  returning_to None stack e w h = h

  returning : (o : Option Operand) (stack : List Entry) (e : Environment) (w : World) → step_cost m + R Nothing stack w ≤ k + step_cost m → D (step_returning o stack e w)
  returning o [] e w h = tt
  returning o (Needs a ∷ stack) e w h = leaves_needs program m costs counted adds k few a stack w h
  returning o (NeedsPlace a ∷ stack) e w h = leaves_place program m costs counted adds k few a stack w h
  returning o (Discard ∷ stack) e w h = leaves program m costs counted adds k few stack w (omega (arith, h))
  returning o (Rest items ∷ stack) e w h = leaves_rest program m costs counted adds k few items stack w h
  returning o (Join ∷ stack) e w h = leaves program m costs counted adds k few stack w (omega (arith, h))
  returning o (Loop condition body ∷ stack) e w h = leaves_loop program m costs counted adds k few condition body stack w h
  returning o (CloseRegion region home ∷ stack) e w h = closes program m costs counted adds k few (region_at w region) (Returning o) region home stack e w refl (leaves program m costs counted adds k few stack w (omega (arith, h)))
  returning o (CloseLexical region ∷ stack) e w h = closes_lexical program m costs counted adds k few (region_at w region) (Returning o) region stack e w refl (leaves program m costs counted adds k few stack w (omega (arith, h)))
  returning o (EndLoan lent ∷ stack) e w h = leaves program m costs counted adds k few stack w (omega (arith, h))
  returning o (Handler handler ∷ stack) e w h = leaves_handler program m costs counted adds k few handler stack w h
  returning o (Caller outer ∷ stack) e w h = returning_to o stack outer w (omega (arith, h))
  returning o (Main ∷ stack) e w h = ending_main program m costs counted adds k few o w

  throwing : (tag value : ℕ) (stack : List Entry) (e : Environment) (w : World) → step_cost m + R Nothing stack w ≤ k + step_cost m → D (step_throwing tag value stack e w)
  throwing tag value [] e w h = tt
  throwing tag value (Needs a ∷ stack) e w h = leaves_needs program m costs counted adds k few a stack w h
  throwing tag value (NeedsPlace a ∷ stack) e w h = leaves_place program m costs counted adds k few a stack w h
  throwing tag value (Discard ∷ stack) e w h = leaves program m costs counted adds k few stack w (omega (arith, h))
  throwing tag value (Rest items ∷ stack) e w h = leaves_rest program m costs counted adds k few items stack w h
  throwing tag value (Join ∷ stack) e w h = leaves program m costs counted adds k few stack w (omega (arith, h))
  throwing tag value (Loop condition body ∷ stack) e w h = leaves_loop program m costs counted adds k few condition body stack w h
  throwing tag value (CloseRegion region home ∷ stack) e w h = closes program m costs counted adds k few (region_at w region) (Throwing tag value) region home stack e w refl (leaves program m costs counted adds k few stack w (omega (arith, h)))
  throwing tag value (CloseLexical region ∷ stack) e w h = closes_lexical program m costs counted adds k few (region_at w region) (Throwing tag value) region stack e w refl (leaves program m costs counted adds k few stack w (omega (arith, h)))
  throwing tag value (EndLoan lent ∷ stack) e w h = leaves program m costs counted adds k few stack w (omega (arith, h))
  throwing tag value (Handler handler ∷ stack) e w h = omega (arith, h)
  throwing tag value (Caller outer ∷ stack) e w h = throws_now program m costs counted adds k few tag value stack outer w (omega (arith, h))
  throwing tag value (Main ∷ stack) e w h = leaves program m costs counted adds k few stack w (omega (arith, h))

  -- ---- a step

  stepping : (focus : Focus) (stack : List Entry) (e : Environment) (w : World) → Fits m focus
      → focus_cost m costs focus + R (focus_delivers focus) stack w ≤ k + step_cost m → D (stepped program focus stack e w)
  stepping (Evaluating a) stack e w fits h = evaluating program m costs counted adds k few a stack e w h
  stepping (Locating d) stack e w fits h = locating program m costs counted adds k few d stack e w h
  stepping (Given v) stack e w fits h = given program m costs counted adds k few v stack e w fits h
  stepping (GivenPlace place) stack e w fits h = given_place program m costs counted adds k few place stack e w h
  stepping (Executing s) stack e w fits h = executing program m costs counted adds k few s stack e w h
  stepping Proceeding stack e w fits h = proceeding stack e w h
  stepping (Calling callee arguments) stack e w fits h = calling callee arguments stack e w h
  stepping (Entering f arguments) stack e w fits h = omega (arith, h, adds.opened Stack w)
  stepping (Binding number types arguments body) stack e w fits h = binding program m costs counted adds k few number types arguments body stack e w h
  stepping (Naming number operand items) stack e w fits h =
      names program m costs counted adds k few (region_at w e.home) Proceeding number operand.kind (Some operand.value) (Rest items ∷ stack) e w (omega (arith, h))
  stepping (Writing writes result) stack e w fits h = writing program m costs counted adds k few writes result stack e w h
  stepping (Beginning owner count level kind element) stack e w fits h = begins program m costs counted adds k few (created w owner (blanks count kind)) owner count level kind element stack e w refl h
  stepping (Repeating object count index level kind element) stack e w fits h = repeating program m costs counted adds k few object count index level kind element stack e w h
  stepping (Swapping kind first right before) stack e w fits h = swapping_values program m costs counted adds k few kind first right before stack e w h
  stepping Breaking stack e w fits h = breaking program m costs counted adds k few stack e w h
  stepping Continuing stack e w fits h = continuing program m costs counted adds k few stack e w h
  stepping (Returning o) stack e w fits h = returning o stack e w h
  stepping (Throwing tag value) stack e w fits h = throwing tag value stack e w h
  stepping (Catching tag value handler) stack e w fits h = catching program m costs counted adds k few tag value handler stack e w h

  pub step_costs : (s : State) → FitsIn m s → TakesAtMost counted m costs (k + step_cost m) s → TakesAtMost counted m costs k (steps.step program s)
  step_costs (Running focus stack e w) fits h = stepping focus stack e w fits h
  step_costs (Ended ending output input) fits h = tt
  step_costs (Dead output input) fits h = tt
  step_costs (Wrong output input) fits h = tt
