-- Each live variable of a block is a local of an active call: the steps that call functions and execute statements keep this invariant.
use Rattle.std.proofs.Common.{◌≡◌, ℕ, suc, List, [], ◌∷◌, length, reverse, Option, Some, None, refl, arith}
use Rattle.std.specs.Prelude.{◌≤◌, ◌+◌, ◌==◌, slice_get}
use Rattle.cyc_types.specs.declared.typed.Kind.TheVariants as kinds
use Rattle.cyc_types.specs.declared.typed.Callee.{Callee}
use Rattle.cyc_types.specs.declared.typed.Callee.TheVariants as callees
use Rattle.cyc_types.specs.Types.{Ty}
use Rattle.cyc_types.specs.TypedTrees.{Expression, Converted, Convert, Statement, Block, Empty, Evaluate, Swap, If, While, Break, Continue, Throw, Try, Items, NoItems, MoreItems, Execute, Declare, DeclareRegion, OpenRegion, DeclareAlias, DeclareKey, Clauses, NoClauses, Default, Case}
use Rattle.cyc_types.specs.TypedTrees.{Function, Program}
use Rattle.cyc_types.specs.TypedTrees as typed
use Rattle.cyc_meaning.specs.Values.{Value, Int, Operand, kind_of, is_kind}
use Rattle.cyc_meaning.specs.State.{opened, Stack, Lexical, Dynamic, Region, Object, World, Access, Found, Closed, Missing, region_at, Environment, no_locals, Awaiting, Initialise, Choose, Test, OpenBy, AliasOf, Entry, Needs, NeedsPlace, Discard, Rest, Join, Loop, CloseRegion}
use Rattle.cyc_meaning.specs.State.{CloseLexical, EndLoan, Handler, Caller, Main, Executing, Proceeding, Entering, Binding, Naming, Breaking, Continuing, Returning, Throwing, Catching, Running}
use Rattle.cyc_meaning.specs.Parts.{declared, inside, region_end}
use Rattle.cyc_meaning.specs.Exceptions.{throws, catches, step_catching}
use Rattle.cyc_meaning.specs.Regions.{step_naming}
use Rattle.cyc_meaning.specs.Step.{values_of, called, step_calling, step_entering, step_binding, step_executing, declares, step_proceeding, step_breaking, step_continuing, returned, ends_with, main_returned, step_returning, step_throwing}
use Rattle.cyc_meaning.specs.Step as steps
use Rattle.cyc_meaning.specs.inside.Variables.{FunctionsRise, ItemsRise, ClausesRise, Locals, IsInBlock, AreLow, Names, DeclareLater}
use Rattle.cyc_meaning.proofs.VariableChanges.{named_opened, low_opened, named_entered, named_call, named_return}
use Rattle.cyc_meaning.proofs.VariableDeclared.{low_declared, named_declared}
use Rattle.cyc_meaning.proofs.VariableParts.{Goes, Ends, Dies, Fails, Silent, Begins, sooner, stays_either, low_less, named_loading_from, names_local, named_closing, named_closing_lexical}
use Rattle.cyc_meaning.proofs.VariableValues.{named_swapping}

-- ---- calls

pub none_low : (stack : List Entry) (objects : List Object) → AreLow 0 stack no_locals.locals objects
none_low stack objects number object is = absurd (let e : None ≡ Some object = is in cc)

named_calling_function : {globals : ℕ} (o : Option Function) (arguments : List Operand) (stack : List Entry) (e : Environment) (w : World) → ((h : Function) → o ≡ Some h → ItemsRise (length h.parameters) h.body)
    → Silent globals stack e w (called o arguments (Caller e ∷ stack) w)
named_calling_function {globals} (Some h) arguments stack e w rise =
    stays_either (length arguments == length h.parameters) _ _ (Goes (λ known. ((rise h refl, none_low (Caller e ∷ stack) w.objects), named_call globals stack e w known.1))) Fails
named_calling_function None arguments stack e w rise = Fails

named_printing : {globals : ℕ} (arguments : List Value) (stack : List Entry) (e : Environment) (w : World) → Silent globals stack e w (steps.prints arguments stack e w)
named_printing (Int word ∷ []) stack e w = Goes (λ h. (tt, h.1))
named_printing arguments stack e w = Fails

named_reading : {globals : ℕ} (arguments : List Value) (stack : List Entry) (e : Environment) (w : World) → Silent globals stack e w (steps.reads arguments stack e w)
named_reading [] stack e w = Goes (λ h. (tt, h.1))
named_reading (value ∷ arguments) stack e w = Fails

pub named_calling : {globals : ℕ} (program : Program) (callee : Callee) (arguments : List Operand) (stack : List Entry) (e : Environment) (w : World) → FunctionsRise program → Silent globals stack e w (step_calling program callee arguments stack e w)
named_calling program callees.Putchar arguments stack e w rise = named_printing (values_of arguments) stack e w
named_calling program callees.Getchar arguments stack e w rise = named_reading (values_of arguments) stack e w
named_calling program (callees.Function number) arguments stack e w rise = named_calling_function (slice_get program.functions number) (reverse arguments) stack e w (rise number)

-- Opening the region of a call keeps the invariant that each live variable is a global or a local of an active call.
pub named_entering : {globals : ℕ} (h : Function) (arguments : List Operand) (stack : List Entry) (e : Environment) (w : World) → Begins globals (Entering h arguments) stack e w (step_entering h arguments stack e w)
named_entering {globals} h arguments stack e w = Goes (λ known.
    let (now, all) = known.1 in (
      (length h.parameters, omega arith, now.0, low_opened 0 e.home stack e.locals w all.6 now.1, tt),
      named_entered (length w.regions) e.home globals stack e.locals (opened w) (named_opened Stack globals stack e.locals w all),
    ))

-- declaring a parameter
binds : {globals : ℕ} (a : Access Region) (number : ℕ) (t : Ty) (types : List Ty) (value : Operand) (arguments before : List Operand) (body : Items) (stack : List Entry) (e : Environment) (w : World) → region_at w e.home ≡ a
    → Begins globals (Binding number (t ∷ types) before body) stack e w (declared a (Binding (suc number) types arguments body) number (kind_of t) (Some value.value) stack e w)
binds {globals} (Found r) number t types value arguments before body stack e w found = Goes (λ h.
    let (m, following, rises, low, here) = h.1.0 in
    let less : number + suc (length types) ≤ m = following in (
      (m, omega (arith, less), rises, low_declared globals number (kind_of t) (Some value.value) stack e w r found h.0 here low h.1.1, here),
      named_declared globals number (kind_of t) (Some value.value) stack e w r found h.0 here low h.1.1,
    ))
binds Closed number t types value arguments before body stack e w found = Dies
binds Missing number t types value arguments before body stack e w found = Fails

pub named_binding : {globals : ℕ} (number : ℕ) (types : List Ty) (arguments : List Operand) (body : Items) (stack : List Entry) (e : Environment) (w : World) → Begins globals (Binding number types arguments body) stack e w (step_binding number types arguments body stack e w)
named_binding number [] [] body stack e w = Goes (λ h.
    let (m, following, rises, low, here) = h.1.0 in
    let all = h.1.1 in
    let less : number + 0 ≤ m = following in
    (tt, (((m, rises, low_less number m stack e.locals w.objects (omega (arith, less)) low, here), all.0), all.1, all.2, all.3, all.4, all.5, all.6)))
named_binding number [] (value ∷ arguments) body stack e w = Fails
named_binding number (t ∷ types) [] body stack e w = Fails
named_binding number (t ∷ types) (value ∷ arguments) body stack e w =
    stays_either (is_kind value.kind (kind_of t)) _ _ (binds (region_at w e.home) number t types value arguments (value ∷ arguments) body stack e w refl) Fails

-- ---- exceptions

named_throwing_new : {globals : ℕ} (tag : ℕ) (o : Option Expression) (stack : List Entry) (e : Environment) (w : World) → Silent globals stack e w (throws tag o stack e w)
named_throwing_new tag None stack e w = Goes (λ h. (tt, h.1))
named_throwing_new tag (Some a) stack e w = Goes (λ h. (tt, h.1))

-- Entering a block keeps the invariant that each live variable is a global or a local of an active call.
opens_block : {globals : ℕ} (region : ℕ) (items : Items) (stack : List Entry) (e : Environment) (w : World)
    → Begins globals (Executing (Block region items)) stack e w (Running Proceeding (Rest items ∷ region_end e w ∷ stack) (inside e w) (opened w))
opens_block {globals} region items stack e w = Goes (λ h.
    let (m, rises, low) = h.1.0 in
    let all = named_entered (length w.regions) e.home globals stack e.locals (opened w) (named_opened Stack globals stack e.locals w h.1.1) in
    (tt, (((m, rises, low_opened m e.home stack e.locals w h.1.1.6 low, tt), all.0), all.1, all.2, all.3, all.4, all.5, all.6)))

named_catching_in : {globals : ℕ} (tag caught value : ℕ) (number : Option ℕ) (region : ℕ) (items : Items) (later : Clauses) (stack : List Entry) (e : Environment) (w : World)
    → Begins globals (Catching tag value (Case caught number region items later)) stack e w (catches value number items stack e w)
named_catching_in tag caught value None region items later stack e w = sooner (opens_block region items stack e w) (λ h.
    let (m, rises, low) = h.1.0 in
    (h.0, ((m, rises.0, low), h.1.1)))
named_catching_in {globals} tag caught value (Some number) region items later stack e w = Goes (λ h.
    let (m, rises, low) = h.1.0 in (
      (rises.1, low_opened number e.home stack e.locals w h.1.1.6 (low_less m number stack e.locals w.objects rises.0 low), tt),
      named_entered (length w.regions) e.home globals stack e.locals (opened w) (named_opened Stack globals stack e.locals w h.1.1),
    ))

later_rise : (m tag : ℕ) (number : Option ℕ) (region : ℕ) (items : Items) (later : Clauses) → ClausesRise m (Case tag number region items later) → ClausesRise m later
later_rise m tag None region items later rises = rises.1
later_rise m tag (Some number) region items later rises = rises.2

pub named_catching : {globals : ℕ} (tag value : ℕ) (handler : Clauses) (stack : List Entry) (e : Environment) (w : World) → Begins globals (Catching tag value handler) stack e w (step_catching tag value handler stack e w)
named_catching tag value NoClauses stack e w = Goes (λ h. (tt, h.1.1))
named_catching tag value (Default region items) stack e w = opens_block region items stack e w
named_catching tag value (Case caught number region items later) stack e w =
    stays_either (caught == tag) _ _ (named_catching_in tag caught value number region items later stack e w) (Goes (λ h.
    let (m, rises, low) = h.1.0 in
    ((m, later_rise m caught number region items later rises, low), h.1.1)))

-- ---- statements

named_returning_value : {globals : ℕ} (o : Option Converted) (stack : List Entry) (e : Environment) (w : World) → Silent globals stack e w (steps.returns o stack e w)
named_returning_value None stack e w = Goes (λ h. (tt, h.1))
named_returning_value (Some (Convert from to a)) stack e w = Goes (λ h. (tt, h.1))

pub named_executing : {globals : ℕ} (s : Statement) (stack : List Entry) (e : Environment) (w : World) → Begins globals (Executing s) stack e w (step_executing s stack e w)
named_executing (Block region items) stack e w = opens_block region items stack e w
named_executing Empty stack e w = Goes (λ h. (tt, h.1.1))
named_executing (Evaluate a) stack e w = Goes (λ h. (tt, h.1.1))
named_executing (Swap left right) stack e w = sooner (named_swapping left right stack e w) (λ h. (h.0, h.1.1))
named_executing (If condition first second) stack e w = Goes (λ h.
    let (m, rises, low) = h.1.0 in
    let all = h.1.1 in
    (tt, ((((m, rises.0, low), (m, rises.1, low)), all.0), all.1, all.2, all.3, all.4, all.5, all.6)))
named_executing (While place condition body) stack e w = Goes (λ h.
    let (m, rises, low) = h.1.0 in
    let all = h.1.1 in
    (tt, (((m, rises, low), all.0), all.1, all.2, all.3, all.4, all.5, all.6)))
named_executing (typed.Return value) stack e w = sooner (named_returning_value value stack e w) (λ h. (h.0, h.1.1))
named_executing Break stack e w = Goes (λ h. (tt, h.1.1))
named_executing Continue stack e w = Goes (λ h. (tt, h.1.1))
named_executing (Throw tag value) stack e w = sooner (named_throwing_new tag value stack e w) (λ h. (h.0, h.1.1))
named_executing (Try s handler) stack e w = Goes (λ h.
    let (m, rises, low) = h.1.0 in
    let all = h.1.1 in
    ((m, rises.0, low), (((m, rises.1, low), all.0), all.1, all.2, all.3, all.4, all.5, all.6)))

pub named_naming : {globals : ℕ} (number : ℕ) (operand : Operand) (items : Items) (stack : List Entry) (e : Environment) (w : World) → Begins globals (Naming number operand items) stack e w (step_naming number operand items stack e w)
named_naming number operand items stack e w = sooner
    (names_local (region_at w e.home) number operand.kind operand.kind (Some operand.value) items stack e w refl)
    (λ h. (h.0, ((h.1.0, h.1.1.0), h.1.1.1, h.1.1.2, h.1.1.3, h.1.1.4, h.1.1.5, h.1.1.6)))

named_declaring : {globals : ℕ} (number : ℕ) (t : Ty) (o : Option Converted) (items : Items) (stack : List Entry) (e : Environment) (w : World) → Silent globals (Needs (Initialise number (kind_of t) items) ∷ stack) e w (declares number t o items stack e w)
named_declaring number t None items stack e w = names_local (region_at w e.home) number (kind_of t) (kind_of t) None items stack e w refl
named_declaring number t (Some (Convert from to a)) items stack e w = Goes (λ h. (tt, h.1))

next_named : (m number : ℕ) (items : Items) (stack : List Entry) (e : Environment) (w : World) → (m ≤ number) × ItemsRise (suc number) items → AreLow m stack e.locals w.objects → IsInBlock stack → Names number items stack e.locals w.objects
next_named m number items stack e w rises low here = (rises.1, low_less m number stack e.locals w.objects rises.0 low, here)

pub named_proceeding : {globals : ℕ} (stack : List Entry) (e : Environment) (w : World) → Silent globals stack e w (step_proceeding stack e w)
named_proceeding [] e w = Fails
named_proceeding (Needs a ∷ stack) e w = Fails
named_proceeding (NeedsPlace a ∷ stack) e w = Fails
named_proceeding (Discard ∷ stack) e w = Goes (λ h. (tt, h.1))
named_proceeding (Rest NoItems ∷ stack) e w = Goes (λ h. (tt, (h.1.0.1, h.1.1, h.1.2, h.1.3, h.1.4, h.1.5, h.1.6)))
named_proceeding (Rest (MoreItems (Execute s) items) ∷ stack) e w = Goes (λ h.
    let (m, rises, low, here) = h.1.0.0 in
    ((m, rises.0, low), (((m, rises.1, low, here), h.1.0.1), h.1.1, h.1.2, h.1.3, h.1.4, h.1.5, h.1.6)))
named_proceeding (Rest (MoreItems (Declare number t value) items) ∷ stack) e w = sooner (named_declaring number t value items stack e w) (λ h.
    let (m, rises, low, here) = h.1.0.0 in
    (h.0, ((next_named m number items stack e w rises low here, h.1.0.1), h.1.1, h.1.2, h.1.3, h.1.4, h.1.5, h.1.6)))
named_proceeding {globals} (Rest (MoreItems (DeclareRegion region number) items) ∷ stack) e w = Goes (λ h.
    let (m, rises, low, here) = h.1.0.0 in
    (next_named m number items stack e w rises low here, named_opened Lexical globals stack e.locals w (h.1.0.1, h.1.1, h.1.2, h.1.3, h.1.4, h.1.5, h.1.6)))
named_proceeding (Rest (MoreItems (OpenRegion region number p key) items) ∷ stack) e w = sooner (named_loading_from kinds.Key (e.locals key) (Needs (OpenBy number key items) ∷ stack) e w) (λ h.
    let (m, rises, low, here) = h.1.0.0 in
    (h.0, ((next_named m number items stack e w rises low here, h.1.0.1), h.1.1, h.1.2, h.1.3, h.1.4, h.1.5, h.1.6)))
named_proceeding (Rest (MoreItems (DeclareAlias region number t p source) items) ∷ stack) e w = sooner (named_loading_from (kind_of t) (e.locals source) (Needs (AliasOf number source items) ∷ stack) e w) (λ h.
    let (m, rises, low, here) = h.1.0.0 in
    (h.0, ((next_named m number items stack e w rises low here, h.1.0.1), h.1.1, h.1.2, h.1.3, h.1.4, h.1.5, h.1.6)))
named_proceeding {globals} (Rest (MoreItems (DeclareKey region number) items) ∷ stack) e w = Goes (λ h.
    let (m, rises, low, here) = h.1.0.0 in
    (next_named m number items stack e w rises low here, named_opened Dynamic globals stack e.locals w (h.1.0.1, h.1.1, h.1.2, h.1.3, h.1.4, h.1.5, h.1.6)))
named_proceeding (Join ∷ stack) e w = Goes (λ h. (tt, h.1))
named_proceeding (Loop condition body ∷ stack) e w = Goes (λ h. (tt, h.1))
named_proceeding (CloseRegion region home ∷ stack) e w = named_closing (region_at w region) Proceeding region home stack e w refl (λ objects. tt)
named_proceeding (CloseLexical region ∷ stack) e w = named_closing_lexical (region_at w region) Proceeding region stack e w refl (λ objects. tt)
named_proceeding (EndLoan lent ∷ stack) e w = Goes (λ h. (tt, h.1))
named_proceeding (Handler handler ∷ stack) e w = Goes (λ h. (tt, (h.1.0.1, h.1.1, h.1.2, h.1.3, h.1.4, h.1.5, h.1.6)))
named_proceeding {globals} (Caller outer ∷ stack) e w = Goes (λ h. (tt, named_return globals stack e.locals outer w h.1))
named_proceeding (Main ∷ stack) e w = Fails

-- ---- unwinding

-- Popping a continuation that waited for a value keeps the condition on the locals that are still to be declared.
without_awaiting : (a : Awaiting) (stack : List Entry) (locals : Locals) (objects : List Object) → DeclareLater (Needs a ∷ stack) locals objects → DeclareLater stack locals objects
without_awaiting (Initialise number kind items) stack locals objects h = h.1
without_awaiting (OpenBy number lent items) stack locals objects h = h.1
without_awaiting (AliasOf number lent items) stack locals objects h = h.1
without_awaiting (Choose first second) stack locals objects h = h.1
without_awaiting (Test condition body) stack locals objects h = h.1
without_awaiting a stack locals objects h = h

pub named_breaking : {globals : ℕ} (stack : List Entry) (e : Environment) (w : World) → Silent globals stack e w (step_breaking stack e w)
named_breaking [] e w = Fails
named_breaking (Needs a ∷ stack) e w = Goes (λ h. (tt, (without_awaiting a stack e.locals w.objects h.1.0, h.1.1, h.1.2, h.1.3, h.1.4, h.1.5, h.1.6)))
named_breaking (NeedsPlace a ∷ stack) e w = Goes (λ h. (tt, h.1))
named_breaking (Discard ∷ stack) e w = Goes (λ h. (tt, h.1))
named_breaking (Rest items ∷ stack) e w = Goes (λ h. (tt, (h.1.0.1, h.1.1, h.1.2, h.1.3, h.1.4, h.1.5, h.1.6)))
named_breaking (Join ∷ stack) e w = Goes (λ h. (tt, h.1))
named_breaking (Loop condition body ∷ stack) e w = Goes (λ h. (tt, (h.1.0.1, h.1.1, h.1.2, h.1.3, h.1.4, h.1.5, h.1.6)))
named_breaking (CloseRegion region home ∷ stack) e w = named_closing (region_at w region) Breaking region home stack e w refl (λ objects. tt)
named_breaking (CloseLexical region ∷ stack) e w = named_closing_lexical (region_at w region) Breaking region stack e w refl (λ objects. tt)
named_breaking (EndLoan lent ∷ stack) e w = Goes (λ h. (tt, h.1))
named_breaking (Handler handler ∷ stack) e w = Goes (λ h. (tt, (h.1.0.1, h.1.1, h.1.2, h.1.3, h.1.4, h.1.5, h.1.6)))
named_breaking (Caller outer ∷ stack) e w = Fails
named_breaking (Main ∷ stack) e w = Fails

pub named_continuing : {globals : ℕ} (stack : List Entry) (e : Environment) (w : World) → Silent globals stack e w (step_continuing stack e w)
named_continuing [] e w = Fails
named_continuing (Needs a ∷ stack) e w = Goes (λ h. (tt, (without_awaiting a stack e.locals w.objects h.1.0, h.1.1, h.1.2, h.1.3, h.1.4, h.1.5, h.1.6)))
named_continuing (NeedsPlace a ∷ stack) e w = Goes (λ h. (tt, h.1))
named_continuing (Discard ∷ stack) e w = Goes (λ h. (tt, h.1))
named_continuing (Rest items ∷ stack) e w = Goes (λ h. (tt, (h.1.0.1, h.1.1, h.1.2, h.1.3, h.1.4, h.1.5, h.1.6)))
named_continuing (Join ∷ stack) e w = Goes (λ h. (tt, h.1))
named_continuing (Loop condition body ∷ stack) e w = Goes (λ h. (tt, h.1))
named_continuing (CloseRegion region home ∷ stack) e w = named_closing (region_at w region) Continuing region home stack e w refl (λ objects. tt)
named_continuing (CloseLexical region ∷ stack) e w = named_closing_lexical (region_at w region) Continuing region stack e w refl (λ objects. tt)
named_continuing (EndLoan lent ∷ stack) e w = Goes (λ h. (tt, h.1))
named_continuing (Handler handler ∷ stack) e w = Goes (λ h. (tt, (h.1.0.1, h.1.1, h.1.2, h.1.3, h.1.4, h.1.5, h.1.6)))
named_continuing (Caller outer ∷ stack) e w = Fails
named_continuing (Main ∷ stack) e w = Fails

named_returning_to : {globals : ℕ} (o : Option Operand) (outer : Environment) (stack : List Entry) (e : Environment) (w : World) → Silent globals (Caller outer ∷ stack) e w (returned o stack outer w)
named_returning_to {globals} (Some value) outer stack e w = Goes (λ h. (tt, named_return globals stack e.locals outer w h.1))
named_returning_to {globals} None outer stack e w = Goes (λ h. (tt, named_return globals stack e.locals outer w h.1))

named_ending_main : {globals : ℕ} (o : Option Operand) (stack : List Entry) (e : Environment) (w : World) → Silent globals stack e w (main_returned o w)
named_ending_main None stack e w = Fails
named_ending_main {globals} (Some value) stack e w = go value.value
  where
    go : (v : Value) → Silent globals stack e w (ends_with v w)
    go (Int word) = Ends
    go v = Fails

pub named_returning : {globals : ℕ} (o : Option Operand) (stack : List Entry) (e : Environment) (w : World) → Silent globals stack e w (step_returning o stack e w)
named_returning o [] e w = Fails
named_returning o (Needs a ∷ stack) e w = Goes (λ h. (tt, (without_awaiting a stack e.locals w.objects h.1.0, h.1.1, h.1.2, h.1.3, h.1.4, h.1.5, h.1.6)))
named_returning o (NeedsPlace a ∷ stack) e w = Goes (λ h. (tt, h.1))
named_returning o (Discard ∷ stack) e w = Goes (λ h. (tt, h.1))
named_returning o (Rest items ∷ stack) e w = Goes (λ h. (tt, (h.1.0.1, h.1.1, h.1.2, h.1.3, h.1.4, h.1.5, h.1.6)))
named_returning o (Join ∷ stack) e w = Goes (λ h. (tt, h.1))
named_returning o (Loop condition body ∷ stack) e w = Goes (λ h. (tt, (h.1.0.1, h.1.1, h.1.2, h.1.3, h.1.4, h.1.5, h.1.6)))
named_returning o (CloseRegion region home ∷ stack) e w = named_closing (region_at w region) (Returning o) region home stack e w refl (λ objects. tt)
named_returning o (CloseLexical region ∷ stack) e w = named_closing_lexical (region_at w region) (Returning o) region stack e w refl (λ objects. tt)
named_returning o (EndLoan lent ∷ stack) e w = Goes (λ h. (tt, h.1))
named_returning o (Handler handler ∷ stack) e w = Goes (λ h. (tt, (h.1.0.1, h.1.1, h.1.2, h.1.3, h.1.4, h.1.5, h.1.6)))
named_returning o (Caller outer ∷ stack) e w = named_returning_to o outer stack e w
named_returning o (Main ∷ stack) e w = named_ending_main o stack e w

pub named_throwing : {globals : ℕ} (tag value : ℕ) (stack : List Entry) (e : Environment) (w : World) → Silent globals stack e w (step_throwing tag value stack e w)
named_throwing tag value [] e w = Ends
named_throwing tag value (Needs a ∷ stack) e w = Goes (λ h. (tt, (without_awaiting a stack e.locals w.objects h.1.0, h.1.1, h.1.2, h.1.3, h.1.4, h.1.5, h.1.6)))
named_throwing tag value (NeedsPlace a ∷ stack) e w = Goes (λ h. (tt, h.1))
named_throwing tag value (Discard ∷ stack) e w = Goes (λ h. (tt, h.1))
named_throwing tag value (Rest items ∷ stack) e w = Goes (λ h. (tt, (h.1.0.1, h.1.1, h.1.2, h.1.3, h.1.4, h.1.5, h.1.6)))
named_throwing tag value (Join ∷ stack) e w = Goes (λ h. (tt, h.1))
named_throwing tag value (Loop condition body ∷ stack) e w = Goes (λ h. (tt, (h.1.0.1, h.1.1, h.1.2, h.1.3, h.1.4, h.1.5, h.1.6)))
named_throwing tag value (CloseRegion region home ∷ stack) e w = named_closing (region_at w region) (Throwing tag value) region home stack e w refl (λ objects. tt)
named_throwing tag value (CloseLexical region ∷ stack) e w = named_closing_lexical (region_at w region) (Throwing tag value) region stack e w refl (λ objects. tt)
named_throwing tag value (EndLoan lent ∷ stack) e w = Goes (λ h. (tt, h.1))
named_throwing tag value (Handler handler ∷ stack) e w = Goes (λ h. (h.1.0.0, (h.1.0.1, h.1.1, h.1.2, h.1.3, h.1.4, h.1.5, h.1.6)))
named_throwing {globals} tag value (Caller outer ∷ stack) e w = Goes (λ h. (tt, named_return globals stack e.locals outer w h.1))
named_throwing tag value (Main ∷ stack) e w = Goes (λ h. (tt, h.1))
