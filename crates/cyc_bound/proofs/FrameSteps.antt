-- A step depends only on the newest stack entry; the older entries do not change.
use Rattle.std.proofs.Common.{◌≡◌, ℕ, suc, List, [], ◌∷◌, ◌++◌, length, reverse, Option, Some, None, refl}
use Rattle.std.specs.Prelude.{◌==◌, slice_get}
use Rattle.cyc_types.specs.declared.typed.Kind.TheVariants as kinds
use Rattle.cyc_types.specs.declared.typed.Callee.{Callee}
use Rattle.cyc_types.specs.declared.typed.Callee.TheVariants as callees
use Rattle.cyc_types.specs.Types.{Ty}
use Rattle.cyc_types.specs.TypedTrees.{Expression, Converted, Convert, Statement, Block, Empty, Evaluate, Swap, If, While, Break, Continue, Throw, Try, Items, NoItems, MoreItems, Execute, Declare, DeclareRegion, OpenRegion, DeclareAlias, DeclareKey, Clauses, NoClauses, Default, Case}
use Rattle.cyc_types.specs.TypedTrees.{Function, Program}
use Rattle.cyc_types.specs.TypedTrees as typed
use Rattle.cyc_meaning.specs.Values.{Value, Int, Null, Thin, Fat, Handle, Key, Operand, kind_of, is_kind}
use Rattle.cyc_meaning.specs.State.{Region, World, Access, Found, Closed, Missing, region_at, Environment, OpenBy, AliasOf, Entry, Needs, NeedsPlace, Discard, Rest, Join, Loop, CloseRegion, CloseLexical, EndLoan, Handler, Caller, Main, Write, Focus, Evaluating, Locating, Given, GivenPlace}
use Rattle.cyc_meaning.specs.State.{Executing, Proceeding, Calling, Entering, Binding, Naming, Writing, Beginning, Repeating, Swapping, Breaking, Continuing, Returning, Throwing, Catching, State}
use Rattle.cyc_meaning.specs.Objects.{created}
use Rattle.cyc_meaning.specs.Parts.{step_writing, closing}
use Rattle.cyc_meaning.specs.Allocation.{blanks}
use Rattle.cyc_meaning.specs.Exceptions.{throws, catches, step_catching}
use Rattle.cyc_meaning.specs.Regions.{closing_lexical}
use Rattle.cyc_meaning.specs.Step.{values_of, called, step_calling, step_binding, step_executing, declares, continues_with, step_proceeding, step_breaking, step_continuing, returned, ends_with, main_returned, step_returning, step_throwing, stepped}
use Rattle.cyc_meaning.specs.Step as steps
use Rattle.cyc_bound.proofs.FrameValues.{under, either, loads_from, stores_at, names, locating, swapping, swapping_values, given_place, begins, evaluating, given}

module _ (program : Program) (below : List Entry) where
  abbrev U : State → State
  U s = under program below s

  writing : (writes : List Write) (o : Option Operand) (stack : List Entry) (e : Environment) (w : World) → step_writing writes o (stack ++ below) e w ≡ U (step_writing writes o stack e w)
  writing [] (Some v) stack e w = refl
  writing [] None stack e w = refl
  writing (x ∷ writes) o stack e w = stores_at program below x.place x.operand (Writing writes o) stack e w

  putchar_prints : (arguments : List Value) (stack : List Entry) (e : Environment) (w : World) → steps.prints arguments (stack ++ below) e w ≡ U (steps.prints arguments stack e w)
  putchar_prints [] stack e w = refl
  putchar_prints (Int word ∷ []) stack e w = refl
  putchar_prints (Int word ∷ value ∷ arguments) stack e w = refl
  putchar_prints (Null ∷ arguments) stack e w = refl
  putchar_prints (Thin object offset ∷ arguments) stack e w = refl
  putchar_prints (Fat object start count index ∷ arguments) stack e w = refl
  putchar_prints (Handle region ∷ arguments) stack e w = refl
  putchar_prints (Key region ∷ arguments) stack e w = refl

  getchar_reads : (arguments : List Value) (stack : List Entry) (e : Environment) (w : World) → steps.reads arguments (stack ++ below) e w ≡ U (steps.reads arguments stack e w)
  getchar_reads [] stack e w = refl
  getchar_reads (value ∷ arguments) stack e w = refl

  binding : (number : ℕ) (types : List Ty) (arguments : List Operand) (body : Items) (stack : List Entry) (e : Environment) (w : World) → step_binding number types arguments body (stack ++ below) e w ≡ U (step_binding number types arguments body stack e w)
  binding number [] [] body stack e w = refl
  binding number [] (value ∷ arguments) body stack e w = refl
  binding number (type ∷ types) [] body stack e w = refl
  binding number (type ∷ types) (value ∷ arguments) body stack e w =
      either program below (is_kind value.kind (kind_of type)) _ _ _ _ (names program below (region_at w e.home) (Binding (suc number) types arguments body) number (kind_of type) (Some value.value) stack e w) refl

  -- ---- exceptions

  catching_in : (value : ℕ) (number : Option ℕ) (items : Items) (stack : List Entry) (e : Environment) (w : World) → catches value number items (stack ++ below) e w ≡ U (catches value number items stack e w)
  catching_in value None items stack e w = refl
  catching_in value (Some number) items stack e w = refl

  catching : (tag value : ℕ) (clauses : Clauses) (stack : List Entry) (e : Environment) (w : World) → step_catching tag value clauses (stack ++ below) e w ≡ U (step_catching tag value clauses stack e w)
  catching tag value NoClauses stack e w = refl
  catching tag value (Default region items) stack e w = catching_in value None items stack e w
  catching tag value (Case caught number region items later) stack e w = either program below (caught == tag) _ _ _ _ (catching_in value number items stack e w) refl

  -- ---- statements

  returning_value : (o : Option Converted) (stack : List Entry) (e : Environment) (w : World) → steps.returns o (stack ++ below) e w ≡ U (steps.returns o stack e w)
  returning_value None stack e w = refl
  returning_value (Some (Convert from to a)) stack e w = refl

  throwing_new : (tag : ℕ) (o : Option Expression) (stack : List Entry) (e : Environment) (w : World) → throws tag o (stack ++ below) e w ≡ U (throws tag o stack e w)
  throwing_new tag None stack e w = refl
  throwing_new tag (Some a) stack e w = refl

  executing : (s : Statement) (stack : List Entry) (e : Environment) (w : World) → step_executing s (stack ++ below) e w ≡ U (step_executing s stack e w)
  executing (Block region items) stack e w = refl
  executing Empty stack e w = refl
  executing (Evaluate a) stack e w = refl
  executing (Swap first right) stack e w = swapping program below first right stack e w
  executing (If condition first second) stack e w = refl
  executing (While place condition body) stack e w = refl
  executing (typed.Return value) stack e w = returning_value value stack e w
  executing Break stack e w = refl
  executing Continue stack e w = refl
  executing (Throw tag value) stack e w = throwing_new tag value stack e w
  executing (Try s handler) stack e w = refl

  declaring : (number : ℕ) (type : Ty) (o : Option Converted) (items : Items) (stack : List Entry) (e : Environment) (w : World) → declares number type o items (stack ++ below) e w ≡ U (declares number type o items stack e w)
  declaring number type None items stack e w = names program below (region_at w e.home) Proceeding number (kind_of type) None (Rest items ∷ stack) e w
  declaring number type (Some (Convert from to a)) items stack e w = refl

  continuing_with : (items : Items) (stack : List Entry) (e : Environment) (w : World) → continues_with items (stack ++ below) e w ≡ U (continues_with items stack e w)
  continuing_with NoItems stack e w = refl
  continuing_with (MoreItems (Execute s) items) stack e w = refl
  continuing_with (MoreItems (Declare number type value) items) stack e w = declaring number type value items stack e w
  continuing_with (MoreItems (DeclareRegion region number) items) stack e w = refl
  continuing_with (MoreItems (OpenRegion region number p key) items) stack e w = loads_from program below kinds.Key (e.locals key) (Needs (OpenBy number key items) ∷ stack) e w
  continuing_with (MoreItems (DeclareAlias region number type p source) items) stack e w = loads_from program below (kind_of type) (e.locals source) (Needs (AliasOf number source items) ∷ stack) e w
  continuing_with (MoreItems (DeclareKey region number) items) stack e w = refl

  -- ---- popped entries

  closes : (a : Access Region) (focus : Focus) (region home : ℕ) (stack : List Entry) (e : Environment) (w : World) → closing a focus region home (stack ++ below) e w ≡ U (closing a focus region home stack e w)
  closes (Found r) focus region home stack e w = refl
  closes Closed focus region home stack e w = refl
  closes Missing focus region home stack e w = refl

  closes_lexical : (a : Access Region) (focus : Focus) (region : ℕ) (stack : List Entry) (e : Environment) (w : World) → closing_lexical a focus region (stack ++ below) e w ≡ U (closing_lexical a focus region stack e w)
  closes_lexical (Found r) focus region stack e w = refl
  closes_lexical Closed focus region stack e w = refl
  closes_lexical Missing focus region stack e w = refl

  proceeding : (entry : Entry) (stack : List Entry) (e : Environment) (w : World) → step_proceeding (entry ∷ (stack ++ below)) e w ≡ U (step_proceeding (entry ∷ stack) e w)
  proceeding (Needs a) stack e w = refl
  proceeding (NeedsPlace a) stack e w = refl
  proceeding Discard stack e w = refl
  proceeding (Rest items) stack e w = continuing_with items stack e w
  proceeding Join stack e w = refl
  proceeding (Loop condition body) stack e w = refl
  proceeding (CloseRegion region home) stack e w = closes (region_at w region) Proceeding region home stack e w
  proceeding (CloseLexical region) stack e w = closes_lexical (region_at w region) Proceeding region stack e w
  proceeding (EndLoan lent) stack e w = refl
  proceeding (Handler handler) stack e w = refl
  proceeding (Caller outer) stack e w = refl
  proceeding Main stack e w = refl

  breaking : (entry : Entry) (stack : List Entry) (e : Environment) (w : World) → step_breaking (entry ∷ (stack ++ below)) e w ≡ U (step_breaking (entry ∷ stack) e w)
  breaking (Needs a) stack e w = refl
  breaking (NeedsPlace a) stack e w = refl
  breaking Discard stack e w = refl
  breaking (Rest items) stack e w = refl
  breaking Join stack e w = refl
  breaking (Loop condition body) stack e w = refl
  breaking (CloseRegion region home) stack e w = closes (region_at w region) Breaking region home stack e w
  breaking (CloseLexical region) stack e w = closes_lexical (region_at w region) Breaking region stack e w
  breaking (EndLoan lent) stack e w = refl
  breaking (Handler handler) stack e w = refl
  breaking (Caller outer) stack e w = refl
  breaking Main stack e w = refl

  continuing : (entry : Entry) (stack : List Entry) (e : Environment) (w : World) → step_continuing (entry ∷ (stack ++ below)) e w ≡ U (step_continuing (entry ∷ stack) e w)
  continuing (Needs a) stack e w = refl
  continuing (NeedsPlace a) stack e w = refl
  continuing Discard stack e w = refl
  continuing (Rest items) stack e w = refl
  continuing Join stack e w = refl
  continuing (Loop condition body) stack e w = refl
  continuing (CloseRegion region home) stack e w = closes (region_at w region) Continuing region home stack e w
  continuing (CloseLexical region) stack e w = closes_lexical (region_at w region) Continuing region stack e w
  continuing (EndLoan lent) stack e w = refl
  continuing (Handler handler) stack e w = refl
  continuing (Caller outer) stack e w = refl
  continuing Main stack e w = refl

  ending_with : (value : Value) (w : World) → ends_with value w ≡ U (ends_with value w)
  ending_with (Int word) w = refl
  ending_with Null w = refl
  ending_with (Thin object offset) w = refl
  ending_with (Fat object start count index) w = refl
  ending_with (Handle region) w = refl
  ending_with (Key region) w = refl

  ending_main : (o : Option Operand) (w : World) → main_returned o w ≡ U (main_returned o w)
  ending_main None w = refl
  ending_main (Some v) w = ending_with v.value w

  returning_to : (o : Option Operand) (stack : List Entry) (e : Environment) (w : World) → returned o (stack ++ below) e w ≡ U (returned o stack e w)
  returning_to (Some v) stack e w = refl
  returning_to None stack e w = refl

  returning : (o : Option Operand) (entry : Entry) (stack : List Entry) (e : Environment) (w : World) → step_returning o (entry ∷ (stack ++ below)) e w ≡ U (step_returning o (entry ∷ stack) e w)
  returning o (Needs a) stack e w = refl
  returning o (NeedsPlace a) stack e w = refl
  returning o Discard stack e w = refl
  returning o (Rest items) stack e w = refl
  returning o Join stack e w = refl
  returning o (Loop condition body) stack e w = refl
  returning o (CloseRegion region home) stack e w = closes (region_at w region) (Returning o) region home stack e w
  returning o (CloseLexical region) stack e w = closes_lexical (region_at w region) (Returning o) region stack e w
  returning o (EndLoan lent) stack e w = refl
  returning o (Handler handler) stack e w = refl
  returning o (Caller outer) stack e w = returning_to o stack outer w
  returning o Main stack e w = ending_main o w

  throwing : (tag value : ℕ) (entry : Entry) (stack : List Entry) (e : Environment) (w : World) → step_throwing tag value (entry ∷ (stack ++ below)) e w ≡ U (step_throwing tag value (entry ∷ stack) e w)
  throwing tag value (Needs a) stack e w = refl
  throwing tag value (NeedsPlace a) stack e w = refl
  throwing tag value Discard stack e w = refl
  throwing tag value (Rest items) stack e w = refl
  throwing tag value Join stack e w = refl
  throwing tag value (Loop condition body) stack e w = refl
  throwing tag value (CloseRegion region home) stack e w = closes (region_at w region) (Throwing tag value) region home stack e w
  throwing tag value (CloseLexical region) stack e w = closes_lexical (region_at w region) (Throwing tag value) region stack e w
  throwing tag value (EndLoan lent) stack e w = refl
  throwing tag value (Handler handler) stack e w = refl
  throwing tag value (Caller outer) stack e w = refl
  throwing tag value Main stack e w = refl

  -- ---- a step

  calls_function : (o : Option Function) (arguments : List Operand) (stack : List Entry) (w : World) → called o arguments (stack ++ below) w ≡ U (called o arguments stack w)
  calls_function (Some h) arguments stack w = either program below (length arguments == length h.parameters) _ _ _ _ refl refl
  calls_function None arguments stack w = refl

  calling : (callee : Callee) (arguments : List Operand) (stack : List Entry) (e : Environment) (w : World) → step_calling program callee arguments (stack ++ below) e w ≡ U (step_calling program callee arguments stack e w)
  calling callees.Putchar arguments stack e w = putchar_prints (values_of arguments) stack e w
  calling callees.Getchar arguments stack e w = getchar_reads (values_of arguments) stack e w
  calling (callees.Function number) arguments stack e w = calls_function (slice_get program.functions number) (reverse arguments) (Caller e ∷ stack) w

  pub stepping : (focus : Focus) (entry : Entry) (stack : List Entry) (e : Environment) (w : World) → stepped program focus (entry ∷ (stack ++ below)) e w ≡ under program below (stepped program focus (entry ∷ stack) e w)
  stepping (Evaluating a) entry stack e w = evaluating program below a (entry ∷ stack) e w
  stepping (Locating d) entry stack e w = locating program below d (entry ∷ stack) e w
  stepping (Given v) entry stack e w = given program below v entry stack e w
  stepping (GivenPlace place) entry stack e w = given_place program below place entry stack e w
  stepping (Executing s) entry stack e w = executing s (entry ∷ stack) e w
  stepping Proceeding entry stack e w = proceeding entry stack e w
  stepping (Calling callee arguments) entry stack e w = calling callee arguments (entry ∷ stack) e w
  stepping (Entering f arguments) entry stack e w = refl
  stepping (Binding number types arguments body) entry stack e w = binding number types arguments body (entry ∷ stack) e w
  stepping (Naming number operand items) entry stack e w = names program below (region_at w e.home) Proceeding number operand.kind (Some operand.value) (Rest items ∷ entry ∷ stack) e w
  stepping (Writing writes result) entry stack e w = writing writes result (entry ∷ stack) e w
  stepping (Beginning owner count level kind element) entry stack e w = begins program below (created w owner (blanks count kind)) (length w.objects) count level kind element (entry ∷ stack) e w
  stepping (Repeating object count index level kind element) entry stack e w = either program below (index == count) _ _ _ _ refl refl
  stepping (Swapping kind first right before) entry stack e w = swapping_values program below kind first right before (entry ∷ stack) e w
  stepping Breaking entry stack e w = breaking entry stack e w
  stepping Continuing entry stack e w = continuing entry stack e w
  stepping (Returning o) entry stack e w = returning o entry stack e w
  stepping (Throwing tag value) entry stack e w = throwing tag value entry stack e w
  stepping (Catching tag value handler) entry stack e w = catching tag value handler (entry ∷ stack) e w
