-- Each live variable of a block is a local of an active call: the possible outcomes of a step, and the reads,
-- writes and allocations in steps.
use Rattle.std.proofs.Common.{◌≡◌, ℕ, suc, Bool, true, false, List, ◌∷◌, Option, Some, None, refl, arith}
use Rattle.std.specs.Prelude.{◌≤◌, ◌<◌, if◌then◌else◌}
use Rattle.cyc_words.specs.Ending.{Ending}
use Rattle.cyc_types.specs.declared.typed.Kind.{Kind}
use Rattle.cyc_types.specs.TypedTrees.{Items}
use Rattle.cyc_meaning.specs.Values.{Value, Thin, Operand, is_kind}
use Rattle.cyc_meaning.specs.Operators.{Result, Gives, Raises, Misfits}
use Rattle.cyc_meaning.specs.State.{Region, Object, World, Access, Found, Closed, Missing, region_at, Located, cell_at, Environment, Initialise, Entry, Needs, Rest, CloseRegion, CloseLexical, Focus, Proceeding, State, Running, Ended, Dead, Wrong, closed, written}
use Rattle.cyc_meaning.specs.Parts.{computed, read, loaded, loaded_from, stored, stored_at, declared, closing}
use Rattle.cyc_meaning.specs.Regions.{closing_lexical}
use Rattle.cyc_meaning.specs.inside.Nesting.{IsNested}
use Rattle.cyc_meaning.specs.inside.Variables.{Locals, AreLow, DeclareNow, AreNamed, HasNames}
use Rattle.cyc_meaning.proofs.VariableChanges.{named_closed, named_written, named_left, is_shut}
use Rattle.cyc_meaning.proofs.VariableDeclared.{low_declared, named_declared}

-- Says that a step keeps the invariant that live variables are globals or locals of active calls: if it held before and the
-- run goes on, it still holds.
pub data Stays (globals : ℕ) (known : Type 0) : State → Type 0 where
  Goes : {focus : Focus} {stack : List Entry} {e : Environment} {w : World} → (known → HasNames globals (Running focus stack e w)) → Stays globals known (Running focus stack e w)
  Ends : {ending : Ending} {output input : List ℕ} → Stays globals known (Ended ending output input)
  Dies : {output input : List ℕ} → Stays globals known (Dead output input)
  Fails : {output input : List ℕ} → Stays globals known (Wrong output input)

-- Two statements that a step keeps the invariant that live variables are globals or locals of active calls. One is for a next
-- action that declares no local, the other for a next action that may declare one.
abbrev pub Silent : (globals : ℕ) → List Entry → Environment → World → State → Type 0
Silent globals stack e w s = Stays globals (IsNested stack e w × (AreNamed globals stack e.locals w.objects w.regions)) s

abbrev pub Begins : (globals : ℕ) → Focus → List Entry → Environment → World → State → Type 0
Begins globals focus stack e w s = Stays globals (IsNested stack e w × (DeclareNow focus stack e.locals w.objects × (AreNamed globals stack e.locals w.objects w.regions))) s

pub sooner : {globals : ℕ} {known more : Type 0} {s : State} → Stays globals known s → (more → known) → Stays globals more s
sooner (Goes stays) first = Goes (λ h. stays (first h))
sooner Ends first = Ends
sooner Dies first = Dies
sooner Fails first = Fails

pub stays_either : {globals : ℕ} {known : Type 0} (b : Bool) (s t : State) → Stays globals known s → Stays globals known t → Stays globals known (if b then s else t)
stays_either true s t first second = first
stays_either false s t first second = second

pub low_less : (m n : ℕ) (stack : List Entry) (locals : Locals) (objects : List Object) → m ≤ n → AreLow m stack locals objects → AreLow n stack locals objects
low_less m n stack locals objects less low number object is =
    let (region, lives, below) = low number object is in
    (region, lives, λ of_call. (let lower : number < m = below of_call in omega (arith, lower, less)))

-- ---- parts of steps

pub named_computing : {globals : ℕ} (kind : Kind) (r : Result) (stack : List Entry) (e : Environment) (w : World) → Silent globals stack e w (computed kind r stack e w)
named_computing kind (Gives value) stack e w = Goes (λ h. (tt, h.1))
named_computing kind (Raises tag) stack e w = Goes (λ h. (tt, h.1))
named_computing kind Misfits stack e w = Fails

named_reading_cell : {globals : ℕ} (kind : Kind) (o : Option Value) (stack : List Entry) (e : Environment) (w : World) → Silent globals stack e w (read kind o stack e w)
named_reading_cell kind (Some value) stack e w = Goes (λ h. (tt, h.1))
named_reading_cell kind None stack e w = Fails

pub named_loading : {globals : ℕ} (kind : Kind) (a : Access Located) (stack : List Entry) (e : Environment) (w : World) → Silent globals stack e w (loaded kind a stack e w)
named_loading kind (Found at) stack e w = stays_either (is_kind at.cell.kind kind) _ _ (named_reading_cell kind at.cell.content stack e w) Fails
named_loading kind Closed stack e w = Dies
named_loading kind Missing stack e w = Fails

pub named_loading_from : {globals : ℕ} (kind : Kind) (o : Option ℕ) (stack : List Entry) (e : Environment) (w : World) → Silent globals stack e w (loaded_from kind o stack e w)
named_loading_from kind (Some object) stack e w = named_loading kind (cell_at w object 0) stack e w
named_loading_from kind None stack e w = Fails

pub named_storing : {globals : ℕ} (a : Access Located) (object offset : ℕ) (v : Operand) (focus : Focus) (stack : List Entry) (e : Environment) (w : World) → cell_at w object offset ≡ a → ((objects : List Object) → DeclareNow focus stack e.locals objects) → Silent globals stack e w (stored a object offset v focus stack e w)
named_storing {globals} (Found at) object offset v focus stack e w found plain =
    stays_either (is_kind at.cell.kind v.kind) _ _ (Goes (λ h. (plain (written w object offset at v.value).objects, named_written object offset at v.value globals stack e.locals w found h.1))) Fails
named_storing Closed object offset v focus stack e w found plain = Dies
named_storing Missing object offset v focus stack e w found plain = Fails

pub named_storing_at : {globals : ℕ} (place : Value) (v : Operand) (focus : Focus) (stack : List Entry) (e : Environment) (w : World) → ((objects : List Object) → DeclareNow focus stack e.locals objects) → Silent globals stack e w (stored_at place v focus stack e w)
named_storing_at (Thin object offset) v focus stack e w plain = named_storing (cell_at w object offset) object offset v focus stack e w refl plain
named_storing_at place v focus stack e w plain = Fails

-- Declaring the next local of a block preserves the invariant that live variables are globals or locals of
-- active calls. The run then continues with the rest of the block.
pub names_local : {globals : ℕ} (a : Access Region) (number : ℕ) (given kind : Kind) (content : Option Value) (items : Items) (stack : List Entry) (e : Environment) (w : World) → region_at w e.home ≡ a
    → Silent globals (Needs (Initialise number given items) ∷ stack) e w (declared a Proceeding number kind content (Rest items ∷ stack) e w)
names_local {globals} (Found r) number given kind content items stack e w found = Goes (λ h.
    let (rises, low, here) = h.1.0.0 in
    let all : AreNamed globals stack e.locals w.objects w.regions = (h.1.0.1, h.1.1, h.1.2, h.1.3, h.1.4, h.1.5, h.1.6) in
    let next = named_declared globals number kind content stack e w r found h.0 here low all in
    (tt, (((suc number, rises, low_declared globals number kind content stack e w r found h.0 here low all, here), next.0), next.1, next.2, next.3, next.4, next.5, next.6)))
names_local Closed number given kind content items stack e w found = Dies
names_local Missing number given kind content items stack e w found = Fails

pub named_closing : {globals : ℕ} (a : Access Region) (focus : Focus) (region home : ℕ) (stack : List Entry) (e : Environment) (w : World) → region_at w region ≡ a → ((objects : List Object) → DeclareNow focus stack e.locals objects)
    → Silent globals (CloseRegion region home ∷ stack) e w (closing a focus region home stack e w)
named_closing {globals} (Found r) focus region home stack e w found plain = Goes (λ h.
    (plain w.objects, named_left region home globals stack e.locals (closed w region r) (is_shut w region r found) (named_closed region r globals (CloseRegion region home ∷ stack) e.locals w found h.1)))
named_closing Closed focus region home stack e w found plain = Dies
named_closing Missing focus region home stack e w found plain = Fails

pub named_closing_lexical : {globals : ℕ} (a : Access Region) (focus : Focus) (region : ℕ) (stack : List Entry) (e : Environment) (w : World) → region_at w region ≡ a → ((objects : List Object) → DeclareNow focus stack e.locals objects)
    → Silent globals (CloseLexical region ∷ stack) e w (closing_lexical a focus region stack e w)
named_closing_lexical {globals} (Found r) focus region stack e w found plain = Goes (λ h. (plain w.objects, named_closed region r globals stack e.locals w found h.1))
named_closing_lexical Closed focus region stack e w found plain = Dies
named_closing_lexical Missing focus region stack e w found plain = Fails
