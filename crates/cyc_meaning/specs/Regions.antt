-- Lexical and dynamic regions, keys, aliases, and freed unique objects. Leaving a block in any way closes its lexical regions, newest
-- first, and then the block's own region. A dynamic region is created by `new_ukey` and closed only by `free_ukey`: `open` does not close
-- the region at the end of its block. (Grossman et al. 2002, and the Cyclone User's Manual, 1.0, on dynamic regions and unique pointers.)
use Rattle.std.specs.Prelude.{ℕ, ◌==◌, Bool, true, false, if◌then◌else◌, List, ◌∷◌, length, Option, Some, None, slice_get}
use Rattle.cyc_types.specs.declared.typed.Kind.{Kind}
use Rattle.cyc_types.specs.declared.typed.Kind.TheVariants as kinds
use Rattle.cyc_types.specs.TypedTrees.{Items}
use Rattle.cyc_meaning.specs.Values.{Value, Null, Thin, Fat, Handle, Key, Operand}
use Rattle.cyc_meaning.specs.State.{Sort, Lexical, Dynamic, Region, Owner, InRegion, Unique, Object, World, Access, Found, Closed, Missing, region_at, opened_as, closed, Environment, OpenBy, AliasOf, Entry, Needs, Rest, CloseLexical, EndLoan, Focus, Proceeding, Naming, State, Running}
use Rattle.cyc_meaning.specs.Objects.{freed}
use Rattle.cyc_meaning.specs.Parts.{dead, wrong, loaded_from, declared}

abbrev pub is_dynamic : Sort → Bool
is_dynamic Dynamic = true
is_dynamic sort = false

-- Declares a local with an initial value, and continues with the rest of the block that declares it.
abbrev pub step_naming : (number : ℕ) → Operand → Items → List Entry → Environment → World → State
step_naming number operand items stack e w =
    declared (region_at w e.home) Proceeding number operand.kind (Some operand.value) (Rest items ∷ stack) e w

-- ---- lexical regions

-- Opens a lexical region, and then declares its handle as a local of the block.
abbrev pub opens_lexical : (number : ℕ) → Items → List Entry → Environment → World → State
opens_lexical number items stack e w =
    Running (Naming number (record { kind = kinds.Handle; value = Handle (length w.regions) }) items) (CloseLexical (length w.regions) ∷ stack) e (opened_as Lexical w)

abbrev pub closing_lexical : Access Region → Focus → (region : ℕ) → List Entry → Environment → World → State
closing_lexical (Found r) focus region stack e w = Running focus stack e (closed w region r)
closing_lexical Closed focus region stack e w = dead w
closing_lexical Missing focus region stack e w = wrong w

-- ---- dynamic regions

-- `new_ukey` opens a dynamic region and declares its key as a local.
abbrev pub opens_dynamic : (number : ℕ) → Items → List Entry → Environment → World → State
opens_dynamic number items stack e w =
    Running (Naming number (record { kind = kinds.Key; value = Key (length w.regions) }) items) stack e (opened_as Dynamic w)

-- `open` reads the key of an open region and declares a local as the handle of the region. The key is borrowed until the end of the block.
abbrev pub opens_by_key : (number key : ℕ) → Items → List Entry → Environment → World → State
opens_by_key number key items stack e w = loaded_from kinds.Key (e.locals key) (Needs (OpenBy number key items) ∷ stack) e w

abbrev pub opened_by : Access Region → (region number lent : ℕ) → Items → List Entry → Environment → World → State
opened_by (Found r) region number lent items stack e w =
    if is_dynamic r.sort
    then Running (Naming number (record { kind = kinds.Handle; value = Handle region }) items) (EndLoan lent ∷ stack) e w
    else wrong w
opened_by Closed region number lent items stack e w = dead w
opened_by Missing region number lent items stack e w = wrong w

abbrev pub opens_with : (number lent : ℕ) → Items → (key : Value) → List Entry → Environment → World → State
opens_with number lent items (Key region) stack e w = opened_by (region_at w region) region number lent items stack e w
opens_with number lent items value stack e w = wrong w

-- `free_ukey` closes the region of a key.
abbrev pub closes_dynamic : Access Region → (region : ℕ) → List Entry → Environment → World → State
closes_dynamic (Found r) region stack e w = if is_dynamic r.sort then Running Proceeding stack e (closed w region r) else wrong w
closes_dynamic Closed region stack e w = dead w
closes_dynamic Missing region stack e w = wrong w

abbrev pub closes_with : (key : Value) → List Entry → Environment → World → State
closes_with (Key region) stack e w = closes_dynamic (region_at w region) region stack e w
closes_with value stack e w = wrong w

-- ---- aliases

-- Declares an alias: reads the unique pointer of a local and stores it in another local as well; the first local is
-- borrowed until the end of the block.
abbrev pub aliases : (number : ℕ) → Kind → (source : ℕ) → Items → List Entry → Environment → World → State
aliases number kind source items stack e w = loaded_from kind (e.locals source) (Needs (AliasOf number source items) ∷ stack) e w

abbrev pub aliased : (number lent : ℕ) → Items → Operand → List Entry → Environment → World → State
aliased number lent items operand stack e w = Running (Naming number operand items) (EndLoan lent ∷ stack) e w

-- ---- freeing unique objects

-- Applies `ufree` to an object in a region. The object is not unique, so the state is wrong. If the region is closed, the access is dead.
abbrev pub frees_in_region : Access Region → World → State
frees_in_region (Found r) w = wrong w
frees_in_region Closed w = dead w
frees_in_region Missing w = wrong w

-- `ufree` frees a whole unique object, no matter what index a fat pointer to the object has. `ufree` of null does nothing.
abbrev pub frees_owned : Owner → (number : ℕ) → Object → List Entry → Environment → World → State
frees_owned (InRegion region) number x stack e w = frees_in_region (region_at w region) w
frees_owned (Unique true) number x stack e w = Running Proceeding stack e (freed w number x)
frees_owned (Unique false) number x stack e w = dead w

abbrev pub frees_object : Option Object → (number : ℕ) → List Entry → Environment → World → State
frees_object (Some x) number stack e w = frees_owned x.owner number x stack e w
frees_object None number stack e w = wrong w

abbrev pub frees : Value → List Entry → Environment → World → State
frees Null stack e w = Running Proceeding stack e w
frees (Thin object offset) stack e w = if offset == 0 then frees_object (slice_get w.objects object) object stack e w else wrong w
frees (Fat object start count index) stack e w = if start == 0 then frees_object (slice_get w.objects object) object stack e w else wrong w
frees value stack e w = wrong w
