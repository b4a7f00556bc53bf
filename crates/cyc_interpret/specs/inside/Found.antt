-- What the code's accesses find. This project's own choice.
use Rattle.std.specs.Prelude.{◌≡◌, ℕ, Bool, true, false, Some, slice_get}
use Rattle.cyc_meaning.specs.State.{Object, World, Located, Access, Found, Closed, Missing, Focus, State, Running}
use Rattle.cyc_interpret.specs.declared.found.Access.{Access as AccessCode}
use Rattle.cyc_interpret.specs.declared.found.Access.TheVariants as access
use Rattle.cyc_interpret.specs.declared.found.Reached.{Reached}
use Rattle.cyc_interpret.specs.declared.found.Reached.TheVariants as reached
use Rattle.cyc_interpret.specs.declared.found.Compared.{Compared}
use Rattle.cyc_interpret.specs.declared.found.Compared.TheVariants as compared
use Rattle.cyc_interpret.specs.declared.machine.Machine.{Machine}
use Rattle.cyc_interpret.specs.WorldView.{view_cell}
use Rattle.cyc_interpret.specs.View.{stack_of, environment_of, world_of, state_of}

-- the cell that is found is one of the object with this number
abbrev pub IsAccess : World → (object : ℕ) → AccessCode → Access Located → Type 0
IsAccess w object (access.Found cell) found =
    (x : Object) × (slice_get w.objects object ≡ Some x) × (found ≡ Found (record { object = x; cell = view_cell cell }))
IsAccess w object access.Closed found = found ≡ Closed
IsAccess w object access.Missing found = found ≡ Missing

-- the same of an object that is at hand
abbrev pub IsCell : AccessCode → Access Located → Object → Type 0
IsCell (access.Found cell) found x = found ≡ Found (record { object = x; cell = view_cell cell })
IsCell access.Closed found x = found ≡ Closed
IsCell access.Missing found x = found ≡ Missing

-- whether two pointers are equal
abbrev pub view_compared : Compared → Access Bool
view_compared (compared.Found equal) = Found equal
view_compared compared.Closed = Closed
view_compared compared.Missing = Missing

-- whether an object is there
abbrev pub IsReached : Reached → Access Object → Type 0
IsReached reached.Found found = (x : Object) × (found ≡ Found x)
IsReached reached.Closed found = found ≡ Closed
IsReached reached.Missing found = found ≡ Missing

-- what the making of an object came to, and the world after it
abbrev pub IsCreated : Reached → (old new : World) → Access World → Type 0
IsCreated reached.Found old new made = made ≡ Found new
IsCreated reached.Closed old new made = (made ≡ Closed) × (new ≡ old)
IsCreated reached.Missing old new made = (made ≡ Missing) × (new ≡ old)

-- what goes on with this focus where a part says that it may, and else what the part has made of the machine
abbrev pub after : Bool → Focus → Machine → State
after true focus m = Running focus (stack_of m) (environment_of m) (world_of m)
after false focus m = state_of m
