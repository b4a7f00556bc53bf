-- The view of the code's values, regions and objects: those that the definition speaks of. This project's own choice.
use Rattle.std.specs.Prelude.{List, map, option_map}
use Rattle.cyc_meaning.specs.Values.{Value, Int, Null, Thin, Fat, Handle, Key, Operand, Cell}
use Rattle.cyc_meaning.specs.State.{Sort, Region, Owner, Object, Write}
use Rattle.cyc_meaning.specs.State as meaning
use Rattle.cyc_meaning.specs.Operators.{Result, Gives, Raises, Misfits}
use Rattle.cyc_meaning.specs.Pointers.{Reach, At, Stops, Nowhere}
use Rattle.cyc_interpret.specs.declared.value.Outcome.{Outcome}
use Rattle.cyc_interpret.specs.declared.value.Outcome.TheVariants as outcome
use Rattle.cyc_interpret.specs.declared.value.Reach.{Reach as ReachCode}
use Rattle.cyc_interpret.specs.declared.value.Reach.TheVariants as reach
use Rattle.cyc_interpret.specs.declared.value.Value.{Value as ValueCode}
use Rattle.cyc_interpret.specs.declared.value.Value.TheVariants as value
use Rattle.cyc_interpret.specs.declared.value.Operand.{Operand as OperandCode}
use Rattle.cyc_interpret.specs.declared.value.Write.{Write as WriteCode}
use Rattle.cyc_interpret.specs.declared.objects.Sort.{Sort as SortCode}
use Rattle.cyc_interpret.specs.declared.objects.Sort.TheVariants as sort
use Rattle.cyc_interpret.specs.declared.objects.Region.{Region as RegionCode}
use Rattle.cyc_interpret.specs.declared.objects.Owner.{Owner as OwnerCode}
use Rattle.cyc_interpret.specs.declared.objects.Owner.TheVariants as owner
use Rattle.cyc_interpret.specs.declared.objects.Cell.{Cell as CellCode}
use Rattle.cyc_interpret.specs.declared.objects.Object.{Object as ObjectCode}

-- ---- values

abbrev pub view_value : ValueCode → Value
view_value (value.Int word) = Int word
view_value value.Null = Null
view_value (value.Thin object offset) = Thin object offset
view_value (value.Fat part) = Fat part.object part.start part.count part.index
view_value (value.Handle region) = Handle region
view_value (value.Key region) = Key region

abbrev pub view_operand : OperandCode → Operand
view_operand o = record { kind = o.kind; value = view_value o.value }

-- in the order of a list whose newest is the last
abbrev pub operands_of : List OperandCode → List Operand
operands_of os = map view_operand os

abbrev pub view_outcome : Outcome → Result
view_outcome (outcome.Gives v) = Gives (view_value v)
view_outcome (outcome.Raises tag) = Raises tag
view_outcome outcome.Misfits = Misfits

abbrev pub view_reach : ReachCode → Reach
view_reach (reach.At object offset) = At object offset
view_reach (reach.Stops tag) = Stops tag
view_reach reach.Nowhere = Nowhere

abbrev pub view_write : WriteCode → Write
view_write w = record { place = view_value w.place; operand = view_operand w.operand }

-- ---- regions and objects

abbrev pub view_sort : SortCode → Sort
view_sort sort.Heap = meaning.Heap
view_sort sort.Globals = meaning.Globals
view_sort sort.Stack = meaning.Stack
view_sort sort.Lexical = meaning.Lexical
view_sort sort.Dynamic = meaning.Dynamic

abbrev pub view_region : RegionCode → Region
view_region r = record { sort = view_sort r.sort; is_open = r.is_open; blocks = r.blocks.items }

abbrev pub view_owner : OwnerCode → Owner
view_owner (owner.InRegion region) = meaning.InRegion region
view_owner (owner.Unique live) = meaning.Unique live

abbrev pub view_cell : CellCode → Cell
view_cell c = record { kind = c.kind; content = option_map view_value c.content }

abbrev pub view_object : ObjectCode → Object
view_object x = record { owner = view_owner x.owner; cells = map view_cell x.cells.items }
