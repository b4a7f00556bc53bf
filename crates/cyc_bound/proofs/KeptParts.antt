-- The reads, writes and allocations of a step create no handle of the heap and no key of a dynamic region. They
-- also open no outermost region that costs more than the bound on the costs of outermost regions.
use Rattle.std.proofs.Common.{◌≡◌, ℕ, suc, Bool, true, false, List, [], ◌∷◌, ◌++◌, length, reverse, Option, Some, None, refl, zero, ◌+◌, ◌<◌, ◌≤◌, set, sym, ap, subst, ◌∙◌, arith}
use Rattle.std.specs.Prelude.{if◌then◌else◌, slice_get, nat_lt}
use Rattle.std.specs.List.{AllByRecursion}
use Rattle.std.proofs.lemmas.Grind.{reverse_onto}
use Rattle.cyc_words.specs.Word.{add_of, sub_of}
use Rattle.cyc_words.proofs.Lists.{all_append}
use Rattle.cyc_words.proofs.Members.{all_at, all_set}
use Rattle.cyc_types.specs.declared.typed.Kind.{Kind}
use Rattle.cyc_types.specs.declared.typed.Kind.TheVariants as kinds
use Rattle.cyc_types.specs.declared.typed.PointerOperator.{PointerOperator}
use Rattle.cyc_types.specs.declared.typed.PointerOperator.TheVariants as pointers
use Rattle.cyc_types.specs.TypedTrees.{Statement, Block, Empty, Evaluate, Swap, If, While, Break, Continue, Throw, Try, Items, NoItems, MoreItems, Execute, Declare, DeclareRegion, OpenRegion, DeclareAlias, DeclareKey, Clauses, NoClauses, Default, Case}
use Rattle.cyc_types.specs.TypedTrees as typed
use Rattle.cyc_types.specs.declared.typed.Operator.{Operator}
use Rattle.cyc_types.specs.declared.typed.UnaryOperator.{UnaryOperator}
use Rattle.cyc_types.specs.declared.typed.UnaryOperator.TheVariants as unary
use Rattle.cyc_meaning.specs.Values.{Value, Int, Null, Thin, Fat, Handle, Key, Operand, Cell, block_size}
use Rattle.cyc_meaning.specs.Operators.{Result, Gives, Raises, Misfits, is_zero, binary_result, unary_result, truth_of, truth_result, has_no_result, binary_word, division_by_zero, array_bounds}
use Rattle.cyc_meaning.specs.Pointers.{element_count, pointer_result, moved, null_test}
use Rattle.cyc_meaning.specs.Conversion.{conversion, thinned}
use Rattle.cyc_meaning.specs.State.{Region, Owner, InRegion, Unique, Object, World, Access, Found, Closed, Missing, region_at, Located, cell_at, Write, Sort, new_region, opened_as, closed, made, written}
use Rattle.cyc_meaning.specs.Objects.{created, made_in, made_unique, created_in, freed}
use Rattle.cyc_meaning.specs.Allocation.{blanks_of, blanks, writes_from}
use Rattle.cyc_meaning.proofs.NestingLemmas.{region_found}
use Rattle.cyc_meaning.proofs.WorldLaws.{cell_found}
use Rattle.cyc_bound.specs.declared.costs.Measure.{Measure}
use Rattle.cyc_bound.specs.Costs.{too_many, step_cost, expression_cost, statement_cost, items_cost, clauses_cost}
use Rattle.cyc_bound.specs.AtOnce.{statement_at_once, items_at_once, clauses_at_once}
use Rattle.cyc_bound.specs.inside.Outermost.{IsOwn, IsOwnContent, AreOwn, IsOwnCell, IsLeft, AreSorted, IsOwnWorld}
use Rattle.cyc_bound.proofs.CostLemmas.{loop_is_free}

-- ---- lists

pub reverse_own : (vs : List Operand) → AreOwn vs → AreOwn (reverse vs)
reverse_own [] own = tt
reverse_own (v ∷ vs) own = subst AreOwn (sym (last_first v vs)) (all_append (λ (x : Operand). IsOwn x.value) (reverse vs) (v ∷ []) (reverse_own vs own.1) (own.0, tt))
  where
    last_first : (v : Operand) (vs : List Operand) → reverse (v ∷ vs) ≡ reverse vs ++ v ∷ []
    last_first v vs = reverse_onto vs v []

pub writes_own : (object offset : ℕ) (vs : List Operand) → AreOwn vs → AllByRecursion (λ (x : Write). IsOwn x.operand.value) (writes_from object offset vs)
writes_own object offset [] own = tt
writes_own object offset (v ∷ vs) own = (own.0, writes_own object (suc offset) vs own.1)

pub blanks_own : (vs : List Operand) → AllByRecursion IsOwnCell (blanks_of vs)
blanks_own [] = tt
blanks_own (v ∷ vs) = (tt, blanks_own vs)

pub all_blank : (count : ℕ) (kind : Kind) → AllByRecursion IsOwnCell (blanks count kind)
all_blank zero kind = tt
all_blank (suc count) kind = (tt, all_blank count kind)

-- ---- the world

pub own_made : (w : World) (x : Object) → AllByRecursion IsOwnCell x.cells → IsOwnWorld w → IsOwnWorld (made w x)
own_made w x own o = (o.0, all_append (λ (y : Object). AllByRecursion IsOwnCell y.cells) w.objects (x ∷ []) o.1 (own, tt))

sorted_more : (sort : Sort) (regions : List Region) → IsLeft sort → AreSorted regions → AreSorted (regions ++ new_region sort ∷ [])
sorted_more sort [] is h = absurd h
sorted_more sort (heap ∷ regions) is h = (h.0, all_append (λ (r : Region). IsLeft r.sort) regions (new_region sort ∷ []) h.1 (is, tt))

pub own_opened : (sort : Sort) (w : World) → IsLeft sort → IsOwnWorld w → IsOwnWorld (opened_as sort w)
own_opened sort w is o = (sorted_more sort w.regions is o.0, o.1)

sorted_set : (regions : List Region) (n : ℕ) (r s : Region) → slice_get regions n ≡ Some r → s.sort ≡ r.sort → AreSorted regions → AreSorted (set regions n s)
sorted_set [] n r s there same h = absurd h
sorted_set (heap ∷ regions) zero r s there same h =
    let e : Some heap ≡ Some r = there in
    let is : heap ≡ r = cc in
    (same ∙ ap (λ (q : Region). q.sort) (sym is) ∙ h.0, h.1)
sorted_set (heap ∷ regions) (suc n) r s there same h =
    (h.0, all_set (λ (q : Region). IsLeft q.sort) regions n s (subst IsLeft (sym same) (all_at (λ (q : Region). IsLeft q.sort) regions n r h.1 there)) h.1)

pub own_closed : (w : World) (n : ℕ) (r : Region) → region_at w n ≡ Found r → IsOwnWorld w → IsOwnWorld (closed w n r)
own_closed w n r found o = (sorted_set w.regions n r (record r { is_open = false }) (region_found w n r found) refl o.0, o.1)

-- the handle of a newly opened region is not the handle of the heap
pub handle_own : (regions : List Region) → AreSorted regions → IsOwn (Handle (length regions))
handle_own [] h = absurd h
handle_own (heap ∷ regions) h = tt

pub own_created : (w new : World) (owner : Owner) (cells : List Cell) → AllByRecursion IsOwnCell cells → created w owner cells ≡ Found new → IsOwnWorld w → IsOwnWorld new
own_created w new (InRegion region) cells own is o = go (region_at w region) refl
  where
    go : (a : Access Region) → region_at w region ≡ a → IsOwnWorld new
    go (Found r) at =
        let e : Found (made_in w region r cells) ≡ Found new = ap (λ (a : Access Region). created_in w region a cells) (sym at) ∙ is in
        let same : made_in w region r cells ≡ new = cc in
        subst IsOwnWorld same (
          sorted_set w.regions region r (record r { blocks = r.blocks ++ block_size cells ∷ [] }) (region_found w region r at) refl o.0,
          (own_made w (record { owner = InRegion region; cells = cells }) own o).1,
        )
    go Closed at = absurd (let e : Closed ≡ Found new = ap (λ (a : Access Region). created_in w region a cells) (sym at) ∙ is in cc)
    go Missing at = absurd (let e : Missing ≡ Found new = ap (λ (a : Access Region). created_in w region a cells) (sym at) ∙ is in cc)
own_created w new (Unique true) cells own is o =
    let e : Found (made_unique w cells) ≡ Found new = is in
    let same : made_unique w cells ≡ new = cc in
    subst IsOwnWorld same (own_made w (record { owner = Unique true; cells = cells }) own o)
own_created w new (Unique false) cells own is o = absurd (let e : Missing ≡ Found new = is in cc)

pub own_freed : (w : World) (n : ℕ) (x : Object) → slice_get w.objects n ≡ Some x → IsOwnWorld w → IsOwnWorld (freed w n x)
own_freed w n x there o =
    (o.0, all_set (λ (y : Object). AllByRecursion IsOwnCell y.cells) w.objects n (record x { owner = Unique false }) (all_at (λ (y : Object). AllByRecursion IsOwnCell y.cells) w.objects n x o.1 there) o.1)

cells_own : (w : World) (object offset : ℕ) (at : Located) → cell_at w object offset ≡ Found at → IsOwnWorld w → AllByRecursion IsOwnCell at.object.cells
cells_own w object offset at found o = all_at (λ (y : Object). AllByRecursion IsOwnCell y.cells) w.objects object at.object o.1 (cell_found w object offset at found).0

pub content_own : (w : World) (object offset : ℕ) (at : Located) → cell_at w object offset ≡ Found at → IsOwnWorld w → IsOwnContent at.cell.content
content_own w object offset at found o = all_at IsOwnCell at.object.cells offset at.cell (cells_own w object offset at found o) (cell_found w object offset at found).1

pub own_written : (w : World) (object offset : ℕ) (at : Located) (value : Value) → cell_at w object offset ≡ Found at → IsOwn value → IsOwnWorld w → IsOwnWorld (written w object offset at value)
own_written w object offset at value found own o =
    let cells = all_set IsOwnCell at.object.cells offset (record at.cell { content = Some value }) own (cells_own w object offset at found o) in
    (o.0, all_set (λ (y : Object). AllByRecursion IsOwnCell y.cells) w.objects object (record at.object { cells = set at.object.cells offset (record at.cell { content = Some value }) }) cells o.1)

-- ---- computed values

abbrev pub OwnResult : Result → Type 0
OwnResult (Gives value) = IsOwn value
OwnResult (Raises tag) = Unit {0}
OwnResult Misfits = Unit {0}

thinned_own : (object start count index : ℕ) → OwnResult (thinned object start count index)
thinned_own object start count index = go (nat_lt index count)
  where
    go : (b : Bool) → OwnResult (if b then Gives (Thin object (start + index)) else Raises array_bounds)
    go true = tt
    go false = tt

pub conversion_own : (to : Kind) (value : Value) → IsOwn value → OwnResult (conversion to value)
conversion_own kinds.Int (Int word) own = tt
conversion_own kinds.Char (Int word) own = tt
conversion_own kinds.Nullable Null own = tt
conversion_own kinds.Nullable (Thin object offset) own = tt
conversion_own kinds.Nullable (Fat object start count index) own = thinned_own object start count index
conversion_own kinds.NonNull Null own = tt
conversion_own kinds.NonNull (Thin object offset) own = tt
conversion_own kinds.NonNull (Fat object start count index) own = thinned_own object start count index
conversion_own kinds.Fat Null own = tt
conversion_own kinds.Fat (Thin object offset) own = tt
conversion_own kinds.Fat (Fat object start count index) own = tt
conversion_own kinds.Handle (Handle region) own = own
conversion_own kinds.Key (Key region) own = own
conversion_own to value own = tt

truth_result_own : (o : Option Bool) → OwnResult (truth_result o)
truth_result_own None = tt
truth_result_own (Some holds) = tt

pub truth_own : (o : Option Bool) → OwnResult (truth_of o)
truth_own None = tt
truth_own (Some fails) = tt

pub unary_own : (operator : UnaryOperator) (value : Value) → OwnResult (unary_result operator value)
unary_own unary.Negate (Int a) = tt
unary_own unary.Complement (Int a) = tt
unary_own unary.Not value = truth_result_own (is_zero value)
unary_own unary.Widen (Int a) = tt
unary_own unary.LowByte (Int a) = tt
unary_own operator value = tt

pub binary_own : (operator : Operator) (first second : Value) → OwnResult (binary_result operator first second)
binary_own operator (Int a) (Int b) = go (has_no_result operator b)
  where
    go : (c : Bool) → OwnResult (if c then Raises division_by_zero else Gives (Int (binary_word operator a b)))
    go true = tt
    go false = tt
binary_own operator first second = tt

pub count_own : (value : Value) → OwnResult (element_count value)
count_own Null = tt
count_own (Fat object start count index) = tt
count_own value = tt

moved_own : (change : ℕ → ℕ) (value : Value) → OwnResult (moved change value)
moved_own change Null = tt
moved_own change (Fat object start count index) = tt
moved_own change value = tt

test_own : (negated : Bool) (value : Value) → OwnResult (null_test negated value)
test_own negated Null = tt
test_own negated (Thin object offset) = tt
test_own negated (Fat object start count index) = tt
test_own negated value = tt

pub pointer_own : (operator : PointerOperator) (first second : Value) → OwnResult (pointer_result operator first second)
pointer_own pointers.AddFat first (Int n) = moved_own (λ index. add_of index n) first
pointer_own pointers.SubtractFat first (Int n) = moved_own (λ index. sub_of index n) first
pointer_own pointers.ThinIsNull first Null = test_own false first
pointer_own pointers.ThinIsNotNull first Null = test_own true first
pointer_own pointers.FatIsNull first Null = test_own false first
pointer_own pointers.FatIsNotNull first Null = test_own true first
pointer_own pointers.NullIs Null second = test_own false second
pointer_own pointers.NullIsNot Null second = test_own true second
pointer_own operator first second = tt

-- ---- costs

-- the cost of a statement's regions that are open at the same time is at most the cost of executing the whole statement
module _ (m : Measure) (costs : List ℕ) where
  mutual
    statement_within : (s : Statement) → statement_cost m costs s < too_many → statement_at_once m costs s ≤ statement_cost m costs s
    statement_within (Block region items) less = omega (arith, less, items_within items (omega (arith, less)))
    statement_within Empty less = omega arith
    statement_within (Evaluate a) less = omega arith
    statement_within (Swap a b) less = omega arith
    statement_within (If a s t) less = omega (arith, less, statement_within s (omega (arith, less)), statement_within t (omega (arith, less)))
    statement_within (While place a s) less =
        let free = loop_is_free (step_cost m + (expression_cost m costs a + statement_cost m costs s)) less in
        omega (arith, free, statement_within s (omega (arith, free)))
    statement_within (typed.Return value) less = omega arith
    statement_within Break less = omega arith
    statement_within Continue less = omega arith
    statement_within (Throw tag value) less = omega arith
    statement_within (Try s clauses) less = omega (arith, less, statement_within s (omega (arith, less)), clauses_within clauses (omega (arith, less)))

    pub items_within : (items : Items) → items_cost m costs items < too_many → items_at_once m costs items ≤ items_cost m costs items
    items_within NoItems less = omega arith
    items_within (MoreItems (Execute s) items) less = omega (arith, less, statement_within s (omega (arith, less)), items_within items (omega (arith, less)))
    items_within (MoreItems (Declare number type value) items) less = omega (arith, less, items_within items (omega (arith, less)))
    items_within (MoreItems (DeclareRegion region number) items) less = omega arith
    items_within (MoreItems (OpenRegion region number p key) items) less = omega (arith, less, items_within items (omega (arith, less)))
    items_within (MoreItems (DeclareAlias region number type p source) items) less = omega (arith, less, items_within items (omega (arith, less)))
    items_within (MoreItems (DeclareKey region number) items) less = omega (arith, less, items_within items (omega (arith, less)))

    clauses_within : (clauses : Clauses) → clauses_cost m costs clauses < too_many → clauses_at_once m costs clauses ≤ clauses_cost m costs clauses
    clauses_within NoClauses less = omega arith
    clauses_within (Default region items) less = omega (arith, less, items_within items (omega (arith, less)))
    clauses_within (Case tag None region items later) less = omega (arith, less, items_within items (omega (arith, less)), clauses_within later (omega (arith, less)))
    clauses_within (Case tag (Some number) region items later) less = omega (arith, less, items_within items (omega (arith, less)), clauses_within later (omega (arith, less)))
