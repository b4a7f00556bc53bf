-- This file is about the code that checks the declarations and statements of a block, and about the scope (visible names) after them.
use Rattle.std.proofs.Common.{◌≡◌, ℕ, suc, ◌+◌, List, [], ◌∷◌, ◌++◌, Some, None, Ok, refl, sym, ap, subst, ◌∙◌, arith}
use Rattle.std.proofs.lemmas.List.{append_assoc}
use Rattle.cyc_syntax.specs.Symbols.{Place}
use Rattle.cyc_syntax.specs.Trees.{Named, Expression, Statement, IfElse, Items, NoItems, MoreItems, Item, Execute, Local, Region, Alias, DynamicRegion}
use Rattle.cyc_types.specs.declared.typed.Item.{Item as ItemCode}
use Rattle.cyc_types.specs.TypedTrees as typed
use Rattle.cyc_types.specs.TypedTreeView.{view_item, items_of}
use Rattle.cyc_types.specs.declared.region.Region.TheVariants as regions
use Rattle.cyc_types.specs.declared.scope.Kind.TheVariants as kinds
use Rattle.cyc_types.specs.Types.{Handle, Key}
use Rattle.cyc_types.specs.typing.Formation.{region_of}
use Rattle.cyc_types.specs.typing.Scopes.{Scope, Ordinary, OfRegion, with_opened, with_region, with_key_opened, item_locals, one_item_locals, item_regions, one_item_regions, item_names, one_item_names, locals_in, regions_in, names_in, following, in_block, in_labelled}
use Rattle.cyc_types.specs.typing.Statements.{declared_type, following_item, rule_items, rule_item}
use Rattle.cyc_types.specs.Rules.{and_then, run}
use Rattle.cyc_scope.specs.declared.stop.Stop.{Stop}
use Rattle.cyc_scope.specs.declared.stop.Stop.TheVariants as stops
use Rattle.cyc_scope.specs.inside.Code.{Stops}
use Rattle.cyc_scope.specs.declared.scope.Mark.{Mark}
use Rattle.cyc_scope.specs.inside.Marks.{mark_of, left_to}
use Rattle.cyc_check.specs.inside.Walks.{IsAfterItems, following_block, after_labelled}
use Rattle.cyc_check.specs.inside.Inside.{Inside}
use Rattle.cyc_check.proofs.Inside.{inside_itself, inside_through, inside_local, inside_opened, inside_region, inside_key, inside_after, inside_block, inside_labelled, numbered_as, left_numbered}
use Rattle.cyc_expressions.proofs.Loops.{onto, with_front, regroup, onto_nothing}

-- `Walked` says that the typing rules have the same result from two points: for the whole block from its first scope, and for its
-- unchecked rest from the current scope.
pub record Walked (start now : Scope) (made : List ItemCode) (rest whole : Items) : Type 0 where
  pub gives : with_front view_item typed.MoreItems made (run (rule_items now rest)) ≡ run (rule_items start whole)
  pub inside : Inside start now
  pub numbers : now.next_local + item_locals rest ≡ start.next_local + item_locals whole
  pub regions : now.next_region + item_regions rest ≡ start.next_region + item_regions whole
  pub taken : item_names rest ++ now.taken ≡ item_names whole ++ start.taken

pub walk_starts : (g : Scope) (whole : Items) → Walked g g [] whole whole
walk_starts g whole = record { gives = onto_nothing view_item typed.MoreItems (run (rule_items g whole)); inside = inside_itself g; numbers = refl; regions = refl; taken = refl }

-- After a declaration or statement of a block is checked, the names that it declares come first in the scope, before those of outer scopes.
inside_item : (n : Scope) (i : Item) (j : typed.Item) → Inside n (following_item n i j)
inside_item n (Execute s) j = inside_after n s
inside_item n (Local w x v) j = inside_local Ordinary x (declared_type j) n
inside_item n (Region r h None) j =
    inside_through n (with_opened kinds.Lexical r n) (following_item n (Region r h None) j) (inside_opened kinds.Lexical r n) (inside_local OfRegion h (Handle (regions.Variable n.next_region)) (with_opened kinds.Lexical r n))
inside_item n (Region r h (Some k)) j =
    inside_through n (with_key_opened (region_of n.names r) n) (following_item n (Region r h (Some k)) j) (inside_key (region_of n.names r) n) (inside_local OfRegion h (Handle (region_of n.names r)) (with_key_opened (region_of n.names r) n))
inside_item n (Alias r w x y) j =
    inside_through n (with_opened kinds.Alias r n) (following_item n (Alias r w x y) j) (inside_opened kinds.Alias r n) (inside_local Ordinary x (declared_type j) (with_opened kinds.Alias r n))
inside_item n (DynamicRegion r k) j =
    inside_through n (with_region r n) (following_item n (DynamicRegion r k) j) (inside_region r n) (inside_local Ordinary k (Key (regions.Variable n.next_region)) (with_region r n))

-- After a declaration or statement of a block is checked, the index for the next declared local has grown by the number of
-- locals declared in it.
local_item : (n : Scope) (i : Item) (j : typed.Item) → (following_item n i j).next_local ≡ n.next_local + one_item_locals i
local_item n (Execute s) j = refl
local_item n (Local w x v) j = omega arith
local_item n (Region r h None) j = omega arith
local_item n (Region r h (Some k)) j = omega arith
local_item n (Alias r w x y) j = omega arith
local_item n (DynamicRegion r k) j = omega arith

region_item : (n : Scope) (i : Item) (j : typed.Item) → (following_item n i j).next_region ≡ n.next_region + one_item_regions i
region_item n (Execute s) j = refl
region_item n (Local w x v) j = omega arith
region_item n (Region r h None) j = omega arith
region_item n (Region r h (Some k)) j = omega arith
region_item n (Alias r w x y) j = omega arith
region_item n (DynamicRegion r k) j = omega arith

taken_item : (n : Scope) (i : Item) (j : typed.Item) → (following_item n i j).taken ≡ one_item_names i ++ n.taken
taken_item n (Execute s) j = refl
taken_item n (Local w x v) j = refl
taken_item n (Region r h None) j = refl
taken_item n (Region r h (Some k)) j = refl
taken_item n (Alias r w x y) j = refl
taken_item n (DynamicRegion r k) j = refl

-- If the first declaration or statement of a list has a typed tree, the result for the list depends only on the list's rest.
by_item : (n : Scope) (i : Item) (rest : Items) (j : typed.Item) → run (rule_item n i) ≡ Ok j → run (rule_items n (MoreItems i rest)) ≡ and_then (run (rule_items (following_item n i j) rest)) (λ js. Ok (typed.MoreItems j js))
by_item n i rest j h = ap (λ o. and_then o (λ k. and_then (run (rule_items (following_item n i k) rest)) (λ js. Ok (typed.MoreItems k js)))) h

pub walk_goes_on : (start now : Scope) (made : List ItemCode) (i : Item) (rest whole : Items) (x : ItemCode) → Walked start now made (MoreItems i rest) whole → run (rule_item now i) ≡ Ok (view_item x)
    → Walked start (following_item now i (view_item x)) (made ++ x ∷ []) rest whole
walk_goes_on start now made i rest whole x w h = record {
  gives =
      sym (ap (with_front view_item typed.MoreItems made) (by_item now i rest (view_item x) h) ∙ regroup view_item typed.MoreItems made x (run (rule_items (following_item now i (view_item x)) rest)))
      ∙ w.gives;
  inside = inside_through start now (following_item now i (view_item x)) w.inside (inside_item now i (view_item x));
  numbers = omega (arith, w.numbers, local_item now i (view_item x));
  regions = omega (arith, w.regions, region_item now i (view_item x));
  taken = ap (λ ns. item_names rest ++ ns) (taken_item now i (view_item x)) ∙ sym (append_assoc (item_names rest) (one_item_names i) now.taken) ∙ w.taken;
}

pub walk_stops : (e : Stop) (start now : Scope) (made : List ItemCode) (i : Item) (rest whole : Items) → Walked start now made (MoreItems i rest) whole → Stops e (run (rule_item now i)) → Stops e (run (rule_items start whole))
walk_stops stops.Memory start now made i rest whole w h = tt
walk_stops (stops.Refused f) start now made i rest whole w h =
    sym w.gives ∙ ap (λ o. with_front view_item typed.MoreItems made (and_then o (λ k. and_then (run (rule_items (following_item now i k) rest)) (λ js. Ok (typed.MoreItems k js))))) h

onto_items : (is : List ItemCode) → onto view_item typed.MoreItems is typed.NoItems ≡ items_of is
onto_items [] = refl
onto_items (i ∷ is) = ap (typed.MoreItems (view_item i)) (onto_items is)

pub walk_gives : (start now : Scope) (made : List ItemCode) (whole : Items) → Walked start now made NoItems whole → run (rule_items start whole) ≡ Ok (items_of made)
walk_gives start now made whole w = sym w.gives ∙ ap Ok (onto_items made)

-- ---- leaving a block

pub block_left : (g n : Scope) (is : Items) → IsAfterItems (in_block g) is n → left_to (mark_of g) n ≡ following_block g is
block_left g n is b =
    let count : n.next_region ≡ g.next_region + suc (item_regions is) = omega (arith, b.regions) in
    left_numbered g n (inside_through g (in_block g) n (inside_block g) b.inside)
    ∙ ap (λ (k : ℕ). record (numbered_as g n) { next_local = k }) b.numbers
    ∙ ap (λ (k : ℕ). record (numbered_as g n) { next_local = g.next_local + item_locals is; next_region = k }) count
    ∙ ap (λ (ns : List ℕ). record (following_block g is) { taken = ns }) b.taken

pub labelled_left : (g n : Scope) (l : Named) (is : Items) → IsAfterItems (in_labelled l g) is n → left_to (mark_of g) n ≡ after_labelled g l is
labelled_left g n l is b =
    let count : n.next_region ≡ g.next_region + suc (item_regions is) = omega (arith, b.regions) in
    left_numbered g n (inside_through g (in_labelled l g) n (inside_labelled l g) b.inside)
    ∙ ap (λ (k : ℕ). record (numbered_as g n) { next_local = k }) b.numbers
    ∙ ap (λ (k : ℕ). record (numbered_as g n) { next_local = g.next_local + item_locals is; next_region = k }) count
    ∙ ap (λ (ns : List ℕ). record (after_labelled g l is) { taken = ns }) (b.taken ∙ sym (append_assoc (item_names is) (l.name ∷ []) g.taken))

-- ---- the entries and exits of scopes, by the scopes and the mark in the code

pub block_is_left : (g h n : Scope) (m : Mark) (is : Items) → m ≡ mark_of g → h ≡ in_block g → IsAfterItems h is n → left_to m n ≡ following_block g is
block_is_left g h n m is at entered b = ap (λ (x : Mark). left_to x n) at ∙ block_left g n is (subst (λ x. IsAfterItems x is n) entered b)

pub labelled_is_left : (g h n : Scope) (m : Mark) (l : Named) (is : Items) → m ≡ mark_of g → h ≡ in_labelled l g → IsAfterItems h is n → left_to m n ≡ after_labelled g l is
labelled_is_left g h n m l is at entered b = ap (λ (x : Mark). left_to x n) at ∙ labelled_left g n l is (subst (λ x. IsAfterItems x is n) entered b)

-- ---- the two branches of an `if`

pub if_after : (g : Scope) (p : Place) (c : Expression) (s t : Statement) → following (following g s) t ≡ following g (IfElse p c s t)
if_after g p c s t =
    let n : g.next_local + locals_in s + locals_in t ≡ g.next_local + (locals_in s + locals_in t) = omega arith in
    let r : g.next_region + regions_in s + regions_in t ≡ g.next_region + (regions_in s + regions_in t) = omega arith in
    ap (λ (k : ℕ). record (following (following g s) t) { next_local = k }) n
    ∙ ap (λ (k : ℕ). record (following (following g s) t) { next_local = g.next_local + (locals_in s + locals_in t); next_region = k }) r
    ∙ ap (λ (ns : List ℕ). record (following g (IfElse p c s t)) { taken = ns }) (sym (append_assoc (names_in t) (names_in s) g.taken))
