-- The flow rules in their usual form: premises and a conclusion. The premises of a rule value compute to a statement about trees and states
-- of locals. Each lemma in this file states one flow rule by its premises and its conclusion, and `refl` proves the lemma.
use Rattle.std.specs.Prelude.{◌≡◌, ◌⊎◌, ℕ, true, not, ◌&&◌, List, [], ◌∷◌, ◌++◌, Some, refl}
use Rattle.cyc_words.specs.declared.fault.Code.TheVariants as codes
use Rattle.cyc_words.specs.declared.fault.Fault.{Fault}
use Rattle.cyc_syntax.specs.Symbols.{Place}
use Rattle.cyc_types.specs.declared.typed.Kind.{Kind}
use Rattle.cyc_types.specs.declared.typed.LogicalOperator.{LogicalOperator}
use Rattle.cyc_types.specs.declared.typed.PointerOperator.{PointerOperator}
use Rattle.cyc_types.specs.Types.{Ty, ValueType}
use Rattle.cyc_types.specs.TypedTrees.{Local, Expression, Move, Peek, Assign, Store, Dereference, Array, Converted, Operations, ThenTest, ThenPointerPeek, Side, Statement, Block, If, While, Break, Continue, Try, Items, MoreItems, Item, OpenRegion, Clauses, Default, Function}
use Rattle.cyc_types.specs.Rules.{demand, AllKept, IsFaultOf, Derives, Refuses}
use Rattle.cyc_types.specs.flow.States.{State, Unreached, Vacant, Locked, Full, meet, is_at_least, is_reached, fullness, with_fullness, with_each, is_vacant, is_locked, emptied}
use Rattle.cyc_types.specs.flow.Touched.{touched_statement}
use Rattle.cyc_types.specs.flow.Expressions.{is_free, and_peeked, peek_after, rule, rule_place, rule_initial, rule_converted, rule_operations}
use Rattle.cyc_types.specs.flow.Statements.{Loop, Around, Known, rule_side, peeked_side, swap_demanded, rule_swapped, locks_of, following_item, rule_statement, rule_items, rule_item, rule_clauses}
use Rattle.cyc_types.specs.flow.Programs.{in_function, start_of, rule_function}

-- ---- expressions

module _ (q : List ℕ) where
  -- a local is consumed only if its value is neither borrowed nor read early by an unfinished operation; afterwards the local is empty
  consumed : (p : Place) (n : ℕ) (t : Ty) (f g : State)
      → Derives (rule q (Move p n t) f) g
      ≡ (((not (is_vacant (fullness f n)) ≡ true) × ((not (is_locked (fullness f n)) ≡ true) × ((is_free q n f ≡ true) × Unit {0}))) × (g ≡ with_fullness Vacant f n))
  consumed p n t f g = refl

  -- a unique pointer may be read and left in its local even while an unfinished operation has already read it in this way
  looked_at : (p : Place) (n : ℕ) (t : Ty) (f g : State)
      → Derives (rule q (Peek p n t) f) g ≡ (((not (is_vacant (fullness f n)) ≡ true) × ((not (is_locked (fullness f n)) ≡ true) × Unit {0})) × (g ≡ f))
  looked_at p n t f g = refl

  -- an assignment evaluates its value first and then fills its local
  filled : (p : Place) (n : ℕ) (c : Converted) (t : ValueType) (f h : State)
      → Derives (rule q (Assign (Local p n) c t) f) h
      ≡ ((g : State) × Derives (rule_converted q c f) g × (((not (is_locked (fullness g n)) && is_free q n g ≡ true) × Unit {0}) × (h ≡ with_fullness Full g n)))
  filled p n c t f h = refl

  -- if a memory cell is reached through a local's unique pointer, the local must not change until the value to store has been evaluated
  put_there : (d : Dereference) (c : Converted) (t : ValueType) (f h : State)
      → Derives (rule q (Store d c t) f) h ≡ ((g : State) × Derives (rule_place q d f) g × Derives (rule_converted (and_peeked (peek_after d) q) c g) h)
  put_there d c t f h = refl

  compared : (n : ℕ) (o : PointerOperator) (a : Expression) (os : Operations) (f h : State)
      → Derives (rule_operations q (ThenPointerPeek n o a os) f) h ≡ ((g : State) × Derives (rule (q ++ (n ∷ [])) a f) g × Derives (rule_operations q os g) h)
  compared n o a os f h = refl

  -- the state after an operand that `&&` or `||` may skip is the meet of the states before and after the operand
  tested : (o : LogicalOperator) (a : Expression) (os : Operations) (f h : State)
      → Derives (rule_operations q (ThenTest o a os) f) h ≡ ((g : State) × Derives (rule q a f) g × Derives (rule_operations q os (meet f g)) h)
  tested o a os f h = refl

  -- evaluating the elements of an array must leave each local at least as full (free, borrowed or perhaps empty) as before the
  -- elements, because the array may have no element
  elements : (p : Place) (l : ℕ) (n : Expression) (k : Kind) (a : Expression) (f g : State)
      → Derives (rule_initial q (Array p l n k a) f) g
      ≡ ((head : State) × Derives (rule q n f) head × ((h : State) × Derives (rule q a head) h × (((is_at_least h head ≡ true) × Unit {0}) × (g ≡ head))))
  elements p l n k a f g = refl

-- ---- statements

module _ (c : Around) where
  -- a swap uses its two variables after its left and right operands have been evaluated
  swapped : (x y : Side) (f i : State)
      → Derives (rule_swapped x y f) i
      ≡ ((g : State) × Derives (rule_side [] x f) g × ((h : State) × Derives (rule_side (and_peeked (peeked_side x) []) y g) h × (AllKept (swap_demanded x y h) × (i ≡ h))))
  swapped x y f i = refl

  branches : (a : Expression) (s t : Statement) (f b : State) (m : Known)
      → Derives (rule_statement c (If a s t) (record { now = f; breaks = b })) m
      ≡ ((g : State) × Derives (rule [] a f) g × ((k : Known) × Derives (rule_statement c s (record { now = g; breaks = b })) k
      × ((l : Known) × Derives (rule_statement c t (record { now = g; breaks = k.breaks })) l × (Unit {0} × (m ≡ record { now = meet k.now l.now; breaks = l.breaks })))))
  branches a s t f b m = refl

  -- At the end of a loop's body, each local is at least as full (free, borrowed or perhaps empty) as at the loop's head. The state
  -- after a loop is the meet of the state after its condition and the states at its breaks.
  loops : (p : Place) (a : Expression) (s : Statement) (f b : State) (m : Known)
      → Derives (rule_statement c (While p a s) (record { now = f; breaks = b })) m
      ≡ ((g : State) × Derives (rule [] a f) g
      × ((k : Known) × Derives (rule_statement (record { loop = Some (record { place = p; head = f }); locks = [] }) s (record { now = g; breaks = Unreached })) k
      × (((is_at_least k.now f ≡ true) × Unit {0}) × (m ≡ record { now = meet g k.breaks; breaks = b }))))
  loops p a s f b m = refl

  -- after a `break`, the locals whose values were borrowed since the start of the loop's body hold their values again
  breaks : (f b : State) (m : Known) → Derives (rule_statement c Break (record { now = f; breaks = b })) m ≡ (Unit {0} × (m ≡ record { now = Unreached; breaks = meet b (with_each Full c.locks f) }))
  breaks f b m = refl

  continues : (l : Loop) (ks : List ℕ) (f b : State) (m : Known)
      → Derives (rule_statement (record { loop = Some l; locks = ks }) Continue (record { now = f; breaks = b })) m
      ≡ (((is_at_least (with_each Full ks f) l.head ≡ true) × Unit {0}) × (m ≡ record { now = Unreached; breaks = b }))
  continues l ks f b m = refl

  -- a catch clause begins with the state at the `try`, except that the locals that the body of the `try` consumes, assigns or lends
  -- out are empty
  clauses : (s : Statement) (cs : Clauses) (f b : State) (m : Known)
      → Derives (rule_statement c (Try s cs) (record { now = f; breaks = b })) m
      ≡ ((k : Known) × Derives (rule_statement c s (record { now = f; breaks = b })) k × Derives (rule_clauses c (emptied (touched_statement s []) f) cs k) m)
  clauses s cs f b m = refl

  default_clause : (start : State) (r : ℕ) (js : Items) (f b : State) (m : Known)
      → Derives (rule_clauses c start (Default r js) (record { now = f; breaks = b })) m
      ≡ ((k : Known) × Derives (rule_items c js (record { now = start; breaks = b })) k × (Unit {0} × (m ≡ record { now = meet f (with_each Full (locks_of js) k.now); breaks = k.breaks })))
  default_clause start r js f b m = refl

  -- at the end of a block, the locals whose values the block's declarations borrowed hold these values again
  blocks : (r : ℕ) (js : Items) (k m : Known)
      → Derives (rule_statement c (Block r js) k) m ≡ ((l : Known) × Derives (rule_items c js k) l × (Unit {0} × (m ≡ record { now = with_each Full (locks_of js) l.now; breaks = l.breaks })))
  blocks r js k m = refl

  opened : (r n : ℕ) (p : Place) (k : ℕ) (f b : State) (m : Known)
      → Derives (rule_item c (OpenRegion r n p k) (record { now = f; breaks = b })) m
      ≡ ((g : State) × (((not (is_vacant (fullness f k)) ≡ true) × ((not (is_locked (fullness f k)) ≡ true) × Unit {0})) × (g ≡ with_fullness Full (with_fullness Locked f k) n))
      × (Unit {0} × (m ≡ record { now = g; breaks = b })))
  opened r n p k f b m = refl

  one_by_one : (j : Item) (js : Items) (k m : Known)
      → Derives (rule_items c (MoreItems j js) k) m ≡ ((l : Known) × Derives (rule_item c j k) l × Derives (rule_items (following_item j c) js l) m)
  one_by_one j js k m = refl

-- ---- functions

-- if a function has a result, execution never reaches the function's end
returns : (h : Function) (t : Ty)
    → Derives (rule_function (record h { result = Some t })) tt
    ≡ ((k : Known) × Derives (rule_items in_function h.body (record { now = start_of h; breaks = Unreached })) k × (((not (is_reached k.now) ≡ true) × Unit {0}) × (◌≡◌ {A = Unit {0}} tt tt)))
returns h t = refl

stops_at_its_end : (h : Function) (t : Ty) (x : Fault)
    → Refuses (rule_function (record h { result = Some t })) x
    ≡ (Refuses (rule_items in_function h.body (record { now = start_of h; breaks = Unreached })) x
    ⊎ ((k : Known) × Derives (rule_items in_function h.body (record { now = start_of h; breaks = Unreached })) k × IsFaultOf (demand codes.MissingReturn h.end (not (is_reached k.now)) ∷ []) x))
stops_at_its_end h t x = refl
