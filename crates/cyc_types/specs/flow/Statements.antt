-- The flow rules of statements, of block items and of catch clauses. The states of the locals are propagated in execution order, together
-- with the states at the breaks that leave the innermost loop. (As in `Expressions`: the demands on variables are Cyclone's, Grossman et
-- al. 2002; locks, codes and places are this project's own choice.)
use Rattle.std.specs.Prelude.{ℕ, List, [], ◌∷◌, ◌++◌, Option, Some, None}
use Rattle.cyc_syntax.specs.Symbols.{Place}
use Rattle.cyc_types.specs.TypedTrees.{Local, Global, Expression, Converted, Side, VariableSide, CellSide, Statement, Block, Empty, Evaluate, Swap, If, While, Return, Break, Continue}
use Rattle.cyc_types.specs.TypedTrees.{Throw, Try, Items, NoItems, MoreItems, Item, Execute, Declare, DeclareRegion, OpenRegion, DeclareAlias, DeclareKey, Clauses, NoClauses, Default, Case}
use Rattle.cyc_types.specs.Rules.{Demand, Rule, Own, Part, gives}
use Rattle.cyc_types.specs.flow.States.{State, Unreached, Vacant, Locked, Full, meet, with_fullness, with_each, emptied}
use Rattle.cyc_types.specs.flow.Touched.{touched_statement}
use Rattle.cyc_types.specs.flow.Expressions.{full_demanded, use_demanded, and_peeked, peek_after, head_demanded, rule, rule_place, rule_converted}

-- an enclosing loop: the source position of its `while`, and the state of the locals at its head
pub record Loop : Type 0 where
  pub place : Place
  pub head : State

-- The enclosing constructs on which the flow rule of a statement depends: the innermost enclosing loop, if any, and the locals whose
-- values declarations have borrowed since the body of that loop began.
pub record Around : Type 0 where
  pub loop : Option Loop
  pub locks : List ℕ

-- the state of the locals at a program point, and the meet of their states at all earlier `break`s of the enclosing loop
pub record Known : Type 0 where
  pub now : State
  pub breaks : State

abbrev pub at : State → Known → Known
at f k = record k { now = f }

-- ---- statements

abbrev pub rule_value : Option Converted → State → Rule State
rule_value None f = gives f
rule_value (Some c) f = rule_converted [] c f

abbrev pub rule_thrown : Option Expression → State → Rule State
rule_thrown None f = gives f
rule_thrown (Some a) f = rule [] a f

-- the flow rule that evaluates the left or right operand of a swap as an lvalue
abbrev pub rule_side : (waiting : List ℕ) → Side → State → Rule State
rule_side q (VariableSide l t) f = gives f
rule_side q (CellSide d) f = rule_place q d f

-- the local from which the left operand of a swap reads its unique pointer without emptying the local, or `None`
abbrev pub peeked_side : Side → Option ℕ
peeked_side (VariableSide l t) = None
peeked_side (CellSide d) = peek_after d

-- the requirements on a swap operand that is a variable; the variable is used after both operands have been evaluated
abbrev pub side_demanded : (waiting : List ℕ) → Side → State → List Demand
side_demanded q (VariableSide (Local p n) t) f = use_demanded q p n f
side_demanded q (VariableSide (Global n) t) f = []
side_demanded q (CellSide d) f = []

abbrev pub swap_demanded : Side → Side → State → List Demand
swap_demanded x y f = side_demanded [] x f ++ side_demanded (and_peeked (peeked_side x) []) y f

abbrev pub rule_swapped : Side → Side → State → Rule State
rule_swapped x y f = Part (rule_side [] x f) (λ g. Part (rule_side (and_peeked (peeked_side x) []) y g) (λ h. Own (swap_demanded x y h) h))

-- the enclosing loop and the borrowed locals (none yet) at the start of a loop's body, from the loop's source position and the state at its
-- head
abbrev pub in_loop : Place → State → Around
in_loop p head = record { loop = Some (record { place = p; head = head }); locks = [] }

-- the state of the locals after leaving a loop's body: locals whose values the body's declarations borrowed hold these values again
abbrev pub left_loop : Around → State → State
left_loop c f = with_each Full c.locks f

abbrev pub continue_demanded : Option Loop → State → List Demand
continue_demanded None f = []
continue_demanded (Some l) f = head_demanded l.place f l.head

-- the flow rule after a loop, which ends when its condition is false or by a `break`
abbrev pub after_loop : Place → (head exit : State) → (breaks : State) → Known → Rule Known
after_loop p head exit breaks k = Own (head_demanded p k.now head) (record { now = meet exit k.breaks; breaks = breaks })

-- ---- items

-- the local whose value a declaration borrows to the end of its block, as a list of one element, or an empty list
abbrev pub locked_by : Item → List ℕ
locked_by (Execute s) = []
locked_by (Declare n t v) = []
locked_by (DeclareRegion r n) = []
locked_by (OpenRegion r n p k) = k ∷ []
locked_by (DeclareAlias r n t p m) = m ∷ []
locked_by (DeclareKey r n) = []

abbrev pub locks_of : Items → List ℕ
locks_of NoItems = []
locks_of (MoreItems j js) = locked_by j ++ locks_of js

-- the enclosing loop and the borrowed locals after a declaration or statement of a block, from those before it
abbrev pub following_item : Item → Around → Around
following_item j c = record c { locks = c.locks ++ locked_by j }

-- the flow rule for the declaration of a local, with or without an initial value
abbrev pub rule_declared : ℕ → Option Converted → State → Rule State
rule_declared n None f = gives (with_fullness Vacant f n)
rule_declared n (Some c) f = Part (rule_converted [] c f) (λ g. gives (with_fullness Full g n))

-- the flow rule for a declaration of one local that borrows another's value; the source position is that of the borrowed local's name
abbrev pub rule_locked : ℕ → Place → (locked : ℕ) → State → Rule State
rule_locked n p m f = Own (full_demanded p m f) (with_fullness Full (with_fullness Locked f m) n)

-- the state of the locals at the end of a block: locals whose values the block's declarations borrowed hold these values again
abbrev pub at_end : Items → Known → Known
at_end js k = at (with_each Full (locks_of js) k.now) k

-- ---- clauses

-- the state at the start of a catch clause, from the state at its `try`: a local that the body of the `try`
-- consumes, assigns or lends out counts as empty
abbrev pub caught : State → Statement → State
caught f s = emptied (touched_statement s []) f

abbrev pub with_caught : Option ℕ → State → State
with_caught None f = f
with_caught (Some n) f = with_fullness Full f n

-- the state after a `try` with one more catch clause: the meet of the state without this clause and the state at its end
abbrev pub or_clause : State → Items → Known → Known
or_clause before js k = at (meet before (at_end js k).now) k

-- ---- all forms

abbrev mutual
  pub rule_statement : Around → Statement → Known → Rule Known
  rule_statement c (Block r js) k = Part (rule_items c js k) (λ l. gives (at_end js l))
  rule_statement c Empty k = gives k
  rule_statement c (Evaluate a) k = Part (rule [] a k.now) (λ f. gives (at f k))
  rule_statement c (Swap x y) k = Part (rule_swapped x y k.now) (λ f. gives (at f k))
  rule_statement c (If a s t) k =
      Part (rule [] a k.now) (λ f. Part (rule_statement c s (at f k)) (λ l. Part (rule_statement c t (at f l)) (λ m. gives (at (meet l.now m.now) m))))
  rule_statement c (While p a s) k =
      Part (rule [] a k.now) (λ f. Part (rule_statement (in_loop p k.now) s (record { now = f; breaks = Unreached })) (λ l. after_loop p k.now f k.breaks l))
  rule_statement c (Return v) k = Part (rule_value v k.now) (λ f. gives (at Unreached k))
  rule_statement c Break k = gives (record { now = Unreached; breaks = meet k.breaks (left_loop c k.now) })
  rule_statement c Continue k = Own (continue_demanded c.loop (left_loop c k.now)) (at Unreached k)
  rule_statement c (Throw e v) k = Part (rule_thrown v k.now) (λ f. gives (at Unreached k))
  rule_statement c (Try s cs) k = Part (rule_statement c s k) (λ l. rule_clauses c (caught k.now s) cs l)

  pub rule_items : Around → Items → Known → Rule Known
  rule_items c NoItems k = gives k
  rule_items c (MoreItems j js) k = Part (rule_item c j k) (λ l. rule_items (following_item j c) js l)

  pub rule_item : Around → Item → Known → Rule Known
  rule_item c (Execute s) k = rule_statement c s k
  rule_item c (Declare n t v) k = Part (rule_declared n v k.now) (λ f. gives (at f k))
  rule_item c (DeclareRegion r n) k = gives (at (with_fullness Full k.now n) k)
  rule_item c (OpenRegion r n p m) k = Part (rule_locked n p m k.now) (λ f. gives (at f k))
  rule_item c (DeclareAlias r n t p m) k = Part (rule_locked n p m k.now) (λ f. gives (at f k))
  rule_item c (DeclareKey r n) k = gives (at (with_fullness Full k.now n) k)

  -- the flow rule for the clauses of a catch; each clause begins with the state `start`
  pub rule_clauses : Around → State → Clauses → Known → Rule Known
  rule_clauses c start NoClauses k = gives k
  rule_clauses c start (Default r js) k = Part (rule_items c js (at start k)) (λ l. gives (or_clause k.now js l))
  rule_clauses c start (Case e n r js cs) k =
      Part (rule_items c js (at (with_caught n start) k)) (λ l. rule_clauses c start cs (or_clause k.now js l))
