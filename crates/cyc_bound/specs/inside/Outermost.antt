-- An invariant of every state of a program whose lexical regions free everything allocated by a handle. No value is a handle of the heap or
-- a key, so a handle allocates only in lexical regions. No outermost region that is still to be opened costs more than a given number. This
-- invariant is this project's own choice.
use Rattle.std.specs.Prelude.{◌≡◌, ℕ, zero, ◌≤◌, Bool, true, max, List, [], ◌∷◌, Option, None, Some}
use Rattle.std.specs.List.{AllByRecursion}
use Rattle.cyc_meaning.specs.Values.{Value, Handle, Key, Operand, Cell}
use Rattle.cyc_meaning.specs.State.{Sort, Heap, Dynamic, Region, Object, World, Awaiting, Pass, MakeFields, Initialise, Choose, Test, OpenBy, AliasOf, Entry, Needs, Rest, Loop, CloseLexical, Handler}
use Rattle.cyc_meaning.specs.State.{Write, Focus, Given, GivenPlace, Executing, Calling, Entering, Binding, Naming, Writing, Swapping, Returning, Catching, State, Running, Ended, Dead, Wrong}
use Rattle.cyc_bound.specs.declared.costs.Measure.{Measure}
use Rattle.cyc_bound.specs.AtOnce.{statement_at_once, items_at_once, clauses_at_once}

-- ---- values

abbrev pub IsOwn : Value → Type 0
IsOwn (Handle zero) = ⊥
IsOwn (Key region) = ⊥
IsOwn value = Unit {0}

abbrev pub IsOwnContent : Option Value → Type 0
IsOwnContent None = Unit {0}
IsOwnContent (Some value) = IsOwn value

abbrev pub IsOwnOperand : Option Operand → Type 0
IsOwnOperand None = Unit {0}
IsOwnOperand (Some v) = IsOwn v.value

abbrev pub AreOwn : List Operand → Type 0
AreOwn operands = AllByRecursion (λ (v : Operand). IsOwn v.value) operands

-- says that no operand stored in a stack entry is a handle of the heap or a key
abbrev pub waiting_own : Awaiting → Type 0
waiting_own (Pass callee before later) = AreOwn before
waiting_own (MakeFields owner before fields) = AreOwn before
waiting_own waiting = Unit {0}

-- says that a stack entry stores no handle of the heap and no key; `opens` states if a lexical region may be open
abbrev pub entry_own : (opens : Bool) → Entry → Type 0
entry_own opens (Needs waiting) = waiting_own waiting
entry_own opens (CloseLexical region) = opens ≡ true
entry_own opens entry = Unit {0}

abbrev pub focus_own : Focus → Type 0
focus_own (Given v) = IsOwn v.value
focus_own (GivenPlace place) = IsOwn place
focus_own (Calling callee before) = AreOwn before
focus_own (Entering h given) = AreOwn given
focus_own (Binding number types given body) = AreOwn given
focus_own (Naming number operand items) = IsOwn operand.value
focus_own (Writing writes result) = AllByRecursion (λ (x : Write). IsOwn x.operand.value) writes × IsOwnOperand result
focus_own (Swapping kind left right before) = IsOwnOperand before
focus_own (Returning value) = IsOwnOperand value
focus_own focus = Unit {0}

-- ---- the world

abbrev pub IsOwnCell : Cell → Type 0
IsOwnCell c = IsOwnContent c.content

abbrev pub AreOwnObjects : List Object → Type 0
AreOwnObjects objects = AllByRecursion (λ (x : Object). AllByRecursion IsOwnCell x.cells) objects

-- says that a region is neither the heap nor dynamic
abbrev pub IsLeft : Sort → Type 0
IsLeft Heap = ⊥
IsLeft Dynamic = ⊥
IsLeft sort = Unit {0}

-- says that the first region is the heap, and that no other region is the heap or dynamic
abbrev pub AreSorted : List Region → Type 0
AreSorted [] = ⊥
AreSorted (heap ∷ regions) = (heap.sort ≡ Heap) × AllByRecursion (λ (r : Region). IsLeft r.sort) regions

abbrev pub IsOwnWorld : World → Type 0
IsOwnWorld w = AreSorted w.regions × AreOwnObjects w.objects

-- ---- regions that are still to be opened

abbrev pub waiting_at_once : Measure → (costs : List ℕ) → Awaiting → ℕ
waiting_at_once m costs (Initialise number kind items) = items_at_once m costs items
waiting_at_once m costs (Choose first second) = max (statement_at_once m costs first) (statement_at_once m costs second)
waiting_at_once m costs (Test condition body) = statement_at_once m costs body
waiting_at_once m costs (OpenBy number lent items) = items_at_once m costs items
waiting_at_once m costs (AliasOf number lent items) = items_at_once m costs items
waiting_at_once m costs waiting = 0

abbrev pub entry_at_once : Measure → (costs : List ℕ) → Entry → ℕ
entry_at_once m costs (Needs waiting) = waiting_at_once m costs waiting
entry_at_once m costs (Rest items) = items_at_once m costs items
entry_at_once m costs (Loop condition body) = statement_at_once m costs body
entry_at_once m costs (Handler clauses) = clauses_at_once m costs clauses
entry_at_once m costs entry = 0

abbrev pub focus_at_once : Measure → (costs : List ℕ) → Focus → ℕ
focus_at_once m costs (Executing s) = statement_at_once m costs s
focus_at_once m costs (Entering h given) = items_at_once m costs h.body
focus_at_once m costs (Binding number types given body) = items_at_once m costs body
focus_at_once m costs (Naming number operand items) = items_at_once m costs items
focus_at_once m costs (Catching tag value clauses) = clauses_at_once m costs clauses
focus_at_once m costs focus = 0

-- ---- states

abbrev pub IsKeptFocus : Measure → (costs : List ℕ) → (most : ℕ) → Focus → Type 0
IsKeptFocus m costs most focus = focus_own focus × (focus_at_once m costs focus ≤ most)

abbrev pub IsKeptEntry : (opens : Bool) → Measure → (costs : List ℕ) → (most : ℕ) → Entry → Type 0
IsKeptEntry opens m costs most entry = entry_own opens entry × (entry_at_once m costs entry ≤ most)

abbrev pub AreKept : (opens : Bool) → Measure → (costs : List ℕ) → (most : ℕ) → List Entry → Type 0
AreKept opens m costs most stack = AllByRecursion (λ (entry : Entry). IsKeptEntry opens m costs most entry) stack

abbrev pub IsKept : (opens : Bool) → Measure → (costs : List ℕ) → (most : ℕ) → State → Type 0
IsKept opens m costs most (Running focus stack e w) = IsKeptFocus m costs most focus × (AreKept opens m costs most stack × IsOwnWorld w)
IsKept opens m costs most (Ended ending output input) = Unit {0}
IsKept opens m costs most (Dead output input) = Unit {0}
IsKept opens m costs most (Wrong output input) = Unit {0}
