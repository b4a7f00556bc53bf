-- A typing or flow rule is a value with three readings: the results it derives, the faults it rejects with, and the result of a checker.
-- The three readings of a rule agree for every rule (`proofs/RuleLaws`). The rule of a construct has requirements of its own (demands)
-- and rules for its subtrees (parts). The subtrees of a construct are checked first, in order. If a construct breaks several
-- requirements, the one with the lowest fault code is reported. Among several broken requirements with the lowest fault code, the first
-- in the list is reported. (The order of evaluation is this project's own choice.)
use Rattle.std.specs.Prelude.{◌≡◌, ◌⊎◌, ℕ, ◌<◌, ◌≤◌, Bool, true, false, nat_lt, if◌then◌else◌, List, [], ◌∷◌, ◌++◌, Option, Some, None, Result, Ok, Err}
use Rattle.cyc_words.specs.declared.fault.Code.{Code}
use Rattle.cyc_words.specs.declared.fault.Fault.{Fault}
use Rattle.cyc_words.specs.Fault.{number_of}
use Rattle.cyc_syntax.specs.Symbols.{Place}

abbrev pub Checked : Type 0 → Type 0
Checked A = Result A Fault

abbrev pub and_then : {A B : Type 0} → Checked A → (A → Checked B) → Checked B
and_then (Ok a) next = next a
and_then (Err f) next = Err f

abbrev pub fault_at : Code → Place → Fault
fault_at c p = record { code = c; line = p.line; column = p.column }

-- ---- demands

-- a requirement of a typing or flow rule: the code of the fault if it is broken, its source position, and whether it is satisfied
pub record Demand : Type 0 where
  pub code : Code
  pub place : Place
  pub kept : Bool

abbrev pub demand : Code → Place → Bool → Demand
demand c p k = record { code = c; place = p; kept = k }

abbrev pub fault_of : Demand → Fault
fault_of d = fault_at d.code d.place

abbrev pub AllKept : List Demand → Type 0
AllKept [] = Unit {0}
AllKept (d ∷ ds) = (d.kept ≡ true) × AllKept ds

-- says that each requirement in a list is satisfied or has a fault code higher than n
abbrev pub AreAbove : ℕ → List Demand → Type 0
AreAbove n [] = Unit {0}
AreAbove n (d ∷ ds) = ((d.kept ≡ true) ⊎ (n < number_of d.code)) × AreAbove n ds

-- says that each requirement in a list is satisfied or has a fault code of at least n
abbrev pub AreNotBelow : ℕ → List Demand → Type 0
AreNotBelow n [] = Unit {0}
AreNotBelow n (d ∷ ds) = ((d.kept ≡ true) ⊎ (n ≤ number_of d.code)) × AreNotBelow n ds

-- says that a fault is that of the broken requirement with the lowest fault code; if several have that code, the first one
abbrev pub IsFaultOf : List Demand → Fault → Type 0
IsFaultOf ds f =
    (before : List Demand) × (d : Demand) × (after : List Demand) × (ds ≡ before ++ (d ∷ after)) × (d.kept ≡ false)
    × AreAbove (number_of d.code) before × AreNotBelow (number_of d.code) after × (f ≡ fault_of d)

-- returns the first of two faults, unless the second has a lower code
abbrev pub lesser : Option Fault → Fault → Option Fault
lesser None f = Some f
lesser (Some e) f = if nat_lt (number_of f.code) (number_of e.code) then Some f else Some e

-- returns the fault with the lowest code found so far, after checking one more requirement; the first argument is the fault found before
abbrev pub noted : Option Fault → Demand → Option Fault
noted known d = if d.kept then known else lesser known (fault_of d)

abbrev pub settled : Option Fault → List Demand → Option Fault
settled known [] = known
settled known (d ∷ ds) = settled (noted known d) ds

-- ---- rules

pub data Rule : Type 0 → Type 1 where
  -- a rule that derives no value and reports the given fault
  Refused : {A : Type 0} → Fault → Rule A
  -- a typing or flow rule that derives the given value if all of its requirements are satisfied
  Own : {A : Type 0} → List Demand → A → Rule A
  -- a rule that first applies another rule to a subtree, and then continues with a rule that depends on its result
  Part : {A B : Type 0} → Rule B → (B → Rule A) → Rule A

-- a typing or flow rule that derives the given value without any requirement
abbrev pub gives : {A : Type 0} → A → Rule A
gives a = Own [] a

-- a rule that derives no tree but only checks requirements; its value is the unit value
abbrev pub demands : List Demand → Rule (Unit {0})
demands ds = Own ds tt

-- says that a rule derives a value
abbrev pub Derives : {A : Type 0} → Rule A → A → Type 0
Derives (Refused f) a = ⊥
Derives (Own ds b) a = AllKept ds × (a ≡ b)
Derives (Part {B = B} r next) a = (b : B) × Derives r b × Derives (next b) a

-- says that a rule rejects with a fault
abbrev pub Refuses : {A : Type 0} → Rule A → Fault → Type 0
Refuses (Refused g) f = f ≡ g
Refuses (Own ds b) f = IsFaultOf ds f
Refuses (Part {B = B} r next) f = Refuses r f ⊎ ((b : B) × Derives r b × Refuses (next b) f)

abbrev pub unless : {A : Type 0} → Option Fault → A → Checked A
unless None a = Ok a
unless (Some f) a = Err f

-- returns the result that a checker computes for a rule: the derived value or the reported fault
abbrev pub run : {A : Type 0} → Rule A → Checked A
run (Refused f) = Err f
run (Own ds a) = unless (settled None ds) a
run (Part r next) = and_then (run r) (λ b. run (next b))
