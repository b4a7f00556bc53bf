-- This file compares two versions of a piece of code, emitted for two positions of the blocks that raise exceptions. Each instruction is
-- equal in both versions, or it jumps into the blocks that raise exceptions, equally far past their start in each version.
use Rattle.std.proofs.Common.{◌≡◌, ℕ, zero, suc, get_or, set, add-one, ◌+◌, ◌<◌, ◌≤◌, ◌⊎◌, inl, inr, Bool, true, false, List, [], ◌∷◌, ◌++◌, length, Option, None, Some, refl, sym, ap, subst, ◌∙◌, arith}
use Rattle.std.specs.Prelude.{if◌then◌else◌}
use Rattle.cyc_plain.specs.declared.instruction.Operand.{Operand}
use Rattle.cyc_plain.specs.declared.instruction.Operand.TheVariants as operands
use Rattle.cyc_plain.specs.declared.instruction.Instruction.{Instruction}
use Rattle.cyc_plain.specs.declared.instruction.Instruction.TheVariants as instructions
use Rattle.cyc_plain.specs.declared.instruction.Comparison.TheVariants as comparisons
use Rattle.cyc_types.specs.declared.typed.Kind.{Kind}
use Rattle.cyc_lower_proof.specs.inside.ValueCode.{code_unless, code_unless_slot, test_code, test_jump, truth_code}
use Rattle.cyc_types.specs.declared.typed.LogicalOperator.{LogicalOperator}
use Rattle.cyc_lower_proof.specs.inside.ObjectCode.{filled_code, elements_code, ended_code}
use Rattle.cyc_lower_proof.specs.inside.ControlCode.{if_code, other_place, over_code, over_length, entry_code, entry_length, entered_code, body_target, through_by, through_end, try_code, clause_code, other_jump}
use Rattle.cyc_lower_proof.specs.inside.Lowering.{target_of, farthest, turned, IsTurned, AreTurned}

abbrev pub IsAlike : (far near : ℕ) → (i j : Instruction) → Type 0
IsAlike far near i j = (i ≡ j) ⊎ ((far < target_of i) × (turned far near i ≡ j))

abbrev pub EachAlike : (far near : ℕ) → (a x : List Instruction) → Type 0
EachAlike far near [] [] = Unit {0}
EachAlike far near [] (j ∷ x) = ⊥
EachAlike far near (i ∷ a) [] = ⊥
EachAlike far near (i ∷ a) (j ∷ x) = IsAlike far near i j × EachAlike far near a x

pub record AreAlike (far near : ℕ) (a x : List Instruction) : Type 0 where
  pub each : EachAlike far near a x

module _ (far near : ℕ) where
  each_same : (a : List Instruction) → EachAlike far near a a
  each_same [] = tt
  each_same (i ∷ a) = (inl refl, each_same a)

  each_long : (a x : List Instruction) → EachAlike far near a x → length a ≡ length x
  each_long [] [] alike = refl
  each_long [] (j ∷ x) alike = absurd alike
  each_long (i ∷ a) [] alike = absurd alike
  each_long (i ∷ a) (j ∷ x) (one, rest) = ap suc (each_long a x rest)

  each_joined : (a b x y : List Instruction) → EachAlike far near a x → EachAlike far near b y → EachAlike far near (a ++ b) (x ++ y)
  each_joined [] b [] y first second = second
  each_joined [] b (j ∷ x) y first second = absurd first
  each_joined (i ∷ a) b [] y first second = absurd first
  each_joined (i ∷ a) b (j ∷ x) y (one, rest) second = (one, each_joined a b x y rest second)

  -- If an instruction's jump target is adjusted to another position of the blocks that raise exceptions, then the result equals the
  -- instruction emitted for that position.
  one_turned : (i j k : Instruction) → target_of k ≤ far → IsAlike far near i k → IsTurned far near i j → j ≡ k
  one_turned i j k low one (beyond, before) = elim one [
    | inl same ↦ before (omega (arith, low, ap target_of same)) ∙ same
    | inr (following, is) ↦ beyond following ∙ is
  ]

  each_turned : (a b x : List Instruction) → farthest x ≤ far → EachAlike far near a x → AreTurned far near a b → b ≡ x
  each_turned [] b [] low alike is = is
  each_turned [] b (k ∷ x) low alike is = absurd alike
  each_turned (i ∷ a) b [] low alike is = absurd alike
  each_turned (i ∷ a) [] (k ∷ x) low alike is = absurd is
  each_turned (i ∷ a) (j ∷ b) (k ∷ x) low (one, rest) (first, others) =
      let here = one_turned i j k (omega (arith, low)) one first in
      let following = each_turned a b x (omega (arith, low)) rest others in
      λ n. here n ∷ following n

-- ---- lists

pub turned_alike : (far near : ℕ) (a b x : List Instruction) → farthest x ≤ far → AreAlike far near a x → AreTurned far near a b → b ≡ x
turned_alike far near a b x low alike is = each_turned far near a b x low alike.each is

pub same_length : {far near : ℕ} {a x : List Instruction} → AreAlike far near a x → length a ≡ length x
same_length {far} {near} {a} {x} alike = each_long far near a x alike.each

pub moved : {far near : ℕ} {a x y : List Instruction} → x ≡ y → AreAlike far near a x → AreAlike far near a y
moved {far} {near} {a} {x} {y} is alike = subst (λ (z : List Instruction). AreAlike far near a z) is alike

pub still : {far near : ℕ} {a x : List Instruction} → a ≡ x → AreAlike far near a x
still {far} {near} {a} {x} is = subst (λ (z : List Instruction). AreAlike far near a z) is (record { each = each_same far near a })

pub alike_joined : {far near : ℕ} (a b x y : List Instruction) → AreAlike far near a x → AreAlike far near b y → AreAlike far near (a ++ b) (x ++ y)
alike_joined {far} {near} a b x y first second = record { each = each_joined far near a b x y first.each second.each }

-- If two versions of some code that differ only in jumps to the blocks that raise exceptions begin at one position, then they also end
-- at one position.
pub onward : {far near p q : ℕ} (a b x y : List Instruction) → p ≡ q → AreAlike far near a x → (p + length a ≡ q + length x → AreAlike far near b y) → AreAlike far near (a ++ b) (x ++ y)
onward {far} {near} a b x y place first second = alike_joined a b x y first (second (λ i. place i + same_length first i))

pub led : {far near : ℕ} {a x : List Instruction} {i j : Instruction} → i ≡ j → AreAlike far near a x → AreAlike far near (i ∷ a) (j ∷ x)
led is alike = record { each = (inl is, alike.each) }

pub led_after : {far near : ℕ} {a x : List Instruction} {i j : Instruction} → far < target_of i → turned far near i ≡ j → AreAlike far near a x → AreAlike far near (i ∷ a) (j ∷ x)
led_after there is alike = record { each = (inr (there, is), alike.each) }

module _ (far near : ℕ) where
  abbrev Alike : (a x : List Instruction) → Type 0
  Alike a x = AreAlike far near a x

  pub unless_alike : (known same : Option Operand) (a x : List Instruction) → known ≡ same → Alike a x → Alike (code_unless known a) (code_unless same x)
  unless_alike (Some o) same a x is alike = still (λ i. code_unless (is i) x)
  unless_alike None same a x is alike = moved (λ i. code_unless (is i) x) alike

  pub unless_slot_alike : (known same : Option Operand) (a x : List Instruction) → known ≡ same → Alike a x → Alike (code_unless_slot known a) (code_unless_slot same x)
  unless_slot_alike (Some (operands.Slot n)) same a x is alike = still (λ i. code_unless_slot (is i) x)
  unless_slot_alike (Some (operands.Word n)) same a x is alike = moved (λ i. code_unless_slot (is i) x) alike
  unless_slot_alike None same a x is alike = moved (λ i. code_unless_slot (is i) x) alike

  pub either_alike : (there : Bool) (a b x y : List Instruction) → Alike a x → Alike b y → Alike (if there then a else b) (if there then x else y)
  either_alike true a b x y first second = first
  either_alike false a b x y first second = second

  -- ---- forms of code at equal places in both versions

  pub test_alike : (o : LogicalOperator) (a x : List Instruction) (p q d e t : ℕ) → p ≡ q → d ≡ e → Alike a x → Alike (test_code o a p d t) (test_code o x q e t)
  test_alike o a x p q d e t place same first =
      led (λ i. test_jump o t (place i + 1 + same_length first i)) (alike_joined a (truth_code t d) x (truth_code t e) first (still (λ i. truth_code t (same i))))

  pub elements_alike : (kind : Kind) (a x : List Instruction) (h g d e t : ℕ) → h ≡ g → d ≡ e → Alike a x → Alike (elements_code kind a h d t) (elements_code kind x g e t)
  elements_alike kind a x h g d e t head same first =
      let inner = alike_joined a (filled_code kind h t) x (filled_code kind g t) first (still (λ i. filled_code kind (head i) t)) in
      led (λ i. instructions.Branch comparisons.Equal (operands.Slot (t + 2)) (operands.Slot (t + 1)) (head i + 1 + same_length inner i))
      (alike_joined (a ++ filled_code kind h t) (ended_code d t) (x ++ filled_code kind g t) (ended_code e t) inner (still (λ i. ended_code (same i) t)))

  pub if_alike : (last : Bool) (a x : ℕ → List Instruction) (b c y z : List Instruction) (jump same : ℕ → Instruction) (p q : ℕ) → p ≡ q → ((m n : ℕ) → m ≡ n → Alike (a m) (x n)) → jump ≡ same → Alike b y → Alike c z
      → Alike (if_code last a jump b c p) (if_code last x same y z q)
  if_alike last a x b c y z jump same p q place first turn second third =
      let m = other_place last (a 0) b p in
      let n = other_place last (x 0) y q in
      let other : m ≡ n = λ i. place i + same_length (first 0 0 refl) i + 1 + same_length second i + over_length last in
      alike_joined (a m ++ jump m ∷ b) (over_code last (m + length c) ++ c) (x n ++ same n ∷ y) (over_code last (n + length z) ++ z)
      (alike_joined (a m) (jump m ∷ b) (x n) (same n ∷ y) (first m n other) (led (λ i. turn i (other i)) second))
      (alike_joined (over_code last (m + length c)) c (over_code last (n + length z)) z (still (λ i. over_code last (other i + same_length third i))) third)

  pub entry_lengths : (guarded same : Bool) (a x : List Instruction) → guarded ≡ same → length a ≡ length x → entry_length guarded a ≡ entry_length same x
  entry_lengths true same a x is long = ap (λ (n : ℕ). n + 1) long ∙ (λ i. entry_length (is i) x)
  entry_lengths false same a x is long = λ i. entry_length (is i) x

  entries_alike : (guarded same : Bool) (a x : List Instruction) (jump other : ℕ → Instruction) (test aim p q : ℕ) → guarded ≡ same → p ≡ q → test ≡ aim → jump ≡ other → Alike a x → Alike (entry_code guarded a jump test p) (entry_code same x other aim q)
  entries_alike true same a x jump other test aim p q is place target turn first =
      moved (λ i. entry_code (is i) x other aim q)
      (alike_joined a (jump (p + length a + 1 + 1) ∷ []) x (other (q + length x + 1 + 1) ∷ []) first (led (λ i. turn i (place i + same_length first i + 1 + 1)) (still refl)))
  entries_alike false same a x jump other test aim p q is place target turn first = moved (λ i. entry_code (is i) x other aim q) (led (λ i. instructions.Jump (target i)) (still refl))

  pub entered_alike : (guarded same : Bool) (condition others : ℕ → List Instruction) (body inner : List Instruction) (jump other : ℕ → Instruction) (p q leaving out : ℕ) → guarded ≡ same → p ≡ q → leaving ≡ out → jump ≡ other
      → ((m n : ℕ) → m ≡ n → Alike (condition m) (others n)) → Alike body inner → Alike (entered_code guarded condition body jump p leaving) (entered_code same others inner other q out)
  entered_alike guarded same condition others body inner jump other p q leaving out is place target turn tests first =
      let r = body_target leaving + length body in
      let s = body_target out + length inner in
      let test : r ≡ s = λ i. body_target (target i) + same_length first i in
      let again = tests r s test in
      alike_joined (entry_code guarded (condition p) jump r p) (instructions.Jump (r + length (condition r) + 1) ∷ ((body ++ condition r) ++ jump (body_target leaving) ∷ []))
      (entry_code same (others q) other s q) (instructions.Jump (s + length (others s) + 1) ∷ ((inner ++ others s) ++ other (body_target out) ∷ []))
      (entries_alike guarded same (condition p) (others q) jump other r s p q is place test turn (tests p q place))
      (led (λ i. instructions.Jump (test i + same_length again i + 1))
      (alike_joined (body ++ condition r) (jump (body_target leaving) ∷ []) (inner ++ others s) (other (body_target out) ∷ []) (alike_joined body (condition r) inner (others s) first again) (led (λ i. turn i (body_target (target i))) (still refl))))

  pub through_alike : (front other : List Instruction) (leave exit : ℕ → Instruction) (body inner condition again : List Instruction) (back turn : Instruction) (p q : ℕ) → p ≡ q → leave ≡ exit → back ≡ turn → Alike front other → Alike body inner → Alike condition again
      → Alike (through_by front leave body condition back p) (through_by other exit inner again turn q)
  through_alike front other leave exit body inner condition again back turn p q place leaves turns first second third =
      let end : through_end front body condition p ≡ through_end other inner again q
      = λ i. place i + same_length first i + 1 + same_length second i + same_length third i + 1 in
      alike_joined front (leave (through_end front body condition p) ∷ ((body ++ condition) ++ (back ∷ instructions.Jump (through_end front body condition p + 1) ∷ [])))
      other (exit (through_end other inner again q) ∷ ((inner ++ again) ++ (turn ∷ instructions.Jump (through_end other inner again q + 1) ∷ []))) first
      (led (λ i. leaves i (end i))
      (alike_joined (body ++ condition) (back ∷ instructions.Jump (through_end front body condition p + 1) ∷ []) (inner ++ again) (turn ∷ instructions.Jump (through_end other inner again q + 1) ∷ [])
      (alike_joined body condition inner again second third) (led turns (led (λ i. instructions.Jump (end i + 1)) (still refl)))))

  pub try_alike : (a b x y : List Instruction) (t p q : ℕ) → p ≡ q → Alike a x → Alike b y → Alike (try_code t a b p) (try_code t x y q)
  try_alike a b x y t p q place first second =
      let after_body : p + 1 + length a + 1 ≡ q + 1 + length x + 1 = λ i. place i + 1 + same_length first i + 1 in
      led (λ i. instructions.Try t (after_body i))
      (alike_joined a (instructions.Jump (p + 1 + length a + 1 + length b) ∷ b) x (instructions.Jump (q + 1 + length x + 1 + length y) ∷ y) first (led (λ i. instructions.Jump (after_body i + same_length second i)) second))

  pub clause_alike : (tag t : ℕ) (a x : List Instruction) (p q out aim : ℕ) → p ≡ q → out ≡ aim → Alike a x → Alike (clause_code tag t a p out) (clause_code tag t x q aim)
  clause_alike tag t a x p q out aim place target first =
      led (λ i. other_jump tag t (place i + 1 + same_length first i + 1)) (alike_joined a (instructions.Jump out ∷ []) x (instructions.Jump aim ∷ []) first (led (λ i. instructions.Jump (target i)) (still refl)))

-- ---- adjusting instructions one by one

-- Says that the first n instructions of the new code are those of the old code with jump targets adjusted to the final position of the
-- blocks that raise exceptions. All other instructions of the new code equal those of the old code.
abbrev pub TurnedTo : (far near n : ℕ) → (old new : List Instruction) → Type 0
TurnedTo far near zero old new = new ≡ old
TurnedTo far near (suc n) [] new = new ≡ []
TurnedTo far near (suc n) (i ∷ old) [] = ⊥
TurnedTo far near (suc n) (i ∷ old) (j ∷ new) = IsTurned far near i j × TurnedTo far near n old new

module _ (far near : ℕ) where
  turned-suc : (n : ℕ) (old new : List Instruction) (i j : Instruction) → n < length new → TurnedTo far near n old new → IsTurned far near (get_or new n i) j → TurnedTo far near (suc n) old (set new n j)
  turned-suc zero old [] i j within so one = absurd (omega (arith, within))
  turned-suc zero [] (x ∷ new) i j within so one = cc
  turned-suc zero (o ∷ old) (x ∷ new) i j within so one =
      let head : x ≡ o = cc in
      let tail : new ≡ old = cc in
      (subst (λ (z : Instruction). IsTurned far near z j) head one, tail)
  turned-suc (suc n) old [] i j within so one = absurd (omega (arith, within))
  turned-suc (suc n) [] (x ∷ new) i j within so one = cc
  turned-suc (suc n) (o ∷ old) (x ∷ new) i j within so one = (so.0, turned-suc n old new i j (omega (arith, within)) so.1 one)

  pub turned-more : (n : ℕ) (old new : List Instruction) (i j : Instruction) → n < length new → TurnedTo far near n old new → IsTurned far near (get_or new n i) j → TurnedTo far near (n + 1) old (set new n j)
  turned-more n old new i j within so one = rw add-one (turned-suc n old new i j within so one)

  pub turned-all : (n : ℕ) (old new : List Instruction) → length new ≤ n → TurnedTo far near n old new → AreTurned far near old new
  turned-all zero [] new least so = so
  turned-all zero (o ∷ old) [] least so = absurd (let e : length (o ∷ old) ≡ 0 = ap (λ (l : List Instruction). length l) (sym so) in omega (arith, e))
  turned-all zero (o ∷ old) (x ∷ new) least so = absurd (omega (arith, least))
  turned-all (suc n) [] new least so = so
  turned-all (suc n) (o ∷ old) [] least so = so
  turned-all (suc n) (o ∷ old) (x ∷ new) least so = (so.0, turned-all n old new (omega (arith, least)) so.1)
