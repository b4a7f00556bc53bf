-- This file is about the locals in scope and the typing of stacks. The typing of a stack is preserved when the typing of the
-- heap state (regions and objects) grows.
use Rattle.std.proofs.Common.{◌≡◌, ◌≢◌, inl, inr, ℕ, ◌≤◌, ◌<◌, ◌+◌, Bool, true, false, List, [], ◌∷◌, Option, Some, None, slice_get, refl, sym, ap, subst, ◌∙◌, arith}
use Rattle.std.specs.Prelude.{if◌then◌else◌, nat_lt, ◌⊎◌, zero, suc, length, get_or}
use Rattle.std.proofs.lemmas.Bool.{ltb-true, false_from_ne_true}
use Rattle.std.proofs.lemmas.Option.{same_Some}
use Rattle.cyc_types.specs.declared.typed.Callee.{Callee}
use Rattle.cyc_types.specs.TypedTrees.{Arguments, Clauses, Function, Program}
use Rattle.cyc_types.specs.flow.States as flow
use Rattle.cyc_types.specs.flow.States.{Vacant, Unreached, Reached, Full, fullness, is_reached, with_fullness}
use Rattle.cyc_meaning.specs.Values.{Operand}
use Rattle.cyc_meaning.specs.Values as values
use Rattle.cyc_meaning.specs.State.{Owner, Pass, MakeFields, AwaitingPlace, Environment, Awaiting, Entry, Needs, NeedsPlace, Discard, Rest, Join, Loop, CloseRegion, CloseLexical, EndLoan, Handler, Caller, Main}
use Rattle.cyc_soundness.specs.inside.Lives.{Life, RunTy, RunValue}
use Rattle.cyc_soundness.specs.inside.Worlds.{OfLocal, Thing, ClaimsPart, Holder, Nobody, Hand, At, Lent, Claims, ClaimsBy, IsSlot, is_lent_by, AreOperands, ObjectType, Typing, Grows, IsHiding}
use Rattle.cyc_soundness.specs.inside.Frames.{InScope, Variable, IsFullIn, IsFullAt, AreFullAt, Exits, relying, lending}
use Rattle.cyc_soundness.specs.inside.Classes.{is_full, Relied, only, and_looked, IsSparedBy, IsSpared}
use Rattle.cyc_soundness.specs.inside.Judgements.{IsAccepted}
use Rattle.cyc_soundness.specs.inside.Awaited.{Part, Whole, PartOf, part, part_of_place, relied_by, relied_at, WaitsPlace, Want, Nothing, Go, Waits, IsArray, AreClaimed, operands_in, Keeps}
use Rattle.cyc_soundness.specs.inside.Awaited as awaited
use Rattle.cyc_soundness.specs.inside.Stacks.{IsStack}
use Rattle.cyc_soundness.proofs.flow.FlowLemmas.{full_put}
use Rattle.cyc_soundness.proofs.states.Hands.{hand_same, at_same, at_no_hand, at_not_lent, at_some, lent_same, lent_some, lent_no_hand, lent_not_at}

-- Says that the flow rules accept each function of the program.
abbrev pub AreAccepted : Program → Type 0
AreAccepted p = (number : ℕ) (h : Function) → slice_get p.functions number ≡ Some h → (end : flow.State) × IsAccepted p h end

-- ---- growth

module _ (p : Program) (g h : Typing) (grows : Grows g h) where
  pub array_grown : (t : RunTy) (l : Life) (object count index : ℕ) → IsArray g t l object count index → IsArray h t l object count index
  array_grown t l object count index (y, there, shown, life, cells, filled, few) = (y, grows.objects object y there, shown, life, cells, grows.filled object index filled, few)

  one_at_grown : (n object : ℕ) (b : InScope) → IsFullAt g n object b → IsFullAt h n object b
  one_at_grown n object (Variable b) is = λ same. (grows.filled b.object 1 (is same).0, (is same).1)
  one_at_grown n object b is = tt

  pub full_at_grown : (n object : ℕ) (bs : List InScope) → AreFullAt g n object bs → AreFullAt h n object bs
  full_at_grown n object [] are = tt
  full_at_grown n object (b ∷ bs) (is, are) = (one_at_grown n object b is, full_at_grown n object bs are)

-- ---- transfer of a resource

-- The flow states that must stay true for stack entries to continue, or none if no variable is emptied.
abbrev pub relied_if : (empties : Bool) → Relied → Relied
relied_if false q = []
relied_if true q = q

-- Says that no flow state requires this variable to hold its value.
abbrev IsLoose : (empties : Bool) → Exits → Typing → List Entry → (object : ℕ) → Type 0
IsLoose empties x g k object = (d n : ℕ) × IsSlot g d n object × (((d ≡ g.depth) × IsSpared (relied_at (relied_if empties x.relied) k) n) ⊎ (g.depth < d))

-- Says that no entry of this stack claims a resource (key or unique pointer) that this operand, cell or loan owns. An owning cell is the
-- variable of an emptied local, or a cell that is refilled at once and to which pointers may point.
abbrev pub IsAboveBy : (empties : Bool) → Exits → Typing → List Entry → Holder → Type 0
IsAboveBy empties x g k Nobody = Unit {0}
IsAboveBy empties x g k (Hand i) = operands_in k ≤ i
IsAboveBy empties x g k (At object (suc i)) = Unit {0}
IsAboveBy empties x g k (At object zero) = IsLoose empties x g k object ⊎ ((empties ≡ false) × IsHiding g object false)
IsAboveBy empties x g k (Lent j object) = g.loans ≤ j

abbrev pub IsAbove : Exits → Typing → List Entry → Holder → Type 0
IsAbove x g k (At object zero) = IsLoose true x g k object
IsAbove x g k old = IsAboveBy true x g k old

pub above_by : (x : Exits) (g : Typing) (k : List Entry) (old : Holder) → IsAbove x g k old → IsAboveBy true x g k old
above_by x g k Nobody above = tt
above_by x g k (Hand i) above = above
above_by x g k (At object (suc i)) above = tt
above_by x g k (At object zero) above = inl above
above_by x g k (Lent j object) above = above

local_same : (c d m n : ℕ) → OfLocal c m ≡ OfLocal d n → (c ≡ d) × (m ≡ n)
local_same c d m n e = let k : OfLocal c m ≡ OfLocal d n = e in (cc, cc)

-- An object is the variable of at most one local.
pub slot_same : (g : Typing) (c d m n object : ℕ) → IsSlot g c m object → IsSlot g d n object → (c ≡ d) × (m ≡ n)
slot_same g c d m n object (x, there, one) (y, stands, two) =
    let same : x ≡ y = same_Some x y (sym there ∙ stands) in
    local_same c d m n (sym one ∙ ap (λ (z : ObjectType). z.slot) same ∙ two)

pub hand_other : (empties : Bool) (x : Exits) (g : Typing) (k : List Entry) (i : ℕ) (old : Holder) → IsAboveBy empties x g k old → i < operands_in k → Hand i ≢ old
hand_other empties x g k i Nobody above less = λ e. (let z : Hand i ≡ Nobody = e in absurd (cc))
hand_other empties x g k i (Hand j) above less = λ e. (let same : i ≡ j = hand_same i j e in absurd (omega (arith, above, less, same)))
hand_other empties x g k i (At object offset) above less = λ e. (let z : Hand i ≡ At object offset = e in absurd (cc))
hand_other empties x g k i (Lent j object) above less = λ e. (let z : Hand i ≡ Lent j object = e in absurd (cc))

pub lent_other : (empties : Bool) (x : Exits) (g : Typing) (k : List Entry) (i object : ℕ) (old : Holder) → IsAboveBy empties x g k old → i < g.loans → Lent i object ≢ old
lent_other empties x g k i object Nobody above less = lent_some i object
lent_other empties x g k i object (Hand j) above less = lent_no_hand i object j
lent_other empties x g k i object (At other offset) above less = lent_not_at i object other offset
lent_other empties x g k i object (Lent j other) above less = λ e. (let same : i ≡ j = (lent_same i object j other e).0 in absurd (omega (arith, above, less, same)))

-- If a local of any call differs from a given local of the current call, then the variables (objects in memory) of these two
-- locals are different.
slot_other : (g : Typing) (n object other : ℕ) → IsSlot g g.depth n object → (d m : ℕ) → IsSlot g d m other → (d ≡ g.depth → m ≡ n → ⊥) → At object 0 ≢ At other 0
slot_other g n object other slot d m its apart e =
    let (depth, number) = slot_same g g.depth d n m other (subst (λ i. IsSlot g g.depth n i) (at_same object 0 other 0 e).0 slot) its in
    apart (sym depth) (sym number)

loose_other : (empties : Bool) (x : Exits) (g : Typing) (k : List Entry) (n object other : ℕ) → IsLoose empties x g k other → IsSlot g g.depth n object → (IsSpared (relied_at (relied_if empties x.relied) k) n → ⊥) → At object 0 ≢ At other 0
loose_other empties x g k n object other (d, m, its, inl (here, spared)) slot relied =
    slot_other g n object other slot d m its (λ depth number. relied (subst (λ i. IsSpared (relied_at (relied_if empties x.relied) k) i) number spared))
loose_other empties x g k n object other (d, m, its, inr deeper) slot relied = slot_other g n object other slot d m its (λ depth number. absurd (omega (arith, depth, deeper)))

variable_other : (x : Exits) (g : Typing) (k : List Entry) (n object : ℕ) (old : Holder) → IsAboveBy true x g k old → IsSlot g g.depth n object → (IsSpared (relied_at x.relied k) n → ⊥) → At object 0 ≢ old
variable_other x g k n object Nobody above slot relied = at_some object 0
variable_other x g k n object (Hand i) above slot relied = at_no_hand object 0 i
variable_other x g k n object (Lent j other) above slot relied = at_not_lent object 0 j other
variable_other x g k n object (At other (suc i)) above slot relied = λ e. (let z : 0 ≡ suc i = (at_same object 0 other (suc i) e).1 in absurd (omega (arith, z)))
variable_other x g k n object (At other zero) (inl loose) slot relied = loose_other true x g k n object other loose slot relied
variable_other x g k n object (At other zero) (inr (filling, shown)) slot relied = let z : true ≡ false = filling in absurd (cc)

-- A cell to which pointers point differs from a variable whose value a peek (a read without a move) has read.
hiding_other : (g : Typing) (object other : ℕ) → IsHiding g object true → IsHiding g other false → At object 0 ≢ At other 0
hiding_other g object other (y, there, hidden) (z, stands, shown) e =
    let same : y ≡ z = same_Some y z (sym there ∙ ap (λ n. slice_get g.objects n) (at_same object 0 other 0 e).0 ∙ stands) in
    let k : true ≡ false = sym hidden ∙ ap (λ (t : ObjectType). t.is_hidden) same ∙ shown in absurd (cc)

pub looked_other : (empties : Bool) (x : Exits) (g : Typing) (k : List Entry) (n object : ℕ) (old : Holder) → IsAboveBy empties x g k old → IsSlot g g.depth n object → IsHiding g object true → (IsSpared (relied_at (relied_if empties x.relied) k) n → ⊥) → At object 0 ≢ old
looked_other empties x g k n object Nobody above slot hidden relied = at_some object 0
looked_other empties x g k n object (Hand i) above slot hidden relied = at_no_hand object 0 i
looked_other empties x g k n object (Lent j other) above slot hidden relied = at_not_lent object 0 j other
looked_other empties x g k n object (At other (suc i)) above slot hidden relied = λ e. (let z : 0 ≡ suc i = (at_same object 0 other (suc i) e).1 in absurd (omega (arith, z)))
looked_other empties x g k n object (At other zero) (inl loose) slot hidden relied = loose_other empties x g k n object other loose slot relied
looked_other empties x g k n object (At other zero) (inr (filling, shown)) slot hidden relied = hiding_other g object other hidden shown

-- If no entry of a stack claims the resources of a holder (operand, cell or loan), then this holder is none of the current loans.
pub none_lent : (empties : Bool) (x : Exits) (g : Typing) (k : List Entry) (old : Holder) → IsAboveBy empties x g k old → is_lent_by g.loans old ≡ false
none_lent empties x g k Nobody above = refl
none_lent empties x g k (Hand i) above = refl
none_lent empties x g k (At object offset) above = refl
none_lent empties x g k (Lent j object) above = not_below j g.loans above
  where
    not_below : (j n : ℕ) → n ≤ j → nat_lt j n ≡ false
    not_below j n less = false_from_ne_true (nat_lt j n) (λ e. (let below : j < n = ltb-true j n e in absurd (omega (arith, below, less))))

pub operands_long : (g : Typing) (ts : List RunTy) (vs : List Operand) → AreOperands g ts vs → length ts ≡ length vs
operands_long g [] [] are = refl
operands_long g [] (v ∷ vs) are = absurd are
operands_long g (t ∷ ts) [] are = absurd are
operands_long g (t ∷ ts) (v ∷ vs) (is, are) = ap suc (operands_long g ts vs are)

-- The operands stored in a stack entry have their types, and own the resources (keys and unique pointers) that their values represent.
pub keeps_fields : (g : Typing) (i : ℕ) (owner : Owner) (before : List Operand) (rest : Arguments) (ts : List RunTy) → AreOperands g ts before → AreClaimed g.own i ts before → Keeps g i (MakeFields owner before rest) ts
keeps_fields g i owner before rest [] are claims = are
keeps_fields g i owner before rest (t ∷ ts) are claims = (are, claims)

pub fields_kept : (g : Typing) (i : ℕ) (owner : Owner) (before : List Operand) (rest : Arguments) (ts : List RunTy) → Keeps g i (MakeFields owner before rest) ts → AreOperands g ts before × AreClaimed g.own i ts before
fields_kept g i owner before rest [] are = (are, tt)
fields_kept g i owner before rest (t ∷ ts) (are, claims) = (are, claims)

pub keeps_passed : (g : Typing) (i : ℕ) (callee : Callee) (before : List Operand) (rest : Arguments) (ts : List RunTy) → AreOperands g ts before → AreClaimed g.own i ts before → Keeps g i (Pass callee before rest) ts
keeps_passed g i callee before rest [] are claims = are
keeps_passed g i callee before rest (t ∷ ts) are claims = (are, claims)

pub passed_kept : (g : Typing) (i : ℕ) (callee : Callee) (before : List Operand) (rest : Arguments) (ts : List RunTy) → Keeps g i (Pass callee before rest) ts → AreOperands g ts before × AreClaimed g.own i ts before
passed_kept g i callee before rest [] are = (are, tt)
passed_kept g i callee before rest (t ∷ ts) (are, claims) = (are, claims)

-- A value is passed to a stack entry in which no operands are stored.
pub comes_alone : (g : Typing) (k : List Entry) (r : RunValue) (v : values.Value) → ClaimsBy g (0 + operands_in k) r v → ClaimsBy g (operands_in k) r v
comes_alone g k r v is = let same : 0 + operands_in k ≡ operands_in k = omega arith in subst (λ i. ClaimsBy g i r v) same is

pub part_alone : (g : Typing) (k : List Entry) (peek : Option ℕ) (o : Option Thing) → ClaimsPart g (0 + operands_in k) peek o → ClaimsPart g (operands_in k) peek o
part_alone g k peek o is = let same : 0 + operands_in k ≡ operands_in k = omega arith in subst (λ i. ClaimsPart g i peek o) same is

-- One more operand, with the resource that its value represents, is added above the stored operands.
pub claimed_next : (g : Typing) (i : ℕ) (t : RunTy) (v : values.Value) (ts : List RunTy) (vs : List Operand) → AreOperands g ts vs → Claims g.own (Hand (length vs + i)) t v → Claims g.own (Hand (i + length ts)) t v
claimed_next g i t v ts vs are is =
    let long : length ts ≡ length vs = operands_long g ts vs are in
    let same : length vs + i ≡ i + length ts = omega (arith, long) in
    subst (λ j. Claims g.own (Hand j) t v) same is

pub above_to : (empties : Bool) (x y : Exits) (g : Typing) (b : Entry) (k : List Entry) (old : Holder) → operands_in k ≤ operands_in (b ∷ k)
    → ((n : ℕ) → IsSpared (relied_at (relied_if empties x.relied) (b ∷ k)) n → IsSpared (relied_at (relied_if empties y.relied) k) n) → IsAboveBy empties x g (b ∷ k) old → IsAboveBy empties y g k old
above_to empties x y g b k Nobody fewer less above = tt
above_to empties x y g b k (Hand i) fewer less above = let few : operands_in k ≤ i = omega (arith, above, fewer) in few
above_to empties x y g b k (At object (suc i)) fewer less above = tt
above_to empties x y g b k (At object zero) fewer less (inl (d, n, slot, inl (same, spared))) = inl (d, n, slot, inl (same, less n spared))
above_to empties x y g b k (At object zero) fewer less (inl (d, n, slot, inr deeper)) = inl (d, n, slot, inr deeper)
above_to empties x y g b k (At object zero) fewer less (inr shown) = inr shown
above_to empties x y g b k (Lent j object) fewer less above = above

-- At the end of a statement, each value that was read early (peeked at) has been used.
pub statement_relied : (p : Program) (g : Typing) (x : Exits) (bs : List InScope) (f : flow.State) (k : List Entry) (q : Relied) → IsStack p g x bs (Go f) k → relied_at q k ≡ q
statement_relied p g x bs f [] q is = absurd is
statement_relied p g x bs f (Needs a ∷ k) q is = absurd is
statement_relied p g x bs f (NeedsPlace a ∷ k) q is = absurd is
statement_relied p g x bs f (Discard ∷ k) q is = refl
statement_relied p g x bs f (Rest js ∷ k) q is = refl
statement_relied p g x bs f (Join ∷ k) q is = refl
statement_relied p g x bs f (Loop condition body ∷ k) q is = refl
statement_relied p g x bs f (CloseRegion region home ∷ k) q is = refl
statement_relied p g x bs f (CloseLexical region ∷ k) q is = refl
statement_relied p g x bs f (EndLoan lent ∷ k) q is = refl
statement_relied p g x bs f (Handler cs ∷ k) q is = refl
statement_relied p g x bs f (Caller e ∷ k) q is = refl
statement_relied p g x bs f (Main ∷ k) q is = refl

pub statement_spared : (p : Program) (g : Typing) (x : Exits) (bs : List InScope) (f : flow.State) (k : List Entry) (q : Relied) (n : ℕ) → IsStack p g x bs (Go f) k → IsSpared q n → IsSpared (relied_at q k) n
statement_spared p g x bs f k q n is spared = subst (λ z. IsSpared z n) (sym (statement_relied p g x bs f k q is)) spared

pub ends_relied : (p : Program) (g : Typing) (x : Exits) (bs : List InScope) (k : List Entry) (q : Relied) (n : ℕ) → IsStack p g x bs Nothing k → IsSpared q n → IsSpared (relied_at q k) n
ends_relied p g x bs [] q n is spared = spared
ends_relied p g x bs (b ∷ k) q n is spared = absurd is

pub no_fewer : (k : List Entry) → operands_in k ≤ operands_in k
no_fewer k = omega arith

looked_less : (peek : Option ℕ) (q : Relied) (n : ℕ) → IsSpared (and_looked peek q) n → IsSpared q n
looked_less None q n spared = spared
looked_less (Some m) q n spared = spared.1

-- When the subexpression of an expression has been evaluated, no flow state is added to those on which stack entries rely.
pub part_spared : (w : Part) (q r : Relied) (n : ℕ) → ((peek : Option ℕ) → w ≡ Whole peek → r ≡ q) → IsSpared (relied_by w q r) n → IsSpared r n
part_spared (Whole peek) q r n same spared = subst (λ z. IsSpared z n) (sym (same peek refl)) (looked_less peek q n spared)
part_spared (PartOf peek) q r n same spared = looked_less peek r n spared

part_whole : {A : Type 0} (o peek : Option ℕ) → PartOf o ≡ Whole peek → A
part_whole o peek e = let k : PartOf o ≡ Whole peek = e in absurd (cc)

-- A statement continues only after a complete expression, not after a subexpression.
pub waits_whole : {p : Program} {x : Exits} {q : Relied} {bs cs : List InScope} {a : Awaiting} {ts : List RunTy} {r : RunValue} {f : flow.State} {next : Want} → Waits p x q bs a ts r f cs next → (peek : Option ℕ) → part a ≡ Whole peek → (h : flow.State) × (next ≡ Go h)
waits_whole (awaited.converts c v t f agrees keeps conv from to target) peek e = part_whole None peek e
waits_whole (awaited.negates f) peek e = part_whole None peek e
waits_whole (awaited.complements f) peek e = part_whole None peek e
waits_whole (awaited.widens f) peek e = part_whole None peek e
waits_whole (awaited.narrows f) peek e = part_whole None peek e
waits_whole (awaited.denies seen v f tested) peek e = part_whole None peek e
waits_whole (awaited.chains seen c v t f h stands computes chained) peek e = part_whole None peek e
waits_whole (awaited.applies f) peek e = part_whole None peek e
waits_whole (awaited.decides seen v f h tested i) peek e = part_whole None peek e
waits_whole (awaited.stores_local b t f among same spared) peek e = part_whole None peek e
waits_whole (awaited.stores_global number t f there same) peek e = part_whole None peek e
waits_whole (awaited.points {peek = o} also c t v w f stands op) peek e = part_whole o peek e
waits_whole (awaited.null_points {peek = o} also c v w f op) peek e = part_whole o peek e
waits_whole (awaited.stores_cell {peek = o} t r f alive) peek e = part_whole o peek e
waits_whole (awaited.follows seen v m t r f through kind target alive) peek e = part_whole None peek e
waits_whole (awaited.follows_member seen m n ls s t u r f kind struct fields field is alive) peek e = part_whole None peek e
waits_whole (awaited.indexes c t r f h stands evaluates target alive) peek e = part_whole None peek e
waits_whole (awaited.advances {peek = o} t r f target alive) peek e = part_whole o peek e
waits_whole (awaited.counts_elements seen t l f) peek e = part_whole None peek e
waits_whole (awaited.places_by c m t r f h stands makes alive) peek e = part_whole None peek e
waits_whole (awaited.beside_handle t f) peek e = part_whole None peek e
waits_whole (awaited.makes_plain t r f keyless alive owner kind) peek e = part_whole None peek e
waits_whole (awaited.makes_fields c done t ts n ls r f h alive owner stands passes fields) peek e = part_whole None peek e
waits_whole (awaited.makes_array c t r f alive owner stands repeats) peek e = part_whole None peek e
waits_whole (awaited.fills cs c t r f h same alive stands repeats i) peek e = part_whole None peek e
waits_whole (awaited.passes c done t ts r f h stands passes called) peek e = part_whole None peek e
waits_whole (awaited.initialises cs c t f h within stands new number kind continues) peek e = (h, refl)
waits_whole (awaited.chooses seen c d v f g h i tested first_stands second_stands one two j k) peek e = (i, refl)
waits_whole (awaited.tests seen l v f h loop) peek e = (h, refl)
waits_whole (awaited.returns t u f h result gives) peek e = (h, refl)
waits_whole (awaited.frees_object k t f) peek e = part_whole None peek e
waits_whole (awaited.closes_by_key r f) peek e = part_whole None peek e
waits_whole (awaited.throws f h) peek e = (h, refl)
waits_whole (awaited.opens_by cs c b r f h i within stands among number of_type hides set spared full less alive next continues again) peek e = (i, refl)
waits_whole (awaited.aliases cs c b u t f h i within stands among number same hides set spared full unique known of_type alive next continues again) peek e = (i, refl)

pub place_whole : {p : Program} {x : Exits} {q : Relied} {bs : List InScope} {a : AwaitingPlace} {o : Option ℕ} {t : RunTy} {l : Life} {f : flow.State} {next : Want} → WaitsPlace p x q bs a o t l f next → (peek : Option ℕ) → part_of_place a ≡ Whole peek → (h : flow.State) × (next ≡ Go h)
place_whole (awaited.loads_from seen t r f alive by_type plain kind) peek e = part_whole None peek e
place_whole (awaited.takes_address seen t l f common) peek e = part_whole None peek e
place_whole (awaited.stores_to c v t r f h alive stands evaluates conv from to) peek e = part_whole None peek e
place_whole (awaited.swaps_left c t r f h alive stands kind plain finds) peek e = (h, refl)
place_whole (awaited.swaps_right through t r f alive kind) peek e = (f, refl)

pub goes_relied : (p : Program) (g : Typing) (x : Exits) (bs : List InScope) (next : Want) (k : List Entry) (q : Relied) → (h : flow.State) × (next ≡ Go h) → IsStack p g x bs next k → relied_at q k ≡ q
goes_relied p g x bs next k q (h, same) is = statement_relied p g x bs h k q (subst (λ z. IsStack p g x bs z k) same is)

pub above_after : (empties : Bool) (x : Exits) (g : Typing) (k : List Entry) (j : ℕ) (old : Holder) → g.loans ≡ suc j → IsAboveBy empties x g k old → IsAboveBy empties x (record g { loans = j }) k old
above_after empties x g k j Nobody same above = tt
above_after empties x g k j (Hand i) same above = above
above_after empties x g k j (At object (suc i)) same above = tt
above_after empties x g k j (At object zero) same above = above
above_after empties x g k j (Lent i object) same above = let few : j ≤ i = omega (arith, above, same) in few

pub above_outside : (empties : Bool) (x y : Exits) (g : Typing) (e : Environment) (k : List Entry) (d : ℕ) (old : Holder) → g.depth ≡ suc d → IsAboveBy empties x g (Caller e ∷ k) old → IsAboveBy empties y (record g { depth = d }) k old
above_outside empties x y g caller k d Nobody same above = tt
above_outside empties x y g caller k d (Hand i) same above = above
above_outside empties x y g caller k d (At object (suc i)) same above = tt
above_outside empties x y g caller k d (At object zero) same (inl (e, n, slot, inl (here, spared))) = inl (e, n, slot, inr (let less : d < e = omega (arith, here, same) in less))
above_outside empties x y g caller k d (At object zero) same (inl (e, n, slot, inr deeper)) = inl (e, n, slot, inr (let less : d < e = omega (arith, deeper, same) in less))
above_outside empties x y g caller k d (At object zero) same (inr shown) = inr shown
above_outside empties x y g caller k d (Lent j object) same above = above

not_full : (f : flow.State) (n : ℕ) → is_reached f ≡ true → IsSparedBy f n → is_full (fullness f n) ≡ false
not_full Unreached n reached one = absurd (let k : false ≡ true = reached in cc)
not_full (Reached as') n reached one = one

-- A variable that the catch clauses of a `try` require to hold its value is not the one that owned the resource before the transfer.
pub relied_other : (x y : Exits) (g : Typing) (cs : Clauses) (k : List Entry) (f : flow.State) (old : Holder) (m object : ℕ) → x ≡ relying y f → is_reached f ≡ true → IsAboveBy true x g (Handler cs ∷ k) old → IsFullIn f m → IsSlot g g.depth m object → At object 0 ≢ old
relied_other x y g cs k f old m object same reached above full slot = variable_other x g (Handler cs ∷ k) m object old above slot
    (λ spared. (let one : IsSparedBy f m = (subst (λ (z : Exits). IsSpared z.relied m) same spared).0 in let z : true ≡ false = sym full ∙ not_full f m reached one in absurd (cc)))

pub only_full : (n : ℕ) → get_or (only n) n Vacant ≡ Full
only_full zero = refl
only_full (suc n) = only_full n

-- A variable that has lent its value is not the one that owned the resource before the transfer.
pub lender_other : (x y : Exits) (g : Typing) (k : List Entry) (lent : ℕ) (old : Holder) (object : ℕ) → x ≡ lending y lent → IsAboveBy true x g (EndLoan lent ∷ k) old → IsSlot g g.depth lent object → At object 0 ≢ old
lender_other x y g k lent old object same above slot = variable_other x g (EndLoan lent ∷ k) lent object old above slot
    (λ spared. (let one : is_full (get_or (only lent) lent Vacant) ≡ false = (subst (λ (z : Exits). IsSpared z.relied lent) same spared).0 in
    let z : true ≡ false = sym (ap is_full (only_full lent)) ∙ one in absurd (cc)))

pub outer_other : (x : Exits) (g : Typing) (caller : Environment) (k : List Entry) (d : ℕ) (old : Holder) (m object : ℕ) → g.depth ≡ suc d → IsAboveBy true x g (Caller caller ∷ k) old → IsSlot g d m object → At object 0 ≢ old
outer_other x g caller k d Nobody m object same above slot = at_some object 0
outer_other x g caller k d (Hand i) m object same above slot = at_no_hand object 0 i
outer_other x g caller k d (Lent j other) m object same above slot = at_not_lent object 0 j other
outer_other x g caller k d (At other (suc i)) m object same above slot = λ e. (let z : 0 ≡ suc i = (at_same object 0 other (suc i) e).1 in absurd (omega (arith, z)))
outer_other x g caller k d (At other zero) m object same (inl (e, n, its, inl (here, spared))) slot = λ q.
    (let (depth, number) = slot_same g d e m n other (subst (λ i. IsSlot g d m i) (at_same object 0 other 0 q).0 slot) its in absurd (omega (arith, depth, here, same)))
outer_other x g caller k d (At other zero) m object same (inl (e, n, its, inr deeper)) slot = λ q.
    (let (depth, number) = slot_same g d e m n other (subst (λ i. IsSlot g d m i) (at_same object 0 other 0 q).0 slot) its in absurd (omega (arith, depth, deeper, same)))
outer_other x g caller k d (At other zero) m object same (inr (filling, shown)) slot = let z : true ≡ false = filling in absurd (cc)

-- A local that is not full (holds no value, or a lent one) differs from every full local.
pub emptied_other : (g : Typing) (a : flow.Fullness) (f : flow.State) (n m object other : ℕ) → is_full a ≡ false → is_reached f ≡ true → IsFullIn (with_fullness a f n) m → IsSlot g g.depth n object → IsSlot g g.depth m other → At other 0 ≢ At object 0
emptied_other g a f n m object other empty reached full slot its e =
    let (depth, same) = slot_same g g.depth g.depth m n object (subst (λ i. IsSlot g g.depth m i) (at_same other 0 object 0 e).0 its) slot in
    let k : false ≡ true = sym empty ∙ full_put a f n reached (subst (λ i. IsFullIn (with_fullness a f n) i) same full) in
    absurd (cc)
