-- The calls chosen for inlining, and the instructions chosen for duplication, satisfy the conditions on such
-- calls and instructions. Each number in an instruction of the program's code fits a machine word.
use Rattle.std.proofs.Common.{◌≡◌, ℕ, zero, suc, ◌+◌, ◌^◌, ◌<◌, ◌≤◌, Bool, true, false, List, [], ◌∷◌, ◌++◌, length, Option, Some, None, refl, sym, ap, subst, ◌∙◌, arith, inl, inr}
use Rattle.std.specs.Prelude.{◌⊎◌, ◌==◌, nat_lt, nat_le, if◌then◌else◌, not, ◌&&◌, filter, slice_get, sum_by}
use Rattle.std.specs.List.{AllByRecursion}
use Rattle.std.specs.declared.vec.Vec.{Vec}
use Rattle.std.specs.declared.alloc.Global.{Global}
use Rattle.std.proofs.lemmas.Bool.{false≢true, leb-true}
use Rattle.std.proofs.lemmas.List.{length-append}
use Rattle.std.proofs.lemmas.List.Elements.{recursion_from_All}
use Rattle.std.proofs.lemmas.List.Sums.{sum_by-cons, get_or-le-sum_by}
use Rattle.cyc_words.proofs.Booleans.{and_left, and_right, false_from_not}
use Rattle.cyc_words.proofs.Lists.{all_append}
use Rattle.cyc_words.proofs.Members.{All_at}
use Rattle.cyc_words.proofs.Numbers.{nat_lt-true}
use Rattle.cyc_plain.specs.declared.instruction.BinaryOperator.{BinaryOperator}
use Rattle.cyc_plain.specs.declared.instruction.BinaryOperator.TheVariants as binary
use Rattle.cyc_plain.specs.declared.instruction.Instruction.{Instruction}
use Rattle.cyc_plain.specs.declared.instruction.Instruction.TheVariants as instructions
use Rattle.cyc_plain.specs.declared.instruction.Operand.{Operand}
use Rattle.cyc_plain.specs.declared.instruction.Operand.TheVariants as operands
use Rattle.cyc_plain.specs.declared.limits.TheConstants.{LAYOUT_WORDS, MOST_FRAME_WORDS, MOST_SIZE}
use Rattle.cyc_plain.specs.inside.Program.{Routine, Program, routine_at, no_routine, operator_size, instruction_size, size}
use Rattle.cyc_plain.specs.declared.instruction.Request.{Request}
use Rattle.cyc_plain.specs.inside.Requests.{request_size}
use Rattle.cyc_plain.specs.inside.Straight.{At}
use Rattle.cyc_plain.specs.inside.WellFormed.{IsOperand, IsCallInRange, IsInRange, IsPlain}
use Rattle.cyc_plain.proofs.Placed.{routine_in}
use Rattle.cyc_inline.specs.declared.limits.TheConstants.{MOST_HOISTED}
use Rattle.cyc_inline.specs.declared.choice.Choice.{Choice}
use Rattle.cyc_inline.specs.declared.choice.Need.{Need}
use Rattle.cyc_inline.specs.declared.site.Call.{Call}
use Rattle.cyc_inline.specs.inside.Opened.{is_division, may_have_duplicate, duplicate, may_follow_hoisted, IsDuplicate, IsHoisted, is_end}
use Rattle.cyc_inline.specs.inside.Sites.{chosen_call, place_in, site_size}
use Rattle.cyc_inline.specs.inside.Emission.{IsFitOperand, IsFit, IsFitEnd, IsFitInside, IsFitSite, IsLeaf, AreLeafs, IsOpenable, IsNeed, IsChosenBy, AreChosen, call_size, duplicate_by, duplicate_in, is_further, fits_in, may_hoisted, all_hoisted_if, front_by, IsFront}

-- ---- a chosen call

abbrev instruction_of : Call → Instruction
instruction_of call = instructions.Call call.callee call.arguments call.count call.result

-- An instruction chosen for inlining is a call, and the first `line` of the callee's instructions, with `line` above 0, are placed at the
-- call.
pub call_is : (i : Instruction) (line : ℕ) (call : Call) → chosen_call i line ≡ Some call → (i ≡ instruction_of call) × (call.line ≡ line) × (0 < line)
call_is (instructions.Call callee arguments count result) line call is = go (line == 0) refl is
  where
    made : Call
    made = record { callee = callee; arguments = arguments; count = count; result = result; line = line }

    go : (none : Bool) → (line == 0) ≡ none → (if none then None else Some made) ≡ Some call → (instructions.Call callee arguments count result ≡ instruction_of call) × (call.line ≡ line) × (0 < line)
    go true none is = absurd (let e : None ≡ Some call = is in cc)
    go false some is =
        let same : made ≡ call = (let e : Some made ≡ Some call = is in cc) in
        (ap instruction_of same, ap (λ (c : Call). c.line) (sym same), some_line line some)
      where
        some_line : (n : ℕ) → (n == 0) ≡ false → 0 < n
        some_line zero is = absurd (false≢true (sym is))
        some_line (suc n) is = omega arith
call_is i line call is = absurd (let e : None ≡ Some call = is in cc)

-- Each instruction of a plain program (a program in three-address code that satisfies `IsPlain`) is well-formed.
pub in_code : (program : Program) (number index : ℕ) (i : Instruction) → IsPlain program → number < length program.functions → At (routine_at program number).code index i
    → IsInRange program (routine_at program number) i
in_code program number index i plain is_function at =
    All_at (IsInRange program (routine_at program number)) (routine_at program number).code index i (routine_in program number plain.well_formed is_function).instructions at

pub call_in_range : (program : Program) (r : Routine) (i : Instruction) (line : ℕ) (call : Call) → IsInRange program r i → chosen_call i line ≡ Some call
    → IsCallInRange program r call.callee call.arguments call.count call.result
call_in_range program r i line call in_range is =
    let (same, is_line, some) = call_is i line call is in
    subst (IsInRange program r) same in_range

-- ---- sizes in instructions

request_some : (request : Request) → 1 ≤ request_size request
request_some request = omega arith

operator_some : (operator : BinaryOperator) → 1 ≤ operator_size operator
operator_some binary.Divide = omega arith
operator_some binary.Remainder = omega arith
operator_some operator = omega arith

instruction_some : (i : Instruction) → 1 ≤ instruction_size i
instruction_some (instructions.Binary operator destination left right) = operator_some operator
instruction_some (instructions.Ask request) = request_some request
instruction_some i = omega arith

code_few : (code : List Instruction) → length code ≤ sum_by instruction_size code
code_few [] = omega arith
code_few (i ∷ code) = omega (arith, sum_by-cons instruction_size i code, instruction_some i, code_few code)

pub few_instructions : (program : Program) (number : ℕ) → IsPlain program → number < length program.functions → length (routine_at program number).code ≤ MOST_SIZE
few_instructions program number plain is_function =
    let small = plain.small in
    omega (arith, code_few (routine_at program number).code, get_or-le-sum_by size program.functions number no_routine is_function, small)

-- ---- the instructions before an instruction

-- If an instruction may be preceded by its duplicate, it may also be preceded by hoisted instructions.
duplicate_preceded : (i : Instruction) → may_have_duplicate i ≡ true → may_follow_hoisted i ≡ true
duplicate_preceded (instructions.Binary operator destination left right) may = refl
duplicate_preceded (instructions.LoadGlobal destination global) may = refl
duplicate_preceded (instructions.Load destination address offset) may = refl
duplicate_preceded i may = absurd (false≢true may)

duplicate_slots : (program : Program) (number : ℕ) (choice : Choice) (index : ℕ) (i : Instruction) (slot : ℕ) → duplicate_by program number choice index i ≡ Some slot
    → IsDuplicate (routine_at program number).slots choice.slots i (duplicate slot i)
duplicate_slots program number choice index i slot is =
    go (may_have_duplicate i) (nat_le r.slots wanted) (nat_lt wanted choice.slots) refl refl refl is
  where
    r : Routine
    r = routine_at program number

    wanted : ℕ
    wanted = place_in choice.duplicates.items index

    go : (may least below : Bool) → may_have_duplicate i ≡ may → nat_le r.slots wanted ≡ least → nat_lt wanted choice.slots ≡ below
        → (if may then (if least then (if below then Some wanted else None) else None) else None) ≡ Some slot → IsDuplicate r.slots choice.slots i (duplicate slot i)
    go true true true may least below is =
        let same : wanted ≡ slot = cc in
        record {
          slot = slot;
          further = subst (λ (n : ℕ). r.slots ≤ n) same (leb-true r.slots wanted least);
          room = subst (λ (n : ℕ). n < choice.slots) same (nat_lt-true wanted choice.slots below);
          may = may;
          is = refl;
        }
    go true true false may least below is = absurd (let e : None ≡ Some slot = is in cc)
    go true false below may least is_below is = absurd (let e : None ≡ Some slot = is in cc)
    go false least below may is_least is_below is = absurd (let e : None ≡ Some slot = is in cc)

further_least : (given slots slot : ℕ) → is_further given slots slot ≡ true → given ≤ slot
further_least given slots slot is = leb-true given slot (and_left (nat_le given slot) (nat_lt slot slots) is)

pub further_below : (given slots slot : ℕ) → is_further given slots slot ≡ true → slot < slots
further_below given slots slot is = nat_lt-true slot slots (and_right (nat_le given slot) (nat_lt slot slots) is)

-- An instruction that passes the test `may_hoisted` satisfies `IsHoisted`, the definition of a hoisted instruction.
pub is_hoisted : (globals given slots : ℕ) (x : Instruction) → may_hoisted globals given slots x ≡ true → IsHoisted given slots x
is_hoisted globals given slots (instructions.Move destination source) may =
    let further = and_left (is_further given slots destination) (fits_in slots source) may in
    record { slot = destination; further = further_least given slots destination further; room = further_below given slots destination further; is = refl }
is_hoisted globals given slots (instructions.Binary operator destination left right) may =
    let more = is_further given slots destination && (fits_in slots left && fits_in slots right) in
    let further = and_left (is_further given slots destination) (fits_in slots left && fits_in slots right) (and_right (not (is_division operator)) more may) in
    let none = false_from_not (is_division operator) (and_left (not (is_division operator)) more may) in
    record {
      slot = destination;
      further = further_least given slots destination further;
      room = further_below given slots destination further;
      is = ap (λ (t : Bool). if t then None else Some destination) none;
    }
is_hoisted globals given slots (instructions.LoadGlobal destination global) may =
    let further = and_left (is_further given slots destination) (nat_lt global globals) may in
    record { slot = destination; further = further_least given slots destination further; room = further_below given slots destination further; is = refl }
is_hoisted globals given slots x may = absurd (false≢true may)

module _ (program : Program) (r : Routine) (slots : ℕ) (i : Instruction) where
  abbrev may : Instruction → Bool
  may = may_hoisted (length program.globals) r.slots slots

  abbrev Precedes : Instruction → Type 0
  Precedes x = (may_hoisted (length program.globals) r.slots slots x ≡ true) ⊎ IsDuplicate r.slots slots i x

  passed : (x : Instruction) (xs : List Instruction) (t : Bool) → may x ≡ t → AllByRecursion Precedes xs → AllByRecursion Precedes (if t then x ∷ xs else xs)
  passed x xs true is rest = (inl is, rest)
  passed x xs false is rest = rest

  filtered : (xs : List Instruction) → AllByRecursion Precedes (filter may xs)
  filtered [] = tt
  filtered (x ∷ xs) = passed x (filter may xs) (may x) refl (filtered xs)

  chosen_pass : (t : Bool) (wanted : List Instruction) → AllByRecursion Precedes (if t then filter may wanted else [])
  chosen_pass true wanted = filtered wanted
  chosen_pass false wanted = tt

  all_hoisted_pass : (o : Option (Vec Instruction Global)) → AllByRecursion Precedes (all_hoisted_if (length program.globals) r.slots slots i o)
  all_hoisted_pass (Some wanted) = chosen_pass (may_follow_hoisted i && nat_le (length wanted.items) MOST_HOISTED) wanted.items
  all_hoisted_pass None = tt

  chosen_preceded : (preceded few : Bool) (wanted : List Instruction) → may_follow_hoisted i ≡ preceded → 0 < length (if preceded && few then filter may wanted else []) → may_follow_hoisted i ≡ true
  chosen_preceded true few wanted is some = is
  chosen_preceded false few wanted is some = absurd (omega (arith, some))

  all_hoisted_preceded : (o : Option (Vec Instruction Global)) → 0 < length (all_hoisted_if (length program.globals) r.slots slots i o) → may_follow_hoisted i ≡ true
  all_hoisted_preceded (Some wanted) some = chosen_preceded (may_follow_hoisted i) (nat_le (length wanted.items) MOST_HOISTED) wanted.items refl some
  all_hoisted_preceded None some = absurd (omega (arith, some))

  module _ (further : Option ℕ) (is_duplicate : (slot : ℕ) → further ≡ Some slot → IsDuplicate r.slots slots i (duplicate slot i)) where
    duplicate_passes : (o : Option ℕ) → further ≡ o → AllByRecursion Precedes (duplicate_in i o)
    duplicate_passes (Some slot) is = (inr (is_duplicate slot is), tt)
    duplicate_passes None is = tt

    duplicate_is_preceded : (o : Option ℕ) → further ≡ o → 0 < length (duplicate_in i o) → may_follow_hoisted i ≡ true
    duplicate_is_preceded (Some slot) is some = duplicate_preceded i (is_duplicate slot is).may
    duplicate_is_preceded None is some = absurd (omega (arith, some))

    either_preceded : (xs : List Instruction) → (0 < length xs → may_follow_hoisted i ≡ true) → 0 < length (xs ++ duplicate_in i further) → may_follow_hoisted i ≡ true
    either_preceded [] first some = duplicate_is_preceded further refl some
    either_preceded (x ∷ xs) first some = first (omega arith)

    pub front_is : (o : Option (Vec Instruction Global)) → IsFront program r slots i (all_hoisted_if (length program.globals) r.slots slots i o ++ duplicate_in i further)
    front_is o = record {
      each = all_append Precedes (all_hoisted_if (length program.globals) r.slots slots i o) (duplicate_in i further) (all_hoisted_pass o) (duplicate_passes further refl);
      some = either_preceded (all_hoisted_if (length program.globals) r.slots slots i o) (all_hoisted_preceded o);
    }

pub front_stands : (program : Program) (number : ℕ) (choice : Choice) (index : ℕ) (i : Instruction) → IsFront program (routine_at program number) choice.slots i (front_by program number choice index i)
front_stands program number choice index i =
    front_is program (routine_at program number) choice.slots i (duplicate_by program number choice index i) (duplicate_slots program number choice index i) (slice_get choice.all_hoisted.items index)

-- ---- numbers that fit a machine word

module _ (program : Program) (r : Routine) (shift : ℕ) (fits : shift + r.slots < 2 ^ 64) where
  fit_slot : (slot : ℕ) → slot < r.slots → shift + slot < 2 ^ 64
  fit_slot slot below = omega (arith, below, fits)

  fit_operand : (operand : Operand) → IsOperand r operand → IsFitOperand shift operand
  fit_operand (operands.Slot number) is = fit_slot number is
  fit_operand (operands.Word word) is = tt

  pub fit : (i : Instruction) → IsInRange program r i → IsFit shift i
  fit (instructions.Move destination source) (first, second) = (fit_slot destination first, fit_operand source second)
  fit (instructions.MoveWords destination source count) is =
      let some = is.some in
      let to = is.destination_in_range in
      let from = is.source_in_range in
      (omega (arith, some, to, fits), omega (arith, some, from, fits))
  fit (instructions.Unary operator destination operand) (first, second) = (fit_slot destination first, fit_operand operand second)
  fit (instructions.Binary operator destination left right) (first, second, third) = (fit_slot destination first, fit_operand left second, fit_operand right third)
  fit (instructions.Branch comparison left right target) (first, second, third) = (fit_operand left first, fit_operand right second)
  fit (instructions.ReadByte destination) is = fit_slot destination is
  fit (instructions.WriteByte source) is = fit_operand source is
  fit (instructions.LoadGlobal destination global) (first, second) = fit_slot destination first
  fit (instructions.StoreGlobal global source) (first, second) = fit_operand source second
  fit (instructions.Load destination address offset) (first, second) = (fit_slot destination first, fit_operand address second)
  fit (instructions.Store address offset source) (first, second) = (fit_operand address first, fit_operand source second)
  fit (instructions.LoadByte destination address offset) (first, second) = (fit_slot destination first, fit_operand address second)
  fit (instructions.StoreByte address offset source) (first, second) = (fit_operand address first, fit_operand source second)
  fit (instructions.CountLexical destination) is = fit_slot destination is
  fit (instructions.Throw tag value) (first, second) = (fit_operand tag first, fit_operand value second)
  fit i is = tt

  pub fit_end : (i : Instruction) → IsInRange program r i → IsFitEnd shift r.results (is_end i)
  fit_end (instructions.Return value) is = omega (arith, is, fits)
  fit_end (instructions.Finish value) is = omega (arith, is, fits)
  fit_end i is = tt

-- The slot and function indices in a call that may be inlined fit machine words.
pub fit_site : (program : Program) (r : Routine) (slots : ℕ) (call : Call) → IsPlain program → slots < 2 ^ 64 → IsOpenable program r slots call
    → IsCallInRange program r call.callee call.arguments call.count call.result
    → (s t : Routine) (following rest : ℕ) (code : List Instruction) → s ≡ r → t ≡ routine_at program call.callee → code ≡ t.code
    → IsFitSite (record { call = call; shift = s.slots; results = t.results; following = following; rest = rest }) code
fit_site program r slots call plain few openable is s t following rest code same_r same_callee same_code =
    subst (λ (x : Routine). IsFitSite (record { call = call; shift = x.slots; results = t.results; following = following; rest = rest }) code) (sym same_r)
    (subst (λ (is : List Instruction). IsFitSite (record { call = call; shift = r.slots; results = t.results; following = following; rest = rest }) is) (sym same_code)
    (subst (λ (x : Routine). IsFitSite (record { call = call; shift = r.slots; results = x.results; following = following; rest = rest }) x.code) (sym same_callee) fits))
  where
    callee : Routine
    callee = routine_at program call.callee

    room : r.slots + callee.slots < 2 ^ 64
    room = (let more = openable.room in omega (arith, few, more))

    fits : IsFitSite (record { call = call; shift = r.slots; results = callee.results; following = following; rest = rest }) callee.code
    fits =
        let routine = routine_in program call.callee plain.well_formed is.function_in_range in
        let parameters = routine.parameters in
        let takes = is.takes in
        let arguments = is.arguments_in_range in
        let results = is.result_in_range in
        record {
          each = recursion_from_All (IsFitInside (record { call = call; shift = r.slots; results = callee.results; following = following; rest = rest })) callee.code (λ k d below.
              let i = routine.instructions k d below in (fit program callee r.slots room _ i, fit_end program callee r.slots room _ i));
          results = routine.results;
          result = omega (arith, results, room);
          arguments = omega (arith, arguments, room);
          shift = omega (arith, parameters, takes, room);
        }

-- The computed size of an inlined call equals the number of instructions of its code.
pub same_size : (program : Program) (call : Call) (in_line : Bool) (t : Routine) (code : List Instruction) → t ≡ routine_at program call.callee → code ≡ t.code
    → site_size call t.results in_line code ≡ call_size program in_line call
same_size program call in_line t code same is =
    ap (λ (l : List Instruction). site_size call t.results in_line l) is ∙ ap (λ (x : Routine). site_size call x.results in_line x.code) same

-- ---- the choice of calls

none_chosen : (i : Instruction) (call : Call) → chosen_call i 0 ≡ Some call → ⊥
none_chosen i call is = (let (same, line, some) = call_is i 0 call is in omega (arith, some))

pub no_calls : (program : Program) (r : Routine) (chosen : List ℕ) (slots : ℕ) → chosen ≡ [] → slots ≡ r.slots → AreChosen program r chosen slots
no_calls program r chosen slots none same = record {
  each = λ index i call at is. absurd (none_chosen i call (subst (λ (lines : List ℕ). chosen_call i (place_in lines index) ≡ Some call) none is));
  least = omega (arith, same);
  frame = inl same;
}

-- In a list to which one number was appended, each positive number is the number at this index of the old list, or is the appended number.
pub last_line : (lines : List ℕ) (line : ℕ) (k : ℕ) → 0 < place_in (lines ++ line ∷ []) k
    → (place_in (lines ++ line ∷ []) k ≡ place_in lines k) ⊎ ((k ≡ length lines) × (place_in (lines ++ line ∷ []) k ≡ line))
last_line [] line zero is = inr (refl, refl)
last_line [] line (suc k) is = absurd (omega (arith, is))
last_line (m ∷ lines) line zero is = inl refl
last_line (m ∷ lines) line (suc k) is = elim (last_line lines line k is) [
  | inl before ↦ inl before
  | inr (at, last) ↦ inr (ap suc at, last)
]

pub leafs_more : (program : Program) (lines new : List ℕ) (number line : ℕ) → AreLeafs program lines → length lines ≡ number
    → (0 < line → IsLeaf (routine_at program number) line) → new ≡ lines ++ line ∷ [] → AreLeafs program new
leafs_more program lines new number line are long leaf is k some =
    subst (λ (table : List ℕ). IsLeaf (routine_at program k) (place_in table k)) (sym is)
    (leaf_at (subst (λ (table : List ℕ). 0 < place_in table k) is some))
  where
    leaf_at : 0 < place_in (lines ++ line ∷ []) k → IsLeaf (routine_at program k) (place_in (lines ++ line ∷ []) k)
    leaf_at there = elim (last_line lines line k there) [
      | inl before ↦
          subst (IsLeaf (routine_at program k)) (sym before) (are k (subst (λ (n : ℕ). 0 < n) before there))
      | inr (at, last) ↦
          subst (IsLeaf (routine_at program k)) (sym last)
          (subst (λ (n : ℕ). IsLeaf (routine_at program n) line) (sym (at ∙ long)) (leaf (subst (λ (n : ℕ). 0 < n) last there)))
    ]

more_room : (program : Program) (r : Routine) (slots more : ℕ) (call : Call) → slots ≤ more → IsOpenable program r slots call → IsOpenable program r more call
more_room program r slots more call least is =
    let room = is.room in record { leaf = is.leaf; some = is.some; room = omega (arith, room, least); small = is.small }

pub length_more : (old new : Choice) (need : Option Need) (index : ℕ) → length old.chosen.items ≡ index → IsChosenBy old new need → length new.chosen.items ≡ index + 1
length_more old new need index long by =
    let longer : length new.chosen.items ≡ length (old.chosen.items ++ by.line ∷ []) = ap (λ (lines : List ℕ). length lines) by.chosen in
    omega (arith, longer, length-append old.chosen.items (by.line ∷ []), long)

-- The record of the calls chosen for inlining stays valid when it is extended by the decision on one more
-- instruction, to be inlined or not.
module _ (program : Program) (r : Routine) (old new : Choice) (need : Option Need) (index : ℕ) (i : Instruction) (at : At r.code index i)
    (long : length old.chosen.items ≡ index) (are : AreChosen program r old.chosen.items old.slots) (by : IsChosenBy old new need)
    (needed : (it : Need) → need ≡ Some it → IsNeed program r i it) (small : r.frame_count ≤ MOST_FRAME_WORDS) where
  openable_at : (k : ℕ) (j : Instruction) (call : Call) → At r.code k j → chosen_call j (place_in (old.chosen.items ++ by.line ∷ []) k) ≡ Some call
      → IsOpenable program r new.slots call
  openable_at k j call there is =
      let (same, line, some) = call_is j (place_in (old.chosen.items ++ by.line ∷ []) k) call is in
      elim (last_line old.chosen.items by.line k some) [
        | inl before ↦
            more_room program r old.slots new.slots call by.least (are.each k j call there (subst (λ (n : ℕ). chosen_call j n ≡ Some call) before is))
        | inr (here, last) ↦
            let (it, is_need, by_need, room) = by.needed (subst (λ (n : ℕ). 0 < n) last some) in
            let here_too : At r.code index j = subst (λ (n : ℕ). At r.code n j) (here ∙ long) there in
            let same_instruction : j ≡ i = (let e : Some j ≡ Some i = sym here_too ∙ at in cc) in
            more_room program r it.slots new.slots call room
            ((needed it is_need).openable call
            (subst (λ (k : Instruction). chosen_call k it.line ≡ Some call) same_instruction (subst (λ (n : ℕ). chosen_call j n ≡ Some call) (last ∙ by_need) is)))
      ]

  openable : (k : ℕ) (j : Instruction) (call : Call) → At r.code k j → chosen_call j (place_in new.chosen.items k) ≡ Some call → IsOpenable program r new.slots call
  openable k j call there is = openable_at k j call there (subst (λ (lines : List ℕ). chosen_call j (place_in lines k) ≡ Some call) by.chosen is)

  frame : (new.slots ≡ r.slots) ⊎ ((r.frame_count ≤ MOST_FRAME_WORDS) × (new.slots + LAYOUT_WORDS ≤ MOST_FRAME_WORDS))
  frame = elim by.slots [
    | inl same ↦ subst (λ (n : ℕ). (n ≡ r.slots) ⊎ ((r.frame_count ≤ MOST_FRAME_WORDS) × (n + LAYOUT_WORDS ≤ MOST_FRAME_WORDS))) (sym same) are.frame
    | inr (it, is_need, is) ↦ (let room = (needed it is_need).frame in inr (small, omega (arith, room, is)))
  ]

  pub chosen_more : AreChosen program r new.chosen.items new.slots
  chosen_more = record {
    each = openable;
    least = (let a = are.least in let b = by.least in omega (arith, a, b));
    frame = frame;
  }
