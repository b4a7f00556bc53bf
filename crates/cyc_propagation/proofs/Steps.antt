-- If the known facts are true, a replacement has exactly the effect of the original instruction, for every nondeterministic choice. A
-- nondeterministic choice of the machine gives unspecified words, the address of a callee's slots, and the results of the store (the
-- heap of regions).
use Rattle.std.proofs.Common.{◌≡◌, ℕ, ◌%◌, ◌++◌, Bool, true, false, List, [], ◌∷◌, Option, Some, None, refl, sym, ap, ◌∙◌}
use Rattle.std.specs.Prelude.{◌==◌, if◌then◌else◌}
use Rattle.std.proofs.lemmas.Bool.{eqb-true, cond_both}
use mathlib.Core.Path.{fun_ext}
use Rattle.cyc_words.specs.Ending.{Uncaught}
use Rattle.cyc_words.specs.Word.{signed, add_of}
use Rattle.cyc_words.specs.Bytes.{word_of}
use Rattle.cyc_store.specs.Services.{Call, refusal}
use Rattle.cyc_store.specs.Services as services
use Rattle.cyc_plain.specs.declared.instruction.Instruction.{Instruction}
use Rattle.cyc_plain.specs.declared.instruction.Instruction.TheVariants as instructions
use Rattle.cyc_plain.specs.declared.instruction.Operand.{Operand}
use Rattle.cyc_plain.specs.declared.instruction.Request.{Request}
use Rattle.cyc_plain.specs.declared.instruction.Request.TheVariants as requests
use Rattle.cyc_plain.specs.declared.instruction.UnaryOperator.{UnaryOperator}
use Rattle.cyc_plain.specs.declared.instruction.BinaryOperator.{BinaryOperator}
use Rattle.cyc_plain.specs.declared.instruction.Comparison.{Comparison}
use Rattle.cyc_plain.specs.inside.Requests.{destination_of}
use Rattle.cyc_plain.specs.inside.Operators.{unary_result, binary_result, has_no_result, compares}
use Rattle.cyc_plain.specs.inside.Program.{Program}
use Rattle.cyc_plain.specs.inside.State.{Words, put, Configuration, Running, Ended, Stuck}
use Rattle.cyc_plain.specs.inside.Memory.{memory_at}
use Rattle.cyc_plain.specs.inside.Step.{Choice, gives, branches, operand_word, advanced, with_slots, loads, saves, loads_byte, saves_byte, call_in, call_of, asks, throws, callee_of, limit_of, performed}
use Rattle.cyc_propagation.specs.declared.fact.Fact.{Fact}
use Rattle.cyc_propagation.specs.declared.fact.Fact.TheVariants as facts_are
use Rattle.cyc_propagation.specs.inside.Facts.{Scene, scene_of, AreTrueIn, is_known, first_global, global_offset}
use Rattle.cyc_propagation.specs.inside.Replacement.{simplified_operand, right_operand, folded_unary, simplified_unary, folded_at, holder_in, simplified_binary, simplified_move, decision_in, simplified_branch}
use Rattle.cyc_propagation.specs.inside.Replacement.{value_in, simplified_load, global_value, simplified_global, simplified_request, simplified_instruction}
use Rattle.cyc_propagation.proofs.Memory.{global_found}
use Rattle.cyc_propagation.proofs.Truth.{known_true}
use Rattle.cyc_propagation.proofs.Same.{passed_either, operand_same, second_same, IsFoldedUnary, folded_unary_true, IsFolded, folded_at_true, HoldsResult, holder_in_true, IsDecidedRight, decision_in_right, IsFound, value_in_true}

module _ (scene : Scene) (facts : List Fact) (holds : AreTrueIn scene facts) where
  -- A request to the store (the heap of regions) has the same argument words after its operands are replaced by equal ones.
  pub call_same : (request : Request) → call_in scene.slots (simplified_request facts request) ≡ call_in scene.slots request
  call_same (requests.OpenLexical destination) = refl
  call_same (requests.CloseTo mark) = ap services.CloseTo (operand_same scene facts mark holds)
  call_same (requests.OpenDynamic destination) = refl
  call_same (requests.CloseDynamic handle) = ap services.CloseDynamic (operand_same scene facts handle holds)
  call_same (requests.Allocate destination handle words) =
      ap (λ (w : ℕ). services.Allocate w (operand_word scene.slots (simplified_operand facts words))) (operand_same scene facts handle holds)
      ∙ ap (services.Allocate (operand_word scene.slots handle)) (operand_same scene facts words holds)
  call_same (requests.Free address) = ap services.Free (operand_same scene facts address holds)

pub destination_same : (facts : List Fact) (request : Request) → destination_of (simplified_request facts request) ≡ destination_of request
destination_same facts (requests.OpenLexical destination) = refl
destination_same facts (requests.CloseTo mark) = refl
destination_same facts (requests.OpenDynamic destination) = refl
destination_same facts (requests.CloseDynamic handle) = refl
destination_same facts (requests.Allocate destination handle words) = refl
destination_same facts (requests.Free address) = refl

module _ (program : Program) (choice : Choice) (c : Configuration) (facts : List Fact) (holds : AreTrueIn (scene_of program c) facts) where
  abbrev word : Operand → ℕ
  word operand = operand_word c.active.slots operand

  abbrev other : Operand → Operand
  other operand = simplified_operand facts operand

  same : (operand : Operand) → word (other operand) ≡ word operand
  same operand = operand_same (scene_of program c) facts operand holds

  moved_same : (destination : ℕ) (source : Operand) → performed program choice c (simplified_instruction facts (instructions.Move destination source))
      ≡ performed program choice c (instructions.Move destination source)
  moved_same destination source = go (is_known facts (facts_are.Equal destination (other source))) refl
    where
      go : (b : Bool) → is_known facts (facts_are.Equal destination (other source)) ≡ b
          → performed program choice c (simplified_move b destination (other source)) ≡ performed program choice c (instructions.Move destination source)
      go true known =
          ap (gives c destination) (known_true (scene_of program c) facts (facts_are.Equal destination (other source)) holds known ∙ same source)
      go false unknown = ap (gives c destination) (same source)

  seconds_same : (operator : BinaryOperator) (operand : Operand) → word (right_operand facts operator (other operand)) ≡ word operand
  seconds_same operator operand = second_same (scene_of program c) facts operator (other operand) holds ∙ same operand

  unary_same : (operator : UnaryOperator) (destination : ℕ) (operand : Operand)
      → performed program choice c (simplified_instruction facts (instructions.Unary operator destination operand))
      ≡ performed program choice c (instructions.Unary operator destination operand)
  unary_same operator destination operand =
      go (folded_unary facts operator (other operand)) (folded_unary_true (scene_of program c) facts operator (other operand) holds)
    where
      go : (o : Option ℕ) → IsFoldedUnary (scene_of program c) operator (other operand) o
          → performed program choice c (simplified_unary o operator destination (other operand)) ≡ performed program choice c (instructions.Unary operator destination operand)
      go (Some w) is = ap (gives c destination) is ∙ ap (λ (w : ℕ). gives c destination (unary_result operator w)) (same operand)
      go None is = ap (λ (w : ℕ). gives c destination (unary_result operator w)) (same operand)

  binary_same : (operator : BinaryOperator) (destination : ℕ) (left right : Operand)
      → performed program choice c (instructions.Binary operator destination (other left) (right_operand facts operator (other right)))
      ≡ performed program choice c (instructions.Binary operator destination left right)
  binary_same operator destination left right =
      ap (λ (a : ℕ). if has_no_result operator (word (right_operand facts operator (other right))) then Stuck c.output c.input else gives c destination (binary_result operator a (word (right_operand facts operator (other right))))) (same left)
      ∙ ap (λ (b : ℕ). if has_no_result operator b then Stuck c.output c.input else gives c destination (binary_result operator (word left) b)) (seconds_same operator right)

  computed_same : (operator : BinaryOperator) (destination : ℕ) (left right : Operand)
      → performed program choice c (simplified_instruction facts (instructions.Binary operator destination left right))
      ≡ performed program choice c (instructions.Binary operator destination left right)
  computed_same operator destination left right =
      go (folded_at facts operator destination (other left) (right_operand facts operator (other right)))
      (holder_in facts operator (other left) (right_operand facts operator (other right)))
      (folded_at_true (scene_of program c) facts operator destination (other left) (right_operand facts operator (other right)) holds)
      (holder_in_true (scene_of program c) facts operator (other left) (right_operand facts operator (other right)) holds)
    where
      -- If an operator has a result, the word that constant folding computes is this result.
      is_result : (w : ℕ) → w ≡ binary_result operator (word (other left)) (word (right_operand facts operator (other right)))
          → has_no_result operator (word (right_operand facts operator (other right))) ≡ false → gives c destination w ≡ performed program choice c (instructions.Binary operator destination left right)
      is_result w result some =
          ap (gives c destination) result
          ∙ sym (ap (λ (b : Bool). if b then Stuck c.output c.input else gives c destination (binary_result operator (word (other left)) (word (right_operand facts operator (other right))))) some)
          ∙ binary_same operator destination left right

      go : (f o : Option ℕ) → IsFolded (scene_of program c) operator (other left) (right_operand facts operator (other right)) f
          → HoldsResult (scene_of program c) operator (other left) (right_operand facts operator (other right)) o
          → performed program choice c (simplified_binary f o operator destination (other left) (right_operand facts operator (other right)))
          ≡ performed program choice c (instructions.Binary operator destination left right)
      go (Some w) o (result, some) nothing = is_result w result some
      go None None is nothing = binary_same operator destination left right
      go None (Some slot) is (result, some) = is_result (c.active.slots slot) result some

  branch_same : (comparison : Comparison) (left right : Operand) → compares comparison (word (other left)) (word (other right)) ≡ compares comparison (word left) (word right)
  branch_same comparison left right =
      ap (λ (a : ℕ). compares comparison a (word (other right))) (same left) ∙ ap (compares comparison (word left)) (same right)

  -- A move from a slot to the same slot has no effect.
  itself_same : (slot : ℕ) → gives c slot (c.active.slots slot) ≡ Running (advanced c)
  itself_same slot = ap (λ (slots : Words). Running (advanced (with_slots c slots))) (fun_ext (λ (number : ℕ).
      cond_both (number == slot) (c.active.slots slot) (c.active.slots number) (λ w. w ≡ c.active.slots number)
      (λ same. ap c.active.slots (sym (eqb-true number slot same))) (λ apart. refl)))

  branched_same : (comparison : Comparison) (left right : Operand) (target : ℕ)
      → performed program choice c (simplified_instruction facts (instructions.Branch comparison left right target))
      ≡ performed program choice c (instructions.Branch comparison left right target)
  branched_same comparison left right target =
      go (decision_in facts comparison (other left) (other right)) (decision_in_right (scene_of program c) facts comparison (other left) (other right) holds)
    where
      go : (o : Option Bool) → IsDecidedRight (scene_of program c) comparison (other left) (other right) o
          → performed program choice c (simplified_branch o comparison (other left) (other right) target)
          ≡ performed program choice c (instructions.Branch comparison left right target)
      go None nothing = ap (λ (b : Bool). branches c b target) (branch_same comparison left right)
      go (Some true) right_so = ap (λ (b : Bool). branches c b target) (sym right_so ∙ branch_same comparison left right)
      go (Some false) right_so =
          passed_either (λ (i : Instruction). performed program choice c i ≡ branches c false target) (other left) (other right) target itself_same refl
          ∙ ap (λ (b : Bool). branches c b target) (sym right_so ∙ branch_same comparison left right)

  -- A load of a known word has the effect of a move.
  loaded_same : (destination : ℕ) (address : Operand) (offset : ℕ)
      → performed program choice c (simplified_load (value_in facts (other address) offset) destination (other address) offset)
      ≡ performed program choice c (instructions.Load destination address offset)
  loaded_same destination address offset = go (value_in facts (other address) offset) (value_in_true (scene_of program c) facts (other address) offset holds)
    where
      go : (o : Option Operand) → IsFound (scene_of program c) (other address) offset o
          → performed program choice c (simplified_load o destination (other address) offset) ≡ performed program choice c (instructions.Load destination address offset)
      go (Some value) is = sym (ap (loads c destination) is) ∙ ap (λ (w : ℕ). loads c destination (memory_at program c (add_of w offset))) (same address)
      go None nothing = ap (λ (w : ℕ). loads c destination (memory_at program c (add_of w offset))) (same address)

  -- A load of a global whose word is known has the effect of a move.
  global_same : (destination global : ℕ) → performed program choice c (simplified_instruction facts (instructions.LoadGlobal destination global))
      ≡ performed program choice c (instructions.LoadGlobal destination global)
  global_same destination global = by_offset (global_offset global) refl
    where
      by_value : (offset : ℕ) → global_offset global ≡ Some offset → (o : Option Operand) → IsFound (scene_of program c) first_global offset o
          → performed program choice c (simplified_global o destination global) ≡ performed program choice c (instructions.LoadGlobal destination global)
      by_value offset at (Some value) is = ap (gives c destination) (global_found program c global offset (word value) at is)
      by_value offset at None nothing = refl

      by_offset : (o : Option ℕ) → global_offset global ≡ o
          → performed program choice c (simplified_global (global_value facts o) destination global) ≡ performed program choice c (instructions.LoadGlobal destination global)
      by_offset (Some offset) at = by_value offset at (value_in facts first_global offset) (value_in_true (scene_of program c) facts first_global offset holds)
      by_offset None at = refl

  asked_same : (request : Request) → performed program choice c (simplified_instruction facts (instructions.Ask request)) ≡ performed program choice c (instructions.Ask request)
  asked_same request =
      ap (λ (call : Call). asks choice.serving c (destination_of (simplified_request facts request)) call (refusal c.store call)) (call_same (scene_of program c) facts holds request)
      ∙ ap (λ (d : ℕ). asks choice.serving c d (call_in c.active.slots request) (refusal c.store (call_in c.active.slots request))) (destination_same facts request)

  pub performs_same : (i : Instruction) → performed program choice c (simplified_instruction facts i) ≡ performed program choice c i
  performs_same (instructions.Move destination source) = moved_same destination source
  performs_same (instructions.Unary operator destination operand) = unary_same operator destination operand
  performs_same (instructions.Binary operator destination left right) = computed_same operator destination left right
  performs_same (instructions.Branch comparison left right target) = branched_same comparison left right target
  performs_same (instructions.WriteByte source) = ap (λ (w : ℕ). Running (advanced (record c { output = c.output ++ w % 256 ∷ [] }))) (same source)
  performs_same (instructions.LoadGlobal destination global) = global_same destination global
  performs_same (instructions.StoreGlobal global source) = ap (λ (w : ℕ). Running (advanced (record c { globals = put c.globals global w }))) (same source)
  performs_same (instructions.Load destination address offset) = loaded_same destination address offset
  performs_same (instructions.Store address offset source) =
      ap (λ (w : ℕ). saves program c (add_of w offset) (word (other source)) (memory_at program c (add_of w offset))) (same address)
      ∙ ap (λ (w : ℕ). saves program c (add_of (word address) offset) w (memory_at program c (add_of (word address) offset))) (same source)
  performs_same (instructions.LoadByte destination address offset) =
      ap (λ (w : ℕ). loads_byte c destination (add_of w offset) (memory_at program c (word_of (add_of w offset)))) (same address)
  performs_same (instructions.StoreByte address offset source) =
      ap (λ (w : ℕ). saves_byte program c (add_of w offset) (word (other source) % 256) (memory_at program c (word_of (add_of w offset)))) (same address)
      ∙ ap (λ (w : ℕ). saves_byte program c (add_of (word address) offset) (w % 256) (memory_at program c (word_of (add_of (word address) offset)))) (same source)
  performs_same (instructions.Ask request) = asked_same request
  performs_same (instructions.Throw tag value) =
      ap (λ (w : ℕ). throws c w (word (other value)) c.active c.frames) (same tag) ∙ ap (λ (w : ℕ). throws c (word tag) w c.active c.frames) (same value)
  performs_same (instructions.Uncaught tag value) = ap (λ (w : ℕ). Ended (Uncaught tag (signed w)) c.output c.input) (same value)
  performs_same i = refl

-- ---- properties of choices

-- The replacement calls the function that the original instruction calls.
pub callee_same : (facts : List Fact) (i : Instruction) → callee_of (Some (simplified_instruction facts i)) ≡ callee_of (Some i)
callee_same facts (instructions.Move destination source) = go (is_known facts (facts_are.Equal destination (simplified_operand facts source)))
  where
    go : (b : Bool) → callee_of (Some (simplified_move b destination (simplified_operand facts source))) ≡ None
    go true = refl
    go false = refl
callee_same facts (instructions.Binary operator destination left right) = go (folded_at facts operator destination (simplified_operand facts left) (right_operand facts operator (simplified_operand facts right))) (holder_in facts operator (simplified_operand facts left) (right_operand facts operator (simplified_operand facts right)))
  where
    go : (f o : Option ℕ) → callee_of (Some (simplified_binary f o operator destination (simplified_operand facts left) (right_operand facts operator (simplified_operand facts right)))) ≡ None
    go (Some word) o = refl
    go None (Some slot) = refl
    go None None = refl
callee_same facts (instructions.Branch comparison left right target) = go (decision_in facts comparison (simplified_operand facts left) (simplified_operand facts right))
  where
    go : (o : Option Bool) → callee_of (Some (simplified_branch o comparison (simplified_operand facts left) (simplified_operand facts right) target)) ≡ None
    go (Some true) = refl
    go (Some false) = passed_either (λ (i : Instruction). callee_of (Some i) ≡ None) (simplified_operand facts left) (simplified_operand facts right) target (λ slot. refl) refl
    go None = refl
callee_same facts (instructions.Load destination address offset) = go (value_in facts (simplified_operand facts address) offset)
  where
    go : (o : Option Operand) → callee_of (Some (simplified_load o destination (simplified_operand facts address) offset)) ≡ None
    go (Some value) = refl
    go None = refl
callee_same facts (instructions.Unary operator destination operand) = go (folded_unary facts operator (simplified_operand facts operand))
  where
    go : (o : Option ℕ) → callee_of (Some (simplified_unary o operator destination (simplified_operand facts operand))) ≡ None
    go (Some word) = refl
    go None = refl
callee_same facts (instructions.LoadGlobal destination global) = go (global_value facts (global_offset global))
  where
    go : (o : Option Operand) → callee_of (Some (simplified_global o destination global)) ≡ None
    go (Some value) = refl
    go None = refl
callee_same facts i = refl

-- A replacement allows the same number of active calls as the instruction that it replaces.
pub limit_same : (calls : ℕ) (facts : List Fact) (i : Instruction) → limit_of (Some (simplified_instruction facts i)) calls ≡ limit_of (Some i) calls
limit_same calls facts (instructions.Move destination source) = go (is_known facts (facts_are.Equal destination (simplified_operand facts source)))
  where
    go : (b : Bool) → limit_of (Some (simplified_move b destination (simplified_operand facts source))) calls ≡ calls
    go true = refl
    go false = refl
limit_same calls facts (instructions.Binary operator destination left right) = go (folded_at facts operator destination (simplified_operand facts left) (right_operand facts operator (simplified_operand facts right))) (holder_in facts operator (simplified_operand facts left) (right_operand facts operator (simplified_operand facts right)))
  where
    go : (f o : Option ℕ) → limit_of (Some (simplified_binary f o operator destination (simplified_operand facts left) (right_operand facts operator (simplified_operand facts right)))) calls ≡ calls
    go (Some word) o = refl
    go None (Some slot) = refl
    go None None = refl
limit_same calls facts (instructions.Branch comparison left right target) = go (decision_in facts comparison (simplified_operand facts left) (simplified_operand facts right))
  where
    go : (o : Option Bool) → limit_of (Some (simplified_branch o comparison (simplified_operand facts left) (simplified_operand facts right) target)) calls ≡ calls
    go (Some true) = refl
    go (Some false) = passed_either (λ (i : Instruction). limit_of (Some i) calls ≡ calls) (simplified_operand facts left) (simplified_operand facts right) target (λ slot. refl) refl
    go None = refl
limit_same calls facts (instructions.Load destination address offset) = go (value_in facts (simplified_operand facts address) offset)
  where
    go : (o : Option Operand) → limit_of (Some (simplified_load o destination (simplified_operand facts address) offset)) calls ≡ calls
    go (Some value) = refl
    go None = refl
limit_same calls facts (instructions.Unary operator destination operand) = go (folded_unary facts operator (simplified_operand facts operand))
  where
    go : (o : Option ℕ) → limit_of (Some (simplified_unary o operator destination (simplified_operand facts operand))) calls ≡ calls
    go (Some word) = refl
    go None = refl
limit_same calls facts (instructions.LoadGlobal destination global) = go (global_value facts (global_offset global))
  where
    go : (o : Option Operand) → limit_of (Some (simplified_global o destination global)) calls ≡ calls
    go (Some value) = refl
    go None = refl
limit_same calls facts i = refl

-- The replacement makes the request to the store that the original instruction makes.
pub request_same : (scene : Scene) (facts : List Fact) → AreTrueIn scene facts → (i : Instruction) → call_of scene.slots (Some (simplified_instruction facts i)) ≡ call_of scene.slots (Some i)
request_same scene facts holds (instructions.Move destination source) = go (is_known facts (facts_are.Equal destination (simplified_operand facts source)))
  where
    go : (b : Bool) → call_of scene.slots (Some (simplified_move b destination (simplified_operand facts source))) ≡ None
    go true = refl
    go false = refl
request_same scene facts holds (instructions.Binary operator destination left right) = go (folded_at facts operator destination (simplified_operand facts left) (right_operand facts operator (simplified_operand facts right))) (holder_in facts operator (simplified_operand facts left) (right_operand facts operator (simplified_operand facts right)))
  where
    go : (f o : Option ℕ) → call_of scene.slots (Some (simplified_binary f o operator destination (simplified_operand facts left) (right_operand facts operator (simplified_operand facts right)))) ≡ None
    go (Some word) o = refl
    go None (Some slot) = refl
    go None None = refl
request_same scene facts holds (instructions.Branch comparison left right target) = go (decision_in facts comparison (simplified_operand facts left) (simplified_operand facts right))
  where
    go : (o : Option Bool) → call_of scene.slots (Some (simplified_branch o comparison (simplified_operand facts left) (simplified_operand facts right) target)) ≡ None
    go (Some true) = refl
    go (Some false) = passed_either (λ (i : Instruction). call_of scene.slots (Some i) ≡ None) (simplified_operand facts left) (simplified_operand facts right) target (λ slot. refl) refl
    go None = refl
request_same scene facts holds (instructions.Ask request) = ap Some (call_same scene facts holds request)
request_same scene facts holds (instructions.Load destination address offset) = go (value_in facts (simplified_operand facts address) offset)
  where
    go : (o : Option Operand) → call_of scene.slots (Some (simplified_load o destination (simplified_operand facts address) offset)) ≡ None
    go (Some value) = refl
    go None = refl
request_same scene facts holds (instructions.Unary operator destination operand) = go (folded_unary facts operator (simplified_operand facts operand))
  where
    go : (o : Option ℕ) → call_of scene.slots (Some (simplified_unary o operator destination (simplified_operand facts operand))) ≡ None
    go (Some word) = refl
    go None = refl
request_same scene facts holds (instructions.LoadGlobal destination global) = go (global_value facts (global_offset global))
  where
    go : (o : Option Operand) → call_of scene.slots (Some (simplified_global o destination global)) ≡ None
    go (Some value) = refl
    go None = refl
request_same scene facts holds i = refl
