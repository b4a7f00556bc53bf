-- The numbers in an instruction that replaces an instruction of the program fit machine words.
use Rattle.std.proofs.Common.{◌≡◌, ℕ, ◌^◌, Bool, true, false, List, [], ◌∷◌, Option, Some, None, arith}
use Rattle.std.specs.Prelude.{nat_lt}
use Rattle.std.proofs.lemmas.Bool.{and_parts, cond_both, ltb-true}
use Rattle.cyc_words.specs.Word.{IsWord}
use Rattle.cyc_plain.specs.declared.instruction.Instruction.{Instruction}
use Rattle.cyc_plain.specs.declared.instruction.Instruction.TheVariants as instructions
use Rattle.cyc_plain.specs.declared.instruction.Operand.{Operand}
use Rattle.cyc_plain.specs.declared.instruction.Operand.TheVariants as operands
use Rattle.cyc_plain.specs.declared.instruction.Request.{Request}
use Rattle.cyc_plain.specs.declared.instruction.Request.TheVariants as requests
use Rattle.cyc_plain.specs.declared.instruction.UnaryOperator.{UnaryOperator}
use Rattle.cyc_plain.specs.declared.instruction.BinaryOperator.{BinaryOperator}
use Rattle.cyc_plain.specs.declared.instruction.BinaryOperator.TheVariants as binary
use Rattle.cyc_plain.specs.inside.Requests.{first_operand, second_operand}
use Rattle.cyc_plain.specs.inside.WellFormed.{IsOfWord, IsArgumentOfWord, HasWord}
use Rattle.cyc_plain.proofs.WordLaws.{IsWord-unary_result, IsWord-binary_result}
use Rattle.cyc_plain.specs.inside.Uses.{is_slot}
use Rattle.cyc_propagation.specs.declared.fact.Fact.{Fact}
use Rattle.cyc_propagation.specs.declared.fact.Fact.TheVariants as facts_are
use Rattle.cyc_propagation.specs.inside.Facts.{is_known, global_offset, is_free, suits_operand, suits, are_suited}
use Rattle.cyc_propagation.specs.inside.Replacement.{simplified_operand, or_number, word_by, word_in, takes_word, small_or, right_operand, folded, folded_of, folded_in, negated_of, folded_unary, simplified_unary, may_fold}
use Rattle.cyc_propagation.specs.inside.Replacement.{folded_at, holder_in, simplified_binary, simplified_move, decision_in, simplified_branch, value_in, simplified_load, global_value, simplified_global, simplified_request, simplified_instruction}
use Rattle.cyc_propagation.proofs.Same.{passed_either}
use Rattle.cyc_propagation.proofs.Suited.{operand_has, SuitsIfAny, value_in_suits, global_suits}

word_suits : (pinned : List Bool) (operand : Operand) → suits_operand pinned operand ≡ true → IsOfWord operand
word_suits pinned (operands.Slot number) suits = tt
word_suits pinned (operands.Word word) suits = ltb-true word (2 ^ 32) suits

-- If a fact states a constant as a value, this constant fits a machine word.
module _ (pinned : List Bool) where
  abbrev IsWordIfAny : Option ℕ → Type 0
  IsWordIfAny (Some word) = IsWord word
  IsWordIfAny None = Unit {0}

  word_known : (fact : Fact) (operand : Operand) → suits pinned fact ≡ true → IsWordIfAny (word_by fact operand)
  word_known (facts_are.Equal slot (operands.Slot other)) operand suits = tt
  word_known (facts_are.Equal slot (operands.Word word)) operand suits =
      cond_both (is_slot operand slot) (Some word) None IsWordIfAny
      (λ is. ltb-true word (2 ^ 32) (and_parts (is_free pinned slot) (nat_lt word (2 ^ 32)) suits).1) (λ is. tt)
  word_known (facts_are.Computed slot operator left right) operand suits = tt
  word_known (facts_are.Holds comparison left right) operand suits = tt
  word_known (facts_are.Held address offset value) operand suits = tt

  word_in_known : (facts : List Fact) (operand : Operand) → are_suited pinned facts ≡ true → IsOfWord operand → IsWordIfAny (word_in facts operand)
  word_in_known [] (operands.Slot number) all is = tt
  word_in_known [] (operands.Word word) all is = is
  word_in_known (fact ∷ facts) operand all is =
      let (first, rest) = and_parts (suits pinned fact) (are_suited pinned facts) all in
      go (word_by fact operand) (word_known fact operand first) (word_in_known facts operand rest is)
    where
      go : (one : Option ℕ) → IsWordIfAny one → IsWordIfAny (word_in facts operand) → IsWordIfAny (or_number one (word_in facts operand))
      go (Some word) is others = is
      go None is others = others

  second_of_word : (facts : List Fact) (operator : BinaryOperator) (operand : Operand) → are_suited pinned facts ≡ true → IsOfWord operand → IsOfWord (right_operand facts operator operand)
  second_of_word facts operator operand all is =
      cond_both (takes_word operator) (small_or (word_in facts operand) operand) operand IsOfWord (λ takes. go (word_in facts operand) (word_in_known facts operand all is)) (λ not_taken. is)
    where
      go : (o : Option ℕ) → IsWordIfAny o → IsOfWord (small_or o operand)
      go None known = is
      go (Some word) known = cond_both (nat_lt word 32768) (operands.Word word) operand IsOfWord (λ small. known) (λ large. is)

  folded_known : (facts : List Fact) (operator : BinaryOperator) (left right : Operand) → are_suited pinned facts ≡ true → IsOfWord left → IsOfWord right
      → IsWordIfAny (folded_in facts operator left right)
  folded_known [] operator left right all one other = tt
  folded_known (fact ∷ facts) operator left right all one other =
      go (word_in (fact ∷ facts) left) (word_in (fact ∷ facts) right) (word_in_known (fact ∷ facts) left all one) (word_in_known (fact ∷ facts) right all other)
    where
      by_operator : (operator : BinaryOperator) (a b : ℕ) → IsWord a → IsWord b → IsWordIfAny (folded operator a b)
      by_operator binary.Add a b v w = IsWord-binary_result binary.Add a b v w
      by_operator binary.Subtract a b v w = IsWord-binary_result binary.Subtract a b v w
      by_operator binary.Multiply a b v w = IsWord-binary_result binary.Multiply a b v w
      by_operator binary.And a b v w = IsWord-binary_result binary.And a b v w
      by_operator binary.Or a b v w = IsWord-binary_result binary.Or a b v w
      by_operator binary.Xor a b v w = IsWord-binary_result binary.Xor a b v w
      by_operator binary.ShiftLeft a b v w = IsWord-binary_result binary.ShiftLeft a b v w
      by_operator binary.ShiftRight a b v w = IsWord-binary_result binary.ShiftRight a b v w
      by_operator operator a b v w = tt

      go : (x y : Option ℕ) → IsWordIfAny x → IsWordIfAny y → IsWordIfAny (folded_of operator x y)
      go (Some a) (Some b) v w = by_operator operator a b v w
      go None (Some b) v w = tt
      go (Some a) None v w = tt
      go None None v w = tt

  unary_known : (facts : List Fact) (operator : UnaryOperator) (operand : Operand) → are_suited pinned facts ≡ true → IsOfWord operand
      → IsWordIfAny (folded_unary facts operator operand)
  unary_known [] operator operand all is = tt
  unary_known (fact ∷ facts) operator operand all is = go (word_in (fact ∷ facts) operand) (word_in_known (fact ∷ facts) operand all is)
    where
      go : (o : Option ℕ) → IsWordIfAny o → IsWordIfAny (negated_of operator o)
      go (Some word) w = IsWord-unary_result operator word w
      go None w = tt

  fold_known : (facts : List Fact) (operator : BinaryOperator) (destination : ℕ) (left right : Operand) → are_suited pinned facts ≡ true → IsOfWord left → IsOfWord right
      → IsWordIfAny (folded_at facts operator destination left right)
  fold_known facts operator destination left right all one other =
      cond_both (may_fold destination left right) (folded_in facts operator left right) None IsWordIfAny (λ may. folded_known facts operator left right all one other) (λ stays. tt)

-- If the numbers in an instruction fit machine words, so do the numbers in the simplified instruction.
module _ (pinned : List Bool) (facts : List Fact) (all : are_suited pinned facts ≡ true) where
  of_word : (operand : Operand) → IsOfWord operand → IsOfWord (simplified_operand facts operand)
  of_word operand is = operand_has pinned IsOfWord (word_suits pinned) facts operand all is

  request_words : (request : Request) → IsArgumentOfWord (first_operand request) × IsArgumentOfWord (second_operand request)
      → IsArgumentOfWord (first_operand (simplified_request facts request)) × IsArgumentOfWord (second_operand (simplified_request facts request))
  request_words (requests.OpenLexical destination) has = has
  request_words (requests.CloseTo mark) (first, second) = (of_word mark first, second)
  request_words (requests.OpenDynamic destination) has = has
  request_words (requests.CloseDynamic handle) (first, second) = (of_word handle first, second)
  request_words (requests.Allocate destination handle words) (first, second) = (of_word handle first, of_word words second)
  request_words (requests.Free address) (first, second) = (of_word address first, second)

  pub has_word : (i : Instruction) → HasWord i → HasWord (simplified_instruction facts i)
  has_word (instructions.Move destination source) has = go (is_known facts (facts_are.Equal destination (simplified_operand facts source)))
    where
      go : (b : Bool) → HasWord (simplified_move b destination (simplified_operand facts source))
      go true = tt
      go false = of_word source has
  has_word (instructions.Unary operator destination operand) has =
      go (folded_unary facts operator (simplified_operand facts operand)) (unary_known pinned facts operator (simplified_operand facts operand) all (of_word operand has))
    where
      go : (o : Option ℕ) → IsWordIfAny pinned o → HasWord (simplified_unary o operator destination (simplified_operand facts operand))
      go (Some word) known = known
      go None known = of_word operand has
  has_word (instructions.Binary operator destination left right) (first, second) =
      go (folded_at facts operator destination (simplified_operand facts left) (right_operand facts operator (simplified_operand facts right))) (holder_in facts operator (simplified_operand facts left) (right_operand facts operator (simplified_operand facts right)))
      (fold_known pinned facts operator destination (simplified_operand facts left) (right_operand facts operator (simplified_operand facts right)) all (of_word left first) (second_of_word pinned facts operator (simplified_operand facts right) all (of_word right second)))
    where
      go : (f o : Option ℕ) → IsWordIfAny pinned f → HasWord (simplified_binary f o operator destination (simplified_operand facts left) (right_operand facts operator (simplified_operand facts right)))
      go (Some word) o known = known
      go None (Some slot) known = tt
      go None None known = (of_word left first, second_of_word pinned facts operator (simplified_operand facts right) all (of_word right second))
  has_word (instructions.Branch comparison left right target) (first, second) = go (decision_in facts comparison (simplified_operand facts left) (simplified_operand facts right))
    where
      zero_word : IsWord 0
      zero_word = omega arith

      go : (o : Option Bool) → HasWord (simplified_branch o comparison (simplified_operand facts left) (simplified_operand facts right) target)
      go (Some true) = tt
      go (Some false) = passed_either HasWord (simplified_operand facts left) (simplified_operand facts right) target (λ slot. tt) (zero_word, zero_word)
      go None = (of_word left first, of_word right second)
  has_word (instructions.WriteByte source) has = of_word source has
  has_word (instructions.LoadGlobal destination global) has =
      go (global_value facts (global_offset global)) (global_suits pinned facts (global_offset global) all)
    where
      go : (o : Option Operand) → SuitsIfAny pinned o → HasWord (simplified_global o destination global)
      go (Some value) is = word_suits pinned value is
      go None is = tt
  has_word (instructions.StoreGlobal global source) has = of_word source has
  has_word (instructions.Load destination address offset) (first, second) =
      go (value_in facts (simplified_operand facts address) offset) (value_in_suits pinned facts (simplified_operand facts address) offset all)
    where
      go : (o : Option Operand) → SuitsIfAny pinned o → HasWord (simplified_load o destination (simplified_operand facts address) offset)
      go (Some value) is = word_suits pinned value is
      go None is = (of_word address first, second)
  has_word (instructions.Store address offset source) (first, second, third) = (of_word address first, second, of_word source third)
  has_word (instructions.LoadByte destination address offset) (first, second) = (of_word address first, second)
  has_word (instructions.StoreByte address offset source) (first, second, third) = (of_word address first, second, of_word source third)
  has_word (instructions.Ask request) has = request_words request has
  has_word (instructions.Throw tag value) (first, second) = (of_word tag first, of_word value second)
  has_word (instructions.Uncaught tag value) (first, second) = (first, of_word value second)
  has_word i has = has
