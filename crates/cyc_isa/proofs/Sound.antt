-- If a word decodes to an instruction, the instruction encodes to the word, and its operands fit their fields.
use Rattle.std.proofs.Common.{◌≡◌, ℕ, ◌^◌, ◌<◌, ◌==◌, true, false, List, [], ◌∷◌, Option, Some, None, option_and_then, IsSome, ◌↔◌, if◌then◌else◌, lit<, refl, subst}
use Rattle.std.proofs.Math.Nat.{mod-lt}
use Rattle.std.proofs.lemmas.Bool.{eqb-true, eq-eqb, ne_eqb}
use Rattle.cyc_isa.specs.Field.{Opcode, Rt, Function, Half, field_of}
use Rattle.cyc_isa.specs.Encoding.{word_of, IsEncodable, IsInstruction}
use Rattle.cyc_isa.specs.Decoding.{Entry, opcodes, sign_branches, functions, entry_at, selected_of, decode_of}
use Rattle.cyc_isa.proofs.Instances.{Decodes-from_instruction}
use Rattle.cyc_isa.proofs.Listed.{IsInstruction-word_of}
use Rattle.cyc_isa.specs.declared.instr.Instr.{Instr}

-- Says that each entry of a decoding table yields an instruction whose operands fit their fields.
abbrev AllEncodable : List Entry → ℕ → Type 0
AllEncodable [] w = Unit {0}
AllEncodable (e ∷ rest) w = IsEncodable (e.1 w) × AllEncodable rest w

entry_at-encodable : (entries : List Entry) (n w : ℕ) (i : Instr) → AllEncodable entries w → entry_at entries n w ≡ Some i → IsEncodable i
entry_at-encodable [] n w i all e = cc
entry_at-encodable (x ∷ rest) n w i all e =
    (elim (x.0 == n) as (λ b. (if b then Some (x.1 w) else entry_at rest n w) ≡ Some i → IsEncodable i) [
      | true ↦ λ is. let same : x.1 w ≡ i = cc in subst (λ j. IsEncodable j) same all.0
      | false ↦ λ is. entry_at-encodable rest n w i all.1 is
    ]) e

half_fits : (w : ℕ) → field_of Half w < 2 ^ 16
half_fits w = mod-lt _ (lit< tt)

functions-encodable : (w : ℕ) → AllEncodable functions w
functions-encodable w = (tt, (tt, (tt, (tt, (tt, (tt, (tt, (tt, (tt, (tt, (tt, (tt, (tt, (tt, (tt, (tt, (tt, (tt, (tt, (tt, (tt, (tt, tt))))))))))))))))))))))

sign_branches-encodable : (w : ℕ) → AllEncodable sign_branches w
sign_branches-encodable w = let h = half_fits w in (h, (h, tt))

opcodes-encodable : (w : ℕ) → AllEncodable opcodes w
opcodes-encodable w = let h = half_fits w in
    (h, (h, (h, (h, (h, (h, (h, (h, (h, (h, (h, (h, (h, (h, (h, (tt, (tt, tt)))))))))))))))))

selected_of-encodable : (w : ℕ) (i : Instr) → selected_of w ≡ Some i → IsEncodable i
selected_of-encodable w i e =
    (elim (field_of Opcode w == 0) as (λ b. (if b then entry_at functions (field_of Function w) w
    else (if field_of Opcode w == 1 then entry_at sign_branches (field_of Rt w) w else entry_at opcodes (field_of Opcode w) w)) ≡ Some i → IsEncodable i) [
      | true ↦ λ is. entry_at-encodable functions (field_of Function w) w i (functions-encodable w) is
      | false ↦ elim (field_of Opcode w == 1) as (λ b. (if b then entry_at sign_branches (field_of Rt w) w else entry_at opcodes (field_of Opcode w) w) ≡ Some i → IsEncodable i) [
        | true ↦ λ is. entry_at-encodable sign_branches (field_of Rt w) w i (sign_branches-encodable w) is
        | false ↦ λ is. entry_at-encodable opcodes (field_of Opcode w) w i (opcodes-encodable w) is
      ]
    ]) e

-- The last check of `decode_of`: the selected instruction must encode to the word.
abbrev confirmed : ℕ → Option Instr → Option Instr
confirmed w o = option_and_then (λ i. if word_of i == w then Some i else None) o

confirmed-some : (w : ℕ) (o : Option Instr) (i : Instr) → confirmed w o ≡ Some i → (o ≡ Some i) × (word_of i ≡ w)
confirmed-some w None i e = cc
confirmed-some w (Some j) i e =
    (elim (word_of j == w) as (λ b. (word_of j == w) ≡ b → (if b then Some j else None) ≡ Some i → (Some j ≡ Some i) × (word_of i ≡ w)) [
      | true ↦ λ same is. let k : j ≡ i = cc in (is, subst (λ m. word_of m ≡ w) k (eqb-true (word_of j) w same))
      | false ↦ λ same is. cc
    ]) refl e

pub word_of-decoded : (w : ℕ) (i : Instr) → decode_of w ≡ Some i → word_of i ≡ w
word_of-decoded w i e = (confirmed-some w (selected_of w) i e).1

pub IsEncodable-decoded : (w : ℕ) (i : Instr) → decode_of w ≡ Some i → IsEncodable i
IsEncodable-decoded w i e = selected_of-encodable w i (confirmed-some w (selected_of w) i e).0

-- A word decodes to an instruction exactly if it matches a row of the instruction table in the row's fixed fields.
pub IsSome-decode_of : (w : ℕ) → IsSome (decode_of w) ↔ IsInstruction w
IsSome-decode_of w = (go (decode_of w) refl, λ h. let found = Decodes-from_instruction w h in rw found.1 refl) where
  go : (o : Option Instr) → decode_of w ≡ o → IsSome o → IsInstruction w
  go None e h = cc
  go (Some i) e h = rw (← word_of-decoded w i e) (IsInstruction-word_of i (IsEncodable-decoded w i e))

-- ---- the selected instruction is the only one of its word

pub decode_of-same : (w : ℕ) (i : Instr) → selected_of w ≡ Some i → word_of i ≡ w → decode_of w ≡ Some i
decode_of-same w i e same = rw (e, eq-eqb (word_of i) w same)

pub decode_of-other : (w : ℕ) (i : Instr) → selected_of w ≡ Some i → (word_of i ≡ w → ⊥) → decode_of w ≡ None
decode_of-other w i e other = rw (e, ne_eqb (word_of i) w other)

pub decode_of-unselected : (w : ℕ) → selected_of w ≡ None → decode_of w ≡ None
decode_of-unselected w e = rw e

-- ---- the clauses of a decoder from its value

pub instruction-from_value : (w : ℕ) (o : Option Instr) → o ≡ decode_of w → IsSome o ↔ IsInstruction w
instruction-from_value w o e = rw e (IsSome-decode_of w)
