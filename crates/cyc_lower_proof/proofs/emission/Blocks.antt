-- A function's body is followed by the blocks that raise exceptions, up to the last block that is a jump target.
use Rattle.std.proofs.Common.{◌≡◌, ℕ, zero, suc, ◌+◌, ◌-◌, ◌≤◌, ◌<◌, List, [], ◌∷◌, ◌++◌, length, take, refl, ap, subst, ◌∙◌, arith, append_assoc}
use Rattle.std.specs.Prelude.{min}
use Rattle.std.proofs.lemmas.Option.{same_Some, none-some}
use Rattle.cyc_plain.specs.declared.instruction.Instruction.{Instruction}
use Rattle.cyc_plain.specs.declared.instruction.Instruction.TheVariants as instructions
use Rattle.cyc_plain.specs.declared.instruction.BinaryOperator.TheVariants as plain_binary
use Rattle.cyc_plain.specs.declared.instruction.Operand.TheVariants as operands
use Rattle.cyc_plain.specs.inside.Straight.{At, HasAt}
use Rattle.cyc_plain.proofs.Straight.{has_back, has_whole}
use Rattle.cyc_meaning.specs.Operators.{null_exception}
use Rattle.cyc_lower_proof.specs.inside.ValueCode.{raising, telling, blocks}
use Rattle.cyc_lower_proof.specs.inside.Lowering.{target_of, farthest, blocks_kept, with_blocks, finished_code}

-- ---- the blocks of the definition

blocks_taken : (slot n : ℕ) → take (blocks_kept (min n 6)) (blocks slot) ≡ take (blocks_kept n) (blocks slot)
blocks_taken slot zero = refl
blocks_taken slot (suc zero) = refl
blocks_taken slot (suc (suc zero)) = refl
blocks_taken slot (suc (suc (suc zero))) = refl
blocks_taken slot (suc (suc (suc (suc zero)))) = refl
blocks_taken slot (suc (suc (suc (suc (suc zero))))) = refl
blocks_taken slot (suc (suc (suc (suc (suc (suc zero)))))) = refl
blocks_taken slot (suc (suc (suc (suc (suc (suc (suc n))))))) =
    ap (λ (m : ℕ). take (blocks_kept m) (blocks slot)) (let e : min (suc (suc (suc (suc (suc (suc (suc n))))))) 6 ≡ 6 = omega arith in e)

taken_after : (old more : List Instruction) (n : ℕ) → take (length old + n) (old ++ more) ≡ old ++ take n more
taken_after [] more n = ap (λ (m : ℕ). take m more) (let e : 0 + n ≡ n = omega arith in e)
taken_after (i ∷ old) more n =
    ap (λ (m : ℕ). take m (i ∷ (old ++ more))) (let e : suc (length old) + n ≡ suc (length old + n) = omega arith in e) ∙ ap (λ (l : List Instruction). i ∷ l) (taken_after old more n)

-- All blocks that raise exceptions are emitted after a function's body, and those after the last one that is a jump target are removed
-- again.
pub some_blocks : (body ended all code : List Instruction) (slot count kept end : ℕ) → ended ≡ body ++ instructions.Finish slot ∷ [] → all ≡ ended ++ blocks slot → kept ≡ blocks_kept (min count 6) → end ≡ length ended + kept → code ≡ take end all
    → code ≡ with_blocks body slot (blocks_kept count)
some_blocks body ended all code slot count kept end ended_is all_is kept_is end_is code_is =
    code_is
    ∙ ap (λ (n : ℕ). take n all) (end_is ∙ ap (λ (n : ℕ). length ended + n) kept_is)
    ∙ ap (λ (l : List Instruction). take (length ended + blocks_kept (min count 6)) l) all_is
    ∙ taken_after ended (blocks slot) (blocks_kept (min count 6))
    ∙ ap (λ (l : List Instruction). ended ++ l) (blocks_taken slot count)
    ∙ ap (λ (l : List Instruction). l ++ take (blocks_kept count) (blocks slot)) ended_is
    ∙ append_assoc body (instructions.Finish slot ∷ []) (take (blocks_kept count) (blocks slot))

-- ---- jumps to blocks

target_least : (code : List Instruction) (p : ℕ) (i : Instruction) → At code p i → target_of i ≤ farthest code
target_least [] p i there = absurd (none-some i there)
target_least (j ∷ code) zero i there = let e = ap target_of (same_Some j i there) in omega (arith, e)
target_least (j ∷ code) (suc p) i there = omega (arith, target_least code p i there)

-- The blocks that raise exceptions contain no jumps.
module _ (slot n : ℕ) where
  abbrev end : List Instruction
  end = instructions.Finish slot ∷ take n (blocks slot)

  end_leads : (m : ℕ) → farthest (take m (blocks slot)) ≡ 0
  end_leads zero = refl
  end_leads (suc zero) = refl
  end_leads (suc (suc zero)) = refl
  end_leads (suc (suc (suc zero))) = refl
  end_leads (suc (suc (suc (suc zero)))) = refl
  end_leads (suc (suc (suc (suc (suc zero))))) = refl
  end_leads (suc (suc (suc (suc (suc (suc zero)))))) = refl
  end_leads (suc (suc (suc (suc (suc (suc (suc m))))))) = refl

  body_leads : (body : List Instruction) → farthest (body ++ end) ≤ farthest body
  body_leads [] = let e = end_leads n in omega (arith, e)
  body_leads (i ∷ body) = let e = body_leads body in omega (arith, e)

  -- An instruction that jumps comes before the blocks that raise exceptions.
  leads_before : (body : List Instruction) (p : ℕ) (i : Instruction) → At (body ++ end) p i → 1 ≤ target_of i → p < length body
  leads_before [] p i there some = let e = end_leads n in absurd (omega (arith, e, some, target_least end p i there))
  leads_before (j ∷ body) zero i there some = omega arith
  leads_before (j ∷ body) (suc p) i there some = omega (arith, leads_before body p i there some)

-- Each jump to the position of a block that raises an exception reaches that block. Each such jump comes before the
-- blocks that raise exceptions.
pub record BlocksStand (code : List Instruction) (raises slot : ℕ) : Type 0 where
  pub each : (p tag : ℕ) (i : Instruction) → 1 ≤ tag → tag ≤ 4 → At code p i → target_of i ≡ raises + 2 + tag → At code (raises + 2 + tag) (raising tag)
  pub reported : (p : ℕ) (i : Instruction) → At code p i → target_of i ≡ raises + 1 → HasAt code (raises + 1) (telling slot)
  pub within : (p : ℕ) (i : Instruction) → At code p i → 1 ≤ target_of i → p < raises

-- The instruction with index `number` in the blocks that raise exceptions is in the function's code
-- if more than `number` instructions of these blocks remain there.
block_there : (code : List Instruction) (p slot n number : ℕ) (i : Instruction) → HasAt code p (take n (blocks slot)) → number < n → At (blocks slot) number i → At code (p + number) i
block_there code p slot n number i has some is = taken_there (blocks slot) p n number has some is
  where
    taken_there : (some : List Instruction) (p n number : ℕ) → HasAt code p (take n some) → number < n → At some number i → At code (p + number) i
    taken_there [] p n number has less there = absurd (none-some i there)
    taken_there (j ∷ some) p zero number has less there = absurd (omega (arith, less))
    taken_there (j ∷ some) p (suc n) zero (first, rest) less there =
        subst (λ q. At code q i) (let e : p ≡ p + 0 = omega arith in e) (subst (At code p) (same_Some j i there) first)
    taken_there (j ∷ some) p (suc n) (suc number) (first, rest) less there =
        subst (λ q. At code q i) (let e : p + 1 + number ≡ p + suc number = omega arith in e) (taken_there some (p + 1) n number rest (omega (arith, less)) there)

raising_at : (slot tag : ℕ) → 1 ≤ tag → tag ≤ 4 → At (blocks slot) (suc tag) (raising tag)
raising_at slot zero some few = absurd (omega (arith, some))
raising_at slot (suc zero) some few = refl
raising_at slot (suc (suc zero)) some few = refl
raising_at slot (suc (suc (suc zero))) some few = refl
raising_at slot (suc (suc (suc (suc zero)))) some few = refl
raising_at slot (suc (suc (suc (suc (suc tag))))) some few = absurd (omega (arith, few))

kept_least : (n : ℕ) → n ≤ blocks_kept n
kept_least zero = omega arith
kept_least (suc zero) = omega arith
kept_least (suc (suc n)) = omega arith

telling_kept : (n : ℕ) → 1 ≤ n → 2 ≤ blocks_kept n
telling_kept zero some = absurd (omega (arith, some))
telling_kept (suc zero) some = omega arith
telling_kept (suc (suc n)) some = omega arith

pub blocks_stand : (body : List Instruction) (raises slot : ℕ) → length body ≡ raises → BlocksStand (finished_code body raises slot) raises slot
blocks_stand body raises slot long =
    let n = farthest body - raises in
    let kept = blocks_kept n in
    let code = finished_code body raises slot in
    let back = instructions.Finish slot ∷ take kept (blocks slot) in
    let (here, following) = has_back code 0 body back (has_whole code) in
    let place : 0 + length body + 1 ≡ raises + 1 = omega (arith, long) in
    let has = subst (λ q. HasAt code q (take kept (blocks slot))) place following in
    let most = body_leads slot kept body in
    record {
      each = λ p tag i some few there leads.
          let reached : suc tag < kept = omega (arith, leads, target_least code p i there, most, kept_least n) in
          subst (λ q. At code q (raising tag)) (let e : raises + 1 + suc tag ≡ raises + 2 + tag = omega arith in e)
          (block_there code (raises + 1) slot kept (suc tag) (raising tag) has reached (raising_at slot tag some few));
      reported = λ p i there leads.
          let some : 1 ≤ n = omega (arith, leads, target_least code p i there, most) in
          let both = telling_kept n some in (
            subst (λ q. At code q (instructions.Binary plain_binary.Add slot (operands.Slot slot) (operands.Word null_exception))) (let e : raises + 1 + 0 ≡ raises + 1 = omega arith in e)
                (block_there code (raises + 1) slot kept 0 (instructions.Binary plain_binary.Add slot (operands.Slot slot) (operands.Word null_exception)) has (omega (arith, both)) refl),
            (block_there code (raises + 1) slot kept 1 (instructions.Throw (operands.Slot slot) (operands.Word 0)) has (omega (arith, both)) refl, tt),
          );
      within = λ p i there some. omega (arith, long, leads_before slot kept body p i there some);
    }
