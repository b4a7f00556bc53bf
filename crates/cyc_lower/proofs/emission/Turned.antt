-- The loop that changes all jump targets of code visits all of the code. The loop that changes jump targets
-- replaces a target at some distance after one position by the one at this distance after a nearer position.
use Rattle.std.proofs.Common.{◌≡◌, ℕ, zero, suc, ◌≤◌, List, [], ◌∷◌, ◌++◌, length, take, drop, refl, sym, ap, subst, ◌∙◌, arith}
use Rattle.cyc_plain.specs.declared.instruction.Instruction.{Instruction}
use Rattle.cyc_lower_proof.specs.inside.Lowering.{AreTurned}
use Rattle.cyc_lower_proof.proofs.emission.Alike.{TurnedTo, turned-all}

all_taken : (old new : List Instruction) → length new ≡ length old → take (length old) (new ++ drop (length new) old) ≡ new
all_taken [] [] same = refl
all_taken [] (x ∷ new) same = absurd (omega (arith, same))
all_taken (o ∷ old) [] same = absurd (omega (arith, same))
all_taken (o ∷ old) (x ∷ new) same = ap (λ (l : List Instruction). x ∷ l) (all_taken old new (omega (arith, same)))

turned-length : (far near n : ℕ) (old new : List Instruction) → TurnedTo far near n old new → length new ≡ length old
turned-length far near zero old new so = ap (λ (l : List Instruction). length l) so
turned-length far near (suc n) [] new so = ap (λ (l : List Instruction). length l) so
turned-length far near (suc n) (o ∷ old) [] so = absurd so
turned-length far near (suc n) (o ∷ old) (x ∷ new) so = ap suc (turned-length far near n old new so.1)

pub turned-ends : (far near n long : ℕ) (old new : List Instruction) → length new ≤ n → long ≡ length old → TurnedTo far near n old new → AreTurned far near old (take long (new ++ drop (length new) old))
turned-ends far near n long old new least is so =
    subst (λ (l : List Instruction). AreTurned far near old l) (sym (ap (λ (m : ℕ). take m (new ++ drop (length new) old)) is ∙ all_taken old new (turned-length far near n old new so))) (turned-all far near n old new least so)
