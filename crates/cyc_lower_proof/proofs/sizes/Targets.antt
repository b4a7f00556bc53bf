-- The jumps in the body of a well-formed function go at most to the blocks that raise exceptions, which come after the body.
use Rattle.std.proofs.Common.{ℕ, zero, suc, ◌-◌, ◌≤◌, List, [], ◌∷◌, ◌++◌, length, map, take, Option, All, subst, arith, length-append, length-take}
use Rattle.std.specs.List.{AllByRecursion}
use Rattle.std.proofs.lemmas.Option.{same_Some, none-some}
use Rattle.cyc_types.specs.TypedTrees.{StructType, Function}
use Rattle.cyc_plain.specs.declared.instruction.Instruction.{Instruction}
use Rattle.cyc_plain.specs.declared.instruction.Instruction.TheVariants as instructions
use Rattle.cyc_plain.specs.inside.Program.{Routine, Program as PlainProgram}
use Rattle.cyc_plain.specs.inside.WellFormed.{IsInRange, IsRoutine}
use Rattle.cyc_lower_proof.specs.inside.ValueCode.{tag_slot, blocks}
use Rattle.cyc_lower_proof.specs.inside.Lowering.{lower_function, raises_of, body_code, starts_with, target_of, farthest, blocks_kept}
use Rattle.cyc_lower_proof.specs.inside.Bounds.{IsClose, AreClose}
use Rattle.cyc_lower_proof.proofs.emission.Lengths.{body_long}

front_leads : (front back : List Instruction) → farthest front ≤ farthest (front ++ back)
front_leads [] back = omega arith
front_leads (i ∷ front) back = omega (arith, front_leads front back)

module _ (program : PlainProgram) where
  leads_to : (r : Routine) (i : Instruction) → IsInRange program r i → target_of i ≤ length r.code
  leads_to r (instructions.Jump target) inside = omega (arith, inside)
  leads_to r (instructions.Branch comparison left right target) (a, b, inside) = omega (arith, inside)
  leads_to r (instructions.Try first handler) inside = omega (arith, inside.handler_in_range)
  leads_to r i inside = omega arith

  all_lead : (r : Routine) (code : List Instruction) → All (IsInRange program r) code → farthest code ≤ length r.code
  all_lead r [] inside = omega arith
  all_lead r (i ∷ code) inside = omega (arith, leads_to r i (inside 0 i (omega arith)), all_lead r code (λ k d within. inside (suc k) d (omega (arith, within))))

  module _ (structs : List StructType) (globals : List ℕ) (scopes : Option ℕ) where
    function_close : (h : Function) → IsRoutine program (lower_function structs globals scopes h) → IsClose structs globals scopes h
    function_close h well =
        let d = tag_slot h in
        let raises = raises_of structs globals scopes h in
        let body = body_code (starts_with raises structs globals scopes h) h in
        let kept = blocks_kept (farthest body - raises) in
        let end = instructions.Finish d ∷ take kept (blocks d) in
        omega (arith, front_leads body end, all_lead (lower_function structs globals scopes h) (body ++ end) well.instructions, length-append body end, body_long structs globals scopes h, length-take kept (blocks d))

    pub functions_close : (hs : List Function) → AllByRecursion (IsRoutine program) (map (lower_function structs globals scopes) hs) → AreClose structs globals scopes hs
    functions_close [] well n h there = absurd (none-some h there)
    functions_close (g ∷ hs) (own, others) zero h there = subst (IsClose structs globals scopes) (same_Some g h there) (function_close g own)
    functions_close (g ∷ hs) (own, others) (suc n) h there = functions_close hs others n h there
