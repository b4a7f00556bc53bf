-- This file shows why the class of programs that the soundness proof covers restricts the regions in the types of locals: the judgement on
-- typed trees does not restrict them. In the example tree, the type of a local contains a region that is opened later. The judgement on
-- typed trees and the flow rules accept the example tree, and a run of it accesses freed memory. The typing rules derive no tree in which a
-- local's type contains a later region (`typed_trees_are_formed` of `cyc_types`): a region name is known only after its declaration.
use Rattle.std.proofs.Common.{◌≡◌, ◌<◌, [], ◌∷◌, Some, Ok, inl, inr, refl, arith}
use Rattle.cyc_words.proofs.Numbers.{zero_below}
use Rattle.cyc_syntax.specs.declared.tree.PointerKind.TheVariants as marks
use Rattle.cyc_types.specs.declared.region.Region.TheVariants as regions
use Rattle.cyc_types.specs.declared.typed.Kind.TheVariants as kinds
use Rattle.cyc_types.specs.Types.{Ty}
use Rattle.cyc_types.specs.Types as types
use Rattle.cyc_types.specs.TypedTrees as t
use Rattle.cyc_types.specs.Outlives.{itself}
use Rattle.cyc_types.specs.typing.WellTyped.{Context, body_context, IsWellTypedProgram}
use Rattle.cyc_types.specs.flow.Programs.{flow_of}
use Rattle.cyc_types.specs.TypedTrees.{Program}
use Rattle.cyc_meaning.specs.State.{IsDead, status_of}
use Rattle.cyc_meaning.specs.Run.{run}
use Rattle.cyc_meaning.proofs.ExampleTrees.{here, function}

-- The type of a pointer into the region of the block that is opened later.
abbrev inner : Ty
inner = types.Pointer marks.Nullable types.Int (regions.Variable 1)

-- int main(){ int *`1 p = NULL; while (1) 1:{ if (p) return *p; int x = 7; p = &x; } return 0; }
abbrev body : t.Items
body =
    t.MoreItems (t.Declare 0 inner (Some (t.Convert kinds.Nullable kinds.Nullable t.NullPointer)))
    (t.MoreItems (t.Execute (t.While here (t.Number 1) (t.Block 1 (
    t.MoreItems (t.Execute (t.If (t.Copy (t.Local here 0) inner) (t.Return (Some (t.Convert kinds.Int kinds.Int (t.Load (t.Target kinds.Nullable (t.Copy (t.Local here 0) inner) types.Int))))) t.Empty))
    (t.MoreItems (t.Declare 1 types.Int (Some (t.Convert kinds.Int kinds.Int (t.Number 7))))
    (t.MoreItems (t.Execute (t.Evaluate (t.Assign (t.Local here 0) (t.Convert kinds.NonNull kinds.Nullable (t.AddressOf (t.Local here 1) (types.Pointer marks.NonNull types.Int (regions.Variable 1)))) (types.Value inner)))) t.NoItems))))))
    (t.MoreItems (t.Execute (t.Return (Some (t.Convert kinds.Int kinds.Int (t.Number 0))))) t.NoItems))

abbrev main : t.Function
main = record (function [] []) { locals = inner ∷ types.Int ∷ []; regions = 2; body = body }

abbrev program : t.Program
program = record { structs = []; exceptions = []; globals = []; functions = main ∷ []; main = 0 }

abbrev context : Context
context = body_context program main

second_of_two : 1 < 2
second_of_two = omega arith

well : IsWellTypedProgram program
well = record {
  functions = (
    record {
      body = (
        (refl, refl, (0, zero_below 2, refl)),
        (types.Null, refl, refl, refl, refl),
        (
          (
            (types.Value types.Int, inl refl, refl),
            (
              (refl, second_of_two),
              (
                (
                  (types.Value inner, inl (((0, inl (refl, refl, refl)), refl), refl, refl), refl),
                  (
                    types.Value types.Int,
                    (types.Int, regions.Variable 1, (marks.Nullable, inl (((0, inl (refl, refl, refl)), refl), refl, refl), (0, zero_below 3, refl), refl, refl), refl, refl, refl),
                    tt,
                    refl,
                    refl,
                  ),
                  tt,
                ),
                (
                  (refl, refl, (0, zero_below 3, refl)),
                  (types.Value types.Int, refl, tt, refl, refl),
                  (
                    (
                      types.Value inner,
                      (
                        inner,
                        regions.Variable 0,
                        (0, inr (inl (refl, refl, refl, refl)), refl, refl),
                        (
                          types.Value (types.Pointer marks.NonNull types.Int (regions.Variable 1)),
                          (types.Int, regions.Variable 1, (1, inl (refl, refl, refl, refl), refl, refl), refl, refl, refl),
                          (refl, itself (regions.Variable 1)),
                          refl,
                          refl,
                        ),
                        refl,
                        refl,
                      ),
                    ),
                    tt,
                  ),
                ),
              ),
            ),
          ),
          ((types.Value types.Int, refl, tt, refl, refl), tt),
        ),
      );
      own = refl;
      locals = refl;
      regions = refl;
      parameters = tt;
      result = tt;
      effect = tt;
      keyless = tt;
      constraints = tt;
    },
    tt,
  );
  globals = tt;
  main = refl;
}

pub accepted_and_dead : IsWellTypedProgram program × (flow_of program ≡ Ok tt) × (status_of (run program [] 100) ≡ IsDead)
accepted_and_dead = (well, refl, refl)
