-- This file shows why the class of programs that the soundness proof covers must require that no struct field is a key: the judgement on
-- typed trees does not require it. In the example tree, a struct has a key as a field; the judgement on typed trees and the flow rules
-- accept the tree. In the example tree, the key is read twice and so used twice: a run of the tree accesses freed memory. The typing
-- rules derive no tree with a key field (`typed_trees_are_formed` of `cyc_types`), since they reject a key field at the declaration of
-- its struct.
use Rattle.std.proofs.Common.{◌≡◌, ℕ, suc, ◌<◌, true, [], ◌∷◌, Some, Ok, inl, refl, arith}
use Rattle.cyc_words.proofs.Numbers.{zero_below}
use Rattle.cyc_syntax.specs.declared.tree.PointerKind.TheVariants as marks
use Rattle.cyc_types.specs.declared.region.Region.TheVariants as regions
use Rattle.cyc_types.specs.declared.typed.Kind.TheVariants as kinds
use Rattle.cyc_types.specs.Types.{Ty}
use Rattle.cyc_types.specs.Types as types
use Rattle.cyc_types.specs.TypedTrees as t
use Rattle.cyc_types.specs.Outlives.{itself}
use Rattle.cyc_types.specs.typing.WellTyped.{Context, body_context, WellTypedStatement, with_local, with_region, IsWellTypedProgram}
use Rattle.cyc_types.specs.flow.Programs.{flow_of}
use Rattle.cyc_types.specs.TypedTrees.{Program}
use Rattle.cyc_meaning.specs.State.{IsDead, status_of}
use Rattle.cyc_meaning.specs.Run.{run}
use Rattle.cyc_meaning.proofs.ExampleTrees.{here, function}

abbrev key : Ty
key = types.Key (regions.Variable 1)

abbrev holder : Ty
holder = types.Struct 0 (regions.Variable 1 ∷ [])

abbrev pointer : Ty
pointer = types.Pointer marks.NonNull holder regions.Heap

-- free_ukey(p->k);
abbrev free : t.Statement
free = t.Evaluate (t.FreeKey (t.Load (t.Member kinds.NonNull (t.Copy (t.Local here 1) pointer) 0 0 key)))

-- struct S<`0> { uregion_key_t<`0> k; }; int main(){ let NewDynamicRegion{<`1> k} = new_ukey(); struct S<`1> @p = new S{k}; free_ukey(p->k); free_ukey(p->k); return 0; }
abbrev body : t.Items
body =
    t.MoreItems (t.DeclareKey 1 0)
    (t.MoreItems (t.Declare 1 pointer (Some (t.Convert kinds.NonNull kinds.NonNull (t.New t.OnHeap (t.Fields (t.MoreArguments (t.Convert kinds.Key kinds.Key (t.Move here 0 key)) t.NoArguments)) pointer))))
    (t.MoreItems (t.Execute free)
    (t.MoreItems (t.Execute free)
    (t.MoreItems (t.Execute (t.Return (Some (t.Convert kinds.Int kinds.Int (t.Number 0))))) t.NoItems))))

abbrev struct : t.StructType
struct = record { parameters = 1; fields = types.Key (regions.Variable 0) ∷ [] }

abbrev main : t.Function
main = record (function [] []) { locals = key ∷ pointer ∷ []; regions = 2; body = body }

abbrev program : t.Program
program = record { structs = struct ∷ []; exceptions = []; globals = []; functions = main ∷ []; main = 0 }

abbrev context : Context
context = with_local true pointer (with_local true key (with_region (body_context program main)))

second : (n : ℕ) → 1 < suc (suc n)
second n = omega arith

-- In the example, the field that holds the key is neither a struct nor a unique pointer, so the key can be read.
freed : WellTypedStatement context free
freed = (
  types.Void,
  (
    regions.Variable 1,
    (
      key,
      regions.Heap,
      (marks.NonNull, regions.Variable 1 ∷ [], struct, types.Key (regions.Variable 0), inl (((0, inl (refl, refl, refl)), refl), refl, refl), refl, (1, second 1, refl), refl, refl, refl, refl, refl),
      refl,
      refl,
      refl,
    ),
    refl,
  ),
)

well : IsWellTypedProgram program
well = record {
  functions = (
    record {
      body = (
        (refl, second 0),
        (refl, refl, (0, zero_below 2, refl)),
        (
          (refl, refl, (0, zero_below 2, refl)),
          (
            types.Value pointer,
            (
              marks.NonNull,
              holder,
              regions.Heap,
              refl,
              (0, regions.Variable 1 ∷ [], struct, refl, refl, ((types.Value key, (((0, inl (refl, refl, refl)), refl), refl, refl), refl, refl, refl), tt), refl, refl),
              refl,
              refl,
            ),
            (refl, itself regions.Heap),
            refl,
            refl,
          ),
          (freed, (freed, ((types.Value types.Int, refl, tt, refl, refl), tt))),
        ),
      );
      own = refl;
      locals = refl;
      regions = refl;
      parameters = tt;
      result = tt;
      effect = tt;
      keyless = tt;
      constraints = tt;
    },
    tt,
  );
  globals = tt;
  main = refl;
}

pub accepted_and_dead : IsWellTypedProgram program × (flow_of program ≡ Ok tt) × (status_of (run program [] 100) ≡ IsDead)
accepted_and_dead = (well, refl, refl)
