-- This file has texts to which the soundness theorem applies: both the typing rules and the flow rules accept them, and their runs end as
-- stated. Each example is proved by computation, so the theorem is not vacuous.
use Rattle.std.proofs.Common.{◌≡◌, ℕ, List, [], ◌∷◌, Some, None, Ok, Err, pos, refl}
use Rattle.std.specs.Prelude.{codes}
use Rattle.cyc_words.specs.Word.{slt_of}
use Rattle.cyc_words.specs.Ending.{Returned}
use Rattle.cyc_syntax.specs.declared.tree.PointerKind.{PointerKind}
use Rattle.cyc_syntax.specs.declared.tree.PointerKind.TheVariants as marks
use Rattle.cyc_syntax.specs.declared.tree.PrefixOperator.TheVariants as prefixes
use Rattle.cyc_syntax.specs.declared.tree.BinaryOperator.TheVariants as operators
use Rattle.cyc_syntax.specs.Symbols.{Place}
use Rattle.cyc_syntax.specs.Trees.{Named, BaseType, Int, Struct, Handle, Key, WrittenType, Expression, Number, Null, HeapRegion, UniqueRegion, Variable, Call, NumberOfElements, FreeUnique, FreeKey, Chained, Prefixed}
use Rattle.cyc_syntax.specs.Trees.{New, RegionNew, Binary, Assign, Plain, Fields, Array, NoExpressions, MoreExpressions, NoPostfixes, ThenIndex, ThenField, NoOperations, ThenOperation, Block, Labelled, Evaluate}
use Rattle.cyc_syntax.specs.Trees.{Swap, If, While, Return, Break, Try, Braces, Items, NoItems, MoreItems, Execute, Local, Region, Alias, DynamicRegion, Default, Listed, Declaration, StructType, Global, Function}
use Rattle.cyc_types.specs.TypedTrees as typed
use Rattle.cyc_types.specs.Rules.{Checked}
use Rattle.cyc_types.specs.typing.Programs.{rule_program, check_of, IsTypedProgram}
use Rattle.cyc_types.specs.flow.Programs.{flow_of}
use Rattle.cyc_types.specs.flow.Programs as flow
use Rattle.cyc_types.proofs.RuleLaws.{answers_tree}
use Rattle.cyc_meaning.specs.State.{Status, HasEnded, status_of}
use Rattle.cyc_meaning.specs.Run.{run}
use Rattle.cyc_soundness.specs.Sound.{IsSound}
use Rattle.cyc_soundness.proofs.FormedLemmas.{typed_sound}

-- ---- the property of an example text

-- Says that the typed program satisfies the flow rules and that its run ends with this status.
abbrev Ends : Checked typed.Program → Status → Type 0
Ends (Ok p) s = (flow_of p ≡ Ok tt) × (status_of (run p [] 200) ≡ s)
Ends (Err f) s = ⊥

-- no run of an example program accesses freed memory or goes wrong
pub never_dead : (texts : List (List ℕ)) (tree : List Declaration) (s : Status) → Ends (check_of texts tree) s
    → (p : typed.Program) × IsTypedProgram texts tree p × IsSound p × (status_of (run p [] 200) ≡ s)
never_dead texts tree s ends = go (check_of texts tree) refl ends
  where
    go : (r : Checked typed.Program) → check_of texts tree ≡ r → Ends r s → (p : typed.Program) × IsTypedProgram texts tree p × IsSound p × (status_of (run p [] 200) ≡ s)
    go (Ok p) is (allowed, ended) =
        let derived : IsTypedProgram texts tree p = answers_tree (rule_program texts tree) p is in
        (p, derived, typed_sound texts tree p derived (answers_tree (flow.rule_program p) tt allowed), ended)
    go (Err f) is none = absurd none

-- ---- trees

abbrev texts : List (List ℕ)
texts = codes "main" ∷ codes "S" ∷ codes "p" ∷ codes "x" ∷ codes "n" ∷ codes "i" ∷ codes "U" ∷ codes "f" ∷ codes "r" ∷ codes "h" ∷ []

abbrev at : ℕ → Place
at column = record { line = 1; column = column }

abbrev named : ℕ → ℕ → Named
named n column = record { name = n; place = at column }

abbrev written : BaseType → List PointerKind → WrittenType
written b [] = record { place = at 1; base = b; marks = [] }
written b (k ∷ ks) = record { place = at 1; base = b; marks = record { kind = k; region = None } ∷ [] }

-- The type of a non-null pointer to an int in the region with this name.
abbrev into : ℕ → WrittenType
into n = record { place = at 1; base = Int; marks = record { kind = marks.NonNull; region = Some (named n 3) } ∷ [] }

abbrev main : Items → Declaration
main is = Function (Some (written Int [])) (named 0 5) (record { list = Listed []; effect = None; constraints = [] }) (Braces (at 11) is (at 99))

abbrev field : ℕ → Expression
field n = Chained (Variable (named 2 20)) (ThenField (named n 21) NoPostfixes)

abbrev plus : Expression → Expression → Expression
plus a b = Binary a (ThenOperation operators.Add (at 30) b NoOperations)

-- ---- texts

-- struct S { int x; int *n; }; int main(){ struct S @p = new S{4, NULL}; p->n = new 3; return p->x + *p->n; }
fields : Ends (check_of texts (
    StructType (named 1 1) [] (record { of_type = written Int []; name = named 3 2 } ∷ record { of_type = written Int (marks.Nullable ∷ []); name = named 4 3 } ∷ [])
    ∷ main (
    MoreItems (Local (written (Struct (named 1 4) []) (marks.NonNull ∷ [])) (named 2 5) (Some (New (at 6) (Fields (named 1 7) [] (MoreExpressions (Number (at 8) 4) (MoreExpressions (Null (at 9)) NoExpressions))))))
    (MoreItems (Execute (Evaluate (Assign (field 4) (New (at 10) (Plain (Number (at 11) 3))))))
    (MoreItems (Execute (Return (at 12) (Some (plus (field 3) (Prefixed (at 13) prefixes.Dereference (field 4)))))) NoItems)))
    ∷ [])) (HasEnded (Returned (pos 7)))
fields = (refl, refl)

-- int main(){ int ?p = new {for i < 3 : i * i}; return p[2] + numelts(p + 1); }
elements : Ends (check_of texts (
    main (
    MoreItems (Local (written Int (marks.Fat ∷ [])) (named 2 5) (Some (New (at 6) (Array (at 7) (named 5 8) (Number (at 9) 3) (Binary (Variable (named 5 10)) (ThenOperation operators.Multiply (at 11) (Variable (named 5 12)) NoOperations))))))
    (MoreItems (Execute (Return (at 13) (Some (plus (Chained (Variable (named 2 14)) (ThenIndex (Number (at 15) 2) NoPostfixes)) (NumberOfElements (at 16) (plus (Variable (named 2 17)) (Number (at 18) 1))))))) NoItems))
    ∷ [])) (HasEnded (Returned (pos 6)))
elements = (refl, refl)

-- struct S { int x; int n; }; int main(){ struct S @p = new S{1, 5}; p->x :=: p->n; return p->x; }
fields_swapped : Ends (check_of texts (
    StructType (named 1 1) [] (record { of_type = written Int []; name = named 3 2 } ∷ record { of_type = written Int []; name = named 4 3 } ∷ [])
    ∷ main (
    MoreItems (Local (written (Struct (named 1 4) []) (marks.NonNull ∷ [])) (named 2 5) (Some (New (at 6) (Fields (named 1 7) [] (MoreExpressions (Number (at 8) 1) (MoreExpressions (Number (at 9) 5) NoExpressions))))))
    (MoreItems (Execute (Swap (field 3) (field 4)))
    (MoreItems (Execute (Return (at 12) (Some (field 3)))) NoItems)))
    ∷ [])) (HasEnded (Returned (pos 5)))
fields_swapped = (refl, refl)

-- int main(){ int @`U p = rnew(unique_region) 5; return *p; }
unique : Ends (check_of texts (
    main (
    MoreItems (Local (into 6) (named 2 5) (Some (RegionNew (at 6) (UniqueRegion (at 7)) (Plain (Number (at 8) 5)))))
    (MoreItems (Execute (Return (at 9) (Some (Prefixed (at 10) prefixes.Dereference (Variable (named 2 11)))))) NoItems))
    ∷ [])) (HasEnded (Returned (pos 5)))
unique = (refl, refl)

-- int main(){ int *p = NULL; try return *p; catch { default: return 9; } }
caught : Ends (check_of texts (
    main (
    MoreItems (Local (written Int (marks.Nullable ∷ [])) (named 2 5) (Some (Null (at 6))))
    (MoreItems (Execute (Try (at 7) (Return (at 8) (Some (Prefixed (at 9) prefixes.Dereference (Variable (named 2 10))))) (Default (MoreItems (Execute (Return (at 11) (Some (Number (at 12) 9)))) NoItems)))) NoItems))
    ∷ [])) (HasEnded (Returned (pos 9)))
caught = (refl, refl)

-- int x; int main(){ int *p = &x; *p = 8; return x; }
global : Ends (check_of texts (
    Global (written Int []) (named 3 1) None
    ∷ main (
    MoreItems (Local (written Int (marks.Nullable ∷ [])) (named 2 5) (Some (Prefixed (at 6) prefixes.AddressOf (Variable (named 3 7)))))
    (MoreItems (Execute (Evaluate (Assign (Prefixed (at 8) prefixes.Dereference (Variable (named 2 9))) (Number (at 10) 8))))
    (MoreItems (Execute (Return (at 11) (Some (Variable (named 3 12))))) NoItems)))
    ∷ [])) (HasEnded (Returned (pos 8)))
global = (refl, refl)

-- int f(region_t<`r> h){ int @`r p = rnew(h) 6; return *p; } int main(){ return f(heap_region); }
by_handle : Ends (check_of texts (
    Function (Some (written Int [])) (named 7 1) (record { list = Listed (record { of_type = written (Handle (named 8 2)) []; name = named 9 3 } ∷ []); effect = None; constraints = [] }) (Braces (at 4) (
    MoreItems (Local (into 8) (named 2 5) (Some (RegionNew (at 6) (Variable (named 9 7)) (Plain (Number (at 8) 6)))))
    (MoreItems (Execute (Return (at 9) (Some (Prefixed (at 10) prefixes.Dereference (Variable (named 2 11)))))) NoItems)) (at 12))
    ∷ main (MoreItems (Execute (Return (at 13) (Some (Call (named 7 14) (MoreExpressions (HeapRegion (at 15)) NoExpressions))))) NoItems)
    ∷ [])) (HasEnded (Returned (pos 6)))
by_handle = (refl, refl)

-- ---- texts that free unique objects

-- int main(){ int @`U p = rnew(unique_region) 5; int ?n = new {for i < 3 : i * i}; *p :=: n[2]; return *p + numelts(n); }
objects_kept : Ends (check_of texts (
    main (
    MoreItems (Local (into 6) (named 2 5) (Some (RegionNew (at 6) (UniqueRegion (at 7)) (Plain (Number (at 8) 5)))))
    (MoreItems (Local (written Int (marks.Fat ∷ [])) (named 4 9) (Some (New (at 10) (Array (at 11) (named 5 12) (Number (at 13) 3) (Binary (Variable (named 5 14)) (ThenOperation operators.Multiply (at 15) (Variable (named 5 16)) NoOperations))))))
    (MoreItems (Execute (Swap (Prefixed (at 17) prefixes.Dereference (Variable (named 2 18))) (Chained (Variable (named 4 19)) (ThenIndex (Number (at 20) 2) NoPostfixes))))
    (MoreItems (Execute (Return (at 21) (Some (plus (Prefixed (at 22) prefixes.Dereference (Variable (named 2 23))) (NumberOfElements (at 24) (Variable (named 4 25))))))) NoItems))))
    ∷ [])) (HasEnded (Returned (pos 7)))
objects_kept = (refl, refl)

-- int main(){ int @`U p = rnew(unique_region) 5; int x = *p; ufree(p); return x; }
object_freed : Ends (check_of texts (
    main (
    MoreItems (Local (into 6) (named 2 5) (Some (RegionNew (at 6) (UniqueRegion (at 7)) (Plain (Number (at 8) 5)))))
    (MoreItems (Local (written Int []) (named 3 9) (Some (Prefixed (at 10) prefixes.Dereference (Variable (named 2 11)))))
    (MoreItems (Execute (Evaluate (FreeUnique (at 12) (Variable (named 2 13)))))
    (MoreItems (Execute (Return (at 14) (Some (Variable (named 3 15))))) NoItems))))
    ∷ [])) (HasEnded (Returned (pos 5)))
object_freed = (refl, refl)

-- int main(){ int @`U p = rnew(unique_region) 5; try return 1 / (*p - 5); catch { default: if (*p) ufree(p); return 9; } }
freed_in_a_clause : Ends (check_of texts (
    main (
    MoreItems (Local (into 6) (named 2 5) (Some (RegionNew (at 6) (UniqueRegion (at 7)) (Plain (Number (at 8) 5)))))
    (MoreItems (Execute (Try (at 9)
    (Return (at 10) (Some (Binary (Number (at 11) 1) (ThenOperation operators.Divide (at 12) (Binary (Prefixed (at 13) prefixes.Dereference (Variable (named 2 14))) (ThenOperation operators.Subtract (at 15) (Number (at 16) 5) NoOperations)) NoOperations))))
    (Default (
    MoreItems (Execute (If (at 17) (Prefixed (at 18) prefixes.Dereference (Variable (named 2 19))) (Evaluate (FreeUnique (at 20) (Variable (named 2 21))))))
    (MoreItems (Execute (Return (at 22) (Some (Number (at 23) 9)))) NoItems)))))
    NoItems))
    ∷ [])) (HasEnded (Returned (pos 9)))
freed_in_a_clause = (refl, refl)

-- int f(int @`U p){ int x = *p; ufree(p); return x; } int main(){ return f(rnew(unique_region) 3); }
freed_by_a_call : Ends (check_of texts (
    Function (Some (written Int [])) (named 7 1) (record { list = Listed (record { of_type = into 6; name = named 2 3 } ∷ []); effect = None; constraints = [] }) (Braces (at 4) (
    MoreItems (Local (written Int []) (named 3 5) (Some (Prefixed (at 6) prefixes.Dereference (Variable (named 2 7)))))
    (MoreItems (Execute (Evaluate (FreeUnique (at 8) (Variable (named 2 9)))))
    (MoreItems (Execute (Return (at 10) (Some (Variable (named 3 11))))) NoItems))) (at 12))
    ∷ main (MoreItems (Execute (Return (at 14) (Some (Call (named 7 15) (MoreExpressions (RegionNew (at 16) (UniqueRegion (at 17)) (Plain (Number (at 18) 3))) NoExpressions))))) NoItems)
    ∷ [])) (HasEnded (Returned (pos 3)))
freed_by_a_call = (refl, refl)

-- int main(){ int ?`U p = rnew(unique_region) {for i < 3 : i * i}; int x = p[2]; p[x - 3] = 1; ufree(p); return x; }
elements_freed : Ends (check_of texts (
    main (
    MoreItems (Local (record { place = at 1; base = Int; marks = record { kind = marks.Fat; region = Some (named 6 3) } ∷ [] }) (named 2 5) (Some (RegionNew (at 6) (UniqueRegion (at 7))
    (Array (at 8) (named 5 9) (Number (at 10) 3) (Binary (Variable (named 5 11)) (ThenOperation operators.Multiply (at 12) (Variable (named 5 13)) NoOperations))))))
    (MoreItems (Local (written Int []) (named 3 14) (Some (Chained (Variable (named 2 15)) (ThenIndex (Number (at 16) 2) NoPostfixes))))
    (MoreItems (Execute (Evaluate (Assign (Chained (Variable (named 2 17)) (ThenIndex (Binary (Variable (named 3 18)) (ThenOperation operators.Subtract (at 19) (Number (at 20) 3) NoOperations)) NoPostfixes)) (Number (at 21) 1))))
    (MoreItems (Execute (Evaluate (FreeUnique (at 22) (Variable (named 2 23)))))
    (MoreItems (Execute (Return (at 24) (Some (Variable (named 3 25))))) NoItems)))))
    ∷ [])) (HasEnded (Returned (pos 4)))
elements_freed = (refl, refl)

-- int main(){ int @`U p = rnew(unique_region) 5; int ?n = new {for i < 3 : i}; *p :=: n[2]; int x = *p + n[2]; ufree(p); return x; }
swapped_and_freed : Ends (check_of texts (
    main (
    MoreItems (Local (into 6) (named 2 5) (Some (RegionNew (at 6) (UniqueRegion (at 7)) (Plain (Number (at 8) 5)))))
    (MoreItems (Local (written Int (marks.Fat ∷ [])) (named 4 9) (Some (New (at 10) (Array (at 11) (named 5 12) (Number (at 13) 3) (Variable (named 5 14))))))
    (MoreItems (Execute (Swap (Prefixed (at 17) prefixes.Dereference (Variable (named 2 18))) (Chained (Variable (named 4 19)) (ThenIndex (Number (at 20) 2) NoPostfixes))))
    (MoreItems (Local (written Int []) (named 3 21) (Some (plus (Prefixed (at 22) prefixes.Dereference (Variable (named 2 23))) (Chained (Variable (named 4 24)) (ThenIndex (Number (at 25) 2) NoPostfixes)))))
    (MoreItems (Execute (Evaluate (FreeUnique (at 26) (Variable (named 2 27)))))
    (MoreItems (Execute (Return (at 28) (Some (Variable (named 3 29))))) NoItems))))))
    ∷ [])) (HasEnded (Returned (pos 7)))
swapped_and_freed = (refl, refl)

-- struct S { int x; int @`U n; }; int main(){ struct S @p = new S{4, rnew(unique_region) 5}; int @`U i = rnew(unique_region) 3; p->n = rnew(unique_region) 3; ufree(i); return p->x; }
stored_and_freed : Ends (check_of texts (
    StructType (named 1 1) [] (record { of_type = written Int []; name = named 3 2 } ∷ record { of_type = into 6; name = named 4 3 } ∷ [])
    ∷ main (
    MoreItems (Local (written (Struct (named 1 4) []) (marks.NonNull ∷ [])) (named 2 5) (Some (New (at 6) (Fields (named 1 7) [] (MoreExpressions (Number (at 8) 4) (MoreExpressions (RegionNew (at 9) (UniqueRegion (at 10)) (Plain (Number (at 11) 5))) NoExpressions))))))
    (MoreItems (Local (into 6) (named 5 12) (Some (RegionNew (at 13) (UniqueRegion (at 14)) (Plain (Number (at 15) 3)))))
    (MoreItems (Execute (Evaluate (Assign (field 4) (RegionNew (at 22) (UniqueRegion (at 23)) (Plain (Number (at 24) 3))))))
    (MoreItems (Execute (Evaluate (FreeUnique (at 25) (Variable (named 5 26)))))
    (MoreItems (Execute (Return (at 27) (Some (field 3)))) NoItems)))))
    ∷ [])) (HasEnded (Returned (pos 4)))
stored_and_freed = (refl, refl)

-- int main(){ int n = 0; while (n < 6) { int @`U p = rnew(unique_region) 3; n = n + *p; ufree(p); } return n; }
freed_in_each_round : Ends (check_of texts (
    main (
    MoreItems (Local (written Int []) (named 4 5) (Some (Number (at 6) 0)))
    (MoreItems (Execute (While (at 7) (Binary (Variable (named 4 8)) (ThenOperation operators.Less (at 9) (Number (at 10) 6) NoOperations)) (Block (Braces (at 11) (
    MoreItems (Local (into 6) (named 2 12) (Some (RegionNew (at 13) (UniqueRegion (at 14)) (Plain (Number (at 15) 3)))))
    (MoreItems (Execute (Evaluate (Assign (Variable (named 4 16)) (plus (Variable (named 4 17)) (Prefixed (at 18) prefixes.Dereference (Variable (named 2 19)))))))
    (MoreItems (Execute (Evaluate (FreeUnique (at 20) (Variable (named 2 21))))) NoItems))) (at 22)))))
    (MoreItems (Execute (Return (at 23) (Some (Variable (named 4 24))))) NoItems)))
    ∷ [])) (HasEnded (Returned (pos 6)))
unfolding slt_of
freed_in_each_round = (refl, refl)

-- ---- texts with scoped regions and addresses

abbrev address : ℕ → Expression
address n = Prefixed (at 40) prefixes.AddressOf (Variable (named n 41))

abbrev following : ℕ → Expression
following n = Prefixed (at 42) prefixes.Dereference (Variable (named n 43))

abbrev returned : Expression → Items
returned a = MoreItems (Execute (Return (at 44) (Some a))) NoItems

abbrev assigned : Expression → Expression → Items → Items
assigned a b is = MoreItems (Execute (Evaluate (Assign a b))) is

-- int main(){ int x = 3; int @p = &x; *p = *p + 4; return x; }
address_of_local : Ends (check_of texts (
    main (
    MoreItems (Local (written Int []) (named 3 5) (Some (Number (at 6) 3)))
    (MoreItems (Local (written Int (marks.NonNull ∷ [])) (named 2 7) (Some (address 3)))
    (assigned (following 2) (plus (following 2) (Number (at 8) 4))
    (returned (Variable (named 3 9))))))
    ∷ [])) (HasEnded (Returned (pos 7)))
address_of_local = (refl, refl)

-- int main(){ int x = 3; int @p = &x; { int y = 5; *p = y; } return x; }
outer_from_inside : Ends (check_of texts (
    main (
    MoreItems (Local (written Int []) (named 3 5) (Some (Number (at 6) 3)))
    (MoreItems (Local (written Int (marks.NonNull ∷ [])) (named 2 7) (Some (address 3)))
    (MoreItems (Execute (Block (Braces (at 8) (
    MoreItems (Local (written Int []) (named 4 9) (Some (Number (at 10) 5)))
    (assigned (following 2) (Variable (named 4 11)) NoItems)) (at 12))))
    (returned (Variable (named 3 13))))))
    ∷ [])) (HasEnded (Returned (pos 5)))
outer_from_inside = (refl, refl)

-- int main(){ r:{ int x = 4; int @`r p = &x; return *p; } }
labelled_block : Ends (check_of texts (
    main (
    MoreItems (Execute (Labelled (named 8 5) (Braces (at 6) (
    MoreItems (Local (written Int []) (named 3 7) (Some (Number (at 8) 4)))
    (MoreItems (Local (into 8) (named 2 9) (Some (address 3)))
    (returned (following 2)))) (at 10)))) NoItems)
    ∷ [])) (HasEnded (Returned (pos 4)))
labelled_block = (refl, refl)

-- int f(region_t<`r> h){ int @`r p = rnew(h) 6; return *p; } int main(){ region<`r> h; return f(h); }
lexical_of_a_caller : Ends (check_of texts (
    Function (Some (written Int [])) (named 7 1) (record { list = Listed (record { of_type = written (Handle (named 8 2)) []; name = named 9 3 } ∷ []); effect = None; constraints = [] }) (Braces (at 4) (
    MoreItems (Local (into 8) (named 2 5) (Some (RegionNew (at 6) (Variable (named 9 7)) (Plain (Number (at 8) 6)))))
    (returned (following 2))) (at 12))
    ∷ main (MoreItems (Region (named 8 13) (named 9 14) None) (returned (Call (named 7 15) (MoreExpressions (Variable (named 9 16)) NoExpressions))))
    ∷ [])) (HasEnded (Returned (pos 6)))
lexical_of_a_caller = (refl, refl)

-- int main(){ int n = 0; while (n < 6) { region<`r> h; int @p = rnew(h) 3; n = n + *p; } return n; }
opened_in_each_round : Ends (check_of texts (
    main (
    MoreItems (Local (written Int []) (named 4 5) (Some (Number (at 6) 0)))
    (MoreItems (Execute (While (at 7) (Binary (Variable (named 4 8)) (ThenOperation operators.Less (at 9) (Number (at 10) 6) NoOperations)) (Block (Braces (at 11) (
    MoreItems (Region (named 8 12) (named 9 13) None)
    (MoreItems (Local (written Int (marks.NonNull ∷ [])) (named 2 14) (Some (RegionNew (at 15) (Variable (named 9 16)) (Plain (Number (at 17) 3)))))
    (assigned (Variable (named 4 18)) (plus (Variable (named 4 19)) (following 2)) NoItems))) (at 20)))))
    (returned (Variable (named 4 21)))))
    ∷ [])) (HasEnded (Returned (pos 6)))
unfolding slt_of
opened_in_each_round = (refl, refl)

-- int main(){ try { region<`r> h; int *p = NULL; return *p; } catch { default: return 9; } }
left_by_exception : Ends (check_of texts (
    main (
    MoreItems (Execute (Try (at 5) (Block (Braces (at 6) (
    MoreItems (Region (named 8 7) (named 9 8) None)
    (MoreItems (Local (written Int (marks.Nullable ∷ [])) (named 2 9) (Some (Null (at 10))))
    (returned (following 2)))) (at 11))) (Default (returned (Number (at 12) 9))))) NoItems)
    ∷ [])) (HasEnded (Returned (pos 9)))
left_by_exception = (refl, refl)

-- ---- texts that lend resources and free none

abbrev with_key : Items → Items
with_key is = MoreItems (DynamicRegion (named 8 5) (named 5 6)) is

abbrev opened : Items → Items
opened is = MoreItems (Region (named 8 50) (named 9 51) (Some (named 5 52))) is

abbrev block : Items → Items → Items
block inner is = MoreItems (Execute (Block (Braces (at 53) inner (at 54)))) is

-- The type of a nullable pointer to an int in the region with this name.
abbrev may_be_into : ℕ → WrittenType
may_be_into n = record { place = at 1; base = Int; marks = record { kind = marks.Nullable; region = Some (named n 3) } ∷ [] }

-- int main(){ let NewDynamicRegion{<`r> i} = new_ukey(); int *`r p = NULL; { region<`r> h = open(i); p = rnew(h) 4; } { region<`r> h = open(i); return *p; } }
key_opened_twice : Ends (check_of texts (
    main (
    with_key (
    MoreItems (Local (may_be_into 8) (named 2 7) (Some (Null (at 8))))
    (block (opened (assigned (Variable (named 2 9)) (RegionNew (at 10) (Variable (named 9 11)) (Plain (Number (at 12) 4))) NoItems))
    (block (opened (returned (following 2))) NoItems))))
    ∷ [])) (HasEnded (Returned (pos 4)))
key_opened_twice = (refl, refl)

-- int main(){ int @`U p = rnew(unique_region) 5; { let alias <`r> int @`r x = p; *x = *x + 1; } return *p; }
shared_by_alias : Ends (check_of texts (
    main (
    MoreItems (Local (into 6) (named 2 5) (Some (RegionNew (at 6) (UniqueRegion (at 7)) (Plain (Number (at 8) 5)))))
    (block (MoreItems (Alias (named 8 9) (into 8) (named 3 10) (named 2 11)) (assigned (following 3) (plus (following 3) (Number (at 12) 1)) NoItems))
    (returned (following 2))))
    ∷ [])) (HasEnded (Returned (pos 6)))
shared_by_alias = (refl, refl)

-- int main(){ let NewDynamicRegion{<`r> i} = new_ukey(); while (1) { region<`r> h = open(i); break; } { region<`r> h = open(i); int @`r p = rnew(h) 3; return *p; } }
left_by_break : Ends (check_of texts (
    main (
    with_key (
    MoreItems (Execute (While (at 7) (Number (at 8) 1) (Block (Braces (at 9) (opened (MoreItems (Execute (Break (at 10))) NoItems)) (at 11)))))
    (block (opened (MoreItems (Local (into 8) (named 2 12) (Some (RegionNew (at 13) (Variable (named 9 14)) (Plain (Number (at 15) 3))))) (returned (following 2)))) NoItems)))
    ∷ [])) (HasEnded (Returned (pos 3)))
left_by_break = (refl, refl)

-- int f(region_key_t<`r> i){ region<`r> h = open(i); int *p = NULL; return *p; } int main(){ let NewDynamicRegion{<`r> i} = new_ukey(); try return f(i); catch { default: return 8; } }
left_by_exception_in_a_call : Ends (check_of texts (
    Function (Some (written Int [])) (named 7 1) (record { list = Listed (record { of_type = written (Key (named 8 2)) []; name = named 5 3 } ∷ []); effect = None; constraints = [] }) (Braces (at 4) (
    opened (MoreItems (Local (written Int (marks.Nullable ∷ [])) (named 2 5) (Some (Null (at 6)))) (returned (following 2)))) (at 12))
    ∷ main (with_key (MoreItems (Execute (Try (at 13) (Return (at 14) (Some (Call (named 7 15) (MoreExpressions (Variable (named 5 16)) NoExpressions)))) (Default (returned (Number (at 17) 8))))) NoItems))
    ∷ [])) (HasEnded (Returned (pos 8)))
left_by_exception_in_a_call = (refl, refl)

-- ---- texts that free keys

abbrev freed : Items → Items
freed is = MoreItems (Execute (Evaluate (FreeKey (at 55) (named 5 56)))) is

-- int main(){ let NewDynamicRegion{<`r> i} = new_ukey(); { region<`r> h = open(i); int @`r p = rnew(h) 4; } free_ukey(i); return 3; }
given_back : Ends (check_of texts (
    main (
    with_key (
    block (opened (MoreItems (Local (into 8) (named 2 7) (Some (RegionNew (at 8) (Variable (named 9 9)) (Plain (Number (at 10) 4))))) NoItems))
    (freed (returned (Number (at 11) 3)))))
    ∷ [])) (HasEnded (Returned (pos 3)))
given_back = (refl, refl)

-- int f(region_key_t<`r> i){ free_ukey(i); return 2; } int main(){ let NewDynamicRegion{<`r> i} = new_ukey(); return f(i); }
given_back_by_a_call : Ends (check_of texts (
    Function (Some (written Int [])) (named 7 1) (record { list = Listed (record { of_type = written (Key (named 8 2)) []; name = named 5 3 } ∷ []); effect = None; constraints = [] }) (Braces (at 4) (freed (returned (Number (at 5) 2))) (at 12))
    ∷ main (with_key (returned (Call (named 7 15) (MoreExpressions (Variable (named 5 16)) NoExpressions))))
    ∷ [])) (HasEnded (Returned (pos 2)))
given_back_by_a_call = (refl, refl)

-- int main(){ let NewDynamicRegion{<`r> i} = new_ukey(); int *p = NULL; try return *p; catch { default: free_ukey(i); return 8; } }
given_back_by_a_clause : Ends (check_of texts (
    main (
    with_key (
    MoreItems (Local (written Int (marks.Nullable ∷ [])) (named 2 5) (Some (Null (at 6))))
    (MoreItems (Execute (Try (at 13) (Return (at 14) (Some (following 2))) (Default (freed (returned (Number (at 17) 8)))))) NoItems)))
    ∷ [])) (HasEnded (Returned (pos 8)))
given_back_by_a_clause = (refl, refl)

-- int main(){ int n = 0; while (n < 6) { let NewDynamicRegion{<`r> i} = new_ukey(); { region<`r> h = open(i); int @`r p = rnew(h) 3; n = n + *p; } free_ukey(i); } return n; }
given_back_in_a_loop : Ends (check_of texts (
    main (
    MoreItems (Local (written Int []) (named 4 5) (Some (Number (at 6) 0)))
    (MoreItems (Execute (While (at 7) (Binary (Variable (named 4 8)) (ThenOperation operators.Less (at 9) (Number (at 10) 6) NoOperations)) (Block (Braces (at 11) (
    with_key (
    block (opened (
    MoreItems (Local (into 8) (named 2 14) (Some (RegionNew (at 15) (Variable (named 9 16)) (Plain (Number (at 17) 3)))))
    (assigned (Variable (named 4 18)) (plus (Variable (named 4 19)) (following 2)) NoItems)))
    (freed NoItems))) (at 20)))))
    (returned (Variable (named 4 21)))))
    ∷ [])) (HasEnded (Returned (pos 6)))
unfolding slt_of
given_back_in_a_loop = (refl, refl)

-- ---- texts that share unique objects and then free them

abbrev with_unique : Items → Items
with_unique is = MoreItems (Local (into 6) (named 2 5) (Some (RegionNew (at 6) (UniqueRegion (at 7)) (Plain (Number (at 8) 5))))) is

abbrev aliased : Items → Items
aliased is = MoreItems (Alias (named 8 55) (into 8) (named 3 56) (named 2 57)) is

abbrev unique_freed : Items → Items
unique_freed is = MoreItems (Execute (Evaluate (FreeUnique (at 60) (Variable (named 2 61))))) is

-- int f(int @`r x){ return *x; } int main(){ int @`U p = rnew(unique_region) 5; int n = 0; { let alias <`r> int @`r x = p; *x = f(x) + 1; n = *x; } ufree(p); return n; }
shared_then_freed : Ends (check_of texts (
    Function (Some (written Int [])) (named 7 1) (record { list = Listed (record { of_type = into 8; name = named 3 3 } ∷ []); effect = None; constraints = [] }) (Braces (at 4) (returned (following 3)) (at 5))
    ∷ main (
    with_unique (
    MoreItems (Local (written Int []) (named 4 9) (Some (Number (at 10) 0)))
    (block (aliased (
    assigned (following 3) (plus (Call (named 7 15) (MoreExpressions (Variable (named 3 16)) NoExpressions)) (Number (at 17) 1))
    (assigned (Variable (named 4 18)) (following 3) NoItems)))
    (unique_freed (returned (Variable (named 4 20)))))))
    ∷ [])) (HasEnded (Returned (pos 6)))
shared_then_freed = (refl, refl)

-- int main(){ int @`U p = rnew(unique_region) 5; { let alias <`r> int @`r x = p; *x = *x + 2; } { let alias <`S> int @`S i = p; *i = *i + 3; } int n = *p; ufree(p); return n; }
shared_again : Ends (check_of texts (
    main (
    with_unique (
    block (aliased (assigned (following 3) (plus (following 3) (Number (at 12) 2)) NoItems))
    (block (MoreItems (Alias (named 1 15) (into 1) (named 5 16) (named 2 17)) (assigned (following 5) (plus (following 5) (Number (at 13) 3)) NoItems))
    (MoreItems (Local (written Int []) (named 4 14) (Some (following 2)))
    (unique_freed (returned (Variable (named 4 20))))))))
    ∷ [])) (HasEnded (Returned (pos 10)))
shared_again = (refl, refl)

-- int main(){ int *`U p = NULL; { let alias <`r> int *`r x = p; int *`r i = x; } ufree(p); return 3; }
nothing_shared : Ends (check_of texts (
    main (
    MoreItems (Local (may_be_into 6) (named 2 5) (Some (Null (at 6))))
    (block (MoreItems (Alias (named 8 55) (may_be_into 8) (named 3 56) (named 2 57)) (MoreItems (Local (may_be_into 8) (named 5 9) (Some (Variable (named 3 10)))) NoItems))
    (unique_freed (returned (Number (at 20) 3)))))
    ∷ [])) (HasEnded (Returned (pos 3)))
nothing_shared = (refl, refl)

-- int main(){ int @`U p = rnew(unique_region) 5; try { let alias <`r> int @`r x = p; return 1 / (*x - 5); } catch { default: return 7; } }
loan_left_by_exception : Ends (check_of texts (
    main (
    with_unique (
    MoreItems (Execute (Try (at 9) (Block (Braces (at 10) (aliased (
    returned (Binary (Number (at 11) 1) (ThenOperation operators.Divide (at 12) (Binary (following 3) (ThenOperation operators.Subtract (at 15) (Number (at 16) 5) NoOperations)) NoOperations)))) (at 17)))
    (Default (returned (Number (at 23) 7))))) NoItems))
    ∷ [])) (HasEnded (Returned (pos 7)))
loan_left_by_exception = (refl, refl)

-- int main(){ int @`U p = rnew(unique_region) 5; { let alias <`r> int @`r x = p; { int @`r i = x; region<`S> h; int @`r @`S n = rnew(h) i; **n = **n + 1; } } int x = *p; ufree(p); return x; }
reached_inside_a_loan : Ends (check_of texts (
    main (
    with_unique (
    block (aliased (block (
    MoreItems (Local (into 8) (named 5 12) (Some (Variable (named 3 13))))
    (MoreItems (Region (named 1 14) (named 9 15) None)
    (MoreItems (Local (record { place = at 1; base = Int; marks = record { kind = marks.NonNull; region = Some (named 8 3) } ∷ record { kind = marks.NonNull; region = Some (named 1 4) } ∷ [] }) (named 4 16)
    (Some (RegionNew (at 17) (Variable (named 9 18)) (Plain (Variable (named 5 19))))))
    (assigned (Prefixed (at 21) prefixes.Dereference (following 4)) (plus (Prefixed (at 22) prefixes.Dereference (following 4)) (Number (at 23) 1)) NoItems)))) NoItems))
    (MoreItems (Local (written Int []) (named 3 24) (Some (following 2)))
    (unique_freed (returned (Variable (named 3 25)))))))
    ∷ [])) (HasEnded (Returned (pos 6)))
reached_inside_a_loan = (refl, refl)
