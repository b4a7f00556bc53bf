-- COMPLETENESS: if symbols have a parse tree, the parser returns that tree, or it rejects them for the first limit (on nesting or list
-- length) that the tree breaks.
use Rattle.std.proofs.Common.{◌≡◌, ℕ, zero, suc, ◌≤◌, List, [], ◌∷◌, ◌++◌, length, Some, None, Ok, refl, sym, ap, subst, ◌∙◌, arith, length-append}
use Rattle.cyc_syntax.specs.Symbols.{Symbol}
use Rattle.cyc_syntax.specs.Trees.{Declaration, StructType, Exceptions, Global, Function, WrittenType, BaseType, Int, Char, Struct, Handle, Key}
use Rattle.cyc_syntax.specs.Yields.{Leaf, Yield}
use Rattle.cyc_syntax.specs.Yields as yields
use Rattle.cyc_syntax.specs.Grammar.{IsSpelled, HasTree, IsDeclaration, AreDeclarations}
use Rattle.cyc_parse.specs.inside.Parsing.{pure, bind, choose}
use Rattle.cyc_parse.specs.inside.Declarations.{declaration, declarations_in, program, program_of}
use Rattle.cyc_parse.proofs.Rules.{Front, judge, Reads, Always, front-length, then_reads, last_reads, pure_reads, reads_instead}
use Rattle.cyc_parse.proofs.DeclarationReads.{all_declarations}

-- Holds if the list of symbols is empty, that is, if the text ends here.
pub record IsEnd (ts : List Symbol) : Type 0 where
  pub end : ts ≡ []

-- Says that the yield of a declaration has a first token.
pub record HasFirst (leaves : Yield) : Type 0 where
  pub first : Leaf
  pub others : Yield
  pub are : leaves ≡ first ∷ others

first_append : {xs : Yield} (ys : Yield) → HasFirst xs → HasFirst (xs ++ ys)
first_append ys h = record { first = h.first; others = h.others ++ ys; are = ap (λ (zs : Yield). zs ++ ys) h.are }

type_first : (d : ℕ) (t : WrittenType) → HasFirst (yields.written_type d t)
type_first d t = first_append (yields.marks d t.marks) (of_base t.base)
  where
    of_base : (b : BaseType) → HasFirst (yields.base_type d t.place b)
    of_base Int = record { first = _; others = _; are = refl }
    of_base Char = record { first = _; others = _; are = refl }
    of_base (Struct s rs) = record { first = _; others = _; are = refl }
    of_base (Handle r) = record { first = _; others = _; are = refl }
    of_base (Key r) = record { first = _; others = _; are = refl }

declaration_first : (x : Declaration) → HasFirst (yields.declaration 0 x)
declaration_first (StructType s rs fs) = record { first = _; others = _; are = refl }
declaration_first (Exceptions cs) = record { first = _; others = _; are = refl }
declaration_first (Global t x v) = first_append _ (type_first 0 t)
declaration_first (Function None f ps b) = record { first = _; others = _; are = refl }
declaration_first (Function (Some t) f ps b) = first_append _ (type_first 0 t)

declaration_some : (x : Declaration) → 1 ≤ length (yields.declaration 0 x)
declaration_some x = let h = declaration_first x in subst (λ (ys : Yield). 1 ≤ length ys) (sym h.are) (omega arith)

declarations-length : (xs : List Declaration) → length xs ≤ length (yields.program xs)
declarations-length [] = omega arith
declarations-length (x ∷ xs) = omega (arith, declarations-length xs, declaration_some x, length-append (yields.declaration 0 x) (yields.program xs))

one_reads : (x : Declaration) → IsDeclaration x → Reads (declaration 200) x (yields.declaration 0 x) Always
one_reads x is = all_declarations 198 0 refl x is

declarations_in_reads : (turns : ℕ) (xs : List Declaration) → length xs ≤ turns → AreDeclarations xs → Reads (declarations_in 200 turns) xs (yields.program xs) IsEnd
unfolding declarations_in choose
declarations_in_reads zero [] few are = pure_reads [] IsEnd
declarations_in_reads zero (x ∷ xs) few are = absurd (omega arith)
declarations_in_reads (suc turns) [] few are = reads_instead (pure []) (λ ts rest front ends. at_end ts (front ∙ ends.end)) (pure_reads [] IsEnd)
  where
    at_end : (ts : List Symbol) → ts ≡ [] → declarations_in 200 (suc turns) ts ≡ pure [] ts
    at_end ts e = subst (λ (w : List Symbol). declarations_in 200 (suc turns) w ≡ pure [] w) (sym e) refl
declarations_in_reads (suc turns) (x ∷ xs) few (is, are) = reads_instead (bind (declaration 200) (λ v. bind (declarations_in 200 turns) (λ vs. pure (v ∷ vs))))
    (λ ts rest front ends. going ts rest (subst (λ (ys : Yield). Front (ys ++ yields.program xs) ts rest) (declaration_first x).are front))
    (then_reads _ (one_reads x is) (last_reads (λ (vs : List Declaration). pure (x ∷ vs)) (λ ts. refl) (declarations_in_reads turns xs (omega arith) are)) (λ mid rest front ends. tt))
  where
    going : (ts rest : List Symbol) → Front ((declaration_first x).first ∷ ((declaration_first x).others ++ yields.program xs)) ts rest → declarations_in 200 (suc turns) ts ≡ bind (declaration 200) (λ v. bind (declarations_in 200 turns) (λ vs. pure (v ∷ vs))) ts
    going ts rest (t, more, e, is_leaf, front) = subst (λ (w : List Symbol). declarations_in 200 (suc turns) w ≡ bind (declaration 200) (λ v. bind (declarations_in 200 turns) (λ vs. pure (v ∷ vs))) w) (sym e) refl

program_reads : (x : Declaration) (xs : List Declaration) → AreDeclarations (x ∷ xs) → Reads (program 200) (x ∷ xs) (yields.program (x ∷ xs)) IsEnd
program_reads x xs (is, are) = then_reads _ (one_reads x is) (last_reads (λ (vs : List Declaration). pure (x ∷ vs)) (λ ts. refl) (record {
  reads = λ ts rest front ends.
      (declarations_in_reads (length ts) xs (omega (arith, declarations-length xs, front-length (yields.program xs) ts rest front)) are).reads ts rest front ends;
})) (λ mid rest front ends. tt)

pub spelled_front : (leaves : Yield) (ts : List Symbol) → IsSpelled leaves ts → Front leaves ts []
spelled_front [] [] h = refl
spelled_front [] (t ∷ ts) h = absurd h
spelled_front (l ∷ ls) [] h = absurd h
spelled_front (l ∷ ls) (t ∷ ts) (is, more) = (t, ts, refl, is, spelled_front ls ts more)

pub program_of-complete : (ts : List Symbol) (tree : List Declaration) → HasTree ts tree → program_of ts ≡ judge (yields.program tree) ts (Ok (tree, []))
program_of-complete ts [] h = absurd h.nonempty
program_of-complete ts (x ∷ xs) h = (program_reads x xs h.formed).reads ts [] (spelled_front (yields.program (x ∷ xs)) ts h.spelled) (record { end = refl })
