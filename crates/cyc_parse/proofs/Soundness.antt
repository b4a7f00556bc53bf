-- SOUNDNESS: a tree that the parser returns is a parse tree of all the symbols and keeps the limits on nesting and list length. If the
-- parser rejects a symbol for a limit, some program begins with the symbols up to that one.
use Rattle.std.proofs.Common.{◌≡◌, ℕ, zero, suc, ◌≤◌, List, [], ◌∷◌, ◌++◌, length, Option, Some, None, Ok, Err, refl, sym, ap, subst, ◌∙◌, arith, append_assoc}
use Rattle.std.proofs.lemmas.List.{append_cancel_right}
use Rattle.std.specs.Option.{IfSome}
use Rattle.std.specs.List.{AllByRecursion}
use Rattle.cyc_syntax.specs.Symbols.{Place, Terminal, Symbol}
use Rattle.cyc_syntax.specs.Trees.{Declaration}
use Rattle.cyc_syntax.specs.Yields.{Leaf, Yield}
use Rattle.cyc_syntax.specs.Yields as yields
use Rattle.cyc_syntax.specs.Grammar.{IsLeaf, IsSpelled, HasTree, IsNonempty, IsDeclaration, AreDeclarations, IsWithin, IsWithinLimits}
use Rattle.cyc_syntax.specs.inside.Weight.{tree_weight}
use Rattle.cyc_syntax.proofs.WeightLemmas.{tree_weight-length}
use Rattle.cyc_parse.specs.inside.Parsing.{Parser, Reason, bind, pure, choose}
use Rattle.cyc_parse.specs.inside.Declarations.{declaration, declarations_in, program, program_of}
use Rattle.cyc_parse.proofs.Rules.{Front}
use Rattle.cyc_parse.proofs.Locality.{left_of}
use Rattle.cyc_parse.proofs.LocalExpressions.{was_read}
use Rattle.cyc_parse.proofs.LocalDeclarations.{declaration_runs}
use Rattle.cyc_parse.proofs.Gives.{Derived, answer_of, front-append, within-append, IsLimit, Gives, Spells, spelled_then, last_then, pure_gives, gives_instead}
use Rattle.cyc_parse.proofs.GivesSymbols.{some_place, choose_gives}
use Rattle.cyc_parse.proofs.GivesDeclarations.{declaration_gives}

-- ---- all symbols are read

ends_made : {A B : Type 0} (p : Parser A) (make : A → B) (ts rest : List Symbol) (y : B) → ((x : A) (left : List Symbol) → p ts ≡ Ok (x, left) → left ≡ []) → bind p (λ x. pure (make x)) ts ≡ Ok (y, rest) → rest ≡ []
ends_made p make ts rest y h e = let w = was_read p (λ x. pure (make x)) ts rest y e in sym (ap left_of w.second) ∙ h w.value w.mid w.first

declarations_leave_none : (turns : ℕ) (ts rest : List Symbol) (ds : List Declaration) → length ts ≤ turns → declarations_in 200 turns ts ≡ Ok (ds, rest) → rest ≡ []
unfolding declarations_in choose
declarations_leave_none zero [] rest ds few h = sym (ap left_of h)
declarations_leave_none zero (t ∷ ts) rest ds few h = absurd (omega (arith, few))
declarations_leave_none (suc turns) [] rest ds few h = sym (ap left_of h)
declarations_leave_none (suc turns) (t ∷ ts) rest ds few h =
    let w = was_read (declaration 200) (λ d. bind (declarations_in 200 turns) (λ ds. pure (d ∷ ds))) (t ∷ ts) rest ds h in
    ends_made (declarations_in 200 turns) (λ ds. w.value ∷ ds) w.mid rest ds
    (λ ds left e. declarations_leave_none turns w.mid left ds (omega (arith, few, (declaration_runs 200).shorter refl (t ∷ ts) w.mid w.value w.first)) e) w.second

-- ---- the returned tree

one_gives : (ts : List Symbol) → Gives (declaration 200) (Spells (yields.declaration 0) (λ x _. IsDeclaration x)) ts
one_gives = declaration_gives 200 0 refl (omega arith)

declarations_give : (turns : ℕ) (ts : List Symbol) → Gives (declarations_in 200 turns) (Spells yields.program (λ ds _. AreDeclarations ds)) ts
unfolding declarations_in
declarations_give zero ts = pure_gives (refl, tt)
declarations_give (suc turns) ts = choose_gives (λ o e. by_next o (declarations_give turns))
  where
    by_next : (o : Option Terminal) → ((ts : List Symbol) → Gives (declarations_in 200 turns) (Spells yields.program (λ ds _. AreDeclarations ds)) ts)
        → Gives {A = List Declaration} (elim o [
          | None ↦ pure []
          | Some t ↦ bind (declaration 200) (λ d. bind (declarations_in 200 turns) (λ ds. pure (d ∷ ds)))
        ]) (Spells yields.program (λ ds _. AreDeclarations ds)) ts
    by_next None more = pure_gives (refl, tt)
    by_next (Some t) more = spelled_then (one_gives ts) (λ d mid is. last_then (λ ds. d ∷ ds) (more mid) (λ ds rest are. (refl, (is, are))))

front_spelled : (leaves : Yield) (ts : List Symbol) → Front leaves ts [] → IsSpelled leaves ts
front_spelled [] [] h = tt
front_spelled [] (t ∷ ts) h = absurd (cc)
front_spelled (l ∷ ls) [] (t, more, e, is, front) = absurd (cc)
front_spelled (l ∷ ls) (t ∷ ts) (s, more, e, is, front) =
    let first : s ≡ t = cc in
    let others : more ≡ ts = cc in
    (subst (IsLeaf l) first is, front_spelled ls ts (subst (λ (w : List Symbol). Front ls w []) others front))

pub record IsParsed (ts : List Symbol) (tree : List Declaration) (left : List Symbol) : Type 0 where
  pub all : left ≡ []
  pub has : HasTree ts tree
  pub within : IsWithinLimits tree

pub program_of-sound : (ts left : List Symbol) (tree : List Declaration) → program_of ts ≡ Ok (tree, left) → IsParsed ts tree left
program_of-sound ts left tree h =
    let w = was_read (declaration 200) (λ d. bind (λ s. declarations_in 200 (length s) s) (λ ds. pure (d ∷ ds))) ts left tree h in
    let v = was_read (λ s. declarations_in 200 (length s) s) (λ ds. pure (w.value ∷ ds)) w.mid left tree w.second in
    let a = (one_gives ts).gives w.mid w.value w.first in
    let b = (declarations_give (length w.mid) w.mid).gives v.mid v.value v.first in
    let none = declarations_leave_none (length w.mid) w.mid v.mid v.value (omega arith) v.first in
    assemble ts left tree w.mid v.mid w.value v.value a b none v.second
  where
    assemble : (ts left : List Symbol) (tree : List Declaration) (mid end : List Symbol) (d : Declaration) (ds : List Declaration)
        → Derived ts mid (λ ls. Spells (yields.declaration 0) (λ x _. IsDeclaration x) d ls mid) → Derived mid end (λ ls. Spells yields.program (λ ds _. AreDeclarations ds) ds ls end)
        → end ≡ [] → pure (d ∷ ds) end ≡ Ok (tree, left) → IsParsed ts tree left
    assemble ts left tree mid end d ds a b none h =
        let value : d ∷ ds ≡ tree = ap (answer_of tree) h in
        let front = front-append a.leaves b.leaves ts mid end a.front b.front in
        let keeps = within-append a.leaves b.leaves a.within b.within in
        let whole : Front (yields.program (d ∷ ds)) ts [] = subst (λ (xs : Yield). Front (xs ++ yields.program ds) ts []) a.post.0 (subst (λ (ys : Yield). Front (a.leaves ++ ys) ts []) b.post.0 (subst (λ (s : List Symbol). Front (a.leaves ++ b.leaves) ts s) none front)) in
        let small : IsWithinLimits (d ∷ ds) = subst (λ (xs : Yield). AllByRecursion IsWithin (xs ++ yields.program ds)) a.post.0 (subst (λ (ys : Yield). AllByRecursion IsWithin (a.leaves ++ ys)) b.post.0 keeps) in
        record {
          all = sym (ap left_of h) ∙ none;
          has = subst (HasTree ts) value (record { nonempty = tt; formed = (a.post.1, b.post.1); spelled = front_spelled (yields.program (d ∷ ds)) ts whole });
          within = subst IsWithinLimits value small;
        }

-- The weight of a returned tree, that is, its number of tokens, equals the number of symbols that it was parsed from.
pub answered_weight : (ts left : List Symbol) (tree : List Declaration) → program_of ts ≡ Ok (tree, left) → tree_weight tree ≡ length ts
answered_weight ts left tree h = tree_weight-length ts tree (program_of-sound ts left tree h).has

-- ---- symbols rejected for a limit

program_gives : (ts : List Symbol) → Gives (program 200) (Spells yields.program (λ ds _. IsNonempty ds × AreDeclarations ds)) ts
program_gives ts = spelled_then (one_gives ts) (λ d mid is. last_then (λ ds. d ∷ ds) (gives_instead (declarations_in 200 (length mid)) refl (declarations_give (length mid) mid)) (λ ds rest are. (refl, (tt, (is, are)))))

-- Returns a leaf's stored source position, or an arbitrary one if none is stored.
abbrev place_or : Option Place → Place
place_or None = some_place
place_or (Some p) = p

abbrev symbol_for : Leaf → Symbol
symbol_for leaf = record { terminal = leaf.terminal; place = place_or leaf.place }

abbrev symbols_for : Yield → List Symbol
symbols_for [] = []
symbols_for (leaf ∷ leaves) = symbol_for leaf ∷ symbols_for leaves

place_kept : (o : Option Place) → IfSome o (λ p. place_or o ≡ p)
place_kept None = tt
place_kept (Some p) = refl

for_spelled : (leaves : Yield) → IsSpelled leaves (symbols_for leaves)
for_spelled [] = tt
for_spelled (leaf ∷ leaves) = (record { terminal = refl; place = place_kept leaf.place }, for_spelled leaves)

spelled-append : (xs ys : Yield) (ts us : List Symbol) → IsSpelled xs ts → IsSpelled ys us → IsSpelled (xs ++ ys) (ts ++ us)
spelled-append [] ys [] us first second = second
spelled-append [] ys (t ∷ ts) us first second = absurd first
spelled-append (x ∷ xs) ys [] us first second = absurd first
spelled-append (x ∷ xs) ys (t ∷ ts) us (is, first) second = (is, spelled-append xs ys ts us first second)

-- If a yield's symbols come before `rest`, then the symbols before `rest` spell the yield.
before_rest : (leaves : Yield) (ts rest : List Symbol) → Front leaves ts rest → (before : List Symbol) × (ts ≡ before ++ rest) × IsSpelled leaves before
before_rest [] ts rest same = ([], same, tt)
before_rest (leaf ∷ leaves) ts rest (t, more, e, is, front) =
    let (before, are, spelled) = before_rest leaves more rest front in
    (t ∷ before, e ∙ ap (λ (us : List Symbol). t ∷ us) are, (is, spelled))

pub limit_begun : (front back : List Symbol) (s : Symbol) (why : Reason) → IsLimit why → program_of (front ++ s ∷ back) ≡ Err (record { reason = why; left = s ∷ back })
    → (more : List Symbol) × (tree : List Declaration) × HasTree (front ++ s ∷ more) tree
limit_begun front back s why limit h =
    let c = (program_gives (front ++ s ∷ back)).goes (record { reason = why; left = s ∷ back }) h limit in
    let b = c.begins in
    let (before, are, spelled) = before_rest b.done (front ++ s ∷ back) b.back b.front in
    let following : back ≡ b.back = rest_same back b.back s b.symbol b.left_are in
    let same : before ≡ front ++ s ∷ [] =
    append_cancel_right before (front ++ s ∷ []) back (ap (λ (us : List Symbol). before ++ us) following ∙ sym are ∙ sym (append_assoc front (s ∷ []) back)) in
    let whole : IsSpelled (b.done ++ b.more) (before ++ symbols_for b.more) = spelled-append b.done b.more before (symbols_for b.more) spelled (for_spelled b.more) in
    let symbols : before ++ symbols_for b.more ≡ front ++ s ∷ symbols_for b.more = ap (λ (us : List Symbol). us ++ symbols_for b.more) same ∙ append_assoc front (s ∷ []) (symbols_for b.more) in (
      symbols_for b.more,
      c.value,
      record {
        nonempty = c.post.1.0;
        formed = c.post.1.1;
        spelled = subst (λ (ys : Yield). IsSpelled ys (front ++ s ∷ symbols_for b.more)) (sym b.are ∙ c.post.0) (subst (IsSpelled (b.done ++ b.more)) symbols whole);
      },
    )
  where
    rest_same : (xs ys : List Symbol) (s t : Symbol) → s ∷ xs ≡ t ∷ ys → xs ≡ ys
    rest_same xs ys s t e = cc
