use denote.Enum.Bare.{sameb, same_true}
use Rattle.std.proofs.Math.Bool.{◌&&◌, not}
use Rattle.std.proofs.Math.Dec.{eqb}
use Rattle.std.proofs.lemmas.Bool.{and_parts, eqb-true}
use Rattle.cyc_words.specs.contracts.fault.Code.{the_type}
use Rattle.std.proofs.Common.{◌≡◌, ◌⊎◌, inl, inr, refl, rules, ℕ, Bool, true, false, List, Option, None, Some, ap, subst, sym, ◌∙◌}
use Rattle.std.specs.Prelude.{IfSome}
use Rattle.cyc_words.specs.declared.fault.Code.{Code}
use Rattle.cyc_words.specs.declared.fault.Fault.{Fault}
use Rattle.cyc_words.specs.Fault.{memory_fault}
use Rattle.cyc_syntax.specs.declared.tree.Tree.{Tree}
use Rattle.cyc_syntax.specs.inside.TreeView.{declarations_of}
use Rattle.cyc_types.specs.typing.Programs.{IsRefusedProgram}
use Rattle.cyc_front.specs.Front.{names_in, IsRefusedText}
use Rattle.cyc_rendering.specs.inside.Reading.{HasTree}
use Rattle.cyc_messages.specs.inside.Refusal.{is_explained}
use Rattle.cyc_messages.proofs.refusal.words_for.Goals as goal

-- A boolean whose negation is false is true.
not_false : (x : Bool) → false ≡ not x → x ≡ true
not_false true e = refl
not_false false e = cc

abbrev fault_of : Code → ℕ → ℕ → Fault
fault_of code line column = record { code = code; line = line; column = column }

same_fault : (a b : Fault) → false ≡ not (sameb the_type a.code b.code && (eqb a.line b.line && eqb a.column b.column)) → a ≡ b
same_fault a b e =
    let whole : (sameb the_type a.code b.code && (eqb a.line b.line && eqb a.column b.column)) ≡ true = not_false _ e in
    let (codes, places) = and_parts (sameb the_type a.code b.code) (eqb a.line b.line && eqb a.column b.column) whole in
    let (lines, columns) = and_parts (eqb a.line b.line) (eqb a.column b.column) places in
    ap (λ (code : Code). fault_of code a.line a.column) (same_true the_type (search rules) a.code b.code codes)
    ∙ (ap (λ (line : ℕ). fault_of b.code line a.column) (eqb-true a.line b.line lines)
    ∙ ap (λ (column : ℕ). fault_of b.code b.line column) (eqb-true a.column b.column columns))

-- If the checker finds a fault in the syntax tree of a text, it is a fault of the text.
refused : (text : List ℕ) (t : Tree) (found fault : Fault) → is_explained fault.code ≡ true → HasTree text t
    → (found ≡ memory_fault) ⊎ IsRefusedProgram t.names (declarations_of t) found → found ≡ fault → IsRefusedText text fault
refused text t found fault explained has (inl memory) same =
    let e : is_explained memory_fault.code ≡ true = subst (λ (x : Fault). is_explained x.code ≡ true) (sym same ∙ memory) explained in
    cc
refused text t found fault explained (tokens, is, tree, names) (inr r) same =
    inr (inr (inl (
      tokens,
      declarations_of t,
      is,
      tree,
      subst (IsRefusedProgram (names_in tokens) (declarations_of t)) same
          (subst (λ ns. IsRefusedProgram ns (declarations_of t) found) names r),
    )))

said : {A P : Type 0} (words : Option A) → P → IfSome words (λ _. P)
said None is = tt
said (Some w) is = is

pub returns : goal.returns
returns c =
    let explained : is_explained c.args.fault.code ≡ true = cc in
    let same : c.in-Some.found ≡ c.args.fault = same_fault _ _ c.if-ne.ensures in
    said _ (refused c.args.text.now c.in-Ok.tree c.in-Some.found c.args.fault explained c.in-Ok.ensures.tree c.in-Some.ensures same)
