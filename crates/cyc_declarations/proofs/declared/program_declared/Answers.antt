use Rattle.std.proofs.Common.{rules, ◌≡◌, ◌+◌, ◌∷◌, map, drop, get_or, sym, ap, ◌∙◌}
use Rattle.std.proofs.lemmas.List.{drop_more}
use Rattle.cyc_syntax.specs.inside.TreeView.{view_declaration}
use Rattle.cyc_declarations.specs.inside.Declaring.{state_of, after_declarations}
use Rattle.cyc_declarations.proofs.DeclaringLemmas.{one_after}
use Rattle.cyc_declarations.proofs.declared.program_declared.Goals as goal

pub loop-declaration-preserved : goal.loop-declaration-preserved
loop-declaration-preserved c =
    let ds = c.args.declarations.now in
    let i = c.loop-declaration.declaration-index in
    let d = c.declaration-item.result in
    let there : get_or ds i d ≡ d = search rules in
    let is : drop i ds ≡ d ∷ drop (i + 1) ds = drop_more ds i d c.loop-declaration-test.true ∙ ap (λ x. x ∷ drop (i + 1) ds) there in
    ap (after_declarations (map view_declaration (drop (i + 1) ds))) c.in_ok-declare.ensures.declared
    ∙ one_after (view_declaration d) (map view_declaration (drop (i + 1) ds)) (state_of c.loop-declaration.declared)
    ∙ sym (ap (λ xs. after_declarations (map view_declaration xs) (state_of c.loop-declaration.declared)) is)
    ∙ c.loop-declaration.invariant
