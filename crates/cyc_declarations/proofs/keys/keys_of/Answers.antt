use Rattle.std.proofs.Common.{rules, ◌≡◌, Bool, ◌||◌, ◌+◌, ◌∷◌, map, drop, get_or, sym, ap, ◌∙◌}
use Rattle.std.proofs.Math.Bool.{or_assoc}
use Rattle.std.proofs.lemmas.List.{drop_more}
use Rattle.cyc_types.specs.TypeView.{view_ty}
use Rattle.cyc_types.specs.typing.Formation.{is_key_of}
use Rattle.cyc_types.specs.typing.DeclarationRules.{has_key}
use Rattle.cyc_declarations.specs.inside.KeyTables.{has}
use Rattle.cyc_declarations.proofs.keys.keys_of.Goals as goal

pub loop-of_type-preserved : goal.loop-of_type-preserved
loop-of_type-preserved c = λ r.
    let types = c.args.types.now in
    let i = c.loop-of_type.of_type-index in
    let item = c.of_type-item.result in
    let there : get_or types i item ≡ item = search rules in
    let is : drop i types ≡ item ∷ drop (i + 1) types = drop_more types i item c.loop-of_type-test.true ∙ ap (λ t. t ∷ drop (i + 1) types) there in
    ap (λ (b : Bool). b || has_key (map view_ty (drop (i + 1) types)) r) (c.in_ok-add-2.ensures r)
    ∙ or_assoc (has c.loop-of_type.keys r) (is_key_of r (view_ty item)) (has_key (map view_ty (drop (i + 1) types)) r)
    ∙ sym (ap (λ ts. has c.loop-of_type.keys r || has_key (map view_ty ts) r) is)
    ∙ c.loop-of_type.invariant r
