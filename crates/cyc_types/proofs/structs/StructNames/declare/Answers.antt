use Rattle.std.proofs.Common.{◌≡◌, ◌<◌, ℕ, rules, sym, ap, ◌∙◌, map, length, get_or, None, [], ◌∷◌, ◌++◌}
use Rattle.std.proofs.lemmas.List.{map-append}
use Rattle.cyc_types.specs.inside.StructTables.{view_entry, known_from}
use Rattle.cyc_types.proofs.StructLemmas.{set_known, old_known}
use Rattle.cyc_types.proofs.structs.StructNames.declare.Goals as goal

pub invariant_of-self-in-None : goal.invariant_of-self-in-None
invariant_of-self-in-None c = λ x.
    let lt : c.args.name < length c.grow.new.table.items = search rules in
    let finds : (y : ℕ) → get_or c.grow.new.table.items y None ≡ known_from 0 (map view_entry c.self.inside.entries.items) y = λ y. c.grow.ensures.same y ∙ c.self.invariant y in
    let pushed : c.push.new.self.items ≡ c.self.inside.entries.items ++ record { name = c.args.name; parameters = c.args.parameters } ∷ [] = search rules in
    set_known c.grow.new.table.items (map view_entry c.self.inside.entries.items) (record { name = c.args.name; parameters = c.args.parameters }) c.len-number.result x
    c.len-number.ensures lt finds (finds c.args.name ∙ sym c.find-known.ensures ∙ c.in-None.is)
    ∙ ap (λ ss. known_from 0 ss x) (sym (map-append view_entry c.self.inside.entries.items (record { name = c.args.name; parameters = c.args.parameters } ∷ [])) ∙ ap (map view_entry) (sym pushed))

pub invariant_of-self-in-Some : goal.invariant_of-self-in-Some
invariant_of-self-in-Some c = λ x.
    let finds : (y : ℕ) → get_or c.grow.new.table.items y None ≡ known_from 0 (map view_entry c.self.inside.entries.items) y = λ y. c.grow.ensures.same y ∙ c.self.invariant y in
    let pushed : c.push.new.self.items ≡ c.self.inside.entries.items ++ record { name = c.args.name; parameters = c.args.parameters } ∷ [] = search rules in
    old_known c.grow.new.table.items (map view_entry c.self.inside.entries.items) (record { name = c.args.name; parameters = c.args.parameters }) c.in-Some.field-0 x finds (sym c.find-known.ensures ∙ c.in-Some.is)
    ∙ ap (λ ss. known_from 0 ss x) (sym (map-append view_entry c.self.inside.entries.items (record { name = c.args.name; parameters = c.args.parameters } ∷ [])) ∙ ap (map view_entry) (sym pushed))
