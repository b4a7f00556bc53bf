use Rattle.std.proofs.Common.{◌≡◌, ◌<◌, ℕ, rules, sym, ap, ◌∙◌, map, length, get_or, None, [], ◌∷◌, ◌++◌}
use Rattle.cyc_scope.specs.inside.Tables.{first_place, declared_names}
use Rattle.cyc_scope.specs.inside.Entries.{view_entry}
use Rattle.cyc_scope.proofs.TableLemmas.{set_first, keep_first}
use Rattle.cyc_scope.proofs.EntryLemmas.{declared_count, declared_push}
use Rattle.cyc_scope.proofs.declared.Declared.declare.Goals as goal

pub invariant_of-self-in-None : goal.invariant_of-self-in-None
invariant_of-self-in-None c = λ x.
    let lt : c.args.name < length c.grow.new.table.items = search rules in
    let finds : (y : ℕ) → get_or c.grow.new.table.items y None ≡ first_place (declared_names (map view_entry c.self.inside.entries.items)) y = λ y. c.grow.ensures.same y ∙ c.self.invariant y in
    let pushed : c.push.new.self.items ≡ c.self.inside.entries.items ++ record { name = c.args.name; entity = c.args.entity } ∷ [] = search rules in
    let at : c.len-place.result ≡ length (declared_names (map view_entry c.self.inside.entries.items)) = c.len-place.ensures ∙ c.self.inside.entries.ok.0 ∙ sym (declared_count c.self.inside.entries.items) in
    set_first c.grow.new.table.items (declared_names (map view_entry c.self.inside.entries.items)) c.args.name c.len-place.result x at lt finds (sym c.place-known.ensures ∙ c.in-None.is)
    ∙ ap (λ ys. first_place ys x) (sym (declared_push c.self.inside.entries.items (record { name = c.args.name; entity = c.args.entity })) ∙ ap (λ es. declared_names (map view_entry es)) (sym pushed))

pub invariant_of-self-in-Some : goal.invariant_of-self-in-Some
invariant_of-self-in-Some c = λ x.
    let finds : (y : ℕ) → get_or c.grow.new.table.items y None ≡ first_place (declared_names (map view_entry c.self.inside.entries.items)) y = λ y. c.grow.ensures.same y ∙ c.self.invariant y in
    let pushed : c.push.new.self.items ≡ c.self.inside.entries.items ++ record { name = c.args.name; entity = c.args.entity } ∷ [] = search rules in
    keep_first c.grow.new.table.items (declared_names (map view_entry c.self.inside.entries.items)) c.args.name c.in-Some.field-0 x finds (sym c.place-known.ensures ∙ c.in-Some.is)
    ∙ ap (λ ys. first_place ys x) (sym (declared_push c.self.inside.entries.items (record { name = c.args.name; entity = c.args.entity })) ∙ ap (λ es. declared_names (map view_entry es)) (sym pushed))
