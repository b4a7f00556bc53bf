use Rattle.std.proofs.Common.{◌≡◌, ℕ, List, sym, ap, ◌∙◌, nat_eq, not, ◌&&◌, false, get_or, reverse}
use Rattle.std.specs.List.{list_any}
use Rattle.cyc_types.proofs.NameLemmas.{none_left}
use Rattle.cyc_types.proofs.name_set.NameSet.clear.Goals as goal

pub invariant_of-self : goal.invariant_of-self
invariant_of-self c = λ x.
    let names : c.deref.result.now ≡ c.self.inside.names.items = c.deref.ensures.value in
    let left = c.unmark_all.ensures x ∙ ap (λ (ns : List ℕ). not (list_any (nat_eq x) ns) && get_or c.self.inside.marks.items x false) names in
    none_left c.self.inside.marks.items c.self.inside.names.items c.unmark_all.new.table.items x (c.self.invariant x) left
    ∙ sym (ap (λ (ns : List ℕ). list_any (nat_eq x) (reverse ns)) c.clear.ensures.items)
