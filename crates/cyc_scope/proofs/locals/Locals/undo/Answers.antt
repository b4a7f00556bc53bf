use Rattle.std.proofs.Common.{rules, ap, ◌∙◌, ◌++◌}
use Rattle.std.specs.Option.{option_to_list}
use Rattle.cyc_scope.proofs.LocalLemmas.{local_in_range}
use Rattle.cyc_scope.proofs.locals.Locals.undo.Goals as goal

pub index_mut-requires : goal.index_mut-requires
index_mut-requires c =
    let lt = local_in_range c.self.inside.newest.items c.pop.new.self.items c.self.inside.bindings.items c.in-Some.binding c.self.invariant
    (c.pop.ensures.items ∙ ap (λ o. c.pop.new.self.items ++ option_to_list o) c.in-Some.is) in
    search (rules, lt)
