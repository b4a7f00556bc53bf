use Rattle.std.proofs.Common.{◌≡◌, ◌≤◌, ◌∙◌, ◌++◌, List, Option, None, length, replicate, slice_get, append-nil, ap, sym, subst}
use Rattle.std.proofs.lemmas.Option.{slice_get_past}
use Rattle.std.specs.declared.vec.Vec.{Vec}
use Rattle.std.specs.declared.alloc.Global.{Global}
use Rattle.cyc_plain.specs.declared.instruction.Instruction.{Instruction}
use Rattle.cyc_plain.specs.inside.Program.{routine_at}
use Rattle.cyc_inline.specs.inside.Emission.{all_hoisted_if}
use Rattle.cyc_inline.proofs.emission.Emission.push_wanted.Goals as goal

pub returns-in-None-clause-code : goal.returns-in-None-clause-code
returns-in-None-clause-code c =
    let past : length c.args.choice.now.all_hoisted.items ≤ c.args.index = subst (λ (table : List (Vec Instruction Global)). length table ≤ c.args.index) c.deref.ensures.value c.in-None.ensures.lookup.3 in
    let none : slice_get c.args.choice.now.all_hoisted.items c.args.index ≡ None = slice_get_past c.args.choice.now.all_hoisted.items c.args.index past in
    let program = c.args.plain.now in
    sym (ap (λ (wanted : Option (Vec Instruction Global)). c.args.self.now.code.items ++ all_hoisted_if (length program.globals) (routine_at program c.args.number).slots c.args.choice.now.slots c.args.instruction wanted) none
    ∙ append-nil c.args.self.now.code.items)

pub returns-in-None-clause-origins : goal.returns-in-None-clause-origins
returns-in-None-clause-origins c =
    let past : length c.args.choice.now.all_hoisted.items ≤ c.args.index = subst (λ (table : List (Vec Instruction Global)). length table ≤ c.args.index) c.deref.ensures.value c.in-None.ensures.lookup.3 in
    let none : slice_get c.args.choice.now.all_hoisted.items c.args.index ≡ None = slice_get_past c.args.choice.now.all_hoisted.items c.args.index past in
    let program = c.args.plain.now in
    sym (ap (λ (wanted : Option (Vec Instruction Global)).
    c.args.self.now.origins.items ++ replicate (length (all_hoisted_if (length program.globals) (routine_at program c.args.number).slots c.args.choice.now.slots c.args.instruction wanted)) c.args.origin) none
    ∙ append-nil c.args.self.now.origins.items)
