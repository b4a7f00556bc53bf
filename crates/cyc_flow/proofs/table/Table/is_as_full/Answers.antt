use Rattle.std.proofs.Common.{◌≡◌, sym, ◌∙◌, arith}
use Rattle.cyc_flow.specs.inside.Tables.{table_length}
use Rattle.cyc_flow.proofs.Tables.{cover_known, unequal_known}
use Rattle.cyc_flow.proofs.table.Table.is_as_full.Goals as goal

pub returns-then-len : goal.returns-then-len
returns-then-len c = unequal_known c.args.self.now c.args.other.now (λ e. c.if-len.true (c.len.ensures ∙ e ∙ sym c.len-2.ensures))

pub returns-then-cover_each : goal.returns-then-cover_each
returns-then-cover_each c =
    let same : table_length c.args.self.now ≡ table_length c.args.other.now = omega (arith, c.len.ensures, c.len-2.ensures, c.if-len.false) in
    c.if-cover_each.true ∙ cover_known c.args.self.now c.args.other.now c.deref.result.now c.deref-2.result.now same c.deref.ensures.value c.deref-2.ensures.value (c.cover_each.ensures c.if-cover_each.true)
