use Rattle.std.proofs.Common.{sym, ◌∙◌, arith}
use Rattle.cyc_types.specs.flow.States.{are_as_full}
use Rattle.cyc_flow.specs.inside.Code.{view_fullness}
use Rattle.cyc_flow.specs.inside.Tables.{view_table}
use Rattle.cyc_flow.proofs.Tables.{as_full_step, as_full_end, length_known}
use Rattle.cyc_flow.proofs.table.Table.are_as_full.Goals as goal

pub loop-number-preserved : goal.loop-number-preserved
loop-number-preserved c =
    let t = c.args.self.now in
    let u = c.args.other.now in
    let l = length_known t c.len-number-end.result c.len-number-end.ensures in
    let same = l ∙ sym (length_known u c.len-number-end.result (c.len-number-end.ensures ∙ c.requires)) in
    as_full_step (view_table t) (view_table u) c.loop-number.number (view_fullness c.fullness.result) (view_fullness c.fullness-in-loop-number.result) (are_as_full (view_table t) (view_table u)) (omega (arith, l, c.loop-number-test.true)) same c.fullness.ensures c.fullness-in-loop-number.ensures c.if-not-is_as_full.ensures c.loop-number.invariant

pub returns : goal.returns
returns c =
    let t = c.args.self.now in
    let u = c.args.other.now in
    let l = length_known t c.len-number-end.result c.len-number-end.ensures in
    let same = l ∙ sym (length_known u c.len-number-end.result (c.len-number-end.ensures ∙ c.requires)) in
    sym (as_full_end (view_table t) (view_table u) c.loop-number.number (omega (arith, l, c.loop-number-test.false)) same) ∙ c.loop-number.invariant
