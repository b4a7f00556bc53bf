use Rattle.std.proofs.Common.{◌≡◌, ◌+◌, length, refl, ap, ◌∙◌, arith}
use Rattle.std.proofs.lemmas.List.{length-replicate}
use Rattle.cyc_types.specs.TypeView.{view_ty}
use Rattle.cyc_types.specs.flow.States.{Vacant, Reached}
use Rattle.cyc_flow.specs.inside.Tables.{table_length, view_table}
use Rattle.cyc_flow.proofs.States.{start_known}
use Rattle.cyc_flow.proofs.Tables.{length_known}
use Rattle.cyc_flow.proofs.check.start_of.Goals as goal

pub fill-requires : goal.fill-requires
fill-requires c =
    let t = c.in_ok-locals.locals in
    let all : length (view_table t) ≡ c.len-parameters.result + c.len.result = ap length c.in_ok-locals.ensures ∙ length-replicate (c.len-parameters.result + c.len.result) Vacant in
    omega (arith, all, length_known t (table_length t) refl)

pub returns : goal.returns
returns c =
    let d : c.len-parameters.result ≡ length c.args.function.now.parameters.items = omega (arith, c.len-parameters.ensures) in
    let e : c.len.result ≡ length c.args.function.now.locals.items = omega (arith, c.len.ensures) in
    ap Reached (start_known view_ty c.args.function.now.parameters.items c.args.function.now.locals.items c.len-parameters.result c.len.result d e (view_table c.in_ok-locals.locals) (view_table c.fill.new.self) c.in_ok-locals.ensures c.fill.ensures)
