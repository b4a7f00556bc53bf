use Rattle.std.proofs.Common.{ap, sym, ◌∙◌}
use Rattle.cyc_types.specs.declared.typed.Stmt.{Stmt}
use Rattle.cyc_types.specs.TypedTreeView.{view_statement, clauses_of, default_of}
use Rattle.cyc_meaning.specs.Exceptions.{tries}
use Rattle.cyc_interpret.specs.View.{stack_of, environment_of, world_of}
use Rattle.cyc_interpret.proofs.Nodes.{blocks, attempts}
use Rattle.cyc_interpret.proofs.machine.Machine.execute.Goals as goal

pub returns-in_ok-enter_block-in-Block : goal.returns-in_ok-enter_block-in-Block
returns-in_ok-enter_block-in-Block c =
    let e = blocks c.args.statement.now c.in-Block.region c.in-Block.items c.in-Block.is (stack_of c.args.self.now) (environment_of c.args.self.now) (world_of c.args.self.now) in
    c.in_ok-enter_block-in-Block.ensures ∙ sym e

pub returns-in_ok-attempt-in-Try : goal.returns-in_ok-attempt-in-Try
returns-in_ok-attempt-in-Try c =
    let e = attempts c.args.statement.now c.in-Try.span c.in-Try.body c.in-Try.clauses c.in-Try.default c.in-Try.is (stack_of c.args.self.now) (environment_of c.args.self.now) (world_of c.args.self.now) in
    c.in_ok-attempt-in-Try.ensures
    ∙ (ap (λ (s : Stmt). tries (view_statement s) (clauses_of c.in-Try.clauses.items (default_of c.in-Try.default)) (stack_of c.args.self.now) (environment_of c.args.self.now) (world_of c.args.self.now)) c.deref-in-Try.ensures ∙ sym e)
