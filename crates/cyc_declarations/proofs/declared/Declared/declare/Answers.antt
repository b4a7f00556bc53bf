use Rattle.std.proofs.Common.{OnOk, ◌≡◌, sym, ap, subst}
use Rattle.cyc_syntax.specs.inside.TreeView.{view_declaration}
use Rattle.cyc_declarations.specs.inside.Declaring.{state_of, after_declaration}
use Rattle.cyc_declarations.proofs.declared.Declared.declare.Goals as goal

pub returns-in-Function-clause-declared : goal.returns-in-Function-clause-declared
returns-in-Function-clause-declared c =
    subst (λ d. OnOk c.declare_function.result (state_of c.declare_function.new.self ≡ after_declaration d (state_of c.args.self.now))) (sym (ap view_declaration c.in-Function.is)) c.declare_function.ensures.declared
