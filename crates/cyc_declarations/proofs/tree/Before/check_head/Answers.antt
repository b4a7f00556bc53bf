use Rattle.std.proofs.Common.{◌≡◌, option_map, sym, ap, subst}
use Rattle.cyc_syntax.specs.Trees.{Declaration, Function}
use Rattle.cyc_syntax.specs.inside.TreeView.{view_name, view_type, view_parameters, view_block, view_declaration}
use Rattle.cyc_types.specs.Rules.{run}
use Rattle.cyc_types.specs.typing.DeclarationRules.{Before, rule_declaration}
use Rattle.cyc_scope.specs.inside.Code.{Gives}
use Rattle.cyc_declarations.proofs.tree.Before.check_head.Goals as goal

pub returns-in-Function-clause-gives : goal.returns-in-Function-clause-gives
returns-in-Function-clause-gives c =
    let head : Declaration = Function (option_map view_type c.in-Function.result) (view_name c.in-Function.name) (view_parameters c.in-Function.parameters) (view_block c.in-Function.body) in
    let here : record { structs = c.self.inside.structs; exceptions = c.self.inside.exceptions; names = c.self.inside.names } ≡ c.args.self.now = c.self.view_is in
    subst (λ d. Gives (λ x. tt) c.check_function.result (run (rule_declaration c.args.known.now c.args.self.now d))) (sym (ap view_declaration c.in-Function.is))
    (subst (λ (b : Before). Gives (λ x. tt) c.check_function.result (run (rule_declaration c.args.known.now b head))) here c.check_function.ensures.gives)
