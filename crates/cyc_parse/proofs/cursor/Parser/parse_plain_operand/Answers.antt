use Rattle.std.proofs.Common.{Some, option_map, sym, ap, subst, ◌∙◌}
use Rattle.cyc_syntax.specs.Trees.{Expression}
use Rattle.cyc_syntax.specs.inside.TreeView.{place_of_span}
use Rattle.cyc_parse.specs.inside.Boxes.{view_boxed}
use Rattle.cyc_parse.specs.inside.Code.{Gives, view_terminal}
use Rattle.cyc_parse.specs.inside.Parsing.{Outcome}
use Rattle.cyc_parse.proofs.LoneOperands.{plain_number, plain_variable}
use Rattle.cyc_parse.proofs.cursor.Parser.parse_plain_operand.Goals as goal

pub returns-in-Some-Number : goal.returns-in-Some-Number
returns-in-Some-Number c = λ room.
    subst (λ (o : Outcome Expression). Gives view_boxed c.node.result o c.take_next-span.new.self)
    (sym (plain_number room c.in-Some-Number.value c.args.self.now c.take_next-span.new.self (place_of_span c.take_next-span.result) c.requires
    (sym c.next.ensures ∙ ap (option_map view_terminal) c.in-Some-Number.is ∙ ap (λ t. Some (view_terminal t)) c.in-Some-Number.field-0-is) c.take_next-span.ensures)) c.node.ensures

pub returns-in-Some-Identifier : goal.returns-in-Some-Identifier
returns-in-Some-Identifier c = λ room.
    subst (λ (o : Outcome Expression). Gives view_boxed c.node-in-Some-Identifier.result o c.take_next-span-in-Some-Identifier.new.self)
    (sym (plain_variable room c.in-Some-Identifier.name.number c.args.self.now c.take_next-span-in-Some-Identifier.new.self (place_of_span c.take_next-span-in-Some-Identifier.result) c.requires
    (sym c.next.ensures ∙ ap (option_map view_terminal) c.in-Some-Identifier.is ∙ ap (λ t. Some (view_terminal t)) c.in-Some-Identifier.field-0-is) c.take_next-span-in-Some-Identifier.ensures)) c.node-in-Some-Identifier.ensures
