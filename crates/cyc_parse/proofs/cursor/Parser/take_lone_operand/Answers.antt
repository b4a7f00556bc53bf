use Rattle.std.proofs.Common.{Some, option_map, sym, ap, ◌∙◌}
use Rattle.cyc_syntax.specs.inside.TreeView.{place_of_span}
use Rattle.cyc_parse.specs.inside.Code.{view_terminal}
use Rattle.cyc_parse.proofs.LoneOperands.{lone_number, lone_variable}
use Rattle.cyc_parse.proofs.cursor.Parser.take_lone_operand.Goals as goal

pub returns-in-Some-Number-clause-taken : goal.returns-in-Some-Number-clause-taken
returns-in-Some-Number-clause-taken c = λ room.
    lone_number room c.args.below c.in-Some-Number.value c.args.self.now c.take_next-span.new.self (place_of_span c.take_next-span.result)
    (sym c.next.ensures ∙ ap (option_map view_terminal) c.in-Some-Number.is ∙ ap (λ t. Some (view_terminal t)) c.in-Some-Number.field-0-is) c.take_next-span.ensures (sym c.is_continued.ensures ∙ c.if-is_continued.false)

pub returns-in-Some-Identifier-clause-taken : goal.returns-in-Some-Identifier-clause-taken
returns-in-Some-Identifier-clause-taken c = λ room.
    lone_variable room c.args.below c.in-Some-Identifier.name.number c.args.self.now c.take_next-span-in-Some-Identifier.new.self (place_of_span c.take_next-span-in-Some-Identifier.result)
    (sym c.next.ensures ∙ ap (option_map view_terminal) c.in-Some-Identifier.is ∙ ap (λ t. Some (view_terminal t)) c.in-Some-Identifier.field-0-is) c.take_next-span-in-Some-Identifier.ensures (sym c.is_continued.ensures ∙ c.if-is_continued.false)
