use Rattle.std.proofs.Common.{[], inr, refl, sym, ap, subst, ◌∙◌}
use Rattle.cyc_parse.specs.declared.stop.Stop.{Stop}
use Rattle.cyc_parse.specs.inside.Code.{Stops, view_reason}
use Rattle.cyc_syntax.specs.Symbols.{Place}
use Rattle.cyc_parse.specs.Faults.{fault_of}
use Rattle.cyc_parse.specs.inside.Answers.{whole_program}
use Rattle.cyc_parse.proofs.Ends.{end_after}
use Rattle.cyc_parse.proofs.tree.declarations_of.Goals as goal

pub returns-in-Err-Refused-clause-refused : goal.returns-in-Err-Refused-clause-refused
returns-in-Err-Refused-clause-refused c =
    let stopped = subst (λ (e : Stop). Stops e (whole_program c.new-parser.result) c.parse_whole_program.new.self) c.in-Err-Refused.field-0-is c.in-Err-Refused.ensures in
    inr (record { refusal = record { reason = view_reason c.in-Err-Refused.reason; left = c.parse_whole_program.new.self }; refused = ap whole_program (sym c.new-parser.ensures) ∙ stopped; is = c.fault.ensures ∙ ap (λ (p : Place). fault_of p (record { reason = view_reason c.in-Err-Refused.reason; left = c.parse_whole_program.new.self })) (end_after c.args.text.now c.place_after-end.result (c.place_after-end.ensures [] (record { line = refl; column = refl }))) })
