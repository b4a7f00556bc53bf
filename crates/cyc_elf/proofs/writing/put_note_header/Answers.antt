use Rattle.std.proofs.Common.{◌<◌, ◌^◌, [], All, rules, subst}
use Rattle.std.proofs.lemmas.List.Elements.{All-head}
use Rattle.cyc_elf.specs.Layout.{note_header, note_headers}
use Rattle.cyc_elf.proofs.writing.put_note_header.Goals as goal

pub overflow_cast-offset : goal.overflow_cast-offset
overflow_cast-offset c =
    let fits : c.args.offset < 2 ^ 32 = All-head (λ h. h.offset < 2 ^ 32) (note_header c.args.offset) [] (subst (λ n. All (λ h. h.offset < 2 ^ 32) (note_headers c.args.offset n)) c.in-Some.is c.requires) in
    search rules
