use Rattle.std.proofs.Common.{◌∙◌}
use Rattle.std.proofs.lemmas.Result.{err_from_is_err_and}
use Rattle.cyc_elf.specs.Reading.{reading}
use Rattle.cyc_elf.proofs.Rules.{reading-file_fault}
use Rattle.cyc_elf.proofs.Answering.{Outlines-fault, Found, apart_found, entry_found, shared, faulty, astray, stored, outline, well_formed}
use Rattle.cyc_elf.proofs.reading.read_outline.Goals as goal

pub returns-in_err-header-clause-exact : goal.returns-in_err-header-clause-exact
returns-in_err-header-clause-exact c =
    let p = err_from_is_err_and c.from_residual.result c.from_residual.ensures.1 in
    rw (p.1, p.2) (Outlines-fault c.args.file.now c.in_err-header.field-0.0 (reading c.args.file.now) (reading-file_fault c.args.file.now c.in_err-header.field-0.0 c.in_err-header.ensures.faults))

pub returns-then-not-branch-clause-exact : goal.returns-then-not-branch-clause-exact
returns-then-not-branch-clause-exact c =
    let f : Found c.args.file.now c.in_ok-header.header c.in_ok-walk.walk = record { fine = c.in_ok-header.ensures.faults; fields = c.in_ok-header.ensures.fields; walked = c.in_ok-walk.ensures } in
    shared f (apart_found _ c.deref.result.now f c.in_ok-are_apart.ensures c.deref.ensures.value ∙ c.if-not-branch.true)

pub returns-in-Some-clause-exact : goal.returns-in-Some-clause-exact
returns-in-Some-clause-exact c =
    let f : Found c.args.file.now c.in_ok-header.header c.in_ok-walk.walk = record { fine = c.in_ok-header.ensures.faults; fields = c.in_ok-header.ensures.fields; walked = c.in_ok-walk.ensures } in
    let apart = apart_found _ c.deref.result.now f c.in_ok-are_apart.ensures c.deref.ensures.value ∙ c.if-not-branch.false in
    Outlines-fault c.args.file.now c.in-Some.fault (reading c.args.file.now) (faulty c.in-Some.fault f apart c.in-Some.is)

pub returns-then-not-is_entry-clause-exact : goal.returns-then-not-is_entry-clause-exact
returns-then-not-is_entry-clause-exact c =
    let f : Found c.args.file.now c.in_ok-header.header c.in_ok-walk.walk = record { fine = c.in_ok-header.ensures.faults; fields = c.in_ok-header.ensures.fields; walked = c.in_ok-walk.ensures } in
    let apart = apart_found _ c.deref.result.now f c.in_ok-are_apart.ensures c.deref.ensures.value ∙ c.if-not-branch.false in
    let wrong = entry_found _ c.deref-2.result.now f c.is_entry.ensures c.deref-2.ensures.value ∙ c.if-not-is_entry.true in
    astray f apart c.in_default.is wrong

pub returns-clause-exact : goal.returns-clause-exact
returns-clause-exact c =
    let f : Found c.args.file.now c.in_ok-header.header c.in_ok-walk.walk = record { fine = c.in_ok-header.ensures.faults; fields = c.in_ok-header.ensures.fields; walked = c.in_ok-walk.ensures } in
    let apart = apart_found _ c.deref.result.now f c.in_ok-are_apart.ensures c.deref.ensures.value ∙ c.if-not-branch.false in
    let right = entry_found _ c.deref-2.result.now f c.is_entry.ensures c.deref-2.ensures.value ∙ c.if-not-is_entry.false in
    outline f apart c.in_default.is right

pub returns-clause-well_formed : goal.returns-clause-well_formed
returns-clause-well_formed c =
    let f : Found c.args.file.now c.in_ok-header.header c.in_ok-walk.walk = record { fine = c.in_ok-header.ensures.faults; fields = c.in_ok-header.ensures.fields; walked = c.in_ok-walk.ensures } in
    let apart = apart_found _ c.deref.result.now f c.in_ok-are_apart.ensures c.deref.ensures.value ∙ c.if-not-branch.false in
    let right = entry_found _ c.deref-2.result.now f c.is_entry.ensures c.deref-2.ensures.value ∙ c.if-not-is_entry.false in
    well_formed f apart right

pub returns-clause-stored : goal.returns-clause-stored
returns-clause-stored c =
    let f : Found c.args.file.now c.in_ok-header.header c.in_ok-walk.walk = record { fine = c.in_ok-header.ensures.faults; fields = c.in_ok-header.ensures.fields; walked = c.in_ok-walk.ensures } in
    stored f
