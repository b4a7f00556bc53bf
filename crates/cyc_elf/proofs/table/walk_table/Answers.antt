use Rattle.std.proofs.Common.{◌≡◌, ◌++◌, ◌∷◌, [], cond, is_some, None, map, sym, ap, ◌∙◌, arith}
use Rattle.std.proofs.lemmas.List.{map_push}
use Rattle.cyc_elf.specs.Reading.{first_fault, own_rules, is_load}
use Rattle.cyc_elf.specs.Outline.{fields_of}
use Rattle.cyc_elf.proofs.Rules.{described}
use Rattle.cyc_elf.proofs.Sound.{kept_note}
use Rattle.cyc_elf.proofs.Walks.{headers_go_on, fault_ends, is_done}
use Rattle.cyc_elf.proofs.table.walk_table.Goals as goal
use Rattle.cyc_elf.proofs.table.walk_table.Goals.{then-is_load+in_ok-push, else-is_load}

pub returns-in-Some : goal.returns-in-Some
returns-in-Some c =
    let file = c.args.file.now in
    let h = fields_of c.at-header.result in
    let breaks = c.in-Some.ensures ∙ ap (λ b. first_fault (own_rules file b h)) c.is_some.ensures in
    fault_ends (map fields_of c.loop.loads.items) file c.loop.note c.args.count c.loop.counter c.loop.place h c.in-Some.fault _ c.loop-test.true c.at-header.ensures breaks c.loop.invariant.1

pub noted-note-requires : goal.noted-note-requires
noted-note-requires c =
    λ is.
    let kept = kept_note c.args.file.now c.is_some.result (fields_of c.at-header.result) is (sym c.own_fault.ensures ∙ c.in_default.is) in
    let here = described c.args.file.now (fields_of c.at-header.result) is in
    omega (arith, kept.whole, here.stored)

pub loop-preserved : goal.loop-preserved
loop-preserved c =
    let file = c.args.file.now in
    let front = map fields_of c.loop.loads.items in
    let h = fields_of c.at-header.result in
    let found : map fields_of c.if-is_load.loads.items ≡ cond (is_load h) (front ++ h ∷ []) front =
    elim c.if-is_load.branch [
      | then-is_load+in_ok-push w ↦
          ap (λ v. map fields_of v.items) w.loads-is
          ∙ ap (map fields_of) w.in_ok-push.ensures.items
          ∙ map_push fields_of c.loop.loads.items c.at-header.result
          ∙ ap (λ b. cond b (front ++ h ∷ []) front) (sym w.if-is_load.true ∙ c.is_load.ensures)
      | else-is_load w ↦
          ap (λ v. map fields_of v.items) w.loads-is
          ∙ ap (λ b. cond b (front ++ h ∷ []) front) (sym w.if-is_load.false ∙ c.is_load.ensures)
    ] in
    let keeps : None ≡ first_fault (own_rules file (is_some c.loop.note) h)
    = sym c.in_default.is ∙ c.own_fault.ensures ∙ ap (λ b. first_fault (own_rules file b h)) c.is_some.ensures in
    let so_far = headers_go_on front file c.loop.note c.args.count c.loop.counter c.loop.place h _ c.loop-test.true c.at-header.ensures keeps c.loop.invariant.1 in
    (omega arith, rw (found, c.noted-note.ensures) so_far)

pub returns : goal.returns
returns c = is_done (map fields_of c.loop.loads.items) c.args.file.now c.loop.note c.args.count c.loop.counter c.loop.place _ c.loop-test.false c.loop.invariant.1
