use Rattle.std.proofs.Common.{ℕ, ◌<◌, List, length, refl, sym, ap, subst, arith}
use Rattle.cyc_asm.specs.inside.Layout.{addresses_of}
use Rattle.cyc_compiler.specs.ProgramImage.{program_image}
use Rattle.cyc_asm.proofs.Stretches.{text_has_words}
use Rattle.cyc_compiler.proofs.Chains.{image_made}
use Rattle.cyc_compiler.proofs.compiler.compile_plain.Goals as goal

pub returns-clause-image : goal.returns-clause-image
returns-clause-image c = λ p sound is.
    let code = c.in_ok-code.code in
    image_made p c.args.plain code (addresses_of code) c.in_ok-words.words.items c.deref.result.now c.globals.result.now c.args.note c.in_ok-file.file.items
    c.deref.ensures.value c.globals.ensures.value sound is c.in_ok-code.ensures.selected c.in_ok-code.ensures.globals c.in_ok-words.ensures.means c.in_ok-words.ensures.runs
    c.globals.ensures.code c.in_ok-file.ensures.words c.in_ok-file.ensures.globals c.in_ok-file.ensures.read c.in_ok-file.ensures.exact

pub returns-clause-note : goal.returns-clause-note
returns-clause-note c = (program_image c.deref.result.now c.globals.result.now c.args.note, c.in_ok-file.ensures.read, refl)

pub write_program-requires-clause-some : goal.write_program-requires-clause-some
write_program-requires-clause-some c =
    let code = c.in_ok-code.code in
    subst (λ (words : List ℕ). 0 < length words) (sym c.deref.ensures.value)
    (text_has_words code (addresses_of code) c.in_ok-words.words.items c.globals.ensures.code.some c.in_ok-words.ensures.means)

pub write_program-requires-clause-few : goal.write_program-requires-clause-few
write_program-requires-clause-few c = omega (arith, ap length c.globals.ensures.value, c.globals.ensures.code.few_globals)
