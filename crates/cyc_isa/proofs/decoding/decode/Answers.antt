use Rattle.std.proofs.Common.{◌∙◌, sym}
use Rattle.cyc_isa.proofs.Sound.{decode_of-same, decode_of-other, decode_of-unselected, instruction-from_value}
use Rattle.cyc_isa.proofs.decoding.decode.Goals as goal

pub returns-in_err-instr-clause-instruction : goal.returns-in_err-instr-clause-instruction
returns-in_err-instr-clause-instruction c =
    instruction-from_value c.args.word c.from_residual.result
    (c.from_residual.ensures ∙ sym (decode_of-unselected c.args.word (sym c.in_err-instr.ensures)))

pub returns-then-encode-word-clause-value : goal.returns-then-encode-word-clause-value
returns-then-encode-word-clause-value c =
    sym (decode_of-same c.args.word c.in_ok-instr.instr (sym c.in_ok-instr.ensures) (sym c.encode.ensures.word ∙ c.if-encode-word.true))

pub returns-then-encode-word-clause-instruction : goal.returns-then-encode-word-clause-instruction
returns-then-encode-word-clause-instruction c =
    instruction-from_value c.args.word _
    (sym (decode_of-same c.args.word c.in_ok-instr.instr (sym c.in_ok-instr.ensures) (sym c.encode.ensures.word ∙ c.if-encode-word.true)))

pub returns-else-encode-word-clause-instruction : goal.returns-else-encode-word-clause-instruction
returns-else-encode-word-clause-instruction c =
    instruction-from_value c.args.word _
    (sym (decode_of-other c.args.word c.in_ok-instr.instr (sym c.in_ok-instr.ensures) (λ same. c.if-encode-word.false (c.encode.ensures.word ∙ same))))
