use Rattle.std.proofs.Common.{◌++◌, [], ◌∷◌, refl, subst, sym, append_assoc}
use Rattle.cyc_isa.proofs.TextLemmas.{TakesText-parts, TakesText-stopped}
use Rattle.cyc_words.specs.Device.{TakesText}
use Rattle.cyc_words.proofs.DeviceLemmas.{TakesText_exit, Appends-append}
use Rattle.cyc_emulator.specs.Listing.{word_text, head_of, line_of}
use Rattle.cyc_emulator.proofs.listing.put_line.Goals as goal

pub returns-in_err-put_head-clause-bytes : goal.returns-in_err-put_head-clause-bytes
unfolding line_of
returns-in_err-put_head-clause-bytes g c =
    TakesText-stopped (g.W.ByteOut.written c.args.out.now) (g.W.ByteOut.written c.put_head.new.out) (head_of c.args.address c.args.word) (word_text c.args.address c.args.word ++ 10 ∷ []) _
    c.from_residual.result (simp append_assoc) c.from_residual.ensures.0 c.in_err-put_head.ensures.bytes

pub returns-in_err-put_word-clause-bytes : goal.returns-in_err-put_word-clause-bytes
unfolding line_of
returns-in_err-put_word-clause-bytes g c =
    let head = head_of c.args.address c.args.word in
    let text = word_text c.args.address c.args.word in
    subst (λ t. TakesText (g.W.ByteOut.written c.args.out.now) t c.from_residual-in_err-put_word.result (g.W.ByteOut.written c.put_word.new.out)) (sym (append_assoc head text (10 ∷ [])))
    (TakesText_exit (g.W.ByteOut.written c.args.out.now) (g.W.ByteOut.written c.put_head.new.out) (g.W.ByteOut.written c.put_word.new.out) head text (10 ∷ [])
    c.from_residual-in_err-put_word.result c.from_residual-in_err-put_word.ensures.0 c.in_ok-put_head.ensures.bytes c.in_err-put_word.ensures.bytes)

pub returns-clause-bytes : goal.returns-clause-bytes
unfolding line_of
returns-clause-bytes g c =
    let head = head_of c.args.address c.args.word in
    let text = word_text c.args.address c.args.word in
    TakesText-parts (g.W.ByteOut.written c.args.out.now) (g.W.ByteOut.written c.put_word.new.out) (g.W.ByteOut.written c.put_all.new.self) (head ++ text) (10 ∷ []) _ c.put_all.result refl
    (Appends-append (g.W.ByteOut.written c.args.out.now) (g.W.ByteOut.written c.put_head.new.out) (g.W.ByteOut.written c.put_word.new.out) head text c.in_ok-put_head.ensures.bytes c.in_ok-put_word.ensures.bytes)
    c.put_all.ensures.bytes
