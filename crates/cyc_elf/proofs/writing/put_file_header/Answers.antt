use Rattle.std.proofs.Common.{◌++◌, ◌∷◌, [], replicate}
use Rattle.cyc_elf.specs.Header.{ident}
use Rattle.cyc_elf.specs.Layout.{halves, words, file_header}
use Rattle.cyc_elf.proofs.Appends.{appends_both}
use Rattle.cyc_elf.proofs.writing.put_file_header.Goals as goal

pub returns-clause-bytes : goal.returns-clause-bytes
unfolding file_header
returns-clause-bytes c =
    let start = c.args.out.now.items in
    let a = ident in
    let b = replicate 9 0 in
    let d = halves (2 ∷ 8 ∷ []) in
    let e = words (1 ∷ c.args.entry ∷ 52 ∷ 0 ∷ 0 ∷ []) in
    let f = halves (52 ∷ 32 ∷ c.args.count ∷ 0 ∷ 0 ∷ 0 ∷ []) in
    let ab = appends_both start _ c.extend_from_slice-2.new.self.items a b c.in_ok-extend_from_slice.ensures.items c.in_ok-extend_from_slice-2.ensures.items in
    let abd = appends_both start _ c.put_halves.new.out.items (a ++ b) d ab c.in_ok-put_halves.ensures in
    let abde = appends_both start _ c.put_words.new.out.items (a ++ b ++ d) e abd c.in_ok-put_words.ensures in
    appends_both start _ c.put_halves-2.new.out.items (a ++ b ++ d ++ e) f abde c.in_ok-put_halves-2.ensures
