use Rattle.std.proofs.Common.{◌≡◌, ◌++◌, drop}
use Rattle.std.specs.List.{AllByRecursion}
use Rattle.cyc_words.specs.Word.{IsWord}
use Rattle.cyc_compiler.specs.ProgramImage.{bytes_of_words}
use Rattle.cyc_compiler.proofs.image.bytes_of_words.Given as goal

abbrev pub invariant-loop-word : goal.invariant-loop-word
invariant-loop-word l = record {
  bytes : l.bytes.items ++ bytes_of_words (drop l.word-index l.words) ≡ bytes_of_words l.words;
  words : AllByRecursion IsWord (drop l.word-index l.words) → AllByRecursion IsWord l.words;
}
