-- The selected code implements the program and fits the machine's memory.
use Rattle.std.proofs.Common.{◌≡◌, ℕ, ◌+◌, ◌<◌, ◌≤◌, List, length, map, refl, sym, ap, arith}
use Rattle.std.specs.Prelude.{sum_by, flat_map}
use Rattle.std.specs.List.{range_with_len}
use Rattle.std.proofs.lemmas.List.Sums.{sum_by-append}
use Rattle.cyc_plain.specs.inside.Program.{Program, CodePlace, routine_at, size}
use Rattle.cyc_plain.specs.inside.WellFormed.{IsWellFormed, HasWords, IsPlain}
use Rattle.cyc_words.proofs.Prices.{sum_by-flat_map}
use Rattle.cyc_words.proofs.Sums.{sum_by-map}
use Rattle.cyc_frame.specs.inside.Frame.{Frame}
use Rattle.cyc_frame.specs.inside.Layout.{frame_at, AreFrames}
use Rattle.cyc_select.specs.declared.constants.TheConstants.{MAX_START_WORDS, START_LINES}
use Rattle.cyc_select.specs.inside.Labelled.{words_of, all_words, IsCode}
use Rattle.cyc_select.specs.inside.Selected.{IsCodeOf, words_at}
use Rattle.cyc_select.specs.inside.Counts.{function_count, function_line}
use Rattle.cyc_select.specs.inside.Selection.{routine_lines, function_lines, start_lines, select_of}
use Rattle.cyc_select.proofs.layout.Inside.{few_results}
use Rattle.cyc_select.proofs.layout.Formed.{formed}
use Rattle.cyc_select.proofs.emission.Numbering.{function_reads_few, is_saving, are_saved}
use Rattle.cyc_select.proofs.layout.Parts.{place_in, own_function, parts}
use Rattle.cyc_select.proofs.layout.OwnLines.{own_of}
use Rattle.cyc_select.proofs.emission.Sizes.{words_range, routine_words, functions_words}
use Rattle.cyc_select.proofs.runs.Start.{follows, main_place, main_below}
use Rattle.cyc_select.proofs.layout.Structure.{length_body, length_routine, stand, stand_saving, stand_function, starts}

module _ (program : Program) (well : IsWellFormed program) (words : HasWords program) (frames : List Frame) (fit : AreFrames program frames) where
  few_own : (function : ℕ) → function < length program.functions
      → sum_by (λ (index : ℕ). sum_by (words_at (select_of program frames)) (own_of program frames (record { function = function; index = index }))) (range_with_len 0 (length (routine_at program function).code))
      ≤ size (routine_at program function)
  few_own function known =
      let indices = range_with_len 0 (length (routine_at program function).code) in
      let price : ℕ → ℕ = words_at (select_of program frames) in
      let one = sum_by-map (λ (p : CodePlace). sum_by (words_at (select_of program frames)) (own_of program frames p)) (place_in function) (range_with_len 0 (length (routine_at program function).code)) in
      let two = sum_by-flat_map (words_at (select_of program frames)) (own_of program frames) (map (place_in function) (range_with_len 0 (length (routine_at program function).code))) in
      let three : sum_by (words_at (select_of program frames)) (flat_map (own_of program frames) (map (place_in function) (range_with_len 0 (length (routine_at program function).code)))) ≡ sum_by (words_at (select_of program frames)) (range_with_len (function_line program frames function) (function_count program frames function (routine_at program function))) = ap (sum_by (words_at (select_of program frames))) (own_function program well frames function known) in
      let long = length_routine program frames (few_results program well) function (function_line program frames function) (routine_at program function) in
      let four : sum_by (words_at (select_of program frames)) (range_with_len (function_line program frames function) (function_count program frames function (routine_at program function))) ≡ sum_by (words_at (select_of program frames)) (range_with_len (function_line program frames function) (length (routine_lines program frames function (function_line program frames function) (routine_at program function)))) = ap (λ (n : ℕ). sum_by (words_at (select_of program frames)) (range_with_len (function_line program frames function) n)) (sym long) in
      let five = words_range (select_of program frames) (function_line program frames function) (routine_lines program frames function (function_line program frames function) (routine_at program function)) (stand_function program frames (few_results program well) function known) in
      omega (arith, one, two, three, four, five, routine_words program frames (function_reads_few program frames fit) (few_results program well) function (function_line program frames function) (routine_at program function) (is_saving program (routine_at program function) (frame_at frames function) (fit.each function known) (fit.homes function known)))

  few_before : sum_by (words_at (select_of program frames)) (range_with_len 0 START_LINES) ≤ MAX_START_WORDS
  few_before = omega (arith, words_range (select_of program frames) 0 (start_lines program frames) (starts program frames (few_results program well)))

  few_words : all_words (select_of program frames).lines ≤ MAX_START_WORDS + sum_by size program.functions
  few_words =
      omega (arith, sum_by-append words_of (start_lines program frames) (function_lines program frames 0 START_LINES program.functions), functions_words program frames (function_reads_few program frames fit) (few_results program well) 0 START_LINES program.functions (are_saved program frames fit))

  pub is_code_of : IsCodeOf program (select_of program frames)
  is_code_of = record {
    formed = formed program well words frames fit;
    before = range_with_len 0 START_LINES;
    own = own_of program frames;
    parts = parts program well frames;
    few_before = few_before;
    few_own = few_own;
    few_words = few_words;
    base = main_place program frames;
    placed = main_below program well frames fit;
    follows = λ pages calls allowed store new input bytes addresses lie never.
        follows program well words frames fit (select_of program frames) (formed program well words frames fit) addresses lie pages calls allowed
        (stand program frames (few_results program well)) (stand_saving program frames (few_results program well)) (λ function line i. length_body program frames (few_results program well) function line i) (starts program frames (few_results program well)) refl store new input bytes never;
  }

pub is_code : (program : Program) (frames : List Frame) → IsPlain program → AreFrames program frames → IsCode (select_of program frames)
is_code program frames plain fit =
    let selected = is_code_of program plain.well_formed plain.words frames fit in
    record {
      some = omega arith;
      formed = selected.formed;
      fits = omega (arith, selected.few_words, plain.small);
      few_globals = omega (arith, plain.well_formed.globals);
    }
