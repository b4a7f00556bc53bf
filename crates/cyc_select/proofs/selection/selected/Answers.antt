use Rattle.std.proofs.Common.{◌≡◌, ℕ, ◌<◌, List, [], ◌++◌, length, sym, ap, subst, ◌∙◌, arith}
use Rattle.std.specs.Prelude.{slice_index_or}
use Rattle.cyc_plain.specs.inside.Program.{Program}
use Rattle.cyc_frame.specs.inside.Frame.{Frame}
use Rattle.cyc_select.specs.declared.constants.TheConstants.{START_LINES}
use Rattle.cyc_select.specs.declared.code.Line.{Line}
use Rattle.cyc_select.specs.inside.Labelled.{Labelled, IsCode}
use Rattle.cyc_select.specs.inside.Counts.{function_line}
use Rattle.cyc_select.specs.inside.Selection.{start_code, function_lines, select_of}
use Rattle.cyc_select.specs.declared.tables.FunctionLines.{FunctionLines}
use Rattle.cyc_select.specs.inside.Emission.{AreNumbered}
use Rattle.cyc_select.proofs.emission.Numbering.{numbered_at}
use Rattle.cyc_select.proofs.layout.Whole.{is_code}
use Rattle.cyc_select.proofs.selection.selected.Goals as goal

-- The MIPS lines of the start code, followed by those of all functions, are the lines of the whole program.
all_lines : (plain : Program) (frames fs : List Frame) (functions : List FunctionLines) (main : ℕ) (its : FunctionLines) (none begun lines : List Line)
    → fs ≡ frames → AreNumbered plain fs (length plain.functions) functions
    → main ≡ plain.main → main < length plain.functions → its ≡ slice_index_or functions main its
    → none ≡ [] → begun ≡ none ++ start_code its.first → lines ≡ begun ++ function_lines plain fs 0 START_LINES plain.functions
    → lines ≡ (select_of plain frames).lines
all_lines plain frames fs functions main its none begun lines same_frames are is_main in_range is_its is_none is_begun is =
    let all = function_lines plain fs 0 START_LINES plain.functions in
    let first : its.first ≡ function_line plain fs main
    = ap (λ (l : FunctionLines). l.first) is_its ∙ (numbered_at are main its in_range).first_is in
    is
    ∙ ap (λ (ls : List Line). ls ++ all) is_begun
    ∙ ap (λ (ls : List Line). ls ++ start_code its.first ++ all) is_none
    ∙ ap (λ (n : ℕ). start_code n ++ all) first
    ∙ ap (λ (n : ℕ). start_code (function_line plain fs n) ++ all) is_main
    ∙ ap (λ (ff : List Frame). (select_of plain ff).lines) same_frames

pub index-requires : goal.index-requires
index-requires c = omega (arith, c.main-main.ensures.in_range, c.in_ok-numbered.ensures.lines.as_many)

pub new-requires-2 : goal.new-requires-2
new-requires-2 c =
    let program = c.args.plain.now in
    let frames = c.args.frames.now in
    let lines : c.functions.new.self.lines.items ≡ (select_of program frames).lines
    = all_lines program frames c.as_slice-frames.result.now c.in_ok-numbered.numbered.functions.items c.main-main.result c.index.result.now
    c.in_ok-emitter.emitter.lines.items c.start.new.self.lines.items c.functions.new.self.lines.items
    c.as_slice-frames.ensures c.in_ok-numbered.ensures.lines c.main-main.ensures.value c.main-main.ensures.in_range c.index.ensures
    c.in_ok-emitter.ensures c.in_ok-start.ensures c.in_ok-functions.ensures in
    let globals : c.in_ok-globals.globals.items ≡ program.globals
    = c.in_ok-globals.ensures.items ∙ c.globals.ensures in
    subst IsCode (λ i. record { lines = sym lines i; globals = sym globals i }) (is_code program frames c.in_ok-numbered.ensures.plain c.requires)

pub returns-clause-code : goal.returns-clause-code
returns-clause-code c =
    let program = c.args.plain.now in
    let frames = c.args.frames.now in
    let lines : c.functions.new.self.lines.items ≡ (select_of program frames).lines
    = all_lines program frames c.as_slice-frames.result.now c.in_ok-numbered.numbered.functions.items c.main-main.result c.index.result.now
    c.in_ok-emitter.emitter.lines.items c.start.new.self.lines.items c.functions.new.self.lines.items
    c.as_slice-frames.ensures c.in_ok-numbered.ensures.lines c.main-main.ensures.value c.main-main.ensures.in_range c.index.ensures
    c.in_ok-emitter.ensures c.in_ok-start.ensures c.in_ok-functions.ensures in
    let globals : c.in_ok-globals.globals.items ≡ program.globals
    = c.in_ok-globals.ensures.items ∙ c.globals.ensures in
    let made : Labelled = record { lines = c.functions.new.self.lines.items; globals = c.in_ok-globals.globals.items } in
    let same : made ≡ select_of program frames = λ i. record { lines = lines i; globals = globals i } in
    c.new-2.ensures ∙ same
