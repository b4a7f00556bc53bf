use Rattle.std.proofs.Common.{[], ◌++◌, ◌∙◌, sym, append_assoc, append-nil, rules}
use Rattle.std.proofs.lemmas.Str.{IsUtf8-past_char, chars_past_char}
use Rattle.std.proofs.StrCases.{chars_of_empty}
use Rattle.std.proofs.Output.{has_written_append, has_written_of_eq, writes_in_calls_nil}
use Rattle.cyc_cli.specs.inside.Json.{string_char}
use Rattle.cyc_cli.proofs.json.write_text.Goals as goal

pub loop-c-init : goal.loop-c-init
loop-c-init g c = (search rules, λ plain. ([], record { wrote = writes_in_calls_nil _ _; plain = plain }, search rules))

pub loop-c-preserved : goal.loop-c-preserved
loop-c-preserved g c =
    let held = c.loop-c.invariant in
    let parts = c.in-Some.ensures.steps.0 in
    let ch = c.in-Some.c in (
      IsUtf8-past_char _ _ ch held.0 parts,
      λ plain.
          let now = held.1 plain in
          let left = now.2 in (
            now.0 ++ string_char ch,
            has_written_append _ _ _ _ _ _ now.1 (search rules),
            append_assoc now.0 (string_char ch) _ ∙ rw (chars_past_char _ _ ch held.0 parts) at left,
          ),
    )

pub returns : goal.returns
returns g c = λ plain ok.
    let now = c.loop-c.invariant.1 plain in
    let left = rw (chars_of_empty _ c.in-None.ensures.steps.0.0) at now.2 in
    has_written_of_eq _ _ _ _ _ (sym (append-nil now.0) ∙ left) now.1
