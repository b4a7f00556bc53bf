-- This file defines faults and warnings as JSON. The members of an object are this project's own choice; the notation of strings is
-- RFC 8259, section 7.
use Rattle.std.specs.Prelude.{ℕ, ◌==◌, ◌/◌, ◌%◌, nat_lt, Bool, true, false, List, [], ◌∷◌, ◌++◌, Option, Some, None, option_map, codes, if◌then◌else◌}
use Rattle.std.specs.List.{flat_map}
use Rattle.std.specs.Fmt.{decimal, digit_glyph}
use Rattle.std.specs.Char.{encode_utf8}
use Rattle.std.specs.Str.{chars}
use Rattle.cyc_cli.specs.declared.json.Range.{Range}
use Rattle.cyc_cli.specs.declared.json.Edit.{Edit}
use Rattle.cyc_cli.specs.declared.json.Related.{Related}
use Rattle.cyc_cli.specs.declared.json.Entry.{Entry}

-- A control character in a JSON string, written by its number.
abbrev pub control_char : ℕ → List ℕ
control_char c = 92 ∷ codes "u00" ++ (digit_glyph false (c / 16) ∷ digit_glyph false (c % 16) ∷ [])

-- A character of a JSON string: quotes and backslashes are written after a backslash, control characters as escapes with
-- their code numbers, any other character unchanged.
abbrev pub string_char : ℕ → List ℕ
string_char c = if c == 34 then 92 ∷ 34 ∷ []
    else (if c == 92 then 92 ∷ 92 ∷ []
    else (if nat_lt c 32 then control_char c
    else encode_utf8 c))

abbrev pub string_text : List ℕ → List ℕ
string_text text = flat_map string_char (chars text)

-- A JSON string with its quotes.
abbrev pub quoted : List ℕ → List ℕ
quoted text = 34 ∷ string_text text ++ (34 ∷ [])

abbrev pub null : List ℕ
null = codes "null"

-- The JSON members that state the beginning and end of a range.
abbrev pub range_members : Range → List ℕ
range_members r = codes "\"line\":" ++ (decimal r.line ++ (codes ",\"column\":" ++ (decimal r.column
    ++ (codes ",\"endLine\":" ++ (decimal r.end_line ++ (codes ",\"endColumn\":" ++ decimal r.end_column))))))

-- The JSON object for the replacement of a range of the text.
abbrev pub edit_text : Edit → List ℕ
edit_text e = codes "{" ++ (range_members e.range ++ (codes ",\"text\":" ++ (quoted e.text.now ++ codes "}")))

-- The JSON object for a related source position and the text about it.
abbrev pub related_text : Related → List ℕ
related_text r = codes "{" ++ (range_members r.range ++ (codes ",\"message\":" ++ (quoted r.message.now ++ codes "}")))

abbrev pub quoted_or_null : Option (List ℕ) → List ℕ
quoted_or_null (Some text) = quoted text
quoted_or_null None = null

abbrev pub edit_or_null : Option Edit → List ℕ
edit_or_null (Some edit) = edit_text edit
edit_or_null None = null

-- The JSON array with the related source position, or the empty array.
abbrev pub list_text : Option Related → List ℕ
list_text (Some related) = codes "[" ++ (related_text related ++ codes "]")
list_text None = codes "[]"

abbrev pub code_text : Option ℕ → List ℕ
code_text (Some code) = decimal code
code_text None = null

abbrev pub truth_text : Bool → List ℕ
truth_text true = codes "true"
truth_text false = codes "false"

-- A fault or a warning as a JSON object on one line.
abbrev pub entry_text : Entry → List ℕ
entry_text e = codes "{\"kind\":" ++ (quoted e.kind.now
    ++ (codes ",\"rule\":" ++ (quoted e.rule.now
    ++ (codes ",\"code\":" ++ (code_text e.code
    ++ (codes ",\"first\":" ++ (truth_text e.is_first
    ++ (codes ",\"file\":" ++ (quoted e.file.now
    ++ (codes "," ++ (range_members e.range
    ++ (codes ",\"message\":" ++ (quoted e.message.now
    ++ (codes ",\"detail\":" ++ (quoted_or_null (option_map (λ t. t.now) e.detail)
    ++ (codes ",\"hint\":" ++ (quoted_or_null (option_map (λ t. t.now) e.hint)
    ++ (codes ",\"edit\":" ++ (edit_or_null e.edit
    ++ (codes ",\"related\":" ++ (list_text e.related ++ codes "}")))))))))))))))))))))
