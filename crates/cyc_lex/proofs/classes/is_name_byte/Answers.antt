use Rattle.std.proofs.Common.{◌≡◌, ◌+◌, ◌<◌, false, arith}
use Rattle.std.proofs.lemmas.List.FromFn.{get_or-map-range_with_len}
use Rattle.cyc_syntax.specs.Spelling.{is_name_byte}
use Rattle.cyc_lex.proofs.classes.is_name_byte.Goals as goal

-- The table of name bytes agrees with the specification at each byte.
pub returns : goal.returns
returns c =
    let within : c.from.result < 256 = omega arith in
    let same : 0 + c.from.result ≡ c.args.b = omega arith in
    get_or-map-range_with_len is_name_byte 0 256 c.from.result c.args.b false within same
