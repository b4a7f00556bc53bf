use Rattle.std.proofs.Common.{map, string_bytes, sym}
use Rattle.clap.specs.Words.{app_of, found_of}
use Rattle.cyc_cli.proofs.Requests.{request_is_asked}
use Rattle.cyc_cli.proofs.arguments.request_in.Goals as goal

pub returns-clause-asked : goal.returns-clause-asked
returns-clause-asked c =
    request_is_asked (app_of c.args.program.now) (map string_bytes c.args.words.now) c.in_ok-matches.matches (found_of c.in-Some.matches.now) c.in-Some.name.now c.request_of.result
    c.in_ok-matches.ensures.ok.2 (sym c.in-Some.ensures.name) (sym c.in-Some.ensures.rows) c.request_of.ensures
