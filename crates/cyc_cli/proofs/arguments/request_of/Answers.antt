use Rattle.std.proofs.Common.{codes}
use Rattle.clap.specs.Words.{first_value}
use Rattle.clap.specs.declared.parser.matches.ArgMatches.TheViews.{out-ArgMatches}
use Rattle.cyc_cli.proofs.Requests.{renamed}
use Rattle.cyc_cli.proofs.arguments.request_of.Goals as goal

pub returns-in-run : goal.returns-in-run
returns-in-run c = renamed c.args.name.now (codes "run") (first_value (out-ArgMatches c.args.matches.now).found) c.run_request.result c.in-run.is c.run_request.ensures

pub returns-in-exec : goal.returns-in-exec
returns-in-exec c = renamed c.args.name.now (codes "exec") (first_value (out-ArgMatches c.args.matches.now).found) c.run_request-in-exec.result c.in-exec.is c.run_request-in-exec.ensures

pub returns-in-compile : goal.returns-in-compile
returns-in-compile c = renamed c.args.name.now (codes "compile") (first_value (out-ArgMatches c.args.matches.now).found) c.compile_request.result c.in-compile.is c.compile_request.ensures
