use Rattle.cyc_host.specs.inside.Console.{screen_written}
use Rattle.cyc_source_commands.proofs.formatting.format_text.Goals as goal

pub returns : goal.returns
returns g c = (
  c.in_ok-answer.answer,
  screen_written g.W.Write.contents c.format_to.new.writer,
  c.in_ok-answer.ensures,
  c.finish_for.ensures.bytes,
  c.finish_for.ensures.answer,
)
