use Rattle.cyc_host.specs.inside.Console.{screen_written}
use Rattle.cyc_image_commands.proofs.work.run_image.Goals as goal

pub returns : goal.returns
returns g c = (
  c.run_between-answer.result.0,
  screen_written g.W.Write.contents c.run_between-answer.new.writer,
  c.run_between-answer.ensures,
  c.finish_for.ensures.bytes,
  c.finish_for.ensures.answer,
)
