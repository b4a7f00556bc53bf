use Rattle.cyc_host.specs.inside.Console.{screen_written}
use Rattle.cyc_image_commands.proofs.work.describe_image.Goals as goal

pub returns : goal.returns
returns g c = (
  c.describe_to-answer.result,
  screen_written g.W.Write.contents c.describe_to-answer.new.writer,
  c.describe_to-answer.ensures,
  c.finish_for.ensures.bytes,
  c.finish_for.ensures.answer,
)
