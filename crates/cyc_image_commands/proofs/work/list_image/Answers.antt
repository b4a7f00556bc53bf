use Rattle.cyc_host.specs.inside.Console.{screen_written}
use Rattle.cyc_image_commands.proofs.work.list_image.Goals as goal

pub returns : goal.returns
returns g c = (
  c.list_to-answer.result,
  screen_written g.W.Write.contents c.list_to-answer.new.writer,
  c.list_to-answer.ensures,
  c.finish_for.ensures.bytes,
  c.finish_for.ensures.answer,
)
