use Rattle.cyc_host.specs.inside.Console.{screen_written}
use Rattle.cyclone.proofs.page.print_page.Goals as goal

pub returns : goal.returns
returns g c = (
  c.print_to-answer.result,
  screen_written g.W.Write.contents c.print_to-answer.new.writer,
  c.print_to-answer.ensures,
  c.finish_for.ensures.bytes,
  c.finish_for.ensures.answer,
)
