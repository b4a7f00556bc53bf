use Rattle.std.proofs.Common.{subst}
use Rattle.cyc_syntax.specs.inside.TreeView.{place_of_span}
use Rattle.cyc_scope.specs.inside.Code.{Gives}
use Rattle.cyc_operands.specs.inside.Operands.{view_boxed}
use Rattle.cyc_typing.proofs.Handed.{loaded_is}
use Rattle.cyc_typing.proofs.places.loaded.Goals as goal

pub returns : goal.returns
returns c = λ w h. subst (λ o. Gives view_boxed c.load_reached.result o) (loaded_is c.args.reached w (place_of_span c.args.span) h) c.load_reached.ensures
