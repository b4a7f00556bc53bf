use Rattle.std.proofs.Common.{subst}
use Rattle.cyc_scope.specs.inside.Code.{Gives}
use Rattle.cyc_operands.specs.inside.Operands.{view_found}
use Rattle.cyc_typing.proofs.Handed.{reached_is}
use Rattle.cyc_typing.proofs.places.as_place.Goals as goal

pub returns : goal.returns
returns c = λ w h. subst (λ o. Gives view_found c.place_reached.result o) (reached_is c.args.reached w h) c.place_reached.ensures
