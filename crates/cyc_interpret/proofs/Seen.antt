-- What is seen of a machine's state, whether it is over or not.
use Rattle.std.proofs.Common.{◌≡◌, refl, List}
use Rattle.cyc_types.specs.TypedTrees.{Program}
use Rattle.cyc_meaning.specs.State.{World, Environment, Entry, output_of, input_of, demand, depth}
use Rattle.cyc_meaning.specs.Step.{step}
use Rattle.cyc_interpret.specs.declared.entry.Over.{Over}
use Rattle.cyc_interpret.specs.declared.entry.Over.TheVariants as over
use Rattle.cyc_interpret.specs.declared.entry.Phase.{Phase}
use Rattle.cyc_interpret.specs.declared.entry.Phase.TheVariants as phase
use Rattle.cyc_interpret.specs.View.{view_over, view_phase}

over_output : (end : Over) (w : World) → output_of (view_over end w) ≡ w.output
over_output (over.Returned n) w = refl
over_output (over.Uncaught tag n) w = refl
over_output over.Full w = refl
over_output over.Dead w = refl
over_output over.Wrong w = refl

over_input : (end : Over) (w : World) → input_of (view_over end w) ≡ w.input
over_input (over.Returned n) w = refl
over_input (over.Uncaught tag n) w = refl
over_input over.Full w = refl
over_input over.Dead w = refl
over_input over.Wrong w = refl

pub phase_output : (p : Phase) (stack : List Entry) (e : Environment) (w : World) → output_of (view_phase p stack e w) ≡ w.output
phase_output (phase.Running f) stack e w = refl
phase_output (phase.Over end) stack e w = over_output end w

pub phase_input : (p : Phase) (stack : List Entry) (e : Environment) (w : World) → input_of (view_phase p stack e w) ≡ w.input
phase_input (phase.Running f) stack e w = refl
phase_input (phase.Over end) stack e w = over_input end w

-- a run that is over has no pages and no calls, and stays as it is

pub over_demand : (end : Over) (w : World) → 0 ≡ demand (view_over end w)
over_demand (over.Returned n) w = refl
over_demand (over.Uncaught tag n) w = refl
over_demand over.Full w = refl
over_demand over.Dead w = refl
over_demand over.Wrong w = refl

pub over_depth : (end : Over) (w : World) → 0 ≡ depth (view_over end w)
over_depth (over.Returned n) w = refl
over_depth (over.Uncaught tag n) w = refl
over_depth over.Full w = refl
over_depth over.Dead w = refl
over_depth over.Wrong w = refl

pub over_calls_none : (program : Program) (end : Over) (w : World) → depth (step program (view_over end w)) ≡ 0
over_calls_none program (over.Returned n) w = refl
over_calls_none program (over.Uncaught tag n) w = refl
over_calls_none program over.Full w = refl
over_calls_none program over.Dead w = refl
over_calls_none program over.Wrong w = refl

pub over_step_stays : (program : Program) (end : Over) (w : World) → view_over end w ≡ step program (view_over end w)
over_step_stays program (over.Returned n) w = refl
over_step_stays program (over.Uncaught tag n) w = refl
over_step_stays program over.Full w = refl
over_step_stays program over.Dead w = refl
over_step_stays program over.Wrong w = refl
