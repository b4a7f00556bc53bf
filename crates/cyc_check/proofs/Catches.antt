-- The result of the typing rules for a `catch` follows from the results for its clauses and for the statements of its default clause.
use Rattle.std.proofs.Common.{◌≡◌, List, [], Option, Some, None, Ok, sym, ap, ◌∙◌}
use Rattle.std.specs.declared.vec.Vec.{Vec}
use Rattle.std.specs.declared.alloc.Global.{Global}
use Rattle.cyc_syntax.specs.declared.tree.Clause.{Clause}
use Rattle.cyc_syntax.specs.declared.tree.Item.{Item}
use Rattle.cyc_syntax.specs.Symbols.{Place}
use Rattle.cyc_syntax.specs.Trees.{Statement, Clauses, NoClauses, Try}
use Rattle.cyc_syntax.specs.inside.TreeView.{items_of, default_of, clauses_of}
use Rattle.cyc_types.specs.TypedTrees as typed
use Rattle.cyc_types.specs.typing.Scopes.{Scope, following}
use Rattle.cyc_types.specs.typing.Statements.{rule_statement, rule_clauses}
use Rattle.cyc_types.specs.Rules.{and_then, run}
use Rattle.cyc_scope.specs.declared.stop.Stop.{Stop}
use Rattle.cyc_scope.specs.declared.stop.Stop.TheVariants as stops
use Rattle.cyc_scope.specs.inside.Code.{Stops}
use Rattle.cyc_check.proofs.Clauses.{clauses_stop}

pub try_gives : (g h : Scope) (p : Place) (t : Statement) (cs : Clauses) (b : typed.Statement) (ds : typed.Clauses) → run (rule_statement g t) ≡ Ok b → h ≡ following g t → run (rule_clauses h [] cs) ≡ Ok ds
    → run (rule_statement g (Try p t cs)) ≡ Ok (typed.Try b ds)
try_gives g h p t cs b ds body same caught =
    ap (λ o. and_then o (λ x. and_then (run (rule_clauses (following g t) [] cs)) (λ es. Ok (typed.Try x es)))) body
    ∙ ap (λ o. and_then o (λ es. Ok (typed.Try b es))) (sym (ap (λ (x : Scope). run (rule_clauses x [] cs)) same) ∙ caught)

pub try_stops : (e : Stop) (g h : Scope) (p : Place) (t : Statement) (cs : Clauses) (b : typed.Statement) → run (rule_statement g t) ≡ Ok b → h ≡ following g t → Stops e (run (rule_clauses h [] cs)) → Stops e (run (rule_statement g (Try p t cs)))
try_stops stops.Memory g h p t cs b body same caught = tt
try_stops (stops.Refused f) g h p t cs b body same caught =
    ap (λ o. and_then o (λ x. and_then (run (rule_clauses (following g t) [] cs)) (λ es. Ok (typed.Try x es)))) body
    ∙ ap (λ o. and_then o (λ es. Ok (typed.Try b es))) (sym (ap (λ (x : Scope). run (rule_clauses x [] cs)) same) ∙ caught)

-- If the clauses of a `catch` violate a typing rule, the `catch` has the fault of these clauses, with a default clause or without one.
pub clauses_stop_before : (e : Stop) (h : Scope) (cs : List Clause) (o : Option (Vec Item Global)) → Stops e (run (rule_clauses h [] (clauses_of cs NoClauses))) → Stops e (run (rule_clauses h [] (clauses_of cs (default_of o))))
clauses_stop_before e h cs None stop = stop
clauses_stop_before e h cs (Some is) stop = clauses_stop e h cs (items_of is.items) stop
