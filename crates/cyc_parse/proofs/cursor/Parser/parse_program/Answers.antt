use Rattle.std.proofs.Common.{◌≡◌, List, [], map, Some, None, option_map, Ok, refl, sym, ap, ◌∙◌}
use Rattle.std.proofs.lemmas.Result.{err_from_is_err_and}
use Rattle.cyc_syntax.specs.Symbols.{Symbol}
use Rattle.cyc_syntax.specs.inside.TreeView.{view_declaration}
use Rattle.cyc_parse.specs.inside.Code.{view_terminal}
use Rattle.cyc_parse.specs.inside.Declarations.{declarations_in}
use Rattle.cyc_parse.proofs.Loops.{goes_on, fails, ends_as, is_full_as, onto-map, declarations_steps, no_declaration, a_declaration, no_more_of_declaration}
use Rattle.cyc_parse.proofs.cursor.Parser.parse_program.Goals as goal

pub returns-in_err-declaration : goal.returns-in_err-declaration
returns-in_err-declaration c =
    let p = err_from_is_err_and c.from_residual-in_err-declaration.result c.from_residual-in_err-declaration.ensures.1 in
    let stopped = no_more_of_declaration 200 _ c.loop.self c.parse_declaration-in-loop.new.self c.in_err-declaration.field-0.0 (sym c.next.ensures ∙ ap (option_map view_terminal) c.in-Some.is) c.in_err-declaration.ensures in
    rw (p.1, p.2) (fails view_declaration _ _ _ _ (declarations_steps 200) c.in_err-declaration.field-0.0 c.loop.declarations.items c.len-most.result c.loop.counter c.loop.self c.parse_declaration-in-loop.new.self _ c.loop-test.true stopped c.loop.invariant)

pub returns-in_default : goal.returns-in_default
returns-in_default c =
    let none = no_declaration 200 c.loop.self (sym c.next.ensures ∙ ap (option_map view_terminal) c.in_default.is) in
    ends_as view_declaration _ [] (map view_declaration) (onto-map view_declaration) _ _ (declarations_steps 200) c.loop.declarations.items c.len-most.result c.loop.counter c.loop.self c.loop.self None _ c.loop-test.true none refl c.loop.invariant

pub loop-preserved : goal.loop-preserved
loop-preserved c =
    let one = a_declaration 200 _ c.loop.self c.parse_declaration-in-loop.new.self (view_declaration c.in_ok-declaration.declaration) (sym c.next.ensures ∙ ap (option_map view_terminal) c.in-Some.is) c.in_ok-declaration.ensures in
    rw c.in_ok-push-2.ensures.items (goes_on view_declaration _ _ _ _ (declarations_steps 200) c.loop.declarations.items c.len-most.result c.loop.counter c.loop.self c.parse_declaration-in-loop.new.self (Some c.in_ok-declaration.declaration) c.in_ok-declaration.declaration _ c.loop-test.true one refl c.loop.invariant)

no_more : (ts : List Symbol) → declarations_in 200 0 ts ≡ Ok ([], ts)
unfolding declarations_in
no_more ts = refl

pub returns : goal.returns
returns c =
    is_full_as view_declaration _ [] (map view_declaration) (onto-map view_declaration) _ _ (declarations_steps 200) c.loop.declarations.items c.len-most.result c.loop.counter c.loop.self c.loop.self _ c.loop-test.false (no_more c.loop.self) c.loop.invariant
