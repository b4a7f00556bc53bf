use Rattle.std.proofs.Common.{map, Ok, Err, sym, subst}
use Rattle.std.proofs.lemmas.Result.{err_from_is_err_and}
use Rattle.cyc_syntax.specs.Tokens.{token_of}
use Rattle.cyc_lex.specs.Refusals as lexer
use Rattle.cyc_parse.specs.Acceptance as parser
use Rattle.cyc_syntax.specs.inside.TreeView.{declarations_of}
use Rattle.cyc_types.specs.declared.typed.TypedTree.{TypedTree}
use Rattle.cyc_types.specs.TypedTreeView.{view_program}
use Rattle.cyc_types.specs.typing.Programs.{IsTypedProgram, IsRefusedProgram}
use Rattle.cyc_soundness.specs.Sound.{IsSound}
use Rattle.cyc_front.specs.Front.{names_in}
use Rattle.cyc_front.proofs.Fronts.{passed, stopped_front, lexed, of_tokens, checked, lexer_answers, parser_answers, checker_answers, flow_answers, HasProgram, HasPhases, refused_by_both, accepted_alike}
use Rattle.cyc_front.proofs.front.run_phases.Goals as goal

pub returns-in_err-tokens : goal.returns-in_err-tokens
returns-in_err-tokens c =
    let text = c.args.text.now in
    let f = c.in_err-tokens.field-0.0 in
    let d = c.in_err-tokens.ensures.decides in
    let p = err_from_is_err_and c.from_residual.result c.from_residual.ensures.1 in
    record { decides = rw (p.1, p.2) (refused_by_both HasProgram HasPhases f (lexer_answers text f d.refused (stopped_front _ _ _ _ f d))); tokens = rw p.1 tt; tree = rw p.1 tt; sound = rw p.1 tt }

pub returns-in_err-tree : goal.returns-in_err-tree
returns-in_err-tree c =
    let text = c.args.text.now in
    let tokens = map (token_of text) c.deref.result.now in
    let l = lexed text c.in_ok-tokens.tokens.items c.deref.result.now c.deref.ensures.value
    (passed (λ v. map (token_of text) v.items) (lexer.IsAccepted text) (lexer.IsRefused text) (lexer.IsRefused text) c.in_ok-tokens.tokens c.in_ok-tokens.ensures.decides) in
    let f = c.in_err-tree.field-0.0 in
    let d = c.in_err-tree.ensures.decides in
    let p = err_from_is_err_and c.from_residual-in_err-tree.result c.from_residual-in_err-tree.ensures.1 in
    record { decides = rw (p.1, p.2) (refused_by_both HasProgram HasPhases f (parser_answers text tokens f l d.refused (stopped_front _ _ _ _ f d))); tokens = rw p.1 tt; tree = rw p.1 tt; sound = rw p.1 tt }

pub returns-in_err-typed : goal.returns-in_err-typed
returns-in_err-typed c =
    let text = c.args.text.now in
    let tokens = map (token_of text) c.deref.result.now in
    let l = lexed text c.in_ok-tokens.tokens.items c.deref.result.now c.deref.ensures.value
    (passed (λ v. map (token_of text) v.items) (lexer.IsAccepted text) (lexer.IsRefused text) (lexer.IsRefused text) c.in_ok-tokens.tokens c.in_ok-tokens.ensures.decides) in
    let r = passed declarations_of (parser.IsAccepted tokens) (parser.IsRefused text tokens) (parser.IsFaulty text tokens) c.in_ok-tree.tree c.in_ok-tree.ensures.decides in
    let f = c.in_err-typed.field-0.0 in
    let d = c.in_err-typed.ensures.decides in
    let p = err_from_is_err_and c.from_residual-in_err-typed.result c.from_residual-in_err-typed.ensures.1 in
    record { decides = rw (p.1, p.2) (refused_by_both HasProgram HasPhases f (checker_answers text tokens (declarations_of c.in_ok-tree.tree) c.in_ok-tree.tree.names f l r c.in_ok-tree.ensures.names d.refused (stopped_front _ _ _ _ f d))); tokens = rw p.1 tt; tree = rw p.1 tt; sound = rw p.1 tt }

pub returns-in_err-program : goal.returns-in_err-program
returns-in_err-program c =
    let text = c.args.text.now in
    let tokens = map (token_of text) c.deref.result.now in
    let tree = declarations_of c.in_ok-tree.tree in
    let texts = c.in_ok-tree.tree.names in
    let l = lexed text c.in_ok-tokens.tokens.items c.deref.result.now c.deref.ensures.value
    (passed (λ v. map (token_of text) v.items) (lexer.IsAccepted text) (lexer.IsRefused text) (lexer.IsRefused text) c.in_ok-tokens.tokens c.in_ok-tokens.ensures.decides) in
    let r = passed declarations_of (parser.IsAccepted tokens) (parser.IsRefused text tokens) (parser.IsFaulty text tokens) c.in_ok-tree.tree c.in_ok-tree.ensures.decides in
    let k = checked tokens tree (view_program c.in_ok-typed.typed) texts c.in_ok-tree.ensures.names
    (passed view_program (IsTypedProgram texts tree) (IsRefusedProgram texts tree) (IsRefusedProgram texts tree) c.in_ok-typed.typed c.in_ok-typed.ensures.decides) in
    let f = c.in_err-program.field-0.0 in
    let p = err_from_is_err_and c.from_residual-in_err-program.result c.from_residual-in_err-program.ensures.1 in
    record { decides = rw (p.1, p.2) (refused_by_both HasProgram HasPhases f (flow_answers text tokens tree c.in_ok-typed.typed (Err f) l r k c.in_err-program.ensures.decides)); tokens = rw p.1 tt; tree = rw p.1 tt; sound = rw p.1 tt }

pub returns : goal.returns
returns c =
    let text = c.args.text.now in
    let tokens = map (token_of text) c.deref.result.now in
    let tree = declarations_of c.in_ok-tree.tree in
    let texts = c.in_ok-tree.tree.names in
    let whole = passed (λ v. map (token_of text) v.items) (lexer.IsAccepted text) (lexer.IsRefused text) (lexer.IsRefused text) c.in_ok-tokens.tokens c.in_ok-tokens.ensures.decides in
    let l = lexed text c.in_ok-tokens.tokens.items c.deref.result.now c.deref.ensures.value whole in
    let r = passed declarations_of (parser.IsAccepted tokens) (parser.IsRefused text tokens) (parser.IsFaulty text tokens) c.in_ok-tree.tree c.in_ok-tree.ensures.decides in
    let k = checked tokens tree (view_program c.in_ok-typed.typed) texts c.in_ok-tree.ensures.names
    (passed view_program (IsTypedProgram texts tree) (IsRefusedProgram texts tree) (IsRefusedProgram texts tree) c.in_ok-typed.typed c.in_ok-typed.ensures.decides) in
    let program = c.in_ok-program.program in
    let d = flow_answers text tokens tree c.in_ok-typed.typed (Ok program) l r k c.in_ok-program.ensures.decides in
    let (one, allowed, same) = c.in_ok-program.ensures.decides.accepted in
    record {
      decides = accepted_alike HasProgram HasPhases program _ (λ p same. same) d;
      tokens = whole.is;
      tree = of_tokens text c.deref.result.now c.in_ok-tokens.tokens.items c.in_ok-tree.tree c.deref.ensures.value r.is c.in_ok-tree.ensures.names;
      sound = subst (λ (t : TypedTree). IsSound (view_program t)) (sym same) (c.in_ok-program.ensures.sound (names_in tokens) tree k.is);
    }
