use Rattle.std.proofs.Common.{map, option_map, sym, ap, subst}
use Rattle.std.proofs.lemmas.List.{drop_all}
use Rattle.cyc_words.proofs.Lists.{drop_read}
use Rattle.cyc_syntax.specs.inside.TreeView.{view_name, view_type, view_parameters, view_block, view_declaration}
use Rattle.cyc_check.proofs.FunctionLoops.{HasNoBody, passes_declaration, adds, functions_end}
use Rattle.cyc_check.proofs.functions.functions_of.Goals as goal
use Rattle.cyc_check.proofs.functions.functions_of.Goals.{in-Struct, in-Exceptions, in-Global, in-Function+in_ok-checked-in-Function+in_ok-push-in-Function}

pub loop-declaration-preserved : goal.loop-declaration-preserved
loop-declaration-preserved c =
    let is = drop_read c.args.declarations.now c.loop-declaration.declaration-index c.declaration-item.result c.loop-declaration-test.true c.declaration-item.is in
    elim c.match-declaration.branch [
      | in-Struct w ↦
          rw w.all-is
          (passes_declaration c.loop-declaration.all.items c.args.program.now (view_declaration c.declaration-item.result) _ _ _ (ap (map view_declaration) is) (subst HasNoBody (sym (ap view_declaration w.in-Struct.is)) tt) c.loop-declaration.invariant)
      | in-Exceptions w ↦
          rw w.all-is
          (passes_declaration c.loop-declaration.all.items c.args.program.now (view_declaration c.declaration-item.result) _ _ _ (ap (map view_declaration) is) (subst HasNoBody (sym (ap view_declaration w.in-Exceptions.is)) tt) c.loop-declaration.invariant)
      | in-Global w ↦
          rw w.all-is
          (passes_declaration c.loop-declaration.all.items c.args.program.now (view_declaration c.declaration-item.result) _ _ _ (ap (map view_declaration) is) (subst HasNoBody (sym (ap view_declaration w.in-Global.is)) tt) c.loop-declaration.invariant)
      | in-Function+in_ok-checked-in-Function+in_ok-push-in-Function w ↦
          rw (w.all-is, w.in_ok-push-in-Function.ensures.items)
          (adds c.loop-declaration.all.items c.args.program.now (option_map view_type w.in-Function.result) (view_name w.in-Function.name) (view_parameters w.in-Function.parameters) (view_block w.in-Function.body) (view_declaration c.declaration-item.result) _ _
          w.in_ok-checked-in-Function.checked.function _ (ap (map view_declaration) is) (ap view_declaration w.in-Function.is) w.in_ok-checked-in-Function.ensures c.loop-declaration.invariant)
    ]

pub returns : goal.returns
returns c = functions_end c.loop-declaration.all.items c.args.program.now _ _ (ap (map view_declaration) (drop_all c.loop-declaration.declaration-index c.args.declarations.now c.loop-declaration-test.false)) c.loop-declaration.invariant
