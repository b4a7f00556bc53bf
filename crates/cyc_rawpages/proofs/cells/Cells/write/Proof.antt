-- `write` turns the cell into uninitialised space, whatever it contained, and stores the word there.
use mathlib.Core.Path.{◌≡◌, refl, sym, subst, ◌∙◌}
use Prim.Native.Nat.{◌+◌, ◌*◌, ◌<◌, ◌^◌}
use native.Mathlib.Omega.{arith}
use mathlib.Core.List.{List, [], ◌∷◌}
use lib.ListN.{length, set, get_or, length-set}
use base.Fraction.{full_share}
use base.Fml.{ftrue, fat, froom, flft}
use base.Logic.{never, id⊢}
use mir.Syntax.{w32, w64, ty_int, named}
use mir.Val.{Val, vunit}
use contract.Monad.{fact}
use contract.Running.{tables}
use types.Kit.{‵, raw, ◌⊛◌, at_ret, ◌$◌, ◌∵◌, !, qed, move, keep, use1, use2, split, join, rewrite, fsplit, fsplit3, fjoin, fjoin3, feq_i, suffices, done}
use types.Part.{whole, sub}
use types.Run.{init, stop, fld, lit, unit_lit, of_opd, bin, assigns_last, first, blocks, exec, returns, enter}
use types.ByLocal.{alloc_all, pass_all, free_all, look_at, get, get_in, through, sets, take_at, give_at, env}
use denote.Exit.{yes}
use denote.Builtin.{u32, usize}
use denote.RattleType.{owns}
use denote.Param.{layout}
use denote.RawPtr.{Ptr, in_a_block}
use denote.Ref.{mut_vals, mut_Tells}
use denote.Plain.{uint_vals, uint_Tells, uint_in}
use denote.Signature.{plain, types_at}
use denote.Steps.{nothing, opens, closes, heard}
use denote.Triple.Walked.{Stays, stay_dropped, stay_ref, walk_of, says, ends_at, Goes-dropped, Goes-ref}
use Rattle.std.proofs.raw_atomic.Walks.{proved}
use Rattle.std.proofs.VecSteps.Shapes.{after}
use Rattle.std.specs.Prelude.{Some, None}
use Rattle.cyc_rawpages.specs.inside.Ownership.{place, places, places_at}
use Rattle.cyc_rawpages.proofs.Values.{start_val, start_typed}
use Rattle.cyc_rawpages.proofs.Places.{besides, place_out, place_in, place_room}
use Rattle.cyc_rawpages.specs.contracts.cells.Cells.write as f
use Rattle.cyc_rawpages.proofs.cells.Cells.write.Statement.{statement}
use Rattle.cyc_rawpages.proofs.cells.Cells.write.Code as code
use Rattle.cyc_rawpages.specs.contracts.cells.Cells.{the_row as R}
use Rattle.cyc_rawpages.specs.contracts.cells.Start.{the_row as S}
use Rattle.cyc_rawpages.proofs.cells.Start.TheLaws.{lowers}

abbrev stayed : Stays f.ended.signature.params f.ended.kept
stayed = (stay_ref (0 ∷ []) tt (plain (λ _. R)), (stay_dropped (plain (λ _. S)) yes, (stay_dropped (plain (λ _. usize)) yes, (stay_dropped (plain (λ _. u32)) yes, tt))))

pub write_spec : {M : Type 1} → statement M
write_spec 𝓤 𝓛 𝓜 𝓡 wired =
    let c = f.clauses 𝓛 𝓜.mem 𝓡.returns in let W = walk_of 𝓛 f.ended stayed c in let 𝓣 = tables 𝓤 𝓛.H 𝓜 𝓡 𝓡.env in
    proved 𝓛 f.ended stayed c 𝓜 𝓡 (Goes-ref 𝓛 1 0 tt (plain (λ _. R)), (Goes-dropped 𝓛 1 (plain (λ _. S)) yes (λ κs x w. refl), (Goes-dropped 𝓛 1 (plain (λ _. usize)) yes (λ κs x w. refl), (Goes-dropped 𝓛 1 (plain (λ _. u32)) yes (λ κs x w. refl), tt))))
    f.Key.name code.function (code.unfolded 𝓤 𝓛.H 𝓜 𝓡 wired)
    (λ κs. (mut_vals, ((λ s. start_val s.at ∷ []), (uint_vals w64, (uint_vals w32, tt)))))
    (λ κs. (mut_Tells (named 0) κs.0 R, (lowers.val_is, (uint_Tells w64, (uint_Tells w32, tt)))))
    (λ κs qs bounds a _ are.
    let b = a.0.ref_ptr.0 in let o = a.0.ref_ptr.1 in let h = a.0.now in let p = a.1.0.at in let i = a.1.1.0 in let w = a.1.1.1.0 in
    let y : W.Ghost = ((κs, qs, bounds, a, (mut_vals a.0, (start_val p ∷ [], (uint_vals w64 i, (uint_vals w32 w, tt))))), tt) in
    let Asked : Type 0 = (p ≡ h.at) × (i < length h.slots) in
    qed 𝓛 (((‵ (flft κs.0 qs.0) ⊛ ‵ ftrue) ⊛ ‵ (owns (types_at f.signature.params κs) a y.0.4)) ∷ raw (fact 𝓤 Asked) ∷ []) ∵
    move ! (1 ∷ []) $ heard ! Asked (λ asked. split ! $ split ! $ move ! (2 ∷ []) $ fsplit ! $ keep ! (0 ∷ 2 ∷ []) $
    enter ! _ _ _ _ _ $ alloc_all ! (λ l. pass_all ! refl ((tt, tt), (start_typed p, ((tt, record { fits = are.1.1.0.1 }), ((tt, record { fits = are.1.1.1.0.1 }), tt)))) $
    -- The proof's resources at this point: the reference; the lifetime token.
    fsplit3 ! $ move ! (1 ∷ 2 ∷ 3 ∷ []) $ opens ! tt R {h = h} b o (λ us.
    -- The proof's resources at this point: the struct's cell; the resources that the struct owns; the open borrow, as three
    -- resources; the reference's first part.
    move ! (1 ∷ []) $ fsplit ! $ move ! (1 ∷ []) $ in_a_block ! h.at (λ q. places_at q h.slots) (id⊢ 𝓤 (never 𝓤)) (λ b' o' e.
    let few = h.few in let far : i * 4 < 2 ^ 64 = omega (arith, few, asked.1) in let at = i * 4 + o' in
    let new : R.Denot = record { at = h.at; slots = set h.slots i (Some w); few = subst (λ k. k < 2 ^ 32) (sym (length-set h.slots i (Some w))) h.few } in
    take_at ! 2 $ rewrite ! 0 (λ (q : Ptr). ‵ (fat full_share (layout S) (l 2) 0 (start_val q))) (asked.0 ∙ e) refl $ give_at ! 2 $
    first ! $ blocks ! $
    sets ! (bin ! (get ! refl) (lit ! tt) (record { fits = far })) refl (tt, record { fits = far }) $
    sets ! (bin ! (get_in ! (fld ! refl (stop !)) (sub ! 0 refl (whole !))) (get ! refl) tt) refl (tt, tt) $
    use1 𝓛 (‵ (place b' at (get_or h.slots i None)) ⊛ ‵ (besides 𝓛 b' o' h.slots i)) (place_out 𝓛 b' o' h.slots i asked.1) $ split ! $
    use1 𝓛 (‵ (froom (ty_int w32) b' at)) (place_room 𝓛 b' at (get_or h.slots i None)) $
    assigns_last ! (of_opd ! (get ! refl)) (through ! refl (stop !)) (init ! 0 refl (tt, record { fits = are.1.1.1.0.1 })) $
    exec ! 𝓣.C 𝓣.Λ (env code.Mir.locals l) (after 1 (code.function).body) (at_ret _ (W.post y)) $
    sets ! (of_opd ! (unit_lit !)) refl (tt, tt) $
    use1 𝓛 (‵ (place b' at (Some w))) (uint_in 𝓛 full_share w32 w b' at) $
    use2 𝓛 (‵ (places b' o' new.slots)) (place_in 𝓛 b' o' h.slots i asked.1 (Some w)) $
    rewrite ! 0 (λ (q : Ptr). ‵ (places_at q new.slots)) (sym e) refl $
    move ! (1 ∷ 0 ∷ []) $ fjoin ! $ move ! (1 ∷ 0 ∷ []) $ closes ! tt R new us b o $
    returns ! (look_at ! 0 refl) $ free_all ! refl $ keep ! (3 ∷ 0 ∷ 1 ∷ 2 ∷ []) $
    suffices ! _ (ends_at 𝓛 f.ended stayed c y vunit tt (new, (tt, (tt, (tt, tt)))) (tt, (tt, (tt, (tt, tt))))) $ says ! (refl, refl) $
    -- The proof's resources at this point: the reference; the result; the lifetime token.
    fjoin3 ! $ feq_i ! (List Val) (vunit ∷ []) (vunit ∷ []) refl $ nothing ! $ move ! (3 ∷ 0 ∷ []) $ join ! $
    nothing ! $ nothing ! $ fjoin ! $ nothing ! $ fjoin ! $ nothing ! $ fjoin ! $ move ! (3 ∷ 0 ∷ []) $ fjoin ! $ move ! (1 ∷ 0 ∷ []) $ done !)))))
