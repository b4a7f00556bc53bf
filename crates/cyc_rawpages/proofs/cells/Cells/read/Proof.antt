-- `read` accesses the word through the borrow that a shared reference to the cells stands for.
use mathlib.Core.Path.{◌≡◌, refl, ◌∙◌}
use Prim.Native.Nat.{ℕ, ◌+◌, ◌*◌, ◌<◌, ◌^◌}
use native.Mathlib.Omega.{arith}
use mathlib.Core.List.{List, [], ◌∷◌}
use lib.ListN.{length, get_or}
use base.Fraction.{full_share}
use base.Fml.{ftrue, fat, flft}
use base.Logic.{never, id⊢}
use mir.Syntax.{w32, w64, named}
use mir.Val.{Val, vint}
use contract.Monad.{fact}
use contract.Running.{tables}
use denote.Opens.{unhide, hide}
use denote.Copied.{uint_Copied}
use denote.Memory.{cell_at}
use types.Kit.{‵, raw, ◌⊛◌, at_ret, feq_l, flt_l, flt_i, ◌$◌, ◌∵◌, !, qed, move, keep, drop, use1, split, join, rewrite, fsplit, fjoin, feq_i, suffices, done}
use types.Part.{whole, sub}
use types.Run.{load, look, stop, fld, lit, of_opd, bin, first, blocks, exec, returns, enter}
use types.ByLocal.{alloc_all, pass_all, free_all, look_at, get, get_in, through, sets, take_at, give_at, sets_last, env}
use denote.Exit.{yes}
use denote.Builtin.{u32, usize, RefOf}
use denote.RattleType.{owns}
use denote.Param.{layout}
use denote.RawPtr.{Ptr, in_a_block}
use denote.Ref.{shr_vals, shr_Tells}
use denote.Plain.{uint_vals, uint_Tells}
use denote.Signature.{plain, types_at}
use denote.Steps.{nothing, looks, shuts, heard}
use denote.Triple.Walked.{Stays, stay_dropped, walk_of, says, ends_at, Goes-dropped}
use Rattle.std.proofs.raw_atomic.Walks.{proved}
use Rattle.std.proofs.VecSteps.Shapes.{after}
use Rattle.std.specs.Prelude.{Option, None}
use Rattle.cyc_rawpages.specs.inside.Ownership.{place_lent, lent_at, IsFilled}
use Rattle.cyc_rawpages.proofs.Values.{start_val, start_typed}
use Rattle.cyc_rawpages.proofs.Places.{filled_within, place_seen}
use Rattle.cyc_rawpages.specs.contracts.cells.Cells.read as f
use Rattle.cyc_rawpages.proofs.cells.Cells.read.Statement.{statement}
use Rattle.cyc_rawpages.proofs.cells.Cells.read.Code as code
use Rattle.cyc_rawpages.specs.contracts.cells.Cells.{the_row as R}
use Rattle.cyc_rawpages.specs.contracts.cells.Start.{the_row as S}
use Rattle.cyc_rawpages.proofs.cells.Start.TheLaws.{lowers}

abbrev stayed : Stays f.ended.signature.params f.ended.kept
stayed = (stay_dropped (RefOf (0 ∷ []) tt (plain (λ _. R)) (λ _. tt)) yes, (stay_dropped (plain (λ _. S)) yes, (stay_dropped (plain (λ _. usize)) yes, tt)))

pub read_spec : {M : Type 1} → statement M
read_spec 𝓤 𝓛 𝓜 𝓡 wired =
    let c = f.clauses 𝓛 𝓜.mem 𝓡.returns in let W = walk_of 𝓛 f.ended stayed c in let 𝓣 = tables 𝓤 𝓛.H 𝓜 𝓡 𝓡.env in
    proved 𝓛 f.ended stayed c 𝓜 𝓡 (Goes-dropped 𝓛 1 (RefOf (0 ∷ []) tt (plain (λ _. R)) (λ _. tt)) yes (λ κs x w. refl), (Goes-dropped 𝓛 1 (plain (λ _. S)) yes (λ κs x w. refl), (Goes-dropped 𝓛 1 (plain (λ _. usize)) yes (λ κs x w. refl), tt)))
    f.Key.name code.function (code.unfolded 𝓤 𝓛.H 𝓜 𝓡 wired)
    (λ κs. (shr_vals, ((λ s. start_val s.at ∷ []), (uint_vals w64, tt))))
    (λ κs. (shr_Tells (named 0) κs.0 R, (lowers.val_is, (uint_Tells w64, tt))))
    (λ κs qs bounds a _ are.
    let b = a.0.ref_ptr.0 in let o = a.0.ref_ptr.1 in let h = a.0.now in let p = a.1.0.at in let i = a.1.1.0 in
    let y : W.Ghost = ((κs, qs, bounds, a, (shr_vals a.0, (start_val p ∷ [], (uint_vals w64 i, tt)))), tt) in
    let Asked : Type 0 = (p ≡ h.at) × IsFilled h.slots i in
    qed 𝓛 (((‵ (flft κs.0 qs.0) ⊛ ‵ ftrue) ⊛ ‵ (owns (types_at f.signature.params κs) a y.0.4)) ∷ raw (fact 𝓤 Asked) ∷ []) ∵
    move ! (1 ∷ []) $ heard ! Asked (λ asked. split ! $ split ! $ move ! (2 ∷ []) $ fsplit ! $ fsplit ! $ keep ! (1 ∷ 3 ∷ []) $
    enter ! _ _ _ _ _ $ alloc_all ! (λ l. pass_all ! refl ((tt, tt), (start_typed p, ((tt, record { fits = are.1.1.0.1 }), tt))) $
    let w = asked.1.0 in let lt : i < length h.slots = filled_within h.slots i w asked.1.1 in
    -- The proof's resources at this point: a `&` reference to the struct; the lifetime token.
    unhide ! $ fsplit ! $ drop ! $ in_a_block ! h.at (λ q. lent_at q h.slots κs.0) (id⊢ 𝓤 (never 𝓤)) (λ b' o' e.
    let few = h.few in let far : i * 4 < 2 ^ 64 = omega (arith, few, lt) in let at = i * 4 + o' in
    take_at ! 2 $ rewrite ! 0 (λ (q : Ptr). ‵ (fat full_share (layout S) (l 2) 0 (start_val q))) (asked.0 ∙ e) refl $ give_at ! 2 $
    use1 𝓛 (‵ (place_lent b' at (get_or h.slots i None) κs.0)) (place_seen 𝓛 b' κs.0 o' h.slots i lt) $
    rewrite ! 0 (λ (s : Option ℕ). ‵ (place_lent b' at s κs.0)) asked.1.1 refl $ hide ! $
    looks ! tt u32 (uint_Copied 𝓛 w32).opens w b' at (λ q' us. move ! (1 ∷ []) $ fsplit ! $ feq_l ! (λ is. flt_l ! (λ fits.
    rewrite ! 0 (λ (us : List Val). ‵ (cell_at q' u32.mir us b' at)) is refl $ move ! (2 ∷ []) $ drop ! $
    -- The proof's resources at this point: the word's cell; the assertion that gives the borrowed cell back.
    first ! $ blocks ! $
    sets ! (bin ! (get ! refl) (lit ! tt) (record { fits = far })) refl (tt, record { fits = far }) $
    sets ! (bin ! (get_in ! (fld ! refl (stop !)) (sub ! 0 refl (whole !))) (get ! refl) tt) refl (tt, tt) $
    sets_last ! (of_opd ! (load ! (through ! refl (stop !)) (look ! 0 refl))) refl (tt, record { fits = fits }) $
    exec ! 𝓣.C 𝓣.Λ (env code.Mir.locals l) (after 1 (code.function).body) (at_ret _ (W.post y)) $
    sets ! (of_opd ! (get ! refl)) refl (tt, record { fits = fits }) $
    flt_i ! w (2 ^ 32) fits $ feq_i ! (List Val) (vint w32 w ∷ []) (vint w32 w ∷ []) refl $ fjoin ! $ move ! (1 ∷ 0 ∷ []) $ shuts ! tt u32 q' w (vint w32 w ∷ []) b' at $
    returns ! (look_at ! 0 refl) $ free_all ! refl $ keep ! (0 ∷ []) $
    suffices ! _ (ends_at 𝓛 f.ended stayed c y (vint w32 w) w (tt, (tt, (tt, tt))) (tt, (tt, (tt, tt)))) $ says ! asked.1.1 $
    flt_i ! w (2 ^ 32) fits $ feq_i ! (List Val) (vint w32 w ∷ []) (vint w32 w ∷ []) refl $ fjoin ! $
    nothing ! $ move ! (2 ∷ 0 ∷ []) $ join ! $ nothing ! $ nothing ! $ fjoin ! $ nothing ! $ fjoin ! $ nothing ! $ fjoin ! $ move ! (1 ∷ 0 ∷ []) $ done !)))))))
