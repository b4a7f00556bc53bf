-- `release` turns the cells into uninitialised space and returns the space to the allocator with the right to free it. The proof
-- assumes the program logic `Logic`.
use mathlib.Core.Path.{◌≡◌, refl, ap, subst, ◌∙◌}
use mathlib.Core.List.{List, [], ◌∷◌, ◌++◌}
use Prim.Native.Nat.{ℕ, ◌*◌, ◌<◌, ◌^◌}
use native.Mathlib.Omega.{arith}
use lib.Dec.{lit<}
use lib.ListN.{length}
use mir.Syntax.{Ty, Fn, Args, a_type, dcons, dnil, place, w32, w64, ty_int, ty_array}
use mir.Val.{Val, vint, vptr, vunit}
use mir.MapTy.{inst_fn}
use base.Logic.{SProp, never, id⊢}
use base.Fml.{Lft, Share, ftrue, flft, froom}
use prog.Capped.{capped_is}
use prog.Wp.{Env, WpFn}
use contract.BorrowLft.{◌⊑◌, ⊑_trans}
use contract.Monad.{fact}
use contract.Running.{tables}
use types.Kit.{‵, raw, ◌⊛◌, given, later, prop, settles, at_ret, ◌$◌, ◌∵◌, !, qed, by, move, drop, use1, use3, split, join, learn, rewrite, regoal, fsplit, fsplit3, fjoin, feq_i, await}
use types.Part.{whole, sub}
use types.Run.{stop, fld, lit, unit_lit, of_opd, bin, no_more, and_then, first, blocks, exec, returns, enter}
use types.ByLocal.{alloc_all, pass_all, free_all, look_at, get, get_in, sets, lands_last, env}
use denote.RattleType.{owns}
use denote.RawPtr.{Ptr, block_ptr, in_a_block}
use denote.Param.{bounded}
use denote.Signature.{types_at}
use denote.Steps.{nothing, heard}
use denote.Triple.Entry.{alive}
use denote.Triple.Call.{calls_at_last}
use denote.Triple.Table.{framed}
use denote.Triple.Walked.{Stays, stay_dropped, walk_of, Goes-dropped}
use Rattle.std.proofs.alloc.Calls.{Al, seen, Goes-blank, Gives, at_gives, Gives-goes, Gives-Gives}
use Rattle.std.proofs.alloc.Shapes.{after}
use Rattle.std.proofs.raw_atomic.Walks.{proved_at, leaves}
use Rattle.cyc_rawpages.proofs.Values.{start_val, start_reported, cells_val, cells_reported, lease_val, lease_reported, slot_at, then_runs, out_of_block}
use Rattle.cyc_rawpages.proofs.Places.{to_room}
use Rattle.cyc_rawpages.specs.inside.Ownership.{places_at, words_type}
use Rattle.cyc_rawpages.specs.contracts.cells.release.{ended, clauses}
use Rattle.cyc_rawpages.specs.contracts.cells.release.Key.{name as #self}
use Rattle.cyc_rawpages.proofs.cells.release.Statement.{statement}
use Rattle.cyc_rawpages.proofs.cells.release.Code as compiled

pub release_spec : {M : Type 1} → statement M
release_spec 𝓤 𝓛 𝓜 𝓡 wired A L g d dd met md =
    let H = 𝓛.H in
    let T = ended A g d dd in
    let c = clauses A g d dd 𝓛 𝓜.mem 𝓡.returns in
    let args : Args = bounded (a_type ∷ []) (A, tt) (dcons d (dcons dd dnil)) in
    let fn : Fn = inst_fn args compiled.function in
    let stays : Stays T.signature.params T.kept = (stay_dropped (slot_at 0 T.signature.params) T.kept.0, (stay_dropped (slot_at 1 T.signature.params) T.kept.1.0, (stay_dropped (slot_at 2 T.signature.params) T.kept.1.1.0, (stay_dropped (slot_at 3 T.signature.params) T.kept.1.1.1.0, (stay_dropped (slot_at 4 T.signature.params) T.kept.1.1.1.1.0, tt))))) in
    let C = (tables 𝓤 H 𝓜 𝓡 𝓡.env).C in
    let Λ = (tables 𝓤 H 𝓜 𝓡 𝓡.env).Λ in
    proved_at 𝓛 T stays c 𝓜 𝓡 (Goes-dropped 𝓛 2 (slot_at 0 T.signature.params) T.kept.0 (λ κs x f. refl), (Goes-dropped 𝓛 2 (slot_at 1 T.signature.params) T.kept.1.0 (λ κs x f. refl), (Goes-dropped 𝓛 2 (slot_at 2 T.signature.params) T.kept.1.1.0 (λ κs x f. refl), (Goes-blank 𝓛 2 (slot_at 3 T.signature.params) T.kept.1.1.1.0 (λ κs x f. tt), (Goes-blank 𝓛 2 (slot_at 4 T.signature.params) T.kept.1.1.1.1.0 (λ κs x f. tt), tt))))) (#self args) fn (compiled.unfolded 𝓤 H 𝓜 𝓡 wired (A, tt) d dd) (λ z are.
    let Post : Val → SProp 𝓤 = (walk_of 𝓛 T stays c).post z in
    let a = z.0.3 in
    let vss = z.0.4 in
    let Y : Al = record { row = A; laws = L; g = g; d = d; drops = dd } in
    let κ : Lft = z.0.0.0 in
    let q : Share = z.0.1.0 in
    let h = a.0.now in
    let handle = a.0.ref_ptr in
    let p : Ptr = a.1.0.at in
    let n = a.1.1.0 in
    let s = a.1.1.1.0 in
    let k = a.1.1.1.1.0 in
    let τ : Ty = words_type n in
    let fits = are.1.1.0.1 in
    let Asked : Type 0 = (s.at ≡ p) × (length s.slots ≡ n) × (k.at ≡ p) × (k.count ≡ n) × (k.alloc ≡ h) in
    qed 𝓛 ((raw (alive 𝓛 T.signature z.0.0 z.0.1) ⊛ ‵ (owns (types_at T.signature.params z.0.0) a vss)) ∷ (raw (fact 𝓤 (z.0.0.1.0 ⊑ A.lives)) ⊛ raw (fact 𝓤 Asked)) ∷ []) ∵
    move ! (1 ∷ []) $ split ! $ heard ! (z.0.0.1.0 ⊑ A.lives) (λ le. heard ! Asked (λ asked. split ! $ move ! (1 ∷ []) $
    fsplit ! $ fsplit ! $ drop ! $ move ! (1 ∷ []) $ fsplit ! $ drop ! $ fsplit ! $ drop ! $ fsplit3 ! $ move ! (2 ∷ []) $ drop ! $
    -- The proof's resources at this point: the cells; the right to free them; a `&` reference to the handle; the lifetime tokens.
    fsplit ! $ drop ! $ rewrite ! 0 (λ (r : Ptr). ‵ (places_at r s.slots)) asked.0 refl $ in_a_block ! p (λ r. places_at r s.slots) (id⊢ 𝓤 (never 𝓤)) (λ b o at.
    use1 𝓛 (‵ (froom (ty_array (ty_int w32) (length s.slots)) b o)) (to_room 𝓛 b s.slots o) $ rewrite ! 0 (λ (m : ℕ). ‵ (froom (ty_array (ty_int w32) m) b o)) asked.1 refl $
    move ! (1 ∷ []) $ fsplit ! $ drop ! $ rewrite ! 0 (λ (u : A.Denot × ℕ × Ptr). ‵ (g.dealloc_token u.0 (words_type u.1) u.2)) (λ i. (asked.4 i, asked.3 i, (asked.2 ∙ at) i)) refl $
    move ! (2 ∷ []) $ use1 𝓛 (‵ (seen Y κ handle h)) (id⊢ 𝓤 _) $ move ! (3 ∷ []) $ use1 𝓛 (‵ (flft κ q) ⊛ ‵ (flft z.0.0.1.0 z.0.1.1.0) ⊛ ‵ ftrue) (id⊢ 𝓤 _) $ split ! $ move ! (2 ∷ 0 ∷ []) $ join ! $ move ! (3 ∷ 2 ∷ []) $
    -- The proof's resources at this point: the uninitialised space; the right to free it; the handle with its lifetime
    -- token; the other lifetime tokens.
    let few = s.few in let short : n < 2 ^ 32 = subst (λ m. m < 2 ^ 32) asked.1 s.few in let bytes : n * 4 < 2 ^ 64 = omega (arith, short) in
    let y = at_gives Y 𝓛 𝓜.mem 𝓡.returns κ q handle h b o (n * 4) 4 τ in
    regoal ! (λ (us : List Val). prop (WpFn 𝓤 H C Λ fn us Post)) (λ i. are.0.0 i ++ ((start_reported p vss.1.0 are.1.0 ∙ ap (λ (r : Ptr). start_val r ∷ []) at) i ++ (are.1.1.0.0 i ++ (cells_reported vss.1.1.1.0 are.1.1.1.0.0 i ++ (lease_reported vss.1.1.1.1.0 are.1.1.1.1.0.0 i ++ []))))) refl $
    enter ! C Λ fn (vptr handle.0 handle.1 ∷ start_val (block_ptr b o) ∷ vint w64 n ∷ cells_val ∷ lease_val ∷ []) Post $
    alloc_all ! (λ l. pass_all ! refl ((tt, tt), ((tt, (tt, tt)), ((tt, record { fits = fits }), ((tt, tt), ((tt, (tt, tt)), tt))))) $ let En : Env 𝓤 𝓛.H = env fn.locals l in
    first ! $ blocks ! $
    sets ! (of_opd ! (get_in ! (fld ! refl (stop !)) (sub ! 0 refl (whole !)))) refl (tt, tt) $
    sets ! (bin ! (get ! refl) (lit ! tt) (record { fits = bytes })) refl (tt, record { fits = bytes }) $
    use3 𝓛 (raw ((Gives Y 𝓛 𝓜.mem 𝓡.returns).pre y)) (Gives-goes Y 𝓛 𝓜.mem 𝓡.returns κ q handle h (⊑_trans κ z.0.0.1.0 A.lives z.0.2.0 le) b o (n * 4) 4 τ (capped_is (n * 4) bytes) refl bytes (lit< tt)) $
    calls_at_last ! (framed 𝓤 H 𝓜 (tables 𝓤 H 𝓜 𝓡 𝓡.env)) (Gives Y 𝓛 𝓜.mem 𝓡.returns) (met.deallocate dd) y (and_then ! (get ! refl) (and_then ! (get ! refl) (and_then ! (get ! refl) (and_then ! (lit ! tt) (no_more !))))) (λ v.
    use1 𝓛 (later (given (v ≡ vunit) (‵ (flft κ q)))) (Gives-Gives Y 𝓛 𝓜.mem 𝓡.returns κ q handle h b o (n * 4) 4 τ v) $ await ! tt $ learn ! (λ e. join ! $ regoal ! (λ (u : Val). settles En (place 6 []) u (out_of_block 𝓛 (then_runs 𝓛 C Λ En (after 1 fn.body) (at_ret En Post)))) e refl $ lands_last ! refl (tt, tt) $
    exec ! C Λ En (after 1 fn.body) (at_ret En Post) $
    sets ! (of_opd ! (unit_lit !)) refl (tt, tt) $
    returns ! (look_at ! 0 refl) $ free_all ! refl $
    feq_i ! (List Val) (vunit ∷ []) (vunit ∷ []) refl $ nothing ! $ nothing ! $ nothing ! $ fjoin ! $ nothing ! $ fjoin ! $ nothing ! $ fjoin ! $ nothing ! $ fjoin ! $ nothing ! $ fjoin ! $ move ! (3 ∷ 0 ∷ 2 ∷ 1 ∷ []) $
    by ! (leaves 𝓛 T stays c z vunit tt (tt, (tt, (tt, (tt, (tt, tt))))) (tt, (tt, (tt, (tt, (tt, tt)))))))))))))
