use Rattle.std.proofs.Common.{◌≡◌, ◌≤◌, ℕ, List, length, subst, arith}
use Rattle.std.specs.Prelude.{sum_by, take}
use Rattle.cyc_plain.specs.inside.Program.{routine_of}
use Rattle.cyc_registers.specs.declared.home.TheConstants.{MOST_BOTH}
use Rattle.cyc_registers.specs.inside.Interference.{both_count, saved_count}
use Rattle.cyc_registers.specs.inside.Sharing.{NeverMeet}
use Rattle.cyc_registers.proofs.CheckedHomes as checked
use Rattle.cyc_registers.proofs.sharing.are_right.Goals as goal

pub returns-clause-homes : goal.returns-clause-homes
returns-clause-homes c = λ is.
    let lives = c.args.analysis.now.lives.now in
    let homes = c.args.homes.now in
    let as_many : length homes ≡ c.args.analysis.now.function.now.slots = omega (arith, c.if-homes-function.false) in
    let both : sum_by both_count homes ≤ MOST_BOTH = omega (arith, c.both_in_all.ensures, c.if-both_in_all-gt-MOST_BOTH.false) in
    let arriving : sum_by saved_count (take c.args.analysis.now.function.now.parameters homes) ≤ c.args.saved = omega (arith, c.saved_in_first.ensures, c.if-saved_in_first-saved.false) in
    checked.are_homes c.args.analysis.now.plain.now (routine_of c.args.analysis.now.function.now) c.args.analysis.now.masks.now lives.live.items c.args.holders.now lives.calls lives.clauses lives.barred c.args.saved
    c.requires.sound c.requires.numbered homes (c.all_suit.ensures c.if-not-all_suit.false) c.args.groups.now c.requires.groups (subst (λ (live : List ℕ). NeverMeet c.args.analysis.now.plain.now (routine_of c.args.analysis.now.function.now) c.args.analysis.now.masks.now live c.args.groups.now (length c.args.analysis.now.function.now.code.items)) c.deref.ensures.value
    (c.may_share.ensures.meet is)) (c.may_share.ensures.parameters is)
    as_many c.requires.saved both arriving

pub returns-clause-holders : goal.returns-clause-holders
returns-clause-holders c = λ is.
    let lives = c.args.analysis.now.lives.now in
    checked.are_holders c.args.analysis.now.plain.now (routine_of c.args.analysis.now.function.now) c.args.analysis.now.masks.now lives.live.items c.args.holders.now lives.calls lives.clauses lives.barred c.args.saved
    c.requires.sound c.requires.numbered c.args.homes.now (c.all_suit.ensures c.if-not-all_suit.false)
