use Rattle.std.proofs.Common.{suc, [], ◌∷◌, ◌++◌, ◌+◌, ◌-◌, map, Ok, sym, ap, ◌∙◌}
use Rattle.std.proofs.lemmas.Result.{err_from_is_err_and}
use Rattle.cyc_syntax.specs.inside.TreeView.{view_name}
use Rattle.cyc_parse.specs.inside.Parsing.{begins_region, region_name}
use Rattle.cyc_parse.proofs.Rounds.{separated_begins, item_fails, list_ends, list_goes_on, is_too_long, item_rounds, no_comma, a_comma, comma_too_many}
use Rattle.cyc_parse.proofs.cursor.Parser.parse_regions.Goals as goal

pub loop-init : goal.loop-init
loop-init c = λ room. separated_begins view_name (suc room) begins_region (region_name (suc room)) c.new-regions.result.items c.args.self.now c.new-regions.ensures.items

pub returns-in_err-region : goal.returns-in_err-region
returns-in_err-region c = λ room.
    let p = err_from_is_err_and c.from_residual.result c.from_residual.ensures.1 in
    rw (p.1, p.2) (item_fails view_name _ _ _ (item_rounds (suc room) begins_region (region_name (suc room))) c.in_err-region.field-0.0 c.loop.regions.items 64 c.loop.counter c.loop.self c.take_region_name.new.self _ c.loop-test.true (c.in_err-region.ensures room) (c.loop.invariant room))

pub returns-in_default : goal.returns-in_default
returns-in_default c = λ room.
    let last = no_comma (suc room) begins_region (region_name (suc room)) (64 - (c.loop.counter + 1)) c.take_region_name.new.self c.in_default.ensures.seen in
    let whole = list_ends view_name _ _ _ (item_rounds (suc room) begins_region (region_name (suc room))) c.loop.regions.items c.in_ok-region.region 64 c.loop.counter c.loop.self c.take_region_name.new.self _ c.loop-test.true (c.in_ok-region.ensures room) last (c.loop.invariant room) in
    rw c.in_ok-append.ensures.items (whole ∙ ap (λ ts. Ok (map view_name (c.loop.regions.items ++ c.in_ok-region.region ∷ []), ts)) (sym c.in_default.ensures.left))

pub loop-preserved : goal.loop-preserved
loop-preserved c = λ room.
    let goes = a_comma (suc room) begins_region (region_name (suc room)) (64 - (c.loop.counter + 1)) c.take_region_name.new.self c.take_if.new.self _ c.in-Some.ensures.seen (c.in-Some.ensures.taken room) in
    rw c.in_ok-append.ensures.items (list_goes_on view_name _ _ _ (item_rounds (suc room) begins_region (region_name (suc room))) c.loop.regions.items c.in_ok-region.region 64 c.loop.counter c.loop.self c.take_region_name.new.self c.take_if.new.self _ c.loop-test.true (c.in_ok-region.ensures room) goes (c.loop.invariant room))

pub returns : goal.returns
returns c = λ room.
    is_too_long view_name _ _ _ (item_rounds (suc room) begins_region (region_name (suc room))) c.refusal.result c.loop.regions.items 64 c.loop.counter c.loop.self _ c.loop-test.false (comma_too_many (suc room) begins_region (region_name (suc room)) c.refusal.result c.begins_region.result c.loop.self c.refusal.ensures c.begins_region.ensures) (c.loop.invariant room)
