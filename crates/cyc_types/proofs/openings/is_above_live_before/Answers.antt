use Rattle.std.proofs.Common.{◌≡◌, Bool, true, false, ◌∷◌, [], not, ◌&&◌, ◌||◌, sym, ap, ◌∙◌}
use Rattle.std.specs.List.{list_any}
use Rattle.cyc_types.specs.declared.region.Region.{Region}
use Rattle.cyc_types.specs.declared.region.Region.TheVariants.{Unique}
use Rattle.cyc_types.specs.Types.{region_eq, is_region_among}
use Rattle.cyc_types.specs.Closure.{above_one_of, written_in}
use Rattle.cyc_types.specs.inside.Openings.{live_before}
use Rattle.std.proofs.lemmas.Bool.{and_left, and_right}
use Rattle.cyc_words.proofs.Booleans.{or_false_right}
use Rattle.cyc_types.proofs.RegionLemmas.{derived-region_eq}
use Rattle.cyc_types.proofs.OpeningLemmas.{above-itself, above-among}
use Rattle.cyc_types.proofs.openings.is_above_live_before.Goals as goal
use Rattle.cyc_types.proofs.openings.is_above_live_before.Goals.{else-ne-via-then-ne+else-is_live_before, else-ne-via-else-ne}

pub returns-then-is_live_before : goal.returns-then-is_live_before
returns-then-is_live_before c =
    let apart : not (region_eq c.args.a Unique) ≡ true =
    ap not (sym (derived-region_eq c.args.a Unique)) ∙ sym c.ne.ensures ∙ c.if-ne.true in
    sym (above-itself (written_in c.args.constraints.now) (live_before c.args.live.now c.args.scopes.now c.args.count) c.args.a apart
    (sym c.is_live_before.ensures ∙ c.if-is_live_before.true))

pub returns-in-Some : goal.returns-in-Some
returns-in-Some c =
    let rs = live_before c.args.live.now c.args.scopes.now c.args.count in
    let below = c.in-Some.entry.now.outlived in
    let test : Region → Bool = λ r. not (region_eq r Unique) && is_region_among r rs in
    let first : (not (region_eq c.args.a Unique) && is_region_among c.args.a rs) ≡ false =
    elim c.else-ne.branch [
      | else-ne-via-then-ne+else-is_live_before v ↦ and_right (not (region_eq c.args.a Unique)) (is_region_among c.args.a rs) (sym v.is_live_before.ensures ∙ v.if-is_live_before.false)
      | else-ne-via-else-ne v ↦ and_left (not (region_eq c.args.a Unique)) (is_region_among c.args.a rs) (ap not (sym (derived-region_eq c.args.a Unique)) ∙ sym c.ne.ensures ∙ v.if-ne.false)
    ] in
    let whole : above_one_of (written_in c.args.constraints.now) rs c.args.a ≡ list_any test (c.args.a ∷ below) =
    above-among (written_in c.args.constraints.now) rs (c.args.a ∷ below) c.args.a
    (λ b. sym (c.requires.closed c.args.a b) ∙ c.in-Some.ensures.entry b ∙ ap (λ z. region_eq z b || is_region_among b below) c.in-Some.ensures.longer) in
    c.is_one_live_before.ensures ∙ ap (list_any test) c.as_slice.ensures ∙ sym (ap (λ z. z || list_any test below) first) ∙ sym whole

pub returns-in-None : goal.returns-in-None
returns-in-None c =
    let rs = live_before c.args.live.now c.args.scopes.now c.args.count in
    let first : (not (region_eq c.args.a Unique) && is_region_among c.args.a rs) ≡ false =
    elim c.else-ne.branch [
      | else-ne-via-then-ne+else-is_live_before v ↦ and_right (not (region_eq c.args.a Unique)) (is_region_among c.args.a rs) (sym v.is_live_before.ensures ∙ v.if-is_live_before.false)
      | else-ne-via-else-ne v ↦ and_left (not (region_eq c.args.a Unique)) (is_region_among c.args.a rs) (ap not (sym (derived-region_eq c.args.a Unique)) ∙ sym c.ne.ensures ∙ v.if-ne.false)
    ] in
    sym (above-among (written_in c.args.constraints.now) rs (c.args.a ∷ []) c.args.a
    (λ b. sym (c.requires.closed c.args.a b) ∙ c.in-None.ensures.entry b ∙ sym (or_false_right (region_eq c.args.a b)))
    ∙ or_false_right (not (region_eq c.args.a Unique) && is_region_among c.args.a rs) ∙ first)
