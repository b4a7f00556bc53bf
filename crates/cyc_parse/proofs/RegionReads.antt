-- Lists of regions are parsed back from their yields.
use Rattle.std.proofs.Common.{◌≡◌, ℕ, ◌≤◌, true, List, [], ◌∷◌, ◌++◌, Some, refl, ap, ◌∙◌, arith, zero-le}
use Rattle.std.specs.List.{AllByRecursion}
use Rattle.cyc_syntax.specs.declared.tokens.Sign.TheVariants as signs
use Rattle.cyc_syntax.specs.Symbols.{RegionName, Mark, Symbol}
use Rattle.cyc_syntax.specs.Trees.{Named}
use Rattle.cyc_syntax.specs.Yields.{Yield}
use Rattle.cyc_syntax.specs.Yields as yields
use Rattle.cyc_syntax.specs.Grammar.{max_nesting}
use Rattle.cyc_parse.specs.inside.Parsing.{next, sees_terminal, starts, begins_region, regions, region_name, region_list, opens_regions}
use Rattle.cyc_parse.proofs.Rules.{Front, Reads, Fits, Always, leaf_of, leaf_at, front-next, then_reads, pure_reads, bare_reads, sign_reads, region_reads}
use Rattle.cyc_parse.proofs.Lists.{IsRead, EndsList, separated_reads}

region_read : (room d : ℕ) → Fits room d → (r : Named) → IsRead d begins_region (region_name room) (yields.region_name d) Always r
region_read room d fits r = record {
  starts = record { first = leaf_at d (RegionName r.name) r.place; others = []; are = refl; begin = refl; nesting = refl; item = zero-le };
  reads = bare_reads (region_reads room d 0 r _ fits (omega arith) (pure_reads r Always));
}

regions_read : (room d : ℕ) → Fits room d → (rs : List Named) → AllByRecursion (IsRead d begins_region (region_name room) (yields.region_name d) Always) rs
regions_read room d fits [] = tt
regions_read room d fits (r ∷ rs) = (region_read room d fits r, regions_read room d fits rs)

pub regions_reads : (room d : ℕ) → Fits room d → d ≤ max_nesting → (r : Named) (rs : List Named) → Reads (regions room) (r ∷ rs) (yields.regions d (r ∷ rs)) (EndsList Always)
regions_reads room d fits shallow r rs = separated_reads room d fits shallow begins_region (region_name room) (yields.region_name d) Always (λ ts e. tt) r rs (regions_read room d fits (r ∷ rs))

pub region_list_reads : (room d : ℕ) → Fits room d → d ≤ max_nesting → (r : Named) (rs : List Named) (Ends : List Symbol → Type 0) → Reads (region_list room) (r ∷ rs) (yields.region_list d (r ∷ rs)) Ends
region_list_reads room d fits shallow r rs Ends = sign_reads room d signs.Less _ fits (λ p. then_reads _ (regions_reads room d fits shallow r rs)
    (sign_reads room d signs.Greater _ fits (λ q. pure_reads (r ∷ rs) Ends))
    (λ mid rest front ends. record { item = tt; comma = ap (sees_terminal signs.Comma) (front-next (leaf_of d (Mark signs.Greater)) [] mid rest front) }))

-- The yield of region arguments begins with `<` and a region.
pub regions_open : (d : ℕ) (r : Named) (rs : List Named) (ys : Yield) (ts rest : List Symbol) → Front (yields.region_list d (r ∷ rs) ++ ys) ts rest → opens_regions ts ≡ true
regions_open d r rs ys ts rest (t, more, e, is_leaf, front) =
    ap opens_regions e ∙ rw (is_leaf.terminal) (ap (starts begins_region) (front-next (record { terminal = RegionName r.name; place = Some r.place; nesting = d; item = 1 }) _ more rest front))

pub regions_next : (d : ℕ) (r : Named) (rs : List Named) (ys : Yield) (ts rest : List Symbol) → Front (yields.region_list d (r ∷ rs) ++ ys) ts rest → next ts ≡ Some (Mark signs.Less)
regions_next d r rs ys ts rest (t, more, e, is_leaf, front) = ap next e ∙ ap Some is_leaf.terminal
