-- The indices of locals increase along the program text of a well-typed program.
use Rattle.std.proofs.Common.{◌≡◌, ℕ, zero, suc, ◌≤◌, true, false, List, [], ◌∷◌, length, Some, None, subst, arith}
use Rattle.std.specs.Prelude.{slice_get}
use Rattle.cyc_types.specs.declared.region.Region.TheVariants as regions
use Rattle.cyc_types.specs.declared.scope.Kind.TheVariants as scopes
use Rattle.cyc_types.specs.Types.{Handle, Key}
use Rattle.cyc_types.specs.TypedTrees.{Statement, Block, If, While, Try, Items, NoItems, MoreItems, Execute, Declare, DeclareRegion, OpenRegion, DeclareAlias, DeclareKey, Clauses, NoClauses, Default, Case, Function, Program}
use Rattle.cyc_types.specs.typing.WellTyped.{Context, WellTypedStatement, WellTypedItems, WellTypedClauses, following, in_block, in_body, with_local, with_region, with_opened, with_key_opened, with_caught, after_clause, body_context, AreWellTypedFunctions, IsWellTypedProgram}
use Rattle.cyc_meaning.specs.inside.Variables.{StatementRises, ItemsRise, ClausesRise, FunctionsRise}

mutual
  statement_rises : (c : Context) (m : ℕ) (s : Statement) → m ≤ c.next_local → WellTypedStatement c s → StatementRises m s
  statement_rises c m (Block r js) less (next, items) = items_rise (in_block c) m js less items
  statement_rises c m (If a s t) less (condition, first, second) =
      (statement_rises c m s less first, statement_rises (following c s) m t (omega (arith, less)) second)
  statement_rises c m (While p a s) less (condition, body) = statement_rises (in_body c) m s less body
  statement_rises c m (Try s ds) less (body, clauses) = (statement_rises c m s less body, clauses_rise (following c s) m ds (omega (arith, less)) clauses)
  statement_rises c m s less typed = tt

  items_rise : (c : Context) (m : ℕ) (js : Items) → m ≤ c.next_local → WellTypedItems c js → ItemsRise m js
  items_rise c m NoItems less typed = tt
  items_rise c m (MoreItems (Execute s) js) less (first, rest) = (statement_rises c m s less first, items_rise (following c s) m js (omega (arith, less)) rest)
  items_rise c m (MoreItems (Declare n t v) js) less (declared, initial, rest) =
      let is : n ≡ c.next_local = declared.0 in
      (omega (arith, less, is), items_rise (with_local true t c) (suc n) js (omega (arith, is)) rest)
  items_rise c m (MoreItems (DeclareRegion r n) js) less (next, declared, rest) =
      let is : n ≡ c.next_local = declared.0 in
      (omega (arith, less, is), items_rise (with_local false (Handle (regions.Variable r)) (with_opened scopes.Lexical c)) (suc n) js (omega (arith, is)) rest)
  items_rise c m (MoreItems (OpenRegion r n p k) js) less (key, declared, rest) =
      let is : n ≡ c.next_local = declared.0 in
      (omega (arith, less, is), items_rise (with_local false (Handle (regions.Variable r)) (with_key_opened r c)) (suc n) js (omega (arith, is)) rest)
  items_rise c m (MoreItems (DeclareAlias r n t p source) js) less (next, shared, declared, rest) =
      let is : n ≡ c.next_local = declared.0 in
      (omega (arith, less, is), items_rise (with_local true t (with_opened scopes.Alias c)) (suc n) js (omega (arith, is)) rest)
  items_rise c m (MoreItems (DeclareKey r n) js) less (next, declared, rest) =
      let is : n ≡ c.next_local = declared.0 in
      (omega (arith, less, is), items_rise (with_local true (Key (regions.Variable r)) (with_region c)) (suc n) js (omega (arith, is)) rest)

  clauses_rise : (c : Context) (m : ℕ) (ds : Clauses) → m ≤ c.next_local → WellTypedClauses c ds → ClausesRise m ds
  clauses_rise c m NoClauses less typed = tt
  clauses_rise c m (Default r js) less (next, items) = items_rise (in_block c) m js less items
  clauses_rise c m (Case e None r js ds) less (has, exception, caught, next, items, later) =
      (items_rise (in_block c) m js less items, clauses_rise (after_clause c None js) m ds (omega (arith, less)) later)
  clauses_rise c m (Case e (Some n) r js ds) less (true, exception, caught, next, items, later) =
      let is : n ≡ c.next_local = caught.0 in
      (omega (arith, less, is), items_rise (with_caught (Some n) (in_block c)) (suc n) js (omega (arith, is)) items, clauses_rise (after_clause c (Some n) js) m ds (omega (arith, less)) later)
  clauses_rise c m (Case e (Some n) r js ds) less (false, exception, caught, next, items, later) = absurd caught

pub functions_rise : (program : Program) → IsWellTypedProgram program → FunctionsRise program
functions_rise program typed number h there = go program.functions typed.functions number there
  where
    go : (hs : List Function) → AreWellTypedFunctions program hs → (n : ℕ) → slice_get hs n ≡ Some h → ItemsRise (length h.parameters) h.body
    go [] are n at = absurd (let e : None ≡ Some h = at in cc)
    go (f ∷ hs) (is, are) zero at =
        let e : Some f ≡ Some h = at in
        let k : f ≡ h = cc in
        subst (λ (g : Function). ItemsRise (length g.parameters) g.body) k (items_rise (body_context program f) (length f.parameters) f.body (omega arith) is.body)
    go (f ∷ hs) (is, are) (suc n) at = go hs are n at
