-- The costs of typed tree nodes without lists, computed from the costs of their subtrees.
use Rattle.std.proofs.Common.{◌≡◌, ℕ, ◌+◌, ◌*◌, max, List, Option, sym, ap, ◌∙◌}
use Rattle.std.specs.Prelude.{option_map}
use Rattle.std.specs.declared.boxed.Box.{Box}
use Rattle.std.specs.declared.alloc.Global.{Global as Heap}
use Rattle.cyc_types.specs.declared.ty.Ty.{Ty as TyCode}
use Rattle.cyc_types.specs.declared.typed.ValueType.{ValueType as ValueTypeCode}
use Rattle.cyc_types.specs.declared.typed.UnaryOperator.{UnaryOperator}
use Rattle.cyc_types.specs.declared.typed.Lvalue.{Lvalue as LvalueCode}
use Rattle.cyc_types.specs.declared.typed.Expr.{Expr}
use Rattle.cyc_types.specs.declared.typed.Expr.TheVariants as expr
use Rattle.cyc_types.specs.declared.typed.Dereference.{Dereference as DereferenceCode}
use Rattle.cyc_types.specs.declared.typed.Converted.{Converted as ConvertedCode}
use Rattle.cyc_types.specs.declared.typed.Side.{Side as SideCode}
use Rattle.cyc_types.specs.declared.typed.Stmt.{Stmt}
use Rattle.cyc_types.specs.declared.typed.Stmt.TheVariants as stmt
use Rattle.cyc_types.specs.TypedTreeView.{view_expression, view_dereference, view_converted, view_side, view_statement}
use Rattle.cyc_bound.specs.declared.costs.Measure.{Measure}
use Rattle.cyc_bound.specs.Costs.{step_cost, expression_cost, place_cost, converted_cost, value_cost, thrown_cost, side_cost, statement_cost}

module _ (m : Measure) (costs : List ℕ) where
  -- ---- expressions

  pub load_costs : (value : Expr) (b : Box DereferenceCode Heap) → value ≡ expr.Load b → (d : DereferenceCode) → d ≡ b.value
      → expression_cost m costs (view_expression value) ≡ 2 * step_cost m + place_cost m costs (view_dereference d)
  load_costs value b is d at =
      ap (λ (x : Expr). expression_cost m costs (view_expression x)) is ∙ ap (λ (x : DereferenceCode). 2 * step_cost m + place_cost m costs (view_dereference x)) (sym at)

  pub cell_address_costs : (value : Expr) (b : Box DereferenceCode Heap) (t : TyCode) → value ≡ expr.AddressOfCell b t → (d : DereferenceCode) → d ≡ b.value
      → expression_cost m costs (view_expression value) ≡ 2 * step_cost m + place_cost m costs (view_dereference d)
  cell_address_costs value b t is d at =
      ap (λ (x : Expr). expression_cost m costs (view_expression x)) is ∙ ap (λ (x : DereferenceCode). 2 * step_cost m + place_cost m costs (view_dereference x)) (sym at)

  pub free_key_costs : (value : Expr) (b : Box Expr Heap) → value ≡ expr.FreeKey b → (key : Expr) → key ≡ b.value
      → expression_cost m costs (view_expression value) ≡ 2 * step_cost m + expression_cost m costs (view_expression key)
  free_key_costs value b is key at =
      ap (λ (x : Expr). expression_cost m costs (view_expression x)) is ∙ ap (λ (x : Expr). 2 * step_cost m + expression_cost m costs (view_expression x)) (sym at)

  pub unary_costs : (value : Expr) (o : UnaryOperator) (b : Box Expr Heap) → value ≡ expr.Unary o b → (operand : Expr) → operand ≡ b.value
      → expression_cost m costs (view_expression value) ≡ 2 * step_cost m + expression_cost m costs (view_expression operand)
  unary_costs value o b is operand at =
      ap (λ (x : Expr). expression_cost m costs (view_expression x)) is ∙ ap (λ (x : Expr). 2 * step_cost m + expression_cost m costs (view_expression x)) (sym at)

  pub assign_costs : (value : Expr) (l : LvalueCode) (b : Box ConvertedCode Heap) (t : ValueTypeCode) → value ≡ expr.Assign l b t → (c : ConvertedCode) → c ≡ b.value
      → expression_cost m costs (view_expression value) ≡ 2 * step_cost m + converted_cost m costs (view_converted c)
  assign_costs value l b t is c at =
      ap (λ (x : Expr). expression_cost m costs (view_expression x)) is ∙ ap (λ (x : ConvertedCode). 2 * step_cost m + converted_cost m costs (view_converted x)) (sym at)

  pub store_costs : (value : Expr) (b : Box DereferenceCode Heap) (b' : Box ConvertedCode Heap) (t : ValueTypeCode) → value ≡ expr.Store b b' t
      → (d : DereferenceCode) → d ≡ b.value → (c : ConvertedCode) → c ≡ b'.value
      → expression_cost m costs (view_expression value) ≡ 2 * step_cost m + (place_cost m costs (view_dereference d) + converted_cost m costs (view_converted c))
  store_costs value b b' t is d at c there =
      ap (λ (x : Expr). expression_cost m costs (view_expression x)) is
      ∙ ap (λ (x : DereferenceCode). 2 * step_cost m + (place_cost m costs (view_dereference x) + converted_cost m costs (view_converted b'.value))) (sym at)
      ∙ ap (λ (x : ConvertedCode). 2 * step_cost m + (place_cost m costs (view_dereference d) + converted_cost m costs (view_converted x))) (sym there)

  -- ---- statements

  pub evaluate_costs : (value : Stmt) {w : _} (a : Expr) → value ≡ stmt.Evaluate w a → statement_cost m costs (view_statement value) ≡ 2 * step_cost m + expression_cost m costs (view_expression a)
  evaluate_costs value {w} a is = ap (λ (x : Stmt). statement_cost m costs (view_statement x)) is

  pub swap_costs : (value : Stmt) {w : _} (a b : SideCode) → value ≡ stmt.Swap w a b
      → statement_cost m costs (view_statement value) ≡ 7 * step_cost m + (side_cost m costs (view_side a) + side_cost m costs (view_side b))
  swap_costs value {w} a b is = ap (λ (x : Stmt). statement_cost m costs (view_statement x)) is

  pub return_costs : (value : Stmt) {w : _} (v : Option ConvertedCode) → value ≡ stmt.Return w v
      → statement_cost m costs (view_statement value) ≡ 2 * step_cost m + value_cost m costs (option_map view_converted v)
  return_costs value {w} v is = ap (λ (x : Stmt). statement_cost m costs (view_statement x)) is

  pub throw_costs : (value : Stmt) {w : _} (n : ℕ) (v : Option Expr) → value ≡ stmt.Throw w n v
      → statement_cost m costs (view_statement value) ≡ 2 * step_cost m + thrown_cost m costs (option_map view_expression v)
  throw_costs value {w} n v is = ap (λ (x : Stmt). statement_cost m costs (view_statement x)) is
