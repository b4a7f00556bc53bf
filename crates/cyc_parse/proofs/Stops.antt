-- Conditions on the symbols that may follow an expression of a precedence level: they must not continue the expression.
use Rattle.std.proofs.Common.{◌≡◌, ℕ, ◌≤◌, ◌<◌, Bool, true, false, cond, List, [], ◌∷◌, Option, Some, None, refl, sym, subst, arith}
use Rattle.std.proofs.lemmas.Bool.{ne_eqb}
use Rattle.cyc_words.proofs.Numbers.{below_chosen}
use Rattle.cyc_syntax.specs.declared.tokens.Sign.{Sign}
use Rattle.cyc_syntax.specs.declared.tokens.Sign.TheVariants as signs
use Rattle.cyc_syntax.specs.declared.tree.BinaryOperator.{BinaryOperator}
use Rattle.cyc_syntax.specs.Symbols.{Terminal, Identifier, RegionName, Number, Character, Word, Mark, Symbol}
use Rattle.cyc_syntax.specs.Yields.{Leaf, Yield}
use Rattle.cyc_syntax.specs.Grammar.{level}
use Rattle.cyc_parse.specs.inside.Parsing.{sees, sees_terminal, next, opens_regions}
use Rattle.cyc_parse.specs.inside.Expressions.{binary_operator, of_level, operator_at}
use Rattle.cyc_parse.proofs.Rules.{Front}

abbrev pub operator_level : Option BinaryOperator → ℕ
operator_level None = 12
operator_level (Some o) = level o

abbrev pub binds_sign : Sign → ℕ
binds_sign signs.LeftParen = 0
binds_sign signs.LeftBracket = 0
binds_sign signs.Arrow = 0
binds_sign signs.LeftBrace = 0
binds_sign signs.Assign = 11
binds_sign s = operator_level (binary_operator s)

abbrev pub binds_terminal : Terminal → ℕ
binds_terminal (Mark s) = binds_sign s
binds_terminal (Identifier x) = 12
binds_terminal (RegionName x) = 12
binds_terminal (Number n) = 12
binds_terminal (Character c) = 12
binds_terminal (Word k) = 12

-- Returns the precedence level at which the next symbol continues an expression; region arguments continue `new` and a name.
abbrev pub binds : List Symbol → ℕ
binds [] = 12
binds (t ∷ ts) = cond (opens_regions (t ∷ ts)) 0 (binds_terminal t.terminal)

pub record Stops (k : ℕ) (ts : List Symbol) : Type 0 where
  pub loose : k < binds ts

pub stops-less : (j k : ℕ) (ts : List Symbol) → j ≤ k → Stops k ts → Stops j ts
stops-less j k ts h s = record { loose = omega arith }

-- A symbol other than `<` ends an expression if the symbol binds more loosely than the expression's precedence level.
pub stops_leaf : (k : ℕ) (leaf : Leaf) (ys : Yield) (mid rest : List Symbol) → sees_terminal signs.Less (Some leaf.terminal) ≡ false → k < binds_terminal leaf.terminal
    → Front (leaf ∷ ys) mid rest → Stops k mid
stops_leaf k leaf ys mid rest plain loose (t, more, e, is_leaf, front) =
    subst (λ (ts : List Symbol). Stops k ts) (sym e) (record { loose = at_front t more (is_leaf.terminal) })
  where
    at_front : (u : Symbol) (us : List Symbol) → u.terminal ≡ leaf.terminal → k < binds (u ∷ us)
    at_front u us same = rw (same, plain) loose

-- ---- signs that do not come next

not_here : (s : Sign) → ((t : Terminal) → 0 < binds_terminal t → sees_terminal s (Some t) ≡ false) → (ts : List Symbol) → Stops 0 ts → sees s ts ≡ false
not_here s each [] stops = refl
not_here s each (t ∷ ts) stops = each t.terminal (smaller (opens_regions (t ∷ ts)) stops.loose)
  where
    smaller : (b : Bool) → 0 < cond b 0 (binds_terminal t.terminal) → 0 < binds_terminal t.terminal
    smaller true h = absurd (omega arith)
    smaller false h = h

paren_binds : (t : Terminal) → 0 < binds_terminal t → sees_terminal signs.LeftParen (Some t) ≡ false
paren_binds (Mark signs.LeftParen) h = absurd (omega arith)
paren_binds (Mark _) h = refl
paren_binds _ h = refl

bracket_binds : (t : Terminal) → 0 < binds_terminal t → sees_terminal signs.LeftBracket (Some t) ≡ false
bracket_binds (Mark signs.LeftBracket) h = absurd (omega arith)
bracket_binds (Mark _) h = refl
bracket_binds _ h = refl

arrow_binds : (t : Terminal) → 0 < binds_terminal t → sees_terminal signs.Arrow (Some t) ≡ false
arrow_binds (Mark signs.Arrow) h = absurd (omega arith)
arrow_binds (Mark _) h = refl
arrow_binds _ h = refl

brace_binds : (t : Terminal) → 0 < binds_terminal t → sees_terminal signs.LeftBrace (Some t) ≡ false
brace_binds (Mark signs.LeftBrace) h = absurd (omega arith)
brace_binds (Mark _) h = refl
brace_binds _ h = refl

pub no_paren : (ts : List Symbol) → Stops 0 ts → sees signs.LeftParen ts ≡ false
no_paren = not_here signs.LeftParen paren_binds

pub no_bracket : (ts : List Symbol) → Stops 0 ts → sees signs.LeftBracket ts ≡ false
no_bracket = not_here signs.LeftBracket bracket_binds

pub no_arrow : (ts : List Symbol) → Stops 0 ts → sees signs.Arrow ts ≡ false
no_arrow = not_here signs.Arrow arrow_binds

pub no_brace : (ts : List Symbol) → Stops 0 ts → sees signs.LeftBrace ts ≡ false
no_brace = not_here signs.LeftBrace brace_binds

pub no_regions : (ts : List Symbol) → Stops 0 ts → opens_regions ts ≡ false
no_regions [] stops = refl
no_regions (t ∷ ts) stops = closed (opens_regions (t ∷ ts)) stops.loose
  where
    closed : (b : Bool) → 0 < cond b 0 (binds_terminal t.terminal) → b ≡ false
    closed true h = absurd (omega arith)
    closed false h = refl

assign_binds : (t : Terminal) → 11 < binds_terminal t → sees_terminal signs.Assign (Some t) ≡ false
assign_binds (Mark signs.Assign) h = absurd (omega arith)
assign_binds (Mark _) h = refl
assign_binds _ h = refl

pub no_assign : (ts : List Symbol) → Stops 11 ts → sees signs.Assign ts ≡ false
no_assign [] stops = refl
no_assign (t ∷ ts) stops = assign_binds t.terminal (below_chosen 11 (opens_regions (t ∷ ts)) (binds_terminal t.terminal) stops.loose)

not_of_level : (o : Option BinaryOperator) (j k : ℕ) → j ≤ k → k < operator_level o → of_level j o ≡ None
not_of_level None j k h l = refl
not_of_level (Some o) j k h l = rw (ne_eqb (level o) j (λ e. omega arith)) refl

as_operator : (s : Sign) → binds_sign s ≤ operator_level (binary_operator s)
as_operator signs.LeftParen = omega arith
as_operator signs.LeftBracket = omega arith
as_operator signs.Arrow = omega arith
as_operator signs.LeftBrace = omega arith
as_operator signs.Assign = omega arith
as_operator _ = omega arith

operator_above : (j k : ℕ) (t : Terminal) → j ≤ k → k < binds_terminal t → operator_at j (Some t) ≡ None
operator_above j k (Mark s) h l = not_of_level (binary_operator s) j k h (omega (arith, as_operator s))
operator_above j k _ h l = refl

pub no_operator : (j k : ℕ) (ts : List Symbol) → j ≤ k → Stops k ts → operator_at j (next ts) ≡ None
no_operator j k [] h stops = refl
no_operator j k (t ∷ ts) h stops = operator_above j k t.terminal h (below_chosen k (opens_regions (t ∷ ts)) (binds_terminal t.terminal) stops.loose)
