-- Facts about the parsers of statements at a nesting level that is not the last.
use Rattle.std.proofs.Common.{◌≡◌, ℕ, suc, ◌-◌, ◌<◌, true, List, refl, ap, arith}
use Rattle.cyc_syntax.specs.declared.tokens.Sign.TheVariants as signs
use Rattle.cyc_syntax.specs.Symbols.{Symbol}
use Rattle.cyc_syntax.specs.Trees.{Expression}
use Rattle.cyc_parse.specs.inside.Parsing.{sees, if_sees, sign}
use Rattle.cyc_parse.specs.inside.Statements.{end_of_swap, nested_statements, statement, items}

pub nested_statement : (room : ℕ) (ts : List Symbol) → 0 < room → (nested_statements room).statement ts ≡ statement (room - 1) (nested_statements (room - 1)) ts
unfolding nested_statements
nested_statement room ts h = let k : room ≡ suc (room - 1) = omega arith in ap (λ (n : ℕ). (nested_statements n).statement ts) k

pub nested_items : (room : ℕ) (ts : List Symbol) → 0 < room → (nested_statements room).items ts ≡ items (room - 1) (nested_statements (room - 1)) ts
unfolding nested_statements
nested_items room ts h = let k : room ≡ suc (room - 1) = omega arith in ap (λ (n : ℕ). (nested_statements n).items ts) k

pub swap_ends : (room : ℕ) (e : Expression) (ts : List Symbol) → sees signs.Semicolon ts ≡ true → sign room signs.Semicolon ts ≡ end_of_swap room e ts
unfolding if_sees
swap_ends room e ts h = rw h refl
