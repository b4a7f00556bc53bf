use Rattle.std.proofs.Common.{◌≡◌, ℕ, suc, ◌-◌, ◌∷◌}
use Rattle.cyc_syntax.specs.inside.TreeView.{view_pointer}
use Rattle.cyc_parse.specs.inside.Types.{pointers_of}
use Rattle.cyc_parse.proofs.Loops.{with_front}
use Rattle.cyc_parse.proofs.cursor.Parser.parse_pointers.Given as goal

abbrev pub invariant-loop : goal.invariant-loop
invariant-loop l = (room : ℕ) → with_front view_pointer (λ x xs. x ∷ xs) l.pointers.items (pointers_of (suc room) (64 - l.counter) l.self) ≡ pointers_of (suc room) 64 l.fn.self
