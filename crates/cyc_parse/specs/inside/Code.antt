-- Relates the parser's code to the specified parser: the symbols that the code reads, and the results of its functions.
use Rattle.std.specs.Prelude.{◌≡◌, ℕ, List, [], ◌∷◌, Result, Ok, Err}
use Rattle.cyc_syntax.specs.Symbols as terminals
use Rattle.cyc_syntax.specs.Symbols.{Symbol, Terminal, Place}
use Rattle.cyc_syntax.specs.inside.TreeView.{place_of_span}
use Rattle.cyc_parse.specs.declared.symbol.Terminal.{Terminal as TerminalCode}
use Rattle.cyc_parse.specs.declared.symbol.Terminal.TheVariants as code
use Rattle.cyc_parse.specs.declared.symbol.Symbol.{Symbol as SymbolCode}
use Rattle.cyc_parse.specs.declared.stop.Reason.{Reason as ReasonCode}
use Rattle.cyc_parse.specs.declared.stop.Reason.TheVariants as reasons
use Rattle.cyc_parse.specs.declared.stop.Stop.{Stop}
use Rattle.cyc_parse.specs.declared.stop.Stop.TheVariants as stops
use Rattle.cyc_parse.specs.inside.Parsing.{Outcome, Parser, accept, Reason, Unexpected, TooDeep, TooLong}

abbrev pub view_terminal : TerminalCode → Terminal
view_terminal (code.Identifier n) = terminals.Identifier n.number
view_terminal (code.RegionName n) = terminals.RegionName n.number
view_terminal (code.Number n) = terminals.Number n
view_terminal (code.Character c) = terminals.Character c
view_terminal (code.Word k) = terminals.Word k
view_terminal (code.Mark s) = terminals.Mark s

abbrev pub view_symbol : SymbolCode → Symbol
view_symbol s = record { terminal = view_terminal s.terminal; place = place_of_span s.span }

abbrev pub view_reason : ReasonCode → Reason
view_reason reasons.Unexpected = Unexpected
view_reason reasons.TooDeep = TooDeep
view_reason reasons.TooLong = TooLong

-- Says that the parser's code rejects the input exactly as the specified parser does, at the first symbol left. If memory runs
-- out, `Stops` always holds.
abbrev pub Stops : {Y : Type 0} → Stop → Outcome Y → List Symbol → Type 0
Stops stops.Memory outcome left = Unit {0}
Stops (stops.Refused why) outcome left = outcome ≡ Err (record { reason = view_reason why; left = left })

-- Says that the result of the parser's code (mapped by `view`) and the symbols left unread equal those of the specified parser, unless
-- memory ran out.
abbrev pub Gives : {X Y : Type 0} → (X → Y) → Result X Stop → Outcome Y → List Symbol → Type 0
Gives view (Ok x) outcome left = outcome ≡ Ok (view x, left)
Gives view (Err e) outcome left = Stops e outcome left

-- Reads the next symbol, of any kind, unless it is nested too deep.
abbrev pub accepted : ℕ → Parser Place
accepted room [] = Err (record { reason = Unexpected; left = [] })
accepted room (t ∷ ts) = accept room t.place t ts
