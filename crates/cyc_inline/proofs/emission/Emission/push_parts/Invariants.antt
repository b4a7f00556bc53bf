use Rattle.std.proofs.Common.{◌≡◌, ◌++◌, drop}
use Rattle.cyc_inline.specs.inside.Emission.{front_by, opened_code, opened_origins}
use Rattle.cyc_inline.specs.inside.Sites.{place_in}
use Rattle.cyc_inline.proofs.emission.Emission.push_parts.Given as goal

-- Invariant: the code emitted so far, followed by the replacements of the function's remaining instructions, is the
-- code after the whole function is emitted.
abbrev pub invariant-loop-index : goal.invariant-loop-index
invariant-loop-index l = record {
  code : l.self.code.items
      ++ opened_code l.caller.plain.now l.caller.number l.caller.choice.now.chosen.items (front_by l.caller.plain.now l.caller.number l.caller.choice.now) (place_in l.caller.places.now) (place_in l.caller.rests.now) l.in_line l.index (drop l.index l.function.code.items)
      ≡ l.fn.self.code.items
      ++ opened_code l.caller.plain.now l.caller.number l.caller.choice.now.chosen.items (front_by l.caller.plain.now l.caller.number l.caller.choice.now) (place_in l.caller.places.now) (place_in l.caller.rests.now) l.in_line 0 l.function.code.items;
  origins : l.self.origins.items ++ opened_origins l.caller.plain.now l.caller.number l.caller.choice.now.chosen.items (front_by l.caller.plain.now l.caller.number l.caller.choice.now) l.in_line l.index (drop l.index l.function.code.items)
      ≡ l.fn.self.origins.items ++ opened_origins l.caller.plain.now l.caller.number l.caller.choice.now.chosen.items (front_by l.caller.plain.now l.caller.number l.caller.choice.now) l.in_line 0 l.function.code.items;
}
