use Rattle.std.proofs.Common.{◌≡◌, ◌++◌, drop}
use Rattle.cyc_inline.specs.inside.Sites.{place_in, inside_code, inside_origins}
use Rattle.cyc_inline.proofs.emission.Emission.push_body.Given as goal

-- Invariant: the code emitted so far, followed by the replacements of the callee's remaining instructions, is the code
-- after the whole inlined callee is emitted.
abbrev pub invariant-loop-index : goal.invariant-loop-index
invariant-loop-index l = record {
  code : l.self.code.items ++ inside_code l.site (place_in l.places) l.in_line l.index (drop l.index l.code)
      ≡ l.fn.self.code.items ++ inside_code l.site (place_in l.places) l.in_line 0 l.code;
  origins : l.self.origins.items ++ inside_origins l.site.call.callee l.site.results l.site.call.line l.in_line l.index (drop l.index l.code)
      ≡ l.fn.self.origins.items ++ inside_origins l.site.call.callee l.site.results l.site.call.line l.in_line 0 l.code;
}
