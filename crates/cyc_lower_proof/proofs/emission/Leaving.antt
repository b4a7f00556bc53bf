-- If no `break` leaves a loop, then no code is reachable only by a `break`.
use Rattle.std.proofs.Common.{◌≡◌, ℕ, ◌+◌, true, false, List, None, Some}
use Rattle.cyc_words.proofs.Booleans.{or_false_parts}
use Rattle.cyc_types.specs.Numbered.{Numbering}
use Rattle.cyc_types.specs.TypedTrees.{Convert, Statement, Block, Empty, Evaluate, Swap, If, While, Return, Break, Continue, Throw, Try, Items, NoItems, MoreItems, Execute, Declare, DeclareRegion, OpenRegion, DeclareAlias, DeclareKey, Clauses, NoClauses, Default, Case}
use Rattle.cyc_plain.specs.declared.instruction.Instruction.{Instruction}
use Rattle.cyc_lower_proof.specs.declared.exits.Exits.{Exits}
use Rattle.cyc_lower_proof.specs.inside.Slots.{Types}
use Rattle.cyc_lower_proof.specs.inside.ControlCode.{inside_try, inside_region, after_record_in, breaks, items_break, clauses_break}
use Rattle.cyc_lower_proof.proofs.relation.code.Statements.{StatementAt, ItemsAt, ClausesAt}

module _ (code : List Instruction) (bounds : Numbering) (types : Types) where
  mutual
    pub leaving_free : (s : Statement) (exits : Exits) (x t p q : ℕ) → breaks s ≡ false → StatementAt code bounds types s exits t p q → StatementAt code bounds types s (record exits { leaving = x }) t p q
    leaving_free (Block r js) exits x t p q none at = items_leaving_free js exits x t p q none at
    leaving_free Empty exits x t p q none at = at
    leaving_free (Evaluate a) exits x t p q none at = at
    leaving_free (Swap a b) exits x t p q none at = at
    leaving_free (If a s u) exits x t p q none (f, h, r, at_a, at_s, over, at_u) =
        let (first, second) = or_false_parts (breaks s) (breaks u) none in
        (f, h, r, at_a, leaving_free s exits x t h r first at_s, over, leaving_free u exits x t f q second at_u)
    leaving_free (While w a s) exits x t p q none at = at
    leaving_free (Return None) exits x t p q none at = at
    leaving_free (Return (Some (Convert from to a))) exits x t p q none at = at
    leaving_free Break exits x t p q none at = absurd (let f : true ≡ false = none in cc)
    leaving_free Continue exits x t p q none at = at
    leaving_free (Throw tag v) exits x t p q none at = at
    leaving_free (Try s cs) exits x t p q none (r, m, u, kept, try, at_s, leave, jump, restored, at_clauses) =
        let (first, second) = or_false_parts (breaks s) (clauses_break cs) none in
        (r, m, u, kept, try, leaving_free s (inside_try exits t) x (after_record_in types.scopes t) (r + 1) m first at_s, leave, jump, restored, clauses_leaving_free cs (m + 1) exits x t u q second at_clauses)

    items_leaving_free : (js : Items) (exits : Exits) (x t p q : ℕ) → items_break js ≡ false → ItemsAt code bounds types js exits t p q → ItemsAt code bounds types js (record exits { leaving = x }) t p q
    items_leaving_free NoItems exits x t p q none at = at
    items_leaving_free (MoreItems (Execute s) js) exits x t p q none (m, at_s, rest) =
        let (first, second) = or_false_parts (breaks s) (items_break js) none in
        (m, leaving_free s exits x t p m first at_s, items_leaving_free js exits x t m q second rest)
    items_leaving_free (MoreItems (Declare n ty v) js) exits x t p q none (m, has, at, rest) = (m, has, at, items_leaving_free js exits x t m q none rest)
    items_leaving_free (MoreItems (DeclareRegion r n) js) exits x t p q none (m, u, opened, rest, closed) =
        (m, u, opened, items_leaving_free js (inside_region exits t) x (t + 1) m u none rest, closed)
    items_leaving_free (MoreItems (OpenRegion r n w key) js) exits x t p q none (m, named, rest) = (m, named, items_leaving_free js exits x t m q none rest)
    items_leaving_free (MoreItems (DeclareAlias r n ty w lent) js) exits x t p q none (m, named, rest) = (m, named, items_leaving_free js exits x t m q none rest)
    items_leaving_free (MoreItems (DeclareKey r n) js) exits x t p q none (m, ask, named, rest) = (m, ask, named, items_leaving_free js exits x t m q none rest)

    clauses_leaving_free : (cs : Clauses) (out : ℕ) (exits : Exits) (x t p q : ℕ) → clauses_break cs ≡ false → ClausesAt code bounds types cs out exits t p q → ClausesAt code bounds types cs out (record exits { leaving = x }) t p q
    clauses_leaving_free NoClauses out exits x t p q none at = at
    clauses_leaving_free (Default r js) out exits x t p q none at = items_leaving_free js exits x t p q none at
    clauses_leaving_free (Case tag y r js cs) out exits x t p q none (m, u, word, other, caught, at_items, jump, before, rest) =
        let (first, second) = or_false_parts (items_break js) (clauses_break cs) none in
        (m, u, word, other, caught, items_leaving_free js exits x t m u first at_items, jump, before, clauses_leaving_free cs out exits x t (u + 1) q second rest)
