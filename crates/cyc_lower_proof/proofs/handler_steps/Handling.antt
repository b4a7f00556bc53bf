-- This file proves the effect that a statement has on the open handlers when it leaves some of them.
use Rattle.std.proofs.Common.{◌≡◌, ℕ, suc, ◌+◌, ◌<◌, Bool, true, false, List, [], ◌∷◌, Option, None, Some, refl, sym, ap, subst, ◌∙◌, arith}
use Rattle.std.specs.Prelude.{◌==◌, if◌then◌else◌}
use Rattle.std.proofs.lemmas.Bool.{eq-eqb, eqb-true, and_from, false_from_ne_true}
use Rattle.std.proofs.lemmas.Option.{same_Some, none-some}
use Rattle.cyc_words.specs.Word.{IsWord as IsNumber}
use Rattle.cyc_types.specs.TypedTrees.{Program}
use Rattle.cyc_plain.specs.declared.instruction.Operand.{Operand}
use Rattle.cyc_plain.specs.declared.instruction.Instruction.TheVariants as instructions
use Rattle.cyc_plain.specs.inside.State as plain
use Rattle.cyc_plain.specs.inside.State.{Words, Activation, Frame, Configuration}
use Rattle.cyc_plain.specs.inside.Step.{advanced, operand_word, is_intact, closes}
use Rattle.cyc_plain.specs.inside.Straight.{At}
use Rattle.cyc_meaning.specs.State.{World, Environment, Entry, Rest, Join, Loop, CloseRegion, Handler, Caller, Main, Focus, Running, CloseLexical, EndLoan, Throwing}
use Rattle.cyc_meaning.specs.Step.{step}
use Rattle.cyc_lower_proof.specs.declared.exits.Exits.{Exits}
use Rattle.cyc_lower_proof.specs.declared.exits.Opened.{Opened}
use Rattle.cyc_lower_proof.specs.inside.ControlCode.{outermost, with_handler, with_mark}
use Rattle.cyc_lower_proof.specs.inside.Lowering.{scopes_of}
use Rattle.cyc_lower_proof.proofs.relation.simulation.Weights.{weight}
use Rattle.cyc_lower_proof.proofs.relation.code.Statements.{HandlersAt, MarksAt}
use Rattle.cyc_lower_proof.proofs.relation.contents.HeldValues.{IsIntact, left_by, scopes_in, MayBeOpen, Newest}
use Rattle.cyc_lower_proof.proofs.relation.simulation.Relation.{HandlersStand, SharedAt, SharedBy, Related, Matches, IsMark, CaughtBy, DataIn}
use Rattle.cyc_lower_proof.proofs.relation.simulation.Stacks.{StatementStack, code_of, bounds_at, types_at, floor, opened_by}
use Rattle.cyc_lower_proof.proofs.relation.simulation.Shared.{HasScopes}
use Rattle.cyc_lower_proof.proofs.relation.contents.Sharing.{shared_ahead}
use Rattle.cyc_lower_proof.proofs.relation.contents.HandlerData.{calls_counted, record_below}
use Rattle.cyc_lower_proof.proofs.relation.simulation.Matched.{IsMatched, silently, by_one}

pub intact : (slots : Words) (first : ℕ) (contents : Words) → IsIntact slots first contents → is_intact slots first contents ≡ true
intact slots first contents (zeroth, second, third, fourth) =
    and_from _ _ (eq-eqb (slots first) (contents 0) zeroth)
    (and_from _ _ (eq-eqb (slots (first + 1)) (contents 1) second)
    (and_from _ _ (eq-eqb (slots (first + 2)) (contents 2) third) (eq-eqb (slots (first + 3)) (contents 3) fourth)))

-- Closes the handler whose record begins at the given slot.
pub closes_here : (c : Configuration) (target index first : ℕ) (contents : Words) (handlers : List plain.Handler) → first ≡ target → IsIntact c.active.slots first contents
    → closes c target (plain.Open index first contents ∷ handlers) ≡ plain.Running (advanced (record c { active = record c.active { handlers = handlers } }))
closes_here c target index first contents handlers is same =
    let done = plain.Running (advanced (record c { active = record c.active { handlers = handlers } })) in
    let stuck = plain.Stuck c.output c.input in
    ap (λ (b : Bool). if b then (if is_intact c.active.slots target contents then done else stuck) else closes c target handlers) (eq-eqb first target is)
    ∙ ap (λ (b : Bool). if b then done else stuck) (intact c.active.slots target contents (subst (λ n. IsIntact c.active.slots n contents) is same))

closes_later : (c : Configuration) (target index first : ℕ) (contents : Words) (handlers : List plain.Handler) → (first == target) ≡ false → closes c target (plain.Open index first contents ∷ handlers) ≡ closes c target handlers
closes_later c target index first contents handlers other =
    let done = plain.Running (advanced (record c { active = record c.active { handlers = handlers } })) in
    ap (λ (b : Bool). if b then (if is_intact c.active.slots target contents then done else plain.Stuck c.output c.input) else closes c target handlers) other

pub newest_open : (handlers : List plain.Handler) (P : (index first : ℕ) → Words → List plain.Handler → Type 0) → Newest handlers P
    → (index : ℕ) × (first : ℕ) × (contents : Words) × (later : List plain.Handler) × (handlers ≡ plain.Open index first contents ∷ later) × P index first contents later
newest_open [] P is = absurd is
newest_open (plain.Caught ∷ handlers) P is = absurd is
newest_open (plain.Open index first contents ∷ handlers) P is = (index, first, contents, handlers, refl, is)

module _ (source : Program) where
  -- The exits `exits` record what must be closed when a loop or function is left. This record agrees with the exception handlers
  -- that are open inside the loop or function.
  pub record_left : (g : ℕ) (exits : Exits) (p : ℕ) (frames : List Frame) (k : List Entry) → StatementStack source g exits p frames k
      → (exits.in_loop ≡ opened_by source true g k) × (exits.in_function ≡ opened_by source false g k)
  record_left g exits p frames (Rest items ∷ k) (q, at, stack) = record_left g exits q frames k stack
  record_left g exits p frames (Join ∷ k) (q, at, stack) = record_left g exits q frames k stack
  record_left g exits p frames (Loop condition body ∷ k) (outer, q, (b, loop_is, function_is, entry, leave, at_s, again, after), stack) = (loop_is, function_is ∙ (record_left g outer q frames k stack).1)
  record_left g exits p frames (CloseRegion region home ∷ k) (q, at, stack) = record_left g exits q frames k stack
  record_left g exits p frames (Handler handler ∷ k) (outer, q, is, leave, jump, stack) =
      let (in_loop, in_function) = record_left g outer q frames k stack in (
        ap (λ (x : Exits). x.in_loop) is ∙ ap (λ (x : Opened). with_handler x (floor source g k)) in_loop,
        ap (λ (x : Exits). x.in_function) is ∙ ap (λ (x : Opened). with_handler x (floor source g k)) in_function,
      )
  record_left g exits p frames (CloseLexical region ∷ k) (outer, q, is, closing, stack) =
      let (in_loop, in_function) = record_left g outer q frames k stack in (
        ap (λ (x : Exits). x.in_loop) is ∙ ap (λ (x : Opened). with_mark x (floor source g k)) in_loop,
        ap (λ (x : Exits). x.in_function) is ∙ ap (λ (x : Opened). with_mark x (floor source g k)) in_function,
      )
  record_left g exits p frames (EndLoan lent ∷ k) stack = record_left g exits p frames k stack
  record_left g exits p frames (Caller e ∷ k) (s, at, outside, below) = outside
  record_left g exits p frames (Main ∷ k) (s, at, outside, last) = outside
  record_left g exits p frames k stack = absurd stack

  -- The record of the outermost open exception handler is in slots before the temporaries.
  record_there : (loop : Bool) (g : ℕ) (k : List Entry) (first : ℕ) → (opened_by source loop g k).handler ≡ Some first → first < floor source g k
  record_there loop g [] first is = absurd (none-some first is)
  record_there true g (Loop condition body ∷ k) first is = absurd (none-some first is)
  record_there false g (Loop condition body ∷ k) first is = record_there false g k first is
  record_there loop g (Handler handler ∷ k) first is = by (opened_by source loop g k).handler (record_there loop g k) is
    where
      by : (o : Option ℕ) → ((outer : ℕ) → o ≡ Some outer → outer < floor source g k) → outermost o (floor source g k) ≡ Some first → first < floor source g (Handler handler ∷ k)
      by None below is = omega (arith, same_Some (floor source g k) first is, record_below source g k)
      by (Some outer) below is = omega (arith, below outer refl, same_Some outer first is, record_below source g k)
  record_there loop g (CloseLexical region ∷ k) first is = omega (arith, record_there loop g k first is)
  record_there loop g (Caller e ∷ k) first is = absurd (none-some first is)
  record_there loop g (Main ∷ k) first is = absurd (none-some first is)
  record_there loop g (entry ∷ k) first is = record_there loop g k first is

  -- If no handler record is open inside a loop or call, then an exit from it leaves no handlers.
  none_left : (loop : Bool) (g : ℕ) (slots : Words) (handlers : List plain.Handler) (frames : List Frame) (k : List Entry) → (opened_by source loop g k).handler ≡ None
      → HandlersStand source g slots handlers frames k → HandlersStand source g slots handlers frames (left_by loop k)
  none_left loop g slots handlers frames [] none stand = stand
  none_left true g slots handlers frames (Loop condition body ∷ k) none stand = stand
  none_left false g slots handlers frames (Loop condition body ∷ k) none stand = none_left false g slots handlers frames k none stand
  none_left loop g slots handlers frames (Handler handler ∷ k) none stand = by (opened_by source loop g k).handler none
    where
      by : (o : Option ℕ) → outermost o (floor source g k) ≡ None → HandlersStand source g slots handlers frames (left_by loop k)
      by None none = absurd (none-some (floor source g k) (sym none))
      by (Some outer) none = absurd (none-some outer (sym none))
  none_left loop g slots handlers frames (Caller e ∷ k) none stand = stand
  none_left loop g slots handlers frames (Main ∷ k) none stand = stand
  none_left loop g slots handlers frames (CloseLexical region ∷ k) none (marked, stand) = none_left loop g slots handlers frames k none stand
  none_left loop g slots handlers frames (entry ∷ k) none stand = none_left loop g slots handlers frames k none stand

  -- Says that closing the outermost exception handler also closes the handlers inside it.
  abbrev IsClosed : (loop : Bool) → Configuration → List plain.Handler → (first : ℕ) → List Entry → Type 0
  IsClosed loop c handlers first k =
      (later : List plain.Handler) × (closes c first handlers ≡ plain.Running (advanced (record c { active = record c.active { handlers = later } })))
      × HandlersStand source c.active.function c.active.slots later c.frames (left_by loop k)

  left_closed : (loop : Bool) (c : Configuration) (handlers : List plain.Handler) (first : ℕ) (k : List Entry) → (opened_by source loop c.active.function k).handler ≡ Some first
      → HandlersStand source c.active.function c.active.slots handlers c.frames k → IsClosed loop c handlers first k
  left_closed loop c handlers first [] is stand = absurd stand
  left_closed true c handlers first (Loop condition body ∷ k) is stand = absurd (none-some first is)
  left_closed false c handlers first (Loop condition body ∷ k) is stand = left_closed false c handlers first k is stand
  left_closed loop c [] first (Handler handler ∷ k) is stand = absurd stand
  left_closed loop c (plain.Caught ∷ handlers) first (Handler handler ∷ k) is stand = absurd stand
  left_closed loop c (plain.Open index slot contents ∷ handlers) first (Handler handler ∷ k) is (slot_is, same, kept, catches, rest) =
      by (opened_by source loop c.active.function k).handler (record_there loop c.active.function k) (none_left loop c.active.function c.active.slots handlers c.frames k)
      (λ there. left_closed loop c handlers first k there rest) is
    where
      own : ℕ
      own = floor source c.active.function k

      by : (o : Option ℕ) → ((outer : ℕ) → o ≡ Some outer → outer < own)
          → (o ≡ None → HandlersStand source c.active.function c.active.slots handlers c.frames k → HandlersStand source c.active.function c.active.slots handlers c.frames (left_by loop k))
          → (o ≡ Some first → IsClosed loop c handlers first k) → outermost o own ≡ Some first → IsClosed loop c (plain.Open index slot contents ∷ handlers) first (Handler handler ∷ k)
      by None below left closed is = (handlers, closes_here c first index slot contents handlers (slot_is ∙ same_Some own first is) same, left refl rest)
      by (Some outer) below left closed is =
          let outer_is = same_Some outer first is in
          let (others, gone, stand) = closed is in
          let apart : (slot == first) ≡ false = false_from_ne_true (slot == first) (λ equal. omega (arith, eqb-true slot first equal, slot_is, outer_is, below outer refl)) in
          (others, closes_later c first index slot contents handlers apart ∙ gone, stand)
  left_closed loop c handlers first (Caller e ∷ k) is stand = absurd (none-some first is)
  left_closed loop c handlers first (Main ∷ k) is stand = absurd (none-some first is)
  left_closed loop c handlers first (CloseLexical region ∷ k) is (marked, stand) = left_closed loop c handlers first k is stand
  left_closed loop c handlers first (entry ∷ k) is stand = left_closed loop c handlers first k is stand

  -- If an exit from a loop or call has no saved number of open lexical regions to restore, then no lexical
  -- region is open that the exit must close.
  pub unmarked : (loop : Bool) (g : ℕ) (k : List Entry) → (opened_by source loop g k).mark ≡ None → scopes_in (left_by loop k) ≡ scopes_in k
  unmarked loop g [] none = refl
  unmarked true g (Loop condition body ∷ k) none = refl
  unmarked false g (Loop condition body ∷ k) none = unmarked false g k none
  unmarked loop g (CloseLexical region ∷ k) none = by (opened_by source loop g k).mark none
    where
      by : (o : Option ℕ) → outermost o (floor source g k) ≡ None → scopes_in (left_by loop k) ≡ suc (scopes_in k)
      by None none = absurd (none-some (floor source g k) (sym none))
      by (Some outer) none = absurd (none-some outer (sym none))
  unmarked loop g (Caller e ∷ k) none = refl
  unmarked loop g (Main ∷ k) none = refl
  unmarked loop g (entry ∷ k) none = unmarked loop g k none

  -- If an exit from a loop or call has a saved number of open lexical regions, then at least one lexical region is open.
  marked_some : (loop : Bool) (g : ℕ) (k : List Entry) (mark : ℕ) → (opened_by source loop g k).mark ≡ Some mark → 0 < scopes_in k
  marked_some loop g [] mark is = absurd (none-some mark is)
  marked_some true g (Loop condition body ∷ k) mark is = absurd (none-some mark is)
  marked_some false g (Loop condition body ∷ k) mark is = marked_some false g k mark is
  marked_some loop g (CloseLexical region ∷ k) mark is = omega arith
  marked_some loop g (Caller e ∷ k) mark is = absurd (none-some mark is)
  marked_some loop g (Main ∷ k) mark is = absurd (none-some mark is)
  marked_some loop g (entry ∷ k) mark is = marked_some loop g k mark is

  -- If an exit from a loop or call has a saved number of open lexical regions, then the program may open lexical regions.
  pub marked_reported : (loop : Bool) (g : ℕ) (k : List Entry) → MayBeOpen (scopes_of source) (scopes_in k) → (mark : ℕ) → (opened_by source loop g k).mark ≡ Some mark → HasScopes (scopes_of source)
  marked_reported loop g k may mark is = by (scopes_of source) may
    where
      by : (o : Option ℕ) → MayBeOpen o (scopes_in k) → HasScopes o
      by None none = omega (arith, none, marked_some loop g k mark is)
      by (Some place) may = tt

  -- For an exit from a loop or call, the saved number of open lexical regions is the number of those that stay open after the exit.
  pub marked_by : (loop : Bool) (g : ℕ) (slots : Words) (handlers : List plain.Handler) (frames : List Frame) (k : List Entry) (mark : ℕ) → (opened_by source loop g k).mark ≡ Some mark
      → HandlersStand source g slots handlers frames k → slots mark ≡ scopes_in (left_by loop k)
  marked_by loop g slots handlers frames [] mark is stand = absurd stand
  marked_by true g slots handlers frames (Loop condition body ∷ k) mark is stand = absurd (none-some mark is)
  marked_by false g slots handlers frames (Loop condition body ∷ k) mark is stand = marked_by false g slots handlers frames k mark is stand
  marked_by loop g slots [] frames (Handler handler ∷ k) mark is stand = absurd stand
  marked_by loop g slots (plain.Caught ∷ handlers) frames (Handler handler ∷ k) mark is stand = absurd stand
  marked_by loop g slots (plain.Open index first contents ∷ handlers) frames (Handler handler ∷ k) mark is (slot_is, same, kept, catches, rest) = marked_by loop g slots handlers frames k mark is rest
  marked_by loop g slots handlers frames (CloseLexical region ∷ k) mark is (marked, rest) = by (opened_by source loop g k).mark (unmarked loop g k) (λ there. marked_by loop g slots handlers frames k mark there rest) is
    where
      by : (o : Option ℕ) → (o ≡ None → scopes_in (left_by loop k) ≡ scopes_in k) → (o ≡ Some mark → slots mark ≡ scopes_in (left_by loop k))
          → outermost o (floor source g k) ≡ Some mark → slots mark ≡ scopes_in (left_by loop k)
      by None left outer is = ap slots (sym (same_Some (floor source g k) mark is)) ∙ marked ∙ sym (left refl)
      by (Some other) left outer is = outer is
  marked_by loop g slots handlers frames (Caller e ∷ k) mark is stand = absurd (none-some mark is)
  marked_by loop g slots handlers frames (Main ∷ k) mark is stand = absurd (none-some mark is)
  marked_by loop g slots handlers frames (entry ∷ k) mark is stand = marked_by loop g slots handlers frames k mark is stand

  pub mark_there : (loop : Bool) (g : ℕ) (slots : Words) (handlers : List plain.Handler) (frames : List Frame) (k : List Entry) → HandlersStand source g slots handlers frames k
      → IsMark source (opened_by source loop g k).mark slots (scopes_in (left_by loop k))
  mark_there loop g slots handlers frames k stand = by (opened_by source loop g k).mark (λ mark is. marked_by loop g slots handlers frames k mark is stand)
    where
      by : (o : Option ℕ) → ((mark : ℕ) → o ≡ Some mark → slots mark ≡ scopes_in (left_by loop k)) → IsMark source o slots (scopes_in (left_by loop k))
      by None marked = tt
      by (Some mark) marked = marked mark refl

  pub caught_by : (a : Activation) (rest : List Frame) (k : List Entry) → HandlersStand source a.function a.slots a.handlers rest k → CaughtBy source a rest k
  caught_by a rest [] stand = absurd stand
  caught_by a rest (entry ∷ k) stand = stand

module _ (source : Program) (pages calls : ℕ) where
  -- The invariant that the source run and the lowered run share, while a source step pops continuation frames.
  abbrev pub shared_leaving : (loop : Bool) (k : List Entry) (e : Environment) (w : World) (c : Configuration) → SharedAt source pages calls k e w c
      → SharedBy source (opened_by source loop c.active.function k).mark pages calls k e w c
  shared_leaving loop k e w c shared =
      shared_ahead source (opened_by source loop c.active.function k).mark pages calls k e w c (marked_reported source loop c.active.function k shared.counters.1) shared

  -- A source step begins to pop continuation frames: one instruction closes the exception handlers of these frames, or they
  -- have none. The lexical regions of the popped frames are closed by later instructions.
  pub leaving : (loop : Bool) (from next : Focus) (old k : List Entry) (e : Environment) (w : World) (c : Configuration) (opened : Opened) (r q : ℕ)
      → step source (Running from old e w) ≡ Running next k e w → SharedAt source pages calls old e w c → weight (Running next k e w) < weight (Running from old e w)
      → opened ≡ opened_by source loop c.active.function k
      → HandlersAt (code_of source c.active.function) (bounds_at source c.active.function) (types_at source c.active.function) opened.handler c.active.next r
      → MarksAt (code_of source c.active.function) (bounds_at source c.active.function) (types_at source c.active.function) opened.mark r q
      → HandlersStand source c.active.function c.active.slots c.active.handlers c.frames k
      → ((handlers : List plain.Handler) → HandlersStand source c.active.function c.active.slots handlers c.frames (left_by loop k)
      → MarksAt (code_of source c.active.function) (bounds_at source c.active.function) (types_at source c.active.function) (opened_by source loop c.active.function k).mark r q
      → IsMark source (opened_by source loop c.active.function k).mark c.active.slots (scopes_in (left_by loop k))
      → Related source pages calls next k e w (record c { active = record c.active { next = r; handlers = handlers } }))
      → IsMatched source pages calls (Running from old e w) (plain.Running c)
  leaving loop from next old k e w c opened r q does shared lighter opened_is closing marks stand goes =
      by opened.handler refl closing
    where
      g : ℕ
      g = c.active.function

      goes_on : (handlers : List plain.Handler) → HandlersStand source g c.active.slots handlers c.frames (left_by loop k)
          → Related source pages calls next k e w (record c { active = record c.active { next = r; handlers = handlers } })
      goes_on handlers rest =
          goes handlers rest (subst (λ mark. MarksAt (code_of source g) (bounds_at source g) (types_at source g) mark r q) (ap (λ (x : Opened). x.mark) opened_is) marks)
          (mark_there source loop g c.active.slots c.active.handlers c.frames k stand)

      by : (o : Option ℕ) → opened.handler ≡ o
          → HandlersAt (code_of source g) (bounds_at source g) (types_at source g) o c.active.next r → IsMatched source pages calls (Running from old e w) (plain.Running c)
      by None none here =
          let none_open : (opened_by source loop g k).handler ≡ None = sym (ap (λ (x : Opened). x.handler) opened_is) ∙ none in
          silently source pages calls (Running from old e w) (Running next k e w) (plain.Running c) does
          (subst (λ n. Related source pages calls next k e w (record c { active = record c.active { next = n; handlers = c.active.handlers } })) (sym here)
          (goes_on c.active.handlers (none_left source loop g c.active.slots c.active.handlers c.frames k none_open stand)))
          lighter
      by (Some first) there (here, following) =
          let (later, gone, rest) = left_closed source loop c c.active.handlers first k (sym (ap (λ (x : Opened). x.handler) opened_is) ∙ there) stand in
          by_one source pages calls does shared here
          (λ choice. subst (Matches source pages calls (Running next k e w)) (sym gone)
          (subst (λ n. Related source pages calls next k e w (record c { active = record c.active { next = n; handlers = later } })) (sym following) (goes_on later rest)))

  -- The lowered code's instruction that raises an exception matches the source step that throws this exception.
  pub raised : (tag value : ℕ) (k : List Entry) (e : Environment) (w : World) (c : Configuration) (x o : Operand) → IsNumber tag → (shared : SharedAt source pages calls k e w c) → DataIn source shared.tables c.active.slots k e w c
      → At (code_of source c.active.function) c.active.next (instructions.Throw x o) → operand_word c.active.slots x ≡ tag → operand_word c.active.slots o ≡ value → Related source pages calls (Throwing tag value) k e w c
  raised tag value k e w c x o word shared (facts, stand) here x_is o_is = (
    shared_ahead source (scopes_of source) pages calls k e w c (known (scopes_of source)) shared,
    omega (arith, calls_counted source c.active.function c.active.slots c.active.handlers c.frames k stand, shared.fits),
    word,
    x,
    o,
    here,
    x_is,
    o_is,
    c.active,
    c.frames,
    omega arith,
    refl,
    facts,
    caught_by source c.active c.frames k stand,
  )
    where
      known : (scopes : Option ℕ) (mark : ℕ) → scopes ≡ Some mark → HasScopes scopes
      known None mark is = none-some mark is
      known (Some place) mark is = tt
