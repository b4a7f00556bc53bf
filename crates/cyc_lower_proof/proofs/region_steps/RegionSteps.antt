-- This file proves the steps of lexical and dynamic regions, of keys and of aliases.
use Rattle.std.proofs.Common.{◌≡◌, ◌≢◌, ℕ, suc, ◌+◌, ◌≤◌, ◌<◌, Bool, true, List, [], ◌∷◌, length, Option, None, Some, slice_get, refl, sym, ap, subst, ◌∙◌, inl, inr, arith}
use Rattle.std.specs.Prelude.{nat_lt, if◌then◌else◌}
use Rattle.std.proofs.lemmas.Bool.{cases_Bool}
use Rattle.cyc_words.proofs.Numbers.{nat_le-beyond}
use Rattle.cyc_types.specs.declared.typed.Kind.TheVariants as kinds
use Rattle.cyc_types.specs.TypedTrees.{Items, MoreItems, DeclareRegion, Function, Program, OpenRegion, DeclareAlias, DeclareKey}
use Rattle.cyc_store.specs.State.{demand, lexical_count}
use Rattle.cyc_store.specs.Services as services
use Rattle.cyc_store.specs.Services.{OpenLexical, full_at, refusal, OpenDynamic}
use Rattle.cyc_store.proofs.ServiceLemmas.{served-sound}
use Rattle.cyc_plain.specs.declared.instruction.Operand.{Operand}
use Rattle.cyc_plain.specs.declared.instruction.Operand.TheVariants as operands
use Rattle.cyc_plain.specs.declared.instruction.Request.TheVariants as requests
use Rattle.cyc_plain.specs.declared.instruction.Instruction.TheVariants as instructions
use Rattle.cyc_plain.specs.inside.State as plain
use Rattle.cyc_plain.specs.inside.State.{Words, put, Configuration}
use Rattle.cyc_plain.specs.inside.Step.{Choice, at, with_slots, advanced, served_to}
use Rattle.cyc_plain.specs.inside.Step as plain_step
use Rattle.cyc_plain.proofs.SlotLaws.{put-same, put-other}
use Rattle.cyc_meaning.specs.Values.{Handle, Operand as Kinded, Value, Key, kind_of}
use Rattle.cyc_meaning.specs.inside.Effects.{pages_of}
use Rattle.cyc_meaning.specs.State.{Lexical, Dynamic, World, opened_as, globals_number, Environment, Entry, Rest, CloseLexical, Proceeding, Naming, Running, closed, EndLoan, Region, Access, Found, Closed, Missing, region_at, Needs, OpenBy, AliasOf, Given}
use Rattle.cyc_meaning.specs.inside.Nesting.{IsNested}
use Rattle.cyc_meaning.specs.Step.{step, wrong}
use Rattle.cyc_memory_relation.specs.inside.Tables.{Tables, with_handle, Grows}
use Rattle.cyc_memory_relation.proofs.Values.{Grows-handle}
use Rattle.cyc_memory_relation.proofs.Variables.{handle-made}
use Rattle.cyc_memory_relation.proofs.Services.{opened-lexical, refusal-lexical, opened-dynamic, refusal-dynamic}
use Rattle.cyc_lower_proof.specs.declared.exits.Exits.{Exits}
use Rattle.cyc_lower_proof.specs.inside.ControlCode.{inside_region}
use Rattle.cyc_lower_proof.specs.inside.Lowering.{scopes_of}
use Rattle.cyc_lower_proof.proofs.slots.Slots.{slot_types-many}
use Rattle.cyc_lower_proof.proofs.slots.Widths.{Outside}
use Rattle.cyc_lower_proof.proofs.relation.code.Statements.{NamedAt, ClosedAt, ItemsAt}
use Rattle.cyc_lower_proof.proofs.relation.contents.HeldValues.{homes, callers, scopes_in, MayBeOpen, IsIn, contents}
use Rattle.cyc_lower_proof.proofs.relation.simulation.Relation.{SharedAt, Matches, DataIn, following_statement, in_operand}
use Rattle.cyc_lower_proof.proofs.relation.simulation.Stacks.{StatementStack, code_of, bounds_in, bounds_at, types_in, types_at, floor, starts_at, ValueStack}
use Rattle.cyc_lower_proof.proofs.relation.simulation.Shared.{shared_seen, HasScopes}
use Rattle.cyc_lower_proof.proofs.relation.contents.HandlerData.{data_written}
use Rattle.cyc_lower_proof.proofs.relation.contents.GrowingData.{data_grows, variables_grow}
use Rattle.cyc_lower_proof.proofs.relation.simulation.Matched.{IsMatched, silently, shared_within, known, inside_by}
use Rattle.cyc_lower_proof.proofs.relation.simulation.Paths.{runs}
use Rattle.cyc_lower_proof.proofs.object_steps.Asking.{asks_then, by_full}
use Rattle.cyc_lower_proof.proofs.region_steps.Scoped.{scopes_there}
use Rattle.cyc_memory_relation.proofs.Closing.{scopes-same, scopes-closed}
use Rattle.cyc_memory_relation.proofs.Scopes.{ends-newest, scopes-counted}
use Rattle.cyc_memory_relation.specs.inside.Related.{scopes}
use Rattle.cyc_meaning.specs.Regions.{closing_lexical, is_dynamic, opened_by}
use Rattle.cyc_types.specs.Types.{Ty}
use Rattle.cyc_syntax.specs.Symbols.{Place}
use Rattle.cyc_types.specs.declared.typed.Kind.{Kind}
use Rattle.cyc_memory_relation.specs.inside.Words.{Is}
use Rattle.cyc_lower_proof.specs.inside.Slots.{slot_of}
use Rattle.cyc_lower_proof.proofs.relation.simulation.Accesses.{IsWell, is_loaded, is_fitting}
use Rattle.cyc_lower_proof.proofs.relation.contents.Moves.{put_elsewhere}
use Rattle.cyc_lower_proof.proofs.relation.simulation.Weights.{stack_weight}
use Rattle.cyc_lower_proof.proofs.region_steps.Closings.{by_closing, shared_after, settled}
use Rattle.cyc_lower_proof.proofs.relation.contents.Sharing.{shared_ahead}

module _ (source : Program) (pages calls : ℕ) where
  locals_in : (h : Option Function) → (bounds_in source h).locals ≡ length (types_in source h).locals
  locals_in None = refl
  locals_in (Some h) = sym (slot_types-many h)

  -- A valid index of a local of a function is below the length of the list of types of this function's locals.
  pub local_there : (g n : ℕ) → n < (bounds_at source g).locals → n < length (types_at source g).locals
  local_there g n few = omega (arith, few, locals_in (slice_get source.functions g))

  -- ---- opening a lexical region

  module _ (k : List Entry) (e : Environment) (w : World) (c : Configuration) (shared : SharedAt source pages calls k e w c) (facts : DataIn source shared.tables c.active.slots k e w c) (nested : IsNested k e w)
      (free : refusal c.store OpenLexical ≡ None) (choice : services.Choice) (served_it : plain_step.IsServed c.store OpenLexical choice) (place : ℕ) (some : scopes_of source ≡ Some place) where
    abbrev t : ℕ
    t = floor source c.active.function k

    -- The configuration after the heap store has opened a lexical region. The number of lexical regions that were open
    -- before is in the slot that the code reserves for it.
    abbrev asked : Configuration
    asked = served_to choice c (t + 1) OpenLexical

    abbrev marked : Configuration
    marked = advanced (with_slots asked (put asked.active.slots t (asked.active.slots (t + 2))))

    mark_is : marked.active.slots t ≡ scopes_in k
    mark_is =
        let place : t + 2 ≡ suc (t + 1) = omega arith in
        put-same asked.active.slots t (asked.active.slots (t + 2))
        ∙ ap asked.active.slots place ∙ put-same (put c.active.slots (t + 1) choice.handle) (suc (t + 1)) (lexical_count c.store.regions) ∙ scopes_there shared.tables w c.store shared.related k e nested

    handle_is : marked.active.slots (t + 1) ≡ choice.handle
    handle_is =
        put-other asked.active.slots t (t + 1) (asked.active.slots (t + 2)) (λ same. omega (arith, same))
        ∙ put-other (put c.active.slots (t + 1) choice.handle) (suc (t + 1)) (t + 1) (lexical_count c.store.regions) (λ same. omega (arith, same))
        ∙ put-same c.active.slots (t + 1) choice.handle

    elsewhere : (m : ℕ) → Outside t 3 m → marked.active.slots m ≡ c.active.slots m
    elsewhere m out =
        put-other asked.active.slots t m (asked.active.slots (t + 2)) (apart t m (omega arith) (omega arith) out)
        ∙ put-other (put c.active.slots (t + 1) choice.handle) (suc (t + 1)) m (lexical_count c.store.regions) (apart (suc (t + 1)) m (omega arith) (omega arith) out)
        ∙ put-other c.active.slots (t + 1) m choice.handle (apart (t + 1) m (omega arith) (omega arith) out)
      where
        apart : (n m : ℕ) → t ≤ n → n < t + 3 → Outside t 3 m → m ≢ n
        apart n m from to (inl below) same = absurd (omega (arith, from, to, below, same))
        apart n m from to (inr above) same = absurd (omega (arith, from, to, above, same))

    abbrev grown : Tables
    grown = with_handle shared.tables (Some choice.handle)

    grows : Grows shared.tables grown
    grows = Grows-handle shared.tables (Some choice.handle)

    within_pages : demand marked.store ≤ pages
    within_pages = omega (arith, (served-sound c.store OpenLexical choice shared.related.sound free served_it.allowed).demand, shared.same_pages)

    may_be : MayBeOpen (scopes_of source) (suc (scopes_in k))
    may_be = subst (λ o. MayBeOpen o (suc (scopes_in k))) (sym some) tt

    abbrev shared_marked : SharedAt source pages calls (CloseLexical (length w.regions) ∷ k) e (opened_as Lexical w) marked
    shared_marked = record {
      tables = grown;
      same_output = shared.same_output;
      same_input = shared.same_input;
      same_pages = shared.same_pages;
      related = opened-lexical shared.related choice free served_it.allowed;
      globals = grows.handles globals_number None shared.globals;
      variables = variables_grow shared.tables grown grows (e.home ∷ homes k) shared.variables;
      few_pages = within_pages;
      fits = shared.fits;
      counters = (shared.counters.0, may_be);
    }

    data_opened : DataIn source grown marked.active.slots (CloseLexical (length w.regions) ∷ k) e (opened_as Lexical w) marked
    data_opened =
        let g = c.active.function in
        let (written, stand) = data_written source shared.tables g c.active.base w.objects e.locals k c.active.slots marked.active.slots c.active.handlers c.globals c.frames t 3 (omega arith) elsewhere facts in
        (data_grows shared.tables grown grows source g c.active.base w.objects e.locals (callers k) marked.active.slots c.globals c.frames written, (mark_is, stand))

  -- The region handle is bound to a local, and then the declarations and statements of the block run.
  named_at : (n : ℕ) (js : Items) (k : List Entry) (e : Environment) (w : World) (c : Configuration) (exits : Exits) (place m u q : ℕ)
      → (shared : SharedAt source pages calls k e w c) (facts : DataIn source shared.tables c.active.slots k e w c) (nested : IsNested k e w)
      (free : refusal c.store OpenLexical ≡ None) (choice : services.Choice) (served_it : plain_step.IsServed c.store OpenLexical choice) (some : scopes_of source ≡ Some place)
      → NamedAt (code_of source c.active.function) (bounds_at source c.active.function) (types_at source c.active.function) n kinds.Handle (operands.Slot (floor source c.active.function k + 1)) (c.active.next + 1 + 1) m
      → ItemsAt (code_of source c.active.function) (bounds_at source c.active.function) (types_at source c.active.function) js (inside_region exits (floor source c.active.function k)) (floor source c.active.function k + 1) m u
      → ClosedAt (code_of source c.active.function) (bounds_at source c.active.function) (types_at source c.active.function) (floor source c.active.function k) u q
      → StatementStack source c.active.function exits q c.frames k
      → Matches source pages calls (Running (Naming n (record { kind = kinds.Handle; value = Handle (length w.regions) }) js) (CloseLexical (length w.regions) ∷ k) e (opened_as Lexical w))
      (plain.Running (marked k e w c shared facts nested free choice served_it place some))
  named_at n js k e w c exits place m u q shared facts nested free choice served_it some (few, room, move, end) items close stack =
      let g = c.active.function in
      let t = floor source g k in (
        shared_marked k e w c shared facts nested free choice served_it place some,
        data_opened k e w c shared facts nested free choice served_it place some,
        (
          inside_region exits t,
          u,
          operands.Slot (t + 1),
          move,
          handle-made shared.related (Some choice.handle) ∙ ap (λ h. Some (Some h)) (sym (handle_is k e w c shared facts nested free choice served_it place some)),
          local_there g n few,
          room,
          subst (λ p. ItemsAt (code_of source g) (bounds_at source g) (types_at source g) js (inside_region exits t) (t + 1) p u) (sym end) items,
          (exits, q, refl, close, stack),
        ),
      )

  pub opens_region : (r n : ℕ) (js : Items) (k : List Entry) (e : Environment) (w : World) (c : Configuration) (exits : Exits) (q : ℕ)
      → (shared : SharedAt source pages calls k e w c) → DataIn source shared.tables c.active.slots k e w c → IsNested k e w
      → ItemsAt (code_of source c.active.function) (bounds_at source c.active.function) (types_at source c.active.function) (MoreItems (DeclareRegion r n) js) exits (floor source c.active.function k) c.active.next q
      → StatementStack source c.active.function exits q c.frames k → IsMatched source pages calls (Running Proceeding (Rest (MoreItems (DeclareRegion r n) js) ∷ k) e w) (plain.Running c)
  opens_region r n js k e w c exits q shared facts nested (m, u, (place, some, ask, move, named), items, close) stack =
      let old = Rest (MoreItems (DeclareRegion r n) js) ∷ k in
      let t = floor source c.active.function k in
      let new = opened_as Lexical w in
      let next = Running (Naming n (record { kind = kinds.Handle; value = Handle (length w.regions) }) js) (CloseLexical (length w.regions) ∷ k) e new in
      elim (cases_Bool (nat_lt c.store.pages (pages_of new))) [
        | inl over ↦
            by_full source pages calls Proceeding old e w c next (requests.OpenLexical (t + 1)) refl
            (nat_le-beyond pages (pages_of new) _ (subst (λ p. nat_lt p (pages_of new) ≡ true) shared.same_pages over))
            shared ask (refusal-lexical shared.related ∙ ap full_at over)
        | inr room ↦
            let free = refusal-lexical shared.related ∙ ap full_at room in
            asks_then source pages calls Proceeding old e w c next (requests.OpenLexical (t + 1)) 1 refl (shared_seen shared) ask
            (known source pages calls (at c (c.active.next + 1)) _ move, tt) free
            (λ choice served_it.
            let a = asked k e w c shared facts nested free choice served_it place some in
            let b = marked k e w c shared facts nested free choice served_it place some in
            let within = shared_within source pages calls (CloseLexical (length w.regions) ∷ k) e new b (shared_marked k e w c shared facts nested free choice served_it place some) in (
              runs source pages calls Proceeding old e w next a [] (instructions.Move t (operands.Slot (t + 2))) within (shared_seen shared) tt move
                  (λ later. named_at n js k e w c exits place m u q shared facts nested free choice served_it some named items close stack),
              within,
            ))
      ]

  -- ---- closing a lexical region

  -- The end of a block closes the block's regions, newest first.
  pub closes_region : (number : ℕ) (k : List Entry) (e : Environment) (w : World) (c : Configuration) (exits : Exits)
      → (shared : SharedAt source pages calls (CloseLexical number ∷ k) e w c) → DataIn source shared.tables c.active.slots (CloseLexical number ∷ k) e w c → IsNested (CloseLexical number ∷ k) e w
      → StatementStack source c.active.function exits c.active.next c.frames (CloseLexical number ∷ k) → IsMatched source pages calls (Running Proceeding (CloseLexical number ∷ k) e w) (plain.Running c)
  closes_region number k e w c exits shared (facts, (marked, stand)) nested (outer, q, inside, close, stack) =
      let g = c.active.function in
      let own = floor source g k in
      let ends = ends-newest number k e w nested in
      let new = closed w number ends.region in
      let many : scopes w.regions ≡ suc (scopes_in k) = scopes-counted (CloseLexical number ∷ k) e w nested in
      let now : scopes w.regions ≡ suc (scopes new.regions) = scopes-closed w.regions number ends.region ends.there ends.scope in
      let has = somewhere (scopes_of source) (scopes_in k) shared.counters.1 in
      let ahead = shared_ahead source (Some own) pages calls (CloseLexical number ∷ k) e w c (λ mark is. has) shared in
      by_closing source pages calls Proceeding (CloseLexical number ∷ k) e w (Running Proceeding k e new) c own (scopes_in k) q
      (ap (λ a. closing_lexical a Proceeding number k e w) ends.found) close (inside_by source None pages calls (CloseLexical number ∷ k) e w c shared) marked
      (omega (arith, scopes-same shared.related.regions, many))
      (λ choice allowed. (
        settled source pages calls own k e new c (scopes_in k) q choice (omega (arith, many, now)) refl allowed (shared_after source pages calls (Some own) number k e w c ends has tt ahead),
        following_statement outer (facts, stand) stack,
      ))
    where
      somewhere : (o : Option ℕ) (n : ℕ) → MayBeOpen o (suc n) → HasScopes o
      somewhere None n none = omega (arith, none)
      somewhere (Some place) n may = tt

  -- When the block that opened a dynamic region by its key ends, the key becomes usable again.
  pub ends_loan : (lent : ℕ) (k : List Entry) (e : Environment) (w : World) (c : Configuration) (exits : Exits)
      → (shared : SharedAt source pages calls (EndLoan lent ∷ k) e w c) → DataIn source shared.tables c.active.slots (EndLoan lent ∷ k) e w c
      → StatementStack source c.active.function exits c.active.next c.frames (EndLoan lent ∷ k) → IsMatched source pages calls (Running Proceeding (EndLoan lent ∷ k) e w) (plain.Running c)
  ends_loan lent k e w c exits shared facts stack =
      silently source pages calls (Running Proceeding (EndLoan lent ∷ k) e w) (Running Proceeding k e w) (plain.Running c) refl (shared, following_statement exits facts stack) (omega arith)

  -- ---- dynamic regions and their keys

  -- The step that creates a dynamic region and makes a local its key.
  pub declares_key : (r n : ℕ) (js : Items) (k : List Entry) (e : Environment) (w : World) (c : Configuration) (exits : Exits) (q : ℕ)
      → (shared : SharedAt source pages calls k e w c) → DataIn source shared.tables c.active.slots k e w c
      → ItemsAt (code_of source c.active.function) (bounds_at source c.active.function) (types_at source c.active.function) (MoreItems (DeclareKey r n) js) exits (floor source c.active.function k) c.active.next q
      → StatementStack source c.active.function exits q c.frames k → IsMatched source pages calls (Running Proceeding (Rest (MoreItems (DeclareKey r n) js) ∷ k) e w) (plain.Running c)
  declares_key r n js k e w c exits q shared facts (m, ask, (few, room, move, end), items) stack =
      let g = c.active.function in
      let t = floor source g k in
      let old = Rest (MoreItems (DeclareKey r n) js) ∷ k in
      let new = opened_as Dynamic w in
      let next = Running (Naming n (record { kind = kinds.Key; value = Key (length w.regions) }) js) k e new in
      elim (cases_Bool (nat_lt c.store.pages (pages_of new))) [
        | inl over ↦
            by_full source pages calls Proceeding old e w c next (requests.OpenDynamic t) refl
            (nat_le-beyond pages (pages_of new) _ (subst (λ p. nat_lt p (pages_of new) ≡ true) shared.same_pages over))
            shared ask (refusal-dynamic shared.related ∙ ap full_at over)
        | inr room_left ↦
            let free = refusal-dynamic shared.related ∙ ap full_at room_left in
            asks_then source pages calls Proceeding old e w c next (requests.OpenDynamic t) 0 refl (shared_seen shared) ask tt free
            (λ choice served_it.
            let after = served_to choice c t OpenDynamic in
            let grown = with_handle shared.tables (Some choice.handle) in
            let grows = Grows-handle shared.tables (Some choice.handle) in
            let shared_new : SharedAt source pages calls k e new after = record {
              tables = grown;
              same_output = shared.same_output;
              same_input = shared.same_input;
              same_pages = shared.same_pages;
              related = opened-dynamic shared.related choice free served_it.allowed;
              globals = grows.handles globals_number None shared.globals;
              variables = variables_grow shared.tables grown grows (e.home ∷ homes k) shared.variables;
              few_pages = omega (arith, (served-sound c.store OpenDynamic choice shared.related.sound free served_it.allowed).demand, shared.same_pages);
              fits = shared.fits;
              counters = shared.counters;
            } in
            let (written, stand) = data_written source shared.tables g c.active.base w.objects e.locals k c.active.slots after.active.slots c.active.handlers c.globals c.frames t 1 (omega arith)
            (λ i out. put_elsewhere c.active.slots t choice.handle 1 i (omega arith) out) facts in (
              (
                shared_new,
                (data_grows shared.tables grown grows source g c.active.base w.objects e.locals (callers k) after.active.slots c.globals c.frames written, stand),
                (
                  exits,
                  q,
                  operands.Slot t,
                  move,
                  handle-made shared.related (Some choice.handle) ∙ ap (λ h. Some (Some h)) (sym (put-same c.active.slots t choice.handle)),
                  local_there g n few,
                  room,
                  subst (λ p. ItemsAt (code_of source g) (bounds_at source g) (types_at source g) js exits t p q) (sym end) items,
                  stack,
                ),
              ),
              shared_within source pages calls k e new after shared_new,
            ))
      ]

  -- The value of a local is in the slot of the local.
  local_in : (number object : ℕ) (v : Kinded) (k : List Entry) (e : Environment) (w : World) (c : Configuration) (t : Tables) → DataIn source t c.active.slots k e w c → e.locals number ≡ Some object → contents w.objects object ≡ Some v
      → IsIn t v c.active.slots (operands.Slot (slot_of (starts_at source c.active.function) number))
  local_in number object v k e w c t ((low, below, hold, waiting, words), stand) there has = (hold.holds number object v there has).0

  -- The step that opens the region of a key: the word of the key becomes the region handle.
  pub opens_by : (r n key : ℕ) (p : Place) (js : Items) (k : List Entry) (e : Environment) (w : World) (c : Configuration) (exits : Exits) (q : ℕ)
      → IsWell (step source (Running Proceeding (Rest (MoreItems (OpenRegion r n p key) js) ∷ k) e w))
      → (shared : SharedAt source pages calls k e w c) → DataIn source shared.tables c.active.slots k e w c
      → ItemsAt (code_of source c.active.function) (bounds_at source c.active.function) (types_at source c.active.function) (MoreItems (OpenRegion r n p key) js) exits (floor source c.active.function k) c.active.next q
      → StatementStack source c.active.function exits q c.frames k → IsMatched source pages calls (Running Proceeding (Rest (MoreItems (OpenRegion r n p key) js) ∷ k) e w) (plain.Running c)
  opens_by r n key p js k e w c exits q well shared facts (m, named, items) stack =
      let loaded = is_loaded kinds.Key (e.locals key) (Needs (OpenBy n key js) ∷ k) e w well in
      let v : Kinded = record { kind = kinds.Key; value = loaded.value } in
      silently source pages calls (Running Proceeding (Rest (MoreItems (OpenRegion r n p key) js) ∷ k) e w) (Running (Given v) (Needs (OpenBy n key js) ∷ k) e w) (plain.Running c) loaded.gives
      (shared, in_operand (operands.Slot (slot_of (starts_at source c.active.function) key)) facts (local_in key loaded.number v k e w c shared.tables facts loaded.there loaded.has) tt (exits, m, q, named, items, stack))
      (omega arith)

  pub aliases_local : (r n lent : ℕ) (t : Ty) (p : Place) (js : Items) (k : List Entry) (e : Environment) (w : World) (c : Configuration) (exits : Exits) (q : ℕ)
      → IsWell (step source (Running Proceeding (Rest (MoreItems (DeclareAlias r n t p lent) js) ∷ k) e w))
      → (shared : SharedAt source pages calls k e w c) → DataIn source shared.tables c.active.slots k e w c
      → ItemsAt (code_of source c.active.function) (bounds_at source c.active.function) (types_at source c.active.function) (MoreItems (DeclareAlias r n t p lent) js) exits (floor source c.active.function k) c.active.next q
      → StatementStack source c.active.function exits q c.frames k → IsMatched source pages calls (Running Proceeding (Rest (MoreItems (DeclareAlias r n t p lent) js) ∷ k) e w) (plain.Running c)
  aliases_local r n lent t p js k e w c exits q well shared facts (m, named, items) stack =
      let loaded = is_loaded (kind_of t) (e.locals lent) (Needs (AliasOf n lent js) ∷ k) e w well in
      let v : Kinded = record { kind = kind_of t; value = loaded.value } in
      silently source pages calls (Running Proceeding (Rest (MoreItems (DeclareAlias r n t p lent) js) ∷ k) e w) (Running (Given v) (Needs (AliasOf n lent js) ∷ k) e w) (plain.Running c) loaded.gives
      (shared, in_operand (operands.Slot (slot_of (starts_at source c.active.function) lent)) facts (local_in lent loaded.number v k e w c shared.tables facts loaded.there loaded.has) tt (exits, m, q, named, items, stack))
      (omega arith)

  -- ---- locals that become handles or aliases

  key_is : (t : Tables) (kind : Kind) (region : ℕ) (words : Words) (p : ℕ) → Is t kind (Key region) words p → Is t kinds.Handle (Handle region) words p
  key_is t kinds.Key region words p is = is
  key_is t kind region words p is = absurd is

  key_in : (t : Tables) (kind : Kind) (region : ℕ) (slots : Words) (o : Operand) → IsIn t (record { kind = kind; value = Key region }) slots o → IsIn t (record { kind = kinds.Handle; value = Handle region }) slots o
  key_in t kind region slots (operands.Slot n) is = key_is t kind region slots n is
  key_in t kinds.Fat region slots (operands.Word n) is = absurd is
  key_in t kind region slots (operands.Word n) is = key_is t kind region (λ (i : ℕ). n) 0 is

  -- An open region that has a key is dynamic.
  is_opened : (a : Access Region) (region number lent : ℕ) (js : Items) (k : List Entry) (e : Environment) (w : World) → IsWell (opened_by a region number lent js k e w)
      → opened_by a region number lent js k e w ≡ Running (Naming number (record { kind = kinds.Handle; value = Handle region }) js) (EndLoan lent ∷ k) e w
  is_opened (Found r) region number lent js k e w well =
      let named = Running (Naming number (record { kind = kinds.Handle; value = Handle region }) js) (EndLoan lent ∷ k) e w in
      ap (λ (b : Bool). if b then named else wrong w) (is_fitting (is_dynamic r.sort) named w well)
  is_opened Closed region number lent js k e w well = absurd (well refl)
  is_opened Missing region number lent js k e w well = absurd (well refl)

  lends : (v u : Kinded) (o : Operand) (number lent m q : ℕ) (js : Items) (waits : Entry) (k : List Entry) (e : Environment) (w : World) (c : Configuration) (exits : Exits)
      → step source (Running (Given v) (waits ∷ k) e w) ≡ Running (Naming number u js) (EndLoan lent ∷ k) e w
      → stack_weight (EndLoan lent ∷ k) < stack_weight (waits ∷ k)
      → (shared : SharedAt source pages calls k e w c) → DataIn source shared.tables c.active.slots k e w c → IsIn shared.tables u c.active.slots o
      → NamedAt (code_of source c.active.function) (bounds_at source c.active.function) (types_at source c.active.function) number u.kind o c.active.next m
      → ItemsAt (code_of source c.active.function) (bounds_at source c.active.function) (types_at source c.active.function) js exits (floor source c.active.function k) m q
      → StatementStack source c.active.function exits q c.frames k → IsMatched source pages calls (Running (Given v) (waits ∷ k) e w) (plain.Running c)
  lends v u o number lent m q js waits k e w c exits does lighter shared facts is (few, room, move, end) items stack =
      let g = c.active.function in
      silently source pages calls (Running (Given v) (waits ∷ k) e w) (Running (Naming number u js) (EndLoan lent ∷ k) e w) (plain.Running c) does (
        shared,
        facts,
        (
          exits,
          q,
          o,
          move,
          is,
          local_there g number few,
          room,
          subst (λ p. ItemsAt (code_of source g) (bounds_at source g) (types_at source g) js exits (floor source g k) p q) (sym end) items,
          stack,
        ),
      )
      (omega (arith, lighter))

  pub opened_given : (kind : Kind) (v : Value) (o : Operand) (number lent : ℕ) (js : Items) (k : List Entry) (e : Environment) (w : World) (c : Configuration)
      → IsWell (step source (Running (Given (record { kind = kind; value = v })) (Needs (OpenBy number lent js) ∷ k) e w))
      → (shared : SharedAt source pages calls k e w c) → DataIn source shared.tables c.active.slots k e w c → IsIn shared.tables (record { kind = kind; value = v }) c.active.slots o
      → ValueStack source c.active.function e.locals kind o c.active.next c.frames (Needs (OpenBy number lent js) ∷ k) → IsMatched source pages calls (Running (Given (record { kind = kind; value = v })) (Needs (OpenBy number lent js) ∷ k) e w) (plain.Running c)
  opened_given kind (Key region) o number lent js k e w c well shared facts is (exits, m, q, named, items, stack) =
      lends (record { kind = kind; value = Key region }) (record { kind = kinds.Handle; value = Handle region }) o number lent m q js (Needs (OpenBy number lent js)) k e w c exits
      (is_opened (region_at w region) region number lent js k e w well) (omega arith) shared facts (key_in shared.tables kind region c.active.slots o is) named items stack
  opened_given kind v o number lent js k e w c well shared facts is stack = absurd (well refl)

  pub aliased_given : (v : Kinded) (o : Operand) (number lent : ℕ) (js : Items) (k : List Entry) (e : Environment) (w : World) (c : Configuration)
      → (shared : SharedAt source pages calls k e w c) → DataIn source shared.tables c.active.slots k e w c → IsIn shared.tables v c.active.slots o
      → ValueStack source c.active.function e.locals v.kind o c.active.next c.frames (Needs (AliasOf number lent js) ∷ k) → IsMatched source pages calls (Running (Given v) (Needs (AliasOf number lent js) ∷ k) e w) (plain.Running c)
  aliased_given v o number lent js k e w c shared facts is (exits, m, q, named, items, stack) =
      lends v v o number lent m q js (Needs (AliasOf number lent js)) k e w c exits refl (omega arith) shared facts is named items stack
