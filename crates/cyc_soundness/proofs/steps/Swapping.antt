-- This file is about swaps: the left and the right operand are evaluated to cells, then both cells are read, and then both are written.
use Rattle.std.proofs.Common.{true, ◌≡◌, ℕ, suc, ◌≤◌, Bool, false, List, [], ◌∷◌, Option, Some, None, slice_get, refl, sym, ap, subst, ◌∙◌, arith, inl, inr, zero, ◌⊎◌, ◌≢◌}
use Rattle.std.specs.Prelude.{if◌then◌else◌}
use Rattle.std.proofs.lemmas.Option.{same_Some}
use Rattle.cyc_syntax.specs.declared.tree.PointerKind.TheVariants as marks
use Rattle.cyc_types.specs.declared.typed.Kind.{Kind}
use Rattle.cyc_types.specs.Types.{Ty}
use Rattle.cyc_types.specs.TypedTrees.{Local, Global, type_of_place, peeked, Side, VariableSide, CellSide, Program}
use Rattle.cyc_types.specs.Rules.{AllKept, Derives}
use Rattle.cyc_types.specs.typing.Tests.{is_struct}
use Rattle.cyc_types.specs.typing.WellTyped.{Context, IsSide}
use Rattle.cyc_types.specs.flow.States as flow
use Rattle.cyc_types.specs.flow.States.{fullness, is_reached}
use Rattle.cyc_types.specs.flow.Expressions.{peek_after}
use Rattle.cyc_types.specs.flow.Statements.{rule_side, side_demanded, peeked_side}
use Rattle.cyc_meaning.specs.Values.{Operand}
use Rattle.cyc_meaning.specs.Values as values
use Rattle.cyc_meaning.specs.State.{World, Environment, SwapLeft, SwapRight, Write, Entry, NeedsPlace, Locating, Proceeding, Writing, Swapping, Focus, Running, written}
use Rattle.cyc_meaning.specs.Parts.{wrong, stored_at, step_writing, stored}
use Rattle.cyc_meaning.specs.Swaps.{both_places, finds_right_object, finds_right, finds_left_object, swaps, swap_read, swap_content, swap_loaded, swap_loaded_at, step_swapping}
use Rattle.cyc_meaning.specs.inside.Nesting.{ends_of, AreOpen}
use Rattle.cyc_soundness.proofs.flow.Looking.{peeked_so}
use Rattle.cyc_soundness.specs.inside.Lives.{Life, RunTy, as_heap, Value}
use Rattle.cyc_soundness.specs.inside.Lives as lives
use Rattle.cyc_soundness.specs.inside.Worlds.{At, IsKept, thing_of, IsHad, Claims, IsOpenObject, ObjectType, Typing, global_type, IsFilled, HasType, IsTyped, Awaits, Pending, Settled, Thing, Holder, Nobody, Hand, IsHeld, Owns, Stays, Grows, IsHere, given, giving, IsResult, Away, Lent}
use Rattle.cyc_soundness.specs.inside.Frames.{InScope, local_type, IsBound, AreVariables, LiveIn, Holds, Exits, IsContext, KnowsProgram, lives_in, read, IsFullIn}
use Rattle.cyc_soundness.specs.inside.Classes.{InSide, and_looked, IsSpared}
use Rattle.cyc_soundness.specs.inside.Judgements.{Finds}
use Rattle.cyc_soundness.specs.inside.Awaited.{relied_at, operands_in, Go, IsSpot, of_local, of_global, of_cell, IsLeftSpot, left_variable, left_cell, IsRead, AreSwapped, ClaimsAt, IsWrite, IsAwaited}
use Rattle.cyc_soundness.specs.inside.Awaited as awaited
use Rattle.cyc_soundness.specs.inside.Stacks.{IsStack, IsWell, IsFocus}
use Rattle.cyc_soundness.proofs.types.TypeLemmas.{is_kind_same, kind_meant, place_type}
use Rattle.cyc_soundness.proofs.flow.FlowLemmas.{full_set, used_full}
use Rattle.cyc_soundness.proofs.states.WorldLemmas.{cell_there, type_grown, result_grown, risen, with_filled, written_grows, cell_written, globals_grown}
use Rattle.cyc_soundness.proofs.states.Hands.{Changed, given_now, given_too, given_apart, given_other, held_before, nobody_before, giving_changed, at_no_hand, at_same}
use Rattle.cyc_soundness.proofs.states.StillHands.{not_awaited}
use Rattle.cyc_soundness.proofs.states.Hands.{awaits_same, away_not_here, lent_no_hand, lent_not_at}
use Rattle.cyc_soundness.proofs.states.StillHands.{kept_now}
use Rattle.cyc_soundness.proofs.states.Hands.{holds_here, variables_kept}
use Rattle.cyc_soundness.proofs.states.CallHands.{variables_pending, pending_grows}
use Rattle.cyc_soundness.proofs.states.StillHands.{variables_grown}
use Rattle.cyc_soundness.proofs.states.StackLemmas.{IsAboveBy, statement_relied}
use Rattle.cyc_soundness.proofs.states.StackClaims.{stack_grown, stack_by, settled}
use Rattle.cyc_soundness.proofs.states.StackLocals.{bound_of, place_local, among_bound, among_variable, among_live, among_set, open_of, globals_among, lasting_open, kept_open, object_known, among_open, IsPresent, there_present, among_own}
use Rattle.cyc_soundness.proofs.types.RegionLemmas.{there_of}
use Rattle.cyc_soundness.proofs.types.CallRegions.{cell_live, global_means}
use Rattle.cyc_soundness.proofs.states.Cells.{part_had, running, life_of, lasting_common, open_object, value_part, held_still}

-- Says that an object is the variable of a local whose value is neither moved nor lent, or an object to which pointers may point.
abbrev pub IsFree : Typing → (object : ℕ) → ObjectType → Type 0
IsFree g object y = ((n : ℕ) × IsHere g g.depth n object) ⊎ (y.is_hidden ≡ false)

free_kept : (g : Typing) (object offset : ℕ) (y : ObjectType) → g.pending ≡ Settled → IsFree g object y → IsKept g object offset y.is_hidden
free_kept g object offset y settled (inl (n, here)) = kept_now g object offset y.is_hidden here.0 settled
free_kept g object offset y settled (inr shown) = ((λ is. let k : true ≡ false = sym is ∙ shown in absurd (cc)), not_awaited g object offset settled)

-- A local that owns the resource of its own value has not lent this value.
free_not_away : (g : Typing) (object : ℕ) (y : ObjectType) → IsFree g object y → y.is_hidden ≡ true → (j : ℕ) → g.here object ≡ Away j → ⊥
free_not_away g object y (inl (n, here)) hides j away = away_not_here (g.here object) j away here.0
free_not_away g object y (inr shown) hides j away = let k : true ≡ false = sym hides ∙ shown in absurd (cc)

-- No stack entry claims a resource that is stored in an object that a swap may change.
free_above : (x : Exits) (g : Typing) (k : List Entry) (object offset : ℕ) (y : ObjectType) → relied_at [] k ≡ [] → slice_get g.objects object ≡ Some y → IsFree g object y → IsAboveBy false x g k (At object offset)
free_above x g k object (suc i) y none there free = tt
free_above x g k object zero y none there (inl (n, here)) = inl (g.depth, n, here.1, inl (refl, subst (λ q. IsSpared q n) (sym none) tt))
free_above x g k object zero y none there (inr shown) = inr (refl, (y, there, shown))

-- The cell that the left or right operand of a swap denotes.
pub record SpotAt (g : Typing) (w : World) (t : RunTy) (v : values.Value) : Type 0 where
  pub number : ℕ
  pub offset : ℕ
  pub of_type : ObjectType
  pub is : v ≡ values.Thin number offset
  pub there : slice_get g.objects number ≡ Some of_type
  pub cell : slice_get of_type.cells offset ≡ Some t
  pub opens : IsOpenObject g w.regions number of_type.life
  pub full : IsFilled g number (suc offset)
  pub free : IsFree g number of_type

module _ (p : Program) (g : Typing) (x : Exits) (bs : List InScope) (e : Environment) (w : World) (typed : IsTyped g w.regions w.objects) (globals : KnowsProgram g p) (bound : IsBound e.locals e.counters bs) (variables : AreVariables g bs) where
  cell_spot : (t : Ty) (l : Life) (place : values.Value) (k : List Entry) → AreOpen w.regions (ends_of k) → IsPresent g (ends_of k) l → IsHad g (thing_of (lives.Pointer marks.NonNull (read bs t) l) place) → is_struct t ≡ false → HasType g (lives.Pointer marks.NonNull (read bs t) l) place
      → SpotAt g w (read bs t) place
  cell_spot t l (values.Thin object offset) k opens lasting had plain (y, there, shown, outlasts, part) =
      let open' = life_of g w typed k object y l there opens outlasts lasting had in
      let (cell, full) = value_part (lives_in bs) g object y t offset plain part in
      record { number = object; offset = offset; of_type = y; is = refl; there = there; cell = cell; opens = open'; full = full; free = inr shown }
  cell_spot t l place k opens lasting had plain has = absurd has

  spot_at : (t : Ty) (f : flow.State) (v : values.Value) (k : List Entry) → AreOpen w.regions (ends_of k) → LiveIn k bs → Holds g f bs → is_struct t ≡ false → IsSpot p g bs t f v → SpotAt g w (read bs t) v
  spot_at t f v k opens live holds plain (of_local b among of_type set) =
      let y = local_type g.depth b in
      let there : slice_get g.objects b.object ≡ Some y = among_variable g among variables in
      let cell : slice_get y.cells 0 ≡ Some (read bs t) = ap (λ u. Some u) of_type in
      let lasts = among_live (ends_of k) among live.0 in
      let opens' : IsOpenObject g w.regions b.object b.life = open_object g w.regions b.object b.life (lasting_common (ends_of k) b.life lasts)
      (lasting_open w.regions (ends_of k) b.life opens typed.heap (kept_open g w.regions w.objects b.life typed (object_known g w.regions w.objects b.object y typed there) (among_open g among variables)) lasts) in
      let full : IsFilled g b.object 1 = among_set g f among holds.1 (full_set (fullness f b.number) set) in
      record {
        number = b.object;
        offset = 0;
        of_type = y;
        is = refl;
        there = there;
        cell = cell;
        opens = opens';
        full = full;
        free = inl (b.number, among_own g f among holds.1 set);
      }
  spot_at t f v k opens live holds plain (of_global number there same) =
      let (at, full, closed) = globals.globals number t there in
      record {
        number = number;
        offset = 0;
        of_type = global_type (lives.at as_heap t);
        is = refl;
        there = at;
        cell = ap (λ u. Some u) (sym same);
        opens = open_of w.regions (globals_among k) opens;
        full = full;
        free = inr refl;
      }
  spot_at t f v k opens live holds plain (of_cell place r alive has had) = cell_spot t (lives_in bs r) place k opens (there_present g (ends_of k) bs r live.0 variables alive) had plain has

  -- The cell that the left operand of a swap denotes is still valid after the right operand was evaluated.
  pub left_spot : (i : ℕ) (peek : Option ℕ) (t : Ty) (f : flow.State) (v : values.Value) → IsLeftSpot p g i peek bs t f v → IsSpot p g bs t f v
  left_spot i peek t f v (left_variable place is) = is g
  left_spot i peek t f v (left_cell place r alive has part) = of_cell place r alive has (part_had g i peek (thing_of (lives.Pointer marks.NonNull (read bs t) (lives_in bs r)) place) part)

  -- ---- both places are known

  pub both_on : (kind : Kind) (left right : values.Value) (t : Ty) (k : List Entry) (f : flow.State) → LiveIn k bs → Holds g f bs → kind ≡ values.kind_of t → is_struct t ≡ false
      → IsSpot p g bs t f left → IsSpot p g bs t f right → IsStack p g x bs (Go f) k → IsWell p (both_places kind left right k e w)
  both_on kind left right t k f live holds kind_is plain here there stack =
      running p g x bs e w typed globals bound variables (Swapping kind left right None) k live (t, f, holds, kind_is, plain, here, there, tt, stack)

  global_spot : (n : ℕ) (u t : Ty) (c : Context) (f : flow.State) → IsContext p x bs c → t ≡ u → slice_get c.globals n ≡ Some u → (h : Typing) → IsSpot p h bs t f (values.Thin n 0)
  global_spot n u t c f stands same there h =
      let found = ap (λ ts. slice_get ts n) (sym stands.globals) ∙ there ∙ ap (λ z. Some z) (sym same) in
      let (at, full, closed) = globals.globals n t found in
      of_global n found (global_means bs t closed)

  pub finds_right_on : (kind : Kind) (peek : Option ℕ) (is_cell : Bool) (left : values.Value) (right : Side) (c : Context) (t : Ty) (k : List Entry) (f h : flow.State) (q : List ℕ) → LiveIn k bs → IsContext p x bs c → Holds g f bs
      → kind ≡ values.kind_of t → is_struct t ≡ false → IsLeftSpot p g (operands_in k) peek bs t h left → IsSide c right t → Derives (rule_side q right f) h → AllKept (side_demanded q right h) → InSide (and_looked peek x.relied) right
      → IsStack p g x bs (Go h) k → IsWell p (finds_right kind peek is_cell left right k e w)
  finds_right_on kind peek is_cell left (VariableSide (Local place n) u) c t k f h q live stands holds kind_is plain here (r, (m, has, region, there), same) (unit, known) used kept stack =
      let (b, among, number, of_type) = bound_of (lives_in bs) c.locals bs n u m stands.scope (place_local c.locals n u m has) in
      let at : e.locals n ≡ Some b.object = ap e.locals (sym number) ∙ among_bound e among bound in
      let set : IsFullIn h b.number = subst (λ i. IsFullIn h i) (sym number) (used_full h n used.0 used.1.0) in
      subst (λ o. IsWell p (finds_right_object kind left o k e w)) (sym at)
      (both_on kind left (values.Thin b.object 0) t k h live (subst (λ z. Holds g z bs) (sym known) holds) kind_is plain (left_spot (operands_in k) peek t h left here) (of_local b among (of_type ∙ ap (read bs) (sym same)) set) stack)
  finds_right_on kind peek is_cell left (VariableSide (Global n) u) c t k f h q live stands holds kind_is plain here (r, (region, there), same) (unit, known) used kept stack =
      both_on kind left (values.Thin n 0) t k h live (subst (λ z. Holds g z bs) (sym known) holds) kind_is plain (left_spot (operands_in k) peek t h left here)
      (global_spot n u t c h stands same there g) stack
  finds_right_on kind peek is_cell left (CellSide d) c t k f h q live stands holds kind_is plain here (r, cell) flows used kept stack =
      running p g x bs e w typed globals bound variables (Locating d) (NeedsPlace (SwapRight kind peek is_cell left) ∷ k) live (
        c,
        t,
        r,
        f,
        h,
        stands,
        holds,
        record { waiting = q; typed = cell; flows = flows; kept = kept },
        (Go h, awaited.swaps_right (peek_after d) t r h (there_of p x bs c stands r (cell_live c d t r cell)) kind_is, (t, refl, plain, here), stack),
      )

  pub swap_on : (y z : Side) (c : Context) (t : Ty) (k : List Entry) (f f1 h : flow.State) (q : List ℕ) → LiveIn k bs → IsContext p x bs c → Holds g f bs → is_struct t ≡ false
      → IsSide c y t → Derives (rule_side [] y f) f1 → AllKept (side_demanded [] y h) → InSide x.relied y → (is_reached f1 ≡ true → Finds (and_looked (peeked_side y) x.relied) c z f1 t h) → IsStack p g x bs (Go h) k → IsWell p (swaps y z k e w)
  swap_on (VariableSide (Local place n) u) z c t k f f1 h q live stands holds plain (r, (m, has, region, there), same) (unit, known) used kept later stack =
      let finds = later (ap is_reached known ∙ holds.0) in
      let (b, among, number, of_type) = bound_of (lives_in bs) c.locals bs n u m stands.scope (place_local c.locals n u m has) in
      let at : e.locals n ≡ Some b.object = ap e.locals (sym number) ∙ among_bound e among bound in
      let set : IsFullIn h b.number = subst (λ i. IsFullIn h i) (sym number) (used_full h n used.0 used.1.0) in
      subst (λ o. IsWell p (finds_left_object (values.kind_of u) o z k e w)) (sym at)
      (finds_right_on (values.kind_of u) None false (values.Thin b.object 0) z c t k f1 h finds.waiting live stands (subst (λ i. Holds g i bs) (sym known) holds) (ap values.kind_of (sym same)) plain
      (left_variable (values.Thin b.object 0) (λ z. of_local b among (of_type ∙ ap (read bs) (sym same)) set)) finds.typed finds.flows finds.used finds.kept stack)
  swap_on (VariableSide (Global n) u) z c t k f f1 h q live stands holds plain (r, (region, there), same) (unit, known) used kept later stack =
      let finds = later (ap is_reached known ∙ holds.0) in
      finds_right_on (values.kind_of u) None false (values.Thin n 0) z c t k f1 h finds.waiting live stands (subst (λ i. Holds g i bs) (sym known) holds) (ap values.kind_of (sym same)) plain
      (left_variable (values.Thin n 0) (global_spot n u t c h stands same there)) finds.typed finds.flows finds.used finds.kept stack
  swap_on (CellSide d) z c t k f f1 h q live stands holds plain (r, cell) flows used kept finds stack =
      running p g x bs e w typed globals bound variables (Locating d) (NeedsPlace (SwapLeft (values.kind_of (type_of_place d)) (peeked d) z) ∷ k) live (
        c,
        t,
        r,
        f,
        f1,
        stands,
        holds,
        record { waiting = []; typed = cell; flows = flows; kept = kept },
        (
          Go h,
          subst (λ o. awaited.WaitsPlace p x (relied_at x.relied k) bs (SwapLeft (values.kind_of (type_of_place d)) (peeked d) z) o (read bs t) (lives_in bs r) f1 (Go h)) (peeked_so d)
              (awaited.swaps_left c t r f1 h (there_of p x bs c stands r (cell_live c d t r cell)) stands (ap values.kind_of (sym (place_type c d t r cell))) plain
              (λ reached. subst (λ o. Finds (and_looked o x.relied) c z f1 t h) (sym (peeked_so d)) (finds reached))),
          tt,
          stack,
        ),
      )

  -- ---- reading both places

  -- The cell of a swap that is read owns the resource that its own value represents.
  swap_content_on : (kind : Kind) (left right place : values.Value) (before : Option Operand) (t : Ty) (k : List Entry) (f : flow.State) → SpotAt g w (read bs t) place → kind ≡ values.kind_of t → IsStack p g x bs (Go f) k
      → ((v : values.Value) → HasType g (read bs t) v → ClaimsAt g.own place (read bs t) v → IsWell p (swap_read kind left right before v k e w)) → IsWell p (swap_loaded_at kind left right before place k e w)
  swap_content_on kind left right place before t k f s kind_is stack goes =
      let c = cell_there g w s.number s.offset (read bs t) s.of_type typed s.there s.cell s.opens in
      let (m, flag, enough) = s.full in
      let count : m ≡ c.filled = same_Some m c.filled (sym flag ∙ c.flag) in
      let (v, content, has) = c.of.content (let less : suc s.offset ≤ c.filled = omega (arith, count, enough) in less) in
      let kept = free_kept g s.number s.offset s.of_type (settled p g x bs (Go f) k stack) s.free in
      let claims : Claims g.own (At s.number s.offset) (read bs t) v = typed.owned s.number s.of_type c.object s.there c.there s.offset (read bs t) c.of.cell v kept s.cell c.of.at content in
      subst (λ z. IsWell p (swap_loaded_at kind left right before z k e w)) (sym s.is)
      (subst (λ a. IsWell p (swap_loaded kind left right before a k e w)) (sym c.found)
      (subst (λ (b : Bool). IsWell p (if b then swap_content kind left right before c.of.cell.content k e w else wrong w)) (sym (is_kind_same c.of.cell.kind kind (c.of.kind ∙ kind_meant (lives_in bs) t ∙ sym kind_is)))
      (subst (λ o. IsWell p (swap_content kind left right before o k e w)) (sym content)
      (goes v has (subst (λ z. ClaimsAt g.own z (read bs t) v) (sym s.is) claims)))))

  pub swapping_on : (kind : Kind) (left right : values.Value) (before : Option Operand) (t : Ty) (k : List Entry) (f : flow.State) → AreOpen w.regions (ends_of k) → LiveIn k bs → Holds g f bs → kind ≡ values.kind_of t
      → is_struct t ≡ false → IsSpot p g bs t f left → IsSpot p g bs t f right → IsRead g left (read bs t) before → IsStack p g x bs (Go f) k → IsWell p (step_swapping kind left right before k e w)
  swapping_on kind left right None t k f opens live holds kind_is plain here there read_is stack =
      swap_content_on kind left right left None t k f (spot_at t f left k opens live holds plain here) kind_is stack (λ v has claims.
      running p g x bs e w typed globals bound variables (Swapping kind left right (Some (record { kind = kind; value = v }))) k live
      (t, f, holds, kind_is, plain, here, there, ((kind_is ∙ sym (kind_meant (lives_in bs) t), has), claims), stack))
  swapping_on kind left right (Some u) t k f opens live holds kind_is plain here there (before, its) stack =
      let now = settled p g x bs (Go f) k stack in
      let stays : Stays g (record g { pending = Settled }) = record { grows = pending_grows g Settled; own = refl; here = refl; pending = sym now; depth = refl; loans = refl } in
      swap_content_on kind left right right (Some u) t k f (spot_at t f right k opens live holds plain there) kind_is stack (λ v has claims.
      running p g x bs e w typed globals bound variables (Writing (
      record { place = left; operand = record { kind = kind; value = v } }
      ∷ record { place = right; operand = u }
      ∷ []) None) k live
      (f, holds, (t, (plain, here, (kind_is ∙ sym (kind_meant (lives_in bs) t), has)), (plain, there, before), now, claims, its), stack_grown p g (record g { pending = Settled }) stays x bs (Go f) k stack))

  -- ---- writing both places

  -- The typing after a write of a swap: only the owners of resources (keys, unique pointers) and the record of the missing second write
  -- have changed.
  pub record IsNext (own : Thing → Holder) (pending : Pending) (h : Typing) : Type 0 where
    pub grows : Grows g h
    pub own_is : h.own ≡ own
    pub here : h.here ≡ g.here
    pub pending_is : h.pending ≡ pending
    pub depth : h.depth ≡ g.depth
    pub loans : h.loans ≡ g.loans

  writes_next : (v : Operand) (focus : Focus) (k : List Entry) (t : RunTy) (place : values.Value) (s : SpotAt g w t place) (own : Thing → Holder) (pending : Pending) → LiveIn k bs → IsResult g (Value t) v
      → ((a : Thing) → IsHeld (own a) → IsHeld (g.own a)) → ((a : Thing) → g.own a ≡ Nobody → own a ≡ Nobody)
      → ((object i : ℕ) → (object ≡ s.number → i ≢ s.offset) → pending ≢ Awaits object i → (a : Thing) → g.own a ≡ At object i → own a ≡ At object i)
      → ((object i : ℕ) → (object ≡ s.number → i ≢ s.offset) → g.pending ≢ Awaits object i) → (pending ≢ Awaits s.number s.offset → Claims own (At s.number s.offset) t v.value)
      → ((object j : ℕ) (a : Thing) → g.own a ≡ Lent j object → own a ≡ Lent j object) → AreVariables (record g { own = own; pending = pending }) bs → ((h : Typing) → IsNext own pending h → IsFocus p h x bs focus k) → IsWell p (stored_at place v focus k e w)
  writes_next v focus k t place s own pending live is held none stays before claims lasts known goes =
      let c = cell_there g w s.number s.offset t s.of_type typed s.there s.cell s.opens in
      let (m, flag, enough) = s.full in
      let count : m ≡ c.filled = same_Some m c.filled (sym flag ∙ c.flag) in
      let few : s.offset ≤ c.filled = omega (arith, count, enough) in
      let h : Typing = record (with_filled g s.number (risen s.offset c.filled)) { own = own; here = g.here; pending = pending } in
      let more = written_grows g w s.number s.offset s.of_type t v.value typed s.there s.cell c few is.1 in
      let grows : Grows g h = record { objects = more.objects; filled = more.filled; fields = more.fields; kept = more.kept } in
      let later : Stays (record g { own = own; pending = pending }) h = record { grows = record { objects = more.objects; filled = more.filled; fields = more.fields; kept = more.kept }; own = refl; here = refl; pending = refl; depth = refl; loans = refl } in
      subst (λ z. IsWell p (stored_at z v focus k e w)) (sym s.is)
      (subst (λ a. IsWell p (stored a s.number s.offset v focus k e w)) (sym c.found)
      (subst (λ (b : Bool). IsWell p (if b then Running focus k e (written w s.number s.offset (record { object = c.object; cell = c.of.cell }) v.value) else wrong w)) (sym (is_kind_same c.of.cell.kind v.kind (c.of.kind ∙ sym is.0)))
      (running p h x bs e (written w s.number s.offset (record { object = c.object; cell = c.of.cell }) v.value)
      (cell_written g w s.number s.offset s.of_type t v.value typed s.there s.cell c few is.1 own g.here pending held none (λ object i hidden apart kept a has. stays object i apart kept.1 a has)
      (λ object i hidden apart kept. (kept.0, before object i (λ same. absurd (apart same)))) (λ i u found apart kept. (kept.0, before s.number i (λ same. apart))) (λ kept. claims kept.1)
      (λ hides j away. free_not_away g s.number s.of_type s.free hides j away) (λ object j apart now. now) lasts)
      (globals_grown g h grows p (λ n ls. refl) globals) bound (variables_grown (record g { own = own; pending = pending }) h later bs known) focus k live
      (goes h (record { grows = grows; own_is = refl; here = refl; pending_is = refl; depth = refl; loans = refl })))))

  module _ (h : Typing) (own : Thing → Holder) (pending : Pending) (next : IsNext own pending h) where
    holds_next : (f : flow.State) → Holds g f bs → Holds h f bs
    holds_next f holds = holds_here g h next.grows next.depth f bs (λ n object full here. (ap (λ z. z object) next.here ∙ here.0, (here.1.0, next.grows.objects object here.1.0 here.1.1, here.1.2))) holds

    had_next : (o : Option Thing) → ((a : Thing) → IsHeld (g.own a) → IsHeld (own a)) → IsHad g o → IsHad h o
    had_next None all had = tt
    had_next (Some a) all had = subst (λ own. IsHeld (own a)) (sym next.own_is) (all a had)

    spot_next : (t : Ty) (f : flow.State) (v : values.Value) → ((a : Thing) → IsHeld (g.own a) → IsHeld (own a)) → IsSpot p g bs t f v → IsSpot p h bs t f v
    spot_next t f v all (of_local b among of_type is) = of_local b among of_type is
    spot_next t f v all (of_global number there means) = of_global number there means
    spot_next t f v all (of_cell place r alive has had) =
        of_cell place r alive (type_grown g h next.grows (lives.Pointer marks.NonNull (read bs t) (lives_in bs r)) place has) (had_next (thing_of (lives.Pointer marks.NonNull (read bs t) (lives_in bs r)) place) all had)

    stack_next : (f : flow.State) (k : List Entry) → IsStack p (record g { own = own; pending = Settled }) x bs (Go f) k → IsStack p (record h { pending = Settled }) x bs (Go f) k
    stack_next f k stack =
        let grows : Grows (record g { own = own; pending = Settled }) (record h { pending = Settled }) = record { objects = next.grows.objects; filled = next.grows.filled; fields = next.grows.fields; kept = next.grows.kept } in
        stack_grown p (record g { own = own; pending = Settled }) (record h { pending = Settled }) (record { grows = grows; own = next.own_is; here = next.here; pending = refl; depth = next.depth; loans = next.loans }) x bs (Go f) k stack

  -- The second write of a swap: the right operand's cell receives the old value of the left operand's cell.
  second_on : (two : Write) (k : List Entry) (f : flow.State) (t : Ty) → AreOpen w.regions (ends_of k) → LiveIn k bs → Holds g f bs → IsWrite p g bs f t two → IsAwaited g two.place → Claims g.own (Hand (operands_in k)) (read bs t) two.operand.value
      → IsStack p (record g { pending = Settled }) x bs (Go f) k → IsWell p (stored_at two.place two.operand (Writing [] None) k e w)
  second_on two k f t opens live holds (plain, spot, is) awaits claims stack =
      let s = spot_at t f two.place k opens live holds plain spot in
      let o = thing_of (read bs t) two.operand.value in
      let hand = Hand (operands_in k) in
      let right = At s.number s.offset in
      let old : g.pending ≡ Awaits s.number s.offset = subst (λ z. IsAwaited g z) s.is awaits in
      let still : Typing = record g { pending = Settled } in
      let changed : Changed hand still (giving still o right) = giving_changed still o hand right claims.0 in
      writes_next two.operand (Writing [] None) k (read bs t) two.place s (given o right g.own) Settled live is
      (λ a now. held_before g.own o hand right a claims.0 tt now) (λ a none. nobody_before g.own o hand right a claims.0 tt none)
      (λ object i apart kept a has. given_other g.own o hand right a claims.0 (λ e. at_no_hand object i (operands_in k) (sym has ∙ e)) ∙ has)
      (λ object i apart e. (let same = awaits_same s.number s.offset object i (sym old ∙ e) in apart (sym same.0) (sym same.1)))
      (λ kept. (given_now g.own o right, claims.1)) (λ object j a has. given_other g.own o hand right a claims.0 (λ e. lent_no_hand j object (operands_in k) (sym has ∙ e)) ∙ has) (variables_kept hand still (giving still o right) changed bs refl (variables_pending g Settled bs variables))
      (λ h next. (
        f,
        holds_next h (given o right g.own) Settled next f holds,
        next.pending_is,
        stack_next h (given o right g.own) Settled next f k
            (stack_by false p hand still (giving still o right) x bs (Go f) k (λ e object. refl) changed (let le : operands_in k ≤ operands_in k = omega arith in le) stack),
      ))

  -- The first write of a swap: the left operand's cell receives the right cell's value, and an operand on the stack holds the left
  -- cell's old value.
  first_on : (one two : Write) (k : List Entry) (f : flow.State) (t : Ty) → AreOpen w.regions (ends_of k) → LiveIn k bs → Holds g f bs → IsWrite p g bs f t one → IsWrite p g bs f t two → g.pending ≡ Settled
      → ClaimsAt g.own two.place (read bs t) one.operand.value → ClaimsAt g.own one.place (read bs t) two.operand.value → IsStack p (record g { pending = Settled }) x bs (Go f) k
      → IsWell p (stored_at one.place one.operand (Writing (two ∷ []) None) k e w)
  first_on one two k f t opens live holds (plain, here, is) (plain', there, its) settled claims_right claims_left stack =
      let l = spot_at t f one.place k opens live holds plain here in
      let r = spot_at t f two.place k opens live holds plain there in
      let o = thing_of (read bs t) one.operand.value in
      let q = thing_of (read bs t) two.operand.value in
      let hand = Hand (operands_in k) in
      let left = At l.number l.offset in
      let right = At r.number r.offset in
      let rights : Claims g.own right (read bs t) one.operand.value = subst (λ z. ClaimsAt g.own z (read bs t) one.operand.value) r.is claims_right in
      let lefts : Claims g.own left (read bs t) two.operand.value = subst (λ z. ClaimsAt g.own z (read bs t) two.operand.value) l.is claims_left in
      let both = given o left g.own in
      let both_left : Owns both left q = given_too g.own o q left lefts.0 in
      let own = given q hand both in
      let await = Awaits r.number r.offset in
      let still : Typing = record g { pending = Settled } in
      let waits : Typing = record g { pending = await } in
      let none = statement_relied p still x bs f k [] stack in
      let all : (a : Thing) → IsHeld (g.own a) → IsHeld (own a) = (λ a had. held_still both q hand a tt (held_still g.own o left a tt had)) in
      writes_next one.operand (Writing (two ∷ []) None) k (read bs t) one.place l own await live is
      (λ a now. held_before g.own o right left a rights.0 tt (held_before both q left hand a both_left tt now))
      (λ a nobody. nobody_before both q left hand a both_left tt (nobody_before g.own o right left a rights.0 tt nobody))
      (λ object i apart kept a has.
      (let other : g.own a ≢ right = (λ e. (let same = at_same object i r.number r.offset (sym has ∙ e) in kept (ap (λ n. Awaits n r.offset) (sym same.0) ∙ ap (λ n. Awaits object n) (sym same.1)))) in
      let first : both a ≡ At object i = given_other g.own o right left a rights.0 other ∙ has in
      given_other both q left hand a both_left (λ e. (let same = at_same object i l.number l.offset (sym first ∙ e) in apart same.0 same.1)) ∙ first))
      (λ object i apart. not_awaited g object i settled)
      (λ kept. (
        given_apart g.own both o q right left hand rights.0 lefts.0
            (λ e. (let same = at_same r.number r.offset l.number l.offset e in kept (ap (λ n. Awaits n r.offset) same.0 ∙ ap (λ n. Awaits l.number n) same.1))) (given_now g.own o left),
        rights.1,
      ))
      (λ object j a has.
      (let first : both a ≡ Lent j object = given_other g.own o right left a rights.0 (λ e. lent_not_at j object r.number r.offset (sym has ∙ e)) ∙ has in
      given_other both q left hand a both_left (λ e. lent_not_at j object l.number l.offset (sym first ∙ e)) ∙ first))
      (variables_kept left (giving waits o left) (giving (giving waits o left) q hand) (giving_changed (giving waits o left) q left hand both_left) bs refl
      (variables_kept right waits (giving waits o left) (giving_changed waits o right left rights.0) bs refl (variables_pending g await bs variables)))
      (λ h next. (
        f,
        holds_next h own await next f holds,
        (
          t,
          (plain', spot_next h own await next t f two.place all there, result_grown g h next.grows (Value (read bs t)) two.operand its),
          subst (λ z. IsAwaited h z) (sym r.is) next.pending_is,
          (subst (λ z. Owns z hand q) (sym next.own_is) (given_now both q hand), lefts.1),
        ),
        stack_next h own await next f k
            (stack_by false p left (giving still o left) (giving (giving still o left) q hand) x bs (Go f) k (λ e object. refl) (giving_changed (giving still o left) q left hand both_left)
            (free_above x (giving still o left) k l.number l.offset l.of_type none l.there l.free)
            (stack_by false p right still (giving still o left) x bs (Go f) k (λ e object. refl) (giving_changed still o right left rights.0) (free_above x still k r.number r.offset r.of_type none r.there r.free) stack)),
      ))

  pub swapped_on : (ws : List Write) (k : List Entry) (f : flow.State) → AreOpen w.regions (ends_of k) → LiveIn k bs → Holds g f bs → AreSwapped p g (operands_in k) bs f ws → IsStack p (record g { pending = Settled }) x bs (Go f) k
      → IsWell p (step_writing ws None k e w)
  swapped_on [] k f opens live holds settled stack =
      running p g x bs e w typed globals bound variables Proceeding k live (
        f,
        holds,
        stack_grown p (record g { pending = Settled }) g (record { grows = record { objects = λ n u is. is; filled = λ n count is. is; fields = λ n ls ts is. is; kept = λ n is. is }; own = refl; here = refl; pending = settled; depth = refl; loans = refl }) x bs (Go f) k stack,
      )
  swapped_on (two ∷ []) k f opens live holds (t, is, awaits, claims) stack = second_on two k f t opens live holds is awaits claims stack
  swapped_on (one ∷ two ∷ []) k f opens live holds (t, first, second, settled, rights, lefts) stack = first_on one two k f t opens live holds first second settled rights lefts stack
  swapped_on (one ∷ two ∷ three ∷ ws) k f opens live holds are stack = absurd are
