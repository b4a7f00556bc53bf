-- This file is about the creation of arrays: each element is evaluated while the loop counter has its index, and is then written.
use Rattle.std.proofs.Common.{◌≡◌, ◌≢◌, inl, inr, ℕ, zero, suc, ◌+◌, ◌*◌, ◌≤◌, ◌<◌, Bool, true, false, List, [], ◌∷◌, ◌++◌, length, map, set, reverse, Some, slice_get, refl, sym, ap, subst, ◌∙◌, arith}
use Rattle.std.specs.Prelude.{if◌then◌else◌, ◌==◌, nat_le}
use Rattle.std.proofs.lemmas.Bool.{eq-eqb, eqb-true}
use Rattle.cyc_syntax.specs.declared.tree.PointerKind.{PointerKind}
use Rattle.cyc_syntax.specs.declared.tree.PointerKind.TheVariants as marks
use Rattle.cyc_types.specs.declared.region.Region.TheVariants as regions
use Rattle.cyc_types.specs.declared.region.Region.{Region as Region'}
use Rattle.cyc_types.specs.declared.typed.Kind.{Kind}
use Rattle.cyc_types.specs.declared.typed.Kind.TheVariants as kinds
use Rattle.cyc_types.specs.Types.{Ty, substituted_ty}
use Rattle.cyc_types.specs.Types as types
use Rattle.cyc_types.specs.TypedTrees.{Expression, Initial, Plain, Fields, Array, Convert, Arguments, NoArguments, MoreArguments, Program}
use Rattle.cyc_types.specs.Rules.{Derives}
use Rattle.cyc_types.specs.typing.Tests as tests
use Rattle.std.proofs.lemmas.List.{length-set, length-map}
use Rattle.cyc_words.proofs.Numbers.{below_when_not_equal, same_or_other, below_or_last}
use Rattle.cyc_words.proofs.Lists.{slice_get_last}
use Rattle.cyc_words.proofs.Items.{slice_get-set_other, slice_get-set_same}
use Rattle.cyc_types.specs.typing.WellTyped.{Context, ArePassed, IsMade}
use Rattle.cyc_types.specs.typing.WellTyped as counting
use Rattle.cyc_types.specs.flow.States as flow
use Rattle.cyc_types.specs.flow.Expressions.{rule_initial, rule_arguments}
use Rattle.cyc_meaning.specs.Values.{Operand, Cell}
use Rattle.cyc_meaning.specs.Values as values
use Rattle.cyc_meaning.specs.State.{Region, Owner, InRegion, Unique, Object, World, Found, Closed, found_region, region_at, cell_at, heap_number, is_open, Environment, with_counter}
use Rattle.cyc_meaning.specs.State.{ConvertTo, MakePlain, MakeFields, MakeArray, FillElement, Write, Entry, Needs, Focus, Evaluating, Given, Writing, Beginning, Repeating, Throwing, Running}
use Rattle.cyc_meaning.specs.Objects.{made_in, made_unique, created_in, created}
use Rattle.cyc_meaning.specs.Parts.{target_by, wrong, stored, step_writing}
use Rattle.cyc_meaning.specs.Operators.{array_size}
use Rattle.cyc_meaning.specs.Allocation.{writes_from, blanks_of, filled, makes_of, makes_plain, makes_fields, most_words, blanks, begun, makes_array, step_beginning, step_repeating, fills_element, makes}
use Rattle.cyc_meaning.specs.inside.Nesting.{ends_of, AreOpen}
use Rattle.cyc_meaning.proofs.NestingLemmas.{open_region}
use Rattle.cyc_soundness.specs.inside.Lives.{at, Life, OfRegion, Kept, RunTy, Int, Pointer, Struct, Value, looked, kind_at, Owned}
use Rattle.cyc_soundness.specs.inside.Worlds.{KeyOf, PointerTo, Holder, Nobody, Hand, pointer_at, Owns, Claims, given, giving, IsOpenObject, IsNewOwner, IsAmong, IsHeld, IsKeyless}
use Rattle.cyc_soundness.specs.inside.Worlds.{AreKeyless, IsDynamic, ObjectType, Typing, Outlasts, IsFilled, IsTarget, HasType, IsResult, AreOperands, AreCells, IsObject, IsTyped, IsOpenLife, IsKnownOwner, life_at}
use Rattle.cyc_soundness.specs.inside.Frames.{first, later, InScope, Level, HasMeaning, IsBound, AreVariables, LiveIn, Holds, Implies, Exits, IsContext, KnowsProgram, lives_in, read, IsThere, life_named, lives_among}
use Rattle.cyc_soundness.specs.inside.Classes.{InInitial, InArguments}
use Rattle.cyc_soundness.specs.inside.Awaited.{Val, turned, AreClaimed, operands_in, AreFields, Repeats, IsArray, relied_at, AreGiven}
use Rattle.cyc_soundness.specs.inside.Awaited as awaited
use Rattle.cyc_soundness.specs.inside.Stacks.{AreNext, IsWhole, IsMaking, IsStack, IsFocus, IsWell, AreNextGiven}
use Rattle.cyc_soundness.proofs.flow.FlowLemmas.{at_least_implies, holds_implied}
use Rattle.cyc_soundness.proofs.types.TypeLemmas.{target_typed, is_kind_same, kind_read}
use Rattle.cyc_soundness.proofs.types.ValueLemmas.{lasts_itself}
use Rattle.cyc_soundness.proofs.states.WorldLemmas.{owner_grown, operands_grown, globals_grown, with_object, object_grows, object_stays, object_typed, typed_beside}
use Rattle.cyc_soundness.proofs.states.Hands.{Changed, hand_same, at_no_hand, given_now, at_some, changed_after, giving_changed, owns_kept, variables_kept, holds_kept, lent_no_hand}
use Rattle.cyc_soundness.proofs.states.StillHands.{given_typed}
use Rattle.cyc_soundness.proofs.states.CallHands.{hands_globals}
use Rattle.cyc_soundness.proofs.types.Sharing.{at_start, keeps_by, plain_keyless}
use Rattle.cyc_soundness.proofs.states.StackLemmas.{keeps_fields}
use Rattle.cyc_soundness.proofs.states.StackClaims.{stack_changed}
use Rattle.cyc_soundness.proofs.states.StackLocals.{kept_open, lasting_open}
use Rattle.cyc_soundness.proofs.types.RegionLemmas.{region_owner, there_open, agrees_of, there_lasting}
use Rattle.cyc_soundness.proofs.types.CallRegions.{fields_mean}
use Rattle.cyc_soundness.proofs.states.Cells.{running, part_at, stored_typing, stores_on}
use Rattle.cyc_soundness.proofs.steps.Objects.{operands_reversed, blank_cells, given_turned, past_hand, next_grown, next_one, next_claims, none_next, whole_grown, new_type, whole_of}
use Rattle.cyc_soundness.proofs.steps.Objects.{filled_up, whole_part, plain_each, AreEmpty, blanks_empty, all_empty, new_owned, made_open, new_is_owner, unheld_new, unheld_at, claimed_new, given_kept, next_given_kept}

abbrev repeated : ℕ → RunTy → List RunTy
repeated zero t = []
repeated (suc n) t = t ∷ repeated n t

keyless_repeated : (n : ℕ) (t : RunTy) → IsKeyless t → AreKeyless (repeated n t)
keyless_repeated zero t is = tt
keyless_repeated (suc n) t is = (is, keyless_repeated n t is)

repeated_at : (n : ℕ) (t : RunTy) (i : ℕ) → i < n → slice_get (repeated n t) i ≡ Some t
repeated_at zero t i less = absurd (omega (arith, less))
repeated_at (suc n) t zero less = refl
repeated_at (suc n) t (suc i) less = repeated_at n t i (let e : i < n = omega (arith, less) in e)

blanks_typed : (g : Typing) (n : ℕ) (kind : Kind) (t : RunTy) → kind ≡ kind_at t → AreCells g (repeated n t) (blanks n kind) 0
blanks_typed g zero kind t same = tt
blanks_typed g (suc n) kind t same = ((same, refl), blanks_typed g n kind t same)

-- The typing context inside an element expression of an array, where the loop counter of the array has a value.
context_counted : (p : Program) (x : Exits) (bs : List InScope) (c : Context) → IsContext p x bs c → IsContext p x (Level c.counters ∷ bs) (counting.with_counter c)
context_counted p x bs c stands = record {
  globals = stands.globals;
  functions = stands.functions;
  structs = stands.structs;
  result = stands.result;
  gives = stands.gives;
  loop = stands.loop;
  scope = (c.locals, refl, stands.scope);
  below = (tt, stands.below);
  counters = λ l less. elim (same_or_other l c.counters) [
    | inl same ↦ subst (λ i. IsAmong (Level i) (Level c.counters ∷ bs)) (sym same) (first bs)
    | inr apart ↦ later (Level c.counters) bs (stands.counters l (below l c.counters less apart))
  ];
  known = stands.known;
  regions = stands.regions;
  home = stands.home;
}
  where
    below : (l n : ℕ) → l < suc n → l ≢ n → l < n
    below l n less apart = elim (below_or_last l n less) [ inl is ↦ is | inr same ↦ absurd (apart same) ]

counter_new : (e : Environment) (level index : ℕ) → HasMeaning (with_counter e level index).locals (with_counter e level index).counters (Level level)
counter_new e level index = (index, ap (λ (b : Bool). if b then Some index else e.counters level) (eq-eqb level level refl))

counter_still : (e : Environment) (level index : ℕ) (b : InScope) → HasMeaning e.locals e.counters b → HasMeaning e.locals (with_counter e level index).counters b
counter_still e level index (Level l) (i, is) = go (l == level)
  where
    go : (b : Bool) → (j : ℕ) × ((if b then Some index else e.counters l) ≡ Some j)
    go true = (index, refl)
    go false = (i, is)
counter_still e level index b is = is

counter_more : (e : Environment) (level index : ℕ) (bs : List InScope) → IsBound e.locals e.counters bs → IsBound e.locals (with_counter e level index).counters bs
counter_more e level index [] are = tt
counter_more e level index (b ∷ bs) (is, are) = (counter_still e level index b is, counter_more e level index bs are)

module _ (p : Program) (g : Typing) (x : Exits) (bs : List InScope) (e : Environment) (w : World) (typed : IsTyped g w.regions w.objects) (globals : KnowsProgram g p) (bound : IsBound e.locals e.counters bs) (variables : AreVariables g bs) where
  -- a live region denotes an open lifetime
  pub open_life : (r : Region') (k : List Entry) → AreOpen w.regions (ends_of k) → LiveIn k bs → IsThere bs r → IsOpenLife w.regions (lives_in bs r)
  open_life regions.Heap k opens live alive = typed.heap
  open_life regions.Unique k opens live alive = tt
  open_life (regions.Variable n) k opens live alive = lasting_open w.regions (ends_of k) (life_named bs n) opens typed.heap
      (kept_open g w.regions w.objects (life_named bs n) typed (region_owner g bs (regions.Variable n) variables) (there_open g bs (regions.Variable n) variables alive))
      (there_lasting (ends_of k) bs (regions.Variable n) live.0 (λ e. let z : regions.Variable n ≡ regions.Unique = e in absurd (cc)) alive)

  -- ---- creating an object

  -- When an object is allocated in a region, the region stays open, and so do all other regions.
  still_open : (regions : List Region) (n m : ℕ) (r s : Region) → slice_get regions n ≡ Some r → s.is_open ≡ r.is_open → is_open (slice_get regions m) ≡ true → is_open (slice_get (set regions n s) m) ≡ true
  still_open regions n m r s at same opens = elim (same_or_other m n) [
    | inl one ↦ (let there : slice_get (set regions n s) m ≡ Some s = subst (λ i. slice_get (set regions n s) i ≡ Some s) (sym one) (slice_get-set_same regions n r s at) in
        let old : slice_get regions m ≡ Some r = ap (λ i. slice_get regions i) one ∙ at in
        ap is_open there ∙ same ∙ sym (ap is_open old) ∙ opens)
    | inr apart ↦ ap is_open (slice_get-set_other regions n m s apart) ∙ opens
  ]

  still_dynamic : (regions : List Region) (n m : ℕ) (r s : Region) → slice_get regions n ≡ Some r → s.sort ≡ r.sort → s.is_open ≡ r.is_open → IsDynamic (slice_get regions m) → IsDynamic (slice_get (set regions n s) m)
  still_dynamic regions n m r s at sort opens is = elim (same_or_other m n) [
    | inl one ↦ (let old : IsDynamic (Some r) = subst (λ z. IsDynamic z) at (subst (λ i. IsDynamic (slice_get regions i)) one is) in
        let there : slice_get (set regions n s) m ≡ Some s = subst (λ i. slice_get (set regions n s) i ≡ Some s) (sym one) (slice_get-set_same regions n r s at) in
        subst (λ z. IsDynamic z) (sym there) (sort ∙ old.0, opens ∙ old.1))
    | inr apart ↦ subst (λ z. IsDynamic z) (sym (slice_get-set_other regions n m s apart)) is
  ]

  -- Says that the heap and the dynamic regions are open.
  abbrev AreStill : List Region → Type 0
  AreStill regions = (is_open (slice_get regions heap_number) ≡ true) × ((number : ℕ) → IsAmong number g.kept → IsHeld (g.own (KeyOf number)) → IsDynamic (slice_get regions number)) × (length w.regions ≤ length regions)

  made_there : (n : ℕ) (cells : List Cell) → is_open (slice_get w.regions n) ≡ true
      → (new : World) × (created_in w n (region_at w n) cells ≡ Found new) × (new.objects ≡ w.objects ++ record { owner = InRegion n; cells = cells } ∷ []) × AreStill new.regions
  made_there n cells is =
      let (r, at, opens) = open_region (slice_get w.regions n) is in
      let found : region_at w n ≡ Found r = ap found_region at ∙ ap (λ (b : Bool). if b then Found r else Closed) opens in
      let new = made_in w n r cells in
      let still : AreStill new.regions = (still_open w.regions n heap_number r _ at refl typed.heap, λ m among held. still_dynamic w.regions n m r _ at refl refl ((typed.kept m among).1 held), (let same : length new.regions ≡ length w.regions = length-set w.regions n _ in let few : length w.regions ≤ length new.regions = omega (arith, same) in few)) in
      (new, ap (λ a. created_in w n a cells) found, refl, still)

  -- The heap state with one more object, whose cells are empty.
  created_there : (owner : Owner) (cells : List Cell) (l : Life) → IsNewOwner l owner → IsOpenLife w.regions l
      → (new : World) × (created w owner cells ≡ Found new) × (new.objects ≡ w.objects ++ record { owner = owner; cells = cells } ∷ []) × AreStill new.regions
  created_there (InRegion n) cells (OfRegion region ns us) owned opens' = made_there n cells (subst (λ i. is_open (slice_get w.regions i) ≡ true) owned opens')
  created_there (InRegion n) cells (Kept (PointerTo object)) owned opens' = absurd owned
  created_there (InRegion n) cells (Kept (KeyOf region)) owned opens' = made_there n cells (subst (λ i. is_open (slice_get w.regions i) ≡ true) owned opens')
  created_there (Unique true) cells l owned opens = (made_unique w cells, refl, refl, (typed.heap, (λ n among. (typed.kept n among).1), (let few : length w.regions ≤ length w.regions = omega arith in few)))
  created_there (Unique false) cells l owned opens = absurd owned
  created_there (InRegion n) cells Owned owned opens = absurd owned

  -- The typing of the heap state with one more object; an operand holds the pointer to the new object.
  abbrev new_world : List RunTy → Life → (hand : ℕ) → Typing
  new_world ts l i = giving (with_object g (new_type ts l) 0) (pointer_at l (length w.objects)) (Hand i)

  made_on : (owner : Owner) (l : Life) (new : World) (ts : List RunTy) (cells : List Cell) (focus : Focus) (k : List Entry) (i : ℕ) → LiveIn k bs → IsNewOwner l owner → IsKnownOwner g l → AreKeyless ts → AreEmpty cells → ((h : Typing) → AreCells h ts cells 0)
      → new.objects ≡ w.objects ++ record { owner = owner; cells = cells } ∷ [] → AreStill new.regions
      → (Changed Nobody g (new_world ts l i) → slice_get (new_world ts l i).objects (length w.objects) ≡ Some (new_type ts l) → IsFilled (new_world ts l i) (length w.objects) 0 → Owns (new_world ts l i).own (Hand i) (pointer_at l (length w.objects))
      → IsFocus p (new_world ts l i) x bs focus k)
      → IsWell p (Running focus k e new)
  made_on owner l new ts cells focus k i live owned known keyless empty blanks_are objects_are still goes =
      let t = new_type ts l in
      let n = length w.objects in
      let one = with_object g t 0 in
      let h = new_world ts l i in
      let none = unheld_new g w.regions w.objects typed in
      let changed : Changed Nobody g h = changed_after Nobody g (giving g (pointer_at l n) (Hand i)) h (giving_changed g (pointer_at l n) Nobody (Hand i) (unheld_at g l n none)) (object_stays (giving g (pointer_at l n) (Hand i)) t 0) in
      let grows = object_grows g t 0 in
      let made : Object = record { owner = owner; cells = cells } in
      let is : IsObject one 0 t made = record { owner = new_is_owner l owner owned; known = owner_grown g one grows l known; keyless = λ shown. keyless; cells = blanks_are one } in
      let first' : IsTyped one w.regions (w.objects ++ made ∷ []) = object_typed g w.regions w.objects t 0 made g.here typed is (λ object s apart here. here) (new_owned one n t cells empty) (λ j away hides. let z : false ≡ true = hides in absurd (cc)) in
      let there = subst (λ n. slice_get h.objects n ≡ Some t) (sym typed.count) (slice_get_last g.objects t) in
      let flag = subst (λ n. slice_get h.filled n ≡ Some 0) (sym typed.counts) (slice_get_last g.filled 0) in
      let second : IsTyped h w.regions (w.objects ++ made ∷ []) = claimed_new one l n (Hand i) t made w.regions (w.objects ++ made ∷ []) owned refl none there (slice_get_last w.objects made) first' in
      let beside : IsTyped h w.regions new.objects = subst (λ os. IsTyped h w.regions os) (sym objects_are) second in
      running p h x bs e new (typed_beside h w.regions new.regions new.objects beside still.0 (λ m among held. still.1 m among (kept_before l n (Hand i) m held)) still.2) (globals_grown g h changed.grows p (λ n ls. refl) globals) bound (variables_kept Nobody g h changed bs refl variables) focus k live
      (goes changed there (0, flag, (let few : 0 ≤ 0 = omega arith in few)) (given_now one.own (pointer_at l n) (Hand i)))
    where
      kept_before : (l : Life) (n : ℕ) (new : Holder) (m : ℕ) → IsHeld (given (pointer_at l n) new g.own (KeyOf m)) → IsHeld (g.own (KeyOf m))
      kept_before (OfRegion number ns us) n new m held = held
      kept_before (Kept region) n new m held = held
      kept_before Owned n new m held = held

  -- Facts about locals stay true in a heap state with one more object.
  holds_made : (h : Typing) (f : flow.State) → Changed Nobody g h → Holds g f bs → Holds h f bs
  holds_made h f changed holds = holds_kept Nobody g h changed f bs (λ n object full here. at_some object 0) holds

  pub makes_these : (owner : Owner) (ts : List RunTy) (vs : List Operand) (t : RunTy) (r : Region') (k : List Entry) (f : flow.State) → AreOpen w.regions (ends_of k) → LiveIn k bs → Holds g f bs → IsThere bs r
      → IsNewOwner (lives_in bs r) owner → AreKeyless ts → AreOperands g ts vs → AreGiven g.own (operands_in k) ts vs → IsWhole g (new_type ts (lives_in bs r)) t → IsStack p g x bs (Val (Value (Pointer marks.NonNull t (lives_in bs r))) f) k
      → IsWell p (makes_of owner vs k e w)
  makes_these owner ts vs t r k f all_open live holds alive owned keyless are claims whole stack =
      let l = lives_in bs r in
      let (new, found, objects_are, opens) = created_there owner (blanks_of vs) l owned (open_life r k all_open live alive) in
      let top = operands_in k + length vs in
      let h = new_world ts l top in
      let handed : Operand = record { kind = kinds.NonNull; value = values.Thin (length w.objects) 0 } in
      subst (λ a. IsWell p (filled a (length w.objects) vs k e w)) (sym found)
      (made_on owner l new ts (blanks_of vs) (Writing (writes_from (length w.objects) 0 vs) (Some handed)) k top live owned (region_owner g bs r variables) keyless (blanks_empty vs) (λ h. blank_cells g h ts vs are) objects_are opens
      (λ changed there none has. (
        t,
        r,
        f,
        holds_made h f changed holds,
        alive,
        record {
          object = length w.objects;
          offset = 0;
          operands = vs;
          of_type = new_type ts l;
          these = refl;
          handed = refl;
          there = there;
          shown = refl;
          life = refl;
          filled = none;
          rest = operands_grown g h changed.grows ts vs are;
          whole = whole_grown g h changed.grows (new_type ts l) t whole;
          place = operands_in k;
          least = (let le : operands_in k ≤ operands_in k = omega arith in le);
          given = given_kept Nobody g h changed (operands_in k) ts vs (λ i less e. let z : Hand i ≡ Nobody = e in absurd (cc)) claims;
          owned = has;
        },
        stack_changed p Nobody g h x bs (Val (Value (Pointer marks.NonNull t l)) f) k changed tt stack,
      )))

  -- ---- creating an array and evaluating its elements

  pub begin_array : (owner : Owner) (count level : ℕ) (kind : Kind) (element : Expression) (k : List Entry) (c : Context) (t : Ty) (r : Region') (f : flow.State) → AreOpen w.regions (ends_of k) → LiveIn k bs
      → IsContext p x bs c → Holds g f bs → IsThere bs r → IsNewOwner (lives_in bs r) owner
      → Repeats (relied_at x.relied k) c level kind element t f → IsStack p g x bs (Val (Value (Pointer marks.Fat (read bs t) (lives_in bs r))) f) k → IsWell p (step_beginning owner count level kind element k e w)
  begin_array owner count level kind element k c t r f all_open live stands holds alive owned repeats stack =
      let l = lives_in bs r in
      let (new, found, objects_are, opens) = created_there owner (blanks count kind) l owned (open_life r k all_open live alive) in
      let ts = repeated count (read bs t) in
      let h = new_world ts l (operands_in k) in
      subst (λ a. IsWell p (begun a (length w.objects) count level kind element k e w)) (sym found)
      (made_on owner l new ts (blanks count kind) (Repeating (length w.objects) count 0 level kind element) k (operands_in k) live owned (region_owner g bs r variables) (keyless_repeated count (read bs t) (plain_keyless (lives_in bs) t repeats.plain)) (all_empty count kind)
      (λ h. blanks_typed h count kind (read bs t) (repeats.kind_is ∙ sym (kind_read (lives_in bs) t))) objects_are opens
      (λ changed there none has. (
        c,
        t,
        r,
        f,
        stands,
        holds_made h f changed holds,
        alive,
        repeats,
        (new_type ts l, there, refl, refl, repeated_at count (read bs t), none, (let few : 0 ≤ count = omega arith in few)),
        has,
        stack_changed p Nobody g h x bs (Val (Value (Pointer marks.Fat (read bs t) (lives_in bs r))) f) k changed tt stack,
      )))

  last : (t : RunTy) (l : Life) (object count index : ℕ) → IsArray g t l object count index → index ≤ count
  last t l object count index (y, there, shown, life, cells, some, few) = few

  -- The value of an array whose elements are all filled has the type of a fat pointer.
  array_whole : (t : RunTy) (l : Life) (object count : ℕ) → IsArray g t l object count count → HasType g (Pointer marks.Fat t l) (values.Fat object 0 count 0)
  array_whole t l object count (y, there, shown, life, cells, all, few) i less =
      let same : i ≡ 0 + i = omega arith in
      let some : IsFilled g object (suc i) = filled_up g object (suc i) count (let le : suc i ≤ count = omega (arith, less) in le) all in
      subst (λ n. IsTarget g t l object n) same
      (y, there, shown, subst (λ m. Outlasts (life_at object m) l) (sym life) (lasts_itself object l), part_at g w typed object y t i there (cells i less) some)

  pub repeat_on : (object count index level : ℕ) (kind : Kind) (element : Expression) (k : List Entry) (c : Context) (t : Ty) (r : Region') (f : flow.State) → AreOpen w.regions (ends_of k) → LiveIn k bs → IsContext p x bs c
      → Holds g f bs → IsThere bs r → Repeats (relied_at x.relied k) c level kind element t f → IsArray g (read bs t) (lives_in bs r) object count index → Owns g.own (Hand (operands_in k)) (pointer_at (lives_in bs r) object)
      → IsStack p g x bs (Val (Value (Pointer marks.Fat (read bs t) (lives_in bs r))) f) k → IsWell p (step_repeating object count index level kind element k e w)
  repeat_on object count index level kind element k c t r f all_open live stands holds alive repeats array has stack = go (index == count) refl
    where
      go : (b : Bool) → (index == count) ≡ b
          → IsWell p (if b then Running (Given (record { kind = kinds.Fat; value = values.Fat object 0 count 0 })) k e w
          else Running (Evaluating element) (Needs (FillElement object count index level kind element) ∷ k) (with_counter e level index) w)
      go true same =
          running p g x bs e w typed globals bound variables (Given (record { kind = kinds.Fat; value = values.Fat object 0 count 0 })) k live (
            Value (Pointer marks.Fat (read bs t) (lives_in bs r)),
            f,
            holds,
            (refl, array_whole (read bs t) (lives_in bs r) object count (subst (λ n. IsArray g (read bs t) (lives_in bs r) object count n) (eqb-true index count same) array)),
            (has, at_start (lives_in bs r)),
            stack,
          )
      go false other =
          running p g x (Level level ∷ bs) (with_counter e level index) w typed globals (counter_new e level index, counter_more e level index bs bound) (tt, variables)
          (Evaluating element) (Needs (FillElement object count index level kind element) ∷ k) ((tt, live.0), live.1) (
            counting.with_counter c,
            types.Value t,
            f,
            repeats.now,
            subst (λ l. IsContext p x (Level l ∷ bs) (counting.with_counter c)) (sym repeats.level_is) (context_counted p x bs c stands),
            (holds.0, (tt, holds.1)),
            repeats.each,
            subst (λ o. IsStack p g x (Level level ∷ bs) (Val (looked o (Value (read bs t))) repeats.now) (Needs (FillElement object count index level kind element) ∷ k)) (sym repeats.taken) (
              Pointer marks.Fat (read bs t) (lives_in bs r) ∷ [],
              bs,
              Val (Value (Pointer marks.Fat (read bs t) (lives_in bs r))) f,
              awaited.fills bs c t r f repeats.now refl alive stands repeats repeats.back,
              (below_when_not_equal index count (last (read bs t) (lives_in bs r) object count index array) other, array, has),
              stack,
            ),
          )

  pub array_on : (owner : Owner) (level : ℕ) (kind : Kind) (element : Expression) (v : values.Value) (k : List Entry) (c : Context) (t : Ty) (r : Region') (f : flow.State) → LiveIn k bs → IsContext p x bs c → Holds g f bs → IsThere bs r
      → IsNewOwner (lives_in bs r) owner → Repeats (relied_at x.relied k) c level kind element t f → HasType g Int v → IsStack p g x bs (Val (Value (Pointer marks.Fat (read bs t) (lives_in bs r))) f) k → IsWell p (makes_array owner level kind element v k e w)
  array_on owner level kind element (values.Int count) k c t r f live stands holds alive owned repeats is stack = go (nat_le (values.words_for (count * values.bytes_of_kind kind)) most_words)
    where
      go : (b : Bool) → IsWell p (if b then Running (Beginning owner count level kind element) k e w else Running (Throwing array_size 0) k e w)
      go true = running p g x bs e w typed globals bound variables (Beginning owner count level kind element) k live (c, t, r, f, stands, holds, alive, owned, repeats, stack)
      go false = running p g x bs e w typed globals bound variables (Throwing array_size 0) k live (Val (Value (Pointer marks.Fat (read bs t) (lives_in bs r))) f, stack)
  array_on owner level kind element v k c t r f live stands holds alive owned repeats is stack = absurd is

  -- The next array element is written, and the loop counter of the array leaves the scope.
  pub fill_on : (object count index level : ℕ) (kind : Kind) (element : Expression) (v : Operand) (k : List Entry) (c : Context) (t : Ty) (r : Region') (f h : flow.State) → AreOpen w.regions (ends_of k) → LiveIn k bs → IsThere bs r
      → IsContext p x bs c → Holds g h bs → Repeats (relied_at x.relied k) c level kind element t f → Implies h f → index < count → IsArray g (read bs t) (lives_in bs r) object count index → Owns g.own (Hand (operands_in k)) (pointer_at (lives_in bs r) object) → IsResult g (Value (read bs t)) v
      → Claims g.own (Hand (1 + operands_in k)) (read bs t) v.value → IsStack p g x bs (Val (Value (Pointer marks.Fat (read bs t) (lives_in bs r))) f) k
      → IsWell p (fills_element object count index level kind element v k e w)
  fill_on object count index level kind element v k c t r f h all_open live alive stands holds repeats back less (y, there, shown, life, cells, (m, flag, enough), few) has is comes stack =
      let i = 1 + operands_in k in
      let focus = Repeating object count (suc index) level kind element in
      let u = stored_typing p g x bs e w typed globals bound variables v focus k object index m i (read bs t) y g.here in
      let opens : IsOpenObject g w.regions object y.life = subst (λ l. IsOpenObject g w.regions object l) (sym life) (made_open g w.regions object (operands_in k) (lives_in bs r) (open_life r k all_open live alive) has) in
      subst (λ (b : Bool). IsWell p (if b then stored (cell_at w object index) object index v focus k e w else wrong w))
      (sym (is_kind_same v.kind kind (is.0 ∙ kind_read (lives_in bs) t ∙ sym repeats.kind_is)))
      (stores_on p g x bs e w typed globals bound variables v focus k object index m i (read bs t) y
      live there (cells index less) opens flag enough shown is comes
      (λ changed now. (
        c,
        t,
        r,
        f,
        stands,
        holds_kept (Hand i) g u changed f bs (λ n other s here. at_no_hand other 0 i) (holds_implied g h f bs back holds),
        alive,
        repeats,
        (y, there, shown, life, cells, now, (let e : suc index ≤ count = omega (arith, less) in e)),
        owns_kept (Hand i) g u changed (Hand (operands_in k)) (pointer_at (lives_in bs r) object) (λ e. let same : operands_in k ≡ i = hand_same (operands_in k) i e in absurd (omega (arith, same))) has,
        stack_changed p (Hand i) g u x bs (Val (Value (Pointer marks.Fat (read bs t) (lives_in bs r))) f) k changed (let le : operands_in k ≤ i = omega arith in le) stack,
      )))

  -- ---- writing the cells of an object

  write_from : (object offset place : ℕ) (vs : List Operand) (y : ObjectType) (t : RunTy) (r : Region') (k : List Entry) (f : flow.State) → AreOpen w.regions (ends_of k) → LiveIn k bs → Holds g f bs → IsThere bs r
      → slice_get g.objects object ≡ Some y → y.is_hidden ≡ false → y.life ≡ lives_in bs r → IsFilled g object offset → AreNext g offset y.cells vs → IsWhole g y t → operands_in k ≤ place → AreNextGiven g.own place offset y.cells vs
      → Owns g.own (Hand (place + length vs)) (pointer_at (lives_in bs r) object) → IsStack p g x bs (Val (Value (Pointer marks.NonNull t (lives_in bs r))) f) k
      → IsWell p (step_writing (writes_from object offset vs) (Some (record { kind = kinds.NonNull; value = values.Thin object 0 })) k e w)
  write_from object offset place [] y t r k f all_open live holds alive there shown life full rest whole least given' has stack =
      let l = lives_in bs r in
      let o = pointer_at l object in
      let top = Hand (place + 0) in
      let hand = Hand (operands_in k) in
      let h = giving g o hand in
      let changed : Changed top g h = giving_changed g o top hand has in
      let all : IsFilled g object (length y.cells) = filled_up g object (length y.cells) offset (none_next g offset y.cells rest) full in
      running p h x bs e w (given_typed g o top hand w.regions w.objects has tt (λ n i. at_no_hand n i (place + 0)) (λ n i. lent_no_hand i n (place + 0)) typed) (hands_globals p g (given o hand g.own) g.here globals) bound (variables_kept top g h changed bs refl variables)
      (Given (record { kind = kinds.NonNull; value = values.Thin object 0 })) k live (
        Value (Pointer marks.NonNull t l),
        f,
        holds_kept top g h changed f bs (λ n other s here. at_no_hand other 0 (place + 0)) holds,
        (refl, (y, there, shown, subst (λ m. Outlasts (life_at object m) l) (sym life) (lasts_itself object l), whole_part h object y t (whole_grown g h changed.grows y t whole) all)),
        (given_now g.own o hand, at_start l),
        stack_changed p top g h x bs (Val (Value (Pointer marks.NonNull t l)) f) k changed (let le : operands_in k ≤ place + 0 = omega (arith, least) in le) stack,
      )
  write_from object offset place (v ∷ vs) y t r k f all_open live holds alive there shown life (m, flag, enough) rest whole least given' has stack =
      let (u, at, is, following) = next_one g offset y.cells v vs rest in
      let (claims, later') = next_claims g.own g place offset y.cells v vs u at given' in
      let handed : Operand = record { kind = kinds.NonNull; value = values.Thin object 0 } in
      let focus = Writing (writes_from object (suc offset) vs) (Some handed) in
      let h = stored_typing p g x bs e w typed globals bound variables v focus k object offset m place u y g.here in
      let l = lives_in bs r in
      let o = pointer_at l object in
      let same : place + suc (length vs) ≡ suc place + length vs = omega arith in
      stores_on p g x bs e w typed globals bound variables v focus k object offset m place u y live there at
      (subst (λ m. IsOpenObject g w.regions object m) (sym life) (made_open g w.regions object (place + suc (length vs)) l (open_life r k all_open live alive) has)) flag enough shown is claims
      (λ changed now. (
        t,
        r,
        f,
        holds_kept (Hand place) g h changed f bs (λ n other s here. at_no_hand other 0 place) holds,
        alive,
        record {
          object = object;
          offset = suc offset;
          operands = vs;
          of_type = y;
          these = refl;
          handed = refl;
          there = there;
          shown = shown;
          life = life;
          filled = now;
          rest = next_grown g h changed.grows (suc offset) y.cells vs following;
          whole = whole_grown g h changed.grows y t whole;
          place = suc place;
          least = (let le : operands_in k ≤ suc place = omega (arith, least) in le);
          given = next_given_kept (Hand place) g h changed (suc place) (suc offset) y.cells vs (λ i most. past_hand place (suc place) i (let e : place < suc place = omega arith in e) most) later';
          owned = owns_kept (Hand place) g h changed (Hand (suc place + length vs)) o (λ e. let z : suc place + length vs ≡ place = hand_same (suc place + length vs) place e in absurd (omega (arith, z))) (subst (λ i. Owns g.own (Hand i) o) same has);
        },
        stack_changed p (Hand place) g h x bs (Val (Value (Pointer marks.NonNull t l)) f) k changed least stack,
      ))

  pub write_on : (these : List Write) (v : Operand) (t : RunTy) (r : Region') (k : List Entry) (f : flow.State) → AreOpen w.regions (ends_of k) → LiveIn k bs → Holds g f bs → IsThere bs r → IsMaking g (operands_in k) these v t (lives_in bs r) → IsStack p g x bs (Val (Value (Pointer marks.NonNull t (lives_in bs r))) f) k
      → IsWell p (step_writing these (Some v) k e w)
  write_on these v t r k f all_open live holds alive m stack =
      subst (λ ws. IsWell p (step_writing ws (Some v) k e w)) (sym m.these)
      (subst (λ z. IsWell p (step_writing (writes_from m.object m.offset m.operands) (Some z) k e w)) (sym m.handed)
      (write_from m.object m.offset m.place m.operands m.of_type t r k f all_open live holds alive m.there m.shown m.life m.filled m.rest m.whole m.least m.given m.owned stack))

  -- ---- all forms

  pub plain_on : (owner : Owner) (kind : Kind) (v : Operand) (t : Ty) (r : Region') (k : List Entry) (f : flow.State) → IsKeyless (read bs t) → AreOpen w.regions (ends_of k) → LiveIn k bs → Holds g f bs → IsThere bs r → IsNewOwner (lives_in bs r) owner → kind ≡ tests.kind_of t
      → IsResult g (Value (read bs t)) v → Claims g.own (Hand (operands_in k)) (read bs t) v.value → IsStack p g x bs (Val (Value (Pointer marks.NonNull (read bs t) (lives_in bs r))) f) k → IsWell p (makes_plain owner kind v k e w)
  plain_on owner kind v t r k f plain all_open live holds alive owned kind_is is claims stack =
      subst (λ (b : Bool). IsWell p (if b then makes_of owner (v ∷ []) k e w else wrong w)) (sym (is_kind_same v.kind kind (is.0 ∙ kind_read (lives_in bs) t ∙ sym kind_is)))
      (makes_these owner (read bs t ∷ []) (v ∷ []) (read bs t) r k f all_open live holds alive owned (plain, tt) (is, tt) (claims, tt) (whole_of g (lives_in bs r) (read bs t) v.value is.1) stack)

  pub fields_on : (k : List Entry) (owner : Owner) (before : List Operand) (done : List RunTy) (as' : Arguments) (ts : List Ty) (c : Context) (n : ℕ) (ls : List Life) (r : Region') (f h : flow.State) (q : List ℕ)
      → AreOpen w.regions (ends_of k) → LiveIn k bs → IsContext p x bs c → Holds g f bs → IsThere bs r → IsNewOwner (lives_in bs r) owner → ArePassed c ts as' → Derives (rule_arguments q as' f) h → InArguments (relied_at x.relied k) as' → AreOperands g done before
      → AreClaimed g.own (operands_in k) done before → AreFields p n ls (turned done (map (read bs) ts)) → IsStack p g x bs (Val (Value (Pointer marks.NonNull (Struct n ls) (lives_in bs r))) h) k → IsWell p (makes_fields owner before as' k e w)
  fields_on k owner before done NoArguments [] c n ls r f h q all_open live stands holds alive owned passed (u, same) kept operands claims (s, at, count, fields, keyless) stack =
      makes_these owner (turned done []) (reverse before) (Struct n ls) r k h all_open live (subst (λ z. Holds g z bs) (sym same) holds) alive owned keyless (operands_reversed g done before operands) (given_turned g (operands_in k) done [] before [] operands claims tt)
      (globals.structs n s ls at count ∙ ap (λ us. Some us) (sym fields)) stack
  fields_on k owner before done NoArguments (t ∷ ts) c n ls r f h q all_open live stands holds alive owned passed flows kept operands claims fields stack = absurd passed
  fields_on k owner before done (MoreArguments d as') [] c n ls r f h q all_open live stands holds alive owned passed flows kept operands claims fields stack = absurd passed
  fields_on k owner before done (MoreArguments (Convert from to a) as') (t ∷ ts) c n ls r f h q all_open live stands holds alive owned ((v, well, conv, from_is, to_is), passed) (f1, d, ds) (one, kept) operands claims fields stack =
      running p g x bs e w typed globals bound variables (Evaluating a) (Needs (ConvertTo from to (target_by a)) ∷ Needs (MakeFields owner before as') ∷ k) live (
        c,
        v,
        f,
        f1,
        stands,
        holds,
        record { waiting = q; typed = inl well; flows = d; kept = one },
        (
          [],
          bs,
          Val (Value (read bs t)) f1,
          awaited.converts c v t f1 (agrees_of p x bs c stands) (keeps_by g bs variables c.regions stands.regions) conv from_is to_is (target_typed c a v (inl well)),
          tt,
          (
            done,
            bs,
            Val (Value (Pointer marks.NonNull (Struct n ls) (lives_in bs r))) h,
            awaited.makes_fields c done t ts n ls r f1 h alive owned stands (record { waiting = q; typed = passed; flows = ds; kept = kept }) fields,
            keeps_fields g (operands_in k) owner before as' done operands claims,
            stack,
          ),
        ),
      )

  pub makes_on : (i : Initial) (owner : Owner) (k : List Entry) (c : Context) (m : PointerKind) (t : Ty) (r : Region') (f h : flow.State) (q : List ℕ) → AreOpen w.regions (ends_of k) → LiveIn k bs → IsContext p x bs c → Holds g f bs → IsThere bs r
      → IsNewOwner (lives_in bs r) owner → IsMade c i m t → Derives (rule_initial q i f) h → InInitial (relied_at x.relied k) i → IsStack p g x bs (Val (Value (Pointer m (read bs t) (lives_in bs r))) h) k → IsWell p (makes owner i k e w)
  makes_on (Plain kind a) owner k c m t r f h q all_open live stands holds alive owned (well, keyless, kind_is, mark) flows kept stack =
      running p g x bs e w typed globals bound variables (Evaluating a) (Needs (MakePlain owner kind) ∷ k) live (
        c,
        types.Value t,
        f,
        h,
        stands,
        holds,
        record { waiting = q; typed = inl well; flows = flows; kept = kept },
        (
          [],
          bs,
          Val (Value (Pointer marks.NonNull (read bs t) (lives_in bs r))) h,
          awaited.makes_plain t r h (plain_keyless (lives_in bs) t keyless) alive owned kind_is,
          tt,
          subst (λ z. IsStack p g x bs (Val (Value (Pointer z (read bs t) (lives_in bs r))) h) k) mark stack,
        ),
      )
  makes_on (Fields as') owner k c m t r f h q all_open live stands holds alive owned (n, rs, s, at, count, passed, t_is, mark) flows kept stack =
      let there : slice_get p.structs n ≡ Some s = ap (λ ss. slice_get ss n) (sym stands.structs) ∙ at in
      let ls = map (lives_in bs) rs in
      let enough : length ls ≡ s.parameters = length-map rs (lives_in bs) ∙ count in
      let means = fields_mean bs rs s count (λ field u found. globals.fields n s there field u found) in
      let keyless : AreKeyless (map (read bs) (map (substituted_ty rs) s.fields)) = subst (λ us. AreKeyless us) (sym means) (plain_each (lives_among ls) s.fields (globals.plain n s there)) in
      fields_on k owner [] [] as' (map (substituted_ty rs) s.fields) c n ls r f h q all_open live stands holds alive owned passed flows kept tt tt
      (s, there, enough, means, keyless)
      (subst (λ z. IsStack p g x bs (Val (Value (Pointer z (Struct n ls) (lives_in bs r))) h) k) mark (subst (λ z. IsStack p g x bs (Val (Value (Pointer m (read bs z) (lives_in bs r))) h) k) t_is stack))
  makes_on (Array place level count kind element) owner k c m t r f h q all_open live stands holds alive owned (level_is, well, each, keyless, kind_is, mark) (f1, d, (f2, de, (demands, known))) (kn, ke) stack =
      let repeats : Repeats (relied_at x.relied k) c level kind element t f1 = record {
        now = f2;
        level_is = level_is;
        kind_is = kind_is;
        each = record { waiting = q; typed = inl each; flows = de; kept = ke };
        taken = refl;
        back = at_least_implies f2 f1 demands.0;
        plain = keyless;
      } in
      running p g x bs e w typed globals bound variables (Evaluating count) (Needs (MakeArray owner level kind element) ∷ k) live (
        c,
        types.Value types.Int,
        f,
        f1,
        stands,
        holds,
        record { waiting = q; typed = inl well; flows = d; kept = kn },
        (
          [],
          bs,
          Val (Value (Pointer marks.Fat (read bs t) (lives_in bs r))) f1,
          awaited.makes_array c t r f1 alive owned stands repeats,
          tt,
          subst (λ z. IsStack p g x bs (Val (Value (Pointer marks.Fat (read bs t) (lives_in bs r))) z) k) known (subst (λ z. IsStack p g x bs (Val (Value (Pointer z (read bs t) (lives_in bs r))) h) k) mark stack),
        ),
      )
