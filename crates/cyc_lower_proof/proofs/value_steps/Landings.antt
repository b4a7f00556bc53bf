-- This file proves how values reach their destinations: in slots, in an operand without code, converted in place, or as the
-- next argument of a call.
use Rattle.std.proofs.Common.{◌≡◌, ℕ, ◌+◌, ◌≤◌, ◌<◌, true, List, ◌∷◌, ◌++◌, Option, None, Some, slice_get, refl, sym, ap, subst, ◌∙◌, arith, inl, inr}
use Rattle.std.proofs.lemmas.Option.{same_Some, none-some}
use Rattle.cyc_types.specs.declared.typed.Callee.{Callee}
use Rattle.cyc_types.specs.declared.typed.Callee.TheVariants as callees
use Rattle.cyc_types.specs.declared.typed.Kind.{Kind}
use Rattle.cyc_types.specs.declared.typed.Kind.TheVariants as kinds
use Rattle.cyc_types.specs.declared.typed.UnaryOperator.TheVariants as unary
use Rattle.cyc_types.specs.Types.{Ty}
use Rattle.cyc_types.specs.TypedTrees.{Lvalue, Local, Global, Expression, Number, Copy, Unary, Convert, Arguments, NoArguments, MoreArguments, Function, Program}
use Rattle.cyc_types.specs.TypedTrees as typed
use Rattle.cyc_plain.specs.declared.instruction.Operand.{Operand}
use Rattle.cyc_plain.specs.declared.instruction.Operand.TheVariants as operands
use Rattle.cyc_plain.specs.inside.State as plain
use Rattle.cyc_plain.specs.inside.State.{Words, put, Frame, Configuration}
use Rattle.cyc_plain.specs.inside.Step.{Choice, with_slots, advanced, performed, at}
use Rattle.cyc_plain.proofs.SlotLaws.{put-same}
use Rattle.cyc_meaning.specs.Values.{Int, Null, Handle, Operand as Kinded, kind_of, words_of_kind}
use Rattle.cyc_store.specs.declared.range.TheConstants.{HEAP}
use Rattle.cyc_meaning.specs.State.{World, heap_number, Environment, ConvertTo, Pass, Entry, Needs, Discard, Focus, Evaluating, Given, Running}
use Rattle.cyc_lower_proof.proofs.relation.contents.Counters.{CountersHold}
use Rattle.cyc_meaning.specs.Step.{counts, target_by, object_of, passes, step, loaded_from}
use Rattle.cyc_lower_proof.specs.inside.Slots.{slot_of}
use Rattle.cyc_lower_proof.proofs.slots.Widths.{kind_positive, Outside}
use Rattle.cyc_lower_proof.proofs.relation.contents.Moves.{moved_slots, moves, put_elsewhere, moved_elsewhere, moved_is}
use Rattle.cyc_lower_proof.specs.inside.ValueCode.{converts_there, span_of, all_passed, move_of}
use Rattle.cyc_lower_proof.specs.inside.ControlCode.{counter_operand}
use Rattle.cyc_lower_proof.specs.inside.ExpressionCode.{operand_of}
use Rattle.cyc_lower_proof.specs.inside.Lowering.{lower_program}
use Rattle.cyc_lower_proof.proofs.relation.simulation.Weights.{weight, stack_weight, expression_weight, arguments_weight}
use Rattle.cyc_lower_proof.proofs.relation.code.Stands.{BroughtAt, ConversionAt, ArgumentsAt}
use Rattle.cyc_memory_relation.specs.inside.Tables.{Tables}
use Rattle.cyc_memory_relation.specs.inside.Words.{Is}
use Rattle.cyc_lower_proof.proofs.relation.contents.HeldValues.{counters_of, IsIn, words_held, height, Holds, held, kept}
use Rattle.cyc_lower_proof.proofs.relation.simulation.Relation.{DataIn, SharedAt, EvaluatingAt, as_operand, into_slot, in_operand, ahead, Related, Matches}
use Rattle.cyc_lower_proof.proofs.relation.simulation.Stacks.{types_on, starts_on, given_at, called_at, in_temporary, in_local, CallAt, ValueStack, DroppedStack, AheadStack, LandsStack, LandsMade, code_of, bounds_at, top, floor, base_of}
use Rattle.cyc_lower_proof.proofs.object_steps.Handles.{kept_holds, kept_low}
use Rattle.cyc_lower_proof.proofs.relation.contents.Data.{height-least, Holds-same, Holds-above}
use Rattle.cyc_lower_proof.proofs.relation.contents.HandlerData.{floor-least, data_written}
use Rattle.cyc_lower_proof.proofs.relation.simulation.Accesses.{IsWell, is_loaded}
use Rattle.cyc_lower_proof.proofs.relation.simulation.Matched.{IsMatched}

-- The lookup of an object does not depend on the region in which new variables are created.
pub object_of_same : (l : Lvalue) (e : Environment) → object_of (record { locals = e.locals; home = 0; counters = λ level. None }) l ≡ object_of e l
object_of_same (Local p n) e = refl
object_of_same (Global n) e = refl

module _ (source : Program) (pages calls : ℕ) where
  -- Says that the plain machine matches the source step that begins with this focus, that is, with this expression, value or statement to
  -- process next.
  abbrev pub IsStep : Focus → List Entry → Environment → World → Configuration → Type 0
  IsStep focus k e w c = IsWell (step source (Running focus k e w)) → Related source pages calls focus k e w c → IsMatched source pages calls (Running focus k e w) (plain.Running c)

  -- a value is moved to slots, and execution continues at the next instruction
  pub landed_made : (v : Kinded) (after : Words) (d : ℕ) (k : List Entry) (e : Environment) (w : World) (c : Configuration) (q : ℕ) (shared : SharedAt source pages calls k e w c) → Is shared.tables v.kind v.value after d
      → ((m : ℕ) → Outside d (words_of_kind v.kind) m → after m ≡ c.active.slots m)
      → DataIn source shared.tables c.active.slots k e w c → Holds shared.tables c.active.slots (floor source c.active.function k) (held k)
      → c.active.next + 1 ≡ q → LandsMade source c.active.function e.locals v.kind d q c.frames k
      → Related source pages calls (Given v) k e w (advanced (with_slots c after))
  landed_made v after d k e w c q shared is same facts holds end (in_temporary least stack) =
      let base = floor source c.active.function k in (
        shared,
        in_operand (operands.Slot d)
            (data_written source shared.tables c.active.function c.active.base w.objects e.locals k c.active.slots after c.active.handlers c.globals c.frames d (words_of_kind v.kind) (omega (arith, least, height-least base (kept k))) same facts)
            is
            (Holds-same shared.tables c.active.slots after base (kept k) (λ m below. same m (inl (omega (arith, below, least)))) (kept_holds shared.tables c.active.slots base k holds))
            (subst (λ r. ValueStack source c.active.function e.locals v.kind (operands.Slot d) r c.frames k) (sym end) stack),
      )
  landed_made v after d k e w c q shared is same facts holds end (in_local below stack) =
      let base = floor source c.active.function k in (
        shared,
        ahead d (c.active.slots, λ m out. sym (same m out), facts)
            is
            (Holds-above shared.tables c.active.slots after base (kept k) (λ m above. same m (inr (omega (arith, below, above, floor-least source c.active.function k)))) (kept_holds _ _ _ k holds))
            (subst (λ r. AheadStack source c.active.function e.locals v.kind d r c.frames k) (sym end) stack),
      )

  pub lands_made : (g : ℕ) (locals : ℕ → Option ℕ) (kind : Kind) (d q : ℕ) (frames : List Frame) (k : List Entry) → LandsStack source g locals kind d q frames k → LandsMade source g locals kind d q frames k
  lands_made g locals kind d q frames k (in_temporary least stack) = in_temporary (omega (arith, least, kept_low (floor source g k) k)) stack
  lands_made g locals kind d q frames k (in_local below stack) = in_local below stack

  pub landed : (v : Kinded) (after : Words) (d : ℕ) (k : List Entry) (e : Environment) (w : World) (c : Configuration) (q : ℕ) (shared : SharedAt source pages calls k e w c) → Is shared.tables v.kind v.value after d
      → ((m : ℕ) → Outside d (words_of_kind v.kind) m → after m ≡ c.active.slots m)
      → DataIn source shared.tables c.active.slots k e w c → Holds shared.tables c.active.slots (floor source c.active.function k) (held k)
      → c.active.next + 1 ≡ q → LandsStack source c.active.function e.locals v.kind d q c.frames k
      → Related source pages calls (Given v) k e w (advanced (with_slots c after))
  landed v after d k e w c q shared is same facts holds end lands =
      landed_made v after d k e w c q shared is same facts holds end (lands_made c.active.function e.locals v.kind d q c.frames k lands)

  -- an int is moved to a slot, and execution continues at the next instruction
  pub landed_word : (a word d : ℕ) (k : List Entry) (e : Environment) (w : World) (c : Configuration) (q : ℕ) → word ≡ a
      → (shared : SharedAt source pages calls k e w c) → DataIn source shared.tables c.active.slots k e w c → Holds shared.tables c.active.slots (floor source c.active.function k) (held k)
      → c.active.next + 1 ≡ q → LandsStack source c.active.function e.locals kinds.Int d q c.frames k
      → Related source pages calls (Given (record { kind = kinds.Int; value = Int a })) k e w (advanced (with_slots c (put c.active.slots d word)))
  landed_word a word d k e w c q is shared facts holds end lands =
      landed (record { kind = kinds.Int; value = Int a }) (put c.active.slots d word) d k e w c q shared (put-same c.active.slots d word ∙ is)
      (λ m out. put_elsewhere c.active.slots d word 1 m (omega arith) out) facts holds end lands

  -- a char is moved to a slot, and execution continues at the next instruction
  pub landed_char : (a word d : ℕ) (k : List Entry) (e : Environment) (w : World) (c : Configuration) (q : ℕ) → word ≡ a → a < 256
      → (shared : SharedAt source pages calls k e w c) → DataIn source shared.tables c.active.slots k e w c → Holds shared.tables c.active.slots (floor source c.active.function k) (held k)
      → c.active.next + 1 ≡ q → LandsStack source c.active.function e.locals kinds.Char d q c.frames k
      → Related source pages calls (Given (record { kind = kinds.Char; value = Int a })) k e w (advanced (with_slots c (put c.active.slots d word)))
  landed_char a word d k e w c q is low shared facts holds end lands =
      landed (record { kind = kinds.Char; value = Int a }) (put c.active.slots d word) d k e w c q shared (put-same c.active.slots d word ∙ is, low)
      (λ m out. put_elsewhere c.active.slots d word 1 m (omega arith) out) facts holds end lands

  -- A value is moved from an operand to slots.
  pub made_moved : (v : Kinded) (o : Operand) (d : ℕ) (k : List Entry) (e : Environment) (w : World) (c : Configuration) (q : ℕ) (choice : Choice) (shared : SharedAt source pages calls k e w c) → IsIn shared.tables v c.active.slots o
      → DataIn source shared.tables c.active.slots k e w c → Holds shared.tables c.active.slots (floor source c.active.function k) (held k)
      → c.active.next + 1 ≡ q → LandsMade source c.active.function e.locals v.kind d q c.frames k
      → Matches source pages calls (Running (Given v) k e w) (performed (lower_program source) choice c (move_of (words_of_kind v.kind) d o))
  made_moved v o d k e w c q choice shared is facts holds end lands =
      let words = words_of_kind v.kind in
      subst (Matches source pages calls (Running (Given v) k e w)) (sym (moves (lower_program source) choice c words d o))
      (landed_made v (moved_slots c.active.slots words d o) d k e w c q shared (moved_is shared.tables v c.active.slots d o is)
      (λ m out. moved_elsewhere c.active.slots words d o m (kind_positive v.kind) out) facts holds end lands)

  pub landed_moved : (v : Kinded) (o : Operand) (d : ℕ) (k : List Entry) (e : Environment) (w : World) (c : Configuration) (q : ℕ) (choice : Choice) (shared : SharedAt source pages calls k e w c) → IsIn shared.tables v c.active.slots o
      → DataIn source shared.tables c.active.slots k e w c → Holds shared.tables c.active.slots (floor source c.active.function k) (held k)
      → c.active.next + 1 ≡ q → LandsStack source c.active.function e.locals v.kind d q c.frames k
      → Matches source pages calls (Running (Given v) k e w) (performed (lower_program source) choice c (move_of (words_of_kind v.kind) d o))
  landed_moved v o d k e w c q choice shared is facts holds end lands =
      made_moved v o d k e w c q choice shared is facts holds end (lands_made c.active.function e.locals v.kind d q c.frames k lands)

  -- If two code positions are equal, then the requirements on the code that uses a slot are the same at both positions.
  pub lands_at : (g : ℕ) (locals : ℕ → Option ℕ) (kind : Kind) (d p q : ℕ) (frames : List Frame) (k : List Entry) → p ≡ q → LandsStack source g locals kind d q frames k
      → LandsStack source g locals kind d p frames k
  lands_at g locals kind d p q frames k same lands = subst (λ r. LandsStack source g locals kind d r frames k) (sym same) lands

  -- The code that would use a dropped value is the code after the value is dropped.
  pub dropped_value : (g : ℕ) (locals : ℕ → Option ℕ) (kind : Kind) (o : Operand) (p : ℕ) (frames : List Frame) (k : List Entry) → DroppedStack source g p frames k → ValueStack source g locals kind o p frames k
  dropped_value g locals kind o p frames (Discard ∷ k) stack = stack
  dropped_value g locals kind o p frames k stack = absurd stack

  -- ---- operands without code

  -- Holds if the expression is not the conversion of a char to an int.
  abbrev pub IsPlain : Expression → Type 0
  IsPlain (Unary unary.Widen a) = ⊥
  IsPlain a = Unit {0}

  -- The value of an expression that needs no instructions is found in the slot or constant that represents the expression.
  pub record IsRead (t : Tables) (a : Expression) (o : Operand) (k : List Entry) (e : Environment) (w : World) (c : Configuration) : Type 0 where
    pub value : Kinded
    pub gives : step source (Running (Evaluating a) k e w) ≡ Running (Given value) k e w
    pub is : IsIn t value c.active.slots o
    pub same : value.kind ≡ given_at source c.active.function a
    pub some : expression_weight a ≡ 1

  -- The value of a local is found in the slot of the local, which is used as an operand.
  reads_local : (tables : Tables) (a : Expression) (n : ℕ) (t : Ty) (o : Operand) (k : List Entry) (e : Environment) (w : World) (c : Configuration)
      → step source (Running (Evaluating a) k e w) ≡ loaded_from (kind_of t) (e.locals n) k e w → kind_of t ≡ given_at source c.active.function a → expression_weight a ≡ 1
      → Some (operands.Slot (slot_of (starts_on source c.active.function k) n)) ≡ Some o → IsWell (loaded_from (kind_of t) (e.locals n) k e w)
      → DataIn source tables c.active.slots k e w c → IsRead tables a o k e w c
  reads_local tables a n t o k e w c does same some known well ((low, below, hold, waiting, words), handlers) =
      let found = is_loaded (kind_of t) (e.locals n) k e w well in
      let v : Kinded = record { kind = kind_of t; value = found.value } in
      record {
        value = v;
        gives = does ∙ found.gives;
        is = subst (IsIn tables v c.active.slots) (same_Some (operands.Slot (slot_of (starts_on source c.active.function k) n)) o known) (hold.holds n found.number v found.there found.has).0;
        same = same;
        some = some;
      }

  pub reads : (tables : Tables) (a : Expression) (o : Operand) (k : List Entry) (e : Environment) (w : World) (c : Configuration) → operand_of (starts_on source c.active.function k) a ≡ Some o → IsPlain a → IsWell (step source (Running (Evaluating a) k e w))
      → CountersHold e.counters c.active.slots (floor source c.active.function k) k → DataIn source tables c.active.slots k e w c → slice_get tables.handles heap_number ≡ Some (Some HEAP) → IsRead tables a o k e w c
  reads tables (Number n) o k e w c known plain well count facts heap =
      record {
        value = record { kind = kinds.Int; value = Int n };
        gives = refl;
        is = subst (IsIn tables (record { kind = kinds.Int; value = Int n }) c.active.slots) (same_Some (operands.Word n) o known) refl;
        same = refl;
        some = refl;
      }
  reads tables typed.NullPointer o k e w c known plain well count facts heap =
      record {
        value = record { kind = kinds.Nullable; value = Null };
        gives = refl;
        is = subst (IsIn tables (record { kind = kinds.Nullable; value = Null }) c.active.slots) (same_Some (operands.Word 0) o known) refl;
        same = refl;
        some = refl;
      }
  reads tables typed.HeapRegion o k e w c known plain well count facts heap =
      let v : Kinded = record { kind = kinds.Handle; value = Handle heap_number } in
      record { value = v; gives = refl; is = subst (IsIn tables v c.active.slots) (same_Some (operands.Word HEAP) o known) heap; same = refl; some = refl }
  reads tables (Copy (Local p n) t) o k e w c known plain well count facts heap = reads_local tables (Copy (Local p n) t) n t o k e w c refl refl refl known well facts
  reads tables (typed.Move p n t) o k e w c known plain well count facts heap = reads_local tables (typed.Move p n t) n t o k e w c refl refl refl known well facts
  reads tables (typed.Peek p n t) o k e w c known plain well count facts heap = reads_local tables (typed.Peek p n t) n t o k e w c refl refl refl known well facts
  reads tables (typed.Counter l) o k e w c known plain well count facts heap = read_counter (slice_get (counters_of (floor source c.active.function k) k) l) refl known
    where
      read_counter : (slot : Option ℕ) → slice_get (counters_of (floor source c.active.function k) k) l ≡ slot → counter_operand slot ≡ Some o → IsRead tables (typed.Counter l) o k e w c
      read_counter None none known = absurd (none-some o known)
      read_counter (Some slot) there known =
          let (index, counts_now, is) = count l slot there in
          record {
            value = record { kind = kinds.Int; value = Int index };
            gives = ap (λ (i : Option ℕ). counts i k e w) counts_now;
            is = subst (IsIn tables (record { kind = kinds.Int; value = Int index }) c.active.slots) (same_Some (operands.Slot slot) o known) is;
            same = refl;
            some = refl;
          }
  reads tables (Unary unary.Widen a) o k e w c known plain well count facts heap = absurd plain
  reads tables a o k e w c known plain well count facts heap = absurd (none-some o known)

  -- ---- values that are converted at their destinations

  -- A value is moved to the next temporary slot and converted in this slot.
  pub brings : (t : Tables) (from to : Kind) (a : Expression) (k : List Entry) (locals : ℕ → Option ℕ) (g p : ℕ) (slots : Words) (frames : List Frame) (m q : ℕ)
      → BroughtAt (code_of source g) (bounds_at source g) (types_on source g k) (Convert from to a) (top source g k) (top source g k) p m
      → ConversionAt (code_of source g) (bounds_at source g) (types_on source g k) from to (span_of a) (operands.Slot (top source g k)) (top source g k) m q
      → Holds t slots (floor source g k) (held k) → ValueStack source g locals to (operands.Slot (top source g k)) q frames k
      → EvaluatingAt source t a locals g p slots frames (Needs (ConvertTo from to (target_by a)) ∷ k)
  brings t kinds.Int kinds.Char a k locals g p slots frames m q (o, r, at_a, here, end) (same, there) holds stack =
      as_operand o r at_a holds
      (inl (top source g k, refl, here, in_temporary (omega arith) (subst (λ x. ValueStack source g locals kinds.Char (operands.Slot (top source g k)) x frames k) (sym (end ∙ there)) stack)))
  brings t from to a k locals g p slots frames m q at_a at_to holds stack = into_slot (top source g k) m at_a holds (in_temporary (omega arith) (inr (q, refl, at_to, stack)))

  -- If the conversion raises no exception, then a value is moved to the slots of the local to which it will be assigned.
  pub brings_ahead : (t : Tables) (from to : Kind) (a : Expression) (k : List Entry) (locals : ℕ → Option ℕ) (g p : ℕ) (slots : Words) (frames : List Frame) (d m : ℕ)
      → converts_there from to ≡ true → words_of_kind (given_at source g a) ≡ words_of_kind to → d + words_of_kind to ≤ base_of source g
      → BroughtAt (code_of source g) (bounds_at source g) (types_on source g k) (Convert from to a) d (top source g k) p m
      → Holds t slots (floor source g k) (held k) → AheadStack source g locals to d m frames k
      → EvaluatingAt source t a locals g p slots frames (Needs (ConvertTo from to (target_by a)) ∷ k)
  brings_ahead t kinds.Int kinds.Char a k locals g p slots frames d m lands wide below (o, r, at_a, here, end) holds stack =
      as_operand o r at_a holds (inl (d, refl, here, in_local below (subst (λ x. AheadStack source g locals kinds.Char d x frames k) (sym end) stack)))
  brings_ahead t from to a k locals g p slots frames d m lands wide below at_a holds stack =
      into_slot d m at_a holds (in_local (omega (arith, below, wide)) (lands, refl, wide, stack))

  -- ---- calls

  -- the next argument is evaluated, or the function is called
  pub passes_related : (f : Callee) (before : List Kinded) (cs : Arguments) (k : List Entry) (e : Environment) (w : World) (c : Configuration) (d m q all : ℕ)
      → (shared : SharedAt source pages calls k e w c) → DataIn source shared.tables c.active.slots k e w c
      → ArgumentsAt (code_of source c.active.function) (bounds_at source c.active.function) (types_on source c.active.function k) cs (height (floor source c.active.function k) (before ++ held k)) c.active.next m
      → CallAt source c.active.function f all (top source c.active.function k) d m q
      → words_held before + all_passed cs ≡ all
      → Holds shared.tables c.active.slots (floor source c.active.function k) (before ++ held k) → LandsStack source c.active.function e.locals (called_at source c.active.function f) d q c.frames k
      → Matches source pages calls (passes f before cs k e w) (plain.Running c)
  passes_related callees.Putchar before cs k e w c d m q all shared facts at call long holds lands = absurd call
  passes_related callees.Getchar before NoArguments k e w c d m q all shared facts at (here, end) long holds lands =
      (shared, facts, (d, q, subst (λ p. CallAt source c.active.function callees.Getchar (words_held before) (top source c.active.function k) d p q) (sym at) (here, end), holds, lands))
  passes_related (callees.Function n) before NoArguments k e w c d m q all shared facts at call long holds lands =
      let many : all ≡ words_held before = omega (arith, long) in (
        shared,
        facts,
        (
          d,
          q,
          subst (λ i. CallAt source c.active.function (callees.Function n) i (top source c.active.function k) d c.active.next q) many
              (subst (λ p. CallAt source c.active.function (callees.Function n) all (top source c.active.function k) d p q) (sym at) call),
          holds,
          lands,
        ),
      )
  passes_related callees.Getchar before (MoreArguments (Convert from to a) cs) k e w c d m q all shared facts (r, (s, at_a, at_to), at) call long holds lands =
      (shared, facts, brings shared.tables from to a (Needs (Pass callees.Getchar before cs) ∷ k) e.locals c.active.function c.active.next c.active.slots c.frames s r at_a at_to holds (d, m, q, all, refl, at, call, long, lands))
  passes_related (callees.Function n) before (MoreArguments (Convert from to a) cs) k e w c d m q all shared facts (r, (s, at_a, at_to), at) call long holds lands =
      (shared, facts, brings shared.tables from to a (Needs (Pass (callees.Function n) before cs) ∷ k) e.locals c.active.function c.active.next c.active.slots c.frames s r at_a at_to holds (d, m, q, all, refl, at, call, long, lands))

  pub passes_weight : (f : Callee) (before : List Kinded) (cs : Arguments) (k : List Entry) (e : Environment) (w : World) → weight (passes f before cs k e w) ≤ arguments_weight cs + stack_weight k
  passes_weight f before NoArguments k e w = omega arith
  passes_weight f before (MoreArguments (Convert from to a) cs) k e w = omega arith
