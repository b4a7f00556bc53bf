-- This file proves that the code of statements refers only to slots, functions, globals and code positions that exist.
use Rattle.std.proofs.Common.{◌≡◌, ℕ, zero, suc, ◌+◌, ◌≤◌, ◌<◌, Bool, true, false, List, [], ◌∷◌, ◌++◌, length, Option, None, Some, slice_get, All, refl, sym, ap, subst, ◌∙◌, arith, length-append, ◌*◌}
use Rattle.cyc_types.specs.declared.typed.Kind.{Kind}
use Rattle.cyc_types.specs.declared.typed.Kind.TheVariants as kinds
use Rattle.cyc_types.specs.declared.typed.Callee.TheVariants as callees
use Rattle.cyc_types.specs.Types.{Ty, words_of}
use Rattle.cyc_types.specs.declared.typed.LogicalOperator.TheVariants as logical
use Rattle.cyc_types.specs.TypedTrees.{Lvalue, Local, Global, Expression, Call, Assign, Converted, Convert, Statement, Block, Empty, Evaluate, If, While}
use Rattle.cyc_types.specs.TypedTrees.{Return, Break, Continue, Items, NoItems, MoreItems, Execute, Declare, Signature, Store, Side, VariableSide, CellSide, Swap, Throw, Try, Clauses, NoClauses, Default, Case, DeclareRegion, OpenRegion, DeclareAlias, DeclareKey}
use Rattle.cyc_types.specs.Numbered.{Numbering}
use Rattle.cyc_plain.specs.declared.instruction.Operand.{Operand}
use Rattle.cyc_plain.specs.declared.instruction.Operand.TheVariants as operands
use Rattle.cyc_plain.specs.declared.instruction.Instruction.{Instruction}
use Rattle.cyc_plain.specs.declared.instruction.Instruction.TheVariants as instructions
use Rattle.cyc_plain.specs.inside.Program.{Routine, Program as PlainProgram}
use Rattle.cyc_plain.specs.declared.limits.TheConstants.{RECORD_WORDS}
use Rattle.cyc_plain.specs.inside.WellFormed.{IsOperand, is_return}
use Rattle.std.specs.Prelude.{if◌then◌else◌}
use Rattle.cyc_meaning.specs.Values.{kind_of, words_of_kind}
use Rattle.cyc_meaning.specs.FrameCount.{converted_words, expression_need, converted_need, initial_need, statement_need, items_need, place_words, side_need, kept_by, kept_by_items, clauses_need, kept_by_clauses, thrown_need}
use Rattle.cyc_lower_proof.specs.declared.exits.Exits.{Exits}
use Rattle.cyc_lower_proof.specs.inside.Slots.{starts_of, slot_of, Types, global_of}
use Rattle.cyc_lower_proof.specs.inside.ValueCode.{passed_words, operand_or, slot_or, code_unless_slot, conversion_code, span_of, word_by_word, global_code, keeps_words, kind_passed}
use Rattle.cyc_lower_proof.specs.inside.ObjectCode.{right_slot, load_at}
use Rattle.cyc_lower_proof.specs.inside.ControlCode.{failing_jump, holding_jump, body_target, inside_loop, leave_code, tag_operand, clause_code, opened_code, closed_code, named_code, dynamic_code, handlers_code, marks_code, kept_code, kept_code_in}
use Rattle.cyc_lower_proof.specs.inside.ControlCode.{through_by, through_end, looped_code}
use Rattle.cyc_lower_proof.specs.inside.ControlCode.{restored_code, restored_code_in, after_record, after_record_in, inside_try, inside_region, outermost, entry_code, entry_length, is_nothing, over_code, over_length}
use Rattle.cyc_lower_proof.specs.inside.ExpressionCode.{source_of, operand_of, value_slot, converted_operand, printed_operand, expression_code, converted_operand_code, printed_code, brought_code}
use Rattle.cyc_lower_proof.specs.inside.Lowering.{spare_slots, assignment_code, discarded_code, choice_code, choice_of, branch_code}
use Rattle.cyc_lower_proof.specs.inside.Lowering.{branch_of, return_code, declaration_code, statement_code, items_code, results_of, side_code, read_side, write_side, exchange_code, swap_code, thrown_code, thrown_operand, caught_code, clauses_code, is_guard, goes_through}
use Rattle.cyc_lower_proof.proofs.slots.Widths.{kind_positive, kind_few, type_words, words_in, HasRoom, keeps_wide}
use Rattle.cyc_lower_proof.proofs.relation.code.Fitting.{FitsPlace, Fits, FitsConverted, FitsReturn, FitsInitial, FitsStatement, FitItems, FitsSide, FitsThrown, FitsCaught, FitClauses}
use Rattle.cyc_types.specs.typing.Expressions.{type_of_side}
use Rattle.cyc_lower_proof.proofs.slots.Slots.{global-room, global-inside}
use Rattle.cyc_lower_proof.specs.declared.exits.Opened.{Opened}
use Rattle.cyc_lower_proof.proofs.emission.CodeLengths.{branch_same, entry_long, over_length_is}
use Rattle.cyc_lower_proof.proofs.sizes.RangeLemmas.{converted_few, results_few, IsKnown, AreGlobals, HasEnd}
use Rattle.cyc_lower_proof.proofs.sizes.ValueRanges.{AreIn, append, unless_in, unless_slot_in, move_in, conversion_in, loads_in, global_in, assigned_in, stores_in, addressed_in, stored_in, load_of_in, blank_in}
use Rattle.cyc_lower_proof.proofs.sizes.ValueRoom.{kind_at, HasOperand, slot_fits, value_room, value_in, converted_room, printed_value_in}
use Rattle.cyc_lower_proof.proofs.sizes.ExpressionRanges.{expression_in, place_in, initial_in, converted_operand_in, printed_in, brought_in}
use Rattle.cyc_lower_proof.proofs.sizes.ConditionRanges.{choice_in, chosen_in, branch_in, branched_in, entry_in}

module _ (program : PlainProgram) (r : Routine) (b : Numbering) (types : Types) (locals : (n : ℕ) → n < b.locals → slot_of (starts_of types) n + words_in types.locals n ≤ r.slots) (levels : (l slot : ℕ) → slice_get types.counters l ≡ Some slot → slot < r.slots) (globals : AreGlobals program types.globals) (called : (n : ℕ) (s : Signature) → slice_get b.functions n ≡ Some s → IsKnown program n s) (results : r.results ≡ results_of b.result) (following : HasEnd r types) (no_return : All (λ i. is_return i ≡ false) r.code) where
  assignment_in : (l : Lvalue) (c : Converted) (p t : ℕ) → FitsPlace b types l (kind_passed c) → FitsConverted b types c → t + converted_words c ≤ r.slots → t + converted_need c ≤ r.slots → p + length (assignment_code (starts_of types) l c p t) < length r.code → AreIn program r b types locals levels globals called results following (assignment_code (starts_of types) l c p t)
  assignment_in (Local w n) c p t (within, own) numbered free few short = initial_in program r b called results types locals levels globals following c p (slot_of (starts_of types) n) t numbered (omega (arith, locals n within, own)) free few short
  assignment_in (Global n) c p t within numbered free few short =
      let front = converted_operand_code (starts_of types) c p t in
      let o = converted_operand (starts_of types) c t in
      let store = global_code (passed_words c) (global_of (starts_of types) n) o in
      append program r b types locals levels globals called results following front store (converted_operand_in program r b called results types locals levels globals following c p t numbered free few (omega (arith, short, length-append front store))) (assigned_in program r b types locals levels globals called results following n c o within (converted_room r b types locals levels c t numbered free))

  discarded_in : (a : Expression) (p t : ℕ) → Fits b types a → t + expression_need a + spare_slots ≤ r.slots → p + length (discarded_code (starts_of types) a p t) < length r.code → AreIn program r b types locals levels globals called results following (discarded_code (starts_of types) a p t)
  discarded_in (Call callees.Putchar cs ty) p t (s, signature, many, passed, result, numbered) few short =
      let front = printed_code (starts_of types) cs p t in
      let back = instructions.WriteByte (printed_operand (starts_of types) cs (operands.Slot t) t) ∷ [] in
      append program r b types locals levels globals called results following front back (printed_in program r b called results types locals levels globals following cs p t t 0 numbered (omega (arith, few)) (omega arith) (omega (arith, few)) (omega (arith, short, length-append front back)))
      (printed_value_in r b types locals levels cs (operands.Slot t) t numbered (omega (arith, few)) (omega (arith, few)), tt)
  discarded_in (Assign l c ty) p t (within, numbered) few short = assignment_in l c p t within numbered (omega (arith, few)) (omega (arith, few)) short
  discarded_in (Store x c ty) p t (place, numbered) few short =
      stored_in program r b types locals levels globals called results following x c p t numbered (omega (arith, few)) short
      (λ less. addressed_in program r b types locals levels globals called results following x p t t place (omega (arith, few)) (omega (arith, few)) less (λ shorter. place_in program r b called results types locals levels globals following x place_words p t place (omega arith) (omega (arith, few)) shorter))
      (λ q less. converted_operand_in program r b called results types locals levels globals following c q (t + 1) numbered (omega (arith, few)) (omega (arith, few)) less)
  discarded_in a p t numbered few short =
      unless_in program r b types locals levels globals called results following (operand_of (starts_of types) a) (expression_code (starts_of types) a p t t) p short (λ less. expression_in program r b called results types locals levels globals following a p t t numbered (omega (arith, few, kind_few (kind_at r b types locals levels a))) (omega (arith, few)) less)

  -- ---- regions

  -- The code that gives a value to a local of this kind refers only to existing slots.
  named_in : (kind : Kind) (n : ℕ) (o : Operand) → n < b.locals → HasRoom types n kind → HasOperand r b types locals levels o (words_of_kind kind) → AreIn program r b types locals levels globals called results following (named_code (starts_of types) (words_of_kind kind) n o)
  named_in kind n o within room inside = (move_in program r b types locals levels globals called results following kind (slot_of (starts_of types) n) o (omega (arith, locals n within, room)) inside, tt)

  opened_in : (n t : ℕ) → n < b.locals → HasRoom types n kinds.Handle → t + 3 ≤ r.slots → AreIn program r b types locals levels globals called results following (opened_code (starts_of types) n t)
  opened_in n t within room few = (
    record { answer_in_range = omega (arith, few); first_in_range = tt; second_in_range = tt },
    (
      (omega (arith, few), omega (arith, few)),
      named_in kinds.Handle n (operands.Slot (t + 1)) within room (omega (arith, few)),
    ),
  )

  closed_in : (m : ℕ) → m < r.slots → AreIn program r b types locals levels globals called results following (closed_code m)
  closed_in m inside = (record { answer_in_range = omega arith; first_in_range = inside; second_in_range = tt }, tt)

  dynamic_in : (n t : ℕ) → n < b.locals → HasRoom types n kinds.Key → t < r.slots → AreIn program r b types locals levels globals called results following (dynamic_code (starts_of types) n t)
  dynamic_in n t within room few =
      (record { answer_in_range = omega (arith, few); first_in_range = tt; second_in_range = tt }, named_in kinds.Key n (operands.Slot t) within room (omega (arith, few)))

  -- ---- exits

  -- Says that all slots of a handler record, or of a saved number of open lexical regions, exist in the function; the argument
  -- is its first slot. If there is no such record or number, then it holds as well.
  abbrev IsRecord : Option ℕ → Type 0
  IsRecord None = Unit {0}
  IsRecord (Some first) = first + RECORD_WORDS ≤ r.slots

  abbrev IsMark : Option ℕ → Type 0
  IsMark None = Unit {0}
  IsMark (Some m) = m < r.slots

  abbrev CanLeave : Opened → Type 0
  CanLeave opened = IsRecord opened.handler × IsMark opened.mark

  abbrev HasExits : Exits → Type 0
  HasExits exits = CanLeave exits.in_loop × CanLeave exits.in_function

  handlers_in : (first : Option ℕ) → IsRecord first → AreIn program r b types locals levels globals called results following (handlers_code first)
  handlers_in None inside = tt
  handlers_in (Some first) inside = (inside, tt)

  marks_in : (mark : Option ℕ) → IsMark mark → AreIn program r b types locals levels globals called results following (marks_code mark)
  marks_in None inside = tt
  marks_in (Some m) inside = closed_in m inside

  leave_in : (opened : Opened) → CanLeave opened → AreIn program r b types locals levels globals called results following (leave_code opened)
  leave_in opened (record_inside, mark_inside) = append program r b types locals levels globals called results following (handlers_code opened.handler) (marks_code opened.mark) (handlers_in opened.handler record_inside) (marks_in opened.mark mark_inside)

  -- The slot in which a `try` saves the number of open regions exists in the function.
  kept_in : (known : Option ℕ) (t : ℕ) → t + RECORD_WORDS < r.slots → AreIn program r b types locals levels globals called results following (kept_code_in known t)
  kept_in None t free = tt
  kept_in (Some place) t free = (free, tt)

  restored_in : (known : Option ℕ) (t : ℕ) → t + RECORD_WORDS < r.slots → AreIn program r b types locals levels globals called results following (restored_code_in known t)
  restored_in None t free = tt
  restored_in (Some place) t free = closed_in (t + RECORD_WORDS) free

  record_near : (known : Option ℕ) (t : ℕ) → after_record_in known t ≤ t + RECORD_WORDS + 1
  record_near None t = omega arith
  record_near (Some place) t = omega arith

  return_in : (v : Option Converted) (p : ℕ) (exits : Exits) (t : ℕ) → FitsReturn b types b.result v → HasExits exits → t + initial_need v + spare_slots ≤ r.slots → p + length (return_code (starts_of types) v p exits t) < length r.code
      → AreIn program r b types locals levels globals called results following (return_code (starts_of types) v p exits t)
  return_in None p exits t numbered outside few short = append program r b types locals levels globals called results following (leave_code exits.in_function) _ (leave_in exits.in_function outside.1) (omega (arith, few, results, results_few b.result), tt)
  return_in (Some (Convert from to a)) p exits t numbered outside few short =
      let c = Convert from to a in
      let known = source_of (starts_of types) c in
      let s = slot_or known t in
      let inner = brought_code (starts_of types) c p t t in
      let front = code_unless_slot known inner in
      let conversion = conversion_code (starts_of types) from to (span_of a) (operands.Slot s) (p + length front) in
      let leave = leave_code exits.in_function in
      let back = instructions.Finish s ∷ [] in
      let long : length (((front ++ conversion) ++ leave) ++ back) ≡ length (front ++ conversion) + length leave + 1
      = length-append ((front ++ conversion) ++ leave) back ∙ ap (λ (n : ℕ). n + 1) (length-append (front ++ conversion) leave) in
      let long_front = length-append front conversion in
      let (words, fits) = value_of b.result numbered in
      let (kind, wide, is) = fits in
      let there : s + converted_words c ≤ r.slots = returned_in (keeps_words from to) kind is refl in
      append program r b types locals levels globals called results following ((front ++ conversion) ++ leave) back
      (append program r b types locals levels globals called results following (front ++ conversion) leave
      (append program r b types locals levels globals called results following front conversion (unless_slot_in program r b types locals levels globals called results following known inner p (omega (arith, short, long, long_front)) (λ less. brought_in program r b called results types locals levels globals following from to a p t t fits (omega (arith, few, kind_few (kind_at r b types locals levels a))) (omega (arith, few, converted_few c)) (omega (arith, few)) less))
      (conversion_in program r b types locals levels globals called results following from to (span_of a) (operands.Slot s) (p + length front) there (omega (arith, short, long, long_front))))
      (leave_in exits.in_function outside.1)) (omega (arith, there, results, words), tt)
    where
      value_of : (result : Option Ty) → FitsReturn b types result (Some (Convert from to a)) → (results_of result ≡ words_of_kind to) × FitsConverted b types (Convert from to a)
      value_of None numbered = absurd numbered
      value_of (Some ty) (same, fits) = (sym (type_words ty) ∙ ap words_of_kind (sym same), fits)

      slot_there : (known : Option Operand) → HasOperand r b types locals levels (operand_or known t) (converted_words (Convert from to a)) → slot_or known t + converted_words (Convert from to a) ≤ r.slots
      slot_there (Some (operands.Slot n)) inside = inside
      slot_there (Some (operands.Word w)) inside = omega (arith, few, kind_few from, kind_few to)
      slot_there None inside = inside

      wide_room : from ≡ kind_at r b types locals levels a → Fits b types a → (words_of_kind from ≡ words_of_kind to) → (known : Option Operand) → operand_of (starts_of types) a ≡ known → slot_or known t + converted_words (Convert from to a) ≤ r.slots
      wide_room kind is wide (Some o) there =
          slot_there (Some o)
          (subst (HasOperand r b types locals levels o) (let same : words_of_kind (kind_at r b types locals levels a) ≡ converted_words (Convert from to a) = omega (arith, ap words_of_kind kind, wide) in same)
          (subst (λ (x : Option Operand). HasOperand r b types locals levels (operand_or x (value_slot (starts_of types) a t)) (words_of_kind (kind_at r b types locals levels a))) there (value_room r b types locals levels a t is (omega (arith, few, kind_few (kind_at r b types locals levels a))))))
      wide_room kind is wide None there = omega (arith, few, kind_few from, kind_few to)

      returned_in : (same : Bool) → from ≡ kind_at r b types locals levels a → Fits b types a → keeps_words from to ≡ same → slot_or (if same then operand_of (starts_of types) a else None) t + converted_words (Convert from to a) ≤ r.slots
      returned_in true kind is wide = wide_room kind is (keeps_wide from to wide) (operand_of (starts_of types) a) refl
      returned_in false kind is wide = omega (arith, few, kind_few from, kind_few to)

  declaration_in : (n : ℕ) (ty : Ty) (v : Option Converted) (p t : ℕ) → n < b.locals → HasRoom types n (kind_of ty) → FitsInitial b types n v → t + initial_need v + spare_slots ≤ r.slots
      → p + length (declaration_code (starts_of types) n ty v p t) < length r.code → AreIn program r b types locals levels globals called results following (declaration_code (starts_of types) n ty v p t)
  declaration_in n ty None p t within room numbered few short =
      blank_in program r b types locals levels globals called results following (kind_of ty) (slot_of (starts_of types) n) (omega (arith, locals n within, room, kind_positive (kind_of ty)))
  declaration_in n ty (Some c) p t within room (own, numbered) few short =
      initial_in program r b called results types locals levels globals following c p (slot_of (starts_of types) n) t numbered (omega (arith, locals n within, own)) (omega (arith, few, converted_few c)) (omega (arith, few)) short

  -- ---- swaps

  side_in : (a : Side) (kind : Kind) (p t : ℕ) → FitsSide b types a kind → t < r.slots → t + side_need a ≤ r.slots → p + length (side_code (starts_of types) a p t) < length r.code → AreIn program r b types locals levels globals called results following (side_code (starts_of types) a p t)
  side_in (VariableSide l ty) kind p t numbered room few short = tt
  side_in (CellSide x) kind p t numbered room few short = addressed_in program r b types locals levels globals called results following x p t t numbered room few short (λ less. place_in program r b called results types locals levels globals following x place_words p t numbered (omega arith) few less)

  reads_in : (kind : Kind) (many address index slot : ℕ) → address < r.slots → slot + many ≤ r.slots → AreIn program r b types locals levels globals called results following (word_by_word (load_at kind address) many index slot)
  reads_in kind zero address index slot low few = tt
  reads_in kind (suc many) address index slot low few =
      (load_of_in program r b types locals levels globals called results following kind slot (operands.Slot address) (4 * index) (omega (arith, few)) low, reads_in kind many address (suc index) (suc slot) low (omega (arith, few)))

  read_in : (a : Side) (kind : Kind) (s d : ℕ) → FitsSide b types a kind → s < r.slots → d + words_of_kind kind ≤ r.slots → AreIn program r b types locals levels globals called results following (read_side (starts_of types) a kind s d)
  read_in (VariableSide (Local w n) ty) kind s d (within, own) low room =
      (move_in program r b types locals levels globals called results following kind d (operands.Slot (slot_of (starts_of types) n)) room (omega (arith, locals n within, own)), tt)
  read_in (VariableSide (Global n) ty) kind s d within low room =
      loads_in program r b types locals levels globals called results following (words_of_kind kind) (global_of (starts_of types) n) d (omega (arith, within, global-room types n (global-inside types n kind within), globals.room)) room
  read_in (CellSide x) kind s d numbered low room = reads_in kind (words_of_kind kind) s 0 d low room

  write_in : (a : Side) (kind : Kind) (s v : ℕ) → FitsSide b types a kind → s < r.slots → v + words_of_kind kind ≤ r.slots → AreIn program r b types locals levels globals called results following (write_side (starts_of types) a kind s v)
  write_in (VariableSide (Local w n) ty) kind s v (within, own) low room =
      (move_in program r b types locals levels globals called results following kind (slot_of (starts_of types) n) (operands.Slot v) (omega (arith, locals n within, own)) room, tt)
  write_in (VariableSide (Global n) ty) kind s v within low room =
      global_in program r b types locals levels globals called results following (words_of_kind kind) (global_of (starts_of types) n) (operands.Slot v) (kind_positive kind) (omega (arith, within, global-room types n (global-inside types n kind within), globals.room)) room
  write_in (CellSide x) kind s v numbered low room = stores_in program r b types locals levels globals called results following kind (words_of_kind kind) s 0 v low room

  right_near : (a : Side) (t : ℕ) → right_slot a t ≤ t + 1
  right_near (VariableSide l ty) t = omega arith
  right_near (CellSide x) t = omega arith

  exchange_in : (x y : Side) (kind : Kind) (t : ℕ) → FitsSide b types x kind → FitsSide b types y kind → t + 8 ≤ r.slots → AreIn program r b types locals levels globals called results following (exchange_code (starts_of types) kind x y t)
  exchange_in x y kind t fits_x fits_y room =
      let words = words_of_kind kind in
      let few = kind_few kind in
      let near = right_near x t in
      let first = read_side (starts_of types) x kind t (t + 2) in
      let second = read_side (starts_of types) y kind (right_slot x t) (t + 2 + words) in
      let third = write_side (starts_of types) x kind t (t + 2 + words) in
      let fourth = write_side (starts_of types) y kind (right_slot x t) (t + 2) in
      append program r b types locals levels globals called results following first (second ++ (third ++ fourth)) (read_in x kind t (t + 2) fits_x (omega (arith, room)) (omega (arith, room, few)))
      (append program r b types locals levels globals called results following second (third ++ fourth) (read_in y kind (right_slot x t) (t + 2 + words) fits_y (omega (arith, room, near)) (omega (arith, room, few)))
      (append program r b types locals levels globals called results following third fourth (write_in x kind t (t + 2 + words) fits_x (omega (arith, room)) (omega (arith, room, few)))
      (write_in y kind (right_slot x t) (t + 2) fits_y (omega (arith, room, near)) (omega (arith, room, few)))))

  swap_in : (x y : Side) (p t : ℕ) → FitsSide b types x (kind_of (type_of_side x)) → FitsSide b types y (kind_of (type_of_side x)) → t + statement_need (Swap x y) + spare_slots ≤ r.slots → p + length (swap_code (starts_of types) x y p t) < length r.code → AreIn program r b types locals levels globals called results following (swap_code (starts_of types) x y p t)
  swap_in x y p t fits_x fits_y few short =
      let kind = kind_of (type_of_side x) in
      let front = side_code (starts_of types) x p t in
      let middle = side_code (starts_of types) y (p + length front) (right_slot x t) in
      let back = exchange_code (starts_of types) kind x y t in
      let slot = right_near x t in
      let long = length-append front (middle ++ back) in
      let long_rest = length-append middle back in
      let room : t + 8 ≤ r.slots = omega (arith, few) in
      append program r b types locals levels globals called results following front (middle ++ back) (side_in x kind p t fits_x (omega (arith, room)) (omega (arith, few)) (omega (arith, short, long)))
      (append program r b types locals levels globals called results following middle back (side_in y kind (p + length front) (right_slot x t) fits_y (omega (arith, room, slot)) (omega (arith, few, slot)) (omega (arith, short, long, long_rest)))
      (exchange_in x y kind t fits_x fits_y room))

  thrown_in : (v : Option Expression) (p t : ℕ) → FitsThrown b types v → t + thrown_need v + spare_slots ≤ r.slots → p + length (thrown_code (starts_of types) v p t) < length r.code → AreIn program r b types locals levels globals called results following (thrown_code (starts_of types) v p t)
  thrown_in None p t numbered few short = tt
  thrown_in (Some a) p t numbered few short =
      let slot = value_slot (starts_of types) a t in
      unless_in program r b types locals levels globals called results following (operand_of (starts_of types) a) (expression_code (starts_of types) a p slot t) p short
      (λ less. expression_in program r b called results types locals levels globals following a p slot t numbered (slot_fits r b types locals levels a t numbered (omega (arith, few, kind_few (kind_at r b types locals levels a)))) (omega (arith, few)) less)

  thrown_there : (v : Option Expression) (t : ℕ) → FitsThrown b types v → t + thrown_need v + spare_slots ≤ r.slots → IsOperand r (thrown_operand (starts_of types) v t)
  thrown_there None t numbered few = tt
  thrown_there (Some a) t numbered few = value_in r b types locals levels a t numbered (omega (arith, few, kind_few (kind_at r b types locals levels a)))

  caught_in : (x : Option ℕ) (t : ℕ) → FitsCaught b types x → t + 1 < r.slots → AreIn program r b types locals levels globals called results following (caught_code (starts_of types) x t)
  caught_in None t numbered few = tt
  caught_in (Some n) t (within, room) few = ((omega (arith, locals n within, room), few), tt)

  -- Inside a `try` one more handler is open, and after the declaration that opens a region one more region is open.
  record_after : (first : Option ℕ) (slot : ℕ) → IsRecord first → slot + RECORD_WORDS ≤ r.slots → IsRecord (outermost first slot)
  record_after None slot inside room = room
  record_after (Some first) slot inside room = inside

  mark_after : (mark : Option ℕ) (slot : ℕ) → IsMark mark → slot < r.slots → IsMark (outermost mark slot)
  mark_after None slot inside room = room
  mark_after (Some m) slot inside room = inside

  exits_inside : (exits : Exits) (slot : ℕ) → HasExits exits → slot + RECORD_WORDS ≤ r.slots → HasExits (inside_try exits slot)
  exits_inside exits slot ((loop_record, loop_mark), (first_record, first_mark)) room =
      ((record_after exits.in_loop.handler slot loop_record room, loop_mark), (record_after exits.in_function.handler slot first_record room, first_mark))

  exits_after : (exits : Exits) (slot : ℕ) → HasExits exits → slot < r.slots → HasExits (inside_region exits slot)
  exits_after exits slot ((loop_record, loop_mark), (first_record, first_mark)) room =
      ((loop_record, mark_after exits.in_loop.mark slot loop_mark room), (first_record, mark_after exits.in_function.mark slot first_mark room))

  over_in : (last : Bool) (target : ℕ) → target < length r.code → AreIn program r b types locals levels globals called results following (over_code last target)
  over_in true target inside = tt
  over_in false target inside = (inside, tt)

  either_in : (chosen : Bool) (x y : List Instruction) (p : ℕ) → p + length (if chosen then x else y) < length r.code
      → (p + length x < length r.code → AreIn program r b types locals levels globals called results following x) → (p + length y < length r.code → AreIn program r b types locals levels globals called results following y)
      → AreIn program r b types locals levels globals called results following (if chosen then x else y)
  either_in true x y p short first second = first short
  either_in false x y p short first second = second short

  mutual
    statement_in : (s : Statement) (in_loop : Bool) (p : ℕ) (exits : Exits) (t : ℕ) → FitsStatement b types in_loop s → (in_loop ≡ true → (exits.head < length r.code) × (exits.leaving < length r.code)) → HasExits exits → t + kept_by s + statement_need s + spare_slots ≤ r.slots → p + length (statement_code (starts_of types) s p exits t) < length r.code → AreIn program r b types locals levels globals called results following (statement_code (starts_of types) s p exits t)
    statement_in (Block n js) in_loop p exits t numbered around outside few short = items_in js in_loop p exits t numbered around outside few short
    statement_in Empty in_loop p exits t numbered around outside few short = tt
    statement_in (Evaluate a) in_loop p exits t numbered around outside few short = discarded_in a p t numbered (omega (arith, few)) short
    statement_in (Swap x y) in_loop p exits t (fits_x, fits_y) around outside few short = swap_in x y p t fits_x fits_y (omega (arith, few)) short
    statement_in (If a s u) in_loop p exits t (numbered_a, numbered_s, numbered_u) around outside few short =
        let m = p + length (branch_code (starts_of types) logical.AndThen a 0 p t) in
        let first = statement_code (starts_of types) s (m + 1) exits t in
        let last = is_nothing u in
        let q = m + 1 + length first + over_length last in
        let condition = branch_code (starts_of types) logical.AndThen a q p t in
        let same = branch_same (starts_of types) logical.AndThen a 0 q p t in
        let second = statement_code (starts_of types) u q exits t in
        let jump_first = failing_jump (branch_of (starts_of types) logical.AndThen a t) q ∷ first in
        let over = over_code last (q + length second) in
        let long = length-append (condition ++ jump_first) (over ++ second) in
        let long_front = length-append condition jump_first in
        let long_back = length-append over second in
        let long_over = over_length_is last (q + length second) in
        let (left, right) = branched_in program r b types locals levels globals called results following logical.AndThen a t numbered_a (omega (arith, few)) in
        let inside : q < length r.code = omega (arith, short, long, long_front, long_back, long_over, same) in
        append program r b types locals levels globals called results following (condition ++ jump_first) (over ++ second)
        (append program r b types locals levels globals called results following condition jump_first (branch_in program r b types locals levels globals called results following logical.AndThen a q p t numbered_a (omega (arith, few)) inside (omega (arith, short, long, long_front)))
        ((left, right, inside), statement_in s in_loop (m + 1) exits t numbered_s around outside (omega (arith, few)) (omega (arith, short, long, long_front, long_back, long_over, same))))
        (append program r b types locals levels globals called results following over second (over_in last (q + length second) (omega (arith, short, long, long_front, long_back, long_over, same))) (statement_in u in_loop q exits t numbered_u around outside (omega (arith, few)) (omega (arith, short, long, long_front, long_back, long_over, same))))
    statement_in (While w a s) in_loop p exits t (numbered_a, numbered_s) around outside few short =
        let front = choice_code (starts_of types) logical.OrElse a p t in
        let x = p + length front + 1 in
        let within = statement_code (starts_of types) s x (inside_loop p p exits) t in
        let other = choice_code (starts_of types) logical.AndThen a (x + length within) t in
        let finish = through_end front within other p in
        let exit = failing_jump (choice_of (starts_of types) logical.OrElse a t) finish in
        let tail = holding_jump (choice_of (starts_of types) logical.AndThen a t) x ∷ instructions.Jump (finish + 1) ∷ [] in
        let long_through = length-append front (exit ∷ ((within ++ other) ++ tail)) in
        let long_inner = length-append (within ++ other) tail in
        let long_body = length-append within other in
        let (fails_left, fails_right) = chosen_in program r b types locals levels globals called results following logical.OrElse a t numbered_a (omega (arith, few)) in
        let (holds_left, holds_right) = chosen_in program r b types locals levels globals called results following logical.AndThen a t numbered_a (omega (arith, few)) in
        either_in (goes_through (starts_of types) a s)
        (through_by front (failing_jump (choice_of (starts_of types) logical.OrElse a t)) within other (holding_jump (choice_of (starts_of types) logical.AndThen a t) x) p)
        (looped_code (is_guard (starts_of types) a) (λ q. choice_code (starts_of types) logical.AndThen a q t) (λ leaving. statement_code (starts_of types) s (body_target leaving) (inside_loop p leaving exits) t) (holding_jump (choice_of (starts_of types) logical.AndThen a t)) p)
        p short
        (λ short. append program r b types locals levels globals called results following front (exit ∷ ((within ++ other) ++ tail)) (choice_in program r b types locals levels globals called results following logical.OrElse a p t numbered_a (omega (arith, few)) (omega (arith, short, long_through))) (
          (fails_left, fails_right, omega (arith, short, long_through, long_inner, long_body)),
          append program r b types locals levels globals called results following (within ++ other) tail
              (append program r b types locals levels globals called results following within other
              (statement_in s true x (inside_loop p p exits) t numbered_s (λ looping. (omega (arith, short, long_through), omega (arith, short, long_through))) ((tt, tt), outside.1) (omega (arith, few)) (omega (arith, short, long_through, long_inner, long_body)))
              (choice_in program r b types locals levels globals called results following logical.AndThen a (x + length within) t numbered_a (omega (arith, few)) (omega (arith, short, long_through, long_inner, long_body))))
              ((holds_left, holds_right, omega (arith, short, long_through, long_inner, long_body)), (omega (arith, short, long_through, long_inner, long_body), tt)),
        ))
        (λ short.
        let guarded = is_guard (starts_of types) a in
        let first = choice_code (starts_of types) logical.AndThen a p t in
        let jump : ℕ → Instruction = λ n. holding_jump (choice_of (starts_of types) logical.AndThen a t) n in
        let l = p + entry_length guarded first in
        let inside = inside_loop p l exits in
        let body = statement_code (starts_of types) s (body_target l) inside t in
        let m = body_target l + length body in
        let condition = choice_code (starts_of types) logical.AndThen a m t in
        let entry = entry_code guarded first jump m p in
        let test = jump (body_target l) ∷ [] in
        let leave = instructions.Jump (m + length condition + 1) in
        let long = length-append (body ++ condition) test in
        let long_front = length-append body condition in
        let whole = length-append entry (leave ∷ ((body ++ condition) ++ test)) in
        let entered = entry_long guarded first jump m p in
        let (left, right) = chosen_in program r b types locals levels globals called results following logical.AndThen a t numbered_a (omega (arith, few)) in
        append program r b types locals levels globals called results following entry (leave ∷ ((body ++ condition) ++ test)) (entry_in program r b types locals levels globals called results following guarded a p t m numbered_a (omega (arith, few)) (omega (arith, short, long, long_front, whole, entered), omega (arith, short, long, long_front, whole, entered))) (
          omega (arith, short, long, long_front, whole, entered),
          append program r b types locals levels globals called results following (body ++ condition) test
              (append program r b types locals levels globals called results following body condition
              (statement_in s true (body_target l) inside t numbered_s (λ looping. (omega (arith, short, long, long_front, whole, entered), omega (arith, short, long, long_front, whole, entered))) ((tt, tt), outside.1) (omega (arith, few)) (omega (arith, short, long, long_front, whole, entered)))
              (choice_in program r b types locals levels globals called results following logical.AndThen a m t numbered_a (omega (arith, few)) (omega (arith, short, long, long_front, whole, entered))))
              ((left, right, omega (arith, short, long, long_front, whole, entered)), tt),
        ))
    statement_in (Return v) in_loop p exits t numbered around outside few short = return_in v p exits t numbered outside (omega (arith, few)) short
    statement_in Break in_loop p exits t numbered around outside few short = append program r b types locals levels globals called results following (leave_code exits.in_loop) _ (leave_in exits.in_loop outside.0) (omega (arith, (around numbered).0, (around numbered).1), tt)
    statement_in Continue in_loop p exits t numbered around outside few short = append program r b types locals levels globals called results following (leave_code exits.in_loop) _ (leave_in exits.in_loop outside.0) (omega (arith, (around numbered).0, (around numbered).1), tt)
    statement_in (Throw tag v) in_loop p exits t (word, numbered) around outside few short =
        let front = thrown_code (starts_of types) v p t in
        let back = instructions.Throw (tag_operand tag) (thrown_operand (starts_of types) v t) ∷ [] in
        let long = length-append front back in
        append program r b types locals levels globals called results following front back (thrown_in v p t numbered (omega (arith, few)) (omega (arith, short, long))) ((tt, thrown_there v t numbered (omega (arith, few))), tt)
    statement_in (Try s cs) in_loop p exits t (numbered_s, numbered) around outside few short =
        let starts = starts_of types in
        let kept = kept_code starts t in
        let d = after_record starts t in
        let near : d ≤ t + RECORD_WORDS + 1 = record_near types.scopes t in
        let m = p + length kept in
        let body = statement_code starts s (m + 1) (inside_try exits t) d in
        let close = instructions.Leave t ∷ [] in
        let out = m + 1 + length (body ++ close) in
        let restored = restored_code starts t in
        let clauses = clauses_code starts cs (out + 1 + length restored) out exits t in
        let over = instructions.Jump (out + 1 + length (restored ++ clauses)) ∷ (restored ++ clauses) in
        let begin = instructions.Try t (out + 1) ∷ ((body ++ close) ++ over) in
        let long_kept = length-append kept begin in
        let long = length-append (body ++ close) over in
        let long_body = length-append body close in
        let long_clauses = length-append restored clauses in
        let free : t + RECORD_WORDS < r.slots = omega (arith, few) in
        let room : t + RECORD_WORDS ≤ r.slots = omega (arith, few) in
        append program r b types locals levels globals called results following kept begin (kept_in types.scopes t free) (
          record { record_in_range = room; handler_in_range = omega (arith, short, long_kept, long); no_return = no_return },
          append program r b types locals levels globals called results following (body ++ close) over
              (append program r b types locals levels globals called results following body close (statement_in s in_loop (m + 1) (inside_try exits t) d numbered_s around (exits_inside exits t outside room) (omega (arith, few, near)) (omega (arith, short, long_kept, long, long_body))) (room, tt)) (
                omega (arith, short, long_kept, long),
                append program r b types locals levels globals called results following restored clauses (restored_in types.scopes t free)
                    (clauses_in cs in_loop (out + 1 + length restored) out exits t numbered around outside (omega (arith, few)) (omega (arith, short, long_kept, long)) (omega (arith, short, long_kept, long, long_clauses))),
              ),
        )

    pub items_in : (js : Items) (in_loop : Bool) (p : ℕ) (exits : Exits) (t : ℕ) → FitItems b types in_loop js → (in_loop ≡ true → (exits.head < length r.code) × (exits.leaving < length r.code)) → HasExits exits → t + kept_by_items js + items_need js + spare_slots ≤ r.slots → p + length (items_code (starts_of types) js p exits t) < length r.code → AreIn program r b types locals levels globals called results following (items_code (starts_of types) js p exits t)
    items_in NoItems in_loop p exits t numbered around outside few short = tt
    items_in (MoreItems (Execute s) js) in_loop p exits t (numbered, rest) around outside few short =
        let front = statement_code (starts_of types) s p exits t in
        let back = items_code (starts_of types) js (p + length front) exits t in
        let long = length-append front back in
        append program r b types locals levels globals called results following front back (statement_in s in_loop p exits t numbered around outside (omega (arith, few)) (omega (arith, short, long)))
        (items_in js in_loop (p + length front) exits t rest around outside (omega (arith, few)) (omega (arith, short, long)))
    items_in (MoreItems (Declare n ty v) js) in_loop p exits t (within, room, numbered, rest) around outside few short =
        let front = declaration_code (starts_of types) n ty v p t in
        let back = items_code (starts_of types) js (p + length front) exits t in
        let long = length-append front back in
        append program r b types locals levels globals called results following front back (declaration_in n ty v p t within room.0 numbered (omega (arith, few)) (omega (arith, short, long)))
        (items_in js in_loop (p + length front) exits t rest around outside (omega (arith, few)) (omega (arith, short, long)))
    items_in (MoreItems (DeclareRegion region n) js) in_loop p exits t (counting, within, room, rest) around outside few short =
        let front = opened_code (starts_of types) n t in
        let inner = items_code (starts_of types) js (p + length front) (inside_region exits t) (t + 1) in
        let back = closed_code t in
        let long = length-append front (inner ++ back) in
        let long_inner = length-append inner back in
        append program r b types locals levels globals called results following front (inner ++ back) (opened_in n t within room.0 (omega (arith, few)))
        (append program r b types locals levels globals called results following inner back (items_in js in_loop (p + length front) (inside_region exits t) (t + 1) rest around (exits_after exits t outside (omega (arith, few))) (omega (arith, few)) (omega (arith, short, long, long_inner)))
        (closed_in t (omega (arith, few))))
    items_in (MoreItems (OpenRegion region n w k) js) in_loop p exits t (within, room, key_within, key_room, rest) around outside few short =
        let key = operands.Slot (slot_of (starts_of types) k) in
        append program r b types locals levels globals called results following (named_code (starts_of types) 1 n key) (items_code (starts_of types) js (p + 1) exits t) (named_in kinds.Handle n key within room.0 (omega (arith, locals k key_within, key_room)))
        (items_in js in_loop (p + 1) exits t rest around outside (omega (arith, few)) (omega (arith, short)))
    items_in (MoreItems (DeclareAlias region n ty w m) js) in_loop p exits t (within, room, lent_within, lent_room, rest) around outside few short =
        let lent = operands.Slot (slot_of (starts_of types) m) in
        append program r b types locals levels globals called results following (named_code (starts_of types) (words_of ty) n lent) (items_code (starts_of types) js (p + 1) exits t)
        (subst (λ words. AreIn program r b types locals levels globals called results following (named_code (starts_of types) words n lent)) (type_words ty) (named_in (kind_of ty) n lent within room.0 (omega (arith, locals m lent_within, lent_room))))
        (items_in js in_loop (p + 1) exits t rest around outside (omega (arith, few)) (omega (arith, short)))
    items_in (MoreItems (DeclareKey region n) js) in_loop p exits t (within, room, rest) around outside few short =
        let front = dynamic_code (starts_of types) n t in
        let back = items_code (starts_of types) js (p + length front) exits t in
        append program r b types locals levels globals called results following front back (dynamic_in n t within room.0 (omega (arith, few))) (items_in js in_loop (p + length front) exits t rest around outside (omega (arith, few)) (omega (arith, short, length-append front back)))

    clauses_in : (cs : Clauses) (in_loop : Bool) (p out : ℕ) (exits : Exits) (t : ℕ) → FitClauses b types in_loop cs → (in_loop ≡ true → (exits.head < length r.code) × (exits.leaving < length r.code)) → HasExits exits
        → t + kept_by_clauses cs + clauses_need cs + spare_slots ≤ r.slots → out < length r.code → p + length (clauses_code (starts_of types) cs p out exits t) < length r.code → AreIn program r b types locals levels globals called results following (clauses_code (starts_of types) cs p out exits t)
    clauses_in NoClauses in_loop p out exits t numbered around outside few there short = ((omega (arith, few), omega (arith, few)), tt)
    clauses_in (Default n js) in_loop p out exits t numbered around outside few there short = items_in js in_loop p exits t numbered around outside few short
    clauses_in (Case tag x n js cs) in_loop p out exits t (word, caught_fits, numbered, rest) around outside few there short =
        let caught = caught_code (starts_of types) x t in
        let items = items_code (starts_of types) js (p + 1 + length caught) exits t in
        let leave = instructions.Jump out ∷ [] in
        let clause = clause_code tag t (caught ++ items) p out in
        let later = clauses_code (starts_of types) cs (p + length clause) out exits t in
        let long = length-append clause later in
        let long_clause = length-append (caught ++ items) leave in
        let long_inner = length-append caught items in
        append program r b types locals levels globals called results following clause later (
          (omega (arith, few), tt, omega (arith, short, long, long_clause)),
          append program r b types locals levels globals called results following (caught ++ items) leave
              (append program r b types locals levels globals called results following caught items (caught_in x t caught_fits (omega (arith, few))) (items_in js in_loop (p + 1 + length caught) exits t numbered around outside (omega (arith, few)) (omega (arith, short, long, long_clause, long_inner))))
              (there, tt),
        )
        (clauses_in cs in_loop (p + length clause) out exits t rest around outside (omega (arith, few)) there (omega (arith, short, long)))
