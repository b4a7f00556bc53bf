-- This file proves that the code of a statement is where the simulation relation requires it.
use Rattle.std.proofs.Common.{◌≡◌, ℕ, suc, ◌+◌, ◌<◌, Bool, true, false, inl, inr, List, [], ◌∷◌, ◌++◌, length, Option, None, Some, refl, sym, ap, subst, ◌∙◌, arith, length-append}
use Rattle.cyc_types.specs.declared.typed.Kind.{Kind}
use Rattle.cyc_types.specs.declared.typed.Kind.TheVariants as kinds
use Rattle.cyc_types.specs.declared.typed.Callee.TheVariants as callees
use Rattle.cyc_types.specs.declared.typed.LogicalOperator.TheVariants as logical
use Rattle.cyc_types.specs.Types.{Ty}
use Rattle.cyc_types.specs.TypedTrees.{Lvalue, Local, Global, Expression, Call, Assign, Converted, Convert, Statement, Block, Empty, Evaluate, If, While}
use Rattle.cyc_types.specs.TypedTrees.{Return, Break, Continue, Items, NoItems, MoreItems, Execute, Declare, Signature, Store, Side, VariableSide, CellSide, Swap, Throw, Try, Clauses, NoClauses, Default, Case, DeclareRegion, OpenRegion, DeclareAlias, DeclareKey}
use Rattle.cyc_types.specs.Numbered.{Numbering, argument_count}
use Rattle.cyc_plain.specs.declared.limits.TheConstants.{RECORD_WORDS}
use Rattle.cyc_plain.specs.declared.instruction.Operand.TheVariants as operands
use Rattle.cyc_plain.specs.declared.instruction.Instruction.{Instruction}
use Rattle.cyc_plain.specs.declared.instruction.Instruction.TheVariants as instructions
use Rattle.cyc_plain.specs.inside.Straight.{At, HasAt}
use Rattle.cyc_plain.proofs.Straight.{has_front, has_back}
use Rattle.cyc_meaning.specs.Values.{kind_of, words_of_kind}
use Rattle.cyc_lower_proof.specs.inside.Slots.{Types, starts_of, slot_of, global_of}
use Rattle.cyc_lower_proof.specs.inside.ValueCode.{passed_words, move_of, operand_or, slot_or, code_unless_slot, conversion_code, address_code, span_of, global_code, kind_passed}
use Rattle.cyc_lower_proof.specs.inside.ObjectCode.{right_slot, saved_code, load_at}
use Rattle.cyc_lower_proof.specs.inside.ControlCode.{failing_jump, holding_jump, break_target, continue_target, body_target, inside_loop, leave_code, other_jump, clause_code, kept_code, kept_code_in, restored_code, restored_code_in, after_record}
use Rattle.cyc_lower_proof.specs.inside.ControlCode.{inside_try, closed_code, handlers_code, marks_code, try_code, opened_code, inside_region, dynamic_code, entry_code, entry_length, is_nothing, over_code, over_length, through_by, through_end, looped_code, breaks}
use Rattle.cyc_lower_proof.specs.inside.ExpressionCode.{source_of, operand_of, value_slot, converted_operand, printed_operand, expression_code, converted_operand_code, printed_code, place_operand, place_offset, place_code, brought_code}
use Rattle.cyc_lower_proof.specs.inside.Lowering.{assignment_code, assigned_operand, discarded_code, choice_code, choice_of, goes_through}
use Rattle.cyc_lower_proof.specs.inside.Lowering.{branch_code, branch_of, return_code, declaration_code, statement_code, items_code, results_of, side_code, read_side, write_side, exchange_code, swap_code, thrown_code, thrown_operand, caught_code, clauses_code, is_guard}
use Rattle.cyc_lower_proof.specs.declared.exits.Exits.{Exits}
use Rattle.cyc_lower_proof.specs.declared.exits.Opened.{Opened}
use Rattle.cyc_lower_proof.proofs.relation.code.Stands.{BranchesAt, AssignmentAt, EntryAt, OverAt}
use Rattle.cyc_lower_proof.proofs.relation.code.Statements.{DiscardedAt, ReturnAt, DeclarationAt, StatementAt, ItemsAt, HasSide, SideAt, ReadAt, WriteAt, SwapAt, LeaveAt, ThrownAt, CaughtAt, ClausesAt, ExchangeAt, ClosedAt, HandlersAt, MarksAt, KeptAt, RestoredAt, OpenedAt}
use Rattle.cyc_types.specs.typing.Expressions.{type_of_side}
use Rattle.cyc_lower_proof.proofs.slots.Widths.{kind_of_result, type_words, HasLocal}
use Rattle.cyc_lower_proof.proofs.relation.code.Fitting.{FitsPlace, Fits, FitsConverted, FitsReturn, FitsInitial, FitsStatement, FitItems, FitsSide, FitsThrown, FitsCaught, FitClauses}
use Rattle.cyc_lower_proof.proofs.place_steps.Sources.{stored_apart}
use Rattle.cyc_lower_proof.proofs.emission.CodeLengths.{branch_same, entry_long, over_length_is}
use Rattle.cyc_lower_proof.proofs.emission.Blocks.{BlocksStand}
use Rattle.cyc_lower_proof.proofs.emission.OperandBridge.{cut, operand_by, returned_by, returned_brought, conversion_stands, each_stands, global_stands, load_stands, stores_stand, saved_stands, address_stands, blank_stands}
use Rattle.cyc_lower_proof.proofs.emission.ExpressionBridge.{expression_stands, place_stands, initial_stands, converted_operand_stands, printed_stands, brought_stands}
use Rattle.cyc_lower_proof.proofs.emission.ConditionBridge.{choice_follows, branch_stands, choice_stands}
use Rattle.cyc_meaning.specs.FrameCount.{words_of_all}
use Rattle.std.specs.Prelude.{not, if◌then◌else◌}
use Rattle.std.proofs.lemmas.Bool.{and_parts}
use Rattle.cyc_words.proofs.Booleans.{false_from_not}
use Rattle.cyc_lower_proof.proofs.emission.Leaving.{leaving_free}

module _ (code : List Instruction) (b : Numbering) (types : Types) (raised : BlocksStand code types.raises (words_of_all types.locals)) where
  assignment_stands : (l : Lvalue) (c : Converted) (t p q : ℕ) → FitsPlace b types l (kind_passed c) → FitsConverted b types c → p + length (assignment_code (starts_of types) l c p t) ≡ q → HasAt code p (assignment_code (starts_of types) l c p t) → AssignmentAt code b types l c (assigned_operand (starts_of types) l c t) t p q
  assignment_stands (Local w n) c t p q (few, room) numbered end has = (refl, room, initial_stands code b types raised c (slot_of (starts_of types) n) t p q numbered end has)
  assignment_stands (Global n) c t p q room numbered end has =
      let o = converted_operand (starts_of types) c t in
      let front = converted_operand_code (starts_of types) c p t in
      let store = global_code (passed_words c) (global_of (starts_of types) n) o in
      (p + length front, converted_operand_stands code b types raised c t p (p + length front) numbered refl (has_front code p front store has), room, global_stands code b types raised (passed_words c) (global_of (starts_of types) n) o (p + length front) q (cut p q front store end) (has_back code p front store has))

  discarded_stands : (a : Expression) (t p q : ℕ) → Fits b types a → p + length (discarded_code (starts_of types) a p t) ≡ q → HasAt code p (discarded_code (starts_of types) a p t) → DiscardedAt code b types a t p q
  discarded_stands (Call callees.Putchar cs ty) t p q (s, signature, many, passed, result, numbered) end has =
      let front = printed_code (starts_of types) cs p t in
      let (write, none) = has_back code p front _ has in
      let single : argument_count cs ≡ 1 = many ∙ ap (λ (x : Signature). length x.parameters) signature in
      (printed_operand (starts_of types) cs (operands.Slot t) t, p + length front, printed_stands code b types raised cs (operands.Slot t) t p (p + length front) single numbered refl (has_front code p front _ has), write, cut p q front _ end)
  discarded_stands (Assign l c ty) t p q (few, numbered) end has = (assigned_operand (starts_of types) l c t, assignment_stands l c t p q few numbered end has)
  discarded_stands (Store x c ty) t p q (place, numbered) end has =
      let a = place_operand (starts_of types) x t in
      let bytes = place_offset (starts_of types) x in
      let o = converted_operand (starts_of types) c (t + 1) in
      let front = place_code (starts_of types) x p t in
      let bring = address_code a bytes t in
      let address = front ++ bring in
      let r = p + length front in
      let s = p + length address in
      let value = converted_operand_code (starts_of types) c s (t + 1) in
      let u = s + length value in
      let write = saved_code (kind_passed c) t o in
      let has_address = has_front code p address (value ++ write) has in
      let has_value = has_back code p address (value ++ write) has in (
        o,
        (
          a,
          bytes,
          r,
          s,
          u,
          place_stands code b types raised x t p r place refl (has_front code p front bring has_address),
          address_stands code b types raised a bytes t r s (cut p s front bring refl) (has_back code p front bring has_address),
          converted_operand_stands code b types raised c (t + 1) s u numbered refl (has_front code s value write has_value),
          saved_stands code b types raised (kind_passed c) t o u q (stored_apart types b c t numbered) (cut s q value write (cut p q address (value ++ write) end)) (has_back code s value write has_value),
        ),
      )
  discarded_stands a t p q numbered end has =
      (operand_or (operand_of (starts_of types) a) t, operand_by code b types raised (operand_of (starts_of types) a) _ (expression_code (starts_of types) a p t t) t p q end has (λ e h. expression_stands code b types raised a t t p q numbered e h))

  -- ---- statements

  -- The code that enters a loop is where the simulation relation requires it.
  entry_stands : (guarded : Bool) (a : Expression) (exits : Exits) (t p l r : ℕ) → Fits b types a → l ≡ p + entry_length guarded (choice_code (starts_of types) logical.AndThen a p t) → p < r
      → HasAt code p (entry_code guarded (choice_code (starts_of types) logical.AndThen a p t) (holding_jump (choice_of (starts_of types) logical.AndThen a t)) r p)
      → EntryAt code b types a (inside_loop p l exits) (body_target l) t r
  entry_stands true a exits t p l r numbered at before has =
      let first = choice_code (starts_of types) logical.AndThen a p t in
      let m = p + length first in
      let jump = holding_jump (choice_of (starts_of types) logical.AndThen a t) (m + 1 + 1) in
      let (here, none) = has_back code p first (jump ∷ []) has in
      let next : m + 1 ≡ l = omega (arith, at) in
      inl (subst (λ n. BranchesAt code b types a n (n + 1) t p) next (choice_follows code b types raised a (m + 1 + 1) t p m numbered refl (has_front code p first (jump ∷ []) has) here))
  entry_stands false a exits t p l r numbered at before (enter, none) = inr (enter, before)

  -- A returned value has as many words as the function returns.
  returns_kind : (result : Option Ty) (c : Converted) → FitsReturn b types result (Some c) → (results_of result ≡ words_of_kind (kind_passed c)) × (kind_passed c ≡ kind_of_result result)
  returns_kind None c numbered = absurd numbered
  returns_kind (Some t) c (kind, numbered) = (sym (type_words t) ∙ ap words_of_kind (sym kind), kind)

  returns_numbered : (result : Option Ty) (c : Converted) → FitsReturn b types result (Some c) → FitsConverted b types c
  returns_numbered None c numbered = absurd numbered
  returns_numbered (Some t) c (kind, numbered) = numbered

  closed_stands : (mark p q : ℕ) → p + length (closed_code mark) ≡ q → HasAt code p (closed_code mark) → ClosedAt code b types mark p q
  closed_stands mark p q end (ask, none) = (ask, end)

  handlers_stand : (handler : Option ℕ) (p q : ℕ) → p + length (handlers_code handler) ≡ q → HasAt code p (handlers_code handler) → HandlersAt code b types handler p q
  handlers_stand None p q end has = omega (arith, end)
  handlers_stand (Some first) p q end (here, none) = (here, end)

  marks_stand : (mark : Option ℕ) (p q : ℕ) → p + length (marks_code mark) ≡ q → HasAt code p (marks_code mark) → MarksAt code b types mark p q
  marks_stand None p q end has = omega (arith, end)
  marks_stand (Some mark) p q end has = closed_stands mark p q end has

  leave_stands : (opened : Opened) (p q : ℕ) → p + length (leave_code opened) ≡ q → HasAt code p (leave_code opened) → LeaveAt code b types opened p q
  leave_stands opened p q end has =
      let front = handlers_code opened.handler in
      let back = marks_code opened.mark in
      let r = p + length front in
      (r, handlers_stand opened.handler p r refl (has_front code p front back has), marks_stand opened.mark r q (cut p q front back end) (has_back code p front back has))

  -- The code that opens a region and declares its handle is where the simulation relation requires it.
  opened_stands : (n place t p q : ℕ) → types.scopes ≡ Some place → n < b.locals → HasLocal types n kinds.Handle → p + length (opened_code (starts_of types) n t) ≡ q → HasAt code p (opened_code (starts_of types) n t)
      → OpenedAt code b types n t p q
  opened_stands n place t p q counts few room end (ask, (move, (named, none))) = (place, counts, ask, move, (few, room, named, omega (arith, end)))

  kept_stands : (scopes : Option ℕ) (t p q : ℕ) → p + length (kept_code_in scopes t) ≡ q → HasAt code p (kept_code_in scopes t) → KeptAt code b types scopes (t + RECORD_WORDS) p q
  kept_stands None t p q end has = omega (arith, end)
  kept_stands (Some place) t p q end (here, none) = (here, end)

  restored_stands : (scopes : Option ℕ) (t p q : ℕ) → p + length (restored_code_in scopes t) ≡ q → HasAt code p (restored_code_in scopes t) → RestoredAt code b types scopes (t + RECORD_WORDS) p q
  restored_stands None t p q end has = omega (arith, end)
  restored_stands (Some place) t p q end has = closed_stands (t + RECORD_WORDS) p q end has

  return_stands : (v : Option Converted) (exits : Exits) (t p q : ℕ) → FitsReturn b types b.result v → p + length (return_code (starts_of types) v p exits t) ≡ q → HasAt code p (return_code (starts_of types) v p exits t)
      → ReturnAt code b types v exits t p
  return_stands None exits t p q numbered end has =
      let leave = leave_code exits.in_function in
      let (here, none) = has_back code p leave _ has in
      (t, p + length leave, leave_stands exits.in_function p (p + length leave) refl (has_front code p leave _ has), here)
  return_stands (Some (Convert from to a)) exits t p q numbered end has =
      let known = source_of (starts_of types) (Convert from to a) in
      let inner = brought_code (starts_of types) (Convert from to a) p t t in
      let front = code_unless_slot known inner in
      let m = p + length front in
      let s = slot_or known t in
      let conversion = conversion_code (starts_of types) from to (span_of a) (operands.Slot s) m in
      let both = front ++ conversion in
      let r = p + length both in
      let leave = leave_code exits.in_function in
      let u = p + length (both ++ leave) in
      let has_left = has_front code p (both ++ leave) _ has in
      let has_both = has_front code p both leave has_left in
      let (here, none) = has_back code p (both ++ leave) _ has in
      let (from_is, wide, fitting) = returns_numbered b.result (Convert from to a) numbered in
      let (words, kind) = returns_kind b.result (Convert from to a) numbered in (
        s,
        m,
        r,
        u,
        returned_by code b types raised known _ inner t p m refl (has_front code p front conversion has_both) (λ e h. brought_stands code b types raised (Convert from to a) t t p m (from_is, wide, fitting) e h),
        conversion_stands code b types raised from to (span_of a) (operands.Slot s) t m r wide (λ narrow. returned_brought code b types raised from to a t narrow) (cut p r front conversion refl) (has_back code p front conversion has_both),
        leave_stands exits.in_function r u (cut p u both leave refl) (has_back code p both leave has_left),
        here,
        words,
        kind,
      )

  declaration_stands : (n : ℕ) (ty : Ty) (v : Option Converted) (t p q : ℕ) → n < b.locals → FitsInitial b types n v → p + length (declaration_code (starts_of types) n ty v p t) ≡ q
      → HasAt code p (declaration_code (starts_of types) n ty v p t) → DeclarationAt code b types n (kind_of ty) v t p q
  declaration_stands n ty None t p q few numbered end has = (few, blank_stands code b types raised (kind_of ty) (slot_of (starts_of types) n) p q end has)
  declaration_stands n ty (Some c) t p q few (room, numbered) end has = (few, room, initial_stands code b types raised c (slot_of (starts_of types) n) t p q numbered end has)

  -- ---- swaps

  has_side : (a : Side) (kind : Kind) → FitsSide b types a kind → HasSide code b types a kind
  has_side (VariableSide (Local w n) ty) kind (within, room) = room
  has_side (VariableSide (Global n) ty) kind within = within
  has_side (CellSide x) kind numbered = tt

  side_stands : (a : Side) (kind : Kind) (t p q : ℕ) → FitsSide b types a kind → p + length (side_code (starts_of types) a p t) ≡ q → HasAt code p (side_code (starts_of types) a p t) → SideAt code b types a t p q
  side_stands (VariableSide l ty) kind t p q numbered end has = omega (arith, end)
  side_stands (CellSide x) kind t p q numbered end has =
      let front = place_code (starts_of types) x p t in
      let o = place_operand (starts_of types) x t in
      let bytes = place_offset (starts_of types) x in
      let back = address_code o bytes t in
      let r = p + length front in
      (o, bytes, r, place_stands code b types raised x t p r numbered refl (has_front code p front back has), address_stands code b types raised o bytes t r q (cut p q front back end) (has_back code p front back has))

  read_stands : (a : Side) (kind : Kind) (s d p q : ℕ) → FitsSide b types a kind → p + length (read_side (starts_of types) a kind s d) ≡ q → HasAt code p (read_side (starts_of types) a kind s d) → ReadAt code b types a kind s d p q
  read_stands (VariableSide l ty) kind s d p q fits end has = load_stands code b types raised l kind (words_of_kind kind) d p q fits end has
  read_stands (CellSide x) kind s d p q fits end has = each_stands code b types raised (load_at kind s) (words_of_kind kind) 0 d p q end has

  write_stands : (a : Side) (kind : Kind) (s v p q : ℕ) → p + length (write_side (starts_of types) a kind s v) ≡ q → HasAt code p (write_side (starts_of types) a kind s v) → WriteAt code b types a kind s v p q
  write_stands (VariableSide (Local w n) ty) kind s v p q end (here, none) = (here, end)
  write_stands (VariableSide (Global n) ty) kind s v p q end has = global_stands code b types raised (words_of_kind kind) (global_of (starts_of types) n) (operands.Slot v) p q end has
  write_stands (CellSide x) kind s v p q end has = stores_stand code b types raised kind (words_of_kind kind) s 0 v p q end has

  swap_stands : (x y : Side) (t p q : ℕ) → FitsSide b types x (kind_of (type_of_side x)) → FitsSide b types y (kind_of (type_of_side x))
      → p + length (swap_code (starts_of types) x y p t) ≡ q → HasAt code p (swap_code (starts_of types) x y p t) → SwapAt code b types x y t p q
  swap_stands x y t p q fits_x fits_y end has =
      let kind = kind_of (type_of_side x) in
      let words = words_of_kind kind in
      let front = side_code (starts_of types) x p t in
      let m = p + length front in
      let middle = side_code (starts_of types) y m (right_slot x t) in
      let r = m + length middle in
      let first = read_side (starts_of types) x kind t (t + 2) in
      let second = read_side (starts_of types) y kind (right_slot x t) (t + 2 + words) in
      let third = write_side (starts_of types) x kind t (t + 2 + words) in
      let fourth = write_side (starts_of types) y kind (right_slot x t) (t + 2) in
      let back = exchange_code (starts_of types) kind x y t in
      let has_rest = has_back code p front (middle ++ back) has in
      let has_all = has_back code m middle back has_rest in
      let has_three = has_back code r first (second ++ (third ++ fourth)) has_all in
      let has_two = has_back code (r + length first) second (third ++ fourth) has_three in
      let s = r + length first in
      let u = s + length second in
      let v = u + length third in
      let end_two = cut s q second (third ++ fourth) (cut r q first (second ++ (third ++ fourth)) (cut m q middle back (cut p q front (middle ++ back) end))) in
      let exchange : ExchangeAt code b types kind x y t r q
      = (
        s,
        u,
        v,
        read_stands x kind t (t + 2) r s fits_x refl (has_front code r first (second ++ (third ++ fourth)) has_all),
        read_stands y kind (right_slot x t) (t + 2 + words) s u fits_y refl (has_front code s second (third ++ fourth) has_three),
        write_stands x kind t (t + 2 + words) u v refl (has_front code u third fourth has_two),
        write_stands y kind (right_slot x t) (t + 2) v q (cut u q third fourth end_two) (has_back code u third fourth has_two),
      ) in (
        m,
        r,
        has_side x kind fits_x,
        has_side y kind fits_y,
        side_stands x kind t p m fits_x refl (has_front code p front (middle ++ back) has),
        side_stands y kind (right_slot x t) m r fits_y refl (has_front code m middle back has_rest),
        exchange,
      )

  thrown_stands : (v : Option Expression) (t p q : ℕ) → FitsThrown b types v → p + length (thrown_code (starts_of types) v p t) ≡ q → HasAt code p (thrown_code (starts_of types) v p t)
      → ThrownAt code b types v (thrown_operand (starts_of types) v t) t p q
  thrown_stands None t p q numbered end has = (refl, omega (arith, end))
  thrown_stands (Some a) t p q numbered end has =
      let slot = value_slot (starts_of types) a t in
      operand_by code b types raised (operand_of (starts_of types) a) _ (expression_code (starts_of types) a p slot t) slot p q end has (λ e h. expression_stands code b types raised a slot t p q numbered e h)

  caught_stands : (x : Option ℕ) (t p q : ℕ) → FitsCaught b types x → p + length (caught_code (starts_of types) x t) ≡ q → HasAt code p (caught_code (starts_of types) x t) → CaughtAt code b types x t p q
  caught_stands None t p q numbered end has = omega (arith, end)
  caught_stands (Some n) t p q (few, room) end (here, none) = (few, room, here, end)

  -- The emitted code is one of two alternatives, chosen by a boolean.
  either_stands : (chosen : Bool) (x y : List Instruction) (p q : ℕ) (stands : Type 0) → p + length (if chosen then x else y) ≡ q → HasAt code p (if chosen then x else y)
      → (chosen ≡ true → p + length x ≡ q → HasAt code p x → stands) → (p + length y ≡ q → HasAt code p y → stands) → stands
  either_stands true x y p q stands end has first second = first refl end has
  either_stands false x y p q stands end has first second = second end has

  mutual
    statement_stands : (s : Statement) (in_loop : Bool) (exits : Exits) (d p q : ℕ) → FitsStatement b types in_loop s → p + length (statement_code (starts_of types) s p exits d) ≡ q → HasAt code p (statement_code (starts_of types) s p exits d) → StatementAt code b types s exits d p q
    statement_stands (Block r js) in_loop exits d p q numbered end has = items_stand js in_loop exits d p q numbered end has
    statement_stands Empty in_loop exits d p q numbered end has = omega (arith, end)
    statement_stands (Evaluate a) in_loop exits t p q numbered end has = discarded_stands a t p q numbered end has
    statement_stands (Swap x y) in_loop exits t p q (fits_x, fits_y) end has = swap_stands x y t p q fits_x fits_y end has
    statement_stands (If a s u) in_loop exits t p q (numbered_a, numbered_s, numbered_u) end has =
        let m = p + length (branch_code (starts_of types) logical.AndThen a 0 p t) in
        let first = statement_code (starts_of types) s (m + 1) exits t in
        let r = m + 1 + length first in
        let last = is_nothing u in
        let other = r + over_length last in
        let condition = branch_code (starts_of types) logical.AndThen a other p t in
        let same = branch_same (starts_of types) logical.AndThen a 0 other p t in
        let second = statement_code (starts_of types) u other exits t in
        let jump_first = failing_jump (branch_of (starts_of types) logical.AndThen a t) other ∷ first in
        let over = over_code last (other + length second) in
        let front = condition ++ jump_first in
        let long : length front ≡ length condition + suc (length first) = length-append condition jump_first in
        let following : p + length condition ≡ m = omega (arith, same) in
        let (jump, has_first) = subst (λ x. HasAt code x jump_first) following (has_back code p condition jump_first (has_front code p front (over ++ second) has)) in
        let has_rest = subst (λ x. HasAt code x (over ++ second)) (let e : p + length front ≡ r = omega (arith, long, same) in e) (has_back code p front (over ++ second) has) in
        let has_second = subst (λ x. HasAt code x second) (ap (λ n. r + n) (over_length_is last (other + length second))) (has_back code r over second has_rest) in
        let end_is : other + length second ≡ q = omega (arith, cut p q front (over ++ second) end, length-append over second, over_length_is last (other + length second), long, same) in (
          other,
          m + 1,
          r,
          branch_stands code b types raised a other t p m numbered_a following (has_front code p condition jump_first (has_front code p front (over ++ second) has)) jump,
          statement_stands s in_loop exits t (m + 1) r numbered_s refl has_first,
          over_stands u r q end_is (has_front code r over second has_rest),
          statement_stands u in_loop exits t other q numbered_u end_is has_second,
        )
      where
        over_stands : (u : Statement) (r q : ℕ) → r + over_length (is_nothing u) + length (statement_code (starts_of types) u (r + over_length (is_nothing u)) exits t) ≡ q
            → HasAt code r (over_code (is_nothing u) (r + over_length (is_nothing u) + length (statement_code (starts_of types) u (r + over_length (is_nothing u)) exits t))) → OverAt code r q
        over_stands Empty r q end has = inl (omega (arith, end))
        over_stands u r q end (jump, none) = inr (subst (λ x. At code r (instructions.Jump x)) end jump)
    statement_stands (While w a s) in_loop exits t p q (numbered_a, numbered_s) end has =
        let front = choice_code (starts_of types) logical.OrElse a p t in
        let x = p + length front + 1 in
        let within = statement_code (starts_of types) s x (inside_loop p p exits) t in
        let second = choice_code (starts_of types) logical.AndThen a (x + length within) t in
        either_stands (goes_through (starts_of types) a s)
        (through_by front (failing_jump (choice_of (starts_of types) logical.OrElse a t)) within second (holding_jump (choice_of (starts_of types) logical.AndThen a t) x) p)
        (looped_code (is_guard (starts_of types) a) (λ n. choice_code (starts_of types) logical.AndThen a n t) (λ leaving. statement_code (starts_of types) s (body_target leaving) (inside_loop p leaving exits) t) (holding_jump (choice_of (starts_of types) logical.AndThen a t)) p)
        p q (StatementAt code b types (While w a s) exits t p q) end has
        (λ goes end has.
        let none = false_from_not (breaks s) (and_parts (is_guard (starts_of types) a) (not (breaks s)) goes).1 in
        let finish = through_end front within second p in
        let leave = failing_jump (choice_of (starts_of types) logical.OrElse a t) finish in
        let rest = holding_jump (choice_of (starts_of types) logical.AndThen a t) x ∷ instructions.Jump (finish + 1) ∷ [] in
        let inner = (within ++ second) ++ rest in
        let (leaves, has_inner) = has_back code p front (leave ∷ inner) has in
        let has_both = has_front code x (within ++ second) rest has_inner in
        let r = x + length within in
        let u = r + length second in
        let long = length-append within second in
        let place : x + length (within ++ second) ≡ u = omega (arith, long) in
        let (back, (jump, nothing)) = subst (λ n. HasAt code n rest) place (has_back code x (within ++ second) rest has_inner) in
        let end_is : finish + 1 ≡ q = omega (arith, end, length-append front (leave ∷ inner), length-append (within ++ second) rest, long) in
        let over : At code (u + 1) (instructions.Jump q) = subst (λ n. At code (u + 1) (instructions.Jump n)) end_is jump in (
          finish,
          x,
          r,
          inl (choice_stands code b types raised a finish t p (p + length front) numbered_a refl (has_front code p front (leave ∷ inner) has) leaves),
          subst (λ n. At code n (instructions.Jump q)) (let last : u + 1 ≡ finish = omega arith in last) over,
          leaving_free code b types s (inside_loop p p exits) finish t x r none (statement_stands s true (inside_loop p p exits) t x r numbered_s refl (has_front code x within second has_both)),
          (u + 1, choice_follows code b types raised a x t r u numbered_a refl (has_back code x within second has_both) back, inr over),
          omega (arith, end_is),
        ))
        (λ end has.
        let guarded = is_guard (starts_of types) a in
        let first = choice_code (starts_of types) logical.AndThen a p t in
        let jump : ℕ → Instruction = λ n. holding_jump (choice_of (starts_of types) logical.AndThen a t) n in
        let l = p + entry_length guarded first in
        let body = statement_code (starts_of types) s (body_target l) (inside_loop p l exits) t in
        let r = body_target l + length body in
        let condition = choice_code (starts_of types) logical.AndThen a r t in
        let m = r + length condition in
        let entry = entry_code guarded first jump r p in
        let test = jump (body_target l) ∷ [] in
        let inner = (body ++ condition) ++ test in
        let entered : p + length entry ≡ l = ap (λ (n : ℕ). p + n) (entry_long guarded first jump r p) in
        let (leave, inner_at) = subst (λ x. HasAt code x (instructions.Jump (m + 1) ∷ inner)) entered (has_back code p entry (instructions.Jump (m + 1) ∷ inner) has) in
        let long : length (body ++ condition) ≡ length body + length condition = length-append body condition in
        let all : length inner ≡ length (body ++ condition) + 1 = length-append (body ++ condition) test in
        let whole : length (entry ++ (instructions.Jump (m + 1) ∷ inner)) ≡ length entry + suc (length inner) = length-append entry (instructions.Jump (m + 1) ∷ inner) in
        let front_has = has_front code (body_target l) (body ++ condition) test inner_at in
        let (again, none) = has_back code (body_target l) (body ++ condition) test inner_at in
        let end_is : m + 1 ≡ q = omega (arith, end, whole, long, all, entered) in (
          l,
          body_target l,
          r,
          entry_stands guarded a exits t p l r numbered_a refl (omega arith) (has_front code p entry (instructions.Jump (m + 1) ∷ inner) has),
          subst (λ x. At code l (instructions.Jump x)) end_is leave,
          statement_stands s true (inside_loop p l exits) t (body_target l) r numbered_s refl (has_front code (body_target l) body condition front_has),
          (
            q,
            subst (λ x. BranchesAt code b types a x (body_target l) t r) end_is
                (choice_follows code b types raised a (body_target l) t r m numbered_a refl (has_back code (body_target l) body condition front_has) (subst (λ x. At code x (jump (body_target l))) (let e : body_target l + length (body ++ condition) ≡ m = omega (arith, long) in e) again)),
            inl refl,
          ),
          omega (arith, end_is),
        ))
    statement_stands (Return v) in_loop exits d p q numbered end has = return_stands v exits d p q numbered end has
    statement_stands Break in_loop exits d p q numbered end has =
        let leave = leave_code exits.in_loop in
        let (here, none) = has_back code p leave (instructions.Jump (break_target exits) ∷ []) has in
        (p + length leave, leave_stands exits.in_loop p (p + length leave) refl (has_front code p leave (instructions.Jump (break_target exits) ∷ []) has), here)
    statement_stands Continue in_loop exits d p q numbered end has =
        let leave = leave_code exits.in_loop in
        let (here, none) = has_back code p leave (instructions.Jump (continue_target exits) ∷ []) has in
        (p + length leave, leave_stands exits.in_loop p (p + length leave) refl (has_front code p leave (instructions.Jump (continue_target exits) ∷ []) has), here)
    statement_stands (Throw tag v) in_loop exits t p q (word, numbered) end has =
        let front = thrown_code (starts_of types) v p t in
        let (here, none) = has_back code p front _ has in
        (word, thrown_operand (starts_of types) v t, p + length front, thrown_stands v t p (p + length front) numbered refl (has_front code p front _ has), here)
    statement_stands (Try s cs) in_loop exits t p q (numbered_s, numbered) end has =
        let kept = kept_code (starts_of types) t in
        let r = p + length kept in
        let within = inside_try exits t in
        let d = after_record (starts_of types) t in
        let body = statement_code (starts_of types) s (r + 1) within d in
        let close = instructions.Leave t ∷ [] in
        let m = r + 1 + length body in
        let out = r + 1 + length (body ++ close) in
        let long : length (body ++ close) ≡ length body + 1 = length-append body close in
        let out_is : out ≡ m + 1 = omega (arith, long) in
        let restored = restored_code (starts_of types) t in
        let u = out + 1 + length restored in
        let clauses = clauses_code (starts_of types) cs u out exits t in
        let later = restored ++ clauses in
        let over = instructions.Jump (out + 1 + length later) in
        let tries = try_code t (body ++ close) later r in
        let (opening, has_tries) = has_back code p kept tries has in
        let all : length ((body ++ close) ++ over ∷ later) ≡ length (body ++ close) + suc (length later) = length-append (body ++ close) (over ∷ later) in
        let end_is : out + 1 + length later ≡ q = omega (arith, cut p q kept tries end, all) in
        let has_front_part = has_front code (r + 1) (body ++ close) (over ∷ later) has_tries in
        let (jump, has_later) = has_back code (r + 1) (body ++ close) (over ∷ later) has_tries in
        let (leave, none) = has_back code (r + 1) body close has_front_part in (
          r,
          m,
          u,
          kept_stands types.scopes t p r refl (has_front code p kept tries has),
          subst (λ n. At code r (instructions.Try t (n + 1))) out_is opening,
          statement_stands s in_loop within d (r + 1) m numbered_s refl (has_front code (r + 1) body close has_front_part),
          leave,
          subst (λ n. At code n (instructions.Jump q)) out_is (subst (λ n. At code out (instructions.Jump n)) end_is jump),
          subst (λ n. RestoredAt code b types types.scopes (t + RECORD_WORDS) (n + 1) u) out_is (restored_stands types.scopes t (out + 1) u refl (has_front code (out + 1) restored clauses has_later)),
          subst (λ n. ClausesAt code b types cs n exits t u q) out_is
              (clauses_stand cs in_loop out exits t u q (omega arith) numbered (cut (out + 1) q restored clauses end_is) (has_back code (out + 1) restored clauses has_later)),
        )

    pub items_stand : (js : Items) (in_loop : Bool) (exits : Exits) (d p q : ℕ) → FitItems b types in_loop js → p + length (items_code (starts_of types) js p exits d) ≡ q → HasAt code p (items_code (starts_of types) js p exits d) → ItemsAt code b types js exits d p q
    items_stand NoItems in_loop exits d p q numbered end has = omega (arith, end)
    items_stand (MoreItems (Execute s) js) in_loop exits d p q (numbered, rest) end has =
        let front = statement_code (starts_of types) s p exits d in
        let back = items_code (starts_of types) js (p + length front) exits d in
        (p + length front, statement_stands s in_loop exits d p (p + length front) numbered refl (has_front code p front back has), items_stand js in_loop exits d (p + length front) q rest (cut p q front back end) (has_back code p front back has))
    items_stand (MoreItems (Declare n t v) js) in_loop exits d p q (few, room, numbered, rest) end has =
        let front = declaration_code (starts_of types) n t v p d in
        let back = items_code (starts_of types) js (p + length front) exits d in
        (p + length front, room, declaration_stands n t v d p (p + length front) few numbered refl (has_front code p front back has), items_stand js in_loop exits d (p + length front) q rest (cut p q front back end) (has_back code p front back has))
    items_stand (MoreItems (DeclareRegion r n) js) in_loop exits d p q ((global, counts), few, room, numbered) end has =
        let front = opened_code (starts_of types) n d in
        let m = p + length front in
        let items = items_code (starts_of types) js m (inside_region exits d) (d + 1) in
        let close = closed_code d in
        let u = m + length items in
        let has_rest = has_back code p front (items ++ close) has in (
          m,
          u,
          opened_stands n global d p m counts few room refl (has_front code p front (items ++ close) has),
          items_stand js in_loop (inside_region exits d) (d + 1) m u numbered refl (has_front code m items close has_rest),
          closed_stands d u q (cut m q items close (cut p q front (items ++ close) end)) (has_back code m items close has_rest),
        )
    items_stand (MoreItems (OpenRegion r n w key) js) in_loop exits d p q (few, room, there, key_room, numbered) end (here, has) =
        (p + 1, (few, room, here, refl), items_stand js in_loop exits d (p + 1) q numbered (omega (arith, end)) has)
    items_stand (MoreItems (DeclareAlias r n t w lent) js) in_loop exits d p q (few, room, there, lent_room, numbered) end (here, has) =
        (p + 1, (few, room, subst (λ words. At code p (move_of words (slot_of (starts_of types) n) (operands.Slot (slot_of (starts_of types) lent)))) (sym (type_words t)) here, refl), items_stand js in_loop exits d (p + 1) q numbered (omega (arith, end)) has)
    items_stand (MoreItems (DeclareKey r n) js) in_loop exits d p q (few, room, numbered) end (ask, (here, has)) =
        let front = dynamic_code (starts_of types) n d in
        let back = items_code (starts_of types) js (p + length front) exits d in
        let m = p + length front in
        (m, ask, (few, room, here, omega arith), items_stand js in_loop exits d m q numbered (cut p q front back end) (has_back code p front back (ask, (here, has))))

    clauses_stand : (cs : Clauses) (in_loop : Bool) (out : ℕ) (exits : Exits) (t p q : ℕ) → out < p → FitClauses b types in_loop cs → p + length (clauses_code (starts_of types) cs p out exits t) ≡ q
        → HasAt code p (clauses_code (starts_of types) cs p out exits t) → ClausesAt code b types cs out exits t p q
    clauses_stand NoClauses in_loop out exits t p q following numbered end (here, none) = here
    clauses_stand (Default r js) in_loop out exits t p q following numbered end has = items_stand js in_loop exits t p q numbered end has
    clauses_stand (Case tag x r js cs) in_loop out exits t p q following (word, caught_fits, numbered, rest) end has =
        let caught = caught_code (starts_of types) x t in
        let m = p + 1 + length caught in
        let items = items_code (starts_of types) js m exits t in
        let u = m + length items in
        let leave = instructions.Jump out ∷ [] in
        let clause = clause_code tag t (caught ++ items) p out in
        let later = clauses_code (starts_of types) cs (p + length clause) out exits t in
        let inner : length (caught ++ items) ≡ length caught + length items = length-append caught items in
        let long : length ((caught ++ items) ++ leave) ≡ length (caught ++ items) + 1 = length-append (caught ++ items) leave in
        let next : p + length clause ≡ u + 1 = omega (arith, inner, long) in
        let over : p + 1 + length (caught ++ items) + 1 ≡ u + 1 = omega (arith, inner) in
        let (jump, has_clause) = has_front code p clause later has in
        let has_inner = has_front code (p + 1) (caught ++ items) leave has_clause in
        let (out_jump, none) = has_back code (p + 1) (caught ++ items) leave has_clause in (
          m,
          u,
          word,
          subst (λ n. At code p (other_jump tag t n)) over jump,
          caught_stands x t (p + 1) m caught_fits refl (has_front code (p + 1) caught items has_inner),
          items_stand js in_loop exits t m u numbered refl (has_back code (p + 1) caught items has_inner),
          subst (λ n. At code n (instructions.Jump out)) (let e : p + 1 + length (caught ++ items) ≡ u = omega (arith, inner) in e) out_jump,
          omega (arith, following),
          clauses_stand cs in_loop out exits t (u + 1) q (omega (arith, following)) rest
              (subst (λ n. n + length (clauses_code (starts_of types) cs n out exits t) ≡ q) next (cut p q clause later end))
              (subst (λ n. HasAt code n (clauses_code (starts_of types) cs n out exits t)) next (has_back code p clause later has)),
        )
