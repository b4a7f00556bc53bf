-- Block items, blocks, catch clauses and all statements are parsed back from their yields.
use Rattle.std.proofs.Common.{◌≡◌, ℕ, zero, suc, ◌≤◌, Bool, true, false, cond, List, [], ◌∷◌, ◌++◌, length, Option, Some, None, refl, sym, ap, subst, ◌∙◌, arith, append-nil, zero-le, length-append}
use Rattle.cyc_syntax.specs.declared.tokens.Keyword.TheVariants as words
use Rattle.cyc_syntax.specs.declared.tokens.Sign.TheVariants as signs
use Rattle.cyc_syntax.specs.declared.tree.PointerKind.{PointerKind}
use Rattle.cyc_syntax.specs.declared.tree.PointerKind.TheVariants as pointers
use Rattle.cyc_syntax.specs.Symbols.{Place, Terminal, Identifier, RegionName, Word, Mark, Symbol}
use Rattle.cyc_syntax.specs.Trees.{Named, Pointer, BaseType, Int, Char, Struct, Handle, Key, WrittenType, Expression, Statement, Block, Labelled, Empty, Evaluate, Swap, If, IfElse, While}
use Rattle.cyc_syntax.specs.Trees.{Return, Break, Continue, Throw, Try, Braces, Items, NoItems, MoreItems, Item, Execute, Local, Region, Alias, DynamicRegion, Clauses, NoClauses, Default, Case}
use Rattle.cyc_syntax.specs.Yields.{Leaf, Yield, mark_sign}
use Rattle.cyc_syntax.specs.Yields as yields
use Rattle.cyc_syntax.specs.Grammar.{IsExpressionOrNone, wants_else, IsStatement, AreItems, IsItem, AreClauses, IsSomeClause}
use Rattle.cyc_parse.specs.inside.Parsing.{Parser, ◌>>=◌, ◌>>◌, pure, next, inside, sees, sees_terminal, starts, opens_low_byte, sign, word, identifier, bind, choose}
use Rattle.cyc_parse.specs.inside.Types.{begins_type, region_of}
use Rattle.cyc_parse.specs.inside.Statements.{begins_statement, begins_item, begins_clause, is_case, is_default, is_else, nested_statements, statement, executed, item, item_by, local, local_value, opened_key, new_key, let_by, items_in, items, caught, clauses_in, clauses, body}
use Rattle.cyc_parse.proofs.Rules.{Front, Reads, starting_reads, deep_refusal, Fits, Always, starts-next, starts_append, leaf_of, leaf_at, front-next, front-length, then_reads, last_reads, pure_reads, reads_instead}
use Rattle.cyc_parse.proofs.Rules.{reads_before, word_reads, sign_reads, identifier_reads, choose_reads, advance_reads, sees_reads, unseen_reads, word_deep_reads, sign_deep_reads, starts_reads, unstarted_reads, deep_reads}
use Rattle.cyc_parse.proofs.Stops.{Stops, stops_leaf}
use Rattle.cyc_parse.proofs.TypeReads.{type_starts, type_reads, region_of_reads_any}
use Rattle.cyc_parse.proofs.ExpressionReads.{deeper, shallow, NoParen}
use Rattle.cyc_parse.proofs.Starts.{OpensParen}
use Rattle.cyc_parse.proofs.StatementStarts.{statement_starts, statement_char_opens, item_starts}
use Rattle.cyc_parse.proofs.StatementReads.{EndsStatement, EndsBlock, EndsClauses, expression_at, ReadsStatement, ReadsItems, body_reads, block_reads, labelled_reads, empty_reads}
use Rattle.cyc_parse.proofs.StatementReads.{evaluate_reads, swap_reads, if_reads, if_else_reads, while_reads, return_reads, break_reads, continue_reads, throw_reads, try_reads}

-- Conditions on the symbols that may follow a declaration or statement of a block.
abbrev pub EndsItem : Item → List Symbol → Type 0
EndsItem (Execute s) = EndsStatement (wants_else s)
EndsItem (Local t x v) = Always
EndsItem (Region r h k) = Always
EndsItem (Alias r t x y) = Always
EndsItem (DynamicRegion r k) = Always

no_assign_leaf : (d : ℕ) (mid rest : List Symbol) → Front (leaf_of d (Mark signs.Semicolon) ∷ []) mid rest → sees signs.Assign mid ≡ false
no_assign_leaf d mid rest front = ap (sees_terminal signs.Assign) (front-next (leaf_of d (Mark signs.Semicolon)) [] mid rest front)

-- no `=` follows
pub record NoAssign (ts : List Symbol) : Type 0 where
  pub assign : sees signs.Assign ts ≡ false

pub record EndsGiven (ts : List Symbol) : Type 0 where
  pub assign : sees signs.Assign ts ≡ false
  pub stops : Stops 11 ts

-- `open(key)` is parsed back from its yield, even at the deepest permitted nesting.
open_reads : (room d : ℕ) → Fits room d → (k : Named) (Ends : List Symbol → Type 0)
    → Reads (word room words.Open >> sign room signs.LeftParen >> identifier (inside room) >>= (λ x. sign (inside room) signs.RightParen >> pure (Some x))) (Some k)
    (leaf_of d (Word words.Open) ∷ leaf_of d (Mark signs.LeftParen) ∷ leaf_at (suc d) (Identifier k.name) k.place ∷ leaf_of (suc d) (Mark signs.RightParen) ∷ []) Ends
open_reads zero d fits k Ends = word_deep_reads d words.Open _ (omega arith)
open_reads (suc room) d fits k Ends = word_reads (suc room) d words.Open _ fits (λ p. sign_reads (suc room) d signs.LeftParen _ fits (λ p. identifier_reads room (suc d) k _ (deeper room d fits)
    (sign_reads room (suc d) signs.RightParen _ (deeper room d fits) (λ p. pure_reads (Some k) Ends))))

-- `(variable)` in a catch clause is parsed back from its yield, even at the deepest permitted nesting.
caught_reads : (room d : ℕ) → Fits room d → (v : Option Named) → Reads (caught room (nested_statements room)) v (yields.optional (yields.caught d) v) NoParen
caught_reads room d fits None = unseen_reads signs.LeftParen _ _ (λ ts rest front ends. ap (sees signs.LeftParen) front ∙ ends.paren) (pure_reads None NoParen)
caught_reads zero d fits (Some x) = sees_reads signs.LeftParen _ _ (leaf_of d (Mark signs.LeftParen)) _ refl (sign_deep_reads d signs.LeftParen _ (omega arith))
caught_reads (suc room) d fits (Some x) = sees_reads signs.LeftParen _ _ (leaf_of d (Mark signs.LeftParen)) _ refl (sign_reads (suc room) d signs.LeftParen _ fits (λ p. identifier_reads room (suc d) x _ (deeper room d fits)
    (sign_reads room (suc d) signs.RightParen _ (deeper room d fits) (λ p. pure_reads (Some x) NoParen))))

key_reads : (room d : ℕ) → Fits (suc room) d → (Ends : List Symbol → Type 0)
    → Reads (word room words.NewKey >> sign room signs.LeftParen >> sign (inside room) signs.RightParen >> sign (suc room) signs.Semicolon >> pure (tt {0})) (tt {0})
    (leaf_of (suc d) (Word words.NewKey) ∷ leaf_of (suc d) (Mark signs.LeftParen) ∷ leaf_of (suc (suc d)) (Mark signs.RightParen) ∷ leaf_of d (Mark signs.Semicolon) ∷ []) Ends
key_reads zero d fits Ends = word_deep_reads (suc d) words.NewKey _ (omega arith)
key_reads (suc room) d fits Ends = word_reads (suc room) (suc d) words.NewKey _ (omega arith) (λ p. sign_reads (suc room) (suc d) signs.LeftParen _ (omega arith) (λ p. sign_reads room (suc (suc d)) signs.RightParen _ (omega arith) (λ p.
    sign_reads (suc (suc room)) d signs.Semicolon _ fits (λ p. pure_reads (tt {0}) Ends))))

-- `<region>` is parsed back from its yield, even at the deepest permitted nesting.
region_inside_reads : {C : Type 0} (room d : ℕ) → Fits room d → (r : Named) (f : Named → Parser C) {y : C} {ys : Yield} {Ends : List Symbol → Type 0} → Reads (f r) y ys Ends
    → Reads (bind (region_of room) f) y (leaf_of d (Mark signs.Less) ∷ leaf_at d (RegionName r.name) r.place ∷ leaf_of d (Mark signs.Greater) ∷ ys) Ends
region_inside_reads room d fits r f h = then_reads f (region_of_reads_any room d fits r Always) h (λ mid rest front ends. tt)

-- ---- `char` at the start of an item, and the symbol after it

mark_no_paren : (k : PointerKind) → sees_terminal signs.LeftParen (Some (Mark (mark_sign k))) ≡ false
mark_no_paren pointers.Nullable = refl
mark_no_paren pointers.NonNull = refl
mark_no_paren pointers.Fat = refl

-- In a declaration, a name follows the type, so no parenthesis follows `char`.
marks_no_paren : (d i : ℕ) (ms : List Pointer) (x : Named) (ys : Yield) (mid rest : List Symbol) → Front (yields.each (yields.mark d) i ms ++ leaf_at d (Identifier x.name) x.place ∷ ys) mid rest → sees signs.LeftParen mid ≡ false
marks_no_paren d i [] x ys mid rest front = ap (sees_terminal signs.LeftParen) (front-next (leaf_at d (Identifier x.name) x.place) ys mid rest front)
marks_no_paren d i (m ∷ ms) x ys mid rest (t, more, e, is_leaf, front) = ap (sees signs.LeftParen) e ∙ ap (λ (u : Terminal). sees_terminal signs.LeftParen (Some u)) is_leaf.terminal ∙ mark_no_paren m.kind

type_opens_none : (d : ℕ) (p : Place) (b : BaseType) (ms : List Pointer) (x : Named) (ys : Yield) (ts rest : List Symbol)
    → Front ((yields.base_type d p b ++ yields.marks d ms) ++ leaf_at d (Identifier x.name) x.place ∷ ys) ts rest → opens_low_byte ts ≡ false
type_opens_none d p Int ms x ys ts rest (t, more, e, is_leaf, front) = ap opens_low_byte e ∙ rw (is_leaf.terminal) refl
type_opens_none d p Char ms x ys ts rest (t, more, e, is_leaf, front) = ap opens_low_byte e ∙ rw (is_leaf.terminal) (marks_no_paren d 1 ms x ys more rest front)
type_opens_none d p (Struct s rs) ms x ys ts rest (t, more, e, is_leaf, front) = ap opens_low_byte e ∙ rw (is_leaf.terminal) refl
type_opens_none d p (Handle r) ms x ys ts rest (t, more, e, is_leaf, front) = ap opens_low_byte e ∙ rw (is_leaf.terminal) refl
type_opens_none d p (Key r) ms x ys ts rest (t, more, e, is_leaf, front) = ap opens_low_byte e ∙ rw (is_leaf.terminal) refl

-- If a statement begins with `char`, a parenthesis follows the `char`.
opens_here : (leaf : Leaf) (ys : Yield) (ts rest : List Symbol) → Front (leaf ∷ ys) ts rest → leaf.terminal ≡ Word words.Char → OpensParen ys → opens_low_byte ts ≡ true
opens_here leaf [] ts rest front is opens = absurd opens
opens_here leaf (other ∷ ys) ts rest (t, more, e, is_leaf, (u, mores, f, is_other, front)) is opens =
    ap opens_low_byte (e ∙ ap (λ (w : List Symbol). t ∷ w) f) ∙ rw (is_leaf.terminal ∙ is) (rw (is_other.terminal ∙ opens) refl)

module _ (room d : ℕ) (fits : Fits (suc room) d) where
  by_choice : {x : Item} {Ends : List Symbol → Type 0} (leaf : Leaf) (ys : Yield) → Reads (item_by room (nested_statements room) (Some leaf.terminal)) x (leaf ∷ ys) Ends → Reads (item room (nested_statements room)) x (leaf ∷ ys) Ends
  unfolding item
  by_choice leaf ys h = choose_reads (item_by room (nested_statements room)) leaf ys h

  local_value_reads : (v : Option Expression) → IsExpressionOrNone v → Reads (local_value room (nested_statements room)) v (yields.optional (yields.given d) v) EndsGiven
  local_value_reads None is = unseen_reads signs.Assign _ _ (λ ts rest front ends. ap (sees signs.Assign) front ∙ ends.assign) (pure_reads None EndsGiven)
  local_value_reads (Some e) is = sees_reads signs.Assign _ _ (leaf_of d (Mark signs.Assign)) _ refl (sign_reads (suc room) d signs.Assign _ fits (λ p.
      last_reads (λ (v : Expression). pure (Some v)) (λ ts. refl) (reads_before (Stops 11) (expression_at room (suc d) (deeper room d fits) e is) (λ rest ends. ends.stops))))

  local_reads : (t : WrittenType) (x : Named) (v : Option Expression) (Ends : List Symbol → Type 0) → IsExpressionOrNone v → Reads (local room (nested_statements room)) (Local t x v) (yields.item d (Local t x v)) Ends
  local_reads t x v Ends is = then_reads _ (type_reads (suc room) d fits (shallow room d fits) t) (identifier_reads (suc room) d x _ fits (then_reads _ (local_value_reads v is)
      (sign_reads (suc room) d signs.Semicolon _ fits (λ p. pure_reads (Local t x v) Ends))
      (λ mid rest front ends. record { assign = no_assign_leaf d mid rest front; stops = stops_leaf 11 (leaf_of d (Mark signs.Semicolon)) [] mid rest refl (omega arith) front })))
      (λ mid rest front ends. record { name = x.name; comes = front-next (leaf_at d (Identifier x.name) x.place) (yields.optional (yields.given d) v ++ leaf_of d (Mark signs.Semicolon) ∷ []) mid rest front })

  by_type : (t : Terminal) → begins_type t ≡ true → (ts : List Symbol) → opens_low_byte ts ≡ false → item_by room (nested_statements room) (Some t) ts ≡ local room (nested_statements room) ts
  by_type (Word words.Int) h ts none = refl
  by_type (Word words.Char) h ts none = ap (λ (b : Bool). cond b (executed room (nested_statements room)) (local room (nested_statements room)) ts) none
  by_type (Word words.Struct) h ts none = refl
  by_type (Word words.RegionType) h ts none = refl
  by_type (Word words.KeyType) h ts none = refl
  by_type (Word _) h ts none = absurd (cc)
  by_type _ h ts none = absurd (cc)

  pub local_item_reads : (t : WrittenType) (x : Named) (v : Option Expression) (Ends : List Symbol → Type 0) → IsExpressionOrNone v → Reads (item room (nested_statements room)) (Local t x v) (yields.item d (Local t x v)) Ends
  unfolding item choose
  local_item_reads t x v Ends is = reads_instead (local room (nested_statements room)) (λ ts rest front ends.
      ap (λ (o : Option Terminal). item_by room (nested_statements room) o ts) (starts-next (type_starts d t) _ ts rest front)
      ∙ by_type ((type_starts d t).first.terminal) ((type_starts d t).begin) ts (type_opens_none d t.place t.base t.marks x _ ts rest front)) (local_reads t x v Ends is)

  opened_reads : (k : Option Named) → Reads (opened_key room (nested_statements room)) k (yields.optional (yields.opened d) k) NoAssign
  opened_reads None = unseen_reads signs.Assign _ _ (λ ts rest front ends. ap (sees signs.Assign) front ∙ ends.assign) (pure_reads None NoAssign)
  opened_reads (Some k) = sees_reads signs.Assign _ _ (leaf_of d (Mark signs.Assign)) _ refl (sign_reads (suc room) d signs.Assign _ fits (λ p. open_reads room (suc d) (deeper room d fits) k NoAssign))

  pub region_reads : (r h : Named) (k : Option Named) (Ends : List Symbol → Type 0) → Reads (item room (nested_statements room)) (Region r h k) (yields.item d (Region r h k)) Ends
  region_reads r h k Ends = by_choice (leaf_of d (Word words.Region)) _ (word_reads (suc room) d words.Region _ fits (λ p. then_reads _ (region_of_reads_any (suc room) d fits r Always)
      (identifier_reads (suc room) d h _ fits (then_reads _ (opened_reads k) (sign_reads (suc room) d signs.Semicolon _ fits (λ q. pure_reads (Region r h k) Ends)) (λ mid rest front ends. record { assign = no_assign_leaf d mid rest front })))
      (λ mid rest front ends. tt)))

  pub alias_reads : (r : Named) (t : WrittenType) (x y : Named) (Ends : List Symbol → Type 0) → Reads (item room (nested_statements room)) (Alias r t x y) (yields.item d (Alias r t x y)) Ends
  alias_reads r t x y Ends = by_choice (leaf_of d (Word words.Let)) _ (advance_reads _ (leaf_of d (Word words.Let)) (shallow room d fits) zero-le (λ p _.
      choose_reads (let_by room (nested_statements room)) (leaf_of d (Word words.Alias)) _ (word_reads (suc room) d words.Alias _ fits (λ p. then_reads _ (region_of_reads_any (suc room) d fits r Always)
      (then_reads _ (type_reads (suc room) d fits (shallow room d fits) t) (identifier_reads (suc room) d x _ fits (sign_reads (suc room) d signs.Assign _ fits (λ q.
      identifier_reads room (suc d) y _ (deeper room d fits) (sign_reads (suc room) d signs.Semicolon _ fits (λ q. pure_reads (Alias r t x y) Ends)))))
      (λ mid rest front ends. record { name = x.name; comes = front-next (leaf_at d (Identifier x.name) x.place) (leaf_of d (Mark signs.Assign) ∷ leaf_at (suc d) (Identifier y.name) y.place ∷ leaf_of d (Mark signs.Semicolon) ∷ []) mid rest front }))
      (λ mid rest front ends. tt)))))

  new_key_reads : (Ends : List Symbol → Type 0) → Reads (new_key room (nested_statements room)) (tt {0})
      (leaf_of d (Mark signs.Assign) ∷ leaf_of (suc d) (Word words.NewKey) ∷ leaf_of (suc d) (Mark signs.LeftParen) ∷ leaf_of (suc (suc d)) (Mark signs.RightParen) ∷ leaf_of d (Mark signs.Semicolon) ∷ []) Ends
  new_key_reads Ends = sign_reads (suc room) d signs.Assign _ fits (λ p. key_reads room d fits Ends)

  pub dynamic_reads : (r k : Named) (Ends : List Symbol → Type 0) → Reads (item room (nested_statements room)) (DynamicRegion r k) (yields.item d (DynamicRegion r k)) Ends
  dynamic_reads r k Ends = by_choice (leaf_of d (Word words.Let)) _ (advance_reads _ (leaf_of d (Word words.Let)) (shallow room d fits) zero-le (λ p _.
      choose_reads (let_by room (nested_statements room)) (leaf_of d (Word words.NewDynamicRegion)) _ (word_reads (suc room) d words.NewDynamicRegion _ fits (λ p. sign_reads (suc room) d signs.LeftBrace _ fits (λ p.
      region_inside_reads room (suc d) (deeper room d fits) r _ (identifier_reads room (suc d) k _ (deeper room d fits) (sign_reads room (suc d) signs.RightBrace _ (deeper room d fits) (λ p.
      last_reads (λ (v : Unit {0}). pure (DynamicRegion r k)) (λ ts. refl) (new_key_reads Ends)))))))))

  -- ---- items that are statements

  by_statement : (t : Terminal) → begins_statement t ≡ true → (ts : List Symbol) → (t ≡ Word words.Char → opens_low_byte ts ≡ true) → item_by room (nested_statements room) (Some t) ts ≡ executed room (nested_statements room) ts
  by_statement (Word words.Int) h ts opens = absurd (cc)
  by_statement (Word words.Char) h ts opens = ap (λ (b : Bool). cond b (executed room (nested_statements room)) (local room (nested_statements room)) ts) (opens refl)
  by_statement (Word words.Struct) h ts opens = absurd (cc)
  by_statement (Word words.RegionType) h ts opens = absurd (cc)
  by_statement (Word words.KeyType) h ts opens = absurd (cc)
  by_statement (Word words.Region) h ts opens = absurd (cc)
  by_statement (Word words.Let) h ts opens = absurd (cc)
  by_statement (Word _) h ts opens = refl
  by_statement _ h ts opens = refl

  pub execute_reads : (s : Statement) → Reads (statement room (nested_statements room)) s (yields.statement d s) (EndsStatement (wants_else s)) → Reads (item room (nested_statements room)) (Execute s) (yields.item d (Execute s)) (EndsStatement (wants_else s))
  unfolding item choose
  execute_reads s h = reads_instead (executed room (nested_statements room))
      (λ ts rest front ends. ap (λ (o : Option Terminal). item_by room (nested_statements room) o ts) (starts-next (statement_starts d s) [] ts rest (subst (λ (zs : Yield). Front zs ts rest) (sym (append-nil (yields.statement d s))) front))
      ∙ by_statement ((statement_starts d s).first.terminal) ((statement_starts d s).begin) ts
      (λ is. opens_here (statement_starts d s).first (statement_starts d s).others ts rest (subst (λ (zs : Yield). Front zs ts rest) (statement_starts d s).are front) is (statement_char_opens d s is)))
      (last_reads (λ (v : Statement). pure (Execute v)) (λ ts. refl) h)

-- ---- lists of items

abbrev pub item_count : Items → ℕ
item_count NoItems = 0
item_count (MoreItems i is) = suc (item_count is)

item-length : (d : ℕ) (i : Item) → 1 ≤ length (yields.item d i)
item-length d i = let s = item_starts d i in subst (λ (ys : Yield). 1 ≤ length ys) (sym s.are) (omega arith)

item_count-length : (d : ℕ) (is : Items) → item_count is ≤ length (yields.items d is)
item_count-length d NoItems = omega arith
item_count-length d (MoreItems i is) = omega (arith, item_count-length d is, item-length d i, length-append (yields.item d i) (yields.items d is))

-- A declaration or statement of a block is parsed back from its yield.
pub record ReadsItem (room d : ℕ) (i : Item) : Type 0 where
  pub reads : Reads (item room (nested_statements room)) i (yields.item d i) (EndsItem i)

abbrev pub AllRead : ℕ → ℕ → Items → Type 0
AllRead room d NoItems = Unit {0}
AllRead room d (MoreItems i is) = ReadsItem room d i × AllRead room d is

begins_no_else : (t : Terminal) → begins_item t ≡ true → is_else t ≡ false
begins_no_else (Word words.Else) h = absurd (cc)
begins_no_else (Word _) h = refl
begins_no_else _ h = refl

next_no_else : (d : ℕ) (is : Items) (mid rest : List Symbol) → Front (yields.items d is) mid rest → EndsBlock rest → starts is_else (next mid) ≡ false
next_no_else d NoItems mid rest front ends = ap (λ (w : List Symbol). starts is_else (next w)) front ∙ ends.no_else
next_no_else d (MoreItems i is) mid rest front ends = ap (starts is_else) (starts-next (item_starts d i) (yields.items d is) mid rest front) ∙ begins_no_else ((item_starts d i).first.terminal) ((item_starts d i).begin)

ends_item : (i : Item) (ts : List Symbol) → starts is_else (next ts) ≡ false → EndsItem i ts
ends_item (Execute s) ts h = record { no_else = λ wants. h }
ends_item (Local t x v) ts h = tt
ends_item (Region r x k) ts h = tt
ends_item (Alias r t x y) ts h = tt
ends_item (DynamicRegion r k) ts h = tt

module _ (room d : ℕ) (fits : Fits (suc room) d) where
  items_in_reads : (turns : ℕ) (is : Items) → item_count is ≤ turns → AllRead room d is → Reads (items_in room (nested_statements room) turns) is (yields.items d is) EndsBlock
  unfolding items_in
  items_in_reads zero NoItems few all = pure_reads NoItems EndsBlock
  items_in_reads zero (MoreItems i is) few all = absurd (omega arith)
  items_in_reads (suc turns) NoItems few all = unstarted_reads begins_item _ _ (λ ts rest front ends. ap (λ (w : List Symbol). starts begins_item (next w)) front ∙ ends.item) (pure_reads NoItems EndsBlock)
  items_in_reads (suc turns) (MoreItems i is) few (one, all) = starting_reads begins_item d _ _ (starts_append (yields.items d is) (item_starts d i))
      (then_reads _ one.reads (last_reads (λ (v : Items). pure (MoreItems i v)) (λ ts. refl) (items_in_reads turns is (omega arith) all)) (λ mid rest front ends. ends_item i mid (next_no_else d is mid rest front ends)))

  items_here : (is : Items) → AllRead room d is → Reads (items room (nested_statements room)) is (yields.items d is) EndsBlock
  items_here is all = record { reads = λ ts rest front ends. (items_in_reads (length ts) is (omega (arith, item_count-length d is, front-length (yields.items d is) ts rest front)) all).reads ts rest front ends }

pub items_read : (is : Items) → ((room d : ℕ) → Fits (suc room) d → AllRead room d is) → (room d : ℕ) → Fits room d → ReadsItems room d is
unfolding nested_statements
items_read NoItems all zero d fits = record { reads = unstarted_reads begins_item _ _ (λ ts rest front ends. ap (λ (w : List Symbol). starts begins_item (next w)) front ∙ ends.item) (pure_reads NoItems EndsBlock) }
items_read (MoreItems i is) all zero d fits = record { reads = starting_reads begins_item d _ _ (starts_append (yields.items d is) (item_starts d i)) (deep_refusal d (omega arith) (starts_append (yields.items d is) (item_starts d i))) }
items_read is all (suc room) d fits = record { reads = items_here room d fits is (all room d fits) }

-- ---- clauses

abbrev pub clause_count : Clauses → ℕ
clause_count NoClauses = 0
clause_count (Default is) = 1
clause_count (Case x v is cs) = suc (clause_count cs)

clause_count-length : (d : ℕ) (cs : Clauses) → clause_count cs ≤ length (yields.clauses d cs)
clause_count-length d NoClauses = omega arith
clause_count-length d (Default is) = omega arith
clause_count-length d (Case x v is cs) = simp length-append (omega (arith, clause_count-length d cs))

abbrev pub ClausesRead : ℕ → ℕ → Clauses → Type 0
ClausesRead room d NoClauses = Unit {0}
ClausesRead room d (Default is) = ReadsItems room d is
ClausesRead room d (Case x v is cs) = ReadsItems room d is × ClausesRead room d cs

-- Conditions on the symbols that may follow the declarations and statements of a catch clause.
next_clause : (d : ℕ) (cs : Clauses) (mid rest : List Symbol) → Front (yields.clauses d cs) mid rest → EndsClauses rest → EndsBlock mid
next_clause d NoClauses mid rest front ends = subst EndsBlock (sym front) ends.block
next_clause d (Default is) mid rest front ends = let n : next mid ≡ Some (Word words.Default) = front-next (leaf_of d (Word words.Default)) (leaf_of d (Mark signs.Colon) ∷ yields.items d is) mid rest front in
    record { item = ap (starts begins_item) n; no_else = ap (starts is_else) n }
next_clause d (Case x v is cs) mid rest (t, more, e, is_leaf, front) ends = let n : next mid ≡ Some (Word words.Case) = ap next e ∙ ap Some is_leaf.terminal in
    record { item = ap (starts begins_item) n; no_else = ap (starts is_else) n }

no_case : (o : Option Terminal) → starts begins_clause o ≡ false → starts is_case o ≡ false
no_case None h = refl
no_case (Some (Word words.Case)) h = absurd (cc)
no_case (Some (Word _)) h = refl
no_case (Some _) h = refl

no_default : (o : Option Terminal) → starts begins_clause o ≡ false → starts is_default o ≡ false
no_default None h = refl
no_default (Some (Word words.Default)) h = absurd (cc)
no_default (Some (Word _)) h = refl
no_default (Some _) h = refl

clauses_in_reads : (room d : ℕ) → Fits room d → (turns : ℕ) (cs : Clauses) → clause_count cs ≤ turns → ClausesRead room d cs → Reads (clauses_in room (nested_statements room) turns) cs (yields.clauses d cs) EndsClauses
unfolding clauses_in
clauses_in_reads room d fits zero NoClauses few all = pure_reads NoClauses EndsClauses
clauses_in_reads room d fits zero (Default is) few all = absurd (omega arith)
clauses_in_reads room d fits zero (Case x v is cs) few all = absurd (omega arith)
clauses_in_reads room d fits (suc turns) NoClauses few all = unstarted_reads is_case _ _ (λ ts rest front ends. ap (λ (w : List Symbol). starts is_case (next w)) front ∙ no_case (next rest) ends.clause)
    (unstarted_reads is_default _ _ (λ ts rest front ends. ap (λ (w : List Symbol). starts is_default (next w)) front ∙ no_default (next rest) ends.clause) (pure_reads NoClauses EndsClauses))
clauses_in_reads room d fits (suc turns) (Default is) few all = unstarted_reads is_case _ _ (λ ts rest front ends. ap (starts is_case) (front-next (leaf_of d (Word words.Default)) (leaf_of d (Mark signs.Colon) ∷ yields.items d is) ts rest front))
    (starts_reads is_default _ _ (leaf_of d (Word words.Default)) _ refl (word_reads room d words.Default _ fits (λ p. sign_reads room d signs.Colon _ fits (λ p. last_reads (λ (w : Items). pure (Default w)) (λ ts. refl) (reads_before EndsBlock all.reads (λ rest ends. ends.block))))))
clauses_in_reads room d fits (suc turns) (Case x v is cs) few (one, all) = starts_reads is_case _ _ (leaf_of d (Word words.Case)) _ refl (word_reads room d words.Case _ fits (λ p. sign_reads room d signs.And _ fits (λ p. identifier_reads room d x _ fits
    (then_reads _ (caught_reads room d fits v) (sign_reads room d signs.Colon _ fits (λ p.
    then_reads _ one.reads (last_reads (λ (w : Clauses). pure (Case x v is w)) (λ ts. refl) (clauses_in_reads room d fits turns cs (omega arith) all)) (λ mid rest front ends. next_clause d cs mid rest front ends)))
    (λ mid rest (t, more, e, is_leaf, front) ends. record { paren = ap (sees_terminal signs.LeftParen) (ap next e ∙ ap Some is_leaf.terminal) })))))

clauses_reads : (room d : ℕ) → Fits room d → (cs : Clauses) → IsSomeClause cs → ClausesRead room d cs → Reads (clauses room (nested_statements room)) cs (yields.clauses d cs) EndsClauses
clauses_reads room d fits NoClauses some all = absurd some
clauses_reads room d fits (Default is) some all = starts_reads begins_clause _ _ (leaf_of d (Word words.Default)) _ refl (record {
  reads = λ ts rest front ends.
      (clauses_in_reads room d fits (length ts) (Default is) (omega (arith, clause_count-length d (Default is), front-length (yields.clauses d (Default is)) ts rest front)) all).reads ts rest front ends;
})
clauses_reads room d fits (Case x v is cs) some all = starts_reads begins_clause _ _ (leaf_of d (Word words.Case)) _ refl (record {
  reads = λ ts rest front ends.
      (clauses_in_reads room d fits (length ts) (Case x v is cs) (omega (arith, clause_count-length d (Case x v is cs), front-length (yields.clauses d (Case x v is cs)) ts rest front)) all).reads ts rest front ends;
})

-- ---- all statements

-- A statement is parsed back from its yield, even at the deepest permitted nesting.
statement_read : (s : Statement) → ((room d : ℕ) → Fits (suc room) d → IsStatement s → Reads (statement room (nested_statements room)) s (yields.statement d s) (EndsStatement (wants_else s)))
    → (room d : ℕ) → Fits room d → IsStatement s → ReadsStatement room d s
unfolding nested_statements
statement_read s h zero d fits is = record { reads = deep_reads begins_statement d (omega arith) (statement_starts d s) }
statement_read s h (suc room) d fits is = record { reads = h room d fits is }

read_here : (room d : ℕ) (s : Statement) → ReadsStatement (suc room) d s → Reads (statement room (nested_statements room)) s (yields.statement d s) (EndsStatement (wants_else s))
unfolding nested_statements
read_here room d s h = h.reads

mutual
  -- EVERY STATEMENT is parsed back from its yield.
  pub all_statements : (s : Statement) (room d : ℕ) → Fits room d → IsStatement s → ReadsStatement room d s
  all_statements (Block (Braces p is q)) = statement_read (Block (Braces p is q)) (λ room d fits are. block_reads room d fits p is q (EndsStatement false) (items_read is (λ r n f. all_items is r n f are) room (suc d) (deeper room d fits)))
  all_statements (Labelled l (Braces p is q)) = statement_read (Labelled l (Braces p is q)) (λ room d fits are. labelled_reads room d fits l p is q (EndsStatement false) (items_read is (λ r n f. all_items is r n f are) room (suc d) (deeper room d fits)))
  all_statements (Empty p) = statement_read (Empty p) (λ room d fits are. empty_reads room d fits p (EndsStatement false))
  all_statements (Evaluate e) = statement_read (Evaluate e) (λ room d fits are. evaluate_reads room d fits e (EndsStatement false) are)
  all_statements (Swap a b) = statement_read (Swap a b) (λ room d fits (left, right). swap_reads room d fits a b (EndsStatement false) left right)
  all_statements (If p c s) = statement_read (If p c s) (λ room d fits (condition, first). if_reads room d fits p c s condition (all_statements s room (suc d) (deeper room d fits) first))
  all_statements (IfElse p c s t) = statement_read (IfElse p c s t) (λ room d fits (condition, first, closed, second). if_else_reads room d fits p c s t condition closed (all_statements s room (suc d) (deeper room d fits) first) (all_statements t room (suc d) (deeper room d fits) second))
  all_statements (While p c s) = statement_read (While p c s) (λ room d fits (condition, first). while_reads room d fits p c s condition (all_statements s room (suc d) (deeper room d fits) first))
  all_statements (Return p v) = statement_read (Return p v) (λ room d fits are. return_reads room d fits p v (EndsStatement false) are)
  all_statements (Break p) = statement_read (Break p) (λ room d fits are. break_reads room d fits p (EndsStatement false))
  all_statements (Continue p) = statement_read (Continue p) (λ room d fits are. continue_reads room d fits p (EndsStatement false))
  all_statements (Throw p x v) = statement_read (Throw p x v) (λ room d fits are. throw_reads room d fits p x v (EndsStatement false) are)
  all_statements (Try p s cs) = statement_read (Try p s cs) (λ room d fits (first, some, are). try_reads room d fits p s cs (EndsStatement false) (all_statements s room (suc d) (deeper room d fits) first)
      (clauses_reads room (suc d) (deeper room d fits) cs some (all_clauses cs room (suc d) (deeper room d fits) are)))

  all_items : (is : Items) (room d : ℕ) → Fits (suc room) d → AreItems is → AllRead room d is
  all_items NoItems room d fits are = tt
  all_items (MoreItems i is) room d fits (one, are) = (one_item i room d fits one, all_items is room d fits are)

  one_item : (i : Item) (room d : ℕ) → Fits (suc room) d → IsItem i → ReadsItem room d i
  one_item (Execute s) room d fits is = record { reads = execute_reads room d fits s (read_here room d s (all_statements s (suc room) d fits is)) }
  one_item (Local t x v) room d fits is = record { reads = local_item_reads room d fits t x v Always is }
  one_item (Region r h k) room d fits is = record { reads = region_reads room d fits r h k Always }
  one_item (Alias r t x y) room d fits is = record { reads = alias_reads room d fits r t x y Always }
  one_item (DynamicRegion r k) room d fits is = record { reads = dynamic_reads room d fits r k Always }

  all_clauses : (cs : Clauses) (room d : ℕ) → Fits room d → AreClauses cs → ClausesRead room d cs
  all_clauses NoClauses room d fits are = tt
  all_clauses (Default is) room d fits are = items_read is (λ r n f. all_items is r n f are) room d fits
  all_clauses (Case x v is cs) room d fits (one, are) = (items_read is (λ r n f. all_items is r n f one) room d fits, all_clauses cs room d fits are)

pub all_bodies : (p : Place) (is : Items) (q : Place) (room d : ℕ) → Fits (suc room) d → AreItems is → (Ends : List Symbol → Type 0) → Reads (body room (nested_statements room)) (Braces p is q) (yields.body d (Braces p is q)) Ends
all_bodies p is q room d fits are Ends = body_reads room d fits p is q Ends (items_read is (λ r n f. all_items is r n f are) room (suc d) (deeper room d fits))
