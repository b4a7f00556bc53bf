-- For every declaration and program, the parser returns it when it reads its yield (the symbols that spell it).
use Rattle.std.proofs.Common.{◌≡◌, ℕ, zero, suc, ◌≤◌, Bool, true, false, List, [], ◌∷◌, ◌++◌, Option, Some, None, is_some, refl, sym, ap, ◌∙◌, arith, append_assoc, zero-le, ◌⊎◌, inl, inr}
use Rattle.std.specs.List.{AllByRecursion}
use Rattle.cyc_syntax.specs.declared.tokens.Keyword.TheVariants as words
use Rattle.cyc_syntax.specs.declared.tokens.Sign.TheVariants as signs
use Rattle.cyc_syntax.specs.declared.tokens.Sign.{Sign}
use Rattle.cyc_syntax.specs.declared.tree.PointerKind.{PointerKind}
use Rattle.cyc_syntax.specs.declared.tree.PointerKind.TheVariants as pointers
use Rattle.cyc_syntax.specs.Symbols.{Place, Terminal, Identifier, RegionName, Word, Mark, Symbol}
use Rattle.cyc_syntax.specs.Symbols as terminals
use Rattle.cyc_syntax.specs.Trees.{Named, Pointer, BaseType, Int, Char, Struct, Handle, Key, WrittenType, Body, Braces, Member, Constructor, GlobalValue, Positive, Negative, Byte, NullPointer, Constraint, ParameterList, Void, Listed, Parameters, Declaration, StructType, Exceptions, Global, Function}
use Rattle.cyc_syntax.specs.Yields.{Leaf, Yield}
use Rattle.cyc_syntax.specs.Yields as yields
use Rattle.cyc_syntax.specs.Grammar.{max_nesting, IsBody, IsDeclaration}
use Rattle.cyc_parse.specs.inside.Parsing.{◌>>=◌, ◌>>◌, pure, next, sees, sees_terminal, starts, sign, begins_region, bind, is_word}
use Rattle.cyc_parse.specs.inside.Types.{begins_type, written_type}
use Rattle.cyc_parse.specs.inside.Declarations.{number_value, begins_void, begins_constructor, member, field, has_int, constructor, parameter_list, effect, constraint, constraints, parameters, value_by, value, global_value, function, typed, struct_fields, declaration_by, declaration}
use Rattle.cyc_parse.proofs.Rules.{Front, Reads, Fits, Starts, Always, item-next, starts_append, starts_number, starting_reads, leaf_of, leaf_at, front-next, then_reads, last_reads, pure_reads, reads_before, token_reads, word_reads}
use Rattle.cyc_parse.proofs.Rules.{sign_reads, identifier_reads, region_reads, choose_reads, advance_reads, advance_reads_at, sees_reads, unseen_reads, seen_reads, sign_deep_reads, starts_reads, unstarted_reads, yield_reads}
use Rattle.cyc_parse.proofs.Lists.{IsRead, EndsList, separated_reads, some_of_reads}
use Rattle.cyc_parse.proofs.TypeReads.{EndsType, NoRegion, type_starts, type_reads, with_pointers_reads, optional_regions_reads}
use Rattle.cyc_parse.proofs.RegionReads.{regions_reads}
use Rattle.cyc_parse.proofs.ExpressionReads.{deeper, NoParen}
use Rattle.cyc_parse.proofs.ItemReads.{all_bodies}

-- Holds if the next symbol is the closing parenthesis of a function's parameters.
pub record Closes (ts : List Symbol) : Type 0 where
  pub paren : next ts ≡ Some (Mark signs.RightParen)

-- Holds if no `=` comes next, so that a global variable has no initial value.
pub record NoAssign (ts : List Symbol) : Type 0 where
  pub assign : sees signs.Assign ts ≡ false

-- ---- members and constructors

module _ (room d : ℕ) (fits : Fits room d) (within : d ≤ max_nesting) where
  pub member_reads : (m : Member) (Ends : List Symbol → Type 0) → Reads (member room) m (yields.member d m) Ends
  member_reads m Ends = then_reads _ (type_reads room d fits within m.of_type) (identifier_reads room d m.name _ fits (pure_reads m Ends))
      (λ mid rest front ends. record { name = m.name.name; comes = front-next (leaf_at d (Identifier m.name.name) m.name.place) [] mid rest front })

  member_read : (m : Member) → IsRead d begins_type (member room) (yields.member d) Always m
  member_read m = record { starts = starts_append _ (type_starts d m.of_type); reads = member_reads m Always }

  members_read : (ms : List Member) → AllByRecursion (IsRead d begins_type (member room) (yields.member d) Always) ms
  members_read [] = tt
  members_read (m ∷ ms) = (member_read m, members_read ms)

  field_read : (m : Member) → IsRead d begins_type (field room) (yields.field d) Always m
  field_read m = record {
    starts = starts_append _ (starts_append _ (type_starts d m.of_type));
    reads = then_reads _ (member_reads m Always) (sign_reads room d signs.Semicolon _ fits (λ p. pure_reads m Always)) (λ mid rest front ends. tt);
  }

  fields_read : (ms : List Member) → AllByRecursion (IsRead d begins_type (field room) (yields.field d) Always) ms
  fields_read [] = tt
  fields_read (m ∷ ms) = (field_read m, fields_read ms)

has_int_reads : (room d : ℕ) → Fits room d → (b : Bool)
    → Reads (has_int room) b (yields.has_int d b) NoParen
has_int_reads room d fits false = unseen_reads signs.LeftParen _ _ (λ ts rest front ends. ap (sees signs.LeftParen) front ∙ ends.paren) (pure_reads false NoParen)
has_int_reads zero d fits true = sees_reads signs.LeftParen _ _ (leaf_of d (Mark signs.LeftParen)) _ refl (sign_deep_reads d signs.LeftParen _ (omega arith))
has_int_reads (suc room) d fits true = sees_reads signs.LeftParen _ _ (leaf_of d (Mark signs.LeftParen)) _ refl (sign_reads (suc room) d signs.LeftParen _ fits (λ p. word_reads room (suc d) words.Int _ (deeper room d fits) (λ p.
    sign_reads room (suc d) signs.RightParen _ (deeper room d fits) (λ p. pure_reads true NoParen))))

constructor_read : (room d : ℕ) → Fits room d → (c : Constructor) → IsRead d begins_constructor (constructor room) (yields.constructor d) Always c
constructor_read room d fits c = record {
  starts = record { first = leaf_at d (Identifier c.name.name) c.name.place; others = _; are = refl; begin = refl; nesting = refl; item = zero-le };
  reads = identifier_reads room d c.name _ fits (then_reads _ (has_int_reads room d fits c.has_int) (sign_reads room d signs.Semicolon _ fits (λ p. pure_reads c Always))
      (λ mid rest front ends. record { paren = ap (sees_terminal signs.LeftParen) (front-next (leaf_of d (Mark signs.Semicolon)) [] mid rest front) }));
}

constructors_read : (room d : ℕ) → Fits room d → (cs : List Constructor) → AllByRecursion (IsRead d begins_constructor (constructor room) (yields.constructor d) Always) cs
constructors_read room d fits [] = tt
constructors_read room d fits (c ∷ cs) = (constructor_read room d fits c, constructors_read room d fits cs)

-- ---- parameters

-- Conditions on the symbols that may follow the parameters, the effect and the constraints in a function's parameter list.
pub record EndsParameters (ts : List Symbol) : Type 0 where
  pub void : starts begins_void (next ts) ≡ false
  pub member : starts begins_type (next ts) ≡ false
  pub comma : sees signs.Comma ts ≡ false

type_not_void : (t : Terminal) → begins_type t ≡ true → is_some (is_word words.Void t) ≡ false
type_not_void (Word words.Void) h = absurd (cc)
type_not_void (Word _) h = refl
type_not_void _ h = refl

pub record NoSemicolon (ts : List Symbol) : Type 0 where
  pub semicolon : sees signs.Semicolon ts ≡ false

pub record NoColon (ts : List Symbol) : Type 0 where
  pub colon : sees signs.Colon ts ≡ false
  pub comma : sees signs.Comma ts ≡ false

module _ (room d : ℕ) (fits : Fits room d) (within : d ≤ max_nesting) where
  list_reads : (ps : ParameterList) → Reads (parameter_list room) ps (yields.parameter_list d ps) EndsParameters
  list_reads Void = starts_reads begins_void _ _ (leaf_of d (Word words.Void)) [] refl (advance_reads _ (leaf_of d (Word words.Void)) within zero-le (λ p _. pure_reads Void EndsParameters))
  list_reads (Listed []) = unstarted_reads _ _ _ (λ ts rest front ends. ap (λ (w : List Symbol). starts begins_void (next w)) front ∙ ends.void)
      (unstarted_reads begins_type _ _ (λ ts rest front ends. ap (λ (w : List Symbol). starts begins_type (next w)) front ∙ ends.member) (pure_reads (Listed []) EndsParameters))
  list_reads (Listed (m ∷ ms)) = unstarted_reads _ _ _ (λ ts rest front ends.
      ap (starts begins_void) (item-next first 1 (yields.more (yields.member d) d 2 ms) ts rest front) ∙ type_not_void (first.first.terminal) (first.begin))
      (starting_reads begins_type d _ _ (starts_append (yields.more (yields.member d) d 2 ms) (starts_number 1 (omega arith) first))
      (last_reads (λ (v : List Member). pure (Listed v)) (λ ts. refl) (reads_before (EndsList Always) (separated_reads room d fits within begins_type (member room) (yields.member d) Always (λ ts e. tt) m ms (members_read room d fits within (m ∷ ms)))
      (λ rest ends. record { item = tt; comma = ends.comma }))))
    where
      first : Starts begins_type d (yields.member d m)
      first = starts_append _ (type_starts d m.of_type)

  constraint_read : (c : Constraint) → IsRead d begins_region (constraint room) (yields.constraint d) Always c
  constraint_read c = record {
    starts = record { first = leaf_at d (RegionName c.longer.name) c.longer.place; others = _; are = refl; begin = refl; nesting = refl; item = zero-le };
    reads = region_reads room d 0 c.longer _ fits zero-le (sign_reads room d signs.Greater _ fits (λ p. region_reads room d 0 c.shorter _ fits zero-le (pure_reads c Always)));
  }

  constraints_read : (cs : List Constraint) → AllByRecursion (IsRead d begins_region (constraint room) (yields.constraint d) Always) cs
  constraints_read [] = tt
  constraints_read (c ∷ cs) = (constraint_read c, constraints_read cs)

  constraints_reads : (cs : List Constraint) → Reads (constraints room) cs (yields.constraints d cs) NoColon
  constraints_reads [] = unseen_reads signs.Colon _ _ (λ ts rest front ends. ap (sees signs.Colon) front ∙ ends.colon) (pure_reads [] NoColon)
  constraints_reads (c ∷ cs) = sees_reads signs.Colon _ _ (leaf_of d (Mark signs.Colon)) _ refl (sign_reads room d signs.Colon _ fits (λ p.
      reads_before (EndsList Always) (separated_reads room d fits within begins_region (constraint room) (yields.constraint d) Always (λ ts e. tt) c cs (constraints_read (c ∷ cs))) (λ rest ends. record { item = tt; comma = ends.comma })))

module _ (room d : ℕ) (fits : Fits (suc (suc room)) d) where
  effect_reads : (e : Option (List Named)) → Reads (effect (suc (suc room))) e (yields.optional (yields.effect d) e) NoSemicolon
  effect_reads None = unseen_reads signs.Semicolon _ _ (λ ts rest front ends. ap (sees signs.Semicolon) front ∙ ends.semicolon) (pure_reads None NoSemicolon)
  effect_reads (Some []) = sees_reads signs.Semicolon _ _ (leaf_of d (Mark signs.Semicolon)) _ refl (sign_reads (suc (suc room)) d signs.Semicolon _ fits (λ p. sign_reads (suc (suc room)) d signs.LeftBrace _ fits (λ p.
      then_reads _ (unstarted_reads begins_region _ _ (λ ts rest front ends. ap (λ (w : List Symbol). starts begins_region (next w)) front ∙ ends.none) (pure_reads [] NoRegion))
      (sign_reads (suc room) (suc d) signs.RightBrace _ (omega arith) (λ p. pure_reads (Some []) NoSemicolon))
      (λ mid rest front ends. record { none = ap (starts begins_region) (front-next (leaf_of (suc d) (Mark signs.RightBrace)) [] mid rest front) }))))
  effect_reads (Some (r ∷ rs)) = sees_reads signs.Semicolon _ _ (leaf_of d (Mark signs.Semicolon)) _ refl (sign_reads (suc (suc room)) d signs.Semicolon _ fits (λ p. sign_reads (suc (suc room)) d signs.LeftBrace _ fits (λ p.
      then_reads _ (starts_reads begins_region _ _ (record { terminal = RegionName r.name; place = Some r.place; nesting = suc d; item = 1 }) _ refl (regions_reads (suc room) (suc d) (omega arith) (omega arith) r rs))
      (sign_reads (suc room) (suc d) signs.RightBrace _ (omega arith) (λ p. pure_reads (Some (r ∷ rs)) NoSemicolon))
      (λ mid rest front ends. record { item = tt; comma = ap (sees_terminal signs.Comma) (front-next (leaf_of (suc d) (Mark signs.RightBrace)) [] mid rest front) }))))

  -- After a function's constraints comes the closing parenthesis of its parameters, so the constraints begin with a colon or are absent.
  colon_or_end : (cs : List Constraint) (mid rest : List Symbol) → Front (yields.constraints d cs) mid rest → next rest ≡ Some (Mark signs.RightParen) → (next mid ≡ Some (Mark signs.Colon)) ⊎ (next mid ≡ Some (Mark signs.RightParen))
  colon_or_end [] mid rest front ends = inr (ap next front ∙ ends)
  colon_or_end (c ∷ cs) mid rest (t, more, e, is_leaf, front) ends = inl (ap next e ∙ ap Some is_leaf.terminal)

  no_semicolon : (o : Option Terminal) → (o ≡ Some (Mark signs.Colon)) ⊎ (o ≡ Some (Mark signs.RightParen)) → sees_terminal signs.Semicolon o ≡ false
  no_semicolon o (inl e) = ap (sees_terminal signs.Semicolon) e
  no_semicolon o (inr e) = ap (sees_terminal signs.Semicolon) e

  after_list : (e : Option (List Named)) (cs : List Constraint) (mid rest : List Symbol) → Front (yields.optional (yields.effect d) e ++ yields.constraints d cs) mid rest → next rest ≡ Some (Mark signs.RightParen) → EndsParameters mid
  after_list None cs mid rest front ends = elim (colon_or_end cs mid rest front ends) [
    | inl n ↦ record { void = ap (starts begins_void) n; member = ap (starts begins_type) n; comma = ap (sees_terminal signs.Comma) n }
    | inr n ↦ record { void = ap (starts begins_void) n; member = ap (starts begins_type) n; comma = ap (sees_terminal signs.Comma) n }
  ]
  after_list (Some rs) cs mid rest (t, more, e, is_leaf, front) ends = let n : next mid ≡ Some (Mark signs.Semicolon) = ap next e ∙ ap Some is_leaf.terminal in
      record { void = ap (starts begins_void) n; member = ap (starts begins_type) n; comma = ap (sees_terminal signs.Comma) n }

  pub parameters_reads : (ps : Parameters) → Reads (parameters (suc (suc room))) ps (yields.parameters d ps) Closes
  parameters_reads ps = then_reads _ (list_reads (suc (suc room)) d fits (omega arith) ps.list)
      (then_reads _ (effect_reads ps.effect)
      (last_reads (λ (v : List Constraint). pure (record { list = ps.list; effect = ps.effect; constraints = v })) (λ ts. refl)
      (reads_before NoColon (constraints_reads (suc (suc room)) d fits (omega arith) ps.constraints) (λ rest ends. record { colon = ap (sees_terminal signs.Colon) ends.paren; comma = ap (sees_terminal signs.Comma) ends.paren })))
      (λ mid rest front ends. record { semicolon = no_semicolon (next mid) (colon_or_end ps.constraints mid rest front ends.paren) }))
      (λ mid rest front ends. after_list ps.effect ps.constraints mid rest front ends.paren)

-- ---- declarations

module _ (room d : ℕ) (fits : Fits (suc (suc (suc room))) d) where
  abbrev R : ℕ
  R = suc (suc room)

  function_reads : (t : Option WrittenType) (f : Named) (ps : Parameters) (b : Body) → IsBody b → Reads (function (suc (suc room)) t f) (Function t f ps b) (leaf_of d (Mark signs.LeftParen) ∷ (yields.parameters (suc d) ps ++ leaf_of (suc d) (Mark signs.RightParen) ∷ yields.body d b)) Always
  function_reads t f ps (Braces p is q) are = sign_reads (suc R) d signs.LeftParen _ fits (λ x. then_reads _ (parameters_reads room (suc d) (omega arith) ps)
      (sign_reads R (suc d) signs.RightParen _ (omega arith) (λ x. last_reads (λ (v : Body). pure (Function t f ps v)) (λ ts. refl) (all_bodies p is q R d fits are Always)))
      (λ mid rest front ends. record { paren = front-next (leaf_of (suc d) (Mark signs.RightParen)) (yields.body d (Braces p is q)) mid rest front }))

  given_reads : (v : GlobalValue) (Ends : List Symbol → Type 0) → Reads (sign (suc R) signs.Assign >> value R >>= (λ w. pure (Some w))) (Some v) (yields.global_value d v) Ends
  given_reads (Positive p n) Ends = sign_reads (suc R) d signs.Assign _ fits (λ x. last_reads (λ (w : GlobalValue). pure (Some w)) (λ ts. refl) (choose_reads (value_by R) (leaf_at (suc d) (terminals.Number n) p) [] (advance_reads_at (suc d) (terminals.Number n) p _ (omega arith) (pure_reads (Positive p n) Ends))))
  given_reads (Negative p n) Ends = sign_reads (suc R) d signs.Assign _ fits (λ x. last_reads (λ (w : GlobalValue). pure (Some w)) (λ ts. refl) (choose_reads (value_by R) (leaf_at (suc d) (Mark signs.Minus) p) _ (advance_reads_at (suc d) (Mark signs.Minus) p _ (omega arith)
      (token_reads (suc room) number_value (λ m q. m) _ (leaf_of (suc (suc d)) (terminals.Number n)) n (omega arith) zero-le refl (λ q _. pure_reads (Negative p n) Ends)))))
  given_reads (Byte p c) Ends = sign_reads (suc R) d signs.Assign _ fits (λ x. last_reads (λ (w : GlobalValue). pure (Some w)) (λ ts. refl) (choose_reads (value_by R) (leaf_at (suc d) (terminals.Character c) p) [] (advance_reads_at (suc d) (terminals.Character c) p _ (omega arith) (pure_reads (Byte p c) Ends))))
  given_reads (NullPointer p) Ends = sign_reads (suc R) d signs.Assign _ fits (λ x. last_reads (λ (w : GlobalValue). pure (Some w)) (λ ts. refl) (choose_reads (value_by R) (leaf_at (suc d) (Word words.Null) p) [] (advance_reads_at (suc d) (Word words.Null) p _ (omega arith) (pure_reads (NullPointer p) Ends))))

  value_reads : (v : Option GlobalValue) → Reads (global_value R) v (yields.optional (yields.global_value d) v) NoAssign
  value_reads None = unseen_reads signs.Assign _ _ (λ ts rest front ends. ap (sees signs.Assign) front ∙ ends.assign) (pure_reads None NoAssign)
  value_reads (Some v) = seen_reads signs.Assign _ _ (λ ts rest front ends. assigned v ts rest front) (given_reads v NoAssign)
    where
      assigned : (v : GlobalValue) (ts rest : List Symbol) → Front (yields.global_value d v) ts rest → sees signs.Assign ts ≡ true
      assigned (Positive p n) ts rest (t, more, e, is_leaf, front) = ap (sees signs.Assign) e ∙ ap (λ (u : Terminal). sees_terminal signs.Assign (Some u)) is_leaf.terminal
      assigned (Negative p n) ts rest (t, more, e, is_leaf, front) = ap (sees signs.Assign) e ∙ ap (λ (u : Terminal). sees_terminal signs.Assign (Some u)) is_leaf.terminal
      assigned (Byte p n) ts rest (t, more, e, is_leaf, front) = ap (sees signs.Assign) e ∙ ap (λ (u : Terminal). sees_terminal signs.Assign (Some u)) is_leaf.terminal
      assigned (NullPointer p) ts rest (t, more, e, is_leaf, front) = ap (sees signs.Assign) e ∙ ap (λ (u : Terminal). sees_terminal signs.Assign (Some u)) is_leaf.terminal

  -- The part of a global variable's or function's declaration after its type is parsed back from its yield (the symbols that it is written
  -- as).
  global_reads : (t : WrittenType) (x : Named) (v : Option GlobalValue) → Reads (typed R t) (Global t x v) (leaf_at d (Identifier x.name) x.place ∷ (yields.optional (yields.global_value d) v ++ leaf_of d (Mark signs.Semicolon) ∷ [])) Always
  global_reads t x v = identifier_reads (suc R) d x _ fits (unseen_reads signs.LeftParen _ _ (λ ts rest front ends. no_paren v ts rest front)
      (then_reads _ (value_reads v) (sign_reads (suc R) d signs.Semicolon _ fits (λ p. pure_reads (Global t x v) Always))
      (λ mid rest front ends. record { assign = ap (sees_terminal signs.Assign) (front-next (leaf_of d (Mark signs.Semicolon)) [] mid rest front) })))
    where
      no_paren : (v : Option GlobalValue) (ts rest : List Symbol) → Front (yields.optional (yields.global_value d) v ++ leaf_of d (Mark signs.Semicolon) ∷ []) ts rest → sees signs.LeftParen ts ≡ false
      no_paren None ts rest front = ap (sees_terminal signs.LeftParen) (front-next (leaf_of d (Mark signs.Semicolon)) [] ts rest front)
      no_paren (Some (Positive p n)) ts rest (t, more, e, is_leaf, front) = ap (sees signs.LeftParen) e ∙ ap (λ (u : Terminal). sees_terminal signs.LeftParen (Some u)) is_leaf.terminal
      no_paren (Some (Negative p n)) ts rest (t, more, e, is_leaf, front) = ap (sees signs.LeftParen) e ∙ ap (λ (u : Terminal). sees_terminal signs.LeftParen (Some u)) is_leaf.terminal
      no_paren (Some (Byte p n)) ts rest (t, more, e, is_leaf, front) = ap (sees signs.LeftParen) e ∙ ap (λ (u : Terminal). sees_terminal signs.LeftParen (Some u)) is_leaf.terminal
      no_paren (Some (NullPointer p)) ts rest (t, more, e, is_leaf, front) = ap (sees signs.LeftParen) e ∙ ap (λ (u : Terminal). sees_terminal signs.LeftParen (Some u)) is_leaf.terminal

  head_reads : (t : WrittenType) (f : Named) (ps : Parameters) (b : Body) → IsBody b
      → Reads (typed R t) (Function (Some t) f ps b) (leaf_at d (Identifier f.name) f.place ∷ leaf_of d (Mark signs.LeftParen) ∷ (yields.parameters (suc d) ps ++ leaf_of (suc d) (Mark signs.RightParen) ∷ yields.body d b)) Always
  head_reads t f ps b are = identifier_reads (suc R) d f _ fits (sees_reads signs.LeftParen _ _ (leaf_of d (Mark signs.LeftParen)) _ refl (function_reads (Some t) f ps b are))

  -- ---- a declaration that begins with a type

  before_name : (x : Named) (ys : Yield) (mid rest : List Symbol) → Front (leaf_at d (Identifier x.name) x.place ∷ ys) mid rest → EndsType mid
  before_name x ys mid rest front = record { name = x.name; comes = front-next (leaf_at d (Identifier x.name) x.place) ys mid rest front }

  -- After the region arguments of a struct type comes a pointer sign (`*`, `@` or `?`) or a name.
  mark_or_name : (s : Sign) (ms : List Pointer) (x : Named) (ys : Yield) (mid rest : List Symbol) → ((k : PointerKind) → sees_terminal s (Some (Mark (yields.mark_sign k))) ≡ false)
      → Front (yields.marks d ms ++ leaf_at d (Identifier x.name) x.place ∷ ys) mid rest → sees s mid ≡ false
  mark_or_name s [] x ys mid rest plain front = ap (sees_terminal s) (front-next (leaf_at d (Identifier x.name) x.place) ys mid rest front)
  mark_or_name s (m ∷ ms) x ys mid rest plain (t, more, e, is_leaf, front) = ap (sees s) e ∙ ap (λ (u : Terminal). sees_terminal s (Some u)) is_leaf.terminal ∙ plain m.kind

  no_less : (k : PointerKind) → sees_terminal signs.Less (Some (Mark (yields.mark_sign k))) ≡ false
  no_less pointers.Nullable = refl
  no_less pointers.NonNull = refl
  no_less pointers.Fat = refl

  no_brace : (k : PointerKind) → sees_terminal signs.LeftBrace (Some (Mark (yields.mark_sign k))) ≡ false
  no_brace pointers.Nullable = refl
  no_brace pointers.NonNull = refl
  no_brace pointers.Fat = refl

  by_choice : {y : Declaration} (leaf : Leaf) (ys : Yield) → Reads (declaration_by R (Some leaf.terminal)) y (leaf ∷ ys) Always → Reads (declaration R) y (leaf ∷ ys) Always
  unfolding declaration
  by_choice leaf ys h = choose_reads (declaration_by R) leaf ys h

  module _ (x : Named) (y : Declaration) (ys : Yield) where
    simple_reads : (t : WrittenType) → Reads (typed R t) y (leaf_at d (Identifier x.name) x.place ∷ ys) Always
        → Reads (bind (written_type (suc R)) (typed R)) y (yields.written_type d t ++ leaf_at d (Identifier x.name) x.place ∷ ys) Always
    simple_reads t h = then_reads (typed R) (type_reads (suc R) d fits (omega arith) t) h (λ mid rest front ends. before_name x ys mid rest front)

    based_reads : (p : Place) (b : BaseType) (ms : List Pointer) → Reads (typed R (record { place = p; base = b; marks = ms })) y (leaf_at d (Identifier x.name) x.place ∷ ys) Always
        → Reads (declaration R) y ((yields.base_type d p b ++ yields.marks d ms) ++ leaf_at d (Identifier x.name) x.place ∷ ys) Always
    based_reads p Int ms h = by_choice (leaf_at d (Word words.Int) p) _ (simple_reads (record { place = p; base = Int; marks = ms }) h)
    based_reads p Char ms h = by_choice (leaf_at d (Word words.Char) p) _ (simple_reads (record { place = p; base = Char; marks = ms }) h)
    based_reads p (Handle r) ms h = by_choice (leaf_at d (Word words.RegionType) p) _ (simple_reads (record { place = p; base = Handle r; marks = ms }) h)
    based_reads p (Key r) ms h = by_choice (leaf_at d (Word words.KeyType) p) _ (simple_reads (record { place = p; base = Key r; marks = ms }) h)
    based_reads p (Struct s rs) ms h = by_choice (leaf_at d (Word words.Struct) p) _ (advance_reads_at d (Word words.Struct) p _ (omega arith) (identifier_reads (suc R) d s _ fits
        (yield_reads (sym (append_assoc (yields.region_list d rs) (yields.marks d ms) (leaf_at d (Identifier x.name) x.place ∷ ys)))
        (then_reads _ (optional_regions_reads (suc R) d fits (omega arith) rs)
        (unseen_reads signs.LeftBrace _ _ (λ ts rest front ends. mark_or_name signs.LeftBrace ms x ys ts rest no_brace front)
        (then_reads _ (with_pointers_reads (suc R) d fits (omega arith) p (Struct s rs) ms) h (λ mid rest front ends. before_name x ys mid rest front)))
        (λ mid rest front ends. record { less = mark_or_name signs.Less ms x ys mid rest no_less front })))))

  fields_reads : (s : Named) (rs : List Named) (f : Member) (fs : List Member)
      → Reads (struct_fields R s rs) (StructType s rs (f ∷ fs)) (leaf_of d (Mark signs.LeftBrace) ∷ (yields.each (yields.field (suc d)) 1 (f ∷ fs) ++ leaf_of (suc d) (Mark signs.RightBrace) ∷ leaf_of d (Mark signs.Semicolon) ∷ [])) Always
  fields_reads s rs f fs = sign_reads (suc R) d signs.LeftBrace _ fits (λ p. then_reads _ (some_of_reads (suc d) (omega arith) begins_type (field R) (yields.field (suc d)) f fs (fields_read R (suc d) (omega arith) (omega arith) (f ∷ fs)))
      (sign_reads R (suc d) signs.RightBrace _ (omega arith) (λ p. sign_reads (suc R) d signs.Semicolon _ fits (λ p. pure_reads (StructType s rs (f ∷ fs)) Always)))
      (λ mid rest front ends. record { other = ap (starts begins_type) (front-next (leaf_of (suc d) (Mark signs.RightBrace)) (leaf_of d (Mark signs.Semicolon) ∷ []) mid rest front) }))

  struct_reads : (s : Named) (rs : List Named) (f : Member) (fs : List Member) → Reads (declaration R) (StructType s rs (f ∷ fs)) (yields.declaration d (StructType s rs (f ∷ fs))) Always
  struct_reads s rs f fs = by_choice (leaf_of d (Word words.Struct)) _ (advance_reads _ (leaf_of d (Word words.Struct)) (omega arith) zero-le (λ p _. identifier_reads (suc R) d s _ fits
      (then_reads _ (optional_regions_reads (suc R) d fits (omega arith) rs) (sees_reads signs.LeftBrace _ _ (leaf_of d (Mark signs.LeftBrace)) _ refl (fields_reads s rs f fs))
      (λ mid rest front ends. record { less = ap (sees_terminal signs.Less) (front-next (leaf_of d (Mark signs.LeftBrace)) (yields.each (yields.field (suc d)) 1 (f ∷ fs) ++ leaf_of (suc d) (Mark signs.RightBrace) ∷ leaf_of d (Mark signs.Semicolon) ∷ []) mid rest front) }))))

  exceptions_reads : (c : Constructor) (cs : List Constructor) → Reads (declaration R) (Exceptions (c ∷ cs)) (yields.declaration d (Exceptions (c ∷ cs))) Always
  exceptions_reads c cs = by_choice (leaf_of d (Word words.Datatype)) _ (word_reads (suc R) d words.Datatype _ fits (λ p. word_reads (suc R) d words.Exn _ fits (λ p. sign_reads (suc R) d signs.LeftBrace _ fits (λ p.
      then_reads _ (some_of_reads (suc d) (omega arith) begins_constructor (constructor R) (yields.constructor (suc d)) c cs (constructors_read R (suc d) (omega arith) (c ∷ cs)))
      (sign_reads R (suc d) signs.RightBrace _ (omega arith) (λ p. sign_reads (suc R) d signs.Semicolon _ fits (λ p. pure_reads (Exceptions (c ∷ cs)) Always)))
      (λ mid rest front ends. record { other = ap (starts begins_constructor) (front-next (leaf_of (suc d) (Mark signs.RightBrace)) (leaf_of d (Mark signs.Semicolon) ∷ []) mid rest front) })))))

  -- For EVERY DECLARATION, the parser returns the declaration when it reads its yield.
  pub all_declarations : (x : Declaration) → IsDeclaration x → Reads (declaration R) x (yields.declaration d x) Always
  all_declarations (StructType s rs []) is = absurd is
  all_declarations (StructType s rs (f ∷ fs)) is = struct_reads s rs f fs
  all_declarations (Exceptions []) is = absurd is
  all_declarations (Exceptions (c ∷ cs)) is = exceptions_reads c cs
  all_declarations (Global t x v) is = based_reads x (Global t x v) _ t.place t.base t.marks (global_reads t x v)
  all_declarations (Function None f ps b) is = by_choice (leaf_of d (Word words.Void)) _ (advance_reads _ (leaf_of d (Word words.Void)) (omega arith) zero-le (λ p _. identifier_reads (suc R) d f _ fits (function_reads None f ps b is)))
  all_declarations (Function (Some t) f ps b) is = based_reads f (Function (Some t) f ps b) _ t.place t.base t.marks (head_reads t f ps b is)
