-- Each production of expressions is parsed back from its yield if its subexpressions are parsed back from theirs.
use Rattle.std.proofs.Common.{◌≡◌, ℕ, zero, suc, ◌+◌, ◌≤◌, true, false, List, [], ◌∷◌, ◌++◌, Some, None, Ok, refl, sym, ap, subst, ◌∙◌, arith}
use Rattle.std.specs.List.{AllByRecursion}
use Rattle.cyc_syntax.specs.declared.tokens.Keyword.TheVariants as words
use Rattle.cyc_syntax.specs.declared.tokens.Sign.TheVariants as signs
use Rattle.cyc_syntax.specs.Symbols.{Terminal, Identifier, Word, Mark, Symbol}
use Rattle.cyc_syntax.specs.Symbols as terminals
use Rattle.cyc_syntax.specs.Trees.{Named, Expression, Number, Character, Null, HeapRegion, UniqueRegion, Variable, Call, Bracketed, NumberOfElements, LowByteOf, FreeUnique, FreeKey}
use Rattle.cyc_syntax.specs.Trees.{Chained, Prefixed, New, RegionNew, Binary, Assign, Expressions, NoExpressions, MoreExpressions, Postfixes, NoPostfixes, ThenIndex, ThenField}
use Rattle.cyc_syntax.specs.Yields.{Yield}
use Rattle.cyc_syntax.specs.Yields as yields
use Rattle.cyc_syntax.specs.Grammar.{max_nesting, max_items, is_primary}
use Rattle.cyc_parse.specs.inside.Parsing.{Parser, pure, sees, sees_terminal, next, separated}
use Rattle.cyc_parse.specs.inside.Expressions.{begins_expression, nested, group, arguments, from_name, primary, primary_by, postfixes, chained, chain_of, with_postfixes}
use Rattle.cyc_parse.proofs.Rules.{Front, Reads, Fits, starts_append, starts_number, item-next, seen_reads, leaf_of, leaf_at, front-next, then_reads, last_reads, pure_reads, reads_before}
use Rattle.cyc_parse.proofs.Rules.{sign_reads, identifier_reads, choose_reads, advance_reads_at, sees_reads, unseen_reads, sign_reads_item, long_leaf_reads, deep_then_reads}
use Rattle.cyc_parse.proofs.Lists.{IsRead, EndsList, separated_reads}
use Rattle.cyc_parse.proofs.Stops.{Stops, stops_leaf, no_paren, no_bracket, no_arrow}
use Rattle.cyc_parse.proofs.Starts.{expression_starts}

pub deeper : (room d : ℕ) → Fits (suc room) d → Fits room (suc d)
deeper room d fits = omega arith

pub shallow : (room d : ℕ) → Fits (suc room) d → d ≤ max_nesting
shallow room d fits = omega arith

-- Says that an expression is parsed back from its yield by the parser one nesting level deeper.
abbrev pub ReadsDeeper : ℕ → ℕ → Expression → Type 0
ReadsDeeper room d e = Reads (nested room).expression e (yields.expression d e) (Stops 11)

-- ---- lists of expressions

abbrev pub list_of : Expressions → List Expression
list_of NoExpressions = []
list_of (MoreExpressions e es) = e ∷ list_of es

pub chain-list : (es : Expressions) → chain_of (list_of es) ≡ es
chain-list NoExpressions = refl
chain-list (MoreExpressions e es) = ap (MoreExpressions e) (chain-list es)

more-list : (d i : ℕ) (es : Expressions) → yields.more_arguments d i es ≡ yields.more (yields.expression d) d i (list_of es)
more-list d i NoExpressions = refl
more-list d i (MoreExpressions e es) = ap (λ (ys : Yield). leaf_of d (Mark signs.Comma) ∷ (yields.item_number i (yields.expression d e) ++ ys)) (more-list d (suc i) es)

arguments-list : (d : ℕ) (es : Expressions) → yields.arguments d es ≡ yields.separated (yields.expression d) d (list_of es)
arguments-list d NoExpressions = refl
arguments-list d (MoreExpressions e es) = ap (λ (ys : Yield). yields.item_number 1 (yields.expression d e) ++ ys) (more-list d 2 es)

-- In a list of expressions a comma may follow an expression, because a comma cannot continue the expression.
stops_comma : (ts : List Symbol) → next ts ≡ Some (Mark signs.Comma) → Stops 11 ts
stops_comma [] e = absurd (cc)
stops_comma (t ∷ ts) e = stops_leaf 11 (leaf_of 0 (Mark signs.Comma)) [] (t ∷ ts) ts refl (omega arith) (t, ts, refl, record { terminal = from_some; place = tt }, refl)
  where
    from_some : t.terminal ≡ Mark signs.Comma
    from_some = cc

-- Says that each expression of a list is parsed back from its yield by the parser one nesting level deeper.
abbrev pub AreRead : ℕ → ℕ → List Expression → Type 0
AreRead room d es = AllByRecursion (λ e. ReadsDeeper room d e) es

are_read : (room d : ℕ) (es : List Expression) → AreRead room d es → AllByRecursion (IsRead d begins_expression (nested room).expression (yields.expression d) (Stops 11)) es
are_read room d [] all = all
are_read room d (e ∷ es) (one, all) = (record { starts = expression_starts d e; reads = one }, are_read room d es all)

-- In the list of a call's arguments, the closing parenthesis is a symbol that ends the list.
before_paren : (d : ℕ) (mid rest : List Symbol) → Front (leaf_of d (Mark signs.RightParen) ∷ []) mid rest → EndsList (Stops 11) mid
before_paren d mid rest front = record { item = stops_leaf 11 (leaf_of d (Mark signs.RightParen)) [] mid rest refl (omega arith) front; comma = ap (sees_terminal signs.Comma) (front-next (leaf_of d (Mark signs.RightParen)) [] mid rest front) }

-- Holds if the closing parenthesis of a call's arguments comes next.
pub record EndsArguments (ts : List Symbol) : Type 0 where
  pub list : EndsList (Stops 11) ts
  pub paren : sees signs.RightParen ts ≡ true

begins_no_paren : (t : Terminal) → begins_expression t ≡ true → sees_terminal signs.RightParen (Some t) ≡ false
begins_no_paren (Mark signs.RightParen) h = absurd (cc)
begins_no_paren (Mark _) h = refl
begins_no_paren _ h = refl

first_isnt_paren : (d : ℕ) (e : Expression) (i : ℕ) (ys : Yield) (ts rest : List Symbol) → Front (yields.item_number i (yields.expression d e) ++ ys) ts rest → sees signs.RightParen ts ≡ false
first_isnt_paren d e i ys ts rest front =
    ap (sees_terminal signs.RightParen) (item-next (expression_starts d e) i ys ts rest front) ∙ begins_no_paren ((expression_starts d e).first.terminal) ((expression_starts d e).begin)

-- The list of a call's arguments is parsed back from its yield at nesting depth d.
listed_reads : (room d : ℕ) → Fits room d → (e : Expression) (es : Expressions) → AreRead room d (e ∷ list_of es)
    → Reads (separated room begins_expression (nested room).expression) (e ∷ list_of es) (yields.separated (yields.expression d) d (e ∷ list_of es)) (EndsList (Stops 11))
unfolding nested
listed_reads zero d fits e es all = deep_then_reads begins_expression d _ (omega arith) (starts_append _ (starts_number 1 (omega arith) (expression_starts d e)))
listed_reads (suc room) d fits e es all = separated_reads (suc room) d fits (omega arith) begins_expression (nested (suc room)).expression (yields.expression d) (Stops 11) stops_comma e (list_of es) (are_read (suc room) d (e ∷ list_of es) all)

pub arguments_reads : (room d : ℕ) → Fits room d → (es : Expressions) → AreRead room d (list_of es) → Reads (arguments room (nested room)) es (yields.arguments d es) EndsArguments
arguments_reads room d fits NoExpressions all = seen_reads signs.RightParen _ _ (λ ts rest front ends. ap (sees signs.RightParen) front ∙ ends.paren) (pure_reads NoExpressions EndsArguments)
arguments_reads room d fits (MoreExpressions e es) all =
    subst (λ (ys : Yield). Reads (arguments room (nested room)) (MoreExpressions e es) ys EndsArguments) (sym (arguments-list d (MoreExpressions e es)))
    (unseen_reads signs.RightParen _ _ (λ ts rest front ends. first_isnt_paren d e 1 _ ts rest front)
    (last_reads (λ (v : List Expression). pure (chain_of v)) (λ ts. ap (λ (c : Expressions). Ok (c, ts)) (chain-list (MoreExpressions e es)))
    (reads_before (EndsList (Stops 11)) (listed_reads room d fits e es all) (λ rest ends. ends.list))))

-- Holds if no opening parenthesis comes next, so that a name is not called.
pub record NoParen (ts : List Symbol) : Type 0 where
  pub paren : sees signs.LeftParen ts ≡ false

-- Says that the expressions inside an operand are parsed back from their yields by the parsers one nesting level deeper.
abbrev pub Parts : ℕ → ℕ → Expression → Type 0
Parts room d (Call f es) = AreRead room (suc d) (list_of es)
Parts room d (Bracketed p e) = ReadsDeeper room (suc d) e
Parts room d (NumberOfElements p e) = ReadsDeeper room (suc d) e
Parts room d (LowByteOf p e) = ReadsDeeper room (suc d) e
Parts room d (FreeUnique p e) = ReadsDeeper room (suc d) e
Parts room d _ = Unit {0}

abbrev pub PostfixParts : ℕ → ℕ → Postfixes → Type 0
PostfixParts room d NoPostfixes = Unit {0}
PostfixParts room d (ThenIndex e ps) = ReadsDeeper room (suc d) e × PostfixParts room d ps
PostfixParts room d (ThenField x ps) = PostfixParts room d ps

module _ (room d : ℕ) (fits : Fits (suc room) d) where
  pub group_reads : (e : Expression) (Ends : List Symbol → Type 0) → ReadsDeeper room (suc d) e
      → Reads (group room (nested room)) e (leaf_of d (Mark signs.LeftParen) ∷ (yields.expression (suc d) e ++ leaf_of (suc d) (Mark signs.RightParen) ∷ [])) Ends
  group_reads e Ends h = sign_reads (suc room) d signs.LeftParen _ fits (λ p. then_reads _ h
      (sign_reads room (suc d) signs.RightParen _ (deeper room d fits) (λ q. pure_reads e Ends))
      (λ mid rest front ends. stops_leaf 11 (leaf_of (suc d) (Mark signs.RightParen)) [] mid rest refl (omega arith) front))

  -- ---- operands

  end_arguments : (mid rest : List Symbol) → Front (leaf_of (suc d) (Mark signs.RightParen) ∷ []) mid rest → EndsArguments mid
  end_arguments mid rest front = record { list = before_paren (suc d) mid rest front; paren = ap (sees_terminal signs.RightParen) (front-next (leaf_of (suc d) (Mark signs.RightParen)) [] mid rest front) }

  pub variable_reads : (x : Named) → Reads (from_name room (nested room) x) (Variable x) [] NoParen
  variable_reads x = unseen_reads signs.LeftParen _ _ (λ ts rest front ends. ap (sees signs.LeftParen) front ∙ ends.paren) (pure_reads (Variable x) NoParen)

  pub call_reads : (f : Named) (es : Expressions) (Ends : List Symbol → Type 0) → AreRead room (suc d) (list_of es)
      → Reads (from_name room (nested room) f) (Call f es) (leaf_of d (Mark signs.LeftParen) ∷ (yields.arguments (suc d) es ++ leaf_of (suc d) (Mark signs.RightParen) ∷ [])) Ends
  call_reads f es Ends all = sees_reads signs.LeftParen _ _ (leaf_of d (Mark signs.LeftParen)) _ refl (sign_reads (suc room) d signs.LeftParen _ fits (λ p.
      then_reads _ (arguments_reads room (suc d) (deeper room d fits) es all) (sign_reads room (suc d) signs.RightParen _ (deeper room d fits) (λ q. pure_reads (Call f es) Ends)) (λ mid rest front ends. end_arguments mid rest front)))

  pub primary_reads : (e : Expression) → is_primary e ≡ true → Parts room d e → Reads (primary room (nested room)) e (yields.expression d e) NoParen
  unfolding primary
  primary_reads (Number p n) is parts = choose_reads (primary_by room (nested room)) (leaf_at d (terminals.Number n) p) [] (advance_reads_at d (terminals.Number n) p _ (shallow room d fits) (pure_reads (Number p n) NoParen))
  primary_reads (Character p c) is parts = choose_reads (primary_by room (nested room)) (leaf_at d (terminals.Character c) p) [] (advance_reads_at d (terminals.Character c) p _ (shallow room d fits) (pure_reads (Character p c) NoParen))
  primary_reads (Null p) is parts = choose_reads (primary_by room (nested room)) (leaf_at d (Word words.Null) p) [] (advance_reads_at d (Word words.Null) p _ (shallow room d fits) (pure_reads (Null p) NoParen))
  primary_reads (HeapRegion p) is parts = choose_reads (primary_by room (nested room)) (leaf_at d (Word words.HeapRegion) p) [] (advance_reads_at d (Word words.HeapRegion) p _ (shallow room d fits) (pure_reads (HeapRegion p) NoParen))
  primary_reads (UniqueRegion p) is parts = choose_reads (primary_by room (nested room)) (leaf_at d (Word words.UniqueRegion) p) [] (advance_reads_at d (Word words.UniqueRegion) p _ (shallow room d fits) (pure_reads (UniqueRegion p) NoParen))
  primary_reads (Variable x) is parts = choose_reads (primary_by room (nested room)) (leaf_at d (Identifier x.name) x.place) [] (advance_reads_at d (Identifier x.name) x.place _ (shallow room d fits) (variable_reads x))
  primary_reads (Call f es) is parts = choose_reads (primary_by room (nested room)) (leaf_at d (Identifier f.name) f.place) _ (advance_reads_at d (Identifier f.name) f.place _ (shallow room d fits) (call_reads f es NoParen parts))
  primary_reads (Bracketed p e) is parts = choose_reads (primary_by room (nested room)) (leaf_at d (Mark signs.LeftParen) p) _ (advance_reads_at d (Mark signs.LeftParen) p _ (shallow room d fits)
      (then_reads _ parts (sign_reads room (suc d) signs.RightParen _ (deeper room d fits) (λ q. pure_reads (Bracketed p e) NoParen)) (λ mid rest front ends. stops_leaf 11 (leaf_of (suc d) (Mark signs.RightParen)) [] mid rest refl (omega arith) front)))
  primary_reads (NumberOfElements p e) is parts = choose_reads (primary_by room (nested room)) (leaf_at d (Word words.NumberOfElements) p) _ (advance_reads_at d (Word words.NumberOfElements) p _ (shallow room d fits)
      (last_reads (λ (v : Expression). pure (NumberOfElements p v)) (λ ts. refl) (group_reads e NoParen parts)))
  primary_reads (LowByteOf p e) is parts = choose_reads (primary_by room (nested room)) (leaf_at d (Word words.Char) p) _ (advance_reads_at d (Word words.Char) p _ (shallow room d fits)
      (last_reads (λ (v : Expression). pure (LowByteOf p v)) (λ ts. refl) (group_reads e NoParen parts)))
  primary_reads (FreeUnique p e) is parts = choose_reads (primary_by room (nested room)) (leaf_at d (Word words.FreeUnique) p) _ (advance_reads_at d (Word words.FreeUnique) p _ (shallow room d fits)
      (last_reads (λ (v : Expression). pure (FreeUnique p v)) (λ ts. refl) (group_reads e NoParen parts)))
  primary_reads (FreeKey p k) is parts = choose_reads (primary_by room (nested room)) (leaf_at d (Word words.FreeKey) p) _ (advance_reads_at d (Word words.FreeKey) p _ (shallow room d fits)
      (sign_reads (suc room) d signs.LeftParen _ fits (λ q. identifier_reads room (suc d) k _ (deeper room d fits) (sign_reads room (suc d) signs.RightParen _ (deeper room d fits) (λ r. pure_reads (FreeKey p k) NoParen)))))
  primary_reads (Chained e ps) is parts = absurd (cc)
  primary_reads (Prefixed p o e) is parts = absurd (cc)
  primary_reads (New p i) is parts = absurd (cc)
  primary_reads (RegionNew p h i) is parts = absurd (cc)
  primary_reads (Binary e os) is parts = absurd (cc)
  primary_reads (Assign a b) is parts = absurd (cc)

  -- ---- postfixes

  pub postfixes_reads : (left i : ℕ) (ps : Postfixes) → left + i ≡ suc max_items → PostfixParts room d ps → Reads (postfixes room (nested room) left) ps (yields.postfixes d i ps) (Stops 0)
  unfolding postfixes
  postfixes_reads zero i NoPostfixes count parts = unseen_reads signs.LeftBracket _ _ (λ ts rest front ends. ap (sees signs.LeftBracket) front ∙ no_bracket rest ends)
      (unseen_reads signs.Arrow _ _ (λ ts rest front ends. ap (sees signs.Arrow) front ∙ no_arrow rest ends) (pure_reads NoPostfixes (Stops 0)))
  postfixes_reads zero i (ThenIndex e ps) count parts = sees_reads signs.LeftBracket _ _ (record { terminal = Mark signs.LeftBracket; place = None; nesting = d; item = i }) _ refl (long_leaf_reads _ _ (shallow room d fits) (omega arith))
  postfixes_reads zero i (ThenField x ps) count parts = unseen_reads signs.LeftBracket _ _ (λ ts rest front ends. ap (sees_terminal signs.LeftBracket) (front-next _ (yields.identifier d x ++ yields.postfixes d (suc i) ps) ts rest front))
      (sees_reads signs.Arrow _ _ (record { terminal = Mark signs.Arrow; place = None; nesting = d; item = i }) _ refl (long_leaf_reads _ _ (shallow room d fits) (omega arith)))
  postfixes_reads (suc left) i NoPostfixes count parts = unseen_reads signs.LeftBracket _ _ (λ ts rest front ends. ap (sees signs.LeftBracket) front ∙ no_bracket rest ends)
      (unseen_reads signs.Arrow _ _ (λ ts rest front ends. ap (sees signs.Arrow) front ∙ no_arrow rest ends) (pure_reads NoPostfixes (Stops 0)))
  postfixes_reads (suc left) i (ThenIndex e ps) count (one, parts) = sees_reads signs.LeftBracket _ _ (record { terminal = Mark signs.LeftBracket; place = None; nesting = d; item = i }) _ refl
      (sign_reads_item (suc room) d i signs.LeftBracket _ fits (omega arith) (λ p. then_reads _ one
      (sign_reads room (suc d) signs.RightBracket _ (deeper room d fits) (λ q. last_reads (λ (v : Postfixes). pure (ThenIndex e v)) (λ ts. refl) (postfixes_reads left (suc i) ps (omega arith) parts)))
      (λ mid rest front ends. stops_leaf 11 (leaf_of (suc d) (Mark signs.RightBracket)) _ mid rest refl (omega arith) front)))
  postfixes_reads (suc left) i (ThenField x ps) count parts = unseen_reads signs.LeftBracket _ _ (λ ts rest front ends. ap (sees_terminal signs.LeftBracket) (front-next _ (yields.identifier d x ++ yields.postfixes d (suc i) ps) ts rest front))
      (sees_reads signs.Arrow _ _ (record { terminal = Mark signs.Arrow; place = None; nesting = d; item = i }) _ refl
      (sign_reads_item (suc room) d i signs.Arrow _ fits (omega arith) (λ p. identifier_reads (suc room) d x _ fits
      (last_reads (λ (v : Postfixes). pure (ThenField x v)) (λ ts. refl) (postfixes_reads left (suc i) ps (omega arith) parts)))))

  between_postfixes : (ps : Postfixes) (mid rest : List Symbol) → Front (yields.postfixes d 1 ps) mid rest → Stops 0 rest → NoParen mid
  between_postfixes NoPostfixes mid rest front ends = record { paren = ap (sees signs.LeftParen) front ∙ no_paren rest ends }
  between_postfixes (ThenIndex e ps) mid rest front ends = record { paren = ap (sees_terminal signs.LeftParen) (front-next _ _ mid rest front) }
  between_postfixes (ThenField x ps) mid rest front ends = record { paren = ap (sees_terminal signs.LeftParen) (front-next _ (yields.identifier d x ++ yields.postfixes d 2 ps) mid rest front) }

  pub with_postfixes_reads : (first : Parser Expression) (e : Expression) (xs : Yield) (ps : Postfixes) → Reads first e xs NoParen → PostfixParts room d ps
      → Reads (with_postfixes room (nested room) first) (chained e ps) (xs ++ yields.postfixes d 1 ps) (Stops 0)
  with_postfixes_reads first e xs ps h parts = then_reads _ h (last_reads (λ (v : Postfixes). pure (chained e v)) (λ ts. refl) (postfixes_reads 64 1 ps refl parts)) (between_postfixes ps)
