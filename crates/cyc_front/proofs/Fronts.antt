-- The contract of the front end follows from the contracts of its phases.
use Rattle.std.proofs.Common.{◌≡◌, ◌⊎◌, inl, inr, ⊎_elim, ℕ, List, map, Result, Ok, Err, sym, ap, subst, ◌∙◌}
use Rattle.std.specs.Prelude.{IfOk, IfErr, MatchResult}
use Rattle.cyc_words.specs.declared.fault.Fault.{Fault}
use Rattle.cyc_syntax.specs.declared.tokens.Token.{Token as TokenCode}
use Rattle.cyc_syntax.specs.declared.tree.Tree.{Tree}
use Rattle.cyc_syntax.specs.Tokens.{Token, token_of}
use Rattle.cyc_syntax.specs.Trees.{Declaration}
use Rattle.cyc_syntax.specs.inside.TreeView.{declarations_of}
use Rattle.cyc_lex.specs.Refusals as lexer
use Rattle.cyc_words.specs.Decision.{Decides}
use Rattle.cyc_words.specs.Fault.{memory_fault}
use Rattle.cyc_parse.specs.Acceptance as parser
use Rattle.cyc_types.specs.TypedTrees.{Program}
use Rattle.cyc_types.specs.declared.typed.TypedTree.{TypedTree}
use Rattle.cyc_types.specs.TypedTreeView.{view_program}
use Rattle.cyc_types.specs.typing.Programs.{IsTypedProgram, IsRefusedProgram}
use Rattle.cyc_types.specs.flow.Programs.{IsAllowedProgram, IsStoppedProgram}
use Rattle.cyc_types.specs.declared.flowed.Flowed.{Flowed}
use Rattle.cyc_front.specs.declared.front.Phases.{Phases}
use Rattle.cyc_front.specs.Front.{names_in, IsAcceptedText, IsStoppedText, IsRefusedText, HasFault}
use Rattle.cyc_front.specs.inside.Phases.{HasTree}

-- Says that a phase of the front end (such as the parser) succeeded with the result `a`. The specification of the phase
-- accepts `a`, accepts no other result, and allows no fault.
pub record Passes {A : Type 0} (Accepted : A → Type 0) (Has : Fault → Type 0) (a : A) : Type 0 where
  pub is : Accepted a
  pub only : (b : A) → Accepted b → a ≡ b
  pub no_fault : (f : Fault) → Has f → ⊥

-- If the decision of a phase of the front end accepts a result, then the phase passed this result.
pub passed : {X A : Type 0} (view : X → A) (Accepted : A → Type 0) (Refused Has : Fault → Type 0) (x : X)
    → Decides Accepted (λ a y. view y ≡ a) Refused Has (Ok x) → Passes Accepted Has (view x)
passed view Accepted Refused Has x d =
    let (a, is, same) = d.accepted in
    record { is = subst Accepted (sym same) is; only = d.accepts; no_fault = d.refuses }

-- Says that the lexer passed the tokens; the next definitions say that the parser passed the tree and the type checker passed the program.
abbrev pub Lexed : List ℕ → List Token → Type 0
Lexed text tokens = Passes (lexer.IsAccepted text) (lexer.IsRefused text) tokens

abbrev pub Parsed : (OfGrammar : List ℕ → List Token → Fault → Type 0) → List ℕ → List Token → List Declaration → Type 0
Parsed OfGrammar text tokens tree = Passes (parser.IsAccepted tokens) (OfGrammar text tokens) tree

abbrev pub Checked : List Token → List Declaration → Program → Type 0
Checked tokens tree p = Passes (IsTypedProgram (names_in tokens) tree) (IsRefusedProgram (names_in tokens) tree) p

-- If the lexer accepts a text with the tokens of a list, it also accepts the text with the tokens of an equal list.
pub lexed : (text : List ℕ) (ts us : List TokenCode) → us ≡ ts → Lexed text (map (token_of text) ts) → Lexed text (map (token_of text) us)
lexed text ts us same l = subst (λ x. Lexed text (map (token_of text) x)) (sym same) l

-- If a syntax tree was parsed from the tokens of a list, it is also the syntax tree of any equal list of tokens.
pub of_tokens : (text : List ℕ) (us ts : List TokenCode) (tree : Tree) → us ≡ ts → parser.IsAccepted (map (token_of text) us) (declarations_of tree)
    → tree.names ≡ names_in (map (token_of text) us) → HasTree text ts tree
of_tokens text us ts tree same is names = subst (λ (x : List TokenCode). HasTree text x tree) same (is, names)

-- If a list of texts equals the names of the tokens, the result of type checking with this list is the result with those names.
pub checked : (tokens : List Token) (tree : List Declaration) (p : Program) (texts : List (List ℕ)) → texts ≡ names_in tokens
    → Passes (IsTypedProgram texts tree) (IsRefusedProgram texts tree) p → Checked tokens tree p
checked tokens tree p texts same c = subst (λ ns. Passes (IsTypedProgram ns tree) (IsRefusedProgram ns tree) p) same c

-- ---- faults of the text are faults of its tokens and of their tree

pub typed_here : (OfGrammar : List ℕ → List Token → Fault → Type 0) (text : List ℕ) (tokens : List Token) (tree : List Declaration) → Lexed text tokens → Parsed OfGrammar text tokens tree
    → (p : Program) → IsAcceptedText text p → IsTypedProgram (names_in tokens) tree p
typed_here OfGrammar text tokens tree l r p a =
    let same : tokens ≡ a.tokens = l.only a.tokens a.has_tokens in
    let one : tree ≡ a.tree = r.only a.tree (subst (λ ts. parser.IsAccepted ts a.tree) (sym same) a.has_tree) in
    subst (λ d. IsTypedProgram (names_in tokens) d p) (sym one) (subst (λ ts. IsTypedProgram (names_in ts) a.tree p) (sym same) a.typed)

-- The fault that a phase after parsing finds in a list of declarations: a typing fault or a flow fault.
abbrev pub IsFaulty : List Token → List Declaration → Fault → Type 0
IsFaulty tokens tree f =
    IsRefusedProgram (names_in tokens) tree f
    ⊎ ((p : Program) × IsTypedProgram (names_in tokens) tree p × IsStoppedProgram p f)

faulty_there : (tokens others : List Token) (tree other : List Declaration) (f : Fault) → tokens ≡ others → tree ≡ other → IsFaulty others other f → IsFaulty tokens tree f
faulty_there tokens others tree other f same one h = subst (λ ts. IsFaulty ts tree f) (sym same) (subst (λ d. IsFaulty others d f) (sym one) h)

fault_at : (OfGrammar : List ℕ → List Token → Fault → Type 0) (text : List ℕ) (tokens : List Token) (tree : List Declaration) → Lexed text tokens → Parsed OfGrammar text tokens tree
    → (ts : List Token) (d : List Declaration) (f : Fault) → lexer.IsAccepted text ts → parser.IsAccepted ts d → IsFaulty ts d f → IsFaulty tokens tree f
fault_at OfGrammar text tokens tree l r ts d f has of h =
    let same : tokens ≡ ts = l.only ts has in
    faulty_there tokens ts tree d f same (r.only d (subst (λ x. parser.IsAccepted x d) (sym same) of)) h

pub faulty_here : (OfGrammar : List ℕ → List Token → Fault → Type 0) (text : List ℕ) (tokens : List Token) (tree : List Declaration) → Lexed text tokens → Parsed OfGrammar text tokens tree
    → (f : Fault) → IsStoppedText OfGrammar text f → IsFaulty tokens tree f
faulty_here OfGrammar text tokens tree l r f (inl h) = absurd (l.no_fault f h)
faulty_here OfGrammar text tokens tree l r f (inr (inl (ts, has, h))) = absurd (r.no_fault f (subst (λ x. OfGrammar text x f) (sym (l.only ts has)) h))
faulty_here OfGrammar text tokens tree l r f (inr (inr (inl (ts, d, has, of, h)))) = fault_at OfGrammar text tokens tree l r ts d f has of (inl h)
faulty_here OfGrammar text tokens tree l r f (inr (inr (inr (ts, d, p, has, of, typed, h)))) = fault_at OfGrammar text tokens tree l r ts d f has of (inr (p, typed, h))

-- ---- a phase that rejects the text

-- Says that a phase of the front end rejected the text with the fault `f`. Unless `f` is lack of memory, the
-- specification of the phase accepts no result and allows no fault other than `f`.
pub record Stops {A : Type 0} (Accepted : A → Type 0) (Has : Fault → Type 0) (f : Fault) : Type 0 where
  pub none : (a : A) → Accepted a → f ≡ memory_fault
  pub no_other : (g : Fault) → Has g → (f ≡ memory_fault) ⊎ (f ≡ g)

-- Says that this result of the front end is correct for a text; `Gives` states how a result contains the typed program.
abbrev pub IsAnsweredBy : {X : Type 0} → (Program → X → Type 0) → List ℕ → Result X Fault → Type 0
IsAnsweredBy Gives text result = Decides (IsAcceptedText text) Gives (IsRefusedText text) (HasFault text) result

-- Says that the result of the front end contains the program p. The result is a typed tree that satisfies the flow rules, or the record of
-- all phase results.
abbrev pub HasProgram : Program → Flowed → Type 0
HasProgram p v = view_program v.tree ≡ p

abbrev pub HasPhases : Program → Phases → Type 0
HasPhases p v = HasProgram p v.program

abbrev pub IsAnswered : List ℕ → Result Flowed Fault → Type 0
IsAnswered = IsAnsweredBy HasProgram

-- If one function of the front end may reject a text with a fault, so may any other function whose accepted results have a different form.
pub refused_by_both : {X Y A : Type 0} {Accepted : A → Type 0} {Refused Faulty : Fault → Type 0} (Gives : A → X → Type 0) (Other : A → Y → Type 0) (f : Fault)
    → Decides Accepted Gives Refused Faulty (Err f) → Decides Accepted Other Refused Faulty (Err f)
refused_by_both Gives Other f d = record { accepted = tt; refused = d.refused; accepts = d.accepts; refuses = d.refuses }

-- An accepted result of the front end can be replaced by any other result that contains the same program.
pub accepted_alike : {X Y A : Type 0} {Accepted : A → Type 0} {Refused Faulty : Fault → Type 0} (Gives : A → X → Type 0) (Other : A → Y → Type 0) (x : X) (y : Y)
    → ((a : A) → Gives a x → Other a y) → Decides Accepted Gives Refused Faulty (Ok x) → Decides Accepted Other Refused Faulty (Ok y)
accepted_alike Gives Other x y alike d = record {
  accepted = let (a, is, gives) = d.accepted in (a, is, alike a gives);
  refused = tt;
  accepts = λ a is. alike a (d.accepts a is);
  refuses = d.refuses;
}

-- If the decision of a phase is to reject, the front end rejects with the fault of that phase.
pub stopped_front : {X A : Type 0} (Accepted : A → Type 0) (Gives : A → X → Type 0) (Refused Has : Fault → Type 0) (f : Fault)
    → Decides Accepted Gives Refused Has (Err f) → Stops Accepted Has f
stopped_front Accepted Gives Refused Has f d = record { none = d.accepts; no_other = d.refuses }

lexer_refuses : (text : List ℕ) (f : Fault) → Stops (lexer.IsAccepted text) (lexer.IsRefused text) f
    → (g : Fault) → HasFault text g → (f ≡ memory_fault) ⊎ (f ≡ g)
lexer_refuses text f s g (inl h) = s.no_other g h
lexer_refuses text f s g (inr (inl (ts, has, h))) = inl (s.none ts has)
lexer_refuses text f s g (inr (inr (inl (ts, d, has, of, h)))) = inl (s.none ts has)
lexer_refuses text f s g (inr (inr (inr (ts, d, p, has, of, typed, h)))) = inl (s.none ts has)

pub lexer_answers : (text : List ℕ) (f : Fault) → (f ≡ memory_fault) ⊎ lexer.IsRefused text f → Stops (lexer.IsAccepted text) (lexer.IsRefused text) f
    → IsAnswered text (Err f)
lexer_answers text f refused s = record {
  accepted = tt;
  refused = ⊎_elim (λ memory. inl memory) (λ is. inr (inl is)) refused;
  accepts = λ p a. s.none a.tokens a.has_tokens;
  refuses = lexer_refuses text f s;
}

parser_refuses : (text : List ℕ) (tokens : List Token) (f : Fault) → Lexed text tokens → Stops (parser.IsAccepted tokens) (parser.IsFaulty text tokens) f
    → (g : Fault) → HasFault text g → (f ≡ memory_fault) ⊎ (f ≡ g)
parser_refuses text tokens f l s g (inl h) = absurd (l.no_fault g h)
parser_refuses text tokens f l s g (inr (inl (ts, has, h))) = s.no_other g (subst (λ x. parser.IsFaulty text x g) (sym (l.only ts has)) h)
parser_refuses text tokens f l s g (inr (inr (inl (ts, d, has, of, h)))) = inl (s.none d (subst (λ x. parser.IsAccepted x d) (sym (l.only ts has)) of))
parser_refuses text tokens f l s g (inr (inr (inr (ts, d, p, has, of, typed, h)))) = inl (s.none d (subst (λ x. parser.IsAccepted x d) (sym (l.only ts has)) of))

pub parser_answers : (text : List ℕ) (tokens : List Token) (f : Fault) → Lexed text tokens → (f ≡ memory_fault) ⊎ parser.IsRefused text tokens f
    → Stops (parser.IsAccepted tokens) (parser.IsFaulty text tokens) f → IsAnswered text (Err f)
parser_answers text tokens f l refused s = record {
  accepted = tt;
  refused = ⊎_elim (λ memory. inl memory) (λ is. inr (inr (inl (tokens, l.is, is)))) refused;
  accepts = λ p a. s.none a.tree (subst (λ ts. parser.IsAccepted ts a.tree) (sym (l.only a.tokens a.has_tokens)) a.has_tree);
  refuses = parser_refuses text tokens f l s;
}

abbrev pub StopsChecked : List (List ℕ) → List Declaration → Fault → Type 0
StopsChecked texts tree f = Stops (IsTypedProgram texts tree) (IsRefusedProgram texts tree) f

faulty_stops : (tokens : List Token) (tree : List Declaration) (f : Fault) → StopsChecked (names_in tokens) tree f
    → (g : Fault) → IsFaulty tokens tree g → (f ≡ memory_fault) ⊎ (f ≡ g)
faulty_stops tokens tree f s g (inl h) = s.no_other g h
faulty_stops tokens tree f s g (inr (p, typed, h)) = inl (s.none p typed)

checker_accepts : (text : List ℕ) (tokens : List Token) (tree : List Declaration) (texts : List (List ℕ)) (f : Fault) → Lexed text tokens → Parsed parser.IsFaulty text tokens tree
    → texts ≡ names_in tokens → StopsChecked texts tree f → (p : Program) → IsAcceptedText text p → f ≡ memory_fault
checker_accepts text tokens tree texts f l r same s p a =
    s.none p (subst (λ ns. IsTypedProgram ns tree p) (sym same) (typed_here parser.IsFaulty text tokens tree l r p a))

checker_refuses : (text : List ℕ) (tokens : List Token) (tree : List Declaration) (texts : List (List ℕ)) (f : Fault) → Lexed text tokens → Parsed parser.IsFaulty text tokens tree
    → texts ≡ names_in tokens → StopsChecked texts tree f → (g : Fault) → HasFault text g → (f ≡ memory_fault) ⊎ (f ≡ g)
checker_refuses text tokens tree texts f l r same s g h =
    faulty_stops tokens tree f (subst (λ ns. StopsChecked ns tree f) same s) g (faulty_here parser.IsFaulty text tokens tree l r g h)

pub checker_answers : (text : List ℕ) (tokens : List Token) (tree : List Declaration) (texts : List (List ℕ)) (f : Fault) → Lexed text tokens → Parsed parser.IsFaulty text tokens tree
    → texts ≡ names_in tokens → (f ≡ memory_fault) ⊎ IsRefusedProgram texts tree f → StopsChecked texts tree f → IsAnswered text (Err f)
checker_answers text tokens tree texts f l r same refused s = record {
  accepted = tt;
  refused = ⊎_elim (λ memory. inl memory) (λ is. inr (inr (inr (inl (tokens, tree, l.is, r.is, subst (λ ns. IsRefusedProgram ns tree f) same is))))) refused;
  accepts = checker_accepts text tokens tree texts f l r same s;
  refuses = checker_refuses text tokens tree texts f l r same s;
}

-- ---- the result of the flow check

flow_refused : (text : List ℕ) (tokens : List Token) (tree : List Declaration) (p : Program) (result : Result Flowed Fault)
    → Lexed text tokens → Parsed parser.IsFaulty text tokens tree → Checked tokens tree p
    → IfErr result (λ f. (f ≡ memory_fault) ⊎ IsStoppedProgram p f) → IfErr result (λ f. (f ≡ memory_fault) ⊎ IsRefusedText text f)
flow_refused text tokens tree p (Ok v) l r c h = tt
flow_refused text tokens tree p (Err f) l r c (inl m) = inl m
flow_refused text tokens tree p (Err f) l r c (inr h) = inr (inr (inr (inr (tokens, tree, p, l.is, r.is, c.is, h))))

kept_answer : (t : TypedTree) (p : Program) (result : Result Flowed Fault) → view_program t ≡ p
    → MatchResult result (λ v. v.tree ≡ t) (λ f. f ≡ memory_fault) → MatchResult result (λ v. view_program v.tree ≡ p) (λ f. f ≡ memory_fault)
kept_answer t p (Ok v) same h = ap view_program h ∙ same
kept_answer t p (Err f) same h = h

flow_accepts : (text : List ℕ) (tokens : List Token) (tree : List Declaration) (t : TypedTree) (result : Result Flowed Fault)
    → Lexed text tokens → Parsed parser.IsFaulty text tokens tree → Checked tokens tree (view_program t)
    → (IsAllowedProgram (view_program t) → MatchResult result (λ v. v.tree ≡ t) (λ f. f ≡ memory_fault))
    → (p : Program) → IsAcceptedText text p → MatchResult result (λ v. view_program v.tree ≡ p) (λ f. f ≡ memory_fault)
flow_accepts text tokens tree t result l r c accepts p a =
    let same : view_program t ≡ p = c.only p (typed_here parser.IsFaulty text tokens tree l r p a) in
    kept_answer t p result same (accepts (subst IsAllowedProgram (sym same) a.allowed))

flow_stops : (tokens : List Token) (tree : List Declaration) (p : Program) (result : Result Flowed Fault) → Checked tokens tree p
    → ((g : Fault) → IsStoppedProgram p g → MatchResult result (λ _. ⊥) (λ f. (f ≡ memory_fault) ⊎ (f ≡ g)))
    → (g : Fault) → IsFaulty tokens tree g → MatchResult result (λ _. ⊥) (λ f. (f ≡ memory_fault) ⊎ (f ≡ g))
flow_stops tokens tree p result c stops g (inl h) = absurd (c.no_fault g h)
flow_stops tokens tree p result c stops g (inr (q, typed, h)) = stops g (subst (λ x. IsStoppedProgram x g) (sym (c.only q typed)) h)

flow_refuses : (text : List ℕ) (tokens : List Token) (tree : List Declaration) (p : Program) (result : Result Flowed Fault)
    → Lexed text tokens → Parsed parser.IsFaulty text tokens tree → Checked tokens tree p
    → ((g : Fault) → IsStoppedProgram p g → MatchResult result (λ _. ⊥) (λ f. (f ≡ memory_fault) ⊎ (f ≡ g)))
    → (g : Fault) → HasFault text g → MatchResult result (λ _. ⊥) (λ f. (f ≡ memory_fault) ⊎ (f ≡ g))
flow_refuses text tokens tree p result l r c stops g h = flow_stops tokens tree p result c stops g (faulty_here parser.IsFaulty text tokens tree l r g h)

flow_accepted : (text : List ℕ) (tokens : List Token) (tree : List Declaration) (t : TypedTree) (result : Result Flowed Fault)
    → Lexed text tokens → Parsed parser.IsFaulty text tokens tree → Checked tokens tree (view_program t)
    → IfOk result (λ v. (one : Unit {0}) × IsAllowedProgram (view_program t) × (v.tree ≡ t)) → IfOk result (λ v. (p : Program) × IsAcceptedText text p × (view_program v.tree ≡ p))
flow_accepted text tokens tree t (Ok v) l r c (one, allowed, same) = (
  view_program t,
  record { tokens = tokens; tree = tree; has_tokens = l.is; has_tree = r.is; typed = c.is; allowed = allowed },
  ap view_program same,
)
flow_accepted text tokens tree t (Err f) l r c h = tt

-- The result of the flow check for a typed tree is the front end's result for the source text.
pub flow_answers : (text : List ℕ) (tokens : List Token) (tree : List Declaration) (t : TypedTree) (result : Result Flowed Fault)
    → Lexed text tokens → Parsed parser.IsFaulty text tokens tree → Checked tokens tree (view_program t)
    → Decides (λ (one : Unit {0}). IsAllowedProgram (view_program t)) (λ one v. v.tree ≡ t) (IsStoppedProgram (view_program t)) (IsStoppedProgram (view_program t)) result
    → IsAnswered text result
flow_answers text tokens tree t result l r c d = record {
  accepted = flow_accepted text tokens tree t result l r c d.accepted;
  refused = flow_refused text tokens tree (view_program t) result l r c d.refused;
  accepts = flow_accepts text tokens tree t result l r c (d.accepts tt);
  refuses = flow_refuses text tokens tree (view_program t) result l r c d.refuses;
}
