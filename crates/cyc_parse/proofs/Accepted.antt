-- The acceptance and the faults of the parser, which it computes from symbols, are stated in terms of the grammar and the text's tokens.
use Rattle.std.proofs.Common.{◌≡◌, ◌⊎◌, ℕ, List, [], ◌∷◌, length, inl, inr, Result, Ok, Err, refl, sym, ap, subst, ◌∙◌}
use Rattle.std.specs.Prelude.{IfOk, IfErr, MatchResult}
use Rattle.std.proofs.lemmas.List.{length-map}
use Rattle.cyc_words.specs.Fault.{memory_fault}
use Rattle.cyc_words.specs.Decision.{Decides}
use Rattle.cyc_words.specs.declared.fault.Fault.{Fault}
use Rattle.cyc_syntax.specs.Names.{distinct_texts}
use Rattle.cyc_syntax.specs.Tokens.{Token}
use Rattle.cyc_syntax.specs.Symbols.{Symbol, texts_in, symbols_of}
use Rattle.cyc_syntax.specs.Trees.{Declaration}
use Rattle.cyc_syntax.specs.Grammar.{HasTree, IsWithinLimits}
use Rattle.cyc_syntax.specs.inside.Weight.{tree_weight}
use Rattle.cyc_syntax.specs.declared.tree.Tree.{Tree}
use Rattle.cyc_parse.specs.inside.Parsing.{Outcome, Refusal, and_then, bind}
use Rattle.cyc_parse.specs.inside.Declarations.{program_of}
use Rattle.cyc_parse.specs.Faults.{end_of, fault_of}
use Rattle.cyc_parse.specs.inside.Answers.{at_end, whole_program, IsAnswer}
use Rattle.cyc_syntax.specs.inside.TreeView.{declarations_of}
use Rattle.cyc_parse.specs.Acceptance.{IsAccepted, IsRefused, BreaksLimit, IsFaulty}
use Rattle.cyc_parse.proofs.Locality.{one_refusal}
use Rattle.cyc_parse.proofs.Soundness.{program_of-sound, answered_weight}
use Rattle.cyc_parse.proofs.Refused.{program_of-refused, within_limits_answered, first_limit_refused}

-- ---- a whole program uses up all symbols

whole_ok : (outcome : Outcome (List Declaration)) (ds : List Declaration) → and_then outcome at_end ≡ Ok (ds, []) → outcome ≡ Ok (ds, [])
whole_ok (Ok (es, [])) ds e = e
whole_ok (Ok (es, t ∷ ts)) ds e = absurd (cc)
whole_ok (Err refusal) ds e = absurd (cc)

pub whole_read : (ts : List Symbol) (ds : List Declaration) → whole_program ts ≡ Ok (ds, []) → program_of ts ≡ Ok (ds, [])
unfolding bind
whole_read ts ds e = whole_ok (program_of ts) ds e

whole_program_of : (ts : List Symbol) (ds : List Declaration) → program_of ts ≡ Ok (ds, []) → whole_program ts ≡ Ok (ds, [])
unfolding bind
whole_program_of ts ds e = ap (λ (o : Outcome (List Declaration)). and_then o at_end) e

whole_refuses : (ts : List Symbol) (refusal : Refusal) → program_of ts ≡ Err refusal → whole_program ts ≡ Err refusal
unfolding bind
whole_refuses ts refusal e = ap (λ (o : Outcome (List Declaration)). and_then o at_end) e

-- If the parser of declarations succeeds, it leaves no symbols. So the parser of whole programs rejects symbols only if the parser
-- of declarations rejects them.
whole_err : (ts : List Symbol) (outcome : Outcome (List Declaration)) (refusal : Refusal) → program_of ts ≡ outcome → and_then outcome at_end ≡ Err refusal → program_of ts ≡ Err refusal
whole_err ts (Ok (ds, [])) refusal is e = absurd (cc)
whole_err ts (Ok (ds, s ∷ left)) refusal is e = absurd (impossible (program_of-sound ts (s ∷ left) ds is).all)
  where
    impossible : s ∷ left ≡ [] → ⊥
    impossible none = cc
whole_err ts (Err other) refusal is e = is ∙ e

whole_refused : (ts : List Symbol) (refusal : Refusal) → whole_program ts ≡ Err refusal → program_of ts ≡ Err refusal
unfolding bind
whole_refused ts refusal e = whole_err ts (program_of ts) refusal refl e

-- ---- the clauses of the contract

accepted : (text : List ℕ) (tokens : List Token) (result : Result Tree Fault) → IsAnswer text tokens result
    → IfOk result (λ t. (tree : List Declaration) × IsAccepted tokens tree × (declarations_of t ≡ tree))
accepted text tokens (Ok t) h =
    let parsed = program_of-sound (symbols_of tokens) [] (declarations_of t) (whole_read (symbols_of tokens) (declarations_of t) h.declarations) in
    (declarations_of t, record { has = parsed.has; within = parsed.within }, refl)
accepted text tokens (Err fault) h = tt

pub names_are : (text : List ℕ) (tokens : List Token) (result : Result Tree Fault) → IsAnswer text tokens result
    → IfOk result (λ t. t.names ≡ distinct_texts (texts_in tokens))
names_are text tokens (Ok t) h = h.names
names_are text tokens (Err fault) h = tt

pub weighed : (text : List ℕ) (tokens : List Token) (count : ℕ) (result : Result Tree Fault) → length tokens ≡ count → IsAnswer text tokens result
    → IfOk result (λ t. tree_weight (declarations_of t) ≡ count)
weighed text tokens count (Ok t) same h =
    answered_weight (symbols_of tokens) [] (declarations_of t) (whole_read (symbols_of tokens) (declarations_of t) h.declarations) ∙ length-map tokens _ ∙ same
weighed text tokens count (Err fault) same h = tt

answer_is_refused : (text : List ℕ) (tokens : List Token) (result : Result Tree Fault) → IsAnswer text tokens result → IfErr result (λ f. (f ≡ memory_fault) ⊎ IsRefused text tokens f)
answer_is_refused text tokens (Ok tree) h = tt
answer_is_refused text tokens (Err fault) (inl memory) = inl memory
answer_is_refused text tokens (Err fault) (inr h) =
    inr (record { refusal = h.refusal; refused = program_of-refused (symbols_of tokens) h.refusal (whole_refused (symbols_of tokens) h.refusal h.refused); is = h.is })

abbrev answered : List Declaration → Outcome (List Declaration)
answered ds = Ok (ds, [])

abbrev refusing : Refusal → Outcome (List Declaration)
refusing refusal = Err refusal

abbrev read_of : Outcome (List Declaration) → List Declaration
read_of (Ok p) = p.0
read_of (Err refusal) = []

same_declarations : (ds es : List Declaration) → answered ds ≡ answered es → ds ≡ es
same_declarations ds es e = ap read_of e

differ : (ds : List Declaration) (refusal : Refusal) → answered ds ≡ refusing refusal → ⊥
differ ds refusal e = cc

accepts : (text : List ℕ) (tokens : List Token) (result : Result Tree Fault) → IsAnswer text tokens result
    → (tree : List Declaration) → HasTree (symbols_of tokens) tree → IsWithinLimits tree → MatchResult result (λ t. declarations_of t ≡ tree) (λ f. f ≡ memory_fault)
accepts text tokens (Ok t) h tree has within =
    same_declarations (declarations_of t) tree (sym h.declarations ∙ whole_program_of (symbols_of tokens) tree (within_limits_answered (symbols_of tokens) tree has within))
accepts text tokens (Err fault) (inl memory) tree has within = memory
accepts text tokens (Err fault) (inr h) tree has within = absurd (differ tree h.refusal (sym (whole_program_of (symbols_of tokens) tree (within_limits_answered (symbols_of tokens) tree has within)) ∙ h.refused))

limit_refused : (tokens : List Token) (refusal : Refusal) → BreaksLimit tokens refusal → whole_program (symbols_of tokens) ≡ Err refusal
limit_refused tokens refusal b = whole_refuses (symbols_of tokens) refusal
    (ap program_of b.are ∙ first_limit_refused b.front b.following b.symbol b.tree refusal.reason (subst (λ (ts : List Symbol). HasTree ts b.tree) b.are b.has) b.breaks
    ∙ ap (λ (left : List Symbol). Err (record { reason = refusal.reason; left = left })) (sym b.left))

limits : (text : List ℕ) (tokens : List Token) (result : Result Tree Fault) → IsAnswer text tokens result
    → (refusal : Refusal) → BreaksLimit tokens refusal → MatchResult result (λ _. ⊥) (λ f. (f ≡ memory_fault) ⊎ (f ≡ fault_of (end_of text) refusal))
limits text tokens (Ok t) h refusal b = absurd (differ (declarations_of t) refusal (sym h.declarations ∙ limit_refused tokens refusal b))
limits text tokens (Err fault) (inl memory) refusal b = inl memory
limits text tokens (Err fault) (inr h) refusal b =
    inr (h.is ∙ ap (fault_of (end_of text)) (one_refusal h.refusal refusal (sym h.refused ∙ limit_refused tokens refusal b)))

pub decides : (text : List ℕ) (tokens : List Token) (result : Result Tree Fault) → IsAnswer text tokens result
    → Decides (IsAccepted tokens) (λ tree t. declarations_of t ≡ tree) (IsRefused text tokens) (IsFaulty text tokens) result
decides text tokens result h =
    record {
      accepted = accepted text tokens result h;
      refused = answer_is_refused text tokens result h;
      accepts = λ tree is. accepts text tokens result h tree is.has is.within;
      refuses = λ fault is. subst (λ (g : Fault). MatchResult result (λ _. ⊥) (λ f. (f ≡ memory_fault) ⊎ (f ≡ g))) (sym is.is) (limits text tokens result h is.refusal is.breaks);
    }
