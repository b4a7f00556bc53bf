-- At the end of a text's parse, a success leaves no symbol, and a rejection has its position in the text.
use Rattle.std.proofs.Common.{◌≡◌, ◌⊎◌, ℕ, List, [], ◌∷◌, map, fold, inl, inr, Ok, Err, sym, ap, ◌∙◌}
use Rattle.cyc_words.specs.Fault.{memory_fault}
use Rattle.cyc_words.specs.declared.fault.Fault.{Fault}
use Rattle.cyc_words.specs.declared.span.Span.{Span}
use Rattle.cyc_syntax.specs.Names.{with_text}
use Rattle.cyc_syntax.specs.inside.Place.{IsAfter}
use Rattle.cyc_syntax.specs.Tokens.{Token}
use Rattle.cyc_syntax.specs.inside.TreeView.{place_of_span}
use Rattle.cyc_syntax.specs.Symbols.{Symbol, texts_in, symbol_of, symbols_of}
use Rattle.cyc_syntax.specs.Trees.{Declaration}
use Rattle.cyc_parse.specs.inside.Parsing.{Outcome, and_then, bind}
use Rattle.cyc_parse.specs.inside.Declarations.{program_of}
use Rattle.cyc_parse.specs.Faults.{end_of}
use Rattle.cyc_parse.specs.inside.Answers.{at_end, whole_program, IsRefused, IsAnswer}

left_of : Outcome (List Declaration) → List Symbol
left_of (Ok p) = p.1
left_of (Err refusal) = []

end_leaves_none : (outcome : Outcome (List Declaration)) (ds : List Declaration) (left : List Symbol) → and_then outcome at_end ≡ Ok (ds, left) → left ≡ []
unfolding left_of
end_leaves_none (Ok (es, [])) ds left e = sym (ap left_of e)
end_leaves_none (Ok (es, t ∷ ts)) ds left e = absurd (cc)
end_leaves_none (Err refusal) ds left e = absurd (cc)

pub whole_ends : (ts : List Symbol) (ds : List Declaration) (left : List Symbol) → whole_program ts ≡ Ok (ds, left) → whole_program ts ≡ Ok (ds, [])
unfolding bind
whole_ends ts ds left e = e ∙ ap (λ (us : List Symbol). Ok (ds, us)) (end_leaves_none (program_of ts) ds left e)

-- The position just after the whole text is the end of the text.
pub end_after : (text : List ℕ) (end : Span) → IsAfter end text → place_of_span end ≡ end_of text
end_after text end following = (λ i. record { line = following.line i; column = following.column i })

-- If the symbols of the tokens are rejected, the tokens of the text are rejected.
pub refused_of : (text : List ℕ) (tokens : List Token) (seen names : List (List ℕ)) (symbols : List Symbol) (fault : Fault)
    → seen ≡ [] → names ≡ fold with_text seen (texts_in tokens) → symbols ≡ map (symbol_of names) tokens
    → (fault ≡ memory_fault) ⊎ IsRefused (end_of text) symbols fault → IsAnswer text tokens (Err fault)
refused_of text tokens seen names symbols fault empty met are (inl memory) = inl memory
refused_of text tokens seen names symbols fault empty met are (inr h) =
    let same : symbols ≡ symbols_of tokens =
    are ∙ ap (λ (ns : List (List ℕ)). map (symbol_of ns) tokens) (met ∙ ap (λ (ss : List (List ℕ)). fold with_text ss (texts_in tokens)) empty) in
    inr (record { refusal = h.refusal; refused = ap whole_program (sym same) ∙ h.refused; is = h.is })
