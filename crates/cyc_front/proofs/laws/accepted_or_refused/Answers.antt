use Rattle.std.proofs.Common.{inl, inr, sym, subst}
use Rattle.cyc_syntax.specs.Symbols.{symbols_of}
use Rattle.cyc_parse.specs.Acceptance as parser
use Rattle.cyc_types.specs.flow.Programs.{IsStoppedProgram}
use Rattle.cyc_front.specs.Front.{names_in}
use Rattle.cyc_front.proofs.Fronts.{Lexed, Parsed, typed_here, faulty_here}
use Rattle.cyc_front.proofs.laws.accepted_or_refused.Goals as goal

pub returns-clause-one_program : goal.returns-clause-one_program
returns-clause-one_program c = λ text p q a b.
    let l : Lexed text a.tokens = record {
      is = a.has_tokens;
      only = λ ts h. c.one_answer.ensures.tokens text a.tokens ts a.has_tokens h;
      no_fault = λ f h. c.one_answer.ensures.not_both text a.tokens f a.has_tokens h;
    } in
    let r : Parsed parser.IsRefused text a.tokens a.tree = record {
      is = a.has_tree;
      only = λ d h. c.one_tree.ensures (symbols_of a.tokens) a.tree d a.has_tree.has a.has_tree.within h.has;
      no_fault = λ f h. c.refused_has_no_tree.ensures (symbols_of a.tokens) h.refusal a.tree h.refused a.has_tree.has a.has_tree.within;
    } in
    c.one_typed_tree.ensures (names_in a.tokens) a.tree p q a.typed (typed_here parser.IsRefused text a.tokens a.tree l r q b)

pub returns-clause-not_both : goal.returns-clause-not_both
returns-clause-not_both c = λ text p f a h.
    let l : Lexed text a.tokens = record {
      is = a.has_tokens;
      only = λ ts h. c.one_answer.ensures.tokens text a.tokens ts a.has_tokens h;
      no_fault = λ f h. c.one_answer.ensures.not_both text a.tokens f a.has_tokens h;
    } in
    let r : Parsed parser.IsRefused text a.tokens a.tree = record {
      is = a.has_tree;
      only = λ d h. c.one_tree.ensures (symbols_of a.tokens) a.tree d a.has_tree.has a.has_tree.within h.has;
      no_fault = λ f h. c.refused_has_no_tree.ensures (symbols_of a.tokens) h.refusal a.tree h.refused a.has_tree.has a.has_tree.within;
    } in
    elim (faulty_here parser.IsRefused text a.tokens a.tree l r f h) [
      | inl w ↦ c.typed_or_refused.ensures (names_in a.tokens) a.tree p f a.typed w
      | inr (q, typed, s) ↦ c.allowed_or_stopped.ensures p f a.allowed (subst (λ x. IsStoppedProgram x f) (sym (c.one_typed_tree.ensures (names_in a.tokens) a.tree p q a.typed typed)) s)
    ]
