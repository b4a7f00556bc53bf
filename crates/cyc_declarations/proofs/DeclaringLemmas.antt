-- Lemmas: adding the declarations of a program one after the other gives the collection of all its declarations.
use Rattle.std.proofs.Common.{◌≡◌, suc, List, ◌∷◌, ap}
use Rattle.std.proofs.lemmas.List.{append_assoc}
use Rattle.cyc_syntax.specs.Trees.{Declaration, StructType, Exceptions, Global, Function}
use Rattle.cyc_types.specs.typing.Scopes.{Field, Exception, Declared}
use Rattle.cyc_types.specs.typing.DeclarationRules.{fields_of, exceptions_of, declared_from}
use Rattle.cyc_declarations.specs.inside.Declaring.{State, after_declaration, after_declarations, exceptions_made}

pub one_after : (d : Declaration) (ds : List Declaration) (h : State) → after_declarations ds (after_declaration d h) ≡ after_declarations (d ∷ ds) h
one_after (StructType s rs ms) ds h = ap (λ (fs : List (List Field)). record (after_declarations (StructType s rs ms ∷ ds) h) { fields = fs }) (append_assoc h.program.fields _ (fields_of h.program.known ds))
one_after (Exceptions cs) ds h = ap (λ (es : List Exception). record (after_declarations (Exceptions cs ∷ ds) h) { exceptions = es }) (append_assoc h.program.exceptions (exceptions_made cs) (exceptions_of ds))
one_after (Global w x v) ds h =
    ap (λ (es : List Declared). record (after_declarations (Global w x v ∷ ds) h) { declared = es }) (append_assoc h.program.declared _ (declared_from h.program.known (suc h.globals) h.functions ds))
one_after (Function r x ps b) ds h =
    ap (λ (es : List Declared). record (after_declarations (Function r x ps b ∷ ds) h) { declared = es }) (append_assoc h.program.declared _ (declared_from h.program.known h.globals (suc h.functions) ds))
