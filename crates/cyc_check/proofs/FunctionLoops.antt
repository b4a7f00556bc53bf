-- The traversal of the declarations of a program, of which only functions have bodies.
use Rattle.std.proofs.Common.{◌≡◌, List, [], ◌∷◌, ◌++◌, Option, map, Ok, refl, sym, ap, ◌∙◌}
use Rattle.cyc_syntax.specs.Symbols.{Place}
use Rattle.cyc_syntax.specs.Trees.{Named, WrittenType, Member, Items, Braces, Body, Parameters, Declaration, StructType, Exceptions, Global, Function}
use Rattle.cyc_types.specs.declared.typed.Function.{Function as FunctionCode}
use Rattle.cyc_types.specs.TypedTrees as typed
use Rattle.cyc_types.specs.TypedTreeView.{view_function}
use Rattle.cyc_types.specs.Rules.{Checked, and_then, run}
use Rattle.cyc_types.specs.TypedTrees.{Signature}
use Rattle.cyc_types.specs.typing.Scopes.{RegionName, Scope}
use Rattle.cyc_types.specs.typing.Statements.{rule_items}
use Rattle.cyc_types.specs.typing.DeclarationRules.{members_of, parameter_naming, signature_of}
use Rattle.cyc_types.specs.typing.Programs.{Program, body_scope, function_of, rule_function, rule_functions}
use Rattle.cyc_scope.specs.inside.Bodies.{body_with}
use Rattle.cyc_scope.specs.declared.stop.Stop.{Stop}
use Rattle.cyc_scope.specs.declared.stop.Stop.TheVariants as stops
use Rattle.cyc_scope.specs.inside.Code.{Stops}
use Rattle.cyc_expressions.proofs.Loops.{onto, with_front, regroup}

-- Returns the functions checked so far, followed by the result for the remaining ones.
abbrev pub with_functions : List FunctionCode → Checked (List typed.Function) → Checked (List typed.Function)
with_functions front o = with_front view_function (λ f fs. f ∷ fs) front o

abbrev pub HasNoBody : Declaration → Type 0
HasNoBody (StructType s rs ms) = Unit {0}
HasNoBody (Exceptions cs) = Unit {0}
HasNoBody (Global w x v) = Unit {0}
HasNoBody (Function r x ps b) = ⊥

pub passes_declaration : (front : List FunctionCode) (p : Program) (d : Declaration) (zs tree : List Declaration) (whole : Checked (List typed.Function)) → zs ≡ d ∷ tree → HasNoBody d
    → with_functions front (run (rule_functions p zs)) ≡ whole → with_functions front (run (rule_functions p tree)) ≡ whole
passes_declaration front p (StructType s rs ms) zs tree whole is u so_far = sym (ap (λ us. with_functions front (run (rule_functions p us))) is) ∙ so_far
passes_declaration front p (Exceptions cs) zs tree whole is u so_far = sym (ap (λ us. with_functions front (run (rule_functions p us))) is) ∙ so_far
passes_declaration front p (Global w x v) zs tree whole is u so_far = sym (ap (λ us. with_functions front (run (rule_functions p us))) is) ∙ so_far
passes_declaration front p (Function r x ps b) zs tree whole is u so_far = absurd u

-- Returns the result of the typing rules for the function that this declaration defines.
abbrev pub one_function : Program → Option WrittenType → Named → Parameters → Body → Checked typed.Function
one_function p r x ps b = run (rule_function p (signature_of p.known r ps) x ps b)

function_first : (p : Program) (r : Option WrittenType) (x : Named) (ps : Parameters) (b : Body) (d : Declaration) (zs tree : List Declaration) → zs ≡ d ∷ tree → d ≡ Function r x ps b
    → run (rule_functions p zs) ≡ and_then (one_function p r x ps b) (λ h. and_then (run (rule_functions p tree)) (λ hs. Ok (h ∷ hs)))
function_first p r x ps b d zs tree is e = ap (λ us. run (rule_functions p us)) (is ∙ ap (λ c. c ∷ tree) e)

pub adds : (front : List FunctionCode) (p : Program) (r : Option WrittenType) (x : Named) (ps : Parameters) (b : Body) (d : Declaration) (zs tree : List Declaration) (f : FunctionCode) (whole : Checked (List typed.Function))
    → zs ≡ d ∷ tree → d ≡ Function r x ps b → one_function p r x ps b ≡ Ok (view_function f)
    → with_functions front (run (rule_functions p zs)) ≡ whole → with_functions (front ++ f ∷ []) (run (rule_functions p tree)) ≡ whole
adds front p r x ps b d zs tree f whole is e h so_far =
    sym (ap (with_functions front) (function_first p r x ps b d zs tree is e ∙ ap (λ o. and_then o (λ h. and_then (run (rule_functions p tree)) (λ hs. Ok (h ∷ hs)))) h)
    ∙ regroup view_function (λ f fs. f ∷ fs) front f (run (rule_functions p tree)))
    ∙ so_far

onto_functions : (front : List FunctionCode) → onto view_function (λ f fs. f ∷ fs) front [] ≡ map view_function front
onto_functions [] = refl
onto_functions (f ∷ fs) = ap (λ gs. view_function f ∷ gs) (onto_functions fs)

pub functions_end : (front : List FunctionCode) (p : Program) (zs : List Declaration) (whole : Checked (List typed.Function)) → zs ≡ [] → with_functions front (run (rule_functions p zs)) ≡ whole → whole ≡ Ok (map view_function front)
functions_end front p zs whole is so_far = sym so_far ∙ ap (λ us. with_functions front (run (rule_functions p us))) is ∙ ap Ok (onto_functions front)

-- ---- the scope of a body, and its items

pub scope_of_body : (p : Program) (s t : Signature) (x : Named) (ps : Parameters) (names : List RegionName) (ms : List Member) (g : Scope) → g ≡ body_with p t x names ms → t ≡ s
    → names ≡ (parameter_naming p.known ps).names → ms ≡ members_of ps.list → g ≡ body_scope p s x ps
scope_of_body p s t x ps names ms g is known named listed =
    is ∙ ap (λ (v : Signature). body_with p v x names ms) known ∙ ap (λ ns. body_with p s x ns ms) named ∙ ap (λ ys. body_with p s x (parameter_naming p.known ps).names ys) listed

pub body_stops : (e : Stop) (p : Program) (s : Signature) (x : Named) (ps : Parameters) (q r : Place) (is js : Items) (g : Scope) → g ≡ body_scope p s x ps → js ≡ is → Stops e (run (rule_items g js))
    → Stops e (run (rule_function p s x ps (Braces q is r)))
body_stops stops.Memory p s x ps q r is js g scoped same h = tt
body_stops (stops.Refused f) p s x ps q r is js g scoped same h =
    ap (λ o. and_then o (λ ks. Ok (function_of s x is r ks))) (sym (ap (λ (k : Scope). run (rule_items k js)) scoped ∙ ap (λ ys. run (rule_items (body_scope p s x ps) ys)) same) ∙ h)
