-- The mathematical view of the meaning of a name, for contracts; the view omits the memory layout of types and signatures.
use Rattle.cyc_types.specs.TypeView.{view_ty}
use Rattle.cyc_types.specs.inside.SignatureView.{view_signature}
use Rattle.cyc_types.specs.TypedTreeView.{view_lvalue}
use Rattle.cyc_types.specs.typing.Scopes.{Meaning, Unknown, Variable, Fixed, Counter, Routine}
use Rattle.cyc_scope.specs.declared.meaning.Meaning.{Meaning as MeaningCode}
use Rattle.cyc_scope.specs.declared.meaning.Meaning.TheVariants as meaning

abbrev pub view_meaning : MeaningCode → Meaning
view_meaning meaning.Unknown = Unknown
view_meaning (meaning.Variable l t home) = Variable (view_lvalue l) (view_ty t.now) home
view_meaning (meaning.Fixed l t) = Fixed (view_lvalue l) (view_ty t.now)
view_meaning (meaning.Counter n) = Counter n
view_meaning (meaning.Routine f s) = Routine f (view_signature s.now)
