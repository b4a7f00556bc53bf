-- Defines which fault codes have an explanation of names, types or regions.
use Rattle.std.specs.Prelude.{Bool, true, false}
use Rattle.cyc_words.specs.declared.fault.Code.{Code}
use Rattle.cyc_words.specs.declared.fault.Code.TheVariants.{UnknownName, DeclaredTwice, TypeMismatch, NullForNonNull, RegionNotLive, NotOutlived, EffectNotCovered, UniqueShared, NotAPlace, RegionOrKeyMisused, BadMain}

-- Returns true if a fault with this code is the checker's: a fault of names, types or regions.
abbrev pub is_explained : Code → Bool
is_explained code = elim code [ UnknownName ↦ true | DeclaredTwice ↦ true | TypeMismatch ↦ true | NullForNonNull ↦ true | RegionNotLive ↦ true | NotOutlived ↦ true | EffectNotCovered ↦ true | UniqueShared ↦ true | NotAPlace ↦ true | RegionOrKeyMisused ↦ true | BadMain ↦ true | _ ↦ false ]
