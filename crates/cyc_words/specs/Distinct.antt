-- This file defines lists without duplicates. The definition of distinct lists is this project's own choice.
use Rattle.std.specs.Prelude.{◌≢◌, List, [], ◌∷◌}
use Rattle.std.specs.List.{AllByRecursion}

abbrev pub IsDistinct : {X : Type 0} → List X → Type 0
IsDistinct [] = Unit {0}
IsDistinct (x ∷ xs) = AllByRecursion (λ y. x ≢ y) xs × IsDistinct xs
