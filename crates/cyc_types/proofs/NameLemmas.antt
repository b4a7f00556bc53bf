-- The table of region names stays correct as names are declared and removed.
use Rattle.std.specs.List.{list_any}
use Rattle.std.proofs.Common.{◌≡◌, ℕ, ◌+◌, ◌<◌, Bool, false, cond, not, nat_eq, ◌&&◌, List, [], ◌∷◌, ◌++◌, length, map, reverse, take, get_or, Option, Some, refl, sym, ap, ◌∙◌}
use Rattle.std.proofs.lemmas.List.{reverse-append, take_more}
use Rattle.std.proofs.lemmas.List.Sorted.{IsPermutation-reverse, list_any-IsPermutation}
use Rattle.std.proofs.lemmas.Bool.{eq-eqb}
use Rattle.cyc_words.proofs.Lists.{get_or_within}
use Rattle.cyc_words.proofs.Booleans.{not_and_itself}
use Rattle.cyc_types.specs.declared.region.Region.{Region}
use Rattle.cyc_types.specs.declared.names.Binding.{Binding}
use Rattle.cyc_types.specs.typing.Scopes.{region_among}
use Rattle.cyc_types.specs.typing.DeclarationRules.{region_numbers}
use Rattle.cyc_types.specs.inside.Names.{names_of, Finds}

-- the number that identifies the name of the oldest binding is a valid index of the table of region names
pub in_range : (table : List (Option Region)) (bs old : List Binding) (b : Binding) → Finds table old → old ≡ bs ++ b ∷ [] → b.name < length table
in_range table bs old b f e = get_or_within table b.name b.region (f.0 b.name ∙ ap (λ ns. region_among ns b.name) front ∙ ap (λ t. cond t (Some b.region) (region_among (names_of bs) b.name)) (eq-eqb b.name b.name refl))
  where
    front : names_of old ≡ record { name = b.name; region = b.region } ∷ names_of bs
    front = ap names_of e ∙ ap (map (λ (b : Binding). record { name = b.name; region = b.region })) (reverse-append bs (b ∷ []))

-- ---- sets of names

-- if a table of booleans is true exactly for the names in a list, it is true for no name once all these names are removed
pub none_left : (table : List Bool) (names : List ℕ) (left : List Bool) (x : ℕ) → get_or table x false ≡ list_any (nat_eq x) (reverse names)
    → get_or left x false ≡ (not (list_any (nat_eq x) names) && get_or table x false) → get_or left x false ≡ false
none_left table names left x known is =
    let same : get_or table x false ≡ list_any (nat_eq x) names = known ∙ sym (list_any-IsPermutation (nat_eq x) names (reverse names) (IsPermutation-reverse names)) in
    is ∙ ap (λ b. not (list_any (nat_eq x) names) && b) same ∙ not_and_itself (list_any (nat_eq x) names)
