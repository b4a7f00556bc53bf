-- The parser of types.
use Rattle.std.specs.Prelude.{ℕ, zero, suc, Bool, true, false, List, [], ◌∷◌, Option, Some, None}
use Rattle.cyc_syntax.specs.declared.tokens.Keyword.{Keyword}
use Rattle.cyc_syntax.specs.declared.tokens.Keyword.TheVariants as words
use Rattle.cyc_syntax.specs.declared.tokens.Sign.TheVariants as signs
use Rattle.cyc_syntax.specs.declared.tree.PointerKind.{PointerKind}
use Rattle.cyc_syntax.specs.declared.tree.PointerKind.TheVariants as pointers
use Rattle.cyc_syntax.specs.Symbols.{Place, Terminal, Word, Mark}
use Rattle.cyc_syntax.specs.Trees.{Named, Pointer, BaseType, Int, Char, Struct, Handle, Key, WrittenType}
use Rattle.cyc_syntax.specs.Grammar.{max_items}
use Rattle.cyc_parse.specs.inside.Parsing.{Parser, Unexpected, TooLong, ◌>>=◌, ◌>>◌, pure, refuse, choose, advance, if_is, if_starts, if_sees, begins_region, region_list, sign, identifier, region_name}

abbrev pub is_type_word : Keyword → Bool
is_type_word words.Int = true
is_type_word words.Char = true
is_type_word words.Struct = true
is_type_word words.RegionType = true
is_type_word words.KeyType = true
is_type_word _ = false

abbrev pub begins_type : Terminal → Bool
begins_type (Word k) = is_type_word k
begins_type _ = false

-- Returns the kind of pointer that the next symbol denotes, if it is a pointer mark such as `*`.
abbrev pub mark_at : Option Terminal → Option PointerKind
mark_at (Some (Mark signs.Star)) = Some pointers.Nullable
mark_at (Some (Mark signs.At)) = Some pointers.NonNull
mark_at (Some (Mark signs.Question)) = Some pointers.Fat
mark_at _ = None

abbrev pub optional_region : ℕ → Parser (Option Named)
optional_region room = if_starts begins_region (region_name room >>= (λ r. pure (Some r))) (pure None)

-- Ends a type that has the maximal number of pointer marks such as `*`; one more mark is rejected.
abbrev pub no_more_pointers : Parser (List Pointer)
no_more_pointers = if_is mark_at (λ k. refuse TooLong) (pure [])

unfoldable pub pointers_of : ℕ → ℕ → Parser (List Pointer)
pointers_of room zero = no_more_pointers
pointers_of room (suc left) = if_is mark_at (λ k. advance >> optional_region room >>= (λ r. pointers_of room left >>= (λ ms. pure (record { kind = k; region = r } ∷ ms)))) (pure [])

abbrev pub with_pointers : ℕ → Place → BaseType → Parser WrittenType
with_pointers room p b = pointers_of room max_items >>= (λ ms. pure (record { place = p; base = b; marks = ms }))

unfoldable pub optional_regions : ℕ → Parser (List Named)
optional_regions room = if_sees signs.Less (region_list room) (pure [])

-- Parses the region of a handle's or a key's type.
abbrev pub region_of : ℕ → Parser Named
region_of room = sign room signs.Less >> region_name room >>= (λ r. sign room signs.Greater >> pure r)

abbrev pub base_by : ℕ → Option Terminal → Parser WrittenType
base_by room (Some (Word words.Int)) = advance >>= (λ p. with_pointers room p Int)
base_by room (Some (Word words.Char)) = advance >>= (λ p. with_pointers room p Char)
base_by room (Some (Word words.Struct)) = advance >>= (λ p. identifier room >>= (λ s. optional_regions room >>= (λ rs. with_pointers room p (Struct s rs))))
base_by room (Some (Word words.RegionType)) = advance >>= (λ p. region_of room >>= (λ r. with_pointers room p (Handle r)))
base_by room (Some (Word words.KeyType)) = advance >>= (λ p. region_of room >>= (λ r. with_pointers room p (Key r)))
base_by room _ = refuse Unexpected

unfoldable pub written_type : ℕ → Parser WrittenType
written_type room = choose (base_by room)
