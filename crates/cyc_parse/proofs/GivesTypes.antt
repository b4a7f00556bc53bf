-- The parsers of lists, regions and types return a tree that the symbols spell.
use Rattle.std.proofs.Common.{◌≡◌, ℕ, zero, suc, ◌+◌, ◌≤◌, Bool, true, List, [], ◌∷◌, ◌++◌, Option, Some, None, refl, ap, arith}
use Rattle.std.specs.List.{AllByRecursion}
use Rattle.cyc_syntax.specs.declared.tokens.Keyword.TheVariants as words
use Rattle.cyc_syntax.specs.declared.tokens.Sign.TheVariants as signs
use Rattle.cyc_syntax.specs.declared.tree.PointerKind.{PointerKind}
use Rattle.cyc_syntax.specs.declared.tree.PointerKind.TheVariants as pointers
use Rattle.cyc_syntax.specs.Symbols.{Place, Terminal, RegionName, Word, Mark, Symbol}
use Rattle.cyc_syntax.specs.Trees.{Named, BaseType, Int, Char, Struct, Handle, Key}
use Rattle.cyc_syntax.specs.Yields.{Yield, item_number, mark_sign}
use Rattle.cyc_syntax.specs.Yields as yields
use Rattle.cyc_syntax.specs.Grammar.{IsNonempty, max_nesting, max_items}
use Rattle.cyc_parse.specs.inside.Parsing.{Parser, TooLong, next, begins_region, region_name, region_list, more_items, separated, regions}
use Rattle.cyc_parse.specs.inside.Types.{mark_at, optional_region, pointers_of, with_pointers, optional_regions, region_of, base_by, written_type}
use Rattle.cyc_parse.proofs.Rules.{Fits, leaf_of, leaf_at}
use Rattle.cyc_parse.proofs.Gives.{Gives, Follows, Spells, Any, spelled_then, last_then, pure_gives, Possible, Opened, possibly, unexpected_gives, limit_gives, item_refusal_gives, gives_as, item_gives, numbered, opened_item, opened_then}
use Rattle.cyc_parse.proofs.GivesSymbols.{some_place, sign_then, region_then, identifier_then, advance_then, advance_leaf_then, choose_gives, sees_gives, starts_gives, is_gives, bare_gives}
use Rattle.cyc_parse.proofs.Openings.{region_opened}

-- ---- lists separated by commas

module _ {A : Type 0} (room d : ℕ) (fits : Fits room d) (begins : Terminal → Bool) (item : Parser A) (yield : A → Yield) (Is : A → Type 0)
    (h : (ts : List Symbol) → Gives item (Spells yield (λ x _. Is x)) ts) (opened : (u : Terminal) (p : Place) → begins u ≡ true → Opened (Spells yield (λ x _. Is x)) u p) where
  pub more_items_give : (left i : ℕ) → left + i ≡ suc max_items → (ts : List Symbol) → Gives (more_items room begins item left) (Spells (yields.more yield d i) (λ xs _. AllByRecursion Is xs)) ts
  unfolding more_items
  more_items_give zero i count ts = sees_gives signs.Comma (sign_then room d signs.Comma fits (λ _ mid. item_refusal_gives begins TooLong one_more (λ u p b. opened_then (numbered i (opened u p b)) (λ x is. possibly (x ∷ []) [] (refl, (is, tt)))))) (pure_gives (refl, tt))
    where
      one_more : Possible (λ xs ls rest. (leaf_of d (Mark signs.Comma) ∷ ls ≡ yields.more yield d i xs) × AllByRecursion Is xs)
      one_more = let a = (h []).ending refl in possibly (a.value ∷ []) (item_number i (yield a.value) ++ []) (refl, (a.post.1, tt))
  more_items_give (suc left) i count ts = sees_gives signs.Comma (sign_then room d signs.Comma fits (λ _ mid. spelled_then (item_gives i (omega arith) (h mid)) (λ x mid is.
      last_then (λ xs. x ∷ xs) (more_items_give left (suc i) (omega arith) mid) (λ xs rest all. (refl, (is, all)))))) (pure_gives (refl, tt))

  pub separated_gives : (ts : List Symbol) → Gives (separated room begins item) (Spells (yields.separated yield d) (λ xs _. IsNonempty xs × AllByRecursion Is xs)) ts
  separated_gives ts = spelled_then (item_gives 1 (omega arith) (h ts)) (λ x mid is. last_then (λ xs. x ∷ xs) (more_items_give 63 2 refl mid) (λ xs rest all. (refl, (tt, (is, all)))))

-- ---- regions

region_name_gives : (room d : ℕ) → Fits room d → (ts : List Symbol) → Gives (region_name room) (Spells (yields.region_name d) (λ _ _. Unit {0})) ts
region_name_gives room d fits ts = bare_gives (region_then room d fits (λ x mid. pure_gives (refl, tt)))

mark_comes : (u : Option Terminal) (k : PointerKind) → mark_at u ≡ Some k → u ≡ Some (Mark (mark_sign k))
mark_comes (Some (Mark signs.Star)) k e = let same : pointers.Nullable ≡ k = cc in ap (λ (o : PointerKind). Some (Mark (mark_sign o))) same
mark_comes (Some (Mark signs.At)) k e = let same : pointers.NonNull ≡ k = cc in ap (λ (o : PointerKind). Some (Mark (mark_sign o))) same
mark_comes (Some (Mark signs.Question)) k e = let same : pointers.Fat ≡ k = cc in ap (λ (o : PointerKind). Some (Mark (mark_sign o))) same
mark_comes _ k e = absurd (cc)

module _ (room d : ℕ) (fits : Fits room d) where
  pub regions_give : (ts : List Symbol) → Gives (regions room) (Spells (yields.regions d) (λ rs _. IsNonempty rs)) ts
  regions_give ts = gives_as (λ rs ls rest h. (h.0, h.1.0)) (separated_gives room d fits begins_region (region_name room) (yields.region_name d) (λ _. Unit {0}) (λ s. region_name_gives room d fits s) (region_opened d) ts)

  pub region_list_gives : (ts : List Symbol) → Gives (region_list room) (Spells (yields.region_list d) Any) ts
  region_list_gives ts = sign_then room d signs.Less fits (λ _ mid. spelled_then (regions_give mid) (λ rs mid some. sign_then room d signs.Greater fits (λ _ mid. pure_gives (closing rs some, tt))))
    where
      closing : (rs : List Named) → IsNonempty rs → leaf_of d (Mark signs.Less) ∷ (yields.regions d rs ++ leaf_of d (Mark signs.Greater) ∷ []) ≡ yields.region_list d rs
      closing [] some = absurd some
      closing (r ∷ rs) some = refl

  pub optional_region_gives : (ts : List Symbol) → Gives (optional_region room) (Spells (yields.optional (yields.region_name d)) Any) ts
  optional_region_gives ts = starts_gives begins_region (λ _. region_then room d fits (λ r mid. pure_gives (refl, tt))) (λ _. pure_gives (refl, tt))

  pub optional_regions_give : (ts : List Symbol) → Gives (optional_regions room) (Spells (yields.region_list d) Any) ts
  unfolding optional_regions
  optional_regions_give ts = sees_gives signs.Less (region_list_gives ts) (pure_gives (refl, tt))

  pub region_of_gives : (ts : List Symbol) → Gives (region_of room) (Spells (λ r. leaf_of d (Mark signs.Less) ∷ leaf_at d (RegionName r.name) r.place ∷ leaf_of d (Mark signs.Greater) ∷ []) Any) ts
  region_of_gives ts = sign_then room d signs.Less fits (λ _ mid. region_then room d fits (λ r mid. sign_then room d signs.Greater fits (λ _ mid. pure_gives (refl, tt))))

  -- ---- types

  module _ (shallow : d ≤ max_nesting) where
    pointers_give : (left i : ℕ) → left + i ≡ suc max_items → (ts : List Symbol) → Gives (pointers_of room left) (Spells (yields.each (yields.mark d) i) Any) ts
    unfolding pointers_of
    pointers_give zero i count ts = is_gives mark_at (λ k e. limit_gives TooLong (Mark (mark_sign k)) (mark_comes (next ts) k e) (λ p. opened_item d i (Mark (mark_sign k)) p (record { kind = k; region = None } ∷ []) _ (refl, tt))) (pure_gives (refl, tt))
    pointers_give (suc left) i count ts = is_gives mark_at (λ k e. advance_leaf_then (λ _. record { terminal = Mark (mark_sign k); place = None; nesting = d; item = i }) (Mark (mark_sign k)) (mark_comes (next ts) k e)
        (λ _. refl) (λ _. shallow) (λ _. omega arith) (λ _. tt)
        (λ _ mid. spelled_then (optional_region_gives mid) (λ r mid _. last_then (λ ms. record { kind = k; region = r } ∷ ms) (pointers_give left (suc i) (omega arith) mid) (λ ms rest _. (refl, tt)))))
        (pure_gives (refl, tt))

    pub with_pointers_give : (p : Place) (b : BaseType) (ts : List Symbol) → Gives (with_pointers room p b) (Follows (yields.base_type d p b) (yields.written_type d) Any) ts
    with_pointers_give p b ts = last_then (λ ms. record { place = p; base = b; marks = ms }) (pointers_give 64 1 refl ts) (λ ms rest _. (refl, tt))

    base_gives : (o : Option Terminal) (ts : List Symbol) → next ts ≡ o → Gives (base_by room o) (Spells (yields.written_type d) Any) ts
    base_gives (Some (Word words.Int)) ts e = advance_then d (Word words.Int) e shallow (λ p mid. with_pointers_give p Int mid)
    base_gives (Some (Word words.Char)) ts e = advance_then d (Word words.Char) e shallow (λ p mid. with_pointers_give p Char mid)
    base_gives (Some (Word words.Struct)) ts e = advance_then d (Word words.Struct) e shallow (λ p mid. identifier_then room d fits (λ s mid. spelled_then (optional_regions_give mid) (λ rs mid _. with_pointers_give p (Struct s rs) mid)))
    base_gives (Some (Word words.RegionType)) ts e = advance_then d (Word words.RegionType) e shallow (λ p mid. spelled_then (region_of_gives mid) (λ r mid _. with_pointers_give p (Handle r) mid))
    base_gives (Some (Word words.KeyType)) ts e = advance_then d (Word words.KeyType) e shallow (λ p mid. spelled_then (region_of_gives mid) (λ r mid _. with_pointers_give p (Key r) mid))
    base_gives _ ts e = unexpected_gives (possibly (record { place = some_place; base = Int; marks = [] }) _ (refl, tt))

    pub written_type_gives : (ts : List Symbol) → Gives (written_type room) (Spells (yields.written_type d) Any) ts
    unfolding written_type
    written_type_gives ts = choose_gives (λ o e. base_gives o ts e)
