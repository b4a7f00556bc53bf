-- The parsers of lists, regions and types have bounded lookahead.
use Rattle.std.proofs.Common.{ℕ, zero, suc, Bool, true, false, Option, Some, refl}
use Rattle.cyc_syntax.specs.declared.tokens.Keyword.TheVariants as words
use Rattle.cyc_syntax.specs.declared.tokens.Sign.TheVariants as signs
use Rattle.cyc_syntax.specs.Symbols.{Place, Terminal, Word}
use Rattle.cyc_syntax.specs.Trees.{BaseType}
use Rattle.cyc_parse.specs.inside.Parsing.{Parser, TooLong, begins_region, more_items, separated, regions, region_list}
use Rattle.cyc_parse.specs.inside.Types.{mark_at, optional_region, pointers_of, with_pointers, optional_regions, region_of, base_by, written_type}
use Rattle.cyc_parse.proofs.Locality.{Local, then_runs, pure_runs, unexpected_runs, sign_runs, region_name_runs, identifier_runs, advance_runs, sees_runs, starts_runs, is_runs, is_limit_runs, choose_runs, item_refusal_runs}

pub more_items_run : {A : Type 0} {c : Bool} (room : ℕ) (begins : Terminal → Bool) {item : Parser A} → Local c item → (left : ℕ) → Local false (more_items room begins item left)
unfolding more_items
more_items_run room begins h zero = sees_runs signs.Comma (then_runs (sign_runs room signs.Comma) (λ _. item_refusal_runs begins TooLong)) (pure_runs _)
more_items_run room begins h (suc left) = sees_runs signs.Comma (then_runs (sign_runs room signs.Comma) (λ _. then_runs h (λ x. then_runs (more_items_run room begins h left) (λ xs. pure_runs _)))) (pure_runs _)

pub separated_runs : {A : Type 0} {c : Bool} (room : ℕ) (begins : Terminal → Bool) {item : Parser A} → Local c item → Local c (separated room begins item)
separated_runs room begins h = then_runs h (λ x. then_runs (more_items_run room begins h 63) (λ xs. pure_runs _))

module _ (room : ℕ) where
  pub regions_run : Local true (regions room)
  regions_run = separated_runs room begins_region (region_name_runs room)

  pub region_list_runs : Local true (region_list room)
  region_list_runs = then_runs (sign_runs room signs.Less) (λ _. then_runs regions_run (λ rs. then_runs (sign_runs room signs.Greater) (λ _. pure_runs _)))

  pub optional_region_runs : Local false (optional_region room)
  optional_region_runs = starts_runs begins_region (then_runs (region_name_runs room) (λ r. pure_runs _)) (pure_runs _)

  pub pointers_run : (left : ℕ) → Local false (pointers_of room left)
  unfolding pointers_of
  pointers_run zero = is_limit_runs mark_at TooLong refl (pure_runs _)
  pointers_run (suc left) = is_runs mark_at (λ k. then_runs advance_runs (λ _. then_runs optional_region_runs (λ r. then_runs (pointers_run left) (λ ms. pure_runs _)))) (pure_runs _)

  pub with_pointers_run : (p : Place) (b : BaseType) → Local false (with_pointers room p b)
  with_pointers_run p b = then_runs (pointers_run 64) (λ ms. pure_runs _)

  pub optional_regions_run : Local false (optional_regions room)
  unfolding optional_regions
  optional_regions_run = sees_runs signs.Less region_list_runs (pure_runs _)

  pub region_of_runs : Local true (region_of room)
  region_of_runs = then_runs (sign_runs room signs.Less) (λ _. then_runs (region_name_runs room) (λ r. then_runs (sign_runs room signs.Greater) (λ _. pure_runs _)))

  base_runs : (t : Option Terminal) → Local true (base_by room t)
  base_runs (Some (Word words.Int)) = then_runs advance_runs (λ p. with_pointers_run _ _)
  base_runs (Some (Word words.Char)) = then_runs advance_runs (λ p. with_pointers_run _ _)
  base_runs (Some (Word words.Struct)) = then_runs advance_runs (λ p. then_runs (identifier_runs room) (λ s. then_runs optional_regions_run (λ rs. with_pointers_run _ _)))
  base_runs (Some (Word words.RegionType)) = then_runs advance_runs (λ p. then_runs region_of_runs (λ r. with_pointers_run _ _))
  base_runs (Some (Word words.KeyType)) = then_runs advance_runs (λ p. then_runs region_of_runs (λ r. with_pointers_run _ _))
  base_runs _ = unexpected_runs

  pub written_type_runs : Local true (written_type room)
  unfolding written_type
  written_type_runs = choose_runs base_runs
