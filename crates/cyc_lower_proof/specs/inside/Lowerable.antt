-- This file defines the typed trees that can be lowered. A tree that can be lowered is well-typed, and its constants and exception
-- indices are 32-bit words. Each new struct has a field and fits into a block, and pointer arithmetic forms separate chains. The typed
-- tree of a text satisfies these requirements.
use Rattle.std.specs.Prelude.{◌≡◌, ◌≤◌, Bool, true, if◌then◌else◌}
use Rattle.cyc_words.specs.Word.{IsWord}
use Rattle.cyc_store.specs.declared.range.TheConstants.{MOST_BLOCK_WORDS}
use Rattle.cyc_types.specs.declared.typed.Kind.{Kind}
use Rattle.cyc_types.specs.declared.typed.Kind.TheVariants as kinds
use Rattle.cyc_types.specs.Numbered.{argument_count}
use Rattle.cyc_types.specs.Demands.{Demands}
use Rattle.cyc_types.specs.Texts.{stands_alone}
use Rattle.cyc_meaning.specs.Values.{is_thin, is_kind}
use Rattle.cyc_lower_proof.specs.inside.ValueCode.{are_as_wide, all_passed}

-- Holds for the representation kinds of pointers, thin or fat.
abbrev pub is_pointer : Kind → Bool
is_pointer kind = if is_thin kind then true else is_kind kind kinds.Fat

-- Holds if a conversion keeps the number of machine words of a value, or converts between thin and fat pointers.
abbrev pub is_converted : (from to : Kind) → Bool
is_converted from to = if are_as_wide from to then true else is_pointer to

abbrev pub lowering_demands : Demands
lowering_demands = record {
  number = IsWord;
  fields = λ cs. (1 ≤ argument_count cs) × (all_passed cs ≤ MOST_BLOCK_WORDS);
  pointer = λ o os. stands_alone o os ≡ true;
  exception = IsWord;
}
