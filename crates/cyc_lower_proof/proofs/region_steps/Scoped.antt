-- This file counts the lexical regions that are open in the heap store by the continuation frames that close them.
use Rattle.std.proofs.Common.{◌≡◌, ◌≤◌, List, ◌∙◌, arith}
use Rattle.std.specs.Prelude.{◌%◌, ◌^◌}
use Rattle.cyc_store.specs.State.{StoreState, lexical_count}
use Rattle.cyc_meaning.specs.State.{World, Environment, Entry}
use Rattle.cyc_meaning.specs.inside.Nesting.{IsNested}
use Rattle.cyc_memory_relation.specs.inside.Tables.{Tables}
use Rattle.cyc_memory_relation.specs.inside.Related as objects
use Rattle.cyc_memory_relation.proofs.Closing.{scopes-same}
use Rattle.cyc_memory_relation.proofs.Scopes.{scopes-counted, lexicals-within}
use Rattle.cyc_lower_proof.proofs.relation.contents.HeldValues.{scopes_in}
use Rattle.cyc_lower_proof.proofs.relation.simulation.Shared.{silent}

-- ---- the source

module _ (t : Tables) (w : World) (s : StoreState) (related : objects.Related t (silent w) s) where
  -- The heap store has as many open lexical regions as there are continuation frames that close one.
  pub scopes_there : (k : List Entry) (e : Environment) → IsNested k e w → lexical_count s.regions ≡ scopes_in k
  scopes_there k e nested = scopes-same related.regions ∙ scopes-counted k e w nested

  -- The number of open lexical regions fits in a 32-bit word.
  pub scopes_word : (k : List Entry) (e : Environment) → IsNested k e w → lexical_count s.regions % 2 ^ 32 ≡ scopes_in k
  scopes_word k e nested =
      let few : lexical_count s.regions ≤ 65536 = omega (arith, lexicals-within s related.sound, related.few) in
      omega (arith, few, scopes_there k e nested)
