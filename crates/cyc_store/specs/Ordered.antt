-- This file defines stores whose blocks are laid out in pages. If a store whose blocks are laid out in pages has enough pages for a
-- call, then there is space for the call's result. A store with enough pages for a call can choose a handle, an address and words
-- that preserve the layout. The layout of blocks in pages is this project's own choice.
use Rattle.std.specs.Prelude.{◌≡◌, ◌≤◌, List, [], ◌∷◌}
use Rattle.cyc_store.specs.State.{StoreState}
use Rattle.cyc_store.specs.Services.{Call, Choice, served, IsAllowed}
use Rattle.cyc_store.specs.Run.{Exchange, Service, Load, Save, Run}
use Rattle.cyc_store.specs.Slots.{Layout, IsLaidOut}
use Rattle.cyc_store.specs.declared.range.TheConstants.{MOST_PAGES}

-- Says that the number of pages is within the limit, and that the blocks have a layout in pages.
pub record IsOrdered (s : StoreState) : Type 0 where
  pub few : s.pages ≤ MOST_PAGES
  pub layout : Layout
  pub laid : IsLaidOut s layout

-- Says that the store relation allows a choice after which the blocks still have a layout in pages.
pub record HasChoice (s : StoreState) (call : Call) : Type 0 where
  pub choice : Choice
  pub allowed : IsAllowed s call choice
  pub ordered : IsOrdered (served s call choice)

-- Says that a list of exchanges (calls with their answers) has exactly one exchange for each call of a list, in order.
abbrev pub AreServices : List Call → List Exchange → Type 0
AreServices [] [] = Unit {0}
AreServices [] (e ∷ es) = ⊥
AreServices (call ∷ calls) [] = ⊥
AreServices (call ∷ calls) (Service other a ∷ es) = (other ≡ call) × AreServices calls es
AreServices (call ∷ calls) (Load address word ∷ es) = ⊥
AreServices (call ∷ calls) (Save address word done ∷ es) = ⊥

-- A run that answers each of these calls, and ends in a store that still has a layout in pages.
pub record Answers (calls : List Call) (s : StoreState) : Type 0 where
  pub exchanges : List Exchange
  pub services : AreServices calls exchanges
  pub end : StoreState
  pub run : Run exchanges s end
  pub ordered : IsOrdered end
