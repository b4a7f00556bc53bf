-- The limits of a run, whose allowed values are this project's own choice.
use Rattle.std.specs.Prelude.{ℕ, ◌≤◌}
use Rattle.cyc_machine_model.specs.declared.constants.TheConstants.{MIN_PAGES, MAX_PAGES, MIN_CALLS, MAX_CALLS}

-- The limits of a run: the number of pages of the store, and the most calls that may be active at once.
pub record Bounds : Type 0 where
  pub pages : ℕ
  pub calls : ℕ

-- `AreAllowed` says that the number of the store's pages and the limit of active calls have allowed values.
pub record AreAllowed (pages calls : ℕ) : Type 0 where
  pub enough_pages : MIN_PAGES ≤ pages
  pub few_pages : pages ≤ MAX_PAGES
  pub enough_calls : MIN_CALLS ≤ calls
  pub few_calls : calls ≤ MAX_CALLS
