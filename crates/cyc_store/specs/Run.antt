-- This file defines lists of calls to a store, in order. The form of lists of calls is this project's own choice.
use Rattle.std.specs.Prelude.{◌≡◌, ℕ, Bool, List, [], ◌∷◌, Option, is_some}
use Rattle.cyc_words.specs.Word.{IsWord}
use Rattle.cyc_store.specs.State.{StoreState, word_at, saved}
use Rattle.cyc_store.specs.Services.{Call, Answer, Serves}

-- A call with its result: a request to the store, or a read or write of a word.
pub data Exchange : Type 0 where
  Service : Call → Answer → Exchange
  Load : (address : ℕ) → Option ℕ → Exchange
  Save : (address word : ℕ) → Bool → Exchange

abbrev pub Exchanges : StoreState → Exchange → StoreState → Type 0
Exchanges s (Service call a) t = Serves s call a t
Exchanges s (Load address word) t = (word ≡ word_at s address) × (t ≡ s)
Exchanges s (Save address word done) t = IsWord word × (done ≡ is_some (word_at s address)) × (t ≡ saved s address word)

abbrev pub Run : List Exchange → StoreState → StoreState → Type 0
Run [] s t = t ≡ s
Run (e ∷ es) s t = (u : StoreState) × Exchanges s e u × Run es u t
