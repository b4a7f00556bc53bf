-- This file is about lists of calls to a store, whose results are composed call by call.
use Rattle.std.proofs.Common.{◌≡◌, ℕ, Bool, List, [], ◌∷◌, Option, Some, None, refl, subst, inl, inr}
use Rattle.std.specs.Prelude.{is_some}
use Rattle.cyc_words.specs.Word.{IsWord}
use Rattle.cyc_store.specs.State.{StoreState, word_at, saved}
use Rattle.cyc_store.specs.Services.{Call, Answer}
use Rattle.cyc_store.specs.Run.{Exchange, Service, Load, Save, Run}
use Rattle.cyc_store.specs.Answers.{Responds}
use Rattle.cyc_store.specs.Made.{call_of, Makes, AreOf, MakesAll}
use Rattle.cyc_store.specs.declared.runs.Asked.{Asked}
use Rattle.cyc_store.specs.declared.runs.Asked.TheVariants as asked

-- A call that opens or closes a region, or allocates or frees a block, has a result that `Makes` (the definition of a
-- call's possible results) allows.
pub responds : (grows : Bool) (a : Asked) (call : Call) (o : Option Answer) (s t : StoreState) → call_of a ≡ Some call → Responds grows s call o t → Makes grows a s t
responds grows a call (Some answer) s t is serves = inl (Service call answer, is, serves)
responds grows a call None s t is (wants, free, same) = inr (wants, same)

-- A read or a write of a word of the store has a result that `Makes` (the definition of a call's possible results) allows.
pub loads : (grows : Bool) (address : ℕ) (word : Option ℕ) (s : StoreState) → word ≡ word_at s address → Makes grows (asked.Load address) s s
loads grows address word s is = inl (Load address word, refl, (is, refl))

pub saves : (grows : Bool) (address word : ℕ) (done : Bool) (s t : StoreState) → IsWord word → done ≡ is_some (word_at s address) → t ≡ saved s address word
    → Makes grows (asked.Save address word) s t
saves grows address word done s t fits is same = inl (Save address word done, refl, (fits, is, same))

-- The result of a list of calls extends to the list with one more call at its front.
pub one_made : (grows : Bool) (a : Asked) (calls : List Asked) (s t u : StoreState) → Makes grows a s t → MakesAll grows calls t u → MakesAll grows (a ∷ calls) s u
one_made grows a calls s t u (inl (e, is, does)) rest = record { exchanges = e ∷ rest.exchanges; are = inl (is, rest.are); run = (t, does, rest.run) }
one_made grows a calls s t u (inr (wants, same)) rest = record {
  exchanges = rest.exchanges;
  are = skipped rest.exchanges rest.are;
  run = subst (λ (x : StoreState). Run rest.exchanges x u) same rest.run;
}
  where
    skipped : (es : List Exchange) → AreOf grows calls es → AreOf grows (a ∷ calls) es
    skipped [] are = (wants, are)
    skipped (e ∷ es) are = inr (wants, are)
