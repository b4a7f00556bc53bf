-- This file says how the results of the methods of the trait `Store` are read as answers of the store relation. `None` is lack of
-- memory, which the store relation does not cover. The reading of results as answers is this project's own choice.
use Rattle.std.specs.Prelude.{◌≡◌, ℕ, Bool, true, Option, Some, None, Result, Ok, Err}
use Rattle.cyc_store.specs.State.{StoreState}
use Rattle.cyc_store.specs.Services.{Call, Answer, Refused, Done, Opened, OpenedLexical, Allocated, refusal, Serves}
use Rattle.cyc_store.specs.Services as services
use Rattle.cyc_store.specs.declared.answer.No.{No}
use Rattle.cyc_store.specs.declared.answer.No.TheVariants.{BadHandle, BadSize, Full, Memory}

abbrev pub refused : No → Option Answer
refused BadHandle = Some (Refused services.BadHandle)
refused BadSize = Some (Refused services.BadSize)
refused Full = Some (Refused services.Full)
refused Memory = None

abbrev pub opened_lexical : Result (ℕ × ℕ) No → Option Answer
opened_lexical (Ok (handle, mark)) = Some (OpenedLexical handle mark)
opened_lexical (Err why) = refused why

abbrev pub opened_dynamic : Result ℕ No → Option Answer
opened_dynamic (Ok handle) = Some (Opened handle)
opened_dynamic (Err why) = refused why

abbrev pub allocated : Result ℕ No → Option Answer
allocated (Ok address) = Some (Allocated address)
allocated (Err why) = refused why

-- The answer to a call that does not allocate and can be refused for only one reason.
abbrev pub done_unless : {A E : Type 0} → services.Refusal → Result A E → Option Answer
done_unless why (Ok a) = Some Done
done_unless why (Err e) = Some (Refused why)

-- Says that the store relation holds for a call and its result. A call without a result lacked memory: only a store that grows may
-- lack memory, only if it has no other reason to refuse the call, and the store stays unchanged.
abbrev pub Responds : (grows : Bool) → StoreState → Call → Option Answer → StoreState → Type 0
Responds grows s call (Some a) t = Serves s call a t
Responds grows s call None t = (grows ≡ true) × (refusal s call ≡ None) × (t ≡ s)
