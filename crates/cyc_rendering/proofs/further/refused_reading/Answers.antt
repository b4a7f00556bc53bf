use denote.Enum.Bare.{sameb}
use Rattle.cyc_words.specs.contracts.fault.Code.{the_type}
use Rattle.std.proofs.Common.{◌≡◌, ◌⊎◌, inl, inr, ℕ, false, List, subst}
use Rattle.cyc_words.specs.declared.fault.Fault.{Fault}
use Rattle.cyc_words.specs.Fault.{memory_fault}
use Rattle.cyc_front.specs.Front.{IsRefusedText}
use Rattle.cyc_rendering.proofs.further.refused_reading.Goals as goal

-- If the code of a fault is not the code for lack of memory, the fault is a fault of the text.
left_over : (text : List ℕ) (f : Fault) → false ≡ sameb the_type f.code memory_fault.code → (f ≡ memory_fault) ⊎ IsRefusedText text f → IsRefusedText text f
left_over text f other (inl memory) =
    let e : false ≡ sameb the_type memory_fault.code memory_fault.code = subst (λ (x : Fault). false ≡ sameb the_type x.code memory_fault.code) memory other in
    cc
left_over text f other (inr is) = is

pub returns-in-Err-2 : goal.returns-in-Err-2
returns-in-Err-2 c = left_over c.args.text.now c.in-Err.fault c.if-eq.ensures c.in-Err.ensures.refused
