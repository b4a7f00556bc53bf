-- Facts about the traversal of the table of program headers, header by header.
use Rattle.std.proofs.Common.{◌≡◌, ℕ, suc, ◌+◌, ◌-◌, ◌<◌, ◌≤◌, Bool, true, false, cond, List, [], ◌∷◌, ◌++◌, Option, Some, None, is_some, refl, sym, ap, ◌∙◌, append_assoc, arith}
use Rattle.std.proofs.lemmas.List.{append-nil}
use Rattle.cyc_elf.specs.declared.fault.ElfFault.{ElfFault}
use Rattle.cyc_elf.specs.Header.{ProgramHeader, program_header_at, headers_from}
use Rattle.cyc_elf.specs.Reading.{first_fault, own_rules, is_load}
use Rattle.cyc_elf.specs.inside.Parts.{Walk, step, noted, walk}

-- ---- one header at a time

-- Prepends the loadable headers in `front` to the loadable headers that a traversal of the remaining program headers found.
abbrev pub with_front : List ProgramHeader → Walk → Walk
with_front front w = record { loads = front ++ w.loads; note = w.note; fault = w.fault }

-- The traversal of the remaining headers is a step for the next header, followed by the traversal of the headers after it.
walk_from : (file : List ℕ) (known : Option (ℕ × ℕ)) (count i place : ℕ) → i < count
    → walk file known (headers_from file place (count - i))
    ≡ step known (program_header_at file place) (first_fault (own_rules file (is_some known) (program_header_at file place))) (walk file (noted file known (program_header_at file place)) (headers_from file (place + 32) (count - (i + 1))))
unfolding headers_from
walk_from file known count i place lt =
    let k : count - i ≡ suc (count - (i + 1)) = omega arith in
    rw k refl

-- If the next header satisfies its own rules, the loop over the headers continues after it.
pub headers_go_on : (front : List ProgramHeader) (file : List ℕ) (known : Option (ℕ × ℕ)) (count i place : ℕ) (h : ProgramHeader) (total : Walk) → i < count → h ≡ program_header_at file place → None ≡ first_fault (own_rules file (is_some known) h)
    → with_front front (walk file known (headers_from file place (count - i))) ≡ total
    → with_front (cond (is_load h) (front ++ h ∷ []) front) (walk file (noted file known h) (headers_from file (place + 32) (count - (i + 1)))) ≡ total
headers_go_on front file known count i place h total lt here keeps so_far =
    let rest = walk file (noted file known h) (headers_from file (place + 32) (count - (i + 1))) in
    let one : walk file known (headers_from file place (count - i)) ≡ step known h None rest
    = walk_from file known count i place lt ∙ rw (← here, ← keeps) refl in
    taken front h rest (is_load h) ∙ sym (ap (with_front front) one) ∙ so_far
  where
    taken : (front : List ProgramHeader) (h : ProgramHeader) (rest : Walk) (b : Bool) → with_front (cond b (front ++ h ∷ []) front) rest ≡ with_front front (record { loads = cond b (h ∷ rest.loads) rest.loads; note = rest.note; fault = rest.fault })
    taken front h rest true = ap (λ (hs : List ProgramHeader). record { loads = hs; note = rest.note; fault = rest.fault }) (append_assoc front (h ∷ []) rest.loads)
    taken front h rest false = refl

-- If the next header violates a rule, the loop over the headers ends with the header's fault.
pub fault_ends : (front : List ProgramHeader) (file : List ℕ) (known : Option (ℕ × ℕ)) (count i place : ℕ) (h : ProgramHeader) (f : ElfFault) (total : Walk) → i < count → h ≡ program_header_at file place → Some f ≡ first_fault (own_rules file (is_some known) h)
    → with_front front (walk file known (headers_from file place (count - i))) ≡ total
    → record { loads = front; note = known; fault = Some f } ≡ total
fault_ends front file known count i place h f total lt here breaks so_far =
    let rest = walk file (noted file known h) (headers_from file (place + 32) (count - (i + 1))) in
    let one : walk file known (headers_from file place (count - i)) ≡ step known h (Some f) rest
    = walk_from file known count i place lt ∙ rw (← here, ← breaks) refl in
    ap (λ (hs : List ProgramHeader). record { loads = hs; note = known; fault = Some f }) (sym (append-nil front)) ∙ sym (ap (with_front front) one) ∙ so_far

-- The loop over the program headers ends after the last one.
pub is_done : (front : List ProgramHeader) (file : List ℕ) (known : Option (ℕ × ℕ)) (count i place : ℕ) (total : Walk) → count ≤ i
    → with_front front (walk file known (headers_from file place (count - i))) ≡ total
    → record { loads = front; note = known; fault = None } ≡ total
unfolding headers_from
is_done front file known count i place total le so_far =
    let k : count - i ≡ 0 = omega arith in
    let one : walk file known (headers_from file place (count - i)) ≡ record { loads = []; note = known; fault = None } = rw k refl in
    ap (λ (hs : List ProgramHeader). record { loads = hs; note = known; fault = None }) (sym (append-nil front)) ∙ sym (ap (with_front front) one) ∙ so_far
