-- Headers sorted by address overlap at no address exactly if each begins after the end of the previous one. Sortedness and disjointness
-- are both expressed by the number of headers that cover an address.
use Rattle.std.proofs.Common.{◌≡◌, ℕ, suc, ◌+◌, ◌<◌, ◌≤◌, Bool, true, false, cond, not, ◌&&◌, ◌||◌, eqb, ltb, leb, min, max, List, [], ◌∷◌, ◌++◌, length, map, get_or, refl, sym, ap, ◌∙◌, inl, inr, arith}
use Rattle.std.specs.List.{list_any, sum_by}
use Rattle.std.specs.List.Sorted.{IsPermutation, IsNonDecreasingBy}
use Rattle.std.proofs.lemmas.Bool.{ltb-true, ltb-false, leb-true, leb-false, lt-ltb, le-leb, eqb-true, eqb-false, not-true, not-false, and_parts, and_cases, and_from, cases_Bool, false≢true}
use Rattle.std.proofs.lemmas.List.Sums.{sum_by-cons}
use Rattle.std.proofs.lemmas.List.Sorted.{sum_by-IsPermutation}
use Rattle.cyc_elf.specs.declared.program_header.ProgramHeader as raw
use Rattle.cyc_elf.specs.Header.{ProgramHeader}
use Rattle.cyc_elf.specs.Reading.{covers, overlap}
use Rattle.cyc_elf.specs.Outline.{fields_of}
use Rattle.cyc_elf.specs.inside.Parts.{are_apart, in_order}

-- ---- the number of headers that cover an address

abbrev pub one : Bool → ℕ
one b = cond b 1 0

abbrev pub covering : ℕ → List ProgramHeader → ℕ
covering a [] = 0
covering a (h ∷ rest) = one (covers h a) + covering a rest

covering-append : (a : ℕ) (xs ys : List ProgramHeader) → covering a (xs ++ ys) ≡ covering a xs + covering a ys
covering-append a [] ys = omega arith
covering-append a (h ∷ xs) ys = let e = covering-append a xs ys in omega (arith, e)

covering_push : (a : ℕ) (xs : List ProgramHeader) (h : ProgramHeader) → covering a (xs ++ h ∷ []) ≡ covering a xs + one (covers h a)
covering_push a xs h = let e = covering-append a xs (h ∷ []) in omega (arith, e)

covering-map : (a : ℕ) (xs : List raw.ProgramHeader) → covering a (map fields_of xs) ≡ sum_by (λ h. one (covers (fields_of h) a)) xs
covering-map a [] = refl
covering-map a (x ∷ xs) = rw (covering-map a xs, sum_by-cons (λ h. one (covers (fields_of h) a)) x xs) refl

covering-IsPermutation : (a : ℕ) (xs ys : List raw.ProgramHeader) → IsPermutation xs ys → covering a (map fields_of ys) ≡ covering a (map fields_of xs)
covering-IsPermutation a xs ys same = covering-map a ys ∙ sum_by-IsPermutation (λ h. one (covers (fields_of h) a)) xs ys same ∙ sym (covering-map a xs)

-- ---- one header

pub covers-from : (h : ProgramHeader) (a : ℕ) → h.vaddr ≤ a → a < h.vaddr + h.memory_size → covers h a ≡ true
covers-from h a low high = and_from _ _ (le-leb _ _ low) (lt-ltb _ _ high)

pub record Within (h : ProgramHeader) (a : ℕ) : Type 0 where
  pub low : h.vaddr ≤ a
  pub high : a < h.vaddr + h.memory_size

pub covers-true : (h : ProgramHeader) (a : ℕ) → covers h a ≡ true → Within h a
covers-true h a e =
    let both = and_parts (leb h.vaddr a) (ltb a (h.vaddr + h.memory_size)) e in
    record { low = leb-true _ _ both.0; high = ltb-true _ _ both.1 }

-- A header does not cover an address outside its segment.
covers-outside : (h : ProgramHeader) (a : ℕ) → (Within h a → ⊥) → covers h a ≡ false
covers-outside h a out =
    elim (cases_Bool (covers h a)) [ inl e ↦ absurd (out (covers-true h a e)) | inr e ↦ e ]

-- ---- two headers

overlap-true : (g h : ProgramHeader) → overlap g h ≡ true → (a : ℕ) × (covers g a ≡ true) × (covers h a ≡ true)
overlap-true g h e =
    let lt : max g.vaddr h.vaddr < min (g.vaddr + g.memory_size) (h.vaddr + h.memory_size) = ltb-true _ _ e in
    (max g.vaddr h.vaddr, covers-from g _ (omega arith) (omega arith), covers-from h _ (omega arith) (omega arith))

overlap-false : (g h : ProgramHeader) (a : ℕ) → overlap g h ≡ false → covers g a ≡ true → covers h a ≡ false
overlap-false g h a e in_g =
    let ge : min (g.vaddr + g.memory_size) (h.vaddr + h.memory_size) ≤ max g.vaddr h.vaddr = ltb-false _ _ e in
    let p = covers-true g a in_g in
    covers-outside h a (λ q. omega (arith, p.low, p.high, q.low, q.high))

-- ---- a header and a list

any_overlap-true : (h : ProgramHeader) (es : List ProgramHeader) → list_any (overlap h) es ≡ true → (a : ℕ) × (covers h a ≡ true) × (1 ≤ covering a es)
any_overlap-true h [] e = absurd (false≢true e)
any_overlap-true h (g ∷ es) e =
    elim (cases_Bool (overlap h g)) [
      | inl holds ↦
          let s = overlap-true h g holds in
          let here : one (covers g s.0) ≡ 1 = rw s.2 refl in
          (s.0, s.1, omega (arith, here))
      | inr fails ↦
          let rest : list_any (overlap h) es ≡ true = sym (ap (λ b. b || list_any (overlap h) es) fails) ∙ e in
          let s = any_overlap-true h es rest in
          (s.0, s.1, omega (arith, s.2))
    ]

any_overlap-false : (h : ProgramHeader) (es : List ProgramHeader) (a : ℕ) → list_any (overlap h) es ≡ false → covers h a ≡ true → covering a es ≡ 0
any_overlap-false h [] a e in_h = refl
any_overlap-false h (g ∷ es) a e in_h =
    elim (cases_Bool (overlap h g)) [
      | inl holds ↦ absurd (false≢true (sym e ∙ ap (λ b. b || list_any (overlap h) es) holds))
      | inr fails ↦
          let rest : list_any (overlap h) es ≡ false = sym (ap (λ b. b || list_any (overlap h) es) fails) ∙ e in
          let here : one (covers g a) ≡ 0 = rw (overlap-false h g a fails in_h) refl in
          let there = any_overlap-false h es a rest in_h in
          omega (arith, here, there)
    ]

-- ---- disjoint headers

pub are_apart-true : (es hs : List ProgramHeader) → are_apart es hs ≡ true → ((a : ℕ) → covering a es ≤ 1) → (a : ℕ) → covering a es + covering a hs ≤ 1
are_apart-true es [] e before a = let b = before a in omega (arith, b)
are_apart-true es (h ∷ hs) e before a =
    let both = and_parts (not (list_any (overlap h) es)) (are_apart (es ++ h ∷ []) hs) e in
    let none = not-true _ both.0 in
    let upto : (b : ℕ) → covering b (es ++ h ∷ []) ≤ 1 = λ b.
    elim (cases_Bool (covers h b)) [
      | inl holds ↦
          let zero_of = any_overlap-false h es b none holds in
          let here : one (covers h b) ≡ 1 = rw holds refl in
          omega (arith, covering_push b es h, here, zero_of)
      | inr fails ↦
          let here : one (covers h b) ≡ 0 = rw fails refl in
          omega (arith, covering_push b es h, here, before b)
    ] in
    let rest = are_apart-true (es ++ h ∷ []) hs both.1 upto a in
    omega (arith, covering_push a es h, rest)

pub are_apart-false : (es hs : List ProgramHeader) → are_apart es hs ≡ false → (a : ℕ) × (2 ≤ covering a es + covering a hs)
are_apart-false es [] e = absurd (false≢true (sym e))
are_apart-false es (h ∷ hs) e =
    elim (and_cases (not (list_any (overlap h) es)) (are_apart (es ++ h ∷ []) hs) e) [
      | inl some ↦
          let s = any_overlap-true h es (not-false _ some) in
          let here : one (covers h s.0) ≡ 1 = rw s.1 refl in
          (s.0, omega (arith, here, s.2))
      | inr later ↦
          let s = are_apart-false (es ++ h ∷ []) hs later in
          (s.0, omega (arith, covering_push s.0 es h, s.1))
    ]

-- ---- sorted headers

-- A header whose segment has no memory covers no address.
empty-covers : (h : ProgramHeader) (a : ℕ) → h.memory_size ≡ 0 → one (covers h a) ≡ 0
empty-covers h a none = ap one (covers-outside h a (λ q. omega (arith, q.low, q.high, none)))

abbrev placed : ℕ → ProgramHeader → List ProgramHeader → Bool
placed high h rest = leb high h.vaddr && in_order (h.vaddr + h.memory_size) rest

in_order-empty : (high : ℕ) (h : ProgramHeader) (rest : List ProgramHeader) → eqb h.memory_size 0 ≡ true → in_order high (h ∷ rest) ≡ in_order high rest
in_order-empty high h rest e = ap (λ b. cond b (in_order high rest) (placed high h rest)) e

in_order-full : (high : ℕ) (h : ProgramHeader) (rest : List ProgramHeader) → eqb h.memory_size 0 ≡ false → in_order high (h ∷ rest) ≡ placed high h rest
in_order-full high h rest e = ap (λ b. cond b (in_order high rest) (placed high h rest)) e

-- Says that no header of the list covers an address below `high`, and that no address is covered by two headers.
record Once (high : ℕ) (hs : List ProgramHeader) (a : ℕ) : Type 0 where
  below : a < high → covering a hs ≡ 0
  once : covering a hs ≤ 1

in_order-true : (high : ℕ) (hs : List ProgramHeader) → in_order high hs ≡ true → (a : ℕ) → Once high hs a
in_order-true high [] e a = record { below = λ lt. refl; once = omega arith }
in_order-true high (h ∷ rest) e a =
    elim (cases_Bool (eqb h.memory_size 0)) [
      | inl none ↦
          let zero_of = empty-covers h a (eqb-true _ _ none) in
          let s = in_order-true high rest (sym (in_order-empty high h rest none) ∙ e) a in
          record { below = λ lt. omega (arith, zero_of, s.below lt); once = omega (arith, zero_of, s.once) }
      | inr some ↦
          let both = and_parts (leb high h.vaddr) (in_order (h.vaddr + h.memory_size) rest) (sym (in_order-full high h rest some) ∙ e) in
          let low = leb-true _ _ both.0 in
          let s = in_order-true (h.vaddr + h.memory_size) rest both.1 a in
          elim (cases_Bool (covers h a)) [
            | inl holds ↦
                let w = covers-true h a holds in
                let here : one (covers h a) ≡ 1 = rw holds refl in
                let zero_of = s.below w.high in
                record { below = λ lt. absurd (omega (arith, low, w.low)); once = omega (arith, here, zero_of) }
            | inr fails ↦
                let here : one (covers h a) ≡ 0 = rw fails refl in
                record { below = λ lt. omega (arith, here, s.below (omega (arith, low))); once = omega (arith, here, s.once) }
          ]
    ]

-- Says that the addresses of the headers are ascending, and that the first is at least `low`.
abbrev Rising : ℕ → List ProgramHeader → Type 0
Rising low [] = Unit {0}
Rising low (h ∷ rest) = (low ≤ h.vaddr) × Rising h.vaddr rest

Rising-lower : (low lower : ℕ) (hs : List ProgramHeader) → lower ≤ low → Rising low hs → Rising lower hs
Rising-lower low lower [] le up = tt
Rising-lower low lower (h ∷ rest) le up = (omega (arith, up.0), up.1)

-- Let headers sorted by address follow a header with memory. If one of them begins before the previous header ends, then two headers share
-- an address.
in_order-false : (g : ProgramHeader) (hs : List ProgramHeader) → 0 < g.memory_size → Rising g.vaddr hs → in_order (g.vaddr + g.memory_size) hs ≡ false → (a : ℕ) × (2 ≤ one (covers g a) + covering a hs)
in_order-false g [] some up e = absurd (false≢true (sym e))
in_order-false g (h ∷ rest) some up e =
    elim (cases_Bool (eqb h.memory_size 0)) [
      | inl none ↦
          let s = in_order-false g rest some (Rising-lower h.vaddr g.vaddr rest up.0 up.1) (sym (in_order-empty _ h rest none) ∙ e) in
          (s.0, omega (arith, s.1))
      | inr full ↦
          let positive : 0 < h.memory_size = omega (arith, eqb-false h.memory_size 0 full) in
          elim (and_cases (leb (g.vaddr + g.memory_size) h.vaddr) (in_order (h.vaddr + h.memory_size) rest) (sym (in_order-full _ h rest full) ∙ e)) [
            | inl early ↦
                let lt = leb-false _ _ early in
                let in_g : one (covers g h.vaddr) ≡ 1 = ap one (covers-from g h.vaddr up.0 lt) in
                let in_h : one (covers h h.vaddr) ≡ 1 = ap one (covers-from h h.vaddr (omega arith) (omega arith)) in
                (h.vaddr, omega (arith, in_g, in_h))
            | inr later ↦
                let s = in_order-false h rest positive up.1 later in
                (s.0, omega (arith, s.1))
          ]
    ]

-- If, in the whole list of headers sorted by address, some header begins before the end of the previous one, then two headers share an
-- address.
in_order-false_start : (low : ℕ) (hs : List ProgramHeader) → Rising low hs → in_order 0 hs ≡ false → (a : ℕ) × (2 ≤ covering a hs)
in_order-false_start low [] up e = absurd (false≢true (sym e))
in_order-false_start low (h ∷ rest) up e =
    elim (cases_Bool (eqb h.memory_size 0)) [
      | inl none ↦
          let s = in_order-false_start h.vaddr rest up.1 (sym (in_order-empty 0 h rest none) ∙ e) in
          (s.0, omega (arith, s.1))
      | inr full ↦
          let positive : 0 < h.memory_size = omega (arith, eqb-false h.memory_size 0 full) in
          elim (and_cases (leb 0 h.vaddr) (in_order (h.vaddr + h.memory_size) rest) (sym (in_order-full 0 h rest full) ∙ e)) [
            | inl early ↦ absurd (omega (arith, leb-false 0 h.vaddr early))
            | inr later ↦ in_order-false h rest positive up.1 later
          ]
    ]

rising : (low : ℕ) (xs : List raw.ProgramHeader) → ((j : ℕ) (d : raw.ProgramHeader) → j < length xs → low ≤ (get_or xs j d).vaddr) → IsNonDecreasingBy (λ h. h.vaddr) xs → Rising low (map fields_of xs)
rising low [] first up = tt
rising low (x ∷ xs) first up =
    (first 0 x (omega arith), rising x.vaddr xs (λ j d lt. up 0 (suc j) d (omega arith) (omega arith)) (λ i j d le lt. up (suc i) (suc j) d (omega arith) (omega arith)))

-- Let headers be sorted by address. Each begins at or after the end of the one before exactly if no two of the headers overlap in memory.
pub in_order-are_apart : (xs sorted : List raw.ProgramHeader) → IsPermutation xs sorted → IsNonDecreasingBy (λ h. h.vaddr) sorted → in_order 0 (map fields_of sorted) ≡ are_apart [] (map fields_of xs)
in_order-are_apart xs sorted same up =
    elim (cases_Bool (in_order 0 (map fields_of sorted))) [
      | inl holds ↦ elim (cases_Bool (are_apart [] (map fields_of xs))) [
        | inl apart ↦ holds ∙ sym apart
        | inr shared ↦
            let s = are_apart-false [] (map fields_of xs) shared in
            let t = in_order-true 0 (map fields_of sorted) holds s.0 in
            absurd (omega (arith, s.1, t.once, covering-IsPermutation s.0 xs sorted same))
      ]
      | inr fails ↦ elim (cases_Bool (are_apart [] (map fields_of xs))) [
        | inl apart ↦
            let s = in_order-false_start 0 (map fields_of sorted) (rising 0 sorted (λ j d lt. omega arith) up) fails in
            let t = are_apart-true [] (map fields_of xs) apart (λ b. omega arith) s.0 in
            absurd (omega (arith, s.1, t, covering-IsPermutation s.0 xs sorted same))
        | inr shared ↦ fails ∙ sym shared
      ]
    ]
