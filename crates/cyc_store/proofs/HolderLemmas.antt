-- This file finds the block that contains an address, after regions and blocks were added or removed.
use Rattle.std.proofs.Common.{◌≡◌, ℕ, zero, suc, ◌+◌, ◌*◌, ◌<◌, ◌≤◌, true, false, List, [], ◌∷◌, ◌++◌, Option, None, Some, refl, sym, ap, subst, ◌∙◌, inl, inr, arith}
use Rattle.std.specs.Prelude.{◌⊎◌, nat_le, nat_lt}
use Rattle.std.proofs.lemmas.Bool.{cases_eq, cases_Bool, cond-true, cond-false, le-leb, lt-ltb, and_from}
use Rattle.cyc_words.proofs.Numbers.{when_equal}
use Rattle.cyc_words.proofs.Options.{never_none_and_some, same_from_some}
use Rattle.cyc_store.specs.State.{lookup, without, changed, AreDistinct, Block, address_of, Sort, Home, handle_of, empty_home, Holder, covers, holder_in, or_else, holder, block_in, block_at, with_block, is_lexical, down_to}
use Rattle.cyc_store.specs.Services.{IsPlaced, IsApart}
use Rattle.cyc_store.specs.Soundness.{AreSound}
use Rattle.cyc_store.proofs.LookupLemmas.{when_other, IsPart, is_empty, is_left, is_kept, lookup-here, lookup-there, lookup-none, lookup-key, lookup-append_cases, AreDistinct-append}
use Rattle.cyc_store.proofs.LookupLemmas.{lookup-part_none, lookup-part, AreDistinct-part, IsPart-without, lookup-without, lookup-changed_same, lookup-changed_other, AreDistinct-changed}

-- ---- addresses of a block

pub covers_from : (b : Block) (x : ℕ) → b.address ≤ x → x < b.address + 4 * b.size → covers b x ≡ true
covers_from b x low high = and_from (nat_le b.address x) (nat_lt x (b.address + 4 * b.size)) (le-leb b.address x low) (lt-ltb x (b.address + 4 * b.size) high)

pub covers_first : (b : Block) → 0 < b.size → covers b b.address ≡ true
covers_first b some = covers_from b b.address (omega arith) (omega (arith, some))

-- ---- the first of two results

pub or_else-cases : (o p : Option Holder) (k : Holder) → or_else o p ≡ Some k → (o ≡ Some k) ⊎ ((o ≡ None) × (p ≡ Some k))
or_else-cases None p k found = inr (refl, found)
or_else-cases (Some h) p k found = inl found

or_else-none : (o p : Option Holder) → or_else o p ≡ None → (o ≡ None) × (p ≡ None)
or_else-none None p none = (refl, none)
or_else-none (Some h) p none = absurd (let e : Some h ≡ None = none in cc)

block_in-some : (o : Option Home) (f : ℕ) (b : Block) → block_in o f ≡ Some b → (r : Home) × (o ≡ Some r) × (lookup address_of r.blocks f ≡ Some b)
block_in-some None f b found = absurd (let e : None ≡ Some b = found in cc)
block_in-some (Some r) f b found = (r, refl, found)

-- ---- the blocks of one region

module _ (h : ℕ) (x : ℕ) where
  pub in-here : (b : Block) (bs : List Block) → covers b x ≡ true → holder_in h (b ∷ bs) x ≡ Some (record { handle = h; block = b })
  in-here b bs inside = cond-true (covers b x) (Some (record { handle = h; block = b })) (holder_in h bs x) inside

  pub in-there : (b : Block) (bs : List Block) → covers b x ≡ false → holder_in h (b ∷ bs) x ≡ holder_in h bs x
  in-there b bs not = cond-false (covers b x) (Some (record { handle = h; block = b })) (holder_in h bs x) not

  pub holder_in-handle : (bs : List Block) (k : Holder) → holder_in h bs x ≡ Some k → h ≡ k.handle
  holder_in-handle [] k found = absurd (let e : None ≡ Some k = found in cc)
  holder_in-handle (b ∷ bs) k found = elim (cases_Bool (covers b x)) [
    | inl inside ↦ ap (λ (z : Holder). z.handle) (same_from_some (sym (in-here b bs inside) ∙ found))
    | inr not ↦ holder_in-handle bs k (sym (in-there b bs not) ∙ found)
  ]

  holder_in-uncovered : (bs : List Block) (b : Block) → covers b x ≡ false → holder_in h (bs ++ b ∷ []) x ≡ holder_in h bs x
  holder_in-uncovered [] b not = in-there b [] not
  holder_in-uncovered (a ∷ bs) b not = elim (cases_Bool (covers a x)) [
    | inl inside ↦ in-here a (bs ++ b ∷ []) inside ∙ sym (in-here a bs inside)
    | inr away ↦ in-there a (bs ++ b ∷ []) away ∙ (holder_in-uncovered bs b not ∙ sym (in-there a bs away))
  ]

  holder_in-last : (bs : List Block) (b : Block) → holder_in h bs x ≡ None → covers b x ≡ true → holder_in h (bs ++ b ∷ []) x ≡ Some (record { handle = h; block = b })
  holder_in-last [] b none inside = in-here b [] inside
  holder_in-last (a ∷ bs) b none inside = elim (cases_Bool (covers a x)) [
    | inl here ↦ absurd (never_none_and_some none (in-here a bs here))
    | inr away ↦ in-there a (bs ++ b ∷ []) away ∙ holder_in-last bs b (sym (in-there a bs away) ∙ none) inside
  ]

  -- freeing a block
  holder_in-without : (bs : List Block) (f : ℕ) (k : Holder) → holder_in h bs x ≡ Some k → (k.block.address ≡ f → ⊥) → holder_in h (without address_of bs f) x ≡ Some k
  holder_in-without [] f k found other = found
  holder_in-without (b ∷ bs) f k found other = elim (cases_Bool (covers b x)) [
    | inl inside ↦
        let is : record { handle = h; block = b } ≡ k = same_from_some (sym (in-here b bs inside) ∙ found) in
        let away : (b.address ≡ f → ⊥) = λ e. other (sym (ap (λ (z : Holder). z.block.address) is) ∙ e) in
        ap (λ l. holder_in h l x) (when_other b.address f (without address_of bs f) (b ∷ without address_of bs f) away)
        ∙ (in-here b (without address_of bs f) inside ∙ ap (λ z. Some z) is)
    | inr not ↦
        let rest : holder_in h (without address_of bs f) x ≡ Some k = holder_in-without bs f k (sym (in-there b bs not) ∙ found) other in
        elim (cases_eq b.address f) [
          | inl same ↦ ap (λ l. holder_in h l x) (when_equal b.address f (without address_of bs f) (b ∷ without address_of bs f) same) ∙ rest
          | inr away ↦
              ap (λ l. holder_in h l x) (when_other b.address f (without address_of bs f) (b ∷ without address_of bs f) away)
              ∙ (in-there b (without address_of bs f) not ∙ rest)
        ]
  ]

  holder_in-without_none : (bs : List Block) (f : ℕ) → holder_in h bs x ≡ None → holder_in h (without address_of bs f) x ≡ None
  holder_in-without_none [] f none = none
  holder_in-without_none (b ∷ bs) f none = elim (cases_Bool (covers b x)) [
    | inl inside ↦ absurd (never_none_and_some none (in-here b bs inside))
    | inr not ↦
        let rest : holder_in h (without address_of bs f) x ≡ None = holder_in-without_none bs f (sym (in-there b bs not) ∙ none) in
        elim (cases_eq b.address f) [
          | inl same ↦ ap (λ l. holder_in h l x) (when_equal b.address f (without address_of bs f) (b ∷ without address_of bs f) same) ∙ rest
          | inr away ↦
              ap (λ l. holder_in h l x) (when_other b.address f (without address_of bs f) (b ∷ without address_of bs f) away)
              ∙ (in-there b (without address_of bs f) not ∙ rest)
        ]
  ]

-- ---- the blocks of all regions

-- The handle that is recorded for the block that contains an address is the handle of a region in the list.
pub holder-named : (rs : List Home) (x : ℕ) (k : Holder) → holder rs x ≡ Some k → lookup handle_of rs k.handle ≡ None → ⊥
holder-named [] x k found none = let e : None ≡ Some k = found in cc
holder-named (r ∷ rs) x k found none =
    let (away, rest) = lookup-none handle_of r rs k.handle none in
    elim (or_else-cases (holder_in r.handle r.blocks x) (holder rs x) k found) [
      | inl here ↦ away (holder_in-handle r.handle x r.blocks k here)
      | inr there ↦ holder-named rs x k there.1 rest
    ]

holder-part : {qs rs : List Home} → IsPart qs rs → AreDistinct handle_of rs → (x : ℕ) (k : Holder) → holder rs x ≡ Some k
    → (lookup handle_of qs k.handle ≡ None → ⊥) → holder qs x ≡ Some k
holder-part is_empty distinct x k found named = found
holder-part (is_left {x = r} {xs = qs} {ys = rs} part) distinct x k found named = elim (or_else-cases (holder_in r.handle r.blocks x) (holder rs x) k found) [
  | inl here ↦
      absurd (named (subst (λ h. lookup handle_of qs h ≡ None) (holder_in-handle r.handle x r.blocks k here) (lookup-part_none handle_of part r.handle distinct.0)))
  | inr there ↦ holder-part part distinct.1 x k there.1 named
]
holder-part (is_kept {x = r} {xs = qs} {ys = rs} part) distinct x k found named = elim (or_else-cases (holder_in r.handle r.blocks x) (holder rs x) k found) [
  | inl here ↦ ap (λ o. or_else o (holder qs x)) here
  | inr there ↦
      let other : (r.handle ≡ k.handle → ⊥) = λ e. holder-named rs x k there.1 (subst (λ h. lookup handle_of rs h ≡ None) e distinct.0) in
      ap (λ o. or_else o (holder qs x)) there.0
      ∙ holder-part part distinct.1 x k there.1 (λ none. named (lookup-there handle_of r qs k.handle other ∙ none))
]

holder-append : (rs qs : List Home) (x : ℕ) (k : Holder) → holder rs x ≡ Some k → holder (rs ++ qs) x ≡ Some k
holder-append [] qs x k found = absurd (let e : None ≡ Some k = found in cc)
holder-append (r ∷ rs) qs x k found = elim (or_else-cases (holder_in r.handle r.blocks x) (holder rs x) k found) [
  | inl here ↦ ap (λ o. or_else o (holder (rs ++ qs) x)) here
  | inr there ↦ ap (λ o. or_else o (holder (rs ++ qs) x)) there.0 ∙ holder-append rs qs x k there.1
]

-- ---- removing regions

pub AreSound-part : {pages : ℕ} {qs rs : List Home} → IsPart qs rs → AreSound pages rs → AreSound pages qs
AreSound-part {pages} {qs} {rs} part sound = record {
  handles = AreDistinct-part handle_of part sound.handles;
  apart = λ h f x b at inside.
      holder-part part sound.handles x (record { handle = h; block = b }) (sound.apart h f x b (whole h f b at) inside)
      (λ none. never_none_and_some (ap (λ o. block_in o f) none) at);
  placed = λ h f b at. sound.placed h f b (whole h f b at);
}
  where
    whole : (h f : ℕ) (b : Block) → block_at qs h f ≡ Some b → block_at rs h f ≡ Some b
    whole h f b at =
        let (r, there, found) = block_in-some (lookup handle_of qs h) f b at in
        ap (λ o. block_in o f) (lookup-part handle_of part sound.handles h r there) ∙ found

pub IsPart-down_to : (mark : ℕ) (rs : List Home) → IsPart (down_to mark rs) rs
IsPart-down_to zero [] = is_empty
IsPart-down_to (suc mark) [] = is_empty
IsPart-down_to zero (r ∷ rs) = elim (cases_Bool (is_lexical r.sort)) [
  | inl inside ↦
      subst (λ l. IsPart l (r ∷ rs)) (sym (cond-true (is_lexical r.sort) (down_to zero rs) (r ∷ down_to zero rs) inside)) (is_left (IsPart-down_to zero rs))
  | inr not ↦
      subst (λ l. IsPart l (r ∷ rs)) (sym (cond-false (is_lexical r.sort) (down_to zero rs) (r ∷ down_to zero rs) not)) (is_kept (IsPart-down_to zero rs))
]
IsPart-down_to (suc mark) (r ∷ rs) = elim (cases_Bool (is_lexical r.sort)) [
  | inl inside ↦
      subst (λ l. IsPart l (r ∷ rs)) (sym (cond-true (is_lexical r.sort) (r ∷ down_to mark rs) (r ∷ down_to (suc mark) rs) inside)) (is_kept (IsPart-down_to mark rs))
  | inr not ↦
      subst (λ l. IsPart l (r ∷ rs)) (sym (cond-false (is_lexical r.sort) (r ∷ down_to mark rs) (r ∷ down_to (suc mark) rs) not)) (is_kept (IsPart-down_to (suc mark) rs))
]

-- ---- adding a region

pub AreSound-opened : {pages : ℕ} (rs : List Home) (handle : ℕ) (sort : Sort) → AreSound pages rs → lookup handle_of rs handle ≡ None
    → AreSound pages (rs ++ empty_home handle sort ∷ [])
AreSound-opened {pages} rs handle sort sound fresh = record {
  handles = AreDistinct-append handle_of rs (empty_home handle sort) sound.handles fresh;
  apart = λ h f x b at inside. holder-append rs (empty_home handle sort ∷ []) x (record { handle = h; block = b }) (sound.apart h f x b (before h f b at) inside);
  placed = λ h f b at. sound.placed h f b (before h f b at);
}
  where
    before : (h f : ℕ) (b : Block) → block_at (rs ++ empty_home handle sort ∷ []) h f ≡ Some b → block_at rs h f ≡ Some b
    before h f b at =
        let (r, there, found) = block_in-some (lookup handle_of (rs ++ empty_home handle sort ∷ []) h) f b at in
        elim (lookup-append_cases handle_of rs (empty_home handle sort) h r there) [
          | inl old ↦ ap (λ o. block_in o f) old ∙ found
          | inr is ↦ absurd (let e : None ≡ Some b = subst (λ (q : Home). lookup address_of q.blocks f ≡ Some b) is found in cc)
        ]

-- ---- adding a block

module _ (b : Block) (x : ℕ) where
  holder-uncovered : (rs : List Home) (h : ℕ) → covers b x ≡ false → holder (changed handle_of (with_block b) rs h) x ≡ holder rs x
  holder-uncovered [] h not = refl
  holder-uncovered (r ∷ rs) h not = elim (cases_eq r.handle h) [
    | inl same ↦
        ap (λ l. holder l x) (when_equal r.handle h (with_block b r ∷ rs) (r ∷ changed handle_of (with_block b) rs h) same)
        ∙ ap (λ o. or_else o (holder rs x)) (holder_in-uncovered r.handle x r.blocks b not)
    | inr other ↦
        ap (λ l. holder l x) (when_other r.handle h (with_block b r ∷ rs) (r ∷ changed handle_of (with_block b) rs h) other)
        ∙ ap (or_else (holder_in r.handle r.blocks x)) (holder-uncovered rs h not)
  ]

  holder-covered : (rs : List Home) (h : ℕ) (r : Home) → holder rs x ≡ None → covers b x ≡ true → lookup handle_of rs h ≡ Some r
      → holder (changed handle_of (with_block b) rs h) x ≡ Some (record { handle = h; block = b })
  holder-covered [] h r none inside there = absurd (let e : None ≡ Some r = there in cc)
  holder-covered (q ∷ rs) h r none inside there =
      let (first, rest) = or_else-none (holder_in q.handle q.blocks x) (holder rs x) none in
      elim (cases_eq q.handle h) [
        | inl same ↦
            ap (λ l. holder l x) (when_equal q.handle h (with_block b q ∷ rs) (q ∷ changed handle_of (with_block b) rs h) same)
            ∙ (ap (λ o. or_else o (holder rs x)) (holder_in-last q.handle x q.blocks b first inside)
            ∙ ap (λ n. Some (record { handle = n; block = b })) same)
        | inr other ↦
            ap (λ l. holder l x) (when_other q.handle h (with_block b q ∷ rs) (q ∷ changed handle_of (with_block b) rs h) other)
            ∙ (ap (λ o. or_else o (holder (changed handle_of (with_block b) rs h) x)) first
            ∙ holder-covered rs h r rest inside (sym (lookup-there handle_of q rs h other) ∙ there))
      ]

pub AreSound-made : {pages : ℕ} (rs : List Home) (h : ℕ) (r : Home) (b : Block) → AreSound pages rs → lookup handle_of rs h ≡ Some r
    → IsPlaced pages b → IsApart rs b → AreSound pages (changed handle_of (with_block b) rs h)
AreSound-made {pages} rs h r b sound there placed apart = record {
  handles = AreDistinct-changed handle_of (with_block b) (λ q. refl) rs h sound.handles;
  apart = λ g f x c at inside. elim (before g f c at) [
    | inl old ↦
        let is : holder rs x ≡ Some (record { handle = g; block = c }) = sound.apart g f x c old inside in
        elim (cases_Bool (covers b x)) [
          | inl both ↦ absurd (never_none_and_some (apart x both) is)
          | inr not ↦ holder-uncovered b x rs h not ∙ is
        ]
    | inr new ↦
        let both : covers b x ≡ true = subst (λ (z : Block). covers z x ≡ true) new.1 inside in
        holder-covered b x rs h r (apart x both) both there
        ∙ (ap (λ n. Some (record { handle = n; block = b })) (sym new.0) ∙ ap (λ (z : Block). Some (record { handle = g; block = z })) (sym new.1))
  ];
  placed = λ g f c at. elim (before g f c at) [
    | inl old ↦ sound.placed g f c old
    | inr new ↦ subst (IsPlaced pages) (sym new.1) placed
  ];
}
  where
    before : (g f : ℕ) (c : Block) → block_at (changed handle_of (with_block b) rs h) g f ≡ Some c
        → (block_at rs g f ≡ Some c) ⊎ ((g ≡ h) × (c ≡ b))
    before g f c at = elim (cases_eq g h) [
      | inl same ↦
          let here : lookup handle_of (changed handle_of (with_block b) rs h) g ≡ Some (with_block b r) =
          subst (λ n. lookup handle_of (changed handle_of (with_block b) rs h) n ≡ Some (with_block b r)) (sym same)
          (lookup-changed_same handle_of (with_block b) (λ q. refl) rs h r there) in
          elim (lookup-append_cases address_of r.blocks b f c (sym (ap (λ o. block_in o f) here) ∙ at)) [
            | inl old ↦ inl (ap (λ o. block_in o f) (subst (λ n. lookup handle_of rs n ≡ Some r) (sym same) there) ∙ old)
            | inr new ↦ inr (same, new)
          ]
      | inr other ↦ inl (ap (λ o. block_in o f) (sym (lookup-changed_other handle_of (with_block b) (λ q. refl) rs h g other)) ∙ at)
    ]

-- ---- removing a block

pub AreSound-freed : {pages : ℕ} (h : ℕ) (sort : Sort) (bs : List Block) (rs : List Home) (gone : ℕ)
    → AreDistinct address_of bs → AreSound pages (record { handle = h; sort = sort; blocks = bs } ∷ rs)
    → AreSound pages (record { handle = h; sort = sort; blocks = without address_of bs gone } ∷ rs)
AreSound-freed {pages} h sort bs rs gone distinct sound = record {
  handles = sound.handles;
  apart = λ g f x b at inside.
      let (old, other) = before g f b at in
      elim (or_else-cases (holder_in h bs x) (holder rs x) (record { handle = g; block = b }) (sound.apart g f x b old inside)) [
        | inl here ↦
            ap (λ o. or_else o (holder rs x))
            (holder_in-without h x bs gone (record { handle = g; block = b }) here (other (holder_in-handle h x bs (record { handle = g; block = b }) here)))
        | inr there ↦ ap (λ o. or_else o (holder rs x)) (holder_in-without_none h x bs gone there.0) ∙ there.1
      ];
  placed = λ g f b at. sound.placed g f b (before g f b at).0;
}
  where
    before : (g f : ℕ) (b : Block) → block_at (record { handle = h; sort = sort; blocks = without address_of bs gone } ∷ rs) g f ≡ Some b
        → (block_at (record { handle = h; sort = sort; blocks = bs } ∷ rs) g f ≡ Some b) × (h ≡ g → b.address ≡ gone → ⊥)
    before g f b at = elim (cases_eq h g) [
      | inl same ↦
          let found : lookup address_of (without address_of bs gone) f ≡ Some b =
          sym (ap (λ o. block_in o f) (lookup-here handle_of (record { handle = h; sort = sort; blocks = without address_of bs gone }) rs g same)) ∙ at in (
            ap (λ o. block_in o f) (lookup-here handle_of (record { handle = h; sort = sort; blocks = bs }) rs g same)
                ∙ lookup-part address_of (IsPart-without address_of bs gone) distinct f b found,
            λ _ is.
                never_none_and_some (subst (λ n. lookup address_of (without address_of bs gone) n ≡ None) (sym is ∙ lookup-key address_of (without address_of bs gone) f b found) (lookup-without address_of bs gone)) found,
          )
      | inr other ↦ (
        ap (λ o. block_in o f) (lookup-there handle_of (record { handle = h; sort = sort; blocks = bs }) rs g other)
            ∙ (sym (ap (λ o. block_in o f) (lookup-there handle_of (record { handle = h; sort = sort; blocks = without address_of bs gone }) rs g other)) ∙ at),
        λ same _. other same,
      )
    ]
