-- This file is about the result of each call: a sound store stays sound for every choice of the store.
use Rattle.std.proofs.Common.{◌≡◌, ℕ, suc, ◌+◌, ◌-◌, ◌*◌, ◌/◌, ◌<◌, ◌≤◌, ◌%◌, max, Bool, true, false, List, [], ◌∷◌, ◌++◌, length, Option, None, Some, refl, sym, ap, subst, ◌∙◌, inl, inr, arith}
use Rattle.std.specs.Prelude.{◌==◌, ◌⊎◌, nat_le, is_some, if◌then◌else◌, slice_index}
use Rattle.std.proofs.Math.Nat.{add-mul-mod_self_left, div-eq_of_lt-le, max-eq_left}
use Rattle.std.proofs.lemmas.Bool.{cases_eq, ltb-false, ltb-true}
use Rattle.cyc_words.specs.Word.{IsWord}
use Rattle.cyc_words.specs.Demand.{class_of, blocks_in_page, pages_for, demand_of, greatest_class}
use Rattle.cyc_words.proofs.Booleans.{some_there}
use Rattle.cyc_words.proofs.Numbers.{at_most_itself, when_equal}
use Rattle.cyc_words.proofs.Options.{none_or_some, never_none_and_some, same_from_some}
use Rattle.cyc_store.specs.State.{lookup, without, changed, Memory, put, AreWords, Block, address_of, Sort, Heap, Lexical, Dynamic, Uniques, Home, handle_of, empty_home, StoreState, homes, start, covers, Holder}
use Rattle.cyc_store.specs.State.{holder, block_in, block_at, word_in, word_at, has_saved, saved, sizes_of, sizes_in, demand, live_in, opened, lexical_count, down_to, with_block, made_in, made_unique, room}
use Rattle.cyc_store.specs.Services.{Call, OpenLexical, CloseTo, OpenDynamic, CloseDynamic, Allocate, Free, Refusal, BadMark, BadHandle, BadSize, NotABlock, Full, Answer, Refused, Choice}
use Rattle.cyc_store.specs.Services.{block_of, made, served, answer, any_choice, is_full, full_at, names_dynamic, is_size, refusal, IsPlaced, IsApart, IsAllowed, ServesBy, Serves}
use Rattle.cyc_store.specs.Soundness.{AreSound, IsSound}
use Rattle.cyc_store.specs.Run.{Exchange, Service, Load, Save, Exchanges, Run}
use Rattle.cyc_store.specs.declared.range.TheConstants.{HEAP, UNIQUE}
use Rattle.cyc_store.proofs.LookupLemmas.{when_other, IsPart, is_kept, IsPart-without, AreDistinct-append, AreDistinct-part, lookup-key}
use Rattle.cyc_store.proofs.HolderLemmas.{covers_from, covers_first, AreSound-part, IsPart-down_to, AreSound-opened, AreSound-made, AreSound-freed}
use Rattle.cyc_store.proofs.CountLemmas.{blocks-some, class_of-bound, raised-same, raised-other, raised-length, raised-more, live_in-append_same, AreEnough-made, AreEnough-part, demand-part, sizes-opened}

-- ---- the meaning of a refusal

full-none : (b : Bool) → full_at b ≡ None → b ≡ false
full-none true none = absurd (let e : Some Full ≡ None = none in cc)
full-none false none = refl

pub then-none : (b : Bool) (o : Option Refusal) (why : Refusal) → (if b then o else Some why) ≡ None → (b ≡ true) × (o ≡ None)
then-none true o why none = (refl, none)
then-none false o why none = absurd (let e : Some why ≡ None = none in cc)

within : (s : StoreState) (call : Call) → is_full s call ≡ false → demand (served s call (any_choice s)) ≤ s.pages
within s call not = ltb-false s.pages (demand (served s call (any_choice s))) not

-- ---- a block that is allocated in one of two ways

module _ (s : StoreState) (h : ℕ) (b : Block) where
  pub made-unique : h ≡ UNIQUE → made s h b ≡ made_unique s b
  made-unique same = when_equal h UNIQUE (made_unique s b) (made_in s h b) same

  pub made-in : (h ≡ UNIQUE → ⊥) → made s h b ≡ made_in s h b
  made-in other = when_other h UNIQUE (made_unique s b) (made_in s h b) other

sizes-alike : (size a c : ℕ) (bs : List Block) → sizes_of (bs ++ record { address = a; size = size } ∷ []) ≡ sizes_of (bs ++ record { address = c; size = size } ∷ [])
sizes-alike size a c [] = refl
sizes-alike size a c (x ∷ bs) = ap (λ l. x.size ∷ l) (sizes-alike size a c bs)

sizes-made : (size a c : ℕ) (rs : List Home) (h : ℕ)
    → sizes_in (changed handle_of (with_block (record { address = a; size = size })) rs h)
    ≡ sizes_in (changed handle_of (with_block (record { address = c; size = size })) rs h)
sizes-made size a c [] h = refl
sizes-made size a c (r ∷ rs) h = elim (cases_eq r.handle h) [
  | inl same ↦ ap sizes_in (here a same) ∙ (ap (λ l. l ∷ sizes_in rs) (sizes-alike size a c r.blocks) ∙ sym (ap sizes_in (here c same)))
  | inr other ↦ ap sizes_in (there a other) ∙ (ap (λ l. sizes_of r.blocks ∷ l) (sizes-made size a c rs h) ∙ sym (ap sizes_in (there c other)))
]
  where
    here : (n : ℕ) → r.handle ≡ h → changed handle_of (with_block (record { address = n; size = size })) (r ∷ rs) h
        ≡ with_block (record { address = n; size = size }) r ∷ rs
    here n same = when_equal r.handle h (with_block (record { address = n; size = size }) r ∷ rs) (r ∷ changed handle_of (with_block (record { address = n; size = size })) rs h) same

    there : (n : ℕ) → (r.handle ≡ h → ⊥) → changed handle_of (with_block (record { address = n; size = size })) (r ∷ rs) h
        ≡ r ∷ changed handle_of (with_block (record { address = n; size = size })) rs h
    there n other = when_other r.handle h (with_block (record { address = n; size = size }) r ∷ rs) (r ∷ changed handle_of (with_block (record { address = n; size = size })) rs h) other

demand-made : (s : StoreState) (h size a c : ℕ)
    → demand (made s h (record { address = a; size = size })) ≡ demand (made s h (record { address = c; size = size }))
demand-made s h size a c = elim (cases_eq h UNIQUE) [
  | inl same ↦ ap demand (made-unique s h (record { address = a; size = size }) same) ∙ sym (ap demand (made-unique s h (record { address = c; size = size }) same))
  | inr other ↦
      ap demand (made-in s h (record { address = a; size = size }) other)
      ∙ (ap (λ l. demand_of l s.classes) (sizes-made size a c s.regions h) ∙ sym (ap demand (made-in s h (record { address = c; size = size }) other)))
]

-- The number of pages that a store needs depends only on the sizes of its blocks.
pub demand-served : (s : StoreState) (call : Call) (c d : Choice) → demand (served s call c) ≡ demand (served s call d)
demand-served s OpenLexical c d = ap (λ l. demand_of l s.classes) (sizes-opened s.regions c.handle d.handle Lexical)
demand-served s (CloseTo mark) c d = refl
demand-served s OpenDynamic c d = ap (λ l. demand_of l s.classes) (sizes-opened s.regions c.handle d.handle Dynamic)
demand-served s (CloseDynamic h) c d = refl
demand-served s (Allocate h n) c d = demand-made s h (room h n) c.address d.address
demand-served s (Free f) c d = refl

-- ---- a new store

pub none-sound : (pages : ℕ) → AreSound pages []
none-sound pages = record {
  handles = tt;
  apart = λ h f x b at inside. absurd (let e : None ≡ Some b = at in cc);
  placed = λ h f b at. absurd (let e : None ≡ Some b = at in cc);
}

pub no-pages : (c : ℕ) → c ≤ greatest_class → pages_for c 0 ≡ 0
no-pages c bound = below (blocks_in_page c) (blocks-some c bound)
  where
    below : (k : ℕ) → 0 < k → (0 + (k - 1)) / k ≡ 0
    below k some = div-eq_of_lt-le {k = 0} k {m = 0 + (k - 1)} (omega arith) (omega (arith, some))

pub start-sound : (pages : ℕ) (memory : Memory) → AreWords memory → 1 ≤ pages → IsSound (start pages memory)
start-sound pages memory words few = record {
  regions = AreSound-opened (empty_home UNIQUE Uniques ∷ []) HEAP Heap (AreSound-opened [] UNIQUE Uniques (none-sound pages) refl) refl;
  uniques = tt;
  words = words;
  classes = refl;
  enough = λ c bound. least c (pages_for c 0) (slice_index (start pages memory).classes c) (no-pages c bound);
  demand = few;
}
  where
    least : (c m n : ℕ) → m ≡ 0 → m ≤ n
    least c m n none = omega (arith, none)

-- ---- soundness is kept

opened-sound : (s : StoreState) (h : ℕ) (sort : Sort) (memory : Memory) → IsSound s → lookup handle_of (homes s) h ≡ None → AreWords memory
    → demand (opened s h sort) ≤ s.pages → IsSound (record (opened s h sort) { memory = memory })
opened-sound s h sort memory sound fresh words few = record {
  regions = AreSound-opened (homes s) h sort sound.regions fresh;
  uniques = sound.uniques;
  words = words;
  classes = sound.classes;
  enough = sound.enough;
  demand = few;
}

pub closed-sound : (s : StoreState) (rs : List Home) (memory : Memory) → IsSound s → IsPart rs s.regions → AreWords memory
    → IsSound (record s { regions = rs; memory = memory })
closed-sound s rs memory sound part words = record {
  regions = AreSound-part (is_kept part) sound.regions;
  uniques = sound.uniques;
  words = words;
  classes = sound.classes;
  enough = sound.enough;
  demand = fewer (demand_of (sizes_in rs) s.classes) (demand_of (sizes_in s.regions) s.classes) s.pages (demand-part part s.classes) sound.demand;
}
  where
    fewer : (k m n : ℕ) → k ≤ m → m ≤ n → k ≤ n
    fewer k m n first second = omega (arith, first, second)

-- No live unique block has the same address as a new block.
address-fresh : (s : StoreState) (b : Block) → IsSound s → IsPlaced s.pages b → IsApart (homes s) b → lookup address_of s.unique b.address ≡ None
address-fresh s b sound placed apart = elim (none_or_some (lookup address_of s.unique b.address)) [
  | inl none ↦ none
  | inr old ↦
      let at : block_at (homes s) UNIQUE b.address ≡ Some old.0 =
      ap (λ o. block_in o b.address) (when_equal UNIQUE UNIQUE (Some (record { handle = UNIQUE; sort = Uniques; blocks = s.unique })) (lookup handle_of s.regions UNIQUE) refl) ∙ old.1 in
      let inside : covers old.0 b.address ≡ true =
      subst (λ n. covers old.0 n ≡ true) (lookup-key address_of s.unique b.address old.0 old.1)
      (covers_first old.0 (sound.regions.placed UNIQUE b.address old.0 at).some) in
      absurd (never_none_and_some (apart b.address (covers_first b placed.some)) (sound.regions.apart UNIQUE b.address b.address old.0 at inside))
]

unique-sound : (s : StoreState) (b : Block) (memory : Memory) → IsSound s → IsPlaced s.pages b → IsApart (homes s) b → AreWords memory
    → demand (made_unique s b) ≤ s.pages → IsSound (record (made_unique s b) { memory = memory })
unique-sound s b memory sound placed apart words few = record {
  regions = subst (AreSound s.pages)
      (when_equal UNIQUE UNIQUE
      (with_block b (record { handle = UNIQUE; sort = Uniques; blocks = s.unique }) ∷ s.regions)
      (record { handle = UNIQUE; sort = Uniques; blocks = s.unique } ∷ changed handle_of (with_block b) s.regions UNIQUE)
      refl)
      (AreSound-made (homes s) UNIQUE (record { handle = UNIQUE; sort = Uniques; blocks = s.unique }) b sound.regions
      (when_equal UNIQUE UNIQUE (Some (record { handle = UNIQUE; sort = Uniques; blocks = s.unique })) (lookup handle_of s.regions UNIQUE) refl)
      placed apart);
  uniques = AreDistinct-append address_of s.unique b sound.uniques (address-fresh s b sound placed apart);
  words = words;
  classes = raised-length s.classes (class_of b.size) (suc (live_in (class_of b.size) s.unique)) ∙ sound.classes;
  enough = AreEnough-made s.unique s.classes b sound.classes sound.enough;
  demand = few;
}

in-sound : (s : StoreState) (h : ℕ) (r : Home) (b : Block) (memory : Memory) → IsSound s → (h ≡ UNIQUE → ⊥) → lookup handle_of (homes s) h ≡ Some r
    → IsPlaced s.pages b → IsApart (homes s) b → AreWords memory → demand (made_in s h b) ≤ s.pages
    → IsSound (record (made_in s h b) { memory = memory })
in-sound s h r b memory sound other there placed apart words few = record {
  regions = subst (AreSound s.pages)
      (when_other UNIQUE h
      (with_block b (record { handle = UNIQUE; sort = Uniques; blocks = s.unique }) ∷ s.regions)
      (record { handle = UNIQUE; sort = Uniques; blocks = s.unique } ∷ changed handle_of (with_block b) s.regions h)
      (λ e. other (sym e)))
      (AreSound-made (homes s) h r b sound.regions there placed apart);
  uniques = sound.uniques;
  words = words;
  classes = sound.classes;
  enough = sound.enough;
  demand = few;
}

made-sound : (s : StoreState) (h : ℕ) (r : Home) (b : Block) (memory : Memory) → IsSound s → lookup handle_of (homes s) h ≡ Some r
    → IsPlaced s.pages b → IsApart (homes s) b → AreWords memory → demand (made s h b) ≤ s.pages
    → IsSound (record (made s h b) { memory = memory })
made-sound s h r b memory sound there placed apart words few = elim (cases_eq h UNIQUE) [
  | inl same ↦
      subst (λ t. IsSound (record t { memory = memory })) (sym (made-unique s h b same))
      (unique-sound s b memory sound placed apart words (subst (λ t. demand t ≤ s.pages) (made-unique s h b same) few))
  | inr other ↦
      subst (λ t. IsSound (record t { memory = memory })) (sym (made-in s h b other))
      (in-sound s h r b memory sound other there placed apart words (subst (λ t. demand t ≤ s.pages) (made-in s h b other) few))
]

freed-sound : (s : StoreState) (f : ℕ) (memory : Memory) → IsSound s → AreWords memory
    → IsSound (record s { unique = without address_of s.unique f; memory = memory })
freed-sound s f memory sound words = record {
  regions = AreSound-freed UNIQUE Uniques s.unique s.regions f sound.uniques sound.regions;
  uniques = AreDistinct-part address_of (IsPart-without address_of s.unique f) sound.uniques;
  words = words;
  classes = sound.classes;
  enough = AreEnough-part s.unique (without address_of s.unique f) s.classes (IsPart-without address_of s.unique f) sound.enough;
  demand = sound.demand;
}

pub served-sound : (s : StoreState) (call : Call) (c : Choice) → IsSound s → refusal s call ≡ None → IsAllowed s call c → IsSound (served s call c)
served-sound s OpenLexical c sound none allowed =
    opened-sound s c.handle Lexical c.memory sound allowed.may.0 allowed.words
    (subst (λ n. n ≤ s.pages) (demand-served s OpenLexical (any_choice s) c) (within s OpenLexical (full-none (is_full s OpenLexical) none)))
served-sound s (CloseTo mark) c sound none allowed = closed-sound s (down_to mark s.regions) c.memory sound (IsPart-down_to mark s.regions) allowed.words
served-sound s OpenDynamic c sound none allowed =
    opened-sound s c.handle Dynamic c.memory sound allowed.may.0 allowed.words
    (subst (λ n. n ≤ s.pages) (demand-served s OpenDynamic (any_choice s) c) (within s OpenDynamic (full-none (is_full s OpenDynamic) none)))
served-sound s (CloseDynamic h) c sound none allowed =
    closed-sound s (without handle_of s.regions h) c.memory sound (IsPart-without handle_of s.regions h) allowed.words
served-sound s (Allocate h n) c sound none allowed =
    let (named, rest) = then-none (is_some (lookup handle_of (homes s) h)) (if is_size n then full_at (is_full s (Allocate h n)) else Some BadSize) BadHandle none in
    let (sized, fits) = then-none (is_size n) (full_at (is_full s (Allocate h n))) BadSize rest in
    let (r, there) = some_there (lookup handle_of (homes s) h) named in
    made-sound s h r (block_of h n c) c.memory sound there allowed.may.0 allowed.may.1 allowed.words
    (subst (λ n. n ≤ s.pages) (demand-served s (Allocate h n) (any_choice s) c) (within s (Allocate h n) (full-none (is_full s (Allocate h n)) fits)))
served-sound s (Free f) c sound none allowed = freed-sound s f c.memory sound allowed.words

-- ---- the relation of the services

pub serves-sound : (s t : StoreState) (call : Call) (a : Answer) → IsSound s → Serves s call a t → IsSound t
serves-sound s t call a sound serves = by (refusal s call) refl serves
  where
    by : (o : Option Refusal) → refusal s call ≡ o → ServesBy s call o a t → IsSound t
    by None none (c, allowed, _, is) = subst IsSound (sym is) (served-sound s call c sound none allowed)
    by (Some why) some (_, is) = subst IsSound (sym is) sound

not-refused : (s : StoreState) (call : Call) (c : Choice) (why : Refusal) → Refused why ≡ answer s call c → ⊥
not-refused s OpenLexical c why e = cc
not-refused s (CloseTo mark) c why e = cc
not-refused s OpenDynamic c why e = cc
not-refused s (CloseDynamic h) c why e = cc
not-refused s (Allocate h n) c why e = cc
not-refused s (Free f) c why e = cc

-- If a call is refused, then the refusal is the one that the rules determine, and the store is unchanged.
pub refused-exact : (s t : StoreState) (call : Call) (why : Refusal) → Serves s call (Refused why) t → (refusal s call ≡ Some why) × (t ≡ s)
refused-exact s t call why serves = by (refusal s call) serves
  where
    by : (o : Option Refusal) → ServesBy s call o (Refused why) t → (o ≡ Some why) × (t ≡ s)
    by None (c, _, e, _) = absurd (not-refused s call c why e)
    by (Some other) (e, is) = (let k : other ≡ why = cc in ap (λ z. Some z) k, is)

made-pages : (s : StoreState) (h : ℕ) (b : Block) → (made s h b).pages ≡ s.pages
made-pages s h b = elim (cases_eq h UNIQUE) [
  | inl same ↦ ap (λ (t : StoreState). t.pages) (made-unique s h b same)
  | inr other ↦ ap (λ (t : StoreState). t.pages) (made-in s h b other)
]

served-pages : (s : StoreState) (call : Call) (c : Choice) → (served s call c).pages ≡ s.pages
served-pages s OpenLexical c = refl
served-pages s (CloseTo mark) c = refl
served-pages s OpenDynamic c = refl
served-pages s (CloseDynamic h) c = refl
served-pages s (Allocate h n) c = made-pages s h (block_of h n c)
served-pages s (Free f) c = refl

-- the number of pages of a store never changes
pub serves-pages : (s t : StoreState) (call : Call) (a : Answer) → Serves s call a t → t.pages ≡ s.pages
serves-pages s t call a serves = by (refusal s call) serves
  where
    by : (o : Option Refusal) → ServesBy s call o a t → t.pages ≡ s.pages
    by None (c, _, _, is) = ap (λ (u : StoreState). u.pages) is ∙ served-pages s call c
    by (Some why) (_, is) = ap (λ (u : StoreState). u.pages) is

-- ---- the pages of classes

made-classes : (s : StoreState) (h : ℕ) (b : Block) (c : ℕ) → length s.classes ≡ 11 → slice_index s.classes c ≤ slice_index (made s h b).classes c
made-classes s h b c eleven = elim (cases_eq h UNIQUE) [
  | inl same ↦
      subst (λ (t : StoreState). slice_index s.classes c ≤ slice_index t.classes c) (sym (made-unique s h b same))
      (raised-more s.classes (class_of b.size) (suc (live_in (class_of b.size) s.unique)) c
      (let bound : class_of b.size ≤ 10 = class_of-bound b.size in omega (arith, bound, eleven)))
  | inr other ↦ subst (λ (t : StoreState). slice_index s.classes c ≤ slice_index t.classes c) (sym (made-in s h b other)) (at_most_itself (slice_index s.classes c))
]

served-classes : (s : StoreState) (call : Call) (choice : Choice) (c : ℕ) → length s.classes ≡ 11
    → slice_index s.classes c ≤ slice_index (served s call choice).classes c
served-classes s OpenLexical choice c eleven = at_most_itself (slice_index s.classes c)
served-classes s (CloseTo mark) choice c eleven = at_most_itself (slice_index s.classes c)
served-classes s OpenDynamic choice c eleven = at_most_itself (slice_index s.classes c)
served-classes s (CloseDynamic h) choice c eleven = at_most_itself (slice_index s.classes c)
served-classes s (Allocate h n) choice c eleven = made-classes s h (block_of h n choice) c eleven
served-classes s (Free f) choice c eleven = at_most_itself (slice_index s.classes c)

-- No call reduces the number of pages of a size class.
pub serves-classes : (s t : StoreState) (call : Call) (a : Answer) (c : ℕ) → IsSound s → Serves s call a t → slice_index s.classes c ≤ slice_index t.classes c
serves-classes s t call a c sound serves = by (refusal s call) serves
  where
    by : (o : Option Refusal) → ServesBy s call o a t → slice_index s.classes c ≤ slice_index t.classes c
    by None (choice, _, _, is) = subst (λ (u : StoreState). slice_index s.classes c ≤ slice_index u.classes c) (sym is) (served-classes s call choice c sound.classes)
    by (Some why) (_, is) = subst (λ (u : StoreState). slice_index s.classes c ≤ slice_index u.classes c) (sym is) (at_most_itself (slice_index s.classes c))

-- A call leaves the number of pages of a size class unchanged, or raises it to the number that the class's live blocks need.
made-greatest : (s : StoreState) (h : ℕ) (b : Block) (c : ℕ) → length s.classes ≡ 11
    → (slice_index (made s h b).classes c ≡ slice_index s.classes c)
    ⊎ (slice_index (made s h b).classes c ≡ max (slice_index s.classes c) (pages_for c (live_in c (made s h b).unique)))
made-greatest s h b c eleven = elim (cases_eq h UNIQUE) [
  | inl same ↦
      subst (λ (t : StoreState). (slice_index t.classes c ≡ slice_index s.classes c) ⊎ (slice_index t.classes c ≡ max (slice_index s.classes c) (pages_for c (live_in c t.unique))))
      (sym (made-unique s h b same))
      (elim (cases_eq c (class_of b.size)) [
        | inl here ↦ inr (subst
            (λ n. slice_index (made_unique s b).classes n ≡ max (slice_index s.classes n) (pages_for n (live_in n (made_unique s b).unique)))
            (sym here)
            (raised-same s.classes (class_of b.size) (suc (live_in (class_of b.size) s.unique)) below
            ∙ ap (λ n. max (slice_index s.classes (class_of b.size)) (pages_for (class_of b.size) n)) (sym (live_in-append_same (class_of b.size) s.unique b refl))))
        | inr there ↦ inl (raised-other s.classes (class_of b.size) (suc (live_in (class_of b.size) s.unique)) c there)
      ])
  | inr other ↦ inl (ap (λ (t : StoreState). slice_index t.classes c) (made-in s h b other))
]
  where
    below : class_of b.size < length s.classes
    below = let bound : class_of b.size ≤ 10 = class_of-bound b.size in omega (arith, bound, eleven)

served-greatest : (s : StoreState) (call : Call) (choice : Choice) (c : ℕ) → length s.classes ≡ 11
    → (slice_index (served s call choice).classes c ≡ slice_index s.classes c)
    ⊎ (slice_index (served s call choice).classes c ≡ max (slice_index s.classes c) (pages_for c (live_in c (served s call choice).unique)))
served-greatest s OpenLexical choice c eleven = inl refl
served-greatest s (CloseTo mark) choice c eleven = inl refl
served-greatest s OpenDynamic choice c eleven = inl refl
served-greatest s (CloseDynamic h) choice c eleven = inl refl
served-greatest s (Allocate h n) choice c eleven = made-greatest s h (block_of h n choice) c eleven
served-greatest s (Free f) choice c eleven = inl refl

-- The number of pages of a size class is the greatest number that the class's live blocks have needed so far.
pub serves-greatest : (s t : StoreState) (call : Call) (a : Answer) (c : ℕ) → c ≤ greatest_class → IsSound s → Serves s call a t
    → slice_index t.classes c ≡ max (slice_index s.classes c) (pages_for c (live_in c t.unique))
serves-greatest s t call a c bound sound serves = elim (by (refusal s call) serves) [
  | inl stays ↦
      let enough : pages_for c (live_in c t.unique) ≤ slice_index t.classes c = (serves-sound s t call a sound serves).enough c bound in
      stays ∙ sym (max-eq_left (subst (λ n. pages_for c (live_in c t.unique) ≤ n) stays enough))
  | inr rises ↦ rises
]
  where
    by : (o : Option Refusal) → ServesBy s call o a t
        → (slice_index t.classes c ≡ slice_index s.classes c) ⊎ (slice_index t.classes c ≡ max (slice_index s.classes c) (pages_for c (live_in c t.unique)))
    by None (choice, _, _, is) =
        subst (λ (u : StoreState). (slice_index u.classes c ≡ slice_index s.classes c) ⊎ (slice_index u.classes c ≡ max (slice_index s.classes c) (pages_for c (live_in c u.unique))))
        (sym is) (served-greatest s call choice c sound.classes)
    by (Some why) (_, is) = inl (ap (λ (u : StoreState). slice_index u.classes c) is)

-- ---- full stores

full-some : (b : Bool) → full_at b ≡ Some Full → b ≡ true
full-some true e = refl
full-some false e = absurd (let k : None ≡ Some Full = e in cc)

past : (s : StoreState) (call : Call) → is_full s call ≡ true → s.pages < demand (served s call (any_choice s))
past s call e = ltb-true s.pages (demand (served s call (any_choice s))) e

only-why : (b : Bool) (why : Refusal) → (why ≡ Full → ⊥) → (if b then None else Some why) ≡ Some Full → ⊥
only-why true why other e = let k : None ≡ Some Full = e in cc
only-why false why other e = other (same_from_some e)

then-full : (b : Bool) (o : Option Refusal) (why : Refusal) → (why ≡ Full → ⊥) → (if b then o else Some why) ≡ Some Full → o ≡ Some Full
then-full true o why other e = e
then-full false o why other e = absurd (other (same_from_some e))

-- A call is refused for lack of pages only if it would need more pages than the store has.
pub full-past : (s : StoreState) (call : Call) → refusal s call ≡ Some Full → s.pages < demand (served s call (any_choice s))
full-past s OpenLexical e = past s OpenLexical (full-some (is_full s OpenLexical) e)
full-past s (CloseTo mark) e = absurd (only-why (nat_le mark (lexical_count s.regions)) BadMark (λ k. cc) e)
full-past s OpenDynamic e = past s OpenDynamic (full-some (is_full s OpenDynamic) e)
full-past s (CloseDynamic h) e = absurd (only-why (names_dynamic (lookup handle_of s.regions h)) BadHandle (λ k. cc) e)
full-past s (Allocate h n) e =
    let rest : (if is_size n then full_at (is_full s (Allocate h n)) else Some BadSize) ≡ Some Full =
    then-full (is_some (lookup handle_of (homes s) h)) (if is_size n then full_at (is_full s (Allocate h n)) else Some BadSize) BadHandle (λ k. cc) e in
    past s (Allocate h n) (full-some (is_full s (Allocate h n)) (then-full (is_size n) (full_at (is_full s (Allocate h n))) BadSize (λ k. cc) rest))
full-past s (Free f) e = absurd (only-why (is_some (lookup address_of s.unique f)) NotABlock (λ k. cc) e)

-- If a call is not refused, then the store afterwards needs at most the pages that it has.
pub fits : (s : StoreState) (call : Call) → IsSound s → refusal s call ≡ None → demand (served s call (any_choice s)) ≤ s.pages
fits s OpenLexical sound none = within s OpenLexical (full-none (is_full s OpenLexical) none)
fits s (CloseTo mark) sound none = (closed-sound s (down_to mark s.regions) s.memory sound (IsPart-down_to mark s.regions) sound.words).demand
fits s OpenDynamic sound none = within s OpenDynamic (full-none (is_full s OpenDynamic) none)
fits s (CloseDynamic h) sound none = (closed-sound s (without handle_of s.regions h) s.memory sound (IsPart-without handle_of s.regions h) sound.words).demand
fits s (Allocate h n) sound none =
    let (named, rest) = then-none (is_some (lookup handle_of (homes s) h)) (if is_size n then full_at (is_full s (Allocate h n)) else Some BadSize) BadHandle none in
    let (sized, room) = then-none (is_size n) (full_at (is_full s (Allocate h n))) BadSize rest in
    within s (Allocate h n) (full-none (is_full s (Allocate h n)) room)
fits s (Free f) sound none = sound.demand

-- ---- blocks and their words

-- Two live blocks that contain the same address are equal.
pub one_block : (s : StoreState) → IsSound s → (g h first other x : ℕ) (b c : Block) → block_at (homes s) g first ≡ Some b → block_at (homes s) h other ≡ Some c
    → covers b x ≡ true → covers c x ≡ true → (g ≡ h) × (b ≡ c)
one_block s sound g h first other x b c at there inside also =
    let e : record { handle = g; block = b } ≡ record { handle = h; block = c } =
    same_from_some (sym (sound.regions.apart g first x b at inside) ∙ sound.regions.apart h other x c there also) in
    (ap (λ (k : Holder). k.handle) e, ap (λ (k : Holder). k.block) e)

-- each word of a live block can be read
pub word-live : (s : StoreState) → IsSound s → (h first i : ℕ) (b : Block) → block_at (homes s) h first ≡ Some b → i < b.size
    → word_at s (b.address + 4 * i) ≡ Some (s.memory (b.address + 4 * i))
word-live s sound h first i b at below =
    let placed : IsPlaced s.pages b = sound.regions.placed h first b at in
    let inside : covers b (b.address + 4 * i) ≡ true = covers_from b (b.address + 4 * i) (omega arith) (omega (arith, below)) in
    when_equal ((b.address + 4 * i) % 4) 0 (word_in (holder (homes s) (b.address + 4 * i)) s.memory (b.address + 4 * i)) None
    (add-mul-mod_self_left b.address 4 i ∙ placed.aligned)
    ∙ ap (λ o. word_in o s.memory (b.address + 4 * i)) (sound.regions.apart h first (b.address + 4 * i) b at inside)

-- A word that is live before and after a call keeps its value.
pub serves-words : (s t : StoreState) (call : Call) (a : Answer) (x : ℕ) (h : Holder) → Serves s call a t
    → holder (homes s) x ≡ Some h → holder (homes t) x ≡ Some h → word_at t x ≡ word_at s x
serves-words s t call a x h serves here there =
    ap (λ o. if x % 4 == 0 then word_in o t.memory x else None) there
    ∙ (ap (λ w. if x % 4 == 0 then Some w else None) (by (refusal s call) serves)
    ∙ sym (ap (λ o. if x % 4 == 0 then word_in o s.memory x else None) here))
  where
    by : (o : Option Refusal) → ServesBy s call o a t → t.memory x ≡ s.memory x
    by None (c, allowed, _, is) =
        ap (λ (u : StoreState). u.memory x) is ∙ allowed.keeps x h here (subst (λ (u : StoreState). holder (homes u) x ≡ Some h) is there)
    by (Some why) (_, is) = ap (λ (u : StoreState). u.memory x) is

-- ---- writing a word

has_saved-sound : (s : StoreState) (x w : ℕ) (o : Option ℕ) → IsSound s → IsWord w → IsSound (has_saved s x w o)
has_saved-sound s x w None sound word = sound
has_saved-sound s x w (Some old) sound word = record {
  regions = sound.regions;
  uniques = sound.uniques;
  words = λ y. elim (cases_eq y x) [
    | inl same ↦ subst IsWord (sym (when_equal y x w (s.memory y) same)) word
    | inr other ↦ subst IsWord (sym (when_other y x w (s.memory y) other)) (sound.words y)
  ];
  classes = sound.classes;
  enough = sound.enough;
  demand = sound.demand;
}

pub saved-sound : (s : StoreState) (x w : ℕ) → IsSound s → IsWord w → IsSound (saved s x w)
saved-sound s x w sound word = has_saved-sound s x w (word_at s x) sound word

pub has_saved-pages : (s : StoreState) (x w : ℕ) (o : Option ℕ) → (has_saved s x w o).pages ≡ s.pages
has_saved-pages s x w None = refl
has_saved-pages s x w (Some old) = refl

word_in-some : (o : Option Holder) (m n : Memory) (x old : ℕ) → word_in o m x ≡ Some old → word_in o n x ≡ Some (n x)
word_in-some None m n x old found = absurd (let e : None ≡ Some old = found in cc)
word_in-some (Some h) m n x old found = refl

word_in-same : (o : Option Holder) (m n : Memory) (x : ℕ) → m x ≡ n x → word_in o m x ≡ word_in o n x
word_in-same None m n x same = refl
word_in-same (Some h) m n x same = ap (λ w. Some w) same

-- A word that is written is read back.
pub saved-same : (s : StoreState) (x w old : ℕ) → word_at s x ≡ Some old → word_at (saved s x w) x ≡ Some w
saved-same s x w old found =
    ap (λ o. word_at (has_saved s x w o) x) found
    ∙ elim (cases_eq (x % 4) 0) [
      | inl aligned ↦
          when_equal (x % 4) 0 (word_in (holder (homes s) x) (put s.memory x w) x) None aligned
          ∙ (word_in-some (holder (homes s) x) s.memory (put s.memory x w) x old (sym (when_equal (x % 4) 0 (word_in (holder (homes s) x) s.memory x) None aligned) ∙ found)
          ∙ ap (λ n. Some n) (when_equal x x w (s.memory x) refl))
      | inr askew ↦ absurd (never_none_and_some (when_other (x % 4) 0 (word_in (holder (homes s) x) s.memory x) None askew) found)
    ]

has_saved-other : (s : StoreState) (x w y : ℕ) (o : Option ℕ) → (y ≡ x → ⊥) → word_at (has_saved s x w o) y ≡ word_at s y
has_saved-other s x w y None other = refl
has_saved-other s x w y (Some old) other =
    ap (λ z. if y % 4 == 0 then z else None) (word_in-same (holder (homes s) y) (put s.memory x w) s.memory y (when_other y x w (s.memory y) other))

-- Writing a word leaves every other word unchanged.
pub saved-other : (s : StoreState) (x w y : ℕ) → (y ≡ x → ⊥) → word_at (saved s x w) y ≡ word_at s y
saved-other s x w y other = has_saved-other s x w y (word_at s x) other

-- ---- lists of calls

exchange-sound : (s t : StoreState) (e : Exchange) → IsSound s → Exchanges s e t → IsSound t × (t.pages ≡ s.pages)
exchange-sound s t (Service call a) sound does = (serves-sound s t call a sound does, serves-pages s t call a does)
exchange-sound s t (Load x w) sound does = (subst IsSound (sym does.1) sound, ap (λ (u : StoreState). u.pages) does.1)
exchange-sound s t (Save x w done) sound does =
    (subst IsSound (sym does.2) (saved-sound s x w sound does.0), ap (λ (u : StoreState). u.pages) does.2 ∙ has_saved-pages s x w (word_at s x))

pub run-sound : (es : List Exchange) (s t : StoreState) → IsSound s → Run es s t → IsSound t × (t.pages ≡ s.pages)
run-sound [] s t sound run = (subst IsSound (sym run) sound, ap (λ (u : StoreState). u.pages) run)
run-sound (e ∷ es) s t sound (u, does, rest) =
    let (first, pages) = exchange-sound s u e sound does in
    let (last, same) = run-sound es u t first rest in
    (last, same ∙ pages)
