-- The conditions on the store (the heap of regions) of a run, and the proof that the store's calls keep them.
use Rattle.std.proofs.Common.{◌≡◌, ℕ, zero, suc, ◌+◌, ◌*◌, ◌%◌, ◌^◌, ◌<◌, ◌≤◌, Bool, true, false, List, [], ◌∷◌, ◌++◌, length, Option, None, Some, refl, sym, ap, subst, ◌∙◌, arith, inl, inr}
use Rattle.std.specs.Prelude.{◌==◌, nat_le, nat_lt, if◌then◌else◌}
use Rattle.std.specs.List.{AllByRecursion}
use Rattle.std.proofs.lemmas.Bool.{cases_eq, cond-true, cond-false, eqb-true, leb-true, ltb-true}
use Rattle.cyc_words.specs.Word.{IsWord}
use Rattle.cyc_words.specs.Demand.{region_pages, demand_of}
use Rattle.cyc_words.proofs.Booleans.{and_right, and_left}
use Rattle.cyc_words.proofs.Numbers.{when_equal}
use Rattle.cyc_words.proofs.Lists.{all_append}
use Rattle.cyc_words.proofs.Options.{same_from_some}
use Rattle.cyc_store.specs.State.{lookup, changed, without, Block, address_of, Sort, Lexical, Dynamic, Home, handle_of, empty_home, down_to, StoreState, homes, covers, Holder}
use Rattle.cyc_store.specs.State.{holder_in, or_else, holder, word_in, word_at, saved, sizes_of, sizes_in, demand, is_lexical, lexical_count, with_block, made_in, made_unique, IsNew}
use Rattle.cyc_store.specs.State as stores
use Rattle.cyc_store.specs.Services as services
use Rattle.cyc_store.specs.Services.{Call, OpenLexical, CloseTo, OpenDynamic, CloseDynamic, Allocate, Free, Refusal, BadMark, BadHandle, is_dynamic, names_dynamic, refusal, served, answer, made, block_of, IsPlaced, MayChoose, ServesBy}
use Rattle.cyc_store.specs.Soundness.{IsSound}
use Rattle.cyc_store.specs.declared.range.TheConstants.{STORE_BASE, PAGE_WORDS, MOST_PAGES, UNIQUE}
use Rattle.cyc_store.proofs.LookupLemmas.{IsPart, is_empty, is_left, is_kept, IsPart-without, when_other}
use Rattle.cyc_store.proofs.HolderLemmas.{IsPart-down_to}
use Rattle.cyc_store.proofs.KeptClosing.{lexical-without}
use Rattle.cyc_store.proofs.KeptServices.{lexical-length, pages-some}
use Rattle.cyc_store.proofs.ServiceLemmas.{then-none, start-sound, saved-sound, served-sound, serves-pages}
use Rattle.cyc_plain.specs.inside.Step.{HasAnswerWords}
use Rattle.cyc_select.proofs.relation.Cells.{IsLive}

-- ---- blocks within the pages

-- `ArePlaced` says that all blocks of these regions lie within the store's pages.
abbrev pub ArePlaced : (pages : ℕ) → List Home → Type 0
ArePlaced pages rs = AllByRecursion (λ (r : Home). AllByRecursion (IsPlaced pages) r.blocks) rs

module _ {A : Type 0} (P : A → Type 0) where
  all_part : {xs ys : List A} → IsPart xs ys → AllByRecursion P ys → AllByRecursion P xs
  all_part is_empty all = tt
  all_part (is_left part) all = all_part part all.1
  all_part (is_kept part) all = (all.0, all_part part all.1)

  all_changed : (key : A → ℕ) (change : A → A) (xs : List A) (n : ℕ) → ((x : A) → P x → P (change x)) → AllByRecursion P xs → AllByRecursion P (changed key change xs n)
  all_changed key change [] n keeps all = tt
  all_changed key change (x ∷ xs) n keeps all = elim (cases_eq (key x) n) [
    | inl same ↦
        subst (AllByRecursion P) (sym (when_equal (key x) n (change x ∷ xs) (x ∷ changed key change xs n) same)) (keeps x all.0, all.1)
    | inr other ↦
        subst (AllByRecursion P) (sym (when_other (key x) n (change x ∷ xs) (x ∷ changed key change xs n) other))
        (all.0, all_changed key change xs n keeps all.1)
  ]

made_placed : (pages : ℕ) (s : StoreState) (h : ℕ) (b : Block) → IsPlaced pages b → ArePlaced pages (homes s) → ArePlaced pages (homes (made s h b))
made_placed pages s h b placed all = go (h == UNIQUE)
  where
    go : (unique : Bool) → ArePlaced pages (homes (if unique then made_unique s b else made_in s h b))
    go true = (all_append (IsPlaced pages) s.unique (b ∷ []) all.0 (placed, tt), all.1)
    go false = (
      all.0,
      all_changed (λ (r : Home). AllByRecursion (IsPlaced pages) r.blocks) handle_of (with_block b) s.regions h
          (λ r each. all_append (IsPlaced pages) r.blocks (b ∷ []) each (placed, tt)) all.1,
    )

-- If the store (the heap of regions) serves a call, a newly allocated block lies within the pages, and no other block appears.
served_placed : (pages : ℕ) (s : StoreState) (call : Call) (choice : services.Choice) → s.pages ≡ pages → MayChoose s call choice → ArePlaced pages (homes s)
    → ArePlaced pages (homes (served s call choice))
served_placed pages s OpenLexical choice has may all =
    (all.0, all_append (λ (r : Home). AllByRecursion (IsPlaced pages) r.blocks) s.regions ((empty_home choice.handle Lexical) ∷ []) all.1 (tt, tt))
served_placed pages s (CloseTo mark) choice has may all =
    (all.0, all_part (λ (r : Home). AllByRecursion (IsPlaced pages) r.blocks) (IsPart-down_to mark s.regions) all.1)
served_placed pages s OpenDynamic choice has may all =
    (all.0, all_append (λ (r : Home). AllByRecursion (IsPlaced pages) r.blocks) s.regions ((empty_home choice.handle Dynamic) ∷ []) all.1 (tt, tt))
served_placed pages s (CloseDynamic handle) choice has may all =
    (all.0, all_part (λ (r : Home). AllByRecursion (IsPlaced pages) r.blocks) (IsPart-without handle_of s.regions handle) all.1)
served_placed pages s (Allocate handle words) choice has may all =
    made_placed pages s handle (block_of handle words choice) (subst (λ (n : ℕ). IsPlaced n (block_of handle words choice)) has may.0) all
served_placed pages s (Free address) choice has may all =
    (all_part (IsPlaced pages) (IsPart-without address_of s.unique address) all.0, all.1)

-- If a block of the store contains an address, the block lies within the store's pages.
record IsInside (pages address : ℕ) (h : Holder) : Type 0 where
  pub placed : IsPlaced pages h.block
  pub inside : covers h.block address ≡ true

abbrev holder_of : (handle : ℕ) → Block → Holder
holder_of handle b = record { handle = handle; block = b }

block_inside : (pages address handle : ℕ) (bs : List Block) (h : Holder) → AllByRecursion (IsPlaced pages) bs → holder_in handle bs address ≡ Some h → IsInside pages address h
block_inside pages address handle [] h all found = absurd (let e : None ≡ Some h = found in cc)
block_inside pages address handle (b ∷ bs) h all found =
    go (covers b address) refl (λ later. block_inside pages address handle bs h all.1 later) found
  where
    go : (is : Bool) → covers b address ≡ is → (holder_in handle bs address ≡ Some h → IsInside pages address h)
        → (if is then Some (holder_of handle b) else holder_in handle bs address) ≡ Some h → IsInside pages address h
    go true inside later is = subst (IsInside pages address) (same_from_some is) (record { placed = all.0; inside = inside })
    go false not later is = later is

home_inside : (pages address : ℕ) (rs : List Home) (h : Holder) → ArePlaced pages rs → holder rs address ≡ Some h → IsInside pages address h
home_inside pages address [] h all found = absurd (let e : None ≡ Some h = found in cc)
home_inside pages address (r ∷ rs) h all found =
    go (holder_in r.handle r.blocks address) refl (λ later. home_inside pages address rs h all.1 later) found
  where
    go : (o : Option Holder) → holder_in r.handle r.blocks address ≡ o → (holder rs address ≡ Some h → IsInside pages address h)
        → or_else o (holder rs address) ≡ Some h → IsInside pages address h
    go None none later is = later is
    go (Some first) there later is = block_inside pages address r.handle r.blocks h all.0 (there ∙ is)

covers_low : (b : Block) (address : ℕ) → covers b address ≡ true → b.address ≤ address
covers_low b address inside =
    leb-true b.address address (and_left (nat_le b.address address) (nat_lt address (b.address + 4 * b.size)) inside)

covers_high : (b : Block) (address : ℕ) → covers b address ≡ true → address < b.address + 4 * b.size
covers_high b address inside =
    ltb-true address (b.address + 4 * b.size) (and_right (nat_le b.address address) (nat_lt address (b.address + 4 * b.size)) inside)

-- ---- lexical regions and pages

lexical_few : (rs : List Home) (classes : List ℕ) → lexical_count rs ≤ demand_of (sizes_in rs) classes
lexical_few [] classes = least (demand_of (sizes_in []) classes)
  where
    least : (n : ℕ) → 0 ≤ n
    least n = omega arith
lexical_few (r ∷ rs) classes =
    either (is_lexical r.sort) (lexical_count rs) (region_pages (sizes_of r.blocks)) (demand_of (sizes_in rs) classes)
    (pages-some 1 0 (sizes_of r.blocks)) (lexical_few rs classes)
  where
    either : (b : Bool) (n pages rest : ℕ) → 1 ≤ pages → n ≤ rest → (if b then suc n else n) ≤ pages + rest
    either true n pages rest some more = omega (arith, some, more)
    either false n pages rest some more = omega (arith, some, more)

-- Opening a lexical region increases the number of open lexical regions by 1.

pub lexical_opened : (rs : List Home) (handle : ℕ) → lexical_count (rs ++ empty_home handle Lexical ∷ []) ≡ lexical_count rs + 1
lexical_opened [] handle = refl
lexical_opened (r ∷ rs) handle = either (is_lexical r.sort) _ _ (lexical_opened rs handle)
  where
    either : (b : Bool) (n m : ℕ) → n ≡ m + 1 → (if b then suc n else n) ≡ (if b then suc m else m) + 1
    either true n m same = omega (arith, same)
    either false n m same = omega (arith, same)

pub lexical_besides : (rs : List Home) (handle : ℕ) → lexical_count (rs ++ empty_home handle Dynamic ∷ []) ≡ lexical_count rs
lexical_besides [] handle = refl
lexical_besides (r ∷ rs) handle = ap (λ (n : ℕ). if is_lexical r.sort then suc n else n) (lexical_besides rs handle)

pub lexical_left : (mark : ℕ) (rs : List Home) → mark ≤ lexical_count rs → lexical_count (down_to mark rs) ≡ mark
lexical_left mark [] few = omega (arith, few)
lexical_left mark (r ∷ rs) few = by mark (is_lexical r.sort) refl few (λ m least. lexical_left m rs least)
  where
    by : (mark : ℕ) (b : Bool) → is_lexical r.sort ≡ b → mark ≤ (if is_lexical r.sort then suc (lexical_count rs) else lexical_count rs)
        → ((m : ℕ) → m ≤ lexical_count rs → lexical_count (down_to m rs) ≡ m) → lexical_count (down_to mark (r ∷ rs)) ≡ mark
    by zero true is few left =
        ap lexical_count (cond-true (is_lexical r.sort) (down_to 0 rs) (r ∷ down_to 0 rs) is) ∙ left 0 (omega arith)
    by (suc mark) true is few left =
        ap lexical_count (cond-true (is_lexical r.sort) (r ∷ down_to mark rs) (r ∷ down_to (suc mark) rs) is)
        ∙ (cond-true (is_lexical r.sort) (suc (lexical_count (down_to mark rs))) (lexical_count (down_to mark rs)) is
        ∙ ap suc (left mark (omega (arith, subst (λ n. suc mark ≤ n) (cond-true (is_lexical r.sort) (suc (lexical_count rs)) (lexical_count rs) is) few))))
    by zero false is few left =
        ap lexical_count (cond-false (is_lexical r.sort) (down_to 0 rs) (r ∷ down_to 0 rs) is)
        ∙ (cond-false (is_lexical r.sort) (suc (lexical_count (down_to 0 rs))) (lexical_count (down_to 0 rs)) is ∙ left 0 (omega arith))
    by (suc mark) false is few left =
        ap lexical_count (cond-false (is_lexical r.sort) (r ∷ down_to mark rs) (r ∷ down_to (suc mark) rs) is)
        ∙ (cond-false (is_lexical r.sort) (suc (lexical_count (down_to (suc mark) rs))) (lexical_count (down_to (suc mark) rs)) is
        ∙ left (suc mark) (subst (λ n. suc mark ≤ n) (cond-false (is_lexical r.sort) (suc (lexical_count rs)) (lexical_count rs) is) few))

lexical_changed : (rs : List Home) (handle : ℕ) (b : Block) → lexical_count (changed handle_of (with_block b) rs handle) ≡ lexical_count rs
lexical_changed [] handle b = refl
lexical_changed (r ∷ rs) handle b = elim (cases_eq r.handle handle) [
  | inl same ↦ ap lexical_count (when_equal r.handle handle (with_block b r ∷ rs) (r ∷ changed handle_of (with_block b) rs handle) same)
  | inr other ↦
      ap lexical_count (when_other r.handle handle (with_block b r ∷ rs) (r ∷ changed handle_of (with_block b) rs handle) other)
      ∙ ap (λ (n : ℕ). if is_lexical r.sort then suc n else n) (lexical_changed rs handle b)
]

pub lexical_made : (s : StoreState) (handle : ℕ) (b : Block) → lexical_count (made s handle b).regions ≡ lexical_count s.regions
lexical_made s handle b = by (handle == UNIQUE)
  where
    by : (unique : Bool) → lexical_count (if unique then made_unique s b else made_in s handle b).regions ≡ lexical_count s.regions
    by true = refl
    by false = lexical_changed s.regions handle b

pub lexical_closed : (s : StoreState) (handle : ℕ) → IsSound s → refusal s (CloseDynamic handle) ≡ None → lexical_count (without handle_of s.regions handle) ≡ lexical_count s.regions
lexical_closed s handle sound free =
    let (named, nothing) = then-none (names_dynamic (lookup handle_of s.regions handle)) None BadHandle free in
    let (r, there, dynamic) = known (lookup handle_of s.regions handle) named in
    sym (lexical-length (without handle_of s.regions handle))
    ∙ (ap length (lexical-without s.regions handle r sound.regions.handles.1 there (not_lexical r.sort dynamic)) ∙ lexical-length s.regions)
  where
    known : (o : Option Home) → names_dynamic o ≡ true → (r : Home) × (o ≡ Some r) × (is_dynamic r.sort ≡ true)
    known None is = absurd (let e : false ≡ true = is in cc)
    known (Some r) is = (r, refl, is)

    not_lexical : (sort : Sort) → is_dynamic sort ≡ true → is_lexical sort ≡ false
    not_lexical Lexical is = absurd (let e : false ≡ true = is in cc)
    not_lexical Dynamic is = refl
    not_lexical sort is = refl

pub marks_few : (s : StoreState) (mark : ℕ) → refusal s (CloseTo mark) ≡ None → mark ≤ lexical_count s.regions
marks_few s mark free = leb-true mark (lexical_count s.regions) (then-none (nat_le mark (lexical_count s.regions)) None BadMark free).0

-- ---- the store

-- `IsLaid` says that a store of `pages` pages is sound: its blocks lie in the pages, its stored values are machine words, and it uses at
-- most `pages` pages.
pub record IsLaid (pages : ℕ) (store : StoreState) : Type 0 where
  pub has : store.pages ≡ pages
  pub few : pages ≤ MOST_PAGES
  pub placed : ArePlaced pages (homes store)
  pub paged : demand store ≤ pages
  pub sound : IsSound store

-- A new store (the heap of regions) satisfies `IsLaid`, the soundness condition of stores.
pub new_laid : (pages : ℕ) (store : StoreState) → IsNew pages store → 1 ≤ pages → pages ≤ MOST_PAGES → IsLaid pages store
new_laid pages store (memory, words, is) some few =
    subst (IsLaid pages) (sym is) (record { has = refl; few = few; placed = (tt, (tt, tt)); paged = some; sound = start-sound pages memory words some })

-- A new store (the heap of regions) has no open lexical region.
pub new_counted : (pages : ℕ) (store : StoreState) → IsNew pages store → lexical_count store.regions % 2 ^ 32 ≡ 0
new_counted pages store (memory, words, is) = ap (λ (s : StoreState). lexical_count s.regions % 2 ^ 32) is

-- A write to a word of a live block neither opens nor closes a region.
pub saved_regions : (store : StoreState) (address word : ℕ) → (saved store address word).regions ≡ store.regions
saved_regions store address word = go (word_at store address)
  where
    go : (found : Option ℕ) → (stores.has_saved store address word found).regions ≡ store.regions
    go None = refl
    go (Some old) = refl

pub saved_laid : (pages : ℕ) (store : StoreState) (address word : ℕ) → IsWord word → IsLaid pages store → IsLaid pages (saved store address word)
saved_laid pages store address word is_word laid = go (word_at store address) (saved-sound store address word laid.sound is_word)
  where
    go : (found : Option ℕ) → IsSound (stores.has_saved store address word found) → IsLaid pages (stores.has_saved store address word found)
    go None sound = laid
    go (Some old) sound = record { has = laid.has; few = laid.few; placed = laid.placed; paged = laid.paged; sound = sound }

-- If the store (the heap of regions) satisfies `IsLaid`, the soundness condition of stores, it still does after it has served a call.
pub served_laid : (pages : ℕ) (store : StoreState) (call : Call) (choice : services.Choice) → refusal store call ≡ None → services.IsAllowed store call choice → IsLaid pages store
    → IsLaid pages (served store call choice)
served_laid pages store call choice free allowed laid =
    let sound = served-sound store call choice laid.sound free allowed in
    let serves : services.Serves store call (answer store call choice) (served store call choice) =
    subst (λ (o : Option services.Refusal). ServesBy store call o (answer store call choice) (served store call choice)) (sym free) (choice, allowed, refl, refl) in
    let has : (served store call choice).pages ≡ pages = serves-pages store (served store call choice) call (answer store call choice) serves ∙ laid.has in
    record {
      has = has;
      few = laid.few;
      placed = served_placed pages store call choice laid.has allowed.may laid.placed;
      paged = subst (λ (n : ℕ). demand (served store call choice) ≤ n) has sound.demand;
      sound = sound;
    }

-- If the store (the heap of regions) serves a call, the result consists of machine words.
pub served_words : (pages : ℕ) (store : StoreState) (call : Call) (choice : services.Choice) → services.IsAllowed store call choice → IsLaid pages store → HasAnswerWords (answer store call choice)
served_words pages store OpenLexical choice allowed laid =
    (allowed.may.1, omega (arith, lexical_few store.regions store.classes, laid.paged, laid.few))
served_words pages store (CloseTo mark) choice allowed laid = tt
served_words pages store OpenDynamic choice allowed laid = allowed.may.1
served_words pages store (CloseDynamic handle) choice allowed laid = tt
served_words pages store (Allocate handle words) choice allowed laid =
    let b : Block = block_of handle words choice in
    let high : choice.address + 4 * b.size ≤ STORE_BASE + 4 * (PAGE_WORDS * store.pages) = allowed.may.0.high in
    omega (arith, high, laid.has, laid.few)
served_words pages store (Free address) choice allowed laid = tt

-- If the store (the heap of regions) has a word at an address, this word is in a live block in the store's pages.
pub laid_live : (pages : ℕ) (store : StoreState) (a word : ℕ) → IsLaid pages store → word_at store a ≡ Some word → IsLive store a word × IsWord word
laid_live pages store a word laid found = go (a % 4 == 0) refl (holder (homes store) a) refl found
  where
    go : (b : Bool) → (a % 4 == 0) ≡ b → (o : Option Holder) → holder (homes store) a ≡ o → (if b then word_in o store.memory a else None) ≡ Some word → IsLive store a word × IsWord word
    go false aligned o held is = absurd (let e : None ≡ Some word = is in cc)
    go true aligned None held is = absurd (let e : None ≡ Some word = is in cc)
    go true aligned (Some h) held is =
        let block = home_inside pages a (homes store) h laid.placed held in
        let low = covers_low h.block a block.inside in
        let high = covers_high h.block a block.inside in (
          record {
            aligned = eqb-true (a % 4) 0 aligned;
            low = omega (arith, low, block.placed.low);
            high = omega (arith, high, block.placed.high, laid.has);
            few = omega (arith, laid.few, laid.has);
            there = found;
          },
          subst IsWord (let e : Some (store.memory a) ≡ Some word = is in let same : store.memory a ≡ word = cc in same) (laid.sound.words a),
        )
