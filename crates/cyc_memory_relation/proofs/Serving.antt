-- This file is about the effect of a request to the heap store: live blocks are found as before and keep
-- their words, so objects keep their addresses.
use Rattle.std.proofs.Common.{◌≡◌, ℕ, ◌+◌, ◌-◌, ◌*◌, ◌/◌, ◌%◌, ◌<◌, ◌≤◌, true, List, [], ◌∷◌, ◌++◌, Option, None, Some, refl, sym, ap, subst, ◌∙◌, inl, inr, arith}
use Rattle.std.specs.Prelude.{◌≢◌, slice_get}
use Rattle.std.proofs.lemmas.Bool.{cases_eq}
use Rattle.cyc_types.specs.declared.typed.Kind.{Kind}
use Rattle.cyc_store.specs.State.{lookup, without, changed, AreWords, Block, address_of, Uniques, Home, handle_of, StoreState, homes, covers, block_in, block_at, with_block, made_in, made_unique, room}
use Rattle.cyc_store.specs.Services.{IsPlaced, Keeps}
use Rattle.cyc_store.specs.Soundness.{IsSound}
use Rattle.cyc_store.specs.declared.range.TheConstants.{UNIQUE}
use Rattle.cyc_store.proofs.LookupLemmas.{lookup-here, lookup-there, lookup-append, lookup-changed_same, lookup-changed_other, lookup-without_other}
use Rattle.cyc_store.proofs.HolderLemmas.{covers_from}
use Rattle.cyc_meaning.specs.Values.{Cell, kinds_of, block_size}
use Rattle.cyc_meaning.specs.State.{Object, World}
use Rattle.cyc_memory_relation.specs.inside.Tables.{Placed, Tables, Grows}
use Rattle.cyc_memory_relation.specs.inside.Words.{bytes_of_kinds, byte_at}
use Rattle.cyc_memory_relation.specs.inside.Related.{Alive, Stands, Related}
use Rattle.cyc_memory_relation.proofs.Bytes.{byte-of_same}
use Rattle.cyc_memory_relation.proofs.Values.{AreCells-grows, AreCells-same}

-- ---- lookups of live blocks

-- The unique blocks of the heap store, as a region.
abbrev pub unique_home : List Block → Home
unique_home blocks = record { handle = UNIQUE; sort = Uniques; blocks = blocks }

pub block-home : (rs : List Home) (h a : ℕ) (b : Block) → block_at rs h a ≡ Some b → (r : Home) × (lookup handle_of rs h ≡ Some r) × (lookup address_of r.blocks a ≡ Some b)
block-home rs h a b at = by (lookup handle_of rs h) refl at
  where
    by : (o : Option Home) → lookup handle_of rs h ≡ o → block_in o a ≡ Some b → (r : Home) × (lookup handle_of rs h ≡ Some r) × (lookup address_of r.blocks a ≡ Some b)
    by None e found = absurd (let k : None ≡ Some b = found in cc)
    by (Some r) e found = (r, e, found)

pub block-opened : (rs : List Home) (q : Home) (h a : ℕ) (b : Block) → block_at rs h a ≡ Some b → block_at (rs ++ q ∷ []) h a ≡ Some b
block-opened rs q h a b at =
    let (r, there, found) = block-home rs h a b at in
    ap (λ o. block_in o a) (lookup-append handle_of rs (q ∷ []) h r there) ∙ found

block-changed : (rs : List Home) (g : ℕ) (c : Block) (h a : ℕ) (b : Block) → block_at rs h a ≡ Some b → block_at (changed handle_of (with_block c) rs g) h a ≡ Some b
block-changed rs g c h a b at =
    let (r, there, found) = block-home rs h a b at in
    elim (cases_eq h g) [
      | inl same ↦
          ap (λ o. block_in o a)
          (subst (λ n. lookup handle_of (changed handle_of (with_block c) rs g) n ≡ Some (with_block c r)) (sym same)
          (lookup-changed_same handle_of (with_block c) (λ q. refl) rs g r (subst (λ n. lookup handle_of rs n ≡ Some r) same there)))
          ∙ lookup-append address_of r.blocks (c ∷ []) a b found
      | inr other ↦ ap (λ o. block_in o a) (lookup-changed_other handle_of (with_block c) (λ q. refl) rs g h other ∙ there) ∙ found
    ]

-- Splits lookups of blocks into two cases. If each block is found unchanged among the unique blocks and among the other regions'
-- blocks, it is found unchanged in the whole heap store.
block-split : (us vs : List Block) (rs qs : List Home) (h a : ℕ) (b : Block)
    → (UNIQUE ≡ h → lookup address_of us a ≡ Some b → lookup address_of vs a ≡ Some b)
    → ((UNIQUE ≡ h → ⊥) → block_at rs h a ≡ Some b → block_at qs h a ≡ Some b)
    → block_at (unique_home us ∷ rs) h a ≡ Some b → block_at (unique_home vs ∷ qs) h a ≡ Some b
block-split us vs rs qs h a b unique others at = elim (cases_eq UNIQUE h) [
  | inl same ↦
      ap (λ o. block_in o a) (lookup-here handle_of (unique_home vs) qs h same)
      ∙ unique same (sym (ap (λ o. block_in o a) (lookup-here handle_of (unique_home us) rs h same)) ∙ at)
  | inr other ↦
      ap (λ o. block_in o a) (lookup-there handle_of (unique_home vs) qs h other)
      ∙ others other (sym (ap (λ o. block_in o a) (lookup-there handle_of (unique_home us) rs h other)) ∙ at)
]

module _ (s : StoreState) (h a : ℕ) (b : Block) where
  pub block-made_in : (g : ℕ) (c : Block) → block_at (homes s) h a ≡ Some b → block_at (homes (made_in s g c)) h a ≡ Some b
  block-made_in g c at =
      block-split s.unique s.unique s.regions (changed handle_of (with_block c) s.regions g) h a b (λ same found. found)
      (λ other found. block-changed s.regions g c h a b found) at

  pub block-made_unique : (c : Block) → block_at (homes s) h a ≡ Some b → block_at (homes (made_unique s c)) h a ≡ Some b
  block-made_unique c at =
      block-split s.unique (s.unique ++ c ∷ []) s.regions s.regions h a b (λ same found. lookup-append address_of s.unique (c ∷ []) a b found)
      (λ other found. found) at

  pub block-freed : (gone : ℕ) → (UNIQUE ≡ h → a ≢ gone) → block_at (homes s) h a ≡ Some b
      → block_at (homes (record s { unique = without address_of s.unique gone })) h a ≡ Some b
  block-freed gone away at =
      block-split s.unique (without address_of s.unique gone) s.regions s.regions h a b
      (λ same found. lookup-without_other address_of s.unique gone a (away same) ∙ found) (λ other found. found) at

  pub block-closed : (g : ℕ) → h ≢ g → block_at (homes s) h a ≡ Some b → block_at (homes (record s { regions = without handle_of s.regions g })) h a ≡ Some b
  block-closed g away at =
      block-split s.unique s.unique s.regions (without handle_of s.regions g) h a b (λ same found. found)
      (λ other found. ap (λ o. block_in o a) (lookup-without_other handle_of s.regions g h away) ∙ found) at

-- ---- objects keep their places

-- Says that a request to the heap store does not change the words of any block that is live before and after the request.
pub record WordsStay (s r : StoreState) : Type 0 where
  pub sound : IsSound s
  pub after : AreWords r.memory
  pub words : (h a : ℕ) (b : Block) → block_at (homes s) h a ≡ Some b → block_at (homes r) h a ≡ Some b → (j : ℕ) → j < b.size
      → r.memory (b.address + 4 * j) ≡ s.memory (b.address + 4 * j)

pub words-unmoved : {s : StoreState} → IsSound s → WordsStay s s
words-unmoved sound = record { sound = sound; after = sound.words; words = λ h a b here there j below. refl }

pub words-stay : {s r : StoreState} → IsSound s → IsSound r → Keeps s r → WordsStay s r
words-stay {s} {r} sound after keeps = record {
  sound = sound;
  after = after.words;
  words = λ h a b here there j below.
      let inside : covers b (b.address + 4 * j) ≡ true = covers_from b (b.address + 4 * j) (omega arith) (omega (arith, below)) in
      keeps (b.address + 4 * j) (record { handle = h; block = b })
      (sound.regions.apart h a (b.address + 4 * j) b here inside)
      (after.regions.apart h a (b.address + 4 * j) b there inside);
}

module _ {t u : Tables} {s r : StoreState} (grows : Grows t u) (stay : WordsStay s r) where
  pub Stands-served : (h o : ℕ) (cells : List Cell) (st : Stands t (homes s) s.memory h o cells)
      → block_at (homes r) h st.address ≡ Some (record { address = st.address; size = room h (block_size cells) })
      → Stands u (homes r) r.memory h o cells
  Stands-served h o cells st there = record {
    address = st.address;
    row = grows.rows o (Placed st.address (kinds_of cells)) st.row;
    found = there;
    enough = st.enough;
    holds = AreCells-grows grows cells r.memory st.address 0
        (AreCells-same t cells s.memory r.memory st.address 0 placed.aligned stay.sound.words stay.after same st.holds);
  }
    where
      placed : IsPlaced s.pages (record { address = st.address; size = room h (block_size cells) })
      placed = stay.sound.regions.placed h st.address (record { address = st.address; size = room h (block_size cells) }) st.found

      -- A byte of an object's cells is part of a word of the object's block.
      same : (x : ℕ) → st.address + 0 ≤ x → x < st.address + bytes_of_kinds (kinds_of cells) → byte_at r.memory x ≡ byte_at s.memory x
      same x least less =
          let enough : bytes_of_kinds (kinds_of cells) ≤ 4 * room h (block_size cells) = st.enough in
          let even : st.address % 4 ≡ 0 = placed.aligned in
          let word : 4 * (x / 4) ≡ st.address + 4 * ((x - st.address) / 4) = omega (arith, least, even) in
          byte-of_same s.memory r.memory x
          (subst (λ n. r.memory n ≡ s.memory n) (sym word)
          (stay.words h st.address (record { address = st.address; size = room h (block_size cells) }) st.found there ((x - st.address) / 4)
          (omega (arith, least, less, enough))))

-- The objects keep their addresses if each object that is live after a request was live before it, and its block is still found.
module _ {t u : Tables} {w v : World} {s r : StoreState} (related : Related t w s) (grows : Grows t u) (stay : WordsStay s r)
    (before : (o h : ℕ) (x : Object) → Alive u v o h x → Alive t w o h x)
    (stays : (o h a : ℕ) (ks : List Kind) (x : Object) (b : Block) → Alive u v o h x → slice_get t.rows o ≡ Some (Placed a ks)
    → block_at (homes s) h a ≡ Some b → block_at (homes r) h a ≡ Some b) where
  pub objects-inherited : (o h : ℕ) (x : Object) → Alive u v o h x → Stands u (homes r) r.memory h o x.cells
  objects-inherited o h x alive =
      let st : Stands t (homes s) s.memory h o x.cells = related.objects o h x (before o h x alive) in
      Stands-served grows stay h o x.cells st
      (stays o h st.address (kinds_of x.cells) x (record { address = st.address; size = room h (block_size x.cells) }) alive st.row st.found)

  -- If an object is live after a request to the heap store, then its row was already in the table of objects before the request.
  old-row : (o h a : ℕ) (ks : List Kind) (x : Object) → Alive u v o h x → slice_get u.rows o ≡ Some (Placed a ks) → slice_get t.rows o ≡ Some (Placed a ks)
  old-row o h a ks x alive row =
      let st : Stands t (homes s) s.memory h o x.cells = related.objects o h x (before o h x alive) in
      st.row ∙ (sym (grows.rows o (Placed st.address (kinds_of x.cells)) st.row) ∙ row)

  pub alone-inherited : (o i h g a : ℕ) (x y : Object) (ks ls : List Kind) → Alive u v o h x → Alive u v i g y
      → slice_get u.rows o ≡ Some (Placed a ks) → slice_get u.rows i ≡ Some (Placed a ls) → o ≡ i
  alone-inherited o i h g a x y ks ls first second row also =
      related.alone o i h g a x y ks ls (before o h x first) (before i g y second) (old-row o h a ks x first row) (old-row i g a ls y second also)
