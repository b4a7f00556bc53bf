-- Lemmas about the facts that the boolean tests on types decide, such as the test for a unique pointer.
use Rattle.std.proofs.Common.{◌≡◌, ◌≢◌, nat_eq, true, false, not, ◌&&◌, ◌||◌, List, [], ◌∷◌, ◌++◌, refl, sym, ap, subst, ◌∙◌}
use Rattle.std.proofs.lemmas.Bool.{and_parts, eqb-true, true≢false, not-true}
use Rattle.cyc_syntax.specs.declared.tree.PointerKind.{PointerKind}
use Rattle.cyc_syntax.specs.declared.tree.PointerKind.TheVariants.{Nullable, NonNull, Fat}
use Rattle.cyc_types.specs.declared.region.Region.{Region}
use Rattle.cyc_types.specs.declared.region.Region.TheVariants as regions
use Rattle.cyc_types.specs.Types.{Ty, Int, Char, Pointer, Handle, Key, Struct, ValueType, Value, region_eq}
use Rattle.cyc_types.specs.Rules.{Demand, AllKept}
use Rattle.cyc_types.specs.typing.Tests.{mark_eq, regions_eq, ty_eq, is_thin_mark, is_unique, is_key, is_moved, is_int, is_char, is_value}
use Rattle.cyc_types.proofs.RegionLemmas.{region_eq-refl, region_eq-true}

-- ---- demands

pub kept_append : (ds es : List Demand) → AllKept (ds ++ es) → AllKept ds × AllKept es
kept_append [] es h = (tt, h)
kept_append (d ∷ ds) es (k, h) = let (l, r) = kept_append ds es h in ((k, l), r)

-- ---- equality

pub mark_eq-true : (k l : PointerKind) → mark_eq k l ≡ true → k ≡ l
mark_eq-true Nullable Nullable h = refl
mark_eq-true NonNull NonNull h = refl
mark_eq-true Fat Fat h = refl
mark_eq-true k l h = absurd (cc)

pub regions_eq-true : (rs ss : List Region) → regions_eq rs ss ≡ true → rs ≡ ss
regions_eq-true [] [] h = refl
regions_eq-true (r ∷ rs) (s ∷ ss) h =
    let (e, es) = and_parts (region_eq r s) (regions_eq rs ss) h in ap (λ z. z ∷ rs) (region_eq-true r s e) ∙ ap (λ zs. s ∷ zs) (regions_eq-true rs ss es)
regions_eq-true rs ss h = absurd (cc)

pub ty_eq-true : (t u : Ty) → ty_eq t u ≡ true → t ≡ u
ty_eq-true Int Int h = refl
ty_eq-true Char Char h = refl
ty_eq-true (Pointer k t r) (Pointer l u s) h =
    let (e, es) = and_parts (mark_eq k l) (ty_eq t u && region_eq r s) h in
    let (f, g) = and_parts (ty_eq t u) (region_eq r s) es in
    ap (λ z. Pointer z t r) (mark_eq-true k l e) ∙ (ap (λ z. Pointer l z r) (ty_eq-true t u f) ∙ ap (λ z. Pointer l u z) (region_eq-true r s g))
ty_eq-true (Handle r) (Handle s) h = ap Handle (region_eq-true r s h)
ty_eq-true (Key r) (Key s) h = ap Key (region_eq-true r s h)
ty_eq-true (Struct n rs) (Struct m ss) h =
    let (e, es) = and_parts (nat_eq n m) (regions_eq rs ss) h in ap (λ z. Struct z rs) (eqb-true n m e) ∙ ap (λ z. Struct m z) (regions_eq-true rs ss es)
ty_eq-true t u h = absurd (cc)

-- ---- types

pub int_of : (v : ValueType) → is_int v ≡ true → v ≡ Value Int
int_of (Value Int) h = refl
int_of v h = absurd (cc)

pub char_of : (v : ValueType) → is_char v ≡ true → v ≡ Value Char
char_of (Value Char) h = refl
char_of v h = absurd (cc)

pub unique_of : (v : ValueType) → is_value is_unique v ≡ true → (k : PointerKind) × (t : Ty) × (v ≡ Value (Pointer k t regions.Unique))
unique_of (Value (Pointer k t r)) h = (k, t, ap (λ s. Value (Pointer k t s)) (region_eq-true r regions.Unique h))
unique_of v h = absurd (cc)

pub fat_of : (k : PointerKind) → not (is_thin_mark k) ≡ true → k ≡ Fat
fat_of Fat h = refl
fat_of k h = absurd (cc)

-- reading a local whose type is neither a unique pointer nor a key does not move its value
pub not_moved : (t : Ty) → is_unique t ≡ false → is_key t ≡ false → is_moved t ≡ false
not_moved t u k = ap (λ b. b || is_key t) u ∙ k

pub other_region : (r s : Region) → not (region_eq r s) ≡ true → r ≢ s
other_region r s h e = let k : region_eq r s ≡ true = subst (λ z. region_eq r z ≡ true) e (region_eq-refl r) in absurd (true≢false (sym k ∙ not-true (region_eq r s) h))
