-- Lemmas about plain signatures of functions: each region occurs only once in the types of the parameters.
use Rattle.std.proofs.Common.{◌≡◌, ◌<◌, ◌≤◌, ◌+◌, ℕ, suc, true, nat_eq, List, [], ◌∷◌, ◌++◌, length, drop, get_or, map, Option, Some, None, IfSome, refl, sym, subst, arith}
use Rattle.std.proofs.lemmas.Bool.{eqb-true}
use Rattle.std.proofs.lemmas.List.{drop_more}
use Rattle.cyc_words.proofs.Lists.{drop_read}
use Rattle.cyc_types.specs.declared.region.Region.{Region}
use Rattle.cyc_types.specs.declared.region.Region.TheVariants.{Heap, Unique, Variable}
use Rattle.cyc_types.specs.declared.ty.Ty.{Ty as TyCode}
use Rattle.cyc_types.specs.TypeView.{view_ty}
use Rattle.cyc_scope.specs.inside.Plain.{regions_in, all_regions, Ascend}

-- if a list consists of region variables with increasing numbers of at least b, these numbers are also at least a for each a below b
ascend_lower : (a b : ℕ) (rs : List Region) (c : ℕ) → a ≤ b → Ascend b rs c → Ascend a rs c
ascend_lower a b [] c le h = omega (arith, le, h)
ascend_lower a b (Variable n ∷ rs) c le h = (omega (arith, le, h.0), h.1)
ascend_lower a b (Heap ∷ rs) c le h = absurd h
ascend_lower a b (Unique ∷ rs) c le h = absurd h

pub ascend_append : (a : ℕ) (rs : List Region) (b : ℕ) (ss : List Region) (c : ℕ) → Ascend a rs b → Ascend b ss c → Ascend a (rs ++ ss) c
ascend_append a [] b ss c h k = ascend_lower a b ss c h k
ascend_append a (Variable n ∷ rs) b ss c h k = (h.0, ascend_append (suc n) rs b ss c h.1 k)
ascend_append a (Heap ∷ rs) b ss c h k = absurd h
ascend_append a (Unique ∷ rs) b ss c h k = absurd h

-- if a list consists of region variables with increasing numbers below b, these numbers are also below each c above b
pub ascend_higher : (a : ℕ) (rs : List Region) (b c : ℕ) → b ≤ c → Ascend a rs b → Ascend a rs c
ascend_higher a [] b c le h = omega (arith, le, h)
ascend_higher a (Variable n ∷ rs) b c le h = (h.0, ascend_higher (suc n) rs b c le h.1)
ascend_higher a (Heap ∷ rs) b c le h = absurd h
ascend_higher a (Unique ∷ rs) b c le h = absurd h

-- if a list consists of region variables with increasing numbers, and a region variable with a higher number is appended, then the longer
-- list also consists of region variables with increasing numbers
pub ascend_more : (o : Option ℕ) (a b : ℕ) (rs : List Region) (r : Region) → Ascend a rs b → IfSome o (λ n. Ascend b (r ∷ []) n) → IfSome o (λ n. Ascend a (rs ++ r ∷ []) n)
ascend_more None a b rs r h k = tt
ascend_more (Some n) a b rs r h k = ascend_append a rs b (r ∷ []) n h k

pub none_at_all : {A : Type 0} (xs : List A) → nat_eq (length xs) 0 ≡ true → xs ≡ []
none_at_all [] h = refl
none_at_all (x ∷ xs) h = let none : suc (length xs) ≡ 0 = eqb-true (suc (length xs)) 0 h in absurd (omega (arith, none))

-- ---- loops

-- if the region at index i of a list and all regions after it are variables with increasing numbers, so are all regions from index i on
pub ascend_from : (a b c : ℕ) (rs : List Region) (i : ℕ) (d : Region) → i < length rs → Ascend a (get_or rs i d ∷ []) b → Ascend b (drop (i + 1) rs) c → Ascend a (drop i rs) c
ascend_from a b c rs i d lt one rest =
    subst (λ xs. Ascend a xs c) (sym (drop_more rs i d lt)) (ascend_append a (get_or rs i d ∷ []) b (drop (i + 1) rs) c one rest)

-- if the regions of the type at index i and those of all types after it are variables with increasing numbers, so are
-- all regions of the types from index i on
pub types_from : (a b c : ℕ) (ts : List TyCode) (i : ℕ) (t : TyCode) → i < length ts → t ≡ get_or ts i t → Ascend a (regions_in (view_ty t)) b
    → Ascend b (all_regions (map view_ty (drop (i + 1) ts))) c → Ascend a (all_regions (map view_ty (drop i ts))) c
types_from a b c ts i t lt is one rest =
    subst (λ xs. Ascend a (all_regions (map view_ty xs)) c) (sym (drop_read ts i t lt is)) (ascend_append a (regions_in (view_ty t)) b (all_regions (map view_ty (drop (i + 1) ts))) c one rest)
