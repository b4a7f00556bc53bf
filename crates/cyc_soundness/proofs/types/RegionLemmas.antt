-- This file is about the lifetimes that region variables denote when a region is given its lifetime, opened, or passed at a call.
use Rattle.std.proofs.Common.{◌≡◌, ◌≢◌, inl, inr, ℕ, suc, ◌≤◌, ◌<◌, Bool, true, false, List, [], ◌∷◌, length, eqb, refl, sym, ap, subst, ◌∙◌, arith}
use Rattle.std.specs.Prelude.{Option, if◌then◌else◌, ◌==◌, Contains}
use Rattle.std.proofs.lemmas.Bool.{eqb-true, eq-eqb, false_from_ne_true}
use Rattle.cyc_words.proofs.Members.{Contains-tail, Contains-cons_cases}
use Rattle.cyc_types.specs.declared.region.Region.{Region}
use Rattle.cyc_types.specs.declared.region.Region.TheVariants as regions
use Rattle.cyc_types.specs.declared.scope.Scope.{Scope}
use Rattle.cyc_types.specs.declared.scope.Kind.{Kind}
use Rattle.cyc_types.specs.declared.scope.Kind.TheVariants as scopes
use Rattle.cyc_types.specs.Outlives.{RegionContext, live_regions, is_outlived_by_live, IsLiveAtOpening, IsGiven}
use Rattle.cyc_types.specs.Types.{Ty, ValueType, result_type}
use Rattle.cyc_types.specs.TypedTrees.{Program}
use Rattle.cyc_types.specs.Types as types
use Rattle.cyc_types.specs.typing.Scopes.{with_scope}
use Rattle.cyc_types.specs.typing.WellTyped.{LocalInScope, Context, IsLive, in_block, with_local, with_opened}
use Rattle.cyc_types.proofs.typing.FormedLemmas.{known_more}
use Rattle.cyc_soundness.specs.inside.Lives.{Life, OfRegion, Kept, Lives, at, lives_of, AllIn, AllInValue, IsKnown, IsOther, Owned}
use Rattle.cyc_soundness.specs.inside.Worlds.{Thing, KeyOf, PointerTo, Typing, IsKnownLife, IsOpenIn, lent_now, Outlasts, heap as for_ever, stays, encloses, whole, following, AgreesWith, IsNumber, IsKnownOwner}
use Rattle.cyc_soundness.specs.inside.Frames.{later, InScope, Variable, Level, Names, Instance, Home, life_named, is_live_named, lives_in, read_value, home_of, AreVariables}
use Rattle.cyc_soundness.specs.inside.Frames.{IsThereBy, IsThere, IsScope, IsLasting, IsLiveIn, AreLiveIn, Exits, AreNamed, Stand, IsHome, AreKnownLocals, AreKnown, IsContext}
use Rattle.cyc_soundness.specs.inside.Awaited.{IsNew}
use Rattle.cyc_soundness.proofs.types.TypeLemmas.{all_in_weaker, every_in, read_alike, value_alike}
use Rattle.cyc_soundness.proofs.types.ValueLemmas.{given_agree}

-- ---- lifetimes that have not ended

pub lasting_more : (n : ℕ) (ns : List ℕ) (l : Life) → IsLasting ns l → IsLasting (n ∷ ns) l
lasting_more n ns (OfRegion m ms us) (inl heap) = inl heap
lasting_more n ns (OfRegion m ms us) (inr end) = inr (following n ns end)
lasting_more n ns Owned is = absurd is
lasting_more n ns (Kept a) is = is

live_in_more : (n : ℕ) (ns : List ℕ) (b : InScope) → IsLiveIn ns b → IsLiveIn (n ∷ ns) b
live_in_more n ns (Variable b) is = lasting_more n ns b.life is
live_in_more n ns (Names number l live) is = λ e. lasting_more n ns l (is e)
live_in_more n ns (Instance these live) is = λ k e. lasting_more n ns (these k) (is k e)
live_in_more n ns b is = tt

pub live_more : (n : ℕ) (ns : List ℕ) (bs : List InScope) → AreLiveIn ns bs → AreLiveIn (n ∷ ns) bs
live_more n ns [] are = tt
live_more n ns (b ∷ bs) (is, are) = (live_in_more n ns b is, live_more n ns bs are)

named_either : (b : Bool) (ns : List ℕ) (l m : Life) (first second : Bool) → (first ≡ true → IsLasting ns l) → (second ≡ true → IsLasting ns m) → (if b then first else second) ≡ true
    → IsLasting ns (if b then l else m)
named_either true ns l m first second one two e = one e
named_either false ns l m first second one two e = two e

named_lasting : (ns : List ℕ) (bs : List InScope) (k : ℕ) → AreLiveIn ns bs → is_live_named bs k ≡ true → IsLasting ns (life_named bs k)
named_lasting ns [] k are live = inl refl
named_lasting ns (Variable b ∷ bs) k (is, are) live = named_lasting ns bs k are live
named_lasting ns (Level l ∷ bs) k (is, are) live = named_lasting ns bs k are live
named_lasting ns (Home region ∷ bs) k (is, are) live = named_lasting ns bs k are live
named_lasting ns (Instance these lives ∷ bs) k (is, are) live = is k live
named_lasting ns (Names number l alive ∷ bs) k (is, are) live = named_either (k == number) ns l (life_named bs k) alive (is_live_named bs k) is (λ e. named_lasting ns bs k are e) live

named_both : (g : Typing) (b : Bool) (l m : Life) → IsKnownLife g l → IsKnownLife g m → IsKnownLife g (if b then l else m)
named_both g true l m one two = one
named_both g false l m one two = two

pub name_known : (g : Typing) (bs : List InScope) (k : ℕ) → AreVariables g bs → IsKnownLife g (life_named bs k)
name_known g [] k are = tt
name_known g (Variable b ∷ bs) k (is, are) = name_known g bs k are
name_known g (Level l ∷ bs) k (is, are) = name_known g bs k are
name_known g (Home region ∷ bs) k (is, are) = name_known g bs k are
name_known g (Instance these lives ∷ bs) k (is, are) = (is k).0
name_known g (Names number l alive ∷ bs) k (is, are) = named_both g (k == number) l (life_named bs k) is.0 (name_known g bs k are)

open_either : (g : Typing) (b : Bool) (l m : Life) (first second : Bool) → (first ≡ true → IsOpenIn g l) → (second ≡ true → IsOpenIn g m) → (if b then first else second) ≡ true → IsOpenIn g (if b then l else m)
open_either g true l m first second one two e = one e
open_either g false l m first second one two e = two e

name_open : (g : Typing) (bs : List InScope) (k : ℕ) → AreVariables g bs → is_live_named bs k ≡ true → IsOpenIn g (life_named bs k)
name_open g [] k are live = λ r e. absurd (let z : false ≡ true = e in cc)
name_open g (Variable b ∷ bs) k (is, are) live = name_open g bs k are live
name_open g (Level l ∷ bs) k (is, are) live = name_open g bs k are live
name_open g (Home region ∷ bs) k (is, are) live = name_open g bs k are live
name_open g (Instance these lives ∷ bs) k (is, are) live = (is k).1 live
name_open g (Names number l alive ∷ bs) k (is, are) live = open_either g (k == number) l (life_named bs k) alive (is_live_named bs k) is.1 (λ e. name_open g bs k are e) live

-- A region that is live denotes an open lifetime.
pub there_open : (g : Typing) (bs : List InScope) (r : Region) → AreVariables g bs → IsThere bs r → IsOpenIn g (lives_in bs r)
there_open g bs regions.Heap are there = λ r e. absurd (let z : false ≡ true = e in cc)
there_open g bs regions.Unique are there = tt
there_open g bs (regions.Variable n) are there = name_open g bs n are there

-- a region other than the unique region denotes a lifetime that a region variable may denote
pub life_known : (g : Typing) (bs : List InScope) (r : Region) → r ≢ regions.Unique → AreVariables g bs → IsKnownLife g (lives_in bs r)
life_known g bs regions.Heap plain are = tt
life_known g bs regions.Unique plain are = absurd (plain refl)
life_known g bs (regions.Variable n) plain are = name_known g bs n are

pub owner_known : (g : Typing) (l : Life) → IsKnownLife g l → IsKnownOwner g l
owner_known g (OfRegion number ns us) is = tt
owner_known g (Kept (KeyOf region)) is = is
owner_known g (Kept (PointerTo object)) is = tt
owner_known g Owned is = tt

-- Every region, including the unique region, denotes a lifetime that an object may have.
pub region_owner : (g : Typing) (bs : List InScope) (r : Region) → AreVariables g bs → IsKnownOwner g (lives_in bs r)
region_owner g bs regions.Heap are = tt
region_owner g bs regions.Unique are = tt
region_owner g bs (regions.Variable n) are = owner_known g (life_named bs n) (name_known g bs n are)

-- A region that is live denotes a lifetime that has not ended.
pub there_lasting : (ns : List ℕ) (bs : List InScope) (r : Region) → AreLiveIn ns bs → r ≢ regions.Unique → IsThere bs r → IsLasting ns (lives_in bs r)
there_lasting ns bs regions.Heap are plain there = inl refl
there_lasting ns bs regions.Unique are plain there = absurd (plain refl)
there_lasting ns bs (regions.Variable n) are plain there = named_lasting ns bs n are there

pub lasts_around : (g : Typing) (ns : List ℕ) (n : ℕ) (l : Life) → IsLasting ns l → IsOpenIn g l → Outlasts l (OfRegion n ns (lent_now g))
lasts_around g ns n (OfRegion m ms us) (inl heap) opens = subst (λ l. Outlasts l (OfRegion n ns (lent_now g))) (sym heap) (for_ever (OfRegion n ns (lent_now g)))
lasts_around g ns n (OfRegion m ms us) (inr end) opens = encloses m n ms ns us (lent_now g) end opens
lasts_around g ns n Owned is opens = absurd is
lasts_around g ns n (Kept a) is opens = stays a n ns (lent_now g) opens

-- ---- names of regions

pub other_name : {A : Type 0} (number k : ℕ) (a b : A) → k ≢ number → (if k == number then a else b) ≡ b
other_name number k a b apart = ap (λ (z : Bool). if z then a else b) (false_from_ne_true (eqb k number) (λ h. apart (eqb-true k number h)))

pub same_name : {A : Type 0} (number : ℕ) (a b : A) → (if number == number then a else b) ≡ a
same_name number a b = ap (λ (z : Bool). if z then a else b) (eq-eqb number number refl)

pub known_other : (n : ℕ) (r : Region) → IsKnown n r → IsOther n r
known_other n regions.Heap known = tt
known_other n regions.Unique known = tt
known_other n (regions.Variable m) less = λ e. (let k : m ≡ n = e in absurd (omega (arith, less, k)))

-- Giving a region variable its lifetime does not change the lifetime of any other region.
pub other_life : (number : ℕ) (l : Life) (live : Bool) (bs : List InScope) (r : Region) → IsOther number r → lives_in bs r ≡ lives_in (Names number l live ∷ bs) r
other_life number l live bs regions.Heap other = refl
other_life number l live bs regions.Unique other = refl
other_life number l live bs (regions.Variable n) other = sym (other_name number n l (life_named bs n) other)

pub other_there : (number : ℕ) (l : Life) (alive : Bool) (bs : List InScope) (r : Region) → IsOther number r → IsThere bs r → IsThere (Names number l alive ∷ bs) r
other_there number l alive bs regions.Heap other there = tt
other_there number l alive bs regions.Unique other there = tt
other_there number l alive bs (regions.Variable n) other there = other_name number n alive (is_live_named bs n) other ∙ there

-- ---- opening a region

opened_there : (number : ℕ) (l : Life) (bs : List InScope) (r : Region) → regions.Variable number ≡ r → IsThere (Names number l true ∷ bs) r
opened_there number l bs r same = subst (λ z. IsThere (Names number l true ∷ bs) z) same (same_name number true (is_live_named bs number))

-- A region that outlives an opened region was live when this region was opened.
at_opening : (live : List Region) (opened : List Scope) (a b : Region) → IsLiveAtOpening live opened a b → Contains (live_regions live opened) a × Contains (live_regions live opened) b
at_opening live [] a b is = absurd is
at_opening live (s ∷ earlier) a b (inl (kind, same, plain, has)) =
    (Contains-tail s.region (live_regions live earlier) a has, (0, (let e : 0 < suc (length (live_regions live earlier)) = omega arith in e), sym same))
at_opening live (s ∷ earlier) a b (inr is) =
    let (one, two) = at_opening live earlier a b is in (Contains-tail s.region (live_regions live earlier) a one, Contains-tail s.region (live_regions live earlier) b two)

-- When a scope opens, no region except the unique one outlives the unique region.
opened_plain : (kind : Kind) (number : ℕ) (c : RegionContext) → ((a : Region) → IsGiven c a regions.Unique → ⊥) → (a : Region) → IsGiven (with_scope kind (regions.Variable number) c) a regions.Unique → ⊥
opened_plain kind number c plain a (inl (heap, other)) = other refl
opened_plain kind number c plain a (inr (inl written)) = plain a (inr (inl written))
opened_plain kind number c plain a (inr (inr (inl (outlived, new, other, has)))) = let e : regions.Unique ≡ regions.Variable number = new in absurd (cc)
opened_plain kind number c plain a (inr (inr (inr old))) = plain a (inr (inr old))

module _ (g : Typing) (kind : Kind) (number region : ℕ) (ns : List ℕ) (c : RegionContext) (bs : List InScope) (variables : AreVariables g bs) (outlived : is_outlived_by_live kind ≡ true) (live : AreLiveIn ns bs)
    (others : (r : Region) → Contains (live_regions c.live c.opened) r → IsOther number r) (pairs : (a b : Region) → Contains c.written (a, b) → IsOther number a × IsOther number b) where
  abbrev inner : List InScope
  inner = Names number (OfRegion region ns (lent_now g)) true ∷ bs

  pub stand_opened : Stand c bs → Stand (with_scope kind (regions.Variable number) c) inner
  stand_opened names = record { there = there; agrees = agrees; plain = opened_plain kind number c names.plain }
    where
      there : (r : Region) → Contains (regions.Variable number ∷ live_regions c.live c.opened) r → IsThere inner r
      there r has = elim (Contains-cons_cases (regions.Variable number) (live_regions c.live c.opened) r has) [
        | inl new ↦ opened_there number (OfRegion region ns (lent_now g)) bs r new
        | inr old ↦ other_there number (OfRegion region ns (lent_now g)) true bs r (others r old) (names.there r old)
      ]

      moved : (a b : Region) → IsOther number a → IsOther number b → Outlasts (lives_in bs a) (lives_in bs b) → Outlasts (lives_in inner a) (lives_in inner b)
      moved a b first second is =
          subst (λ l. Outlasts l (lives_in inner b)) (other_life number (OfRegion region ns (lent_now g)) true bs a first)
          (subst (λ l. Outlasts (lives_in bs a) l) (other_life number (OfRegion region ns (lent_now g)) true bs b second) is)

      agrees : (a b : Region) → IsGiven (with_scope kind (regions.Variable number) c) a b → Outlasts (lives_in inner a) (lives_in inner b)
      agrees a b (inl (heap, plain)) = subst (λ z. Outlasts (lives_in inner z) (lives_in inner b)) (sym heap) (for_ever (lives_in inner b))
      agrees a b (inr (inl written)) = let (one, two) = pairs a b written in moved a b one two (names.agrees a b (inr (inl written)))
      agrees a b (inr (inr (inl (kind', new, plain, has)))) =
          subst (λ z. Outlasts (lives_in inner a) (lives_in inner z)) (sym new)
          (subst (λ l. Outlasts (lives_in inner a) l) (sym (same_name number (OfRegion region ns (lent_now g)) (life_named bs number)))
          (subst (λ l. Outlasts l (OfRegion region ns (lent_now g))) (other_life number (OfRegion region ns (lent_now g)) true bs a (others a has))
          (lasts_around g ns region (lives_in bs a) (there_lasting ns bs a live plain (names.there a has)) (there_open g bs a variables (names.there a has)))))
      agrees a b (inr (inr (inr old))) =
          let (one, two) = at_opening c.live c.opened a b old in moved a b (others a one) (others b two) (names.agrees a b (inr (inr old)))

-- ---- one more named region; known regions keep their lifetimes

module _ (number : ℕ) (l : Life) (alive : Bool) (c : RegionContext) (bs : List InScope) (Q : Region → Type 0) (same : (r : Region) → Q r → lives_in bs r ≡ lives_in (Names number l alive ∷ bs) r)
    (still : (r : Region) → Q r → IsThere bs r → IsThere (Names number l alive ∷ bs) r)
    (others : (r : Region) → Contains (live_regions c.live c.opened) r → Q r) (pairs : (a b : Region) → Contains c.written (a, b) → Q a × Q b) where
  abbrev named_too : List InScope
  named_too = Names number l alive ∷ bs

  pub renamed : Stand c bs → Stand c named_too
  renamed names = record { there = λ r has. still r (others r has) (names.there r has); agrees = agrees; plain = names.plain }
    where
      moved : (a b : Region) → Q a → Q b → Outlasts (lives_in bs a) (lives_in bs b) → Outlasts (lives_in named_too a) (lives_in named_too b)
      moved a b first second is = subst (λ k. Outlasts k (lives_in named_too b)) (same a first) (subst (λ k. Outlasts (lives_in bs a) k) (same b second) is)

      agrees : (a b : Region) → IsGiven c a b → Outlasts (lives_in named_too a) (lives_in named_too b)
      agrees a b (inl (heap, plain)) = subst (λ z. Outlasts (lives_in named_too z) (lives_in named_too b)) (sym heap) (for_ever (lives_in named_too b))
      agrees a b (inr (inl written)) = let (one, two) = pairs a b written in moved a b one two (names.agrees a b (inr (inl written)))
      agrees a b (inr (inr old)) = let (one, two) = at_opening c.live c.opened a b old in moved a b (others a one) (others b two) (names.agrees a b (inr (inr old)))

-- The scope of an alias or of an opened key has a region that was opened before the scope.
pub also_opened : (kind : Kind) (number : ℕ) (c : RegionContext) (these : ℕ → Life) (live : ℕ → Bool) → is_outlived_by_live kind ≡ false → live number ≡ true → AreNamed c these live
    → AreNamed (with_scope kind (regions.Variable number) c) these live
also_opened kind number c these live older alive names = record { there = there; agrees = agrees; plain = opened_plain kind number c names.plain }
  where
    there : (r : Region) → Contains (regions.Variable number ∷ live_regions c.live c.opened) r → IsThereBy live r
    there r has = elim (Contains-cons_cases (regions.Variable number) (live_regions c.live c.opened) r has) [
      | inl new ↦ subst (λ z. IsThereBy live z) new alive
      | inr old ↦ names.there r old
    ]

    agrees : (a b : Region) → IsGiven (with_scope kind (regions.Variable number) c) a b → Outlasts (lives_of these a) (lives_of these b)
    agrees a b (inl heap) = names.agrees a b (inl heap)
    agrees a b (inr (inl written)) = names.agrees a b (inr (inl written))
    agrees a b (inr (inr (inl (outlived, new, plain, has)))) = absurd (let z : true ≡ false = sym outlived ∙ older in cc)
    agrees a b (inr (inr (inr old))) = names.agrees a b (inr (inr old))

-- If a region variable gets, a second time, the lifetime that it already has in a scope, then the lifetime of every region stays unchanged.
pub again_life : (number : ℕ) (bs : List InScope) (r : Region) → lives_in bs r ≡ lives_in (Names number (life_named bs number) true ∷ bs) r
again_life number bs regions.Heap = refl
again_life number bs regions.Unique = refl
again_life number bs (regions.Variable n) = go (n == number) refl
  where
    go : (b : Bool) → (n == number) ≡ b → life_named bs n ≡ (if b then life_named bs number else life_named bs n)
    go true same = ap (λ i. life_named bs i) (eqb-true n number same)
    go false other = refl

pub again_there : (number : ℕ) (l : Life) (bs : List InScope) (r : Region) → IsThere bs r → IsThere (Names number l true ∷ bs) r
again_there number l bs regions.Heap there = tt
again_there number l bs regions.Unique there = tt
again_there number l bs (regions.Variable n) there = go (n == number)
  where
    go : (b : Bool) → (if b then true else is_live_named bs n) ≡ true
    go true = refl
    go false = there

-- ---- facts about other regions

pub in_value : (P Q : Region → Type 0) → ((r : Region) → P r → Q r) → (v : ValueType) → AllInValue P v → AllInValue Q v
in_value P Q so types.Void all = tt
in_value P Q so types.Null all = tt
in_value P Q so (types.Value t) all = all_in_weaker P Q so t all

pub every_value : (P : Region → Type 0) → ((r : Region) → P r) → (v : ValueType) → AllInValue P v
every_value P so types.Void = tt
every_value P so types.Null = tt
every_value P so (types.Value t) = every_in P so t

pub others_value : (n : ℕ) (c : RegionContext) (vs : List LocalInScope) (result : Option Ty) → AreKnown n c vs result → AllInValue (IsOther n) (result_type result)
others_value n c vs result known = in_value (IsKnown n) (IsOther n) (known_other n) (result_type result) known.gives

abbrev AreOthers : ℕ → List LocalInScope → Type 0
AreOthers n [] = Unit {0}
AreOthers n (v ∷ vs) = (AllIn (IsOther n) v.of_type × IsOther n (regions.Variable v.region)) × AreOthers n vs

pub known_others : (n : ℕ) (vs : List LocalInScope) → AreKnownLocals n vs → AreOthers n vs
known_others n [] known = tt
known_others n (v ∷ vs) ((of_type, region), known) = ((all_in_weaker (IsKnown n) (IsOther n) (known_other n) v.of_type of_type, known_other n (regions.Variable v.region) region), known_others n vs known)

-- A scope stays valid if the regions in its entries keep their lifetimes.
pub scope_kept : (n : ℕ) (j k : Lives) (vs : List LocalInScope) (bs : List InScope) → ((r : Region) → IsOther n r → j r ≡ k r) → AreOthers n vs → IsScope j vs bs → IsScope k vs bs
scope_kept n j k vs [] same others is = is
scope_kept n j k vs (Variable b ∷ bs) same others (rest, (v, vs_are, number, of_type, hidden, homed), is) =
    let ((in_type, home), more) = subst (λ us. AreOthers n us) vs_are others in
    let kept : at k v.of_type ≡ b.of_type = sym (read_alike j k v.of_type (all_in_weaker (IsOther n) (λ r. j r ≡ k r) same v.of_type in_type)) ∙ of_type in
    (rest, (v, vs_are, number, kept, hidden, homed ∙ same (regions.Variable v.region) home), scope_kept n j k rest bs same more is)
scope_kept n j k vs (b ∷ bs) same others (rest, vs_are, is) = (rest, vs_are, scope_kept n j k rest bs same (subst (λ us. AreOthers n us) vs_are others) is)

-- ---- more regions are known

known_locals_more : (n m : ℕ) (vs : List LocalInScope) → n ≤ m → AreKnownLocals n vs → AreKnownLocals m vs
known_locals_more n m [] most known = tt
known_locals_more n m (v ∷ vs) most ((of_type, region), known) =
    ((all_in_weaker (IsKnown n) (IsKnown m) (λ r k. known_more n m r most k) v.of_type of_type, (let e : v.region < m = omega (arith, region, most) in e)), known_locals_more n m vs most known)

pub known_after : (n k : ℕ) (c : RegionContext) (vs : List LocalInScope) (result : Option Ty) → n ≤ k → AreKnown n c vs result → AreKnown k c vs result
known_after n k c vs result most known = record {
  live = λ r has. known_more n k r most (known.live r has);
  pairs = λ a b has. (known_more n k a most (known.pairs a b has).0, known_more n k b most (known.pairs a b has).1);
  locals = known_locals_more n k vs most known.locals;
  gives = in_value (IsKnown n) (IsKnown k) (λ r is. known_more n k r most is) (result_type result) known.gives;
}

pub known_opened : (n : ℕ) (kind : Kind) (c : RegionContext) (vs : List LocalInScope) (result : Option Ty) → AreKnown n c vs result
    → AreKnown (suc n) (with_scope kind (regions.Variable n) c) vs result
known_opened n kind c vs result known = record {
  live = live;
  pairs = λ a b has. (known_more n (suc n) a most (known.pairs a b has).0, known_more n (suc n) b most (known.pairs a b has).1);
  locals = known_locals_more n (suc n) vs most known.locals;
  gives = in_value (IsKnown n) (IsKnown (suc n)) (λ r is. known_more n (suc n) r most is) (result_type result) known.gives;
}
  where
    most : n ≤ suc n
    most = omega arith

    live : (r : Region) → Contains (regions.Variable n ∷ live_regions c.live c.opened) r → IsKnown (suc n) r
    live r has = elim (Contains-cons_cases (regions.Variable n) (live_regions c.live c.opened) r has) [
      | inl new ↦ subst (λ z. IsKnown (suc n) z) new (let e : n < suc n = omega arith in e)
      | inr old ↦ known_more n (suc n) r most (known.live r old)
    ]

pub known_local : (c : Context) (b : Bool) (t : Ty) → AreKnown c.next_region c.regions c.locals c.result → IsNew c t
    → AreKnown c.next_region c.regions (with_local b t c).locals c.result
known_local c b t known (declared, live) = record {
  live = known.live;
  pairs = known.pairs;
  locals = ((declared, known.live (regions.Variable c.region) live), known.locals);
  gives = known.gives;
}

-- ---- opening a region in a context

pub known_live : (n : ℕ) (c : RegionContext) (vs : List LocalInScope) (result : Option Ty) → AreKnown n c vs result → (r : Region) → Contains (live_regions c.live c.opened) r → IsOther n r
known_live n c vs result known r has = known_other n r (known.live r has)

pub known_pairs : (n : ℕ) (c : RegionContext) (vs : List LocalInScope) (result : Option Ty) → AreKnown n c vs result → (a b : Region) → Contains c.written (a, b) → IsOther n a × IsOther n b
known_pairs n c vs result known a b has = (known_other n a (known.pairs a b has).0, known_other n b (known.pairs a b has).1)

pub opened_lasting : (region : ℕ) (ns : List ℕ) (us : Thing → Bool) → IsLasting (region ∷ ns) (OfRegion region ns us)
opened_lasting region ns us = inr whole

pub opened_known : (g : Typing) (region : ℕ) (ns : List ℕ) → IsKnownLife g (OfRegion region ns (lent_now g)) × (true ≡ true → IsOpenIn g (OfRegion region ns (lent_now g)))
opened_known g region ns = (tt, λ e r is. is)

pub new_home : (number region : ℕ) (ns : List ℕ) (us : Thing → Bool) (bs : List InScope) → IsHome number (Home region ∷ Names number (OfRegion region ns us) true ∷ bs)
new_home number region ns us bs =
    (subst (λ l. IsNumber l region) (sym (same_name number (OfRegion region ns us) (life_named bs number))) refl, same_name number true (is_live_named bs number))

same_home : (number region : ℕ) (ns : List ℕ) (us : Thing → Bool) (c : Context) (bs : List InScope) → (AreKnown c.next_region c.regions c.locals c.result) → number ≡ c.next_region → IsLive c (regions.Variable c.region)
    → IsHome c.region bs → IsHome c.region (Names number (OfRegion region ns us) true ∷ bs)
same_home number region ns us c bs known same live (at_home, there) =
    let less : c.region < c.next_region = known.live (regions.Variable c.region) live in
    let apart : c.region ≢ number = (λ e. (let k : c.region ≡ number = e in absurd (omega (arith, less, k, same)))) in (
      subst (λ l. IsNumber l (home_of bs)) (sym (other_name number c.region (OfRegion region ns us) (life_named bs c.region) apart)) at_home,
      other_name number c.region true (is_live_named bs c.region) apart ∙ there,
    )

module _ (p : Program) (x : Exits) (bs : List InScope) (c : Context) (stands : IsContext p x bs c) where
  -- a live region's lifetime has not ended
  pub there_of : (r : Region) → IsLive c r → IsThere bs r
  there_of r live = stands.regions.there r live

  pub agrees_of : AgreesWith c.regions (lives_in bs)
  agrees_of = given_agree c.regions (lives_in bs) stands.regions.agrees

  module _ (g : Typing) (variables : AreVariables g bs) (region : ℕ) (ns : List ℕ) (live : AreLiveIn ns bs) where
    abbrev here : List InScope
    here = Names c.next_region (OfRegion region ns (lent_now g)) true ∷ bs

    same_here : (r : Region) → IsOther c.next_region r → lives_in bs r ≡ lives_in here r
    same_here r other = other_life c.next_region (OfRegion region ns (lent_now g)) true bs r other

    gives_here : read_value here (result_type c.result) ≡ x.gives
    gives_here = sym (value_alike (lives_in bs) (lives_in here) (result_type c.result)
        (in_value (IsOther c.next_region) (λ r. lives_in bs r ≡ lives_in here r) same_here (result_type c.result)
        (others_value c.next_region c.regions c.locals c.result stands.known))) ∙ stands.gives

    scope_here : IsScope (lives_in here) c.locals bs
    scope_here = scope_kept c.next_region (lives_in bs) (lives_in here) c.locals bs same_here (known_others c.next_region c.locals stands.known.locals) stands.scope

    stand_here : (kind : Kind) → is_outlived_by_live kind ≡ true → Stand (with_scope kind (regions.Variable c.next_region) c.regions) here
    stand_here kind outlived = stand_opened g kind c.next_region region ns c.regions bs variables outlived live
        (known_live c.next_region c.regions c.locals c.result stands.known) (known_pairs c.next_region c.regions c.locals c.result stands.known) stands.regions

    -- The typing context inside a block.
    pub context_inside : IsContext p x (Home region ∷ here) (in_block c)
    context_inside = record {
      globals = stands.globals;
      functions = stands.functions;
      structs = stands.structs;
      result = stands.result;
      gives = gives_here;
      loop = stands.loop;
      scope = (c.locals, refl, (c.locals, refl, scope_here));
      below = (tt, (tt, stands.below));
      counters = λ l less. later (Home region) here (later (Names c.next_region (OfRegion region ns (lent_now g)) true) bs (stands.counters l less));
      known = known_opened c.next_region scopes.Block c.regions c.locals c.result stands.known;
      regions = stand_here scopes.Block refl;
      home = new_home c.next_region region ns (lent_now g) bs;
    }

    -- The typing context after a lexical region is opened.
    pub context_lexical : IsLive c (regions.Variable c.region) → IsContext p x here (with_opened scopes.Lexical c)
    context_lexical alive = record {
      globals = stands.globals;
      functions = stands.functions;
      structs = stands.structs;
      result = stands.result;
      gives = gives_here;
      loop = stands.loop;
      scope = (c.locals, refl, scope_here);
      below = (tt, stands.below);
      counters = λ l less. later (Names c.next_region (OfRegion region ns (lent_now g)) true) bs (stands.counters l less);
      known = known_opened c.next_region scopes.Lexical c.regions c.locals c.result stands.known;
      regions = stand_here scopes.Lexical refl;
      home = same_home c.next_region region ns (lent_now g) c bs stands.known refl alive stands.home;
    }
