-- If an access has read a local without moving its value (a peek), then no expression moves the local before the read value is used.
use Rattle.std.proofs.Common.{◌≡◌, ◌≢◌, ℕ, zero, suc, true, false, not, List, [], ◌∷◌, ◌++◌, Option, Some, None, refl, sym, ap, ◌∙◌, eqb}
use Rattle.std.specs.Prelude.{get_or, nat_eq}
use Rattle.std.specs.List.{list_any}
use Rattle.std.proofs.lemmas.Bool.{eq-eqb, and_parts}
use Rattle.cyc_words.proofs.Booleans.{not_or_parts}
use Rattle.cyc_types.specs.TypedTrees.{Local, Global, Expression, Number, NullPointer, HeapRegion, Counter, Copy, Move, Peek, Load, AddressOf, AddressOfCell, NumberOfElements, FreeUnique, FreeKey, Call}
use Rattle.cyc_types.specs.TypedTrees.{Unary, Binary, Assign, Store, New, Dereference, Target, Member, Element, Placement, OnHeap, AsUnique, ByHandle, Initial, Plain, Fields, Array, Converted, Convert}
use Rattle.cyc_types.specs.TypedTrees.{Arguments, NoArguments, MoreArguments, Operations, NoOperations, ThenCompute, ThenTest, ThenPointer, ThenPointerPeek, Lvalue, Side, VariableSide, CellSide, peeked}
use Rattle.cyc_types.specs.Types.{ValueType, Void, Null, Value}
use Rattle.cyc_types.specs.Rules.{Derives}
use Rattle.cyc_types.specs.flow.States as flow
use Rattle.cyc_types.specs.flow.States.{Vacant, Full, Unreached, Reached, is_reached, meet, with_fullness, is_locked, fullness}
use Rattle.cyc_types.specs.flow.Expressions.{is_free, stored, and_peeked, peek_of, peek_after, rule, rule_place, rule_placement, rule_initial, rule_converted, rule_arguments, rule_operations}
use Rattle.cyc_types.specs.flow.Statements.{rule_side}
use Rattle.cyc_soundness.specs.inside.Worlds.{IsAmong, first, later}
use Rattle.cyc_soundness.specs.inside.Classes.{is_full, Relied, only, and_looked, InExpression, InPlace, InPlacement, InInitial, InConverted, InArguments, InOperations, InSide, SparesAssigned}
use Rattle.cyc_soundness.proofs.flow.FlowLemmas.{before_last, at_last, meet_first, reached_with}

-- ---- a local without a pending peek differs from the peeked one

free_other : (n m : ℕ) (w : List ℕ) → IsAmong n w → not (list_any (λ k. nat_eq k m) w) ≡ true → n ≢ m
free_other n m w (first as') e = λ same. (let k : not (eqb n m) ≡ true = (not_or_parts (nat_eq n m) (list_any (λ k. nat_eq k m) as') e).0 in
    let z : eqb n m ≡ true = eq-eqb n m same in let y : false ≡ true = sym (ap (λ b. not b) z) ∙ k in absurd (cc))
free_other n m w (later b as' is) e = free_other n m as' is (not_or_parts (nat_eq b m) (list_any (λ k. nat_eq k m) as') e).1

pub only_other : (n m : ℕ) → n ≢ m → is_full (get_or (only n) m Vacant) ≡ false
only_other zero zero apart = absurd (apart refl)
only_other zero (suc m) apart = refl
only_other (suc n) zero apart = refl
only_other (suc n) (suc m) apart = only_other n m (λ same. apart (ap suc same))

free_spared : (n m : ℕ) (w : List ℕ) (f : flow.State) → IsAmong n w → is_reached f ≡ true → is_free w m f ≡ true → is_full (get_or (only n) m Vacant) ≡ false
free_spared n m w Unreached among reached e = absurd (let k : false ≡ true = reached in cc)
free_spared n m w (Reached as') among reached e = only_other n m (free_other n m w among e)

still_reached : (f h : flow.State) → h ≡ f → is_reached f ≡ true → is_reached h ≡ true
still_reached f h same reached = ap is_reached same ∙ reached

among_peeked : (n : ℕ) (o : Option ℕ) (w : List ℕ) → IsAmong n w → IsAmong n (and_peeked o w)
among_peeked n None w is = is
among_peeked n (Some m) w is = before_last n m w is

-- ---- expressions evaluated while a peek is pending

module _ (q : Relied) (n : ℕ) where
  abbrev looking : Relied
  looking = Reached (only n) ∷ q

  stored_reached : (w : List ℕ) (l : Lvalue) (f h : flow.State) → is_reached f ≡ true → Derives (stored w l f) h → is_reached h ≡ true
  stored_reached w (Local p k) f h reached (demands, same) = still_reached (with_fullness Full f k) h same (reached_with Full f k reached)
  stored_reached w (Global k) f h reached (unit, same) = still_reached f h same reached

  stored_spared : (w : List ℕ) (l : Lvalue) (t : ValueType) (f h : flow.State) → IsAmong n w → is_reached f ≡ true → Derives (stored w l f) h → SparesAssigned q l t → SparesAssigned looking l t
  stored_spared w (Local p k) Void f h among reached (demands, same) kept = (free_spared n k w f among reached (and_parts (not (is_locked (fullness f k))) (is_free w k f) demands.0).1, kept)
  stored_spared w (Local p k) Null f h among reached flows kept = tt
  stored_spared w (Local p k) (Value t) f h among reached flows kept = tt
  stored_spared w (Global k) t f h among reached flows kept = tt

  mutual
    looks_expression : (a : Expression) (w : List ℕ) (f h : flow.State) → IsAmong n w → is_reached f ≡ true → Derives (rule w a f) h → InExpression q a → InExpression looking a × (is_reached h ≡ true)
    looks_expression (Number k) w f h among reached (unit, same) kept = (kept, still_reached f h same reached)
    looks_expression NullPointer w f h among reached (unit, same) kept = (kept, still_reached f h same reached)
    looks_expression HeapRegion w f h among reached (unit, same) kept = (kept, still_reached f h same reached)
    looks_expression (Counter l) w f h among reached (unit, same) kept = (kept, still_reached f h same reached)
    looks_expression (Copy (Local p k) t) w f h among reached (demands, same) kept = (kept, still_reached f h same reached)
    looks_expression (Copy (Global k) t) w f h among reached (unit, same) kept = (kept, still_reached f h same reached)
    looks_expression (Move p k t) w f h among reached (demands, same) kept =
        ((free_spared n k w f among reached demands.1.1.0, kept), still_reached (with_fullness Vacant f k) h same (reached_with Vacant f k reached))
    looks_expression (Peek p k t) w f h among reached (demands, same) kept = (kept, still_reached f h same reached)
    looks_expression (Load d) w f h among reached flows kept = looks_place d w f h among reached flows kept
    looks_expression (AddressOf (Local p k) t) w f h among reached (demands, same) kept = (kept, still_reached f h same reached)
    looks_expression (AddressOf (Global k) t) w f h among reached (unit, same) kept = (kept, still_reached f h same reached)
    looks_expression (AddressOfCell d t) w f h among reached flows kept = looks_place d w f h among reached flows kept
    looks_expression (NumberOfElements a) w f h among reached flows kept = looks_expression a w f h among reached flows kept
    looks_expression (FreeUnique a) w f h among reached flows kept = looks_expression a w f h among reached flows kept
    looks_expression (FreeKey a) w f h among reached flows kept = looks_expression a w f h among reached flows kept
    looks_expression (Call g as' t) w f h among reached flows kept = looks_arguments as' w f h among reached flows kept
    looks_expression (Unary o a) w f h among reached flows kept = looks_expression a w f h among reached flows kept
    looks_expression (Binary a os t) w f h among reached (g, d, ds) (one, kept) =
        let (is, still) = looks_expression a w f g among reached d one in
        let (are, end) = looks_operations os w g h among still ds kept in ((is, are), end)
    looks_expression (Assign l c t) w f h among reached (g, d, own) (one, kept) =
        let (is, still) = looks_converted c w f g among reached d kept in ((stored_spared w l t g h among still own one, is), stored_reached w l g h still own)
    looks_expression (Store d c t) w f h among reached (g, dp, dc) (one, kept) =
        let (is, still) = looks_place d w f g among reached dp one in
        let (are, end) = looks_converted c (and_peeked (peek_after d) w) g h (among_peeked n (peek_after d) w among) still dc kept in ((is, are), end)
    looks_expression (New p i t) w f h among reached (g, d, ds) (one, kept) =
        let (is, still) = looks_placement p w f g among reached d one in
        let (are, end) = looks_initial i w g h among still ds kept in ((is, are), end)

    looks_place : (d : Dereference) (w : List ℕ) (f h : flow.State) → IsAmong n w → is_reached f ≡ true → Derives (rule_place w d f) h → InPlace q d → InPlace looking d × (is_reached h ≡ true)
    looks_place (Target k a t) w f h among reached flows kept = looks_expression a w f h among reached flows kept
    looks_place (Member k a s l t) w f h among reached flows kept = looks_expression a w f h among reached flows kept
    looks_place (Element a i t) w f h among reached (g, d, ds) (one, kept) =
        let (is, still) = looks_expression a w f g among reached d one in
        let (are, end) = looks_expression i (and_peeked (peek_of a) w) g h (among_peeked n (peek_of a) w among) still ds kept in ((is, are), end)

    looks_placement : (p : Placement) (w : List ℕ) (f h : flow.State) → IsAmong n w → is_reached f ≡ true → Derives (rule_placement w p f) h → InPlacement q p → InPlacement looking p × (is_reached h ≡ true)
    looks_placement OnHeap w f h among reached (unit, same) kept = (kept, still_reached f h same reached)
    looks_placement AsUnique w f h among reached (unit, same) kept = (kept, still_reached f h same reached)
    looks_placement (ByHandle a) w f h among reached flows kept = looks_expression a w f h among reached flows kept

    looks_initial : (i : Initial) (w : List ℕ) (f h : flow.State) → IsAmong n w → is_reached f ≡ true → Derives (rule_initial w i f) h → InInitial q i → InInitial looking i × (is_reached h ≡ true)
    looks_initial (Plain k a) w f h among reached flows kept = looks_expression a w f h among reached flows kept
    looks_initial (Fields as') w f h among reached flows kept = looks_arguments as' w f h among reached flows kept
    looks_initial (Array p l c k a) w f h among reached (g, d, (g2, ds, (demands, same))) (one, kept) =
        let (is, still) = looks_expression c w f g among reached d one in
        let (are, end) = looks_expression a w g g2 among still ds kept in ((is, are), still_reached g h same still)

    looks_converted : (c : Converted) (w : List ℕ) (f h : flow.State) → IsAmong n w → is_reached f ≡ true → Derives (rule_converted w c f) h → InConverted q c → InConverted looking c × (is_reached h ≡ true)
    looks_converted (Convert from to a) w f h among reached flows kept = looks_expression a w f h among reached flows kept

    looks_arguments : (as' : Arguments) (w : List ℕ) (f h : flow.State) → IsAmong n w → is_reached f ≡ true → Derives (rule_arguments w as' f) h → InArguments q as' → InArguments looking as' × (is_reached h ≡ true)
    looks_arguments NoArguments w f h among reached (unit, same) kept = (kept, still_reached f h same reached)
    looks_arguments (MoreArguments c as') w f h among reached (g, d, ds) (one, kept) =
        let (is, still) = looks_converted c w f g among reached d one in
        let (are, end) = looks_arguments as' w g h among still ds kept in ((is, are), end)

    looks_operations : (os : Operations) (w : List ℕ) (f h : flow.State) → IsAmong n w → is_reached f ≡ true → Derives (rule_operations w os f) h → InOperations q os → InOperations looking os × (is_reached h ≡ true)
    looks_operations NoOperations w f h among reached (unit, same) kept = (kept, still_reached f h same reached)
    looks_operations (ThenCompute o a os) w f h among reached (g, d, ds) (one, kept) =
        let (is, still) = looks_expression a w f g among reached d one in
        let (are, end) = looks_operations os w g h among still ds kept in ((is, are), end)
    looks_operations (ThenTest o a os) w f h among reached (g, d, ds) (one, kept) =
        let (is, still) = looks_expression a w f g among reached d one in
        let (are, end) = looks_operations os w (meet f g) h among ((meet_first f g).reached reached) ds kept in ((is, are), end)
    looks_operations (ThenPointer o a os) w f h among reached (g, d, ds) (one, kept) =
        let (is, still) = looks_expression a w f g among reached d one in
        let (are, end) = looks_operations os w g h among still ds kept in ((is, are), end)
    looks_operations (ThenPointerPeek l o a os) w f h among reached (g, d, ds) (one, kept) =
        let (is, still) = looks_expression a (and_peeked (Some l) w) f g (before_last n l w among) reached d one in
        let (are, end) = looks_operations os w g h among still ds kept in ((is, are), end)

-- ---- the start of a peek

pub looked_expression : (q : Relied) (peek : Option ℕ) (a : Expression) (w : List ℕ) (f h : flow.State) → is_reached f ≡ true → Derives (rule (and_peeked peek w) a f) h → InExpression q a → InExpression (and_looked peek q) a
looked_expression q None a w f h reached flows kept = kept
looked_expression q (Some n) a w f h reached flows kept = (looks_expression q n a (w ++ n ∷ []) f h (at_last n n w refl) reached flows kept).0

pub looked_converted : (q : Relied) (peek : Option ℕ) (c : Converted) (w : List ℕ) (f h : flow.State) → is_reached f ≡ true → Derives (rule_converted (and_peeked peek w) c f) h → InConverted q c → InConverted (and_looked peek q) c
looked_converted q None c w f h reached flows kept = kept
looked_converted q (Some n) c w f h reached flows kept = (looks_converted q n c (w ++ n ∷ []) f h (at_last n n w refl) reached flows kept).0

pub looked_side : (q : Relied) (peek : Option ℕ) (y : Side) (w : List ℕ) (f h : flow.State) → is_reached f ≡ true → Derives (rule_side (and_peeked peek w) y f) h → InSide q y → InSide (and_looked peek q) y
looked_side q None y w f h reached flows kept = kept
looked_side q (Some n) (VariableSide l t) w f h reached flows kept = kept
looked_side q (Some n) (CellSide d) w f h reached flows kept = (looks_place q n d (w ++ n ∷ []) f h (at_last n n w refl) reached flows kept).0

-- The semantics and the flow rules agree on the local that a memory access reads without moving its value (peeks at).
pub peeked_so : (d : Dereference) → peeked d ≡ peek_after d
peeked_so (Target k (Peek p n u) t) = refl
peeked_so (Target k a t) = refl
peeked_so (Member k (Peek p n u) s l t) = refl
peeked_so (Member k a s l t) = refl
peeked_so (Element (Peek p n u) i t) = refl
peeked_so (Element a i t) = refl
