-- A typing or flow rule has three readings that agree: the values that it derives, the faults with which it rejects, and the
-- checker's result. The values that a rule derives and the faults with which it rejects are exactly the results of the checker.
use Rattle.std.proofs.Common.{◌≡◌, ℕ, ◌<◌, ◌≤◌, Bool, true, false, cond, nat_lt, ◌⊎◌, List, [], ◌∷◌, ◌++◌, Option, Some, None, Ok, Err, inl, inr, refl, sym, ap, subst, ◌∙◌, arith}
use Rattle.std.proofs.lemmas.Bool.{ltb-false}
use Rattle.cyc_words.specs.declared.fault.Fault.{Fault}
use Rattle.cyc_words.specs.Fault.{number_of}
use Rattle.cyc_words.proofs.Decisions.{IsDecided}
use Rattle.cyc_words.proofs.Numbers.{lt-nat_lt, le-nat_lt, nat_lt-true}
use Rattle.cyc_types.specs.Rules.{Checked, and_then, Demand, fault_of, AllKept, AreAbove, AreNotBelow, IsFaultOf, lesser, noted, settled, Rule, Refused, Own, Part, Derives, Refuses, unless, run}

-- ---- results of the checker

pub then_on : {A B : Type 0} {r : Checked A} {a : A} {x : Checked B} (next : A → Checked B) → r ≡ Ok a → next a ≡ x → and_then r next ≡ x
then_on {x = x} next h k = subst (λ s. and_then s next ≡ x) (sym h) k

pub then_err : {A B : Type 0} {r : Checked A} {f : Fault} (next : A → Checked B) → r ≡ Err f → and_then r next ≡ Err f
then_err {f = f} next h = subst (λ s. and_then s next ≡ Err f) (sym h) refl

pub from_ok : {A : Type 0} (a b : A) → ◌≡◌ {A = Checked A} (Ok a) (Ok b) → a ≡ b
from_ok a b e = ap (λ (r : Checked _). elim r [ Ok x ↦ x | Err f ↦ a ]) e

pub from_err : (f g : Fault) {A : Type 0} → ◌≡◌ {A = Checked A} (Err f) (Err g) → f ≡ g
from_err f g {A} e = ap (λ (r : Checked A). elim r [ Ok x ↦ f | Err h ↦ h ]) e

pub ok_is_no_err : {A : Type 0} (a : A) (f : Fault) → ◌≡◌ {A = Checked A} (Ok a) (Err f) → ⊥
ok_is_no_err a f e = absurd (cc)

-- says that a checker's result is correct: a success satisfies the predicate `holds`, and a fault satisfies the predicate `fails`
pub data Judges {A : Type 0} (holds : A → Type 0) (fails : Fault → Type 0) : Checked A → Type 0 where
  good : {a : A} → holds a → Judges holds fails (Ok a)
  bad : {f : Fault} → fails f → Judges holds fails (Err f)

pub mapped : {A : Type 0} {P R : A → Type 0} {Q S : Fault → Type 0} {r : Checked A} → Judges P Q r → ((a : A) → P a → R a) → ((f : Fault) → Q f → S f) → Judges R S r
mapped (good {a} h) gain lose = good (gain a h)
mapped (bad {f} h) gain lose = bad (lose f h)

pub chained : {A B : Type 0} {P : A → Type 0} {R : B → Type 0} {Q S : Fault → Type 0} {r : Checked A} (next : A → Checked B) → Judges P Q r
    → ((f : Fault) → Q f → S f) → ((a : A) → P a → Judges R S (next a)) → Judges R S (and_then r next)
chained next (good {a} h) lose gain = gain a h
chained next (bad {f} h) lose gain = bad (lose f h)

-- ---- satisfied demands

pub kept_settled : (known : Option Fault) (ds : List Demand) → AllKept ds → settled known ds ≡ known
kept_settled known [] h = refl
kept_settled known (d ∷ ds) (k, h) = ap (λ b. settled (cond b known (lesser known (fault_of d))) ds) k ∙ kept_settled known ds h

pub settled_append : (known : Option Fault) (ds es : List Demand) → settled known (ds ++ es) ≡ settled (settled known ds) es
settled_append known [] es = refl
settled_append known (d ∷ ds) es = settled_append (noted known d) ds es

-- ---- the fault of a list of demands is the result of folding over them

abbrev IsHigher : ℕ → Option Fault → Type 0
IsHigher n None = Unit {0}
IsHigher n (Some f) = n < number_of f.code

higher : (n : ℕ) (known : Option Fault) (f : Fault) → IsHigher n known → n < number_of f.code → IsHigher n (lesser known f)
higher n None f h l = l
higher n (Some e) f h l = by_test (nat_lt (number_of f.code) (number_of e.code))
  where
    by_test : (b : Bool) → IsHigher n (cond b (Some f) (Some e))
    by_test true = l
    by_test false = h

noted_higher : (n : ℕ) (known : Option Fault) (d : Demand) → IsHigher n known → (d.kept ≡ true) ⊎ (n < number_of d.code) → IsHigher n (noted known d)
noted_higher n known d h (inl k) = subst (λ b. IsHigher n (cond b known (lesser known (fault_of d)))) (sym k) h
noted_higher n known d h (inr l) = by_test d.kept
  where
    by_test : (b : Bool) → IsHigher n (cond b known (lesser known (fault_of d)))
    by_test true = h
    by_test false = higher n known (fault_of d) h l

before_settled : (n : ℕ) (known : Option Fault) (ds : List Demand) → IsHigher n known → AreAbove n ds → IsHigher n (settled known ds)
before_settled n known [] h above = h
before_settled n known (d ∷ ds) h (a, above) = before_settled n (noted known d) ds (noted_higher n known d h a) above

takes : (known : Option Fault) (f : Fault) → IsHigher (number_of f.code) known → lesser known f ≡ Some f
takes None f h = refl
takes (Some e) f h = ap (λ b. cond b (Some f) (Some e)) (lt-nat_lt (number_of f.code) (number_of e.code) h)

keeps : (f : Fault) (d : Demand) → (d.kept ≡ true) ⊎ (number_of f.code ≤ number_of d.code) → noted (Some f) d ≡ Some f
keeps f d (inl k) = ap (λ b. cond b (Some f) (lesser (Some f) (fault_of d))) k
keeps f d (inr l) = by_test d.kept
  where
    by_test : (b : Bool) → cond b (Some f) (lesser (Some f) (fault_of d)) ≡ Some f
    by_test true = refl
    by_test false = ap (λ b. cond b (Some (fault_of d)) (Some f)) (le-nat_lt (number_of d.code) (number_of f.code) l)

after_settled : (f : Fault) (ds : List Demand) → AreNotBelow (number_of f.code) ds → settled (Some f) ds ≡ Some f
after_settled f [] h = refl
after_settled f (d ∷ ds) (k, h) = ap (λ o. settled o ds) (keeps f d k) ∙ after_settled f ds h

pub fault_settled : (ds : List Demand) (f : Fault) → IsFaultOf ds f → settled None ds ≡ Some f
fault_settled ds f (before, d, after, is, broken, above, rest, eq) =
    ap (settled None) is ∙ settled_append None before (d ∷ after)
    ∙ ap (λ o. settled o after) (ap (λ b. cond b (settled None before) (lesser (settled None before) (fault_of d))) broken
    ∙ takes (settled None before) (fault_of d) (before_settled (number_of d.code) None before tt above))
    ∙ after_settled (fault_of d) after rest ∙ ap Some (sym eq)

-- ---- the result of folding over demands is their fault

pub data Settles (ds : List Demand) : Option Fault → Type 0 where
  none_broken : AllKept ds → Settles ds None
  broken : {f : Fault} → IsFaultOf ds f → Settles ds (Some f)

-- the possible results of a fold over requirements that starts with an earlier fault: that fault, or the fault of a requirement with
-- a lower code
data From (e : Fault) (ds : List Demand) : Option Fault → Type 0 where
  same : AreNotBelow (number_of e.code) ds → From e ds (Some e)
  lower : {f : Fault} → IsFaultOf ds f → number_of f.code < number_of e.code → From e ds (Some f)

later_fault : (d : Demand) (ds : List Demand) (f : Fault) → IsFaultOf ds f → (d.kept ≡ true) ⊎ (number_of f.code < number_of d.code) → IsFaultOf (d ∷ ds) f
later_fault d ds f (before, x, after, is, b, above, rest, eq) s =
    (d ∷ before, x, after, ap (λ l. d ∷ l) is, b, (subst (λ g. (d.kept ≡ true) ⊎ (number_of g.code < number_of d.code)) eq s, above), rest, eq)

from_kept : (e : Fault) (d : Demand) (ds : List Demand) (o : Option Fault) → d.kept ≡ true → From e ds o → From e (d ∷ ds) o
from_kept e d ds o k (same h) = same (inl k, h)
from_kept e d ds o k (lower {f} h l) = lower (later_fault d ds f h (inl k)) l

from_taken : (e : Fault) (d : Demand) (ds : List Demand) (o : Option Fault) → d.kept ≡ false → number_of d.code < number_of e.code → From (fault_of d) ds o → From e (d ∷ ds) o
from_taken e d ds o k l (same h) = lower ([], d, ds, refl, k, tt, h, refl) l
from_taken e d ds o k l (lower {f} h m) = lower (later_fault d ds f h (inr m)) (omega arith)

from_passed : (e : Fault) (d : Demand) (ds : List Demand) (o : Option Fault) → number_of e.code ≤ number_of d.code → From e ds o → From e (d ∷ ds) o
from_passed e d ds o l (same h) = same (inr l, h)
from_passed e d ds o l (lower {f} h m) = lower (later_fault d ds f h (inr (omega arith))) m

from_next : (e : Fault) (d : Demand) (ds : List Demand) → ((g : Fault) → From g ds (settled (Some g) ds)) → From e (d ∷ ds) (settled (noted (Some e) d) ds)
from_next e d ds rest = by_kept d.kept refl
  where
    by_test : d.kept ≡ false → (b : Bool) → nat_lt (number_of d.code) (number_of e.code) ≡ b → From e (d ∷ ds) (settled (cond b (Some (fault_of d)) (Some e)) ds)
    by_test k true l = from_taken e d ds _ k (nat_lt-true (number_of d.code) (number_of e.code) l) (rest (fault_of d))
    by_test k false l = from_passed e d ds _ (ltb-false (number_of d.code) (number_of e.code) l) (rest e)

    by_kept : (b : Bool) → d.kept ≡ b → From e (d ∷ ds) (settled (cond b (Some e) (lesser (Some e) (fault_of d))) ds)
    by_kept true k = from_kept e d ds _ k (rest e)
    by_kept false k = by_test k (nat_lt (number_of d.code) (number_of e.code)) refl

from : (ds : List Demand) (e : Fault) → From e ds (settled (Some e) ds)
from [] e = same tt
from (d ∷ ds) e = from_next e d ds (λ g. from ds g)

settles_kept : (d : Demand) (ds : List Demand) (o : Option Fault) → d.kept ≡ true → Settles ds o → Settles (d ∷ ds) o
settles_kept d ds o k (none_broken h) = none_broken (k, h)
settles_kept d ds o k (broken {f} h) = broken (later_fault d ds f h (inl k))

settles_broken : (d : Demand) (ds : List Demand) (o : Option Fault) → d.kept ≡ false → From (fault_of d) ds o → Settles (d ∷ ds) o
settles_broken d ds o k (same h) = broken ([], d, ds, refl, k, tt, h, refl)
settles_broken d ds o k (lower {f} h l) = broken (later_fault d ds f h (inr l))

settles_next : (d : Demand) (ds : List Demand) → Settles ds (settled None ds) → Settles (d ∷ ds) (settled (noted None d) ds)
settles_next d ds rest = by_kept d.kept refl
  where
    by_kept : (b : Bool) → d.kept ≡ b → Settles (d ∷ ds) (settled (cond b None (Some (fault_of d))) ds)
    by_kept true k = settles_kept d ds _ k rest
    by_kept false k = settles_broken d ds _ k (from ds (fault_of d))

pub settles : (ds : List Demand) → Settles ds (settled None ds)
settles [] = none_broken tt
settles (d ∷ ds) = settles_next d ds (settles ds)

pub settled_kept : (ds : List Demand) → settled None ds ≡ None → AllKept ds
settled_kept ds e = go (settled None ds) (settles ds) e
  where
    go : (o : Option Fault) → Settles ds o → o ≡ None → AllKept ds
    go o (none_broken h) is = h
    go o (broken h) is = absurd (cc)

-- ---- rules

pub derived : {A : Type 0} (r : Rule A) (a : A) → Derives r a → run r ≡ Ok a
derived (Refused f) a h = absurd h
derived (Own ds b) a (k, eq) = ap (λ o. unless o b) (kept_settled None ds k) ∙ ap Ok (sym eq)
derived (Part r next) a (b, h, k) = then_on (λ c. run (next c)) (derived r b h) (derived (next b) a k)

pub refused : {A : Type 0} (r : Rule A) (f : Fault) → Refuses r f → run r ≡ Err f
refused (Refused g) f h = ap Err (sym h)
refused (Own ds b) f h = ap (λ o. unless o b) (fault_settled ds f h)
refused (Part r next) f (inl h) = then_err (λ c. run (next c)) (refused r f h)
refused (Part r next) f (inr (b, h, k)) = then_on (λ c. run (next c)) (derived r b h) (refused (next b) f k)

own_judged : {A : Type 0} (ds : List Demand) (a : A) (o : Option Fault) → Settles ds o → Judges (Derives (Own ds a)) (IsFaultOf ds) (unless o a)
own_judged ds a None (none_broken h) = good (h, refl)
own_judged ds a (Some f) (broken h) = bad h

pub judged : {A : Type 0} (r : Rule A) → Judges (Derives r) (Refuses r) (run r)
judged (Refused f) = bad refl
judged (Own ds a) = own_judged ds a (settled None ds) (settles ds)
judged (Part r next) = chained (λ c. run (next c)) (judged r) (λ f h. inl h) (λ b h. mapped (judged (next b)) (λ a k. (b, h, k)) (λ f k. inr (b, h, k)))

-- ---- a rule is deterministic

pub answers_tree : {A : Type 0} (r : Rule A) (a : A) → run r ≡ Ok a → Derives r a
answers_tree r a e = go (run r) (judged r) e
  where
    go : (s : Checked _) → Judges (Derives r) (Refuses r) s → s ≡ Ok a → Derives r a
    go s (good {a = b} h) is = subst (Derives r) (from_ok b a is) h
    go s (bad h) is = absurd (cc)

pub answers_fault : {A : Type 0} (r : Rule A) (f : Fault) → run r ≡ Err f → Refuses r f
answers_fault r f e = go (run r) (judged r) e
  where
    go : (s : Checked _) → Judges (Derives r) (Refuses r) s → s ≡ Err f → Refuses r f
    go s (good h) is = absurd (cc)
    go s (bad {f = d} h) is = subst (Refuses r) (from_err d f is) h

pub is_decided : {A : Type 0} (r : Rule A) → IsDecided (Derives r) (Refuses r) (Refuses r)
is_decided r = record {
  one = λ a b h k. from_ok a b (sym (derived r a h) ∙ derived r b k);
  same = λ f g h k. from_err f g (sym (refused r f h) ∙ refused r g k);
  never_refused = λ a f h k. ok_is_no_err a f (sym (derived r a h) ∙ refused r f k);
  never_faulty = λ a f h k. ok_is_no_err a f (sym (derived r a h) ∙ refused r f k);
}
