-- This file derives the effect of several calls of a device from the effect of each call.
use Rattle.std.proofs.Common.{◌≡◌, ◌<◌, ℕ, suc, get_or, drop, drop-cons, length, subst, List, [], ◌++◌, Option, None, Some, Result, Ok, Err, IsErr, take, refl, sym, ap, ◌∙◌, append_assoc, append-nil}
use Rattle.std.proofs.lemmas.List.{take-append-drop}
use Rattle.std.proofs.lemmas.List.Concat.{flat_map-append}
use Rattle.std.specs.Prelude.{flat_map}
use Rattle.std.specs.Io.KnownBytes.{Consumes, Appends, Keeps, ReadConsumes}
use Rattle.cyc_words.proofs.PrefixLemmas.{IsPrefix-nil, IsPrefix-append, IsPrefix-append_both, IsPrefix-trans}
use Rattle.cyc_words.specs.Device.{AppendsPrefix, TakesText}

pub Keeps-refl : (a : Option (List ℕ)) → Keeps a a
Keeps-refl None = tt
Keeps-refl (Some xs) = refl

pub Keeps_trans : (a b c : Option (List ℕ)) → Keeps a b → Keeps b c → Keeps a c
Keeps_trans None b c k h = tt
Keeps_trans (Some xs) None c k h = absurd k
Keeps_trans (Some xs) (Some ys) c k h = subst (λ (zs : List ℕ). Keeps (Some zs) c) k h

pub ReadConsumes_kept : {E : Type 0} (a b c : Option (List ℕ)) (r : Result ℕ E) (bytes : List ℕ) → Keeps a b → ReadConsumes b c r bytes → ReadConsumes a c r bytes
ReadConsumes_kept None b c (Ok n) bytes k h = (tt, h.1)
ReadConsumes_kept None b c (Err e) bytes k h = tt
ReadConsumes_kept (Some xs) None c r bytes k h = absurd k
ReadConsumes_kept (Some xs) (Some ys) c r bytes k h = subst (λ (zs : List ℕ). ReadConsumes (Some zs) c r bytes) k h

pub Appends-nil : (a b : Option (List ℕ)) → Keeps a b → Appends a b []
Appends-nil None b h = tt
Appends-nil (Some xs) None h = absurd h
Appends-nil (Some xs) (Some ys) h = h ∙ sym (append-nil xs)

pub Appends-append : (a b c : Option (List ℕ)) (xs ys : List ℕ) → Appends a b xs → Appends b c ys → Appends a c (xs ++ ys)
Appends-append None b c xs ys h k = tt
Appends-append (Some w) None c xs ys h k = absurd h
Appends-append (Some w) (Some v) None xs ys h k = absurd k
Appends-append (Some w) (Some v) (Some u) xs ys h k = k ∙ ap (λ (l : List ℕ). l ++ ys) h ∙ append_assoc w xs ys

pub Consumes-nil : (a b : Option (List ℕ)) → Keeps a b → Consumes a b []
Consumes-nil None b h = tt
Consumes-nil (Some xs) None h = absurd h
Consumes-nil (Some xs) (Some ys) h = sym h

pub Consumes-append : (a b c : Option (List ℕ)) (xs ys : List ℕ) → Consumes a b xs → Consumes b c ys → Consumes a c (xs ++ ys)
Consumes-append None b c xs ys h k = tt
Consumes-append (Some w) None c xs ys h k = absurd h
Consumes-append (Some w) (Some v) None xs ys h k = absurd k
Consumes-append (Some w) (Some v) (Some u) xs ys h k =
    h ∙ ap (λ (l : List ℕ). xs ++ l) k ∙ sym (append_assoc xs ys u)

-- If a device takes one complete text and then another text, it takes their concatenation.
pub TakesText-append : {A E : Type 0} (a b c : Option (List ℕ)) (xs ys : List ℕ) (r : Result A E) → Appends a b xs → TakesText b ys r c → TakesText a (xs ++ ys) r c
TakesText-append a b c xs ys (Ok v) h k = Appends-append a b c xs ys h k
TakesText-append a b c xs ys (Err e) h k =
    (xs ++ k.0, IsPrefix-append_both xs k.0 ys k.1, Appends-append a b c xs k.0 h k.2)

-- If a device fails while it takes a text, then the same failure is a failure while it takes any longer text that begins with this text.
pub TakesText-fails : {A E : Type 0} (a b : Option (List ℕ)) (xs ys : List ℕ) (r : Result A E) → IsErr r → TakesText a xs r b → TakesText a (xs ++ ys) r b
TakesText-fails a b xs ys (Ok v) err h = cc
TakesText-fails a b xs ys (Err e) err h =
    (h.0, IsPrefix-trans h.0 xs (xs ++ ys) h.1 (IsPrefix-append xs ys), h.2)

-- If a device takes the bytes before a part of a text and then fails in this part, then it fails in the complete text.
pub TakesText_exit : {A E : Type 0} (a b c : Option (List ℕ)) (xs ys more : List ℕ) (r : Result A E) → IsErr r → Appends a b xs → AppendsPrefix b c ys → TakesText a (xs ++ (ys ++ more)) r c
TakesText_exit a b c xs ys more (Ok v) err taken then = cc
TakesText_exit a b c xs ys more (Err e) err taken then = (
  xs ++ then.0,
  IsPrefix-append_both xs then.0 (ys ++ more) (IsPrefix-trans then.0 ys (ys ++ more) then.1 (IsPrefix-append ys more)),
  Appends-append a b c xs then.0 taken then.2,
)

-- If a device fails at a byte after the first i bytes of a text, then it fails in the text.
pub TakesText_byte_exit : {A E : Type 0} (a b c : Option (List ℕ)) (text : List ℕ) (i : ℕ) (r : Result A E) → IsErr r → Appends a b (take i text) → Keeps b c → TakesText a text r c
TakesText_byte_exit a b c text i r err taken kept =
    let nothing : AppendsPrefix b c [] = ([], IsPrefix-nil [], Appends-nil b c kept) in
    let P : List ℕ → Type 0 = λ t. TakesText a t r c in
    subst P (take-append-drop i text) (TakesText_exit a b c (take i text) [] (drop i text) r err taken nothing)

-- If a device fails in a part after the first i of several parts, then it fails in the concatenation of the parts.
pub TakesText_part_exit : {X A E : Type 0} (f : X → List ℕ) (a b c : Option (List ℕ)) (parts : List X) (i : ℕ) (d : X) (r : Result A E) → i < length parts → IsErr r → Appends a b (flat_map f (take i parts)) → AppendsPrefix b c (f (get_or parts i d)) → TakesText a (flat_map f parts) r c
TakesText_part_exit {X} f a b c parts i d r below err taken then =
    let split : flat_map f (take i parts) ++ (f (get_or parts i d) ++ flat_map f (drop (suc i) parts)) ≡ flat_map f parts =
    ap (λ (l : List X). flat_map f (take i parts) ++ flat_map f l) (sym (drop-cons parts i d below))
    ∙ sym (flat_map-append f (take i parts) (drop i parts)) ∙ ap (flat_map f) (take-append-drop i parts) in
    let P : List ℕ → Type 0 = λ t. TakesText a t r c in
    subst P split (TakesText_exit a b c (flat_map f (take i parts)) (f (get_or parts i d)) (flat_map f (drop (suc i) parts)) r err taken then)

pub Keeps-some : (reported new : Option (List ℕ)) (input : List ℕ) → reported ≡ Some input → Keeps reported new → new ≡ Some input
Keeps-some None new input is keeps = absurd (let e : None ≡ Some input = is in cc)
Keeps-some (Some reported) None input is keeps = absurd keeps
Keeps-some (Some reported) (Some left) input is keeps = ap (λ (l : List ℕ). Some l) keeps ∙ is
