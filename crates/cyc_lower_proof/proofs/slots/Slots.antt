-- The slots of locals do not overlap, are in the order of the locals, and leave no gaps.
use Rattle.std.specs.Prelude.{unwrap_or, ◌-◌}
use Rattle.std.proofs.Common.{◌≡◌, ◌≢◌, ◌⊎◌, ℕ, zero, suc, ◌+◌, ◌≤◌, ◌<◌, List, [], ◌∷◌, ◌++◌, length, Option, Some, slice_get, refl, sym, ap, ◌∙◌, arith, inl, inr, length-append, append_assoc, None}
use Rattle.std.specs.List.{AllByRecursion}
use Rattle.std.proofs.lemmas.List.{length-replicate}
use Rattle.std.proofs.lemmas.Option.{same_Some, none-some}
use Rattle.std.proofs.lemmas.Bool.{cases_lt}
use Rattle.cyc_syntax.specs.declared.tree.PointerKind.{PointerKind}
use Rattle.cyc_syntax.specs.declared.tree.PointerKind.TheVariants.{Nullable, NonNull, Fat}
use Rattle.cyc_types.specs.declared.typed.Kind.{Kind}
use Rattle.cyc_types.specs.Types.{Ty, words_of, words_of_mark}
use Rattle.cyc_types.specs.Types as types
use Rattle.cyc_types.specs.TypedTrees.{StructType, Function, GlobalVariable}
use Rattle.cyc_meaning.specs.FrameCount.{words_of_all}
use Rattle.cyc_lower_proof.specs.inside.Slots.{global_types, slot_in, starts_from, Types, starts_of, slot_of, global_of}
use Rattle.cyc_lower_proof.specs.inside.ValueCode.{slot_types, tag_slot, first_temporary}
use Rattle.cyc_lower_proof.specs.inside.Lowering.{lower_global, lower_globals}
use Rattle.cyc_lower_proof.proofs.slots.Widths.{kind_positive, words_in, HasRoom, HasGlobal, kind_in}
use Rattle.cyc_meaning.specs.Values.{kind_of}

-- ---- words

mark_positive : (k : PointerKind) → 1 ≤ words_of_mark k
mark_positive Nullable = omega arith
mark_positive NonNull = omega arith
mark_positive Fat = omega arith

pub words_positive : (t : Ty) → 1 ≤ words_of t
words_positive types.Int = omega arith
words_positive types.Char = omega arith
words_positive (types.Pointer k t r) = mark_positive k
words_positive (types.Handle r) = omega arith
words_positive (types.Key r) = omega arith
words_positive (types.Struct n rs) = omega arith

-- ---- slots

pub slot-below : (ts : List Ty) (n : ℕ) (t : Ty) → slice_get ts n ≡ Some t → slot_in ts n + words_of t ≤ words_of_all ts
slot-below [] n t at = absurd (none-some t at)
slot-below (u ∷ ts) zero t at = omega (arith, ap words_of (same_Some u t at))
slot-below (u ∷ ts) (suc n) t at = omega (arith, slot-below ts n t at)

pub locals-apart : (ts : List Ty) (n m : ℕ) (t u : Ty) → n < m → slice_get ts n ≡ Some t → slice_get ts m ≡ Some u → slot_in ts n + words_of t ≤ slot_in ts m
locals-apart [] n m t u less at there = absurd (none-some t at)
locals-apart (x ∷ ts) zero zero t u less at there = absurd (omega (arith, less))
locals-apart (x ∷ ts) (suc n) zero t u less at there = absurd (omega (arith, less))
locals-apart (x ∷ ts) zero (suc m) t u less at there = omega (arith, ap words_of (same_Some x t at))
locals-apart (x ∷ ts) (suc n) (suc m) t u less at there = omega (arith, locals-apart ts n m t u (omega (arith, less)) at there)

-- the slots of temporaries begin after the last local
pub slot-following : (ts : List Ty) → slot_in ts (length ts) ≡ words_of_all ts
slot-following [] = refl
slot-following (t ∷ ts) = omega (arith, slot-following ts)

pub slot-append : (ts us : List Ty) (n : ℕ) → slot_in (ts ++ us) (length ts + n) ≡ words_of_all ts + slot_in us n
slot-append [] us n = let f : slot_in us (0 + n) ≡ slot_in us n = ap (slot_in us) (let e : 0 + n ≡ n = omega arith in e) in omega (arith, f)
slot-append (t ∷ ts) us n =
    let next : slot_in ((t ∷ ts) ++ us) (length (t ∷ ts) + n) ≡ words_of t + slot_in (ts ++ us) (length ts + n)
    = ap (slot_in ((t ∷ ts) ++ us)) (let e : length (t ∷ ts) + n ≡ suc (length ts + n) = omega arith in e) in
    omega (arith, next, slot-append ts us n)

-- if each local has one word, the slot of a local is the index of the local
pub slot-number : (ts : List Ty) (n : ℕ) → AllByRecursion (λ t. words_of t ≡ 1) ts → n ≤ length ts → slot_in ts n ≡ n
slot-number [] n one few = omega (arith, few)
slot-number (t ∷ ts) zero one few = refl
slot-number (t ∷ ts) (suc n) (first, rest) few = omega (arith, first, slot-number ts n rest (omega (arith, few)))

-- ---- the list of first slots

starts-from : (ts : List Ty) (slot n : ℕ) → n < length ts → unwrap_or (slice_get (starts_from slot ts) n) 0 ≡ slot + slot_in ts n
starts-from [] slot n inside = absurd (omega (arith, inside))
starts-from (t ∷ ts) slot zero inside = omega arith
starts-from (t ∷ ts) slot (suc n) inside = omega (arith, starts-from ts (slot + words_of t) n (omega (arith, inside)))

-- The list of first slots contains the first slot of each local.
pub starts-are : (ts : Types) (n : ℕ) → n < length ts.locals → slot_of (starts_of ts) n ≡ slot_in ts.locals n
starts-are ts n inside = omega (arith, starts-from ts.locals 0 n inside)

pub type-there : (ts : List Ty) (n : ℕ) → n < length ts → (t : Ty) × (slice_get ts n ≡ Some t)
type-there [] n inside = absurd (omega (arith, inside))
type-there (t ∷ ts) zero inside = (t, refl)
type-there (t ∷ ts) (suc n) inside = type-there ts n (omega (arith, inside))

-- The first slot of a local, for every index of a local, is at most the first slot for temporaries.
low-from : (ts : List Ty) (slot n : ℕ) → unwrap_or (slice_get (starts_from slot ts) n) 0 ≤ slot + words_of_all ts
low-from [] slot n = omega arith
low-from (t ∷ ts) slot zero = omega arith
low-from (t ∷ ts) slot (suc n) = omega (arith, low-from ts (slot + words_of t) n)

pub slot-low : (ts : Types) (n : ℕ) → slot_of (starts_of ts) n ≤ words_of_all ts.locals
slot-low ts n = omega (arith, low-from ts.locals 0 n)

-- The words of a local end before those of the next local begin, and all of them end before the first temporary.
pub words-there : (ts : List Ty) (n : ℕ) (t : Ty) → slice_get ts n ≡ Some t → words_in ts n ≡ words_of t
words-there [] n t at = absurd (none-some t at)
words-there (u ∷ ts) zero t at = ap words_of (same_Some u t at)
words-there (u ∷ ts) (suc n) t at = words-there ts n t at

pub kind-there : (ts : List Ty) (n : ℕ) (t : Ty) → slice_get ts n ≡ Some t → kind_in ts n ≡ kind_of t
kind-there [] n t at = absurd (none-some t at)
kind-there (u ∷ ts) zero t at = ap kind_of (same_Some u t at)
kind-there (u ∷ ts) (suc n) t at = kind-there ts n t at

pub slot-room : (ts : Types) (n : ℕ) → n < length ts.locals → slot_of (starts_of ts) n + words_in ts.locals n ≤ words_of_all ts.locals
slot-room ts n inside =
    let (t, at) = type-there ts.locals n inside in
    omega (arith, starts-are ts n inside, slot-below ts.locals n t at, words-there ts.locals n t at)

slot-following-other : (ts : Types) (n m : ℕ) → n < m → m < length ts.locals → slot_of (starts_of ts) n + words_in ts.locals n ≤ slot_of (starts_of ts) m
slot-following-other ts n m less inside =
    let (t, at) = type-there ts.locals n (omega (arith, less, inside)) in
    let (u, there) = type-there ts.locals m inside in
    omega (arith, starts-are ts n (omega (arith, less, inside)), starts-are ts m inside, locals-apart ts.locals n m t u less at there, words-there ts.locals n t at)

pub slot-apart : (ts : Types) (n m : ℕ) → n < length ts.locals → m < length ts.locals → n ≢ m
    → (slot_of (starts_of ts) n + words_in ts.locals n ≤ slot_of (starts_of ts) m) ⊎ (slot_of (starts_of ts) m + words_in ts.locals m ≤ slot_of (starts_of ts) n)
slot-apart ts n m inside there other = elim (cases_lt n m) [
  | inl less ↦ inl (slot-following-other ts n m less there)
  | inr most ↦ elim (cases_lt m n) [
    | inl less ↦ inr (slot-following-other ts m n less inside)
    | inr least ↦ absurd (other (omega (arith, most, least)))
  ]
]

-- If the local with this index has at least one word, then the local exists.
has-words : (ts : List Ty) (n : ℕ) → 1 ≤ words_in ts n → n < length ts
has-words [] n some = absurd (omega (arith, some))
has-words (t ∷ ts) zero some = omega arith
has-words (t ∷ ts) (suc n) some = omega (arith, has-words ts n some)

pub room-inside : (ts : Types) (n : ℕ) (kind : Kind) → HasRoom ts n kind → n < length ts.locals
room-inside ts n kind room = has-words ts.locals n (omega (arith, room, kind_positive kind))

-- ---- globals

-- The types of globals are treated as types of locals, because the words of globals are consecutive, like the slots of locals.
abbrev as_locals : Types → Types
as_locals ts = record { locals = ts.globals; structs = ts.structs; raises = ts.raises; counters = []; globals = []; scopes = None }

pub global-room : (ts : Types) (n : ℕ) → n < length ts.globals → global_of (starts_of ts) n + words_in ts.globals n ≤ words_of_all ts.globals
global-room ts n inside = slot-room (as_locals ts) n inside

pub globals-are : (ts : Types) (n : ℕ) → n < length ts.globals → global_of (starts_of ts) n ≡ slot_in ts.globals n
globals-are ts n inside = starts-are (as_locals ts) n inside

pub global-apart : (ts : Types) (n m : ℕ) → n < length ts.globals → m < length ts.globals → n ≢ m
    → (global_of (starts_of ts) n + words_in ts.globals n ≤ global_of (starts_of ts) m) ⊎ (global_of (starts_of ts) m + words_in ts.globals m ≤ global_of (starts_of ts) n)
global-apart ts n m inside there other = slot-apart (as_locals ts) n m inside there other

pub global-inside : (ts : Types) (n : ℕ) (kind : Kind) → HasGlobal ts n kind → n < length ts.globals
global-inside ts n kind room = room-inside (as_locals ts) n kind room

-- The word count of all globals equals the length of the list of their initial words.
pub global_words_counted : (gs : List GlobalVariable) → words_of_all (global_types gs) ≡ length (lower_globals gs)
global_words_counted [] = refl
global_words_counted (g ∷ gs) = omega (arith, length-append (lower_global g) (lower_globals gs), length-replicate {A = ℕ} (words_of g.of_type - 1) 0, words_positive g.of_type, global_words_counted gs)

-- ---- parameters

-- The slot of a parameter comes after the words of the earlier parameters.
pub slot-parameter : (structs : List StructType) (raises : ℕ) (globals : List Ty) (scopes : Option ℕ) (first rest : List Ty) (t : Ty) (more : List Ty)
    → slot_of (starts_of (record { locals = (first ++ t ∷ rest) ++ more; structs = structs; raises = raises; counters = []; globals = globals; scopes = scopes })) (length first) ≡ words_of_all first
slot-parameter structs raises globals scopes first rest t more =
    let ts = (first ++ t ∷ rest) ++ more in
    let long : length ts ≡ length (first ++ t ∷ rest) + length more = length-append (first ++ t ∷ rest) more in
    let shorter : length (first ++ t ∷ rest) ≡ length first + length (t ∷ rest) = length-append first (t ∷ rest) in
    let next : length first + 0 ≡ length first = omega arith in
    let at : slot_in ts (length first) ≡ words_of_all first + 0
    = ap (λ (us : List Ty). slot_in us (length first)) (append_assoc first (t ∷ rest) more) ∙ ap (slot_in (first ++ (t ∷ rest ++ more))) (sym next) ∙ slot-append first (t ∷ rest ++ more) 0 in
    omega (arith, starts-are (record { locals = ts; structs = structs; raises = raises; counters = []; globals = globals; scopes = scopes }) (length first) (omega (arith, long, shorter)), at)

pub words-parameter : (first rest : List Ty) (t : Ty) (more : List Ty) → words_in ((first ++ t ∷ rest) ++ more) (length first) ≡ words_of t
words-parameter [] rest t more = refl
words-parameter (u ∷ first) rest t more = words-parameter first rest t more

pub kind-parameter : (first rest : List Ty) (t : Ty) (more : List Ty) → kind_in ((first ++ t ∷ rest) ++ more) (length first) ≡ kind_of t
kind-parameter [] rest t more = refl
kind-parameter (u ∷ first) rest t more = kind-parameter first rest t more

pub slot_types-many : (h : Function) → length (slot_types h) ≡ length h.parameters + length h.locals
slot_types-many h = length-append h.parameters h.locals

pub words-append : (ts us : List Ty) → words_of_all (ts ++ us) ≡ words_of_all ts + words_of_all us
words-append [] us = omega arith
words-append (t ∷ ts) us = omega (arith, words-append ts us)

pub starts-append : (slot : ℕ) (ts us : List Ty) → starts_from slot (ts ++ us) ≡ starts_from slot ts ++ starts_from (slot + words_of_all ts) us
starts-append slot [] us = ap (λ (n : ℕ). starts_from n us) (let e : slot ≡ slot + 0 = omega arith in e)
starts-append slot (t ∷ ts) us =
    ap (λ (l : List ℕ). slot ∷ l)
    (starts-append (slot + words_of t) ts us
    ∙ ap (λ (n : ℕ). starts_from (slot + words_of t) ts ++ starts_from n us) (let e : slot + words_of t + words_of_all ts ≡ slot + words_of_all (t ∷ ts) = omega arith in e))

-- The locals and parameters of a function have as many slots as they have words.
pub slots-few : (h : Function) → tag_slot h ≡ words_of_all h.parameters + words_of_all h.locals
slots-few h = words-append h.parameters h.locals

-- The first slots of the parameters, followed by those of the other locals, are the first slots of all locals.
pub slots-made : (h : Function) (following end : ℕ) (first all : List ℕ) → following ≡ words_of_all h.parameters → first ≡ starts_from 0 h.parameters
    → end ≡ following + words_of_all h.locals → all ≡ first ++ starts_from following h.locals → (all ≡ starts_from 0 (slot_types h)) × (end ≡ tag_slot h) × (end + 1 ≡ first_temporary h)
slots-made h following end first all following_is first_is end_is all_is = (
  all_is
      ∙ ap (λ (l : List ℕ). l ++ starts_from following h.locals) first_is
      ∙ ap (λ (n : ℕ). starts_from 0 h.parameters ++ starts_from n h.locals) (let e : following ≡ 0 + words_of_all h.parameters = omega (arith, following_is) in e)
      ∙ sym (starts-append 0 h.parameters h.locals),
  omega (arith, end_is, following_is, words-append h.parameters h.locals),
  omega (arith, end_is, following_is, words-append h.parameters h.locals),
)
