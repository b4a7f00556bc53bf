-- The parsers of one symbol satisfy the soundness statement `Gives` for the symbol's leaf, and so do the parsers that
-- decide by the next symbol.
use Rattle.std.proofs.Common.{◌≡◌, ℕ, zero, suc, ◌≤◌, Bool, true, false, cond, List, [], ◌∷◌, Option, Some, None, is_some, Ok, Err, refl, sym, ap, subst, ◌∙◌, arith, rules}
use Rattle.std.specs.Option.{IfSome}
use Rattle.std.specs.Prelude.{if◌then◌else◌}
use denote.Enum.Bare.{same_true}
use Rattle.cyc_syntax.specs.declared.tokens.Keyword.{Keyword}
use Rattle.cyc_syntax.specs.declared.tokens.Sign.{Sign}
use Rattle.cyc_syntax.specs.contracts.tokens.Keyword as keywords
use Rattle.cyc_syntax.specs.contracts.tokens.Sign as signs
use Rattle.cyc_syntax.specs.Symbols.{Place, Terminal, Identifier, RegionName, Number, Character, Word, Mark, Symbol}
use Rattle.cyc_syntax.specs.Trees.{Named}
use Rattle.cyc_syntax.specs.Yields.{Leaf, Yield}
use Rattle.cyc_syntax.specs.Grammar.{max_nesting, max_items}
use Rattle.cyc_parse.specs.inside.Parsing.{Parser, Outcome, Refusal, Reason, Unexpected, and_then, bind, choose, next, take, same_keyword, same_sign, is_sign, is_word, identifier_name, region_of_terminal}
use Rattle.cyc_parse.specs.inside.Parsing.{named, only_place, sign, word, identifier, region_name, accept_if, advance, if_sees, sees, sees_terminal, refuse, starts, if_starts, on_some, if_is, pure}
use Rattle.cyc_parse.proofs.Rules.{Front, Fits, leaf_of, leaf_at}
use Rattle.cyc_parse.proofs.Locality.{left_of, one_refusal}
use Rattle.cyc_parse.proofs.LocalExpressions.{WasRead, was_read}
use Rattle.cyc_parse.proofs.Gives.{Derived, IsLimit, Completed, Opened, Possible, Gives, WasRefused, in_first, in_second, was_refused, no_limit, no_refusal, begins_here, leaf_begins, answer_of, gives_instead, limit_gives}

-- ---- one symbol

taken_parts : {A B : Type 0} (room : ℕ) (o : Option A) (give : A → Place → B) (t : Symbol) (ts rest : List Symbol) (y : B) → accept_if room o give t ts ≡ Ok (y, rest)
    → (r : ℕ) × (a : A) × (room ≡ suc r) × (o ≡ Some a) × (give a t.place ≡ y) × (ts ≡ rest)
taken_parts room None give t ts rest y h = absurd (cc)
taken_parts zero (Some a) give t ts rest y h = absurd (cc)
taken_parts (suc r) (Some a) give t ts rest y h = (r, a, refl, refl, ap (answer_of y) h, ap left_of h)

-- If the parser of a single symbol rejects the symbol because of a limit, then the symbol is nested too deep.
too_deep : {A B : Type 0} (room : ℕ) (o : Option A) (give : A → Place → B) (t : Symbol) (ts : List Symbol) (e : Refusal) → accept_if room o give t ts ≡ Err e → IsLimit e.reason
    → (a : A) × (o ≡ Some a) × (e.left ≡ t ∷ ts)
too_deep room None give t ts e h limit = no_limit (t ∷ ts) e h limit
too_deep zero (Some a) give t ts e h limit = (a, refl, sym (ap (λ (r : Refusal). r.left) (one_refusal _ e h)))
too_deep (suc r) (Some a) give t ts e h limit = no_refusal h

pub some_place : Place
some_place = record { line = 1; column = 1 }

-- The soundness statement `Gives` holds for the parser of one symbol followed by another parser; the symbol's leaf is computed from
-- its value and position.
pub take_then : {A B C : Type 0} (room : ℕ) (reads : Terminal → Option A) (give : A → Place → B) (f : B → Parser C) {Q : C → Yield → List Symbol → Type 0} {ts : List Symbol} (some : A) (leaf : A → Place → Leaf)
    → ((a : A) (q : Place) → Fits room (leaf a q).nesting) → ((a : A) (q : Place) → (leaf a q).item ≤ max_items)
    → ((a : A) (u : Terminal) (q : Place) → reads u ≡ Some a → u ≡ (leaf a q).terminal) → ((a : A) (q : Place) → IfSome (leaf a q).place (λ p. q ≡ p))
    → ((a : A) (q : Place) (mid : List Symbol) → Gives (f (give a q)) (λ y ys rest. Q y (leaf a q ∷ ys) rest) mid) → Gives (bind (take room reads give) f) Q ts
unfolding take
take_then {A} {B} {C} room reads give f {Q = Q} {ts = ts} some leaf fits few is place second = record {
  gives = λ rest y h. start ts rest y h;
  goes = λ e h limit. refused ts e limit (was_refused (take room reads give) f ts e h);
  ending = λ none.
      let b = (second some some_place []).ending refl in
      record { value = b.value; leaves = leaf some some_place ∷ b.leaves; post = b.post };
}
  where
    go : (t : Symbol) (more rest : List Symbol) (y : C) → (w : WasRead (take room reads give) f (t ∷ more) rest y) → accept_if room (reads t.terminal) give t more ≡ Ok (w.value, w.mid) → Derived (t ∷ more) rest (λ ls. Q y ls rest)
    go t more rest y w e =
        let (r, a, roomy, reading, value, same) = taken_parts room (reads t.terminal) give t more w.mid w.value e in
        let d = (second a t.place w.mid).gives rest y (ap (λ (b : B). f b w.mid) value ∙ w.second) in
        record {
          leaves = leaf a t.place ∷ d.leaves;
          front = (t, more, refl, record { terminal = is a t.terminal t.place reading; place = place a t.place }, subst (λ (s : List Symbol). Front d.leaves s rest) (sym same) d.front);
          within = (record { nesting = omega (arith, roomy, fits a t.place); item = few a t.place }, d.within);
          post = d.post;
        }

    start : (ts rest : List Symbol) (y : C) → bind (take room reads give) f ts ≡ Ok (y, rest) → Derived ts rest (λ ls. Q y ls rest)
    start [] rest y h = let w = was_read (take room reads give) f [] rest y h in absurd (no w.first)
      where
        no : {b : B} {m : List Symbol} → ◌≡◌ {A = Outcome B} (Err (record { reason = Unexpected; left = [] })) (Ok (b, m)) → ⊥
        no e = cc
    start (t ∷ more) rest y h = let w = was_read (take room reads give) f (t ∷ more) rest y h in go t more rest y w w.first

    refused : (ts : List Symbol) (e : Refusal) → IsLimit e.reason → WasRefused (take room reads give) f ts e → Completed Q ts e.left
    refused [] e limit (in_first h) = no_limit [] e h limit
    refused [] e limit (in_second x mid h k) = absurd (no h)
      where
        no : {b : B} {m : List Symbol} → ◌≡◌ {A = Outcome B} (Err (record { reason = Unexpected; left = [] })) (Ok (b, m)) → ⊥
        no e = cc
    refused (t ∷ more) e limit (in_first h) =
        let (a, reading, same) = too_deep room (reads t.terminal) give t more e h limit in
        let b = (second a t.place []).ending refl in
        record { value = b.value; leaves = leaf a t.place ∷ b.leaves; begins = begins_here (leaf a t.place) b.leaves t more e.left (is a t.terminal t.place reading) (place a t.place) same; post = b.post }
    refused (t ∷ more) e limit (in_second x mid h k) =
        let (r, a, roomy, reading, value, same) = taken_parts room (reads t.terminal) give t more mid x h in
        let d = (second a t.place mid).goes e (ap (λ (b : B). f b mid) value ∙ k) limit in
        record { value = d.value; leaves = leaf a t.place ∷ d.leaves; begins = leaf_begins (leaf a t.place) t (is a t.terminal t.place reading) (place a t.place) same d.begins; post = d.post }

-- If no nesting level is left, the parser of one symbol reads no symbol.
pub stuck_then : {A B C : Type 0} (reads : Terminal → Option A) (give : A → Place → B) (f : B → Parser C) {Q : C → Yield → List Symbol → Type 0} {ts : List Symbol} (leaf : Leaf) (possible : Possible (λ y ys rest. Q y (leaf ∷ ys) rest))
    → ((a : A) (u : Terminal) → reads u ≡ Some a → u ≡ leaf.terminal) → ((q : Place) → IfSome leaf.place (λ p. q ≡ p)) → Gives (bind (take zero reads give) f) Q ts
unfolding take
stuck_then {A} {B} {C} reads give f {Q = Q} {ts = ts} leaf possible is place = record {
  gives = λ rest y h. start ts rest y h;
  goes = λ e h limit. refused ts e limit (was_refused (take zero reads give) f ts e h);
  ending = λ none. record { value = possible.value; leaves = leaf ∷ possible.leaves; post = possible.post };
}
  where
    no : {b : B} {m : List Symbol} {e : Refusal} → ◌≡◌ {A = Outcome B} (Err e) (Ok (b, m)) → ⊥
    no e = cc

    go : (o : Option A) (t : Symbol) (more : List Symbol) (b : B) (m : List Symbol) → accept_if zero o give t more ≡ Ok (b, m) → ⊥
    go None t more b m e = no e
    go (Some a) t more b m e = no e

    start : (ts rest : List Symbol) (y : C) → bind (take zero reads give) f ts ≡ Ok (y, rest) → Derived ts rest (λ ls. Q y ls rest)
    start [] rest y h = let w = was_read (take zero reads give) f [] rest y h in absurd (no w.first)
    start (t ∷ more) rest y h = let w = was_read (take zero reads give) f (t ∷ more) rest y h in absurd (go (reads t.terminal) t more w.value w.mid w.first)

    refused : (ts : List Symbol) (e : Refusal) → IsLimit e.reason → WasRefused (take zero reads give) f ts e → Completed Q ts e.left
    refused [] e limit (in_first h) = no_limit [] e h limit
    refused [] e limit (in_second x mid h k) = absurd (no h)
    refused (t ∷ more) e limit (in_first h) =
        let (a, reading, same) = too_deep zero (reads t.terminal) give t more e h limit in
        record { value = possible.value; leaves = leaf ∷ possible.leaves; begins = begins_here leaf possible.leaves t more e.left (is a t.terminal reading) (place t.place) same; post = possible.post }
    refused (t ∷ more) e limit (in_second x mid h k) = absurd (go (reads t.terminal) t more x mid h)

sign_is : (s : Sign) (u : Terminal) (a : Unit {0}) → is_sign s u ≡ Some a → u ≡ Mark s
sign_is s (Mark other) a h = ap Mark (same (same_sign other s) refl h)
  where
    same : (b : Bool) → same_sign other s ≡ b → (if b then Some tt else None) ≡ Some a → other ≡ s
    same true e h = same_true signs.the_type (search rules) other s e
    same false e h = absurd (cc)
sign_is s (Identifier x) a h = absurd (cc)
sign_is s (RegionName x) a h = absurd (cc)
sign_is s (Number n) a h = absurd (cc)
sign_is s (Character c) a h = absurd (cc)
sign_is s (Word k) a h = absurd (cc)

word_is : (k : Keyword) (u : Terminal) (a : Unit {0}) → is_word k u ≡ Some a → u ≡ Word k
word_is k (Word other) a h = ap Word (same (same_keyword other k) refl h)
  where
    same : (b : Bool) → same_keyword other k ≡ b → (if b then Some tt else None) ≡ Some a → other ≡ k
    same true e h = same_true keywords.the_type (search rules) other k e
    same false e h = absurd (cc)
word_is k (Identifier x) a h = absurd (cc)
word_is k (RegionName x) a h = absurd (cc)
word_is k (Number n) a h = absurd (cc)
word_is k (Character c) a h = absurd (cc)
word_is k (Mark s) a h = absurd (cc)

identifier_is : (u : Terminal) (a : ℕ) → identifier_name u ≡ Some a → u ≡ Identifier a
identifier_is (Identifier x) a h = cc
identifier_is (RegionName x) a h = absurd (cc)
identifier_is (Number n) a h = absurd (cc)
identifier_is (Character c) a h = absurd (cc)
identifier_is (Word k) a h = absurd (cc)
identifier_is (Mark s) a h = absurd (cc)

region_terminal : (u : Terminal) (a : ℕ) → region_of_terminal u ≡ Some a → u ≡ RegionName a
region_terminal (RegionName x) a h = cc
region_terminal (Identifier x) a h = absurd (cc)
region_terminal (Number n) a h = absurd (cc)
region_terminal (Character c) a h = absurd (cc)
region_terminal (Word k) a h = absurd (cc)
region_terminal (Mark s) a h = absurd (cc)

module _ {C : Type 0} {Q : C → Yield → List Symbol → Type 0} {ts : List Symbol} (room d : ℕ) where
  -- The soundness statement `Gives` holds for the parser of a sign (punctuation token) that is the element with a given
  -- index in its list or chain.
  pub sign_item_then : (i : ℕ) (s : Sign) {f : Place → Parser C} → Fits room d → i ≤ max_items
      → ((q : Place) (mid : List Symbol) → Gives (f q) (λ y ys rest. Q y (record { terminal = Mark s; place = None; nesting = d; item = i } ∷ ys) rest) mid) → Gives (bind (sign room s) f) Q ts
  sign_item_then i s fits few second = take_then room (is_sign s) only_place _ tt (λ _ _. record { terminal = Mark s; place = None; nesting = d; item = i }) (λ _ _. fits) (λ _ _. few) (λ a u _ e. sign_is s u a e) (λ _ _. tt) (λ _ q mid. second q mid)

  pub sign_then : (s : Sign) {f : Place → Parser C} → Fits room d → ((q : Place) (mid : List Symbol) → Gives (f q) (λ y ys rest. Q y (leaf_of d (Mark s) ∷ ys) rest) mid) → Gives (bind (sign room s) f) Q ts
  sign_then s fits second = take_then room (is_sign s) only_place _ tt (λ _ _. leaf_of d (Mark s)) (λ _ _. fits) (λ _ _. omega arith) (λ a u _ e. sign_is s u a e) (λ _ _. tt) (λ _ q mid. second q mid)

  pub sign_then_at : (s : Sign) {f : Place → Parser C} → Fits room d → ((q : Place) (mid : List Symbol) → Gives (f q) (λ y ys rest. Q y (leaf_at d (Mark s) q ∷ ys) rest) mid) → Gives (bind (sign room s) f) Q ts
  sign_then_at s fits second = take_then room (is_sign s) only_place _ tt (λ _ q. leaf_at d (Mark s) q) (λ _ _. fits) (λ _ _. omega arith) (λ a u _ e. sign_is s u a e) (λ _ _. refl) (λ _ q mid. second q mid)

  pub word_then : (k : Keyword) {f : Place → Parser C} → Fits room d → ((q : Place) (mid : List Symbol) → Gives (f q) (λ y ys rest. Q y (leaf_of d (Word k) ∷ ys) rest) mid) → Gives (bind (word room k) f) Q ts
  word_then k fits second = take_then room (is_word k) only_place _ tt (λ _ _. leaf_of d (Word k)) (λ _ _. fits) (λ _ _. omega arith) (λ a u _ e. word_is k u a e) (λ _ _. tt) (λ _ q mid. second q mid)

  pub word_then_at : (k : Keyword) {f : Place → Parser C} → Fits room d → ((q : Place) (mid : List Symbol) → Gives (f q) (λ y ys rest. Q y (leaf_at d (Word k) q ∷ ys) rest) mid) → Gives (bind (word room k) f) Q ts
  word_then_at k fits second = take_then room (is_word k) only_place _ tt (λ _ q. leaf_at d (Word k) q) (λ _ _. fits) (λ _ _. omega arith) (λ a u _ e. word_is k u a e) (λ _ _. refl) (λ _ q mid. second q mid)

  pub identifier_then : {f : Named → Parser C} → Fits room d → ((x : Named) (mid : List Symbol) → Gives (f x) (λ y ys rest. Q y (leaf_at d (Identifier x.name) x.place ∷ ys) rest) mid) → Gives (bind (identifier room) f) Q ts
  identifier_then fits second = take_then room identifier_name named _ 0 (λ a q. leaf_at d (Identifier a) q) (λ _ _. fits) (λ _ _. omega arith) (λ a u _ e. identifier_is u a e) (λ _ _. refl) (λ a q mid. second (named a q) mid)

  pub region_then : {f : Named → Parser C} → Fits room d → ((x : Named) (mid : List Symbol) → Gives (f x) (λ y ys rest. Q y (leaf_at d (RegionName x.name) x.place ∷ ys) rest) mid) → Gives (bind (region_name room) f) Q ts
  region_then fits second = take_then room region_of_terminal named _ 0 (λ a q. leaf_at d (RegionName a) q) (λ _ _. fits) (λ _ _. omega arith) (λ a u _ e. region_terminal u a e) (λ _ _. refl) (λ a q mid. second (named a q) mid)

pub stuck_sign : {C : Type 0} {Q : C → Yield → List Symbol → Type 0} {ts : List Symbol} (d : ℕ) (s : Sign) (f : Place → Parser C)
    → Possible (λ y ys rest. Q y (leaf_of d (Mark s) ∷ ys) rest) → Gives (bind (sign zero s) f) Q ts
stuck_sign d s f possible = stuck_then (is_sign s) only_place f (leaf_of d (Mark s)) possible (λ a u e. sign_is s u a e) (λ _. tt)

pub stuck_word : {C : Type 0} {Q : C → Yield → List Symbol → Type 0} {ts : List Symbol} (d : ℕ) (k : Keyword) (f : Place → Parser C)
    → Possible (λ y ys rest. Q y (leaf_of d (Word k) ∷ ys) rest) → Gives (bind (word zero k) f) Q ts
stuck_word d k f possible = stuck_then (is_word k) only_place f (leaf_of d (Word k)) possible (λ a u e. word_is k u a e) (λ _. tt)

-- ---- decisions by the next symbol

-- The soundness statement `Gives` holds for a parser that reads the next symbol as a given leaf.
pub advance_leaf_then : {C : Type 0} {f : Place → Parser C} {Q : C → Yield → List Symbol → Type 0} {ts : List Symbol} (leaf : Place → Leaf) (u : Terminal) → next ts ≡ Some u
    → ((q : Place) → (leaf q).terminal ≡ u) → ((q : Place) → (leaf q).nesting ≤ max_nesting) → ((q : Place) → (leaf q).item ≤ max_items) → ((q : Place) → IfSome (leaf q).place (λ p. q ≡ p))
    → ((q : Place) (mid : List Symbol) → Gives (f q) (λ y ys rest. Q y (leaf q ∷ ys) rest) mid) → Gives (bind advance f) Q ts
unfolding bind
advance_leaf_then {C} {f = f} {Q = Q} {ts = ts} leaf u comes is shallow few place second = record {
  gives = λ rest y h. start ts rest y comes h;
  goes = λ e h limit. refused ts e comes h limit;
  ending = λ none. absurd (nothing (ap next (sym none) ∙ comes));
}
  where
    nothing : ◌≡◌ {A = Option Terminal} None (Some u) → ⊥
    nothing e = cc

    refused : (ts : List Symbol) (e : Refusal) → next ts ≡ Some u → bind advance f ts ≡ Err e → IsLimit e.reason → Completed Q ts e.left
    refused [] e comes h limit = absurd (nothing comes)
    refused (t ∷ more) e comes h limit =
        let same : t.terminal ≡ u = cc in
        let d = (second t.place more).goes e h limit in
        record { value = d.value; leaves = leaf t.place ∷ d.leaves; begins = leaf_begins (leaf t.place) t (same ∙ sym (is t.place)) (place t.place) refl d.begins; post = d.post }

    start : (ts rest : List Symbol) (y : C) → next ts ≡ Some u → bind advance f ts ≡ Ok (y, rest) → Derived ts rest (λ ls. Q y ls rest)
    start [] rest y e h = absurd (cc)
    start (t ∷ more) rest y e h =
        let same : t.terminal ≡ u = cc in
        let d = (second t.place more).gives rest y h in
        record {
          leaves = leaf t.place ∷ d.leaves;
          front = (t, more, refl, record { terminal = same ∙ sym (is t.place); place = place t.place }, d.front);
          within = (record { nesting = shallow t.place; item = few t.place }, d.within);
          post = d.post;
        }

pub advance_then : {C : Type 0} {f : Place → Parser C} {Q : C → Yield → List Symbol → Type 0} {ts : List Symbol} (d : ℕ) (u : Terminal) → next ts ≡ Some u → d ≤ max_nesting
    → ((q : Place) (mid : List Symbol) → Gives (f q) (λ y ys rest. Q y (leaf_at d u q ∷ ys) rest) mid) → Gives (bind advance f) Q ts
advance_then d u comes shallow second = advance_leaf_then (λ q. leaf_at d u q) u comes (λ _. refl) (λ _. shallow) (λ _. omega arith) (λ _. refl) second

-- The soundness statement `Gives` holds for a parser that reads the next symbol as a leaf without a stored source position.
pub advance_bare_then : {C : Type 0} {f : Place → Parser C} {Q : C → Yield → List Symbol → Type 0} {ts : List Symbol} (d : ℕ) (u : Terminal) → next ts ≡ Some u → d ≤ max_nesting
    → ((q : Place) (mid : List Symbol) → Gives (f q) (λ y ys rest. Q y (leaf_of d u ∷ ys) rest) mid) → Gives (bind advance f) Q ts
advance_bare_then d u comes shallow second = advance_leaf_then (λ q. leaf_of d u) u comes (λ _. refl) (λ _. shallow) (λ _. omega arith) (λ _. tt) second

pub choose_gives : {A : Type 0} {f : Option Terminal → Parser A} {Q : A → Yield → List Symbol → Type 0} {ts : List Symbol} → ((o : Option Terminal) → next ts ≡ o → Gives (f o) Q ts) → Gives (choose f) Q ts
unfolding choose
choose_gives {f = f} {ts = ts} h = gives_instead (f (next ts)) refl (h (next ts) refl)

cond_gives : {A : Type 0} {p q : Parser A} {Q : A → Yield → List Symbol → Type 0} {ts : List Symbol} (b : Bool) → (b ≡ true → Gives p Q ts) → (b ≡ false → Gives q Q ts) → Gives (cond b p q) Q ts
cond_gives true h k = h refl
cond_gives false h k = k refl

pub test_gives : {A : Type 0} {p q : Parser A} {Q : A → Yield → List Symbol → Type 0} {ts : List Symbol} (g : List Symbol → Bool) → (g ts ≡ true → Gives p Q ts) → (g ts ≡ false → Gives q Q ts) → Gives (λ s. cond (g s) p q s) Q ts
test_gives {p = p} {q = q} {ts = ts} g h k = gives_instead (cond (g ts) p q) refl (cond_gives (g ts) h k)

pub sees_gives : {A : Type 0} (s : Sign) {p q : Parser A} {Q : A → Yield → List Symbol → Type 0} {ts : List Symbol} → Gives p Q ts → Gives q Q ts → Gives (if_sees s p q) Q ts
unfolding if_sees
sees_gives s h k = test_gives (sees s) (λ _. h) (λ _. k)

pub starts_gives : {A : Type 0} (begins : Terminal → Bool) {p q : Parser A} {Q : A → Yield → List Symbol → Type 0} {ts : List Symbol} → (starts begins (next ts) ≡ true → Gives p Q ts) → (starts begins (next ts) ≡ false → Gives q Q ts) → Gives (if_starts begins p q) Q ts
unfolding if_starts
starts_gives begins h k = test_gives (λ s. starts begins (next s)) h k

pub is_gives : {A B : Type 0} (reads : Option Terminal → Option A) {f : A → Parser B} {q : Parser B} {Q : B → Yield → List Symbol → Type 0} {ts : List Symbol} → ((x : A) → reads (next ts) ≡ Some x → Gives (f x) Q ts) → Gives q Q ts → Gives (if_is reads f q) Q ts
unfolding if_is
is_gives {A} reads {f = f} {q = q} {Q = Q} {ts = ts} h k = gives_instead (on_some (reads (next ts)) f q) refl (go (reads (next ts)) refl)
  where
    go : (o : Option A) → reads (next ts) ≡ o → Gives (on_some o f q) Q ts
    go None e = k
    go (Some x) e = h x e

-- The soundness statement `Gives` holds for a parser if it holds for the parser followed by returning the result unchanged.
pub bare_gives : {A : Type 0} {p : Parser A} {Q : A → Yield → List Symbol → Type 0} {ts : List Symbol} → Gives (bind p (λ x. pure x)) Q ts → Gives p Q ts
unfolding bind
bare_gives {A} {p = p} {ts = ts} h = gives_instead (bind p (λ x. pure x)) (same (p ts)) h
  where
    same : (o : Outcome A) → o ≡ and_then o (λ x. pure x)
    same (Ok q) = refl
    same (Err e) = refl

-- The soundness statement `Gives` holds for a test that rejects the next sign (punctuation token) because of a limit.
pub sees_limit_gives : {A : Type 0} (s : Sign) (why : Reason) {q : Parser A} {Q : A → Yield → List Symbol → Type 0} {ts : List Symbol} → ((p : Place) → Opened Q (Mark s) p) → Gives q Q ts → Gives (if_sees s (refuse why) q) Q ts
unfolding if_sees
sees_limit_gives s why {ts = ts} opened k = test_gives (sees s) (λ e. limit_gives why (Mark s) (seen (next ts) e) opened) (λ _. k)
  where
    found : (u : Terminal) (o : Option (Unit {0})) → is_sign s u ≡ o → is_some o ≡ true → ◌≡◌ {A = Option Terminal} (Some u) (Some (Mark s))
    found u (Some a) e h = ap Some (sign_is s u a e)
    found u None e h = absurd (cc)

    seen : (o : Option Terminal) → sees_terminal s o ≡ true → o ≡ Some (Mark s)
    seen None h = absurd (cc)
    seen (Some u) h = found u (is_sign s u) refl h
