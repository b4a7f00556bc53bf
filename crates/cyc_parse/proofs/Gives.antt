-- If a parser succeeds, it has read symbols that a yield spells and whose leaves keep the limits. If a parser rejects a symbol for a
-- limit, then the symbols up to the rejected one begin the yield of some result. This file contains the rules for composed parsers by
-- which both facts follow.
use Rattle.std.proofs.Common.{◌≡◌, ℕ, ◌≤◌, Bool, true, false, List, [], ◌∷◌, ◌++◌, Option, Some, None, Ok, Err, refl, sym, ap, subst, ◌∙◌, append_assoc}
use Rattle.std.specs.Option.{IfSome}
use Rattle.std.specs.List.{AllByRecursion}
use Rattle.std.specs.Prelude.{if◌then◌else◌}
use Rattle.cyc_syntax.specs.Symbols.{Place, Terminal, Symbol}
use Rattle.cyc_syntax.specs.Yields.{Leaf, Yield, item_number}
use Rattle.cyc_syntax.specs.Grammar.{IsWithin, max_items}
use Rattle.cyc_parse.specs.inside.Parsing.{Parser, Outcome, Refusal, Reason, Unexpected, TooDeep, TooLong, and_then, bind, next}
use Rattle.cyc_parse.specs.inside.Parsing.{advance, refuse, refuse_item, reason_by, starts, pure}
use Rattle.cyc_parse.proofs.Rules.{Front, leaf_at}
use Rattle.cyc_parse.proofs.Locality.{left_of, one_refusal}
use Rattle.cyc_parse.proofs.LocalExpressions.{was_read}

-- Says that the symbols begin with the yield of a tree, which keeps the limits on nesting and list
-- length and satisfies the condition `Post`.
pub record Derived (ts rest : List Symbol) (Post : Yield → Type 0) : Type 0 where
  pub leaves : Yield
  pub front : Front leaves ts rest
  pub within : AllByRecursion IsWithin leaves
  pub post : Post leaves

-- Says that a yield begins with the symbols that were read, up to the first symbol left.
pub record Begins (leaves : Yield) (ts left : List Symbol) : Type 0 where
  pub done : Yield
  pub more : Yield
  pub symbol : Symbol
  pub back : List Symbol
  pub are : leaves ≡ done ++ more
  pub left_are : left ≡ symbol ∷ back
  pub front : Front done ts back

-- Says that some result exists that satisfies the condition `Post` in the case that no symbol is left unread.
pub record Possible {A : Type 0} (Post : A → Yield → List Symbol → Type 0) : Type 0 where
  pub value : A
  pub leaves : Yield
  pub post : Post value leaves []

pub possibly : {A : Type 0} {Post : A → Yield → List Symbol → Type 0} (x : A) (ls : Yield) → Post x ls [] → Possible Post
possibly x ls post = record { value = x; leaves = ls; post = post }

-- Says that a result exists that satisfies the condition `Post` and whose yield begins with a symbol of the given
-- terminal and source position.
pub record Opened {A : Type 0} (Post : A → Yield → List Symbol → Type 0) (u : Terminal) (p : Place) : Type 0 where
  pub value : A
  pub leaf : Leaf
  pub following : Yield
  pub terminal : u ≡ leaf.terminal
  pub place : IfSome leaf.place (λ q. p ≡ q)
  pub post : Post value (leaf ∷ following) []

-- Says that a result exists that satisfies the condition `Post` and whose yield begins with the symbols that were read,
-- up to the rejected one.
pub record Completed {A : Type 0} (Post : A → Yield → List Symbol → Type 0) (ts left : List Symbol) : Type 0 where
  pub value : A
  pub leaves : Yield
  pub begins : Begins leaves ts left
  pub post : Post value leaves []

abbrev pub IsLimit : Reason → Type 0
IsLimit Unexpected = ⊥
IsLimit TooDeep = Unit {0}
IsLimit TooLong = Unit {0}

-- Says that each result of a parser on the given symbols satisfies the condition `Post`, which relates the value, the symbols read and the
-- symbols left. If a limit rejects a symbol, the symbols up to the rejected one begin some result that satisfies the condition `Post`.
pub record Gives {A : Type 0} (p : Parser A) (Post : A → Yield → List Symbol → Type 0) (ts : List Symbol) : Type 0 where
  pub gives : (rest : List Symbol) (x : A) → p ts ≡ Ok (x, rest) → Derived ts rest (λ ls. Post x ls rest)
  pub goes : (e : Refusal) → p ts ≡ Err e → IsLimit e.reason → Completed Post ts e.left
  -- If the parser's input has no symbols, then some result exists that satisfies the condition `Post` with no symbol left unread.
  pub ending : ts ≡ [] → Possible Post

-- Says that the leaves read earlier, followed by the symbols read now, are the yield of the parser's result, and that the result
-- satisfies the given condition.
abbrev pub Follows : {A : Type 0} → Yield → (A → Yield) → (A → List Symbol → Type 0) → A → Yield → List Symbol → Type 0
Follows before yield Is x ls rest = (before ++ ls ≡ yield x) × Is x rest

abbrev pub Spells : {A : Type 0} → (A → Yield) → (A → List Symbol → Type 0) → A → Yield → List Symbol → Type 0
Spells yield Is x ls rest = (ls ≡ yield x) × Is x rest

abbrev pub Any : {A : Type 0} → A → List Symbol → Type 0
Any x rest = Unit {0}

-- ---- parts

pub front-append : (xs ys : Yield) (ts mid rest : List Symbol) → Front xs ts mid → Front ys mid rest → Front (xs ++ ys) ts rest
front-append [] ys ts mid rest f g = subst (λ (s : List Symbol). Front ys s rest) (sym f) g
front-append (l ∷ xs) ys ts mid rest (t, more, e, is, f) g = (t, more, e, is, front-append xs ys more mid rest f g)

pub within-append : (xs ys : Yield) → AllByRecursion IsWithin xs → AllByRecursion IsWithin ys → AllByRecursion IsWithin (xs ++ ys)
within-append [] ys f g = g
within-append (l ∷ xs) ys (one, f) g = (one, within-append xs ys f g)

begins_after : (xs : Yield) {ys : Yield} {ts mid left : List Symbol} → Front xs ts mid → Begins ys mid left → Begins (xs ++ ys) ts left
begins_after xs {ts = ts} {mid = mid} front b = record {
  done = xs ++ b.done;
  more = b.more;
  symbol = b.symbol;
  back = b.back;
  are = ap (λ (zs : Yield). xs ++ zs) b.are ∙ sym (append_assoc xs b.done b.more);
  left_are = b.left_are;
  front = front-append xs b.done ts mid b.back front b.front;
}

-- If a yield begins with certain symbols, then it still does when one leaf is put before the yield and its symbol before the symbols.
pub leaf_begins : (leaf : Leaf) (t : Symbol) {ys : Yield} {more mid left : List Symbol} → t.terminal ≡ leaf.terminal → IfSome leaf.place (λ q. t.place ≡ q) → more ≡ mid → Begins ys mid left
    → Begins (leaf ∷ ys) (t ∷ more) left
leaf_begins leaf t {more = more} terminal place same b = begins_after (leaf ∷ []) (t, more, refl, record { terminal = terminal; place = place }, same) b

begins_before : {xs : Yield} (ys : Yield) {ts left : List Symbol} → Begins xs ts left → Begins (xs ++ ys) ts left
begins_before ys b = record {
  done = b.done;
  more = b.more ++ ys;
  symbol = b.symbol;
  back = b.back;
  are = ap (λ (zs : Yield). zs ++ ys) b.are ∙ append_assoc b.done b.more ys;
  left_are = b.left_are;
  front = b.front;
}

-- If a yield's first leaf is the rejected symbol, then the yield begins with the symbols up to that one.
pub begins_here : (leaf : Leaf) (following : Yield) (t : Symbol) (more left : List Symbol) → t.terminal ≡ leaf.terminal → IfSome leaf.place (λ q. t.place ≡ q) → left ≡ t ∷ more
    → Begins (leaf ∷ following) (t ∷ more) left
begins_here leaf following t more left terminal place same = record {
  done = leaf ∷ [];
  more = following;
  symbol = t;
  back = more;
  are = refl;
  left_are = same;
  front = (t, more, refl, record { terminal = terminal; place = place }, refl);
}

-- ---- rejections

pub no_limit : {P : Type 0} {A : Type 0} (left : List Symbol) (e : Refusal) → ◌≡◌ {A = Outcome A} (Err (record { reason = Unexpected; left = left })) (Err e) → IsLimit e.reason → P
no_limit left e h limit = absurd (subst IsLimit (sym (ap (λ (r : Refusal). r.reason) (one_refusal _ e h))) limit)

pub no_refusal : {P : Type 0} {A : Type 0} {e : Refusal} {r : A × List Symbol} → ◌≡◌ {A = Outcome A} (Ok r) (Err e) → P
no_refusal h = absurd (cc)

-- If a sequence of two parsers rejects its input, then either the first parser rejects it, or the second parser rejects the symbols
-- that the first leaves unread.
pub data WasRefused {A B : Type 0} (p : Parser A) (f : A → Parser B) (ts : List Symbol) (e : Refusal) : Type 0 where
  in_first : p ts ≡ Err e → WasRefused p f ts e
  in_second : (x : A) (mid : List Symbol) → p ts ≡ Ok (x, mid) → f x mid ≡ Err e → WasRefused p f ts e

pub was_refused : {A B : Type 0} (p : Parser A) (f : A → Parser B) (ts : List Symbol) (e : Refusal) → bind p f ts ≡ Err e → WasRefused p f ts e
unfolding bind
was_refused {A} {B} p f ts e h = go (p ts) refl h
  where
    go : (o : Outcome A) → p ts ≡ o → and_then o f ≡ Err e → WasRefused p f ts e
    go (Ok q) is k = in_second q.0 q.1 is k
    go (Err r) is k = in_first (is ∙ ap Err (one_refusal r e k))

-- ---- one part and then another

pub part_then : {A B : Type 0} {p : Parser A} {f : A → Parser B} {P : A → Yield → List Symbol → Type 0} {Q : B → Yield → List Symbol → Type 0} {ts : List Symbol}
    → Gives p P ts → ((x : A) (xs : Yield) (mid : List Symbol) → P x xs mid → Gives (f x) (λ y ys rest. Q y (xs ++ ys) rest) mid) → Gives (bind p f) Q ts
part_then {p = p} {f = f} {Q = Q} {ts = ts} first second = record {
  gives = λ rest y h.
      let w = was_read p f ts rest y h in
      let a = first.gives w.mid w.value w.first in
      let b = (second w.value a.leaves w.mid a.post).gives rest y w.second in
      record {
        leaves = a.leaves ++ b.leaves;
        front = front-append a.leaves b.leaves ts w.mid rest a.front b.front;
        within = within-append a.leaves b.leaves a.within b.within;
        post = b.post;
      };
  goes = λ e h limit. completed e limit (was_refused p f ts e h);
  ending = λ none.
      let a = first.ending none in
      let b = (second a.value a.leaves [] a.post).ending refl in
      record { value = b.value; leaves = a.leaves ++ b.leaves; post = b.post };
}
  where
    completed : (e : Refusal) → IsLimit e.reason → WasRefused p f ts e → Completed Q ts e.left
    completed e limit (in_first h) =
        let a = first.goes e h limit in
        let b = (second a.value a.leaves [] a.post).ending refl in
        record { value = b.value; leaves = a.leaves ++ b.leaves; begins = begins_before b.leaves a.begins; post = b.post }
    completed e limit (in_second x mid h k) =
        let a = first.gives mid x h in
        let b = (second x a.leaves mid a.post).goes e k limit in
        record { value = b.value; leaves = a.leaves ++ b.leaves; begins = begins_after a.leaves a.front b.begins; post = b.post }

-- The soundness statement `Gives` holds for a sequence of parsers if the result of the first parser determines the
-- symbols that this parser read.
pub spelled_then : {A B : Type 0} {p : Parser A} {f : A → Parser B} {yield : A → Yield} {Is : A → List Symbol → Type 0} {Q : B → Yield → List Symbol → Type 0} {ts : List Symbol}
    → Gives p (Spells yield Is) ts → ((x : A) (mid : List Symbol) → Is x mid → Gives (f x) (λ y ys rest. Q y (yield x ++ ys) rest) mid) → Gives (bind p f) Q ts
spelled_then {f = f} {yield = yield} {Q = Q} first second =
    part_then first (λ x xs mid (e, is). subst (λ (zs : Yield). Gives (f x) (λ y ys rest. Q y (zs ++ ys) rest) mid) (sym e) (second x mid is))

abbrev pub answer_of : {A : Type 0} → A → Outcome A → A
answer_of other (Ok q) = q.0
answer_of other (Err e) = other

-- The soundness statement `Gives` holds for a parser whose result becomes a node of the tree.
pub last_then : {A B : Type 0} {p : Parser A} (make : A → B) {yield : A → Yield} {Is : A → List Symbol → Type 0} {Q : B → Yield → List Symbol → Type 0} {ts : List Symbol}
    → Gives p (Spells yield Is) ts → ((x : A) (rest : List Symbol) → Is x rest → Q (make x) (yield x) rest) → Gives (bind p (λ x. pure (make x))) Q ts
last_then {A} {B} {p = p} make {yield = yield} {Is = Is} {Q = Q} {ts = ts} first post = record {
  gives = λ rest y h.
      let w = was_read p (λ x. pure (make x)) ts rest y h in
      let same : w.mid ≡ rest = ap left_of w.second in
      let value : make w.value ≡ y = ap (answer_of y) w.second in
      let a = first.gives w.mid w.value w.first in
      record {
        leaves = a.leaves;
        front = subst (λ (s : List Symbol). Front a.leaves ts s) same a.front;
        within = a.within;
        post = subst (λ (x : B). Q x a.leaves rest) value (subst (λ (s : List Symbol). Q (make w.value) a.leaves s) same (subst (λ (zs : Yield). Q (make w.value) zs w.mid) (sym a.post.0) (post w.value w.mid a.post.1)));
      };
  goes = λ e h limit. completed e limit (was_refused p (λ x. pure (make x)) ts e h);
  ending = λ none.
      let a = first.ending none in
      record { value = make a.value; leaves = a.leaves; post = made a.value a.leaves a.post };
}
  where
    made : (x : A) (ls : Yield) → Spells yield Is x ls [] → Q (make x) ls []
    made x ls (e, is) = subst (λ (zs : Yield). Q (make x) zs []) (sym e) (post x [] is)

    completed : (e : Refusal) → IsLimit e.reason → WasRefused p (λ x. pure (make x)) ts e → Completed Q ts e.left
    completed e limit (in_first h) =
        let a = first.goes e h limit in
        record { value = make a.value; leaves = a.leaves; begins = a.begins; post = made a.value a.leaves a.post }
    completed e limit (in_second x mid h k) = no_refusal k

pub pure_gives : {A : Type 0} {Q : A → Yield → List Symbol → Type 0} {ts : List Symbol} {x : A} → Q x [] ts → Gives (pure x) Q ts
pure_gives {A} {Q = Q} {ts = ts} {x = x} post = record {
  gives = λ rest y h.
      let same : ts ≡ rest = ap left_of h in
      let value : x ≡ y = ap (answer_of y) h in
      record { leaves = []; front = same; within = tt; post = subst (λ (z : A). Q z [] rest) value (subst (λ (s : List Symbol). Q x [] s) same post) };
  goes = λ e h limit. no_refusal h;
  ending = λ none. record { value = x; leaves = []; post = subst (λ (s : List Symbol). Q x [] s) none post };
}

-- ---- parsers that reject

-- The soundness statement `Gives` holds for a parser that rejects the next symbol as unexpected.
pub unexpected_gives : {A : Type 0} {Q : A → Yield → List Symbol → Type 0} {ts : List Symbol} → Possible Q → Gives (refuse {A = A} Unexpected) Q ts
unexpected_gives {ts = ts} possible = record { gives = λ rest y h. absurd (cc); goes = λ e h limit. no_limit ts e h limit; ending = λ none. possible }

pub then_unexpected : {A : Type 0} {Q : A → Yield → List Symbol → Type 0} {ts : List Symbol} → Possible Q → Gives (bind advance (λ _. refuse {A = A} Unexpected)) Q ts
then_unexpected {A} {Q = Q} {ts = ts} possible = record {
  gives = λ rest y h. let w = was_read advance (λ _. refuse Unexpected) ts rest y h in absurd (no w.second);
  goes = λ e h limit. refused ts e limit (was_refused advance (λ _. refuse Unexpected) ts e h);
  ending = λ none. possible;
}
  where
    no : {e : Refusal} {r : A × List Symbol} → ◌≡◌ {A = Outcome A} (Err e) (Ok r) → ⊥
    no e = cc

    refused : (ts : List Symbol) (e : Refusal) → IsLimit e.reason → WasRefused advance (λ _. refuse {A = A} Unexpected) ts e → Completed Q ts e.left
    refused [] e limit (in_first h) = no_limit [] e h limit
    refused (t ∷ ts) e limit (in_first h) = no_refusal h
    refused ts e limit (in_second x mid h k) = no_limit mid e k limit

completed_here : {A : Type 0} {Q : A → Yield → List Symbol → Type 0} (t : Symbol) (more left : List Symbol) → left ≡ t ∷ more → Opened Q t.terminal t.place → Completed Q (t ∷ more) left
completed_here t more left same o =
    record { value = o.value; leaves = o.leaf ∷ o.following; begins = begins_here o.leaf o.following t more left o.terminal o.place same; post = o.post }

-- The soundness statement `Gives` holds for a parser that rejects the next symbol because of a limit, if the yield of
-- some result begins with that symbol.
pub limit_gives : {A : Type 0} {Q : A → Yield → List Symbol → Type 0} {ts : List Symbol} (why : Reason) (u : Terminal) → next ts ≡ Some u → ((p : Place) → Opened Q u p) → Gives (refuse {A = A} why) Q ts
limit_gives {A} {Q = Q} {ts = ts} why u comes opened = record {
  gives = λ rest y h. absurd (cc);
  goes = λ e h limit. start ts e comes (ap (λ (r : Refusal). r.left) (one_refusal _ e h));
  ending = λ none. absurd (nothing (ap next (sym none) ∙ comes));
}
  where
    nothing : ◌≡◌ {A = Option Terminal} None (Some u) → ⊥
    nothing e = cc

    start : (ts : List Symbol) (e : Refusal) → next ts ≡ Some u → ts ≡ e.left → Completed Q ts e.left
    start [] e is same = absurd (nothing is)
    start (t ∷ more) e is same = let terminal : t.terminal ≡ u = cc in completed_here t more e.left (sym same) (subst (λ (w : Terminal). Opened Q w t.place) (sym terminal) (opened t.place))

-- The soundness statement `Gives` holds for a parser that rejects a list element because of a limit, if every symbol that may begin an
-- element begins the yield of some result.
pub begun_gives : {A : Type 0} {Q : A → Yield → List Symbol → Type 0} {ts : List Symbol} (begins : Terminal → Bool) (why : Reason) → starts begins (next ts) ≡ true
    → ((u : Terminal) (p : Place) → begins u ≡ true → Opened Q u p) → Gives (refuse {A = A} why) Q ts
begun_gives {A} {Q = Q} {ts = ts} begins why comes opened = go (next ts) refl comes
  where
    go : (o : Option Terminal) → next ts ≡ o → starts begins o ≡ true → Gives (refuse {A = A} why) Q ts
    go None e h = absurd (cc)
    go (Some u) e h = limit_gives why u e (λ p. opened u p h)

pub item_refusal_gives : {A : Type 0} {Q : A → Yield → List Symbol → Type 0} {ts : List Symbol} (begins : Terminal → Bool) (why : Reason) → Possible Q
    → ((u : Terminal) (p : Place) → begins u ≡ true → Opened Q u p) → Gives (refuse_item {A = A} begins why) Q ts
unfolding refuse_item
item_refusal_gives {A} {Q = Q} {ts = ts} begins why possible opened = record {
  gives = λ rest y h. absurd (cc);
  goes = λ e h limit. start ts e h limit;
  ending = λ none. possible;
}
  where
    by_begin : (b : Bool) (t : Symbol) (more : List Symbol) (e : Refusal) → begins t.terminal ≡ b
        → ◌≡◌ {A = Outcome A} (Err (record { reason = if b then why else Unexpected; left = t ∷ more })) (Err e) → IsLimit e.reason → Completed Q (t ∷ more) e.left
    by_begin true t more e is h limit = completed_here t more e.left (sym (ap (λ (r : Refusal). r.left) (one_refusal _ e h))) (opened t.terminal t.place is)
    by_begin false t more e is h limit = no_limit (t ∷ more) e h limit

    start : (ts : List Symbol) (e : Refusal) → ◌≡◌ {A = Outcome A} (Err (record { reason = reason_by begins why (next ts); left = ts })) (Err e) → IsLimit e.reason → Completed Q ts e.left
    start [] e h limit = no_limit [] e h limit
    start (t ∷ more) e h limit = by_begin (begins t.terminal) t more e refl h limit

-- ---- weakening and rewriting of facts

-- In the soundness statement `Gives`, a condition on results may be replaced by a condition that it implies.
pub gives_as : {A : Type 0} {p : Parser A} {P Q : A → Yield → List Symbol → Type 0} {ts : List Symbol} → ((x : A) (ls : Yield) (rest : List Symbol) → P x ls rest → Q x ls rest) → Gives p P ts → Gives p Q ts
gives_as weaker h = record {
  gives = λ rest x e. let a = h.gives rest x e in record { leaves = a.leaves; front = a.front; within = a.within; post = weaker x a.leaves rest a.post };
  goes = λ e is limit. let a = h.goes e is limit in record { value = a.value; leaves = a.leaves; begins = a.begins; post = weaker a.value a.leaves [] a.post };
  ending = λ none. let a = h.ending none in record { value = a.value; leaves = a.leaves; post = weaker a.value a.leaves [] a.post };
}

-- In the soundness statement `Gives`, a parser may be replaced by one that returns an equal result on the given symbols.
pub gives_instead : {A : Type 0} {p : Parser A} (q : Parser A) {Q : A → Yield → List Symbol → Type 0} {ts : List Symbol} → p ts ≡ q ts → Gives q Q ts → Gives p Q ts
gives_instead q same h = record { gives = λ rest x e. h.gives rest x (sym same ∙ e); goes = λ e is limit. h.goes e (sym same ∙ is) limit; ending = h.ending }

-- ---- items, whose first leaves have their numbers

front-number : (i : ℕ) (ls : Yield) (ts rest : List Symbol) → Front ls ts rest → Front (item_number i ls) ts rest
front-number i [] ts rest f = f
front-number i (l ∷ ls) ts rest (t, more, e, is, f) = (t, more, e, record { terminal = is.terminal; place = is.place }, f)

all-number : (i : ℕ) (ls : Yield) → i ≤ max_items → AllByRecursion IsWithin ls → AllByRecursion IsWithin (item_number i ls)
all-number i [] few all = tt
all-number i (l ∷ ls) few (one, all) = (record { nesting = one.nesting; item = few }, all)

begins_number : (i : ℕ) {ls : Yield} {ts left : List Symbol} → Begins ls ts left → Begins (item_number i ls) ts left
begins_number i {ls = ls} {ts = ts} {left = left} b = go b.done b.are b.front
  where
    go : (done : Yield) → ls ≡ done ++ b.more → Front done ts b.back → Begins (item_number i ls) ts left
    go [] are front = record { done = []; more = item_number i b.more; symbol = b.symbol; back = b.back; are = ap (item_number i) are; left_are = b.left_are; front = front }
    go (l ∷ done) are front = record { done = item_number i (l ∷ done); more = b.more; symbol = b.symbol; back = b.back; are = ap (item_number i) are; left_are = b.left_are; front = front-number i (l ∷ done) ts b.back front }

pub item_gives : {A : Type 0} {p : Parser A} {yield : A → Yield} {Is : A → List Symbol → Type 0} {ts : List Symbol} (i : ℕ) → i ≤ max_items → Gives p (Spells yield Is) ts → Gives p (Spells (λ x. item_number i (yield x)) Is) ts
item_gives {yield = yield} i few h = record {
  gives = λ rest x e.
      let a = h.gives rest x e in
      record { leaves = item_number i a.leaves; front = front-number i a.leaves _ rest a.front; within = all-number i a.leaves few a.within; post = (ap (item_number i) a.post.0, a.post.1) };
  goes = λ e is limit.
      let a = h.goes e is limit in
      record { value = a.value; leaves = item_number i a.leaves; begins = begins_number i a.begins; post = (ap (item_number i) a.post.0, a.post.1) };
  ending = λ none. let a = h.ending none in record { value = a.value; leaves = item_number i a.leaves; post = (ap (item_number i) a.post.0, a.post.1) };
}

-- ---- results whose yield begins with a given symbol

pub opened_at : {A : Type 0} {Q : A → Yield → List Symbol → Type 0} (d : ℕ) (u : Terminal) (p : Place) (x : A) (following : Yield) → Q x (leaf_at d u p ∷ following) [] → Opened Q u p
opened_at d u p x following post = record { value = x; leaf = leaf_at d u p; following = following; terminal = refl; place = refl; post = post }

-- A result proves `Opened` (some result begins with the given symbol) if its first leaf is this symbol. The leaf
-- has no stored source position and has a given index in its list.
pub opened_item : {A : Type 0} {Q : A → Yield → List Symbol → Type 0} (d i : ℕ) (u : Terminal) (p : Place) (x : A) (following : Yield) → Q x (record { terminal = u; place = None; nesting = d; item = i } ∷ following) [] → Opened Q u p
opened_item d i u p x following post = record { value = x; leaf = record { terminal = u; place = None; nesting = d; item = i }; following = following; terminal = refl; place = tt; post = post }

pub numbered : {A : Type 0} {yield : A → Yield} {Is : A → List Symbol → Type 0} {u : Terminal} {p : Place} (i : ℕ) → Opened (Spells yield Is) u p → Opened (Spells (λ x. item_number i (yield x)) Is) u p
numbered i o = record { value = o.value; leaf = record o.leaf { item = i }; following = o.following; terminal = o.terminal; place = o.place; post = (ap (item_number i) o.post.0, o.post.1) }

-- `Opened` (some result begins with the given symbol) holds for a sequence of two parsers if it holds for the first, and the second has
-- some result after it.
pub opened_then : {A B : Type 0} {yield : A → Yield} {Is : A → List Symbol → Type 0} {Q : B → Yield → List Symbol → Type 0} {u : Terminal} {p : Place}
    → Opened (Spells yield Is) u p → ((x : A) → Is x [] → Possible (λ y ys rest. Q y (yield x ++ ys) rest)) → Opened Q u p
opened_then {Q = Q} o more =
    let b = more o.value o.post.1 in
    record { value = b.value; leaf = o.leaf; following = o.following ++ b.leaves; terminal = o.terminal; place = o.place; post = subst (λ (zs : Yield). Q b.value (zs ++ b.leaves) []) (sym o.post.0) b.post }

pub opening_as : {A : Type 0} {P Q : A → Yield → List Symbol → Type 0} {u : Terminal} {p : Place} → ((x : A) (ls : Yield) → P x ls [] → Q x ls []) → Opened P u p → Opened Q u p
opening_as weaker o = record { value = o.value; leaf = o.leaf; following = o.following; terminal = o.terminal; place = o.place; post = weaker o.value (o.leaf ∷ o.following) o.post }
