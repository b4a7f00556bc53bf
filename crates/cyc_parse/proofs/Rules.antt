-- The result of a parser on symbols that begin with a given yield, and the rules for composed parsers.
use Rattle.std.proofs.Common.{◌≡◌, ℕ, zero, suc, ◌+◌, ◌≤◌, ◌<◌, Bool, true, false, cond, List, [], ◌∷◌, ◌++◌, Option, Some, None, Ok, Err, refl, sym, ap, subst, ◌∙◌, arith, append-nil, append_assoc, length, zero-le, suc-le-suc}
use Rattle.std.specs.Option.{IfSome}
use Rattle.std.specs.Prelude.{nat_lt}
use denote.Enum.Bare.{true_same}
use Rattle.cyc_words.proofs.Numbers.{lt-nat_lt, le-nat_lt}
use Rattle.cyc_syntax.specs.declared.tokens.Keyword.{Keyword}
use Rattle.cyc_syntax.specs.declared.tokens.Sign.{Sign}
use Rattle.cyc_syntax.specs.contracts.tokens.Keyword as keywords
use Rattle.cyc_syntax.specs.contracts.tokens.Sign as signs
use Rattle.cyc_syntax.specs.Symbols.{Place, Terminal, Identifier, RegionName, Word, Mark, Symbol}
use Rattle.cyc_syntax.specs.Trees.{Named}
use Rattle.cyc_syntax.specs.Yields.{Leaf, Yield, item_number}
use Rattle.cyc_syntax.specs.Grammar.{IsLeaf, max_nesting, max_items}
use Rattle.cyc_parse.specs.inside.Parsing.{Parser, Outcome, Reason, TooDeep, TooLong, and_then, bind, choose, next, take, is_sign, is_word, identifier_name, region_of_terminal, named, only_place}
use Rattle.cyc_parse.specs.inside.Parsing.{sign, word, identifier, region_name, accept, accept_if, advance, if_sees, sees, sees_terminal, refuse, refuse_item, starts, if_starts, on_some, if_is, pure}

-- Holds if the symbols consist of the symbols of a yield, followed by `rest`.
abbrev pub Front : Yield → List Symbol → List Symbol → Type 0
Front [] ts rest = ts ≡ rest
Front (leaf ∷ leaves) ts rest = (t : Symbol) × (more : List Symbol) × (ts ≡ t ∷ more) × IsLeaf leaf t × Front leaves more rest

-- Returns the given outcome, or a rejection at the first leaf of the yield that breaks a limit.
abbrev pub judge : {A : Type 0} → Yield → List Symbol → Outcome A → Outcome A
judge [] ts outcome = outcome
judge (leaf ∷ leaves) [] outcome = outcome
judge (leaf ∷ leaves) (t ∷ ts) outcome =
    cond (nat_lt max_nesting leaf.nesting) (Err (record { reason = TooDeep; left = t ∷ ts }))
    (cond (nat_lt max_items leaf.item) (Err (record { reason = TooLong; left = t ∷ ts }))
    (judge leaves ts outcome))

-- Says that, if the symbols begin with the yield of x and the symbols after it cannot continue x, the parser returns x or rejects the
-- first broken limit.
pub record Reads {A : Type 0} (p : Parser A) (x : A) (leaves : Yield) (Ends : List Symbol → Type 0) : Type 0 where
  pub reads : (ts rest : List Symbol) → Front leaves ts rest → Ends rest → p ts ≡ judge leaves ts (Ok (x, rest))

abbrev pub Always : List Symbol → Type 0
Always ts = Unit {0}

-- ---- splitting and joining of yields

pub front-split : (xs ys : Yield) (ts rest : List Symbol) → Front (xs ++ ys) ts rest → (mid : List Symbol) × Front xs ts mid × Front ys mid rest
front-split [] ys ts rest f = (ts, refl, f)
front-split (l ∷ xs) ys ts rest (t, more, e, is, f) = let (mid, first, second) = front-split xs ys more rest f in (mid, (t, more, e, is, first), second)

pub judge-append : {A : Type 0} (xs ys : Yield) (ts mid : List Symbol) (outcome : Outcome A) → Front xs ts mid → judge (xs ++ ys) ts outcome ≡ judge xs ts (judge ys mid outcome)
judge-append [] ys ts mid outcome f = ap (λ (s : List Symbol). judge ys s outcome) f
judge-append {A} (l ∷ xs) ys ts mid outcome (t, more, e, is, f) =
    subst (λ (s : List Symbol). judge (l ∷ (xs ++ ys)) s outcome ≡ judge (l ∷ xs) s (judge ys mid outcome)) (sym e)
    (ap (λ (o : Outcome A). cond (nat_lt max_nesting l.nesting) (Err (record { reason = TooDeep; left = t ∷ more })) (cond (nat_lt max_items l.item) (Err (record { reason = TooLong; left = t ∷ more })) o)) (judge-append xs ys more mid outcome f))

and_then-cond : {A B : Type 0} (b : Bool) (x y : Outcome A) (f : A → Parser B) → and_then (cond b x y) f ≡ cond b (and_then x f) (and_then y f)
and_then-cond true x y f = refl
and_then-cond false x y f = refl

pub and_then-judge : {A B : Type 0} (xs : Yield) (ts : List Symbol) (outcome : Outcome A) (f : A → Parser B) → and_then (judge xs ts outcome) f ≡ judge xs ts (and_then outcome f)
and_then-judge [] ts outcome f = refl
and_then-judge (l ∷ xs) [] outcome f = refl
and_then-judge {A} {B} (l ∷ xs) (t ∷ ts) outcome f =
    and_then-cond (nat_lt max_nesting l.nesting) (Err (record { reason = TooDeep; left = t ∷ ts })) (cond (nat_lt max_items l.item) (Err (record { reason = TooLong; left = t ∷ ts })) (judge xs ts outcome)) f
    ∙ ap (λ (o : Outcome B). cond (nat_lt max_nesting l.nesting) (Err (record { reason = TooDeep; left = t ∷ ts })) o)
    (and_then-cond (nat_lt max_items l.item) (Err (record { reason = TooLong; left = t ∷ ts })) (judge xs ts outcome) f
    ∙ ap (λ (o : Outcome B). cond (nat_lt max_items l.item) (Err (record { reason = TooLong; left = t ∷ ts })) o) (and_then-judge xs ts outcome f))

-- ---- rules for composed parsers

-- The completeness statement `Reads` holds for a parser followed by another if it holds for both.
pub then_reads : {A B : Type 0} {p : Parser A} (f : A → Parser B) {x : A} {y : B} {xs ys : Yield} {EndsX EndsY : List Symbol → Type 0}
    → Reads p x xs EndsX → Reads (f x) y ys EndsY → ((mid rest : List Symbol) → Front ys mid rest → EndsY rest → EndsX mid) → Reads (bind p f) y (xs ++ ys) EndsY
unfolding bind
then_reads {p = p} f {x = x} {y = y} {xs = xs} {ys = ys} first second between = record {
  reads = λ ts rest front ends.
      let (mid, front_x, front_y) = front-split xs ys ts rest front in
      ap (λ (o : Outcome _). and_then o f) (first.reads ts mid front_x (between mid rest front_y ends))
      ∙ and_then-judge xs ts (Ok (x, mid)) f
      ∙ ap (judge xs ts) (second.reads mid rest front_y ends)
      ∙ sym (judge-append xs ys ts mid (Ok (y, rest)) front_x);
}

pub pure_reads : {A : Type 0} (x : A) (Ends : List Symbol → Type 0) → Reads (pure x) x [] Ends
pure_reads x Ends = record { reads = λ ts rest front ends. ap (λ (s : List Symbol). Ok (x, s)) front }

-- The completeness statement `Reads` holds for a parser followed by a function that makes a node of its result.
pub last_reads : {A B : Type 0} {p : Parser A} (f : A → Parser B) {x : A} {y : B} {xs : Yield} {Ends : List Symbol → Type 0} → ((ts : List Symbol) → f x ts ≡ Ok (y, ts))
    → Reads p x xs Ends → Reads (bind p f) y xs Ends
unfolding bind
last_reads f {x = x} {y = y} {xs = xs} is h = record {
  reads = λ ts rest front ends.
      ap (λ (o : Outcome _). and_then o f) (h.reads ts rest front ends) ∙ and_then-judge xs ts (Ok (x, rest)) f ∙ ap (judge xs ts) (is rest);
}

-- In the completeness statement `Reads`, a parser may be replaced by one that returns an equal result on the given symbols.
pub reads_instead : {A : Type 0} {p : Parser A} (q : Parser A) {x : A} {xs : Yield} {Ends : List Symbol → Type 0}
    → ((ts rest : List Symbol) → Front xs ts rest → Ends rest → p ts ≡ q ts) → Reads q x xs Ends → Reads p x xs Ends
reads_instead q same h = record { reads = λ ts rest front ends. same ts rest front ends ∙ h.reads ts rest front ends }

-- In the completeness statement `Reads`, the condition on the following symbols may be strengthened.
pub reads_before : {A : Type 0} {p : Parser A} {x : A} {xs : Yield} (Ends : List Symbol → Type 0) {More : List Symbol → Type 0}
    → Reads p x xs Ends → ((rest : List Symbol) → More rest → Ends rest) → Reads p x xs More
reads_before Ends h weaker = record { reads = λ ts rest front ends. h.reads ts rest front (weaker rest ends) }

-- ---- one symbol

-- Relates the nesting depth d of a leaf to `room`, the number of nesting levels left for it.
abbrev pub Fits : ℕ → ℕ → Type 0
Fits room d = room + d ≡ suc max_nesting

pub judge-leaf : {A : Type 0} (leaf : Leaf) (ys : Yield) (t : Symbol) (more : List Symbol) (outcome : Outcome A) → leaf.nesting ≤ max_nesting → leaf.item ≤ max_items
    → judge (leaf ∷ ys) (t ∷ more) outcome ≡ judge ys more outcome
judge-leaf leaf ys t more outcome shallow few = rw (le-nat_lt max_nesting leaf.nesting shallow, le-nat_lt max_items leaf.item few) refl

pub judge-deep : {A : Type 0} (leaf : Leaf) (ys : Yield) (t : Symbol) (more : List Symbol) (outcome : Outcome A) → max_nesting < leaf.nesting
    → judge (leaf ∷ ys) (t ∷ more) outcome ≡ Err (record { reason = TooDeep; left = t ∷ more })
judge-deep leaf ys t more outcome deep = rw (lt-nat_lt max_nesting leaf.nesting deep) refl

accept_reads : {B C : Type 0} (room : ℕ) (b : B) (f : B → Parser C) (leaf : Leaf) (ys : Yield) (t : Symbol) (more : List Symbol) (outcome : Outcome C)
    → Fits room leaf.nesting → leaf.item ≤ max_items → f b more ≡ judge ys more outcome
    → and_then (accept room b t more) f ≡ judge (leaf ∷ ys) (t ∷ more) outcome
accept_reads zero b f leaf ys t more outcome fits few e = sym (judge-deep leaf ys t more outcome (omega arith))
accept_reads (suc room) b f leaf ys t more outcome fits few e = e ∙ sym (judge-leaf leaf ys t more outcome (omega arith) few)

-- The completeness statement `Reads` holds for the parser of one symbol, followed by another parser.
pub token_reads : {A B C : Type 0} (room : ℕ) (reads : Terminal → Option A) (give : A → Place → B) (f : B → Parser C) {y : C} {ys : Yield} {Ends : List Symbol → Type 0} (leaf : Leaf) (a : A)
    → Fits room leaf.nesting → leaf.item ≤ max_items → reads leaf.terminal ≡ Some a
    → ((p : Place) → IfSome leaf.place (λ q. p ≡ q) → Reads (f (give a p)) y ys Ends)
    → Reads (bind (take room reads give) f) y (leaf ∷ ys) Ends
unfolding bind take
token_reads room reads give f {y = y} {ys = ys} leaf a fits few is next = record {
  reads = λ ts rest (t, more, e, is_leaf, front) ends.
      subst (λ (s : List Symbol). and_then (take room reads give s) f ≡ judge (leaf ∷ ys) s (Ok (y, rest))) (sym e)
      (ap (λ (o : Option _). and_then (accept_if room o give t more) f) (ap reads is_leaf.terminal ∙ is)
      ∙ accept_reads room (give a t.place) f leaf ys t more (Ok (y, rest)) fits few ((next t.place is_leaf.place).reads more rest front ends));
}

-- Makes a leaf without a stored source position (`leaf_of`) or with one (`leaf_at`).
abbrev pub leaf_of : ℕ → Terminal → Leaf
leaf_of d t = record { terminal = t; place = None; nesting = d; item = 0 }

abbrev pub leaf_at : ℕ → Terminal → Place → Leaf
leaf_at d t p = record { terminal = t; place = Some p; nesting = d; item = 0 }

same_sign-self : (s : Sign) → is_sign s (Mark s) ≡ Some tt
same_sign-self s = rw (true_same signs.the_type s s refl) refl

same_word-self : (k : Keyword) → is_word k (Word k) ≡ Some tt
same_word-self k = rw (true_same keywords.the_type k k refl) refl

pub sign_reads : {C : Type 0} (room d : ℕ) (s : Sign) (f : Place → Parser C) {y : C} {ys : Yield} {Ends : List Symbol → Type 0} → Fits room d
    → ((p : Place) → Reads (f p) y ys Ends) → Reads (bind (sign room s) f) y (leaf_of d (Mark s) ∷ ys) Ends
sign_reads room d s f fits next = token_reads room (is_sign s) only_place f (leaf_of d (Mark s)) tt fits (omega arith) (same_sign-self s) (λ p _. next p)

pub sign_reads_at : {C : Type 0} (room d : ℕ) (s : Sign) (q : Place) (f : Place → Parser C) {y : C} {ys : Yield} {Ends : List Symbol → Type 0} → Fits room d
    → Reads (f q) y ys Ends → Reads (bind (sign room s) f) y (leaf_at d (Mark s) q ∷ ys) Ends
sign_reads_at room d s q f {y = y} {ys = ys} {Ends = Ends} fits next =
    token_reads room (is_sign s) only_place f (leaf_at d (Mark s) q) tt fits (omega arith) (same_sign-self s) (λ p e. subst (λ (x : Place). Reads (f x) y ys Ends) (sym e) next)

pub word_reads : {C : Type 0} (room d : ℕ) (k : Keyword) (f : Place → Parser C) {y : C} {ys : Yield} {Ends : List Symbol → Type 0} → Fits room d
    → ((p : Place) → Reads (f p) y ys Ends) → Reads (bind (word room k) f) y (leaf_of d (Word k) ∷ ys) Ends
word_reads room d k f fits next = token_reads room (is_word k) only_place f (leaf_of d (Word k)) tt fits (omega arith) (same_word-self k) (λ p _. next p)

pub word_reads_at : {C : Type 0} (room d : ℕ) (k : Keyword) (q : Place) (f : Place → Parser C) {y : C} {ys : Yield} {Ends : List Symbol → Type 0} → Fits room d
    → Reads (f q) y ys Ends → Reads (bind (word room k) f) y (leaf_at d (Word k) q ∷ ys) Ends
word_reads_at room d k q f {y = y} {ys = ys} {Ends = Ends} fits next =
    token_reads room (is_word k) only_place f (leaf_at d (Word k) q) tt fits (omega arith) (same_word-self k) (λ p e. subst (λ (x : Place). Reads (f x) y ys Ends) (sym e) next)

pub identifier_reads : {C : Type 0} (room d : ℕ) (x : Named) (f : Named → Parser C) {y : C} {ys : Yield} {Ends : List Symbol → Type 0} → Fits room d
    → Reads (f x) y ys Ends → Reads (bind (identifier room) f) y (leaf_at d (Identifier x.name) x.place ∷ ys) Ends
identifier_reads room d x f {y = y} {ys = ys} {Ends = Ends} fits next =
    token_reads room identifier_name named f (leaf_at d (Identifier x.name) x.place) x.name fits (omega arith) refl
    (λ p e. subst (λ (q : Place). Reads (f (named x.name q)) y ys Ends) (sym e) next)

-- The completeness statement `Reads` holds for the parser of a region name whose index in its list is within the limit.
pub region_reads : {C : Type 0} (room d i : ℕ) (x : Named) (f : Named → Parser C) {y : C} {ys : Yield} {Ends : List Symbol → Type 0} → Fits room d → i ≤ max_items
    → Reads (f x) y ys Ends → Reads (bind (region_name room) f) y (record { terminal = RegionName x.name; place = Some x.place; nesting = d; item = i } ∷ ys) Ends
region_reads room d i x f {y = y} {ys = ys} {Ends = Ends} fits few next =
    token_reads room region_of_terminal named f (record { terminal = RegionName x.name; place = Some x.place; nesting = d; item = i }) x.name fits few refl
    (λ p e. subst (λ (q : Place). Reads (f (named x.name q)) y ys Ends) (sym e) next)

-- ---- decisions by the next symbol

-- If the symbols begin with the yield of a leaf, then the next symbol is the leaf's terminal.
pub front-next : (leaf : Leaf) (ys : Yield) (ts rest : List Symbol) → Front (leaf ∷ ys) ts rest → next ts ≡ Some leaf.terminal
front-next leaf ys ts rest (t, more, e, is_leaf, front) = ap next e ∙ ap Some is_leaf.terminal

pub advance_reads : {C : Type 0} (f : Place → Parser C) {y : C} {ys : Yield} {Ends : List Symbol → Type 0} (leaf : Leaf) → leaf.nesting ≤ max_nesting → leaf.item ≤ max_items
    → ((p : Place) → IfSome leaf.place (λ q. p ≡ q) → Reads (f p) y ys Ends) → Reads (bind advance f) y (leaf ∷ ys) Ends
unfolding bind
advance_reads f {y = y} {ys = ys} leaf shallow few next = record {
  reads = λ ts rest (t, more, e, is_leaf, front) ends.
      subst (λ (s : List Symbol). and_then (advance s) f ≡ judge (leaf ∷ ys) s (Ok (y, rest))) (sym e)
      ((next t.place is_leaf.place).reads more rest front ends ∙ sym (judge-leaf leaf ys t more (Ok (y, rest)) shallow few));
}

-- The completeness statement `Reads` holds for reading the next symbol, whose source position the tree stores.
pub advance_reads_at : {C : Type 0} (d : ℕ) (t : Terminal) (q : Place) (f : Place → Parser C) {y : C} {ys : Yield} {Ends : List Symbol → Type 0} → d ≤ max_nesting
    → Reads (f q) y ys Ends → Reads (bind advance f) y (leaf_at d t q ∷ ys) Ends
advance_reads_at d t q f {y = y} {ys = ys} {Ends = Ends} shallow next =
    advance_reads f (leaf_at d t q) shallow (omega arith) (λ p e. subst (λ (x : Place). Reads (f x) y ys Ends) (sym e) next)

pub choose_reads : {A : Type 0} (f : Option Terminal → Parser A) {x : A} {Ends : List Symbol → Type 0} (leaf : Leaf) (ys : Yield)
    → Reads (f (Some leaf.terminal)) x (leaf ∷ ys) Ends → Reads (choose f) x (leaf ∷ ys) Ends
unfolding choose
choose_reads f leaf ys h = reads_instead (f (Some leaf.terminal)) (λ ts rest front ends. ap (λ (t : Option Terminal). f t ts) (front-next leaf ys ts rest front)) h

pub sees_reads : {A : Type 0} (s : Sign) (p q : Parser A) {x : A} {Ends : List Symbol → Type 0} (leaf : Leaf) (ys : Yield) → sees_terminal s (Some leaf.terminal) ≡ true
    → Reads p x (leaf ∷ ys) Ends → Reads (if_sees s p q) x (leaf ∷ ys) Ends
unfolding if_sees
sees_reads s p q leaf ys is h = reads_instead p (λ ts rest front ends. ap (λ (b : Bool). (cond b p q) ts) (ap (sees_terminal s) (front-next leaf ys ts rest front) ∙ is)) h

pub unseen_reads : {A : Type 0} (s : Sign) (p q : Parser A) {x : A} {xs : Yield} {Ends : List Symbol → Type 0} → ((ts rest : List Symbol) → Front xs ts rest → Ends rest → sees s ts ≡ false)
    → Reads q x xs Ends → Reads (if_sees s p q) x xs Ends
unfolding if_sees
unseen_reads s p q isnt h = reads_instead q (λ ts rest front ends. ap (λ (b : Bool). (cond b p q) ts) (isnt ts rest front ends)) h

pub starts_reads : {A : Type 0} (begins : Terminal → Bool) (p q : Parser A) {x : A} {Ends : List Symbol → Type 0} (leaf : Leaf) (ys : Yield) → begins leaf.terminal ≡ true
    → Reads p x (leaf ∷ ys) Ends → Reads (if_starts begins p q) x (leaf ∷ ys) Ends
unfolding if_starts
starts_reads begins p q leaf ys is h = reads_instead p (λ ts rest front ends. ap (λ (b : Bool). (cond b p q) ts) (ap (starts begins) (front-next leaf ys ts rest front) ∙ is)) h

pub unstarted_reads : {A : Type 0} (begins : Terminal → Bool) (p q : Parser A) {x : A} {xs : Yield} {Ends : List Symbol → Type 0} → ((ts rest : List Symbol) → Front xs ts rest → Ends rest → starts begins (next ts) ≡ false)
    → Reads q x xs Ends → Reads (if_starts begins p q) x xs Ends
unfolding if_starts
unstarted_reads begins p q isnt h = reads_instead q (λ ts rest front ends. ap (λ (b : Bool). (cond b p q) ts) (isnt ts rest front ends)) h

pub is_reads : {A B : Type 0} (reads : Option Terminal → Option A) (f : A → Parser B) (q : Parser B) (a : A) {x : B} {Ends : List Symbol → Type 0} (leaf : Leaf) (ys : Yield) → reads (Some leaf.terminal) ≡ Some a
    → Reads (f a) x (leaf ∷ ys) Ends → Reads (if_is reads f q) x (leaf ∷ ys) Ends
unfolding if_is
is_reads reads f q a leaf ys is h = reads_instead (f a) (λ ts rest front ends. ap (λ (o : Option _). on_some o f q ts) (ap reads (front-next leaf ys ts rest front) ∙ is)) h

pub isnt_reads : {A B : Type 0} (reads : Option Terminal → Option A) (f : A → Parser B) (q : Parser B) {x : B} {xs : Yield} {Ends : List Symbol → Type 0} → ((ts rest : List Symbol) → Front xs ts rest → Ends rest → reads (next ts) ≡ None)
    → Reads q x xs Ends → Reads (if_is reads f q) x xs Ends
unfolding if_is
isnt_reads reads f q isnt h = reads_instead q (λ ts rest front ends. ap (λ (o : Option _). on_some o f q ts) (isnt ts rest front ends)) h

-- The completeness statement `Reads` holds for a parser followed by one that reads no symbol.
pub nothing_reads : {A B : Type 0} {p : Parser A} (f : A → Parser B) {x : A} {y : B} {xs : Yield} {EndsX EndsY : List Symbol → Type 0}
    → Reads p x xs EndsX → Reads (f x) y [] EndsY → ((rest : List Symbol) → EndsY rest → EndsX rest) → Reads (bind p f) y xs EndsY
nothing_reads {p = p} f {y = y} {xs = xs} {EndsX = EndsX} {EndsY = EndsY} first second between =
    subst (λ (zs : Yield). Reads (bind p f) y zs EndsY) (append-nil xs) (then_reads f first second (λ mid rest front ends. subst EndsX (sym front) (between rest ends)))

-- If a list element begins at the next symbol, then this symbol is rejected for the given reason.
pub refuse_item-is : {A : Type 0} (begins : Terminal → Bool) (why : Reason) (t : Symbol) (ts : List Symbol) → begins t.terminal ≡ true
    → refuse_item {A = A} begins why (t ∷ ts) ≡ Err (record { reason = why; left = t ∷ ts })
unfolding refuse_item
refuse_item-is begins why t ts is = rw is refl

-- ---- yields that begin like an item

pub record Starts (begins : Terminal → Bool) (d : ℕ) (leaves : Yield) : Type 0 where
  pub first : Leaf
  pub others : Yield
  pub are : leaves ≡ first ∷ others
  pub begin : begins first.terminal ≡ true
  pub nesting : first.nesting ≡ d
  pub item : first.item ≤ max_items

-- A first symbol that is nested too deep is rejected.
pub deep_reads : {A : Type 0} (begins : Terminal → Bool) (d : ℕ) {x : A} {xs : Yield} {Ends : List Symbol → Type 0} → max_nesting < d → Starts begins d xs → Reads (refuse_item begins TooDeep) x xs Ends
deep_reads begins d {x = x} {Ends = Ends} deep s = subst (λ (xs : Yield). Reads (refuse_item begins TooDeep) x xs Ends) (sym s.are) (record {
  reads = λ ts rest (t, more, e, is_leaf, front) ends.
      subst (λ (w : List Symbol). refuse_item begins TooDeep w ≡ judge (s.first ∷ s.others) w (Ok (x, rest))) (sym e)
      (refuse_item-is begins TooDeep t more (ap begins is_leaf.terminal ∙ s.begin) ∙ sym (judge-deep s.first s.others t more (Ok (x, rest)) (omega arith)));
})

judge-number : {A : Type 0} (leaf : Leaf) (i : ℕ) (ys : Yield) (t : Symbol) (more : List Symbol) (outcome : Outcome A) → leaf.item ≤ max_items → i ≤ max_items
    → judge (leaf ∷ ys) (t ∷ more) outcome ≡ judge (record leaf { item = i } ∷ ys) (t ∷ more) outcome
judge-number leaf i ys t more outcome few few' = rw (le-nat_lt max_items leaf.item few, le-nat_lt max_items i few') refl

first_in_item : {A : Type 0} {p : Parser A} {x : A} {Ends : List Symbol → Type 0} (i : ℕ) (leaf : Leaf) (ys : Yield) → leaf.item ≤ max_items → i ≤ max_items → Reads p x (leaf ∷ ys) Ends → Reads p x (record leaf { item = i } ∷ ys) Ends
first_in_item {p = p} {x = x} i leaf ys few few' h = record {
  reads = λ ts rest (t, more, e, is_leaf, front) ends.
      h.reads ts rest (t, more, e, record { terminal = is_leaf.terminal; place = is_leaf.place }, front) ends
      ∙ subst (λ (s : List Symbol). judge (leaf ∷ ys) s (Ok (x, rest)) ≡ judge (record leaf { item = i } ∷ ys) s (Ok (x, rest))) (sym e) (judge-number leaf i ys t more (Ok (x, rest)) few few');
}

deep_bind : {A B : Type 0} (begins : Terminal → Bool) (f : A → Parser B) (ts : List Symbol) → bind (refuse_item begins TooDeep) f ts ≡ refuse_item begins TooDeep ts
unfolding bind refuse_item
deep_bind begins f ts = refl

unfoldable pub starts_append : {begins : Terminal → Bool} {d : ℕ} {xs : Yield} (ys : Yield) → Starts begins d xs → Starts begins d (xs ++ ys)
starts_append ys s = record { first = s.first; others = s.others ++ ys; are = ap (λ (zs : Yield). zs ++ ys) s.are; begin = s.begin; nesting = s.nesting; item = s.item }

pub starts_number : {begins : Terminal → Bool} {d : ℕ} {xs : Yield} (i : ℕ) → i ≤ max_items → Starts begins d xs → Starts begins d (item_number i xs)
starts_number i few s = record { first = record (s.first) { item = i }; others = s.others; are = ap (item_number i) s.are; begin = s.begin; nesting = s.nesting; item = few }

-- If the nesting limit rejects the first symbol, the result does not depend on the parsers of the later symbols.
pub deep_then_reads : {A B : Type 0} (begins : Terminal → Bool) (d : ℕ) (f : A → Parser B) {x : B} {xs : Yield} {Ends : List Symbol → Type 0} → max_nesting < d → Starts begins d xs
    → Reads (bind (refuse_item begins TooDeep) f) x xs Ends
deep_then_reads begins d f deep s = reads_instead (refuse_item begins TooDeep) (λ ts rest front ends. deep_bind begins f ts) (deep_reads begins d deep s)

-- The completeness statement `Reads` holds for the parser of a list element whose index is within the limit on the list's length.
pub number_reads : {A : Type 0} {p : Parser A} {x : A} {xs : Yield} {Ends : List Symbol → Type 0} (begins : Terminal → Bool) (d i : ℕ) → i ≤ max_items → Starts begins d xs
    → Reads p x xs Ends → Reads p x (item_number i xs) Ends
number_reads {p = p} {x = x} {Ends = Ends} begins d i few s h =
    subst (λ (ys : Yield). Reads p x (item_number i ys) Ends) (sym s.are) (first_in_item i s.first s.others (omega arith) few (subst (λ (ys : Yield). Reads p x ys Ends) s.are h))

-- If a yield begins with a symbol that may begin a list element, then the next symbol is the terminal of the yield's first leaf.
pub starts-next : {begins : Terminal → Bool} {d : ℕ} {xs : Yield} (s : Starts begins d xs) (ys : Yield) (ts rest : List Symbol) → Front (xs ++ ys) ts rest → next ts ≡ Some s.first.terminal
starts-next s ys ts rest front = front-next s.first (s.others ++ ys) ts rest (subst (λ (zs : Yield). Front (zs ++ ys) ts rest) s.are front)

pub item-next : {begins : Terminal → Bool} {d : ℕ} {xs : Yield} (s : Starts begins d xs) (i : ℕ) (ys : Yield) (ts rest : List Symbol) → Front (item_number i xs ++ ys) ts rest → next ts ≡ Some s.first.terminal
item-next s i ys ts rest front = front-next (record (s.first) { item = i }) (s.others ++ ys) ts rest (subst (λ (zs : Yield). Front (item_number i zs ++ ys) ts rest) s.are front)

pub seen_reads : {A : Type 0} (s : Sign) (p q : Parser A) {x : A} {xs : Yield} {Ends : List Symbol → Type 0} → ((ts rest : List Symbol) → Front xs ts rest → Ends rest → sees s ts ≡ true)
    → Reads p x xs Ends → Reads (if_sees s p q) x xs Ends
unfolding if_sees
seen_reads s p q is h = reads_instead p (λ ts rest front ends. ap (λ (b : Bool). (cond b p q) ts) (is ts rest front ends)) h

-- The completeness statement `Reads` holds for the parser of a sign (punctuation token) that is the element with a given
-- index in its list or chain.
pub sign_reads_item : {C : Type 0} (room d i : ℕ) (s : Sign) (f : Place → Parser C) {y : C} {ys : Yield} {Ends : List Symbol → Type 0} → Fits room d → i ≤ max_items
    → ((p : Place) → Reads (f p) y ys Ends) → Reads (bind (sign room s) f) y (record { terminal = Mark s; place = None; nesting = d; item = i } ∷ ys) Ends
sign_reads_item room d i s f fits few next = token_reads room (is_sign s) only_place f (record { terminal = Mark s; place = None; nesting = d; item = i }) tt fits few (same_sign-self s) (λ p _. next p)

-- A leaf that is a list element with an index beyond the limit is rejected as too long.
pub long_leaf_reads : {A : Type 0} {x : A} {Ends : List Symbol → Type 0} (leaf : Leaf) (ys : Yield) → leaf.nesting ≤ max_nesting → max_items < leaf.item → Reads (refuse TooLong) x (leaf ∷ ys) Ends
long_leaf_reads {x = x} leaf ys shallow many = record {
  reads = λ ts rest (t, more, e, is_leaf, front) ends.
      subst (λ (w : List Symbol). refuse TooLong w ≡ judge (leaf ∷ ys) w (Ok (x, rest))) (sym e) (rw (le-nat_lt max_nesting leaf.nesting shallow, lt-nat_lt max_items leaf.item many) refl);
}

-- The completeness statement `Reads` holds for a parser if it holds for the parser followed by returning the result unchanged.
pub bare_reads : {A : Type 0} {p : Parser A} {x : A} {xs : Yield} {Ends : List Symbol → Type 0} → Reads (bind p (λ v. pure v)) x xs Ends → Reads p x xs Ends
unfolding bind
bare_reads {A} {p = p} {x = x} {xs = xs} h = record { reads = λ ts rest front ends. sym (same (p ts)) ∙ h.reads ts rest front ends }
  where
    same : (o : Outcome A) → and_then o (λ v. pure v) ≡ o
    same (Ok v) = refl
    same (Err e) = refl

-- The completeness statement `Reads` holds for reading an operator that has a given index in its chain.
pub advance_reads_item : {C : Type 0} (d i : ℕ) (t : Terminal) (q : Place) (f : Place → Parser C) {y : C} {ys : Yield} {Ends : List Symbol → Type 0} → d ≤ max_nesting → i ≤ max_items
    → Reads (f q) y ys Ends → Reads (bind advance f) y (record { terminal = t; place = Some q; nesting = d; item = i } ∷ ys) Ends
advance_reads_item d i t q f {y = y} {ys = ys} {Ends = Ends} shallow few next =
    advance_reads f (record { terminal = t; place = Some q; nesting = d; item = i }) shallow few (λ p e. subst (λ (x : Place). Reads (f x) y ys Ends) (sym e) next)

-- The number of symbols is at least the number of leaves of the yield that they begin with.
pub front-length : (xs : Yield) (ts rest : List Symbol) → Front xs ts rest → length xs ≤ length ts
front-length [] ts rest front = zero-le
front-length (leaf ∷ xs) ts rest (t, more, e, is_leaf, front) = subst (λ (s : List Symbol). suc (length xs) ≤ length s) (sym e) (suc-le-suc (front-length xs more rest front))

-- If a parser returns a tree from a yield, then it also returns the tree from an equal yield, for example one with another grouping.
pub yield_reads : {A : Type 0} {q : Parser A} {x : A} {xs ys : Yield} {Ends : List Symbol → Type 0} → xs ≡ ys → Reads q x xs Ends → Reads q x ys Ends
yield_reads {q = q} {x = x} {Ends = Ends} same h = subst (λ (zs : Yield). Reads q x zs Ends) same h

-- A statement `Reads` about leaves between a left and a right leaf still holds if the concatenation with the
-- leaves after them is bracketed differently.
pub between_then : {A : Type 0} {q : Parser A} {x : A} {Ends : List Symbol → Type 0} (l r : Leaf) (xs ys : Yield) → Reads q x ((l ∷ (xs ++ r ∷ [])) ++ ys) Ends → Reads q x (l ∷ (xs ++ r ∷ ys)) Ends
between_then l r xs ys h = yield_reads (ap (λ (zs : Yield). l ∷ zs) (append_assoc xs (r ∷ []) ys)) h

-- If a symbol is nested too deep, then the result does not depend on the parsers after it.
pub token_deep_reads : {A B C : Type 0} (reads : Terminal → Option A) (give : A → Place → B) (f : B → Parser C) {y : C} {ys : Yield} {Ends : List Symbol → Type 0} (leaf : Leaf) (a : A)
    → max_nesting < leaf.nesting → reads leaf.terminal ≡ Some a → Reads (bind (take zero reads give) f) y (leaf ∷ ys) Ends
unfolding bind take
token_deep_reads reads give f {y = y} {ys = ys} leaf a deep is = record {
  reads = λ ts rest (t, more, e, is_leaf, front) ends.
      subst (λ (s : List Symbol). and_then (take zero reads give s) f ≡ judge (leaf ∷ ys) s (Ok (y, rest))) (sym e)
      (ap (λ (o : Option _). and_then (accept_if zero o give t more) f) (ap reads is_leaf.terminal ∙ is) ∙ sym (judge-deep leaf ys t more (Ok (y, rest)) deep));
}

pub word_deep_reads : {C : Type 0} (d : ℕ) (k : Keyword) (f : Place → Parser C) {y : C} {ys : Yield} {Ends : List Symbol → Type 0} → max_nesting < d → Reads (bind (word zero k) f) y (leaf_of d (Word k) ∷ ys) Ends
word_deep_reads d k f deep = token_deep_reads (is_word k) only_place f (leaf_of d (Word k)) tt deep (same_word-self k)

pub sign_deep_reads : {C : Type 0} (d : ℕ) (s : Sign) (f : Place → Parser C) {y : C} {ys : Yield} {Ends : List Symbol → Type 0} → max_nesting < d → Reads (bind (sign zero s) f) y (leaf_of d (Mark s) ∷ ys) Ends
sign_deep_reads d s f deep = token_deep_reads (is_sign s) only_place f (leaf_of d (Mark s)) tt deep (same_sign-self s)

-- A test of the first symbol may be added before a parser if every yield of the parser passes the test.
pub starting_reads : {A : Type 0} (begins : Terminal → Bool) (d : ℕ) (p q : Parser A) {x : A} {xs : Yield} {Ends : List Symbol → Type 0} → Starts begins d xs → Reads p x xs Ends → Reads (if_starts begins p q) x xs Ends
starting_reads begins d p q {x = x} {Ends = Ends} s h = subst (λ (zs : Yield). Reads (if_starts begins p q) x zs Ends) (sym s.are)
    (starts_reads begins p q s.first s.others s.begin (subst (λ (zs : Yield). Reads p x zs Ends) s.are h))

pub deep_refusal : {A : Type 0} {begins : Terminal → Bool} (d : ℕ) {x : A} {xs : Yield} {Ends : List Symbol → Type 0} → max_nesting < d → Starts begins d xs → Reads (refuse TooDeep) x xs Ends
deep_refusal d {x = x} {Ends = Ends} deep s = subst (λ (zs : Yield). Reads (refuse TooDeep) x zs Ends) (sym s.are) (record {
  reads = λ ts rest (t, more, e, is_leaf, front) ends.
      subst (λ (w : List Symbol). refuse TooDeep w ≡ judge (s.first ∷ s.others) w (Ok (x, rest))) (sym e) (sym (judge-deep s.first s.others t more (Ok (x, rest)) (omega arith)));
})
