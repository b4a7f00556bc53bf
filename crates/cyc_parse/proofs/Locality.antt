-- The parser's bounded lookahead: if the parser rejects a symbol or leaves it unread, it looks at no symbol after that one. The one
-- exception to bounded lookahead is a `<` after `new` and a name: it opens region arguments if a region follows, and otherwise continues an
-- expression. (After `char` at the start of a block item, the parser looks at one more symbol, but also reads this symbol.)
use Rattle.std.proofs.Common.{◌≡◌, ℕ, zero, suc, ◌+◌, ◌≤◌, ◌<◌, Bool, true, false, cond, List, [], ◌∷◌, ◌++◌, length, Option, Some, None, is_some, Ok, Err, refl, sym, ap, subst, ◌∙◌, arith, append_assoc, length-append}
use Rattle.std.proofs.Math.Path.{fun_ext}
use Rattle.cyc_syntax.specs.declared.tokens.Keyword.{Keyword}
use Rattle.cyc_syntax.specs.declared.tokens.Sign.{Sign}
use Rattle.cyc_syntax.specs.declared.tokens.Sign.TheVariants as signs
use Rattle.cyc_syntax.specs.Symbols.{Place, Terminal, Mark, Symbol}
use Rattle.cyc_parse.specs.Refusals.{region_next}
use Rattle.cyc_parse.specs.inside.Parsing.{Parser, Outcome, Refusal, Reason, Unexpected, TooDeep, TooLong, and_then, bind, choose, next, take, sees_terminal, sign, word, identifier, region_name, accept_if, advance, if_sees, refuse, refuse_item, reason_by, starts, if_starts, on_some, if_is, pure}

-- ---- suffixes of a list of symbols

pub record IsSuffix (left ts : List Symbol) : Type 0 where
  pub before : List Symbol
  pub are : ts ≡ before ++ left

pub suffix_whole : (ts : List Symbol) → IsSuffix ts ts
suffix_whole ts = record { before = []; are = refl }

pub suffix_of_suffix : {left mid ts : List Symbol} → IsSuffix left mid → IsSuffix mid ts → IsSuffix left ts
suffix_of_suffix {left = left} h k = record { before = k.before ++ h.before; are = k.are ∙ ap (λ (w : List Symbol). k.before ++ w) h.are ∙ sym (append_assoc k.before h.before left) }

pub suffix_after : {left ts : List Symbol} (t : Symbol) → IsSuffix left ts → IsSuffix left (t ∷ ts)
suffix_after t h = record { before = t ∷ h.before; are = ap (λ (w : List Symbol). t ∷ w) h.are }

pub suffix-length : {left ts : List Symbol} → IsSuffix left ts → length left ≤ length ts
suffix-length {left = left} {ts = ts} h = subst (λ (w : List Symbol). length left ≤ length w) (sym h.are) (omega (arith, length-append h.before left))

-- Returns the symbols that an outcome leaves unread.
abbrev pub left_of : {A : Type 0} → Outcome A → List Symbol
left_of (Ok p) = p.1
left_of (Err e) = e.left

pub one_refusal : {A : Type 0} (r e : Refusal) → ◌≡◌ {A = Outcome A} (Err r) (Err e) → r ≡ e
one_refusal r e h = cc

-- ---- the case of one more symbol of lookahead

abbrev pub IsLess : Symbol → Type 0
IsLess t = t.terminal ≡ Mark signs.Less

abbrev pub Differ : List Symbol → List Symbol → Type 0
Differ a b = region_next a ≡ region_next b → ⊥

-- Says how a parser's outcome depends on the last symbols `a` of its input, if `b` may replace `a`. `Open` says after which results
-- of the parser `<` may open region arguments. Either the parser reads all symbols in front of `a`, or it stops at a `<` right
-- before `a`. After such a `<`, `b` continues differently than `a`.
pub data Beyond {A : Type 0} (Open : A → Type 0) (a b : List Symbol) (o : Outcome A) : Type 0 where
  reads_on : (x : A) (rest : List Symbol) → o ≡ Ok (x, rest) → IsSuffix rest a → Beyond Open a b o
  refuses_on : (e : Refusal) → o ≡ Err e → IsSuffix (e.left) a → Beyond Open a b o
  opens : (x : A) (t : Symbol) → o ≡ Ok (x, t ∷ a) → Open x → IsLess t → Differ a b → Beyond Open a b o
  overflows : (t : Symbol) → o ≡ Err (record { reason = TooLong; left = t ∷ a }) → IsLess t → Differ a b → Beyond Open a b o

-- Says that the outcome with `a` as the end of the symbols equals the one with `b`, or looks beyond the symbols before `a` and `b`.
pub data Agrees {A : Type 0} (Open : A → Type 0) (a b : List Symbol) (o u : Outcome A) : Type 0 where
  both_read : (x : A) (t : Symbol) (f : List Symbol) → o ≡ Ok (x, t ∷ (f ++ a)) → u ≡ Ok (x, t ∷ (f ++ b)) → Agrees Open a b o u
  both_refuse : (why : Reason) (t : Symbol) (f : List Symbol) → o ≡ Err (record { reason = why; left = t ∷ (f ++ a) }) → u ≡ Err (record { reason = why; left = t ∷ (f ++ b) }) → Agrees Open a b o u
  goes_on : Beyond Open a b o → Agrees Open a b o u

-- Says that a parser has bounded lookahead. `consumes` says that the parser reads at least one symbol if it succeeds.
pub record Runs {A : Type 0} (consumes : Bool) (Open : A → Type 0) (p : Parser A) : Type 0 where
  -- The symbols that a parser leaves unread are a suffix of its input.
  pub suffix : (ts : List Symbol) → IsSuffix (left_of (p ts)) ts
  pub shorter : consumes ≡ true → (ts rest : List Symbol) (x : A) → p ts ≡ Ok (x, rest) → length rest < length ts
  -- If a parser rejects the end of the text, then no limit is broken; the end is unexpected.
  pub ends : (ts : List Symbol) (e : Refusal) → p ts ≡ Err e → e.left ≡ [] → e.reason ≡ Unexpected
  pub agrees : (front a b : List Symbol) → Agrees Open a b (p (front ++ a)) (p (front ++ b))

abbrev pub Never : {A : Type 0} → A → Type 0
Never x = ⊥

abbrev pub Local : {A : Type 0} → Bool → Parser A → Type 0
Local consumes p = Runs consumes Never p

-- ---- outcomes

pub beyond_suffix : {A : Type 0} {Open : A → Type 0} {a b : List Symbol} (o : Outcome A) → IsSuffix (left_of o) a → Beyond Open a b o
beyond_suffix (Ok p) s = reads_on p.0 p.1 refl s
beyond_suffix (Err e) s = refuses_on e refl s

pub beyond_as : {A : Type 0} {Open : A → Type 0} {a b : List Symbol} {o o' : Outcome A} → o ≡ o' → Beyond Open a b o' → Beyond Open a b o
beyond_as {Open = Open} {a = a} {b = b} e h = subst (λ (w : Outcome _). Beyond Open a b w) (sym e) h

pub agree_as : {A : Type 0} {Open : A → Type 0} {a b : List Symbol} {o o' u u' : Outcome A} → o ≡ o' → u ≡ u' → Agrees Open a b o' u' → Agrees Open a b o u
agree_as {Open = Open} {a = a} {b = b} {o' = o'} {u = u} e e' h = subst (λ (w : Outcome _). Agrees Open a b w u) (sym e) (subst (λ (w : Outcome _). Agrees Open a b o' w) (sym e') h)

-- Two inputs begin with the same symbols. If a parser succeeds on both and leaves the same rest of these symbols, then
-- its outcomes on the two inputs agree.
pub answered : {A : Type 0} {Open : A → Type 0} (x : A) (f a b : List Symbol) → Agrees Open a b (Ok (x, f ++ a)) (Ok (x, f ++ b))
answered x [] a b = goes_on (reads_on x a refl (suffix_whole a))
answered x (t ∷ f) a b = both_read x t f refl refl

-- ---- rules for composed parsers

-- Says that a parser may follow a result after which `<` may open region arguments. If `<` comes next, the parser rejects the `<` only
-- if it makes a chain of binary operators too long.
abbrev pub Tolerates : {B : Type 0} → (B → Type 0) → Parser B → Type 0
Tolerates Open q = (t : Symbol) (a b : List Symbol) → IsLess t → Differ a b → Beyond Open a b (q (t ∷ a))

and_then-left : {A B : Type 0} (f : A → Parser B) (ts : List Symbol) (o : Outcome A) → ((x : A) (rest : List Symbol) → IsSuffix (left_of (f x rest)) rest) → IsSuffix (left_of o) ts → IsSuffix (left_of (and_then o f)) ts
and_then-left f ts (Ok p) h s = suffix_of_suffix (h p.0 p.1) s
and_then-left f ts (Err e) h s = s

pub beyond_then : {A B : Type 0} {d : Bool} {Open : A → Type 0} {Open' : B → Type 0} {a b : List Symbol} {o : Outcome A} (f : A → Parser B)
    → ((x : A) → Runs d Open' (f x)) → ((x : A) → Open x → Tolerates Open' (f x)) → Beyond Open a b o → Beyond Open' a b (and_then o f)
beyond_then {A} f second tolerates (reads_on x rest e s) = beyond_as (ap (λ (o : Outcome A). and_then o f) e) (beyond_suffix (f x rest) (suffix_of_suffix ((second x).suffix rest) s))
beyond_then {A} f second tolerates (refuses_on r e s) = refuses_on r (ap (λ (o : Outcome A). and_then o f) e) s
beyond_then {A} {a = a} {b = b} f second tolerates (opens x t e ready less differ) = beyond_as (ap (λ (o : Outcome A). and_then o f) e) (tolerates x ready t a b less differ)
beyond_then {A} f second tolerates (overflows t e less differ) = overflows t (ap (λ (o : Outcome A). and_then o f) e) less differ

pub open_then_runs : {A B : Type 0} {c d : Bool} {Open : A → Type 0} {Open' : B → Type 0} {p : Parser A} {f : A → Parser B}
    → Runs c Open p → ((x : A) → Runs d Open' (f x)) → ((x : A) → Open x → Tolerates Open' (f x)) → Runs c Open' (bind p f)
unfolding bind
open_then_runs {A} {B} {c = c} {Open = Open} {Open' = Open'} {p = p} {f = f} first second tolerates = record {
  suffix = λ ts. and_then-left f ts (p ts) (λ x rest. (second x).suffix rest) (first.suffix ts);
  shorter = λ is ts rest y e. shorter is ts rest y (p ts) refl e;
  ends = λ ts e h end. ends ts e (p ts) refl h end;
  agrees = λ front a b. agree front a b (first.agrees front a b);
}
  where
    shorter : c ≡ true → (ts rest : List Symbol) (y : B) (o : Outcome A) → p ts ≡ o → and_then o f ≡ Ok (y, rest) → length rest < length ts
    shorter is ts rest y (Ok q) e h =
        let s = subst (λ (o : Outcome B). IsSuffix (left_of o) q.1) h ((second q.0).suffix q.1) in
        omega (arith, suffix-length s, first.shorter is ts q.1 q.0 e)
    shorter is ts rest y (Err r) e h = absurd (cc)

    ends : (ts : List Symbol) (e : Refusal) (o : Outcome A) → p ts ≡ o → and_then o f ≡ Err e → e.left ≡ [] → e.reason ≡ Unexpected
    ends ts e (Ok q) eq h end = (second q.0).ends q.1 e h end
    ends ts e (Err r) eq h end = let q : r ≡ e = cc in first.ends ts e (eq ∙ ap Err q) end

    agree : (front a b : List Symbol) → Agrees Open a b (p (front ++ a)) (p (front ++ b)) → Agrees Open' a b (and_then (p (front ++ a)) f) (and_then (p (front ++ b)) f)
    agree front a b (both_read x t g e e') = agree_as (ap (λ (o : Outcome A). and_then o f) e) (ap (λ (o : Outcome A). and_then o f) e') ((second x).agrees (t ∷ g) a b)
    agree front a b (both_refuse why t g e e') = both_refuse why t g (ap (λ (o : Outcome A). and_then o f) e) (ap (λ (o : Outcome A). and_then o f) e')
    agree front a b (goes_on h) = goes_on (beyond_then f second tolerates h)

pub then_runs : {A B : Type 0} {c d : Bool} {Open : B → Type 0} {p : Parser A} {f : A → Parser B} → Local c p → ((x : A) → Runs d Open (f x)) → Runs c Open (bind p f)
then_runs first second = open_then_runs first second (λ x no. absurd no)

pub tolerates_pure : {A : Type 0} {Open : A → Type 0} (x : A) → Open x → Tolerates Open (pure x)
tolerates_pure x ready t a b less differ = opens x t refl ready less differ

pub tolerates_then : {A B : Type 0} {d : Bool} {Open : A → Type 0} {Open' : B → Type 0} (p : Parser A) (f : A → Parser B)
    → Tolerates Open p → ((x : A) → Runs d Open' (f x)) → ((x : A) → Open x → Tolerates Open' (f x)) → Tolerates Open' (bind p f)
unfolding bind
tolerates_then p f first second tolerates t a b less differ = beyond_then f second tolerates (first t a b less differ)

pub pure_runs : {A : Type 0} {Open : A → Type 0} (x : A) → Runs false Open (pure x)
pure_runs x = record {
  suffix = λ ts. suffix_whole ts;
  shorter = λ is. absurd (cc);
  ends = λ ts e h. absurd (cc);
  agrees = λ front a b. answered x front a b;
}

pub unexpected_runs : {A : Type 0} {Open : A → Type 0} → Runs true Open (refuse {A = A} Unexpected)
unexpected_runs {A} {Open = Open} = record {
  suffix = λ ts. suffix_whole ts;
  shorter = λ is ts rest x h. absurd (cc);
  ends = λ ts e h end. cc;
  agrees = λ front a b. refused front a b;
}
  where
    refused : (front a b : List Symbol) → Agrees Open a b (refuse {A = A} Unexpected (front ++ a)) (refuse {A = A} Unexpected (front ++ b))
    refused [] a b = goes_on (refuses_on _ refl (suffix_whole a))
    refused (t ∷ front) a b = both_refuse Unexpected t front refl refl

-- Weakening: a parser with bounded lookahead may also be treated as one that may read nothing.
pub weaker_runs : {A : Type 0} {c : Bool} {Open : A → Type 0} {p : Parser A} → Runs c Open p → Runs false Open p
weaker_runs h = record { suffix = h.suffix; shorter = λ is. absurd (cc); ends = h.ends; agrees = h.agrees }

pub opens_as : {A : Type 0} {c : Bool} {Open Open' : A → Type 0} {p : Parser A} → ((x : A) → Open x → Open' x) → Runs c Open p → Runs c Open' p
opens_as {A} {Open = Open} {Open' = Open'} {p = p} weaker h = record { suffix = h.suffix; shorter = h.shorter; ends = h.ends; agrees = λ front a b. agree a b (h.agrees front a b) }
  where
    agree : {o u : Outcome A} (a b : List Symbol) → Agrees Open a b o u → Agrees Open' a b o u
    agree a b (both_read x t f e e') = both_read x t f e e'
    agree a b (both_refuse why t f e e') = both_refuse why t f e e'
    agree a b (goes_on (reads_on x rest e s)) = goes_on (reads_on x rest e s)
    agree a b (goes_on (refuses_on r e s)) = goes_on (refuses_on r e s)
    agree a b (goes_on (opens x t e ready less differ)) = goes_on (opens x t e (weaker x ready) less differ)
    agree a b (goes_on (overflows t e less differ)) = goes_on (overflows t e less differ)

pub runs_open : {A : Type 0} {c : Bool} {Open : A → Type 0} {p : Parser A} → Local c p → Runs c Open p
runs_open h = opens_as (λ x no. absurd no) h

-- If two parsers are equal on every input, then one has the other's bounded lookahead.
pub runs_as : {A : Type 0} {c : Bool} {Open : A → Type 0} {p q : Parser A} → ((ts : List Symbol) → p ts ≡ q ts) → Runs c Open q → Runs c Open p
runs_as {c = c} {Open = Open} same h = subst (λ (r : Parser _). Runs c Open r) (sym (fun_ext same)) h

-- ---- one symbol

take_agrees : {A B : Type 0} {Open : B → Type 0} (room : ℕ) (o : Option A) (give : A → Place → B) (t : Symbol) (f a b : List Symbol)
    → Agrees Open a b (accept_if room o give t (f ++ a)) (accept_if room o give t (f ++ b))
take_agrees room None give t f a b = both_refuse Unexpected t f refl refl
take_agrees zero (Some x) give t f a b = both_refuse TooDeep t f refl refl
take_agrees (suc room) (Some x) give t f a b = answered (give x t.place) f a b

pub take_runs : {A B : Type 0} {Open : B → Type 0} (room : ℕ) (reads : Terminal → Option A) (give : A → Place → B) → Runs true Open (take room reads give)
unfolding take
take_runs {A} {B} {Open = Open} room reads give = record {
  suffix = suffix;
  shorter = shorter;
  ends = ends;
  agrees = agree;
}
  where
    one : (room : ℕ) (o : Option A) (t : Symbol) (ts : List Symbol) → IsSuffix (left_of (accept_if room o give t ts)) (t ∷ ts)
    one room None t ts = suffix_whole (t ∷ ts)
    one zero (Some x) t ts = suffix_whole (t ∷ ts)
    one (suc room) (Some x) t ts = suffix_after t (suffix_whole ts)

    suffix : (ts : List Symbol) → IsSuffix (left_of (take room reads give ts)) ts
    suffix [] = suffix_whole []
    suffix (t ∷ ts) = one room (reads t.terminal) t ts

    less : (room : ℕ) (o : Option A) (t : Symbol) (ts rest : List Symbol) (x : B) → accept_if room o give t ts ≡ Ok (x, rest) → length rest < length (t ∷ ts)
    less room None t ts rest x h = absurd (cc)
    less zero (Some y) t ts rest x h = absurd (cc)
    less (suc room) (Some y) t ts rest x h = let e : ts ≡ rest = ap left_of h in subst (λ (w : List Symbol). length w < length (t ∷ ts)) e (omega arith)

    shorter : true ≡ true → (ts rest : List Symbol) (x : B) → take room reads give ts ≡ Ok (x, rest) → length rest < length ts
    shorter is [] rest x h = absurd (cc)
    shorter is (t ∷ ts) rest x h = less room (reads t.terminal) t ts rest x h

    last : (room : ℕ) (o : Option A) (t : Symbol) (ts : List Symbol) (e : Refusal) → accept_if room o give t ts ≡ Err e → e.left ≡ [] → e.reason ≡ Unexpected
    last room None t ts e h end = cc
    last zero (Some y) t ts e h end = absurd (cc)
    last (suc room) (Some y) t ts e h end = absurd (cc)

    ends : (ts : List Symbol) (e : Refusal) → take room reads give ts ≡ Err e → e.left ≡ [] → e.reason ≡ Unexpected
    ends [] e h end = cc
    ends (t ∷ ts) e h end = last room (reads t.terminal) t ts e h end

    agree : (front a b : List Symbol) → Agrees Open a b (take room reads give (front ++ a)) (take room reads give (front ++ b))
    agree [] a b = goes_on (beyond_suffix (take room reads give a) (suffix a))
    agree (t ∷ f) a b = take_agrees room (reads t.terminal) give t f a b

pub sign_runs : {Open : Place → Type 0} (room : ℕ) (s : Sign) → Runs true Open (sign room s)
sign_runs room s = take_runs room _ _

pub word_runs : {Open : Place → Type 0} (room : ℕ) (k : Keyword) → Runs true Open (word room k)
word_runs room k = take_runs room _ _

pub identifier_runs : (room : ℕ) → Local true (identifier room)
identifier_runs room = take_runs room _ _

pub region_name_runs : (room : ℕ) → Local true (region_name room)
region_name_runs room = take_runs room _ _

pub advance_runs : Local true advance
advance_runs = record { suffix = suffix; shorter = shorter; ends = ends; agrees = agree }
  where
    suffix : (ts : List Symbol) → IsSuffix (left_of (advance ts)) ts
    suffix [] = suffix_whole []
    suffix (t ∷ ts) = suffix_after t (suffix_whole ts)

    shorter : true ≡ true → (ts rest : List Symbol) (x : Place) → advance ts ≡ Ok (x, rest) → length rest < length ts
    shorter is [] rest x h = absurd (cc)
    shorter is (t ∷ ts) rest x h = let e : ts ≡ rest = ap left_of h in subst (λ (w : List Symbol). length w < length (t ∷ ts)) e (omega arith)

    ends : (ts : List Symbol) (e : Refusal) → advance ts ≡ Err e → e.left ≡ [] → e.reason ≡ Unexpected
    ends [] e h end = cc
    ends (t ∷ ts) e h end = absurd (cc)

    agree : (front a b : List Symbol) → Agrees Never a b (advance (front ++ a)) (advance (front ++ b))
    agree [] a b = goes_on (beyond_suffix (advance a) (suffix a))
    agree (t ∷ f) a b = answered t.place f a b

-- ---- decisions by the next symbol

pub next_runs : {A : Type 0} {c : Bool} {Open : A → Type 0} (f : Option Terminal → Parser A) → ((t : Option Terminal) → Runs c Open (f t)) → Runs c Open (λ ts. f (next ts) ts)
next_runs {A} {Open = Open} f h = record {
  suffix = λ ts. (h (next ts)).suffix ts;
  shorter = λ is ts. (h (next ts)).shorter is ts;
  ends = λ ts. (h (next ts)).ends ts;
  agrees = agree;
}
  where
    agree : (front a b : List Symbol) → Agrees Open a b (f (next (front ++ a)) (front ++ a)) (f (next (front ++ b)) (front ++ b))
    agree [] a b = goes_on (beyond_suffix (f (next a) a) ((h (next a)).suffix a))
    agree (t ∷ front) a b = (h (Some t.terminal)).agrees (t ∷ front) a b

pub choose_runs : {A : Type 0} {c : Bool} {Open : A → Type 0} {f : Option Terminal → Parser A} → ((t : Option Terminal) → Runs c Open (f t)) → Runs c Open (choose f)
unfolding choose
choose_runs {f = f} h = next_runs f h

-- A choice between two parsers by a test of the next symbol has bounded lookahead if both parsers do.
pub test_runs : {A : Type 0} {c d : Bool} {Open : A → Type 0} (g : Option Terminal → Bool) {p q : Parser A} → Runs c Open p → Runs d Open q → Runs false Open (λ ts. cond (g (next ts)) p q ts)
test_runs {Open = Open} g {p = p} {q = q} h k = next_runs (λ t. cond (g t) p q) (λ t. chosen (g t))
  where
    chosen : (b : Bool) → Runs false Open (cond b p q)
    chosen true = weaker_runs h
    chosen false = weaker_runs k

pub sees_runs : {A : Type 0} {c d : Bool} {Open : A → Type 0} (s : Sign) {p q : Parser A} → Runs c Open p → Runs d Open q → Runs false Open (if_sees s p q)
unfolding if_sees
sees_runs s h k = test_runs (sees_terminal s) h k

pub starts_runs : {A : Type 0} {c d : Bool} {Open : A → Type 0} (begins : Terminal → Bool) {p q : Parser A} → Runs c Open p → Runs d Open q → Runs false Open (if_starts begins p q)
unfolding if_starts
starts_runs begins h k = test_runs (starts begins) h k

pub is_runs : {A B : Type 0} {c d : Bool} {Open : B → Type 0} (reads : Option Terminal → Option A) {f : A → Parser B} {q : Parser B} → ((x : A) → Runs c Open (f x)) → Runs d Open q → Runs false Open (if_is reads f q)
unfolding if_is
is_runs {A} {Open = Open} reads {f = f} {q = q} h k = next_runs (λ t. on_some (reads t) f q) (λ t. chosen (reads t))
  where
    chosen : (o : Option A) → Runs false Open (on_some o f q)
    chosen (Some x) = weaker_runs (h x)
    chosen None = weaker_runs k

-- A test that rejects the next symbol because of a limit has bounded lookahead. At the end of the text a limit rejects nothing.
pub limit_runs : {A : Type 0} {d : Bool} {Open : A → Type 0} (g : Option Terminal → Bool) (why : Reason) {q : Parser A} → g None ≡ false → Runs d Open q → Runs false Open (λ ts. cond (g (next ts)) (refuse why) q ts)
limit_runs {A} {d} {Open = Open} g why {q = q} none h = record {
  suffix = λ ts. left (g (next ts)) ts;
  shorter = λ is. absurd (cc);
  ends = ends;
  agrees = agree;
}
  where
    left : (b : Bool) (ts : List Symbol) → IsSuffix (left_of (cond b (refuse why) q ts)) ts
    left true ts = suffix_whole ts
    left false ts = h.suffix ts

    last : (b : Bool) (t : Symbol) (ts : List Symbol) (e : Refusal) → cond b (refuse why) q (t ∷ ts) ≡ Err e → e.left ≡ [] → e.reason ≡ Unexpected
    last true t ts e k end = absurd (cc)
    last false t ts e k end = h.ends (t ∷ ts) e k end

    ends : (ts : List Symbol) (e : Refusal) → cond (g (next ts)) (refuse why) q ts ≡ Err e → e.left ≡ [] → e.reason ≡ Unexpected
    ends [] e k end = h.ends [] e (sym (ap (λ (b : Bool). cond b (refuse why) q []) none) ∙ k) end
    ends (t ∷ ts) e k end = last (g (Some t.terminal)) t ts e k end

    both : (c : Bool) (t : Symbol) (front a b : List Symbol) → Agrees Open a b (cond c (refuse why) q (t ∷ (front ++ a))) (cond c (refuse why) q (t ∷ (front ++ b)))
    both true t front a b = both_refuse why t front refl refl
    both false t front a b = h.agrees (t ∷ front) a b

    agree : (front a b : List Symbol) → Agrees Open a b (cond (g (next (front ++ a))) (refuse why) q (front ++ a)) (cond (g (next (front ++ b))) (refuse why) q (front ++ b))
    agree [] a b = goes_on (beyond_suffix _ (left (g (next a)) a))
    agree (t ∷ front) a b = both (g (Some t.terminal)) t front a b

pub is_limit_runs : {A B : Type 0} {d : Bool} {Open : B → Type 0} (reads : Option Terminal → Option A) (why : Reason) {q : Parser B} → reads None ≡ None → Runs d Open q → Runs false Open (if_is reads (λ _. refuse why) q)
unfolding if_is
is_limit_runs {A} reads why {q = q} none h = runs_as (λ ts. same (reads (next ts)) ts) (limit_runs (λ t. is_some (reads t)) why (ap is_some none) h)
  where
    same : (o : Option A) (ts : List Symbol) → on_some o (λ _. refuse why) q ts ≡ cond (is_some o) (refuse why) q ts
    same (Some x) ts = refl
    same None ts = refl

pub sees_limit_runs : {A : Type 0} {d : Bool} {Open : A → Type 0} (s : Sign) (why : Reason) {q : Parser A} → Runs d Open q → Runs false Open (if_sees s (refuse why) q)
unfolding if_sees
sees_limit_runs s why h = limit_runs (sees_terminal s) why refl h

pub starts_limit_runs : {A : Type 0} {d : Bool} {Open : A → Type 0} (begins : Terminal → Bool) (why : Reason) {q : Parser A} → Runs d Open q → Runs false Open (if_starts begins (refuse why) q)
unfolding if_starts
starts_limit_runs begins why h = limit_runs (starts begins) why refl h

pub item_refusal_runs : {A : Type 0} {Open : A → Type 0} (begins : Terminal → Bool) (why : Reason) → Runs true Open (refuse_item {A = A} begins why)
unfolding refuse_item
item_refusal_runs {A} {Open = Open} begins why = record {
  suffix = λ ts. suffix_whole ts;
  shorter = λ is ts rest x h. absurd (cc);
  ends = ends;
  agrees = agree;
}
  where
    ends : (ts : List Symbol) (e : Refusal) → refuse {A = A} (reason_by begins why (next ts)) ts ≡ Err e → e.left ≡ [] → e.reason ≡ Unexpected
    ends [] e h end = cc
    ends (t ∷ ts) e h end = absurd (cc)

    agree : (front a b : List Symbol) → Agrees Open a b (refuse {A = A} (reason_by begins why (next (front ++ a))) (front ++ a)) (refuse {A = A} (reason_by begins why (next (front ++ b))) (front ++ b))
    agree [] a b = goes_on (refuses_on _ refl (suffix_whole a))
    agree (t ∷ front) a b = both_refuse _ t front refl refl

-- ---- lists, with as many rounds as there are symbols

-- Two continuations of a parser give equal results if they agree on the symbols that the parser leaves unread.
pub same_after : {A B : Type 0} {c : Bool} {Open : A → Type 0} {p : Parser A} (f g : A → Parser B) (ts : List Symbol) → Runs c Open p
    → ((x : A) (rest : List Symbol) → length rest ≤ length ts → f x rest ≡ g x rest) → bind p f ts ≡ bind p g ts
unfolding bind
same_after {A} {p = p} f g ts h same = go (p ts) (h.suffix ts)
  where
    go : (o : Outcome A) → IsSuffix (left_of o) ts → and_then o f ≡ and_then o g
    go (Ok q) s = same q.0 q.1 (suffix-length s)
    go (Err e) s = refl

pub same_after_read : {A B : Type 0} {Open : A → Type 0} {p : Parser A} (f g : A → Parser B) (ts : List Symbol) → Runs true Open p
    → ((x : A) (rest : List Symbol) → length rest < length ts → f x rest ≡ g x rest) → bind p f ts ≡ bind p g ts
unfolding bind
same_after_read {A} {p = p} f g ts h same = go (p ts) refl
  where
    go : (o : Outcome A) → p ts ≡ o → and_then o f ≡ and_then o g
    go (Ok q) e = same q.0 q.1 (h.shorter refl ts q.1 q.0 e)
    go (Err e) _ = refl

-- In a sequence, the first parser may be replaced by one that returns an equal result on the given symbols.
pub same_first : {A B : Type 0} (p q : Parser A) (f : A → Parser B) (ts : List Symbol) → p ts ≡ q ts → bind p f ts ≡ bind q f ts
unfolding bind
same_first p q f ts e = ap (λ (o : Outcome _). and_then o f) e

cond_same : {A : Type 0} (b : Bool) (p p' q : Parser A) (ts : List Symbol) → p ts ≡ p' ts → cond b p q ts ≡ cond b p' q ts
cond_same true p p' q ts e = e
cond_same false p p' q ts e = refl

pub sees_same : {A : Type 0} (s : Sign) (p p' q : Parser A) (ts : List Symbol) → p ts ≡ p' ts → if_sees s p q ts ≡ if_sees s p' q ts
unfolding if_sees
sees_same s p p' q ts e = cond_same (sees_terminal s (next ts)) p p' q ts e

pub starts_same : {A : Type 0} (begins : Terminal → Bool) (p p' q : Parser A) (ts : List Symbol) → p ts ≡ p' ts → if_starts begins p q ts ≡ if_starts begins p' q ts
unfolding if_starts
starts_same begins p p' q ts e = cond_same (starts begins (next ts)) p p' q ts e

-- If a repeating parser may take one round per symbol, then further permitted rounds do not change its result.
pub turns_run : {A : Type 0} {Open : A → Type 0} (q : ℕ → Parser A) → ((n : ℕ) → Runs false Open (q n)) → ((n m : ℕ) (ts : List Symbol) → length ts ≤ n → length ts ≤ m → q n ts ≡ q m ts)
    → Runs false Open (λ ts. q (length ts) ts)
turns_run {A} {Open = Open} q h enough = record {
  suffix = λ ts. (h (length ts)).suffix ts;
  shorter = λ is. absurd (cc);
  ends = λ ts. (h (length ts)).ends ts;
  agrees = λ front a b. agree front a b (length (front ++ a) + length (front ++ b)) (omega arith) (omega arith);
}
  where
    agree : (front a b : List Symbol) (n : ℕ) → length (front ++ a) ≤ n → length (front ++ b) ≤ n → Agrees Open a b (q (length (front ++ a)) (front ++ a)) (q (length (front ++ b)) (front ++ b))
    agree front a b n few few' = agree_as (enough (length (front ++ a)) n (front ++ a) (omega arith) few) (enough (length (front ++ b)) n (front ++ b) (omega arith) few') ((h n).agrees front a b)
