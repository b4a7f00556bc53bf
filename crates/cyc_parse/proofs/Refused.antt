-- If symbols are rejected, then no program continues them, or every program that continues them breaks a limit at the rejected symbol.
use Rattle.std.proofs.Common.{◌≡◌, ℕ, suc, ◌+◌, ◌<◌, Bool, true, false, cond, List, [], ◌∷◌, ◌++◌, length, Ok, Err, refl, sym, ap, subst, ◌∙◌, arith, append_assoc, append-nil, length-append, ltb-true, ltb-false}
use Rattle.std.specs.Prelude.{nat_lt}
use Rattle.std.specs.List.{AllByRecursion}
use Rattle.cyc_words.proofs.Numbers.{lt-nat_lt, le-nat_lt}
use Rattle.cyc_syntax.specs.Symbols.{Symbol}
use Rattle.cyc_syntax.specs.Trees.{Declaration}
use Rattle.cyc_syntax.specs.Yields.{Leaf, Yield}
use Rattle.cyc_syntax.specs.Yields as yields
use Rattle.cyc_syntax.specs.Grammar.{IsSpelled, HasTree, IsWithin, IsWithinLimits, max_nesting, max_items}
use Rattle.cyc_parse.specs.inside.Parsing.{Outcome, Refusal, Reason, Unexpected, TooDeep, TooLong}
use Rattle.cyc_parse.specs.inside.Declarations.{program, program_of}
use Rattle.cyc_parse.specs.Refusals.{Breaks, BreaksFirst, IsAlike, Holds, IsRefused}
use Rattle.cyc_parse.proofs.Rules.{judge}
use Rattle.cyc_parse.proofs.Soundness.{limit_begun}
use Rattle.cyc_parse.proofs.Completeness.{program_of-complete}
use Rattle.cyc_parse.proofs.OneTree.{judge-within}
use Rattle.cyc_parse.proofs.Locality.{one_refusal, IsSuffix, suffix-length, left_of, IsLess, reads_on, refuses_on, opens, overflows, Agrees, both_read, both_refuse, goes_on, Never}
use Rattle.cyc_parse.proofs.LocalDeclarations.{program_runs}

-- ---- a rejection does not depend on the symbols after the rejected one

one_symbol : (t s : Symbol) (f back : List Symbol) → t ∷ (f ++ back) ≡ s ∷ back → f ≡ []
one_symbol t s [] back e = refl
one_symbol t s (u ∷ f) back e = absurd (omega (arith, length-append f back, ap (λ (w : List Symbol). length w) e))

pub refusal_is_local : (front back more : List Symbol) (s : Symbol) (why : Reason) → program_of (front ++ s ∷ back) ≡ Err (record { reason = why; left = s ∷ back })
    → (why ≡ TooLong → IsAlike s back more) → program_of (front ++ s ∷ more) ≡ Err (record { reason = why; left = s ∷ more })
refusal_is_local front back more s why h alike =
    ap (program 200) (sym (append_assoc front (s ∷ []) more)) ∙ go ((program_runs 200).agrees (front ++ s ∷ []) back more) (ap (program 200) (append_assoc front (s ∷ []) back) ∙ h)
  where
    go : {o u : Outcome (List Declaration)} → Agrees Never back more o u → o ≡ Err (record { reason = why; left = s ∷ back }) → u ≡ Err (record { reason = why; left = s ∷ more })
    go (both_read x t f e e') k = absurd (ok_err (sym e ∙ k))
      where
        ok_err : {y : List Declaration × List Symbol} {r : Refusal} → Ok y ≡ Err r → ⊥
        ok_err q = cc
    go (both_refuse why' t f e e') k =
        let q = one_refusal _ _ (sym e ∙ k) in
        let lefts : t ∷ (f ++ back) ≡ s ∷ back = ap (λ (r : Refusal). r.left) q in
        let none = one_symbol t s f back lefts in
        let first : t ≡ s = cc in
        e' ∙ ap Err (same_place why' t f (ap (λ (r : Refusal). r.reason) q) first none)
      where
        same_place : (why' : Reason) (t : Symbol) (f : List Symbol) → why' ≡ why → t ≡ s → f ≡ [] → ◌≡◌ {A = Refusal} (record { reason = why'; left = t ∷ (f ++ more) }) (record { reason = why; left = s ∷ more })
        same_place why' t f a b c = rw (a, b, c) refl
    go (goes_on (reads_on x rest e suffix)) k = absurd (cc (sym e ∙ k))
    go (goes_on (refuses_on r e suffix)) k = absurd (omega (arith, suffix-length suffix, ap (λ (q : Refusal). length q.left) (one_refusal _ _ (sym e ∙ k))))
    go (goes_on (opens x t e ready less differ)) k = absurd ready
    go (goes_on (overflows t e less differ)) k =
        let q = one_refusal _ _ (sym e ∙ k) in
        let lefts : t ∷ back ≡ s ∷ back = ap (λ (r : Refusal). r.left) q in
        let first : t ≡ s = cc in
        absurd (differ (sym (alike (sym (ap (λ (r : Refusal). r.reason) q)) (subst IsLess first less))))

program_suffix : (ts : List Symbol) (e : Refusal) → program_of ts ≡ Err e → IsSuffix e.left ts
program_suffix ts e h = subst (λ (o : Outcome (List Declaration)). IsSuffix (left_of o) ts) h ((program_runs 200).suffix ts)

at_end : (front : List Symbol) (why : Reason) → program_of (front ++ []) ≡ Err (record { reason = why; left = [] }) → why ≡ Unexpected
at_end front why h = (program_runs 200).ends (front ++ []) (record { reason = why; left = [] }) h refl

-- ---- a tree and the first limit that it breaks

-- Says that a tree's yield breaks a limit after a certain number of symbols, at the first symbol left.
record IsBroken (leaves : Yield) (ts : List Symbol) (e : Refusal) : Type 0 where
  count : ℕ
  place : count + length e.left ≡ length ts
  some : 0 < length e.left
  first : BreaksFirst e.reason leaves count

broken_later : (l : Leaf) (ls : Yield) (t : Symbol) (ts : List Symbol) (e : Refusal) → IsWithin l → IsBroken ls ts e → IsBroken (l ∷ ls) (t ∷ ts) e
broken_later l ls t ts e good h = record {
  count = suc h.count;
  place = omega (arith, h.place);
  some = h.some;
  first = record {
    before = l ∷ h.first.before;
    leaf = h.first.leaf;
    following = h.first.following;
    are = ap (λ (ys : Yield). l ∷ ys) h.first.are;
    place = ap suc h.first.place;
    within = (good, h.first.within);
    breaks = h.first.breaks;
  };
}

broken_here : (l : Leaf) (ls : Yield) (t : Symbol) (ts : List Symbol) (why : Reason) (e : Refusal) → Breaks why l → record { reason = why; left = t ∷ ts } ≡ e → IsBroken (l ∷ ls) (t ∷ ts) e
broken_here l ls t ts why e breaks same = subst (IsBroken (l ∷ ls) (t ∷ ts)) same (record {
  count = 0;
  place = omega arith;
  some = omega arith;
  first = record { before = []; leaf = l; following = ls; are = refl; place = refl; within = tt; breaks = breaks };
})

judged_refusal : {A : Type 0} (leaves : Yield) (ts : List Symbol) (x : A × List Symbol) (e : Refusal) → IsSpelled leaves ts → judge leaves ts (Ok x) ≡ Err e → IsBroken leaves ts e
judged_refusal [] [] x e spelled h = absurd (cc)
judged_refusal [] (t ∷ ts) x e spelled h = absurd spelled
judged_refusal (l ∷ ls) [] x e spelled h = absurd spelled
judged_refusal {A} (l ∷ ls) (t ∷ ts) x e (is, more) h = go (nat_lt max_nesting l.nesting) (nat_lt max_items l.item) refl refl h (judged_refusal ls ts x e more)
  where
    go : (b c : Bool) → nat_lt max_nesting l.nesting ≡ b → nat_lt max_items l.item ≡ c
        → cond b (Err (record { reason = TooDeep; left = t ∷ ts })) (cond c (Err (record { reason = TooLong; left = t ∷ ts })) (judge ls ts (Ok x))) ≡ Err e
        → (judge ls ts (Ok x) ≡ Err e → IsBroken ls ts e) → IsBroken (l ∷ ls) (t ∷ ts) e
    go true c deep few h later = broken_here l ls t ts TooDeep e (ltb-true max_nesting l.nesting deep) (one_refusal _ _ h)
    go false true shallow many h later = broken_here l ls t ts TooLong e (ltb-false max_nesting l.nesting shallow, ltb-true max_items l.item many) (one_refusal _ _ h)
    go false false shallow few h later = broken_later l ls t ts e (record { nesting = ltb-false max_nesting l.nesting shallow; item = ltb-false max_items l.item few }) (later h)

-- ---- the meaning of a rejection

front_count : (front : List Symbol) (s : Symbol) (more : List Symbol) (leaves : Yield) (why : Reason) → IsBroken leaves (front ++ s ∷ more) (record { reason = why; left = s ∷ more }) → BreaksFirst why leaves (length front)
front_count front s more leaves why h = subst (BreaksFirst why leaves) (omega (arith, h.place, length-append front (s ∷ more))) h.first

breaks_where_refused : (front back more : List Symbol) (s : Symbol) (why : Reason) (tree : List Declaration) → program_of (front ++ s ∷ back) ≡ Err (record { reason = why; left = s ∷ back })
    → (why ≡ TooLong → IsAlike s back more) → HasTree (front ++ s ∷ more) tree → BreaksFirst why (yields.program tree) (length front)
breaks_where_refused front back more s why tree h alike has =
    front_count front s more (yields.program tree) why
    (judged_refusal (yields.program tree) (front ++ s ∷ more) (tree, []) (record { reason = why; left = s ∷ more }) has.spelled
    (sym (program_of-complete (front ++ s ∷ more) tree has) ∙ refusal_is_local front back more s why h alike))

holds : (front left : List Symbol) (why : Reason) → program_of (front ++ left) ≡ Err (record { reason = why; left = left }) → Holds why front left
holds front (s ∷ back) Unexpected h = λ more tree has. (breaks_where_refused front back more s Unexpected tree h (λ e. absurd (cc)) has).breaks
holds front (s ∷ back) TooDeep h = (limit_begun front back s TooDeep tt h, (λ more tree has. breaks_where_refused front back more s TooDeep tree h (λ e. absurd (cc)) has))
holds front (s ∷ back) TooLong h = (limit_begun front back s TooLong tt h, (λ more tree alike has. breaks_where_refused front back more s TooLong tree h (λ e. alike) has))
holds front [] Unexpected h = λ tree has. none tree (judged_refusal (yields.program tree) front (tree, []) (record { reason = Unexpected; left = [] }) has.spelled
    (sym (program_of-complete front tree has) ∙ ap program_of (sym (append-nil front)) ∙ h))
  where
    none : (tree : List Declaration) → IsBroken (yields.program tree) front (record { reason = Unexpected; left = [] }) → ⊥
    none tree b = omega (arith, b.some)
holds front [] TooDeep h = absurd (differ (at_end front TooDeep h))
  where
    differ : TooDeep ≡ Unexpected → ⊥
    differ e = cc
holds front [] TooLong h = absurd (differ (at_end front TooLong h))
  where
    differ : TooLong ≡ Unexpected → ⊥
    differ e = cc

pub program_of-refused : (ts : List Symbol) (e : Refusal) → program_of ts ≡ Err e → IsRefused ts e
program_of-refused ts e h = let s = program_suffix ts e h in record {
  front = s.before;
  are = s.are;
  holds = holds s.before e.left e.reason (ap program_of (sym s.are) ∙ h);
}

-- ---- rejected and accepted symbols

-- Symbols with a parse tree that keeps the limits on nesting and list length are never rejected.
pub within_limits_answered : (ts : List Symbol) (tree : List Declaration) → HasTree ts tree → IsWithinLimits tree → program_of ts ≡ Ok (tree, [])
within_limits_answered ts tree has small = program_of-complete ts tree has ∙ judge-within (yields.program tree) ts (Ok (tree, [])) small

judge_breaks : {A : Type 0} (before : Yield) (leaf : Leaf) (following : Yield) (front : List Symbol) (s : Symbol) (back : List Symbol) (why : Reason) (outcome : Outcome A)
    → length before ≡ length front → AllByRecursion IsWithin before → Breaks why leaf → judge (before ++ leaf ∷ following) (front ++ s ∷ back) outcome ≡ Err (record { reason = why; left = s ∷ back })
judge_breaks [] leaf following [] s back TooDeep outcome same all deep = rw (lt-nat_lt max_nesting leaf.nesting deep) refl
judge_breaks [] leaf following [] s back TooLong outcome same all (shallow, many) = rw (le-nat_lt max_nesting leaf.nesting shallow, lt-nat_lt max_items leaf.item many) refl
judge_breaks [] leaf following [] s back Unexpected outcome same all no_limit = absurd no_limit
judge_breaks [] leaf following (t ∷ front) s back why outcome same all breaks = absurd (omega (arith, same))
judge_breaks (l ∷ ls) leaf following [] s back why outcome same all breaks = absurd (omega (arith, same))
judge_breaks (l ∷ ls) leaf following (t ∷ front) s back why outcome same (one, all) breaks =
    rw (le-nat_lt max_nesting l.nesting one.nesting, le-nat_lt max_items l.item one.item) (judge_breaks ls leaf following front s back why outcome (omega (arith, same)) all breaks)

-- If a parse tree breaks a limit, its symbols are rejected for the first limit that it breaks, at the symbol that breaks it.
pub first_limit_refused : (front back : List Symbol) (s : Symbol) (tree : List Declaration) (why : Reason) → HasTree (front ++ s ∷ back) tree → BreaksFirst why (yields.program tree) (length front)
    → program_of (front ++ s ∷ back) ≡ Err (record { reason = why; left = s ∷ back })
first_limit_refused front back s tree why has h =
    program_of-complete (front ++ s ∷ back) tree has
    ∙ ap (λ (ys : Yield). judge ys (front ++ s ∷ back) (Ok (tree, []))) h.are
    ∙ judge_breaks h.before h.leaf h.following front s back why (Ok (tree, [])) h.place h.within h.breaks

-- ---- rejected symbols have no tree that keeps the limits

all_after : (before : Yield) (leaf : Leaf) (following : Yield) → AllByRecursion IsWithin (before ++ leaf ∷ following) → IsWithin leaf
all_after [] leaf following (one, all) = one
all_after (l ∷ ls) leaf following (one, all) = all_after ls leaf following all

keeps_no_limit : (why : Reason) (leaf : Leaf) → IsWithin leaf → Breaks why leaf → ⊥
keeps_no_limit TooDeep leaf good deep = omega (arith, good.nesting, deep)
keeps_no_limit TooLong leaf good (shallow, many) = omega (arith, good.item, many)
keeps_no_limit Unexpected leaf good none = none

broken_not_within : (why : Reason) (leaves : Yield) (count : ℕ) → BreaksFirst why leaves count → AllByRecursion IsWithin leaves → ⊥
broken_not_within why leaves count h all = keeps_no_limit why h.leaf (all_after h.before h.leaf h.following (subst (λ (ys : Yield). AllByRecursion IsWithin ys) h.are all)) h.breaks

none_within_limits : (why : Reason) (front left : List Symbol) (tree : List Declaration) → Holds why front left → HasTree (front ++ left) tree → IsWithinLimits tree → ⊥
none_within_limits Unexpected front [] tree h has small = h tree (subst (λ (ts : List Symbol). HasTree ts tree) (append-nil front) has)
none_within_limits Unexpected front (s ∷ back) tree h has small = h back tree has
none_within_limits TooDeep front [] tree h has small = h
none_within_limits TooDeep front (s ∷ back) tree h has small = broken_not_within TooDeep (yields.program tree) (length front) (h.1 back tree has) small
none_within_limits TooLong front [] tree h has small = h
none_within_limits TooLong front (s ∷ back) tree h has small = broken_not_within TooLong (yields.program tree) (length front) (h.1 back tree (λ _. refl) has) small

pub refused_has_none : (ts : List Symbol) (e : Refusal) (tree : List Declaration) → IsRefused ts e → HasTree ts tree → IsWithinLimits tree → ⊥
refused_has_none ts e tree h has small = none_within_limits e.reason h.front e.left tree h.holds (subst (λ (ts : List Symbol). HasTree ts tree) h.are has) small
