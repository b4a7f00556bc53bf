-- Lists separated by commas are parsed back from their yields, up to the maximal number of elements.
use Rattle.std.proofs.Common.{◌≡◌, ℕ, zero, suc, ◌+◌, ◌≤◌, ◌<◌, Bool, false, List, [], ◌∷◌, ◌++◌, Some, Ok, Err, refl, sym, ap, subst, ◌∙◌, arith}
use Rattle.std.specs.List.{AllByRecursion}
use Rattle.cyc_words.proofs.Numbers.{lt-nat_lt, le-nat_lt}
use Rattle.cyc_syntax.specs.declared.tokens.Sign.TheVariants as signs
use Rattle.cyc_syntax.specs.Symbols.{Terminal, Mark, Symbol}
use Rattle.cyc_syntax.specs.Yields.{Leaf, Yield, item_number, each, more, separated}
use Rattle.cyc_syntax.specs.Grammar.{max_nesting, max_items}
use Rattle.cyc_parse.specs.inside.Parsing.{Parser, TooLong, refuse_item, pure, sees, starts, if_starts, next, more_items}
use Rattle.cyc_parse.specs.inside.Parsing as parsing
use Rattle.cyc_parse.specs.inside.Declarations.{more_of, some_of}
use Rattle.cyc_parse.proofs.Rules.{Front, judge, Reads, Fits, Starts, Always, leaf_of, front-next, refuse_item-is, then_reads, last_reads, pure_reads, sign_reads, sees_reads, unseen_reads, starts_reads, unstarted_reads, number_reads}

judge-long : {A : Type 0} (leaf : Leaf) (i : ℕ) (ys : Yield) (t : Symbol) (ts : List Symbol) (outcome : parsing.Outcome A) → leaf.nesting ≤ max_nesting → max_items < i
    → judge (record leaf { item = i } ∷ ys) (t ∷ ts) outcome ≡ Err (record { reason = TooLong; left = t ∷ ts })
judge-long leaf i ys t ts outcome shallow many = rw (le-nat_lt max_nesting leaf.nesting shallow, lt-nat_lt max_items i many) refl

-- An element beyond the maximal length of its list is rejected.
pub long_reads : {A : Type 0} (begins : Terminal → Bool) (d i : ℕ) (xs ys : Yield) {x : A} {Ends : List Symbol → Type 0} → d ≤ max_nesting → max_items < i → Starts begins d xs
    → Reads (refuse_item begins TooLong) x (item_number i xs ++ ys) Ends
long_reads begins d i xs ys {x = x} {Ends = Ends} shallow many s = subst (λ (zs : Yield). Reads (refuse_item begins TooLong) x (item_number i zs ++ ys) Ends) (sym s.are) (record {
  reads = λ ts rest (t, more, e, is_leaf, front) ends.
      subst (λ (w : List Symbol). refuse_item begins TooLong w ≡ judge (record (s.first) { item = i } ∷ (s.others ++ ys)) w (Ok (x, rest))) (sym e)
      (refuse_item-is begins TooLong t more (ap begins is_leaf.terminal ∙ s.begin) ∙ sym (judge-long s.first i (s.others ++ ys) t more (Ok (x, rest)) (omega arith) many));
})

-- Says that each element of a list is parsed back from its yield by the parser of elements.
pub record IsRead {A : Type 0} (d : ℕ) (begins : Terminal → Bool) (item : Parser A) (yield : A → Yield) (Ends : List Symbol → Type 0) (x : A) : Type 0 where
  pub starts : Starts begins d (yield x)
  pub reads : Reads item x (yield x) Ends

-- Conditions on the symbols that may follow a list separated by commas.
pub record EndsList (Ends : List Symbol → Type 0) (ts : List Symbol) : Type 0 where
  pub item : Ends ts
  pub comma : sees signs.Comma ts ≡ false

-- ---- lists separated by commas

module _ {A : Type 0} (room d : ℕ) (fits : Fits room d) (shallow : d ≤ max_nesting) (begins : Terminal → Bool) (item : Parser A) (yield : A → Yield)
    (Ends : List Symbol → Type 0) (before_comma : (ts : List Symbol) → next ts ≡ Some (Mark signs.Comma) → Ends ts) where
  more_ends : (i : ℕ) (xs : List A) (mid rest : List Symbol) → Front (more yield d i xs) mid rest → EndsList Ends rest → Ends mid
  more_ends i [] mid rest front ends = subst Ends (sym front) ends.item
  more_ends i (x ∷ xs) mid rest front ends = before_comma mid (front-next (leaf_of d (Mark signs.Comma)) (item_number i (yield x) ++ more yield d (suc i) xs) mid rest front)

  pub more_reads : (left i : ℕ) (xs : List A) → left + i ≡ suc max_items → AllByRecursion (IsRead d begins item yield Ends) xs
      → Reads (more_items room begins item left) xs (more yield d i xs) (EndsList Ends)
  unfolding more_items
  more_reads zero i [] count all = unseen_reads signs.Comma _ _ (λ ts rest front ends. ap (sees signs.Comma) front ∙ ends.comma) (pure_reads [] (EndsList Ends))
  more_reads zero i (x ∷ xs) count (one, all) =
      sees_reads signs.Comma _ _ (leaf_of d (Mark signs.Comma)) (item_number i (yield x) ++ more yield d (suc i) xs) refl
      (sign_reads room d signs.Comma _ fits (λ p. long_reads begins d i (yield x) (more yield d (suc i) xs) shallow (omega arith) one.starts))
  more_reads (suc left) i [] count all = unseen_reads signs.Comma _ _ (λ ts rest front ends. ap (sees signs.Comma) front ∙ ends.comma) (pure_reads [] (EndsList Ends))
  more_reads (suc left) i (x ∷ xs) count (one, all) =
      sees_reads signs.Comma _ _ (leaf_of d (Mark signs.Comma)) (item_number i (yield x) ++ more yield d (suc i) xs) refl
      (sign_reads room d signs.Comma _ fits (λ p. then_reads _ (number_reads begins d i (omega arith) one.starts one.reads)
      (last_reads (λ (v : List A). pure (x ∷ v)) (λ ts. refl) (more_reads left (suc i) xs (omega arith) all)) (more_ends (suc i) xs)))

  pub separated_reads : (x : A) (xs : List A) → AllByRecursion (IsRead d begins item yield Ends) (x ∷ xs)
      → Reads (parsing.separated room begins item) (x ∷ xs) (separated yield d (x ∷ xs)) (EndsList Ends)
  separated_reads x xs (one, all) =
      then_reads _ (number_reads begins d 1 (omega arith) one.starts one.reads) (last_reads (λ (v : List A). pure (x ∷ v)) (λ ts. refl) (more_reads 63 2 xs refl all)) (more_ends 2 xs)

-- ---- lists without separators

-- Conditions on the symbols that may follow a list without separators.
pub record EndsItems (begins : Terminal → Bool) (ts : List Symbol) : Type 0 where
  pub other : starts begins (next ts) ≡ false

module _ {A : Type 0} (d : ℕ) (shallow : d ≤ max_nesting) (begins : Terminal → Bool) (item : Parser A) (yield : A → Yield) where
  begun : {B : Type 0} {xs : Yield} (i : ℕ) (ys : Yield) (p q : Parser B) {x : B} {Ends : List Symbol → Type 0} → Starts begins d xs → Reads p x (item_number i xs ++ ys) Ends → Reads (if_starts begins p q) x (item_number i xs ++ ys) Ends
  begun i ys p q {x = x} {Ends = Ends} s h =
      subst (λ (zs : Yield). Reads (if_starts begins p q) x (item_number i zs ++ ys) Ends) (sym s.are)
      (starts_reads begins p q (record (s.first) { item = i }) (s.others ++ ys) s.begin (subst (λ (zs : Yield). Reads p x (item_number i zs ++ ys) Ends) s.are h))

  refused_reads : (i : ℕ) (xs ys : Yield) {x : List A} {Ends : List Symbol → Type 0} → max_items < i → Starts begins d xs → Reads (parsing.refuse TooLong) x (item_number i xs ++ ys) Ends
  refused_reads i xs ys {x = x} {Ends = Ends} many s = subst (λ (zs : Yield). Reads (parsing.refuse TooLong) x (item_number i zs ++ ys) Ends) (sym s.are) (record {
    reads = λ ts rest (t, others, e, is_leaf, front) ends.
        subst (λ (w : List Symbol). parsing.refuse TooLong w ≡ judge (record (s.first) { item = i } ∷ (s.others ++ ys)) w (Ok (x, rest))) (sym e) (sym (judge-long s.first i (s.others ++ ys) t others (Ok (x, rest)) (omega arith) many));
  })

  pub more_of_reads : (left i : ℕ) (xs : List A) → left + i ≡ suc max_items → AllByRecursion (IsRead d begins item yield Always) xs
      → Reads (more_of begins item left) xs (each yield i xs) (EndsItems begins)
  unfolding more_of
  more_of_reads zero i [] count all = unstarted_reads begins _ _ (λ ts rest front ends. ap (λ (w : List Symbol). starts begins (next w)) front ∙ ends.other) (pure_reads [] (EndsItems begins))
  more_of_reads zero i (x ∷ xs) count (one, all) = begun i (each yield (suc i) xs) _ _ one.starts (refused_reads i (yield x) (each yield (suc i) xs) (omega arith) one.starts)
  more_of_reads (suc left) i [] count all = unstarted_reads begins _ _ (λ ts rest front ends. ap (λ (w : List Symbol). starts begins (next w)) front ∙ ends.other) (pure_reads [] (EndsItems begins))
  more_of_reads (suc left) i (x ∷ xs) count (one, all) = begun i (each yield (suc i) xs) _ _ one.starts
      (then_reads _ (number_reads begins d i (omega arith) one.starts one.reads) (last_reads (λ (v : List A). pure (x ∷ v)) (λ ts. refl) (more_of_reads left (suc i) xs (omega arith) all)) (λ mid rest front ends. tt))

  pub some_of_reads : (x : A) (xs : List A) → AllByRecursion (IsRead d begins item yield Always) (x ∷ xs)
      → Reads (some_of begins item) (x ∷ xs) (each yield 1 (x ∷ xs)) (EndsItems begins)
  some_of_reads x xs (one, all) =
      then_reads _ (number_reads begins d 1 (omega arith) one.starts one.reads) (last_reads (λ (v : List A). pure (x ∷ v)) (λ ts. refl) (more_of_reads 63 2 xs refl all)) (λ mid rest front ends. tt)
