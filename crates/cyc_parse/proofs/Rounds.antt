-- Reading a list in rounds gives the result of the list's parser. Each round reads an element and tests the next symbol.
use Rattle.std.proofs.Common.{◌≡◌, ℕ, zero, suc, ◌+◌, ◌-◌, ◌<◌, ◌≤◌, Bool, true, false, cond, List, [], ◌∷◌, ◌++◌, map, Option, Some, None, Ok, Err, if◌then◌else◌, refl, sym, ap, ◌∙◌, arith}
use Rattle.cyc_syntax.specs.declared.tokens.Sign.TheVariants as signs
use Rattle.cyc_syntax.specs.Symbols.{Terminal, Symbol, Place}
use Rattle.cyc_parse.specs.declared.stop.Reason.TheVariants as reasons
use Rattle.cyc_parse.specs.declared.stop.Stop.{Stop}
use Rattle.cyc_parse.specs.declared.stop.Stop.TheVariants as stops
use Rattle.cyc_parse.specs.inside.Code.{Stops, view_reason}
use Rattle.cyc_parse.specs.inside.Parsing.{Parser, Outcome, Unexpected, TooLong, ◌>>=◌, and_then, bind, pure, refuse, refuse_item, reason_by, next, sees, if_sees, starts, if_starts, sign, more_items, separated}
use Rattle.cyc_parse.specs.inside.Declarations.{more_of, some_of}
use Rattle.cyc_parse.proofs.Loops.{with_front, onto-map, regroup}

-- Says that `many` parses the rest of a list after an element, and `next` parses an element and the rest of the list. The number passed
-- to `many` or `next` bounds the number of elements.
pub record Rounds {Y : Type 0} (item : Parser Y) (many next : ℕ → Parser (List Y)) : Type 0 where
  pub turn : (n : ℕ) (ts : List Symbol) → next (suc n) ts ≡ and_then (item ts) (λ y us. and_then (many n us) (λ ys vs. Ok (y ∷ ys, vs)))

-- Returns the outcome of the remaining rounds of reading a list, with the elements that were read before prepended to the list.
abbrev pub with_items : {X Y : Type 0} → (X → Y) → List X → Outcome (List Y) → Outcome (List Y)
with_items view = with_front view (λ y ys. y ∷ ys)

module _ {X Y : Type 0} (view : X → Y) (item : Parser Y) (many next : ℕ → Parser (List Y)) (rounds : Rounds item many next) where
  pub item_fails : (e : Stop) (front : List X) (count i : ℕ) (ts us : List Symbol) (whole : Outcome (List Y)) → i < count → Stops e (item ts) us
      → with_items view front (next (count - i) ts) ≡ whole → Stops e whole us
  item_fails stops.Memory front count i ts us whole lt h so_far = tt
  item_fails (stops.Refused why) front count i ts us whole lt h so_far =
      let k : count - i ≡ suc (count - (i + 1)) = omega arith in
      let step : next (count - i) ts ≡ Err (record { reason = view_reason why; left = us }) =
      ap (λ (n : ℕ). next n ts) k ∙ rounds.turn _ ts ∙ ap (λ (o : Outcome Y). and_then o (λ y vs. and_then (many (count - (i + 1)) vs) (λ ys ws. Ok (y ∷ ys, ws)))) h in
      sym so_far ∙ ap (with_items view front) step

  -- After a round has read an element of a list, the test of the next symbol decides if the list continues.
  pub item_read : (front : List X) (x : X) (count i : ℕ) (ts us : List Symbol) (whole : Outcome (List Y)) → i < count → item ts ≡ Ok (view x, us)
      → with_items view front (next (count - i) ts) ≡ whole → with_items view (front ++ x ∷ []) (many (count - (i + 1)) us) ≡ whole
  item_read front x count i ts us whole lt h so_far =
      let k : count - i ≡ suc (count - (i + 1)) = omega arith in
      let step : next (count - i) ts ≡ and_then (many (count - (i + 1)) us) (λ ys vs. Ok (view x ∷ ys, vs)) =
      ap (λ (n : ℕ). next n ts) k ∙ rounds.turn _ ts ∙ ap (λ (o : Outcome Y). and_then o (λ y vs. and_then (many (count - (i + 1)) vs) (λ ys ws. Ok (y ∷ ys, ws)))) h in
      sym (ap (with_items view front) step ∙ regroup view (λ y ys. y ∷ ys) front x (many (count - (i + 1)) us)) ∙ so_far

  pub list_ends : (front : List X) (x : X) (count i : ℕ) (ts us : List Symbol) (whole : Outcome (List Y)) → i < count → item ts ≡ Ok (view x, us)
      → many (count - (i + 1)) us ≡ Ok ([], us) → with_items view front (next (count - i) ts) ≡ whole → whole ≡ Ok (map view (front ++ x ∷ []), us)
  list_ends front x count i ts us whole lt h last so_far =
      sym (item_read front x count i ts us whole lt h so_far) ∙ ap (with_items view (front ++ x ∷ [])) last ∙ ap (λ (ys : List Y). Ok (ys, us)) (onto-map view (front ++ x ∷ []))

  pub list_goes_on : (front : List X) (x : X) (count i : ℕ) (ts us vs : List Symbol) (whole : Outcome (List Y)) → i < count → item ts ≡ Ok (view x, us)
      → many (count - (i + 1)) us ≡ next (count - (i + 1)) vs → with_items view front (next (count - i) ts) ≡ whole → with_items view (front ++ x ∷ []) (next (count - (i + 1)) vs) ≡ whole
  list_goes_on front x count i ts us vs whole lt h goes so_far = sym (ap (with_items view (front ++ x ∷ [])) goes) ∙ item_read front x count i ts us whole lt h so_far

  pub rest_fails : (e : Stop) (front : List X) (x : X) (count i : ℕ) (ts us vs : List Symbol) (whole : Outcome (List Y)) → i < count → item ts ≡ Ok (view x, us)
      → Stops e (many (count - (i + 1)) us) vs → with_items view front (next (count - i) ts) ≡ whole → Stops e whole vs
  rest_fails stops.Memory front x count i ts us vs whole lt h stopped so_far = tt
  rest_fails (stops.Refused why) front x count i ts us vs whole lt h stopped so_far = sym (item_read front x count i ts us whole lt h so_far) ∙ ap (with_items view (front ++ x ∷ [])) stopped

  pub is_too_long : (e : Stop) (front : List X) (count i : ℕ) (ts : List Symbol) (whole : Outcome (List Y)) → count ≤ i → Stops e (next 0 ts) ts
      → with_items view front (next (count - i) ts) ≡ whole → Stops e whole ts
  is_too_long stops.Memory front count i ts whole le h so_far = tt
  is_too_long (stops.Refused why) front count i ts whole le h so_far =
      let k : count - i ≡ 0 = omega arith in
      sym so_far ∙ ap (with_items view front) (ap (λ (n : ℕ). next n ts) k ∙ h)

-- ---- lists separated by commas

unfoldable pub next_item : {A : Type 0} → ℕ → (Terminal → Bool) → Parser A → ℕ → Parser (List A)
next_item room begins item zero = refuse_item begins TooLong
next_item room begins item (suc n) = item >>= (λ x. more_items room begins item n >>= (λ xs. pure (x ∷ xs)))

-- Before the first element of a list is read, prepending the elements read so far (none) leaves the outcome unchanged.
no_items : {X Y : Type 0} (view : X → Y) (outcome : Outcome (List Y)) → with_items view [] outcome ≡ outcome
no_items view (Ok p) = refl
no_items view (Err e) = refl

pub separated_begins : {X Y : Type 0} (view : X → Y) (room : ℕ) (begins : Terminal → Bool) (item : Parser Y) (front : List X) (ts : List Symbol) → front ≡ []
    → with_items view front (next_item room begins item 64 ts) ≡ separated room begins item ts
unfolding next_item bind
separated_begins view room begins item front ts is = rw is (no_items view (separated room begins item ts))

pub item_rounds : {A : Type 0} (room : ℕ) (begins : Terminal → Bool) (item : Parser A) → Rounds item (more_items room begins item) (next_item room begins item)
unfolding next_item bind
item_rounds room begins item = record { turn = λ n ts. refl }

comma_decides : {A : Type 0} (room : ℕ) (begins : Terminal → Bool) (item : Parser A) (n : ℕ) (ts : List Symbol)
    → more_items room begins item n ts ≡ cond (sees signs.Comma ts) (bind (sign room signs.Comma) (λ _. next_item room begins item n)) (pure []) ts
unfolding more_items next_item if_sees
comma_decides room begins item zero ts = refl
comma_decides room begins item (suc n) ts = refl

pub no_comma : {A : Type 0} (room : ℕ) (begins : Terminal → Bool) (item : Parser A) (n : ℕ) (ts : List Symbol) → sees signs.Comma ts ≡ false → more_items room begins item n ts ≡ Ok ([], ts)
no_comma room begins item n ts h = comma_decides room begins item n ts ∙ ap (λ (b : Bool). cond b (bind (sign room signs.Comma) (λ _. next_item room begins item n)) (pure []) ts) h

pub a_comma : {A : Type 0} (room : ℕ) (begins : Terminal → Bool) (item : Parser A) (n : ℕ) (ts us : List Symbol) (p : Place) → sees signs.Comma ts ≡ true → sign room signs.Comma ts ≡ Ok (p, us)
    → more_items room begins item n ts ≡ next_item room begins item n us
unfolding bind
a_comma room begins item n ts us p h taken =
    comma_decides room begins item n ts ∙ ap (λ (b : Bool). cond b (bind (sign room signs.Comma) (λ _. next_item room begins item n)) (pure []) ts) h
    ∙ ap (λ (o : Outcome Place). and_then o (λ _. next_item room begins item n)) taken

pub comma_fails : {A : Type 0} (room : ℕ) (begins : Terminal → Bool) (item : Parser A) (n : ℕ) (e : Stop) (ts us : List Symbol) → sees signs.Comma ts ≡ true → Stops e (sign room signs.Comma ts) us
    → Stops e (more_items room begins item n ts) us
unfolding bind
comma_fails room begins item n stops.Memory ts us h stopped = tt
comma_fails room begins item n (stops.Refused why) ts us h stopped =
    comma_decides room begins item n ts ∙ ap (λ (b : Bool). cond b (bind (sign room signs.Comma) (λ _. next_item room begins item n)) (pure []) ts) h
    ∙ ap (λ (o : Outcome Place). and_then o (λ _. next_item room begins item n)) stopped

-- After the last permitted comma of a list, a symbol that begins a further element is rejected because the list is too long; any other
-- symbol is rejected as unexpected.
limit_by_test : {A : Type 0} (b : Bool) (ts : List Symbol) → Stops (stops.Refused (if b then reasons.TooLong else reasons.Unexpected)) (refuse {A = A} (if b then TooLong else Unexpected) ts) ts
limit_by_test true ts = refl
limit_by_test false ts = refl

limit_by_terminal : {A : Type 0} (begins : Terminal → Bool) (t : Option Terminal) (ts : List Symbol)
    → Stops (stops.Refused (if starts begins t then reasons.TooLong else reasons.Unexpected)) (refuse {A = A} (reason_by begins TooLong t) ts) ts
limit_by_terminal begins None ts = refl
limit_by_terminal {A = A} begins (Some t) ts = limit_by_test {A = A} (begins t) ts

pub comma_too_many : {A : Type 0} (room : ℕ) (begins : Terminal → Bool) (item : Parser A) (stop : Stop) (b : Bool) (ts : List Symbol) → stop ≡ stops.Refused (if b then reasons.TooLong else reasons.Unexpected) → b ≡ starts begins (next ts)
    → Stops stop (next_item room begins item 0 ts) ts
unfolding next_item refuse_item
comma_too_many {A = A} room begins item stop b ts is begun = rw (is, begun) (limit_by_terminal {A = List A} begins (next ts) ts)

-- ---- lists without separators

unfoldable pub next_of : {A : Type 0} → (Terminal → Bool) → Parser A → ℕ → Parser (List A)
next_of begins item zero = refuse TooLong
next_of begins item (suc n) = item >>= (λ x. more_of begins item n >>= (λ xs. pure (x ∷ xs)))

pub some_begin : {X Y : Type 0} (view : X → Y) (begins : Terminal → Bool) (item : Parser Y) (front : List X) (ts : List Symbol) → front ≡ []
    → with_items view front (next_of begins item 64 ts) ≡ some_of begins item ts
unfolding next_of bind
some_begin view begins item front ts is = rw is (no_items view (some_of begins item ts))

pub rounds_of : {A : Type 0} (begins : Terminal → Bool) (item : Parser A) → Rounds item (more_of begins item) (next_of begins item)
unfolding next_of bind
rounds_of begins item = record { turn = λ n ts. refl }

begin_decides : {A : Type 0} (begins : Terminal → Bool) (item : Parser A) (n : ℕ) (ts : List Symbol)
    → more_of begins item n ts ≡ cond (starts begins (next ts)) (next_of begins item n) (pure []) ts
unfolding more_of next_of if_starts
begin_decides begins item zero ts = refl
begin_decides begins item (suc n) ts = refl

pub none_begins : {A : Type 0} (begins : Terminal → Bool) (item : Parser A) (n : ℕ) (ts : List Symbol) → starts begins (next ts) ≡ false → more_of begins item n ts ≡ Ok ([], ts)
none_begins begins item n ts h = begin_decides begins item n ts ∙ ap (λ (b : Bool). cond b (next_of begins item n) (pure []) ts) h

pub item_begins : {A : Type 0} (begins : Terminal → Bool) (item : Parser A) (n : ℕ) (ts : List Symbol) → starts begins (next ts) ≡ true → more_of begins item n ts ≡ next_of begins item n ts
item_begins begins item n ts h = begin_decides begins item n ts ∙ ap (λ (b : Bool). cond b (next_of begins item n) (pure []) ts) h

limit_of : {A : Type 0} (begins : Terminal → Bool) (item : Parser A) (ts : List Symbol) → Stops (stops.Refused reasons.TooLong) (next_of begins item 0 ts) ts
unfolding next_of
limit_of begins item ts = refl

pub too_many : {X Y : Type 0} (view : X → Y) (begins : Terminal → Bool) (item : Parser Y) (front : List X) (count i : ℕ) (ts : List Symbol) (whole : Outcome (List Y)) → count ≤ i
    → with_items view front (next_of begins item (count - i) ts) ≡ whole → Stops (stops.Refused reasons.TooLong) whole ts
too_many view begins item front count i ts whole le so_far = is_too_long view item (more_of begins item) (next_of begins item) (rounds_of begins item) (stops.Refused reasons.TooLong) front count i ts whole le (limit_of begins item ts) so_far
