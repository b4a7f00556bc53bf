-- The derivations of the flow rules preserve the match of the flow state with a guard (sets of locked, relied-on and peeked
-- locals). Unreachable code stays unreachable. Locals stay locked, except those whose locking block ends. Locals that code neither
-- consumes, lends nor assigns keep their values.
use Rattle.std.proofs.Common.{◌≡◌, ℕ, Bool, false, not, List, [], ◌∷◌, ◌++◌, Option, Some, None, sym, subst}
use Rattle.std.proofs.lemmas.Bool.{and_parts}
use Rattle.cyc_types.specs.Types.{ValueType, Void, Null, Value}
use Rattle.cyc_types.specs.TypedTrees.{Lvalue, Local, Global, Expression, Number, NullPointer, HeapRegion, Counter, Copy, Move, Peek, Load, AddressOf, AddressOfCell, NumberOfElements, FreeUnique, FreeKey, Call, Unary}
use Rattle.cyc_types.specs.TypedTrees.{Binary, Assign, Store, New, Dereference, Target, Member, Element, Placement, OnHeap, AsUnique, ByHandle, Initial, Plain, Fields, Array, Converted, Convert, Arguments, NoArguments}
use Rattle.cyc_types.specs.TypedTrees.{MoreArguments, Operations, NoOperations, ThenCompute, ThenTest, ThenPointer, ThenPointerPeek, Side, VariableSide, CellSide, Statement, Block, Empty, Evaluate, Swap, If, While}
use Rattle.cyc_types.specs.TypedTrees.{Return, Break, Continue, Throw, Try, Items, NoItems, MoreItems, Item, Execute, Declare, DeclareRegion, OpenRegion, DeclareAlias, DeclareKey, Clauses, NoClauses, Default, Case}
use Rattle.cyc_types.specs.Rules.{Derives}
use Rattle.cyc_types.specs.flow.States.{State, Unreached, Full, meet, fullness, with_each, is_locked}
use Rattle.cyc_types.specs.flow.Touched.{and_local, and_assigned, touched, touched_place, touched_placement, touched_initial, touched_converted, touched_arguments, touched_operations}
use Rattle.cyc_types.specs.flow.Touched.{touched_side, touched_value, touched_thrown, touched_declaration, touched_statement, touched_items, touched_item, touched_clauses}
use Rattle.cyc_types.specs.flow.Expressions.{and_peeked, peek_of, peek_after, used, stored, is_free, rule, rule_place, rule_placement, rule_initial, rule_converted, rule_arguments, rule_operations}
use Rattle.cyc_types.specs.flow.Statements.{Around, Known, at, in_loop, left_loop, rule_side, peeked_side, rule_swapped, locked_by, locks_of, rule_declared, caught, with_caught, or_clause, rule_statement, rule_items, rule_item, rule_clauses}
use Rattle.cyc_types.specs.flow.Statements as published
use Rattle.cyc_soundness.specs.inside.guard.Held.{IsAtLeast, Guard}
use Rattle.cyc_soundness.specs.inside.guard.Statements.{following_item}
use Rattle.cyc_soundness.proofs.guard.Bools.{has_left, has_right, has_last, updated_true}
use Rattle.cyc_soundness.proofs.guard.States.{held_of, at_least_same, at_least_trans, meet_left}
use Rattle.cyc_soundness.proofs.guard.Fitting.{Fits, Rests, fits_never, filled_fits, vacated_fits, moved_out, put_in, not_relied, fits_meet, emptied_fits, Leaves, leaves_none, leaves_append, unlocked, lending, Lent, lent_filled}
use Rattle.cyc_soundness.proofs.guard.Numbers.{IsFreshCaught, IsFresh, AreFresh, IsFreshItem, AreFreshClauses}

-- ---- locals touched before stay touched

module _ (p : Guard) where
  rests_front : (ns ms : List ℕ) → Rests p (ns ++ ms) → Rests p ns
  rests_front ns ms r n s h = r n s (has_left ns ms n h)

  pub rests_back : (ns ms : List ℕ) → Rests p (ns ++ ms) → Rests p ms
  rests_back ns ms r n s h = r n s (has_right ns ms n h)

  pub before_assigned : (l : Lvalue) (t : ValueType) (ns : List ℕ) → Rests p (and_assigned l t ns) → Rests p ns
  before_assigned (Local at n) Void ns r = rests_front ns (n ∷ []) r
  before_assigned (Local at n) Null ns r = r
  before_assigned (Local at n) (Value t) ns r = r
  before_assigned (Global n) t ns r = r

  mutual
    pub before : (a : Expression) (ns : List ℕ) → Rests p (touched a ns) → Rests p ns
    before (Number n) ns r = r
    before NullPointer ns r = r
    before HeapRegion ns r = r
    before (Counter l) ns r = r
    before (Copy l t) ns r = r
    before (Move at n t) ns r = rests_front ns (n ∷ []) r
    before (Peek at n t) ns r = r
    before (Load d) ns r = before_place d ns r
    before (AddressOf l t) ns r = r
    before (AddressOfCell d t) ns r = before_place d ns r
    before (NumberOfElements a) ns r = before a ns r
    before (FreeUnique a) ns r = before a ns r
    before (FreeKey a) ns r = before a ns r
    before (Call c as' t) ns r = before_arguments as' ns r
    before (Unary o a) ns r = before a ns r
    before (Binary a os t) ns r = before a ns (before_operations os (touched a ns) r)
    before (Assign l c t) ns r = before_converted c ns (before_assigned l t (touched_converted c ns) r)
    before (Store d c t) ns r = before_place d ns (before_converted c (touched_place d ns) r)
    before (New w i t) ns r = before_placement w ns (before_initial i (touched_placement w ns) r)

    pub before_place : (d : Dereference) (ns : List ℕ) → Rests p (touched_place d ns) → Rests p ns
    before_place (Target k a t) ns r = before a ns r
    before_place (Member k a s m t) ns r = before a ns r
    before_place (Element a i t) ns r = before a ns (before i (touched a ns) r)

    pub before_placement : (w : Placement) (ns : List ℕ) → Rests p (touched_placement w ns) → Rests p ns
    before_placement OnHeap ns r = r
    before_placement AsUnique ns r = r
    before_placement (ByHandle a) ns r = before a ns r

    pub before_initial : (i : Initial) (ns : List ℕ) → Rests p (touched_initial i ns) → Rests p ns
    before_initial (Plain k a) ns r = before a ns r
    before_initial (Fields as') ns r = before_arguments as' ns r
    before_initial (Array at l n k a) ns r = before n ns (before a (touched n ns) r)

    pub before_converted : (c : Converted) (ns : List ℕ) → Rests p (touched_converted c ns) → Rests p ns
    before_converted (Convert from to a) ns r = before a ns r

    pub before_arguments : (as' : Arguments) (ns : List ℕ) → Rests p (touched_arguments as' ns) → Rests p ns
    before_arguments NoArguments ns r = r
    before_arguments (MoreArguments c as') ns r = before_converted c ns (before_arguments as' (touched_converted c ns) r)

    pub before_operations : (os : Operations) (ns : List ℕ) → Rests p (touched_operations os ns) → Rests p ns
    before_operations NoOperations ns r = r
    before_operations (ThenCompute o a os) ns r = before a ns (before_operations os (touched a ns) r)
    before_operations (ThenTest o a os) ns r = before a ns (before_operations os (touched a ns) r)
    before_operations (ThenPointer o a os) ns r = before a ns (before_operations os (touched a ns) r)
    before_operations (ThenPointerPeek n o a os) ns r = before a ns (before_operations os (touched a ns) r)

  pub before_side : (x : Side) (ns : List ℕ) → Rests p (touched_side x ns) → Rests p ns
  before_side (VariableSide l t) ns r = r
  before_side (CellSide d) ns r = before_place d ns r

  before_value : (v : Option Converted) (ns : List ℕ) → Rests p (touched_value v ns) → Rests p ns
  before_value None ns r = r
  before_value (Some c) ns r = before_converted c ns r

  before_thrown : (v : Option Expression) (ns : List ℕ) → Rests p (touched_thrown v ns) → Rests p ns
  before_thrown None ns r = r
  before_thrown (Some a) ns r = before a ns r

  before_declaration : (n : ℕ) (v : Option Converted) (ns : List ℕ) → Rests p (touched_declaration n v ns) → Rests p ns
  before_declaration n None ns r = rests_front ns (n ∷ []) r
  before_declaration n (Some c) ns r = before_converted c ns r

  mutual
    pub before_statement : (s : Statement) (ns : List ℕ) → Rests p (touched_statement s ns) → Rests p ns
    before_statement (Block c js) ns r = before_items js ns r
    before_statement Empty ns r = r
    before_statement (Evaluate a) ns r = before a ns r
    before_statement (Swap x y) ns r = before_side x ns (before_side y (touched_side x ns) r)
    before_statement (If a s t) ns r = before a ns (before_statement s (touched a ns) (before_statement t (touched_statement s (touched a ns)) r))
    before_statement (While at a s) ns r = before a ns (before_statement s (touched a ns) r)
    before_statement (Return v) ns r = before_value v ns r
    before_statement Break ns r = r
    before_statement Continue ns r = r
    before_statement (Throw e v) ns r = before_thrown v ns r
    before_statement (Try s cs) ns r = rests_front ns (touched_statement s []) (before_clauses cs (ns ++ touched_statement s []) r)

    pub before_items : (js : Items) (ns : List ℕ) → Rests p (touched_items js ns) → Rests p ns
    before_items NoItems ns r = r
    before_items (MoreItems j js) ns r = before_item j ns (before_items js (touched_item j ns) r)

    pub before_item : (j : Item) (ns : List ℕ) → Rests p (touched_item j ns) → Rests p ns
    before_item (Execute s) ns r = before_statement s ns r
    before_item (Declare n t v) ns r = before_declaration n v ns r
    before_item (DeclareRegion c n) ns r = r
    before_item (OpenRegion c n at k) ns r = rests_front ns (k ∷ []) r
    before_item (DeclareAlias c n t at m) ns r = rests_front ns (m ∷ []) r
    before_item (DeclareKey c n) ns r = r

    pub before_clauses : (cs : Clauses) (ns : List ℕ) → Rests p (touched_clauses cs ns) → Rests p ns
    before_clauses NoClauses ns r = r
    before_clauses (Default c js) ns r = before_items js ns r
    before_clauses (Case e n c js cs) ns r = before_items js ns (before_clauses cs (touched_items js ns) r)

-- After a declaration or statement, those of its touched locals (consumed, lent or assigned) on which the guard relies are still locked.
pub after_rests : (j : Item) (p : Guard) (ns : List ℕ) → Rests p ns → Rests (following_item j p) ns
after_rests (Execute s) p ns r = r
after_rests (Declare n t v) p ns r = r
after_rests (DeclareRegion c n) p ns r = r
after_rests (OpenRegion c n at k) p ns r = λ m s h. updated_true p.locked k m (r m s h)
after_rests (DeclareAlias c n t at k) p ns r = λ m s h. updated_true p.locked k m (r m s h)
after_rests (DeclareKey c n) p ns r = r

-- ---- expressions

module _ (p : Guard) (e : Bool) where
  use_followed : (q : List ℕ) (l : Lvalue) (f g : State) → Fits p e f → Derives (used q l f) g → Fits p e g
  use_followed q (Local at n) f g h (k, eq) = subst (Fits p e) (sym eq) h
  use_followed q (Global n) f g h (u, eq) = subst (Fits p e) (sym eq) h

  store_followed : (q : List ℕ) (l : Lvalue) (f g : State) → Fits p e f → Derives (stored q l f) g → Fits p e g
  store_followed q (Local at n) f g h ((k, u), eq) = subst (Fits p e) (sym eq) (put_in p e f n h (and_parts (not (is_locked (fullness f n))) (is_free q n f) k).0)
  store_followed q (Global n) f g h (u, eq) = subst (Fits p e) (sym eq) h

  mutual
    pub followed : (a : Expression) (q : List ℕ) (f g : State) (ns : List ℕ) → Fits p e f → Rests p (touched a ns) → Derives (rule q a f) g → Fits p e g
    followed (Number n) q f g ns h r (u, eq) = subst (Fits p e) (sym eq) h
    followed NullPointer q f g ns h r (u, eq) = subst (Fits p e) (sym eq) h
    followed HeapRegion q f g ns h r (u, eq) = subst (Fits p e) (sym eq) h
    followed (Counter l) q f g ns h r (u, eq) = subst (Fits p e) (sym eq) h
    followed (Copy l t) q f g ns h r d = use_followed q l f g h d
    followed (Move at n t) q f g ns h r ((k1, (k2, k3)), eq) = subst (Fits p e) (sym eq) (moved_out p e f n (and_local n ns) h r (has_last ns n) k2)
    followed (Peek at n t) q f g ns h r (k, eq) = subst (Fits p e) (sym eq) h
    followed (Load d) q f g ns h r x = followed_place d q f g ns h r x
    followed (AddressOf l t) q f g ns h r d = use_followed q l f g h d
    followed (AddressOfCell d t) q f g ns h r x = followed_place d q f g ns h r x
    followed (NumberOfElements a) q f g ns h r x = followed a q f g ns h r x
    followed (FreeUnique a) q f g ns h r x = followed a q f g ns h r x
    followed (FreeKey a) q f g ns h r x = followed a q f g ns h r x
    followed (Call c as' t) q f g ns h r x = followed_arguments as' q f g ns h r x
    followed (Unary o a) q f g ns h r x = followed a q f g ns h r x
    followed (Binary a os t) q f g ns h r (b, x, y) =
        followed_operations os q b g (touched a ns) (followed a q f b ns h (before_operations p os (touched a ns) r) x) r y
    followed (Assign l c t) q f g ns h r (b, x, y) = store_followed q l b g (followed_converted c q f b ns h (before_assigned p l t (touched_converted c ns) r) x) y
    followed (Store d c t) q f g ns h r (b, x, y) =
        followed_converted c (and_peeked (peek_after d) q) b g (touched_place d ns) (followed_place d q f b ns h (before_converted p c (touched_place d ns) r) x) r y
    followed (New w i t) q f g ns h r (b, x, y) =
        followed_initial i q b g (touched_placement w ns) (followed_placement w q f b ns h (before_initial p i (touched_placement w ns) r) x) r y

    pub followed_place : (d : Dereference) (q : List ℕ) (f g : State) (ns : List ℕ) → Fits p e f → Rests p (touched_place d ns) → Derives (rule_place q d f) g → Fits p e g
    followed_place (Target k a t) q f g ns h r x = followed a q f g ns h r x
    followed_place (Member k a s m t) q f g ns h r x = followed a q f g ns h r x
    followed_place (Element a i t) q f g ns h r (b, x, y) = followed i (and_peeked (peek_of a) q) b g (touched a ns) (followed a q f b ns h (before p i (touched a ns) r) x) r y

    pub followed_placement : (w : Placement) (q : List ℕ) (f g : State) (ns : List ℕ) → Fits p e f → Rests p (touched_placement w ns) → Derives (rule_placement q w f) g → Fits p e g
    followed_placement OnHeap q f g ns h r (u, eq) = subst (Fits p e) (sym eq) h
    followed_placement AsUnique q f g ns h r (u, eq) = subst (Fits p e) (sym eq) h
    followed_placement (ByHandle a) q f g ns h r x = followed a q f g ns h r x

    pub followed_initial : (i : Initial) (q : List ℕ) (f g : State) (ns : List ℕ) → Fits p e f → Rests p (touched_initial i ns) → Derives (rule_initial q i f) g → Fits p e g
    followed_initial (Plain k a) q f g ns h r x = followed a q f g ns h r x
    followed_initial (Fields as') q f g ns h r x = followed_arguments as' q f g ns h r x
    followed_initial (Array at l n k a) q f g ns h r (b, x, (c, y, (kept, eq))) = subst (Fits p e) (sym eq) (followed n q f b ns h (before p a (touched n ns) r) x)

    pub followed_converted : (c : Converted) (q : List ℕ) (f g : State) (ns : List ℕ) → Fits p e f → Rests p (touched_converted c ns) → Derives (rule_converted q c f) g → Fits p e g
    followed_converted (Convert from to a) q f g ns h r x = followed a q f g ns h r x

    pub followed_arguments : (as' : Arguments) (q : List ℕ) (f g : State) (ns : List ℕ) → Fits p e f → Rests p (touched_arguments as' ns) → Derives (rule_arguments q as' f) g → Fits p e g
    followed_arguments NoArguments q f g ns h r (u, eq) = subst (Fits p e) (sym eq) h
    followed_arguments (MoreArguments c as') q f g ns h r (b, x, y) =
        followed_arguments as' q b g (touched_converted c ns) (followed_converted c q f b ns h (before_arguments p as' (touched_converted c ns) r) x) r y

    pub followed_operations : (os : Operations) (q : List ℕ) (f g : State) (ns : List ℕ) → Fits p e f → Rests p (touched_operations os ns) → Derives (rule_operations q os f) g → Fits p e g
    followed_operations NoOperations q f g ns h r (u, eq) = subst (Fits p e) (sym eq) h
    followed_operations (ThenCompute o a os) q f g ns h r (b, x, y) =
        followed_operations os q b g (touched a ns) (followed a q f b ns h (before_operations p os (touched a ns) r) x) r y
    followed_operations (ThenTest o a os) q f g ns h r (b, x, y) =
        followed_operations os q (meet f b) g (touched a ns) (fits_meet p e f b h (followed a q f b ns h (before_operations p os (touched a ns) r) x)) r y
    followed_operations (ThenPointer o a os) q f g ns h r (b, x, y) =
        followed_operations os q b g (touched a ns) (followed a q f b ns h (before_operations p os (touched a ns) r) x) r y
    followed_operations (ThenPointerPeek n o a os) q f g ns h r (b, x, y) =
        followed_operations os q b g (touched a ns) (followed a (and_peeked (Some n) q) f b ns h (before_operations p os (touched a ns) r) x) r y

  -- ---- parts of statements

  pub followed_side : (x : Side) (q : List ℕ) (f g : State) (ns : List ℕ) → Fits p e f → Rests p (touched_side x ns) → Derives (rule_side q x f) g → Fits p e g
  followed_side (VariableSide l t) q f g ns h r (u, eq) = subst (Fits p e) (sym eq) h
  followed_side (CellSide d) q f g ns h r x = followed_place d q f g ns h r x

  followed_swap : (x y : Side) (f g : State) (ns : List ℕ) → Fits p e f → Rests p (touched_side y (touched_side x ns)) → Derives (rule_swapped x y f) g → Fits p e g
  followed_swap x y f g ns h r (b, k, (c, l, (kept, eq))) =
      subst (Fits p e) (sym eq) (followed_side y (and_peeked (peeked_side x) []) b c (touched_side x ns) (followed_side x [] f b ns h (before_side p y (touched_side x ns) r) k) r l)

  pub followed_declaration : (n : ℕ) (v : Option Converted) (f g : State) (ns : List ℕ) → Fits p e f → p.locked n ≡ false → Rests p (touched_declaration n v ns)
      → Derives (rule_declared n v f) g → Fits p e g
  followed_declaration n None f g ns h new r (u, eq) = subst (Fits p e) (sym eq) (vacated_fits p e f n h new (not_relied p n (and_local n ns) r (has_last ns n) new))
  followed_declaration n (Some c) f g ns h new r (b, x, (u, eq)) = subst (Fits p e) (sym eq) (filled_fits p e b n (followed_converted c [] f b ns h r x) new)

-- ---- statements

-- Says that the current flow state and the joined flow state at the `break` statements so far both match their guards.
abbrev pub BothFit : Guard → Bool → Guard → Bool → Known → Type 0
BothFit p e o d k = Fits p e k.now × Fits o d k.breaks

-- Says that the flow states after a declaration or statement, and at its `break` statements, match their guards.
abbrev pub ItemFits : Item → Guard → Bool → Guard → Bool → Known → Type 0
ItemFits j p e o d l = (i : Bool) × Leaves (locked_by j) (following_item j p) i p e × Fits (following_item j p) i l.now × Fits o d l.breaks

-- The match of flow states with guards after block items (declarations and statements) that have locked the locals of the given list.
pub record ItemsFit (ls : List ℕ) (p : Guard) (e : Bool) (o : Guard) (d : Bool) (l : Known) : Type 0 where
  pub inner : Guard
  pub never : Bool
  pub leaves : Leaves ls inner never p e
  pub now : Fits inner never l.now
  pub breaks : Fits o d l.breaks

lent_fits : (p : Guard) (e : Bool) (o : Guard) (d : Bool) (m : ℕ) (l : Known) → Lent p e m l.now → Fits o d l.breaks
    → (i : Bool) × Leaves (m ∷ []) (lending m p) i p e × Fits (lending m p) i l.now × Fits o d l.breaks
lent_fits p e o d m l x b = (x.never, x.leaves, x.fits, b)

pub caught_fits : (p : Guard) (e : Bool) (n : Option ℕ) (f : State) → Fits p e f → IsFreshCaught p.locked n → Fits p e (with_caught n f)
caught_fits p e None f h new = h
caught_fits p e (Some n) f h new = filled_fits p e f n h new

mutual
  pub followed_statement : (p : Guard) (e : Bool) (o : Guard) (d : Bool) (c : Around) (s : Statement) (k l : Known) (ns : List ℕ)
      → Fits p e k.now → Fits o d k.breaks → Leaves c.locks p e o d → IsFresh p.locked s → Rests p (touched_statement s ns) → Derives (rule_statement c s k) l → BothFit p e o d l
  followed_statement p e o d c (Block b js) k l ns h i w new r (m, x, (u, eq)) =
      let y : ItemsFit (locks_of js) p e o d m = followed_items p e o d c js k m ns h i w new r x in
      subst (BothFit p e o d) (sym eq) (unlocked (locks_of js) y.inner y.never p e m.now y.leaves y.now, y.breaks)
  followed_statement p e o d c Empty k l ns h i w new r (u, eq) = subst (BothFit p e o d) (sym eq) (h, i)
  followed_statement p e o d c (Evaluate a) k l ns h i w new r (f, x, (u, eq)) = subst (BothFit p e o d) (sym eq) (followed p e a [] k.now f ns h r x, i)
  followed_statement p e o d c (Swap a b) k l ns h i w new r (f, x, (u, eq)) = subst (BothFit p e o d) (sym eq) (followed_swap p e a b k.now f ns h r x, i)
  followed_statement p e o d c (If a s t) k l ns h i w (new, new') r (f, x, (m, y, (n, z, (u, eq)))) =
      let rt : Rests p (touched_statement s (touched a ns)) = before_statement p t (touched_statement s (touched a ns)) r in
      let hf : Fits p e f = followed p e a [] k.now f ns h (before_statement p s (touched a ns) rt) x in
      let one : BothFit p e o d m = followed_statement p e o d c s (at f k) m (touched a ns) hf i w new rt y in
      let other : BothFit p e o d n = followed_statement p e o d c t (at f m) n (touched_statement s (touched a ns)) hf one.1 w new' r z in
      subst (BothFit p e o d) (sym eq) (fits_meet p e m.now n.now one.0 other.0, other.1)
  followed_statement p e o d c (While q a s) k l ns h i w new r (f, x, (m, y, (kept, eq))) =
      let hf : Fits p e f = followed p e a [] k.now f ns h (before_statement p s (touched a ns) r) x in
      let body : BothFit p e p e m = followed_statement p e p e (in_loop q k.now) s (record { now = f; breaks = Unreached }) m (touched a ns) hf (fits_never p e) (leaves_none p e) new r y in
      subst (BothFit p e o d) (sym eq) (fits_meet p e f m.breaks hf body.1, i)
  followed_statement p e o d c (Return v) k l ns h i w new r (f, x, (u, eq)) = subst (BothFit p e o d) (sym eq) (fits_never p e, i)
  followed_statement p e o d c Break k l ns h i w new r (u, eq) =
      subst (BothFit p e o d) (sym eq) (fits_never p e, fits_meet o d k.breaks (left_loop c k.now) i (unlocked c.locks p e o d k.now w h))
  followed_statement p e o d c Continue k l ns h i w new r (kept, eq) = subst (BothFit p e o d) (sym eq) (fits_never p e, i)
  followed_statement p e o d c (Throw t v) k l ns h i w new r (f, x, (u, eq)) = subst (BothFit p e o d) (sym eq) (fits_never p e, i)
  followed_statement p e o d c (Try s cs) k l ns h i w (new, new') r (m, x, y) =
      let rs : Rests p (ns ++ touched_statement s []) = before_clauses p cs (ns ++ touched_statement s []) r in
      let body : BothFit p e o d m = followed_statement p e o d c s k m [] h i w new (rests_back p ns (touched_statement s []) rs) x in
      followed_clauses p e o d c (caught k.now s) cs m l (ns ++ touched_statement s []) (emptied_fits p e (touched_statement s []) k.now h (rests_back p ns (touched_statement s []) rs))
      body.0 body.1 w new' r y

  pub followed_items : (p : Guard) (e : Bool) (o : Guard) (d : Bool) (c : Around) (js : Items) (k l : Known) (ns : List ℕ)
      → Fits p e k.now → Fits o d k.breaks → Leaves c.locks p e o d → AreFresh p.locked js → Rests p (touched_items js ns) → Derives (rule_items c js k) l
      → ItemsFit (locks_of js) p e o d l
  followed_items p e o d c NoItems k l ns h i w new r (u, eq) =
      subst (ItemsFit [] p e o d) (sym eq) (record { inner = p; never = e; leaves = leaves_none p e; now = h; breaks = i })
  followed_items p e o d c (MoreItems j js) k l ns h i w (new, new') r (m, x, y) =
      let one : ItemFits j p e o d m = followed_item p e o d c j k m ns h i w new (before_items p js (touched_item j ns) r) x in
      let rest : ItemsFit (locks_of js) (following_item j p) one.0 o d l =
      followed_items (following_item j p) one.0 o d (published.following_item j c) js m l (touched_item j ns) one.2 one.3
      (leaves_append c.locks (locked_by j) p e (following_item j p) one.0 o d w one.1) new' (after_rests j p (touched_items js (touched_item j ns)) r) y in
      record {
        inner = rest.inner;
        never = rest.never;
        leaves = leaves_append (locked_by j) (locks_of js) (following_item j p) one.0 rest.inner rest.never p e one.1 rest.leaves;
        now = rest.now;
        breaks = rest.breaks;
      }

  pub followed_item : (p : Guard) (e : Bool) (o : Guard) (d : Bool) (c : Around) (j : Item) (k l : Known) (ns : List ℕ)
      → Fits p e k.now → Fits o d k.breaks → Leaves c.locks p e o d → IsFreshItem p.locked j → Rests p (touched_item j ns) → Derives (rule_item c j k) l → ItemFits j p e o d l
  followed_item p e o d c (Execute s) k l ns h i w new r x =
      let one : BothFit p e o d l = followed_statement p e o d c s k l ns h i w new r x in
      (e, leaves_none p e, one.0, one.1)
  followed_item p e o d c (Declare n t v) k l ns h i w new r (f, x, (u, eq)) =
      subst (ItemFits (Declare n t v) p e o d) (sym eq) (e, leaves_none p e, followed_declaration p e n v k.now f ns h new r x, i)
  followed_item p e o d c (DeclareRegion b n) k l ns h i w new r (u, eq) =
      subst (ItemFits (DeclareRegion b n) p e o d) (sym eq) (e, leaves_none p e, filled_fits p e k.now n h new, i)
  followed_item p e o d c (OpenRegion b n q m) k l ns h i w new r (f, ((k1, (k2, v)), is), (u, eq)) =
      subst (ItemFits (OpenRegion b n q m) p e o d) (sym eq) (lent_fits p e o d m (at f k) (subst (Lent p e m) (sym is) (lent_filled p e n m k.now h new k1 k2)) i)
  followed_item p e o d c (DeclareAlias b n t q m) k l ns h i w new r (f, ((k1, (k2, v)), is), (u, eq)) =
      subst (ItemFits (DeclareAlias b n t q m) p e o d) (sym eq) (lent_fits p e o d m (at f k) (subst (Lent p e m) (sym is) (lent_filled p e n m k.now h new k1 k2)) i)
  followed_item p e o d c (DeclareKey b n) k l ns h i w new r (u, eq) =
      subst (ItemFits (DeclareKey b n) p e o d) (sym eq) (e, leaves_none p e, filled_fits p e k.now n h new, i)

  pub followed_clauses : (p : Guard) (e : Bool) (o : Guard) (d : Bool) (c : Around) (start : State) (cs : Clauses) (k l : Known) (ns : List ℕ)
      → Fits p e start → Fits p e k.now → Fits o d k.breaks → Leaves c.locks p e o d → AreFreshClauses p.locked cs → Rests p (touched_clauses cs ns) → Derives (rule_clauses c start cs k) l
      → BothFit p e o d l
  followed_clauses p e o d c start NoClauses k l ns g h i w new r (u, eq) = subst (BothFit p e o d) (sym eq) (h, i)
  followed_clauses p e o d c start (Default b js) k l ns g h i w new r (m, x, (u, eq)) =
      let y : ItemsFit (locks_of js) p e o d m = followed_items p e o d c js (at start k) m ns g i w new r x in
      subst (BothFit p e o d) (sym eq) (fits_meet p e k.now (with_each Full (locks_of js) m.now) h (unlocked (locks_of js) y.inner y.never p e m.now y.leaves y.now), y.breaks)
  followed_clauses p e o d c start (Case t n b js cs) k l ns g h i w (one, new, new') r (m, x, z) =
      let y : ItemsFit (locks_of js) p e o d m =
      followed_items p e o d c js (at (with_caught n start) k) m ns (caught_fits p e n start g one) i w new (before_clauses p cs (touched_items js ns) r) x in
      followed_clauses p e o d c start cs (or_clause k.now js m) l (touched_items js ns) g
      (fits_meet p e k.now (with_each Full (locks_of js) m.now) h (unlocked (locks_of js) y.inner y.never p e m.now y.leaves y.now)) y.breaks w new' r z

-- ---- breaks

falls_to : (k l : Known) {m : Known} → l ≡ m → IsAtLeast (held_of k.breaks) (held_of m.breaks) → IsAtLeast (held_of k.breaks) (held_of l.breaks)
falls_to k l eq h = subst (λ z. IsAtLeast (held_of k.breaks) (held_of z.breaks)) (sym eq) h

-- The joined flow state at the `break` statements seen after a statement has at most the facts of that seen before the statement.
mutual
  pub falls : (c : Around) (s : Statement) (k l : Known) → Derives (rule_statement c s k) l → IsAtLeast (held_of k.breaks) (held_of l.breaks)
  falls c (Block b js) k l (m, x, (u, eq)) = falls_to k l eq (falls_items c js k m x)
  falls c Empty k l (u, eq) = falls_to k l eq (at_least_same (held_of k.breaks))
  falls c (Evaluate a) k l (f, x, (u, eq)) = falls_to k l eq (at_least_same (held_of k.breaks))
  falls c (Swap x y) k l (f, z, (u, eq)) = falls_to k l eq (at_least_same (held_of k.breaks))
  falls c (If a s t) k l (f, x, (m, y, (n, z, (u, eq)))) =
      falls_to k l eq (at_least_trans (held_of k.breaks) (held_of m.breaks) (held_of n.breaks) (falls c s (at f k) m y) (falls c t (at f m) n z))
  falls c (While q a s) k l (f, x, (m, y, (kept, eq))) = falls_to k l eq (at_least_same (held_of k.breaks))
  falls c (Return v) k l (f, x, (u, eq)) = falls_to k l eq (at_least_same (held_of k.breaks))
  falls c Break k l (u, eq) = falls_to k l eq (meet_left k.breaks (left_loop c k.now))
  falls c Continue k l (kept, eq) = falls_to k l eq (at_least_same (held_of k.breaks))
  falls c (Throw t v) k l (f, x, (u, eq)) = falls_to k l eq (at_least_same (held_of k.breaks))
  falls c (Try s cs) k l (m, x, y) = at_least_trans (held_of k.breaks) (held_of m.breaks) (held_of l.breaks) (falls c s k m x) (falls_clauses c (caught k.now s) cs m l y)

  pub falls_items : (c : Around) (js : Items) (k l : Known) → Derives (rule_items c js k) l → IsAtLeast (held_of k.breaks) (held_of l.breaks)
  falls_items c NoItems k l (u, eq) = falls_to k l eq (at_least_same (held_of k.breaks))
  falls_items c (MoreItems j js) k l (m, x, y) =
      at_least_trans (held_of k.breaks) (held_of m.breaks) (held_of l.breaks) (falls_item c j k m x) (falls_items (published.following_item j c) js m l y)

  pub falls_item : (c : Around) (j : Item) (k l : Known) → Derives (rule_item c j k) l → IsAtLeast (held_of k.breaks) (held_of l.breaks)
  falls_item c (Execute s) k l x = falls c s k l x
  falls_item c (Declare n t v) k l (f, x, (u, eq)) = falls_to k l eq (at_least_same (held_of k.breaks))
  falls_item c (DeclareRegion b n) k l (u, eq) = falls_to k l eq (at_least_same (held_of k.breaks))
  falls_item c (OpenRegion b n q m) k l (f, x, (u, eq)) = falls_to k l eq (at_least_same (held_of k.breaks))
  falls_item c (DeclareAlias b n t q m) k l (f, x, (u, eq)) = falls_to k l eq (at_least_same (held_of k.breaks))
  falls_item c (DeclareKey b n) k l (u, eq) = falls_to k l eq (at_least_same (held_of k.breaks))

  pub falls_clauses : (c : Around) (start : State) (cs : Clauses) (k l : Known) → Derives (rule_clauses c start cs k) l → IsAtLeast (held_of k.breaks) (held_of l.breaks)
  falls_clauses c start NoClauses k l (u, eq) = falls_to k l eq (at_least_same (held_of k.breaks))
  falls_clauses c start (Default b js) k l (m, x, (u, eq)) = falls_to k l eq (falls_items c js (at start k) m x)
  falls_clauses c start (Case t n b js cs) k l (m, x, y) =
      at_least_trans (held_of k.breaks) (held_of m.breaks) (held_of l.breaks) (falls_items c js (at (with_caught n start) k) m x) (falls_clauses c start cs (or_clause k.now js m) l y)
