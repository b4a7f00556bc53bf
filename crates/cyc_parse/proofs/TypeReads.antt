-- Types are parsed back from their yields.
use Rattle.std.proofs.Common.{◌≡◌, ℕ, zero, suc, ◌+◌, ◌≤◌, false, List, [], ◌∷◌, ◌++◌, Option, Some, None, refl, ap, ◌∙◌, arith, zero-le}
use Rattle.cyc_syntax.specs.declared.tokens.Keyword.TheVariants as words
use Rattle.cyc_syntax.specs.declared.tokens.Sign.TheVariants as signs
use Rattle.cyc_syntax.specs.declared.tree.PointerKind.{PointerKind}
use Rattle.cyc_syntax.specs.declared.tree.PointerKind.TheVariants as pointers
use Rattle.cyc_syntax.specs.Symbols.{Place, Terminal, Identifier, RegionName, Word, Mark, Symbol}
use Rattle.cyc_syntax.specs.Trees.{Named, Pointer, BaseType, Int, Char, Struct, Handle, Key, WrittenType}
use Rattle.cyc_syntax.specs.Yields.{mark_sign}
use Rattle.cyc_syntax.specs.Yields as yields
use Rattle.cyc_syntax.specs.Grammar.{max_nesting, max_items}
use Rattle.cyc_parse.specs.inside.Parsing.{pure, next, sees, sees_terminal, starts, begins_region}
use Rattle.cyc_parse.specs.inside.Types.{begins_type, mark_at, optional_region, pointers_of, with_pointers, optional_regions, region_of, base_by, written_type}
use Rattle.cyc_parse.proofs.Rules.{Front, Reads, Fits, Starts, Always, leaf_of, leaf_at, then_reads, last_reads, pure_reads, sign_reads, identifier_reads, region_reads}
use Rattle.cyc_parse.proofs.Rules.{choose_reads, advance_reads, advance_reads_at, sees_reads, unseen_reads, starts_reads, unstarted_reads, is_reads, isnt_reads, long_leaf_reads}
use Rattle.cyc_parse.proofs.RegionReads.{region_list_reads}

-- Says that the symbol after a type is a name.
pub record EndsType (ts : List Symbol) : Type 0 where
  pub name : ℕ
  pub comes : next ts ≡ Some (Identifier name)

-- no region follows
pub record NoRegion (ts : List Symbol) : Type 0 where
  pub none : starts begins_region (next ts) ≡ false

-- Says that no `<` comes next, so that no region arguments follow.
pub record NotLess (ts : List Symbol) : Type 0 where
  pub less : sees signs.Less ts ≡ false

mark-sign : (k : PointerKind) → mark_at (Some (Mark (mark_sign k))) ≡ Some k
mark-sign pointers.Nullable = refl
mark-sign pointers.NonNull = refl
mark-sign pointers.Fat = refl

mark_no_region : (k : PointerKind) → begins_region (Mark (mark_sign k)) ≡ false
mark_no_region k = refl

mark_plain : (k : PointerKind) → sees_terminal signs.Less (Some (Mark (mark_sign k))) ≡ false
mark_plain pointers.Nullable = refl
mark_plain pointers.NonNull = refl
mark_plain pointers.Fat = refl

pub region_of_reads_any : (room d : ℕ) → Fits room d → (r : Named) (Ends : List Symbol → Type 0) → Reads (region_of room) r (leaf_of d (Mark signs.Less) ∷ leaf_at d (RegionName r.name) r.place ∷ leaf_of d (Mark signs.Greater) ∷ []) Ends
region_of_reads_any room d fits r Ends = sign_reads room d signs.Less _ fits (λ p. region_reads room d 0 r _ fits zero-le (sign_reads room d signs.Greater _ fits (λ q. pure_reads r Ends)))

module _ (room d : ℕ) (fits : Fits room d) (shallow : d ≤ max_nesting) where
  optional_region_reads : (r : Option Named) → Reads (optional_region room) r (yields.optional (yields.region_name d) r) NoRegion
  optional_region_reads None = unstarted_reads begins_region _ _ (λ ts rest front ends. ap (λ (s : List Symbol). starts begins_region (next s)) front ∙ ends.none) (pure_reads None NoRegion)
  optional_region_reads (Some r) = starts_reads begins_region _ _ (leaf_at d (RegionName r.name) r.place) [] refl (region_reads room d 0 r _ fits zero-le (pure_reads (Some r) NoRegion))

  marks_end : (i : ℕ) (ms : List Pointer) (mid rest : List Symbol) → Front (yields.each (yields.mark d) i ms) mid rest → EndsType rest → NoRegion mid
  marks_end i [] mid rest front ends = record { none = ap (λ (s : List Symbol). starts begins_region (next s)) front ∙ ap (starts begins_region) ends.comes }
  marks_end i (m ∷ ms) mid rest (t, more, e, is_leaf, front) ends = record { none = ap (λ (s : List Symbol). starts begins_region (next s)) e ∙ ap begins_region is_leaf.terminal ∙ mark_no_region m.kind }

  pub pointers_reads : (left i : ℕ) (ms : List Pointer) → left + i ≡ suc max_items → Reads (pointers_of room left) ms (yields.each (yields.mark d) i ms) EndsType
  unfolding pointers_of
  pointers_reads zero i [] count = isnt_reads mark_at _ _ (λ ts rest front ends. ap (λ (s : List Symbol). mark_at (next s)) front ∙ ap mark_at ends.comes) (pure_reads [] EndsType)
  pointers_reads zero i (m ∷ ms) count = is_reads mark_at _ _ m.kind (record { terminal = Mark (mark_sign m.kind); place = None; nesting = d; item = i }) _ (mark-sign m.kind) (long_leaf_reads _ _ shallow (omega arith))
  pointers_reads (suc left) i [] count = isnt_reads mark_at _ _ (λ ts rest front ends. ap (λ (s : List Symbol). mark_at (next s)) front ∙ ap mark_at ends.comes) (pure_reads [] EndsType)
  pointers_reads (suc left) i (m ∷ ms) count = is_reads mark_at _ _ m.kind (record { terminal = Mark (mark_sign m.kind); place = None; nesting = d; item = i }) _ (mark-sign m.kind)
      (advance_reads _ (record { terminal = Mark (mark_sign m.kind); place = None; nesting = d; item = i }) shallow (omega arith) (λ p _.
      then_reads _ (optional_region_reads m.region) (last_reads (λ (v : List Pointer). pure (m ∷ v)) (λ ts. refl) (pointers_reads left (suc i) ms (omega arith))) (marks_end (suc i) ms)))

  pub with_pointers_reads : (p : Place) (b : BaseType) (ms : List Pointer) → Reads (with_pointers room p b) (record { place = p; base = b; marks = ms }) (yields.marks d ms) EndsType
  with_pointers_reads p b ms = last_reads (λ (v : List Pointer). pure (record { place = p; base = b; marks = v })) (λ ts. refl) (pointers_reads 64 1 ms refl)

  pub optional_regions_reads : (rs : List Named) → Reads (optional_regions room) rs (yields.region_list d rs) NotLess
  unfolding optional_regions
  optional_regions_reads [] = unseen_reads signs.Less _ _ (λ ts rest front ends. ap (sees signs.Less) front ∙ ends.less) (pure_reads [] NotLess)
  optional_regions_reads (r ∷ rs) = sees_reads signs.Less _ _ (leaf_of d (Mark signs.Less)) _ refl (region_list_reads room d fits shallow r rs NotLess)

  not_less : (ms : List Pointer) (mid rest : List Symbol) → Front (yields.marks d ms) mid rest → EndsType rest → NotLess mid
  not_less [] mid rest front ends = record { less = ap (sees signs.Less) front ∙ ap (sees_terminal signs.Less) ends.comes }
  not_less (m ∷ ms) mid rest (t, more, e, is_leaf, front) ends = record { less = ap (sees signs.Less) e ∙ ap (λ (u : Terminal). sees_terminal signs.Less (Some u)) is_leaf.terminal ∙ mark_plain m.kind }

  base_reads : (p : Place) (b : BaseType) (ms : List Pointer) → Reads (written_type room) (record { place = p; base = b; marks = ms }) (yields.base_type d p b ++ yields.marks d ms) EndsType
  unfolding written_type
  base_reads p Int ms = choose_reads (base_by room) (leaf_at d (Word words.Int) p) _ (advance_reads_at d (Word words.Int) p _ shallow (with_pointers_reads p Int ms))
  base_reads p Char ms = choose_reads (base_by room) (leaf_at d (Word words.Char) p) _ (advance_reads_at d (Word words.Char) p _ shallow (with_pointers_reads p Char ms))
  base_reads p (Struct s rs) ms = choose_reads (base_by room) (leaf_at d (Word words.Struct) p) _ (advance_reads_at d (Word words.Struct) p _ shallow (identifier_reads room d s _ fits
      (then_reads _ (optional_regions_reads rs) (with_pointers_reads p (Struct s rs) ms) (not_less ms))))
  base_reads p (Handle r) ms = choose_reads (base_by room) (leaf_at d (Word words.RegionType) p) _ (advance_reads_at d (Word words.RegionType) p _ shallow
      (then_reads _ (region_of_reads_any room d fits r Always) (with_pointers_reads p (Handle r) ms) (λ mid rest front ends. tt)))
  base_reads p (Key r) ms = choose_reads (base_by room) (leaf_at d (Word words.KeyType) p) _ (advance_reads_at d (Word words.KeyType) p _ shallow
      (then_reads _ (region_of_reads_any room d fits r Always) (with_pointers_reads p (Key r) ms) (λ mid rest front ends. tt)))

  pub type_reads : (t : WrittenType) → Reads (written_type room) t (yields.written_type d t) EndsType
  type_reads t = base_reads t.place t.base t.marks

pub type_starts : (d : ℕ) (t : WrittenType) → Starts begins_type d (yields.written_type d t)
type_starts d t = of_base t.base
  where
    of_base : (b : BaseType) → Starts begins_type d (yields.base_type d t.place b ++ yields.marks d t.marks)
    of_base Int = record { first = leaf_at d (Word words.Int) t.place; others = _; are = refl; begin = refl; nesting = refl; item = zero-le }
    of_base Char = record { first = leaf_at d (Word words.Char) t.place; others = _; are = refl; begin = refl; nesting = refl; item = zero-le }
    of_base (Struct s rs) = record { first = leaf_at d (Word words.Struct) t.place; others = _; are = refl; begin = refl; nesting = refl; item = zero-le }
    of_base (Handle r) = record { first = leaf_at d (Word words.RegionType) t.place; others = _; are = refl; begin = refl; nesting = refl; item = zero-le }
    of_base (Key r) = record { first = leaf_at d (Word words.KeyType) t.place; others = _; are = refl; begin = refl; nesting = refl; item = zero-le }
