-- If a scope is inside another one, its declarations come before the outer ones, so leaving it removes them.
use Rattle.std.proofs.Common.{◌≡◌, ◌-◌, ◌≤◌, List, [], ◌∷◌, ◌++◌, length, drop, refl, sym, ap, subst, ◌∙◌, arith}
use Rattle.std.proofs.lemmas.List.{append_assoc}
use Rattle.cyc_words.proofs.Lists.{drop_to_last}
use Rattle.cyc_types.specs.declared.scope.Scope.{Scope as Opened}
use Rattle.cyc_syntax.specs.Trees.{Named, Statement}
use Rattle.cyc_types.specs.typing.Scopes.{Scope, RegionName, LocalVariable, Sort, following, in_block, in_labelled, with_local, with_opened, with_region, with_key_opened}
use Rattle.cyc_types.specs.declared.region.Region.TheVariants as regions
use Rattle.cyc_types.specs.declared.scope.Kind.{Kind}
use Rattle.cyc_types.specs.declared.scope.Kind.TheVariants as kinds
use Rattle.cyc_types.specs.declared.region.Region.{Region}
use Rattle.cyc_types.specs.Types.{Ty}
use Rattle.cyc_check.specs.inside.Inside.{Inside, extended}
use Rattle.cyc_scope.specs.inside.Marks.{IsInOrder, mark_of, left_to}

pub inside_itself : (g : Scope) → Inside g g
inside_itself g = record { locals = []; names = []; opened = []; same = refl }

pub inside_through : (g m n : Scope) → Inside g m → Inside m n → Inside g n
inside_through g m n i j = record {
  locals = j.locals ++ i.locals;
  names = j.names ++ i.names;
  opened = j.opened ++ i.opened;
  same =
      j.same ∙ ap (λ (c : Scope). extended c j.locals j.names j.opened n) i.same
      ∙ ap (λ (ls : List LocalVariable). record (extended g i.locals (j.names ++ i.names) (j.opened ++ i.opened) n) { locals = ls; names = j.names ++ (i.names ++ g.names); regions = record g.regions { opened = j.opened ++ (i.opened ++ g.regions.opened) } }) (sym (append_assoc j.locals i.locals g.locals))
      ∙ ap (λ (ns : List RegionName). record (extended g (j.locals ++ i.locals) (j.names ++ i.names) (j.opened ++ i.opened) n) { names = ns; regions = record g.regions { opened = j.opened ++ (i.opened ++ g.regions.opened) } }) (sym (append_assoc j.names i.names g.names))
      ∙ ap (λ (os : List Opened). record (extended g (j.locals ++ i.locals) (j.names ++ i.names) (j.opened ++ i.opened) n) { regions = record g.regions { opened = os } }) (sym (append_assoc j.opened i.opened g.regions.opened));
}

-- ---- the ways to enter an inner scope

pub inside_local : (k : Sort) (x : Named) (t : Ty) (g : Scope) → Inside g (with_local k x t g)
inside_local k x t g = record { locals = record { name = x.name; number = g.next_local; of_type = t; region = g.region; sort = k } ∷ []; names = []; opened = []; same = refl }

pub inside_opened : (k : Kind) (r : Named) (g : Scope) → Inside g (with_opened k r g)
inside_opened k r g = record {
  locals = [];
  names = record { name = r.name; region = regions.Variable g.next_region } ∷ [];
  opened = record { region = regions.Variable g.next_region; kind = k } ∷ [];
  same = refl;
}

pub inside_region : (r : Named) (g : Scope) → Inside g (with_region r g)
inside_region r g = record { locals = []; names = record { name = r.name; region = regions.Variable g.next_region } ∷ []; opened = []; same = refl }

pub inside_key : (r : Region) (g : Scope) → Inside g (with_key_opened r g)
inside_key r g = record { locals = []; names = []; opened = record { region = r; kind = kinds.Dynamic } ∷ []; same = refl }

pub inside_block : (g : Scope) → Inside g (in_block g)
inside_block g = record { locals = []; names = []; opened = record { region = regions.Variable g.next_region; kind = kinds.Block } ∷ []; same = refl }

pub inside_labelled : (l : Named) (g : Scope) → Inside g (in_labelled l g)
inside_labelled l g = record {
  locals = [];
  names = record { name = l.name; region = regions.Variable g.next_region } ∷ [];
  opened = record { region = regions.Variable g.next_region; kind = kinds.Block } ∷ [];
  same = refl;
}

pub inside_after : (g : Scope) (s : Statement) → Inside g (following g s)
inside_after g s = record { locals = []; names = []; opened = []; same = refl }

-- ---- leaving

-- Returns the scope `g` with three parts of the scope `n`: the next indices of locals and of regions, and the region names declared so far.
abbrev pub numbered_as : Scope → Scope → Scope
numbered_as g n = record g { taken = n.taken; next_local = n.next_local; next_region = n.next_region }

pub left_numbered : (g n : Scope) → Inside g n → left_to (mark_of g) n ≡ numbered_as g n
left_numbered g n i =
    ap (left_to (mark_of g)) i.same
    ∙ ap (λ (ls : List LocalVariable). record (numbered_as g n) { locals = ls; names = drop (length (i.names ++ g.names) - length g.names) (i.names ++ g.names); regions = record g.regions { opened = drop (length (i.opened ++ g.regions.opened) - length g.regions.opened) (i.opened ++ g.regions.opened) } }) (drop_to_last i.locals g.locals)
    ∙ ap (λ (ns : List RegionName). record (numbered_as g n) { names = ns; regions = record g.regions { opened = drop (length (i.opened ++ g.regions.opened) - length g.regions.opened) (i.opened ++ g.regions.opened) } }) (drop_to_last i.names g.names)
    ∙ ap (λ (os : List Opened). record (numbered_as g n) { regions = record g.regions { opened = os } }) (drop_to_last i.opened g.regions.opened)

-- Leaving a scope keeps the regions in the order of their indices.
pub order_left : (g n : Scope) → IsInOrder g → Inside g n → g.next_region ≤ n.next_region → IsInOrder (left_to (mark_of g) n)
order_left g n o i le = subst IsInOrder (sym (left_numbered g n i)) (record { locals = o.locals; inside = omega (arith, o.inside, le) })
