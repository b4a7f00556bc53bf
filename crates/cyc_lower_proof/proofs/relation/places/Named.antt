-- Every live variable remains a global or a local of an active call, and the slots of calls do not
-- overlap. The source program and the plain program each preserve these facts.
use Rattle.std.proofs.Common.{◌≡◌, ℕ, zero, suc, ◌+◌, ◌<◌, ◌≤◌, true, false, List, [], ◌∷◌, length, Option, None, Some, is_some, slice_get, refl, sym, ap, subst, ◌∙◌, arith, inl, inr}
use Rattle.std.proofs.lemmas.List.{length-map}
use Rattle.std.proofs.lemmas.Option.{same_Some, none-some}
use Rattle.cyc_types.specs.TypedTrees.{GlobalVariable, Program}
use Rattle.cyc_plain.specs.inside.Memory.{AreBelow, is_pinned}
use Rattle.cyc_plain.specs.inside.State.{Frame}
use Rattle.cyc_store.specs.State.{StoreState}
use Rattle.cyc_plain.specs.declared.limits.TheConstants.{MOST_GLOBALS}
use Rattle.cyc_meaning.specs.State.{Sort, Heap, Globals, Stack, Lexical, Dynamic, World, Object, is_live, Entry, Caller}
use Rattle.cyc_meaning.specs.FrameCount.{words_of_all}
use Rattle.cyc_meaning.specs.inside.Variables.{Locals, waiting, HaveNames, region_in, region_of, is_of_variables}
use Rattle.cyc_meaning.proofs.NestingLemmas.{open_region}
use Rattle.cyc_memory_relation.specs.inside.Tables.{Tables}
use Rattle.cyc_memory_relation.specs.inside.Related as objects
use Rattle.cyc_memory_relation.specs.inside.Related.{LiveVariable, sort_of}
use Rattle.cyc_memory_relation.proofs.RegionLemmas.{entry-found, variables-empty}
use Rattle.cyc_lower_proof.specs.inside.Slots.{starts_of, slot_of, global_types}
use Rattle.cyc_lower_proof.specs.inside.Lowering.{lower_program}
use Rattle.cyc_lower_proof.specs.inside.Words.{IsOfWordsProgram}
use Rattle.cyc_lower_proof.proofs.slots.Widths.{words_in}
use Rattle.cyc_lower_proof.proofs.slots.Slots.{type-there, starts-are, words-there}
use Rattle.cyc_lower_proof.proofs.relation.code.Fitting.{IsFitting}
use Rattle.cyc_lower_proof.proofs.relation.places.Pinned.{pinned-whole, takes_locals}
use Rattle.cyc_lower_proof.proofs.sizes.WellFormed.{well_formed}
use Rattle.cyc_lower_proof.proofs.relation.contents.HeldValues.{Waiting, callers}
use Rattle.cyc_lower_proof.proofs.relation.simulation.Stacks.{code_of, types_at}
use Rattle.cyc_lower_proof.proofs.relation.simulation.Shared.{silent}
use Rattle.cyc_lower_proof.proofs.relation.places.Leads.{IsNamed, is_global, is_local, is_waiting, AreNamed}

-- The source state has a list of the locals of its waiting calls. If the locals `locals` are in this list, then the proof's list of
-- waiting calls has a call with the same locals at the same index.
waits : (k : List Entry) (call : ℕ) (locals : Locals) → slice_get (waiting k) call ≡ Some locals → (x : Waiting) × (slice_get (callers k) call ≡ Some x) × (x.locals ≡ locals)
waits [] call locals at = absurd (none-some locals at)
waits (Caller e ∷ k) zero locals at = (_, refl, same_Some e.locals locals at)
waits (Caller e ∷ k) (suc call) locals at = waits k call locals at
waits (entry ∷ k) call locals at = waits k call locals at

of_variables : (sort : Sort) → is_some (sort_of sort) ≡ false → is_of_variables sort ≡ true
of_variables Heap none = absurd (let e : true ≡ false = none in cc)
of_variables Globals none = refl
of_variables Stack none = refl
of_variables Lexical none = absurd (let e : true ≡ false = none in cc)
of_variables Dynamic none = absurd (let e : true ≡ false = none in cc)

module _ (source : Program) where
  named : (k : List Entry) (locals : Locals) (w : World) (store : StoreState) → HaveNames (length source.globals) (locals ∷ waiting k) w.objects w.regions → (t : Tables)
      → objects.Related t (silent w) store → (object : ℕ) (x : Object) → LiveVariable t (silent w) object x → IsNamed (length (global_types source.globals)) locals (callers k) object
  named k locals w store names t related object x live =
      let (r, there, opened) = open_region (slice_get w.regions live.region) (subst (λ o. is_live (silent w) o ≡ true) live.owner live.live) in
      let (handle, entry, some) = entry-found related.regions live.region r there in
      let none : is_some (sort_of r.sort) ≡ false = sym some ∙ ap (λ (o : Option ℕ). is_some o) (same_Some handle None (sym entry ∙ live.entry)) in
      elim (names object live.region r (ap region_in live.at ∙ ap region_of live.owner) there (record { open_now = opened; sort = of_variables r.sort none; blocks = variables-empty related.regions live.region r live.entry there })) [
        | inl few ↦ is_global (omega (arith, few, length-map source.globals (λ (g : GlobalVariable). g.of_type)))
        | inr (call, number, (own, here, is)) ↦ by call number own here is
      ]
    where
      by : (call number : ℕ) (own : Locals) → slice_get (locals ∷ waiting k) call ≡ Some own → own number ≡ Some object → IsNamed (length (global_types source.globals)) locals (callers k) object
      by zero number own here is = is_local number (ap (λ (l : Locals). l number) (same_Some locals own here) ∙ is)
      by (suc call) number own here is =
          let (y, at, same) = waits k call own here in
          is_waiting call number y at (ap (λ (l : Locals). l number) same ∙ is)

  module _ (fitting : IsFitting source) (of_words : IsOfWordsProgram source) (few : words_of_all (global_types source.globals) ≤ MOST_GLOBALS) where
    whole : (n number j : ℕ) → number < length (types_at source n).locals → j < words_in (types_at source n).locals number → is_pinned (code_of source n) (slot_of (starts_of (types_at source n)) number) ≡ true
        → is_pinned (code_of source n) (slot_of (starts_of (types_at source n)) number + j) ≡ true
    whole n number j inside room pinned =
        let types = types_at source n in
        let (t, at) = type-there types.locals number inside in
        let same = starts-are types number inside in
        let many = words-there types.locals number t at in
        let slot = slot_of (starts_of types) number in
        pinned-whole types.locals (code_of source n) number t slot (slot + j) (takes_locals source fitting of_words n) at (omega (arith, same)) (omega (arith, same, many, room)) pinned (omega (arith, same)) (omega (arith, same, many, room))

    pub names_there : (k : List Entry) (locals : Locals) (w : World) (g base : ℕ) (frames : List Frame) (store : StoreState) → HaveNames (length source.globals) (locals ∷ waiting k) w.objects w.regions
        → AreBelow (lower_program source) g base frames → AreNamed source locals (callers k) w g base frames store
    names_there k locals w g base frames store names lie = record {
      named = λ t related object x live. named k locals w store names t related object x live;
      lie = lie;
      well = well_formed source fitting of_words few;
      whole = λ n number j inside room pinned. whole n number j inside room pinned;
    }
