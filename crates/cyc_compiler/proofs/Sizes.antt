-- A function of a source program has a frame that is too large exactly if the function made from it in the plain (lowered) program has one.
use Rattle.std.proofs.Common.{◌≡◌, ◌⊎◌, inl, inr, ℕ, zero, suc, ◌≤◌, ◌<◌, List, [], ◌∷◌, length, None, Some, refl, sym, ap, subst, ◌∙◌, arith, slice_get}
use Rattle.std.specs.Prelude.{slice_index_or}
use Rattle.cyc_words.specs.declared.fault.Fault.{Fault}
use Rattle.cyc_types.specs.TypedTrees.{Function, Program}
use Rattle.cyc_plain.specs.inside.Program.{Routine, Program as PlainProgram, no_routine}
use Rattle.cyc_meaning.specs.FrameCount.{frame_count}
use Rattle.cyc_meaning.specs.Sizes.{max_frame_words}
use Rattle.cyc_frame.specs.inside.Layout.{HasSmallFrames}
use Rattle.cyc_frame.specs.inside.Layout as frames
use Rattle.cyc_compiler.specs.Compiled.{HasLargeFrame, IsSmallEnough}
use Rattle.cyc_compiler.specs.inside.Chain.{IsFunctionOf, AreFunctionsOf, IsProgramOf}

-- The functions of the source and of the plain program correspond one to one.
source_at : (hs : List Function) (rs : List Routine) (k : ℕ) → AreFunctionsOf hs rs → k < length rs
    → (h : Function) × (slice_get hs k ≡ Some h) × IsFunctionOf h (slice_index_or rs k no_routine)
source_at [] [] k are below = absurd (omega arith)
source_at [] (r ∷ rs) k are below = absurd are
source_at (h ∷ hs) [] k are below = absurd are
source_at (h ∷ hs) (r ∷ rs) zero (is, are) below = (h, refl, is)
source_at (h ∷ hs) (r ∷ rs) (suc k) (is, are) below = source_at hs rs k are (omega arith)

lowered_at : (hs : List Function) (rs : List Routine) (k : ℕ) (h : Function) → AreFunctionsOf hs rs → slice_get hs k ≡ Some h
    → (k < length rs) × IsFunctionOf h (slice_index_or rs k no_routine)
lowered_at [] [] k h are there = absurd (let e : None ≡ Some h = there in cc)
lowered_at [] (r ∷ rs) k h are there = absurd are
lowered_at (g ∷ hs) [] k h are there = absurd are
lowered_at (g ∷ hs) (r ∷ rs) zero h (is, are) there =
    let same : g ≡ h = (let e : Some g ≡ Some h = there in cc) in
    ((omega arith), subst (λ (f : Function). IsFunctionOf f r) same is)
lowered_at (g ∷ hs) (r ∷ rs) (suc k) h (is, are) there =
    let (below, found) = lowered_at hs rs k h are there in ((omega arith), found)

-- ---- a frame is too large in the source if it is in the plain program

-- Says that the plain frame is as large as the source's frame, or that neither frame is too large.
abbrev IsFramed : (above below : ℕ) → Type 0
IsFramed above below = (below ≡ above) ⊎ ((above ≤ max_frame_words) × (below ≤ max_frame_words))

large_as_above : {above below : ℕ} → IsFramed above below → max_frame_words < below → max_frame_words < above
large_as_above (inl same) large = omega (arith, same, large)
large_as_above (inr (few, small)) large = absurd (omega (arith, small, large))

large_as_below : {above below : ℕ} → IsFramed above below → max_frame_words < above → max_frame_words < below
large_as_below (inl same) large = omega (arith, same, large)
large_as_below (inr (few, small)) large = absurd (omega (arith, few, large))

small_as_above : {above below : ℕ} → IsFramed above below → below ≤ max_frame_words → above ≤ max_frame_words
small_as_above (inl same) small = omega (arith, same, small)
small_as_above (inr (few, less)) small = few

small_as_below : {above below : ℕ} → IsFramed above below → above ≤ max_frame_words → below ≤ max_frame_words
small_as_below (inl same) small = omega (arith, same, small)
small_as_below (inr (few, less)) small = less

module _ (p : Program) (lowered : PlainProgram) (is : IsProgramOf p lowered) where
  -- A fault of the frame layout is a fault of the source program.
  pub large_above : (f : Fault) → frames.IsTooLarge lowered f → HasLargeFrame p f
  large_above f l =
      let (h, there, made) = source_at p.functions lowered.functions l.function is.functions l.is_function in
      record {
        number = l.function;
        function = h;
        is = there;
        large = large_as_above made.frame l.large;
        first = λ k g before at.
            let (below, early) = lowered_at p.functions lowered.functions k g is.functions at in
            small_as_above early.frame (l.first k before);
        fault = λ i. record { code = l.code i; line = (l.line ∙ ap (λ s. s.line) made.name) i; column = (l.column ∙ ap (λ s. s.column) made.name) i };
      }

  pub large_below : (f : Fault) → HasLargeFrame p f → frames.IsTooLarge lowered f
  large_below f l =
      let (below, made) = lowered_at p.functions lowered.functions l.number l.function is.functions l.is in
      record {
        function = l.number;
        is_function = below;
        large = large_as_below made.frame l.large;
        first = λ k before.
            let (g, at, early) = source_at p.functions lowered.functions k is.functions (omega (arith, before, below)) in
            small_as_below early.frame (l.first k g before at);
        code = ap (λ x. x.code) l.fault;
        line = ap (λ x. x.line) l.fault ∙ sym (ap (λ s. s.line) made.name);
        column = ap (λ x. x.column) l.fault ∙ sym (ap (λ s. s.column) made.name);
      }

  -- If no frame of the source program is too large, then no frame of the plain program is too large.
  pub small_below : IsSmallEnough p → HasSmallFrames lowered
  small_below small = λ k below.
      let (h, at, made) = source_at p.functions lowered.functions k is.functions below in
      small_as_below made.frame (small.frames k h at)

  pub small_above : HasSmallFrames lowered → (k : ℕ) (g : Function) → slice_get p.functions k ≡ Some g → frame_count g ≤ max_frame_words
  small_above small k g at =
      let (below, made) = lowered_at p.functions lowered.functions k g is.functions at in
      small_as_above made.frame (small k below)
