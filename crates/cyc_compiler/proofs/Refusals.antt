-- This file proves the faults that a text's program has after the front end.
use Rattle.std.proofs.Common.{Vec, Global, ◌≡◌, ◌⊎◌, inl, inr, ⊎_elim, ℕ, ◌≤◌, List, Result, Ok, Err, refl, sym, subst, length}
use Rattle.std.specs.Prelude.{IfOk, IfErr, MatchResult}
use Rattle.cyc_words.specs.declared.fault.Fault.{Fault}
use Rattle.cyc_words.specs.Decision.{Decides}
use Rattle.cyc_words.specs.Fault.{memory_fault}
use Rattle.cyc_types.specs.TypedTrees.{Program}
use Rattle.cyc_plain.specs.inside.Program.{Program as PlainProgram}
use Rattle.cyc_meaning.specs.Sizes.{max_functions, HasTooMany}
use Rattle.cyc_lower_proof.specs.inside.Lowered as lowering
use Rattle.cyc_frame.specs.inside.Layout as frames
use Rattle.cyc_frame.specs.inside.Layout.{HasSmallFrames}
use Rattle.cyc_compiler.specs.FullPreservation.{IsImageOf}
use Rattle.cyc_compiler.specs.declared.compiler.Compilation.{Compilation}
use Rattle.cyc_compiler.specs.declared.places.Placed.{Placed}
use Rattle.cyc_front.specs.Front.{IsAcceptedText, IsRefusedText, HasFault}
use Rattle.cyc_compiler.specs.Compiled.{IsTooLarge, IsSmallEnough, IsSmall, IsCompiledText, IsRefusedAtLast, HasFaultAtLast}
use Rattle.cyc_compiler.specs.inside.Chain.{IsProgramOf}
use Rattle.cyc_compiler.proofs.Sizes.{large_above, large_below, small_above, small_below}

-- The bytes of a file are an image of the program, a file whose run does what the program does; other
-- properties of the result may be added to this one.
abbrev pub HasImage : Program → Vec ℕ Global → Type 0
HasImage p file = IsImageOf p file.items

abbrev pub HasImageBeside : Program → Compilation → Type 0
HasImageBeside p made = HasImage p made.image

abbrev pub HasImagePlaced : Program → Placed → Type 0
HasImagePlaced p made = HasImageBeside p made.compilation

-- ---- the passes after the front end, for a typed program

module _ {X : Type 0} (Image : Program → X → Type 0) (p : Program) where
  -- A fault of the lowering pass is a fault of the compiler.
  pub lowering_refuses : {Y : Type 0} (Gives : Program → Y → Type 0) (f : Fault) → Decides (lowering.IsAccepted p) Gives (HasTooMany p) (HasTooMany p) (Err f)
      → Decides (IsSmall p) Image (IsTooLarge p) (IsTooLarge p) (Err f)
  lowering_refuses Gives f d = record {
    accepted = tt;
    refused = ⊎_elim (λ memory. inl memory) (λ many. inr (inl many)) d.refused;
    accepts = λ q. λ (same, small). d.accepts q (same, small.functions);
    refuses = λ fault large. ⊎_elim (λ many. d.refuses fault many) (λ (few, frame). inl (d.accepts p (refl, few))) large;
  }

  module _ (lowered : PlainProgram) (is : IsProgramOf p lowered) (few : length p.functions ≤ max_functions) (none : (f : Fault) → HasTooMany p f → ⊥) where
    -- A fault of the frame layout is a fault of the compiler.
    pub layout_refuses : {Y : Type 0} (Gives : PlainProgram → Y → Type 0) (f : Fault) → Decides (frames.IsAccepted lowered) Gives (frames.IsTooLarge lowered) (frames.IsTooLarge lowered) (Err f)
        → Decides (IsSmall p) Image (IsTooLarge p) (IsTooLarge p) (Err f)
    layout_refuses Gives f d = record {
      accepted = tt;
      refused = ⊎_elim (λ memory. inl memory) (λ large. inr (inr (few, large_above p lowered is f large))) d.refused;
      accepts = λ q. λ (same, small). d.accepts lowered (refl, small_below p lowered is (subst IsSmallEnough same small));
      refuses = λ fault large. ⊎_elim (λ many. absurd (none fault many)) (λ (enough, frame). d.refuses fault (large_below p lowered is fault frame)) large;
    }

    -- If the frame layout succeeds, then the program is compiled.
    module _ (small : HasSmallFrames lowered) (none_large : (f : Fault) → frames.IsTooLarge lowered f → ⊥) where
      fits : IsSmallEnough p
      fits = record { functions = few; frames = small_above p lowered is small }

      image_accepted : (result : Result X Fault) → IfOk result (Image p) → IfOk result (λ x. (q : Program) × IsSmall p q × Image q x)
      image_accepted (Ok x) image = (p, (refl, fits), image)
      image_accepted (Err f) image = tt

      memory_refused : (result : Result X Fault) → IfErr result (λ f. f ≡ memory_fault) → IfErr result (λ f. (f ≡ memory_fault) ⊎ IsTooLarge p f)
      memory_refused (Ok x) h = tt
      memory_refused (Err f) memory = inl memory

      image_accepts : (result : Result X Fault) → IfOk result (Image p) → IfErr result (λ f. f ≡ memory_fault)
          → (q : Program) → IsSmall p q → MatchResult result (Image q) (λ f. f ≡ memory_fault)
      image_accepts (Ok x) image h q (same, enough) = subst (λ (r : Program). Image r x) (sym same) image
      image_accepts (Err f) image memory q (same, enough) = memory

      never_large : (fault : Fault) → IsTooLarge p fault → ⊥
      never_large fault (inl many) = none fault many
      never_large fault (inr (enough, frame)) = none_large fault (large_below p lowered is fault frame)

      pub image_answers : (result : Result X Fault) → IfOk result (Image p) → IfErr result (λ f. f ≡ memory_fault)
          → Decides (IsSmall p) Image (IsTooLarge p) (IsTooLarge p) result
      image_answers result image memory = record {
        accepted = image_accepted result image;
        refused = memory_refused result memory;
        accepts = image_accepts result image memory;
        refuses = λ fault large. absurd (never_large fault large);
      }

-- ---- the same for a text

module _ {X : Type 0} (Image : Program → X → Type 0) (text : List ℕ) where
  -- The proof of the compiler's contract for a text that the front end accepts.
  module _ (p : Program) (accepted : IsAcceptedText text p) (only : (q : Program) → IsAcceptedText text q → p ≡ q) (no_fault : (f : Fault) → HasFault text f → ⊥) where
    small_accepted : (result : Result X Fault) → IfOk result (λ x. (q : Program) × IsSmall p q × Image q x) → IfOk result (λ x. (q : Program) × IsCompiledText text q × Image q x)
    small_accepted (Ok x) (q, (same, small), image) = (q, (subst (IsAcceptedText text) (sym same) accepted, small), image)
    small_accepted (Err f) h = tt

    large_refused : (result : Result X Fault) → IfErr result (λ f. (f ≡ memory_fault) ⊎ IsTooLarge p f) → IfErr result (λ f. (f ≡ memory_fault) ⊎ IsRefusedAtLast text f)
    large_refused (Ok x) h = tt
    large_refused (Err f) (inl memory) = inl memory
    large_refused (Err f) (inr large) = inr (inr (p, accepted, large))

    after_refuses : (result : Result X Fault) → Decides (IsSmall p) Image (IsTooLarge p) (IsTooLarge p) result → (fault : Fault) → HasFaultAtLast text fault
        → MatchResult result (λ _. ⊥) (λ f. (f ≡ memory_fault) ⊎ (f ≡ fault))
    after_refuses result d fault (inl front) = absurd (no_fault fault front)
    after_refuses result d fault (inr (q, is, large)) = d.refuses fault (subst (λ (r : Program). IsTooLarge r fault) (sym (only q is)) large)

    pub after_answers : (result : Result X Fault) → Decides (IsSmall p) Image (IsTooLarge p) (IsTooLarge p) result
        → Decides (IsCompiledText text) Image (IsRefusedAtLast text) (HasFaultAtLast text) result
    after_answers result d = record {
      accepted = small_accepted result d.accepted;
      refused = large_refused result d.refused;
      accepts = λ q. λ (is, small). d.accepts q (sym (only q is), small);
      refuses = after_refuses result d;
    }

  -- The proof of the compiler's contract for a text that the front end rejects.
  refuses_last : {Y : Type 0} {Gives : Program → Y → Type 0} (f : Fault) → Decides (IsAcceptedText text) Gives (IsRefusedText text) (HasFault text) (Err f)
      → (fault : Fault) → HasFaultAtLast text fault → (f ≡ memory_fault) ⊎ (f ≡ fault)
  refuses_last f d fault (inl front) = d.refuses fault front
  refuses_last f d fault (inr (p, is, large)) = inl (d.accepts p is)

  pub front_answers : {Y : Type 0} (Gives : Program → Y → Type 0) (f : Fault) → Decides (IsAcceptedText text) Gives (IsRefusedText text) (HasFault text) (Err f)
      → Decides (IsCompiledText text) Image (IsRefusedAtLast text) (HasFaultAtLast text) (Err f)
  front_answers Gives f d = record {
    accepted = tt;
    refused = ⊎_elim (λ memory. inl memory) (λ refused. inr (inl refused)) d.refused;
    accepts = λ p. λ (is, small). d.accepts p is;
    refuses = refuses_last f d;
  }
