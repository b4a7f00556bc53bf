-- The base address for a global: a reserved register holds it for the first globals, and for all others it is loaded.
use Rattle.std.proofs.Common.{◌≡◌, ◌≢◌, ℕ, ◌+◌, ◌*◌, ◌%◌, ◌^◌, ◌<◌, Bool, true, false, [], ◌∷◌, refl, ap, ◌∙◌, arith}
use Rattle.std.specs.Prelude.{◌/◌, if◌then◌else◌}
use Rattle.std.proofs.lemmas.Bool.{ltb-true}
use Rattle.cyc_isa.specs.Effect.{load_upper_result, memory_address}
use Rattle.cyc_machine_model.specs.State.{data_base, globals_length}
use Rattle.cyc_plain.specs.inside.State.{Words}
use Rattle.cyc_plain.proofs.SlotLaws.{put-other}
use Rattle.cyc_select.specs.declared.constants.TheConstants.{GLOBALS, GLOBALS_MIDDLE, NEAR_GLOBALS, SECOND}
use Rattle.cyc_select.specs.inside.Slots.{global_address, is_near, upper_of_global}
use Rattle.cyc_select.proofs.effects.Views.{Contents}
use Rattle.cyc_select.proofs.effects.Sequences.{after_r}
use Rattle.cyc_select.proofs.values.Blocks.{Puts, Keeps, puts_keeps}
use Rattle.cyc_select.proofs.values.Computing.{second_scratch, second_aside}
use Rattle.cyc_select.proofs.values.Operations.{global_lies, near_lies}

module _ (globals stack : ℕ) where
  -- `Reaches` says that a register holds a base address for a global, and that the global's offset from it fits a
  -- load or store instruction.
  pub record Reaches (near : Bool) (global but : ℕ) (q : Words) (m : Contents) : Type 0 where
    pub keeps : Keeps globals stack (if near then [] else upper_of_global global ∷ []) q m but
    pub others : (n : ℕ) → n < 32 → n ≢ SECOND → after_r (if near then [] else upper_of_global global ∷ []) q m n ≡ q n
    pub there :
        memory_address (after_r (if near then [] else upper_of_global global ∷ []) q m ((if near then GLOBALS else SECOND) % 32)) ((if near then global_address global + 2 ^ 15 else global_address global) % 2 ^ 16)
        ≡ data_base + 4 * global

  pub reaches : (global but : ℕ) (q : Words) (m : Contents) → q GLOBALS ≡ GLOBALS_MIDDLE → global < globals_length → Reaches (is_near global) global but q m
  reaches global but q m middle below = go (is_near global) refl
    where
      go : (near : Bool) → is_near global ≡ near → Reaches near global but q m
      go true is = record {
        keeps = record { safe = tt; memory = refl; zero = refl; base = refl; lowest = refl; back = refl; lasts = refl; values = λ n low high other. refl };
        others = λ n n_below other. refl;
        there = ap (λ (x : ℕ). memory_address x ((global_address global + 2 ^ 15) % 2 ^ 16)) middle ∙ near_lies global (ltb-true global NEAR_GLOBALS is);
      }
      go false is =
          let upper : ℕ = load_upper_result ((global_address global + 2 ^ 15) / 2 ^ 16) in
          let puts : Puts globals stack (upper_of_global global ∷ []) q m SECOND SECOND upper =
          record { safe = (refl, tt); memory = refl; result = refl; others = λ n n_below other. put-other q SECOND n upper other } in
          record {
            keeps = puts_keeps globals stack (upper_of_global global ∷ []) q m SECOND SECOND upper but (second_scratch globals stack) (second_aside globals stack but) puts;
            others = puts.others;
            there = global_lies (data_base + 4 * global) (omega (arith, below));
          }
