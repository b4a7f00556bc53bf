-- This file loads the words of a cell into slots one by one, through an address in a slot that no load overwrites.
use Rattle.std.proofs.Common.{◌≡◌, ℕ, zero, suc, ◌+◌, ◌*◌, ◌<◌, List, [], ◌∷◌, Some, ap, ◌∙◌, arith, ◌≤◌, refl}
use Rattle.cyc_words.specs.Word.{add_of}
use Rattle.cyc_types.specs.declared.typed.Kind.{Kind}
use Rattle.cyc_types.specs.TypedTrees.{Program}
use Rattle.cyc_plain.specs.declared.instruction.Operand.TheVariants as operands
use Rattle.cyc_plain.specs.inside.State.{put, Configuration, Words}
use Rattle.cyc_plain.specs.inside.Step.{with_slots, advanced, at, loads}
use Rattle.cyc_plain.proofs.SlotLaws.{put-other}
use Rattle.cyc_lower_proof.specs.inside.ObjectCode.{load_at}
use Rattle.cyc_lower_proof.specs.inside.Lowering.{lower_program}
use Rattle.cyc_lower_proof.proofs.relation.code.Stands.{EachAt}
use Rattle.cyc_lower_proof.proofs.relation.simulation.Stacks.{code_of}
use Rattle.cyc_lower_proof.proofs.relation.simulation.Paths.{Link, is_quiet, end_of, IsPath}
use Rattle.cyc_lower_proof.proofs.place_steps.KindWords.{loaded_at, loads_by}
use Rattle.cyc_lower_proof.proofs.value_steps.GlobalSteps.{each_put}

abbrev with_read : (word : ℕ → ℕ) → Configuration → (index d : ℕ) → Configuration
with_read word c index d = advanced (with_slots c (put c.active.slots d (word index)))

abbrev pub word_links : Kind → (word : ℕ → ℕ) → Configuration → (many index s d : ℕ) → List Link
word_links kind word c zero index s d = []
word_links kind word c (suc many) index s d =
    record { instruction = load_at kind s index d; following = with_read word c index d } ∷ word_links kind word (with_read word c index d) many (suc index) s (suc d)

-- The configuration at the end of a path of instructions that loads the words of a cell.
pub word_end : (kind : Kind) (word : ℕ → ℕ) (c : Configuration) (many index s d : ℕ)
    → end_of c (word_links kind word c (suc many) index s d) ≡ advanced (with_slots (at c (c.active.next + many)) (each_put word c.active.slots (suc many) index d))
word_end kind word c zero index s d =
    ap (λ (n : ℕ). advanced (with_slots (at c n) (put c.active.slots d (word index)))) (let e : c.active.next ≡ c.active.next + 0 = omega arith in e)
word_end kind word c (suc many) index s d =
    word_end kind word (with_read word c index d) many (suc index) s (suc d)
    ∙ ap (λ (n : ℕ). advanced (with_slots (at c n) (each_put word c.active.slots (suc (suc many)) index d))) (let e : c.active.next + 1 + many ≡ c.active.next + suc many = omega arith in e)

-- A path of instructions loads each word of a cell and leaves the slots below a bound unchanged.
pub word_path : (source : Program) (kind : Kind) (word : ℕ → ℕ) (c : Configuration) (address many index s d q bound : ℕ) → c.active.slots s ≡ address → s < d → bound ≤ d
    → ((slots : Words) (next j : ℕ) → ((n : ℕ) → n < bound → slots n ≡ c.active.slots n) → j < index + many → loaded_at (lower_program source) kind (at (with_slots c slots) next) (add_of address (4 * j)) ≡ Some (word j))
    → EachAt (code_of source c.active.function) (load_at kind s) many index d c.active.next q → IsPath source c (word_links kind word c many index s d) × (c.active.next + many ≡ q)
word_path source kind word c address zero index s d q bound same before least there end = (tt, omega (arith, end))
word_path source kind word c address (suc many) index s d q bound same before least there (here, rest) =
    let next = with_read word c index d in
    let stays : next.active.slots s ≡ address = put-other c.active.slots d s (word index) (λ equal. omega (arith, equal, before)) ∙ same in
    let (path, end) = word_path source kind word next address many (suc index) s (suc d) q bound stays (omega (arith, before)) (omega (arith, least))
    (λ slots n j low below. there slots n j (λ m less. low m less ∙ put-other c.active.slots d m (word index) (λ equal. omega (arith, equal, less, least))) (omega (arith, below))) rest in (
      (
        here,
        (λ choice. loads_by (lower_program source) choice c kind d (operands.Slot s) (4 * index)
            ∙ ap (λ (a : ℕ). loads c d (loaded_at (lower_program source) kind c (add_of a (4 * index)))) same
            ∙ ap (loads c d) (there c.active.slots c.active.next index (λ m less. refl) (omega arith))),
        omega arith,
        is_quiet c next.active,
        path,
      ),
      omega (arith, end),
    )
