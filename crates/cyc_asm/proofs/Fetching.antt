-- The MIPS machine fetches and executes the instructions in the assembled text.
use Rattle.std.proofs.Common.{◌≡◌, ℕ, ◌+◌, ◌*◌, ◌%◌, ◌≤◌, List, ◌∷◌, length, Bool, true, false, cond, nat_le, Option, None, Some, refl, sym, ap, subst, ◌∙◌, arith, eq-eqb}
use Rattle.std.proofs.lemmas.List.{length-map, get_or_past}
use Rattle.cyc_words.specs.Word.{add_of}
use Rattle.cyc_isa.specs.Encoding.{word_of, IsEncodable}
use Rattle.cyc_isa.proofs.RoundTrip.{decode_of-word_of}
use Rattle.cyc_isa.specs.declared.instr.Instr.{Instr}
use Rattle.cyc_machine_model.specs.State.{text_base, text_end, text_at, word_number}
use Rattle.cyc_machine_model.specs.Step.{Acts, Does, instruction_of, is_aligned, action_of, executes}
use Rattle.cyc_machine_model.specs.Run.{World, Goes, reported}
use Rattle.cyc_machine_model.specs.declared.event.Event.TheVariants.{Ran}
use Rattle.cyc_machine_model.specs.declared.phase.Phase.TheVariants as phases
use Rattle.cyc_machine_model.proofs.StepLaws.{action_of-instruction, Step-action}
use Rattle.cyc_words.specs.inside.Following.{Comes}
use Rattle.cyc_select.specs.inside.Machine.{Configuration}
use Rattle.cyc_asm.specs.inside.Text.{text_of, IsAt, nothing}
use Rattle.cyc_machine_model.specs.WorldMachine.{world_machine}

-- Returns the MIPS machine with a configuration's registers and memory and with this text, at address `counter`; it
-- continues at address `next`.
abbrev pub world_at : List ℕ → Configuration → (counter next : ℕ) → (in_slot : Bool) → World
world_at words c counter next in_slot = record {
  machine = record {
    core = record { registers = c.registers; high = c.high; low = c.low; counter = counter; next = next; in_slot = in_slot };
    memory = record { text = text_of words; globals = c.globals; stack = c.stack; store = c.store };
    phase = phases.Running;
  };
  output = c.output;
  input = c.input;
}

decodes_to : (i : Instr) → IsEncodable i → instruction_of (word_of i) ≡ Some i
unfolding instruction_of
decodes_to i fits = decode_of-word_of i fits

aligned_address : (address : ℕ) → address % 4 ≡ 0 → is_aligned address ≡ true
aligned_address address multiple = eq-eqb (address % 4) 0 multiple

pub fetches : (words : List ℕ) (c : Configuration) (at next : ℕ) (in_slot : Bool) (i : Instr) → IsAt words at i → at % 4 ≡ 0
    → action_of (world_at words c at next in_slot).machine ≡ executes (world_at words c at next in_slot).machine i
fetches words c at next in_slot i here multiple =
    action_of-instruction (world_at words c at next in_slot).machine (word_of i) i (aligned_address at multiple) here.word (decodes_to i here.encodable)

-- An instruction that makes no system call, and so has only one possible effect, leads to exactly one next state of
-- the processor, memory and devices.
pub goes_to : (words : List ℕ) (c c' : Configuration) (at next next' : ℕ) (in_slot in_slot' : Bool) (i : Instr) → IsAt words at i → at % 4 ≡ 0 → c'.output ≡ c.output → c'.input ≡ c.input
    → executes (world_at words c at next in_slot).machine i ≡ Does Ran (world_at words c' next next' in_slot').machine
    → (u : World) → Goes (world_at words c at next in_slot) u → u ≡ world_at words c' next next' in_slot'
goes_to words c c' at next next' in_slot in_slot' i here multiple output input does u (event, s, step, is) =
    let w : World = world_at words c at next in_slot in
    let v : World = world_at words c' next next' in_slot' in
    let acts : Acts (Does Ran v.machine) w.machine event s = Step-action w.machine (Does Ran v.machine) event s refl (fetches words c at next in_slot i here multiple ∙ does) step in
    is ∙ ap (λ e. reported w e s) acts.0 ∙ ap (λ m. reported w Ran m) acts.1
    ∙ ap (λ (out : List ℕ). record v { output = out; input = c.input }) (sym output)
    ∙ ap (λ (from : List ℕ). record v { input = from }) (sym input)

-- A jump or branch with an empty delay slot takes two steps of the MIPS machine: its own and that of the delay slot.
pub through : (words : List ℕ) (c c' : Configuration) (at target : ℕ) (i : Instr) → IsAt words at i → IsAt words (at + 4) nothing → at % 4 ≡ 0 → c'.output ≡ c.output → c'.input ≡ c.input
    → executes (world_at words c at (at + 4) false).machine i ≡ Does Ran (world_at words c' (at + 4) target true).machine
    → (Way Goal : World → Type 0) (places : List ℕ)
    → Way (world_at words c at (at + 4) false) → Way (world_at words c' (at + 4) target true)
    → Comes world_machine Way Goal places (world_at words c' target (add_of target 4) false)
    → Comes world_machine Way Goal (at ∷ (at + 4) ∷ places) (world_at words c at (at + 4) false)
through words c c' at target i here slot multiple output input does Way Goal places first second rest = (
  refl,
  first,
  λ u goes. subst (λ (x : World). Comes world_machine Way Goal ((at + 4) ∷ places) x)
      (sym (goes_to words c c' at (at + 4) target false true i here multiple output input does u goes)) (
        refl,
        second,
        λ v goes_on. subst (λ (x : World). Comes world_machine Way Goal places x)
            (sym (goes_to words c' c' (at + 4) target (add_of target 4) true false nothing slot (omega arith) refl refl refl v goes_on)) rest,
      ),
)

either_none : (b : Bool) → cond b (let n : Option ℕ = None in n) None ≡ None
either_none true = refl
either_none false = refl

-- The text has no word at an address after its end.
pub no_text_past_end : (words : List ℕ) (address : ℕ) → text_base + 4 * length words ≤ text_end → text_end ≤ address → text_at (text_of words) address ≡ None
no_text_past_end words address inside following =
    let past : length (text_of words) ≤ word_number text_base address = omega (arith, length-map words (λ (word : ℕ). Some word)) in
    ap (λ (x : Option ℕ). cond (nat_le text_base address) x None) (get_or_past (text_of words) (word_number text_base address) None past) ∙ either_none (nat_le text_base address)
