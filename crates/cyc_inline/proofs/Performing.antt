-- An instruction with shifted slots and moved jump targets has the same effect as the original instruction.
use Rattle.std.proofs.Common.{◌≡◌, ℕ, ◌+◌, ◌-◌, ◌%◌, ◌^◌, ◌≤◌, Bool, true, false, List, [], ◌∷◌, ◌++◌, drop, Option, Some, None, slice_get, refl, sym, ap, subst, ◌∙◌, arith, inl, inr}
use Rattle.std.specs.Prelude.{◌⊎◌, if◌then◌else◌, unwrap_or}
use Rattle.cyc_words.specs.Word.{add_of}
use Rattle.cyc_words.specs.Bytes.{byte_in, with_byte, word_of}
use Rattle.cyc_store.specs.State.{lexical_count}
use Rattle.cyc_plain.specs.declared.instruction.Instruction.{Instruction}
use Rattle.cyc_plain.specs.declared.instruction.Instruction.TheVariants as instructions
use Rattle.cyc_plain.specs.declared.instruction.Operand.{Operand}
use Rattle.cyc_plain.specs.inside.Memory.{memory_at, with_memory}
use Rattle.cyc_plain.specs.inside.Operators.{unary_result, binary_result, has_no_result, compares}
use Rattle.cyc_plain.specs.inside.Program.{Routine, Program}
use Rattle.cyc_plain.specs.inside.State.{Words, put, copied, Activation, Frame, Configuration, State, Running, Stuck}
use Rattle.cyc_plain.specs.inside.Step.{Choice, gives, operand_word, loads, saves, loads_byte, saves_byte, advanced, performed}
use Rattle.cyc_plain.specs.inside.WellFormed.{IsOperand, IsInRange, leaves}
use Rattle.cyc_plain.proofs.SlotLaws.{put-other, copied-below}
use Rattle.cyc_inline.specs.inside.Opened.{shifted_operand, moved}
use Rattle.cyc_inline.proofs.Agreeing.{Agree, from_slot, put_shifted, copied_at, operand_agree}

-- Returns true for an ordinary instruction: it calls no function, opens or closes no handler, and takes no slot's address.
abbrev pub is_ordinary : Instruction → Bool
is_ordinary (instructions.Call function arguments count result) = false
is_ordinary (instructions.Return value) = false
is_ordinary (instructions.AddressOf destination slot count) = false
is_ordinary (instructions.Ask request) = false
is_ordinary (instructions.Try first handler) = false
is_ordinary (instructions.Leave first) = false
is_ordinary (instructions.Throw tag value) = false
is_ordinary (instructions.Finish value) = false
is_ordinary (instructions.Uncaught tag value) = false
is_ordinary (instructions.Enter function) = false
is_ordinary instruction = true

module _ (program inlined : Program) (r : Routine) (shift : ℕ) (place : ℕ → ℕ) (c : Configuration) (b : Activation) (gs : List Frame) (Falls : Type 0) where
  abbrev d : Configuration
  d = record c { active = b; frames = gs }

  -- The configuration after a step of the active call: only the call's slots and code position, the globals, the output and
  -- the input have changed.
  abbrev pub gone : (d : Configuration) (slots : Words) (next : ℕ) (globals : Words) (output input : List ℕ) → Configuration
  gone d slots next globals output input = record d { active = record d.active { slots = slots; next = next }; globals = globals; output = output; input = input }

  -- Says that the source and the inlined program are at corresponding code positions, or that both are just after the executed
  -- instruction, through which control falls.
  abbrev pub IsNext : (to other : ℕ) → Type 0
  IsNext to other = (other ≡ place to) ⊎ ((to ≡ c.active.next + 1) × (other ≡ b.next + 1) × Falls)

  -- The conditions under which a relation between states of the source and the inlined program is preserved
  -- by the effects of ordinary instructions.
  pub record Bears (Match : State → State → Type 0) : Type 0 where
    pub stuck : (output input : List ℕ) → Match (Stuck output input) (Stuck output input)
    pub goes : (slots others : Words) (to other : ℕ) (globals : Words) (output input : List ℕ) → Agree r.slots slots (from_slot shift others) → Agree shift b.slots others → IsNext to other
        → Match (Running (gone c slots to globals output input)) (Running (gone (record c { active = b; frames = gs }) others other globals output input))
    pub found : (address : ℕ) → memory_at inlined (record c { active = b; frames = gs }) address ≡ memory_at program c address
    pub writes : (address word : ℕ) → Falls → Match (Running (advanced (with_memory program c address word))) (Running (advanced (with_memory inlined (record c { active = b; frames = gs }) address word)))

  module _ (choice other : Choice) (agree : Agree r.slots c.active.slots (from_slot shift b.slots)) (Match : State → State → Type 0) (bears : Bears Match) where
    match_if : (t e : Bool) (s v u w : State) → e ≡ t → Match s u → Match v w → Match (if t then s else v) (if e then u else w)
    match_if true e s v u w same first second = subst (λ (x : Bool). Match s (if x then u else w)) (sym same) first
    match_if false e s v u w same first second = subst (λ (x : Bool). Match v (if x then u else w)) (sym same) second

    word_of_operand : (operand : Operand) → IsOperand r operand → operand_word b.slots (shifted_operand shift operand) ≡ operand_word c.active.slots operand
    word_of_operand operand inside = operand_agree r shift c.active.slots b.slots operand agree inside

    given : (input : List ℕ) (destination word same : ℕ) → same ≡ word → Falls → Match (gives (record c { input = input }) destination word) (gives (record d { input = input }) (shift + destination) same)
    given input destination word same is falls =
        bears.goes (put c.active.slots destination word) (put b.slots (shift + destination) same) (c.active.next + 1) (b.next + 1) c.globals c.output input
        (put_shifted r.slots shift destination word same c.active.slots b.slots is agree)
        (λ k below. put-other b.slots (shift + destination) k same (λ e. omega (arith, e, below)))
        (inr (refl, refl, falls))

    -- The states still match if only the code position, the globals, the output and the input have changed.
    stays : (to next : ℕ) → IsNext to next → Match (Running (gone c c.active.slots to c.globals c.output c.input)) (Running (gone d b.slots next c.globals c.output c.input))
    stays to next is = bears.goes c.active.slots b.slots to next c.globals c.output c.input agree (λ k below. refl) is

    branched : (taken same : Bool) (target : ℕ) → same ≡ taken → Falls → IsNext (if taken then target else c.active.next + 1) (if same then place target else b.next + 1)
    branched true same target is falls = inl (ap (λ (t : Bool). if t then place target else b.next + 1) is)
    branched false same target is falls = inr (refl, ap (λ (t : Bool). if t then place target else b.next + 1) is, falls)

    copies : (destination source count : ℕ) → source + count ≤ r.slots → Falls
        → Match (Running (gone c (copied c.active.slots source count c.active.slots destination) (c.active.next + 1) c.globals c.output c.input))
        (Running (gone d (copied b.slots (shift + source) count b.slots (shift + destination)) (b.next + 1) c.globals c.output c.input))
    copies destination source count inside falls =
        bears.goes (copied c.active.slots source count c.active.slots destination) (copied b.slots (shift + source) count b.slots (shift + destination)) (c.active.next + 1) (b.next + 1) c.globals c.output c.input
        (λ k below. copied_at c.active.slots b.slots c.active.slots b.slots source (shift + source) count destination (shift + destination) k (shift + k) shift refl refl
        (λ j less. ap b.slots (let e : shift + source + j ≡ shift + (source + j) = omega arith in e) ∙ agree (source + j) (omega (arith, less, inside)))
        (agree k below))
        (λ k below. copied-below b.slots b.slots (shift + source) count (shift + destination) k (omega (arith, below)))
        (inr (refl, refl, falls))

    -- ---- loads and stores

    loaded : (destination : ℕ) (o : Option ℕ) → Falls → Match (loads c destination o) (loads d (shift + destination) o)
    loaded destination (Some word) falls = given c.input destination word word refl falls
    loaded destination None falls = bears.stuck c.output c.input

    loaded_byte : (destination address : ℕ) (o : Option ℕ) → Falls → Match (loads_byte c destination address o) (loads_byte d (shift + destination) address o)
    loaded_byte destination address (Some word) falls = given c.input destination (byte_in word (address % 4)) (byte_in word (address % 4)) refl falls
    loaded_byte destination address None falls = bears.stuck c.output c.input

    saved : (address word : ℕ) (o : Option ℕ) → Falls → Match (saves program c address word o) (saves inlined d address word o)
    saved address word (Some old) falls = bears.writes address word falls
    saved address word None falls = bears.stuck c.output c.input

    saved_byte : (address byte : ℕ) (o : Option ℕ) → Falls → Match (saves_byte program c address byte o) (saves_byte inlined d address byte o)
    saved_byte address byte (Some old) falls = bears.writes (word_of address) (with_byte old (address % 4) byte) falls
    saved_byte address byte None falls = bears.stuck c.output c.input

    loads_same : (destination address same : ℕ) → same ≡ address → Falls → Match (loads c destination (memory_at program c address)) (loads d (shift + destination) (memory_at inlined d same))
    loads_same destination address same is falls =
        subst (λ (o : Option ℕ). Match (loads c destination (memory_at program c address)) (loads d (shift + destination) o)) (sym (ap (memory_at inlined d) is ∙ bears.found address))
        (loaded destination (memory_at program c address) falls)

    loads_byte_same : (destination address same : ℕ) → same ≡ address → Falls
        → Match (loads_byte c destination address (memory_at program c (word_of address))) (loads_byte d (shift + destination) same (memory_at inlined d (word_of same)))
    loads_byte_same destination address same is falls =
        subst (λ (a : ℕ). Match (loads_byte c destination address (memory_at program c (word_of address))) (loads_byte d (shift + destination) a (memory_at inlined d (word_of a)))) (sym is)
        (subst (λ (o : Option ℕ). Match (loads_byte c destination address (memory_at program c (word_of address))) (loads_byte d (shift + destination) address o)) (sym (bears.found (word_of address)))
        (loaded_byte destination address (memory_at program c (word_of address)) falls))

    saves_same : (address same word also : ℕ) → same ≡ address → also ≡ word → Falls
        → Match (saves program c address word (memory_at program c address)) (saves inlined d same also (memory_at inlined d same))
    saves_same address same word also is word_is falls =
        subst (λ (a : ℕ). Match (saves program c address word (memory_at program c address)) (saves inlined d a also (memory_at inlined d a))) (sym is)
        (subst (λ (x : ℕ). Match (saves program c address word (memory_at program c address)) (saves inlined d address x (memory_at inlined d address))) (sym word_is)
        (subst (λ (o : Option ℕ). Match (saves program c address word (memory_at program c address)) (saves inlined d address word o)) (sym (bears.found address))
        (saved address word (memory_at program c address) falls)))

    saves_byte_same : (address same byte also : ℕ) → same ≡ address → also ≡ byte → Falls
        → Match (saves_byte program c address byte (memory_at program c (word_of address))) (saves_byte inlined d same also (memory_at inlined d (word_of same)))
    saves_byte_same address same byte also is byte_is falls =
        subst (λ (a : ℕ). Match (saves_byte program c address byte (memory_at program c (word_of address))) (saves_byte inlined d a also (memory_at inlined d (word_of a)))) (sym is)
        (subst (λ (x : ℕ). Match (saves_byte program c address byte (memory_at program c (word_of address))) (saves_byte inlined d address x (memory_at inlined d (word_of address)))) (sym byte_is)
        (subst (λ (o : Option ℕ). Match (saves_byte program c address byte (memory_at program c (word_of address))) (saves_byte inlined d address byte o)) (sym (bears.found (word_of address)))
        (saved_byte address byte (memory_at program c (word_of address)) falls)))

    -- A load or store accesses the same address in the source and the inlined program.
    address_same : (base : Operand) (offset : ℕ) → IsOperand r base → add_of (operand_word b.slots (shifted_operand shift base)) offset ≡ add_of (operand_word c.active.slots base) offset
    address_same base offset inside = ap (λ (a : ℕ). add_of a offset) (word_of_operand base inside)

    -- ---- one instruction

    pub performs : (i : Instruction) → is_ordinary i ≡ true → IsInRange program r i → (leaves i ≡ false → Falls) → Match (performed program choice c i) (performed inlined other (record c { active = b; frames = gs }) (moved shift place i))
    performs (instructions.Move destination source) ordinary (inside, first) falls =
        given c.input destination (operand_word c.active.slots source) (operand_word b.slots (shifted_operand shift source)) (word_of_operand source first) (falls refl)
    performs (instructions.MoveWords destination source count) ordinary range falls = copies destination source count range.source_in_range (falls refl)
    performs (instructions.Unary operator destination operand) ordinary (inside, first) falls =
        given c.input destination (unary_result operator (operand_word c.active.slots operand)) (unary_result operator (operand_word b.slots (shifted_operand shift operand))) (ap (unary_result operator) (word_of_operand operand first)) (falls refl)
    performs (instructions.Binary operator destination left right) ordinary (inside, first, second) falls =
        let l = word_of_operand left first in
        let r = word_of_operand right second in
        let same : binary_result operator (operand_word b.slots (shifted_operand shift left)) (operand_word b.slots (shifted_operand shift right)) ≡ binary_result operator (operand_word c.active.slots left) (operand_word c.active.slots right) =
        ap (λ (x : ℕ). binary_result operator x (operand_word b.slots (shifted_operand shift right))) l ∙ ap (binary_result operator (operand_word c.active.slots left)) r in
        match_if (has_no_result operator (operand_word c.active.slots right)) (has_no_result operator (operand_word b.slots (shifted_operand shift right)))
        (Stuck c.output c.input) (gives c destination (binary_result operator (operand_word c.active.slots left) (operand_word c.active.slots right)))
        (Stuck c.output c.input) (gives d (shift + destination) (binary_result operator (operand_word b.slots (shifted_operand shift left)) (operand_word b.slots (shifted_operand shift right))))
        (ap (has_no_result operator) r)
        (bears.stuck c.output c.input)
        (given c.input destination (binary_result operator (operand_word c.active.slots left) (operand_word c.active.slots right)) (binary_result operator (operand_word b.slots (shifted_operand shift left)) (operand_word b.slots (shifted_operand shift right))) same (falls refl))
    performs (instructions.Jump target) ordinary range falls = stays target (place target) (inl refl)
    performs (instructions.Branch comparison left right target) ordinary (first, second, inside) falls =
        let l = word_of_operand left first in
        let r = word_of_operand right second in
        let taken : Bool = compares comparison (operand_word c.active.slots left) (operand_word c.active.slots right) in
        let same : Bool = compares comparison (operand_word b.slots (shifted_operand shift left)) (operand_word b.slots (shifted_operand shift right)) in
        stays (if taken then target else c.active.next + 1) (if same then place target else b.next + 1)
        (branched taken same target
        (ap (λ (x : ℕ). compares comparison x (operand_word b.slots (shifted_operand shift right))) l ∙ ap (compares comparison (operand_word c.active.slots left)) r)
        (falls refl))
    performs (instructions.ReadByte destination) ordinary inside falls =
        let byte : ℕ = unwrap_or (slice_get c.input 0) (2 ^ 32 - 1) in
        given (drop 1 c.input) destination byte byte refl (falls refl)
    performs (instructions.WriteByte source) ordinary first falls =
        subst
        (λ (word : ℕ). Match (Running (gone c c.active.slots (c.active.next + 1) c.globals (c.output ++ operand_word c.active.slots source % 256 ∷ []) c.input))
        (Running (gone d b.slots (b.next + 1) c.globals (c.output ++ word % 256 ∷ []) c.input)))
        (sym (word_of_operand source first))
        (bears.goes c.active.slots b.slots (c.active.next + 1) (b.next + 1) c.globals (c.output ++ operand_word c.active.slots source % 256 ∷ []) c.input agree (λ k below. refl) (inr (refl, refl, falls refl)))
    performs (instructions.LoadGlobal destination global) ordinary range falls = given c.input destination (c.globals global) (c.globals global) refl (falls refl)
    performs (instructions.StoreGlobal global source) ordinary (known, first) falls =
        subst
        (λ (word : ℕ). Match (Running (gone c c.active.slots (c.active.next + 1) (put c.globals global (operand_word c.active.slots source)) c.output c.input))
        (Running (gone d b.slots (b.next + 1) (put c.globals global word) c.output c.input)))
        (sym (word_of_operand source first))
        (bears.goes c.active.slots b.slots (c.active.next + 1) (b.next + 1) (put c.globals global (operand_word c.active.slots source)) c.output c.input agree (λ k below. refl) (inr (refl, refl, falls refl)))
    performs (instructions.Load destination address offset) ordinary (inside, first) falls =
        loads_same destination (add_of (operand_word c.active.slots address) offset) (add_of (operand_word b.slots (shifted_operand shift address)) offset) (address_same address offset first) (falls refl)
    performs (instructions.LoadByte destination address offset) ordinary (inside, first) falls =
        loads_byte_same destination (add_of (operand_word c.active.slots address) offset) (add_of (operand_word b.slots (shifted_operand shift address)) offset) (address_same address offset first) (falls refl)
    performs (instructions.Store address offset source) ordinary (first, second) falls =
        saves_same (add_of (operand_word c.active.slots address) offset) (add_of (operand_word b.slots (shifted_operand shift address)) offset)
        (operand_word c.active.slots source) (operand_word b.slots (shifted_operand shift source)) (address_same address offset first) (word_of_operand source second) (falls refl)
    performs (instructions.StoreByte address offset source) ordinary (first, second) falls =
        saves_byte_same (add_of (operand_word c.active.slots address) offset) (add_of (operand_word b.slots (shifted_operand shift address)) offset)
        (operand_word c.active.slots source % 256) (operand_word b.slots (shifted_operand shift source) % 256) (address_same address offset first) (ap (λ (x : ℕ). x % 256) (word_of_operand source second)) (falls refl)
    performs (instructions.CountLexical destination) ordinary inside falls =
        given c.input destination (lexical_count c.store.regions % 2 ^ 32) (lexical_count c.store.regions % 2 ^ 32) refl (falls refl)
    performs i ordinary range falls = absurd (let e : false ≡ true = ordinary in cc)
