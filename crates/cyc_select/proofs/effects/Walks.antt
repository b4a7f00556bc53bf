-- A `Walk` is a stretch of a run of labelled code through lines with ascending numbers.
use Rattle.std.proofs.Common.{◌≡◌, ℕ, suc, ◌+◌, ◌≤◌, ◌%◌, drop, Bool, true, List, [], ◌∷◌, ◌++◌, length, Option, Some, None, slice_get, refl, sym, ap, subst, ◌∙◌, arith, inl, inr}
use Rattle.std.specs.Prelude.{◌⊎◌, if◌then◌else◌}
use Rattle.cyc_machine_model.specs.declared.constants.TheConstants.{RETURN_ADDRESS}
use Rattle.cyc_isa.specs.Effect.{branch_taken, branch_zero_taken, memory_address}
use Rattle.cyc_isa.specs.declared.instr.Instr.{Instr}
use Rattle.cyc_isa.specs.declared.instr.Instr.TheVariants.{Memory}
use Rattle.cyc_isa.specs.declared.operand.Register.{Register}
use Rattle.cyc_words.specs.Simulation as simulation
use Rattle.cyc_words.specs.inside.Following.{Comes}
use Rattle.cyc_store.specs.State.{StoreState}
use Rattle.cyc_store.specs.Services as services
use Rattle.cyc_store.specs.Services.{Call, Answer, refusal}
use Rattle.cyc_plain.specs.inside.State.{Words, AreWords, put}
use Rattle.cyc_plain.specs.inside.Step.{HasAnswerWords}
use Rattle.cyc_plain.specs.declared.instruction.Request.{Request}
use Rattle.cyc_isa.specs.Encoding.{IsEncodable}
use Rattle.cyc_plain.proofs.WordLaws.{put_words}
use Rattle.cyc_select.specs.declared.code.Condition.{Condition}
use Rattle.cyc_select.specs.declared.code.Condition.TheVariants as conditions
use Rattle.cyc_select.specs.declared.code.Line.{Line}
use Rattle.cyc_select.specs.declared.code.Line.TheVariants as lines
use Rattle.cyc_select.specs.inside.Labelled.{Labelled, IsFormed, IsFormedLine, is_ordinary, IsReturnPoint, AreAddresses}
use Rattle.cyc_words.specs.Ending.{Ending, Returned, Uncaught, Full}
use Rattle.cyc_words.specs.Word.{IsWord, signed}
use Rattle.cyc_words.proofs.Members.{All_at}
use Rattle.cyc_isa.specs.Decoding.{trap_code_of}
use Rattle.cyc_select.specs.inside.Machine.{Configuration, State, Running, Ended, Step, Executes, ExecutesAt, Performs, PerformsOrdinary, machine, status_of, output_of, input_of, linked, at, word_in, holds_of}
use Rattle.cyc_select.specs.inside.Instructions.{syscall}
use Rattle.cyc_select.specs.inside.Selection.{ordinary, service_number}
use Rattle.cyc_select.proofs.relation.Cells.{IsLive}
use Rattle.cyc_select.proofs.effects.Views.{Contents, saved_in, View, Width, load_op, store_op, word_place, loaded_part, stored_word, does_r, does_w, IsSafe, IsWritable, moved, answered_r, view_at, view_seen, view_put, view_answered}
use Rattle.cyc_select.proofs.effects.Effects.{performed, moved_view, loads_live, stores_live, loaded_view, saved_view, call_by, asked_call, given_answer, store_serves, store_is_full, byte_of, given_byte, gets_byte, printed_byte, puts_byte, ends_returned, ends_uncaught, ends_full}
use Rattle.cyc_select.proofs.effects.Sequences.{Rises, comes_map, Stands, after_r, after_w, AreSafe, part_word, does_words_r, does_words_w, safe_ordinary}

module _ (code : Labelled) (formed : IsFormed code) (addresses : ℕ → ℕ) (globals stack : ℕ) where
  -- `Quiet` says that the state is running with this output and input, or that the effect of the plain program's step is already visible
  -- (`Late`).
  abbrev pub Quiet : (out rest : List ℕ) → (Late : State → Type 0) → State → Type 0
  Quiet out rest Late t = ((status_of t ≡ simulation.Running) × (output_of t ≡ out) × (input_of t ≡ rest)) ⊎ Late t

  -- `Walk` says that each run from `t` visits at least `least` lines, in ascending order between `lo` and `hi`, and reaches the goal. No
  -- input is read before the state satisfies `Late`: the effect of the plain program's step is visible.
  pub record Walk (least lo hi : ℕ) (out : List ℕ) (Late Goal : State → Type 0) (t : State) : Type 0 where
    pub places : List ℕ
    pub enough : least ≤ length places
    pub rises : Rises lo hi places
    pub comes : Comes (machine code addresses) (Quiet out (input_of t) Late) Goal places t

  pub walk_end : {Late : State → Type 0} (lo hi : ℕ) (out : List ℕ) (Goal : State → Type 0) (t : State) → lo ≤ hi → Goal t → Walk 0 lo hi out Late Goal t
  walk_end lo hi out Goal t below goal = record { places = []; enough = omega arith; rises = below; comes = goal }

  pub walk_step : {Late : State → Type 0} (n lo hi : ℕ) (out : List ℕ) (Goal : State → Type 0) (c : Configuration) (u : State) → lo ≤ c.line → c.output ≡ out → input_of u ≡ c.input
      → ((next : State) → Step code addresses (Running c) next → next ≡ u) → Walk n (suc c.line) hi out Late Goal u → Walk (suc n) lo hi out Late Goal (Running c)
  walk_step {Late} n lo hi out Goal c u from output unread only rest = record {
    places = c.line ∷ rest.places;
    enough = omega (arith, rest.enough);
    rises = (from, rest.rises);
    comes = (
      refl,
      inl (refl, output, refl),
      λ next step.
          subst (λ (t : State). Comes (machine code addresses) (Quiet out c.input Late) Goal rest.places t) (sym (only next step))
          (subst (λ (left : List ℕ). Comes (machine code addresses) (Quiet out left Late) Goal rest.places u) unread rest.comes),
    );
  }

  pub walk_few : {Late : State → Type 0} (m n lo hi : ℕ) (out : List ℕ) (Goal : State → Type 0) (t : State) → m ≤ n → Walk n lo hi out Late Goal t → Walk m lo hi out Late Goal t
  walk_few m n lo hi out Goal t fewer walk = record { places = walk.places; enough = omega (arith, walk.enough); rises = walk.rises; comes = walk.comes }

  -- If a walk (stretch of a run) reaches a state with a property, it also reaches a state with each property that follows from this one.
  pub walk_to : {Late : State → Type 0} (n lo hi : ℕ) (out : List ℕ) (Goal Goal' : State → Type 0) (t : State) → ((u : State) → Goal u → Goal' u) → Walk n lo hi out Late Goal t → Walk n lo hi out Late Goal' t
  walk_to {Late} n lo hi out Goal Goal' t goals walk = record {
    places = walk.places;
    enough = walk.enough;
    rises = walk.rises;
    comes = comes_map (machine code addresses) (Quiet out (input_of t) Late) Goal (Quiet out (input_of t) Late) Goal' walk.places t (λ u quiet. quiet) goals walk.comes;
  }

  -- A walk (stretch of a run) without its first step is still a walk, through the later lines.
  pub walk_rest : {Late : State → Type 0} (n lo hi : ℕ) (out : List ℕ) (Goal : State → Type 0) (c d : Configuration) → d.input ≡ c.input → Walk (suc n) lo hi out Late Goal (Running c)
      → Step code addresses (Running c) (Running d) → Walk n (suc c.line) hi out Late Goal (Running d)
  walk_rest {Late} n lo hi out Goal c d unread walk step = by walk.places walk.enough walk.rises walk.comes
    where
      by : (places : List ℕ) → suc n ≤ length places → Rises lo hi places → Comes (machine code addresses) (Quiet out c.input Late) Goal places (Running c) → Walk n (suc c.line) hi out Late Goal (Running d)
      by [] enough rises comes = absurd (omega (arith, enough))
      by (p ∷ places) enough (first, rises) (stands, way, goes) =
          let here : c.line ≡ p = stands in
          record {
            places = places;
            enough = omega (arith, enough);
            rises = subst (λ (x : ℕ). Rises (suc x) hi places) (sym here) rises;
            comes = subst (λ (left : List ℕ). Comes (machine code addresses) (Quiet out left Late) Goal places (Running d)) (sym unread) (goes (Running d) step);
          }

  rises_from : (lo from hi : ℕ) (places : List ℕ) → lo ≤ from → Rises from hi places → Rises lo hi places
  rises_from lo from hi [] below rises = omega arith
  rises_from lo from hi (p ∷ places) below (first, rest) = ((omega arith), rest)

  pub walk_from : {Late : State → Type 0} (n lo from hi : ℕ) (out : List ℕ) (Goal : State → Type 0) (t : State) → lo ≤ from → Walk n from hi out Late Goal t → Walk n lo hi out Late Goal t
  walk_from n lo from hi out Goal t below walk = record { places = walk.places; enough = walk.enough; rises = rises_from lo from hi walk.places below walk.rises; comes = walk.comes }

  -- `Now` says that a configuration of a run is at the line `line`, with the registers `r` and the memory `w`.
  pub record Now (line : ℕ) (out rest : List ℕ) (r : Words) (w : Contents) (c : Configuration) : Type 0 where
    pub view : View globals stack c r w
    pub r_words : AreWords r
    pub w_words : AreWords w.words
    pub at_line : c.line ≡ line
    pub output : c.output ≡ out
    pub input : c.input ≡ rest

  pub now_at : (k j : ℕ) (out input : List ℕ) (r : Words) (w : Contents) (c : Configuration) → k ≡ j → Now k out input r w c → Now j out input r w c
  now_at k j out input r w c same now = record { view = now.view; r_words = now.r_words; w_words = now.w_words; at_line = now.at_line ∙ same; output = now.output; input = now.input }

  pub now_is : (k : ℕ) (out input : List ℕ) (r : Words) (w : Contents) (r' : Words) (w' : Contents) (c : Configuration) → r ≡ r' → w ≡ w' → Now k out input r w c → Now k out input r' w' c
  now_is k out input r w r' w' c same_r same_w now =
      subst (λ (x : Words). Now k out input x w' c) same_r (subst (λ (x : Contents). Now k out input r x c) same_w now)

  executes_line : (c : Configuration) (l : Line) (next : State) → slice_get code.lines c.line ≡ Some l → Step code addresses (Running c) next → Executes code addresses c l next
  executes_line c l next stands step = subst (λ (o : Option Line). ExecutesAt code addresses c o next) stands step

  stands_now : (k : ℕ) (out input : List ℕ) (r : Words) (w : Contents) (c : Configuration) (l : Line) → Now k out input r w c → slice_get code.lines k ≡ Some l → slice_get code.lines c.line ≡ Some l
  stands_now k out input r w c l now stands = ap (slice_get code.lines) now.at_line ∙ stands

  -- After an ordinary instruction that the machine performs, the run continues with the next line.
  pub performs_now : (k : ℕ) (out input : List ℕ) (r : Words) (w : Contents) (c : Configuration) (i : Instr) (next : State) → Now k out input r w c → slice_get code.lines k ≡ Some (lines.Ordinary i) → is_ordinary i ≡ true
      → Step code addresses (Running c) next → Performs c i next
  performs_now k out input r w c i next now stands is step =
      subst (λ (b : Bool). PerformsOrdinary b c i next) is
      (executes_line c (lines.Ordinary i) next (stands_now k out input r w c (lines.Ordinary i) now stands) step)

  pub moved_now : (k : ℕ) (out input : List ℕ) (r : Words) (w : Contents) (c : Configuration) (i : Instr) → Now k out input r w c → IsEncodable i → View globals stack (moved c i) (does_r i r w) (does_w i r w)
      → Now (k + 1) out input (does_r i r w) (does_w i r w) (moved c i)
  moved_now k out input r w c i now fits view = record { view = view; r_words = does_words_r i r w fits now.r_words now.w_words; w_words = does_words_w i r w now.r_words now.w_words; at_line = ap (λ (n : ℕ). n + 1) now.at_line; output = now.output; input = now.input }

  -- An instruction that does not trap, followed by a walk (stretch of a run), is a walk.
  pub walk_one : {Late : State → Type 0} (i : Instr) (n k lo hi : ℕ) (out input : List ℕ) (Goal : State → Type 0) (r : Words) (w : Contents) (c : Configuration)
      → Now k out input r w c → slice_get code.lines k ≡ Some (lines.Ordinary i) → IsSafe globals stack i r → lo ≤ k
      → (Now (k + 1) out input (does_r i r w) (does_w i r w) (moved c i) → Walk n (k + 1) hi out Late Goal (Running (moved c i)))
      → Walk (suc n) lo hi out Late Goal (Running c)
  walk_one i n k lo hi out input Goal r w c now stands safe from goes =
      let fits = (All_at (IsFormedLine (length code.lines)) code.lines k (lines.Ordinary i) formed stands).1 in
      walk_step n lo hi out Goal c (Running (moved c i)) (omega (arith, from, now.at_line)) now.output refl
      (λ next step. performed globals stack c r w now.view i next safe (performs_now k out input r w c i next now stands (safe_ordinary globals stack i r safe) step))
      (walk_from n (suc c.line) (k + 1) hi out Goal (Running (moved c i)) (omega (arith, now.at_line))
      (goes (moved_now k out input r w c i now fits (moved_view globals stack c r w now.view i safe))))

  -- A sequence of instructions that do not trap, followed by a walk (stretch of a run), is a walk. The relation `View` for the final state
  -- of a walk (it has these registers and this memory) does not depend on the next line.
  pub walk_block : {Late : State → Type 0} (is : List Instr) (n k lo hi : ℕ) (out input : List ℕ) (Goal : State → Type 0) (r : Words) (w : Contents) (c : Configuration)
      → Now k out input r w c → Stands code k (ordinary is) → AreSafe globals stack is r w → lo ≤ k
      → ((d : Configuration) → Now (k + length is) out input (after_r is r w) (after_w is r w) d → Walk n (k + length is) hi out Late Goal (Running d))
      → Walk (length is + n) lo hi out Late Goal (Running c)
  walk_block [] n k lo hi out input Goal r w c now stands safe from goes =
      walk_few (0 + n) n lo hi out Goal (Running c) (omega arith)
      (walk_from n lo (k + 0) hi out Goal (Running c) (omega arith) (goes c (now_at k (k + 0) out input r w c (omega arith) now)))
  walk_block (i ∷ is) n k lo hi out input Goal r w c now (stands, rest) (safe, others) from goes =
      walk_few (suc (length is) + n) (suc (length is + n)) lo hi out Goal (Running c) (omega arith)
      (walk_one i (length is + n) k lo hi out input Goal r w c now stands safe from
      (λ after.
      walk_block is n (k + 1) (k + 1) hi out input Goal (does_r i r w) (does_w i r w) (moved c i) after rest others (omega arith)
      (λ d later.
      walk_from n (k + 1 + length is) (k + suc (length is)) hi out Goal (Running d) (omega arith)
      (goes d (now_at (k + 1 + length is) (k + suc (length is)) out input _ _ d (omega arith) later)))))

  -- ---- words of live blocks

  -- An instruction that loads a word of a live block into a register, followed by a walk (stretch of a run), is a walk.
  pub walk_load : {Late : State → Type 0} (width : Width) (n k lo hi : ℕ) (out input : List ℕ) (Goal : State → Type 0) (r : Words) (w : Contents) (c : Configuration) (target base : Register) (offset word : ℕ)
      → Now k out input r w c → slice_get code.lines k ≡ Some (lines.Ordinary (Memory (load_op width) target base offset)) → lo ≤ k → IsWritable target.number
      → IsLive w.store (word_place width (memory_address (r base.number) offset)) word → IsWord word
      → ((d : Configuration) → Now (k + 1) out input (put r target.number (loaded_part width (memory_address (r base.number) offset) word)) w d → Walk n (suc k) hi out Late Goal (Running d))
      → Walk (suc n) lo hi out Late Goal (Running c)
  walk_load width n k lo hi out input Goal r w c target base offset word now stands from writable live is_word rest =
      let i : Instr = Memory (load_op width) target base offset in
      walk_step n lo hi out Goal c (Running (moved c i)) (omega (arith, from, now.at_line)) now.output refl
      (λ next step. loads_live globals stack c r w now.view width target base offset word next live (performs_now k out input r w c i next now stands refl step))
      (walk_from n (suc c.line) (suc k) hi out Goal (Running (moved c i)) (omega (arith, now.at_line))
      (rest (moved c i) (record {
        view = loaded_view globals stack c r w now.view width target base offset word writable live;
        r_words = put_words r target.number _ now.r_words (part_word width (memory_address (r base.number) offset) word is_word);
        w_words = now.w_words;
        at_line = ap (λ (x : ℕ). x + 1) now.at_line;
        output = now.output;
        input = now.input;
      })))

  -- An instruction that stores to a word of a live block, followed by a walk (stretch of a run), is a walk.
  pub walk_save : {Late : State → Type 0} (width : Width) (n k lo hi : ℕ) (out input : List ℕ) (Goal : State → Type 0) (r : Words) (w : Contents) (c : Configuration) (source base : Register) (offset old : ℕ)
      → Now k out input r w c → slice_get code.lines k ≡ Some (lines.Ordinary (Memory (store_op width) source base offset)) → lo ≤ k
      → IsLive w.store (word_place width (memory_address (r base.number) offset)) old
      → ((d : Configuration) → Now (k + 1) out input r (saved_in w (word_place width (memory_address (r base.number) offset)) (stored_word width (memory_address (r base.number) offset) old (r source.number))) d → Walk n (suc k) hi out Late Goal (Running d))
      → Walk (suc n) lo hi out Late Goal (Running c)
  walk_save width n k lo hi out input Goal r w c source base offset old now stands from live rest =
      let i : Instr = Memory (store_op width) source base offset in
      walk_step n lo hi out Goal c (Running (moved c i)) (omega (arith, from, now.at_line)) now.output refl
      (λ next step. stores_live globals stack c r w now.view width source base offset old next live (performs_now k out input r w c i next now stands refl step))
      (walk_from n (suc c.line) (suc k) hi out Goal (Running (moved c i)) (omega (arith, now.at_line))
      (rest (moved c i) (record {
        view = saved_view globals stack c r w now.view width source base offset old live;
        r_words = now.r_words;
        w_words = now.w_words;
        at_line = ap (λ (x : ℕ). x + 1) now.at_line;
        output = now.output;
        input = now.input;
      })))

  -- ---- branches, jumps, calls and returns

  pub at_now : (k j : ℕ) (out input : List ℕ) (r : Words) (w : Contents) (c : Configuration) → Now k out input r w c → Now j out input r w (at c j)
  at_now k j out input r w c now = record { view = view_at globals stack c r w now.view j; r_words = now.r_words; w_words = now.w_words; at_line = refl; output = now.output; input = now.input }

  holds_now : (k : ℕ) (out input : List ℕ) (r : Words) (w : Contents) (c : Configuration) → Now k out input r w c → (condition : Condition) → holds_of (word_in c) condition ≡ holds_of r condition
  holds_now k out input r w c now (conditions.Registers op left right) =
      ap (λ (x : ℕ). branch_taken op x (word_in c right.number)) (now.view.reg left.number left.in_range) ∙ ap (branch_taken op (r left.number)) (now.view.reg right.number right.in_range)
  holds_now k out input r w c now (conditions.Sign op source) = ap (branch_zero_taken op) (now.view.reg source.number source.in_range)

  pub walk_branch_to : {Late : State → Type 0} (n k lo hi : ℕ) (out input : List ℕ) (Goal : State → Type 0) (r : Words) (w : Contents) (c : Configuration) (condition : Condition) (label target : ℕ)
      → Now k out input r w c → slice_get code.lines k ≡ Some (lines.Branch condition label) → lo ≤ k
      → (if holds_of r condition then label else k + 1) ≡ target
      → (Now target out input r w (at c target) → Walk n (suc k) hi out Late Goal (Running (at c target)))
      → Walk (suc n) lo hi out Late Goal (Running c)
  walk_branch_to n k lo hi out input Goal r w c condition label target now stands from goes_to rest =
      let there : (if holds_of (word_in c) condition then label else c.line + 1) ≡ target =
      ap (λ (b : Bool). if b then label else c.line + 1) (holds_now k out input r w c now condition)
      ∙ (ap (λ (x : ℕ). if holds_of r condition then label else x + 1) now.at_line ∙ goes_to) in
      walk_step n lo hi out Goal c (Running (at c target)) (omega (arith, from, now.at_line)) now.output refl
      (λ next step.
      executes_line c (lines.Branch condition label) next (stands_now k out input r w c (lines.Branch condition label) now stands) step
      ∙ ap (λ (x : ℕ). Running (at c x)) there)
      (walk_from n (suc c.line) (suc k) hi out Goal (Running (at c target)) (omega (arith, now.at_line)) (rest (at_now k target out input r w c now)))

  pub walk_branch : {Late : State → Type 0} (n k lo hi : ℕ) (out input : List ℕ) (Goal : State → Type 0) (r : Words) (w : Contents) (c : Configuration) (condition : Condition) (label target : ℕ)
      → Now k out input r w c → slice_get code.lines k ≡ Some (lines.Branch condition label) → lo ≤ k
      → (if holds_of r condition then label else k + 1) ≡ target
      → ((d : Configuration) → Now target out input r w d → Walk n (suc k) hi out Late Goal (Running d))
      → Walk (suc n) lo hi out Late Goal (Running c)
  walk_branch n k lo hi out input Goal r w c condition label target now stands from goes_to rest =
      walk_branch_to n k lo hi out input Goal r w c condition label target now stands from goes_to (λ after. rest (at c target) after)

  pub walk_jump : {Late : State → Type 0} (n k lo hi : ℕ) (out input : List ℕ) (Goal : State → Type 0) (r : Words) (w : Contents) (c : Configuration) (label : ℕ)
      → Now k out input r w c → slice_get code.lines k ≡ Some (lines.Jump label) → lo ≤ k
      → ((d : Configuration) → Now label out input r w d → Walk n (suc k) hi out Late Goal (Running d))
      → Walk (suc n) lo hi out Late Goal (Running c)
  walk_jump n k lo hi out input Goal r w c label now stands from rest =
      walk_step n lo hi out Goal c (Running (at c label)) (omega (arith, from, now.at_line)) now.output refl
      (λ next step. executes_line c (lines.Jump label) next (stands_now k out input r w c (lines.Jump label) now stands) step)
      (walk_from n (suc c.line) (suc k) hi out Goal (Running (at c label)) (omega (arith, now.at_line)) (rest (at c label) (at_now k label out input r w c now)))

  pub walk_call : {Late : State → Type 0} (n k lo hi : ℕ) (out input : List ℕ) (Goal : State → Type 0) (r : Words) (w : Contents) (c : Configuration) (label : ℕ)
      → Now k out input r w c → slice_get code.lines k ≡ Some (lines.Call label) → lo ≤ k → IsWord (addresses (k + 1))
      → ((d : Configuration) → Now label out input (put r RETURN_ADDRESS (addresses (k + 1))) w d → Walk n (suc k) hi out Late Goal (Running d))
      → Walk (suc n) lo hi out Late Goal (Running c)
  walk_call n k lo hi out input Goal r w c label now stands from word rest =
      let view = view_put globals stack c r w now.view RETURN_ADDRESS (addresses (c.line + 1)) (addresses (k + 1)) label (omega arith) refl (ap (λ (x : ℕ). addresses (x + 1)) now.at_line) in
      walk_step n lo hi out Goal c (Running (at (linked addresses c) label)) (omega (arith, from, now.at_line)) now.output refl
      (λ next step. executes_line c (lines.Call label) next (stands_now k out input r w c (lines.Call label) now stands) step)
      (walk_from n (suc c.line) (suc k) hi out Goal (Running (at (linked addresses c) label)) (omega (arith, now.at_line))
      (rest (at (linked addresses c) label) (record { view = view; r_words = put_words r RETURN_ADDRESS (addresses (k + 1)) now.r_words word; w_words = now.w_words; at_line = refl; output = now.output; input = now.input })))

  pub walk_return : {Late : State → Type 0} (n k lo hi : ℕ) (out input : List ℕ) (Goal : State → Type 0) (r : Words) (w : Contents) (c : Configuration) (line : ℕ)
      → AreAddresses code addresses → Now k out input r w c → slice_get code.lines k ≡ Some lines.Return → lo ≤ k → IsReturnPoint code line → r RETURN_ADDRESS ≡ addresses line
      → ((d : Configuration) → Now line out input r w d → Walk n (suc k) hi out Late Goal (Running d))
      → Walk (suc n) lo hi out Late Goal (Running c)
  walk_return n k lo hi out input Goal r w c line lie now stands from point is_address rest =
      let holds : word_in c RETURN_ADDRESS ≡ addresses line = now.view.reg RETURN_ADDRESS (omega arith) ∙ is_address in
      walk_step n lo hi out Goal c (Running (at c line)) (omega (arith, from, now.at_line)) now.output refl
      (λ next step. elim (executes_line c lines.Return next (stands_now k out input r w c lines.Return now stands) step) [
        | inl (other, found, lies, is) ↦ is ∙ ap (λ (x : ℕ). Running (at c x)) (lie.apart other line found point (lies ∙ holds))
        | inr (nowhere, is) ↦ absurd (nowhere line point (sym holds))
      ])
      (walk_from n (suc c.line) (suc k) hi out Goal (Running (at c line)) (omega (arith, now.at_line)) (rest (at c line) (at_now k line out input r w c now)))

  -- ---- services

  syscall_now : (k : ℕ) (out input : List ℕ) (r : Words) (w : Contents) (c : Configuration) (next : State) → Now k out input r w c → slice_get code.lines k ≡ Some (lines.Ordinary syscall)
      → Step code addresses (Running c) next → Performs c syscall next
  syscall_now k out input r w c next now stands step = performs_now k out input r w c syscall next now stands refl step

  -- After the `syscall` that reads a byte, the walk (stretch of a run) is late: the effect of the plain program's step,
  -- the read, is visible.
  pub walk_get : {Late : State → Type 0} (n k lo hi : ℕ) (out input : List ℕ) (Goal : State → Type 0) (r : Words) (w : Contents) (c : Configuration)
      → Now k out input r w c → slice_get code.lines k ≡ Some (lines.Ordinary syscall) → lo ≤ k → r 2 ≡ 1 → IsWord (byte_of input)
      → ((t : State) → status_of t ≡ simulation.Running → output_of t ≡ out → input_of t ≡ drop 1 input → Late t)
      → ((d : Configuration) → Now (k + 1) out (drop 1 input) (put r 2 (byte_of input)) w d → Walk n (suc k) hi out Late Goal (Running d))
      → Walk (suc n) lo hi out Late Goal (Running c)
  walk_get {Late} n k lo hi out input Goal r w c now stands from number word late rest =
      let view = view_put globals stack c r w now.view 2 (byte_of c.input) (byte_of input) (c.line + 1) (omega arith) refl (ap byte_of now.input) in
      let following : Walk n (suc k) hi out Late Goal (Running (given_byte c)) =
      rest (given_byte c) (record { view = view_seen globals stack _ _ w view (c.line + 1) c.output (drop 1 c.input); r_words = put_words r 2 (byte_of input) now.r_words word; w_words = now.w_words; at_line = ap (λ (x : ℕ). x + 1) now.at_line; output = now.output; input = ap (drop 1) now.input }) in
      record {
        places = k ∷ following.places;
        enough = omega (arith, following.enough);
        rises = (from, following.rises);
        comes = (
          now.at_line,
          inl (refl, now.output, refl),
          λ next step.
              subst (λ (t : State). Comes (machine code addresses) (Quiet out c.input Late) Goal following.places t)
              (sym (gets_byte c (trap_code_of 0) next (now.view.reg 2 (omega arith) ∙ number) (syscall_now k out input r w c next now stands step)))
              (comes_map (machine code addresses) (Quiet out (drop 1 c.input) Late) Goal (Quiet out c.input Late) Goal following.places (Running (given_byte c))
              (λ t shown. inr (is_late t shown)) (λ t goal. goal) following.comes),
        );
      }
    where
      is_late : (t : State) → Quiet out (drop 1 c.input) Late t → Late t
      is_late t (inl (running, output, left)) = late t running output (left ∙ ap (drop 1) now.input)
      is_late t (inr already) = already

  -- The walk (stretch of a run) reaches its goal as soon as the `syscall` prints a byte or the run ends.
  pub walk_put : {Late : State → Type 0} (k lo hi : ℕ) (out input : List ℕ) (Goal : State → Type 0) (r : Words) (w : Contents) (c : Configuration)
      → Now k out input r w c → slice_get code.lines k ≡ Some (lines.Ordinary syscall) → lo ≤ k → suc k ≤ hi → r 2 ≡ 2
      → ((d : Configuration) → Now (k + 1) (out ++ r 4 % 256 ∷ []) input r w d → Goal (Running d))
      → Walk 1 lo hi out Late Goal (Running c)
  walk_put k lo hi out input Goal r w c now stands from below number rest =
      walk_step 0 lo hi out Goal c (Running (printed_byte c)) (omega (arith, from, now.at_line)) now.output refl
      (λ next step. puts_byte c (trap_code_of 0) next (now.view.reg 2 (omega arith) ∙ number) (syscall_now k out input r w c next now stands step))
      (walk_end (suc c.line) hi out Goal (Running (printed_byte c)) (omega (arith, below, now.at_line))
      (rest (printed_byte c) (record {
        view = view_seen globals stack c r w now.view (c.line + 1) (c.output ++ word_in c 4 % 256 ∷ []) c.input;
        r_words = now.r_words;
        w_words = now.w_words;
        at_line = ap (λ (x : ℕ). x + 1) now.at_line;
        output = ap (λ (l : List ℕ). l ++ word_in c 4 % 256 ∷ []) now.output ∙ ap (λ (x : ℕ). out ++ x % 256 ∷ []) (now.view.reg 4 (omega arith));
        input = now.input;
      })))

  ended_as : (k : ℕ) (out input : List ℕ) (r : Words) (w : Contents) (c : Configuration) (ending ended : Ending) → Now k out input r w c → ending ≡ ended
      → Ended ending c.output c.input ≡ Ended ended out input
  ended_as k out input r w c ending ended now same =
      ap (λ (e : Ending). Ended e c.output c.input) same
      ∙ (ap (λ (l : List ℕ). Ended ended l c.input) now.output ∙ ap (λ (l : List ℕ). Ended ended out l) now.input)

  pub walk_returned : {Late : State → Type 0} (k lo hi : ℕ) (out input : List ℕ) (Goal : State → Type 0) (r : Words) (w : Contents) (c : Configuration)
      → Now k out input r w c → slice_get code.lines k ≡ Some (lines.Ordinary syscall) → lo ≤ k → suc k ≤ hi → r 2 ≡ 3
      → Goal (Ended (Returned (signed (r 4))) out input) → Walk 1 lo hi out Late Goal (Running c)
  walk_returned k lo hi out input Goal r w c now stands from below number goal =
      walk_step 0 lo hi out Goal c (Ended (Returned (signed (r 4))) out input) (omega (arith, from, now.at_line)) now.output (sym now.input)
      (λ next step.
      ends_returned c (trap_code_of 0) next (now.view.reg 2 (omega arith) ∙ number) (syscall_now k out input r w c next now stands step)
      ∙ ended_as k out input r w c _ _ now (ap (λ (x : ℕ). Returned (signed x)) (now.view.reg 4 (omega arith))))
      (walk_end (suc c.line) hi out Goal _ (omega (arith, below, now.at_line)) goal)

  pub walk_uncaught : {Late : State → Type 0} (k lo hi : ℕ) (out input : List ℕ) (Goal : State → Type 0) (r : Words) (w : Contents) (c : Configuration)
      → Now k out input r w c → slice_get code.lines k ≡ Some (lines.Ordinary syscall) → lo ≤ k → suc k ≤ hi → r 2 ≡ 4
      → Goal (Ended (Uncaught (r 4) (signed (r 5))) out input) → Walk 1 lo hi out Late Goal (Running c)
  walk_uncaught k lo hi out input Goal r w c now stands from below number goal =
      walk_step 0 lo hi out Goal c (Ended (Uncaught (r 4) (signed (r 5))) out input) (omega (arith, from, now.at_line)) now.output (sym now.input)
      (λ next step.
      ends_uncaught c (trap_code_of 0) next (now.view.reg 2 (omega arith) ∙ number) (syscall_now k out input r w c next now stands step)
      ∙ ended_as k out input r w c _ _ now
      (ap (λ (x : ℕ). Uncaught x (signed (word_in c 5))) (now.view.reg 4 (omega arith)) ∙ ap (λ (x : ℕ). Uncaught (r 4) (signed x)) (now.view.reg 5 (omega arith))))
      (walk_end (suc c.line) hi out Goal _ (omega (arith, below, now.at_line)) goal)

  pub walk_full : {Late : State → Type 0} (k lo hi : ℕ) (out input : List ℕ) (Goal : State → Type 0) (r : Words) (w : Contents) (c : Configuration)
      → Now k out input r w c → slice_get code.lines k ≡ Some (lines.Ordinary syscall) → lo ≤ k → suc k ≤ hi → r 2 ≡ 11
      → Goal (Ended Full out input) → Walk 1 lo hi out Late Goal (Running c)
  walk_full k lo hi out input Goal r w c now stands from below number goal =
      walk_step 0 lo hi out Goal c (Ended Full out input) (omega (arith, from, now.at_line)) now.output (sym now.input)
      (λ next step.
      ends_full c (trap_code_of 0) next (now.view.reg 2 (omega arith) ∙ number) (syscall_now k out input r w c next now stands step)
      ∙ ended_as k out input r w c _ _ now refl)
      (walk_end (suc c.line) hi out Goal _ (omega (arith, below, now.at_line)) goal)

  -- ---- requests to the store

  -- Returns the line numbers of a sequence of instructions that begins at line `k`.
  abbrev pub lines_from : ℕ → List Instr → List ℕ
  lines_from k [] = []
  lines_from k (i ∷ is) = k ∷ lines_from (k + 1) is

  pub lines_rise : (is : List Instr) (lo k hi : ℕ) → lo ≤ k → k + length is ≤ hi → Rises lo hi (lines_from k is)
  lines_rise [] lo k hi from below = omega (arith, from, below)
  lines_rise (i ∷ is) lo k hi from below = (from, lines_rise is (suc k) (k + 1) hi (omega arith) (omega (arith, below)))

  -- A sequence of instructions that do not trap ends a stretch of a run if the state after the sequence satisfies the stretch's goal.
  pub comes_block : (Late : State → Type 0) (is : List Instr) (k : ℕ) (out input : List ℕ) (Goal : State → Type 0) (r : Words) (w : Contents) (c : Configuration)
      → Now k out input r w c → Stands code k (ordinary is) → AreSafe globals stack is r w
      → ((d : Configuration) → Now (k + length is) out input (after_r is r w) (after_w is r w) d → Goal (Running d))
      → Comes (machine code addresses) (Quiet out input Late) Goal (lines_from k is) (Running c)
  comes_block Late [] k out input Goal r w c now stands safe goes = goes c (now_at k (k + 0) out input r w c (omega arith) now)
  comes_block Late (i ∷ is) k out input Goal r w c now (stands, rest) (safe, others) goes =
      let ordinary_one = safe_ordinary globals stack i r safe in
      let view = moved_view globals stack c r w now.view i safe in
      let fits = (All_at (IsFormedLine (length code.lines)) code.lines k (lines.Ordinary i) formed stands).1 in (
        now.at_line,
        inl (refl, now.output, now.input),
        λ next step.
            subst (Comes (machine code addresses) (Quiet out input Late) Goal (lines_from (k + 1) is))
            (sym (performed globals stack c r w now.view i next safe (performs_now k out input r w c i next now stands ordinary_one step)))
            (comes_block Late is (k + 1) out input Goal (does_r i r w) (does_w i r w) (moved c i) (moved_now k out input r w c i now fits view) rest others
            (λ d later. goes d (now_at (k + 1 + length is) (k + suc (length is)) out input _ _ d (omega arith) later))),
      )

  answered_words : (a : Answer) (r : Words) → AreWords r → HasAnswerWords a → AreWords (answered_r a r)
  answered_words (services.Refused why) r all words = all
  answered_words services.Done r all words = all
  answered_words (services.Opened handle) r all word = put_words r 2 handle all word
  answered_words (services.OpenedLexical handle mark) r all (first, second) = put_words (put r 2 handle) 3 mark (put_words r 2 handle all first) second
  answered_words (services.Allocated address) r all word = put_words r 2 address all word

  module _ (request : Request) (k lo hi : ℕ) (out input : List ℕ) (Goal : State → Type 0) (r : Words) (w : Contents) (c : Configuration) (call : Call) (store : StoreState)
      (now : Now k out input r w c) (stands : slice_get code.lines k ≡ Some (lines.Ordinary syscall)) (from : lo ≤ k)
      (number : r 2 ≡ service_number request) (is_call : call_by request (r 4) (r 5) ≡ call) (store_is : w.store ≡ store) where
    here : c.store ≡ store
    here = now.view.store ∙ store_is

    asks : asked_call request c ≡ call
    asks =
        ap (λ (x : ℕ). call_by request x (word_in c 5)) (now.view.reg 4 (omega arith))
        ∙ (ap (call_by request (r 4)) (now.view.reg 5 (omega arith)) ∙ is_call)

    refused : refusal c.store (asked_call request c) ≡ refusal store call
    refused = ap (refusal c.store) asks ∙ ap (λ (s : StoreState). refusal s call) here

    numbered : word_in c 2 ≡ service_number request
    numbered = now.view.reg 2 (omega arith) ∙ number

    -- A `syscall` whose call the store (the heap of regions) serves, followed by a walk (stretch of a run), is a walk. The MIPS lines
    -- visited after the call do not depend on the handle or address that the store chooses.
    pub walk_served : {Late : State → Type 0} (n : ℕ) (places : List ℕ) → refusal store call ≡ None
        → ((choice : services.Choice) → services.IsAllowed store call choice → HasAnswerWords (services.answer store call choice)) → n ≤ length places → Rises (suc k) hi places
        → ((choice : services.Choice) → services.IsAllowed store call choice → (d : Configuration)
        → Now (k + 1) out input (answered_r (services.answer store call choice) r) (record w { store = services.served store call choice }) d
        → Comes (machine code addresses) (Quiet out input Late) Goal places (Running d))
        → Walk (suc n) lo hi out Late Goal (Running c)
    walk_served {Late} n places free words enough rises rest = record {
      places = k ∷ places;
      enough = omega (arith, enough);
      rises = (from, rises);
      comes = subst (λ (left : List ℕ). Comes (machine code addresses) (Quiet out left Late) Goal (k ∷ places) (Running c)) (sym now.input) (
        now.at_line,
        inl (refl, now.output, now.input),
        λ next step.
            let (choice, allowed, is) = store_serves c (trap_code_of 0) next request numbered (refused ∙ free) (syscall_now k out input r w c next now stands step) in
            let may : services.IsAllowed store call choice =
            subst (λ (s : StoreState). services.IsAllowed s call choice) here (subst (λ (a : Call). services.IsAllowed c.store a choice) asks allowed) in
            let answer_is : services.answer c.store (asked_call request c) choice ≡ services.answer store call choice =
            ap (λ (a : Call). services.answer c.store a choice) asks ∙ ap (λ (s : StoreState). services.answer s call choice) here in
            let leaves : services.served c.store (asked_call request c) choice ≡ services.served store call choice =
            ap (λ (a : Call). services.served c.store a choice) asks ∙ ap (λ (s : StoreState). services.served s call choice) here in
            let given : Answer = services.answer c.store (asked_call request c) choice in
            let left : Configuration = given_answer c (services.answer c.store (asked_call request c) choice) (services.served c.store (asked_call request c) choice) in
            let following : Now (k + 1) out input (answered_r (services.answer c.store (asked_call request c) choice) r) (record w { store = services.served store call choice })
            (given_answer c (services.answer c.store (asked_call request c) choice) (services.served c.store (asked_call request c) choice)) =
            record {
              view = view_answered globals stack c r w now.view (services.answer c.store (asked_call request c) choice) (c.line + 1) (services.served store call choice) (services.served c.store (asked_call request c) choice) leaves;
              r_words = answered_words (services.answer c.store (asked_call request c) choice) r now.r_words (subst HasAnswerWords (sym answer_is) (words choice may));
              w_words = now.w_words;
              at_line = ap (λ (x : ℕ). x + 1) now.at_line;
              output = now.output;
              input = now.input;
            } in
            subst (Comes (machine code addresses) (Quiet out input Late) Goal places) (sym is)
            (rest choice may left
            (now_is (k + 1) out input (answered_r given r) (record w { store = services.served store call choice }) (answered_r (services.answer store call choice) r) (record w { store = services.served store call choice }) left
            (ap (λ (a : Answer). answered_r a r) answer_is) refl following)),
      );
    }

    -- The run ends if the store (the heap of regions) has no memory left for the result of the system call.
    pub walk_no_room : {Late : State → Type 0} → suc k ≤ hi → refusal store call ≡ Some services.Full → Goal (Ended Full out input) → Walk 1 lo hi out Late Goal (Running c)
    walk_no_room below full goal =
        walk_step 0 lo hi out Goal c (Ended Full out input) (omega (arith, from, now.at_line)) now.output (sym now.input)
        (λ next step.
        store_is_full c (trap_code_of 0) next request numbered (refused ∙ full) (syscall_now k out input r w c next now stands step)
        ∙ ended_as k out input r w c _ _ now refl)
        (walk_end (suc c.line) hi out Goal _ (omega (arith, below, now.at_line)) goal)
