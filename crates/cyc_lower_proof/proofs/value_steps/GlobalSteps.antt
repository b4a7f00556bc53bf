-- This file moves a value word by word from a global to slots, or from slots to a global.
use Rattle.std.proofs.Common.{◌≡◌, ℕ, zero, suc, ◌+◌, ◌≤◌, ◌<◌, List, [], ◌∷◌, length, refl, sym, ap, subst, ◌∙◌, arith, inl, inr}
use Rattle.cyc_types.specs.TypedTrees.{Program}
use Rattle.cyc_plain.specs.declared.instruction.Instruction.TheVariants as instructions
use Rattle.cyc_plain.specs.declared.instruction.Operand.{Operand}
use Rattle.cyc_plain.specs.declared.instruction.Operand.TheVariants as operands
use Rattle.cyc_plain.specs.inside.State.{Words, put, Configuration}
use Rattle.cyc_plain.specs.inside.State as plain
use Rattle.cyc_plain.specs.inside.Step.{Choice, with_slots, advanced, at, performed}
use Rattle.cyc_plain.specs.inside.Straight.{At}
use Rattle.cyc_plain.proofs.SlotLaws.{put-same, put-other}
use Rattle.cyc_meaning.specs.Values.{Operand as Kinded, words_of_kind}
use Rattle.cyc_meaning.specs.State.{World, Environment, Entry, Focus, State, Running}
use Rattle.cyc_meaning.specs.Step.{step}
use Rattle.cyc_memory_relation.specs.inside.Tables.{Tables}
use Rattle.cyc_memory_relation.specs.inside.Words.{Is}
use Rattle.cyc_lower_proof.specs.inside.ValueCode.{load_word, store_word}
use Rattle.cyc_lower_proof.specs.inside.Lowering.{lower_program}
use Rattle.cyc_lower_proof.proofs.slots.Widths.{Outside}
use Rattle.cyc_lower_proof.proofs.relation.code.Stands.{EachAt, GlobalAt}
use Rattle.cyc_lower_proof.proofs.relation.contents.HeldValues.{IsIn}
use Rattle.cyc_lower_proof.proofs.relation.simulation.Relation.{SharedAt, Matches}
use Rattle.cyc_lower_proof.proofs.relation.simulation.Stacks.{code_of}
use Rattle.cyc_lower_proof.proofs.relation.contents.Data.{Is-same, IsWord-is}
use Rattle.cyc_lower_proof.proofs.relation.contents.Moves.{put_elsewhere}
use Rattle.cyc_lower_proof.proofs.relation.simulation.Matched.{IsMatched}
use Rattle.cyc_lower_proof.proofs.relation.simulation.Paths.{Link, is_quiet, IsQuiet, end_of, IsPath, by_path}

-- ---- words

-- The map `to` from slots to words, after words of the map `from` have been copied into it one by one.
abbrev pub each_put : (from to : Words) → (words source d : ℕ) → Words
each_put from to zero source d = to
each_put from to (suc words) source d = each_put from (put to d (from source)) words (suc source) (suc d)

-- Copying words one by one leaves all words outside the destination unchanged.
pub each-outside : (from to : Words) (words source d m : ℕ) → Outside d words m → each_put from to words source d m ≡ to m
each-outside from to zero source d m out = refl
each-outside from to (suc words) source d m (inl below) =
    each-outside from (put to d (from source)) words (suc source) (suc d) m (inl (omega (arith, below))) ∙ put-other to d m (from source) (λ same. omega (arith, same, below))
each-outside from to (suc words) source d m (inr above) =
    each-outside from (put to d (from source)) words (suc source) (suc d) m (inr (omega (arith, above))) ∙ put-other to d m (from source) (λ same. omega (arith, same, above))

pub each-inside : (from to : Words) (words source d i : ℕ) → i < words → each_put from to words source d (d + i) ≡ from (source + i)
each-inside from to zero source d i below = absurd (omega (arith, below))
each-inside from to (suc words) source d zero below =
    let here : d + 0 ≡ d = omega arith in
    let there : source ≡ source + 0 = omega arith in
    ap (each_put from (put to d (from source)) words (suc source) (suc d)) here
    ∙ each-outside from (put to d (from source)) words (suc source) (suc d) d (inl (omega arith))
    ∙ put-same to d (from source)
    ∙ ap from there
each-inside from to (suc words) source d (suc i) below =
    let here : d + suc i ≡ suc d + i = omega arith in
    let there : suc source + i ≡ source + suc i = omega arith in
    ap (each_put from (put to d (from source)) words (suc source) (suc d)) here
    ∙ each-inside from (put to d (from source)) words (suc source) (suc d) i (omega (arith, below))
    ∙ ap from there

-- Words that were copied one by one represent the value of the original words.
pub each_is : (t : Tables) (v : Kinded) (from to : Words) (words source d : ℕ) → words_of_kind v.kind ≡ words → Is t v.kind v.value from source → Is t v.kind v.value (each_put from to words source d) d
each_is t v from to words source d same is =
    Is-same t v.kind v.value from (each_put from to words source d) source d (λ i below. each-inside from to words source d i (omega (arith, below, same))) is

-- the globals after a value has been stored from an operand
abbrev pub stored_globals : (slots globals : Words) → (words first : ℕ) → Operand → Words
stored_globals slots globals words first (operands.Slot n) = each_put slots globals words n first
stored_globals slots globals words first (operands.Word w) = put globals first w

pub stored_elsewhere : (slots globals : Words) (words first : ℕ) (o : Operand) (m : ℕ) → 1 ≤ words → Outside first words m → stored_globals slots globals words first o m ≡ globals m
stored_elsewhere slots globals words first (operands.Slot n) m some out = each-outside slots globals words n first m out
stored_elsewhere slots globals words first (operands.Word w) m some out = put_elsewhere globals first w words m some out

pub stored_is : (t : Tables) (v : Kinded) (slots globals : Words) (first : ℕ) (o : Operand) → IsIn t v slots o → Is t v.kind v.value (stored_globals slots globals (words_of_kind v.kind) first o) first
stored_is t v slots globals first (operands.Slot n) is = each_is t v slots globals (words_of_kind v.kind) n first refl is
stored_is t v slots globals first (operands.Word w) is = IsWord-is t v.kind v.value w (put globals first w) first (put-same globals first w) is

-- ---- instructions

abbrev with_loaded : Configuration → (first d : ℕ) → Configuration
with_loaded c first d = advanced (with_slots c (put c.active.slots d (c.globals first)))

abbrev with_global : Configuration → (first w : ℕ) → Configuration
with_global c first w = advanced (record c { globals = put c.globals first w })

abbrev pub load_links : Configuration → (words first d : ℕ) → List Link
load_links c zero first d = []
load_links c (suc words) first d = record { instruction = load_word first d; following = with_loaded c first d } ∷ load_links (with_loaded c first d) words (suc first) (suc d)

abbrev save_links : Configuration → (words first n : ℕ) → List Link
save_links c zero first n = []
save_links c (suc words) first n =
    record { instruction = store_word first n; following = with_global c first (c.active.slots n) } ∷ save_links (with_global c first (c.active.slots n)) words (suc first) (suc n)

abbrev pub global_links : Configuration → (words first : ℕ) → Operand → List Link
global_links c words first (operands.Slot n) = save_links c words first n
global_links c words first (operands.Word w) = record { instruction = instructions.StoreGlobal first (operands.Word w); following = with_global c first w } ∷ []

-- The configuration at the end of the instructions that load a global.
pub load_end : (c : Configuration) (words first d : ℕ) → end_of c (load_links c (suc words) first d) ≡ advanced (with_slots (at c (c.active.next + words)) (each_put c.globals c.active.slots (suc words) first d))
load_end c zero first d = ap (λ (n : ℕ). advanced (with_slots (at c n) (put c.active.slots d (c.globals first)))) (let e : c.active.next ≡ c.active.next + 0 = omega arith in e)
load_end c (suc words) first d =
    load_end (with_loaded c first d) words (suc first) (suc d)
    ∙ ap (λ (n : ℕ). advanced (with_slots (at c n) (each_put c.globals c.active.slots (suc (suc words)) first d))) (let e : c.active.next + 1 + words ≡ c.active.next + suc words = omega arith in e)

save_end : (c : Configuration) (words first n : ℕ) → end_of c (save_links c (suc words) first n) ≡ advanced (record (at c (c.active.next + words)) { globals = each_put c.active.slots c.globals (suc words) n first })
save_end c zero first n = ap (λ (m : ℕ). advanced (record (at c m) { globals = put c.globals first (c.active.slots n) })) (let e : c.active.next ≡ c.active.next + 0 = omega arith in e)
save_end c (suc words) first n =
    save_end (with_global c first (c.active.slots n)) words (suc first) (suc n)
    ∙ ap (λ (m : ℕ). advanced (record (at c m) { globals = each_put c.active.slots c.globals (suc (suc words)) n first })) (let e : c.active.next + 1 + words ≡ c.active.next + suc words = omega arith in e)

module _ (source : Program) where
  pub load_path : (c : Configuration) (words first d q : ℕ) → EachAt (code_of source c.active.function) load_word words first d c.active.next q
      → IsPath source c (load_links c words first d) × (c.active.next + words ≡ q)
  load_path c zero first d q end = (tt, omega (arith, end))
  load_path c (suc words) first d q (here, rest) =
      let (path, end) = load_path (with_loaded c first d) words (suc first) (suc d) q rest in
      ((here, (λ choice. refl), omega arith, is_quiet c (with_loaded c first d).active, path), omega (arith, end))

  global_quiet : (c : Configuration) (first w : ℕ) → IsQuiet c (with_global c first w)
  global_quiet c first w = record { seen = refl; demand = refl; frames = refl }

  save_path : (c : Configuration) (words first n q : ℕ) → EachAt (code_of source c.active.function) store_word words first n c.active.next q
      → IsPath source c (save_links c words first n) × (c.active.next + words ≡ q)
  save_path c zero first n q end = (tt, omega (arith, end))
  save_path c (suc words) first n q (here, rest) =
      let (path, end) = save_path (with_global c first (c.active.slots n)) words (suc first) (suc n) q rest in
      ((here, (λ choice. refl), omega arith, global_quiet c first (c.active.slots n), path), omega (arith, end))

  -- A value is stored in a global by at least one instruction, and execution continues after the last of the instructions that store it.
  pub record IsStoredBy (c : Configuration) (words first : ℕ) (o : Operand) (q : ℕ) : Type 0 where
    pub last : ℕ
    pub some : 0 < length (global_links c words first o)
    pub path : IsPath source c (global_links c words first o)
    pub leads : end_of c (global_links c words first o) ≡ advanced (record (at c last) { globals = stored_globals c.active.slots c.globals words first o })
    pub end : last + 1 ≡ q

  pub is_stored_by : (c : Configuration) (words first : ℕ) (o : Operand) (q : ℕ) → 1 ≤ words → GlobalAt (code_of source c.active.function) words first o c.active.next q
      → IsStoredBy c words first o q
  is_stored_by c zero first (operands.Slot n) q some at_c = absurd (omega (arith, some))
  is_stored_by c (suc words) first (operands.Slot n) q some at_c =
      let (path, end) = save_path c (suc words) first n q at_c in
      record { last = c.active.next + words; some = omega arith; path = path; leads = save_end c words first n; end = omega (arith, end) }
  is_stored_by c words first (operands.Word w) q some (here, end) =
      record { last = c.active.next; some = omega arith; path = (here, (λ choice. refl), omega arith, global_quiet c first w, tt); leads = refl; end = end }

  -- ---- a path whose last instruction ends the step

  abbrev front_links : Link → List Link → List Link
  front_links l [] = []
  front_links l (m ∷ links) = l ∷ front_links m links

  abbrev last_link : Link → List Link → Link
  last_link l [] = l
  last_link l (m ∷ links) = last_link m links

  path_front : (c : Configuration) (l : Link) (links : List Link) → IsPath source c (l ∷ links) → IsPath source c (front_links l links)
  path_front c l [] path = tt
  path_front c l (m ∷ links) (here, leads, on, quiet, path) = (here, leads, on, quiet, path_front l.following m links path)

  last_at : (c : Configuration) (l : Link) (links : List Link) → IsPath source c (l ∷ links)
      → At (code_of source (end_of c (front_links l links)).active.function) (end_of c (front_links l links)).active.next (last_link l links).instruction
  last_at c l [] (here, leads, on, quiet, path) = here
  last_at c l (m ∷ links) (here, leads, on, quiet, path) = last_at l.following m links path

  last_leads : (c : Configuration) (l : Link) (links : List Link) (choice : Choice) → IsPath source c (l ∷ links)
      → performed (lower_program source) choice (end_of c (front_links l links)) (last_link l links).instruction ≡ plain.Running (end_of c (l ∷ links))
  last_leads c l [] choice (here, leads, on, quiet, path) = leads choice
  last_leads c l (m ∷ links) choice (here, leads, on, quiet, path) = last_leads l.following m links choice path

module _ (source : Program) (pages calls : ℕ) where
  pub by_links : (focus : Focus) (k : List Entry) (e : Environment) (w : World) (c : Configuration) (next : State) (links : List Link) → 0 < length links
      → step source (Running focus k e w) ≡ next → SharedAt source pages calls k e w c → IsPath source c links → Matches source pages calls next (plain.Running (end_of c links))
      → IsMatched source pages calls (Running focus k e w) (plain.Running c)
  by_links focus k e w c next [] some does shared path matches = absurd (omega (arith, some))
  by_links focus k e w c next (l ∷ links) some does shared path matches =
      by_path source pages calls focus k e w c next (front_links source l links) (last_link source l links).instruction does shared (path_front source c l links path) (last_at source c l links path)
      (λ choice. subst (Matches source pages calls next) (sym (last_leads source c l links choice path)) matches)
