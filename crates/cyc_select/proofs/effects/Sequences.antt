-- Lemmas for traversals of code: ascending line numbers, the sequence of lines that the code contains from a line number
-- on, and consecutive ordinary instructions.
use Rattle.std.proofs.Common.{◌≡◌, ◌≢◌, ℕ, suc, ◌+◌, ◌<◌, ◌≤◌, ◌%◌, true, List, [], ◌∷◌, ◌++◌, length, Some, slice_get, refl, subst, arith}
use Rattle.std.specs.Prelude.{Contains}
use Rattle.std.specs.List.{AllByRecursion, range_with_len}
use Rattle.cyc_isa.specs.Effect.{memory_address, high_result}
use Rattle.cyc_isa.specs.declared.instr.Instr.{Instr}
use Rattle.cyc_isa.specs.declared.instr.Instr.TheVariants.{Immediate, LoadUpper, Memory, Branch, BranchZero, Jump, Shift, ShiftVariable, JumpRegister, JumpRegisterLink, Exception, MoveFrom, MultiplyDivide, Arithmetic}
use Rattle.cyc_isa.specs.declared.instr.MemoryOp.TheVariants.{LoadWord, StoreWord, LoadByte, StoreByte}
use Rattle.cyc_isa.specs.declared.instr.MoveFromOp.TheVariants.{High, Low}
use Rattle.cyc_words.specs.Bytes.{word_of}
use Rattle.cyc_words.proofs.WordBytesLemmas.{byte-small, with_byte-word}
use Rattle.cyc_words.specs.Simulation.{Machine}
use Rattle.cyc_words.specs.Distinct.{IsDistinct}
use Rattle.cyc_words.specs.inside.Following.{Comes}
use Rattle.cyc_plain.specs.inside.State.{Words, AreWords, put}
use Rattle.cyc_isa.specs.Encoding.{IsEncodable}
use Rattle.cyc_isa.proofs.EffectLemmas.{IsWord-immediate_result, IsWord-load_upper_result, IsWord-arithmetic_result, IsWord-shift_result, IsWord-low_result, IsWord-high_result}
use Rattle.cyc_plain.proofs.WordLaws.{put_words}
use Rattle.cyc_select.specs.declared.code.Line.{Line}
use Rattle.cyc_select.specs.inside.Labelled.{Labelled, is_ordinary}
use Rattle.cyc_words.specs.Word.{IsWord}
use Rattle.cyc_words.proofs.Ranges.{Contains-range}
use Rattle.cyc_select.specs.inside.Selection.{ordinary}
use Rattle.cyc_select.proofs.effects.Views.{Contents, Width, OneWord, OneByte, loaded_part, stored_word, does_r, does_w, IsSafe}

-- ---- ascending places

abbrev pub Rises : (lo hi : ℕ) → List ℕ → Type 0
Rises lo hi [] = lo ≤ hi
Rises lo hi (p ∷ places) = (lo ≤ p) × Rises (suc p) hi places

apart : (x lo hi : ℕ) (places : List ℕ) → x < lo → Rises lo hi places → AllByRecursion (λ (y : ℕ). x ≢ y) places
apart x lo hi [] below rises = tt
apart x lo hi (p ∷ places) below (first, rest) = ((λ e. absurd (omega (arith, e, first, below))), apart x (suc p) hi places (omega arith) rest)

pub rising_distinct : (lo hi : ℕ) (places : List ℕ) → Rises lo hi places → IsDistinct places
rising_distinct lo hi [] rises = tt
rising_distinct lo hi (p ∷ places) (first, rest) = (apart p (suc p) hi places (omega arith) rest, rising_distinct (suc p) hi places rest)

rising_below : (lo hi : ℕ) (places : List ℕ) → Rises lo hi places → lo ≤ hi
rising_below lo hi [] rises = rises
rising_below lo hi (p ∷ places) (first, rest) = omega (arith, first, rising_below (suc p) hi places rest)

pub rising_inside : (a n lo : ℕ) (places : List ℕ) → a ≤ lo → Rises lo (a + n) places → AllByRecursion (Contains (range_with_len a n)) places
rising_inside a n lo [] from rises = tt
rising_inside a n lo (p ∷ places) from (first, rest) =
    (Contains-range a n p (omega arith) (omega (arith, rising_below (suc p) (a + n) places rest)), rising_inside a n (suc p) places (omega arith) rest)

-- A stretch of a run stays a stretch of a run when its invariant and its final condition are weakened.
pub comes_map : (m : Machine) (Way Goal Way' Goal' : m.State → Type 0) (places : List m.Place) (s : m.State)
    → ((t : m.State) → Way t → Way' t) → ((t : m.State) → Goal t → Goal' t) → Comes m Way Goal places s → Comes m Way' Goal' places s
comes_map m Way Goal Way' Goal' [] s ways goals comes = goals s comes
comes_map m Way Goal Way' Goal' (p ∷ places) s ways goals (stands, way, goes) =
    (stands, ways s way, λ next step. comes_map m Way Goal Way' Goal' places next ways goals (goes next step))

-- ---- code at a line

abbrev pub Stands : Labelled → ℕ → List Line → Type 0
Stands code k [] = Unit {0}
Stands code k (l ∷ ls) = (slice_get code.lines k ≡ Some l) × Stands code (k + 1) ls

stands_to : (code : Labelled) (k j : ℕ) (ls : List Line) → k ≡ j → Stands code k ls → Stands code j ls
stands_to code k j ls same stands = subst (λ (n : ℕ). Stands code n ls) same stands

pub stands_front : (code : Labelled) (k : ℕ) (xs ys : List Line) → Stands code k (xs ++ ys) → Stands code k xs
stands_front code k [] ys stands = tt
stands_front code k (x ∷ xs) ys (first, rest) = (first, stands_front code (k + 1) xs ys rest)

pub stands_back : (code : Labelled) (k : ℕ) (xs ys : List Line) → Stands code k (xs ++ ys) → Stands code (k + length xs) ys
stands_back code k [] ys stands = stands_to code k (k + 0) ys (omega arith) stands
stands_back code k (x ∷ xs) ys (first, rest) = stands_to code (k + 1 + length xs) (k + suc (length xs)) ys (omega arith) (stands_back code (k + 1) xs ys rest)

-- If the code contains a sequence of lines from a line number on, then it also contains each nonempty prefix of this
-- sequence from the same line number on.
pub stands_until : (code : Labelled) (k : ℕ) (xs : List Line) (y : Line) (ys : List Line) → Stands code k (xs ++ y ∷ ys) → Stands code k (xs ++ y ∷ [])
stands_until code k [] y ys (first, rest) = (first, tt)
stands_until code k (x ∷ xs) y ys (first, rest) = (first, stands_until code (k + 1) xs y ys rest)

-- If ordinary instructions stand at a line, then each prefix of these instructions stands at the same line.
pub stands_first : (code : Labelled) (k : ℕ) (xs ys : List Instr) → Stands code k (ordinary (xs ++ ys)) → Stands code k (ordinary xs)
stands_first code k [] ys stands = tt
stands_first code k (x ∷ xs) ys (first, rest) = (first, stands_first code (k + 1) xs ys rest)

pub stands_after : (code : Labelled) (k : ℕ) (xs ys : List Instr) → Stands code k (ordinary (xs ++ ys)) → Stands code (k + length xs) (ordinary ys)
stands_after code k [] ys stands = stands_to code k (k + 0) (ordinary ys) (omega arith) stands
stands_after code k (x ∷ xs) ys (first, rest) = stands_to code (k + 1 + length xs) (k + suc (length xs)) (ordinary ys) (omega arith) (stands_after code (k + 1) xs ys rest)

-- ---- consecutive instructions

abbrev pub after_r : List Instr → (r : Words) (w : Contents) → Words
after_r [] r w = r
after_r (i ∷ is) r w = after_r is (does_r i r w) (does_w i r w)

abbrev pub after_w : List Instr → (r : Words) (w : Contents) → Contents
after_w [] r w = w
after_w (i ∷ is) r w = after_w is (does_r i r w) (does_w i r w)

abbrev pub AreSafe : (globals stack : ℕ) → List Instr → (r : Words) (w : Contents) → Type 0
AreSafe globals stack [] r w = Unit {0}
AreSafe globals stack (i ∷ is) r w = IsSafe globals stack i r × AreSafe globals stack is (does_r i r w) (does_w i r w)

pub after_r-append : (is js : List Instr) (r : Words) (w : Contents) → after_r (is ++ js) r w ≡ after_r js (after_r is r w) (after_w is r w)
after_r-append [] js r w = refl
after_r-append (i ∷ is) js r w = after_r-append is js (does_r i r w) (does_w i r w)

pub after_w-append : (is js : List Instr) (r : Words) (w : Contents) → after_w (is ++ js) r w ≡ after_w js (after_r is r w) (after_w is r w)
after_w-append [] js r w = refl
after_w-append (i ∷ is) js r w = after_w-append is js (does_r i r w) (does_w i r w)

-- The byte or word loaded from a machine word is itself a machine word. A machine word into which a byte or a word is
-- stored is still a machine word.
pub part_word : (width : Width) (address word : ℕ) → IsWord word → IsWord (loaded_part width address word)
part_word OneWord address word is = is
part_word OneByte address word is = let small = byte-small word (address % 4) in omega (arith, small)

pub stored_is_word : (width : Width) (address old word : ℕ) → IsWord old → IsWord word → IsWord (stored_word width address old word)
stored_is_word OneWord address old word before is = is
stored_is_word OneByte address old word before is = with_byte-word old (address % 4) (word % 256) before (omega arith)

pub does_words_r : (i : Instr) (r : Words) (w : Contents) → IsEncodable i → AreWords r → AreWords w.words → AreWords (does_r i r w)
does_words_r (Immediate op target source half) r w fits all mem = put_words r target.number _ all (IsWord-immediate_result op (r source.number) half (all source.number) fits)
does_words_r (LoadUpper target half) r w fits all mem = put_words r target.number _ all (IsWord-load_upper_result half fits)
does_words_r (Memory LoadWord target base offset) r w fits all mem = put_words r target.number _ all (mem (memory_address (r base.number) offset))
does_words_r (Memory StoreWord source base offset) r w fits all mem = all
does_words_r (Memory LoadByte target base offset) r w fits all mem =
    put_words r target.number _ all (part_word OneByte (memory_address (r base.number) offset) (w.words (word_of (memory_address (r base.number) offset))) (mem (word_of (memory_address (r base.number) offset))))
does_words_r (Memory StoreByte source base offset) r w fits all mem = all
does_words_r (Branch op left right offset) r w fits all mem = all
does_words_r (BranchZero op source offset) r w fits all mem = all
does_words_r (Jump op index) r w fits all mem = all
does_words_r (Shift op destination source amount) r w fits all mem = put_words r destination.number _ all (IsWord-shift_result op (r source.number) amount.bits (all source.number))
does_words_r (ShiftVariable op destination source by) r w fits all mem = put_words r destination.number _ all (IsWord-shift_result op (r source.number) (r by.number) (all source.number))
does_words_r (JumpRegister source) r w fits all mem = all
does_words_r (JumpRegisterLink destination source) r w fits all mem = all
does_words_r (Exception op code) r w fits all mem = all
does_words_r (MoveFrom High destination) r w fits all mem = put_words r destination.number _ all (all 32)
does_words_r (MoveFrom Low destination) r w fits all mem = put_words r destination.number _ all (all 33)
does_words_r (MultiplyDivide op left right) r w fits all mem =
    put_words (put r 32 (high_result op (r left.number) (r right.number))) 33 _
    (put_words r 32 _ all (IsWord-high_result op (r left.number) (r right.number) (all left.number) (all right.number)))
    (IsWord-low_result op (r left.number) (r right.number))
does_words_r (Arithmetic op destination left right) r w fits all mem =
    put_words r destination.number _ all (IsWord-arithmetic_result op (r left.number) (r right.number) (all left.number) (all right.number))

pub does_words_w : (i : Instr) (r : Words) (w : Contents) → AreWords r → AreWords w.words → AreWords (does_w i r w).words
does_words_w (Memory StoreWord source base offset) r w all mem = put_words w.words (memory_address (r base.number) offset) (r source.number) mem (all source.number)
does_words_w (Memory LoadWord target base offset) r w all mem = mem
does_words_w (Memory StoreByte source base offset) r w all mem =
    let address : ℕ = memory_address (r base.number) offset in
    put_words w.words (word_of address) (stored_word OneByte address (w.words (word_of address)) (r source.number)) mem (stored_is_word OneByte address (w.words (word_of address)) (r source.number) (mem (word_of address)) (all source.number))
does_words_w (Memory LoadByte target base offset) r w all mem = mem
does_words_w (Immediate op target source half) r w all mem = mem
does_words_w (LoadUpper target half) r w all mem = mem
does_words_w (Branch op left right offset) r w all mem = mem
does_words_w (BranchZero op source offset) r w all mem = mem
does_words_w (Jump op index) r w all mem = mem
does_words_w (Shift op destination source amount) r w all mem = mem
does_words_w (ShiftVariable op destination source by) r w all mem = mem
does_words_w (JumpRegister source) r w all mem = mem
does_words_w (JumpRegisterLink destination source) r w all mem = mem
does_words_w (Exception op code) r w all mem = mem
does_words_w (MoveFrom op destination) r w all mem = mem
does_words_w (MultiplyDivide op left right) r w all mem = mem
does_words_w (Arithmetic op destination left right) r w all mem = mem

pub safe_ordinary : (globals stack : ℕ) (i : Instr) (r : Words) → IsSafe globals stack i r → is_ordinary i ≡ true
safe_ordinary globals stack (Immediate op target source half) r safe = refl
safe_ordinary globals stack (LoadUpper target half) r safe = refl
safe_ordinary globals stack (Memory op target base offset) r safe = refl
safe_ordinary globals stack (Branch op left right offset) r safe = absurd safe
safe_ordinary globals stack (BranchZero op source offset) r safe = absurd safe
safe_ordinary globals stack (Jump op index) r safe = absurd safe
safe_ordinary globals stack (Shift op destination source amount) r safe = refl
safe_ordinary globals stack (ShiftVariable op destination source by) r safe = refl
safe_ordinary globals stack (JumpRegister source) r safe = absurd safe
safe_ordinary globals stack (JumpRegisterLink destination source) r safe = absurd safe
safe_ordinary globals stack (Exception op code) r safe = absurd safe
safe_ordinary globals stack (MoveFrom op destination) r safe = refl
safe_ordinary globals stack (MultiplyDivide op left right) r safe = refl
safe_ordinary globals stack (Arithmetic op destination left right) r safe = refl
