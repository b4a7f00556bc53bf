-- This file proves the checks that raise an exception, and the steps that pass a value to a conversion.
use Rattle.std.proofs.Common.{◌≡◌, ℕ, ◌+◌, Bool, true, false, List, ◌∷◌, Option, refl, sym, ap, subst, ◌∙◌, arith, inl, inr, bit_and}
use Rattle.std.specs.Prelude.{◌==◌, ◌&&◌, if◌then◌else◌, ◌%◌, option_map}
use Rattle.std.proofs.lemmas.Bool.{eqb-false, and_parts}
use Rattle.cyc_words.specs.Word.{IsWord as IsMachineWord}
use Rattle.cyc_words.proofs.Booleans.{and_left}
use Rattle.cyc_words.proofs.Numbers.{bit_and_255}
use Rattle.cyc_types.specs.declared.typed.Kind.{Kind}
use Rattle.cyc_types.specs.declared.typed.Kind.TheVariants as kinds
use Rattle.cyc_types.specs.TypedTrees.{Program}
use Rattle.cyc_plain.specs.declared.instruction.Comparison.{Comparison}
use Rattle.cyc_plain.specs.declared.instruction.Comparison.TheVariants as comparisons
use Rattle.cyc_plain.specs.declared.instruction.Operand.{Operand}
use Rattle.cyc_plain.specs.declared.instruction.Operand.TheVariants as operands
use Rattle.cyc_plain.specs.inside.Operators.{compares}
use Rattle.cyc_plain.specs.inside.State as plain
use Rattle.cyc_plain.specs.inside.State.{Words, Configuration}
use Rattle.cyc_plain.specs.inside.Step.{operand_word, at, gives}
use Rattle.cyc_plain.specs.inside.Step as plain_step
use Rattle.cyc_plain.specs.inside.Straight.{At}
use Rattle.cyc_meaning.specs.Values.{Value, Int, Null, Thin, Fat, Handle, Key, Operand as Kinded, is_kind, words_of_kind, bytes_of_kind}
use Rattle.cyc_meaning.specs.Operators.{Gives, null_exception}
use Rattle.cyc_meaning.specs.Pointers.{followed}
use Rattle.cyc_meaning.specs.Conversion.{conversion}
use Rattle.cyc_meaning.specs.State.{World, Environment, ConvertTo, Entry, Needs, Focus, Given, Throwing, State, Running}
use Rattle.cyc_meaning.specs.Step.{leads_to, wrong, computed, passes, step}
use Rattle.cyc_lower_proof.proofs.slots.Widths.{same_kind, wide_kind, keeps_wide, changes_wide}
use Rattle.cyc_lower_proof.specs.inside.ValueCode.{converts_there, keeps_words, masks, low_byte}
use Rattle.cyc_lower_proof.proofs.relation.code.Stands.{GuardAt, TestedAt, ConversionBy}
use Rattle.cyc_memory_relation.specs.inside.Tables.{Tables}
use Rattle.cyc_memory_relation.specs.inside.Words.{Is}
use Rattle.cyc_lower_proof.proofs.relation.contents.HeldValues.{IsIn, Holds, held}
use Rattle.cyc_lower_proof.proofs.relation.simulation.Relation.{DataIn, SharedAt, in_operand, Matches}
use Rattle.cyc_lower_proof.proofs.relation.simulation.Stacks.{types_on, types_at, ValueStack, LandsStack, code_of, bounds_at, top, floor}
use Rattle.cyc_lower_proof.proofs.object_steps.Handles.{kept_holds}
use Rattle.cyc_lower_proof.proofs.relation.contents.Data.{in_words, null_is}
use Rattle.cyc_lower_proof.proofs.relation.simulation.Accesses.{IsWell, is_fitting}
use Rattle.cyc_lower_proof.proofs.relation.simulation.Matched.{IsMatched, silently, by_one}
use Rattle.cyc_lower_proof.proofs.handler_steps.Handling.{raised}
use Rattle.cyc_lower_proof.proofs.pointer_steps.FatSteps.{widens}
use Rattle.cyc_lower_proof.proofs.pointer_steps.ThinSteps.{narrows}
use Rattle.cyc_lower_proof.proofs.value_steps.Landings.{landed_char}
use Rattle.cyc_lower_proof.proofs.value_steps.ValueWords.{of_kind, as_wide, int_is, not_zero, not_widened, not_narrowed, kept_at, kept_in, char_low}

module _ (source : Program) (pages calls : ℕ) where
  -- The state after a branch that is taken, and the state after a branch that is not taken.
  pub taken : (s : State) (c : Configuration) (b : Bool) (target : ℕ) → b ≡ true → Matches source pages calls s (plain.Running (at c target)) → Matches source pages calls s (plain_step.branches c b target)
  taken s c b target is m = subst (λ (x : Bool). Matches source pages calls s (plain_step.branches c x target)) (sym is) m

  pub not_taken : (s : State) (c : Configuration) (b : Bool) (target : ℕ) → b ≡ false → Matches source pages calls s (plain.Running (at c (c.active.next + 1))) → Matches source pages calls s (plain_step.branches c b target)
  not_taken s c b target is m = subst (λ (x : Bool). Matches source pages calls s (plain_step.branches c x target)) (sym is) m

  -- If a check fails, then the exception of the check is raised.
  pub guard_fails : {focus : Focus} {l : List Entry} (tag : ℕ) (failing : Comparison) (x y : Operand) (k : List Entry) (e : Environment) (w : World) (c : Configuration) (q : ℕ)
      → step source (Running focus l e w) ≡ Running (Throwing tag 0) k e w → SharedAt source pages calls l e w c → (shared : SharedAt source pages calls k e w c) → IsMachineWord tag → DataIn source shared.tables c.active.slots k e w c
      → GuardAt (code_of source c.active.function) (bounds_at source c.active.function) (types_on source c.active.function k) tag failing x y c.active.next q
      → compares failing (operand_word c.active.slots x) (operand_word c.active.slots y) ≡ true → IsMatched source pages calls (Running focus l e w) (plain.Running c)
  guard_fails tag failing x y k e w c q does shared shared_there word facts (s, jump, raising_it, end) fails =
      by_one source pages calls does shared jump
      (λ choice. taken (Running (Throwing tag 0) k e w) c (compares failing (operand_word c.active.slots x) (operand_word c.active.slots y)) s fails
      (raised source pages calls tag 0 k e w (at c s) (operands.Word tag) (operands.Word 0) word shared_there facts raising_it refl refl))

  -- If a check does not fail, then the run continues after the check.
  pub guard_passes : {focus : Focus} {l : List Entry} (next : State) (tag : ℕ) (failing : Comparison) (x y : Operand) (e : Environment) (w : World) (c : Configuration) (q : ℕ)
      → step source (Running focus l e w) ≡ next → SharedAt source pages calls l e w c
      → GuardAt (code_of source c.active.function) (bounds_at source c.active.function) (types_at source c.active.function) tag failing x y c.active.next q
      → compares failing (operand_word c.active.slots x) (operand_word c.active.slots y) ≡ false → Matches source pages calls next (plain.Running (at c q))
      → IsMatched source pages calls (Running focus l e w) (plain.Running c)
  guard_passes next tag failing x y e w c q does shared (s, jump, raised, end) passes goes =
      by_one source pages calls does shared jump
      (λ choice. not_taken next c (compares failing (operand_word c.active.slots x) (operand_word c.active.slots y)) s passes
      (subst (λ n. Matches source pages calls next (plain.Running (at c n))) (sym end) goes))

  -- States the facts of the simulation relation that hold while a value is in a slot or is a constant.
  abbrev pub Stands : Kinded → Operand → List Entry → Environment → World → Configuration → Type 0
  Stands v o k e w c = (shared : SharedAt source pages calls k e w c) × DataIn source shared.tables c.active.slots k e w c × IsIn shared.tables v c.active.slots o
      × Holds shared.tables c.active.slots (floor source c.active.function k) (held k)

  abbrev pub GoesAfter : Kinded → List Entry → Environment → World → Configuration → Type 0
  GoesAfter v k e w c = IsMatched source pages calls (Running (Given v) k e w) (plain.Running c)

  -- ---- conversions

  -- A conversion that keeps the words of a value gives the value to the next continuation frame and executes no instruction.
  kept_value : (from to : Kind) (target : Option Kind) (i : Kind) (v : Value) (o : Operand) (k : List Entry) (e : Environment) (w : World) (c : Configuration) (q : ℕ)
      → words_of_kind i ≡ words_of_kind to → conversion to v ≡ Gives v
      → step source (Running (Given (of_kind i v)) (Needs (ConvertTo from to target) ∷ k) e w) ≡ Running (Given (of_kind to v)) k e w → Stands (of_kind i v) o k e w c
      → c.active.next ≡ q → ValueStack source c.active.function e.locals to o q c.frames k → GoesAfter (of_kind i v) (Needs (ConvertTo from to target) ∷ k) e w c
  kept_value from to target i v o k e w c q wide gives does (shared, facts, is, holds) end stack =
      silently source pages calls (Running (Given (of_kind i v)) (Needs (ConvertTo from to target) ∷ k) e w) (Running (Given (of_kind to v)) k e w) (plain.Running c) does
      (shared, in_operand o facts (kept_in shared.tables i to v c.active.slots o wide gives is) (kept_holds _ _ _ k holds) (subst (λ r. ValueStack source c.active.function e.locals to o r c.frames k) (sym end) stack))
      (omega arith)

  -- The representation kind (int, char, pointer, ..) from which a conversion converts a value is the kind that the value has.
  converts_kind : (from to : Kind) (target : Option Kind) (v : Kinded) (k : List Entry) (e : Environment) (w : World) → IsWell (step source (Running (Given v) (Needs (ConvertTo from to target) ∷ k) e w))
      → step source (Running (Given v) (Needs (ConvertTo from to target) ∷ k) e w) ≡ computed to (conversion to v.value) k e w
  converts_kind from to target v k e w well =
      ap (λ (b : Bool). if b then computed to (conversion to v.value) k e w else wrong w) (is_fitting (is_kind v.kind from && leads_to w target (followed v.value)) (computed to (conversion to v.value) k e w) w well)

  -- If a conversion is not a fault, then its value has the representation kind (int, char, pointer, ..) from which the conversion converts.
  converted_from : (from to : Kind) (target : Option Kind) (v : Kinded) (k : List Entry) (e : Environment) (w : World) → IsWell (step source (Running (Given v) (Needs (ConvertTo from to target) ∷ k) e w)) → v.kind ≡ from
  converted_from from to target v k e w well =
      same_kind v.kind from
      (and_left (is_kind v.kind from) (leads_to w target (followed v.value)) (is_fitting (is_kind v.kind from && leads_to w target (followed v.value)) (computed to (conversion to v.value) k e w) w well))

  -- Converting a char to a char keeps its word.
  kept_char : (from : Kind) (target : Option Kind) (a : ℕ) (o : Operand) (k : List Entry) (e : Environment) (w : World) (c : Configuration)
      → step source (Running (Given (of_kind kinds.Char (Int a))) (Needs (ConvertTo from kinds.Char target) ∷ k) e w) ≡ Running (Given (of_kind kinds.Char (Int (a % 256)))) k e w
      → Stands (of_kind kinds.Char (Int a)) o k e w c
      → (q : ℕ) × (c.active.next ≡ q) × ValueStack source c.active.function e.locals kinds.Char o q c.frames k → GoesAfter (of_kind kinds.Char (Int a)) (Needs (ConvertTo from kinds.Char target) ∷ k) e w c
  kept_char from target a o k e w c does (shared, facts, is, holds) (q, end, stack) =
      let low = char_low shared.tables a c.active.slots o is in
      kept_value from kinds.Char target kinds.Char (Int a) o k e w c q refl (ap (λ n. Gives (Int n)) low) (does ∙ ap (λ n. Running (Given (of_kind kinds.Char (Int n))) k e w) low) (shared, facts, is, holds) end stack

  converted : (from to : Kind) (target : Option Kind) (i : Kind) (v : Value) (o : Operand) (k : List Entry) (e : Environment) (w : World) (c : Configuration) → IsWell (computed to (conversion to v) k e w)
      → step source (Running (Given (of_kind i v)) (Needs (ConvertTo from to target) ∷ k) e w) ≡ computed to (conversion to v) k e w → masks i to ≡ false → words_of_kind i ≡ words_of_kind to → Stands (of_kind i v) o k e w c
      → (q : ℕ) × TestedAt (code_of source c.active.function) (bounds_at source c.active.function) (types_on source c.active.function k) to o c.active.next q × ValueStack source c.active.function e.locals to o q c.frames k → GoesAfter (of_kind i v) (Needs (ConvertTo from to target) ∷ k) e w c
  converted from kinds.Char target kinds.Char (Int a) o k e w c well does whole wide stands stack = kept_char from target a o k e w c does stands stack
  converted from kinds.Char target kinds.Int (Int a) o k e w c well does whole wide stands stack = absurd (let f : true ≡ false = whole in cc)
  converted from kinds.Char target i (Int a) o k e w c well does whole wide (shared, facts, is, holds) stack =
      let (words, p, same, is_it) = in_words shared.tables (of_kind i (Int a)) c.active.slots o is in
      absurd is_it
  converted from kinds.Int target i (Int a) o k e w c well does whole wide stands (q, end, stack) = kept_value from kinds.Int target i (Int a) o k e w c q wide refl does stands end stack
  converted from kinds.Nullable target i Null o k e w c well does whole wide stands (q, end, stack) = kept_value from kinds.Nullable target i Null o k e w c q wide refl does stands end stack
  converted from kinds.Fat target i Null o k e w c well does whole wide stands (q, end, stack) = kept_value from kinds.Fat target i Null o k e w c q wide refl does stands end stack
  converted from kinds.NonNull target i Null o k e w c well does whole wide (shared, facts, is, holds) (q, check, stack) =
      guard_fails null_exception comparisons.Equal o (operands.Word 0) k e w c q does shared shared
      (omega arith) facts check
      (ap (λ x. x == 0) (null_is shared.tables i c.active.slots o is))
  converted from kinds.Nullable target i (Thin object offset) o k e w c well does whole wide stands (q, end, stack) = kept_value from kinds.Nullable target i (Thin object offset) o k e w c q wide refl does stands end stack
  converted from kinds.NonNull target i (Thin object offset) o k e w c well does whole wide (shared, facts, is, holds) (q, check, stack) =
      guard_passes (Running (Given (of_kind kinds.NonNull (Thin object offset))) k e w) null_exception comparisons.Equal o (operands.Word 0) e w c q does shared check
      (not_zero shared.tables i object offset c.active.slots o is)
      (shared, in_operand o facts (kept_in shared.tables i kinds.NonNull (Thin object offset) c.active.slots o wide refl is) (kept_holds _ _ _ k holds) stack)
  converted from kinds.Fat target i (Thin object offset) o k e w c well does whole wide (shared, facts, is, holds) stack =
      let (words, p, same, is_it) = in_words shared.tables (of_kind i (Thin object offset)) c.active.slots o is in
      absurd (not_widened shared.tables i object offset words p is_it wide)
  converted from kinds.Fat target i (Fat object start many index) o k e w c well does whole wide stands (q, end, stack) =
      kept_value from kinds.Fat target i (Fat object start many index) o k e w c q wide refl does stands end stack
  converted from kinds.Nullable target i (Fat object start many index) o k e w c well does whole wide (shared, facts, is, holds) stack =
      let (words, p, same, is_it) = in_words shared.tables (of_kind i (Fat object start many index)) c.active.slots o is in
      absurd (not_narrowed shared.tables i object start many index words p is_it wide)
  converted from kinds.NonNull target i (Fat object start many index) o k e w c well does whole wide (shared, facts, is, holds) stack =
      let (words, p, same, is_it) = in_words shared.tables (of_kind i (Fat object start many index)) c.active.slots o is in
      absurd (not_narrowed shared.tables i object start many index words p is_it wide)
  converted from kinds.Handle target i (Handle region) o k e w c well does whole wide stands (q, end, stack) = kept_value from kinds.Handle target i (Handle region) o k e w c q wide refl does stands end stack
  converted from kinds.Key target i (Key region) o k e w c well does whole wide stands (q, end, stack) = kept_value from kinds.Key target i (Key region) o k e w c q wide refl does stands end stack
  converted from to target i v o k e w c well does whole wide stands stack = absurd (well refl)

  converted_leads : (from to : Kind) (target : Option Kind) (v : Kinded) (k : List Entry) (e : Environment) (w : World) → IsWell (step source (Running (Given v) (Needs (ConvertTo from to target) ∷ k) e w)) → leads_to w target (followed v.value) ≡ true
  converted_leads from to target v k e w well =
      (and_parts (is_kind v.kind from) (leads_to w target (followed v.value)) (is_fitting (is_kind v.kind from && leads_to w target (followed v.value)) (computed to (conversion to v.value) k e w) w well)).1

  -- an int that becomes a char keeps only its low byte, which is moved to a slot
  masked : (from : Kind) (target : Option Kind) (i : Kind) (v : Value) (o : Operand) (d : ℕ) (k : List Entry) (e : Environment) (w : World) (c : Configuration)
      → step source (Running (Given (of_kind i v)) (Needs (ConvertTo from kinds.Char target) ∷ k) e w) ≡ computed kinds.Char (conversion kinds.Char v) k e w → IsWell (computed kinds.Char (conversion kinds.Char v) k e w)
      → Stands (of_kind i v) o k e w c → At (code_of source c.active.function) c.active.next (low_byte o d)
      → LandsStack source c.active.function e.locals kinds.Char d (c.active.next + 1) c.frames k → GoesAfter (of_kind i v) (Needs (ConvertTo from kinds.Char target) ∷ k) e w c
  masked from target i (Int a) o d k e w c does well (shared, facts, is, holds) here lands =
      let word = bit_and (operand_word c.active.slots o) 255 in
      let same : word ≡ a % 256 = bit_and_255 (operand_word c.active.slots o) ∙ ap (λ x. x % 256) (int_is shared.tables i a c.active.slots o is) in
      by_one source pages calls does shared here
      (λ choice. landed_char source pages calls (a % 256) word d k e w c (c.active.next + 1) same (omega arith) shared facts holds refl lands)
  masked from target i v o d k e w c does well stands here lands = absurd (well refl)

  -- Among the values that become a char, only an int changes its words.
  never_char : (t : Tables) (i : Kind) (v : Value) (slots : Words) (o : Operand) (k : List Entry) (e : Environment) (w : World)
      → keeps_words i kinds.Char ≡ false → masks i kinds.Char ≡ false → IsWell (computed kinds.Char (conversion kinds.Char v) k e w) → IsIn t (of_kind i v) slots o → ⊥
  never_char t kinds.Int (Int a) slots o k e w changes whole well is = let f : true ≡ false = whole in cc
  never_char t kinds.Char (Int a) slots o k e w changes whole well is = let f : true ≡ false = changes in cc
  never_char t i (Int a) slots o k e w changes whole well is = let (words, p, same, is_it) = in_words t (of_kind i (Int a)) slots o is in is_it
  never_char t i v slots o k e w changes whole well is = well refl

  -- A conversion keeps the machine words of the value, or changes how many there are.
  converts_by : (same : Bool) (from to : Kind) (target : Option Kind) (v : Kinded) (o : Operand) (q : ℕ) (k : List Entry) (e : Environment) (w : World) (c : Configuration) → keeps_words from to ≡ same → masks from to ≡ false
      → step source (Running (Given v) (Needs (ConvertTo from to target) ∷ k) e w) ≡ computed to (conversion to v.value) k e w → leads_to w target (followed v.value) ≡ true → v.kind ≡ from → IsWell (computed to (conversion to v.value) k e w)
      → Stands v o k e w c
      → ConversionBy (code_of source c.active.function) (bounds_at source c.active.function) (types_on source c.active.function k) same to (option_map bytes_of_kind target) o (top source c.active.function k) c.active.next q
      → ValueStack source c.active.function e.locals to o q c.frames k → GoesAfter v (Needs (ConvertTo from to target) ∷ k) e w c
  converts_by true from to target v o q k e w c keeps whole does leads kind well stands at stack =
      converted from to target v.kind v.value o k e w c well does (ap (λ i. masks i to) kind ∙ whole) (ap words_of_kind kind ∙ keeps_wide from to keeps) stands (q, at, stack)
  converts_by false from kinds.Fat target v o q k e w c changes whole does leads kind well (shared, facts, is, holds) at stack =
      let narrow = changes_wide from kinds.Fat refl changes in
      widens source pages calls from target v o q k e w c does well (λ three. eqb-false (words_of_kind from) 3 narrow (ap words_of_kind (sym kind) ∙ three)) shared facts is holds at stack
  converts_by false from kinds.Char target v o q k e w c changes whole does leads kind well (shared, facts, is, holds) at stack =
      absurd (never_char shared.tables v.kind v.value c.active.slots o k e w (ap (λ i. keeps_words i kinds.Char) kind ∙ changes) (ap (λ i. masks i kinds.Char) kind ∙ whole) well is)
  converts_by false from kinds.NonNull target v o q k e w c changes whole does leads kind well (shared, facts, is, holds) at stack =
      narrows source pages calls from kinds.NonNull target v o q k e w c does leads (kind ∙ wide_kind from (changes_wide from kinds.NonNull refl changes)) shared facts is holds at stack
  converts_by false from kinds.Nullable target v o q k e w c changes whole does leads kind well (shared, facts, is, holds) at stack =
      narrows source pages calls from kinds.Nullable target v o q k e w c does leads (kind ∙ wide_kind from (changes_wide from kinds.Nullable refl changes)) shared facts is holds at stack
  converts_by false from to target v o q k e w c changes whole does leads kind well stands at stack = absurd at

  pub converts : (from to : Kind) (target : Option Kind) (v : Kinded) (o : Operand) (k : List Entry) (e : Environment) (w : World) (c : Configuration)
      → IsWell (step source (Running (Given v) (Needs (ConvertTo from to target) ∷ k) e w)) → Stands v o k e w c
      → ValueStack source c.active.function e.locals v.kind o c.active.next c.frames (Needs (ConvertTo from to target) ∷ k) → GoesAfter v (Needs (ConvertTo from to target) ∷ k) e w c
  converts from to target v o k e w c well stands (inl (d, is, here, lands)) =
      let well_char = subst (λ x. IsWell (step source (Running (Given v) (Needs (ConvertTo from x target) ∷ k) e w))) is well in
      let does = converts_kind from kinds.Char target v k e w well_char in
      subst (λ x. GoesAfter v (Needs (ConvertTo from x target) ∷ k) e w c) (sym is)
      (masked from target v.kind v.value o d k e w c does (subst IsWell does well_char) stands here lands)
  converts from to target v o k e w c well stands (inr (q, whole, at, stack)) =
      converts_by (keeps_words from to) from to target v o q k e w c refl whole (converts_kind from to target v k e w well) (converted_leads from to target v k e w well) (converted_from from to target v k e w well)
      (subst IsWell (converts_kind from to target v k e w well) well) stands at stack

  -- A value is converted, without an exception, in the slots of the local to which it will be assigned.
  converted_ahead : (t : Tables) (from to i : Kind) (v : Value) (words : Words) (n : ℕ) (k : List Entry) (e : Environment) (w : World)
      → IsWell (computed to (conversion to v) k e w) → converts_there from to ≡ true → masks i to ≡ false → words_of_kind i ≡ words_of_kind to → Is t i v words n
      → (computed to (conversion to v) k e w ≡ Running (Given (of_kind to v)) k e w) × Is t to v words n
  converted_ahead t from kinds.Char kinds.Char (Int a) words n k e w well quiet whole wide is =
      let low : a % 256 ≡ a = omega (arith, is.1) in
      (ap (λ x. Running (Given (of_kind kinds.Char (Int x))) k e w) low, is)
  converted_ahead t from kinds.Char kinds.Int (Int a) words n k e w well quiet whole wide is = absurd (let f : true ≡ false = whole in cc)
  converted_ahead t from kinds.Char i (Int a) words n k e w well quiet whole wide is = absurd is
  converted_ahead t from kinds.NonNull i v words n k e w well quiet whole wide is = absurd (let f : false ≡ true = quiet in cc)
  converted_ahead t from kinds.Int i (Int a) words n k e w well quiet whole wide is = (refl, kept_at t i kinds.Int (Int a) words n wide refl is)
  converted_ahead t from kinds.Nullable i Null words n k e w well quiet whole wide is = (refl, kept_at t i kinds.Nullable Null words n wide refl is)
  converted_ahead t from kinds.Fat i Null words n k e w well quiet whole wide is = (refl, kept_at t i kinds.Fat Null words n wide refl is)
  converted_ahead t from kinds.Nullable i (Thin object offset) words n k e w well quiet whole wide is = (refl, kept_at t i kinds.Nullable (Thin object offset) words n wide refl is)
  converted_ahead t from kinds.Fat i (Thin object offset) words n k e w well quiet whole wide is = absurd (not_widened t i object offset words n is wide)
  converted_ahead t from kinds.Nullable i (Fat object start many index) words n k e w well quiet whole wide is = absurd (not_narrowed t i object start many index words n is wide)
  converted_ahead t from kinds.Fat i (Fat object start many index) words n k e w well quiet whole wide is = (refl, kept_at t i kinds.Fat (Fat object start many index) words n wide refl is)
  converted_ahead t from kinds.Handle i (Handle region) words n k e w well quiet whole wide is = (refl, kept_at t i kinds.Handle (Handle region) words n wide refl is)
  converted_ahead t from kinds.Key i (Key region) words n k e w well quiet whole wide is = (refl, kept_at t i kinds.Key (Key region) words n wide refl is)
  converted_ahead t from to i v words n k e w well quiet whole wide is = absurd (well refl)

  -- If a conversion happens in the slots of a local, then the value has the representation kind (int, char, pointer, ..) from which
  -- the conversion converts. The conversion keeps the value's number of words.
  pub converts_ahead : (t : Tables) (from to : Kind) (target : Option Kind) (v : Kinded) (n : ℕ) (k : List Entry) (e : Environment) (w : World) (c : Configuration)
      → IsWell (step source (Running (Given v) (Needs (ConvertTo from to target) ∷ k) e w)) → converts_there from to ≡ true → masks from to ≡ false → Is t v.kind v.value c.active.slots n
      → (step source (Running (Given v) (Needs (ConvertTo from to target) ∷ k) e w) ≡ Running (Given (of_kind to v.value)) k e w) × Is t to v.value c.active.slots n
      × (words_of_kind v.kind ≡ words_of_kind to)
  converts_ahead t from to target v n k e w c well quiet whole is =
      let does = converts_kind from to target v k e w well in
      let kind = converted_from from to target v k e w well in
      let wide = ap words_of_kind kind ∙ as_wide from to quiet in
      let (goes, now) = converted_ahead t from to v.kind v.value c.active.slots n k e w (subst IsWell does well) quiet (ap (λ i. masks i to) kind ∙ whole) wide is in
      (does ∙ goes, now, wide)
