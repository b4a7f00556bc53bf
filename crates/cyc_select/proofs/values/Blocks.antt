-- A block is a sequence of instructions that do not trap; it writes registers and leaves memory unchanged.
use Rattle.std.proofs.Common.{◌≡◌, ◌≢◌, ℕ, ◌<◌, ◌≤◌, List, [], ◌∷◌, ◌++◌, ap, ◌∙◌, arith}
use Rattle.cyc_isa.specs.declared.instr.Instr.{Instr}
use Rattle.cyc_machine_model.specs.declared.constants.TheConstants.{RETURN_ADDRESS}
use Rattle.cyc_plain.specs.inside.State.{Words}
use Rattle.cyc_select.specs.declared.constants.TheConstants.{ZERO, FRAME, LOWEST, HANDLERS, REGIONS, GLOBALS}
use Rattle.cyc_select.proofs.effects.Views.{Contents, does_r, does_w}
use Rattle.cyc_select.proofs.effects.Sequences.{after_r, after_w, AreSafe, after_r-append, after_w-append}

-- Returns the three registers that keep their meaning across calls: the newest handler's record, the number of open lexical regions, and
-- the base address of the globals.
abbrev pub lasting : Words → ℕ × ℕ × ℕ
lasting r = (r HANDLERS, r REGIONS, r GLOBALS)

pub lasting_same : (q r : Words) → q HANDLERS ≡ r HANDLERS → q REGIONS ≡ r REGIONS → q GLOBALS ≡ r GLOBALS → lasting q ≡ lasting r
lasting_same q r newest counted middle = λ i. (newest i, counted i, middle i)

pub newest_lasts : (q r : Words) → lasting q ≡ lasting r → q HANDLERS ≡ r HANDLERS
newest_lasts q r same = ap (λ (p : ℕ × ℕ × ℕ). p.0) same

pub count_lasts : (q r : Words) → lasting q ≡ lasting r → q REGIONS ≡ r REGIONS
count_lasts q r same = ap (λ (p : ℕ × ℕ × ℕ). p.1) same

pub middle_lasts : (q r : Words) → lasting q ≡ lasting r → q GLOBALS ≡ r GLOBALS
middle_lasts q r same = ap (λ (p : ℕ × ℕ × ℕ). p.2) same

-- `AreSame` says that all registers that slots may have are unchanged, except for the register `but`.
abbrev pub AreSame : (but : ℕ) → (q r : Words) → Type 0
AreSame but q r = (n : ℕ) → 6 ≤ n → n < 24 → n ≢ but → q n ≡ r n

-- `ValuesSame` says that all registers that slots may have are unchanged.
abbrev pub ValuesSame : (q r : Words) → Type 0
ValuesSame q r = (n : ℕ) → 6 ≤ n → n < 24 → q n ≡ r n

pub all_same : (q r : Words) → AreSame 24 q r → ValuesSame q r
all_same q r same n low high = same n low high (λ e. absurd (omega (arith, e, high)))

-- `IsAside` says that `target` is a register that no slot may have, or is the register `but`.
abbrev pub IsAside : (but target : ℕ) → Type 0
IsAside but target = (n : ℕ) → 6 ≤ n → n < 24 → n ≢ but → n ≢ target

module _ (globals stack : ℕ) where
  -- `Puts` describes instructions that write one register: afterwards it holds this word, and every other register is unchanged.
  pub record Puts (is : List Instr) (r : Words) (w : Contents) (target at word : ℕ) : Type 0 where
    pub safe : AreSafe globals stack is r w
    pub memory : after_w is r w ≡ w
    pub result : after_r is r w at ≡ word
    pub others : (n : ℕ) → n < 32 → n ≢ target → after_r is r w n ≡ r n

  -- `Keeps` describes instructions that leave unchanged the reserved registers and those of slots, except the register `but`.
  pub record Keeps (is : List Instr) (r : Words) (w : Contents) (but : ℕ) : Type 0 where
    pub safe : AreSafe globals stack is r w
    pub memory : after_w is r w ≡ w
    pub zero : after_r is r w ZERO ≡ r ZERO
    pub base : after_r is r w FRAME ≡ r FRAME
    pub lowest : after_r is r w LOWEST ≡ r LOWEST
    pub back : after_r is r w RETURN_ADDRESS ≡ r RETURN_ADDRESS
    pub lasts : lasting (after_r is r w) ≡ lasting r
    pub values : AreSame but (after_r is r w) r

  -- `IsScratch` says that a register is temporary: no call preserves it.
  pub record IsScratch (n : ℕ) : Type 0 where
    pub not_zero : ZERO ≢ n
    pub not_base : FRAME ≢ n
    pub not_lowest : LOWEST ≢ n
    pub not_back : RETURN_ADDRESS ≢ n
    pub not_newest : HANDLERS ≢ n
    pub not_counted : REGIONS ≢ n
    pub not_middle : GLOBALS ≢ n

  pub puts_keeps : (is : List Instr) (r : Words) (w : Contents) (target at word but : ℕ) → IsScratch target → IsAside but target → Puts is r w target at word → Keeps is r w but
  puts_keeps is r w target at word but scratch aside puts = record {
    safe = puts.safe;
    memory = puts.memory;
    zero = puts.others ZERO (omega arith) scratch.not_zero;
    base = puts.others FRAME (omega arith) scratch.not_base;
    lowest = puts.others LOWEST (omega arith) scratch.not_lowest;
    back = puts.others RETURN_ADDRESS (omega arith) scratch.not_back;
    lasts = lasting_same (after_r is r w) r (puts.others HANDLERS (omega arith) scratch.not_newest) (puts.others REGIONS (omega arith) scratch.not_counted) (puts.others GLOBALS (omega arith) scratch.not_middle);
    values = λ n low high other. puts.others n (omega (arith, high)) (aside n low high other);
  }

  -- ---- consecutive blocks

  pub safe_append : (is js : List Instr) (r : Words) (w : Contents) → AreSafe globals stack is r w → AreSafe globals stack js (after_r is r w) (after_w is r w) → AreSafe globals stack (is ++ js) r w
  safe_append [] js r w first second = second
  safe_append (i ∷ is) js r w (one, rest) second = (one, safe_append is js (does_r i r w) (does_w i r w) rest second)

  pub after_both : (is js : List Instr) (r : Words) (w : Contents) (n : ℕ) → after_r (is ++ js) r w n ≡ after_r js (after_r is r w) (after_w is r w) n
  after_both is js r w n = ap (λ (q : Words). q n) (after_r-append is js r w)

  pub keeps_append : (is js : List Instr) (r : Words) (w : Contents) (but : ℕ) → Keeps is r w but → Keeps js (after_r is r w) (after_w is r w) but → Keeps (is ++ js) r w but
  keeps_append is js r w but first second = record {
    safe = safe_append is js r w first.safe second.safe;
    memory = after_w-append is js r w ∙ (second.memory ∙ first.memory);
    zero = after_both is js r w ZERO ∙ (second.zero ∙ first.zero);
    base = after_both is js r w FRAME ∙ (second.base ∙ first.base);
    lowest = after_both is js r w LOWEST ∙ (second.lowest ∙ first.lowest);
    back = after_both is js r w RETURN_ADDRESS ∙ (second.back ∙ first.back);
    lasts = ap lasting (after_r-append is js r w) ∙ (second.lasts ∙ first.lasts);
    values = λ n low high other. after_both is js r w n ∙ (second.values n low high other ∙ first.values n low high other);
  }
