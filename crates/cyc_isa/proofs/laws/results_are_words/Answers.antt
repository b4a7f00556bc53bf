-- Proves the law that the result of each operation is a word.
use Rattle.cyc_isa.proofs.EffectLemmas.{IsWord-immediate_result, IsWord-load_upper_result, IsWord-arithmetic_result, IsWord-shift_result, IsWord-high_result, IsWord-low_result, IsWord-memory_address, IsWord-branch_target, IsWord-jump_target}
use Rattle.cyc_isa.proofs.laws.results_are_words.Goals as goal

pub returns-clause-immediate : goal.returns-clause-immediate
returns-clause-immediate c = IsWord-immediate_result

pub returns-clause-load_upper : goal.returns-clause-load_upper
returns-clause-load_upper c = IsWord-load_upper_result

pub returns-clause-arithmetic : goal.returns-clause-arithmetic
returns-clause-arithmetic c = IsWord-arithmetic_result

pub returns-clause-shift : goal.returns-clause-shift
returns-clause-shift c = IsWord-shift_result

pub returns-clause-high : goal.returns-clause-high
returns-clause-high c = IsWord-high_result

pub returns-clause-low : goal.returns-clause-low
returns-clause-low c = IsWord-low_result

pub returns-clause-address : goal.returns-clause-address
returns-clause-address c = IsWord-memory_address

pub returns-clause-branch : goal.returns-clause-branch
returns-clause-branch c = IsWord-branch_target

pub returns-clause-jump : goal.returns-clause-jump
returns-clause-jump c = IsWord-jump_target
