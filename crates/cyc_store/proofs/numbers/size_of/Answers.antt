use Rattle.std.proofs.Common.{◌^◌, ◌≤◌, ◌%◌, ap, ◌∙◌, arith}
use Rattle.std.proofs.Math.Nat.{pow-le-pow_right, mod-eq_of_lt, one-mul}
use Rattle.cyc_store.proofs.numbers.size_of.Goals as goal

pub returns : goal.returns
returns c =
    let few : 2 ^ c.args.class ≤ 2 ^ 10 = pow-le-pow_right (omega arith) c.requires in
    ap (λ n. n % 4294967296) (one-mul (2 ^ c.args.class)) ∙ mod-eq_of_lt (omega (arith, few))
