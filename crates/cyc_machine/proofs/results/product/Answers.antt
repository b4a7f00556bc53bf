use Rattle.std.proofs.Common.{◌≡◌, ◌∙◌, ℕ, ℤ, ◌/◌, ◌%◌, ◌^◌, ◌*ℤ◌, ap, rules}
use Rattle.std.specs.Int.{w32, w64, cast_signed, cast_unsigned}
use Rattle.std.specs.Prelude.{FitsSigned}
use Rattle.std.proofs.lemmas.Int.{to_z-of_z}
use Rattle.cyc_isa.specs.Effect.{product_of}
use Rattle.cyc_machine.proofs.results.product.Goals as goal

-- The 64-bit multiplication in the Rattle code gives the bits of the exact signed product of two machine words.
bits_of_product : (a b bits : ℕ) (x y p q : ℤ) → FitsSigned w32 x → FitsSigned w32 y → FitsSigned w64 p → FitsSigned w64 q → FitsSigned w64 (p *ℤ q) → x ≡ cast_signed w32 a → y ≡ cast_signed w32 b → p ≡ cast_signed w32 (cast_unsigned w32 x) → q ≡ cast_signed w32 (cast_unsigned w32 y) → bits ≡ cast_unsigned w64 (cast_signed w64 (cast_unsigned w64 (cast_signed w64 (cast_unsigned w64 p) *ℤ cast_signed w64 (cast_unsigned w64 q)))) → bits ≡ product_of a b
bits_of_product a b bits x y p q fx fy fp fq fpq ex ey ep eq e =
    let px : p ≡ x = ep ∙ to_z-of_z w32 x fx in
    let qy : q ≡ y = eq ∙ to_z-of_z w32 y fy in
    simp to_z-of_z at e
    ∙ ap (cast_unsigned w64) (ap (λ z. z *ℤ q) (px ∙ ex) ∙ ap (λ z. cast_signed w32 a *ℤ z) (qy ∙ ey))

bits_are : (c : goal.After-cast_unsigned-bits) → c.cast_unsigned-bits.result ≡ product_of c.args.a c.args.b
bits_are c =
    bits_of_product c.args.a c.args.b _ c.cast_signed.result c.cast_signed-2.result c.from.result c.from-2.result (search rules) (search rules) (search rules) (search rules) (search rules) c.cast_signed.ensures c.cast_signed-2.ensures c.from.ensures c.from-2.ensures c.cast_unsigned-bits.ensures

pub returns-clause-high : goal.returns-clause-high
returns-clause-high c = ap (λ n. n / 2 ^ 32) (bits_are c)

pub returns-clause-low : goal.returns-clause-low
returns-clause-low c = ap (λ n. n % 2 ^ 32) (bits_are c)
