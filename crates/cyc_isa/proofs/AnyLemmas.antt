-- Lemmas about the quantifier `Any` (some element has a property) over lists that are composed of groups.
use Rattle.std.proofs.Common.{List, [], ◌∷◌, Any, inl, inr, arith}
use Rattle.cyc_words.proofs.Members.{Any-cons, Any-append, Any-append_left, Any-append_right}
use Rattle.cyc_isa.specs.Table.{joined}

-- ---- a list of groups

-- Says that, for each group of a list, `Q` follows if some element of the group satisfies `P`.
abbrev pub FromEach : {X : Type 0} → (X → Type 0) → Type 0 → List (List X) → Type 0
FromEach P Q [] = Unit {0}
FromEach P Q (xs ∷ rest) = (Any P xs → Q) × FromEach P Q rest

pub Any-joined : {X : Type 0} (P : X → Type 0) (Q : Type 0) (groups : List (List X)) → FromEach P Q groups → Any P (joined groups) → Q
Any-joined P Q [] from a = absurd (omega (arith, a.2))
Any-joined P Q (xs ∷ rest) from a = elim (Any-append P xs (joined rest) a) [ inl b ↦ from.0 b | inr b ↦ Any-joined P Q rest from.1 b ]

pub Any-joined_from : {X : Type 0} (P : X → Type 0) (groups : List (List X)) → Any (Any P) groups → Any P (joined groups)
Any-joined_from P [] a = absurd (omega (arith, a.2))
Any-joined_from P (xs ∷ rest) a = elim (Any-cons (Any P) xs rest a) [
  | inl b ↦ Any-append_left P xs (joined rest) b
  | inr b ↦ Any-append_right P xs (joined rest) (Any-joined_from P rest b)
]
