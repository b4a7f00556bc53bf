use Rattle.std.proofs.Common.{Vec, Global, ◌≡◌, ◌++◌, ◌∷◌, [], ℕ, List, false, length, map, sym, ap, subst, ◌∙◌}
use Rattle.std.proofs.lemmas.List.{length-map, map-append}
use Rattle.cyc_syntax.specs.Names.{is_among}
use Rattle.cyc_syntax.proofs.NameIndexLemmas.{by_first, by_other}
use Rattle.cyc_syntax.proofs.interning.Names.add.Goals as goal
use Rattle.cyc_syntax.proofs.interning.Names.add.Goals.{then-contains_key+in_ok-other+in_ok-insert, else-contains_key+in_ok-insert-2}

-- Returns the bytes of a stored text.
abbrev items_of : Vec ℕ Global → List ℕ
items_of v = v.items

-- Appending an owned text to the stored texts appends its bytes to the list of texts.
texts_pushed : (before : List (Vec ℕ Global)) (owned : Vec ℕ Global) (text : List ℕ) → owned.items ≡ text → map items_of (before ++ owned ∷ []) ≡ map items_of before ++ text ∷ []
texts_pushed before owned text is = map-append items_of before (owned ∷ []) ∙ ap (λ t. map items_of before ++ t ∷ []) is

pub invariant_of-self-2 : goal.invariant_of-self-2
invariant_of-self-2 c =
    let texts = map items_of c.self.inside.texts.items in
    let text = c.args.text.now in
    let new : is_among text texts ≡ false = subst (λ t. is_among text t ≡ false) (sym c.self.view_is) c.requires in
    let number : c.len-number.result ≡ length texts = c.len-number.ensures ∙ c.self.inside.texts.ok.0 ∙ sym (length-map c.self.inside.texts.items items_of) in
    let pushed : map items_of (c.reserve.new.self.items ++ c.in_ok-owned.owned ∷ []) ≡ texts ++ text ∷ [] =
    texts_pushed c.reserve.new.self.items c.in_ok-owned.owned text c.in_ok-owned.ensures.items ∙ ap (λ v. map items_of v ++ text ∷ []) c.reserve.ensures.items in
    elim c.if-contains_key.branch [
      | then-contains_key+in_ok-other+in_ok-insert w ↦
          rw (c.push_reserved.ensures.items, w.self-inside-is, pushed)
          (by_other texts text c.self.inside.firsts c.self.inside.others c.self.invariant new c.key_of-key.result c.len-number.result c.key_of-key.ensures number
          w.insert.new.self w.in_ok-other.other w.in_ok-other.ensures.items (sym c.contains_key.ensures ∙ w.if-contains_key.true) w.in_ok-insert.ensures.updates)
      | else-contains_key+in_ok-insert-2 w ↦
          rw (c.push_reserved.ensures.items, w.self-inside-is, pushed)
          (by_first texts text c.self.inside.firsts c.self.inside.others c.self.invariant new c.key_of-key.result c.len-number.result c.key_of-key.ensures number
          w.insert-else-contains_key.new.self (sym c.contains_key.ensures ∙ w.if-contains_key.false) w.in_ok-insert-2.ensures.updates)
    ]
