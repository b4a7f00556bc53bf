-- This file has lemmas about the name or region name that the lexer reads at the start of a text.
use Rattle.std.proofs.Common.{◌≡◌, ◌≢◌, ℕ, ◌+◌, ◌<◌, ◌≤◌, true, Some, List, [], ◌∷◌, ◌++◌, length, get_or, take, drop, refl, sym, ap, ◌∙◌, arith}
use Rattle.std.specs.List.{list_all, prefix_len}
use Rattle.std.proofs.lemmas.Bool.{true≢false, cond-true, and_from, and_parts, or_left}
use Rattle.std.proofs.lemmas.List.Sums.{prefix_len-le-length}
use Rattle.std.proofs.Math.Numerals.{one-add}
use Rattle.cyc_words.proofs.Searches.{prefix_len-passes, prefix_len-at_least}
use Rattle.cyc_syntax.specs.declared.tokens.Keyword.{Keyword}
use Rattle.cyc_syntax.specs.declared.tokens.TokenKind.TheVariants as kinds
use Rattle.cyc_syntax.specs.Spelling.{is_letter, is_name_byte, is_name, keyword_text, Lexeme}
use Rattle.cyc_syntax.specs.Tokens.{Identifier, Word}
use Rattle.cyc_syntax.proofs.PieceLemmas.{AtName, AtRegion, start_of}
use Rattle.cyc_lex.specs.inside.Found.{IsFound}
use Rattle.cyc_lex.proofs.ShapeLemmas.{Shape, read_at}

-- a name consists only of name bytes (letters, digits and `_`)
pub name_bytes : (name : List ℕ) → is_name name ≡ true → list_all is_name_byte name ≡ true
name_bytes [] named = absurd (true≢false (sym named))
name_bytes (b ∷ bs) named =
    let parts = and_parts (is_letter b) (list_all is_name_byte bs) named in
    and_from _ _ (or_left _ _ parts.0) parts.1

-- If a text begins with a letter, then the longest run of letters, digits and `_` at its start is a name.
name_run : (text : List ℕ) → is_letter (get_or text 0 0) ≡ true → 0 < length text → is_name (take (prefix_len is_name_byte text) text) ≡ true
name_run [] letter within = absurd (omega arith)
name_run (b ∷ bs) letter within =
    ap (λ n. is_name (take n (b ∷ bs))) (cond-true (is_name_byte b) (1 + prefix_len is_name_byte bs) 0 (or_left _ _ letter))
    ∙ rw one-add (and_from _ _ letter (prefix_len-passes is_name_byte bs))

module _ (text : List ℕ) (n : ℕ) (len : n ≡ prefix_len is_name_byte text) (within : 0 < length text) (letter : is_letter (get_or text 0 0) ≡ true) where
  named : is_name (take n text) ≡ true
  named = ap (λ k. is_name (take k text)) len ∙ name_run text letter within

  bound : (front rest : List ℕ) → text ≡ front ++ rest → Shape AtName front → length front ≤ n
  bound front rest whole shape = rw len (prefix_len-at_least is_name_byte text front rest whole (name_bytes front shape))

  inside : n ≤ length text
  inside = rw len (prefix_len-le-length is_name_byte text)

  -- a run of name bytes (letters, digits and `_`) that is not a keyword is read as an identifier
  pub found_identifier : ((k : Keyword) → take n text ≢ keyword_text k) → IsFound text (Some kinds.Identifier) n
  found_identifier fresh = record {
    within = inside;
    piece = (read_at (Lexeme (Identifier (take n text))) AtName text n (cond-true _ _ _ letter) inside (refl, named, fresh) bound, tt);
  }

  -- a run of name bytes (letters, digits and `_`) that spells a keyword is read as that keyword
  pub found_keyword : (k : Keyword) → take n text ≡ keyword_text k → IsFound text (Some (kinds.Keyword k)) n
  found_keyword k spelled = record {
    within = inside;
    piece = (read_at (Lexeme (Word k)) AtName text n (cond-true _ _ _ letter) inside spelled bound, tt);
  }

-- a backquote and a run of name bytes (letters, digits and `_`) are read as a region name
region_bound : (text front rest : List ℕ) → text ≡ front ++ rest → Shape AtRegion front → length front ≤ 1 + prefix_len is_name_byte (drop 1 text)
region_bound text front rest whole shape =
    let tail : drop 1 text ≡ shape.0 ++ rest = ap (drop 1) (whole ∙ ap (λ l. l ++ rest) shape.1) in
    let run = prefix_len-at_least is_name_byte (drop 1 text) shape.0 rest tail (name_bytes shape.0 shape.2) in
    omega (arith, run, ap length shape.1)

pub found_region : (text : List ℕ) (n : ℕ) → n ≡ prefix_len is_name_byte (drop 1 text) → get_or text 0 0 ≡ 96 → 2 ≤ length text → is_letter (get_or text 1 0) ≡ true
    → IsFound text (Some kinds.RegionName) (1 + n)
found_region [] n len first within letter = absurd (omega arith)
found_region (b ∷ bs) n len first within letter =
    let inside : 1 + n ≤ length (b ∷ bs) = omega (arith, len, prefix_len-le-length is_name_byte bs) in
    record {
      within = inside;
      piece = (
        read_at _ AtRegion (b ∷ bs) (1 + n) (ap start_of first) inside
            (rw one-add ((λ j. first j ∷ take n bs), ap (λ k. is_name (take k bs)) len ∙ name_run bs letter (omega arith)))
            (λ front rest whole shape. rw len (region_bound (b ∷ bs) front rest whole shape)),
        tt,
      );
    }
