-- Each word of a line is a part of it, and a lexeme's is the name of its token.
use Rattle.std.proofs.Common.{◌≡◌, ℕ, zero, suc, ◌+◌, ◌-◌, eqb, Result, Ok, Option, Some, None, List, [], ◌∷◌, ◌++◌, length, take, drop, map, slice_get, option_map, refl, sym, ap, ◌∙◌, subst, arith}
use Rattle.std.specs.Prelude.{slice_range}
use Rattle.std.specs.List.{slice_split, join_with_byte}
use Rattle.std.proofs.Math.Seq.{take-append_seam, drop-append-add}
use Rattle.std.proofs.lemmas.List.{append-nil, drop-drop}
use Rattle.std.proofs.lemmas.List.Splits.{join_with_byte-slice_split}
use Rattle.std.proofs.lemmas.Option.{slice_get-map}
use Rattle.cfg_numbered.specs.Value.{GrammarValue}
use Rattle.parse_trees.specs.Shapes.{joined, text_or_none, token_text}
use Rattle.word_lines.specs.Words.{Word, words, words_in, token_named}
use Rattle.word_lines.specs.Lexing.{item_of, items_of, lexeme_of}
use Rattle.word_lines.specs.NodeRows.{AreNamed, IsNamed}
use Rattle.word_lines.specs.declared.lexeme.WordLexeme.{WordLexeme}
use Rattle.word_lines.specs.declared.lexeme.WordLexError.{WordLexError}
use Rattle.word_lines.proofs.NamedTokens.{named_within}
use Rattle.word_lines.proofs.TakenLexemes.{by_token}

module _ (line : List ℕ) where
  abbrev IsPart : Word → Type 0
  IsPart w = slice_range line w.start (w.start + length w.text) ≡ w.text

  here : (at : ℕ) (part rest : List ℕ) → drop at line ≡ part ++ rest → slice_range line at (at + length part) ≡ part
  here at part rest e =
      let long : (at + length part) - at ≡ length part = omega arith in
      ap (λ n. take n (drop at line)) long ∙ ap (take (length part)) e ∙ take-append_seam part rest

  last : (at : ℕ) (part : List ℕ) → drop at line ≡ part → slice_range line at (at + length part) ≡ part
  last at part e = here at part [] (e ∙ sym (append-nil part))

  next : (at : ℕ) (part rest : List ℕ) → drop at line ≡ part ++ 32 ∷ rest → drop (at + length part + 1) line ≡ rest
  next at part rest e =
      let sum : at + length part + 1 ≡ at + (length part + 1) = omega arith in
      ap (λ n. drop n line) sum ∙ sym (drop-drop (length part + 1) at line) ∙ ap (drop (length part + 1)) e ∙ drop-append-add part (32 ∷ rest) 1

  word_there : (w v : Word) → Some w ≡ Some v → IsPart w → IsPart v
  word_there w v e h = let same : w ≡ v = cc in subst IsPart same h

  words_there : (at : ℕ) (parts : List (List ℕ)) → drop at line ≡ join_with_byte 32 parts → (k : ℕ) (w : Word) → slice_get (words_in at parts) k ≡ Some w → IsPart w
  words_there at [] e k w h = cc
  words_there at ([] ∷ []) e k w h = cc
  words_there at ([] ∷ q ∷ qs) e k w h = words_there (at + 0 + 1) (q ∷ qs) (next at [] (join_with_byte 32 (q ∷ qs)) e) k w h
  words_there at ((b ∷ bs) ∷ []) e zero w h = word_there (record { start = at; text = b ∷ bs }) w h (last at (b ∷ bs) e)
  words_there at ((b ∷ bs) ∷ []) e (suc k) w h = cc
  words_there at ((b ∷ bs) ∷ q ∷ qs) e zero w h = word_there (record { start = at; text = b ∷ bs }) w h (here at (b ∷ bs) (32 ∷ join_with_byte 32 (q ∷ qs)) e)
  words_there at ((b ∷ bs) ∷ q ∷ qs) e (suc k) w h = words_there (at + length (b ∷ bs) + 1) (q ∷ qs) (next at (b ∷ bs) (join_with_byte 32 (q ∷ qs)) e) k w h

  words_are_parts : (k : ℕ) (w : Word) → slice_get (words line) k ≡ Some w → IsPart w
  words_are_parts = words_there 0 (slice_split (λ b. eqb b 32) line) (sym (join_with_byte-slice_split 32 line))

from_map : {A B : Type 0} (f : A → B) (o : Option A) (y : B) → option_map f o ≡ Some y → (x : A) × (o ≡ Some x) × (f x ≡ y)
from_map f None y e = cc
from_map f (Some x) y e = let same : f x ≡ y = cc in (x, refl, same)

pub are_named : {S : Type 0} (number : S → ℕ) (of_number : ℕ → S) → ((t : ℕ) → number (of_number t) ≡ t) → (g : GrammarValue) (line : List ℕ) → AreNamed number g line (items_of of_number g line)
are_named number of_number of_is g line = λ k x at.
    let (w, here, is) = from_map (item_of of_number g) (slice_get (words line) k) (Ok x) (sym (slice_get-map (item_of of_number g) (words line) k) ∙ at) in
    let (t, found, same) = by_token of_number w x (token_named g w.text) is in
    let named = named_within g w.text t found in
    let text : token_text g t ≡ w.text = ap (λ o. text_or_none (joined o)) named.at in
    subst (λ (y : WordLexeme _). IsNamed number g line y) same (words_are_parts line k w here ∙ sym text ∙ ap (token_text g) (sym (of_is t)))
