use Rattle.std.proofs.Common.{◌≡◌, ◌∙◌, ◌<◌, ℕ, List, Result, Ok, Err, Option, Some, None, length, sym, ap, arith}
use Rattle.std.specs.Prelude.{slice_get, option_map}
use Rattle.std.proofs.lemmas.List.{length-map}
use Rattle.std.proofs.lemmas.Option.{slice_get-map, slice_get_within}
use Rattle.parse_trees.specs.Lexemes.{AreItems}
use Rattle.word_lines.proofs.outlines.lexeme_at.Goals as goal

module _ {L E : Type 0} (items : List (Result L E)) (lexemes : List L) (are : AreItems items lexemes) (k : ℕ) where
  abbrev to_item : L → Result L E
  to_item y = Ok y

  within : (x : L) → slice_get lexemes k ≡ Some x → k < length items
  within x at =
      let lt = slice_get_within lexemes k x at in
      let long : length items ≡ length lexemes = ap length are ∙ length-map {B = Result L E} lexemes to_item in
      omega (arith, lt, long)

  item : slice_get items k ≡ option_map to_item (slice_get lexemes k)
  item = ap (λ l. slice_get l k) are ∙ slice_get-map to_item lexemes k

  of_item : (o : Option L) (x : L) → option_map to_item o ≡ Some (to_item x) → o ≡ Some x
  of_item None x e = cc
  of_item (Some y) x e = cc

  -- the item that was read is a lexeme
  lexeme : (r : Result L E) (x : L) → slice_get items k ≡ Some r → r ≡ Ok x → slice_get lexemes k ≡ Some x
  lexeme r x at is = of_item (slice_get lexemes k) x (sym item ∙ at ∙ ap (λ z. Some z) is)

  -- and no error
  no_fault : (r : Result L E) (x : L) (e : E) → slice_get lexemes k ≡ Some x → slice_get items k ≡ Some r → r ≡ Err e → ⊥
  no_fault r x e here at is =
      let same : Some (to_item x) ≡ Some r = sym (ap (option_map to_item) here) ∙ sym item ∙ at in
      let other : Some r ≡ Some (Err e) = ap (λ z. Some z) is in
      cc

pub item_at-requires : goal.item_at-requires
item_at-requires g c = let r = c.requires in within c.args.items.now r.0 r.2 c.args.number r.1 r.3

pub unreachable-requires : goal.unreachable-requires
unreachable-requires g c = let r = c.requires in no_fault c.args.items.now r.0 r.2 c.args.number c.item_at.result r.1 _ r.3 c.item_at.ensures c.in-Err.is

pub returns-clause-lexeme : goal.returns-clause-lexeme
returns-clause-lexeme g c = λ lexemes are. lexeme c.args.items.now lexemes are c.args.number c.item_at.result c.in-Ok.lexeme c.item_at.ensures c.in-Ok.is
