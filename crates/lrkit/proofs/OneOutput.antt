-- A grammar, lines and repairs have one output.
use Rattle.std.proofs.Common.{◌≡◌, ℕ, Bool, List, [], ◌∷◌, ◌++◌, map, Option, Some, Result, Ok, Err, refl, sym, ap, ◌∙◌, subst}
use Rattle.std.specs.Prelude.{◌||◌}
use Rattle.std.specs.List.{flat_map}
use Rattle.std.specs.Str.Lines.{lines}
use Rattle.cfg_numbered.specs.Value.{GrammarValue}
use Rattle.cfg_read.specs.declared.yacc.YaccKind.{YaccKind}
use Rattle.cfg_theory.specs.Tree.{Tree}
use Rattle.lr_theory.specs.Repair.{Edit}
use Rattle.parse_trees.specs.ErrorTexts.{parsing_error_text}
use Rattle.lrpar.specs.Told.{ToldError, told_of}
use Rattle.lrpar.specs.declared.parse_error.ParseError.{ParseError}
use Rattle.lrpar.specs.Checked.{ParserValue}
use Rattle.parser_kit.specs.Kit.{IsKitOf, KitValue}
use Rattle.parser_kit.specs.KitParses.{ParseAlike}
use Rattle.parser_kit.specs.TextKinds.{IsKindOfText}
use Rattle.word_lines.specs.Lexing.{lex_of}
use Rattle.word_lines.specs.LineTexts.{error_line, fault_line, shown_name, value_text}
use Rattle.word_lines.specs.Repairs.{repair_line}
use Rattle.word_lines.specs.declared.lexeme.WordLexError.{WordLexError}
use Rattle.lrkit.specs.Output.{LineText, LineTexts, Output, Word, has_some, id, items, made_up, parsed_text}
use Rattle.lrkit.specs.RunKits.{IsRunKit, cap, top}

-- ---- lists

somes_same : {X : Type 0} (xs ys : List X) → map Some xs ≡ map Some ys → xs ≡ ys
somes_same [] [] e = refl
somes_same [] (y ∷ ys) e = cc
somes_same (x ∷ xs) [] e = cc
somes_same (x ∷ xs) (y ∷ ys) e =
    let front : x ≡ y = cc in
    let rest : map Some xs ≡ map Some ys = cc in
    ap (λ z. z ∷ xs) front ∙ ap (λ zs. y ∷ zs) (somes_same xs ys rest)

first_same : {L E : Type 0} (xs ys : List L) (e f : E) (us vs : List (Result L E)) → map Ok xs ++ Err e ∷ us ≡ map Ok ys ++ Err f ∷ vs → e ≡ f
first_same [] [] e f us vs h = cc
first_same [] (y ∷ ys) e f us vs h = cc
first_same (x ∷ xs) [] e f us vs h = cc
first_same {L} {E} (x ∷ xs) (y ∷ ys) e f us vs h =
    let rest : map {B = Result L E} Ok xs ++ Err e ∷ us ≡ map Ok ys ++ Err f ∷ vs = cc in
    first_same xs ys e f us vs rest

not_all : {L E : Type 0} (xs ys : List L) (e : E) (us : List (Result L E)) → map Ok xs ++ Err e ∷ us ≡ map Ok ys → ⊥
not_all [] [] e us h = cc
not_all [] (y ∷ ys) e us h = cc
not_all (x ∷ xs) [] e us h = cc
not_all {L} {E} (x ∷ xs) (y ∷ ys) e us h =
    let rest : map {B = Result L E} Ok xs ++ Err e ∷ us ≡ map Ok ys = cc in
    not_all xs ys e us rest

-- ---- a line

module _ (g : GrammarValue) (line : List ℕ) where
  -- the text of an error, of what is told of it
  abbrev told_line : ToldError Word → List ℕ
  told_line d = parsing_error_text (shown_name g) line (lex_of id) d.lexeme d.repairs ++ 10 ∷ []

  lines_told : (es : List (ParseError Word ℕ)) → flat_map (error_line id g line) es ≡ flat_map told_line (map (told_of id) es)
  lines_told [] = refl
  lines_told (e ∷ es) = ap (λ l. error_line id g line e ++ l) (lines_told es)

  texts_same : (es fs : List (ParseError Word ℕ)) (t u : Option (Tree Word)) → map (told_of id) es ≡ map (told_of id) fs → t ≡ u → parsed_text g line es t ≡ parsed_text g line fs u
  texts_same es fs t u told same =
      ap (λ l. l ++ value_text id g line t) (lines_told es ∙ ap (flat_map told_line) told ∙ sym (lines_told fs)) ∙ ap (λ r. flat_map (error_line id g line) fs ++ value_text id g line r) same

some_same : (es fs : List (ParseError Word ℕ)) → map (told_of id) es ≡ map (told_of id) fs → has_some es ≡ has_some fs
some_same [] [] e = refl
some_same [] (y ∷ ys) e = cc
some_same (x ∷ xs) [] e = cc
some_same (x ∷ xs) (y ∷ ys) e = refl

module _ (k : ParserValue) (rs : List (List Edit)) (alike : ParseAlike ℕ ℕ Word WordLexError k k) where
  one_line : (line t u : List ℕ) (f g : Bool) → LineText k rs line t f → LineText k rs line u g → (t ≡ u) × (f ≡ g)
  one_line line t u f g (LineText.lexing_error e h text faulty) (LineText.lexing_error d i other wrong) =
      (text ∙ ap (fault_line line) (first_same h.before i.before e d h.after i.after (sym h.is ∙ i.is)) ∙ sym other, faulty ∙ sym wrong)
  one_line line t u f g (LineText.lexing_error e h text faulty) (LineText.parsed r es q other wrong) = absurd (not_all h.before q.lexemes e h.after (sym h.is ∙ q.are_items))
  one_line line t u f g (LineText.parsed r es p text faulty) (LineText.lexing_error d i other wrong) = absurd (not_all i.before p.lexemes d i.after (sym i.is ∙ p.are_items))
  one_line line t u f g (LineText.parsed r es p text faulty) (LineText.parsed s fs q other wrong) =
      let same = alike id id (lex_of id) made_up (λ state index lexeme. rs) (items k rs line) r s es fs p q in
      (text ∙ texts_same k.grammar line es fs r s same.0 same.1 ∙ sym other, faulty ∙ some_same es fs same.0 ∙ sym wrong)

  one_text : (xs : List (List ℕ)) (t u : List ℕ) (f g : Bool) → LineTexts k rs xs t f → LineTexts k rs xs u g → (t ≡ u) × (f ≡ g)
  one_text [] t u f g h i = (h.0 ∙ sym i.0, h.1 ∙ sym i.1)
  one_text (x ∷ xs) t u f g h i =
      let first = one_line x h.first_text i.first_text h.first_faulty i.first_faulty h.is_first i.is_first in
      let others = one_text xs h.other_text i.other_text h.other_faulty i.other_faulty h.are_others i.are_others in (
        h.text_is ∙ ap (λ l. l ++ h.other_text) first.0 ∙ ap (λ l. i.first_text ++ l) others.0 ∙ sym i.text_is,
        h.faulty_is ∙ ap (λ b. b || h.other_faulty) first.1 ∙ ap (λ b. i.first_faulty || b) others.1 ∙ sym i.faulty_is,
      )

-- ---- all lines

module _ (kinds : (text : List ℕ) (k l : YaccKind) → IsKindOfText text k → IsKindOfText text l → k ≡ l)
    (kits : (top top' cap : ℕ) (kind : YaccKind) (text : List ℕ) (k l : KitValue) → IsKitOf top kind text cap k → IsKitOf top' kind text cap l → k ≡ l) where
  -- a grammar has one kit
  pub one_run_kit : (grammar : List ℕ) (k l : ParserValue) → IsRunKit grammar k → IsRunKit grammar l → k ≡ l
  one_run_kit grammar k l x y =
      let a : KitValue = record { kept = x.kept; parser = k } in
      let b : KitValue = record { kept = y.kept; parser = l } in
      let P : YaccKind → Type 0 = λ kind. IsKitOf top kind grammar cap a in
      ap (λ (v : KitValue). v.parser) (kits top top cap y.kind grammar a b (subst P (kinds grammar x.kind y.kind x.is_kind y.is_kind) x.is_kit) y.is_kit)

module _ (kinds : (text : List ℕ) (k l : YaccKind) → IsKindOfText text k → IsKindOfText text l → k ≡ l)
    (kits : (top top' cap : ℕ) (kind : YaccKind) (text : List ℕ) (k l : KitValue) → IsKitOf top kind text cap k → IsKitOf top' kind text cap l → k ≡ l)
    (alike : (top top' cap : ℕ) (kind : YaccKind) (text : List ℕ) (k l : KitValue) → IsKitOf top kind text cap k → IsKitOf top' kind text cap l → ParseAlike ℕ ℕ Word WordLexError k.parser l.parser) where
  pub one_output : (grammar line_text repair_text text other : List ℕ) (faulty wrong : Bool) → Output grammar line_text repair_text text faulty → Output grammar line_text repair_text other wrong → (text ≡ other) × (faulty ≡ wrong)
  one_output grammar line_text repair_text text other faulty wrong o p =
      let kit = one_run_kit kinds kits grammar o.kit p.kit o.ready.is_kit p.ready.is_kit in
      let read = sym o.ready.are_repairs ∙ ap (λ (k : ParserValue). map (repair_line k.grammar) (lines repair_text)) kit ∙ p.ready.are_repairs in
      let repairs = somes_same o.repairs p.repairs read in
      let P : ParserValue → Type 0 = λ k. LineTexts k p.repairs (lines line_text) other wrong in
      let Q : List (List Edit) → Type 0 = λ rs. LineTexts o.kit rs (lines line_text) other wrong in
      let moved = subst Q (sym repairs) (subst P (sym kit) p.texts) in
      let is_kit = o.ready.is_kit in
      let whole : KitValue = record { kept = is_kit.kept; parser = o.kit } in
      one_text o.kit o.repairs (alike top top cap is_kit.kind grammar whole whole is_kit.is_kit is_kit.is_kit) (lines line_text) text other faulty wrong o.texts moved
