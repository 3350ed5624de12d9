-- What the words of a line say, one part after another.
use Rattle.std.proofs.Common.{◌≡◌, ◌==◌, ℕ, ◌≤◌, ◌<◌, ◌+◌, Bool, true, false, Option, Some, None, List, [], ◌∷◌, ◌++◌, length, map, drop, get_or, filter, refl, sym, ap, ◌∙◌, append_assoc, append-nil, bytes_eq, if◌then◌else◌}
use Rattle.std.proofs.lemmas.List.{at_drop_all, at_drop_more, map-append}
use Rattle.std.proofs.lemmas.Slice.Eq.{bytes_eq-Decides}
use Rattle.lr_theory.specs.Repair.{Edit}
use Rattle.cfg_numbered.specs.Value.{GrammarValue}
use Rattle.parse_trees.specs.Edits.{edit_of, edits_of}
use Rattle.parse_trees.specs.declared.parse_repair.RepairStep.{RepairStep}
use Rattle.word_lines.specs.Words.{has_bytes, words_in}
use Rattle.word_lines.specs.Repairs.{insert_word, edit_alone, edit_before, edits_said, repair_line}
use Rattle.word_lines.specs.RepairReading.{edits_before, said_by, edit_at, TakesPart, ReadsWord}
use Rattle.word_lines.specs.declared.repairs.WordRead.TheVariants as reads
use Rattle.word_lines.proofs.LexedParts.{parts_of}

-- the parts from the kth on, which the walk yields next
next_part : {Y : Type 0} (F : List (List ℕ) → Y) (line : List ℕ) (k : ℕ) (part : List ℕ) → (k < length (parts_of line)) × (part ≡ get_or (parts_of line) k part) → F (drop k (parts_of line)) ≡ F (part ∷ drop (k + 1) (parts_of line))
next_part F line k part turn = at_drop_more F (parts_of line) k part turn.0 ∙ ap (λ p. F (p ∷ drop (k + 1) (parts_of line))) (sym turn.1)

texts_of : (at : ℕ) (parts : List (List ℕ)) → map (λ w. w.text) (words_in at parts) ≡ filter has_bytes parts
texts_of at [] = refl
texts_of at ([] ∷ parts) = texts_of (at + 0 + 1) parts
texts_of at ((b ∷ bs) ∷ parts) = ap (λ l. (b ∷ bs) ∷ l) (texts_of (at + length (b ∷ bs) + 1) parts)

before_none : (r : Option (List Edit)) → r ≡ edits_before [] r
before_none None = refl
before_none (Some es) = refl

one_more : (part : List ℕ) (parts : List (List ℕ)) → filter has_bytes (part ∷ parts) ≡ filter has_bytes (part ∷ []) ++ filter has_bytes parts
one_more [] parts = refl
one_more (b ∷ bs) parts = refl

-- the parts up to the kth say these edits, with an `insert` that waits for its name or without
abbrev pub SaidTo : GrammarValue → List ℕ → ℕ → List Edit → Bool → Type 0
SaidTo g line k es inserting = repair_line g line ≡ said_by g es inserting (filter has_bytes (drop k (parts_of line)))

pub SaidTo-start : (g : GrammarValue) (line : List ℕ) → SaidTo g line 0 [] false
SaidTo-start g line = ap (edits_said g) (texts_of 0 (parts_of line)) ∙ before_none (edits_said g (filter has_bytes (parts_of line)))

opened : (g : GrammarValue) (line : List ℕ) (k : ℕ) (part : List ℕ) (es : List Edit) (inserting : Bool) → SaidTo g line k es inserting → (k < length (parts_of line)) × (part ≡ get_or (parts_of line) k part) →
    repair_line g line ≡ said_by g es inserting (filter has_bytes (part ∷ []) ++ filter has_bytes (drop (k + 1) (parts_of line)))
opened g line k part es inserting s turn = s ∙ next_part (λ ps. said_by g es inserting (filter has_bytes ps)) line k part turn ∙ ap (said_by g es inserting) (one_more part (drop (k + 1) (parts_of line)))

pub SaidTo-more : (g : GrammarValue) (line : List ℕ) (k : ℕ) (part : List ℕ) (es es' : List Edit) (inserting inserting' : Bool) → SaidTo g line k es inserting → (k < length (parts_of line)) × (part ≡ get_or (parts_of line) k part) →
    TakesPart g part es inserting es' inserting' true → SaidTo g line (k + 1) es' inserting'
SaidTo-more g line k part es es' inserting inserting' s turn takes = opened g line k part es inserting s turn ∙ takes (filter has_bytes (drop (k + 1) (parts_of line)))

pub SaidTo-bad : (g : GrammarValue) (line : List ℕ) (k : ℕ) (part : List ℕ) (es es' : List Edit) (inserting inserting' : Bool) → SaidTo g line k es inserting → (k < length (parts_of line)) × (part ≡ get_or (parts_of line) k part) →
    TakesPart g part es inserting es' inserting' false → None ≡ repair_line g line
SaidTo-bad g line k part es es' inserting inserting' s turn takes = sym (opened g line k part es inserting s turn ∙ takes (filter has_bytes (drop (k + 1) (parts_of line))))

ended : (g : GrammarValue) (line : List ℕ) (k : ℕ) (es : List Edit) (inserting : Bool) → SaidTo g line k es inserting → length (parts_of line) ≤ k → repair_line g line ≡ said_by g es inserting []
ended g line k es inserting s h = s ∙ at_drop_all (λ ps. said_by g es inserting (filter has_bytes ps)) (parts_of line) k h

pub SaidTo-end : (g : GrammarValue) (line : List ℕ) (k : ℕ) (es : List Edit) (inserting : Bool) → SaidTo g line k es inserting → length (parts_of line) ≤ k → inserting ≡ false → Some es ≡ repair_line g line
SaidTo-end g line k es inserting s h e = sym (ended g line k es inserting s h ∙ ap (λ b. said_by g es b []) e ∙ ap Some (append-nil es))

pub SaidTo-waits : (g : GrammarValue) (line : List ℕ) (k : ℕ) (es : List Edit) (inserting : Bool) → SaidTo g line k es inserting → length (parts_of line) ≤ k → inserting ≡ true → None ≡ repair_line g line
SaidTo-waits g line k es inserting s h e = sym (ended g line k es inserting s h ∙ ap (λ b. said_by g es b []) e)

-- a word that is no `insert`, or behind one
said_one : (g : GrammarValue) (es : List Edit) (inserting : Bool) (b : ℕ) (bs : List ℕ) (more : List (List ℕ)) → (inserting ≡ false → bytes_eq (b ∷ bs) insert_word ≡ false) →
    said_by g es inserting ((b ∷ bs) ∷ more) ≡ edits_before es (edit_before (edit_at g inserting (b ∷ bs)) (edits_said g more))
said_one g es true b bs more h = refl
said_one g es false b bs [] h = refl
said_one g es false b bs (m ∷ ms) h = ap (λ t. edits_before es (if t then edit_before (edit_at g true m) (edits_said g ms) else edit_before (edit_alone (b ∷ bs)) (edits_said g (m ∷ ms)))) (h refl)

joins : (es : List Edit) (e : Edit) (r : Option (List Edit)) → edits_before es (edit_before (Some e) r) ≡ edits_before (es ++ e ∷ []) r
joins es e None = refl
joins es e (Some more) = ap Some (sym (append_assoc es (e ∷ []) more))

pub takes_step : {S : Type 0} (number : S → ℕ) (g : GrammarValue) (part : List ℕ) (inserting : Bool) (old new : List (RepairStep S)) (step : RepairStep S) → (length part == 0) ≡ false → ReadsWord number g inserting part (reads.Step step) → new ≡ old ++ step ∷ [] →
    TakesPart g part (edits_of number old) inserting (edits_of number new) false true
takes_step number g [] inserting old new step some r e = cc
takes_step number g (b ∷ bs) inserting old new step some r e = λ more.
    said_one g (edits_of number old) inserting b bs more r.0
    ∙ ap (λ o. edits_before (edits_of number old) (edit_before o (edits_said g more))) r.1
    ∙ joins (edits_of number old) (edit_of number step) (edits_said g more)
    ∙ ap (λ es. edits_before es (edits_said g more)) (sym (map-append (edit_of number) old (step ∷ [])))
    ∙ ap (λ xs. edits_before (edits_of number xs) (edits_said g more)) (sym e)

pub takes_none : {S : Type 0} (number : S → ℕ) (g : GrammarValue) (part : List ℕ) (inserting : Bool) (es es' : List Edit) (inserting' : Bool) → (length part == 0) ≡ false → ReadsWord number g inserting part reads.Other → TakesPart g part es inserting es' inserting' false
takes_none number g [] inserting es es' inserting' some r = cc
takes_none number g (b ∷ bs) inserting es es' inserting' some r = λ more. said_one g es inserting b bs more r.0 ∙ ap (λ o. edits_before es (edit_before o (edits_said g more))) r.1

pub takes_insert : {S : Type 0} (number : S → ℕ) (g : GrammarValue) (part : List ℕ) (inserting : Bool) (es : List Edit) → ReadsWord {S = S} number g inserting part reads.Insert → TakesPart g part es inserting es true true
takes_insert number g part inserting es r = λ more.
    ap (λ b. said_by g es b (filter has_bytes (part ∷ []) ++ more)) r.0 ∙ ap (λ p. said_by g es false (filter has_bytes (p ∷ []) ++ more)) ((bytes_eq-Decides part insert_word).0 r.1)

pub SaidTo-on : (g : GrammarValue) (line : List ℕ) (k : ℕ) (part : List ℕ) (es es' : List Edit) (inserting inserting' taken : Bool) → SaidTo g line k es inserting → (k < length (parts_of line)) × (part ≡ get_or (parts_of line) k part) →
    TakesPart g part es inserting es' inserting' taken → taken ≡ true → SaidTo g line (k + 1) es' inserting'
SaidTo-on g line k part es es' inserting inserting' true s turn takes e = SaidTo-more g line k part es es' inserting inserting' s turn takes
SaidTo-on g line k part es es' inserting inserting' false s turn takes e = cc

pub SaidTo-off : (g : GrammarValue) (line : List ℕ) (k : ℕ) (part : List ℕ) (es es' : List Edit) (inserting inserting' taken : Bool) → SaidTo g line k es inserting → (k < length (parts_of line)) × (part ≡ get_or (parts_of line) k part) →
    TakesPart g part es inserting es' inserting' taken → taken ≡ false → None ≡ repair_line g line
SaidTo-off g line k part es es' inserting inserting' true s turn takes e = cc
SaidTo-off g line k part es es' inserting inserting' false s turn takes e = SaidTo-bad g line k part es es' inserting inserting' s turn takes
