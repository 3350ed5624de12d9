-- The lines of a text of repairs, one after another.
use Rattle.std.proofs.Common.{◌≡◌, ℕ, ◌≤◌, ◌<◌, ◌+◌, Bool, true, false, Some, List, [], ◌∷◌, ◌++◌, length, map, take, drop, get_or, sym, ap, ◌∙◌, arith, take-append-drop}
use Rattle.std.proofs.lemmas.List.{take_more, take_all, drop_more, map-append, length-map}
use Rattle.std.specs.Prelude.{Vec}
use Rattle.std.specs.declared.alloc.Global.{Global}
use Rattle.lr_theory.specs.Repair.{Edit}
use Rattle.parse_trees.specs.Edits.{edits_of, sequences_of}
use Rattle.parse_trees.specs.declared.parse_repair.RepairStep.{RepairStep}
use Rattle.cfg_numbered.specs.Value.{GrammarValue}
use Rattle.word_lines.specs.Repairs.{repair_line, IsFirstBadLine}
use Rattle.word_lines.specs.RepairReading.{TakesLine}

-- the first k lines are these repairs
abbrev pub ReadTo : GrammarValue → List (List ℕ) → ℕ → List (List Edit) → Type 0
ReadTo g ls k read = map (repair_line g) (take k ls) ≡ map Some read

pub ReadTo-more : (g : GrammarValue) (ls : List (List ℕ)) (k : ℕ) (line : List ℕ) (read read' : List (List Edit)) → ReadTo g ls k read → (k < length ls) × (line ≡ get_or ls k line) → TakesLine g line read read' true → ReadTo g ls (k + 1) read'
ReadTo-more g ls k line read read' s turn (es, is, e) =
    ap (map (repair_line g)) (take_more ls k line turn.0 ∙ ap (λ x. take k ls ++ x ∷ []) (sym turn.1))
    ∙ map-append (repair_line g) (take k ls) (line ∷ [])
    ∙ ap (λ xs. xs ++ repair_line g line ∷ []) s
    ∙ ap (λ o. map Some read ++ o ∷ []) is
    ∙ sym (map-append Some read (es ∷ []))
    ∙ ap (map Some) (sym e)

pub ReadTo-bad : (g : GrammarValue) (ls : List (List ℕ)) (k : ℕ) (line : List ℕ) (read read' : List (List Edit)) (n : ℕ) → ReadTo g ls k read → (k < length ls) × (line ≡ get_or ls k line) → TakesLine g line read read' false → n ≡ length read' → IsFirstBadLine g ls (n + 1)
ReadTo-bad g ls k line read read' n s turn (is, same) e =
    let count : length (take k ls) ≡ length read = sym (length-map (take k ls) (repair_line g)) ∙ ap length s ∙ length-map read Some in
    record {
      before = take k ls;
      bad = line;
      after = drop (k + 1) ls;
      are_lines = sym (take-append-drop k ls) ∙ ap (λ r. take k ls ++ r) (drop_more ls k line turn.0 ∙ ap (λ x. x ∷ drop (k + 1) ls) (sym turn.1));
      number_is = let same_count : length read' ≡ length read = ap length same in omega (arith, count, e, same_count);
      repairs = read;
      are_repairs = s;
      is_bad = is;
    }

pub ReadTo-end : (g : GrammarValue) (ls : List (List ℕ)) (k : ℕ) (read : List (List Edit)) → ReadTo g ls k read → length ls ≤ k → map (repair_line g) ls ≡ map Some read
ReadTo-end g ls k read s h = ap (map (repair_line g)) (sym (take_all k ls h)) ∙ s

pub ReadTo-on : (g : GrammarValue) (ls : List (List ℕ)) (k : ℕ) (line : List ℕ) (read read' : List (List Edit)) (taken : Bool) → ReadTo g ls k read → (k < length ls) × (line ≡ get_or ls k line) → TakesLine g line read read' taken → taken ≡ true → ReadTo g ls (k + 1) read'
ReadTo-on g ls k line read read' true s turn takes e = ReadTo-more g ls k line read read' s turn takes
ReadTo-on g ls k line read read' false s turn takes e = cc

pub ReadTo-off : (g : GrammarValue) (ls : List (List ℕ)) (k : ℕ) (line : List ℕ) (read read' : List (List Edit)) (taken : Bool) (n : ℕ) → ReadTo g ls k read → (k < length ls) × (line ≡ get_or ls k line) → TakesLine g line read read' taken → taken ≡ false → n ≡ length read' → IsFirstBadLine g ls (n + 1)
ReadTo-off g ls k line read read' true n s turn takes e c = cc
ReadTo-off g ls k line read read' false n s turn takes e c = ReadTo-bad g ls k line read read' n s turn takes c

-- the sequence of a line was put
pub takes_line : {S : Type 0} (number : S → ℕ) (g : GrammarValue) (line : List ℕ) (old new : List (Vec (RepairStep S) Global)) (v : Vec (RepairStep S) Global) → Some (edits_of number v.items) ≡ repair_line g line → new ≡ old ++ v ∷ [] →
    TakesLine g line (sequences_of number old) (sequences_of number new) true
takes_line number g line old new v e n = (edits_of number v.items, sym e, ap (sequences_of number) n ∙ map-append (λ (es : Vec (RepairStep _) Global). edits_of number es.items) old (v ∷ []))
