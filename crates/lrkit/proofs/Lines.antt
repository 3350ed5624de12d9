-- What is out after each line.
use Rattle.std.proofs.Common.{◌≡◌, ℕ, ◌≤◌, ◌<◌, ◌+◌, Bool, true, false, Option, List, [], ◌∷◌, ◌++◌, length, take, get_or, refl, sym, ap, ◌∙◌, append_assoc, append-nil, subst, ⊎_elim}
use Rattle.std.specs.Prelude.{◌||◌}
use Rattle.std.specs.Io.KnownBytes.{Appends}
use Rattle.std.proofs.KnownBytes.{Appends-nil}
use Rattle.std.proofs.lemmas.List.{take_more, take_all}
use Rattle.byte_streams.specs.Sink.{BeginningWritten}
use Rattle.lr_theory.specs.Repair.{Edit}
use Rattle.lrpar.specs.Checked.{ParserValue}
use Rattle.lrkit.specs.Output.{LineText, LineTexts, BeginsTexts}
use Rattle.lrkit.specs.Writing.{LeavesLine, BeginsLineText, BeginsLine, LeavesLines, WritesLines}
use Rattle.lrkit.proofs.OutBut.{all_waits, less_waits, more_waits, none_waits, some_goes}
use Rattle.lrkit.proofs.Written.{beginning}

or-assoc : (a b c : Bool) → ((a || b) || c) ≡ (a || (b || c))
or-assoc true b c = refl
or-assoc false b c = refl

or-false : (a : Bool) → a ≡ (a || false)
or-false true = refl
or-false false = refl

LineTexts-push : (k : ParserValue) (rs : List (List Edit)) (xs : List (List ℕ)) (x t u : List ℕ) (f g : Bool) → LineTexts k rs xs t f → LineText k rs x u g → LineTexts k rs (xs ++ x ∷ []) (t ++ u) (f || g)
LineTexts-push k rs [] x t u f g e l = record {
  first_text = u;
  other_text = [];
  first_faulty = g;
  other_faulty = false;
  is_first = l;
  are_others = (refl, refl);
  text_is = ap (λ s. s ++ u) e.0 ∙ sym (append-nil u);
  faulty_is = ap (λ b. b || g) e.1 ∙ or-false g;
}
LineTexts-push k rs (y ∷ ys) x t u f g e l = record {
  first_text = e.first_text;
  other_text = e.other_text ++ u;
  first_faulty = e.first_faulty;
  other_faulty = e.other_faulty || g;
  is_first = e.is_first;
  are_others = LineTexts-push k rs ys x e.other_text u e.other_faulty g e.are_others l;
  text_is = ap (λ s. s ++ u) e.text_is ∙ append_assoc e.first_text e.other_text u;
  faulty_is = ap (λ b. b || g) e.faulty_is ∙ or-assoc e.first_faulty e.other_faulty g;
}

-- a beginning of what waits behind the first i lines goes out
pub BeginsTexts-rest : (k : ParserValue) (rs : List (List Edit)) (all : List (List ℕ)) (i : ℕ) (a b c : Option (List ℕ)) (waits : List ℕ) (f : Bool) → LeavesLines k rs (take i all) a b waits f → BeginningWritten b c waits → BeginsTexts k rs all a c
BeginsTexts-rest k rs all i a b c waits f s h = record { count = i; text = s.text; faulty = f; texts = s.texts; written = some_goes a b c s.text waits s.out_but h }

module _ (k : ParserValue) (rs : List (List Edit)) (all : List (List ℕ)) (i : ℕ) (x : List ℕ) (a b c : Option (List ℕ)) (waits : List ℕ) (f : Bool) (turn : (i < length all) × (x ≡ get_or all i x)) (s : LeavesLines k rs (take i all) a b waits f) where
  pushed : (u : List ℕ) (g : Bool) → LineText k rs x u g → LineTexts k rs (take (i + 1) all) (s.text ++ u) (f || g)
  pushed u g l =
      let P : List (List ℕ) → Type 0 = λ xs. LineTexts k rs xs (s.text ++ u) (f || g) in
      subst P (ap (λ y. take i all ++ y ∷ []) turn.1 ∙ sym (take_more all i x turn.0)) (LineTexts-push k rs (take i all) x s.text u f g s.texts l)

  pub LeavesLines-more : (waits' : List ℕ) (g r : Bool) → LeavesLine k rs x b c waits waits' g → r ≡ (f || g) → LeavesLines k rs (take (i + 1) all) a c waits' r
  LeavesLines-more waits' g r w e =
      rw e (record { text = s.text ++ w.text; texts = pushed w.text g w.is_text; out_but = less_waits a b c (s.text ++ w.text) (waits ++ w.text) waits' (more_waits a b s.text waits w.text s.out_but) w.out_but })

  begun : BeginsLineText k rs x b c waits → BeginsTexts k rs all a c
  begun l = record {
    count = i + 1;
    text = s.text ++ l.text;
    faulty = f || l.faulty;
    texts = pushed l.text l.faulty l.is_text;
    written = some_goes a b c (s.text ++ l.text) (waits ++ l.text) (more_waits a b s.text waits l.text s.out_but) l.written;
  }

  pub BeginsTexts-more : BeginsLine k rs x b c waits → BeginsTexts k rs all a c
  BeginsTexts-more l = ⊎_elim (BeginsTexts-rest k rs all i a b c waits f s) begun l

pub LeavesLines-start : (k : ParserValue) (rs : List (List Edit)) (all : List (List ℕ)) (a : Option (List ℕ)) (waits : List ℕ) → waits ≡ [] → LeavesLines k rs (take 0 all) a a waits false
LeavesLines-start k rs all a waits e = record { text = []; texts = (refl, refl); out_but = rw e (all_waits a []) }

pub BeginsTexts-start : (k : ParserValue) (rs : List (List Edit)) (all : List (List ℕ)) (a : Option (List ℕ)) → BeginsTexts k rs all a a
BeginsTexts-start k rs all a = record { count = 0; text = []; faulty = false; texts = (refl, refl); written = beginning a a [] [] [] refl (Appends-nil a) }

pub WritesLines-end : (k : ParserValue) (rs : List (List Edit)) (all : List (List ℕ)) (i : ℕ) (a b c : Option (List ℕ)) (waits : List ℕ) (f : Bool) → LeavesLines k rs (take i all) a b waits f → length all ≤ i → Appends b c waits → WritesLines k rs all a c f
WritesLines-end k rs all i a b c waits f s h w =
    let P : List (List ℕ) → Type 0 = λ xs. LineTexts k rs xs s.text f in
    record { text = s.text; texts = subst P (take_all i all h) s.texts; written = none_waits a b c s.text waits s.out_but w }
