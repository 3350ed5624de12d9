-- What is kept of a text is well made, and stays so whichever rule is made the start rule.
use Rattle.std.proofs.Common.{◌≡◌, ℕ, Bool, true, false, List, [], ◌∷◌, map, Some, Contains, if◌then◌else◌, refl, sym, ◌∙◌, subst, true≢false}
use Rattle.std.specs.Str.{bytes_eq}
use Rattle.std.proofs.lemmas.Slice.Eq.{bytes_eq-Decides}
use Rattle.cfg_base.specs.SpanModel.{SpanModel}
use Rattle.cfg_read.specs.declared.yacc.YaccKind.{YaccKind}
use Rattle.cfg_read.specs.SyntaxTexts.{SyntaxText}
use Rattle.cfg_read.specs.Validity.{FailureText, failures}
use Rattle.cfg_read.specs.Asts.{Ast, RuleAst}
use Rattle.cfg_read.specs.AstChanges.{with_start}
use Rattle.cfg_read.specs.ValidityInfo.{CheckedAst, is_valid, read_as, unread, IsChecked, reads_as, has_errors, heading_at, starts_at, ChangesStart, HeadingsAreWords, IsWellMade}
use Rattle.cfg_read.proofs.WellFormedStart.{start_is_free}
use Rattle.cfg_read.proofs.WellFormedNames.{Contains-head, Contains-cons}
use Rattle.cfg_read.proofs.WellFormedTrees.{valid_is_well_formed}
use Rattle.cfg_read.proofs.HeadingWords.{headings_are_words, names_are_words}
use Rattle.cfg_read.proofs.OneAnswer.{fails_some, made}

none_left : (fs : List FailureText) → is_valid fs ≡ true → fs ≡ []
none_left [] h = refl
none_left (f ∷ fs) h = absurd (true≢false (sym h))

pub read_well : (kind : YaccKind) (x : SyntaxText) → HeadingsAreWords x → IsWellMade (read_as kind x)
read_well kind x h = record {
  well_formed = λ v. valid_is_well_formed (is_valid (failures x)) x (none_left (failures x) v);
  names = λ v. names_are_words (is_valid (failures x)) x h;
}

pub invalid_well : (c : CheckedAst) → is_valid c.errors ≡ false → IsWellMade c
invalid_well c e = record { well_formed = λ v. absurd (true≢false (sym v ∙ e)); names = λ v. absurd (true≢false (sym v ∙ e)) }

pub checked_well : (kind : YaccKind) (text : List ℕ) (c : CheckedAst) → IsChecked kind text c → IsWellMade c
checked_well kind text c (reads_as x r is) = subst IsWellMade (sym is) (read_well kind x (headings_are_words kind text r.end x r.rest))
checked_well kind text c (has_errors fs f is) = subst IsWellMade (sym is) (invalid_well (unread kind fs) (fails_some kind text fs f))

-- a rule that has a heading is among the rules
named : (rs : List RuleAst) (name : List ℕ) (at : SpanModel) → heading_at rs name ≡ Some at → Contains (map (λ (r : RuleAst). r.name.text) rs) name
named [] name at h = absurd cc
named (r ∷ rs) name at h = by (bytes_eq name r.name.text) refl h (named rs name at)
  where
    by : (b : Bool) → bytes_eq name r.name.text ≡ b → (if b then Some r.name.span else heading_at rs name) ≡ Some at → (heading_at rs name ≡ Some at → Contains (map (λ (s : RuleAst). s.name.text) rs) name)
        → Contains (r.name.text ∷ map (λ (s : RuleAst). s.name.text) rs) name
    by true e k rest = subst (λ n. Contains (n ∷ map (λ (s : RuleAst). s.name.text) rs) name) ((bytes_eq-Decides name r.name.text).0 e) (Contains-head name (map (λ (s : RuleAst). s.name.text) rs))
    by false e k rest = Contains-cons r.name.text (map (λ (s : RuleAst). s.name.text) rs) name (rest k)

pub start_well : (c : CheckedAst) (name : List ℕ) (at : SpanModel) → heading_at c.ast.rules name ≡ Some at → IsWellMade c → IsWellMade (starts_at c name at)
start_well c name at h w = record {
  well_formed = λ v. start_is_free c.ast (record { text = name; span = at }) (w.well_formed v) (named c.ast.rules name at h);
  names = w.names;
}

pub changed_well : (old : CheckedAst) (name : List ℕ) (new : CheckedAst) → IsWellMade old → ChangesStart old name new → IsWellMade new
changed_well old name new w c = subst IsWellMade (sym c.is) (start_well old name c.at c.heading w)

-- of a copy whose tree got the start rule
pub start_kept : (kind : YaccKind) (ast new : Ast) (es fs : List FailureText) (name : List ℕ) (at : SpanModel) → heading_at ast.rules name ≡ Some at → IsWellMade (made kind ast es)
    → new ≡ with_start ast (record { text = name; span = at }) → fs ≡ es → IsWellMade (made kind new fs)
start_kept kind ast new es fs name at h w is same =
    let changed : IsWellMade (made kind (with_start ast (record { text = name; span = at })) es) = start_well (made kind ast es) name at h w in
    subst (λ gs. IsWellMade (made kind new gs)) (sym same) (subst (λ a. IsWellMade (made kind a es)) (sym is) changed)
