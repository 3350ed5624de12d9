-- What is kept of a text is one thing, and a text that doesn't read is invalid.
use Rattle.std.proofs.Common.{◌≡◌, ℕ, Bool, false, List, [], ◌∷◌, map, refl, sym, ◌∙◌, ap, subst}
use Rattle.cfg_base.specs.SpanModel.{SpanModel}
use Rattle.cfg_sections.specs.SectionResults.{ErrorText, repeat_text, Refuses, one_fault, repeated_keys}
use Rattle.cfg_sections.specs.SectionRepeats.{repeats_of}
use Rattle.cfg_read.specs.declared.yacc.YaccKind.{YaccKind}
use Rattle.cfg_read.specs.SyntaxTexts.{SyntaxText}
use Rattle.cfg_read.specs.Asts.{Ast, ast_of}
use Rattle.cfg_read.specs.Validity.{FailureText, failures, header_failure}
use Rattle.cfg_read.specs.Files.{source, ReadsFile, FailsFile, in_section, in_rest}
use Rattle.cfg_read.specs.ValidityInfo.{CheckedAst, is_valid, read_as, unread, IsChecked, reads_as, has_errors}

-- what is known of whole files
pub record FileLaws : Type 0 where
  pub readings : (kind : YaccKind) (text : List ℕ) (x y : SyntaxText) → ReadsFile kind text x → ReadsFile kind text y → x ≡ y
  pub apart : (kind : YaccKind) (text : List ℕ) (x : SyntaxText) (fs : List FailureText) → ReadsFile kind text x → FailsFile kind text fs → ⊥
  pub faults : (kind : YaccKind) (text : List ℕ) (es fs : List FailureText) → FailsFile kind text es → FailsFile kind text fs → es ≡ fs

pub one_checked : FileLaws → (kind : YaccKind) (text : List ℕ) (c d : CheckedAst) → IsChecked kind text c → IsChecked kind text d → c ≡ d
one_checked laws kind text c d (reads_as x r is) (reads_as y t is') = is ∙ (ap (read_as kind) (laws.readings kind text x y r t) ∙ sym is')
one_checked laws kind text c d (reads_as x r is) (has_errors fs f is') = absurd (laws.apart kind text x fs r f)
one_checked laws kind text c d (has_errors fs f is) (reads_as x r is') = absurd (laws.apart kind text x fs r f)
one_checked laws kind text c d (has_errors es f is) (has_errors fs g is') = is ∙ (ap (unread kind) (laws.faults kind text es fs f g) ∙ sym is')

some_repeats : (ps : List (List SpanModel)) → (ps ≡ [] → ⊥) → is_valid (map header_failure (map repeat_text ps)) ≡ false
some_repeats [] h = absurd (h refl)
some_repeats (p ∷ ps) h = refl

refused_some : (text : List ℕ) (es : List ErrorText) → Refuses (source text) es → is_valid (map header_failure es) ≡ false
refused_some text es (one_fault e place is at f) = ap (λ xs. is_valid (map header_failure xs)) is
refused_some text es (repeated_keys pairs end r more is) = ap (λ xs. is_valid (map header_failure xs)) is ∙ some_repeats (repeats_of pairs) more

pub fails_some : (kind : YaccKind) (text : List ℕ) (fs : List FailureText) → FailsFile kind text fs → is_valid fs ≡ false
fails_some kind text fs (in_section f) = ap is_valid f.is ∙ refused_some text f.errors f.refuses
fails_some kind text fs (in_rest pairs end s f) = ap is_valid f.is

pub told_valid : (kind : YaccKind) (text : List ℕ) (c : CheckedAst) → IsChecked kind text c → c.ast.is_valid ≡ is_valid c.errors
told_valid kind text c (reads_as x r is) = subst (λ d. d.ast.is_valid ≡ is_valid d.errors) (sym is) refl
told_valid kind text c (has_errors fs f is) = subst (λ d. d.ast.is_valid ≡ is_valid d.errors) (sym is) (sym (fails_some kind text fs f))

-- a kept value, by its parts
abbrev pub made : YaccKind → Ast → List FailureText → CheckedAst
made kind ast es = record { kind = kind; ast = ast; errors = es }

pub made_as : (kind : YaccKind) (x : SyntaxText) (ast : Ast) (valid : Bool) (es : List FailureText) → es ≡ failures x → valid ≡ is_valid es → ast ≡ ast_of valid x → made kind ast es ≡ read_as kind x
made_as kind x ast valid es e v a =
    ap (λ b. made kind b es) (a ∙ ap (λ b. ast_of b x) (v ∙ ap is_valid e))
    ∙ ap (made kind (ast_of (is_valid (failures x)) x)) e
