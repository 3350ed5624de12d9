-- A text has one reading or one list of errors: from the laws of sections and of what stands behind them.
use Rattle.std.proofs.Common.{◌≡◌, ℕ, Bool, false, List, [], ◌∷◌, map, Option, Some, None, refl, sym, ◌∙◌, ap, subst}
use Rattle.cfg_base.specs.SpanModel.{SpanModel}
use Rattle.cfg_sections.specs.HeaderErrors.{KindText}
use Rattle.cfg_sections.specs.Sections.{span, PairText}
use Rattle.cfg_sections.specs.Sections as sections
use Rattle.cfg_sections.specs.SectionResults.{ErrorText, repeat_text, Refuses, one_fault, repeated_keys, IsAnswered, reads_header, repeats_keys, has_fault}
use Rattle.cfg_sections.specs.SectionRepeats.{repeats_of}
use Rattle.cfg_read.specs.declared.yacc.YaccKind.{YaccKind}
use Rattle.cfg_read.specs.declared.yacc.parser.error.YaccGrammarErrorKind.{YaccGrammarErrorKind}
use Rattle.cfg_read.specs.declared.yacc.parser.error.YaccGrammarErrorKind.TheVariants as told
use Rattle.cfg_read.specs.SyntaxTexts.{SyntaxText}
use Rattle.cfg_read.specs.Reading.{Reads}
use Rattle.cfg_read.specs.SyntaxErrors.{Faults, Outcome, reads, faulty}
use Rattle.cfg_read.specs.Validity.{FailureText, header_failure}
use Rattle.cfg_read.specs.Kinds.{Meaning, means, unfit}
use Rattle.cfg_read.specs.Files.{source, HasSection, ReadsFile, fault_failure, FailsSection, FailsRest, FailsFile, in_section, in_rest, FileOutcome, reads_file, fails_file, told_kind, TellsKind, kind_failures, FailsMeaning, FailsKind, no_key, no_kind, LacksKind, without_section, without_kind, KindOutcome, tells_kind, lacks_kind}

-- what is known of sections
pub record SectionLaws : Type 0 where
  pub some : (required : Bool) (bytes : List ℕ) → IsAnswered required bytes
  pub readings : (required : Bool) (bytes : List ℕ) (x y : List PairText) (a b : ℕ) → sections.Reads required bytes x a → sections.Reads required bytes y b → (x ≡ y) × (a ≡ b)
  pub apart : (required : Bool) (bytes : List ℕ) (x : List PairText) (a b : ℕ) (kind : KindText) → sections.Reads required bytes x a → sections.Faults required bytes kind b → ⊥
  pub faults : (required : Bool) (bytes : List ℕ) (k l : KindText) (a b : ℕ) → sections.Faults required bytes k a → sections.Faults required bytes l b → (k ≡ l) × (a ≡ b)

-- and of what stands behind them
pub record RestLaws : Type 0 where
  pub some : (kind : YaccKind) (text : List ℕ) (start : ℕ) → Outcome kind text start
  pub readings : (kind : YaccKind) (text : List ℕ) (start : ℕ) (x y : SyntaxText) → Reads kind text start x → Reads kind text start y → x ≡ y
  pub apart : (kind : YaccKind) (text : List ℕ) (start : ℕ) (x : SyntaxText) (e : YaccGrammarErrorKind) (offset : ℕ) → Reads kind text start x → Faults kind text start e offset → ⊥
  pub faults : (kind : YaccKind) (text : List ℕ) (start : ℕ) (d e : YaccGrammarErrorKind) (p q : ℕ) → Faults kind text start d p → Faults kind text start e q → (d ≡ e) × (p ≡ q)

same_section : SectionLaws → (text : List ℕ) (p q : List PairText) (a b : ℕ) → HasSection text p a → HasSection text q b → (p ≡ q) × (a ≡ b)
same_section laws text p q a b s t = laws.readings false text p q a b s.reads t.reads

not_refused : SectionLaws → (text : List ℕ) (p : List PairText) (a : ℕ) (es : List ErrorText) → HasSection text p a → Refuses (source text) es → ⊥
not_refused laws text p a es s (one_fault e offset is at f) = laws.apart false text p a offset e.0 s.reads f
not_refused laws text p a es s (repeated_keys q b r more is) =
    more (subst (λ x. repeats_of x ≡ []) ((laws.readings false text p q a b s.reads r).0) s.distinct)

fault_text : (k l : KindText) (p q : List SpanModel) (a b : ℕ) → k ≡ l → a ≡ b → p ≡ span a a ∷ [] → q ≡ span b b ∷ [] → p ≡ q
fault_text k l p q a b e f g h = g ∙ (ap (λ n. span n n ∷ []) f ∙ sym h)

same_error : (d e : ErrorText) → d.0 ≡ e.0 → d.1 ≡ e.1 → d ≡ e
same_error d e f g = ap (λ k. let x : ErrorText = (k, d.1) in x) f ∙ ap (λ p. let x : ErrorText = (e.0, p) in x) g

same_refusal : SectionLaws → (text : List ℕ) (es fs : List ErrorText) → Refuses (source text) es → Refuses (source text) fs → es ≡ fs
same_refusal laws text es fs (one_fault d p is at f) (one_fault e q is' at' g) =
    let one = laws.faults false text d.0 e.0 p q f g in
    is ∙ (ap (λ x. x ∷ []) (same_error d e one.0 (fault_text d.0 e.0 d.1 e.1 p q one.0 one.1 at at')) ∙ sym is')
same_refusal laws text es fs (one_fault d p is at f) (repeated_keys x b r more is') = absurd (laws.apart false text x b p d.0 r f)
same_refusal laws text es fs (repeated_keys x b r more is) (one_fault d p is' at f) = absurd (laws.apart false text x b p d.0 r f)
same_refusal laws text es fs (repeated_keys x a r more is) (repeated_keys y b t more' is') =
    is ∙ (ap (λ ps. map repeat_text (repeats_of ps)) ((laws.readings false text x y a b r t).0) ∙ sym is')

same_section_errors : SectionLaws → (text : List ℕ) (es fs : List FailureText) → FailsSection text es → FailsSection text fs → es ≡ fs
same_section_errors laws text es fs d e = d.is ∙ (ap (map header_failure) (same_refusal laws text d.errors e.errors d.refuses e.refuses) ∙ sym e.is)

not_section : SectionLaws → (text : List ℕ) (p : List PairText) (a : ℕ) (fs : List FailureText) → HasSection text p a → FailsSection text fs → ⊥
not_section laws text p a fs s f = not_refused laws text p a f.errors s f.refuses

refused : (text : List ℕ) (es : List ErrorText) → Refuses (source text) es → FailsSection text (map header_failure es)
refused text es r = record { errors = es; refuses = r; is = refl }

rest_outcome : (kind : YaccKind) (text : List ℕ) (p : List PairText) (a : ℕ) → HasSection text p a → Outcome kind text a → FileOutcome kind text
rest_outcome kind text p a s (reads x r) = reads_file x (record { pairs = p; end = a; section = s; rest = r })
rest_outcome kind text p a s (faulty e offset f) = fails_file (fault_failure e offset ∷ []) (in_rest p a s (record { fault = e; offset = offset; faults = f; is = refl }))

section_outcome : RestLaws → (kind : YaccKind) (text : List ℕ) → IsAnswered false text → FileOutcome kind text
section_outcome laws kind text (reads_header p a r d) = rest_outcome kind text p a (record { reads = r; distinct = d }) (laws.some kind text a)
section_outcome laws kind text (repeats_keys p a r more) = fails_file _ (in_section (refused text (map repeat_text (repeats_of p)) (repeated_keys p a r more refl)))
section_outcome laws kind text (has_fault k offset f) = fails_file _ (in_section (refused text ((k, span offset offset ∷ []) ∷ []) (one_fault (k, span offset offset ∷ []) offset refl refl f)))

pub file_outcome : SectionLaws → RestLaws → (kind : YaccKind) (text : List ℕ) → FileOutcome kind text
file_outcome front rest kind text = section_outcome rest kind text (front.some false text)

pub one_syntax : SectionLaws → RestLaws → (kind : YaccKind) (text : List ℕ) (x y : SyntaxText) → ReadsFile kind text x → ReadsFile kind text y → x ≡ y
one_syntax front rest kind text x y r t =
    rest.readings kind text t.end x y (subst (λ n. Reads kind text n x) ((same_section front text r.pairs t.pairs r.end t.end r.section t.section).1) r.rest) t.rest

pub not_both : SectionLaws → RestLaws → (kind : YaccKind) (text : List ℕ) (x : SyntaxText) (fs : List FailureText) → ReadsFile kind text x → FailsFile kind text fs → ⊥
not_both front rest kind text x fs r (in_section f) = not_section front text r.pairs r.end fs r.section f
not_both front rest kind text x fs r (in_rest p a s f) =
    rest.apart kind text a x f.fault f.offset (subst (λ n. Reads kind text n x) ((same_section front text r.pairs p r.end a r.section s).1) r.rest) f.faults

same_fault : (d e : YaccGrammarErrorKind) (p q : ℕ) → d ≡ e → p ≡ q → fault_failure d p ≡ fault_failure e q
same_fault d e p q f g = ap (λ k. fault_failure k p) f ∙ ap (fault_failure e) g

same_rest : RestLaws → (kind : YaccKind) (text : List ℕ) (a : ℕ) (es fs : List FailureText) → FailsRest kind text a es → FailsRest kind text a fs → es ≡ fs
same_rest rest kind text a es fs d e =
    let one = rest.faults kind text a d.fault e.fault d.offset e.offset d.faults e.faults in
    d.is ∙ (ap (λ f. f ∷ []) (same_fault d.fault e.fault d.offset e.offset one.0 one.1) ∙ sym e.is)

pub one_failure : SectionLaws → RestLaws → (kind : YaccKind) (text : List ℕ) (es fs : List FailureText) → FailsFile kind text es → FailsFile kind text fs → es ≡ fs
one_failure front rest kind text es fs (in_section d) (in_section e) = same_section_errors front text es fs d e
one_failure front rest kind text es fs (in_section d) (in_rest p a s e) = absurd (not_section front text p a es s d)
one_failure front rest kind text es fs (in_rest p a s d) (in_section e) = absurd (not_section front text p a fs s e)
one_failure front rest kind text es fs (in_rest p a s d) (in_rest q b t e) =
    same_rest rest kind text b es fs (subst (λ n. FailsRest kind text n es) ((same_section front text p q a b s t).1) d) e

-- and of the kind that a text tells
kind_outcome_of : (text : List ℕ) (p : List PairText) (a : ℕ) → HasSection text p a → (o : Option (Meaning SpanModel)) → told_kind p ≡ o → KindOutcome text
kind_outcome_of text p a s None e = lacks_kind (fault_failure told.InvalidYaccKind 0 ∷ []) (without_kind p a s (no_key e refl))
kind_outcome_of text p a s (Some (means k)) e = tells_kind k (record { pairs = p; end = a; section = s; told = e })
kind_outcome_of text p a s (Some (unfit why at)) e = lacks_kind (kind_failures why at) (without_kind p a s (no_kind (unfit why at) e (record { why = why; at = at; unfits = refl; is = refl })))

kind_outcome_in : (text : List ℕ) → IsAnswered false text → KindOutcome text
kind_outcome_in text (reads_header p a r d) = kind_outcome_of text p a (record { reads = r; distinct = d }) (told_kind p) refl
kind_outcome_in text (repeats_keys p a r more) = lacks_kind _ (without_section (refused text (map repeat_text (repeats_of p)) (repeated_keys p a r more refl)))
kind_outcome_in text (has_fault k offset f) = lacks_kind _ (without_section (refused text ((k, span offset offset ∷ []) ∷ []) (one_fault (k, span offset offset ∷ []) offset refl refl f)))

pub kind_outcome : SectionLaws → (text : List ℕ) → KindOutcome text
kind_outcome front text = kind_outcome_in text (front.some false text)

same_told : SectionLaws → (text : List ℕ) (p q : List PairText) (a b : ℕ) → HasSection text p a → HasSection text q b → told_kind p ≡ told_kind q
same_told front text p q a b s t = ap told_kind ((same_section front text p q a b s t).0)

same_kind : (k l : YaccKind) (o p : Option (Meaning SpanModel)) → o ≡ p → o ≡ Some (means k) → p ≡ Some (means l) → k ≡ l
same_kind k l o p e f g = cc

pub one_told : SectionLaws → (text : List ℕ) (k l : YaccKind) → TellsKind text k → TellsKind text l → k ≡ l
one_told front text k l s t = same_kind k l _ _ (same_told front text s.pairs t.pairs s.end t.end s.section t.section) s.told t.told

not_none : (k : YaccKind) (o p : Option (Meaning SpanModel)) → o ≡ p → o ≡ Some (means k) → p ≡ None → ⊥
not_none k o p e f g = cc

not_unfit : (k : YaccKind) (o p : Option (Meaning SpanModel)) (m : Meaning SpanModel) (why : List ℕ) (at : SpanModel) → o ≡ p → o ≡ Some (means k) → p ≡ Some m → m ≡ unfit why at → ⊥
not_unfit k o p m why at e f g h = cc

not_kind : (k : YaccKind) (o p : Option (Meaning SpanModel)) (fs : List FailureText) → o ≡ p → o ≡ Some (means k) → FailsKind p fs → ⊥
not_kind k o p fs e f (no_key g is) = not_none k o p e f g
not_kind k o p fs e f (no_kind m g h) = not_unfit k o p m h.why h.at e f g h.unfits

pub told_apart : SectionLaws → (text : List ℕ) (k : YaccKind) (fs : List FailureText) → TellsKind text k → LacksKind text fs → ⊥
told_apart front text k fs t (without_section f) = not_section front text t.pairs t.end fs t.section f
told_apart front text k fs t (without_kind p a s f) = not_kind k _ _ fs (same_told front text t.pairs p t.end a t.section s) t.told f

same_unfit : (o p : Option (Meaning SpanModel)) (l m : Meaning SpanModel) → o ≡ p → o ≡ Some l → p ≡ Some m → l ≡ m
same_unfit o p l m e f g = cc

none_some : (o p : Option (Meaning SpanModel)) (m : Meaning SpanModel) → o ≡ p → o ≡ None → p ≡ Some m → ⊥
none_some o p m e f g = cc

unfit_parts : (l m : Meaning SpanModel) (v w : List ℕ) (a b : SpanModel) → l ≡ m → l ≡ unfit v a → m ≡ unfit w b → (v ≡ w) × (a ≡ b)
unfit_parts l m v w a b e f g = (cc, cc)

same_meaning : (l m : Meaning SpanModel) (es fs : List FailureText) → l ≡ m → FailsMeaning l es → FailsMeaning m fs → es ≡ fs
same_meaning l m es fs e d f =
    let one = unfit_parts l m d.why f.why d.at f.at e d.unfits f.unfits in
    d.is ∙ (ap (λ why. kind_failures why d.at) one.0 ∙ (ap (kind_failures f.why) one.1 ∙ sym f.is))

same_lack : (o p : Option (Meaning SpanModel)) (es fs : List FailureText) → o ≡ p → FailsKind o es → FailsKind p fs → es ≡ fs
same_lack o p es fs e (no_key f is) (no_key g is') = is ∙ sym is'
same_lack o p es fs e (no_key f is) (no_kind m g h) = absurd (none_some o p m e f g)
same_lack o p es fs e (no_kind m g h) (no_key f is) = absurd (none_some p o m (sym e) f g)
same_lack o p es fs e (no_kind l f d) (no_kind m g h) = same_meaning l m es fs (same_unfit o p l m e f g) d h

pub one_lack : SectionLaws → (text : List ℕ) (es fs : List FailureText) → LacksKind text es → LacksKind text fs → es ≡ fs
one_lack front text es fs (without_section d) (without_section e) = same_section_errors front text es fs d e
one_lack front text es fs (without_section d) (without_kind p a s e) = absurd (not_section front text p a es s d)
one_lack front text es fs (without_kind p a s d) (without_section e) = absurd (not_section front text p a fs s e)
one_lack front text es fs (without_kind p a s d) (without_kind q b t e) = same_lack _ _ es fs (same_told front text p q a b s t) d e
