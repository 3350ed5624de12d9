-- The kind that a text tells, and what is kept of a text whose section was read.
use Rattle.std.proofs.Common.{◌≡◌, ℕ, List, Option, None, Some, IfSome, option_map, refl, sym, ap, subst}
use Rattle.std.specs.declared.string.String.{String}
use Rattle.std.specs.declared.alloc.Global.{Global}
use Rattle.cfg_base.specs.SpanModel.{SpanModel}
use Rattle.cfg_sections.specs.MarkMaps.{Marked}
use Rattle.cfg_sections.specs.SectionResults.{ReadsHeader}
use Rattle.cfg_sections.specs.declared.header.value.HeaderValue.{HeaderValue}
use Rattle.cfg_read.specs.declared.yacc.YaccKind.{YaccKind}
use Rattle.cfg_read.specs.declared.yacc.file.YaccGrammarFailure.{YaccGrammarFailure}
use Rattle.cfg_read.specs.Kinds.{Meaning, means}
use Rattle.cfg_read.specs.Files.{source, HasSection, told_kind, TellsKind, FailsSection, FailsMeaning, FailsKind, FailsToTell, FailsValue, TellsNoKind, no_kind, LacksKind, without_section, without_kind, IsFailure}
use Rattle.cfg_read.specs.ValidityInfo.{CheckedAst, IsChecked, reads_as, has_errors}
use Rattle.cfg_read.proofs.FileFailures.{weaker}

pub section_of : (text : List ℕ) (h : Marked (String Global) (HeaderValue SpanModel)) (end : ℕ) (r : ReadsHeader (source text) h end) → HasSection text r.pairs end
section_of text h end r = record { reads = r.reads; distinct = r.distinct }

checked_kind : (kind : YaccKind) (text : List ℕ) (c : CheckedAst) → IsChecked kind text c → c.kind ≡ kind
checked_kind kind text c (reads_as x r is) = ap (λ (d : CheckedAst). d.kind) is
checked_kind kind text c (has_errors fs f is) = ap (λ (d : CheckedAst). d.kind) is

pub checked_as_told : (kind : YaccKind) (text : List ℕ) (c : CheckedAst) → IsChecked kind text c → IsChecked c.kind text c
checked_as_told kind text c is = subst (λ k. IsChecked k text c) (sym (checked_kind kind text c is)) is

pub tells : (text : List ℕ) (h : Marked (String Global) (HeaderValue SpanModel)) (end : ℕ) (kind : YaccKind) (c : CheckedAst) (r : ReadsHeader (source text) h end) → told_kind r.pairs ≡ Some (means kind) → IsChecked kind text c → TellsKind text c.kind
tells text h end kind c r told is =
    let one : TellsKind text kind = record { pairs = r.pairs; end = end; section = section_of text h end r; told = told } in
    subst (TellsKind text) (sym (checked_kind kind text c is)) one

pub section_lacks : (text : List ℕ) (f : YaccGrammarFailure) → IsFailure (FailsSection text) f → IsFailure (LacksKind text) f
section_lacks text f is = weaker (FailsSection text) (LacksKind text) (λ fs g. without_section g) f is

-- a value that stands for no kind
kind_lacks : (told : Option (Meaning SpanModel)) (f : YaccGrammarFailure) → IsFailure (FailsValue told) f → IsFailure (FailsKind told) f
kind_lacks told f is = weaker (FailsValue told) (FailsKind told) (λ fs g. no_kind g.meaning g.some g.fails) f is

header_lacks : (text : List ℕ) (h : Marked (String Global) (HeaderValue SpanModel)) (end : ℕ) (f : YaccGrammarFailure) (r : ReadsHeader (source text) h end) → IsFailure (FailsKind (told_kind r.pairs)) f → IsFailure (LacksKind text) f
header_lacks text h end f r is = weaker (FailsKind (told_kind r.pairs)) (LacksKind text) (λ fs g. without_kind r.pairs end (section_of text h end r) g) f is

pub none_lacks : (text : List ℕ) (h : Marked (String Global) (HeaderValue SpanModel)) (end : ℕ) (f : YaccGrammarFailure) (r : ReadsHeader (source text) h end) → told_kind r.pairs ≡ None → IsFailure (FailsKind None) f → IsFailure (LacksKind text) f
none_lacks text h end f r none is = header_lacks text h end f r (subst (λ o. IsFailure (FailsKind o) f) (sym none) is)

pub value_lacks : (text : List ℕ) (h : Marked (String Global) (HeaderValue SpanModel)) (end : ℕ) (f : YaccGrammarFailure) (r : ReadsHeader (source text) h end) → IsFailure (FailsValue (told_kind r.pairs)) f → IsFailure (LacksKind text) f
value_lacks text h end f r is = header_lacks text h end f r (kind_lacks (told_kind r.pairs) f is)

pub some_fails : (m : Meaning SpanModel) (f : YaccGrammarFailure) → IsFailure (FailsMeaning m) f → IsFailure (FailsValue (Some m)) f
some_fails m f is = weaker (FailsMeaning m) (FailsValue (Some m)) (λ fs g. record { meaning = m; some = refl; fails = g }) f is

-- ---- the kind alone

pub section_fails : (text : List ℕ) (f : YaccGrammarFailure) → IsFailure (FailsSection text) f → IsFailure (FailsToTell text) f
section_fails text f is = weaker (FailsSection text) (FailsToTell text) (λ fs g. FailsToTell.faulty_section g) f is

pub value_fails : (text : List ℕ) (h : Marked (String Global) (HeaderValue SpanModel)) (end : ℕ) (f : YaccGrammarFailure) (r : ReadsHeader (source text) h end) → IsFailure (FailsValue (told_kind r.pairs)) f → IsFailure (FailsToTell text) f
value_fails text h end f r is = weaker (FailsValue (told_kind r.pairs)) (FailsToTell text) (λ fs g. FailsToTell.faulty_kind r.pairs end (section_of text h end r) g) f is

pub tells_it : (text : List ℕ) (h : Marked (String Global) (HeaderValue SpanModel)) (end : ℕ) (kind : Option YaccKind) (r : ReadsHeader (source text) h end) → told_kind r.pairs ≡ option_map means kind → IfSome kind (TellsKind text)
tells_it text h end None r told = tt
tells_it text h end (Some kind) r told = record { pairs = r.pairs; end = end; section = section_of text h end r; told = told }

pub tells_none : (text : List ℕ) (h : Marked (String Global) (HeaderValue SpanModel)) (end : ℕ) (kind : Option YaccKind) (r : ReadsHeader (source text) h end) → told_kind r.pairs ≡ option_map means kind → kind ≡ None → TellsNoKind text
tells_none text h end kind r told none = record { pairs = r.pairs; end = end; section = section_of text h end r; lacks = subst (λ k. told_kind r.pairs ≡ option_map means k) none told }
