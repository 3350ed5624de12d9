-- Errors of sections, from faults and from repeated keys.
use Rattle.std.proofs.Common.{ℕ, List, [], ◌∷◌, refl, sym, ap, subst}
use Rattle.cfg_sections.specs.declared.header.settings.Fault.{Fault}
use Rattle.cfg_sections.specs.declared.header.settings.Fault.TheVariants as faults
use Rattle.cfg_sections.specs.declared.header.section.SectionError.{SectionError}
use Rattle.cfg_sections.specs.declared.header.section.SectionError.TheVariants as sections
use Rattle.cfg_sections.specs.declared.header.section.KeyValueError.{KeyValueError}
use Rattle.cfg_sections.specs.declared.header.section.KeyValueError.TheVariants as singles
use Rattle.cfg_sections.specs.HeaderErrors.{kind_text}
use Rattle.cfg_sections.specs.Sections.{span, PairText, At, Pair, StopsFrom, Reads, beginning}
use Rattle.cfg_sections.specs.SectionSource.{SectionSource}
use Rattle.cfg_sections.specs.SectionResults.{Fails, FailsPair, one_fault, repeated_keys, IsSectionError, IsKeyValueError, TellsFault, TellsRepeats, TellsPairFault}

pub section_refused : (source : SectionSource) (f : Fault) (e : SectionError) → TellsFault f e → Fails source.text (beginning source.required) f → IsSectionError source e
section_refused source f (sections.Memory e) told fails = tt
section_refused source (faults.Memory m) (sections.Invalid errors) told fails = absurd told
section_refused source (faults.At kind offset) (sections.Invalid errors) told fails = one_fault (kind_text kind, span offset offset ∷ []) offset told refl fails

pub repeats_refused : (source : SectionSource) (pairs : List PairText) (end : ℕ) (e : SectionError) → Reads source.required source.text pairs end → TellsRepeats pairs e → IsSectionError source e
repeats_refused source pairs end (sections.Memory e) reads told = tt
repeats_refused source pairs end (sections.Invalid errors) reads told = repeated_keys pairs end reads told.0 told.1

pub pair_refused : (source : SectionSource) (i : ℕ) (f : Fault) (e : KeyValueError) → TellsPairFault f e → FailsPair source.text i f → IsKeyValueError source i e
pair_refused source i f (singles.Memory e) told fails = tt
pair_refused source i (faults.Memory m) (singles.Invalid error) told fails = absurd told
pair_refused source i (faults.At kind offset) (singles.Invalid error) told fails = (offset, ap (λ e. e.1) told, subst (λ k. StopsFrom source.text (At Pair [] i) k offset) (sym (ap (λ e. e.0) told)) (fails []))
