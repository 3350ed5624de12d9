-- The outcome of a text is told by its kit.
use Rattle.std.proofs.Common.{ℕ, List}
use Rattle.parser_kit.specs.Kit.{KitValue}
use Rattle.grammar_report.specs.Outcomes.{HasSentences, IsKitIn, IsOutcome, TellsExpected, TellsOutcome}
use Rattle.grammar_report.specs.declared.outcome.Outcome.{Outcome}
use Rattle.grammar_report.specs.declared.outcome.Outcome.TheVariants.{Barren, Expected, Invalid, Unexpected}

pub told_with_sentences : (k : KitValue) (o : Outcome) → HasSentences k → TellsExpected k o → TellsOutcome k o
told_with_sentences k Expected has told = (has, told)
told_with_sentences k Unexpected has told = (has, told)
told_with_sentences k Barren has told = absurd told
told_with_sentences k Invalid has told = absurd told

pub told_is_outcome : (text : List ℕ) (k : KitValue) (o : Outcome) → IsKitIn text k → TellsOutcome k o → IsOutcome text o
told_is_outcome text k Expected is_kit told = (k, is_kit, told.0, told.1)
told_is_outcome text k Unexpected is_kit told = (k, is_kit, told.0, told.1)
told_is_outcome text k Barren is_kit told = (k, is_kit, told)
told_is_outcome text k Invalid is_kit told = absurd told
