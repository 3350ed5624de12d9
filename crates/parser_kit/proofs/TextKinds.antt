-- A text has one kind.
use Rattle.std.proofs.Common.{◌≡◌, ℕ, List, [], ◌∷◌, refl, sym, ◌∙◌}
use Rattle.cfg_read.specs.declared.yacc.YaccKind.{YaccKind}
use Rattle.cfg_read.specs.declared.yacc.parser.error.YaccGrammarErrorKind.TheVariants as faults
use Rattle.cfg_read.specs.Files.{LacksKind, TellsKind, TellsNoKind, fault_failure, no_key, without_kind}
use Rattle.cfg_read.specs.Validity.{FailureText}
use Rattle.parser_kit.specs.TextKinds.{IsKindOfText}

lacks_none : (text : List ℕ) → TellsNoKind text → LacksKind text (fault_failure faults.InvalidYaccKind 0 ∷ [])
lacks_none text t = without_kind t.pairs t.end t.section (no_key t.lacks refl)

pub one_kind_of : ((text : List ℕ) (k l : YaccKind) → TellsKind text k → TellsKind text l → k ≡ l) → ((text : List ℕ) (k : YaccKind) (fs : List FailureText) → TellsKind text k → LacksKind text fs → ⊥) →
    (text : List ℕ) (k l : YaccKind) → IsKindOfText text k → IsKindOfText text l → k ≡ l
one_kind_of kinds apart text k l (IsKindOfText.told a) (IsKindOfText.told b) = kinds text k l a b
one_kind_of kinds apart text k l (IsKindOfText.told a) (IsKindOfText.untold b e) = absurd (apart text k _ a (lacks_none text b))
one_kind_of kinds apart text k l (IsKindOfText.untold a e) (IsKindOfText.told b) = absurd (apart text l _ b (lacks_none text a))
one_kind_of kinds apart text k l (IsKindOfText.untold a e) (IsKindOfText.untold b f) = e ∙ sym f
