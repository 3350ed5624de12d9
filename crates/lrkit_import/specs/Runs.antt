-- What a run reads and writes.
use Rattle.std.specs.Prelude.{◌≡◌, ◌≤◌, ℕ, List, length, Option, ⊤}
use Rattle.byte_streams.specs.Source.{IsWhole, HasMoreThan, one_more}
use Rattle.byte_streams.specs.Inputs.{most_bytes, HasNoText}
use Rattle.checked_import.specs.SameRules.{HasRulesOf}
use Rattle.lrkit_import.specs.declared.fault.RunFault.{RunFault}
use Rattle.lrkit_import.specs.declared.fault.RunFault.TheVariants.{Memory, NoRules, NotRead, NotUtf8, OtherLevels, OtherRules, OtherStart, Read, Refused, TooLong, TooManyNames, Write}

-- the bytes of a source, where they are known, are a file that is no longer than an input may be, and a text has its rules
pub record IsImportOf (known : Option (List ℕ)) (text : List ℕ) : Type 0 where
  pub file : List ℕ
  pub whole : IsWhole known file
  pub short : length file ≤ most_bytes
  pub rules : HasRulesOf file text

-- the same of some file, whose bytes no contract can name
pub record IsImportOfSome (text : List ℕ) : Type 0 where
  pub file : List ℕ
  pub short : length file ≤ most_bytes
  pub rules : HasRulesOf file text

-- why a source gives no import: it is the source's fault only if that shows it
abbrev pub IsCause : Option (List ℕ) → ℕ → ℕ → RunFault → Type 0
IsCause known faults faults' Read = faults' ≡ one_more faults
IsCause known faults faults' TooLong = HasMoreThan most_bytes known
IsCause known faults faults' NotUtf8 = HasNoText known
IsCause known faults faults' Write = ⊥
IsCause known faults faults' (Refused fault at) = ⊤
IsCause known faults faults' NoRules = ⊤
IsCause known faults faults' (NotRead at) = ⊤
IsCause known faults faults' OtherRules = ⊤
IsCause known faults faults' OtherStart = ⊤
IsCause known faults faults' OtherLevels = ⊤
IsCause known faults faults' TooManyNames = ⊤
IsCause known faults faults' (Memory e) = ⊤

-- a failed write, which the sink shows
abbrev pub IsWriteFault : ℕ → ℕ → RunFault → Type 0
IsWriteFault faults faults' Write = faults' ≡ one_more faults
IsWriteFault faults faults' _ = ⊥
