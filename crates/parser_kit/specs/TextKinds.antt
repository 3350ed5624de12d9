-- The kind of a text whose section may tell it.
use Rattle.std.specs.Prelude.{◌≡◌, ℕ, List}
use Rattle.cfg_read.specs.declared.yacc.YaccKind.{YaccKind}
use Rattle.cfg_read.specs.declared.yacc.YaccKind.TheVariants.{Original}
use Rattle.cfg_read.specs.declared.yacc.YaccOriginalActionKind.TheVariants.{GenericParseTree}
use Rattle.cfg_read.specs.Files.{TellsKind, TellsNoKind}

-- the kind that the section tells, else that of Yacc's own syntax with trees
pub data IsKindOfText (text : List ℕ) (kind : YaccKind) : Type 0 where
  told : TellsKind text kind → IsKindOfText text kind
  untold : TellsNoKind text → kind ≡ Original GenericParseTree → IsKindOfText text kind
