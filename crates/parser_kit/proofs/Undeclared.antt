-- A text that declares no precedence has a kit whose table knows none.
use Rattle.std.proofs.Common.{◌≡◌, ℕ, [], subst, sym}
use Rattle.cfg_numbered.specs.Value.{GrammarValue, HasNoPrecedences}
use Rattle.cfg_read.specs.Asts.{Ast}
use Rattle.cfg_read.specs.declared.yacc.YaccKind.{YaccKind}
use Rattle.cfgrammar.specs.FromAst.{made}
use Rattle.state_table.specs.CellViews.{precedences_of}
use Rattle.parser_kit.specs.Kit.{IsKit, KitValue}
use Rattle.table_theory.specs.Cells.{NoPrecedences}

pub undeclared : {top : ℕ} (k : KitValue) → IsKit top k →
    ((kind : YaccKind) (ast : Ast) → ast.precedences ≡ [] → HasNoPrecedences (made kind ast)) →
    ((v : GrammarValue) → HasNoPrecedences v → NoPrecedences (precedences_of v)) →
    k.kept.ast.precedences ≡ [] → NoPrecedences (precedences_of k.parser.grammar)
undeclared k kit trees kept none = kept k.parser.grammar (subst HasNoPrecedences (sym kit.is_of.grammar) (trees k.kept.kind k.kept.ast none))
