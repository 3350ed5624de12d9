-- Of each text something is kept, so that want of memory is an answer of each.
use Rattle.std.proofs.Common.{◌≡◌, ℕ, Bool, true, false, List, Err, refl}
use Rattle.std.specs.declared.alloc.AllocError.{AllocError}
use Rattle.cfg_read.specs.declared.yacc.YaccKind.{YaccKind}
use Rattle.cfg_read.specs.Files.{FileOutcome, reads_file, fails_file, KindOutcome, tells_kind, lacks_kind}
use Rattle.cfg_read.specs.ValidityInfo.{CheckedAst, is_valid, read_as, unread, reads_as, has_errors}
use Rattle.cfgrammar.specs.declared.yacc.from_ast.YaccGrammarMakeError.TheVariants as errors
use Rattle.cfgrammar.specs.FromAst.{Makes, of_valid, of_invalid, MakesText, MakesFile, of_kind, without_kind}

makes_memory : (top : ℕ) (c : CheckedAst) (e : AllocError) → Makes top c (Err (errors.Memory e))
makes_memory top c e = by (is_valid c.errors) refl
  where
    by : (b : Bool) → is_valid c.errors ≡ b → Makes top c (Err (errors.Memory e))
    by true h = of_valid h tt
    by false h = of_invalid h tt

pub text_memory : (top : ℕ) (kind : YaccKind) (text : List ℕ) (e : AllocError) → FileOutcome kind text → MakesText top kind text (Err (errors.Memory e))
text_memory top kind text e (reads_file x h) = record { kept = read_as kind x; checked = reads_as x h refl; answer = makes_memory top (read_as kind x) e }
text_memory top kind text e (fails_file fs h) = record { kept = unread kind fs; checked = has_errors fs h refl; answer = makes_memory top (unread kind fs) e }

pub file_memory : (top : ℕ) (text : List ℕ) (e : AllocError) → KindOutcome text → ((kind : YaccKind) → FileOutcome kind text) → MakesFile top text (Err (errors.Memory e))
file_memory top text e (tells_kind kind h) some = of_kind kind h (text_memory top kind text e (some kind))
file_memory top text e (lacks_kind fs h) some = without_kind fs h tt
