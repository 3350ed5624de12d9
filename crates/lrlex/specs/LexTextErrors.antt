-- Why a text gives no rules.
use Rattle.std.specs.Prelude.{Bool, true, false}
use Rattle.lex_files.specs.declared.fault.LexFileError.TheVariants as files
use Rattle.regex.specs.declared.error.Error.TheVariants as expressions
use Rattle.lrlex.specs.declared.from_text.LexTextError.{LexTextError}
use Rattle.lrlex.specs.declared.from_text.LexTextError.TheVariants.{File, Expression}

-- for want of memory
abbrev pub is_memory : LexTextError → Bool
is_memory (File (files.Memory e)) = true
is_memory (File (files.Section es)) = false
is_memory (File (files.Line fault)) = false
is_memory (Expression span expressions.OutOfMemory) = true
is_memory (Expression span (expressions.Syntax e)) = false
is_memory (Expression span expressions.CompiledTooBig) = false
is_memory (Expression span expressions.Internal) = false
