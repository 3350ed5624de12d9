-- Expressions of rules, as they are searched for.
use Rattle.std.specs.Prelude.{◌≡◌, ℕ, true, List, ◌++◌, codes}
use Rattle.regex.specs.Patterns.{Config, default_config}
use Rattle.regex.specs.Strings.{regex_source, regex_config, IsReadFromSource}
use Rattle.regex.specs.declared.string.regex.Regex.{Regex}

-- `.` matches LF too, `^` and `$` match at the ends of lines, and `\141` is an octal escape; the rest is the default
abbrev pub lex_config : Config
lex_config =
    record default_config { octal = true; utf8 = true; flags = record default_config.flags { multi_line = true; dot_matches_new_line = true } }

-- the expression, at the front of what is searched
abbrev pub anchored : List ℕ → List ℕ
anchored expression = codes "\\A(?:" ++ expression ++ codes ")"

-- the regex searches for the expression at the front
pub record SearchesFor (expression : List ℕ) (r : Regex) : Type 0 where
  pub source : regex_source r ≡ anchored expression
  pub config : regex_config r ≡ lex_config
  pub read : IsReadFromSource r
