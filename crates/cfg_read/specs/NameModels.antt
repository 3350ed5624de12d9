-- What lists of words and symbols and sets of names of the program say, without where they lie in memory.
use Rattle.std.specs.Prelude.{ℕ, Bool, List, map}
use Rattle.std.specs.Borrow.{Bor}
use Rattle.std.specs.List.{list_any}
use Rattle.std.specs.Str.{bytes_eq}
use Rattle.indexmap.specs.IndexSet.{IndexSet}
use Rattle.cfg_base.specs.SpanModel.{SpanModel}
use Rattle.cfg_read.specs.declared.yacc.parser.syntax.Symbol.{Symbol}
use Rattle.cfg_read.specs.SyntaxTexts.{WordText, SymbolText}
use Rattle.cfg_read.specs.SyntaxModels.{symbol_of}

abbrev pub mention_of : Bor (List ℕ) × SpanModel → WordText
mention_of m = record { text = m.0.now; span = m.1 }

abbrev pub words_at : List (Bor (List ℕ) × SpanModel) → List WordText
words_at ws = map mention_of ws

abbrev pub symbols_at : List (Bor Symbol) → List SymbolText
symbols_at ss = map (λ (s : Bor Symbol). symbol_of s.now) ss

-- the names of a set, in its order, and whether one is in it
abbrev pub names_in : {S : Type 0} → IndexSet (Bor (List ℕ)) S → List (List ℕ)
names_in s = map (λ (k : Bor (List ℕ)). k.now) s.keys

abbrev pub has_name : {S : Type 0} → IndexSet (Bor (List ℕ)) S → List ℕ → Bool
has_name s name = list_any (λ (k : Bor (List ℕ)). bytes_eq name k.now) s.keys
