-- Conflicts with the names and the productions that they are of underlined.
use Rattle.std.specs.Prelude.{◌≡◌, ℕ, ◌==◌, List, [], ◌++◌, codes, nat_lt, Option, None, Some, option_map, slice_get, if◌then◌else◌}
use Rattle.std.specs.List.{flat_map}
use Rattle.std.specs.Option.{unwrap_or}
use Rattle.cfg_base.specs.SpanModel.{SpanModel}
use Rattle.cfg_theory.specs.Grammar.{head_of, end_token}
use Rattle.cfg_read.specs.Asts.{Ast}
use Rattle.cfg_numbered.specs.Value.{GrammarValue, RuleFacts, TokenFacts, IsTokenNamed}
use Rattle.table_theory.specs.Cells.{ReduceReduce, ShiftReduce, Conflicts}
use Rattle.lrpar_diagnostics.specs.Places.{Source, located_text}
use Rattle.lrpar_diagnostics.specs.Underlines.{underlined}
use Rattle.lrpar_diagnostics.specs.ProductionMarks.{nowhere, production_spans, marked_lines}

-- the name of the rule of a production, and where the text has it
abbrev pub rule_name : GrammarValue → ℕ → List ℕ
rule_name v p = unwrap_or (option_map (λ (r : RuleFacts). r.name) (slice_get v.rules (head_of v.grammar p))) []

abbrev pub rule_span : GrammarValue → ℕ → SpanModel
rule_span v p = unwrap_or (option_map (λ (r : RuleFacts). r.span) (slice_get v.rules (head_of v.grammar p))) nowhere

-- the name of a token; `$` for the end token, which has none
abbrev pub shown_token : GrammarValue → ℕ → List ℕ
shown_token v t =
    if nat_lt t v.grammar.tokens then unwrap_or (unwrap_or (option_map (λ (k : TokenFacts). k.name) (slice_get v.tokens t)) None) (codes "$") else codes "$"

-- where the text has a token; `dollar` for the end token
abbrev pub token_span : GrammarValue → Option SpanModel → ℕ → Option SpanModel
token_span v dollar t =
    if t == end_token v.grammar then dollar
    else (if nat_lt t v.grammar.tokens then unwrap_or (option_map (λ (k : TokenFacts). k.span) (slice_get v.tokens t)) None else None)

-- the span of the token of this name, if there is one
pub record IsSpanOfToken (v : GrammarValue) (name : List ℕ) (span : Option SpanModel) : Type 0 where
  pub named : (t : ℕ) → IsTokenNamed v t name → option_map (λ (k : TokenFacts). k.span) (slice_get v.tokens t) ≡ Some span
  pub unnamed : ((t : ℕ) → IsTokenNamed v t name → ⊥) → span ≡ None

-- a span underlined, with its message
abbrev pub told : List ℕ → SpanModel → List ℕ → List ℕ
told text span message = underlined text [] span message 94 ++ codes "\n"

-- so where there is a span
abbrev pub told_if : List ℕ → Option SpanModel → List ℕ → List ℕ
told_if text None message = []
told_if text (Some span) message = told text span message

-- the productions reduced by, after which an empty line stands
abbrev pub reduced_text : List ℕ → Ast → ℕ → List ℕ
reduced_text text ast p = marked_lines text (production_spans ast p) ++ codes " Reduced productions\n\n"

-- `Shift/Reduce conflict, can shift 'T' or reduce 'R'`
abbrev pub shift_message : GrammarValue → ℕ → ℕ → List ℕ
shift_message v t p = codes "Shift/Reduce conflict, can shift '" ++ shown_token v t ++ codes "' or reduce '" ++ rule_name v p ++ codes "'"

abbrev pub shift_parts : Source → List ℕ → SpanModel → Option SpanModel → Ast → ℕ → List ℕ
shift_parts source message rule token ast p =
    (located_text source message (Some rule) ++ codes "\n")
    ++ told_if source.text token (codes "Shift")
    ++ told source.text rule (codes "Reduced rule")
    ++ reduced_text source.text ast p

abbrev pub shift_text : Source → GrammarValue → Ast → Option SpanModel → ShiftReduce → List ℕ
shift_text source v ast dollar e = shift_parts source (shift_message v e.0 e.1) (rule_span v e.1) (token_span v dollar e.0) ast e.1

-- `Reduce/Reduce conflict, can reduce 'R1' or 'R2' with lookahead 'T'`
abbrev pub pair_message : GrammarValue → ℕ → ℕ → ℕ → List ℕ
pair_message v t p q = codes "Reduce/Reduce conflict, can reduce '" ++ rule_name v p ++ codes "' or '" ++ rule_name v q ++ codes "' with lookahead '" ++ shown_token v t ++ codes "'"

abbrev pub pair_parts : Source → List ℕ → SpanModel → SpanModel → Option SpanModel → List ℕ
pair_parts source message rule other token =
    (located_text source message (Some rule) ++ codes "\n")
    ++ told source.text rule (codes "First reduce")
    ++ told source.text other (codes "Second reduce")
    ++ told_if source.text token (codes "Lookahead")
    ++ codes "\n"

abbrev pub pair_text : Source → GrammarValue → Option SpanModel → ReduceReduce → List ℕ
pair_text source v dollar e = pair_parts source (pair_message v e.0 e.1 e.2) (rule_span v e.1) (rule_span v e.2) (token_span v dollar e.0)

-- all conflicts, pairs of reductions first
abbrev pub conflicts_text : Source → GrammarValue → Ast → Option SpanModel → Conflicts → List ℕ
conflicts_text source v ast dollar c = flat_map (pair_text source v dollar) c.reduce_reduce ++ flat_map (shift_text source v ast dollar) c.shift_reduce
