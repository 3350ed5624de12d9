use Rattle.std.proofs.Common.{◌≡◌, ◌<◌, ◌++◌, [], cond, All}
use Rattle.std.specs.Prelude.{codes}
use Rattle.std.specs.List.{join_by}
use Rattle.std.specs.String.{string_bytes}
use Rattle.state_table.specs.GraphTexts.{token_text, tokens_of}
use Rattle.state_table.proofs.GraphTexts.{behind_gap}
use Rattle.state_table.proofs.graph_texts.push_looks.Given as goal

-- what is put, and what is still to be put
abbrev pub invariant-looks : goal.invariant-looks
invariant-looks g l =
    (goal.iterator-looks g).can_next l.token-iterator ×
    (goal.iterator-looks g).is_finite l.token-iterator ×
    All (λ t. t < l.grm.grammar.tokens) l.token-iterator ×
    (string_bytes l.text ++ behind_gap (token_text l.grm) (codes ", ") (cond l.follows (codes ", ") []) l.token-iterator ≡ string_bytes l.initial.text ++ join_by (token_text l.grm) (codes ", ") (tokens_of l.looks.bits))
