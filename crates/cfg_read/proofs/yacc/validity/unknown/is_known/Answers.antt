use Rattle.std.proofs.Common.{◌≡◌, not, ◌||◌, ◌&&◌, sym, ap, ◌∙◌}
use Rattle.cfg_read.specs.Names.{is_among}
use Rattle.cfg_read.specs.NameTables.{known_of}
use Rattle.cfg_read.specs.AstModels.{named_spans}
use Rattle.cfg_read.specs.SyntaxModels.{symbol_of}
use Rattle.cfg_read.proofs.AstLemmas.{found_among}
use Rattle.cfg_read.proofs.yacc.validity.unknown.is_known.Goals as goal

pub returns-then-contains_key : goal.returns-then-contains_key
returns-then-contains_key c =
    let s = symbol_of c.args.symbol.now in
    let rules = (known_of c.args.table.now).rules in
    let tokens = is_among (named_spans c.args.tokens.now) in
    let told : c.contains_key.result ≡ tokens s.word.text = c.contains_key.ensures ∙ found_among c.args.tokens.now.entries c.as_str.result.now ∙ ap tokens (c.as_str.ensures ∙ c.name-name.ensures) in
    c.if-contains_key.true ∙ ap (λ b. b || (not s.is_quoted && rules s.word.text)) (sym c.if-contains_key.true ∙ told)

pub returns-then-not-is_quoted : goal.returns-then-not-is_quoted
returns-then-not-is_quoted c =
    let s = symbol_of c.args.symbol.now in
    let rules = (known_of c.args.table.now).rules in
    let tokens = is_among (named_spans c.args.tokens.now) in
    let told : c.contains_key.result ≡ tokens s.word.text = c.contains_key.ensures ∙ found_among c.args.tokens.now.entries c.as_str.result.now ∙ ap tokens (c.as_str.ensures ∙ c.name-name.ensures) in
    c.entry.ensures.rule
    ∙ ap rules c.name-name.ensures
    ∙ ap (λ b. not b && rules s.word.text) (sym c.if-not-is_quoted.true ∙ c.is_quoted.ensures)
    ∙ ap (λ b. b || (not s.is_quoted && rules s.word.text)) (sym c.if-contains_key.false ∙ told)

pub returns-else-not-is_quoted : goal.returns-else-not-is_quoted
returns-else-not-is_quoted c =
    let s = symbol_of c.args.symbol.now in
    let rules = (known_of c.args.table.now).rules in
    let tokens = is_among (named_spans c.args.tokens.now) in
    let told : c.contains_key.result ≡ tokens s.word.text = c.contains_key.ensures ∙ found_among c.args.tokens.now.entries c.as_str.result.now ∙ ap tokens (c.as_str.ensures ∙ c.name-name.ensures) in
    ap not c.if-not-is_quoted.false
    ∙ ap (λ b. not b && rules s.word.text) (sym c.if-not-is_quoted.false ∙ c.is_quoted.ensures)
    ∙ ap (λ b. b || (not s.is_quoted && rules s.word.text)) (sym c.if-contains_key.false ∙ told)
