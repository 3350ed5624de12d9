use Rattle.std.proofs.Common.{◌≡◌, Bool, true, false, not, refl, ap, sym, ◌∙◌, if◌then◌else◌}
use Rattle.cfg_read.specs.declared.yacc.parser.syntax.Symbol.{Symbol}
use Rattle.cfg_read.specs.SyntaxTexts.{WordText}
use Rattle.cfg_read.specs.Names.{is_token_by}
use Rattle.cfg_read.specs.NameTexts.{name_text}
use Rattle.cfg_read.specs.NameTables.{known_of, with_token}
use Rattle.cfg_read.specs.SyntaxModels.{symbol_of}
use Rattle.cfg_read.proofs.yacc.ast.settle.Uses.settle_plain.Goals as goal

shown : (b : Bool) → not b ≡ false → b ≡ true
shown true h = refl
shown false h = sym h

pub returns-in_ok-number-in-Token-clause-known : goal.returns-in_ok-number-in-Token-clause-known
returns-in_ok-number-in-Token-clause-known c =
    let k = known_of c.args.self.now.table in
    c.in_ok-number-in-Token.ensures ∙ ap (λ (s : Symbol). if is_token_by k.declared (symbol_of s) then with_token k (symbol_of s).word else k) (sym c.in-Token.is)

pub returns-in_ok-number-in-Rule-clause-known : goal.returns-in_ok-number-in-Rule-clause-known
returns-in_ok-number-in-Rule-clause-known c =
    let k = known_of c.args.self.now.table in
    let w : WordText = record { text = name_text c.in-Rule.name; span = c.in-Rule.span } in
    let declared : k.declared w.text ≡ true = sym c.entry-entry.ensures.declared ∙ shown c.entry-entry.result.is_declared c.if-not-entry.false in
    c.in_ok-number-in-Rule.ensures
    ∙ ap (λ (b : Bool). if b then with_token k w else k) (sym declared)
    ∙ ap (λ (s : Symbol). if is_token_by k.declared (symbol_of s) then with_token k (symbol_of s).word else k) (sym c.in-Rule.is)
