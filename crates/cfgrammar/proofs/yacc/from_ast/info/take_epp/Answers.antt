use Rattle.std.proofs.Common.{◌≡◌, ℕ, List, map, option_map, refl, sym, ap, ◌∙◌}
use Rattle.std.specs.Map.{lookup}
use Rattle.std.specs.String.{string_bytes}
use Rattle.std.specs.declared.alloc.Global.{Global}
use Rattle.std.specs.declared.string.String.{String}
use Rattle.cfg_base.specs.SpanModel.{SpanModel}
use Rattle.cfg_read.specs.SyntaxTexts.{EppText}
use Rattle.cfg_read.specs.AstModels.{named_epp}
use Rattle.cfgrammar.specs.FromAst.{epp_in}
use Rattle.cfgrammar.proofs.FromAstLookups.{found_find, is_key}
use Rattle.cfgrammar.proofs.yacc.from_ast.info.take_epp.Goals as goal

abbrev shown : SpanModel × (String Global × SpanModel) → List ℕ
shown v = string_bytes v.1.0

abbrev of : EppText → List ℕ
of e = e.text.text

found : (es : List (String Global × (SpanModel × (String Global × SpanModel)))) (q : List ℕ) → option_map shown (lookup (is_key q) es) ≡ epp_in (map named_epp es) q
found es q = found_find named_epp (λ (e : EppText). e.token.text) shown of (λ e. refl) (λ e. refl) es q

pub returns-in-Some-clause-text : goal.returns-in-Some-clause-text
returns-in-Some-clause-text c = ap (option_map shown) c.in-Some.ensures.value ∙ found c.args.epps.now.entries c.args.name.now

pub returns-in-Some-clause-others : goal.returns-in-Some-clause-others
returns-in-Some-clause-others c = λ q apart. sym (found c.swap_remove.new.self.entries (string_bytes q)) ∙ ap (option_map shown) (c.in-Some.ensures.updates.2 q apart) ∙ found c.args.epps.now.entries (string_bytes q)

pub returns-in-None-clause-text : goal.returns-in-None-clause-text
returns-in-None-clause-text c = ap (option_map shown) c.in-None.ensures.value ∙ found c.args.epps.now.entries c.args.name.now
