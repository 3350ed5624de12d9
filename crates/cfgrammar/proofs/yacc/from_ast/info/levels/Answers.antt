use Rattle.std.proofs.Common.{◌≡◌, ℕ, List, [], ◌∷◌, map, IfOk, refl, ap, ◌∙◌, subst}
use Rattle.std.specs.String.{string_bytes}
use Rattle.std.specs.declared.alloc.Global.{Global}
use Rattle.std.specs.declared.string.String.{String}
use Rattle.cfg_base.specs.SpanModel.{SpanModel}
use Rattle.cfg_read.specs.Names.{texts}
use Rattle.cfg_read.specs.AstModels.{named_span}
use Rattle.cfgrammar.specs.FromAst.{precedence_of}
use Rattle.cfgrammar.proofs.yacc.from_ast.info.levels.Goals as goal

keys_are : (es : List (String Global × SpanModel)) → map string_bytes (map (λ (e : String Global × SpanModel). e.0) es) ≡ texts (map named_span es)
keys_are [] = refl
keys_are (e ∷ es) = ap (λ l. string_bytes e.0 ∷ l) (keys_are es)

pub returns : goal.returns
returns c =
    let names = ap (map string_bytes) (c.as_slice.ensures ∙ c.keys-names.ensures.rest) ∙ keys_are c.tokens.result.now.entries ∙ ap texts c.tokens.ensures in
    subst (λ (ns : List (List ℕ)). IfOk c.levels_of.result (λ v. v.items ≡ map (precedence_of c.args.ast.now) ns)) names c.levels_of.ensures
