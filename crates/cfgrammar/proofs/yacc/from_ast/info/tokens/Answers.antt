use Rattle.std.proofs.Common.{◌≡◌, ◌∷◌, ◌++◌, Some, false, length, map, option_map, slice_get, get_or, All, refl, sym, ap, ◌∙◌, subst, arith}
use Rattle.std.specs.Str.{bytes_eq}
use Rattle.std.specs.String.{string_bytes}
use Rattle.std.specs.declared.alloc.Global.{Global}
use Rattle.std.specs.declared.string.String.{String}
use Rattle.std.proofs.lemmas.List.{length-map}
use Rattle.std.proofs.lemmas.List.Elements.{All-head, All-tail}
use Rattle.std.proofs.lemmas.Map.Iter.{rest_more}
use Rattle.std.proofs.lemmas.Option.{slice_get-map, slice_get_within}
use Rattle.cfg_base.specs.SpanModel.{SpanModel}
use Rattle.cfg_read.specs.Asts.{Ast}
use Rattle.cfg_read.specs.AstModels.{named_span, named_epps}
use Rattle.cfg_read.specs.WellFormedAst.{names_of_tokens}
use Rattle.cfg_numbered.specs.Info.{token_facts}
use Rattle.cfgrammar.specs.FromAst.{epp_in, epp_of, file_token_facts}
use Rattle.cfgrammar.proofs.ByName.{token_text, token_texts, tokens_apart}
use Rattle.cfgrammar.proofs.FromAstTaken.{one_taken, next_of, next_is_free, others_differ}
use Rattle.cfgrammar.proofs.FromAstTokens.{levels_count, level_at}
use Rattle.cfgrammar.proofs.yacc.from_ast.info.tokens.Goals as goal

pub level_of-precedence-requires : goal.level_of-precedence-requires
level_of-precedence-requires c =
    let ast = c.args.ast.now in
    let es = c.tokens.tokens.entries in
    let f = file_token_facts ast (named_span (c.in-Some.name, c.in-Some.span)) in
    let rest = map (file_token_facts ast) (map named_span c.next.new.self) in
    let step = rest_more (λ e. e) c.tokens.name-iterator c.next.new.self c.next.result (c.in-Some.name, c.in-Some.span) c.in-Some.is c.next.ensures.steps in
    let whole : map token_facts es ++ f ∷ rest ≡ map (file_token_facts ast) ast.tokens = ap (λ l. map token_facts es ++ map (file_token_facts ast) (map named_span l)) (sym step) ∙ c.tokens.invariant.0 in
    let within = slice_get_within (map (file_token_facts ast) ast.tokens) (length (map token_facts es)) f (next_of token_facts (map (file_token_facts ast) ast.tokens) es f rest whole) in
    let here = length-map es token_facts in
    let all = length-map ast.tokens (file_token_facts ast) in
    let count = levels_count ast c.args.levels.now c.requires.told in
    let len = c.len-in-tokens.ensures.len in
    omega (arith, within, here, all, count, len)

pub put_last-requires : goal.put_last-requires
put_last-requires c =
    let ast = c.args.ast.now in
    let es = c.tokens.tokens.entries in
    let f = file_token_facts ast (named_span (c.in-Some.name, c.in-Some.span)) in
    let rest = map (file_token_facts ast) (map named_span c.next.new.self) in
    let step = rest_more (λ e. e) c.tokens.name-iterator c.next.new.self c.next.result (c.in-Some.name, c.in-Some.span) c.in-Some.is c.next.ensures.steps in
    let whole : map token_facts es ++ f ∷ rest ≡ map (file_token_facts ast) ast.tokens = ap (λ l. map token_facts es ++ map (file_token_facts ast) (map named_span l)) (sym step) ∙ c.tokens.invariant.0 in
    next_is_free token_facts token_text (λ e. refl) (map (file_token_facts ast) ast.tokens) (tokens_apart ast c.requires.apart) es f rest whole

pub tokens-preserved : goal.tokens-preserved
tokens-preserved c =
    let ast = c.args.ast.now in
    let facts = map (file_token_facts ast) ast.tokens in
    let es = c.tokens.tokens.entries in
    let x : String Global × SpanModel = (c.in-Some.name, c.in-Some.span) in
    let f = file_token_facts ast (named_span x) in
    let left = c.next.new.self in
    let rest = map (file_token_facts ast) (map named_span left) in
    let step = rest_more (λ e. e) c.tokens.name-iterator left c.next.result x c.in-Some.is c.next.ensures.steps in
    let whole : map token_facts es ++ f ∷ rest ≡ facts = ap (λ l. map token_facts es ++ map (file_token_facts ast) (map named_span l)) (sym step) ∙ c.tokens.invariant.0 in
    let at = next_of token_facts facts es f rest whole in
    let n = c.len-in-tokens.result in
    let here = length-map es token_facts in
    let len = c.len-in-tokens.ensures.len in
    let same : n ≡ length (map token_facts es) = omega (arith, here, len) in
    let q = c.as_str.result.now in
    let name : q ≡ string_bytes c.in-Some.name = c.as_str.ensures.value in
    let named : slice_get (names_of_tokens ast) n ≡ Some q =
    ap (λ l. slice_get l n) (sym (token_texts ast ast.tokens)) ∙ slice_get-map token_text facts n ∙ ap (option_map token_text) (ap (slice_get facts) same ∙ at) ∙ ap Some (sym name) in
    let level = level_at ast c.args.levels.now n c.level_of-precedence.result q c.requires.told c.level_of-precedence.ensures named in
    let avoided = sym (ap (λ (a : Ast). a.avoid_insert) c.take_epp-epps.ensures.rest ∙ ap (λ (a : Ast). a.avoid_insert) c.take_tokens-from.ensures.rest) in
    let P = λ (e : String Global × SpanModel). epp_in (named_epps c.tokens.epps) (string_bytes e.0) ≡ epp_of ast (string_bytes e.0) in
    let all = subst (All P) step c.tokens.invariant.1 in
    let printed = subst (λ t. epp_in (named_epps c.tokens.epps) t ≡ epp_of ast t) (sym name) (All-head P x left all) in
    let token = c.file_token-token.ensures.token ast c.in-Some.name (sym name) avoided printed level ∙ ap (λ t. file_token_facts ast (record { text = t; span = c.in-Some.span })) name in
    let differ = others_differ token_text (file_token_facts ast) named_span (λ e. refl) facts (map token_facts es) x left (tokens_apart ast c.requires.apart) whole in (
      ap (λ l. map token_facts l ++ rest) c.in_ok-put_last.ensures
          ∙ one_taken token_facts es (c.in-Some.name, c.file_token-token.result) f rest token
          ∙ whole,
      λ k d lt.
          let e = get_or left k d in
          c.file_token-token.ensures.others e.0 (subst (λ t. bytes_eq t (string_bytes e.0) ≡ false) (sym name) (differ k d lt)) ∙ All-tail P x left all k d lt,
    )
