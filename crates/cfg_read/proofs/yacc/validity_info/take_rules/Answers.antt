use Rattle.std.proofs.Common.{◌≡◌, List, [], map, length, vec_len, sym, ap, ◌∙◌, subst, arith}
use Rattle.std.specs.List.{flat_map}
use Rattle.std.proofs.lemmas.List.{length-map}
use Rattle.cfg_read.specs.declared.yacc.parser.syntax.Rule.{Rule}
use Rattle.cfg_read.specs.Names.{is_among, declared_tokens, symbols_in, symbols_used}
use Rattle.cfg_read.specs.SyntaxModels.{rule_of, syntax_of}
use Rattle.cfg_read.specs.Asts.{heads_in, productions_in}
use Rattle.cfg_read.specs.AstModels.{production_of}
use Rattle.cfg_read.specs.NameTables.{known_of, known_before}
use Rattle.cfg_read.specs.Settling.{UsesText, AreUsesOf, with_symbols, uses_of}
use Rattle.cfg_read.specs.Judging.{heads_of, with_productions_of}
use Rattle.cfg_read.proofs.Judged.{as_many_heads, has_as_many}
use Rattle.cfg_read.proofs.yacc.validity_info.take_rules.Goals as goal

pub fill_prods-requires : goal.fill_prods-requires
fill_prods-requires c =
    let x = syntax_of c.args.x.now in
    let rules : c.replace-rules.result.items ≡ c.args.x.now.rules.items = ap (λ r. r.items) c.replace-rules.ensures.value in
    let heads : heads_of c.deref-2.result.now ≡ flat_map heads_in x.rules =
    ap heads_of c.deref-2.ensures.value ∙ c.in_ok-heads.ensures.heads ∙ ap (λ (rs : List Rule). flat_map heads_in (map rule_of rs)) c.deref.ensures.value in
    let prods : map production_of c.in_ok-prods.prods.items ≡ flat_map (productions_in (is_among (declared_tokens x))) x.rules =
    c.in_ok-prods.ensures.productions
    ∙ ap (λ (rs : List Rule). flat_map (productions_in (known_of c.args.uses.now.table).declared) (map rule_of rs)) rules
    ∙ ap (λ (u : UsesText). flat_map (productions_in u.known.declared) x.rules) c.requires.uses in
    ap length heads ∙ as_many_heads (is_among (declared_tokens x)) x.rules ∙ sym (ap length prods) ∙ length-map c.in_ok-prods.prods.items production_of

pub unknown_precs-requires : goal.unknown_precs-requires
unknown_precs-requires c = c.requires.lines.precedences_is

pub failures_by-requires : goal.failures_by-requires
failures_by-requires c = record { precedences_is = c.requires.lines.precedences_is; avoided_is = c.requires.lines.avoided_is; implicit_is = c.requires.lines.implicit_is }

pub returns-clause-errors : goal.returns-clause-errors
returns-clause-errors c =
    let x = syntax_of c.args.x.now in
    let u = uses_of c.productions.new.self in
    let rules : c.replace-rules.result.items ≡ c.args.x.now.rules.items = ap (λ r. r.items) c.replace-rules.ensures.value in
    let used : u ≡ with_symbols (record { known = known_before x; unknown = []; fresh = [] }) (symbols_used x) =
    c.in_ok-prods.ensures.uses
    ∙ ap (λ (rs : List Rule). with_symbols (uses_of c.args.uses.now) (flat_map symbols_in (map rule_of rs))) rules
    ∙ ap (λ (v : UsesText). with_symbols v (symbols_used x)) c.requires.uses in
    let are : AreUsesOf x u = subst (AreUsesOf x) (sym used) (c.all_settled.ensures x) in
    let kept = c.in_ok-heads.heads in
    let items : vec_len kept ≡ length kept.items = omega (arith, kept.ok.0) in
    let counted : vec_len kept ≡ length x.rules = items ∙ c.in_ok-heads.ensures.count ∙ ap length c.deref.ensures.value ∙ sym (length-map c.args.x.now.rules.items rule_of) in
    c.in_ok-errors.ensures x.rules (has_as_many c.is_empty.result (vec_len kept) x.rules c.is_empty.ensures counted) are c.in_ok-precs.ensures

pub returns-clause-rules : goal.returns-clause-rules
returns-clause-rules c =
    let x = syntax_of c.args.x.now in
    let u = uses_of c.productions.new.self in
    let rules : c.replace-rules.result.items ≡ c.args.x.now.rules.items = ap (λ r. r.items) c.replace-rules.ensures.value in
    let used : u ≡ with_symbols (record { known = known_before x; unknown = []; fresh = [] }) (symbols_used x) =
    c.in_ok-prods.ensures.uses
    ∙ ap (λ (rs : List Rule). with_symbols (uses_of c.args.uses.now) (flat_map symbols_in (map rule_of rs))) rules
    ∙ ap (λ (v : UsesText). with_symbols v (symbols_used x)) c.requires.uses in
    let heads : heads_of c.deref-2.result.now ≡ flat_map heads_in x.rules =
    ap heads_of c.deref-2.ensures.value ∙ c.in_ok-heads.ensures.heads ∙ ap (λ (rs : List Rule). flat_map heads_in (map rule_of rs)) c.deref.ensures.value in
    let prods : map production_of c.in_ok-prods.prods.items ≡ flat_map (productions_in (is_among (declared_tokens x))) x.rules =
    c.in_ok-prods.ensures.productions
    ∙ ap (λ (rs : List Rule). flat_map (productions_in (known_of c.args.uses.now.table).declared) (map rule_of rs)) rules
    ∙ ap (λ (v : UsesText). flat_map (productions_in v.known.declared) x.rules) c.requires.uses in
    record {
      uses = subst (AreUsesOf x) (sym used) (c.all_settled.ensures x);
      is = c.in_ok-fill_prods.ensures
          ∙ ap (λ hs. with_productions_of (map production_of c.in_ok-prods.prods.items) hs u.fresh c.args.ast.now) heads
          ∙ ap (λ ps. with_productions_of ps (flat_map heads_in x.rules) u.fresh c.args.ast.now) prods;
    }
