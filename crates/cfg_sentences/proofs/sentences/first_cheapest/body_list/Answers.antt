use Rattle.std.proofs.Common.{◌≡◌, ℕ, ◌+◌, ◌<◌, List, [], ◌∷◌, ◌++◌, Option, None, length, drop, get_or, refl, sym, ap, ◌∙◌, subst, arith}
use Rattle.std.proofs.lemmas.List.{drop_all, length-map}
use Rattle.cfg_base.specs.declared.symbol.Symbol.TheVariants.{Rule, Token}
use Rattle.cfg_numbered.specs.Symbols.{sym_of, syms_of}
use Rattle.cfg_sentences.specs.SharedLists.{Shared}
use Rattle.cfg_sentences.proofs.EarliestSteps.{rests_all, rests_rule, rests_token, rests_none, rests_done, rule_below, symbols_next}
use Rattle.cfg_sentences.proofs.sentences.first_cheapest.body_list.Goals.{in-Rule+in-Some+in_ok-list-in-Rule, in-Token+in_ok-list-in-Token}
use Rattle.cfg_sentences.proofs.sentences.first_cheapest.body_list.Goals as goal

pub of_rule-requires : goal.of_rule-requires
of_rule-requires g c =
    let number = g.S.IndexStorage.number in
    let xs = c.args.symbols.now in
    let i = c.symbols.index in
    let next = symbols_next number xs i (Rule c.in-Rule.rule) _ c.symbols-test.true c.in-Rule.is in
    let lt = rule_below (length c.args.shared.now.table) (syms_of number xs) i (number c.in-Rule.rule.0) (drop (i + 1) (syms_of number xs)) c.requires next in
    let e = c.to_usize.ensures.value in
    let t = ap length c.symbols.invariant.table in
    omega (arith, lt, e, t)

pub returns-in_default-clause-list : goal.returns-in_default-clause-list
returns-in_default-clause-list g c =
    let number = g.S.IndexStorage.number in
    let xs = c.args.symbols.now in
    let i = c.symbols.index in
    let A = number c.in-Rule.rule.0 in
    let K = c.args.shared.now.table in
    let next = symbols_next number xs i (Rule c.in-Rule.rule) _ c.symbols-test.true c.in-Rule.is in
    let kept = ap (λ (t : List (Option (List ℕ))). get_or t A None) (sym c.symbols.invariant.table) ∙ ap (λ (k : ℕ). get_or c.symbols.shared.table k None) (sym c.to_usize.ensures.value) ∙ c.in_default.ensures in
    rests_none K (syms_of number xs) A (drop (i + 1) (syms_of number xs)) (drop i (syms_of number xs)) (get_or c.symbols.shared.lists c.symbols.list []) kept next c.symbols.invariant.rests

pub symbols-preserved : goal.symbols-preserved
symbols-preserved g c = elim c.match-symbols-index.branch [
  | in-Rule+in-Some+in_ok-list-in-Rule w ↦
      (let number = g.S.IndexStorage.number in
      let xs = c.args.symbols.now in
      let i = c.symbols.index in
      let A = number w.in-Rule.rule.0 in
      let K = c.args.shared.now.table in
      let next = symbols_next number xs i (Rule w.in-Rule.rule) _ c.symbols-test.true w.in-Rule.is in
      let kept = ap (λ (t : List (Option (List ℕ))). get_or t A None) (sym c.symbols.invariant.table) ∙ ap (λ (k : ℕ). get_or c.symbols.shared.table k None) (sym w.to_usize.ensures.value) ∙ w.in-Some.ensures.1 in
      let k = c.match-symbols-index.list in
      let lists = w.join.new.self.lists in
      let more = ap (λ (v : Shared). get_or v.lists k []) w.shared-is ∙ ap (λ (j : ℕ). get_or lists j []) w.list-is ∙ w.in_ok-list-in-Rule.ensures.list in
      record {
        table = ap (λ (v : Shared). v.table) w.shared-is ∙ w.in_ok-list-in-Rule.ensures.table ∙ c.symbols.invariant.table;
        within = subst (λ (v : Shared). k < length v.lists) (sym w.shared-is) (subst (λ (j : ℕ). j < length lists) (sym w.list-is) w.in_ok-list-in-Rule.ensures.within);
        rests = rests_rule K (syms_of number xs) A (drop (i + 1) (syms_of number xs)) (drop i (syms_of number xs)) (get_or c.symbols.shared.lists c.symbols.list []) (get_or c.symbols.shared.lists w.in-Some.own []) (get_or c.match-symbols-index.shared.lists k []) kept next more c.symbols.invariant.rests;
      })
  | in-Token+in_ok-list-in-Token w ↦
      (let number = g.S.IndexStorage.number in
      let xs = c.args.symbols.now in
      let i = c.symbols.index in
      let K = c.args.shared.now.table in
      let next = symbols_next number xs i (Token w.in-Token.token) _ c.symbols-test.true w.in-Token.is in
      let k = c.match-symbols-index.list in
      let lists = w.join_token.new.self.lists in
      let more = ap (λ (v : Shared). get_or v.lists k []) w.shared-is ∙ ap (λ (j : ℕ). get_or lists j []) w.list-is ∙ w.in_ok-list-in-Token.ensures.list in
      record {
        table = ap (λ (v : Shared). v.table) w.shared-is ∙ w.in_ok-list-in-Token.ensures.table ∙ c.symbols.invariant.table;
        within = subst (λ (v : Shared). k < length v.lists) (sym w.shared-is) (subst (λ (j : ℕ). j < length lists) (sym w.list-is) w.in_ok-list-in-Token.ensures.within);
        rests = rests_token K (syms_of number xs) (number w.in-Token.token.0) (drop (i + 1) (syms_of number xs)) (drop i (syms_of number xs)) (get_or c.symbols.shared.lists c.symbols.list []) (get_or c.match-symbols-index.shared.lists k []) next more c.symbols.invariant.rests;
      })
]
