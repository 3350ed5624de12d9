use Rattle.std.proofs.Common.{◌≡◌, ℕ, Bool, false, refl, ap, sym, ◌∙◌, replicate, map, List}
use Rattle.cfg_read.specs.declared.yacc.name_table.Entry.{Entry}
use Rattle.cfg_read.specs.Names.{is_among}
use Rattle.cfg_read.specs.AstModels.{named_span}
use Rattle.cfg_read.specs.NameTables.{KnownNames, nothing, is_marked}
use Rattle.cfg_read.proofs.Marks.{marked_nothing}
use Rattle.cfg_read.proofs.yacc.name_table.NameTable.of.Goals as goal

pub invariant_of-result : goal.invariant_of-result
invariant_of-result c =
    let es = c.in_ok-entries.entries in
    let made : es.items ≡ replicate c.len.result nothing = c.in_ok-entries.ensures.items_if_clones_equal (λ y e. e) in
    let mark : Entry → Bool = λ (e : Entry). e.is_token in
    record {
      size = sym es.ok.0 ∙ c.in_ok-entries.ensures.len ∙ c.len.ensures;
      are_tokens = λ j q. (ap (λ (l : List Entry). is_marked mark c.args.names l q) made ∙ marked_nothing mark c.args.names c.len.result nothing q refl ∙ sym (ap (λ l. is_among (map named_span l) q) c.in_ok-tokens.ensures.empty)) j;
    }

pub returns : goal.returns
returns c =
    let es = c.in_ok-entries.entries in
    let made : es.items ≡ replicate c.len.result nothing = c.in_ok-entries.ensures.items_if_clones_equal (λ y e. e) in
    let none : (mark : Entry → Bool) → mark nothing ≡ false → (q : List ℕ) → is_marked mark c.args.names es.items q ≡ false =
    λ mark is q. ap (λ (l : List Entry). is_marked mark c.args.names l q) made ∙ marked_nothing mark c.args.names c.len.result nothing q is in
    λ j. let k : KnownNames = record { declared = λ q. none (λ (e : Entry). e.is_declared) refl q j; rules = λ q. none (λ (e : Entry). e.is_rule) refl q j; tokens = ap (map named_span) c.in_ok-tokens.ensures.empty j } in k
