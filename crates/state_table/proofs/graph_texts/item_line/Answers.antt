use Rattle.std.proofs.Common.{ℕ, ◌<◌, ◌≤◌, [], length, sym, ap, ◌∙◌, subst, subst₂}
use Rattle.cfg_theory.specs.Grammar.{body_of}
use Rattle.lr_theory.specs.Itemset.{Entry}
use Rattle.state_table.proofs.GraphTexts.{entry_production, entry_dot, entry_flags}
use Rattle.state_table.proofs.graph_texts.item_line.Goals as goal

none : Entry
none = record { production = 0; dot = 0; lookaheads = [] }

pub push_head-requires : goal.push_head-requires
push_head-requires g c =
    let G = c.args.grm.now.grammar in
    subst (λ (p : ℕ). p < length G.productions) (sym (c.item_at.ensures.production none)) (entry_production G c.args.set.now c.requires.fits c.args.index none c.requires.within)

pub push_dotted-requires-clause-production : goal.push_dotted-requires-clause-production
push_dotted-requires-clause-production g c =
    let G = c.args.grm.now.grammar in
    subst (λ (p : ℕ). p < length G.productions) (sym (c.item_at.ensures.production none)) (entry_production G c.args.set.now c.requires.fits c.args.index none c.requires.within)

pub push_dotted-requires-clause-dot : goal.push_dotted-requires-clause-dot
push_dotted-requires-clause-dot g c =
    let G = c.args.grm.now.grammar in
    subst₂ (λ (p d : ℕ). d ≤ length (body_of G p)) (sym (c.item_at.ensures.production none)) (sym (c.item_at.ensures.dot none)) (entry_dot G c.args.set.now c.requires.fits c.args.index none c.requires.within)

pub push_looks-requires : goal.push_looks-requires
push_looks-requires g c = ap length (c.looks_at.ensures none) ∙ entry_flags c.args.grm.now.grammar c.args.set.now c.requires.fits c.args.index none c.requires.within
