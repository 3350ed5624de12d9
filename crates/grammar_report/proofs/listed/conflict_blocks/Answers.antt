use Rattle.std.proofs.Common.{◌≡◌, List, [], All, Contains, IfOk, IsPermutation, None, Option, map, option_map, sym, ap, ◌∙◌, subst, refl, arith, rules}
use Rattle.std.proofs.lemmas.List.Elements.{All-nil}
use Rattle.std.proofs.lemmas.List.Sorted.{IsPermutation-refl}
use Rattle.std.specs.declared.cmp.Ordering.{Ordering}
use Rattle.table_theory.specs.Cells.{Conflicts}
use Rattle.refused_tables.specs.Blocks.{AreBlocks, all_listed}
use Rattle.refused_tables.specs.declared.listed.Listed.{Listed}
use Rattle.grammar_report.proofs.listed.conflict_blocks.Goals as goal

none_listed : (cmp : Listed → Listed → Ordering) (each : _) → AreBlocks cmp each None []
none_listed cmp each = record {
  listed = [];
  are_listed = record { pairs = []; shifts = []; are = refl; pairs_are = IsPermutation-refl []; pairs_sorted = λ k d low lt. absurd (omega (arith, lt)); shifts_are = IsPermutation-refl []; shifts_sorted = λ k d low lt. absurd (omega (arith, lt)) };
  are = refl;
}

pub returns-in-Some-clause-blocks : goal.returns-in-Some-clause-blocks
returns-in-Some-clause-blocks c =
    let same = sym (ap (option_map (λ c. c.now)) c.in-Some.is) ∙ c.conflicts.ensures.value in
    subst (λ (o : Option Conflicts). IfOk c.blocks_of.result (λ v. AreBlocks _ c.args.each o (map (λ b. b.items) v.items))) same c.blocks_of.ensures.blocks

pub returns-in-Some-clause-listed : goal.returns-in-Some-clause-listed
returns-in-Some-clause-listed c =
    let same = sym (ap (option_map (λ c. c.now)) c.in-Some.is) ∙ c.conflicts.ensures.value in
    subst (λ (o : Option Conflicts). IfOk c.blocks_of.result (λ v. All (λ b. All (Contains (all_listed o)) b.items) v.items)) same c.blocks_of.ensures.listed

pub returns-in-None-clause-blocks : goal.returns-in-None-clause-blocks
returns-in-None-clause-blocks c =
    let same = sym (ap (option_map (λ c. c.now)) c.in-None.is) ∙ c.conflicts.ensures.value in
    let none = ap (map (λ b. b.items)) c.new.ensures.items in
    subst (AreBlocks _ c.args.each c.args.kit.now.parser.table.conflicts) (sym none) (subst (λ (o : Option Conflicts). AreBlocks _ c.args.each o []) same (none_listed _ c.args.each))
