-- Trees stay well formed, whichever rule starts.
use Rattle.std.proofs.Common.{ℕ, Some}
use Rattle.std.specs.List.{Contains}
use Rattle.cfg_read.specs.SyntaxTexts.{WordText}
use Rattle.cfg_read.specs.Asts.{Ast}
use Rattle.cfg_read.specs.WellFormedAst.{ListsProduction, IsWellFormedAst, names_of_rules}

lists_same : (ast : Ast) (w : WordText) (A p : ℕ) → ListsProduction ast A p → ListsProduction (record ast { start = Some w }) A p
lists_same ast w A p h = record { rule = h.rule; at = h.at; listed = h.listed }

lists_back : (ast : Ast) (w : WordText) (A p : ℕ) → ListsProduction (record ast { start = Some w }) A p → ListsProduction ast A p
lists_back ast w A p h = record { rule = h.rule; at = h.at; listed = h.listed }

pub start_is_free : (ast : Ast) (w : WordText) → IsWellFormedAst ast → Contains (names_of_rules ast) w.text → IsWellFormedAst (record ast { start = Some w })
start_is_free ast w s known = record {
  start = known;
  rules = s.rules;
  tokens = s.tokens;
  precedences = s.precedences;
  epp = s.epp;
  avoid_insert = s.avoid_insert;
  implicit_tokens = s.implicit_tokens;
  levels = s.levels;
  has_rule = λ p below. ((s.has_rule p below).0, lists_same ast w (s.has_rule p below).0 p (s.has_rule p below).1);
  one_rule = λ A B p a b. s.one_rule A B p (lists_back ast w A p a) (lists_back ast w B p b);
  in_range = λ A p a. s.in_range A p (lists_back ast w A p a);
  ascend = s.ascend;
  symbols = s.symbols;
  precs = s.precs;
  implicit_are_tokens = s.implicit_are_tokens;
  avoided_are_tokens = s.avoided_are_tokens;
  epp_are_tokens = s.epp_are_tokens;
}
