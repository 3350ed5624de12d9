use Rattle.word_lines.proofs.NamedTokens.{looked_up, inside}
use Rattle.word_lines.proofs.names.find_token.Goals as goal

pub returns-clause-named : goal.returns-clause-named
returns-clause-named g c = looked_up g.S.IndexStorage.number c.args.grm.now c.args.name.now c.token_idx.result c.token_idx.ensures.found c.token_idx.ensures.none c.token_idx.ensures.only

pub returns-clause-inside : goal.returns-clause-inside
returns-clause-inside g c = inside g.S.IndexStorage.number c.args.grm.now c.args.name.now c.token_idx.result c.token_idx.ensures.found c.token_idx.ensures.within _ c.token_name.result c.eof_token_idx.ensures.value c.token_name.ensures.name c.token_name.ensures.end
