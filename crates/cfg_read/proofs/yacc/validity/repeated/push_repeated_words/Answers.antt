use Rattle.std.proofs.Common.{◌++◌}
use Rattle.cfg_read.proofs.Joined.{joined}
use Rattle.cfg_read.specs.Names.{avoided_tokens, implicit_tokens_of, level_tokens}
use Rattle.cfg_read.specs.SyntaxTexts.{SyntaxText}
use Rattle.cfg_read.specs.SyntaxModels.{syntax_of}
use Rattle.cfg_read.specs.ErrorModels.{failures_in}
use Rattle.cfg_read.specs.Validity.{epp_tokens, repeated_names, DuplicatePrecedence, DuplicateEPP, DuplicateAvoidInsertDeclaration, DuplicateImplicitTokensDeclaration}
use Rattle.cfg_read.proofs.yacc.validity.repeated.push_repeated_words.Goals as goal

pub returns : goal.returns
returns c =
    let x : SyntaxText = syntax_of c.args.x.now in
    let base = failures_in c.args.errors.now.items in
    let a = repeated_names DuplicatePrecedence (level_tokens x) in
    let b = repeated_names DuplicateEPP (epp_tokens x) in
    let d = repeated_names DuplicateAvoidInsertDeclaration (avoided_tokens x) in
    let e = repeated_names DuplicateImplicitTokensDeclaration (implicit_tokens_of x) in
    let one = failures_in c.push_repeated_levels.new.errors.items in
    let two = failures_in c.push_repeated_epps.new.errors.items in
    let three = failures_in c.push_repeated_avoided.new.errors.items in
    let four = failures_in c.push_repeated_implicit.new.errors.items in
    joined base one four a (b ++ (d ++ e)) c.in_ok-push_repeated_levels.ensures
    (joined one two four b (d ++ e) c.in_ok-push_repeated_epps.ensures (joined two three four d e c.in_ok-push_repeated_avoided.ensures c.in_ok-push_repeated_implicit.ensures))
