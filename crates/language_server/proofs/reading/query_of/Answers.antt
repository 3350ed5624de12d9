use Rattle.std.proofs.Common.{◌≢◌, ℕ, List}
use Rattle.language_server.specs.Reading.{query_text}
use Rattle.language_server.specs.declared.messages.Query.{Query}
use Rattle.language_server.specs.declared.messages.Query.TheVariants as queries
use Rattle.language_server.proofs.reading.query_of.Goals as goal

-- a name that is none of them is that of no query
of_none : (name : List ℕ) → name ≢ query_text queries.Symbols → name ≢ query_text queries.Folds → name ≢ query_text queries.Definition → name ≢ query_text queries.References → name ≢ query_text queries.Highlights → name ≢ query_text queries.Renamable → name ≢ query_text queries.Rename → name ≢ query_text queries.Completion → name ≢ query_text queries.Hover →
    (query : Query) → name ≢ query_text query
of_none name symbols folds definition references highlights renamable rename completion hover queries.Symbols = symbols
of_none name symbols folds definition references highlights renamable rename completion hover queries.Folds = folds
of_none name symbols folds definition references highlights renamable rename completion hover queries.Definition = definition
of_none name symbols folds definition references highlights renamable rename completion hover queries.References = references
of_none name symbols folds definition references highlights renamable rename completion hover queries.Highlights = highlights
of_none name symbols folds definition references highlights renamable rename completion hover queries.Renamable = renamable
of_none name symbols folds definition references highlights renamable rename completion hover queries.Rename = rename
of_none name symbols folds definition references highlights renamable rename completion hover queries.Completion = completion
of_none name symbols folds definition references highlights renamable rename completion hover queries.Hover = hover

pub returns-in_default-clause-none : goal.returns-in_default-clause-none
returns-in_default-clause-none c = λ is query.
    let d = c.in_default in
    of_none c.args.name.now d.not-text d.not-text-2 d.not-text-3 d.not-text-4 d.not-text-5 d.not-text-6 d.not-text-7 d.not-text-8 d.not-text-9 query
