-- What holds of a source with notes applied holds of the result.
use Rattle.std.proofs.Common.{◌∙◌, ap, sym, subst, length}
use Rattle.std.specs.List.{All}
use Rattle.yacc_import.specs.Changes.{IsFor, Rises, places_of, line_feeds}
use Rattle.yacc_import.proofs.LineFeeds.{line_feeds_stay}
use Rattle.yacc_import.proofs.Places.{places_rise, notes_lie}
use Rattle.yacc_import.proofs.Bytes.{each_byte_is_for}
use Rattle.yacc_import.proofs.importing.import.Goals as goal

pub returns-in-Ok-apply_notes-clause-bytes : goal.returns-in-Ok-apply_notes-clause-bytes
returns-in-Ok-apply_notes-clause-bytes c =
    let ns = c.in-Ok-apply_notes.imported.notes.items in
    subst (λ l. All (IsFor c.args.source.now ns) l) (sym c.in-Ok-apply_notes.ensures.made) (each_byte_is_for c.args.source.now ns c.in-Ok-apply_notes.ensures.fits)

pub returns-in-Ok-apply_notes-clause-line_feeds : goal.returns-in-Ok-apply_notes-clause-line_feeds
returns-in-Ok-apply_notes-clause-line_feeds c =
    ap line_feeds c.in-Ok-apply_notes.ensures.made ∙ line_feeds_stay c.args.source.now c.in-Ok-apply_notes.imported.notes.items c.in-Ok-apply_notes.ensures.fits

pub returns-in-Ok-apply_notes-clause-places : goal.returns-in-Ok-apply_notes-clause-places
returns-in-Ok-apply_notes-clause-places c =
    subst (λ l. Rises 0 (places_of l) (length c.args.source.now)) (sym c.in-Ok-apply_notes.ensures.made) (places_rise c.args.source.now c.in-Ok-apply_notes.imported.notes.items c.in-Ok-apply_notes.ensures.fits)

pub returns-in-Ok-apply_notes-clause-notes : goal.returns-in-Ok-apply_notes-clause-notes
returns-in-Ok-apply_notes-clause-notes c = notes_lie c.args.source.now c.in-Ok-apply_notes.imported.notes.items c.in-Ok-apply_notes.ensures.fits
