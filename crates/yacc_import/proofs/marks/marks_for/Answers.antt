use Rattle.yacc_import.specs.Changes.{changed, Fits}
use Rattle.yacc_import.proofs.Applying.{made_more, fits_more}
use Rattle.yacc_import.proofs.marks.marks_for.Goals as goal

pub notes-preserved : goal.notes-preserved
notes-preserved c =
    let s = c.args.source.now in
    let ns = c.args.notes.now in
    let n = c.note-item.result in (
      made_more s ns c.notes.at c.notes.note-index n c.notes.out.items _ _ (changed s 0 ns) c.notes-test.true c.note-item.is c.in_ok-push_kept.ensures.made c.in_ok-push_note.ensures.made c.notes.invariant.0,
      fits_more s ns c.notes.at c.notes.note-index n (Fits s 0 ns) c.notes-test.true c.note-item.is c.in_ok-push_kept.ensures.order c.in_ok-push_note.ensures.fits c.notes.invariant.1,
    )
