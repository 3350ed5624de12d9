use Rattle.std.proofs.Common.{◌≡◌, drop, Ok}
use Rattle.std.proofs.lemmas.Result.{IfOk-weaker, IfErr-weaker}
use Rattle.lex_files.specs.LexFiles.{ReadsAs, TellsFile, Tells, file_value, first_file, read_lines}
use Rattle.lex_files.proofs.Sections.{tells_file}
use Rattle.lex_files.proofs.reading.read_file.Goals as goal

pub returns-in-Ok-clause-ok : goal.returns-in-Ok-clause-ok
returns-in-Ok-clause-ok c =
    let from = c.boundary_of.result in
    IfOk-weaker c.read_from.result (λ f. read_lines first_file from (drop from c.args.text.now) ≡ Ok (file_value f)) (λ f. ReadsAs c.args.text.now (Ok (file_value f)))
    (λ f h. record { end = c.in-Ok.end; section = c.in-Ok.ensures.section; from = from; is_end = c.boundary_of.ensures.same; lines = h }) c.read_from.ensures.ok

pub returns-in-Ok-clause-err : goal.returns-in-Ok-clause-err
returns-in-Ok-clause-err c =
    let from = c.boundary_of.result in
    IfErr-weaker c.read_from.result (Tells (read_lines first_file from (drop from c.args.text.now))) (TellsFile c.args.text.now)
    (λ e h. tells_file c.args.text.now c.in-Ok.end from c.in-Ok.ensures.section c.boundary_of.ensures.same e h) c.read_from.ensures.err
