use Rattle.std.proofs.Common.{true, refl, ap, ◌∙◌, arith}
use Rattle.cfg_read.specs.declared.yacc.name_table.Entry.{Entry}
use Rattle.cfg_read.specs.SyntaxTexts.{WordText}
use Rattle.cfg_read.specs.NameTexts.{name_text}
use Rattle.cfg_read.specs.AstModels.{named_spans}
use Rattle.cfg_read.specs.NameTables.{KnownNames, TableParts, known_of, with_declared}
use Rattle.cfg_read.proofs.Marks.{within_entries, still_table, one_marked, none_marked, kept_table}
use Rattle.cfg_read.proofs.yacc.name_table.NameTable.note_declared.Goals as goal

pub invariant_of-self : goal.invariant_of-self
invariant_of-self c =
    let was = c.self.inside in
    still_table was.names c.place_in.new.names was.entries.items c.place_in.new.entries.items c.place_in.ensures.marks (named_spans was.tokens) c.self.invariant c.place_in.ensures.size

pub index_mut-requires : goal.index_mut-requires
index_mut-requires c =
    let within = within_entries c.place_in.new.names c.place_in.new.entries.items c.in_ok-place.place (name_text c.args.name.now) c.place_in.ensures.size c.in_ok-place.ensures.there in
    let size = c.place_in.new.entries.ok.0 in
    omega (arith, within, size)

pub invariant_of-self-2 : goal.invariant_of-self-2
invariant_of-self-2 c =
    let was = c.self.inside in
    let ts = c.place_in.new.names in
    let es = c.place_in.new.entries.items in
    let p = c.in_ok-place.place in
    let q = name_text c.args.name.now in
    let f = c.index_mut.result.now in
    let e : Entry = record { is_declared = true; is_rule = f.is_rule; is_token = f.is_token; rule = f.rule; token = f.token } in
    kept_table was.names ts was.entries.items es c.place_in.ensures.marks p q e f (named_spans was.tokens) c.self.invariant c.place_in.ensures.size (ap (λ (x : Entry). x.is_token) c.index_mut.ensures.value)

pub returns : goal.returns
returns c = λ at.
    let was = c.self.inside in
    let ts = c.place_in.new.names in
    let es = c.place_in.new.entries.items in
    let p = c.in_ok-place.place in
    let q = name_text c.args.name.now in
    let f = c.index_mut.result.now in
    let e : Entry = record { is_declared = true; is_rule = f.is_rule; is_token = f.is_token; rule = f.rule; token = f.token } in
    let w : WordText = record { text = q; span = at } in
    let more = one_marked was.names ts was.entries.items es c.place_in.ensures.marks p q e (λ (x : Entry). x.is_declared) w refl refl c.in_ok-place.ensures.there (within_entries ts es p q c.place_in.ensures.size c.in_ok-place.ensures.there) refl in
    let rules = none_marked was.names ts was.entries.items es c.place_in.ensures.marks p q e (λ (x : Entry). x.is_rule) f refl (ap (λ (x : Entry). x.is_rule) c.index_mut.ensures.value) in
    (λ j. let k : KnownNames = record { declared = more j; rules = rules j; tokens = named_spans was.tokens } in k)
    ∙ ap (λ (t : TableParts). with_declared (known_of t) w) c.self.view_is
