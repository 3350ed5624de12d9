use Rattle.std.proofs.Common.{◌<◌, true, refl, ap, ◌∙◌, length, arith}
use Rattle.cfg_read.specs.declared.yacc.name_table.Entry.{Entry}
use Rattle.cfg_read.specs.SyntaxTexts.{WordText}
use Rattle.cfg_read.specs.NameTexts.{name_text}
use Rattle.cfg_read.specs.AstModels.{named_spans}
use Rattle.cfg_read.specs.NameTables.{KnownNames, TableParts, known_of, with_rule_name}
use Rattle.cfg_read.proofs.Marks.{within_entries, still_table, one_marked, none_marked, kept_table}
use Rattle.cfg_read.proofs.yacc.name_table.NameTable.note_rule.Goals as goal

pub invariant_of-self : goal.invariant_of-self
invariant_of-self c =
    let was = c.self.inside in
    still_table was.names c.place_in.new.names was.entries.items c.place_in.new.entries.items c.place_in.ensures.marks (named_spans was.tokens) c.self.invariant c.place_in.ensures.size

pub index_mut-entry-requires : goal.index_mut-entry-requires
index_mut-entry-requires c =
    let within = within_entries c.place_in.new.names c.place_in.new.entries.items c.in_ok-place.place (name_text c.args.name.now) c.place_in.ensures.size c.in_ok-place.ensures.there in
    let size = c.place_in.new.entries.ok.0 in
    omega (arith, within, size)

pub invariant_of-self-then-not-entry : goal.invariant_of-self-then-not-entry
invariant_of-self-then-not-entry c =
    let was = c.self.inside in
    let ts = c.place_in.new.names in
    let es = c.place_in.new.entries.items in
    let p = c.in_ok-place.place in
    let q = name_text c.args.name.now in
    let f = c.index_mut-entry.result.now in
    let e : Entry = record { is_declared = f.is_declared; is_rule = true; is_token = f.is_token; rule = was.rules_len; token = f.token } in
    kept_table was.names ts was.entries.items es c.place_in.ensures.marks p q e f (named_spans was.tokens) c.self.invariant c.place_in.ensures.size (ap (λ (x : Entry). x.is_token) c.index_mut-entry.ensures.value)

pub invariant_of-self-else-not-entry : goal.invariant_of-self-else-not-entry
invariant_of-self-else-not-entry c =
    let was = c.self.inside in
    let ts = c.place_in.new.names in
    let es = c.place_in.new.entries.items in
    let p = c.in_ok-place.place in
    let q = name_text c.args.name.now in
    let f = c.index_mut-entry.result.now in
    let e : Entry = f in
    kept_table was.names ts was.entries.items es c.place_in.ensures.marks p q e f (named_spans was.tokens) c.self.invariant c.place_in.ensures.size (ap (λ (x : Entry). x.is_token) c.index_mut-entry.ensures.value)

pub returns-then-not-entry : goal.returns-then-not-entry
returns-then-not-entry c = λ at.
    let was = c.self.inside in
    let ts = c.place_in.new.names in
    let es = c.place_in.new.entries.items in
    let p = c.in_ok-place.place in
    let q = name_text c.args.name.now in
    let f = c.index_mut-entry.result.now in
    let e : Entry = record { is_declared = f.is_declared; is_rule = true; is_token = f.is_token; rule = was.rules_len; token = f.token } in
    let w : WordText = record { text = q; span = at } in
    let within : p < length es = within_entries ts es p q c.place_in.ensures.size c.in_ok-place.ensures.there in
    let declared = none_marked was.names ts was.entries.items es c.place_in.ensures.marks p q e (λ (x : Entry). x.is_declared) f refl (ap (λ (x : Entry). x.is_declared) c.index_mut-entry.ensures.value) in
    let more = one_marked was.names ts was.entries.items es c.place_in.ensures.marks p q e (λ (x : Entry). x.is_rule) w refl refl c.in_ok-place.ensures.there within refl in
    (λ j. let k : KnownNames = record { declared = declared j; rules = more j; tokens = named_spans was.tokens } in k)
    ∙ ap (λ (t : TableParts). with_rule_name (known_of t) w) c.self.view_is

pub returns-else-not-entry : goal.returns-else-not-entry
returns-else-not-entry c = λ at.
    let was = c.self.inside in
    let ts = c.place_in.new.names in
    let es = c.place_in.new.entries.items in
    let p = c.in_ok-place.place in
    let q = name_text c.args.name.now in
    let f = c.index_mut-entry.result.now in
    let e : Entry = f in
    let w : WordText = record { text = q; span = at } in
    let within : p < length es = within_entries ts es p q c.place_in.ensures.size c.in_ok-place.ensures.there in
    let declared = none_marked was.names ts was.entries.items es c.place_in.ensures.marks p q e (λ (x : Entry). x.is_declared) f refl (ap (λ (x : Entry). x.is_declared) c.index_mut-entry.ensures.value) in
    let more = one_marked was.names ts was.entries.items es c.place_in.ensures.marks p q e (λ (x : Entry). x.is_rule) w refl refl c.in_ok-place.ensures.there within c.if-not-entry.false in
    (λ j. let k : KnownNames = record { declared = declared j; rules = more j; tokens = named_spans was.tokens } in k)
    ∙ ap (λ (t : TableParts). with_rule_name (known_of t) w) c.self.view_is
