use Rattle.std.proofs.Common.{◌≡◌, ℕ, ◌<◌, Bool, true, false, refl, ap, sym, ◌∙◌, subst, slice_get, slice_index_or, slice_set, Some, length, arith, List, [], ◌∷◌, ◌++◌}
use Rattle.std.specs.List.{IsDistinct}
use Rattle.std.specs.Str.{bytes_eq}
use Rattle.std.proofs.lemmas.Option.{slice_get_read}
use Rattle.cfg_read.specs.declared.yacc.name_table.Entry.{Entry}
use Rattle.cfg_read.specs.SyntaxTexts.{WordText}
use Rattle.cfg_read.specs.Names.{is_among, with_distinct}
use Rattle.cfg_read.specs.NameTexts.{name_text}
use Rattle.cfg_read.specs.AstModels.{named_spans}
use Rattle.cfg_read.specs.NameTables.{KnownNames, TableParts, IsTable, known_of, nothing, is_marked, with_token}
use Rattle.cfg_read.proofs.Marks.{marked_at, within_entries, still_table, none_marked, kept_table, more_table}
use Rattle.cfg_read.proofs.AstLemmas.{distinct_new, distinct_known}
use Rattle.cfg_read.proofs.yacc.name_table.NameTable.note_token.Goals as goal

pub invariant_of-self : goal.invariant_of-self
invariant_of-self c =
    let was = c.self.inside in
    still_table was.names c.place_in.new.names was.entries.items c.place_in.new.entries.items c.place_in.ensures.marks (named_spans was.tokens) c.self.invariant c.place_in.ensures.size

pub index_mut-entry-requires : goal.index_mut-entry-requires
index_mut-entry-requires c =
    let within = within_entries c.place_in.new.names c.place_in.new.entries.items c.in_ok-place.place (name_text c.args.name.now) c.place_in.ensures.size c.in_ok-place.ensures.there in
    let size = c.place_in.new.entries.ok.0 in
    omega (arith, within, size)

-- whether the name is a token
is_one : (ts0 ts : List (List ℕ)) (es0 es : List Entry) → ((mark : Entry → Bool) → mark nothing ≡ false → (q : List ℕ) → is_marked mark ts es q ≡ is_marked mark ts0 es0 q)
    → (ws : List WordText) → IsTable ts0 es0 ws → IsDistinct bytes_eq ts → (p : ℕ) (q : List ℕ) (f : Entry) → slice_get ts p ≡ Some q → p < length es → f ≡ slice_index_or es p f → is_among ws q ≡ f.is_token
is_one ts0 ts es0 es marks ws was distinct p q f at within is =
    let mark : Entry → Bool = λ (e : Entry). e.is_token in
    sym (λ j. was.are_tokens j q)
    ∙ sym (marks mark refl q)
    ∙ marked_at mark ts es p q f distinct at (slice_get_read es (length es) p f refl within is)

pub add_token-requires : goal.add_token-requires
add_token-requires c =
    let was = c.self.inside in
    let ts = c.place_in.new.names in
    let es = c.place_in.new.entries.items in
    let p = c.in_ok-place.place in
    let q = name_text c.args.name.now in
    let f = c.index_mut-entry.result.now in
    let within : p < length es = within_entries ts es p q c.place_in.ensures.size c.in_ok-place.ensures.there in
    is_one was.names ts was.entries.items es c.place_in.ensures.marks (named_spans was.tokens) c.self.invariant c.in_ok-place.ensures.unique p q f c.in_ok-place.ensures.there within c.index_mut-entry.ensures.value
    ∙ c.if-entry.false

pub invariant_of-self-in_err-number : goal.invariant_of-self-in_err-number
invariant_of-self-in_err-number c =
    let was = c.self.inside in
    let ts = c.place_in.new.names in
    let es = c.place_in.new.entries.items in
    let p = c.in_ok-place.place in
    let q = name_text c.args.name.now in
    let f = c.index_mut-entry.result.now in
    subst (IsTable ts (slice_set es p f)) (sym c.in_err-number.ensures.kept) (kept_table was.names ts was.entries.items es c.place_in.ensures.marks p q f f (named_spans was.tokens) c.self.invariant c.place_in.ensures.size (ap (λ (x : Entry). x.is_token) c.index_mut-entry.ensures.value))

-- a new token
added : (ws vs : List WordText) (w : WordText) → vs ≡ ws ++ w ∷ [] → is_among ws w.text ≡ false → vs ≡ with_distinct ws w
added ws vs w more new = more ∙ distinct_new ws w new

pub invariant_of-self-2 : goal.invariant_of-self-2
invariant_of-self-2 c =
    let was = c.self.inside in
    let ts = c.place_in.new.names in
    let es = c.place_in.new.entries.items in
    let p = c.in_ok-place.place in
    let q = name_text c.args.name.now in
    let f = c.index_mut-entry.result.now in
    let within : p < length es = within_entries ts es p q c.place_in.ensures.size c.in_ok-place.ensures.there in
    let e : Entry = record { is_declared = f.is_declared; is_rule = f.is_rule; is_token = true; rule = f.rule; token = c.in_ok-number.number } in
    let w : WordText = record { text = q; span = c.args.span } in
    let new : is_among (named_spans was.tokens) q ≡ false = is_one was.names ts was.entries.items es c.place_in.ensures.marks (named_spans was.tokens) c.self.invariant c.in_ok-place.ensures.unique p q f c.in_ok-place.ensures.there within c.index_mut-entry.ensures.value ∙ c.if-entry.false in
    subst (IsTable ts (slice_set es p e)) (sym (added (named_spans was.tokens) (named_spans c.add_token.new.tokens) w c.in_ok-number.ensures.added new))
    (more_table was.names ts was.entries.items es c.place_in.ensures.marks p q e (named_spans was.tokens) w c.self.invariant c.place_in.ensures.size refl c.in_ok-place.ensures.there refl)

pub returns : goal.returns
returns c =
    let was = c.self.inside in
    let ts = c.place_in.new.names in
    let es = c.place_in.new.entries.items in
    let p = c.in_ok-place.place in
    let q = name_text c.args.name.now in
    let f = c.index_mut-entry.result.now in
    let within : p < length es = within_entries ts es p q c.place_in.ensures.size c.in_ok-place.ensures.there in
    let e : Entry = record { is_declared = f.is_declared; is_rule = f.is_rule; is_token = true; rule = f.rule; token = c.in_ok-number.number } in
    let w : WordText = record { text = q; span = c.args.span } in
    let new : is_among (named_spans was.tokens) q ≡ false = is_one was.names ts was.entries.items es c.place_in.ensures.marks (named_spans was.tokens) c.self.invariant c.in_ok-place.ensures.unique p q f c.in_ok-place.ensures.there within c.index_mut-entry.ensures.value ∙ c.if-entry.false in
    let declared = none_marked was.names ts was.entries.items es c.place_in.ensures.marks p q e (λ (x : Entry). x.is_declared) f refl (ap (λ (x : Entry). x.is_declared) c.index_mut-entry.ensures.value) in
    let rules = none_marked was.names ts was.entries.items es c.place_in.ensures.marks p q e (λ (x : Entry). x.is_rule) f refl (ap (λ (x : Entry). x.is_rule) c.index_mut-entry.ensures.value) in
    let tokens = added (named_spans was.tokens) (named_spans c.add_token.new.tokens) w c.in_ok-number.ensures.added new in
    (λ j. let k : KnownNames = record { declared = declared j; rules = rules j; tokens = tokens j } in k)
    ∙ ap (λ (t : TableParts). with_token (known_of t) w) c.self.view_is

pub invariant_of-self-then-entry : goal.invariant_of-self-then-entry
invariant_of-self-then-entry c =
    let was = c.self.inside in
    let ts = c.place_in.new.names in
    let es = c.place_in.new.entries.items in
    let p = c.in_ok-place.place in
    let q = name_text c.args.name.now in
    let f = c.index_mut-entry.result.now in
    kept_table was.names ts was.entries.items es c.place_in.ensures.marks p q f f (named_spans was.tokens) c.self.invariant c.place_in.ensures.size (ap (λ (x : Entry). x.is_token) c.index_mut-entry.ensures.value)

pub returns-then-entry : goal.returns-then-entry
returns-then-entry c =
    let was = c.self.inside in
    let ts = c.place_in.new.names in
    let es = c.place_in.new.entries.items in
    let p = c.in_ok-place.place in
    let q = name_text c.args.name.now in
    let f = c.index_mut-entry.result.now in
    let within : p < length es = within_entries ts es p q c.place_in.ensures.size c.in_ok-place.ensures.there in
    let w : WordText = record { text = q; span = c.args.span } in
    let known : is_among (named_spans was.tokens) q ≡ true = is_one was.names ts was.entries.items es c.place_in.ensures.marks (named_spans was.tokens) c.self.invariant c.in_ok-place.ensures.unique p q f c.in_ok-place.ensures.there within c.index_mut-entry.ensures.value ∙ c.if-entry.true in
    let declared = none_marked was.names ts was.entries.items es c.place_in.ensures.marks p q f (λ (x : Entry). x.is_declared) f refl (ap (λ (x : Entry). x.is_declared) c.index_mut-entry.ensures.value) in
    let rules = none_marked was.names ts was.entries.items es c.place_in.ensures.marks p q f (λ (x : Entry). x.is_rule) f refl (ap (λ (x : Entry). x.is_rule) c.index_mut-entry.ensures.value) in
    let tokens = distinct_known (named_spans was.tokens) w known in
    (λ j. let k : KnownNames = record { declared = declared j; rules = rules j; tokens = tokens j } in k)
    ∙ ap (λ (t : TableParts). with_token (known_of t) w) c.self.view_is
