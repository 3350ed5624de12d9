-- Messages of the elements of a list, and texts in which messages are shown.
use Rattle.std.proofs.Common.{◌≡◌, ℕ, Bool, List, [], ◌∷◌, ◌++◌, IfOk, IfSome, OnOk, Option, Result, ap, append_assoc, arith, map, string_bytes, subst, sym, refl, ◌∙◌}
use Rattle.std.proofs.lemmas.List.{append-nil}
use Rattle.std.proofs.lemmas.List.Elements.{All-append, All-cons, All-map, All-nil}
use Rattle.std.proofs.lemmas.Result.{IfOk-weaker, on_ok_weaker}
use Rattle.std.specs.List.{All}
use Rattle.std.specs.declared.cmp.Ordering.{Ordering}
use Rattle.cfg_base.specs.SpanModel.{SpanModel}
use Rattle.cfg_read.specs.Asts.{Ast}
use Rattle.parser_kit.specs.Kit.{KitValue}
use Rattle.parser_kit.specs.declared.kit_error.KitError.{KitError}
use Rattle.refused_tables.specs.declared.listed.Listed.{Listed}
use Rattle.text_messages.specs.Added.{AddsSome, IsPartOf, LiesWithin, MessagesValue, Said, placed_in, said, said_in}
use Rattle.text_messages.specs.declared.source.Message.{Message}
use Rattle.text_messages.specs.declared.source.Severity.{Severity}
use Rattle.text_messages.specs.declared.source.Severity.TheVariants.{Note}
use Rattle.text_messages.proofs.AddedMessages.{adds_more, adds_none, pushed}
use Rattle.text_messages.specs.Places.{BeginsWith, SourceValue, heading_if}
use Rattle.grammar_report.specs.Messages.{AreOfConflict, AreOfConflicts, AreOfEach, AreOfKit, AreOfText, AreOfWarnings, AreUnproductive, AreWithNote, ExplainRefusal, Shows, ShowsSome, heading, kind_text, none, nothing, of_refusal, one_more, others}
use Rattle.grammar_report.specs.Messages.{of_kit as of_kit_in}
use Rattle.grammar_report.specs.Outcomes.{IsKitIn, TellsOutcome}
use Rattle.grammar_report.specs.declared.outcome.Outcome.{Outcome}
use Rattle.grammar_report.specs.declared.outcome.Outcome.TheVariants.{Invalid}
use Rattle.grammar_report.specs.Places.{production_place}

-- those of no element, and of one more
pub of_none : {A : Type 0} (F : A → List Said → Type 0) (a : MessagesValue) → AddsSome (AreOfEach F []) a a
of_none F a = ([], none, adds_none a)

pub of_one_more : {A : Type 0} (F : List ℕ → A → List Said → Type 0) (a b c : MessagesValue) (xs : List A) (x : A) → AddsSome (AreOfEach (F a.text) xs) a b → AddsSome (F b.text x) b c → AddsSome (AreOfEach (F a.text) (xs ++ x ∷ [])) a c
of_one_more F a b c xs x (ms, are, s) (these, is, t) = (ms ++ these, one_more x are (subst (λ (u : List ℕ). F u x these) s.text is), adds_more ms these a b c s t)

-- a message with a note, and one alone
pub with_note : {T E : Type 0} (r : Result T E) (a b d : MessagesValue) (m n : Message) → b ≡ record a { list = a.list ++ placed_in a.text m ∷ [] } → n.severity ≡ Note → OnOk r (d ≡ record b { list = b.list ++ placed_in b.text n ∷ [] }) →
    OnOk r (AddsSome (AreWithNote (said_in a.text m.severity m.span (string_bytes m.words))) a d)
with_note r a b d m n first note second =
    let x = said_in a.text m.severity m.span (string_bytes m.words) in
    let y = said_in b.text Note n.span (string_bytes n.words) in
    let N = λ (s : Said). s.severity ≡ Note in
    on_ok_weaker r (λ e. (x ∷ y ∷ [], (y ∷ [], All-cons N y [] refl (All-nil N), omega arith, refl), adds_more (x ∷ []) (y ∷ []) a b d (pushed a b m m.severity m.span (string_bytes m.words) first refl refl refl) (pushed b d n Note n.span (string_bytes n.words) e note refl refl))) second

pub without_note : {T E : Type 0} (r : Result T E) (a d : MessagesValue) (m : Message) → OnOk r (d ≡ record a { list = a.list ++ placed_in a.text m ∷ [] }) → OnOk r (AddsSome (AreWithNote (said_in a.text m.severity m.span (string_bytes m.words))) a d)
without_note r a d m added =
    let x = said_in a.text m.severity m.span (string_bytes m.words) in
    on_ok_weaker r (λ e. (x ∷ [], ([], All-nil (λ (s : Said). s.severity ≡ Note), omega arith, refl), pushed a d m m.severity m.span (string_bytes m.words) e refl refl refl)) added

-- the message of a conflict
pub of_conflict : {T E : Type 0} (r : Result T E) (ast : Ast) (severity : Severity) (e : Listed) (a b : MessagesValue) (m : Message) → m.severity ≡ severity → m.span ≡ production_place ast e.pidx.0 → BeginsWith (kind_text e.other) (string_bytes m.words) →
    OnOk r (AddsSome (AreWithNote (said_in a.text m.severity m.span (string_bytes m.words))) a b) → OnOk r (AddsSome (AreOfConflict a.text ast severity e) a b)
of_conflict r ast severity e a b m grave at begins added =
    let words = string_bytes m.words in
    let same = ap (λ (s : Severity). said_in a.text s m.span words) grave ∙ ap (λ (o : Option SpanModel). said_in a.text severity o words) at in
    on_ok_weaker r (λ h. (h.0, (said_in a.text m.severity m.span words, (words, begins, same), h.1), h.2)) added

-- a text behind another one
pub shows_more : (v : SourceValue) (a b c : List ℕ) (s t : List Said) → Shows v a s b → Shows v b t c → Shows v a (s ++ t) c
shows_more v a b c s t x nothing = subst (λ (l : List Said). Shows v a l b) (sym (append-nil s)) x
shows_more v a b c s t x (others {these} {text} words y) = others words (shows_more v a b text s these x y)
shows_more v a b c s t x (heading {these} {text} m y) = subst (λ (l : List Said). Shows v a l (text ++ heading_if v m.severity m.span m.words)) (append_assoc s these (m ∷ [])) (heading m (shows_more v a b text s these x y))

-- one more, with the lines below its heading
pub shows_one : (v : SourceValue) (a b c : List ℕ) (s : List Said) (m : Said) → Shows v a s b → BeginsWith (b ++ heading_if v m.severity m.span m.words) c → Shows v a (s ++ m ∷ []) c
shows_one v a b c s m x (rest, e) = subst (λ (t : List ℕ). Shows v a (s ++ m ∷ []) t) (sym e) (others rest (heading m x))

-- messages that were collected
abbrev no_messages : List ℕ → MessagesValue
no_messages text = record { text = text; list = [] }

pub collected : (P : List ℕ → List Said → Type 0) (v : SourceValue) (text : List ℕ) (a b : MessagesValue) (ms : List Message) (old new : List ℕ) →
    a ≡ no_messages text → text ≡ v.text → AddsSome (P a.text) a b → ms ≡ b.list → All (LiesWithin b.text) ms → Shows v old (map said ms) new → ShowsSome (P v.text) v old new
collected P v text a b ms old new is same adds list within shows =
    let Q = λ (m : Said). IfSome m.span (IsPartOf v.text) in
    let (these, p, s) = subst (λ (x : MessagesValue). AddsSome (P x.text) x b) (is ∙ ap no_messages same) adds in
    let e = ap (map said) (list ∙ s.are) ∙ s.say in
    let lie = subst (λ (text : List ℕ). All (LiesWithin text) ms) s.text within in
    (these, p, subst (λ (l : List Said). All Q l) e (All-map Q said ms lie), subst (λ (l : List Said). Shows v old l new) e shows)

pub collected_if : {T E : Type 0} (r : Result T E) (P : List ℕ → List Said → Type 0) (v : SourceValue) (text : List ℕ) (a b : MessagesValue) (ms : List Message) (old new : List ℕ) →
    a ≡ no_messages text → text ≡ v.text → AddsSome (P a.text) a b → ms ≡ b.list → All (LiesWithin b.text) ms → OnOk r (Shows v old (map said ms) new) → OnOk r (ShowsSome (P v.text) v old new)
collected_if r P v text a b ms old new is same adds list within shows = on_ok_weaker r (collected P v text a b ms old new is same adds list within) shows

-- those of a kit, among other lines
module _ (cmp : Listed → Listed → Ordering) (each : Bool) (k : KitValue) (v : SourceValue) where
  pub of_kit : (z a b c d e : List ℕ) (counts rest : List ℕ) → z ≡ [] → ShowsSome (AreOfWarnings v.text k.kept.ast) v z a → b ≡ a ++ counts → ShowsSome (AreUnproductive v.text k.parser.grammar k.kept.ast) v b c → ShowsSome (AreOfConflicts cmp each v.text k) v c d → e ≡ d ++ rest →
      ShowsSome (AreOfKit cmp each v.text k) v [] e
  of_kit z a b c d e counts rest nil (ws, w, in_w, x) is_b (us, u, in_u, y) (cs, f, in_c, s) is_e =
      let P = λ (m : Said). IfSome m.span (IsPartOf v.text) in
      let front = subst (λ (t : List ℕ). Shows v z ws t) (sym is_b) (others counts x) in
      let all = shows_more v z b d ws (us ++ cs) front (shows_more v b c d us cs y s) in
      let from = subst (λ (t : List ℕ). Shows v t (ws ++ (us ++ cs)) d) nil all in
      (ws ++ (us ++ cs), (ws, us, cs, w, u, f, refl), All-append P ws (us ++ cs) in_w (All-append P us cs in_u in_c), subst (λ (t : List ℕ). Shows v [] (ws ++ (us ++ cs)) t) (sym is_e) (others rest from))

  -- what is said of a kit is the report on its text
  pub of_text : {T E : Type 0} (r : Result T E) (o : Outcome) (text_of : T → List ℕ) → IsKitIn v.text k → TellsOutcome k o → IfOk r (λ x. ShowsSome (AreOfKit cmp each v.text k) v [] (text_of x)) → IfOk r (λ x. ShowsSome (AreOfText cmp each v.text o) v [] (text_of x))
  of_text r o text_of is tells shows = IfOk-weaker r (λ x. ShowsSome (AreOfKit cmp each v.text k) v [] (text_of x)) (λ x. ShowsSome (AreOfText cmp each v.text o) v [] (text_of x)) (λ x h. (h.0, of_kit_in k is tells h.1, h.2, h.3)) shows

-- and so is what explains a refusal
module _ (cmp : Listed → Listed → Ordering) (each : Bool) (v : SourceValue) where
  pub of_refused : {T E : Type 0} (r : Result T E) (o : Outcome) (e : KitError ℕ) (text_of : T → List ℕ) → o ≡ Invalid → IfOk r (λ x. ShowsSome (ExplainRefusal v.text e) v [] (text_of x)) → IfOk r (λ x. ShowsSome (AreOfText cmp each v.text o) v [] (text_of x))
  of_refused r o e text_of is shows = IfOk-weaker r (λ x. ShowsSome (ExplainRefusal v.text e) v [] (text_of x)) (λ x. ShowsSome (AreOfText cmp each v.text o) v [] (text_of x)) (λ x h. (h.0, subst (λ (o : Outcome). AreOfText cmp each v.text o h.0) (sym is) (of_refusal e h.1), h.2, h.3)) shows

-- conflicts that were collected
pub conflicts_if : {T E : Type 0} {cmp : Listed → Listed → Ordering} (r : Result T E) (each : Bool) (k : KitValue) (v : SourceValue) (text : List ℕ) (a b : MessagesValue) (ms : List Message) (old new : List ℕ) →
    a ≡ no_messages text → text ≡ v.text → AddsSome (AreOfConflicts cmp each a.text k) a b → ms ≡ b.list → All (LiesWithin b.text) ms → OnOk r (Shows v old (map said ms) new) → OnOk r (ShowsSome (AreOfConflicts cmp each v.text k) v old new)
conflicts_if {cmp} r each k v text a b ms old new is same adds list within shows = collected_if r (λ t. AreOfConflicts cmp each t k) v text a b ms old new is same adds list within shows
