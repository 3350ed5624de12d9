-- Messages behind others, a few at a time.
use Rattle.std.proofs.Common.{◌≡◌, ℕ, List, [], ◌∷◌, ◌++◌, map, OnOk, Option, option_map, Result, append_assoc, string_bytes, sym, ap, ◌∙◌, subst, refl}
use Rattle.std.proofs.lemmas.List.{append-nil, map-append}
use Rattle.std.proofs.lemmas.List.Elements.{All-append, All-cons, All-nil}
use Rattle.std.proofs.lemmas.Result.{on_ok_weaker}
use Rattle.cfg_base.specs.SpanModel.{SpanModel}
use Rattle.text_messages.specs.Added.{AddsOne, AddsSaid, AddsSome, AddsWarnings, MessagesValue, OneForEach, Said, none, one_more, part_within, passes, placed_in, said, said_in}
use Rattle.text_messages.specs.declared.source.Message.{Message}
use Rattle.text_messages.specs.declared.source.Severity.{Severity}
use Rattle.text_messages.specs.declared.source.Severity.TheVariants.{Warning}

-- nothing
pub adds_none : (a : MessagesValue) → AddsSaid [] a a
adds_none a = record { added = []; text = refl; are = sym (append-nil a.list); say = refl }

abbrev say : Severity → Option SpanModel → List ℕ → Said
say severity span words = record { severity = severity; span = span; words = words }

-- a message that says this
pub pushed : (a b : MessagesValue) (m : Message) (severity : Severity) (span : Option SpanModel) (words : List ℕ) →
    b ≡ record a { list = a.list ++ placed_in a.text m ∷ [] } → m.severity ≡ severity → m.span ≡ span → string_bytes m.words ≡ words → AddsSaid (said_in a.text severity span words ∷ []) a b
pushed a b m severity span words e grave at reads = record {
  added = placed_in a.text m ∷ [];
  text = ap (λ (v : MessagesValue). v.text) e;
  are = ap (λ (v : MessagesValue). v.list) e;
  say = ap (λ (x : Said). x ∷ []) (
      ap (λ (s : Severity). say s (option_map (part_within a.text) m.span) (string_bytes m.words)) grave
      ∙ ap (λ (o : Option SpanModel). say severity (option_map (part_within a.text) o) (string_bytes m.words)) at
      ∙ ap (λ (ws : List ℕ). say severity (option_map (part_within a.text) span) ws) reads
      );
}

pub pushed_if : {T E : Type 0} (r : Result T E) (P : Said → Type 0) (a b : MessagesValue) (m : Message) (severity : Severity) (span : Option SpanModel) (words : List ℕ) →
    OnOk r (b ≡ record a { list = a.list ++ placed_in a.text m ∷ [] }) → m.severity ≡ severity → m.span ≡ span → string_bytes m.words ≡ words → P (said_in a.text severity span words) → OnOk r (AddsOne P a b)
pushed_if r P a b m severity span words e grave at reads p = on_ok_weaker r (λ h. (said_in a.text severity span words, p, pushed a b m severity span words h grave at reads)) e

pub adds_more : (s t : List Said) (a b c : MessagesValue) → AddsSaid s a b → AddsSaid t b c → AddsSaid (s ++ t) a c
adds_more s t a b c x y = record {
  added = x.added ++ y.added;
  text = y.text ∙ x.text;
  are = y.are ∙ ap (λ (l : List Message). l ++ y.added) x.are ∙ append_assoc a.list x.added y.added;
  say = map-append said x.added y.added ∙ ap (λ (l : List Said). l ++ map said y.added) x.say ∙ ap (λ (l : List Said). s ++ l) y.say;
}

-- one message for each, and one more
pub nothing_told : {A : Type 0} (P : A → Type 0) (F : List ℕ → A → Said → Type 0) (a : MessagesValue) → AddsSome (OneForEach P (F a.text) []) a a
nothing_told P F a = ([], none, adds_none a)

pub told_more : {A : Type 0} (P : A → Type 0) (F : List ℕ → A → Said → Type 0) (a b c : MessagesValue) (xs : List A) (x : A) →
    AddsSome (OneForEach P (F a.text) xs) a b → P x → AddsOne (F b.text x) b c → AddsSome (OneForEach P (F a.text) (xs ++ x ∷ [])) a c
told_more P F a b c xs x (these, each, s) p (m, f, t) = (these ++ m ∷ [], one_more each p (subst (λ (u : List ℕ). F u x m) s.text f), adds_more these (m ∷ []) a b c s t)

pub passed_over : {A : Type 0} (P : A → Type 0) (F : List ℕ → A → Said → Type 0) (a b : MessagesValue) (xs : List A) (x : A) →
    AddsSome (OneForEach P (F a.text) xs) a b → (P x → ⊥) → AddsSome (OneForEach P (F a.text) (xs ++ x ∷ [])) a b
passed_over P F a b xs x (these, each, s) not = (these, passes each not, s)

-- warnings
pub warns_none : (a : MessagesValue) → AddsWarnings a a
warns_none a = ([], All-nil (λ m. m.severity ≡ Warning), adds_none a)

pub warns_more : (a b c : MessagesValue) → AddsWarnings a b → AddsWarnings b c → AddsWarnings a c
warns_more a b c (s, are, x) (t, are', y) = (s ++ t, All-append (λ m. m.severity ≡ Warning) s t are are', adds_more s t a b c x y)

pub warns_then : {T E : Type 0} (r : Result T E) (a b c : MessagesValue) → AddsWarnings a b → OnOk r (AddsWarnings b c) → OnOk r (AddsWarnings a c)
warns_then r a b c x y = on_ok_weaker r (λ h. warns_more a b c x h) y

pub warns_at : (a v w : MessagesValue) → v ≡ w → AddsWarnings a w → AddsWarnings a v
warns_at a v w e h = subst (λ (x : MessagesValue). AddsWarnings a x) (sym e) h

pub warns_one : (a b : MessagesValue) (P : Said → Type 0) → ((m : Said) → P m → m.severity ≡ Warning) → AddsOne P a b → AddsWarnings a b
warns_one a b P are (m, p, s) = (m ∷ [], All-cons (λ m. m.severity ≡ Warning) m [] (are m p) (All-nil (λ m. m.severity ≡ Warning)), s)
