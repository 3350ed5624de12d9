-- A text that goes out a part at a time.
use Rattle.std.proofs.Common.{◌≡◌, ℕ, zero, suc, ◌≤◌, ◌<◌, ◌+◌, arith, Option, Some, List, [], ◌∷◌, ◌++◌, length, take, drop, get_or, refl, sym, ap, ◌∙◌, append_assoc, append-nil, take-append-drop, subst}
use Rattle.std.specs.Prelude.{slice_get}
use Rattle.std.specs.List.{flat_map}
use Rattle.std.proofs.lemmas.Grind.{flat_map-append}
use Rattle.std.proofs.lemmas.List.{take_more, take_all}
use Rattle.std.proofs.KnownBytes.{Appends-nil, Appends-trans}
use Rattle.std.specs.Io.KnownBytes.{Appends}
use Rattle.byte_streams.specs.Sink.{BeginningWritten, IsOutBut}
use Rattle.lrkit.proofs.Written.{beginning}

-- nothing is out yet
pub all_waits : (a : Option (List ℕ)) (text : List ℕ) → IsOutBut a a text text
all_waits a text = record { part = []; written = Appends-nil a; is_front = refl }

-- more is to be written
pub more_waits : (a b : Option (List ℕ)) (text rest more : List ℕ) → IsOutBut a b text rest → IsOutBut a b (text ++ more) (rest ++ more)
more_waits a b text rest more o = record { part = o.part; written = o.written; is_front = ap (λ l. l ++ more) o.is_front ∙ append_assoc o.part rest more }

-- a part of what waits goes out
pub less_waits : (a b c : Option (List ℕ)) (text rest left : List ℕ) → IsOutBut a b text rest → IsOutBut b c rest left → IsOutBut a c text left
less_waits a b c text rest left o p = record {
  part = o.part ++ p.part;
  written = Appends-trans a b c o.part p.part o.written p.written;
  is_front = o.is_front ∙ ap (λ l. o.part ++ l) p.is_front ∙ sym (append_assoc o.part p.part left);
}

-- all that waits goes out
pub none_waits : (a b c : Option (List ℕ)) (text rest : List ℕ) → IsOutBut a b text rest → Appends b c rest → Appends a c text
none_waits a b c text rest o p =
    let P : List ℕ → Type 0 = λ t. Appends a c t in
    subst P (sym o.is_front) (Appends-trans a b c o.part rest o.written p)

-- a beginning of what waits goes out
pub some_goes : (a b c : Option (List ℕ)) (text rest : List ℕ) → IsOutBut a b text rest → BeginningWritten b c rest → BeginningWritten a c text
some_goes a b c text rest o p =
    let (n, within, appended) = p in
    let front : text ≡ (o.part ++ take n rest) ++ drop n rest = o.is_front ∙ ap (λ l. o.part ++ l) (sym (take-append-drop n rest)) ∙ sym (append_assoc o.part (take n rest) (drop n rest)) in
    beginning a c text (o.part ++ take n rest) (drop n rest) front (Appends-trans a b c o.part (take n rest) o.written appended)

-- what is out is a beginning, also of a text that goes on
pub begins : (a b : Option (List ℕ)) (text rest more : List ℕ) → IsOutBut a b text rest → BeginningWritten a b (text ++ more)
begins a b text rest more o = beginning a b (text ++ more) o.part (rest ++ more) (ap (λ l. l ++ more) o.is_front ∙ append_assoc o.part rest more) o.written

-- a beginning of a text is one of a longer text
pub longer : (a b : Option (List ℕ)) (text more : List ℕ) → BeginningWritten a b text → BeginningWritten a b (text ++ more)
longer a b text more p =
    let (n, within, appended) = p in
    beginning a b (text ++ more) (take n text) (drop n text ++ more) (ap (λ l. l ++ more) (sym (take-append-drop n text)) ∙ append_assoc (take n text) (drop n text) more) appended

-- ---- the texts of a list, one behind the other, behind what waited before

module _ {X : Type 0} (f : X → List ℕ) (xs : List X) (front : List ℕ) (a : Option (List ℕ)) where
  -- those of the first i
  abbrev pub texts_to : ℕ → List ℕ
  texts_to i = front ++ flat_map f (take i xs)

  pub none_yet : IsOutBut a a (texts_to 0) front
  none_yet = let P : List ℕ → Type 0 = λ t. IsOutBut a a t front in subst P (sym (append-nil front)) (all_waits a front)

  one_longer : (i : ℕ) (d : X) → i < length xs → texts_to (i + 1) ≡ texts_to i ++ f (get_or xs i d)
  one_longer i d lt =
      ap (λ l. front ++ flat_map f l) (take_more xs i d lt) ∙
      ap (λ l. front ++ l) (flat_map-append f (take i xs) (get_or xs i d ∷ []) ∙ ap (λ l. flat_map f (take i xs) ++ l) (append-nil (f (get_or xs i d)))) ∙
      sym (append_assoc front (flat_map f (take i xs)) (f (get_or xs i d)))

  whole_from : (i : ℕ) → front ++ flat_map f xs ≡ texts_to i ++ flat_map f (drop i xs)
  whole_from i =
      ap (λ l. front ++ flat_map f l) (sym (take-append-drop i xs)) ∙
      ap (λ l. front ++ l) (flat_map-append f (take i xs) (drop i xs)) ∙
      sym (append_assoc front (flat_map f (take i xs)) (flat_map f (drop i xs)))

  module _ (i : ℕ) (d : X) (b : Option (List ℕ)) (waits : List ℕ) (o : IsOutBut a b (texts_to i) waits) where
    added : (lt : i < length xs) (more : List ℕ) → more ≡ waits ++ f (get_or xs i d) → IsOutBut a b (texts_to (i + 1)) more
    added lt more is =
        let P : List ℕ → Type 0 = λ t. IsOutBut a b t more in
        let Q : List ℕ → Type 0 = λ r. IsOutBut a b (texts_to i ++ f (get_or xs i d)) r in
        subst P (sym (one_longer i d lt)) (subst Q (sym is) (more_waits a b (texts_to i) waits (f (get_or xs i d)) o))

    -- the next text is added to what waits, of which a part goes out
    pub one_more_text : (lt : i < length xs) (c : Option (List ℕ)) (more left : List ℕ) → more ≡ waits ++ f (get_or xs i d) → IsOutBut b c more left → IsOutBut a c (texts_to (i + 1)) left
    one_more_text lt c more left is p = less_waits a b c (texts_to (i + 1)) more left (added lt more is) p

    -- it can't go out
    pub text_begins : (lt : i < length xs) (c : Option (List ℕ)) (more : List ℕ) → more ≡ waits ++ f (get_or xs i d) → BeginningWritten b c more → BeginningWritten a c (front ++ flat_map f xs)
    text_begins lt c more is p =
        let P : List ℕ → Type 0 = λ t. BeginningWritten a c t in
        subst P (sym (whole_from (i + 1))) (longer a c (texts_to (i + 1)) (flat_map f (drop (i + 1) xs)) (some_goes a b c (texts_to (i + 1)) more (added lt more is) p))

    -- it can't be added
    pub texts_begin : BeginningWritten a b (front ++ flat_map f xs)
    texts_begin =
        let P : List ℕ → Type 0 = λ t. BeginningWritten a b t in
        subst P (sym (whole_from i)) (begins a b (texts_to i) waits (flat_map f (drop i xs)) o)

    -- all are added
    pub all_added : length xs ≤ i → IsOutBut a b (front ++ flat_map f xs) waits
    all_added le =
        let P : List ℕ → Type 0 = λ t. IsOutBut a b t waits in
        subst P (ap (λ l. front ++ flat_map f l) (take_all i xs le)) o

-- ---- a list that is taken one by one

module _ {X : Type 0} where
  -- the next one is at i
  pub next_at : (xs : List X) (i : ℕ) (x : X) (others : List X) → drop i xs ≡ x ∷ others → (i < length xs) × (slice_get xs i ≡ Some x) × (get_or xs i x ≡ x) × (drop (i + 1) xs ≡ others)
  next_at [] zero x others e = cc
  next_at [] (suc i) x others e = cc
  next_at (y ∷ ys) zero x others e =
      let same : y ≡ x = cc in
      let rest : ys ≡ others = cc in
      (omega arith, ap (λ z. Some z) same, same, rest)
  next_at (y ∷ ys) (suc i) x others e =
      let h = next_at ys i x others e in
      let lt = h.0 in
      let place : suc i + 1 ≡ suc (i + 1) = omega arith in
      (omega (arith, lt), h.1, h.2, ap (λ j. drop j (y ∷ ys)) place ∙ h.3)

  -- none is left at i
  pub none_at : (xs : List X) (i : ℕ) → drop i xs ≡ [] → length xs ≤ i
  none_at [] i e = omega arith
  none_at (y ∷ ys) zero e = cc
  none_at (y ∷ ys) (suc i) e = let h = none_at ys i e in omega (arith, h)
