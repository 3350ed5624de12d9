-- A text that goes out a part at a time.
use Rattle.std.proofs.Common.{◌≡◌, ℕ, ◌≤◌, ◌<◌, ◌+◌, Option, List, [], ◌∷◌, ◌++◌, length, take, get_or, refl, sym, ap, ◌∙◌, append_assoc, append-nil, subst}
use Rattle.std.specs.List.{flat_map}
use Rattle.std.proofs.lemmas.Grind.{flat_map-append}
use Rattle.std.proofs.lemmas.List.{take_more, take_all}
use Rattle.std.proofs.KnownBytes.{Appends-nil, Appends-trans}
use Rattle.std.specs.Io.KnownBytes.{Appends}
use Rattle.byte_streams.specs.Sink.{IsOutBut}

-- nothing is out yet
pub all_waits : (a : Option (List ℕ)) (text : List ℕ) → IsOutBut a a text text
all_waits a text = record { part = []; written = Appends-nil a; is_front = refl }

-- more is to be written
pub more_waits : (a b : Option (List ℕ)) (text rest more : List ℕ) → IsOutBut a b text rest → IsOutBut a b (text ++ more) (rest ++ more)
more_waits a b text rest more o = record { part = o.part; written = o.written; is_front = ap (λ l. l ++ more) o.is_front ∙ append_assoc o.part rest more }

-- a part of what waits goes out
less_waits : (a b c : Option (List ℕ)) (text rest left : List ℕ) → IsOutBut a b text rest → IsOutBut b c rest left → IsOutBut a c text left
less_waits a b c text rest left o p = record {
  part = o.part ++ p.part;
  written = Appends-trans a b c o.part p.part o.written p.written;
  is_front = o.is_front ∙ ap (λ l. o.part ++ l) p.is_front ∙ sym (append_assoc o.part p.part left);
}

-- the next part is added to what waits, of which a part goes out
pub next_waits : (a b c : Option (List ℕ)) (text waits next more left : List ℕ) → IsOutBut a b text waits → more ≡ waits ++ next → IsOutBut b c more left → IsOutBut a c (text ++ next) left
next_waits a b c text waits next more left o is p =
    let Q : List ℕ → Type 0 = λ r. IsOutBut a b (text ++ next) r in
    less_waits a b c (text ++ next) more left (subst Q (sym is) (more_waits a b text waits next o)) p

-- the last part is added
pub last_waits : (a b : Option (List ℕ)) (text waits next more all : List ℕ) → IsOutBut a b text waits → more ≡ waits ++ next → text ++ next ≡ all → IsOutBut a b all more
last_waits a b text waits next more all o is whole =
    let Q : List ℕ → Type 0 = λ r. IsOutBut a b (text ++ next) r in
    let P : List ℕ → Type 0 = λ t. IsOutBut a b t more in
    subst P whole (subst Q (sym is) (more_waits a b text waits next o))

-- all that waits goes out
pub none_waits : (a b c : Option (List ℕ)) (text rest : List ℕ) → IsOutBut a b text rest → Appends b c rest → Appends a c text
none_waits a b c text rest o p =
    let P : List ℕ → Type 0 = λ t. Appends a c t in
    subst P (sym o.is_front) (Appends-trans a b c o.part rest o.written p)

-- ---- the texts of a list, one behind the other, behind what waited before

module _ {X : Type 0} (f : X → List ℕ) (xs : List X) (front : List ℕ) (a : Option (List ℕ)) where
  one_longer : (i : ℕ) (d : X) → i < length xs → front ++ flat_map f (take (i + 1) xs) ≡ (front ++ flat_map f (take i xs)) ++ f (get_or xs i d)
  one_longer i d lt =
      ap (λ l. front ++ flat_map f l) (take_more xs i d lt) ∙
      ap (λ l. front ++ l) (flat_map-append f (take i xs) (get_or xs i d ∷ []) ∙ ap (λ l. flat_map f (take i xs) ++ l) (append-nil (f (get_or xs i d)))) ∙
      sym (append_assoc front (flat_map f (take i xs)) (f (get_or xs i d)))

  pub none_yet : IsOutBut a a (front ++ flat_map f (take 0 xs)) front
  none_yet = let P : List ℕ → Type 0 = λ t. IsOutBut a a t front in subst P (sym (append-nil front)) (all_waits a front)

  -- the next text is added to what waits, of which a part goes out
  pub one_more_text : (i : ℕ) (d : X) (b : Option (List ℕ)) (waits : List ℕ) → IsOutBut a b (front ++ flat_map f (take i xs)) waits → i < length xs →
      (c : Option (List ℕ)) (more left : List ℕ) → more ≡ waits ++ f (get_or xs i d) → IsOutBut b c more left → IsOutBut a c (front ++ flat_map f (take (i + 1) xs)) left
  one_more_text i d b waits o lt c more left is p =
      let P : List ℕ → Type 0 = λ t. IsOutBut a b t more in
      let Q : List ℕ → Type 0 = λ r. IsOutBut a b ((front ++ flat_map f (take i xs)) ++ f (get_or xs i d)) r in
      let added : IsOutBut a b (front ++ flat_map f (take (i + 1) xs)) more = subst P (sym (one_longer i d lt)) (subst Q (sym is) (more_waits a b (front ++ flat_map f (take i xs)) waits (f (get_or xs i d)) o)) in
      less_waits a b c (front ++ flat_map f (take (i + 1) xs)) more left added p

  -- all are added
  pub all_added : (i : ℕ) (b : Option (List ℕ)) (waits : List ℕ) → IsOutBut a b (front ++ flat_map f (take i xs)) waits → length xs ≤ i → IsOutBut a b (front ++ flat_map f xs) waits
  all_added i b waits o le =
      let P : List ℕ → Type 0 = λ t. IsOutBut a b t waits in
      subst P (ap (λ l. front ++ flat_map f l) (take_all i xs le)) o
