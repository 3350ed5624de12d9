-- How lists that share their parts are made and written out.
use Rattle.std.proofs.Common.{◌≡◌, ℕ, zero, suc, ◌+◌, ◌-◌, ◌*◌, ◌<◌, ◌≤◌, ◌⊎◌, inl, inr, List, [], ◌∷◌, ◌++◌, length, map, get_or, replicate, Option, Some, None, refl, sym, ap, ◌∙◌, subst, append_assoc, append-nil, arith}
use Rattle.std.proofs.lemmas.List.{length-append, get_or_append_left, map-append}
use Rattle.std.specs.List.{All}
use Rattle.std.proofs.lemmas.List.Sums.{sum_by_push}
use Rattle.std.proofs.lemmas.List.Elements.{All-push, All-same}
use Rattle.std.proofs.lemmas.Bool.{cases_lt}
use Rattle.cfg_base.specs.declared.symbol.TIdx.{TIdx}
use Rattle.cfg_sentences.specs.TokenLists.{tokens_of}
use Rattle.cfg_sentences.specs.declared.sentences.shared_lists.Part.{Part}
use Rattle.cfg_sentences.specs.declared.sentences.shared_lists.Part.TheVariants.{Empty, Token, Pair}
use Rattle.cfg_sentences.specs.SharedLists.{Shared, spelled_by, spelled_on, IsFit, AreSpelled, list_by, AreNumbers, stacked, turns_of, turns}

-- ---- one more list

old_list : (lists more : List (List ℕ)) (a : ℕ) → 0 < length (get_or lists a []) → get_or (lists ++ more) a [] ≡ get_or lists a []
old_list [] more a h = absurd (omega (arith, h))
old_list (l ∷ lists) more zero h = refl
old_list (l ∷ lists) more (suc a) h = old_list lists more a h

pub last_is : {X : Type 0} (xs : List X) (x d : X) (k : ℕ) → k ≡ length xs → get_or (xs ++ x ∷ []) k d ≡ x
last_is xs x d k e = ap (λ i. get_or (xs ++ x ∷ []) i d) e ∙ at xs
  where
    at : (ys : List _) → get_or (ys ++ x ∷ []) (length ys) d ≡ x
    at [] = refl
    at (y ∷ ys) = at ys

module _ {S : Type 0} (number : S → ℕ) where
  pub spelled_push : (acc : List (List ℕ)) (parts : List (Part S)) (x : Part S) → spelled_on number acc (parts ++ x ∷ []) ≡ spelled_on number acc parts ++ spelled_by number (spelled_on number acc parts) x ∷ []
  spelled_push acc [] x = refl
  spelled_push acc (y ∷ parts) x = spelled_push (acc ++ spelled_by number acc y ∷ []) parts x

  still_spelled : (lists more : List (List ℕ)) (x : Part S) → IsFit lists x → spelled_by number (lists ++ more) x ≡ spelled_by number lists x
  still_spelled lists more Empty h = refl
  still_spelled lists more (Token t) h = refl
  still_spelled lists more (Pair a b) h = ap (λ l. l ++ get_or (lists ++ more) b []) (old_list lists more a h.0) ∙ ap (λ l. get_or lists a [] ++ l) (old_list lists more b h.1)

  still_fit : (lists more : List (List ℕ)) (x : Part S) → IsFit lists x → IsFit (lists ++ more) x
  still_fit lists more Empty h = h
  still_fit lists more (Token t) h = h
  still_fit lists more (Pair a b) h = (subst (λ l. 0 < length l) (sym (old_list lists more a h.0)) h.0, subst (λ l. 0 < length l) (sym (old_list lists more b h.1)) h.1)

  module _ (parts : List (Part S)) (lists : List (List ℕ)) (x : Part S) (good : AreSpelled number parts lists) (h : IsFit lists x) where
    w : List ℕ
    w = spelled_by number lists x

    at_end : (k : ℕ) → k < length (parts ++ x ∷ []) → (k < length parts) ⊎ (k ≡ length parts)
    at_end k lt = let n = length-append parts (x ∷ []) in elim (cases_lt k (length parts)) [ inl l ↦ inl l | inr ge ↦ inr (omega (arith, lt, n, ge)) ]

    pub one_more : AreSpelled number (parts ++ x ∷ []) (lists ++ spelled_by number lists x ∷ [])
    one_more = record {
      count = length-append lists (spelled_by number lists x ∷ []) ∙ ap (λ n. n + 1) good.count ∙ sym (length-append parts (x ∷ []));
      none = get_or_append_left lists (spelled_by number lists x ∷ []) [] 0 good.some ∙ good.none;
      some = (let n = length-append lists (spelled_by number lists x ∷ []) in omega (arith, n));
      each = λ k d lt. elim (at_end k lt) [
        | inl l ↦ (let c = good.count in
            get_or_append_left lists (spelled_by number lists x ∷ []) [] k (omega (arith, l, c)) ∙ good.each k d l ∙ sym (still_spelled lists (spelled_by number lists x ∷ []) (get_or parts k d) (good.fit k d l)) ∙ ap (spelled_by number (lists ++ spelled_by number lists x ∷ [])) (sym (get_or_append_left parts (x ∷ []) d k l)))
        | inr e ↦ last_is lists (spelled_by number lists x) [] k (e ∙ sym good.count) ∙ sym (still_spelled lists (spelled_by number lists x ∷ []) x h) ∙ ap (spelled_by number (lists ++ spelled_by number lists x ∷ [])) (sym (last_is parts x d k e))
      ];
      fit = λ k d lt. elim (at_end k lt) [
        | inl l ↦ subst (IsFit (lists ++ spelled_by number lists x ∷ [])) (sym (get_or_append_left parts (x ∷ []) d k l)) (still_fit lists (spelled_by number lists x ∷ []) (get_or parts k d) (good.fit k d l))
        | inr e ↦ subst (IsFit (lists ++ spelled_by number lists x ∷ [])) (sym (last_is parts x d k e)) (still_fit lists (spelled_by number lists x ∷ []) x h)
      ];
    }

  pub pushed : (old new : List (Part S)) (x : Part S) → new ≡ old ++ x ∷ [] → AreSpelled number old (spelled_on number [] old) → IsFit (spelled_on number [] old) x → AreSpelled number new (spelled_on number [] new)
  pushed old new x e good h = subst (λ (p : List (Part S)). AreSpelled number p (spelled_on number [] p)) (sym e) (subst (AreSpelled number (old ++ x ∷ [])) (sym (spelled_push [] old x)) (one_more old (spelled_on number [] old) x good h))

  -- what a part tells of its list
  module _ (parts : List (Part S)) (table : List (Option (List ℕ))) (v : Shared) (is : record { lists = spelled_on number [] parts; table = table } ≡ v) (good : AreSpelled number parts (spelled_on number [] parts)) (k : ℕ) (lt : k < length v.lists) (r x : Part S) (at : r ≡ get_or parts k r) (e : r ≡ x) where
    below : k < length parts
    below = let c = good.count in let n = ap (λ (s : Shared). length s.lists) is in omega (arith, lt, c, n)

    pub spelled_as : get_or v.lists k [] ≡ spelled_by number v.lists x
    spelled_as = subst (λ (s : Shared). get_or s.lists k [] ≡ spelled_by number s.lists x) is (good.each k r below ∙ ap (spelled_by number (spelled_on number [] parts)) (sym at ∙ e))

    pub fit_as : IsFit v.lists x
    fit_as = subst (λ (s : Shared). IsFit s.lists x) is (subst (IsFit (spelled_on number [] parts)) (sym at ∙ e) (good.fit k r below))

  pub tokens_push : (xs ys : List (TIdx S)) (t : TIdx S) (rest w : List ℕ) → xs ≡ ys ++ t ∷ [] → w ≡ number t.0 ∷ [] → tokens_of number xs ++ rest ≡ tokens_of number ys ++ (w ++ rest)
  tokens_push xs ys t rest w e q = ap (λ l. tokens_of number l ++ rest) e ∙ ap (λ l. l ++ rest) (map-append (λ (u : TIdx S). number u.0) ys (t ∷ [])) ∙ append_assoc (tokens_of number ys) (number t.0 ∷ []) rest ∙ ap (λ l. tokens_of number ys ++ (l ++ rest)) (sym q)

-- ---- the lists of rules

pub table_on : (lists more : List (List ℕ)) (n : ℕ) (table : List (Option ℕ)) → length lists ≡ n → AreNumbers n table → map (list_by (lists ++ more)) table ≡ map (list_by lists) table
table_on lists more n [] c h = refl
table_on lists more n (None ∷ t) c h = ap (λ l. None ∷ l) (table_on lists more n t c (λ A k e. h (suc A) k e))
table_on lists more n (Some k ∷ t) c h =
    let lt = h 0 k refl in
    ap (λ w. Some w ∷ map (list_by (lists ++ more)) t) (get_or_append_left lists more [] k (omega (arith, lt, c))) ∙ ap (λ l. Some (get_or lists k []) ∷ l) (table_on lists more n t c (λ A j e. h (suc A) j e))

pub map_none : (lists : List (List ℕ)) (n : ℕ) → map (list_by lists) (replicate n None) ≡ replicate n None
map_none lists zero = refl
map_none lists (suc n) = ap (λ l. None ∷ l) (map_none lists n)

-- ---- the walk through a list

pub stacked_push : (lists : List (List ℕ)) (rest : List ℕ) (k : ℕ) → stacked lists (rest ++ k ∷ []) ≡ get_or lists k [] ++ stacked lists rest
stacked_push lists [] k = sym (append-nil (get_or lists k []))
stacked_push lists (j ∷ rest) k = ap (λ l. l ++ get_or lists j []) (stacked_push lists rest k) ∙ append_assoc (get_or lists k []) (stacked lists rest) (get_or lists j [])

module _ (lists : List (List ℕ)) (rest one two : List ℕ) (k a b : ℕ) (e : one ≡ rest ++ b ∷ []) (q : two ≡ one ++ a ∷ []) (is : get_or lists k [] ≡ get_or lists a [] ++ get_or lists b []) where
  pub pair_stacked : stacked lists two ≡ get_or lists k [] ++ stacked lists rest
  pair_stacked = ap (stacked lists) q ∙ stacked_push lists one a ∙ ap (λ l. get_or lists a [] ++ stacked lists l) e ∙ ap (λ l. get_or lists a [] ++ l) (stacked_push lists rest b) ∙ sym (append_assoc (get_or lists a []) (get_or lists b []) (stacked lists rest)) ∙ ap (λ l. l ++ stacked lists rest) (sym is)

  pub pair_fewer : 0 < length (get_or lists a []) → 0 < length (get_or lists b []) → turns lists two < turns lists rest + turns_of lists k
  pair_fewer la lb =
      let s = ap (turns lists) q ∙ sum_by_push (turns_of lists) one a in
      let t = ap (turns lists) e ∙ sum_by_push (turns_of lists) rest b in
      let n = ap length is ∙ length-append (get_or lists a []) (get_or lists b []) in
      omega (arith, s, t, n, la, lb)

number_of : (lists : List (List ℕ)) (a : ℕ) → 0 < length (get_or lists a []) → a < length lists
number_of [] a h = absurd (omega (arith, h))
number_of (l ∷ lists) zero h = omega arith
number_of (l ∷ lists) (suc a) h = let lt = number_of lists a h in omega (arith, lt)

pub pair_within : (lists : List (List ℕ)) (rest one two : List ℕ) (a b : ℕ) → one ≡ rest ++ b ∷ [] → two ≡ one ++ a ∷ [] → 0 < length (get_or lists a []) → 0 < length (get_or lists b []) → All (λ k. k < length lists) rest → All (λ k. k < length lists) two
pair_within lists rest one two a b e q la lb h =
    All-same (λ k. k < length lists) two (one ++ a ∷ []) q (All-push (λ k. k < length lists) one a (All-same (λ k. k < length lists) one (rest ++ b ∷ []) e (All-push (λ k. k < length lists) rest b h (number_of lists b lb))) (number_of lists a la))
