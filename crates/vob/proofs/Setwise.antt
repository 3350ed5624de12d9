-- Loops over the blocks of lists.
use Rattle.std.proofs.Common.{◌≡◌, ℕ, suc, zero, ◌+◌, ◌-◌, ◌*◌, ◌<◌, Bool, true, false, not, ◌&&◌, ◌||◌, ◌↔◌, List, [], ◌∷◌, ◌++◌, length, get_or, set, take, drop, replicate, map, refl, sym, ap, ap₂, ◌∙◌, subst, arith}
use Rattle.std.specs.List.{flat_map}
use Rattle.std.proofs.lemmas.List.{length-take, append-nil, take_more, take_more_set, drop-set-lt, get_or-drop, drop-drop, drop_all, map-append, replicate_more}
use Rattle.std.proofs.lemmas.List.Concat.{flat_map-append}
use mathlib.Core.Bool.{beq}
use lib.Pointwise.{pointwise}
use Rattle.vob.specs.Bits.{bitwise}
use Rattle.vob.specs.Packed.{Packs, blocks_for}
use Rattle.vob.specs.Pointwise.{item_of}
use Rattle.vob.specs.declared.sets.Pointwise.{Pointwise}
use Rattle.vob.specs.declared.sets.Pointwise.TheVariants.{And, Or, Xor}
use Rattle.vob.proofs.Spell as spell
use Rattle.vob.proofs.Pack as pack

pub bitwise-append : (op : Bool → Bool → Bool) (a b c d : List Bool) → length a ≡ length c → bitwise op (a ++ b) (c ++ d) ≡ bitwise op a c ++ bitwise op b d
bitwise-append op [] b [] d e = refl
bitwise-append op [] b (y ∷ c) d e = cc
bitwise-append op (x ∷ a) b [] d e = cc
bitwise-append op (x ∷ a) b (y ∷ c) d e = ap (λ (zs : List Bool). op x y ∷ zs) (bitwise-append op a b c d (omega arith))

pub length-bitwise : (op : Bool → Bool → Bool) (a b : List Bool) → length a ≡ length b → length (bitwise op a b) ≡ length a
length-bitwise op [] b e = refl
length-bitwise op (x ∷ a) [] e = cc
length-bitwise op (x ∷ a) (y ∷ b) e = ap suc (length-bitwise op a b (omega arith))

pub take-bitwise : (op : Bool → Bool → Bool) (n : ℕ) (a b : List Bool) → take n (bitwise op a b) ≡ bitwise op (take n a) (take n b)
take-bitwise op zero a b = refl
take-bitwise op (suc n) [] b = refl
take-bitwise op (suc n) (x ∷ a) [] = refl
take-bitwise op (suc n) (x ∷ a) (y ∷ b) = ap (λ (zs : List Bool). op x y ∷ zs) (take-bitwise op n a b)

bitwise_nil : (op : Bool → Bool → Bool) (a : List Bool) → bitwise op a [] ≡ []
bitwise_nil op [] = refl
bitwise_nil op (x ∷ a) = refl

pub drop-bitwise : (op : Bool → Bool → Bool) (n : ℕ) (a b : List Bool) → drop n (bitwise op a b) ≡ bitwise op (drop n a) (drop n b)
drop-bitwise op zero a b = refl
drop-bitwise op (suc n) [] b = refl
drop-bitwise op (suc n) (x ∷ a) [] = sym (bitwise_nil op (drop n a))
drop-bitwise op (suc n) (x ∷ a) (y ∷ b) = drop-bitwise op n a b

pub bitwise-replicate : (op : Bool → Bool → Bool) (n : ℕ) (u v : Bool) → bitwise op (replicate n u) (replicate n v) ≡ replicate n (op u v)
bitwise-replicate op zero u v = refl
bitwise-replicate op (suc n) u v = ap (λ (zs : List Bool). op u v ∷ zs) (bitwise-replicate op n u v)

-- ---- whether two lists are equal

abbrev pub same_bits : List Bool → List Bool → Bool
same_bits xs ys = pointwise beq xs ys

and_assoc : (a b c : Bool) → ((a && b) && c) ≡ (a && (b && c))
and_assoc true b c = refl
and_assoc false b c = refl

pub same_bits-append : (a b c d : List Bool) → length a ≡ length c → same_bits (a ++ b) (c ++ d) ≡ (same_bits a c && same_bits b d)
same_bits-append [] b [] d e = refl
same_bits-append [] b (y ∷ c) d e = cc
same_bits-append (x ∷ a) b [] d e = cc
same_bits-append (x ∷ a) b (y ∷ c) d e = ap (λ z. beq x y && z) (same_bits-append a b c d (omega arith)) ∙ sym (and_assoc (beq x y) (same_bits a c) (same_bits b d))

pub same_bits_self : (a : List Bool) → same_bits a a ≡ true
same_bits_self [] = refl
same_bits_self (true ∷ a) = same_bits_self a
same_bits_self (false ∷ a) = same_bits_self a

pub same_bits-true : (a b : List Bool) → same_bits a b ≡ true → a ≡ b
same_bits-true [] [] e = refl
same_bits-true [] (y ∷ b) e = cc
same_bits-true (x ∷ a) [] e = cc
same_bits-true (true ∷ a) (true ∷ b) e = ap (λ (zs : List Bool). true ∷ zs) (same_bits-true a b e)
same_bits-true (true ∷ a) (false ∷ b) e = cc
same_bits-true (false ∷ a) (true ∷ b) e = cc
same_bits-true (false ∷ a) (false ∷ b) e = ap (λ (zs : List Bool). false ∷ zs) (same_bits-true a b e)

pub test_is : (s : Bool) (u v : List Bool) → ((s ≡ true) ↔ (u ≡ v)) → s ≡ same_bits u v
test_is true u v h = sym (ap (same_bits u) (sym (h.0 refl)) ∙ same_bits_self u)
test_is false u v h = not_true (same_bits u v) (λ e. false_true (h.1 (same_bits-true u v e)))
  where
    false_true : false ≡ true → ⊥
    false_true e = cc

    not_true : (s : Bool) → (s ≡ true → ⊥) → false ≡ s
    not_true true h = absurd (h refl)
    not_true false h = refl

not_and : (a b : Bool) → (not a || not b) ≡ not (a && b)
not_and true b = refl
not_and false b = refl

-- one block more has changed or not
pub flag_more : (a b u v : List Bool) (old s : Bool) → length a ≡ length b → old ≡ not (same_bits a b) → ((s ≡ true) ↔ (u ≡ v)) → (old || not s) ≡ not (same_bits (a ++ u) (b ++ v))
flag_more a b u v old s l is test =
    ap₂ (λ x y. x || not y) is (test_is s u v test) ∙ not_and (same_bits a b) (same_bits u v) ∙ ap not (sym (same_bits-append a u b v l))

pub flag_is : (a b : List Bool) (flag : Bool) → flag ≡ not (same_bits a b) → (flag ≡ true) ↔ (a ≡ b → ⊥)
flag_is a b flag is = (
  λ t e. both (same_bits a b) (sym is ∙ t) (ap (λ x. same_bits x b) e ∙ same_bits_self b),
  λ h. is ∙ other (same_bits a b) (λ t. h (same_bits-true a b t)),
)
  where
    both : (s : Bool) → not s ≡ true → s ≡ true → ⊥
    both true p q = cc
    both false p q = cc

    other : (s : Bool) → (s ≡ true → ⊥) → not s ≡ true
    other true h = absurd (h refl)
    other false h = refl

-- ---- block by block

module _ {T : Type 0} (bits : T → List Bool) (w : ℕ) (each : (x : T) → length (bits x) ≡ w) where
  pub spelled_more : (xs : List T) (k : ℕ) (x : T) → k < length xs → x ≡ get_or xs k x → flat_map bits (take (k + 1) xs) ≡ flat_map bits (take k xs) ++ bits x
  spelled_more xs k x h is =
      ap (flat_map bits) (take_more xs k x h) ∙ flat_map-append bits (take k xs) (get_or xs k x ∷ []) ∙ ap (λ ys. flat_map bits (take k xs) ++ ys) (append-nil (bits (get_or xs k x)) ∙ ap bits (sym is))

  pub spelled_more_set : (xs : List T) (k : ℕ) (y : T) → k < length xs → flat_map bits (take (k + 1) (set xs k y)) ≡ flat_map bits (take k xs) ++ bits y
  spelled_more_set xs k y h =
      ap (flat_map bits) (take_more_set xs k y h) ∙ flat_map-append bits (take k xs) (y ∷ []) ∙ ap (λ ys. flat_map bits (take k xs) ++ ys) (append-nil (bits y))

  -- what is left is as it was
  pub rest_more : (xs init : List T) (k : ℕ) (y : T) → drop k xs ≡ drop k init → drop (k + 1) (set xs k y) ≡ drop (k + 1) init
  rest_more xs init k y e =
      drop-set-lt (k + 1) xs k y (omega arith) ∙ sym (drop-drop 1 k xs) ∙ ap (drop 1) e ∙ drop-drop 1 k init

  pub same_rest : (xs init : List T) (k : ℕ) (x : T) → drop k xs ≡ drop k init → x ≡ get_or xs k x → x ≡ get_or init k x
  same_rest xs init k x e is =
      let z : k + 0 ≡ k = omega arith in
      is ∙ ap (λ i. get_or xs i x) (sym z) ∙ sym (get_or-drop k xs 0 x) ∙ ap (λ ys. get_or ys 0 x) e ∙ get_or-drop k init 0 x ∙ ap (λ i. get_or init i x) z

  pub equal_lengths : (xs ys : List T) (k : ℕ) → length xs ≡ length ys → length (flat_map bits (take k xs)) ≡ length (flat_map bits (take k ys))
  equal_lengths xs ys k e =
      spell.length-spelled bits w each (take k xs) ∙ ap (λ n. n * w) (length-take k xs ∙ (omega arith) ∙ sym (length-take k ys)) ∙ sym (spell.length-spelled bits w each (take k ys))

  pub combined_more : (op : Bool → Bool → Bool) (xs init from : List T) (k : ℕ) (x y z : T) → length init ≡ length from → length xs ≡ length init → k < length from → drop k xs ≡ drop k init → flat_map bits (take k xs) ≡ bitwise op (flat_map bits (take k init)) (flat_map bits (take k from)) → x ≡ get_or xs k x → z ≡ get_or from k z → bits y ≡ bitwise op (bits x) (bits z) → flat_map bits (take (k + 1) (set xs k y)) ≡ bitwise op (flat_map bits (take (k + 1) init)) (flat_map bits (take (k + 1) from))
  combined_more op xs init from k x y z l l' h rest done is there new =
      spelled_more_set xs k y (omega arith)
      ∙ ap₂ (λ a b. a ++ b) done new
      ∙ sym (bitwise-append op (flat_map bits (take k init)) (bits x) (flat_map bits (take k from)) (bits z) (equal_lengths init from k l))
      ∙ ap₂ (bitwise op) (sym (spelled_more init k x (omega arith) (same_rest xs init k x rest is))) (sym (spelled_more from k z h there))

  pub flag_more_at : (xs init : List T) (k : ℕ) (x y : T) (old s : Bool) → length xs ≡ length init → k < length xs → drop k xs ≡ drop k init → old ≡ not (same_bits (flat_map bits (take k xs)) (flat_map bits (take k init))) → x ≡ get_or xs k x → ((s ≡ true) ↔ (bits y ≡ bits x)) → (old || not s) ≡ not (same_bits (flat_map bits (take (k + 1) (set xs k y))) (flat_map bits (take (k + 1) init)))
  flag_more_at xs init k x y old s l h rest is there test =
      flag_more (flat_map bits (take k xs)) (flat_map bits (take k init)) (bits y) (bits x) old s (equal_lengths xs init k l) is test
      ∙ ap₂ (λ a b. not (same_bits a b)) (sym (spelled_more_set xs k y h)) (sym (spelled_more init k x (omega arith) (same_rest xs init k x rest there)))

  pub flipped_more : (xs init : List T) (k : ℕ) (x y : T) → length xs ≡ length init → k < length xs → drop k xs ≡ drop k init → flat_map bits (take k xs) ≡ map not (flat_map bits (take k init)) → x ≡ get_or xs k x → bits y ≡ map not (bits x) → flat_map bits (take (k + 1) (set xs k y)) ≡ map not (flat_map bits (take (k + 1) init))
  flipped_more xs init k x y l h rest done is new =
      spelled_more_set xs k y h
      ∙ ap₂ (λ a b. a ++ b) done new
      ∙ sym (map-append not (flat_map bits (take k init)) (bits x))
      ∙ ap (map not) (sym (spelled_more init k x (omega arith) (same_rest xs init k x rest is)))

  -- equal lists have equal blocks
  pub equal_block : (xs ys : List T) (k : ℕ) (x y : T) → length xs ≡ length ys → k < length xs → flat_map bits xs ≡ flat_map bits ys → x ≡ get_or xs k x → y ≡ get_or ys k y → bits x ≡ bits y
  equal_block xs ys k x y l h e p q =
      ap bits p ∙ pack.block_is bits w each xs k x h ∙ ap (λ all. take w (drop (k * w) all)) e ∙ sym (pack.block_is bits w each ys k y (omega arith)) ∙ ap bits (sym q)

-- the same from the index k on, with one value below it
pub filled_more : {T : Type 0} (xs : List T) (k : ℕ) (y : T) → k < length xs → take k xs ≡ replicate k y → take (k + 1) (set xs k y) ≡ replicate (k + 1) y
filled_more xs k y h e = take_more_set xs k y h ∙ ap (λ ys. ys ++ y ∷ []) e ∙ replicate_more k y

-- ---- whole lists

pub combined_packs : (op : Bool → Bool → Bool) (w n : ℕ) (a b : List Bool) → op false false ≡ false → Packs w n a → Packs w n b → Packs w n (bitwise op a b)
combined_packs op w n a b none p q =
    record {
      count = length-bitwise op a b (p.count ∙ sym q.count) ∙ p.count;
      unused = drop-bitwise op n a b ∙ ap₂ (bitwise op) p.unused q.unused ∙ bitwise-replicate op (blocks_for w n * w - n) false false ∙ ap (replicate (blocks_for w n * w - n)) none;
    }

-- two lists of one length differ where their blocks do
pub same_kept : (w n : ℕ) (a b : List Bool) → Packs w n a → Packs w n b → take n a ≡ take n b → a ≡ b
same_kept w n a b p q e = pack.opened w n a p ∙ ap (λ xs. xs ++ replicate (blocks_for w n * w - n) false) e ∙ sym (pack.opened w n b q)

pub refilled_is : (w n : ℕ) (all new : List Bool) (items : List Bool) → 0 < w → length all ≡ blocks_for w n * w → take n all ≡ items → new ≡ take n all ++ (replicate (blocks_for w n * w - n) false ++ drop (blocks_for w n * w) all) → new ≡ items ++ replicate (blocks_for w n * w - n) false
refilled_is w n all new items h l e is =
    let none : drop (blocks_for w n * w) all ≡ [] = drop_all (blocks_for w n * w) all (omega arith) in
    is ∙ ap₂ (λ xs ys. xs ++ (replicate (blocks_for w n * w - n) false ++ ys)) e none ∙ ap (λ ys. items ++ ys) (append-nil (replicate (blocks_for w n * w - n) false))

pub item_none : (how : Pointwise) → item_of how false false ≡ false
item_none And = refl
item_none Or = refl
item_none Xor = refl

-- equal lists have equal blocks, and the other way round
pub same_flat : (w m n : ℕ) (a b : List Bool) (s : Bool) → m ≡ n → Packs w m a → Packs w n b → ((s ≡ true) ↔ (a ≡ b)) → s ≡ same_bits (take m a) (take n b)
same_flat w m n a b s e p q test =
    let p' : Packs w n a = subst (λ k. Packs w k a) e p in
    test_is s (take m a) (take n b)
    ((λ t. ap₂ (λ k xs. take k xs) e (test.0 t)), (λ h. test.1 (same_kept w n a b p' q (ap (λ k. take k a) (sym e) ∙ h))))
