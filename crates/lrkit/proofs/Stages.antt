-- Whole inputs have one output or one refusal: input by input, in the order in which they are read.
use Rattle.std.proofs.Common.{◌≡◌, ℕ, suc, ◌+◌, Bool, List, [], ◌∷◌, ◌++◌, length, map, Option, Some, None, refl, sym, ap, ◌∙◌, subst, arith}
use Rattle.std.specs.Str.{IsUtf8}
use Rattle.std.specs.Str.Lines.{lines}
use Rattle.byte_streams.specs.Inputs.{most_bytes, HasNoText}
use Rattle.byte_streams.specs.Source.{HasMoreThan}
use Rattle.lr_theory.specs.Repair.{Edit}
use Rattle.table_theory.specs.Cells.{Conflicts as Listed}
use Rattle.lrpar.specs.Checked.{ParserValue}
use Rattle.parser_kit.specs.KitErrors.{IsMemory}
use Rattle.parser_kit.specs.declared.kit_error.KitError.{KitError}
use Rattle.parser_kit.specs.declared.kit_error.KitError.TheVariants as kit
use Rattle.word_lines.specs.Repairs.{IsFirstBadLine, repair_line}
use Rattle.lrkit.specs.Answers.{GivesFault, GivesOutput, IsSameFault, bytes_of}
use Rattle.lrkit.specs.Output.{ReadsRepairs}
use Rattle.lrkit.specs.Run.{GoodBefore, IsGoodKitIn, IsInput, ReadsRepairsIn}
use Rattle.lrkit.specs.RunKits.{AreExpected, HasOtherCounts, IsRunKit, IsRunKitRefusal}
use Rattle.lrkit.specs.declared.fault.Input.{Input}
use Rattle.lrkit.specs.declared.fault.Input.TheVariants as inputs
use Rattle.lrkit.specs.declared.fault.RunFault.{RunFault}
use Rattle.lrkit.specs.declared.fault.RunFault.TheVariants.{Kit, Conflicts, NotARepair, NotUtf8, Read, TooLong, Write}
use Rattle.lrkit.proofs.KitRefusals.{Below, IsSameError, kit_or_refusal, one_refusal}

-- ---- bytes

not_long : (bs text : List ℕ) → IsInput (Some bs) text → HasMoreThan most_bytes (Some bs) → ⊥
not_long bs text is long = let short = is.short in let same : length bs ≡ length text = ap length is.whole in omega (arith, short, long, same)

not_untext : (bs text : List ℕ) → IsInput (Some bs) text → HasNoText (Some bs) → ⊥
not_untext bs text is no_text = no_text.1 (subst IsUtf8 (sym is.whole) is.utf8)

long_or_short : (bs : List ℕ) → HasMoreThan most_bytes (Some bs) → HasNoText (Some bs) → ⊥
long_or_short bs long no_text = let short = no_text.0 in omega (arith, short, long)

-- the input is at fault, by its bytes
data IsBad (i : Input) (bs : List ℕ) (o : Option RunFault) : Type 0 where
  no_text : HasNoText (Some bs) → o ≡ Some (NotUtf8 i) → IsBad i bs o
  too_long : HasMoreThan most_bytes (Some bs) → o ≡ Some (TooLong i) → IsBad i bs o

bad_or_good : (i : Input) (bs text : List ℕ) (o : Option RunFault) → IsBad i bs o → IsInput (Some bs) text → ⊥
bad_or_good i bs text o (IsBad.no_text h e) is = not_untext bs text is h
bad_or_good i bs text o (IsBad.too_long h e) is = not_long bs text is h

-- ---- lists of lines

-- where a line is none, the lines aren't all some
not_all_some : {A B : Type 0} (f : A → Option B) (xs : List A) (b : A) (us : List A) (rs : List B) → f b ≡ None → map f (xs ++ b ∷ us) ≡ map Some rs → ⊥
not_all_some f [] b us [] none e = cc
not_all_some f [] b us (r ∷ rs) none e = cc
not_all_some f (x ∷ xs) b us [] none e = cc
not_all_some {A} {B} f (x ∷ xs) b us (r ∷ rs) none e =
    let rest : map f (xs ++ b ∷ us) ≡ map Some rs = cc in
    not_all_some f xs b us rs none rest

-- the first that is none stands at one place
first_none : {A B : Type 0} (f : A → Option B) (xs ys : List A) (b d : A) (us vs : List A) (ps qs : List B) → f b ≡ None → f d ≡ None → map f xs ≡ map Some ps → map f ys ≡ map Some qs → xs ++ b ∷ us ≡ ys ++ d ∷ vs → length xs ≡ length ys
first_none f [] [] b d us vs ps qs x y s t e = refl
first_none f [] (z ∷ ys) b d us vs ps [] x y s t e = cc
first_none f [] (z ∷ ys) b d us vs ps (q ∷ qs) x y s t e =
    let same : b ≡ z = cc in
    let some : f z ≡ Some q = cc in
    absurd (let none : f z ≡ None = ap f (sym same) ∙ x in cc)
first_none f (z ∷ xs) [] b d us vs [] qs x y s t e = cc
first_none f (z ∷ xs) [] b d us vs (p ∷ ps) qs x y s t e =
    let same : z ≡ d = cc in
    let some : f z ≡ Some p = cc in
    absurd (let none : f z ≡ None = ap f same ∙ y in cc)
first_none f (z ∷ xs) (w ∷ ys) b d us vs [] qs x y s t e = cc
first_none f (z ∷ xs) (w ∷ ys) b d us vs (p ∷ ps) [] x y s t e = cc
first_none {A} {B} f (z ∷ xs) (w ∷ ys) b d us vs (p ∷ ps) (q ∷ qs) x y s t e =
    let front : map f xs ≡ map Some ps = cc in
    let other : map f ys ≡ map Some qs = cc in
    let rest : xs ++ b ∷ us ≡ ys ++ d ∷ vs = cc in
    ap (λ (n : ℕ). suc n) (first_none f xs ys b d us vs ps qs x y front other rest)

-- ---- outcomes

-- two outcomes are one: no fault, or faults that are told alike
abbrev IsSame : Option RunFault → Option RunFault → Type 0
IsSame None None = Unit {0}
IsSame None (Some f) = ⊥
IsSame (Some e) None = ⊥
IsSame (Some e) (Some f) = IsSameFault e f

same_itself : (o : Option RunFault) → IsSame o o
same_itself None = tt
same_itself (Some (Kit (kit.Grammar es))) = refl
same_itself (Some (Kit (kit.TooMany n))) = refl
same_itself (Some (Kit (kit.TooManyStates n))) = refl
same_itself (Some (Kit (kit.AcceptReduce p))) = refl
same_itself (Some (Kit kit.TooLarge)) = refl
same_itself (Some (Kit (kit.TooManyReductions s r t n))) = refl
same_itself (Some (Kit (kit.Memory e))) = refl
same_itself (Some (Conflicts a b c d)) = refl
same_itself (Some (NotARepair n)) = refl
same_itself (Some (NotUtf8 i)) = refl
same_itself (Some (Read i)) = refl
same_itself (Some (TooLong i)) = refl
same_itself (Some Write) = refl

equal_same : (o p : Option RunFault) → o ≡ p → IsSame o p
equal_same o p e = subst (λ (x : Option RunFault). IsSame o x) e (same_itself o)

both_same : (o p x : Option RunFault) → o ≡ x → p ≡ x → IsSame o p
both_same o p x e f = equal_same o p (e ∙ sym f)

kits_same : (x y : KitError ℕ) → IsSameError x y → IsSame (Some (Kit x)) (Some (Kit y))
kits_same (kit.Grammar es) (kit.Grammar fs) h = h
kits_same (kit.Grammar es) (kit.TooMany n) h = cc
kits_same (kit.Grammar es) (kit.TooManyStates n) h = cc
kits_same (kit.Grammar es) (kit.AcceptReduce p) h = cc
kits_same (kit.Grammar es) kit.TooLarge h = cc
kits_same (kit.Grammar es) (kit.TooManyReductions s r t n) h = cc
kits_same (kit.Grammar es) (kit.Memory e) h = cc
kits_same (kit.TooMany n) y h = ap Kit h
kits_same (kit.TooManyStates n) y h = ap Kit h
kits_same (kit.AcceptReduce p) y h = ap Kit h
kits_same kit.TooLarge y h = ap Kit h
kits_same (kit.TooManyReductions s r t n) y h = ap Kit h
kits_same (kit.Memory e) y h = ap Kit h

bad_same : (i : Input) (bs : List ℕ) (o p : Option RunFault) → IsBad i bs o → IsBad i bs p → IsSame o p
bad_same i bs o p (IsBad.no_text h e) (IsBad.no_text k f) = both_same o p _ e f
bad_same i bs o p (IsBad.no_text h e) (IsBad.too_long k f) = absurd (long_or_short bs k h)
bad_same i bs o p (IsBad.too_long h e) (IsBad.no_text k f) = absurd (long_or_short bs h k)
bad_same i bs o p (IsBad.too_long h e) (IsBad.too_long k f) = both_same o p _ e f

counts_same : (k : ParserValue) (a b c d a' b' c' d' : ℕ) → HasOtherCounts k (Conflicts a b c d) → HasOtherCounts k (Conflicts a' b' c' d') → Conflicts a b c d ≡ Conflicts a' b' c' d'
counts_same k a b c d a' b' c' d' x y =
    let (l, listed, sr, rr) = x.3 in
    let (l', listed', sr', rr') = y.3 in
    let same : l ≡ l' = cc in
    let one : a ≡ a' = sr ∙ ap (λ (z : Listed). length z.shift_reduce) same ∙ sym sr' in
    let two : b ≡ b' = rr ∙ ap (λ (z : Listed). length z.reduce_reduce) same ∙ sym rr' in
    let three : c ≡ c' = x.1 ∙ sym y.1 in
    let four : d ≡ d' = x.2 ∙ sym y.2 in
    ap (λ (n : ℕ). Conflicts n b c d) one ∙ ap (λ (n : ℕ). Conflicts a' n c d) two ∙ ap (λ (n : ℕ). Conflicts a' b' n d) three ∙ ap (λ (n : ℕ). Conflicts a' b' c' n) four

-- ---- stages

-- what the lines come to, where grammar and repairs are good
data AtLines (l : List ℕ) (o : Option RunFault) : Type 0 where
  bad : IsBad inputs.Lines l o → AtLines l o
  good : IsInput (Some l) l → o ≡ None → AtLines l o

-- what the repairs come to, where the grammar is good
data AtRepairs (k : ParserValue) (r l : List ℕ) (o : Option RunFault) : Type 0 where
  bad : IsBad inputs.Repairs r o → AtRepairs k r l o
  none : (n : ℕ) → IsInput (Some r) r → IsFirstBadLine k.grammar (lines r) n → o ≡ Some (NotARepair n) → AtRepairs k r l o
  good : (rs : List (List Edit)) → IsInput (Some r) r → ReadsRepairs k r rs → AtLines l o → AtRepairs k r l o

-- what the inputs come to
data AtGrammar (g r l : List ℕ) (o : Option RunFault) : Type 0 where
  bad : IsBad inputs.Grammar g o → AtGrammar g r l o
  none : (x : KitError ℕ) → IsInput (Some g) g → (IsMemory x → ⊥) → IsRunKitRefusal g x → o ≡ Some (Kit x) → AtGrammar g r l o
  counted : (k : ParserValue) (a b c d : ℕ) → IsInput (Some g) g → IsRunKit g k → HasOtherCounts k (Conflicts a b c d) → o ≡ Some (Conflicts a b c d) → AtGrammar g r l o
  good : (k : ParserValue) → IsInput (Some g) g → IsRunKit g k → AreExpected k → AtRepairs k r l o → AtGrammar g r l o

lines_same : (l : List ℕ) (o p : Option RunFault) → AtLines l o → AtLines l p → IsSame o p
lines_same l o p (AtLines.bad x) (AtLines.bad y) = bad_same inputs.Lines l o p x y
lines_same l o p (AtLines.bad x) (AtLines.good is f) = absurd (bad_or_good inputs.Lines l l o x is)
lines_same l o p (AtLines.good is e) (AtLines.bad y) = absurd (bad_or_good inputs.Lines l l p y is)
lines_same l o p (AtLines.good is e) (AtLines.good also f) = both_same o p None e f

module _ (k : ParserValue) (r l : List ℕ) where
  bad_line : (n : ℕ) (rs : List (List Edit)) → IsFirstBadLine k.grammar (lines r) n → ReadsRepairs k r rs → ⊥
  bad_line n rs x read = not_all_some (repair_line k.grammar) x.before x.bad x.after rs x.is_bad (ap (map (repair_line k.grammar)) (sym x.are_lines) ∙ read)

  one_line : (n m : ℕ) → IsFirstBadLine k.grammar (lines r) n → IsFirstBadLine k.grammar (lines r) m → n ≡ m
  one_line n m x y =
      let same = first_none (repair_line k.grammar) x.before y.before x.bad y.bad x.after y.after x.repairs y.repairs x.is_bad y.is_bad x.are_repairs y.are_repairs (sym x.are_lines ∙ y.are_lines) in
      x.number_is ∙ ap (λ (i : ℕ). i + 1) same ∙ sym y.number_is

  repairs_same : (o p : Option RunFault) → AtRepairs k r l o → AtRepairs k r l p → IsSame o p
  repairs_same o p (AtRepairs.bad x) (AtRepairs.bad y) = bad_same inputs.Repairs r o p x y
  repairs_same o p (AtRepairs.bad x) (AtRepairs.none n is y f) = absurd (bad_or_good inputs.Repairs r r o x is)
  repairs_same o p (AtRepairs.bad x) (AtRepairs.good rs is y w) = absurd (bad_or_good inputs.Repairs r r o x is)
  repairs_same o p (AtRepairs.none n is x e) (AtRepairs.bad y) = absurd (bad_or_good inputs.Repairs r r p y is)
  repairs_same o p (AtRepairs.none n is x e) (AtRepairs.none m also y f) = equal_same o p (e ∙ ap (λ (i : ℕ). Some (NotARepair i)) (one_line n m x y) ∙ sym f)
  repairs_same o p (AtRepairs.none n is x e) (AtRepairs.good rs also y w) = absurd (bad_line n rs x y)
  repairs_same o p (AtRepairs.good rs is x v) (AtRepairs.bad y) = absurd (bad_or_good inputs.Repairs r r p y is)
  repairs_same o p (AtRepairs.good rs is x v) (AtRepairs.none m also y f) = absurd (bad_line m rs y x)
  repairs_same o p (AtRepairs.good rs is x v) (AtRepairs.good ss also y w) = lines_same l o p v w

module _ (laws : Below) (kits : (grammar : List ℕ) (k l : ParserValue) → IsRunKit grammar k → IsRunKit grammar l → k ≡ l) (g r l : List ℕ) where
  expected_or_not : (k m : ParserValue) (a b c d : ℕ) → IsRunKit g k → IsRunKit g m → HasOtherCounts k (Conflicts a b c d) → AreExpected m → ⊥
  expected_or_not k m a b c d is also other fits = other.0 (subst AreExpected (sym (kits g k m is also)) fits)

  grammars_same : (o p : Option RunFault) → AtGrammar g r l o → AtGrammar g r l p → IsSame o p
  grammars_same o p (AtGrammar.bad x) (AtGrammar.bad y) = bad_same inputs.Grammar g o p x y
  grammars_same o p (AtGrammar.bad x) (AtGrammar.none y is ny h f) = absurd (bad_or_good inputs.Grammar g g o x is)
  grammars_same o p (AtGrammar.bad x) (AtGrammar.counted m a b c d is also h f) = absurd (bad_or_good inputs.Grammar g g o x is)
  grammars_same o p (AtGrammar.bad x) (AtGrammar.good m is also fits w) = absurd (bad_or_good inputs.Grammar g g o x is)
  grammars_same o p (AtGrammar.none x is nx h e) (AtGrammar.bad y) = absurd (bad_or_good inputs.Grammar g g p y is)
  grammars_same o p (AtGrammar.none x is nx h e) (AtGrammar.none y also ny k f) =
      let same = kits_same x y (one_refusal laws g x y nx ny h k) in
      subst (λ (q : Option RunFault). IsSame q p) (sym e) (subst (λ (q : Option RunFault). IsSame (Some (Kit x)) q) (sym f) same)
  grammars_same o p (AtGrammar.none x is nx h e) (AtGrammar.counted m a b c d also run k f) = absurd (kit_or_refusal laws g m run x nx h)
  grammars_same o p (AtGrammar.none x is nx h e) (AtGrammar.good m also run fits w) = absurd (kit_or_refusal laws g m run x nx h)
  grammars_same o p (AtGrammar.counted k a b c d is run h e) (AtGrammar.bad y) = absurd (bad_or_good inputs.Grammar g g p y is)
  grammars_same o p (AtGrammar.counted k a b c d is run h e) (AtGrammar.none y also ny m f) = absurd (kit_or_refusal laws g k run y ny m)
  grammars_same o p (AtGrammar.counted k a b c d is run h e) (AtGrammar.counted m a' b' c' d' also too i f) =
      let P : ParserValue → Type 0 = λ x. HasOtherCounts x (Conflicts a b c d) in
      equal_same o p (e ∙ ap Some (counts_same m a b c d a' b' c' d' (subst P (kits g k m run too) h) i) ∙ sym f)
  grammars_same o p (AtGrammar.counted k a b c d is run h e) (AtGrammar.good m also too fits w) = absurd (expected_or_not k m a b c d run too h fits)
  grammars_same o p (AtGrammar.good k is run fits v) (AtGrammar.bad y) = absurd (bad_or_good inputs.Grammar g g p y is)
  grammars_same o p (AtGrammar.good k is run fits v) (AtGrammar.none y also ny m f) = absurd (kit_or_refusal laws g k run y ny m)
  grammars_same o p (AtGrammar.good k is run fits v) (AtGrammar.counted m a b c d also too h f) = absurd (expected_or_not m k a b c d too run h fits)
  grammars_same o p (AtGrammar.good k is run fits v) (AtGrammar.good m also too fine w) =
      let P : ParserValue → Type 0 = λ x. AtRepairs x r l o in
      repairs_same m r l o p (subst P (kits g k m run too) v) w

-- ---- what inputs give comes so

-- an input's text is its bytes
itself : (bs text : List ℕ) → IsInput (Some bs) text → IsInput (Some bs) bs
itself bs text is = subst (λ (t : List ℕ). IsInput (Some bs) t) (sym is.whole) is

module _ (g l r : List ℕ) where
  with_kit : (o : Option RunFault) (k : ParserValue) (is : IsGoodKitIn (Some g) k) → AtRepairs k r l o → AtGrammar g r l o
  with_kit o k is v = AtGrammar.good k (itself g is.text is.input) (subst (λ (t : List ℕ). IsRunKit t k) (sym is.input.whole) is.is_kit) is.expected v

  with_repairs : (o : Option RunFault) (k : ParserValue) (rs : List (List Edit)) (is : IsGoodKitIn (Some g) k) (read : ReadsRepairsIn k (Some r) rs) → AtLines l o → AtGrammar g r l o
  with_repairs o k rs is read v = with_kit o k is (AtRepairs.good rs (itself r read.text read.input) (subst (λ (t : List ℕ). ReadsRepairs k t rs) (sym read.input.whole) read.are_repairs) v)

  at_bad : (i : Input) (o : Option RunFault) → IsBad i (bytes_of g l r i) o → GoodBefore (Some g) (Some r) i → AtGrammar g r l o
  at_bad inputs.Grammar o x before = AtGrammar.bad x
  at_bad inputs.Repairs o x (k, is) = with_kit o k is (AtRepairs.bad x)
  at_bad inputs.Lines o x (k, rs, is, read) = with_repairs o k rs is read (AtLines.bad x)

  of_output : (text : List ℕ) (faulty : Bool) → GivesOutput g l r text faulty → AtGrammar g r l None
  of_output text faulty h =
      let out = h.is_output in
      AtGrammar.good out.kit h.grammar_is out.ready.is_kit out.ready.expected (AtRepairs.good out.repairs h.repairs_are out.ready.are_repairs (AtLines.good h.lines_are refl))

  of_kit : (x : KitError ℕ) → (IsMemory x → ⊥) → (text : List ℕ) → IsInput (Some g) text → IsRunKitRefusal text x → AtGrammar g r l (Some (Kit x))
  of_kit x nx text is h = AtGrammar.none x (itself g text is) nx (subst (λ (t : List ℕ). IsRunKitRefusal t x) (sym is.whole) h) refl

  of_fault : (e : RunFault) → GivesFault g l r e → AtGrammar g r l (Some e)
  of_fault (Kit (kit.Grammar es)) h = of_kit (kit.Grammar es) (λ m. m) h.text h.input h.refused
  of_fault (Kit (kit.TooMany n)) h = of_kit (kit.TooMany n) (λ m. m) h.text h.input h.refused
  of_fault (Kit (kit.TooManyStates n)) h = of_kit (kit.TooManyStates n) (λ m. m) h.text h.input h.refused
  of_fault (Kit (kit.AcceptReduce p)) h = of_kit (kit.AcceptReduce p) (λ m. m) h.text h.input h.refused
  of_fault (Kit kit.TooLarge) h = of_kit kit.TooLarge (λ m. m) h.text h.input h.refused
  of_fault (Kit (kit.TooManyReductions s x t n)) h = of_kit (kit.TooManyReductions s x t n) (λ m. m) h.text h.input h.refused
  of_fault (Kit (kit.Memory e)) h = absurd h
  of_fault (Conflicts a b c d) h = AtGrammar.counted h.k a b c d (itself g h.text h.input) (subst (λ (t : List ℕ). IsRunKit t h.k) (sym h.input.whole) h.is_kit) h.other refl
  of_fault (NotARepair n) h = with_kit (Some (NotARepair n)) h.k h.is_kit (AtRepairs.none n (itself r h.text h.input) (subst (λ (t : List ℕ). IsFirstBadLine h.k.grammar (lines t) n) (sym h.input.whole) h.bad) refl)
  of_fault (NotUtf8 i) h = at_bad i (Some (NotUtf8 i)) (IsBad.no_text h.0 refl) h.1
  of_fault (Read i) h = absurd h
  of_fault (TooLong i) h = at_bad i (Some (TooLong i)) (IsBad.too_long h.0 refl) h.1
  of_fault Write h = absurd h

-- ---- one output or one refusal

module _ (laws : Below) (kits : (grammar : List ℕ) (k l : ParserValue) → IsRunKit grammar k → IsRunKit grammar l → k ≡ l) where
  pub output_or_fault : (g l r text : List ℕ) (faulty : Bool) (e : RunFault) → GivesOutput g l r text faulty → GivesFault g l r e → ⊥
  output_or_fault g l r text faulty e x y = grammars_same laws kits g r l None (Some e) (of_output g l r text faulty x) (of_fault g l r e y)

  pub one_fault : (g l r : List ℕ) (e f : RunFault) → GivesFault g l r e → GivesFault g l r f → IsSameFault e f
  one_fault g l r e f x y = grammars_same laws kits g r l (Some e) (Some f) (of_fault g l r e x) (of_fault g l r f y)
