-- Readings that go on.
use Rattle.std.proofs.Common.{◌≡◌, ℕ, ◌+◌, ◌<◌, Bool, true, false, List, [], ◌∷◌, ◌++◌, length, take, drop, get_or, ap, sym, refl, ◌∙◌, subst, append_assoc, append-nil, take-append-drop}
use Rattle.std.proofs.lemmas.List.{drop_more, take_more}
use Rattle.cfg_base.specs.declared.symbol.TIdx.{TIdx}
use Rattle.lrpar.specs.Checked.{ParserValue}
use Rattle.lrpar.specs.NextTokens.{HasError}
use Rattle.lrpar.specs.Prefixes.{PrefixValue, grammar_in, machine_in, own}
use Rattle.lrpar.specs.declared.parse_error.ParseError.{ParseError}
use Rattle.parse_trees.specs.declared.parse_repair.ParseRepair.{ParseRepair}
use Rattle.parse_trees.specs.declared.parse_repair.ParseRepair.TheVariants as steps
use Rattle.lrkit_c.specs.Marks.{error_marks}
use Rattle.lrkit_c.specs.Nodes.{TextLexeme}
use Rattle.lrkit_c.specs.Reading.{AreNextOf, MarksErrors, MarksError, IsStuck, Reading, ReadsToken, ReadsUpTo, Stops, TakesStep, TakesSteps, first_steps, tokens_in}
use Rattle.lrkit_c.specs.declared.marks.LrkitMark.{LrkitMark}

abbrev Step : Type 0
Step = ParseRepair TextLexeme ℕ

abbrev Error : Type 0
Error = ParseError TextLexeme ℕ

-- reading stops before a lexeme that can't come
pub stops_before : (d : ParserValue) (front : List ℕ) (xs left : List TextLexeme) (i : ℕ) (x : TextLexeme) (now : List ℕ) → i < length xs → x ≡ get_or xs i x → now ≡ front ++ tokens_in (take i xs) → IsStuck d now x.tok_id → left ≡ drop i xs →
    ReadsUpTo d (record { front = front; left = xs }) (record { front = now; left = left })
stops_before d front xs left i x now lt is before stuck rest =
    let F : List TextLexeme → Type 0 = λ l. Stops d now l in
    let P : TextLexeme → Type 0 = λ y. IsStuck d now y.tok_id in
    let here : Stops d now (get_or xs i x ∷ drop (i + 1) xs) = subst P is stuck in
    record {
      read = take i xs;
      all = sym (take-append-drop i xs) ∙ ap (λ l. take i xs ++ l) (sym rest);
      shifted = before;
      stops = subst F (sym rest) (subst F (sym (drop_more xs i x lt)) here);
    }

-- the same of a prefix that stays
pub stops_there : (d : ParserValue) (front : List ℕ) (xs left : List TextLexeme) (i : ℕ) (x : TextLexeme) (p p' : PrefixValue) → i < length xs → x ≡ get_or xs i x → (p.parser ≡ d) × (p.tokens ≡ front ++ tokens_in (take i xs)) → p' ≡ p →
    HasError (grammar_in p.parser) (machine_in p.parser) own (p.tokens ++ (get_or xs i x).tok_id ∷ []) → left ≡ drop i xs → ReadsUpTo d (record { front = front; left = xs }) (record { front = p'.tokens; left = left })
stops_there d front xs left i x p p' lt is (same, before) stays error rest =
    let P : ParserValue → Type 0 = λ k. IsStuck k p.tokens x.tok_id in
    let Q : PrefixValue → Type 0 = λ q. ReadsUpTo d (record { front = front; left = xs }) (record { front = q.tokens; left = left }) in
    let R : TextLexeme → Type 0 = λ y. IsStuck p.parser p.tokens y.tok_id in
    let here : IsStuck p.parser p.tokens x.tok_id = subst R (sym is) error in
    subst Q (sym stays) (stops_before d front xs left i x p.tokens lt is before (subst P same here) rest)

-- a token is pushed, or can't come
pub reads_token : (p p' : PrefixValue) (t : ℕ) (told : Bool) → (told ≡ true → p' ≡ record { parser = p.parser; tokens = p.tokens ++ t ∷ [] }) → (told ≡ false → p' ≡ p) →
    (told ≡ false → HasError (grammar_in p.parser) (machine_in p.parser) own (p.tokens ++ t ∷ [])) → ReadsToken p.parser t p.tokens p'.tokens
reads_token p p' t true pushed stays error = ReadsToken.shifted (ap (λ (q : PrefixValue). q.tokens) (pushed refl))
reads_token p p' t false pushed stays error = ReadsToken.stuck (error refl) (ap (λ (q : PrefixValue). q.tokens) (stays refl))

pub takes_insert : (d : ParserValue) (s : Step) (t : TIdx ℕ) (r r' : Reading) → s ≡ steps.Insert t → ReadsToken d t.0 r.front r'.front → r'.left ≡ r.left → TakesStep d s r r'
takes_insert d s t r r' is reads rest =
    let P : Step → Type 0 = λ k. TakesStep d k r r' in
    subst P (sym is) (reads, rest)

pub takes_shift : (d : ParserValue) (s : Step) (x : TextLexeme) (r r' : Reading) → s ≡ steps.Shift x → ReadsToken d x.tok_id r.front r'.front → r'.left ≡ drop 1 r.left → TakesStep d s r r'
takes_shift d s x r r' is reads rest =
    let P : Step → Type 0 = λ k. TakesStep d k r r' in
    subst P (sym is) (reads, rest)

-- one more step, behind the others
takes_more : (d : ParserValue) (ss : List Step) (s : Step) (r a b : Reading) → TakesSteps d ss r a → TakesStep d s a b → TakesSteps d (ss ++ s ∷ []) r b
takes_more d [] s r a b is t = let P : Reading → Type 0 = λ k. TakesStep d s k b in (b, subst P is t, refl)
takes_more d (x ∷ ss) s r a b (between, first, rest) t = (between, first, takes_more d ss s between a b rest t)

pub takes_next : (d : ParserValue) (ss : List Step) (i : ℕ) (s : Step) (r a b : Reading) → i < length ss → s ≡ get_or ss i s → TakesSteps d (take i ss) r a → TakesStep d s a b → TakesSteps d (take (i + 1) ss) r b
takes_next d ss i s r a b lt is taken t =
    let P : List Step → Type 0 = λ xs. TakesSteps d xs r b in
    let Q : Step → Type 0 = λ x. TakesStep d x a b in
    subst P (sym (take_more ss i s lt)) (takes_more d (take i ss) (get_or ss i s) r a b taken (subst Q is t))

-- the same of a prefix that reads them
pub steps_go_on : (d : ParserValue) (ss : List Step) (i : ℕ) (s : Step) (p p' : PrefixValue) (r : Reading) (left left' : List TextLexeme) → i < length ss → s ≡ get_or ss i s →
    (p.parser ≡ d) × TakesSteps d (take i ss) r (record { front = p.tokens; left = left }) → TakesStep p.parser s (record { front = p.tokens; left = left }) (record { front = p'.tokens; left = left' }) → p'.parser ≡ p.parser →
    (p'.parser ≡ d) × TakesSteps d (take (i + 1) ss) r (record { front = p'.tokens; left = left' })
steps_go_on d ss i s p p' r left left' lt is (same, taken) t same' =
    let a : Reading = record { front = p.tokens; left = left } in
    let b : Reading = record { front = p'.tokens; left = left' } in
    let P : ParserValue → Type 0 = λ k. TakesStep k s a b in
    (same' ∙ same, takes_next d ss i s r a b lt is taken (subst P same t))

-- an error is marked: read up to it, with the tokens that may come there, and its first repair is taken
pub error_marked : (d : ParserValue) (e : Error) (p q q' : PrefixValue) (left mid rest : List TextLexeme) (ss : List Step) (old new : List LrkitMark) → p.parser ≡ d →
    ReadsUpTo p.parser (record { front = p.tokens; left = left }) (record { front = q.tokens; left = mid }) → q.parser ≡ p.parser →
    ((tokens : List ℕ) × AreNextOf d q.tokens tokens × (new ≡ old ++ error_marks tokens e)) → ss ≡ first_steps e →
    TakesSteps q.parser ss (record { front = q.tokens; left = mid }) (record { front = q'.tokens; left = rest }) →
    (made : List LrkitMark) × MarksError d e (record { front = p.tokens; left = left }) (record { front = q'.tokens; left = rest }) made × (new ≡ old ++ made)
error_marked d e p q q' left mid rest ss old new same reads same' (tokens, next, more) are taken =
    let a : Reading = record { front = p.tokens; left = left } in
    let b : Reading = record { front = q.tokens; left = mid } in
    let z : Reading = record { front = q'.tokens; left = rest } in
    let P : ParserValue → Type 0 = λ k. ReadsUpTo k a b in
    let Q : ParserValue → Type 0 = λ k. TakesSteps k ss b z in
    let R : List Step → Type 0 = λ xs. TakesSteps d xs b z in
    (error_marks tokens e, record { at = b; reads = subst P same reads; tokens = tokens; are_next = next; takes = subst R are (subst Q (same' ∙ same) taken); are = refl }, more)

-- one more error, behind the others
errors_more : (d : ParserValue) (es : List Error) (e : Error) (r a b : Reading) (marks made : List LrkitMark) → MarksErrors d es r a marks → MarksError d e a b made → MarksErrors d (es ++ e ∷ []) r b (marks ++ made)
errors_more d [] e r a b marks made (is, none) t =
    let P : Reading → Type 0 = λ k. MarksError d e k b made in
    (b, made, [], subst P is t, (refl, refl), ap (λ l. l ++ made) none ∙ sym (append-nil made))
errors_more d (x ∷ es) e r a b marks made (between, first, more, begins, rest, is) t =
    (between, first, more ++ made, begins, errors_more d es e between a b more made rest t, ap (λ l. l ++ made) is ∙ append_assoc first more made)

pub errors_next : (d : ParserValue) (es : List Error) (i : ℕ) (e : Error) (r a b : Reading) (marks made marks' : List LrkitMark) → i < length es → e ≡ get_or es i e → MarksErrors d (take i es) r a marks → MarksError d e a b made → marks' ≡ marks ++ made →
    MarksErrors d (take (i + 1) es) r b marks'
errors_next d es i e r a b marks made marks' lt is before t more =
    let P : List Error → Type 0 = λ xs. MarksErrors d xs r b (marks ++ made) in
    let Q : Error → Type 0 = λ x. MarksError d x a b made in
    let R : List LrkitMark → Type 0 = λ ms. MarksErrors d (take (i + 1) es) r b ms in
    subst R (sym more) (subst P (sym (take_more es i e lt)) (errors_more d (take i es) (get_or es i e) r a b marks made before (subst Q is t)))
