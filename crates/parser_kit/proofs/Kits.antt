-- Kits of texts: what is refused, and that there is one of a text.
use Rattle.std.proofs.Common.{◌≡◌, ℕ, true, false, List, [], ◌∷◌, Some, Ok, Err, ap, refl, sym, subst, ◌∙◌}
use Rattle.std.specs.Prelude.{Vec}
use Rattle.std.specs.declared.alloc.Global.{Global}
use Rattle.std.specs.declared.alloc.AllocError.{AllocError}
use Rattle.cfg_read.specs.declared.yacc.YaccKind.{YaccKind}
use Rattle.cfg_read.specs.declared.yacc.validity.YaccGrammarError.{YaccGrammarError}
use Rattle.cfg_read.specs.ErrorModels.{failures_in}
use Rattle.cfg_read.specs.Files.{FailsFile, ReadsFile}
use Rattle.cfg_read.specs.SyntaxTexts.{SyntaxText}
use Rattle.cfg_read.specs.Validity.{FailureText, failures}
use Rattle.cfg_read.specs.ValidityInfo.{CheckedAst, IsChecked, is_valid, read_as}
use Rattle.cfg_numbered.specs.Value.{GrammarValue}
use Rattle.cfgrammar.specs.FromAst.{Makes, too_many}
use Rattle.cfgrammar.specs.declared.yacc.from_ast.TooMany.{TooMany}
use Rattle.cfgrammar.specs.declared.yacc.from_ast.YaccGrammarMakeError.TheVariants as makes
use Rattle.lrpar.specs.Checked.{ParserValue}
use Rattle.parser_kit.specs.Kit.{KitValue, IsKitOf, grammar_of}
use Rattle.parser_kit.specs.KitErrors.{HasFitting, IsKeptRefusal, IsTextRefusal, told_as}
use Rattle.parser_kit.specs.Tabled.{IsTabled}
use Rattle.parser_kit.specs.declared.grammar_kit_error.GrammarKitError.{GrammarKitError}
use Rattle.parser_kit.specs.declared.grammar_kit_error.GrammarKitError.TheVariants as tabled
use Rattle.parser_kit.specs.declared.kit_error.KitError.{KitError}
use Rattle.parser_kit.specs.declared.kit_error.KitError.TheVariants as errors

-- ---- the grammar of what is kept of a text

pub grammar_ok : (top : ℕ) (c : CheckedAst) (v : GrammarValue) → Makes top c (Ok v) → HasFitting top c × (v ≡ grammar_of c)
grammar_ok top c v (Makes.of_valid valid h) = ((valid, h.0), h.1)
grammar_ok top c v (Makes.of_invalid invalid h) = absurd h

pub grammar_invalid : (top : ℕ) (c : CheckedAst) (es : Vec YaccGrammarError Global) → Makes top c (Err (makes.Invalid es)) → (is_valid c.errors ≡ false) × (failures_in es.items ≡ c.errors)
grammar_invalid top c es (Makes.of_valid valid h) = absurd h
grammar_invalid top c es (Makes.of_invalid invalid h) = (invalid, h)

pub grammar_too_many : (top : ℕ) (c : CheckedAst) (n : TooMany) → Makes top c (Err (makes.TooMany n)) → (is_valid c.errors ≡ true) × (too_many top (grammar_of c).grammar ≡ Some n)
grammar_too_many top c n (Makes.of_valid valid h) = (valid, h)
grammar_too_many top c n (Makes.of_invalid invalid h) = absurd h

-- ---- refusals

pub of_kit : {S : Type 0} (top : ℕ) (c : CheckedAst) (P : GrammarValue → GrammarKitError S → Type 0) (e : GrammarKitError S) → HasFitting top c → P (grammar_of c) e → IsKeptRefusal top c P (told_as e)
of_kit top c P (tabled.TooManyStates n) fits h = (fits, h)
of_kit top c P (tabled.AcceptReduce p) fits h = (fits, h)
of_kit top c P tabled.TooLarge fits h = (fits, h)
of_kit top c P (tabled.TooManyReductions s r t n) fits h = (fits, h)
of_kit top c P (tabled.Memory e) fits h = tt

-- why the grammar of what is kept of a text has no kit is why the text has none
pub of_failed : {S : Type 0} (top : ℕ) (c : CheckedAst) (P : GrammarValue → GrammarKitError S → Type 0) (v : GrammarValue) (e : GrammarKitError S) (told : KitError S) → HasFitting top c → v ≡ grammar_of c → told ≡ told_as e → P v e → IsKeptRefusal top c P told
of_failed {S} top c P v e told fits made is h = subst (λ (x : KitError S). IsKeptRefusal top c P x) (sym is) (of_kit top c P e fits (subst (λ (w : GrammarValue). P w e) made h))

pub no_memory : {S : Type 0} (top : ℕ) (kind : YaccKind) (text : List ℕ) (P : GrammarValue → GrammarKitError S → Type 0) (x : AllocError) (e : KitError S) → e ≡ errors.Memory x → IsTextRefusal top kind text P e
no_memory {S} top kind text P x e is = subst (λ (y : KitError S). IsTextRefusal top kind text P y) (sym is) (IsTextRefusal.memory tt)

-- ---- one kit

none_of : (fs : List FailureText) → is_valid fs ≡ true → fs ≡ []
none_of [] valid = refl
none_of (f ∷ fs) valid = cc

-- what is kept of a text with nothing wrong is its reading
read_of : ((kind : YaccKind) (text : List ℕ) (fs : List FailureText) → FailsFile kind text fs → is_valid fs ≡ false) →
    (kind : YaccKind) (text : List ℕ) (c : CheckedAst) → IsChecked kind text c → is_valid c.errors ≡ true → (x : SyntaxText) × ReadsFile kind text x × (failures x ≡ []) × (c ≡ read_as kind x)
read_of unread kind text c (IsChecked.reads_as x r is) valid = (x, r, none_of (failures x) (sym (ap (λ (d : CheckedAst). is_valid d.errors) is) ∙ valid), is)
read_of unread kind text c (IsChecked.has_errors fs f is) valid =
    let wrong = unread kind text fs f in
    let same = ap (λ (d : CheckedAst). is_valid d.errors) is in
    cc

pub kit_of_text : ((kind : YaccKind) (text : List ℕ) (fs : List FailureText) → FailsFile kind text fs → is_valid fs ≡ false) →
    (top cap : ℕ) (kind : YaccKind) (text : List ℕ) (kept : CheckedAst) (d : ParserValue) → IsChecked kind text kept → HasFitting top kept → d.grammar ≡ grammar_of kept → d.cap ≡ cap → IsTabled top d → IsKitOf top kind text cap (record { kept = kept; parser = d })
kit_of_text unread top cap kind text kept d checked fits grammar cap_is tabled =
    let r = read_of unread kind text kept checked fits.0 in
    record {
      reading = r.0;
      reads = r.1;
      valid = r.2;
      kept = r.3;
      grammar = grammar;
      fits = fits.1;
      tabled = tabled;
      cap_is = cap_is;
    }

module _ (one_answer : (kind : YaccKind) (text : List ℕ) (c d : CheckedAst) → IsChecked kind text c → IsChecked kind text d → c ≡ d)
    (top top' cap : ℕ) (kind : YaccKind) (text : List ℕ) (k l : KitValue) (x : IsKitOf top kind text cap k) (y : IsKitOf top' kind text cap l) where
  pub same_kept : k.kept ≡ l.kept
  same_kept = one_answer kind text k.kept l.kept (IsChecked.reads_as x.reading x.reads x.kept) (IsChecked.reads_as y.reading y.reads y.kept)

  pub same_grammar : k.parser.grammar ≡ l.parser.grammar
  same_grammar = x.grammar ∙ (ap grammar_of same_kept ∙ sym y.grammar)

  pub same_cap : k.parser.cap ≡ l.parser.cap
  same_cap = x.cap_is ∙ sym y.cap_is

pub one_text_kit : (k l : KitValue) → k.kept ≡ l.kept → k.parser ≡ l.parser → k ≡ l
one_text_kit k l kept parser_same =
    let of : CheckedAst → ParserValue → KitValue = λ c d. record { kept = c; parser = d } in
    ap (λ c. of c k.parser) kept ∙ ap (λ d. of l.kept d) parser_same
