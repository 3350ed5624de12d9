use Rattle.std.proofs.Common.{◌≡◌, ℕ, List, [], ◌∷◌, Option, None, Vec, Global, ap, refl, string_bytes}
use Rattle.std.proofs.lemmas.Result.{on_ok_weaker}
use Rattle.cfg_base.specs.declared.symbol.PIdx.{PIdx}
use Rattle.cfg_base.specs.declared.symbol.RIdx.{RIdx}
use Rattle.cfg_base.specs.declared.symbol.TIdx.{TIdx}
use Rattle.state_table.specs.declared.stidx.StIdx.{StIdx}
use Rattle.cfg_read.specs.Asts.{Ast}
use Rattle.cfg_read.specs.declared.yacc.validity.YaccGrammarError.{YaccGrammarError}
use Rattle.parser_kit.specs.declared.kit_error.KitError.{KitError}
use Rattle.parser_kit.specs.declared.kit_error.KitError.TheVariants.{AcceptReduce, Grammar, Memory, TooLarge, TooMany, TooManyReductions, TooManyStates}
use Rattle.text_messages.specs.Added.{Said, said_in}
use Rattle.text_messages.specs.declared.source.Severity.TheVariants.{Error}
use Rattle.text_messages.proofs.AddedMessages.{pushed}
use Rattle.grammar_report.specs.Messages.{AreOfRefusal, IsError}
use Rattle.grammar_report.proofs.faults.push_refusal_of.Goals as goal

one_error : (text : List ℕ) (a : Ast) (e : KitError ℕ) (m : Said) → ((es : Vec YaccGrammarError Global) → e ≡ Grammar es → ⊥) → ((p : PIdx ℕ) → e ≡ AcceptReduce p → ⊥) →
    ((s : StIdx ℕ) (r : Option (RIdx ℕ)) (t : TIdx ℕ) (k : ℕ) → e ≡ TooManyReductions s r t k → ⊥) → IsError text None [] m → AreOfRefusal text a e (m ∷ [])
one_error text a (Grammar es) m g p c is = absurd (g es refl)
one_error text a (AcceptReduce q) m g p c is = absurd (p q refl)
one_error text a (TooManyReductions s r t k) m g p c is = absurd (c s r t k refl)
one_error text a (TooMany n) m g p c is = (m, is, refl)
one_error text a (TooManyStates n) m g p c is = (m, is, refl)
one_error text a TooLarge m g p c is = (m, is, refl)
one_error text a (Memory e) m g p c is = (m, is, refl)

pub returns-in_ok-words-in_default : goal.returns-in_ok-words-in_default
returns-in_ok-words-in_default c =
    let a = c.args.messages.now in
    let words = string_bytes c.in_ok-words-in_default.words in
    let m = said_in a.text Error None words in
    let is = one_error a.text c.args.kept.now.ast c.args.refusal.now m c.in_default.not-Grammar c.in_default.not-AcceptReduce (λ s r t k h. c.in_default.not-TooManyReductions s r t k h) (words, (words, refl), refl) in
    on_ok_weaker c.push.result (λ e. (m ∷ [], is, pushed a c.push.new.self c.new.result Error None words e c.new.ensures.severity c.new.ensures.span (ap string_bytes c.new.ensures.words))) c.push.ensures.added
