use Rattle.std.proofs.lemmas.Result.{IfErr-weaker, IfOk-weaker}
use Rattle.cfg_read.specs.declared.yacc.YaccKind.{YaccKind}
use Rattle.parser_kit.specs.Kit.{IsKitOf, KitValue}
use Rattle.parser_kit.specs.KitErrors.{HasKitCause, IsKitRefusal, IsToldRefusal}
use Rattle.parser_kit.specs.TextKinds.{IsKindOfText}
use Rattle.parser_kit.proofs.kit.ParserKit.of_text.Goals as goal

pub returns-in-Ok-clause-kit : goal.returns-in-Ok-clause-kit
returns-in-Ok-clause-kit g c =
    let top = g.S.IndexStorage.MAX in
    let text = c.args.text.now in
    let P : KitValue → Type 0 = IsKitOf top c.in-Ok.kind text c.args.cap in
    let Q : KitValue → Type 0 = λ k. (kind : YaccKind) × IsKindOfText text kind × IsKitOf top kind text c.args.cap k in
    IfOk-weaker c.new.result P Q (λ k h. (c.in-Ok.kind, c.in-Ok.ensures.kind, h)) c.new.ensures.kit

pub returns-in-Ok-clause-refused : goal.returns-in-Ok-clause-refused
returns-in-Ok-clause-refused g c =
    let number = g.S.IndexStorage.number in
    let top = g.S.IndexStorage.MAX in
    let text = c.args.text.now in
    let cap = c.args.cap in
    IfErr-weaker c.new.result (IsKitRefusal number top c.in-Ok.kind text cap) (IsToldRefusal text (λ kind. IsKitRefusal number top kind text cap))
    (λ e h. IsToldRefusal.of_kind c.in-Ok.kind c.in-Ok.ensures.kind h) c.new.ensures.refused

pub returns-in-Ok-clause-crowded : goal.returns-in-Ok-clause-crowded
returns-in-Ok-clause-crowded g c =
    let number = g.S.IndexStorage.number in
    let top = g.S.IndexStorage.MAX in
    let text = c.args.text.now in
    IfErr-weaker c.new.result (HasKitCause number top c.in-Ok.kind text) (IsToldRefusal text (λ kind. HasKitCause number top kind text))
    (λ e h. IsToldRefusal.of_kind c.in-Ok.kind c.in-Ok.ensures.kind h) c.new.ensures.crowded

pub returns-in-Err-clause-refused : goal.returns-in-Err-clause-refused
returns-in-Err-clause-refused g c = IsToldRefusal.untold c.in-Err.ensures.refused

pub returns-in-Err-clause-crowded : goal.returns-in-Err-clause-crowded
returns-in-Err-clause-crowded g c = IsToldRefusal.untold c.in-Err.ensures.refused
