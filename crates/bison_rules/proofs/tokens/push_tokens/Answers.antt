-- A byte within a piece gives nothing, and another one its piece.
use Rattle.std.proofs.Common.{◌≡◌, ◌+◌, ◌++◌, ◌∷◌, ◌&&◌, ◌||◌, Bool, List, ℕ, true, false, drop, get_or, option_to_list, sym, ap, ◌∙◌, append_assoc, append-nil}
use Rattle.std.proofs.lemmas.List.{drop_more}
use Rattle.bison_rules.specs.Pieces as spec
use Rattle.bison_rules.specs.Models.{tokens_of, piece_of}
use Rattle.bison_rules.proofs.Steps as steps
use Rattle.bison_rules.proofs.tokens.push_tokens.Goals as goal

pub bytes-preserved-then-skipped-gt0 : goal.bytes-preserved-then-skipped-gt0
bytes-preserved-then-skipped-gt0 c =
    let xs = c.args.text.now in
    let i = c.bytes.i in
    ap (λ (l : List spec.Token). tokens_of c.bytes.tokens.items ++ l) (sym (steps.inside c.bytes.skipped c.bytes.has_rules (get_or xs i 0) (drop i xs) (drop (i + 1) xs) (drop_more xs i 0 c.bytes-test.true) c.if-skipped-gt0.true))
    ∙ c.bytes.invariant

pub returns-then-is_end : goal.returns-then-is_end
returns-then-is_end c =
    let xs = c.args.text.now in
    let i = c.bytes.i in
    let bs = c.behind-rest.result.now in
    let p = piece_of c.piece_of-piece.result in
    let e : drop i xs ≡ get_or xs i 0 ∷ bs = drop_more xs i 0 c.bytes-test.true ∙ ap (λ (l : List ℕ). get_or xs i 0 ∷ l) (sym c.behind-rest.ensures) in
    let t = ap (λ (s : Bool). c.bytes.has_rules && s) (sym c.gives_section-is_section.ensures) ∙ sym c.is_end.ensures ∙ c.if-is_end.true in
    sym (append-nil _)
    ∙ ap (λ (l : List spec.Token). tokens_of c.bytes.tokens.items ++ l) (sym (steps.ends c.bytes.skipped c.bytes.has_rules (get_or xs i 0) (drop i xs) bs p e c.if-skipped-gt0.false (sym c.piece_of-piece.ensures) t))
    ∙ c.bytes.invariant

pub bytes-preserved : goal.bytes-preserved
bytes-preserved c =
    let xs = c.args.text.now in
    let i = c.bytes.i in
    let bs = c.behind-rest.result.now in
    let p = piece_of c.piece_of-piece.result in
    let out = option_to_list p.token in
    let e : drop i xs ≡ get_or xs i 0 ∷ bs = drop_more xs i 0 c.bytes-test.true ∙ ap (λ (l : List ℕ). get_or xs i 0 ∷ l) (sym c.behind-rest.ensures) in
    let t = ap (λ (s : Bool). c.bytes.has_rules && s) (sym c.gives_section-is_section.ensures) ∙ sym c.is_end.ensures ∙ c.if-is_end.false in
    let s = ap (λ (s : Bool). c.bytes.has_rules || s) (sym c.gives_section-is_section.ensures) ∙ sym c.has_section-has_rules.ensures in
    let rest = spec.tokens_from c.piece_of-piece.result.size c.has_section-has_rules.result (drop (i + 1) xs) in
    let h = ap (λ (s : Bool). spec.tokens_from p.size s bs) s ∙ ap (λ (l : List ℕ). spec.tokens_from p.size c.has_section-has_rules.result l) c.behind-rest.ensures in
    let g = steps.goes_on c.bytes.skipped c.bytes.has_rules (get_or xs i 0) (drop i xs) bs p e c.if-skipped-gt0.false (sym c.piece_of-piece.ensures) t in
    ap (λ (l : List spec.Token). l ++ rest) c.in_ok-push_token.ensures
    ∙ append_assoc (tokens_of c.bytes.tokens.items) out rest
    ∙ ap (λ (l : List spec.Token). tokens_of c.bytes.tokens.items ++ l) (ap (λ (l : List spec.Token). out ++ l) (sym h) ∙ sym g)
    ∙ c.bytes.invariant
