use Rattle.std.proofs.Common.{◌≡◌, ◌<◌, ◌-◌, ◌++◌, [], ◌∷◌, length, take, sym, ap, ◌∙◌, subst, arith}
use Rattle.word_lines.specs.Lexing.{IsInside, items_in}
use Rattle.word_lines.proofs.LexedParts.{all_more, first_len, part_cut, space_cut, LexedTo, LexedTo-start, LexedTo-more, LexedTo-end}
use Rattle.word_lines.proofs.lexer.lex_line.Goals as goal

pub parts-init : goal.parts-init
parts-init g c = rw c.requires (c.utf8.line, LexedTo-start g.S.IndexStorage.of_number c.args.grm.now c.args.line.now, tt)

pub range-requires-clause-end_boundary : goal.range-requires-clause-end_boundary
range-requires-clause-end_boundary g c =
    let text = c.as_bytes.ensures.value in
    let within = c.part_len-len.ensures.within in
    let long = ap length text in
    part_cut c.parts.rest.now c.part_len-len.result (c.part_len-len.ensures.value ∙ ap first_len text) (omega (arith, within, long))

pub range_from-rest-requires : goal.range_from-rest-requires
range_from-rest-requires g c =
    let text = c.as_bytes.ensures.value in
    let within = c.part_len-len.ensures.within in
    let long = ap length text in
    let other = c.if-len-rest.false in
    λ more. space_cut c.parts.rest.now c.parts.invariant.0 c.part_len-len.result (c.part_len-len.ensures.value ∙ ap first_len text) (omega (arith, within, long, other))

pub returns-then-len-rest-clause-items : goal.returns-then-len-rest-clause-items
returns-then-len-rest-clause-items g c =
    let of_number = g.S.IndexStorage.of_number in
    let rest = c.parts.rest.now in
    let len = c.part_len-len.result in
    let whole : len - 0 ≡ len = omega arith in
    let at = length c.args.line.now - length rest in
    let items : c.push_part.new.items.items ≡ c.parts.items.items ++ items_in of_number c.args.grm.now at (take len rest ∷ []) = c.in_ok-push_part.ensures.items ∙ ap (λ p. c.parts.items.items ++ items_in of_number c.args.grm.now at (p ∷ [])) (c.range.ensures.value ∙ ap (λ n. take n rest) whole) in
    LexedTo-end of_number c.args.grm.now c.args.line.now rest len (c.part_len-len.ensures.value ∙ ap first_len c.as_bytes.ensures.value) c.parts.items.items c.push_part.new.items.items c.parts.invariant.1 items c.if-len-rest.true

pub parts-preserved : goal.parts-preserved
parts-preserved g c =
    let of_number = g.S.IndexStorage.of_number in
    let rest = c.parts.rest.now in
    let len = c.part_len-len.result in
    let whole : len - 0 ≡ len = omega arith in
    let at = length c.args.line.now - length rest in
    let pushed = c.in_ok-push_part.ensures in
    let items : c.push_part.new.items.items ≡ c.parts.items.items ++ items_in of_number c.args.grm.now at (take len rest ∷ []) = pushed.items ∙ ap (λ p. c.parts.items.items ++ items_in of_number c.args.grm.now at (p ∷ [])) (c.range.ensures.value ∙ ap (λ n. take n rest) whole) in
    let within = c.part_len-len.ensures.within in
    let long = ap length c.as_bytes.ensures.value in
    let other = c.if-len-rest.false in
    let lt : len < length rest = omega (arith, within, long, other) in (
      c.range_from-rest.utf8,
      subst (λ r. LexedTo of_number c.args.grm.now c.args.line.now r c.push_part.new.items.items) (sym c.range_from-rest.ensures.value) (LexedTo-more of_number c.args.grm.now c.args.line.now rest len (c.part_len-len.ensures.value ∙ ap first_len c.as_bytes.ensures.value) c.parts.items.items c.push_part.new.items.items c.parts.invariant.1 items lt),
      all_more (IsInside g.S.IndexStorage.number c.args.grm.now.grammar) c.parts.items.items (items_in of_number c.args.grm.now at (c.range.result.now ∷ [])) c.push_part.new.items.items pushed.items c.parts.invariant.2 pushed.inside,
    )
