use Rattle.std.proofs.Common.{refl}
use Rattle.text_server.proofs.completion.expected_bits.Goals as goal

pub returns-in-Some : goal.returns-in-Some
returns-in-Some c =
    let told = rw (c.in-Some.is, c.as_slice.ensures.value, c.in_ok-lexemes.ensures, c.parser_data.ensures) at c.in_ok-bits.ensures.some in
    record { at = told.0; reaches = told.1; next = told.2 }

pub returns : goal.returns
returns c = (rw (c.in-None.is, c.as_slice.ensures.value, c.in_ok-lexemes.ensures, c.parser_data.ensures) at c.in_ok-bits.ensures.none) refl
