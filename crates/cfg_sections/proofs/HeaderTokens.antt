-- Marks that are not those that are wanted.
use Rattle.std.proofs.Common.{◌≡◌, ◌≢◌, true, false, refl}
use Rattle.cfg_sections.specs.declared.header.scan.TokenKind.{TokenKind}
use Rattle.cfg_sections.specs.declared.header.scan.TokenKind.TheVariants as tokens
use Rattle.cfg_sections.specs.Sections.{ends_item, ends_pair, begins_setting, begins_pair, begins_key, is_close_paren, is_open_brace}

pub no_item_end : (m : TokenKind) → m ≢ tokens.Comma → m ≢ tokens.CloseBracket → ends_item m ≡ false
no_item_end tokens.Letter h0 h1 = refl
no_item_end tokens.Underscore h0 h1 = refl
no_item_end tokens.Digit h0 h1 = refl
no_item_end tokens.Quote h0 h1 = refl
no_item_end tokens.Exclamation h0 h1 = refl
no_item_end tokens.OpenBrace h0 h1 = refl
no_item_end tokens.CloseBrace h0 h1 = refl
no_item_end tokens.OpenBracket h0 h1 = refl
no_item_end tokens.CloseBracket h0 h1 = absurd (h1 refl)
no_item_end tokens.OpenParen h0 h1 = refl
no_item_end tokens.CloseParen h0 h1 = refl
no_item_end tokens.Comma h0 h1 = absurd (h0 refl)
no_item_end tokens.Colon h0 h1 = refl
no_item_end tokens.Other h0 h1 = refl

pub no_pair_end : (m : TokenKind) → m ≢ tokens.Comma → m ≢ tokens.CloseBrace → ends_pair m ≡ false
no_pair_end tokens.Letter h0 h1 = refl
no_pair_end tokens.Underscore h0 h1 = refl
no_pair_end tokens.Digit h0 h1 = refl
no_pair_end tokens.Quote h0 h1 = refl
no_pair_end tokens.Exclamation h0 h1 = refl
no_pair_end tokens.OpenBrace h0 h1 = refl
no_pair_end tokens.CloseBrace h0 h1 = absurd (h1 refl)
no_pair_end tokens.OpenBracket h0 h1 = refl
no_pair_end tokens.CloseBracket h0 h1 = refl
no_pair_end tokens.OpenParen h0 h1 = refl
no_pair_end tokens.CloseParen h0 h1 = refl
no_pair_end tokens.Comma h0 h1 = absurd (h0 refl)
no_pair_end tokens.Colon h0 h1 = refl
no_pair_end tokens.Other h0 h1 = refl

pub no_setting_begins : (m : TokenKind) → m ≢ tokens.Digit → m ≢ tokens.Quote → m ≢ tokens.Letter → m ≢ tokens.Underscore → m ≢ tokens.OpenBracket → begins_setting m ≡ false
no_setting_begins tokens.Letter h0 h1 h2 h3 h4 = absurd (h2 refl)
no_setting_begins tokens.Underscore h0 h1 h2 h3 h4 = absurd (h3 refl)
no_setting_begins tokens.Digit h0 h1 h2 h3 h4 = absurd (h0 refl)
no_setting_begins tokens.Quote h0 h1 h2 h3 h4 = absurd (h1 refl)
no_setting_begins tokens.Exclamation h0 h1 h2 h3 h4 = refl
no_setting_begins tokens.OpenBrace h0 h1 h2 h3 h4 = refl
no_setting_begins tokens.CloseBrace h0 h1 h2 h3 h4 = refl
no_setting_begins tokens.OpenBracket h0 h1 h2 h3 h4 = absurd (h4 refl)
no_setting_begins tokens.CloseBracket h0 h1 h2 h3 h4 = refl
no_setting_begins tokens.OpenParen h0 h1 h2 h3 h4 = refl
no_setting_begins tokens.CloseParen h0 h1 h2 h3 h4 = refl
no_setting_begins tokens.Comma h0 h1 h2 h3 h4 = refl
no_setting_begins tokens.Colon h0 h1 h2 h3 h4 = refl
no_setting_begins tokens.Other h0 h1 h2 h3 h4 = refl

pub no_pair_begins : (m : TokenKind) → m ≢ tokens.Letter → m ≢ tokens.Exclamation → begins_pair m ≡ false
no_pair_begins tokens.Letter h0 h1 = absurd (h0 refl)
no_pair_begins tokens.Underscore h0 h1 = refl
no_pair_begins tokens.Digit h0 h1 = refl
no_pair_begins tokens.Quote h0 h1 = refl
no_pair_begins tokens.Exclamation h0 h1 = absurd (h1 refl)
no_pair_begins tokens.OpenBrace h0 h1 = refl
no_pair_begins tokens.CloseBrace h0 h1 = refl
no_pair_begins tokens.OpenBracket h0 h1 = refl
no_pair_begins tokens.CloseBracket h0 h1 = refl
no_pair_begins tokens.OpenParen h0 h1 = refl
no_pair_begins tokens.CloseParen h0 h1 = refl
no_pair_begins tokens.Comma h0 h1 = refl
no_pair_begins tokens.Colon h0 h1 = refl
no_pair_begins tokens.Other h0 h1 = refl

pub no_paren_closes : (m : TokenKind) → m ≢ tokens.CloseParen → is_close_paren m ≡ false
no_paren_closes tokens.Letter h0 = refl
no_paren_closes tokens.Underscore h0 = refl
no_paren_closes tokens.Digit h0 = refl
no_paren_closes tokens.Quote h0 = refl
no_paren_closes tokens.Exclamation h0 = refl
no_paren_closes tokens.OpenBrace h0 = refl
no_paren_closes tokens.CloseBrace h0 = refl
no_paren_closes tokens.OpenBracket h0 = refl
no_paren_closes tokens.CloseBracket h0 = refl
no_paren_closes tokens.OpenParen h0 = refl
no_paren_closes tokens.CloseParen h0 = absurd (h0 refl)
no_paren_closes tokens.Comma h0 = refl
no_paren_closes tokens.Colon h0 = refl
no_paren_closes tokens.Other h0 = refl

pub no_brace_opens : (m : TokenKind) → m ≢ tokens.OpenBrace → is_open_brace m ≡ false
no_brace_opens tokens.Letter h0 = refl
no_brace_opens tokens.Underscore h0 = refl
no_brace_opens tokens.Digit h0 = refl
no_brace_opens tokens.Quote h0 = refl
no_brace_opens tokens.Exclamation h0 = refl
no_brace_opens tokens.OpenBrace h0 = absurd (h0 refl)
no_brace_opens tokens.CloseBrace h0 = refl
no_brace_opens tokens.OpenBracket h0 = refl
no_brace_opens tokens.CloseBracket h0 = refl
no_brace_opens tokens.OpenParen h0 = refl
no_brace_opens tokens.CloseParen h0 = refl
no_brace_opens tokens.Comma h0 = refl
no_brace_opens tokens.Colon h0 = refl
no_brace_opens tokens.Other h0 = refl

pub letter_begins : (m : TokenKind) → begins_key m ≡ true → m ≡ tokens.Letter
letter_begins tokens.Letter h = refl
letter_begins tokens.Underscore h = absurd cc
letter_begins tokens.Digit h = absurd cc
letter_begins tokens.Quote h = absurd cc
letter_begins tokens.Exclamation h = absurd cc
letter_begins tokens.OpenBrace h = absurd cc
letter_begins tokens.CloseBrace h = absurd cc
letter_begins tokens.OpenBracket h = absurd cc
letter_begins tokens.CloseBracket h = absurd cc
letter_begins tokens.OpenParen h = absurd cc
letter_begins tokens.CloseParen h = absurd cc
letter_begins tokens.Comma h = absurd cc
letter_begins tokens.Colon h = absurd cc
letter_begins tokens.Other h = absurd cc
