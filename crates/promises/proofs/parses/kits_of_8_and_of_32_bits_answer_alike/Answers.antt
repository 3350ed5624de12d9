use Rattle.std.proofs.Common.{◌≡◌, sym, subst}
use Rattle.parser_kit.specs.Kit.{KitValue}
use Rattle.parser_kit.specs.KitParses.{IsKitParse}
use Rattle.word_lines.specs.Lexing.{items_of, lex_of}
use Rattle.lrkit.specs.Output.{id, made_up}
use Rattle.promises.proofs.parses.kits_of_8_and_of_32_bits_answer_alike.Goals as goal

pub returns-clause-words : goal.returns-clause-words
returns-clause-words c = λ cap kind text line repairs k l tree other_tree errors others x y p q.
    let alike = c.kits_of_texts_parse_alike.ensures 255 4294967295 cap kind text k l x y in
    let one : k ≡ l = c.kits_of_texts_are_one.ensures 255 4294967295 cap kind text k l x y in
    let moved = subst (λ (v : KitValue). IsKitParse id (lex_of id) made_up l.parser (λ state index lexeme offered. offered ≡ repairs) (items_of id v.parser.grammar line) (λ t. t ≡ other_tree) others) (sym one) q in
    alike id id (lex_of id) made_up (λ state index lexeme. repairs) (items_of id k.parser.grammar line) tree other_tree errors others p moved

pub returns-clause-own_lexemes : goal.returns-clause-own_lexemes
returns-clause-own_lexemes c = c.kits_with_own_lexemes_parse_alike.ensures
