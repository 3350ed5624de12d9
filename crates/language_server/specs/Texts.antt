-- What is sent, as JSON: each answer has the id of its request.
use Rattle.std.specs.Prelude.{◌≡◌, ℕ, zero, suc, ◌+◌, ◌-◌, min, List, [], ◌∷◌, None, Some, true, false, codes}
use Rattle.std.specs.String.{string_bytes}
use Rattle.serde.specs.Event.{InSeq, Log, Logs, Sends, Then, WritesSeq, boolean, field_key, map_begins, map_ends, nothing, seq_begins, seq_ends, signed, text, unsigned}
use Rattle.serde.specs.declared.name.Case.TheVariants.{AsIs}
use Rattle.language_server.specs.Protocol.{code_number, code_text}
use Rattle.language_server.specs.declared.answers.Answer.{Answer}
use Rattle.language_server.specs.declared.answers.Answer.TheVariants.{Done, Edits as EditsOf, Error, Folds, Highlights as HighlightsOf, Hover as HoverOf, Initialized, Items, Locations, Outline as OutlineOf, Range as RangeOf, Refused, Symbols}
use Rattle.language_server.specs.declared.answers.Contents.{Contents}
use Rattle.language_server.specs.declared.answers.Edits.{Edits}
use Rattle.language_server.specs.declared.answers.Fold.{Fold}
use Rattle.language_server.specs.declared.answers.Highlights.{Highlights}
use Rattle.language_server.specs.declared.answers.Hover.{Hover}
use Rattle.language_server.specs.declared.answers.Item.{Item}
use Rattle.language_server.specs.declared.answers.Nested.{Nested}
use Rattle.language_server.specs.declared.answers.Offers.{Offers}
use Rattle.language_server.specs.declared.answers.Offers.TheVariants.{Grammars, Texts}
use Rattle.language_server.specs.declared.answers.Outline.{Outline}
use Rattle.language_server.specs.declared.answers.Places.{Places}
use Rattle.language_server.specs.declared.answers.Range.{Range}
use Rattle.language_server.specs.declared.answers.Response.{Response}
use Rattle.language_server.specs.declared.answers.Symbol.{Symbol}
use Rattle.language_server.specs.declared.messages.ErrorCode.{ErrorCode}
use Rattle.language_server.specs.declared.messages.ErrorCode.TheVariants.{RequestFailed}
use Rattle.language_server.specs.declared.messages.Id.{Id}
use Rattle.language_server.specs.declared.messages.Id.TheVariants.{Null, Number, Text}
use Rattle.language_server.specs.declared.places.Encoding.{Encoding}
use Rattle.language_server.specs.declared.places.Encoding.TheVariants.{Utf16, Utf8}
use Rattle.language_server.specs.declared.places.Position.{Position}

-- what is written between the braces of an object
abbrev pub InObject : (Log → Log → Type 0) → Log → Log → Type 0
InObject members old new = (first last : Log) × Logs old first (map_begins None) × members first last × Logs last new map_ends

-- a key, and what is written behind it
abbrev pub Member : List ℕ → (Log → Log → Type 0) → Log → Log → Type 0
Member key value old new = (mid : Log) × Logs old mid (field_key key AsIs) × value mid new

abbrev pub WritesId : Id → Log → Log → Type 0
WritesId (Number n) old new = Logs old new (signed n)
WritesId (Text t) old new = Logs old new (text (string_bytes t))
WritesId Null old new = Logs old new nothing

-- the number of an error, and its words
abbrev pub WritesError : ErrorCode → Log → Log → Type 0
WritesError code = InObject (Then (Member (codes "code") (λ old new. Logs old new (signed (code_number code)))) (Member (codes "message") (λ old new. Logs old new (text (code_text code)))))

-- the error of a refusal, and why
abbrev pub WritesRefusal : List ℕ → Log → Log → Type 0
WritesRefusal words = InObject (Then (Member (codes "code") (λ old new. Logs old new (signed (code_number RequestFailed)))) (Member (codes "message") (λ old new. Logs old new (text words))))

-- a place by its line and its column
abbrev pub WritesPlace : Position → Log → Log → Type 0
WritesPlace p = InObject (Then (Member (codes "line") (λ old new. Logs old new (unsigned p.line))) (Member (codes "character") (λ old new. Logs old new (unsigned p.character))))

-- where a range begins and ends
abbrev pub WritesRange : Range → Log → Log → Type 0
WritesRange r = InObject (Then (Member (codes "start") (WritesPlace r.start)) (Member (codes "end") (WritesPlace r.end)))

-- a range and its document
abbrev pub WritesLocation : List ℕ → Range → Log → Log → Type 0
WritesLocation uri r = InObject (Then (Member (codes "uri") (λ old new. Logs old new (text uri))) (Member (codes "range") (WritesRange r)))

-- a range to highlight
abbrev pub WritesHighlight : Range → Log → Log → Type 0
WritesHighlight r = InObject (Member (codes "range") (WritesRange r))

-- a range and the text that replaces it
abbrev pub WritesEdit : List ℕ → Range → Log → Log → Type 0
WritesEdit new_text r = InObject (Then (Member (codes "range") (WritesRange r)) (Member (codes "newText") (λ old new. Logs old new (text new_text))))

-- each place of a name, in their order
abbrev pub WritesPlaces : Places → Log → Log → Type 0
WritesPlaces p = WritesSeq (WritesLocation (string_bytes p.uri)) p.ranges.items

-- each range to highlight, in their order
abbrev pub WritesHighlights : Highlights → Log → Log → Type 0
WritesHighlights h = WritesSeq WritesHighlight h.ranges.items

-- an edit of each range, in their order, below their document
abbrev pub WritesEdits : Edits → Log → Log → Type 0
WritesEdits e = InObject (Member (codes "changes") (InObject (Member (string_bytes e.uri) (WritesSeq (WritesEdit (string_bytes e.new_text)) e.ranges.items))))

-- a symbol's members but those below it
abbrev pub WritesMembers : Symbol → Log → Log → Type 0
WritesMembers s = Then (Member (codes "name") (Sends (text (string_bytes s.name)))) (Then (Member (codes "kind") (Sends (unsigned s.kind))) (Then (Member (codes "range") (WritesRange s.range)) (Member (codes "selectionRange") (WritesRange s.selection_range))))

abbrev pub WritesSymbol : Symbol → Log → Log → Type 0
WritesSymbol s = InObject (WritesMembers s)

-- a symbol up to those below it
abbrev pub OpensSymbol : Symbol → Log → Log → Type 0
OpensSymbol s = Then (Sends (map_begins None)) (Then (WritesMembers s) (Then (Sends (field_key (codes "children") AsIs)) (Sends (seq_begins None))))

-- the ends of symbols and of the lists of those below them
abbrev pub ClosesSymbols : ℕ → Log → Log → Type 0
ClosesSymbols zero old new = new ≡ old
ClosesSymbols (suc n) old new = Then (ClosesSymbols n) (Then (Sends seq_ends) (Sends map_ends)) old new

-- the symbols of a tree behind others that are not yet ended: each ends those that it is not below
abbrev pub WritesNested : ℕ → List Nested → Log → Log → Type 0
WritesNested left [] = ClosesSymbols left
WritesNested left (n ∷ ns) = Then (ClosesSymbols (left - min n.depth left)) (Then (OpensSymbol n.symbol) (WritesNested (min n.depth left + 1) ns))

abbrev pub WritesOutline : Outline → Log → Log → Type 0
WritesOutline o = Then (Sends (seq_begins None)) (Then (WritesNested 0 o.symbols.items) (Sends seq_ends))

-- the first and the last line that are folded
abbrev pub WritesFold : Fold → Log → Log → Type 0
WritesFold f = InObject (Then (Member (codes "startLine") (Sends (unsigned f.start_line))) (Member (codes "endLine") (Sends (unsigned f.end_line))))

-- a text that may be written, and its kind
abbrev pub WritesItem : Item → Log → Log → Type 0
WritesItem i = InObject (Then (Member (codes "label") (Sends (text (string_bytes i.label)))) (Member (codes "kind") (Sends (unsigned i.kind))))

abbrev pub WritesContents : Contents → Log → Log → Type 0
WritesContents c = InObject (Then (Member (codes "kind") (Sends (text c.kind.now))) (Member (codes "value") (Sends (text (string_bytes c.value)))))

-- a text about a name, and the name's range
abbrev pub WritesHover : Hover → Log → Log → Type 0
WritesHover h = InObject (Then (Member (codes "contents") (WritesContents h.contents)) (Member (codes "range") (WritesRange h.range)))

abbrev pub encoding_text : Encoding → List ℕ
encoding_text Utf8 = codes "utf-8"
encoding_text Utf16 = codes "utf-16"

-- something is offered
abbrev pub Offered : List ℕ → Log → Log → Type 0
Offered key = Member key (Sends (boolean true))

-- what is offered of each document: it comes when it is opened, then in parts
abbrev pub WritesBasis : Encoding → Log → Log → Type 0
WritesBasis e = Then (Member (codes "positionEncoding") (Sends (text (encoding_text e)))) (Then (Member (codes "textDocumentSync") (InObject (Then (Offered (codes "openClose")) (Member (codes "change") (Sends (unsigned 2)))))) (Offered (codes "documentSymbolProvider")))

-- a letter that asks for completions
abbrev pub WritesLetter : List ℕ → Log → Log → Type 0
WritesLetter letter = InObject (Member (codes "triggerCharacters") (InSeq 1 (Sends (text letter))))

-- what else is offered
abbrev pub WritesOffers : Offers → Log → Log → Type 0
WritesOffers Grammars = Then (Offered (codes "foldingRangeProvider")) (Then (Offered (codes "definitionProvider")) (Then (Offered (codes "referencesProvider")) (Then (Offered (codes "documentHighlightProvider")) (Then (Member (codes "renameProvider") (InObject (Offered (codes "prepareProvider")))) (Then (Member (codes "completionProvider") (WritesLetter (codes "%"))) (Offered (codes "hoverProvider")))))))
WritesOffers Texts = Member (codes "completionProvider") (InObject (Member (codes "resolveProvider") (Sends (boolean false))))

-- what the server can do, and its name
abbrev pub WritesBegun : Offers → Encoding → Log → Log → Type 0
WritesBegun o e = InObject (Then (Member (codes "capabilities") (InObject (Then (WritesBasis e) (WritesOffers o)))) (Member (codes "serverInfo") (InObject (Member (codes "name") (Sends (text (codes "lrkit-lsp")))))))

-- a result or an error, and not both
abbrev pub WritesAnswer : Answer → Log → Log → Type 0
WritesAnswer (Error code) = Member (codes "error") (WritesError code)
WritesAnswer (Refused words) = Member (codes "error") (WritesRefusal (string_bytes words))
WritesAnswer Done = Member (codes "result") (λ old new. Logs old new nothing)
WritesAnswer (Locations places) = Member (codes "result") (WritesPlaces places)
WritesAnswer (HighlightsOf highlights) = Member (codes "result") (WritesHighlights highlights)
WritesAnswer (EditsOf edits) = Member (codes "result") (WritesEdits edits)
WritesAnswer (Initialized offers encoding) = Member (codes "result") (WritesBegun offers encoding)
WritesAnswer (RangeOf range) = Member (codes "result") (WritesRange range)
WritesAnswer (Symbols list) = Member (codes "result") (WritesSeq WritesSymbol list.items)
WritesAnswer (OutlineOf outline) = Member (codes "result") (WritesOutline outline)
WritesAnswer (Folds list) = Member (codes "result") (WritesSeq WritesFold list.items)
WritesAnswer (Items list) = Member (codes "result") (WritesSeq WritesItem list.items)
WritesAnswer (HoverOf hover) = Member (codes "result") (WritesHover hover)

abbrev pub WritesResponse : Response → Log → Log → Type 0
WritesResponse r = InObject (Then (Member (codes "jsonrpc") (λ old new. Logs old new (text (codes "2.0")))) (Then (Member (codes "id") (WritesId r.id)) (WritesAnswer r.answer)))
