-- Lexer files: declarations of start conditions, `%%`, and a rule a line.
use Rattle.std.specs.Prelude.{◌≡◌, ℕ, ◌+◌, ◌-◌, ◌==◌, Bool, true, false, not, ◌&&◌, ◌||◌, if◌then◌else◌, List, [], ◌∷◌, ◌++◌, length, drop, map, codes, nat_lt, Option, None, Some, option_map, Result, Ok, Err}
use Rattle.std.specs.List.{prefix_len, position_or_len, list_any, slice_split}
use Rattle.std.specs.Str.{bytes_eq, IsCharBoundary}
use Rattle.cfg_sections.specs.Sections.{PairText, Reads}
use Rattle.cfg_base.specs.Text.{is_letter, is_digit}
use Rattle.lex_files.specs.Pieces.{trimmed, before_name, name_part, after_byte, cut_at, is_gap, begins_white}
use Rattle.lex_files.specs.declared.conditions.Condition.{Condition}
use Rattle.lex_files.specs.declared.fault.Fault.{Fault}
use Rattle.lex_files.specs.declared.fault.FaultKind.{FaultKind}
use Rattle.lex_files.specs.declared.fault.FaultKind.TheVariants.{MissingMark, UnknownDeclaration, InvalidCondition, UnknownCondition, RepeatedCondition, LeadingWhite, MissingSpace, InvalidName, RepeatedName, Routines}
use Rattle.lex_files.specs.declared.fault.LexFileError.{LexFileError}
use Rattle.lex_files.specs.declared.fault.LexFileError.TheVariants.{Memory, Section, Line}
use Rattle.lex_files.specs.declared.reading.FilePart.{FilePart}
use Rattle.lex_files.specs.declared.reading.FilePart.TheVariants.{Declarations, Rules, End}
use Rattle.lex_files.specs.declared.reading.LexFile.{LexFile}
use Rattle.lex_files.specs.declared.rules.RuleText.{RuleText}
use Rattle.maximal_munch.specs.declared.rules.Target.{Target}
use Rattle.maximal_munch.specs.declared.rules.Target.TheVariants.{Stay, Replace, Push, Pop}

pub record ConditionValue : Type 0 where
  pub name : List ℕ
  pub exclusive : Bool

abbrev pub condition_value : Condition → ConditionValue
condition_value c = record { name = c.name.now; exclusive = c.exclusive }

pub record RuleValue : Type 0 where
  -- the offset of the expression in the text
  pub start : ℕ
  pub expression : List ℕ
  pub name : Option (List ℕ)
  pub conditions : List ℕ
  pub target : Target

abbrev pub rule_value : RuleText → RuleValue
rule_value r = record { start = r.start; expression = r.expression.now; name = option_map (λ s. s.now) r.name; conditions = r.conditions.items; target = r.target }

pub record FileValue : Type 0 where
  pub part : FilePart
  pub conditions : List ConditionValue
  pub rules : List RuleValue

abbrev pub file_value : LexFile → FileValue
file_value f = record { part = f.part; conditions = map condition_value f.conditions.items; rules = map rule_value f.rules.items }

-- what is made of what was read, if it was
abbrev pub and_then : {A B : Type 0} → Result A Fault → (A → Result B Fault) → Result B Fault
and_then (Ok a) f = f a
and_then (Err e) f = Err e

-- steps along a list, up to the first that fails
abbrev pub try_fold : {A B : Type 0} → (B → A → Result B Fault) → B → List A → Result B Fault
try_fold step b [] = Ok b
try_fold step b (a ∷ more) = and_then (step b a) (λ c. try_fold step c more)

abbrev pub fault : {A : Type 0} → FaultKind → ℕ → Result A Fault
fault kind offset = Err (record { kind = kind; offset = offset })

-- an error is that of the text, unless memory was refused
abbrev pub Tells : {A : Type 0} → Result A Fault → LexFileError → Type 0
Tells r (Memory e) = Unit {0}
Tells r (Section es) = ⊥
Tells r (Line f) = r ≡ Err f

-- Start conditions.

abbrev pub is_name_byte : ℕ → Bool
is_name_byte b = is_letter b || is_digit b || (b == 95) || (b == 46)

-- a letter, and then letters, digits, `_` and `.`
abbrev pub is_condition_name : List ℕ → Bool
is_condition_name [] = false
is_condition_name (b ∷ bs) = is_letter b && (prefix_len is_name_byte (b ∷ bs) == length (b ∷ bs))

-- the number of the first condition with this name; their count where none has it
abbrev pub condition_named : List ConditionValue → List ℕ → ℕ
condition_named cs name = position_or_len (λ c. bytes_eq c.name name) cs

-- the number of a condition that is used
abbrev pub number_of : List ConditionValue → ℕ → List ℕ → Result ℕ Fault
number_of cs at name = if nat_lt (condition_named cs name) (length cs) then Ok (condition_named cs name) else fault UnknownCondition at

-- one condition more
abbrev pub declare : Bool → ℕ → List ConditionValue → List ℕ → Result (List ConditionValue) Fault
declare exclusive at cs name =
    if not (is_condition_name name) then fault InvalidCondition at
    else if nat_lt (condition_named cs name) (length cs) then fault RepeatedCondition at
    else Ok (cs ++ record { name = name; exclusive = exclusive } ∷ [])

-- that of a part between spaces; an empty part has none
abbrev pub declare_part : Bool → ℕ → List ConditionValue → List ℕ → Result (List ConditionValue) Fault
declare_part exclusive at cs [] = Ok cs
declare_part exclusive at cs (b ∷ bs) = declare exclusive at cs (b ∷ bs)

-- those of names with spaces between them
abbrev pub declare_words : Bool → ℕ → List ConditionValue → List ℕ → Result (List ConditionValue) Fault
declare_words exclusive at cs words = try_fold (declare_part exclusive at) cs (slice_split (λ b. b == 32) words)

-- `%s` declares inclusive conditions, `%x` exclusive ones
abbrev pub exclusive_of : List ℕ → Option Bool
exclusive_of word =
    if bytes_eq word (codes "%s") || bytes_eq word (codes "%S") then Some false
    else if bytes_eq word (codes "%x") || bytes_eq word (codes "%X") then Some true
    else None

abbrev pub declare_by : Option Bool → ℕ → List ConditionValue → List ℕ → Result (List ConditionValue) Fault
declare_by (Some exclusive) at cs words = declare_words exclusive at cs words
declare_by None at cs words = fault UnknownDeclaration at

abbrev pub declare_cut : ℕ → List ConditionValue → List ℕ → Option (List ℕ × List ℕ) → Result (List ConditionValue) Fault
declare_cut at cs line (Some p) = declare_by (exclusive_of p.0) at cs p.1
declare_cut at cs line None = declare_by (exclusive_of line) at cs []

-- a line before `%%`
abbrev pub read_declaration : ℕ → List ConditionValue → List ℕ → Result (List ConditionValue) Fault
read_declaration at cs line = declare_cut at cs line (cut_at 32 line)

-- Rules.

abbrev pub add_number : List ConditionValue → ℕ → List ℕ → List ℕ → Result (List ℕ) Fault
add_number cs at ks name = and_then (number_of cs at name) (λ k. Ok (ks ++ k ∷ []))

-- the numbers of names with commas between them
abbrev pub numbers_of : List ConditionValue → ℕ → List ℕ → Result (List ℕ) Fault
numbers_of cs at names = try_fold (add_number cs at) [] (slice_split (λ b. b == 44) names)

abbrev pub prefix_cut : List ConditionValue → ℕ → Option (List ℕ × List ℕ) → Result (List ℕ × List ℕ) Fault
prefix_cut cs at None = fault InvalidCondition at
prefix_cut cs at (Some p) = and_then (numbers_of cs at p.0) (λ ks. Ok (ks, p.1))

abbrev pub prefix_in : List ConditionValue → ℕ → List ℕ → Option (List ℕ) → Result (List ℕ × List ℕ) Fault
prefix_in cs at expression None = Ok ([], expression)
prefix_in cs at expression (Some rest) = prefix_cut cs at (cut_at 62 rest)

-- `<A,B>` in front of an expression, and the expression
abbrev pub read_prefix : List ConditionValue → ℕ → List ℕ → Result (List ℕ × List ℕ) Fault
read_prefix cs at expression = prefix_in cs at expression (after_byte 60 expression)

abbrev pub pop_or : List ConditionValue → ℕ → List ℕ → Option (List ℕ) → Result Target Fault
pop_or cs at words (Some name) = and_then (number_of cs at name) (λ k. Ok Pop)
pop_or cs at words None = and_then (number_of cs at words) (λ k. Ok (Replace k))

abbrev pub push_or : List ConditionValue → ℕ → List ℕ → Option (List ℕ) → Result Target Fault
push_or cs at words (Some name) = and_then (number_of cs at name) (λ k. Ok (Push k))
push_or cs at words None = pop_or cs at words (after_byte 45 words)

-- `A`, `+A` or `-A`
abbrev pub target_of : List ConditionValue → ℕ → List ℕ → Result Target Fault
target_of cs at words = push_or cs at words (after_byte 43 words)

abbrev pub target_cut : List ConditionValue → ℕ → Option (List ℕ × List ℕ) → Result (Target × List ℕ) Fault
target_cut cs at None = fault InvalidCondition at
target_cut cs at (Some p) = and_then (target_of cs at p.0) (λ t. Ok (t, p.1))

abbrev pub target_in : List ConditionValue → ℕ → List ℕ → Option (List ℕ) → Result (Target × List ℕ) Fault
target_in cs at word None = Ok (Stay, word)
target_in cs at word (Some rest) = target_cut cs at (cut_at 62 rest)

-- a target in `<` and `>` in front of a name, and the name
abbrev pub read_target : List ConditionValue → ℕ → List ℕ → Result (Target × List ℕ) Fault
read_target cs at word = target_in cs at word (after_byte 60 word)

abbrev pub whole_name : Option (List ℕ × List ℕ) → Option (List ℕ)
whole_name None = None
whole_name (Some p) = if (length p.1 == 0) && not (length p.0 == 0) then Some p.0 else None

abbrev pub quoted_in : ℕ → Option (List ℕ) → Option (List ℕ)
quoted_in quote None = None
quoted_in quote (Some rest) = whole_name (cut_at quote rest)

-- some bytes between two quotes, and nothing else
abbrev pub quoted_by : ℕ → List ℕ → Option (List ℕ)
quoted_by quote text = quoted_in quote (after_byte quote text)

abbrev pub single_quoted : ℕ → Option (List ℕ) → Result (Option (List ℕ)) Fault
single_quoted at (Some name) = Ok (Some name)
single_quoted at None = fault InvalidName at

abbrev pub double_quoted : ℕ → List ℕ → Option (List ℕ) → Result (Option (List ℕ)) Fault
double_quoted at word (Some name) = Ok (Some name)
double_quoted at word None = single_quoted at (quoted_by 39 word)

-- `;` for what is skipped, or a name in quotes
abbrev pub read_name : ℕ → List ℕ → Result (Option (List ℕ)) Fault
read_name at word = if bytes_eq word (codes ";") then Ok None else double_quoted at word (quoted_by 34 word)

abbrev pub is_called : List ℕ → Option (List ℕ) → Bool
is_called name None = false
is_called name (Some other) = bytes_eq other name

abbrev pub is_named : List ℕ → RuleValue → Bool
is_named name r = is_called name r.name

abbrev pub has_name : List RuleValue → Option (List ℕ) → Bool
has_name rules None = false
has_name rules (Some name) = list_any (is_named name) rules

-- the target and the name
abbrev pub read_word : List ConditionValue → List RuleValue → ℕ → List ℕ → Result (Target × Option (List ℕ)) Fault
read_word cs rules at word =
    and_then (read_target cs at word) (λ t.
    and_then (read_name at t.1) (λ name.
    if has_name rules name then fault RepeatedName at else Ok (t.0, name)))

-- a rule's line, without white at its end: the last white parts the expression from the name
abbrev pub read_rule : List ConditionValue → List RuleValue → ℕ → List ℕ → Result (List RuleValue) Fault
read_rule cs rules at line =
    let front = before_name line in
    if length front == 0 then fault MissingSpace at
    else and_then (read_word cs rules (at + length front) (name_part line)) (λ w.
    and_then (read_prefix cs at (trimmed front)) (λ p.
    Ok (rules ++ record { start = at + (length (trimmed front) - length p.1); expression = p.1; name = w.1; conditions = p.0; target = w.0 } ∷ [])))

-- Files.

abbrev pub with_conditions : FileValue → List ConditionValue → Result FileValue Fault
with_conditions f cs = Ok (record f { conditions = cs })

abbrev pub with_rules : FileValue → List RuleValue → Result FileValue Fault
with_rules f rules = Ok (record f { rules = rules })

-- a line before `%%`, without white at its end
abbrev pub read_before : FileValue → ℕ → List ℕ → Result FileValue Fault
read_before f at line = if bytes_eq line (codes "%%") then Ok (record f { part = Rules }) else and_then (read_declaration at f.conditions line) (with_conditions f)

-- a line behind it
abbrev pub read_behind : FileValue → ℕ → List ℕ → Result FileValue Fault
read_behind f at line =
    if bytes_eq line (codes "%%") then Ok (record f { part = End })
    else if begins_white line then fault LeadingWhite at
    else and_then (read_rule f.conditions f.rules at line) (with_rules f)

abbrev pub read_in : FilePart → FileValue → ℕ → List ℕ → Result FileValue Fault
read_in Declarations f at line = read_before f at line
read_in Rules f at line = read_behind f at line
read_in End f at line = fault Routines at

abbrev pub read_line : FileValue → ℕ → List ℕ → Result FileValue Fault
read_line f at line = if is_gap line then Ok f else read_in f.part f at (trimmed line)

-- what is read so far, and the offset of the next line
abbrev pub read_next : FileValue × ℕ → List ℕ → Result (FileValue × ℕ) Fault
read_next s line = and_then (read_line s.0 s.1 line) (λ g. Ok (g, s.1 + length line + 1))

-- a file has a line `%%`
abbrev pub ended : ℕ → FilePart → FileValue → Result FileValue Fault
ended end Declarations f = fault MissingMark end
ended end Rules f = Ok f
ended end End f = Ok f

abbrev pub last_of : FileValue × ℕ → Result FileValue Fault
last_of s = Ok s.0

-- the lines of a text that begins at an offset
abbrev pub read_each : FileValue → ℕ → List ℕ → Result FileValue Fault
read_each f from text = and_then (try_fold read_next (f, from) (slice_split (λ b. b == 10) text)) last_of

-- the same of all lines of a file
abbrev pub read_lines : FileValue → ℕ → List ℕ → Result FileValue Fault
read_lines f from text = and_then (read_each f from text) (λ g. ended (from + length text) g.part g)

-- nothing is read yet
abbrev pub first_file : FileValue
first_file = record { part = Declarations; conditions = record { name = codes "INITIAL"; exclusive = false } ∷ []; rules = [] }

-- the section at the front ends here; 0 where there is none
abbrev pub SectionEnds : List ℕ → ℕ → Type 0
SectionEnds text end = (pairs : List PairText) × Reads false text pairs end

-- the lines from the end of the section on read as this; the section ends between two characters
pub record ReadsAs (text : List ℕ) (r : Result FileValue Fault) : Type 0 where
  pub end : ℕ
  pub section : SectionEnds text end
  pub from : ℕ
  pub is_end : IsCharBoundary text end → from ≡ end
  pub lines : read_lines first_file from (drop from text) ≡ r

-- why a text doesn't read
abbrev pub TellsFile : List ℕ → LexFileError → Type 0
TellsFile text (Memory e) = Unit {0}
TellsFile text (Section es) = Unit {0}
TellsFile text (Line f) = ReadsAs text (Err f)
