-- Texts as parts of a page.
use Rattle.std.specs.Prelude.{◌≡◌, ℕ, List, ◌++◌, ◌==◌, if◌then◌else◌, codes, encode_utf8}
use Rattle.std.specs.List.{flat_map}
use Rattle.std.specs.Str.{chars}

abbrev pub page_char : ℕ → List ℕ
page_char c = if c == 38 then codes "&amp;" else if c == 60 then codes "&lt;" else if c == 62 then codes "&gt;" else if c == 34 then codes "&quot;" else encode_utf8 c

-- a text without characters that mean something in HTML
abbrev pub escaped : List ℕ → List ℕ
escaped text = flat_map page_char (chars text)

abbrev pub between : List ℕ → List ℕ → List ℕ → List ℕ
between before text after = before ++ escaped text ++ after

-- what a page begins with: its title, in the head and above all else
abbrev pub page_head : List ℕ → List ℕ → List ℕ
page_head head title = head ++ between (codes "<title>") title (codes "</title>\n</head>\n<body>\n") ++ between (codes "<h1>") title (codes "</h1>\n")

abbrev pub IsPage : List ℕ → List ℕ → List ℕ → Type 0
IsPage head title page = (body : List ℕ) × (page ≡ page_head head title ++ body ++ codes "</body>\n</html>\n")
