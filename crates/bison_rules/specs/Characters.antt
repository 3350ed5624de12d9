-- Bytes of names, and the characters that character tokens stand for.
use Rattle.std.specs.Prelude.{ℕ, ◌+◌, ◌*◌, ◌-◌, Bool, ◌&&◌, ◌||◌, ◌==◌, nat_le, List, [], ◌∷◌, length, Option, None, Some, if◌then◌else◌}

-- [0-9]
abbrev pub is_digit : ℕ → Bool
is_digit b = nat_le 48 b && nat_le b 57

-- [A-Za-z0-9_.-]
abbrev pub is_word_byte : ℕ → Bool
is_word_byte b = is_digit b || (nat_le 65 b && nat_le b 90) || (nat_le 97 b && nat_le b 122) || b == 95 || b == 46 || b == 45

-- the value of a digit up to base 16
abbrev pub digit_of : ℕ → ℕ
digit_of b =
    if is_digit b then b - 48
    else (if nat_le 97 b && nat_le b 102 then b - 87
    else (if nat_le 65 b && nat_le b 70 then b - 55
    else 99))

-- the number that digits to a base write behind n, up to 255
abbrev pub number_from : ℕ → ℕ → List ℕ → Option ℕ
number_from base n [] = if nat_le n 255 then Some n else None
number_from base n (d ∷ ds) = if nat_le base (digit_of d) || nat_le 256 n then None else number_from base (n * base + digit_of d) ds

abbrev pub number_of : ℕ → List ℕ → Option ℕ
number_of base ds = if length ds == 0 then None else number_from base 0 ds

-- the escapes of C: \a \b \t \n \v \f \r \\ \' \" \?, octal digits, and hexadecimal ones behind x, u or U
abbrev pub letter_of : ℕ → List ℕ → Option ℕ
letter_of b ds =
    if b == 97 then Some 7
    else (if b == 98 then Some 8
    else (if b == 116 then Some 9
    else (if b == 110 then Some 10
    else (if b == 118 then Some 11
    else (if b == 102 then Some 12
    else (if b == 114 then Some 13
    else (if b == 92 || b == 39 || b == 34 || b == 63 then Some b
    else number_of 8 ds)))))))

abbrev pub escape_of : List ℕ → Option ℕ
escape_of [] = None
escape_of (b ∷ []) = letter_of b (b ∷ [])
escape_of (b ∷ ds) = if b == 120 || b == 117 || b == 85 then number_of 16 ds else number_of 8 (b ∷ ds)

-- the code of the character between two single quotes
abbrev pub code_of : List ℕ → Option ℕ
code_of [] = None
code_of (b ∷ []) = if nat_le b 127 then Some b else None
code_of (b ∷ bs) = if b == 92 then escape_of bs else None
