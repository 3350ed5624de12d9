-- The bytes of names, and what stands between two quotes.
use Rattle.std.proofs.Common.{◌≡◌, ℕ, ◌+◌, ◌<◌, ◌≤◌, true, List, Some, refl, arith}
use Rattle.std.specs.Prelude.{slice_get}
use Rattle.std.specs.Str.{IsUtf8}
use Rattle.std.proofs.lemmas.Bool.Decides.{nat_tests}
use Rattle.std.proofs.lemmas.Option.{slice_get_within}
use Rattle.cfg_base.proofs.TextRuns.{cut_before, cut_behind}
use Rattle.cfg_read.specs.Bytes.{is_name_byte, is_name_start}
use Rattle.cfg_read.specs.Scanning.{FitsQuoted}

pub name_ascii : (c : ℕ) → is_name_byte c ≡ true → c < 128
name_ascii c h = grind (arith, nat_tests)

pub name_start_passes : (c : ℕ) → is_name_start c ≡ true → is_name_byte c ≡ true
name_start_passes c h = rw h refl

pub between_quotes : (text : List ℕ) (a b q : ℕ) → IsUtf8 text → q < 128 → slice_get text a ≡ Some q → slice_get text b ≡ Some q → a + 1 ≤ b → FitsQuoted text a b
between_quotes text a b q utf8 ascii h k le =
    record {
      inner = record { order = le; start = cut_behind text a q utf8 h ascii; end = cut_before text b q utf8 k ascii };
      within = slice_get_within text b q k;
    }
