-- What hashes names: products of their words, joined with a key of 128 bits. The key is SipHash of the whole text that has the names.
use Rattle.std.specs.Prelude.{ℕ, zero, suc, ◌+◌, ◌-◌, ◌*◌, ◌/◌, ◌%◌, ◌^◌, List, length, fold, if◌then◌else◌, nat_le, bit_xor}
use Rattle.std.specs.Hash as fed
use Rattle.std.specs.Hash.DefaultHasher as sip
use Rattle.std.specs.Hash.FoldHasher as folding
use Rattle.cfg_base.specs.declared.name_hasher.NameHasher.{NameHasher}

-- the hasher of the names of a text
abbrev pub hasher_of_text : List ℕ → NameHasher
hasher_of_text text =
    let digest = sip.write sip.initial text in
    let low = sip.finish digest in
    record { state = low; key = sip.finish (fold sip.write digest (fed.u64 low)) }

-- the hasher of names that come from no text
abbrev pub hasher_of_no_text : NameHasher
hasher_of_no_text = record { state = 0x243f_6a88_85a3_08d3; key = 0x9e37_79b9_7f4a_7c15 }

-- the state after the words at i and at j
abbrev pub mix : List ℕ → ℕ → ℕ → ℕ → ℕ → ℕ
mix bs key state i j = folding.folded_multiply (bit_xor (folding.read_u64 bs i) state) (bit_xor (folding.read_u64 bs j) key)

-- the state after the first n blocks of 16 bytes
unfoldable pub mix_blocks : List ℕ → ℕ → ℕ → ℕ → ℕ
mix_blocks bs key state zero = state
mix_blocks bs key state (suc n) = mix bs key (mix_blocks bs key state n) (16 * n) (16 * n + 8)

-- the state after `write(bs)`
unfoldable pub write : NameHasher → List ℕ → NameHasher
write h bs =
    let n = length bs in
    let short = folding.folded_multiply (bit_xor h.state (folding.read_short bs)) (bit_xor h.key (2 * n)) in
    let long = mix bs h.key (mix_blocks bs h.key ((h.state + n) % 2 ^ 64) ((n - 1) / 16)) (n - 16) (n - 8) in
    record { state = if nat_le n 8 then short else long; key = h.key }

-- what `finish` returns
abbrev pub finish : NameHasher → ℕ
finish h = h.state
