-- The hash by which a key has its bucket.
use Rattle.std.specs.Prelude.{◌≡◌, ℕ, ◌+◌, ◌*◌, ◌/◌, ◌%◌, List, slice_index, bit_and}

-- the low byte of the hash behind one byte more, by the low byte before it
abbrev pub low_step : ℕ → ℕ → ℕ
low_step low byte = (31 * low + byte) % 256

-- four lanes of sixteen bits
abbrev pub lanes : ℕ → ℕ → ℕ → ℕ → ℕ
lanes x0 x1 x2 x3 = ((x3 * 65536 + x2) * 65536 + x1) * 65536 + x0

-- what is worked out of a word
unfoldable pub hash_of_word : ℕ → ℕ
hash_of_word word =
    bit_and (bit_and (bit_and word 71777214294589695 * 31 + bit_and (word / 256) 71777214294589695) 71777214294589695 * 54888183103684611 % 18446744073709551616 / 281474976710656) 255 * 171 % 256

-- the first eight bytes are those of a word, the lowest first
abbrev pub IsFirstWord : List ℕ → ℕ → Type 0
IsFirstWord bytes word =
    word ≡ lanes (slice_index bytes 0 + slice_index bytes 1 * 256) (slice_index bytes 2 + slice_index bytes 3 * 256) (slice_index bytes 4 + slice_index bytes 5 * 256) (slice_index bytes 6 + slice_index bytes 7 * 256)
