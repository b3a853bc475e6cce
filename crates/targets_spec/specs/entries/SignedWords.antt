-- A number with a sign in a word, and a word as a number with a sign.
use Rattle.std.specs.Prelude.{ℕ, ◌^◌, cond, [], ℤ, pos, ltb, suc, ◌-◌, negsuc}
use Rattle.std.proofs.Math.IntN.{sub_ℕ}

-- ---- three targets through bytes. A target is thirteen numbers of eight bytes: kind, exponent
-- bits, width, whether it names its bias, the bias, and the
-- eight settings in the order of a byte entry

-- eight bytes as a number with a sign
abbrev pub signed_word : ℕ → ℤ
signed_word n = cond (ltb n (2 ^ 63)) (pos n) (sub_ℕ n (2 ^ 64))

-- ---- the entries. The layout is ours: bytes 0 to 23 of a full answer are those of a byte entry,
-- and the rest follows them

-- a number with a sign in 8 bytes, and S in 96, the ones that are below 0 counted down from 2^64
-- and from 2^768
abbrev pub word_of : ℤ → ℕ
word_of (pos n) = n
word_of (negsuc n) = 2 ^ 64 - suc n
