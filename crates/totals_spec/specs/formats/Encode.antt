-- Encoding (`encode` of `binary.rs`): the bits of a value.
use Rattle.std.specs.Prelude.{ℕ, ◌+◌, ◌-◌, ◌*◌, ◌^◌, Bool, false, true, not, suc, cond, ltb}
use Rattle.totals_spec.specs.Basics.{flag}
use Rattle.totals_spec.specs.formats.Format.{Format, fraction_bits, Kind, ieee, no_inf, fnuz}
use Rattle.totals_spec.specs.formats.Format.{finite_only, kind_of}
use Rattle.totals_spec.specs.formats.Decode.{Unpacked, zero_of, finite, infinity, nan}

-- the sign, the exponent field and the fraction in their places
abbrev pub assembled : Format → Bool → ℕ → ℕ → ℕ
assembled f s x m = flag (2 ^ (f.W - 1)) s + x * 2 ^ fraction_bits f + m

abbrev pub zero_bits : Kind → Format → Bool → ℕ
zero_bits ieee f s = assembled f s 0 0
zero_bits no_inf f s = assembled f s 0 0
zero_bits fnuz f s = assembled f false 0 0
zero_bits finite_only f s = assembled f s 0 0

abbrev pub nan_bits : Kind → Format → Bool → Bool → ℕ → ℕ
nan_bits ieee f s g m = assembled f s (2 ^ f.E - 1) (flag (2 ^ (fraction_bits f - 1)) (not g) + m)
nan_bits no_inf f s g m = assembled f s (2 ^ f.E - 1) (2 ^ fraction_bits f - 1)
nan_bits fnuz f s g m = assembled f true 0 0
nan_bits finite_only f s g m = assembled f false 0 0

unfoldable pub encode : Format → Unpacked → ℕ
encode f (zero_of s) = zero_bits (kind_of f.kind) f s
encode f (finite s k m) = cond (ltb m (2 ^ fraction_bits f)) (assembled f s 0 m)
    (assembled f s (suc k) (m - 2 ^ fraction_bits f))
encode f (infinity s) = assembled f s (2 ^ f.E - 1) 0
encode f (nan s g m) = nan_bits (kind_of f.kind) f s g m
