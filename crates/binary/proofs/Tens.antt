-- Values of ten bytes: whether one is subnormal, and the fields of what is written.
use Rattle.std.proofs.Common.{◌≡◌, ℕ, ◌+◌, ◌^◌, ◌<◌, Bool, not, ◌&&◌, eqb, sym, ◌∙◌}
use Rattle.totals_spec.specs.Basics.{flag}
use Rattle.totals_spec.specs.formats.Encode.{assembled}
use Rattle.totals_spec.specs.ten_bytes.Extended.{extended, field_in, subnormal_extended, spread}
use Rattle.totals_spec.specs.ten_bytes.TwoWords.{joined}
use Rattle.totals_spec.proofs.ten_bytes.TwoWords.{halves-field, halves-subnormal, bits-joined}
use Rattle.totals_spec.proofs.ten_bytes.WrittenOut.{spread-assembled}

-- whether a value is subnormal, by its field and its significand
pub subnormal_field : (h m : ℕ) → h < 65536 → m < 2 ^ 64 → subnormal_extended (joined h m) ≡ (eqb (field_in (joined h m)) 0 && not (eqb m 0))
subnormal_field h m a b = rw (halves-field h m a b) (halves-subnormal h m a b)

-- ---- what is written: the head h and the significand m

module _ (s : Bool) (x t h m : ℕ) (hx : x < 2 ^ 15) (ht : t < 2 ^ 63) where
  pub written_is : h ≡ flag 32768 s + x → m ≡ flag (2 ^ 63) (not (eqb x 0)) + t → joined h m ≡ spread (assembled extended s x t)
  written_is e d = rw (e, d) (sym (bits-joined s x t)) ∙ sym (spread-assembled s x t hx ht)
