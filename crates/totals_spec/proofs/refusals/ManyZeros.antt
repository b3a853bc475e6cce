-- As many zeros as the limit are accepted, and one more is refused as number 6.
use mathlib.Core.Path.{◌≡◌, refl}
use Prim.Native.Nat.{ℕ, zero, suc, ◌≤◌, ◌<◌}
use mathlib.Core.Bool.{false}
use lib.ListN.{replicate, length-replicate}
use borrow.Author.Tests.{le-ltb, lt-ltb}
use Rattle.totals_spec.specs.Basics.{any}
use Rattle.totals_spec.specs.formats.Format.{binary64, valid_format}
use Rattle.totals_spec.specs.sums.Totals.{stray, limit, sum_refusal, sum_answer}
use Rattle.totals_spec.specs.formats.Settings.{with_rounding, valid_settings}
use Rattle.totals_spec.specs.refusals.Promises.{Zeros-accepted, Zeros-refused}
use Rattle.totals_spec.proofs.refusals.RefusedRecords.{sum-refusal}

no_stray : (n : ℕ) → any (stray binary64) (replicate n 0) ≡ false
unfolding binary64
no_stray zero = refl
no_stray (suc n) = no_stray n

few-zeros : (n : ℕ) → n ≤ limit → sum_refusal binary64 (with_rounding 0) 0 (replicate n 0) ≡ 0
unfolding sum_refusal binary64 with_rounding valid_format valid_settings
few-zeros n h = rw (length-replicate {A = ℕ} n 0, le-ltb _ _ h, no_stray n)

many-zeros : (n : ℕ) → limit < n → sum_refusal binary64 (with_rounding 0) 0 (replicate n 0) ≡ 6
unfolding sum_refusal binary64 with_rounding valid_format valid_settings
many-zeros n h = rw (length-replicate {A = ℕ} n 0, lt-ltb _ _ h)

pub zeros-accepted : Zeros-accepted
zeros-accepted n h = rw (sum-refusal binary64 (with_rounding 0) 0 (replicate n 0)) (few-zeros n h)

pub zeros-refused : Zeros-refused
unfolding sum_answer
zeros-refused n h = rw (many-zeros n h)
