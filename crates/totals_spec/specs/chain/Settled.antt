-- A chain's outcome as a number to round. `nearly` stands for any number strictly between S and S +
-- 1 units of 2^w (the Rust's sticky bit), taken here half way; a side of the boundary stands for
-- any number on that side within half of the boundary's unit, taken here an eighth of it away.
-- `chain_total` is the record made of that: what a program can work out. It is the exact sum's
-- record (`Promises`).
use Rattle.std.specs.Prelude.{ℕ, ◌+◌, ◌-◌, ◌*◌, ◌^◌, false, Bool, true, cond, List}
use Rattle.totals_spec.specs.chain.Chain.{Side, below, on, above, Outcome, zero_sum, exactly}
use Rattle.totals_spec.specs.chain.Chain.{nearly, beside, unfinished, chain}
use Rattle.totals_spec.specs.Basics.{Signed, any}
use Rattle.totals_spec.specs.formats.Format.{Format, digits, grid}
use Rattle.totals_spec.specs.formats.Settings.{Settings}
use Rattle.totals_spec.specs.formats.Decode.{zero_of}
use Rattle.totals_spec.specs.terms.Terms.{Term}
use Rattle.totals_spec.specs.sums.Totals.{Answer, special, sum_rounded, reported, on_grid}
use Rattle.totals_spec.specs.sums.Totals.{towards_negative}

abbrev pub beside_mag : Side → ℕ → ℕ → ℕ
beside_mag below m e = m * 2 ^ e - 2 ^ (e - 3)
beside_mag on m e = m * 2 ^ e
beside_mag above m e = m * 2 ^ e + 2 ^ (e - 3)

unfoldable pub settled : Outcome → Signed
settled zero_sum = record { neg = false; mag = 0 }
settled (exactly s m w) = record { neg = s; mag = m * 2 ^ w }
settled (nearly s m w) = record { neg = s; mag = m * 2 ^ w + 2 ^ (w - 1) }
settled (beside x s m e) = record { neg = s; mag = beside_mag x m e }
settled unfinished = record { neg = false; mag = 0 }

-- `finite_total` with the chain's outcome in the place of the exact sum
unfoldable pub chain_total : Format → Settings → Bool → Bool → Bool → List Term → Answer
chain_total f c sub products minus ts =
    cond (any (λ t. true) ts)
    (reported f sub products (on_grid f products (settled (chain (digits f) ts).outcome))
    (sum_rounded f c (grid f products) (towards_negative c)
    (on_grid f products (settled (chain (digits f) ts).outcome))) (chain (digits f) ts))
    (special f sub (zero_of minus) false)
