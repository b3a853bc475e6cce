-- The limit on the passes for binary64: 4 in a sum or magnitude sum, 7 in a square sum or dot.
use mathlib.Core.List.{[], List, ◌∷◌}
use Prim.Native.Nat.{ℕ, ◌-◌, ◌*◌, ◌≤◌, ◌<◌, ◌+◌, zero, suc}
use native.Mathlib.Nat.{le_of_suc-le-suc, div-lt_iff_lt-mul, suc-mul, le_trans}
use native.Mathlib.Omega.{arith}
use Rattle.totals_spec.specs.chain.Limit.{ceil_div, bottom_of, most_passes}
use Rattle.totals_spec.specs.formats.Format.{Format, digits, room, binary64}
use Rattle.totals_spec.specs.terms.Terms.{Term, top_of}
use Rattle.totals_spec.specs.formats.Settings.{summand_of}
use Rattle.totals_spec.specs.sums.Totals.{sum_terms, pairs, dot_terms}
use Rattle.totals_spec.specs.chain.Promises.{Binary64-sum-limit, Binary64-square-limit}
use Rattle.totals_spec.specs.chain.Promises.{Binary64-dot-limit}
use Rattle.totals_spec.proofs.terms.GoodTerms.{AllGood, good-terms, good-pairs}
use Rattle.totals_spec.proofs.terms.HighestAndLowest.{bottom-high, single-sum-top, sum_top, dot-top}
use Rattle.totals_spec.proofs.chain.PassesOfRecords.{sum-limit, dot-limit}

ceil-le : (a k d : ℕ) → 0 < d → a ≤ k * d → ceil_div a d ≤ k
unfolding ceil_div
ceil-le a k d some h = le_of_suc-le-suc ((div-lt_iff_lt-mul some).1 (omega (arith, suc-mul k d, h)))

-- the limit from a bound on T
pub passes-within : (f : Format) (top k : ℕ) (ts : List Term) → digits f ≤ 64 → AllGood ts → top_of ts ≤ top → top - 702 - room ≤ k * (697 - digits f)
    → most_passes f ts ≤ 1 + k
unfolding most_passes
passes-within f top k ts p g h e = omega (arith, ceil-le (top_of ts - 702 - bottom_of ts) k (697 - digits f) (omega arith) (low ts g h))
  where
    low : (ts : List Term) → AllGood ts → top_of ts ≤ top → top_of ts - 702 - bottom_of ts ≤ k * (697 - digits f)
    low [] g h = unfold top_of in omega arith
    low (t ∷ ts) g h = omega (arith, e, h, bottom-high t ts g)

pub binary64-sum-limit : Binary64-sum-limit
unfolding binary64
binary64-sum-limit c u l h =
    le_trans (sum-limit binary64 c u l)
    (passes-within binary64 3122 3 (sum_terms binary64 c (summand_of u) l) (omega arith) (good-terms binary64 c (summand_of u) l) (top u h) (omega arith))
  where
    top : (u : ℕ) → u ≤ 1 → top_of (sum_terms binary64 c (summand_of u) l) ≤ 3122
    top zero h = single-sum-top binary64 c (summand_of 0) tt l
    top (suc zero) h = single-sum-top binary64 c (summand_of 1) tt l
    top (suc (suc u)) h = absurd (let z : ⊥ = omega arith in z)

pub binary64-square-limit : Binary64-square-limit
unfolding binary64
binary64-square-limit c u l =
    le_trans (sum-limit binary64 c u l)
    (passes-within binary64 5221 6 (sum_terms binary64 c (summand_of u) l) (omega arith) (good-terms binary64 c (summand_of u) l)
    (sum_top binary64 c (summand_of u) l) (omega arith))

pub binary64-dot-limit : Binary64-dot-limit
unfolding binary64
binary64-dot-limit c xs ys =
    le_trans (dot-limit binary64 c xs ys)
    (passes-within binary64 5221 6 (dot_terms binary64 c xs ys) (omega arith) (good-pairs binary64 c (pairs xs ys)) (dot-top binary64 c xs ys) (omega arith))
