-- The limit on the passes, written out: 1 + ⌈(T − 702 − B) / (697 − p)⌉. `-` stops at 0, so that
-- the limit is 1 where T − 702 lies below B.
use Rattle.std.specs.Prelude.{List, ℕ, ◌+◌, ◌-◌, ◌/◌}
use Rattle.totals_spec.specs.formats.Format.{Format, digits}
use Rattle.totals_spec.specs.terms.Terms.{Term, top_of}
use Rattle.totals_spec.specs.chain.Limit.{bottom_of}

-- T lies above each term, B is where the last set bit of all terms stands
abbrev pub limit_at : (digits : ℕ) → List Term → ℕ
limit_at p ts =
    let T = top_of ts in
    let B = bottom_of ts in
    1 + (T - 702 - B + (697 - p - 1)) / (697 - p)

abbrev pub limit_of : Format → List Term → ℕ
limit_of f ts = limit_at (digits f) ts
