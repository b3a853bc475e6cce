-- The pence of a list as a program can find them: by a chain of passes over the terms of the list,
-- each taken a hundred times. At 64 digits a chain tells on which side of each half penny a sum
-- lies, up to the largest figure; so what it ends with has the figure of the exact sum
-- (`Promises`).
use Rattle.std.specs.Prelude.{ℕ, List, map, suc, ◌+◌, ◌*◌, ◌/◌, ◌^◌, false}
use Rattle.totals_spec.specs.formats.Decode.{Unpacked, zero_of, finite, infinity, nan, operand}
use Rattle.totals_spec.specs.terms.Terms.{product, Item, nan_item, infinite, zero_item, term, Term}
use Rattle.totals_spec.specs.terms.Terms.{terms}
use Rattle.totals_spec.specs.formats.Format.{Format, origin, fall}
use Rattle.totals_spec.specs.formats.Settings.{Settings, no_settings}
use Rattle.totals_spec.specs.Basics.{Signed}
use Rattle.totals_spec.specs.pence.Pence.{Pence, in_range}
use Rattle.totals_spec.specs.chain.Chain.{chain}
use Rattle.totals_spec.specs.chain.Settled.{settled}

-- a number m × 2^k is taken as its product with 100 × 2^0
abbrev pub hundred_of : Unpacked → Item
hundred_of (zero_of s) = zero_item s
hundred_of (finite s k m) = term (product s k m 0 100)
hundred_of (infinity s) = infinite s
hundred_of (nan s g m) = nan_item

unfoldable pub hundred_item : Format → Settings → ℕ → Item
hundred_item f c b = hundred_of (operand f c b)

abbrev pub hundred_terms : Format → Settings → List ℕ → List Term
hundred_terms f c l = terms (map (hundred_item f c) l)

-- x × 2^k / 2^d to the nearest whole number, a half upwards
unfoldable pub nearest_whole : ℕ → ℕ → ℕ → ℕ
nearest_whole d k x = (2 * (x * 2 ^ k) + 2 ^ d) / 2 ^ suc d

-- the record of a sum of such terms, which is in pence already
unfoldable pub whole_figure : Format → Signed → Pence
whole_figure f x = in_range x.neg (nearest_whole (origin f false) (fall f false) x.mag)

abbrev pub chain_pence : Format → List ℕ → Pence
chain_pence f l = whole_figure f (settled (chain 64 (hundred_terms f no_settings l)).outcome)
