-- The code's terms and items as those of totals_spec.
use Rattle.std.specs.Prelude.{◌≡◌, ℕ, ◌*◌, ◌^◌, ◌<◌}
use Rattle.totals_spec.specs.formats.Decode as dec
use Rattle.totals_spec.specs.terms.Terms as terms
use Rattle.binary.specs.declared.term.Term.{Term}
use Rattle.binary.specs.declared.term.Item.{Item}
use Rattle.binary.specs.declared.term.Item.TheVariants as item

unfoldable pub magnitude : Term → ℕ
magnitude t = t.significand * 2 ^ t.shift

-- the code's term of an item: a term is above 0, and what is no term has magnitude 0 and no shift
abbrev pub StandsFor : Term → terms.Item → Type 0
StandsFor t (terms.term s) = (magnitude t ≡ s.mag) × (t.negative ≡ s.neg) × (t.shift < 1073741824) × (0 < s.mag)
StandsFor t terms.nan_item = (magnitude t ≡ 0) × (t.shift ≡ 0)
StandsFor t terms.invalid_item = (magnitude t ≡ 0) × (t.shift ≡ 0)
StandsFor t (terms.infinite s) = (magnitude t ≡ 0) × (t.shift ≡ 0)
StandsFor t (terms.zero_item s) = (magnitude t ≡ 0) × (t.shift ≡ 0)

-- a decoded value of a format with at most 28 exponent bits
abbrev pub Bounded : dec.Unpacked → Type 0
Bounded (dec.zero_of s) = Unit
Bounded (dec.finite s k m) = (k < 268435456) × (0 < m)
Bounded (dec.infinity s) = Unit
Bounded (dec.nan s g m) = Unit

-- the code's item keeps of a term its position alone
abbrev pub item_of : terms.Item → Item
item_of terms.nan_item = item.Nan
item_of terms.invalid_item = item.Invalid
item_of (terms.infinite s) = item.Infinite s
item_of (terms.zero_item s) = item.Zero s
item_of (terms.term t) = item.Top t.top
