-- What is promised of the record of a sum and of a dot: its fields fit their places, it is that of
-- the exact sum rounded once, and its side tells how the result lies beside the exact sum.
use Rattle.std.specs.Prelude.{[], ◌^◌, ◌<◌, List, ℕ, ◌-◌, ◌∷◌, T as Holds, ◌≡◌, length, true, ◌||◌}
use Rattle.std.specs.Prelude.{Bool, false, pos, map}
use Rattle.totals_spec.specs.formats.Format.{Format, digits, grid}
use Rattle.totals_spec.specs.sums.Totals.{Answer, sum_answer, dot_answer, sum_rounded, reported}
use Rattle.totals_spec.specs.sums.Totals.{on_grid, towards_negative, is_square, sum_refusal}
use Rattle.totals_spec.specs.sums.Totals.{sum_terms, dot_refusal, dot_terms, zero_sign, pairs}
use Rattle.totals_spec.specs.formats.Settings.{Settings, summand_of}
use Rattle.totals_spec.specs.formats.Decode.{Unpacked, is_number, decode, is_subnormal, zero_of}
use Rattle.totals_spec.specs.Basics.{any, flag}
use Rattle.totals_spec.specs.terms.Terms.{exact_sum, Item, is_zero, item, pair_item}
use Rattle.totals_spec.specs.chain.Chain.{chain}
use Rattle.totals_spec.specs.formats.Encode.{encode}
use Rattle.totals_spec.specs.rounding.Side.{side_of}
use Rattle.totals_spec.specs.order.Rearranged.{holds_nan}

-- the result has W bits, the flags 8, the side 2 and the passes 64
pub record FieldsFit (format : Format) (a : Answer) : Type 0 where
  pub result : a.result < 2 ^ format.W
  pub flags : a.flags < 256
  pub side : a.side < 4
  pub passes : a.passes < 2 ^ 64

-- of every call, refused ones too
abbrev pub Sum-fits : Type 0
Sum-fits = (format : Format) (settings : Settings) (u : ℕ) (values : List ℕ)
    → FieldsFit format (sum_answer format settings u values)

abbrev pub Dot-fits : Type 0
Dot-fits = (format : Format) (settings : Settings) (left right : List ℕ)
    → FieldsFit format (dot_answer format settings left right)

-- every value is finite, read in some way
abbrev pub AllFiniteBy : (ℕ → Unpacked) → List ℕ → Type 0
AllFiniteBy read [] = Unit {0}
AllFiniteBy read (b ∷ l) = Holds (is_number (read b)) × AllFiniteBy read l

abbrev pub AllFinite : Format → List ℕ → Type 0
AllFinite f l = AllFiniteBy (decode f) l

-- of finite values with a non-zero term the result and the flags are those of the exact sum rounded
-- once, the passes those of the chain
abbrev pub Sum-exact : Type 0
Sum-exact = (format : Format) (settings : Settings) (summand : ℕ) (values : List ℕ)
    → sum_refusal format settings summand values ≡ 0
    → AllFinite format values
    → 0 < length (sum_terms format settings (summand_of summand) values)
    → sum_answer format settings summand values
    ≡ reported format (any (is_subnormal format) values) (is_square (summand_of summand))
    (on_grid format (is_square (summand_of summand))
    (exact_sum (sum_terms format settings (summand_of summand) values)))
    (sum_rounded format settings (grid format (is_square (summand_of summand)))
    (towards_negative settings)
    (on_grid format (is_square (summand_of summand))
    (exact_sum (sum_terms format settings (summand_of summand) values))))
    (chain (digits format) (sum_terms format settings (summand_of summand) values))

abbrev pub Dot-exact : Type 0
Dot-exact = (format : Format) (settings : Settings) (left right : List ℕ)
    → dot_refusal format settings left right ≡ 0
    → AllFinite format left → AllFinite format right
    → 0 < length (dot_terms format settings left right)
    → dot_answer format settings left right
    ≡ reported format (any (is_subnormal format) left || any (is_subnormal format) right) true
    (on_grid format true (exact_sum (dot_terms format settings left right)))
    (sum_rounded format settings (grid format true) (towards_negative settings)
    (on_grid format true (exact_sum (dot_terms format settings left right))))
    (chain (digits format) (dot_terms format settings left right))

-- whether the zero of a list without a term is negative: by the listed zeros and the mode
abbrev pub zero_for : Settings → List Item → Bool
zero_for c l = zero_sign (any (is_zero false) l) (any (is_zero true) l) (towards_negative c)

-- a zero, of sign − where `minus` says so, and flag 128 where `sub` does; all else is 0
abbrev pub zero_answer : Format → (sub minus : Bool) → Answer
zero_answer f sub minus = record {
  result = encode f (zero_of minus);
  flags = flag 128 sub;
  passes = 0;
  last_edge = pos 0;
  refusal = 0;
  place = 0;
  side = 0;
}

-- of finite values without a term (none at all, zeros, subnormals that denormals-are-zero has made
-- zeros) the record is that of a zero
abbrev pub Sum-zeros : Type 0
Sum-zeros = (format : Format) (settings : Settings) (summand : ℕ) (values : List ℕ)
    → sum_refusal format settings summand values ≡ 0
    → AllFinite format values → length (sum_terms format settings (summand_of summand) values) ≡ 0
    → sum_answer format settings summand values
    ≡ zero_answer format (any (is_subnormal format) values)
    (zero_for settings (map (item format settings (summand_of summand)) values))

abbrev pub Dot-zeros : Type 0
Dot-zeros = (format : Format) (settings : Settings) (left right : List ℕ)
    → dot_refusal format settings left right ≡ 0
    → AllFinite format left → AllFinite format right
    → length (dot_terms format settings left right) ≡ 0
    → dot_answer format settings left right
    ≡ zero_answer format (any (is_subnormal format) left || any (is_subnormal format) right)
    (zero_for settings (map (pair_item format settings) (pairs left right)))

-- the side: how the result, decoded, lies beside the exact sum of the terms
abbrev pub Sum-side : Type 0
Sum-side = (format : Format) (settings : Settings) (summand : ℕ) (values : List ℕ)
    → sum_refusal format settings summand values ≡ 0
    → AllFinite format values
    → (sum_answer format settings summand values).side
    ≡ side_of (grid format (is_square (summand_of summand)))
    (decode format (sum_answer format settings summand values).result)
    (on_grid format (is_square (summand_of summand))
    (exact_sum (sum_terms format settings (summand_of summand) values)))

abbrev pub Dot-side : Type 0
Dot-side = (format : Format) (settings : Settings) (left right : List ℕ)
    → dot_refusal format settings left right ≡ 0 → AllFinite format left
    → AllFinite format right
    → (dot_answer format settings left right).side
    ≡ side_of (grid format true) (decode format (dot_answer format settings left right).result)
    (on_grid format true (exact_sum (dot_terms format settings left right)))

-- of every accepted list: a NaN or an infinity has no side
abbrev pub Sum-no-side : Type 0
Sum-no-side = (format : Format) (settings : Settings) (u : ℕ) (values : List ℕ)
    → sum_refusal format settings u values ≡ 0
    → is_number (decode format (sum_answer format settings u values).result) ≡ false
    → (sum_answer format settings u values).side ≡ 3

abbrev pub Dot-no-side : Type 0
Dot-no-side = (format : Format) (settings : Settings) (left right : List ℕ)
    → dot_refusal format settings left right ≡ 0
    → is_number (decode format (dot_answer format settings left right).result) ≡ false
    → (dot_answer format settings left right).side ≡ 3

-- without a NaN the square sum is the dot product of the list with itself, record for record; of
-- refused calls too. This is of kinds 0 to 3: kind 4 is refused by both
abbrev pub Square-dot : Type 0
Square-dot = (format : Format) (settings : Settings) (values : List ℕ)
    → holds_nan format values ≡ false
    → sum_answer format settings 2 values ≡ dot_answer format settings values values
