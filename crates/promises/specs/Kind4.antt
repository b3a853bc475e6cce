-- Values of ten bytes (kind 4): a total that the format holds is the exact sum itself, and how far
-- off any other total is.
use Rattle.std.specs.Prelude.{◌≡◌, ◌↔◌, Bool, true, ◌||◌, List, map, ℕ, ◌+◌, ◌*◌, ◌<◌, ◌≤◌}
use Rattle.totals_spec.specs.Basics.{Signed, raised, any, flag}
use Rattle.totals_spec.specs.formats.Format.{Format, room, grid}
use Rattle.totals_spec.specs.formats.Settings.{Settings, Summand, rounding_of, precision_of}
use Rattle.totals_spec.specs.formats.Settings.{summand_of}
use Rattle.totals_spec.specs.formats.Decode.{Unpacked}
use Rattle.totals_spec.specs.formats.Encode.{encode}
use Rattle.totals_spec.specs.formats.Ordered.{worth}
use Rattle.figures_spec.specs.ranges.Allowed.{sum_of_amounts}
use Rattle.totals_spec.specs.terms.Terms.{exact_sum}
use Rattle.totals_spec.specs.sums.Totals.{Answer, pairs, on_grid, is_square}
use Rattle.totals_spec.specs.ten_bytes.Promises.{AllNumbers}
use Rattle.totals_spec.specs.ten_bytes.Extended.{extended, spread, decode_extended}
use Rattle.totals_spec.specs.ten_bytes.Extended.{subnormal_extended}
use Rattle.totals_spec.specs.ten_bytes.Extended.{extended_operand}
use Rattle.totals_spec.specs.ten_bytes.Extended.{extended_terms, extended_sum_refusal}
use Rattle.totals_spec.specs.ten_bytes.Extended.{extended_sum_answer}
use Rattle.totals_spec.specs.ten_bytes.Extended.{extended_dot_terms, extended_dot_refusal}
use Rattle.totals_spec.specs.ten_bytes.Extended.{extended_dot_answer}
use Rattle.promises.specs.Numbers.{distance, is_nearest}
use Rattle.promises.specs.Rounding.{grid_of, Finite, Largest, Worth, Tiny, Flushed}
use Rattle.promises.specs.Statements.{unit}
use Rattle.promises.specs.Amounts.{amount_of, product_of}

-- the exact sum x, in units of which the least number is 2^g
abbrev pub exact_of : Settings → ℕ → List ℕ → Signed
exact_of c u l =
    on_grid extended (is_square (summand_of u)) (exact_sum (extended_terms c (summand_of u) l))

abbrev pub exact_dot : Settings → List ℕ → List ℕ → Signed
exact_dot c xs ys = on_grid extended true (exact_sum (extended_dot_terms c xs ys))

-- it is the sum of the amounts, in units of which the least number has 2^grid: of the values, their
-- magnitudes or their squares, or of the products
abbrev pub extended_amount : Settings → Summand → ℕ → Signed
extended_amount c u b = amount_of u (worth (extended_operand c b))

abbrev pub extended_product : Settings → ℕ × ℕ → Signed
extended_product c x = product_of (worth (extended_operand c x.0)) (worth (extended_operand c x.1))

abbrev pub Extended-sum-means : Type 0
Extended-sum-means =
    ((c : Settings) (u : ℕ) (l : List ℕ)
    → exact_of c u l ≡ raised room (sum_of_amounts (map (extended_amount c (summand_of u)) l)))
    × ((c : Settings) (xs ys : List ℕ)
    → exact_dot c xs ys ≡ raised room (sum_of_amounts (map (extended_product c) (pairs xs ys))))

-- ---- a sum that the format holds

-- the result, read again, is x to the last digit. Flag 32 says whether x is tiny, and no other
-- flag is set but 128, which says whether some element is subnormal
pub record ExtendedHeld (c : Settings) (g : ℕ) (sub : Bool) (x : Signed) (a : Answer) : Type 0 where
  pub worth : Worth extended g (decode_extended a.result) x.neg x.mag
  pub tiny : Bool
  pub is-tiny : tiny ≡ true ↔ Tiny extended c g x.neg x.mag
  pub flags : a.flags ≡ flag 128 sub + flag 32 tiny

-- of the values (u = 0), their magnitudes (1) and their squares (2)
abbrev pub Extended-sum-held : Type 0
Extended-sum-held = (f : Format) (c : Settings) (u : ℕ) (l : List ℕ)
    → extended_sum_refusal f c u l ≡ 0 → AllNumbers l
    → let g = grid extended (is_square (summand_of u)) in let x = exact_of c u l in
    0 < x.mag → Finite extended (precision_of extended c) g x.mag
    → ¬ Flushed extended c g x.neg x.mag
    → ExtendedHeld c g (any subnormal_extended l) x (extended_sum_answer f c u l)

abbrev pub Extended-dot-held : Type 0
Extended-dot-held = (f : Format) (c : Settings) (xs ys : List ℕ)
    → extended_dot_refusal f c xs ys ≡ 0 → AllNumbers xs → AllNumbers ys
    → let g = grid extended true in let x = exact_dot c xs ys in
    0 < x.mag → Finite extended (precision_of extended c) g x.mag
    → ¬ Flushed extended c g x.neg x.mag
    → ExtendedHeld c g (any subnormal_extended xs || any subnormal_extended ys) x
    (extended_dot_answer f c xs ys)

-- ---- how far off a total is

-- the result, read again, is worth y, with the sign of the exact sum x. It is less than a unit in
-- the last place away from x, and in the modes to nearest at most half of one
pub record ExtendedNear (c : Settings) (g : ℕ) (x : Signed) (a : Answer) : Type 0 where
  pub value : Unpacked
  pub y : ℕ
  pub result : a.result ≡ spread (encode extended value)
  pub back : decode_extended a.result ≡ value
  pub worth : Worth extended g value x.neg y
  pub within : distance x.mag y
      < unit (precision_of extended c) (grid_of extended (precision_of extended c) g) x.mag
  pub half : is_nearest (rounding_of c.rounding) ≡ true → 2 * distance x.mag y
      ≤ unit (precision_of extended c) (grid_of extended (precision_of extended c) g) x.mag

-- where the exact sum is not beyond the largest number, and not flushed to zero
abbrev pub Extended-sum-near : Type 0
Extended-sum-near = (f : Format) (c : Settings) (u : ℕ) (l : List ℕ) (most : ℕ)
    → extended_sum_refusal f c u l ≡ 0 → AllNumbers l
    → let g = grid extended (is_square (summand_of u)) in let x = exact_of c u l in
    0 < x.mag → Largest extended (precision_of extended c) g most → x.mag ≤ most
    → ¬ Flushed extended c g x.neg x.mag → ExtendedNear c g x (extended_sum_answer f c u l)

abbrev pub Extended-dot-near : Type 0
Extended-dot-near = (f : Format) (c : Settings) (xs ys : List ℕ) (most : ℕ)
    → extended_dot_refusal f c xs ys ≡ 0 → AllNumbers xs → AllNumbers ys
    → let g = grid extended true in let x = exact_dot c xs ys in
    0 < x.mag → Largest extended (precision_of extended c) g most → x.mag ≤ most
    → ¬ Flushed extended c g x.neg x.mag → ExtendedNear c g x (extended_dot_answer f c xs ys)
