-- A larger exact sum never has a smaller total: of every format, mode, precision and setting, flush
-- to zero and denormals-are-zero too, wherever neither total is a NaN. No total of finite values is
-- one in a kind with infinities or without NaNs; in the others it is one where it overflows in a
-- mode that carries the overflow on, and saturate is not set.
use Rattle.std.specs.Prelude.{◌≡◌, ◌⊎◌, Bool, true, false, List, [], ◌∷◌, map, ℕ, ◌<◌, T as Holds}
use Rattle.totals_spec.specs.Basics.{Signed, minus_of}
use Rattle.totals_spec.specs.formats.Bounds.{RangeBounds, SettingsBounds}
use Rattle.totals_spec.specs.formats.Format.{Format, no_inf, fnuz, kind_of}
use Rattle.totals_spec.specs.formats.Settings.{Settings, rounding_of, precision_of, summand_of}
use Rattle.totals_spec.specs.formats.Decode.{Unpacked, decode, is_nan}
use Rattle.totals_spec.specs.formats.Ordered.{worth, at_most}
use Rattle.figures_spec.specs.ranges.Allowed.{sum_of_amounts}
use Rattle.totals_spec.specs.formats.Ordered.{Ordered}
use Rattle.totals_spec.specs.sums.Promises.{AllFinite}
use Rattle.totals_spec.specs.sums.Totals.{pairs, sum_refusal, sum_answer, dot_refusal, dot_answer}
use Rattle.promises.specs.Numbers.{RoundsTo}
use Rattle.promises.specs.Rounding.{grid_of, Largest, Carried, Once}
use Rattle.promises.specs.Amounts.{amount, product, AllAtMost}

-- ---- of roundings

abbrev pub Once-rises : Type 0
Once-rises = (f : Format) (c : Settings) (g : ℕ) (x y : Signed) (v w : Unpacked) (n k : ℕ)
    → RangeBounds f → SettingsBounds f c → Holds (at_most x y)
    → Once f c g x.neg x.mag v n → Once f c g y.neg y.mag w k
    → is_nan v ≡ false → is_nan w ≡ false → Ordered v w

-- a NaN comes of an overflow alone, in the kinds that have NaNs and no infinity
pub record CarriedToNaN (f : Format) (c : Settings) (g : ℕ) (s : Bool) (x : ℕ) : Type 0 where
  pub kind : (kind_of f.kind ≡ no_inf) ⊎ (kind_of f.kind ≡ fnuz)
  pub carried : Carried c s
  pub y : ℕ
  pub most : ℕ
  pub rounds : RoundsTo (rounding_of c.rounding) (precision_of f c)
      (grid_of f (precision_of f c) g) s x y
  pub largest : Largest f (precision_of f c) g most
  pub over : most < y

abbrev pub Once-nan : Type 0
Once-nan = (f : Format) (c : Settings) (g : ℕ) (s : Bool) (x : ℕ) (v : Unpacked) (n : ℕ)
    → Once f c g s x v n → is_nan v ≡ true → CarriedToNaN f c g s x

-- ---- of totals: the values, their magnitudes or their squares

abbrev pub sum_amount : Format → Settings → ℕ → List ℕ → Signed
sum_amount f c u l = sum_of_amounts (map (amount f c (summand_of u)) l)

abbrev pub Sum-rises : Type 0
Sum-rises = (f : Format) (c : Settings) (u : ℕ) (l k : List ℕ)
    → sum_refusal f c u l ≡ 0 → AllFinite f l → sum_refusal f c u k ≡ 0 → AllFinite f k
    → Holds (at_most (sum_amount f c u l) (sum_amount f c u k))
    → let a = decode f (sum_answer f c u l).result in let b = decode f
    (sum_answer f c u k).result in
    is_nan a ≡ false → is_nan b ≡ false → Ordered a b

-- and dots
abbrev pub dot_amount : Format → Settings → List ℕ → List ℕ → Signed
dot_amount f c xs ys = sum_of_amounts (map (product f c) (pairs xs ys))

abbrev pub Dot-rises : Type 0
Dot-rises = (f : Format) (c : Settings) (xs ys xs' ys' : List ℕ)
    → dot_refusal f c xs ys ≡ 0 → AllFinite f xs → AllFinite f ys
    → dot_refusal f c xs' ys' ≡ 0 → AllFinite f xs' → AllFinite f ys'
    → Holds (at_most (dot_amount f c xs ys) (dot_amount f c xs' ys'))
    → let a = decode f (dot_answer f c xs ys).result in let b = decode f
    (dot_answer f c xs' ys').result in
    is_nan a ≡ false → is_nan b ≡ false → Ordered a b

-- in a kind with infinities (0), and in one without NaNs (3), no total of finite values is a NaN
abbrev pub Sum-number : Type 0
Sum-number = (f : Format) (c : Settings) (u : ℕ) (l : List ℕ) → (f.kind ≡ 0) ⊎ (f.kind ≡ 3)
    → sum_refusal f c u l ≡ 0 → AllFinite f l
    → is_nan (decode f (sum_answer f c u l).result) ≡ false

abbrev pub Dot-number : Type 0
Dot-number = (f : Format) (c : Settings) (xs ys : List ℕ) → (f.kind ≡ 0) ⊎ (f.kind ≡ 3)
    → dot_refusal f c xs ys ≡ 0 → AllFinite f xs → AllFinite f ys
    → is_nan (decode f (dot_answer f c xs ys).result) ≡ false

-- ---- one by one: each amount of the one list is at most that of the other

abbrev pub AllRise : List Signed → List Signed → Type 0
AllRise [] [] = Unit {0}
AllRise [] (y ∷ ys) = ⊥
AllRise (x ∷ xs) [] = ⊥
AllRise (x ∷ xs) (y ∷ ys) = Holds (at_most x y) × AllRise xs ys

abbrev pub Amounts-rise : Type 0
Amounts-rise = (xs ys : List Signed) → AllRise xs ys
    → Holds (at_most (sum_of_amounts xs) (sum_of_amounts ys))

-- raising values, one or several, never lowers their total, whichever subnormals are taken as zeros
abbrev pub Values-rise : Type 0
Values-rise = (f : Format) (c : Settings) (l k : List ℕ)
    → sum_refusal f c 0 l ≡ 0 → AllFinite f l → sum_refusal f c 0 k ≡ 0 → AllFinite f k
    → AllAtMost f l k
    → let a = decode f (sum_answer f c 0 l).result in let b = decode f
    (sum_answer f c 0 k).result in
    is_nan a ≡ false → is_nan b ≡ false → Ordered a b

-- raising factors whose partners are not negative never lowers a dot
abbrev pub NoneNegative : Format → List ℕ → Type 0
NoneNegative f [] = Unit {0}
NoneNegative f (y ∷ ys) = (minus_of (worth (decode f y)) ≡ 0) × NoneNegative f ys

abbrev pub Factors-rise : Type 0
Factors-rise = (f : Format) (c : Settings) (xs xs' ys : List ℕ)
    → dot_refusal f c xs ys ≡ 0 → AllFinite f xs → AllFinite f ys → dot_refusal f c xs' ys ≡ 0
    → AllFinite f xs'
    → AllAtMost f xs xs' → NoneNegative f ys
    → let a = decode f (dot_answer f c xs ys).result in let b = decode f
    (dot_answer f c xs' ys).result in
    is_nan a ≡ false → is_nan b ≡ false → Ordered a b
