-- THE PROMISES of ranges: the pair holds every sum of allowed amounts, and no pair that does is
-- narrower.
use mathlib.Core.Path.{◌≡◌, ap, ◌∙◌, refl, sym, subst}
use mathlib.Core.List.{List, [], map, ◌∷◌}
use Prim.Native.Nat.{ℕ, ◌+◌, ◌≤◌, ◌*◌, ◌^◌, ◌<◌}
use lib.ListN.{length, length-map, get_or, get_or-map}
use lib.Dec.{T, le→leb, ltb, eqb, eqb→eq, leb→le}
use native.Mathlib.Nat.{le_refl, mul-add, mul-zero}
use mathlib.Core.Bool.{◌&&◌, false, not, ◌||◌, Bool, true, cond}
use borrow.Author.Tests.{ltb-false, eqb-false}
use native.Mathlib.Omega.{arith}
use mathlib.Core.Logic.{◌≢◌}
use Rattle.totals_spec.specs.Basics.{Signed, plus_of, minus_of, any, total, difference}
use Rattle.totals_spec.specs.formats.Ordered.{at_most, parts, Ordered}
use Rattle.totals_spec.specs.formats.Format.{binary64}
use Rattle.totals_spec.specs.formats.Decode.{decode, Unpacked, zero_of, finite, infinity, nan}
use Rattle.totals_spec.specs.formats.Decode.{is_nan}
use Rattle.totals_spec.specs.sums.Totals.{limit}
use Rattle.totals_spec.specs.formats.Settings.{with_rounding}
use Rattle.totals_spec.proofs.formats.Valid.{and_left, and_right}
use Rattle.totals_spec.proofs.order.Order.{not-false, or_split, first-zero}
use Rattle.totals_spec.proofs.numbers.SignedNumbers.{difference-parts}
use Rattle.totals_spec.proofs.rounding.BestBounds.{Best, decode-fits}
use Rattle.totals_spec.proofs.formats.NumbersInOrder.{is-ieee}
use Rattle.totals_spec.proofs.sums.FieldsFit.{sum-fits}
use Rattle.figures_spec.specs.ranges.Ranges.{known, amount_of, triples, entry_of, entries, low_of}
use Rattle.figures_spec.specs.ranges.Ranges.{high_of, Amount, figure_worth, good_figure, between}
use Rattle.figures_spec.specs.ranges.Ranges.{missing, untold, good_amount, good_ceiling}
use Rattle.figures_spec.specs.ranges.Ranges.{range_refusal, lower_total, upper_total, range_answer}
use Rattle.figures_spec.specs.ranges.Ranges.{Range, refused_range, ranged, plus_zero}
use Rattle.figures_spec.specs.ranges.Allowed.{Inside, Allowed, AllAllowed, sum_of_amounts, Encloses}
use Rattle.figures_spec.specs.ranges.Promises.{Range-holds, Range-narrowest, Range-plain}
use Rattle.figures_spec.specs.ranges.Promises.{Range-zero, Range-fits}
use Rattle.figures_spec.specs.tables.Table.{plain_total}
use Rattle.figures_spec.proofs.ranges.Refused.{triples-length, triples-at}
use Rattle.figures_spec.proofs.ranges.SumsOfFigures.{AllFigures, amounts, format, mode-4, mode-3}
use Rattle.figures_spec.proofs.ranges.SumsOfFigures.{downward, upward, rounds, accepted}
use Rattle.figures_spec.proofs.ranges.BoundsHold.{one-part, lower-holds, upper-holds, lower-best}
use Rattle.figures_spec.proofs.ranges.BoundsHold.{upper-best}

-- ---- an entry, its low and its high stand where their three numbers do

module _ (ts xs ys : List ℕ) (e : length ts ≡ length xs) (h : length ts ≡ length ys) where
  pub entries-length : length (entries ts xs ys) ≡ length ts
  entries-length = length-map (triples ts xs ys) entry_of ∙ triples-length ts xs ys e h

  pub entry_at : (i : ℕ) → get_or (entries ts xs ys) i (known 0) ≡ amount_of (get_or ts i 0) (get_or xs i 0) (get_or ys i 0)
  entry_at i = get_or-map entry_of (triples ts xs ys) i (0, 0, 0) ∙ ap entry_of (triples-at ts xs ys e h i)

  pub low-at : (i : ℕ) → get_or (map low_of (entries ts xs ys)) i 0 ≡ low_of (amount_of (get_or ts i 0) (get_or xs i 0) (get_or ys i 0))
  low-at i = get_or-map low_of (entries ts xs ys) i (known 0) ∙ ap low_of (entry_at i)

  pub high-at : (z i : ℕ) → get_or (map (high_of z) (entries ts xs ys)) i 0 ≡ high_of z (amount_of (get_or ts i 0) (get_or xs i 0) (get_or ys i 0))
  high-at z i = get_or-map (high_of z) (entries ts xs ys) i (known 0) ∙ ap (high_of z) (entry_at i)

-- ---- the entries of an accepted call

-- an entry allows what lies between its low and its high, which are finite and in order
pub record Bounded (z : ℕ) (a : Amount) : Type 0 where
  low : T (good_figure (low_of a))
  high : T (good_figure (high_of z a))
  ordered : T (at_most (figure_worth (low_of a)) (figure_worth (high_of z a)))
  allows : (d : ℕ) (x : Signed) → Inside d (low_of a) (high_of z a) x → Allowed d z a x

inside : (d z : ℕ) (a : Amount) (x : Signed) → Allowed d z a x → Inside d (low_of a) (high_of z a) x
inside d z (known a) x h = h
inside d z (between a b) x h = h
inside d z missing x h = h
inside d z untold x h = absurd h

abbrev pub AllBounded : ℕ → List Amount → Type 0
AllBounded z [] = Unit {0}
AllBounded z (a ∷ l) = Bounded z a × AllBounded z l

at-itself : (v : Signed) → T (at_most v v)
at-itself v = le→leb _ _ (le_refl (plus_of v + minus_of v))

bounded : (z : ℕ) (a : Amount) → T (good_ceiling z) → T (good_amount a) → Bounded z a
unfolding figure_worth decode binary64
bounded z (known a) c h = record { low = h; high = h; ordered = at-itself (figure_worth a); allows = λ d x k. k }
bounded z (between a b) c h = record {
  low = and_left (good_figure a) (good_figure b) (and_left (good_figure a && good_figure b) _ h);
  high = and_right (good_figure a) (good_figure b) (and_left (good_figure a && good_figure b) _ h);
  ordered = and_right (good_figure a && good_figure b) _ h;
  allows = λ d x k. k;
}
bounded z missing c h = record { low = tt; high = and_left (good_figure z) _ c; ordered = and_right (good_figure z) _ c; allows = λ d x k. k }
bounded z untold c h = absurd h

all-bounded : (z : ℕ) (l : List Amount) → T (good_ceiling z) → any (λ a. not (good_amount a)) l ≡ false → AllBounded z l
all-bounded z [] c e = tt
all-bounded z (a ∷ l) c e =
    let h = or_split (not (good_amount a)) _ e in
    (bounded z a c (not-false (good_amount a) h.0), all-bounded z l c h.1)

pub lows : (z : ℕ) (l : List Amount) → AllBounded z l → AllFigures (map low_of l)
lows z [] h = tt
lows z (a ∷ l) h = (h.0.low, lows z l h.1)

pub highs : (z : ℕ) (l : List Amount) → AllBounded z l → AllFigures (map (high_of z) l)
highs z [] h = tt
highs z (a ∷ l) h = (h.0.high, highs z l h.1)

pub record Accepts (ts xs ys : List ℕ) (z : ℕ) : Type 0 where
  pub firsts : length ts ≡ length xs
  pub seconds : length ts ≡ length ys
  pub few : length (entries ts xs ys) ≤ limit
  pub each : AllBounded z (entries ts xs ys)

pub accepts : (ts xs ys : List ℕ) (z : ℕ) → range_refusal ts xs ys z ≡ 0 → Accepts ts xs ys z
unfolding range_refusal
accepts ts xs ys z e =
    let t = eqb (length ts) (length xs) in
    let u = eqb (length ts) (length ys) in
    let a = first-zero (not t || not u) 4 _ e in
    let l = or_split (not t) (not u) a.0 in
    let b = first-zero (ltb limit (length ts)) 5 _ a.1 in
    let h = or_split (not (good_ceiling z)) _ (first-zero _ 10 _ b.1).0 in
    let i = eqb→eq (length ts) (length xs) (not-false t l.0) in
    let j = eqb→eq (length ts) (length ys) (not-false u l.1) in
    record {
      firsts = i;
      seconds = j;
      few = rw (entries-length ts xs ys i j) (ltb-false limit (length ts) b.0);
      each = all-bounded z (entries ts xs ys) (not-false (good_ceiling z) h.0) h.1;
    }

-- ---- sums of allowed amounts lie between the sums of the lows and of the highs

module _ (d z : ℕ) where
  plus-parts : (v : Signed) → plus_of (parts d v) ≡ d * plus_of v
  plus-parts v = go v.neg
    where
      go : (s : Bool) → cond s 0 (d * v.mag) ≡ d * cond s 0 v.mag
      go true = sym (mul-zero d)
      go false = refl

  minus-parts : (v : Signed) → minus_of (parts d v) ≡ d * minus_of v
  minus-parts v = go v.neg
    where
      go : (s : Bool) → cond s (d * v.mag) 0 ≡ d * cond s v.mag 0
      go true = refl
      go false = sym (mul-zero d)

  low_sums : (l : List Amount) (xs : List Signed) → AllAllowed d z l xs
      → d * total plus_of (amounts (map low_of l)) + total minus_of xs ≤ total plus_of xs + d * total minus_of (amounts (map low_of l))
  low_sums [] [] h = omega (arith, mul-zero d)
  low_sums (a ∷ l) (x ∷ xs) h =
      let v = figure_worth (low_of a) in
      omega (
        arith,
        low_sums l xs h.1,
        leb→le (plus_of (parts d v) + minus_of x) (plus_of x + minus_of (parts d v)) (inside d z a x h.0).0,
        plus-parts v,
        minus-parts v,
        mul-add d (plus_of v) (total plus_of (amounts (map low_of l))),
        mul-add d (minus_of v) (total minus_of (amounts (map low_of l))),
      )
  low_sums [] (x ∷ xs) h = absurd h
  low_sums (a ∷ l) [] h = absurd h

  high_sums : (l : List Amount) (xs : List Signed) → AllAllowed d z l xs
      → total plus_of xs + d * total minus_of (amounts (map (high_of z) l)) ≤ d * total plus_of (amounts (map (high_of z) l)) + total minus_of xs
  high_sums [] [] h = omega (arith, mul-zero d)
  high_sums (a ∷ l) (x ∷ xs) h =
      let v = figure_worth (high_of z a) in
      omega (
        arith,
        high_sums l xs h.1,
        leb→le (plus_of x + minus_of (parts d v)) (plus_of (parts d v) + minus_of x) (inside d z a x h.0).1,
        plus-parts v,
        minus-parts v,
        mul-add d (plus_of v) (total plus_of (amounts (map (high_of z) l))),
        mul-add d (minus_of v) (total minus_of (amounts (map (high_of z) l))),
      )
  high_sums [] (x ∷ xs) h = absurd h
  high_sums (a ∷ l) [] h = absurd h

-- d times the parts of a difference differ as d times its two numbers do
scaled-parts : (d plus minus : ℕ) → d * plus_of (difference plus minus) + d * minus ≡ d * minus_of (difference plus minus) + d * plus
scaled-parts d plus minus =
    let x = difference plus minus in
    sym (mul-add d (plus_of x) minus) ∙ ap (λ (n : ℕ). d * n) (difference-parts plus minus) ∙ mul-add d (minus_of x) plus

-- ---- the lows are amounts that the entries allow, and so are the highs

within : (u v x : Signed) → T (at_most u x) → T (at_most x v) → T (at_most (parts 1 u) x) × T (at_most x (parts 1 v))
within u v x h k = (subst (λ (y : Signed). T (at_most y x)) (sym (one-part u)) h, subst (λ (y : Signed). T (at_most x y)) (sym (one-part v)) k)

lows-allowed : (z : ℕ) (l : List Amount) → AllBounded z l → AllAllowed 1 z l (amounts (map low_of l))
lows-allowed z [] h = tt
lows-allowed z (a ∷ l) h =
    let u = figure_worth (low_of a) in
    (h.0.allows 1 u (within u (figure_worth (high_of z a)) u (at-itself u) h.0.ordered), lows-allowed z l h.1)

highs-allowed : (z : ℕ) (l : List Amount) → AllBounded z l → AllAllowed 1 z l (amounts (map (high_of z) l))
highs-allowed z [] h = tt
highs-allowed z (a ∷ l) h =
    let v = figure_worth (high_of z a) in
    (h.0.allows 1 v (within (figure_worth (low_of a)) v v h.0.ordered (at-itself v)), highs-allowed z l h.1)

-- ---- the two totals are best bounds, and no NaN bounds anything

best-number : (s up : Bool) (x : ℕ) (v : Unpacked) → Best binary64 s x up v → is_nan v ≡ false
best-number s up x (zero_of t) h = refl
best-number s up x (finite t k m) h = refl
best-number s up x (infinity t) h = refl
best-number s up x (nan t g m) h = absurd h

module _ (z : ℕ) (l : List Amount) (few : length l ≤ limit) (each : AllBounded z l) where
  lower-is : (let x = sum_of_amounts (amounts (map low_of l)) in Best binary64 x.neg x.mag x.neg (decode binary64 (lower_total l)))
  unfolding lower_total
  lower-is = rounds 4 mode-4 (map low_of l) (lows z l each) (rw (length-map l low_of) few) (λ s. s) downward

  upper_is : (let x = sum_of_amounts (amounts (map (high_of z) l)) in Best binary64 x.neg x.mag (not x.neg) (decode binary64 (upper_total z l)))
  unfolding upper_total
  upper_is = rounds 3 mode-3 (map (high_of z) l) (highs z l each) (rw (length-map l (high_of z)) few) not upward

  pub numbers : (is_nan (decode binary64 (lower_total l)) ≡ false) × (is_nan (decode binary64 (upper_total z l)) ≡ false)
  numbers =
      let low = sum_of_amounts (amounts (map low_of l)) in
      let high = sum_of_amounts (amounts (map (high_of z) l)) in (
        best-number low.neg low.neg low.mag (decode binary64 (lower_total l)) lower-is,
        best-number high.neg (not high.neg) high.mag (decode binary64 (upper_total z l)) upper_is,
      )

  -- so every sum of allowed amounts lies between them
  holds : Encloses z l (lower_total l) (upper_total z l)
  holds d xs some a =
      let low = sum_of_amounts (amounts (map low_of l)) in
      let high = sum_of_amounts (amounts (map (high_of z) l)) in
      let sum = difference-parts (total plus_of xs) (total minus_of xs) in (
        lower-holds binary64 low.mag low.neg (decode binary64 (lower_total l)) lower-is d (sum_of_amounts xs)
            (omega (arith, low_sums d z l xs a, sum, scaled-parts d (total plus_of (amounts (map low_of l))) (total minus_of (amounts (map low_of l))))),
        upper-holds binary64 high.mag high.neg (decode binary64 (upper_total z l)) upper_is d (sum_of_amounts xs)
            (omega (
              arith,
              high_sums d z l xs a,
              sum,
              scaled-parts d (total plus_of (amounts (map (high_of z) l))) (total minus_of (amounts (map (high_of z) l))),
            )),
      )

  -- and what encloses every such sum encloses that of the lows and that of the highs, which are
  -- allowed themselves
  narrowest : (low high : ℕ) → Encloses z l low high
      → Ordered (decode binary64 low) (decode binary64 (lower_total l)) × Ordered (decode binary64 (upper_total z l)) (decode binary64 high)
  narrowest low high k = (
    lower-best binary64 _ _ (decode binary64 (lower_total l)) lower-is (decode binary64 low) (decode-fits binary64 format is-ieee low)
        (k 1 (amounts (map low_of l)) (omega arith) (lows-allowed z l each)).0,
    upper-best binary64 _ _ (decode binary64 (upper_total z l)) upper_is (decode binary64 high) (decode-fits binary64 format is-ieee high)
        (k 1 (amounts (map (high_of z) l)) (omega arith) (highs-allowed z l each)).1,
  )

-- ---- THE PROMISES

pub range-holds : Range-holds
unfolding range_answer
range-holds ts xs ys z r = let h = accepts ts xs ys z r in rw r (holds z (entries ts xs ys) h.few h.each)

pub range-narrowest : Range-narrowest
unfolding range_answer
range-narrowest ts xs ys z low high r k = let h = accepts ts xs ys z r in rw r (narrowest z (entries ts xs ys) h.few h.each low high k)

pub range-plain : Range-plain
unfolding range_answer lower_total upper_total
range-plain ts xs ys z r =
    let h = accepts ts xs ys z r in
    let l = entries ts xs ys in
    rw r (
      accepted 4 mode-4 (map low_of l) (lows z l h.each) (rw (length-map l low_of) h.few),
      accepted 3 mode-3 (map (high_of z) l) (highs z l h.each) (rw (length-map l (high_of z)) h.few),
      refl,
      refl,
    )

-- ---- the words of the pair, of every call

-- a record by its number: 0 where it is refused
module _ (P : ℕ → Type 0) (none : P 0) where
  ranged-has : (n lower upper : ℕ) → (n ≡ 0 → P lower × P upper) → let r = ranged n lower upper in P r.lower × P r.upper
  ranged-has n lower upper h = go (eqb n 0) (eqb→eq n 0)
    where
      go : (t : Bool) → (T t → n ≡ 0)
          → let r = cond {A = Range} t (record { lower = lower; upper = upper; refusal = 0; place = 0 }) (refused_range n) in P r.lower × P r.upper
      go true e = h (e tt)
      go false e = (none, none)

  range-has : (ts xs ys : List ℕ) (z : ℕ)
      → (range_refusal ts xs ys z ≡ 0 → P (lower_total (entries ts xs ys)) × P (upper_total z (entries ts xs ys)))
      → let r = range_answer ts xs ys z in P r.lower × P r.upper
  unfolding range_answer
  range-has ts xs ys z h = ranged-has (range_refusal ts xs ys z) (lower_total (entries ts xs ys)) (upper_total z (entries ts xs ys)) h

plus-zero-has : (P : ℕ → Type 0) → P 0 → (b : ℕ) → (b ≢ 2 ^ 63 → P b) → P (plus_zero b)
plus-zero-has P none b h = go (eqb b (2 ^ 63)) refl
  where
    go : (t : Bool) → eqb b (2 ^ 63) ≡ t → P (cond t 0 b)
    go true e = none
    go false e = h (eqb-false b (2 ^ 63) e)

pub range-zero : Range-zero
unfolding lower_total upper_total
range-zero ts xs ys z = range-has (λ b. b ≢ 2 ^ 63) none ts xs ys z (λ r. (plus (plain_total _ _ _), plus (plain_total _ _ _)))
  where
    none : 0 ≢ 2 ^ 63
    none e = omega (arith, e)

    plus : (b : ℕ) → plus_zero b ≢ 2 ^ 63
    plus b = plus-zero-has (λ b. b ≢ 2 ^ 63) none b (λ h. h)

total-fits : (m : ℕ) (l : List ℕ) → plus_zero (plain_total binary64 (with_rounding m) l) < 2 ^ 64
unfolding binary64
total-fits m l = plus-zero-has (λ b. b < 2 ^ 64) (omega arith) _ (λ h. (sum-fits binary64 (with_rounding m) 0 l).result)

pub range-fits : Range-fits
unfolding lower_total upper_total
range-fits ts xs ys z = (fit.0, fit.1, told.0, told.1)
  where
    fit : let r = range_answer ts xs ys z in (r.lower < 2 ^ 64) × (r.upper < 2 ^ 64)
    fit = range-has (λ b. b < 2 ^ 64) (omega arith) ts xs ys z (λ r. (total-fits 4 _, total-fits 3 _))

    told : let r = range_answer ts xs ys z in (is_nan (decode binary64 r.lower) ≡ false) × (is_nan (decode binary64 r.upper) ≡ false)
    told =
        range-has (λ b. is_nan (decode binary64 b) ≡ false) (unfold decode binary64 in refl) ts xs ys z
        (λ r. let h = accepts ts xs ys z r in numbers z (entries ts xs ys) h.few h.each)
