-- The pence of a list are the whole number of pence nearest to a hundred times its exact sum.
use mathlib.Core.Path.{◌≡◌, refl, sym, ap, ap₂, ◌∙◌, subst}
use mathlib.Core.Logic.{◌≢◌}
use mathlib.Core.Bool.{Bool, true, false, not, ◌&&◌, ◌||◌}
use mathlib.Core.List.{List, [], ◌∷◌}
use Prim.Native.Nat.{ℕ, suc, ◌+◌, ◌-◌, ◌*◌, ◌^◌, ◌≤◌, ◌<◌}
use native.Mathlib.Nat.{add-mul, mul-add, mul_assoc, mul_comm, mul-le-mul_right, le_antisymm, le_of_mul-le-mul_right, lt_of_mul-lt-mul_right}
use native.Mathlib.Nat.{div-mul-le_self, lt-div-mul-add, two-pow-succ}
use native.Mathlib.Omega.{arith}
use lib.Dec.{T, ltb, eqb, leb}
use lib.Pow.{pow-add, pow_pos}
use lib.ListN.{length}
use borrow.Author.Tests.{eqb-true, eqb-false, ltb-true, ltb-false, lt-ltb, le-ltb}
use Rattle.totals_spec.specs.Basics.{Signed, raised, any}
use Rattle.totals_spec.specs.formats.Format.{Format, valid_format, depth, lift, origin, fall, room}
use Rattle.totals_spec.specs.formats.Format.{rise}
use Rattle.totals_spec.specs.formats.Settings.{no_settings, valid_settings, value}
use Rattle.totals_spec.specs.formats.Decode.{decode, operand, is_number}
use Rattle.totals_spec.specs.terms.Terms.{exact_sum}
use Rattle.totals_spec.specs.sums.Totals.{sum_refusal, sum_terms, stray, limit}
use Rattle.totals_spec.specs.pence.Pence.{in_range, pence_of, not_number, sum_figure, sum_pence}
use Rattle.totals_spec.specs.sums.Promises.{AllFinite}
use Rattle.totals_spec.proofs.order.Order.{first-zero}
use Rattle.totals_spec.proofs.numbers.SignedNumbers.{raised-none}
use Rattle.promises.specs.Numbers.{Number, distance}
use Rattle.promises.specs.Figures.{NearestPence, Pence-one, Pence-round, list_sum, Pence-nearest}
use Rattle.promises.proofs.roundings.SumsOfAmounts.{exact-sum-means}

pub pence-one : Pence-one
pence-one penny x m n a b = go (eqb m n) refl
  where
    go : (t : Bool) → eqb m n ≡ t → m ≡ n
    go true e = eqb-true m n e
    go false e =
        let d : m ≢ n = eqb-false m n e in
        let same : distance x (n * penny) ≡ distance x (m * penny) = le_antisymm (b.nearest m) (a.nearest n) in
        let p : n < m = a.tie n (λ z. d (sym z)) same in
        let q : m < n = b.tie m d (sym same) in
        absurd (let z : ⊥ = omega (arith, p, q) in z)

-- a number on a grid of pennies is a whole number of them
pub pence-round : Pence-round
pence-round q grid x n s h a = record {
  number = record { significand = n; exponent = grid; short = h; above = omega arith; is = refl };
  nearest = λ z k. subst (λ (i : ℕ). distance x (n * 2 ^ grid) ≤ distance x i) (sym (pennies z k)) (a.nearest (count z k));
  tie = λ z k d e.
      let i : n * 2 ^ grid ≢ count z k * 2 ^ grid = λ j. d (pennies z k ∙ sym j) in
      let c : count z k ≢ n = λ j. i (ap (λ (y : ℕ). y * 2 ^ grid) (sym j)) in
      let w : count z k < n = a.tie (count z k) c (ap (λ (y : ℕ). distance x y) (sym (pennies z k)) ∙ e) in
      subst (λ (y : ℕ). y < n * 2 ^ grid) (sym (pennies z k)) (times (count z k) n (2 ^ grid) (pow_pos grid) w);
}
  where
    count : (z : ℕ) → Number q grid z → ℕ
    count z k = k.significand * 2 ^ (k.exponent - grid)

    pennies : (z : ℕ) (k : Number q grid z) → z ≡ count z k * 2 ^ grid
    pennies z k =
        k.is
        ∙ ap (λ (e : ℕ). k.significand * 2 ^ e) (let w : k.exponent ≡ k.exponent - grid + grid = omega (arith, k.above) in w)
        ∙ ap (λ (y : ℕ). k.significand * y) (pow-add 2 (k.exponent - grid) grid)
        ∙ sym (mul_assoc k.significand (2 ^ (k.exponent - grid)) (2 ^ grid))

    times : (a b p : ℕ) → 0 < p → a < b → a * p < b * p
    times a b p hp l =
        let w : (a + 1) * p ≤ b * p = mul-le-mul_right p (let v : a + 1 ≤ b = omega (arith, l) in v) in
        let e : (a + 1) * p ≡ a * p + 1 * p = add-mul a 1 p in
        omega (arith, w, e, hp)

-- ---- (2x + d) / 2d pennies of d are the nearest to x

module _ (x d n : ℕ) (d0 : 0 < d) (low : n * d + n * d ≤ x + x + d) (high : x + x < n * d + n * d + d) where
  fewer : (m : ℕ) → m < n → m * d + d ≤ n * d
  fewer m l =
      let w : (m + 1) * d ≤ n * d = mul-le-mul_right d (let v : m + 1 ≤ n = omega (arith, l) in v) in
      let e : (m + 1) * d ≡ m * d + 1 * d = add-mul m 1 d in
      omega (arith, w, e)

  more : (m : ℕ) → n < m → n * d + d ≤ m * d
  more m l =
      let w : (n + 1) * d ≤ m * d = mul-le-mul_right d (let v : n + 1 ≤ m = omega (arith, l) in v) in
      let e : (n + 1) * d ≡ n * d + 1 * d = add-mul n 1 d in
      omega (arith, w, e)

  near-pence : NearestPence d x n
  near-pence = record { nearest = λ m. near m (ltb m n) refl (eqb m n) refl; tie = λ m e h. tied m e h (ltb m n) refl }
    where
      above : (a b : ℕ) → ltb a b ≡ false → a ≢ b → b < a
      above a b e h = omega (arith, ltb-false a b e, h)

      near : (m : ℕ) (t : Bool) → ltb m n ≡ t → (i : Bool) → eqb m n ≡ i → distance x (n * d) ≤ distance x (m * d)
      near m true t i e = let w = fewer m (ltb-true m n t) in omega (arith, low, high, w)
      near m false t true e = subst (λ (k : ℕ). distance x (n * d) ≤ distance x (k * d)) (sym (eqb-true m n e)) (omega arith)
      near m false t false e = let w = more m (above m n t (eqb-false m n e)) in omega (arith, low, high, w)

      tied : (m : ℕ) → m ≢ n → distance x (m * d) ≡ distance x (n * d) → (t : Bool) → ltb m n ≡ t → m < n
      tied m e h true t = ltb-true m n t
      tied m e h false t = let w = more m (above m n t e) in absurd (let z : ⊥ = omega (arith, low, high, w, h) in z)

-- counted in a finer unit, and by its quotient
module _ (x d s a b n : ℕ) (d0 : 0 < d) (s0 : 0 < s) (ea : a ≡ (x + x + d) * s) (eb : b ≡ (d + d) * s) (low : n * b ≤ a)
    (high : a < n * b + b) where
  expanded : n * b ≡ (n * d + n * d) * s
  expanded = ap (λ (k : ℕ). n * k) eb ∙ sym (mul_assoc n (d + d) s) ∙ ap (λ (k : ℕ). k * s) (mul-add n d d)

  finer-pence : NearestPence d x n
  finer-pence = near-pence x d n d0 below beyond
    where
      below : n * d + n * d ≤ x + x + d
      below = le_of_mul-le-mul_right (let w : (n * d + n * d) * s ≤ (x + x + d) * s = omega (arith, low, expanded, ea) in w) s0

      wide : (x + x + d) * s < (n * d + n * d + (d + d)) * s
      wide = omega (arith, high, expanded, ea, eb, add-mul (n * d + n * d) (d + d) s)

      beyond : x + x < n * d + n * d + d
      beyond = let w : x + x + d < n * d + n * d + (d + d) = lt_of_mul-lt-mul_right s wide in omega (arith, w)

twofold : (z s l : ℕ) → 200 * (z * s) * l ≡ (100 * z * l + 100 * z * l) * s
twofold z s l =
    mul_assoc 200 (z * s) l ∙ ap (λ (k : ℕ). 200 * k) turned
    ∙ sym (mul_assoc 200 (z * l) s) ∙ ap (λ (k : ℕ). k * s) both
  where
    turned : z * s * l ≡ z * l * s
    turned = mul_assoc z s l ∙ ap (λ (k : ℕ). z * k) (mul_comm s l) ∙ sym (mul_assoc z l s)

    both : 200 * (z * l) ≡ 100 * z * l + 100 * z * l
    both = let e : 100 * z * l ≡ 100 * (z * l) = mul_assoc 100 z l in omega (arith, e)

-- 100 × z × 2^l, in 2^d-ths of a penny, of a sum of z × 2^r units
penny-of : (r d l z : ℕ) → NearestPence (2 ^ d) (100 * z * 2 ^ l) (pence_of (r + d) l (z * 2 ^ r))
unfolding pence_of
penny-of r d l z =
    finer-pence (100 * z * 2 ^ l) (2 ^ d) (2 ^ r) (200 * (z * 2 ^ r) * 2 ^ l + 2 ^ (r + d)) (2 ^ suc (r + d)) _ (pow_pos d) (pow_pos r)
    above double (div-mul-le_self _ (2 ^ suc (r + d))) (lt-div-mul-add (pow_pos (suc (r + d))))
  where
    apart : 2 ^ (r + d) ≡ 2 ^ d * 2 ^ r
    apart = pow-add 2 r d ∙ mul_comm (2 ^ r) (2 ^ d)

    above : 200 * (z * 2 ^ r) * 2 ^ l + 2 ^ (r + d) ≡ (100 * z * 2 ^ l + 100 * z * 2 ^ l + 2 ^ d) * 2 ^ r
    above = ap₂ ◌+◌ (twofold z (2 ^ r) (2 ^ l)) apart ∙ sym (add-mul (100 * z * 2 ^ l + 100 * z * 2 ^ l) (2 ^ d) (2 ^ r))

    double : 2 ^ suc (r + d) ≡ (2 ^ d + 2 ^ d) * 2 ^ r
    double = two-pow-succ (r + d) ∙ ap₂ ◌+◌ apart apart ∙ sym (add-mul (2 ^ d) (2 ^ d) (2 ^ r))

-- ---- a list

module _ (f : Format) (l : List ℕ) where
  exact-is : exact_sum (sum_terms f no_settings value l) ≡ raised room (list_sum f l)
  unfolding rise operand
  exact-is = sym (raised-none _) ∙ exact-sum-means.0 f no_settings l

  no-others : (k : List ℕ) → AllFinite f k → any (not_number f) k ≡ false
  no-others [] h = refl
  no-others (b ∷ k) h = ap₂ ◌||◌ (number (is_number (decode f b)) h.0) (no-others k h.1)
    where
      number : (t : Bool) → T t → not t ≡ false
      number true h = refl
      number false h = absurd h

  figured : sum_refusal f no_settings 0 l ≡ 0 → AllFinite f l
      → sum_pence f l ≡ sum_figure f (exact_sum (sum_terms f no_settings value l))
  unfolding sum_pence sum_refusal
  figured r h =
      let a = first-zero (not (valid_format f)) 2 _ r in
      let b = first-zero (not (valid_settings f no_settings && leb 0 2)) 3 _ a.1 in
      let g = first-zero (ltb limit (length l)) 5 _ b.1 in
      let k = first-zero (any (stray f) l) 6 _ g.1 in
      rw (a.0, g.0, k.0, no-others l h) refl

  abbrev count : ℕ
  count = pence_of (room + depth f) (lift f) ((list_sum f l).mag * 2 ^ room)

  figure-is : sum_figure f (exact_sum (sum_terms f no_settings value l)) ≡ in_range (list_sum f l).neg count
  unfolding sum_figure origin fall raised
  figure-is = ap (λ (x : Signed). in_range x.neg (pence_of (room + depth f) (lift f) x.mag)) exact-is

pub pence-nearest : Pence-nearest
pence-nearest f l r h = record {
  n = count f l;
  whole = penny-of room (depth f) (lift f) (list_sum f l).mag;
  told = λ k. all ∙ rw (lt-ltb (count f l) (2 ^ 63) k) refl;
  beyond = λ k. all ∙ rw (le-ltb (count f l) (2 ^ 63) k) refl;
}
  where
    all : sum_pence f l ≡ in_range (list_sum f l).neg (count f l)
    all = figured f l r h ∙ figure-is f l
