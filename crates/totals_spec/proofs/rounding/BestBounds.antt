-- A sum rounded in a directed mode into an Ieee format, decoded again, is the best bound of it
-- among the format's numbers and infinities. Magnitudes are counted in the format's least non-zero
-- number; the sum itself is x of them, on the grid g.
use mathlib.Core.List.{[], List, ◌∷◌}
use Prim.Native.Nat.{ℕ, ◌^◌, ◌≤◌, ◌<◌, ◌*◌, ◌-◌, zero-le, ◌+◌, ◌/◌, ◌%◌, max, zero, suc}
use mathlib.Core.Bool.{Bool, true, false, not, ◌&&◌, cond, true≢false}
use mathlib.Core.Path.{◌≡◌, sym, ap, ◌∙◌, refl, subst}
use native.Mathlib.Nat.{le_refl, mul_assoc, eq_of_mul-eq-mul_right, zero-mul, le_trans}
use native.Mathlib.Nat.{le-mul_of_pos_right, lt_of_le_of_lt, mul-le-mul, mul-le-mul_right}
use native.Mathlib.Nat.{le_of_mul-le-mul_right, lt_of_mul-lt-mul_right, le_of_lt, mod-lt}
use lib.Pow.{pow-add, pow_pos, pow_mono}
use native.Mathlib.Omega.{arith}
use lib.Dec.{eqb}
use lib.Ieee.{size}
use borrow.Author.Tests.{eqb-true, eqb-false}
use Rattle.totals_spec.specs.formats.Format.{Format, digits, exponent_range, ieee, kind_of, grid}
use Rattle.totals_spec.specs.formats.Format.{rise, fraction_bits}
use Rattle.totals_spec.specs.formats.Decode.{Unpacked, zero_of, finite, infinity, nan, number}
use Rattle.totals_spec.specs.formats.Decode.{decode, sign_bit, field_of, fraction_of}
use Rattle.totals_spec.specs.Basics.{flag, is_set, Signed, raised, difference}
use Rattle.totals_spec.specs.formats.Bounds.{RangeBounds}
use Rattle.totals_spec.specs.formats.Settings.{Settings, rounding_of, precision_of}
use Rattle.totals_spec.specs.formats.Encode.{encode}
use Rattle.totals_spec.specs.rounding.Round.{Dropped, dropped, inexact, rounds_up, to_infinity}
use Rattle.totals_spec.specs.rounding.Round.{overflows, largest, beyond, overflow, Rounded}
use Rattle.totals_spec.specs.rounding.Round.{number_of, round}
use Rattle.totals_spec.specs.terms.Terms.{Term, plus_sum, minus_sum}
use Rattle.totals_spec.specs.sums.Totals.{special, sum_rounded, reported, towards_negative}
use Rattle.totals_spec.specs.sums.Totals.{finite_total}
use Rattle.totals_spec.proofs.rounding.BesideTheSum.{inexact-is}
use Rattle.totals_spec.proofs.formats.DecodedBack.{back-infinity, back-zero}
use Rattle.totals_spec.proofs.rounding.StoredNumbers.{number-back}
use Rattle.totals_spec.proofs.rounding.LargestNumber.{greatest-of, is_nan, largest-back}
use Rattle.totals_spec.proofs.rounding.Cases.{place, kept, place-grid, kept-few, round-cases}
use Rattle.totals_spec.proofs.rounding.DirectedIsBest.{ending, directed, Bounds, directed-best}
use Rattle.totals_spec.proofs.numbers.SignedNumbers.{difference-raised, raised-none}
use Rattle.totals_spec.proofs.numbers.Powers.{pow-next}

-- ---- the numbers of a format

pub record Fits (f : Format) (k m : ℕ) : Type 0 where
  pub short : m < 2 ^ digits f
  pub range : k ≤ exponent_range f

-- y is the greatest of them at most x, or the least at least x
abbrev pub Reach : Format → ℕ → (up : Bool) → ℕ → Type 0
Reach f x false y = (y ≤ x) × ((k m : ℕ) → Fits f k m → m * 2 ^ k ≤ x → m * 2 ^ k ≤ y)
Reach f x true y = (x ≤ y) × ((k m : ℕ) → Fits f k m → x ≤ m * 2 ^ k → y ≤ m * 2 ^ k)

-- v is that number, of the sign s; or an infinity, where x is above them all
abbrev pub Best : Format → Bool → ℕ → (up : Bool) → Unpacked → Type 0
Best f s x up (zero_of t) = Reach f x up 0
Best f s x up (finite t k m) = (t ≡ s) × Reach f x up (m * 2 ^ k)
Best f s x up (infinity t) = (t ≡ s) × (up ≡ true) × ((k m : ℕ) → Fits f k m → m * 2 ^ k < x)
Best f s x up (nan t h m) = ⊥

reach-zero : (f : Format) (up : Bool) → Reach f 0 up 0
reach-zero f false = (le_refl 0, λ k m h l. l)
reach-zero f true = (le_refl 0, λ k m h l. zero-le)

-- on the grid and off it
pub off-grid : (m k g : ℕ) → m * 2 ^ (k + g) ≡ m * 2 ^ k * 2 ^ g
off-grid m k g = ap (λ (n : ℕ). m * n) (pow-add 2 k g) ∙ sym (mul_assoc m (2 ^ k) (2 ^ g))

no-units : (n g : ℕ) → n * 2 ^ g ≡ 0 → n ≡ 0
no-units n g e = eq_of_mul-eq-mul_right (2 ^ g) (pow_pos g) n 0 (e ∙ sym (zero-mul (2 ^ g)))

-- ---- one rounding, of the mode that goes away from zero where `up` says so

module _ (f : Format) (b : RangeBounds f) (kind : kind_of f.kind ≡ ieee) (c : Settings) (g : ℕ) (s : Bool) (x : ℕ) (up : Bool)
    (turn : (k : ℕ) (d : Dropped) → rounds_up (rounding_of c.rounding) s k d ≡ (inexact d && up)) (far : to_infinity (rounding_of c.rounding) s ≡ up)
    (kept-tiny : is_set c.flush_to_zero ≡ false) (open-top : is_set c.saturate ≡ false) (full : precision_of f c ≡ digits f) where
  abbrev p : ℕ
  p = digits f

  abbrev X : ℕ
  X = x * 2 ^ g

  p0 : 1 ≤ digits f
  p0 = omega (arith, b.w-ge)

  down_le : (m k : ℕ) → m * 2 ^ (k + g) ≤ X → m * 2 ^ k ≤ x
  down_le m k h = le_of_mul-le-mul_right (subst (λ (n : ℕ). n ≤ X) (off-grid m k g) h) (pow_pos g)

  -- ---- a number

  place_is : place f g (digits f) X ≡ ending (digits f) g X
  place_is = go (digits f) (size X) p0
    where
      go : (p n : ℕ) → 1 ≤ p → max (g + (p - 1)) (n - 1) + 1 - p ≡ max g (n - p)
      go p n h = omega arith

  kept-is : kept f c g (digits f) s X * 2 ^ place f g (digits f) X ≡ directed (digits f) g X up
  unfolding dropped
  kept-is =
      ap (λ (t : Bool). (X / 2 ^ place f g (digits f) X + flag 1 t) * 2 ^ place f g (digits f) X)
      (turn _ _ ∙ ap (λ (t : Bool). t && up) (inexact-is (X % 2 ^ place f g (digits f) X) (2 ^ place f g (digits f) X)))
      ∙ ap (λ (u : ℕ). (X / 2 ^ u + flag 1 (not (eqb (X % 2 ^ u) 0) && up)) * 2 ^ u) place_is

  reach-number : (m k : ℕ) → m * 2 ^ (k + g) ≡ directed (digits f) g X up → Reach f x up (m * 2 ^ k)
  reach-number m k e = go up (subst (Bounds (digits f) g X up) (sym e ∙ off-grid m k g) (directed-best (digits f) g X p0 up))
    where
      less : (n i : ℕ) → n * 2 ^ i ≤ x → n * 2 ^ (i + g) ≤ X
      less n i l = subst (λ (y : ℕ). y ≤ X) (sym (off-grid n i g)) (mul-le-mul_right (2 ^ g) l)

      more : (n i : ℕ) → x ≤ n * 2 ^ i → X ≤ n * 2 ^ (i + g)
      more n i l = subst (λ (y : ℕ). X ≤ y) (sym (off-grid n i g)) (mul-le-mul_right (2 ^ g) l)

      up-grid : (i : ℕ) → g ≤ i + g
      up-grid i = omega arith

      go : (up : Bool) → Bounds (digits f) g X up (m * 2 ^ k * 2 ^ g) → Reach f x up (m * 2 ^ k)
      go false h = (
        le_of_mul-le-mul_right h.0 (pow_pos g),
        λ i n t l. le_of_mul-le-mul_right
            (subst (λ (y : ℕ). y ≤ m * 2 ^ k * 2 ^ g) (off-grid n i g) (h.1 n (i + g) t.short (up-grid i) (less n i l))) (pow_pos g),
      )
      go true h = (
        le_of_mul-le-mul_right h.0 (pow_pos g),
        λ i n t l. le_of_mul-le-mul_right
            (subst (λ (y : ℕ). m * 2 ^ k * 2 ^ g ≤ y) (off-grid n i g) (h.1 n (i + g) t.short (up-grid i) (more n i l))) (pow_pos g),
      )

  -- ---- an overflow: the largest number is the greatest

  abbrev top : ℕ
  top = greatest-of f b (digits f) p0 (le_refl (digits f)) (is_nan f b (digits f) p0 (le_refl (digits f)))

  top-is : top ≡ (2 ^ digits f - 1) * 2 ^ (digits f - digits f)
  top-is = rw kind

  fits-top : (k m : ℕ) → Fits f k m → m * 2 ^ k ≤ top * 2 ^ exponent_range f
  fits-top k m t = mul-le-mul most (pow_mono t.range)
    where
      one : 1 ≤ 2 ^ (digits f - digits f)
      one = pow_pos (digits f - digits f)

      most : m ≤ top
      most = subst (λ (n : ℕ). m ≤ n) (sym top-is) (le_trans few (le-mul_of_pos_right (2 ^ digits f - 1) one))
        where
          few : m ≤ 2 ^ digits f - 1
          few = omega (arith, t.short)

  abbrev Given : Rounded → Type 0
  Given r = Best f s x up (decode f (encode f r.value))

  overflow-best : top * 2 ^ (exponent_range f + g) < X → Given (overflow f c (digits f) s)
  unfolding overflow
  overflow-best h = rw (far, open-top) (go up refl)
    where
      above : top * 2 ^ exponent_range f < x
      above = lt_of_mul-lt-mul_right (2 ^ g) (subst (λ (n : ℕ). n < X) (off-grid top (exponent_range f) g) h)

      go : (t : Bool) → up ≡ t
          → Given (cond (t && true) (beyond (kind_of f.kind) (largest f (digits f) s) s) (record { value = largest f (digits f) s; flags = 4 + 16 }))
      go true e = rw (kind, back-infinity f b s kind) (refl, e, λ k m t. lt_of_le_of_lt (fits-top k m t) above)
      go false e =
          rw (largest-back f b (digits f) p0 (le_refl (digits f)) s)
          (refl, subst (λ (t : Bool). Reach f x t (top * 2 ^ exponent_range f)) (sym e) (le_of_lt above, λ k m t l. fits-top k m t))

  number-best : overflows f (digits f) g (kept f c g (digits f) s X * 2 ^ place f g (digits f) X) ≡ false
      → Best f s x up (decode f (encode f (number_of f g s (kept f c g (digits f) s X * 2 ^ place f g (digits f) X))))
  number-best below =
      number-back f b g (digits f) s (kept f c g (digits f) s X) (place f g (digits f) X) p0 (le_refl (digits f))
      (kept-few f b c g (digits f) s X p0 (le_refl (digits f))) (place-grid f b c g (digits f) s X p0 (le_refl (digits f))) below (λ v w. Best f s x up w)
      (λ e t. reach-number 0 0 (zero-mul (2 ^ (0 + g)) ∙ sym (zero-mul u) ∙ sym (ap (λ (n : ℕ). n * u) e) ∙ kept-is))
      (λ k m h e. (refl, reach-number m k (e ∙ kept-is)))
    where
      u : ℕ
      u = 2 ^ place f g (digits f) X

  round-best : Given (round f c g s X)
  unfolding round
  round-best =
      rw full (round-cases f b c g (digits f) s X p0 (le_refl (digits f)) Given (λ h. absurd (true≢false (sym h ∙ kept-tiny))) overflow-best (λ t. number-best))

-- ---- a sum, zero or not

-- settings that direct: away from zero for the sign s where `up s`, with no flush to zero, no
-- saturation, and every digit kept
pub record Directs (f : Format) (c : Settings) (up : Bool → Bool) : Type 0 where
  pub turn : (s : Bool) (k : ℕ) (d : Dropped) → rounds_up (rounding_of c.rounding) s k d ≡ (inexact d && up s)
  pub far : (s : Bool) → to_infinity (rounding_of c.rounding) s ≡ up s
  pub kept-tiny : is_set c.flush_to_zero ≡ false
  pub open-top : is_set c.saturate ≡ false
  pub full : precision_of f c ≡ digits f

module _ (f : Format) (b : RangeBounds f) (kind : kind_of f.kind ≡ ieee) (c : Settings) (up : Bool → Bool) (d : Directs f c up) where
  zero-best : (s : Bool) (x : ℕ) → x ≡ 0 → (t : Bool) → Best f s x (up s) (decode f (encode f (zero_of t)))
  zero-best s x e t = back-zero f b (Best f s x (up s)) (λ z. rw e (reach-zero f (up s))) t

  sum-best : (g : ℕ) (towards : Bool) (v : Signed)
      → Best f v.neg v.mag (up v.neg) (decode f (encode f (sum_rounded f c g towards (raised g v)).value))
  unfolding sum_rounded raised
  sum-best g towards v = go (eqb (v.mag * 2 ^ g) 0) refl
    where
      go : (z : Bool) → eqb (v.mag * 2 ^ g) 0 ≡ z
          → (let r = cond z (record { value = zero_of towards; flags = 0 }) (round f c g v.neg (v.mag * 2 ^ g)) in
          Best f v.neg v.mag (up v.neg) (decode f (encode f r.value)))
      go true e = zero-best v.neg v.mag (no-units v.mag g (eqb-true (v.mag * 2 ^ g) 0 e)) towards
      go false e = round-best f b kind c g v.neg v.mag (up v.neg) (d.turn v.neg) (d.far v.neg) d.kept-tiny d.open-top d.full

  -- of the terms, whose positive ones sum to P least numbers and whose negative ones to N
  pub total-best : (sub minus : Bool) (ts : List Term) (P N : ℕ) → plus_sum ts ≡ P * 2 ^ grid f false → minus_sum ts ≡ N * 2 ^ grid f false
      → Best f (difference P N).neg (difference P N).mag (up (difference P N).neg) (decode f (finite_total f c sub false minus ts).result)
  unfolding finite_total special reported rise
  total-best sub minus [] P N i j =
      zero-best _ _ (none (unfold plus_sum in no-units P (grid f false) (sym i)) (unfold minus_sum in no-units N (grid f false) (sym j))) minus
    where
      none : P ≡ 0 → N ≡ 0 → (difference P N).mag ≡ 0
      none e h = unfold difference in omega (arith, e, h)
  total-best sub minus (t ∷ ts) P N i j =
      rw (i, j, difference-raised (grid f false) P N, raised-none (raised (grid f false) (difference P N)))
      (sum-best (grid f false) (towards_negative c) (difference P N))

-- ---- what is decoded is a number of the format

abbrev pub FitsIn : Format → Unpacked → Type 0
FitsIn f (zero_of s) = Unit {0}
FitsIn f (finite s k m) = Fits f k m
FitsIn f (infinity s) = Unit {0}
FitsIn f (nan s h m) = Unit {0}

pub decode-fits : (f : Format) → RangeBounds f → kind_of f.kind ≡ ieee → (n : ℕ) → FitsIn f (decode f n)
unfolding decode
decode-fits f b kind n = rw kind (go (eqb (field_of f n) (2 ^ f.E - 1)) _ (none (eqb (fraction_of f n) 0) _ _ _) refl)
  where
    twice : 2 ^ digits f ≡ 2 * 2 ^ fraction_bits f
    twice = pow-next (digits f) (omega (arith, b.w-ge))

    range-is : exponent_range f ≡ 2 ^ f.E - 3
    range-is = unfold exponent_range in rw kind

    fields : (s : Bool) (x m : ℕ) → (x ≡ 2 ^ f.E - 1 → ⊥) → x < 2 ^ f.E → m < 2 ^ fraction_bits f → FitsIn f (number (fraction_bits f) s x m)
    fields s zero zero h i j = tt
    fields s zero (suc m) h i j = record { short = omega (arith, j, twice); range = zero-le }
    fields s (suc x) m h i j = record { short = omega (arith, j, twice); range = omega (arith, h, i, range-is) }

    none : (z s h : Bool) (m : ℕ) → FitsIn f (cond z (infinity s) (nan s h m))
    none true s h m = tt
    none false s h m = tt

    go : (t : Bool) (v : Unpacked) → FitsIn f v → eqb (field_of f n) (2 ^ f.E - 1) ≡ t
        → FitsIn f (cond t v (number (fraction_bits f) (sign_bit f n) (field_of f n) (fraction_of f n)))
    go true v h e = h
    go false v h e = fields _ _ _ (eqb-false (field_of f n) (2 ^ f.E - 1) e) (mod-lt _ (pow_pos f.E)) (mod-lt _ (pow_pos (fraction_bits f)))
