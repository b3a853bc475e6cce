-- A larger sum is rounded to no smaller value, of every kind, with flush to zero too.
use mathlib.Core.Path.{◌≡◌, refl, sym, ap, ◌∙◌, subst}
use mathlib.Core.Logic.{◌⊎◌, inl, inr}
use mathlib.Core.Bool.{Bool, true, false, cond, true≢false}
use Prim.Native.Nat.{ℕ, ◌+◌, ◌*◌, ◌^◌, ◌≤◌, ◌<◌}
use native.Mathlib.Nat.{zero-mul, one-mul, mul_assoc, mul-pos, le_refl, lt_of_le_of_lt, le_of_mul-le-mul_right, add-mul}
use native.Mathlib.Omega.{arith}
use lib.Dec.{T, eqb, leb→le, le→leb}
use lib.Pow.{pow-add, pow_pos}
use borrow.Author.Tests.{eqb-true, eqb-false}
use Rattle.totals_spec.specs.Basics.{Signed, plus_of, minus_of}
use Rattle.totals_spec.specs.formats.Bounds.{RangeBounds, SettingsBounds}
use Rattle.totals_spec.specs.formats.Format.{Format, ieee, finite_only, kind_of}
use Rattle.totals_spec.specs.formats.Settings.{Settings, rounding_of, precision_of}
use Rattle.totals_spec.specs.formats.Decode.{Unpacked, zero_of, finite, infinity, nan, is_nan}
use Rattle.totals_spec.specs.formats.Decode.{is_number}
use Rattle.totals_spec.specs.formats.Ordered.{worth, at_most, nothing}
use Rattle.totals_spec.specs.formats.Ordered.{Ordered}
use Rattle.totals_spec.proofs.formats.Valid.{precision-least}
use Rattle.promises.specs.Numbers.{Number, RoundsTo}
use Rattle.promises.specs.Rounding.{grid_of, Largest, Worth, Tiny, before_rounding, after_rounding, Flushed, Carried, Overflow}
use Rattle.promises.specs.Rounding.{to_infinity, to_nan, to_largest, Once, flushed, overflowed, number}
use Rattle.promises.specs.Rising.{Once-rises, CarriedToNaN, Once-nan}
use Rattle.promises.proofs.roundings.OneAnswer.{largest-one}
use Rattle.promises.proofs.roundings.CutsByRule.{cut-rounds}
use Rattle.promises.proofs.roundings.OfEveryRounding.{number-stays, rises}

-- ---- values in their order

-- of numbers it is that of their worth
ordered-of : (v w : Unpacked) → T (is_number v) → T (is_number w) → T (at_most (worth v) (worth w)) → Ordered v w
ordered-of (zero_of s) (zero_of t) h k e = e
ordered-of (zero_of s) (finite t j n) h k e = e
ordered-of (finite s j n) (zero_of t) h k e =
    subst (λ (i : ℕ). T (at_most (record { neg = s; mag = i }) nothing)) (sym (one-mul (n * 2 ^ j))) e
ordered-of (finite s j n) (finite t l m) h k e =
    subst (λ (i : ℕ). T (at_most (record { neg = s; mag = i }) (worth (finite t l m)))) (sym (one-mul (n * 2 ^ j))) e
ordered-of v (infinity t) h k e = absurd k
ordered-of v (nan t g m) h k e = absurd k
ordered-of (infinity s) (zero_of t) h k e = absurd h
ordered-of (infinity s) (finite t j n) h k e = absurd h
ordered-of (nan s g m) (zero_of t) h k e = absurd h
ordered-of (nan s g m) (finite t j n) h k e = absurd h

abbrev pub Rise : Bool → Unpacked → Unpacked → Type 0
Rise false v w = Ordered v w
Rise true v w = Ordered w v

-- nothing is farther from zero than an infinity
infinite-top : (s : Bool) (v : Unpacked) → is_nan v ≡ false → Rise s v (infinity s)
infinite-top false (zero_of t) e = tt
infinite-top false (finite t k m) e = tt
infinite-top false (infinity t) e = tt
infinite-top false (nan t g m) e = true≢false e
infinite-top true (zero_of t) e = tt
infinite-top true (finite t k m) e = tt
infinite-top true (infinity true) e = tt
infinite-top true (infinity false) e = tt
infinite-top true (nan t g m) e = true≢false e

module _ (f : Format) (g : ℕ) where
  worth-number : (v : Unpacked) (s : Bool) (y : ℕ) → Worth f g v s y → T (is_number v)
  worth-number (zero_of t) s y w = tt
  worth-number (finite t k m) s y w = tt
  worth-number (infinity t) s y w = w
  worth-number (nan t h m) s y w = w

  number-whole : (v : Unpacked) → T (is_number v) → is_nan v ≡ false
  number-whole (zero_of t) h = refl
  number-whole (finite t k m) h = refl
  number-whole (infinity t) h = refl
  number-whole (nan t k m) h = absurd h

  -- the worth of a value, in units
  record Parts (v : Unpacked) (s : Bool) (y : ℕ) : Type 0 where
    plus : plus_of (worth v) * 2 ^ g ≡ cond s 0 y
    minus : minus_of (worth v) * 2 ^ g ≡ cond s y 0

  raised-back : (k m : ℕ) → m * 2 ^ k * 2 ^ g ≡ m * 2 ^ (k + g)
  raised-back k m = mul_assoc m (2 ^ k) (2 ^ g) ∙ ap (λ (n : ℕ). m * n) (sym (pow-add 2 k g))

  parts-of : (v : Unpacked) (s : Bool) (y : ℕ) → Worth f g v s y → Parts v s y
  parts-of (zero_of t) true y w = record { plus = zero-mul (2 ^ g); minus = zero-mul (2 ^ g) ∙ sym w.1 }
  parts-of (zero_of t) false y w = record { plus = zero-mul (2 ^ g) ∙ sym w.1; minus = zero-mul (2 ^ g) }
  parts-of (finite true k m) true y w = record { plus = zero-mul (2 ^ g); minus = raised-back k m ∙ w.1 }
  parts-of (finite false k m) false y w = record { plus = raised-back k m ∙ w.1; minus = zero-mul (2 ^ g) }
  parts-of (finite true k m) false y w = absurd (true≢false w.0)
  parts-of (finite false k m) true y w = absurd (true≢false (sym w.0))
  parts-of (infinity t) true y w = absurd w
  parts-of (infinity t) false y w = absurd w
  parts-of (nan t h m) true y w = absurd w
  parts-of (nan t h m) false y w = absurd w

  levels-ordered : (v w : Unpacked) (s t : Bool) (y z : ℕ) → Worth f g v s y → Worth f g w t z
      → cond s 0 y + cond t z 0 ≤ cond t 0 z + cond s y 0 → Ordered v w
  levels-ordered v w s t y z a b h =
      ordered-of v w (worth-number v s y a) (worth-number w t z b) (le→leb _ _ (le_of_mul-le-mul_right times (pow_pos g)))
    where
      p : Parts v s y
      p = parts-of v s y a

      q : Parts w t z
      q = parts-of w t z b

      times : (plus_of (worth v) + minus_of (worth w)) * 2 ^ g ≤ (plus_of (worth w) + minus_of (worth v)) * 2 ^ g
      times =
          omega (
            arith,
            h,
            p.plus,
            p.minus,
            q.plus,
            q.minus,
            add-mul (plus_of (worth v)) (minus_of (worth w)) (2 ^ g),
            add-mul (plus_of (worth w)) (minus_of (worth v)) (2 ^ g),
          )

  worth-rise : (s : Bool) (v w : Unpacked) (y z : ℕ) → Worth f g v s y → Worth f g w s z → y ≤ z → Rise s v w
  worth-rise false v w y z a b h = levels-ordered v w false false y z a b (omega (arith, h))
  worth-rise true v w y z a b h = levels-ordered w v true true z y b a (omega (arith, h))

  zero-rise : (s t : Bool) (w : Unpacked) (z : ℕ) → Worth f g w s z → Rise s (zero_of t) w
  zero-rise false t w z b = levels-ordered (zero_of t) w t false 0 z (refl, refl) b (go t)
    where
      go : (t : Bool) → cond t 0 0 + 0 ≤ z + cond t 0 0
      go true = omega arith
      go false = omega arith
  zero-rise true t w z b = levels-ordered w (zero_of t) true t z 0 b (refl, refl) (go t)
    where
      go : (t : Bool) → 0 + cond t 0 0 ≤ cond t 0 0 + z
      go true = omega arith
      go false = omega arith

  zero-worth : (v : Unpacked) (s : Bool) (y : ℕ) → y ≡ 0 → Worth f g v s y → (t : Bool) × (v ≡ zero_of t)
  zero-worth (zero_of t) s y e w = (t, refl)
  zero-worth (finite t k m) s y e w =
      absurd (let p : 0 < m * 2 ^ (k + g) = mul-pos w.2.some (pow_pos (k + g)) in let z : ⊥ = omega (arith, p, w.1, e) in z)
  zero-worth (infinity t) s y e w = absurd w
  zero-worth (nan t h m) s y e w = absurd w

-- ---- what a rounding gives, where it is no NaN

module _ (f : Format) (c : Settings) (g : ℕ) (b : RangeBounds f) (w : SettingsBounds f c) where
  pub record Kept (s : Bool) (x y most : ℕ) : Type 0 where
    some : 0 < x
    unflushed : ¬ Flushed f c g s x
    rounds : RoundsTo (rounding_of c.rounding) (precision_of f c) (grid_of f (precision_of f c) g) s x y
    top : Largest f (precision_of f c) g most

  pub data Gives (s : Bool) (x : ℕ) (v : Unpacked) : Type 0 where
    a-zero : (t : Bool) → v ≡ zero_of t → (x ≡ 0) ⊎ Flushed f c g s x → Gives s x v
    within : (y most : ℕ) → Kept s x y most → y ≤ most → Worth f g v s y → Gives s x v
    beyond : (y most : ℕ) → Kept s x y most → most < y → (kind_of f.kind ≡ finite_only) ⊎ (¬ Carried c s)
        → Worth f g v s most → Gives s x v
    endless : (y most : ℕ) → Kept s x y most → most < y → kind_of f.kind ≡ ieee → Carried c s → v ≡ infinity s
        → Gives s x v

  q0 : 0 < precision_of f c
  q0 = precision-least f c b

  stays : (s : Bool) (x y : ℕ) → x ≡ 0
      → RoundsTo (rounding_of c.rounding) (precision_of f c) (grid_of f (precision_of f c) g) s x y → y ≡ 0
  stays s x y e r = number-stays _ _ _ s x y none r ∙ e
    where
      none : Number (precision_of f c) (grid_of f (precision_of f c) g) x
      none = record {
        significand = 0;
        exponent = grid_of f (precision_of f c) g;
        short = pow_pos (precision_of f c);
        above = le_refl _;
        is = e ∙ sym (zero-mul (2 ^ grid_of f (precision_of f c) g));
      }

  pub gives : (s : Bool) (x : ℕ) (v : Unpacked) (n : ℕ) → Once f c g s x v n → is_nan v ≡ false → Gives s x v
  gives s x v n o = go (eqb x 0) refl o
    where
      over : {v : Unpacked} {n : ℕ} (y most : ℕ) → Kept s x y most → most < y → Overflow f c g s most v n → is_nan v ≡ false → Gives s x v
      over y most k h (to_infinity i j) e = endless y most k h i j refl
      over y most k h (to_nan i j) e = absurd (true≢false e)
      over y most k h (to_largest v i j) e = beyond y most k h i j

      go : {v : Unpacked} {n : ℕ} (t : Bool) → eqb x 0 ≡ t → Once f c g s x v n → is_nan v ≡ false → Gives s x v
      go t i (flushed h) e = a-zero s refl (inr h)
      go true i (overflowed y most v n nf r l o p) e =
          absurd (let z : y ≡ 0 = stays s x y (eqb-true x 0 i) r in let k : ⊥ = omega (arith, z, o) in k)
      go true i (number y most v t u d nf r l o p j k m) e =
          let z = zero-worth f g v s y (stays s x y (eqb-true x 0 i) r) p in a-zero z.0 z.1 (inl (eqb-true x 0 i))
      go false i (overflowed y most v n nf r l o p) e =
          over y most (record { some = omega (arith, eqb-false x 0 i); unflushed = nf; rounds = r; top = l }) o p e
      go false i (number y most v t u d nf r l o p j k m) e =
          within y most (record { some = omega (arith, eqb-false x 0 i); unflushed = nf; rounds = r; top = l }) o p

  -- what is below a sum that is flushed is flushed too
  flush-down : (s : Bool) (x z : ℕ) → x ≤ z → Flushed f c g s z → Flushed f c g s x
  flush-down s x z h e = (go e.0, e.1)
    where
      go : Tiny f c g s z → Tiny f c g s x
      go (before_rounding i j) = before_rounding i (lt_of_le_of_lt h j)
      go (after_rounding i y r j) =
          let k = cut-rounds (rounding_of c.rounding) (precision_of f c) 0 s x q0 in
          after_rounding i _ k (lt_of_le_of_lt (rises _ _ 0 s x z _ y q0 h k r) j)

  -- of one sign
  module _ (s : Bool) (x z : ℕ) (h : x ≤ z) where
    rounds-up : (y i most last : ℕ) → Kept s x y most → Kept s z i last → (y ≤ i) × (most ≡ last)
    rounds-up y i most last k l =
        (rises _ _ _ s x z y i q0 h k.rounds l.rounds, largest-one f (precision_of f c) g most last k.top l.top)

    lower : {A : Type 0} (y most : ℕ) → Kept s x y most → (z ≡ 0) ⊎ Flushed f c g s z → A
    lower y most k (inl e) = absurd (let i : ⊥ = omega (arith, e, k.some, h) in i)
    lower y most k (inr e) = absurd (k.unflushed (flush-down s x z h e))

    crossed : {A : Type 0} (y i most last : ℕ) → Kept s x y most → Kept s z i last → most < y → i ≤ last → A
    crossed y i most last k l o p =
        let r = rounds-up y i most last k l in absurd (let e : ⊥ = omega (arith, r.0, r.1, o, p) in e)

    differs : {A : Type 0} → (kind_of f.kind ≡ finite_only) ⊎ (¬ Carried c s) → kind_of f.kind ≡ ieee → Carried c s → A
    differs (inl e) i j = absurd (apart (sym e ∙ i))
      where
        apart : finite_only ≡ ieee → ⊥
        apart e = cc
    differs (inr e) i j = absurd (e j)

    compare : (v u : Unpacked) → Gives s x v → Gives s z u → is_nan v ≡ false → is_nan u ≡ false → Rise s v u
    compare v u (a-zero t e _) (a-zero t' e' _) n m = rw (e, e') (zeros s)
      where
        zeros : (s : Bool) → Rise s (zero_of t) (zero_of t')
        zeros true = tt
        zeros false = tt
    compare v u (a-zero t e _) (within i last l p a) n m = rw e (zero-rise f g s t u i a)
    compare v u (a-zero t e _) (beyond i last l p j a) n m = rw e (zero-rise f g s t u last a)
    compare v u (a-zero t e _) (endless i last l p j a e') n m = rw e' (infinite-top s v n)
    compare v u (within y most k o a) (a-zero t e d) n m = lower y most k d
    compare v u (beyond y most k o j a) (a-zero t e d) n m = lower y most k d
    compare v u (endless y most k o j a e) (a-zero t e' d) n m = lower y most k d
    compare v u (within y most k o a) (within i last l p a') n m = worth-rise f g s v u y i a a' (rounds-up y i most last k l).0
    compare v u (within y most k o a) (beyond i last l p j a') n m =
        worth-rise f g s v u y last a a' (subst (λ (d : ℕ). y ≤ d) (rounds-up y i most last k l).1 o)
    compare v u (within y most k o a) (endless i last l p j a' e) n m = rw e (infinite-top s v n)
    compare v u (beyond y most k o j a) (within i last l p a') n m = crossed y i most last k l o p
    compare v u (beyond y most k o j a) (beyond i last l p j' a') n m =
        worth-rise f g s v u most last a a' (subst (λ (d : ℕ). most ≤ d) (rounds-up y i most last k l).1 (le_refl most))
    compare v u (beyond y most k o j a) (endless i last l p j' a' e) n m = rw e (infinite-top s v n)
    compare v u (endless y most k o j a e) (within i last l p a') n m = crossed y i most last k l o p
    compare v u (endless y most k o j a e) (beyond i last l p j' a') n m = differs j' j a
    compare v u (endless y most k o j a e) (endless i last l p j' a' e') n m = rw e' (infinite-top s v n)

  -- of two signs: a value that is not an infinity is on its own side, or zero
  level : (s : Bool) (x : ℕ) (v : Unpacked) → Gives s x v
      → (v ≡ infinity s) ⊎ ((t : Bool) × (y : ℕ) × Worth f g v t y × ((t ≡ s) ⊎ (y ≡ 0)))
  level s x v (a-zero t e _) = inr (t, 0, subst (λ (u : Unpacked). Worth f g u t 0) (sym e) (refl, refl), inr refl)
  level s x v (within y most k o a) = inr (s, y, a, inl refl)
  level s x v (beyond y most k o j a) = inr (s, most, a, inl refl)
  level s x v (endless y most k o j a e) = inl e

  opposite : (x z : ℕ) (v u : Unpacked) → Gives true x v → Gives false z u → is_nan v ≡ false → is_nan u ≡ false → Ordered v u
  opposite x z v u a d n m = go (level true x v a) (level false z u d)
    where
      sides : (s t : Bool) (y i : ℕ) → (s ≡ true) ⊎ (y ≡ 0) → (t ≡ false) ⊎ (i ≡ 0)
          → cond s 0 y + cond t i 0 ≤ cond t 0 i + cond s y 0
      sides true true y i p (inl e) = absurd (true≢false e)
      sides true true y i p (inr e) = omega (arith, e)
      sides true false y i p e = omega arith
      sides false true y i (inl p) e = absurd (true≢false (sym p))
      sides false true y i (inr p) (inl e) = absurd (true≢false e)
      sides false true y i (inr p) (inr e) = omega (arith, p, e)
      sides false false y i (inl p) e = absurd (true≢false (sym p))
      sides false false y i (inr p) e = omega (arith, p)

      go : (v ≡ infinity true) ⊎ ((t : Bool) × (y : ℕ) × Worth f g v t y × ((t ≡ true) ⊎ (y ≡ 0)))
          → (u ≡ infinity false) ⊎ ((t : Bool) × (y : ℕ) × Worth f g u t y × ((t ≡ false) ⊎ (y ≡ 0))) → Ordered v u
      go e (inl k) = rw k (infinite-top false v n)
      go (inl e) (inr k) = rw e (infinite-top true u m)
      go (inr e) (inr k) = levels-ordered f g v u e.0 k.0 e.1 k.1 e.2 k.2 (sides e.0 k.0 e.1 k.1 e.3 k.3)

  pub gives-rise : (x z : Signed) (v u : Unpacked) → T (at_most x z) → Gives x.neg x.mag v → Gives z.neg z.mag u
      → is_nan v ≡ false → is_nan u ≡ false → Ordered v u
  gives-rise x z v u h = go x.neg z.neg x.mag z.mag (leb→le _ _ h)
    where
      none : (s : Bool) (x : ℕ) (v : Unpacked) → x ≡ 0 → Gives s x v → (t : Bool) × (v ≡ zero_of t)
      none s x v e (a-zero t i _) = (t, i)
      none s x v e (within y most k o a) = absurd (let i : ⊥ = omega (arith, e, k.some) in i)
      none s x v e (beyond y most k o j a) = absurd (let i : ⊥ = omega (arith, e, k.some) in i)
      none s x v e (endless y most k o j a i) = absurd (let d : ⊥ = omega (arith, e, k.some) in d)

      go : (s t : Bool) (x z : ℕ) → cond s 0 x + cond t z 0 ≤ cond t 0 z + cond s x 0 → Gives s x v → Gives t z u
          → is_nan v ≡ false → is_nan u ≡ false → Ordered v u
      go false false x z h a d n m = compare false x z (omega (arith, h)) v u a d n m
      go true true x z h a d n m = compare true z x (omega (arith, h)) u v d a m n
      go true false x z h a d n m = opposite x z v u a d n m
      go false true x z h a d n m =
          let e = none false x v (let i : x ≡ 0 = omega (arith, h) in i) a in
          let k = none true z u (let i : z ≡ 0 = omega (arith, h) in i) d in
          rw (e.1, k.1) tt

pub once-rises : Once-rises
once-rises f c g x y v w n k b s h o p i j =
    gives-rise f c g b s x y v w h (gives f c g b s x.neg x.mag v n o i) (gives f c g b s y.neg y.mag w k p j) i j

pub once-nan : Once-nan
once-nan f c g s x v n o = go o
  where
    worth-whole : (v : Unpacked) (y : ℕ) → Worth f g v s y → is_nan v ≡ true → ⊥
    worth-whole (zero_of t) y w e = true≢false (sym e)
    worth-whole (finite t k m) y w e = true≢false (sym e)
    worth-whole (infinity t) y w e = w
    worth-whole (nan t h m) y w e = w

    over : {v : Unpacked} {n : ℕ} (y most : ℕ)
        → RoundsTo (rounding_of c.rounding) (precision_of f c) (grid_of f (precision_of f c) g) s x y
        → Largest f (precision_of f c) g most → most < y → Overflow f c g s most v n → is_nan v ≡ true → CarriedToNaN f c g s x
    over y most r l o (to_infinity i j) e = absurd (true≢false (sym e))
    over y most r l o (to_nan i j) e = record { kind = i; carried = j; y = y; most = most; rounds = r; largest = l; over = o }
    over y most r l o (to_largest v i j) e = absurd (worth-whole v most j e)

    go : {v : Unpacked} {n : ℕ} → Once f c g s x v n → is_nan v ≡ true → CarriedToNaN f c g s x
    go (flushed h) e = absurd (true≢false (sym e))
    go (overflowed y most v n nf r l o p) e = over y most r l o p e
    go (number y most v t u d nf r l o p j k m) e = absurd (worth-whole v y p e)
