-- Decoding is the kit's `of_bits`.
use mathlib.Core.Path.{◌≡◌, refl, sym, ap, ◌∙◌}
use mathlib.Core.Bool.{Bool, true, false, cond}
use Prim.Native.Nat.{ℕ, zero, suc, ◌+◌, ◌*◌, ◌/◌, ◌%◌, ◌^◌, ◌<◌}
use native.Mathlib.Nat.{div-eq_of_lt-le, div-eq_of_lt}
use native.Mathlib.Omega.{arith}
use lib.Dec.{eqb, ltb, leb}
use lib.Pow.{field}
use lib.Ieee as kit
use borrow.Author.Tests.{eq-eqb, ne_eqb, leb-true, leb-false}
use Rattle.totals_spec.specs.formats.Format.{ieee}
use Rattle.totals_spec.specs.formats.Decode.{finite, infinity, nan, decode_fields, decode}
use Rattle.promises.specs.Bridge.{ours, value_in, Decodes-alike}

-- by fields
by-fields : (F : kit.Format) (s : Bool) (x m : ℕ) → kit.of_fields F s x m ≡ value_in F (decode_fields ieee (ours F) s x m)
unfolding kit.of_fields kit.odd
by-fields kit.binary32 s zero zero = refl
by-fields kit.binary32 s zero (suc m) = refl
by-fields kit.binary32 s (suc x) m = go (eqb (suc x) 255) (eqb m 0)
  where
    go : (a b : Bool)
        → cond a (cond b (kit.inf s) kit.nan) (kit.odd 24 s (2 ^ 23 + m) x 149)
        ≡ value_in kit.binary32 (cond a (cond b (infinity s) (nan s (ltb m (2 ^ 22)) (m % 2 ^ 22))) (finite s x (2 ^ 23 + m)))
    go true true = refl
    go true false = refl
    go false b = refl
by-fields kit.binary64 s zero zero = refl
by-fields kit.binary64 s zero (suc m) = refl
by-fields kit.binary64 s (suc x) m = go (eqb (suc x) 2047) (eqb m 0)
  where
    go : (a b : Bool)
        → cond a (cond b (kit.inf s) kit.nan) (kit.odd 53 s (2 ^ 52 + m) x 1074)
        ≡ value_in kit.binary64 (cond a (cond b (infinity s) (nan s (ltb m (2 ^ 51)) (m % 2 ^ 51))) (finite s x (2 ^ 52 + m)))
    go true true = refl
    go true false = refl
    go false b = refl

-- the sign of b below 2 n, by its one bit at n
sign-same : (n b : ℕ) → 0 < n → b < 2 * n → leb n b ≡ eqb (b / n % 2) 1
sign-same n b n0 h = go (leb n b) refl
  where
    go : (t : Bool) → leb n b ≡ t → leb n b ≡ eqb (b / n % 2) 1
    go true e = e ∙ sym (eq-eqb (b / n % 2) 1 (ap (λ (z : ℕ). z % 2) one))
      where
        one : b / n ≡ 1
        one = div-eq_of_lt-le n (omega (arith, leb-true n b e)) (omega (arith, h))
    go false e = e ∙ sym (ne_eqb (b / n % 2) 1 (λ z. omega (arith, z, ap (λ (z : ℕ). z % 2) (div-eq_of_lt (leb-false n b e)))))

pub decodes-alike : Decodes-alike
unfolding kit.of_bits decode
decodes-alike kit.binary32 b h =
    (λ i. kit.of_fields kit.binary32 (sign-same (2 ^ 31) b (omega arith) (omega (arith, h)) i) (field b 8 23 i) (b % 2 ^ 23))
    ∙ by-fields kit.binary32 (eqb (b / 2 ^ 31 % 2) 1) (b / 2 ^ 23 % 2 ^ 8) (b % 2 ^ 23)
decodes-alike kit.binary64 b h =
    (λ i. kit.of_fields kit.binary64 (sign-same (2 ^ 63) b (omega arith) (omega (arith, h)) i) (field b 11 52 i) (b % 2 ^ 52))
    ∙ by-fields kit.binary64 (eqb (b / 2 ^ 63 % 2) 1) (b / 2 ^ 52 % 2 ^ 11) (b % 2 ^ 52)
