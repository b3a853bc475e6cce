-- S, summed modulo 2^768, is the sum of the parts itself where that fits a signed window.
use mathlib.Core.Path.{◌≡◌, ap, ◌∙◌}
use mathlib.Core.Bool.{Bool, true, false, not}
use Prim.Native.Nat.{ℕ, suc, ◌+◌, ◌-◌, ◌*◌, ◌/◌, ◌%◌, ◌≤◌, ◌<◌}
use native.Mathlib.Nat.{div-add-mod', mod-lt, mod-eq_of_lt, mul-add-mod_self_right, suc-mul}
use native.Mathlib.Omega.{arith}
use lib.Dec.{T, ltb, ltb→lt, nltb→le}
use borrow.Author.Tests.{lt-ltb, le-ltb}
use Rattle.totals_spec.specs.Basics.{difference}
use Rattle.totals_spec.specs.chain.Chain.{wrapped}

-- with W = 2h: a less b, where b ≤ a, and where a < b
module _ (h a b : ℕ) (h0 : 0 < h) where
  up : b ≤ a → a < b + h → (a + (h + h - b % (h + h))) % (h + h) ≡ a - b
  up l u =
      ap (λ (x : ℕ). x % (h + h)) e ∙ mul-add-mod_self_right (suc (b / (h + h))) (h + h) (a - b) ∙ mod-eq_of_lt small
    where
      small : a - b < h + h
      small = omega arith

      rest : b % (h + h) < h + h
      rest = mod-lt b (omega arith)

      e : a + (h + h - b % (h + h)) ≡ suc (b / (h + h)) * (h + h) + (a - b)
      e = omega (arith, rest, small, div-add-mod' b (h + h), suc-mul (b / (h + h)) (h + h))

  down : a < b → b ≤ a + h → (a + (h + h - b % (h + h))) % (h + h) ≡ h + h - (b - a)
  down l u =
      ap (λ (x : ℕ). x % (h + h)) e ∙ mul-add-mod_self_right (b / (h + h)) (h + h) (h + h - (b - a)) ∙ mod-eq_of_lt small
    where
      small : h + h - (b - a) < h + h
      small = omega arith

      rest : b % (h + h) < h + h
      rest = mod-lt b (omega arith)

      e : a + (h + h - b % (h + h)) ≡ b / (h + h) * (h + h) + (h + h - (b - a))
      e = omega (arith, rest, div-add-mod' b (h + h))

  pub wrapped-is : a < b + h → b ≤ a + h → wrapped h a b ≡ difference a b
  unfolding wrapped difference
  wrapped-is u l = go (ltb a b) (ltb→lt a b) (nltb→le a b)
    where
      plain : b ≤ a → a - b ≡ a - b + (b - a)
      plain k = omega arith

      back : a < b → h + h - (h + h - (b - a)) ≡ a - b + (b - a)
      back k = omega arith

      under : b ≤ a → a - b < h
      under k = omega arith

      over : a < b → h ≤ h + h - (b - a)
      over k = omega arith

      go : (t : Bool) → (T t → a < b) → (T (not t) → b ≤ a) → wrapped h a b ≡ record { neg = t; mag = a - b + (b - a) }
      go true k g = rw (down (k tt) l, le-ltb _ _ (over (k tt))) (λ i. record { neg = true; mag = back (k tt) i })
      go false k g = rw (up (g tt) u, lt-ltb _ _ (under (g tt))) (λ i. record { neg = false; mag = plain (g tt) i })
