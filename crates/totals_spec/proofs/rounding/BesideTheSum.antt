-- A magnitude beside what it rounds to: it is the same where nothing is dropped, below it where it
-- went up, and above it else.
use mathlib.Core.Path.{◌≡◌, refl, sym, ap, ◌∙◌, subst}
use mathlib.Core.Bool.{Bool, false, true, not, cond, true≢false}
use Prim.Native.Nat.{ℕ, ◌+◌, ◌<◌, suc, ◌*◌, ◌/◌, ◌%◌, ◌^◌}
use lib.Dec.{eqb, ltb, T, eqb→eq}
use native.Mathlib.Nat.{div-add-mod', mod-lt, suc-mul, add-zero}
use native.Mathlib.Omega.{arith}
use lib.Pow.{pow_pos}
use borrow.Author.Tests.{eq-eqb}
use Rattle.totals_spec.specs.formats.Settings.{Rounding, ties_to_even, ties_to_away}
use Rattle.totals_spec.specs.formats.Settings.{ties_toward_zero, toward_positive, toward_negative}
use Rattle.totals_spec.specs.formats.Settings.{toward_zero, away_from_zero, to_odd}
use Rattle.totals_spec.specs.rounding.Round.{nothing, rounds_up, below_half, at_half, above_half}
use Rattle.totals_spec.specs.rounding.Round.{compared, inexact, Dropped, dropped, nearest_to}
use Rattle.totals_spec.specs.rounding.Round.{rounded_at}
use Rattle.totals_spec.specs.Basics.{flag}

-- nothing dropped never goes up
pub nothing-stays : (m : Rounding) (s : Bool) (k : ℕ) → rounds_up m s k nothing ≡ false
nothing-stays ties_to_even s k = refl
nothing-stays ties_to_away s k = refl
nothing-stays ties_toward_zero s k = refl
nothing-stays toward_positive s k = refl
nothing-stays toward_negative s k = refl
nothing-stays toward_zero s k = refl
nothing-stays away_from_zero s k = refl
nothing-stays to_odd s k = refl

-- whether something is dropped
pub inexact-is : (r h : ℕ) → inexact (compared r h) ≡ not (eqb r 0)
inexact-is r h = go (eqb r 0) (ltb (r + r) h) (eqb (r + r) h)
  where
    go : (a b c : Bool) → inexact (cond a nothing (cond b below_half (cond c at_half above_half))) ≡ not a
    go true b c = refl
    go false true c = refl
    go false false true = refl
    go false false false = refl

-- x beside what it rounds to, y, in units of w
pub data Beside (w x y : ℕ) : (inexact up : Bool) → Type 0 where
  same : x ≡ y → Beside w x y false false
  over : x < y → y < x + w → Beside w x y true true
  under : y < x → Beside w x y true false

module _ (m : Rounding) (s : Bool) (x u : ℕ) where
  pub beside : Beside (2 ^ u) x (rounded_at m s x u) (inexact (dropped x u)) (rounds_up m s (x / 2 ^ u) (dropped x u))
  unfolding rounded_at dropped
  beside = go (compared (x % 2 ^ u) (2 ^ u)) (inexact-is (x % 2 ^ u) (2 ^ u)) (eqb (x % 2 ^ u) 0) refl
    where
      parts : x / 2 ^ u * 2 ^ u + x % 2 ^ u ≡ x
      parts = div-add-mod' x (2 ^ u)

      less : x % 2 ^ u < 2 ^ u
      less = mod-lt x (pow_pos u)

      up-or-not : (d : Dropped) (r : Bool) → inexact d ≡ true → (x % 2 ^ u ≡ 0 → ⊥) → Beside (2 ^ u) x ((x / 2 ^ u + flag 1 r) * 2 ^ u) (inexact d) r
      up-or-not d true e h = rw e (over (omega (arith, parts, less, next)) (omega (arith, parts, h, next)))
        where
          next : (x / 2 ^ u + 1) * 2 ^ u ≡ x / 2 ^ u * 2 ^ u + 2 ^ u
          next = ap (λ (z : ℕ). z * 2 ^ u) one ∙ suc-mul (x / 2 ^ u) (2 ^ u)
            where
              one : x / 2 ^ u + 1 ≡ suc (x / 2 ^ u)
              one = omega arith
      up-or-not d false e h = rw e (under (omega (arith, parts, h, ap (λ (z : ℕ). z * 2 ^ u) (add-zero (x / 2 ^ u)))))

      go : (d : Dropped) → inexact d ≡ not (eqb (x % 2 ^ u) 0) → (b : Bool) → eqb (x % 2 ^ u) 0 ≡ b
          → Beside (2 ^ u) x (nearest_to m s u (x / 2 ^ u) d) (inexact d) (rounds_up m s (x / 2 ^ u) d)
      go nothing e true t = rw (nothing-stays m s (x / 2 ^ u)) (same (omega (arith, parts, zero_rest, ap (λ (z : ℕ). z * 2 ^ u) (add-zero (x / 2 ^ u)))))
        where
          zero_rest : x % 2 ^ u ≡ 0
          zero_rest = eqb→eq (x % 2 ^ u) 0 (subst T (sym t) tt)
      go nothing e false t = absurd (true≢false (sym (e ∙ ap not t)))
      go below_half e b t = up-or-not below_half _ refl (λ h. true≢false (e ∙ ap not (eq-eqb (x % 2 ^ u) 0 h)))
      go at_half e b t = up-or-not at_half _ refl (λ h. true≢false (e ∙ ap not (eq-eqb (x % 2 ^ u) 0 h)))
      go above_half e b t = up-or-not above_half _ refl (λ h. true≢false (e ∙ ap not (eq-eqb (x % 2 ^ u) 0 h)))
