-- Whether a scan leaves terms to add, by what it has met.
use mathlib.Core.Path.{◌≡◌, refl, subst}
use mathlib.Core.Logic.{◌≢◌}
use mathlib.Core.Bool.{Bool, true, false, not, ◌&&◌}
use lib.Dec.{T}
use Rattle.std.specs.Prelude.{is_some}
use borrow.Author.Tests.{eq-eqb, ne_eqb}
use Rattle.reduction.specs.declared.scan.Scan.{Scan}
use Rattle.reduction.specs.Scan.{nan_decides, terms_in}

-- a test that fails after another
later : (a : Bool) {r : Bool} → false ≡ r → false ≡ (not a && r)
later true e = refl
later false e = e

some_of : (a b : Bool) → (a && b) ≡ true → a ≡ true
some_of true b e = refl
some_of false b e = e

pub nan-leaves : (first : Bool) (s : Scan) → nan_decides first s ≡ true → false ≡ terms_in s
nan-leaves first s e = rw (some_of (is_some s.nan) _ e)

module _ (s : Scan) where
  pub invalid-leaves : s.invalid ≡ true → false ≡ terms_in s
  invalid-leaves e = later (is_some s.nan) (rw e)

  pub positive-leaves : s.positive_infinity ≡ true → false ≡ terms_in s
  positive-leaves e = later (is_some s.nan) (later s.invalid (rw e))

  pub negative-leaves : s.negative_infinity ≡ true → false ≡ terms_in s
  negative-leaves e = later (is_some s.nan) (later s.invalid (later s.positive_infinity (rw e)))

  pub zeros-leave : s.top ≡ 0 → false ≡ terms_in s
  zeros-leave e =
      later (is_some s.nan) (later s.invalid (later s.positive_infinity (later s.negative_infinity (rw (eq-eqb s.top 0 e)))))

-- where no infinity stands before it, every NaN decides
no_nan : (first : Bool) (s : Scan) → nan_decides first s ≡ false → s.positive_infinity ≡ false → is_some s.nan ≡ false
no_nan first s e z = go (is_some s.nan) first s.signaling s.positive_infinity e z
  where
    no : {A : Type 0} → true ≡ false → A
    no q = absurd (subst (λ (x : Bool). T x) q tt)

    go : (some first sig pos : Bool) → (some && not (first && not sig && pos)) ≡ false → pos ≡ false → some ≡ false
    go false first sig pos e z = refl
    go true false sig pos e z = no e
    go true true true pos e z = no e
    go true true false true e z = no z
    go true true false false e z = no e

pub terms-leave : (first : Bool) (s : Scan) → nan_decides first s ≡ false → s.invalid ≡ false → s.positive_infinity ≡ false
    → s.negative_infinity ≡ false → s.top ≢ 0 → true ≡ terms_in s
terms-leave first s n i p g t = rw (no_nan first s n p, i, p, g, ne_eqb s.top 0 t)
