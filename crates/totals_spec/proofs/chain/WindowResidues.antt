-- A window as a pass fills it: the residue of the parts so far by 2h, one part at a time, in any
-- order. What a program holds in its twelve words is `residue half plus minus`; `signed_from half`
-- of it is S.
use mathlib.Core.Path.{◌≡◌, sym, ap, ◌∙◌}
use Prim.Native.Nat.{ℕ, ◌+◌, ◌-◌, ◌*◌, ◌/◌, ◌%◌, ◌<◌}
use native.Mathlib.Nat.{add-mul, one-mul, mod-add-mod, mod-lt, mod_self, zero-mod, add_right_comm}
use native.Mathlib.Nat.{div-add-mod', add-mul-mod_self_right, mod-mod}
use native.Mathlib.Omega.{arith}
use Rattle.totals_spec.specs.chain.Chain.{residue}

module _ (h : ℕ) (h0 : 0 < h) where
  -- nothing yet
  pub residue-zero : residue h 0 0 ≡ 0
  unfolding residue
  residue-zero = ap (λ (x : ℕ). x % (h + h)) e ∙ mod_self (h + h)
    where
      e : 0 + (h + h - 0 % (h + h)) ≡ h + h
      e = omega (arith, zero-mod (h + h))

  -- one more positive part
  pub residue-plus : (a b x : ℕ) → residue h (a + x) b ≡ (residue h a b + x) % (h + h)
  unfolding residue
  residue-plus a b x = ap (λ (y : ℕ). y % (h + h)) (add_right_comm a x (h + h - b % (h + h))) ∙ sym (mod-add-mod (a + (h + h - b % (h + h))) (h + h) x)

  -- one more negative part: its complement is added
  pub residue-minus : (a b x : ℕ) → residue h a (b + x) ≡ (residue h a b + (h + h - x % (h + h))) % (h + h)
  unfolding residue
  residue-minus a b x =
      sym (add-mul-mod_self_right (a + (h + h - (b + x) % (h + h))) (b / (h + h) + x / (h + h) + 1) (h + h))
      ∙ ap (λ (y : ℕ). y % (h + h)) e
      ∙ add-mul-mod_self_right (a + (h + h - b % (h + h)) + (h + h - x % (h + h))) ((b + x) / (h + h)) (h + h)
      ∙ sym (mod-add-mod (a + (h + h - b % (h + h))) (h + h) (h + h - x % (h + h)))
    where
      pos : 0 < h + h
      pos = omega arith

      e : a + (h + h - (b + x) % (h + h)) + (b / (h + h) + x / (h + h) + 1) * (h + h)
          ≡ a + (h + h - b % (h + h)) + (h + h - x % (h + h)) + (b + x) / (h + h) * (h + h)
      e = same a (h + h) b x ((b + x) % (h + h)) ((b + x) / (h + h)) (b % (h + h)) (b / (h + h)) (x % (h + h)) (x / (h + h))
          (div-add-mod' (b + x) (h + h)) (div-add-mod' b (h + h)) (div-add-mod' x (h + h)) (mod-lt (b + x) pos) (mod-lt b pos) (mod-lt x pos)
        where
          same : (a W b x r q s t u v : ℕ) → q * W + r ≡ b + x → t * W + s ≡ b → v * W + u ≡ x → r < W → s < W → u < W
              → a + (W - r) + (t + v + 1) * W ≡ a + (W - s) + (W - u) + q * W
          same a W b x r q s t u v e₁ e₂ e₃ l₁ l₂ l₃ = omega (arith, add-mul (t + v) 1 W, one-mul W, add-mul t v W)

  -- a part that is added and taken off
  pub residue-cancel : (a b x : ℕ) → residue h (a + x) (b + x) ≡ residue h a b
  unfolding residue
  residue-cancel a b x =
      residue-minus (a + x) b x ∙ ap (λ (y : ℕ). (y + (h + h - x % (h + h))) % (h + h)) (residue-plus a b x)
      ∙ mod-add-mod (residue h a b + x) (h + h) (h + h - x % (h + h))
      ∙ ap (λ (y : ℕ). y % (h + h)) (same (residue h a b) x (h + h) (x / (h + h)) (x % (h + h)) (div-add-mod' x (h + h)) (mod-lt x pos))
      ∙ add-mul-mod_self_right (residue h a b) (x / (h + h) + 1) (h + h) ∙ mod-mod (a + (h + h - b % (h + h))) (h + h)
    where
      pos : 0 < h + h
      pos = omega arith

      same : (r x W q u : ℕ) → q * W + u ≡ x → u < W → r + x + (W - u) ≡ r + (q + 1) * W
      same r x W q u e l = omega (arith, add-mul q 1 W, one-mul W)
