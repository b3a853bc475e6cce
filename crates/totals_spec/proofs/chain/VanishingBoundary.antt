-- A boundary is a multiple of 2^768 units at every later edge, so taking it off changes no S: a
-- program need not take it off, as the Rust does not.
use mathlib.Core.Path.{◌≡◌, ap, ◌∙◌, refl, sym}
use Prim.Native.Nat.{ℕ, ◌+◌, ◌-◌, ◌*◌, ◌%◌, ◌^◌, ◌/◌, ◌≤◌}
use native.Mathlib.Nat.{add_right_comm, add-mul-mod_self_right, mul-div_cancel, mul_assoc, le_trans}
use native.Mathlib.Nat.{le-add_right, add-zero}
use native.Mathlib.Omega.{arith}
use lib.Pow.{pow_pos}
use mathlib.Core.Bool.{true, false}
use Rattle.totals_spec.specs.chain.Chain.{wrapped, half, Look, Boundary, no_boundary, boundary}
use Rattle.totals_spec.specs.chain.Chain.{sum_of}
use Rattle.totals_spec.proofs.numbers.Bits.{pow-split}
use Rattle.totals_spec.proofs.chain.Invariant.{Placed}

-- a multiple of the window changes nothing, on either side
vanish-plus : (h a c k : ℕ) → wrapped h (a + k * (h + h)) c ≡ wrapped h a c
unfolding wrapped
vanish-plus h a c k = rw e
  where
    e : (a + k * (h + h) + (h + h - c % (h + h))) % (h + h) ≡ (a + (h + h - c % (h + h))) % (h + h)
    e = ap (λ (x : ℕ). x % (h + h)) (add_right_comm a (k * (h + h)) (h + h - c % (h + h))) ∙ add-mul-mod_self_right (a + (h + h - c % (h + h))) k (h + h)

vanish-minus : (h a c k : ℕ) → wrapped h a (c + k * (h + h)) ≡ wrapped h a c
unfolding wrapped
vanish-minus h a c k = rw (add-mul-mod_self_right c k (h + h))

window : half + half ≡ 2 ^ 768
unfolding half
window = refl

-- m × 2^e in units of 2^w, for e at or above w + 768
in-windows : (m e w : ℕ) → w + 768 ≤ e → m * 2 ^ e / 2 ^ w ≡ m * 2 ^ (e - w - 768) * (half + half)
in-windows m e w h =
    ap (λ (x : ℕ). x / 2 ^ w) (ap (λ (x : ℕ). m * x) (pow-split w e (le_trans (le-add_right w 768) h)) ∙ sym (mul_assoc m (2 ^ (e - w)) (2 ^ w)))
    ∙ mul-div_cancel (m * 2 ^ (e - w)) (pow_pos w)
    ∙ ap (λ (x : ℕ). m * x) (pow-split 768 (e - w) deep)
    ∙ sym (mul_assoc m (2 ^ (e - w - 768)) (2 ^ 768))
    ∙ ap (λ (x : ℕ). m * 2 ^ (e - w - 768) * x) (sym window)
  where
    deep : 768 ≤ e - w
    deep = omega arith

pub vanishes : (b : Boundary) (w A C p : ℕ) (l : Look) → Placed p w b A C → sum_of b w l ≡ sum_of no_boundary w l
unfolding sum_of
vanishes no_boundary w A C p l h = refl
vanishes (boundary true m e) w A C p l h =
    ap (λ (x : ℕ). wrapped half (l.plus + x) (l.minus + 0)) (in-windows m e w h.far)
    ∙ vanish-plus half l.plus (l.minus + 0) (m * 2 ^ (e - w - 768))
    ∙ ap (λ (x : ℕ). wrapped half x (l.minus + 0)) (sym (add-zero l.plus))
vanishes (boundary false m e) w A C p l h =
    ap (λ (x : ℕ). wrapped half (l.plus + 0) (l.minus + x)) (in-windows m e w h.far)
    ∙ vanish-minus half (l.plus + 0) l.minus (m * 2 ^ (e - w - 768))
    ∙ ap (λ (x : ℕ). wrapped half (l.plus + 0) x) (sym (add-zero l.minus))
