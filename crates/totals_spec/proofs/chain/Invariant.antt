-- What a chain keeps true from pass to pass: the exact sum less the boundary stays within 3 × 2^(w
-- + 765) of 0, so S is never taken modulo; and a boundary lies within half its unit of the exact
-- sum. P and N are the exact sums of the positive and of the negative terms.
use mathlib.Core.Bool.{cond, Bool, true, false, not}
use Prim.Native.Nat.{ℕ, ◌+◌, ◌*◌, ◌^◌, ◌-◌, ◌≤◌, ◌<◌}
use mathlib.Core.Path.{◌≡◌, refl, ap, sym, subst}
use native.Mathlib.Omega.{arith}
use lib.Dec.{T, ltb, ltb→lt, nltb→le}
use native.Mathlib.Nat.{add-mul}
use lib.Pow.{pow_mono}
use Rattle.totals_spec.specs.chain.Chain.{Boundary, no_boundary, boundary, Step, done, next}
use Rattle.totals_spec.specs.Basics.{difference, Signed}
use Rattle.totals_spec.specs.chain.Settled.{settled}
use Rattle.totals_spec.proofs.chain.Margin.{Close, close-swap, terms-max}
use Rattle.totals_spec.proofs.chain.AlikeNumbers.{Alike, diff-plus, diff-minus, oriented, Between}

-- ---- the two sides of the sum less the boundary

abbrev pub with_plus : Boundary → ℕ → ℕ
with_plus no_boundary P = P
with_plus (boundary s m e) P = cond s (P + m * 2 ^ e) P

abbrev pub with_minus : Boundary → ℕ → ℕ
with_minus no_boundary N = N
with_minus (boundary s m e) N = cond s N (N + m * 2 ^ e)

-- what is known of a boundary m × 2^e at an edge w: it is a multiple of 2^768 units there, it has
-- more than p bits, and the sum lies within half its unit of it
pub record Near (p w m e A C : ℕ) : Type 0 where
  pub far : w + 768 ≤ e
  pub deep : 4 ≤ e
  pub many : 2 ^ p ≤ m
  pub close : Close A C (2 ^ (e - 1))

abbrev pub Placed : ℕ → ℕ → Boundary → ℕ → ℕ → Type 0
Placed p w no_boundary A C = Unit {0}
Placed p w (boundary s m e) A C = Near p w m e A C

pub record Inv (p P N : ℕ) (b : Boundary) (w : ℕ) : Type 0 where
  pub within : Close (with_plus b P) (with_minus b N) (3 * 2 ^ (w + 765))
  pub placed : Placed p w b (with_plus b P) (with_minus b N)

-- what a pass has to give
abbrev pub Right : ℕ → ℕ → ℕ → Step → Type 0
Right p P N (done o) = Alike p (settled o) (difference P N)
Right p P N (next b v) = Inv p P N b v

-- ---- a − c as a sign and a magnitude, with its two sides

pub record View (a c : ℕ) : Type 0 where
  pub s : Bool
  pub k : ℕ
  pub is : difference a c ≡ record { neg = s; mag = k }
  pub sum : cond s c a ≡ cond s a c + k

pub view : (a c : ℕ) → View a c
view a c = go (ltb a c) (ltb→lt a c) (nltb→le a c)
  where
    go : (b : Bool) → (T b → a < c) → (T (not b) → c ≤ a) → View a c
    go true h g =
        let l : a < c = h tt in
        let e : c ≡ a + (c - a) = omega arith in
        record { s = true; k = c - a; is = diff-minus c a (c - a) e (omega arith); sum = e }
    go false h g =
        let l : c ≤ a = g tt in
        let e : a ≡ c + (a - c) = omega arith in
        record { s = false; k = a - c; is = diff-plus a c (a - c) e; sum = e }

-- the sides of the exact sum by S's sign
pub oriented-sum : (s : Bool) (P N : ℕ) → oriented s (cond s N P) (cond s P N) ≡ difference P N
oriented-sum true P N = refl
oriented-sum false P N = refl

-- hi + RL = lo + k × 2^w + RH, for the sides A = a × 2^w + Ra and C = c × 2^w + RC
pub sides : (s : Bool) (w a c k A C Ra RC : ℕ) → A ≡ a * 2 ^ w + Ra → C ≡ c * 2 ^ w + RC → cond s c a ≡ cond s a c + k
    → cond s C A + cond s Ra RC ≡ cond s A C + k * 2 ^ w + cond s RC Ra
sides true w a c k A C Ra RC e f h = let g : C + Ra ≡ A + k * 2 ^ w + RC = omega (arith, ap (λ (x : ℕ). x * 2 ^ w) h, add-mul a k (2 ^ w)) in g
sides false w a c k A C Ra RC e f h = let g : A + RC ≡ C + k * 2 ^ w + Ra = omega (arith, ap (λ (x : ℕ). x * 2 ^ w) h, add-mul c k (2 ^ w)) in g

pub rests-oriented : (s : Bool) (Ra RC K : ℕ) → Ra + RC ≤ K → cond s RC Ra + cond s Ra RC ≤ K
rests-oriented true Ra RC K h = let g : RC + Ra ≤ K = omega arith in g
rests-oriented false Ra RC K h = h

pub close-oriented : (s : Bool) (A C K : ℕ) → Close (cond s C A) (cond s A C) K → Close A C K
close-oriented true A C K h = close-swap C A K h
close-oriented false A C K h = h

pub eq-oriented : (s : Bool) (A C : ℕ) → cond s C A ≡ cond s A C → A ≡ C
eq-oriented true A C h = sym h
eq-oriented false A C h = h

-- the sides less a boundary of S's sign
pub bound-oriented : (s : Bool) (P N m e K : ℕ) → Close (cond s N P) (cond s P N + m * 2 ^ e) K
    → Close (with_plus (boundary s m e) P) (with_minus (boundary s m e) N) K
bound-oriented true P N m e K h = close-swap N (P + m * 2 ^ e) K h
bound-oriented false P N m e K h = h

pub close-mono : (x y k l : ℕ) → k ≤ l → Close x y k → Close x y l
close-mono x y k l h c = (omega (arith, c.0), omega (arith, c.1))

pub between-of : (p : ℕ) (x y z : Signed) → y ≡ z → Between p x y → Between p x z
between-of p x y z e h = subst (λ (v : Signed). Between p x v) e h

-- what a cut drops is less than one unit of 2^w a term
pub rests-unit : (w lost R : ℕ) → lost ≤ w → R ≤ terms-max * (2 ^ lost - 1) → R ≤ terms-max * 2 ^ w
rests-unit w lost R h r = omega (arith, r, pow_mono h)
