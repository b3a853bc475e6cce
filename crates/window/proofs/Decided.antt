-- The step that the definitions' chain takes, by the tests that the code makes; and the code's step
-- follows it.
use mathlib.Core.Path.{◌≡◌, refl, sym, ap, ap₂, ◌∙◌, subst}
use mathlib.Core.Bool.{Bool, true, false, not, ◌&&◌, beq, cond, true≢false}
use mathlib.Core.Logic.{◌⊎◌, inl, inr}
use Prim.Native.Nat.{ℕ, zero, suc, ◌+◌, ◌-◌, ◌*◌, ◌/◌, ◌%◌, ◌^◌, ◌≤◌, ◌<◌}
use native.Mathlib.Nat.{add-zero, pow-succ'}
use native.Mathlib.Numerals.{add-one}
use native.Mathlib.Omega.{arith}
use lib.Dec.{T, leb, ltb, eqb, ltb→lt, nltb→le, eqb→eq}
use lib.Pow.{pow_mono}
use lib.Ieee.{size}
use lib.Ieee.Digits.{size-lt}
use borrow.Author.Tests.{eq-eqb, ne_eqb, le-leb, lt-leb}
use Rattle.std.specs.declared.ops.ControlFlow.{ControlFlow}
use Rattle.std.specs.declared.ops.ControlFlow.TheVariants.{Continue, Break}
use Rattle.std.specs.Prelude.{Some}
use Rattle.limbs.specs.Value.{value}
use Rattle.limbs.proofs.Length.{size-zero}
use Rattle.totals_spec.specs.Basics as words
use Rattle.totals_spec.specs.chain.Chain as chain
use Rattle.window.specs.Chain.{signed_of, boundary_of, bound_of, outcome_by, beside_of, near_by, counted, Goes, Bounds, Follows}
use Rattle.window.specs.declared.Units.{Units}
use Rattle.window.specs.declared.Chain.{Chain}
use Rattle.window.specs.declared.Outcome.{Outcome}
use Rattle.window.specs.declared.Outcome.TheVariants as out
use Rattle.window.specs.declared.Nearness.{Nearness}
use Rattle.window.specs.declared.Nearness.TheVariants.{Low, High, Between}

-- ---- how many passes are counted

pub counted-some : (w n lost : ℕ) → (n ≡ 0 → ⊥) → counted w n lost ≡ 1
counted-some w n lost h = rw (ne_eqb n 0 h)

-- ---- what `decide` says, by the tests

-- a number of no bits is 0, and no other
pub no_bits : (x : ℕ) → size x ≡ 0 → x ≡ 0
no_bits x e = let h : x < 1 = subst (λ (n : ℕ). x < 2 ^ n) e (size-lt x) in omega arith

pub bits : (n x : ℕ) → n ≡ size x → eqb x 0 ≡ eqb n 0
bits n x e = go (eqb n 0) (eqb→eq n 0) refl
  where
    go : (b : Bool) → (T b → n ≡ 0) → eqb n 0 ≡ b → eqb x 0 ≡ b
    go true h q = eq-eqb x 0 (no_bits x (sym e ∙ h tt))
    go false h q = ne_eqb x 0 (λ z. true≢false (sym (eq-eqb n 0 (e ∙ ap size z ∙ size-zero)) ∙ q))

leb-ltb : (a b : ℕ) → leb a b ≡ not (ltb b a)
leb-ltb a b = go (ltb b a) (ltb→lt b a) (nltb→le b a)
  where
    go : (t : Bool) → (T t → b < a) → (T (not t) → a ≤ b) → leb a b ≡ not t
    go true h g = lt-leb a b (h tt)
    go false h g = le-leb a b (g tt)

-- S with no boundary, by where its remainder stands
abbrev pub settled_by : Nearness → ℕ → words.Signed → ℕ → chain.Step
settled_by Low w x r = chain.next (chain.boundary x.neg (x.mag / 2 ^ r + 0) (w + r)) (w - 701)
settled_by High w x r = chain.next (chain.boundary x.neg (x.mag / 2 ^ r + 1) (w + r)) (w - 701)
settled_by Between w x r = chain.done (chain.nearly x.neg x.mag w)

settles : (w : ℕ) (x : words.Signed) (r d : ℕ) → 66 < r → chain.final_or_boundary w x r d ≡ settled_by (near_by d r) w x r
settles w x r d h =
    rw (leb-ltb (2 ^ 65) d, leb-ltb d (2 ^ r - 2 ^ 65))
    (go (ltb d (2 ^ 65)) (ltb→lt d (2 ^ 65)) (ltb (2 ^ r - 2 ^ 65) d) (ltb→lt (2 ^ r - 2 ^ 65) d))
  where
    wide : 2 * 2 ^ 65 ≤ 2 ^ r
    wide = subst (λ (n : ℕ). n ≤ 2 ^ r) (pow-succ' 2 65) (pow_mono high)
      where
        high : 66 ≤ r
        high = omega arith

    both : d < 2 ^ 65 → 2 ^ r - 2 ^ 65 < d → ⊥
    both a b = omega (arith, wide)

    go : (a : Bool) → (T a → d < 2 ^ 65) → (b : Bool) → (T b → 2 ^ r - 2 ^ 65 < d)
        → cond (not a && not b) (chain.done (chain.nearly x.neg x.mag w))
        (chain.next (chain.boundary x.neg (cond b (suc (x.mag / 2 ^ r)) (x.mag / 2 ^ r)) (w + r)) (w - 701))
        ≡ settled_by (cond a Low (cond b High Between)) w x r
    go true k true l = absurd (both (k tt) (l tt))
    go true k false l = ap (λ (n : ℕ). chain.next (chain.boundary x.neg n (w + r)) (w - 701)) (sym (add-zero (x.mag / 2 ^ r)))
    go false k true l = ap (λ (n : ℕ). chain.next (chain.boundary x.neg n (w + r)) (w - 701)) (sym (add-one (x.mag / 2 ^ r)))
    go false k false l = refl

module _ (p w : ℕ) (x : words.Signed) (n lost : ℕ) where
  -- exact
  pub decide-zero : lost ≡ 0 → x.mag ≡ 0 → chain.decide p chain.no_boundary w lost x n ≡ chain.done chain.zero_sum
  unfolding chain.decide
  decide-zero l e = rw (l, eq-eqb x.mag 0 e)

  pub decide-exact : lost ≡ 0 → (x.mag ≡ 0 → ⊥) → chain.decide p chain.no_boundary w lost x n ≡ chain.done (chain.exactly x.neg x.mag w)
  unfolding chain.decide
  decide-exact l e = rw (l, ne_eqb x.mag 0 e)

  -- inexact
  pub decide-lower : (lost ≡ 0 → ⊥) → n < p + 70 → chain.decide p chain.no_boundary w lost x n ≡ chain.next chain.no_boundary (chain.next_edge w n lost)
  unfolding chain.decide
  decide-lower l h = go lost l
    where
      go : (k : ℕ) → (k ≡ 0 → ⊥) → chain.decide p chain.no_boundary w k x n ≡ chain.next chain.no_boundary (chain.next_edge w n k)
      go zero z = absurd (z refl)
      go (suc k) z = rw (lt-leb (p + 70) n h)

  pub decide-settles : (lost ≡ 0 → ⊥) → p + 70 ≤ n
      → chain.decide p chain.no_boundary w lost x n ≡ settled_by (near_by (x.mag % 2 ^ (n - p - 1)) (n - p - 1)) w x (n - p - 1)
  unfolding chain.decide
  decide-settles l h = go lost l
    where
      go : (k : ℕ) → (k ≡ 0 → ⊥) → chain.decide p chain.no_boundary w k x n ≡ settled_by (near_by (x.mag % 2 ^ (n - p - 1)) (n - p - 1)) w x (n - p - 1)
      go zero z = absurd (z refl)
      go (suc k) z = rw (le-leb (p + 70) n h) (settles w x (n - p - 1) (x.mag % 2 ^ (n - p - 1)) (omega arith))

  -- with a boundary
  module _ (s : Bool) (m e : ℕ) where
    pub decide-on : lost ≡ 0 → chain.decide p (chain.boundary s m e) w lost x n ≡ chain.done (chain.beside (chain.side_of s x) s m e)
    unfolding chain.decide
    decide-on l = rw l

    pub decide-beside : 66 ≤ n → chain.decide p (chain.boundary s m e) w lost x n ≡ chain.done (chain.beside (chain.side_of s x) s m e)
    unfolding chain.decide
    decide-beside h = go lost
      where
        go : (k : ℕ) → chain.decide p (chain.boundary s m e) w k x n ≡ chain.done (chain.beside (chain.side_of s x) s m e)
        go zero = refl
        go (suc k) = rw (le-leb 66 n h)

    pub decide-again : (lost ≡ 0 → ⊥) → n < 66 → chain.decide p (chain.boundary s m e) w lost x n ≡ chain.next (chain.boundary s m e) (chain.next_edge w n lost)
    unfolding chain.decide
    decide-again l h = go lost l
      where
        go : (k : ℕ) → (k ≡ 0 → ⊥) → chain.decide p (chain.boundary s m e) w k x n ≡ chain.next (chain.boundary s m e) (chain.next_edge w n k)
        go zero z = absurd (z refl)
        go (suc k) z = rw (lt-leb 66 n h)

-- ---- the code's step is that step

-- the chain goes on at a lower edge
pub goes-on : (c r : Chain) (d : chain.Step) (n lost : ℕ) → d ≡ chain.next (bound_of c) (chain.next_edge c.edge n lost) → Goes n lost c r
    → Follows (Continue r) d (counted c.edge n lost) c
goes-on c r d n lost e g = (e ∙ ap₂ chain.next (ap boundary_of (sym g.boundary)) (sym g.edge), g.passes)

module _ (p : ℕ) (c : Chain) (s : Units) (n lost : ℕ) where
  -- no boundary
  abbrev AsDecided : ControlFlow Outcome Chain → Type 0
  AsDecided r = Follows r (chain.decide p chain.no_boundary c.edge lost (signed_of s) n) (counted c.edge n lost) c

  module _ (at : s.place ≡ c.edge) where
    pub zero-follows : lost ≡ 0 → n ≡ size (value s.whole) → n ≡ 0 → AsDecided (Break out.Zero)
    zero-follows l e z = decide-zero p c.edge (signed_of s) n lost l (no_bits _ (sym e ∙ z))

    pub exact-follows : lost ≡ 0 → n ≡ size (value s.whole) → (n ≡ 0 → ⊥) → AsDecided (Break (out.Exact s))
    exact-follows l e h = rw at (decide-exact p c.edge (signed_of s) n lost l (λ z. h (e ∙ ap size z ∙ size-zero)))

    module _ (l : lost ≡ 0 → ⊥) (h : p + 70 ≤ n) (v : Nearness) (e : v ≡ near_by (value s.whole % 2 ^ (n - p - 1)) (n - p - 1)) where
      far : counted c.edge n lost ≡ 1
      far = counted-some c.edge n lost (λ z. omega (arith, z))

      settled : (u : Nearness) → v ≡ u
          → chain.decide p chain.no_boundary c.edge lost (signed_of s) n ≡ settled_by u c.edge (signed_of s) (n - p - 1)
      settled u q =
          decide-settles p c.edge (signed_of s) n lost l h ∙ ap (λ (u : Nearness). settled_by u c.edge (signed_of s) (n - p - 1)) (sym e ∙ q)

      pub inexact-follows : v ≡ Between → AsDecided (Break (out.Inexact s))
      inexact-follows q = rw at (settled Between q)

      -- the multiple of 2^(n − p − 1) that `up` chooses
      bound-follows : (up : Bool) (r : Chain)
          → chain.decide p chain.no_boundary c.edge lost (signed_of s) n
          ≡ chain.next (chain.boundary s.negative (value s.whole / 2 ^ (n - p - 1) + words.flag 1 up) (c.edge + (n - p - 1))) (c.edge - 701)
          → Bounds s (n - p - 1) up c r → AsDecided (Continue r)
      bound-follows up r d g = (
        d ∙ ap₂ chain.next (sym (g.boundary ∙ rw at refl)) (sym (rw far (omega (arith, g.edge)))),
        g.passes ∙ ap (λ (k : ℕ). c.passes + k) (sym far),
      )

      pub low-follows : (r : Chain) → v ≡ Low → Bounds s (n - p - 1) false c r → AsDecided (Continue r)
      low-follows r q g = bound-follows false r (settled Low q) g

      pub high-follows : (r : Chain) → v ≡ High → Bounds s (n - p - 1) true c r → AsDecided (Continue r)
      high-follows r q g = bound-follows true r (settled High q) g

  pub lower-follows : (r : Chain) → bound_of c ≡ chain.no_boundary → (lost ≡ 0 → ⊥) → n < p + 70 → Goes n lost c r → AsDecided (Continue r)
  lower-follows r free l h g =
      goes-on c r _ n lost (decide-lower p c.edge (signed_of s) n lost l h
      ∙ ap (λ (b : chain.Boundary). chain.next b (chain.next_edge c.edge n lost)) (sym free)) g

  -- beside the boundary b
  module _ (b : Units) where
    abbrev AsBeside : ControlFlow Outcome Chain → Type 0
    AsBeside r = Follows r (chain.decide p (boundary_of (Some b)) c.edge lost (signed_of s) n) (counted c.edge n lost) c

    pub again-follows : (r : Chain) → bound_of c ≡ boundary_of (Some b) → (lost ≡ 0 → ⊥) → n < 66 → Goes n lost c r → AsBeside (Continue r)
    again-follows r near l h g =
        goes-on c r _ n lost (decide-again p c.edge (signed_of s) n lost b.negative (value b.whole) b.place l h
        ∙ ap (λ (b : chain.Boundary). chain.next b (chain.next_edge c.edge n lost)) (sym near)) g

    pub beside-follows : (lost ≡ 0) ⊎ ((lost ≡ 0 → ⊥) × (66 ≤ n)) → n ≡ size (value s.whole) → AsBeside (Break (beside_of b s.negative n))
    beside-follows h e = decided h ∙ ap chain.done (sides (eqb n 0) (beq s.negative b.negative) (bits n (value s.whole) e))
      where
        decided : (lost ≡ 0) ⊎ ((lost ≡ 0 → ⊥) × (66 ≤ n))
            → chain.decide p (boundary_of (Some b)) c.edge lost (signed_of s) n
            ≡ chain.done (chain.beside (chain.side_of b.negative (signed_of s)) b.negative (value b.whole) b.place)
        decided (inl l) = decide-on p c.edge (signed_of s) n lost b.negative (value b.whole) b.place l
        decided (inr h) = decide-beside p c.edge (signed_of s) n lost b.negative (value b.whole) b.place h.1

        sides : (a t : Bool) → eqb (value s.whole) 0 ≡ a
            → chain.beside (cond (eqb (value s.whole) 0) chain.on (cond t chain.above chain.below)) b.negative (value b.whole) b.place
            ≡ outcome_by (cond a (out.On b) (cond t (out.Above b) (out.Below b)))
        sides true t q = rw q
        sides false true q = rw q
        sides false false q = rw q
