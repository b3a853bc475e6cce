-- What is shown within an allowance of passes: a full answer, or what the last pass allowed has seen.
use Rattle.std.proofs.Common.{◌≡◌, ◌≢◌, refl, sym, ap, ap₂, ◌∙◌, subst, ℕ, Bool, true, false, List, ◌^◌, ◌<◌, ◌≤◌, zero-le, arith, le-leb, ne_eqb}
use Rattle.std.specs.Prelude.{Option, Some, None, IfSome, Ok, Err}
use native.Mathlib.Nat.{lt_of_lt_of_le}
use borrow.Author.Tests.{lt-leb}
use lib.Pow.{pow_pos}
use Rattle.totals_spec.specs.formats.Format.{Format, digits}
use Rattle.totals_spec.specs.formats.Settings.{Settings, summand_of}
use Rattle.totals_spec.specs.terms.Terms.{Term, top_of}
use Rattle.totals_spec.specs.sums.Totals.{Answer, refused, is_square, sum_terms, sum_answer, dot_terms, dot_answer}
use Rattle.totals_spec.proofs.chain.Sizes.{KeptBoundary}
use Rattle.targets_spec.specs.within.Estimate.{Estimate, full, within, unfinished_at, sum_within, dot_within}
use Rattle.totals_spec.specs.chain.Standing.{pass_of}
use Rattle.binary.specs.declared.summand.Summand.{Summand}
use Rattle.binary.specs.Summands.{summand_in, summand_number}
use Rattle.limbs.specs.Value.{value}
use Rattle.window.specs.declared.Stopped.{Stopped}
use Rattle.window.specs.declared.Units.{Units}
use Rattle.window.specs.Chain.{boundary_of, signed_of}
use Rattle.reduction.specs.declared.total.Wide.{Wide}
use Rattle.reduction.specs.Answered.{wide, answer_of}
use Rattle.totals.specs.Walked.{Within}
use Rattle.targets.specs.Estimates.{seen_at}
use Rattle.totals.proofs.Refusals.{summand-is}

-- ---- by the passes of the total

module _ (f : Format) (products : Bool) (ts : List Term) (k : ℕ) (t : Answer) where
  in-time : t.passes ≤ k → within f products ts k t ≡ full t
  unfolding within
  in-time h = rw (le-leb t.passes k h)

  too-long : k < t.passes → within f products ts k t ≡ unfinished_at f products ts k (pass_of (digits f) ts k)
  unfolding within
  too-long h = rw (lt-leb t.passes k h)

  -- a refused call has no pass
  pub refused-shown : {n i : ℕ} → refused n i ≡ t → full (refused n i) ≡ within f products ts k t
  refused-shown e = ap full e ∙ sym (in-time (subst (λ (a : Answer). a.passes ≤ k) e zero-le))

  -- a chain that ends in time, in a format of a word
  pub full-shown : wide f ≡ false → (w : Wide) → Within f t ts k (Ok w) → full (answer_of w.answer) ≡ within f products ts k t
  full-shown n w h = ap full (rw n at h.0) ∙ sym (in-time h.1)

  -- and one that does not
  pub stopped-shown : (r : Stopped) → Within f t ts k (Err r)
      → seen_at f products k (boundary_of r.boundary) r.sum.place (signed_of r.sum) ≡ within f products ts k t
  unfolding unfinished_at
  stopped-shown r h =
      let s = h.0.stands in
      sym (too-long (subst (λ (n : ℕ). k < n) (sym h.1) s.longer) ∙ rw (s.stands, s.sum) refl)

-- the same of what is the same
pub told-as : (f : Format) (ts : List Term) (k : ℕ) {products same : Bool} {t a : Answer} {e : Estimate} → products ≡ same → t ≡ a
    → e ≡ within f products ts k t → e ≡ within f same ts k a
told-as f ts k p q h = h ∙ ap₂ (λ (b : Bool) (x : Answer). within f b ts k x) p q

-- its places are numbers of the code, and it has some of its units
pub boundary-near : (p : ℕ) (ts : List Term) (b : Option Units) → KeptBoundary p (top_of ts) (boundary_of b) → top_of ts < 2147483648
    → IfSome b (λ x. (x.place < 2 ^ 62) × (0 < value x.whole))
boundary-near p ts None h s = tt
boundary-near p ts (Some x) h s = (omega (arith, h.3, s), lt_of_lt_of_le (pow_pos p) h.0)

-- ---- the answers of a sum and of a dot

module _ (f : Format) (c : Settings) (u : ℕ) (l : List ℕ) (k : ℕ) where
  pub sum-none : k ≡ 0 → full (refused 16 0) ≡ sum_within f c u l k
  unfolding sum_within
  sum-none e = rw e

  pub sum-some : k ≢ 0 → within f (is_square (summand_of u)) (sum_terms f c (summand_of u) l) k (sum_answer f c u l) ≡ sum_within f c u l k
  unfolding sum_within
  sum-some n = rw (ne_eqb k 0 n)

-- of what a call is asked with, once it is in its ranges
pub sum-asked : (f : Format) (c : Settings) (u : Summand) (l : List ℕ) (k : ℕ) {g : Format} {d : Settings} {n : ℕ} → f ≡ g → c ≡ d → summand_number u ≡ n
    → k ≢ 0
    → within f (is_square (summand_in u)) (sum_terms f c (summand_in u) l) k (sum_answer f c (summand_number u) l) ≡ sum_within g d n l k
sum-asked f c u l k {g} {d} e h i some =
    rw (summand-is u) at (sum-some f c (summand_number u) l k some)
    ∙ ap (λ (x : Format). sum_within x c (summand_number u) l k) e ∙ ap (λ (x : Settings). sum_within g x (summand_number u) l k) h
    ∙ ap (λ (x : ℕ). sum_within g d x l k) i

module _ (f : Format) (c : Settings) (x y : List ℕ) (k : ℕ) where
  pub dot-none : k ≡ 0 → full (refused 16 0) ≡ dot_within f c x y k
  unfolding dot_within
  dot-none e = rw e

  pub dot-some : k ≢ 0 → within f true (dot_terms f c x y) k (dot_answer f c x y) ≡ dot_within f c x y k
  unfolding dot_within
  dot-some n = rw (ne_eqb k 0 n)

pub dot-asked : (f : Format) (c : Settings) (x y : List ℕ) (k : ℕ) {g : Format} {d : Settings} → f ≡ g → c ≡ d → k ≢ 0
    → within f true (dot_terms f c x y) k (dot_answer f c x y) ≡ dot_within g d x y k
dot-asked f c x y k {g} e h some =
    dot-some f c x y k some ∙ ap (λ (z : Format). dot_within z c x y k) e ∙ ap (λ (z : Settings). dot_within g z x y k) h
