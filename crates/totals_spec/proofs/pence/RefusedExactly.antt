-- The refusal number of pence is that of the first condition that holds.
use mathlib.Core.Logic.{◌↔◌, ◌⊎◌}
use mathlib.Core.Bool.{Bool, true, false, cond, not}
use mathlib.Core.List.{List, [], ◌∷◌}
use lib.Dec.{T, not_T, ltb, ltb→lt, nltb→le, eqb, eqb→eq}
use lib.IntN.{ℤ, pos, neg_ℤ}
use Prim.Native.Nat.{ℕ, ◌^◌, ◌≤◌, ◌+◌, ◌*◌, ◌%◌, ◌<◌}
use native.Mathlib.Omega.{arith}
use lib.ListN.{length}
use mathlib.Core.Path.{◌≡◌, refl, sym}
use Rattle.totals_spec.specs.pence.Pence.{Pence, pence_of, figure_of, refused_pence, pence_answer}
use Rattle.totals_spec.specs.pence.Pence.{refused_at, not_number, sum_figure, sum_pence}
use Rattle.totals_spec.specs.refusals.Conditions.{Condition, NoNumber}
use Rattle.totals_spec.specs.formats.Decode.{Unpacked, zero_of, finite, infinity, nan, decode}
use Rattle.totals_spec.specs.pence.Conditions.{NoPence, sum_pence_conditions}
use Rattle.totals_spec.specs.formats.Format.{valid_format, depth, lift, Format, origin, fall}
use Rattle.totals_spec.specs.sums.Totals.{stray, limit, first_index, sum_terms, refuse_if}
use Rattle.totals_spec.specs.pence.Promises.{Pence-refused-exactly, Sum-pence-refused-exactly}
use Rattle.totals_spec.specs.pence.Promises.{Pence-entry-refused-exactly}
use Rattle.totals_spec.specs.Basics.{any}
use Rattle.totals_spec.specs.formats.Settings.{no_settings, value}
use Rattle.totals_spec.specs.terms.Terms.{exact_sum}
use Rattle.totals_spec.specs.pence.Entry.{FigureEntry, figure_entered, pence_entry}
use Rattle.totals_spec.specs.entries.Words.{misnamed, format_by}
use Rattle.totals_spec.proofs.refusals.Exactly.{Tests, test, last, ranged, exactly, format-fails}
use Rattle.totals_spec.proofs.refusals.Exactly.{stray-bit, either, many-found, some-found}
use Rattle.totals_spec.proofs.refusals.Exactly.{stray-found, no-number-found, misnamed-found}
use Rattle.totals_spec.proofs.pence.PenceOfLists.{sum-pence-number}

-- ---- pence

-- a test that refuses with the record x, and one that a figure z is in range
refuses : {P : Type 0} {l : List Condition} (b : Bool) (x r : Pence) → T b ↔ P → Tests l r.refusal → Tests ((x.refusal, P) ∷ l) (cond b x r).refusal
refuses true x r t h = test true t h
refuses false x r t h = test false t h

range-tests : {P : Type 0} (b : Bool) (z : ℤ) → T (not b) ↔ P → Tests ((8, P) ∷ []) (ranged b z).refusal
range-tests true z t = test false t last
range-tests false z t = test true t last

-- a figure is refused where it reaches 2^63
large-found : (n : ℕ) → T (not (ltb n (2 ^ 63))) ↔ 2 ^ 63 ≤ n
large-found n = ((λ t. omega (arith, nltb→le n (2 ^ 63) t)), λ h. not_T (ltb n (2 ^ 63)) (λ t. omega (arith, h, ltb→lt n (2 ^ 63) t)))

figure-tests : (d n : ℕ) (v : Unpacked) → Tests ((8, NoPence d n v) ∷ []) (figure_of d n v).refusal
figure-tests d n (zero_of s) = test false ((λ t. t), λ t. t) last
figure-tests d n (finite s k m) = range-tests (ltb (pence_of d (k + n) m) (2 ^ 63)) _ (large-found (pence_of d (k + n) m))
figure-tests d n (infinity s) = test true ((λ t. t), λ t. t) last
figure-tests d n (nan s g m) = test true ((λ t. t), λ t. t) last

pub pence-refused-exactly : Pence-refused-exactly
unfolding pence_answer
pence-refused-exactly f b n =
    exactly (refuses (not (valid_format f)) (refused_pence 3) _ (format-fails f)
    (refuses (stray f b) (refused_pence 7) _ (stray-bit f b)
    (figure-tests (depth f) (lift f) (decode f b)))) n

-- two tests of number 8
either-tests : {P Q : Type 0} (a b : Bool) (z : ℤ) → T a ↔ P → T (not b) ↔ Q → Tests ((8, P ⊎ Q) ∷ []) (cond a (refused_pence 8) (ranged b z)).refusal
either-tests true b z t u = test true (either true (not b) t u) last
either-tests false true z t u = test false (either false false t u) last
either-tests false false z t u = test true (either false true t u) last

sum-pence-tests : (f : Format) (l : List ℕ) → Tests (sum_pence_conditions f l) (sum_pence f l).refusal
unfolding sum_pence sum_figure
sum-pence-tests f l =
    let sum = exact_sum (sum_terms f no_settings value l) in
    let x = pence_of (origin f false) (fall f false) sum.mag in
    refuses (not (valid_format f)) (refused_pence 3) _ (format-fails f)
    (refuses (ltb limit (length l)) (refused_pence 6) _ (many-found l)
    (refuses (any (stray f) l) (refused_at 7 (first_index (stray f) l)) _ (stray-found f l)
    (either-tests (any (not_number f) l) (ltb x (2 ^ 63)) (cond sum.neg (neg_ℤ (pos x)) (pos x))
    (some-found (not_number f) (λ b. NoNumber (decode f b)) (λ b. no-number-found (decode f b)) 0 l) (large-found x))))

pub sum-pence-refused-exactly : Sum-pence-refused-exactly
sum-pence-refused-exactly f l n = exactly (sum-pence-tests f l) n

-- by the test of its own and the record
figure-number : (a : Bool) (p : Pence) (old : ℤ) → p.refusal < 256
    → (cond a (record { code = 3; figure = old }) (figure_entered p old)).code % 256 ≡ refuse_if a 3 p.refusal
figure-number true p old h = refl
figure-number false p old h = go (eqb p.refusal 0) (eqb→eq p.refusal 0)
  where
    go : (t : Bool) → (T t → p.refusal ≡ 0)
        → (cond {A = FigureEntry} t (record { code = 0; figure = p.figure }) (record { code = p.refusal + 256 * p.place; figure = old })).code % 256
        ≡ p.refusal
    go true e = sym (e tt)
    go false e = omega (arith, h)

pub pence-entry-refused-exactly : Pence-entry-refused-exactly
unfolding pence_entry
pence-entry-refused-exactly k e w named b l old n =
    let f = format_by k e w named b in
    rw (figure-number (misnamed named b) (sum_pence f l) old (sum-pence-number f l))
    (exactly (test (misnamed named b) (misnamed-found named b) (sum-pence-tests f l)) n)
