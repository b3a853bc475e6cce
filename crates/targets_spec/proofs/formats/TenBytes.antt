-- Kind 4 within an allowance and of targets: 3, as in any other use of it but the calls of the byte
-- entries.
use mathlib.Core.Path.{◌≡◌, refl, ap₂, ap}
use mathlib.Core.List.{List, ◌++◌}
use Prim.Native.Nat.{ℕ, ◌<◌, zero-le, ◌+◌, ◌%◌}
use native.Mathlib.Omega.{arith}
use borrow.Author.Tests.{ne_eqb, le-leb, eq-eqb, le-ltb}
use mathlib.Core.Bool.{Bool, true, false, cond, ◌||◌}
use lib.ListN.{length}
use Rattle.totals_spec.specs.formats.Format.{Format}
use Rattle.totals_spec.specs.formats.Settings.{Settings}
use Rattle.totals_spec.specs.sums.Totals.{refused, sum_answer, sum_refusal, dot_answer, dot_refusal}
use Rattle.totals_spec.specs.sums.Totals.{Answer}
use Rattle.totals_spec.specs.entries.Bytes.{Entry, values_in}
use Rattle.totals_spec.specs.entries.Words.{filled, misnamed, format_by}
use Rattle.totals_spec.proofs.ten_bytes.Calls.{not-offered}
use Rattle.targets_spec.specs.within.Estimate.{full, within, sum_within, dot_within, Estimate}
use Rattle.targets_spec.specs.within.Estimate.{estimate_entered, estimate_tested, sum_within_entry}
use Rattle.targets_spec.specs.within.Estimate.{dot_within_entry, short144}
use Rattle.targets_spec.specs.several.Several.{target_refusal, target_answer, misnamed_at}
use Rattle.targets_spec.specs.several.Several.{answer_at, slot_of, slots, target_entry}
use Rattle.targets_spec.specs.entries.Lengths.{cut_short}
use Rattle.targets_spec.specs.formats.Promises.{Extended-elsewhere}

sum-elsewhere : (f : Format) → f.kind ≡ 4 → (c : Settings) (u : ℕ) (l : List ℕ) (k : ℕ) → 0 < k → sum_within f c u l k ≡ full (refused 3 0)
unfolding sum_answer sum_refusal sum_within within
sum-elsewhere f h c u l k k0 = rw (not-offered f h, ne_eqb k 0 (λ z. omega (arith, k0, z)), le-leb 0 k zero-le)

dot-elsewhere : (f : Format) → f.kind ≡ 4 → (c : Settings) (xs ys : List ℕ) (k : ℕ) → 0 < k → dot_within f c xs ys k ≡ full (refused 3 0)
unfolding dot_answer dot_refusal dot_within within
dot-elsewhere f h c xs ys k k0 = rw (not-offered f h, ne_eqb k 0 (λ z. omega (arith, k0, z)), le-leb 0 k zero-le)

-- ---- through the entries

tested-three : (odd short bad : Bool) (k : ℕ) (x : Estimate) (old : List ℕ) → odd ≡ false → short ≡ false → 0 < k → x ≡ full (refused 3 0)
    → estimate_tested odd short bad k x old ≡ record { code = 3; buffer = old }
unfolding estimate_entered
tested-three odd short bad k x old o s k0 is = rw (o, s, is, ne_eqb k 0 (λ z. omega (arith, k0, z))) (go bad)
  where
    go : (bad : Bool) → estimate_entered (cond bad (full (refused 3 0)) (full (refused 3 0))) old ≡ record { code = 3; buffer = old }
    go true = refl
    go false = refl

target-elsewhere : (bad : Bool) (f : Format) → f.kind ≡ 4 → (d : ℕ) (l ns : List ℕ) (j : ℕ) → answer_at bad f d l ns j ≡ refused 3 0
unfolding answer_at target_answer target_refusal
target-elsewhere bad f h d l ns j = rw (not-offered f h) (go (bad || misnamed_at ns j))
  where
    go : (b : Bool) → cond {A = Answer} b (refused 3 0) (refused 3 0) ≡ refused 3 0
    go true = refl
    go false = refl

abbrev three : List ℕ
three = slot_of (refused 3 0) ++ (slot_of (refused 3 0) ++ slot_of (refused 3 0))

slots-elsewhere : (bad : Bool) (f : Format) → f.kind ≡ 4 → (d : ℕ) (l ns : List ℕ) → slots bad f d l ns ≡ three
unfolding slots
slots-elsewhere bad f h d l ns =
    let at = target-elsewhere bad f h d l ns in
    ap₂ (λ (a : Answer) (rest : List ℕ). slot_of a ++ rest) (at 0) (ap₂ (λ (a b : Answer). slot_of a ++ slot_of b) (at 13) (at 26))

abbrev wrote : (slots old : List ℕ) → Entry
wrote slots old = record { code = 0; buffer = filled slots old }

pub extended-elsewhere : Extended-elsewhere
unfolding sum_within_entry dot_within_entry target_entry
extended-elsewhere = (
  λ f h. (sum-elsewhere f h, dot-elsewhere f h),
  λ e w named b c u a bytes old whole room a0.
      tested-three (cut_short 4 bytes) (short144 old) (misnamed named b) a _ old (rw (eq-eqb (length bytes % 10) 0 whole)) (le-ltb (length old) 144 room) a0
      (sum-elsewhere (format_by 4 e w named b) refl c u (values_in bytes) a a0),
  λ e w named b c a left right old x y room a0.
      tested-three (cut_short 4 left || cut_short 4 right) (short144 old) (misnamed named b) a _ old
      (rw (eq-eqb (length left % 10) 0 x, eq-eqb (length right % 10) 0 y)) (le-ltb (length old) 144 room) a0
      (dot-elsewhere (format_by 4 e w named b) refl c (values_in left) (values_in right) a a0),
  λ e w named b d targets bytes old many whole room.
      rw (eq-eqb (length targets) 312 many, eq-eqb (length bytes % 10) 0 whole, le-ltb (length old) 96 room)
      (ap (λ (s : List ℕ). wrote s old) (slots-elsewhere (misnamed named b) (format_by 4 e w named b) refl d (values_in bytes) (values_in targets))),
)
