-- Refusals by their numbers, and rows of tests by their parts.
use Rattle.std.proofs.Common.{◌≡◌, ◌≢◌, ◌<◌, ◌≤◌, refl, sym, ℕ, Bool, true, false, not, ◌&&◌, eqb, leb, ltb, arith, le-leb}
use borrow.Author.Tests.{lt-leb}
use Rattle.totals_spec.specs.formats.Format.{Format, valid_format}
use Rattle.totals_spec.specs.formats.Settings.{Settings, summand_of, valid_settings}
use Rattle.totals_spec.specs.sums.Totals.{limit, refuse_if}
use Rattle.totals.specs.Refusal.{number_of, place_of, first_numbers, few_number, sum_numbers, dot_numbers}
use Rattle.binary.specs.declared.summand.Summand.{Summand}
use Rattle.binary.specs.declared.summand.Summand.TheVariants.{Value, Magnitude, Square}
use Rattle.binary.specs.Summands.{summand_in, summand_number}
use Rattle.totals.specs.declared.refusal.Refusal.{Refusal}
use Rattle.totals.specs.declared.refusal.Refusal.TheVariants.{UnevenLength, ShortBuffer, NoSuchFormat, SettingOutOfRange, DifferentLengths}
use Rattle.totals.specs.declared.refusal.Refusal.TheVariants.{TooManyElements, StrayBit, NoPence, BadShape, NoRoom, BadAmount, NotAPage, BadSpan, NoAllowance}
use Rattle.totals.specs.declared.refusal.Refusal.TheVariants.{NoContribution, NotFinite, TargetOutOfReach}

pub number-some : (e : Refusal) → number_of e ≢ 0
number-some UnevenLength h = omega (arith, h)
number-some ShortBuffer h = omega (arith, h)
number-some NoSuchFormat h = omega (arith, h)
number-some SettingOutOfRange h = omega (arith, h)
number-some DifferentLengths h = omega (arith, h)
number-some TooManyElements h = omega (arith, h)
number-some (StrayBit i) h = omega (arith, h)
number-some NoPence h = omega (arith, h)
number-some BadShape h = omega (arith, h)
number-some NoRoom h = omega (arith, h)
number-some BadAmount h = omega (arith, h)
number-some NotAPage h = omega (arith, h)
number-some BadSpan h = omega (arith, h)
number-some NoContribution h = omega (arith, h)
number-some NotFinite h = omega (arith, h)
number-some NoAllowance h = omega (arith, h)
number-some TargetOutOfReach h = omega (arith, h)

-- only a stray bit has a place
pub no-place : (e : Refusal) → number_of e ≢ 7 → place_of e ≡ 0
no-place UnevenLength h = refl
no-place ShortBuffer h = refl
no-place NoSuchFormat h = refl
no-place SettingOutOfRange h = refl
no-place DifferentLengths h = refl
no-place TooManyElements h = refl
no-place (StrayBit i) h = absurd (h refl)
no-place NoPence h = refl
no-place BadShape h = refl
no-place NoRoom h = refl
no-place BadAmount h = refl
no-place NotAPage h = refl
no-place BadSpan h = refl
no-place NoContribution h = refl
no-place NotFinite h = refl
no-place NoAllowance h = refl
no-place TargetOutOfReach h = refl

-- ---- the first tests, of which the second may have one more in it

module _ (a b : Bool) where
  abbrev first-two : ℕ
  first-two = refuse_if (not a) 3 (refuse_if (not b) 4 0)

  pub first-told : (k : ℕ) → k ≢ 0 → k ≡ first-two → (t : Bool) (rest : ℕ) → k ≡ refuse_if (not a) 3 (refuse_if (not (b && t)) 4 rest)
  first-told k h e t rest = go a b e
    where
      go : (a b : Bool) → k ≡ refuse_if (not a) 3 (refuse_if (not b) 4 0) → k ≡ refuse_if (not a) 3 (refuse_if (not (b && t)) 4 rest)
      go true true q = absurd (h q)
      go true false q = q
      go false b q = q

  pub first-passed : first-two ≡ 0 → (a ≡ true) × (b ≡ true)
  first-passed z = go a b z
    where
      go : (a b : Bool) → refuse_if (not a) 3 (refuse_if (not b) 4 0) ≡ 0 → (a ≡ true) × (b ≡ true)
      go true true q = (refl, refl)
      go true false q = absurd (omega (arith, q))
      go false b q = absurd (omega (arith, q))

pub and-true : (b : Bool) → (b && true) ≡ b
and-true true = refl
and-true false = refl

-- once these are passed, the tests of a sum: its summand, whether it is in range, and whether the list is too long
module _ (a b : Bool) (passed : 0 ≡ first-two a b) (t l : Bool) where
  abbrev sum-row : ℕ
  sum-row = refuse_if (not a) 3 (refuse_if (not (b && t)) 4 (refuse_if l 6 0))

  pub row-summand : t ≡ false → 4 ≡ sum-row
  row-summand e = let (x, y) = first-passed a b (sym passed) in rw (x, y, e) refl

  pub row-few : t ≡ true → refuse_if l 6 0 ≡ sum-row
  row-few e = let (x, y) = first-passed a b (sym passed) in rw (x, y, e) refl

-- and of a dot: whether its lists are alike
module _ (a b : Bool) (passed : 0 ≡ first-two a b) (t l : Bool) where
  abbrev dot-row : ℕ
  dot-row = refuse_if (not a) 3 (refuse_if (not b) 4 (refuse_if (not t) 5 (refuse_if l 6 0)))

  pub row-unlike : t ≡ false → 5 ≡ dot-row
  row-unlike e = let (x, y) = first-passed a b (sym passed) in rw (x, y, e) refl

  pub row-alike : t ≡ true → refuse_if l 6 0 ≡ dot-row
  row-alike e = let (x, y) = first-passed a b (sym passed) in rw (x, y, e) refl

-- ---- sums and dots of words

module _ (f : Format) (c : Settings) where
  pub sum-first : (e : Refusal) → number_of e ≡ first_numbers (valid_format f) f c → (u n : ℕ) → number_of e ≡ sum_numbers f c u n
  unfolding sum_numbers
  sum-first e h u n = first-told (valid_format f) (valid_settings f c) (number_of e) (number-some e) h (leb u 2) (refuse_if (ltb limit n) 6 0)

  pub dot-first : (e : Refusal) → number_of e ≡ first_numbers (valid_format f) f c → (n m : ℕ) → number_of e ≡ dot_numbers f c n m
  unfolding dot_numbers
  dot-first e h n m =
      rw (and-true (valid_settings f c)) at
      (first-told (valid_format f) (valid_settings f c) (number_of e) (number-some e) h true (refuse_if (not (eqb n m)) 5 (refuse_if (ltb limit n) 6 0)))

  module _ (passed : 0 ≡ first_numbers (valid_format f) f c) where
    pub sum-summand : (u n : ℕ) → 2 < u → 4 ≡ sum_numbers f c u n
    unfolding sum_numbers
    sum-summand u n h = row-summand (valid_format f) (valid_settings f c) passed (leb u 2) (ltb limit n) (lt-leb u 2 h)

    pub sum-few : (u n : ℕ) → u ≤ 2 → few_number n ≡ sum_numbers f c u n
    unfolding sum_numbers
    sum-few u n h = row-few (valid_format f) (valid_settings f c) passed (leb u 2) (ltb limit n) (le-leb u 2 h)

    pub dot-unlike : (n m : ℕ) → eqb n m ≡ false → 5 ≡ dot_numbers f c n m
    unfolding dot_numbers
    dot-unlike n m h = row-unlike (valid_format f) (valid_settings f c) passed (eqb n m) (ltb limit n) h

    pub dot-few : (n m : ℕ) → eqb n m ≡ true → few_number n ≡ dot_numbers f c n m
    unfolding dot_numbers
    dot-few n m h = row-alike (valid_format f) (valid_settings f c) passed (eqb n m) (ltb limit n) h

-- a summand's number
pub summand-le : (u : Summand) → summand_number u ≤ 2
summand-le Value = omega arith
summand-le Magnitude = omega arith
summand-le Square = omega arith

pub summand-is : (u : Summand) → summand_of (summand_number u) ≡ summand_in u
summand-is Value = refl
summand-is Magnitude = refl
summand-is Square = refl
