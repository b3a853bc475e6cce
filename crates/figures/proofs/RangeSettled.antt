-- A range total: doubles that are no NaN, lists whose figures are replaced one by one, and what a call leaves by its tests.
use mathlib.Core.Path.{◌≡◌, refl, sym, ap, ap₂, ◌∙◌, subst}
use mathlib.Core.Logic.{◌≢◌}
use mathlib.Core.Bool.{Bool, true, false, not, ◌&&◌, ◌||◌, true≢false}
use mathlib.Core.List.{List, [], ◌∷◌, ◌++◌, append-nil}
use Prim.Native.Nat.{ℕ, zero, suc, ◌+◌, ◌^◌, ◌≤◌, ◌<◌, zero-le}
use native.Mathlib.Nat.{le_of_suc-le-suc, not-suc-le-zero, add-zero, zero-add}
use native.Mathlib.Numerals.{add-one}
use native.Mathlib.Omega.{arith}
use lib.Dec.{T, ltb, eqb}
use lib.Ieee.{Float, nan, inf, fin, to_bits, of_bits}
use lib.Ieee as ieee
use lib.ListN.{length, get_or, set, drop, length-map}
use lib.Seq.{paste, paste-suc, drop-paste, get_or-drop, take_all, drop-length}
use borrow.Author.Tests.{eq-eqb, ne_eqb, lt-ltb, le-ltb}
use Rattle.totals_spec.specs.Basics.{any}
use Rattle.totals_spec.specs.formats.Format.{binary64}
use Rattle.totals_spec.specs.formats.Decode.{decode, is_nan}
use Rattle.totals_spec.specs.sums.Totals.{limit}
use Rattle.totals_spec.specs.entries.Words.{filled}
use Rattle.figures_spec.specs.ranges.Entry.{range_entry}
use Rattle.figures_spec.specs.ranges.Ranges as spec
use Rattle.totals_spec.proofs.order.Order.{first-zero, or_split, not-false}
use Rattle.totals_spec.proofs.formats.Valid.{and_left, and_right}
use Rattle.figures_spec.proofs.ranges.NarrowestPair as laws
use Rattle.figures_spec.proofs.ranges.Refused.{range-number}
use Rattle.std.specs.Prelude.{Result, Ok, Err}
use Rattle.totals.specs.declared.refusal.Refusal.{Refusal}
use Rattle.totals.specs.Refusal.{number_of}
use Rattle.totals.proofs.Refusals.{number-some}
use Rattle.figures.specs.declared.range.Bounds.{Bounds}
use Rattle.figures.specs.Ranges.{range_in, lows, highs, Totalled, EntersRange}
use Rattle.figures.proofs.RangeFigures.{written-again}

-- what has no NaN's encoding is no NaN
pub no-nan-double : (x : Float) → is_nan (decode binary64 (to_bits ieee.binary64 x)) ≡ false → T (not (ieee.is_nan x))
unfolding ieee.is_nan to_bits decode binary64
no-nan-double nan e = absurd (true≢false e)
no-nan-double (inf s) e = tt
no-nan-double (fin s m k) e = tt

-- ---- the low and the high of a good entry

pub low-good : (a : spec.Amount) → T (spec.good_amount a) → T (spec.good_figure (spec.low_of a))
unfolding decode binary64
low-good (spec.known x) h = h
low-good (spec.between x y) h = and_left (spec.good_figure x) (spec.good_figure y) (and_left (spec.good_figure x && spec.good_figure y) _ h)
low-good spec.missing h = tt
low-good spec.untold h = absurd h

pub high-good : (z : ℕ) → T (spec.good_figure z) → (a : spec.Amount) → T (spec.good_amount a) → T (spec.good_figure (spec.high_of z a))
high-good z c (spec.known x) h = h
high-good z c (spec.between x y) h = and_right (spec.good_figure x) (spec.good_figure y) (and_left (spec.good_figure x && spec.good_figure y) _ h)
high-good z c spec.missing h = c
high-good z c spec.untold h = absurd h

-- an entry of a list in which none is bad
abbrev pub bad : (ts xs ys : List ℕ) → Bool
bad ts xs ys = any (λ a. not (spec.good_amount a)) (spec.entries ts xs ys)

fails-at : {A : Type 0} (t : A → Bool) (none : A) (l : List A) (i : ℕ) → i < length l → any t l ≡ false → t (get_or l i none) ≡ false
fails-at t none [] i h e = absurd (not-suc-le-zero h)
fails-at t none (x ∷ l) zero h e = (or_split (t x) (any t l) e).0
fails-at t none (x ∷ l) (suc i) h e = fails-at t none l i (le_of_suc-le-suc h) (or_split (t x) (any t l) e).1

pub good-at : (ts xs ys : List ℕ) → length ts ≡ length xs → length ts ≡ length ys → bad ts xs ys ≡ false → (i : ℕ) → i < length ts
    → T (spec.good_amount (spec.amount_of (get_or ts i 0) (get_or xs i 0) (get_or ys i 0)))
good-at ts xs ys e h k i j =
    let l = spec.entries ts xs ys in
    let inside : i < length l = rw (laws.entries-length ts xs ys e h) j in
    subst (λ (a : spec.Amount). T (spec.good_amount a)) (laws.entry_at ts xs ys e h i)
    (not-false (spec.good_amount (get_or l i (spec.known 0))) (fails-at (λ a. not (spec.good_amount a)) (spec.known 0) l i inside k))

module _ (ts xs ys : List ℕ) (e : length ts ≡ length xs) (h : length ts ≡ length ys) where
  pub lows-length : length (lows ts xs ys) ≡ length ts
  lows-length = length-map (spec.entries ts xs ys) spec.low_of ∙ laws.entries-length ts xs ys e h

  pub highs-length : (z : ℕ) → length (highs z ts xs ys) ≡ length ts
  highs-length z = length-map (spec.entries ts xs ys) (spec.high_of z) ∙ laws.entries-length ts xs ys e h

-- ---- a list whose first i elements are those of another

abbrev pub Settled : (s d : List ℕ) (i : ℕ) (l : List ℕ) → Type 0
Settled s d i l = l ≡ paste d 0 s i

module _ (s d : List ℕ) (one-length : length s ≡ length d) (i : ℕ) (l : List ℕ) (e : Settled s d i l) where
  module _ (h : i < length d) where
    -- the next one is still that of the list itself
    pub settled-next : get_or l i 0 ≡ get_or d i 0
    settled-next =
        sym (ap (λ (k : ℕ). get_or l k 0) (add-zero i))
        ∙ sym (get_or-drop i l 0 0)
        ∙ ap (λ (m : List ℕ). get_or m 0 0) same_rest
        ∙ get_or-drop i d 0 0
        ∙ ap (λ (k : ℕ). get_or d k 0) (add-zero i)
      where
        same_rest : drop i l ≡ drop i d
        same_rest =
            ap₂ drop (sym (zero-add i)) e ∙ drop-paste d 0 s i zero-le (omega (arith, one-length)) ∙ ap (λ (k : ℕ). drop k d) (zero-add i)

    pub settled-set : (x : ℕ) → x ≡ get_or s i 0 → Settled s d (i + 1) (set l i x)
    settled-set x q =
        ap₂ (λ (m : List ℕ) (y : ℕ). set m i y) e q
        ∙ ap (λ (k : ℕ). set (paste d 0 s i) k (get_or s i 0)) (sym (zero-add i))
        ∙ paste-suc d 0 s i 0 (omega arith) (omega (arith, one-length))
        ∙ ap (paste d 0 s) (sym (add-one i))

  pub settled-all : i ≡ length d → l ≡ s
  settled-all h =
      e ∙ ap₂ ◌++◌ (take_all i s (omega (arith, h, one-length))) (ap (λ (k : ℕ). drop k d) (zero-add i ∙ h) ∙ drop-length d) ∙ append-nil s

-- ---- the number of a call by its tests, and what it leaves by its number

module _ (ts xs ys : List ℕ) (z : ℕ) where
  pub first-unequal : length xs ≢ length ts → spec.range_refusal ts xs ys z ≡ 5
  unfolding spec.range_refusal
  first-unequal h = rw (ne_eqb (length ts) (length xs) (λ e. h (sym e))) refl

  module _ (a : length xs ≡ length ts) where
    first-long : eqb (length ts) (length xs) ≡ true
    first-long = eq-eqb (length ts) (length xs) (sym a)

    pub second-unequal : length ys ≢ length ts → spec.range_refusal ts xs ys z ≡ 5
    unfolding spec.range_refusal
    second-unequal h = rw (first-long, ne_eqb (length ts) (length ys) (λ e. h (sym e))) refl

    module _ (b : length ys ≡ length ts) where
      second-long : eqb (length ts) (length ys) ≡ true
      second-long = eq-eqb (length ts) (length ys) (sym b)

      pub too_many : limit < length ts → spec.range_refusal ts xs ys z ≡ 6
      unfolding spec.range_refusal
      too_many h = rw (first-long, second-long, lt-ltb limit (length ts) h) refl

      module _ (few : length ts ≤ limit) where
        not-many : ltb limit (length ts) ≡ false
        not-many = le-ltb limit (length ts) few

        pub by-ceiling : spec.good_ceiling z ≡ false → spec.range_refusal ts xs ys z ≡ 11
        unfolding spec.range_refusal
        by-ceiling h = rw (first-long, second-long, not-many, h) refl

        pub by_entries : spec.good_ceiling z ≡ true → bad ts xs ys ≡ true → spec.range_refusal ts xs ys z ≡ 11
        unfolding spec.range_refusal
        by_entries h k = rw (first-long, second-long, not-many, h, k) refl

        pub all-passed : spec.good_ceiling z ≡ true → bad ts xs ys ≡ false → spec.range_refusal ts xs ys z ≡ 0
        unfolding spec.range_refusal
        all-passed h k = rw (first-long, second-long, not-many, h, k) refl

  pub leaves-refused : (e : Refusal) → number_of e ≡ spec.range_refusal ts xs ys z → Totalled ts xs ys z (Err e) xs ys
  unfolding spec.range_answer
  leaves-refused e is =
      let some = ne_eqb (number_of e) 0 (number-some e) in
      record { record_is = rw (sym is, some) refl; firsts-are = rw (sym is, some) refl; seconds-are = rw (sym is, some) refl }

  module _ (accepted : spec.range_refusal ts xs ys z ≡ 0) where
    abbrev Lower : ℕ
    Lower = spec.lower_total (spec.entries ts xs ys)

    abbrev Upper : ℕ
    Upper = spec.upper_total z (spec.entries ts xs ys)

    numbers : (is_nan (decode binary64 Lower) ≡ false) × (is_nan (decode binary64 Upper) ≡ false)
    numbers = let a = laws.accepts ts xs ys z accepted in laws.numbers z (spec.entries ts xs ys) a.few a.each

    pub lower-number : (b : ℕ) → b ≡ Lower → is_nan (decode binary64 b) ≡ false
    lower-number b e = ap (λ (n : ℕ). is_nan (decode binary64 n)) e ∙ numbers.0

    pub upper-number : (b : ℕ) → b ≡ Upper → is_nan (decode binary64 b) ≡ false
    upper-number b e = ap (λ (n : ℕ). is_nan (decode binary64 n)) e ∙ numbers.1

    abbrev pair : ℕ → ℕ → Result Bounds Refusal
    pair a b = Ok (record { lower = of_bits ieee.binary64 a; upper = of_bits ieee.binary64 b })

    pub leaves-total : (a b : ℕ) → a ≡ Lower → b ≡ Upper → a < 2 ^ 64 → b < 2 ^ 64
        → (firsts seconds : List ℕ) → firsts ≡ lows ts xs ys → seconds ≡ highs z ts xs ys
        → Totalled ts xs ys z (pair a b) firsts seconds
    unfolding spec.range_answer
    leaves-total a b p q i j firsts seconds f g = record {
      record_is =
          rw accepted (ap₂ (λ (l u : ℕ). spec.ranged 0 l u) (written-again a i (lower-number a p) ∙ p) (written-again b j (upper-number b q) ∙ q));
      firsts-are = rw accepted f;
      seconds-are = rw accepted g;
    }

-- what an accepted call has shown
pub range-passed : (ts xs ys : List ℕ) (z : ℕ) → spec.range_refusal ts xs ys z ≡ 0 → T (spec.good_ceiling z) × (bad ts xs ys ≡ false)
unfolding spec.range_refusal
range-passed ts xs ys z e =
    let a = first-zero (not (eqb (length ts) (length xs)) || not (eqb (length ts) (length ys))) 4 _ e in
    let b = first-zero (ltb limit (length ts)) 5 _ a.1 in
    let h = or_split (not (spec.good_ceiling z)) _ (first-zero _ 10 _ b.1).0 in
    (not-false (spec.good_ceiling z) h.0, h.1)

-- a figure that is not yet settled is read as it was, so that the entry is
module _ (ts xs ys : List ℕ) (e : length ts ≡ length xs) (h : length ts ≡ length ys) (z i : ℕ) (firsts seconds : List ℕ)
    (p : Settled (lows ts xs ys) xs i firsts) (q : Settled (highs z ts xs ys) ys i seconds) (inside : i < length ts) where
  pub lows-long : length (lows ts xs ys) ≡ length xs
  lows-long = lows-length ts xs ys e h ∙ e

  pub highs-long : length (highs z ts xs ys) ≡ length ys
  highs-long = highs-length ts xs ys e h z ∙ h

  abbrev entry-at : spec.Amount
  entry-at = spec.amount_of (get_or ts i 0) (get_or xs i 0) (get_or ys i 0)

  pub entry-read : spec.amount_of (get_or ts i 0) (get_or firsts i 0) (get_or seconds i 0) ≡ entry-at
  entry-read =
      ap₂ (spec.amount_of (get_or ts i 0)) (settled-next _ _ lows-long i firsts p (omega (arith, e, inside)))
      (settled-next _ _ highs-long i seconds q (omega (arith, h, inside)))

  pub first-settled : (x : ℕ) → x ≡ spec.low_of entry-at → Settled (lows ts xs ys) xs (i + 1) (set firsts i x)
  first-settled x t = settled-set _ _ lows-long i firsts p (omega (arith, e, inside)) x (t ∙ sym (laws.low-at ts xs ys e h i))

  pub second-settled : (x : ℕ) → x ≡ spec.high_of z entry-at → Settled (highs z ts xs ys) ys (i + 1) (set seconds i x)
  second-settled x t = settled-set _ _ highs-long i seconds q (omega (arith, h, inside)) x (t ∙ sym (laws.high-at ts xs ys e h z i))

-- ---- the entry

module _ (ts xs ys : List ℕ) (z : ℕ) (old : List ℕ) where
  pub range-short : length old < 2 → EntersRange (range_entry ts xs ys z old) 2 xs ys old
  unfolding range_entry
  range-short h = rw (lt-ltb (length old) 2 h) (record { code_is = refl; firsts-are = refl; seconds-are = refl; pair_is = refl })

  module _ (room : 2 ≤ length old) (r : Result Bounds Refusal) (firsts seconds : List ℕ) (t : Totalled ts xs ys z r firsts seconds) where
    number_is : (range_in r).refusal ≡ (spec.range_answer ts xs ys z).refusal
    number_is = ap (λ (a : spec.Range). a.refusal) t.record_is

    same_number : (range_in r).refusal ≡ spec.range_refusal ts xs ys z
    same_number = number_is ∙ range-number ts xs ys z

    pub range-refused : (range_in r).refusal ≢ 0 → EntersRange (range_entry ts xs ys z old) (range_in r).refusal firsts seconds old
    unfolding range_entry
    range-refused h =
        rw (le-ltb (length old) 2 room, ne_eqb (spec.range_answer ts xs ys z).refusal 0 (λ e. h (number_is ∙ e))) (record {
          code_is = number_is;
          firsts-are = rw none at t.firsts-are;
          seconds-are = rw none at t.seconds-are;
          pair_is = refl;
        })
      where
        none : eqb (spec.range_refusal ts xs ys z) 0 ≡ false
        none = ne_eqb (spec.range_refusal ts xs ys z) 0 (λ e. h (same_number ∙ e))

    pub range-entered : (range_in r).refusal ≡ 0
        → EntersRange (range_entry ts xs ys z old) 0 firsts seconds (set (set old 0 (range_in r).lower) 1 (range_in r).upper)
    unfolding range_entry
    range-entered h =
        rw (le-ltb (length old) 2 room, eq-eqb (spec.range_answer ts xs ys z).refusal 0 (sym number_is ∙ h)) (record {
          code_is = refl;
          firsts-are = rw all at t.firsts-are;
          seconds-are = rw all at t.seconds-are;
          pair_is = two-written _ _ old room ∙ ap (λ (a : spec.Range). filled (a.lower ∷ a.upper ∷ []) old) t.record_is;
        })
      where
        all : eqb (spec.range_refusal ts xs ys z) 0 ≡ true
        all = eq-eqb (spec.range_refusal ts xs ys z) 0 (sym same_number ∙ h)

        two-written : (x y : ℕ) (l : List ℕ) → 2 ≤ length l → set (set l 0 x) 1 y ≡ filled (x ∷ y ∷ []) l
        two-written x y [] k = absurd (not-suc-le-zero k)
        two-written x y (a ∷ []) k = absurd (not-suc-le-zero (le_of_suc-le-suc k))
        two-written x y (a ∷ b ∷ l) k = refl
