-- A total within an allowance of passes: a sum or a dot within an allowance of passes. If the chain
-- ends in time the answer is the total's; otherwise it is what the last pass allowed has seen: S,
-- its edge, and the boundary that this pass was compared against.
use Rattle.std.specs.Prelude.{ℕ, ◌-◌, ℤ, false, pos, ◌+◌, Bool, List, cond, leb, eqb, true, ◌++◌}
use Rattle.std.specs.Prelude.{drop, ◌*◌, length, ltb, ◌||◌, ◌^◌}
use Rattle.std.proofs.Math.IntN.{sub_ℕ}
use Rattle.totals_spec.specs.Basics.{Signed, flag, plus_of, minus_of, difference, raised, is_set}
use Rattle.totals_spec.specs.sums.Totals.{Answer, refused, is_square, sum_terms, sum_answer}
use Rattle.totals_spec.specs.sums.Totals.{dot_terms, dot_answer}
use Rattle.totals_spec.specs.formats.Format.{Format, origin, fall, digits}
use Rattle.totals_spec.specs.chain.Chain.{Boundary, no_boundary, boundary, look_at, sum_of, half}
use Rattle.totals_spec.specs.terms.Terms.{Term}
use Rattle.totals_spec.specs.chain.Standing.{Stand, pass_of}
use Rattle.totals_spec.specs.formats.Settings.{Settings, summand_of}
use Rattle.totals_spec.specs.entries.Bytes.{to_bytes, Entry, values_in}
use Rattle.totals_spec.specs.entries.Words.{misnamed, format_by}
use Rattle.targets_spec.specs.entries.SignedWords.{word_of}
use Rattle.targets_spec.specs.entries.Lengths.{cut_short}

-- ---- the answer

pub record Estimate : Type 0 where
  pub answer : Answer
  -- 1 on an unfinished answer
  pub mark : ℕ
  -- S, in units of the last edge
  pub sum : Signed
  -- the boundary: the whole number, 1 for minus, and the position of its unit
  pub whole : ℕ
  pub minus : ℕ
  pub unit : ℤ

-- a full answer, and a refused one
abbrev pub full : Answer → Estimate
full a = record {
  answer = a;
  mark = 0;
  sum = record { neg = false; mag = 0 };
  whole = 0;
  minus = 0;
  unit = pos 0;
}

-- a place of the terms as a position: that of the bit worth 1 is 0
abbrev pub position_of : Format → Bool → ℕ → ℤ
position_of f products w = sub_ℕ (w + fall f products) (origin f products)

-- the boundary's three numbers, all 0 where there was none
abbrev pub whole_of : Boundary → ℕ
whole_of no_boundary = 0
whole_of (boundary s m e) = m

abbrev pub sign_of : Boundary → ℕ
sign_of no_boundary = 0
sign_of (boundary s m e) = flag 1 s

abbrev pub unit_of : Format → Bool → Boundary → ℤ
unit_of f products no_boundary = pos 0
unit_of f products (boundary s m e) = position_of f products e

-- the pass at s, number k, is the last one allowed, and does not end the chain
unfoldable pub unfinished_at : Format → Bool → List Term → ℕ → Stand → Estimate
unfinished_at f products ts k s = record {
  answer = record {
    result = 0;
    flags = 0;
    passes = k;
    last_edge = position_of f products s.edge;
    refusal = 0;
    place = 0;
    side = 0;
  };
  mark = 1;
  sum = sum_of s.bound s.edge (look_at ts s.edge);
  whole = whole_of s.bound;
  minus = sign_of s.bound;
  unit = unit_of f products s.bound;
}

-- within k passes; a is the total's answer, which a chain that is not run leaves with 0 passes
unfoldable pub within : Format → Bool → List Term → ℕ → Answer → Estimate
within f products ts k a = cond (leb a.passes k) (full a)
    (unfinished_at f products ts k (pass_of (digits f) ts k))

-- refusal 16, an allowance of zero, stands before 3
abbrev pub allowed : ℕ → Estimate → Estimate
allowed k e = cond (eqb k 0) (full (refused 16 0)) e

-- THE ANSWER of a sum within k passes
unfoldable pub sum_within : Format → Settings → ℕ → List ℕ → ℕ → Estimate
sum_within f c u l k = allowed k
    (within f (is_square (summand_of u)) (sum_terms f c (summand_of u) l) k (sum_answer f c u l))

-- THE ANSWER of a dot within k passes
unfoldable pub dot_within : Format → Settings → List ℕ → List ℕ → ℕ → Estimate
dot_within f c xs ys k = allowed k (within f true (dot_terms f c xs ys) k (dot_answer f c xs ys))

abbrev pub window_of : Signed → ℕ
window_of x = cond x.neg (half + half - x.mag) x.mag

-- result 0 to 7, flags 8, mark 9, side 10, the boundary's sign 11, zeros 12 to 15, passes 16 to 23,
-- last edge 24 to 31, the boundary's whole number 32 to 39, its unit 40 to 47, S 48 to 143. What
-- follows stays
unfoldable pub estimate_written : Estimate → List ℕ → List ℕ
estimate_written e old =
    to_bytes 8 e.answer.result
    ++ (to_bytes 1 e.answer.flags
    ++ (to_bytes 1 e.mark
    ++ (to_bytes 1 e.answer.side
    ++ (to_bytes 5 e.minus
    ++ (to_bytes 8 e.answer.passes
    ++ (to_bytes 8 (word_of e.answer.last_edge)
    ++ (to_bytes 8 e.whole
    ++ (to_bytes 8 (word_of e.unit)
    ++ (to_bytes 96 (window_of e.sum)
    ++ drop 144 old)))))))))

-- an accepted call writes; any other gives its refusal, plus 256 times its place, and leaves the
-- buffer as it was
unfoldable pub estimate_entered : Estimate → List ℕ → Entry
estimate_entered e old =
    cond (eqb e.answer.refusal 0) (record { code = 0; buffer = estimate_written e old })
    (record { code = e.answer.refusal + 256 * e.answer.place; buffer = old })

-- refusal 2: no room for 144 bytes of answer
abbrev pub short144 : List ℕ → Bool
short144 old = ltb (length old) 144

-- by the entry's own tests: 1, 2, then 16, then a bias that is not named as a whole, and then the
-- answer's own, which of kind 4 is 3
abbrev pub estimate_tested : (odd short bad : Bool) → ℕ → Estimate → List ℕ → Entry
estimate_tested odd short bad k x old =
    cond odd (record { code = 1; buffer = old })
    (cond short (record { code = 2; buffer = old })
    (estimate_entered (allowed k (cond bad (full (refused 3 0)) x)) old))

-- THE ENTRY of a sum within an allowance
unfoldable pub sum_within_entry : (kind exponent_bits width named : ℕ) (bias : ℤ) → Settings
    → (summand allowance : ℕ) → (bytes old : List ℕ) → Entry
sum_within_entry k e w named b c u n bytes old =
    estimate_tested (cut_short k bytes) (short144 old) (misnamed named b) n
    (sum_within (format_by k e w named b) c u (values_in bytes) n) old

-- THE ENTRY of a dot within an allowance
unfoldable pub dot_within_entry : (kind exponent_bits width named : ℕ) (bias : ℤ) → Settings
    → (allowance : ℕ) → (left right old : List ℕ) → Entry
dot_within_entry k e w named b c n left right old =
    estimate_tested (cut_short k left || cut_short k right) (short144 old) (misnamed named b) n
    (dot_within (format_by k e w named b) c (values_in left) (values_in right) n) old

-- ---- what the promises speak of

-- the sum of two signed numbers, and how far two are apart
abbrev pub together : Signed → Signed → Signed
together x y = difference (plus_of x + plus_of y) (minus_of x + minus_of y)

abbrev pub apart : Signed → Signed → ℕ
apart x y = (difference (plus_of x + minus_of y) (minus_of x + plus_of y)).mag

-- S in units of 2^w, plus the boundary, whose unit is 2^q
unfoldable pub shown : Estimate → (w q : ℕ) → Signed
shown e w q = together (raised w e.sum) (raised q (record { neg = is_set e.minus; mag = e.whole }))

-- a unit of 2^w for each term
abbrev pub widest : List Term → ℕ → ℕ
widest ts w = length ts * 2 ^ w
