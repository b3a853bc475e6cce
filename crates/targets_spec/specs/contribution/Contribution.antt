-- The contribution that reaches a target: the least finite number of an Ieee format with which,
-- behind a finite list, the plain sum is a wanted total.
use Rattle.std.specs.Prelude.{ℕ, ◌+◌, ◌-◌, ◌^◌, Bool, cond, [], ◌%◌, ltb, zero, suc, List, ◌∷◌}
use Rattle.std.specs.Prelude.{◌++◌, eqb, not, ◌&&◌, length, leb, ◌*◌, ℤ}
use Rattle.totals_spec.specs.formats.Format.{Format, fraction_bits, valid_format}
use Rattle.totals_spec.specs.formats.Decode.{sign_bit}
use Rattle.totals_spec.specs.formats.Settings.{Settings, valid_settings}
use Rattle.totals_spec.specs.sums.Totals.{sum_answer, stray, limit, refuse_if, first_index}
use Rattle.totals_spec.specs.Basics.{any}
use Rattle.totals_spec.specs.pence.Pence.{not_number}
use Rattle.totals_spec.specs.entries.Bytes.{to_bytes, Entry}
use Rattle.totals_spec.specs.entries.Words.{filled, misnamed, format_by}

-- ---- the order of the encodings that are no NaN, as ranks: a larger number has a larger one, and
-- the zeros have one and the same

-- n above the rank of the zeros, or below it
abbrev pub ranked : Format → Bool → ℕ → ℕ
ranked f s n = cond s (2 ^ (f.W - 1) - n) (2 ^ (f.W - 1) + n)

unfoldable pub rank_of : Format → ℕ → ℕ
rank_of f b = ranked f (sign_bit f b) (b % 2 ^ (f.W - 1))

-- the number of a rank; of the zeros +0
unfoldable pub number_at : Format → ℕ → ℕ
number_at f r = cond (ltb r (2 ^ (f.W - 1))) (2 ^ (f.W - 1) + (2 ^ (f.W - 1) - r))
    (r - 2 ^ (f.W - 1))

-- the ranks of the largest numbers; those of the infinities lie beside them
unfoldable pub first_rank : Format → ℕ
first_rank f = 2 ^ fraction_bits f + 1

unfoldable pub last_rank : Format → ℕ
last_rank f = 2 ^ f.W - 2 ^ fraction_bits f - 1

-- ---- the search

-- the first of n numbers, from a start on, for which a test holds; the number behind them where it
-- holds for none
abbrev pub first_of : (ℕ → Bool) → (n from : ℕ) → ℕ
first_of t zero from = from
first_of t (suc n) from = cond (t from) from (first_of t n (suc from))

-- the rank of the plain sum with b behind the list
unfoldable pub rank_with : Format → Settings → List ℕ → ℕ → ℕ
rank_with f c l b = rank_of f (sum_answer f c 0 (l ++ (b ∷ []))).result

-- whether it is the wanted total with the number of rank r
unfoldable pub reaches : Format → Settings → List ℕ → (wanted r : ℕ) → Bool
reaches f c l wanted r = eqb (rank_with f c l (number_at f r)) (rank_of f wanted)

-- the least rank of a finite number with which it is, or the one behind the last
unfoldable pub least_rank : Format → Settings → List ℕ → (wanted : ℕ) → ℕ
least_rank f c l wanted = first_of (reaches f c l wanted) (suc (last_rank f) - first_rank f)
    (first_rank f)

-- ---- the answer

pub record Contribution : Type 0 where
  pub number : ℕ
  pub refusal : ℕ
  pub place : ℕ

-- a refused call: the number of the refusal and the place, and nothing else
abbrev pub refused_contribution : (n at : ℕ) → Contribution
refused_contribution n at = record { number = 0; refusal = n; place = at }

-- 14: no finite number does it
unfoldable pub found : Format → ℕ → Contribution
found f r = cond (ltb (last_rank f) r) (refused_contribution 14 0)
    (record { number = number_at f r; refusal = 0; place = 0 })

-- refusals 3, 4, 6, 7 and 15, in this order. The sum's settings but for flush to zero and
-- denormals-are-zero; one element below the limit, since one is added; the wanted total is looked
-- at behind the list, so that its place is the list's length
unfoldable pub contribution_refusal : Format → Settings → List ℕ → (wanted : ℕ) → ℕ
contribution_refusal f c l wanted =
    refuse_if (not (valid_format f && eqb f.kind 0)) 3
    (refuse_if (not (valid_settings f c && (eqb c.flush_to_zero 0 && eqb c.denormals_are_zero 0))) 4
    (refuse_if (leb limit (length l)) 6
    (refuse_if (any (stray f) (l ++ (wanted ∷ []))) 7
    (refuse_if (any (not_number f) (l ++ (wanted ∷ []))) 15 0))))

-- a call by its refusal number n: what was searched for where that is 0, and a place only for
-- number 7
abbrev pub contributed : (n at : ℕ) → Contribution → Contribution
contributed n at x = cond (eqb n 0) x (refused_contribution n (cond (eqb n 7) at 0))

-- THE ANSWER: c the settings, l the values
unfoldable pub contribution : Format → Settings → List ℕ → (wanted : ℕ) → Contribution
contribution f c l wanted =
    contributed (contribution_refusal f c l wanted) (first_index (stray f) (l ++ (wanted ∷ [])))
    (found f (least_rank f c l wanted))

-- ---- the entry of a contribution leaves behind a number and an answer buffer

-- an accepted call writes the number found into bytes 0 to 7; any other gives its refusal, plus 256
-- times its place, and leaves what was there
abbrev pub contribution_entered : Contribution → List ℕ → Entry
contribution_entered x old =
    cond (eqb x.refusal 0)
    (record { code = 0; buffer = filled (to_bytes 8 x.number) old })
    (record { code = x.refusal + 256 * x.place; buffer = old })

-- THE ENTRY of a contribution: refusal 2 first, for a buffer of fewer than eight bytes, then a
-- format that is not named as a whole
unfoldable pub contribution_entry : (kind exponent_bits width named : ℕ) (bias : ℤ) → Settings
    → (wanted : ℕ) → (values old : List ℕ) → Entry
contribution_entry k e w named b c wanted l old =
    cond (ltb (length old) 8) (record { code = 2; buffer = old })
    (cond (misnamed named b) (record { code = 3; buffer = old })
    (contribution_entered (contribution (format_by k e w named b) c l wanted) old))
