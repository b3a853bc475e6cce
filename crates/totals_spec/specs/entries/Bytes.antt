-- The byte entries: a value is eight bytes, the least first. An entry answers with a number and
-- with what the answer buffer then holds.
use Rattle.std.specs.Prelude.{List, [], ◌∷◌, ℕ, ◌+◌, ◌*◌, zero, suc, ◌/◌, ◌%◌, take, drop, length}
use Rattle.std.specs.Prelude.{◌++◌, cond, eqb, Bool, not, ltb, ◌||◌}
use Rattle.totals_spec.specs.sums.Totals.{Answer, sum_answer, dot_answer}
use Rattle.totals_spec.specs.formats.Format.{Format}
use Rattle.totals_spec.specs.formats.Settings.{Settings}

-- ---- numbers and bytes, little end first

abbrev pub from_bytes : List ℕ → ℕ
from_bytes [] = 0
from_bytes (b ∷ bs) = b + 256 * from_bytes bs

-- n bytes of a number
abbrev pub to_bytes : ℕ → ℕ → List ℕ
to_bytes zero x = []
to_bytes (suc n) x = x % 256 ∷ to_bytes n (x / 256)

-- ---- the values in a list of bytes

-- the first n values of w bytes each
abbrev pub wide_from : (w n : ℕ) → List ℕ → List ℕ
wide_from w zero bytes = []
wide_from w (suc n) bytes = from_bytes (take w bytes) ∷ wide_from w n (drop w bytes)

abbrev pub values_from : ℕ → List ℕ → List ℕ
values_from n bytes = wide_from 8 n bytes

unfoldable pub values_in : List ℕ → List ℕ
values_in bytes = values_from (length bytes / 8) bytes

-- ---- what an entry leaves behind

pub record Entry : Type 0 where
  pub code : ℕ
  pub buffer : List ℕ

-- the result takes bytes 0 to 7, the flags byte 8, the side byte 10, the passes 16 to 23; flags are
-- below 256 and sides below 4, so that 9 and 11 to 15 are 0. What follows stays
unfoldable pub written : Answer → List ℕ → List ℕ
written r old = to_bytes 8 r.result
    ++ (to_bytes 2 r.flags ++ (to_bytes 6 r.side ++ (to_bytes 8 r.passes ++ drop 24 old)))

-- an accepted call writes; any other gives its refusal and, from the second byte of the number on,
-- its place, and leaves the buffer as it was
unfoldable pub entered : Answer → List ℕ → Entry
entered r old =
    cond (eqb r.refusal 0) (record { code = 0; buffer = written r old })
    (record { code = r.refusal + 256 * r.place; buffer = old })

-- refusal 1: a last value that is cut short
abbrev pub uneven : List ℕ → Bool
uneven bytes = not (eqb (length bytes % 8) 0)

-- refusal 2: no room for 24 bytes of answer
abbrev pub short : List ℕ → Bool
short old = ltb (length old) 24

-- THE BYTE ENTRY of a sum, magnitude sum or square sum: `old` is the answer buffer before the call
unfoldable pub sum_entry : Format → Settings → ℕ → List ℕ → List ℕ → Entry
sum_entry f c u bytes old =
    cond (uneven bytes) (record { code = 1; buffer = old })
    (cond (short old) (record { code = 2; buffer = old })
    (entered (sum_answer f c u (values_in bytes)) old))

-- THE BYTE ENTRY of a dot
unfoldable pub dot_entry : Format → Settings → List ℕ → List ℕ → List ℕ → Entry
dot_entry f c left right old =
    cond (uneven left || uneven right) (record { code = 1; buffer = old })
    (cond (short old) (record { code = 2; buffer = old })
    (entered (dot_answer f c (values_in left) (values_in right)) old))

abbrev pub value_bytes : List ℕ → List ℕ
value_bytes [] = []
value_bytes (x ∷ l) = to_bytes 8 x ++ value_bytes l
