-- The first 8,192 lines of 17 bytes and one byte more decide.
use mathlib.Core.Path.{◌≡◌, refl, sym, ap, ◌∙◌}
use mathlib.Core.Bool.{cond}
use mathlib.Core.List.{List, [], ◌∷◌}
use mathlib.Core.Option.{Option, some}
use Prim.Native.Nat.{ℕ, zero, suc, ◌+◌, ◌*◌, ◌<◌}
use native.Mathlib.Nat.{zero-add, suc-add}
use native.Mathlib.Omega.{arith}
use lib.Dec.{ltb}
use lib.ListN.{take, drop}
use lib.Seq.{take-nil}
use borrow.Author.Tests.{lt-ltb}
use Rattle.totals_spec.specs.program.Program.{lines, hex_digit, more_hex, Read, bad_line, taken, read_from, text_of, program_text}
use Rattle.text.specs.Reading.{Prefix}
use Rattle.text.proofs.FirstLine.{line_from, first-value}
use Rattle.text.proofs.Steps.{value_of, read_step}

drop-take : (m k : ℕ) (l : List ℕ) → drop m (take (m + k) l) ≡ take k (drop m l)
drop-take zero k l = ap (λ (n : ℕ). take n l) (zero-add k)
drop-take (suc m) k [] = ap (λ (n : ℕ). drop (suc m) (take n [])) (suc-add m k) ∙ sym (take-nil k)
drop-take (suc m) k (b ∷ bs) = ap (λ (n : ℕ). drop (suc m) (take n (b ∷ bs))) (suc-add m k) ∙ drop-take m k bs

-- a line of n bytes is told by them and the next one
pub line-of-take : (n k : ℕ) (l : List ℕ) (x : Option ℕ) → line_from n (take (suc n + k) l) x ≡ line_from n l x
line-of-take n k [] x = ap (λ (l : List ℕ). line_from n l x) (take-nil (suc n + k))
line-of-take zero k (b ∷ bs) x = ap (λ (m : ℕ). line_from 0 (take m (b ∷ bs)) x) (suc-add 0 k)
line-of-take (suc n) k (b ∷ bs) x =
    ap (λ (m : ℕ). line_from (suc n) (take m (b ∷ bs)) x) (suc-add (suc n) k) ∙ line-of-take n k bs (more_hex x (hex_digit b))

-- some bytes are left, and no line more is taken
too_many : (n : ℕ) (b : ℕ) (bs : List ℕ) → 8192 < n → read_from n (lines (b ∷ bs)) ≡ bad_line n
too_many n b bs h = read_step (b ∷ bs) (value_of (b ∷ bs)) refl (omega arith) n ∙ rw (lt-ltb 8192 n h)

one_byte : (n : ℕ) (l : List ℕ) → 8192 < n → read_from n (lines (take 1 l)) ≡ read_from n (lines l)
one_byte n [] h = refl
one_byte n (b ∷ bs) h = too_many n b [] h ∙ sym (too_many n b bs h)

-- k bytes decide about what comes behind a line
one_line : (n k : ℕ) → ((l : List ℕ) → read_from (suc n) (lines (take k l)) ≡ read_from (suc n) (lines l))
    → (l : List ℕ) → read_from n (lines (take (17 + k) l)) ≡ read_from n (lines l)
one_line n k ih [] = ap (λ (l : List ℕ). read_from n (lines l)) (take-nil (17 + k))
one_line n k ih (b ∷ bs) =
    read_step (take (17 + k) l) v (first-value 16 (take (17 + k) l) (some 0) ∙ line-of-take 16 k l (some 0)) (rw (suc-add 16 k) (omega arith)) n
    ∙ ap (λ (r : Read). cond (ltb 8192 n) (bad_line n) (taken v n r)) (ap (λ (r : List ℕ). read_from (suc n) (lines r)) (drop-take 17 k l) ∙ ih (drop 17 l))
    ∙ sym (read_step l v (first-value 16 l (some 0)) (omega arith) n)
  where
    l : List ℕ
    l = b ∷ bs

    v : Option ℕ
    v = line_from 16 l (some 0)

-- k lines are left, and n is the next one's number
prefix-from : (k n : ℕ) → k + n ≡ 8193 → (l : List ℕ) → read_from n (lines (take (17 * k + 1) l)) ≡ read_from n (lines l)
prefix-from zero n h l = one_byte n l (omega arith)
prefix-from (suc k) n h l =
    ap (λ (m : ℕ). read_from n (lines (take m l))) (seventeen k) ∙ one_line n (17 * k + 1) (prefix-from k (suc n) (omega arith)) l
  where
    seventeen : (k : ℕ) → 17 * suc k + 1 ≡ 17 + (17 * k + 1)
    seventeen k = omega arith

pub same_read : (input : List ℕ) → read_from 1 (lines (take 139265 input)) ≡ read_from 1 (lines input)
same_read input = prefix-from 8192 1 refl input

by_lines : (input : List ℕ) → program_text (take 139265 input) ≡ program_text input
unfolding program_text
by_lines input = ap text_of (same_read input)

pub prefix : Prefix
prefix input = by_lines input
