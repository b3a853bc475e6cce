-- What `lines` of some bytes begins with: the value of the first line, and the lines after it.
use mathlib.Core.Path.{◌≡◌, refl, sym, ap, ◌∙◌}
use mathlib.Core.Bool.{Bool, true, false, cond}
use mathlib.Core.List.{List, [], ◌∷◌}
use mathlib.Core.Option.{Option, none, some}
use Prim.Native.Nat.{ℕ, zero, suc, ◌≤◌, ◌<◌}
use native.Mathlib.Omega.{arith}
use lib.Dec.{eqb, eqb-zero-suc, eqb-suc-zero, eqb-suc-suc}
use lib.ListN.{length, take, drop, get_or}
use borrow.Author.Tests.{eqb-true, eq-eqb, ne_eqb}
use Rattle.totals_spec.specs.program.Program.{onto, lines, hex_digit, more_hex, hex_from}
use Rattle.text.specs.Reading.{first_line}

-- the lines after the first
abbrev pub later_lines : List (List ℕ) → List (List ℕ)
later_lines [] = []
later_lines (l ∷ ls) = ls

pub first-onto : (b : ℕ) (ls : List (List ℕ)) → first_line (onto b ls) ≡ b ∷ first_line ls
first-onto b [] = refl
first-onto b (l ∷ ls) = refl

later-onto : (b : ℕ) (ls : List (List ℕ)) → later_lines (onto b ls) ≡ later_lines ls
later-onto b [] = refl
later-onto b (l ∷ ls) = refl

pub not-empty : (b : ℕ) (bs : List ℕ) → lines (b ∷ bs) ≡ first_line (lines (b ∷ bs)) ∷ later_lines (lines (b ∷ bs))
not-empty b bs = either (eqb b 10)
  where
    put : (ls : List (List ℕ)) → onto b ls ≡ first_line (onto b ls) ∷ later_lines (onto b ls)
    put [] = refl
    put (l ∷ ls) = refl

    either : (p : Bool) → cond p ([] ∷ lines bs) (onto b (lines bs))
        ≡ first_line (cond p ([] ∷ lines bs) (onto b (lines bs))) ∷ later_lines (cond p ([] ∷ lines bs) (onto b (lines bs)))
    either true = refl
    either false = put (lines bs)

-- n bytes more, and then a line end or the end: what these digits make of a number so far
abbrev pub line_from : ℕ → List ℕ → Option ℕ → Option ℕ
line_from zero [] x = x
line_from zero (b ∷ bs) x = cond (eqb b 10) x none
line_from (suc n) [] x = none
line_from (suc n) (b ∷ bs) x = line_from n bs (more_hex x (hex_digit b))

more-none : (x : Option ℕ) → more_hex x none ≡ none
more-none none = refl
more-none (some x) = refl

line-none : (n : ℕ) (l : List ℕ) → line_from n l none ≡ none
line-none zero [] = refl
line-none zero (b ∷ bs) = same (eqb b 10)
  where
    same : (p : Bool) → ◌≡◌ {A = Option ℕ} (cond p none none) none
    same true = refl
    same false = refl
line-none (suc n) [] = refl
line-none (suc n) (b ∷ bs) = line-none n bs

pub hex-none : (l : List ℕ) → hex_from l none ≡ none
hex-none [] = refl
hex-none (b ∷ bs) = hex-none bs

-- a line end is no digit
ended : (n : ℕ) (bs : List ℕ) (x : Option ℕ) (b : ℕ) → b ≡ 10 → line_from n bs (more_hex x (hex_digit b)) ≡ none
ended n bs x b e =
    ap (λ (c : ℕ). line_from n bs (more_hex x (hex_digit c))) e ∙ ap (line_from n bs) (more-none x) ∙ line-none n bs

-- the first line's value, where it has n bytes
abbrev value_at : ℕ → List ℕ → Option ℕ → Option ℕ
value_at n l x = cond (eqb (length l) n) (hex_from l x) none

pub first-value : (n : ℕ) (l : List ℕ) (x : Option ℕ) → value_at n (first_line (lines l)) x ≡ line_from n l x
first-value zero [] x = refl
first-value zero (b ∷ bs) x = either (eqb b 10)
  where
    either : (p : Bool) → value_at 0 (first_line (cond p ([] ∷ lines bs) (onto b (lines bs)))) x ≡ cond p x none
    either true = refl
    either false = rw (first-onto b (lines bs)) (rw (eqb-suc-zero (length (first_line (lines bs)))))
first-value (suc n) [] x = rw (eqb-zero-suc n)
first-value (suc n) (b ∷ bs) x = either (eqb b 10) refl (first-value n bs (more_hex x (hex_digit b)))
  where
    either : (p : Bool) → eqb b 10 ≡ p → value_at n (first_line (lines bs)) (more_hex x (hex_digit b)) ≡ line_from n bs (more_hex x (hex_digit b))
        → value_at (suc n) (first_line (cond p ([] ∷ lines bs) (onto b (lines bs)))) x ≡ line_from n bs (more_hex x (hex_digit b))
    either true e ih = rw (eqb-zero-suc n) (sym (ended n bs x b (eqb-true b 10 e)))
    either false e ih = rw (first-onto b (lines bs)) (rw (eqb-suc-suc (length (first_line (lines bs))) n) ih)

-- after a good line of n bytes, its line end dropped too, the lines go on
pub later-lines : (n : ℕ) (l : List ℕ) (x : Option ℕ) (y : ℕ) → line_from n l x ≡ some y → later_lines (lines l) ≡ lines (drop (suc n) l)
later-lines zero [] x y h = refl
later-lines zero (b ∷ bs) x y h = either (eqb b 10) h
  where
    either : (p : Bool) → cond p x none ≡ some y → later_lines (cond p ([] ∷ lines bs) (onto b (lines bs))) ≡ lines bs
    either true k = refl
    either false k = let z : ◌≡◌ {A = ℕ} 0 1 = cc in absurd (omega arith)
later-lines (suc n) [] x y h = let z : ◌≡◌ {A = ℕ} 0 1 = cc in absurd (omega arith)
later-lines (suc n) (b ∷ bs) x y h = either (eqb b 10) refl (later-lines n bs (more_hex x (hex_digit b)) y h)
  where
    either : (p : Bool) → eqb b 10 ≡ p → later_lines (lines bs) ≡ lines (drop (suc n) bs)
        → later_lines (cond p ([] ∷ lines bs) (onto b (lines bs))) ≡ lines (drop (suc n) bs)
    either true e ih =
        let k : none ≡ some y = sym (ended n bs x b (eqb-true b 10 e)) ∙ h in
        let z : ◌≡◌ {A = ℕ} 0 1 = cc in
        absurd (omega arith)
    either false e ih = later-onto b (lines bs) ∙ ih

-- ---- which bytes are a line of n bytes

pub too_short : (n : ℕ) (l : List ℕ) (x : Option ℕ) → length l < n → line_from n l x ≡ none
too_short zero l x h = absurd (omega arith)
too_short (suc n) [] x h = refl
too_short (suc n) (b ∷ bs) x h = too_short n bs (more_hex x (hex_digit b)) (omega arith)

pub too_long : (n : ℕ) (l : List ℕ) (x : Option ℕ) → n < length l → (get_or l n 0 ≡ 10 → ⊥) → line_from n l x ≡ none
too_long zero [] x h k = absurd (omega arith)
too_long zero (b ∷ bs) x h k = rw (ne_eqb b 10 k)
too_long (suc n) [] x h k = refl
too_long (suc n) (b ∷ bs) x h k = too_long n bs (more_hex x (hex_digit b)) (omega arith) k

pub long-enough : (n : ℕ) (l : List ℕ) (x : Option ℕ) → n ≤ length l → (n < length l → get_or l n 0 ≡ 10) → line_from n l x ≡ hex_from (take n l) x
long-enough zero [] x h k = refl
long-enough zero (b ∷ bs) x h k = rw (eq-eqb b 10 (k (omega arith)))
long-enough (suc n) [] x h k = absurd (omega arith)
long-enough (suc n) (b ∷ bs) x h k = long-enough n bs (more_hex x (hex_digit b)) (omega arith) (λ j. k (omega arith))
