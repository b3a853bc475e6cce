-- Digits that are written are read back.
use mathlib.Core.Path.{◌≡◌, refl, sym, ap, ◌∙◌, subst}
use mathlib.Core.Logic.{inl, inr, ◌≢◌}
use mathlib.Core.Bool.{Bool, true, false, not, cond}
use mathlib.Core.List.{List, [], ◌∷◌, ◌++◌}
use Prim.Native.Nat.{ℕ, zero, suc, ◌+◌, ◌/◌, ◌%◌, ◌^◌, ◌≤◌, ◌<◌}
use native.Mathlib.Nat.{mod-lt, mod-eq_of_lt, div-lt_iff_lt-mul, pow-succ', mul_comm, pow-le-pow_left, pow-le-pow_right, le_trans, lt_of_lt_of_le}
use native.Mathlib.Omega.{arith}
use lib.Dec.{T, ltb, ltb→lt, nltb→le}
use lib.Ieee.{size}
use lib.Ieee.Digits.{size-lt}
use lib.ListN.{length, get_or, length-append, get_or-append}
use borrow.Author.Tests.{ne_eqb, eq-eqb}
use Rattle.std.specs.Char.{digit_value}
use Rattle.std.specs.Str.Parse.{digits_value}
use Rattle.std.proofs.lemmas.Int.Digits.{digits_value_push}
use Rattle.std.proofs.lemmas.Str.{digit_value-digit_char, digit_value_digit}
use Rattle.totals_spec.specs.program.Program.{hex_byte, hex_text, decimal_from, answer_text}
use Rattle.promises.specs.Special.{AllOf}
use Rattle.promises.specs.Lines.{Digit}
use Rattle.promises.specs.HeldText.{Hex-reads, Decimal, Decimal-reads, Figure-reads, Pence-line, Four-lines}
use Rattle.promises.proofs.records.LinesRead.{all-append, hex-long}

-- ---- hex

glyph : (d : ℕ) → d < 16 → Digit (hex_byte d)
glyph d h = go (ltb d 10) (ltb→lt d 10) (nltb→le d 10)
  where
    go : (t : Bool) → (T t → d < 10) → (T (not t) → 10 ≤ d) → Digit (cond t (d + 48) (d + 87))
    go true l g = inl (omega arith, omega (arith, l tt))
    go false l g = inr (omega (arith, g tt), omega (arith, h))

glyph-value : (d : ℕ) → d < 16 → digit_value (hex_byte d) ≡ d
glyph-value d h =
    ap digit_value (go (ltb d 10)) ∙ digit_value-digit_char d (omega (arith, h))
  where
    go : (t : Bool) → cond t (d + 48) (d + 87) ≡ cond t (48 + d) (87 + d)
    go true = omega arith
    go false = omega arith

sixteenth : (n x : ℕ) → x < 16 ^ suc n → x / 16 < 16 ^ n
sixteenth n x h = (div-lt_iff_lt-mul (omega arith)).1 (subst (λ (z : ℕ). x < z) (pow-succ' 16 n ∙ mul_comm 16 (16 ^ n)) h)

hex-digits : (n x : ℕ) → AllOf Digit (hex_text n x)
unfolding hex_text
hex-digits zero x = tt
hex-digits (suc n) x = all-append Digit (hex_text n (x / 16)) (hex_byte (x % 16) ∷ []) (hex-digits n (x / 16)) (glyph (x % 16) (mod-lt x (omega arith)), tt)

hex-value : (n x : ℕ) → x < 16 ^ n → digits_value 16 (hex_text n x) ≡ x
unfolding hex_text
hex-value zero x h = omega (arith, h)
hex-value (suc n) x h =
    let front : digits_value 16 (hex_text n (x / 16)) ≡ x / 16 = hex-value n (x / 16) (sixteenth n x h) in
    let last : digit_value (hex_byte (x % 16)) ≡ x % 16 = glyph-value (x % 16) (mod-lt x (omega arith)) in
    digits_value_push 16 (hex_text n (x / 16)) (hex_byte (x % 16)) ∙ omega (arith, front, last)

pub hex-reads : Hex-reads
hex-reads n x h = (hex-long n x, hex-digits n x, hex-value n x h)

-- ---- decimal

digit : (d : ℕ) → d < 10 → Decimal (d + 48)
digit d h = (omega arith, omega (arith, h))

digit-value : (d : ℕ) → d < 10 → digit_value (d + 48) ≡ d
digit-value d h = omega (arith, digit_value_digit (d + 48) (digit d h))

tenth : (f x : ℕ) → x < 10 ^ suc f → x / 10 < 10 ^ f
tenth f x h = (div-lt_iff_lt-mul (omega arith)).1 (subst (λ (z : ℕ). x < z) (pow-succ' 10 f ∙ mul_comm 10 (10 ^ f)) h)

-- what is written of x, where it has no more than f + 1 digits
record Written (x : ℕ) (ds : List ℕ) : Type 0 where
  digits : AllOf Decimal ds
  value : digits_value 10 ds ≡ x
  some : 0 < length ds
  first : 0 < x → get_or ds 0 0 ≢ 48

one : (x : ℕ) → x < 10 → Written x ((x + 48) ∷ [])
one x h = record {
  digits = (digit x h, tt);
  value = omega (arith, digit-value x h);
  some = omega arith;
  first = λ p e. omega (arith, p, e);
}

further : (x : ℕ) (ds : List ℕ) → 10 ≤ x → Written (x / 10) ds → Written x (ds ++ ((x % 10 + 48) ∷ []))
further x ds h w = record {
  digits = all-append Decimal ds ((x % 10 + 48) ∷ []) w.digits (digit (x % 10) (mod-lt x (omega arith)), tt);
  value = digits_value_push 10 ds (x % 10 + 48) ∙ omega (arith, w.value, digit-value (x % 10) (mod-lt x (omega arith)));
  some = rw length-append (omega (arith, w.some));
  first = λ p e. w.first (omega (arith, h)) (sym (get_or-append ds ((x % 10 + 48) ∷ []) 0 0 w.some) ∙ e);
}

written : (f x : ℕ) → x < 10 ^ suc f → Written x (decimal_from f x)
unfolding decimal_from
written zero x h = rw (mod-eq_of_lt h) (one x h)
written (suc f) x h = go (ltb x 10) (ltb→lt x 10) (nltb→le x 10) (written f (x / 10) (tenth (suc f) x h))
  where
    go : (t : Bool) → (T t → x < 10) → (T (not t) → 10 ≤ x) → Written (x / 10) (decimal_from f (x / 10))
        → Written x (cond t ((x + 48) ∷ []) (decimal_from f (x / 10) ++ ((x % 10 + 48) ∷ [])))
    go true l g w = one x (l tt)
    go false l g w = further x (decimal_from f (x / 10)) (g tt) w

small : (x : ℕ) → x < 10 ^ suc (size x)
small x = lt_of_lt_of_le (size-lt x) (le_trans (pow-le-pow_left {n = 2} {m = 10} (omega arith) (size x)) (pow-le-pow_right {n = 10} (omega arith) (omega arith)))

pub decimal-reads : Decimal-reads
unfolding decimal_from size
decimal-reads = ((λ x. let w = written (size x) x (small x) in (w.digits, w.value, w.first)), refl)

pub figure-reads : Figure-reads
figure-reads = ((λ n. refl), λ n. refl)

pub pence-line : Pence-line
pence-line p = ((λ e. rw (eq-eqb p.refusal 0 e) refl), λ e. rw (ne_eqb p.refusal 0 e) refl)

pub four-lines : Four-lines
unfolding answer_text
four-lines r p = refl
