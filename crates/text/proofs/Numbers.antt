-- The number that some digits write, read one by one.
use Rattle.std.proofs.Common.{◌≡◌, refl, sym, ap, ◌∙◌, ℕ, ◌+◌, ◌*◌, ◌^◌, ◌<◌, List, length, drop, get_or, drop-cons, arith, add-one, lit<}
use Rattle.std.proofs.lemmas.Grind.{common_steps}
use Rattle.std.proofs.Math.Nat.{pow-suc, pow-le-pow_right}
use Rattle.std.specs.Prelude as code
use Rattle.std.proofs.Math.Option.{Option, none, some}
use Rattle.totals_spec.specs.program.Program.{hex_digit, more_hex, hex_from}
use Rattle.hexadecimal.specs.Digits.{option_of, digit_of}
use Rattle.text.proofs.FirstLine.{hex-none}

-- i of them are read, and x is their number
pub record SoFar (l : List ℕ) (i x : ℕ) : Type 0 where
  pub small : x < 16 ^ i
  pub rest : hex_from l (some 0) ≡ hex_from (drop i l) (some x)

digit-small : (b d : ℕ) → hex_digit b ≡ some d → d < 16
digit-small b d e = grind (arith, common_steps)

one_more : (l : List ℕ) (i x : ℕ) → i < length l → SoFar l i x
    → hex_from l (some 0) ≡ hex_from (drop (i + 1) l) (more_hex (some x) (hex_digit (get_or l i 0)))
one_more l i x h s = s.rest ∙ rw (add-one, drop-cons l i 0) refl

-- the next byte is no digit
pub so_far_bad : (l : List ℕ) (i x : ℕ) → i < length l → SoFar l i x → digit_of (get_or l i 0) ≡ code.None → code.None ≡ option_of (hex_from l (some 0))
so_far_bad l i x h s e = bad (hex_digit (get_or l i 0)) e (one_more l i x h s)
  where
    bad : (d : Option ℕ) → option_of d ≡ code.None → hex_from l (some 0) ≡ hex_from (drop (i + 1) l) (more_hex (some x) d)
        → code.None ≡ option_of (hex_from l (some 0))
    bad none e k = sym (ap option_of (k ∙ hex-none (drop (i + 1) l)))
    bad (some d) e k = cc

pub so_far_next : (l : List ℕ) (i x d : ℕ) → i < length l → SoFar l i x → digit_of (get_or l i 0) ≡ code.Some d → (d < 16) × SoFar l (i + 1) (x * 16 + d)
so_far_next l i x d h s e = next (hex_digit (get_or l i 0)) e refl (one_more l i x h s)
  where
    next : (o : Option ℕ) → option_of o ≡ code.Some d → hex_digit (get_or l i 0) ≡ o → hex_from l (some 0) ≡ hex_from (drop (i + 1) l) (more_hex (some x) o)
        → (d < 16) × SoFar l (i + 1) (x * 16 + d)
    next none e q k = cc
    next (some c) e q k =
        let same : c ≡ d = cc in
        let small : c < 16 = digit-small (get_or l i 0) c q in
        let value : 16 * x + c ≡ x * 16 + d = omega arith in (
          omega arith,
          record {
            small = rw (add-one i) (rw (pow-suc 16 i) (below x (16 ^ i) d s.small (omega arith)));
            rest = k ∙ ap (λ (n : ℕ). hex_from (drop (i + 1) l) (some n)) value;
          },
        )
      where
        below : (x p d : ℕ) → x < p → d < 16 → x * 16 + d < p * 16
        below x p d h k = omega arith

-- fewer than 16 digits are below 2 ^ 60
pub room : (l : List ℕ) (i x : ℕ) → i < 16 → SoFar l i x → x < 1152921504606846976
room l i x h s = omega (arith, s.small, pow-le-pow_right {n = 16} (lit< tt) {i = i} {j = 15} (omega arith))
