-- Digits one by one, and what a line without a value is.
use Rattle.std.proofs.Common.{◌≡◌, refl, sym, ap, ◌∙◌, subst, ℕ, ◌+◌, ◌*◌, ◌≤◌, ◌<◌, length, take, get_or, arith}
use mathlib.Core.Bool.{Bool, true, false}
use mathlib.Core.List.{List, [], ◌∷◌, ◌++◌}
use mathlib.Core.Option.{Option, none, some}
use lib.Dec.{ltb}
use lib.Seq.{take_all, take-take}
use Rattle.std.proofs.lemmas.List.{length-take, get_or-take}
use borrow.Author.Tests.{eq-eqb, ltb-true, ltb-false}
use Rattle.std.specs.Prelude.{is_some}
use Rattle.std.proofs.lemmas.List.{take_more}
use Rattle.totals_spec.specs.program.Program.{hex_digit, more_hex, hex_from, line_value}
use Rattle.hexadecimal.specs.Digits.{option_of, digit_of}
use Rattle.text.specs.Reasons.{AreDigits, StandsFirst, IsCapital, HasCapital, Tells}
use Rattle.text.specs.declared.reason.Reason.{Reason}
use Rattle.text.specs.declared.reason.Reason.TheVariants.{TooManyLines, ByteOrderMark, Empty, CarriageReturn, Capital, NotHex, TooShort, TooLong}

hex-append : (a b : List ℕ) (x : Option ℕ) → hex_from (a ++ b) x ≡ hex_from b (hex_from a x)
hex-append [] b x = refl
hex-append (c ∷ cs) b x = hex-append cs b (more_hex x (hex_digit c))

pub no_digits : (l : List ℕ) → AreDigits (take 0 l)
no_digits l = (0, refl)

digit-there : (o : Option ℕ) → is_some (option_of o) ≡ true → (d : ℕ) × (o ≡ some d)
digit-there none e = cc
digit-there (some d) e = (d, refl)

pub no_digit : (o : Option ℕ) → is_some (option_of o) ≡ false → o ≡ none
no_digit none e = refl
no_digit (some d) e = cc

pub more_digits : (l : List ℕ) (i : ℕ) → i < length l → AreDigits (take i l) → is_some (digit_of (get_or l i 0)) ≡ true
    → AreDigits (take (i + 1) l)
more_digits l i h a k =
    let b = get_or l i 0 in
    let d = digit-there (hex_digit b) k in
    let value : hex_from (take i l ++ b ∷ []) (some 0) ≡ some (16 * a.0 + d.0) =
    hex-append (take i l) (b ∷ []) (some 0) ∙ ap (λ (o : Option ℕ). more_hex o (hex_digit b)) a.1 ∙ ap (more_hex (some a.0)) d.1 in
    (16 * a.0 + d.0, ap (λ (s : List ℕ). hex_from s (some 0)) (take_more l i 0 h) ∙ value)

pub all_digits : (l : List ℕ) (i : ℕ) → length l ≤ i → AreDigits (take i l) → AreDigits l
all_digits l i h a = subst AreDigits (take_all i l h) a

not_some : (x : ℕ) → none ≡ some x → ⊥
not_some x e = cc

-- 16 digits and no more are a value
pub goes_on : (l : List ℕ) → 16 ≤ length l → AreDigits (take 16 l) → line_value l ≡ none → 16 < length l
goes_on l h a e = go (ltb 16 (length l)) refl
  where
    value : length l ≡ 16 → none ≡ some a.0
    value q =
        sym e ∙ rw (eq-eqb (length l) 16 q) refl
        ∙ ap (λ (s : List ℕ). hex_from s (some 0)) (sym (take_all 16 l (omega (arith, q)))) ∙ a.1

    go : (p : Bool) → ltb 16 (length l) ≡ p → 16 < length l
    go true q = ltb-true 16 (length l) q
    go false q = absurd (not_some a.0 (value (omega (arith, h, ltb-false 16 (length l) q))))

-- what stands in the front of a line stands in the line
pub stray_of_front : (l : List ℕ) (k place : ℕ) → StandsFirst place (take k l) → StandsFirst place l
stray_of_front l k place s =
    let below : place < k = omega (arith, s.0, length-take k l) in (
      omega (arith, s.0, length-take k l),
      subst AreDigits (take-take place k l (omega (arith, below))) s.1,
      ap hex_digit (sym (get_or-take k l place 0 below)) ∙ s.2,
    )

pub capital_at : (l : List ℕ) (k place : ℕ) → StandsFirst place (take k l) → IsCapital (get_or l place 0) → HasCapital (place + 1) l
capital_at l k place s h = (get_or l place 0, (place, refl, stray_of_front l k place s, refl), h)

-- what is told of a line that is not one too many depends on its bytes alone
pub told_of : (r : Reason) (n : ℕ) (a b : List ℕ) → (n ≤ 8192 → a ≡ b) → Tells r n a → Tells r n b
told_of TooManyLines n a b e t = t
told_of ByteOrderMark n a b e t = subst (Tells ByteOrderMark n) (e t.0) t
told_of Empty n a b e t = subst (Tells Empty n) (e t.0) t
told_of CarriageReturn n a b e t = subst (Tells CarriageReturn n) (e t.0) t
told_of (Capital c) n a b e t = subst (Tells (Capital c) n) (e t.0) t
told_of (NotHex c x) n a b e t = subst (Tells (NotHex c x) n) (e t.0) t
told_of (TooShort c) n a b e t = subst (Tells (TooShort c) n) (e t.0) t
told_of TooLong n a b e t = subst (Tells TooLong n) (e t.0) t
