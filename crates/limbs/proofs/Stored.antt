-- A term's words added in place to a window, and what the carry out of them says.
use Rattle.std.proofs.Common.{◌≡◌, ℕ, ◌+◌, ◌-◌, ◌*◌, ◌%◌, ◌^◌, ◌<◌, ◌≤◌, Bool, true, false, cond, eqb, ltb, List, get_or, set, sym, refl}
use Rattle.std.proofs.Common.{ap, ◌∙◌, add-zero, mod-eq_of_lt, one-mul, zero-add, zero-mul, sub-add_cancel, arith, get_or-set_other}
use Rattle.std.proofs.Common.{pow_pos, pow-add, ltb-false, eqb-true}
use native.Mathlib.Nat.{add-mod-mod, mod-mod}
use borrow.Author.Tests.{eqb-false}
use Rattle.limbs.specs.declared.word.Sum.{Sum}
use Rattle.limbs.specs.Value.{Words, value, moved}
use Rattle.limbs.proofs.Words.{words-set, inside, value-lt}
use Rattle.limbs.proofs.Step.{put, put_last, added, far, none, minus_is, wrapped}
use Rattle.limbs.specs.declared.term.Placed.{Placed}
use Rattle.limbs.specs.Placed.{sum, Makes, Room, Settles}
use Rattle.limbs.specs.Flipped.{flip}

-- ---- numbers

-- X and t make Q times B, of which s times B went over the end: k times B is left to take off
left_over : (v v₀ X B Q s k t : ℕ) → v + s * B ≡ v₀ + X → X + t ≡ Q * B → k + s ≡ Q → v + t ≡ v₀ + k * B
left_over v v₀ X B Q s k t e f g = omega (arith, ap (λ (n : ℕ). n * B) g)

no_more : (c w : ℕ) → c ≡ 0 → w ≡ 0 → c + w ≡ 0
no_more c w e f = omega arith

whole_word : (c w : ℕ) → c ≡ 1 → w ≡ 18446744073709551615 → c + w ≡ 2 ^ 64
whole_word c w e f = omega arith

-- what `add_word` says
abbrev pub Adds : ℕ → ℕ → ℕ → Sum → Type 0
Adds a b c r = (r.word + r.carry * 2 ^ 64 ≡ a + b + c) × (r.carry ≤ 1)

-- what `goes_on` says of a word that was `old`, where nothing goes on
abbrev Stays : Bool → ℕ → ℕ → Type 0
Stays neg old new = ltb (flip neg new) (flip neg old) ≡ false

-- then the carry out of it is that of the sign
carry-out : (neg : Bool) (old w c : ℕ) (r : Sum) → Room neg w → old < 2 ^ 64 → r.word < 2 ^ 64 → c ≤ 1 → Adds old w c r → Stays neg old r.word
    → r.carry ≡ cond neg 1 0
carry-out false old w c r h f g k a s = omega (arith, ltb-false r.word old s)
carry-out true old w c r h f g k a s = omega (arith, ltb-false (18446744073709551615 - r.word) (18446744073709551615 - old) s)

sign-carry : (neg : Bool) (p : Placed) (t : ℕ) → Makes neg p t → cond neg 1 0 ≡ p.carry
sign-carry false p t m = sym m.0
sign-carry true p t m = sym m.0

-- ---- the first two words, and the third

abbrev with_two : List ℕ → Placed → Sum → Sum → List ℕ
with_two l p x y = set (set l p.at x.word) (p.at + 1) y.word

abbrev with-three : List ℕ → Placed → Sum → Sum → Sum → List ℕ
with-three l p x y z = set (with_two l p x y) (p.at + 2) z.word

module _ (l : List ℕ) (w : Words 12 l) (p : Placed) (h : p.at < 11) (x y : Sum) (fx : x.word < 2 ^ 64) (fy : y.word < 2 ^ 64)
    (ex : x.word + x.carry * 2 ^ 64 ≡ get_or l p.at 0 + p.w0 + p.carry)
    (ey : y.word + y.carry * 2 ^ 64 ≡ get_or l (p.at + 1) 0 + p.w1 + x.carry) where
  two-words : Words 12 (with_two l p x y)
  two-words = words-set (p.at + 1) (words-set p.at w fx) fy

  two : value (with_two l p x y) + (y.carry + p.w2) * 2 ^ (64 * (p.at + 2)) ≡ value l + sum p
  two =
      put (set l p.at x.word) (p.at + 1) (p.at + 2) p.w1 p.w2 y.word x.carry y.carry _ (omega arith)
      (inside (words-set p.at w fx) (omega arith))
      (put l p.at (p.at + 1) p.w0 (p.w1 + p.w2 * 2 ^ 64) x.word p.carry x.carry _ refl (inside w (omega arith)) refl ex)
      (ey ∙ ap (λ (n : ℕ). n + p.w1 + x.carry) (sym (get_or-set_other l p.at (p.at + 1) x.word 0 (omega arith))))

  -- at the word 10 the third word lies past the window's end
  at-end : (neg : Bool) (t : ℕ) → p.at ≡ 10 → Makes neg p t → y.carry ≤ 1 → p.w2 < 2 ^ 64
      → Words 12 (with_two l p x y) × (value (with_two l p x y) ≡ moved neg (value l) t)
  at-end neg t e f c g = (two-words, go neg f)
    where
      go : (neg : Bool) → Makes neg p t → value (with_two l p x y) ≡ moved neg (value l) t
      go false f = added _ _ _ two-words (far 12 (p.at + 2) (y.carry + p.w2) (omega arith)) (two ∙ ap (λ (n : ℕ). value l + n) f.1)
      go true f =
          minus_is (2 ^ 768) _ (value l) t (2 ^ 64 - (y.carry + p.w2)) (pow_pos 768) (value-lt two-words)
          (left_over _ (value l) _ (2 ^ 768) (2 ^ 64) (y.carry + p.w2) (2 ^ 64 - (y.carry + p.w2)) t
          (ap (λ (n : ℕ). value (with_two l p x y) + (y.carry + p.w2) * 2 ^ (64 * (n + 2))) (sym e) ∙ two)
          (f.1 ∙ ap (λ (n : ℕ). 2 ^ (64 * (n + 3))) e ∙ pow-add 2 64 768) (sub-add_cancel (omega arith)))

  -- a term of one word: where the carry out of two words is the carry in, nothing is left to do
  even-two : (neg : Bool) (t : ℕ) → Makes neg p t → p.w2 ≡ flip neg 0 → y.carry ≡ p.carry
      → value (with_two l p x y) ≡ moved neg (value l) t
  even-two false t f g e =
      added 0 _ _ two-words (none 12 (p.at + 2) (y.carry + p.w2) (no_more _ _ (e ∙ f.0) g)) (two ∙ ap (λ (n : ℕ). value l + n) f.1)
  even-two true t f g e =
      minus_is (2 ^ 768) _ (value l) t 0 (pow_pos 768) (value-lt two-words)
      (left_over _ (value l) (sum p) (2 ^ (64 * (p.at + 3))) 1 1 0 t carried (f.1 ∙ sym (one-mul _)) refl
      ∙ ap (λ (n : ℕ). value l + n) (zero-mul (2 ^ (64 * (p.at + 3))) ∙ sym (zero-mul (2 ^ 768))))
    where
      whole : y.carry + p.w2 ≡ 2 ^ 64
      whole = whole_word _ _ (e ∙ f.0) g

      carried : value (with_two l p x y) + 1 * 2 ^ (64 * (p.at + 3)) ≡ value l + sum p
      carried =
          ap (λ (n : ℕ). value (with_two l p x y) + n)
          (one-mul _ ∙ ap (λ (n : ℕ). 2 ^ n) (omega arith) ∙ pow-add 2 64 (64 * (p.at + 2)) ∙ sym (ap (λ (n : ℕ). n * 2 ^ (64 * (p.at + 2))) whole)) ∙ two

  single : (neg : Bool) (t : ℕ) → Makes neg p t → p.w2 ≡ flip neg 0 → y.carry ≤ 1 → p.w2 < 2 ^ 64 → (p.at < 10 → y.carry ≡ p.carry)
      → Words 12 (with_two l p x y) × (value (with_two l p x y) ≡ moved neg (value l) t)
  single neg t f g c s e = go (eqb p.at 10) refl
    where
      go : (b : Bool) → eqb p.at 10 ≡ b
          → Words 12 (with_two l p x y) × (value (with_two l p x y) ≡ moved neg (value l) t)
      go true b = at-end neg t (eqb-true _ _ b) f c s
      go false b = let k : p.at ≡ 10 → ⊥ = eqb-false _ _ b in (two-words, even-two neg t f g (e (omega arith)))

  module _ (k : p.at ≡ 10 → ⊥) (z : Sum) (fz : z.word < 2 ^ 64)
      (ez : z.word + z.carry * 2 ^ 64 ≡ get_or l (p.at + 2) 0 + p.w2 + y.carry) where
    three-words : Words 12 (with-three l p x y z)
    three-words = words-set (p.at + 2) two-words fz

    three : value (with-three l p x y z) + z.carry * 2 ^ (64 * (p.at + 3)) ≡ value l + sum p
    three =
        put_last (with_two l p x y) (p.at + 2) (p.at + 3) p.w2 z.word y.carry z.carry _ (omega arith)
        (inside two-words (omega arith)) two (ez ∙ ap (λ (n : ℕ). n + p.w2 + y.carry) (sym unread))
      where
        unread : get_or (with_two l p x y) (p.at + 2) 0 ≡ get_or l (p.at + 2) 0
        unread =
            get_or-set_other (set l p.at x.word) (p.at + 1) (p.at + 2) y.word 0 (omega arith)
            ∙ get_or-set_other l p.at (p.at + 2) x.word 0 (omega arith)

    -- the carry out is the carry in: nothing is left to do
    even : (neg : Bool) (t : ℕ) → Makes neg p t → z.carry ≡ p.carry
        → Words 12 (with-three l p x y z)
        × (value (with-three l p x y z) ≡ moved neg (value l) t)
    even neg t f e = (three-words, go neg f)
      where
        go : (neg : Bool) → Makes neg p t → value (with-three l p x y z) ≡ moved neg (value l) t
        go false f = added 0 _ _ three-words (none 12 (p.at + 3) z.carry (e ∙ f.0)) (three ∙ ap (λ (n : ℕ). value l + n) f.1)
        go true f =
            minus_is (2 ^ 768) _ (value l) t 0 (pow_pos 768) (value-lt three-words)
            (left_over _ (value l) (sum p) (2 ^ (64 * (p.at + 3))) 1 z.carry 0 t three (f.1 ∙ sym (one-mul _)) (zero-add _ ∙ e ∙ f.0)
            ∙ ap (λ (n : ℕ). value l + n) (zero-mul (2 ^ (64 * (p.at + 3))) ∙ sym (zero-mul (2 ^ 768))))

-- ---- the window with a term's words stored: below the last words the carry out is the carry in;
-- at them it leaves the window

-- a term counts modulo 2 ^ 768
moved-mod : (neg : Bool) (a t : ℕ) → moved neg a (t % 2 ^ 768) ≡ moved neg a t
moved-mod false a t = add-mod-mod a t (2 ^ 768)
moved-mod true a t = ap (λ (n : ℕ). (a + (2 ^ 768 - n)) % 2 ^ 768) (mod-mod t (2 ^ 768))

none-small : (neg : Bool) {x : ℕ} → x ≡ flip neg 0 → x < 2 ^ 64
none-small false e = omega arith
none-small true e = omega arith

-- a term that is nothing within the window changes nothing
pub past-moved : (neg : Bool) {l : List ℕ} (t : ℕ) → Words 12 l → t % 2 ^ 768 ≡ 0 → value l ≡ moved neg (value l) t
past-moved neg {l} t w e = go neg ∙ moved-mod neg (value l) t
  where
    go : (neg : Bool) → value l ≡ moved neg (value l) (t % 2 ^ 768)
    go false = rw e (sym (ap (λ (n : ℕ). n % 2 ^ 768) (add-zero (value l)) ∙ mod-eq_of_lt (value-lt w)))
    go true = minus_is (2 ^ 768) (value l) (value l) _ 0 (pow_pos 768) (value-lt w) (ap (λ (n : ℕ). value l + n) (e ∙ sym (zero-mul (2 ^ 768))))

module _ {l : List ℕ} (w : Words 12 l) {neg : Bool} {t : ℕ} {p : Placed} where
  -- two words, of a term of one word
  module _ (s : Settles 10 p.w1 neg t p) (none : p.w2 ≡ flip neg 0) {x y : Sum} (fx : x.word < 2 ^ 64) (fy : y.word < 2 ^ 64)
      (ex : Adds (get_or l p.at 0) p.w0 p.carry x) (ey : Adds (get_or l (p.at + 1) 0) p.w1 x.carry y)
      (stays : Stays neg (get_or l (p.at + 1) 0) y.word) where
    out : p.at < 10 → y.carry ≡ p.carry
    out h = carry-out neg _ _ _ y (s.room h) (w.fit _) fy ex.1 ey stays ∙ sign-carry neg p _ s.exact

    low : p.at < 11
    low = omega (arith, s.word)

    stored : Words 12 (with_two l p x y) × (value (with_two l p x y) ≡ moved neg (value l) (t % 2 ^ 768))
    stored = single l w p low x y fx fy ex.0 ey.0 neg (t % 2 ^ 768) s.exact none ey.1 (none-small neg none) out

    pub two-stored : Words 12 (set (set l p.at x.word) (p.at + 1) y.word)
    two-stored = stored.0

    pub two-moved : value (set (set l p.at x.word) (p.at + 1) y.word) ≡ moved neg (value l) t
    two-moved = stored.1 ∙ moved-mod neg (value l) t

  -- three words
  module _ (s : Settles 9 p.w2 neg t p) {x y z : Sum} (fx : x.word < 2 ^ 64) (fy : y.word < 2 ^ 64) (fz : z.word < 2 ^ 64)
      (ex : Adds (get_or l p.at 0) p.w0 p.carry x) (ey : Adds (get_or l (p.at + 1) 0) p.w1 x.carry y)
      (ez : Adds (get_or l (p.at + 2) 0) p.w2 y.carry z) (stays : Stays neg (get_or l (p.at + 2) 0) z.word) where
    out₃ : p.at < 9 → z.carry ≡ p.carry
    out₃ h = carry-out neg _ _ _ z (s.room h) (w.fit _) fz ey.1 ez stays ∙ sign-carry neg p _ s.exact

    low₃ : p.at < 11
    low₃ = omega (arith, s.word)

    other : p.at ≡ 10 → ⊥
    other e = omega (arith, s.word)

    abbrev after : List ℕ
    after = with-three l p x y z

    pub three-stored : Words 12 (set (set (set l p.at x.word) (p.at + 1) y.word) (p.at + 2) z.word)
    three-stored = three-words l w p low₃ x y fx fy ex.0 ey.0 other z fz ez.0

    pub three-moved : value (set (set (set l p.at x.word) (p.at + 1) y.word) (p.at + 2) z.word) ≡ moved neg (value l) t
    three-moved = go neg s.exact (eqb p.at 9) refl ∙ moved-mod neg (value l) t
      where
        at-nine : p.at ≡ 9 → value after + z.carry * 2 ^ 768 ≡ value l + sum p
        at-nine e = ap (λ (n : ℕ). value after + z.carry * 2 ^ (64 * (n + 3))) (sym e) ∙ three l w p low₃ x y fx fy ex.0 ey.0 other z fz ez.0

        go : (neg : Bool) → Makes neg p (t % 2 ^ 768) → (b : Bool) → eqb p.at 9 ≡ b → value after ≡ moved neg (value l) (t % 2 ^ 768)
        go neg m false b = (even l w p low₃ x y fx fy ex.0 ey.0 other z fz ez.0 neg _ m (out₃ (omega (arith, s.word, eqb-false p.at 9 b)))).1
        go false m true b = wrapped (2 ^ 768) _ _ z.carry (value-lt three-stored) (at-nine (eqb-true p.at 9 b) ∙ ap (λ (n : ℕ). value l + n) m.1)
        go true m true b =
            minus_is (2 ^ 768) _ (value l) _ (1 - z.carry) (pow_pos 768) (value-lt three-stored)
            (left_over _ (value l) (sum p) (2 ^ 768) 1 z.carry (1 - z.carry) _ (at-nine (eqb-true p.at 9 b))
            (m.1 ∙ ap (λ (n : ℕ). 2 ^ (64 * (n + 3))) (eqb-true p.at 9 b) ∙ sym (one-mul (2 ^ 768))) (sub-add_cancel ez.1))
