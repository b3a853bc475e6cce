-- Where a bit stands: in which word, and at which place of that word.
use Rattle.std.specs.Prelude.{◌≡◌, ℕ, ◌-◌, ◌*◌, ◌/◌, ◌%◌, ◌^◌, ◌<◌}
use Rattle.limbs.specs.declared.word.Place.{Place}

pub record Splits (position : ℕ) (p : Place) : Type 0 where
  pub word : p.word ≡ position / 64
  pub bit : p.bit ≡ position % 64
  pub small : p.bit < 64

-- ---- how it is found: no step divides

-- the word: the position shifted down by 6
abbrev pub shifted_word : ℕ → ℕ
shifted_word i = i / 2 ^ 6

-- the place in it: the position less the word shifted up by 6
abbrev pub left_over : ℕ → ℕ
left_over i = i - shifted_word i * 2 ^ 6

-- bit i of a window: one of its twelve words, the quotient by 64, and one of that word's 64 places,
-- the remainder
pub record Found (i : ℕ) : Type 0 where
  pub quotient : shifted_word i ≡ i / 64
  pub remainder : left_over i ≡ i % 64
  pub word : shifted_word i < 12
  pub place : left_over i < 64

abbrev pub Window-bits : Type 0
Window-bits = (i : ℕ) → i < 768 → Found i
