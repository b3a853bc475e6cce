-- A word holds a number's last sixteen digits.
use Rattle.std.proofs.Common.{◌≡◌, ℕ, ◌+◌, ◌*◌, ◌%◌, ◌^◌, List, add-one, arith}
use Rattle.hexadecimal.specs.Digits.{digit_at, number_at}

-- and takes one digit more
pub one_more : (s : List ℕ) (at i : ℕ) → (number_at s at i % 2 ^ 64 * 16 % 2 ^ 64 + digit_at s (at + i)) % 2 ^ 64 ≡ number_at s at (i + 1) % 2 ^ 64
unfolding number_at
one_more s at i = rw add-one (more (number_at s at i) (digit_at s (at + i)))
  where
    more : (x d : ℕ) → (x % 2 ^ 64 * 16 % 2 ^ 64 + d) % 2 ^ 64 ≡ (16 * x + d) % 2 ^ 64
    more x d = omega arith
