-- Rearrangements: two lists that have every element, or every pair of a dot, equally many times.
-- And lists that hold a NaN, for which the order counts.
use Rattle.std.specs.Prelude.{◌≡◌, Bool, List, ℕ, ◌&&◌, eqb, not}
use Rattle.totals_spec.specs.Basics.{flag, total, any}
use Rattle.totals_spec.specs.formats.Format.{Format}
use Rattle.totals_spec.specs.formats.Decode.{decode, is_nan}
use Rattle.totals_spec.specs.ten_bytes.Extended.{unsupported, decode_extended}

module _ {A : Type 0} (same : A → A → Bool) where
  -- how often x stands in a list
  abbrev pub count : A → List A → ℕ
  count x l = total (λ y. flag 1 (same y x)) l

  abbrev pub AsOften : List A → List A → Type 0
  AsOften l₁ l₂ = (x : A) → count x l₁ ≡ count x l₂

abbrev pub same_pair : ℕ × ℕ → ℕ × ℕ → Bool
same_pair x y = eqb x.0 y.0 && eqb x.1 y.1

abbrev pub holds_nan : Format → List ℕ → Bool
holds_nan f l = any (λ b. is_nan (decode f b)) l

-- of kind 4 no NaN is looked at where some encoding is unsupported
abbrev pub nan_looked_at : List ℕ → Bool
nan_looked_at l = not (any unsupported l) && any (λ b. is_nan (decode_extended b)) l
