-- The finite numbers of an Ieee format and their ranks.
use mathlib.Core.Path.{◌≡◌, refl, sym, ap, ap₂, ◌∙◌, subst}
use mathlib.Core.Logic.{◌≢◌}
use mathlib.Core.Bool.{Bool, true, false, not, cond, true≢false}
use Prim.Native.Nat.{ℕ, zero, suc, ◌+◌, ◌-◌, ◌*◌, ◌/◌, ◌%◌, ◌^◌, ◌≤◌, ◌<◌}
use native.Mathlib.Nat.{mod-lt, div-lt_iff_lt-mul, suc-mul, mul-le-mul_right}
use native.Mathlib.Omega.{arith}
use lib.Dec.{T, ltb, eqb}
use lib.Arith.{digits_div, digits_mod}
use lib.Pow.{pow-add, pow_pos, shr_lt, split, field}
use borrow.Author.Tests.{ltb-true, ltb-false, eq-eqb, ne_eqb}
use Rattle.totals_spec.specs.Basics.{flag}
use Rattle.totals_spec.specs.formats.Bounds.{RangeBounds}
use Rattle.totals_spec.specs.formats.Format.{Format, Kind, ieee, kind_of, fraction_bits}
use Rattle.totals_spec.specs.formats.Decode.{infinity, nan, sign_bit, field_of, fraction_of, number}
use Rattle.totals_spec.specs.formats.Decode.{decode_fields, decode, is_number}
use Rattle.totals_spec.proofs.numbers.Powers.{pow-next}
use Rattle.totals_spec.proofs.formats.ExponentRange.{four-fields}
use Rattle.totals_spec.proofs.formats.Valid.{format-bounds}
use Rattle.targets_spec.specs.contribution.Conditions.{FiniteIn}
use Rattle.targets_spec.specs.contribution.Contribution.{ranked, rank_of, number_at, first_rank}
use Rattle.targets_spec.specs.contribution.Contribution.{last_rank}
use Rattle.targets_spec.specs.contribution.Promises.{Rank-order, Rank-number}
use Rattle.targets_spec.proofs.contribution.Ranks.{rank-ordered}

module _ (f : Format) (b : RangeBounds f) (kind : kind_of f.kind ≡ ieee) where
  abbrev half : ℕ
  half = 2 ^ (f.W - 1)

  -- how many magnitudes are finite
  abbrev many : ℕ
  many = (2 ^ f.E - 1) * 2 ^ fraction_bits f

  place : f.W - 1 ≡ f.E + fraction_bits f
  place = omega (arith, b.w-ge)

  half_is : 2 ^ (f.W - 1) ≡ many + 2 ^ fraction_bits f
  half_is =
      ap (λ (n : ℕ). 2 ^ n) place ∙ pow-add 2 f.E (fraction_bits f) ∙ ap (λ (n : ℕ). n * 2 ^ fraction_bits f) one
      ∙ suc-mul (2 ^ f.E - 1) (2 ^ fraction_bits f)
    where
      one : 2 ^ f.E ≡ suc (2 ^ f.E - 1)
      one = omega (arith, pow_pos f.E)

  whole_is : 2 ^ f.W ≡ 2 * 2 ^ (f.W - 1)
  whole_is = pow-next f.W (omega (arith, b.w-ge))

  -- ---- an encoding by its sign and the bits below it

  abbrev bits_of : ℕ → ℕ
  bits_of n = n % 2 ^ (f.W - 1)

  by_sign : (n : ℕ) → n < 2 ^ f.W → n ≡ flag (2 ^ (f.W - 1)) (sign_bit f n) + bits_of n
  by_sign n h = omega (arith, split n (f.W - 1), sign (n / 2 ^ (f.W - 1)) (shr_lt 1 (f.W - 1) (subst (λ (k : ℕ). n < 2 ^ k) one h)))
    where
      one : f.W ≡ 1 + (f.W - 1)
      one = omega (arith, b.w-ge)

      sign : (q : ℕ) → q < 2 → flag (2 ^ (f.W - 1)) (eqb (q % 2) 1) ≡ q * 2 ^ (f.W - 1)
      sign zero k = omega arith
      sign (suc zero) k = omega arith
      sign (suc (suc q)) k = absurd (let z : ⊥ = omega (arith, k) in z)

  abbrev signed : Bool → ℕ → ℕ
  signed s u = flag 1 s * 2 ^ (f.W - 1) + u

  sign_of : (s : Bool) (u : ℕ) → u < 2 ^ (f.W - 1) → sign_bit f (signed s u) ≡ s
  sign_of s u h = ap (λ (n : ℕ). eqb (n % 2) 1) (digits_div (flag 1 s) h) ∙ go s
    where
      go : (t : Bool) → eqb (flag 1 t % 2) 1 ≡ t
      go true = refl
      go false = refl

  rank-of : (s : Bool) (u : ℕ) → u < 2 ^ (f.W - 1) → rank_of f (signed s u) ≡ ranked f s u
  unfolding rank_of
  rank-of s u h = ap₂ (ranked f) (sign_of s u h) (digits_mod (flag 1 s) h)

  -- ---- it is finite where those bits are below the infinity's

  field_is : (n : ℕ) → field_of f n ≡ bits_of n / 2 ^ fraction_bits f
  field_is n = rw place (sym (field n f.E (fraction_bits f)))

  number-by-field : (n : ℕ) → is_number (decode f n) ≡ not (eqb (field_of f n) (2 ^ f.E - 1))
  unfolding decode
  number-by-field n =
      ap (λ (k : Kind). is_number (decode_fields k f (sign_bit f n) (field_of f n) (fraction_of f n))) kind
      ∙ go (eqb (field_of f n) (2 ^ f.E - 1)) (eqb (fraction_of f n) 0) (sign_bit f n) (field_of f n) (fraction_of f n) _ _
    where
      is-number : (t : ℕ) (s : Bool) (x m : ℕ) → is_number (number t s x m) ≡ true
      is-number t s zero zero = refl
      is-number t s zero (suc m) = refl
      is-number t s (suc x) m = refl

      go : (a z s : Bool) (x m : ℕ) (g : Bool) (k : ℕ) → is_number (cond a (cond z (infinity s) (nan s g k)) (number (fraction_bits f) s x m)) ≡ not a
      go true true s x m g k = refl
      go true false s x m g k = refl
      go false z s x m g k = is-number (fraction_bits f) s x m

  few_bits : (n : ℕ) → T (is_number (decode f n)) → bits_of n < many
  few_bits n h = (div-lt_iff_lt-mul (pow_pos (fraction_bits f))).0 (subst (λ (x : ℕ). x < 2 ^ f.E - 1) (field_is n) below)
    where
      other : field_of f n ≢ 2 ^ f.E - 1
      other e = subst (λ (t : Bool). T (not t)) (eq-eqb (field_of f n) (2 ^ f.E - 1) e) (subst T (number-by-field n) h)

      below : field_of f n < 2 ^ f.E - 1
      below = omega (arith, other, mod-lt (n / 2 ^ fraction_bits f) (pow_pos f.E))

  finite-bits : (n : ℕ) → bits_of n < many → T (is_number (decode f n))
  finite-bits n h = subst T (sym (number-by-field n)) (rw (ne_eqb (field_of f n) (2 ^ f.E - 1) other) tt)
    where
      other : field_of f n ≢ 2 ^ f.E - 1
      other e = omega (arith, e, field_is n, (div-lt_iff_lt-mul (pow_pos (fraction_bits f))).1 h)

  -- ---- THE RANK of a finite number

  module _ (n : ℕ) (h : FiniteIn f n) where
    rank-inside : (first_rank f ≤ rank_of f n) × (rank_of f n ≤ last_rank f)
    unfolding rank_of first_rank last_rank
    rank-inside = go (sign_bit f n) (few_bits n h.1)
      where
        go : (s : Bool) → bits_of n < many
            → (first_rank f ≤ ranked f s (bits_of n)) × (ranked f s (bits_of n) ≤ last_rank f)
        go true l = (omega (arith, l, half_is), omega (arith, l, half_is, whole_is, pow_pos (fraction_bits f)))
        go false l = (omega (arith, l, half_is, pow_pos (fraction_bits f)), omega (arith, l, half_is, whole_is))

    rank-back : n ≢ 2 ^ (f.W - 1) → number_at f (rank_of f n) ≡ n
    unfolding rank_of number_at
    rank-back e = go (sign_bit f n) (bits_of n) (mod-lt n (pow_pos (f.W - 1))) (by_sign n h.0)
      where
        go : (s : Bool) (u : ℕ) → u < 2 ^ (f.W - 1) → n ≡ flag (2 ^ (f.W - 1)) s + u
            → cond (ltb (ranked f s u) (2 ^ (f.W - 1))) (2 ^ (f.W - 1) + (2 ^ (f.W - 1) - ranked f s u)) (ranked f s u - 2 ^ (f.W - 1)) ≡ n
        go true u l i = pick (ltb (2 ^ (f.W - 1) - u) (2 ^ (f.W - 1))) refl
          where
            pick : (t : Bool) → ltb (2 ^ (f.W - 1) - u) (2 ^ (f.W - 1)) ≡ t
                → cond t (2 ^ (f.W - 1) + (2 ^ (f.W - 1) - (2 ^ (f.W - 1) - u))) (2 ^ (f.W - 1) - u - 2 ^ (f.W - 1)) ≡ n
            pick true j = omega (arith, l, i)
            pick false j = absurd (e (omega (arith, i, ltb-false (2 ^ (f.W - 1) - u) (2 ^ (f.W - 1)) j, pow_pos (f.W - 1))))
        go false u l i = pick (ltb (2 ^ (f.W - 1) + u) (2 ^ (f.W - 1))) refl
          where
            pick : (t : Bool) → ltb (2 ^ (f.W - 1) + u) (2 ^ (f.W - 1)) ≡ t
                → cond t (2 ^ (f.W - 1) + (2 ^ (f.W - 1) - (2 ^ (f.W - 1) + u))) (2 ^ (f.W - 1) + u - 2 ^ (f.W - 1)) ≡ n
            pick true j = absurd (let z : ⊥ = omega (arith, ltb-true (2 ^ (f.W - 1) + u) (2 ^ (f.W - 1)) j) in z)
            pick false j = omega (arith, i)

  -- ---- THE NUMBER of a rank

  record Numbered (r n : ℕ) : Type 0 where
    finite-in : FiniteIn f n
    rank : rank_of f n ≡ r
    signed-zero : n ≢ 2 ^ (f.W - 1)

  at : (s : Bool) (u r n : ℕ) → u < many → ranked f s u ≡ r → n ≡ signed s u → (s ≡ true → 0 < u) → Numbered r n
  at s u r n h i e some = record {
    finite-in = (rw e (inside s), finite-bits n (subst (λ (k : ℕ). k < many) (sym low) h));
    rank = ap (rank_of f) e ∙ rank-of s u short ∙ i;
    signed-zero = λ z. apart s some (sym e ∙ z);
  }
    where
      short : u < 2 ^ (f.W - 1)
      short = omega (arith, h, half_is)

      low : bits_of n ≡ u
      low = ap bits_of e ∙ digits_mod (flag 1 s) short

      inside : (s : Bool) → signed s u < 2 ^ f.W
      inside true = omega (arith, short, whole_is)
      inside false = omega (arith, short, whole_is)

      apart : (s : Bool) → (s ≡ true → 0 < u) → signed s u ≡ 2 ^ (f.W - 1) → ⊥
      apart true k z = omega (arith, k refl, z)
      apart false k z = omega (arith, short, z)

  number-at : (r : ℕ) → first_rank f ≤ r → r ≤ last_rank f → Numbered r (number_at f r)
  unfolding first_rank last_rank number_at
  number-at r h k = go (ltb r (2 ^ (f.W - 1))) refl
    where
      go : (t : Bool) → ltb r (2 ^ (f.W - 1)) ≡ t → Numbered r (cond t (2 ^ (f.W - 1) + (2 ^ (f.W - 1) - r)) (r - 2 ^ (f.W - 1)))
      go true e =
          let l = ltb-true r (2 ^ (f.W - 1)) e in
          let back : 2 ^ (f.W - 1) - (2 ^ (f.W - 1) - r) ≡ r = omega (arith, l) in
          let form : 2 ^ (f.W - 1) + (2 ^ (f.W - 1) - r) ≡ 1 * 2 ^ (f.W - 1) + (2 ^ (f.W - 1) - r) = omega arith in
          at true (2 ^ (f.W - 1) - r) r _ (omega (arith, h, half_is, l)) back form (λ i. omega (arith, l))
      go false e =
          let l = ltb-false r (2 ^ (f.W - 1)) e in
          let back : 2 ^ (f.W - 1) + (r - 2 ^ (f.W - 1)) ≡ r = omega (arith, l) in
          let form : r - 2 ^ (f.W - 1) ≡ 0 * 2 ^ (f.W - 1) + (r - 2 ^ (f.W - 1)) = omega arith in
          at false (r - 2 ^ (f.W - 1)) r _ (omega (arith, k, half_is, whole_is, l)) back form (λ i. absurd (true≢false (sym i)))

  pub first-le-last : first_rank f ≤ last_rank f
  unfolding first_rank last_rank
  first-le-last = omega (arith, half_is, whole_is, many-ge, pow_pos (fraction_bits f))
    where
      many-ge : 1 * 2 ^ fraction_bits f ≤ many
      many-ge = mul-le-mul_right (2 ^ fraction_bits f) (omega (arith, four-fields f b))

  pub rank-numbers : ((n : ℕ) → FiniteIn f n → (first_rank f ≤ rank_of f n) × (rank_of f n ≤ last_rank f) × (n ≢ 2 ^ (f.W - 1) → number_at f (rank_of f n) ≡ n))
      × ((r : ℕ) → first_rank f ≤ r → r ≤ last_rank f → FiniteIn f (number_at f r) × (rank_of f (number_at f r) ≡ r) × (number_at f r ≢ 2 ^ (f.W - 1)))
  rank-numbers = (
    λ n h. let i = rank-inside n h in (i.0, i.1, rank-back n h),
    λ r h k. let x = number-at r h k in (x.finite-in, x.rank, x.signed-zero),
  )

-- the promises
pub rank-order : Rank-order
rank-order f a c v ki h k = rank-ordered f (format-bounds f v).range (ap kind_of ki) a c h k

pub rank-number : Rank-number
rank-number f v ki = rank-numbers f (format-bounds f v).range (ap kind_of ki)
