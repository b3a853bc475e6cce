-- MIRROR, of kind 4: the encoding with the other bit 79 stands for the opposite value, and the
-- totals of `extended` mirror as any format's do.
use mathlib.Core.Path.{◌≡◌, refl, sym, ap, ◌∙◌, ap₂, subst}
use mathlib.Core.Bool.{not, cond, Bool, true, false, ◌&&◌, ◌||◌}
use mathlib.Core.List.{[], List, ◌∷◌, map}
use Prim.Native.Nat.{ℕ, ◌+◌, ◌-◌, ◌/◌, ◌%◌, ◌^◌, zero, suc, ◌*◌, ◌≤◌, ◌<◌}
use lib.Dec.{eqb, T, eqb→eq, ltb}
use native.Mathlib.Omega.{arith}
use borrow.Author.Tests.{eq-eqb, ne_eqb}
use native.Mathlib.Nat.{suc-mul, add-mod_right, add-div_right, le_trans, le_of_eq}
use lib.Pow.{pow_pos, split, field, mod-mod-pow}
use lib.ListN.{length-map, length}
use Rattle.totals_spec.specs.ten_bytes.Extended.{extended_number, unsupported_fields}
use Rattle.totals_spec.specs.ten_bytes.Extended.{extended_fields, sign_in, field_in, significand_in}
use Rattle.totals_spec.specs.ten_bytes.Extended.{decode_extended, subnormal_extended, extended}
use Rattle.totals_spec.specs.ten_bytes.Extended.{extended_bits, spread, with_spread}
use Rattle.totals_spec.specs.ten_bytes.Extended.{extended_operand, extended_item, extended_terms}
use Rattle.totals_spec.specs.ten_bytes.Extended.{extended_pair, extended_dot_terms}
use Rattle.totals_spec.specs.ten_bytes.Extended.{extended_sum_refusal, extended_dot_refusal}
use Rattle.totals_spec.specs.formats.Decode.{Unpacked, infinity, nan, is_finite, sign_bit, field_of}
use Rattle.totals_spec.specs.formats.Decode.{fraction_of, is_number}
use Rattle.totals_spec.specs.formats.Format.{kind_of, ieee, Format}
use Rattle.totals_spec.specs.sums.Totals.{Answer, finite_total, pairs}
use Rattle.totals_spec.specs.ten_bytes.Promises.{AllNumbers}
use Rattle.totals_spec.specs.Basics.{is_set, any}
use Rattle.totals_spec.specs.formats.Settings.{Settings, value}
use Rattle.totals_spec.specs.formats.Bounds.{SettingsBounds}
use Rattle.totals_spec.specs.terms.Terms.{Term}
use Rattle.totals_spec.proofs.ten_bytes.WrittenOut.{bits-sign, field_lt, fraction-lt}
use Rattle.totals_spec.proofs.ten_bytes.WrittenOut.{extended-bounds, spread-decoded}
use Rattle.totals_spec.proofs.formats.Valid.{precision-most}
use Rattle.totals_spec.proofs.terms.GoodTerms.{AllGood}
use Rattle.totals_spec.proofs.chain.Margin.{terms-max}
use Rattle.totals_spec.proofs.order.Order.{pairs-length}
use Rattle.totals_spec.proofs.chain.ByChain.{few-terms}
use Rattle.totals_spec.proofs.ten_bytes.Terms.{extended-good, extended-good-pairs}
use Rattle.totals_spec.proofs.ten_bytes.Totals.{extended-sum-accepts, extended-dot-accepts}
use Rattle.totals_spec.proofs.ten_bytes.Totals.{extended-sum-finite, extended-dot-finite}
use Rattle.mirror_spec.specs.Mirror.{opposite, negated_extended, other_sign, negated_by, negated}
use Rattle.mirror_spec.specs.Mirror.{other_side, negated_answer, mirrored, neither_zero_nor_nan}
use Rattle.mirror_spec.specs.Promises.{Negated-extended, Extended-mirror}
use Rattle.mirror_spec.proofs.Terms.{opposite-tests, All, turned, Turns, read-term, values-turned}
use Rattle.mirror_spec.proofs.Terms.{pairs-turned, any-stays}
use Rattle.mirror_spec.proofs.Totals.{settings-mirrored, Claimed, total-turned}

-- ---- a number with its bit n turned: that bit alone changes

abbrev flipped : ℕ → ℕ → ℕ
flipped n b = cond (eqb (b / 2 ^ n % 2) 1) (b - 2 ^ n) (b + 2 ^ n)

record Flips (n b o : ℕ) : Type 0 where
  top : eqb (o / 2 ^ n % 2) 1 ≡ not (eqb (b / 2 ^ n % 2) 1)
  low : o % 2 ^ n ≡ b % 2 ^ n

next-odd : (q : ℕ) → eqb ((q + 1) % 2) 1 ≡ not (eqb (q % 2) 1)
next-odd q = go (q % 2) refl
  where
    go : (r : ℕ) → q % 2 ≡ r → eqb ((q + 1) % 2) 1 ≡ not (eqb r 1)
    go zero e = eq-eqb ((q + 1) % 2) 1 (omega (arith, e))
    go (suc zero) e = ne_eqb ((q + 1) % 2) 1 (λ z. omega (arith, e, z))
    go (suc (suc r)) e = absurd (let z : ⊥ = omega (arith, e) in z)

not-not : (t : Bool) → t ≡ not (not t)
not-not true = refl
not-not false = refl

flips : (n b : ℕ) → Flips n b (flipped n b)
flips n b = go (eqb (b / 2 ^ n % 2) 1) (eqb→eq (b / 2 ^ n % 2) 1)
  where
    up : (x : ℕ) → eqb ((x + 2 ^ n) / 2 ^ n % 2) 1 ≡ not (eqb (x / 2 ^ n % 2) 1)
    up x = ap (λ (q : ℕ). eqb (q % 2) 1) (add-div_right x (pow_pos n)) ∙ next-odd (x / 2 ^ n)

    down : (x : ℕ) → b ≡ x + 2 ^ n → Flips n b x
    down x e = record {
      top = not-not _ ∙ ap not (sym (up x)) ∙ ap (λ (y : ℕ). not (eqb (y / 2 ^ n % 2) 1)) (sym e);
      low = sym (add-mod_right x (2 ^ n)) ∙ ap (λ (y : ℕ). y % 2 ^ n) (sym e);
    }

    go : (t : Bool) → (T t → b / 2 ^ n % 2 ≡ 1) → Flips n b (cond t (b - 2 ^ n) (b + 2 ^ n))
    go true h = down (b - 2 ^ n) (let k : 2 ^ n ≤ b = reaches (h tt) in omega (arith, k))
      where
        reaches : b / 2 ^ n % 2 ≡ 1 → 2 ^ n ≤ b
        reaches = some (b / 2 ^ n) (split b n)
          where
            some : (q : ℕ) → q * 2 ^ n + b % 2 ^ n ≡ b → q % 2 ≡ 1 → 2 ^ n ≤ b
            some zero s e = absurd (let z : ⊥ = omega (arith, e) in z)
            some (suc q) s e = omega (arith, s, suc-mul q (2 ^ n))
    go false h = record { top = up b; low = add-mod_right b (2 ^ n) }

-- so the fields below it stay
flip-field : (j k b : ℕ) → flipped (j + k) b / 2 ^ k % 2 ^ j ≡ b / 2 ^ k % 2 ^ j
flip-field j k b = sym (field (flipped (j + k) b) j k) ∙ ap (λ (x : ℕ). x / 2 ^ k) (flips (j + k) b).low ∙ field b j k

flip_low : (j k b : ℕ) → flipped (j + k) b % 2 ^ k ≡ b % 2 ^ k
flip_low j k b = sym (mod-mod-pow (flipped (j + k) b) j k) ∙ ap (λ (x : ℕ). x % 2 ^ k) (flips (j + k) b).low ∙ mod-mod-pow b j k

-- ---- the negative of an encoding

number-opposite : (s : Bool) (x m : ℕ) → extended_number (not s) x m ≡ opposite (extended_number s x m)
number-opposite s zero zero = refl
number-opposite s zero (suc m) = refl
number-opposite s (suc x) m = refl

fields-opposite : (s : Bool) (x m : ℕ) → extended_fields (not s) x m ≡ opposite (extended_fields s x m)
fields-opposite s x m = go (unsupported_fields x m) (eqb x (2 ^ 15 - 1)) (eqb m (2 ^ 63))
  where
    top : (i r : Bool) → Unpacked
    top i r = cond i (infinity r) (nan r (ltb m (2 ^ 63 + 2 ^ 62)) (m % 2 ^ 62))

    go : (u t i : Bool) → cond u (nan (not s) false 0) (cond t (top i (not s)) (extended_number (not s) x m))
        ≡ opposite (cond u (nan s false 0) (cond t (top i s) (extended_number s x m)))
    go true t i = refl
    go false true true = refl
    go false true false = refl
    go false false i = number-opposite s x m

module _ (b : ℕ) where
  sign-turned : sign_in (negated_extended b) ≡ not (sign_in b)
  sign-turned = (flips 79 b).top

  field-stays : field_in (negated_extended b) ≡ field_in b
  field-stays = flip-field 15 64 b

  significand-stays : significand_in (negated_extended b) ≡ significand_in b
  significand-stays = flip_low 15 64 b

  value-turned : decode_extended (negated_extended b) ≡ opposite (decode_extended b)
  unfolding decode_extended
  value-turned = rw (sign-turned, field-stays, significand-stays) (fields-opposite (sign_in b) (field_in b) (significand_in b))

  negative_fits : b < 2 ^ 80 → negated_extended b < 2 ^ 80
  negative_fits h = go (b / 2 ^ 79) refl
    where
      go : (q : ℕ) → b / 2 ^ 79 ≡ q → cond (eqb (q % 2) 1) (b - 2 ^ 79) (b + 2 ^ 79) < 2 ^ 80
      go zero e = omega (arith, e, h)
      go (suc zero) e = omega (arith, e, h)
      go (suc (suc q)) e = absurd (let z : ⊥ = omega (arith, e, h) in z)

  subnormal-stays : subnormal_extended (negated_extended b) ≡ subnormal_extended b
  unfolding subnormal_extended
  subnormal-stays = ap₂ (λ (t : Bool) (x : ℕ). t && eqb x 0) (ap is_finite value-turned ∙ (opposite-tests (decode_extended b)).0) field-stays

pub negated-extended : Negated-extended
negated-extended b h = (negative_fits b h, value-turned b)

-- ---- what is written out: the other sign of an encoding of `extended` is bit 79

spread-turned : (b : ℕ) → spread (other_sign extended b) ≡ negated_extended (spread b)
unfolding spread
spread-turned b =
    (λ i. extended_bits (sign i) (field-same i) (fraction-same i))
    ∙ sym (rw (bits-sign (sign_bit extended b) (field_of extended b) (fraction_of extended b) (field_lt b) (fraction-lt b)) (bit (sign_bit extended b)))
  where
    sign : sign_bit extended (other_sign extended b) ≡ not (sign_bit extended b)
    sign = unfold extended in (flips 78 b).top

    field-same : field_of extended (other_sign extended b) ≡ field_of extended b
    field-same = unfold extended in flip-field 15 63 b

    fraction-same : fraction_of extended (other_sign extended b) ≡ fraction_of extended b
    fraction-same = unfold extended in flip_low 15 63 b

    bit : (s : Bool) → let x = extended_bits s (field_of extended b) (fraction_of extended b) in
        cond s (x - 2 ^ 79) (x + 2 ^ 79) ≡ extended_bits (not s) (field_of extended b) (fraction_of extended b)
    bit true = omega arith
    bit false = omega arith

written-turned : (a : Answer) → with_spread (negated_answer (negated extended) a) ≡ negated_answer negated_extended (with_spread a)
unfolding negated
written-turned a = ap (λ (n : ℕ). record {
  result = n;
  flags = a.flags;
  passes = a.passes;
  last_edge = a.last_edge;
  refusal = a.refusal;
  place = a.place;
  side = other_side a.side;
}) (same ∙ spread-turned a.result)
  where
    same : spread (negated_by (kind_of extended.kind) extended a.result) ≡ spread (other_sign extended a.result)
    same = unfold extended in refl

-- ---- elements

abbrev Number : ℕ → Type 0
Number b = T (is_number (decode_extended b))

all-number : (l : List ℕ) → AllNumbers l → All Number l
all-number [] h = tt
all-number (b ∷ l) h = (h.0, all-number l h.1)

all-negated : (l : List ℕ) → AllNumbers l → AllNumbers (map negated_extended l)
all-negated [] h = tt
all-negated (b ∷ l) h =
    (subst T (sym (ap is_number (value-turned b) ∙ (opposite-tests (decode_extended b)).1)) h.0, all-negated l h.1)

module _ (c : Settings) where
  operand-turned : Turns Number negated_extended (extended_operand c) (extended_operand (mirrored c))
  unfolding extended_operand mirrored
  operand-turned g odd b h =
      rw (subnormal-stays b)
      (read-term g odd ieee (is_set c.denormals_are_zero && subnormal_extended b) _ _ (decode_extended b) h (value-turned b))

  operand_same : (b : ℕ) → extended_operand (mirrored c) b ≡ extended_operand c b
  unfolding extended_operand mirrored
  operand_same b = refl

  sum-turned : (l : List ℕ) → AllNumbers l → extended_terms (mirrored c) value (map negated_extended l) ≡ map turned (extended_terms c value l)
  unfolding extended_item
  sum-turned l h = values-turned negated_extended (extended_operand c) (extended_operand (mirrored c)) operand-turned l (all-number l h)

  dot-turned : (xs ys : List ℕ) → AllNumbers xs → extended_dot_terms (mirrored c) (map negated_extended xs) ys ≡ map turned (extended_dot_terms c xs ys)
  unfolding extended_pair
  dot-turned xs ys h = pairs-turned negated_extended (extended_operand c) (extended_operand (mirrored c)) operand-turned operand_same xs ys (all-number xs h)

subnormals-stay : (l : List ℕ) → AllNumbers l → any subnormal_extended (map negated_extended l) ≡ any subnormal_extended l
subnormals-stay l h = any-stays negated_extended subnormal_extended (λ b i. subnormal-stays b) l (all-number l h)

-- ---- the mirrored call is accepted

sum-mirrored : (f : Format) (c : Settings) (l : List ℕ) → extended_sum_refusal f (mirrored c) 0 (map negated_extended l) ≡ extended_sum_refusal f c 0 l
unfolding extended_sum_refusal
sum-mirrored f c l = rw (settings-mirrored extended c, length-map l negated_extended)

dot-mirrored : (f : Format) (c : Settings) (xs ys : List ℕ)
    → extended_dot_refusal f (mirrored c) (map negated_extended xs) ys ≡ extended_dot_refusal f c xs ys
unfolding extended_dot_refusal
dot-mirrored f c xs ys = rw (settings-mirrored extended c, length-map xs negated_extended)

-- ---- THE PROMISE

abbrev ClaimedExtended : Answer → Type 0
ClaimedExtended a = T (neither_zero_nor_nan (decode_extended a.result))

-- the record a of the terms that are turned in a'
by_total : (c : Settings) → SettingsBounds extended c → (sub products minus minus' : Bool) (ts : List Term) → AllGood ts → length ts ≤ terms-max
    → {sub' : Bool} {us : List Term} {a a' : Answer} → sub' ≡ sub → us ≡ map turned ts
    → a ≡ with_spread (finite_total extended c sub products minus ts)
    → a' ≡ with_spread (finite_total extended (mirrored c) sub' products minus' us)
    → ClaimedExtended a → a' ≡ negated_answer negated_extended a
by_total c k sub products minus minus' ts good few s d e e' h =
    e' ∙ ap with_spread (total-turned extended c extended-bounds (precision-most extended c k) sub products minus minus' ts good few s d claimed)
    ∙ written-turned (finite_total extended c sub products minus ts) ∙ ap (negated_answer negated_extended) (sym e)
  where
    claimed : Claimed extended (finite_total extended c sub products minus ts)
    claimed = subst (λ (v : Unpacked). T (neither_zero_nor_nan v)) (spread-decoded _) (subst ClaimedExtended e h)

pub extended-mirror : Extended-mirror
extended-mirror = (
  λ f c l r n.
      let a = (extended-sum-accepts f c 0 l r).0 in
      by_total c a.settings _ false _ _ (extended_terms c value l) (extended-good c value l) (few-terms (extended_item c value) l a.few)
      (subnormals-stay l n) (sum-turned c l n) (extended-sum-finite f c 0 l r n)
      (extended-sum-finite f (mirrored c) 0 (map negated_extended l) (sum-mirrored f c l ∙ r) (all-negated l n)),
  λ f c xs ys r n m.
      let a = extended-dot-accepts f c xs ys r in
      by_total c a.0.settings _ true _ _ (extended_dot_terms c xs ys) (extended-good-pairs c (pairs xs ys))
      (few-terms (extended_pair c) (pairs xs ys) (le_trans (le_of_eq (pairs-length xs ys a.1)) a.0.few))
      (ap (λ (t : Bool). t || any subnormal_extended ys) (subnormals-stay xs n)) (dot-turned c xs ys n) (extended-dot-finite f c xs ys r n m)
      (extended-dot-finite f (mirrored c) (map negated_extended xs) ys (dot-mirrored f c xs ys ∙ r) (all-negated xs n) m),
)
