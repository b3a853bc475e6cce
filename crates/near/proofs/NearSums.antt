-- The record of a list whose fields lie near one another: that of the sum in two words, after one
-- pass.
use mathlib.Core.Path.{◌≡◌, refl, sym, ap, ap₂, ◌∙◌, subst}
use mathlib.Core.Bool.{Bool, true, false, not, ◌||◌, cond, true≢false}
use mathlib.Core.List.{List, [], ◌∷◌, map}
use mathlib.Core.Option.{Option}
use Prim.Native.Nat.{ℕ, suc, ◌+◌, ◌-◌, ◌*◌, ◌%◌, ◌^◌, ◌≤◌, ◌<◌, ◌/◌}
use native.Mathlib.Nat.{lt_of_lt_of_le, not-suc-le-zero, zero-mul, mul_assoc, mul_comm}
use native.Mathlib.Omega.{arith}
use lib.Dec.{eqb}
use lib.IntN.{ℤ}
use lib.ListN.{length, get_or}
use lib.Pow.{pow_mono, shl_lt}
use lib.Bits.{bit_and}
use Rattle.std.proofs.lemmas.Nat.{and_mask}
use borrow.Author.Tests.{eqb-true, lt-ltb, le-ltb}
use Rattle.totals_spec.specs.Basics.{Signed, total, greatest, raised, any}
use Rattle.totals_spec.specs.formats.Format.{Format, digits, grid, origin, fall}
use Rattle.totals_spec.specs.pence.Pence.{not_number, sum_figure, pence_of, in_range}
use Rattle.totals_spec.specs.pence.Hundredfold.{whole_figure, nearest_whole}
use Rattle.totals_spec.specs.formats.Settings.{Settings, no_settings, Summand, value, magnitude, square}
use Rattle.totals_spec.specs.formats.Decode.{decode, is_subnormal, is_signaling}
use Rattle.totals_spec.specs.terms.Terms.{Term, Item, nan_item, invalid_item, infinite, zero_item, term, item, top_of, exact_sum}
use Rattle.totals_spec.specs.sums.Nan.{select_all}
use Rattle.totals_spec.specs.chain.Chain.{chain, signed_from}
use Rattle.totals_spec.specs.sums.Totals.{limit, sum_terms, sum_accepted, finite_total, reported, on_grid, sum_rounded, towards_negative, is_value, is_square}
use Rattle.totals_spec.proofs.terms.GoodTerms.{good-terms}
use Rattle.totals_spec.proofs.chain.ByChain.{few-terms}
use Rattle.totals_spec.proofs.sums.FiniteLists.{Plain, AllPlain, plain-accepted, some-term}
use Rattle.binary.proofs.Plain.{plainly}
use Rattle.window.specs.Chain.{LeftOf}
use Rattle.near.specs.declared.Span.{Span}
use Rattle.near.specs.Units.{field, is_zero, is_negative, units, plus_units, minus_units, all_of, AllReach, Sum}
use Rattle.near.specs.Fields.{Spans}
use Rattle.near.specs.Doubles.{hundred, double, IsDouble, signs_of, IsSum, ItemIs, AllIs}
use Rattle.near.proofs.Looked.{greatest-ge, greatest-same}
use Rattle.near.proofs.Items.{all-are, all-whole, all-top, all-sum, sum-signed, plain-is, zero-decoded}
use Rattle.near.proofs.OnePass.{OnePass, near-one-pass}

-- ---- an element through its mask

same-bits : (u : Summand) (x : ℕ) → IsSum u → bit_and x (signs_of u) % 2 ^ 63 ≡ x % 2 ^ 63
same-bits value x s = ap (λ (y : ℕ). y % 2 ^ 63) (and_mask x 64) ∙ omega arith
same-bits magnitude x s = ap (λ (y : ℕ). y % 2 ^ 63) (and_mask x 63) ∙ omega arith
same-bits square x s = absurd s

same-zero : (u : Summand) (x : ℕ) → IsSum u → is_zero (bit_and x (signs_of u)) ≡ is_zero x
same-zero u x s = ap (λ (y : ℕ). eqb y 0) (same-bits u x s)

same-field : (u : Summand) (x : ℕ) → IsSum u → field (bit_and x (signs_of u)) ≡ field x
same-field u x s = omega (arith, same-bits u x s)

-- ---- what a look at the fields gives the walk

pub reaches : (u : Summand) (xs : List ℕ) (e : Span) → IsSum u → Spans xs e → e.greatest ≤ e.least + 46 → AllReach e.zeros e.least (signs_of u) xs
reaches u xs e s h near i k = record {
  none = λ z. same-zero u (get_or xs i 0) s ∙ h.none z i k;
  low = λ z. omega (arith, same-field u (get_or xs i 0) s, h.least i k (sym (same-zero u (get_or xs i 0) s) ∙ z));
  high = λ z. omega (arith, same-field u (get_or xs i 0) s, greatest-ge field xs i k, h.greatest, near);
}

-- ---- bounds

units_le : (base y : ℕ) → (is_zero y ≡ false → field y ≤ base + 46) → units base y ≤ 2 ^ 99 - 1
unfolding units
units_le base y h = go (is_zero y) refl
  where
    go : (b : Bool) → is_zero y ≡ b → cond b 0 ((y % 2 ^ 52 + 2 ^ 52) * 2 ^ (field y - base)) ≤ 2 ^ 99 - 1
    go true z = omega arith
    go false z = omega (arith, few (h z))
      where
        few : field y ≤ base + 46 → (y % 2 ^ 52 + 2 ^ 52) * 2 ^ (field y - base) < 2 ^ 99
        few k = lt_of_lt_of_le (shl_lt {a = y % 2 ^ 52 + 2 ^ 52} 53 (field y - base) (omega arith)) (pow_mono {j = 99} (omega arith))

total-le : (f : ℕ → ℕ) (xs : List ℕ) → ((i : ℕ) → i < length xs → f (get_or xs i 0) ≤ 2 ^ 99 - 1) → total f xs ≤ length xs * (2 ^ 99 - 1)
total-le f [] h = omega arith
total-le f (x ∷ xs) h = omega (arith, h 0 (omega arith), total-le f xs (λ i k. h (suc i) (omega (arith, k))))

part_le : (b : Bool) (n m : ℕ) → n ≤ m → (cond b 0 n ≤ m) × (cond b n 0 ≤ m)
part_le true n m h = (omega arith, h)
part_le false n m h = (h, omega arith)

-- ---- the list

module _ (b : Option ℤ) (c : Settings) (u : Summand) (xs : List ℕ) (e : Span) (s : IsSum u) (h : Spans xs e) (near : e.greatest ≤ e.least + 46) where
  are : AllIs e.least (λ x. bit_and x (signs_of u)) (item (double b) c u) xs
  are = all-are b c u e.least xs s h.normal (λ i k. h.fit i) (λ i k. omega (arith, greatest-ge field xs i k, h.greatest, h.finite)) (λ i k z. h.least i k z)

  top-is : top_of (sum_terms (double b) c u xs) ≡ e.greatest + 1075
  unfolding top_of
  top-is =
      (all-top e.least (λ x. bit_and x (signs_of u)) (item (double b) c u) xs are).some (omega (arith, h.some, same, h.greatest))
      ∙ ap (λ (n : ℕ). n + 1075) (same ∙ sym h.greatest)
    where
      same : greatest (λ x. field (bit_and x (signs_of u))) xs ≡ greatest field xs
      same = greatest-same _ field (λ x. same-field u x s) xs

  -- THE LAW: one pass, exact
  pub one-pass : length xs ≤ limit → OnePass (digits (double b)) (sum_terms (double b) c u xs)
  one-pass few =
      near-one-pass (digits (double b)) (sum_terms (double b) c u xs) (omega arith) (good-terms (double b) c u xs) (few-terms (item (double b) c u) xs few)
      (e.least + 1023) (all-whole e.least (λ x. bit_and x (signs_of u)) (item (double b) c u) xs are) (omega (arith, top-is, near))

  pub sum-is : (r : ℕ) → length xs ≤ limit → r < 2 ^ 128 → Sum e.least (signs_of u) xs r
      → raised (e.least + 1023) (signed_from (2 ^ 127) r) ≡ exact_sum (sum_terms (double b) c u xs)
  sum-is r few fit k =
      ap (raised (e.least + 1023)) (sum-signed _ _ r (omega (arith, plus, few)) (omega (arith, minus, few)) fit k)
      ∙ sym (all-sum e.least (λ x. bit_and x (signs_of u)) (item (double b) c u) xs are)
    where
      each : (i : ℕ) → i < length xs → units e.least (bit_and (get_or xs i 0) (signs_of u)) ≤ 2 ^ 99 - 1
      each i k = units_le e.least (bit_and (get_or xs i 0) (signs_of u)) (reaches u xs e s h near i k).high

      plus : all_of (plus_units e.least) (signs_of u) xs ≤ length xs * (2 ^ 99 - 1)
      plus = total-le _ xs (λ i k. (part_le (is_negative (bit_and (get_or xs i 0) (signs_of u))) _ _ (each i k)).0)

      minus : all_of (minus_units e.least) (signs_of u) xs ≤ length xs * (2 ^ 99 - 1)
      minus = total-le _ xs (λ i k. (part_le (is_negative (bit_and (get_or xs i 0) (signs_of u))) _ _ (each i k)).1)

  -- ---- no element decides alone
  plain-one : (y : ℕ) (x : Item) → ItemIs e.least y x → Plain x
  plain-one y nan_item k = absurd k
  plain-one y invalid_item k = absurd k
  plain-one y (infinite t) k = absurd k
  plain-one y (zero_item t) k = tt
  plain-one y (term t) k = tt

  plain-all : (see : ℕ → ℕ) (i : ℕ → Item) (l : List ℕ) → AllIs e.least see i l → AllPlain (map i l)
  plain-all see i [] k = tt
  plain-all see i (x ∷ l) k = (plain-one (see x) (i x) k.0, plain-all see i l k.1)

  not-subnormal : (x : ℕ) → (is_zero x ≡ false → 0 < field x) → field x ≤ 2046 → is_subnormal (double b) x ≡ false
  not-subnormal x low top = go (is_zero x) refl
    where
      go : (t : Bool) → is_zero x ≡ t → is_subnormal (double b) x ≡ false
      go true z = unfold is_subnormal in rw (zero-decoded b c e.least x (eqb-true _ _ z)) refl
      go false z = (plainly (double b) x (plain-is b x (low z) top)).normal

  none-subnormal : (l : List ℕ) → ((i : ℕ) → i < length l → is_subnormal (double b) (get_or l i 0) ≡ false) → any (is_subnormal (double b)) l ≡ false
  none-subnormal [] k = refl
  none-subnormal (x ∷ l) k = ap₂ ◌||◌ (k 0 (omega arith)) (none-subnormal l (λ i j. k (suc i) (omega (arith, j))))

  some-terms : (ts : List Term) → 0 < top_of ts → 0 < length ts
  unfolding top_of
  some-terms [] k = absurd (not-suc-le-zero k)
  some-terms (t ∷ ts) k = omega arith

  no-square : (u : Summand) → IsSum u → is_square u ≡ false
  no-square value s = refl
  no-square magnitude s = refl
  no-square square s = absurd s

  pub told-is : reported (double b) false false (on_grid (double b) false (exact_sum (sum_terms (double b) c u xs)))
      (sum_rounded (double b) c (grid (double b) false) (towards_negative c) (on_grid (double b) false (exact_sum (sum_terms (double b) c u xs))))
      (chain (digits (double b)) (sum_terms (double b) c u xs))
      ≡ sum_accepted (double b) c u xs
  unfolding sum_accepted finite_total
  told-is =
      sym (plain-accepted (double b) c (any (is_subnormal (double b)) xs) (is_square u) (not (is_value u)) (any (λ x. is_signaling (decode (double b) x)) xs)
      (select_all c (map (decode (double b)) xs)) (map (item (double b) c u) xs) (plain-all _ _ xs are)
      ∙ rw (some-term (sum_terms (double b) c u xs) (some-terms _ (omega (arith, top-is))), none-subnormal xs none, no-square u s) refl)
    where
      none : (i : ℕ) → i < length xs → is_subnormal (double b) (get_or xs i 0) ≡ false
      none i k = not-subnormal (get_or xs i 0) (λ z. omega (arith, h.least i k z, h.normal)) (omega (arith, greatest-ge field xs i k, h.greatest, h.finite))

-- ---- in any format that is binary64

pub record Near (f : Format) (c : Settings) (u : Summand) (xs : List ℕ) (e : Span) (r : ℕ) : Type 0 where
  pub sum : raised (e.least + 1023) (signed_from (2 ^ 127) r) ≡ exact_sum (sum_terms f c u xs)
  pub passes : (chain (digits f) (sum_terms f c u xs)).passes ≡ 1
  pub edge : (chain (digits f) (sum_terms f c u xs)).edge ≡ e.greatest + 373
  pub told :
      reported f false false (on_grid f false (exact_sum (sum_terms f c u xs)))
      (sum_rounded f c (grid f false) (towards_negative c) (on_grid f false (exact_sum (sum_terms f c u xs)))) (chain (digits f) (sum_terms f c u xs))
      ≡ sum_accepted f c u xs

double-is : (f : Format) → IsDouble f → double f.named ≡ f
double-is f h = λ i. record { kind = sym h.kind i; E = sym h.e i; W = sym h.w i; named = f.named }

pub near-is : (f : Format) (c : Settings) (u : Summand) (xs : List ℕ) (e : Span) (r : ℕ) → IsDouble f → IsSum u → Spans xs e → e.greatest ≤ e.least + 46
    → length xs ≤ limit → r < 2 ^ 128 → Sum e.least (signs_of u) xs r → Near f c u xs e r
near-is f c u xs e r d s h near few fit k =
    subst (λ (g : Format). Near g c u xs e r) (double-is f d)
    (let o = one-pass f.named c u xs e s h near few in
    record {
      sum = sum-is f.named c u xs e s h near r few fit k;
      passes = o.passes;
      edge = o.edge ∙ omega (arith, top-is f.named c u xs e s h near);
      told = told-is f.named c u xs e s h near;
    })

-- ---- the sum in two words, to be rounded

signed-minus : (s : ℕ) → 2 ^ 127 ≤ s → signed_from (2 ^ 127) s ≡ record { neg = true; mag = 2 ^ 127 + 2 ^ 127 - s }
unfolding signed_from
signed-minus s h = rw (le-ltb _ _ h) refl

signed-plus : (s : ℕ) → s < 2 ^ 127 → signed_from (2 ^ 127) s ≡ record { neg = false; mag = s }
unfolding signed_from
signed-plus s h = rw (lt-ltb _ _ h) refl

pub left-minus : (place s m p : ℕ) (n : Bool) → 2 ^ 127 ≤ s → s < 2 ^ 128 → n ≡ true → m ≡ (0 + (2 ^ 128 - s)) % 2 ^ 128 → 64 ≤ place → place < 2 ^ 62 + 640
    → LeftOf p (raised place (signed_from (2 ^ 127) s)) (record { negative = n; sticky = false; position = place; significand = m })
unfolding raised
left-minus place s m p n big fit en em high low = rw (signed-minus s big) (record {
  none = λ z. absurd (none z);
  some = λ z. record { stands = ap (λ (x : ℕ). x * 2 ^ place) same; negative = en; high = high; low = low; long = λ t. absurd (true≢false (sym t)) };
})
  where
    same : 2 ^ 127 + 2 ^ 127 - s ≡ m
    same = omega (arith, em, big, fit)

    none : m ≡ 0 → ⊥
    none z = omega (arith, em, z, big, fit)

pub left-plus : (place s p : ℕ) (n : Bool) → s < 2 ^ 127 → n ≡ false → 64 ≤ place → place < 2 ^ 62 + 640
    → LeftOf p (raised place (signed_from (2 ^ 127) s)) (record { negative = n; sticky = false; position = place; significand = s })
unfolding raised
left-plus place s p n small en high low = rw (signed-plus s small) (record {
  none = λ z. λ i. record { neg = false; mag = (ap (λ (x : ℕ). x * 2 ^ place) z ∙ zero-mul (2 ^ place)) i };
  some = λ z. record { stands = refl; negative = en; high = high; low = low; long = λ t. absurd (true≢false (sym t)) };
})

-- ---- a hundred times the sum

pub left-hundred : {x : Signed} {n b : Bool} {place s t : ℕ} (p : ℕ) → b ≡ false → t ≡ s * 100
    → LeftOf p x (record { negative = n; sticky = b; position = place; significand = s })
    → LeftOf p (hundred x) (record { negative = n; sticky = b; position = place; significand = t })
left-hundred {b = true} p e f h = absurd (true≢false e)
left-hundred {b = false} {place = place} {s = s} p e f h = record {
  none = λ z. ap hundred (h.none (omega (arith, z, f)));
  some = λ z.
      let r = h.some (omega (arith, z, f)) in
      record {
        stands = ap (λ (m : ℕ). 100 * m) r.stands ∙ sym (mul_assoc 100 s (2 ^ place))
            ∙ ap (λ (m : ℕ). m * 2 ^ place) (mul_comm 100 s ∙ sym f);
        negative = r.negative;
        high = r.high;
        low = r.low;
        long = λ y. absurd (true≢false (sym y));
      };
}

-- each element is a number
number-one : (b : Option ℤ) (x : ℕ) → (is_zero x ≡ false → 0 < field x) → field x ≤ 2046 → not_number (double b) x ≡ false
number-one b x low top = go (is_zero x) refl
  where
    go : (t : Bool) → is_zero x ≡ t → not_number (double b) x ≡ false
    go true z = rw (zero-decoded b no_settings 0 x (eqb-true _ _ z)) refl
    go false z = rw ((plainly (double b) x (plain-is b x (low z) top)).number) refl

none-of : (f : ℕ → Bool) (l : List ℕ) → ((i : ℕ) → i < length l → f (get_or l i 0) ≡ false) → any f l ≡ false
none-of f [] k = refl
none-of f (x ∷ l) k = ap₂ ◌||◌ (k 0 (omega arith)) (none-of f l (λ i j. k (suc i) (omega (arith, j))))

pub numbers-are : (f : Format) (xs : List ℕ) (e : Span) → IsDouble f → Spans xs e → any (not_number f) xs ≡ false
numbers-are f xs e d h =
    subst (λ (g : Format). any (not_number g) xs ≡ false) (double-is f d)
    (none-of (not_number (double f.named)) xs
    (λ i k. number-one f.named (get_or xs i 0) (λ z. omega (arith, h.least i k z, h.normal)) (omega (arith, greatest-ge field xs i k, h.greatest, h.finite))))

pub figure-hundred : (f : Format) (x : Signed) → whole_figure f (hundred x) ≡ sum_figure f x
unfolding whole_figure sum_figure nearest_whole pence_of
figure-hundred f x = ap (λ (z : ℕ). in_range x.neg ((z + 2 ^ origin f false) / 2 ^ suc (origin f false))) twice
  where
    twice : 2 * (100 * x.mag * 2 ^ fall f false) ≡ 200 * x.mag * 2 ^ fall f false
    twice = omega arith
