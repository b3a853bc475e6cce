-- The total of two numbers is their sum in the kit's model.
use mathlib.Core.Path.{◌≡◌, refl, sym, ap, ap₂, ◌∙◌, subst}
use mathlib.Core.Logic.{◌↔◌, ◌⊎◌, inl, inr}
use mathlib.Core.Bool.{Bool, true, false, not, ◌&&◌, beq, cond, true≢false}
use mathlib.Core.List.{List, [], ◌∷◌}
use Prim.Native.Nat.{ℕ, zero, suc, ◌+◌, ◌-◌, ◌*◌, ◌^◌, ◌≤◌, ◌<◌, zero-le}
use native.Mathlib.Nat.{mul_assoc, mul_comm, mul_right_comm, zero-mul, mul-pos, mul-lt-mul_of_pos_right, mul-le-mul_right, add-mul, mul-sub, lt_of_mul-lt-mul_right, le_of_mul-le-mul_right}
use native.Mathlib.Omega.{arith}
use lib.Dec.{T, eqb, ltb}
use lib.ListN.{length}
use lib.Pow.{pow-add, pow_pos}
use lib.Ieee as kit
use lib.Ieee.Exact.{HasValue, odd_sign}
use lib.Ieee.Fits.{down_pos}
use lib.Ieee.Scale.{round_same}
use borrow.Author.Tests.{ne_eqb, ltb-true, ltb-false, lt-ltb, le-ltb, lt-leb}
use Rattle.totals_spec.specs.Basics.{Signed, raised, difference, plus_of, minus_of, flag, keep}
use Rattle.totals_spec.specs.formats.Format.{Format, valid_format, grid, rise, room}
use Rattle.totals_spec.specs.formats.Settings.{no_settings, valid_settings, value, precision_of}
use Rattle.totals_spec.specs.formats.Decode.{Unpacked, zero_of, finite, infinity, nan, decode}
use Rattle.totals_spec.specs.formats.Decode.{is_number, operand}
use Rattle.totals_spec.specs.formats.Encode.{encode}
use Rattle.totals_spec.specs.formats.Bounds.{SettingsBounds}
use Rattle.totals_spec.specs.terms.Terms.{zero_item, term_of, item, item_of, Term, exact_sum}
use Rattle.totals_spec.specs.rounding.Round.{is_no_inf, Rounded, round}
use Rattle.totals_spec.specs.formats.Ordered.{worth}
use Rattle.totals_spec.specs.sums.Promises.{AllFinite, zero_for}
use Rattle.totals_spec.specs.sums.Totals.{Answer, reported, sum_refusal, sum_rounded}
use Rattle.totals_spec.specs.sums.Totals.{towards_negative, sum_terms, sum_answer}
use Rattle.figures_spec.proofs.ranges.SumsOfFigures.{plus-values, minus-values}
use Rattle.totals_spec.proofs.sums.FiniteLists.{sum-exact}
use Rattle.totals_spec.proofs.terms.GoodTerms.{Decoded, decoded}
use Rattle.totals_spec.proofs.sums.ZeroTotals.{sum-zeros}
use Rattle.totals_spec.proofs.numbers.Powers.{eqb-scaled}
use Rattle.totals_spec.proofs.numbers.SignedNumbers.{difference-raised, raised-none}
use Rattle.promises.specs.Rounding.{grid_of, Finite, Tiny, Worth}
use Rattle.promises.specs.Bridge.{ours, value_in, Adds-alike, Encodes-alike}
use Rattle.promises.proofs.roundings.IeeeRounding.{rounds-alike, is-range, no-nan-pattern}
use Rattle.promises.proofs.roundings.OneAnswer.{worth-one}
use Rattle.promises.proofs.roundings.RoundedByProperties.{round-once}
use Rattle.promises.proofs.roundings.OfEveryRounding.{held-exactly}
use Rattle.promises.proofs.roundings.IeeeDecoding.{decodes-alike}
use Rattle.promises.proofs.roundings.EncodedNumbers.{encodes-back}
use lib.Ieee.Bits.{to_bits-of_bits}

sub-mul : (a b n : ℕ) → (a - b) * n ≡ a * n - b * n
sub-mul a b n = mul_comm (a - b) n ∙ mul-sub n a b ∙ ap₂ ◌-◌ (mul_comm n a) (mul_comm n b)

-- ---- the kit's sum of M and N least numbers, as roundings

module _ (F : kit.Format) (g : ℕ) where
  abbrev pub D : ℕ
  D = 2 ^ (kit.low F + g)

  -- the sign and the magnitude, in least numbers, of what is rounded
  abbrev pub chosen : {A : Type 0} → (Bool → ℕ → A) → (s : Bool) → ℕ → (t : Bool) → ℕ → A
  chosen E s M t N = cond (beq s t) (E s (M + N)) (cond (ltb M N) (E t (N - M)) (E (s && ltb N M) (M - N)))

  abbrev R : Bool → ℕ → kit.Float
  R s M = kit.round F s (M * 2 ^ g) D

  -- with fractions a / c and b / c
  module _ (M N a b c : ℕ) (c0 : 0 < c) (ea : a * 2 ^ kit.low F ≡ M * c) (eb : b * 2 ^ kit.low F ≡ N * c) where
    abbrev l : ℕ
    l = 2 ^ kit.low F

    l0 : 0 < l
    l0 = pow_pos (kit.low F)

    D-is : D ≡ l * 2 ^ g
    D-is = pow-add 2 (kit.low F) g

    one : (s : Bool) (x X : ℕ) → x * l ≡ X * c → kit.round F s x c ≡ R s X
    one s x X e =
        round_same F s x c (X * 2 ^ g) D c0 (pow_pos (kit.low F + g))
        (ap (λ (z : ℕ). x * z) D-is ∙ sym (mul_assoc x l (2 ^ g)) ∙ ap (λ (z : ℕ). z * 2 ^ g) e ∙ mul_right_comm X c (2 ^ g))

    order : (x y X Y : ℕ) → x * l ≡ X * c → y * l ≡ Y * c → ltb x y ≡ ltb X Y
    order x y X Y e h = go (ltb X Y) refl
      where
        go : (t : Bool) → ltb X Y ≡ t → ltb x y ≡ t
        go true i = lt-ltb x y (lt_of_mul-lt-mul_right l (rw (e, h) (mul-lt-mul_of_pos_right (ltb-true X Y i) c0)))
        go false i = le-ltb x y (le_of_mul-le-mul_right (rw (e, h) (mul-le-mul_right c (ltb-false X Y i))) l0)

    kit-sum : (s t : Bool) → kit.sum F s a t b c ≡ chosen R s M t N
    unfolding kit.sum
    kit-sum s t = rw (order a b M N ea eb, order b a N M eb ea, one s (a + b) (M + N) plus, one t (b - a) (N - M) less, one (s && ltb N M) (a - b) (M - N) more)
      where
        plus : (a + b) * l ≡ (M + N) * c
        plus = add-mul a b l ∙ ap₂ ◌+◌ ea eb ∙ sym (add-mul M N c)

        less : (b - a) * l ≡ (N - M) * c
        less = sub-mul b a l ∙ ap₂ ◌-◌ eb ea ∙ sym (sub-mul N M c)

        more : (a - b) * l ≡ (M - N) * c
        more = sub-mul a b l ∙ ap₂ ◌-◌ ea eb ∙ sym (sub-mul M N c)

  pub adds : (x y : kit.Float) (s t : Bool) (M N : ℕ) → HasValue x s M (2 ^ kit.low F) → HasValue y t N (2 ^ kit.low F) → kit.add F x y ≡ chosen R s M t N
  unfolding kit.add
  adds (kit.fin s m e) (kit.fin t n d) s' t' M N h k =
      kit-sum M N (m * kit.up e * kit.down d) (n * kit.up d * kit.down e) (kit.down e * kit.down d) (mul-pos (down_pos e) (down_pos d)) ea eb s t
      ∙ ap₂ (λ (s t : Bool). chosen R s M t N) h.0 k.0
    where
      l : ℕ
      l = 2 ^ kit.low F

      ea : m * kit.up e * kit.down d * l ≡ M * (kit.down e * kit.down d)
      ea = mul_right_comm (m * kit.up e) (kit.down d) l ∙ ap (λ (z : ℕ). z * kit.down d) h.1 ∙ mul_assoc M (kit.down e) (kit.down d)

      eb : n * kit.up d * kit.down e * l ≡ N * (kit.down e * kit.down d)
      eb =
          mul_right_comm (n * kit.up d) (kit.down e) l ∙ ap (λ (z : ℕ). z * kit.down e) k.1 ∙ mul_assoc N (kit.down d) (kit.down e)
          ∙ ap (λ (z : ℕ). N * z) (mul_comm (kit.down d) (kit.down e))
  adds kit.nan y s t M N h k = absurd h
  adds (kit.inf u) y s t M N h k = absurd h
  adds (kit.fin s m e) kit.nan s' t' M N h k = absurd k
  adds (kit.fin s m e) (kit.inf u) s' t' M N h k = absurd k

-- ---- what the total is, as one of these roundings

module _ (F : kit.Format) where
  abbrev f : Format
  f = ours F

  abbrev g : ℕ
  g = grid f false

  -- the encoding of M least numbers rounded
  abbrev E : Bool → ℕ → ℕ
  E s M = encode f (round f no_settings g s (M * 2 ^ g)).value

  E-zero : (s : Bool) → E s 0 ≡ encode f (zero_of s)
  E-zero s = ap (encode f) (worth-one f g s (0 * 2 ^ g) _ (zero_of s) stays.0 (refl, zero-mul (2 ^ g)))
    where
      b : SettingsBounds f no_settings
      b = record {
        rounding-le = zero-le;
        tininess-le = zero-le;
        propagation-le = zero-le;
        sign_le = zero-le;
        flush-le = zero-le;
        denormals-le = zero-le;
        saturate-le = zero-le;
        precision-le = zero-le;
      }

      none : Finite f (precision_of f no_settings) g (0 * 2 ^ g)
      none = record {
        significand = 0;
        exponent = 0;
        short = pow_pos (precision_of f no_settings);
        range = zero-le;
        is = zero-mul (2 ^ g) ∙ sym (zero-mul (2 ^ (0 + grid_of f (precision_of f no_settings) g)));
        other = λ e. absurd (true≢false (sym (ap is_no_inf e) ∙ no-nan-pattern F));
      }

      stays : Worth f g (round f no_settings g s (0 * 2 ^ g)).value s (0 * 2 ^ g)
          × ((t : Bool) × ((t ≡ true) ↔ Tiny f no_settings g s (0 * 2 ^ g)) × ((round f no_settings g s (0 * 2 ^ g)).flags ≡ flag 32 t))
      stays =
          held-exactly f no_settings g s (0 * 2 ^ g) _ _ none (λ h. true≢false (sym h.1)) (round-once f no_settings g s (0 * 2 ^ g) (is-range F) b)

  -- the rounding of a signed number of least numbers
  abbrev signed : Signed → ℕ
  signed x = cond (eqb x.mag 0) (encode f (zero_of false)) (E x.neg x.mag)

  rounded-is : (x : Signed) → encode f (sum_rounded f no_settings g (towards_negative no_settings) (raised g x)).value ≡ signed x
  unfolding sum_rounded raised
  rounded-is x = ap (λ (t : Bool). encode f (given t).value) scaled ∙ go (eqb x.mag 0)
    where
      given : Bool → Rounded
      given t = cond t (record { value = zero_of (towards_negative no_settings); flags = 0 }) (round f no_settings g x.neg (x.mag * 2 ^ g))

      scaled : eqb (x.mag * 2 ^ g) 0 ≡ eqb x.mag 0
      scaled = ap (eqb (x.mag * 2 ^ g)) (sym (zero-mul (2 ^ g))) ∙ sym (eqb-scaled x.mag 0 g)

      go : (t : Bool) → encode f (given t).value ≡ cond t (encode f (zero_of false)) (E x.neg x.mag)
      go true = refl
      go false = refl

  -- a sign and a magnitude
  abbrev written : Bool → ℕ → ℕ
  written b m = cond (eqb m 0) (encode f (zero_of false)) (E b m)

  at : (P N : ℕ) (b : Bool) (m : ℕ) → ltb P N ≡ b → (P - N) + (N - P) ≡ m → signed (difference P N) ≡ written b m
  unfolding difference
  at P N b m e h = ap₂ written e h

  some : (b : Bool) (m : ℕ) → 0 < m → written b m ≡ E b m
  some b m h = ap (λ (t : Bool). cond t (encode f (zero_of false)) (E b m)) (ne_eqb m 0 (λ z. omega (arith, z, h)))

  -- a positive one may be zero
  plus : (m : ℕ) → written false m ≡ E false m
  plus zero = sym (E-zero false)
  plus (suc m) = some false (suc m) (omega arith)

  -- by the signs of the two, which are not both zero
  by-signs : (s t : Bool) (M N : ℕ) → 0 < M + N
      → signed (difference (cond s 0 M + (cond t 0 N + 0)) (cond s M 0 + (cond t N 0 + 0))) ≡ chosen F g E s M t N
  by-signs false false M N h = at _ _ false (M + N) (le-ltb _ _ (omega arith)) (omega arith) ∙ some false (M + N) h
  by-signs true true M N h = at _ _ true (M + N) (lt-ltb _ _ (omega (arith, h))) (omega arith) ∙ some true (M + N) h
  by-signs false true M N h = go (ltb M N) refl
    where
      go : (b : Bool) → ltb M N ≡ b
          → signed (difference (M + (0 + 0)) (0 + (N + 0))) ≡ cond b (E true (N - M)) (E false (M - N))
      go true e =
          let l : M < N = ltb-true M N e in
          at _ _ true (N - M) (lt-ltb _ _ (omega (arith, l))) (omega (arith, l)) ∙ some true (N - M) (omega (arith, l))
      go false e =
          let l : N ≤ M = ltb-false M N e in
          at _ _ false (M - N) (le-ltb _ _ (omega (arith, l))) (omega (arith, l)) ∙ plus (M - N)
  by-signs true false M N h = go (ltb M N) (ltb N M) refl refl
    where
      go : (b d : Bool) → ltb M N ≡ b → ltb N M ≡ d
          → signed (difference (0 + (N + 0)) (M + (0 + 0))) ≡ cond b (E false (N - M)) (E d (M - N))
      go true d e i =
          let l : M < N = ltb-true M N e in
          at _ _ false (N - M) (le-ltb _ _ (omega (arith, l))) (omega (arith, l)) ∙ plus (N - M)
      go false true e i =
          let l : N < M = ltb-true N M i in
          at _ _ true (M - N) (lt-ltb _ _ (omega (arith, l))) (omega (arith, l)) ∙ some true (M - N) (omega (arith, l))
      go false false e i =
          let l : N ≤ M = ltb-false M N e in
          let k : M ≤ N = ltb-false N M i in
          at _ _ false (M - N) (le-ltb _ _ (omega (arith, k))) (omega (arith, l)) ∙ plus (M - N)

  -- ---- the list of two

  abbrev list : ℕ → ℕ → List ℕ
  list a b = a ∷ b ∷ []

  -- with a term
  with-term : (a b : ℕ) → sum_refusal f no_settings 0 (list a b) ≡ 0 → AllFinite f (list a b) → 0 < length (sum_terms f no_settings value (list a b))
      → (sum_answer f no_settings 0 (list a b)).result
      ≡ signed (difference (plus_of (worth (decode f a)) + (plus_of (worth (decode f b)) + 0)) (minus_of (worth (decode f a)) + (minus_of (worth (decode f b)) + 0)))
  unfolding reported rise grid
  with-term a b r h k =
      ap (λ (z : Answer). z.result) (sum-exact f no_settings 0 (list a b) r h k)
      ∙ ap (λ (x : Signed). encode f (sum_rounded f no_settings g (towards_negative no_settings) x).value)
      (raised-none (exact_sum (sum_terms f no_settings value (list a b)))
      ∙ ap₂ difference (plus-values f no_settings refl (list a b)) (minus-values f no_settings refl (list a b))
      ∙ difference-raised room _ _)
      ∙ rounded-is _

  -- ---- one of the two

  record Numeral (v : Unpacked) : Type 0 where
    s : Bool
    M : ℕ
    is : HasValue (value_in F v) s M (2 ^ kit.low F)
    positive : plus_of (worth v) ≡ cond s 0 M
    negative : minus_of (worth v) ≡ cond s M 0

  nothing-there : (s : Bool) → zero ≡ cond s 0 0
  nothing-there true = refl
  nothing-there false = refl

  abbrev of-zero : (s : Bool) → Numeral (zero_of s)
  of-zero s = record { s = s; M = 0; is = (refl, zero-mul (2 ^ kit.low F)); positive = nothing-there s; negative = nothing-there s }

  abbrev of-finite : (s : Bool) (k m : ℕ) → Numeral (finite s k m)
  of-finite s k m = record { s = s; M = m * 2 ^ k; is = odd_sign (kit.prec F) s m k (kit.low F); positive = refl; negative = refl }

  spread : (s t : Bool) (M N : ℕ) → kit.to_bits F (chosen F g (λ b m. kit.round F b (m * 2 ^ g) (D F g)) s M t N) ≡ chosen F g E s M t N
  spread s t M N = go (beq s t) (ltb M N)
    where
      by : (b : Bool) (m : ℕ) → kit.to_bits F (kit.round F b (m * 2 ^ g) (D F g)) ≡ E b m
      by b m = sym (rounds-alike F g b (m * 2 ^ g))

      go : (a d : Bool)
          → kit.to_bits F (cond a (kit.round F s ((M + N) * 2 ^ g) (D F g)) (cond d (kit.round F t ((N - M) * 2 ^ g) (D F g)) (kit.round F (s && ltb N M) ((M - N) * 2 ^ g) (D F g))))
          ≡ cond a (E s (M + N)) (cond d (E t (N - M)) (E (s && ltb N M) (M - N)))
      go true d = by s (M + N)
      go false true = by t (N - M)
      go false false = by (s && ltb N M) (M - N)

  kit-is : (v w : Unpacked) (x : Numeral v) (y : Numeral w) → kit.to_bits F (kit.add F (value_in F v) (value_in F w)) ≡ chosen F g E x.s x.M y.s y.M
  kit-is v w x y = ap (kit.to_bits F) (adds F g (value_in F v) (value_in F w) x.s y.s x.M y.M x.is y.is) ∙ spread x.s y.s x.M y.M

  terms-are : (a b : ℕ) → sum_terms f no_settings value (list a b)
      ≡ keep (term_of (item_of value (decode f a))) (keep (term_of (item_of value (decode f b))) [])
  unfolding item operand
  terms-are a b = refl

  -- of two zeros
  two-zeros : (a b : ℕ) (s t : Bool) → decode f a ≡ zero_of s → decode f b ≡ zero_of t
      → sum_refusal f no_settings 0 (list a b) ≡ 0 → AllFinite f (list a b)
      → (sum_answer f no_settings 0 (list a b)).result ≡ chosen F g E s 0 t 0
  unfolding item operand
  two-zeros a b s t i j r h =
      ap (λ (z : Answer). z.result) (sum-zeros f no_settings 0 (list a b) r h none)
      ∙ ap (λ (z : Bool). encode f (zero_of z)) (ap₂ (λ (v w : Unpacked). zero_for no_settings (item_of value v ∷ item_of value w ∷ [])) i j)
      ∙ go s t
    where
      none : length (sum_terms f no_settings value (list a b)) ≡ 0
      none = ap length (terms-are a b ∙ ap₂ (λ (v w : Unpacked). keep (term_of (item_of value v)) (keep (term_of (item_of value w)) [])) i j)

      go : (s t : Bool) → encode f (zero_of (zero_for no_settings (zero_item s ∷ zero_item t ∷ []))) ≡ chosen F g E s 0 t 0
      go true true = sym (E-zero true)
      go true false = sym (E-zero false)
      go false true = sym (E-zero false)
      go false false = sym (E-zero false)

  -- ---- both

  module _ (a b : ℕ) (r : sum_refusal f no_settings 0 (list a b) ≡ 0) where
    all : (v w : Unpacked) → decode f a ≡ v → decode f b ≡ w → T (is_number v) → T (is_number w) → AllFinite f (list a b)
    all v w i j h k = (subst (λ (z : Unpacked). T (is_number z)) (sym i) h, (subst (λ (z : Unpacked). T (is_number z)) (sym j) k, tt))

    length-is : (v w : Unpacked) → decode f a ≡ v → decode f b ≡ w
        → 0 < length (keep (term_of (item_of value v)) (keep (term_of (item_of value w)) [])) → 0 < length (sum_terms f no_settings value (list a b))
    length-is v w i j h =
        subst (λ (n : List Term). 0 < length n) (sym (terms-are a b ∙ ap₂ (λ (v w : Unpacked). keep (term_of (item_of value v)) (keep (term_of (item_of value w)) [])) i j)) h

    -- of two of which one is not zero
    by-numerals : (v w : Unpacked) → decode f a ≡ v → decode f b ≡ w → T (is_number v) → T (is_number w) → (x : Numeral v) (y : Numeral w) → 0 < x.M + y.M
        → 0 < length (keep (term_of (item_of value v)) (keep (term_of (item_of value w)) []))
        → (sum_answer f no_settings 0 (list a b)).result ≡ kit.to_bits F (kit.add F (value_in F v) (value_in F w))
    by-numerals v w i j h k x y some n =
        with-term a b r (all v w i j h k) (length-is v w i j n)
        ∙ ap₂ (λ (p n : ℕ). signed (difference p n))
        (ap₂ (λ (i j : ℕ). i + (j + 0)) (ap (λ (z : Unpacked). plus_of (worth z)) i ∙ x.positive) (ap (λ (z : Unpacked). plus_of (worth z)) j ∙ y.positive))
        (ap₂ (λ (i j : ℕ). i + (j + 0)) (ap (λ (z : Unpacked). minus_of (worth z)) i ∙ x.negative) (ap (λ (z : Unpacked). minus_of (worth z)) j ∙ y.negative))
        ∙ by-signs x.s y.s x.M y.M some
        ∙ sym (kit-is v w x y)

    -- a finite number is not zero
    some-value : (s : Bool) (k m : ℕ) → decode f a ≡ finite s k m ⊎ decode f b ≡ finite s k m → 0 < m
    some-value s k m (inl e) = (subst (Decoded f) e (decoded f a)).0
    some-value s k m (inr e) = (subst (Decoded f) e (decoded f b)).0

    added : (v w : Unpacked) → decode f a ≡ v → decode f b ≡ w → T (is_number v) → T (is_number w)
        → (sum_answer f no_settings 0 (list a b)).result ≡ kit.to_bits F (kit.add F (value_in F v) (value_in F w))
    added (zero_of s) (zero_of t) i j h k =
        two-zeros a b s t i j r (all (zero_of s) (zero_of t) i j h k) ∙ sym (kit-is (zero_of s) (zero_of t) (of-zero s) (of-zero t))
    added (zero_of s) (finite t e n) i j h k =
        by-numerals (zero_of s) (finite t e n) i j h k (of-zero s) (of-finite t e n) (let p : 0 < n * 2 ^ e = mul-pos (some-value t e n (inr j)) (pow_pos e) in omega (arith, p)) (omega arith)
    added (finite s e m) (zero_of t) i j h k =
        by-numerals (finite s e m) (zero_of t) i j h k (of-finite s e m) (of-zero t)
        (let p : 0 < m * 2 ^ e = mul-pos (some-value s e m (inl i)) (pow_pos e) in omega (arith, p)) (omega arith)
    added (finite s e m) (finite t d n) i j h k =
        by-numerals (finite s e m) (finite t d n) i j h k (of-finite s e m) (of-finite t d n)
        (let p : 0 < m * 2 ^ e = mul-pos (some-value s e m (inl i)) (pow_pos e) in omega (arith, p)) (omega arith)
    added (infinity s) w i j h k = absurd h
    added (nan s g m) w i j h k = absurd h
    added (zero_of s) (infinity t) i j h k = absurd k
    added (zero_of s) (nan t g m) i j h k = absurd k
    added (finite s e m) (infinity t) i j h k = absurd k
    added (finite s e m) (nan t g n) i j h k = absurd k

accepted : (F : kit.Format) (a b : ℕ) → a < 2 ^ (ours F).W → b < 2 ^ (ours F).W → sum_refusal (ours F) no_settings 0 (a ∷ b ∷ []) ≡ 0
unfolding sum_refusal valid_format valid_settings
accepted kit.binary32 a b h k = rw (lt-leb (2 ^ 32) a h, lt-leb (2 ^ 32) b k)
accepted kit.binary64 a b h k = rw (lt-leb (2 ^ 64) a h, lt-leb (2 ^ 64) b k)

pub adds-alike : Adds-alike
adds-alike F a b ha hb na nb =
    added F a b (accepted F a b ha hb) (decode (ours F) a) (decode (ours F) b) refl refl na nb
    ∙ ap (kit.to_bits F) (ap₂ (kit.add F) (sym (decodes-alike F a ha)) (sym (decodes-alike F b hb)))

-- ---- encoding

odd-number : (d : ℕ) (s : Bool) (q k l : ℕ) → T (not (kit.is_nan (kit.odd d s q k l)))
unfolding kit.odd kit.is_nan
odd-number d s zero k l = tt
odd-number d s (suc q) k l = tt

pub encodes-alike : Encodes-alike
encodes-alike F b h n =
    ap (kit.to_bits F) (sym (decodes-alike F b h))
    ∙ to_bits-of_bits F b (two-tops F h) (subst (λ (v : kit.Float). T (not (kit.is_nan v))) (sym (decodes-alike F b h)) (number (decode (ours F) b) n))
    ∙ sym (encodes-back (ours F) b (is-range F) h n)
  where
    two-tops : (F : kit.Format) → b < 2 ^ (ours F).W → b < 2 * kit.top F
    two-tops kit.binary32 h = h
    two-tops kit.binary64 h = h

    number : (v : Unpacked) → T (is_number v) → T (not (kit.is_nan (value_in F v)))
    number (zero_of s) n = unfold kit.is_nan in tt
    number (finite s k m) n = unfold kit.is_nan in odd-number (kit.prec F) s m k (kit.low F)
    number (infinity s) n = absurd n
    number (nan s g m) n = absurd n
