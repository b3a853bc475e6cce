-- The total of one element is that element.
use mathlib.Core.Path.{◌≡◌, refl, sym, ap, ap₂, ◌∙◌, subst}
use mathlib.Core.Logic.{◌↔◌}
use mathlib.Core.Bool.{Bool, true, false, ◌&&◌, ◌||◌, cond, true≢false}
use mathlib.Core.List.{List, [], ◌∷◌}
use Prim.Native.Nat.{ℕ, ◌+◌, ◌-◌, ◌*◌, ◌^◌, ◌<◌}
use native.Mathlib.Nat.{add-zero, mul-pos, mul_assoc}
use native.Mathlib.Omega.{arith}
use lib.Dec.{T}
use lib.ListN.{length}
use lib.Pow.{pow-add, pow_pos}
use lib.Ieee as kit
use borrow.Author.Tests.{lt-ltb, le-ltb, leb-false, lt-leb}
use Rattle.totals_spec.specs.Basics.{Signed, raised, difference, any, flag, is_set, keep}
use Rattle.totals_spec.specs.formats.Bounds.{RangeBounds}
use Rattle.totals_spec.specs.formats.Format.{Format, valid_format, digits, grid, room}
use Rattle.totals_spec.specs.formats.Settings.{Settings, no_settings, valid_settings, value}
use Rattle.totals_spec.specs.formats.Settings.{precision_of}
use Rattle.totals_spec.specs.formats.Decode.{Unpacked, zero_of, finite, infinity, nan, decode}
use Rattle.totals_spec.specs.formats.Decode.{is_number, is_subnormal, operand, sign_bit}
use Rattle.totals_spec.specs.formats.Encode.{encode}
use Rattle.totals_spec.specs.formats.Ordered.{worth}
use Rattle.figures_spec.specs.ranges.Allowed.{sum_of_amounts}
use Rattle.totals_spec.specs.terms.Terms.{Term, term_of, zero_item, item_of, item, exact_sum}
use Rattle.totals_spec.specs.sums.Promises.{AllFinite, zero_for}
use Rattle.totals_spec.specs.sums.Totals.{Answer, on_grid, stray, sum_refusal, sum_terms}
use Rattle.totals_spec.specs.sums.Totals.{sum_answer}
use Rattle.totals_spec.proofs.refusals.AcceptedCalls.{sum-accepts}
use Rattle.totals_spec.proofs.sums.ZeroTotals.{sum-zeros}
use Rattle.promises.specs.Rounding.{Finite, Canonical, Worth, Tiny}
use Rattle.promises.specs.Statements.{RoundedOnce}
use Rattle.promises.specs.Amounts.{One-stays}
use Rattle.promises.specs.Bridge.{ours, One-alike}
use Rattle.promises.proofs.roundings.SumsOfAmounts.{exact-sum-means}
use Rattle.promises.proofs.roundings.EncodedNumbers.{encodes-back, encodings-are-numbers, decoded-canonical}
use Rattle.promises.proofs.roundings.OfEveryRounding.{held-exactly}
use Rattle.promises.proofs.roundings.OneAnswer.{worth-one}
use Rattle.promises.proofs.roundings.SumsRoundedOnce.{sum-rounded-once}

module _ (f : Format) (c : Settings) (n : ℕ) (r : sum_refusal f c 0 (n ∷ []) ≡ 0) (full : precision_of f c ≡ digits f)
    (unflushed : is_set c.flush_to_zero ≡ false) (kept : is_set c.denormals_are_zero ≡ false) where
  abbrev a : Answer
  a = sum_answer f c 0 (n ∷ [])

  b : RangeBounds f
  b = (sum-accepts f c 0 (n ∷ []) r).format.range

  short : n < 2 ^ f.W
  short = leb-false (2 ^ f.W) n (first (stray f n) false ((sum-accepts f c 0 (n ∷ []) r).unstray))
    where
      first : (x y : Bool) → (x || y) ≡ false → x ≡ false
      first true y e = absurd (true≢false e)
      first false y e = refl

  operand-is : operand f c n ≡ decode f n
  unfolding operand
  operand-is = ap (λ (t : Bool). cond (t && is_subnormal f n) (zero_of (sign_bit f n)) (decode f n)) kept

  abbrev Stays : Type 0
  Stays = (a.result ≡ n) × ((t : Bool) × (a.flags ≡ flag 128 (is_subnormal f n) + flag 32 t))

  or-false : (t : Bool) → (t || false) ≡ t
  or-false true = refl
  or-false false = refl

  of-zero : (s : Bool) → decode f n ≡ zero_of s → AllFinite f (n ∷ []) → Stays
  unfolding item
  of-zero s e h =
      let z = sum-zeros f c 0 (n ∷ []) r h (ap (λ (v : Unpacked). length (sum_of v)) (operand-is ∙ e)) in (
        ap (λ (x : Answer). x.result) z
            ∙ ap (λ (v : Unpacked). encode f (zero_of (zero_for c (item_of value v ∷ [])))) (operand-is ∙ e)
            ∙ ap (λ (t : Bool). encode f (zero_of t)) (sign s) ∙ ap (encode f) (sym e) ∙ encodes-back f n b short h.0,
        (false, ap (λ (x : Answer). x.flags) z ∙ ap (flag 128) (or-false (is_subnormal f n)) ∙ sym (add-zero (flag 128 (is_subnormal f n)))),
      )
    where
      sum_of : Unpacked → List Term
      sum_of v = keep (term_of (item_of value v)) []

      sign : (s : Bool) → zero_for c (zero_item s ∷ []) ≡ s
      sign true = refl
      sign false = refl

  module _ (s : Bool) (k m : ℕ) (e : decode f n ≡ finite s k m) (h : AllFinite f (n ∷ [])) where
    canonical : Canonical f k m
    canonical = decoded-canonical f b (grid f false) n s k m e

    abbrev X : Signed
    X = record { neg = s; mag = m * 2 ^ k * 2 ^ room }

    some : 0 < m * 2 ^ k
    some = mul-pos canonical.some (pow_pos k)

    alone : (s : Bool) → raised room (sum_of_amounts (record { neg = s; mag = m * 2 ^ k } ∷ [])) ≡ record { neg = s; mag = m * 2 ^ k * 2 ^ room }
    unfolding raised difference
    alone true = λ i. record {
      neg = lt-ltb 0 (m * 2 ^ k + 0) (omega (arith, some)) i;
      mag = ap (λ (x : ℕ). x * 2 ^ room) (let z : 0 - (m * 2 ^ k + 0) + (m * 2 ^ k + 0 - 0) ≡ m * 2 ^ k = omega arith in z) i;
    }
    alone false = λ i. record {
      neg = le-ltb (m * 2 ^ k + 0) 0 (omega arith) i;
      mag = ap (λ (x : ℕ). x * 2 ^ room) (let z : m * 2 ^ k + 0 - 0 + (0 - (m * 2 ^ k + 0)) ≡ m * 2 ^ k = omega arith in z) i;
    }

    exact : on_grid f false (exact_sum (sum_terms f c value (n ∷ []))) ≡ X
    exact = exact-sum-means.0 f c (n ∷ []) ∙ ap (λ (v : Unpacked). raised room (sum_of_amounts (worth v ∷ []))) (operand-is ∙ e) ∙ alone s

    off : m * 2 ^ (k + grid f false) ≡ m * 2 ^ k * 2 ^ room
    unfolding grid
    off = ap (λ (x : ℕ). m * x) (pow-add 2 k room) ∙ sym (mul_assoc m (2 ^ k) (2 ^ room))

    o : RoundedOnce f c (grid f false) (any (is_subnormal f) (n ∷ [])) X a
    o = subst (λ (x : Signed). 0 < x.mag → RoundedOnce f c (grid f false) (any (is_subnormal f) (n ∷ [])) x a) exact (sum-rounded-once f c 0 (n ∷ []) r h)
        (mul-pos some (pow_pos room))

    number : Finite f (precision_of f c) (grid f false) (m * 2 ^ k * 2 ^ room)
    number =
        subst (λ (q : ℕ). Finite f q (grid f false) (m * 2 ^ k * 2 ^ room)) (sym full)
        (subst (Finite f (digits f) (grid f false)) off (encodings-are-numbers f (grid f false) n s k m b e))

    held : Worth f (grid f false) o.value s (m * 2 ^ k * 2 ^ room)
        × ((t : Bool) × ((t ≡ true) ↔ Tiny f c (grid f false) s (m * 2 ^ k * 2 ^ room)) × (o.set_flags ≡ flag 32 t))
    held = held-exactly f c (grid f false) s (m * 2 ^ k * 2 ^ room) o.value o.set_flags number (λ z. true≢false (sym z.1 ∙ unflushed)) o.once

    same : o.value ≡ finite s k m
    same = worth-one f (grid f false) s (m * 2 ^ k * 2 ^ room) o.value (finite s k m) held.0 (refl, off, canonical)

    of-number : Stays
    of-number = (
      o.result ∙ ap (encode f) (same ∙ sym e) ∙ encodes-back f n b short h.0,
      (held.1.0, o.flags ∙ ap₂ ◌+◌ (ap (flag 128) (or-false (is_subnormal f n))) held.1.2),
    )

  stays : (v : Unpacked) → decode f n ≡ v → T (is_number v) → Stays
  stays (zero_of s) e h = of-zero s e (subst (λ (v : Unpacked). T (is_number v)) (sym e) tt, tt)
  stays (finite s k m) e h = of-number s k m e (subst (λ (v : Unpacked). T (is_number v)) (sym e) tt, tt)
  stays (infinity s) e h = absurd h
  stays (nan s g m) e h = absurd h

pub one-stays : One-stays
one-stays f c n r h full u k = stays f c n r full u k (decode f n) refl h

-- ---- in the kit's formats

accepted : (F : kit.Format) (a : ℕ) → a < 2 ^ (ours F).W → sum_refusal (ours F) no_settings 0 (a ∷ []) ≡ 0
unfolding sum_refusal valid_format valid_settings
accepted kit.binary32 a h = rw (lt-leb (2 ^ 32) a h)
accepted kit.binary64 a h = rw (lt-leb (2 ^ 64) a h)

pub one-alike : One-alike
unfolding precision_of
one-alike F a h n = (one-stays (ours F) no_settings a (accepted F a h) n refl refl refl).0
