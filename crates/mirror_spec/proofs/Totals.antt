-- MIRROR: all values negated, or those of a dot's left list, and the exchanged modes give the
-- negated record.
use mathlib.Core.Path.{◌≡◌, refl, sym, ap, ap₂, ◌∙◌, subst}
use mathlib.Core.Bool.{Bool, true, false, not, cond, ◌||◌}
use mathlib.Core.List.{[], List, ◌∷◌, map}
use Prim.Native.Nat.{ℕ, zero, ◌+◌, ◌≤◌, suc}
use lib.Dec.{T, eqb, leb}
use native.Mathlib.Omega.{arith}
use lib.ListN.{length, length-map}
use lib.IntN.{sub_ℕ}
use Rattle.totals_spec.specs.rounding.Side.{is_on, by_flags, rounded_side, side_of}
use Rattle.totals_spec.specs.formats.Decode.{Unpacked, zero_of, finite, infinity, nan, decode}
use Rattle.totals_spec.specs.formats.Decode.{is_subnormal}
use Rattle.totals_spec.specs.Basics.{Signed, flag, any}
use Rattle.totals_spec.specs.formats.Format.{Format, digits, origin, fall, grid, rise}
use Rattle.totals_spec.specs.formats.Settings.{Settings, value, precision_of, valid_settings}
use Rattle.totals_spec.specs.rounding.Round.{Rounded, round}
use Rattle.totals_spec.specs.sums.Totals.{sum_rounded, towards_negative, Answer, special, reported}
use Rattle.totals_spec.specs.sums.Totals.{finite_total, on_grid, stray, sum_refusal, dot_refusal}
use Rattle.totals_spec.specs.sums.Totals.{sum_terms, pairs, dot_terms}
use Rattle.totals_spec.specs.formats.Bounds.{RangeBounds}
use Rattle.totals_spec.specs.terms.Terms.{Term, exact_sum}
use Rattle.totals_spec.specs.chain.Chain.{Run, chain}
use Rattle.totals_spec.specs.formats.Encode.{encode}
use Rattle.totals_spec.specs.ten_bytes.Promises.{exact_record}
use Rattle.totals_spec.proofs.formats.Valid.{precision-least, precision-most}
use Rattle.totals_spec.proofs.terms.GoodTerms.{AllGood, good-terms, good-pairs}
use Rattle.totals_spec.proofs.chain.Margin.{terms-max}
use Rattle.totals_spec.proofs.formats.DecodedBack.{back-zero}
use Rattle.totals_spec.proofs.rounding.RoundedNumbers.{round-held}
use Rattle.totals_spec.proofs.rounding.SideByFlags.{sum-leans}
use Rattle.totals_spec.proofs.refusals.AcceptedCalls.{SumAccepts, sum-accepts, DotAccepts}
use Rattle.totals_spec.proofs.refusals.AcceptedCalls.{dot-accepts}
use Rattle.totals_spec.proofs.chain.ByChain.{sum-few, dot-few}
use Rattle.totals_spec.proofs.sums.FiniteLists.{sum-finite, dot-finite}
use Rattle.mirror_spec.specs.Mirror.{other_side, opposite, neither_zero_nor_nan, negated, exchanged}
use Rattle.mirror_spec.specs.Mirror.{mirrored, negated_answer}
use Rattle.mirror_spec.specs.Promises.{Sum-mirror, Dot-mirror}
use Rattle.mirror_spec.proofs.Encodings.{encode-opposite}
use Rattle.mirror_spec.proofs.Terms.{turned, All, Fine, all-fine, strays-negated}
use Rattle.mirror_spec.proofs.Terms.{subnormals-negated, all-negated, sum-turned, dot-turned}
use Rattle.mirror_spec.proofs.Chain.{opposed, exact-turned, turned_run, chain-turned}
use Rattle.mirror_spec.proofs.Rounding.{turned_rounded, precision-turned, round-turned, others-stay}

-- ---- the side of a rounding by its sign and its flags

by-flags-turned : (s : Bool) (flags : ℕ) → by_flags (not s) flags ≡ other_side (by_flags s flags)
by-flags-turned s flags = go (is_on 16 flags) (is_on 64 flags) s
  where
    go : (i u s : Bool) → cond i (cond u (cond (not s) 1 2) (cond (not s) 2 1)) 0 ≡ other_side (cond i (cond u (cond s 1 2) (cond s 2 1)) 0)
    go true true true = refl
    go true true false = refl
    go true false true = refl
    go true false false = refl
    go false u s = refl

side-turned : (v : Unpacked) (flags : ℕ) → rounded_side (opposite v) flags ≡ other_side (rounded_side v flags)
unfolding rounded_side
side-turned (zero_of s) flags = by-flags-turned s flags
side-turned (finite s k m) flags = by-flags-turned s flags
side-turned (infinity s) flags = refl
side-turned (nan s g m) flags = refl

-- ---- one record

abbrev pub rounded : Format → Settings → ℕ → Signed → Rounded
rounded f c g x = sum_rounded f c g (towards_negative c) x

-- of which the mirror is claimed
abbrev pub Claimed : Format → Answer → Type 0
Claimed f a = T (neither_zero_nor_nan (decode f a.result))

module _ (f : Format) (c : Settings) (b : RangeBounds f) (q : precision_of f c ≤ digits f) where
  -- it is no zero
  no_zero : (s : Bool) → T (neither_zero_nor_nan (decode f (encode f (zero_of s)))) → ⊥
  no_zero s = back-zero f b (λ (v : Unpacked). T (neither_zero_nor_nan v) → ⊥) (λ t h. h) s

  -- a rounding r, and r' under the exchanged mode: it is the opposite, which is encoded as the
  -- negative
  record Turns (r r' : Rounded) : Type 0 where
    rounds : r' ≡ turned_rounded r
    encodes : encode f (opposite r.value) ≡ negated f (encode f r.value)

  turns : (g : ℕ) (x : Signed) → T (neither_zero_nor_nan (decode f (encode f (rounded f c g x).value)))
      → Turns (rounded f c g x) (rounded f (mirrored c) g (opposed x))
  unfolding sum_rounded
  turns g x = go (eqb x.mag 0)
    where
      zero-by : Settings → Rounded
      zero-by d = record { value = zero_of (towards_negative d); flags = 0 }

      go : (z : Bool) → (let r = cond z (zero-by c) (round f c g x.neg x.mag) in
          T (neither_zero_nor_nan (decode f (encode f r.value)))
          → Turns r (cond z (zero-by (mirrored c)) (round f (mirrored c) g (cond z false (not x.neg)) x.mag)))
      go true h = absurd (no_zero (towards_negative c) h)
      go false h = record {
        rounds = round-turned f c g x.neg x.mag;
        encodes = encode-opposite f b _ (round-held f b c (precision-least f c b) q g x.neg x.mag) h;
      }

  -- its side is that of the rounding, whose sign turns and whose flags stay
  sides : (g : ℕ) (x : Signed) → rounded f (mirrored c) g (opposed x) ≡ turned_rounded (rounded f c g x)
      → side_of g (decode f (encode f (rounded f (mirrored c) g (opposed x)).value)) (opposed x)
      ≡ other_side (side_of g (decode f (encode f (rounded f c g x).value)) x)
  sides g x e =
      sum-leans f (mirrored c) g (towards_negative (mirrored c)) (opposed x) b (precision-least f (mirrored c) b) (rw (precision-turned f c) q)
      ∙ ap (λ (r : Rounded). rounded_side r.value r.flags) e
      ∙ side-turned (rounded f c g x).value (rounded f c g x).flags
      ∙ ap other_side (sym (sum-leans f c g (towards_negative c) x b (precision-least f c b) q))

  module _ (sub products : Bool) (ts : List Term) (good : AllGood ts) (few : length ts ≤ terms-max) where
    report-turned : Claimed f (exact_record f c sub products ts)
        → exact_record f (mirrored c) sub products (map turned ts) ≡ negated_answer (negated f) (exact_record f c sub products ts)
    unfolding reported
    report-turned h = rw (exact-turned (rise f products) ts) (λ i. record {
      result = (ap (λ (r : Rounded). encode f r.value) t.rounds ∙ t.encodes) i;
      flags = flag 128 sub + ap (λ (r : Rounded). r.flags) t.rounds i;
      passes = ap (λ (r : Run). r.passes) runs i;
      last_edge = sub_ℕ (ap (λ (r : Run). r.edge) runs i + fall f products) (origin f products);
      refusal = 0;
      place = 0;
      side = sides (grid f products) (on_grid f products (exact_sum ts)) t.rounds i;
    })
      where
        t : Turns (rounded f c (grid f products) (on_grid f products (exact_sum ts)))
            (rounded f (mirrored c) (grid f products) (opposed (on_grid f products (exact_sum ts))))
        t = turns (grid f products) (on_grid f products (exact_sum ts)) h

        runs : chain (digits f) (map turned ts) ≡ turned_run (chain (digits f) ts)
        runs = chain-turned (digits f) ts (omega (arith, b.p-le)) good few

  -- without a term it would be a zero
  pub total-turned : (sub products minus minus' : Bool) (ts : List Term) → AllGood ts → length ts ≤ terms-max
      → {sub' : Bool} {us : List Term} → sub' ≡ sub → us ≡ map turned ts
      → Claimed f (finite_total f c sub products minus ts)
      → finite_total f (mirrored c) sub' products minus' us ≡ negated_answer (negated f) (finite_total f c sub products minus ts)
  unfolding finite_total special
  total-turned sub products minus minus' [] good few e d h = absurd (no_zero minus h)
  total-turned sub products minus minus' (t ∷ ts) good few e d h =
      ap₂ (λ (x : Bool) (l : List Term). unfold finite_total in finite_total f (mirrored c) x products minus' l) e d
      ∙ report-turned sub products (t ∷ ts) good few h

-- ---- the mirrored call is accepted

pub settings-mirrored : (f : Format) (c : Settings) → valid_settings f (mirrored c) ≡ valid_settings f c
unfolding valid_settings mirrored
settings-mirrored f c = rw (mode c.rounding)
  where
    mode : (n : ℕ) → leb (exchanged n) 7 ≡ leb n 7
    mode zero = refl
    mode (suc zero) = refl
    mode (suc (suc zero)) = refl
    mode (suc (suc (suc zero))) = refl
    mode (suc (suc (suc (suc zero)))) = refl
    mode (suc (suc (suc (suc (suc n))))) = ap (λ (k : ℕ). leb k 7) (others-stay (suc (suc (suc (suc (suc n))))) (omega arith))

sum-mirrored : (f : Format) (c : Settings) (l : List ℕ) → any (stray f) (map (negated f) l) ≡ any (stray f) l
    → sum_refusal f (mirrored c) 0 (map (negated f) l) ≡ sum_refusal f c 0 l
unfolding sum_refusal
sum-mirrored f c l e = rw (settings-mirrored f c, length-map l (negated f), e)

dot-mirrored : (f : Format) (c : Settings) (xs ys : List ℕ) → any (stray f) (map (negated f) xs) ≡ any (stray f) xs
    → dot_refusal f (mirrored c) (map (negated f) xs) ys ≡ dot_refusal f c xs ys
unfolding dot_refusal
dot-mirrored f c xs ys e = rw (settings-mirrored f c, length-map xs (negated f), e)

-- ---- THE PROMISE

pub sum-mirror : Sum-mirror
sum-mirror f c l r n h =
    let e = sum-finite f c 0 l r n in
    sum-finite f (mirrored c) 0 (map (negated f) l) accepted (all-negated f b l fine)
    ∙ total-turned f c b (precision-most f c a.settings) _ false _ _ (sum_terms f c value l) (good-terms f c value l) (sum-few f c 0 l r)
    (subnormals-negated f b l fine) (sum-turned f b c l fine) (subst (Claimed f) e h)
    ∙ ap (negated_answer (negated f)) (sym e)
  where
    a : SumAccepts f c 0 l
    a = sum-accepts f c 0 l r

    b : RangeBounds f
    b = a.format.range

    fine : All (Fine f) l
    fine = all-fine f l a.unstray n

    accepted : sum_refusal f (mirrored c) 0 (map (negated f) l) ≡ 0
    accepted = sum-mirrored f c l (strays-negated f b l fine) ∙ r

pub dot-mirror : Dot-mirror
dot-mirror f c xs ys r n m h =
    let e = dot-finite f c xs ys r n m in
    dot-finite f (mirrored c) (map (negated f) xs) ys accepted (all-negated f b xs fine) m
    ∙ total-turned f c b (precision-most f c a.settings) _ true _ _ (dot_terms f c xs ys) (good-pairs f c (pairs xs ys)) (dot-few f c xs ys r)
    (ap (λ (t : Bool). t || any (is_subnormal f) ys) (subnormals-negated f b xs fine)) (dot-turned f b c xs ys fine) (subst (Claimed f) e h)
    ∙ ap (negated_answer (negated f)) (sym e)
  where
    a : DotAccepts f c xs ys
    a = dot-accepts f c xs ys r

    b : RangeBounds f
    b = a.format.range

    fine : All (Fine f) xs
    fine = all-fine f xs a.unstray n

    accepted : dot_refusal f (mirrored c) (map (negated f) xs) ys ≡ 0
    accepted = dot-mirrored f c xs ys (strays-negated f b xs fine) ∙ r
