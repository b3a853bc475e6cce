-- PROMISE 1: the refusal number is that of the first condition that holds. Each test of the
-- definitions finds its condition, and no other.
use mathlib.Core.Logic.{◌↔◌, inl, inr, ◌≢◌, ◌⊎◌}
use mathlib.Core.Bool.{Bool, true, false, not, ◌||◌, ◌&&◌, cond}
use mathlib.Core.List.{List, [], ◌∷◌}
use Prim.Native.Nat.{ℕ, ◌%◌, ◌+◌, zero, suc, ◌<◌, zero-le, suc-le-suc, ◌^◌}
use lib.Dec.{T, T_not, not_T, eqb, eqb→eq, ltb→lt, lt→ltb, nleb→lt, leb, leb→le, ltb, le→leb}
use mathlib.Core.Path.{refl, ◌≡◌, sym, ◌∙◌, subst}
use borrow.Author.Tests.{eq-eqb}
use lib.ListN.{length, get_or}
use native.Mathlib.Omega.{arith}
use mathlib.Core.Option.{Option, none, some}
use lib.IntN.{ℤ, nat_abs}
use native.Mathlib.Nat.{not-suc-le-zero, le_of_suc-le-suc}
use Rattle.totals_spec.specs.sums.Totals.{refuse_if, limit, stray, sum_refusal, dot_refusal, Answer}
use Rattle.totals_spec.specs.refusals.Conditions.{Condition, First, Uneven, Short, FarBias}
use Rattle.totals_spec.specs.refusals.Conditions.{BadFormat, BadSettings, BadSummand, Unequal}
use Rattle.totals_spec.specs.refusals.Conditions.{TooMany, StrayBit, Stray, sum_conditions}
use Rattle.totals_spec.specs.refusals.Conditions.{dot_conditions, NoNumber, Misnamed}
use Rattle.totals_spec.specs.entries.Bytes.{uneven, short, Entry, entered}
use Rattle.totals_spec.specs.formats.Format.{offered, Format, valid_format, digits}
use Rattle.totals_spec.specs.formats.Bounds.{Offered, FormatBounds, SettingsBounds}
use Rattle.totals_spec.specs.formats.Settings.{Settings, valid_settings}
use Rattle.totals_spec.specs.Basics.{any}
use Rattle.totals_spec.specs.refusals.Promises.{Sum-refused-exactly, Dot-refused-exactly}
use Rattle.totals_spec.specs.pence.Pence.{Pence, refused_pence}
use Rattle.totals_spec.specs.formats.Decode.{Unpacked, zero_of, finite, infinity, nan, is_number}
use Rattle.totals_spec.specs.entries.Words.{misnamed}
use Rattle.totals_spec.proofs.numbers.Bits.{T_of}
use Rattle.totals_spec.proofs.formats.Valid.{format-bounds, settings-bounds}
use Rattle.totals_spec.proofs.refusals.RefusedRecords.{sum-refusal, dot-refusal}

-- ---- tests in their order, each of which finds a condition, and the number of the first that is
-- true

-- a later test may count on an earlier condition not to hold
pub data Tests : List Condition → ℕ → Type 1 where
  last : Tests [] 0
  unless : {n rest : ℕ} {P : Type 0} {l : List Condition} (b : Bool) → T b ↔ P → (¬ P → Tests l rest) → Tests ((n, P) ∷ l) (refuse_if b n rest)

pub test : {n rest : ℕ} {P : Type 0} {l : List Condition} (b : Bool) → T b ↔ P → Tests l rest → Tests ((n, P) ∷ l) (refuse_if b n rest)
test b t h = unless b t (λ k. h)

first-if : (b : Bool) (n rest : ℕ) (P : Type 0) (l : List Condition) → T b ↔ P → (¬ P → First l rest) → First ((n, P) ∷ l) (refuse_if b n rest)
first-if true n rest P l t h = inl (t.0 tt, refl)
first-if false n rest P l t h = inr (t.1, h t.1)

first : {l : List Condition} {n : ℕ} → Tests l n → First l n
first last = refl
first (unless {n} {rest} {P} {l} b t h) = first-if b n rest P l t (λ k. first (h k))

one-first : (l : List Condition) (m n : ℕ) → First l m → First l n → m ≡ n
one-first [] m n h k = h ∙ sym k
one-first (c ∷ l) m n (inl h) (inl k) = h.1 ∙ sym k.1
one-first (c ∷ l) m n (inl h) (inr k) = absurd (k.0 h.0)
one-first (c ∷ l) m n (inr h) (inl k) = absurd (h.0 k.0)
one-first (c ∷ l) m n (inr h) (inr k) = one-first l m n h.1 k.1

pub exactly : {l : List Condition} {m : ℕ} → Tests l m → (n : ℕ) → m ≡ n ↔ First l n
exactly {l} {m} t n = ((λ e. subst (First l) e (first t)), one-first l m n (first t))

-- ---- what a test finds

pub different : (a b : ℕ) → T (not (eqb a b)) ↔ a ≢ b
different a b = ((λ t e. T_not (eqb a b) t (T_of (eq-eqb a b e))), λ h. not_T (eqb a b) (λ t. h (eqb→eq a b t)))

pub either : (a b : Bool) {A B : Type 0} → T a ↔ A → T b ↔ B → T (a || b) ↔ A ⊎ B
either true b h k = ((λ t. inl (h.0 tt)), λ p. tt)
either false b {A} {B} h k = ((λ t. inr (k.0 t)), right)
  where
    right : A ⊎ B → T b
    right (inl p) = absurd (h.1 p)
    right (inr p) = k.1 p

-- a conjunction fails where one of its parts does
part-fails : (a b : Bool) {P : Type 0} → (T (not a) → P) → (T (not b) → P) → T (not (a && b)) → P
part-fails true b h k t = k t
part-fails false b h k t = h tt

pub not-both : (a b : Bool) {A B : Type 0} → T (not a) ↔ A → T (not b) ↔ B → T (not (a && b)) ↔ A ⊎ B
not-both a b {A} {B} h k = (part-fails a b (λ t. inl (h.0 t)) (λ t. inr (k.0 t)), back a b h.1 k.1)
  where
    back : (a b : Bool) → (A → T (not a)) → (B → T (not b)) → A ⊎ B → T (not (a && b))
    back true b x y (inl p) = absurd (x p)
    back true b x y (inr p) = y p
    back false b x y p = tt

-- ---- 1 and 2

pub uneven-found : (bytes : List ℕ) → T (uneven bytes) ↔ Uneven bytes
uneven-found bytes = different (length bytes % 8) 0

pub short-found : (old : List ℕ) → T (short old) ↔ Short old
short-found old = ((λ t. omega (arith, ltb→lt (length old) 24 t)), λ h. lt→ltb (length old) 24 (omega (arith, h)))

-- ---- 3 and 4

far-forth : (n : Option ℤ) → T (not (offered n)) → FarBias n
far-forth none t = t
far-forth (some b) t = omega (arith, nleb→lt (nat_abs b) 268435456 t)

far-back : (n : Option ℤ) → FarBias n → Offered n → ⊥
far-back none h k = h
far-back (some b) h k = omega (arith, h, k)

pub format-fails : (f : Format) → T (not (valid_format f)) ↔ BadFormat f
unfolding valid_format
format-fails f = (forth, λ p. not_T (valid_format f) (λ t. back p (format-bounds f t)))
  where
    forth : T (not (valid_format f)) → BadFormat f
    forth =
        let k = leb f.kind 3 in
        let a = leb 2 f.E in
        let b = leb f.E 28 in
        let c = leb (f.E + 2) f.W in
        let d = leb f.W 64 in
        part-fails (k && a && b && c && d) (offered f.named)
        (part-fails (k && a && b && c) d
        (part-fails (k && a && b) c
        (part-fails (k && a) b
        (part-fails k a
        (λ t. inl (omega (arith, nleb→lt f.kind 3 t)))
        (λ t. inr (inl (omega (arith, nleb→lt 2 f.E t)))))
        (λ t. inr (inr (inl (omega (arith, nleb→lt f.E 28 t))))))
        (λ t. inr (inr (inr (inl (omega (arith, nleb→lt (f.E + 2) f.W t)))))))
        (λ t. inr (inr (inr (inr (inl (omega (arith, nleb→lt f.W 64 t))))))))
        (λ t. inr (inr (inr (inr (inr (far-forth f.named t))))))

    back : BadFormat f → FormatBounds f → ⊥
    back (inl h) b = omega (arith, h, b.kind-le)
    back (inr (inl h)) b = omega (arith, h, b.e-ge)
    back (inr (inr (inl h))) b = omega (arith, h, b.e-le)
    back (inr (inr (inr (inl h)))) b = omega (arith, h, b.w-ge)
    back (inr (inr (inr (inr (inl h))))) b = omega (arith, h, b.w_le)
    back (inr (inr (inr (inr (inr h))))) b = far-back f.named h b.named-le

pub settings-fail : (f : Format) (c : Settings) → T (not (valid_settings f c)) ↔ BadSettings f c
unfolding valid_settings
settings-fail f c = (forth, λ p. not_T (valid_settings f c) (λ t. back p (settings-bounds f c t)))
  where
    forth : T (not (valid_settings f c)) → BadSettings f c
    forth =
        let r = leb c.rounding 7 in
        let i = leb c.tininess 1 in
        let n = leb c.nan_propagation 3 in
        let d = leb c.default_nan_sign 1 in
        let z = leb c.flush_to_zero 1 in
        let s = leb c.denormals_are_zero 1 in
        let o = leb c.saturate 1 in
        let q = leb c.precision (digits f) in
        part-fails (r && i && n && d && z && s && o) q
        (part-fails (r && i && n && d && z && s) o
        (part-fails (r && i && n && d && z) s
        (part-fails (r && i && n && d) z
        (part-fails (r && i && n) d
        (part-fails (r && i) n
        (part-fails r i
        (λ t. inl (omega (arith, nleb→lt c.rounding 7 t)))
        (λ t. inr (inl (omega (arith, nleb→lt c.tininess 1 t)))))
        (λ t. inr (inr (inl (omega (arith, nleb→lt c.nan_propagation 3 t))))))
        (λ t. inr (inr (inr (inl (omega (arith, nleb→lt c.default_nan_sign 1 t)))))))
        (λ t. inr (inr (inr (inr (inl (omega (arith, nleb→lt c.flush_to_zero 1 t))))))))
        (λ t. inr (inr (inr (inr (inr (inl (omega (arith, nleb→lt c.denormals_are_zero 1 t)))))))))
        (λ t. inr (inr (inr (inr (inr (inr (inl (omega (arith, nleb→lt c.saturate 1 t))))))))))
        (λ t. inr (inr (inr (inr (inr (inr (inr (omega (arith, nleb→lt c.precision (digits f) t)))))))))

    back : BadSettings f c → SettingsBounds f c → ⊥
    back (inl h) b = omega (arith, h, b.rounding-le)
    back (inr (inl h)) b = omega (arith, h, b.tininess-le)
    back (inr (inr (inl h))) b = omega (arith, h, b.propagation-le)
    back (inr (inr (inr (inl h)))) b = omega (arith, h, b.sign_le)
    back (inr (inr (inr (inr (inl h))))) b = omega (arith, h, b.flush-le)
    back (inr (inr (inr (inr (inr (inl h)))))) b = omega (arith, h, b.denormals-le)
    back (inr (inr (inr (inr (inr (inr (inl h))))))) b = omega (arith, h, b.saturate-le)
    back (inr (inr (inr (inr (inr (inr (inr h))))))) b = omega (arith, h, b.precision-le)

pub summand-fails : (u : ℕ) → T (not (leb u 2)) ↔ BadSummand u
summand-fails u = ((λ t. omega (arith, nleb→lt u 2 t)), λ h. not_T (leb u 2) (λ t. omega (arith, h, leb→le u 2 t)))

-- ---- 5 and 6

pub unequal-found : (xs ys : List ℕ) → T (not (eqb (length xs) (length ys))) ↔ Unequal xs ys
unequal-found xs ys = ((λ t. omega (arith, (different (length xs) (length ys)).0 t)), λ h. (different (length xs) (length ys)).1 (omega (arith, h)))

pub many-found : (l : List ℕ) → T (ltb limit (length l)) ↔ TooMany l
many-found l = ((λ t. omega (arith, ltb→lt limit (length l) t)), λ h. lt→ltb limit (length l) (omega (arith, h)))

-- ---- 7

-- some element passes a test, where each that passes it meets P
module _ {A : Type 0} (t : A → Bool) (P : A → Type 0) (each : (x : A) → T (t x) ↔ P x) (none : A) where
  abbrev Some : List A → Type 0
  Some l = (i : ℕ) × (i < length l) × P (get_or l i none)

  some-forth : (l : List A) → T (any t l) → Some l
  some-forth [] h = absurd h
  some-forth (x ∷ l) h = go (t x) (each x).0 h (some-forth l)
    where
      go : (b : Bool) → (T b → P x) → T (b || any t l) → (T (any t l) → Some l) → Some (x ∷ l)
      go true k h ih = (0, suc-le-suc zero-le, k tt)
      go false k h ih = let s = ih h in (suc s.0, suc-le-suc s.1, s.2)

  any_at : (l : List A) (i : ℕ) → i < length l → P (get_or l i none) → T (any t l)
  any_at [] i h p = absurd (not-suc-le-zero h)
  any_at (x ∷ l) zero h p = or_left (t x) (any t l) ((each x).1 p)
    where
      or_left : (a b : Bool) → T a → T (a || b)
      or_left true b t = tt
      or_left false b t = absurd t
  any_at (x ∷ l) (suc i) h p = or_right (t x) (any t l) (any_at l i (le_of_suc-le-suc h) p)
    where
      or_right : (a b : Bool) → T b → T (a || b)
      or_right true b t = tt
      or_right false b t = t

  pub some-found : (l : List A) → T (any t l) ↔ Some l
  some-found l = (some-forth l, λ s. any_at l s.0 s.1 s.2)

pub stray-bit : (f : Format) (b : ℕ) → T (stray f b) ↔ StrayBit f b
stray-bit f b = (leb→le (2 ^ f.W) b, le→leb (2 ^ f.W) b)

pub stray-found : (f : Format) (l : List ℕ) → T (any (stray f) l) ↔ Stray f l
stray-found f = some-found (stray f) (StrayBit f) (stray-bit f) 0

-- ---- sums and dots

pub sum-tests : (f : Format) (c : Settings) (u : ℕ) (l : List ℕ) → Tests (sum_conditions f c u l) (sum_refusal f c u l)
unfolding sum_refusal
sum-tests f c u l =
    test (not (valid_format f)) (format-fails f)
    (test (not (valid_settings f c && leb u 2)) (not-both (valid_settings f c) (leb u 2) (settings-fail f c) (summand-fails u))
    (test (ltb limit (length l)) (many-found l)
    (test (any (stray f) l) (stray-found f l) last)))

pub dot-tests : (f : Format) (c : Settings) (xs ys : List ℕ) → Tests (dot_conditions f c xs ys) (dot_refusal f c xs ys)
unfolding dot_refusal
dot-tests f c xs ys =
    test (not (valid_format f)) (format-fails f)
    (test (not (valid_settings f c)) (settings-fail f c)
    (test (not (eqb (length xs) (length ys))) (unequal-found xs ys)
    (test (ltb limit (length xs)) (many-found xs)
    (test (any (stray f) xs || any (stray f) ys) (either (any (stray f) xs) (any (stray f) ys) (stray-found f xs) (stray-found f ys)) last))))

pub sum-refused-exactly : Sum-refused-exactly
sum-refused-exactly f c u l n = rw (sum-refusal f c u l) (exactly (sum-tests f c u l) n)

pub dot-refused-exactly : Dot-refused-exactly
dot-refused-exactly f c xs ys n = rw (dot-refusal f c xs ys) (exactly (dot-tests f c xs ys) n)

-- ---- byte entries

-- by the two tests of its own and the record
abbrev pub tested : (a b : Bool) → Answer → List ℕ → Entry
tested a b r old = cond a (record { code = 1; buffer = old }) (cond b (record { code = 2; buffer = old }) (entered r old))

abbrev pub ranged : Bool → ℤ → Pence
ranged b z = cond b (record { figure = z; refusal = 0; place = 0 }) (refused_pence 8)

-- ---- the pence of a list

pub no-number-found : (v : Unpacked) → T (not (is_number v)) ↔ NoNumber v
no-number-found (zero_of s) = ((λ t. t), λ t. t)
no-number-found (finite s k m) = ((λ t. t), λ t. t)
no-number-found (infinity s) = ((λ t. t), λ t. t)
no-number-found (nan s g m) = ((λ t. t), λ t. t)

-- ---- and of its entry

both : (a b : Bool) {A B : Type 0} → T a ↔ A → T b ↔ B → T (a && b) ↔ A × B
both true b h k = ((λ t. (h.0 tt, k.0 t)), λ p. k.1 p.1)
both false b h k = (absurd, λ p. absurd (h.1 p.0))

pub misnamed-found : (named : ℕ) (b : ℤ) → T (misnamed named b) ↔ Misnamed named b
misnamed-found named b =
    either (ltb 1 named) (eqb named 0 && not (eqb (nat_abs b) 0)) (ltb→lt 1 named, lt→ltb 1 named)
    (both (eqb named 0) (not (eqb (nat_abs b) 0)) (eqb→eq named 0, λ e. T_of (eq-eqb named 0 e)) (different (nat_abs b) 0))
