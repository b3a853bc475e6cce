-- For the code's entries: an answer's flags fit a byte and its side two bits; and two numbers
-- behind each other, as bytes, are one number's bytes.
use Prim.Native.Nat.{◌<◌, ◌+◌, ℕ, suc, ◌/◌, ◌^◌, zero, ◌*◌, ◌%◌}
use mathlib.Core.Bool.{Bool, true, false, cond, not, ◌&&◌}
use native.Mathlib.Omega.{arith}
use lib.Dec.{eqb, ltb}
use mathlib.Core.List.{List, ◌∷◌, ◌++◌}
use mathlib.Core.Path.{◌∙◌, subst, ◌≡◌, ap, ap₂}
use native.Mathlib.Nat.{div-lt_iff_lt-mul, pow-succ', mul_comm, zero-add, suc-add, mul_assoc}
use native.Mathlib.Nat.{add-mul-mod_self_left, add-mul-div_left}
use Rattle.totals_spec.specs.sums.Totals.{Answer, sum_rounded, accepted, special, reported}
use Rattle.totals_spec.specs.sums.Totals.{answered, refused, sum_refusal, sum_accepted, sum_answer}
use Rattle.totals_spec.specs.sums.Totals.{stray, first_index, dot_refusal, pairs, dot_accepted}
use Rattle.totals_spec.specs.sums.Totals.{dot_answer, dot_place}
use Rattle.totals_spec.specs.Basics.{Signed, plus_of, minus_of, is_set, flag}
use Rattle.totals_spec.specs.rounding.Side.{leans_of, side_of}
use Rattle.totals_spec.specs.formats.Decode.{Unpacked, zero_of, finite, infinity, nan, decode}
use Rattle.totals_spec.specs.rounding.Round.{Rounded, beyond, to_infinity, largest, overflow}
use Rattle.totals_spec.specs.rounding.Round.{Dropped, inexact, overflows, number_of, finished}
use Rattle.totals_spec.specs.rounding.Round.{round_to, round}
use Rattle.totals_spec.specs.formats.Format.{Kind, ieee, no_inf, fnuz, finite_only, Format, kind_of}
use Rattle.totals_spec.specs.formats.Format.{grid}
use Rattle.totals_spec.specs.formats.Settings.{Settings, rounding_of, summand_of}
use Rattle.totals_spec.specs.formats.Encode.{encode}
use Rattle.totals_spec.specs.terms.Terms.{Item}
use Rattle.totals_spec.specs.chain.Chain.{Run}
use Rattle.totals_spec.specs.entries.Bytes.{to_bytes}
use Rattle.totals_spec.proofs.sums.RecordRule.{accepted-has, cond_has}

pub record Fields (a : Answer) : Type 0 where
  pub flags : a.flags < 256
  pub side : a.side < 4

-- ---- the side

leans-less : (r x : Signed) → leans_of r x < 4
unfolding leans_of
leans-less r x = go (ltb (plus_of r + minus_of x) (plus_of x + minus_of r)) (eqb (plus_of r + minus_of x) (plus_of x + minus_of r))
  where
    go : (a b : Bool) → cond a 1 (cond b 0 2) < 4
    go true b = omega arith
    go false true = omega arith
    go false false = omega arith

pub side-less : (g : ℕ) (v : Unpacked) (x : Signed) → side_of g v x < 4
unfolding side_of
side-less g (zero_of s) x = leans-less _ x
side-less g (finite s k m) x = leans-less _ x
side-less g (infinity s) x = omega arith
side-less g (nan s h m) x = omega arith

-- ---- the flags

abbrev Few : Rounded → Type 0
Few r = r.flags < 128

few-beyond : (k : Kind) (v : Unpacked) (s : Bool) → Few (beyond k v s)
few-beyond ieee v true = omega arith
few-beyond ieee v false = omega arith
few-beyond no_inf v s = omega arith
few-beyond fnuz v s = omega arith
few-beyond finite_only v s = omega arith

few-overflow : (f : Format) (c : Settings) (q : ℕ) (s : Bool) → Few (overflow f c q s)
unfolding overflow
few-overflow f c q s = go (to_infinity (rounding_of c.rounding) s && not (is_set c.saturate))
  where
    go : (t : Bool) → Few (cond t (beyond (kind_of f.kind) (largest f q s) s) (record { value = largest f q s; flags = 4 + 16 }))
    go true = few-beyond (kind_of f.kind) (largest f q s) s
    go false = omega arith

pub flag-less : (n : ℕ) (b : Bool) → flag n b < suc n
flag-less n true = omega arith
flag-less n false = omega arith

few-finished : (f : Format) (c : Settings) (q g : ℕ) (s tiny : Bool) (d : Dropped) (up : Bool) (y : ℕ) → Few (finished f c q g s tiny d up y)
unfolding finished
few-finished f c q g s tiny d up y = go (tiny && is_set c.flush_to_zero) (overflows f q g y)
  where
    go : (t o : Bool) → Few (cond t (record { value = zero_of s; flags = 8 + 16 + 32 }) (cond o (overflow f c q s)
        (record { value = number_of f g s y; flags = flag 32 tiny + flag 16 (inexact d) + flag 8 (tiny && inexact d) + flag 64 up })))
    go true o = omega arith
    go false true = few-overflow f c q s
    go false false = omega (arith, flag-less 32 tiny, flag-less 16 (inexact d), flag-less 8 (tiny && inexact d), flag-less 64 up)

pub few-sum : (f : Format) (c : Settings) (g : ℕ) (towards : Bool) (x : Signed) → Few (sum_rounded f c g towards x)
unfolding sum_rounded round round_to
few-sum f c g towards x = go (eqb x.mag 0)
  where
    go : (z : Bool) → Few (cond z (record { value = zero_of towards; flags = 0 }) (round f c g x.neg x.mag))
    go true = omega arith
    go false = few-finished f c _ g x.neg _ _ _ _

-- ---- an answer

module _ (f : Format) (c : Settings) (sub products : Bool) (l : List Item) where
  pub without : (v : Unpacked) (invalid : Bool) → Fields (special f sub v invalid)
  unfolding special
  without v invalid = record { flags = omega (arith, flag-less 128 sub, flag-less 1 invalid); side = side-less 0 (decode f (encode f v)) _ }

  by-passes : (x : Signed) (r : Rounded) (h : Run) → Few r → Fields (reported f sub products x r h)
  unfolding reported
  by-passes x r h few = record { flags = omega (arith, flag-less 128 sub, few); side = side-less (grid f products) (decode f (encode f r.value)) x }

  pub accepted-fields : (infinity_first signaling : Bool) (v : Unpacked) → Fields (accepted f c sub products infinity_first signaling v l)
  accepted-fields = accepted-has Fields f c sub products l without (by-passes _ _ _ (few-sum f c (grid f products) _ _))

pub answered-fields : (n at : ℕ) (a : Answer) → Fields a → Fields (answered n at a)
answered-fields n at a h = cond_has Fields (eqb n 0) a (refused n (cond (eqb n 7) at 0)) h (record { flags = omega arith; side = omega arith })

pub sum_fields : (f : Format) (c : Settings) (u : ℕ) (l : List ℕ) → Fields (sum_answer f c u l)
unfolding sum_answer
sum_fields f c u l = answered-fields (sum_refusal f c u l) (first_index (stray f) l) (sum_accepted f c (summand_of u) l) inside
  where
    inside : Fields (sum_accepted f c (summand_of u) l)
    inside = unfold sum_accepted in accepted-fields f c _ _ _ _ _ _

pub dot-fields : (f : Format) (c : Settings) (xs ys : List ℕ) → Fields (dot_answer f c xs ys)
unfolding dot_answer
dot-fields f c xs ys = answered-fields (dot_refusal f c xs ys) (dot_place f xs ys) (dot_accepted f c (pairs xs ys)) inside
  where
    inside : Fields (dot_accepted f c (pairs xs ys))
    inside = unfold dot_accepted in accepted-fields f c _ _ _ _ _ _

-- ---- n bytes of x and then k bytes of y

pub next-bytes : (n x : ℕ) → x < 256 ^ suc n → x / 256 < 256 ^ n
next-bytes n x h = (div-lt_iff_lt-mul some).1 (subst (λ (z : ℕ). x < z) (pow-succ' 256 n ∙ mul_comm 256 (256 ^ n)) h)
  where
    some : 0 < 256
    some = omega arith

pub two-numbers : (n k x y : ℕ) → x < 256 ^ n → to_bytes (n + k) (x + 256 ^ n * y) ≡ to_bytes n x ++ to_bytes k y
two-numbers zero k x y h = ap₂ to_bytes (zero-add k) none
  where
    none : x + 1 * y ≡ y
    none = omega (arith, h)
two-numbers (suc n) k x y h =
    ap (λ (m : ℕ). to_bytes m (x + 256 ^ suc n * y)) (suc-add n k)
    ∙ ap₂ ◌∷◌ (ap (λ (z : ℕ). z % 256) split ∙ add-mul-mod_self_left x 256 (256 ^ n * y))
    (ap (λ (z : ℕ). to_bytes (n + k) (z / 256)) split ∙ ap (to_bytes (n + k)) (add-mul-div_left x (256 ^ n * y) some)
    ∙ two-numbers n k (x / 256) y (next-bytes n x h))
  where
    some : 0 < 256
    some = omega arith

    split : x + 256 ^ suc n * y ≡ x + 256 * (256 ^ n * y)
    split = ap (λ (z : ℕ). x + z) (ap (λ (z : ℕ). z * y) (pow-succ' 256 n) ∙ mul_assoc 256 (256 ^ n) y)
