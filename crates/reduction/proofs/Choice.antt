-- The running choice among NaNs: what a scan holds of it, over a list and one operand more.
use mathlib.Core.Path.{◌≡◌, refl, sym, ap, ◌∙◌}
use mathlib.Core.Bool.{Bool, true, false, ◌||◌, cond, or-false, or_assoc, true≢false}
use mathlib.Core.List.{List, [], ◌∷◌, ◌++◌}
use Rattle.std.specs.Prelude.{Option, Some, None, is_some}
use Rattle.totals_spec.specs.Basics.{any}
use Rattle.totals_spec.specs.formats.Format as spec
use Rattle.totals_spec.specs.formats.Settings as env
use Rattle.totals_spec.specs.formats.Decode as dec
use Rattle.totals_spec.specs.sums.Nan as nans
use Rattle.totals_spec.proofs.order.Order.{or_split}
use Rattle.binary.specs.Nans.{nan_of, if_nan}
use Rattle.format.specs.Fits.{Encodes}
use Rattle.binary.specs.declared.nan.Nan.{Nan}

-- ---- a value as a scan holds it

if-twice : (v : dec.Unpacked) → if_nan (if_nan v) ≡ if_nan v
if-twice (dec.zero_of s) = refl
if-twice (dec.finite s k m) = refl
if-twice (dec.infinity s) = refl
if-twice (dec.nan s g m) = refl

pub if-nan : (v : dec.Unpacked) → dec.is_nan (if_nan v) ≡ dec.is_nan v
if-nan (dec.zero_of s) = refl
if-nan (dec.finite s k m) = refl
if-nan (dec.infinity s) = refl
if-nan (dec.nan s g m) = refl

pub if-signaling : (v : dec.Unpacked) → dec.is_signaling (if_nan v) ≡ dec.is_signaling v
if-signaling (dec.zero_of s) = refl
if-signaling (dec.finite s k m) = refl
if-signaling (dec.infinity s) = refl
if-signaling (dec.nan s g m) = refl

if_none : (v : dec.Unpacked) → dec.is_nan v ≡ false → if_nan v ≡ dec.zero_of false
if_none v e = ap (λ b. cond b v (dec.zero_of false)) e

pub if_some : (v : dec.Unpacked) → dec.is_nan v ≡ true → if_nan v ≡ v
if_some v e = ap (λ b. cond b v (dec.zero_of false)) e

pub none-signaling : (v : dec.Unpacked) → dec.is_nan v ≡ false → dec.is_signaling v ≡ false
none-signaling v e = sym (if-signaling v) ∙ ap dec.is_signaling (if_none v e)

-- what stands in the code's choice
pub held-some : (n : Option Nan) → dec.is_nan (nan_of n) ≡ is_some n
held-some (Some n) = refl
held-some None = refl

pub held-if : (n : Option Nan) → if_nan (nan_of n) ≡ nan_of n
held-if (Some n) = refl
held-if None = refl

-- ---- one choice

module _ (r : env.Propagation) where
  pub if-left : (x v : dec.Unpacked) → if_nan (nans.choose r (if_nan x) v) ≡ if_nan (nans.choose r x v)
  if-left (dec.zero_of s) v = refl
  if-left (dec.finite s k m) v = refl
  if-left (dec.infinity s) v = refl
  if-left (dec.nan s g m) v = refl

  pub if-right : (x v : dec.Unpacked) → if_nan (nans.choose r x (if_nan v)) ≡ if_nan (nans.choose r x v)
  if-right (dec.zero_of s) v = if-twice v
  if-right (dec.finite s k m) v = if-twice v
  if-right (dec.infinity s) v = if-twice v
  if-right (dec.nan s g m) (dec.zero_of t) = refl
  if-right (dec.nan s g m) (dec.finite t k n) = refl
  if-right (dec.nan s g m) (dec.infinity t) = refl
  if-right (dec.nan s g m) (dec.nan t h n) = refl

  choose-nan : (x v : dec.Unpacked) → dec.is_nan (nans.choose r x v) ≡ (dec.is_nan x || dec.is_nan v)
  choose-nan (dec.zero_of s) v = refl
  choose-nan (dec.finite s k m) v = refl
  choose-nan (dec.infinity s) v = refl
  choose-nan (dec.nan s g m) (dec.zero_of t) = refl
  choose-nan (dec.nan s g m) (dec.finite t k n) = refl
  choose-nan (dec.nan s g m) (dec.infinity t) = refl
  choose-nan (dec.nan s g m) (dec.nan t h n) = go (nans.stays_nan r s g m t h n)
    where
      go : (b : Bool) → dec.is_nan (cond b (dec.nan s g m) (dec.nan t h n)) ≡ true
      go true = refl
      go false = refl

  pub choose-none : (x v : dec.Unpacked) → dec.is_nan v ≡ false → if_nan (nans.choose r x v) ≡ if_nan x
  choose-none (dec.zero_of s) v e = if_none v e
  choose-none (dec.finite s k m) v e = if_none v e
  choose-none (dec.infinity s) v e = if_none v e
  choose-none (dec.nan s g m) (dec.zero_of t) e = refl
  choose-none (dec.nan s g m) (dec.finite t k n) e = refl
  choose-none (dec.nan s g m) (dec.infinity t) e = refl
  choose-none (dec.nan s g m) (dec.nan t h n) e = absurd (true≢false e)

  module _ (f : spec.Format) where
    choose-encodes : (x v : dec.Unpacked) → Encodes f (if_nan x) → Encodes f (if_nan v) → Encodes f (if_nan (nans.choose r x v))
    choose-encodes (dec.zero_of s) v h k = k
    choose-encodes (dec.finite s i m) v h k = k
    choose-encodes (dec.infinity s) v h k = k
    choose-encodes (dec.nan s g m) (dec.zero_of t) h k = h
    choose-encodes (dec.nan s g m) (dec.finite t i n) h k = h
    choose-encodes (dec.nan s g m) (dec.infinity t) h k = h
    choose-encodes (dec.nan s g m) (dec.nan t j n) h k = go (nans.stays_nan r s g m t j n)
      where
        go : (b : Bool) → Encodes f (if_nan (cond b (dec.nan s g m) (dec.nan t j n)))
        go true = h
        go false = k

-- ---- the choice of a list

-- the NaNs among the operands fit the format
abbrev pub AllEncode : spec.Format → List dec.Unpacked → Type 0
AllEncode f [] = Unit {0}
AllEncode f (v ∷ l) = Encodes f (if_nan v) × AllEncode f l

module _ (r : env.Propagation) where
  pub chosen-append : (x : dec.Unpacked) (s t : List dec.Unpacked) → nans.chosen_of r x (s ++ t) ≡ nans.chosen_of r (nans.chosen_of r x s) t
  chosen-append x [] t = refl
  chosen-append x (v ∷ s) t = chosen-append (nans.choose r x v) s t

  pub chosen-held : (x : dec.Unpacked) (l : List dec.Unpacked) → if_nan (nans.chosen_of r (if_nan x) l) ≡ if_nan (nans.chosen_of r x l)
  chosen-held x [] = if-twice x
  chosen-held x (v ∷ l) =
      sym (chosen-held (nans.choose r (if_nan x) v) l) ∙ ap (λ y. if_nan (nans.chosen_of r y l)) (if-left r x v) ∙ chosen-held (nans.choose r x v) l

  pub chosen_nan : (x : dec.Unpacked) (l : List dec.Unpacked) → dec.is_nan (nans.chosen_of r x l) ≡ (dec.is_nan x || any dec.is_nan l)
  chosen_nan x [] = sym (or-false (dec.is_nan x))
  chosen_nan x (v ∷ l) = chosen_nan (nans.choose r x v) l ∙ rw (choose-nan r x v, or_assoc)

  pub chosen_none : (x : dec.Unpacked) (l : List dec.Unpacked) → any dec.is_nan l ≡ false → if_nan (nans.chosen_of r x l) ≡ if_nan x
  chosen_none x [] e = refl
  chosen_none x (v ∷ l) e = let a = or_split (dec.is_nan v) (any dec.is_nan l) e in chosen_none (nans.choose r x v) l a.1 ∙ choose-none r x v a.0

  pub chosen-encodes : (f : spec.Format) (x : dec.Unpacked) (l : List dec.Unpacked) → Encodes f (if_nan x) → AllEncode f l
      → Encodes f (if_nan (nans.chosen_of r x l))
  chosen-encodes f x [] h k = h
  chosen-encodes f x (v ∷ l) h k = chosen-encodes f (nans.choose r x v) l (choose-encodes r f x v h k.0) k.1
