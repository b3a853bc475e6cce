-- What is given of an element or a pair at once: of what is plainly normal, and of what is blank.
use Rattle.std.proofs.Common.{◌≡◌, refl, ℕ, true, false, arith, subst}
use Rattle.std.proofs.Math.Option.{none}
use Rattle.totals_spec.specs.formats.Format as spec
use Rattle.totals_spec.specs.formats.Settings as env
use Rattle.totals_spec.specs.formats.Decode as dec
use Rattle.totals_spec.specs.terms.Terms as terms
use Rattle.totals_spec.specs.pence.Hundredfold.{hundred_of, hundred_item}
use Rattle.binary.specs.Encodings.{is_blank, is_plain}
use Rattle.binary.proofs.Blank.{operand-blank}
use Rattle.binary.proofs.Plain.{plainly}
use Rattle.binary.specs.declared.term.Term.{Term}
use Rattle.binary.specs.Terms.{magnitude, StandsFor}
use Rattle.binary.specs.Plain.{plain_number, plain_product, both_plain}
use Rattle.binary.proofs.Elements.{no-magnitude, none-stands, no-hundred, plain-item, plain-hundred}
use Rattle.binary.proofs.Pairs.{both-plainly, plain-pair, none_left, none-either}

-- ---- what is no term

abbrev nothing : Term
nothing = record { negative = false; significand = 0; shift = 0 }

nothing_is : magnitude nothing ≡ 0
nothing_is = no-magnitude nothing refl

-- nothing above 0 stands for what is no term
none-stands-for : (t : Term) (i : terms.Item) → magnitude t ≡ 0 → StandsFor t i → terms.term_of i ≡ none
none-stands-for t (terms.term s) e h = absurd (omega (arith, h.0, h.3, e))
none-stands-for t terms.nan_item e h = refl
none-stands-for t terms.invalid_item e h = refl
none-stands-for t (terms.infinite s) e h = refl
none-stands-for t (terms.zero_item s) e h = refl

-- ---- an element, or a pair, that is plainly normal

pub plain-stands : (format : spec.Format) (settings : env.Settings) (summand : env.Summand) (x : ℕ) (t : Term) → is_plain format x ≡ true
    → StandsFor t (terms.item_of summand (plain_number format x)) → StandsFor t (terms.item format settings summand x)
plain-stands format settings summand x t e s = subst (λ (i : terms.Item). StandsFor t i) (plain-item format settings summand x (plainly format x e)) s

pub hundred-stands : (format : spec.Format) (settings : env.Settings) (x : ℕ) (t : Term) → is_plain format x ≡ true
    → StandsFor t (hundred_of (plain_number format x)) → StandsFor t (hundred_item format settings x)
hundred-stands format settings x t e s = subst (λ (i : terms.Item). StandsFor t i) (plain-hundred format settings x (plainly format x e)) s

pub pair-stands : (format : spec.Format) (settings : env.Settings) (x y : ℕ) (t : Term) → both_plain format x y ≡ true
    → StandsFor t (terms.term (plain_product format x y)) → StandsFor t (terms.pair_item format settings (x, y))
pair-stands format settings x y t e s = subst (λ (i : terms.Item). StandsFor t i) (plain-pair format settings x y (both-plainly format x y e)) s

-- ---- a blank element is no term, and no pair with one is

module _ (format : spec.Format) (settings : env.Settings) where
  pub blank-element : (summand : env.Summand) (x : ℕ) → is_blank format x ≡ true → terms.term_of (terms.item format settings summand x) ≡ none
  unfolding terms.item
  blank-element summand x e = none-stands-for nothing _ nothing_is (none-stands summand (dec.operand format settings x) nothing (operand-blank format settings x e) nothing_is refl)

  pub blank-hundred : (x : ℕ) → is_blank format x ≡ true → terms.term_of (hundred_item format settings x) ≡ none
  unfolding hundred_item
  blank-hundred x e = none-stands-for nothing _ nothing_is (no-hundred (dec.operand format settings x) nothing (operand-blank format settings x e) nothing_is refl)

  pub blank-left : (x y : ℕ) → is_blank format x ≡ true → terms.term_of (terms.pair_item format settings (x, y)) ≡ none
  unfolding terms.pair_item
  blank-left x y e = none-stands-for nothing _ nothing_is (none_left (dec.operand format settings x) (dec.operand format settings y) nothing (operand-blank format settings x e) nothing_is refl)

  pub blank-right : (x y : ℕ) → is_blank format y ≡ true → terms.term_of (terms.pair_item format settings (x, y)) ≡ none
  unfolding terms.pair_item
  blank-right x y e = none-stands-for nothing _ nothing_is (none-either (dec.operand format settings x) (dec.operand format settings y) nothing (operand-blank format settings y e) nothing_is refl)
