-- What is read alike gives the same, wherever settings are read.
use Rattle.std.proofs.Common.{◌≡◌, refl, sym, ap, ◌∙◌, ℕ, Bool, false, List, Option, Some, None}
use Rattle.totals_spec.specs.Basics.{Signed}
use Rattle.totals_spec.specs.formats.Format.{Format, digits, grid}
use Rattle.totals_spec.specs.formats.Settings.{Settings, Propagation, signaling_first, first_operand, larger_significand, default_nan}
use Rattle.totals_spec.specs.formats.Settings.{propagation_of, precision_of, chosen, is_toward_negative, Summand}
use Rattle.totals_spec.specs.formats.Decode.{Unpacked, operand}
use Rattle.totals_spec.specs.rounding.Round.{Dropped, overflow, finished, tiny_sum, round_to, round}
use Rattle.totals_spec.specs.sums.Nan.{default_nan_of, by_rule, select_all}
use Rattle.totals_spec.specs.sums.Totals.{towards_negative, sum_rounded, finite_total, without_nan, accepted}
use Rattle.totals_spec.specs.terms.Terms.{Term, Item, item, item_of, pair_item, terms}
use Rattle.totals_spec.specs.pence.Hundredfold.{hundred_item}
use Rattle.totals_spec.specs.ten_bytes.Extended.{extended_operand, extended_item, extended_pair}
use Rattle.binary.specs.Nans.{selected_by, selected_of}
use Rattle.reduction.specs.declared.scan.Scan.{Scan}
use Rattle.reduction.specs.declared.scan.Given.{Given}
use Rattle.reduction.specs.Scan.{Gathered, Decides}
use Rattle.as_given.specs.Reading.{ReadAs}

module _ (given read : Settings) (alike : ReadAs given read) where
  pub same_towards : towards_negative read ≡ towards_negative given
  same_towards = ap is_toward_negative alike.rounding

  -- ---- operands, and what is made of them

  pub same_operand : (f : Format) (b : ℕ) → operand f read b ≡ operand f given b
  unfolding operand
  same_operand f b = rw alike.denormals_are_zero refl

  pub same_item : (f : Format) (u : Summand) (b : ℕ) → item f read u b ≡ item f given u b
  unfolding item
  same_item f u b = ap (item_of u) (same_operand f b)

  pub same_hundred : (f : Format) (b : ℕ) → hundred_item f read b ≡ hundred_item f given b
  unfolding hundred_item
  same_hundred f b = rw (same_operand f b) refl

  pub same_pair : (f : Format) (x : ℕ × ℕ) → pair_item f read x ≡ pair_item f given x
  unfolding pair_item
  same_pair f x = rw (same_operand f x.0, same_operand f x.1) refl

  pub same_extended : (b : ℕ) → extended_operand read b ≡ extended_operand given b
  unfolding extended_operand
  same_extended b = rw alike.denormals_are_zero refl

  pub same_extended_item : (u : Summand) (b : ℕ) → extended_item read u b ≡ extended_item given u b
  unfolding extended_item
  same_extended_item u b = ap (item_of u) (same_extended b)

  pub same_extended_pair : (x : ℕ × ℕ) → extended_pair read x ≡ extended_pair given x
  unfolding extended_pair
  same_extended_pair x = rw (same_extended x.0, same_extended x.1) refl

  -- ---- NaNs

  pub same_default : default_nan_of read ≡ default_nan_of given
  unfolding default_nan_of
  same_default = rw alike.default_nan_sign refl

  same_selection : (r : Propagation) (v : Unpacked) → selected_by r read v ≡ selected_by r given v
  same_selection signaling_first v = refl
  same_selection first_operand v = refl
  same_selection larger_significand v = refl
  same_selection default_nan v = same_default

  pub same_selected : (v : Unpacked) → selected_of read v ≡ selected_of given v
  unfolding selected_of
  same_selected v =
      ap (λ (r : Propagation). selected_by r read v) alike.nan_propagation
      ∙ same_selection (propagation_of given.nan_propagation) v

  same_rule : (r : Propagation) (l : List Unpacked) → by_rule r read l ≡ by_rule r given l
  same_rule signaling_first l = refl
  same_rule first_operand l = refl
  same_rule larger_significand l = refl
  same_rule default_nan l = same_default

  pub same_select_all : (l : List Unpacked) → select_all read l ≡ select_all given l
  unfolding select_all
  same_select_all l =
      ap (λ (r : Propagation). by_rule r read l) alike.nan_propagation
      ∙ same_rule (propagation_of given.nan_propagation) l

  -- ---- the one rounding

  same_precision : (f : Format) → precision_of f read ≡ precision_of f given
  unfolding precision_of
  same_precision f = ap (λ (p : ℕ). chosen p (digits f)) alike.precision

  same_overflow : (f : Format) (q : ℕ) (s : Bool) → overflow f read q s ≡ overflow f given q s
  unfolding overflow
  same_overflow f q s = rw (alike.rounding, alike.saturate) refl

  same_finished : (f : Format) (q g : ℕ) (s tiny : Bool) (d : Dropped) (up : Bool) (y : ℕ)
      → finished f read q g s tiny d up y ≡ finished f given q g s tiny d up y
  unfolding finished
  same_finished f q g s tiny d up y = rw (alike.flush_to_zero, same_overflow f q s) refl

  same_tiny : (f : Format) (q g : ℕ) (s : Bool) (x : ℕ) → tiny_sum f read q g s x ≡ tiny_sum f given q g s x
  unfolding tiny_sum
  same_tiny f q g s x = rw (alike.tininess, alike.rounding) refl

  same_round_to : (f : Format) (q g : ℕ) (s : Bool) (x u : ℕ) → round_to f read q g s x u ≡ round_to f given q g s x u
  unfolding round_to
  same_round_to f q g s x u =
      rw (same_tiny f q g s x, alike.rounding) (same_finished f q g s _ _ _ _)

  pub same_round : (f : Format) (g : ℕ) (s : Bool) (x : ℕ) → round f read g s x ≡ round f given g s x
  unfolding round
  same_round f g s x = rw (same_precision f) (same_round_to f _ g s x _)

  -- ---- totals

  same_sum_rounded : (f : Format) (g : ℕ) (towards : Bool) (x : Signed)
      → sum_rounded f read g towards x ≡ sum_rounded f given g towards x
  unfolding sum_rounded
  same_sum_rounded f g towards x = rw (same_round f g x.neg x.mag) refl

  pub same_finite : (f : Format) (sub products minus : Bool) (l : List Term)
      → finite_total f read sub products minus l ≡ finite_total f given sub products minus l
  unfolding finite_total
  same_finite f sub products minus l = rw (same_towards, same_sum_rounded f (grid f products) _ _) refl

  same_without : (f : Format) (sub products : Bool) (l : List Item)
      → without_nan f read sub products l ≡ without_nan f given sub products l
  unfolding without_nan
  same_without f sub products l = rw (same_towards, same_default, same_finite f sub products _ (terms l)) refl

  same_accepted : (f : Format) (sub products first sig : Bool) (ops : List Unpacked) (l : List Item)
      → accepted f read sub products first sig (select_all read ops) l
      ≡ accepted f given sub products first sig (select_all given ops) l
  unfolding accepted
  same_accepted f sub products first sig ops l =
      rw (same_select_all ops, same_without f sub products l) refl

  -- ---- scans

  same_gathered : (f : Format) (sub sig : Bool) (ops : List Unpacked) (l : List Item) (scan : Scan)
      → Gathered f given sub sig ops l scan → Gathered f read sub sig ops l scan
  same_gathered f sub sig ops l scan h = record {
    subnormal = h.subnormal;
    signaling = h.signaling;
    nan = rw alike.nan_propagation h.nan;
    some = h.some;
    encodes = h.encodes;
    invalid = h.invalid;
    positive-infinity = h.positive-infinity;
    negative-infinity = h.negative-infinity;
    positive-zero = h.positive-zero;
    negative-zero = h.negative-zero;
    top = h.top;
    no-term = h.no-term;
  }

  pub same_decides : (decided : Option Given) (first : Bool) (scan : Scan)
      → Decides decided read first scan → Decides decided given first scan
  same_decides (Some given₁) first scan h = λ f sub products sig ops l gathered.
      let is = h f sub products sig ops l (same_gathered f sub sig ops l scan gathered) in
      record {
        is = sym (same_accepted f sub products first sig ops l) ∙ is.is;
        encodes = is.encodes;
        alone = is.alone;
      }
  same_decides None first scan h = λ f sub products sig ops l gathered.
      let is = h f sub products sig ops l (same_gathered f sub sig ops l scan gathered) in (
        sym (same_accepted f sub products first sig ops l) ∙ is.0 ∙ same_finite f sub products false (terms l),
        is.1,
        is.2,
      )
