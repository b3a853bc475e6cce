-- The code's scan as what totals_spec gathers of a list.
use Rattle.std.specs.Prelude.{Option, Some, None, is_some, ◌≡◌, Bool, true, false, not, ◌&&◌, ◌||◌}
use Rattle.std.specs.Prelude.{List, [], map, ℕ, max, ◌<◌, eqb}
use Rattle.std.specs.Bool.{beq}
use Rattle.totals_spec.specs.Basics.{any}
use Rattle.totals_spec.specs.formats.Format as spec
use Rattle.totals_spec.specs.formats.Settings as env
use Rattle.totals_spec.specs.formats.Decode as dec
use Rattle.totals_spec.specs.sums.Nan as nans
use Rattle.totals_spec.specs.terms.Terms as terms
use Rattle.totals_spec.specs.sums.Totals as totals
use Rattle.totals_spec.specs.formats.KindValues.{AllGive, Alone}
use Rattle.format.specs.Unpacked.{unpacked_of}
use Rattle.binary.specs.Nans.{nan_of, if_nan}
use Rattle.format.specs.Fits.{Encodes}
use Rattle.binary.specs.declared.nan.Nan.{Nan}
use Rattle.binary.specs.declared.term.Item.{Item}
use Rattle.binary.specs.declared.term.Item.TheVariants as item
use Rattle.binary.specs.Terms.{item_of}
use Rattle.reduction.specs.declared.scan.Scan.{Scan}
use Rattle.reduction.specs.declared.scan.Given.{Given}

-- ---- what one item says

abbrev pub top_of_item : Item → ℕ
top_of_item item.Nan = 0
top_of_item item.Invalid = 0
top_of_item (item.Infinite s) = 0
top_of_item (item.Zero s) = 0
top_of_item (item.Top n) = n

abbrev pub is_invalid_item : Item → Bool
is_invalid_item item.Nan = false
is_invalid_item item.Invalid = true
is_invalid_item (item.Infinite s) = false
is_invalid_item (item.Zero s) = false
is_invalid_item (item.Top n) = false

abbrev pub is_infinite_of : Bool → Item → Bool
is_infinite_of b item.Nan = false
is_infinite_of b item.Invalid = false
is_infinite_of b (item.Infinite s) = beq b s
is_infinite_of b (item.Zero s) = false
is_infinite_of b (item.Top n) = false

abbrev pub is_zero_of : Bool → Item → Bool
is_zero_of b item.Nan = false
is_zero_of b item.Invalid = false
is_zero_of b (item.Infinite s) = false
is_zero_of b (item.Zero s) = beq b s
is_zero_of b (item.Top n) = false

-- ---- a scan with more

-- one item
abbrev pub with_item : Item → Scan → Scan
with_item i scan = record {
  subnormal = scan.subnormal;
  signaling = scan.signaling;
  invalid = scan.invalid || is_invalid_item i;
  positive_infinity = scan.positive_infinity || is_infinite_of false i;
  negative_infinity = scan.negative_infinity || is_infinite_of true i;
  positive_zero = scan.positive_zero || is_zero_of false i;
  negative_zero = scan.negative_zero || is_zero_of true i;
  top = max scan.top (top_of_item i);
  nan = scan.nan;
}

-- a position that counts for T
abbrev pub with_top : ℕ → Scan → Scan
with_top position scan = record {
  subnormal = scan.subnormal;
  signaling = scan.signaling;
  invalid = scan.invalid;
  positive_infinity = scan.positive_infinity;
  negative_infinity = scan.negative_infinity;
  positive_zero = scan.positive_zero;
  negative_zero = scan.negative_zero;
  top = max scan.top position;
  nan = scan.nan;
}

-- an operand: whether it is subnormal, whether a signaling NaN, and the NaN chosen with it
abbrev pub seen : (subnormal signaling : Bool) → Option Nan → Scan → Scan
seen subnormal signaling chosen scan = record {
  subnormal = scan.subnormal || subnormal;
  signaling = scan.signaling || signaling;
  invalid = scan.invalid;
  positive_infinity = scan.positive_infinity;
  negative_infinity = scan.negative_infinity;
  positive_zero = scan.positive_zero;
  negative_zero = scan.negative_zero;
  top = scan.top;
  nan = chosen;
}

-- `next` is a scan with one operand more
pub record Reads (rule : ℕ) (subnormal : Bool) (operand : dec.Unpacked) (scan next : Scan) : Type 0 where
  pub rest : next ≡ seen subnormal (dec.is_signaling operand) next.nan scan
  pub nan : nan_of next.nan ≡ if_nan (nans.choose (env.propagation_of rule) (nan_of scan.nan) operand)

-- and with a NaN that is offered for the choice
abbrev pub Offered : (rule : ℕ) → Nan → Scan → Scan → Type 0
Offered rule nan scan next = Reads rule false (nan_of (Some nan)) scan next

-- ---- what a scan has gathered: of the operands ops, and of the items l

pub record Gathered (f : spec.Format) (c : env.Settings) (sub sig : Bool) (ops : List dec.Unpacked)
    (l : List terms.Item) (s : Scan) : Type 0 where
  pub subnormal : s.subnormal ≡ sub
  pub signaling : s.signaling ≡ sig
  pub nan : nan_of s.nan ≡ if_nan (nans.chosen_of (env.propagation_of c.nan_propagation) (dec.zero_of false) ops)
  pub some : is_some s.nan ≡ any terms.is_nan_item l
  -- the NaN can be encoded
  pub encodes : Encodes f (nan_of s.nan)
  pub invalid : s.invalid ≡ any terms.is_invalid l
  pub positive-infinity : s.positive_infinity ≡ any (terms.is_infinite false) l
  pub negative-infinity : s.negative_infinity ≡ any (terms.is_infinite true) l
  pub positive-zero : s.positive_zero ≡ any (terms.is_zero false) l
  pub negative-zero : s.negative_zero ≡ any (terms.is_zero true) l
  pub top : s.top ≡ terms.top_of (terms.terms l)
  -- every term lies above position 0
  pub no-term : s.top ≡ 0 → terms.terms l ≡ []

-- the scan of a list
abbrev pub Scanned : spec.Format → env.Settings → env.Summand → List ℕ → Scan → Type 0
Scanned f c u l scan =
    Gathered f c (any (dec.is_subnormal f) l) (any (λ b. dec.is_signaling (dec.decode f b)) l)
    (map (dec.decode f) l) (map (terms.item f c u) l) scan

-- and of the pairs of a dot
abbrev pub ScannedPairs : spec.Format → env.Settings → List (ℕ × ℕ) → Scan → Type 0
ScannedPairs f c l scan =
    Gathered f c (any (λ x. dec.is_subnormal f x.0 || dec.is_subnormal f x.1) l)
    (any (λ x. dec.is_signaling (dec.decode f x.0) || dec.is_signaling (dec.decode f x.1)) l)
    (totals.operands f l) (map (terms.pair_item f c) l) scan

-- the scan of nothing
abbrev pub Fresh : Scan → Type 0
Fresh scan = (f : spec.Format) (c : env.Settings) → Gathered f c false false [] [] scan

-- `after` is a scan with one element more, of which the operand was read
pub record Takes (settings : env.Settings) (summand : env.Summand) (subnormal : Bool) (operand : dec.Unpacked)
    (scan after : Scan) : Type 0 where
  pub between : Scan
  pub read : Reads settings.nan_propagation subnormal operand scan between
  pub noted : after ≡ with_item (item_of (terms.item_of summand operand)) between

-- and with one pair more, of which v was read and then w
pub record TakesPair (settings : env.Settings) (subnormal subnormal₁ : Bool) (v w : dec.Unpacked)
    (scan after : Scan) : Type 0 where
  pub between : Scan
  pub next : Scan
  pub left : Reads settings.nan_propagation subnormal v scan between
  pub right : Reads settings.nan_propagation subnormal₁ w between next
  pub noted : after ≡ with_item (item_of (terms.pair_of v w)) next

-- ---- what a scan decides, whatever it is the scan of

-- a NaN decides, unless an infinity stands before it
abbrev pub nan_decides : Bool → Scan → Bool
nan_decides first scan = is_some scan.nan && not (first && not scan.signaling && scan.positive_infinity)

-- whether a scan leaves terms to add: there is one, and nothing that is not finite
abbrev pub terms_in : Scan → Bool
terms_in scan =
    not (is_some scan.nan)
    && (not scan.invalid && (not scan.positive_infinity && (not scan.negative_infinity && not (eqb scan.top 0))))

-- and whether what it decides leaves them
abbrev pub leaves_terms : Option Given → Bool
leaves_terms (Some g) = false
leaves_terms None = true

-- No pass is run: the record is the special one of the value v, with flag 1 where i says so. The
-- scan is of a list in the format f, under the settings c, with the operands ops and the items l.
pub record IsSpecial (f : spec.Format) (c : env.Settings) (sub products first sig : Bool) (ops : List dec.Unpacked)
    (l : List terms.Item) (v : dec.Unpacked) (i : Bool) : Type 0 where
  pub is : totals.accepted f c sub products first sig (nans.select_all c ops) l ≡ totals.special f sub v i
  pub encodes : Encodes f v
  pub alone : AllGive (spec.kind_of f.kind) l → Alone (spec.kind_of f.kind) v

-- what a scan decides, whatever list it is the scan of
abbrev pub Decides : Option Given → env.Settings → (first : Bool) → Scan → Type 0
Decides (Some given) c first scan =
    (f : spec.Format) (sub products sig : Bool) (ops : List dec.Unpacked) (l : List terms.Item)
    → Gathered f c sub sig ops l scan
    → IsSpecial f c sub products first sig ops l (unpacked_of given.value) given.invalid
Decides None c first scan =
    (f : spec.Format) (sub products sig : Bool) (ops : List dec.Unpacked) (l : List terms.Item)
    → Gathered f c sub sig ops l scan
    → (totals.accepted f c sub products first sig (nans.select_all c ops) l
    ≡ totals.finite_total f c sub products false (terms.terms l))
    × (any (λ t. true) (terms.terms l) ≡ true) × (0 < scan.top)
