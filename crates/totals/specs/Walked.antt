-- The total of a list of items, by its scan.
use Rattle.std.specs.Prelude.{◌≡◌, Bool, true, false, not, ◌||◌, List, map, ℕ, ◌≤◌, is_some, Result}
use Rattle.std.specs.Prelude.{Ok, Err}
use Rattle.totals_spec.specs.Basics.{any}
use Rattle.totals_spec.specs.formats.Format.{Format, digits}
use Rattle.totals_spec.specs.formats.Settings.{Settings, Summand}
use Rattle.totals_spec.specs.formats.Decode.{Unpacked}
use Rattle.totals_spec.specs.sums.Nan.{select_all}
use Rattle.totals_spec.specs.terms.Terms.{Item, Term, terms}
use Rattle.totals_spec.specs.chain.Chain.{chain}
use Rattle.totals_spec.specs.sums.Totals.{Answer, accepted, is_value, is_square}
use Rattle.totals_spec.specs.ten_bytes.Extended.{both_of}
use Rattle.reduction.specs.Answered.{wide}
use Rattle.reduction.specs.declared.scan.Scan.{Scan}
use Rattle.reduction.specs.Scan.{Gathered}
use Rattle.reduction.specs.Encodings.{Encoding, signaling_in, item_in, pair_in}
use Rattle.window.specs.declared.Stopped.{Stopped}
use Rattle.reduction.specs.Held.{StoppedSum}
use Rattle.reduction.specs.declared.total.Wide.{Wide}
use Rattle.reduction.specs.Answered.{answer_as, given_as}

-- a NaN or an infinity is met
abbrev pub met : Scan → Bool
met s = is_some s.nan || (s.positive_infinity || s.negative_infinity)

-- s is a scan of the items l
pub record Scans (f : Format) (c : Settings) (l : List Item) (s : Scan) : Type 0 where
  pub subnormal : Bool
  pub signaling : Bool
  pub operands : List Unpacked
  pub gathered : Gathered f c subnormal signaling operands l s

-- Within an allowance of a passes, of a total t over the terms ts: its record, or where it stops.
abbrev pub Within : Format → Answer → List Term → ℕ → Result Wide Stopped → Type 0
Within f t ts a (Ok r) = (answer_as (wide f) r ≡ given_as (wide f) t) × (t.passes ≤ a)
Within f t ts a (Err r) = StoppedSum (digits f) ts a r × (t.passes ≡ (chain (digits f) ts).passes)

-- the total of the items l, whatever operands they are of
abbrev pub Totals : Format → Settings → (products infinity_first : Bool) → List Item → ℕ → Scan
    → Result Wide Stopped → Type 0
Totals f c products first l a s r =
    (sub sig : Bool) (ops : List Unpacked) → Gathered f c sub sig ops l s
    → Within f (accepted f c sub products first sig (select_all c ops) l) (terms l) a r

-- the total of some numbers, and that of the pairs of two lists of them
abbrev pub sum_in : Encoding → Settings → Summand → List ℕ → Answer
sum_in e c u l =
    accepted e.format c (any e.subnormal l) (is_square u) (not (is_value u))
    (any (signaling_in e) l) (select_all c (map e.decode l)) (map (item_in e c u) l)

abbrev pub dot_in : Encoding → Settings → List (ℕ × ℕ) → Answer
dot_in e c l =
    accepted e.format c (any (λ x. e.subnormal x.0 || e.subnormal x.1) l) true false
    (any (λ x. signaling_in e x.0 || signaling_in e x.1) l)
    (select_all c (map e.decode (both_of l))) (map (pair_in e c) l)

-- their terms
abbrev pub terms_in : Encoding → Settings → Summand → List ℕ → List Term
terms_in e c u l = terms (map (item_in e c u) l)

abbrev pub products_in : Encoding → Settings → List (ℕ × ℕ) → List Term
products_in e c l = terms (map (pair_in e c) l)
