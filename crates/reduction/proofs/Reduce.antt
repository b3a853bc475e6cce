-- From what a scan decides, and from a chain of passes, to the record of an accepted list. Nothing
-- here is about words or bytes.
use mathlib.Core.Path.{◌≡◌, sym, ap, ap₂, ◌∙◌, subst}
use mathlib.Core.Bool.{Bool, true, false}
use mathlib.Core.List.{List}
use Prim.Native.Nat.{◌<◌}
use Rattle.std.specs.Prelude.{Option, Some, None}
use Rattle.totals_spec.specs.Basics.{any}
use Rattle.totals_spec.specs.formats.Format as spec
use Rattle.totals_spec.specs.formats.Settings as env
use Rattle.totals_spec.specs.formats.Decode as dec
use Rattle.totals_spec.specs.sums.Nan as nans
use Rattle.totals_spec.specs.terms.Terms as terms
use Rattle.totals_spec.specs.chain.Chain as chain
use Rattle.totals_spec.specs.sums.Totals as totals
use Rattle.totals_spec.specs.chain.Settled.{settled, chain_total}
use Rattle.format.specs.Unpacked.{unpacked_of}
use Rattle.reduction.specs.declared.scan.Scan.{Scan}
use Rattle.reduction.specs.declared.scan.Given.{Given}
use Rattle.reduction.specs.Scan.{Gathered, IsSpecial, Decides}
use Rattle.reduction.specs.Answered.{sum_record}
use Rattle.window.specs.declared.ExactSum.{ExactSum}
use Rattle.window.specs.Chain.{run_of}

-- the record of a run of the chain, its sum rounded
abbrev told : spec.Format → env.Settings → Bool → Bool → chain.Run → totals.Answer
told f c products sub r = sum_record f c sub products (settled r.outcome) r

module _ {f : spec.Format} {c : env.Settings} {sub sig : Bool} {ops : List dec.Unpacked} {l : List terms.Item} {s : Scan}
    (g : Gathered f c sub sig ops l s) (products first : Bool) (d : Option Given) (h : Decides d c first s) where
  abbrev answer : totals.Answer
  answer = totals.accepted f c sub products first sig (nans.select_all c ops) l

  -- the scan alone decides
  pub given : (v : Given) → d ≡ Some v → IsSpecial f c sub products first sig ops l (unpacked_of v.value) v.invalid
  given v e = subst (λ (x : Option Given). Decides x c first s) e h f sub products sig ops l g

  pub given_is : (v : Given) → d ≡ Some v → (a : totals.Answer) → a ≡ totals.special f s.subnormal (unpacked_of v.value) v.invalid → a ≡ answer
  given_is v e a r = r ∙ ap (λ (b : Bool). totals.special f b (unpacked_of v.value) v.invalid) g.subnormal ∙ sym (given v e).is

  -- there are terms
  some : d ≡ None → (answer ≡ totals.finite_total f c sub products false (terms.terms l)) × (any (λ t. true) (terms.terms l) ≡ true) × (0 < s.top)
  some e = subst (λ (x : Option Given). Decides x c first s) e h f sub products sig ops l g

  pub top-is : d ≡ None → (s.top ≡ terms.top_of (terms.terms l)) × (0 < s.top)
  top-is e = (g.top, (some e).2)

  -- the record of the chain over them, and its passes
  chain-is : d ≡ None → chain_total f c sub products false (terms.terms l) ≡ totals.finite_total f c sub products false (terms.terms l)
      → told f c products sub (chain.chain (spec.digits f) (terms.terms l)) ≡ answer
  unfolding chain_total
  chain-is t b = (rw (some t).1 at b) ∙ sym (some t).0

  pub chain-passes : d ≡ None → chain_total f c sub products false (terms.terms l) ≡ totals.finite_total f c sub products false (terms.terms l)
      → answer.passes ≡ (chain.chain (spec.digits f) (terms.terms l)).passes
  unfolding totals.reported
  chain-passes t b = sym (ap (λ (a : totals.Answer). a.passes) (chain-is t b))

  pub finish-is : d ≡ None → (e : ExactSum) → run_of e ≡ chain.chain (spec.digits f) (terms.terms l)
      → chain_total f c sub products false (terms.terms l) ≡ totals.finite_total f c sub products false (terms.terms l) → (a : totals.Answer)
      → a ≡ told f c products s.subnormal (run_of e) → a ≡ answer
  finish-is t e r b a q = q ∙ ap₂ (told f c products) g.subnormal r ∙ chain-is t b
