-- Word by word.
use Rattle.std.proofs.Common.{[], ◌∷◌, ℕ, ap₂, ◌∙◌, arith, refl, rules}
use mir.Syntax.{w64}
use mir.Val.{SFits}
use Rattle.limbs.specs.Value.{value}
use Rattle.limbs.proofs.Words.{alike}
use Rattle.targets.proofs.EstimateWritten.{word-is}
use Rattle.targets.proofs.entry_within.full_words.Goals as goal

pub returns : goal.returns
unfolding value
returns c =
    let a = c.args.total in
    let fits : SFits w64 a.last_edge = search rules in
    record {
      head = ap₂ (λ (f e : ℕ). a.result ∷ f ∷ a.passes ∷ e ∷ 0 ∷ 0 ∷ []) (omega arith) (c.cast_unsigned-edge.ensures ∙ word-is a.last_edge fits);
      sum = refl;
      long = alike 12 0 (omega arith);
    }
