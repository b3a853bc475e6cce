use Rattle.std.proofs.Common.{◌≡◌, ℕ, ◌-◌, ◌%◌, ◌^◌, Bool, ltb, sym, ap, ◌∙◌}
use Rattle.std.specs.Ordering.{is_lt, is_gt}
use Rattle.std.specs.declared.cmp.Ordering.{Ordering}
use Rattle.limbs.specs.Value.{value}
use Rattle.limbs.specs.Compared.{compared}
use Rattle.window.proofs.Numbers.{ceiling-is, compared-less, compared-greater}
use Rattle.window.proofs.how_near.Goals as goal

-- what the two tests say
less : (d m : ℕ) {o : Ordering} {t b : Bool} → o ≡ compared d m → t ≡ is_lt o → t ≡ b → ltb d m ≡ b
less d m e f g = sym (compared-less d m) ∙ ap is_lt (sym e) ∙ sym f ∙ g

greater : (d m : ℕ) {o : Ordering} {t b : Bool} → o ≡ compared d m → t ≡ is_gt o → t ≡ b → ltb m d ≡ b
greater d m e f g = sym (compared-greater d m) ∙ ap is_gt (sym e) ∙ sym f ∙ g

pub returns-then-is_gt : goal.returns-then-is_gt
returns-then-is_gt c =
    rw (
      less (value c.args.magnitude % 2 ^ c.args.rest) (2 ^ 65) (rw (c.low_bits-below.ensures, c.power-margin.ensures) at c.compare.ensures)
          c.is_lt.ensures c.if-is_lt.false,
      greater (value c.args.magnitude % 2 ^ c.args.rest) (2 ^ c.args.rest - 2 ^ 65)
          (rw (c.low_bits-below.ensures, ceiling-is c.args.rest _ _ _ c.requires.0 c.requires.1 c.power.ensures c.power-margin.ensures c.sub-ceiling.ensures)
          at c.compare-2.ensures) c.is_gt.ensures c.if-is_gt.true,
    )
