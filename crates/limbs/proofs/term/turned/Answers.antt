use Rattle.std.proofs.Common.{◌≡◌, cond, refl, rules}
use Rattle.limbs.proofs.TermWords.{placed-as, one-if-small}
use Rattle.limbs.proofs.term.turned.Goals as goal

pub returns : goal.returns
returns c =
    let carry : c.from.result ≡ cond c.args.negative 1 0 = search rules in
    record {
      word = refl;
      within = refl;
      small = one-if-small c.args.negative carry;
      exact =
          placed-as c.args.negative c.args.laid _ refl c.flipped.ensures c.flipped-2.ensures c.flipped-3.ensures carry
          (search rules) (search rules) (search rules);
      second = c.flipped-2.ensures;
      third = c.flipped-3.ensures;
    }
