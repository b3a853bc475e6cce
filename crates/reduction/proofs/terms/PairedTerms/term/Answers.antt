-- Both elements of the pair are there, and its term stands for its item.
use Rattle.std.proofs.Common.{subst, sym, arith}
use Rattle.format.specs.Environments.{env_of}
use Rattle.binary.specs.Gives.{Gives}
use Rattle.reduction.specs.Encodings.{pair_in}
use Rattle.reduction.proofs.Items.{pairs-count, pairs-mapped}
use Rattle.reduction.proofs.terms.PairedTerms.term.Goals as goal

pub pair_term-requires : goal.pair_term-requires
pair_term-requires g c =
    let s = c.args.self.now in
    let n = pairs-count (pair_in (g.N.Numbers.encoding s.left) (env_of s.env)) (g.N.Numbers.codes s.left) (g.N.Numbers.codes s.right) in
    (omega (arith, n, c.requires), omega (arith, n, c.requires))

pub returns-clause-gives : goal.returns-clause-gives
returns-clause-gives g c =
    let s = c.args.self.now in
    let f = pair_in (g.N.Numbers.encoding s.left) (env_of s.env) in
    let n = pairs-count f (g.N.Numbers.codes s.left) (g.N.Numbers.codes s.right) in
    let at = pairs-mapped f _ _ c.args.index _ (omega (arith, n, c.requires)) (omega (arith, n, c.requires)) in
    subst (Gives c.pair_term.result) (sym at) c.pair_term.ensures
