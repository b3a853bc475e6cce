-- A chain ends by its own rule, and each of its edges is a true difference.
use Rattle.totals_spec.specs.formats.Settings.{summand_of}
use Rattle.totals_spec.specs.chain.Promises.{Sum-ends, Dot-ends, Sum-edges, Dot-edges}
use Rattle.totals_spec.specs.sums.Totals.{pairs}
use Rattle.totals_spec.proofs.terms.GoodTerms.{good-terms, good-pairs}
use Rattle.totals_spec.proofs.formats.Valid.{digits_le}
use Rattle.totals_spec.proofs.chain.PassLimit.{chain-ends}
use Rattle.totals_spec.proofs.chain.PassesOfRecords as passes
use Rattle.totals_spec.proofs.chain.TrueEdges.{edges-true}

-- ==== the definitions mean what they say (Limit, Edges, Bits)

pub sum-ends : Sum-ends
sum-ends f c u l v = chain-ends _ _ (passes.le-64 (digits_le f v)) (good-terms f c (summand_of u) l)

pub dot-ends : Dot-ends
dot-ends f c xs ys v = chain-ends _ _ (passes.le-64 (digits_le f v)) (good-pairs f c (pairs xs ys))

pub sum-edges : Sum-edges
sum-edges f c u l = edges-true _ (good-terms f c (summand_of u) l)

pub dot-edges : Dot-edges
dot-edges f c xs ys = edges-true _ (good-pairs f c (pairs xs ys))
