use Rattle.promises.proofs.roundings.SumsOfAmounts.{exact-sum-means}
use Rattle.promises.proofs.rounded_totals.exact_sum_means.Goals as goal

pub returns : goal.returns
returns c = exact-sum-means
