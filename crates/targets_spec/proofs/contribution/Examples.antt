-- The examples, which the checker computes where they are defined.
use Rattle.targets_spec.specs.contribution.Promises.{Contributions-agree}
use Rattle.targets_spec.specs.contribution.Examples as tests-of-contributions

-- SumRises, RankNumbers, Contribution, ContributionRecord)

pub contributions-agree : Contributions-agree
contributions-agree = (
  tests-of-contributions.contributions-agree,
  tests-of-contributions.wide-contributions-agree,
  tests-of-contributions.refused-contributions-agree,
  tests-of-contributions.contribution-entries-agree,
)
