use Rattle.std.proofs.Common.{◌∙◌, ℤ, subst}
use Rattle.std.proofs.Math.Facts.{to_z-of_z}
use Rattle.format.specs.Settings.{settings_of}
use Rattle.targets_spec.specs.contribution.Contribution.{contribution_entry}
use Rattle.targets_spec.proofs.contribution.Records.{contribution-entry-refusal, contribution-entry-refused}
use Rattle.totals.specs.Entered.{Enters}
use Rattle.promised_calls.proofs.contributions.contribution_entry_or_refusal.Goals as goal

pub returns-clause-exactly : goal.returns-clause-exactly
returns-clause-exactly c =
    let is = subst (λ (b : ℤ). Enters (contribution_entry c.args.kind c.args.exponent_bits c.args.width c.args.bias_named b (settings_of c.args.c) c.args.wanted c.args.values.now c.args.answer.now)
    c.enter_contribution.result c.enter_contribution.new.answer) (to_z-of_z c.ranges.bias) c.enter_contribution.ensures in
    λ n. rw is.code_is (contribution-entry-refusal c.args.kind c.args.exponent_bits c.args.width c.args.bias_named c.args.bias (settings_of c.args.c)
    c.args.wanted c.args.values.now c.args.answer.now n)

pub returns-clause-nothing_written : goal.returns-clause-nothing_written
returns-clause-nothing_written c =
    let is = subst (λ (b : ℤ). Enters (contribution_entry c.args.kind c.args.exponent_bits c.args.width c.args.bias_named b (settings_of c.args.c) c.args.wanted c.args.values.now c.args.answer.now)
    c.enter_contribution.result c.enter_contribution.new.answer) (to_z-of_z c.ranges.bias) c.enter_contribution.ensures in
    λ h. is.buffer-is ∙ contribution-entry-refused c.args.kind c.args.exponent_bits c.args.width c.args.bias_named c.args.bias (settings_of c.args.c)
    c.args.wanted c.args.values.now c.args.answer.now (λ e. h (is.code_is ∙ e))
