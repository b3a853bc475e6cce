use Rattle.std.proofs.Common.{◌∙◌, ℤ, subst}
use Rattle.std.proofs.Math.Facts.{to_z-of_z}
use Rattle.format.specs.Settings.{settings_of}
use Rattle.targets_spec.specs.within.Estimate.{sum_within_entry}
use Rattle.targets_spec.proofs.within.Entry.{within-entry-refusal, within-entry-refused}
use Rattle.totals.specs.Entered.{Enters}
use Rattle.promised_calls.proofs.within.sum_within_entry_or_refusal.Goals as goal

pub returns-clause-exactly : goal.returns-clause-exactly
returns-clause-exactly c =
    let is = subst (λ (b : ℤ). Enters (sum_within_entry c.args.kind c.args.exponent_bits c.args.width c.args.bias_named b (settings_of c.args.c) c.args.u c.args.allowance c.args.values.now c.args.answer.now)
    c.enter_sum_within.result c.enter_sum_within.new.answer) (to_z-of_z c.ranges.bias) c.enter_sum_within.ensures in
    λ n. rw is.code_is (within-entry-refusal.0 c.args.kind c.args.exponent_bits c.args.width c.args.bias_named c.args.bias (settings_of c.args.c)
    c.args.u c.args.allowance c.args.values.now c.args.answer.now n)

pub returns-clause-nothing_written : goal.returns-clause-nothing_written
returns-clause-nothing_written c =
    let is = subst (λ (b : ℤ). Enters (sum_within_entry c.args.kind c.args.exponent_bits c.args.width c.args.bias_named b (settings_of c.args.c) c.args.u c.args.allowance c.args.values.now c.args.answer.now)
    c.enter_sum_within.result c.enter_sum_within.new.answer) (to_z-of_z c.ranges.bias) c.enter_sum_within.ensures in
    λ h. is.buffer-is ∙ within-entry-refused.0 c.args.kind c.args.exponent_bits c.args.width c.args.bias_named c.args.bias (settings_of c.args.c)
    c.args.u c.args.allowance c.args.values.now c.args.answer.now (λ e. h (is.code_is ∙ e))
