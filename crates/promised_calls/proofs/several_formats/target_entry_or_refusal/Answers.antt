use Rattle.std.proofs.Common.{◌∙◌, ℤ, subst}
use Rattle.std.proofs.Math.Facts.{to_z-of_z}
use Rattle.targets_spec.specs.several.Several.{target_entry}
use Rattle.targets_spec.proofs.several.Entry.{target-entry-refusal, target-entry-refused}
use Rattle.totals.specs.Entered.{Enters}
use Rattle.promised_calls.proofs.several_formats.target_entry_or_refusal.Goals as goal

pub returns-clause-exactly : goal.returns-clause-exactly
returns-clause-exactly c =
    let is = subst (λ (b : ℤ). Enters (target_entry c.args.kind c.args.exponent_bits c.args.width c.args.bias_named b c.args.denormals_are_zero c.args.targets.now c.args.values.now
    c.args.answer.now) c.enter_sum_into.result c.enter_sum_into.new.answer) (to_z-of_z c.ranges.bias) c.enter_sum_into.ensures in
    λ n. rw is.code_is (target-entry-refusal c.args.kind c.args.exponent_bits c.args.width c.args.bias_named c.args.bias c.args.denormals_are_zero c.args.targets.now c.args.values.now c.args.answer.now n)

pub returns-clause-nothing_written : goal.returns-clause-nothing_written
returns-clause-nothing_written c =
    let is = subst (λ (b : ℤ). Enters (target_entry c.args.kind c.args.exponent_bits c.args.width c.args.bias_named b c.args.denormals_are_zero c.args.targets.now c.args.values.now
    c.args.answer.now) c.enter_sum_into.result c.enter_sum_into.new.answer) (to_z-of_z c.ranges.bias) c.enter_sum_into.ensures in
    λ h. is.buffer-is ∙ target-entry-refused c.args.kind c.args.exponent_bits c.args.width c.args.bias_named c.args.bias c.args.denormals_are_zero c.args.targets.now c.args.values.now c.args.answer.now (λ e. h (is.code_is ∙ e))
