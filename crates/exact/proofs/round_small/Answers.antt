-- The digits on the subnormal grid, and a zero where they are flushed.
use Rattle.std.proofs.Common.{◌≡◌, ◌+◌, ◌&&◌, sym, ◌∙◌, arith}
use Rattle.totals_spec.specs.Basics.{flag}
use Rattle.totals_spec.specs.rounding.Round.{inexact}
use Rattle.format.proofs.Environments.{set_is}
use Rattle.exact.specs.Unrounded.{dropped_of}
use Rattle.exact.proofs.Rules.{is-flushed, is-kept}
use Rattle.exact.proofs.Plan.{small-sticky, small-sum, small-fits, small-encodes, flushed, unflushed}
use Rattle.exact.proofs.round_small.Goals as goal

pub cut-first-requires-clause-position_lt_lowest : goal.cut-first-requires-clause-position_lt_lowest
cut-first-requires-clause-position_lt_lowest c =
    let b = c.requires.0 in
    rw c.digits-digits.ensures (small-sticky b.ends b.keeps c.requires.1)

pub overflow_add-kept : goal.overflow_add-kept
overflow_add-kept c =
    let b = c.requires.0 in
    let cut = rw c.digits-digits.ensures at c.cut-first.ensures in
    record { fits = omega (arith, small-sum b.ends b.keeps c.requires.1 cut c.rounds_up-up.ensures, c.flag.ensures.0) }

pub small_number-requires : goal.small_number-requires
small_number-requires c =
    let b = c.requires.0 in
    let cut = rw c.digits-digits.ensures at c.cut-first.ensures in
    rw (c.flag.ensures.0, c.digits-digits.ensures) (small-fits b.ends b.keeps c.requires.1 cut c.rounds_up-up.ensures)

pub returns-in-Flushed : goal.returns-in-Flushed
returns-in-Flushed c =
    let b = c.requires.0 in
    let cut = rw c.digits-digits.ensures at c.cut-first.ensures in
    let tiny = rw c.emin.ensures at c.is_tiny-tiny.ensures in
    let k = is-flushed c.is_tiny-tiny.result c.is_inexact.result c.args.env.flush_to_zero _ (sym c.new.ensures ∙ c.in-Flushed.is) in
    let same = flushed b.ends b.keeps c.requires.1 cut c.rounds_up-up.ensures b.first tiny (rw (set_is c.args.env.flush_to_zero) k.0) in
    record { equal = λ x st. rw k.1 (same x st); encodes = tt; flags = omega (arith, k.1) }

pub returns-in-Kept : goal.returns-in-Kept
returns-in-Kept c =
    let b = c.requires.0 in
    let cut = rw c.digits-digits.ensures at c.cut-first.ensures in
    let tiny = rw c.emin.ensures at c.is_tiny-tiny.ensures in
    let k = is-kept c.is_tiny-tiny.result c.is_inexact.result c.args.env.flush_to_zero _ (sym c.new.ensures ∙ c.in-Kept.is) in
    let same = unflushed b.ends b.keeps c.requires.1 cut c.rounds_up-up.ensures b.first tiny (rw (set_is c.args.env.flush_to_zero) k.off) in
    let can = small-encodes b.ends b.keeps c.requires.1 cut c.rounds_up-up.ensures in
    let number = c.small_number.ensures in
    let up = c.flag.ensures.0 in
    let raised = c.flag-in-Kept.ensures in
    let p = c.digits-digits.ensures in
    let i = inexact (dropped_of c.cut-first.result.dropped) in
    let flags : c.in-Kept.flags ≡ flag 32 c.is_tiny-tiny.result + flag 16 i + flag 8 (c.is_tiny-tiny.result && i) = cc (k.are, c.is_inexact.ensures) in
    record {
      equal = λ x st. cc (number, up, raised.0, p, flags, same x st);
      encodes = rw (number, up, p) can;
      flags = omega (arith, k.small, raised.1);
    }
