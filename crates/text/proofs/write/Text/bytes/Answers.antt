use Rattle.std.proofs.Common.{◌∙◌, ◌+◌, ◌≤◌, ◌++◌, ap, arith, length, ℕ, List}
use Rattle.text.proofs.Held.{grown_holds, grown_held}
use Rattle.text.proofs.write.Text.bytes.Goals as goal

pub invariant_of-self : goal.invariant_of-self
invariant_of-self c =
    let t = c.self.inside in
    let room : t.length + length c.args.more.now ≤ 64 = omega (arith, ap length c.self.view_is, c.self.invariant.length-is, c.requires) in
    grown_holds t c.args.more.now c.self.invariant room c.copy_from_slice.new.self c.copy_from_slice.ensures.after

pub returns-clause-text : goal.returns-clause-text
returns-clause-text c =
    let t = c.self.inside in
    let room : t.length + length c.args.more.now ≤ 64 = omega (arith, ap length c.self.view_is, c.self.invariant.length-is, c.requires) in
    grown_held t c.args.more.now c.self.invariant room c.copy_from_slice.new.self c.copy_from_slice.ensures.after
    ∙ ap (λ (l : List ℕ). l ++ c.args.more.now) c.self.view_is
