-- A term's part and its lost bit: at the edge or above it, wholly below, and across.
use Rattle.std.proofs.Common.{true, false, ℕ, ◌+◌, sym, ap, ◌∙◌, arith}
use Rattle.binary.specs.Terms.{magnitude}
use Rattle.window.proofs.Parted.{above-part, above-lost, below-part, below-lost, across-part, across-lost, unshifted, one-word}
use Rattle.window.proofs.window_part.Goals as goal

pub returns-then-term-edge : goal.returns-then-term-edge
unfolding magnitude
returns-then-term-edge c =
    let t = c.args.term in
    record {
      exact = above-part t.significand t.shift c.args.edge c.if-term-edge.true;
      lost-is = above-lost t.significand t.shift c.args.edge c.if-term-edge.true;
      one_word = λ h. h;
    }

pub returns-then-end-edge : goal.returns-then-end-edge
unfolding magnitude
returns-then-end-edge c =
    let t = c.args.term in
    let n = c.from.ensures ∙ c.bit_length.ensures in
    record {
      exact = below-part t.significand t.shift c.args.edge (omega (arith, n, c.if-end-edge.true));
      lost-is = ap (λ (n : ℕ). t.shift + n) n ∙ below-lost t.significand t.shift c.args.edge (omega (arith, n, c.if-end-edge.true)) c.requires.1;
      one_word = λ _. tt;
    }

pub returns-then-any_below : goal.returns-then-any_below
unfolding magnitude
returns-then-any_below c =
    let t = c.args.term in
    let n = c.from.ensures ∙ c.bit_length.ensures in
    record {
      exact = unshifted _ ∙ c.shr.ensures ∙ across-part t.significand t.shift c.args.edge (omega arith);
      lost-is = across-lost t.significand t.shift c.args.edge (omega arith) (omega (arith, n)) true (sym c.if-any_below.true ∙ c.any_below.ensures);
      one_word = one-word t.significand _ c.shr.ensures;
    }

pub returns-else-any_below : goal.returns-else-any_below
unfolding magnitude
returns-else-any_below c =
    let t = c.args.term in
    let n = c.from.ensures ∙ c.bit_length.ensures in
    record {
      exact = unshifted _ ∙ c.shr.ensures ∙ across-part t.significand t.shift c.args.edge (omega arith);
      lost-is = across-lost t.significand t.shift c.args.edge (omega arith) (omega (arith, n)) false (sym c.if-any_below.false ∙ c.any_below.ensures);
      one_word = one-word t.significand _ c.shr.ensures;
    }
