use Rattle.std.proofs.Common.{◌≡◌, ℕ, ◌+◌, ◌*◌, ◌/◌, ◌%◌, ◌^◌, ap, ◌∙◌, arith}
use native.Mathlib.Nat.{add-mod-mod, mod-mod}
use Rattle.limbs.specs.Value.{value, term}
use Rattle.limbs.proofs.term.move_term.Goals as goal
use Rattle.limbs.proofs.term.move_term.Goals.{After-shl-t}

-- the number of the shifted window, in which the term's two words stand below ten zeros
shifted : (m low high shift v : ℕ) → low ≡ m % 2 ^ 64 → high ≡ m / 2 ^ 64 → v ≡ (low + (high + 0) * 2 ^ 64) * 2 ^ shift % 2 ^ 768
    → v ≡ term m shift % 2 ^ 768
shifted m low high shift v f g e = e ∙ ap (λ (x : ℕ). x * 2 ^ shift % 2 ^ 768) (omega arith)

is-term : (k : After-shl-t) → let a = k.args in value k.shl-t.result ≡ term a.pair a.shift % 2 ^ 768
unfolding value
is-term k = shifted k.args.pair k.low.result k.high.result k.args.shift _ k.low.ensures k.high.ensures k.shl-t.ensures

pub returns-then-negative : goal.returns-then-negative
returns-then-negative c = rw c.if-negative.true (c.sub.ensures ∙ rw (is-term c.before.before, mod-mod))

pub returns-else-negative : goal.returns-else-negative
returns-else-negative c = rw c.if-negative.false (c.add.ensures ∙ rw (is-term c.before.before, add-mod-mod))
