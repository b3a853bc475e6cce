use Rattle.std.proofs.Common.{◌≡◌, ◌-◌, ◌<◌, ℕ, get_or, sym, arith}
use Rattle.std.proofs.lemmas.Grind.{common_steps}
use Rattle.std.specs.declared.cmp.Ordering.TheVariants.{Less, Equal, Greater}
use Rattle.limbs.specs.Value.{value}
use Rattle.limbs.proofs.Words.{words, same-words}
use Rattle.limbs.proofs.Digits.{less-at}
use Rattle.limbs.proofs.Compared.{decided, alike_above}
use Rattle.limbs.proofs.window.compare.Goals as goal

-- i is the place, from above, at which the two differ
pub returns : goal.returns
returns c =
    let i = c.cmp.ensures.runs.2.2.2.0.0 in
    let a = c.args.left in
    let b = c.args.right in
    let v = words 12 a _ c.well_formed.0 in
    let w = words 12 b _ c.well_formed.1.0 in
    let alike : (k : ℕ) → k < i → get_or a (11 - k) 0 ≡ get_or b (11 - k) 0 = grind arith in
    let above = alike_above v w i alike in
    let below : c.cmp.result ≡ Less → get_or a (11 - i) 0 < get_or b (11 - i) 0 = grind arith in
    let over : c.cmp.result ≡ Greater → get_or b (11 - i) 0 < get_or a (11 - i) 0 = grind arith in
    let equal : c.cmp.result ≡ Equal → (k : ℕ) → get_or a k 0 ≡ get_or b k 0 = grind (arith, common_steps) in
    decided _ (value a) (value b) (λ o. less-at a b (11 - i) v.fit above (below o)) (λ o. same-words a b (equal o))
    (λ o. less-at b a (11 - i) w.fit (λ k h. sym (above k h)) (over o))
