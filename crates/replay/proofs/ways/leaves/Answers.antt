use Rattle.std.proofs.Common.{◌≡◌, ℕ, List, ◌++◌, length, take, drop, sym, ◌∙◌, arith, rules}
use Rattle.std.proofs.lemmas.Grind.{common_steps}
use Rattle.std.specs.Cmp.Lexicographic.{same_text}
use Rattle.replay.proofs.ways.leaves.Goals as goal

-- a list is cut behind the n items that it begins with
front : (xs ys zs : List ℕ) (n : ℕ) → length xs ≡ n → xs ++ ys ≡ zs → take n zs ≡ xs
front xs ys zs n l e = grind (arith, common_steps)

rest : (xs ys zs : List ℕ) (n : ℕ) → length xs ≡ n → xs ++ ys ≡ zs → drop n zs ≡ ys
rest xs ys zs n l e = grind (arith, common_steps)

pub returns-then-enter-returned-clause-called : goal.returns-then-enter-returned-clause-called
returns-then-enter-returned-clause-called g c =
    λ t.
    let l : length c.enter.new.arg2 ≡ c.args.lent = grind (arith, common_steps) in
    rw (front _ _ _ _ l (same_text _ _ (sym t ∙ c.eq.ensures))) (search rules)

pub returns-then-enter-returned-clause-behind : goal.returns-then-enter-returned-clause-behind
returns-then-enter-returned-clause-behind g c =
    λ t.
    let l : length c.enter.new.arg2 ≡ c.args.lent = grind (arith, common_steps) in
    sym (rest _ _ _ _ l (same_text _ _ (sym t ∙ c.eq.ensures)))
