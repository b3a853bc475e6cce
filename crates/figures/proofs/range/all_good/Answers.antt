-- The chain over three lists goes over the entries.
use Rattle.std.proofs.Common.{◌≡◌, ℕ, Bool, true, false, not, ◌&&◌, ◌||◌, List, [], ◌∷◌, refl, ap, ◌∙◌, rules, tests}
use Rattle.std.specs.List.{zip, list_all}
use Rattle.std.proofs.lemmas.Iterator.{YieldsList-from_slice, YieldsList-from_zip}
use Rattle.std.proofs.lemmas.Iterator.Search.{all_from_yields_List}
use Rattle.totals_spec.specs.Basics.{any}
use Rattle.figures_spec.specs.ranges.Ranges as spec
use Rattle.figures.proofs.range.all_good.Goals as goal

good : (ℕ × ℕ) × ℕ → Bool
good p = spec.good_amount (spec.amount_of p.0.0 p.0.1 p.1)

none-bad : (b r : Bool) (l : List spec.Amount) → not r ≡ any (λ a. not (spec.good_amount a)) l → not (b && r) ≡ (not b || any (λ a. not (spec.good_amount a)) l)
none-bad true r l e = e
none-bad false r l e = refl

all-entries : (ts xs ys : List ℕ) → not (list_all good (zip (zip ts xs) ys)) ≡ any (λ a. not (spec.good_amount a)) (spec.entries ts xs ys)
unfolding good
all-entries [] xs ys = refl
all-entries (t ∷ ts) [] ys = refl
all-entries (t ∷ ts) (x ∷ xs) [] = refl
all-entries (t ∷ ts) (x ∷ xs) (y ∷ ys) = none-bad (spec.good_amount (spec.amount_of t x y)) _ (spec.entries ts xs ys) (all-entries ts xs ys)

pub returns : goal.returns
unfolding good
returns c =
    let a = c.args in
    ap not
    (all_from_yields_List good c.all.new.self _ c.all.result c.all.ensures.ran
    (YieldsList-from_zip (YieldsList-from_zip (YieldsList-from_slice a.tags.now cc) (YieldsList-from_slice a.firsts.now cc))
    (YieldsList-from_slice a.seconds.now cc))
    (λ x b q k. search (rules, tests)))
    ∙ all-entries a.tags.now a.firsts.now a.seconds.now
