use Rattle.std.proofs.Common.{ℕ, ◌+◌, ◌*◌, ◌/◌, ◌%◌, ◌^◌, refl, sym, ap, ap₂, ◌∙◌, div-add-mod'}
use Rattle.limbs.proofs.Halves.{columns, low_word}
use Rattle.limbs.proofs.word.widening_mul.Goals as goal

pub returns : goal.returns
returns c = c.joined.ensures ∙ (
    let a = c.args.left in
    let b = c.args.right in
    let p = a % 4294967296 * (b % 4294967296) in
    let q = a / 4294967296 * (b % 4294967296) + p / 4294967296 in
    let s = q % 4294967296 + a % 4294967296 * (b / 4294967296) in
    ap (λ (x : ℕ). (a / 4294967296 * (b / 4294967296) + q / 4294967296 + s / 4294967296) * 2 ^ 64 + x)
    (low_word (a / 4294967296 * (b % 4294967296)) (a % 4294967296 * (b / 4294967296)) p _ _ refl refl)
    ∙ columns (a % 4294967296) (a / 4294967296) (b % 4294967296) (b / 4294967296) (p % 4294967296) (p / 4294967296)
    (q % 4294967296) (q / 4294967296) (s % 4294967296) (s / 4294967296)
    (sym (div-add-mod' p 4294967296)) (sym (div-add-mod' q 4294967296)) (sym (div-add-mod' s 4294967296))
    ∙ ap₂ (λ (x y : ℕ). x * y) (div-add-mod' a 4294967296) (div-add-mod' b 4294967296))
