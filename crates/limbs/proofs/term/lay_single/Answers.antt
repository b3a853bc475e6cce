use Rattle.std.proofs.Common.{◌≡◌, ◌≤◌, arith, sym, refl, true≢false, zero-add, rules}
use Rattle.limbs.specs.Value.{term}
use Rattle.limbs.proofs.TermWords.{term_words}
use Rattle.limbs.proofs.Within.{at-word, inside-two, single-at-eleven, past_end, shifted-room, ends}
use Rattle.limbs.proofs.term.lay_single.Goals as goal
use Rattle.limbs.proofs.term.lay_single.Goals.{After-shl_word-s}

-- once the word is shifted: two words make the term
whole : (k : After-shl_word-s) → at-word k.split-p.result.word k.shl_word-s.result.word k.shl_word-s.result.carry 0 ≡ term k.args.significand k.args.shift
whole k = term_words k.args.significand k.args.significand 0 _ _ 0 k.shl_word-s.result.carry k.split-p.ensures (zero-add _) k.shl_word-s.ensures.0 (omega arith)

pub returns-then-at-le-LAST_OF_TWO : goal.returns-then-at-le-LAST_OF_TWO
returns-then-at-le-LAST_OF_TWO c =
    let low : c.split-p.result.word ≤ 10 = omega arith in (
      record {
        word = low;
        exact = inside-two _ _ _ _ low (search rules) (search rules) (whole c.before);
        past = λ e. absurd (true≢false e);
        room = λ _. shifted-room _ _ c.split-p.ensures.small c.shl_word-s.ensures.1;
      },
      refl,
    )

pub returns-in-11 : goal.returns-in-11
returns-in-11 c =
    let e = single-at-eleven _ _ _ _ (omega arith) (search rules) (whole c.before.before) in
    (record { word = search rules; exact = e; past = λ e. absurd (true≢false e); room = ends _ _ }, refl)

pub returns-in_default-2 : goal.returns-in_default-2
returns-in_default-2 c =
    let e = past_end c.split-p.result.word _ _ 0 _ (omega arith) (whole c.before.before) in
    (record { word = search rules; exact = e; past = λ _. sym e; room = ends 10 0 }, refl)
