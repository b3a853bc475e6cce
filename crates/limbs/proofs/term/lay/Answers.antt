use Rattle.std.proofs.Common.{◌≡◌, ◌≤◌, ◌^◌, arith, sym, true≢false, rules, div-add-mod'}
use Rattle.limbs.specs.Value.{term}
use Rattle.limbs.proofs.TermWords.{term_words}
use Rattle.limbs.proofs.Within.{at-word, inside-three, at-ten, at-eleven, past_end, shifted-room, ends}
use Rattle.limbs.proofs.term.lay.Goals as goal
use Rattle.limbs.proofs.term.lay.Goals.{After-shl_word-t}

-- once both words are shifted: the three words make the term
whole : (k : After-shl_word-t) → let a = k.args in
    at-word k.split-p.result.word k.shl_word-s.result.word k.shl_word-t.result.word k.shl_word-t.result.carry ≡ term a.significand a.shift
whole k =
    let low = k.low.ensures in
    let high = k.high.ensures in
    term_words k.args.significand k.low.result k.high.result _ _ _ k.shl_word-s.result.carry k.split-p.ensures (rw (low, high) (div-add-mod' k.args.significand (2 ^ 64)))
    k.shl_word-s.ensures.0 k.shl_word-t.ensures.0

pub returns-then-at-le-LAST_OF_THREE : goal.returns-then-at-le-LAST_OF_THREE
returns-then-at-le-LAST_OF_THREE c =
    let low : c.split-p.result.word ≤ 9 = omega arith in
    record {
      word = low;
      exact = inside-three _ _ _ _ _ low (search rules) (search rules) (search rules) (whole c.before);
      past = λ e. absurd (true≢false e);
      room = λ _. shifted-room _ _ c.split-p.ensures.small c.shl_word-t.ensures.1;
    }

pub returns-in-10 : goal.returns-in-10
returns-in-10 c = record {
  word = search rules;
  exact = at-ten _ _ _ _ _ (omega arith) (search rules) (search rules) (whole c.before.before);
  past = λ e. absurd (true≢false e);
  room = ends _ _;
}

pub returns-in-11 : goal.returns-in-11
returns-in-11 c = record {
  word = search rules;
  exact = at-eleven _ _ _ _ _ (omega arith) (search rules) (whole c.before.before);
  past = λ e. absurd (true≢false e);
  room = ends _ _;
}

pub returns-in_default-2 : goal.returns-in_default-2
returns-in_default-2 c =
    let e = past_end _ _ _ _ _ (omega arith) (whole c.before.before) in
    record { word = search rules; exact = e; past = λ _. sym e; room = ends 9 0 }
