-- One turn of a pass: the window and the lost bit of the first i elements, with the part of one
-- more.
use mathlib.Core.Path.{◌≡◌, refl, sym, ap, ap₂, ◌∙◌, subst}
use mathlib.Core.Bool.{Bool, true, false, cond}
use mathlib.Core.List.{List, [], ◌∷◌, ◌++◌, append-nil}
use Prim.Native.Nat.{ℕ, ◌+◌, ◌-◌, ◌/◌, ◌%◌, ◌^◌, ◌<◌, ◌≤◌, max, zero-le}
use native.Mathlib.Nat.{add-zero, zero-add, add_assoc, add_comm, mod-eq_of_lt, zero-div, max-zero}
use native.Mathlib.Numerals.{add-one, add-one-le}
use native.Mathlib.Omega.{arith}
use lib.ListN.{length, take, get_or}
use lib.Seq.{take-suc, take-length}
use lib.Pow.{pow_pos}
use denote.Shadow.{shadow}
use denote.Struct.Declared.{row}
use denote.Struct.Laws.{val}
use Rattle.std.proofs.Math.Option.{none}
use Rattle.std.specs.Prelude.{Option, Some, None}
use Rattle.limbs.specs.declared.word.Sum.{Sum}
use Rattle.limbs.specs.Value.{Words, value, moved, term}
use Rattle.limbs.proofs.Words.{alike, value-lt}
use Rattle.limbs.specs.contracts.word.Sum.{the_type}
use Rattle.limbs.proofs.word.Sum.TheLaws.{the_laws}
use Rattle.limbs.proofs.Stored.{past-moved}
use Rattle.totals_spec.specs.Basics.{total, greatest, keep}
use Rattle.totals_spec.specs.terms.Terms as terms
use Rattle.totals_spec.specs.chain.Chain.{residue, half, look_at, lost_end, lost_of, cut_plus, cut_minus}
use Rattle.totals_spec.proofs.chain.WindowResidues.{residue-zero, residue-plus, residue-minus, residue-cancel}
use Rattle.totals_spec.proofs.lists.FirstElements.{total-append, greatest-append, picked-append}
use Rattle.binary.specs.declared.term.Term.{Term}
use Rattle.window.specs.declared.UpperPart.{UpperPart}
use Rattle.window.specs.declared.Part.{Part}
use Rattle.window.specs.declared.Pass.{Pass}
use Rattle.binary.specs.Terms.{magnitude, StandsFor}
use Rattle.binary.proofs.Elements.{no-magnitude}
use Rattle.window.specs.Chain.{part_of, PartAt, Passed}
use Rattle.window.proofs.Numbers.{window}
use Rattle.window.proofs.Parted.{lost-of-zero}
use Rattle.reduction.specs.Held.{middle, Held}

pub half_pos : 0 < half
unfolding half
half_pos = pow_pos 767

-- ---- one part more

pub moved-is : (neg : Bool) (a b x : ℕ) → moved neg (residue half a b) x ≡ residue half (a + cond neg 0 x) (b + cond neg x 0)
moved-is false a b x =
    ap (λ (n : ℕ). (residue half a b + x) % n) (sym window) ∙ sym (residue-plus half half_pos a b x)
    ∙ ap (λ (n : ℕ). residue half (a + x) n) (sym (add-zero b))
moved-is true a b x =
    ap (λ (n : ℕ). (residue half a b + (n - x % n)) % n) (sym window) ∙ sym (residue-minus half half_pos a b x)
    ∙ ap (λ (n : ℕ). residue half n (b + x)) (sym (add-zero a))

-- what an element adds
record Counts (w : ℕ) (t : Term) (i : terms.Item) : Type 0 where
  pub plus : total (cut_plus w) (keep (terms.term_of i) []) ≡ cond t.negative 0 (magnitude t / 2 ^ w)
  pub minus : total (cut_minus w) (keep (terms.term_of i) []) ≡ cond t.negative (magnitude t / 2 ^ w) 0
  pub lost : greatest (lost_of w) (keep (terms.term_of i) []) ≡ lost_end w (magnitude t)

none_left : (w m : ℕ) (b : Bool) → m ≡ 0 → 0 ≡ cond b 0 (m / 2 ^ w)
none_left w m true e = refl
none_left w m false e = sym (ap (λ (n : ℕ). n / 2 ^ w) e ∙ zero-div (2 ^ w))

none_right : (w m : ℕ) (b : Bool) → m ≡ 0 → 0 ≡ cond b (m / 2 ^ w) 0
none_right w m true e = sym (ap (λ (n : ℕ). n / 2 ^ w) e ∙ zero-div (2 ^ w))
none_right w m false e = refl

some_left : (w m : ℕ) (b : Bool) → cond b 0 m / 2 ^ w + 0 ≡ cond b 0 (m / 2 ^ w)
some_left w m true = add-zero (0 / 2 ^ w) ∙ zero-div (2 ^ w)
some_left w m false = add-zero (m / 2 ^ w)

some_right : (w m : ℕ) (b : Bool) → cond b m 0 / 2 ^ w + 0 ≡ cond b (m / 2 ^ w) 0
some_right w m true = add-zero (m / 2 ^ w)
some_right w m false = add-zero (0 / 2 ^ w) ∙ zero-div (2 ^ w)

adds-term : (w : ℕ) (t : Term) (s : terms.Term) → magnitude t ≡ s.mag → t.negative ≡ s.neg → Counts w t (terms.term s)
adds-term w t s m n = record {
  plus = some_left w s.mag s.neg ∙ ap₂ (λ (b : Bool) (x : ℕ). cond b 0 (x / 2 ^ w)) (sym n) (sym m);
  minus = some_right w s.mag s.neg ∙ ap₂ (λ (b : Bool) (x : ℕ). cond b (x / 2 ^ w) 0) (sym n) (sym m);
  lost = max-zero (lost_end w s.mag) ∙ ap (lost_end w) (sym m);
}

adds_none : (w : ℕ) (t : Term) (i : terms.Item) → keep (terms.term_of i) [] ≡ [] → magnitude t ≡ 0 → Counts w t i
adds_none w t i k m = record {
  plus = ap (total (cut_plus w)) k ∙ none_left w (magnitude t) t.negative m;
  minus = ap (total (cut_minus w)) k ∙ none_right w (magnitude t) t.negative m;
  lost = ap (greatest (lost_of w)) k ∙ sym (ap (lost_end w) m ∙ lost-of-zero w);
}

adds : (w : ℕ) (t : Term) (i : terms.Item) → StandsFor t i → Counts w t i
adds w t (terms.term s) h = adds-term w t s h.0 h.1
adds w t terms.nan_item h = adds_none w t terms.nan_item refl h.0
adds w t terms.invalid_item h = adds_none w t terms.invalid_item refl h.0
adds w t (terms.infinite s) h = adds_none w t (terms.infinite s) refl h.0
adds w t (terms.zero_item s) h = adds_none w t (terms.zero_item s) refl h.0

-- ---- the gathering of a list of items, and of one more

held_more : (ts : List terms.Term) (w v lost v' lost' : ℕ) (t : Term) (i : terms.Item) → StandsFor t i → Held ts w v lost
    → v' ≡ moved t.negative v (magnitude t / 2 ^ w) → lost' ≡ max lost (lost_end w (magnitude t)) → Held (ts ++ keep (terms.term_of i) []) w v' lost'
unfolding look_at
held_more ts w v lost v' lost' t i s h e g =
    let a = adds w t i s in
    let one = keep (terms.term_of i) [] in
    record {
      window = e ∙ ap (λ (n : ℕ). moved t.negative n (magnitude t / 2 ^ w)) h.window
          ∙ moved-is t.negative (value middle + total (cut_plus w) ts) (total (cut_minus w) ts) (magnitude t / 2 ^ w)
          ∙ ap₂ (λ (n m : ℕ). residue half (value middle + total (cut_plus w) ts + n) (total (cut_minus w) ts + m)) (sym a.plus) (sym a.minus)
          ∙ ap (λ (n : ℕ). residue half n (total (cut_minus w) ts + total (cut_minus w) one)) (add_assoc (value middle) (total (cut_plus w) ts) _)
          ∙ sym (ap₂ (λ (n m : ℕ). residue half (value middle + n) m) (total-append (cut_plus w) ts one) (total-append (cut_minus w) ts one));
      lost-is = g ∙ ap₂ max h.lost-is (sym a.lost) ∙ sym (greatest-append (lost_of w) ts (keep (terms.term_of i) []));
    }

-- ---- the start and the end

middle-words : Words 12 middle
middle-words = alike 12 9223372036854775808 (omega arith)

held_none : (w : ℕ) → Held [] w (value middle) 0
unfolding look_at
held_none w = record { window = sym (plain ∙ mod-eq_of_lt (subst (λ (n : ℕ). value middle < n) (sym window) (value-lt middle-words))); lost-is = refl }
  where
    plain : residue half (value middle + 0) 0 ≡ value middle % (half + half)
    plain =
        ap (λ (n : ℕ). residue half n 0) (add-zero (value middle) ∙ sym (zero-add (value middle))) ∙ residue-plus half half_pos 0 0 (value middle)
        ∙ ap (λ (n : ℕ). (n + value middle) % (half + half)) (residue-zero half half_pos)
        ∙ ap (λ (n : ℕ). n % (half + half)) (zero-add (value middle))

-- without the start, the sum is left
passed : (ts : List terms.Term) (w v lost : ℕ) (q : Pass) → Held ts w v lost → (value q.total ≡ moved true v (value middle)) × (q.lost ≡ lost)
    → Passed ts w q
passed ts w v lost q h e =
    let a = (look_at ts w).plus in
    let b = (look_at ts w).minus in
    record {
      total = e.0 ∙ ap (λ (n : ℕ). moved true n (value middle)) h.window ∙ moved-is true (value middle + a) b (value middle)
          ∙ ap (λ (n : ℕ). residue half n (b + value middle)) (add-zero (value middle + a) ∙ add_comm (value middle) a)
          ∙ residue-cancel half half_pos a b (value middle);
      lost = e.1 ∙ h.lost-is;
    }

-- ---- a pass over a list of n items: after i of them

pub record Running (l : List terms.Item) (n w i : ℕ) (total : List ℕ) (lost : ℕ) : Type 0 where
  pub all : length l ≡ n
  pub within : i ≤ n
  pub words : Words 12 total
  pub held : Held (terms.terms (take i l)) w (value total) lost

pub running-start : {l : List terms.Item} {n w : ℕ} {total : List ℕ} → length l ≡ n → total ≡ middle → Running l n w 0 total 0
running-start {w = w} a e = record {
  all = a;
  within = zero-le;
  words = subst (Words 12) (sym e) middle-words;
  held = subst (λ (r : List ℕ). Held [] w (value r) 0) (sym e) (held_none w);
}

pub running-end : {l : List terms.Item} {n w i : ℕ} {total : List ℕ} {lost : ℕ} {q : Pass} → Running l n w i total lost → n ≤ i
    → (value q.total ≡ moved true (value total) (value middle)) × (q.lost ≡ lost) → Passed (terms.terms l) w q
running-end {l} {w = w} {i = i} {lost = lost} {q = q} h e =
    let whole : i ≡ length l = omega (arith, h.all) in
    passed (terms.terms l) w _ lost q (rw (whole, take-length l) at h.held)

-- ---- what a call of `add_word` gives: a `Sum`, whose word fits

abbrev pub Owned : Sum → Type 0
Owned r = shadow ((row the_type).own_val r (val the_type the_laws r ∷ []))

pub fits : (r : Sum) → Owned r → r.word < 2 ^ 64
fits r h = omega arith

-- ---- one turn: t stands for the item i, p is its part at the edge, `lost` that of all i + 1

module _ {l : List terms.Item} {n w i : ℕ} {total : List ℕ} {before : ℕ} (so_far : Running l n w i total before) where
  pub record Turn (t : Term) (p : Part) (lost : ℕ) : Type 0 where
    pub inside : i < n
    pub stands : StandsFor t (get_or l i terms.nan_item)
    pub part : PartAt w t p
    pub larger : lost ≡ max before p.lost

-- the terms of one item more
terms-next : (l : List terms.Item) (i : ℕ) → i < length l
    → terms.terms (take (i + 1) l) ≡ terms.terms (take i l) ++ keep (terms.term_of (get_or l i terms.nan_item)) []
terms-next l i h =
    ap (λ n. terms.terms (take n l)) (add-one i) ∙ ap terms.terms (take-suc l i terms.nan_item h)
    ∙ picked-append terms.term_of (take i l) (get_or l i terms.nan_item ∷ [])

-- where that item is none, they are the same
pub running-over : {l : List terms.Item} {n w i : ℕ} {total : List ℕ} {lost : ℕ} → Running l n w i total lost → i < n
    → terms.term_of (get_or l i terms.nan_item) ≡ none → Running l n w (i + 1) total lost
running-over {l} {w = w} {i = i} {total} {lost} so_far h e = record {
  all = so_far.all;
  within = add-one-le h;
  words = so_far.words;
  held = rw (terms-next l i (rw so_far.all h), e, append-nil (terms.terms (take i l))) so_far.held;
}

module _ {l : List terms.Item} {n w i : ℕ} {total : List ℕ} {before : ℕ} {so_far : Running l n w i total before} {t : Term} {p : Part} {lost : ℕ}
    (k : Turn so_far t p lost) where
  abbrev part : ℕ
  part = part_of p.kept

  -- with the part moved into the window
  pub turn_moved : {r : List ℕ} → Words 12 r → value r ≡ moved t.negative (value total) part → Running l n w (i + 1) r lost
  turn_moved f e = record {
    all = so_far.all;
    within = add-one-le k.inside;
    words = f;
    held =
        rw (terms-next l i (rw so_far.all k.inside))
        (held_more (terms.terms (take i l)) w (value total) before _ lost t (get_or l i terms.nan_item) k.stands so_far.held
        (e ∙ ap (moved t.negative (value total)) k.part.exact) (k.larger ∙ ap (max before) k.part.lost-is));
  }

  -- where there is no part within the window
  pub past : part % 2 ^ 768 ≡ 0 → Running l n w (i + 1) total lost
  past e = turn_moved so_far.words (past-moved t.negative part so_far.words e)

  pub turn-none : p.kept ≡ None → Running l n w (i + 1) total lost
  turn-none e = past (ap (λ (k : Option UpperPart). part_of k % 2 ^ 768) e)

  -- and where there is one
  module _ {q : UpperPart} (e : p.kept ≡ Some q) where
    pub kept_moved : {r : List ℕ} → Words 12 r → value r ≡ moved t.negative (value total) (term q.significand q.up) → Running l n w (i + 1) r lost
    kept_moved f g = turn_moved f (g ∙ ap (λ (k : Option UpperPart). moved t.negative (value total) (part_of k)) (sym e))

    pub kept_past : term q.significand q.up % 2 ^ 768 ≡ 0 → Running l n w (i + 1) total lost
    kept_past z = past (ap (λ (k : Option UpperPart). part_of k % 2 ^ 768) e ∙ z)

-- ---- what is no term

abbrev pub nothing : Term
nothing = record { negative = false; significand = 0; shift = 0 }

pub nothing_is : magnitude nothing ≡ 0
nothing_is = no-magnitude nothing refl
