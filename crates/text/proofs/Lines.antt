-- Where a line that is refused begins, and what its first bytes are.
use Rattle.std.proofs.Common.{◌≡◌, refl, sym, ap, ◌∙◌, ℕ, zero, suc, ◌+◌, ◌*◌, ◌-◌, ◌≤◌, ◌<◌, min, length, take, drop, get_or, drop-cons, arith, add-one, append-nil}
use mathlib.Core.Bool.{Bool, true, false, cond}
use mathlib.Core.List.{List, [], ◌∷◌, ◌++◌}
use mathlib.Core.Option.{Option, none, some}
use lib.Dec.{eqb, ltb}
use lib.ListN.{length-drop}
use lib.Seq.{take_all, take-take, drop-drop, append_snoc}
use borrow.Author.Tests.{eq-eqb, ne_eqb, le-ltb}
use Rattle.std.proofs.lemmas.List.{take_more, take_rest, take_min, drop-take}
use Rattle.totals_spec.specs.program.Program.{onto, lines, line_value, Read, values, bad_line, taken, read_from}
use Rattle.text.specs.Reading.{first_line}
use Rattle.text.specs.Answered.{line_at}
use Rattle.text.proofs.FirstLine.{first-onto, not-empty, first-value, later-lines}
use Rattle.text.proofs.Steps.{value_of, read_step}
use Rattle.text.proofs.Prefix.{line-of-take, same_read}

-- ---- the first line, from a place on before which no line ends

first-end : (b : ℕ) (bs : List ℕ) → b ≡ 10 → first_line (lines (b ∷ bs)) ≡ []
first-end b bs e = rw (eq-eqb b 10 e) refl

first-more : (b : ℕ) (bs : List ℕ) → (b ≡ 10 → ⊥) → first_line (lines (b ∷ bs)) ≡ b ∷ first_line (lines bs)
first-more b bs k = rw (ne_eqb b 10 k) (first-onto b (lines bs))

pub record Unended (l : List ℕ) (i : ℕ) : Type 0 where
  pub rest : first_line (lines l) ≡ take i l ++ first_line (lines (drop i l))

pub unended_start : (l : List ℕ) → Unended l 0
unended_start l = record { rest = refl }

module _ (l : List ℕ) (i : ℕ) (h : i < length l) (u : Unended l i) where
  next-byte : first_line (lines l) ≡ take i l ++ first_line (lines (get_or l i 0 ∷ drop (suc i) l))
  next-byte = u.rest ∙ ap (λ (s : List ℕ). take i l ++ first_line (lines s)) (drop-cons l i 0 h)

  pub unended_more : (get_or l i 0 ≡ 10 → ⊥) → Unended l (i + 1)
  unended_more k =
      let later = first_line (lines (drop (suc i) l)) in
      record {
        rest = rw (add-one i) (
            next-byte ∙ ap (λ (s : List ℕ). take i l ++ s) (first-more (get_or l i 0) (drop (suc i) l) k)
            ∙ sym (append_snoc (take i l) (get_or l i 0) later)
            ∙ ap (λ (s : List ℕ). s ++ later) (sym (take_more l i 0 h) ∙ ap (λ (n : ℕ). take n l) (add-one i)));
      }

  pub ended_here : get_or l i 0 ≡ 10 → take i l ≡ first_line (lines l)
  ended_here e =
      sym (next-byte ∙ ap (λ (s : List ℕ). take i l ++ s) (first-end (get_or l i 0) (drop (suc i) l) e) ∙ append-nil (take i l))

pub unended_all : (l : List ℕ) (i : ℕ) → length l ≤ i → Unended l i → l ≡ first_line (lines l)
unended_all l i h u =
    sym (u.rest ∙ ap (λ (s : List ℕ). take i l ++ first_line (lines s)) (nothing i l h) ∙ append-nil (take i l) ∙ take_all i l h)
  where
    nothing : (i : ℕ) (l : List ℕ) → length l ≤ i → drop i l ≡ []
    nothing zero [] h = refl
    nothing zero (b ∷ bs) h = absurd (omega arith)
    nothing (suc i) [] h = refl
    nothing (suc i) (b ∷ bs) h = nothing i bs (omega arith)

first-take : (k : ℕ) (l : List ℕ) → first_line (lines (take k l)) ≡ take k (first_line (lines l))
first-take zero l = refl
first-take (suc k) [] = refl
first-take (suc k) (b ∷ bs) = either (eqb b 10) (first-take k bs)
  where
    either : (p : Bool) → first_line (lines (take k bs)) ≡ take k (first_line (lines bs))
        → first_line (cond p ([] ∷ lines (take k bs)) (onto b (lines (take k bs))))
        ≡ take (suc k) (first_line (cond p ([] ∷ lines bs) (onto b (lines bs))))
    either true ih = refl
    either false ih =
        first-onto b (lines (take k bs)) ∙ ap (λ (s : List ℕ). b ∷ s) ih ∙ ap (take (suc k)) (sym (first-onto b (lines bs)))

-- ---- k lines of 17 bytes come first, and then one that is refused

number_is : (m n : ℕ) → bad_line m ≡ bad_line n → m ≡ n
number_is m n e = cc

not_values : (l : List ℕ) (n : ℕ) → values l ≡ bad_line n → ⊥
not_values l n e = cc

onward : (v m n : ℕ) (r : Read) → taken (some v) m r ≡ bad_line n → r ≡ bad_line n
onward v m n (values l) e = absurd (not_values (v ∷ l) n e)
onward v m n (bad_line k) e = e

-- the lines from m on
at-least : (ls : List (List ℕ)) (m n : ℕ) → read_from m ls ≡ bad_line n → m ≤ n
unfolding read_from
at-least [] m n e = absurd (not_values [] n e)
at-least (l ∷ ls) m n e = go (ltb 8192 m) (line_value l) e (at-least ls (suc m) n)
  where
    go : (p : Bool) (v : Option ℕ) → cond p (bad_line m) (taken v m (read_from (suc m) ls)) ≡ bad_line n
        → (read_from (suc m) ls ≡ bad_line n → suc m ≤ n) → m ≤ n
    go true v e ih = let same = number_is m n e in omega (arith, same)
    go false none e ih = let same = number_is m n e in omega (arith, same)
    go false (some y) e ih = omega (arith, ih (onward y m n (read_from (suc m) ls) e))

pub record Begins (m k : ℕ) (l : List ℕ) : Type 0 where
  pub place : drop k (lines l) ≡ lines (drop (17 * k) l)
  pub there : 17 * k < length l
  pub bad : m + k ≤ 8192 → value_of (drop (17 * k) l) ≡ none

empty-read : (m n : ℕ) → read_from m [] ≡ bad_line n → ⊥
unfolding read_from
empty-read m n e = not_values [] n e

begins : (k m : ℕ) (l : List ℕ) → read_from m (lines l) ≡ bad_line (m + k) → Begins m k l
begins k m [] e = absurd (empty-read m (m + k) e)
begins zero m (b ∷ bs) e = record {
  place = refl;
  there = omega arith;
  bad = λ h. here h (value_of l) refl (sym (read_step l (value_of l) refl (omega arith) m ∙ rw (le-ltb 8192 m (omega arith)) refl) ∙ e);
}
  where
    l : List ℕ
    l = b ∷ bs

    here : m + 0 ≤ 8192 → (v : Option ℕ) → value_of l ≡ v → taken v m (read_from (suc m) (lines (drop 17 l))) ≡ bad_line (m + 0) → value_of l ≡ none
    here h none q e = q
    here h (some y) q e =
        let more = at-least (lines (drop 17 l)) (suc m) (m + 0) (onward y m (m + 0) (read_from (suc m) (lines (drop 17 l))) e) in
        absurd (omega arith)
begins (suc k) m (b ∷ bs) e =
    go (ltb 8192 m) (value_of l) refl (sym (read_step l (value_of l) refl (omega arith) m) ∙ e) (begins k (suc m) (drop 17 l))
  where
    l : List ℕ
    l = b ∷ bs

    twice : drop (17 * k) (drop 17 l) ≡ drop (17 * suc k) l
    twice = drop-drop (17 * k) 17 l ∙ ap (λ (n : ℕ). drop n l) (omega arith)

    later : (y : ℕ) → value_of l ≡ some y → Begins (suc m) k (drop 17 l) → Begins m (suc k) l
    later y q i = record {
      place = ap (drop (suc k)) (not-empty b bs) ∙ ap (drop k) (later-lines 16 l (some 0) y (sym (first-value 16 l (some 0)) ∙ q))
          ∙ i.place ∙ ap lines twice;
      there = omega (arith, length-drop 17 l, i.there);
      bad = λ h. ap value_of (sym twice) ∙ i.bad (omega (arith, h));
    }

    go : (p : Bool) (v : Option ℕ) → value_of l ≡ v
        → cond p (bad_line m) (taken v m (read_from (suc m) (lines (drop 17 l)))) ≡ bad_line (m + suc k)
        → (read_from (suc m) (lines (drop 17 l)) ≡ bad_line (suc m + k) → Begins (suc m) k (drop 17 l)) → Begins m (suc k) l
    go true v q e ih = let same = number_is m (m + suc k) e in absurd (omega (arith, same))
    go false none q e ih = let same = number_is m (m + suc k) e in absurd (omega (arith, same))
    go false (some y) q e ih =
        let number : m + suc k ≡ suc m + k = omega arith in
        later y q (ih (onward y m (m + suc k) (read_from (suc m) (lines (drop 17 l))) e ∙ ap bad_line number))

-- the bytes from a place on, 18 of them at most
pub front_of : (l : List ℕ) (at n : ℕ) → n ≡ min (length (take (length l - at) (drop at l))) 18
    → take n (take (length l - at) (drop at l)) ≡ take 18 (drop at l)
front_of l at n e =
    let s = drop at l in
    let rest : take (length l - at) s ≡ s = take_rest l at in
    let size : n ≡ min 18 (length s) = omega (arith, e, ap length rest) in
    ap (take n) rest ∙ ap (λ (k : ℕ). take k s) size ∙ take_min 18 s

-- ---- the refused line of an input

module _ (n : ℕ) (input : List ℕ) (e : read_from 1 (lines input) ≡ bad_line n) where
  pub counted : 1 ≤ n
  counted = at-least (lines input) 1 n e

  line-begins : Begins 1 (n - 1) input
  line-begins = begins (n - 1) 1 input (e ∙ ap bad_line (omega (arith, counted)))

  swapped : 17 * (n - 1) ≡ (n - 1) * 17
  swapped = omega arith

  pub begins_within : (n - 1) * 17 < length input
  begins_within = omega (arith, line-begins.there)

  pub first_bytes : first_line (lines (take 18 (drop ((n - 1) * 17) input))) ≡ take 18 (line_at n (lines input))
  first_bytes =
      first-take 18 (drop ((n - 1) * 17) input)
      ∙ ap (λ (k : ℕ). take 18 (first_line (lines (drop k input)))) (sym swapped)
      ∙ ap (λ (ls : List (List ℕ)). take 18 (first_line ls)) (sym line-begins.place)

  pub no_value : n ≤ 8192 → line_value (first_line (lines (take 18 (drop ((n - 1) * 17) input)))) ≡ none
  no_value h =
      let s = drop ((n - 1) * 17) input in
      first-value 16 (take 18 s) (some 0) ∙ line-of-take 16 1 s (some 0) ∙ sym (first-value 16 s (some 0))
      ∙ ap (λ (k : ℕ). value_of (drop k input)) (sym swapped) ∙ line-begins.bad (omega (arith, counted))

-- the bytes that decide the text have the refused line's first ones
pub same_bytes : (n : ℕ) (input : List ℕ) → n ≤ 8192 → read_from 1 (lines (take 139265 input)) ≡ bad_line n
    → take 18 (line_at n (lines (take 139265 input))) ≡ take 18 (line_at n (lines input))
same_bytes n input h e =
    sym (first_bytes n (take 139265 input) e) ∙ ap (λ (s : List ℕ). first_line (lines s)) window ∙ first_bytes n input (sym (same_read input) ∙ e)
  where
    at : ℕ
    at = (n - 1) * 17

    rest : ℕ
    rest = 139265 - at

    whole : 139265 ≡ at + rest
    whole = omega arith

    window : take 18 (drop at (take 139265 input)) ≡ take 18 (drop at input)
    window =
        ap (λ (k : ℕ). take 18 (drop at (take k input))) whole ∙ ap (take 18) (drop-take at rest input)
        ∙ take-take 18 rest (drop at input) (omega arith)
