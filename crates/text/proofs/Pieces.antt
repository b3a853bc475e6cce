-- A list in pieces of 17 bytes: the lines that are read from the first piece, and from the others.
use Rattle.std.proofs.Common.{◌≡◌, refl, sym, ap, ◌∙◌, ℕ, suc, ◌+◌, ◌≤◌, ◌<◌, min, Bor, List, [], ◌∷◌, ◌++◌, length, take, drop, get_or}
use Rattle.std.proofs.Common.{arith, append-nil, length-append, add-one}
use Rattle.std.proofs.lemmas.Grind.{common_steps}
use Rattle.std.specs.Prelude as code
use Rattle.std.proofs.Math.Option.{Option, none, some}
use lib.ListN.{length-drop}
use lib.Seq.{get_or-drop, append_snoc, take-append_seam, drop-append_seam}
use lib.Dec.{ltb}
use borrow.Author.Tests.{lt-ltb, le-ltb}
use Rattle.std.specs.Slice.Iter.{chunks_rest, chunks_size, chunks_steps}
use Rattle.std.specs.declared.slice.Chunks.{Chunks}
use Rattle.totals_spec.specs.program.Program.{lines, hex_from, Read, values, bad_line, taken, read_from}
use Rattle.hexadecimal.specs.Digits.{option_of}
use Rattle.arrayvec.specs.ArrayVec.{ArrayVec}
use Rattle.text.specs.declared.read.BadLine.{BadLine}
use Rattle.text.specs.Reading.{result_of}
use Rattle.text.proofs.FirstLine.{first-value, too_short, too_long, long-enough}
use Rattle.text.proofs.Prefix.{line-of-take}
use Rattle.text.proofs.Steps.{value_of, read_step}

-- ---- the value of one

pub short_line : (l : List ℕ) → length l < 16 → value_of l ≡ none
short_line l h = first-value 16 l (some 0) ∙ too_short 16 l (some 0) h

told_none : (v : Option ℕ) → option_of v ≡ code.None → v ≡ none
told_none none e = refl
told_none (some x) e = cc

told_some : (v : Option ℕ) (x : ℕ) → option_of v ≡ code.Some x → v ≡ some x
told_some none x e = cc
told_some (some y) x e = cc

-- the byte behind 16 of them decides
module _ (l : List ℕ) (h : 16 ≤ length l) where
  pub long_line : 0 < length (drop 16 l) → (get_or (drop 16 l) 0 0 ≡ 10 → ⊥) → value_of l ≡ none
  long_line k n =
      first-value 16 l (some 0) ∙ too_long 16 l (some 0) (omega (arith, length-drop 16 l)) (λ e. n (get_or-drop 16 l 0 0 ∙ e))

  pub whole_line : (0 < length (drop 16 l) → get_or (drop 16 l) 0 0 ≡ 10) → value_of l ≡ hex_from (take 16 l) (some 0)
  whole_line k =
      first-value 16 l (some 0) ∙ long-enough 16 l (some 0) h (λ j. sym (get_or-drop 16 l 0 0) ∙ k (omega (arith, length-drop 16 l)))

-- ---- values in front of what is read

abbrev pub behind : List ℕ → Read → Read
behind l (values m) = values (l ++ m)
behind l (bad_line n) = bad_line n

-- the first n bytes are a piece, or all are
seams : (n : ℕ) (p t : List ℕ) → length p ≡ min n (length (p ++ t)) → (take n (p ++ t) ≡ p) × (drop n (p ++ t) ≡ t)
seams n p [] k = (grind (arith, common_steps), grind (arith, common_steps))
seams n p (x ∷ xs) k =
    let whole : n ≡ length p = omega (arith, length-append p (x ∷ xs)) in (
      ap (λ (m : ℕ). take m (p ++ x ∷ xs)) whole ∙ take-append_seam p (x ∷ xs),
      ap (λ (m : ℕ). drop m (p ++ x ∷ xs)) whole ∙ drop-append_seam p (x ∷ xs),
    )

-- s begins with the piece p, and t is left
pub record Cut (s p t : List ℕ) : Type 0 where
  pub joined : s ≡ p ++ t
  pub long : length p ≡ min 17 (length s)
  pub some : 0 < length s

module _ (s p t : List ℕ) (c : Cut s p t) where
  cut : (take 17 s ≡ p) × (drop 17 s ≡ t)
  cut =
      let long : length p ≡ min 17 (length (p ++ t)) = c.long ∙ ap (λ (l : List ℕ). min 17 (length l)) c.joined in
      let e = seams 17 p t long in
      (ap (take 17) c.joined ∙ e.0, ap (drop 17) c.joined ∙ e.1)

  same_value : value_of s ≡ value_of p
  same_value =
      first-value 16 s (some 0) ∙ sym (line-of-take 16 0 s (some 0)) ∙ sym (first-value 16 (take 17 s) (some 0)) ∙ ap value_of cut.0

  step : (v : Option ℕ) → value_of p ≡ v → (n : ℕ) → read_from n (lines s) ≡ code.cond (ltb 8192 n) (bad_line n) (taken v n (read_from (suc n) (lines t)))
  step v e n =
      read_step s v (same_value ∙ e) c.some n
      ∙ ap (λ (l : List ℕ). code.cond (ltb 8192 n) (bad_line n) (taken v n (read_from (suc n) (lines l)))) cut.1

-- the next of some pieces
pub cut_next : (s t : Chunks ℕ) (x : Bor (List ℕ)) → chunks_size s ≡ 17 → chunks_steps s (code.Some x) t → Cut (chunks_rest s) x.now (chunks_rest t)
cut_next s t x e h = record { joined = h.1.0; long = rw (← e) h.1.1; some = h.1.2 }

-- ---- the pieces before s are good lines, and l has their values

behind-none : (r : Read) → behind [] r ≡ r
behind-none (values l) = refl
behind-none (bad_line n) = refl

behind_more : (l : List ℕ) (x n : ℕ) (r : Read) → behind l (taken (some x) n r) ≡ behind (l ++ (x ∷ [])) r
behind_more l x n (values m) = ap values (sym (append_snoc l x m))
behind_more l x n (bad_line k) = refl

pub record SoFar (input s l : List ℕ) : Type 0 where
  pub read : read_from 1 (lines input) ≡ behind l (read_from (suc (length l)) (lines s))

pub so_far_start : (input : List ℕ) → SoFar input input []
so_far_start input = record { read = sym (behind-none (read_from 1 (lines input))) }

module _ (input s p t l : List ℕ) (c : Cut s p t) (f : SoFar input s l) where
  bad : (n : ℕ) → n ≡ suc (length l) → read_from (suc (length l)) (lines s) ≡ bad_line (suc (length l))
      → code.Err (record { line = n }) ≡ result_of (read_from 1 (lines input))
  bad n e r = rw (f.read, r, e) refl

  pub so_far_full : (n : ℕ) → n ≡ length l → length l ≡ 8192 → code.Err (record { line = n + 1 }) ≡ result_of (read_from 1 (lines input))
  so_far_full n e h = bad (n + 1) (add-one n ∙ ap suc e) (step s p t c (value_of p) refl (suc (length l)) ∙ rw (lt-ltb 8192 (suc (length l)) (omega arith)))

  module _ (k : length l < 8192) where
    line : (v : Option ℕ) → value_of p ≡ v → read_from (suc (length l)) (lines s) ≡ taken v (suc (length l)) (read_from (suc (suc (length l))) (lines t))
    line v e = step s p t c v e (suc (length l)) ∙ rw (le-ltb 8192 (suc (length l)) (omega arith))

    pub so_far_bad : option_of (value_of p) ≡ code.None → code.Err (record { line = length l + 1 }) ≡ result_of (read_from 1 (lines input))
    so_far_bad e = bad (length l + 1) (add-one (length l)) (line none (told_none (value_of p) e))

    pub so_far_more : (x : ℕ) → option_of (value_of p) ≡ code.Some x → SoFar input t (l ++ x ∷ [])
    so_far_more x e = record {
      read = f.read ∙ ap (behind l) (line (some x) (told_some (value_of p) x e)) ∙ behind_more l x (suc (length l)) (read_from (suc (suc (length l))) (lines t))
          ∙ ap (λ (n : ℕ). behind (l ++ x ∷ []) (read_from (suc n) (lines t))) (sym (length-append l (x ∷ []) ∙ add-one (length l)));
    }

pub so_far_end : (input s l : List ℕ) → length s ≡ 0 → SoFar input s l → code.Ok (record { items = l }) ≡ result_of (read_from 1 (lines input))
unfolding read_from
so_far_end input [] l h f = rw f.read (ap (λ (m : List ℕ). code.Ok (record { items = m })) (sym (append-nil l)))
so_far_end input (b ∷ bs) l h f = absurd (omega arith)

-- ---- what a result tells

pub read_values : (r : Read) (v : ArrayVec ℕ) → code.Ok v ≡ result_of r → r ≡ values v.items
read_values (values l) v e = let same : v ≡ record { items = l } = cc in ap (λ (w : ArrayVec ℕ). values w.items) (sym same)
read_values (bad_line n) v e = cc

pub read_bad : (r : Read) (b : BadLine) → code.Err b ≡ result_of r → r ≡ bad_line b.line
read_bad (values l) b e = cc
read_bad (bad_line n) b e = let same : b ≡ record { line = n } = cc in ap (λ (w : BadLine). bad_line w.line) (sym same)
