-- The numbers of a row: a list that a closure makes number by number, and words laid as bytes one after another.
use Rattle.std.proofs.Common.{◌≡◌, ℕ, zero, suc, ◌+◌, ◌-◌, ◌*◌, ◌<◌, ◌≤◌, List, [], ◌∷◌, ◌++◌, length, drop, get_or, refl, sym, ap, ap₂, ◌∙◌, subst, arith}
use Rattle.std.proofs.Common.{append-nil, append_assoc}
use Rattle.std.specs.Prelude.{map, replicate}
use Rattle.std.specs.Array.{IsFromFnResultFrom, IsFromFnResult}
use Rattle.std.specs.List.{range_with_len}
use Rattle.std.proofs.lemmas.List.FromFn.{fill_by_all, length-map-range_with_len, map-range_with_len_more}
use Rattle.std.proofs.lemmas.List.{drop-replicate}
use denote.Param.Members.{Mut, Called}
use lib.Seq.{take_at, drop-append-add}
use Rattle.totals_spec.specs.entries.Bytes.{to_bytes}
use Rattle.totals_spec.specs.entries.Bytes.{value_bytes}
use Rattle.pages_spec.proofs.Pages.{value-bytes-length}
use Rattle.values.specs.Laid.{laid}
use Rattle.replay.specs.Row.{word_at, words_in, laid_words}

-- f gives the number x i at each index i, and no call changes it
module _ {F : Type 0} (g : Mut F (ℕ × Unit {0}) ℕ) (f : F) (l : List ℕ) (x : ℕ → ℕ)
    (gives : (i y : ℕ) (q : F) → Called g f (i, tt) y q → (q ≡ f) × (y ≡ x i)) where
  -- by calls from the index i on
  from : (k i : ℕ) (p : F) → p ≡ f → IsFromFnResultFrom g p l i k → (j : ℕ) → j < k → get_or l (i + j) 0 ≡ x (i + j)
  from zero i p e h j b = absurd (omega arith)
  from (suc k) i p e (q, y, at, call, rest) zero b =
      let here = gives i y q (subst (λ (s : F). Called g s (i, tt) y q) e call) in
      subst (λ (n : ℕ). get_or l n 0 ≡ x n) (omega arith) (at.1 0 ∙ here.1)
  from (suc k) i p e (q, y, at, call, rest) (suc j) b =
      let here = gives i y q (subst (λ (s : F). Called g s (i, tt) y q) e call) in
      subst (λ (n : ℕ). get_or l n 0 ≡ x n) (omega arith) (from k (i + 1) q here.0 rest j (omega arith))

  pub built : {n : ℕ} → IsFromFnResult g f l n → l ≡ map x (range_with_len 0 n)
  built {n} h = fill_by_all x l n 0 h.long (λ i b. subst (λ (k : ℕ). get_or l k 0 ≡ x k) (omega arith) (from n 0 f refl h.each i b))

-- one word more
bytes-more : (l : List ℕ) (x : ℕ) → value_bytes (l ++ x ∷ []) ≡ value_bytes l ++ to_bytes 8 x
bytes-more [] x = append-nil (to_bytes 8 x)
bytes-more (y ∷ l) x = ap (λ (s : List ℕ). to_bytes 8 y ++ s) (bytes-more l x) ∙ sym (append_assoc (to_bytes 8 y) (value_bytes l) (to_bytes 8 x))

pub laid-next : (s : List ℕ) (column i m : ℕ) → 8 * i + 8 ≤ m
    → laid (laid_words s column i m) (8 * i) (word_at s (column + 17 * i) 16) ≡ laid_words s column (i + 1) m
unfolding laid_words words_in
laid-next s column i m h =
    ap₂ (λ (a b : List ℕ). a ++ (to_bytes 8 w ++ b)) (take_at bytes behind (8 * i) long) rest
    ∙ sym (append_assoc bytes (to_bytes 8 w) (replicate (m - 8 * (i + 1)) 255))
    ∙ ap (λ (l : List ℕ). l ++ replicate (m - 8 * (i + 1)) 255) (sym (ap value_bytes (map-range_with_len_more x 0 i i (omega arith)) ∙ bytes-more words w))
  where
    x : ℕ → ℕ
    x j = word_at s (column + 17 * j) 16

    w : ℕ
    w = x i

    words : List ℕ
    words = map x (range_with_len 0 i)

    bytes : List ℕ
    bytes = value_bytes words

    behind : List ℕ
    behind = replicate (m - 8 * i) 255

    long : length bytes ≡ 8 * i
    long = value-bytes-length words ∙ ap (λ (n : ℕ). 8 * n) (length-map-range_with_len x 0 i)

    rest : drop (8 * i + 8) (bytes ++ behind) ≡ replicate (m - 8 * (i + 1)) 255
    rest =
        ap (λ (n : ℕ). drop (n + 8) (bytes ++ behind)) (sym long) ∙ drop-append-add bytes behind 8
        ∙ drop-replicate 8 (m - 8 * i) 255 ∙ ap (λ (n : ℕ). replicate n 255) (let e : m - 8 * i - 8 ≡ m - 8 * (i + 1) = omega (arith, h) in e)
