-- A summary laid behind the values, a trailer behind the summaries, and the whole page at the end.
use mathlib.Core.Path.{◌≡◌, sym, ap, ap₂, ◌∙◌, subst}
use mathlib.Core.Bool.{false}
use mathlib.Core.List.{List, [], ◌∷◌, ◌++◌, append_assoc}
use Prim.Native.Nat.{ℕ, suc, ◌+◌, ◌*◌, ◌≤◌, ◌<◌}
use native.Mathlib.Omega.{arith}
use lib.Dec.{ltb}
use lib.ListN.{length, take, drop, get_or, length-drop, take-append-drop}
use borrow.Author.Tests.{le-ltb, le-leb, lt-leb}
use lib.Seq.{length-take-le, take-add, take-take, take-append-le, drop-append_seam, drop-drop}
use Rattle.totals_spec.specs.entries.Bytes.{to_bytes, values_from}
use Rattle.pages_spec.specs.Conditions.{AllWords}
use Rattle.totals_spec.specs.chain.Limit.{ceil_div}
use Rattle.pages_spec.specs.Pages.{group_size, short_most, groups, page_length, page_of, summaries, summary, trailer, trailer_length}
use Rattle.pages_spec.specs.Pages.{page_written, write_refusal}
use Rattle.totals_spec.specs.entries.Words.{filled}
use Rattle.pages_spec.proofs.PartsOfAPage.{AllBytes, from_front, value-bytes-back, page-trailer, short-words, long-words}
use Rattle.pages_spec.proofs.Pages.{trailer-length, page-size, page-summary, values-back}
use Rattle.totals_spec.proofs.entries.ValuesInBytes.{from-length}
use Rattle.values.specs.Laid.{laid}
use Rattle.pages.specs.declared.Summary.{Summary}
use Rattle.pages.specs.Paged.{short_ending, long_ending, Fills, Summarized}
use Rattle.totals.specs.Laid.{laid_over}
use Rattle.totals.proofs.Laid.{over-next}
use Rattle.pages.proofs.Filled.{fills-next}
use Rattle.pages.proofs.Opening.{trailer-least}

-- the page of the values that stand in front has their bytes
pub front-is : (n : ℕ) (old : List ℕ) → AllBytes old → 8 * n ≤ length old → take (8 * n) (page_of (values_from n old)) ≡ take (8 * n) old
unfolding page_of
front-is n old f h =
    ap (λ (s : List ℕ). take (8 * n) (s ++ rest)) (value-bytes-back n old f h)
    ∙ take-append-le (8 * n) (take (8 * n) old) rest (omega (arith, length-take-le (8 * n) old h))
    ∙ take-take (8 * n) (8 * n) old (omega arith)
  where
    rest : List ℕ
    rest = summaries (values_from n old) ++ trailer (length (values_from n old))

-- twelve bytes that are a word and four bytes more, each for itself
first-eight : (e c : ℕ) (l : List ℕ) → to_bytes 8 e ++ to_bytes 4 c ≡ take 12 l → take 8 (to_bytes 8 e) ≡ take 8 l
first-eight e c l h = ap (take 8) h ∙ take-take 8 12 l (omega arith)

last-four : (e c : ℕ) (l : List ℕ) → 12 ≤ length l → to_bytes 8 e ++ to_bytes 4 c ≡ take 12 l → take 4 (to_bytes 8 c) ≡ take 4 (drop 8 l)
last-four e c l long h =
    ap (drop 8) (h ∙ take-add 8 4 l)
    ∙ ap (λ (i : ℕ). drop i (take 8 l ++ take 4 (drop 8 l))) (sym (length-take-le 8 l (omega (arith, long))))
    ∙ drop-append_seam (take 8 l) (take 4 (drop 8 l))

module _ (n g : ℕ) (old now : List ℕ) (f : AllBytes old) (less : 64 * g < n) (room : 8 * n + 12 * groups n + 16 ≤ length old) where
  abbrev values : List ℕ
  values = values_from n old

  abbrev at : ℕ
  at = 8 * n + 12 * g

  long : 8 * n + 12 * groups n + trailer_length n ≡ length (page_of values)
  long = unfold page_length in sym (page-size values ∙ ap page_length (from-length n old))

  few : 12 * g + 12 ≤ 12 * groups n
  few = unfold ceil_div in omega (arith, less)

  -- the summary s of the group g, laid
  pub summary-laid : (s : Summary) → Summarized (take group_size (drop (group_size * g) (values_from n now))) s → Fills (page_of values) at old now
      → (k : ℕ) → k ≡ at → (one two : List ℕ) → one ≡ take k now ++ (to_bytes 8 s.extent ++ drop (k + 8) now)
      → two ≡ take (k + 8) one ++ (to_bytes 8 s.class ++ drop (k + 8 + 8) one) → Fills (page_of values) (8 * n + 12 * (g + 1)) old two
  summary-laid s m h k e one two a b =
      subst (λ (j : ℕ). Fills (page_of values) j old two) place
      (subst (Fills (page_of values) (at + 8 + 4) old) (sym (b ∙ ap (λ (i : ℕ). take (i + 8) one ++ (to_bytes 8 s.class ++ drop (i + 8 + 8) one)) e)) second)
    where
      same : values_from n now ≡ values
      same =
          sym (from_front n at now (omega arith)) ∙ ap (values_from n) h.front ∙ from_front n at (page_of values) (omega arith)
          ∙ sym (from_front n (8 * n) (page_of values) (omega arith)) ∙ ap (values_from n) (front-is n old f (omega (arith, room)))
          ∙ from_front n (8 * n) old (omega arith)

      bytes : to_bytes 8 s.extent ++ to_bytes 4 s.class ≡ take 12 (drop at (page_of values))
      bytes =
          m.bytes ∙ ap (λ (v : List ℕ). summary (take group_size (drop (group_size * g) v))) same
          ∙ sym (page-summary values g (omega (arith, less, from-length n old)))
          ∙ ap (λ (i : ℕ). take 12 (drop (8 * i + 12 * g) (page_of values))) (from-length n old)

      behind : 12 ≤ length (drop at (page_of values))
      behind = omega (arith, length-drop at (page_of values), long, few)

      first : Fills (page_of values) (at + 8) old one
      first =
          subst (Fills (page_of values) (at + 8) old) (sym (a ∙ ap (λ (i : ℕ). take i now ++ (to_bytes 8 s.extent ++ drop (i + 8) now)) e))
          (fills-next (page_of values) old now at s.extent 8 h (omega (arith, room, few)) (omega (arith, long, few)) (omega arith)
          (first-eight s.extent s.class (drop at (page_of values)) bytes))

      second : Fills (page_of values) (at + 8 + 4) old (take (at + 8) one ++ (to_bytes 8 s.class ++ drop (at + 8 + 8) one))
      second =
          fills-next (page_of values) old one (at + 8) s.class 4 first (omega (arith, room, few)) (omega (arith, long, few, trailer-least n)) (omega arith)
          (last-four s.extent s.class (drop at (page_of values)) behind bytes ∙ ap (take 4) (drop-drop 8 at (page_of values)))

      place : at + 8 + 4 ≡ 8 * n + 12 * (g + 1)
      place = omega arith

-- ---- the writer

pub all_words : (l : List ℕ) → ((k : ℕ) → get_or l k 0 < 18446744073709551616) → AllWords l
all_words [] f = tt
all_words (x ∷ l) f = (f 0, all_words l (λ k. f (suc k)))

-- where nothing refuses
pub page-written : (l old : List ℕ) → ltb (length old) (page_length (length l)) ≡ false → length l ≤ 268435456
    → (page_written l old).buffer ≡ filled (page_of l) old
unfolding page_written write_refusal
page-written l old e h = rw (e, le-ltb 268435456 (length l) h)

-- ---- a trailer, word by word

module _ (l : List ℕ) (at n : ℕ) where
  pub short-laid : n ≤ short_most → at + 16 ≤ length l → (one two : List ℕ) → one ≡ laid l at (8 * n + 4294967296 * n)
      → two ≡ laid one (at + 8) short_ending → two ≡ laid_over l at (trailer n)
  unfolding trailer
  short-laid few h one two a b =
      let s = to_bytes 8 (8 * n + 4294967296 * n) in
      rw (le-leb n short_most few)
      (b ∙ ap (λ (x : List ℕ). laid x (at + 8) short_ending) a ∙ over-next l s (to_bytes 8 short_ending) at (omega (arith, h))
      ∙ ap (laid_over l at) (sym (short-words n few)))

  pub long-laid : short_most < n → at + 24 ≤ length l → (one two three : List ℕ) → one ≡ laid l at (8 * n) → two ≡ laid one (at + 8) n
      → three ≡ laid two (at + 16) long_ending → three ≡ laid_over l at (trailer n)
  unfolding trailer
  long-laid many h one two three a b c =
      let s = to_bytes 8 (8 * n) in
      rw (lt-leb n short_most many)
      (c ∙ ap (λ (x : List ℕ). laid x (at + 16) long_ending)
      (b ∙ ap (λ (x : List ℕ). laid x (at + 8) n) a ∙ over-next l s (to_bytes 8 n) at (omega (arith, h)))
      ∙ over-next l (s ++ to_bytes 8 n) (to_bytes 8 long_ending) at (omega (arith, h)) ∙ ap (laid_over l at) (sym (long-words n)))

-- values, summaries and trailer, laid one after another
module _ (l old : List ℕ) (w : AllWords l) where
  abbrev n : ℕ
  n = length l

  abbrev end : ℕ
  end = 8 * n + 12 * groups n

  back : (one : List ℕ) → Fills (page_of l) (8 * n) old one → values_from n one ≡ l
  unfolding page_of
  back one f =
      sym (from_front n (8 * n) one (omega arith)) ∙ ap (values_from n) f.front ∙ from_front n (8 * n) (page_of l) (omega arith)
      ∙ values-back l (summaries l ++ trailer n) w

  pub whole-laid : (one two three : List ℕ) → Fills (page_of l) (8 * n) old one → Fills (page_of (values_from n one)) end one two
      → three ≡ laid_over two end (trailer n) → three ≡ filled (page_of l) old
  whole-laid one two three f h a =
      a ∙ ap₂ (λ (x y : List ℕ). x ++ y) both.front (ap₂ ◌++◌ (sym (page-trailer l)) (ap (λ (k : ℕ). drop k two) size ∙ both.beyond ∙ f.beyond))
      ∙ sym (append_assoc (take end (page_of l)) (drop end (page_of l)) (drop (length (page_of l)) old))
      ∙ ap (λ (s : List ℕ). s ++ drop (length (page_of l)) old) (take-append-drop end (page_of l))
    where
      both : Fills (page_of l) end one two
      both = subst (λ (v : List ℕ). Fills (page_of v) end one two) (back one f) h

      size : end + length (trailer n) ≡ length (page_of l)
      size = unfold page_length in omega (arith, page-size l, trailer-length n)
