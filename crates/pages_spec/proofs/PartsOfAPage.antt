-- For the code of pages: the values in a part of a page, what decides whether a page opens, a page
-- filled word by word, and a summary's numbers.
use mathlib.Core.Path.{◌≡◌, ap, sym, ◌∙◌, refl, ap₂}
use mathlib.Core.List.{List, [], ◌∷◌, ◌++◌, append-nil, append_assoc}
use Prim.Native.Nat.{ℕ, zero, suc, ◌-◌, min, ◌<◌, ◌+◌, ◌*◌, ◌/◌, ◌%◌, ◌≤◌}
use native.Mathlib.Nat.{zero-min, min-zero, suc-min-suc, sub-zero, zero-sub, suc-sub-suc, zero-add}
use native.Mathlib.Nat.{suc-add, not-suc-le-zero, le_of_suc-le-suc}
use lib.ListN.{length, take, drop, get_or, length-drop, take-append-drop, length-append}
use lib.Seq.{take-nil, get_or-drop, length-take-le, drop-drop, take-take, take-add, take-append-add}
use lib.Seq.{take-append-le, drop-append-add}
use native.Mathlib.Omega.{arith}
use mathlib.Core.Bool.{true}
use borrow.Author.Tests.{le-leb}
use Rattle.totals_spec.specs.entries.Bytes.{from_bytes, to_bytes, values_from, values_in}
use Rattle.totals_spec.specs.entries.Bytes.{value_bytes}
use Rattle.totals_spec.specs.Basics.{same_list}
use Rattle.totals_spec.specs.chain.Limit.{ceil_div, bottom_of}
use Rattle.totals_spec.specs.formats.Format.{binary64, bias, depth, origin}
use Rattle.totals_spec.specs.terms.Terms.{Term, terms, top_of}
use Rattle.totals_spec.proofs.entries.ValuesInBytes.{from-length}
use Rattle.totals_spec.proofs.lists.SameLists.{same_refl}
use Rattle.totals_spec.proofs.entries.ReadBack.{bytes_back}
use Rattle.totals_spec.proofs.entries.AnswerFields.{two-numbers}
use Rattle.pages_spec.specs.Pages.{span_of, group_size, summary, long_most, groups, trailer}
use Rattle.pages_spec.specs.Pages.{trailer_length, page_length, last_bytes, summaries_from}
use Rattle.pages_spec.specs.Pages.{summaries, page_of, count_in, page_values, opens, short_most}
use Rattle.pages_spec.specs.Pages.{short_trailer, long_trailer, position_bytes, extent, class_of}
use Rattle.pages_spec.specs.Pages.{page_items}
use Rattle.pages_spec.proofs.Pages.{page-size, page-summary, page-only, open-trails, trailer-in}

-- ---- parts of parts

take_min : {A : Type 0} (k : ℕ) (l : List A) → take (min k (length l)) l ≡ take k l
take_min zero l = rw (zero-min (length l))
take_min (suc k) [] = rw (min-zero (suc k))
take_min (suc k) (x ∷ l) = rw (suc-min-suc k (length l)) (ap (λ (s : List _). x ∷ s) (take_min k l))

drop-take : {A : Type 0} (j m : ℕ) (l : List A) → drop j (take m l) ≡ take (m - j) (drop j l)
drop-take zero m l = ap (λ (n : ℕ). take n l) (sym (sub-zero m))
drop-take (suc j) zero l = rw (zero-sub (suc j))
drop-take (suc j) (suc m) [] = sym (take-nil (suc m - suc j))
drop-take (suc j) (suc m) (x ∷ l) = drop-take j m l ∙ ap (λ (n : ℕ). take n (drop j l)) (sym (suc-sub-suc m j))

-- ---- bytes as numbers

abbrev pub AllBytes : List ℕ → Type 0
AllBytes l = (k : ℕ) → get_or l k 0 < 256

bytes_drop : (n : ℕ) (l : List ℕ) → AllBytes l → AllBytes (drop n l)
bytes_drop n l f k = rw (get_or-drop n l k 0) (f (n + k))

bytes_take : (n : ℕ) (l : List ℕ) → AllBytes l → AllBytes (take n l)
bytes_take zero l f k = omega arith
bytes_take (suc n) [] f k = omega arith
bytes_take (suc n) (x ∷ l) f zero = f 0
bytes_take (suc n) (x ∷ l) f (suc k) = bytes_take n l (λ j. f (suc j)) k

-- the number that some bytes are has those bytes
pub to-from : (l : List ℕ) → AllBytes l → to_bytes (length l) (from_bytes l) ≡ l
to-from [] f = refl
to-from (b ∷ l) f = ap₂ ◌∷◌ low (ap (to_bytes (length l)) high ∙ to-from l (λ k. f (suc k)))
  where
    low : (b + 256 * from_bytes l) % 256 ≡ b
    low = omega (arith, f 0)

    high : (b + 256 * from_bytes l) / 256 ≡ from_bytes l
    high = omega (arith, f 0)

-- n bytes from a place on
pub bytes-at : (n at : ℕ) (l : List ℕ) → AllBytes l → at + n ≤ length l → to_bytes n (from_bytes (take n (drop at l))) ≡ take n (drop at l)
bytes-at n at l f h =
    ap (λ (k : ℕ). to_bytes k (from_bytes (take n (drop at l)))) (sym (length-take-le n (drop at l) (omega (arith, length-drop at l))))
    ∙ to-from (take n (drop at l)) (bytes_take n (drop at l) (bytes_drop at l f))

-- ---- the values in a part of a page

-- behind k values, of the first k, and where a front part has them
from-drop : (k n : ℕ) (page : List ℕ) → drop k (values_from (k + n) page) ≡ values_from n (drop (8 * k) page)
from-drop zero n page = rw (zero-add n)
from-drop (suc k) n page = rw (suc-add k n) (from-drop k n (drop 8 page) ∙ ap (values_from n) (drop-drop (8 * k) 8 page ∙ ap (λ (j : ℕ). drop j page) place))
  where
    place : 8 + 8 * k ≡ 8 * suc k
    place = omega arith

from-take : (k n : ℕ) (page : List ℕ) → take k (values_from (k + n) page) ≡ values_from k page
from-take zero n page = refl
from-take (suc k) n page = rw (suc-add k n) (ap (λ (l : List ℕ). from_bytes (take 8 page) ∷ l) (from-take k n (drop 8 page)))

pub from_front : (k m : ℕ) (page : List ℕ) → 8 * k ≤ m → values_from k (take m page) ≡ values_from k page
from_front zero m page h = refl
from_front (suc k) m page h =
    ap₂ (λ (x y : List ℕ). from_bytes x ∷ values_from k y) (take-take 8 m page (omega arith)) (drop-take 8 m page)
    ∙ ap (λ (l : List ℕ). from_bytes (take 8 page) ∷ l) (from_front k (m - 8) (drop 8 page) (omega arith))

-- the values in the bytes of a span are the span of the values
pub span-bytes : (n start end : ℕ) (page : List ℕ) → start ≤ end → end ≤ n → 8 * n ≤ length page
    → values_in (take (8 * end - 8 * start) (drop (8 * start) page)) ≡ span_of start end (values_from n page)
unfolding values_in
span-bytes n start end page a b h =
    ap (λ (k : ℕ). values_from k (take m part)) count ∙ from_front d m part (omega arith)
    ∙ sym (from-take d r part) ∙ ap (take d) (sym (from-drop start (d + r) page) ∙ ap (λ (k : ℕ). drop start (values_from k page)) whole)
  where
    d : ℕ
    d = end - start

    r : ℕ
    r = n - end

    m : ℕ
    m = 8 * end - 8 * start

    part : List ℕ
    part = drop (8 * start) page

    count : length (take m part) / 8 ≡ d
    count = omega (arith, length-take-le m part (omega (arith, length-drop (8 * start) page)))

    whole : start + (d + r) ≡ n
    whole = omega arith

-- the values in the bytes of a group; the last one may be short
pub group-bytes : (n g : ℕ) (page : List ℕ) → 64 * g ≤ n → 8 * n ≤ length page
    → values_in (take (8 * min (64 * g + 64) n - 8 * (64 * g)) (drop (8 * (64 * g)) page)) ≡ take group_size (drop (group_size * g) (values_from n page))
group-bytes n g page a h =
    span-bytes n (64 * g) (min (64 * g + 64) n) page (omega arith) (omega arith) h ∙ ap (λ (k : ℕ). take k rest) fewer ∙ take_min 64 rest
  where
    rest : List ℕ
    rest = drop (64 * g) (values_from n page)

    fewer : min (64 * g + 64) n - 64 * g ≡ min 64 (length rest)
    fewer = omega (arith, length-drop (64 * g) (values_from n page), from-length n page)

-- the bytes of the first n values are the first 8 × n bytes
pub value-bytes-back : (n : ℕ) (page : List ℕ) → AllBytes page → 8 * n ≤ length page → value_bytes (values_from n page) ≡ take (8 * n) page
value-bytes-back zero page f h = refl
value-bytes-back (suc n) page f h =
    ap₂ ◌++◌ (bytes-at 8 0 page f (omega arith)) (value-bytes-back n (drop 8 page) (bytes_drop 8 page f) (omega (arith, length-drop 8 page)))
    ∙ sym (take-add 8 (8 * n) page) ∙ ap (λ (k : ℕ). take k page) place
  where
    place : 8 + 8 * n ≡ 8 * suc n
    place = omega arith

-- ---- what decides whether a page opens: the count, the length, the trailer and each summary

-- the summary of a group stands where it should, of a page of n values
abbrev pub Stands : (n : ℕ) → List ℕ → ℕ → Type 0
Stands n page g = take 12 (drop (8 * n + 12 * g) page) ≡ summary (take group_size (drop (group_size * g) (values_from n page)))

pub record Parts (n : ℕ) (page : List ℕ) : Type 0 where
  pub few : n ≤ long_most
  pub long : length page ≡ page_length n
  pub trails : last_bytes (trailer_length n) page ≡ trailer n
  pub stands : (g : ℕ) → g < groups n → Stands n page g

-- one group more
summaries-next : (k : ℕ) (l : List ℕ) → summaries_from (suc k) l ≡ summaries_from k l ++ summary (take group_size (drop (group_size * k) l))
summaries-next zero l = append-nil (summary (take group_size l))
summaries-next (suc k) l =
    let s = summary (take group_size l) in
    ap (λ (t : List ℕ). s ++ t)
    (summaries-next k (drop group_size l) ∙ ap (λ (t : List ℕ). summaries_from k (drop group_size l) ++ summary (take group_size t)) group)
    ∙ sym (append_assoc s (summaries_from k (drop group_size l)) (summary (take group_size (drop (group_size * suc k) l))))
  where
    group : drop (group_size * k) (drop group_size l) ≡ drop (group_size * suc k) l
    group = drop-drop (group_size * k) group_size l ∙ ap (λ (j : ℕ). drop j l) place
      where
        place : group_size + group_size * k ≡ group_size * suc k
        place = omega arith

-- the first k summaries are what stands behind the values
stand-all : (n k : ℕ) (page : List ℕ) → ((g : ℕ) → g < k → Stands n page g) → summaries_from k (values_from n page) ≡ take (12 * k) (drop (8 * n) page)
stand-all n zero page s = refl
stand-all n (suc k) page s =
    summaries-next k (values_from n page)
    ∙ ap₂ ◌++◌ (stand-all n k page (λ g h. s g (omega arith)))
    (sym (s k (omega arith)) ∙ ap (take 12) (sym (drop-drop (12 * k) (8 * n) page)))
    ∙ sym (take-add (12 * k) 12 (drop (8 * n) page)) ∙ ap (λ (j : ℕ). take j (drop (8 * n) page)) place
  where
    place : 12 * k + 12 ≡ 12 * suc k
    place = omega arith

module _ (page : List ℕ) where
  abbrev n : ℕ
  n = count_in page

  pub parts-open : AllBytes page → Parts n page → opens page ≡ true
  unfolding opens
  parts-open f p = rw (le-leb n long_most p.few) (ap (same_list page) same ∙ same_refl page)
    where
      front : 8 * n + 12 * groups n + trailer_length n ≡ length page
      front = unfold page_length in sym p.long

      rest : drop (12 * groups n) (drop (8 * n) page) ≡ trailer n
      rest = drop-drop (12 * groups n) (8 * n) page ∙ ap (λ (j : ℕ). drop j page) place ∙ p.trails
        where
          place : 8 * n + 12 * groups n ≡ length page - trailer_length n
          place = omega (arith, front)

      same : page_of (values_from n page) ≡ page
      same =
          unfold page_of in unfold summaries in
          rw (from-length n page, value-bytes-back n page f (omega (arith, front)), stand-all n (groups n) page p.stands, sym rest)
          (ap (λ (t : List ℕ). take (8 * n) page ++ t) (take-append-drop (12 * groups n) (drop (8 * n) page)) ∙ take-append-drop (8 * n) page)

  pub open-parts : opens page ≡ true → Parts n page
  open-parts o = let (e, w, few) = page-only page o in
      record {
        few = omega (arith, few, from-length n page);
        long = ap length e ∙ page-size l ∙ ap page_length (from-length n page);
        trails = open-trails page o;
        stands = λ g h.
            ap (λ (x : List ℕ). take 12 (drop (8 * n + 12 * g) x)) e
            ∙ ap (λ (k : ℕ). take 12 (drop (8 * k + 12 * g) (page_of l))) (sym (from-length n page))
            ∙ page-summary l g (inside g h);
      }
    where
      l : List ℕ
      l = page_values page

      inside : (g : ℕ) → g < groups n → 64 * g < length l
      inside g h = unfold ceil_div in omega (arith, h, from-length n page)

-- ---- twelve bytes as a word and four bytes more

pub twelve_bytes : (at e c : ℕ) (page : List ℕ) → AllBytes page → at + 12 ≤ length page → from_bytes (take 8 (drop at page)) ≡ e
    → from_bytes (take 4 (drop (at + 8) page)) ≡ c → take 12 (drop at page) ≡ to_bytes 8 e ++ to_bytes 4 c
twelve_bytes at e c page f h x y =
    take-add 8 4 (drop at page)
    ∙ ap₂ ◌++◌ (sym (bytes-at 8 at page f (omega arith)) ∙ ap (to_bytes 8) x)
    (ap (take 4) (drop-drop 8 at page) ∙ sym (bytes-at 4 (at + 8) page f (omega arith)) ∙ ap (to_bytes 4) y)

-- and back
pub twelve-back : (at e c : ℕ) (page : List ℕ) → e < 18446744073709551616 → c < 4294967296 → take 12 (drop at page) ≡ to_bytes 8 e ++ to_bytes 4 c
    → (from_bytes (take 8 (drop at page)) ≡ e) × (from_bytes (take 4 (drop (at + 8) page)) ≡ c)
twelve-back at e c page a b h = (
  ap from_bytes (sym (take-take 8 12 (drop at page) (omega arith)) ∙ ap (take 8) h) ∙ bytes_back 8 e a,
  ap from_bytes (ap (take 4) (sym (drop-drop 8 at page)) ∙ sym (drop-take 8 12 (drop at page)) ∙ ap (drop 8) h) ∙ bytes_back 4 c b,
)

-- ---- a page filled word by word: the first k bytes of the destination are the page's

module _ (now page : List ℕ) (k x : ℕ) (room : k + 8 ≤ length now) where
  -- the word x laid at k
  abbrev next : List ℕ
  next = take k now ++ (to_bytes 8 x ++ drop (k + 8) now)

  -- j of its bytes are the page's
  pub front-next : (j : ℕ) → j ≤ 8 → take k now ≡ take k page → take j (to_bytes 8 x) ≡ take j (drop k page) → take (k + j) next ≡ take (k + j) page
  front-next j few e w =
      ap (λ (i : ℕ). take (i + j) next) (sym (length-take-le k now (omega arith)))
      ∙ take-append-add (take k now) (to_bytes 8 x ++ drop (k + 8) now) j
      ∙ ap₂ ◌++◌ e (take-append-le j (to_bytes 8 x) (drop (k + 8) now) few ∙ w)
      ∙ sym (take-add k j page)

  pub next-length : length next ≡ length now
  next-length =
      omega (
        arith,
        length-append (take k now) (to_bytes 8 x ++ drop (k + 8) now),
        length-take-le k now (omega arith),
        length-append (to_bytes 8 x) (drop (k + 8) now),
        length-drop (k + 8) now,
      )

  -- what lies beyond stays
  pub next-beyond : (size : ℕ) → k + 8 ≤ size → drop size next ≡ drop size now
  next-beyond size h =
      ap (drop size) (sym (append_assoc (take k now) (to_bytes 8 x) (drop (k + 8) now)))
      ∙ ap (λ (i : ℕ). drop i (front ++ drop (k + 8) now)) place
      ∙ drop-append-add front (drop (k + 8) now) (size - (k + 8))
      ∙ drop-drop (size - (k + 8)) (k + 8) now
      ∙ ap (λ (i : ℕ). drop i now) whole
    where
      front : List ℕ
      front = take k now ++ to_bytes 8 x

      place : size ≡ length front + (size - (k + 8))
      place = omega (arith, length-append (take k now) (to_bytes 8 x), length-take-le k now (omega arith))

      whole : k + 8 + (size - (k + 8)) ≡ size
      whole = omega arith

-- ---- the words of a page

value-at : (l r : List ℕ) (i : ℕ) → i < length l → take 8 (drop (8 * i) (value_bytes l ++ r)) ≡ to_bytes 8 (get_or l i 0)
value-at [] r i h = absurd (not-suc-le-zero h)
value-at (x ∷ l) r zero h = refl
value-at (x ∷ l) r (suc i) h =
    ap (λ (k : ℕ). take 8 (drop k (to_bytes 8 x ++ (value_bytes l ++ r)))) place
    ∙ ap (take 8) (drop-append-add (to_bytes 8 x) (value_bytes l ++ r) (8 * i)) ∙ value-at l r i (le_of_suc-le-suc h)
  where
    place : 8 * suc i ≡ 8 + 8 * i
    place = omega arith

pub page-value : (l : List ℕ) (i : ℕ) → i < length l → take 8 (drop (8 * i) (page_of l)) ≡ to_bytes 8 (get_or l i 0)
unfolding page_of
page-value l i h = value-at l (summaries l ++ trailer (length l)) i h

pub page-trailer : (l : List ℕ) → drop (8 * length l + 12 * groups (length l)) (page_of l) ≡ trailer (length l)
page-trailer l = ap (λ (k : ℕ). drop k (page_of l)) place ∙ trailer-in l
  where
    place : 8 * length l + 12 * groups (length l) ≡ length (page_of l) - trailer_length (length l)
    place = unfold page_length in omega (arith, page-size l)

-- 826757187 and 843534403 are the numbers of the four letters
pub short-words : (n : ℕ) → n ≤ short_most → short_trailer n ≡ to_bytes 8 (8 * n + 4294967296 * n) ++ to_bytes 8 (64 + 4294967296 * 826757187)
unfolding short_trailer
short-words n h = sym (ap (λ (s : List ℕ). s ++ to_bytes 8 (64 + 4294967296 * 826757187)) (two-numbers 4 4 (8 * n) n (omega arith)))

pub long-words : (n : ℕ) → long_trailer n ≡ to_bytes 8 (8 * n) ++ (to_bytes 8 n ++ to_bytes 8 (64 + 4294967296 * 843534403))
unfolding long_trailer
long-words n = refl

-- ---- a summary's numbers

-- a position as a word below 2^32
pub position-word : (at p : ℕ) → p ≡ (4294967296 + at - 2098) % 4294967296 → to_bytes 4 p ≡ position_bytes at
unfolding origin depth bias binary64
position-word at p e = λ i. first i ∷ second i ∷ third i ∷ fourth i ∷ []
  where
    n : ℕ
    n = 4294967296 + at - 2098

    first : p % 256 ≡ n % 256
    first = omega (arith, e)

    second : p / 256 % 256 ≡ n / 256 % 256
    second = omega (arith, e)

    third : p / 256 / 256 % 256 ≡ n / 256 / 256 % 256
    third = omega (arith, e)

    fourth : p / 256 / 256 / 256 % 256 ≡ n / 256 / 256 / 256 % 256
    fourth = omega (arith, e)

-- of values with a term: h and l are the words of T and B
pub summary-word : (values : List ℕ) (h l : ℕ) → h < 4294967296 → 0 < length (terms (page_items values))
    → to_bytes 4 h ≡ position_bytes (top_of (terms (page_items values))) → to_bytes 4 l ≡ position_bytes (bottom_of (terms (page_items values)))
    → to_bytes 8 (h + 4294967296 * l) ++ to_bytes 4 (class_of (page_items values)) ≡ summary values
unfolding summary extent
summary-word values h l less some a b =
    ap (λ (s : List ℕ). s ++ to_bytes 4 (class_of (page_items values))) (two-numbers 4 4 h l less ∙ ap₂ ◌++◌ a b ∙ go (terms (page_items values)) some)
  where
    go : (ts : List Term) → 0 < length ts → position_bytes (top_of ts) ++ position_bytes (bottom_of ts) ≡ extent ts
    go [] e = absurd (not-suc-le-zero e)
    go (t ∷ ts) e = refl

-- of values without
pub summary-zero : (values : List ℕ) → terms (page_items values) ≡ [] → to_bytes 8 0 ++ to_bytes 4 (class_of (page_items values)) ≡ summary values
unfolding summary extent
summary-zero values e = rw e
