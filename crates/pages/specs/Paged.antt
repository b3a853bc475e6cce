-- What opening a page tells, what a summary is in the code, and what writing a part of a page
-- leaves.
use Rattle.std.specs.Prelude.{◌≡◌, true, false, ◌||◌, Option, Some, None, Result, Ok, Err, List}
use Rattle.std.specs.Prelude.{◌++◌, ℕ, ◌+◌, ◌*◌, ◌≤◌, ◌<◌, max, length, take, drop}
use Rattle.totals_spec.specs.Basics.{any}
use Rattle.totals_spec.specs.entries.Bytes.{to_bytes}
use Rattle.pages_spec.specs.Pages as spec
use Rattle.totals_spec.specs.terms.Terms.{Item, is_nan_item, is_infinite, is_zero, terms, top_of}
use Rattle.pages_spec.proofs.PartsOfAPage.{Stands}
use Rattle.pages.specs.declared.PageError.{PageError}
use Rattle.pages.specs.declared.PageError.TheVariants.{NoRoom, TooMany}
use Rattle.pages.specs.declared.Content.{Content}
use Rattle.pages.specs.declared.Summary.{Summary}

abbrev pub AllStand : (n : ℕ) → List ℕ → (k : ℕ) → Type 0
AllStand n page k = (g : ℕ) → g < k → Stands n page g

-- where the highest bit of some items lies, and what is among them
abbrev pub seen_among : List Item → Content
seen_among l = record {
  top = top_of (terms l);
  nan = any is_nan_item l;
  infinite = any (is_infinite false) l || any (is_infinite true) l;
  zero = any (is_zero false) l || any (is_zero true) l;
}

abbrev pub seen_of : List ℕ → Content
seen_of l = seen_among (spec.page_items l)

-- what is seen in two lists together
abbrev pub both : Content → Content → Content
both s t = record {
  top = max s.top t.top;
  nan = s.nan || t.nan;
  infinite = s.infinite || t.infinite;
  zero = s.zero || t.zero;
}

pub record Summarized (values : List ℕ) (s : Summary) : Type 0 where
  pub bytes : to_bytes 8 s.extent ++ to_bytes 4 s.class ≡ spec.summary values
  pub class-less : s.class < 8

-- r is the number for which P holds, or there is none
abbrev pub Counts : (ℕ → Type 0) → Option ℕ → Type 0
Counts P (Some n) = P n
Counts P None = (n : ℕ) → ¬ P n

-- the last word of a trailer: 64, and above it the number of the letters CPG1 or CPG2
abbrev pub short_ending : ℕ
short_ending = 3550895079897956416

abbrev pub long_ending : ℕ
long_ending = 3622952673935884352

-- the words before it, of the short trailer of n values, and of the long one
abbrev pub ShortSizes : (sizes n : ℕ) → Type 0
ShortSizes sizes n = (n ≤ spec.short_most) × (sizes ≡ 8 * n + 4294967296 * n)

abbrev pub LongSizes : (offset count n : ℕ) → Type 0
LongSizes offset count n = (spec.short_most < n) × (n ≤ spec.long_most) × (offset ≡ 8 * n)
    × (count ≡ n)

-- a page ends in the trailer of n values
abbrev pub Trails : List ℕ → ℕ → Type 0
Trails page n =
    (n ≤ spec.long_most) × (spec.last_bytes (spec.trailer_length n) page ≡ spec.trailer n)

abbrev pub Opens : List ℕ → Option ℕ → Type 0
Opens page (Some n) = (spec.opens page ≡ true) × (n ≡ spec.count_in page)
Opens page None = spec.opens page ≡ false

-- the first k bytes of `new` are the page's; beyond the page it is as `old`
pub record Fills (page : List ℕ) (k : ℕ) (old new : List ℕ) : Type 0 where
  pub front : take k new ≡ take k page
  pub beyond : drop (length page) new ≡ drop (length page) old
  pub long : length new ≡ length old

-- the number that tells of a page written or not (totals_spec, `page_written`): 256 times its
-- length, or the refusal
abbrev pub code_of : Result ℕ PageError → ℕ
code_of (Ok n) = 256 * n
code_of (Err NoRoom) = 2
code_of (Err TooMany) = 6
