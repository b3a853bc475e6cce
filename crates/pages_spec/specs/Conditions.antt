-- The conditions of the refusals of pages and of spans.
use Rattle.std.specs.Prelude.{List, [], ◌∷◌, ℕ, ◌^◌, ◌<◌, ◌≡◌, ◌≤◌, length, ◌⊎◌}
use Rattle.totals_spec.specs.formats.Format.{binary64}
use Rattle.totals_spec.specs.sums.Totals.{limit}
use Rattle.totals_spec.specs.formats.Settings.{Settings}
use Rattle.totals_spec.specs.refusals.Conditions.{Condition, sum_conditions, BadSettings}
use Rattle.totals_spec.specs.refusals.Conditions.{BadSummand, Short, TooMany}
use Rattle.pages_spec.specs.Pages.{page_of, page_values, span_of}

-- ---- 12: bytes that are not the page of any values, or of more than 268,435,456; 13: a span that
-- starts above its end, or ends above the count

-- every value is a binary64 encoding
abbrev pub AllWords : List ℕ → Type 0
AllWords [] = Unit {0}
AllWords (x ∷ l) = (x < 2 ^ 64) × AllWords l

abbrev pub NoPage : List ℕ → Type 0
NoPage page = ¬ ((l : List ℕ) × AllWords l × (length l ≤ limit) × (page ≡ page_of l))

abbrev pub BadSpan : List ℕ → (start end : ℕ) → Type 0
BadSpan page start end = (end < start) ⊎ (length (page_values page) < end)

-- 2 of a page that is written: a destination shorter than the page would be
abbrev pub NoPageRoom : (values old : List ℕ) → Type 0
NoPageRoom l old = length old < length (page_of l)

-- the page's own, and then those of the span as a list of its own
abbrev pub page_conditions : Settings → ℕ → List ℕ → (start end : ℕ) → List Condition
page_conditions c u page start end =
    (12, NoPage page)
    ∷ (13, BadSpan page start end)
    ∷ sum_conditions binary64 c u (span_of start end (page_values page))

-- of the latter 4 alone can hold
abbrev pub page_numbers : Settings → ℕ → List ℕ → (start end : ℕ) → List Condition
page_numbers c u page start end =
    (12, NoPage page)
    ∷ (13, BadSpan page start end)
    ∷ (4, BadSettings binary64 c ⊎ BadSummand u)
    ∷ []

abbrev pub page_entry_conditions : Settings → ℕ → List ℕ → (start end : ℕ) → List ℕ → List Condition
page_entry_conditions c u page start end old = (2, Short old) ∷ page_conditions c u page start end

abbrev pub write_conditions : (values old : List ℕ) → List Condition
write_conditions l old =
    (2, NoPageRoom l old)
    ∷ (6, TooMany l)
    ∷ []
