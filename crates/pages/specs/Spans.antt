-- A span of a page, by its bytes, or why there is none.
use Rattle.std.specs.Prelude.{◌≡◌, List, ℕ, ◌%◌, length}
use Rattle.totals_spec.specs.entries.Bytes.{values_in}
use Rattle.pages_spec.specs.Pages.{page_refusal, page_values, span_of}
use Rattle.totals.specs.declared.refusal.Refusal.{Refusal}
use Rattle.totals.specs.Refusal.{number_of, place_of}

-- whole values, which are those of the span
pub record SpanIn (page : List ℕ) (start end : ℕ) (bytes : List ℕ) : Type 0 where
  pub accepted : page_refusal page start end ≡ 0
  pub even : length bytes % 8 ≡ 0
  pub values_are : values_in bytes ≡ span_of start end (page_values page)

pub record RefusesSpan (page : List ℕ) (start end : ℕ) (r : Refusal) : Type 0 where
  pub number_is : number_of r ≡ page_refusal page start end
  pub placeless : place_of r ≡ 0
