-- What an accepted call of a byte entry has written.
use Rattle.std.proofs.Common.{◌≡◌, ◌≢◌, ℕ, ◌≤◌, ◌<◌, List, sym, ap, ◌∙◌, subst}
use Rattle.std.specs.Prelude.{true, ◌||◌}
use Rattle.totals_spec.specs.Basics.{any}
use Rattle.totals_spec.specs.entries.Bytes.{values_in}
use Rattle.totals_spec.specs.ten_bytes.Extended.{extended, tens_in, extended_terms, extended_dot_terms, extended_sum_answer, extended_dot_answer}
use Rattle.totals_spec.specs.ten_bytes.Extended.{subnormal_extended, sum_call, dot_call}
use Rattle.totals_spec.specs.formats.Format.{Format, grid}
use Rattle.totals_spec.specs.chain.Limit.{ceil_div, most_passes}
use Rattle.totals_spec.specs.sums.Promises.{AllFinite}
use Rattle.totals_spec.specs.ten_bytes.Promises.{AllNumbers, ReadsBack32}
use Rattle.totals_spec.specs.entries.Promises.{ReadsBack}
use Rattle.totals_spec.specs.formats.Settings.{Settings, summand_of}
use Rattle.totals_spec.specs.terms.Terms.{exact_sum}
use Rattle.totals_spec.specs.sums.Totals.{on_grid, is_square, sum_terms, sum_answer, dot_terms, dot_answer}
use Rattle.totals_spec.proofs.ten_bytes.Calls.{other-kinds, extended-read-back}
use Rattle.totals_spec.proofs.entries.ReadBack.{entry-read-back}
use Rattle.totals_spec.proofs.chain.PassesOfRecords.{sum-limit, dot-limit}
use Rattle.totals_spec.proofs.ten_bytes.Totals.{extended-limit, extended-most}
use Rattle.promises.specs.Special.{some_subnormal}
use Rattle.promises.proofs.roundings.SumsRoundedOnce.{extended-rounded-once}
use Rattle.totals.specs.Entered.{Enters}
use Rattle.promised_calls.specs.Entries.{passes_in, passes_in_tens}
use Rattle.promised_calls.specs.Passes.{limit_at, limit_of}
use Rattle.promised_calls.specs.Rounded.{exact, exact_dot, grid_for, HoldsOnce, HoldsTensOnce}
use Rattle.promised_calls.proofs.Exacts.{sum-rounded, dot-rounded}
use Rattle.promised_calls.proofs.Entered.{sum-zero, dot-zero, sum-zero-tens, dot-zero-tens}

module _ (f : Format) (c : Settings) (u : ℕ) (bytes old : List ℕ) (number : ℕ) (new : List ℕ) (is : Enters (sum_call f c u bytes old) number new) where
  sum-reads : f.kind ≢ 4 → number ≡ 0 → ReadsBack (sum_answer f c u (values_in bytes)) old new
  sum-reads h e =
      let same = (other-kinds f c h).0 u bytes old in
      subst (ReadsBack (sum_answer f c u (values_in bytes)) old) (sym (is.buffer-is ∙ ap (λ x. x.buffer) same))
      (entry-read-back.0 f c u bytes old (sym (is.code_is ∙ ap (λ x. x.code) same) ∙ e))

  sum-reads-tens : f.kind ≡ 4 → number ≡ 0 → ReadsBack32 (extended_sum_answer f c u (tens_in bytes)) old new
  sum-reads-tens h e =
      subst (ReadsBack32 (extended_sum_answer f c u (tens_in bytes)) old) (sym is.buffer-is)
      (extended-read-back.0 f c u bytes old h (sym is.code_is ∙ e))

  pub sum-limit-written : f.kind ≢ 4 → number ≡ 0 → passes_in new ≤ limit_of f (sum_terms f c (summand_of u) (values_in bytes))
  unfolding most_passes ceil_div
  sum-limit-written h e = rw (sum-reads h e).passes (sum-limit f c u (values_in bytes))

  pub sum-limit-tens : f.kind ≡ 4 → number ≡ 0 → passes_in_tens new ≤ limit_at 64 (extended_terms c (summand_of u) (tens_in bytes))
  unfolding ceil_div
  sum-limit-tens h e = rw (sum-reads-tens h e).passes (extended-limit.0 f c u (tens_in bytes))

  pub sum-most-tens : f.kind ≡ 4 → number ≡ 0 → u ≤ 1 → passes_in_tens new ≤ 52
  sum-most-tens h e b = rw (sum-reads-tens h e).passes (extended-most.0 f c u (tens_in bytes) b)

  pub square-most-tens : f.kind ≡ 4 → number ≡ 0 → passes_in_tens new ≤ 104
  square-most-tens h e = rw (sum-reads-tens h e).passes (extended-most.1 f c u (tens_in bytes))

  pub sum-holds : f.kind ≢ 4 → number ≡ 0 → AllFinite f (values_in bytes) → 0 < (exact f c u (values_in bytes)).mag
      → HoldsOnce f c (grid_for f u) (some_subnormal f (values_in bytes)) (exact f c u (values_in bytes)) old new
  sum-holds h e n some = record {
    answer = sum_answer f c u (values_in bytes);
    reads = sum-reads h e;
    once = sum-rounded f c u (values_in bytes) (sum-zero f c u bytes old number new is h e) n some;
  }

  pub sum-holds-tens : f.kind ≡ 4 → number ≡ 0 → AllNumbers (tens_in bytes)
      → let square = is_square (summand_of u) in
      let x = on_grid extended square (exact_sum (extended_terms c (summand_of u) (tens_in bytes))) in
      0 < x.mag → HoldsTensOnce c (grid extended square) (any subnormal_extended (tens_in bytes)) x old new
  sum-holds-tens h e n some = record {
    answer = extended_sum_answer f c u (tens_in bytes);
    reads = sum-reads-tens h e;
    once = extended-rounded-once.0 f c u (tens_in bytes) (sum-zero-tens f c u bytes old number new is h e) n some;
  }

module _ (f : Format) (c : Settings) (l r old : List ℕ) (number : ℕ) (new : List ℕ) (is : Enters (dot_call f c l r old) number new) where
  dot-reads : f.kind ≢ 4 → number ≡ 0 → ReadsBack (dot_answer f c (values_in l) (values_in r)) old new
  dot-reads h e =
      let same = (other-kinds f c h).1 l r old in
      subst (ReadsBack (dot_answer f c (values_in l) (values_in r)) old) (sym (is.buffer-is ∙ ap (λ x. x.buffer) same))
      (entry-read-back.1 f c l r old (sym (is.code_is ∙ ap (λ x. x.code) same) ∙ e))

  dot-reads-tens : f.kind ≡ 4 → number ≡ 0 → ReadsBack32 (extended_dot_answer f c (tens_in l) (tens_in r)) old new
  dot-reads-tens h e =
      subst (ReadsBack32 (extended_dot_answer f c (tens_in l) (tens_in r)) old) (sym is.buffer-is)
      (extended-read-back.1 f c l r old h (sym is.code_is ∙ e))

  pub dot-limit-written : f.kind ≢ 4 → number ≡ 0 → passes_in new ≤ limit_of f (dot_terms f c (values_in l) (values_in r))
  unfolding most_passes ceil_div
  dot-limit-written h e = rw (dot-reads h e).passes (dot-limit f c (values_in l) (values_in r))

  pub dot-limit-tens : f.kind ≡ 4 → number ≡ 0 → passes_in_tens new ≤ limit_at 64 (extended_dot_terms c (tens_in l) (tens_in r))
  unfolding ceil_div
  dot-limit-tens h e = rw (dot-reads-tens h e).passes (extended-limit.1 f c (tens_in l) (tens_in r))

  pub dot-most-tens : f.kind ≡ 4 → number ≡ 0 → passes_in_tens new ≤ 104
  dot-most-tens h e = rw (dot-reads-tens h e).passes (extended-most.2 f c (tens_in l) (tens_in r))

  pub dot-holds : f.kind ≢ 4 → number ≡ 0 → AllFinite f (values_in l) → AllFinite f (values_in r)
      → 0 < (exact_dot f c (values_in l) (values_in r)).mag
      → HoldsOnce f c (grid f true) (some_subnormal f (values_in l) || some_subnormal f (values_in r))
      (exact_dot f c (values_in l) (values_in r)) old new
  dot-holds h e n m some = record {
    answer = dot_answer f c (values_in l) (values_in r);
    reads = dot-reads h e;
    once = dot-rounded f c (values_in l) (values_in r) (dot-zero f c l r old number new is h e) n m some;
  }

  pub dot-holds-tens : f.kind ≡ 4 → number ≡ 0 → AllNumbers (tens_in l) → AllNumbers (tens_in r)
      → let x = on_grid extended true (exact_sum (extended_dot_terms c (tens_in l) (tens_in r))) in
      0 < x.mag
      → HoldsTensOnce c (grid extended true) (any subnormal_extended (tens_in l) || any subnormal_extended (tens_in r)) x old new
  dot-holds-tens h e n m some = record {
    answer = extended_dot_answer f c (tens_in l) (tens_in r);
    reads = dot-reads-tens h e;
    once = extended-rounded-once.1 f c (tens_in l) (tens_in r) (dot-zero-tens f c l r old number new is h e) n m some;
  }
