-- The refusals of a contribution, test by test.
use Rattle.std.proofs.Common.{◌≡◌, sym, ap, ◌∙◌, refl, subst, inl, inr, ℕ, Bool, true, false, not, ◌&&◌, ◌||◌, List, [], ◌∷◌, ◌++◌}
use Rattle.std.proofs.Common.{length, ◌≤◌, ◌<◌, arith}
use Rattle.std.specs.Prelude.{Result, Ok, Err}
use Rattle.totals_spec.specs.Basics.{any}
use Rattle.totals_spec.specs.pence.Pence.{not_number}
use Rattle.totals.specs.declared.refusal.Refusal.{Refusal}
use Rattle.totals.specs.declared.refusal.Refusal.TheVariants.{NotFinite}
use Rattle.totals.specs.Refusal.{number_of, place_of}
use Rattle.totals.specs.Asked.{RefusesIf}
use Rattle.totals.proofs.Answers.{Tests, test, no_test, stopped}
use Rattle.targets_spec.specs.contribution.Contribution.{refused_contribution, contribution, contribution_refusal, found, least_rank}
use Rattle.format.specs.Kinds as kinds
use Rattle.format.specs.declared.kind.Kind.{Kind}
use Rattle.format.specs.contracts.kind.Kind as the
use denote.Enum.Bare.{sameb}
use Rattle.format.specs.Modes.{switch_number}
use Rattle.format.specs.Environments.{env_of}
use Rattle.format.specs.Layouts.{layout_of}
use Rattle.format.specs.declared.layout.Layout.{Layout}
use Rattle.format.specs.declared.env.Env.{Env}
use lib.Dec.{leb, eqb}
use borrow.Author.Tests.{le-leb, lt-leb, leb-false}
use Rattle.totals_spec.specs.formats.Format.{Format, valid_format}
use Rattle.totals_spec.specs.formats.Settings.{Settings, valid_settings}
use Rattle.totals_spec.specs.sums.Totals.{limit, stray, refuse_if}
use Rattle.targets.specs.Contributions.{contribution_numbers, FiniteList}

-- ---- the kind, and the two settings, as the code tests them

kind-number : (k : Kind) → eqb (kinds.number_of k) 0 ≡ sameb the.the_type k Kind.Ieee
kind-number Kind.Ieee = refl
kind-number Kind.NoInf = refl
kind-number Kind.Fnuz = refl
kind-number Kind.Finite = refl

pub kind-told : (l : Layout) (f : Format) → layout_of l ≡ f → eqb f.kind 0 ≡ sameb the.the_type l.shape.kind Kind.Ieee
kind-told l f is = subst (λ (g : Format). eqb g.kind 0 ≡ sameb the.the_type l.shape.kind Kind.Ieee) is (kind-number l.shape.kind)

unset : (a b : Bool) → (eqb (switch_number a) 0 && eqb (switch_number b) 0) ≡ not (a || b)
unset true b = refl
unset false true = refl
unset false false = refl

pub kept-told : (e : Env) (c : Settings) → env_of e ≡ c
    → (eqb c.flush_to_zero 0 && eqb c.denormals_are_zero 0) ≡ not (e.flush_to_zero || e.denormals_are_zero)
kept-told e c is =
    subst (λ (x : Settings). (eqb x.flush_to_zero 0 && eqb x.denormals_are_zero 0) ≡ not (e.flush_to_zero || e.denormals_are_zero)) is
    (unset e.flush_to_zero e.denormals_are_zero)

-- ---- those that do not look at the elements

module _ (f : Format) (c : Settings) (n : ℕ) where
  pub no-format : valid_format f ≡ false → 3 ≡ contribution_numbers f c n
  unfolding contribution_numbers
  no-format e = rw e

  module _ (valid : valid_format f ≡ true) where
    pub other-kind : eqb f.kind 0 ≡ false → 3 ≡ contribution_numbers f c n
    unfolding contribution_numbers
    other-kind e = rw (valid, e)

    module _ (kind : eqb f.kind 0 ≡ true) where
      pub out-of-range : valid_settings f c ≡ false → 4 ≡ contribution_numbers f c n
      unfolding contribution_numbers
      out-of-range e = rw (valid, kind, e)

      module _ (allowed : valid_settings f c ≡ true) where
        pub flushing : (eqb c.flush_to_zero 0 && eqb c.denormals_are_zero 0) ≡ false → 4 ≡ contribution_numbers f c n
        unfolding contribution_numbers
        flushing e = rw (valid, kind, allowed, e)

        module _ (kept : (eqb c.flush_to_zero 0 && eqb c.denormals_are_zero 0) ≡ true) where
          pub too-long : limit ≤ n → 6 ≡ contribution_numbers f c n
          unfolding contribution_numbers
          too-long h = rw (valid, kind, allowed, kept, le-leb limit n h)

          pub short : n < limit → contribution_numbers f c n ≡ 0
          unfolding contribution_numbers
          short h = rw (valid, kind, allowed, kept, lt-leb limit n h)

-- ---- those that look at the elements, by what a scan has met

pub finite-list : (f : Format) (l : List ℕ) {met : Bool} (r : Result (Unit {0}) Refusal) → any (stray f) l ≡ false → any (not_number f) l ≡ met
    → RefusesIf met NotFinite r → FiniteList f l r
finite-list f l (Ok x) s n h = (s, n ∙ h)
finite-list f l (Err e) s n h = subst (λ (x : Refusal). FiniteList f l (Err x)) (sym h.1) (inr (s, n ∙ h.0, refl))

-- ---- the record, by the refusals

contribution-tests : (f : Format) (c : Settings) (n : ℕ)
    → Tests (λ t. refuse_if (not (valid_format f && eqb f.kind 0)) 3
    (refuse_if (not (valid_settings f c && (eqb c.flush_to_zero 0 && eqb c.denormals_are_zero 0))) 4 (refuse_if (leb limit n) 6 t)))
contribution-tests f c n =
    test (not (valid_format f && eqb f.kind 0)) 3 _ (λ e. omega (arith, e)) (λ e. omega (arith, e))
    (test (not (valid_settings f c && (eqb c.flush_to_zero 0 && eqb c.denormals_are_zero 0))) 4 _ (λ e. omega (arith, e)) (λ e. omega (arith, e))
    (test (leb limit n) 6 _ (λ e. omega (arith, e)) (λ e. omega (arith, e)) no_test))

module _ (f : Format) (c : Settings) (l : List ℕ) (wanted : ℕ) where
  -- n is the length of l, as the code counts it
  pub contribution-stopped : (n : ℕ) → length l ≡ n → (e : Refusal) → number_of e ≡ contribution_numbers f c n
      → refused_contribution (number_of e) (place_of e) ≡ contribution f c l wanted
  unfolding contribution_numbers contribution contribution_refusal
  contribution-stopped n long e q = rw long (stopped _ (contribution-tests f c n) refused_contribution _ _ e q _)

  module _ (e : contribution_numbers f c (length l) ≡ 0) where
    tested : (t : ℕ) → refuse_if (not (valid_format f && eqb f.kind 0)) 3
        (refuse_if (not (valid_settings f c && (eqb c.flush_to_zero 0 && eqb c.denormals_are_zero 0))) 4 (refuse_if (leb limit (length l)) 6 t)) ≡ t
    unfolding contribution_numbers
    tested = (contribution-tests f c (length l)).passes e

    looked : contribution_refusal f c l wanted ≡ refuse_if (any (stray f) (l ++ (wanted ∷ []))) 7 (refuse_if (any (not_number f) (l ++ (wanted ∷ []))) 15 0)
    unfolding contribution_refusal
    looked = tested _

    pub looked-refused : (r : Refusal) → FiniteList f (l ++ (wanted ∷ [])) (Err r)
        → refused_contribution (number_of r) (place_of r) ≡ contribution f c l wanted
    unfolding contribution
    looked-refused r (inl (some, is)) = rw (is, looked, some)
    looked-refused r (inr (none, odd, is)) = rw (is, looked, none, odd)

    module _ (none : any (stray f) (l ++ (wanted ∷ [])) ≡ false) (finite : any (not_number f) (l ++ (wanted ∷ [])) ≡ false) where
      pub looked-passed : contribution_refusal f c l wanted ≡ 0
      looked-passed = looked ∙ rw (none, finite)

      pub searched-for : found f (least_rank f c l wanted) ≡ contribution f c l wanted
      unfolding contribution
      searched-for = rw looked-passed

-- of what is the same
pub contribution-of : (l : List ℕ) (wanted : ℕ) {f g : Format} {c d : Settings} → f ≡ g → c ≡ d → contribution f c l wanted ≡ contribution g d l wanted
contribution-of l wanted {g = g} {c = c} e h = ap (λ (x : Format). contribution x c l wanted) e ∙ ap (λ (x : Settings). contribution g x l wanted) h

last-zero : (a b d : Bool) → refuse_if a 3 (refuse_if b 4 (refuse_if d 6 0)) ≡ 0 → d ≡ false
last-zero true b d e = absurd (omega (arith, e))
last-zero false true d e = absurd (omega (arith, e))
last-zero false false true e = absurd (omega (arith, e))
last-zero false false false e = refl

-- there is room for one more element
pub room-for : (f : Format) (c : Settings) (n : ℕ) → contribution_numbers f c n ≡ 0 → n < limit
unfolding contribution_numbers
room-for f c n e = leb-false limit n (last-zero _ _ _ e)
