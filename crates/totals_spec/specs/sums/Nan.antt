-- The NaN of a list that holds one (`default_nan`, `choose` and `select_all` of `nan.rs`).
use Rattle.std.specs.Prelude.{false, [], ℕ, Bool, not, ◌&&◌, ◌||◌, ltb, eqb, true, cond, List, ◌∷◌}
use Rattle.totals_spec.specs.Basics.{is_set}
use Rattle.totals_spec.specs.formats.Settings.{Settings, Propagation, signaling_first}
use Rattle.totals_spec.specs.formats.Settings.{first_operand, larger_significand, default_nan}
use Rattle.totals_spec.specs.formats.Settings.{propagation_of}
use Rattle.totals_spec.specs.formats.Decode.{Unpacked, nan, zero_of, finite, infinity}

unfoldable pub default_nan_of : Settings → Unpacked
default_nan_of c = nan (is_set c.default_nan_sign) false 0

-- the larger payload, and between equal ones the positive
abbrev pub larger : Bool → ℕ → Bool → ℕ → Bool
larger s m t n = ltb n m || (eqb m n && not s && t)

-- whether the earlier of two NaNs stays: sign, signaling, payload of the earlier, then of the later
abbrev pub stays_nan : Propagation → Bool → Bool → ℕ → Bool → Bool → ℕ → Bool
stays_nan signaling_first s g m t h n = g || not h
stays_nan first_operand s g m t h n = true
stays_nan larger_significand s true m t false n = false
stays_nan larger_significand s false m t true n = true
stays_nan larger_significand s true m t true n = larger s m t n
stays_nan larger_significand s false m t false n = larger s m t n
stays_nan default_nan s g m t h n = true

abbrev pub choose : Propagation → Unpacked → Unpacked → Unpacked
choose r (nan s g m) (nan t h n) = cond (stays_nan r s g m t h n) (nan s g m) (nan t h n)
choose r (nan s g m) (zero_of t) = nan s g m
choose r (nan s g m) (finite t k n) = nan s g m
choose r (nan s g m) (infinity t) = nan s g m
choose r (zero_of s) y = y
choose r (finite s k m) y = y
choose r (infinity s) y = y

-- the pick of a list is the pick of each operand against the earlier picks
abbrev pub chosen_of : Propagation → Unpacked → List Unpacked → Unpacked
chosen_of r x [] = x
chosen_of r x (y ∷ ys) = chosen_of r (choose r x y) ys

abbrev pub quiet : Unpacked → Unpacked
quiet (nan s g m) = nan s false m
quiet (zero_of s) = zero_of s
quiet (finite s k m) = finite s k m
quiet (infinity s) = infinity s

abbrev pub by_rule : Propagation → Settings → List Unpacked → Unpacked
by_rule signaling_first c l = quiet (chosen_of signaling_first (zero_of false) l)
by_rule first_operand c l = quiet (chosen_of first_operand (zero_of false) l)
by_rule larger_significand c l = quiet (chosen_of larger_significand (zero_of false) l)
by_rule default_nan c l = default_nan_of c

-- the NaN of operands in their order, at least one of which is a NaN
unfoldable pub select_all : Settings → List Unpacked → Unpacked
select_all c l = by_rule (propagation_of c.nan_propagation) c l
