-- What values are worth, counted in a format's least non-zero number, and how they lie beside a
-- number: at most it, at least it, and one value at most another.
use Rattle.std.specs.Prelude.{false, [], ◌*◌, ◌^◌, ◌+◌, Bool, leb, ℕ, T, not, ◌||◌}
use Rattle.totals_spec.specs.Basics.{Signed, plus_of, minus_of}
use Rattle.totals_spec.specs.formats.Decode.{Unpacked, zero_of, finite, infinity, nan}

-- ---- what figures are worth, counted in the least non-zero number

abbrev pub nothing : Signed
nothing = record { neg = false; mag = 0 }

abbrev pub worth : Unpacked → Signed
worth (zero_of s) = nothing
worth (finite s k m) = record { neg = s; mag = m * 2 ^ k }
worth (infinity s) = nothing
worth (nan s g m) = nothing

-- x is at most y
abbrev pub at_most : Signed → Signed → Bool
at_most x y = leb (plus_of x + minus_of y) (plus_of y + minus_of x)

-- ---- amounts

-- x least numbers, in d-th parts of one
abbrev pub parts : ℕ → Signed → Signed
parts d x = record { neg = x.neg; mag = d * x.mag }

-- ---- doubles and infinities; a NaN bounds nothing

-- at most x d-th parts, and at least
abbrev pub NotAbove : (d : ℕ) → Unpacked → Signed → Type 0
NotAbove d (zero_of s) x = T (at_most nothing x)
NotAbove d (finite s k m) x = T (at_most (parts d (worth (finite s k m))) x)
NotAbove d (infinity s) x = T s
NotAbove d (nan s g m) x = ⊥

abbrev pub NotBelow : (d : ℕ) → Unpacked → Signed → Type 0
NotBelow d (zero_of s) x = T (at_most x nothing)
NotBelow d (finite s k m) x = T (at_most x (parts d (worth (finite s k m))))
NotBelow d (infinity s) x = T (not s)
NotBelow d (nan s g m) x = ⊥

-- the one is at most the other
abbrev pub Ordered : Unpacked → Unpacked → Type 0
Ordered x (zero_of t) = NotAbove 1 x nothing
Ordered x (finite t k m) = NotAbove 1 x (worth (finite t k m))
Ordered (zero_of s) (infinity t) = T (not t)
Ordered (finite s j n) (infinity t) = T (not t)
Ordered (infinity s) (infinity t) = T (not t || s)
Ordered (nan s g m) (infinity t) = ⊥
Ordered x (nan t h n) = ⊥
