-- What a byte entry leaves behind: the number that it gives, and the buffer. And a format and
-- settings from an entry's numbers, in its order.
use Rattle.std.specs.Prelude.{◌≡◌, true, false, List, ℕ, ◌^◌, ◌<◌, ◌≤◌, length, ℤ, Option, Result}
use Rattle.std.specs.Prelude.{Ok, Err}
use Rattle.std.proofs.Math.Option.{none, some}
use Rattle.totals_spec.specs.formats.Format.{Format}
use Rattle.totals_spec.specs.formats.Settings.{Settings}
use Rattle.totals_spec.specs.sums.Totals.{Answer}
use Rattle.totals_spec.specs.entries.Bytes.{Entry}
use Rattle.totals_spec.specs.pence.Entry.{FigureEntry}
use Rattle.totals_spec.specs.entries.Words.{misnamed, format_by}
use Rattle.format.specs.Kinds.{bias_in}
use Rattle.format.specs.declared.Format as code
use Rattle.format.specs.Formats.{format_of}
use Rattle.totals.specs.declared.entry.NamedFormat.{NamedFormat}
use Rattle.totals.specs.declared.refusal.Refusal.{Refusal}
use Rattle.totals.specs.declared.refusal.Refusal.TheVariants.{NoSuchFormat}

pub record Enters (e : Entry) (code : ℕ) (buffer : List ℕ) : Type 0 where
  pub code_is : code ≡ e.code
  pub buffer-is : buffer ≡ e.buffer

-- the same of an entry that lends the place of one figure
pub record EntersFigure (e : FigureEntry) (code : ℕ) (figure : ℤ) : Type 0 where
  pub code_is : code ≡ e.code
  pub figure-is : figure ≡ e.figure

-- a record that can be entered: the buffer has room for it, and each field fits where it is written
pub record Fits (a : Answer) (buffer : List ℕ) : Type 0 where
  pub room : 24 ≤ length buffer
  pub number : a.refusal < 256
  pub place : a.place < 2 ^ 32
  pub flags : a.flags < 256
  pub side : a.side < 4

-- the same of an accepted record of kind 4
pub record FitsTens (a : Answer) (buffer : List ℕ) : Type 0 where
  pub room : 32 ≤ length buffer
  pub flags : a.flags < 256
  pub side : a.side < 4

abbrev pub format_with : (kind exponent_bits width : ℕ) → Option ℤ → Format
format_with k e w n = record { kind = k; E = e; W = w; named = bias_in n }

abbrev pub format_from : (kind exponent_bits width : ℕ) → Format
format_from k e w = record { kind = k; E = e; W = w; named = none }

abbrev pub biased_from : (kind exponent_bits width : ℕ) (bias : ℤ) → Format
biased_from k e w b = record { kind = k; E = e; W = w; named = some b }

abbrev pub settings_from :
    (rounding tininess nan_propagation default_nan_negative : ℕ)
    (flush_to_zero denormals_are_zero saturate precision : ℕ) → Settings
settings_from r t n s f d a q = record {
  rounding = r;
  tininess = t;
  nan_propagation = n;
  default_nan_sign = s;
  flush_to_zero = f;
  denormals_are_zero = d;
  saturate = a;
  precision = q;
}

-- a format that is named as a whole, or not
abbrev pub Named : NamedFormat → Result code.Format Refusal → Type 0
Named n (Ok f) =
    (misnamed n.bias_named n.bias ≡ false)
    × (format_of f ≡ format_by n.kind n.exponent_bits n.width n.bias_named n.bias)
Named n (Err r) = (misnamed n.bias_named n.bias ≡ true) × (r ≡ NoSuchFormat)
