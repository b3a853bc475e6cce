-- The NaN that the rule selects can be encoded.
use Rattle.totals_spec.specs.formats.Format.{Format}
use Rattle.totals_spec.specs.formats.Settings.{Settings, Propagation, signaling_first, first_operand, larger_significand, default_nan, propagation_of}
use Rattle.totals_spec.specs.formats.Decode.{Unpacked}
use Rattle.totals_spec.proofs.formats.Encodable.{quiet-encodes, default-encodes}
use Rattle.format.specs.Fits.{Encodes}
use Rattle.binary.specs.Nans.{selected_by, selected_of}
pub use Rattle.totals_spec.proofs.formats.Encodable.{decode-encodes, choose-encodes}

pub selected-encodes : (format : Format) (settings : Settings) (v : Unpacked) → Encodes format v → Encodes format (selected_of settings v)
unfolding selected_of
selected-encodes format settings v h = go (propagation_of settings.nan_propagation)
  where
    go : (r : Propagation) → Encodes format (selected_by r settings v)
    go signaling_first = quiet-encodes format v h
    go first_operand = quiet-encodes format v h
    go larger_significand = quiet-encodes format v h
    go default_nan = default-encodes format settings
