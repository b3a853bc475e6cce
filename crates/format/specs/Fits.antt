-- What can be encoded.
pub use Rattle.totals_spec.specs.formats.Encodes.{Encodes}
