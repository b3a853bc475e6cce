-- What is decoded can be encoded.
use Rattle.format.proofs.Layouts.{layout_bounds}
use Rattle.binary.proofs.Encodable.{decode-encodes}
use Rattle.codec_test.proofs.rows.nan_at.Goals as goal

pub returns-in-Nan : goal.returns-in-Nan
returns-in-Nan c = rw (← c.decode.ensures, c.in-Nan.is) at (decode-encodes _ (layout_bounds c.args.layout) c.args.bits)
