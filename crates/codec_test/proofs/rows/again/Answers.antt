-- What is decoded can be encoded.
use Rattle.format.proofs.Layouts.{layout_bounds}
use Rattle.binary.proofs.Encodable.{decode-encodes}
use Rattle.codec_test.proofs.rows.again.Goals as goal

pub encode-requires : goal.encode-requires
encode-requires c = rw c.decode.ensures (decode-encodes _ (layout_bounds c.args.layout) c.args.bits)
