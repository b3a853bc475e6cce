-- The NaN that is chosen can be encoded.
use Rattle.format.specs.Layouts.{layout_of}
use Rattle.format.specs.Fits.{Encodes}
use Rattle.binary.specs.Nans.{nan_of}
use Rattle.binary.proofs.Encodable.{choose-encodes, selected-encodes}
use Rattle.codec_test.proofs.rows.chosen.Goals as goal

pub encode-requires : goal.encode-requires
encode-requires c =
    let f = layout_of c.args.layout in
    let first : Encodes f (nan_of c.select-first.result) = rw c.select-first.ensures c.requires.0 in
    rw (c.selected.ensures, c.select-nan.ensures) (selected-encodes f _ _ (choose-encodes f _ _ _ first c.requires.1))
