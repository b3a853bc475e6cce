use Rattle.totals_spec.proofs.ten_bytes.Totals.{extended-fits}
use Rattle.promises.proofs.eighty_bits.fits.Goals as goal

pub returns : goal.returns
returns c = extended-fits
