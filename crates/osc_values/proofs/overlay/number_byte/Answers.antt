use Rattle.std.proofs.Common.{sym}
use Rattle.osc_values.proofs.Stores.{byte-high}
use Rattle.osc_values.proofs.overlay.number_byte.Goals as goal

pub returns-else-index-lt8 : goal.returns-else-index-lt8
returns-else-index-lt8 c = sym (byte-high c.args.index c.args.number c.if-index-lt8.false c.ranges.number.fits)
