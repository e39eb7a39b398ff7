-- `syndrome::lanes::count` meets its contract: the number has the eight bytes. Assumes nothing.
use mathlib.Core.Path.{ap, ◌∙◌}
use Rattle.graph.specs.Filling.{erasures}
use Rattle.syndrome.specs.Lanes.{bytes_of}
use Rattle.syndrome.proofs.Flags.{read}
use Rattle.syndrome.proofs.lanes.count.Goals as goal

pub returns : goal.returns
returns c = c.flags.ensures ∙ ap erasures (ap (bytes_of 8) c.from_le_bytes.ensures ∙ read _ c.told-eight c.fits-eight)
