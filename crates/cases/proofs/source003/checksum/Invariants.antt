-- The number is a remainder by 65,521.
use Rattle.std.proofs.Common.{◌<◌}
use Rattle.cases.proofs.source003.checksum.Given as goal

abbrev pub invariant-loop-byte : goal.invariant-loop-byte
invariant-loop-byte l = l.h < 65521
