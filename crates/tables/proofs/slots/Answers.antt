use Rattle.std.proofs.Common.{arith}
use Rattle.tables.proofs.slots.Goals as goal

pub slot-requires : goal.slot-requires
slot-requires c = omega arith
