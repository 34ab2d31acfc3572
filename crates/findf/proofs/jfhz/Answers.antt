use Rattle.std.proofs.Common.{arith}
use Rattle.findf.specs.Findf.{jfhz_of}
use Rattle.findf.proofs.Cut.{cut_of}
use Rattle.findf.proofs.jfhz.Goals as goal

pub truncating_f32_to_u64-requires-clause-lower_bound : goal.truncating_f32_to_u64-requires-clause-lower_bound
truncating_f32_to_u64-requires-clause-lower_bound c = (cut_of c.args.freq c.requires).above

pub truncating_f32_to_u64-requires-clause-upper_bound : goal.truncating_f32_to_u64-requires-clause-upper_bound
truncating_f32_to_u64-requires-clause-upper_bound c = (cut_of c.args.freq c.requires).under

pub overflow_cast-result : goal.overflow_cast-result
overflow_cast-result c = omega (arith, (cut_of c.args.freq c.requires).small, c.truncating_f32_to_u64.ensures)

pub returns : goal.returns
unfolding jfhz_of
returns c = (c.truncating_f32_to_u64.ensures, omega (arith, (cut_of c.args.freq c.requires).small, c.truncating_f32_to_u64.ensures))
