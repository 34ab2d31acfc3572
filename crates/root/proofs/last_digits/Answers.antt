use lib.Ieee.{of_bits, binary64}
use Rattle.root.proofs.Floats.{number}
use Rattle.root.proofs.last_digits.Goals as goal

pub float_to_bits-result : goal.float_to_bits-result
float_to_bits-result c = number (of_bits binary64 0) _ c.if-h.true
