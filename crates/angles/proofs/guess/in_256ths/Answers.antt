use lib.Ieee.{add, of_bits, to_bits, binary64}
use lib.Bits.{mask_lt}
use Rattle.angles.proofs.GridLaws.{not_nan_right}
use Rattle.angles.proofs.guess.in_256ths.Goals as goal

pub float_to_bits-result : goal.float_to_bits-result
float_to_bits-result c = not_nan_right (of_bits binary64 0) (add binary64 c.args.g (of_bits binary64 4805340802404319232)) c.if-h.true

pub overflow_cast-result : goal.overflow_cast-result
overflow_cast-result c = record { fits = mask_lt (to_bits binary64 (add binary64 c.args.g (of_bits binary64 4805340802404319232))) 32 }
