use native.Mathlib.Omega.{arith}
use Rattle.system.proofs.files.read_all.Goals as goal

pub loop-n-smaller : goal.loop-n-smaller
loop-n-smaller g c = omega arith
