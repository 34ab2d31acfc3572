use mathlib.Core.Path.{refl}
use Rattle.allmodes.specs.AllModes.{put_reals}
use Rattle.allmodes.proofs.Held.{put_adds}
use Rattle.allmodes.proofs.AllModes.add_slot.Goals as goal

pub returns : goal.returns
unfolding put_reals
returns c = put_adds c.args.zon.now c.args.self.now c.args.i refl c.put_nmode.ensures
