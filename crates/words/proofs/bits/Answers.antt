use Rattle.std.proofs.Common.{sym, ◌∙◌}
use Rattle.words.proofs.Nan.{nan_has_bits}
use Rattle.words.proofs.bits.Goals as goal

pub returns-then-is_nan : goal.returns-then-is_nan
returns-then-is_nan c = nan_has_bits c.args.x (sym c.is_nan.ensures.value ∙ c.if-is_nan.true)
