-- What a committed call makes of its process.
use Rattle.std.proofs.Common.{◌≡◌, rules}
use Rattle.osc_under_way.specs.Effects.{effect_of}
use Rattle.osc_kernel.specs.Sound.{ends_one}
use Rattle.osc_kernel.proofs.finishing.settle.Goals as goal

pub end-requires-clause-can : goal.end-requires-clause-can
end-requires-clause-can c = let z : ends_one (effect_of c.args.effect.now) ≡ 1 = search rules in c.requires.can.ends z

pub give_back-requires-clause-can : goal.give_back-requires-clause-can
give_back-requires-clause-can c = let z : ends_one (effect_of c.args.effect.now) ≡ 0 = search rules in c.requires.can.returns z
