-- Effects as the definitions of a kernel know them.
use Rattle.osc_calls.specs.Kernel as kernel
use Rattle.osc_under_way.specs.declared.effects.Effect.{Effect}
use Rattle.osc_under_way.specs.declared.effects.Effect.TheVariants as effects

abbrev pub effect_of : Effect → kernel.Effect
effect_of effects.Nothing = kernel.Nothing
effect_of effects.Clears = kernel.Clears
effect_of (effects.Starts hart start) = kernel.Starts hart start
effect_of (effects.Ends status) = kernel.Ends status
