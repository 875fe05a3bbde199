-- The object that the code keeps as a life, and whether it can be reached.
use Rattle.std.specs.Prelude.{ℕ, ◌+◌, nat_le, if◌then◌else◌, length, Result, Ok, Err}
use Rattle.osc_world.specs.declared.ObjectWhy.{ObjectWhy}
use Rattle.osc_world.specs.declared.ObjectWhy.TheVariants.{DeadObject, Outside}
use Rattle.osc_world.specs.World.{Object, Live, Dead}
use Rattle.osc_values.specs.declared.objects.Life.{Life}
use Rattle.osc_values.specs.declared.objects.Life.TheVariants as life

abbrev pub object_of : Life → Object
object_of (life.Live row) = Live row
object_of (life.Dead size) = Dead size

-- whether an object lives and has the bytes of an access, or why not
abbrev pub reach_of : ℕ → ℕ → Object → Result (Unit {0}) ObjectWhy
reach_of offset width (Live bytes) = if nat_le (offset + width) (length bytes) then Ok tt else Err Outside
reach_of offset width (Dead size) = Err DeadObject
