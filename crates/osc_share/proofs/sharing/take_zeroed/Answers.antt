-- One frame more is taken.
use Rattle.std.proofs.Common.{◌≡◌, ◌<◌, length, arith, ◌∙◌, Some, position, sym}
use Rattle.osc_share.proofs.Taking.{taking_one}
use Rattle.osc_share.proofs.sharing.take_zeroed.Goals as goal

pub loop-place-preserved : goal.loop-place-preserved
loop-place-preserved c =
    let is : c.take.result ≡ Some c.unwrap-frame.result = c.unwrap-frame.ensures in
    let least : position (λ b. b) c.loop-place.frames ≡ Some c.unwrap-frame.result = sym c.take.ensures.least ∙ is in
    let within : c.loop-place.place-index < length c.loop-place.taken = omega (arith, c.loop-place-test.true, c.loop-place.auto.taken) in
    let one = taking_one c.loop-place.place-index c.loop-place.taken c.unwrap-frame.result c.args.frames.now c.loop-place.frames c.args.jobs.now c.loop-place.jobs within least c.loop-place.invariant in
    rw (c.push.ensures, c.take.ensures.after, is) one
