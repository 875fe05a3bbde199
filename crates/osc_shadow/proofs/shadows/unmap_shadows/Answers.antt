-- One page more.
use Rattle.std.proofs.Common.{arith, ◌≡◌, ◌+◌, ap, ◌∙◌}
use Rattle.osc_sv39.specs.Walk.{number_of}
use Rattle.osc_paging.specs.KeptTables.{levels_of}
use Rattle.osc_shadow.proofs.Unmapped.{still_mapped, unmapping_more}
use Rattle.osc_shadow.proofs.shadows.unmap_shadows.Goals as goal

pub loop-k-preserved : goal.loop-k-preserved
loop-k-preserved c =
    let at = still_mapped _ _ _ _ _ _ _ c.requires.can c.loop-k.invariant (omega arith) in
    let from : c.args.first + c.from.result ≡ c.args.first + c.loop-k.k = ap (λ k. c.args.first + k) c.from.ensures in
    let number : number_of (levels_of c.loop-k.tables) (c.args.first + c.from.result) ≡ c.args.first + c.loop-k.k = ap (λ p. number_of (levels_of c.loop-k.tables) p) from ∙ at.2 in
    unmapping_more _ _ _ _ _ _ _ _ _ _ c.loop-k.invariant (omega arith) number c.unmap.ensures.next c.unmap.ensures.room
