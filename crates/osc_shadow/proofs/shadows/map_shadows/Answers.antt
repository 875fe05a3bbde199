-- One page more.
use Rattle.std.proofs.Common.{arith, ◌≡◌, ◌+◌, ◌-◌, ◌/◌, ◌∙◌, unwrap_or}
use Rattle.osc_shadow.proofs.Mapped.{maps_first}
use Rattle.osc_shadow.proofs.Shadowed.{maps_one}
use Rattle.osc_slot.specs.Heap.{frame_of}
use Rattle.osc_shadow.proofs.shadows.map_shadows.Goals as goal

pub map-requires-clause-opened : goal.map-requires-clause-opened
map-requires-clause-opened c = c.loop-k.invariant.can.opened

pub map-requires-clause-canonical : goal.map-requires-clause-canonical
map-requires-clause-canonical c = (maps_first _ _ _ _ _ c.loop-k.invariant.can (omega arith)).canonical

pub map-requires-clause-unmapped : goal.map-requires-clause-unmapped
map-requires-clause-unmapped c = (maps_first _ _ _ _ _ c.loop-k.invariant.can (omega arith)).unmapped

pub map-requires-clause-left : goal.map-requires-clause-left
map-requires-clause-left c = (maps_first _ _ _ _ _ c.loop-k.invariant.can (omega arith)).left

pub map-requires-clause-taken : goal.map-requires-clause-taken
map-requires-clause-taken c = c.loop-k.invariant.can.taken

pub map-requires-clause-need : goal.map-requires-clause-need
map-requires-clause-need c = (maps_first _ _ _ _ _ c.loop-k.invariant.can (omega arith)).need

pub map-requires-clause-spare : goal.map-requires-clause-spare
map-requires-clause-spare c = (maps_first _ _ _ _ _ c.loop-k.invariant.can (omega arith)).spare

pub loop-k-preserved : goal.loop-k-preserved
loop-k-preserved c =
    let rest = maps_one _ _ _ _ _ _ _ _ (c.args.first + c.loop-k.k) (c.args.block.start / 4096 + c.loop-k.k) (c.shadow_pages-count.result - c.loop-k.k)
    (c.args.first + (c.loop-k.k + 1)) (c.args.block.start / 4096 + (c.loop-k.k + 1)) (c.shadow_pages-count.result - (c.loop-k.k + 1)) c.unwrap_or.result
    c.loop-k.invariant.can c.loop-k.invariant.next (omega arith) (omega arith) (omega arith) frame
    c.map.ensures.next c.map.ensures.taken c.map.ensures.room in
    record { can = rest.can; next = rest.next; room = c.map.ensures.room ∙ c.loop-k.invariant.room }
  where
    frame : c.unwrap_or.result ≡ unwrap_or (frame_of c.args.heap.now.pages (c.args.block.start / 4096 + c.loop-k.k)) 0
    frame = cc
