-- The page's own frame is the one after its tables.
use Rattle.std.proofs.Common.{◌∙◌, ap, arith, sym, subst}
use Rattle.osc_sv39.specs.declared.entries.Mapping.{Mapping}
use Rattle.osc_frames.specs.Free.{without_frame}
use Rattle.osc_paging.specs.Agree.{ReadsAsLeaf}
use Rattle.osc_calls.specs.Open.{open_page}
use Rattle.osc_open.proofs.Laid.{can_lay_one}
use Rattle.osc_open.proofs.Rows.{made_is, lays}
use Rattle.osc_open.proofs.laying.lay.Goals as goal

pub overflow_cast-missing : goal.overflow_cast-missing
overflow_cast-missing c =
    let one = can_lay_one c.args.count (open_page c.args.page c.args.bits) c.requires.can.rest c.args.tables.now c.args.frames.now c.args.jobs.now c.requires.count c.requires.can.can in
    let need = one.need in
    let few = c.requires.can.can.few in
    omega (arith, need, few, c.need-missing.ensures)

pub overflow_add-mapping : goal.overflow_add-mapping
overflow_add-mapping c =
    let one = can_lay_one c.args.count (open_page c.args.page c.args.bits) c.requires.can.rest c.args.tables.now c.args.frames.now c.args.jobs.now c.requires.count c.requires.can.can in
    let need = one.need in
    let few = c.requires.can.can.few in
    omega (arith, need, few, c.need-missing.ensures, c.free_count.ensures)

pub map-requires-clause-leaf : goal.map-requires-clause-leaf
map-requires-clause-leaf c =
    let p = open_page c.args.page c.args.bits in
    let one = can_lay_one c.args.count p c.requires.can.rest c.args.tables.now c.args.frames.now c.args.jobs.now c.requires.count c.requires.can.can in
    subst (λ (m : Mapping). ReadsAsLeaf m)
    (sym (made_is c.args.count c.free_count.result c.need-missing.result c.leaf_bits.result p c.requires.can.rest c.args.tables.now c.args.frames.now c.args.jobs.now one c.free_count.ensures c.need-missing.ensures c.leaf_bits.ensures))
    one.leaf

pub map-requires-clause-need : goal.map-requires-clause-need
map-requires-clause-need c =
    (can_lay_one c.args.count (open_page c.args.page c.args.bits) c.requires.can.rest c.args.tables.now c.args.frames.now c.args.jobs.now c.requires.count c.requires.can.can).need

pub returns-clause-next : goal.returns-clause-next
returns-clause-next c =
    sym (lays c.args.count c.free_count.result c.need-missing.result c.leaf_bits.result (open_page c.args.page c.args.bits) c.requires.can.rest
    c.args.tables.now c.map.new.self c.args.frames.now c.map.new.frames c.take.new.self c.args.jobs.now c.map.new.jobs c.requires.count c.requires.can.can
    c.free_count.ensures c.need-missing.ensures c.leaf_bits.ensures c.map.ensures.next c.map.ensures.taken c.map.ensures.room
    (c.take.ensures.after ∙ ap (without_frame c.map.new.frames) c.take.ensures.least)).next

pub returns-clause-rest : goal.returns-clause-rest
returns-clause-rest c = λ rest can.
    (lays c.args.count c.free_count.result c.need-missing.result c.leaf_bits.result (open_page c.args.page c.args.bits) rest
    c.args.tables.now c.map.new.self c.args.frames.now c.map.new.frames c.take.new.self c.args.jobs.now c.map.new.jobs c.requires.count can
    c.free_count.ensures c.need-missing.ensures c.leaf_bits.ensures c.map.ensures.next c.map.ensures.taken c.map.ensures.room
    (c.take.ensures.after ∙ ap (without_frame c.map.new.frames) c.take.ensures.least)).can
