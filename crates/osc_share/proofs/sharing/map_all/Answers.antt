-- One page more is mapped.
use Rattle.std.proofs.Common.{◌≡◌, ◌<◌, ◌+◌, ◌-◌, ◌∙◌, suc, length, drop, map, get_or, arith, sym, subst, ap}
use Rattle.std.proofs.Math.Seq as seq
use Rattle.osc_paging.specs.TableChanges.{map_page, map_pages}
use Rattle.osc_space.specs.LeafFlags.{read_write_at}
use Rattle.osc_tables.specs.Calls.{changed}
use Rattle.osc_share.specs.InRow.{CanMap}
use Rattle.osc_share.proofs.Rows.{can_map_one, maps_one}
use Rattle.osc_share.proofs.sharing.map_all.Goals as goal

pub map-requires-clause-need : goal.map-requires-clause-need
map-requires-clause-need c =
    let more : length c.args.taken.now - c.loop-frame.frame-index ≡ suc (length c.args.taken.now - (c.loop-frame.frame-index + 1)) = omega (arith, c.loop-frame-test.true) in
    let can = subst (λ n. CanMap c.loop-frame.page n c.loop-frame.tables c.loop-frame.frames c.loop-frame.jobs) more c.loop-frame.invariant.can in
    (can_map_one c.loop-frame.page (length c.args.taken.now - (c.loop-frame.frame-index + 1)) c.loop-frame.tables c.loop-frame.frames c.loop-frame.jobs can).need

pub loop-frame-preserved : goal.loop-frame-preserved
loop-frame-preserved c =
    let i = c.loop-frame.frame-index in
    let here : i < length c.args.taken.now = omega (arith, c.loop-frame-test.true) in
    let frame = get_or c.args.taken.now i 0 in
    let rest = length c.args.taken.now - (i + 1) in
    let more : length c.args.taken.now - i ≡ suc rest = omega arith in
    let can = subst (λ n. CanMap c.loop-frame.page n c.loop-frame.tables c.loop-frame.frames c.loop-frame.jobs) more c.loop-frame.invariant.can in
    let one = can_map_one c.loop-frame.page rest c.loop-frame.tables c.loop-frame.frames c.loop-frame.jobs can in
    let next : changed c.map.new.self c.map.new.frames c.map.new.jobs.pushed ≡ map_page c.loop-frame.page (read_write_at frame) (changed c.loop-frame.tables c.loop-frame.frames c.loop-frame.jobs.pushed) =
    c.map.ensures.next ∙ ap (λ n. map_page n (read_write_at frame) (changed c.loop-frame.tables c.loop-frame.frames c.loop-frame.jobs.pushed)) one.low.number in
    let next_place : suc i ≡ i + 1 = omega arith in
    let cons = seq.drop-cons c.args.taken.now i 0 here in
    record {
      page = omega (arith, c.loop-frame.invariant.page);
      can = maps_one c.loop-frame.page rest (read_write_at frame) c.loop-frame.tables c.map.new.self c.loop-frame.frames c.map.new.frames c.loop-frame.jobs c.map.new.jobs can next c.map.ensures.taken c.map.ensures.room;
      left =
          subst (λ n. map_pages (c.loop-frame.page + 1) (map read_write_at (drop n c.args.taken.now)) (changed c.map.new.self c.map.new.frames c.map.new.jobs.pushed) ≡ map_pages c.args.first (map read_write_at c.args.taken.now) (changed c.args.tables.now c.args.frames.now c.args.jobs.now.pushed)) next_place
          (ap (λ d. map_pages (c.loop-frame.page + 1) (map read_write_at (drop (suc i) c.args.taken.now)) d) next
          ∙ (sym (ap (λ xs. map_pages c.loop-frame.page (map read_write_at xs) (changed c.loop-frame.tables c.loop-frame.frames c.loop-frame.jobs.pushed)) cons) ∙ c.loop-frame.invariant.left));
      room = c.map.ensures.room ∙ c.loop-frame.invariant.room;
    }
