-- The parts agree, so the object's pages are mapped, and once they are not the dead leaf tables have
-- no entry.
use Rattle.std.proofs.Common.{arith, ap, ◌≡◌, ◌∙◌, subst, sym, length, List}
use Rattle.osc_space.specs.declared.ObjectFact.{ObjectFact}
use Rattle.osc_space.specs.Objects.{kill}
use Rattle.osc_shadow.specs.Parts.{space_of}
use Rattle.osc_shadow.specs.Flushing.{ShowsLive}
use Rattle.osc_shadow.specs.Sight.{seen_of}
use Rattle.osc_shadow.proofs.Agreed.{agreed}
use Rattle.osc_shadow.proofs.Killed.{can_unmap, shows_live, dead_page}
use Rattle.osc_space.specs.Free.{freed}
use Rattle.osc_release.specs.Outcomes.{terms}
use Rattle.osc_release.proofs.Waits.{known_more}
use Rattle.osc_release.proofs.Made.{let_waits, flush_made}
use Rattle.osc_release.proofs.release.free_object.Goals as goal

pub unmap_shadows-requires : goal.unmap_shadows-requires
unmap_shadows-requires c =
    let a = c.requires.agree.agree in
    let count = a.agree.count in
    let room = c.requires.spare in
    record {
      can = can_unmap (space_of c.args.tables.now c.args.marks.now c.requires.agree.heap c.args.waiting.now) a.regions c.requires.agree.free c.args.jobs.now c.args.seen.number c.args.seen.fact
          a.agree c.requires.marked c.know_tables.ensures.range c.requires.within c.requires.is c.requires.live (omega arith);
    }

pub flush_batch-flush-requires-clause-shadows : goal.flush_batch-flush-requires-clause-shadows
flush_batch-flush-requires-clause-shadows c =
    let a = c.requires.agree.agree in
    let objects : c.kill.new.self.objects ≡ kill c.args.seen.number c.args.call c.args.marks.now.objects = (let e = c.kill.ensures.grants in cc) in
    let shows : ShowsLive c.unmap_shadows.new.tables (kill c.args.seen.number c.args.call c.args.marks.now.objects) =
    shows_live (space_of c.args.tables.now c.args.marks.now c.requires.agree.heap c.args.waiting.now) a.regions c.requires.agree.free c.unmap_shadows.new.tables c.args.seen.number c.args.seen.fact
    (kill c.args.seen.number c.args.call c.args.marks.now.objects) a.agree c.requires.is c.unmap_shadows.ensures.pages
    (λ page dead out. dead_page c.args.marks.now.objects c.args.seen.number c.args.call page c.args.seen.fact c.requires.is dead out) in
    subst (λ (os : List ObjectFact). ShowsLive c.unmap_shadows.new.tables os) (sym objects) shows

pub flush_batch-flush-requires-clause-known : goal.flush_batch-flush-requires-clause-known
flush_batch-flush-requires-clause-known c =
    let a = c.requires.agree.agree in
    let objects : c.kill.new.self.objects ≡ kill c.args.seen.number c.args.call c.args.marks.now.objects = (let e = c.kill.ensures.grants in cc) in
    rw objects (known_more c.args.marks.now.objects c.args.waiting.now c.push.new.self c.args.seen.number c.args.call a.agree.heap.waiting.known c.requires.within c.push.ensures)

pub flush_batch-flush-requires-clause-spare : goal.flush_batch-flush-requires-clause-spare
flush_batch-flush-requires-clause-spare c =
    let a = c.requires.agree.agree in
    let s = space_of c.args.tables.now c.args.marks.now c.requires.agree.heap c.args.waiting.now in
    let knows = agreed (space_of c.args.tables.now c.args.marks.now c.requires.agree.heap c.args.waiting.now) a.regions c.requires.agree.free a.agree in
    let tables = knows.tables in
    let same : length c.unmap_shadows.new.tables.tables ≡ length c.args.tables.now.tables = ap (λ t. length t.tables) c.unmap_shadows.ensures.tables in
    let count = a.agree.count in
    let frames = a.agree.frames in
    let small = a.agree.heap.small c.args.seen.number c.args.seen.fact (c.requires.is, c.requires.live) in
    let few = c.unmap_shadows.ensures.few in
    let room = c.unmap_shadows.ensures.room in
    let spares = c.requires.spare in
    let harts = c.requires.harts in
    omega arith

pub returns-clause-plan : goal.returns-clause-plan
returns-clause-plan c heap free =
    let t = terms c.args.harts c.args.call c.args.batch in
    flush_made (terms c.args.harts c.args.call c.args.batch) c.args.seen.number c.unmap_shadows.new.tables c.flush_batch-flush.new.tables c.kill.new.self heap c.push.new.self free c.unmap_shadows.new.jobs.pushed c.flush_batch-flush.new.jobs.pushed
    c.flush_batch-flush.result c.flush_batch-flush.ensures.full (c.flush_batch-flush.ensures.next free)
    ∙ ap (λ d. freed c.args.seen.number (terms c.args.harts c.args.call c.args.batch) d)
    (let_waits (terms c.args.harts c.args.call c.args.batch) (seen_of c.args.seen) c.args.tables.now c.unmap_shadows.new.tables c.args.marks.now c.kill.new.self heap c.args.waiting.now c.push.new.self free c.args.jobs.now.pushed c.unmap_shadows.new.jobs.pushed
    c.kill.ensures.grants c.push.ensures (c.unmap_shadows.ensures.next free))
