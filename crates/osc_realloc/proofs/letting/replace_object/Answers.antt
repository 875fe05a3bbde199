-- The parts agree, so the object's pages are mapped, and once they are not the dead leaf tables have
-- no entry.
use Rattle.std.proofs.Common.{ℕ, ◌+◌, ◌<◌, ◌≡◌, ◌∙◌, ◌∷◌, ◌++◌, [], arith, ap, subst, sym, length, List}
use Rattle.std.specs.Prelude.{All}
use Rattle.osc_mark.specs.Grants.{Grants, lives}
use Rattle.osc_space.specs.declared.ObjectFact.{ObjectFact}
use Rattle.osc_space.specs.Objects.{fact, grant, granted_at, kill, next_page}
use Rattle.osc_shadow.specs.Parts.{space_of}
use Rattle.osc_shadow.specs.Flushing.{ShowsLive}
use Rattle.osc_shadow.proofs.Agreed.{agreed}
use Rattle.osc_shadow.proofs.Killed.{can_unmap, shows_live, dead_page_granted, front_fact}
use Rattle.osc_realloc.proofs.Gone.{known_all}
use Rattle.osc_realloc.proofs.letting.replace_object.Goals as goal

pub kill-requires : goal.kill-requires
kill-requires c =
    let objects : c.grant-object.new.self.objects ≡ grant c.shadow_pages-pages.result c.args.size (c.args.block.start + 16) c.args.marks.now.objects = ap (λ (g : Grants). g.objects) c.grant-object.ensures.grants in
    let there = front_fact c.args.marks.now.objects (granted_at (next_page c.args.marks.now.objects) c.shadow_pages-pages.result c.args.size (c.args.block.start + 16) ∷ []) c.args.seen.number c.args.seen.fact c.requires.is in
    ap (λ os. lives (fact os c.args.seen.number)) objects ∙ ap lives there ∙ c.requires.live

pub unmap_shadows-requires : goal.unmap_shadows-requires
unmap_shadows-requires c =
    let a = c.requires.agree.agree in
    let count = a.agree.count in
    let room = c.requires.spare in
    record {
      can = can_unmap (space_of c.args.tables.now c.args.marks.now c.requires.agree.heap c.args.waiting.now) a.regions c.requires.agree.free c.args.jobs.now c.args.seen.number c.args.seen.fact
          a.agree c.requires.marked c.know_tables.ensures.range c.requires.within c.requires.is c.requires.live (omega arith);
    }

pub let_go-requires-clause-shadows : goal.let_go-requires-clause-shadows
let_go-requires-clause-shadows c =
    let a = c.requires.agree.agree in
    let objects : c.kill.new.self.objects ≡ kill c.args.seen.number c.args.call (grant c.shadow_pages-pages.result c.args.size (c.args.block.start + 16) c.args.marks.now.objects) =
    ap (λ (g : Grants). g.objects) c.kill.ensures.grants ∙ ap (λ (g : Grants). kill c.args.seen.number c.args.call g.objects) c.grant-object.ensures.grants in
    let shows : ShowsLive c.unmap_shadows.new.tables (kill c.args.seen.number c.args.call (grant c.shadow_pages-pages.result c.args.size (c.args.block.start + 16) c.args.marks.now.objects)) =
    shows_live (space_of c.args.tables.now c.args.marks.now c.requires.agree.heap c.args.waiting.now) a.regions c.requires.agree.free c.unmap_shadows.new.tables c.args.seen.number c.args.seen.fact
    (kill c.args.seen.number c.args.call (grant c.shadow_pages-pages.result c.args.size (c.args.block.start + 16) c.args.marks.now.objects)) a.agree c.requires.is c.unmap_shadows.ensures.pages
    (λ page dead out. dead_page_granted c.args.marks.now.objects c.args.seen.number c.args.call page c.shadow_pages-pages.result c.args.size (c.args.block.start + 16) c.args.seen.fact c.requires.is dead out) in
    subst (λ (os : List ObjectFact). ShowsLive c.unmap_shadows.new.tables os) (sym objects) shows

pub let_go-requires-clause-waits : goal.let_go-requires-clause-waits
let_go-requires-clause-waits c = c.requires.agree.agree.agree.heap.waiting.few

pub let_go-requires-clause-known : goal.let_go-requires-clause-known
let_go-requires-clause-known c =
    let objects : c.kill.new.self.objects ≡ kill c.args.seen.number c.args.call (grant c.shadow_pages-pages.result c.args.size (c.args.block.start + 16) c.args.marks.now.objects) =
    ap (λ (g : Grants). g.objects) c.kill.ensures.grants ∙ ap (λ (g : Grants). kill c.args.seen.number c.args.call g.objects) c.grant-object.ensures.grants in
    subst (λ (os : List ObjectFact). All (λ (x : ℕ). x < length os) (c.args.waiting.now ++ c.args.seen.number ∷ [])) (sym objects)
    (known_all c.args.marks.now.objects c.args.waiting.now c.args.seen.number c.args.call c.shadow_pages-pages.result c.args.size (c.args.block.start + 16) c.requires.agree.agree.agree.heap.waiting.known c.requires.within)

pub let_go-requires-clause-spare : goal.let_go-requires-clause-spare
let_go-requires-clause-spare c =
    let a = c.requires.agree.agree in
    let knows = agreed (space_of c.args.tables.now c.args.marks.now c.requires.agree.heap c.args.waiting.now) a.regions c.requires.agree.free a.agree in
    let tables = knows.tables in
    let same : length c.unmap_shadows.new.tables.tables ≡ length c.args.tables.now.tables = ap (λ t. length t.tables) c.unmap_shadows.ensures.tables in
    let count = a.agree.count in
    let frames = a.agree.frames in
    let small = a.agree.heap.small c.args.seen.number c.args.seen.fact (c.requires.is, c.requires.live) in
    let few = c.unmap_shadows.ensures.few in
    let room = c.unmap_shadows.ensures.room in
    let spares = c.requires.spare in
    let harts = c.requires.harts in
    omega arith

pub returns-clause-grants : goal.returns-clause-grants
returns-clause-grants c =
    c.kill.ensures.grants
    ∙ ap (λ (g : Grants). record g { objects = kill c.args.seen.number c.args.call g.objects }) c.grant-object.ensures.grants
    ∙ ap (λ p. record (c.args.marks.now) { objects = kill c.args.seen.number c.args.call (grant p c.args.size (c.args.block.start + 16) c.args.marks.now.objects) }) c.shadow_pages-pages.ensures

pub returns-clause-next : goal.returns-clause-next
returns-clause-next c = record {
  tables = c.unmap_shadows.new.tables;
  jobs = c.unmap_shadows.new.jobs.pushed;
  unmaps = c.unmap_shadows.ensures.next;
  flushes = c.let_go.ensures.next;
}

pub returns-clause-few : goal.returns-clause-few
returns-clause-few c =
    let same : length c.unmap_shadows.new.tables.tables ≡ length c.args.tables.now.tables = ap (λ t. length t.tables) c.unmap_shadows.ensures.tables in
    let few = c.unmap_shadows.ensures.few in
    let more = c.let_go.ensures.few in
    omega arith
