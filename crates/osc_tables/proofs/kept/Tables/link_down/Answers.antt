-- One level more is linked.
use Rattle.std.proofs.Common.{◌≡◌, ◌-◌, suc, sym, ◌∙◌, ap, arith}
use Rattle.osc_paging.specs.KeptTables.{KeptTables}
use Rattle.osc_paging.specs.TableChanges.{link, link_all}
use Rattle.osc_tables.specs.Calls.{changed}
use Rattle.osc_tables.proofs.Pieces.{piece-start}
use Rattle.osc_tables.proofs.Linked.{link_all-step, link_all-none}
use Rattle.osc_tables.proofs.kept.Tables.link_down.Goals as goal

pub link-requires-clause-range : goal.link-requires-clause-range
link-requires-clause-range c =
    let level : suc (c.loop-level.level - 1) ≡ c.loop-level.level = omega arith in
    let start = piece-start c.loop-level.level c.args.number in
    let top : c.loop-level.self.top ≡ c.args.self.now.top = ap (λ (t : KeptTables). t.top) c.loop-level.invariant.rest in
    rw (level, c.piece_over-above.ensures.piece, top) (omega (arith, c.requires.range))

pub loop-level-preserved : goal.loop-level-preserved
loop-level-preserved c =
    let inv = c.loop-level.invariant in
    record {
      next =
          ap (link_all (c.loop-level.level - 1) c.args.number) (c.link.ensures.next ∙ ap (λ n. link (c.loop-level.level - 1) n (changed c.loop-level.self c.loop-level.frames c.loop-level.jobs.pushed)) c.piece_over-above.ensures.piece)
          ∙ sym (link_all-step c.loop-level.level c.args.number _ (omega arith)) ∙ inv.next;
      level = omega arith;
      taken = c.link.ensures.taken;
      room = c.link.ensures.room ∙ inv.room;
      rest = c.link.ensures.rest ∙ ap (λ (t : KeptTables). record t { tables = c.link.new.self.tables }) inv.rest;
      few = omega arith;
    }

pub returns-clause-next : goal.returns-clause-next
returns-clause-next c =
    let none : c.loop-level.level ≡ 0 = omega arith in
    sym (link_all-none _ _ _ none) ∙ c.loop-level.invariant.next
