use Rattle.std.proofs.Common.{arith, ◌∙◌, ap, sym}
use Rattle.osc_image.specs.Frames.{different}
use Rattle.osc_elf.specs.TableNumbers.{tables_of}
use Rattle.osc_elf.proofs.Counting.{tables-start, tables-new, tables-same, tables-unmapped, table-later, pages-limit}
use Rattle.osc_elf.proofs.image.Image.tables.Goals as goal
use Rattle.osc_elf.proofs.image.Image.tables.Goals.{then-is_mapped+then-next-page, else-is_mapped, else-is_mapped-via-then-is_mapped+else-next-page, else-is_mapped-via-else-is_mapped}

pub loop-page-init : goal.loop-page-init
loop-page-init c = (tables-start c.args.self.now c.args.size, omega arith, omega arith)

pub loop-page-preserved : goal.loop-page-preserved
loop-page-preserved c =
    let later = table-later c.loop-page.page c.args.size c.requires in
    elim c.if-is_mapped.branch [
      | then-is_mapped+then-next-page w ↦
          rw (w.count-is, w.next-is) (
            tables-new c.args.self.now c.args.size c.loop-page.page c.loop-page.count c.loop-page.next
                (sym c.is_mapped.ensures.value ∙ w.if-is_mapped.true) w.if-next-page.true c.loop-page.invariant.0,
            omega
                (arith, c.loop-page.invariant.1),
            omega arith,
          )
      | else-is_mapped w ↦
          rw (w.count-is, w.next-is) (
            elim w.else-is_mapped.branch [
              | else-is_mapped-via-then-is_mapped+else-next-page v ↦
                  tables-same c.args.self.now c.args.size c.loop-page.page c.loop-page.count c.loop-page.next
                  (sym c.is_mapped.ensures.value ∙ v.if-is_mapped.true) v.if-next-page.false c.loop-page.invariant.2 c.loop-page.invariant.0
              | else-is_mapped-via-else-is_mapped v ↦
                  tables-unmapped c.args.self.now c.args.size c.loop-page.page c.loop-page.count c.loop-page.next
                  (sym c.is_mapped.ensures.value ∙ v.if-is_mapped.false) c.loop-page.invariant.0
            ],
            omega (arith, c.loop-page.invariant.1),
            omega (arith, c.loop-page.invariant.2),
          )
    ]

pub returns-clause-count : goal.returns-clause-count
returns-clause-count c =
    c.loop-page.invariant.0.count_is
    ∙ ap (λ used. different (tables_of c.args.size used))
    (pages-limit c.args.self.now c.loop-page.page c.limit-page-end.result (omega arith) c.limit-page-end.ensures.bound
    c.limit-page-end.ensures.beyond)
