use Rattle.std.proofs.Common.{arith, length, false, ◌≡◌, ◌+◌, ◌∙◌, sym, ap, inl, inr}
use Rattle.std.proofs.lemmas.Grind.{common_steps, elements}
use Rattle.std.proofs.lemmas.Bool.{cases_lt}
use Rattle.std.proofs.lemmas.List.{get_or_past}
use Rattle.osc_elf.specs.Reach.{reach_below}
use Rattle.osc_elf.proofs.Reaching.{reach-more, swept, permits-beyond}
use Rattle.osc_elf.proofs.permitted.permitted.Goals as goal

pub loop-page-preserved : goal.loop-page-preserved
loop-page-preserved c =
    let each = c.in_ok-reaches.ensures.each c.loop-page.page (omega arith) in
    let end : c.max-end.result ≡ reach_below c.args.segments.now c.args.access (c.loop-page.page + 1) =
    rw (reach-more c.args.segments.now c.args.access c.loop-page.page) (grind (arith, common_steps, elements, each, c.loop-page.invariant.1)) in
    let len : length c.loop-page.table.items ≡ c.loop-page.page = grind (arith, common_steps, c.loop-page.invariant.0) in (
      c.in_ok-push.ensures.len ∙ ap (λ n. n + 1) c.loop-page.invariant.0,
      end,
      λ file.
          rw c.in_ok-push.ensures.items
          (swept file c.args.segments.now c.args.access c.loop-page.page c.max-end.result c.loop-page.table.items len end
          (c.loop-page.invariant.2 file)),
    )

pub returns-clause-each : goal.returns-clause-each
returns-clause-each c = λ file page.
    let len : length c.loop-page.table.items ≡ c.loop-page.page = grind (arith, common_steps, c.loop-page.invariant.0) in
    elim (cases_lt page c.loop-page.page) [
      | inl below ↦ c.loop-page.invariant.2 file page below
      | inr above ↦
          get_or_past c.loop-page.table.items page false (omega arith)
          ∙ sym (permits-beyond file c.args.segments.now c.args.access page (omega arith))
    ]
