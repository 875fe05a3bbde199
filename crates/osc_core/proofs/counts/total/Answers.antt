-- Each sum.
use Rattle.std.proofs.Common.{refl}
use Rattle.osc_machine.specs.Parts.{HartState}
use Rattle.osc_machine.specs.Views.{retired}
use Rattle.osc_core.proofs.Sums.{sum_starts, sum_goes_on, sum_ends}
use Rattle.osc_core.proofs.counts.total.Goals as goal

pub loop-hart-init : goal.loop-hart-init
loop-hart-init c =
    let harts = c.args.harts.now in
    record {
      retired = sum_starts retired harts;
      hits = sum_starts (λ (h : HartState). h.user.hits) harts;
      walks = sum_starts (λ (h : HartState). h.user.walks) harts;
      clears = sum_starts (λ (h : HartState). h.clears) harts;
    }

pub loop-hart-preserved : goal.loop-hart-preserved
loop-hart-preserved c =
    let harts = c.args.harts.now in
    let i = c.loop-hart.hart-index in
    let s = c.loop-hart.invariant in
    let less = c.loop-hart-test.true in
    rw c.with-totals.ensures (record {
      retired = sum_goes_on retired harts i c.loop-hart.totals.retired c.hart-item.result c.hart-item.is s.retired less;
      hits = sum_goes_on (λ (h : HartState). h.user.hits) harts i c.loop-hart.totals.hits c.hart-item.result c.hart-item.is s.hits less;
      walks = sum_goes_on (λ (h : HartState). h.user.walks) harts i c.loop-hart.totals.walks c.hart-item.result c.hart-item.is s.walks less;
      clears = sum_goes_on (λ (h : HartState). h.clears) harts i c.loop-hart.totals.clears c.hart-item.result c.hart-item.is s.clears less;
    })

pub returns : goal.returns
returns c =
    let harts = c.args.harts.now in
    let i = c.loop-hart.hart-index in
    let s = c.loop-hart.invariant in
    let end = c.loop-hart-test.false in
    rw (
      ← sum_ends retired harts i _ s.retired end,
      ← sum_ends (λ (h : HartState). h.user.hits) harts i _ s.hits end,
      ← sum_ends (λ (h : HartState). h.user.walks) harts i _ s.walks end,
      ← sum_ends (λ (h : HartState). h.clears) harts i _ s.clears end,
    ) refl
