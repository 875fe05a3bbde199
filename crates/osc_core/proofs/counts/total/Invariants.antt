use Rattle.osc_machine.specs.Parts.{HartState}
use Rattle.osc_machine.specs.Views.{retired}
use Rattle.osc_core.proofs.Sums.{SumsTo}
use Rattle.osc_core.proofs.counts.total.Given as goal

abbrev pub invariant-loop-hart : goal.invariant-loop-hart
invariant-loop-hart l =
    record {
      retired : SumsTo retired l.harts l.hart-index l.totals.retired;
      hits : SumsTo (λ (h : HartState). h.user.hits) l.harts l.hart-index l.totals.hits;
      walks : SumsTo (λ (h : HartState). h.user.walks) l.harts l.hart-index l.totals.walks;
      clears : SumsTo (λ (h : HartState). h.clears) l.harts l.hart-index l.totals.clears;
    }
