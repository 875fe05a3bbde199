use Rattle.std.proofs.Common.{◌≡◌, ◌≤◌, ◌-◌, vec_len}
use Rattle.osc_outside.specs.Bytes.{Consumes}
use Rattle.osc_top.proofs.loading.load.Given as goal

abbrev pub invariant-loop-file : goal.invariant-loop-file
invariant-loop-file g l =
    record {
      taken : Consumes (g.S.Source.left l.fn.source) (g.S.Source.left l.source) l.file.items;
      bound : vec_len l.file ≤ 16777217;
      kept : g.S.Source.faults l.source ≡ g.S.Source.faults l.fn.source;
      piece : vec_len l.piece ≡ 65536;
    }

abbrev pub decreases-loop-file : goal.decreases-loop-file
decreases-loop-file g l = 16777217 - vec_len l.file
