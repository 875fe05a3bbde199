-- A kernel that a hart has taken.
use Rattle.std.proofs.Common.{ℕ, ◌≡◌, ◌<◌, Some, List, length, slice_get}
use Rattle.osc_calls.specs.Kernel.{KernelState, UnderWay}
use Rattle.osc_settled.specs.KernelFits.{SizesFit}
use Rattle.osc_settled.proofs.Beginning.{at_rest}
use Rattle.osc_ready.specs.Taken.{TakenFit}

same_sizes : (words : List ℕ) (k : KernelState) (u : UnderWay) → SizesFit words k → SizesFit words (record k { under_way = u })
same_sizes words k u s = record {
  config = s.config;
  memory = s.memory;
  free = s.free;
  regions = s.regions;
  records = s.records;
  processes = s.processes;
  threads = s.threads;
  journal = s.journal;
  output = s.output;
  peak = s.peak;
}

pub taken_fit : TakenFit
taken_fit = record {
  retrying = λ words k f e. (let r = at_rest words k f e in record { sizes = same_sizes words k _ r.sizes; memory = r.memory; records = r.records; manned = r.manned; under_way = r.jobs });
  leaving = λ words k hart f e. (let r = at_rest words k f e in record { sizes = same_sizes words k _ r.sizes; memory = r.memory; records = r.records; manned = r.manned; under_way = r.jobs });
  waiting = λ words k c f e room runs. (let r = at_rest words k f e in
      record {
        sizes = same_sizes words k _ r.sizes;
        memory = r.memory;
        records = r.records;
        manned = r.manned;
        under_way = record { jobs = r.jobs; room = room; caller = runs };
      });
}
