-- The state of the kernel that the fields stand for. This project's own.
use Rattle.std.specs.Prelude.{drop}
use Rattle.osc_space.specs.Space.{Closing}
use Rattle.osc_calls.specs.Kernel.{KernelState, UnderWay, Quiet, Retrying, Leaving, Waiting, Returning}
use Rattle.osc_under_way.specs.Effects.{effect_of}
use Rattle.osc_kernel.specs.declared.state.State.{State}
use Rattle.osc_kernel.specs.declared.state.UnderWay.{UnderWay as Doing}
use Rattle.osc_kernel.specs.declared.state.UnderWay.TheVariants as doing
use Rattle.osc_kernel.specs.Seen.{SeenKernel}

abbrev pub under_way_of : Doing → Closing → UnderWay
under_way_of doing.Quiet closing = Quiet
under_way_of doing.Retrying closing = Retrying
under_way_of (doing.Leaving hart) closing = Leaving hart
under_way_of (doing.Waiting calling) closing = Waiting calling
under_way_of (doing.Returning calling answer effect) closing =
    Returning (record { calling = calling; answer = answer; effect = effect_of effect; closing = closing })

abbrev pub kernel_of : State → KernelState
kernel_of s = record {
  config = s.config;
  free = s.frames;
  processes = s.processes.items;
  regions = s.regions;
  threads = s.threads;
  records = s.records;
  journal = s.journal.items;
  output = s.output.items;
  reports = s.reports.items;
  jobs = drop s.done s.jobs.pushed;
  under_way = under_way_of s.under_way s.closing;
  peak = s.peak;
}

abbrev pub seen_of : State → SeenKernel
seen_of s = record { kernel = kernel_of s; shown = s.shown; freed = s.freed }
