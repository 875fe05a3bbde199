-- The topmost table of a process.
use Rattle.std.proofs.Common.{List, slice_get, ap, sym, ◌∙◌}
use Rattle.osc_calls.specs.Kernel.{Process}
use Rattle.osc_kernel.specs.Inside.{kernel_of}
use Rattle.osc_kernel.proofs.Rooms.{item_at}
use Rattle.osc_kernel.proofs.Showing.{has_root}
use Rattle.osc_kernel.proofs.spaces.root.Goals as goal

pub root_of-requires : goal.root_of-requires
root_of-requires c = record {
  opened = λ lives.
      has_root (kernel_of c.args.state.now) c.args.pid _ c.requires.sound.fits
      (ap (λ (xs : List Process). slice_get xs c.args.pid) (sym c.as_slice-processes.ensures.value)
      ∙ item_at c.as_slice-processes.result.now c.args.pid _ _ c.if-index-processes.true c.index-processes-index.is) lives;
}
