-- The law of causes, by the tests of each reason.
use Rattle.std.proofs.Common.{ℕ, ◌+◌, ◌≡◌, ◌<◌, ◌≤◌, ◌==◌, nat_le, nat_lt, true, false, length, refl, arith}
use Rattle.std.proofs.lemmas.Bool.Decides.{nat_tests}
use Rattle.osc_word.specs.Environment.{thread_limit}
use Rattle.osc_slot.specs.Heap.{free_count}
use Rattle.osc_paging.specs.KeptTables.{need}
use Rattle.osc_space.specs.Fork.{private_frames, fork_reasons}
use Rattle.osc_space.specs.Share.{next_shared_page, share_reasons}
use Rattle.osc_calls.specs.Kernel.{KernelState, Process}
use Rattle.osc_calls.specs.ReasonLaws.{ForkRefused, SpawnRefused, ShareRefused, RefusedForCause}

is-le : (m n : ℕ) → m ≤ n → nat_le m n ≡ true
is-le m n l = grind (arith, nat_tests, l)

no-le : (m n : ℕ) → n < m → nat_le m n ≡ false
no-le m n l = grind (arith, nat_tests, l)

is-lt : (m n : ℕ) → m < n → nat_lt m n ≡ true
is-lt m n l = grind (arith, nat_tests, l)

no-lt : (m n : ℕ) → n ≤ m → nat_lt m n ≡ false
no-lt m n l = grind (arith, nat_tests, l)

no-zero : (count : ℕ) → 0 < count → (count == 0) ≡ false
no-zero count l = grind (arith, nat_tests, l)

fork : (p : Process) (kernel : KernelState) → ForkRefused p kernel
unfolding fork_reasons
fork p kernel = record {
  hart = λ e. rw e refl;
  process = λ hart e l. rw (e, is-le kernel.config.processes (length kernel.processes) l) refl;
  frames = λ hart e l f.
      rw (e, no-le kernel.config.processes (length kernel.processes) l, is-lt (free_count kernel.free) (length (private_frames p.space (length kernel.free))) f) refl;
  none = λ hart e l f.
      rw (e, no-le kernel.config.processes (length kernel.processes) l, no-lt (free_count kernel.free) (length (private_frames p.space (length kernel.free))) f) refl;
}

spawn : (pc sp arg : ℕ) (p : Process) (kernel : KernelState) → SpawnRefused pc sp arg p kernel
spawn pc sp arg p kernel = record {
  hart = λ e. rw e refl;
  thread = λ hart e l. rw (e, no-lt (length kernel.threads) thread_limit l) refl;
  none = λ hart e l. rw (e, is-lt (length kernel.threads) thread_limit l) refl;
}

share : (p : Process) (kernel : KernelState) → ShareRefused p kernel
unfolding share_reasons
share p kernel = record {
  empty = refl;
  frames = λ count some l. rw (no-zero count some, is-lt (free_count kernel.free) (count + need p.space.tables (next_shared_page p.space.tables) count) l) refl;
  none = λ count some l. rw (no-zero count some, no-lt (free_count kernel.free) (count + need p.space.tables (next_shared_page p.space.tables) count) l) refl;
}

pub refused_for_cause : RefusedForCause
refused_for_cause = record { fork = fork; spawn = spawn; share = share }
