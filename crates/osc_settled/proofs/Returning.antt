-- A kernel that is given back keeps what holds, by cases on the call under way.
use Rattle.std.proofs.Common.{ℕ, ◌≡◌, Option, Some, None, List, [], slice_get, arith, refl, ap, sym, ◌∙◌, subst}
use Rattle.osc_calls.specs.Kernel.{KernelState, Process, Committed, UnderWay, Quiet, Retrying, Leaving, Waiting, Returning, Effect, Nothing, Clears, Starts, Ends, process_at}
use Rattle.osc_calls.specs.Finish.{hart_left, settled, returned, finish_by, finish}
use Rattle.osc_settled.specs.Memory.{memory_of, MemoryFits}
use Rattle.osc_settled.specs.Records.{is_living, ends_by, ending, RecordsFit, AllManned}
use Rattle.osc_settled.specs.UnderWay.{closing_of, EffectFits, ReturningFits, UnderWayFits}
use Rattle.osc_settled.specs.KernelFits.{SizesFit, KernelFits}
use Rattle.osc_settled.specs.KeepLaws.{FinishKeeps}
use Rattle.osc_settled.proofs.Commits.{lives_none}
use Rattle.osc_settled.proofs.Beginning.{AtRest, rests_quiet}
use Rattle.osc_settled.proofs.Finishing.{returned_rests, left_rests}
use Rattle.osc_settled.proofs.Gone.{gone_rests}

settled_rests : (words : List ℕ) (k : KernelState) (done : Committed) (p : Process) (e : Effect) → SizesFit words k → MemoryFits words (memory_of k) (closing_of (Returning done))
    → RecordsFit k.processes k.threads k.records (ends_by done.calling.pid e) → AllManned k.processes k.records (ends_by done.calling.pid e) → ReturningFits k done → k.jobs ≡ [] → process_at k done.calling.pid ≡ Some p → done.effect ≡ e
    → AtRest words (settled done p e k)
settled_rests words k done p Nothing s m r v u none at is = returned_rests words k done p s m r v u none at
settled_rests words k done p Clears s m r v u none at is = returned_rests words k done p s m r v u none at
settled_rests words k done p (Starts hart start) s m r v u none at is = returned_rests words k done p s m r v u none at
settled_rests words k done p (Ends status) s m r v u none at is =
    gone_rests words k done.calling.pid status p done.closing s m (subst (λ e. EffectFits k done.calling done.closing e) is u.effect) r v none at
    (lives_none p (process_at k done.calling.pid) at u.lives)

returned_fits : (words : List ℕ) (k : KernelState) (done : Committed) (o : Option Process) → SizesFit words k → MemoryFits words (memory_of k) (closing_of (Returning done))
    → RecordsFit k.processes k.threads k.records (ends_by done.calling.pid done.effect) → AllManned k.processes k.records (ends_by done.calling.pid done.effect) → ReturningFits k done → k.jobs ≡ [] → process_at k done.calling.pid ≡ o
    → KernelFits words (returned done o k).kernel
returned_fits words k done None s m r v u none e = absurd (let z = sym u.lives ∙ ap is_living e in let w : ⊥ = grind (arith, z) in w)
returned_fits words k done (Some p) s m r v u none e =
    rests_quiet words (settled done p done.effect k) (settled_rests words k done p done.effect s m r v u none e refl)

finish_fits : (words : List ℕ) (k : KernelState) (u : UnderWay) → SizesFit words k → MemoryFits words (memory_of k) (closing_of u)
    → RecordsFit k.processes k.threads k.records (ending u) → AllManned k.processes k.records (ending u) → UnderWayFits k u → k.jobs ≡ [] → KernelFits words (finish_by u k).kernel
finish_fits words k Quiet s m r v u none = rests_quiet words k (record { sizes = s; memory = m; records = r; manned = v; jobs = none })
finish_fits words k Retrying s m r v u none = rests_quiet words k (record { sizes = s; memory = m; records = r; manned = v; jobs = none })
finish_fits words k (Leaving hart) s m r v u none =
    rests_quiet words (hart_left hart (slice_get k.records hart) k)
    (left_rests words k hart (slice_get k.records hart) refl (record { sizes = s; memory = m; records = r; manned = v; jobs = none }))
finish_fits words k (Waiting c) s m r v u none = rests_quiet words k (record { sizes = s; memory = m; records = r; manned = v; jobs = none })
finish_fits words k (Returning done) s m r v u none = returned_fits words k done (process_at k done.calling.pid) s m r v u none refl

pub finish_keeps : FinishKeeps
unfolding finish
finish_keeps words k f none = finish_fits words k k.under_way f.sizes f.memory f.records f.manned f.under_way none
