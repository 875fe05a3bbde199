-- What follows of a kernel that fits.
use Rattle.std.proofs.Common.{ℕ, ◌≡◌, ◌≤◌, ◌==◌, true, cond, Some, None, List, [], arith, refl, ap, sym, ◌∙◌, subst}
use Rattle.std.proofs.lemmas.Bool.Decides.{nat_tests}
use Rattle.osc_paging.proofs.TableLawProofs.{walk_gives_mapping}
use Rattle.osc_space.specs.Space.{Keeps}
use Rattle.osc_space.specs.Finish.{finished, ended}
use Rattle.osc_parts.specs.Frames.{Trades}
use Rattle.osc_parts.proofs.EndParts.{ends_fit}
use Rattle.osc_calls.proofs.RefusalLawProofs.{refused_calls_keep}
use Rattle.osc_calls.specs.Kernel.{KernelState, Process, Committed, Returning, Effect, Nothing, Clears, Starts, Ends, process_at}
use Rattle.osc_calls.specs.Plan.{commit_shown, plan_by, plan_waiting, plan}
use Rattle.osc_calls.specs.Finish.{finish_by, returned, settled, finish}
use Rattle.osc_settled.specs.Memory.{memory_of, at_rest, shared_by, shared, SpaceFits}
use Rattle.osc_settled.specs.Records.{ends_by, ending}
use Rattle.osc_settled.specs.UnderWay.{closing_of, EffectFits, ReturningFits, UnderWayFits}
use Rattle.osc_settled.specs.KernelFits.{KernelFits}
use Rattle.osc_settled.specs.FollowLaws.{WalksFollow, PartsHold, ProcessesApart, RefusedKeep, FinishGives, EndsGive}
use Rattle.osc_settled.proofs.Lists.{one_within}
use Rattle.osc_settled.proofs.Memories.{returns_keeps}
use Rattle.osc_settled.proofs.Apart.{holds_apart}
use Rattle.osc_settled.proofs.Commits.{lives_none}
use Rattle.osc_settled.proofs.Beginning.{at_rest as rests}

pub walks_follow : WalksFollow
walks_follow words k pid root address p access f e lives r =
    walk_gives_mapping p.space.tables k.free _ root address access (f.memory.spaces pid p e lives).tables r

pub parts_hold : PartsHold
parts_hold words k f u =
    let r = rests words k f u in
    record {
      jobs = r.jobs;
      parts = λ pid p e lives. returns_keeps k.config.heap k.config.batch k.regions p.space k.free (r.memory.spaces pid p e lives).returns;
    }

pub processes_apart : ProcessesApart
processes_apart words k a b p q f n e g l m =
    holds_apart k.processes k.regions k.free a b p q (record { uses = f.memory.uses; holders = f.memory.holders }) n e g
    (f.memory.spaces a p e l).frames (f.memory.spaces b q g m).frames

pub refused_keep : RefusedKeep
unfolding plan
refused_keep found k c p u e d =
    ap (λ x. plan_waiting found x k) u ∙ ap (λ o. plan_by found c o k) e ∙ ap (commit_shown c) (refused_calls_keep found c p k e d)

-- ---- returns
itself : (n : ℕ) → (n == n) ≡ true
itself n = grind (arith, nat_tests)

-- the caller's memory while its call is to return
caller_space : (words : List ℕ) (k : KernelState) (done : Committed) (p : Process) → KernelFits words k → k.under_way ≡ Returning done → process_at k done.calling.pid ≡ Some p
    → SpaceFits words (memory_of k) done.closing p.space
caller_space words k done p f u e =
    let r : ReturningFits k done = subst (λ x. UnderWayFits k x) u f.under_way in
    let lives = lives_none p (process_at k done.calling.pid) e r.lives in
    let here : SpaceFits words (memory_of k) (closing_of (Returning done) done.calling.pid) p.space =
    subst (λ x. SpaceFits words (memory_of k) (closing_of x done.calling.pid) p.space) u (f.memory.spaces done.calling.pid p e lives) in
    subst (λ b. SpaceFits words (memory_of k) (cond b done.closing Keeps) p.space) (itself done.calling.pid) here

freed_by_return : (k : KernelState) (done : Committed) (p : Process) (e : Effect) → k.jobs ≡ [] → ends_by done.calling.pid e ≡ None
    → (settled done p e k).free ≡ (finished done.closing (at_rest p.space k.free)).free
freed_by_return k done p Nothing none h = ap (λ js. (finished done.closing (record { space = p.space; free = k.free; jobs = js })).free) none
freed_by_return k done p Clears none h = ap (λ js. (finished done.closing (record { space = p.space; free = k.free; jobs = js })).free) none
freed_by_return k done p (Starts hart start) none h = ap (λ js. (finished done.closing (record { space = p.space; free = k.free; jobs = js })).free) none
freed_by_return k done p (Ends status) none h = absurd (let z : ⊥ = grind (arith, h) in z)

finish_frees : (k : KernelState) (done : Committed) (p : Process) → k.jobs ≡ [] → k.under_way ≡ Returning done → process_at k done.calling.pid ≡ Some p → ending (Returning done) ≡ None
    → (finish k).kernel.free ≡ (finished done.closing (at_rest p.space k.free)).free
unfolding finish
finish_frees k done p none u e h =
    ap (λ x. (finish_by x k).kernel.free) u ∙ ap (λ o. (returned done o k).kernel.free) e ∙ freed_by_return k done p done.effect none h

pub finish_gives : FinishGives
finish_gives words k done p f none u e h =
    let s = caller_space words k done p f u e in
    let is = finish_frees k done p none u e h in
    record {
      blocks = s.returns.blocks;
      frames = is;
      each = subst (λ free. Trades p.space k.free (finished done.closing (at_rest p.space k.free)).space free) (sym is) s.returns.gives;
    }

keeps_at_end : (k : KernelState) (done : Committed) (e : Effect) → EffectFits k done.calling done.closing e → ends_by done.calling.pid e ≡ Some done.calling.pid → done.closing ≡ Keeps
keeps_at_end k done Nothing f h = f
keeps_at_end k done Clears f h = absurd (let z : ⊥ = grind (arith, h) in z)
keeps_at_end k done (Starts hart start) f h = f.0
keeps_at_end k done (Ends status) f h = f

freed_at_end : (k : KernelState) (done : Committed) (p : Process) (e : Effect) → ends_by done.calling.pid e ≡ Some done.calling.pid
    → ((settled done p e k).free ≡ (ended k.regions p.space k.free).free) × ((settled done p e k).regions ≡ (ended k.regions p.space k.free).regions)
freed_at_end k done p Nothing h = absurd (let z : ⊥ = grind (arith, h) in z)
freed_at_end k done p Clears h = absurd (let z : ⊥ = grind (arith, h) in z)
freed_at_end k done p (Starts hart start) h = absurd (let z : ⊥ = grind (arith, h) in z)
freed_at_end k done p (Ends status) h = (refl, refl)

finish_ends : (k : KernelState) (done : Committed) (p : Process) → k.under_way ≡ Returning done → process_at k done.calling.pid ≡ Some p → ending (Returning done) ≡ Some done.calling.pid
    → ((finish k).kernel.free ≡ (ended k.regions p.space k.free).free) × ((finish k).kernel.regions ≡ (ended k.regions p.space k.free).regions)
unfolding finish
finish_ends k done p u e h =
    let freed = freed_at_end k done p done.effect h in (
      ap (λ x. (finish_by x k).kernel.free) u ∙ ap (λ o. (returned done o k).kernel.free) e ∙ freed.0,
      ap (λ x. (finish_by x k).kernel.regions) u ∙ ap (λ o. (returned done o k).kernel.regions) e ∙ freed.1,
    )

pub ends_give : EndsGive
ends_give words k done p f u e h =
    let r : ReturningFits k done = subst (λ x. UnderWayFits k x) u f.under_way in
    let s = caller_space words k done p f u e in
    let t = subst (λ c. SpaceFits words (memory_of k) c p.space) (keeps_at_end k done done.effect r.effect h) s in
    let is = finish_ends k done p u e h in
    record {
      frames = is.0;
      regions = is.1;
      fits = ends_fit k.config.heap k.config.batch k.regions p.space k.free (returns_keeps k.config.heap k.config.batch k.regions p.space k.free t.returns)
          (λ frame. (let a : shared_by frame p ≤ shared frame k.processes = one_within (shared_by frame) k.processes done.calling.pid p e in let b = f.memory.holders frame in omega (arith, a, b)));
    }
