-- What a plan leaves, by what it does to the process of its call and to the others.
use Rattle.std.proofs.Common.{ℕ, ◌≡◌, ◌≢◌, ◌<◌, ◌==◌, not, nat_lt, ◌&&◌, ◌||◌, inl, if◌then◌else◌, Bool, true, false, Some, None, List, [], ◌∷◌, slice_get, slice_set, arith, refl, sym, ap, subst, ◌∙◌}
use Rattle.std.specs.List.{list_any}
use Rattle.std.proofs.lemmas.Bool.Decides.{nat_tests}
use Rattle.osc_word.specs.declared.calls.Answer.TheVariants.{Nothing}
use Rattle.osc_word.specs.declared.job_list.Job.{Job}
use Rattle.osc_word.specs.declared.job_list.Job.TheVariants.{PutWord, ZeroWords, CopyWords, CopyPart, CopyTable, ClearBox, Tell, ToOut}
use Rattle.osc_paging.specs.KeptTables.{KeptTables}
use Rattle.osc_paging.specs.CopyLaws.{IsTable, WritesElsewhere, AllElsewhere}
use Rattle.osc_space.specs.Space.{Closing, Keeps, GivesBack}
use Rattle.osc_calls.specs.Kernel.{KernelState, Process, Calling, Committed, Waiting, Returning, process_at}
use Rattle.osc_calls.specs.Planned.{Planned}
use Rattle.osc_calls.specs.Plan.{committed}
use Rattle.osc_settled.specs.UnderWay.{made_by}
use Rattle.osc_settled.specs.KernelFits.{KernelFits}
use Rattle.osc_settled.proofs.Lists.{get-put_same, get-put_other}
use Rattle.osc_settled.proofs.Memories.{returns_keeps}
use Rattle.osc_settled.proofs.Outcomes.{Asks}
use Rattle.osc_showing.specs.Showing.{closes, is_closed, clears, AllDue}
use Rattle.osc_showing.specs.PlanTurns.{cleared_by}
use Rattle.osc_showing.proofs.Folds.{apart-frames}
use Rattle.osc_caches.proofs.KeptShown.{kept_shown}
use Rattle.osc_relying.specs.Relying.{answer_for}
use Rattle.osc_lasting.specs.Lasting.{Lasts, each_hart}
use Rattle.osc_lasting.proofs.Carried.{Carried, same-carried, IsCalm, carries-last}

-- ---- jobs elsewhere make no table of these
closes-elsewhere : (t : KeptTables) (job : Job) (f : ℕ) → WritesElsewhere t job → IsTable t f → closes job f ≡ false
closes-elsewhere t (ZeroWords at count) f w h = apart-frames t f at.frame (inl h) w.1
closes-elsewhere t (CopyTable from to) f w h = apart-frames t f to (inl h) w
closes-elsewhere t (PutWord at value) f w h = refl
closes-elsewhere t (CopyWords from to count) f w h = refl
closes-elsewhere t (CopyPart from to bytes) f w h = refl
closes-elsewhere t (ClearBox hart) f w h = refl
closes-elsewhere t (Tell hart) f w h = refl
closes-elsewhere t (ToOut at first count) f w h = refl

elsewhere-open : (t : KeptTables) (jobs : List Job) (f : ℕ) → AllElsewhere t jobs → IsTable t f → is_closed jobs f ≡ false
elsewhere-open t [] f w h = refl
elsewhere-open t (job ∷ jobs) f w h = let a = closes-elsewhere t job f w.0 h in let b = elsewhere-open t jobs f w.1 h in grind (arith, a, b)

-- ---- what a plan does
pub record Leaves (k : KernelState) (c : Calling) (p : Process) (made : Planned) : Type 0 where
  pub own : Process
  pub is : process_at made.kernel c.pid ≡ Some own
  pub lives : own.status ≡ p.status
  pub carried : Carried p.space own.space made.answer made.kernel.jobs
  pub due : AllDue (cleared_by k.config.harts made.closing) made.kernel.jobs
  pub harts : made.kernel.config.harts ≡ k.config.harts
  pub others : (pid : ℕ) (x : Process) → pid ≢ c.pid → process_at k pid ≡ Some x → process_at made.kernel pid ≡ Some x
  -- the process for which its jobs are
  pub maker : Process
  pub maker_is : process_at made.kernel (made_by made.effect c.pid) ≡ Some maker
  pub maker_lives : maker.status ≡ None
  pub apart : (pid : ℕ) (x : Process) → pid ≢ c.pid → process_at k pid ≡ Some x → pid ≢ made_by made.effect c.pid

-- one that changes no process
pub same-leaves : (k : KernelState) (c : Calling) (p : Process) (made : Planned) → process_at k c.pid ≡ Some p → p.status ≡ None → made.kernel.processes ≡ k.processes → made.kernel.config.harts ≡ k.config.harts
    → made_by made.effect c.pid ≡ c.pid → made.closing ≡ Keeps → ((f : ℕ) → is_closed made.kernel.jobs f ≡ false) → Leaves k c p made
same-leaves k c p made here lives same harts by keeps opens = record {
  own = p;
  is = ap (λ ps. slice_get ps c.pid) same ∙ here;
  lives = refl;
  carried = same-carried p.space made.answer made.kernel.jobs (λ f h. opens f);
  due = subst (λ z. AllDue (cleared_by k.config.harts z) made.kernel.jobs) (sym keeps) (λ hart l. absurd (omega (arith, l)));
  harts = harts;
  others = λ pid x n e. ap (λ ps. slice_get ps pid) same ∙ e;
  maker = p;
  maker_is = ap (λ q. process_at made.kernel q) by ∙ ap (λ ps. slice_get ps c.pid) same ∙ here;
  maker_lives = lives;
  apart = λ pid x n e same_pid. n (same_pid ∙ by);
}

-- one that changes the process of the call
pub put-leaves : (k : KernelState) (c : Calling) (p own : Process) (made : Planned) → process_at k c.pid ≡ Some p → p.status ≡ None → own.status ≡ p.status → made.kernel.processes ≡ slice_set k.processes c.pid own → made.kernel.config.harts ≡ k.config.harts
    → made_by made.effect c.pid ≡ c.pid → Carried p.space own.space made.answer made.kernel.jobs → AllDue (cleared_by k.config.harts made.closing) made.kernel.jobs → Leaves k c p made
put-leaves k c p own made here lives status same harts by carried due = record {
  own = own;
  is = there;
  lives = status;
  carried = carried;
  due = due;
  harts = harts;
  others = λ pid x n e. ap (λ ps. slice_get ps pid) same ∙ get-put_other k.processes c.pid pid own (λ q. n (sym q)) ∙ e;
  maker = own;
  maker_is = ap (λ q. process_at made.kernel q) by ∙ there;
  maker_lives = status ∙ lives;
  apart = λ pid x n e same_pid. n (same_pid ∙ by);
}
  where
    there : process_at made.kernel c.pid ≡ Some own
    there = ap (λ ps. slice_get ps c.pid) same ∙ get-put_same k.processes c.pid p own here

-- ---- before the plan
-- what a kernel whose call waits has
pub calm : (words : List ℕ) (k : KernelState) (c : Calling) → Asks words k c → k.under_way ≡ Waiting c → (pid : ℕ) (p : Process) → process_at k pid ≡ Some p → p.status ≡ None → IsCalm k pid p
calm words k c a u pid p here lives =
    let parts = returns_keeps k.config.heap k.config.batch k.regions p.space k.free (a.memory.spaces pid p here lives).returns in
    record { none = ap (λ x. answer_for x pid) u; aside = parts.agrees.aside }

-- ---- after the commit
-- the process of this number is that of the call, or not
record Picked (k : KernelState) (made : Planned) (pid : ℕ) (p : Process) (own : Bool) : Type 0 where
  after : Process
  is : process_at made.kernel pid ≡ Some after
  lives : after.status ≡ None
  carried : Carried p.space after.space (if own then made.answer else Nothing) made.kernel.jobs
  keeps : (n : ℕ) → n < k.config.harts → (not (own && nat_lt 0 (cleared_by made.kernel.config.harts made.closing)) || list_any (clears n) made.kernel.jobs) ≡ true

keeps-due : (k : KernelState) (made : Planned) (closing : Closing) (harts : ℕ) → AllDue (cleared_by harts closing) made.kernel.jobs → (n : ℕ) → n < harts → (not (nat_lt 0 (cleared_by harts closing)) || list_any (clears n) made.kernel.jobs) ≡ true
keeps-due k made Keeps harts due n l = refl
keeps-due k made (GivesBack blocks) harts due n l = let d = due n l in grind (arith, d)

pub committed-last : (words : List ℕ) (k : KernelState) (c : Calling) (p : Process) (made : Planned) → Asks words k c → k.under_way ≡ Waiting c → process_at k c.pid ≡ Some p → Leaves k c p made → KernelFits words (committed c made)
    → Lasts k (committed c made) each_hart
committed-last words k c p made a u here leaves fits = carries-last k (committed c made) (calm words k c a u)
    (λ pid q there lives. (let x = picked pid q there lives (c.pid == pid) refl in record { after = x.after; is = x.is; lives = x.lives; carried = x.carried; keeps = x.keeps }))
  where
    done : Committed
    done = record { calling = c; answer = made.answer; effect = made.effect; closing = made.closing }

    picked : (pid : ℕ) (q : Process) → process_at k pid ≡ Some q → q.status ≡ None → (b : Bool) → (c.pid == pid) ≡ b → Picked k made pid q b
    picked pid q there lives true d =
        let own : c.pid ≡ pid = grind (arith, nat_tests, d) in
        let same : p ≡ q = (let f : Some p ≡ Some q = sym here ∙ ap (λ z. process_at k z) own ∙ there in cc) in
        record {
          after = leaves.own;
          is = ap (λ z. process_at made.kernel z) (sym own) ∙ leaves.is;
          lives = leaves.lives ∙ ap (λ (z : Process). z.status) same ∙ lives;
          carried = subst (λ (z : Process). Carried z.space leaves.own.space made.answer made.kernel.jobs) same leaves.carried;
          keeps = λ n l. subst (λ h. (not (nat_lt 0 (cleared_by h made.closing)) || list_any (clears n) made.kernel.jobs) ≡ true) (sym leaves.harts) (keeps-due k made made.closing k.config.harts leaves.due n l);
        }
    picked pid q there lives false d =
        let other : pid ≢ c.pid = (let z : c.pid ≢ pid = grind (arith, nat_tests, d) in λ e. z (sym e)) in
        record {
          after = q;
          is = leaves.others pid q other there;
          lives = lives;
          carried = same-carried q.space Nothing made.kernel.jobs (λ f h. elsewhere-open q.space.tables made.kernel.jobs f
              (kept_shown.others words (committed c made) done pid q leaves.maker fits refl (leaves.apart pid q other there) (leaves.others pid q other there) lives leaves.maker_is leaves.maker_lives) h);
          keeps = λ n l. refl;
        }

-- the jobs of a fork make no table of the caller
pub other-open : (words : List ℕ) (k : KernelState) (done : Committed) (pid : ℕ) (p maker : Process) → KernelFits words k → k.under_way ≡ Returning done → pid ≢ made_by done.effect done.calling.pid → process_at k pid ≡ Some p → p.status ≡ None
    → process_at k (made_by done.effect done.calling.pid) ≡ Some maker → maker.status ≡ None → (f : ℕ) → IsTable p.space.tables f → is_closed k.jobs f ≡ false
other-open words k done pid p maker fits u apart here lives is alive f h = elsewhere-open p.space.tables k.jobs f (kept_shown.others words k done pid p maker fits u apart here lives is alive) h
