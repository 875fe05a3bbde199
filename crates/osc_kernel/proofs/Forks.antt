-- The plan of a fork.
use Rattle.std.proofs.Common.{ℕ, zero, suc, ◌+◌, ◌-◌, ◌≡◌, ◌<◌, ◌≤◌, ◌⊎◌, inl, inr, nat_le, cond, Option, Some, None, is_none, List, [], ◌∷◌, ◌++◌, length, replicate, get_or, slice_get, slice_set, arith, refl, ap, sym, ◌∙◌, subst}
use Rattle.std.specs.List.{count_by}
use Rattle.std.specs.Vec.{vec_capacity}
use Rattle.std.proofs.lemmas.Bool.Decides.{nat_tests}
use Rattle.std.proofs.lemmas.List.{length-append}
use Rattle.std.proofs.lemmas.List.Sums.{sum_by_push}
use Rattle.osc_word.specs.declared.settings.Config.{Config}
use Rattle.osc_word.specs.declared.calls.Answer.TheVariants as answers
use Rattle.osc_word.specs.declared.calls.Call.TheVariants.{Fork}
use Rattle.osc_space.specs.Space.{first_reason}
use Rattle.osc_space.specs.Fork.{fork_reasons}
use Rattle.osc_space.specs.Share.{join}
use Rattle.osc_calls.specs.declared.HartRecord.TheVariants.{Runs}
use Rattle.osc_calls.specs.Kernel.{KernelState, Process, Calling, idle_hart, process_at}
use Rattle.osc_calls.specs.Refusals.{refusal_of}
use Rattle.osc_process.specs.Fits.{HasSomeParts}
use Rattle.osc_process.specs.Parts.{SameSizes, room_for, unused}
use Rattle.osc_settled.proofs.Forking.{none_of}
use Rattle.osc_settled.proofs.Lists.{some_same}
use Rattle.osc_settled.proofs.Spawning.{get-either}
use Rattle.osc_kernel.specs.declared.state.State.{State}
use Rattle.osc_kernel.specs.Inside.{kernel_of}
use Rattle.osc_kernel.specs.Plans.{CanPlan}
use Rattle.osc_kernel.specs.Sound.{AllSized, HasRooms, IsSized, has_not_ended}
use Rattle.osc_kernel.proofs.Heaps.{caller_is}
use Rattle.osc_kernel.proofs.Rooms.{one_by, sized_same}

-- ---- the work space
pub rooms_named : (s t : State) (more : ℕ) → t ≡ record s { names = t.names } → length t.names.items ≡ length s.names.items → HasRooms 0 s → HasRooms more t
rooms_named s t more e l h = subst (λ x. HasRooms more x) (sym e) (record {
  valid = h.valid;
  few = h.few;
  room = h.room;
  rest = h.rest;
  sized = h.sized;
  counted = h.counted;
  reported = (let a = h.reported in omega (arith, a));
  for_reports = h.for_reports;
  for_entries = h.for_entries;
  for_output = h.for_output;
  for_jobs = h.for_jobs;
  named = l ∙ h.named;
})

pub can_named : (s t : State) (c : Calling) → t ≡ record s { names = t.names } → length t.names.items ≡ length s.names.items → CanPlan s c → CanPlan t c
can_named s t c e l can = subst (λ x. CanPlan x c) (sym e) (record {
  caller = can.caller;
  rooms = rooms_named s (record s { names = t.names }) 0 refl l can.rooms;
  keeps = can.keeps;
  pushed = can.pushed;
  done = can.done;
  written = can.written;
  frames = can.frames;
  waits = can.waits;
})

-- ---- what holds where it is not refused
record IsGranted (p : Process) (k : KernelState) : Type 0 where
  pub room : length k.processes < k.config.processes
  pub frames : first_reason (fork_reasons p.space k.free) ≡ None

abbrev pub IsNotRefused : State → Calling → Type 0
IsNotRefused s c = (p : Process) → process_at (kernel_of s) c.pid ≡ Some p → refusal_of Fork p (kernel_of s) ≡ None

granted_is : (p : Process) (k : KernelState) → refusal_of Fork p k ≡ None → IsGranted p k
granted_is p k e =
    let n = none_of (is_none (idle_hart k.records)) (nat_le k.config.processes (length k.processes)) answers.NoHart answers.NoProcess (fork_reasons p.space k.free) e in
    record { room = (let b = n.1 in grind (arith, nat_tests, b)); frames = n.2 }

-- ---- the room for the child
last_room : (n : ℕ) (u x : Process) (rest : List Process) → replicate (suc n) u ≡ rest ++ x ∷ [] → (x ≡ u) × (rest ≡ replicate n u)
last_room zero u x [] e = (let z : x ≡ u = cc in z, refl)
last_room zero u x (y ∷ []) e = absurd (let z : ⊥ = grind (arith, e) in z)
last_room zero u x (y ∷ z ∷ rest) e = absurd (let w : ⊥ = grind (arith, e) in w)
last_room (suc n) u x [] e = absurd (let z : ⊥ = grind (arith, e) in z)
last_room (suc n) u x (y ∷ rest) e =
    let head : u ≡ y = cc in
    let tail : replicate (suc n) u ≡ rest ++ x ∷ [] = cc in
    let on = last_room n u x rest tail in
    (on.0, ap (λ z. z ∷ rest) (sym head) ∙ ap (λ zs. u ∷ zs) on.1)

room_is : (config : Config) (p : Process) → IsSized config p → unused config.levels config.frames config.shadows ≡ room_for p.space
room_is config p z = rw (z.levels, z.count, z.room, z.shadows, z.frames) refl

-- ---- the parent, which is the process of the call
pub parent_at : (s : State) (c : Calling) (i : ℕ) (d x : Process) → CanPlan s c → i ≡ c.pid → x ≡ get_or s.processes.items i d → process_at (kernel_of s) c.pid ≡ Some x
parent_at s c i d x can e g = subst (λ k. slice_get s.processes.items k ≡ Some x) e (caller_is s c i d x can e g)

-- ---- the child
module _ (s : State) (c : Calling) (can : CanPlan s c) (granted : IsNotRefused s c) where
  is_granted : IsGranted can.caller.has.process (kernel_of s)
  is_granted = granted_is can.caller.has.process (kernel_of s) (granted can.caller.has.process can.caller.has.at)

  taken : (room : Process) (rest : List Process) → s.rooms.items ≡ rest ++ room ∷ []
      → (room ≡ unused s.config.levels s.config.frames s.config.shadows)
      × (rest ≡ replicate (s.config.processes - length s.processes.items - 1) (unused s.config.levels s.config.frames s.config.shadows))
  taken room rest e =
      let d = is_granted.room in
      let n : s.config.processes - length s.processes.items ≡ suc (s.config.processes - length s.processes.items - 1) = omega (arith, d) in
      last_room (s.config.processes - length s.processes.items - 1) (unused s.config.levels s.config.frames s.config.shadows) room rest
      (ap (λ k. replicate k (unused s.config.levels s.config.frames s.config.shadows)) (sym n) ∙ (sym can.rooms.rest ∙ e))

  -- what it asks of the parent
  module _ (x : Process) (at : process_at (kernel_of s) c.pid ≡ Some x) where
    same : can.caller.has.process ≡ x
    same = some_same can.caller.has.process x (sym can.caller.has.at ∙ at)

    pub parts : HasSomeParts x.space s.frames
    parts =
        let fits = can.caller.has.fits in
        subst (λ (q : Process). HasSomeParts q.space s.frames) same
        (record { kind = s.config.heap; parts = record { few = fits.few; batch = s.config.batch; regions = s.regions; fit = fits.parts } })

    pub not_refused : first_reason (fork_reasons x.space s.frames) ≡ None
    not_refused = subst (λ (q : Process). first_reason (fork_reasons q.space s.frames) ≡ None) same is_granted.frames

    sized : IsSized s.config x
    sized = can.rooms.sized c.pid x at

    pub last_unused : (room : Process) (rest : List Process) → s.rooms.items ≡ rest ++ room ∷ [] → room ≡ room_for x.space
    last_unused room rest e = (taken room rest e).0 ∙ room_is s.config x sized

    pub child_sized : (child : Process) → SameSizes x.space child.space → IsSized s.config child
    child_sized child e = sized_same s.config x child sized e

-- ---- one process more
sized_more : (config : Config) (ps : List Process) (q : Process) → AllSized config ps → IsSized config q → AllSized config (ps ++ q ∷ [])
sized_more config ps q all one = λ i r e. go i r (get-either ps q i r e)
  where
    go : (i : ℕ) (r : Process) → (slice_get ps i ≡ Some r) ⊎ ((i ≡ length ps) × (q ≡ r)) → IsSized config r
    go i r (inl e) = all i r e
    go i r (inr e) = subst (λ x. IsSized config x) e.1 one

count_more : (ps : List Process) (q : Process) → q.status ≡ None → count_by has_not_ended (ps ++ q ∷ []) ≡ count_by has_not_ended ps + 1
count_more ps q e =
    let a = sum_by_push one_by ps q in
    let b : one_by q ≡ 1 = ap (λ (o : Option ℕ). cond (is_none o) 1 0) e in
    omega (arith, a, b)

-- the fields once the child is made and has its number
pub record IsForked (s m t : State) (child : Process) (hart number : ℕ) : Type 0 where
  pub make : m ≡ record s { frames = m.frames; rooms = m.rooms; jobs = m.jobs; names = m.names }
  pub add : t ≡ record m {
    processes = t.processes;
    unended = m.unended + 1;
    regions = join child.space.tables m.regions;
    records = slice_set m.records hart (Runs number None);
  }
  pub items : t.processes.items ≡ m.processes.items ++ child ∷ []
  pub capacity : vec_capacity m.processes ≤ vec_capacity t.processes

module _ (s m t : State) (child : Process) (hart number : ℕ) (f : IsForked s m t child hart number) where
  abbrev with_child : State
  with_child = record s {
    frames = m.frames;
    rooms = m.rooms;
    jobs = m.jobs;
    names = m.names;
    processes = t.processes;
    unended = s.unended + 1;
    regions = join child.space.tables s.regions;
    records = slice_set s.records hart (Runs number None);
  }

  whole : t ≡ with_child
  whole = f.add ∙ ap (λ (x : State). record x {
    processes = t.processes;
    unended = x.unended + 1;
    regions = join child.space.tables x.regions;
    records = slice_set x.records hart (Runs number None);
  }) f.make

  items_are : t.processes.items ≡ s.processes.items ++ child ∷ []
  items_are = f.items ∙ ap (λ (x : State). x.processes.items ++ child ∷ []) f.make

  pub rooms_forked : (more : ℕ) (c : Calling) → CanPlan s c → IsNotRefused s c → IsSized s.config child → child.status ≡ None
      → m.rooms.items ≡ replicate (s.config.processes - length s.processes.items - 1) (unused s.config.levels s.config.frames s.config.shadows)
      → m.jobs.room ≡ s.jobs.room → length m.names.items ≡ length s.names.items → HasRooms more t
  rooms_forked more c can granted one lives rooms room names =
      let h = can.rooms in
      let below = (is_granted s c can granted).room in
      let len : length t.processes.items ≡ length s.processes.items + 1 = ap (λ ps. length ps) items_are ∙ length-append s.processes.items (child ∷ []) in
      let left : s.config.processes - length s.processes.items - 1 ≡ s.config.processes - length t.processes.items = omega (arith, len) in
      let more_room : vec_capacity s.processes ≤ vec_capacity t.processes = subst (λ (x : State). vec_capacity x.processes ≤ vec_capacity t.processes) f.make f.capacity in
      let room_now : s.config.processes ≤ vec_capacity t.processes = (let a = h.room in omega (arith, a, more_room)) in
      subst (λ x. HasRooms more x) (sym whole) (record {
        valid = h.valid;
        few = omega (arith, below, len);
        room = room_now;
        rest = rooms ∙ ap (λ n. replicate n (unused s.config.levels s.config.frames s.config.shadows)) left;
        sized = subst (λ ps. AllSized s.config ps) (sym items_are) (sized_more s.config s.processes.items child h.sized one);
        counted = (let a = ap (λ ps. count_by has_not_ended ps) items_are in let b = count_more s.processes.items child lives in let d = h.counted in omega (arith, a, b, d));
        reported = (let a = h.reported in omega (arith, a, len));
        for_reports = h.for_reports;
        for_entries = h.for_entries;
        for_output = h.for_output;
        for_jobs = room ∙ h.for_jobs;
        named = names ∙ h.named;
      })
