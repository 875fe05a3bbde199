-- The kernel stays sound in its calls.
use Rattle.std.proofs.Common.{ℕ, ◌≡◌, ◌<◌, ◌==◌, ◌++◌, if◌then◌else◌, Bool, true, false, Option, Some, None, IfSome, is_none, List, [], ◌∷◌, length, map, slice_get, arith, refl, ◌∙◌, ap, subst}
use Rattle.std.proofs.lemmas.Bool.Decides.{nat_tests}
use Rattle.std.proofs.lemmas.Option.{slice_get_within}
use Rattle.osc_word.specs.declared.settings.Config.{Config}
use Rattle.osc_word.specs.declared.calls.Request.{Request}
use Rattle.osc_word.specs.declared.orders.Start.{Start}
use Rattle.osc_word.specs.declared.orders.Order.TheVariants as orders
use Rattle.osc_paging.specs.Boxes.{BoxState}
use Rattle.osc_paging.specs.declared.TableFrame.{TableFrame}
use Rattle.osc_paging.specs.KeptTables.{frame_of, is_piece, root_of}
use Rattle.osc_space.specs.Fork.{table_frame_of, heap_frame_of, image_frames}
use Rattle.osc_space.specs.Share.{shared_frames}
use Rattle.osc_space.specs.Space.{Space}
use Rattle.osc_space.specs.Agree.{AllTaken}
use Rattle.osc_space.specs.Header.{Found}
use Rattle.osc_guest.specs.Ranges.{StartIn, OrderIn, BoxIn}
use Rattle.osc_hart.specs.Within.{NewFits}
use Rattle.osc_calls.specs.declared.HartRecord.{HartRecord}
use Rattle.osc_calls.specs.declared.HartRecord.TheVariants as records
use Rattle.osc_calls.specs.declared.BoxChange.{BoxChange}
use Rattle.osc_calls.specs.declared.BoxChange.TheVariants.{Keep, Clear, Put}
use Rattle.osc_calls.specs.Kernel.{KernelState, Process, Calling, Committed, Effect, Nothing, Clears, Starts, Ends, UnderWay, Quiet, Retrying, Leaving, Waiting, Returning, process_at, root_frame, root, none_lives}
use Rattle.osc_calls.specs.Begin.{begin}
use Rattle.osc_calls.specs.Plan.{plan}
use Rattle.osc_calls.specs.JobDone.{job_done}
use Rattle.osc_calls.specs.Boxes.{is_stopped, end_change, change_of, change_by, box_change, changed}
use Rattle.osc_calls.specs.Finish as finishes
use Rattle.osc_calls.specs.Finish.{finish, finish_by, settled, quiet, hart_left}
use Rattle.osc_machine.specs.Turns.{box_given}
use Rattle.osc_settled.specs.KernelFits.{KernelFits}
use Rattle.osc_settled.specs.Records.{is_living}
use Rattle.osc_settled.specs.UnderWay.{StartFits, EffectFits, UnderWayFits, runs_at}
use Rattle.osc_settled.proofs.Beginning.{begins_keep}
use Rattle.osc_settled.proofs.Plans.{plans_keep}
use Rattle.osc_settled.proofs.JobsDone.{jobs_keep}
use Rattle.osc_settled.proofs.Returning.{finish_keeps}
use Rattle.osc_settled.proofs.Laying.{ranges}
use Rattle.osc_turns.proofs.Config.{begin_kept, plan_kept, done_kept_too}
use Rattle.osc_core.specs.Sound.{KernelSound, HomeSound, HandSound, HasJob}

-- ---- each step of a call
sound_by : (frames harts : ℕ) (k next : KernelState) (words : List ℕ) → KernelSound frames harts k → next.config ≡ k.config → KernelFits words next → KernelSound frames harts next
sound_by frames harts k next words s same fits = record {
  frames_in = ap (λ (c : Config). c.frames) same ∙ s.frames_in;
  harts_in = ap (λ (c : Config). c.harts) same ∙ s.harts_in;
  words = words;
  fits = fits;
}

pub begun_sound : (frames harts hart pc : ℕ) (regs : List ℕ) (request : Request) (k : KernelState) → KernelSound frames harts k → k.under_way ≡ Quiet
    → KernelSound frames harts (begin hart regs pc request k).kernel
begun_sound frames harts hart pc regs request k s q =
    sound_by frames harts k _ s.words s (begin_kept hart regs pc request k) (begins_keep s.words hart pc regs request k s.fits q)

pub planned_sound : (frames harts : ℕ) (found : Found) (k : KernelState) (c : Calling) → KernelSound frames harts k → k.under_way ≡ Waiting c
    → KernelSound frames harts (plan found k).kernel
planned_sound frames harts found k c s w = sound_by frames harts k _ s.words s (plan_kept found k) (plans_keep s.words found k c s.fits w)

pub done_sound : (frames harts word : ℕ) (k : KernelState) → KernelSound frames harts k → HasJob k → KernelSound frames harts (job_done word k).kernel
done_sound frames harts word k s h = sound_by frames harts k _ _ s (done_kept_too word k) (jobs_keep word s.words k h.job h.jobs s.fits h.next)

-- ---- the return
settled_config : (done : Committed) (p : Process) (effect : Effect) (k : KernelState) → (quiet (settled done p effect k)).config ≡ k.config
settled_config done p (Ends status) k = refl
settled_config done p Nothing k = refl
settled_config done p Clears k = refl
settled_config done p (Starts hart start) k = refl

returned_config : (done : Committed) (p : Option Process) (k : KernelState) → (finishes.returned done p k).kernel.config ≡ k.config
returned_config done None k = refl
returned_config done (Some p) k = settled_config done p done.effect k

left_config : (hart : ℕ) (kept : Option HartRecord) (k : KernelState) → (quiet (hart_left hart kept k)).config ≡ k.config
left_config hart None k = refl
left_config hart (Some kept) k = refl

finish_config_by : (u : UnderWay) (k : KernelState) → (finish_by u k).kernel.config ≡ k.config
finish_config_by (Returning done) k = returned_config done (process_at k done.calling.pid) k
finish_config_by (Leaving hart) k = left_config hart (slice_get k.records hart) k
finish_config_by Quiet k = refl
finish_config_by Retrying k = refl
finish_config_by (Waiting c) k = refl

finish_config : (k : KernelState) → (finish k).kernel.config ≡ k.config
unfolding finish
finish_config k = finish_config_by k.under_way k

returned_quiet : (done : Committed) (p : Option Process) (k : KernelState) → (finishes.returned done p k).kernel.under_way ≡ Quiet
returned_quiet done None k = refl
returned_quiet done (Some p) k = refl

finish_quiet_by : (u : UnderWay) (k : KernelState) → (finish_by u k).kernel.under_way ≡ Quiet
finish_quiet_by (Returning done) k = returned_quiet done (process_at k done.calling.pid) k
finish_quiet_by (Leaving hart) k = refl
finish_quiet_by Quiet k = refl
finish_quiet_by Retrying k = refl
finish_quiet_by (Waiting c) k = refl

pub finish_quiet : (k : KernelState) → (finish k).kernel.under_way ≡ Quiet
unfolding finish
finish_quiet k = finish_quiet_by k.under_way k

pub finished_sound : (frames harts : ℕ) (k : KernelState) → KernelSound frames harts k → k.jobs ≡ [] → HomeSound frames harts (Some (finish k).kernel)
finished_sound frames harts k s jobs =
    (sound_by frames harts k _ s.words s (finish_config k) (finish_keeps s.words k s.fits jobs), finish_quiet k)

-- ---- a thread that begins has its topmost table in a frame of the machine
table_taken : (ts : List TableFrame) (others : List ℕ) (free : List Bool) (level number frame : ℕ) → AllTaken free (map table_frame_of ts ++ others)
    → frame_of ts level number ≡ Some frame → frame < length free
table_taken [] others free level number frame a e = absurd (let z : ⊥ = grind (arith, e) in z)
table_taken (t ∷ ts) others free level number frame a e = go (is_piece t.piece level number) refl (table_taken ts others free level number frame a.1)
  where
    go : (b : Bool) → is_piece t.piece level number ≡ b → (frame_of ts level number ≡ Some frame → frame < length free) → frame < length free
    go true b rest =
        let here : Some t.frame ≡ Some frame = rw b at e in
        let same : t.frame ≡ frame = grind (arith, here) in
        subst (λ f. f < length free) same (slice_get_within free t.frame false a.0)
    go false b rest = rest (rw b at e)

root_taken : (frames : ℕ) (s : Space) (others : List ℕ) (free : List Bool) → 0 < frames → length free ≡ frames
    → AllTaken free (map table_frame_of s.tables.tables ++ others) → root_frame s < frames
root_taken frames s others free some count a = go (root_of s.tables) refl
  where
    go : (o : Option ℕ) → root_of s.tables ≡ o → root_frame s < frames
    go None e = rw e some
    go (Some frame) e = rw e (subst (λ n. frame < n) count (table_taken s.tables.tables others free s.tables.top 0 frame a e))

-- the tables stand first
tables_first : (xs ys zs us vs : List ℕ) → (((xs ++ ys) ++ zs) ++ us) ++ vs ≡ xs ++ (((ys ++ zs) ++ us) ++ vs)
tables_first [] ys zs us vs = refl
tables_first (x ∷ xs) ys zs us vs = ap (λ l. x ∷ l) (tables_first xs ys zs us vs)

living : (p : Option Process) → is_living p ≡ true → (q : Process) × (p ≡ Some q) × (q.status ≡ None)
living None e = absurd (let z : ⊥ = grind (arith, e) in z)
living (Some p) e = (p, refl, none p.status e)
  where
    none : (status : Option ℕ) → is_none status ≡ true → status ≡ None
    none None e = refl
    none (Some n) e = absurd (let z : ⊥ = grind (arith, e) in z)

pub root_in_range : (words : List ℕ) (k : KernelState) (pid : ℕ) → KernelFits words k → is_living (process_at k pid) ≡ true → root k pid < k.config.frames
root_in_range words k pid fits lives =
    let l = living (process_at k pid) lives in
    let space = fits.memory.spaces pid l.0 l.1 l.2 in
    let space_of = (l.0).space in
    let tables = map table_frame_of space_of.tables.tables in
    let pages = map heap_frame_of space_of.heap.pages in
    let image = image_frames space_of.tables in
    let aside = map table_frame_of space_of.tables.aside in
    let shared = shared_frames space_of.tables in
    let most = (ranges k.config fits.sizes.config).frames in
    let some : 0 < k.config.frames = grind (arith, most) in
    let taken = subst (AllTaken k.free) (tables_first tables pages image aside shared) space.frames.taken in
    rw l.1 (root_taken k.config.frames space_of (((pages ++ image) ++ aside) ++ shared) k.free some fits.sizes.free taken)

runner : (k : KernelState) (words : List ℕ) (pid hart : ℕ) (kept : Option HartRecord) → KernelFits words k → slice_get k.records hart ≡ kept → runs_at pid kept ≡ true
    → is_living (process_at k pid) ≡ true
runner k words pid hart None fits e r = absurd (let z : ⊥ = grind (arith, r) in z)
runner k words pid hart (Some (records.Runs other thread)) fits e r =
    let same : other ≡ pid = grind (arith, nat_tests, r) in
    subst (λ n. is_living (process_at k n) ≡ true) same (fits.records.lives hart other thread e)
runner k words pid hart (Some _) fits e r = absurd (let z : ⊥ = grind (arith, r) in z)

start_in : (words : List ℕ) (k : KernelState) (caller hart : ℕ) (start : Start) → KernelFits words k → StartFits k caller hart start → StartIn k.config.frames start
start_in words k caller hart start fits s =
    (s.frames, rw s.root (root_in_range words k start.pid fits (runner k words start.pid hart (slice_get k.records hart) fits refl s.runs)))

-- ---- what a call makes of a box
abbrev ChangeIn : ℕ → BoxChange → Type 0
ChangeIn frames Keep = Unit {0}
ChangeIn frames Clear = Unit {0}
ChangeIn frames (Put order) = OrderIn frames order

end_in : (frames : ℕ) (k : KernelState) (pid hart : ℕ) → ChangeIn frames (end_change k pid hart)
end_in frames k pid hart = go (none_lives pid k) (is_stopped pid (slice_get k.records hart)) refl refl
  where
    go : (none stopped : Bool) → none_lives pid k ≡ none → is_stopped pid (slice_get k.records hart) ≡ stopped → ChangeIn frames (end_change k pid hart)
    go true stopped a b = rw a tt
    go false true a b = rw (a, b) tt
    go false false a b = rw (a, b) tt

put_if : (frames new hart : ℕ) (start : Start) → StartIn frames start → ChangeIn frames (if new == hart then Put (orders.Start start) else Keep)
put_if frames new hart start s = go (new == hart) refl
  where
    go : (b : Bool) → (new == hart) ≡ b → ChangeIn frames (if new == hart then Put (orders.Start start) else Keep)
    go true e = rw e s
    go false e = rw e tt

effect_in : (words : List ℕ) (k : KernelState) (done : Committed) (effect : Effect) (hart : ℕ) → KernelFits words k → k.under_way ≡ Returning done → done.effect ≡ effect
    → ChangeIn k.config.frames (change_of k done.calling.pid hart effect)
effect_in words k done Nothing hart fits u e = tt
effect_in words k done Clears hart fits u e = tt
effect_in words k done (Ends status) hart fits u e = end_in k.config.frames k done.calling.pid hart
effect_in words k done (Starts new start) hart fits u e =
    let returning = subst (UnderWayFits k) u fits.under_way in
    let effect = subst (EffectFits k done.calling done.closing) e returning.effect in
    put_if k.config.frames new hart start (start_in words k done.calling.hart new start fits effect.1)

by_in : (words : List ℕ) (k : KernelState) (hart : ℕ) (u : UnderWay) → KernelFits words k → k.under_way ≡ u → ChangeIn k.config.frames (change_by k hart u)
by_in words k hart (Returning done) fits u = effect_in words k done done.effect hart fits u refl
by_in words k hart Quiet fits u = tt
by_in words k hart Retrying fits u = tt
by_in words k hart (Leaving other) fits u = tt
by_in words k hart (Waiting c) fits u = tt

change_in : (words : List ℕ) (k : KernelState) (hart : ℕ) → KernelFits words k → ChangeIn k.config.frames (box_change hart k)
unfolding box_change
change_in words k hart fits = by_in words k hart k.under_way fits refl

changed_in : (frames : ℕ) (change : BoxChange) (box : BoxState) → NewFits → ChangeIn frames change → BoxIn frames box → BoxIn frames (changed change box)
changed_in frames Keep box new c b = b
changed_in frames Clear box new c b = ((new frames).0, b.1)
changed_in frames (Put order) box new c b = ((new frames).0, c)

pub given_in : (frames harts hart : ℕ) (kernel : Option KernelState) (held : Option BoxState) → NewFits → HandSound frames harts kernel → IfSome held (BoxIn frames)
    → BoxIn frames (box_given hart kernel held)
unfolding box_given
given_in frames harts hart (Some k) (Some box) new s b =
    changed_in frames (box_change hart k) box new (subst (λ n. ChangeIn n (box_change hart k)) s.frames_in (change_in s.words k hart s.fits)) b
given_in frames harts hart None (Some box) new s b = b
given_in frames harts hart kernel None new s b = new frames
