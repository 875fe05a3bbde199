-- The rooms, where other fields change.
use Rattle.std.proofs.Common.{ℕ, zero, suc, ◌+◌, ◌-◌, ◌≡◌, ◌≢◌, ◌<◌, ◌≤◌, ◌==◌, Bool, true, false, cond, Option, Some, None, is_none, List, [], ◌∷◌, length, replicate, slice_get, slice_set, get_or, Vec, arith, refl, ap, sym, ◌∙◌, subst}
use Rattle.std.specs.List.{count_by}
use Rattle.std.specs.Vec.{vec_capacity, with_item}
use Rattle.std.specs.declared.alloc.Global.{Global}
use Rattle.std.proofs.lemmas.Bool.Decides.{nat_tests}
use Rattle.std.proofs.lemmas.List.Sums.{sum_by-cons}
use Rattle.osc_word.specs.JobList.{JobList}
use Rattle.osc_word.specs.declared.settings.Config.{Config}
use Rattle.osc_word.specs.declared.steps.Label.{Label}
use Rattle.osc_space.specs.Space.{Closing}
use Rattle.osc_calls.specs.declared.Thread.{Thread}
use Rattle.osc_calls.specs.declared.HartRecord.{HartRecord}
use Rattle.osc_calls.specs.declared.Report.{Report}
use Rattle.osc_calls.specs.Kernel.{Process}
use Rattle.osc_process.specs.Parts.{SameSizes, unused}
use Rattle.osc_ready.specs.Found.{HasProcess}
use Rattle.osc_settled.proofs.Lists.{get-put_same, get-put_other, length-put, sum-put, some_same}
use Rattle.osc_kernel.specs.declared.state.State.{State}
use Rattle.osc_kernel.specs.declared.state.UnderWay.{UnderWay as Doing}
use Rattle.osc_kernel.specs.Inside.{kernel_of}
use Rattle.osc_kernel.specs.Sound.{HasRooms, AllSized, IsSized, ends_one, has_not_ended}
use Rattle.osc_under_way.specs.declared.effects.Effect.{Effect as Does}
use Rattle.osc_under_way.specs.Effects.{effect_of}
use Rattle.osc_kernel.specs.Returns.{Settles}

-- fields that have no room
pub rooms_kept : (s : State) (frames : List Bool) (regions : List ℕ) (threads : List Thread) (records : List HartRecord) (pending : ℕ) (under_way : Doing) (closing : Closing) (shown : Option Label) (freed : List ℕ) (peak ends more : ℕ)
    → ends ≤ more → HasRooms ends s
    → HasRooms more (record s { frames = frames; regions = regions; threads = threads; records = records; pending = pending; under_way = under_way; closing = closing; shown = shown; freed = freed; peak = peak })
rooms_kept s frames regions threads records pending under_way closing shown freed peak ends more l h = record {
  valid = h.valid;
  few = h.few;
  room = h.room;
  rest = h.rest;
  sized = h.sized;
  counted = h.counted;
  reported = (let a = h.reported in omega (arith, a, l));
  for_reports = h.for_reports;
  for_entries = h.for_entries;
  for_output = h.for_output;
  for_jobs = h.for_jobs;
  named = h.named;
}

pub rooms_records : (s t : State) (records : List HartRecord) (ends more : ℕ) → t ≡ record s { records = records } → ends ≤ more → HasRooms ends s → HasRooms more t
rooms_records s t records ends more e l h =
    subst (λ x. HasRooms more x) (sym e) (rooms_kept s s.frames s.regions s.threads records s.pending s.under_way s.closing s.shown s.freed s.peak ends more l h)

-- ---- processes that have not ended
abbrev pub one_by : Process → ℕ
one_by p = cond (has_not_ended p) 1 0

pub some_count : (ps : List Process) (pid : ℕ) (p : Process) → slice_get ps pid ≡ Some p → p.status ≡ None → 0 < count_by has_not_ended ps
some_count [] pid p e l = absurd (let z : ⊥ = grind (arith, e) in z)
some_count (q ∷ ps) zero p e l =
    let same : q ≡ p = cc in
    let one : one_by q ≡ 1 = ap one_by same ∙ ap (λ (s : Option ℕ). cond (is_none s) 1 0) l in
    let a = sum_by-cons one_by q ps in
    omega (arith, a, one)
some_count (q ∷ ps) (suc pid) p e l = let a = some_count ps pid p e l in let b = sum_by-cons one_by q ps in omega (arith, a, b)

pub unended : (s : State) (ends pid : ℕ) → HasRooms ends s → HasProcess (kernel_of s) pid → 0 < s.unended
unended s ends pid h p = let a = some_count s.processes.items pid p.process p.at p.fits.lives in let b = h.counted in omega (arith, a, b)

pub report_room : (s : State) (pid : ℕ) → HasRooms 0 s → HasProcess (kernel_of s) pid → length s.reports.items < vec_capacity s.reports
report_room s pid h p =
    let a = unended s 0 pid h p in
    let b = h.reported in
    let d = h.few in
    let e = h.for_reports in
    omega (arith, a, b, d, e)

-- a report is made of a process that ends
pub rooms_reports : (s t : State) (reports : Vec Report Global) (records : List HartRecord) (more : ℕ) → t ≡ record s { reports = reports; records = records } → length reports.items ≡ length s.reports.items + 1
    → vec_capacity s.reports ≤ vec_capacity reports → more ≡ 1 → HasRooms 0 s → HasRooms more t
rooms_reports s t reports records more e l v one h = subst (λ x. HasRooms more x) (sym e) (record {
  valid = h.valid;
  few = h.few;
  room = h.room;
  rest = h.rest;
  sized = h.sized;
  counted = h.counted;
  reported = (let a = h.reported in omega (arith, a, l, one));
  for_reports = (let a = h.for_reports in omega (arith, a, v));
  for_entries = h.for_entries;
  for_output = h.for_output;
  for_jobs = h.for_jobs;
  named = h.named;
})

-- ---- one process changes
pub item_is : {X : Type 0} (xs : List X) (i : ℕ) (d y : X) → slice_get xs i ≡ Some y → get_or xs i d ≡ y
item_is [] i d y e = absurd (let z : ⊥ = grind (arith, e) in z)
item_is (x ∷ xs) zero d y e = some_same x y e
item_is (x ∷ xs) (suc i) d y e = item_is xs i d y e

pub sized_same : (config : Config) (p q : Process) → IsSized config p → SameSizes p.space q.space → IsSized config q
sized_same config p q h e = record {
  levels = ap suc e.top ∙ h.levels;
  room = e.room ∙ h.room;
  count = e.count ∙ h.count;
  shadows = e.shadows ∙ h.shadows;
  frames = e.frames ∙ h.frames;
}

all_sized_put : (config : Config) (ps : List Process) (pid : ℕ) (p q : Process) → slice_get ps pid ≡ Some p → SameSizes p.space q.space → AllSized config ps → AllSized config (slice_set ps pid q)
all_sized_put config ps pid p q e same h = λ i r g. go i r (pid == i) refl g
  where
    go : (i : ℕ) (r : Process) (b : Bool) → (pid == i) ≡ b → slice_get (slice_set ps pid q) i ≡ Some r → IsSized config r
    go i r true d g =
        let is : pid ≡ i = grind (arith, nat_tests, d) in
        let new = get-put_same ps pid p q e in
        let at = subst (λ k. slice_get (slice_set ps pid q) k ≡ Some r) (sym is) g in
        subst (λ x. IsSized config x) (some_same q r (sym new ∙ at)) (sized_same config p q (h pid p e) same)
    go i r false d g =
        let other : pid ≢ i = grind (arith, nat_tests, d) in
        h i r (sym (get-put_other ps pid i q other) ∙ g)

same_count : (ps : List Process) (pid : ℕ) (p q : Process) → slice_get ps pid ≡ Some p → q.status ≡ p.status → count_by has_not_ended (slice_set ps pid q) ≡ count_by has_not_ended ps
same_count ps pid p q e l =
    let a = sum-put one_by ps pid p q e in
    let b : one_by q ≡ one_by p = ap (λ (s : Option ℕ). cond (is_none s) 1 0) l in
    omega (arith, a, b)

pub rooms_process : (s : State) (pid : ℕ) (p q : Process) (frames : List Bool) (regions : List ℕ) (jobs : JobList) (closing : Closing) (more : ℕ)
    → slice_get s.processes.items pid ≡ Some p → q.status ≡ p.status → SameSizes p.space q.space → jobs.room ≡ s.jobs.room → HasRooms 0 s
    → HasRooms more (record s { frames = frames; regions = regions; processes = with_item s.processes pid q; jobs = jobs; closing = closing })
rooms_process s pid p q frames regions jobs closing more e l same r h = record {
  valid = h.valid;
  few = (let a = length-put s.processes.items pid q in let b = h.few in omega (arith, a, b));
  room = h.room;
  rest = h.rest ∙ ap (λ n. replicate (s.config.processes - n) (unused s.config.levels s.config.frames s.config.shadows)) (sym (length-put s.processes.items pid q));
  sized = all_sized_put s.config s.processes.items pid p q e same h.sized;
  counted = h.counted ∙ sym (same_count s.processes.items pid p q e l);
  reported = (let a = h.reported in let b = length-put s.processes.items pid q in omega (arith, a, b));
  for_reports = h.for_reports;
  for_entries = h.for_entries;
  for_output = h.for_output;
  for_jobs = r ∙ h.for_jobs;
  named = h.named;
}

-- ---- one process ends
ended_count : (ps : List Process) (pid status : ℕ) (p q : Process) → slice_get ps pid ≡ Some p → p.status ≡ None → q.status ≡ Some status
    → count_by has_not_ended (slice_set ps pid q) + 1 ≡ count_by has_not_ended ps
ended_count ps pid status p q e l m =
    let a = sum-put one_by ps pid p q e in
    let b : one_by p ≡ 1 = ap (λ (s : Option ℕ). cond (is_none s) 1 0) l in
    let d : one_by q ≡ 0 = ap (λ (s : Option ℕ). cond (is_none s) 1 0) m in
    omega (arith, a, b, d)

pub rooms_ended : (s : State) (pid status : ℕ) (p q : Process) (frames : List Bool) (regions : List ℕ) (unended : ℕ)
    → slice_get s.processes.items pid ≡ Some p → p.status ≡ None → q.status ≡ Some status → SameSizes p.space q.space → unended ≡ s.unended - 1 → HasRooms 1 s
    → HasRooms 0 (record s { frames = frames; regions = regions; processes = with_item s.processes pid q; unended = unended })
rooms_ended s pid status p q frames regions unended e l m same n h = record {
  valid = h.valid;
  few = (let a = length-put s.processes.items pid q in let b = h.few in omega (arith, a, b));
  room = h.room;
  rest = h.rest ∙ ap (λ n. replicate (s.config.processes - n) (unused s.config.levels s.config.frames s.config.shadows)) (sym (length-put s.processes.items pid q));
  sized = all_sized_put s.config s.processes.items pid p q e same h.sized;
  counted = (let a = ended_count s.processes.items pid status p q e l m in let b = h.counted in omega (arith, a, b, n));
  reported = (let a = h.reported in let b = length-put s.processes.items pid q in let d = some_count s.processes.items pid p e l in let k = h.counted in omega (arith, a, b, d, k, n));
  for_reports = h.for_reports;
  for_entries = h.for_entries;
  for_output = h.for_output;
  for_jobs = h.for_jobs;
  named = h.named;
}

pub some_unended : (s : State) (ends pid : ℕ) (p : Process) → HasRooms ends s → slice_get s.processes.items pid ≡ Some p → p.status ≡ None → 0 < s.unended
some_unended s ends pid p h e l = let a = some_count s.processes.items pid p e l in let b = h.counted in omega (arith, a, b)

-- ---- an element that is there
pub item_at : {X : Type 0} (xs : List X) (i : ℕ) (d x : X) → i < length xs → x ≡ get_or xs i d → slice_get xs i ≡ Some x
item_at [] i d x l e = absurd (omega arith)
item_at (y ∷ xs) zero d x l e = ap (λ z. Some z) (sym e)
item_at (y ∷ xs) (suc i) d x l e = item_at xs i d x (omega (arith, l)) e

-- jobs, threads and records
pub rooms_jobs : (s : State) (threads : List Thread) (records : List HartRecord) (jobs : JobList) (more : ℕ)
    → jobs.room ≡ s.jobs.room → HasRooms 0 s → HasRooms more (record s { threads = threads; records = records; jobs = jobs })
rooms_jobs s threads records jobs more r h = record {
  valid = h.valid;
  few = h.few;
  room = h.room;
  rest = h.rest;
  sized = h.sized;
  counted = h.counted;
  reported = (let a = h.reported in omega (arith, a));
  for_reports = h.for_reports;
  for_entries = h.for_entries;
  for_output = h.for_output;
  for_jobs = r ∙ h.for_jobs;
  named = h.named;
}

-- what is shown does not matter to a return
pub settles_kept : (s t : State) (shown : Option Label) (freed : List ℕ) (pid i : ℕ) (e : Does) → t ≡ record s { shown = shown; freed = freed } → i ≡ pid → Settles s pid e → Settles t i e
settles_kept s t shown freed pid i e is same h =
    subst (λ x. Settles x i e) (sym is) (subst (λ n. Settles (record s { shown = shown; freed = freed }) n e) (sym same) (record {
      returns = h.returns;
      ends = h.ends;
      within = h.within;
      rooms = rooms_kept s s.frames s.regions s.threads s.records s.pending s.under_way s.closing shown freed s.peak (ends_one (effect_of e)) (ends_one (effect_of e)) (omega arith) h.rooms;
    }))
