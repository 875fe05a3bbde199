-- The kernel that opens.
use Rattle.std.proofs.Common.{ℕ, zero, suc, ◌/◌, ◌%◌, ◌≡◌, ◌≤◌, Bool, false, Option, Some, None, List, [], ◌∷◌, ◌++◌, drop, length, position, slice_set, arith, refl, ap, sym, ◌∙◌, subst}
use Rattle.std.specs.List.{sum_by}
use Rattle.osc_word.specs.JobList.{JobList}
use Rattle.osc_word.specs.declared.job_list.Job.{Job}
use Rattle.osc_word.specs.declared.settings.Config.{Config}
use Rattle.osc_word.specs.Limits.{first_fault}
use Rattle.osc_sv39.specs.declared.entries.Mapping.{Mapping}
use Rattle.osc_sv39.specs.declared.entries.PteEntry.TheVariants.{Table, Leaf}
use Rattle.osc_sv39.specs.Entries.{word_of}
use Rattle.osc_sv39.specs.Walk.{piece}
use Rattle.osc_paging.specs.KeptTables.{KeptTables, frame_of}
use Rattle.osc_paging.specs.TableChanges.{Changed, linked, link, link_all, leaf_put, put_job, zero_job}
use Rattle.osc_space.specs.LeafFlags.{leaf_of_page}
use Rattle.osc_space.specs.WordLaws.{StayInFrames}
use Rattle.osc_parts.proofs.Shapes.{SameShape, same_shape, then}
use Rattle.osc_calls.specs.Kernel.{KernelState, Process, UnderWay}
use Rattle.osc_calls.specs.Labels.{out_count}
use Rattle.osc_calls.specs.Open.{OpenPage, all_pages, first_process, kernel_with, laid, lay, lay_all, opening, rooted}
use Rattle.osc_open.specs.Laying.{AreImagePages, frames_for}
use Rattle.osc_settled.proofs.Lists.{some_same}
use Rattle.osc_tables.specs.Calls.{changed}
use Rattle.osc_ready.specs.Opening.{OpensFit}
use Rattle.osc_ready.proofs.Limits.{in_range}
use Rattle.osc_ready.proofs.Opening.{openings_fit}
use Rattle.osc_kernel.specs.declared.state.State.{State}
use Rattle.osc_kernel.specs.Inside.{kernel_of}
use Rattle.osc_kernel.specs.Opens.{IsFresh, Opened, started}
use Rattle.osc_kernel.specs.Sound.{AllSized, Fits, HasRooms, IsSized, Sound, ending_by}

-- ---- pages
stay_both : (xs ys : List Job) → StayInFrames xs → StayInFrames ys → StayInFrames (xs ++ ys)
stay_both [] ys h g = g
stay_both (x ∷ xs) ys h g = (h.0, stay_both xs ys h.1 g)

-- the tables keep their sizes, and no job more crosses its frame
record Lays (c d : Changed) : Type 0 where
  shape : SameShape c.tables d.tables
  stay : StayInFrames c.jobs → StayInFrames d.jobs

lays_none : (c : Changed) → Lays c c
lays_none c = record { shape = same_shape c.tables; stay = λ h. h }

lays_both : (c d e : Changed) → Lays c d → Lays d e → Lays c e
lays_both c d e a b = record { shape = then c.tables d.tables e.tables a.shape b.shape; stay = λ h. b.stay (a.stay h) }

linked-lays : (l n : ℕ) (a b p : Option ℕ) (c : Changed) → Lays c (linked l n a b p c)
linked-lays l n (Some g) b p c = lays_none c
linked-lays l n None None p c = lays_none c
linked-lays l n None (Some parent) None c = lays_none c
linked-lays l n None (Some parent) (Some g) c = record {
  shape = record { count = refl; room = refl; top = refl };
  stay = λ h. stay_both c.jobs (zero_job g ∷ put_job parent (n % 512) (word_of (Table g)) ∷ []) h (omega arith, (tt, tt));
}

link_all-lays : (l n : ℕ) (c : Changed) → Lays c (link_all l n c)
unfolding link_all
link_all-lays zero n c = lays_none c
link_all-lays (suc l) n c =
    let m = piece (suc l) n in
    lays_both c (link l m c) (link_all l n (link l m c))
    (linked-lays l m (frame_of c.tables.tables l m) (frame_of c.tables.tables (suc l) (m / 512)) (position (λ b. b) c.free) c) (link_all-lays l n (link l m c))

put-lays : (n : ℕ) (m : Mapping) (x : Option ℕ) (free : List Bool) (c : Changed) → Lays c (leaf_put n m x (record c { free = free }))
put-lays n m None free c = record { shape = same_shape c.tables; stay = λ h. h }
put-lays n m (Some t) free c = record {
  shape = record { count = refl; room = refl; top = refl };
  stay = λ h. stay_both c.jobs (put_job t (n % 512) (word_of (Leaf m.frame m.bits)) ∷ []) h (tt, tt);
}

laid-lays : (p : OpenPage) (o : Option ℕ) (c : Changed) → Lays c (laid p o c)
laid-lays p None c = lays_none c
laid-lays p (Some g) c =
    put-lays p.page (record { frame = g; bits = leaf_of_page p.bits }) (frame_of c.tables.tables 0 (p.page / 512)) (slice_set c.free g false) c

lay_all-lays : (ps : List OpenPage) (c : Changed) → Lays c (lay_all ps c)
lay_all-lays [] c = lays_none c
lay_all-lays (p ∷ ps) c =
    let d = link_all c.tables.top p.page c in
    let e = lay p d in
    lays_both c e (lay_all ps e) (lays_both c d e (link_all-lays c.tables.top p.page c) (laid-lays p (position (λ b. b) d.free) d)) (lay_all-lays ps e)

-- ---- the first process
-- it has the sizes of the machine
pub first_sized : (config : Config) (pages : List OpenPage) (t : KeptTables) (free : List Bool) (jobs : List Job) → first_fault config ≡ None
    → changed t free jobs ≡ lay_all pages (rooted config) → IsSized config (first_process config t)
first_sized config pages t free jobs valid e =
    let shape = (lay_all-lays pages (rooted config)).shape in
    let top = ap (λ (c : Changed). c.tables.top) e ∙ shape.top in
    let l = (in_range config valid).levels in
    record {
      levels = omega (arith, top, l);
      room = ap (λ (c : Changed). c.tables.room) e ∙ shape.room;
      count = ap (λ (c : Changed). c.tables.count) e ∙ shape.count;
      shadows = refl;
      frames = refl;
    }

pub only_sized : (config : Config) (p : Process) → IsSized config p → AllSized config (p ∷ [])
only_sized config p h zero q e = subst (IsSized config) (some_same p q e) h
only_sized config p h (suc pid) q e = absurd (let z : ⊥ = grind (arith, e) in z)

-- ---- the kernel
pub started_is : (pages : List OpenPage) (config : Config) (first : Process) (free : List Bool) (jobs : List Job) → Opened pages config first free jobs
    → started config first free jobs ≡ opening pages config
started_is pages config first free jobs o = ap (λ p. started config p free jobs) o.first_is ∙ ap (kernel_with config) o.laid

opening_fits : (pages : List OpenPage) (config : Config) → OpensFit (opening pages config) → Fits (opening pages config)
opening_fits pages config o = record {
  words = o.words;
  fits = o.fits;
  opens = record { silent = o.jobs; within = (lay_all-lays (all_pages pages) (rooted config)).stay tt };
}

pub opened_sound : (pages : List OpenPage) (config : Config) (s : State) (jobs : JobList) → first_fault config ≡ None → AreImagePages 16 pages
    → frames_for config.levels pages ≤ config.frames → kernel_of s ≡ opening pages config → HasRooms 0 s → IsFresh jobs s → Sound s
opened_sound pages config s jobs valid are enough e rooms fresh =
    let o = openings_fit pages config valid are enough in
    let few = o.few in
    let pushed : drop s.done s.jobs.pushed ≡ s.jobs.pushed = ap (λ n. drop n s.jobs.pushed) fresh.done in
    let count = ap (λ (js : List Job). length js) pushed in
    let same = ap (λ (k : KernelState). length k.jobs) e in
    let done = fresh.done in
    record {
      fits = subst Fits (sym e) (opening_fits pages config o);
      rooms = subst (λ (u : UnderWay). HasRooms (ending_by u) s) (sym (ap (λ (k : KernelState). k.under_way) e)) rooms;
      few_jobs = omega (arith, few, count, same);
      clean = omega (arith, done);
      pending = fresh.pending ∙ sym (ap (λ (k : KernelState). sum_by out_count k.jobs) e ∙ o.jobs);
    }
