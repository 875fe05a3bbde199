-- The kernel that opens with pages that were all laid fits, with the words that its jobs make.
use Rattle.std.proofs.Common.{true, false, ◌≤◌, ℕ, zero, suc, ◌+◌, ◌*◌, ◌/◌, ◌%◌, ◌≡◌, ◌<◌, Bool, Option, Some, None, is_none, List, [], ◌∷◌, ◌++◌, length, map, position, replicate, slice_get, slice_set, arith, refl, ap, sym, ◌∙◌, subst}
use Rattle.std.proofs.lemmas.List.{length-replicate, length-append}
use Rattle.std.proofs.lemmas.List.Sums.{sum_by-cons}
use Rattle.osc_word.specs.declared.settings.Config.{Config}
use Rattle.osc_word.specs.declared.job_list.Job.{Job}
use Rattle.osc_word.specs.Limits.{first_fault}
use Rattle.osc_sv39.specs.declared.entries.Mapping.{Mapping}
use Rattle.osc_sv39.specs.declared.entries.PteEntry.TheVariants.{Table, Leaf}
use Rattle.osc_sv39.specs.Entries.{word_of}
use Rattle.osc_sv39.specs.Walk.{piece}
use Rattle.osc_paging.specs.KeptTables.{frame_of}
use Rattle.osc_paging.specs.TableChanges.{Changed, linked, link, link_all, leaf_put, put_job, zero_job}
use Rattle.osc_paging.specs.JobWords.{words_after}
use Rattle.osc_paging.specs.Agree.{Agrees}
use Rattle.osc_space.specs.LeafFlags.{leaf_of_page}
use Rattle.osc_space.specs.Space.{Keeps}
use Rattle.osc_space.specs.Fork.{frame_of_page}
use Rattle.osc_space.specs.Share.{holders, no_regions}
use Rattle.osc_parts.specs.Frames.{among}
use Rattle.osc_parts.proofs.Settling.{settled_frames}
use Rattle.osc_calls.specs.declared.Thread.{Thread}
use Rattle.osc_calls.specs.declared.HartRecord.{HartRecord}
use Rattle.osc_calls.specs.declared.HartRecord.TheVariants.{Idle, Runs, Stopped}
use Rattle.osc_calls.specs.Kernel.{KernelState, Process}
use Rattle.osc_calls.specs.Open.{OpenPage, all_pages, laid, lay, lay_all, rooted, first_records, first_space, first_process, kernel_with, opening}
use Rattle.osc_open.specs.Laying.{AreImagePages, frames_for}
use Rattle.osc_settled.specs.Memory.{memory_of, held_by, shared_by, one_if, SpaceFits}
use Rattle.osc_settled.specs.Records.{RecordsFit, is_living, IsManned}
use Rattle.osc_settled.specs.KernelFits.{KernelFits}
use Rattle.osc_settled.proofs.Manned.{manned_new}
use Rattle.osc_settled.proofs.Lists.{length-put, some_same}
use Rattle.osc_settled.proofs.Memories.{keeps_returns}
use Rattle.osc_settled.proofs.Silent.{outs, outs-push, map_pages-outs}
use Rattle.osc_settled.proofs.Spawning.{records_more}
use Rattle.osc_settled.proofs.Laying.{Ranges, ranges, Laying, lays_all, none_held, no_words, rooted_fits}
use Rattle.osc_ready.specs.Opening.{OpensFit, OpeningsFit}
use Rattle.osc_ready.proofs.Laid.{pages_can}
use Rattle.osc_ready.proofs.Limits.{in_range}

-- ---- the records
idle_all : (n h : ℕ) (r : HartRecord) → slice_get (replicate n Idle) h ≡ Some r → Idle ≡ r
idle_all zero h r e = absurd (let z : ⊥ = grind (arith, e) in z)
idle_all (suc n) zero r e = some_same Idle r e
idle_all (suc n) (suc h) r e = idle_all n h r e

no_thread : (place : ℕ) (t : Thread) → slice_get [] place ≡ Some t → ⊥
no_thread place t e = let z : ⊥ = grind (arith, e) in z

idle_runs : (n h pid : ℕ) (thread : Option ℕ) → slice_get (replicate n Idle) h ≡ Some (Runs pid thread) → ⊥
idle_runs n h pid thread e = let z = idle_all n h (Runs pid thread) e in let w : ⊥ = cc in w

idle_stopped : (n h pid : ℕ) → slice_get (replicate n Idle) h ≡ Some (Stopped pid) → ⊥
idle_stopped n h pid e = let z = idle_all n h (Stopped pid) e in let w : ⊥ = cc in w

all_idle : (ps : List Process) (n : ℕ) → RecordsFit ps [] (replicate n Idle) None
all_idle ps n = record {
  lives = λ h pid t e. absurd (idle_runs n h pid t e);
  goes_on = λ h pid t e. absurd (idle_runs n h pid t e);
  works = λ h pid t e. absurd (idle_runs n h pid t e);
  alone = λ a b pid t e g. absurd (idle_runs n a pid t e);
  known = λ h pid e. absurd (idle_stopped n h pid e);
  stopped = λ h pid e l. absurd (idle_stopped n h pid e);
  spawned = λ place t e. absurd (no_thread place t e);
}

first_records_fit : (p : Process) (n : ℕ) → p.status ≡ None → RecordsFit (p ∷ []) [] (first_records n) None
first_records_fit p n lives =
    records_more (p ∷ []) [] [] (replicate n Idle) 0 0 None (all_idle (p ∷ []) n) (ap (λ (s : Option ℕ). is_none s) lives) (λ q t h. h) refl
    (λ h e. idle_runs n h 0 None e) (λ place t e. absurd (no_thread place t e))

-- ---- the kernel
the_only : (p q : Process) (pid : ℕ) → slice_get (p ∷ []) pid ≡ Some q → p ≡ q
the_only p q zero e = some_same p q e
the_only p q (suc pid) e = absurd (let z : ⊥ = grind (arith, e) in z)

abbrev opened_kernel : Config → Changed → KernelState
opened_kernel config c = record (kernel_with config c) { jobs = [] }

-- the words that the jobs make
abbrev made_words : Config → Changed → List ℕ
made_words config c = words_after (λ frame index. 0) c.jobs (no_words config)

kernel_fits : (config : Config) (c : Changed) → first_fault config ≡ None → Ranges config → Laying config (no_words config) c
    → KernelFits (made_words config c) (opened_kernel config c)
kernel_fits config c valid ok l = record {
  sizes = record {
    config = valid;
    memory = l.tables.size ∙ ap (λ n. n * 512) l.count;
    free = l.count;
    regions = length-replicate config.frames 0;
    records = length-put (replicate config.harts Idle) 0 (Runs 0 None) ∙ length-replicate config.harts Idle;
    processes = ok.processes;
    threads = omega arith;
    journal = omega arith;
    output = omega arith;
    peak = omega arith;
  };
  memory = record {
    spaces = λ pid q e lives. subst (λ (x : Process). SpaceFits (made_words config c) (memory_of (opened_kernel config c)) Keeps x.space) (the_only (first_process config c.tables) q pid e) (record {
      returns = keeps_returns config.heap config.batch (no_regions config.frames) (first_space config c.tables) c.free l.parts;
      frames = settled_frames config.heap (first_space config c.tables) (no_regions config.frames) c.free l.parts.agrees;
      tables = l.tables;
    });
    bare = λ pid status q e over. absurd (let z : None ≡ Some status = ap (λ (x : Process). x.status) (the_only (first_process config c.tables) q pid e) ∙ over in let w : ⊥ = grind (arith, z) in w);
    uses = λ f m. (let u = l.uses f m in let s = sum_by-cons (held_by f) (first_process config c.tables) [] in
        let h : one_if (holders (no_regions config.frames) f) ≡ 0 = ap one_if (none_held config.frames f) in omega (arith, u, s, h));
    holders = λ f. (let h = none_held config.frames f in let s = sum_by-cons (shared_by f) (first_process config c.tables) [] in
        let e : shared_by f (first_process config c.tables) ≡ 0 = ap (λ ms. among f (map frame_of_page ms)) l.none_shared in omega (arith, h, s, e));
  };
  records = first_records_fit (first_process config c.tables) config.harts refl;
  manned = λ q l n. manned q l;
  under_way = refl;
}
  where
    idle_first : (n : ℕ) → 1 ≤ n → slice_get (replicate n Idle) 0 ≡ Some Idle
    idle_first zero m = absurd (omega arith)
    idle_first (suc n) m = refl

    manned : (q : ℕ) → is_living (slice_get (first_process config c.tables ∷ []) q) ≡ true → IsManned (first_records config.harts) q
    manned zero m = manned_new (replicate config.harts Idle) 0 0 Idle None (idle_first config.harts ok.harts)
    manned (suc q) m = absurd (let z : ⊥ = grind (arith, m) in z)

-- ---- the jobs
put-outs : (n : ℕ) (m : Mapping) (x : Option ℕ) (c : Changed) → outs (leaf_put n m x c).jobs ≡ outs c.jobs
put-outs n m None c = refl
put-outs n m (Some t) c = outs-push c.jobs (put_job t (n % 512) (word_of (Leaf m.frame m.bits)) ∷ []) refl

link-outs : (n : ℕ) (m : Mapping) (c : Changed) → outs (link_all c.tables.top n c).jobs ≡ outs c.jobs
link-outs n m c =
    let d = link_all c.tables.top n c in
    sym (put-outs n m (frame_of d.tables.tables 0 (n / 512)) d) ∙ map_pages-outs n (m ∷ []) c

lay-outs : (p : OpenPage) (o : Option ℕ) (c : Changed) → outs (laid p o c).jobs ≡ outs c.jobs
lay-outs p None c = refl
lay-outs p (Some g) c =
    put-outs p.page (record { frame = g; bits = leaf_of_page p.bits }) (frame_of c.tables.tables 0 (p.page / 512)) (record c { free = slice_set c.free g false })

lay_all-outs : (ps : List OpenPage) (c : Changed) → outs (lay_all ps c).jobs ≡ outs c.jobs
lay_all-outs [] c = refl
lay_all-outs (p ∷ ps) c =
    let d = link_all c.tables.top p.page c in
    lay_all-outs ps (lay p d) ∙ lay-outs p (position (λ b. b) d.free) d ∙ link-outs p.page (record { frame = 0; bits = leaf_of_page p.bits }) c

-- ---- how many they are
linked-few : (l n : ℕ) (a b p : Option ℕ) (c : Changed) → (length (linked l n a b p c).jobs ≤ length c.jobs + 2) × ((linked l n a b p c).tables.top ≡ c.tables.top)
linked-few l n (Some g) b p c = (omega arith, refl)
linked-few l n None None p c = (omega arith, refl)
linked-few l n None (Some parent) None c = (omega arith, refl)
linked-few l n None (Some parent) (Some g) c = (let a = length-append c.jobs (zero_job g ∷ put_job parent (n % 512) (word_of (Table g)) ∷ []) in omega (arith, a), refl)

link_all-few : (l n : ℕ) (c : Changed) → (length (link_all l n c).jobs ≤ length c.jobs + 2 * l) × ((link_all l n c).tables.top ≡ c.tables.top)
unfolding link_all
link_all-few zero n c = (omega arith, refl)
link_all-few (suc l) n c =
    let m = piece (suc l) n in
    let one = linked-few l m (frame_of c.tables.tables l m) (frame_of c.tables.tables (suc l) (m / 512)) (position (λ x. x) c.free) c in
    let on = link_all-few l n (link l m c) in
    let a = one.0 in
    let b = on.0 in
    (omega (arith, a, b), on.1 ∙ one.1)

leaf-few : (n : ℕ) (m : Mapping) (x : Option ℕ) (c : Changed) → (length (leaf_put n m x c).jobs ≤ length c.jobs + 1) × ((leaf_put n m x c).tables.top ≡ c.tables.top)
leaf-few n m None c = (omega arith, refl)
leaf-few n m (Some t) c = (let a = length-append c.jobs (put_job t (n % 512) (word_of (Leaf m.frame m.bits)) ∷ []) in omega (arith, a), refl)

laid-few : (p : OpenPage) (o : Option ℕ) (c : Changed) → (length (laid p o c).jobs ≤ length c.jobs + 1) × ((laid p o c).tables.top ≡ c.tables.top)
laid-few p None c = (omega arith, refl)
laid-few p (Some g) c =
    leaf-few p.page (record { frame = g; bits = leaf_of_page p.bits }) (frame_of c.tables.tables 0 (p.page / 512)) (record c { free = slice_set c.free g false })

lay_all-few : (ps : List OpenPage) (c : Changed) → c.tables.top ≤ 3 → length (lay_all ps c).jobs ≤ length c.jobs + 7 * length ps
lay_all-few [] c l = omega arith
lay_all-few (p ∷ ps) c l =
    let d = link_all c.tables.top p.page c in
    let one = link_all-few c.tables.top p.page c in
    let two = laid-few p (position (λ b. b) d.free) d in
    let top = two.1 ∙ one.1 in
    let on = lay_all-few ps (lay p d) (omega (arith, top, l)) in
    let a = one.0 in
    let b = two.0 in
    omega (arith, on, a, b, l)

pages_few : (low : ℕ) (ps : List OpenPage) → low ≤ 0x100000 → AreImagePages low ps → low + length ps ≤ 0x100000
pages_few low [] l are = omega arith
pages_few low (p ∷ ps) l are =
    let above = are.0 in
    let below = are.1 in
    let on = pages_few (suc p.page) ps (omega (arith, below)) are.3 in
    omega (arith, above, on)

pub openings_fit : OpeningsFit
openings_fit pages config valid are fits =
    let ok = ranges config valid in
    let c = lay_all (all_pages pages) (rooted config) in
    record {
      words = made_words config c;
      fits = kernel_fits config c valid ok (lays_all config (no_words config) ok (all_pages pages) (rooted config) (rooted_fits config ok) (pages_can pages config ok are fits));
      jobs = lay_all-outs (all_pages pages) (rooted config);
      few = (let a = lay_all-few (all_pages pages) (rooted config) (let l = (in_range config valid).few_levels in omega (arith, l)) in
          let b = pages_few 16 pages (omega arith) are in
          let d = length-append pages (all_pages []) in
          omega (arith, a, b, d));
    }
