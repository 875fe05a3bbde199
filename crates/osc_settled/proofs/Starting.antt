-- A kernel whose pages were all laid fits, with the words of its image.
use Rattle.std.proofs.Common.{true, false, ◌≤◌, ℕ, zero, suc, ◌+◌, ◌*◌, ◌/◌, ◌%◌, ◌≡◌, ◌<◌, Bool, false, Option, Some, None, is_none, List, [], ◌∷◌, length, map, replicate, slice_get, arith, refl, ap, sym, ◌∙◌, subst}
use Rattle.std.specs.List.{range_with_len}
use Rattle.std.proofs.lemmas.List.{length-replicate}
use Rattle.std.proofs.lemmas.List.FromFn.{get_or-map-range_with_len, length-map-range_with_len}
use Rattle.std.proofs.lemmas.List.Sums.{sum_by-cons}
use Rattle.std.proofs.lemmas.Option.{slice_get_within}
use Rattle.osc_word.specs.declared.settings.Config.{Config}
use Rattle.osc_word.specs.Limits.{first_fault}
use Rattle.osc_sv39.specs.Entries.{word_of}
use Rattle.osc_sv39.specs.Walk.{word_at}
use Rattle.osc_paging.specs.declared.Piece.{Piece}
use Rattle.osc_paging.specs.KeptTables.{KeptTables, child, word_in, piece_of}
use Rattle.osc_paging.specs.TableChanges.{Changed}
use Rattle.osc_paging.specs.Agree.{Agrees}
use Rattle.osc_image.specs.Image.{Image}
use Rattle.osc_space.specs.Space.{Keeps}
use Rattle.osc_space.specs.Fork.{frame_of_page}
use Rattle.osc_space.specs.Share.{holders, no_regions}
use Rattle.osc_parts.specs.Frames.{among}
use Rattle.osc_parts.proofs.Settling.{settled_frames}
use Rattle.osc_calls.specs.declared.Thread.{Thread}
use Rattle.osc_calls.specs.declared.HartRecord.{HartRecord}
use Rattle.osc_calls.specs.declared.HartRecord.TheVariants.{Idle, Runs, Stopped}
use Rattle.osc_calls.specs.Kernel.{KernelState, Process}
use Rattle.osc_calls.specs.Open.{image_pages, all_pages, lay_all, rooted, first_records, first_space, first_process, kernel_with, word_by, open_word, open_words, open_kernel}
use Rattle.osc_settled.specs.Memory.{memory_of, held_by, shared_by, one_if, SpaceFits}
use Rattle.osc_settled.specs.Records.{RecordsFit, is_living, IsManned}
use Rattle.osc_settled.specs.KernelFits.{KernelFits}
use Rattle.osc_settled.specs.StartLaws.{StartsFit}
use Rattle.osc_settled.proofs.Manned.{manned_new}
use Rattle.osc_settled.proofs.Lists.{length-put, some_same}
use Rattle.osc_settled.proofs.Memories.{keeps_returns}
use Rattle.osc_settled.proofs.Spawning.{records_more}
use Rattle.osc_settled.proofs.Laying.{Ranges, ranges, Laying, lays_all, none_held, no_words, rooted_fits}

-- ---- the words
abbrev first_words : Image → ℕ → KeptTables → List ℕ
first_words image frames t = map (λ place. open_word image t (place / 512) (place % 512)) (range_with_len 0 (frames * 512))

word_is : (image : Image) (frames : ℕ) (t : KeptTables) (f i : ℕ) → f < frames → i < 512 → word_at (first_words image frames t) f i ≡ open_word image t f i
word_is image frames t f i l m =
    get_or-map-range_with_len (λ place. open_word image t (place / 512) (place % 512)) 0 (frames * 512) (f * 512 + i) (f * 512 + i) 0 (omega (arith, l, m)) (omega arith)
    ∙ ap (λ x. open_word image t x ((f * 512 + i) % 512)) (let z : (f * 512 + i) / 512 ≡ f = omega (arith, m) in z)
    ∙ ap (λ x. open_word image t f x) (let z : (f * 512 + i) % 512 ≡ i = omega (arith, m) in z)

table_word : (image : Image) (t : KeptTables) (f i : ℕ) (p : Piece) → piece_of t.tables f ≡ Some p → open_word image t f i ≡ word_of (child t p.level (p.number * 512 + i))
table_word image t f i p e = ap (λ o. word_by image t o f i) e ∙ ap (λ (o : Option Piece). word_in t o i) e

-- the tables are as they were laid, and each word is what its table keeps
words_agree : (image : Image) (frames : ℕ) (t : KeptTables) (free : List Bool) (words : List ℕ) → Agrees t free words → length free ≡ frames → t.aside ≡ [] → Agrees t free (first_words image frames t)
words_agree image frames t free words a l none = record {
  size = length-map-range_with_len (λ place. open_word image t (place / 512) (place % 512)) 0 (frames * 512) ∙ (let z : frames * 512 ≡ length free * 512 = omega (arith, l) in z);
  small = a.small;
  apart = a.apart;
  taken = a.taken;
  parents = a.parents;
  leaves = a.leaves;
  agree = λ f i p m e. word_is image frames t f i (let w = slice_get_within free f false (a.taken f p e) in omega (arith, w, l)) m ∙ table_word image t f i p e;
  spare = a.spare;
  zeros = λ f i p m e. absurd (let z : None ≡ Some p = sym (ap (λ ts. piece_of ts f) none) ∙ e in let w : ⊥ = grind (arith, z) in w);
}

-- ---- the records
idle_all : (n h : ℕ) (r : HartRecord) → slice_get (replicate n Idle) h ≡ Some r → Idle ≡ r
idle_all zero h r e = absurd (let z : ⊥ = grind (arith, e) in z)
idle_all (suc n) zero r e = some_same Idle r e
idle_all (suc n) (suc h) r e = idle_all n h r e

no_thread : (place : ℕ) (t : Thread) → slice_get [] place ≡ Some t → ⊥
no_thread place t e = let z : ⊥ = grind (arith, e) in z

idle_runs : (n h pid : ℕ) (thread : Option ℕ) → slice_get (replicate n Idle) h ≡ Some (Runs pid thread) → ⊥
idle_runs n h pid thread e = let z = idle_all n h (Runs pid thread) e in let w : ⊥ = cc in w

idle_stopped : (n h pid : ℕ) → slice_get (replicate n Idle) h ≡ Some (Stopped pid) → ⊥
idle_stopped n h pid e = let z = idle_all n h (Stopped pid) e in let w : ⊥ = cc in w

all_idle : (ps : List Process) (n : ℕ) → RecordsFit ps [] (replicate n Idle) None
all_idle ps n = record {
  lives = λ h pid t e. absurd (idle_runs n h pid t e);
  goes_on = λ h pid t e. absurd (idle_runs n h pid t e);
  works = λ h pid t e. absurd (idle_runs n h pid t e);
  alone = λ a b pid t e g. absurd (idle_runs n a pid t e);
  known = λ h pid e. absurd (idle_stopped n h pid e);
  stopped = λ h pid e l. absurd (idle_stopped n h pid e);
  spawned = λ place t e. absurd (no_thread place t e);
}

first_records_fit : (p : Process) (n : ℕ) → p.status ≡ None → RecordsFit (p ∷ []) [] (first_records n) None
first_records_fit p n lives =
    records_more (p ∷ []) [] [] (replicate n Idle) 0 0 None (all_idle (p ∷ []) n) (ap (λ (s : Option ℕ). is_none s) lives) (λ q t h. h) refl
    (λ h e. idle_runs n h 0 None e) (λ place t e. absurd (no_thread place t e))

-- ---- the kernel
the_only : (p q : Process) (pid : ℕ) → slice_get (p ∷ []) pid ≡ Some q → p ≡ q
the_only p q zero e = some_same p q e
the_only p q (suc pid) e = absurd (let z : ⊥ = grind (arith, e) in z)

abbrev opened_kernel : Config → Changed → KernelState
opened_kernel config c = record (kernel_with config c) { jobs = [] }

kernel_fits : (image : Image) (config : Config) (zeros : List ℕ) (c : Changed) → first_fault config ≡ None → Ranges config → Laying config zeros c
    → KernelFits (first_words image config.frames c.tables) (opened_kernel config c)
kernel_fits image config zeros c valid ok l = record {
  sizes = record {
    config = valid;
    memory = length-map-range_with_len (λ place. open_word image c.tables (place / 512) (place % 512)) 0 (config.frames * 512);
    free = l.count;
    regions = length-replicate config.frames 0;
    records = length-put (replicate config.harts Idle) 0 (Runs 0 None) ∙ length-replicate config.harts Idle;
    processes = ok.processes;
    threads = omega arith;
    journal = omega arith;
    output = omega arith;
    peak = omega arith;
  };
  memory = record {
    spaces = λ pid q e lives. subst (λ (x : Process). SpaceFits (first_words image config.frames c.tables) (memory_of (opened_kernel config c)) Keeps x.space) (the_only (first_process config c.tables) q pid e) (record {
      returns = keeps_returns config.heap config.batch (no_regions config.frames) (first_space config c.tables) c.free l.parts;
      frames = settled_frames config.heap (first_space config c.tables) (no_regions config.frames) c.free l.parts.agrees;
      tables = words_agree image config.frames c.tables c.free _ l.tables l.count l.parts.agrees.aside;
    });
    bare = λ pid status q e over. absurd (let z : None ≡ Some status = ap (λ (x : Process). x.status) (the_only (first_process config c.tables) q pid e) ∙ over in let w : ⊥ = grind (arith, z) in w);
    uses = λ f m. (let u = l.uses f m in let s = sum_by-cons (held_by f) (first_process config c.tables) [] in
        let h : one_if (holders (no_regions config.frames) f) ≡ 0 = ap one_if (none_held config.frames f) in omega (arith, u, s, h));
    holders = λ f. (let h = none_held config.frames f in let s = sum_by-cons (shared_by f) (first_process config c.tables) [] in
        let e : shared_by f (first_process config c.tables) ≡ 0 = ap (λ ms. among f (map frame_of_page ms)) l.none_shared in omega (arith, h, s, e));
  };
  records = first_records_fit (first_process config c.tables) config.harts refl;
  manned = λ q l n. manned q l;
  under_way = refl;
}
  where
    idle_first : (n : ℕ) → 1 ≤ n → slice_get (replicate n Idle) 0 ≡ Some Idle
    idle_first zero m = absurd (omega arith)
    idle_first (suc n) m = refl

    manned : (q : ℕ) → is_living (slice_get (first_process config c.tables ∷ []) q) ≡ true → IsManned (first_records config.harts) q
    manned zero m = manned_new (replicate config.harts Idle) 0 0 Idle None (idle_first config.harts ok.harts)
    manned (suc q) m = absurd (let z : ⊥ = grind (arith, m) in z)

pub starts_fit : StartsFit
unfolding open_kernel open_words
starts_fit image config valid can =
    let ok = ranges config valid in
    kernel_fits image config (no_words config) (lay_all (all_pages (image_pages image)) (rooted config)) valid ok
    (lays_all config (no_words config) ok (all_pages (image_pages image)) (rooted config) (rooted_fits config ok) can)
