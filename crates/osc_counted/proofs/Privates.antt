-- The frames of one process, counted.
use Rattle.std.proofs.Common.{ℕ, zero, suc, ◌+◌, ◌≡◌, ◌<◌, ◌≤◌, ◌==◌, nat_lt, Bool, true, false, cond, Option, Some, None, is_some, List, [], ◌∷◌, ◌++◌, length, map, filter, arith, refl, sym, ap, subst, ◌∙◌}
use Rattle.std.specs.Prelude.{count_by}
use Rattle.std.specs.List.{range_with_len, list_any}
use Rattle.std.proofs.lemmas.Bool.Decides.{nat_tests}
use Rattle.std.proofs.lemmas.List.{length-append, append-nil}
use Rattle.std.proofs.lemmas.List.Sums.{sum_by-cons}
use Rattle.std.proofs.lemmas.Option.{slice_get_within}
use Rattle.osc_word.specs.declared.settings.Config.{Config}
use Rattle.osc_slot.specs.Slots.{block_frames}
use Rattle.osc_space.specs.Space.{Space, Keeps}
use Rattle.osc_space.specs.Fork.{table_frame_of, heap_frame_of, image_frames, frames_owned, is_private, private_frames}
use Rattle.osc_space.specs.Used.{frames_used}
use Rattle.osc_parts.specs.Frames.{among, frames_held, FramesFit}
use Rattle.osc_parts.specs.Settled.{PartsFit}
use Rattle.osc_parts.proofs.Counts.{member_counts}
use Rattle.osc_parts.proofs.Trading.{owned_is, held_is, held_once, held_taken}
use Rattle.osc_parts.proofs.Settling.{settled_frames}
use Rattle.osc_parts.proofs.JobCounts.{length-mapped}
use Rattle.osc_calls.specs.Kernel.{KernelState, Process, UnderWay, Quiet, Retrying, Leaving, Waiting, Returning, process_at}
use Rattle.osc_settled.specs.Memory.{memory_of, SpaceFits}
use Rattle.osc_settled.specs.UnderWay.{closing_of}
use Rattle.osc_settled.specs.KernelFits.{KernelFits}
use Rattle.osc_settled.proofs.Memories.{returns_keeps}
use Rattle.osc_machine.specs.Replay.{Ledger, ledger_at, replay}
use Rattle.osc_machine.specs.Agreements.{Account, account_told, account_kept}
use Rattle.osc_machine.specs.Refusals.{Setting, ever_mapped, given_up, process_frames}
use Rattle.osc_ledger.specs.Replays.{ReplayFits}
use Rattle.osc_ledger.specs.Wanting.{setting, is_committed}
use Rattle.osc_ledger.proofs.ReplaySteps.{IsUncommitted, uncommitted}
use Rattle.osc_ledger.proofs.Returned.{account-at}
use Rattle.osc_counted.specs.Images.{ImagesFit}
use Rattle.osc_counted.specs.Told.{HasCount, PrivateAreCounted}
use Rattle.osc_counted.proofs.Counting.{bit, total, total-same, total-among, total-test}

-- ---- while no call is committed
pub not-committed : (u : UnderWay) → is_committed u ≡ false → IsUncommitted u
not-committed Quiet e = tt
not-committed Retrying e = tt
not-committed (Leaving hart) e = tt
not-committed (Waiting c) e = tt
not-committed (Returning done) e = absurd (let z : ⊥ = grind (arith, e) in z)

nothing-closes : (u : UnderWay) (pid : ℕ) → is_committed u ≡ false → closing_of u pid ≡ Keeps
nothing-closes Quiet pid e = refl
nothing-closes Retrying pid e = refl
nothing-closes (Leaving hart) pid e = refl
nothing-closes (Waiting c) pid e = refl
nothing-closes (Returning done) pid e = absurd (let z : ⊥ = grind (arith, e) in z)

pub all-told : (k : KernelState) → is_committed k.under_way ≡ false → ReplayFits k → map account_told (replay k.config k.journal) ≡ map account_kept k.processes
all-told k e f = f.accounts ∙ ap (map account_kept) (uncommitted k (not-committed k.under_way e))

-- the parts of a process fit
pub parts-rest : (words : List ℕ) (k : KernelState) (pid : ℕ) (p : Process) → KernelFits words k → is_committed k.under_way ≡ false → process_at k pid ≡ Some p → p.status ≡ None
    → PartsFit k.config.heap k.config.batch k.regions p.space k.free
parts-rest words k pid p fits e at lives =
    let s : SpaceFits words (memory_of k) Keeps p.space = subst (λ c. SpaceFits words (memory_of k) c p.space) (nothing-closes k.under_way pid e) (fits.memory.spaces pid p at lives) in
    returns_keeps k.config.heap k.config.batch k.regions p.space k.free s.returns

-- ---- frames that pass a test, counted
length-filter : (test : ℕ → Bool) (xs : List ℕ) → length (filter test xs) ≡ count_by test xs
length-filter test [] = refl
length-filter test (x ∷ xs) = let c = sum_by-cons (λ y. bit (test y)) x xs in go (test x) c (length-filter test xs)
  where
    go : (b : Bool) → count_by test (x ∷ xs) ≡ bit b + count_by test xs → length (filter test xs) ≡ count_by test xs
        → length (cond b (x ∷ filter test xs) (filter test xs)) ≡ count_by test (x ∷ xs)
    go true c later = omega (arith, c, later)
    go false c later = omega (arith, c, later)

owned-total : (s : Space) (count : ℕ) → length (private_frames s count) ≡ total (λ f. bit (is_private s f)) count
owned-total s count =
    length-filter (is_private s) (range_with_len 0 count) ∙ total-test (is_private s) count 0
    ∙ total-same (λ i. bit (is_private s (0 + i))) (λ f. bit (is_private s f)) count (λ i l. (let e : 0 + i ≡ i = omega arith in ap (λ j. bit (is_private s j)) e))

-- the frames that a process owns are different ones of the machine
pub owned-count : (s : Space) (free : List Bool) → FramesFit s free → length (private_frames s (length free)) ≡ length (frames_owned s)
owned-count s free fit =
    owned-total s (length free)
    ∙ total-same (λ f. bit (is_private s f)) (λ f. among f (frames_owned s)) (length free) (λ f l. one f (among f (frames_owned s)) refl)
    ∙ total-among (frames_owned s) (length free) within
  where
    few : (f : ℕ) → among f (frames_owned s) ≤ among f (frames_held s)
    few f = let a = owned_is f s in let b = held_is f s in omega (arith, a, b)

    within : (f : ℕ) → 0 < among f (frames_owned s) → f < length free
    within f l = slice_get_within free f false (held_taken s free f fit (let a = few f in omega (arith, a, l)))

    one : (f m : ℕ) → among f (frames_owned s) ≡ m → bit (is_private s f) ≡ among f (frames_owned s)
    one f zero e = let t : nat_lt 0 (among f (frames_owned s)) ≡ false = grind (arith, nat_tests, e) in ap bit (member_counts f (frames_owned s) ∙ t) ∙ sym e
    one f (suc m) e =
        let t : nat_lt 0 (among f (frames_owned s)) ≡ true = grind (arith, nat_tests, e) in
        let b : bit (is_private s f) ≡ 1 = ap bit (member_counts f (frames_owned s) ∙ t) in
        let o = held_once s free f fit in
        let a = few f in
        omega (arith, b, o, a, e)

pub owned-parts : (s : Space) → length (frames_owned s) ≡ length s.tables.tables + length s.heap.pages + length (image_frames s.tables)
owned-parts s =
    let a = length-append (map table_frame_of s.tables.tables ++ map heap_frame_of s.heap.pages) (image_frames s.tables) in
    let b = length-append (map table_frame_of s.tables.tables) (map heap_frame_of s.heap.pages) in
    let c = length-mapped table_frame_of s.tables.tables in
    let d = length-mapped heap_frame_of s.heap.pages in
    omega (arith, a, b, c, d)

-- ---- what is told
told-is : (s : Setting) (l : Ledger) → process_frames s l ≡ frames_used s.config.levels (ever_mapped s l) (given_up l) (length s.image) s.config.frames l.held
told-is s l = refl

module _ (words image : List ℕ) (k : KernelState) (pid : ℕ) (p : Process) (fits : KernelFits words k) (rest : is_committed k.under_way ≡ false) (told : ReplayFits k) (images : ImagesFit image k)
    (at : process_at k pid ≡ Some p) (lives : p.status ≡ None) (number : HasCount (setting k image) (ledger_at (replay k.config k.journal) pid) p.space.tables) where
  abbrev l : Ledger
  l = ledger_at (replay k.config k.journal) pid

  parts : PartsFit k.config.heap k.config.batch k.regions p.space k.free
  parts = parts-rest words k pid p fits rest at lives

  held : l.held ≡ p.space.heap.held
  held = ap (λ (a : Account). a.held) (account-at (replay k.config k.journal) k.processes pid p (all-told k rest told) at)

  frames : p.space.heap.frames ≡ k.config.frames
  frames = parts.agrees.frames ∙ fits.sizes.free

  blocks : block_frames k.config.frames l.held ≡ length p.space.heap.pages
  blocks = ap (block_frames k.config.frames) held ∙ ap (λ n. block_frames n p.space.heap.held) (sym frames) ∙ sym parts.heap.count

  pub owned-told : process_frames (setting k image) l ≡ length (frames_owned p.space)
  unfolding frames_used
  owned-told =
      let a = owned-parts p.space in
      let b = blocks in
      let i = images pid p at lives in
      let n = number in
      omega (arith, a, b, i, n)

  pub held-told : process_frames (setting k image) l ≡ length (frames_held p.space)
  held-told =
      owned-told ∙ sym (ap (λ xs. length (frames_owned p.space ++ map table_frame_of xs)) parts.agrees.aside ∙ ap (λ (xs : List ℕ). length xs) (append-nil (frames_owned p.space)))

  pub private-told : process_frames (setting k image) l ≡ length (private_frames p.space (length k.free))
  private-told =
      owned-told ∙ sym (owned-count p.space k.free (settled_frames k.config.heap p.space k.regions k.free parts.agrees))

pub private_are_counted : PrivateAreCounted
private_are_counted words image k pid p fits rest told images at lives number = private-told words image k pid p fits rest told images at lives number
