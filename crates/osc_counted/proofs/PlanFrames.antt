-- What plans make of the frames of a process's image and stack, and of its regions.
use Rattle.std.proofs.Common.{ℕ, zero, suc, ◌+◌, ◌≡◌, ◌<◌, ◌≤◌, ◌==◌, Bool, true, false, Some, None, List, [], ◌∷◌, length, take, slice_get, arith, refl, sym, ap, subst, ◌∙◌}
use Rattle.std.proofs.lemmas.Bool.Decides.{nat_tests}
use Rattle.std.proofs.lemmas.Option.{slice_get_within}
use Rattle.osc_slot.specs.Heap.{free_count}
use Rattle.osc_paging.specs.KeptTables.{KeptTables}
use Rattle.osc_space.specs.Header.{Found}
use Rattle.osc_space.specs.Space.{Space, first_reason}
use Rattle.osc_space.specs.Fork.{image_frames, free_numbers, fork_reasons, fork_plan}
use Rattle.osc_space.specs.Share.{Regions, Sharing, holders, hold, shared_frames, share_reasons, share_plan}
use Rattle.osc_parts.specs.Frames.{among, vacant}
use Rattle.osc_parts.specs.Settled.{Settled}
use Rattle.osc_parts.specs.ShareLaws.{ShareFits}
use Rattle.osc_parts.proofs.Trading.{shared_same, vacant_there}
use Rattle.osc_parts.proofs.SharedPages.{among_take, among_free, numbers_count, length_take, hold_each}
use Rattle.osc_parts.proofs.ShareParts.{shares_fit}
use Rattle.osc_parts.proofs.ForkParts.{forks_fit}
use Rattle.osc_calls.specs.Kernel.{KernelState, Process, Calling, process_at}
use Rattle.osc_calls.specs.Refusals.{draft_of, sharing_of}
use Rattle.osc_calls.specs.HeapPlans.{terms_of, malloc_by, free_of, realloc_by}
use Rattle.osc_settled.specs.Memory.{one_if, shared_by, shared}
use Rattle.osc_settled.proofs.Lists.{one_within}
use Rattle.osc_settled.proofs.Outcomes.{Asks}
use Rattle.osc_settled.proofs.Answering.{settled, has_terms, malloc_fits, null_fits, realloc_fits}
use Rattle.osc_counted.proofs.ImagePlans.{malloc-same, free-same, realloc-same, shares-same, forks-count}

-- as many frames of image and stack, and the same frames of regions
pub record SameFrames (s t : Space) : Type 0 where
  pub image : length (image_frames t.tables) ≡ length (image_frames s.tables)
  pub shared : (f : ℕ) → among f (shared_frames t.tables) ≡ among f (shared_frames s.tables)

pub same_frames : (s : Space) → SameFrames s s
same_frames s = record { image = refl; shared = λ f. refl }

-- as many frames of image and stack, and so many frames of regions more, which were free
pub record SharesFrames (k : KernelState) (s : Space) (count : ℕ) (t : Space) : Type 0 where
  pub image : length (image_frames t.tables) ≡ length (image_frames s.tables)
  pub frames : List ℕ
  pub were_free : (f : ℕ) → among f frames ≤ vacant k.free f
  pub size : length frames ≡ count
  pub more : (f : ℕ) → among f (shared_frames t.tables) ≡ among f (shared_frames s.tables) + among f frames

held-more : (n f : ℕ) (s : Sharing) → ((g : ℕ) → 0 < among g (take n (free_numbers s.free)) → g < length s.regions)
    → holders (share_plan n s).regions f ≡ holders s.regions f + among f (take n (free_numbers s.free))
unfolding share_plan
held-more n f s h = hold_each (take n (free_numbers s.free)) s.regions f h

module _ (words : List ℕ) (k : KernelState) (c : Calling) (p : Process) (a : Asks words k c) (here : process_at k c.pid ≡ Some p) where
  abbrev rest : (entries : ℕ → ℕ → ℕ) → Settled k.config.heap k.config.batch entries words k.regions (draft_of k p)
  rest entries = settled words k c p entries a here

  abbrev none : ℕ → ℕ → ℕ
  none frame index = 0

  pub malloc-frames : (n : ℕ) → SameFrames p.space (malloc_by k.config.heap n (draft_of k p)).draft.space
  malloc-frames n =
      let t = (malloc_fits k.config.heap k.config.batch none words k.regions n (draft_of k p) (rest none)).trades in record {
        image = ap (λ (xs : List ℕ). length xs) (malloc-same k.config.batch none words k.regions (draft_of k p) k.config.heap n (rest none));
        shared = λ f. shared_same p.space (malloc_by k.config.heap n (draft_of k p)).draft.space f t.shared;
      }

  pub free-frames : (pointer : ℕ) (found : Found) → SameFrames p.space (free_of k.config.heap (terms_of k) pointer found (draft_of k p)).draft.space
  free-frames pointer found =
      let t = (null_fits k.config.heap k.config.batch none words k.regions (terms_of k) pointer found (draft_of k p) (pointer == 0) (has_terms words k c a) (rest none)).trades in record {
        image = ap (λ (xs : List ℕ). length xs) (free-same k.config.batch none words k.regions (draft_of k p) k.config.heap (terms_of k) pointer found (rest none));
        shared = λ f. shared_same p.space (free_of k.config.heap (terms_of k) pointer found (draft_of k p)).draft.space f t.shared;
      }

  pub realloc-frames : (pointer n : ℕ) (found : Found) → SameFrames p.space (realloc_by k.config.heap (terms_of k) pointer n found (draft_of k p)).draft.space
  realloc-frames pointer n found =
      let t = (realloc_fits k.config.heap k.config.batch none words k.regions (terms_of k) pointer n found (draft_of k p) (has_terms words k c a) (rest none)).trades in record {
        image = ap (λ (xs : List ℕ). length xs) (realloc-same k.config.batch none words k.regions (draft_of k p) k.config.heap (terms_of k) pointer n found (rest none));
        shared = λ f. shared_same p.space (realloc_by k.config.heap (terms_of k) pointer n found (draft_of k p)).draft.space f t.shared;
      }

  pub fork-frames : first_reason (fork_reasons p.space k.free) ≡ None → SameFrames p.space (fork_plan p.space k.free).child
  fork-frames e =
      let t = forks_fit k.config.heap k.config.batch none words k.regions (draft_of k p) (rest none) e in record {
        image = forks-count p.space k.free;
        shared = λ f. ap (λ xs. among f xs) t.same;
      }

  -- a free frame is one of this machine's regions' list, and no process's of a region
  frame-within : (f : ℕ) → 0 < vacant k.free f → f < length k.regions
  frame-within f l =
      let i = slice_get_within k.free f true (vacant_there k.free f l) in
      let x = a.sizes.free in
      let y = a.sizes.regions in
      omega (arith, i, x, y)

  none-of-one : (n : ℕ) → one_if n ≡ 0 → n ≡ 0
  none-of-one zero e = refl
  none-of-one (suc n) e = absurd (let z : ⊥ = grind (arith, e) in z)

  pub free-unshared : (f pid : ℕ) (q : Process) → process_at k pid ≡ Some q → 0 < vacant k.free f → among f (shared_frames q.space.tables) ≡ 0
  free-unshared f pid q at l =
      let i = slice_get_within k.free f true (vacant_there k.free f l) in
      let all = a.memory.uses f i in
      let z = none-of-one (holders k.regions f) (omega (arith, all, l)) in
      let h = a.memory.holders f in
      let one = one_within (shared_by f) k.processes pid q at in
      omega (arith, z, h, one)

  pub share-frames : (count : ℕ) → first_reason (share_reasons count (sharing_of k p)) ≡ None
      → SharesFrames k p.space count (record (p.space) { tables = (share_plan count (sharing_of k p)).tables })
  share-frames count e =
      let xs = take count (free_numbers k.free) in
      let fits : ShareFits k.config.heap k.config.batch none words k.regions count (draft_of k p) (share_plan count (sharing_of k p)) = shares_fit k.config.heap k.config.batch none words k.regions count (draft_of k p) (rest none) e in
      let few : (f : ℕ) → among f xs ≤ vacant k.free f = λ f. (let x = among_take count f (free_numbers k.free) in let y = among_free k.free f in omega (arith, x, y)) in record {
        image = ap (λ (ys : List ℕ). length ys) (shares-same count (sharing_of k p));
        frames = xs;
        were_free = few;
        size = length_take count (free_numbers k.free) (let n = numbers_count k.free in let t = fits.count in omega (arith, n, t));
        more = λ f.
            (let h = fits.holds f in
            let m = held-more count f (sharing_of k p) (λ g l. frame-within g (let w = few g in omega (arith, w, l))) in
            omega (arith, h, m));
      }
