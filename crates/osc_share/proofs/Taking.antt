-- One free frame more is taken and zeroed.
use Rattle.std.proofs.Common.{ℕ, suc, ◌≡◌, ◌<◌, ◌≤◌, ◌+◌, ◌-◌, Bool, false, Some, List, [], ◌∷◌, ◌++◌, length, take, map, set, position, arith, refl, ap, sym, subst, ◌∙◌, append_assoc, length-append}
use Rattle.std.specs.Prelude.{slice_set}
use Rattle.std.proofs.lemmas.List.{map-append, take_more_set}
use Rattle.std.proofs.lemmas.List as lists
use Rattle.osc_word.specs.JobList.{JobList, spare, with_job}
use Rattle.osc_frames.specs.Free.{free_count}
use Rattle.osc_slot.proofs.Backing.{free_count-take}
use Rattle.osc_paging.proofs.Kept.{position_passes}
use Rattle.osc_paging.specs.TableChanges.{zero_job}
use Rattle.osc_space.specs.Fork.{free_numbers, set_free}
use Rattle.osc_share.proofs.FreeNumbers.{least_first, set_free-push}

-- so many of the places have their frames, which are taken and zeroed
pub record Taking (i : ℕ) (taken : List ℕ) (free0 free : List Bool) (jobs0 jobs : JobList) : Type 0 where
  pub frames : take i taken ++ take (length taken - i) (free_numbers free) ≡ take (length taken) (free_numbers free0)
  pub free_now : free ≡ set_free false (take i taken) free0
  pub pushed : jobs.pushed ≡ jobs0.pushed ++ map zero_job (take i taken)
  pub room : jobs.room ≡ jobs0.room
  pub enough : length taken - i ≤ free_count free
  pub has_spare : length taken - i ≤ spare jobs

pub taking_none : (taken : List ℕ) (free : List Bool) (jobs : JobList) → length taken ≤ free_count free → length taken ≤ spare jobs → Taking 0 taken free free jobs jobs
taking_none taken free jobs enough has_spare =
    let z : length taken - 0 ≡ length taken = omega arith in
    record {
      frames = rw z refl;
      free_now = refl;
      pushed = sym (lists.append-nil jobs.pushed);
      room = refl;
      enough = omega arith;
      has_spare = omega arith;
    }

pub taking_one : (i : ℕ) (taken : List ℕ) (frame : ℕ) (free0 free : List Bool) (jobs0 jobs : JobList) → i < length taken → position (λ b. b) free ≡ Some frame → Taking i taken free0 free jobs0 jobs → Taking (i + 1) (set taken i frame) free0 (slice_set free frame false) jobs0 (with_job jobs (zero_job frame))
taking_one i taken frame free0 free jobs0 jobs s e t =
    let more : take (i + 1) (set taken i frame) ≡ take i taken ++ frame ∷ [] = take_more_set taken i frame s in
    let size : length (set taken i frame) ≡ length taken = lists.length-set taken i frame in
    let count = free_count-take free frame (position_passes free frame e) in
    let left : length taken - i ≡ suc (length taken - (i + 1)) = omega arith in
    let here : take i taken ++ take (suc (length taken - (i + 1))) (free_numbers free) ≡ take (length taken) (free_numbers free0) = subst (λ n. take i taken ++ take n (free_numbers free) ≡ take (length taken) (free_numbers free0)) left t.frames in
    let first = least_first free frame e in
    let pushed = t.pushed in
    let enough = t.enough in
    let has_spare = t.has_spare in
    let grown = length-append jobs.pushed (zero_job frame ∷ []) in
    record {
      frames = rw (more, size, append_assoc) (subst (λ xs. take i taken ++ take (suc (length taken - (i + 1))) xs ≡ take (length taken) (free_numbers free0)) first here);
      free_now = rw more (ap (λ f. slice_set f frame false) t.free_now ∙ sym (set_free-push false (take i taken) frame free0));
      pushed = rw (more, map-append) (ap (λ xs. xs ++ zero_job frame ∷ []) pushed ∙ append_assoc jobs0.pushed (map zero_job (take i taken)) (zero_job frame ∷ []));
      room = t.room;
      enough = rw size (omega (arith, count, enough));
      has_spare = rw size (omega (arith, grown, has_spare));
    }
