-- One pick after another, and the events that commit with them.
use Rattle.std.proofs.Common.{subst, ℕ, ◌≡◌, ◌+◌, ◌-◌, ◌<◌, ◌≤◌, Bool, true, false, List, [], ◌∷◌, ◌++◌, length, take, arith, refl, sym, ap, ◌∙◌, Some, None, append_assoc, length-append}
use Rattle.std.proofs.lemmas.List.{append-nil}
use Rattle.std.proofs.Math.Seq.{take-append_seam}
use Rattle.std.specs.declared.option.Option.{Option}
use Rattle.std.specs.Option.{option_to_list}
use Rattle.osc_word.specs.declared.steps.Event.{Event}
use Rattle.osc_machine.specs.Parts.{State}
use Rattle.osc_machine.specs.Step.{step}
use Rattle.osc_machine.specs.Picks.{next_seed, picked}
use Rattle.osc_machine.specs.Views.{machine_over}
use Rattle.osc_machine.specs.Run.{Ran, with_step, run_on, run}
use Rattle.osc_machine.proofs.RunLaws.{runs_join}
use Rattle.osc_world.specs.Run.{ObjectRun, object_run}
use Rattle.osc_world.proofs.Folds.{object_run-append}
use Rattle.osc_seed.proofs.Picking.{rest, over_now, one_more, none_left, left_more}
use Rattle.osc_seed.specs.Seeded.{end_after}
use Rattle.osc_judge.specs.Judging.{judged_by}
use Rattle.osc_judged.specs.Judged.{judged_over, Stops}

-- ---- the world over no event, one, and more
pub judged_none : (world : Option ObjectRun) → world ≡ judged_over [] world
unfolding object_run
judged_none None = refl
judged_none (Some r) = refl

pub judged_one : (event : Event) (world : Option ObjectRun) → judged_by event world ≡ judged_over (event ∷ []) world
unfolding object_run
judged_one event None = refl
judged_one event (Some r) = refl

judged_more : (xs ys : List Event) (world : Option ObjectRun) → judged_over ys (judged_over xs world) ≡ judged_over (xs ++ ys) world
judged_more xs ys None = refl
judged_more xs ys (Some r) = ap Some (sym (object_run-append r xs ys))

-- the world after a step that commits this event, or none
pub judged_step : (event : Option Event) (committed : Event) (before now : Option ObjectRun) → event ≡ Some committed
    → now ≡ judged_by committed before → now ≡ judged_over (option_to_list event) before
judged_step event committed before now some is = rw some (is ∙ judged_one committed before)

pub judged_still : (event : Option Event) (world : Option ObjectRun) → event ≡ None → world ≡ judged_over (option_to_list event) world
judged_still event world none = rw none (judged_none world)

-- ---- the machine's run
-- the machine made these picks of all, and those are left
pub record Follows (start : State) (whole left : List ℕ) (s : State) (made : ℕ) : Type 0 where
  pub done : List ℕ
  pub all : done ++ left ≡ whole
  pub many : length done ≡ made
  pub state : s ≡ (run start done).state

-- and the world was given what committed with them
pub record Judges (start : State) (whole left : List ℕ) (s : State) (made : ℕ) (first now : Option ObjectRun) : Type 0 where
  pub follows : Follows start whole left s made
  pub world : now ≡ judged_over (run start follows.done).commits first

pub begins : (start : State) (whole left : List ℕ) (first : Option ObjectRun) → left ≡ whole → Judges start whole left start 0 first first
unfolding run_on
begins start whole left first all = record {
  follows = record { done = []; all = all; many = refl; state = refl };
  world = judged_none first;
}

-- a run over one pick more
one_further : (start : State) (done : List ℕ) (x : ℕ) → run start (done ++ x ∷ []) ≡ with_step (run start done) (step (run start done).state x)
unfolding run_on
one_further start done x = runs_join done (x ∷ []) (record { state = start; commits = []; trace = [] })

pub follows_on : (start : State) (whole left : List ℕ) (s next : State) (x made : ℕ) → next ≡ (step s x).state
    → Follows start whole (x ∷ left) s made → Follows start whole left next (made + 1)
follows_on start whole left s next x made is f = record {
  done = f.done ++ x ∷ [];
  all = append_assoc f.done (x ∷ []) left ∙ f.all;
  many = length-append f.done (x ∷ []) ∙ ap (λ n. n + 1) f.many;
  state = is ∙ ap (λ t. (step t x).state) f.state ∙ sym (ap (λ (r : Ran). r.state) (one_further start f.done x));
}

pub goes_on : (start : State) (whole left : List ℕ) (s next : State) (x made : ℕ) (first now after : Option ObjectRun) → next ≡ (step s x).state
    → after ≡ judged_over (option_to_list (step s x).event) now
    → Judges start whole (x ∷ left) s made first now → Judges start whole left next (made + 1) first after
unfolding follows_on
goes_on start whole left s next x made first now after is given j = record {
  follows = follows_on start whole left s next x made is j.follows;
  world =
      given ∙ ap (λ t. judged_over (option_to_list (step t x).event) now) j.follows.state
      ∙ ap (judged_over (option_to_list (step (run start j.follows.done).state x).event)) j.world
      ∙ judged_more (run start j.follows.done).commits (option_to_list (step (run start j.follows.done).state x).event) first
      ∙ sym (ap (λ (r : Ran). judged_over r.commits first) (one_further start j.follows.done x));
}

-- memory was wanting at the next pick
pub stops : (start : State) (whole left : List ℕ) (s next : State) (x made : ℕ) (world : Option ObjectRun) → next ≡ (step s x).state → world ≡ None
    → Follows start whole (x ∷ left) s made → Stops start whole next world
stops start whole left s next x made world is lost f =
    let more = follows_on start whole left s next x made is f in
    let front : take (made + 1) whole ≡ more.done =
    ap (take (made + 1)) (sym more.all) ∙ ap (λ n. take n (more.done ++ left)) (sym more.many) ∙ take-append_seam more.done left in
    record {
      made = made + 1;
      state = more.state ∙ sym (ap (λ picks. (run start picks).state) front);
      lost = lost;
    }

-- ---- the end
pub record Finished (start : State) (whole : List ℕ) (s : State) (made : ℕ) (first now : Option ObjectRun) : Type 0 where
  pub state : s ≡ (run start whole).state
  pub world : now ≡ judged_over (run start whole).commits first
  pub count : made ≡ length whole

-- where no pick is left
pub finished : (start : State) (whole left : List ℕ) (s : State) (made : ℕ) (first now : Option ObjectRun) → left ≡ []
    → Judges start whole left s made first now → Finished start whole s made first now
finished start whole left s made first now none j =
    let all : j.follows.done ≡ whole = sym (append-nil j.follows.done) ∙ ap (λ xs. j.follows.done ++ xs) (sym none) ∙ j.follows.all in
    record {
      state = j.follows.state ∙ ap (λ picks. (run start picks).state) all;
      world = j.world ∙ ap (λ picks. judged_over (run start picks).commits first) all;
      count = sym j.follows.many ∙ ap length all;
    }

-- ---- the picks of a seed
-- what is left to pick, where the machine is not over and picks are left
picks_more : (harts now all made : ℕ) (s : State) → made < all → machine_over s ≡ false
    → rest harts now (all - made) s ≡ picked harts (next_seed now) ∷ rest harts (next_seed now) (all - (made + 1)) (step s (picked harts (next_seed now))).state
picks_more harts now all made s l e =
    ap (λ n. rest harts now n s) (left_more all made l) ∙ one_more harts now (all - (made + 1)) s e

pub judges_on : (start : State) (whole : List ℕ) (harts now all made : ℕ) (s next : State) (first before after : Option ObjectRun) → made < all
    → machine_over s ≡ false → next ≡ (step s (picked harts (next_seed now))).state
    → after ≡ judged_over (option_to_list (step s (picked harts (next_seed now))).event) before
    → Judges start whole (rest harts now (all - made) s) s made first before
    → Judges start whole (rest harts (next_seed now) (all - (made + 1)) next) next (made + 1) first after
judges_on start whole harts now all made s next first before after l e is given j =
    let x = picked harts (next_seed now) in
    let left = rest harts (next_seed now) (all - (made + 1)) (step s x).state in
    rw is (goes_on start whole left s (step s x).state x made first before after refl given
    (subst (λ xs. Judges start whole xs s made first before) (picks_more harts now all made s l e) j))

pub stops_at : (start : State) (whole : List ℕ) (harts now all made : ℕ) (s next : State) (first before after : Option ObjectRun) → made < all
    → machine_over s ≡ false → next ≡ (step s (picked harts (next_seed now))).state → after ≡ None
    → Judges start whole (rest harts now (all - made) s) s made first before → Stops start whole next after
stops_at start whole harts now all made s next first before after l e is lost j =
    let x = picked harts (next_seed now) in
    let left = rest harts (next_seed now) (all - (made + 1)) (step s x).state in
    stops start whole left s next x made after is lost
    (subst (λ xs. Follows start whole xs s made) (picks_more harts now all made s l e) j.follows)

pub starts : (start : State) (harts seed all : ℕ) (first : Option ObjectRun)
    → Judges start (rest harts seed all start) (rest harts seed (all - 0) start) start 0 first first
starts start harts seed all first =
    begins start (rest harts seed all start) (rest harts seed (all - 0) start) first (let whole : all - 0 ≡ all = omega arith in ap (λ n. rest harts seed n start) whole)

pub finished_over : (start : State) (whole : List ℕ) (harts now all made : ℕ) (s : State) (first world : Option ObjectRun) → machine_over s ≡ true
    → Judges start whole (rest harts now (all - made) s) s made first world → Finished start whole s made first world
finished_over start whole harts now all made s first world e j =
    finished start whole (rest harts now (all - made) s) s made first world (over_now harts now (all - made) s e) j

pub finished_spent : (start : State) (whole : List ℕ) (harts now all made : ℕ) (s : State) (first world : Option ObjectRun) → all ≤ made
    → Judges start whole (rest harts now (all - made) s) s made first world → Finished start whole s made first world
finished_spent start whole harts now all made s first world l j =
    let none : all - made ≡ 0 = omega (arith, l) in
    finished start whole (rest harts now (all - made) s) s made first world (ap (λ n. rest harts now n s) none ∙ none_left harts now s) j

pub ends_as : (found over : Bool) (picks made : ℕ) → found ≡ over → picks ≡ made → end_after found picks ≡ end_after over made
ends_as found over picks made is are = rw (is, are) refl
