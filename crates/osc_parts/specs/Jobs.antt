-- Where jobs write. This project's own.
use Rattle.std.specs.Prelude.{ℕ, ◌+◌, ◌*◌, ◌≡◌, ◌<◌, ◌≤◌, List, [], ◌∷◌, ◌++◌, length}
use Rattle.osc_word.specs.declared.job_list.Job.{Job}
use Rattle.osc_word.specs.declared.job_list.Job.TheVariants.{PutWord, ZeroWords, CopyWords, CopyPart, CopyTable, ClearBox, Tell, ToOut}
use Rattle.osc_space.specs.Space.{Space, Draft}
use Rattle.osc_parts.specs.Frames.{among, frames_held}

-- no run of words that the job writes or copies crosses a frame, and of the frame that it writes in
-- this is true
abbrev pub WritesWhere : (ℕ → Type 0) → Job → Type 0
WritesWhere own (PutWord at value) = (at.index < 512) × own at.frame
WritesWhere own (ZeroWords at count) = (at.index + count ≤ 512) × own at.frame
WritesWhere own (CopyWords from to count) = (from.index + count ≤ 512) × (to.index + count ≤ 512) × own to.frame
WritesWhere own (CopyPart from to bytes) = (to.index < 512) × own to.frame
WritesWhere own (CopyTable from to) = own to
WritesWhere own (ClearBox hart) = Unit {0}
WritesWhere own (Tell hart) = Unit {0}
WritesWhere own (ToOut at first count) = Unit {0}

abbrev pub AllWriteWhere : (ℕ → Type 0) → List Job → Type 0
AllWriteWhere own [] = Unit {0}
AllWriteWhere own (job ∷ jobs) = WritesWhere own job × AllWriteWhere own jobs

-- jobs that were pushed after others: no more than so many, each within a frame of which this is true
pub record Pushed (own : ℕ → Type 0) (before after : List Job) (most : ℕ) : Type 0 where
  pub more : List Job
  pub is : after ≡ before ++ more
  pub few : length more ≤ most
  pub within : AllWriteWhere own more

-- the process holds the frame alone
abbrev pub IsOwn : Space → ℕ → Type 0
IsOwn s frame = 0 < among frame (frames_held s)

-- what a plan pushes: room for the jobs of any plan suffices, none crosses a frame, and each writes
-- in a frame that the process holds then
abbrev pub PushesOwn : Draft → Draft → Type 0
PushesOwn d e = Pushed (IsOwn e.space) d.jobs e.jobs (8 * length d.free + 64)
