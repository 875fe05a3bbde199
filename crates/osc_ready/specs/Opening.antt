-- The kernel with which a machine opens. This project's own.
use Rattle.std.specs.Prelude.{ℕ, ◌≡◌, ◌≤◌, None, List, [], length, sum_by}
use Rattle.osc_word.specs.declared.settings.Config.{Config}
use Rattle.osc_word.specs.Limits.{first_fault}
use Rattle.osc_calls.specs.Kernel.{KernelState}
use Rattle.osc_calls.specs.Labels.{out_count}
use Rattle.osc_calls.specs.Open.{OpenPage, opening}
use Rattle.osc_open.specs.Laying.{AreImagePages, frames_for}
use Rattle.osc_settled.specs.KernelFits.{KernelFits}

-- the kernel fits with some words once its first jobs are done, and they write nothing out
pub record OpensFit (k : KernelState) : Type 0 where
  pub words : List ℕ
  pub fits : KernelFits words (record k { jobs = [] })
  pub jobs : sum_by out_count k.jobs ≡ 0
  pub few : length k.jobs ≤ 8388608

-- where the frames are enough for the pages of an image and of the stack, and for their tables
abbrev pub OpeningsFit : Type 0
OpeningsFit =
    (pages : List OpenPage) (config : Config)
    → first_fault config ≡ None → AreImagePages 16 pages → frames_for config.levels pages ≤ config.frames → OpensFit (opening pages config)
