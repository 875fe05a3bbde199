use Rattle.std.proofs.Common.{◌≡◌, ℕ, ◌<◌, false}
use Rattle.osc_image.specs.Form.{is_write_exec}
use Rattle.osc_elf.proofs.image.Image.write_exec.Given as goal

abbrev pub invariant-loop-page : goal.invariant-loop-page
invariant-loop-page l = (page : ℕ) → page < l.page → is_write_exec l.self.segments page ≡ false
