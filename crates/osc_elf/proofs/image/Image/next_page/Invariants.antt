use Rattle.std.proofs.Common.{◌≡◌, ℕ, ◌<◌, ◌≤◌, None}
use Rattle.osc_image.specs.Image.{bits_at}
use Rattle.osc_elf.proofs.image.Image.next_page.Given as goal

abbrev pub invariant-loop-page : goal.invariant-loop-page
invariant-loop-page l = (page : ℕ) → l.from ≤ page → page < l.page → bits_at l.self page ≡ None
