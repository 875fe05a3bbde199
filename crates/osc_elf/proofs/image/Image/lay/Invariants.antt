use Rattle.std.proofs.Common.{ℕ, ◌≡◌, ◌+◌, ◌<◌, ◌≤◌, length, get_or}
use Rattle.osc_image.specs.Image.{laid_byte}
use Rattle.osc_elf.proofs.image.Image.lay.Given as goal

abbrev pub invariant-loop-place : goal.invariant-loop-place
invariant-loop-place l =
    record {
      inside : l.piece < length l.self-inside.borders.items;
      low : get_or l.self-inside.borders.items l.piece 0 ≤ l.start + l.place;
      len : length l.into ≡ length l.fn.into;
      each : (i : ℕ) → i < l.place → get_or l.into i 0 ≡ laid_byte l.self.segments (l.start + i);
    }
