-- The draws of a number. This project's own.
use Rattle.std.specs.Prelude.{ℕ, zero, suc, ◌+◌, ◌*◌, ◌/◌, ◌%◌, List, [], ◌∷◌}
use Rattle.osc_gen.specs.declared.draw.Draw.{Draw}

abbrev pub next : ℕ → ℕ
next number = (6364136223846793005 * number + 1442695040888963407) % 18446744073709551616

abbrev pub draw : ℕ → Draw
draw number = record {
  pointer = number / 8589934592 % 16;
  deed = number / 137438953472 % 4;
  size = 1 + number / 1099511627776 % 3000;
}

-- so many draws, each of the number that follows
unfoldable pub chain : ℕ → ℕ → List Draw
chain zero number = []
chain (suc count) number = draw (next number) ∷ chain count (next number)
