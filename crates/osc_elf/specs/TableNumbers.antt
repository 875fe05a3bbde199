-- The numbers of the tables that pages lie in, where each table is for so many pages.
use Rattle.std.specs.Prelude.{ℕ, ◌/◌, List, map}

unfoldable pub tables_of : ℕ → List ℕ → List ℕ
tables_of size used = map (λ page. page / size) used
