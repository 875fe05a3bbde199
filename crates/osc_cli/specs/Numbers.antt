-- The options whose value is a number. This project's own.
use Rattle.std.specs.Prelude.{ℕ, ◌&&◌, Bool, nat_le, nat_lt, if◌then◌else◌, List, [], ◌∷◌, length, codes, Option, Some, None, option_and_then}
use Rattle.std.specs.List.{list_all}
use Rattle.std.specs.Char.{digit_value}
use Rattle.std.specs.Str.Parse.{digits_value}
use Rattle.clap.specs.Words.{Row, Text, first_of}

-- ---- how a text is a number

abbrev pub is_decimal : Text → Bool
is_decimal text = list_all (λ code. nat_lt (digit_value code) 10) text

-- 1 to 20 decimal digits, zeros may lead, and at most 2^64 - 1
abbrev pub is_number : Text → Bool
is_number text =
    (nat_le 1 (length text) && nat_le (length text) 20)
    && (is_decimal text && nat_lt (digits_value 10 text) 18446744073709551616)

unfoldable pub number_of : Text → Option ℕ
number_of text = if is_number text then Some (digits_value 10 text) else None

abbrev pub in_range : ℕ → ℕ → ℕ → Option ℕ
in_range least most number = if nat_le least number && nat_le number most then Some number else None

unfoldable pub number_in : ℕ → ℕ → Text → Option ℕ
number_in least most text = option_and_then (in_range least most) (number_of text)

-- the number of a text, and what it is without one
abbrev pub said : ℕ → ℕ → ℕ → Option Text → Option ℕ
said least most otherwise None = Some otherwise
said least most otherwise (Some text) = number_in least most text

-- ---- the table

pub record NumberOption : Type 0 where
  pub name : Text
  pub least : ℕ
  pub most : ℕ
  -- its number where the words do not give it
  pub otherwise : ℕ

abbrev pub numbered : Text → ℕ → ℕ → ℕ → NumberOption
numbered name least most otherwise =
    record { name = name; least = least; most = most; otherwise = otherwise }

abbrev pub harts : NumberOption
harts = numbered (codes "harts") 1 8 4

abbrev pub processes : NumberOption
processes = numbered (codes "processes") 1 64 16

abbrev pub frames : NumberOption
frames = numbered (codes "frames") 64 4096 1024

abbrev pub shadows : NumberOption
shadows = numbered (codes "shadows") 1 1048576 65536

abbrev pub journal : NumberOption
journal = numbered (codes "journal") 1 1048576 65536

abbrev pub seed : NumberOption
seed = numbered (codes "seed") 0 18446744073709551615 1

abbrev pub picks : NumberOption
picks = numbered (codes "picks") 0 1099511627776 100000000

abbrev pub limit : NumberOption
limit = numbered (codes "limit") 1 1099511627776 100000000

abbrev pub number : NumberOption
number = numbered (codes "number") 0 18446744073709551615 1

abbrev pub levels : NumberOption
levels = numbered (codes "levels") 3 4 3

abbrev pub batch : NumberOption
batch = numbered (codes "batch") 1 64 1

-- in the table's order, after the mode and the heap
abbrev pub number_options : List NumberOption
number_options =
    harts ∷ processes ∷ frames ∷ shadows ∷ journal ∷ seed ∷ picks ∷ limit ∷ number ∷ levels ∷ batch ∷ []

-- the number that the words give to an option
abbrev pub number_said : List Row → NumberOption → Option ℕ
number_said rows o = said o.least o.most o.otherwise (first_of o.name rows)
