-- The guest of a number: what is put into a builder, from the draws. This project's own.
use Rattle.std.specs.Prelude.{ℕ, ◌+◌, ◌*◌, ◌==◌, nat_lt, if◌then◌else◌, false, List, [], ◌∷◌, ◌++◌, length, replicate, slice_get, slice_set, Option, Some, None}
use Rattle.osc_rv.specs.declared.instr.Instr.TheVariants as instr
use Rattle.osc_rv.specs.declared.instr.BranchKind.TheVariants.{Bne}
use Rattle.osc_rv.specs.declared.instr.AmoOp.TheVariants as amo
use Rattle.osc_rv.specs.declared.instr.Width.TheVariants.{D}
use Rattle.osc_asm.specs.declared.item.Item.{Item}
use Rattle.osc_asm.specs.declared.item.Item.TheVariants.{Plain, Branch, LabelHigh, LabelLow, BytesHigh, BytesLow}
use Rattle.osc_asm.specs.Program.{Program, joined}
use Rattle.osc_asm.specs.File.{file}
use Rattle.osc_gen.specs.declared.draw.Draw.{Draw}
use Rattle.osc_gen.specs.Draws.{chain}
use Rattle.osc_gen.specs.Code.{addi, add, ld, sd, li, call}

-- ---- the rounds

-- for each pointer the size of its object, where that is live
abbrev pub Sizes : Type 0
Sizes = List (Option ℕ)

-- no object is live
abbrev pub fresh : Sizes
fresh = replicate 16 None

-- the size of a pointer's live object
abbrev pub size_of : Sizes → ℕ → Option ℕ
size_of sizes pointer = joined (slice_get sizes pointer)

-- malloc, and where there is room the round's number goes into the object
abbrev pub granted : ℕ → Draw → List Item
granted round d =
    li 10 d.size ++ call 3 ++ sd 10 (8 * d.pointer) 8
    ∷ (if nat_lt d.size 8 then [] else li 5 round ++ sd 5 0 10 ∷ [])

-- the object's first eight bytes, where it has them, are added to the sum
abbrev pub read : Draw → ℕ → List Item
read d size = if nat_lt size 8 then [] else ld 5 (8 * d.pointer) 8 ∷ ld 5 0 5 ∷ add 9 9 5 ∷ []

abbrev pub freed : Draw → List Item
freed d = ld 10 (8 * d.pointer) 8 ∷ call 4 ++ sd 0 (8 * d.pointer) 8 ∷ []

abbrev pub moved : Draw → List Item
moved d = ld 10 (8 * d.pointer) 8 ∷ li 11 d.size ++ call 5 ++ sd 10 (8 * d.pointer) 8 ∷ []

-- the code of a round, by what is live
abbrev pub round_code : ℕ → Draw → Option ℕ → List Item
round_code round d None = granted round d
round_code round d (Some size) =
    if nat_lt d.deed 2 then read d size else (if d.deed == 2 then freed d else moved d)

-- what a round leaves at its pointer
abbrev pub left_by : Draw → Option ℕ → Option ℕ
left_by d None = Some d.size
left_by d (Some size) =
    if nat_lt d.deed 2 then Some size else (if d.deed == 2 then None else Some d.size)

abbrev pub sizes_after : Draw → Sizes → Sizes
sizes_after d sizes = slice_set sizes d.pointer (left_by d (size_of sizes d.pointer))

-- the code of the rounds of these draws, the first of which is a round of this number
unfoldable pub rounds : ℕ → Sizes → List Draw → List Item
rounds round sizes [] = []
rounds round sizes (d ∷ ds) =
    round_code round d (size_of sizes d.pointer) ++ rounds (round + 1) (sizes_after d sizes) ds

-- ---- the whole

-- the labels of the second thread and of its loop
abbrev pub worker : ℕ
worker = 0

abbrev pub again : ℕ
again = 1

-- the pointers' address, a sum of 0, and the second thread over the counter
abbrev pub start_code : List Item
start_code =
    BytesHigh 8 0 ∷ BytesLow 8 0 ∷ addi 9 0 0 ∷ LabelHigh 10 worker ∷ LabelLow 10 worker
    ∷ addi 11 0 0 ∷ addi 12 8 128 ∷ call 7 ++ addi 18 10 0 ∷ []

-- the second thread is joined, its count added, and the sum written
abbrev pub end_code : List Item
end_code =
    addi 10 18 0 ∷ call 8 ++ ld 5 128 8 ∷ add 9 9 5 ∷ sd 9 136 8 ∷ addi 10 8 136 ∷ addi 11 0 8
    ∷ call 2 ++ addi 10 0 0 ∷ call 1

-- the second thread adds 1 a thousand times
abbrev pub worker_start : List Item
worker_start = addi 5 0 1000 ∷ addi 6 0 1 ∷ []

abbrev pub worker_loop : List Item
worker_loop =
    Plain (instr.Amo amo.Add D 0 10 6 false false) ∷ addi 5 5 4095 ∷ Branch Bne 5 0 again
    ∷ addi 10 0 0 ∷ call 9

abbrev pub main_code : ℕ → List Item
main_code number = start_code ++ rounds 0 fresh (chain 1000 number) ++ end_code

-- 16 pointers, a counter and a sum
unfoldable pub guest : ℕ → Program
guest number = record {
  code = main_code number ++ worker_start ++ worker_loop;
  labels = Some (length (main_code number)) ∷ Some (length (main_code number) + 2) ∷ [];
  bytes = replicate 144 0;
}

-- the file of the guest
abbrev pub guest_file : ℕ → List ℕ
guest_file number = file (guest number)
