-- The laws of the words of a block, by induction over the pieces.
use Rattle.std.proofs.Common.{ℕ, zero, suc, ◌+◌, ◌-◌, ◌*◌, ◌/◌, ◌%◌, ◌≡◌, ◌≢◌, ◌<◌, ◌≤◌, ◌==◌, ◌&&◌, inl, inr, nat_lt, min, max, Bool, true, false, cond, List, [], ◌∷◌, ◌++◌, map, sum_by, arith, refl}
use Rattle.std.specs.List.{list_any}
use Rattle.std.proofs.lemmas.Bool.Decides.{nat_tests}
use Rattle.std.proofs.lemmas.List.Sums.{sum_by-append}
use Rattle.std.proofs.lemmas.List.Folds.{list_any-append}
use Rattle.osc_word.specs.declared.job_list.Job.{Job}
use Rattle.osc_word.specs.declared.job_list.Job.TheVariants.{ZeroWords, CopyWords, CopyPart}
use Rattle.osc_class.specs.Rooms.{block_bytes}
use Rattle.osc_slot.specs.declared.Block.{Block}
use Rattle.osc_slot.specs.declared.HeapPage.{HeapPage}
use Rattle.osc_word.specs.AddressMap.{is_within}
use Rattle.osc_space.specs.BlockWords.{Stretch, stretch, cut, stretches, words_in, block_word, zero_jobs, size_job, part_job, whole_end, words_end}
use Rattle.osc_space.specs.WordLaws.{AreCut, StretchesCut, LiesInFrames, StayInFrames, NoPieceCrosses, IsFrameOf, AllWriteIn, BlockJobsStay}

-- ---- pieces
cut_cut : (count piece from to : ℕ) → AreCut from to (cut count piece from to)
unfolding cut
cut_cut zero piece from to = tt
cut_cut (suc count) piece from to = go (nat_lt (max from (4096 * piece)) (min to (4096 * piece + 4096))) refl (cut_cut count (piece + 1) from to)
  where
    go : (b : Bool) → nat_lt (max from (4096 * piece)) (min to (4096 * piece + 4096)) ≡ b → AreCut from to (cut count (piece + 1) from to)
        → AreCut from to (cond b (record { from = max from (4096 * piece); to = min to (4096 * piece + 4096) } ∷ []) [] ++ cut count (piece + 1) from to)
    go false e later = later
    go true e later =
        let l : max from (4096 * piece) < min to (4096 * piece + 4096) = grind (arith, nat_tests, e) in
        (omega arith, l, omega arith, omega (arith, l), later)

abbrev has_byte : ℕ → Stretch → Bool
has_byte byte s = is_within s.from s.to byte

stretch_covers : (from to byte : ℕ) → list_any (has_byte byte) (stretch from to) ≡ is_within from to byte
stretch_covers from to byte = go (nat_lt from to) refl
  where
    go : (b : Bool) → nat_lt from to ≡ b → list_any (has_byte byte) (cond b (record { from = from; to = to } ∷ []) []) ≡ is_within from to byte
    go true e = grind (arith, nat_tests)
    go false e = grind (arith, nat_tests, e)

cut_covers : (count piece from to byte : ℕ) → list_any (has_byte byte) (cut count piece from to) ≡ (is_within from to byte && is_within (4096 * piece) (4096 * (piece + count)) byte)
unfolding cut
cut_covers zero piece from to byte = grind (arith, nat_tests)
cut_covers (suc count) piece from to byte =
    rw (list_any-append (has_byte byte) (stretch (max from (4096 * piece)) (min to (4096 * piece + 4096))) (cut count (piece + 1) from to))
    (rw (stretch_covers (max from (4096 * piece)) (min to (4096 * piece + 4096)) byte)
    (rw (cut_covers count (piece + 1) from to byte) (grind (arith, nat_tests))))

abbrev length_of : Stretch → ℕ
length_of s = s.to - s.from

stretch_sum : (from to : ℕ) → sum_by length_of (stretch from to) ≡ to - from
stretch_sum from to = go (nat_lt from to) refl
  where
    go : (b : Bool) → nat_lt from to ≡ b → sum_by length_of (cond b (record { from = from; to = to } ∷ []) []) ≡ to - from
    go true e = omega arith
    go false e = let l : to ≤ from = grind (arith, nat_tests, e) in omega (arith, l)

cut_sum : (count piece from to : ℕ) → sum_by length_of (cut count piece from to) ≡ min to (4096 * (piece + count)) - max from (4096 * piece)
unfolding cut
cut_sum zero piece from to = omega arith
cut_sum (suc count) piece from to =
    let a = sum_by-append length_of (stretch (max from (4096 * piece)) (min to (4096 * piece + 4096))) (cut count (piece + 1) from to) in
    let b = stretch_sum (max from (4096 * piece)) (min to (4096 * piece + 4096)) in
    let c = cut_sum count (piece + 1) from to in
    omega (arith, a, b, c)

pub stretches_cut : StretchesCut
stretches_cut from to = record {
  cut = cut_cut ((to + 4095) / 4096) 0 from to;
  covers = λ byte. let e = cut_covers ((to + 4095) / 4096) 0 from to byte in grind (arith, nat_tests, e);
  once = let e = cut_sum ((to + 4095) / 4096) 0 from to in omega (arith, e);
}

-- ---- jobs
in_frame : (block : Block) (from to end : ℕ) → LiesInFrames block → end ≤ block_bytes block.room → from < to → to ≤ end → from / 4096 ≡ (to - 1) / 4096 → (block.start + from) % 4096 / 8 + (to - from) / 8 ≤ 512
in_frame block from to end (inl whole) l m n p = omega (arith, whole, m, p)
in_frame block from to end (inr small) l m n p = omega (arith, small, l, m, n)

zero_stays : (pages : List HeapPage) (block : Block) (from to : ℕ) (ss : List Stretch) → LiesInFrames block → to ≤ block_bytes block.room → AreCut from to ss → StayInFrames (map (λ (s : Stretch). ZeroWords (block_word pages block s.from) (words_in s)) ss)
zero_stays pages block from to [] k l c = tt
zero_stays pages block from to (s ∷ ss) k l c = (in_frame block s.from s.to to k l c.1 c.2 c.3, zero_stays pages block from to ss k l c.4)

copy_stays : (pages : List HeapPage) (old block : Block) (from to : ℕ) (ss : List Stretch) (rest : List Job) → LiesInFrames old → LiesInFrames block → to ≤ block_bytes old.room → to ≤ block_bytes block.room → AreCut from to ss → StayInFrames rest → StayInFrames (map (λ (s : Stretch). CopyWords (block_word pages old s.from) (block_word pages block s.from) (words_in s)) ss ++ rest)
copy_stays pages old block from to [] rest k j l m c r = r
copy_stays pages old block from to (s ∷ ss) rest k j l m c r =
    ((in_frame old s.from s.to to k l c.1 c.2 c.3, in_frame block s.from s.to to j m c.1 c.2 c.3), copy_stays pages old block from to ss rest k j l m c.4 r)

part_stays : (pages : List HeapPage) (old block : Block) (bytes : ℕ) → StayInFrames (part_job pages old block bytes)
part_stays pages old block bytes = go (bytes % 8 == 0)
  where
    go : (b : Bool) → StayInFrames (cond b [] (CopyPart (block_word pages old (whole_end bytes)) (block_word pages block (whole_end bytes)) (bytes % 8) ∷ []))
    go true = tt
    go false = (tt, tt)

pub no_piece_crosses : NoPieceCrosses
no_piece_crosses = record {
  zero = λ pages block from to k l. zero_stays pages block from to (stretches from to) k l (stretches_cut from to).cut;
  copy = λ pages old block bytes k j l m. copy_stays pages old block 16 (whole_end bytes) (stretches 16 (whole_end bytes)) (part_job pages old block bytes) k j l m (stretches_cut 16 (whole_end bytes)).cut (part_stays pages old block bytes);
}

-- ---- the frames of a block
append_in : (pages : List HeapPage) (block : Block) (xs ys : List Job) → AllWriteIn pages block xs → AllWriteIn pages block ys → AllWriteIn pages block (xs ++ ys)
append_in pages block [] ys h k = k
append_in pages block (x ∷ xs) ys h k = (h.0, append_in pages block xs ys h.1 k)

at_offset : (pages : List HeapPage) (block : Block) (offset : ℕ) → offset < block_bytes block.room → IsFrameOf pages block (block_word pages block offset).frame
at_offset pages block offset l = record { offset = offset; within = l; is = refl }

zero_in : (pages : List HeapPage) (block : Block) (from : ℕ) (ss : List Stretch) → AreCut from (block_bytes block.room) ss → AllWriteIn pages block (map (λ (s : Stretch). ZeroWords (block_word pages block s.from) (words_in s)) ss)
zero_in pages block from [] c = tt
zero_in pages block from (s ∷ ss) c =
    (at_offset pages block s.from (let a = c.1 in let b = c.2 in omega (arith, a, b)), zero_in pages block from ss c.4)

copy_in : (pages : List HeapPage) (old block : Block) (from to : ℕ) (ss : List Stretch) → to ≤ block_bytes block.room → AreCut from to ss → AllWriteIn pages block (map (λ (s : Stretch). CopyWords (block_word pages old s.from) (block_word pages block s.from) (words_in s)) ss)
copy_in pages old block from to [] l c = tt
copy_in pages old block from to (s ∷ ss) l c =
    (at_offset pages block s.from (let a = c.1 in let b = c.2 in omega (arith, l, a, b)), copy_in pages old block from to ss l c.4)

part_in : (pages : List HeapPage) (old block : Block) (bytes : ℕ) → 16 + bytes ≤ block_bytes block.room → AllWriteIn pages block (part_job pages old block bytes)
part_in pages old block bytes l = go (bytes % 8 == 0) refl
  where
    go : (b : Bool) → (bytes % 8 == 0) ≡ b → AllWriteIn pages block (cond b [] (CopyPart (block_word pages old (whole_end bytes)) (block_word pages block (whole_end bytes)) (bytes % 8) ∷ []))
    go true e = tt
    go false e = (at_offset pages block (whole_end bytes) (let n : bytes % 8 ≢ 0 = grind (arith, nat_tests, e) in omega (arith, l, n)), tt)

pub block_jobs_stay : (pages : List HeapPage) (block : Block) → BlockJobsStay pages block
block_jobs_stay pages block = record {
  zero = zeroes 16;
  header = λ size l. (at_offset pages block 0 (omega (arith, l)), (at_offset pages block 8 (omega (arith, l)), tt));
  copy = λ old bytes l.
      append_in pages block _ (part_job pages old block bytes)
      (copy_in pages old block 16 (whole_end bytes) (stretches 16 (whole_end bytes)) (omega (arith, l)) (stretches_cut 16 (whole_end bytes)).cut)
      (part_in pages old block bytes l);
  trim = λ bytes size l.
      append_in pages block (part_job pages block block bytes ++ zero_jobs pages block (words_end bytes) (block_bytes block.room)) (size_job pages block size ∷ [])
      (append_in pages block (part_job pages block block bytes) _ (part_in pages block block bytes l) (zeroes (words_end bytes)))
      (at_offset pages block 8 (omega (arith, l)), tt);
}
  where
    zeroes : (from : ℕ) → AllWriteIn pages block (zero_jobs pages block from (block_bytes block.room))
    zeroes from = zero_in pages block from (stretches from (block_bytes block.room)) (stretches_cut from (block_bytes block.room)).cut
