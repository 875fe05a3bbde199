-- How large rooms are, and where held blocks start.
use Rattle.std.proofs.Common.{ℕ, ◌+◌, ◌-◌, ◌*◌, ◌≡◌, ◌<◌, ◌≤◌, min, true, Option, Some, None, List, arith, refl, ap, ◌∙◌}
use Rattle.std.specs.Prelude.{nat_le}
use Rattle.std.proofs.lemmas.Bool.Decides.{nat_tests}
use Rattle.std.proofs.lemmas.List.Quantifiers.{position-Some}
use Rattle.osc_class.specs.declared.Room.{Room}
use Rattle.osc_class.specs.declared.Room.TheVariants.{Small, Pages}
use Rattle.osc_class.specs.Rooms.{IsRoom, block_bytes, class_of, class_or_pages, room_of, shadow_pages, sizes}
use Rattle.osc_slot.specs.declared.Block.{Block}
use Rattle.osc_slot.specs.Areas.{start_of, IsPlaced}
use Rattle.osc_slot.specs.Slots.{is_block, is_held}
use Rattle.osc_slot.specs.Heap.{ArePlaced}
use Rattle.osc_slot.proofs.HeldBlocks.{found, same_block}
use Rattle.osc_space.specs.declared.ObjectFact.{ObjectFact}
use Rattle.osc_space.specs.BlockWords.{whole_end}
use Rattle.osc_space.specs.Header.{block_of}
use Rattle.osc_shadow.specs.Pieces.{pieces}
use Rattle.osc_shadow.proofs.Granted.{few_pieces}

-- a request has room with its header
pub room_holds : (n : ℕ) → n + 16 ≤ block_bytes (room_of n)
unfolding room_of
room_holds n = go (class_of (n + 16)) refl
  where
    go : (x : Option ℕ) → class_of (n + 16) ≡ x → n + 16 ≤ block_bytes (class_or_pages x (n + 16))
    go (Some class) e = let p = (position-Some (λ size. nat_le (n + 16) size) sizes class 0 e).1 in grind (arith, nat_tests, p)
    go None e = omega arith

small_size : (class : ℕ) → class < 13 → block_bytes (Small class) ≤ 4096
small_size class l = grind arith

pub bytes_most : (room : Room) → IsRoom room → block_bytes room ≤ 4096 * shadow_pages room
bytes_most (Small class) r = let h = small_size class r in omega arith
bytes_most (Pages pages) r = omega arith

pub some_pages : (room : Room) → IsRoom room → 0 < shadow_pages room
some_pages (Small class) r = omega arith
some_pages (Pages pages) r = r

-- the bytes that two sizes have lie in no more pieces than the pages of the block
pub few_whole : (size n : ℕ) → IsRoom (room_of n) → pieces (whole_end (min size n)) ≤ shadow_pages (room_of n)
few_whole size n r =
    let h = room_holds n in
    let p = few_pieces (room_of n) r in
    let less : whole_end (min size n) ≤ block_bytes (room_of n) = omega arith in
    omega arith

-- ---- held blocks
pub canon_least : (frames : ℕ) (held : List Block) (o : ObjectFact) → ArePlaced frames held → is_held held (block_of o) ≡ true → 16 ≤ o.canon
canon_least frames held o p h =
    let f = found frames (λ b. is_block (block_of o) b) held p h in
    let same = same_block (block_of o) f.block f.passes in
    at f.block same f.placed
  where
    at : (b : Block) → block_of o ≡ b → IsPlaced frames b → 16 ≤ o.canon
    at b same q =
        let start : o.canon - 16 ≡ start_of frames b.room q.slot = ap (λ (c : Block). c.start) same ∙ q.start in
        let low : 0 < start_of frames b.room q.slot = omega arith in
        omega arith
