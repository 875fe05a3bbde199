-- Calls of the heap are alike in both runs.
use Rattle.std.proofs.Common.{ℕ, zero, suc, ◌≡◌, ◌≢◌, ◌<◌, ◌≤◌, ◌==◌, ◌+◌, ◌-◌, ◌*◌, ◌%◌, Bool, true, false, cond, List, [], ◌∷◌, ◌++◌, Option, Some, None, option_map, Result, Ok, Err, arith, refl, ap, sym, subst, ◌∙◌, ◌⊎◌, inl, inr, slice_get, length, map, take, replicate}
use Rattle.std.proofs.lemmas.Bool.Decides.{nat_tests}
use Rattle.std.proofs.lemmas.List.{length-map, length-take-le}
use Rattle.std.specs.Prelude.{min, nat_le}
use Rattle.osc_isa.specs.Numbers.{wrapped}
use Rattle.osc_class.specs.declared.Room.{Room}
use Rattle.osc_class.specs.Rooms.{room_of}
use Rattle.osc_slot.specs.declared.Block.{Block}
use Rattle.osc_slot.specs.Areas.{IsPlaced}
use Rattle.osc_slot.specs.Slots.{is_room, is_held}
use Rattle.osc_slot.specs.Heap.{with_block, without_block, block_of_user}
use Rattle.osc_slot.proofs.HeldBlocks.{same_room}
use Rattle.osc_world.specs.declared.Value.{Value}
use Rattle.osc_world.specs.declared.Value.TheVariants.{Num, Ptr}
use Rattle.osc_world.specs.declared.Byte.{Byte}
use Rattle.osc_world.specs.declared.Byte.TheVariants.{Number}
use Rattle.osc_world.specs.declared.ObjectWhy.{ObjectWhy}
use Rattle.osc_world.specs.declared.ObjectWhy.TheVariants.{BadFree, BadCall}
use Rattle.osc_world.specs.declared.Area.{Area}
use Rattle.osc_world.specs.declared.Area.TheVariants as area
use Rattle.osc_world.specs.States.{Process}
use Rattle.osc_world.specs.Deeds.{Heaps, answers}
use Rattle.osc_world.specs.Offers.{Goes, Errs, Only, Grants, provided}
use Rattle.osc_world.specs.World.{WorldTurn, WorldDeed, Memory, Object, Live, Dead, Makes, Kills, Replaces}
use Rattle.osc_world.specs.Accesses.{in_area}
use Rattle.osc_world.specs.Calls.{zeros, resized, without_object, is_live_start, grants_object, free_deed, malloc_offer, realloc_offer, only_deed}
use Rattle.osc_world.specs.PlainWorld.{Flat, Plain, PlainTurn, BlockDeed, Places, Releases, Stays, Moves, with_given, held_with, plain_row, plain_resized, flat_after, next_start, grants_block, plain_malloc, plain_free, plain_replace, plain_realloc}
use Rattle.osc_world.proofs.Lists.{length-changed_at}
use Rattle.osc_means.specs.Shown.{shown, shown_byte, block_for, Laid, Mirrors, Mirrored}
use Rattle.osc_means.proofs.Rows.{map-append, map-replicate, pushed-last, length-row}
use Rattle.osc_means.proofs.Reading.{Paired, plain_turn, mirrored, Reached, read-shown}
use Rattle.osc_means.proofs.Blocks as blocks
use Rattle.osc_means.proofs.Granting as granting
use Rattle.osc_means.proofs.Deeds.{Alike, StepAlike}
use Rattle.osc_means.proofs.Offers.{MeaningsAlike, OffersAlike, ResultsAlike}

-- ---- answers

pub answers-alike : (frames : ℕ) (place : ℕ → ℕ → ℕ) (turn : WorldTurn) (plain : Plain) (y : Process Flat) (v : Value) (n : ℕ) → n ≡ shown (place turn.pid) v
    → Alike frames place turn plain y (answers turn v) (answers (plain_turn place turn plain y) n)
unfolding Alike
answers-alike frames place turn plain y v n e = record { put = tt; rd = refl; value = e; pc = refl; reservation = refl }

-- ---- a new block

-- what is known where a slot was found
record Fresh (frames : ℕ) (held : List Block) (user size start : ℕ) : Type 0 where
  block : IsPlaced frames (block_for user size)
  free : is_held held (block_for user size) ≡ false
  made : record { start = start; room = room_of size } ≡ block_for user size

fresh : (frames : ℕ) (held : List Block) (size start : ℕ) → blocks.Found frames held (room_of size) start → Fresh frames held (start + 16) size start
fresh frames held size start f =
    let same : start ≡ start + 16 - 16 = omega arith in
    let made : record { start = start; room = room_of size } ≡ block_for (start + 16) size = ap (λ s. record { start = s; room = room_of size }) same in
    record { block = subst (IsPlaced frames) made f.placed; free = ap (is_held held) (sym made) ∙ f.free; made = made }

-- an object that has its block differs from one that is free
differs : (held : List Block) (a b : Block) → is_held held a ≡ true → is_held held b ≡ false → a ≢ b
differs held a b e f = λ s. let g : is_held held a ≡ false = ap (is_held held) s ∙ f in absurd (cc)

-- the address of the next object is the one that is given now
next-place : (frames : ℕ) (place : ℕ → ℕ) (m : Memory) (z : Flat) (user : ℕ) → Mirrors frames place m z
    → ((o u : ℕ) → slice_get (z.given ++ user ∷ []) o ≡ Some u → place o ≡ u) → place (length m.objects) ≡ user
next-place frames place m z user s kept = ap place (sym s.given) ∙ kept (length z.given) user (pushed-last z.given user)

zeros-long : (n : ℕ) → length (zeros n) ≡ n
zeros-long zero = refl
zeros-long (suc n) = ap suc (zeros-long n)

makes-mirrors : (frames : ℕ) (place : ℕ → ℕ) (m : Memory) (z : Flat) (size start : ℕ) → frames ≤ 4096 → Mirrors frames place m z → blocks.Found frames z.held (room_of size) start
    → place (length m.objects) ≡ start + 16
    → Mirrors frames place (record m { objects = m.objects ++ Live (zeros size) ∷ [] }) (with_given z (held_with z start size) (start + 16) size (replicate size 0))
makes-mirrors frames place m z size start limit s found here =
    let f = fresh frames z.held size start found in
    let grants : granting.Grants frames place m (start + 16) size (with_block (block_for (start + 16) size) z.held) = record {
      limit = limit;
      here = here;
      block = f.block;
      start = omega arith;
      placed = λ b e. elim (blocks.with-held (block_for (start + 16) size) b z.held e) as (λ _. IsPlaced frames b) [
        | inl g ↦ subst (IsPlaced frames) (sym g) f.block
        | inr g ↦ s.placed b g
      ];
      new = blocks.held-new (block_for (start + 16) size) z.held;
      old = λ o bs e. blocks.held-with (block_for (start + 16) size) (block_for (place o) (length bs)) z.held (s.held o bs e);
      other = λ o bs e. differs z.held (block_for (place o) (length bs)) (block_for (start + 16) size) (s.held o bs e) f.free;
    } in
    let long : length (zeros size) ≡ size = zeros-long size in
    let zero_bytes : map (shown_byte place) (zeros size) ≡ replicate size 0 = map-replicate (shown_byte place) size (Number 0) in
    subst (λ b. Mirrors frames place (record m { objects = m.objects ++ Live (zeros size) ∷ [] }) (with_given z (with_block b z.held) (start + 16) size (replicate size 0))) (sym f.made)
    (subst (λ b. Mirrors frames place (record m { objects = m.objects ++ Live (zeros size) ∷ [] }) (with_given z (with_block (block_for (start + 16) size) z.held) (start + 16) size b)) zero_bytes
    (granting.granted-mirrors frames place m z (start + 16) size (with_block (block_for (start + 16) size) z.held) (zeros size) s grants long))

-- ---- malloc

user-shown : (n u : ℕ) → u ≤ 0x4000000000 → n ≡ u → u ≡ wrapped (n + 0)
user-shown n u l e = omega arith

-- where the heap finds a slot
slot-found : (frames : ℕ) (place : ℕ → ℕ) (m : Memory) (z : Flat) (size start : ℕ) → Mirrors frames place m z → next_start z size ≡ Some start → blocks.Found frames z.held (room_of size) start
slot-found frames place m z size start s e =
    subst (λ n. blocks.Found n z.held (room_of size) start) s.machine (blocks.found-start z.frames z.held (room_of size) start (blocks.room_is_room size) e)

found-below : (frames : ℕ) (held : List Block) (size start : ℕ) → frames ≤ 4096 → blocks.Found frames held (room_of size) start → start + 16 ≤ 0x4000000000
found-below frames held size start limit f = let b = (blocks.bounded frames _ limit f.placed).below in let h = blocks.room_holds size in omega arith

makes-alike : (frames : ℕ) (place : ℕ → ℕ → ℕ) (turn : WorldTurn) (plain : Plain) (y : Process Flat) (size : ℕ) → Paired frames place turn plain y → (x : Option ℕ) → next_start y.memory size ≡ x
    → OffersAlike frames place turn plain y (grants_object turn (Makes size)) (grants_block (plain_turn place turn plain y) (Places size) x)
unfolding OffersAlike MeaningsAlike Alike
makes-alike frames place turn plain y size pair None e = (tt, answers-alike frames place turn plain y (Num 0) 0 refl)
makes-alike frames place turn plain y size pair (Some start) e =
    let s = (mirrored pair).memory in
    let found = slot-found frames (place turn.pid) turn.process.memory y.memory size start s e in
    let low = found-below frames y.memory.held size start pair.limit found in (
      (λ kept.
          let here = next-place frames (place turn.pid) turn.process.memory y.memory (start + 16) s kept in
          (makes-mirrors frames (place turn.pid) turn.process.memory y.memory size start pair.limit s found here, user-shown _ (start + 16) low here)),
      answers-alike frames place turn plain y (Num 0) 0 refl,
    )

pub malloc-alike : (frames : ℕ) (place : ℕ → ℕ → ℕ) (turn : WorldTurn) (plain : Plain) (y : Process Flat) (v : Value) → Paired frames place turn plain y
    → ResultsAlike frames place turn plain y (malloc_offer turn v) (plain_malloc (plain_turn place turn plain y) y.memory (shown (place turn.pid) v))
unfolding ResultsAlike
malloc-alike frames place turn plain y (Num n) pair = makes-alike frames place turn plain y n pair (next_start y.memory n) refl
malloc-alike frames place turn plain y (Ptr o k) pair = tt

-- ---- the block of an object

-- a live object, with its block
record Owned (frames : ℕ) (place : ℕ → ℕ) (m : Memory) (z : Flat) (o k : ℕ) : Type 0 where
  bytes : List Byte
  live : slice_get m.objects o ≡ Some (Live bytes)
  user : shown place (Ptr o k) ≡ place o
  above : 0x2000000010 ≤ place o
  block : block_of_user z.held (place o) ≡ Some (block_for (place o) (length bytes))

owned : (frames : ℕ) (place : ℕ → ℕ) (m : Memory) (z : Flat) (o k : ℕ) → Mirrors frames place m z → is_live_start k (slice_get m.objects o) ≡ true → Owned frames place m z o k
owned frames place m z o k s e = by (slice_get m.objects o) refl e
  where
    by : (x : Option Object) → slice_get m.objects o ≡ x → is_live_start k x ≡ true → Owned frames place m z o k
    by None f g = absurd (cc)
    by (Some (Dead n)) f g = absurd (cc)
    by (Some (Live bs)) f g =
        let above = s.laid.above o (Live bs) f in
        let below = s.laid.below o (Live bs) f in
        let zero_offset : k ≡ 0 = grind (arith, nat_tests, g) in
        record { bytes = bs; live = f; user = omega arith; above = above; block = found bs f above (block_of_user z.held (place o)) refl }
      where
        found : (bs : List Byte) → slice_get m.objects o ≡ Some (Live bs) → 0x2000000010 ≤ place o → (x : Option Block) → block_of_user z.held (place o) ≡ x → block_of_user z.held (place o) ≡ Some (block_for (place o) (length bs))
        found bs f above None g =
            let start : (block_for (place o) (length bs)).start + 16 ≡ place o = omega arith in
            absurd (blocks.block-found z.held (place o) (block_for (place o) (length bs)) (s.held o bs f) start g)
        found bs f above (Some b) g =
            let u = blocks.user-block z.held (place o) b g in
            let at = u.0 in
            let same_start : b.start ≡ place o - 16 = omega arith in
            let same = blocks.one_start frames b (block_for (place o) (length bs)) (s.placed b u.1) (s.placed _ (s.held o bs f)) same_start in
            g ∙ ap Some same

-- ---- free

kills-mirrors : (frames : ℕ) (place : ℕ → ℕ) (m : Memory) (z : Flat) (o k : ℕ) → Mirrors frames place m z → (own : Owned frames place m z o k)
    → Mirrors frames place (record m { objects = without_object m.objects o }) (record z { held = without_block (block_for (place o) (length own.bytes)) z.held })
kills-mirrors frames place m z o k s own =
    granting.killed-mirrors frames place m z o (without_block (block_for (place o) (length own.bytes)) z.held) s
    (λ b e. blocks.without-held (block_for (place o) (length own.bytes)) b z.held e)
    (λ q bs e n. blocks.held-without (block_for (place o) (length own.bytes)) (block_for (place q) (length bs)) z.held (granting.two-blocks place m.objects q o bs own.bytes s.laid e own.live n) (s.held q bs e))

pub free-alike : (frames : ℕ) (place : ℕ → ℕ → ℕ) (turn : WorldTurn) (plain : Plain) (y : Process Flat) (v : Value) → Paired frames place turn plain y
    → ResultsAlike frames place turn plain y (only_deed (free_deed turn v)) (Only (plain_free (plain_turn place turn plain y) (block_of_user y.memory.held (shown (place turn.pid) v))))
unfolding ResultsAlike OffersAlike Alike
free-alike frames place turn plain y (Num n) pair = by (n == 0) refl
  where
    by : (t : Bool) → (n == 0) ≡ t → ResultsAlike frames place turn plain y (only_deed (provided t BadFree (Ok (answers turn (Num 0))))) (Only (plain_free (plain_turn place turn plain y) (block_of_user y.memory.held n)))
    by false e = tt
    by true e = let is : n ≡ 0 = grind (arith, nat_tests, e) in let none = blocks.no-user y.memory.held in rw (is, none) (answers-alike frames place turn plain y (Num 0) 0 refl)
free-alike frames place turn plain y (Ptr o k) pair = by (is_live_start k (slice_get turn.process.memory.objects o)) refl
  where
    by : (t : Bool) → is_live_start k (slice_get turn.process.memory.objects o) ≡ t → ResultsAlike frames place turn plain y (only_deed (provided t BadFree (Ok (Heaps (Kills o) (Num 0)))))
        (Only (plain_free (plain_turn place turn plain y) (block_of_user y.memory.held (shown (place turn.pid) (Ptr o k)))))
    by false e = tt
    by true e =
        let s = (mirrored pair).memory in
        let own = owned frames (place turn.pid) turn.process.memory y.memory o k s e in
        let found : block_of_user y.memory.held (shown (place turn.pid) (Ptr o k)) ≡ Some (block_for (place turn.pid o) (length own.bytes)) = ap (block_of_user y.memory.held) own.user ∙ own.block in
        rw found (λ kept. (kills-mirrors frames (place turn.pid) turn.process.memory y.memory o k s own, refl))

-- ---- realloc

take-past : (n : ℕ) (bytes : List Byte) → length bytes ≤ n → take n bytes ≡ take (length bytes) bytes
take-past zero [] l = refl
take-past (suc n) [] l = refl
take-past zero (b ∷ bytes) l = absurd (omega arith)
take-past (suc n) (b ∷ bytes) l = ap (λ z. b ∷ z) (take-past n bytes (omega arith))

-- the common bytes
common-bytes : (size : ℕ) (bytes : List Byte) → take size bytes ≡ take (min (length bytes) size) bytes
common-bytes size bytes = by (nat_le (length bytes) size) refl
  where
    by : (t : Bool) → nat_le (length bytes) size ≡ t → take size bytes ≡ take (min (length bytes) size) bytes
    by true e =
        let l : length bytes ≤ size = grind (arith, nat_tests, e) in
        let m : min (length bytes) size ≡ length bytes = omega arith in
        rw m (take-past size bytes l)
    by false e =
        let l : size ≤ length bytes = grind (arith, nat_tests, e) in
        let m : min (length bytes) size ≡ size = omega arith in
        rw m refl

resized-shown : (frames : ℕ) (place : ℕ → ℕ → ℕ) (turn : WorldTurn) (plain : Plain) (y : Process Flat) (o size : ℕ) (bytes : List Byte) → Paired frames place turn plain y
    → slice_get turn.process.memory.objects o ≡ Some (Live bytes)
    → map (shown_byte (place turn.pid)) (resized bytes size) ≡ plain_resized (plain_turn place turn plain y) (place turn.pid o) size
resized-shown frames place turn plain y o size bytes pair e =
    let s = (mirrored pair).memory in
    let kept = s.sizes o bytes e in
    let below = s.laid.below o (Live bytes) e in
    let short : 0 + min (length bytes) size ≤ length bytes = omega arith in
    let reached : Reached (place turn.pid) turn (min (length bytes) size) (in_area (area.Object o) 0) (place turn.pid o) = record { fits = rw e short; there = (omega arith, bytes, e); below = omega arith } in
    let row = read-shown frames place turn plain y (min (length bytes) size) (in_area (area.Object o) 0) (place turn.pid o) pair reached in
    let front : map (shown_byte (place turn.pid)) (take (min (length bytes) size) bytes) ≡ plain_row (plain_turn place turn plain y) (min (length bytes) size) (place turn.pid o) = rw e at row in
    let rest : size - length bytes ≡ size - min (length bytes) size = omega arith in
    map-append (shown_byte (place turn.pid)) (take size bytes) (zeros (size - length bytes))
    ∙ ap (λ z. map (shown_byte (place turn.pid)) z ++ map (shown_byte (place turn.pid)) (zeros (size - length bytes))) (common-bytes size bytes)
    ∙ ap (λ z. z ++ map (shown_byte (place turn.pid)) (zeros (size - length bytes))) front
    ∙ ap (λ z. plain_row (plain_turn place turn plain y) (min (length bytes) size) (place turn.pid o) ++ z) (map-replicate (shown_byte (place turn.pid)) (size - length bytes) (Number 0))
    ∙ ap (λ n. plain_row (plain_turn place turn plain y) (min (length bytes) size) (place turn.pid o) ++ replicate n 0) rest
    ∙ ap (λ n. plain_row (plain_turn place turn plain y) (min n size) (place turn.pid o) ++ replicate (size - min n size) 0) (sym kept)

resized-long : (size : ℕ) (bytes : List Byte) → length (resized bytes size) ≡ size
resized-long zero [] = refl
resized-long zero (b ∷ bytes) = let none : 0 - length (b ∷ bytes) ≡ 0 = omega arith in rw none refl
resized-long (suc n) [] = let all : suc n - 0 ≡ suc n = omega arith in rw all (zeros-long (suc n))
resized-long (suc n) (b ∷ bytes) = let rest : suc n - length (b ∷ bytes) ≡ n - length bytes = omega arith in rw rest (ap suc (resized-long n bytes))

-- an object is dead, and its bytes stand in a new one
replaced : (frames : ℕ) (place : ℕ → ℕ) (m : Memory) (z : Flat) (o user size : ℕ) (less held : List Block) (bytes : List Byte)
    → Mirrors frames place (record m { objects = without_object m.objects o }) (record z { held = less })
    → granting.Grants frames place (record m { objects = without_object m.objects o }) user size held → length bytes ≡ size
    → Mirrors frames place (record m { objects = without_object m.objects o ++ Live bytes ∷ [] }) (with_given z held user size (map (shown_byte place) bytes))
replaced frames place m z o user size less held bytes s g long =
    granting.granted-mirrors frames place (record m { objects = without_object m.objects o }) (record z { held = less }) user size held bytes s g long

stays-mirrors : (frames : ℕ) (place : ℕ → ℕ) (m : Memory) (z : Flat) (o k size : ℕ) → frames ≤ 4096 → Mirrors frames place m z → (own : Owned frames place m z o k)
    → room_of (length own.bytes) ≡ room_of size → place (length m.objects) ≡ place o
    → Mirrors frames place (record m { objects = without_object m.objects o ++ Live (resized own.bytes size) ∷ [] }) (with_given z z.held (place o) size (map (shown_byte place) (resized own.bytes size)))
stays-mirrors frames place m z o k size limit s own room here =
    let same : block_for (place o) (length own.bytes) ≡ block_for (place o) size = ap (λ r. record { start = place o - 16; room = r }) room in
    let held = s.held o own.bytes own.live in
    let less = granting.killed-mirrors frames place m z o z.held s (λ b e. e) (λ q bs e n. s.held q bs e) in
    let above = own.above in
    replaced frames place m z o (place o) size z.held z.held (resized own.bytes size) less
    (record {
      limit = limit;
      here = ap place (length-changed_at _ m.objects o) ∙ here;
      block = subst (IsPlaced frames) same (s.placed _ held);
      start = omega arith;
      placed = s.placed;
      new = subst (λ b. is_held z.held b ≡ true) same held;
      old = λ q bs e. let l = granting.live-other m.objects o q bs e in s.held q bs l.live;
      other = λ q bs e. let l = granting.live-other m.objects o q bs e in subst (λ b. block_for (place q) (length bs) ≢ b) same (granting.two-blocks place m.objects q o bs own.bytes s.laid l.live own.live l.other);
    })
    (resized-long size own.bytes)

moves-mirrors : (frames : ℕ) (place : ℕ → ℕ) (m : Memory) (z : Flat) (o k size start : ℕ) → frames ≤ 4096 → Mirrors frames place m z → (own : Owned frames place m z o k)
    → blocks.Found frames z.held (room_of size) start → place (length m.objects) ≡ start + 16
    → Mirrors frames place (record m { objects = without_object m.objects o ++ Live (resized own.bytes size) ∷ [] })
    (with_given z (without_block (block_for (place o) (length own.bytes)) (held_with z start size)) (start + 16) size (map (shown_byte place) (resized own.bytes size)))
moves-mirrors frames place m z o k size start limit s own found here =
    let f = fresh frames z.held size start found in
    let old = block_for (place o) (length own.bytes) in
    let new = block_for (start + 16) size in
    let held = s.held o own.bytes own.live in
    let apart = differs z.held (block_for (place o) (length own.bytes)) (block_for (start + 16) size) held f.free in
    let less = kills-mirrors frames place m z o k s own in
    subst (λ b. Mirrors frames place (record m { objects = without_object m.objects o ++ Live (resized own.bytes size) ∷ [] })
    (with_given z (without_block (block_for (place o) (length own.bytes)) (with_block b z.held)) (start + 16) size (map (shown_byte place) (resized own.bytes size)))) (sym f.made)
    (replaced frames place m z o (start + 16) size (without_block (block_for (place o) (length own.bytes)) z.held) (without_block (block_for (place o) (length own.bytes)) (with_block (block_for (start + 16) size) z.held)) (resized own.bytes size) less
    (record {
      limit = limit;
      here = ap place (length-changed_at _ m.objects o) ∙ here;
      block = f.block;
      start = omega arith;
      placed = λ b e. elim (blocks.with-held (block_for (start + 16) size) b z.held (blocks.without-held (block_for (place o) (length own.bytes)) b _ e)) as (λ _. IsPlaced frames b) [
        | inl g ↦ subst (IsPlaced frames) (sym g) f.block
        | inr g ↦ s.placed b g
      ];
      new = blocks.held-without (block_for (place o) (length own.bytes)) (block_for (start + 16) size) _ (λ e. apart (sym e)) (blocks.held-new (block_for (start + 16) size) z.held);
      old = λ q bs e.
          let l = granting.live-other m.objects o q bs e in
          blocks.held-without (block_for (place o) (length own.bytes)) (block_for (place q) (length bs)) _ (granting.two-blocks place m.objects q o bs own.bytes s.laid l.live own.live l.other)
          (blocks.held-with (block_for (start + 16) size) (block_for (place q) (length bs)) z.held (s.held q bs l.live));
      other = λ q bs e. let l = granting.live-other m.objects o q bs e in differs z.held (block_for (place q) (length bs)) (block_for (start + 16) size) (s.held q bs l.live) f.free;
    })
    (resized-long size own.bytes))

replaces-alike : (frames : ℕ) (place : ℕ → ℕ → ℕ) (turn : WorldTurn) (plain : Plain) (y : Process Flat) (o k size : ℕ) → Paired frames place turn plain y
    → Owned frames (place turn.pid) turn.process.memory y.memory o k
    → OffersAlike frames place turn plain y (grants_object turn (Replaces o size)) (plain_realloc (plain_turn place turn plain y) y.memory (shown (place turn.pid) (Ptr o k)) size)
unfolding OffersAlike MeaningsAlike Alike
replaces-alike frames place turn plain y o k size pair own =
    let above = own.above in
    let some : (place turn.pid o == 0) ≡ false = grind (arith, nat_tests, above) in
    let found = own.block in
    let user = own.user in
    rw (user, some, found) (by (is_room (room_of (length own.bytes)) (room_of size)) refl)
  where
    s : Mirrors frames (place turn.pid) turn.process.memory y.memory
    s = (mirrored pair).memory

    objects : List Object
    objects = without_object turn.process.memory.objects o ++ Live (resized own.bytes size) ∷ []

    moves : (x : Option ℕ) → next_start y.memory size ≡ x
        → OffersAlike frames place turn plain y (grants_object turn (Replaces o size)) (grants_block (plain_turn place turn plain y) (Moves (block_for (place turn.pid o) (length own.bytes)) (place turn.pid o) size) x)
    moves None e = (tt, answers-alike frames place turn plain y (Num 0) 0 refl)
    moves (Some start) e =
        let found = slot-found frames (place turn.pid) turn.process.memory y.memory size start s e in
        let low = found-below frames y.memory.held size start pair.limit found in
        let live = own.live in
        let row = resized-shown frames place turn plain y o size own.bytes pair own.live in (
          (λ kept.
              let here = next-place frames (place turn.pid) turn.process.memory y.memory (start + 16) s kept in
              (rw (live, ← row) (moves-mirrors frames (place turn.pid) turn.process.memory y.memory o k size start pair.limit s own found here), user-shown _ (start + 16) low here)),
          answers-alike frames place turn plain y (Num 0) 0 refl,
        )

    by : (t : Bool) → is_room (room_of (length own.bytes)) (room_of size) ≡ t
        → OffersAlike frames place turn plain y (grants_object turn (Replaces o size))
        (cond t (Grants (Goes (Heaps (Stays (place turn.pid o) size) (place turn.pid o))) (answers (plain_turn place turn plain y) 0))
        (grants_block (plain_turn place turn plain y) (Moves (block_for (place turn.pid o) (length own.bytes)) (place turn.pid o) size) (next_start y.memory size)))
    by false e = moves (next_start y.memory size) refl
    by true e =
        let room = same_room (room_of (length own.bytes)) (room_of size) e in
        let live = own.live in
        let below = s.laid.below o (Live own.bytes) own.live in
        let row = resized-shown frames place turn plain y o size own.bytes pair own.live in (
          (λ kept.
              let here = next-place frames (place turn.pid) turn.process.memory y.memory (place turn.pid o) s kept in
              (rw (live, ← row) (stays-mirrors frames (place turn.pid) turn.process.memory y.memory o k size pair.limit s own room here), user-shown _ (place turn.pid o) (omega arith) here)),
          answers-alike frames place turn plain y (Num 0) 0 refl,
        )

pub realloc-alike : (frames : ℕ) (place : ℕ → ℕ → ℕ) (turn : WorldTurn) (plain : Plain) (y : Process Flat) (v size : Value) → Paired frames place turn plain y
    → ResultsAlike frames place turn plain y (realloc_offer turn v size) (plain_realloc (plain_turn place turn plain y) y.memory (shown (place turn.pid) v) (shown (place turn.pid) size))
unfolding ResultsAlike
realloc-alike frames place turn plain y (Num n) size pair = by (n == 0) refl
  where
    by : (t : Bool) → (n == 0) ≡ t → ResultsAlike frames place turn plain y (provided t BadFree (malloc_offer turn size))
        (cond t (plain_malloc (plain_turn place turn plain y) y.memory (shown (place turn.pid) size)) (plain_replace (plain_turn place turn plain y) y.memory n (shown (place turn.pid) size) (block_of_user y.memory.held n)))
    by false e = tt
    by true e = malloc-alike frames place turn plain y size pair
realloc-alike frames place turn plain y (Ptr o k) (Ptr q j) pair = by (is_live_start k (slice_get turn.process.memory.objects o))
  where
    by : (t : Bool) → ResultsAlike frames place turn plain y (provided t BadFree (Err BadCall)) (plain_realloc (plain_turn place turn plain y) y.memory (shown (place turn.pid) (Ptr o k)) (shown (place turn.pid) (Ptr q j)))
    by false = tt
    by true = tt
realloc-alike frames place turn plain y (Ptr o k) (Num n) pair = by (is_live_start k (slice_get turn.process.memory.objects o)) refl
  where
    by : (t : Bool) → is_live_start k (slice_get turn.process.memory.objects o) ≡ t
        → ResultsAlike frames place turn plain y (provided t BadFree (Ok (grants_object turn (Replaces o n)))) (plain_realloc (plain_turn place turn plain y) y.memory (shown (place turn.pid) (Ptr o k)) n)
    by false e = tt
    by true e = replaces-alike frames place turn plain y o k n pair (owned frames (place turn.pid) turn.process.memory y.memory o k (mirrored pair).memory e)
