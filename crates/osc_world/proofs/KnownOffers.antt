-- Each pointer names a granted object: what instructions and calls decide.
use Rattle.std.proofs.Common.{◌≡◌, ℕ, ◌≤◌, ◌+◌, ◌-◌, ◌*◌, ◌%◌, ◌==◌, Bool, true, false, cond, List, [], ◌∷◌, ◌++◌, length, length-append, Option, Some, None, option_map, Result, Ok, Err, refl, arith, slice_get, map, ap, subst, ◌∙◌, take, drop}
use Rattle.std.proofs.lemmas.Bool.Decides.{nat_tests}
use Rattle.std.specs.Prelude.{find, unwrap_or, ok_or, nat_lt}
use Rattle.std.specs.List.{list_all}
use Rattle.byteorder.specs.Endian.{little_bytes}
use Rattle.osc_word.specs.declared.calls.Call.{Call}
use Rattle.osc_word.specs.declared.calls.Call.TheVariants as call
use Rattle.osc_word.specs.Environment.{call_numbered, minus_one}
use Rattle.osc_sv39.specs.declared.entries.Access.TheVariants as access
use Rattle.osc_rv.specs.declared.instr.Instr.{Instr}
use Rattle.osc_rv.specs.declared.instr.Instr.TheVariants as instr
use Rattle.osc_rv.specs.declared.instr.UpperOp.TheVariants.{Lui, Auipc}
use Rattle.osc_rv.specs.declared.instr.LoadKind.{LoadKind}
use Rattle.osc_rv.specs.declared.instr.AmoOp.{AmoOp}
use Rattle.osc_rv.specs.declared.instr.AmoOp.TheVariants as amo
use Rattle.osc_rv.specs.declared.instr.RegOp.{RegOp}
use Rattle.osc_rv.specs.declared.instr.RegOp.TheVariants as reg
use Rattle.osc_rv.specs.declared.instr.ImmOp.{ImmOp}
use Rattle.osc_rv.specs.declared.instr.ImmOp.TheVariants as imm_op
use Rattle.osc_rv.specs.declared.instr.MulOp.{MulOp}
use Rattle.osc_rv.specs.declared.instr.Width.{Width}
use Rattle.osc_rv.specs.declared.instr.Width.TheVariants.{W, D}
use Rattle.osc_isa.specs.Numbers.{wrapped, extended}
use Rattle.osc_isa.specs.Integer.{next, load_width, store_width, op_of_shift, op_of_shift_w, without_bit_0}
use Rattle.osc_isa.specs.Atomic.{width_of, sc_failure}
use Rattle.osc_world.specs.declared.Value.{Value}
use Rattle.osc_world.specs.declared.Value.TheVariants.{Num, Ptr}
use Rattle.osc_world.specs.declared.Byte.{Byte}
use Rattle.osc_world.specs.declared.Byte.TheVariants.{Number, Part}
use Rattle.osc_world.specs.declared.ObjectWhy.{ObjectWhy}
use Rattle.osc_world.specs.declared.ObjectWhy.TheVariants.{Trap, PointerUse, PointerShared, BadFree, PointerBytes}
use Rattle.osc_world.specs.declared.Area.{Area}
use Rattle.osc_world.specs.declared.Area.TheVariants as area
use Rattle.osc_world.specs.declared.Place.{Place}
use Rattle.osc_world.specs.Values.{advanced, parts, gather, number_or_pointer, numbers_in, are_parts}
use Rattle.osc_world.specs.States.{Process, Thread}
use Rattle.osc_world.specs.Deeds.{Steps, Heaps, Writes, Shares, sets, answers, is_number}
use Rattle.osc_world.specs.Offers.{Goes, Unfit, Conditional, then_try, provided, answers_if, thread_at, thread_value, child_value, shares, write_count}
use Rattle.osc_world.specs.World.{WorldTurn, WorldStep, WorldOffer, WorldPut, Memory, Object, Live, Dead, Page, killed, Makes, Kills, Replaces}
use Rattle.osc_world.specs.Operations.{operated, operated_imm, multiplied, is_taken_for, amo_value, is_amo_operand}
use Rattle.osc_world.specs.Accesses.{aimed, memory_page, object_bytes, page_bytes, area_bytes, bytes_at, value_at, is_shared_area, is_storable, puts, row_at}
use Rattle.osc_world.specs.Instructions.{register_of, objects_of, sets_if, goes_to, passes, jumps_by, branches, loaded_value, load_step, after_put, store_step, widened_value, amo_step, reserve_step, holds_reservation, conditional_step, succeeds, conditional}
use Rattle.osc_world.specs.Calls.{zeros, resized, without_object, objects_after, is_live_start, free_deed, with_number, grants_object, malloc_offer, realloc_offer, write_deed, only_deed, serves, calls}
use Rattle.osc_world.specs.Events.{only_step, offered}
use Rattle.osc_world.specs.Knows.{is_granted, is_known, is_known_byte, is_plain_byte, knows_object, knows_page, knows_memory, objects_by, knows_left, knows_thread, Knows}
use Rattle.osc_world.proofs.Lists.{length-changed_at}
use Rattle.osc_world.proofs.Known.{and-both, and-left, and-right, all-at, all-more, all-append, all-take, all-drop, all-replicate, all-changed_at, page-more, object-more, bytes-more}
use Rattle.osc_world.proofs.KnownDeeds.{InTurn, KnownPut, KnownDeed, own-count, regs-known, own-memory}
use Rattle.osc_world.proofs.Table.{OfMeaning, OfOffer, OfResult}

-- the objects of the turn's process
abbrev pub count : WorldTurn → ℕ
count turn = length turn.process.memory.objects

-- ---- values

register-known : (turn : WorldTurn) (r : ℕ) → InTurn turn → Knows turn.state → is_known (count turn) (register_of turn r) ≡ true
register-known turn r i k = by (r == 0)
  where
    held : (found : Option Value) → slice_get turn.hart.regs r ≡ found → is_known (count turn) (unwrap_or found (Num 0)) ≡ true
    held None e = refl
    held (Some v) e = all-at (is_known (count turn)) turn.hart.regs r v (regs-known turn i k) e

    by : (test : Bool) → is_known (count turn) (cond test (Num 0) (unwrap_or (slice_get turn.hart.regs r) (Num 0))) ≡ true
    by true = refl
    by false = held (slice_get turn.hart.regs r) refl

wrapped-below : (x : ℕ) → nat_lt (wrapped x) 18446744073709551616 ≡ true
wrapped-below x = grind (arith, nat_tests)

operated-known : (n : ℕ) (objects : List Object) (op : RegOp) (v w r : Value) → is_known n v ≡ true → is_known n w ≡ true → operated objects op v w ≡ Some r → is_known n r ≡ true
operated-known n objects op (Num a) (Num b) r e f g = grind (arith, g)
operated-known n objects reg.Add v w r e f g = grind (arith, nat_tests, e, f, g, wrapped-below)
operated-known n objects reg.Sub v w r e f g = grind (arith, nat_tests, e, f, g, wrapped-below)
operated-known n objects reg.Sll v w r e f g = grind (arith, nat_tests, e, f, g)
operated-known n objects reg.Slt v w r e f g = grind (arith, nat_tests, e, f, g)
operated-known n objects reg.Sltu v w r e f g = grind (arith, nat_tests, e, f, g)
operated-known n objects reg.Xor v w r e f g = grind (arith, nat_tests, e, f, g)
operated-known n objects reg.Srl v w r e f g = grind (arith, nat_tests, e, f, g)
operated-known n objects reg.Sra v w r e f g = grind (arith, nat_tests, e, f, g)
operated-known n objects reg.Or v w r e f g = grind (arith, nat_tests, e, f, g)
operated-known n objects reg.And v w r e f g = grind (arith, nat_tests, e, f, g)
operated-known n objects reg.Addw v w r e f g = grind (arith, nat_tests, e, f, g)
operated-known n objects reg.Subw v w r e f g = grind (arith, nat_tests, e, f, g)
operated-known n objects reg.Sllw v w r e f g = grind (arith, nat_tests, e, f, g)
operated-known n objects reg.Srlw v w r e f g = grind (arith, nat_tests, e, f, g)
operated-known n objects reg.Sraw v w r e f g = grind (arith, nat_tests, e, f, g)

operated_imm-known : (n : ℕ) (objects : List Object) (op : ImmOp) (v : Value) (imm : ℕ) (r : Value) → is_known n v ≡ true → operated_imm objects op v imm ≡ Some r → is_known n r ≡ true
operated_imm-known n objects op (Num a) imm r e g = grind (arith, g)
operated_imm-known n objects imm_op.Addi v imm r e g = grind (arith, nat_tests, e, g, wrapped-below)
operated_imm-known n objects imm_op.Slti v imm r e g = grind (arith, nat_tests, e, g)
operated_imm-known n objects imm_op.Sltiu v imm r e g = grind (arith, nat_tests, e, g)
operated_imm-known n objects imm_op.Xori v imm r e g = grind (arith, nat_tests, e, g)
operated_imm-known n objects imm_op.Ori v imm r e g = grind (arith, nat_tests, e, g)
operated_imm-known n objects imm_op.Andi v imm r e g = grind (arith, nat_tests, e, g)
operated_imm-known n objects imm_op.Addiw v imm r e g = grind (arith, nat_tests, e, g)

multiplied-known : (n : ℕ) (op : MulOp) (v w r : Value) → multiplied op v w ≡ Some r → is_known n r ≡ true
multiplied-known n op (Num a) (Num b) r g = grind (arith, g)
multiplied-known n op (Num a) (Ptr o k) r g = absurd (cc)
multiplied-known n op (Ptr o k) w r g = absurd (cc)

amo-known : (n : ℕ) (op : AmoOp) (width : Width) (v w r : Value) → is_known n w ≡ true → amo_value op width v w ≡ Some r → is_known n r ≡ true
amo-known n op width (Num a) (Num b) r f g = grind (arith, g)
amo-known n amo.Swap W v w r f g = grind (arith, f, g)
amo-known n amo.Swap D v w r f g = grind (arith, f, g)
amo-known n amo.Add width v w r f g = grind (arith, f, g)
amo-known n amo.Xor width v w r f g = grind (arith, f, g)
amo-known n amo.And width v w r f g = grind (arith, f, g)
amo-known n amo.Or width v w r f g = grind (arith, f, g)
amo-known n amo.Min width v w r f g = grind (arith, f, g)
amo-known n amo.Max width v w r f g = grind (arith, f, g)
amo-known n amo.Minu width v w r f g = grind (arith, f, g)
amo-known n amo.Maxu width v w r f g = grind (arith, f, g)

loaded-known : (n : ℕ) (kind : LoadKind) (v : Value) → is_known n v ≡ true → is_known n (loaded_value kind v) ≡ true
loaded-known n kind (Num a) e = refl
loaded-known n kind (Ptr o k) e = e

widened-known : (n : ℕ) (width : Width) (v : Value) → is_known n v ≡ true → is_known n (widened_value width v) ≡ true
widened-known n width (Num a) e = refl
widened-known n width (Ptr o k) e = e

-- ---- bytes

gather-known : (n : ℕ) (bytes : List Byte) (v : Value) → list_all (is_known_byte n) bytes ≡ true → gather bytes ≡ Some v → is_known n v ≡ true
gather-known n bytes v e g = by bytes (numbers_in bytes) e g
  where
    chosen : (test : Bool) (o k : ℕ) → is_granted n o k ≡ true → cond test (Some (Ptr o k)) None ≡ Some v → is_known n v ≡ true
    chosen true o k a h = let s : Ptr o k ≡ v = cc in subst (λ z. is_known n z ≡ true) s a
    chosen false o k a h = absurd (cc)

    by : (bs : List Byte) (numbers : Option (List ℕ)) → list_all (is_known_byte n) bs ≡ true → number_or_pointer bs numbers ≡ Some v → is_known n v ≡ true
    by bs (Some numbers) a h = grind (arith, h)
    by [] None a h = absurd (cc)
    by (Number b ∷ bs) None a h = absurd (cc)
    by (Part o k i ∷ bs) None a h = chosen (are_parts o k 0 (Part o k i ∷ bs)) o k (and-left (is_granted n o k) (list_all (is_known_byte n) bs) a) h

find-all : {X : Type 0} (p test : X → Bool) (xs : List X) (x : X) → list_all p xs ≡ true → find test xs ≡ Some x → p x ≡ true
find-all p test [] x a e = absurd (cc)
find-all p test (y ∷ xs) x a e = by (test y) e (find-all p test xs x (and-right (p y) (list_all p xs) a))
  where
    by : (b : Bool) → cond b (Some y) (find test xs) ≡ Some x → (find test xs ≡ Some x → p x ≡ true) → p x ≡ true
    by true f rest = let s : y ≡ x = cc in subst (λ z. p z ≡ true) s (and-left (p y) (list_all p xs) a)
    by false f rest = rest f

plain-known : (n : ℕ) (b : Byte) → is_plain_byte b ≡ true → is_known_byte n b ≡ true
plain-known n (Number a) e = refl
plain-known n (Part o k i) e = absurd (cc)

area-known : (turn : WorldTurn) (a : Area) → InTurn turn → Knows turn.state → list_all (is_known_byte (count turn)) (area_bytes turn.state.shared turn.process.memory a) ≡ true
area-known turn (area.Object o) i k = by (slice_get turn.process.memory.objects o) refl
  where
    by : (found : Option Object) → slice_get turn.process.memory.objects o ≡ found → list_all (is_known_byte (count turn)) (object_bytes found) ≡ true
    by None e = refl
    by (Some (Dead size)) e = refl
    by (Some (Live bytes)) e = all-at (knows_object (count turn)) turn.process.memory.objects o (Live bytes) (and-right (list_all (knows_page (count turn)) turn.process.memory.pages) (list_all (knows_object (count turn)) turn.process.memory.objects) (own-memory turn i k)) e
area-known turn (area.Page number) i k = by (memory_page turn.process.memory.pages number) refl
  where
    by : (found : Option Page) → memory_page turn.process.memory.pages number ≡ found → list_all (is_known_byte (count turn)) (page_bytes found) ≡ true
    by None e = refl
    by (Some page) e = find-all (knows_page (count turn)) (λ (p : Page). p.number == number) turn.process.memory.pages page (and-left (list_all (knows_page (count turn)) turn.process.memory.pages) (list_all (knows_object (count turn)) turn.process.memory.objects) (own-memory turn i k)) e
area-known turn (area.Shared number) i k = by (slice_get turn.state.shared number) refl
  where
    by : (found : Option (List Byte)) → slice_get turn.state.shared number ≡ found → list_all (is_known_byte (count turn)) (unwrap_or found []) ≡ true
    by None e = refl
    by (Some bytes) e = all-more is_plain_byte (is_known_byte (count turn)) bytes (plain-known (count turn)) (all-at (λ bs. list_all is_plain_byte bs) turn.state.shared number bytes k.shared e)

KnownRead : ℕ → Result Value ObjectWhy → Type 0
KnownRead n (Ok v) = is_known n v ≡ true
KnownRead n (Err why) = Unit {0}

value_at-known : (turn : WorldTurn) (at : Place) (width : ℕ) → InTurn turn → Knows turn.state → KnownRead (count turn) (value_at turn at width)
unfolding KnownRead
value_at-known turn at width i k = by (gather (bytes_at turn at width)) refl
  where
    by : (found : Option Value) → gather (bytes_at turn at width) ≡ found → KnownRead (count turn) (ok_or found PointerBytes)
    by None e = tt
    by (Some v) e = gather-known (count turn) (bytes_at turn at width) v (all-take (is_known_byte (count turn)) width (drop at.offset (area_bytes turn.state.shared turn.process.memory at.area)) (all-drop (is_known_byte (count turn)) at.offset (area_bytes turn.state.shared turn.process.memory at.area) (area-known turn at.area i k))) e

numbers-all : (p : Byte → Bool) (numbers : List ℕ) → ((n : ℕ) → p (Number n) ≡ true) → list_all p (map Number numbers) ≡ true
numbers-all p [] h = refl
numbers-all p (n ∷ numbers) h = and-both (p (Number n)) (list_all p (map Number numbers)) (h n) (numbers-all p numbers h)

KnownPuts : ℕ → Result WorldPut ObjectWhy → Type 0
KnownPuts n (Ok put) = KnownPut n (Some put)
KnownPuts n (Err why) = Unit {0}

puts-known : (n : ℕ) (at : Place) (width : ℕ) (value : Value) → is_known n value ≡ true → KnownPuts n (puts at width value)
unfolding KnownPuts KnownPut
puts-known n at width (Num a) e = (numbers-all (is_known_byte n) (little_bytes width a) (λ d. refl), λ s. numbers-all is_plain_byte (little_bytes width a) (λ d. refl))
puts-known n at width (Ptr o k) e = by (is_shared_area at.area) refl
  where
    by : (b : Bool) → is_shared_area at.area ≡ b → KnownPuts n (cond b (Err PointerShared) (Ok (record { at = at; bytes = parts o k })))
    by true s = tt
    by false s = (rw e refl, λ t. absurd (cc))

-- ---- steps

KnownStep : WorldTurn → Result WorldStep ObjectWhy → Type 0
KnownStep turn (Ok step) = KnownPut (count turn) step.put × (is_known (count turn) step.value ≡ true)
KnownStep turn (Err why) = Unit {0}

step-known : (turn : WorldTurn) (r : Result WorldStep ObjectWhy) → KnownStep turn r → OfResult (KnownDeed turn) (Unit {0}) (only_step r)
unfolding KnownStep KnownDeed OfResult OfOffer
step-known turn (Ok step) h = h
step-known turn (Err why) h = tt

sets_if-known : (turn : WorldTurn) (rd : ℕ) (value : Option Value) → ((v : Value) → value ≡ Some v → is_known (count turn) v ≡ true) → KnownStep turn (sets_if turn rd value)
unfolding KnownStep KnownPut
sets_if-known turn rd None h = tt
sets_if-known turn rd (Some v) h = (tt, h v refl)

goes_to-known : (turn : WorldTurn) (target : ℕ) (step : WorldStep) → KnownStep turn (Ok step) → KnownStep turn (goes_to target step)
unfolding KnownStep
goes_to-known turn target step h = by (target % 4 == 0)
  where
    by : (b : Bool) → KnownStep turn (provided b Trap (Ok (record step { pc = target })))
    by true = h
    by false = tt

jumps_by-known : (turn : WorldTurn) (rd : ℕ) (value : Value) → KnownStep turn (jumps_by turn rd value)
unfolding KnownStep KnownPut
jumps_by-known turn rd (Num a) = goes_to-known turn (without_bit_0 a) (sets turn rd (Num (next turn.hart.pc))) (tt, refl)
jumps_by-known turn rd (Ptr o k) = tt

branches-known : (turn : WorldTurn) (target : ℕ) (taken : Option Bool) → KnownStep turn (branches turn target taken)
unfolding KnownStep KnownPut
branches-known turn target None = tt
branches-known turn target (Some true) = goes_to-known turn target (passes turn) (tt, refl)
branches-known turn target (Some false) = (tt, refl)

loads-known : (turn : WorldTurn) (kind : LoadKind) (rd : ℕ) (address : Value) → InTurn turn → Knows turn.state → KnownStep turn (load_step turn kind rd address)
unfolding KnownStep KnownPut KnownRead
loads-known turn kind rd address i k = by (aimed turn access.Load (load_width kind) address true)
  where
    read : (r : Result Value ObjectWhy) → KnownRead (count turn) r → KnownStep turn (then_try r (λ value. Ok (sets turn rd (loaded_value kind value))))
    read (Ok v) h = (tt, loaded-known (count turn) kind v h)
    read (Err why) h = tt

    by : (at : Result Place ObjectWhy) → KnownStep turn (then_try at (λ at. then_try (value_at turn at (load_width kind)) (λ value. Ok (sets turn rd (loaded_value kind value)))))
    by (Ok at) = read (value_at turn at (load_width kind)) (value_at-known turn at (load_width kind) i k)
    by (Err why) = tt

reserves-known : (turn : WorldTurn) (width : Width) (rd : ℕ) (address : Value) → InTurn turn → Knows turn.state → KnownStep turn (reserve_step turn width rd address)
unfolding KnownStep KnownPut KnownRead
reserves-known turn width rd address i k = by (aimed turn access.Load (width_of width) address true)
  where
    read : (at : Place) (r : Result Value ObjectWhy) → KnownRead (count turn) r → KnownStep turn (then_try r (λ value. Ok (record (sets turn rd (widened_value width value)) { reservation = Some (record { place = at; width = width }) })))
    read at (Ok v) h = (tt, widened-known (count turn) width v h)
    read at (Err why) h = tt

    by : (at : Result Place ObjectWhy) → KnownStep turn (then_try at (λ at. then_try (value_at turn at (width_of width)) (λ value. Ok (record (sets turn rd (widened_value width value)) { reservation = Some (record { place = at; width = width }) }))))
    by (Ok at) = read at (value_at turn at (width_of width)) (value_at-known turn at (width_of width) i k)
    by (Err why) = tt

after_put-known : (turn : WorldTurn) (at : Place) (width : ℕ) (value : Value) (step : WorldStep) → is_known (count turn) value ≡ true → is_known (count turn) step.value ≡ true → KnownStep turn (after_put at width value step)
unfolding KnownStep KnownPuts
after_put-known turn at width value step e f = by (puts at width value) (puts-known (count turn) at width value e)
  where
    by : (put : Result WorldPut ObjectWhy) → KnownPuts (count turn) put → KnownStep turn (then_try put (λ put. Ok (record step { put = Some put })))
    by (Ok put) h = (h, f)
    by (Err why) h = tt

stores-known : (turn : WorldTurn) (width : ℕ) (address value : Value) → is_known (count turn) value ≡ true → KnownStep turn (store_step turn width address value)
unfolding KnownStep
stores-known turn width address value e = by (aimed turn access.Store width address (is_storable width value))
  where
    by : (at : Result Place ObjectWhy) → KnownStep turn (then_try at (λ at. after_put at width value (passes turn)))
    by (Ok at) = after_put-known turn at width value (passes turn) e refl
    by (Err why) = tt

amos-known : (turn : WorldTurn) (op : AmoOp) (width : Width) (rd : ℕ) (address operand : Value) → InTurn turn → Knows turn.state → is_known (count turn) operand ≡ true → KnownStep turn (amo_step turn op width rd address operand)
unfolding KnownStep KnownRead
amos-known turn op width rd address operand i k e = by (aimed turn access.Store (width_of width) address (is_amo_operand op width operand))
  where
    made : (at : Place) (old : Value) (r : Option Value) → amo_value op width old operand ≡ r → is_known (count turn) old ≡ true → KnownStep turn (then_try (ok_or r PointerUse) (λ value. after_put at (width_of width) value (sets turn rd (widened_value width old))))
    made at old None f h = tt
    made at old (Some v) f h = after_put-known turn at (width_of width) v (sets turn rd (widened_value width old)) (amo-known (count turn) op width old operand v e f) (widened-known (count turn) width old h)

    read : (at : Place) (r : Result Value ObjectWhy) → KnownRead (count turn) r → KnownStep turn (then_try r (λ old. then_try (ok_or (amo_value op width old operand) PointerUse) (λ value. after_put at (width_of width) value (sets turn rd (widened_value width old)))))
    read at (Ok old) h = made at old (amo_value op width old operand) refl h
    read at (Err why) h = tt

    by : (at : Result Place ObjectWhy) → KnownStep turn (then_try at (λ at. then_try (value_at turn at (width_of width)) (λ old. then_try (ok_or (amo_value op width old operand) PointerUse) (λ value. after_put at (width_of width) value (sets turn rd (widened_value width old))))))
    by (Ok at) = read at (value_at turn at (width_of width)) (value_at-known turn at (width_of width) i k)
    by (Err why) = tt

succeeds-known : (turn : WorldTurn) (rd : ℕ) (reserved : Bool) (put : Result WorldPut ObjectWhy) → KnownPuts (count turn) put → OfMeaning (KnownDeed turn) (Unit {0}) (succeeds turn rd reserved put)
unfolding OfMeaning KnownDeed KnownPuts
succeeds-known turn rd reserved (Err why) h = tt
succeeds-known turn rd true (Ok put) h = (h, refl)
succeeds-known turn rd false (Ok put) h = tt

conditional-known : (turn : WorldTurn) (width : Width) (rd : ℕ) (address value : Value) → is_known (count turn) value ≡ true → OfResult (KnownDeed turn) (Unit {0}) (conditional turn width rd address value)
unfolding OfResult OfOffer KnownDeed KnownPut
conditional-known turn width rd address value e = by (aimed turn access.Store (width_of width) address (is_storable (width_of width) value))
  where
    by : (at : Result Place ObjectWhy) → OfResult (KnownDeed turn) (Unit {0}) (then_try at (λ at. Ok (Conditional (succeeds turn rd (holds_reservation turn.hart.reservation at width) (puts at (width_of width) value)) (Steps (conditional_step turn rd sc_failure)))))
    by (Ok at) = (succeeds-known turn rd (holds_reservation turn.hart.reservation at width) (puts at (width_of width) value) (puts-known (count turn) at (width_of width) value e), (tt, refl))
    by (Err why) = tt

-- ---- the heap

KnownHeap : WorldTurn → List Object → Value → Type 0
KnownHeap turn objects value =
    (knows_memory (record (turn.process.memory) { objects = objects }) ≡ true) × (count turn ≤ length objects) × (is_known (length objects) value ≡ true)

pages-known : (turn : WorldTurn) → InTurn turn → Knows turn.state → list_all (knows_page (count turn)) turn.process.memory.pages ≡ true
pages-known turn i k = and-left (list_all (knows_page (count turn)) turn.process.memory.pages) (list_all (knows_object (count turn)) turn.process.memory.objects) (own-memory turn i k)

objects-known : (turn : WorldTurn) → InTurn turn → Knows turn.state → list_all (knows_object (count turn)) turn.process.memory.objects ≡ true
objects-known turn i k = and-right (list_all (knows_page (count turn)) turn.process.memory.pages) (list_all (knows_object (count turn)) turn.process.memory.objects) (own-memory turn i k)

-- one object more, to which a pointer is the answer
grown-known : (turn : WorldTurn) (objects : List Object) (bytes : List Byte) → InTurn turn → Knows turn.state → length objects ≡ count turn
    → list_all (knows_object (count turn)) objects ≡ true → list_all (is_known_byte (count turn)) bytes ≡ true → KnownHeap turn (objects ++ Live bytes ∷ []) (Ptr (count turn) 0)
unfolding KnownHeap
grown-known turn objects bytes i k same known new =
    let long : length (objects ++ Live bytes ∷ []) ≡ count turn + 1 = length-append objects (Live bytes ∷ []) ∙ ap (λ n. n + 1) same in
    let more : count turn ≤ count turn + 1 = omega arith in
    let pages = all-more (knows_page (count turn)) (knows_page (count turn + 1)) turn.process.memory.pages (λ p. page-more (count turn) (count turn + 1) p more) (pages-known turn i k) in
    let olds = all-more (knows_object (count turn)) (knows_object (count turn + 1)) objects (λ o. object-more (count turn) (count turn + 1) o more) known in
    let news = bytes-more (count turn) (count turn + 1) bytes more new in
    let all = all-append (knows_object (count turn + 1)) objects (Live bytes ∷ []) olds (and-both (list_all (is_known_byte (count turn + 1)) bytes) true news refl) in
    let pointer : is_granted (count turn + 1) (count turn) 0 ≡ true = grind (arith, nat_tests) in
    rw long (and-both (list_all (knows_page (count turn + 1)) turn.process.memory.pages) (list_all (knows_object (count turn + 1)) (objects ++ Live bytes ∷ [])) pages all, more, pointer)

killed-known : (n : ℕ) (object : Object) → knows_object n object ≡ true → knows_object n (killed object) ≡ true
killed-known n object e = refl

without-known : (turn : WorldTurn) (o : ℕ) → InTurn turn → Knows turn.state → list_all (knows_object (count turn)) (without_object turn.process.memory.objects o) ≡ true
without-known turn o i k = all-changed_at (knows_object (count turn)) killed turn.process.memory.objects o (killed-known (count turn)) (objects-known turn i k)

makes-known : (turn : WorldTurn) (size : ℕ) → InTurn turn → Knows turn.state → KnownHeap turn (objects_after turn.process.memory.objects (Makes size)) (Ptr (count turn) 0)
makes-known turn size i k = grown-known turn turn.process.memory.objects (zeros size) i k refl (objects-known turn i k) (all-replicate (is_known_byte (count turn)) size (Number 0) refl)

replaces-known : (turn : WorldTurn) (o size : ℕ) → InTurn turn → Knows turn.state → KnownHeap turn (objects_after turn.process.memory.objects (Replaces o size)) (Ptr (count turn) 0)
replaces-known turn o size i k =
    grown-known turn (without_object turn.process.memory.objects o) (resized (object_bytes (slice_get turn.process.memory.objects o)) size) i k (length-changed_at killed turn.process.memory.objects o) (without-known turn o i k)
    (all-append (is_known_byte (count turn)) (take size (object_bytes (slice_get turn.process.memory.objects o))) (zeros (size - length (object_bytes (slice_get turn.process.memory.objects o))))
    (all-take (is_known_byte (count turn)) size (object_bytes (slice_get turn.process.memory.objects o)) (area-known turn (area.Object o) i k))
    (all-replicate (is_known_byte (count turn)) (size - length (object_bytes (slice_get turn.process.memory.objects o))) (Number 0) refl))

kills-known : (turn : WorldTurn) (o : ℕ) → InTurn turn → Knows turn.state → KnownHeap turn (objects_after turn.process.memory.objects (Kills o)) (Num 0)
unfolding KnownHeap
kills-known turn o i k =
    let long : length (without_object turn.process.memory.objects o) ≡ count turn = length-changed_at killed turn.process.memory.objects o in
    rw long (and-both (list_all (knows_page (count turn)) turn.process.memory.pages) (list_all (knows_object (count turn)) (without_object turn.process.memory.objects o)) (pages-known turn i k) (without-known turn o i k), omega arith, refl)

-- ---- calls

number-known : (turn : WorldTurn) (v : Value) (f : ℕ → WorldOffer) → ((n : ℕ) → OfOffer (KnownDeed turn) (Unit {0}) (f n)) → OfResult (KnownDeed turn) (Unit {0}) (with_number v f)
unfolding OfResult
number-known turn (Num n) f all = all n
number-known turn (Ptr o k) f all = tt

provided-known : (turn : WorldTurn) (b : Bool) (why : ObjectWhy) (r : Result WorldOffer ObjectWhy) → OfResult (KnownDeed turn) (Unit {0}) r → OfResult (KnownDeed turn) (Unit {0}) (provided b why r)
unfolding OfResult
provided-known turn true why r h = h
provided-known turn false why r h = tt

malloc-known : (turn : WorldTurn) (size : Value) → InTurn turn → Knows turn.state → OfResult (KnownDeed turn) (Unit {0}) (malloc_offer turn size)
unfolding OfOffer OfMeaning KnownDeed KnownPut KnownHeap
malloc-known turn size i k = number-known turn size (λ n. grants_object turn (Makes n)) (λ n. (makes-known turn n i k, (tt, refl)))

realloc-known : (turn : WorldTurn) (p size : Value) → InTurn turn → Knows turn.state → OfResult (KnownDeed turn) (Unit {0}) (realloc_offer turn p size)
unfolding OfOffer OfMeaning KnownDeed KnownPut KnownHeap
realloc-known turn (Num n) size i k = provided-known turn (n == 0) BadFree (malloc_offer turn size) (malloc-known turn size i k)
realloc-known turn (Ptr o j) size i k = provided-known turn (is_live_start j (slice_get (objects_of turn) o)) BadFree (with_number size (λ n. grants_object turn (Replaces o n))) (number-known turn size (λ n. grants_object turn (Replaces o n)) (λ n. (replaces-known turn o n i k, (tt, refl))))

free-known : (turn : WorldTurn) (p : Value) → InTurn turn → Knows turn.state → OfResult (KnownDeed turn) (Unit {0}) (only_deed (free_deed turn p))
unfolding OfResult OfOffer KnownDeed KnownPut KnownHeap
free-known turn (Num n) i k = by (n == 0)
  where
    by : (b : Bool) → OfResult (KnownDeed turn) (Unit {0}) (only_deed (provided b BadFree (Ok (answers turn (Num 0)))))
    by true = (tt, refl)
    by false = tt
free-known turn (Ptr o j) i k = by (is_live_start j (slice_get (objects_of turn) o))
  where
    by : (b : Bool) → OfResult (KnownDeed turn) (Unit {0}) (only_deed (provided b BadFree (Ok (Heaps (Kills o) (Num 0)))))
    by true = kills-known turn o i k
    by false = tt

write-known : (turn : WorldTurn) (buffer : Value) (asked : ℕ) → OfResult (KnownDeed turn) (Unit {0}) (only_deed (write_deed turn buffer asked))
unfolding OfResult OfOffer KnownDeed
write-known turn buffer asked = by (row_at turn (write_count turn.state asked) buffer)
  where
    numbers : (r : Option (List ℕ)) → OfResult (KnownDeed turn) (Unit {0}) (only_deed (then_try (ok_or r PointerBytes) (λ ns. Ok (Writes ns))))
    numbers None = tt
    numbers (Some ns) = tt

    by : (r : Result (List Byte) ObjectWhy) → OfResult (KnownDeed turn) (Unit {0}) (only_deed (then_try r (λ bytes. then_try (ok_or (numbers_in bytes) PointerBytes) (λ ns. Ok (Writes ns)))))
    by (Ok bytes) = numbers (numbers_in bytes)
    by (Err why) = tt

answers-known : (turn : WorldTurn) (value : Option Value) → ((v : Value) → value ≡ Some v → is_known (count turn) v ≡ true) → OfOffer (KnownDeed turn) (Unit {0}) (answers_if turn value)
unfolding OfOffer KnownDeed KnownPut
answers-known turn None h = tt
answers-known turn (Some v) h = (tt, h v refl)

thread-known : (turn : WorldTurn) (t : ℕ) (thread : Thread Value) → Knows turn.state → thread_at turn.state.threads t ≡ Some thread → knows_thread turn.state.processes thread ≡ true
thread-known turn t thread k e = by (t == 0) e
  where
    by : (b : Bool) → cond b None (slice_get turn.state.threads (t - 1)) ≡ Some thread → knows_thread turn.state.processes thread ≡ true
    by true f = absurd (cc)
    by false f = all-at (knows_thread turn.state.processes) turn.state.threads (t - 1) thread k.left f

joined-known : (turn : WorldTurn) (t : ℕ) (v : Value) → InTurn turn → Knows turn.state → thread_value Num turn.pid (thread_at turn.state.threads t) ≡ Some v → is_known (count turn) v ≡ true
joined-known turn t v i k e = by (thread_at turn.state.threads t) refl e
  where
    own : (thread : Thread Value) → knows_left (objects_by turn.state.processes (Some thread.spawner)) thread.value ≡ true → (b : Bool) → (thread.spawner == turn.pid) ≡ b → cond b thread.value (Some (Num minus_one)) ≡ Some v → is_known (count turn) v ≡ true
    own thread h true s f =
        let is : thread.spawner ≡ turn.pid = grind (arith, nat_tests, s) in
        let left : knows_left (count turn) thread.value ≡ true = subst (λ n. knows_left n thread.value ≡ true) (ap (λ p. objects_by turn.state.processes (Some p)) is ∙ own-count turn i) h in
        rw f at left
    own thread h false s f = let same : Num minus_one ≡ v = cc in subst (λ z. is_known (count turn) z ≡ true) same refl

    by : (found : Option (Thread Value)) → thread_at turn.state.threads t ≡ found → thread_value Num turn.pid found ≡ Some v → is_known (count turn) v ≡ true
    by None f h = let same : Num minus_one ≡ v = cc in subst (λ z. is_known (count turn) z ≡ true) same refl
    by (Some thread) f h = own thread (thread-known turn t thread k f) (thread.spawner == turn.pid) refl h

waited-known : (turn : WorldTurn) (process : Option (Process Memory)) (v : Value) → child_value Num turn.pid process ≡ Some v → is_known (count turn) v ≡ true
waited-known turn None v e = let same : Num minus_one ≡ v = cc in subst (λ z. is_known (count turn) z ≡ true) same refl
waited-known turn (Some process) v e = by (is_number process.parent turn.pid) process.status e
  where
    by : (b : Bool) (status : Option ℕ) → cond b (option_map Num status) (Some (Num minus_one)) ≡ Some v → is_known (count turn) v ≡ true
    by true None f = absurd (cc)
    by true (Some n) f = let same : Num n ≡ v = cc in subst (λ z. is_known (count turn) z ≡ true) same refl
    by false status f = let same : Num minus_one ≡ v = cc in subst (λ z. is_known (count turn) z ≡ true) same refl

shares-known : (turn : WorldTurn) (n : ℕ) → OfMeaning (KnownDeed turn) (Unit {0}) (shares n)
unfolding OfMeaning KnownDeed
shares-known turn n = by (nat_lt 0 n)
  where
    by : (b : Bool) → OfMeaning (KnownDeed turn) (Unit {0}) (cond b (Goes (Shares n)) Unfit)
    by true = tt
    by false = tt

serves-known : (turn : WorldTurn) (s : Call) → InTurn turn → Knows turn.state → OfResult (KnownDeed turn) (Unit {0}) (serves turn s)
unfolding serves OfResult OfOffer KnownDeed KnownPut
serves-known turn (call.Exit status) i k = number-known turn (register_of turn status) _ (λ n. tt)
serves-known turn (call.Write buffer asked) i k = by (register_of turn asked)
  where
    by : (v : Value) → OfResult (KnownDeed turn) (Unit {0}) (then_try (with_number v (write_deed turn (register_of turn buffer))) only_deed)
    by (Num n) = write-known turn (register_of turn buffer) n
    by (Ptr o j) = tt
serves-known turn (call.Malloc size) i k = malloc-known turn (register_of turn size) i k
serves-known turn (call.Free p) i k = free-known turn (register_of turn p) i k
serves-known turn (call.Realloc p size) i k = realloc-known turn (register_of turn p) (register_of turn size) i k
serves-known turn call.Fork i k = ((λ h. tt), (tt, refl))
serves-known turn (call.Spawn pc sp arg) i k = number-known turn (register_of turn pc) _ (λ n. ((λ h. (register-known turn sp i k, register-known turn arg i k)), (tt, refl)))
serves-known turn (call.Join thread) i k = number-known turn (register_of turn thread) _ (λ n. answers-known turn _ (λ v. joined-known turn n v i k))
serves-known turn (call.Done value) i k = register-known turn value i k
serves-known turn (call.Share n) i k = number-known turn (register_of turn n) _ (λ m. (shares-known turn m, (tt, refl)))
serves-known turn (call.Wait child) i k = number-known turn (register_of turn child) _ (λ n. answers-known turn _ (waited-known turn _))
serves-known turn (call.Unknown number) i k = tt
serves-known turn (call.End fault) i k = tt

calls-known : (turn : WorldTurn) → InTurn turn → Knows turn.state → OfResult (KnownDeed turn) (Unit {0}) (calls turn)
unfolding OfResult
calls-known turn i k = by (register_of turn 17)
  where
    by : (v : Value) → OfResult (KnownDeed turn) (Unit {0}) (then_try (with_number v (λ number. call_numbered number 10 11 12)) (serves turn))
    by (Num n) = serves-known turn (call_numbered n 10 11 12) i k
    by (Ptr o j) = tt

-- ---- all instructions

pub offered-known : (turn : WorldTurn) (x : Instr) → InTurn turn → Knows turn.state → OfResult (KnownDeed turn) (Unit {0}) (offered turn x)
unfolding offered OfResult KnownStep KnownPut
offered-known turn (instr.Upper Lui rd imm) i k = step-known turn (Ok _) (tt, refl)
offered-known turn (instr.Upper Auipc rd imm) i k = step-known turn (Ok _) (tt, refl)
offered-known turn (instr.Jal rd half) i k = step-known turn _ (goes_to-known turn (wrapped (turn.hart.pc + extended 21 (half * 2))) (sets turn rd (Num (next turn.hart.pc))) (tt, refl))
offered-known turn (instr.Jalr rd rs1 imm) i k = step-known turn _ (jumps_by-known turn rd (advanced (register_of turn rs1) (extended 12 imm)))
offered-known turn (instr.Branch kind rs1 rs2 half) i k = step-known turn _ (branches-known turn (wrapped (turn.hart.pc + extended 13 (half * 2))) (is_taken_for (objects_of turn) kind (register_of turn rs1) (register_of turn rs2)))
offered-known turn (instr.Load kind rd rs1 imm) i k = step-known turn _ (loads-known turn kind rd (advanced (register_of turn rs1) (extended 12 imm)) i k)
offered-known turn (instr.Store kind rs1 rs2 imm) i k = step-known turn _ (stores-known turn (store_width kind) (advanced (register_of turn rs1) (extended 12 imm)) (register_of turn rs2) (register-known turn rs2 i k))
offered-known turn (instr.Imm op rd rs1 imm) i k = step-known turn _ (sets_if-known turn rd (operated_imm (objects_of turn) op (register_of turn rs1) (extended 12 imm)) (λ v. operated_imm-known (count turn) (objects_of turn) op (register_of turn rs1) (extended 12 imm) v (register-known turn rs1 i k)))
offered-known turn (instr.Shift op rd rs1 amount) i k = step-known turn _ (sets_if-known turn rd (operated (objects_of turn) (op_of_shift op) (register_of turn rs1) (Num amount)) (λ v. operated-known (count turn) (objects_of turn) (op_of_shift op) (register_of turn rs1) (Num amount) v (register-known turn rs1 i k) refl))
offered-known turn (instr.ShiftW op rd rs1 amount) i k = step-known turn _ (sets_if-known turn rd (operated (objects_of turn) (op_of_shift_w op) (register_of turn rs1) (Num amount)) (λ v. operated-known (count turn) (objects_of turn) (op_of_shift_w op) (register_of turn rs1) (Num amount) v (register-known turn rs1 i k) refl))
offered-known turn (instr.Op op rd rs1 rs2) i k = step-known turn _ (sets_if-known turn rd (operated (objects_of turn) op (register_of turn rs1) (register_of turn rs2)) (λ v. operated-known (count turn) (objects_of turn) op (register_of turn rs1) (register_of turn rs2) v (register-known turn rs1 i k) (register-known turn rs2 i k)))
offered-known turn (instr.Mul op rd rs1 rs2) i k = step-known turn _ (sets_if-known turn rd (multiplied op (register_of turn rs1) (register_of turn rs2)) (λ v. multiplied-known (count turn) op (register_of turn rs1) (register_of turn rs2) v))
offered-known turn (instr.Fence bits) i k = step-known turn (Ok _) (tt, refl)
offered-known turn (instr.FenceI bits) i k = step-known turn (Ok _) (tt, refl)
offered-known turn instr.Ecall i k = calls-known turn i k
offered-known turn instr.Ebreak i k = tt
offered-known turn (instr.Amo op width rd rs1 rs2 aq rl) i k = step-known turn _ (amos-known turn op width rd (register_of turn rs1) (register_of turn rs2) i k (register-known turn rs2 i k))
offered-known turn (instr.Lr width rd rs1 aq rl) i k = step-known turn _ (reserves-known turn width rd (register_of turn rs1) i k)
offered-known turn (instr.Sc width rd rs1 rs2 aq rl) i k = conditional-known turn width rd (register_of turn rs1) (register_of turn rs2) (register-known turn rs2 i k)
