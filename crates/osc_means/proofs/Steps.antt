-- Instructions that are no call are alike in both runs.
use Rattle.std.proofs.Common.{ℕ, zero, suc, ◌≡◌, ◌≢◌, ◌<◌, ◌≤◌, ◌==◌, ◌+◌, ◌-◌, ◌*◌, ◌/◌, ◌%◌, ◌^◌, Bool, true, false, cond, ◌&&◌, List, [], ◌∷◌, Option, Some, None, option_map, Result, Ok, Err, arith, refl, ap, sym, subst, ◌∙◌, ◌⊎◌, inl, inr, slice_get, length, map, unwrap_or}
use Rattle.std.proofs.lemmas.Bool.Decides.{nat_tests}
use Rattle.std.specs.Prelude.{slice_index, ok_or, is_some}
use Rattle.std.specs.List.{list_all}
use Rattle.byteorder.specs.Endian.{little_bytes, little_number}
use Rattle.osc_word.specs.Registers.{register}
use Rattle.osc_sv39.specs.declared.entries.Access.{Access}
use Rattle.osc_sv39.specs.declared.entries.Access.TheVariants as access
use Rattle.osc_rv.specs.declared.instr.Instr.{Instr}
use Rattle.osc_rv.specs.declared.instr.LoadKind.{LoadKind}
use Rattle.osc_rv.specs.declared.instr.LoadKind.TheVariants as load
use Rattle.osc_rv.specs.declared.instr.AmoOp.{AmoOp}
use Rattle.osc_rv.specs.declared.instr.AmoOp.TheVariants as amo
use Rattle.osc_rv.specs.declared.instr.Width.{Width}
use Rattle.osc_rv.specs.declared.instr.Width.TheVariants.{W, D}
use Rattle.osc_isa.specs.Numbers.{wrapped}
use Rattle.osc_isa.specs.declared.IntDone.{IntDone}
use Rattle.osc_isa.specs.declared.IntDone.TheVariants as done
use Rattle.osc_isa.specs.Traps.{trap_of}
use Rattle.osc_isa.specs.Integer.{next, load_width, loaded, without_bit_0, jumped, branched}
use Rattle.osc_isa.specs.Atomic.{width_of, widened, amo_of, sc_success, sc_failure}
use Rattle.osc_world.specs.declared.Value.{Value}
use Rattle.osc_world.specs.declared.Value.TheVariants.{Num, Ptr}
use Rattle.osc_world.specs.declared.Byte.{Byte}
use Rattle.osc_world.specs.declared.Byte.TheVariants.{Number}
use Rattle.osc_world.specs.declared.ObjectWhy.{ObjectWhy}
use Rattle.osc_world.specs.declared.ObjectWhy.TheVariants.{Trap, PointerUse, PointerBytes, PointerShared}
use Rattle.osc_world.specs.declared.Place.{Place}
use Rattle.osc_world.specs.Values.{gather, spread, is_pointer_value}
use Rattle.osc_world.specs.States.{Process, value_in}
use Rattle.osc_world.specs.Deeds.{Put, Steps, sets}
use Rattle.osc_world.specs.Offers.{Meaning, Goes, Errs, Unfit, Only, Conditional, Never, then_try, provided}
use Rattle.osc_world.specs.World.{World, WorldTurn, WorldPut, WorldStep, WorldDeed, WorldOffer, Object, Live, Dead}
use Rattle.osc_world.specs.Operations.{is_amo_operand, amo_value}
use Rattle.osc_world.specs.Accesses.{aimed, is_aligned, reached_place, place_in_object, bytes_at, area_bytes, value_at, puts, is_storable, is_shared_area}
use Rattle.osc_world.specs.Instructions.{sets_if, passes, goes_to, jumps, jumps_by, branches, loaded_value, load_step, after_put, store_step, widened_value, amo_step, reserve_step, holds_reservation, conditional_step, succeeds, conditional}
use Rattle.osc_world.specs.Events.{only_step}
use Rattle.osc_world.specs.Knows.{is_plain_byte}
use Rattle.osc_world.specs.PlainWorld.{Flat, Plain, PlainTurn, PlainStep, PlainOffer, plain_number, putting, plain_amo, plain_atomic, atomic_width, plain_offer}
use Rattle.osc_means.specs.Shown.{shown, shown_byte, Laid, Mirrored}
use Rattle.osc_means.proofs.Bytes.{IsWidth, load-is, store-is, atomic-is, gather-pointer, spread-shown, spread-length, low-bytes}
use Rattle.osc_means.proofs.Rows.{length-part, some-same}
use Rattle.osc_means.proofs.Reading.{Paired, plain_turn, mirrored, Reached, place-reached, value-shown}
use Rattle.osc_means.proofs.Going.{PutAlike}
use Rattle.osc_means.proofs.Deeds.{Alike, StepAlike}
use Rattle.osc_means.proofs.Offers.{MeaningsAlike, OffersAlike, ResultsAlike}

-- ---- checks

pub tried : {A B E : Type 0} (r : Result A E) (f : A → Result B E) (b : B) → then_try r f ≡ Ok b → (a : A) × ((r ≡ Ok a) × (f a ≡ Ok b))
tried (Ok a) f b e = (a, (refl, e))
tried (Err why) f b e = absurd (cc)

pub tested : {A E : Type 0} (t : Bool) (why : E) (r : Result A E) (a : A) → provided t why r ≡ Ok a → (t ≡ true) × (r ≡ Ok a)
tested true why r a e = (refl, e)
tested false why r a e = absurd (cc)

pub register-shown : (place : ℕ → ℕ) (regs : List Value) (n : ℕ) → register (map (shown place) regs) n ≡ shown place (value_in (Num 0) regs n)
register-shown place regs n = by (n == 0)
  where
    held : (regs : List Value) (n : ℕ) → slice_index (map (shown place) regs) n ≡ shown place (unwrap_or (slice_get regs n) (Num 0))
    held [] n = refl
    held (v ∷ regs) zero = refl
    held (v ∷ regs) (suc n) = held regs n

    by : (t : Bool) → cond t 0 (slice_index (map (shown place) regs) n) ≡ shown place (cond t (Num 0) (unwrap_or (slice_get regs n) (Num 0)))
    by true = refl
    by false = held regs n

-- ---- steps

-- the plain run offers one step, which is like this one
pub record Stepped (place : ℕ → ℕ → ℕ) (turn : WorldTurn) (step : WorldStep) (other : PlainOffer) : Type 0 where
  pub plain : PlainStep
  pub is : other ≡ Only (Steps plain)
  pub alike : StepAlike (place turn.pid) turn step plain

pub only-alike : (frames : ℕ) (place : ℕ → ℕ → ℕ) (turn : WorldTurn) (plain : Plain) (y : Process Flat) (r : Result WorldStep ObjectWhy) (other : PlainOffer)
    → ((step : WorldStep) → r ≡ Ok step → Stepped place turn step other) → ResultsAlike frames place turn plain y (only_step r) other
unfolding ResultsAlike OffersAlike Alike
only-alike frames place turn plain y (Err why) other h = tt
only-alike frames place turn plain y (Ok step) other h = let s = h step refl in rw (s.is) s.alike

-- what the plain run offers for what an instruction does
abbrev pub by_done : PlainTurn → Instr → IntDone → PlainOffer
by_done turn i what = cond (is_some (trap_of what turn.hart.pc)) Never (plain_offer turn i what)

pub sets-alike : (place : ℕ → ℕ → ℕ) (turn : WorldTurn) (plain : Plain) (y : Process Flat) (rd : ℕ) (v : Option Value) (n : ℕ) (i : Instr) (step : WorldStep)
    → ((r : Value) → v ≡ Some r → shown (place turn.pid) r ≡ n) → sets_if turn rd v ≡ Ok step → Stepped place turn step (by_done (plain_turn place turn plain y) i (done.Set rd n (next turn.hart.pc)))
sets-alike place turn plain y rd None n i step h e = absurd (cc)
sets-alike place turn plain y rd (Some r) n i step h e =
    let s : sets turn rd r ≡ step = cc in
    rw (← s) (record { plain = sets (plain_turn place turn plain y) rd n; is = refl; alike = record { put = tt; rd = refl; value = sym (h r refl); pc = refl; reservation = refl } })

pub jump-alike : (place : ℕ → ℕ → ℕ) (turn : WorldTurn) (plain : Plain) (y : Process Flat) (rd target : ℕ) (i : Instr) (step : WorldStep) → jumps turn rd target ≡ Ok step
    → Stepped place turn step (by_done (plain_turn place turn plain y) i (jumped rd turn.hart.pc target))
jump-alike place turn plain y rd target i step e = by (target % 4 == 0) e
  where
    by : (t : Bool) → provided t Trap (Ok (record (sets turn rd (Num (next turn.hart.pc))) { pc = target })) ≡ Ok step
        → Stepped place turn step (by_done (plain_turn place turn plain y) i (cond t (done.Set rd (next turn.hart.pc) target) (done.BadTarget target)))
    by false f = absurd (cc)
    by true f =
        let s : record (sets turn rd (Num (next turn.hart.pc))) { pc = target } ≡ step = cc in
        rw (← s) (record { plain = record (sets (plain_turn place turn plain y) rd (next turn.hart.pc)) { pc = target }; is = refl; alike = record { put = tt; rd = refl; value = refl; pc = refl; reservation = refl } })

pub jump_by-alike : (place : ℕ → ℕ → ℕ) (turn : WorldTurn) (plain : Plain) (y : Process Flat) (rd : ℕ) (v : Value) (i : Instr) (step : WorldStep) → jumps_by turn rd v ≡ Ok step
    → Stepped place turn step (by_done (plain_turn place turn plain y) i (jumped rd turn.hart.pc (without_bit_0 (shown (place turn.pid) v))))
jump_by-alike place turn plain y rd (Num a) i step e = jump-alike place turn plain y rd (without_bit_0 a) i step e
jump_by-alike place turn plain y rd (Ptr o k) i step e = absurd (cc)

passes-alike : (place : ℕ → ℕ → ℕ) (turn : WorldTurn) (plain : Plain) (y : Process Flat) (target : ℕ) (i : Instr)
    → Stepped place turn (record (passes turn) { pc = target }) (by_done (plain_turn place turn plain y) i (done.Go target))
passes-alike place turn plain y target i = record { plain = record (sets (plain_turn place turn plain y) 0 0) { pc = target }; is = refl; alike = record { put = tt; rd = refl; value = refl; pc = refl; reservation = refl } }

pub pass-alike : (place : ℕ → ℕ → ℕ) (turn : WorldTurn) (plain : Plain) (y : Process Flat) (i : Instr) (step : WorldStep) → passes turn ≡ step
    → Stepped place turn step (by_done (plain_turn place turn plain y) i (done.Go (next turn.hart.pc)))
pass-alike place turn plain y i step e = rw (← e) (passes-alike place turn plain y (next turn.hart.pc) i)

pub branch-alike : (place : ℕ → ℕ → ℕ) (turn : WorldTurn) (plain : Plain) (y : Process Flat) (target : ℕ) (x : Option Bool) (t : Bool) (i : Instr) (step : WorldStep)
    → ((s : Bool) → x ≡ Some s → t ≡ s) → branches turn target x ≡ Ok step → Stepped place turn step (by_done (plain_turn place turn plain y) i (branched t turn.hart.pc target))
branch-alike place turn plain y target None t i step h e = absurd (cc)
branch-alike place turn plain y target (Some false) t i step h e = let s : passes turn ≡ step = cc in let f : t ≡ false = h false refl in rw (f, ← s) (passes-alike place turn plain y (next turn.hart.pc) i)
branch-alike place turn plain y target (Some true) t i step h e = let f : t ≡ true = h true refl in rw f (by (target % 4 == 0) e)
  where
    by : (u : Bool) → provided u Trap (Ok (record (passes turn) { pc = target })) ≡ Ok step
        → Stepped place turn step (by_done (plain_turn place turn plain y) i (cond u (done.Go target) (done.BadTarget target)))
    by false g = absurd (cc)
    by true g = let s : record (passes turn) { pc = target } ≡ step = cc in rw (← s) (passes-alike place turn plain y target i)

-- ---- accesses

even-number : (a k w : ℕ) → IsWidth w → a % 16 ≡ 0 → k % w ≡ 0 → wrapped (a + k) % w ≡ 0
even-number a k w (inl e) f g = rw e (omega arith)
even-number a k w (inr (inl e)) f g = rw e (let h : k % 2 ≡ 0 = rw e at g in omega arith)
even-number a k w (inr (inr (inl e))) f g = rw e (let h : k % 4 ≡ 0 = rw e at g in omega arith)
even-number a k w (inr (inr (inr e))) f g = rw e (let h : k % 8 ≡ 0 = rw e at g in omega arith)

even-shown : (place : ℕ → ℕ) (turn : WorldTurn) (mode : Access) (w : ℕ) (v : Value) (at : Place) → Laid place turn.process.memory.objects → IsWidth w → is_aligned w v ≡ true
    → reached_place turn.process mode w v ≡ Ok at → (shown place v % w == 0) ≡ true
unfolding reached_place
even-shown place turn mode w (Num a) at laid wide e f = e
even-shown place turn mode w (Ptr o k) at laid wide e f = by (slice_get turn.process.memory.objects o) refl f
  where
    low : k % w ≡ 0
    low = grind (arith, nat_tests, e)

    by : (x : Option Object) → slice_get turn.process.memory.objects o ≡ x → place_in_object o k w x ≡ Ok at → (wrapped (place o + k) % w == 0) ≡ true
    by None g h = absurd (cc)
    by (Some x) g h = let r = even-number (place o) k w wide (laid.even o x g) low in grind (arith, nat_tests, r)

-- an access that may be what it is
pub record Aimed (place : ℕ → ℕ) (turn : WorldTurn) (w : ℕ) (v : Value) (ok : Bool) (at : Place) : Type 0 where
  pub allowed : ok ≡ true
  pub even : (shown place v % w == 0) ≡ true
  pub reached : Reached place turn w at (shown place v)

pub aimed-reached : (frames : ℕ) (place : ℕ → ℕ → ℕ) (turn : WorldTurn) (plain : Plain) (y : Process Flat) (mode : Access) (w : ℕ) (v : Value) (ok : Bool) (at : Place) → Paired frames place turn plain y
    → IsWidth w → aimed turn mode w v ok ≡ Ok at → Aimed (place turn.pid) turn w v ok at
aimed-reached frames place turn plain y mode w v ok at pair wide e =
    let a = tested (is_aligned w v) Trap (provided ok PointerUse (reached_place turn.process mode w v)) at e in
    let b = tested ok PointerUse (reached_place turn.process mode w v) at a.1 in
    let m = mirrored pair in
    record {
      allowed = b.0;
      even = even-shown (place turn.pid) turn mode w v at (m.memory).laid wide a.0 b.1;
      reached = place-reached frames place turn plain y mode w v at pair wide a.0 b.1;
    }

-- a pointer comes from eight bytes
value-wide : (place : ℕ → ℕ) (turn : WorldTurn) (w : ℕ) (at : Place) (a o k : ℕ) → Reached place turn w at a → value_at turn at w ≡ Ok (Ptr o k) → w ≡ 8
value-wide place turn w at a o k r e = by (gather (bytes_at turn at w)) refl e
  where
    by : (found : Option Value) → gather (bytes_at turn at w) ≡ found → ok_or found PointerBytes ≡ Ok (Ptr o k) → w ≡ 8
    by None f g = absurd (cc)
    by (Some u) f g =
        let is : u ≡ Ptr o k = cc in
        let long = length-part (area_bytes turn.state.shared turn.process.memory at.area) at.offset w r.fits in
        sym long ∙ gather-pointer (bytes_at turn at w) o k (f ∙ ap Some is)

-- ---- loads

loaded-shown : (place : ℕ → ℕ) (kind : LoadKind) (v : Value) (n : ℕ) → shown place v ≡ n → ((o k : ℕ) → v ≡ Ptr o k → load_width kind ≡ 8) → loaded kind n ≡ shown place (loaded_value kind v)
loaded-shown place kind (Num a) n e h = ap (loaded kind) (sym e)
loaded-shown place load.Ld (Ptr o k) n e h = sym e
loaded-shown place load.Lb (Ptr o k) n e h = absurd (let w : 1 ≡ 8 = h o k refl in omega arith)
loaded-shown place load.Lh (Ptr o k) n e h = absurd (let w : 2 ≡ 8 = h o k refl in omega arith)
loaded-shown place load.Lw (Ptr o k) n e h = absurd (let w : 4 ≡ 8 = h o k refl in omega arith)
loaded-shown place load.Lbu (Ptr o k) n e h = absurd (let w : 1 ≡ 8 = h o k refl in omega arith)
loaded-shown place load.Lhu (Ptr o k) n e h = absurd (let w : 2 ≡ 8 = h o k refl in omega arith)
loaded-shown place load.Lwu (Ptr o k) n e h = absurd (let w : 4 ≡ 8 = h o k refl in omega arith)

pub load-alike : (frames : ℕ) (place : ℕ → ℕ → ℕ) (turn : WorldTurn) (plain : Plain) (y : Process Flat) (kind : LoadKind) (rd : ℕ) (address : Value) (i : Instr) (step : WorldStep) → Paired frames place turn plain y
    → load_step turn kind rd address ≡ Ok step → Stepped place turn step (by_done (plain_turn place turn plain y) i (done.Load rd kind (shown (place turn.pid) address)))
load-alike frames place turn plain y kind rd address i step pair e =
    let a = tried (aimed turn access.Load (load_width kind) address true) _ step e in
    let aim = aimed-reached frames place turn plain y access.Load (load_width kind) address true a.0 pair (load-is kind) a.1.0 in
    let b = tried (value_at turn a.0 (load_width kind)) _ step a.1.1 in
    let value = value-shown frames place turn plain y (load_width kind) a.0 (shown (place turn.pid) address) b.0 pair aim.reached b.1.0 in
    let wide : (o k : ℕ) → b.0 ≡ Ptr o k → load_width kind ≡ 8 = (λ o k f. value-wide (place turn.pid) turn (load_width kind) a.0 (shown (place turn.pid) address) o k aim.reached (b.1.0 ∙ ap Ok f)) in
    let is : sets turn rd (loaded_value kind b.0) ≡ step = (let f = b.1.1 in cc) in
    let even = aim.even in
    rw (← is) (record {
      plain = sets (plain_turn place turn plain y) rd (loaded kind (plain_number (plain_turn place turn plain y) (load_width kind) (shown (place turn.pid) address)));
      is = rw even refl;
      alike = record { put = tt; rd = refl; value = loaded-shown (place turn.pid) kind b.0 _ value wide; pc = refl; reservation = refl };
    })

-- ---- stores

positive-width : (w : ℕ) → IsWidth w → 0 < w
positive-width w (inl e) = rw e (omega arith)
positive-width w (inr (inl e)) = rw e (omega arith)
positive-width w (inr (inr (inl e))) = rw e (omega arith)
positive-width w (inr (inr (inr e))) = rw e (omega arith)

numbers-plain : (ns : List ℕ) → list_all is_plain_byte (map Number ns) ≡ true
numbers-plain [] = refl
numbers-plain (n ∷ ns) = numbers-plain ns

pub put-alike : (place : ℕ → ℕ) (turn : WorldTurn) (w : ℕ) (at : Place) (a : ℕ) (v : Value) (bytes : List ℕ) (put : WorldPut) → Reached place turn w at a → IsWidth w → is_storable w v ≡ true
    → puts at w v ≡ Ok put → bytes ≡ little_bytes w (shown place v) → PutAlike place turn put (record { at = a; bytes = bytes })
put-alike place turn w at a v bytes put r wide ok e f = by (is_pointer_value v && is_shared_area at.area) refl e
  where
    bare : (v : Value) → (is_pointer_value v && is_shared_area at.area) ≡ false → is_shared_area at.area ≡ true → list_all is_plain_byte (spread w v) ≡ true
    bare (Num n) g h = numbers-plain (little_bytes w n)
    bare (Ptr o k) g h = absurd (let no : is_shared_area at.area ≡ false = g in cc)

    by : (t : Bool) → (is_pointer_value v && is_shared_area at.area) ≡ t → cond t (Err PointerShared) (Ok (record { at = at; bytes = spread w v })) ≡ Ok put → PutAlike place turn put (record { at = a; bytes = bytes })
    by true g h = absurd (cc)
    by false g h =
        let is : record { at = at; bytes = spread w v } ≡ put = cc in
        let long = spread-length w v wide ok in
        let some = positive-width w wide in
        rw (← is) (record {
          wide = omega (arith, long, some);
          reached = subst (λ n. Reached place turn n at a) (sym long) r;
          bytes = f ∙ sym (spread-shown place w v ok);
          bare = bare v g;
        })

-- a step of both runs with its store
put-stepped : (place : ℕ → ℕ) (turn : WorldTurn) (step : WorldStep) (plain : PlainStep) (put : WorldPut) (other : Put ℕ ℕ) → StepAlike place turn step plain → PutAlike place turn put other
    → StepAlike place turn (record step { put = Some put }) (record plain { put = Some other })
put-stepped place turn step plain put other s p = record { put = p; rd = s.rd; value = s.value; pc = s.pc; reservation = s.reservation }

pub store-alike : (frames : ℕ) (place : ℕ → ℕ → ℕ) (turn : WorldTurn) (plain : Plain) (y : Process Flat) (w : ℕ) (address v : Value) (i : Instr) (step : WorldStep) → Paired frames place turn plain y → IsWidth w
    → store_step turn w address v ≡ Ok step → Stepped place turn step (by_done (plain_turn place turn plain y) i (done.Store w (shown (place turn.pid) address) (shown (place turn.pid) v % 256 ^ w)))
store-alike frames place turn plain y w address v i step pair wide e =
    let a = tried (aimed turn access.Store w address (is_storable w v)) _ step e in
    let aim = aimed-reached frames place turn plain y access.Store w address (is_storable w v) a.0 pair wide a.1.0 in
    let b = tried (puts a.0 w v) _ step a.1.1 in
    let is : record (passes turn) { put = Some b.0 } ≡ step = (let f = b.1.1 in cc) in
    let even = aim.even in
    let put = put-alike (place turn.pid) turn w a.0 (shown (place turn.pid) address) v (little_bytes w (shown (place turn.pid) v % 256 ^ w)) b.0 aim.reached wide aim.allowed b.1.0 (low-bytes w (shown (place turn.pid) v) wide) in
    rw (← is) (record {
      plain = putting w (shown (place turn.pid) address) (shown (place turn.pid) v % 256 ^ w) (sets (plain_turn place turn plain y) 0 0);
      is = rw even refl;
      alike = record { put = put; rd = refl; value = refl; pc = refl; reservation = refl };
    })

-- ---- atomics

widened-shown : (place : ℕ → ℕ) (width : Width) (v : Value) (n : ℕ) → shown place v ≡ n → ((o k : ℕ) → v ≡ Ptr o k → width_of width ≡ 8) → widened width n ≡ shown place (widened_value width v)
widened-shown place width (Num a) n e h = ap (widened width) (sym e)
widened-shown place D (Ptr o k) n e h = sym e
widened-shown place W (Ptr o k) n e h = absurd (let w : 4 ≡ 8 = h o k refl in omega arith)

-- what is stored
amo-shown : (place : ℕ → ℕ) (op : AmoOp) (width : Width) (old v r : Value) → amo_value op width old v ≡ Some r
    → little_bytes (width_of width) (amo_of op width (shown place old) (shown place v)) ≡ little_bytes (width_of width) (shown place r)
amo-shown place op width (Num a) (Num b) r e = let s : Num (amo_of op width a b) ≡ r = cc in ap (λ z. little_bytes (width_of width) (shown place z)) s
amo-shown place amo.Swap D old v r e = swap old v e
  where
    same : (n : ℕ) → little_bytes 8 (n % 2 ^ 64) ≡ little_bytes 8 n
    same n = low-bytes 8 n (inr (inr (inr refl)))

    swap : (old v : Value) → amo_value amo.Swap D old v ≡ Some r → little_bytes 8 (shown place v % 2 ^ 64) ≡ little_bytes 8 (shown place r)
    swap (Num a) (Num b) e = let s : Num (b % 2 ^ 64) ≡ r = cc in ap (λ z. little_bytes 8 (shown place z)) s
    swap (Num a) (Ptr o k) e = let s : Ptr o k ≡ r = cc in same (shown place (Ptr o k)) ∙ ap (λ z. little_bytes 8 (shown place z)) s
    swap (Ptr o k) v e = let s : v ≡ r = cc in same (shown place v) ∙ ap (λ z. little_bytes 8 (shown place z)) s
amo-shown place op width old v r e = absurd (grind (arith, e))

amo-storable : (op : AmoOp) (width : Width) (old v r : Value) → is_amo_operand op width v ≡ true → amo_value op width old v ≡ Some r → is_storable (width_of width) r ≡ true
amo-storable op width (Num a) (Num b) r f e = let s : Num (amo_of op width a b) ≡ r = cc in rw (← s) refl
amo-storable amo.Swap D old v r f e = every r
  where
    every : (r : Value) → is_storable 8 r ≡ true
    every (Num a) = refl
    every (Ptr o k) = refl
amo-storable op width old v r f e = absurd (grind (arith, e))

pub amo-alike : (frames : ℕ) (place : ℕ → ℕ → ℕ) (turn : WorldTurn) (plain : Plain) (y : Process Flat) (op : AmoOp) (width : Width) (rd : ℕ) (address v : Value) (step : WorldStep) → Paired frames place turn plain y
    → amo_step turn op width rd address v ≡ Ok step
    → Stepped place turn step (cond (shown (place turn.pid) address % width_of width == 0) (Only (Steps (plain_amo (plain_turn place turn plain y) op width rd (shown (place turn.pid) address) (shown (place turn.pid) v)))) Never)
amo-alike frames place turn plain y op width rd address v step pair e =
    let w = width_of width in
    let a = tried (aimed turn access.Store (width_of width) address (is_amo_operand op width v)) _ step e in
    let aim = aimed-reached frames place turn plain y access.Store (width_of width) address (is_amo_operand op width v) a.0 pair (atomic-is width) a.1.0 in
    let b = tried (value_at turn a.0 (width_of width)) _ step a.1.1 in
    let value = value-shown frames place turn plain y (width_of width) a.0 (shown (place turn.pid) address) b.0 pair aim.reached b.1.0 in
    let wide : (o k : ℕ) → b.0 ≡ Ptr o k → width_of width ≡ 8 = (λ o k f. value-wide (place turn.pid) turn (width_of width) a.0 (shown (place turn.pid) address) o k aim.reached (b.1.0 ∙ ap Ok f)) in
    let c = tried (ok_or (amo_value op width b.0 v) PointerUse) _ step b.1.1 in
    let found : amo_value op width b.0 v ≡ Some c.0 = found (amo_value op width b.0 v) c.0 c.1.0 in
    let d = tried (puts a.0 (width_of width) c.0) _ step c.1.1 in
    let is : record (sets turn rd (widened_value width b.0)) { put = Some d.0 } ≡ step = (let f = d.1.1 in cc) in
    let even = aim.even in
    let bytes = ap (λ n. little_bytes (width_of width) (amo_of op width n (shown (place turn.pid) v))) (sym value) ∙ amo-shown (place turn.pid) op width b.0 v c.0 found in
    let put = put-alike (place turn.pid) turn (width_of width) a.0 (shown (place turn.pid) address) c.0 _ d.0 aim.reached (atomic-is width) (amo-storable op width b.0 v c.0 aim.allowed found) d.1.0 bytes in
    rw (← is) (record {
      plain = plain_amo (plain_turn place turn plain y) op width rd (shown (place turn.pid) address) (shown (place turn.pid) v);
      is = rw even refl;
      alike = record { put = put; rd = refl; value = widened-shown (place turn.pid) width b.0 _ value wide; pc = refl; reservation = refl };
    })
  where
    found : (x : Option Value) (u : Value) → ok_or x PointerUse ≡ Ok u → x ≡ Some u
    found None u e = absurd (cc)
    found (Some z) u e = let s : z ≡ u = cc in ap Some s

pub reserve-alike : (frames : ℕ) (place : ℕ → ℕ → ℕ) (turn : WorldTurn) (plain : Plain) (y : Process Flat) (width : Width) (rd : ℕ) (address : Value) (step : WorldStep) → Paired frames place turn plain y
    → reserve_step turn width rd address ≡ Ok step
    → Stepped place turn step (cond (shown (place turn.pid) address % width_of width == 0) (Only (Steps (sets (plain_turn place turn plain y) rd (widened width (plain_number (plain_turn place turn plain y) (width_of width) (shown (place turn.pid) address)))))) Never)
reserve-alike frames place turn plain y width rd address step pair e =
    let a = tried (aimed turn access.Load (width_of width) address true) _ step e in
    let aim = aimed-reached frames place turn plain y access.Load (width_of width) address true a.0 pair (atomic-is width) a.1.0 in
    let b = tried (value_at turn a.0 (width_of width)) _ step a.1.1 in
    let value = value-shown frames place turn plain y (width_of width) a.0 (shown (place turn.pid) address) b.0 pair aim.reached b.1.0 in
    let wide : (o k : ℕ) → b.0 ≡ Ptr o k → width_of width ≡ 8 = (λ o k f. value-wide (place turn.pid) turn (width_of width) a.0 (shown (place turn.pid) address) o k aim.reached (b.1.0 ∙ ap Ok f)) in
    let is : record (sets turn rd (widened_value width b.0)) { reservation = Some (record { place = a.0; width = width }) } ≡ step = (let f = b.1.1 in cc) in
    let even = aim.even in
    rw (← is) (record {
      plain = sets (plain_turn place turn plain y) rd (widened width (plain_number (plain_turn place turn plain y) (width_of width) (shown (place turn.pid) address)));
      is = rw even refl;
      alike = record { put = tt; rd = refl; value = widened-shown (place turn.pid) width b.0 _ value wide; pc = refl; reservation = refl };
    })

pub conditional-alike : (frames : ℕ) (place : ℕ → ℕ → ℕ) (turn : WorldTurn) (plain : Plain) (y : Process Flat) (width : Width) (rd : ℕ) (address v : Value) → Paired frames place turn plain y
    → ResultsAlike frames place turn plain y (conditional turn width rd address v)
    (cond (shown (place turn.pid) address % width_of width == 0)
    (Conditional (Goes (Steps (putting (width_of width) (shown (place turn.pid) address) (shown (place turn.pid) v) (sets (plain_turn place turn plain y) rd sc_success)))) (Steps (sets (plain_turn place turn plain y) rd sc_failure))) Never)
unfolding ResultsAlike OffersAlike MeaningsAlike Alike
conditional-alike frames place turn plain y width rd address v pair = by (aimed turn access.Store (width_of width) address (is_storable (width_of width) v)) refl
  where
    other : PlainOffer
    other = Conditional (Goes (Steps (putting (width_of width) (shown (place turn.pid) address) (shown (place turn.pid) v) (sets (plain_turn place turn plain y) rd sc_success)))) (Steps (sets (plain_turn place turn plain y) rd sc_failure))

    success : (at : Place) (reserved : Bool) (r : Result WorldPut ObjectWhy) → puts at (width_of width) v ≡ r → Aimed (place turn.pid) turn (width_of width) address (is_storable (width_of width) v) at
        → MeaningsAlike frames place turn plain y (succeeds turn rd reserved r) (Goes (Steps (putting (width_of width) (shown (place turn.pid) address) (shown (place turn.pid) v) (sets (plain_turn place turn plain y) rd sc_success))))
    success at reserved (Err why) e aim = tt
    success at false (Ok put) e aim = tt
    success at true (Ok put) e aim = record {
      put = put-alike (place turn.pid) turn (width_of width) at (shown (place turn.pid) address) v _ put aim.reached (atomic-is width) aim.allowed e refl;
      rd = refl;
      value = refl;
      pc = refl;
      reservation = refl;
    }

    by : (r : Result Place ObjectWhy) → aimed turn access.Store (width_of width) address (is_storable (width_of width) v) ≡ r
        → ResultsAlike frames place turn plain y
        (then_try r (λ at. Ok (Conditional (succeeds turn rd (holds_reservation turn.hart.reservation at width) (puts at (width_of width) v)) (Steps (conditional_step turn rd sc_failure)))))
        (cond (shown (place turn.pid) address % width_of width == 0)
        (Conditional (Goes (Steps (putting (width_of width) (shown (place turn.pid) address) (shown (place turn.pid) v) (sets (plain_turn place turn plain y) rd sc_success)))) (Steps (sets (plain_turn place turn plain y) rd sc_failure))) Never)
    by (Err why) e = tt
    by (Ok at) e =
        let aim = aimed-reached frames place turn plain y access.Store (width_of width) address (is_storable (width_of width) v) at pair (atomic-is width) e in
        let even = aim.even in
        rw even (
          success at (holds_reservation turn.hart.reservation at width) (puts at (width_of width) v) refl aim,
          record { put = tt; rd = refl; value = refl; pc = refl; reservation = refl },
        )
