-- Calls are alike in both runs.
use Rattle.std.proofs.Common.{ℕ, zero, suc, ◌≡◌, ◌≢◌, ◌<◌, ◌≤◌, ◌==◌, ◌+◌, ◌-◌, ◌*◌, ◌/◌, ◌%◌, Bool, true, false, cond, List, [], ◌∷◌, ◌++◌, Option, Some, None, option_map, Result, Ok, Err, arith, refl, ap, sym, subst, ◌∙◌, inl, slice_get, length, map, unwrap_or}
use Rattle.std.proofs.lemmas.Bool.Decides.{nat_tests}
use Rattle.std.proofs.lemmas.Option.{slice_get-map, slice_get_within}
use Rattle.std.specs.Prelude.{ok_or, nat_lt, min}
use Rattle.osc_word.specs.AddressMap.{first_shared_page, first_shadow_page}
use Rattle.osc_word.specs.Registers.{register}
use Rattle.osc_word.specs.declared.calls.Call.{Call}
use Rattle.osc_word.specs.declared.calls.Call.TheVariants.{Exit, Write, Malloc, Free, Realloc, Fork, Spawn, Join, Done, Share, Wait, Unknown}
use Rattle.osc_word.specs.Environment.{call_of, call_numbered, minus_one, output_limit}
use Rattle.osc_sv39.specs.declared.entries.Access.TheVariants as access
use Rattle.osc_isa.specs.Numbers.{wrapped}
use Rattle.osc_world.specs.declared.Value.{Value}
use Rattle.osc_world.specs.declared.Value.TheVariants.{Num, Ptr}
use Rattle.osc_world.specs.declared.Byte.{Byte}
use Rattle.osc_world.specs.declared.ObjectWhy.{ObjectWhy}
use Rattle.osc_world.specs.declared.ObjectWhy.TheVariants.{PointerBytes}
use Rattle.osc_world.specs.declared.Place.{Place}
use Rattle.osc_world.specs.Values.{advanced, numbers_in}
use Rattle.osc_world.specs.States.{Process, Thread}
use Rattle.osc_world.specs.Deeds.{Writes, Exits, Leaves, Shares, Forks, Spawns, is_number, answers}
use Rattle.osc_world.specs.Offers.{Meaning, Goes, Errs, Unfit, Only, Grants, Starts, Never, then_try, answers_if, thread_at, thread_value, joins, child_value, waits, forks, spawns, shares, write_count}
use Rattle.osc_world.specs.World.{World, WorldTurn, WorldOffer, Memory}
use Rattle.osc_world.specs.Accesses.{is_aligned, reached_place, bytes_at, loaded_byte, row_at}
use Rattle.osc_world.specs.Instructions.{register_of}
use Rattle.osc_world.specs.Calls.{with_number, write_deed, only_deed, serves, calls}
use Rattle.osc_world.specs.PlainWorld.{Flat, Plain, PlainTurn, PlainOffer, NoAddress, plain_row, plain_byte, plain_shares, plain_serves}
use Rattle.osc_means.specs.Shown.{shown, shown_byte, shown_thread, Mirrored, Shows}
use Rattle.osc_means.proofs.Bytes.{numbers-shown}
use Rattle.osc_means.proofs.Rows.{map-append, stands, some-same}
use Rattle.osc_means.proofs.Operations.{advanced-shown}
use Rattle.osc_means.proofs.Reading.{Paired, plain_turn, mirrored, place-reached, read-shown}
use Rattle.osc_means.proofs.Deeds.{Alike}
use Rattle.osc_means.proofs.Offers.{MeaningsAlike, OffersAlike, ResultsAlike}
use Rattle.osc_means.proofs.Steps.{tried, register-shown}
use Rattle.osc_means.proofs.Heaps.{answers-alike, malloc-alike, free-alike, realloc-alike}

-- ---- write

aligned-one : (v : Value) → is_aligned 1 v ≡ true
aligned-one (Num a) = let z : a % 1 ≡ 0 = omega arith in grind (arith, nat_tests, z)
aligned-one (Ptr o k) = let z : k % 1 ≡ 0 = omega arith in grind (arith, nat_tests, z)

-- the bytes of a row, and the plain row
rows-alike : (frames : ℕ) (place : ℕ → ℕ → ℕ) (turn : WorldTurn) (plain : Plain) (y : Process Flat) (n : ℕ) (v : Value) (bytes : List Byte) → Paired frames place turn plain y
    → row_at turn n v ≡ Ok bytes → map (shown_byte (place turn.pid)) bytes ≡ plain_row (plain_turn place turn plain y) n (shown (place turn.pid) v)
unfolding row_at plain_row
rows-alike frames place turn plain y zero v bytes pair e = let s : [] ≡ bytes = cc in rw (← s) refl
rows-alike frames place turn plain y (suc n) v bytes pair e =
    let a = tried (loaded_byte turn v) _ bytes e in
    let b = tried (row_at turn n (advanced v 1)) _ bytes a.1.1 in
    let at = tried (reached_place turn.process access.Load 1 v) _ a.0 a.1.0 in
    let first : bytes_at turn at.0 1 ≡ a.0 = (let f = at.1.1 in cc) in
    let all : a.0 ++ b.0 ≡ bytes = (let f = b.1.1 in cc) in
    let reached = place-reached frames place turn plain y access.Load 1 v at.0 pair (inl refl) (aligned-one v) at.1.0 in
    let here = read-shown frames place turn plain y 1 at.0 (shown (place turn.pid) v) pair reached in
    let rest = rows-alike frames place turn plain y n (advanced v 1) b.0 pair b.1.0 in
    let head : map (shown_byte (place turn.pid)) a.0 ≡ plain_byte (plain_turn place turn plain y) (shown (place turn.pid) v) ∷ [] = ap (map (shown_byte (place turn.pid))) (sym first) ∙ here in
    let tail : map (shown_byte (place turn.pid)) b.0 ≡ plain_row (plain_turn place turn plain y) n (wrapped (shown (place turn.pid) v + 1)) = rest ∙ ap (plain_row (plain_turn place turn plain y) n) (advanced-shown (place turn.pid) v 1) in
    ap (map (shown_byte (place turn.pid))) (sym all) ∙ map-append (shown_byte (place turn.pid)) a.0 b.0 ∙ ap (λ z. z ++ map (shown_byte (place turn.pid)) b.0) head
    ∙ ap (λ z. plain_byte (plain_turn place turn plain y) (shown (place turn.pid) v) ∷ z) tail

write-alike : (frames : ℕ) (place : ℕ → ℕ → ℕ) (turn : WorldTurn) (plain : Plain) (y : Process Flat) (v : Value) (asked : ℕ) → Paired frames place turn plain y
    → ResultsAlike frames place turn plain y (only_deed (write_deed turn v asked)) (Only (Writes (plain_row (plain_turn place turn plain y) (write_count plain asked) (shown (place turn.pid) v))))
unfolding ResultsAlike OffersAlike Alike
write-alike frames place turn plain y v asked pair = rw count (by (row_at turn (write_count turn.state asked) v) refl)
  where
    count : write_count plain asked ≡ write_count turn.state asked
    count = ap (λ z. min asked (output_limit - length z)) pair.shows.output

    numbers : (bytes : List Byte) → row_at turn (write_count turn.state asked) v ≡ Ok bytes → (r : Option (List ℕ)) → numbers_in bytes ≡ r
        → ResultsAlike frames place turn plain y (only_deed (then_try (ok_or r PointerBytes) (λ ns. Ok (Writes ns)))) (Only (Writes (plain_row (plain_turn place turn plain y) (write_count turn.state asked) (shown (place turn.pid) v))))
    numbers bytes e None f = tt
    numbers bytes e (Some ns) f = sym (rows-alike frames place turn plain y (write_count turn.state asked) v bytes pair e) ∙ numbers-shown (place turn.pid) bytes ns f

    by : (r : Result (List Byte) ObjectWhy) → row_at turn (write_count turn.state asked) v ≡ r
        → ResultsAlike frames place turn plain y (only_deed (then_try r (λ bytes. then_try (ok_or (numbers_in bytes) PointerBytes) (λ ns. Ok (Writes ns)))))
        (Only (Writes (plain_row (plain_turn place turn plain y) (write_count turn.state asked) (shown (place turn.pid) v))))
    by (Err why) e = tt
    by (Ok bytes) e = numbers bytes e (numbers_in bytes) refl

-- ---- join and wait

given-alike : (frames : ℕ) (place : ℕ → ℕ → ℕ) (turn : WorldTurn) (plain : Plain) (y : Process Flat) (v : Option Value) (n : Option ℕ) → n ≡ option_map (shown (place turn.pid)) v
    → OffersAlike frames place turn plain y (answers_if turn v) (answers_if (plain_turn place turn plain y) n)
unfolding OffersAlike
given-alike frames place turn plain y None n e = tt
given-alike frames place turn plain y (Some v) n e = rw e (answers-alike frames place turn plain y v (shown (place turn.pid) v) refl)

joins-alike : (frames : ℕ) (place : ℕ → ℕ → ℕ) (turn : WorldTurn) (plain : Plain) (y : Process Flat) (t : ℕ) → Paired frames place turn plain y
    → OffersAlike frames place turn plain y (joins Num turn t) (joins (λ n. n) (plain_turn place turn plain y) t)
joins-alike frames place turn plain y t pair =
    given-alike frames place turn plain y (thread_value Num turn.pid (thread_at turn.state.threads t)) (thread_value (λ n. n) turn.pid (thread_at plain.threads t))
    (ap (thread_value (λ n. n) turn.pid) (found (t == 0)) ∙ value (thread_at turn.state.threads t))
  where
    found : (b : Bool) → cond b None (slice_get plain.threads (t - 1)) ≡ option_map (shown_thread place) (cond b None (slice_get turn.state.threads (t - 1)))
    found true = refl
    found false = ap (λ z. slice_get z (t - 1)) pair.shows.threads ∙ slice_get-map (shown_thread place) turn.state.threads (t - 1)

    own : (thread : Thread Value) (b : Bool) → (thread.spawner == turn.pid) ≡ b
        → cond b (option_map (shown (place thread.spawner)) thread.value) (Some minus_one) ≡ option_map (shown (place turn.pid)) (cond b thread.value (Some (Num minus_one)))
    own thread true e = let is : thread.spawner ≡ turn.pid = grind (arith, nat_tests, e) in ap (λ p. option_map (shown (place p)) thread.value) is
    own thread false e = refl

    value : (x : Option (Thread Value)) → thread_value (λ n. n) turn.pid (option_map (shown_thread place) x) ≡ option_map (shown (place turn.pid)) (thread_value Num turn.pid x)
    value None = refl
    value (Some thread) = own thread (thread.spawner == turn.pid) refl

waits-alike : (frames : ℕ) (place : ℕ → ℕ → ℕ) (turn : WorldTurn) (plain : Plain) (y : Process Flat) (child : ℕ) → Paired frames place turn plain y
    → OffersAlike frames place turn plain y (waits Num turn child) (waits (λ n. n) (plain_turn place turn plain y) child)
waits-alike frames place turn plain y child pair =
    given-alike frames place turn plain y (child_value Num turn.pid (slice_get turn.state.processes child)) (child_value (λ n. n) turn.pid (slice_get plain.processes child))
    (by (slice_get turn.state.processes child) (slice_get plain.processes child) refl refl)
  where
    ended : (b : Bool) (status : Option ℕ) → cond b (option_map (λ n. n) status) (Some minus_one) ≡ option_map (shown (place turn.pid)) (cond b (option_map Num status) (Some (Num minus_one)))
    ended true None = refl
    ended true (Some n) = refl
    ended false status = refl

    by : (u : Option (Process Memory)) (v : Option (Process Flat)) → slice_get turn.state.processes child ≡ u → slice_get plain.processes child ≡ v
        → child_value (λ n. n) turn.pid v ≡ option_map (shown (place turn.pid)) (child_value Num turn.pid u)
    by None None e f = refl
    by (Some u) (Some v) e f =
        let m = pair.shows.processes child u v e f in
        ap (λ p. cond (is_number p turn.pid) (option_map (λ n. n) v.status) (Some minus_one)) m.parent
        ∙ ap (λ s. cond (is_number u.parent turn.pid) (option_map (λ n. n) s) (Some minus_one)) m.status
        ∙ ended (is_number u.parent turn.pid) u.status
    by None (Some v) e f =
        let inside = slice_get_within plain.processes child v f in
        let there = stands turn.state.processes child (let c = pair.shows.count in omega arith) in
        absurd (let g = there.1 in cc)
    by (Some u) None e f =
        let inside = slice_get_within turn.state.processes child u e in
        let there = stands plain.processes child (let c = pair.shows.count in omega arith) in
        absurd (let g = there.1 in cc)

-- ---- share

shares-alike : (frames : ℕ) (place : ℕ → ℕ → ℕ) (turn : WorldTurn) (plain : Plain) (y : Process Flat) (count : ℕ) → Paired frames place turn plain y
    → MeaningsAlike frames place turn plain y (shares count) (plain_shares (plain_turn place turn plain y) count)
unfolding MeaningsAlike Alike
shares-alike frames place turn plain y count pair = by (nat_lt 0 count) (nat_lt first_shadow_page (first_shared_page + (length y.shared + count))) refl
  where
    by : (t u : Bool) → nat_lt first_shadow_page (first_shared_page + (length y.shared + count)) ≡ u
        → MeaningsAlike frames place turn plain y (cond t (Goes (Shares count)) Unfit) (cond u (Errs NoAddress) (cond t (Goes (Shares count)) Unfit))
    by false u e = tt
    by true true e = tt
    by true false e =
        let m = mirrored pair in
        let same : length y.shared ≡ length turn.process.shared = ap length m.shared in
        let few : first_shared_page + (length y.shared + count) ≤ first_shadow_page = grind (arith, nat_tests, e) in
        (refl, omega (arith, same, few))

-- ---- all calls

-- a call whose argument has to be a number
numbered : (frames : ℕ) (place : ℕ → ℕ → ℕ) (turn : WorldTurn) (plain : Plain) (y : Process Flat) (v : Value) (f : ℕ → WorldOffer) (g : ℕ → PlainOffer)
    → ((n : ℕ) → OffersAlike frames place turn plain y (f n) (g n)) → ResultsAlike frames place turn plain y (with_number v f) (g (shown (place turn.pid) v))
unfolding ResultsAlike
numbered frames place turn plain y (Num n) f g h = h n
numbered frames place turn plain y (Ptr o k) f g h = tt

exits-alike : (frames : ℕ) (place : ℕ → ℕ → ℕ) (turn : WorldTurn) (plain : Plain) (y : Process Flat) (n : ℕ) → OffersAlike frames place turn plain y (Only (Exits n)) (Only (Exits n))
unfolding OffersAlike Alike
exits-alike frames place turn plain y n = refl

done-alike : (frames : ℕ) (place : ℕ → ℕ → ℕ) (turn : WorldTurn) (plain : Plain) (y : Process Flat) (v : Value) → OffersAlike frames place turn plain y (Only (Leaves v)) (Only (Leaves (shown (place turn.pid) v)))
unfolding OffersAlike Alike
done-alike frames place turn plain y v = refl

forks-alike : (frames : ℕ) (place : ℕ → ℕ → ℕ) (turn : WorldTurn) (plain : Plain) (y : Process Flat) → OffersAlike frames place turn plain y (forks Num turn) (forks (λ n. n) (plain_turn place turn plain y))
unfolding OffersAlike Alike
forks-alike frames place turn plain y = (λ hart. refl, record { put = tt; rd = refl; value = refl; pc = refl; reservation = refl })

spawns-alike : (frames : ℕ) (place : ℕ → ℕ → ℕ) (turn : WorldTurn) (plain : Plain) (y : Process Flat) (sp arg : Value) (n : ℕ)
    → OffersAlike frames place turn plain y (spawns Num turn n sp arg) (spawns (λ n. n) (plain_turn place turn plain y) n (shown (place turn.pid) sp) (shown (place turn.pid) arg))
unfolding OffersAlike Alike
spawns-alike frames place turn plain y sp arg n = ((λ hart. (refl, refl, refl, refl)), record { put = tt; rd = refl; value = refl; pc = refl; reservation = refl })

given-shares : (frames : ℕ) (place : ℕ → ℕ → ℕ) (turn : WorldTurn) (plain : Plain) (y : Process Flat) (n : ℕ) → Paired frames place turn plain y
    → OffersAlike frames place turn plain y (Grants (shares n) (answers turn (Num 0))) (Grants (plain_shares (plain_turn place turn plain y) n) (answers (plain_turn place turn plain y) 0))
unfolding OffersAlike
given-shares frames place turn plain y n pair = (shares-alike frames place turn plain y n pair, answers-alike frames place turn plain y (Num 0) 0 refl)

writes-alike : (frames : ℕ) (place : ℕ → ℕ → ℕ) (turn : WorldTurn) (plain : Plain) (y : Process Flat) (v asked : Value) → Paired frames place turn plain y
    → ResultsAlike frames place turn plain y (then_try (with_number asked (write_deed turn v)) only_deed)
    (Only (Writes (plain_row (plain_turn place turn plain y) (write_count plain (shown (place turn.pid) asked)) (shown (place turn.pid) v))))
unfolding ResultsAlike
writes-alike frames place turn plain y v (Num n) pair = write-alike frames place turn plain y v n pair
writes-alike frames place turn plain y v (Ptr o k) pair = tt

-- the call of a number, with its arguments in three registers
serves-alike : (frames : ℕ) (place : ℕ → ℕ → ℕ) (turn : WorldTurn) (plain : Plain) (y : Process Flat) (n r s t : ℕ) → Paired frames place turn plain y
    → ResultsAlike frames place turn plain y (serves turn (call_numbered n r s t))
    (plain_serves (plain_turn place turn plain y) (call_numbered n (shown (place turn.pid) (register_of turn r)) (shown (place turn.pid) (register_of turn s)) (shown (place turn.pid) (register_of turn t))))
unfolding serves plain_serves ResultsAlike
serves-alike frames place turn plain y n r s t pair = by (n == 1) (n == 2) (n == 3) (n == 4) (n == 5) (n == 6) (n == 7) (n == 8) (n == 9) (n == 10) (n == 11)
  where
    by : (a b c d e g h i j k l : Bool)
        → ResultsAlike frames place turn plain y
        (serves turn (cond a (Exit r) (cond b (Write r s) (cond c (Malloc r) (cond d (Free r) (cond e (Realloc r s) (cond g Fork (cond h (Spawn r s t) (cond i (Join r) (cond j (Done r) (cond k (Share r) (cond l (Wait r) (Unknown n)))))))))))))
        (plain_serves (plain_turn place turn plain y)
        (let u = shown (place turn.pid) (register_of turn r) in let v = shown (place turn.pid) (register_of turn s) in let w = shown (place turn.pid) (register_of turn t) in
        cond a (Exit u) (cond b (Write u v) (cond c (Malloc u) (cond d (Free u) (cond e (Realloc u v) (cond g Fork (cond h (Spawn u v w) (cond i (Join u) (cond j (Done u) (cond k (Share u) (cond l (Wait u) (Unknown n)))))))))))))
    by true b c d e g h i j k l = numbered frames place turn plain y (register_of turn r) (λ m. Only (Exits m)) (λ m. Only (Exits m)) (exits-alike frames place turn plain y)
    by false true c d e g h i j k l = writes-alike frames place turn plain y (register_of turn r) (register_of turn s) pair
    by false false true d e g h i j k l = malloc-alike frames place turn plain y (register_of turn r) pair
    by false false false true e g h i j k l = free-alike frames place turn plain y (register_of turn r) pair
    by false false false false true g h i j k l = realloc-alike frames place turn plain y (register_of turn r) (register_of turn s) pair
    by false false false false false true h i j k l = forks-alike frames place turn plain y
    by false false false false false false true i j k l =
        numbered frames place turn plain y (register_of turn r) (λ m. spawns Num turn m (register_of turn s) (register_of turn t))
        (λ m. spawns (λ z. z) (plain_turn place turn plain y) m (shown (place turn.pid) (register_of turn s)) (shown (place turn.pid) (register_of turn t)))
        (spawns-alike frames place turn plain y (register_of turn s) (register_of turn t))
    by false false false false false false false true j k l =
        numbered frames place turn plain y (register_of turn r) (joins Num turn) (joins (λ z. z) (plain_turn place turn plain y)) (λ m. joins-alike frames place turn plain y m pair)
    by false false false false false false false false true k l = done-alike frames place turn plain y (register_of turn r)
    by false false false false false false false false false true l =
        numbered frames place turn plain y (register_of turn r) (λ m. Grants (shares m) (answers turn (Num 0))) (λ m. Grants (plain_shares (plain_turn place turn plain y) m) (answers (plain_turn place turn plain y) 0))
        (λ m. given-shares frames place turn plain y m pair)
    by false false false false false false false false false false true =
        numbered frames place turn plain y (register_of turn r) (waits Num turn) (waits (λ z. z) (plain_turn place turn plain y)) (λ m. waits-alike frames place turn plain y m pair)
    by false false false false false false false false false false false = tt

pub calls-alike : (frames : ℕ) (place : ℕ → ℕ → ℕ) (turn : WorldTurn) (plain : Plain) (y : Process Flat) → Paired frames place turn plain y
    → ResultsAlike frames place turn plain y (calls turn) (plain_serves (plain_turn place turn plain y) (call_of (map (shown (place turn.pid)) turn.hart.regs)))
unfolding ResultsAlike call_of
calls-alike frames place turn plain y pair =
    rw (register-shown (place turn.pid) turn.hart.regs 17, register-shown (place turn.pid) turn.hart.regs 10, register-shown (place turn.pid) turn.hart.regs 11, register-shown (place turn.pid) turn.hart.regs 12)
    (by (register_of turn 17))
  where
    by : (v : Value) → ResultsAlike frames place turn plain y (then_try (with_number v (λ number. call_numbered number 10 11 12)) (serves turn))
        (plain_serves (plain_turn place turn plain y) (call_numbered (shown (place turn.pid) v) (shown (place turn.pid) (register_of turn 10)) (shown (place turn.pid) (register_of turn 11)) (shown (place turn.pid) (register_of turn 12))))
    by (Num n) = serves-alike frames place turn plain y n 10 11 12 pair
    by (Ptr o k) = tt
