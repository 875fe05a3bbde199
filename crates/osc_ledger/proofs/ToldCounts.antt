-- Which entries tell of threads: a spawn and a thread's end alone, and a fork of the child's.
use Rattle.std.proofs.Common.{ℕ, ◌≡◌, Bool, true, false, cond, Option, Some, None, [], ◌∷◌, refl, arith}
use Rattle.osc_word.specs.declared.settings.Config.{Config}
use Rattle.osc_word.specs.declared.calls.Call.{Call}
use Rattle.osc_word.specs.declared.calls.Call.TheVariants.{Exit, Malloc, Free, Realloc, Spawn, Done, Share, End}
use Rattle.osc_word.specs.declared.calls.Answer.{Answer}
use Rattle.osc_word.specs.declared.calls.Answer.TheVariants as answers
use Rattle.osc_word.specs.WaitingList.{with_waiting}
use Rattle.osc_class.specs.Rooms.{room_of}
use Rattle.osc_slot.specs.Slots.{is_room}
use Rattle.osc_space.specs.declared.ObjectFact.{ObjectFact}
use Rattle.osc_space.specs.Objects.{fact}
use Rattle.osc_space.specs.Header.{block_of}
use Rattle.osc_machine.specs.Replay.{Ledger, fresh_block, drops, has_object, gains, loses, lets_go, replaces, places, unplaces, told_by}

-- the threads and the spawned ones stay
pub record SameThreads (l m : Ledger) : Type 0 where
  pub threads : m.threads ≡ l.threads
  pub spawned : m.spawned ≡ l.spawned

same : (l : Ledger) → SameThreads l l
same l = record { threads = refl; spawned = refl }

same-if : (b : Bool) (l m n : Ledger) → SameThreads l m → SameThreads l n → SameThreads l (cond b m n)
same-if true l m n x y = x
same-if false l m n x y = y

same-replaces : (config : Config) (old call : ℕ) (o : Option ObjectFact) (size : ℕ) (l : Ledger) → SameThreads l (replaces config old call o size l)
same-replaces config old call None size l = same l
same-replaces config old call (Some o) size l =
    same-if (is_room (room_of size) (room_of o.size)) l (has_object size (block_of o) (lets_go (loses old call l)))
    (drops (block_of o ∷ []) (lets_go (gains size (fresh_block config (room_of size) l) (loses old call l)))) (record { threads = refl; spawned = refl }) (record { threads = refl; spawned = refl })

-- neither a spawn nor a thread's end
abbrev pub tells_threads : Call → Bool
tells_threads (Spawn pc sp arg) = true
tells_threads (Done value) = true
tells_threads _ = false

pub threads_stay : (config : Config) (n : ℕ) (call : Call) (a : Answer) (l : Ledger) → tells_threads call ≡ false → SameThreads l (told_by config n call a l)
threads_stay config n (Malloc size) (answers.Given object pointer) l e = record { threads = refl; spawned = refl }
threads_stay config n (Malloc size) (answers.Placed pointer) l e = record { threads = refl; spawned = refl }
threads_stay config n (Free pointer) (answers.Freed object) l e =
    let freed : Ledger = record (loses object n l) { waiting = with_waiting l.waiting object } in
    same-if _ l (lets_go freed) freed (record { threads = refl; spawned = refl }) (record { threads = refl; spawned = refl })
threads_stay config n (Free pointer) answers.Nothing l e = record { threads = refl; spawned = refl }
threads_stay config n (Realloc pointer size) (answers.Given object new) l e = record { threads = refl; spawned = refl }
threads_stay config n (Realloc pointer size) (answers.Moved old object new) l e = same-replaces config old n (fact l.objects old) size l
threads_stay config n (Realloc pointer size) (answers.Placed new) l e =
    same-if _ l l (unplaces pointer (places (fresh_block config (room_of size) l) l)) (same l) (record { threads = refl; spawned = refl })
threads_stay config n (Share pages) (answers.Number address) l e = record { threads = refl; spawned = refl }
threads_stay config n (Spawn pc sp arg) a l e = absurd (let z : ⊥ = grind (arith, e) in z)
threads_stay config n (Done value) a l e = absurd (let z : ⊥ = grind (arith, e) in z)
threads_stay config n (Exit status) answers.Ended l e = record { threads = refl; spawned = refl }
threads_stay config n (End fault) answers.Ended l e = record { threads = refl; spawned = refl }
threads_stay config n _ _ l e = same l
