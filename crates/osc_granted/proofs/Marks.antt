-- By how much an entry raises the mark of its process's ledger.
use Rattle.std.proofs.Common.{ℕ, ◌+◌, ◌-◌, ◌≡◌, ◌==◌, nat_le, Bool, true, false, cond, Some, [], ◌∷◌, length, arith, refl, ap, ◌∙◌}
use Rattle.osc_word.specs.declared.settings.Config.{Config}
use Rattle.osc_word.specs.declared.calls.Call.TheVariants as calls
use Rattle.osc_word.specs.declared.calls.Answer.TheVariants as answers
use Rattle.osc_word.specs.WaitingList.{with_waiting}
use Rattle.osc_class.specs.Rooms.{room_of, shadow_pages}
use Rattle.osc_slot.specs.Slots.{is_room}
use Rattle.osc_space.specs.declared.ObjectFact.{ObjectFact}
use Rattle.osc_space.specs.Objects.{mark, kill}
use Rattle.osc_space.proofs.ObjectLawProofs.{mark-kill, mark-grant}
use Rattle.osc_space.specs.Header.{block_of}
use Rattle.osc_machine.specs.Replay.{Ledger, fresh_block, drops, has_object, gains, loses, lets_go, lets_wait, replaces, places, unplaces, ends}
use Rattle.osc_granted.specs.Granted.{EntriesRaiseMarks}
use Rattle.osc_granted.proofs.Grants.{room-pages}

abbrev Raised : Ledger → Ledger → ℕ → Type 0
Raised l m pages = mark m.objects ≡ mark l.objects + pages

stays-so : (l m : Ledger) → mark m.objects ≡ mark l.objects → Raised l m 0
stays-so l m e = omega (arith, e)

-- of two ledgers, one of which is taken
raised-if : (b : Bool) (l m n : Ledger) (pages : ℕ) → Raised l m pages → Raised l n pages → Raised l (cond b m n) pages
raised-if true l m n pages x y = x
raised-if false l m n pages x y = y

waits-raised : (config : Config) (object call : ℕ) (l : Ledger) → Raised l (lets_wait config object call l) 0
waits-raised config object call l =
    let freed : Ledger = record (loses object call l) { waiting = with_waiting l.waiting object } in
    let same = mark-kill object call l.objects in
    raised-if (length freed.waiting == config.batch) l (lets_go freed) freed 0 (stays-so l (lets_go freed) same) (stays-so l freed same)

replaced-raised : (config : Config) (old call size : ℕ) (o : ObjectFact) (l : Ledger) → Raised l (replaces config old call (Some o) size l) (shadow_pages (room_of size))
replaced-raised config old call size o l = go (is_room (room_of size) (room_of o.size)) refl
  where
    killed : mark (kill old call l.objects) ≡ mark l.objects
    killed = mark-kill old call l.objects

    go : (b : Bool) → is_room (room_of size) (room_of o.size) ≡ b
        → Raised l (cond b (has_object size (block_of o) (lets_go (loses old call l))) (drops (block_of o ∷ []) (lets_go (gains size (fresh_block config (room_of size) l) (loses old call l))))) (shadow_pages (room_of size))
    go true e =
        let grant = mark-grant (shadow_pages (room_of o.size)) size (o.canon - 16 + 16) (kill old call l.objects) in
        let same = room-pages (room_of size) (room_of o.size) e in
        let was = killed in omega (arith, grant, same, was)
    go false e =
        let grant = mark-grant (shadow_pages (room_of size)) size ((fresh_block config (room_of size) l).start + 16) (kill old call l.objects) in
        let was = killed in omega (arith, grant, was)

pub entries_raise_marks : EntriesRaiseMarks
entries_raise_marks config n (calls.Malloc size) (answers.Given object pointer) l w = mark-grant (shadow_pages (room_of size)) size ((fresh_block config (room_of size) l).start + 16) l.objects
entries_raise_marks config n (calls.Malloc size) (answers.Placed pointer) l w = stays-so l (places (fresh_block config (room_of size) l) l) refl
entries_raise_marks config n (calls.Free pointer) (answers.Freed object) l w = waits-raised config object n l
entries_raise_marks config n (calls.Free pointer) answers.Nothing l w = stays-so l (unplaces pointer l) refl
entries_raise_marks config n (calls.Realloc pointer size) (answers.Given object new) l w = mark-grant (shadow_pages (room_of size)) size ((fresh_block config (room_of size) l).start + 16) l.objects
entries_raise_marks config n (calls.Realloc pointer size) (answers.Moved old object new) l w =
    ap (λ o. mark (replaces config old n o size l).objects) w.1 ∙ replaced-raised config old n size w.0 l
entries_raise_marks config n (calls.Realloc pointer size) (answers.Placed new) l w =
    raised-if (pointer == new) l l (unplaces pointer (places (fresh_block config (room_of size) l) l)) 0 (omega arith) (omega arith)
entries_raise_marks config n (calls.Share pages) (answers.Number address) l w = omega arith
entries_raise_marks config n (calls.Spawn pc sp arg) (answers.Number thread) l w = omega arith
entries_raise_marks config n (calls.Done value) answers.Ended l w =
    raised-if (nat_le l.threads 1) l (ends l) (record l { threads = l.threads - 1 }) 0 (omega arith) (omega arith)
entries_raise_marks config n (calls.Exit status) answers.Ended l w = omega arith
entries_raise_marks config n (calls.End fault) answers.Ended l w = omega arith
entries_raise_marks config n _ _ l w = omega arith
