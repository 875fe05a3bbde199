-- A journal without its refused entries tells the same, but for the places of its calls.
use Rattle.std.proofs.Common.{ℕ, zero, suc, ◌≡◌, ◌+◌, ◌-◌, ◌==◌, nat_le, not, Bool, true, false, cond, if◌then◌else◌, Option, Some, None, List, [], ◌∷◌, ◌++◌, length, map, filter, take, count_by, option_map, slice_set, arith, refl, sym, ap, ◌∙◌}
use Rattle.std.specs.List.{cons_option}
use Rattle.std.proofs.lemmas.List.{map-append}
use Rattle.std.proofs.lemmas.List.Sums.{sum_by-cons}
use Rattle.osc_word.specs.declared.settings.Config.{Config}
use Rattle.osc_word.specs.declared.calls.Call.{Call}
use Rattle.osc_word.specs.declared.calls.Call.TheVariants.{Exit, Malloc, Free, Realloc, Fork, Spawn, Done, Share, End}
use Rattle.osc_word.specs.declared.calls.Answer.{Answer}
use Rattle.osc_word.specs.declared.calls.Answer.TheVariants.{Number, Given, Placed, Freed, Moved, Nothing, Ended}
use Rattle.osc_word.specs.declared.calls.Entry.{Entry}
use Rattle.osc_word.specs.AddressMap.{first_shadow_page}
use Rattle.osc_word.specs.WaitingList.{with_waiting}
use Rattle.osc_class.specs.Rooms.{room_of}
use Rattle.osc_slot.specs.declared.Block.{Block}
use Rattle.osc_slot.specs.Slots.{is_room}
use Rattle.osc_space.specs.declared.ObjectFact.{ObjectFact}
use Rattle.osc_space.specs.Objects.{mark, next_page, granted_at, grant, fact, facts, killed, kill}
use Rattle.osc_space.specs.Header.{block_of}
use Rattle.osc_machine.specs.Replay.{Region, Ledger, first_ledger, fresh_block, holds, drops, has_object, gains, loses, lets_go, lets_wait, replaces, places, unplaces, ends, told_by, child_of, ledger_at, noted, noted_from}
use Rattle.osc_machine.specs.Agreements.{tells_nothing, tells, new_place, state_renumbered, renumbered, RefusedEntriesLeftOut}
use Rattle.osc_machine.proofs.JournalLaws.{noted_keeps}

-- ---- objects
abbrev rename : (ℕ → ℕ) → ObjectFact → ObjectFact
rename p o = record o { state = state_renumbered p o.state }

same_mark : (p : ℕ → ℕ) (xs : List ObjectFact) → mark (map (rename p) xs) ≡ mark xs
same_mark p [] = refl
same_mark p (x ∷ xs) =
    sum_by-cons (λ (o : ObjectFact). o.pages) (rename p x) (map (rename p) xs) ∙ ap (λ n. x.pages + n) (same_mark p xs)
    ∙ sym (sum_by-cons (λ (o : ObjectFact). o.pages) x xs)

grants_too : (p : ℕ → ℕ) (pages size canon : ℕ) (xs : List ObjectFact) → grant pages size canon (map (rename p) xs) ≡ map (rename p) (grant pages size canon xs)
grants_too p pages size canon xs =
    ap (λ m. map (rename p) xs ++ granted_at (first_shadow_page + m) pages size canon ∷ []) (same_mark p xs)
    ∙ sym (map-append (rename p) xs (granted_at (next_page xs) pages size canon ∷ []))

kills_too : (p : ℕ → ℕ) (object c d : ℕ) (xs : List ObjectFact) → p c ≡ d → kill object d (map (rename p) xs) ≡ map (rename p) (kill object c xs)
kills_too p object c d [] e = refl
kills_too p zero c d (x ∷ xs) e = ap (λ n. killed n x ∷ map (rename p) xs) (sym e)
kills_too p (suc object) c d (x ∷ xs) e = ap (λ zs. rename p x ∷ zs) (kills_too p object c d xs e)

fact_too : (p : ℕ → ℕ) (xs : List ObjectFact) (i : ℕ) → fact (map (rename p) xs) i ≡ option_map (rename p) (fact xs i)
fact_too p [] i = refl
fact_too p (x ∷ xs) zero = refl
fact_too p (x ∷ xs) (suc i) = fact_too p xs i

block_too : (p : ℕ → ℕ) (o : Option ObjectFact) (xs ys : List ObjectFact) → map block_of xs ≡ map block_of ys → map block_of (cons_option (option_map (rename p) o) xs) ≡ map block_of (cons_option o ys)
block_too p None xs ys e = e
block_too p (Some o) xs ys e = ap (λ bs. block_of o ∷ bs) e

same_blocks : (p : ℕ → ℕ) (xs : List ObjectFact) (ws : List ℕ) → map block_of (facts (map (rename p) xs) ws) ≡ map block_of (facts xs ws)
same_blocks p xs [] = refl
same_blocks p xs (w ∷ ws) =
    ap (λ o. map block_of (cons_option o (facts (map (rename p) xs) ws))) (fact_too p xs w)
    ∙ block_too p (fact xs w) (facts (map (rename p) xs) ws) (facts xs ws) (same_blocks p xs ws)

-- ---- ledgers
has_too : (p : ℕ → ℕ) (size : ℕ) (block : Block) (l : Ledger) → has_object size block (renumbered p l) ≡ renumbered p (has_object size block l)
has_too p size block l = ap (λ os. record (renumbered p l) { objects = os }) (grants_too p _ size _ l.objects)

loses_too : (p : ℕ → ℕ) (object c d : ℕ) (l : Ledger) → p c ≡ d → loses object d (renumbered p l) ≡ renumbered p (loses object c l)
loses_too p object c d l e = ap (λ os. record (renumbered p l) { objects = os }) (kills_too p object c d l.objects e)

lets_go_too : (p : ℕ → ℕ) (l : Ledger) → lets_go (renumbered p l) ≡ renumbered p (lets_go l)
lets_go_too p l = ap (λ bs. record (drops bs (renumbered p l)) { waiting = [] }) (same_blocks p l.objects l.waiting)

if_too : (p : ℕ → ℕ) (b : Bool) (x y : Ledger) → (if b then renumbered p x else renumbered p y) ≡ renumbered p (if b then x else y)
if_too p true x y = refl
if_too p false x y = refl

if_goes : (p : ℕ → ℕ) (b : Bool) (l : Ledger) → (if b then lets_go (renumbered p l) else renumbered p l) ≡ renumbered p (if b then lets_go l else l)
if_goes p true l = lets_go_too p l
if_goes p false l = refl

waits_too : (p : ℕ → ℕ) (config : Config) (object c d : ℕ) (l : Ledger) → p c ≡ d → lets_wait config object d (renumbered p l) ≡ renumbered p (lets_wait config object c l)
waits_too p config object c d l e =
    let waiting = with_waiting l.waiting object in
    ap (λ (m : Ledger). if length waiting == config.batch then lets_go (record m { waiting = waiting }) else record m { waiting = waiting }) (loses_too p object c d l e)
    ∙ if_goes p (length waiting == config.batch) (record (loses object c l) { waiting = waiting })

room_replaces : (p : ℕ → ℕ) (config : Config) (old c d : ℕ) (o : ObjectFact) (size : ℕ) (l : Ledger) (b : Bool) → p c ≡ d
    → (if b then has_object size (block_of o) (lets_go (loses old d (renumbered p l)))
    else drops (block_of o ∷ []) (lets_go (gains size (fresh_block config (room_of size) l) (loses old d (renumbered p l)))))
    ≡ renumbered p (if b then has_object size (block_of o) (lets_go (loses old c l))
    else drops (block_of o ∷ []) (lets_go (gains size (fresh_block config (room_of size) l) (loses old c l))))
room_replaces p config old c d o size l true e =
    ap (λ m. has_object size (block_of o) (lets_go m)) (loses_too p old c d l e)
    ∙ ap (has_object size (block_of o)) (lets_go_too p (loses old c l))
    ∙ has_too p size (block_of o) (lets_go (loses old c l))
room_replaces p config old c d o size l false e =
    let block = fresh_block config (room_of size) l in
    ap (λ m. drops (block_of o ∷ []) (lets_go (gains size block m))) (loses_too p old c d l e)
    ∙ ap (λ m. drops (block_of o ∷ []) (lets_go m)) (has_too p size block (holds block (loses old c l)))
    ∙ ap (drops (block_of o ∷ [])) (lets_go_too p (gains size block (loses old c l)))

replaces_too : (p : ℕ → ℕ) (config : Config) (old c d : ℕ) (o : Option ObjectFact) (size : ℕ) (l : Ledger) → p c ≡ d
    → replaces config old d (option_map (rename p) o) size (renumbered p l) ≡ renumbered p (replaces config old c o size l)
replaces_too p config old c d None size l e = refl
replaces_too p config old c d (Some o) size l e = room_replaces p config old c d o size l (is_room (room_of size) (room_of o.size)) e

told_too : (p : ℕ → ℕ) (config : Config) (c d : ℕ) (x : Call) (a : Answer) (l : Ledger) → p c ≡ d → told_by config d x a (renumbered p l) ≡ renumbered p (told_by config c x a l)
told_too p config c d (Malloc size) (Given object pointer) l e = has_too p size (fresh_block config (room_of size) l) (holds (fresh_block config (room_of size) l) l)
told_too p config c d (Malloc size) (Placed pointer) l e = refl
told_too p config c d (Free pointer) (Freed object) l e = waits_too p config object c d l e
told_too p config c d (Free pointer) Nothing l e = refl
told_too p config c d (Realloc pointer size) (Given object new) l e = has_too p size (fresh_block config (room_of size) l) (holds (fresh_block config (room_of size) l) l)
told_too p config c d (Realloc pointer size) (Moved old object new) l e =
    ap (λ o. replaces config old d o size (renumbered p l)) (fact_too p l.objects old)
    ∙ replaces_too p config old c d (fact l.objects old) size l e
told_too p config c d (Realloc pointer size) (Placed new) l e = if_too p (pointer == new) l (unplaces pointer (places (fresh_block config (room_of size) l) l))
told_too p config c d (Share pages) (Number address) l e =
    ap (λ n. record (renumbered p l) { regions = (record { call = n; pages = pages }) ∷ map (λ (r : Region). record r { call = p r.call }) l.regions }) (sym e)
told_too p config c d (Spawn pc sp arg) (Number thread) l e = refl
told_too p config c d (Done value) Ended l e = if_too p (nat_le l.threads 1) (ends l) (record l { threads = l.threads - 1 })
told_too p config c d (Exit status) Ended l e = refl
told_too p config c d (End fault) Ended l e = refl
told_too p config c d _ _ l e = refl

child_too : (p : ℕ → ℕ) (x : Call) (a : Answer) (l : Ledger) → child_of x a (renumbered p l) ≡ map (renumbered p) (child_of x a l)
child_too p Fork (Number child) l = refl
child_too p _ _ l = refl

ledger_too : (p : ℕ → ℕ) (ls : List Ledger) (i : ℕ) → ledger_at (map (renumbered p) ls) i ≡ renumbered p (ledger_at ls i)
ledger_too p [] i = refl
ledger_too p (l ∷ ls) zero = refl
ledger_too p (l ∷ ls) (suc i) = ledger_too p ls i

set_too : (p : ℕ → ℕ) (ls : List Ledger) (i : ℕ) (l : Ledger) → slice_set (map (renumbered p) ls) i (renumbered p l) ≡ map (renumbered p) (slice_set ls i l)
set_too p [] i l = refl
set_too p (x ∷ ls) zero l = refl
set_too p (x ∷ ls) (suc i) l = ap (λ zs. renumbered p x ∷ zs) (set_too p ls i l)

noted_too : (p : ℕ → ℕ) (config : Config) (c d : ℕ) (entry : Entry) (ls : List Ledger) → p c ≡ d
    → noted config d entry (map (renumbered p) ls) ≡ map (renumbered p) (noted config c entry ls)
noted_too p config c d entry ls e =
    let l = ledger_at ls entry.pid in
    ap (λ m. slice_set (map (renumbered p) ls) entry.pid (told_by config d entry.call entry.answer m) ++ child_of entry.call entry.answer m) (ledger_too p ls entry.pid)
    ∙ ap (λ m. slice_set (map (renumbered p) ls) entry.pid m ++ child_of entry.call entry.answer (renumbered p l)) (told_too p config c d entry.call entry.answer l e)
    ∙ ap (λ ms. ms ++ child_of entry.call entry.answer (renumbered p l)) (set_too p ls entry.pid (told_by config c entry.call entry.answer l))
    ∙ ap (λ ms. map (renumbered p) (slice_set ls entry.pid (told_by config c entry.call entry.answer l)) ++ ms) (child_too p entry.call entry.answer l)
    ∙ sym (map-append (renumbered p) (slice_set ls entry.pid (told_by config c entry.call entry.answer l)) (child_of entry.call entry.answer l))

-- ---- journals
-- from one place on the calls' new places are those of the entries that are kept
abbrev Counts : (ℕ → ℕ) → ℕ → ℕ → List Entry → Type 0
Counts p c d entries = (i : ℕ) → p (c + i) ≡ d + count_by tells (take i entries)

first_place : (p : ℕ → ℕ) (c d : ℕ) (entries : List Entry) → Counts p c d entries → p c ≡ d
first_place p c d entries f =
    let here : c + 0 ≡ c = omega arith in
    let none : d + 0 ≡ d = omega arith in
    ap p (sym here) ∙ f 0 ∙ none

counts_next : (entry : Entry) (entries : List Entry) (i : ℕ) → count_by tells (take (suc i) (entry ∷ entries)) ≡ cond (tells entry) 1 0 + count_by tells (take i entries)
counts_next entry entries i = sum_by-cons (λ (x : Entry). cond (tells x) 1 0) entry (take i entries)

next_kept : (p : ℕ → ℕ) (c d : ℕ) (entry : Entry) (entries : List Entry) → tells entry ≡ true → Counts p c d (entry ∷ entries) → Counts p (c + 1) (d + 1) entries
next_kept p c d entry entries e f i =
    let there : c + 1 + i ≡ c + suc i = omega arith in
    let more : d + (1 + count_by tells (take i entries)) ≡ d + 1 + count_by tells (take i entries) = omega arith in
    ap p there ∙ f (suc i) ∙ ap (λ n. d + n) (counts_next entry entries i) ∙ ap (λ b. d + (cond b 1 0 + count_by tells (take i entries))) e ∙ more

next_left : (p : ℕ → ℕ) (c d : ℕ) (entry : Entry) (entries : List Entry) → tells entry ≡ false → Counts p c d (entry ∷ entries) → Counts p (c + 1) d entries
next_left p c d entry entries e f i =
    let there : c + 1 + i ≡ c + suc i = omega arith in
    let same : d + (0 + count_by tells (take i entries)) ≡ d + count_by tells (take i entries) = omega arith in
    ap p there ∙ f (suc i) ∙ ap (λ n. d + n) (counts_next entry entries i) ∙ ap (λ b. d + (cond b 1 0 + count_by tells (take i entries))) e ∙ same

is_nothing : (entry : Entry) → tells entry ≡ false → tells_nothing entry.answer ≡ true
is_nothing entry e = nothing_by (tells_nothing entry.answer) e
  where
    nothing_by : (b : Bool) → not b ≡ false → b ≡ true
    nothing_by true e = refl
    nothing_by false e = absurd (let x : ⊥ = grind (arith, e) in x)

abbrev LeavesOut : (ℕ → ℕ) → Config → List Entry → Type 0
LeavesOut p config entries =
    (c d : ℕ) (ls : List Ledger) → Counts p c d entries
    → noted_from config d (filter tells entries) (map (renumbered p) ls) ≡ map (renumbered p) (noted_from config c entries ls)

entry_out : (p : ℕ → ℕ) (config : Config) (entry : Entry) (entries : List Entry) (c d : ℕ) (ls : List Ledger) (b : Bool) → tells entry ≡ b → Counts p c d (entry ∷ entries) → LeavesOut p config entries
    → noted_from config d (if b then entry ∷ filter tells entries else filter tells entries) (map (renumbered p) ls) ≡ map (renumbered p) (noted_from config (c + 1) entries (noted config c entry ls))
unfolding noted_from
entry_out p config entry entries c d ls true e f rest =
    ap (noted_from config (d + 1) (filter tells entries)) (noted_too p config c d entry ls (first_place p c d (entry ∷ entries) f))
    ∙ rest (c + 1) (d + 1) (noted config c entry ls) (next_kept p c d entry entries e f)
entry_out p config entry entries c d ls false e f rest =
    rest (c + 1) d ls (next_left p c d entry entries e f)
    ∙ ap (λ ms. map (renumbered p) (noted_from config (c + 1) entries ms)) (sym (noted_keeps config c entry ls (is_nothing entry e)))

leaves_out : (p : ℕ → ℕ) (config : Config) (entries : List Entry) → LeavesOut p config entries
unfolding noted_from
leaves_out p config [] c d ls f = refl
leaves_out p config (entry ∷ entries) c d ls f = entry_out p config entry entries c d ls (tells entry) refl f (leaves_out p config entries)

pub refused_entries_left_out : RefusedEntriesLeftOut
refused_entries_left_out config journal =
    leaves_out (new_place journal) config journal 0 0 (first_ledger ∷ [])
    (λ i. let there : 0 + i ≡ i = omega arith in let none : count_by tells (take i journal) ≡ 0 + count_by tells (take i journal) = omega arith in ap (new_place journal) there ∙ none)
