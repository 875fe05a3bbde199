-- The accounts of all processes, once a call has returned, and after an entry of the journal.
use Rattle.std.proofs.Common.{ℕ, zero, suc, ◌+◌, ◌≡◌, ◌<◌, true, Some, List, [], ◌∷◌, ◌++◌, length, map, slice_get, slice_set, arith, refl, sym, ap, ◌∙◌}
use Rattle.std.proofs.lemmas.List.{map-append, map-set}
use Rattle.osc_word.specs.declared.settings.Config.{Config}
use Rattle.osc_word.specs.declared.calls.Call.{Call}
use Rattle.osc_word.specs.declared.calls.Entry.{Entry}
use Rattle.osc_space.specs.Space.{Closing, Keeps, GivesBack}
use Rattle.osc_space.specs.Finish.{finished, ended}
use Rattle.osc_calls.specs.Kernel.{KernelState, Process, Calling, Committed, Effect, Nothing, Clears, Starts, Ends, process_at}
use Rattle.osc_calls.specs.Refusals.{draft_of}
use Rattle.osc_calls.specs.Planned.{Planned, closing_effect}
use Rattle.osc_calls.specs.Plan.{journal_entry, committed}
use Rattle.osc_calls.specs.Finish.{settled, returned, finish}
use Rattle.osc_settled.proofs.Lists.{some_same}
use Rattle.osc_machine.specs.Replay.{Ledger, first_ledger, told_by, child_of, ledger_at, noted, noted_from, replay}
use Rattle.osc_machine.specs.Agreements.{Account, account_told, account_kept}
use Rattle.osc_ledger.specs.Replays.{AccountsFit}
use Rattle.osc_ledger.proofs.Accounts.{as_kept, given_back, finished-account}

-- ---- the return
-- what a process keeps once a call with this effect has returned
abbrev pub account_after : Effect → Closing → Process → Account
account_after (Ends status) closing q = record { objects = q.space.objects; waiting = []; held = []; over = true }
account_after _ closing q = given_back closing (account_kept q)

pub after-closing : (closing : Closing) (q : Process) → account_after (closing_effect closing) closing q ≡ given_back closing (account_kept q)
after-closing Keeps q = refl
after-closing (GivesBack blocks) q = refl

settled-accounts : (done : Committed) (q : Process) (effect : Effect) (k : KernelState)
    → map account_kept (settled done q effect k).processes ≡ slice_set (map account_kept k.processes) done.calling.pid (account_after effect done.closing q)
unfolding ended
settled-accounts done q (Ends status) k = map-set account_kept k.processes done.calling.pid (record q { space = (ended k.regions q.space k.free).space; status = Some status })
settled-accounts done q Nothing k =
    map-set account_kept k.processes done.calling.pid (record q { space = (finished done.closing (draft_of k q)).space })
    ∙ ap (slice_set (map account_kept k.processes) done.calling.pid) (finished-account done.closing (draft_of k q) q)
settled-accounts done q Clears k =
    map-set account_kept k.processes done.calling.pid (record q { space = (finished done.closing (draft_of k q)).space })
    ∙ ap (slice_set (map account_kept k.processes) done.calling.pid) (finished-account done.closing (draft_of k q) q)
settled-accounts done q (Starts hart start) k =
    map-set account_kept k.processes done.calling.pid (record q { space = (finished done.closing (draft_of k q)).space })
    ∙ ap (slice_set (map account_kept k.processes) done.calling.pid) (finished-account done.closing (draft_of k q) q)

pub returned-accounts : (done : Committed) (q : Process) (k : KernelState) → process_at k done.calling.pid ≡ Some q
    → map account_kept (returned done (process_at k done.calling.pid) k).kernel.processes ≡ slice_set (map account_kept k.processes) done.calling.pid (account_after done.effect done.closing q)
returned-accounts done q k here =
    ap (λ o. map account_kept (returned done o k).kernel.processes) here ∙ settled-accounts done q done.effect k

-- ---- the journal
noted-append : (config : Config) (xs : List Entry) (entry : Entry) (n : ℕ) (ls : List Ledger)
    → noted_from config n (xs ++ entry ∷ []) ls ≡ noted config (n + length xs) entry (noted_from config n xs ls)
unfolding noted_from
noted-append config [] entry n ls = let e : n ≡ n + 0 = omega arith in ap (λ m. noted config m entry ls) e
noted-append config (x ∷ xs) entry n ls =
    noted-append config xs entry (n + 1) (noted config n x ls)
    ∙ (let e : n + 1 + length xs ≡ n + suc (length xs) = omega arith in ap (λ m. noted config m entry (noted_from config (n + 1) xs (noted config n x ls))) e)

-- one entry more
pub replay-more : (config : Config) (journal : List Entry) (entry : Entry) → replay config (journal ++ entry ∷ []) ≡ noted config (length journal) entry (replay config journal)
replay-more config journal entry =
    noted-append config journal entry 0 (first_ledger ∷ []) ∙ (let e : 0 + length journal ≡ length journal = omega arith in ap (λ m. noted config m entry (replay config journal)) e)

pub account-at : (ls : List Ledger) (ps : List Process) (pid : ℕ) (p : Process) → map account_told ls ≡ map account_kept ps → slice_get ps pid ≡ Some p
    → account_told (ledger_at ls pid) ≡ account_kept p
account-at [] [] pid p e here = absurd (let z : ⊥ = grind (arith, here) in z)
account-at [] (q ∷ ps) pid p e here = absurd (let z : ⊥ = grind (arith, e) in z)
account-at (l ∷ ls) [] pid p e here = absurd (let z : ⊥ = grind (arith, e) in z)
account-at (l ∷ ls) (q ∷ ps) zero p e here = heads (account_told l) (account_kept q) (map account_told ls) (map account_kept ps) e ∙ ap account_kept (some_same q p here)
  where
    heads : (x y : Account) (xs ys : List Account) → x ∷ xs ≡ y ∷ ys → x ≡ y
    heads x y xs ys e = cc
account-at (l ∷ ls) (q ∷ ps) (suc pid) p e here = account-at ls ps pid p (tails (account_told l) (account_kept q) (map account_told ls) (map account_kept ps) e) here
  where
    tails : (x y : Account) (xs ys : List Account) → x ∷ xs ≡ y ∷ ys → xs ≡ ys
    tails x y xs ys e = cc

-- a ledger whose account is what the process keeps
pub kept-ledger : (l : Ledger) (p : Process) → account_told l ≡ account_kept p → l ≡ as_kept p l
kept-ledger l p e = ap (λ (a : Account). let m : Ledger = record l { objects = a.objects; waiting = a.waiting; held = a.held; over = a.over } in m) e

put-both : {X : Type 0} (xs more : List X) (i : ℕ) (x y : X) → i < length xs → slice_set (slice_set xs i x ++ more) i y ≡ slice_set xs i y ++ more
put-both [] more i x y l = absurd (let z : ⊥ = omega (arith, l) in z)
put-both (z ∷ xs) more zero x y l = refl
put-both (z ∷ xs) more (suc i) x y l = ap (λ zs. z ∷ zs) (put-both xs more i x y (omega (arith, l)))

pub put-same : {X Y : Type 0} (f : X → Y) (xs : List X) (i : ℕ) (x : X) → slice_get xs i ≡ Some x → slice_set (map f xs) i (f x) ≡ map f xs
put-same f [] i x e = refl
put-same f (y ∷ xs) zero x e = ap (λ z. f z ∷ map f xs) (sym (some_same y x e))
put-same f (y ∷ xs) (suc i) x e = ap (λ zs. f y ∷ zs) (put-same f xs i x e)

length-get : {X : Type 0} (xs : List X) (i : ℕ) (x : X) → slice_get xs i ≡ Some x → i < length xs
length-get [] i x e = absurd (let z : ⊥ = grind (arith, e) in z)
length-get (y ∷ xs) zero x e = omega arith
length-get (y ∷ xs) (suc i) x e = let l = length-get xs i x e in omega (arith, l)

-- ---- a call that commits
-- what its plan makes of the processes, and what its entry tells
pub record AccountRow (k : KernelState) (pid : ℕ) (call : Call) (l : Ledger) (made : Planned) : Type 0 where
  pub config : made.kernel.config ≡ k.config
  pub journal : made.kernel.journal ≡ k.journal
  pub process : Process
  pub here : process_at made.kernel pid ≡ Some process
  pub processes : map account_kept made.kernel.processes ≡ slice_set (map account_kept k.processes) pid (account_kept process) ++ map account_told (child_of call made.answer l)
  pub told : account_told (told_by k.config (length k.journal) call made.answer l) ≡ account_after made.effect made.closing process

pub commit-accounts : (k : KernelState) (c : Calling) (p : Process) (made : Planned) → process_at k c.pid ≡ Some p
    → map account_told (replay k.config k.journal) ≡ map account_kept k.processes
    → AccountRow k c.pid c.call (ledger_at (replay k.config k.journal) c.pid) made → AccountsFit (committed c made)
unfolding finish
commit-accounts k c p made here all row =
    let ls = replay k.config k.journal in
    let l = ledger_at ls c.pid in
    let t = told_by k.config (length k.journal) c.call made.answer l in
    let child = child_of c.call made.answer l in
    let done : Committed = record { calling = c; answer = made.answer; effect = made.effect; closing = made.closing } in
    let entry : Entry = journal_entry c made.answer in
    let after = account_after made.effect made.closing row.process in
    ap (λ config. map account_told (replay config (made.kernel.journal ++ entry ∷ []))) row.config
    ∙ ap (λ journal. map account_told (replay k.config (journal ++ entry ∷ []))) row.journal
    ∙ ap (map account_told) (replay-more k.config k.journal entry)
    ∙ map-append account_told (slice_set ls c.pid t) child
    ∙ ap (λ zs. zs ++ map account_told child) (map-set account_told ls c.pid t)
    ∙ ap (λ zs. slice_set zs c.pid (account_told t) ++ map account_told child) all
    ∙ ap (λ a. slice_set (map account_kept k.processes) c.pid a ++ map account_told child) row.told
    ∙ sym (put-both (map account_kept k.processes) (map account_told child) c.pid (account_kept row.process) after (length-get (map account_kept k.processes) c.pid (account_kept p) (get-map k.processes c.pid here)))
    ∙ ap (λ zs. slice_set zs c.pid after) (sym row.processes)
    ∙ sym (returned-accounts done row.process (committed c made) row.here)
  where
    get-map : (ps : List Process) (i : ℕ) → slice_get ps i ≡ Some p → slice_get (map account_kept ps) i ≡ Some (account_kept p)
    get-map [] i e = absurd (let z : ⊥ = grind (arith, e) in z)
    get-map (q ∷ ps) zero e = ap (λ z. Some (account_kept z)) (some_same q p e)
    get-map (q ∷ ps) (suc i) e = get-map ps i e
