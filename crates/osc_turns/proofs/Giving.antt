-- What a hart makes of the giving of the kernel.
use Rattle.std.proofs.Common.{ℕ, ◌≡◌, Bool, Option, Some, None, List, [], ◌∷◌, slice_get, arith, refl, sym, ◌∙◌, ap, subst}
use Rattle.osc_word.specs.declared.calls.Resume.{Resume}
use Rattle.osc_slot.specs.declared.Block.{Block}
use Rattle.osc_space.specs.Space.{Draft, Closing, Keeps, GivesBack}
use Rattle.osc_space.specs.Finish.{give_blocks, finished}
use Rattle.osc_guest.specs.User.{UserHart}
use Rattle.osc_guest.specs.declared.places.Ask.{Ask}
use Rattle.osc_guest.specs.declared.places.Ask.TheVariants as guest
use Rattle.osc_guest.specs.Asks.{ask}
use Rattle.osc_calls.specs.declared.HartRecord.{HartRecord}
use Rattle.osc_calls.specs.Kernel.{KernelState, Process, Committed, Effect, Nothing, Clears, Starts, Ends, UnderWay, Quiet, Retrying, Leaving, Waiting, Returning as Committing, process_at}
use Rattle.osc_calls.specs.Refusals.{draft_of}
use Rattle.osc_calls.specs.Moves.{Move}
use Rattle.osc_calls.specs.Moves as move
use Rattle.osc_calls.specs.Finish as CallsFinish
use Rattle.osc_calls.specs.Finish.{finish, finish_by, settled, quiet, hart_left}
use Rattle.osc_machine.specs.declared.HartAsk.TheVariants as does
use Rattle.osc_machine.specs.Parts.{Outside, Returning, HartState}
use Rattle.osc_machine.specs.Turns.{Done, guest_ask, move_ask, place_ask, hart_ask, hart_told, kernel_gone, return_of}
use Rattle.osc_machine.specs.Laws.{bared, bared_at}
use Rattle.osc_machine.specs.Views.{journal_full}
use Rattle.osc_turns.specs.Places.{PlaceFits, CallsIn, CountsIn, Calls, IsFree}
use Rattle.osc_turns.specs.declared.place.Place.{Place}
use Rattle.osc_turns.specs.declared.place.Place.TheVariants as at
use Rattle.osc_kernel.specs.Seen.{SeenKernel}
use Rattle.osc_turns.specs.Seen.{turned, returning, returning_from, kernel_in, place_seen}

pub returned : (h : HartState) (p : Place) (held : Option SeenKernel) (full : Bool) → p ≡ at.Returning full → h.place ≡ place_seen p held → h.kernel ≡ kernel_in held
    → turned (kernel_gone (returning_from full h.kernel) h) ≡ turned (hart_told h Done)
unfolding hart_told
returned h p None full is place kernel =
    let e : h.place ≡ returning full None = place ∙ ap (λ q. place_seen q None) is in
    rw (e, kernel) refl
returned h p (Some k) full is place kernel =
    let e : h.place ≡ returning full (Some k) = place ∙ ap (λ q. place_seen q (Some k)) is in
    rw (e, kernel) refl

pub given : (h : HartState) (resume : Resume) (k : KernelState) (full : Bool) → resume ≡ (finish k).resume → h.place ≡ Returning (return_of full k)
    → turned (kernel_gone (record { resume = resume; shows = (finish k).shows; full = full }) h) ≡ turned (hart_told h Done)
unfolding hart_told
given h resume k full same place = rw (place, same) refl

-- ---- who gives the kernel is in a call
no_giver : (number : ℕ) (a : Ask) → guest_ask number a ≡ does.GiveKernel → ⊥
no_giver number guest.TakeBox e = grind (arith, e)
no_giver number (guest.Load at) e = grind (arith, e)
no_giver number (guest.TakeGate frame only) e = grind (arith, e)
no_giver number (guest.Store at value) e = grind (arith, e)
no_giver number (guest.OpenGate frame version) e = grind (arith, e)
no_giver number guest.GiveBox e = grind (arith, e)
no_giver number (guest.Kernel asked) e = grind (arith, e)
no_giver number guest.Rest e = grind (arith, e)

outside_gives : (h : HartState) → hart_ask h ≡ does.GiveKernel → h.place ≡ Outside → ⊥
unfolding hart_ask
outside_gives h asks place = no_giver h.number (ask h.user) (rw place at asks)

pub calls_giving : (h : HartState) (p : Place) (held : Option SeenKernel) (user : UserHart) → hart_ask h ≡ does.GiveKernel → h.place ≡ place_seen p held → CallsIn p user → Calls user
calls_giving h at.Outside held user asks place calls = absurd (outside_gives h asks place)
calls_giving h (at.TakingBoxes next) held user asks place calls = calls
calls_giving h (at.FirstWord first second) held user asks place calls = calls
calls_giving h (at.SecondWord found second) held user asks place calls = calls
calls_giving h (at.Working p) held user asks place calls = calls
calls_giving h (at.GivingBoxes next) held user asks place calls = calls
calls_giving h (at.Returning full) held user asks place calls = calls
calls_giving h (at.Returned full resume label before) held user asks place calls = calls

-- ---- the kernel that is given is free to be taken
blocks_jobs : (blocks : List Block) (d : Draft) → (give_blocks blocks d).jobs ≡ d.jobs
blocks_jobs [] d = refl
blocks_jobs (block ∷ blocks) d = blocks_jobs blocks _

finished_jobs : (closing : Closing) (d : Draft) → (finished closing d).jobs ≡ d.jobs
unfolding finished
finished_jobs Keeps d = refl
finished_jobs (GivesBack blocks) d = blocks_jobs blocks d

settled_free : (harts : ℕ) (done : Committed) (p : Process) (effect : Effect) (k : KernelState) → k.jobs ≡ [] → k.config.harts ≡ harts → IsFree harts (quiet (settled done p effect k))
settled_free harts done p (Ends status) k jobs counted = record { quiet = refl; jobs = jobs; counted = counted }
settled_free harts done p Nothing k jobs counted = record { quiet = refl; jobs = finished_jobs done.closing (draft_of k p) ∙ jobs; counted = counted }
settled_free harts done p Clears k jobs counted = record { quiet = refl; jobs = finished_jobs done.closing (draft_of k p) ∙ jobs; counted = counted }
settled_free harts done p (Starts hart start) k jobs counted = record { quiet = refl; jobs = finished_jobs done.closing (draft_of k p) ∙ jobs; counted = counted }

returned_free : (harts : ℕ) (done : Committed) (p : Option Process) (k : KernelState) → k.jobs ≡ [] → k.config.harts ≡ harts → IsFree harts (CallsFinish.returned done p k).kernel
returned_free harts done None k jobs counted = record { quiet = refl; jobs = jobs; counted = counted }
returned_free harts done (Some p) k jobs counted = settled_free harts done p done.effect k jobs counted

left_free : (harts hart : ℕ) (kept : Option HartRecord) (k : KernelState) → k.jobs ≡ [] → k.config.harts ≡ harts → IsFree harts (quiet (hart_left hart kept k))
left_free harts hart None k jobs counted = record { quiet = refl; jobs = jobs; counted = counted }
left_free harts hart (Some kept) k jobs counted = record { quiet = refl; jobs = jobs; counted = counted }

finish_free_by : (harts : ℕ) (u : UnderWay) (k : KernelState) → k.jobs ≡ [] → k.config.harts ≡ harts → IsFree harts (finish_by u k).kernel
finish_free_by harts (Committing done) k jobs counted = returned_free harts done (process_at k done.calling.pid) k jobs counted
finish_free_by harts (Leaving hart) k jobs counted = left_free harts hart (slice_get k.records hart) k jobs counted
finish_free_by harts Quiet k jobs counted = record { quiet = refl; jobs = jobs; counted = counted }
finish_free_by harts Retrying k jobs counted = record { quiet = refl; jobs = jobs; counted = counted }
finish_free_by harts (Waiting c) k jobs counted = record { quiet = refl; jobs = jobs; counted = counted }

pub finish_free : (harts : ℕ) (k : KernelState) → k.jobs ≡ [] → k.config.harts ≡ harts → IsFree harts (finish k).kernel
unfolding finish
finish_free harts k jobs counted = finish_free_by harts k.under_way k jobs counted

no_move_gives : (moves : List Move) (read : Option ℕ) → move_ask moves read ≡ does.GiveKernel → ⊥
no_move_gives [] read e = grind (arith, e)
no_move_gives (move.Put at value ∷ moves) read e = grind (arith, e)
no_move_gives (move.Copy from to ∷ moves) None e = grind (arith, e)
no_move_gives (move.Copy from to ∷ moves) (Some word) e = grind (arith, e)
no_move_gives (move.CopyLow from to bytes ∷ moves) None e = grind (arith, e)
no_move_gives (move.CopyLow from to bytes ∷ moves) (Some word) e = grind (arith, e)
no_move_gives (move.ChangeBox box ∷ moves) read e = grind (arith, e)
no_move_gives (move.Out at ∷ moves) read e = grind (arith, e)

-- a hart that gives the kernel, and still holds it, has no job left
jobs_at : (harts : ℕ) (h : HartState) (p : Place) (k : SeenKernel) → place_ask (place_seen p (Some k)) h ≡ does.GiveKernel → PlaceFits harts p (Some k) → k.kernel.jobs ≡ []
jobs_at harts h at.Outside k asks fits = absurd (no_giver h.number (ask h.user) asks)
jobs_at harts h (at.TakingBoxes next) k asks fits = absurd (let z : ⊥ = grind (arith, asks) in z)
jobs_at harts h (at.FirstWord first second) k asks fits = absurd (let z : ⊥ = grind (arith, asks) in z)
jobs_at harts h (at.SecondWord found second) k asks fits = absurd (let z : ⊥ = grind (arith, asks) in z)
jobs_at harts h (at.Working p) k asks fits = absurd (no_move_gives _ p.read asks)
jobs_at harts h (at.GivingBoxes next) k asks fits = fits.1.0
jobs_at harts h (at.Returning full) k asks fits = fits.0
jobs_at harts h (at.Returned full resume label before) k asks fits = let none = fits.0 in absurd (let z : ⊥ = grind (arith, none) in z)

pub gives_free : (harts : ℕ) (h : HartState) (p : Place) (held : Option SeenKernel) (k : SeenKernel) → held ≡ Some k → hart_ask h ≡ does.GiveKernel → h.place ≡ place_seen p held
    → PlaceFits harts p held → CountsIn harts held → IsFree harts (finish k.kernel).kernel
unfolding hart_ask
gives_free harts h p held k is asks place fits counts =
    let at_place : h.place ≡ place_seen p (Some k) = place ∙ ap (place_seen p) is in
    finish_free harts k.kernel (jobs_at harts h p k (subst (λ q. place_ask q h ≡ does.GiveKernel) at_place asks) (subst (PlaceFits harts p) is fits)) (subst (CountsIn harts) is counts)

-- ---- the hart once the kernel is out of its hand
returns_at : (harts : ℕ) (h : HartState) (p : Place) (k : SeenKernel) → place_ask (place_seen p (Some k)) h ≡ does.GiveKernel → PlaceFits harts p (Some k) → h.place ≡ place_seen p (Some k)
    → h.place ≡ Returning (return_of (journal_full h) k.kernel)
returns_at harts h at.Outside k asks fits place = absurd (no_giver h.number (ask h.user) asks)
returns_at harts h (at.TakingBoxes next) k asks fits place = absurd (let z : ⊥ = grind (arith, asks) in z)
returns_at harts h (at.FirstWord first second) k asks fits place = absurd (let z : ⊥ = grind (arith, asks) in z)
returns_at harts h (at.SecondWord found second) k asks fits place = absurd (let z : ⊥ = grind (arith, asks) in z)
returns_at harts h (at.Working p) k asks fits place = absurd (no_move_gives _ p.read asks)
returns_at harts h (at.GivingBoxes next) k asks fits place = absurd (let z : ⊥ = grind (arith, asks) in z)
returns_at harts h (at.Returning full) k asks fits place = rw place refl
returns_at harts h (at.Returned full resume label before) k asks fits place = let none = fits.0 in absurd (let z : ⊥ = grind (arith, none) in z)

bare : (h : HartState) (full : Bool) (k : KernelState) → h.place ≡ Returning (return_of full k) → record h { place = Returning (return_of full k); kernel = None } ≡ bared h
bare h full k e = ap (λ q. record h { place = q; kernel = None }) (sym e) ∙ sym (ap (λ q. bared_at q h) e)

pub handed : (harts : ℕ) (h : HartState) (p : Place) (held rest : Option SeenKernel) (k before : SeenKernel) (full : Bool) → held ≡ Some k → hart_ask h ≡ does.GiveKernel
    → h.place ≡ place_seen p held → PlaceFits harts p held → full ≡ journal_full h → before ≡ k → rest ≡ None
    → record h { place = Returning (return_of full before.kernel); kernel = kernel_in rest } ≡ bared h
unfolding hart_ask
handed harts h p held rest k before full is asks place fits found same gone =
    let at_place : h.place ≡ place_seen p (Some k) = place ∙ ap (place_seen p) is in
    let e = returns_at harts h p k (subst (λ q. place_ask q h ≡ does.GiveKernel) at_place asks) (subst (PlaceFits harts p) is fits) at_place in
    rw (gone, same, found) (bare h (journal_full h) k.kernel e)
