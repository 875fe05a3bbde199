-- A kernel that a hart has taken, until its call commits.
use Rattle.std.proofs.Common.{ℕ, ◌≡◌, ◌<◌, nat_lt, Bool, true, false, Option, Some, None, List, [], length, slice_get, Vec, arith, refl, ap, sym, ◌∙◌, subst}
use Rattle.std.specs.declared.alloc.Global.{Global}
use Rattle.std.proofs.lemmas.Bool.Decides.{nat_tests}
use Rattle.osc_word.specs.declared.calls.Call.{Call}
use Rattle.osc_word.specs.declared.calls.Call.TheVariants as calls
use Rattle.osc_word.specs.declared.calls.Request.{Request}
use Rattle.osc_word.specs.declared.settings.HeapKind.{HeapKind}
use Rattle.osc_word.specs.declared.settings.HeapKind.TheVariants.{Oscar, Plain}
use Rattle.osc_word.specs.declared.steps.Label.{Label}
use Rattle.osc_slot.specs.declared.Block.{Block}
use Rattle.osc_slot.specs.declared.HeapPage.{HeapPage}
use Rattle.osc_slot.specs.Heap.{block_of_user}
use Rattle.osc_space.specs.Space.{Space}
use Rattle.osc_space.specs.Header.{header_at}
use Rattle.osc_space.specs.declared.HeaderLook.{HeaderLook}
use Rattle.osc_space.specs.declared.HeaderLook.TheVariants as looks
use Rattle.osc_calls.specs.declared.Begun.{Begun}
use Rattle.osc_calls.specs.declared.Begun.TheVariants.{Again, JournalFull, Gone, Boxes, Header, Planned}
use Rattle.osc_calls.specs.declared.HartRecord.TheVariants.{Runs}
use Rattle.osc_calls.specs.Kernel.{KernelState, Process, Calling, UnderWay, Quiet, Leaving, Waiting, process_at, has_journal_room}
use Rattle.osc_calls.specs.Requests.{calling_of, meant, is_ready}
use Rattle.osc_calls.specs.HeapPlans.{header_step, block_step, free_step, realloc_step}
use Rattle.osc_calls.specs.Begin.{boxes_where, first_step, begun_in, stands, began, begin_as, begin_call, begin}
use Rattle.osc_ready.specs.Found.{HasProcess}
use Rattle.osc_ready.proofs.Found.{askers_fit}
use Rattle.osc_ready.proofs.Taken.{taken_fit}
use Rattle.osc_kernel.specs.declared.state.State.{State}
use Rattle.osc_kernel.specs.declared.state.UnderWay.{UnderWay as Doing}
use Rattle.osc_kernel.specs.declared.state.UnderWay.TheVariants as doing
use Rattle.osc_kernel.specs.Inside.{kernel_of, under_way_of}
use Rattle.osc_kernel.specs.Sound.{HasRooms, Sound, ending_by}
use Rattle.osc_kernel.proofs.Returning.{at_hand}
use Rattle.osc_kernel.proofs.Rooms.{rooms_kept}

-- ---- whoever has it, the kernel is sound
quiet_is : (s : State) → s.under_way ≡ doing.Quiet → (kernel_of s).under_way ≡ Quiet
quiet_is s u = ap (λ (x : Doing). under_way_of x s.closing) u

quiet_rooms : (s : State) (under_way : Doing) (shown : Option Label) → Sound s → s.under_way ≡ doing.Quiet → HasRooms 0 (record s { under_way = under_way; shown = shown })
quiet_rooms s under_way shown h u =
    rooms_kept s s.frames s.regions s.threads s.records s.pending under_way s.closing shown s.freed s.peak 0 0 (omega arith)
    (subst (λ (x : UnderWay). HasRooms (ending_by x) s) (quiet_is s u) h.rooms)

pub retry_sound : (s : State) (shown : Option Label) → Sound s → s.under_way ≡ doing.Quiet → (kernel_of s).jobs ≡ [] → Sound (record s { under_way = doing.Retrying; shown = shown })
retry_sound s shown h u none = record {
  fits = record { words = h.fits.words; fits = taken_fit.retrying h.fits.words (kernel_of s) (at_hand (kernel_of s) h.fits none) (quiet_is s u); opens = tt };
  rooms = quiet_rooms s doing.Retrying shown h u;
  few_jobs = h.few_jobs;
  clean = h.clean;
  pending = h.pending;
}

pub leave_sound : (s : State) (hart : ℕ) (shown : Option Label) → Sound s → s.under_way ≡ doing.Quiet → (kernel_of s).jobs ≡ []
    → Sound (record s { under_way = doing.Leaving hart; shown = shown })
leave_sound s hart shown h u none = record {
  fits = record { words = h.fits.words; fits = taken_fit.leaving h.fits.words (kernel_of s) hart (at_hand (kernel_of s) h.fits none) (quiet_is s u); opens = tt };
  rooms = quiet_rooms s (doing.Leaving hart) shown h u;
  few_jobs = h.few_jobs;
  clean = h.clean;
  pending = h.pending;
}

pub wait_sound : (s : State) (c : Calling) → Sound s → s.under_way ≡ doing.Quiet → (kernel_of s).jobs ≡ [] → slice_get s.records c.hart ≡ Some (Runs c.pid c.thread)
    → length s.journal.items < s.config.journal → Sound (record s { under_way = doing.Waiting c })
wait_sound s c h u none runs room = record {
  fits = record { words = h.fits.words; fits = taken_fit.waiting h.fits.words (kernel_of s) c (at_hand (kernel_of s) h.fits none) (quiet_is s u) room runs; opens = tt };
  rooms = quiet_rooms s (doing.Waiting c) s.shown h u;
  few_jobs = h.few_jobs;
  clean = h.clean;
  pending = h.pending;
}

-- what is shown does not matter
pub shown_sound : (s : State) (shown : Option Label) → Sound s → Sound (record s { shown = shown })
shown_sound s shown h = record {
  fits = h.fits;
  rooms = rooms_kept s s.frames s.regions s.threads s.records s.pending s.under_way s.closing shown s.freed s.peak (ending_by (kernel_of s).under_way) (ending_by (kernel_of s).under_way) (omega arith) h.rooms;
  few_jobs = h.few_jobs;
  clean = h.clean;
  pending = h.pending;
}

-- nor does what stands in the work space of forks
pub names_sound : (s : State) (names : Vec ℕ Global) → length names.items ≡ length s.names.items → Sound s → Sound (record s { names = names })
names_sound s names l h = record {
  fits = h.fits;
  rooms = record {
    valid = h.rooms.valid;
    few = h.rooms.few;
    room = h.rooms.room;
    rest = h.rooms.rest;
    sized = h.rooms.sized;
    counted = h.rooms.counted;
    reported = h.rooms.reported;
    for_reports = h.rooms.for_reports;
    for_entries = h.rooms.for_entries;
    for_output = h.rooms.for_output;
    for_jobs = h.rooms.for_jobs;
    named = l ∙ h.rooms.named;
  };
  few_jobs = h.few_jobs;
  clean = h.clean;
  pending = h.pending;
}

-- ---- who asks
pub asker : (s : State) (c : Calling) → Sound s → s.under_way ≡ doing.Quiet → (kernel_of s).jobs ≡ [] → slice_get s.records c.hart ≡ Some (Runs c.pid c.thread)
    → HasProcess (kernel_of s) c.pid
asker s c h u none runs = askers_fit h.fits.words (kernel_of s) c.hart c.pid c.thread (at_hand (kernel_of s) h.fits none) (quiet_is s u) runs

pub names_fit : (s : State) → Sound s → s.under_way ≡ doing.Quiet → (kernel_of s).jobs ≡ [] → length s.names.items ≡ length s.frames
names_fit s h u none = h.rooms.named ∙ sym (at_hand (kernel_of s) h.fits none).sizes.free

-- ---- what a call needs
-- with it the call waits
abbrev goes_ahead : Begun → Calling → Type 0
goes_ahead b c = stands b c ≡ Waiting c

boxes_go : (held : Bool) (c : Calling) → goes_ahead (boxes_where held) c
boxes_go true c = refl
boxes_go false c = refl

header_goes : (look : HeaderLook) (c : Calling) → goes_ahead (header_step look) c
header_goes (looks.Words first second) c = refl
header_goes _ c = refl

block_goes : (pages : List HeapPage) (o : Option Block) (c : Calling) → goes_ahead (block_step pages o) c
block_goes pages None c = refl
block_goes pages (Some block) c = refl

free_goes : (kind : HeapKind) (space : Space) (pointer : ℕ) (c : Calling) → goes_ahead (free_step kind space pointer) c
free_goes Oscar space pointer c = header_goes (header_at space pointer) c
free_goes Plain space pointer c = refl

realloc_goes : (kind : HeapKind) (space : Space) (pointer : ℕ) (c : Calling) → goes_ahead (realloc_step kind space pointer) c
realloc_goes Oscar space pointer c = header_goes (header_at space pointer) c
realloc_goes Plain space pointer c = block_goes space.heap.pages (block_of_user space.heap.held pointer) c

pub step_goes : (c : Calling) (p : Process) (k : KernelState) (call : Call) → stands (first_step c p k call) c ≡ Waiting c
step_goes c p k (calls.Exit status) = refl
step_goes c p k (calls.Write buf len) = refl
step_goes c p k (calls.End fault) = refl
step_goes c p k (calls.Done value) = boxes_go _ c
step_goes c p k calls.Fork = boxes_go _ c
step_goes c p k (calls.Share count) = boxes_go _ c
step_goes c p k (calls.Free pointer) = free_goes k.config.heap p.space pointer c
step_goes c p k (calls.Realloc pointer size) = realloc_goes k.config.heap p.space pointer c
step_goes c p k (calls.Malloc size) = refl
step_goes c p k (calls.Spawn pc sp arg) = refl
step_goes c p k (calls.Join number) = refl
step_goes c p k (calls.Wait number) = refl
step_goes c p k (calls.Unknown number) = refl

-- the call that waits, entered
pub begins_waiting : (b : Begun) (c : Calling) (k : KernelState) → stands b c ≡ Waiting c → began b (record k { under_way = Waiting c }) ≡ begin_as b c k
begins_waiting b c k e = ap (λ u. began b (record k { under_way = u })) (sym e)

-- ---- the whole
began_is : (b : Begun) (k : KernelState) → (began b k).begun ≡ b
began_is Again k = refl
began_is JournalFull k = refl
began_is Gone k = refl
began_is Boxes k = refl
began_is (Header first second) k = refl
began_is Planned k = refl

-- a call of a hart that runs a thread
pub begins_call : (hart pc : ℕ) (regs : List ℕ) (request : Request) (k : KernelState) (c : Calling) → calling_of hart regs pc request (slice_get k.records hart) ≡ Some c
    → begin hart regs pc request k ≡ begin_as (begun_in (process_at k c.pid) c k) c k
unfolding begin
begins_call hart pc regs request k c e = ap (λ o. begin_call hart o k) e

pub begins_none : (hart pc : ℕ) (regs : List ℕ) (request : Request) (k : KernelState) → calling_of hart regs pc request (slice_get k.records hart) ≡ None
    → begin hart regs pc request k ≡ record { kernel = record k { under_way = Leaving hart }; begun = Gone; shows = [] }
unfolding begin
begins_none hart pc regs request k e = ap (λ o. begin_call hart o k) e

pub begun_is : (b : Begun) (c : Calling) (k : KernelState) → (begin_as b c k).begun ≡ b
begun_is b c k = began_is b (record k { under_way = stands b c })

-- ---- the three ways of a call whose process is there
pub not_ready : (p : Process) (c : Calling) (k : KernelState) → is_ready k c.pid c.call ≡ false → begun_in (Some p) c k ≡ Again
not_ready p c k e = rw e refl

pub is_full : (p : Process) (c : Calling) (k : KernelState) → is_ready k c.pid c.call ≡ true → has_journal_room k ≡ false → begun_in (Some p) c k ≡ JournalFull
is_full p c k e f = rw (e, f) refl

pub goes_on : (p : Process) (c : Calling) (k : KernelState) → is_ready k c.pid c.call ≡ true → has_journal_room k ≡ true → begun_in (Some p) c k ≡ first_step c p k (meant c.call)
goes_on p c k e f = rw (e, f) refl

pub room_is : (k : KernelState) → has_journal_room k ≡ true → length k.journal < k.config.journal
room_is k e = below (length k.journal) k.config.journal e
  where
    below : (n m : ℕ) → nat_lt n m ≡ true → n < m
    below n m e = grind (arith, nat_tests, e)
