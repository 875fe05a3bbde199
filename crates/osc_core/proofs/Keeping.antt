-- A sound machine is ready for each step, and stays sound.
use Rattle.std.proofs.Common.{ℕ, ◌≡◌, ◌<◌, ◌≤◌, ◌==◌, ◌||◌, Bool, true, false, Option, Some, None, IfSome, is_some, List, [], ◌∷◌, length, option_map, slice_index_or, arith, refl, sym, ◌∙◌, ap, subst}
use Rattle.std.proofs.lemmas.Bool.Decides.{nat_tests}
use Rattle.osc_paging.specs.Boxes.{BoxState}
use Rattle.osc_guest.specs.Fits.{last_version}
use Rattle.osc_guest.specs.declared.places.Ask.{Ask}
use Rattle.osc_guest.specs.declared.places.Ask.TheVariants as guest
use Rattle.osc_guest.specs.Asks.{ask}
use Rattle.osc_guest.specs.Laws.{Openers, Givers}
use Rattle.osc_guest.specs.Hands.{holds_box}
use Rattle.osc_guest.specs.Ranges.{BoxIn}
use Rattle.osc_guest.specs.User.{UserHart}
use Rattle.osc_guest.specs.Told as heard
use Rattle.osc_hart.specs.Within.{NewFits, BoxesFit}
use Rattle.osc_calls.specs.Kernel.{KernelState}
use Rattle.osc_calls.specs.Finish.{finish}
use Rattle.osc_calls.specs.Moves.{Move}
use Rattle.osc_calls.specs.Moves as move
use Rattle.osc_settled.specs.UnderWay.{UnderWayFits}
use Rattle.osc_machine.specs.declared.HartAsk.TheVariants as does
use Rattle.osc_machine.specs.Parts.{Gate, CallPlace, Outside, TakingBoxes, FirstWord, SecondWord, Working, GivingBoxes, Returning, Return, HartState, State}
use Rattle.osc_machine.specs.Turns.{HartTold, Box, Kernel, Gate as ToldGate, OldVersion, Done, guest_ask, move_ask, place_ask, hart_ask, hart_told, handed_box, place_handed, handed_kernel, box_given}
use Rattle.osc_machine.specs.Step.{Stepped, step, tells, with_box, with_gate, is_shut}
use Rattle.osc_machine.specs.Did.{Did, Stayed, TookBox, GaveBox, ChangedBox, Loaded, Stored, TookGate, FoundOldVersion, OpenedGate, TookKernel, GaveKernel}
use Rattle.osc_machine.specs.Laws.{is_in_call}
use Rattle.osc_machine.proofs.RowLaws.{turns_by_row, steps_by_row}
use Rattle.osc_machine.proofs.KernelLaws.{returns_of}
use Rattle.osc_machine.proofs.StepLaws.{sizes_stay}
use Rattle.osc_machine.specs.Run.{Ran, run_on}
use Rattle.osc_turns.specs.Answers.{BoxWithin}
use Rattle.osc_turns.specs.Places.{IsFree}
use Rattle.osc_turns.specs.Seen.{kernel_in}
use Rattle.osc_core.specs.Acting.{HasThing, OpensBelow}
use Rattle.osc_core.specs.Sound.{HomeSound, HandSound, PlaceSound, AllBoxesIn, VersionBelow, HartSound, SoundIn, Sound, StepsKeep, RunsKeep, SoundReady}
use Rattle.osc_core.proofs.Lists.{all_set, all_at}
use Rattle.osc_core.proofs.Serving.{finished_sound, given_in}
use Rattle.osc_core.proofs.Turns.{AnswerSound, turn_sound}

-- ---- what a hart asks for, in a call and outside one
no_move_opens : (moves : List Move) (read : Option ℕ) → OpensBelow (move_ask moves read)
no_move_opens [] read = tt
no_move_opens (move.Put at value ∷ moves) read = tt
no_move_opens (move.Copy from to ∷ moves) None = tt
no_move_opens (move.Copy from to ∷ moves) (Some word) = tt
no_move_opens (move.CopyLow from to bytes ∷ moves) None = tt
no_move_opens (move.CopyLow from to bytes ∷ moves) (Some word) = tt
no_move_opens (move.ChangeBox box ∷ moves) read = tt
no_move_opens (move.Out at ∷ moves) read = tt

guest_opens : (openers : Openers) (user : UserHart) (number : ℕ) (a : Ask) → ask user ≡ a → VersionBelow user.place → OpensBelow (guest_ask number a)
guest_opens openers user number guest.TakeBox e v = tt
guest_opens openers user number (guest.Load at) e v = tt
guest_opens openers user number (guest.TakeGate frame only) e v = tt
guest_opens openers user number (guest.Store at value) e v = tt
guest_opens openers user number (guest.OpenGate frame version) e v = subst VersionBelow (openers user frame version e) v
guest_opens openers user number guest.GiveBox e v = tt
guest_opens openers user number (guest.Kernel asked) e v = tt
guest_opens openers user number guest.Rest e v = tt

opens_at : (openers : Openers) (p : CallPlace) (h : HartState) → VersionBelow h.user.place → OpensBelow (place_ask p h)
opens_at openers Outside h v = guest_opens openers h.user h.number (ask h.user) refl v
opens_at openers (TakingBoxes box) h v = tt
opens_at openers (FirstWord first second) h v = tt
opens_at openers (SecondWord found second) h v = tt
opens_at openers (Working moves read) h v = no_move_opens moves read
opens_at openers (GivingBoxes box) h v = tt
opens_at openers (Returning return) h v = tt

opens : Openers → (h : HartState) → VersionBelow h.user.place → OpensBelow (hart_ask h)
unfolding hart_ask
opens openers h v = opens_at openers h.place h v

-- ---- what it gives
no_move_gives : (moves : List Move) (read : Option ℕ) (h : HartState) → HasThing (move_ask moves read) h
no_move_gives [] read h = tt
no_move_gives (move.Put at value ∷ moves) read h = tt
no_move_gives (move.Copy from to ∷ moves) None h = tt
no_move_gives (move.Copy from to ∷ moves) (Some word) h = tt
no_move_gives (move.CopyLow from to bytes ∷ moves) None h = tt
no_move_gives (move.CopyLow from to bytes ∷ moves) (Some word) h = tt
no_move_gives (move.ChangeBox box ∷ moves) read h = tt
no_move_gives (move.Out at ∷ moves) read h = tt

guest_gives : (givers : Givers) (h : HartState) (a : Ask) → ask h.user ≡ a → h.place ≡ Outside → is_some h.user.held ≡ holds_box h.user.place → HasThing (guest_ask h.number a) h
guest_gives givers h guest.TakeBox e p b = tt
guest_gives givers h (guest.Load at) e p b = tt
guest_gives givers h (guest.TakeGate frame only) e p b = tt
guest_gives givers h (guest.Store at value) e p b = tt
guest_gives givers h (guest.OpenGate frame version) e p b = tt
guest_gives givers h guest.GiveBox e p b = rw p (b ∙ ap holds_box (givers h.user e).1)
guest_gives givers h (guest.Kernel asked) e p b = tt
guest_gives givers h guest.Rest e p b = tt

gives_at : (givers : Givers) (frames harts : ℕ) (p : CallPlace) (h : HartState) → h.place ≡ p → HartSound frames harts h → HasThing (place_ask p h) h
gives_at givers frames harts Outside h e s = guest_gives givers h (ask h.user) refl e s.box_held
gives_at givers frames harts (TakingBoxes box) h e s = tt
gives_at givers frames harts (FirstWord first second) h e s = tt
gives_at givers frames harts (SecondWord found second) h e s = tt
gives_at givers frames harts (Working moves read) h e s = no_move_gives moves read h
gives_at givers frames harts (GivingBoxes box) h e s = rw e ((subst (λ q. PlaceSound q h.boxes h.kernel) e s.place).1)
gives_at givers frames harts (Returning return) h e s = s.kernel_held ∙ ap is_in_call e

gives : Givers → (frames harts : ℕ) (h : HartState) → HartSound frames harts h → HasThing (hart_ask h) h
unfolding hart_ask
gives givers frames harts h s = gives_at givers frames harts h.place h refl s

-- ---- ready
free_home : (frames harts count : ℕ) (kernel : Option KernelState) → HomeSound frames harts kernel → count ≡ harts → IfSome kernel (IsFree count)
free_home frames harts count None s e = tt
free_home frames harts count (Some k) s e = record {
  quiet = s.1;
  jobs = subst (UnderWayFits k) s.1 s.0.fits.under_way;
  counted = s.0.harts_in ∙ sym e;
}

within_at : BoxesFit → (frames harts : ℕ) (p : CallPlace) (h : HartState) (box : BoxState) → HartSound frames harts h → BoxIn frames box → BoxWithin p h.user box
within_at fit frames harts Outside h box s b = fit frames h.user (heard.Box box) s.range b
within_at fit frames harts (TakingBoxes next) h box s b = tt
within_at fit frames harts (FirstWord first second) h box s b = tt
within_at fit frames harts (SecondWord found second) h box s b = tt
within_at fit frames harts (Working moves read) h box s b = tt
within_at fit frames harts (GivingBoxes next) h box s b = tt
within_at fit frames harts (Returning return) h box s b = tt

box_home : (frames : ℕ) (boxes : List (Option BoxState)) (number : ℕ) (box : BoxState) → AllBoxesIn frames boxes → slice_index_or boxes number None ≡ Some box → BoxIn frames box
box_home frames boxes number box all e = subst (λ (o : Option BoxState). IfSome o (BoxIn frames)) e (all_at (BoxIn frames) boxes number all)

pub sound_ready : Openers → Givers → BoxesFit → SoundReady
sound_ready openers givers fit n m hs h sound here =
    let frames = length m.gates in
    let harts = length hs in
    let s = sound.each n h here in record {
      hand = s.kernel_held;
      thing = gives givers frames harts h s;
      version = opens openers h s.version;
      kernel = free_home frames harts h.count (kernel_in m.kernel) sound.home s.count;
      boxes = λ number box e. within_at fit frames harts h.place h box s (box_home frames m.boxes number box sound.boxes e);
    }

-- ---- the state after a step

tells_sound : (frames harts : ℕ) (s : State) (n : ℕ) (h : HartState) (t : HartTold) → SoundIn frames harts s → HartSound frames harts h → AnswerSound frames harts t
    → SoundIn frames harts (tells s n h t).state
tells_sound frames harts s n h t sound own a = record {
  home = sound.home;
  gates = sound.gates;
  boxes = sound.boxes;
  each = all_set (HartSound frames harts) s.harts n (hart_told h t).hart sound.each (turn_sound frames harts h t (hart_told h t) own a (turns_by_row h t));
}

handed_at : NewFits → (frames harts : ℕ) (p : CallPlace) (h : HartState) → HartSound frames harts h → BoxIn frames (place_handed p h)
handed_at new frames harts Outside h s = s.range.box
handed_at new frames harts (TakingBoxes next) h s = s.range.box
handed_at new frames harts (FirstWord first second) h s = s.range.box
handed_at new frames harts (SecondWord found second) h s = s.range.box
handed_at new frames harts (Working moves read) h s = s.range.box
handed_at new frames harts (GivingBoxes box) h s =
    given_in frames harts box h.kernel (slice_index_or h.boxes box None) new s.kernel (all_at (BoxIn frames) h.boxes box s.boxes)
handed_at new frames harts (Returning return) h s = s.range.box

handed_in : NewFits → (frames harts : ℕ) (h : HartState) → HartSound frames harts h → BoxIn frames (handed_box h)
unfolding handed_box
handed_in new frames harts h s = handed_at new frames harts h.place h s

with_box_sound : (frames harts : ℕ) (s : State) (box : ℕ) (held : Option BoxState) → SoundIn frames harts s → IfSome held (BoxIn frames) → SoundIn frames harts (with_box s box held)
with_box_sound frames harts s box held sound b = record {
  home = sound.home;
  gates = sound.gates;
  boxes = all_set (λ o. IfSome o (BoxIn frames)) s.boxes box held sound.boxes b;
  each = sound.each;
}

with_gate_sound : (frames harts : ℕ) (s : State) (frame version : ℕ) (taken : Bool) → SoundIn frames harts s → version ≤ last_version → SoundIn frames harts (with_gate s frame version taken)
with_gate_sound frames harts s frame version taken sound v = record {
  home = sound.home;
  gates = all_set (λ (g : Gate). g.version ≤ last_version) s.gates frame (record { version = version; taken = taken }) sound.gates v;
  boxes = sound.boxes;
  each = sound.each;
}

with_kernel_sound : (frames harts : ℕ) (s : State) (kernel : Option KernelState) → SoundIn frames harts s → HomeSound frames harts kernel → SoundIn frames harts (record s { kernel = kernel })
with_kernel_sound frames harts s kernel sound k = record { home = k; gates = sound.gates; boxes = sound.boxes; each = sound.each }

finished_in : (frames harts : ℕ) (kernel : Option KernelState) (boxes : List (Option BoxState)) (return : Return) → HandSound frames harts kernel → PlaceSound (Returning return) boxes kernel
    → HomeSound frames harts (option_map (λ k. (finish k).kernel) kernel)
finished_in frames harts None boxes return s p = tt
finished_in frames harts (Some k) boxes return s p = finished_sound frames harts k s p.0

handed_sound : (frames harts : ℕ) (h : HartState) → HartSound frames harts h → hart_ask h ≡ does.GiveKernel → HomeSound frames harts (handed_kernel h)
unfolding handed_kernel
handed_sound frames harts h s asks =
    let r = returns_of h asks in
    finished_in frames harts h.kernel h.boxes r.0 s.kernel (subst (λ q. PlaceSound q h.boxes h.kernel) r.1 s.place)

open_below : (gate : Gate) → gate.version ≤ last_version → is_shut gate ≡ false → gate.version < last_version
open_below gate l e = go gate.taken e
  where
    go : (b : Bool) → (b || (gate.version == last_version)) ≡ false → gate.version < last_version
    go true e = absurd (let z : ⊥ = grind (arith, e) in z)
    go false e = grind (arith, nat_tests, e, l)

taken_sound : (frames harts : ℕ) (k : KernelState) → HomeSound frames harts (Some k) → AnswerSound frames harts (Kernel k)
taken_sound frames harts k s = (s, subst (UnderWayFits k) s.1 s.0.fits.under_way)

did_sound : Openers → NewFits → (frames harts : ℕ) (s : State) (n : ℕ) (x : Stepped) → SoundIn frames harts s → Did s n x → SoundIn frames harts x.state
did_sound openers new frames harts s n x sound (Stayed is) = rw is sound
did_sound openers new frames harts s n x sound (TookBox h box state a at is) =
    let b = box_home frames s.boxes box state sound.boxes at in
    rw is (tells_sound frames harts (with_box s box None) n h (Box state) (with_box_sound frames harts s box None sound tt) (sound.each n h a.here) b)
did_sound openers new frames harts s n x sound (GaveBox h box a is) =
    let own = sound.each n h a.here in
    rw is (tells_sound frames harts (with_box s box (Some (handed_box h))) n h Done (with_box_sound frames harts s box (Some (handed_box h)) sound (handed_in new frames harts h own)) own tt)
did_sound openers new frames harts s n x sound (ChangedBox h box state a at is) =
    let own = sound.each n h a.here in
    let b = box_home frames s.boxes box state sound.boxes at in
    let given = given_in frames harts box h.kernel (Some state) new own.kernel b in
    rw is (tells_sound frames harts (with_box s box (Some (box_given box h.kernel (Some state)))) n h Done (with_box_sound frames harts s box (Some (box_given box h.kernel (Some state))) sound given) own tt)
did_sound openers new frames harts s n x sound (Loaded h from a is) = rw is (tells_sound frames harts s n h _ sound (sound.each n h a.here) tt)
did_sound openers new frames harts s n x sound (Stored h to value a is) =
    rw is (tells_sound frames harts (record s { words = _ }) n h Done (record { home = sound.home; gates = sound.gates; boxes = sound.boxes; each = sound.each }) (sound.each n h a.here) tt)
did_sound openers new frames harts s n x sound (TookGate h frame only gate a at shut wanted is) =
    let small = sound.gates frame gate at in
    rw is (tells_sound frames harts (with_gate s frame gate.version true) n h (ToldGate gate.version) (with_gate_sound frames harts s frame gate.version true sound small) (sound.each n h a.here) (open_below gate small shut))
did_sound openers new frames harts s n x sound (FoundOldVersion h frame only gate a at shut wanted is) = rw is (tells_sound frames harts s n h OldVersion sound (sound.each n h a.here) tt)
did_sound openers new frames harts s n x sound (OpenedGate h frame version a is) =
    let own = sound.each n h a.here in
    let below = subst OpensBelow a.asks (opens openers h own.version) in
    rw is (tells_sound frames harts (with_gate s frame version false) n h Done (with_gate_sound frames harts s frame version false sound below) own tt)
did_sound openers new frames harts s n x sound (TookKernel h k a at is) =
    let home = subst (HomeSound frames harts) at sound.home in
    rw is (tells_sound frames harts (record s { kernel = None }) n h (Kernel k) (with_kernel_sound frames harts s None sound tt) (sound.each n h a.here) (taken_sound frames harts k home))
did_sound openers new frames harts s n x sound (GaveKernel h a is) =
    let own = sound.each n h a.here in
    rw is (tells_sound frames harts (record s { kernel = handed_kernel h }) n h Done (with_kernel_sound frames harts s (handed_kernel h) sound (handed_sound frames harts h own a.asks)) own tt)

stays_in : Openers → NewFits → (frames harts : ℕ) (s : State) (n : ℕ) → SoundIn frames harts s → SoundIn frames harts (step s n).state
stays_in openers new frames harts s n sound = did_sound openers new frames harts s n (step s n) sound (steps_by_row s n)

pub steps_keep : Openers → NewFits → StepsKeep
steps_keep openers new s n sound =
    let sizes = sizes_stay s n in
    rw (sizes.gates, sizes.harts) (stays_in openers new (length s.gates) (length s.harts) s n sound)

runs_on : Openers → NewFits → (picks : List ℕ) (ran : Ran) → Sound ran.state → Sound (run_on picks ran).state
unfolding run_on
runs_on openers new [] ran sound = sound
runs_on openers new (pick ∷ picks) ran sound = runs_on openers new picks _ (steps_keep openers new ran.state pick sound)

pub runs_keep : Openers → NewFits → RunsKeep
runs_keep openers new s picks sound = runs_on openers new picks _ sound
