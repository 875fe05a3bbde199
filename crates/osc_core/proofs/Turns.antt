-- A hart that is told an answer stays sound.
use Rattle.std.proofs.Common.{ℕ, ◌≡◌, ◌<◌, Some, None, IfSome, is_some, [], slice_set, arith, refl, sym, ap, subst}
use Rattle.osc_guest.specs.Fits.{last_version}
use Rattle.osc_guest.specs.Ranges.{BoxIn, ToldIn}
use Rattle.osc_guest.specs.Told.{Told, told}
use Rattle.osc_guest.specs.Told as heard
use Rattle.osc_guest.proofs.Hands.{hand_kept}
use Rattle.osc_guest.proofs.Ranges.{range_kept}
use Rattle.osc_calls.specs.Kernel.{KernelState}
use Rattle.osc_calls.specs.Begin.{begin}
use Rattle.osc_calls.specs.Plan.{plan}
use Rattle.osc_calls.specs.JobDone.{job_done}
use Rattle.osc_machine.specs.Parts.{TakingBoxes, FirstWord, SecondWord, Working, HartState}
use Rattle.osc_machine.specs.Turns.{HartTold, Box, Kernel, Word, Gate, Busy, OldVersion, Done, Turn, found_words}
use Rattle.osc_machine.specs.Did.{guest_hears, Turned, Unmoved, InGuest, TakesKernel, TakesBox, TakesLastBox, FindsFirst, FindsSecond, Works, EndsJob, GivesBox, GivesKernel}
use Rattle.osc_turns.proofs.Begun.{begun_fits}
use Rattle.osc_core.specs.Sound.{HomeSound, HandSound, PlaceSound, WaitsIn, HartSound}
use Rattle.osc_core.proofs.Lists.{all_set}
use Rattle.osc_core.proofs.Gated.{GateBelow, version_kept}
use Rattle.osc_core.proofs.Serving.{begun_sound, planned_sound, done_sound}
use Rattle.osc_core.proofs.Placing.{placed, begun_placed, on_in, begun_in}

-- what a sound machine tells
abbrev pub AnswerSound : ℕ → ℕ → HartTold → Type 0
AnswerSound frames harts (Box box) = BoxIn frames box
AnswerSound frames harts (Kernel k) = HomeSound frames harts (Some k) × (k.jobs ≡ [])
AnswerSound frames harts (Gate version) = version < last_version
AnswerSound frames harts _ = Unit {0}

-- ---- the guest part
hears_in : (frames harts : ℕ) (t : HartTold) (said : Told) → guest_hears t ≡ Some said → AnswerSound frames harts t → ToldIn frames said × GateBelow said
hears_in frames harts (Box box) said e a = let is : heard.Box box ≡ said = grind (arith, e) in subst (λ s. ToldIn frames s × GateBelow s) is (a, tt)
hears_in frames harts (Kernel k) said e a = absurd (let z : ⊥ = grind (arith, e) in z)
hears_in frames harts (Word word) said e a = let is : heard.Word word ≡ said = grind (arith, e) in subst (λ s. ToldIn frames s × GateBelow s) is (tt, tt)
hears_in frames harts (Gate version) said e a = let is : heard.Gate version ≡ said = grind (arith, e) in subst (λ s. ToldIn frames s × GateBelow s) is (tt, a)
hears_in frames harts Busy said e a = absurd (let z : ⊥ = grind (arith, e) in z)
hears_in frames harts OldVersion said e a = let is : heard.OldVersion ≡ said = grind (arith, e) in subst (λ s. ToldIn frames s × GateBelow s) is (tt, tt)
hears_in frames harts Done said e a = let is : heard.Done ≡ said = grind (arith, e) in subst (λ s. ToldIn frames s × GateBelow s) is (tt, tt)

-- ---- what is in its hand
held : (frames harts : ℕ) (h : HartState) (k : KernelState) → HartSound frames harts h → h.kernel ≡ Some k → HandSound frames harts (Some k)
held frames harts h k s e = subst (HandSound frames harts) e s.kernel

at_place : (frames harts : ℕ) (h : HartState) (p : _) (k : KernelState) → HartSound frames harts h → h.place ≡ p → h.kernel ≡ Some k → PlaceSound p h.boxes (Some k)
at_place frames harts h p k s e f = subst (λ q. PlaceSound q h.boxes (Some k)) e (subst (PlaceSound h.place h.boxes) f s.place)

pub turn_sound : (frames harts : ℕ) (h : HartState) (t : HartTold) (turn : Turn) → HartSound frames harts h → AnswerSound frames harts t → Turned h t turn → HartSound frames harts turn.hart
turn_sound frames harts h t turn s a (Unmoved is) = rw is s
turn_sound frames harts h t turn s a (InGuest said p hears is) =
    let within = hears_in frames harts t said hears a in
    rw is (record {
      count = s.count;
      box_held = hand_kept h.user said s.box_held;
      range = range_kept frames h.user said s.range within.0;
      version = version_kept h.user said s.version within.1;
      kernel_held = s.kernel_held;
      kernel = s.kernel;
      boxes = s.boxes;
      place = s.place;
    })
turn_sound frames harts h t turn s a (TakesKernel k asked p said asks is) =
    let taken = subst (AnswerSound frames harts) said a in
    let b = begin h.number h.user.regs h.user.pc asked k in
    rw is (record {
      count = s.count;
      box_held = s.box_held;
      range = s.range;
      version = s.version;
      kernel_held = sym (begun_in b.begun b.kernel h.boxes);
      kernel = begun_sound frames harts h.number h.user.pc h.user.regs asked k taken.0.0 taken.0.1;
      boxes = s.boxes;
      place = begun_placed b.begun b.kernel h.boxes (begun_fits h.number h.user.regs h.user.pc asked k taken.1);
    })
turn_sound frames harts h t turn s a (TakesBox box state k p e said last is) =
    let taken = subst (AnswerSound frames harts) said a in
    rw is (record {
      count = s.count;
      box_held = s.box_held;
      range = s.range;
      version = s.version;
      kernel_held = refl;
      kernel = held frames harts h k s e;
      boxes = all_set (λ o. IfSome o (BoxIn frames)) h.boxes box (Some state) s.boxes taken;
      place = at_place frames harts h (TakingBoxes box) k s p e;
    })
turn_sound frames harts h t turn s a (TakesLastBox box state k p e said last is) =
    let taken = subst (AnswerSound frames harts) said a in
    let waits = at_place frames harts h (TakingBoxes box) k s p e in
    let next = (plan (found_words 0 0) k).kernel in
    rw is (record {
      count = s.count;
      box_held = s.box_held;
      range = s.range;
      version = s.version;
      kernel_held = sym (on_in next (slice_set h.boxes box (Some state)));
      kernel = planned_sound frames harts (found_words 0 0) k waits.0 (held frames harts h k s e) waits.1;
      boxes = all_set (λ o. IfSome o (BoxIn frames)) h.boxes box (Some state) s.boxes taken;
      place = placed next (slice_set h.boxes box (Some state));
    })
turn_sound frames harts h t turn s a (FindsFirst first second word k p e said is) =
    rw is (record {
      count = s.count;
      box_held = s.box_held;
      range = s.range;
      version = s.version;
      kernel_held = ap is_some e;
      kernel = s.kernel;
      boxes = s.boxes;
      place = subst WaitsIn (sym e) (at_place frames harts h (FirstWord first second) k s p e);
    })
turn_sound frames harts h t turn s a (FindsSecond found word second k p e said is) =
    let waits = at_place frames harts h (SecondWord found second) k s p e in
    let next = (plan (found_words found word) k).kernel in
    rw is (record {
      count = s.count;
      box_held = s.box_held;
      range = s.range;
      version = s.version;
      kernel_held = sym (on_in next h.boxes);
      kernel = planned_sound frames harts (found_words found word) k waits.0 (held frames harts h k s e) waits.1;
      boxes = s.boxes;
      place = placed next h.boxes;
    })
turn_sound frames harts h t turn s a (Works moves left read now word k p e w more is) =
    rw is (record {
      count = s.count;
      box_held = s.box_held;
      range = s.range;
      version = s.version;
      kernel_held = refl;
      kernel = held frames harts h k s e;
      boxes = s.boxes;
      place = at_place frames harts h (Working moves read) k s p e;
    })
turn_sound frames harts h t turn s a (EndsJob moves read word k p e w over is) =
    let job = at_place frames harts h (Working moves read) k s p e in
    let next = (job_done word k).kernel in
    rw is (record {
      count = s.count;
      box_held = s.box_held;
      range = s.range;
      version = s.version;
      kernel_held = sym (on_in next h.boxes);
      kernel = done_sound frames harts word k (held frames harts h k s e) job;
      boxes = s.boxes;
      place = placed next h.boxes;
    })
turn_sound frames harts h t turn s a (GivesBox box k p e said is) =
    rw is (record {
      count = s.count;
      box_held = s.box_held;
      range = s.range;
      version = s.version;
      kernel_held = sym (on_in k (slice_set h.boxes box None));
      kernel = held frames harts h k s e;
      boxes = all_set (λ o. IfSome o (BoxIn frames)) h.boxes box None s.boxes tt;
      place = placed k (slice_set h.boxes box None);
    })
turn_sound frames harts h t turn s a (GivesKernel return p said is) =
    rw is (record {
      count = s.count;
      box_held = hand_kept h.user (heard.Resumed return.resume) s.box_held;
      range = range_kept frames h.user (heard.Resumed return.resume) s.range tt;
      version = version_kept h.user (heard.Resumed return.resume) s.version tt;
      kernel_held = refl;
      kernel = tt;
      boxes = s.boxes;
      place = tt;
    })
