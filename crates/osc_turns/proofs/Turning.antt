-- What a hart makes of the things that a call takes.
use Rattle.std.proofs.Common.{ℕ, ◌≡◌, slice_set, Bool, false, List, [], Option, Some, None, refl}
use Rattle.osc_word.specs.declared.calls.Request.{Request}
use Rattle.osc_word.specs.declared.calls.Resume.{Resume}
use Rattle.osc_calls.specs.Finish.{finish}
use Rattle.osc_guest.specs.declared.places.Ask.{Ask}
use Rattle.osc_guest.specs.declared.places.Ask.TheVariants as guest
use Rattle.osc_calls.specs.declared.Begun.{Begun}
use Rattle.osc_calls.specs.Kernel.{KernelState, Shown}
use Rattle.osc_calls.specs.Begin.{begin}
use Rattle.osc_machine.specs.Parts.{CallPlace, Outside, HartState}
use Rattle.osc_paging.specs.Boxes.{BoxState}
use Rattle.osc_calls.specs.declared.BoxChange.{BoxChange}
use Rattle.osc_calls.specs.Boxes.{box_change}
use Rattle.osc_calls.specs.Moves.{Move}
use Rattle.osc_calls.specs.JobDone.{job_done}
use Rattle.osc_machine.specs.Turns.{in_call, is_planned, place_begun, place_on, kernel_taken, AllDone, moves_left, clears_by, clears_more, action_done, box_gone, kernel_gone}
use Rattle.osc_turns.specs.Seen.{turned, returning_from}

pub taken : (h : HartState) (a : Ask) (request : Request) (number : ℕ) (regs : List ℕ) (pc : ℕ) (k next : KernelState) (b : Begun) (p : CallPlace) (commits : Bool)
    → a ≡ guest.Kernel request → number ≡ h.number → regs ≡ h.user.regs → pc ≡ h.user.pc
    → b ≡ (begin number regs pc request k).begun → next ≡ (begin number regs pc request k).kernel → p ≡ place_begun b next h.boxes → commits ≡ is_planned b
    → turned (in_call commits (record { kernel = next; shows = (begin number regs pc request k).shows }) p h) ≡ turned (kernel_taken a k h)
taken h a request number regs pc k next b p commits asks n r c begun kernel place planned =
    rw (asks, planned, place, begun, kernel, n, r, c) refl

pub goes_on : (h : HartState) (commits : Bool) (s : Shown) (next : KernelState) (p : CallPlace) (boxes : List (Option BoxState))
    → next ≡ s.kernel → p ≡ place_on next boxes → boxes ≡ h.boxes
    → turned (in_call commits (record { kernel = next; shows = s.shows }) p h) ≡ turned (in_call commits s (place_on s.kernel h.boxes) h)
goes_on h commits s next p boxes kernel place held = rw (place, held, kernel) refl

pub job_over : (h mid : HartState) (ms : List Move) (read : Option ℕ) (word : ℕ) (k next : KernelState) (p : CallPlace) (boxes : List (Option BoxState))
    → AllDone ≡ moves_left ms read word → mid ≡ record h { clears = clears_by ms k h.clears } → next ≡ (job_done word k).kernel → p ≡ place_on next boxes → boxes ≡ mid.boxes
    → turned (in_call false (record { kernel = next; shows = (job_done word k).shows }) p mid) ≡ turned (action_done ms read word k h)
job_over h mid ms read word k next p boxes over is kernel place held = rw (← over, place, held, kernel, is) refl

pub box_given : (h without counted : HartState) (box : ℕ) (k : KernelState) (change : BoxChange) (p : CallPlace) (boxes : List (Option BoxState))
    → without ≡ record h { boxes = slice_set h.boxes box None } → change ≡ box_change box k → counted ≡ record without { clears = clears_more change without.clears }
    → boxes ≡ counted.boxes → p ≡ place_on k boxes
    → turned (in_call false (record { kernel = k; shows = [] }) p counted) ≡ turned (box_gone box k h)
box_given h without counted box k change p boxes a b d held place = rw (place, held, d, a, b) refl

pub kernel_back : (h lifted : HartState) (k : KernelState) (held : Option KernelState) (resume : Resume) (full : Bool)
    → Some k ≡ held → resume ≡ (finish k).resume → lifted ≡ record h { place = Outside; kernel = None }
    → turned (kernel_gone (record { resume = resume; shows = (finish k).shows; full = full }) lifted) ≡ turned (kernel_gone (returning_from full held) h)
kernel_back h lifted k held resume full is same rest = rw (← is, same, rest) refl
