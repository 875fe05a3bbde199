-- Calls, first pcs and orders worked through, step by step.
use Rattle.std.specs.Prelude.{ℕ, ◌≡◌, false, None, List, [], ◌∷◌, replicate}
use Rattle.osc_word.specs.declared.orders.Order.{Order}
use Rattle.osc_word.specs.declared.orders.Order.TheVariants.{Start, Stop, Over}
use Rattle.osc_word.specs.declared.calls.Request.TheVariants as request
use Rattle.osc_word.specs.declared.calls.Call.TheVariants as call
use Rattle.osc_word.specs.declared.calls.Fault.TheVariants as fault
use Rattle.osc_word.specs.declared.calls.Resume.TheVariants as resume
use Rattle.osc_word.specs.Registers.{with_register}
use Rattle.osc_paging.specs.Boxes.{BoxState}
use Rattle.osc_guest.specs.declared.places.Ask.TheVariants as asks
use Rattle.osc_guest.specs.User.{UserHart, goes, handed, user_begin, user_idle}
use Rattle.osc_guest.specs.Asks.{ask}
use Rattle.osc_guest.specs.Told.{Told, Box, Busy, Word, Resumed, Done, told}
use Rattle.osc_guest.specs.Worked.{asks_of, choices_of, touches_of, after_all, Seen, seen_of, start_at, at_pc, thread, registers, code_box, word_of_frame, addi_word, fetched_at, lr_answers}

-- ---- ecall, with 1 in a7 and 7 in a0
abbrev pub exiting : UserHart
exiting = user_begin (start_at 3 0x10008 (with_register (with_register (replicate 32 0) 17 1) 10 7))

abbrev pub ecall_answers : List Told
ecall_answers = Box code_box ∷ Word 0x73 ∷ Done ∷ []

-- a call commits in the kernel, and the pc is that of the ecall
pub record EcallAsks : Type 0 where
  pub actions : asks_of ecall_answers exiting ≡ asks.TakeBox ∷ asks.Load (word_of_frame 4 1) ∷ asks.GiveBox ∷ []
  pub choices : choices_of ecall_answers exiting ≡ []
  pub after : seen_of (after_all ecall_answers exiting) ≡ record {
    a0 = 7;
    a1 = 0;
    t1 = 0;
    pc = 0x10008;
    retired = 0;
    hits = 1;
    walks = 0;
    reserved = None;
    next = asks.Kernel (request.Call (call.Exit 7));
  }
  pub returned : seen_of (after_all (Resumed (resume.Return 3) ∷ []) (after_all ecall_answers exiting)) ≡ record {
    a0 = 3;
    a1 = 0;
    t1 = 0;
    pc = 0x1000C;
    retired = 0;
    hits = 1;
    walks = 0;
    reserved = None;
    next = asks.TakeBox;
  }
  pub again : told (after_all ecall_answers exiting) (Resumed resume.Again) ≡ goes (after_all ecall_answers exiting)
  pub faulted : ask (told (after_all ecall_answers exiting) (Resumed (resume.Fault (fault.UnknownCall 1)))).hart
      ≡ asks.Kernel (request.Call (call.End (fault.UnknownCall 1)))

-- ---- the first pc
abbrev pub first_answers : List Told
first_answers = Box code_box ∷ Done ∷ []

abbrev pub first_seen : ℕ → ℕ → Seen
first_seen cause pc = record {
  a0 = 0;
  a1 = 0;
  t1 = 0;
  pc = pc;
  retired = 1;
  hits = 0;
  walks = 0;
  reserved = None;
  next = asks.Kernel (request.Call (call.End (fault.Access cause pc)));
}

-- one that is not divisible by 4, or not canonical, is found in the taking of the box
pub record FirstPcFaults : Type 0 where
  pub actions : asks_of first_answers (at_pc 3 0x10002) ≡ asks.TakeBox ∷ asks.GiveBox ∷ []
  pub touches : touches_of first_answers (at_pc 3 0x10002) ≡ []
  pub misaligned : seen_of (after_all first_answers (at_pc 3 0x10002)) ≡ first_seen 0 0x10002
  pub beyond_touches : touches_of first_answers (at_pc 3 0x4000000000) ≡ fetched_at 0x4000000000 false ∷ []
  pub beyond : seen_of (after_all first_answers (at_pc 3 0x4000000000)) ≡ first_seen 12 0x4000000000

-- with four levels the same address is canonical, and is walked to; the first that is not is 2^47
pub record FourReachFurther : Type 0 where
  pub actions : asks_of (Box code_box ∷ Word 0x401 ∷ Busy ∷ []) (at_pc 4 0x4000000000)
      ≡ asks.TakeBox ∷ asks.Load (word_of_frame 0 0) ∷ asks.Load (word_of_frame 1 256) ∷ []
  pub beyond : touches_of first_answers (at_pc 4 0x800000000000) ≡ fetched_at 0x800000000000 false ∷ []

-- ---- orders
abbrev pub ordered : Order → BoxState
ordered order = record code_box { order = order }

-- Stop: the order is carried out, the hart reports itself idle and is
pub record StopObeyed : Type 0 where
  pub actions : asks_of (Box (ordered Stop) ∷ Done ∷ Resumed resume.Idle ∷ Busy ∷ []) (thread 0 0)
      ≡ asks.TakeBox ∷ asks.GiveBox ∷ asks.Kernel request.Idle ∷ asks.TakeBox ∷ []
  pub box : handed (after_all (Box (ordered Stop) ∷ []) (thread 0 0)) ≡ code_box
  pub reserved : (after_all (Box (ordered Stop) ∷ []) (after_all lr_answers (thread 0x1000000010 9))).reservation ≡ None

-- Over: the hart is at rest once it gave its box
pub record OverObeyed : Type 0 where
  pub running : asks_of (Box (ordered Over) ∷ Done ∷ Busy ∷ []) (thread 0 0) ≡ asks.TakeBox ∷ asks.GiveBox ∷ asks.Rest ∷ []
  pub idle : asks_of (Box (ordered Over) ∷ Done ∷ Busy ∷ []) user_idle ≡ asks.TakeBox ∷ asks.GiveBox ∷ asks.Rest ∷ []

-- Start: the idle hart runs the thread at once
abbrev pub start_order : Order
start_order = Start (start_at 3 0x10000 (registers 5 0))

pub record StartObeyed : Type 0 where
  pub actions : asks_of (Box (ordered start_order) ∷ Word addi_word ∷ Done ∷ []) user_idle
      ≡ asks.TakeBox ∷ asks.Load (word_of_frame 4 0) ∷ asks.GiveBox ∷ []
  pub box : handed (after_all (Box (ordered start_order) ∷ []) user_idle) ≡ code_box
  pub idle : asks_of (Box code_box ∷ Done ∷ Busy ∷ []) user_idle ≡ asks.TakeBox ∷ asks.GiveBox ∷ asks.TakeBox ∷ []
