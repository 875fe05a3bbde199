-- The version of a gate that a hart holds.
use Rattle.std.proofs.Common.{ℕ, ◌≡◌, ◌+◌, ◌<◌, ◌≤◌, Option, None, arith, refl, sym, ◌∙◌, ap, subst}
use Rattle.osc_guest.specs.declared.accesses.MemoryAccess.{MemoryAccess}
use Rattle.osc_guest.specs.declared.accesses.What.{What}
use Rattle.osc_guest.specs.declared.accesses.What.TheVariants as what
use Rattle.osc_guest.specs.declared.places.Place.{Place}
use Rattle.osc_guest.specs.declared.places.Place.TheVariants as at
use Rattle.osc_guest.specs.declared.places.Stage.{Stage}
use Rattle.osc_guest.specs.declared.places.Stage.TheVariants as stage
use Rattle.osc_guest.specs.User.{UserHart}
use Rattle.osc_guest.specs.Fits.{last_version}
use Rattle.osc_guest.specs.Hands.{gate_held, gate_after}
use Rattle.osc_guest.specs.Told.{Told, Word, Gate, Done, told, told_at}
use Rattle.osc_guest.proofs.Hands.{told-gate}
use Rattle.osc_core.specs.Sound.{StageBelow, VersionBelow}

-- a gate is told with a version that isn't the last one
abbrev pub GateBelow : Told → Type 0
GateBelow (Gate version) = version < last_version
GateBelow _ = Unit {0}

no_gate_stage : (stage : Stage) (frame : ℕ) (access : MemoryAccess) → gate_held (at.Access access frame stage) ≡ None → StageBelow stage
no_gate_stage stage.Fetch frame access e = tt
no_gate_stage stage.Load frame access e = tt
no_gate_stage (stage.TakeGate only) frame access e = tt
no_gate_stage (stage.GatedLoad version) frame access e = absurd (let z : ⊥ = grind (arith, e) in z)
no_gate_stage (stage.GatedStore version found) frame access e = absurd (let z : ⊥ = grind (arith, e) in z)

no_gate : (p : Place) → gate_held p ≡ None → VersionBelow p
no_gate at.Run e = tt
no_gate at.Idle e = tt
no_gate (at.Walk access level table) e = tt
no_gate (at.Access access frame stage) e = no_gate_stage stage frame access e
no_gate (at.OpenGate frame version) e = absurd (let z : ⊥ = grind (arith, e) in z)
no_gate (at.GiveBox follows) e = tt
no_gate (at.Call request) e = tt
no_gate at.Rest e = tt

without : (h : UserHart) (p : Place) (t : Told) → h.place ≡ p → gate_after p t ≡ None → VersionBelow (told h t).hart.place
without h p t e none = no_gate (told h t).hart.place (told-gate h t ∙ ap (λ q. gate_after q t) e ∙ none)

loaded : (w : What) (h : UserHart) (access : MemoryAccess) (frame version word : ℕ) → access.what ≡ w → h.place ≡ at.Access access frame (stage.GatedLoad version) → version < last_version
    → VersionBelow (told_at (at.Access access frame (stage.GatedLoad version)) h (Word word)).hart.place
loaded what.Fetch h access frame version word w e l = rw w l
loaded (what.Load kind) h access frame version word w e l = rw w l
loaded (what.Store value) h access frame version word w e l = rw w l
loaded (what.Amo op width operand) h access frame version word w e l = rw w l
loaded (what.Lr width) h access frame version word w e l = rw w (let z : version ≤ last_version = grind (arith, l) in z)
loaded (what.Sc value) h access frame version word w e l = rw w l

stays : (h : UserHart) (p : Place) → h.place ≡ p → VersionBelow p → VersionBelow h.place
stays h p e v = subst VersionBelow (sym e) v

at_load : (h : UserHart) (access : MemoryAccess) (frame version : ℕ) (t : Told) → h.place ≡ at.Access access frame (stage.GatedLoad version) → version < last_version
    → VersionBelow (told_at (at.Access access frame (stage.GatedLoad version)) h t).hart.place
at_load h access frame version (Word word) e l = loaded access.what h access frame version word refl e l
at_load h access frame version _ e l = stays h _ e l

at_store : (h : UserHart) (access : MemoryAccess) (frame version found : ℕ) (t : Told) → h.place ≡ at.Access access frame (stage.GatedStore version found) → version < last_version
    → VersionBelow (told_at (at.Access access frame (stage.GatedStore version found)) h t).hart.place
at_store h access frame version found Done e l = let z : version + 1 ≤ last_version = grind (arith, l) in z
at_store h access frame version found _ e l = stays h _ e l

at_gate : (h : UserHart) (access : MemoryAccess) (frame : ℕ) (only : Option ℕ) (t : Told) → h.place ≡ at.Access access frame (stage.TakeGate only) → GateBelow t
    → VersionBelow (told h t).hart.place
unfolding told
at_gate h access frame only (Gate version) e l = rw e l
at_gate h access frame only t e l = without h _ t e refl

at_open : (h : UserHart) (frame version : ℕ) (t : Told) → h.place ≡ at.OpenGate frame version → version ≤ last_version
    → VersionBelow (told_at (at.OpenGate frame version) h t).hart.place
at_open h frame version Done e l = tt
at_open h frame version _ e l = stays h _ e l

in_stage : (h : UserHart) (access : MemoryAccess) (frame : ℕ) (stage : Stage) (t : Told) → h.place ≡ at.Access access frame stage → StageBelow stage → GateBelow t
    → VersionBelow (told h t).hart.place
unfolding told
in_stage h access frame stage.Fetch t e l g = without h _ t e refl
in_stage h access frame stage.Load t e l g = without h _ t e refl
in_stage h access frame (stage.TakeGate only) t e l g = at_gate h access frame only t e g
in_stage h access frame (stage.GatedLoad version) t e l g = subst (λ q. VersionBelow (told_at q h t).hart.place) (sym e) (at_load h access frame version t e l)
in_stage h access frame (stage.GatedStore version found) t e l g = subst (λ q. VersionBelow (told_at q h t).hart.place) (sym e) (at_store h access frame version found t e l)

in_place : (h : UserHart) (p : Place) (t : Told) → h.place ≡ p → VersionBelow p → GateBelow t → VersionBelow (told h t).hart.place
unfolding told
in_place h at.Run t e v g = without h _ t e refl
in_place h at.Idle t e v g = without h _ t e refl
in_place h (at.Walk access level table) t e v g = without h _ t e refl
in_place h (at.Access access frame stage) t e v g = in_stage h access frame stage t e v g
in_place h (at.OpenGate frame version) t e v g = subst (λ q. VersionBelow (told_at q h t).hart.place) (sym e) (at_open h frame version t e v)
in_place h (at.GiveBox follows) t e v g = without h _ t e refl
in_place h (at.Call request) t e v g = without h _ t e refl
in_place h at.Rest t e v g = without h _ t e refl

pub version_kept : (h : UserHart) (t : Told) → VersionBelow h.place → GateBelow t → VersionBelow (told h t).hart.place
version_kept h t v g = in_place h h.place t refl v g
