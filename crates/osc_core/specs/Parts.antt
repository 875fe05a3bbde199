-- A machine of which no hart holds anything, part by part.
use Rattle.std.specs.Prelude.{ℕ, ◌≡◌, ◌≤◌, Bool, true, false, Option, Some, None, is_some, List, [], ◌∷◌, map, slice_get}
use Rattle.osc_paging.specs.Boxes.{BoxState}
use Rattle.osc_guest.specs.Fits.{last_version}
use Rattle.osc_image.specs.Image.{Image}
use Rattle.osc_machine.specs.Parts.{Gate, HartState}
use Rattle.osc_machine.specs.Start.{start_of}
use Rattle.osc_word.specs.declared.settings.Config.{Config}
use Rattle.osc_core.specs.declared.parts.Parts.{Parts}
use Rattle.osc_core.specs.Shared.{Shared, state_of}

-- what is there of a list, in order
abbrev pub held_in : {T : Type 0} → List (Option T) → List T
held_in [] = []
held_in (None ∷ rest) = held_in rest
held_in (Some x ∷ rest) = x ∷ held_in rest

-- the gate that has this version and is not taken
abbrev pub open_gate : ℕ → Gate
open_gate version = record { version = version; taken = false }

-- the machine of its parts: each word and version by its frame, and the box of each hart
abbrev pub machine_of : Parts → Shared
machine_of p = record {
  words = p.words.items;
  gates = map open_gate p.versions.items;
  boxes = map Some p.boxes.items;
  kernel = Some p.kernel;
  config = p.config;
}

-- the kernel, all boxes and all gates are at home
pub record AllHome (m : Shared) : Type 0 where
  pub kernel : is_some m.kernel ≡ true
  pub boxes : (n : ℕ) (held : Option BoxState) → slice_get m.boxes n ≡ Some held → is_some held ≡ true
  pub gates : (n : ℕ) (gate : Gate) → slice_get m.gates n ≡ Some gate → gate.taken ≡ false

-- each version is one that a gate can have
abbrev pub AreVersions : List ℕ → Type 0
AreVersions versions = (n version : ℕ) → slice_get versions n ≡ Some version → version ≤ last_version

-- a machine at its start is all at home
abbrev pub StartsHome : Type 0
StartsHome =
    (image : Image) (config : Config) (m : Shared) (harts : List HartState)
    → state_of m harts ≡ start_of image config → AllHome m
