-- A cache without an entry finds nothing.
use Rattle.std.proofs.Common.{ℕ, zero, suc, ◌≡◌, ◌%◌, None, refl, replicate}
use Rattle.osc_sv39.specs.declared.entries.Access.{Access}
use Rattle.osc_paging.specs.declared.Look.TheVariants.{Miss}
use Rattle.osc_paging.specs.Boxes.{no_entries, entry_in, look}

pub no_entry : (count slot : ℕ) → entry_in (replicate count None) slot ≡ None
no_entry zero slot = refl
no_entry (suc count) zero = refl
no_entry (suc count) (suc slot) = no_entry count slot

pub finds_nothing : (page : ℕ) (access : Access) → Miss ≡ look no_entries page access
unfolding no_entries
finds_nothing page access = rw (no_entry 32 (page % 32)) refl
