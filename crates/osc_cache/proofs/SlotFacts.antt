-- What the slots of a cache say of a page.
use Rattle.std.proofs.Common.{ℕ, zero, suc, ◌≡◌, ◌==◌, ◌↔◌, Bool, true, false, cond, List, [], ◌∷◌, Option, Some, None, arith, refl, ap, slice_get, replicate}
use Rattle.std.proofs.lemmas.Bool.Decides.{nat_tests}
use Rattle.osc_sv39.specs.declared.entries.Access.{Access}
use Rattle.osc_paging.specs.declared.CacheEntry.{CacheEntry}
use Rattle.osc_paging.specs.declared.Look.TheVariants.{Hit, Miss}
use Rattle.osc_paging.specs.Boxes.{slot_of, no_entries, entry_in, allows_at, seen_in, look}
use Rattle.osc_cache.specs.Slots.{StandInTheirSlots, NoneAllows}

empty_slots : (count slot : ℕ) (entry : CacheEntry) → slice_get (replicate count None) slot ≡ Some (Some entry) → ⊥
empty_slots zero slot entry e = cc
empty_slots (suc count) zero entry e = cc
empty_slots (suc count) (suc slot) entry e = empty_slots count slot entry e

pub no_entries_stand : StandInTheirSlots no_entries
unfolding no_entries
no_entries_stand slot entry e = absurd (empty_slots 32 slot entry e)

-- an entry that is read at a slot stands there
stands : (slots : List (Option CacheEntry)) (slot : ℕ) (entry : CacheEntry) → entry_in slots slot ≡ Some entry → slice_get slots slot ≡ Some (Some entry)
stands [] slot entry e = cc
stands (x ∷ slots) zero entry e = ap Some e
stands (x ∷ slots) (suc slot) entry e = stands slots slot entry e

read : (slots : List (Option CacheEntry)) (slot : ℕ) (entry : CacheEntry) → slice_get slots slot ≡ Some (Some entry) → entry_in slots slot ≡ Some entry
read [] slot entry e = cc
read (x ∷ slots) zero entry e = cc
read (x ∷ slots) (suc slot) entry e = read slots slot entry e

misses : (found : Option CacheEntry) (page : ℕ) (access : Access) → ((entry : CacheEntry) → found ≡ Some entry → allows_at entry page access ≡ false) → seen_in found page access ≡ Miss
misses None page access h = refl
misses (Some entry) page access h = rw (h entry refl) refl

refuses : (entry : CacheEntry) (page : ℕ) (access : Access) → seen_in (Some entry) page access ≡ Miss → allows_at entry page access ≡ false
refuses entry page access e = go (allows_at entry page access) e
  where
    go : (b : Bool) → cond b (Hit entry.mapping.frame) Miss ≡ Miss → b ≡ false
    go true e = cc
    go false e = refl

-- an entry of another page allows nothing for this one
other_page : (entry : CacheEntry) (page : ℕ) (access : Access) → (entry.page == page) ≡ false → allows_at entry page access ≡ false
other_page entry page access e = rw e refl

pub misses_where_none_allows : (slots : List (Option CacheEntry)) (page : ℕ) (access : Access) → StandInTheirSlots slots → (look slots page access ≡ Miss) ↔ NoneAllows slots page access
misses_where_none_allows slots page access stand = (
  (λ e slot entry at. pick slot entry at e (entry.page == page) refl),
  (λ none. misses (entry_in slots (slot_of page)) page access (λ entry e. none (slot_of page) entry (stands slots (slot_of page) entry e))),
)
  where
    pick : (slot : ℕ) (entry : CacheEntry) → slice_get slots slot ≡ Some (Some entry) → look slots page access ≡ Miss → (b : Bool) → (entry.page == page) ≡ b → allows_at entry page access ≡ false
    pick slot entry at e false d = other_page entry page access d
    pick slot entry at e true d =
        let same : entry.page ≡ page = grind (arith, nat_tests, d) in
        let here : slot_of page ≡ slot = rw same at (stand slot entry at) in
        refuses entry page access (rw (here, read slots slot entry at) at e)
