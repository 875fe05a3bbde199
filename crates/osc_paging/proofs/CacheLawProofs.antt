-- The law of caches.
use Rattle.std.proofs.Common.{ℕ, zero, suc, ◌≡◌, ◌<◌, ◌==◌, Some, None, List, [], ◌∷◌, arith, refl, ap, ◌∙◌, cond, length, set, get_or}
use Rattle.std.proofs.lemmas.Bool.Decides.{nat_tests}
use Rattle.std.proofs.lemmas.List.{length-set, get_or-replicate}
use Rattle.osc_paging.specs.declared.CacheEntry.{CacheEntry}
use Rattle.osc_paging.specs.Boxes.{slot_of, entry_in, seen_in, no_entries}
use Rattle.osc_paging.specs.CacheLaws.{slots_after, latest_in, LookFindsLatest}

-- what stands at a place after a write within the list
get_or-written : {X : Type 0} (xs : List X) (i j : ℕ) (y d : X) → i < length xs → get_or (set xs i y) j d ≡ cond (i == j) y (get_or xs j d)
get_or-written [] i j y d s = absurd (omega arith)
get_or-written (x ∷ xs) zero zero y d s = refl
get_or-written (x ∷ xs) zero (suc j) y d s = grind (arith, nat_tests)
get_or-written (x ∷ xs) (suc i) zero y d s = grind (arith, nat_tests)
get_or-written (x ∷ xs) (suc i) (suc j) y d s = grind (arith, nat_tests, get_or-written xs i j y d)

-- there are always 32 slots
length-slots_after : (fills : List CacheEntry) → length (slots_after fills) ≡ 32
unfolding no_entries
length-slots_after [] = refl
length-slots_after (entry ∷ earlier) = length-set (slots_after earlier) (slot_of entry.page) _ ∙ length-slots_after earlier

found : (fills : List CacheEntry) (slot : ℕ) → slot < 32 → entry_in (slots_after fills) slot ≡ latest_in slot fills
unfolding no_entries
found [] slot s = get_or-replicate 32 slot None None s
found (entry ∷ earlier) slot s =
    let long = length-slots_after earlier in
    let within : slot_of entry.page < length (slots_after earlier) = omega arith in
    get_or-written (slots_after earlier) (slot_of entry.page) slot (Some entry) None within
    ∙ ap (cond (slot_of entry.page == slot) (Some entry)) (found earlier slot s)

pub look_finds_latest : LookFindsLatest
look_finds_latest fills page access = ap (λ x. seen_in x page access) (found fills (slot_of page) (omega arith))
