-- The last page of the address space is never mapped.
use Rattle.std.proofs.Common.{ℕ, zero, suc, ◌-◌, ◌^◌, ◌≡◌, ◌≤◌, Bool, true, false, Option, Some, None, is_some, arith, refl, ap, sym, ◌∙◌, subst}
use Rattle.osc_word.specs.AddressMap.{is_in_map}
use Rattle.osc_sv39.specs.declared.entries.Mapping.{Mapping}
use Rattle.osc_paging.specs.declared.Mapped.{Mapped}
use Rattle.osc_paging.specs.KeptTables.{KeptTables, levels_of, mapping_at, mapping_of}

nowhere : (o : Option Mapping) (b : Bool) → (is_some o ≡ true → b ≡ true) → b ≡ false → o ≡ None
nowhere None b h e = refl
nowhere (Some m) b h e = absurd (let z = h refl in let w : ⊥ = grind (arith, z, e) in w)

by_top : (t : KeptTables) (top : ℕ) → t.top ≡ top → 2 ≤ top → top ≤ 3 → ((page : ℕ) → is_some (mapping_at t.pages page) ≡ true → is_in_map page ≡ true) → mapping_of t (2 ^ 52 - 1) ≡ None
by_top t zero e l m ranges = absurd (omega arith)
by_top t (suc zero) e l m ranges = absurd (omega arith)
by_top t (suc (suc zero)) e l m ranges = rw e (nowhere (mapping_at t.pages 134217727) (is_in_map 134217727) (ranges 134217727) refl)
by_top t (suc (suc (suc zero))) e l m ranges = rw e (nowhere (mapping_at t.pages 68719476735) (is_in_map 68719476735) (ranges 68719476735) refl)
by_top t (suc (suc (suc (suc top)))) e l m ranges = absurd (omega arith)

pub last_unmapped : (t : KeptTables) → 2 ≤ t.top → t.top ≤ 3 → ((page : ℕ) → is_some (mapping_at t.pages page) ≡ true → is_in_map page ≡ true) → mapping_of t (2 ^ 52 - 1) ≡ None
last_unmapped t l m ranges = by_top t t.top refl l m ranges
