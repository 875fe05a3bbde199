-- So many tables as the journal tells are there.
use Rattle.std.proofs.Common.{ℕ, zero, suc, ◌+◌, ◌-◌, ◌*◌, ◌/◌, ◌≡◌, ◌<◌, ◌≤◌, ◌==◌, ◌&&◌, ◌||◌, nat_le, nat_lt, not, Bool, true, false, is_some, List, ◌++◌, length, filter, arith, refl, sym, ap, subst, ◌∙◌}
use Rattle.std.specs.List.{list_any, range_with_len}
use Rattle.std.proofs.lemmas.Bool.Decides.{nat_tests}
use Rattle.osc_word.specs.AddressMap.{first_shared_page, first_shadow_page}
use Rattle.osc_sv39.specs.Walk.{piece}
use Rattle.osc_image.specs.Frames.{stack_pages, tables_below}
use Rattle.osc_paging.specs.KeptTables.{KeptTables, frame_of}
use Rattle.osc_paging.specs.Agree.{Apart}
use Rattle.osc_space.specs.Objects.{mark, next_page, leaf_given_up}
use Rattle.osc_settled.proofs.Different.{is_among}
use Rattle.osc_machine.specs.Replay.{Ledger}
use Rattle.osc_machine.specs.Refusals.{Setting, region_pages, ever_mapped}
use Rattle.osc_ledger.specs.Tables.{has_piece, TablesTold}
use Rattle.osc_tabled.specs.Counts.{TablesAreCounted}
use Rattle.osc_tabled.proofs.EverMapped.{ever-granted}
use Rattle.osc_tabled.proofs.Members.{among-passing, apart-passing, any-within}
use Rattle.osc_tabled.proofs.Counted.{AreOver, counted}

both-hold : (a b c d : Bool) → (((a && b) && c) && d) ≡ true → (a ≡ true) × (b ≡ true)
both-hold true true c d e = (refl, refl)
both-hold true false c d e = absurd (let z : ⊥ = grind (arith, e) in z)
both-hold false b c d e = absurd (let z : ⊥ = grind (arith, e) in z)

no-leaf : (b : Bool) → (b && not false) ≡ b
no-leaf true = refl
no-leaf false = refl

module _ (s : Setting) (l : Ledger) where
  abbrev given : ℕ → Bool
  given leaf = leaf_given_up l.objects l.waiting leaf

  abbrev gone : List ℕ
  gone = filter given (range_with_len (first_shadow_page / 512) (mark l.objects / 512))

  -- a leaf table that was given up is over shadow pages that were all granted
  record Over (leaf : ℕ) : Type 0 where
    low : first_shadow_page ≤ 512 * leaf
    high : 512 * leaf + 512 ≤ first_shadow_page + mark l.objects

  over : (leaf : ℕ) → given leaf ≡ true → Over leaf
  over leaf e =
      let b = both-hold (nat_le first_shadow_page (512 * leaf)) (nat_le (512 * leaf + 512) (next_page l.objects)) _ _ e in
      let low = b.0 in let high = b.1 in
      record { low = grind (arith, nat_tests, low); high = grind (arith, nat_tests, high) }

  gone-is : (leaf : ℕ) → is_among leaf gone ≡ given leaf
  gone-is leaf = among-passing given leaf (first_shadow_page / 512) (mark l.objects / 512) ∙ go (given leaf) refl
    where
      go : (b : Bool) → given leaf ≡ b → (b && (nat_le (first_shadow_page / 512) leaf && nat_lt leaf (first_shadow_page / 512 + mark l.objects / 512))) ≡ b
      go false e = refl
      go true e =
          let o = over leaf e in let low = o.low in let high = o.high in
          let first : first_shadow_page / 512 ≤ leaf = omega (arith, low) in
          let last : leaf < first_shadow_page / 512 + mark l.objects / 512 = omega (arith, low, high) in
          grind (arith, nat_tests, first, last)

  ever-has : (leaf : ℕ) → given leaf ≡ true → has_piece 0 leaf (ever_mapped s l) ≡ true
  ever-has leaf e =
      let o = over leaf e in let low = o.low in let high = o.high in
      let whole : (512 * leaf) / 512 ≡ leaf = omega arith in
      let within : list_any (λ page. piece 1 page == leaf) (range_with_len first_shadow_page (mark l.objects)) ≡ true =
      any-within (λ page. piece 1 page == leaf) (512 * leaf) first_shadow_page (mark l.objects) low (omega (arith, high)) (let z : ((512 * leaf) / 512 == leaf) ≡ true = grind (arith, nat_tests, whole) in z) in
      ever-granted (λ page. piece 1 page == leaf) s l within

  are-over : (t : KeptTables) → 0 < t.top → TablesTold s l t → AreOver (ever_mapped s l) gone t.top t.tables
  are-over t deep told = record {
    leaves = λ n. told.below 0 n deep ∙ ap (λ b. has_piece 0 n (ever_mapped s l) && not b) (sym (gone-is n));
    gone_over = λ n e. ever-has n (sym (gone-is n) ∙ e);
    gone_apart = apart-passing given (first_shadow_page / 512) (mark l.objects / 512);
    between = λ level n less. (let z : (suc level == 0) ≡ false = grind (arith, nat_tests) in
        told.below (suc level) n less ∙ ap (λ b. has_piece (suc level) n (ever_mapped s l) && not (b && given n)) z ∙ no-leaf (has_piece (suc level) n (ever_mapped s l)));
    above = told.above;
  }

pub tables_are_counted : TablesAreCounted
tables_are_counted s l t deep apart told =
    let levels = told.levels in
    let top : s.config.levels - 1 ≡ t.top = omega (arith, levels) in
    let all = counted (ever_mapped s l) (gone s l) t.top t.tables deep apart (are-over s l t deep told) in
    let same = ap (λ n. tables_below n (ever_mapped s l)) top in
    omega (arith, all, same)
