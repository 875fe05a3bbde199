-- Owners after a grant and after a death.
use Rattle.std.proofs.Common.{ℕ, ◌+◌, ◌≡◌, Bool, true, false, List, [], ◌∷◌, ◌++◌, Some, length, get_or, arith, refl, sym, ap, ◌∙◌}
use Rattle.std.specs.Prelude.{position, if◌then◌else◌}
use Rattle.std.specs.List.{position_or_len}
use Rattle.std.proofs.lemmas.Bool.Decides.{nat_tests}
use Rattle.std.proofs.lemmas.Grind.{common_steps}
use Rattle.std.proofs.lemmas.List.Folds.{position_or_len-set, position_or_len_push}
use Rattle.osc_space.specs.declared.ObjectFact.{ObjectFact}
use Rattle.osc_word.specs.AddressMap.{first_shadow_page, is_within}
use Rattle.osc_space.specs.Objects.{AreGranted, grant, granted_at, has_page, kill, killed, next_object, next_page}
use Rattle.osc_mark.specs.OwnerLaws.{OwnersStay}
use Rattle.osc_mark.proofs.ObjectPlaces.{lies, no_object, owner_is, none_before}
use Rattle.osc_mark.proofs.Changes.{kill-set, lives-within}

new_owner : (o : ObjectFact) (q : ℕ) (os : List ObjectFact) → AreGranted os → o.first ≡ next_page os
    → position (has_page q) (os ++ o ∷ []) ≡ (if has_page q o then Some (length os) else position (has_page q) os)
new_owner o q os g f = go (has_page q o) refl
  where
    go : (b : Bool) → has_page q o ≡ b → position (has_page q) (os ++ o ∷ []) ≡ (if has_page q o then Some (length os) else position (has_page q) os)
    go true e =
        let short = none_before (has_page q) os no_object (λ k s. let l = lies first_shadow_page os k no_object g s in grind (arith, nat_tests, e, f, l.to)) in
        let push = rw short at (position_or_len_push (has_page q) os o) in
        let long : length (os ++ o ∷ []) ≡ length os + 1 = grind (arith, common_steps) in
        let at : position_or_len (has_page q) (os ++ o ∷ []) ≡ length os = grind (arith, nat_tests, push, e) in
        rw (e, at, long) (grind (arith, nat_tests))
    go false e =
        let push = position_or_len_push (has_page q) os o in
        rw e (grind (arith, nat_tests, common_steps, push, e))

pub owners_stay : OwnersStay
owners_stay = record {
  granted = λ pages size canon page objects g.
      owner_is page (grant pages size canon objects) ∙ new_owner (granted_at (next_page objects) pages size canon) page objects g refl
      ∙ ap (λ rest. if is_within (next_page objects) (next_page objects + pages) page then Some (next_object objects) else rest) (sym (owner_is page objects));
  killed = λ object call page objects e.
      let within = lives-within object objects e in
      let here = kill-set object call objects no_object within in
      let same = position_or_len-set (has_page page) objects object (killed call (get_or objects object no_object)) no_object refl in
      owner_is page (kill object call objects) ∙ (let p : position (has_page page) (kill object call objects) ≡ position (has_page page) objects = rw here (grind (arith, nat_tests, common_steps, same)) in p) ∙ sym (owner_is page objects);
}
