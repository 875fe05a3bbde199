-- The least page that can be written and executed.
use Rattle.std.proofs.Common.{ℕ, ◌≡◌, ◌<◌, ◌≤◌, arith, true, false, List, Some, None, inl, inr, refl}
use Rattle.std.proofs.lemmas.Bool.{cases_lt}
use Rattle.osc_sv39.specs.declared.entries.Access.{Access}
use Rattle.osc_sv39.specs.declared.entries.Access.TheVariants.{Fetch, Store}
use Rattle.osc_image.specs.Image.{Segment, page_permits, page_limit}
use Rattle.osc_image.specs.Form.{is_write_exec, write_exec_below}
use Rattle.osc_elf.proofs.Ranges.{find-some, find-none}
use Rattle.osc_elf.proofs.Counting.{page_limit-is}

pub write_exec-found : (segments : List Segment) (page limit : ℕ) → page < limit → limit ≤ 1048576
    → ((k : ℕ) → k < page → is_write_exec segments k ≡ false) → page_permits segments Store page ≡ true
    → page_permits segments Fetch page ≡ true → write_exec_below segments page_limit ≡ Some page
unfolding write_exec_below
write_exec-found segments page limit inside low none writes executes =
    let both : is_write_exec segments page ≡ true = rw (writes, executes) refl in
    find-some (is_write_exec segments) 0 page_limit page (omega arith) (omega (arith, page_limit-is)) (λ k above below. none k below) both

pub write_exec-none : (segments : List Segment) (page limit : ℕ) → page ≡ limit
    → ((access : Access) (k : ℕ) → limit ≤ k → page_permits segments access k ≡ false)
    → ((k : ℕ) → k < page → is_write_exec segments k ≡ false) → write_exec_below segments page_limit ≡ None
unfolding write_exec_below
write_exec-none segments page limit end beyond none =
    find-none (is_write_exec segments) 0 page_limit (λ k above below.
    elim (cases_lt k page) [ inl early ↦ none k early | inr late ↦ rw (beyond Store k (omega arith)) refl ])
