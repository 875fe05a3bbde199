-- Steps of the links from the top.
use Rattle.std.proofs.Common.{ℕ, zero, suc, ◌≡◌, ◌<◌, ◌-◌, arith, refl}
use Rattle.osc_sv39.specs.Walk.{piece}
use Rattle.osc_paging.specs.TableChanges.{Changed, link, link_all}

pub link_all-step : (l number : ℕ) (c : Changed) → 0 < l → link_all l number c ≡ link_all (l - 1) number (link (l - 1) (piece l number) c)
unfolding link_all
link_all-step zero number c s = absurd (omega arith)
link_all-step (suc l) number c s = let e : suc l - 1 ≡ l = omega arith in rw e refl

pub link_all-none : (l number : ℕ) (c : Changed) → l ≡ 0 → link_all l number c ≡ c
unfolding link_all
link_all-none zero number c e = refl
link_all-none (suc l) number c e = absurd (omega arith)
