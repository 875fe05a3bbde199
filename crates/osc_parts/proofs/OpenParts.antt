-- The first memory fits.
use Rattle.std.proofs.Common.{ℕ, zero, suc, ◌-◌, ◌≡◌, ◌==◌, ◌&&◌, true, cond, Some, None, is_some, length, arith, refl, ap}
use Rattle.std.specs.Prelude.{replicate}
use Rattle.std.proofs.lemmas.Bool.Decides.{nat_tests}
use Rattle.osc_word.specs.declared.settings.HeapKind.{HeapKind}
use Rattle.osc_word.specs.declared.settings.HeapKind.TheVariants.{Oscar, Plain}
use Rattle.osc_slot.proofs.Copying.{empty_is_heap}
use Rattle.osc_space.specs.Share.{holders, no_regions}
use Rattle.osc_space.specs.Agree.{HeapAgrees}
use Rattle.osc_parts.specs.OpenLaws.{opened_space, OpeningFits}

length_replicate : (n : ℕ) → length {A = ℕ} (replicate n 0) ≡ n
length_replicate zero = refl
length_replicate (suc n) = ap suc (length_replicate n)

none_held : (n f : ℕ) → holders (no_regions n) f ≡ 0
none_held zero f = grind (arith, nat_tests)
none_held (suc n) zero = refl
none_held (suc n) (suc f) = none_held n f

no_objects : (kind : HeapKind) (levels frames shadows root : ℕ) → HeapAgrees kind (opened_space levels frames shadows root)
no_objects Oscar levels frames shadows root = record {
  granted = tt;
  limit = omega arith;
  canonical = λ q c. refl;
  shadows = λ q c. refl;
  held = λ a o k. absurd (let e = k.0 in let z : ⊥ = grind (arith, e) in z);
  own = λ a b o p k l e. absurd (let f = k.0 in let z : ⊥ = grind (arith, f) in z);
  backed = λ b h. absurd (let z : ⊥ = grind (arith, h) in z);
  pages = λ a o k. absurd (let e = k.0 in let z : ⊥ = grind (arith, e) in z);
  mapped = λ a i o l m. absurd (let e = l.0 in let z : ⊥ = grind (arith, e) in z);
  small = λ a o l. absurd (let e = l.0 in let z : ⊥ = grind (arith, e) in z);
  waiting = record {
    few = omega arith;
    apart = tt;
    known = λ a w. absurd (let z : ⊥ = grind (arith, w) in z);
    dead = λ a o w e. absurd (let z : ⊥ = grind (arith, w) in z);
    linked = λ a q o w e h. absurd (let z : ⊥ = grind (arith, w) in z);
  };
}
no_objects Plain levels frames shadows root = record { objects = refl; waiting = refl; shadows = λ q c. refl; canonical = λ q c. refl }

pub opening_fits : OpeningFits
opening_fits kind batch levels shadows root free l some few limit taken = record {
  agrees = record {
    frames = refl;
    count = refl;
    room = refl;
    root = (let t : (levels - 1 == levels - 1) ≡ true = grind (arith, nat_tests) in ap (λ b. is_some (cond (b && true) (Some root) None)) t);
    aside = refl;
    heap = no_objects kind levels (length free) shadows root;
    shared = record {
      count = length_replicate (length free);
      first = λ q s. grind (arith, nat_tests, s);
      held = λ q m s e. absurd (let z : ⊥ = grind (arith, e) in z);
      unheld = λ f e. none_held (length free) f;
    };
    ranges = λ q e. absurd (let z : ⊥ = grind (arith, e) in z);
    apart = (refl, tt);
    taken = (taken, tt);
  };
  heap = empty_is_heap (length free);
  levels = omega (arith, l);
  shadows = limit;
  few = few;
  waits = some;
  private = λ f m. none_held (length free) f;
}
