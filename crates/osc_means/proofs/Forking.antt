-- A forked child shows at its own addresses what its parent shows.
use Rattle.std.proofs.Common.{ℕ, zero, suc, ◌≡◌, ◌≢◌, ◌<◌, ◌≤◌, ◌==◌, ◌+◌, ◌*◌, Bool, true, false, cond, ◌&&◌, List, [], ◌∷◌, ◌++◌, Option, Some, None, option_map, arith, refl, ap, sym, subst, ◌∙◌, ◌⊎◌, inl, inr, slice_get, length, map}
use Rattle.std.proofs.lemmas.Bool.Decides.{nat_tests}
use Rattle.std.proofs.lemmas.Option.{slice_get_within}
use Rattle.std.specs.Prelude.{slice_index}
use Rattle.std.specs.List.{list_all, find}
use Rattle.byteorder.specs.Endian.{little_bytes}
use Rattle.osc_isa.specs.Numbers.{wrapped}
use Rattle.osc_world.specs.declared.Value.{Value}
use Rattle.osc_world.specs.declared.Value.TheVariants.{Num, Ptr}
use Rattle.osc_world.specs.declared.Byte.{Byte}
use Rattle.osc_world.specs.declared.Byte.TheVariants.{Number, Part}
use Rattle.osc_world.specs.World.{Memory, Object, Live, Dead, Page}
use Rattle.osc_world.specs.Accesses.{memory_page}
use Rattle.osc_world.specs.PlainWorld.{Flat}
use Rattle.osc_world.specs.Knows.{is_known, is_known_byte, knows_page, knows_object, knows_memory}
use Rattle.osc_world.proofs.Known.{all-at, and-left, and-right}
use Rattle.osc_means.specs.Shown.{shown, shown_byte, Laid, Mirrors, block_for}
use Rattle.osc_means.proofs.Rows.{map-same}

-- two places agree on so many objects
abbrev pub Agree : ℕ → (ℕ → ℕ) → (ℕ → ℕ) → Type 0
Agree count f g = (o : ℕ) → o < count → f o ≡ g o

pub value-agrees : (f g : ℕ → ℕ) (count : ℕ) (v : Value) → Agree count f g → is_known count v ≡ true → shown f v ≡ shown g v
value-agrees f g count (Num n) a e = refl
value-agrees f g count (Ptr o k) a e = let s : f o ≡ g o = a o (grind (arith, nat_tests, e)) in rw s refl

byte-agrees : (f g : ℕ → ℕ) (count : ℕ) (b : Byte) → Agree count f g → is_known_byte count b ≡ true → shown_byte f b ≡ shown_byte g b
byte-agrees f g count (Number n) a e = refl
byte-agrees f g count (Part o k i) a e = let s : f o ≡ g o = a o (grind (arith, nat_tests, e)) in ap (λ x. slice_index (little_bytes 8 (wrapped (x + k))) i) s

pub regs-agree : (f g : ℕ → ℕ) (count : ℕ) (regs : List Value) → Agree count f g → list_all (is_known count) regs ≡ true → map (shown f) regs ≡ map (shown g) regs
regs-agree f g count regs a e = map-same (shown f) (shown g) regs (λ i v h. value-agrees f g count v a (all-at (is_known count) regs i v e h))

found-all : (p q : Page → Bool) (pages : List Page) (page : Page) → list_all p pages ≡ true → find q pages ≡ Some page → p page ≡ true
found-all p q [] page a e = absurd (cc)
found-all p q (x ∷ pages) page a e = by (q x) e (found-all p q pages page (and-right (p x) (list_all p pages) a))
  where
    by : (t : Bool) → cond t (Some x) (find q pages) ≡ Some page → (find q pages ≡ Some page → p page ≡ true) → p page ≡ true
    by true f later = let s : x ≡ page = cc in subst (λ z. p z ≡ true) s (and-left (p x) (list_all p pages) a)
    by false f later = later f

pub forked : (frames : ℕ) (f g : ℕ → ℕ) (m : Memory) (z : Flat) → knows_memory m ≡ true → Agree (length m.objects) f g → Mirrors frames f m z → Mirrors frames g m z
forked frames f g m z k a s = record {
  machine = s.machine;
  pages = λ n i page b e h.
      let all = found-all (knows_page (length m.objects)) (λ (p : Page). p.number == n) m.pages page pages e in
      s.pages n i page b e h ∙ byte-agrees f g (length m.objects) b a (all-at (is_known_byte (length m.objects)) page.bytes i b all h);
  low = s.low;
  whole = s.whole;
  bytes = λ o i bs b e h.
      let all = all-at (knows_object (length m.objects)) m.objects o (Live bs) objects e in
      ap (λ x. z.bytes (x + i)) (sym (at o (Live bs) e)) ∙ s.bytes o i bs b e h ∙ byte-agrees f g (length m.objects) b a (all-at (is_known_byte (length m.objects)) bs i b all h);
  laid = record {
    above = λ o x e. rw (← at o x e) (s.laid.above o x e);
    below = λ o x e. rw (← at o x e) (s.laid.below o x e);
    even = λ o x e. rw (← at o x e) (s.laid.even o x e);
    apart = λ o q x y e h n. rw (← at o (Live x) e, ← at q (Live y) h) (s.laid.apart o q x y e h n);
  };
  held = λ o bs e. rw (← at o (Live bs) e) (s.held o bs e);
  sizes = λ o bs e. rw (← at o (Live bs) e) (s.sizes o bs e);
  placed = s.placed;
  given = s.given;
}
  where
    at : (o : ℕ) (x : Object) → slice_get m.objects o ≡ Some x → f o ≡ g o
    at o x e = a o (slice_get_within m.objects o x e)

    pages : list_all (knows_page (length m.objects)) m.pages ≡ true
    pages = and-left (list_all (knows_page (length m.objects)) m.pages) (list_all (knows_object (length m.objects)) m.objects) k

    objects : list_all (knows_object (length m.objects)) m.objects ≡ true
    objects = and-right (list_all (knows_page (length m.objects)) m.pages) (list_all (knows_object (length m.objects)) m.objects) k
