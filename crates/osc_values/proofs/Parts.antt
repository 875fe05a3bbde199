-- The parts of a pointer, from the first byte to the last.
use Rattle.std.proofs.Common.{◌≡◌, ◌≢◌, ℕ, ◌+◌, ◌-◌, ◌<◌, min, take, Bool, true, false, ◌&&◌, List, [], ◌∷◌, refl, ap, sym, ◌∙◌, arith, drop, length, get_or}
use Rattle.std.proofs.lemmas.Bool.Decides.{nat_tests}
use Rattle.std.proofs.lemmas.List.{drop_more, drop_all, drop_min, take_min, length-drop}
use Rattle.osc_world.specs.declared.Byte.{Byte}
use Rattle.osc_world.specs.Values.{is_part, are_parts}

and-false : (b : Bool) → (b && false) ≡ false
and-false true = refl
and-false false = refl

are_parts-far : (object offset index : ℕ) (bytes : List Byte) → index + length bytes ≢ 8 → are_parts object offset index bytes ≡ false
unfolding are_parts
are_parts-far object offset index [] far = grind (arith, nat_tests)
are_parts-far object offset index (byte ∷ bytes) far =
    let rest : are_parts object offset (index + 1) bytes ≡ false = are_parts-far object offset (index + 1) bytes (λ e. far (omega arith)) in
    rw rest (and-false (is_part object offset index byte))

-- fewer or more bytes than eight are no pointer
pub are_parts-length : (object offset : ℕ) (bytes : List Byte) → length bytes ≢ 8 → false ≡ are_parts object offset 0 bytes
are_parts-length object offset bytes far = sym (are_parts-far object offset 0 bytes (λ e. far (omega (arith, e))))

-- one part was looked at
pub are_parts-next : (object offset index : ℕ) (bytes : List Byte) (d : Byte) → index < length bytes → is_part object offset index (get_or bytes index d) ≡ true
    → are_parts object offset index (drop index bytes) ≡ are_parts object offset (index + 1) (drop (index + 1) bytes)
unfolding are_parts
are_parts-next object offset index bytes d inside here = rw (drop_more bytes index d inside, here) refl

pub are_parts-other : (object offset index : ℕ) (bytes : List Byte) (d : Byte) → index < length bytes → is_part object offset index (get_or bytes index d) ≡ false
    → are_parts object offset index (drop index bytes) ≡ false
unfolding are_parts
are_parts-other object offset index bytes d inside here = rw (drop_more bytes index d inside, here) refl

pub are_parts-end : (object offset index : ℕ) (bytes : List Byte) → length bytes ≡ 8 → index ≡ 8 → are_parts object offset index (drop index bytes) ≡ true
unfolding are_parts
are_parts-end object offset index bytes eight all = rw (all, drop_all 8 bytes (omega (arith, eight))) refl

-- a part of a list, by places that lie in it
pub take_part : (bytes : List Byte) (offset width from to : ℕ) → from ≡ min offset (length bytes) → to ≡ min (length bytes) (from + width)
    → take (to - from) (drop from bytes) ≡ take width (drop offset bytes)
take_part bytes offset width from to first last =
    let same : drop from bytes ≡ drop offset bytes = ap (λ n. drop n bytes) first ∙ drop_min offset bytes in
    let left = length-drop from bytes in
    let count : to - from ≡ min width (length (drop from bytes)) = rw left (omega (arith, first, last)) in
    ap (λ n. take n (drop from bytes)) count ∙ take_min width (drop from bytes) ∙ ap (take width) same
