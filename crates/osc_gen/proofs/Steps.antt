-- What a round adds to a program, what is left after the last, and the file that an assembler gives.
use Rattle.std.proofs.Common.{ℕ, zero, suc, ◌≡◌, ◌+◌, ◌-◌, ◌<◌, ◌≤◌, arith, refl, sym, ◌∙◌, ap, List, [], ◌∷◌, ◌++◌, append_assoc, append-nil, get_or, slice_get, slice_set, Option, Some, None, Ok}
use Rattle.osc_asm.specs.declared.AsmFault.{AsmFault}
use Rattle.osc_asm.specs.declared.item.Item.{Item}
use Rattle.osc_asm.specs.Program.{Program, with_code, joined}
use Rattle.osc_asm.specs.File.{file, file_of, refused_or, fault_of}
use Rattle.osc_gen.specs.declared.draw.Draw.{Draw}
use Rattle.osc_gen.specs.Draws.{next, draw, chain}
use Rattle.osc_gen.specs.Guest.{Sizes, round_code, left_by, rounds}

-- ---- a round more

more : (p : Program) (a b : List Item) → with_code (with_code p a) b ≡ with_code p (a ++ b)
more p a b = ap (λ code. record p { code = code }) (append_assoc p.code a b)

held-at : (sizes : Sizes) (pointer : ℕ) → joined (slice_get sizes pointer) ≡ get_or sizes pointer None
held-at [] zero = refl
held-at [] (suc pointer) = refl
held-at (size ∷ sizes) zero = refl
held-at (size ∷ sizes) (suc pointer) = held-at sizes pointer

draws-left : (round last : ℕ) → round < 1000 → chain (1000 - round) last ≡ draw (next last) ∷ chain (1000 - (round + 1)) (next last)
unfolding chain
draws-left round last h =
    let e : 1000 - round ≡ suc (1000 - (round + 1)) = omega arith in ap (λ count. chain count last) e

first-round : (p : Program) (round : ℕ) (sizes : Sizes) (d : Draw) (ds : List Draw) (size : Option ℕ) → joined (slice_get sizes d.pointer) ≡ size
    → with_code (with_code p (round_code round d size)) (rounds (round + 1) (slice_set sizes d.pointer (left_by d size)) ds)
    ≡ with_code p (rounds round sizes (d ∷ ds))
unfolding rounds
first-round p round sizes d ds size is =
    more p (round_code round d size) (rounds (round + 1) (slice_set sizes d.pointer (left_by d size)) ds)
    ∙ ap (λ held. with_code p (round_code round d held ++ rounds (round + 1) (slice_set sizes d.pointer (left_by d held)) ds)) (sym is)

pub round-more : (p after target : Program) (round : ℕ) (sizes : Sizes) (last now : ℕ) (d : Draw) (left : Option ℕ) → round < 1000
    → now ≡ next last → d ≡ draw now → after ≡ with_code p (round_code round d (get_or sizes d.pointer None))
    → left ≡ left_by d (get_or sizes d.pointer None) → with_code p (rounds round sizes (chain (1000 - round) last)) ≡ target
    → with_code after (rounds (round + 1) (slice_set sizes d.pointer left) (chain (1000 - (round + 1)) now)) ≡ target
round-more p after target round sizes last now d left h follows drawn given kept before =
    let draws : d ∷ chain (1000 - (round + 1)) now ≡ chain (1000 - round) last = rw (drawn, follows) (sym (draws-left round last h)) in
    rw (given, kept)
    (first-round p round sizes d (chain (1000 - (round + 1)) now) (get_or sizes d.pointer None) (held-at sizes d.pointer)
    ∙ (ap (λ ds. with_code p (rounds round sizes ds)) draws ∙ before))

-- ---- after the last

none-left : (round : ℕ) (sizes : Sizes) (last : ℕ) → rounds round sizes (chain 0 last) ≡ []
unfolding rounds chain
none-left round sizes last = refl

pub round-last : (p target : Program) (round : ℕ) (sizes : Sizes) (last : ℕ) → 1000 ≤ round
    → with_code p (rounds round sizes (chain (1000 - round) last)) ≡ target → p ≡ target
round-last p target round sizes last h before =
    let e : 1000 - round ≡ 0 = omega arith in
    let all : with_code p (rounds round sizes (chain (1000 - round) last)) ≡ p =
    ap (λ count. with_code p (rounds round sizes (chain count last))) e
    ∙ (ap (with_code p) (none-left round sizes last) ∙ ap (λ code. record p { code = code }) (append-nil p.code)) in
    sym all ∙ before

-- ---- the file

refused-ok : (fault : Option AsmFault) (said given : List ℕ) → refused_or fault said ≡ Ok given → given ≡ said
refused-ok None said given is = grind arith
refused-ok (Some fault) said given is = grind arith

pub file-given : (p : Program) (given : List ℕ) → file_of p ≡ Ok given → given ≡ file p
unfolding file_of
file-given p given is = refused-ok (fault_of p) (file p) given is
