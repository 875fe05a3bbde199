-- The blocks of objects, one object after another.
use Rattle.std.proofs.Common.{ℕ, suc, ◌+◌, ◌≡◌, ◌<◌, Option, Some, None, List, [], ◌∷◌, ◌++◌, refl, ap, sym, subst, ◌∙◌, take, length, get_or, map}
use Rattle.std.proofs.Math.Seq.{take-suc}
use Rattle.std.proofs.lemmas.List.{append-nil, map-append}
use Rattle.std.proofs.lemmas.List.Elements.{filter_map-append}
use Rattle.osc_space.specs.declared.ObjectFact.{ObjectFact}
use Rattle.osc_space.specs.Objects.{fact, facts}
use Rattle.osc_space.specs.Header.{block_of}
use Rattle.osc_process.specs.Given.{blocks_of}

more : (objects : List ObjectFact) (numbers : List ℕ) (i : ℕ) → i < length numbers
    → blocks_of objects (take (suc i) numbers) ≡ blocks_of objects (take i numbers) ++ map block_of (facts objects (get_or numbers i 0 ∷ []))
more objects numbers i l =
    ap (λ xs. blocks_of objects xs) (take-suc numbers i 0 l)
    ∙ ap (map block_of) (filter_map-append (fact objects) (take i numbers) (get_or numbers i 0 ∷ []))
    ∙ map-append block_of (facts objects (take i numbers)) (facts objects (get_or numbers i 0 ∷ []))

pub one_more : (objects : List ObjectFact) (numbers : List ℕ) (i j : ℕ) (o : ObjectFact) → i < length numbers → j ≡ suc i → fact objects (get_or numbers i 0) ≡ Some o
    → blocks_of objects (take j numbers) ≡ blocks_of objects (take i numbers) ++ block_of o ∷ []
one_more objects numbers i j o l e f = ap (λ k. blocks_of objects (take k numbers)) e ∙ more objects numbers i l ∙ rw f refl

pub none_more : (objects : List ObjectFact) (numbers : List ℕ) (i j : ℕ) → i < length numbers → j ≡ suc i → fact objects (get_or numbers i 0) ≡ None
    → blocks_of objects (take j numbers) ≡ blocks_of objects (take i numbers)
none_more objects numbers i j l e f = ap (λ k. blocks_of objects (take k numbers)) e ∙ more objects numbers i l ∙ rw f (append-nil (blocks_of objects (take i numbers)))
