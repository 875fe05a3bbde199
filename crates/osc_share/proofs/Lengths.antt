-- How many jobs a mapping pushes, and how many pages it adds.
use Rattle.std.proofs.Common.{ℕ, zero, suc, ◌≡◌, ◌≤◌, ◌/◌, ◌+◌, ◌*◌, Option, Some, None, List, [], ◌∷◌, cond, Bool, true, false, nat_lt, length, arith, refl, ap, ◌∙◌, length-append}
use Rattle.osc_sv39.specs.declared.entries.Mapping.{Mapping}
use Rattle.osc_sv39.specs.Walk.{piece}
use Rattle.osc_paging.specs.declared.Mapped.{Mapped}
use Rattle.osc_paging.specs.KeptTables.{frame_of}
use Rattle.osc_paging.specs.TableChanges.{Changed, linked, link, link_all, leaf_put, map_page, with_page}
use Rattle.osc_paging.proofs.Needed.{link_all-pages}

-- the jobs are at most so many more, and the room for pages stays
pub record Pushes (most : ℕ) (c d : Changed) : Type 0 where
  pub jobs : length d.jobs ≤ length c.jobs + most
  pub room : d.tables.room ≡ c.tables.room

linked_pushes : (l n : ℕ) (a b p : Option ℕ) (c : Changed) → Pushes 2 c (linked l n a b p c)
linked_pushes l n (Some f) b p c = record { jobs = omega arith; room = refl }
linked_pushes l n None None p c = record { jobs = omega arith; room = refl }
linked_pushes l n None (Some q) None c = record { jobs = omega arith; room = refl }
linked_pushes l n None (Some q) (Some f) c = record { jobs = (let e = length-append c.jobs ((linked l n None (Some q) (Some f) (record c { jobs = [] })).jobs) in omega (arith, e)); room = refl }

link_all_pushes : (l n : ℕ) (c : Changed) → Pushes (2 * l) c (link_all l n c)
unfolding link_all
link_all_pushes zero n c = record { jobs = omega arith; room = refl }
link_all_pushes (suc l) n c =
    let one : Pushes 2 c (link l (piece (suc l) n) c) = linked_pushes l (piece (suc l) n) _ _ _ c in
    let on = link_all_pushes l n (link l (piece (suc l) n) c) in
    let a = one.jobs in
    let b = on.jobs in
    record { jobs = omega (arith, a, b); room = on.room ∙ one.room }

put_pushes : (n : ℕ) (m : Mapping) (x : Option ℕ) (c : Changed) → Pushes 1 c (leaf_put n m x c)
put_pushes n m None c = record { jobs = omega arith; room = refl }
put_pushes n m (Some t) c = record { jobs = (let e = length-append c.jobs ((leaf_put n m (Some t) (record c { jobs = [] })).jobs) in omega (arith, e)); room = refl }

pub map_pushes : (n : ℕ) (m : Mapping) (c : Changed) → Pushes (2 * c.tables.top + 1) c (map_page n m c)
map_pushes n m c =
    let d = link_all c.tables.top n c in
    let one = link_all_pushes c.tables.top n c in
    let put = put_pushes n m (frame_of d.tables.tables 0 (n / 512)) d in
    let a = one.jobs in
    let b = put.jobs in
    record { jobs = omega (arith, a, b); room = put.room ∙ one.room }

-- ---- pages
length-with_page : (n : ℕ) (m : Mapping) (ms : List Mapped) → length (with_page n m ms) ≡ suc (length ms)
length-with_page n m [] = refl
length-with_page n m (x ∷ ms) = go (nat_lt x.number n) (length-with_page n m ms)
  where
    new : Mapped
    new = record { number = n; mapping = m }

    go : (b : Bool) → length (with_page n m ms) ≡ suc (length ms) → length (cond b (x ∷ with_page n m ms) (new ∷ x ∷ ms)) ≡ suc (suc (length ms))
    go true e = ap suc e
    go false e = refl

put_pages : (n : ℕ) (m : Mapping) (x : Option ℕ) (c : Changed) → length (leaf_put n m x c).tables.pages ≤ suc (length c.tables.pages)
put_pages n m None c = omega arith
put_pages n m (Some t) c = let e = length-with_page n m c.tables.pages in omega (arith, e)

pub map_pages_more : (n : ℕ) (m : Mapping) (c : Changed) → length (map_page n m c).tables.pages ≤ suc (length c.tables.pages)
map_pages_more n m c =
    let d = link_all c.tables.top n c in
    let put = put_pages n m (frame_of d.tables.tables 0 (n / 512)) d in
    let same = ap length (link_all-pages c.tables.top n c) in
    omega (arith, put, same)
