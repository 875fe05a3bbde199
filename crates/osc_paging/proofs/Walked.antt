-- Where the words agree with the tables, the walk gives the kept mapping.
use Rattle.std.proofs.Common.{ℕ, zero, suc, ◌≡◌, ◌≢◌, ◌<◌, ◌≤◌, ◌%◌, ◌/◌, Bool, false, List, Option, Some, None, arith, refl, ap, ◌+◌, ◌*◌, subst}
use Rattle.std.proofs.lemmas.Option.{slice_get_within}
use Rattle.osc_sv39.specs.declared.entries.Mapping.{Mapping}
use Rattle.osc_sv39.specs.declared.entries.PteEntry.TheVariants.{Absent}
use Rattle.osc_sv39.specs.Entries.{word_of, entry_of}
use Rattle.osc_sv39.specs.Walk.{piece, word_at, walk_from, leaf_of, through}
use Rattle.osc_sv39.proofs.EntriesBack.{tables_read_back}
use Rattle.osc_paging.specs.KeptTables.{KeptTables, mapping_at, frame_of, child, page_entry, link_entry}
use Rattle.osc_paging.specs.Agree.{Agrees, ReadsAsLeaf}
use Rattle.osc_paging.proofs.TableLists.{apart-found}

-- a mapped page has a table on each level
climbs : (t : KeptTables) (free : List Bool) (words : List ℕ) (l number : ℕ) (m : Mapping) → Agrees t free words → l ≤ t.top → mapping_at t.pages number ≡ Some m → frame_of t.tables l (piece (suc l) number) ≢ None
climbs t free words zero number m g s e = g.parents zero number s (λ a. let h : page_entry (Some m) ≡ Absent = subst (λ x. page_entry x ≡ Absent) e a in cc)
climbs t free words (suc l) number m g s e = g.parents (suc l) (piece (suc l) number) s (linked _ (climbs t free words l number m g (omega arith) e))
  where
    linked : (x : Option ℕ) → x ≢ None → link_entry x ≢ Absent
    linked None h = absurd (h refl)
    linked (Some f) h = λ d. cc

page_read : (found : Option Mapping) → ((m : Mapping) → found ≡ Some m → ReadsAsLeaf m) → leaf_of (entry_of (word_of (page_entry found))) ≡ found
page_read None h = refl
page_read (Some m) h = ap leaf_of (h m refl)

unmapped : (found : Option Mapping) → ((m : Mapping) → found ≡ Some m → ⊥) → None ≡ found
unmapped None h = refl
unmapped (Some m) h = absurd (h m refl)

pub walks : (t : KeptTables) (free : List Bool) (words : List ℕ) (l number f : ℕ) → Agrees t free words → l ≤ t.top → frame_of t.tables l (piece (suc l) number) ≡ Some f → walk_from l words f number ≡ mapping_at t.pages number
unfolding walk_from
walks t free words zero number f g s e =
    let word : word_at words f (number % 512) ≡ word_of (child t 0 (number / 512 * 512 + number % 512)) = g.agree f (number % 512) _ (omega arith) (apart-found _ 0 (number / 512) f g.apart e) in
    let same : number / 512 * 512 + number % 512 ≡ number = omega arith in
    rw (word, same) (page_read (mapping_at t.pages number) (g.leaves number))
walks t free words (suc l) number f g s e =
    let q = piece (suc l) number in
    let word : word_at words f (q % 512) ≡ word_of (child t (suc l) (q / 512 * 512 + q % 512)) = g.agree f (q % 512) _ (omega arith) (apart-found _ (suc l) (q / 512) f g.apart e) in
    let same : q / 512 * 512 + q % 512 ≡ q = omega arith in
    rw (word, same) (go (frame_of t.tables l q) refl (walks t free words l number) (climbs t free words l number))
  where
    go : (x : Option ℕ) → frame_of t.tables l (piece (suc l) number) ≡ x
        → ((h : ℕ) → Agrees t free words → l ≤ t.top → frame_of t.tables l (piece (suc l) number) ≡ Some h → walk_from l words h number ≡ mapping_at t.pages number)
        → ((m : Mapping) → Agrees t free words → l ≤ t.top → mapping_at t.pages number ≡ Some m → frame_of t.tables l (piece (suc l) number) ≢ None)
        → through (entry_of (word_of (link_entry x))) (λ frame. walk_from l words frame number) ≡ mapping_at t.pages number
    go None d on up = unmapped (mapping_at t.pages number) (λ m k. up m g (omega arith) k d)
    go (Some h) d on up =
        let small : h < 4294967296 = let k = slice_get_within free h false (g.taken h _ (apart-found _ l (piece (suc l) number) h g.apart d)) in omega (arith, g.small) in
        rw (tables_read_back h small) (on h g (omega arith) d)
