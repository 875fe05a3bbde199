-- A change of one process's tables keeps what agrees with another's.
use Rattle.std.proofs.Common.{ℕ, zero, suc, ◌≡◌, ◌≢◌, ◌<◌, ◌==◌, ◌%◌, ◌/◌, inl, inr, ⊎_elim, Bool, true, false, cond, List, [], ◌∷◌, ◌++◌, Option, Some, None, arith, refl, sym, ◌∙◌, subst, set, slice_get, position}
use Rattle.std.proofs.lemmas.Bool.Decides.{nat_tests}
use Rattle.std.proofs.lemmas.List.{length-set}
use Rattle.osc_word.specs.declared.job_list.Job.{Job}
use Rattle.osc_sv39.specs.declared.entries.PteEntry.TheVariants.{Table}
use Rattle.osc_sv39.specs.Entries.{word_of}
use Rattle.osc_sv39.specs.Walk.{piece}
use Rattle.osc_paging.specs.declared.Piece.{Piece}
use Rattle.osc_paging.specs.declared.TableFrame.{TableFrame}
use Rattle.osc_paging.specs.JobWords.{words_after}
use Rattle.osc_paging.specs.KeptTables.{KeptTables, frame_of, piece_of, is_piece}
use Rattle.osc_paging.specs.TableChanges.{Changed, linked, link, link_all, leaf_put, leaf_cleared, unlinked, table_frame, with_table, put_job, zero_job, without_page}
use Rattle.osc_paging.specs.Agree.{Agrees}
use Rattle.osc_paging.specs.CopyLaws.{IsNoTable, IsTable, AllElsewhere, KeepsTaken}
use Rattle.osc_paging.specs.OtherLaws.{IsAnyTable, ShareNoTable, OtherAgrees, MappingKeepsOthers, UnmappingKeepsOthers, ReclaimingKeepsOthers, GivingKeepsOthers, WorkElsewhereKeeps}
use Rattle.osc_paging.proofs.WordLists.{slice_get-set, words_after-append}
use Rattle.osc_paging.proofs.TableLists.{piece_of-without_none, piece_of-push}
use Rattle.osc_paging.proofs.Kept.{position_passes, length-frames_given, frames_given-other}
use Rattle.osc_paging.proofs.Elsewhere.{some_piece, jobs_elsewhere_keep, taking_keeps}

-- ---- frames of the one and of the other
found_frame : (ts : List TableFrame) (l n f : ℕ) → frame_of ts l n ≡ Some f → piece_of ts f ≢ None
found_frame [] l n f e = cc
found_frame (t ∷ ts) l n f e = go (is_piece t.piece l n) refl (t.frame == f) refl (found_frame ts l n f)
  where
    go : (b : Bool) → is_piece t.piece l n ≡ b → (c : Bool) → (t.frame == f) ≡ c → (frame_of ts l n ≡ Some f → piece_of ts f ≢ None) → piece_of (t ∷ ts) f ≢ None
    go b g true h on = λ d. (let k = rw h at d in cc)
    go true g false h on = absurd (let k = rw g at e in grind (arith, nat_tests, h, k))
    go false g false h on = λ d. on (rw g at e) (rw h at d)

none_or : (x : Option Piece) → ((p : Piece) → x ≡ Some p → ⊥) → x ≡ None
none_or None h = refl
none_or (Some p) h = absurd (h p refl)

-- a table of the one is none of the other
not_other : (other t : KeptTables) (f : ℕ) → ShareNoTable other t → piece_of t.tables f ≢ None → IsNoTable other f
not_other other t f a h = (
  none_or _ (λ p e. h (a f (inl (some_piece e))).0),
  none_or _ (λ p e. h (a f (inr (some_piece e))).0),
)

-- a free frame is no table
free_is_none : (other : KeptTables) (free : List Bool) (words : List ℕ) (f : ℕ) → Agrees other free words → slice_get free f ≡ Some true → IsNoTable other f
free_is_none other free words f g e = (
  none_or _ (λ p d. (let taken = g.taken f p d in cc)),
  none_or _ (λ p d. (let taken = (g.spare f p d).1 in cc)),
)

-- more jobs, with frames that stay taken
more_work : (entries : ℕ → ℕ → ℕ) (words : List ℕ) (other : KeptTables) (free after : List Bool) (jobs more : List Job) → Agrees other free (words_after entries jobs words) → AllElsewhere other more → KeepsTaken free after → Agrees other after (words_after entries (jobs ++ more) words)
more_work entries words other free after jobs more g w k =
    rw words_after-append (taking_keeps other free after (words_after entries more (words_after entries jobs words)) (jobs_elsewhere_keep entries other free (words_after entries jobs words) more g w) k)

same_taken : (free : List Bool) → KeepsTaken free free
same_taken free = record { size = refl; taken = λ f e. e }

-- ---- map
without : (t : TableFrame) (ts : List TableFrame) (f : ℕ) → t.frame ≢ f → piece_of ts f ≡ None → piece_of (with_table t ts) f ≡ None
without t [] f d e = grind (arith, nat_tests, d)
without t (x ∷ ts) f d e = grind (arith, nat_tests, d, e, without t ts f d)

link-others : (entries : ℕ → ℕ → ℕ) (words : List ℕ) (other : KeptTables) (c : Changed) (l n : ℕ) → OtherAgrees entries words other c → OtherAgrees entries words other (link l n c)
link-others entries words other c l n g = go _ _ _ refl refl
  where
    one : (parent frame : ℕ) → piece_of c.tables.tables parent ≢ None → slice_get c.free frame ≡ Some true → OtherAgrees entries words other (linked l n None (Some parent) (Some frame) c)
    one parent frame p free = record {
      apart = λ f h. (new f h, (g.apart f h).1);
      agrees = more_work entries words other c.free (set c.free frame false) c.jobs (zero_job frame ∷ put_job parent (n % 512) (word_of (Table frame)) ∷ []) g.agrees
          ((omega arith, fresh), ((omega arith, not_other other c.tables parent g.apart p), tt))
          (record { size = length-set c.free frame false; taken = λ f e. grind (arith, nat_tests, e, slice_get-set c.free frame f false, free) });
    }
      where
        fresh : IsNoTable other frame
        fresh = free_is_none other c.free (words_after entries c.jobs words) frame g.agrees free

        apart_from : (f : ℕ) → IsAnyTable other f → frame ≢ f
        apart_from f h d = ⊎_elim
            (λ (k : IsTable other f). k (subst (λ x. piece_of other.tables x ≡ None) d fresh.0))
            (λ (k : piece_of other.aside f ≢ None). k (subst (λ x. piece_of other.aside x ≡ None) d fresh.1))
            h

        new : (f : ℕ) → IsAnyTable other f → piece_of (with_table (table_frame l n frame) c.tables.tables) f ≡ None
        new f h = without (table_frame l n frame) c.tables.tables f (apart_from f h) (g.apart f h).0

    go : (a b p : Option ℕ) → frame_of c.tables.tables (suc l) (n / 512) ≡ b → position (λ x. x) c.free ≡ p → OtherAgrees entries words other (linked l n a b p c)
    go (Some a) b p f h = g
    go None None p f h = g
    go None (Some b) None f h = g
    go None (Some b) (Some p) f h = one b p (found_frame c.tables.tables (suc l) (n / 512) b f) (position_passes c.free p h)

link_all-others : (entries : ℕ → ℕ → ℕ) (words : List ℕ) (other : KeptTables) (l n : ℕ) (c : Changed) → OtherAgrees entries words other c → OtherAgrees entries words other (link_all l n c)
unfolding link_all
link_all-others entries words other zero n c g = g
link_all-others entries words other (suc l) n c g = link_all-others entries words other l n (link l (piece (suc l) n) c) (link-others entries words other c l (piece (suc l) n) g)

-- one store in a table of the process
store-others : (entries : ℕ → ℕ → ℕ) (words : List ℕ) (other : KeptTables) (c : Changed) (table index value : ℕ) → index < 512 → piece_of c.tables.tables table ≢ None → OtherAgrees entries words other c → Agrees other c.free (words_after entries (c.jobs ++ put_job table index value ∷ []) words)
store-others entries words other c table index value s h g = more_work entries words other c.free c.free c.jobs (put_job table index value ∷ []) g.agrees ((s, not_other other c.tables table g.apart h), tt) (same_taken c.free)

pub mapping_keeps_others : MappingKeepsOthers
mapping_keeps_others number m entries words other c g = go _ refl
  where
    d : Changed
    d = link_all c.tables.top number c

    k : OtherAgrees entries words other d
    k = link_all-others entries words other c.tables.top number c g

    go : (x : Option ℕ) → frame_of d.tables.tables 0 (number / 512) ≡ x → OtherAgrees entries words other (leaf_put number m x d)
    go None e = k
    go (Some t) e = record { apart = k.apart; agrees = store-others entries words other d t (number % 512) _ (omega arith) (found_frame d.tables.tables 0 (number / 512) t e) k }

pub unmapping_keeps_others : UnmappingKeepsOthers
unmapping_keeps_others number entries words other c g = go _ refl
  where
    d : Changed
    d = record c { tables = record (c.tables) { pages = without_page number c.tables.pages } }

    go : (x : Option ℕ) → frame_of c.tables.tables 0 (number / 512) ≡ x → OtherAgrees entries words other (leaf_cleared number x d)
    go None e = record { apart = g.apart; agrees = g.agrees }
    go (Some t) e = record { apart = g.apart; agrees = store-others entries words other c t (number % 512) 0 (omega arith) (found_frame c.tables.tables 0 (number / 512) t e) g }

pub reclaiming_keeps_others : ReclaimingKeepsOthers
reclaiming_keeps_others leaf entries words other c g = go _ _ refl refl
  where
    aside : (f frame : ℕ) → frame_of c.tables.tables 0 leaf ≡ Some frame → IsAnyTable other f → piece_of (c.tables.aside ++ table_frame 0 leaf frame ∷ []) f ≡ None
    aside f frame e h = rw (piece_of-push c.tables.aside (table_frame 0 leaf frame) f, (g.apart f h).1) (pick (frame == f) refl)
      where
        pick : (b : Bool) → (frame == f) ≡ b → cond {A = Option Piece} b (Some (record { level = 0; number = leaf })) None ≡ None
        pick false d = refl
        pick true d = let same : frame ≡ f = grind (arith, nat_tests, d) in absurd (found_frame c.tables.tables 0 leaf frame e (subst (λ x. piece_of c.tables.tables x ≡ None) (sym same) (g.apart f h).0))

    go : (x y : Option ℕ) → frame_of c.tables.tables 0 leaf ≡ x → frame_of c.tables.tables 1 (leaf / 512) ≡ y → OtherAgrees entries words other (unlinked leaf x y c)
    go None y e f = g
    go (Some t) None e f = g
    go (Some t) (Some p) e f = record {
      apart = λ q h. (piece_of-without_none c.tables.tables 0 leaf q (g.apart q h).0, aside q t e h);
      agrees = store-others entries words other c p (leaf % 512) 0 (omega arith) (found_frame c.tables.tables 1 (leaf / 512) p f) g;
    }

pub giving_keeps_others : GivingKeepsOthers
giving_keeps_others entries words other c g = record {
  apart = λ f h. ((g.apart f h).0, refl);
  agrees = record {
    size = grind (arith, g.agrees.size, length-frames_given);
    small = grind (arith, g.agrees.small, length-frames_given);
    apart = g.agrees.apart;
    taken = λ f p e. frames_given-other c.tables.aside c.free f (g.apart f (inl (some_piece e))).1 ∙ g.agrees.taken f p e;
    parents = g.agrees.parents;
    leaves = g.agrees.leaves;
    agree = g.agrees.agree;
    spare = λ f p e. ((g.agrees.spare f p e).0, frames_given-other c.tables.aside c.free f (g.apart f (inr (some_piece e))).1 ∙ (g.agrees.spare f p e).1);
    zeros = g.agrees.zeros;
  };
}

pub work_elsewhere_keeps : WorkElsewhereKeeps
work_elsewhere_keeps entries words c more g w = more_work entries words c.tables c.free c.free c.jobs more g w (same_taken c.free)
