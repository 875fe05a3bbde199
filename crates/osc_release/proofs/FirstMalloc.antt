-- A first malloc makes the memory with one object, whose parts agree.
use Rattle.std.proofs.Common.{◌≡◌, Bool, List, [], Some, refl, ap, sym, subst, ◌∙◌}
use Rattle.osc_word.specs.declared.job_list.Job.{Job}
use Rattle.osc_word.specs.declared.settings.HeapKind.TheVariants.{Oscar}
use Rattle.osc_frames.specs.Free.{all_free, without_frame}
use Rattle.osc_slot.specs.Heap.{Heap, empty_heap}
use Rattle.osc_paging.specs.KeptTables.{KeptTables, closed}
use Rattle.osc_paging.specs.TableChanges.{opened}
use Rattle.osc_mark.specs.Grants.{Grants, no_grants}
use Rattle.osc_space.specs.Space.{Space, Draft, Outcome, Keeps}
use Rattle.osc_space.specs.Malloc.{malloc_plan}
use Rattle.osc_space.specs.Finish.{finished}
use Rattle.osc_space.specs.Header.{header_in}
use Rattle.osc_space.specs.Share.{no_regions}
use Rattle.osc_space.specs.Agree.{SpaceAgrees}
use Rattle.osc_space.specs.Examples.{fresh}
use Rattle.osc_space.specs.AgreeExamples.{one_space, one_free, made_space, made_free, OneAgrees}
use Rattle.osc_shadow.specs.Parts.{space_of, draft_of, PartsAgreeOnHeap}
use Rattle.osc_shadow.specs.Sight.{GivesWords}

-- ---- the first malloc
starts : (t : KeptTables) (g : Grants) (h : Heap) (free : List Bool) (jobs : List Job) → t ≡ opened 0 (closed 3 8 16) → g ≡ no_grants 8 → h ≡ empty_heap 8 → free ≡ without_frame (all_free 8) (Some 0) → jobs ≡ []
    → draft_of t g h [] free jobs ≡ fresh 8 8
starts t g h free jobs a b c d e = rw (a, b, c, d, e) refl

ends : (o : Outcome) → o ≡ malloc_plan 24 (fresh 8 8) → o.closing ≡ Keeps → (o.draft.space ≡ made_space) × (o.draft.free ≡ made_free)
unfolding made_space made_free finished
ends o e k =
    let d : finished o.closing o.draft ≡ o.draft = ap (λ c. finished c o.draft) k in
    let f : finished o.closing o.draft ≡ finished (malloc_plan 24 (fresh 8 8)).closing (malloc_plan 24 (fresh 8 8)).draft = ap (λ (p : Outcome). finished p.closing p.draft) e in
    (ap (λ (x : Draft). x.space) (sym d ∙ f), ap (λ (x : Draft). x.free) (sym d ∙ f))

pub record MakesOne (t : KeptTables) (g : Grants) : Type 0 where
  pub agree : PartsAgreeOnHeap t g []
  pub words : GivesWords (header_in t g.objects 0x1000000010)
  pub count : t.count ≡ 8

words_of : (s : Space) → s ≡ one_space → GivesWords (header_in s.tables s.objects 0x1000000010)
unfolding header_in
words_of s e = rw e tt

pub makes_one : (t : KeptTables) (g : Grants) (h : Heap) (free : List Bool) (o : Outcome) → o ≡ malloc_plan 24 (fresh 8 8) → o.closing ≡ Keeps → o.draft.space ≡ space_of t g h [] → o.draft.free ≡ free
    → made_space ≡ one_space → made_free ≡ one_free → OneAgrees → MakesOne t g
makes_one t g h free o e k s f space frees one =
    let x = ends o e k in
    let is : space_of t g h [] ≡ one_space = sym s ∙ x.0 ∙ space in
    let free_is : free ≡ one_free = sym f ∙ x.1 ∙ frees in
    record {
      agree = record {
        heap = h;
        free = free;
        agree = record {
          regions = no_regions 8;
          agree = subst (λ (y : List Bool). SpaceAgrees Oscar (space_of t g h []) (no_regions 8) y) (sym free_is) (subst (λ (y : Space). SpaceAgrees Oscar y (no_regions 8) one_free) (sym is) one);
        };
      };
      words = words_of (space_of t g h []) is;
      count = ap (λ (y : Space). y.tables.count) is;
    }

pub starts_fresh : (t : KeptTables) (g : Grants) (h : Heap) (free : List Bool) (jobs : List Job) (o : Outcome) → t ≡ opened 0 (closed 3 8 16) → g ≡ no_grants 8 → h ≡ empty_heap 8 → free ≡ without_frame (all_free 8) (Some 0) → jobs ≡ []
    → o ≡ malloc_plan 24 (draft_of t g h [] free jobs) → o ≡ malloc_plan 24 (fresh 8 8)
starts_fresh t g h free jobs o a b c d e f = f ∙ ap (λ x. malloc_plan 24 x) (starts t g h free jobs a b c d e)
