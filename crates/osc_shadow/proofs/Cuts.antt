-- The pieces of a run, one after another.
use Rattle.std.proofs.Common.{ℕ, suc, ◌+◌, ◌-◌, ◌*◌, ◌≡◌, ◌<◌, min, max, List, [], ◌++◌, map, arith, refl, append_assoc, sym, ap, ◌∙◌}
use Rattle.std.proofs.lemmas.List.{map-append, append-nil}
use Rattle.osc_word.specs.declared.job_list.Job.{Job}
use Rattle.osc_space.specs.BlockWords.{Stretch, stretch, cut}

-- the jobs of the pieces from one on
abbrev pub jobs_from : (Stretch → Job) → ℕ → ℕ → ℕ → ℕ → List Job
jobs_from f count piece from to = map f (cut (count - piece) piece from to)

cut_next : (f : Stretch → Job) (n piece from to : ℕ) → map f (cut (suc n) piece from to) ≡ map f (stretch (max from (4096 * piece)) (min to (4096 * piece + 4096))) ++ map f (cut n (piece + 1) from to)
unfolding cut
cut_next f n piece from to = map-append f (stretch (max from (4096 * piece)) (min to (4096 * piece + 4096))) (cut n (piece + 1) from to)

pub next_piece : (f : Stretch → Job) (count piece from to : ℕ) → piece < count → jobs_from f count piece from to ≡ map f (stretch (max from (4096 * piece)) (min to (4096 * piece + 4096))) ++ jobs_from f count (piece + 1) from to
next_piece f count piece from to l =
    let e : count - piece ≡ suc (count - (piece + 1)) = omega arith in
    rw e (cut_next f (count - (piece + 1)) piece from to)

pub no_piece_left : (f : Stretch → Job) (count piece from to : ℕ) → piece ≡ count → jobs_from f count piece from to ≡ []
unfolding cut
no_piece_left f count piece from to e = let z : count - piece ≡ 0 = omega arith in rw z refl

-- once the next jobs are pushed, the rest is still to be pushed
pub push_next : (pushed now all next rest jobs : List Job) → now ≡ pushed ++ next → jobs ≡ next ++ rest → pushed ++ jobs ≡ all → now ++ rest ≡ all
push_next pushed now all next rest jobs e f h = rw e (append_assoc pushed next rest ∙ (let g : pushed ++ (next ++ rest) ≡ pushed ++ jobs = ap (λ js. pushed ++ js) (sym f) in g) ∙ h)

pub push_none : (pushed all jobs : List Job) → jobs ≡ [] → pushed ++ jobs ≡ all → pushed ≡ all
push_none pushed all jobs e h = sym (append-nil pushed) ∙ (let g : pushed ++ [] ≡ pushed ++ jobs = ap (λ js. pushed ++ js) (sym e) in g) ∙ h
