-- The law of moves, by induction over the words that are left.
use Rattle.std.proofs.Common.{ℕ, zero, suc, ◌+◌, ◌*◌, ◌≡◌, List, map, slice_set, slice_index, arith, refl, ◌∙◌, ap}
use Rattle.std.specs.List.{range_with_len}
use Rattle.osc_word.specs.declared.job_list.WordAt.{WordAt}
use Rattle.osc_word.specs.declared.job_list.Job.TheVariants.{PutWord, ZeroWords, CopyWords, CopyPart, CopyTable, ClearBox, Tell, ToOut}
use Rattle.osc_sv39.specs.Walk.{put_word}
use Rattle.osc_paging.specs.JobWords.{zeroed, copied, table_copied}
use Rattle.osc_calls.specs.Moves.{Put, Copy, after}
use Rattle.osc_calls.specs.MoveLaws.{words_after_moves, MovesDoJob}

-- a place so many words on
next-place : (frame index done : ℕ) → frame * 512 + (index + done) ≡ frame * 512 + index + done
next-place frame index done = omega arith

place-on : (frame index done : ℕ) → frame * 512 + index + (done + 1) ≡ frame * 512 + index + done + 1
place-on frame index done = omega arith

zeros : (at : WordAt) (count done : ℕ) (words : List ℕ)
    → words_after_moves (map (λ k. Put (after at k) 0) (range_with_len done count)) words ≡ zeroed (at.frame * 512 + at.index + done) count words
unfolding zeroed
zeros at zero done words = refl
zeros at (suc count) done words =
    zeros at count (done + 1) (slice_set words (at.frame * 512 + (at.index + done)) 0)
    ∙ ap (λ k. zeroed k count (slice_set words (at.frame * 512 + (at.index + done)) 0)) (place-on at.frame at.index done)
    ∙ ap (λ k. zeroed (at.frame * 512 + at.index + done + 1) count (slice_set words k 0)) (next-place at.frame at.index done)

abbrev copied_word : List ℕ → ℕ → ℕ → List ℕ
copied_word words from to = slice_set words to (slice_index words from)

copies : (from to : WordAt) (count done : ℕ) (words : List ℕ)
    → words_after_moves (map (λ k. Copy (after from k) (after to k)) (range_with_len done count)) words
    ≡ copied (from.frame * 512 + from.index + done) (to.frame * 512 + to.index + done) count words
unfolding copied
copies from to zero done words = refl
copies from to (suc count) done words =
    copies from to count (done + 1) (copied_word words (from.frame * 512 + (from.index + done)) (to.frame * 512 + (to.index + done)))
    ∙ ap (λ k. copied k (to.frame * 512 + to.index + (done + 1)) count (copied_word words (from.frame * 512 + (from.index + done)) (to.frame * 512 + (to.index + done))))
    (place-on from.frame from.index done)
    ∙ ap (λ k. copied (from.frame * 512 + from.index + done + 1) k count (copied_word words (from.frame * 512 + (from.index + done)) (to.frame * 512 + (to.index + done))))
    (place-on to.frame to.index done)
    ∙ ap (λ k. copied (from.frame * 512 + from.index + done + 1) (to.frame * 512 + to.index + done + 1) count (copied_word words k (to.frame * 512 + (to.index + done))))
    (next-place from.frame from.index done)
    ∙ ap (λ k. copied (from.frame * 512 + from.index + done + 1) (to.frame * 512 + to.index + done + 1) count (copied_word words (from.frame * 512 + from.index + done) k))
    (next-place to.frame to.index done)

tables : (entries : ℕ → ℕ → ℕ) (to count done : ℕ) (words : List ℕ)
    → words_after_moves (map (λ k. Put (record { frame = to; index = k }) (entries to k)) (range_with_len done count)) words
    ≡ table_copied entries to done count words
unfolding table_copied
tables entries to zero done words = refl
tables entries to (suc count) done words = tables entries to count (done + 1) (put_word words to done (entries to done))

no-more : (k : ℕ) → k + 0 ≡ k
no-more k = omega arith

pub moves_do_job : MovesDoJob
moves_do_job entries (PutWord at value) words = refl
moves_do_job entries (ZeroWords at count) words =
    zeros at count 0 words ∙ ap (λ k. zeroed k count words) (no-more (at.frame * 512 + at.index))
moves_do_job entries (CopyWords from to count) words =
    copies from to count 0 words
    ∙ ap (λ k. copied k (to.frame * 512 + to.index + 0) count words) (no-more (from.frame * 512 + from.index))
    ∙ ap (λ k. copied (from.frame * 512 + from.index) k count words) (no-more (to.frame * 512 + to.index))
moves_do_job entries (CopyPart from to bytes) words = refl
moves_do_job entries (CopyTable from to) words = tables entries to 512 0 words
moves_do_job entries (ClearBox hart) words = refl
moves_do_job entries (Tell hart) words = refl
moves_do_job entries (ToOut at first count) words = refl
