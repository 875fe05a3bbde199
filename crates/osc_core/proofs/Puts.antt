-- Words that are put one after another.
use Rattle.std.proofs.Common.{ℕ, zero, suc, ◌+◌, ◌-◌, ◌*◌, ◌≡◌, ◌≢◌, ◌<◌, ◌≤◌, List, length, slice_set, arith, refl, ap, sym, ◌∙◌, below_more}
use Rattle.std.proofs.lemmas.Grind.{common_steps}
use Rattle.std.proofs.lemmas.List.{get_or-set_same, get_or-set_other, length-set}
use Rattle.osc_sv39.specs.Walk.{word_at, put_word}
use Rattle.osc_paging.specs.JobWords.{zeroed}
use Rattle.std.specs.Prelude.{slice_index, unwrap_or, drop, map}
use Rattle.std.specs.List.{range_with_len}
use Rattle.std.proofs.lemmas.List.{get_or-drop}
use Rattle.std.proofs.lemmas.List.FromFn.{get_or-map-range_with_len}
use Rattle.byteorder.specs.Endian.{little_from}
use Rattle.osc_image.specs.Image.{Image, byte_at}
use Rattle.osc_calls.specs.Open.{image_byte}
use Rattle.osc_core.specs.Words.{page_word, PutsPage, LaysPage}

-- ---- zeros
pub zeroed-none : (from : ℕ) (words : List ℕ) → zeroed from 0 words ≡ words
unfolding zeroed
zeroed-none from words = refl

pub zeroed-next : (from k count : ℕ) (words : List ℕ) → k < count → zeroed (from + k) (count - k) words ≡ zeroed (from + (k + 1)) (count - (k + 1)) (slice_set words (from + k) 0)
unfolding zeroed
zeroed-next from k count words l =
    ap (λ n. zeroed (from + k) n words) (let z : count - k ≡ suc (count - (k + 1)) = omega (arith, l) in z)
    ∙ ap (λ x. zeroed x (count - (k + 1)) (slice_set words (from + k) 0)) (let z : from + k + 1 ≡ from + (k + 1) = omega arith in z)

-- ---- a page
pub record PutsSome (n frame : ℕ) (bytes words next : List ℕ) : Type 0 where
  pub size : length next ≡ length words
  pub put : (i : ℕ) → i < n → frame * 512 + 512 ≤ length words → word_at next frame i ≡ page_word bytes i
  pub others : (f i : ℕ) → i < 512 → f ≢ frame → word_at next f i ≡ word_at words f i

pub puts_none : (frame : ℕ) (bytes words : List ℕ) → PutsSome 0 frame bytes words words
puts_none frame bytes words = record { size = refl; put = λ i l m. absurd (omega (arith, l)); others = λ f i l d. refl }

pub puts_next : (n frame : ℕ) (bytes words next : List ℕ) → n < 512 → PutsSome n frame bytes words next → PutsSome (n + 1) frame bytes words (put_word next frame n (page_word bytes n))
puts_next n frame bytes words next l p = record {
  size = length-set next (frame * 512 + n) (page_word bytes n) ∙ p.size;
  put = λ i m k. go i m k;
  others = λ f i m d. get_or-set_other next (frame * 512 + n) (f * 512 + i) (page_word bytes n) 0 (λ same. d (let z : f ≡ frame = omega (arith, same, m, l) in z)) ∙ p.others f i m d;
}
  where
    go : (i : ℕ) → i < n + 1 → frame * 512 + 512 ≤ length words → word_at (put_word next frame n (page_word bytes n)) frame i ≡ page_word bytes i
    go i m k =
        below_more (λ j. word_at (put_word next frame n (page_word bytes n)) frame j ≡ page_word bytes j) n
        (λ j b. get_or-set_other next (frame * 512 + n) (frame * 512 + j) (page_word bytes n) 0 (λ same. omega (arith, same, b)) ∙ p.put j b k)
        (get_or-set_same next (frame * 512 + n) (page_word bytes n) 0 (let s = p.size in omega (arith, s, k, l))) i m

pub puts_all : (frame n : ℕ) (bytes words next : List ℕ) → 512 ≤ n → PutsSome n frame bytes words next → PutsPage frame bytes words next
puts_all frame n bytes words next l p = record { size = p.size; put = λ i m k. p.put i (omega (arith, m, l)) k; others = p.others }

-- ---- a page of an image
little_same : (i n : ℕ) (xs ys : List ℕ) → ((k : ℕ) → i ≤ k → k < i + n → slice_index xs k ≡ slice_index ys k) → little_from i n xs ≡ little_from i n ys
little_same i zero xs ys same = refl
little_same i (suc n) xs ys same =
    let a : slice_index xs i ≡ slice_index ys i = same i (omega arith) (omega arith) in
    let b : little_from (suc i) n xs ≡ little_from (suc i) n ys = little_same (suc i) n xs ys (λ k l m. same k (omega (arith, l)) (omega (arith, m))) in
    rw (a, b) refl

pub lays_page : (image : Image) (page frame : ℕ) (bytes words next : List ℕ) → ((i : ℕ) → i < 4096 → slice_index bytes i ≡ unwrap_or (byte_at image (4096 * page + i)) 0)
    → PutsPage frame bytes words next → LaysPage image page frame words next
lays_page image page frame bytes words next each p = record {
  size = p.size;
  put = λ i l k. p.put i l k ∙ little_same 0 8 (drop (8 * i) bytes) (map (image_byte image) (range_with_len (4096 * page + 8 * i) 8)) (λ j m n. byte i j l n);
  others = p.others;
}
  where
    byte : (i j : ℕ) → i < 512 → j < 0 + 8 → slice_index (drop (8 * i) bytes) j ≡ slice_index (map (image_byte image) (range_with_len (4096 * page + 8 * i) 8)) j
    byte i j l n =
        get_or-drop (8 * i) bytes j 0 ∙ each (8 * i + j) (omega (arith, l, n))
        ∙ ap (image_byte image) (let z : 4096 * page + (8 * i + j) ≡ 4096 * page + 8 * i + j = omega arith in z)
        ∙ sym (get_or-map-range_with_len (image_byte image) (4096 * page + 8 * i) 8 j (4096 * page + 8 * i + j) 0 (omega (arith, n)) (omega arith))

pub ruleset zero_steps = (common_steps, zeroed-none, zeroed-next)

pub ruleset page_steps = (common_steps)
