-- New frames of a region: their giver is the call that gave them, and that of all other frames stays.
use Rattle.std.proofs.Common.{ℕ, zero, suc, ◌+◌, ◌≡◌, ◌<◌, ◌≤◌, ◌==◌, nat_lt, Bool, true, false, cond, Option, Some, None, List, [], ◌∷◌, length, arith, refl, sym, ap, subst, ◌∙◌}
use Rattle.std.proofs.lemmas.Bool.Decides.{nat_tests}
use Rattle.osc_parts.specs.Frames.{among}
use Rattle.osc_machine.specs.Replay.{Region}
use Rattle.osc_counted.specs.Regions.{Givers, is_giver, times, given_frames, AreGiven}
use Rattle.osc_counted.proofs.Counting.{bit, total-same, total-among, given-total, times-cons}

pub given-later : (givers : Givers) (n m count : ℕ) (rs : List Region) → n ≤ m → AreGiven givers n count rs → AreGiven givers m count rs
given-later givers n m count [] l g = tt
given-later givers n m count (r ∷ rs) l g = ((let b = g.0 in omega (arith, b, l)), g.1, given-later givers n m count rs l g.2)

-- a call that comes later gave none of these
none-given : (givers : Givers) (n count : ℕ) (rs : List Region) → AreGiven givers n count rs → times (Some n) rs ≡ 0
none-given givers n count [] g = refl
none-given givers n count (r ∷ rs) g =
    let c = times-cons (Some n) r rs in
    let t : (n == r.call) ≡ false = (let b = g.0 in grind (arith, nat_tests, b)) in
    let o : bit (n == r.call) ≡ 0 = ap bit t in
    let later = none-given givers n count rs g.2 in
    omega (arith, c, o, later)

module _ (givers : Givers) (xs : List ℕ) (n : ℕ) where
  abbrev pub fresh : Givers
  fresh f = cond (nat_lt 0 (among f xs)) (Some n) (givers f)

  pub fresh-in : (f : ℕ) → 0 < among f xs → fresh f ≡ Some n
  fresh-in f l = let t : nat_lt 0 (among f xs) ≡ true = grind (arith, nat_tests, l) in ap (λ b. cond b (Some n) (givers f)) t

  pub fresh-out : (f : ℕ) → among f xs ≡ 0 → fresh f ≡ givers f
  fresh-out f e = let t : nat_lt 0 (among f xs) ≡ false = grind (arith, nat_tests, e) in ap (λ b. cond b (Some n) (givers f)) t

  pub fresh-times : (count : ℕ) (rs : List Region) (f : ℕ) → AreGiven givers n count rs → (0 < among f xs → times (givers f) rs ≡ 0) → times (fresh f) rs ≡ times (givers f) rs
  fresh-times count rs f g h = go (among f xs) refl
    where
      go : (m : ℕ) → among f xs ≡ m → times (fresh f) rs ≡ times (givers f) rs
      go zero e = ap (λ x. times x rs) (fresh-out f e)
      go (suc m) e =
          let l : 0 < among f xs = omega (arith, e) in
          ap (λ x. times x rs) (fresh-in f l) ∙ none-given givers n count rs g ∙ sym (h l)

  -- the frames of an older region are those that they were
  same-given : (count : ℕ) (r : Region) (rs : List Region) → r.call < n → ((f : ℕ) → 0 < among f xs → times (givers f) (r ∷ rs) ≡ 0) → given_frames fresh count r.call ≡ given_frames givers count r.call
  same-given count r rs b h =
      given-total fresh count r.call
      ∙ total-same (λ f. bit (is_giver r.call (fresh f))) (λ f. bit (is_giver r.call (givers f))) count (λ f l. go f (among f xs) refl)
      ∙ sym (given-total givers count r.call)
    where
      go : (f m : ℕ) → among f xs ≡ m → bit (is_giver r.call (fresh f)) ≡ bit (is_giver r.call (givers f))
      go f zero e = ap (λ x. bit (is_giver r.call x)) (fresh-out f e)
      go f (suc m) e =
          let l : 0 < among f xs = omega (arith, e) in
          let t : (n == r.call) ≡ false = grind (arith, nat_tests, b) in
          let now : bit (is_giver r.call (fresh f)) ≡ 0 = ap (λ x. bit (is_giver r.call x)) (fresh-in f l) ∙ ap bit t in
          let c = times-cons (givers f) r rs in
          let z = h f l in
          omega (arith, now, c, z)

  pub fresh-given : (count : ℕ) (rs : List Region) → AreGiven givers n count rs → ((f : ℕ) → 0 < among f xs → times (givers f) rs ≡ 0) → AreGiven fresh (n + 1) count rs
  fresh-given count [] g h = tt
  fresh-given count (r ∷ rs) g h = (
    (let b = g.0 in omega (arith, b)),
    same-given count r rs g.0 h ∙ g.1,
    fresh-given count rs g.2 (λ f l. (let c = times-cons (givers f) r rs in let z = h f l in omega (arith, c, z))),
  )

  -- the new ones are as many as were taken
  pub fresh-own : (count : ℕ) → ((f call : ℕ) → givers f ≡ Some call → call < n) → ((f : ℕ) → among f xs ≤ 1) → ((f : ℕ) → 0 < among f xs → f < count) → given_frames fresh count n ≡ length xs
  fresh-own count past once within =
      given-total fresh count n ∙ total-same (λ f. bit (is_giver n (fresh f))) (λ f. among f xs) count (λ f l. go f (among f xs) refl) ∙ total-among xs count within
    where
      old : (f : ℕ) (x : Option ℕ) → givers f ≡ x → bit (is_giver n x) ≡ 0
      old f None e = refl
      old f (Some call) e = let l = past f call e in let t : (call == n) ≡ false = grind (arith, nat_tests, l) in ap bit t

      go : (f m : ℕ) → among f xs ≡ m → bit (is_giver n (fresh f)) ≡ among f xs
      go f zero e = ap (λ x. bit (is_giver n x)) (fresh-out f e) ∙ old f (givers f) refl ∙ sym e
      go f (suc m) e =
          let l : 0 < among f xs = omega (arith, e) in
          let t : (n == n) ≡ true = grind (arith, nat_tests) in
          let now : bit (is_giver n (fresh f)) ≡ 1 = ap (λ x. bit (is_giver n x)) (fresh-in f l) ∙ ap bit t in
          let o = once f in
          omega (arith, now, l, o)

  -- and a process that maps them besides holds their region besides
  pub fresh-more : (count pages f was now : ℕ) (rs : List Region) → AreGiven givers n count rs → ((f call : ℕ) → givers f ≡ Some call → call < n) → among f xs ≤ 1
      → (0 < among f xs → times (givers f) rs ≡ 0) → was ≡ times (givers f) rs → now ≡ was + among f xs
      → now ≡ times (fresh f) ((record { call = n; pages = pages }) ∷ rs)
  fresh-more count pages f was now rs g past once h w e = go (among f xs) refl
    where
      region : Region
      region = record { call = n; pages = pages }

      older : (x : Option ℕ) → givers f ≡ x → bit (is_giver n x) ≡ 0
      older None i = refl
      older (Some call) i = let l = past f call i in let t : (call == n) ≡ false = grind (arith, nat_tests, l) in ap bit t

      go : (m : ℕ) → among f xs ≡ m → now ≡ times (fresh f) ((record { call = n; pages = pages }) ∷ rs)
      go zero i =
          let c = times-cons (givers f) (record { call = n; pages = pages }) rs in
          let o = older (givers f) refl in
          let s : times (fresh f) ((record { call = n; pages = pages }) ∷ rs) ≡ times (givers f) ((record { call = n; pages = pages }) ∷ rs) = ap (λ x. times x ((record { call = n; pages = pages }) ∷ rs)) (fresh-out f i) in
          omega (arith, c, o, s, w, e, i)
      go (suc m) i =
          let l : 0 < among f xs = omega (arith, i) in
          let c = times-cons (fresh f) (record { call = n; pages = pages }) rs in
          let t : (n == n) ≡ true = grind (arith, nat_tests) in
          let one : bit (is_giver n (fresh f)) ≡ 1 = ap (λ x. bit (is_giver n x)) (fresh-in f l) ∙ ap bit t in
          let s = fresh-times count rs f g h in
          let z = h l in
          omega (arith, c, one, s, z, w, e, once, l)
