-- Each format both ways: the fields of its word, and the word of its fields.
use Rattle.std.proofs.Common.{◌≡◌, ℕ, ◌+◌, ◌*◌, ◌^◌, ◌<◌, ◌==◌, ◌∙◌, Bool, true, false, sym, refl, arith}
use Rattle.std.proofs.lemmas.Bool.{cond_both, eqb-true, eqb-false}
use Rattle.osc_rv.specs.Bits.{bits}
use Rattle.osc_rv.specs.Codes.{width_funct3}
use Rattle.osc_rv.specs.Formats.{r_word, i_word, s_word, b_word, u_word, j_word, fence_word, s_imm, b_half, j_half, fence_bits}
use Rattle.osc_rv.specs.Instr.{bit_of, atomic_word, aq_of, rl_of}
use Rattle.osc_rv.specs.declared.instr.Width.{Width}
use Rattle.osc_rv.proofs.Runs.{bits_below, bits-at, bits-all, bits-join, bits-split}

-- ---- the fields of a word

pub record RFields (word opcode rd funct3 rs1 rs2 funct7 : ℕ) : Type 0 where
  pub opcode_is : bits 0 7 word ≡ opcode
  pub rd_is : bits 7 5 word ≡ rd
  pub funct3_is : bits 12 3 word ≡ funct3
  pub rs1_is : bits 15 5 word ≡ rs1
  pub rs2_is : bits 20 5 word ≡ rs2
  pub funct7_is : bits 25 7 word ≡ funct7

pub r_fields : (opcode rd funct3 rs1 rs2 funct7 : ℕ) → opcode < 2 ^ 7 → rd < 2 ^ 5 → funct3 < 2 ^ 3 → rs1 < 2 ^ 5
    → rs2 < 2 ^ 5 → funct7 < 2 ^ 7
    → RFields (r_word opcode rd funct3 rs1 rs2 funct7) opcode rd funct3 rs1 rs2 funct7
r_fields opcode rd funct3 rs1 rs2 funct7 o d f s t g = record {
  opcode_is = bits-at 0 7 (rd + funct3 * 2 ^ 5 + rs1 * 2 ^ 8 + rs2 * 2 ^ 13 + funct7 * 2 ^ 18) opcode 0 _
      (omega arith) (omega arith) o;
  rd_is = bits-at 7 5 (funct3 + rs1 * 2 ^ 3 + rs2 * 2 ^ 8 + funct7 * 2 ^ 13) rd opcode _ (omega arith) o d;
  funct3_is = bits-at 12 3 (rs1 + rs2 * 2 ^ 5 + funct7 * 2 ^ 10) funct3 (opcode + rd * 2 ^ 7) _
      (omega arith) (omega arith) f;
  rs1_is = bits-at 15 5 (rs2 + funct7 * 2 ^ 5) rs1 (opcode + rd * 2 ^ 7 + funct3 * 2 ^ 12) _
      (omega arith) (omega arith) s;
  rs2_is = bits-at 20 5 funct7 rs2 (opcode + rd * 2 ^ 7 + funct3 * 2 ^ 12 + rs1 * 2 ^ 15) _
      (omega arith) (omega arith) t;
  funct7_is = bits-at 25 7 0 funct7 (opcode + rd * 2 ^ 7 + funct3 * 2 ^ 12 + rs1 * 2 ^ 15 + rs2 * 2 ^ 20) _
      (omega arith) (omega arith) g;
}

pub record IFields (word opcode rd funct3 rs1 imm : ℕ) : Type 0 where
  pub opcode_is : bits 0 7 word ≡ opcode
  pub rd_is : bits 7 5 word ≡ rd
  pub funct3_is : bits 12 3 word ≡ funct3
  pub rs1_is : bits 15 5 word ≡ rs1
  pub imm_is : bits 20 12 word ≡ imm

-- format I is format R with its immediate in the place of rs2 and funct7
pub i_fields : (opcode rd funct3 rs1 imm : ℕ) → opcode < 2 ^ 7 → rd < 2 ^ 5 → funct3 < 2 ^ 3 → rs1 < 2 ^ 5
    → imm < 2 ^ 12 → IFields (i_word opcode rd funct3 rs1 imm) opcode rd funct3 rs1 imm
i_fields opcode rd funct3 rs1 imm o d f s i =
    let w : ℕ = i_word opcode rd funct3 rs1 imm in
    let halves : bits 0 5 imm + bits 5 7 imm * 2 ^ 5 ≡ imm = bits-join 0 5 7 imm ∙ bits-all 12 imm i in
    let same : r_word opcode rd funct3 rs1 (bits 0 5 imm) (bits 5 7 imm) ≡ w = omega arith in
    let r : RFields w opcode rd funct3 rs1 (bits 0 5 imm) (bits 5 7 imm) =
    rw (← same) (r_fields opcode rd funct3 rs1 _ _ o d f s (bits_below 0 5 imm) (bits_below 5 7 imm)) in
    record {
      opcode_is = r.opcode_is;
      rd_is = r.rd_is;
      funct3_is = r.funct3_is;
      rs1_is = r.rs1_is;
      imm_is = rw (← bits-join 20 5 7 w, r.rs2_is, r.funct7_is) halves;
    }

pub record SFields (word opcode funct3 rs1 rs2 imm : ℕ) : Type 0 where
  pub opcode_is : bits 0 7 word ≡ opcode
  pub funct3_is : bits 12 3 word ≡ funct3
  pub rs1_is : bits 15 5 word ≡ rs1
  pub rs2_is : bits 20 5 word ≡ rs2
  pub imm_is : s_imm word ≡ imm

-- format S is format R with its immediate in the place of rd and funct7
pub s_fields : (opcode funct3 rs1 rs2 imm : ℕ) → opcode < 2 ^ 7 → funct3 < 2 ^ 3 → rs1 < 2 ^ 5 → rs2 < 2 ^ 5
    → imm < 2 ^ 12 → SFields (s_word opcode funct3 rs1 rs2 imm) opcode funct3 rs1 rs2 imm
s_fields opcode funct3 rs1 rs2 imm o f s t i =
    let r = r_fields opcode (bits 0 5 imm) funct3 rs1 rs2 (bits 5 7 imm) o (bits_below 0 5 imm) f s t (bits_below 5 7 imm) in
    record {
      opcode_is = r.opcode_is;
      funct3_is = r.funct3_is;
      rs1_is = r.rs1_is;
      rs2_is = r.rs2_is;
      imm_is = rw (r.rd_is, r.funct7_is, bits-join 0 5 7 imm) (bits-all 12 imm i);
    }

pub record BFields (word opcode funct3 rs1 rs2 half : ℕ) : Type 0 where
  pub opcode_is : bits 0 7 word ≡ opcode
  pub funct3_is : bits 12 3 word ≡ funct3
  pub rs1_is : bits 15 5 word ≡ rs1
  pub rs2_is : bits 20 5 word ≡ rs2
  pub half_is : b_half word ≡ half

pub b_fields : (opcode funct3 rs1 rs2 half : ℕ) → opcode < 2 ^ 7 → funct3 < 2 ^ 3 → rs1 < 2 ^ 5 → rs2 < 2 ^ 5
    → half < 2 ^ 12 → BFields (b_word opcode funct3 rs1 rs2 half) opcode funct3 rs1 rs2 half
b_fields opcode funct3 rs1 rs2 half o f s t h =
    let w : ℕ = b_word opcode funct3 rs1 rs2 half in
    let rd : ℕ = bits 10 1 half + bits 0 4 half * 2 ^ 1 in
    let funct7 : ℕ = bits 4 6 half + bits 11 1 half * 2 ^ 6 in
    let b0 = bits_below 0 4 half in
    let b4 = bits_below 4 6 half in
    let b10 = bits_below 10 1 half in
    let b11 = bits_below 11 1 half in
    let same : r_word opcode rd funct3 rs1 rs2 funct7 ≡ w = omega arith in
    let r : RFields w opcode rd funct3 rs1 rs2 funct7 =
    rw (← same) (r_fields opcode rd funct3 rs1 rs2 funct7 o (omega arith) f s t (omega arith)) in
    let low = bits-split 7 1 4 w (bits 10 1 half) (bits 0 4 half) b10 r.rd_is in
    let high = bits-split 25 6 1 w (bits 4 6 half) (bits 11 1 half) b4 r.funct7_is in
    record {
      opcode_is = r.opcode_is;
      funct3_is = r.funct3_is;
      rs1_is = r.rs1_is;
      rs2_is = r.rs2_is;
      half_is = rw (low.0, low.1, high.0, high.1, bits-join 0 4 6 half, bits-join 0 10 1 half, bits-join 0 11 1 half)
          (bits-all 12 half h);
    }

pub record UFields (word opcode rd imm : ℕ) : Type 0 where
  pub opcode_is : bits 0 7 word ≡ opcode
  pub rd_is : bits 7 5 word ≡ rd
  pub imm_is : bits 12 20 word ≡ imm

pub u_fields : (opcode rd imm : ℕ) → opcode < 2 ^ 7 → rd < 2 ^ 5 → imm < 2 ^ 20
    → UFields (u_word opcode rd imm) opcode rd imm
u_fields opcode rd imm o d i = record {
  opcode_is = bits-at 0 7 (rd + imm * 2 ^ 5) opcode 0 _ (omega arith) (omega arith) o;
  rd_is = bits-at 7 5 imm rd opcode _ (omega arith) o d;
  imm_is = bits-at 12 20 0 imm (opcode + rd * 2 ^ 7) _ (omega arith) (omega arith) i;
}

pub record JFields (word opcode rd half : ℕ) : Type 0 where
  pub opcode_is : bits 0 7 word ≡ opcode
  pub rd_is : bits 7 5 word ≡ rd
  pub half_is : j_half word ≡ half

-- format J is format U with the offset's bits in another order
pub j_fields : (opcode rd half : ℕ) → opcode < 2 ^ 7 → rd < 2 ^ 5 → half < 2 ^ 20
    → JFields (j_word opcode rd half) opcode rd half
j_fields opcode rd half o d h =
    let w : ℕ = j_word opcode rd half in
    let two : ℕ = bits 11 8 half + bits 10 1 half * 2 ^ 8 in
    let three : ℕ = two + bits 0 10 half * 2 ^ 9 in
    let imm : ℕ = three + bits 19 1 half * 2 ^ 19 in
    let b0 = bits_below 0 10 half in
    let b10 = bits_below 10 1 half in
    let b11 = bits_below 11 8 half in
    let b19 = bits_below 19 1 half in
    let same : u_word opcode rd imm ≡ w = omega arith in
    let u : UFields w opcode rd imm = rw (← same) (u_fields opcode rd imm o d (omega arith)) in
    let top = bits-split 12 19 1 w three (bits 19 1 half) (omega arith) u.imm_is in
    let mid = bits-split 12 9 10 w two (bits 0 10 half) (omega arith) top.0 in
    let low = bits-split 12 8 1 w (bits 11 8 half) (bits 10 1 half) b11 mid.0 in
    record {
      opcode_is = u.opcode_is;
      rd_is = u.rd_is;
      half_is = rw (low.0, low.1, mid.1, top.1, bits-join 0 10 1 half, bits-join 0 11 8 half, bits-join 0 19 1 half)
          (bits-all 20 half h);
    }

pub record FenceFields (word opcode funct3 free : ℕ) : Type 0 where
  pub opcode_is : bits 0 7 word ≡ opcode
  pub funct3_is : bits 12 3 word ≡ funct3
  pub free_is : fence_bits word ≡ free

pub fence_fields : (opcode funct3 free : ℕ) → opcode < 2 ^ 7 → funct3 < 2 ^ 3 → free < 2 ^ 22
    → FenceFields (fence_word opcode funct3 free) opcode funct3 free
fence_fields opcode funct3 free o f r =
    let w : ℕ = fence_word opcode funct3 free in
    let low : ℕ = bits 0 5 free in
    let high : ℕ = bits 5 17 free in
    let b0 = bits_below 0 5 free in
    let b5 = bits_below 5 17 free in
    let low_is : bits 7 5 w ≡ low = bits-at 7 5 (funct3 + high * 2 ^ 3) low opcode _ (omega arith) o b0 in
    let high_is : bits 15 17 w ≡ high =
    bits-at 15 17 0 high (opcode + low * 2 ^ 7 + funct3 * 2 ^ 12) _ (omega arith) (omega arith) b5 in
    record {
      opcode_is = bits-at 0 7 (low + funct3 * 2 ^ 5 + high * 2 ^ 8) opcode 0 _ (omega arith) (omega arith) o;
      funct3_is = bits-at 12 3 high funct3 (opcode + low * 2 ^ 7) _ (omega arith) (omega arith) f;
      free_is = rw (low_is, high_is, bits-join 0 5 17 free) (bits-all 22 free r);
    }

-- ---- the word of its fields

pub r_whole : (word opcode funct3 funct7 : ℕ) → word < 2 ^ 32 → bits 0 7 word ≡ opcode → funct3 ≡ bits 12 3 word
    → funct7 ≡ bits 25 7 word → r_word opcode (bits 7 5 word) funct3 (bits 15 5 word) (bits 20 5 word) funct7 ≡ word
r_whole word opcode funct3 funct7 h o f g =
    rw (← o, f, g, bits-join 0 7 5 word, bits-join 0 12 3 word, bits-join 0 15 5 word, bits-join 0 20 5 word, bits-join 0 25 7 word)
    (bits-all 32 word h)

pub i_whole : (word opcode funct3 imm : ℕ) → word < 2 ^ 32 → bits 0 7 word ≡ opcode → funct3 ≡ bits 12 3 word
    → imm ≡ bits 20 12 word → i_word opcode (bits 7 5 word) funct3 (bits 15 5 word) imm ≡ word
i_whole word opcode funct3 imm h o f i =
    rw (← o, f, i, bits-join 0 7 5 word, bits-join 0 12 3 word, bits-join 0 15 5 word, bits-join 0 20 12 word)
    (bits-all 32 word h)

pub s_whole : (word opcode funct3 : ℕ) → word < 2 ^ 32 → bits 0 7 word ≡ opcode → funct3 ≡ bits 12 3 word
    → s_word opcode funct3 (bits 15 5 word) (bits 20 5 word) (s_imm word) ≡ word
s_whole word opcode funct3 h o f =
    let b = bits_below 7 5 word in
    let c = bits_below 25 7 word in
    let low : bits 0 5 (s_imm word) ≡ bits 7 5 word =
    bits-at 0 5 (bits 25 7 word) (bits 7 5 word) 0 (s_imm word) (omega arith) (omega arith) b in
    let high : bits 5 7 (s_imm word) ≡ bits 25 7 word =
    bits-at 5 7 0 (bits 25 7 word) (bits 7 5 word) (s_imm word) (omega arith) b c in
    rw (low, high) (r_whole word opcode funct3 (bits 25 7 word) h o f refl)

pub b_whole : (word opcode funct3 : ℕ) → word < 2 ^ 32 → bits 0 7 word ≡ opcode → funct3 ≡ bits 12 3 word
    → b_word opcode funct3 (bits 15 5 word) (bits 20 5 word) (b_half word) ≡ word
b_whole word opcode funct3 h o f =
    let half : ℕ = b_half word in
    let b8 = bits_below 8 4 word in
    let b25 = bits_below 25 6 word in
    let b7 = bits_below 7 1 word in
    let b31 = bits_below 31 1 word in
    let fits : half < 2 ^ 12 = omega arith in
    let top = bits-split 0 11 1 half (bits 8 4 word + bits 25 6 word * 2 ^ 4 + bits 7 1 word * 2 ^ 10) (bits 31 1 word)
    (omega arith) (bits-all 12 half fits) in
    let mid = bits-split 0 10 1 half (bits 8 4 word + bits 25 6 word * 2 ^ 4) (bits 7 1 word) (omega arith) top.0 in
    let low = bits-split 0 4 6 half (bits 8 4 word) (bits 25 6 word) b8 mid.0 in
    rw (top.1, mid.1, low.0, low.1, ← o, f, bits-join 0 7 1 word, bits-join 0 8 4 word, bits-join 0 12 3 word, bits-join 0 15 5 word, bits-join 0 20 5 word, bits-join 0 25 6 word, bits-join 0 31 1 word)
    (bits-all 32 word h)

pub u_whole : (word opcode : ℕ) → word < 2 ^ 32 → bits 0 7 word ≡ opcode
    → u_word opcode (bits 7 5 word) (bits 12 20 word) ≡ word
u_whole word opcode h o = rw (← o, bits-join 0 7 5 word, bits-join 0 12 20 word) (bits-all 32 word h)

pub j_whole : (word opcode : ℕ) → word < 2 ^ 32 → bits 0 7 word ≡ opcode
    → j_word opcode (bits 7 5 word) (j_half word) ≡ word
j_whole word opcode h o =
    let half : ℕ = j_half word in
    let b21 = bits_below 21 10 word in
    let b20 = bits_below 20 1 word in
    let b12 = bits_below 12 8 word in
    let b31 = bits_below 31 1 word in
    let fits : half < 2 ^ 20 = omega arith in
    let top = bits-split 0 19 1 half (bits 21 10 word + bits 20 1 word * 2 ^ 10 + bits 12 8 word * 2 ^ 11) (bits 31 1 word)
    (omega arith) (bits-all 20 half fits) in
    let mid = bits-split 0 11 8 half (bits 21 10 word + bits 20 1 word * 2 ^ 10) (bits 12 8 word) (omega arith) top.0 in
    let low = bits-split 0 10 1 half (bits 21 10 word) (bits 20 1 word) b21 mid.0 in
    rw (top.1, mid.1, low.0, low.1, ← o, bits-join 0 7 5 word, bits-join 0 12 8 word, bits-join 0 20 1 word, bits-join 0 21 10 word, bits-join 0 31 1 word)
    (bits-all 32 word h)

pub fence_whole : (word opcode funct3 : ℕ) → word < 2 ^ 32 → bits 0 7 word ≡ opcode → funct3 ≡ bits 12 3 word
    → fence_word opcode funct3 (fence_bits word) ≡ word
fence_whole word opcode funct3 h o f =
    let free : ℕ = fence_bits word in
    let b7 = bits_below 7 5 word in
    let b15 = bits_below 15 17 word in
    let fits : free < 2 ^ 22 = omega arith in
    let parts = bits-split 0 5 17 free (bits 7 5 word) (bits 15 17 word) b7 (bits-all 22 free fits) in
    rw (parts.0, parts.1, ← o, f, bits-join 0 7 5 word, bits-join 0 12 3 word, bits-join 0 15 17 word) (bits-all 32 word h)

-- ---- shifts and atomic accesses: formats I and R with parts

pub bit-same : (bit : Bool) → (bit_of bit == 1) ≡ bit
bit-same true = refl
bit-same false = refl

pub bit_of_below : (bit : Bool) → bit_of bit < 2 ^ 1
bit_of_below true = omega arith
bit_of_below false = omega arith

pub bit_of-run : (low word : ℕ) → bit_of (bits low 1 word == 1) ≡ bits low 1 word
bit_of-run low word =
    let b = bits_below low 1 word in
    cond_both (bits low 1 word == 1) 1 0 (λ n. n ≡ bits low 1 word)
    (λ e. sym (eqb-true (bits low 1 word) 1 e))
    (λ e. let n : bits low 1 word ≡ 1 → ⊥ = eqb-false (bits low 1 word) 1 e in omega arith)

pub record AtomicFields (word funct5 rd funct3 rs1 rs2 : ℕ) (aq rl : Bool) : Type 0 where
  pub opcode_is : bits 0 7 word ≡ 0x2F
  pub rd_is : bits 7 5 word ≡ rd
  pub funct3_is : bits 12 3 word ≡ funct3
  pub rs1_is : bits 15 5 word ≡ rs1
  pub rs2_is : bits 20 5 word ≡ rs2
  pub rl_is : rl_of word ≡ rl
  pub aq_is : aq_of word ≡ aq
  pub funct5_is : bits 27 5 word ≡ funct5

pub atomic_fields : (funct5 : ℕ) (width : Width) (rd rs1 rs2 : ℕ) (aq rl : Bool) → funct5 < 2 ^ 5
    → width_funct3 width < 2 ^ 3 → rd < 2 ^ 5 → rs1 < 2 ^ 5 → rs2 < 2 ^ 5
    → AtomicFields (atomic_word funct5 width rd rs1 rs2 aq rl) funct5 rd (width_funct3 width) rs1 rs2 aq rl
atomic_fields funct5 width rd rs1 rs2 aq rl g f d s t =
    let w : ℕ = atomic_word funct5 width rd rs1 rs2 aq rl in
    let a = bit_of_below aq in
    let b = bit_of_below rl in
    let r = r_fields 0x2F rd (width_funct3 width) rs1 rs2 (bit_of rl + bit_of aq * 2 ^ 1 + funct5 * 2 ^ 2)
    (omega arith) d f s t (omega arith) in
    let top = bits-split 25 2 5 w (bit_of rl + bit_of aq * 2 ^ 1) funct5 (omega arith) r.funct7_is in
    let low = bits-split 25 1 1 w (bit_of rl) (bit_of aq) b top.0 in
    record {
      opcode_is = r.opcode_is;
      rd_is = r.rd_is;
      funct3_is = r.funct3_is;
      rs1_is = r.rs1_is;
      rs2_is = r.rs2_is;
      rl_is = rw low.0 (bit-same rl);
      aq_is = rw low.1 (bit-same aq);
      funct5_is = top.1;
    }

pub atomic_whole : (word funct5 : ℕ) (width : Width) (rs2 : ℕ) → word < 2 ^ 32 → bits 0 7 word ≡ 0x2F
    → width_funct3 width ≡ bits 12 3 word → funct5 ≡ bits 27 5 word → rs2 ≡ bits 20 5 word
    → atomic_word funct5 width (bits 7 5 word) (bits 15 5 word) rs2 (aq_of word) (rl_of word) ≡ word
atomic_whole word funct5 width rs2 h o f g t =
    let funct7_is : bit_of (rl_of word) + bit_of (aq_of word) * 2 ^ 1 + funct5 * 2 ^ 2 ≡ bits 25 7 word =
    rw (bit_of-run 25 word, bit_of-run 26 word, g, bits-join 25 1 1 word) (bits-join 25 2 5 word) in
    rw t (r_whole word 0x2F (width_funct3 width) (bit_of (rl_of word) + bit_of (aq_of word) * 2 ^ 1 + funct5 * 2 ^ 2) h o f funct7_is)
