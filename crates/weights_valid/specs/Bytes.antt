-- Weights that are 0 exactly where there is no edge, asked of the words a byte at a time.
use Rattle.std.specs.Prelude.{ℕ, zero, suc, ◌+◌, ◌*◌, ◌-◌, ◌/◌, ◌%◌, ◌^◌, ◌≤◌, ◌<◌, ◌≡◌, refl, Bool, true, false, ◌&&◌, List, length, get_or, set, replicate, T, eqb, leb, ltb}
use Rattle.std.proofs.Common.{not-suc-le-zero, add-zero, pow-suc, mul-one, arith, sym, ap, ◌∙◌, subst, pow_mono, shr-shr, length-set, get_or-set_same, get_or-set_other, below_more, eq-eqb, eqb-true, le-leb}
use Rattle.std.specs.Bool.{beq}
use Rattle.std.proofs.Math.Arith.{digits_div, digits_mod}
use Rattle.std.proofs.lemmas.Nat.{and_mask}
use Rattle.std.proofs.lemmas.List.{length-replicate, get_or-replicate}
use Rattle.model.specs.Lists.{one, upto, every}
use Rattle.model.specs.Crossings.{bit, linked}
use Rattle.model.specs.Layouts.{table_weight}
use Rattle.laws.specs.Sums.Bits.{bit_lt, bit_first, bit_next, bits_ext, bit_and_lem}
use Rattle.laws.specs.Sums.Indicators.{T_true, bool_ext, beq_self, beq_eq, one_le}
use Rattle.laws.specs.Sums.Every.{every_upto, upto_every}
use Rattle.laws.specs.Crossings.Masks.{bit_full}

-- ---- eight rows at a time

unfoldable pub agrees : List ℕ → List ℕ → ℕ → ℕ → Bool
agrees adj ws v u = beq (ltb 0 (table_weight ws u v)) (linked adj v u)

-- rows 8 * k to 8 * k + 7, column by column
unfoldable pub group_fits : List ℕ → List ℕ → ℕ → Bool
group_fits adj ws k = every (λ v. every (λ i. agrees adj ws v (8 * k + i)) (upto 8)) (upto 64)

unfoldable pub on_edges : List ℕ → List ℕ → Bool
on_edges adj ws = every (group_fits adj ws) (upto 8)

pub edges_agree : (adj ws : List ℕ) → T (on_edges adj ws)
    → (u v : ℕ) → u < 64 → v < 64 → ltb 0 (table_weight ws u v) ≡ linked adj v u
unfolding on_edges group_fits agrees
edges_agree adj ws t u v l m =
    let e : 8 * (u / 8) + u % 8 ≡ u = omega arith in
    let group = every_upto (group_fits adj ws) 8 t (u / 8) (omega arith) in
    let column = every_upto (λ x. every (λ i. agrees adj ws x (8 * (u / 8) + i)) (upto 8)) 64 group v m in
    let here = every_upto (λ i. agrees adj ws v (8 * (u / 8) + i)) 8 column (u % 8) (omega arith) in
    beq_eq (ltb 0 (table_weight ws u v)) (linked adj v u) (subst (λ (x : ℕ). T (agrees adj ws v x)) e here)

pub agree_edges : (adj ws : List ℕ)
    → ((u v : ℕ) → u < 64 → v < 64 → ltb 0 (table_weight ws u v) ≡ linked adj v u) → T (on_edges adj ws)
unfolding on_edges group_fits agrees
agree_edges adj ws h =
    upto_every (group_fits adj ws) 8
    (λ k l. upto_every (λ v. every (λ i. agrees adj ws v (8 * k + i)) (upto 8)) 64
    (λ v m. upto_every (λ i. agrees adj ws v (8 * k + i)) 8
    (λ i b. subst (λ (t : Bool). T (beq t (linked adj v (8 * k + i)))) (sym (h (8 * k + i) v (omega arith) m))
    (beq_self (linked adj v (8 * k + i))))))

-- ---- a byte of a word for each column

one_beq : (a b : Bool) → one a ≡ one b → T (beq a b)
unfolding one
one_beq true true e = tt
one_beq true false e = absurd (omega arith)
one_beq false true e = absurd (omega arith)
one_beq false false e = tt

unfoldable pub byte_of : ℕ → ℕ → ℕ
byte_of word k = word / 2 ^ (8 * k) % 256

unfoldable pub bits_fit : List ℕ → List ℕ → ℕ → Bool
bits_fit adj bits k = every (λ v. eqb (byte_of (get_or adj v 0) k) (get_or bits v 0)) (upto 64)

bit_one : (b : ℕ) → b < 2 → one (eqb b 1) ≡ b
unfolding one
bit_one zero h = refl
bit_one (suc zero) h = refl
bit_one (suc (suc b)) h = absurd (omega arith)

bit_joined : (adj : List ℕ) (v u : ℕ) → bit (get_or adj v 0) u ≡ one (linked adj v u)
unfolding linked
bit_joined adj v u = sym (bit_one (bit (get_or adj v 0) u) (bit_lt (get_or adj v 0) u))

bit_shifted : (word m i : ℕ) → bit (word / 2 ^ m) i ≡ bit word (m + i)
unfolding bit
bit_shifted word m i = ap (λ (x : ℕ). x % 2) (shr-shr word m i)

bit_byte : (adj : List ℕ) (v k i : ℕ) → i < 8 → bit (byte_of (get_or adj v 0) k) i ≡ one (linked adj v (8 * k + i))
unfolding byte_of
bit_byte adj v k i h =
    let shifted = get_or adj v 0 / 2 ^ (8 * k) in
    ap (λ (x : ℕ). bit x i) (sym (and_mask shifted 8))
    ∙ bit_and_lem shifted 255 i
    ∙ ap (λ (x : ℕ). bit shifted i * x) (bit_full 8 i h)
    ∙ mul-one (bit shifted i)
    ∙ bit_shifted (get_or adj v 0) (8 * k) i
    ∙ bit_joined adj v (8 * k + i)

byte_lt : (word k : ℕ) → byte_of word k < 2 ^ 8
unfolding byte_of
byte_lt word k = omega arith

-- a byte of a word compared with another one: that it is a byte, joined tells by itself
pub joined_byte : (word k d other more : ℕ) {byte : ℕ} → byte ≡ byte_of word k → eqb more 0 ≡ (eqb d 0 && (eqb byte other && leb byte 255))
    → eqb more 0 ≡ (eqb d 0 && eqb (byte_of word k) other)
joined_byte word k d other more {byte} e told =
    told
    ∙ ap (λ (x : ℕ). eqb d 0 && (eqb x other && leb x 255)) e
    ∙ ap (λ (t : Bool). eqb d 0 && (eqb (byte_of word k) other && t)) (le-leb (byte_of word k) 255 (omega (arith, byte_lt word k)))
    ∙ ap (λ (t : Bool). eqb d 0 && t) (and_true (eqb (byte_of word k) other))
  where
    and_true : (t : Bool) → (t && true) ≡ t
    and_true true = refl
    and_true false = refl

-- 1 where there is a weight
abbrev pub weighs : List ℕ → ℕ → ℕ → ℕ
weighs ws u v = one (ltb 0 (table_weight ws u v))

-- ---- the bytes made from eight rows, from the last one down

-- each still below 2^7
pub record Few (bits : List ℕ) : Type 0 where
  pub few : (v : ℕ) → v < 64 → get_or bits v 0 ≤ 127

-- row u has become the lowest bits
pub record RowAdded (ws : List ℕ) (u : ℕ) (before after : List ℕ) : Type 0 where
  pub size : length after ≡ 64
  pub on : (v : ℕ) → v < 64 → get_or after v 0 ≡ 2 * get_or before v 0 + weighs ws u v

-- up to column v
pub record AddedUpTo (ws : List ℕ) (u : ℕ) (before after : List ℕ) (v : ℕ) : Type 0 where
  pub inside : v ≤ 64
  pub size : length after ≡ 64
  pub added : (x : ℕ) → x < v → get_or after x 0 ≡ 2 * get_or before x 0 + weighs ws u x
  pub kept : (x : ℕ) → v ≤ x → get_or after x 0 ≡ get_or before x 0

module _ {ws : List ℕ} {u : ℕ} {before : List ℕ} where
  pub added_start : length before ≡ 64 → AddedUpTo ws u before before 0
  added_start e = record { inside = omega arith; size = e; added = λ x l. absurd (not-suc-le-zero l); kept = λ x l. refl }

  module _ {after : List ℕ} {v : ℕ} (a : AddedUpTo ws u before after v) where
    pub doubled_fits : v < 64 → Few before → 2 * get_or after v 0 ≤ 254
    doubled_fits h b = omega (arith, b.few v h, a.kept v (omega arith))

    module _ (h : v < 64) {bit : ℕ} (e : bit ≡ weighs ws u v) where
      pub added_fits : Few before → 2 * get_or after v 0 + bit ≤ 255
      added_fits b = omega (arith, b.few v h, a.kept v (omega arith), one_le (ltb 0 (table_weight ws u v)))

      pub added_next : AddedUpTo ws u before (set after v (2 * get_or after v 0 + bit)) (v + 1)
      added_next =
          record {
            inside = omega arith;
            size = length-set after v (2 * get_or after v 0 + bit) ∙ a.size;
            added =
                below_more (λ x. get_or (set after v (2 * get_or after v 0 + bit)) x 0 ≡ 2 * get_or before x 0 + weighs ws u x) v
                (λ x l. get_or-set_other after v x (2 * get_or after v 0 + bit) 0 (λ d. omega arith) ∙ a.added x l)
                (get_or-set_same after v (2 * get_or after v 0 + bit) 0 (omega (arith, a.size)) ∙ rw (a.kept v (omega arith), e));
            kept = λ x l. get_or-set_other after v x (2 * get_or after v 0 + bit) 0 (λ d. omega arith) ∙ a.kept x (omega arith);
          }

    pub added_end : 64 ≤ v → RowAdded ws u before after
    added_end h = record { size = a.size; on = λ x l. a.added x (omega arith) }

-- bit i of each byte is that of row 8 * k + (j + i)
pub record BitsFrom (ws : List ℕ) (k : ℕ) (bits : List ℕ) (j : ℕ) : Type 0 where
  pub inside : j ≤ 8
  pub size : length bits ≡ 64
  pub few : (v : ℕ) → v < 64 → get_or bits v 0 < 2 ^ (8 - j)
  pub on : (v i : ℕ) → v < 64 → j + i < 8 → bit (get_or bits v 0) i ≡ weighs ws (8 * k + (j + i)) v

module _ {ws : List ℕ} {k : ℕ} where
  pub bits_start : BitsFrom ws k (replicate 64 0) 8
  bits_start =
      record {
        inside = omega arith;
        size = length-replicate {A = ℕ} 64 0;
        few = λ v l. omega (arith, get_or-replicate {A = ℕ} 64 v 0 0 l);
        on = λ v i l m. absurd (omega arith);
      }

  module _ {bits : List ℕ} {j : ℕ} (b : BitsFrom ws k bits j) where
    pub bits_few : 0 < j → Few bits
    bits_few h =
        let least : 8 - j ≤ 7 = omega arith in
        record { few = λ v l. omega (arith, b.few v l, pow_mono least) }

    pub bits_next : 0 < j → {after : List ℕ} → RowAdded ws (8 * k + (j - 1)) bits after → BitsFrom ws k after (j - 1)
    bits_next h {after} a =
        record {
          inside = omega (arith, b.inside);
          size = a.size;
          few = λ v l. few_more v l;
          on = λ v i l m. bit_at v l i m;
        }
      where
        few_more : (v : ℕ) → v < 64 → get_or after v 0 < 2 ^ (8 - (j - 1))
        few_more v l =
            let e : 8 - (j - 1) ≡ suc (8 - j) = omega (arith, b.inside) in
            rw (e, pow-suc 2 (8 - j)) (omega (arith, b.few v l, a.on v l, one_le (ltb 0 (table_weight ws (8 * k + (j - 1)) v))))

        digits : (v : ℕ) → v < 64 → get_or after v 0 ≡ get_or bits v 0 * 2 + weighs ws (8 * k + (j - 1)) v
        digits v l = a.on v l ∙ omega arith

        added_lt : (v : ℕ) → weighs ws (8 * k + (j - 1)) v < 2
        added_lt v = omega (arith, one_le (ltb 0 (table_weight ws (8 * k + (j - 1)) v)))

        bit_at : (v : ℕ) → v < 64 → (i : ℕ) → j - 1 + i < 8 → bit (get_or after v 0) i ≡ weighs ws (8 * k + (j - 1 + i)) v
        bit_at v l zero m =
            bit_first (get_or after v 0)
            ∙ ap (λ (x : ℕ). x % 2) (digits v l)
            ∙ digits_mod (get_or bits v 0) (added_lt v)
            ∙ ap (λ (x : ℕ). weighs ws (8 * k + x) v) (sym (add-zero (j - 1)))
        bit_at v l (suc i) m =
            let e : j + i ≡ j - 1 + suc i = omega arith in
            bit_next (get_or after v 0) i
            ∙ ap (λ (x : ℕ). bit (x / 2) i) (digits v l)
            ∙ ap (λ (x : ℕ). bit x i) (digits_div (get_or bits v 0) (added_lt v))
            ∙ b.on v i l (omega arith)
            ∙ ap (λ (x : ℕ). weighs ws (8 * k + x) v) e

-- the bytes are those of the words exactly if the rows agree with them
pub bits_group : (adj : List ℕ) {ws : List ℕ} {k : ℕ} {bits : List ℕ} {j : ℕ} → BitsFrom ws k bits j → j ≤ 0
    → {r : Bool} → r ≡ bits_fit adj bits k → r ≡ group_fits adj ws k
unfolding bits_fit group_fits agrees
bits_group adj {ws} {k} {bits} {j} b z {r} told =
    told
    ∙ bool_ext (bits_fit adj bits k) (group_fits adj ws k)
    (λ t. upto_every (λ v. every (column v) (upto 8)) 64
    (λ v l. let same = eqb-true (byte_of (get_or adj v 0) k) (get_or bits v 0) (T_true (byte v) (every_upto byte 64 t v l)) in
    upto_every (column v) 8 (λ i m. same_there v i l m same)))
    (λ t. upto_every byte 64
    (λ v l. subst T
    (sym
    (eq-eqb (byte_of (get_or adj v 0) k) (get_or bits v 0)
    (bits_ext 8 (byte_of (get_or adj v 0) k) (get_or bits v 0) (byte_lt (get_or adj v 0) k) (small v l)
    (λ i m. there_same v i l m (every_upto (column v) 8 (every_upto (λ x. every (column x) (upto 8)) 64 t v l) i m)))))
    tt))
  where
    byte : ℕ → Bool
    byte v = eqb (byte_of (get_or adj v 0) k) (get_or bits v 0)

    column : ℕ → ℕ → Bool
    column v i = agrees adj ws v (8 * k + i)

    small : (v : ℕ) → v < 64 → get_or bits v 0 < 2 ^ 8
    small v l = let e : 8 - j ≡ 8 = omega arith in subst (λ (x : ℕ). get_or bits v 0 < 2 ^ x) e (b.few v l)

    on : (v i : ℕ) → v < 64 → i < 8 → bit (get_or bits v 0) i ≡ weighs ws (8 * k + i) v
    on v i l m =
        let e : j + i ≡ i = omega arith in
        b.on v i l (omega arith) ∙ ap (λ (x : ℕ). weighs ws (8 * k + x) v) e

    same_there : (v i : ℕ) → v < 64 → i < 8 → byte_of (get_or adj v 0) k ≡ get_or bits v 0 → T (column v i)
    same_there v i l m e =
        one_beq (ltb 0 (table_weight ws (8 * k + i) v)) (linked adj v (8 * k + i))
        (sym (on v i l m) ∙ ap (λ (x : ℕ). bit x i) (sym e) ∙ bit_byte adj v k i m)

    there_same : (v i : ℕ) → v < 64 → i < 8 → T (column v i) → bit (byte_of (get_or adj v 0) k) i ≡ bit (get_or bits v 0) i
    there_same v i l m t =
        bit_byte adj v k i m
        ∙ sym (on v i l m ∙ ap one (beq_eq (ltb 0 (table_weight ws (8 * k + i) v)) (linked adj v (8 * k + i)) t))
