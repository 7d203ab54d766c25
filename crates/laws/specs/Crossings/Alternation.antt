-- When two edges cross, by the places of their ends.
use Rattle.std.specs.Prelude.{ℕ, ◌+◌, ◌*◌, ◌<◌, ◌≡◌, refl, Bool, true, false, not, ◌&&◌, ◌||◌, [], ◌∷◌, eqb, ltb}
use Rattle.std.proofs.Common.{add_comm, arith, sym, ap, ap₂, ◌∙◌, eq-eqb, ne_eqb, lt-ltb, le-ltb}
use Rattle.std.proofs.Math.Bool.{xor, or-false, or_comm}
use Rattle.model.specs.Lists.{one, any, no_repeats}
use Rattle.model.specs.Crossings.{between, alternate}
use Rattle.laws.specs.Sums.Indicators.{less, same, more, order, eqb_swap, beq_comm, one_and, one_not_or}

-- 1 if an edge with ends at places p and q crosses one with ends at r and s
unfoldable pub cross : ℕ → ℕ → ℕ → ℕ → ℕ
cross p q r s = one (no_repeats eqb (p ∷ q ∷ r ∷ s ∷ []) && alternate p q r s)

-- 1 if the four places rise
unfoldable pub rising : ℕ → ℕ → ℕ → ℕ → ℕ
rising i j k l = one (ltb i j) * (one (ltb j k) * one (ltb k l))

-- a place strictly between p and q, where p comes first
between_ordered : (p q x : ℕ) → p < q → between p q x ≡ (ltb p x && ltb x q)
unfolding between
between_ordered p q x l =
    elim (order x q) [
      | less b ↦ rw (le-ltb q x (omega arith)) (or-false (ltb p x && ltb x q))
      | same e ↦ rw (le-ltb q x (omega arith)) (or-false (ltb p x && ltb x q))
      | more b ↦ rw (lt-ltb q x b, le-ltb x p (omega arith)) (or-false (ltb p x && ltb x q))
    ]

-- the tests of two places, where the first comes first
record Rises (a b : ℕ) : Type 0 where
  apart : eqb a b ≡ false
  apart' : eqb b a ≡ false
  up : ltb a b ≡ true
  down : ltb b a ≡ false

rises : {a b : ℕ} → a < b → Rises a b
rises {a} {b} l =
    record {
      apart = ne_eqb a b (λ e. omega arith);
      apart' = ne_eqb b a (λ e. omega arith);
      up = lt-ltb a b l;
      down = le-ltb b a (omega arith);
    }

-- and where they are the same
record Meets (a b : ℕ) : Type 0 where
  meets : eqb a b ≡ true
  not_less : ltb a b ≡ false
  not_more : ltb b a ≡ false

same_place : {a b : ℕ} → a ≡ b → Meets a b
same_place {a} {b} e = record { meets = eq-eqb a b e; not_less = le-ltb a b (omega arith); not_more = le-ltb b a (omega arith) }

module _ (p q r s : ℕ) (pq : p < q) (rs : r < s) where
  -- each edge's lower place first: they cross when the places rise in turn, from one edge or from the other
  pub cross_ordered : cross p q r s ≡ rising p r q s + rising r p s q
  unfolding cross rising no_repeats any alternate xor one
  cross_ordered =
      rw (between_ordered p q r pq, between_ordered p q s pq, (rises pq).apart, (rises rs).apart)
      (elim (order p r) [
        | same e ↦ let pr = same_place e in simp (pr.meets, pr.not_less, pr.not_more) (omega arith)
        | less a ↦
            let pr = rises a in
            let ps : Rises p s = rises (omega arith) in
            elim (order q r) [
              | same e ↦
                  let qr = same_place e in
                  simp (pr.apart, pr.up, pr.down, ps.apart, ps.up, qr.meets, qr.not_more) (omega arith)
              | less b ↦
                  let qr = rises b in
                  let qs : Rises q s = rises (omega arith) in
                  simp (pr.apart, pr.up, pr.down, ps.apart, ps.up, qr.apart, qr.down, qs.apart, qs.down) (omega arith)
              | more b ↦
                  let rq = rises b in
                  elim (order q s) [
                    | same e ↦
                        let qs = same_place e in
                        simp (pr.apart, pr.up, pr.down, ps.apart, rq.apart', rq.up, qs.meets, qs.not_less) (omega arith)
                    | less c ↦
                        let qs = rises c in
                        simp (pr.apart, pr.up, pr.down, ps.apart, ps.up, rq.apart', rq.up, qs.apart, qs.up, qs.down) (omega arith)
                    | more c ↦
                        let sq = rises c in
                        simp (pr.apart, pr.up, pr.down, ps.apart, ps.up, rq.apart', rq.up, sq.apart', sq.up, sq.down) (omega arith)
                  ]
            ]
        | more a ↦
            let rp = rises a in
            let rq : Rises r q = rises (omega arith) in
            elim (order p s) [
              | same e ↦
                  let ps = same_place e in
                  simp (rp.apart', rp.up, rp.down, ps.meets, ps.not_less) (omega arith)
              | more b ↦
                  let sp = rises b in
                  let sq : Rises s q = rises (omega arith) in
                  simp (rp.apart', rp.up, rp.down, rq.apart', sp.apart', sp.down, sq.apart') (omega arith)
              | less b ↦
                  let ps = rises b in
                  elim (order q s) [
                    | same e ↦
                        let qs = same_place e in
                        simp (rp.apart', rp.up, rp.down, ps.apart, ps.up, rq.apart', qs.meets, qs.not_more) (omega arith)
                    | less c ↦
                        let qs = rises c in
                        simp (rp.apart', rp.up, rp.down, ps.apart, ps.up, rq.apart', qs.apart, qs.down) (omega arith)
                    | more c ↦
                        let sq = rises c in
                        simp (rp.apart', rp.up, rp.down, ps.apart, ps.up, rq.apart', rq.up, sq.apart', sq.up) (omega arith)
                  ]
            ]
      ])

-- ---- the ends and the edges may be exchanged

xor_comm : (a b : Bool) → xor a b ≡ xor b a
unfolding xor
xor_comm a b = ap not (beq_comm a b)

-- 1 if two places are different
apart : ℕ → ℕ → ℕ
apart a b = one (not (eqb a b))

apart_sym : (a b : ℕ) → apart a b ≡ apart b a
unfolding apart
apart_sym a b = ap (λ (t : Bool). one (not t)) (eqb_swap a b)

apart_self : (a : ℕ) → apart a a ≡ 0
unfolding apart one
apart_self a = rw (eq-eqb a a refl)

-- the tests of a crossing as a product
tests_product : (a b c d e f t : Bool)
    → one (not (a || (b || (c || false))) && (not (d || (e || false)) && (not (f || false) && true)) && t)
    ≡ one (not a) * (one (not b) * one (not c)) * (one (not d) * one (not e) * one (not f)) * one t
unfolding one
tests_product a b c d e f t = simp (one_and, one_not_or) (omega arith)

cross_product : (p q r s : ℕ)
    → cross p q r s ≡ apart p q * (apart p r * apart p s) * (apart q r * apart q s * apart r s) * one (alternate p q r s)
unfolding cross apart no_repeats any
cross_product p q r s =
    tests_product (eqb p q) (eqb p r) (eqb p s) (eqb q r) (eqb q s) (eqb r s) (alternate p q r s)

alternate_swap_left : (p q r s : ℕ) → alternate p q r s ≡ alternate q p r s
unfolding alternate between
alternate_swap_left p q r s =
    ap₂ xor (or_comm (ltb p r && ltb r q) (ltb q r && ltb r p)) (or_comm (ltb p s && ltb s q) (ltb q s && ltb s p))

alternate_swap_right : (p q r s : ℕ) → alternate p q r s ≡ alternate p q s r
unfolding alternate
alternate_swap_right p q r s = xor_comm (between p q r) (between p q s)

pub cross_swap_left : (p q r s : ℕ) → cross p q r s ≡ cross q p r s
cross_swap_left p q r s =
    rw (cross_product p q r s, cross_product q p r s, alternate_swap_left p q r s, apart_sym p q) (omega arith)

pub cross_swap_right : (p q r s : ℕ) → cross p q r s ≡ cross p q s r
cross_swap_right p q r s =
    rw (cross_product p q r s, cross_product p q s r, alternate_swap_right p q r s, apart_sym r s) (omega arith)

-- no edge from a place to itself crosses or is crossed
pub cross_left_same : (p q r s : ℕ) → p ≡ q → cross p q r s ≡ 0
cross_left_same p q r s e =
    rw (cross_product p q r s, ← (ap (λ (x : ℕ). apart p x) e), apart_self p) (omega arith)

pub cross_right_same : (p q r s : ℕ) → r ≡ s → cross p q r s ≡ 0
cross_right_same p q r s e =
    rw (cross_product p q r s, ← (ap (λ (x : ℕ). apart r x) e), apart_self r) (omega arith)

-- an edge does not cross itself
pub cross_self : (p q : ℕ) → cross p q p q ≡ 0
cross_self p q = rw (cross_product p q p q, apart_self p) (omega arith)

-- which edge is named first does not matter
pub cross_exchange : (p q r s : ℕ) → cross p q r s ≡ cross r s p q
cross_exchange p q r s =
    elim (order p q) [
      | less l ↦ second p q r s l
      | same e ↦ cross_left_same p q r s e ∙ sym (cross_right_same r s p q e)
      | more l ↦ cross_swap_left p q r s ∙ second q p r s l ∙ cross_swap_right r s q p
    ]
  where
    both : (p q r s : ℕ) → p < q → r < s → cross p q r s ≡ cross r s p q
    both p q r s l m =
        cross_ordered p q r s l m ∙ add_comm (rising p r q s) (rising r p s q) ∙ sym (cross_ordered r s p q m l)

    second : (p q r s : ℕ) → p < q → cross p q r s ≡ cross r s p q
    second p q r s l =
        elim (order r s) [
          | less m ↦ both p q r s l m
          | same e ↦ cross_right_same p q r s e ∙ sym (cross_left_same r s p q e)
          | more m ↦ cross_swap_right p q r s ∙ both p q s r l m ∙ cross_swap_left s r p q
        ]
