-- The edges that a graph's bits choose among the pairs are those of the graph, and the pairs that are chosen tell the bits.
use Rattle.std.specs.Prelude.{ℕ, zero, suc, ◌*◌, ◌≤◌, ◌<◌, ◌≡◌, refl, Bool, true, false, not, cond, ◌||◌, List, [], ◌∷◌, map, length, take, eqb}
use Rattle.std.proofs.Common.{le_of_lt, le_of_suc-le-suc, lt_of_lt_of_le, lt_trans, mul-one, not-suc-le-zero, arith, sym, ap, ap₂, ◌∙◌}
use Rattle.std.proofs.Math.Nat.{min-eq_left, max-eq_right}
use Rattle.std.proofs.lemmas.Bool.{not-true}
use Rattle.model.specs.declared.Edge.{Edge}
use Rattle.model.specs.Lists.{one, any, keep, no_repeats}
use Rattle.model.specs.Crossings.{linked, edges}
use Rattle.model.specs.Charts.{same_edge, edge_within}
use Rattle.model.specs.Graph6.{pairs_by_higher, pair_bits, chosen}
use Rattle.laws.specs.Sums.Indicators.{one_le, both_left, both_right}
use Rattle.laws.specs.Sums.Lists.{All, none, also, map_ext, sum_over_keep}
use Rattle.laws.specs.Sums.Any.{any_none, none_any}
use Rattle.laws.specs.Sums.Pairs.{pair_sum_ext}
use Rattle.laws.specs.Crossings.Edges.{edge as rising, sum_over_edges}
use Rattle.laws.specs.Layouts.FirstCrossing.{self_same}
use Rattle.laws.specs.Graph6.Pairs.{pairs_within, sum_over_pairs, chosen_all}
use Rattle.laws.specs.Charts.Ends.{edge}
use Rattle.laws.specs.Charts.Words.{adjacency_of, adjacency_linked}
use Rattle.laws.specs.Charts.Reading.{same_edge_swap, joins_member}
use Rattle.laws.specs.Charts.Sequence.{written, SameEdges, few_once}
use Rattle.laws.specs.Crossings.Edges.{edge_rises, edge_below}
use Rattle.laws.specs.Charts.EdgeLists.{pair_sum_if_there}

-- ---- the pairs that are joined

-- a graph's own bits choose the pairs that it joins
pub own_chosen : (p : Edge → Bool) (es : List Edge) → chosen (map (λ e. one (p e)) es) es ≡ keep p es
unfolding chosen keep one
own_chosen p [] = refl
own_chosen p (e ∷ es) = by_test (p e) (own_chosen p es)
  where
    by_test : (t : Bool) → chosen (map (λ f. one (p f)) es) es ≡ keep p es
        → cond (eqb (one t) 1) (e ∷ chosen (map (λ f. one (p f)) es) es) (chosen (map (λ f. one (p f)) es) es) ≡ cond t (e ∷ keep p es) (keep p es)
    by_test true r = ap (λ (fs : List Edge). e ∷ fs) r
    by_test false r = r

-- these are its edges, in another sequence
pub own_edges : (n : ℕ) (adj : List ℕ) → SameEdges (keep (λ e. linked adj e.low e.high) (pairs_by_higher n)) (edges n adj)
unfolding written
own_edges n adj =
    record {
      often = λ e.
          sum_over_keep (λ f. one (same_edge e f)) (λ f. linked adj f.low f.high) (pairs_by_higher n)
          ∙ sum_over_pairs n (λ f. one (linked adj f.low f.high) * one (same_edge e f))
          ∙ sym (sum_over_edges n adj (λ f. one (same_edge e f)));
    }

-- ---- the bits of pairs that are chosen

-- no pair twice
pairs_once : (n : ℕ) → no_repeats same_edge (pairs_by_higher n) ≡ true
unfolding written
pairs_once n = few_once (pairs_by_higher n) (λ e. rw (often e) (one_le (edge_within n e)))
  where
    often : (e : Edge) → written e (pairs_by_higher n) ≡ one (edge_within n e)
    often e =
        sum_over_pairs n (λ f. one (same_edge e f))
        ∙ pair_sum_ext n (λ a b. one (same_edge e (rising a b))) (λ a b. 1 * one (same_edge e (rising a b))) (λ a b h l. omega arith)
        ∙ pair_sum_if_there n e (λ a b. 1)
        ∙ mul-one (one (edge_within n e))

-- a pair is among the chosen ones exactly if its bit is 1
told : (es : List Edge) {bits : List ℕ} → no_repeats same_edge es ≡ true → All (λ b. b ≤ 1) bits → length es ≤ length bits
    → map (λ e. one (any (same_edge e) (chosen bits es))) es ≡ take (length es) bits
unfolding no_repeats chosen any one
told [] once small h = refl
told (x ∷ xs) once none h = absurd (not-suc-le-zero h)
told (x ∷ xs) once (also {x = b} {xs = bs} p ps) h =
    ap₂ (λ (c : ℕ) (cs : List ℕ). c ∷ cs) (its_bit b p)
    (map_ext (λ e. one (any (same_edge e) (first (eqb b 1)))) (λ e. one (any (same_edge e) others)) different (λ e d. ap one (passed_over e (eqb b 1) d))
    ∙ told xs (both_right (not (any (same_edge x) xs)) (no_repeats same_edge xs) once) ps (le_of_suc-le-suc h))
  where
    -- those that are chosen behind the first pair, and with it if it is
    others : List Edge
    others = chosen bs xs

    first : Bool → List Edge
    first t = cond t (x ∷ others) others

    different : All (λ e. same_edge x e ≡ false) xs
    different = none_any (same_edge x) xs (not-true (any (same_edge x) xs) (both_left (not (any (same_edge x) xs)) (no_repeats same_edge xs) once))

    its_bit : (c : ℕ) → c ≤ 1 → one (any (same_edge x) (first (eqb c 1))) ≡ c
    its_bit zero l = ap one (any_none (chosen_all bs different))
    its_bit (suc zero) l = ap (λ (t : Bool). one (t || any (same_edge x) others)) (self_same x)
    its_bit (suc (suc c)) l = absurd (omega arith)

    passed_over : (e : Edge) (t : Bool) → same_edge x e ≡ false → any (same_edge e) (first t) ≡ any (same_edge e) others
    passed_over e true d = ap (λ (u : Bool). u || any (same_edge e) others) (same_edge_swap e x ∙ d)
    passed_over e false d = refl

-- so the words of the chosen pairs have the bits again
pub chosen_bits : {n : ℕ} {bits : List ℕ} → n ≤ 64 → All (λ b. b ≤ 1) bits → length (pairs_by_higher n) ≤ length bits
    → pair_bits n (adjacency_of (chosen bits (pairs_by_higher n))) ≡ take (length (pairs_by_higher n)) bits
unfolding pair_bits edge
chosen_bits {n} {bits} few small h =
    map_ext (λ e. one (linked (adjacency_of es) e.low e.high)) (λ e. one (any (same_edge e) es)) (pairs_within n) (λ e w. ap one (joined e w))
    ∙ told (pairs_by_higher n) (pairs_once n) small h
  where
    es : List Edge
    es = chosen bits (pairs_by_higher n)

    joined : (e : Edge) → edge_within n e ≡ true → linked (adjacency_of es) e.low e.high ≡ any (same_edge e) es
    joined e w =
        let rises = edge_rises n e w in
        let high : e.high < 64 = lt_of_lt_of_le (edge_below n e w) few in
        adjacency_linked es e.low e.high (lt_trans rises high) high
        ∙ joins_member e.low e.high es
        ∙ ap (λ (f : Edge). any (same_edge f) es) (ap₂ rising (min-eq_left (le_of_lt rises)) (max-eq_right (le_of_lt rises)))
