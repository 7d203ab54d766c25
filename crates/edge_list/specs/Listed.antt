-- The edges listed in an array, two bytes for each.
use Rattle.std.specs.Prelude.{ℕ, suc, ◌*◌, ◌/◌, ◌≤◌, ◌<◌, ◌≡◌, List, [], ◌∷◌, ◌++◌, map, length, get_or, drop}
use Rattle.std.proofs.Common.{arith, ◌∙◌, subst, sym, drop_of_length-le, ext_get_or, drop-cons}
use Rattle.std.proofs.Math.Path.{ap}
use Rattle.std.proofs.Math.ListN.{length-map, get_or-map}
use Rattle.model.specs.declared.Edge.{Edge}
use Rattle.model.specs.Lists.{upto}
use Rattle.model.specs.Crossings.{edges}
use Rattle.model.specs.WrittenCharts.{edge_bytes}
use Rattle.laws.specs.Sums.Lists.{All, all_at, length_upto, upto_at}
use Rattle.laws.specs.Crossings.Edges.{Within, all_edges}
use Rattle.laws.specs.Crossings.Bound.{most_edges, edges_few}
use Rattle.laws.specs.Buffers.Writing.{Written, written_size, written_whole}
use Rattle.laws.specs.Buffers.EdgeBytes.{edge_bytes_length, edge_at, edge_bytes_at}
use Rattle.text.specs.Room.{Put}
use Rattle.edge_list.specs.Rows.{listed_edges, listed_few}

-- the first k of them
unfoldable pub listed : List ℕ → ℕ → List Edge
listed ends k = map (edge_at ends) (upto k)

module _ (ends : List ℕ) where
  pub length_listed : (k : ℕ) → length (listed ends k) ≡ k
  unfolding listed
  length_listed k = length-map (upto k) (edge_at ends) ∙ length_upto k

  pub listed_at : (k i : ℕ) → i < k → get_or (listed ends k) i (edge_at ends 0) ≡ edge_at ends i
  unfolding listed
  listed_at k i h = get_or-map (edge_at ends) (upto k) i 0 ∙ ap (edge_at ends) (upto_at k i h)

  -- from place i on
  pub listed_from : (k i : ℕ) → i < k → drop i (listed ends k) ≡ edge_at ends i ∷ drop (suc i) (listed ends k)
  listed_from k i h =
      drop-cons (listed ends k) i (edge_at ends 0) (rw (length_listed k) h)
      ∙ ap (λ (e : Edge). e ∷ drop (suc i) (listed ends k)) (listed_at k i h)

  pub listed_beyond : (k i : ℕ) → k ≤ i → drop i (listed ends k) ≡ []
  listed_beyond k i h = drop_of_length-le (listed ends k) {i = i} (omega (arith, length_listed k))

-- what was written as the bytes of some edges lists them
pub listed_bytes_lem : (es : List Edge) {start ends : List ℕ} {end : ℕ} → Written start 0 (edge_bytes es) ends end → listed ends (end / 2) ≡ es
listed_bytes_lem es {start} {ends} {end} w =
    let rest = drop (length (edge_bytes es)) start in
    let whole : ends ≡ edge_bytes es ++ rest = (written_whole w).0 in
    let number : end / 2 ≡ length es = omega (arith, (written_whole w).1, edge_bytes_length es) in
    let d = edge_at ends 0 in
    rw number
    (ext_get_or d (listed ends (length es)) es (length_listed ends (length es))
    (λ i l.
    (let below : i < length es = rw (length_listed ends (length es)) at l in
    listed_at ends (length es) i below ∙ ap (λ (xs : List ℕ). edge_at xs i) whole ∙ edge_bytes_at d es rest i below)))

-- their ends are vertices
pub listed_within : (n : ℕ) (adj ends : List ℕ) {count : ℕ} → listed ends count ≡ edges n adj
    → (i : ℕ) → i < count → Within n (edge_at ends i)
listed_within n adj ends {count} e i h =
    subst (Within n) (listed_at ends count i h)
    (all_at (edge_at ends 0) (subst (All (Within n)) (sym e) (all_edges n adj)) i (rw (length_listed ends count) h))

-- the edges of at most 64 vertices were put into an array that has room for the most
module _ (n : ℕ) (adj : List ℕ) (small : n ≤ 64) {start ends : List ℕ} {end : ℕ} (size : length start ≡ 2 * most_edges)
    (put : let es = listed_edges n adj in Put (2 * length es) start 0 (edge_bytes es) ends end) where
  few : length (edges n adj) ≤ most_edges
  few = edges_few n adj small

  all_put : Written start 0 (edge_bytes (edges n adj)) ends end
  all_put =
      let es = listed_few n adj small in
      rw es at (put.fits (omega (arith, few, size, ap length es)))

  -- all are listed, and the bytes are there
  pub all_listed : listed ends (end / 2) ≡ edges n adj
  all_listed = listed_bytes_lem (edges n adj) all_put

  inside : end ≤ length start
  inside = omega (arith, (written_whole all_put).1, edge_bytes_length (edges n adj), few, size)

  pub all_fit : 2 * (end / 2) ≤ length ends
  all_fit = omega (arith, inside, written_size all_put inside)
