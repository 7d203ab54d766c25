-- Question 7: the edges of a chart joined in the words one after the other.
use Rattle.std.specs.Prelude.{Ok, Err, ℕ, suc, ◌/◌, ◌%◌, ◌<◌, ◌≡◌, refl, Bool, true, false, ◌&&◌, length, get_or, replicate}
use Rattle.std.specs.Simd.{first_chunks}
use Rattle.std.proofs.Common.{◌∙◌}
use native.Mathlib.Omega.{arith}
use Rattle.std.proofs.Math.Path.{sym, ap, ap₂}
use Rattle.std.proofs.Math.Bool.{not}
use mathlib.Core.List.{List, [], ◌∷◌, ◌++◌, map, append_assoc, append-nil}
use Rattle.std.proofs.Math.Dec.{eqb}
use Rattle.model.specs.declared.Edge.{Edge}
use Rattle.model.specs.declared.refusal.Refusal.TheVariants as because
use Rattle.model.specs.Answers.{number}
use Rattle.model.specs.Lists.{every, any, no_repeats}
use Rattle.model.specs.Crossings.{bit, linked}
use Rattle.model.specs.Edits.{with_bit, at_both_ends}
use Rattle.model.specs.Checks.{refusal, by_refusal, checked}
use Rattle.model.specs.Charts.{edges_in, edge_within, joins, same_edge, asked, answer, repeat_checks}
use Rattle.laws.specs.Layouts.EdgeEdits.{ends_within}
use Rattle.laws.specs.Sums.Any.{no_repeats_last, no_repeats_more}
use Rattle.laws.specs.Charts.Ends.{edge}
use Rattle.laws.specs.Charts.Wrapped.{wrapped, wrapped_edges}
use Rattle.laws.specs.Charts.Words.{adjacency_of, adjacency_linked, no_edges, edge_joined}

pub wrapped_checks : (links : List ℕ) → every (edge_within 64) (edges_in links) ≡ true → repeat_checks (wrapped links) ≡ repeat_checks links
unfolding repeat_checks
wrapped_checks links e = rw (wrapped_edges links e)

-- the words of the edges, or the words as they came where a pair is written again
unfoldable pub words_over : List ℕ → List ℕ → List ℕ
words_over adj s = checked (repeat_checks s) (adjacency_of (edges_in s)) (λ _. adj)

-- of links with ends below 64, each pair once
pub words_once : (adj links : List ℕ) → every (edge_within 64) (edges_in links) ≡ true → refusal (repeat_checks links) ≡ 0
    → words_over adj (wrapped links) ≡ adjacency_of (edges_in links)
unfolding words_over checked by_refusal
words_once adj links e z = rw (wrapped_checks links e, wrapped_edges links e, z)

-- the edge of two bytes, each modulo 64
unfoldable pub pair_edge : List ℕ → Edge
pair_edge pair = edge (get_or pair 0 0 % 64) (get_or pair 1 0 % 64)

pairs_wrapped : (s : List ℕ) → edges_in (wrapped s) ≡ map pair_edge (first_chunks 2 (length s / 2) s)
unfolding wrapped edges_in edge pair_edge
pairs_wrapped [] = refl
pairs_wrapped (a ∷ []) = refl
pairs_wrapped (a ∷ b ∷ rest) =
    let half : suc (length rest / 2) ≡ length (a ∷ b ∷ rest) / 2 = omega arith in
    ap (λ (es : List Edge). pair_edge (a ∷ b ∷ []) ∷ es) (pairs_wrapped rest)
    ∙ ap (λ (k : ℕ). map pair_edge (first_chunks 2 k (a ∷ b ∷ rest))) half

-- the edges before those of some pairs are joined, each once
pub record JoinedUpTo (links adj : List ℕ) (pairs : List (List ℕ)) : Type 0 where
  pub done : List Edge
  pub split : edges_in (wrapped links) ≡ done ++ map pair_edge pairs
  pub once : no_repeats same_edge done ≡ true
  pub words : adj ≡ adjacency_of done

-- a pair is written already exactly when its bit is set
set_already : (es : List Edge) (a b : ℕ) → a < 64 → b < 64 → eqb (bit (get_or (adjacency_of es) a 0) b) 1 ≡ any (λ e. same_edge e (edge a b)) es
unfolding joins edge linked
set_already es a b h l = adjacency_linked es a b h l

-- what comes back: the answer, and the words
module _ (s before : List ℕ) where
  said_once : no_repeats same_edge (edges_in s) ≡ true → {adj : List ℕ} → adj ≡ adjacency_of (edges_in s)
      → (asked (Ok tt) ≡ answer (repeat_checks s) []) × (adj ≡ words_over before s)
  unfolding repeat_checks answer words_over checked by_refusal refusal asked number
  said_once e words = (rw e, rw e words)

  said_again : no_repeats same_edge (edges_in s) ≡ false → (asked (Err because.RepeatedEdge) ≡ answer (repeat_checks s) []) × (before ≡ words_over before s)
  unfolding repeat_checks answer words_over checked by_refusal refusal asked number
  said_again e = (rw e, rw e)

module _ {links adj : List ℕ} where
  pub joined_start : adj ≡ replicate 64 0 → {pairs : List (List ℕ)} → pairs ≡ first_chunks 2 (length links / 2) links → JoinedUpTo links adj pairs
  unfolding no_repeats
  joined_start e p = record { done = []; split = pairs_wrapped links ∙ ap (map pair_edge) (sym p); once = refl; words = e ∙ no_edges }

  module _ {pairs : List (List ℕ)} (r : JoinedUpTo links adj pairs) where
    -- at the end
    pub joined_end : pairs ≡ [] → (before : List ℕ)
        → (asked (Ok tt) ≡ answer (repeat_checks (wrapped links)) []) × (adj ≡ words_over before (wrapped links))
    joined_end h before =
        said_once (wrapped links) before (ap (no_repeats same_edge) all ∙ r.once) (r.words ∙ ap adjacency_of (sym all))
      where
        all : edges_in (wrapped links) ≡ r.done
        all = r.split ∙ ap (λ (x : List (List ℕ)). r.done ++ map pair_edge x) h ∙ append-nil r.done

    module _ {pair : List ℕ} {more : List (List ℕ)} (h : pairs ≡ pair ∷ more) where
      first : ℕ
      first = get_or pair 0 0 % 64

      second : ℕ
      second = get_or pair 1 0 % 64

      first_below : first < 64
      unfolding first
      first_below = omega arith

      second_below : second < 64
      unfolding second
      second_below = omega arith

      new : Edge
      new = edge first second

      -- one edge further
      further : edges_in (wrapped links) ≡ (r.done ++ (new ∷ [])) ++ map pair_edge more
      unfolding new first second pair_edge
      further =
          r.split ∙ ap (λ (x : List (List ℕ)). r.done ++ map pair_edge x) h
          ∙ sym (append_assoc r.done (new ∷ []) (map pair_edge more))

      -- its bit, and whether it is a repeat
      repeats : {t : Bool} → eqb (bit (get_or adj first 0) second) 1 ≡ t → no_repeats same_edge (r.done ++ (new ∷ [])) ≡ not t
      unfolding new
      repeats {t} e =
          no_repeats_last same_edge r.done new
          ∙ ap₂ (λ (x y : Bool). x && not y) r.once
          (sym (set_already r.done first second first_below second_below)
          ∙ ap (λ (x : List ℕ). eqb (bit (get_or x first 0) second) 1) (sym r.words)
          ∙ e)

      pub joined_next : eqb (bit (get_or adj (get_or pair 0 0 % 64) 0) (get_or pair 1 0 % 64)) 1 ≡ false → {next : List ℕ}
          → next ≡ at_both_ends with_bit adj (get_or pair 0 0 % 64 % 64) (get_or pair 1 0 % 64 % 64) → JoinedUpTo links next more
      unfolding new first second
      joined_next e q =
          record {
            done = r.done ++ (new ∷ []);
            split = further;
            once = repeats e;
            words =
                ends_within with_bit adj first_below second_below q
                ∙ ap (λ (x : List ℕ). at_both_ends with_bit x first second) r.words
                ∙ edge_joined r.done first second first_below second_below;
          }

      -- a pair written again
      pub joined_again : eqb (bit (get_or adj (get_or pair 0 0 % 64) 0) (get_or pair 1 0 % 64)) 1 ≡ true → (before : List ℕ)
          → (asked (Err because.RepeatedEdge) ≡ answer (repeat_checks (wrapped links)) []) × (before ≡ words_over before (wrapped links))
      unfolding first second
      joined_again e before =
          said_again (wrapped links) before
          (ap (no_repeats same_edge) further ∙ no_repeats_more same_edge (r.done ++ (new ∷ [])) (map pair_edge more) (repeats e))
