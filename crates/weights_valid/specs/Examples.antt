-- Three vertices with the edges 0-1 of weight 5 and 1-2 of weight 255, and tables that do not fit.
use Rattle.std.specs.Prelude.{ℕ, not, ◌&&◌, List, ◌∷◌, ◌++◌, set, replicate, T}
use Rattle.model.specs.Lists.{upto, every}
use Rattle.model.specs.Crossings.{bit, linked}
use Rattle.model.specs.Layouts.{is_weight, row_of, even_weights, weighs_edges, blank_from, weights_fit}

unfoldable words : List ℕ
words = 2 ∷ 5 ∷ 2 ∷ replicate 61 0

unfoldable table : List ℕ
table = (0 ∷ 5 ∷ replicate 62 0) ++ (5 ∷ 0 ∷ 255 ∷ replicate 61 0) ++ (0 ∷ 255 ∷ replicate 3966 0)

fitting : T (weights_fit 3 words table)
unfolding weights_fit even_weights weighs_edges is_weight blank_from row_of linked bit table words every upto
fitting = tt

-- one way round only; an edge without a weight, and with one of 256; a weight without an edge; a weight beyond the vertices, in a row and in a column
not_fitting :
    T (not (weights_fit 3 words (set table 1 4))
    && not (weights_fit 3 words (set (set table 1 0) 64 0))
    && not (weights_fit 3 words (set (set table 1 256) 64 256))
    && not (weights_fit 3 words (set (set table 2 7) 128 7))
    && not (weights_fit 3 words (set table 4095 1))
    && not (weights_fit 3 words (set table 3 1)))
unfolding weights_fit even_weights weighs_edges is_weight blank_from row_of linked bit table words every upto
not_fitting = tt
