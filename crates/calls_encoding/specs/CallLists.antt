-- Calls read from a list of numbers: the call at a place, and where the list ends.
use Rattle.std.specs.Prelude.{Option, Some, None, ℕ, zero, suc, ◌+◌, ◌*◌, ◌/◌, ◌≤◌, ◌<◌, ◌≡◌, refl, List, [], ◌∷◌, ◌++◌, length, get_or, take, drop, cond, ltb}
use Rattle.std.proofs.Common.{not-suc-le-zero, add-zero, add-one, arith, sym, ◌∙◌, take-suc, drop-drop, get_or-drop, lt-ltb, le-ltb}
use Rattle.std.proofs.Math.Path.{ap}
use Rattle.model.specs.declared.Call.{Call}
use Rattle.model.specs.declared.Call.TheVariants as call
use Rattle.model.specs.Playing.{call_width, call_of, first_call, followed, calls_in, calls_of}
use Rattle.laws.specs.Sums.Indicators.{less, same, more, order}

-- call i of the numbers, or none where there are no numbers for it
unfoldable pub call_at : List ℕ → ℕ → Option Call
call_at s i = cond (ltb i (length s / call_width)) (first_call (drop (call_width * i) s)) None

-- as a list of one call or of none
unfoldable pub call_there : List ℕ → ℕ → List Call
call_there s i = followed (call_at s i) []

-- a call's numbers, from a place on
call_from : (s : List ℕ) (at : ℕ) → call_of (get_or s at 0) (get_or s (at + 1) 0) (get_or s (at + 2) 0) (get_or s (at + 3) 0) ≡ first_call (drop at s)
unfolding first_call
call_from s at = simp (get_or-drop, add-zero)

module _ (s : List ℕ) (i : ℕ) where
  pub there_next : {c : Call} → call_at s i ≡ Some c → call_there s i ≡ c ∷ []
  unfolding call_there followed
  there_next e = ap (λ (d : Option Call). followed d []) e

  pub there_end : call_at s i ≡ None → call_there s i ≡ []
  unfolding call_there followed
  there_end e = ap (λ (d : Option Call). followed d []) e

  pub call_beyond : length s / call_width ≤ i → None ≡ call_at s i
  unfolding call_at
  call_beyond h = rw (le-ltb i (length s / call_width) h)

  call_inside : i < length s / call_width → call_at s i ≡ first_call (drop (call_width * i) s)
  unfolding call_at
  call_inside h = rw (lt-ltb i (length s / call_width) h)

  -- its numbers
  pub call_numbers : i < length s / call_width → call_of (get_or s (call_width * i) 0) (get_or s (call_width * i + 1) 0) (get_or s (call_width * i + 2) 0)
      (get_or s (call_width * i + 3) 0) ≡ call_at s i
  call_numbers h = call_from s (call_width * i) ∙ sym (call_inside h)

-- ---- at most k calls

calls_most : (k : ℕ) (s : List ℕ) → length (calls_in k s) ≤ k
unfolding calls_in followed
calls_most zero s = omega arith
calls_most (suc k) s = by_first (first_call s) (calls_most k (drop call_width s))
  where
    by_first : (d : Option Call) → length (calls_in k (drop call_width s)) ≤ k → length (followed d (calls_in k (drop call_width s))) ≤ suc k
    by_first (Some c) h = omega arith
    by_first None h = omega arith

-- the numbers of the call behind the first ones
behind : (j : ℕ) (s : List ℕ) → drop (call_width * suc j) s ≡ drop (call_width * j) (drop call_width s)
behind j s =
    let size : call_width * suc j ≡ call_width + call_width * j = omega arith in
    ap (λ (k : ℕ). drop k s) size ∙ sym (drop-drop (call_width * j) call_width s)

-- each call of the list is the one at its place
call_there_lem : (k : ℕ) (s : List ℕ) (i : ℕ) → i < length (calls_in k s) → first_call (drop (call_width * i) s) ≡ Some (get_or (calls_in k s) i call.AddVertex)
unfolding calls_in followed
call_there_lem zero s i h = absurd (not-suc-le-zero h)
call_there_lem (suc k) s i h = by_first (first_call s) refl i h (call_there_lem k (drop call_width s))
  where
    rest : List Call
    rest = calls_in k (drop call_width s)

    by_first : (d : Option Call) → first_call s ≡ d → (i : ℕ) → i < length (followed d rest)
        → ((j : ℕ) → j < length rest → first_call (drop (call_width * j) (drop call_width s)) ≡ Some (get_or rest j call.AddVertex))
        → first_call (drop (call_width * i) s) ≡ Some (get_or (followed d rest) i call.AddVertex)
    by_first (Some c) e zero h r = e
    by_first (Some c) e (suc j) h r = ap first_call (behind j s) ∙ r j (omega arith)
    by_first None e i h r = absurd (not-suc-le-zero h)

-- a call at the place behind the last one counted is one more
one_more : (k : ℕ) (s : List ℕ) (i : ℕ) {c : Call} → i < k → i ≤ length (calls_in k s) → first_call (drop (call_width * i) s) ≡ Some c
    → i < length (calls_in k s)
unfolding calls_in followed
one_more zero s i b h e = absurd (not-suc-le-zero b)
one_more (suc k) s i {c} b h e = by_first (first_call s) refl i b h e (λ j. one_more k (drop call_width s) j)
  where
    rest : List Call
    rest = calls_in k (drop call_width s)

    by_first : (d : Option Call) → first_call s ≡ d → (i : ℕ) → i < suc k → i ≤ length (followed d rest) → first_call (drop (call_width * i) s) ≡ Some c
        → ((j : ℕ) → j < k → j ≤ length rest → first_call (drop (call_width * j) (drop call_width s)) ≡ Some c → j < length rest)
        → i < length (followed d rest)
    by_first (Some x) q zero b h e r = omega arith
    by_first (Some x) q (suc j) b h e r =
        let more = r j (omega arith) (omega arith) (ap first_call (sym (behind j s)) ∙ e) in
        omega arith
    by_first None q zero b h e r =
        let z : ◌≡◌ {A = ℕ} 0 1 = cc in
        absurd (omega arith)
    by_first None q (suc j) b h e r = absurd (not-suc-le-zero h)

-- ---- the whole list

module _ (s : List ℕ) where
  pub calls_fit : length (calls_of s) ≤ length s / call_width
  unfolding calls_of
  calls_fit = calls_most (length s / call_width) s

  pub counted_next : {i : ℕ} {c : Call} → i < length s / call_width → i ≤ length (calls_of s) → call_at s i ≡ Some c → i + 1 ≤ length (calls_of s)
  unfolding calls_of
  counted_next {i} b h e = rw (add-one i) (one_more (length s / call_width) s i b h (sym (call_inside s i b) ∙ e))

  -- the call that the list has there
  listed : {i : ℕ} → i < length (calls_of s) → call_at s i ≡ Some (get_or (calls_of s) i call.AddVertex)
  unfolding calls_of
  listed {i} h = call_inside s i (omega (arith, calls_fit)) ∙ call_there_lem (length s / call_width) s i h

  pub counted_end : {i : ℕ} → i ≤ length (calls_of s) → call_at s i ≡ None → i ≡ length (calls_of s)
  counted_end {i} h e =
      elim (order i (length (calls_of s))) [
        | less l ↦
            let f = listed l in
            let z : ◌≡◌ {A = ℕ} 0 1 = cc in
            absurd (omega arith)
        | same q ↦ q
        | more l ↦ absurd (omega arith)
      ]

  -- one call more
  pub next_call : (i : ℕ) → i < length (calls_of s) → take (i + 1) (calls_of s) ≡ take i (calls_of s) ++ call_there s i
  next_call i h =
      ap (λ (k : ℕ). take k (calls_of s)) (add-one i)
      ∙ take-suc (calls_of s) i call.AddVertex h
      ∙ ap (λ (xs : List Call). take i (calls_of s) ++ xs) (sym (there_next s i (listed h)))

  pub there_size : {i : ℕ} → i < length (calls_of s) → length (call_there s i) ≡ 1
  there_size {i} h = ap length (there_next s i (listed h))
