-- Reading a chart: the questions that have passed so far, what is known then, and what is read where one fails or all have passed.
use Prim.Native.Nat.{ℕ, zero, suc, ◌+◌, ◌≤◌}
use Rattle.std.proofs.Common.{Bor, not-suc-le-zero, le_of_suc-le-suc, ◌∙◌, take-append-drop, take-add, lit<, lit≤}
use Rattle.std.specs.Prelude.{Option, Result, Ok, Err, MatchOption, ◌≡◌, Bool, false, cond, drop, replicate, eqb, leb}
use Rattle.std.proofs.Math.Path.{refl, sym, ap, ap₂}
use Rattle.std.proofs.Math.Bool.{true}
use mathlib.Core.List.{List, [], ◌∷◌, ◌++◌, map}
use Rattle.std.proofs.Math.ListN.{length, get_or, take}
use borrow.Author.Tests.{leb-true, eqb-true}
use Rattle.model.specs.declared.Layout.{Layout}
use Rattle.model.specs.declared.refusal.Refusal.{Refusal}
use Rattle.model.specs.Answers.{LayoutRead, told_by}
use Rattle.model.specs.Lists.{every}
use Rattle.model.specs.Crossings.{edge_weight}
use Rattle.model.specs.Layouts.{each_once}
use Rattle.model.specs.Checks.{Check, refusal, by_refusal, checked}
use Rattle.model.specs.Charts.{body_of, chart_size, chart_edges, chart_order, chart_weights, has_weights, edges_in, edge_within, with_weights, table_in}
use Rattle.model.specs.Charts.{chart_layout, as_read, read_of}
use Rattle.model.specs.Charts.{Answer, accept, refuse, asked, size_found, answer, division_answer, tags_answer, size_answer}
use Rattle.model.specs.Charts.{chart_checks, size_checks, end_checks, repeat_checks, place_checks, weight_checks}
use Rattle.laws.specs.Sums.Lists.{All, none, also}
use Rattle.laws.specs.Sums.Indicators.{both_left, both_right}
use Rattle.laws.specs.Layouts.Refusals.{Numbered, passed, all_pass}
use Rattle.laws.specs.Charts.Ends.{within_mono}
use Rattle.laws.specs.Charts.Wrapped.{wrapped, wrapped_edges}
use Rattle.laws.specs.Charts.Words.{adjacency_of}
use Rattle.laws.specs.Charts.Padded.{padded, padded_copy}
use Rattle.laws.specs.Charts.Layouts.{count_read}
use Rattle.laws.specs.Charts.Passes.{refused_read, accepted_read, counted_layout, checked_append, answer_accepted, pass_refused, asked_passed}
use Rattle.laws.specs.Charts.Reading.{read_number, read_is, accepted_weights, chart_weight, layout_listed}
use Rattle.chart_bodies.specs.Words.{wrapped_checks, words_over, words_once}
use Rattle.chart_bodies.specs.Order.{order_question, question_eight}
use Rattle.chart_weights.specs.Listed.{weights_in, chart_weights_lem}

-- ---- one pass after the other

-- the first k questions have passed
pub record PassedFirst (k : ℕ) (s : List ℕ) : Type 0 where
  pub passed : refusal (take k (chart_checks s)) ≡ 0

pub none_asked : {s : List ℕ} → PassedFirst 0 s
unfolding refusal
none_asked = record { passed = refl }

numbered : (s : List ℕ) → Numbered (chart_checks s)
unfolding chart_checks size_checks end_checks repeat_checks place_checks weight_checks
numbered s = also (lit< tt) (also (lit< tt) (also (lit< tt) (also (lit< tt) (also (lit< tt) (also (lit< tt) (also (lit< tt) rest))))))
  where
    rest : Numbered (place_checks (chart_size s) (chart_order s) ++ weight_checks (body_of s 1) (chart_weights s))
    rest = also (lit< tt) (also (lit< tt) (also (lit< tt) none))

first_numbered : (k : ℕ) {cs : List Check} → Numbered cs → Numbered (take k cs)
first_numbered zero n = none
first_numbered (suc k) none = none
first_numbered (suc k) (also p ps) = also p (first_numbered k ps)

rest_numbered : (k : ℕ) {cs : List Check} → Numbered cs → Numbered (drop k cs)
rest_numbered zero n = n
rest_numbered (suc k) none = none
rest_numbered (suc k) (also p ps) = rest_numbered k ps

-- the next j of them are asked in one pass
module _ (j : ℕ) {k : ℕ} {s : List ℕ} (p : PassedFirst k s) where
  abbrev next : List Check
  next = take j (drop k (chart_checks s))

  next_numbered : Numbered next
  next_numbered = first_numbered j (rest_numbered k (numbered s))

  -- behind those that have passed
  behind : {A : Type 0} (cs : List Check) (x : A) (f : ℕ → A) → checked (take k (chart_checks s) ++ cs) x f ≡ checked cs x f
  unfolding by_refusal
  behind cs x f =
      checked_append (first_numbered k (numbered s)) cs x f ∙ ap (λ (r : ℕ). by_refusal r (checked cs x f) f) p.passed

  module _ (values : List ℕ) {a : Answer} (said : a ≡ answer next values) where
    pub pass_on : a.accepted ≡ true → PassedFirst (k + j) s
    unfolding checked by_refusal
    pass_on t =
        record {
          passed =
              ap refusal (take-add k j (chart_checks s))
              ∙ sym (by_number (refusal (take k (chart_checks s) ++ next)))
              ∙ behind next 0 (λ r. r)
              ∙ ap (λ (r : ℕ). by_refusal r 0 (λ x. x)) (answer_accepted next values said t).0;
        }
      where
        by_number : (r : ℕ) → by_refusal r 0 (λ x. x) ≡ r
        by_number zero = refl
        by_number (suc r) = refl

    pub pass_back : a.accepted ≡ false → refused_read a.code ≡ read_of s
    unfolding read_of refused_read
    pass_back t =
        pass_refused next_numbered values (drop j (drop k (chart_checks s))) (accepted_read (chart_layout s)) said t
        ∙ ap (λ (cs : List Check). checked cs (accepted_read (chart_layout s)) refused_read) (take-append-drop j (drop k (chart_checks s)))
        ∙ sym (behind (drop k (chart_checks s)) (accepted_read (chart_layout s)) refused_read)
        ∙ ap (λ (cs : List Check). checked cs (accepted_read (chart_layout s)) refused_read) (take-append-drop k (chart_checks s))

  -- of a pass that finds nothing but its answer
  asked_on : {r : Result (Unit {0}) Refusal} {x : Unit {0}} → r ≡ Ok x → asked r ≡ answer next [] → PassedFirst (k + j) s
  asked_on told said = pass_on [] said (asked_passed told)

  asked_back : {r : Result (Unit {0}) Refusal} {e : Refusal} → r ≡ Err e → asked r ≡ answer next [] → as_read (Err e) ≡ read_of s
  unfolding asked refuse as_read told_by refused_read
  asked_back told said = pass_back [] (ap asked (sym told) ∙ said) refl

-- ---- what is known once they have passed

-- the number of vertices has been read
pub record SizeRead (k : ℕ) (s : List ℕ) (n : ℕ) : Type 0 where
  pub passed : PassedFirst k s
  pub size : n ≡ chart_size s

-- those before have passed too
earlier_passed : (m k : ℕ) {cs : List Check} → Numbered cs → m ≤ k → refusal (take k cs) ≡ 0 → refusal (take m cs) ≡ 0
unfolding refusal
earlier_passed zero k n h z = refl
earlier_passed (suc m) zero n h z = absurd (not-suc-le-zero h)
earlier_passed (suc m) (suc k) none h z = refl
earlier_passed (suc m) (suc k) (also {x = c} {xs = cs} p ps) h z =
    let first = passed c (take k cs) p z in
    ap (λ (b : Bool). cond b (refusal (take m cs)) c.code) first.passes ∙ earlier_passed m k ps (le_of_suc-le-suc h) first.rest

pub earlier : (m : ℕ) {k : ℕ} {s : List ℕ} → m ≤ k → PassedFirst k s → PassedFirst m s
earlier m {k} {s} h p = record { passed = earlier_passed m k (numbered s) h p.passed }

module _ {s : List ℕ} where
  all_first : {k : ℕ} → PassedFirst k s → All (λ c. c.passes ≡ true) (take k (chart_checks s))
  all_first {k} p = all_pass (first_numbered k (numbered s)) p.passed

  pub size_small : PassedFirst 4 s → chart_size s ≤ 64
  unfolding chart_checks size_checks chart_size
  size_small p = from (all_first p)
    where
      from : All (λ c. c.passes ≡ true) (take 4 (chart_checks s)) → chart_size s ≤ 64
      from (also _ (also _ (also _ (also t none)))) = leb-true (chart_size s) 64 (both_right (eqb (length (body_of s 0)) 1) (leb (chart_size s) 64) t)

  ends_within : PassedFirst 6 s → every (edge_within (chart_size s)) (edges_in (body_of s 1)) ≡ true
  unfolding chart_checks size_checks end_checks
  ends_within p = from (all_first p)
    where
      from : All (λ c. c.passes ≡ true) (take 6 (chart_checks s)) → every (edge_within (chart_size s)) (edges_in (body_of s 1)) ≡ true
      from (also _ (also _ (also _ (also _ (also _ (also t none)))))) = t

  ends_small : PassedFirst 6 s → every (edge_within 64) (edges_in (body_of s 1)) ≡ true
  ends_small p = within_mono (chart_size s) 64 (size_small (earlier 4 (lit≤ tt) p)) (edges_in (body_of s 1)) (ends_within p)

  all_different : PassedFirst 7 s → refusal (repeat_checks (body_of s 1)) ≡ 0
  unfolding chart_checks size_checks end_checks repeat_checks refusal
  all_different p = from (all_first p)
    where
      from : All (λ c. c.passes ≡ true) (take 7 (chart_checks s)) → refusal (repeat_checks (body_of s 1)) ≡ 0
      from (also _ (also _ (also _ (also _ (also _ (also _ (also t none))))))) = rw t

  order_size : PassedFirst 8 s → length (body_of s 2) ≡ chart_size s
  unfolding chart_checks size_checks end_checks repeat_checks place_checks chart_order
  order_size p = from (all_first p)
    where
      from : All (λ c. c.passes ≡ true) (take 8 (chart_checks s)) → length (body_of s 2) ≡ chart_size s
      from (also _ (also _ (also _ (also _ (also _ (also _ (also _ (also t none)))))))) =
          eqb-true (length (body_of s 2)) (chart_size s) (both_left (eqb (length (body_of s 2)) (chart_size s)) (each_once (chart_size s) (body_of s 2)) t)

-- ---- questions 1 to 4

module _ (s : List ℕ) where
  division_asked : division_answer s ≡ answer (take 2 (chart_checks s)) []
  unfolding division_answer
  division_asked = refl

  pub read_divided : {r : Result (Unit {0}) Refusal} {x : Unit {0}} → r ≡ Ok x → asked r ≡ division_answer s → PassedFirst 2 s
  read_divided told said = asked_on 2 none_asked told (said ∙ division_asked)

  pub read_undivided : {r : Result (Unit {0}) Refusal} {e : Refusal} → r ≡ Err e → asked r ≡ division_answer s → as_read (Err e) ≡ read_of s
  read_undivided told said = asked_back 2 none_asked told (said ∙ division_asked)

module _ {s : List ℕ} (p : PassedFirst 2 s) where
  tags_asked : tags_answer s ≡ answer (take 1 (drop 2 (chart_checks s))) []
  unfolding tags_answer
  tags_asked = refl

  pub read_tagged : {r : Result (Unit {0}) Refusal} {x : Unit {0}} → r ≡ Ok x → asked r ≡ tags_answer s → PassedFirst 3 s
  read_tagged told said = asked_on 1 p told (said ∙ tags_asked)

  pub read_untagged : {r : Result (Unit {0}) Refusal} {e : Refusal} → r ≡ Err e → asked r ≡ tags_answer s → as_read (Err e) ≡ read_of s
  read_untagged told said = asked_back 1 p told (said ∙ tags_asked)

module _ {s : List ℕ} (p : PassedFirst 3 s) where
  size_asked : size_answer (body_of s 0) ≡ answer (take 1 (drop 3 (chart_checks s))) (chart_size s ∷ [])
  unfolding size_answer chart_checks size_checks chart_size
  size_asked = refl

  pub read_sized : {r : Result ℕ Refusal} {n : ℕ} → r ≡ Ok n → size_found r ≡ size_answer (body_of s 0) → SizeRead 4 s n
  unfolding size_found accept
  read_sized {n = n} told said =
      let asks_size = take 1 (drop 3 (chart_checks s)) in
      let found : size_found (Ok n) ≡ answer asks_size (chart_size s ∷ []) = ap size_found (sym told) ∙ said ∙ size_asked in
      record {
        passed = pass_on 1 p (chart_size s ∷ []) found refl;
        size = ap (λ (x : List ℕ). get_or x 0 0) (answer_accepted asks_size (chart_size s ∷ []) found refl).1;
      }

  pub read_missized : {r : Result ℕ Refusal} {e : Refusal} → r ≡ Err e → size_found r ≡ size_answer (body_of s 0) → as_read (Err e) ≡ read_of s
  unfolding size_found refuse as_read told_by refused_read
  read_missized told said = pass_back 1 p (chart_size s ∷ []) (ap size_found (sym told) ∙ said ∙ size_asked) refl

-- ---- the others, of the bodies

-- one pass further, the number of vertices known
on_with : {s : List ℕ} {n : ℕ} (j : ℕ) {k : ℕ} (p : SizeRead k s n) {r : Result (Unit {0}) Refusal} {x : Unit {0}} → r ≡ Ok x
    → asked r ≡ answer (take j (drop k (chart_checks s))) [] → SizeRead (k + j) s n
on_with j p told said = record { passed = asked_on j p.passed told said; size = p.size }

-- 5 and 6
module _ {s : List ℕ} {n : ℕ} (p : SizeRead 4 s n) {links : List ℕ} (l : links ≡ body_of s 1) where
  ends_asked : answer (end_checks n links) [] ≡ answer (take 2 (drop 4 (chart_checks s))) []
  unfolding chart_checks size_checks end_checks
  ends_asked = ap₂ (λ (k : ℕ) (x : List ℕ). answer (end_checks k x) []) p.size l

  pub read_within : {r : Result (Unit {0}) Refusal} {x : Unit {0}} → r ≡ Ok x → asked r ≡ answer (end_checks n links) [] → SizeRead 6 s n
  read_within told said = on_with 2 p told (said ∙ ends_asked)

  pub read_outside : {r : Result (Unit {0}) Refusal} {e : Refusal} → r ≡ Err e → asked r ≡ answer (end_checks n links) [] → as_read (Err e) ≡ read_of s
  read_outside told said = asked_back 2 p.passed told (said ∙ ends_asked)

-- 7
module _ {s : List ℕ} {n : ℕ} (p : SizeRead 6 s n) {links : List ℕ} (l : links ≡ body_of s 1) where
  repeats_asked : answer (repeat_checks (wrapped links)) [] ≡ answer (take 1 (drop 6 (chart_checks s))) []
  unfolding chart_checks size_checks end_checks repeat_checks
  repeats_asked =
      ap (λ (x : List ℕ). answer (repeat_checks (wrapped x)) []) l
      ∙ ap (λ (cs : List Check). answer cs []) (wrapped_checks (body_of s 1) (ends_small p.passed))

  pub read_once : {r : Result (Unit {0}) Refusal} {x : Unit {0}} → r ≡ Ok x → asked r ≡ answer (repeat_checks (wrapped links)) [] → SizeRead 7 s n
  read_once told said = on_with 1 p told (said ∙ repeats_asked)

  pub read_repeated : {r : Result (Unit {0}) Refusal} {e : Refusal} → r ≡ Err e → asked r ≡ answer (repeat_checks (wrapped links)) []
      → as_read (Err e) ≡ read_of s
  read_repeated told said = asked_back 1 p.passed told (said ∙ repeats_asked)

-- 8
module _ {s : List ℕ} {n : ℕ} (p : SizeRead 7 s n) {o : List ℕ} (e : o ≡ body_of s 2) where
  order_asked : answer (order_question n o) [] ≡ answer (take 1 (drop 7 (chart_checks s))) []
  unfolding chart_checks size_checks end_checks repeat_checks place_checks chart_order
  order_asked =
      ap₂ (λ (k : ℕ) (x : List ℕ). answer (order_question k x) []) p.size e
      ∙ ap (λ (cs : List Check). answer cs []) (question_eight (chart_size s) (body_of s 2) (size_small (earlier 4 (lit≤ tt) p.passed)))

  pub read_placed : {r : Result (Unit {0}) Refusal} {x : Unit {0}} → r ≡ Ok x → asked r ≡ answer (order_question n o) [] → SizeRead 8 s n
  read_placed told said = on_with 1 p told (said ∙ order_asked)

  pub read_misplaced : {r : Result (Unit {0}) Refusal} {e : Refusal} → r ≡ Err e → asked r ≡ answer (order_question n o) [] → as_read (Err e) ≡ read_of s
  read_misplaced told said = asked_back 1 p.passed told (said ∙ order_asked)

-- 24 and 25
module _ {s : List ℕ} {n : ℕ} (p : SizeRead 8 s n) (listed : Option (Bor (List ℕ)))
    (h : MatchOption listed (has_weights s ≡ false) (λ body. (has_weights s ≡ true) × (body.now ≡ body_of s 3))) {links : List ℕ} (l : links ≡ body_of s 1)
  where
    weights_asked : answer (weight_checks links (weights_in links listed)) [] ≡ answer (take 2 (drop 8 (chart_checks s))) []
    unfolding chart_checks size_checks end_checks repeat_checks place_checks weight_checks
    weights_asked =
        ap (λ (x : List ℕ). answer (weight_checks x (weights_in x listed)) []) l
        ∙ ap (λ (ws : List ℕ). answer (weight_checks (body_of s 1) ws) []) (chart_weights_lem s listed h)

    pub read_weighed : {r : Result (Unit {0}) Refusal} {x : Unit {0}} → r ≡ Ok x → asked r ≡ answer (weight_checks links (weights_in links listed)) []
        → SizeRead 10 s n
    read_weighed told said = on_with 2 p told (said ∙ weights_asked)

    pub read_unweighed : {r : Result (Unit {0}) Refusal} {e : Refusal} → r ≡ Err e → asked r ≡ answer (weight_checks links (weights_in links listed)) []
        → as_read (Err e) ≡ read_of s
    read_unweighed told said = asked_back 2 p.passed told (said ∙ weights_asked)

-- the words, the order and the table of weights of a chart whose questions have passed so far
module _ {s : List ℕ} where
  pub words_read : PassedFirst 7 s → (before : List ℕ) {links adj : List ℕ} → links ≡ body_of s 1 → adj ≡ words_over before (wrapped links)
      → adj ≡ adjacency_of (chart_edges s)
  unfolding chart_edges
  words_read p before l e =
      e ∙ ap (λ (x : List ℕ). words_over before (wrapped x)) l
      ∙ words_once before (body_of s 1) (ends_small (earlier 6 (lit≤ tt) p)) (all_different p)

  pub order_long : PassedFirst 8 s → {o : List ℕ} → o ≡ body_of s 2 → length o ≤ 64
  order_long p e = rw (e, order_size p) (size_small (earlier 4 (lit≤ tt) p))

  pub order_read : PassedFirst 8 s → {o order : List ℕ} → o ≡ body_of s 2 → order ≡ take (length o) o ++ drop (length o) (replicate 64 0)
      → order ≡ padded (chart_order s)
  unfolding chart_order
  order_read p {o} e q = q ∙ padded_copy o (order_long p e) ∙ ap padded e

  pub table_read : PassedFirst 6 s → (listed : Option (Bor (List ℕ)))
      → MatchOption listed (has_weights s ≡ false) (λ body. (has_weights s ≡ true) × (body.now ≡ body_of s 3)) → {links table : List ℕ} → links ≡ body_of s 1
      → table ≡ with_weights (replicate 4096 0) (edges_in (wrapped links)) (weights_in links listed) → table ≡ table_in (chart_edges s) (chart_weights s)
  unfolding table_in chart_edges
  table_read p listed h l e =
      e
      ∙ ap (λ (x : List ℕ). with_weights (replicate 4096 0) (edges_in (wrapped x)) (weights_in x listed)) l
      ∙ ap₂ (with_weights (replicate 4096 0)) (wrapped_edges (body_of s 1) (ends_small p)) (chart_weights_lem s listed h)

-- ---- all have passed

all_asked : {s : List ℕ} → PassedFirst 10 s → refusal (chart_checks s) ≡ 0
unfolding chart_checks size_checks end_checks repeat_checks place_checks weight_checks
all_asked p = p.passed

pub read_all : {s : List ℕ} {n : ℕ} {order adj table : List ℕ} → SizeRead 10 s n → order ≡ padded (chart_order s)
    → adj ≡ adjacency_of (chart_edges s) → table ≡ table_in (chart_edges s) (chart_weights s) → {l : Layout} → l ≡ counted_layout n order adj table
    → as_read (Ok l) ≡ read_of s
unfolding as_read told_by
read_all {s} p o a t e =
    rw (e, p.size, o, a, t ∙ ap (table_in (chart_edges s)) (accepted_weights s is_accepted).1)
    (ap counted_as (count_read (accepted_weights s is_accepted).0) ∙ ap accepted_read (sym (layout_listed s is_accepted)) ∙ sym (read_is s is_accepted))
  where
    is_accepted : (read_of s).refusal ≡ 0
    is_accepted = read_number s ∙ all_asked p.passed

    counted_as : ℕ → LayoutRead
    counted_as k =
        accepted_read
        (record {
          n = chart_size s;
          order = padded (chart_order s);
          adjacency = adjacency_of (chart_edges s);
          weights = table_in (chart_edges s) (map (edge_weight (chart_weight s)) (chart_edges s));
          count = k;
        })
