-- The fields of a chart, as the passes find them.
use Rattle.std.specs.Prelude.{Option, Some, None, Ok, Err, MatchOption, IsSomeAnd, ℕ, zero, suc, ◌+◌, ◌-◌, ◌≤◌, ◌<◌, ◌≡◌, refl, Bool, true, false, not, cond, List, [], ◌∷◌, map, length, get_or, take, drop, eqb, slice_get}
use Rattle.std.specs.Option.{is_some, option_map}
use Rattle.std.proofs.Common.{Bor, zero-le, arith, sym, ap, subst, ◌∙◌, true≢false, length-drop, drop_of_length-le, drop-cons, drop-drop, add-one, le-leb, eq-eqb, ne_eqb}
use Rattle.std.proofs.Math.ListN.{get_or-eq_default}
use Rattle.std.proofs.lemmas.Bool.{false≢true, lt-leb}
use Rattle.std.proofs.lemmas.Iterator.{YieldsList}
use Rattle.std.proofs.lemmas.Iterator.Consumers.{YieldsList-from_shown}
use Rattle.model.specs.declared.Header.{Header}
use Rattle.model.specs.declared.refusal.Refusal.TheVariants as because
use Rattle.chart_questions.specs.declared.fields.Field as one
use Rattle.chart_questions.specs.declared.fields.Fields as some
use Rattle.model.specs.Answers.{number}
use Rattle.model.specs.Checks.{refusal, by_refusal, checked}
use Rattle.model.specs.Charts.{Field, Fields, body_length, starts_with_field, first_field, fields_of, tags_of, body_of, has_weights, same_list, chart_tags, weighted_tags, chart_checks}
use Rattle.model.specs.Charts.{Answer, accept, refuse, asked, field_found, answer, field_answer, division_answer, tags_answer, size_found}
use Rattle.model.specs.Charts.{size_checks, size_answer}
use Rattle.laws.specs.Charts.Fields.{behind_field, in_front, no_field, field_fits, fields_there, fields_none}

-- ---- the fields, one after the other

-- what is found of a field
abbrev pub seen : one.Field → Field
seen f = record { tag = f.tag; body = f.body.now }

-- a call of next: the first field of what is left and what is behind it, or no field
abbrev pub field_steps : some.Fields → Option one.Field → some.Fields → Type 0
field_steps s r t =
    MatchOption r ((starts_with_field s.rest.now ≡ false) × (t ≡ s))
    (λ f. (fields_of s.rest.now ≡ in_front (seen f) (fields_of t.rest.now)) × (length t.rest.now < length s.rest.now))

-- the fields that are left are those that the calls give
pub fields_yielded : (s : some.Fields) → YieldsList field_steps seen s (fields_of s.rest.now).fields
unfolding in_front no_field
fields_yielded s =
    YieldsList-from_shown field_steps seen (λ t. (fields_of t.rest.now).fields) (λ t u h. ap (λ (x : Fields). length x.fields) (fields_none t.rest.now h.0))
    (λ t f u h. ap (λ (x : Fields). x.fields) h.0) s

-- ---- what the search for a field answers

module _ (s : List ℕ) where
  pub answer_field : 3 ≤ length s → body_length s ≤ length s - 3 → field_found (Some (record { tag = get_or s 0 0; length = body_length s })) ≡ field_answer s
  unfolding field_found field_answer starts_with_field
  answer_field h l = rw (le-leb 3 (length s) h, le-leb (3 + body_length s) (length s) (omega arith))

  pub answer_short : length s < 3 → field_found None ≡ field_answer s
  unfolding field_found field_answer starts_with_field
  answer_short h = rw (lt-leb 3 (length s) h)

  pub answer_cut : 3 ≤ length s → length s - 3 < body_length s → field_found None ≡ field_answer s
  unfolding field_found field_answer starts_with_field
  answer_cut h l = rw (le-leb 3 (length s) h, lt-leb (3 + body_length s) (length s) (omega arith))

pub record FieldThere (s : List ℕ) (h : Header) : Type 0 where
  pub starts : starts_with_field s ≡ true
  pub tag_is : h.tag ≡ get_or s 0 0
  pub size_is : h.length ≡ body_length s
  pub fits : 3 + h.length ≤ length s

module _ (s : List ℕ) {r : Option Header} (said : field_found r ≡ field_answer s) where
  pub field_there : {h : Header} → r ≡ Some h → FieldThere s h
  unfolding field_found field_answer accept refuse
  field_there {h} told = by_test (starts_with_field s) refl (ap field_found (sym told) ∙ said)
    where
      by_test : (b : Bool) → starts_with_field s ≡ b → accept (h.tag ∷ h.length ∷ []) ≡ cond b (accept (get_or s 0 0 ∷ body_length s ∷ [])) (refuse 0)
          → FieldThere s h
      by_test true e a =
          let v : h.tag ∷ h.length ∷ [] ≡ get_or s 0 0 ∷ body_length s ∷ [] = ap (λ (x : Answer). x.values) a in
          let z : h.length ≡ body_length s = cc in
          record { starts = e; tag_is = cc; size_is = z; fits = omega (arith, field_fits s e) }
      by_test false e a = absurd (true≢false (ap (λ (x : Answer). x.accepted) a))

  pub field_none : r ≡ None → starts_with_field s ≡ false
  unfolding field_found field_answer accept refuse
  field_none told = by_test (starts_with_field s) (ap field_found (sym told) ∙ said)
    where
      by_test : (b : Bool) → refuse 0 ≡ cond b (accept (get_or s 0 0 ∷ body_length s ∷ [])) (refuse 0) → b ≡ false
      by_test true a = absurd (false≢true (ap (λ (x : Answer). x.accepted) a))
      by_test false a = refl

  -- the field, and what is behind it
  pub field_step : {h : Header} → r ≡ Some h → {behind body rest : List ℕ} → behind ≡ drop 3 s → body ≡ take h.length behind → rest ≡ drop h.length behind
      → (fields_of s ≡ in_front (record { tag = h.tag; body = body }) (fields_of rest)) × (length rest < length s)
  unfolding in_front behind_field first_field
  field_step {h} told a b t =
      let f = field_there told in (
        fields_there s f.starts ∙ rw (b, t, a, ← f.tag_is, ← f.size_is, drop-drop h.length 3 s),
        rw (t, a, length-drop h.length (drop 3 s), length-drop 3 s) (omega (arith, f.fits)),
      )

-- ---- does the input divide into fields?

-- what is left divides exactly if the input does
pub record DividedUpTo (s rest : List ℕ) : Type 0 where
  pub left : (fields_of s).complete ≡ (fields_of rest).complete

module _ {s rest : List ℕ} (u : DividedUpTo s rest) where
  pub divided_next : (f : Field) (more : List ℕ) → fields_of rest ≡ in_front f (fields_of more) → DividedUpTo s more
  unfolding in_front
  divided_next f more e = record { left = u.left ∙ ap (λ (x : Fields). x.complete) e }

  pub divided_end : starts_with_field rest ≡ false → eqb (length rest) 0 ≡ (fields_of s).complete
  unfolding no_field
  divided_end e = sym (u.left ∙ ap (λ (x : Fields). x.complete) (fields_none rest e))

-- ---- questions 1 and 2

module _ (s : List ℕ) where
  pub division_long : 8192 < length s → asked (Err because.TooLong) ≡ division_answer s
  unfolding division_answer chart_checks answer checked by_refusal refusal asked number
  division_long h = rw (lt-leb (length s) 8192 h)

  pub division_cut : length s ≤ 8192 → (fields_of s).complete ≡ false → asked (Err because.Undivided) ≡ division_answer s
  unfolding division_answer chart_checks answer checked by_refusal refusal asked number
  division_cut h e = rw (le-leb (length s) 8192 h, e)

  pub division_whole : length s ≤ 8192 → (fields_of s).complete ≡ true → asked (Ok tt) ≡ division_answer s
  unfolding division_answer chart_checks answer checked by_refusal refusal asked
  division_whole h e = rw (le-leb (length s) 8192 h, e)

-- ---- question 3

-- the first i of some tags are passed: what is left of both is to be the same
pub record TagsUpTo (s tags rest : List ℕ) (i : ℕ) : Type 0 where
  pub same : same_list (tags_of s) tags ≡ same_list (tags_of rest) (drop i tags)

module _ {s tags : List ℕ} where
  pub tags_start : TagsUpTo s tags s 0
  tags_start = record { same = refl }

  module _ {rest : List ℕ} {i : ℕ} (u : TagsUpTo s tags rest i) where
    -- there is no field any more
    module _ (none : starts_with_field rest ≡ false) where
      left : same_list (tags_of s) tags ≡ same_list [] (drop i tags)
      unfolding no_field
      left = u.same ∙ ap (λ (fs : Fields). same_list (map (λ f. f.tag) fs.fields) (drop i tags)) (fields_none rest none)

      pub tag_missing : i < length tags → false ≡ same_list (tags_of s) tags
      unfolding same_list
      tag_missing h = sym (left ∙ rw (drop-cons tags i 0 h))

      pub tags_end : length tags ≤ i → true ≡ same_list (tags_of s) tags
      unfolding same_list
      tags_end h = sym (left ∙ rw (drop_of_length-le tags h))

    module _ (f : Field) (more : List ℕ) (e : fields_of rest ≡ in_front f (fields_of more)) where
      there : same_list (tags_of s) tags ≡ same_list (f.tag ∷ tags_of more) (drop i tags)
      unfolding in_front
      there = u.same ∙ ap (λ (fs : Fields). same_list (map (λ f. f.tag) fs.fields) (drop i tags)) e

      pub tag_beyond : length tags ≤ i → false ≡ same_list (tags_of s) tags
      unfolding same_list
      tag_beyond h = sym (there ∙ rw (drop_of_length-le tags h))

      module _ (h : i < length tags) where
        pub tag_wrong : (f.tag ≡ get_or tags i 0 → ⊥) → false ≡ same_list (tags_of s) tags
        unfolding same_list
        tag_wrong d = sym (there ∙ rw (drop-cons tags i 0 h, ne_eqb f.tag (get_or tags i 0) d))

        pub tags_next : f.tag ≡ get_or tags i 0 → TagsUpTo s tags more (i + 1)
        unfolding same_list
        tags_next t = record { same = there ∙ rw (add-one i, drop-cons tags i 0 h, eq-eqb f.tag (get_or tags i 0) t) }

-- a last look behind the tags
pub tags_last : {s tags : List ℕ} (at : some.Fields) {i : ℕ} → TagsUpTo s tags at.rest.now i → length tags ≤ i → (r : Option one.Field) (next : some.Fields)
    → field_steps at r next → (b : Bool) → is_some r ≡ not b → b ≡ same_list (tags_of s) tags
tags_last at u h None next e true z = tags_end u e.0 h
tags_last at u h None next e false z = absurd (false≢true z)
tags_last at u h (Some f) next e true z = absurd (true≢false z)
tags_last at u h (Some f) next e false z = tag_beyond u (seen f) next.rest.now e.0 h

module _ (s : List ℕ) where
  pub tags_right : same_list (tags_of s) chart_tags ≡ true → asked (Ok tt) ≡ tags_answer s
  unfolding tags_answer chart_checks answer checked by_refusal refusal asked
  tags_right e = rw e

  module _ (no : same_list (tags_of s) chart_tags ≡ false) where
    pub tags_weighted : same_list (tags_of s) weighted_tags ≡ true → asked (Ok tt) ≡ tags_answer s
    unfolding tags_answer chart_checks answer checked by_refusal refusal asked
    tags_weighted e = rw (no, e)

    pub tags_wrong : same_list (tags_of s) weighted_tags ≡ false → asked (Err because.WrongTags) ≡ tags_answer s
    unfolding tags_answer chart_checks answer checked by_refusal refusal asked number
    tags_wrong e = rw (no, e)

-- ---- the bodies

-- the i-th field, where there is one
abbrev Got : List Field → ℕ → Option Field → Type 0
Got fs k None = length fs ≤ k
Got fs k (Some f) = (k < length fs) × (get_or fs k (record { tag = 0; body = [] }) ≡ f)

got : (fs : List Field) (k : ℕ) → Got fs k (slice_get fs k)
got [] k = zero-le
got (f ∷ fs) zero = (omega arith, refl)
got (f ∷ fs) (suc k) = further (slice_get fs k) (got fs k)
  where
    further : (o : Option Field) → Got fs k o → Got (f ∷ fs) (suc k) o
    further None h = omega arith
    further (Some g) h = (omega (arith, h.0), h.1)

module _ (s : List ℕ) (i : ℕ) (r : Option one.Field) (said : option_map seen r ≡ slice_get (fields_of s).fields i) where
  here : Got (fields_of s).fields i (option_map seen r)
  here = subst (Got (fields_of s).fields i) (sym said) (got (fields_of s).fields i)

  pub body_there : {f : one.Field} → r ≡ Some f → (i < length (fields_of s).fields) × (f.body.now ≡ body_of s i)
  unfolding body_of
  body_there {f} told =
      let h = subst (λ o. Got (fields_of s).fields i (option_map seen o)) told here in (h.0, sym (ap (λ (x : Field). x.body) h.1))

  pub body_missing : r ≡ None → (length (fields_of s).fields ≤ i) × ([] ≡ body_of s i)
  unfolding body_of
  body_missing told =
      let h = subst (λ o. Got (fields_of s).fields i (option_map seen o)) told here in
      (h, sym (ap (λ (x : Field). x.body) (get_or-eq_default (fields_of s).fields (record { tag = 0; body = [] }) h)))

-- what is made of it: its body, or nothing
pub body_told : (s : List ℕ) (i : ℕ) (r : Option one.Field) → option_map seen r ≡ slice_get (fields_of s).fields i → (b nothing : Bor (List ℕ)) → nothing.now ≡ []
    → (P : one.Field → Type 0) → ((f : one.Field) → P f → b ≡ f.body) → MatchOption r (b ≡ nothing) P → b.now ≡ body_of s i
body_told s i None said b nothing n P h m = ap (λ (x : Bor (List ℕ)). x.now) m ∙ n ∙ (body_missing s i None said refl).1
body_told s i (Some f) said b nothing n P h m = ap (λ (x : Bor (List ℕ)). x.now) (h f m) ∙ (body_there s i (Some f) said refl).1

pub weights_told : (s : List ℕ) (r : Option one.Field) → option_map seen r ≡ slice_get (fields_of s).fields 3 → (o : Option (Bor (List ℕ)))
    → (P : one.Field → Bor (List ℕ) → Type 0) → ((f : one.Field) (b : Bor (List ℕ)) → P f b → b ≡ f.body) → MatchOption r (o ≡ None) (λ f. IsSomeAnd o (P f))
    → MatchOption o (has_weights s ≡ false) (λ body. (has_weights s ≡ true) × (body.now ≡ body_of s 3))
unfolding has_weights
weights_told s None said None P h m = let t = body_missing s 3 None said refl in lt-leb 4 _ (omega (arith, t.0))
weights_told s None said (Some b) P h m = absurd (cc)
weights_told s (Some f) said None P h m = absurd m
weights_told s (Some f) said (Some b) P h m =
    let t = body_there s 3 (Some f) said refl in
    (le-leb 4 _ (omega (arith, t.0)), ap (λ (x : Bor (List ℕ)). x.now) (h f b m) ∙ t.1)

-- ---- question 4

module _ (body : List ℕ) where
  pub size_long : (length body ≡ 1 → ⊥) → size_found (Err because.NoSize) ≡ size_answer body
  unfolding size_answer size_checks answer checked by_refusal refusal size_found number
  size_long d = rw (ne_eqb (length body) 1 d)

  pub size_large : length body ≡ 1 → 64 < get_or body 0 0 → size_found (Err because.NoSize) ≡ size_answer body
  unfolding size_answer size_checks answer checked by_refusal refusal size_found number
  size_large e h = rw (eq-eqb (length body) 1 e, lt-leb (get_or body 0 0) 64 h)

  pub size_right : length body ≡ 1 → get_or body 0 0 ≤ 64 → size_found (Ok (get_or body 0 0)) ≡ size_answer body
  unfolding size_answer size_checks answer checked by_refusal refusal size_found
  size_right e h = rw (eq-eqb (length body) 1 e, le-leb (get_or body 0 0) 64 h)
