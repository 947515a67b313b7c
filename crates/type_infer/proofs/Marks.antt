-- Rules that are marked as used.
use Rattle.std.proofs.Common.{◌≡◌, ◌≢◌, ℕ, zero, suc, ◌+◌, ◌-◌, ◌<◌, Bool, true, false, ◌||◌, nat_eq, List, [], ◌∷◌, ◌++◌, map, flat_map, length, take, get_or, refl, sym, ap, subst, ◌∙◌, ◌⊎◌, inl, inr, ⊎_elim, arith}
use Rattle.std.proofs.Math.ListN.{set}
use Rattle.std.proofs.lemmas.Bool.{true≢false, eq-eqb}
use Rattle.std.proofs.lemmas.List.{take_more}
use Rattle.std.proofs.lemmas.List.Folds.{list_any-append}
use Rattle.expr_tree.specs.Scenes.{is_among}
use Rattle.type_infer.specs.Orders.{used_by, IsCallOrder, is_marked, marked_at, reached, MarksUsed}
use Rattle.type_infer.proofs.Filling.{take_whole}
use Rattle.type_infer.proofs.Walks.{get_set_same, get_set_other, same_or_not, same_number, or_cases, or_left, or_right, among_left, among_right, among_one, among_cases}

no_more : (b : Bool) → (b || false) ≡ b
no_more true = refl
no_more false = refl

is_false : (b : Bool) → (b ≡ true → ⊥) → b ≡ false
is_false true h = absurd (h refl)
is_false false h = refl

not_same : (u v : ℕ) → v ≢ u → nat_eq u v ≡ false
not_same u v h = is_false (nat_eq u v) (λ e. h (sym (same_number u v e)))

not_last : (us : List ℕ) (u v : ℕ) → v ≢ u → is_among (us ++ u ∷ []) v ≡ is_among us v
not_last us u v h = list_any-append (λ w. nat_eq w v) us (u ∷ []) ∙ (ap (λ b. is_among us v || (b || false)) (not_same u v h) ∙ no_more (is_among us v))

-- one more of the rules is marked
pub marked_more : (before marks : List Bool) (rules : List ℕ) (i d : ℕ) → i < length rules → get_or rules i d < length marks
    → ((r : ℕ) → marked_at marks r ≡ (marked_at before r || is_among (take i rules) r)) → (r : ℕ) → marked_at (set marks (get_or rules i d) true) r ≡ (marked_at before r || is_among (take (i + 1) rules) r)
marked_more before marks rules i d h within marked r =
    let u = get_or rules i d in
    let more = take_more rules i d h in
    ⊎_elim
    (λ same. subst (λ z. marked_at (set marks u true) z ≡ (marked_at before z || is_among (take (i + 1) rules) z)) (sym same)
    (ap is_marked (get_set_same marks u true within) ∙ sym (or_right (marked_at before u) (is_among (take (i + 1) rules) u)
    (subst (λ z. is_among z u ≡ true) (sym more) (among_right (take i rules) (u ∷ []) u (among_one u))))))
    (λ other. ap is_marked (get_set_other marks u r true other) ∙ (marked r
    ∙ ap (λ b. marked_at before r || b) (sym (ap (λ z. is_among z r) more ∙ not_last (take i rules) u r other))))
    (same_or_not r u)

-- ---- what is reached

pub among_flat : (f : ℕ → List ℕ) (rules : List ℕ) (r c : ℕ) → is_among rules r ≡ true → is_among (f r) c ≡ true → is_among (flat_map f rules) c ≡ true
among_flat f [] r c h u = absurd (true≢false (sym h))
among_flat f (s ∷ rules) r c h u = ⊎_elim
    (λ same. among_left (f s) (flat_map f rules) c (subst (λ z. is_among (f z) c ≡ true) (sym (same_number s r same)) u))
    (λ later. among_right (f s) (flat_map f rules) c (among_flat f rules r c later u)) (or_cases (nat_eq s r) (is_among rules r) h)

pub flat_all : (P : ℕ → Type 0) (f : ℕ → List ℕ) (rules : List ℕ) → ((r : ℕ) → is_among rules r ≡ true → (c : ℕ) → is_among (f r) c ≡ true → P c) → (c : ℕ) → is_among (flat_map f rules) c ≡ true → P c
flat_all P f [] h c e = absurd (true≢false (sym e))
flat_all P f (s ∷ rules) h c e = ⊎_elim
    (λ first. h s (or_left (nat_eq s s) (is_among rules s) (eq-eqb s s refl)) c first)
    (λ later. flat_all P f rules (λ r g. h r (or_right (nat_eq s r) (is_among rules r) g)) c later) (among_cases (f s) (flat_map f rules) c e)

module _ (uses : List (List ℕ)) where
  reached_first : (n : ℕ) (rules : List ℕ) (r : ℕ) → is_among rules r ≡ true → is_among (reached uses n rules) r ≡ true
  reached_first zero rules r h = h
  reached_first (suc n) rules r h = among_left rules (reached uses n (flat_map (used_by uses) rules)) r h

  reached_keeps : (n : ℕ) (rules : List ℕ) (r : ℕ) → is_among (reached uses n rules) r ≡ true → is_among (reached uses (suc n) rules) r ≡ true
  reached_keeps zero rules r h = among_left rules (flat_map (used_by uses) rules) r h
  reached_keeps (suc n) rules r h = ⊎_elim (λ first. reached_first (suc (suc n)) rules r first)
      (λ later. among_right rules (reached uses (suc n) (flat_map (used_by uses) rules)) r (reached_keeps n (flat_map (used_by uses) rules) r later))
      (among_cases rules (reached uses n (flat_map (used_by uses) rules)) r h)

  reached_more : (n : ℕ) (rules : List ℕ) (r c : ℕ) → is_among (reached uses n rules) r ≡ true → is_among (used_by uses r) c ≡ true → is_among (reached uses (suc n) rules) c ≡ true
  reached_more zero rules r c h u = among_right rules (flat_map (used_by uses) rules) c (among_flat (used_by uses) rules r c h u)
  reached_more (suc n) rules r c h u = let next = flat_map (used_by uses) rules in ⊎_elim
      (λ first. among_right rules (reached uses (suc n) next) c (reached_first (suc n) next c (among_flat (used_by uses) rules r c first u)))
      (λ later. among_right rules (reached uses (suc n) next) c (reached_more n next r c later u)) (among_cases rules (reached uses n next) r h)

  reached_further : (m n : ℕ) (rules : List ℕ) (r : ℕ) → is_among (reached uses n rules) r ≡ true → is_among (reached uses (m + n) rules) r ≡ true
  reached_further zero n rules r h = let is : n ≡ 0 + n = omega arith in subst (λ z. is_among (reached uses z rules) r ≡ true) is h
  reached_further (suc m) n rules r h = let is : suc (m + n) ≡ suc m + n = omega arith in
      subst (λ z. is_among (reached uses z rules) r ≡ true) is (reached_keeps (m + n) rules r (reached_further m n rules r h))

  -- what is closed holds of all that is reached
  reached_within : (P : ℕ → Type 0) → ((r : ℕ) → P r → (c : ℕ) → is_among (used_by uses r) c ≡ true → P c) → (n : ℕ) (rules : List ℕ) → ((r : ℕ) → is_among rules r ≡ true → P r)
      → (r : ℕ) → is_among (reached uses n rules) r ≡ true → P r
  reached_within P closed zero rules first r h = first r h
  reached_within P closed (suc n) rules first r h = let next = flat_map (used_by uses) rules in ⊎_elim (λ a. first r a)
      (λ b. reached_within P closed n next (flat_all P (used_by uses) rules (λ s g. closed s (first s g))) r b) (among_cases rules (reached uses n next) r h)

-- ---- the walk back over the order

-- Those that are marked are reached, and what a marked rule uses is marked, if the rule is not to come yet.
pub record IsMarked (uses : List (List ℕ)) (order rules : List ℕ) (at : ℕ) (marks : List Bool) : Type 0 where
  pub each : length marks ≡ length uses
  pub first : (r : ℕ) → is_among rules r ≡ true → marked_at marks r ≡ true
  pub sound : (r : ℕ) → marked_at marks r ≡ true → is_among (reached uses (length order - at) rules) r ≡ true
  pub closed : (r : ℕ) → is_among (take at order) r ≡ false → marked_at marks r ≡ true → (c : ℕ) → is_among (used_by uses r) c ≡ true → marked_at marks c ≡ true

none_marked : (uses : List (List ℕ)) (r : ℕ) → marked_at (map (λ u. false) uses) r ≡ false
none_marked [] r = refl
none_marked (u ∷ uses) zero = refl
none_marked (u ∷ uses) (suc r) = none_marked uses r

not_false : (b : Bool) → b ≡ true → b ≡ false → ⊥
not_false b t f = true≢false (sym t ∙ f)

same_answer : (a b : Bool) → (a ≡ true → b ≡ true) → (b ≡ true → a ≡ true) → a ≡ b
same_answer true b f g = sym (f refl)
same_answer false true f g = g refl
same_answer false false f g = refl

true_or_false : (b : Bool) → (b ≡ true) ⊎ (b ≡ false)
true_or_false true = inl refl
true_or_false false = inr refl

module _ (uses : List (List ℕ)) (order rules : List ℕ) (is : IsCallOrder uses order) where
  -- at first only the rules themselves are marked
  pub marks_start : (marks : List Bool) (at : ℕ) → at ≡ length order → length marks ≡ length uses → ((r : ℕ) → is_among rules r ≡ true → r < length uses)
      → ((r : ℕ) → marked_at marks r ≡ (marked_at (map (λ u. false) uses) r || is_among rules r)) → IsMarked uses order rules at marks
  marks_start marks at last len within marked =
      let is_first = λ (r : ℕ) (h : marked_at marks r ≡ true). ⊎_elim {C = is_among rules r ≡ true} (λ unmarked. absurd (not_false (marked_at (map (λ u. false) uses) r) unmarked (none_marked uses r))) (λ among. among)
      (or_cases (marked_at (map (λ u. false) uses) r) (is_among rules r) (sym (marked r) ∙ h)) in
      record {
        each = len;
        first = λ r h. marked r ∙ or_right (marked_at (map (λ u. false) uses) r) (is_among rules r) h;
        sound = λ r h. reached_first uses (length order - at) rules r (is_first r h);
        closed = λ r gone h c u. absurd (not_false (is_among (take at order) r)
            (subst (λ z. is_among z r ≡ true) (sym (take_whole order at last)) (is.each r (within r (is_first r h)))) gone);
      }

  module _ (marks new : List Bool) (at d : ℕ) (w : IsMarked uses order rules (at + 1) marks) (h : at < length order) (m : MarksUsed uses marks new (get_or order at d)) (len : length new ≡ length marks) where
    one_further : (r : ℕ) → is_among (reached uses (suc (length order - (at + 1))) rules) r ≡ true → is_among (reached uses (length order - at) rules) r ≡ true
    one_further r e = let is : suc (length order - (at + 1)) ≡ length order - at = omega arith in subst (λ n. is_among (reached uses n rules) r ≡ true) is e

    -- a rule that is not to come is this one, or was not to come before
    not_to_come : (q : ℕ) → q ≢ get_or order at d → is_among (take at order) q ≡ false → is_among (take (at + 1) order) q ≡ false
    not_to_come q other gone = ap (λ z. is_among z q) (take_more order at d h) ∙ (not_last (take at order) (get_or order at d) q other ∙ gone)

    unmarked_step : marked_at marks (get_or order at d) ≡ false → IsMarked uses order rules at new
    unmarked_step none = let same = m.others none in subst (λ z. IsMarked uses order rules at z) (sym same) (record {
      each = w.each;
      first = w.first;
      sound = λ r e. one_further r (reached_keeps uses (length order - (at + 1)) rules r (w.sound r e));
      closed = λ q gone e c u. ⊎_elim (λ this. absurd (not_false (marked_at marks (get_or order at d)) (subst (λ z. marked_at marks z ≡ true) this e) none))
          (λ other. w.closed q (not_to_come q other gone) e c u) (same_or_not q (get_or order at d));
    })

    marked_step : marked_at marks (get_or order at d) ≡ true → IsMarked uses order rules at new
    marked_step here = let r = get_or order at d in let now = m.used here in record {
      each = len ∙ w.each;
      first = λ q e. now q ∙ or_left (marked_at marks q) (is_among (used_by uses r) q) (w.first q e);
      sound = λ q e. one_further q (⊎_elim (λ before. reached_keeps uses (length order - (at + 1)) rules q (w.sound q before))
          (λ used. reached_more uses (length order - (at + 1)) rules r q (w.sound r here) used) (or_cases (marked_at marks q) (is_among (used_by uses r) q) (sym (now q) ∙ e)));
      closed = λ q gone e c u. ⊎_elim
          (λ this. now c ∙ or_right (marked_at marks c) (is_among (used_by uses r) c) (subst (λ z. is_among (used_by uses z) c ≡ true) this u))
          (λ other. ⊎_elim (λ before. now c ∙ or_left (marked_at marks c) (is_among (used_by uses r) c) (w.closed q (not_to_come q other gone) before c u))
          (λ used. absurd (not_false (is_among (take at order) q) (is.behind at d q h used) gone)) (or_cases (marked_at marks q) (is_among (used_by uses r) q) (sym (now q) ∙ e)))
          (same_or_not q r);
    }

    pub marks_step : IsMarked uses order rules at new
    marks_step = ⊎_elim marked_step unmarked_step (true_or_false (marked_at marks (get_or order at d)))

  -- when all have come, exactly what is reached is marked
  pub marks_end : (marks : List Bool) → IsMarked uses order rules 0 marks → (r : ℕ) → marked_at marks r ≡ is_among (reached uses (length uses) rules) r
  marks_end marks w r = same_answer (marked_at marks r) (is_among (reached uses (length uses) rules) r)
      (λ h. let all : (length uses - length order) + (length order - 0) ≡ length uses = omega (arith, is.few) in
      subst (λ n. is_among (reached uses n rules) r ≡ true) all (reached_further uses (length uses - length order) (length order - 0) rules r (w.sound r h)))
      (λ h. reached_within uses (λ q. marked_at marks q ≡ true) (λ q here c u. w.closed q refl here c u) (length uses) rules w.first r h)

pub length_unmarked : (uses : List (List ℕ)) → length (map (λ u. false) uses) ≡ length uses
length_unmarked [] = refl
length_unmarked (u ∷ uses) = ap suc (length_unmarked uses)
