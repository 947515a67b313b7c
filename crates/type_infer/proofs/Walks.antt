-- Walks over rules.
use Rattle.std.proofs.Common.{◌≡◌, ◌≢◌, ℕ, zero, suc, ◌+◌, ◌<◌, Bool, true, false, ◌||◌, ◌&&◌, nat_eq, List, [], ◌∷◌, ◌++◌, length, take, get_or, slice_get, Option, Some, None, cond, find, map, sum_by, refl, sym, ap, subst, ◌∙◌, ◌⊎◌, inl, inr, ⊎_elim, arith}
use Rattle.std.proofs.Math.ListN.{set}
use Rattle.std.proofs.Math.Seq.{take-append_seam}
use Rattle.std.proofs.lemmas.Bool.{true≢false, eqb-true, eq-eqb}
use Rattle.std.proofs.lemmas.Bool.Decides.{eqb_tells}
use Rattle.std.proofs.lemmas.List.{length-set, get_or_append_left, take-append-le}
use Rattle.std.proofs.lemmas.List.Folds.{list_any-append}
use Rattle.std.proofs.lemmas.List.Sums.{sum_by-set, sum_by-cons}
use Rattle.std.proofs.lemmas.Option.{get_or_from_slice_get, slice_get_within, slice_get-get_or}
use Rattle.expr_tree.specs.Scenes.{is_among}
use Rattle.type_infer.specs.declared.order.Mark.{Mark}
use Rattle.type_infer.specs.declared.order.Mark.TheVariants.{New, Open, Done}
use Rattle.type_infer.specs.Orders.{used_by, uses_along, UsesRules, HasNoCycle, IsBehind, Reaches, IsWay, is_new, left, weight, IsWalk, Goes, IsCallOrder}

-- ---- lists

pub get_set_same : {X : Type 0} (xs : List X) (i : ℕ) (y : X) → i < length xs → slice_get (set xs i y) i ≡ Some y
get_set_same [] i y h = absurd (omega arith)
get_set_same (x ∷ xs) zero y h = refl
get_set_same (x ∷ xs) (suc i) y h = get_set_same xs i y (omega arith)

pub get_set_other : {X : Type 0} (xs : List X) (i j : ℕ) (y : X) → j ≢ i → slice_get (set xs i y) j ≡ slice_get xs j
get_set_other [] i j y h = refl
get_set_other (x ∷ xs) zero zero y h = absurd (h refl)
get_set_other (x ∷ xs) zero (suc j) y h = refl
get_set_other (x ∷ xs) (suc i) zero y h = refl
get_set_other (x ∷ xs) (suc i) (suc j) y h = get_set_other xs i j y (λ e. h (ap suc e))

sum_set : (f : Mark → ℕ) (xs : List Mark) (i : ℕ) (x y : Mark) → slice_get xs i ≡ Some x → sum_by f (set xs i y) + f x ≡ sum_by f xs + f y
sum_set f xs i x y e = subst (λ z. sum_by f (set xs i y) + f z ≡ sum_by f xs + f y) (get_or_from_slice_get xs i x x e) (sum_by-set f xs i y x (slice_get_within xs i x e))

pub same_number : (a b : ℕ) → nat_eq a b ≡ true → a ≡ b
same_number a b e = eqb-true a b e

pub or_cases : (p q : Bool) → (p || q) ≡ true → (p ≡ true) ⊎ (q ≡ true)
or_cases true q e = inl refl
or_cases false q e = inr e

pub or_left : (p q : Bool) → p ≡ true → (p || q) ≡ true
or_left true q e = refl
or_left false q e = absurd (true≢false (sym e))

pub or_right : (p q : Bool) → q ≡ true → (p || q) ≡ true
or_right true q e = refl
or_right false q e = e

pub among_left : (us vs : List ℕ) (v : ℕ) → is_among us v ≡ true → is_among (us ++ vs) v ≡ true
among_left us vs v e = list_any-append (λ u. nat_eq u v) us vs ∙ or_left (is_among us v) (is_among vs v) e

pub among_right : (us vs : List ℕ) (v : ℕ) → is_among vs v ≡ true → is_among (us ++ vs) v ≡ true
among_right us vs v e = list_any-append (λ u. nat_eq u v) us vs ∙ or_right (is_among us v) (is_among vs v) e

pub among_one : (v : ℕ) → is_among (v ∷ []) v ≡ true
among_one v = or_left (nat_eq v v) false (eq-eqb v v refl)

pub among_cases : (us vs : List ℕ) (v : ℕ) → is_among (us ++ vs) v ≡ true → (is_among us v ≡ true) ⊎ (is_among vs v ≡ true)
among_cases us vs v e = or_cases (is_among us v) (is_among vs v) (sym (list_any-append (λ u. nat_eq u v) us vs) ∙ e)

pub among_single : (u v : ℕ) → is_among (u ∷ []) v ≡ true → u ≡ v
among_single u v e = ⊎_elim (λ h. same_number u v h) (λ h. absurd (true≢false (sym h))) (or_cases (nat_eq u v) false e)

pub same_or_not : (a b : ℕ) → (a ≡ b) ⊎ (a ≢ b)
same_or_not a b = ⊎_elim (λ h. inl h.1) (λ h. inr h.1) (eqb_tells a b)

pub among_get : (us : List ℕ) (i d : ℕ) → i < length us → is_among us (get_or us i d) ≡ true
among_get [] i d h = absurd (omega arith)
among_get (u ∷ us) zero d h = or_left (nat_eq u u) (is_among us u) (eq-eqb u u refl)
among_get (u ∷ us) (suc i) d h = or_right (nat_eq u (get_or us i d)) (is_among us (get_or us i d)) (among_get us i d (omega arith))

no_mark : (marks : List Mark) (i : ℕ) → i < length marks → slice_get marks i ≡ None → ⊥
no_mark marks i h e = let k : Some (get_or marks i New) ≡ None = sym (slice_get-get_or marks i New h) ∙ e in cc

length_push : (us : List ℕ) (u : ℕ) → length (us ++ u ∷ []) ≡ length us + 1
length_push [] u = refl
length_push (v ∷ us) u = omega (arith, length_push us u)

get_or_last : (us : List ℕ) (u d : ℕ) → get_or (us ++ u ∷ []) (length us) d ≡ u
get_or_last [] u d = refl
get_or_last (v ∷ us) u d = get_or_last us u d

below_or_at : (i n : ℕ) → i < n + 1 → (i < n) ⊎ (i ≡ n)
below_or_at i n h = ⊎_elim (λ same. inr same) (λ other. inl (omega (arith, other))) (same_or_not i n)

below_or_last : (us : List ℕ) (u i : ℕ) → i < length (us ++ u ∷ []) → (i < length us) ⊎ (i ≡ length us)
below_or_last us u i h = below_or_at i (length us) (omega (arith, h, length_push us u))

-- ---- ways

both : (p q : Bool) → p ≡ true → q ≡ true → (p && q) ≡ true
both true q e h = h
both false q e h = absurd (true≢false (sym e))

both_first : (p q : Bool) → (p && q) ≡ true → p ≡ true
both_first true q e = refl
both_first false q e = e

both_second : (p q : Bool) → (p && q) ≡ true → q ≡ true
both_second true q e = e
both_second false q e = absurd (true≢false (sym e))

along_more : (uses : List (List ℕ)) (a : ℕ) (way : List ℕ) (b c : ℕ) → uses_along uses a (way ++ b ∷ []) ≡ true → is_among (used_by uses b) c ≡ true → uses_along uses a ((way ++ b ∷ []) ++ c ∷ []) ≡ true
along_more uses a [] b c e h =
    both (is_among (used_by uses a) b) (is_among (used_by uses b) c && true) (both_first (is_among (used_by uses a) b) true e) (both (is_among (used_by uses b) c) true h refl)
along_more uses a (w ∷ way) b c e h =
    both (is_among (used_by uses a) w) (uses_along uses w ((way ++ b ∷ []) ++ c ∷ [])) (both_first (is_among (used_by uses a) w) (uses_along uses w (way ++ b ∷ [])) e)
    (along_more uses w way b c (both_second (is_among (used_by uses a) w) (uses_along uses w (way ++ b ∷ [])) e) h)

pub reach_more : (uses : List (List ℕ)) (a b c : ℕ) → Reaches uses a b → is_among (used_by uses b) c ≡ true → Reaches uses a c
reach_more uses a b c (way, e) h = (way ++ b ∷ [], along_more uses a way b c e h)

pub reach_one : (uses : List (List ℕ)) (a c : ℕ) → is_among (used_by uses a) c ≡ true → Reaches uses a c
reach_one uses a c h = ([], both (is_among (used_by uses a) c) true h refl)

no_return : (uses : List (List ℕ)) → HasNoCycle uses → (a b : ℕ) → Reaches uses a b → a ≡ b → ⊥
no_return uses none a b (way, e) s = true≢false (sym (subst (λ z. uses_along uses a (way ++ z ∷ []) ≡ true) (sym s) e) ∙ none a way)

way_more : (uses : List (List ℕ)) (way : List ℕ) (r : ℕ) → IsWay uses way → ((a : ℕ) → is_among way a ≡ true → Reaches uses a r) → IsWay uses (way ++ r ∷ [])
way_more uses [] r w h = (λ b e. absurd (true≢false (sym e)), tt)
way_more uses (a ∷ way) r (first, w) h = (
  λ b e. ⊎_elim (λ g. first b g) (λ g. subst (λ z. Reaches uses a z) (among_single r b g) (h a (or_left (nat_eq a a) (is_among way a) (eq-eqb a a refl)))) (among_cases way (r ∷ []) b e),
  way_more uses way r w (λ b e. h b (or_right (nat_eq a b) (is_among way b) e)),
)

way_less : (uses : List (List ℕ)) (way : List ℕ) (r : ℕ) → IsWay uses (way ++ r ∷ []) → IsWay uses way
way_less uses [] r w = tt
way_less uses (a ∷ way) r (first, w) = (λ b e. first b (among_left way (r ∷ []) b e), way_less uses way r w)

way_last : (uses : List (List ℕ)) (way : List ℕ) (r : ℕ) → IsWay uses (way ++ r ∷ []) → (a : ℕ) → is_among way a ≡ true → Reaches uses a r
way_last uses [] r w b e = absurd (true≢false (sym e))
way_last uses (a ∷ way) r (first, w) b e =
    ⊎_elim (λ g. subst (λ z. Reaches uses z r) (same_number a b g) (first r (among_right way (r ∷ []) r (among_one r))))
    (λ g. way_last uses way r w b g) (or_cases (nat_eq a b) (is_among way b) e)

-- what the last rule of a way uses is reached by all on it
pub all_reach : (uses : List (List ℕ)) (way : List ℕ) (r next : ℕ) → IsWay uses (way ++ r ∷ []) → is_among (used_by uses r) next ≡ true → (a : ℕ) → is_among (way ++ r ∷ []) a ≡ true → Reaches uses a next
all_reach uses way r next w u a e = ⊎_elim
    (λ before. reach_more uses a r next (way_last uses way r w a before) u)
    (λ last. subst (λ z. Reaches uses z next) (among_single r a last) (reach_one uses r next u)) (among_cases way (r ∷ []) a e)

-- ---- what is found

some_of : (b : Bool) (x y : ℕ) (rest : Option ℕ) → cond b (Some x) rest ≡ Some y → ((b ≡ true) × (x ≡ y)) ⊎ (rest ≡ Some y)
some_of true x y rest e = inl (refl, cc)
some_of false x y rest e = inr e

none_of : (b : Bool) (x : ℕ) (rest : Option ℕ) → cond b (Some x) rest ≡ None → (b ≡ false) × (rest ≡ None)
none_of true x rest e = absurd (cc)
none_of false x rest e = (refl, e)

pub found_passes : (p : ℕ → Bool) (xs : List ℕ) (y : ℕ) → find p xs ≡ Some y → p y ≡ true
found_passes p [] y e = absurd (cc)
found_passes p (x ∷ xs) y e = ⊎_elim (λ h. subst (λ z. p z ≡ true) h.1 h.0) (λ h. found_passes p xs y h) (some_of (p x) x y (find p xs) e)

pub found_among : (p : ℕ → Bool) (xs : List ℕ) (y : ℕ) → find p xs ≡ Some y → is_among xs y ≡ true
found_among p [] y e = absurd (cc)
found_among p (x ∷ xs) y e = ⊎_elim (λ h. or_left (nat_eq x y) (is_among xs y) (eq-eqb x y h.1))
    (λ h. or_right (nat_eq x y) (is_among xs y) (found_among p xs y h)) (some_of (p x) x y (find p xs) e)

pub none_passes : (p : ℕ → Bool) (xs : List ℕ) → find p xs ≡ None → (y : ℕ) → is_among xs y ≡ true → p y ≡ false
none_passes p [] e y u = absurd (true≢false (sym u))
none_passes p (x ∷ xs) e y u = let h = none_of (p x) x (find p xs) e in
    ⊎_elim (λ g. subst (λ z. p z ≡ false) (same_number x y g) h.0) (λ g. none_passes p xs h.1 y g) (or_cases (nat_eq x y) (is_among xs y) u)

-- ---- steps

new_is : (o : Option Mark) → is_new o ≡ true → o ≡ Some New
new_is None e = absurd (true≢false (sym e))
new_is (Some New) e = refl
new_is (Some Open) e = absurd (true≢false (sym e))
new_is (Some Done) e = absurd (true≢false (sym e))

module _ (uses : List (List ℕ)) (marks : List Mark) (r : ℕ) where
  pub entered : is_new (slice_get marks r) ≡ true → is_new (slice_get (set marks r Open) r) ≡ false
  entered new = ap is_new (get_set_same marks r Open (slice_get_within marks r New (new_is (slice_get marks r) new)))

  module _ (before after : Mark) (here : slice_get marks r ≡ Some before) where
    set_here : slice_get (set marks r after) r ≡ Some after
    set_here = get_set_same marks r after (slice_get_within marks r before here)

    -- what another mark says of a rule it said before
    kept_mark : (m : Mark) (rule : ℕ) → m ≢ after → slice_get (set marks r after) rule ≡ Some m → (rule ≢ r) × (slice_get marks rule ≡ Some m)
    kept_mark m rule differ e = ⊎_elim
        (λ same. absurd (let e2 = subst (λ z. slice_get (set marks r after) z ≡ Some m) same e in let h : m ≡ after = cc (set_here) in differ h))
        (λ other. (other, sym (get_set_other marks r rule after other) ∙ e)) (same_or_not rule r)

    still_new : is_new (Some after) ≡ false → (rule : ℕ) → is_new (slice_get (set marks r after) rule) ≡ true → is_new (slice_get marks rule) ≡ true
    still_new old rule e = ⊎_elim
        (λ same. absurd (true≢false (sym (subst (λ z. is_new (slice_get (set marks r after) z) ≡ true) same e) ∙ (ap is_new set_here ∙ old))))
        (λ other. ap is_new (sym (get_set_other marks r rule after other)) ∙ e) (same_or_not rule r)

  pub enters : (way order : List ℕ) → IsWalk uses marks way order → is_new (slice_get marks r) ≡ true → ((a : ℕ) → is_among way a ≡ true → Reaches uses a r) → Goes uses marks (set marks r Open) (way ++ r ∷ []) order
  enters way order w new reached = let here = new_is (slice_get marks r) new in record {
    walk = record {
      each = length-set marks r Open ∙ w.each;
      done = λ rule e. w.done rule (kept_mark New Open here Done rule (λ x. cc) e).1;
      open_on_way = λ rule e. ⊎_elim (λ same. among_right way (r ∷ []) rule (subst (λ z. is_among (z ∷ []) rule ≡ true) same (among_one rule)))
          (λ other. among_left way (r ∷ []) rule (w.open_on_way rule (sym (get_set_other marks r rule Open other) ∙ e))) (same_or_not rule r);
      on_way = λ rule e. ⊎_elim
          (λ before. let was = w.on_way rule before in get_set_other marks r rule Open (λ same. let at = subst (λ z. slice_get marks z ≡ Some Open) same was in let no : New ≡ Open = cc in cc) ∙ was)
          (λ last. subst (λ z. slice_get (set marks r Open) z ≡ Some Open) (among_single r rule last) (set_here New Open here)) (among_cases way (r ∷ []) rule e);
      ways = way_more uses way r w.ways reached;
      few = omega (arith, w.few, sum_set left marks r New Open here);
      within = w.within;
      behind = w.behind;
    };
    lighter = omega (arith, sum_set weight marks r New Open here);
    new_before = still_new New Open here refl;
  }

  -- a rule that is left: what it uses is done, for an open one would lead back
  module _ (rules : UsesRules uses) (acyclic : HasNoCycle uses) (way order : List ℕ) (w : IsWalk uses marks (way ++ r ∷ []) order)
      (through : (used : ℕ) → is_among (used_by uses r) used ≡ true → is_new (slice_get marks used) ≡ false) where
    pub here_open : slice_get marks r ≡ Some Open
    here_open = w.on_way r (among_right way (r ∷ []) r (among_one r))

    not_open : (used : ℕ) → is_among (used_by uses r) used ≡ true → slice_get marks used ≡ Some Open → ⊥
    not_open used u e = ⊎_elim
        (λ before. no_return uses acyclic used used (reach_more uses used r used (way_last uses way r w.ways used before) u) refl)
        (λ last. no_return uses acyclic r used (reach_one uses r used u) (among_single r used last))
        (among_cases way (r ∷ []) used (w.open_on_way used e))

    used_done : (used : ℕ) (o : Option Mark) → slice_get marks used ≡ o → is_new o ≡ false → is_among (used_by uses r) used ≡ true → is_among order used ≡ true
    used_done used None e n u = absurd (let h : used < length uses = rules r used u in let k : used < length marks = omega (arith, h, w.each) in no_mark marks used k e)
    used_done used (Some New) e n u = absurd (true≢false n)
    used_done used (Some Open) e n u = absurd (not_open used u e)
    used_done used (Some Done) e n u = w.done used e

    behind_last : IsBehind uses (order ++ r ∷ [])
    behind_last i d used h u = ⊎_elim
        (λ lt. let u2 = subst (λ z. is_among (used_by uses z) used ≡ true) (get_or_append_left order (r ∷ []) d i lt) u in
        subst (λ z. is_among z used ≡ true) (sym (take-append-le i order (r ∷ []) (omega arith))) (w.behind i d used lt u2))
        (λ is. let e : get_or (order ++ r ∷ []) i d ≡ r = subst (λ z. get_or (order ++ r ∷ []) z d ≡ r) (sym is) (get_or_last order r d) in
        let u2 = subst (λ z. is_among (used_by uses z) used ≡ true) e u in
        subst (λ z. is_among z used ≡ true) (sym (subst (λ z. take z (order ++ r ∷ []) ≡ order) (sym is) (take-append_seam order (r ∷ []))))
        (used_done used (slice_get marks used) refl (through used u2) u2))
        (below_or_last order r i h)

    pub leaves : Goes uses marks (set marks r Done) way (order ++ r ∷ [])
    leaves = record {
      walk = record {
        each = length-set marks r Done ∙ w.each;
        done = λ rule e. ⊎_elim (λ same. among_right order (r ∷ []) rule (subst (λ z. is_among (z ∷ []) rule ≡ true) same (among_one rule)))
            (λ other. among_left order (r ∷ []) rule (w.done rule (sym (get_set_other marks r rule Done other) ∙ e))) (same_or_not rule r);
        open_on_way = λ rule e. let was = kept_mark Open Done here_open Open rule (λ x. cc) e in
            ⊎_elim (λ before. before) (λ last. absurd (was.0 (sym (among_single r rule last)))) (among_cases way (r ∷ []) rule (w.open_on_way rule was.1));
        on_way = λ rule e. get_set_other marks r rule Done (λ same. no_return uses acyclic rule r (way_last uses way r w.ways rule e) same)
            ∙ w.on_way rule (among_left way (r ∷ []) rule e);
        ways = way_less uses way r w.ways;
        few = omega (arith, w.few, sum_set left marks r Open Done here_open, length_push order r);
        within = λ rule e. ⊎_elim (λ before. w.within rule before)
            (λ last. let h : r < length marks = slice_get_within marks r Open here_open in let s : r ≡ rule = among_single r rule last in omega (arith, h, s, w.each))
            (among_cases order (r ∷ []) rule e);
        behind = behind_last;
      };
      lighter = omega (arith, sum_set weight marks r Open Done here_open);
      new_before = still_new Open Done here_open refl;
    }

-- ---- whole walks

not_among_none : (rule : ℕ) → is_among [] rule ≡ true → ⊥
not_among_none rule e = true≢false (sym e)

new_only : (uses : List (List ℕ)) (i : ℕ) (m : Mark) → slice_get (map (λ u. New) uses) i ≡ Some m → New ≡ m
new_only [] i m e = absurd (cc)
new_only (u ∷ uses) zero m e = cc
new_only (u ∷ uses) (suc i) m e = new_only uses i m e

left_new : (uses : List (List ℕ)) → sum_by left (map (λ u. New) uses) ≡ length uses
left_new [] = refl
left_new (u ∷ uses) = omega (arith, left_new uses, sum_by-cons left New (map (λ u. New) uses))

length_new : (uses : List (List ℕ)) → length (map (λ u. New) uses) ≡ length uses
length_new [] = refl
length_new (u ∷ uses) = ap suc (length_new uses)

-- before the first rule all are new
pub starts : (uses : List (List ℕ)) → IsWalk uses (map (λ u. New) uses) [] []
starts uses = record {
  each = length_new uses;
  done = λ rule e. absurd (let h : New ≡ Done = new_only uses rule Done e in cc);
  open_on_way = λ rule e. absurd (let h : New ≡ Open = new_only uses rule Open e in cc);
  on_way = λ rule e. absurd (not_among_none rule e);
  ways = tt;
  few = omega (arith, left_new uses);
  within = λ rule e. absurd (not_among_none rule e);
  behind = λ i d rule h u. absurd (omega arith);
}

marked_done : (uses : List (List ℕ)) (marks : List Mark) (order : List ℕ) (w : IsWalk uses marks [] order) (rule : ℕ) (o : Option Mark) → slice_get marks rule ≡ o → is_new o ≡ false → rule < length uses → is_among order rule ≡ true
marked_done uses marks order w rule None e n h = absurd (no_mark marks rule (omega (arith, h, w.each)) e)
marked_done uses marks order w rule (Some New) e n h = absurd (true≢false n)
marked_done uses marks order w rule (Some Open) e n h = absurd (not_among_none rule (w.open_on_way rule e))
marked_done uses marks order w rule (Some Done) e n h = w.done rule e

-- when no rule is new, all are in order
pub ordered : (uses : List (List ℕ)) (marks : List Mark) (order : List ℕ) → IsWalk uses marks [] order → ((rule : ℕ) → rule < length uses → is_new (slice_get marks rule) ≡ false) → IsCallOrder uses order
ordered uses marks order w seen = record {
  few = omega (arith, w.few);
  within = w.within;
  each = λ rule h. marked_done uses marks order w rule (slice_get marks rule) refl (seen rule h) h;
  behind = w.behind;
}
