-- The variables of forms with others put in.
use Rattle.std.specs.Prelude.{◌≡◌, ℕ, ℤ, pos, ◌+ℤ◌, ◌*ℤ◌, nat_eq, nat_lt, Bool, true, false, not, ◌&&◌, if◌then◌else◌, List, [], ◌∷◌, ◌++◌, map, flat_map, filter}
use Rattle.std.specs.List.{list_all, AllByRecursion}
use Rattle.std.specs.Ordering.{int_eq}
use Rattle.std.proofs.Common.{refl, sym, ap, ◌∙◌, subst, cond}
use Rattle.std.proofs.lemmas.List.Folds.{list_all-append}
use Rattle.affine_rows.specs.declared.quasi.Quasi.{Quasi, Quasi-F, roll-Quasi, out-Quasi, out-roll-Quasi, ind-Quasi}
use Rattle.affine_rows.specs.declared.quasi.Floor.{Floor, Floor-F, roll-Floor, out-Floor, out-roll-Floor}
use Rattle.affine_rows.specs.Reduced.{add_term, cons_term}
use Rattle.expr_tree.specs.Scenes.{each_var, is_among}
use Rattle.quasi_forms.specs.Alike.{same_floor, distinct}
use Rattle.quasi_forms.specs.Collected.{collected_terms, with_times, times_of, collected_floors, scaled_terms, multiple_floors, scaled_floors, combined_form, put_parts, without_terms, put_form}
use Rattle.quasi_forms.specs.Placed.{put_floor}
use Rattle.quasi_forms.proofs.SumLimits.{terms-collected, floors-collected}
use Rattle.quasi_forms.proofs.Placing.{put_form-out, put_floor-out}
use Rattle.quasi_forms.proofs.Recursion.{recursion-append}
use Rattle.quasi_forms.proofs.FormVariables.{each_var-out}
use Rattle.subst_rules.proofs.Bools.{both, first_of_both, second_of_both}

module _ (test : ℕ → Bool) where
  abbrev TermsPass : List (ℕ × ℤ) → Type 0
  TermsPass ts = list_all (λ t. test t.0) ts ≡ true

  abbrev FloorsPass : List Floor → Type 0
  FloorsPass fs = list_all (λ f. each_var test (out-Floor f).inner) fs ≡ true

  -- ---- terms

  cons_case : (b : Bool) (v : ℕ) (z : ℤ) (ts : List (ℕ × ℤ)) → test v ≡ true → TermsPass ts → TermsPass (if b then ts else ((v, z) ∷ ts))
  cons_case true v z ts h all = all
  cons_case false v z ts h all = both (test v) (list_all (λ t. test t.0) ts) h all

  cons_pass : (v : ℕ) (z : ℤ) (ts : List (ℕ × ℤ)) → test v ≡ true → TermsPass ts → TermsPass (cons_term v z ts)
  unfolding cons_term
  cons_pass v z ts h all = cons_case (int_eq z (pos 0)) v z ts h all

  pick_one : (b c : Bool) (xs ys zs : List (ℕ × ℤ)) → TermsPass xs → TermsPass ys → TermsPass zs → TermsPass (if b then xs else if c then ys else zs)
  pick_one true c xs ys zs h g f = h
  pick_one false true xs ys zs h g f = g
  pick_one false false xs ys zs h g f = f

  add_pass : (v : ℕ) (z : ℤ) (ts : List (ℕ × ℤ)) → test v ≡ true → TermsPass ts → TermsPass (add_term v z ts)
  unfolding add_term
  add_pass v z [] h all = cons_pass v z [] h refl
  add_pass v z (t ∷ ts) h all =
      let here = first_of_both (test t.0) (list_all (λ t. test t.0) ts) all in
      let rest = second_of_both (test t.0) (list_all (λ t. test t.0) ts) all in
      pick_one (nat_lt v t.0) (nat_eq v t.0) (cons_term v z (t ∷ ts)) (cons_term v (z +ℤ t.1) ts) (t ∷ add_term v z ts)
      (cons_pass v z (t ∷ ts) h all) (cons_pass v (z +ℤ t.1) ts h rest) (both (test t.0) (list_all (λ t. test t.0) (add_term v z ts)) here (add_pass v z ts h rest))

  collected_pass : (ts : List (ℕ × ℤ)) → TermsPass ts → TermsPass (collected_terms ts)
  unfolding collected_terms
  collected_pass [] all = refl
  collected_pass (t ∷ ts) all = add_pass t.0 t.1 (collected_terms ts) (first_of_both (test t.0) (list_all (λ t. test t.0) ts) all) (collected_pass ts (second_of_both (test t.0) (list_all (λ t. test t.0) ts) all))

  scaled_pass : (p : ℤ) (ts : List (ℕ × ℤ)) → TermsPass ts → TermsPass (scaled_terms p ts)
  scaled_pass p [] all = refl
  scaled_pass p (t ∷ ts) all = both (test t.0) (list_all (λ t. test t.0) (scaled_terms p ts)) (first_of_both (test t.0) (list_all (λ t. test t.0) ts) all) (scaled_pass p ts (second_of_both (test t.0) (list_all (λ t. test t.0) ts) all))

  -- ---- floors

  abbrev inner_passes : Floor → Bool
  inner_passes f = each_var test (out-Floor f).inner

  with_pass : (z : ℤ) (f : Floor) → inner_passes f ≡ true → inner_passes (with_times z f) ≡ true
  with_pass z f h = ap (each_var test) (let e : (out-Floor (with_times z f)).inner ≡ (out-Floor f).inner = simp out-roll-Floor refl in e) ∙ h

  floor_cond : (b : Bool) (f : Floor) (fs : List Floor) → inner_passes f ≡ true → FloorsPass fs → FloorsPass (cond b (f ∷ fs) fs)
  floor_cond true f fs h all = both (inner_passes f) (list_all inner_passes fs) h all
  floor_cond false f fs h all = all

  filter_pass : (p : Floor → Bool) (fs : List Floor) → FloorsPass fs → FloorsPass (filter p fs)
  filter_pass p [] all = refl
  filter_pass p (f ∷ fs) all = floor_cond (p f) f (filter p fs) (first_of_both (inner_passes f) (list_all inner_passes fs) all) (filter_pass p fs (second_of_both (inner_passes f) (list_all inner_passes fs) all))

  distinct_pass : (fs : List Floor) → FloorsPass fs → FloorsPass (distinct same_floor fs)
  distinct_pass [] all = refl
  distinct_pass (f ∷ fs) all = both (inner_passes f) (list_all inner_passes (filter (λ g. not (same_floor f g)) (distinct same_floor fs))) (first_of_both (inner_passes f) (list_all inner_passes fs) all)
      (filter_pass (λ g. not (same_floor f g)) (distinct same_floor fs) (distinct_pass fs (second_of_both (inner_passes f) (list_all inner_passes fs) all)))

  times_pass : (of : Floor → ℤ) (fs : List Floor) → FloorsPass fs → FloorsPass (map (λ f. with_times (of f) f) fs)
  times_pass of [] all = refl
  times_pass of (f ∷ fs) all = both (inner_passes (with_times (of f) f)) (list_all inner_passes (map (λ f. with_times (of f) f) fs)) (with_pass (of f) f (first_of_both (inner_passes f) (list_all inner_passes fs) all)) (times_pass of fs (second_of_both (inner_passes f) (list_all inner_passes fs) all))

  gathered_pass : (fs : List Floor) → FloorsPass fs → FloorsPass (collected_floors fs)
  unfolding collected_floors
  gathered_pass fs all = filter_pass _ _ (times_pass (times_of fs) (distinct same_floor fs) (distinct_pass fs all))

  scaled_case : (b : Bool) (fs : List Floor) → FloorsPass fs → FloorsPass (if b then [] else fs)
  scaled_case true fs all = refl
  scaled_case false fs all = all

  scaled_floors_pass : (p : ℤ) (fs : List Floor) → FloorsPass fs → FloorsPass (scaled_floors p fs)
  scaled_floors_pass p fs all = scaled_case (int_eq p (pos 0)) (multiple_floors p fs) (times_pass (λ f. p *ℤ (out-Floor f).times) fs all)

  -- ---- sums

  abbrev Passes : Quasi → Type 0
  Passes q = each_var test q ≡ true

  abbrev own_terms : Quasi → Bool
  own_terms q = list_all (λ t. test t.0) (out-Quasi q).terms

  abbrev own_floors : Quasi → Bool
  own_floors q = list_all inner_passes (out-Quasi q).floors

  terms_of : (q : Quasi) → Passes q → own_terms q ≡ true
  terms_of q h = first_of_both (own_terms q) (own_floors q) (sym (each_var-out test q) ∙ h)

  floors_of : (q : Quasi) → Passes q → own_floors q ≡ true
  floors_of q h = second_of_both (own_terms q) (own_floors q) (sym (each_var-out test q) ∙ h)

  made_of : (q : Quasi) (ts : List (ℕ × ℤ)) (fs : List Floor) → (out-Quasi q).terms ≡ ts → (out-Quasi q).floors ≡ fs → TermsPass ts → FloorsPass fs → Passes q
  made_of q ts fs t f h g = each_var-out test q ∙ both (own_terms q) (own_floors q) (ap (list_all (λ (t : ℕ × ℤ). test t.0)) t ∙ h) (ap (list_all inner_passes) f ∙ g)

  all_terms : (ms : List (ℤ × Quasi)) → AllByRecursion (λ m. Passes m.1) ms → TermsPass (flat_map (λ m. scaled_terms m.0 (out-Quasi m.1).terms) ms)
  all_terms [] all = refl
  all_terms (m ∷ ms) all =
      list_all-append (λ t. test t.0) (scaled_terms m.0 (out-Quasi m.1).terms) (flat_map (λ m. scaled_terms m.0 (out-Quasi m.1).terms) ms)
      ∙ both (list_all (λ t. test t.0) (scaled_terms m.0 (out-Quasi m.1).terms)) (list_all (λ t. test t.0) (flat_map (λ m. scaled_terms m.0 (out-Quasi m.1).terms) ms)) (scaled_pass m.0 (out-Quasi m.1).terms (terms_of m.1 all.0)) (all_terms ms all.1)

  all_floors : (ms : List (ℤ × Quasi)) → AllByRecursion (λ m. Passes m.1) ms → FloorsPass (flat_map (λ m. scaled_floors m.0 (out-Quasi m.1).floors) ms)
  all_floors [] all = refl
  all_floors (m ∷ ms) all =
      list_all-append inner_passes (scaled_floors m.0 (out-Quasi m.1).floors) (flat_map (λ m. scaled_floors m.0 (out-Quasi m.1).floors) ms)
      ∙ both (list_all inner_passes (scaled_floors m.0 (out-Quasi m.1).floors)) (list_all inner_passes (flat_map (λ m. scaled_floors m.0 (out-Quasi m.1).floors) ms)) (scaled_floors_pass m.0 (out-Quasi m.1).floors (floors_of m.1 all.0)) (all_floors ms all.1)

  combined_pass : (ms : List (ℤ × Quasi)) → AllByRecursion (λ m. Passes m.1) ms → Passes (combined_form ms)
  combined_pass ms all =
      made_of (combined_form ms) _ _ (terms-collected _ _ _) (floors-collected _ _ _)
      (collected_pass (flat_map (λ m. scaled_terms m.0 (out-Quasi m.1).terms) ms) (all_terms ms all)) (gathered_pass (flat_map (λ m. scaled_floors m.0 (out-Quasi m.1).floors) ms) (all_floors ms all))

  -- ---- forms put in

  parts_pass : (vs : List ℕ) (bs : List Quasi) (ts : List (ℕ × ℤ)) → list_all (each_var test) bs ≡ true → AllByRecursion (λ m. Passes m.1) (put_parts vs bs ts)
  parts_pass [] bs ts all = tt
  parts_pass (v ∷ vs) [] ts all = tt
  parts_pass (v ∷ vs) (b ∷ bs) ts all = (first_of_both (each_var test b) (list_all (each_var test) bs) all, parts_pass vs bs ts (second_of_both (each_var test b) (list_all (each_var test) bs) all))

  -- of the variables that pass before, those that are not replaced pass after
  module _ (vs : List ℕ) (bs : List Quasi) (before : ℕ → Bool) (rest : (v : ℕ) → before v ≡ true → is_among vs v ≡ false → test v ≡ true) (all : list_all (each_var test) bs ≡ true) where
    other_case : (b : Bool) (t : ℕ × ℤ) (ts : List (ℕ × ℤ)) → is_among vs t.0 ≡ b → before t.0 ≡ true → TermsPass ts → TermsPass (cond (not b) (t ∷ ts) ts)
    other_case true t ts e h g = g
    other_case false t ts e h g = both (test t.0) (list_all (λ t. test t.0) ts) (rest t.0 h e) g

    others_pass : (ts : List (ℕ × ℤ)) → list_all (λ t. before t.0) ts ≡ true → TermsPass (filter (λ t. not (is_among vs t.0)) ts)
    others_pass [] h = refl
    others_pass (t ∷ ts) h = other_case (is_among vs t.0) t (filter (λ t. not (is_among vs t.0)) ts) refl (first_of_both (before t.0) (list_all (λ t. before t.0) ts) h) (others_pass ts (second_of_both (before t.0) (list_all (λ t. before t.0) ts) h))

    abbrev FormPut : Quasi → Type 0
    FormPut q = each_var before q ≡ true → Passes (put_form vs bs q)

    abbrev FloorPut : Floor → Type 0
    FloorPut f = each_var before (out-Floor f).inner ≡ true → inner_passes (put_floor vs bs f) ≡ true

    floors_put : (fs : List ((f : Floor) × FloorPut f)) → list_all (λ f. each_var before (out-Floor f).inner) (map (λ e. e.0) fs) ≡ true → FloorsPass (map (put_floor vs bs) (map (λ e. e.0) fs))
    floors_put [] h = refl
    floors_put (e ∷ fs) h =
        both (inner_passes (put_floor vs bs e.0)) (list_all inner_passes (map (put_floor vs bs) (map (λ e. e.0) fs))) (e.1 (first_of_both (each_var before (out-Floor e.0).inner) (list_all (λ f. each_var before (out-Floor f).inner) (map (λ e. e.0) fs)) h))
        (floors_put fs (second_of_both (each_var before (out-Floor e.0).inner) (list_all (λ f. each_var before (out-Floor f).inner) (map (λ e. e.0) fs)) h))

    form_case : (y : Quasi-F ((f : Floor) × FloorPut f) ((q : Quasi) × FormPut q)) → FormPut (roll-Quasi (record { constant = y.constant; terms = y.terms; floors = map (λ e. e.0) y.floors }))
    form_case y h =
        let l : Quasi-F Floor Quasi = record { constant = y.constant; terms = y.terms; floors = map (λ e. e.0) y.floors } in
        let q : Quasi = roll-Quasi l in
        let m : Quasi-F Floor Quasi = record { constant = y.constant; terms = y.terms; floors = map (put_floor vs bs) (map (λ e. e.0) y.floors) } in
        let parts : (list_all (λ t. before t.0) (out-Quasi q).terms && list_all (λ f. each_var before (out-Floor f).inner) (out-Quasi q).floors) ≡ true = sym (each_var-out before q) ∙ h in
        let own : list_all (λ t. before t.0) y.terms ≡ true = ap (λ (l : Quasi-F Floor Quasi). list_all (λ t. before t.0) l.terms) (sym (out-roll-Quasi l)) ∙ first_of_both (list_all (λ t. before t.0) (out-Quasi q).terms) (list_all (λ f. each_var before (out-Floor f).inner) (out-Quasi q).floors) parts in
        let under : list_all (λ f. each_var before (out-Floor f).inner) (map (λ e. e.0) y.floors) ≡ true = ap (λ (l : Quasi-F Floor Quasi). list_all (λ f. each_var before (out-Floor f).inner) l.floors) (sym (out-roll-Quasi l)) ∙ second_of_both (list_all (λ t. before t.0) (out-Quasi q).terms) (list_all (λ f. each_var before (out-Floor f).inner) (out-Quasi q).floors) parts in
        let last : Passes (without_terms vs m) =
        made_of (without_terms vs m) (filter (λ t. not (is_among vs t.0)) y.terms) (map (put_floor vs bs) (map (λ e. e.0) y.floors))
        (ap (λ (l : Quasi-F Floor Quasi). l.terms) (out-roll-Quasi (let x : Quasi-F Floor Quasi = record { constant = y.constant; terms = filter (λ t. not (is_among vs t.0)) y.terms; floors = map (put_floor vs bs) (map (λ e. e.0) y.floors) } in x)))
        (ap (λ (l : Quasi-F Floor Quasi). l.floors) (out-roll-Quasi (let x : Quasi-F Floor Quasi = record { constant = y.constant; terms = filter (λ t. not (is_among vs t.0)) y.terms; floors = map (put_floor vs bs) (map (λ e. e.0) y.floors) } in x)))
        (others_pass y.terms own) (floors_put y.floors under) in
        let ms : List (ℤ × Quasi) = put_parts vs bs y.terms ++ (pos 1, without_terms vs m) ∷ [] in
        let made : put_form vs bs q ≡ combined_form ms =
        put_form-out vs bs q ∙ ap (λ (l : Quasi-F Floor Quasi). combined_form (put_parts vs bs l.terms ++ (pos 1, without_terms vs (let x : Quasi-F Floor Quasi = record { constant = l.constant; terms = l.terms; floors = map (put_floor vs bs) l.floors } in x)) ∷ [])) (out-roll-Quasi l) in
        ap (each_var test) made ∙ combined_pass ms (recursion-append (λ m. Passes m.1) (put_parts vs bs y.terms) ((pos 1, without_terms vs m) ∷ []) (parts_pass vs bs y.terms all) (last, tt))

    floor_case : (y : Floor-F ((f : Floor) × FloorPut f) ((q : Quasi) × FormPut q)) → FloorPut (roll-Floor (record { times = y.times; inner = y.inner.0; by = y.by }))
    floor_case y h =
        let l : Floor-F Floor Quasi = record { times = y.times; inner = y.inner.0; by = y.by } in
        let inner : (out-Floor (roll-Floor l)).inner ≡ y.inner.0 = ap (λ (x : Floor-F Floor Quasi). x.inner) (out-roll-Floor l) in
        let made : (out-Floor (put_floor vs bs (roll-Floor l))).inner ≡ put_form vs bs y.inner.0 =
        ap (λ (f : Floor). (out-Floor f).inner) (put_floor-out vs bs (roll-Floor l)) ∙ (simp out-roll-Floor refl) in
        ap (each_var test) made ∙ y.inner.1 (ap (each_var before) (sym inner) ∙ h)

    pub put_pass : (q : Quasi) → FormPut q
    put_pass = ind-Quasi FloorPut FormPut (λ x y is. subst (λ z. FloorPut (roll-Floor z)) is (floor_case y)) (λ x y is. subst (λ z. FormPut (roll-Quasi z)) is (form_case y))
