-- The variables of forms that are collected.
use Rattle.std.proofs.Common.{◌≡◌, ℕ, ℤ, pos, neg_ℤ, ◌*ℤ◌, Bool, true, false, ◌&&◌, cond, Option, Some, None, List, [], ◌∷◌, ◌++◌, map, refl, sym, ap, ap₂, subst, ◌∙◌}
use Rattle.std.specs.Prelude.{flat_map, filter}
use Rattle.std.specs.List.{list_all, AllByRecursion}
use Rattle.std.specs.Ordering.{int_eq}
use Rattle.std.proofs.lemmas.List.Folds.{list_all-append, list_all-map}
use Rattle.affine_rows.specs.declared.quasi.Quasi.{Quasi, Quasi-F, roll-Quasi, out-Quasi, out-roll-Quasi, fold_out-Quasi, fold-roll-Quasi, ind-Quasi}
use Rattle.affine_rows.specs.declared.quasi.Floor.{Floor, Floor-F, roll-Floor, out-Floor, out-roll-Floor, fold-Floor, fold_out-Floor, fold-roll-Floor}
use Rattle.affine_rows.specs.Forms.{affine}
use Rattle.expr_tree.specs.Scenes.{each_var, is_among, mentions_only}
use Rattle.kernel_grammar.specs.declared.item.Relation.{Relation}
use Rattle.kernel_grammar.specs.declared.item.Relation.TheVariants.{LessEqual, Less, GreaterEqual, Greater, Equal}
use Rattle.kernel_grammar.specs.declared.step.Infix.{Infix}
use Rattle.kernel_grammar.specs.declared.step.Infix.TheVariants as infixed
use Rattle.quasi_forms.specs.Alike.{same_floor, distinct}
use Rattle.quasi_forms.specs.Affine.{number_of_form, times_form}
use Rattle.quasi_forms.specs.Within.{is_within}
use Rattle.quasi_forms.specs.Collected.{with_times, times_of, collected_floors, scaled_terms, multiple_floors, scaled_floors, combined_form, sum_form, constant_form, floor_form}
use Rattle.quasi_forms.proofs.SumLimits.{terms-collected, floors-collected}
use Rattle.quasi_forms.proofs.TermSums.{collected-each}
use Rattle.quasi_forms.proofs.FloorVariables.{distinct_all}
use Rattle.quasi_forms.proofs.Recursion.{recursion-append}
use Rattle.quasi_forms.proofs.Likeness.{both, and_true}
use Rattle.untyped.specs.declared.index.Collected.{Collected}
use Rattle.untyped.specs.Indexes.{one, collected, divisor, quotient, left, remainder, operated, negated}
use Rattle.untyped_parts.specs.Mentions.{vars_in}
use Rattle.untyped_parts.specs.Rows.{difference, less_one, row_of}

-- ---- a test of each element, as a fact of each

pub each_fact : {X : Type 0} (test : X → Bool) (xs : List X) → list_all test xs ≡ true → AllByRecursion (λ x. test x ≡ true) xs
each_fact test [] h = tt
each_fact test (x ∷ xs) h = (let parts = both (test x) (list_all test xs) h in (parts.0, each_fact test xs parts.1))

pub of_each : {X : Type 0} (test : X → Bool) (xs : List X) → AllByRecursion (λ x. test x ≡ true) xs → list_all test xs ≡ true
of_each test [] h = refl
of_each test (x ∷ xs) h = and_true (test x) (list_all test xs) h.0 (of_each test xs h.1)

-- ---- the variables of a form by its layer

floor_passes : (ℕ → Bool) → Floor → Bool
floor_passes test = fold-Floor Bool Bool (λ f. f.inner) (λ q. list_all (λ t. test t.0) q.terms && list_all (λ b. b) q.floors)

floor_passes-out : (test : ℕ → Bool) (f : Floor) → floor_passes test f ≡ each_var test (out-Floor f).inner
unfolding floor_passes
floor_passes-out test = fold_out-Floor Bool Bool (λ f. f.inner) (λ q. list_all (λ t. test t.0) q.terms && list_all (λ b. b) q.floors)

floors_pass : (test : ℕ → Bool) (fs : List Floor) → list_all (λ b. b) (map (floor_passes test) fs) ≡ list_all (λ f. each_var test (out-Floor f).inner) fs
floors_pass test [] = refl
floors_pass test (f ∷ fs) = ap₂ (λ (a b : Bool). a && b) (floor_passes-out test f) (floors_pass test fs)

form_passes : (test : ℕ → Bool) (q : Quasi)
    → each_var test q ≡ (list_all (λ t. test t.0) (out-Quasi q).terms && list_all (λ b. b) (map (floor_passes test) (out-Quasi q).floors))
unfolding floor_passes
form_passes test = fold_out-Quasi Bool Bool (λ f. f.inner) (λ q. list_all (λ t. test t.0) q.terms && list_all (λ b. b) q.floors)

each_var-out : (test : ℕ → Bool) (q : Quasi)
    → each_var test q ≡ (list_all (λ t. test t.0) (out-Quasi q).terms && list_all (λ f. each_var test (out-Floor f).inner) (out-Quasi q).floors)
each_var-out test q = form_passes test q ∙ ap (λ (b : Bool). list_all (λ t. test t.0) (out-Quasi q).terms && b) (floors_pass test (out-Quasi q).floors)

floor_vars : Floor → List ℕ
floor_vars = fold-Floor (List ℕ) (List ℕ) (λ f. f.inner) (λ q. map (λ t. t.0) q.terms ++ flat_map (λ vs. vs) q.floors)

-- a form made by its layer
each_var-roll : (test : ℕ → Bool) (l : Quasi-F Floor Quasi)
    → each_var test (roll-Quasi l) ≡ (list_all (λ t. test t.0) l.terms && list_all (λ b. b) (map (floor_passes test) l.floors))
unfolding floor_passes
each_var-roll test = fold-roll-Quasi Bool Bool (λ f. f.inner) (λ q. list_all (λ t. test t.0) q.terms && list_all (λ b. b) q.floors)

vars_in-roll : (l : Quasi-F Floor Quasi) → vars_in (roll-Quasi l) ≡ map (λ t. t.0) l.terms ++ flat_map (λ vs. vs) (map floor_vars l.floors)
unfolding floor_vars
vars_in-roll = fold-roll-Quasi (List ℕ) (List ℕ) (λ f. f.inner) (λ q. map (λ t. t.0) q.terms ++ flat_map (λ vs. vs) q.floors)

floor_passes-roll : (test : ℕ → Bool) (l : Floor-F Floor Quasi) → floor_passes test (roll-Floor l) ≡ each_var test l.inner
unfolding floor_passes
floor_passes-roll test = fold-roll-Floor Bool Bool (λ f. f.inner) (λ q. list_all (λ t. test t.0) q.terms && list_all (λ b. b) q.floors)

floor_vars-roll : (l : Floor-F Floor Quasi) → floor_vars (roll-Floor l) ≡ vars_in l.inner
unfolding floor_vars
floor_vars-roll = fold-roll-Floor (List ℕ) (List ℕ) (λ f. f.inner) (λ q. map (λ t. t.0) q.terms ++ flat_map (λ vs. vs) q.floors)

module _ (test : ℕ → Bool) where
  abbrev Passes : Quasi → Type 0
  Passes q = each_var test q ≡ true

  abbrev FloorPasses : Floor → Type 0
  FloorPasses f = Passes (out-Floor f).inner

  abbrev TermsPass : List (ℕ × ℤ) → Type 0
  TermsPass ts = AllByRecursion (λ (t : ℕ × ℤ). test t.0 ≡ true) ts

  abbrev FloorsPass : List Floor → Type 0
  FloorsPass fs = AllByRecursion FloorPasses fs

  own_terms : (q : Quasi) → Passes q → TermsPass (out-Quasi q).terms
  own_terms q h = each_fact (λ (t : ℕ × ℤ). test t.0) (out-Quasi q).terms (both _ _ (sym (each_var-out test q) ∙ h)).0

  own_floors : (q : Quasi) → Passes q → FloorsPass (out-Quasi q).floors
  own_floors q h = each_fact (λ f. each_var test (out-Floor f).inner) (out-Quasi q).floors (both _ _ (sym (each_var-out test q) ∙ h)).1

  of_parts : (q : Quasi) (ts : List (ℕ × ℤ)) (fs : List Floor) → (out-Quasi q).terms ≡ ts → (out-Quasi q).floors ≡ fs → TermsPass ts → FloorsPass fs → Passes q
  of_parts q ts fs t f h k =
      each_var-out test q
      ∙ and_true _ _ (ap (list_all (λ (t : ℕ × ℤ). test t.0)) t ∙ of_each (λ (t : ℕ × ℤ). test t.0) ts h)
      (ap (list_all (λ (f : Floor). each_var test (out-Floor f).inner)) f ∙ of_each (λ (f : Floor). each_var test (out-Floor f).inner) fs k)

  -- ---- sums of multiples

  scaled : (p : ℤ) (ts : List (ℕ × ℤ)) → TermsPass ts → TermsPass (scaled_terms p ts)
  scaled p [] h = tt
  scaled p (t ∷ ts) h = (h.0, scaled p ts h.1)

  with_pass : (z : ℤ) (f : Floor) → FloorPasses f → FloorPasses (with_times z f)
  with_pass z f h = ap (each_var test) (let e : (out-Floor (with_times z f)).inner ≡ (out-Floor f).inner = simp out-roll-Floor refl in e) ∙ h

  times_pass : (times : Floor → ℤ) (fs : List Floor) → FloorsPass fs → FloorsPass (map (λ f. with_times (times f) f) fs)
  times_pass times [] h = tt
  times_pass times (f ∷ fs) h = (with_pass (times f) f h.0, times_pass times fs h.1)

  kept_if : (b : Bool) (f : Floor) (fs : List Floor) → FloorPasses f → FloorsPass fs → FloorsPass (cond b (f ∷ fs) fs)
  kept_if true f fs h k = (h, k)
  kept_if false f fs h k = k

  filtered : (p : Floor → Bool) (fs : List Floor) → FloorsPass fs → FloorsPass (filter p fs)
  filtered p [] h = tt
  filtered p (f ∷ fs) h = kept_if (p f) f (filter p fs) h.0 (filtered p fs h.1)

  gathered : (fs : List Floor) → FloorsPass fs → FloorsPass (collected_floors fs)
  unfolding collected_floors
  gathered fs h = filtered _ _ (times_pass (times_of fs) (distinct same_floor fs) (distinct_all FloorPasses fs h))

  unless_none : (b : Bool) (fs : List Floor) → FloorsPass fs → FloorsPass (cond b [] fs)
  unless_none true fs h = tt
  unless_none false fs h = h

  scaled_all : (p : ℤ) (fs : List Floor) → FloorsPass fs → FloorsPass (scaled_floors p fs)
  scaled_all p fs h = unless_none (int_eq p (pos 0)) (multiple_floors p fs) (times_pass (λ f. p *ℤ (out-Floor f).times) fs h)

  all_terms : (ms : List (ℤ × Quasi)) → AllByRecursion (λ m. Passes m.1) ms → TermsPass (flat_map (λ m. scaled_terms m.0 (out-Quasi m.1).terms) ms)
  all_terms [] h = tt
  all_terms (m ∷ ms) h = recursion-append _ (scaled_terms m.0 (out-Quasi m.1).terms) _ (scaled m.0 (out-Quasi m.1).terms (own_terms m.1 h.0)) (all_terms ms h.1)

  all_floors : (ms : List (ℤ × Quasi)) → AllByRecursion (λ m. Passes m.1) ms → FloorsPass (flat_map (λ m. scaled_floors m.0 (out-Quasi m.1).floors) ms)
  all_floors [] h = tt
  all_floors (m ∷ ms) h =
      recursion-append _ (scaled_floors m.0 (out-Quasi m.1).floors) _ (scaled_all m.0 (out-Quasi m.1).floors (own_floors m.1 h.0)) (all_floors ms h.1)

  combined : (ms : List (ℤ × Quasi)) → AllByRecursion (λ m. Passes m.1) ms → Passes (combined_form ms)
  combined ms h =
      of_parts (combined_form ms) _ _ (terms-collected _ _ _) (floors-collected _ _ _)
      (collected-each (λ v. test v ≡ true) (flat_map (λ m. scaled_terms m.0 (out-Quasi m.1).terms) ms) (all_terms ms h))
      (gathered (flat_map (λ m. scaled_floors m.0 (out-Quasi m.1).floors) ms) (all_floors ms h))

  pub sum_passes : (a : Quasi) (times : ℤ) (b : Quasi) → Passes a → Passes b → Passes (sum_form a times b)
  sum_passes a times b h k = combined ((pos 1, a) ∷ (times, b) ∷ []) (h, (k, tt))

  -- ---- forms of one part

  pub affine_passes : (constant : ℤ) (ts : List (ℕ × ℤ)) → TermsPass ts → Passes (affine constant ts)
  affine_passes constant ts h =
      of_parts (affine constant ts) ts [] (ap (λ (l : Quasi-F Floor Quasi). l.terms) (out-roll-Quasi _))
      (ap (λ (l : Quasi-F Floor Quasi). l.floors) (out-roll-Quasi _)) h tt

  pub constant_passes : (c : ℤ) → Passes (constant_form c)
  constant_passes c = affine_passes c [] tt

  floor_passes_of : (a : Quasi) (by : ℤ) → Passes a → Passes (floor_form a by)
  unfolding floor_form
  floor_passes_of a by h =
      of_parts (floor_form a by) [] (roll-Floor (record { times = pos 1; inner = a; by = by }) ∷ [])
      (ap (λ (l : Quasi-F Floor Quasi). l.terms) (out-roll-Quasi _)) (ap (λ (l : Quasi-F Floor Quasi). l.floors) (out-roll-Quasi _)) tt
      (ap (λ (l : Floor-F Floor Quasi). each_var test l.inner) (out-roll-Floor _) ∙ h, tt)

  -- ---- what is collected

  abbrev pub CollectedPasses : Collected → Type 0
  CollectedPasses c = Passes c.form

  within_or_one : (b : Bool) (f : Quasi) → Passes f → Passes (cond b f one)
  within_or_one true f h = h
  within_or_one false f h = constant_passes (pos 1)

  collected_passes : (constant : Bool) (f : Quasi) → Passes f → CollectedPasses (collected constant f)
  collected_passes constant f h = within_or_one (is_within f) f h

  abbrev pub OptionPasses : Option Collected → Type 0
  OptionPasses None = Unit {0}
  OptionPasses (Some c) = CollectedPasses c

  either_passes : (b c : Bool) (x y : Collected) → CollectedPasses x → CollectedPasses y → OptionPasses (cond b (Some x) (cond c (Some y) None))
  either_passes true c x y h k = h
  either_passes false true x y h k = k
  either_passes false false x y h k = tt

  module _ (f : Quasi) (c : Bool) (h : Passes f) where
    quotient_passes : (by : Option ℤ) → OptionPasses (quotient f c by)
    quotient_passes None = tt
    quotient_passes (Some by) = collected_passes c (floor_form f by) (floor_passes_of f by h)

    left_passes : (q : Collected) (by : ℤ) → CollectedPasses q → CollectedPasses (left f q by)
    left_passes q by k = collected_passes q.constant (sum_form f (neg_ℤ by) q.form) (sum_passes f (neg_ℤ by) q.form h k)

    remainder_passes : (by : Option ℤ) → OptionPasses (remainder f c by)
    remainder_passes None = tt
    remainder_passes (Some by) = left_passes (collected c (floor_form f by)) by (quotient_passes (Some by))

    times_passes : (number : Quasi) → Passes (times_form number f)
    times_passes number = sum_passes (constant_form (pos 0)) (number_of_form number) f (constant_passes (pos 0)) h

    pub negated_passes : CollectedPasses (negated f c)
    negated_passes = collected_passes c _ (sum_passes (constant_form (pos 0)) (neg_ℤ (pos 1)) f (constant_passes (pos 0)) h)

  pub operated_passes : (op : Infix) (f : Quasi) (c : Bool) (g : Quasi) (d : Bool) → Passes f → Passes g → OptionPasses (operated op f c g d)
  operated_passes infixed.Add f c g d h k = collected_passes (c && d) _ (sum_passes f (pos 1) g h k)
  operated_passes infixed.Subtract f c g d h k = collected_passes (c && d) _ (sum_passes f (neg_ℤ (pos 1)) g h k)
  operated_passes infixed.Multiply f c g d h k =
      either_passes c d (collected (c && d) (times_form f g)) (collected (c && d) (times_form g f))
      (collected_passes (c && d) _ (times_passes g d k f)) (collected_passes (c && d) _ (times_passes f c h g))
  operated_passes infixed.Divide f c g d h k = quotient_passes f c h (divisor g d)
  operated_passes infixed.Remainder f c g d h k = remainder_passes f c h (divisor g d)
  operated_passes _ f c g d h k = tt

  -- ---- rows

  difference_passes : (a b : Quasi) → Passes a → Passes b → CollectedPasses (difference a b)
  difference_passes a b h k = collected_passes false _ (sum_passes a (neg_ℤ (pos 1)) b h k)

  less_passes : (c : Collected) → CollectedPasses c → CollectedPasses (less_one c)
  less_passes c h = collected_passes false _ (sum_passes c.form (neg_ℤ (pos 1)) one h (constant_passes (pos 1)))

  pub row_passes : (r : Relation) (a b : Quasi) → Passes a → Passes b → Passes (row_of r a b).row.form
  row_passes LessEqual a b h k = difference_passes b a k h
  row_passes Less a b h k = less_passes (difference b a) (difference_passes b a k h)
  row_passes GreaterEqual a b h k = difference_passes a b h k
  row_passes Greater a b h k = less_passes (difference a b) (difference_passes a b h k)
  row_passes Equal a b h k = difference_passes a b h k

  -- ---- the list of the variables

  abbrev SameForm : Quasi → Type 0
  SameForm q = each_var test q ≡ list_all test (vars_in q)

  abbrev SameFloor : Floor → Type 0
  SameFloor f = floor_passes test f ≡ list_all test (floor_vars f)

  same_floors : (es : List ((f : Floor) × SameFloor f))
      → list_all (λ b. b) (map (floor_passes test) (map (λ e. e.0) es)) ≡ list_all test (flat_map (λ vs. vs) (map floor_vars (map (λ e. e.0) es)))
  same_floors [] = refl
  same_floors (e ∷ es) =
      ap₂ (λ (a b : Bool). a && b) e.1 (same_floors es) ∙ sym (list_all-append test (floor_vars e.0) (flat_map (λ vs. vs) (map floor_vars (map (λ e. e.0) es))))

  form_same : (l : Quasi-F Floor Quasi) (all : Bool) (under : List ℕ) → list_all (λ b. b) (map (floor_passes test) l.floors) ≡ all
      → flat_map (λ vs. vs) (map floor_vars l.floors) ≡ under → all ≡ list_all test under → SameForm (roll-Quasi l)
  form_same l all under passing listed same =
      each_var-roll test l ∙ (ap₂ (λ (a b : Bool). a && b) (sym (list_all-map test (λ (t : ℕ × ℤ). t.0) l.terms)) (passing ∙ same)
      ∙ (sym (list_all-append test (map (λ t. t.0) l.terms) under) ∙ ap (list_all test)
      (sym (vars_in-roll l ∙ ap (λ (vs : List ℕ). map (λ t. t.0) l.terms ++ vs) listed))))

  form_case : (y : Quasi-F ((f : Floor) × SameFloor f) ((q : Quasi) × SameForm q))
      → SameForm (roll-Quasi (record { constant = y.constant; terms = y.terms; floors = map (λ e. e.0) y.floors }))
  form_case y = form_same _ _ _ refl refl (same_floors y.floors)

  floor_case : (y : Floor-F ((f : Floor) × SameFloor f) ((q : Quasi) × SameForm q))
      → SameFloor (roll-Floor (record { times = y.times; inner = y.inner.0; by = y.by }))
  floor_case y = floor_passes-roll test _ ∙ (y.inner.1 ∙ sym (ap (list_all test) (floor_vars-roll _)))

  -- each variable passes where each of the list does
  pub vars_test : (q : Quasi) → each_var test q ≡ list_all test (vars_in q)
  vars_test =
      ind-Quasi SameFloor SameForm (λ x y is. subst (λ z. SameFloor (roll-Floor z)) is (floor_case y))
      (λ x y is. subst (λ z. SameForm (roll-Quasi z)) is (form_case y))

-- what passes a test passes a weaker one
pub weaker : {X : Type 0} (p q : X → Bool) → ((x : X) → p x ≡ true → q x ≡ true) → (xs : List X) → list_all p xs ≡ true → list_all q xs ≡ true
weaker p q f [] h = refl
weaker p q f (x ∷ xs) h = (let parts = both (p x) (list_all p xs) h in and_true (q x) (list_all q xs) (f x parts.0) (weaker p q f xs parts.1))

pub each_var_weaker : (p q : ℕ → Bool) → ((v : ℕ) → p v ≡ true → q v ≡ true) → (f : Quasi) → each_var p f ≡ true → each_var q f ≡ true
each_var_weaker p q more f h = vars_test q f ∙ weaker p q more (vars_in f) (sym (vars_test p f) ∙ h)

pub only_in_scope : (scope : List ℕ) (q : Quasi) → list_all (is_among scope) (vars_in q) ≡ true → mentions_only scope q ≡ true
only_in_scope scope q h = vars_test (is_among scope) q ∙ h
