-- The test of a form's limits says what the limits are.
use Rattle.std.proofs.Common.{◌≡◌, ℕ, ◌≤◌, Bool, true, false, ◌&&◌, List, [], ◌∷◌, map, refl, sym, ap, ◌∙◌, subst, All, T}
use Rattle.std.specs.Prelude.{flat_map, nat_le}
use Rattle.std.specs.List.{list_all}
use Rattle.std.specs.Int.Signed.{le_z_yes}
use Rattle.std.proofs.lemmas.Float.{T_from_true}
use Rattle.std.proofs.lemmas.Bool.{le-leb}
use Rattle.std.proofs.Math.Facts.{leb_yes}
use Rattle.std.proofs.lemmas.List.Folds.{list_all-append}
use Rattle.std.proofs.lemmas.List.Elements.{All-nil, All-cons, All-head, All-tail}
use Rattle.affine_rows.specs.declared.quasi.Quasi.{Quasi, Quasi-F, roll-Quasi, out-Quasi, out-roll-Quasi, ind-Quasi}
use Rattle.affine_rows.specs.declared.quasi.Floor.{Floor, Floor-F, roll-Floor, out-Floor, out-roll-Floor}
use Rattle.affine_rows.specs.Forms.{IsSmall, IsQuotient, IsForm, IsFloor}
use Rattle.affine_rows.proofs.FormEquations.{IsForm-small, IsForm-floors, IsFloor-inner, IsFloor-quotient}
use Rattle.quasi_forms.specs.Limits.{IsWithin, floors_in, floors_within}
use Rattle.quasi_forms.proofs.FormLimits.{floors_in-out, floors_within-out, form_made, floor_made}
use Rattle.quasi_forms.specs.Within.{is_small, is_fine, is_within}

true_from_T : (b : Bool) → T b → b ≡ true
true_from_T true h = refl
true_from_T false h = elim h [ ]

and_left : (a b : Bool) → (a && b) ≡ true → a ≡ true
and_left true b h = refl
and_left false b h = h

and_right : (a b : Bool) → (a && b) ≡ true → b ≡ true
and_right true b h = h
and_right false b h = cc

and_both : (a b : Bool) → a ≡ true → b ≡ true → (a && b) ≡ true
and_both true b h k = k
and_both false b h k = h

le_of : (a b : ℕ) → nat_le a b ≡ true → a ≤ b
le_of a b h = leb_yes (T_from_true (nat_le a b) h)

small_of : (q : Quasi) → is_small q ≡ true → IsSmall q
unfolding is_small
small_of q h =
    let rest = and_right _ _ h in
    record { sum = le_of _ _ (and_left _ _ h); constant = le_of _ _ (and_left _ _ rest); factors = le_of _ _ (and_right _ _ rest) }

of_small : (q : Quasi) → IsSmall q → is_small q ≡ true
unfolding is_small
of_small q s = and_both _ _ (le-leb _ _ s.sum) (and_both _ _ (le-leb _ _ s.constant) (le-leb _ _ s.factors))

quotient_of : (f : Floor) → is_fine f ≡ true → IsQuotient (out-Floor f).times (out-Floor f).by
unfolding is_fine
quotient_of f h = record { positive = le_z_yes (T_from_true _ (and_left _ _ h)); entry = le_of _ _ (and_left _ _ (and_right _ _ h)) }

inner_of : (f : Floor) → is_fine f ≡ true → is_small (out-Floor f).inner ≡ true
unfolding is_fine
inner_of f h = and_right _ _ (and_right _ _ h)

of_quotient : (f : Floor) → IsQuotient (out-Floor f).times (out-Floor f).by → is_small (out-Floor f).inner ≡ true → is_fine f ≡ true
unfolding is_fine
of_quotient f q s = and_both _ _ (true_from_T _ q.positive.le) (and_both _ _ (le-leb _ _ q.entry) s)

-- what the test says of all floors of a form, and of a floor
abbrev OfForm : Quasi → Type 0
OfForm q = (is_small q ≡ true → list_all is_fine (floors_in q) ≡ true → IsForm q) × (IsForm q → list_all is_fine (floors_in q) ≡ true)

abbrev OfFloor : Floor → Type 0
OfFloor f = (list_all is_fine (floors_within f) ≡ true → IsFloor f) × (IsFloor f → list_all is_fine (floors_within f) ≡ true)

within_is : (f : Floor) → list_all is_fine (floors_within f) ≡ (list_all is_fine (floors_in (out-Floor f).inner) && (is_fine f && true))
within_is f = ap (λ (fs : List Floor). list_all is_fine fs) (floors_within-out f) ∙ list_all-append is_fine (floors_in (out-Floor f).inner) (f ∷ [])

floor_right : (f : Floor) → OfForm (out-Floor f).inner → OfFloor f
floor_right f inner = (
  (λ h.
      let both = sym (within_is f) ∙ h in
      let fine = and_left _ _ (and_right _ _ both) in
      floor_made f (inner.0 (inner_of f fine) (and_left _ _ both)) (quotient_of f fine)),
  (λ h.
      let form = IsFloor-inner f h in
      let small = of_small (out-Floor f).inner (IsForm-small (out-Floor f).inner form) in
      within_is f ∙ and_both _ _ (inner.1 form) (and_both _ _ (of_quotient f (IsFloor-quotient f h) small) refl)),
)

all_of : (fs : List ((f : Floor) × OfFloor f)) → list_all is_fine (flat_map floors_within (map (λ e. e.0) fs)) ≡ true → All IsFloor (map (λ e. e.0) fs)
all_of [] h = All-nil IsFloor
all_of (f ∷ fs) h =
    let both = sym (list_all-append is_fine (floors_within f.0) (flat_map floors_within (map (λ e. e.0) fs))) ∙ h in
    All-cons IsFloor f.0 (map (λ e. e.0) fs) (f.1.0 (and_left _ _ both)) (all_of fs (and_right _ _ both))

of_all : (fs : List ((f : Floor) × OfFloor f)) → All IsFloor (map (λ e. e.0) fs) → list_all is_fine (flat_map floors_within (map (λ e. e.0) fs)) ≡ true
of_all [] h = refl
of_all (f ∷ fs) h =
    list_all-append is_fine (floors_within f.0) (flat_map floors_within (map (λ e. e.0) fs))
    ∙ and_both _ _ (f.1.1 (All-head IsFloor f.0 (map (λ e. e.0) fs) h)) (of_all fs (All-tail IsFloor f.0 (map (λ e. e.0) fs) h))

form_right : (q : Quasi) (fs : List ((f : Floor) × OfFloor f)) → (out-Quasi q).floors ≡ map (λ e. e.0) fs → OfForm q
form_right q fs same =
    let list : floors_in q ≡ flat_map floors_within (map (λ e. e.0) fs) = floors_in-out q ∙ ap (λ (gs : List Floor). flat_map floors_within gs) same in
    let test : list_all is_fine (floors_in q) ≡ list_all is_fine (flat_map floors_within (map (λ e. e.0) fs)) = ap (λ (gs : List Floor). list_all is_fine gs) list in (
      (λ small h. form_made q (subst (λ gs. All IsFloor gs) (sym same) (all_of fs (sym test ∙ h))) (small_of q small)),
      (λ h. test ∙ of_all fs (subst (λ gs. All IsFloor gs) same (IsForm-floors q h))),
    )

floor_case : (y : Floor-F ((f : Floor) × OfFloor f) ((q : Quasi) × OfForm q)) → OfFloor (roll-Floor (record { times = y.times; inner = y.inner.0; by = y.by }))
floor_case y =
    floor_right _ (subst (λ q. OfForm q) (sym (ap (λ (l : Floor-F Floor Quasi). l.inner) (out-roll-Floor (record { times = y.times; inner = y.inner.0; by = y.by })))) y.inner.1)

form_case : (y : Quasi-F ((f : Floor) × OfFloor f) ((q : Quasi) × OfForm q)) → OfForm (roll-Quasi (record { constant = y.constant; terms = y.terms; floors = map (λ e. e.0) y.floors }))
form_case y =
    form_right _ y.floors (ap (λ (l : Quasi-F Floor Quasi). l.floors) (out-roll-Quasi (record { constant = y.constant; terms = y.terms; floors = map (λ e. e.0) y.floors })))

of_form : (q : Quasi) → OfForm q
of_form = ind-Quasi OfFloor OfForm (λ x y is. subst (λ z. OfFloor (roll-Floor z)) is (floor_case y)) (λ x y is. subst (λ z. OfForm (roll-Quasi z)) is (form_case y))

-- a form within the limits passes the test
pub passes : (q : Quasi) → IsWithin q → is_within q ≡ true
unfolding is_within
passes q h =
    let small = of_small q (IsForm-small q h.form) in
    and_both _ _ (and_both _ _ small ((of_form q).1 h.form)) (le-leb _ _ h.floors)

-- and no other one
within_of : (q : Quasi) → is_within q ≡ true → IsWithin q
unfolding is_within
within_of q h =
    let all = and_left _ _ h in
    record { form = (of_form q).0 (and_left _ _ all) (and_right _ _ all); floors = le_of _ _ (and_right _ _ h) }

decided : (b : Bool) → (b ≡ true → ⊥) → b ≡ false
decided true h = absurd (h refl)
decided false h = refl

pub fails : (q : Quasi) → (IsWithin q → ⊥) → is_within q ≡ false
fails q h = decided (is_within q) (λ k. h (within_of q k))
