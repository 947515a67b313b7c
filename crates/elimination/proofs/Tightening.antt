-- The tightest of the bounds that rows set to a variable.
use Rattle.std.specs.Prelude.{◌≡◌, ◌≢◌, ◌↔◌, ℕ, zero, suc, ◌+◌, ◌^◌, ◌<◌, ◌≤◌, negsuc, neg_ℤ, int_lt, cond, unsigned_abs, IsTrue, ℤ, pos, ◌*ℤ◌, List, [], ◌∷◌, Bool, true, false, Option, Some, length}
use Rattle.std.proofs.Common.{refl, sym, ◌∙◌, subst, arith, get_or, take}
use Rattle.std.proofs.lemmas.Int.{ints, by_lt_z}
use Rattle.wrap_words.proofs.Ring.{cross_trans}
use Rattle.affine_rows.specs.declared.point.Point.{Point}
use Rattle.affine_rows.specs.declared.row.Row.{Row}
use Rattle.affine_rows.specs.Reduced.{factor_of, value_over}
use Rattle.affine_rows.specs.Rows.{env_of}
use Rattle.elimination.specs.Points.{over_of}
use Rattle.elimination.specs.declared.fractions.Fraction.{Fraction}
use Rattle.elimination.specs.declared.bounding.Side.{Side}
use Rattle.elimination.specs.declared.bounding.Side.TheVariants.{Below, Above}
use Rattle.elimination.specs.Shadows.{Each}
use Rattle.elimination.specs.Fractions.{IsAnyBound, IsBound, IsAtMost, IsAsTight, Respects, RespectsAny, RespectsRow, bound_of, bounds_on}
use Rattle.elimination.proofs.Pairing.{Each-append, Each-parts}
use Rattle.elimination.proofs.Steps.{take_item}

pub tight_respects : (side : Side) (f g : Fraction) (k : ℕ) (y : ℤ) → 0 < f.by → IsAsTight side f g → Respects side f k y → Respects side g k y
tight_respects Below f g k y positive tight h = cross_trans g.by f.by k g.number f.number y positive tight h
tight_respects Above f g k y positive tight h = cross_trans k f.by g.by y f.number g.number positive h tight

at_most_either : (f g : Fraction) → (IsAtMost f g → ⊥) → IsAtMost g f
at_most_either f g not_so =
    by_lt_z (pos f.by *ℤ g.number) (pos g.by *ℤ f.number)
    (λ less. omega (arith, ints, less))
    (λ more. absurd (not_so more))

pub tight_either : (side : Side) (f g : Fraction) → (IsAsTight side f g → ⊥) → IsAsTight side g f
tight_either Below f g not_so = at_most_either g f not_so
tight_either Above f g not_so = at_most_either f g not_so

abbrev pub Together : Side → Option Fraction → Fraction → Fraction → Type 0
Together side best other result = (k : ℕ) (y : ℤ) → Respects side result k y ↔ (RespectsAny side best k y × Respects side other k y)

pub first_stays : (side : Side) (any : Option Fraction) (best other : Fraction) → any ≡ Some best → 0 < best.by → IsAsTight side best other → Together side any other best
first_stays side any best other is positive tight =
    subst (λ (o : Option Fraction). Together side o other best) (sym is) (λ k y. ((λ h. (h, tight_respects side best other k y positive tight h)), (λ h. h.0)))

pub other_comes : (side : Side) (any : Option Fraction) (best other : Fraction) → any ≡ Some best → 0 < other.by → (IsAsTight side best other → ⊥) → Together side any other other
other_comes side any best other is positive not_so =
    subst (λ (o : Option Fraction). Together side o other other) (sym is) (λ k y. ((λ h. (tight_respects side other best k y positive (tight_either side best other not_so) h, h)), (λ h. h.1)))

-- ---- one row more

abbrev pub RespectsRows : Side → ℕ → Point → List Row → Option Fraction → Type 0
RespectsRows side var p rows bound = (k : ℕ) (y : ℤ) → RespectsAny side bound k y ↔ Each (RespectsRow side var p k y) rows

each_more : (P : Row → Type 0) (rows : List Row) (i : ℕ) (row : Row) → i < length rows → row ≡ get_or rows i row → Each P (take (i + 1) rows) ↔ (Each P (take i rows) × P row)
each_more P rows i row within is = (
  (λ h. let parts = Each-parts P (take i rows) (row ∷ []) (subst (Each P) (take_item rows i row within is) h) in (parts.0, parts.1.0)),
  (λ h. subst (Each P) (sym (take_item rows i row within is)) (Each-append P (take i rows) (row ∷ []) h.0 (h.1, tt))),
)

-- the row's bound joins the best so far
abbrev pub Joined : Side → ℕ → Point → Option Fraction → Row → Option Fraction → Type 0
Joined side var p best row result = (k : ℕ) (y : ℤ) → RespectsAny side result k y ↔ (RespectsAny side best k y × RespectsRow side var p k y row)

pub row_joins : (side : Side) (var : ℕ) (p : Point) (row : Row) (best : Option Fraction) (other result : Fraction) → bounds_on side row.equal (factor_of var row.terms) ≡ true → other ≡ bound_of var p row → Together side best other result → Joined side var p best row (Some result)
row_joins side var p row best other result passes value together k y = (
  (λ h. let both = (together k y).0 h in (both.0, (λ _. subst (λ (b : Fraction). Respects side b k y) value both.1))),
  (λ h. (together k y).1 (h.0, subst (λ (b : Fraction). Respects side b k y) (sym value) (h.1 passes))),
)

pub row_skipped : (side : Side) (var : ℕ) (p : Point) (row : Row) (best : Option Fraction) → bounds_on side row.equal (factor_of var row.terms) ≡ false → Joined side var p best row best
row_skipped side var p row best fails k y = ((λ h. (h, (λ passes. absurd (let no : false ≡ true = sym fails ∙ passes in cc)))), (λ h. h.0))

pub row_more : (side : Side) (var : ℕ) (p : Point) (rows : List Row) (i : ℕ) (row : Row) (best result : Option Fraction) → i < length rows → row ≡ get_or rows i row → RespectsRows side var p (take i rows) best → Joined side var p best row result → RespectsRows side var p (take (i + 1) rows) result
row_more side var p rows i row best result within is before joined k y =
    let more = each_more (RespectsRow side var p k y) rows i row within is in (
      (λ h. let both = (joined k y).0 h in more.1 ((before k y).0 both.0, both.1)),
      (λ h. let both = more.0 h in (joined k y).1 ((before k y).1 both.0, both.1)),
    )

-- ---- as the code makes them

pub some_bound : (any : Option Fraction) (b : Fraction) → any ≡ Some b → IsAnyBound any → IsBound b
some_bound any b is h = subst IsAnyBound is h

pub not_so : (test : Bool) (A : Type 0) → IsTrue test ↔ A → test ≡ false → A → ⊥
not_so true A same h a = let no : true ≡ false = h in cc
not_so false A same h a = absurd (let no : false ≡ true = same.1 a in cc)

pub bound_made : (var : ℕ) (p : Point) (row : Row) (f r n : ℤ) (b : ℕ) → f ≡ factor_of var row.terms → r ≡ value_over (over_of p) (env_of p.at) row → n ≡ cond (int_lt (pos 0) f) (neg_ℤ r) r → b ≡ unsigned_abs f → record { number = n; by = b } ≡ bound_of var p row
unfolding bound_of
bound_made var p row f r n b hf hr hn hb = cc

positive_abs : (f : ℤ) {b : ℕ} → f ≢ pos 0 → b ≡ unsigned_abs f → 0 < b
positive_abs (pos zero) apart hb = absurd (apart refl)
positive_abs (pos (suc n)) apart hb = omega (arith, hb)
positive_abs (negsuc n) apart hb = omega (arith, hb)

pub has_bound : (f n : ℤ) (b : ℕ) → f ≢ pos 0 → unsigned_abs f ≤ 2 ^ 62 → unsigned_abs n ≤ 2 ^ 126 → b ≡ unsigned_abs f → IsBound (record { number = n; by = b })
has_bound f n b apart entry small hb = record { positive = positive_abs f apart hb; by = omega (arith, hb, entry); number = small }
