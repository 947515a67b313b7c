-- Elements of lists of rows.
use Rattle.std.proofs.Common.{◌≡◌, ◌∙◌, ℕ, ◌<◌, ◌≤◌, ◌+◌, ◌++◌, ◌∷◌, [], List, length, get_or, take, sym, ap, subst, refl, Bool, true, false, cond, ◌&&◌, append_assoc, All, arith}
use Rattle.std.specs.Prelude.{filter, flat_map}
use Rattle.std.specs.List.{list_all, position_or_len}
use Rattle.std.proofs.lemmas.List.{take_more, append-nil}
use Rattle.std.proofs.lemmas.List.Sums.{position_or_len_is}
use Rattle.std.proofs.lemmas.List.Elements.{filter-append}
use Rattle.std.proofs.lemmas.List.Concat.{flat_map-append}
use Rattle.std.proofs.lemmas.List.Folds.{list_all-append}
use Rattle.affine_rows.specs.declared.row.Row.{Row}

pub item_is : (P : Row → Type 0) (rows : List Row) (i : ℕ) (row : Row) → All P rows → i < length rows → row ≡ get_or rows i row → P row
item_is P rows i row all within is = subst P (sym is) (all i row within)

-- no element passes
pub none_found : (p : Row → Bool) (rows : List Row) (i : ℕ) → length rows ≤ i → ((k : ℕ) (d : Row) → k < i → p (get_or rows k d) ≡ false) → length rows ≡ position_or_len p rows
none_found p [] i all none = refl
none_found p (row ∷ rows) i all none =
    sym (position_or_len_is p (row ∷ rows) (length (row ∷ rows)) row (omega arith) (λ k below. none k row (omega arith)) (λ past. absurd (omega arith)))

-- the first that passes
pub first_found : (p : Row → Bool) (rows : List Row) (i : ℕ) (row : Row) → i < length rows → row ≡ get_or rows i row → p row ≡ true → ((k : ℕ) (d : Row) → k < i → p (get_or rows k d) ≡ false) → i ≡ position_or_len p rows
first_found p rows i row within is passes none = sym (position_or_len_is p rows i row (omega arith) (λ k below. none k row below) (λ _. ap p (sym is) ∙ passes))

pub take_item : (rows : List Row) (i : ℕ) (row : Row) → i < length rows → row ≡ get_or rows i row → take (i + 1) rows ≡ take i rows ++ row ∷ []
take_item rows i row within is = take_more rows i row within ∙ ap (λ (x : Row). take i rows ++ x ∷ []) (sym is)

filter_test : (p : Row → Bool) (xs : List Row) (row : Row) (test : Bool) → p row ≡ test → filter p (xs ++ row ∷ []) ≡ filter p xs ++ cond test (row ∷ []) []
filter_test p xs row test e = filter-append p xs (row ∷ []) ∙ ap (λ (b : Bool). filter p xs ++ cond b (row ∷ []) []) e

-- a row that passes adds its part
pub flat_more : (f : Row → List Row) (p : Row → Bool) (rows : List Row) (i : ℕ) (row : Row) → i < length rows → row ≡ get_or rows i row → p row ≡ true → flat_map f (filter p (take (i + 1) rows)) ≡ flat_map f (filter p (take i rows)) ++ f row
flat_more f p rows i row within is passes =
    ap (λ (xs : List Row). flat_map f (filter p xs)) (take_item rows i row within is)
    ∙ (ap (flat_map f) (filter_test p (take i rows) row true passes)
    ∙ (flat_map-append f (filter p (take i rows)) (row ∷ []) ∙ ap (λ (ys : List Row). flat_map f (filter p (take i rows)) ++ ys) (append-nil (f row))))

-- and one that does not adds nothing
pub flat_skip : (f : Row → List Row) (p : Row → Bool) (rows : List Row) (i : ℕ) (row : Row) → i < length rows → row ≡ get_or rows i row → p row ≡ false → flat_map f (filter p (take (i + 1) rows)) ≡ flat_map f (filter p (take i rows))
flat_skip f p rows i row within is fails =
    ap (λ (xs : List Row). flat_map f (filter p xs)) (take_item rows i row within is)
    ∙ ap (flat_map f) (filter_test p (take i rows) row false fails ∙ append-nil (filter p (take i rows)))

-- rows that are added, all of which fit
pub record IsAdded (p : Row → Bool) (old new more : List Row) : Type 0 where
  pub rows : new ≡ old ++ more
  pub fits : list_all p more ≡ true

both : (a b : Bool) → a ≡ true → b ≡ true → (a && b) ≡ true
both true b e f = f
both false b e f = absurd (let no : false ≡ true = e in cc)

pub list_all-both : (p : Row → Bool) (xs ys : List Row) → list_all p xs ≡ true → list_all p ys ≡ true → list_all p (xs ++ ys) ≡ true
list_all-both p xs ys h k = list_all-append p xs ys ∙ both (list_all p xs) (list_all p ys) h k

pub added_more : (p : Row → Bool) (old now new xs ys all : List Row) → now ≡ old ++ xs → list_all p xs ≡ true → new ≡ now ++ ys → list_all p ys ≡ true → all ≡ xs ++ ys → IsAdded p old new all
added_more p old now new xs ys all hn hx hm hy ha = record {
  rows = hm ∙ (ap (λ (zs : List Row). zs ++ ys) hn ∙ (append_assoc old xs ys ∙ ap (λ (zs : List Row). old ++ zs) (sym ha)));
  fits = ap (list_all p) ha ∙ list_all-both p xs ys hx hy;
}
