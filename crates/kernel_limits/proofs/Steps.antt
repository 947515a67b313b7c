-- Limits that are asked one after the other.
use Rattle.std.proofs.Common.{◌≡◌, ℕ, ◌+◌, ◌^◌, ◌<◌, ◌≤◌, ◌||◌, Bool, true, false, nat_le, List, [], ◌∷◌, length, take, drop, get_or, arith, refl, sym, ap, ap₂, ◌∙◌, subst, sum, map, Option, Some, None, Result, Ok, Err, All, OnOk, codes, add-one}
use Rattle.std.specs.List.{list_all}
use Rattle.std.specs.Result.{IsErrAnd}
use Rattle.std.proofs.Math.Seq.{drop-cons}
use Rattle.std.proofs.lemmas.Bool.Decides.{nat_tests}
use Rattle.std.proofs.lemmas.List.Elements.{All-nil, All-cons, All-head, All-tail, All-more}
use Rattle.std.proofs.lemmas.List.Sums.{sum_by-cons}
use Rattle.kernel_ir.specs.declared.fault.Fault.{Fault}
use Rattle.kernel_ir.specs.declared.fault.Fault.TheVariants.{OutOfMemory, Rule}
use Rattle.kernel_ir.specs.declared.fault.Refusal.{Refusal}
use Rattle.kernel_ir.specs.declared.kernel.Array as array
use Rattle.kernel_ir.specs.declared.kernel.Temp as temp
use Rattle.kernel_ir.specs.declared.kernel.Insn.{Insn}
use Rattle.kernel_ir.specs.declared.kernel.Kernel.{Kernel}
use Rattle.kernel_ir.specs.Limits.{accesses_of, all_inames, floors_of_insn, forms_of, product, IsSmallTemp, size_part, size_forms}
use Rattle.kernel_ir.specs.Refusals.{IsFault, Refuses}
use Rattle.affine_rows.specs.declared.quasi.Quasi.{Quasi}
use Rattle.affine_rows.specs.Forms.{IsForm}
use Rattle.quasi_forms.specs.Fits.{fits_form}
use Rattle.quasi_forms.proofs.Deciding.{fits_is}
use Rattle.quasi_forms.proofs.Likeness.{both}
use Rattle.kernel_limits.specs.Asked.{first_of, first_in, asked, counted, array_refusal, temp_refusal, few_cells, fits_size, weight, counts_refusal, uses_refusal, insn_refusal, insns_refusal, limit_refusal, IsSizedInsn, IsSized}

pub later : {T : Type 0} (a b : Option Refusal) (r : Result T Fault) → a ≡ None → Refuses b r → Refuses (first_of a b) r
later a b r e h = subst (λ (x : Option Refusal). Refuses (first_of x b) r) (sym e) h

both_none : (a b : Option Refusal) → first_of a b ≡ None → (a ≡ None) × (b ≡ None)
both_none None b h = (refl, h)
both_none (Some r) b h = absurd (let no : Some r ≡ None = h in cc)

asked_none : (b : Bool) (line : ℕ) (what : List ℕ) (limit : ℕ) → asked b line what limit ≡ None → b ≡ true
asked_none true line what limit h = refl
asked_none false line what limit h = absurd (cc)

counted_none : (n line : ℕ) (what : List ℕ) (limit : ℕ) → counted n line what limit ≡ None → n ≤ limit
counted_none n line what limit h = let is : nat_le n limit ≡ true = asked_none (nat_le n limit) line what limit h in grind (arith, nat_tests)

-- ---- what holds of each element where none is refused

pub all_from : {X : Type 0} (asks : X → Option Refusal) (P : X → Type 0) → ((x : X) → asks x ≡ None → P x) → (xs : List X) → first_in asks xs ≡ None → All P xs
all_from asks P each [] h = All-nil P
all_from asks P each (x ∷ xs) h =
    let parts = both_none (asks x) (first_in asks xs) h in
    All-cons P x xs (each x parts.0) (all_from asks P each xs parts.1)

few_places : (a : array.Array) → array_refusal a ≡ None → length a.shape ≤ 8
few_places a h = counted_none (length a.shape) 0 (codes "places") 8 (both_none (counted (length a.shape) 0 (codes "places") 8) _ h).0

all_forms : (qs : List Quasi) → list_all fits_form qs ≡ true → All IsForm qs
all_forms [] h = All-nil IsForm
all_forms (q ∷ qs) h =
    let parts = both (fits_form q) (list_all fits_form qs) h in
    All-cons IsForm q qs (fits_is q parts.0) (all_forms qs parts.1)

sized_array : (a : array.Array) → array_refusal a ≡ None → All IsForm (size_forms (size_part a.shape))
sized_array a h = all_forms (size_forms (size_part a.shape)) (asked_none (fits_size a.shape) 0 (codes "form") (2 ^ 62) (both_none (counted (length a.shape) 0 (codes "places") 8) _ h).1)

few_temp_places : (t : temp.Temp) → temp_refusal t ≡ None → length t.shape ≤ 8
few_temp_places t h = counted_none (length t.shape) 0 (codes "places") 8 (both_none (counted (length t.shape) 0 (codes "places") 8) _ h).0

small_cells : (local : Bool) (n : ℕ) → (local || nat_le n 4096) ≡ true → local ≡ false → n ≤ 4096
small_cells true n h shut = absurd (cc)
small_cells false n h shut = grind (arith, nat_tests)

small_temp : (t : temp.Temp) → temp_refusal t ≡ None → IsSmallTemp t
small_temp t h = small_cells t.local (product t.shape) (asked_none (few_cells t) 0 (codes "cells") 4096 (both_none (counted (length t.shape) 0 (codes "places") 8) _ h).1)

abbrev pub HasForms : Kernel → Insn → Type 0
HasForms K A = All IsForm (forms_of K A)

sized_insn : (K : Kernel) (before : ℕ) (A : Insn) → HasForms K A → insn_refusal K before A ≡ None → IsSizedInsn K A
sized_insn K before A forms h =
    let parts = both_none (counts_refusal before A) (uses_refusal K A) h in
    let uses = both_none (counted (length (accesses_of K A)) A.line (codes "accesses") 64) (counted (length (floors_of_insn K A)) A.line (codes "floors") 32) parts.1 in
    record {
      forms = forms;
      inames = counted_none (length (all_inames A)) A.line (codes "inames") 16 (both_none (counted (length (all_inames A)) A.line (codes "inames") 16) _ parts.0).0;
      accesses = counted_none (length (accesses_of K A)) A.line (codes "accesses") 64 uses.0;
      floors = counted_none (length (floors_of_insn K A)) A.line (codes "floors") 32 uses.1;
    }

sized_insns : (K : Kernel) (before : ℕ) (As : List Insn) → All (HasForms K) As → insns_refusal K before As ≡ None → All (IsSizedInsn K) As
sized_insns K before [] forms h = All-nil (IsSizedInsn K)
sized_insns K before (A ∷ As) forms h =
    let parts = both_none (insn_refusal K before A) (insns_refusal K (before + weight A) As) h in
    All-cons (IsSizedInsn K) A As (sized_insn K before A (All-head (HasForms K) A As forms) parts.0) (sized_insns K (before + weight A) As (All-tail (HasForms K) A As forms) parts.1)

few_up_to : (before : ℕ) (A : Insn) → counts_refusal before A ≡ None → before + weight A ≤ 64
few_up_to before A h = counted_none (before + weight A) A.line (codes "instructions") 64 (both_none (counted (length (all_inames A)) A.line (codes "inames") 16) _ h).1

few_insns : (K : Kernel) (before : ℕ) (As : List Insn) → before ≤ 64 → insns_refusal K before As ≡ None → before + sum (map weight As) ≤ 64
few_insns K before [] few h = omega arith
few_insns K before (A ∷ As) few h =
    let parts = both_none (insn_refusal K before A) (insns_refusal K (before + weight A) As) h in
    let own = few_up_to before A (both_none (counts_refusal before A) (uses_refusal K A) parts.0).0 in
    let rest = few_insns K (before + weight A) As own parts.1 in
    let whole = sum_by-cons (λ (n : ℕ). n) (weight A) (map weight As) in
    omega (arith, rest, whole)

pub sized : (K : Kernel) → All (HasForms K) K.insns → limit_refusal K ≡ None → IsSized K
sized K forms h =
    let one = both_none (counted (length K.params) 0 (codes "parameters") 16) _ h in
    let two = both_none (counted (length K.names) 0 (codes "names") 65536) _ one.1 in
    let three = both_none (first_in array_refusal K.arrays) _ two.1 in
    let four = both_none (first_in temp_refusal K.temps) (insns_refusal K 0 K.insns) three.1 in
    let count : 0 + sum (map weight K.insns) ≤ 64 = few_insns K 0 K.insns (omega arith) four.1 in
    record {
      names = counted_none (length K.names) 0 (codes "names") 65536 two.0;
      params = counted_none (length K.params) 0 (codes "parameters") 16 one.0;
      count = omega (arith, count);
      places = all_from array_refusal (λ a. length a.shape ≤ 8) few_places K.arrays three.0;
      temp_places = all_from temp_refusal (λ t. length t.shape ≤ 8) few_temp_places K.temps four.0;
      cells = all_from temp_refusal IsSmallTemp small_temp K.temps four.0;
      sizes = all_from array_refusal (λ a. All IsForm (size_forms (size_part a.shape))) sized_array K.arrays three.0;
      insns = sized_insns K 0 K.insns forms four.1;
    }

-- ---- one more element

drop_at : {X : Type 0} (xs : List X) (i : ℕ) (x : X) → i < length xs → x ≡ get_or xs i x → drop i xs ≡ x ∷ drop (i + 1) xs
drop_at {X} xs i x within is = drop-cons xs i x within ∙ ap₂ (λ (y : X) (n : ℕ). y ∷ drop n xs) (sym is) (sym (add-one i))

pub first_next : {X : Type 0} (asks : X → Option Refusal) (xs : List X) (i : ℕ) (x : X) (all : Option Refusal) → i < length xs → x ≡ get_or xs i x → asks x ≡ None → first_in asks (drop i xs) ≡ all → first_in asks (drop (i + 1) xs) ≡ all
first_next {X} asks xs i x all within is here rest =
    let e : first_in asks (drop i xs) ≡ first_of (asks x) (first_in asks (drop (i + 1) xs)) = ap (first_in asks) (drop_at xs i x within is) in
    sym (e ∙ ap (λ (r : Option Refusal). first_of r (first_in asks (drop (i + 1) xs))) here) ∙ rest

pub all_next : {X : Type 0} (P : X → Type 0) (xs : List X) (i : ℕ) (x : X) → i < length xs → x ≡ get_or xs i x → All P (take i xs) → P x → All P (take (i + 1) xs)
all_next P xs i x within is before here = All-more P xs i x within before (subst P is here)

insns_at : (K : Kernel) (before : ℕ) (As : List Insn) (i : ℕ) (A : Insn) → i < length As → A ≡ get_or As i A → insns_refusal K before (drop i As) ≡ first_of (insn_refusal K before A) (insns_refusal K (before + weight A) (drop (i + 1) As))
insns_at K before As i A within is = ap (insns_refusal K before) (drop_at As i A within is)

pub insns_next : (K : Kernel) (before count : ℕ) (As : List Insn) (i : ℕ) (A : Insn) (all : Option Refusal) → i < length As → A ≡ get_or As i A → insn_refusal K before A ≡ None → count ≡ before + weight A →
    insns_refusal K before (drop i As) ≡ all → insns_refusal K count (drop (i + 1) As) ≡ all
insns_next K before count As i A all within is here more rest =
    ap (λ (n : ℕ). insns_refusal K n (drop (i + 1) As)) more
    ∙ (sym (insns_at K before As i A within is ∙ ap (λ (r : Option Refusal). first_of r (insns_refusal K (before + weight A) (drop (i + 1) As))) here) ∙ rest)

fault_first : (a b : Option Refusal) (f : Fault) → IsFault a f → IsFault (first_of a b) f
fault_first a b OutOfMemory h = tt
fault_first a b (Rule given) h = ap (λ (x : Option Refusal). first_of x b) h

refused_by : {T : Type 0} (b : Option Refusal) (r : Result T Fault) (e : Fault) → IsErrAnd r (λ x. x ≡ e) → IsFault b e → Refuses b r
refused_by b (Ok x) e h fault = absurd h
refused_by b (Err x) e h fault = subst (IsFault b) (sym h) fault

pub insns_refused : {T : Type 0} (K : Kernel) (before : ℕ) (As : List Insn) (i : ℕ) (A : Insn) (all : Option Refusal) (r : Result T Fault) (e : Fault) → i < length As → A ≡ get_or As i A → IsFault (insn_refusal K before A) e →
    insns_refusal K before (drop i As) ≡ all → IsErrAnd r (λ x. x ≡ e) → Refuses all r
insns_refused K before As i A all r e within is here rest gives =
    refused_by all r e gives (subst (λ (x : Option Refusal). IsFault x e) (sym (insns_at K before As i A within is) ∙ rest) (fault_first (insn_refusal K before A) (insns_refusal K (before + weight A) (drop (i + 1) As)) e here))

-- ---- what is answered where nothing is refused

pub sized_if : {T : Type 0} (K : Kernel) (r : Result T Fault) → OnOk r (All (HasForms K) K.insns) → Refuses (limit_refusal K) r → OnOk r (IsSized K)
sized_if K (Ok x) forms h = sized K forms h
sized_if K (Err x) forms h = tt
