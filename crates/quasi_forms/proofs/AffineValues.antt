-- What index expressions mean.
use Rattle.std.proofs.Common.{◌≡◌, ℕ, suc, ◌+◌, ◌*◌, ◌<◌, ◌≤◌, ℤ, pos, negsuc, neg_ℤ, ◌+ℤ◌, ◌-ℤ◌, ◌*ℤ◌, Bool, true, false, cond, ◌&&◌, nat_lt, nat_le, [], ◌∷◌, arith, refl, sym, ap, ap₂, ◌∙◌, subst, unsigned_abs}
use Rattle.std.specs.Prelude.{Option, Some, None, MatchOption}
use Rattle.std.proofs.Math.Nat.{mul-le-mul_left, add-mul-mod_self_right}
use Rattle.std.proofs.lemmas.Int.{ints}
use Rattle.std.proofs.lemmas.Bool.Decides.{nat_tests}
use Rattle.wrap_words.specs.declared.kind.Kind.{Kind}
use Rattle.wrap_words.specs.declared.kind.Kind.TheVariants.{I32, I64, U32, U64}
use Rattle.wrap_words.specs.declared.kind.Word.{Word}
use Rattle.wrap_words.specs.Words.{residue, modulus_of, word_of, number_of}
use Rattle.wrap_words.proofs.Ring.{atom, plus, minus, times, same, distrib_right}
use Rattle.wrap_words.proofs.Products.{residue_is, modulus_of-pos}
use Rattle.wrap_words.proofs.Fitting.{words_are_residues}
use Rattle.affine_rows.specs.declared.quasi.Quasi.{Quasi, out-roll-Quasi}
use Rattle.affine_rows.specs.Rows.{Env}
use Rattle.affine_rows.specs.Forms.{form_at}
use Rattle.affine_rows.proofs.FormEquations.{form_at-out}
use Rattle.expr_tree.specs.declared.tree.Op.{Op}
use Rattle.expr_tree.specs.declared.tree.Op.TheVariants.{Add, Mul, Min, Max, Sub, And, Or, Xor}
use Rattle.expr_tree.specs.declared.tree.Node.{Node, roll-Node, map-Node, fold-Node, fold-roll-Node}
use Rattle.expr_tree.specs.declared.tree.Node.TheOpen.{Node-F, Expr-F}
use Rattle.expr_tree.specs.declared.tree.Test.{Test, fold-Test}
use Rattle.expr_tree.specs.declared.tree.Expr.{Expr, roll-Expr, map-Expr, ind-Expr, fold-roll-Expr}
use Rattle.expr_tree.specs.Value.{Sense}
use Rattle.expr_tree.specs.Scenes.{Scene}
use Rattle.expr_tree.specs.Meaning.{World, node_meaning, meaning_of, meaning_of_node, meaning_of_test}
use Rattle.expr_tree.proofs.Layers.{meaning_node, meaning_expr}
use Rattle.quasi_forms.specs.Collected.{constant_form, sum_form}
use Rattle.quasi_forms.specs.Affine.{Part, is_constant, number_of_form, number_part, sum_of_parts, multiple_part, product_of_parts, operation_part, affine_node, affine_test, affine_expr, affine_part, IsMadeOf, Means}
use Rattle.quasi_forms.proofs.FormValues.{sum-at}
use Rattle.quasi_forms.proofs.Likeness.{both}
use Rattle.quasi_forms.proofs.FloorWidths.{kept_value}

-- ---- words of sums and products

residue-more : (n : ℕ) (z y : ℤ) (a : ℕ) → 0 < n → z ≡ y +ℤ pos (a * n) → residue z n ≡ residue y n
residue-more n z y a positive e =
    let k : ℕ = unsigned_abs y in
    let m : ℕ = unsigned_abs (y +ℤ pos (k * n)) in
    let enough : k * 1 ≤ k * n = mul-le-mul_left k (omega (arith, positive)) in
    let made : y +ℤ pos (k * n) ≡ pos m = omega (arith, ints, enough) in
    residue_is z n k (m + a * n) positive (omega (arith, ints, e, made)) ∙ (add-mul-mod_self_right m a n ∙ sym (residue_is y n k m positive made))

residue-same : (n : ℕ) (z y q : ℤ) → 0 < n → z ≡ y +ℤ (q *ℤ pos n) → residue z n ≡ residue y n
residue-same n z y (pos a) positive e = residue-more n z y a positive (omega (arith, ints, e))
residue-same n z y (negsuc a) positive e = sym (residue-more n y z (suc a) positive (omega (arith, ints, e)))

word-same : (k : Kind) (z y q : ℤ) → z ≡ y +ℤ (q *ℤ pos (modulus_of k)) → word_of k z ≡ word_of k y
word-same k z y q e = ap (λ (n : ℕ). record { bits = n }) (residue-same (modulus_of k) z y q (modulus_of-pos k) e)

less_right : (p q n : ℤ) → (p -ℤ q) *ℤ n ≡ p *ℤ n -ℤ q *ℤ n
less_right p q n = same (times (minus (atom p) (atom q)) (atom n)) (minus (times (atom p) (atom n)) (times (atom q) (atom n))) (omega arith)

spread : (x y p q n : ℤ) → (x +ℤ p *ℤ n) *ℤ (y +ℤ q *ℤ n) ≡ x *ℤ y +ℤ (x *ℤ q +ℤ (p *ℤ y +ℤ p *ℤ q *ℤ n)) *ℤ n
spread x y p q n =
    same (times (plus (atom x) (times (atom p) (atom n))) (plus (atom y) (times (atom q) (atom n))))
    (plus (times (atom x) (atom y)) (times (plus (times (atom x) (atom q)) (plus (times (atom p) (atom y)) (times (times (atom p) (atom q)) (atom n)))) (atom n))) (omega arith)

add_words : (k : Kind) (x y : ℤ) → word_of k (number_of k (word_of k x) +ℤ number_of k (word_of k y)) ≡ word_of k (x +ℤ y)
add_words k x y =
    let a = (words_are_residues k).congruent x in
    let b = (words_are_residues k).congruent y in
    word-same k (number_of k (word_of k x) +ℤ number_of k (word_of k y)) (x +ℤ y) (a.0 +ℤ b.0) (let e = a.1 in let f = b.1 in omega (arith, ints, e, f, distrib_right a.0 b.0 (pos (modulus_of k))))

less_words : (k : Kind) (x y : ℤ) → word_of k (number_of k (word_of k x) -ℤ number_of k (word_of k y)) ≡ word_of k (x -ℤ y)
less_words k x y =
    let a = (words_are_residues k).congruent x in
    let b = (words_are_residues k).congruent y in
    word-same k (number_of k (word_of k x) -ℤ number_of k (word_of k y)) (x -ℤ y) (a.0 -ℤ b.0) (let e = a.1 in let f = b.1 in omega (arith, ints, e, f, less_right a.0 b.0 (pos (modulus_of k))))

negative_word : (k : Kind) (y : ℤ) → word_of k (pos 0 -ℤ number_of k (word_of k y)) ≡ word_of k (pos 0 -ℤ y)
negative_word k y =
    let b = (words_are_residues k).congruent y in
    word-same k (pos 0 -ℤ number_of k (word_of k y)) (pos 0 -ℤ y) (pos 0 -ℤ b.0) (let f = b.1 in omega (arith, ints, f, less_right (pos 0) b.0 (pos (modulus_of k))))

mul_words : (k : Kind) (x y : ℤ) → word_of k (number_of k (word_of k x) *ℤ number_of k (word_of k y)) ≡ word_of k (x *ℤ y)
mul_words k x y =
    let a = (words_are_residues k).congruent x in
    let b = (words_are_residues k).congruent y in
    let n : ℤ = pos (modulus_of k) in
    word-same k (number_of k (word_of k x) *ℤ number_of k (word_of k y)) (x *ℤ y) (x *ℤ b.0 +ℤ (a.0 *ℤ y +ℤ a.0 *ℤ b.0 *ℤ n)) (ap₂ (λ (u v : ℤ). u *ℤ v) a.1 b.1 ∙ spread x y a.0 b.0 n)

-- ---- parts that mean what they say

abbrev pub Valued : (World → Scene → Sense) → Quasi → Type 0
Valued m f = (w : World) (at : Scene) (k : Kind) → ((m w at).has k ≡ true) × ((m w at).at k ≡ word_of k (form_at at.env f))

pub record Fine (m : World → Scene → Sense) (p : Part) : Type 0 where
  pub value : Valued m p.form
  pub number : p.constant ≡ true → (env : Env) → form_at env p.form ≡ number_of_form p.form

abbrev pub AllFine : (World → Scene → Sense) → Option Part → Type 0
AllFine m o = MatchOption o (Unit {0}) (Fine m)

fine_same : (m n : World → Scene → Sense) → ((w : World) → n w ≡ m w) → (o : Option Part) → AllFine m o → AllFine n o
fine_same m n is None h = tt
fine_same m n is (Some p) h = record {
  value = λ w at k. subst (λ (s : Scene → Sense). ((s at).has k ≡ true) × ((s at).at k ≡ word_of k (form_at at.env p.form))) (sym (is w)) (h.value w at k);
  number = h.number;
}

constant-at : (env : Env) (c : ℤ) → form_at env (constant_form c) ≡ c
constant-at env c = (let whole : form_at env (constant_form c) ≡ c +ℤ (pos 0 +ℤ pos 0) = simp out-roll-Quasi at (form_at-out env (constant_form c)) in whole) ∙ omega (arith, ints)

and_true : (a b : Bool) → a ≡ true → b ≡ true → (a && b) ≡ true
and_true a b h k = ap₂ (λ (x y : Bool). x && y) h k

-- a number of both
sum_number : (a b : Part) (t : ℤ) → (a.constant ≡ true → (env : Env) → form_at env a.form ≡ number_of_form a.form) → (b.constant ≡ true → (env : Env) → form_at env b.form ≡ number_of_form b.form) →
    (a.constant && b.constant) ≡ true → (env : Env) → form_at env (sum_form a.form t b.form) ≡ number_of_form (sum_form a.form t b.form)
sum_number a b t h k both_constant env =
    let parts = both a.constant b.constant both_constant in
    sum-at env a.form t b.form ∙ (ap₂ (λ (x y : ℤ). x +ℤ t *ℤ y) (h parts.0 env) (k parts.1 env) ∙ sym (sum-at (λ v. pos 0) a.form t b.form))

add_fine : (m n : World → Scene → Sense) (a b : Option Part) → AllFine m a → AllFine n b → AllFine (λ w. node_meaning w (Node-F.Bin Add (m w) (n w))) (sum_of_parts a (pos 1) b)
add_fine m n None b h k = tt
add_fine m n (Some a) None h k = tt
add_fine m n (Some a) (Some b) h k = record {
  value = λ w at kind.
      let x = h.value w at kind in
      let y = k.value w at kind in
      let whole : form_at at.env a.form +ℤ form_at at.env b.form ≡ form_at at.env (sum_form a.form (pos 1) b.form) = omega (arith, ints, sum-at at.env a.form (pos 1) b.form) in (
        and_true ((m w at).has kind) ((n w at).has kind) x.0 y.0,
        ap₂ (λ (u v : Word). word_of kind (number_of kind u +ℤ number_of kind v)) x.1 y.1 ∙ (add_words kind (form_at at.env a.form) (form_at at.env b.form) ∙ ap (word_of kind) whole),
      );
  number = sum_number a b (pos 1) h.number k.number;
}

sub_fine : (m n : World → Scene → Sense) (a b : Option Part) → AllFine m a → AllFine n b → AllFine (λ w. node_meaning w (Node-F.Bin Sub (m w) (n w))) (sum_of_parts a (neg_ℤ (pos 1)) b)
sub_fine m n None b h k = tt
sub_fine m n (Some a) None h k = tt
sub_fine m n (Some a) (Some b) h k = record {
  value = λ w at kind.
      let x = h.value w at kind in
      let y = k.value w at kind in
      let whole : form_at at.env a.form -ℤ form_at at.env b.form ≡ form_at at.env (sum_form a.form (neg_ℤ (pos 1)) b.form) = omega (arith, ints, sum-at at.env a.form (neg_ℤ (pos 1)) b.form) in (
        and_true ((m w at).has kind) ((n w at).has kind) x.0 y.0,
        ap₂ (λ (u v : Word). word_of kind (number_of kind u -ℤ number_of kind v)) x.1 y.1 ∙ (less_words kind (form_at at.env a.form) (form_at at.env b.form) ∙ ap (word_of kind) whole),
      );
  number = sum_number a b (neg_ℤ (pos 1)) h.number k.number;
}

neg_fine : (m : World → Scene → Sense) (a : Option Part) → AllFine m a → AllFine (λ w. node_meaning w (Node-F.Neg (m w))) (sum_of_parts (Some (number_part (pos 0))) (neg_ℤ (pos 1)) a)
neg_fine m None h = tt
neg_fine m (Some a) h = record {
  value = λ w at kind.
      let x = h.value w at kind in
      let whole : pos 0 -ℤ form_at at.env a.form ≡ form_at at.env (sum_form (constant_form (pos 0)) (neg_ℤ (pos 1)) a.form) = omega (arith, ints, sum-at at.env (constant_form (pos 0)) (neg_ℤ (pos 1)) a.form, constant-at at.env (pos 0)) in
      (x.0, ap (λ (u : Word). word_of kind (pos 0 -ℤ number_of kind u)) x.1 ∙ (negative_word kind (form_at at.env a.form) ∙ ap (word_of kind) whole));
  number = sum_number (number_part (pos 0)) a (neg_ℤ (pos 1)) (λ _ env. constant-at env (pos 0) ∙ sym (constant-at (λ v. pos 0) (pos 0))) h.number;
}

-- the multiple by a number
multiple-at : (env : Env) (number a : Part) → ((env : Env) → form_at env number.form ≡ number_of_form number.form) → form_at env (multiple_part number a).form ≡ form_at env number.form *ℤ form_at env a.form
multiple-at env number a h =
    let by = ap (λ (z : ℤ). z *ℤ form_at env a.form) (h env) in
    omega (arith, ints, sum-at env (constant_form (pos 0)) (number_of_form number.form) a.form, constant-at env (pos 0), by)

multiple_number : (number a : Part) → ((env : Env) → form_at env number.form ≡ number_of_form number.form) → (a.constant ≡ true → (env : Env) → form_at env a.form ≡ number_of_form a.form) →
    (number.constant && a.constant) ≡ true → (env : Env) → form_at env (multiple_part number a).form ≡ number_of_form (multiple_part number a).form
multiple_number number a h k both_constant env =
    let parts = both number.constant a.constant both_constant in
    multiple-at env number a h ∙ (ap₂ (λ (x y : ℤ). x *ℤ y) (h env) (k parts.1 env) ∙ sym (multiple-at (λ v. pos 0) number a h))

swap : (a b : ℤ) → a *ℤ b ≡ b *ℤ a
swap a b = same (times (atom a) (atom b)) (times (atom b) (atom a)) (omega arith)

mul_fine : (m n : World → Scene → Sense) (a b : Option Part) → AllFine m a → AllFine n b → AllFine (λ w. node_meaning w (Node-F.Bin Mul (m w) (n w))) (product_of_parts a b)
mul_fine m n None b h k = tt
mul_fine m n (Some a) None h k = tt
mul_fine m n (Some a) (Some b) h k =
    let product : (w : World) (at : Scene) (kind : Kind) (f : Quasi) → form_at at.env f ≡ form_at at.env a.form *ℤ form_at at.env b.form → (((m w at).has kind && (n w at).has kind) ≡ true) × (word_of kind (number_of kind ((m w at).at kind) *ℤ number_of kind ((n w at).at kind)) ≡ word_of kind (form_at at.env f)) =
    λ w at kind f is.
    let x = h.value w at kind in
    let y = k.value w at kind in (
      and_true ((m w at).has kind) ((n w at).has kind) x.0 y.0,
      ap₂ (λ (u v : Word). word_of kind (number_of kind u *ℤ number_of kind v)) x.1 y.1 ∙ (mul_words kind (form_at at.env a.form) (form_at at.env b.form) ∙ ap (word_of kind) (sym is)),
    ) in
    (elim a.constant as (λ c. a.constant ≡ c → AllFine (λ w. node_meaning w (Node-F.Bin Mul (m w) (n w))) (cond c (Some (multiple_part a b)) (cond b.constant (Some (multiple_part b a)) None))) [
      | true ↦ (λ e. record { value = λ w at kind. product w at kind (multiple_part a b).form (multiple-at at.env a b (h.number e)); number = multiple_number a b (h.number e) k.number })
      | false ↦ (λ _. (elim b.constant as (λ c. b.constant ≡ c → AllFine (λ w. node_meaning w (Node-F.Bin Mul (m w) (n w))) (cond c (Some (multiple_part b a)) None)) [
        | true ↦ (λ e. record { value = λ w at kind. product w at kind (multiple_part b a).form (multiple-at at.env b a (k.number e) ∙ swap (form_at at.env b.form) (form_at at.env a.form)); number = multiple_number b a (k.number e) h.number })
        | false ↦ (λ _. tt)
      ]) refl)
    ]) refl

bin_fine : (op : Op) (m n : World → Scene → Sense) (a b : Option Part) → AllFine m a → AllFine n b → AllFine (λ w. node_meaning w (Node-F.Bin op (m w) (n w))) (operation_part op a b)
bin_fine Add m n a b h k = add_fine m n a b h k
bin_fine Sub m n a b h k = sub_fine m n a b h k
bin_fine Mul m n a b h k = mul_fine m n a b h k
bin_fine Min m n a b h k = tt
bin_fine Max m n a b h k = tt
bin_fine And m n a b h k = tt
bin_fine Or m n a b h k = tt
bin_fine Xor m n a b h k = tt

fits_kind : (k : Kind) (n : ℕ) → n ≤ 1048576 → nat_lt n (modulus_of k) ≡ true
fits_kind I32 n h = grind (arith, nat_tests, h)
fits_kind I64 n h = grind (arith, nat_tests, h)
fits_kind U32 n h = grind (arith, nat_tests, h)
fits_kind U64 n h = grind (arith, nat_tests, h)

literal_fine : (n : ℕ) → AllFine (λ w. node_meaning w (Node-F.Literal n)) (cond (nat_le n 1048576) (Some (number_part (pos n))) None)
literal_fine n =
    (elim (nat_le n 1048576) as (λ c. nat_le n 1048576 ≡ c → AllFine (λ w. node_meaning w (Node-F.Literal n)) (cond c (Some (number_part (pos n))) None)) [
      | true ↦ (λ e. record {
        value = λ w at k. (fits_kind k n (grind (arith, nat_tests, e)), ap (word_of k) (sym (constant-at at.env (pos n))));
        number = λ _ env. constant-at env (pos n) ∙ sym (constant-at (λ v. pos 0) (pos n));
      })
      | false ↦ (λ _. tt)
    ]) refl

leaf_fine : (f : Quasi) → AllFine (λ w. node_meaning w (Node-F.Leaf f)) (Some (record { form = f; constant = is_constant f; steps = f ∷ [] }))
leaf_fine f = record {
  value = λ w at k. (refl, refl);
  number = λ h env. kept_value (λ v. false) (λ v. pos 0) env (λ v e. absurd (let no : false ≡ true = e in cc)) f h;
}

-- ---- trees

abbrev part_of_node : Node → Option Part
part_of_node = fold-Node (Option Part) (Unit {0}) (Option Part) affine_node affine_test affine_expr

abbrev part_of_test : Test → Unit {0}
part_of_test = fold-Test (Option Part) (Unit {0}) (Option Part) affine_node affine_test affine_expr

abbrev OfNode : Node → Type 0
OfNode n = AllFine (λ w. meaning_of_node w n) (part_of_node n)

abbrev OfTest : Test → Type 0
OfTest t = Unit {0}

abbrev OfExpr : Expr → Type 0
OfExpr e = AllFine (λ w. meaning_of w e) (affine_part e)

node_at : (n : Node-F Node Test Expr) → AllFine (λ w. node_meaning w (map-Node _ _ _ _ _ _ (meaning_of_node w) (meaning_of_test w) (meaning_of w) n)) (affine_node (map-Node _ _ _ _ _ _ part_of_node part_of_test affine_part n)) → OfNode (roll-Node n)
node_at n h =
    subst (AllFine (λ w. meaning_of_node w (roll-Node n))) (sym (fold-roll-Node (Option Part) (Unit {0}) (Option Part) affine_node affine_test affine_expr n))
    (fine_same (λ w. node_meaning w (map-Node _ _ _ _ _ _ (meaning_of_node w) (meaning_of_test w) (meaning_of w) n)) (λ w. meaning_of_node w (roll-Node n)) (λ w. meaning_node w n) (affine_node (map-Node _ _ _ _ _ _ part_of_node part_of_test affine_part n)) h)

node_case : (y : Node-F ((n : Node) × OfNode n) ((t : Test) × OfTest t) ((e : Expr) × OfExpr e)) → OfNode (roll-Node (map-Node _ _ _ _ _ _ (λ e. e.0) (λ e. e.0) (λ e. e.0) y))
node_case (Node-F.Literal n) = node_at (Node-F.Literal n) (literal_fine n)
node_case (Node-F.Leaf form) = node_at (Node-F.Leaf form) (leaf_fine form)
node_case (Node-F.Read cell place) = node_at (Node-F.Read cell place) tt
node_case (Node-F.Call rule arguments) = node_at (Node-F.Call rule arguments) tt
node_case (Node-F.Neg a) = node_at (Node-F.Neg a.0) (neg_fine (λ w. meaning_of w a.0) (affine_part a.0) a.1)
node_case (Node-F.Inv a) = node_at (Node-F.Inv a.0) tt
node_case (Node-F.Shl a by) = node_at (Node-F.Shl a.0 by) tt
node_case (Node-F.Shr a by) = node_at (Node-F.Shr a.0 by) tt
node_case (Node-F.Bin op a b) = node_at (Node-F.Bin op a.0 b.0) (bin_fine op (λ w. meaning_of w a.0) (λ w. meaning_of w b.0) (affine_part a.0) (affine_part b.0) a.1 b.1)
node_case (Node-F.Pick t a b) = node_at (Node-F.Pick t.0 a.0 b.0) tt
node_case (Node-F.Cast kind a) = node_at (Node-F.Cast kind a.0) tt
node_case (Node-F.Fold op inames a) = node_at (Node-F.Fold op inames a.0) tt

expr_at : (e : Expr-F Node Test Expr) → OfNode e.node → OfExpr (roll-Expr e)
expr_at e h =
    subst (AllFine (λ w. meaning_of w (roll-Expr e))) (sym (fold-roll-Expr (Option Part) (Unit {0}) (Option Part) affine_node affine_test affine_expr e))
    (fine_same (λ w. meaning_of_node w e.node) (λ w. meaning_of w (roll-Expr e)) (λ w. meaning_expr w e) (part_of_node e.node) h)

all_fine : (e : Expr) → OfExpr e
all_fine = ind-Expr OfNode OfTest OfExpr
    (λ x y is. subst (λ z. OfNode (roll-Node z)) is (node_case y))
    (λ x y is. tt)
    (λ x y is. subst (λ z. OfExpr (roll-Expr z)) is (expr_at (map-Expr _ _ _ _ _ _ (λ e. e.0) (λ e. e.0) (λ e. e.0) y) y.node.1))

-- an index expression means its form's number
pub part_means : (e : Expr) (p : Part) → affine_part e ≡ Some p → Means e p.form
part_means e p is = (subst (AllFine (λ w. meaning_of w e)) is (all_fine e)).value

from_made : (e : Expr) (o : Option Part) (c : Bool) (f : Quasi) → affine_part e ≡ o → IsMadeOf o c f → Means e f
from_made e None c f is h = absurd h
from_made e (Some p) c f is h = subst (λ (q : Quasi). Means e q) (sym h.form) (part_means e p is)

pub made_means : (e : Expr) (c : Bool) (f : Quasi) → IsMadeOf (affine_part e) c f → Means e f
made_means e c f h = from_made e (affine_part e) c f refl h
