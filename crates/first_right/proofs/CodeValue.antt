-- The numbers and words that an item of the code of the one form sees.
use Rattle.std.proofs.Common.{◌≡◌, ◌<◌, ℕ, ◌^◌, ℤ, pos, negsuc, ◌+ℤ◌, ◌*ℤ◌, ◌-ℤ◌, false, [], ◌∷◌, Option, Some, option_and_then, slice_get, ◌∙◌, ap, arith, unsigned_abs}
use Rattle.std.proofs.lemmas.Int.{ints}
use Rattle.wrap_words.specs.declared.kind.Word.{Word}
use Rattle.wrap_words.specs.declared.kind.Kind.TheVariants.{I32}
use Rattle.wrap_words.specs.Words.{word_of}
use Rattle.affine_rows.specs.Rows.{Env}
use Rattle.affine_rows.specs.Forms.{affine}
use Rattle.expr_tree.specs.declared.tree.Cell.TheVariants.{Array}
use Rattle.expr_tree.specs.declared.tree.Op.TheVariants.{Mul}
use Rattle.expr_tree.specs.declared.tree.Node.TheVariants as node
use Rattle.expr_tree.specs.declared.tree.Node.TheOpen.{Node-F}
use Rattle.expr_tree.specs.Value.{apply}
use Rattle.code_meaning.specs.Exact.{exact}
use Rattle.code_meaning.specs.Seen.{Words, ExprSeen, Sights, Touch, known_flat, then_both, plain, seen_in, node_seen, read_at, read_index}
use Rattle.code_meaning.specs.Plan.{setting_of, sights}
use Rattle.code_meaning.proofs.Equations.{exact_affine, exact_bound_form, flat_number_affine, seen_bin, seen_literal, seen_read}
use Rattle.code_meaning.proofs.Numbers.{exact_small}
use Rattle.first_form.specs.declared.form.FirstForm.{FirstForm}
use Rattle.first_form.specs.Kernels.{of_node}
use Rattle.first_form.specs.Codes.{code_of}
use Rattle.first_right.specs.Product.{multiplied}
use Rattle.first_right.proofs.CodePlan.{upper, lower, index, value}

one_times : (c : ℕ) → pos 1 *ℤ pos c ≡ pos c
one_times c = omega (arith, ints)

plus_zero : (c : ℕ) → pos c +ℤ pos 0 ≡ pos c
plus_zero c = omega (arith, ints)

less_one : (n : ℕ) → pos n +ℤ negsuc 0 ≡ pos n -ℤ pos 1
less_one n = omega (arith, ints)

small_less : (n : ℕ) → n < 2 ^ 31 → unsigned_abs (pos n -ℤ pos 1) < 2 ^ 63
small_less n h = omega (arith, ints)

pub lower_is : (env : Env) → lower env ≡ Some (pos 0)
lower_is env = exact_bound_form env (affine (pos 0) []) ∙ exact_affine env (pos 0) []

pub upper_is : (env : Env) (n : ℕ) → env 0 ≡ pos n → n < 2 ^ 31 → upper env ≡ Some (pos n -ℤ pos 1)
upper_is env n e h =
    exact_bound_form env (affine (negsuc 0) ((0, pos 1) ∷ [])) ∙ exact_affine env (negsuc 0) ((0, pos 1) ∷ [])
    ∙ ap (λ (o : Option ℤ). option_and_then (λ sum. exact (sum +ℤ negsuc 0)) (option_and_then (λ now. Some now) o)) (ap (λ (z : ℤ). exact (pos 1 *ℤ z)) e ∙ ap exact (one_times n) ∙ exact_small (pos n) (omega (arith, h)))
    ∙ ap exact (less_one n) ∙ exact_small (pos n -ℤ pos 1) (small_less n h)

pub index_is : (env : Env) (c : ℕ) → env 1 ≡ pos c → c < 2 ^ 63 → index env ≡ Some (pos c)
index_is env c e h =
    exact_affine env (pos 0) ((1, pos 1) ∷ [])
    ∙ ap (λ (o : Option ℤ). option_and_then (λ sum. exact (sum +ℤ pos 0)) (option_and_then (λ now. Some now) o)) (ap (λ (z : ℤ). exact (pos 1 *ℤ z)) e ∙ ap exact (one_times c) ∙ exact_small (pos c) h)
    ∙ ap exact (plus_zero c) ∙ exact_small (pos c) h

-- the read of the input at an index
abbrev pub input_at : ℤ → Touch
input_at i = record { cell = Array 0; index = i }

module _ (f : FirstForm) where
  abbrev sees : Env → Words → Sights
  sees env word = sights (setting_of (code_of f)) env word

  read_place : (env : Env) (word : Words) (c : ℕ) → env 1 ≡ pos c → c < 2 ^ 63 → read_index (sees env word) (affine (pos 0) [] ∷ []) ≡ Some (pos c)
  read_place env word c e h = ap (λ (k : ℕ). known_flat env (slice_get (code_of f).flats k)) (flat_number_affine (pos 0) []) ∙ index_is env c e h

  -- the value of the assignment, with its one read
  pub value_is : (env : Env) (word : Words) (c : ℕ) (w : Word) → env 1 ≡ pos c → c < 2 ^ 63 → word (Array 0) (pos c) ≡ Some w
      → value f env word ≡ record { overflow = false; reads = input_at (pos c) ∷ []; value = Some (multiplied f.factor w) }
  value_is env word c w e h known =
      ap (λ (x : ExprSeen). x.at I32)
      (seen_bin (sees env word) Mul _ _
      ∙ ap (λ (x : ExprSeen). node_seen (sees env word) (Node-F.Bin Mul x (seen_in (sees env word) (of_node (node.Read (Array 0) (affine (pos 0) [] ∷ [])))))) (seen_literal (sees env word) f.factor)
      ∙ ap (λ (x : ExprSeen). node_seen (sees env word) (Node-F.Bin Mul (node_seen (sees env word) (Node-F.Literal f.factor)) x)) (seen_read (sees env word) (Array 0) (affine (pos 0) [] ∷ [])))
      ∙ ap (λ (o : Option ℤ). then_both (apply Mul I32) (plain (word_of I32 (pos f.factor))) (read_at (sees env word) (Array 0) o)) (read_place env word c e h)
      ∙ ap (λ (o : Option Word). then_both (apply Mul I32) (plain (word_of I32 (pos f.factor))) (record { overflow = false; reads = input_at (pos c) ∷ []; value = o })) known
