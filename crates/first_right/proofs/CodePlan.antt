-- What the definitions say of the code of the one form: its statements, its cells and its step count.
use Rattle.std.proofs.Common.{◌≡◌, ◌<◌, ℕ, ◌+◌, ◌*◌, ◌^◌, ◌-◌, ℤ, pos, negsuc, ◌+ℤ◌, ◌*ℤ◌, [], ◌∷◌, Option, Some, refl, ◌∙◌, ap, arith, unsigned_abs}
use Rattle.std.proofs.lemmas.Int.{ints}
use Rattle.wrap_words.specs.declared.kind.Kind.TheVariants.{I32}
use Rattle.wrap_words.specs.declared.kind.Word.{Word}
use Rattle.affine_rows.specs.Rows.{Env}
use Rattle.affine_rows.specs.Forms.{affine}
use Rattle.expr_tree.specs.declared.tree.Cell.TheVariants.{Array}
use Rattle.code_tree.specs.declared.code.Bound.TheVariants as bound
use Rattle.code_tree.specs.declared.code.Block.{fold-roll-Block}
use Rattle.code_tree.specs.declared.code.Stmt.{fold_out-Stmt}
use Rattle.code_tree.specs.declared.code.Stmt.TheVariants as stmt
use Rattle.code_tree.specs.declared.code.Stmt.TheOpen.{Stmt-F}
use Rattle.code_tree.specs.Cells.{cells_in}
use Rattle.code_meaning.specs.Exact.{exact_bound}
use Rattle.code_meaning.specs.Ranges.{Range, bound_range, near}
use Rattle.code_meaning.specs.Seen.{Words, Seen, seen_in}
use Rattle.code_meaning.specs.Plan.{Fresh, Act, Acts, loop, set, next, none, Numbered, Setting, setting_of, sights, set_index, numbered, stmt_step, block_step, plan_of}
use Rattle.code_meaning.specs.Counts.{Tally, tally_of, tallies, stmt_tally, count_of, span, opening_range, step_count}
use Rattle.code_meaning.proofs.Equations.{numbered_block, numbered_loop, numbered_set, tally_block, tally_loop, tally_set, range_bound_form, range_affine}
use Rattle.code_meaning.proofs.Numbers.{near_small}
use Rattle.first_form.specs.declared.form.FirstForm.{FirstForm}
use Rattle.first_form.specs.Codes.{code_of, code_value, loop_subscript, assignment, the_loop, block_of}

abbrev pub upper : Env → Option ℤ
upper env = exact_bound env (bound.Form (affine (negsuc 0) ((0, pos 1) ∷ [])))

abbrev pub lower : Env → Option ℤ
lower env = exact_bound env (bound.Form (affine (pos 0) []))

abbrev pub index : Env → Option ℤ
index env = set_index (Some loop_subscript) env

abbrev pub no_cells : Fresh
no_cells = record { first = 0; lengths = [] }

module _ (f : FirstForm) where
  abbrev pub value : Env → Words → Seen Word
  value env word = (seen_in (sights (setting_of (code_of f)) env word) (code_value f.factor)).at I32

  abbrev pub set_act : Act
  set_act = set 1 (Array 1) index value

  abbrev pub loop_act : Act
  loop_act = loop 0 1 lower upper no_cells (next set_act none)

  abbrev setting : Setting
  setting = setting_of (code_of f)

  inner_is : numbered setting (block_of (assignment f.factor)) ≡ block_step (record { cells = []; children = stmt_step setting (Stmt-F.Set (Array 1) (Some loop_subscript) (code_value f.factor)) ∷ [] })
  inner_is = numbered_block setting [] (assignment f.factor ∷ []) ∙ ap (λ (a : Numbered Act). block_step (record { cells = []; children = a ∷ [] })) (numbered_set setting _ _ _)

  -- the loop is statement 0 and the assignment is statement 1
  pub plan_is : plan_of (code_of f) ≡ (no_cells, next loop_act none)
  plan_is =
      ap (λ (n : Numbered (Fresh × Acts)). n.from 0 0)
      (numbered_block setting [] (the_loop f.factor ∷ [])
      ∙ ap (λ (a : Numbered Act). block_step (record { cells = []; children = a ∷ [] }))
      (numbered_loop setting 1 _ _ (block_of (assignment f.factor))
      ∙ ap (λ (b : Numbered (Fresh × Acts)). stmt_step setting (Stmt-F.Loop 1 (bound.Form (affine (pos 0) [])) (bound.Form (affine (negsuc 0) ((0, pos 1) ∷ []))) b)) inner_is))

  pub no_cells_there : cells_in (code_of f).body ≡ []
  no_cells_there = simp (fold-roll-Block, fold_out-Stmt, stmt.outs-Loop, stmt.outs-Set) refl

  tally_is : tally_of (code_of f).body ≡ tallies (stmt_tally (Stmt-F.Loop 1 (bound.Form (affine (pos 0) [])) (bound.Form (affine (negsuc 0) ((0, pos 1) ∷ []))) (tallies (stmt_tally (Stmt-F.Set (Array 1) (Some loop_subscript) (code_value f.factor)) ∷ []))) ∷ [])
  tally_is =
      tally_block [] (the_loop f.factor ∷ [])
      ∙ ap (λ (t : Tally). tallies (t ∷ []))
      (tally_loop 1 _ _ (block_of (assignment f.factor))
      ∙ ap (λ (t : Tally). stmt_tally (Stmt-F.Loop 1 (bound.Form (affine (pos 0) [])) (bound.Form (affine (negsuc 0) ((0, pos 1) ∷ []))) t))
      (tally_block [] (assignment f.factor ∷ []) ∙ ap (λ (t : Tally). tallies (t ∷ [])) (tally_set (Array 1) (Some loop_subscript) (code_value f.factor))))

  one_times : (c : ℕ) → pos 1 *ℤ pos c ≡ pos c
  one_times c = omega (arith, ints)

  lowest : (n : ℕ) → (bound_range (opening_range (pos n ∷ []) []) (bound.Form (affine (pos 0) []))).0 ≡ pos 0
  lowest n = ap (λ (r : Range). r.0) (range_bound_form (opening_range (pos n ∷ []) []) (affine (pos 0) []) ∙ range_affine (opening_range (pos n ∷ []) []) (pos 0) [])

  small_number : (n : ℕ) → n < 2 ^ 31 → unsigned_abs (pos n) < 2 ^ 63 - 1
  small_number n h = omega (arith, h)

  small_less : (n : ℕ) → n < 2 ^ 31 → unsigned_abs (pos n +ℤ negsuc 0) < 2 ^ 63 - 1
  small_less n h = omega (arith, ints)

  highest : (n : ℕ) → n < 2 ^ 31 → (bound_range (opening_range (pos n ∷ []) []) (bound.Form (affine (negsuc 0) ((0, pos 1) ∷ [])))).1 ≡ pos n +ℤ negsuc 0
  highest n h =
      ap (λ (r : Range). r.1) (range_bound_form (opening_range (pos n ∷ []) []) (affine (negsuc 0) ((0, pos 1) ∷ [])) ∙ range_affine (opening_range (pos n ∷ []) []) (negsuc 0) ((0, pos 1) ∷ []))
      ∙ ap (λ (z : ℤ). near (near z +ℤ negsuc 0)) (one_times n)
      ∙ ap (λ (z : ℤ). near (z +ℤ negsuc 0)) (near_small (pos n) (small_number n h))
      ∙ near_small (pos n +ℤ negsuc 0) (small_less n h)

  span_is : (n : ℕ) → span (pos 0, pos n +ℤ negsuc 0) ≡ n
  span_is n = grind (arith, ints)

  -- the step count
  pub count_is : (n : ℕ) → n < 2 ^ 31 → step_count (code_of f) (pos n ∷ []) ≡ 1 + 8 * (n + 1)
  count_is n h =
      ap (λ (t : Tally). count_of 1 t (opening_range (pos n ∷ []) [])) tally_is
      ∙ ap (λ (z : ℤ). 1 * (1 + 8 * ((span (z, (bound_range (opening_range (pos n ∷ []) []) (bound.Form (affine (negsuc 0) ((0, pos 1) ∷ [])))).1) + 1) * 1 * 1))) (lowest n)
      ∙ ap (λ (z : ℤ). 1 * (1 + 8 * ((span (pos 0, z) + 1) * 1 * 1))) (highest n h)
      ∙ ap (λ (k : ℕ). 1 * (1 + 8 * ((k + 1) * 1 * 1))) (span_is n)
      ∙ omega arith
