-- What is read is as deep as it is said to be, and at most 64 deep.
use Rattle.std.proofs.Common.{◌≡◌, ◌≤◌, ◌<◌, ℕ, zero, suc, ◌+◌, ◌-◌, max, Bool, true, false, cond, nat_lt, nat_le, nat_eq, pos, List, [], ◌∷◌, ◌++◌, length, take, slice_index_or, Option, Some, None, arith, refl, sym, ap, ap₂, ◌∙◌}
use Rattle.std.specs.List.{AllByRecursion}
use Rattle.std.specs.Option.{option_or}
use Rattle.wrap_words.specs.declared.kind.Kind.{Kind}
use Rattle.affine_rows.specs.declared.quasi.Quasi.{Quasi}
use Rattle.affine_rows.specs.Forms.{affine}
use Rattle.expr_tree.specs.declared.tree.Cell.{Cell}
use Rattle.kernel_grammar.specs.declared.step.Step.{Step}
use Rattle.kernel_grammar.specs.declared.step.Step.TheVariants as step
use Rattle.kernel_grammar.specs.declared.step.Prefix.{Prefix}
use Rattle.kernel_grammar.specs.declared.step.Infix.{Infix}
use Rattle.kernel_grammar.specs.declared.step.Infix.TheVariants as infixed
use Rattle.kernel_grammar.specs.declared.step.Extreme.{Extreme}
use Rattle.kernel_grammar.specs.declared.step.Folding.{Folding}
use Rattle.kernel_grammar.specs.declared.step.Folding.TheVariants as folding
use Rattle.quasi_forms.specs.Collected.{constant_form}
use Rattle.untyped.specs.declared.tree.Term.{Term}
use Rattle.untyped.specs.declared.tree.Term.TheVariants as term
use Rattle.untyped.specs.declared.scope.Role.{Role}
use Rattle.untyped.specs.declared.scope.Role.TheVariants as role
use Rattle.untyped.specs.declared.index.Collected.{Collected}
use Rattle.untyped.specs.declared.faults.Faults.{Faults}
use Rattle.untyped.specs.declared.reading.Part.TheVariants as part
use Rattle.untyped.specs.declared.reading.Reading.{Reading}
use Rattle.untyped.specs.Indexes.{one}
use Rattle.untyped.specs.Readings.{Roles, no_faults, joined, unknown_first, forms_in, place_faults, is_index, tree_of, index_reading, refused_reading, tree_reading, index_or_tree, number_reading, variable_reading, read_reading, name_reading, place_reading, use_reading, negated_part, prefix_reading, operated_parts, below_of, infix_reading, shift_left_reading, shift_right_reading, cast_reading, choose_reading, fold_reading, extreme_reading, inames_in, no_iname_in, top, under, before_last, last_parts, step_read, steps_read, untyped_of}
use Rattle.untyped.specs.Depths.{Measure, below, no_index, term_measure, measure_of, IsMeasured}
use Rattle.untyped.proofs.Layers.{at-Index, at-Literal, at-Read, at-Use, at-Prefix, at-Infix, at-ShiftLeft, at-ShiftRight, at-Cast, at-Choose, at-Fold}

-- What is read has the depth that it is said to have, at most 64, and is an index expression where it is said to be one.
record Fine (r : Reading) : Type 0 where
  pub measure : measure_of (tree_of r.part) ≡ record { depth = r.depth; index = is_index r.part }
  pub most : r.depth ≤ 64

refused : (f : Faults) → Fine (refused_reading f)
refused f = record { measure = at-Index term_measure one false; most = omega arith }

indexed : (c : Collected) (f : Faults) → Fine (index_reading c f)
indexed c f = record { measure = at-Index term_measure c.form c.constant; most = omega arith }

-- a term over parts of this depth
less_of : (n : ℕ) → nat_lt n 64 ≡ true → n < 64
less_of n h = grind arith

tree_by : (b : Bool) (n : ℕ) (t : Term) (f : Faults) → nat_lt n 64 ≡ b → measure_of (record { term = t }) ≡ no_index (n + 1)
    → Fine (cond b (record { part = part.Tree (record { term = t }); depth = n + 1; faults = f }) (refused_reading (record f { depth = true })))
tree_by true n t f h e = record { measure = e; most = omega (arith, less_of n h) }
tree_by false n t f h e = refused (record f { depth = true })

treed : (n : ℕ) (t : Term) (f : Faults) → measure_of (record { term = t }) ≡ no_index (n + 1) → Fine (tree_reading n t f)
treed n t f e = tree_by (nat_lt n 64) n t f refl e

either : (c : Option Collected) (n : ℕ) (t : Term) (f : Faults) → measure_of (record { term = t }) ≡ no_index (n + 1) → Fine (index_or_tree c n t f)
either None n t f e = treed n t f e
either (Some c) n t f e = indexed c f

-- ---- numbers and names

numbered_by : (b : Bool) (n : ℕ) (q : Quasi) → Fine (cond b (record { part = part.Index q true; depth = 1; faults = no_faults })
    (record { part = part.Tree (record { term = term.Literal n }); depth = 1; faults = record no_faults { large = true } }))
numbered_by true n q = record { measure = at-Index term_measure q true; most = omega arith }
numbered_by false n q = record { measure = at-Literal term_measure n; most = omega arith }

numbered : (n : Option ℕ) → Fine (number_reading n)
numbered None = refused (record no_faults { wide = true; large = true })
numbered (Some n) = numbered_by (nat_le n 1048576) n (constant_form (pos n))

varied : (v : ℕ) → Fine (variable_reading v)
varied v = record { measure = at-Index term_measure (affine (pos 0) ((v, pos 1) ∷ [])) false; most = omega arith }

read : (name : List ℕ) (cell : Cell) (fits : Bool) (place : List Quasi) (f : Faults) → Fine (read_reading name cell fits place f)
read name cell fits place f = record { measure = at-Read term_measure cell place; most = omega arith }

named : (r : Role) (name : List ℕ) → Fine (name_reading r name)
named (role.Parameter v) name = varied v
named (role.Iname v) name = varied v
named (role.Cell cell places) name = read name cell (nat_eq places 0) [] no_faults
named (role.Rule r) name = refused (unknown_first name no_faults)
named role.Unknown name = refused (unknown_first name no_faults)

placed : (r : Role) (name : List ℕ) (n : ℕ) (rs : List Reading) → Fine (place_reading r name n rs)
placed (role.Cell cell places) name n rs = read name cell (nat_eq places n) (forms_in rs) (place_faults name rs)
placed (role.Parameter v) name n rs = refused (unknown_first name (place_faults name rs))
placed (role.Iname v) name n rs = refused (unknown_first name (place_faults name rs))
placed (role.Rule r) name n rs = refused (unknown_first name (place_faults name rs))
placed role.Unknown name n rs = refused (unknown_first name (place_faults name rs))

used : (r : Role) (name : List ℕ) (rs : List Reading) → Fine (use_reading r name rs)
used (role.Rule rule) name rs = record { measure = at-Use term_measure rule (forms_in rs); most = omega arith }
used (role.Cell cell places) name rs = refused (unknown_first name (place_faults name rs))
used (role.Parameter v) name rs = refused (unknown_first name (place_faults name rs))
used (role.Iname v) name rs = refused (unknown_first name (place_faults name rs))
used role.Unknown name rs = refused (unknown_first name (place_faults name rs))

-- ---- operators

-- one part more
abbrev deeper : Measure → Measure
deeper m = no_index (m.depth + 1)

prefixed : (p : Prefix) (a : Reading) → Fine a → Fine (prefix_reading p a)
prefixed p a h =
    either (negated_part p a.part) a.depth (term.Prefix p (tree_of a.part)) a.faults (at-Prefix term_measure p (tree_of a.part) ∙ ap deeper h.measure)

joined_in : (op : Infix) (a b : Reading) → Fine a → Fine b → Fine (infix_reading op a b)
joined_in op a b h k =
    either (operated_parts op a.part b.part) (below_of op a b) (term.Infix op (tree_of a.part) (tree_of b.part)) (joined a.faults b.faults)
    (at-Infix term_measure op (tree_of a.part) (tree_of b.part) ∙ ap₂ (λ (m n : Measure). no_index (below op m n + 1)) h.measure k.measure)

shifted_left : (by : Option ℕ) (a : Reading) → Fine a → Fine (shift_left_reading by a)
shifted_left None a h = refused (record a.faults { wide = true })
shifted_left (Some by) a h = treed a.depth (term.ShiftLeft (tree_of a.part) by) a.faults (at-ShiftLeft term_measure (tree_of a.part) by ∙ ap deeper h.measure)

shifted_right : (by : Option ℕ) (a : Reading) → Fine a → Fine (shift_right_reading by a)
shifted_right None a h = refused (record a.faults { wide = true })
shifted_right (Some by) a h = treed a.depth (term.ShiftRight (tree_of a.part) by) a.faults (at-ShiftRight term_measure (tree_of a.part) by ∙ ap deeper h.measure)

converted : (kind : Kind) (a : Reading) → Fine a → Fine (cast_reading kind a)
converted kind a h = treed a.depth (term.Cast kind (tree_of a.part)) a.faults (at-Cast term_measure kind (tree_of a.part) ∙ ap deeper h.measure)

chosen : (a b c : Reading) → Fine a → Fine b → Fine c → Fine (choose_reading a b c)
chosen a b c h k l =
    treed (max a.depth (max b.depth c.depth)) (term.Choose (tree_of a.part) (tree_of b.part) (tree_of c.part)) (joined a.faults (joined b.faults c.faults))
    (at-Choose term_measure (tree_of a.part) (tree_of b.part) (tree_of c.part)
    ∙ (ap (λ (m : Measure). no_index (max m.depth (max (measure_of (tree_of b.part)).depth (measure_of (tree_of c.part)).depth) + 1)) h.measure
    ∙ ap₂ (λ (m n : Measure). no_index (max a.depth (max m.depth n.depth) + 1)) k.measure l.measure))

folded : (how : Folding) (inames : List ℕ) (unknown : Option (List ℕ)) (a : Reading) → Fine a → Fine (fold_reading how inames unknown a)
folded how inames unknown a h =
    treed a.depth (term.Fold how inames (tree_of a.part)) (record a.faults { unknown = option_or unknown a.faults.unknown })
    (at-Fold term_measure how inames (tree_of a.part) ∙ ap deeper h.measure)

extreme : (r : Role) (which : Extreme) (name : List ℕ) (b : Reading) → Fine b → Fine (extreme_reading r which name b)
extreme (role.Iname v) which name b h = folded (folding.Extreme which) (v ∷ []) None b h
extreme (role.Parameter v) which name b h = joined_in (infixed.Extreme which) (name_reading (role.Parameter v) name) b (named (role.Parameter v) name) h
extreme (role.Cell cell places) which name b h = joined_in (infixed.Extreme which) (name_reading (role.Cell cell places) name) b (named (role.Cell cell places) name) h
extreme (role.Rule r) which name b h = joined_in (infixed.Extreme which) (name_reading (role.Rule r) name) b (named (role.Rule r) name) h
extreme role.Unknown which name b h = joined_in (infixed.Extreme which) (name_reading role.Unknown name) b (named role.Unknown name) h

-- ---- steps

abbrev AllFine : List Reading → Type 0
AllFine rs = AllByRecursion Fine rs

fine_at : (rs : List Reading) (n : ℕ) (r : Reading) → AllFine rs → Fine r → Fine (slice_index_or rs n r)
fine_at [] n r h k = k
fine_at (x ∷ xs) zero r h k = h.0
fine_at (x ∷ xs) (suc n) r h k = fine_at xs n r h.1 k

fine_front : (n : ℕ) (rs : List Reading) → AllFine rs → AllFine (take n rs)
fine_front zero rs h = tt
fine_front (suc n) [] h = tt
fine_front (suc n) (r ∷ rs) h = (h.0, fine_front n rs h.1)

fine_end : (rs : List Reading) (r : Reading) → AllFine rs → Fine r → AllFine (rs ++ r ∷ [])
fine_end [] r h k = (k, tt)
fine_end (x ∷ xs) r h k = (h.0, fine_end xs r h.1 k)

fine_top : (rs : List Reading) → AllFine rs → Fine (top rs)
fine_top rs h = fine_at rs (length rs - 1) (refused_reading no_faults) h (refused no_faults)

fine_under : (rs : List Reading) → AllFine rs → AllFine (under rs)
fine_under rs h = fine_front (length rs - 1) rs h

module _ (roles : Roles) where
  stepped : (s : Step) (rs : List Reading) → AllFine rs → AllFine (step_read roles s rs)
  stepped (step.Number n) rs h = fine_end rs (number_reading n) h (numbered n)
  stepped (step.Name name) rs h = fine_end rs (name_reading (roles name) name) h (named (roles name) name)
  stepped (step.Index name places) rs h =
      fine_end (before_last places rs) (place_reading (roles name) name places (last_parts places rs)) (fine_front (length rs - places) rs h) (placed (roles name) name places (last_parts places rs))
  stepped (step.Call name places) rs h =
      fine_end (before_last places rs) (use_reading (roles name) name (last_parts places rs)) (fine_front (length rs - places) rs h) (used (roles name) name (last_parts places rs))
  stepped (step.Prefix p) rs h = fine_end (under rs) (prefix_reading p (top rs)) (fine_under rs h) (prefixed p (top rs) (fine_top rs h))
  stepped (step.Infix op) rs h =
      fine_end (under (under rs)) (infix_reading op (top (under rs)) (top rs)) (fine_under (under rs) (fine_under rs h))
      (joined_in op (top (under rs)) (top rs) (fine_top (under rs) (fine_under rs h)) (fine_top rs h))
  stepped (step.ShiftLeft by) rs h = fine_end (under rs) (shift_left_reading by (top rs)) (fine_under rs h) (shifted_left by (top rs) (fine_top rs h))
  stepped (step.ShiftRight by) rs h = fine_end (under rs) (shift_right_reading by (top rs)) (fine_under rs h) (shifted_right by (top rs) (fine_top rs h))
  stepped (step.Cast kind) rs h = fine_end (under rs) (cast_reading kind (top rs)) (fine_under rs h) (converted kind (top rs) (fine_top rs h))
  stepped step.Choose rs h =
      let two = fine_under rs h in
      let one = fine_under (under rs) two in
      fine_end (under (under (under rs))) (choose_reading (top (under (under rs))) (top (under rs)) (top rs)) (fine_under (under (under rs)) one)
      (chosen (top (under (under rs))) (top (under rs)) (top rs) (fine_top (under (under rs)) one) (fine_top (under rs) two) (fine_top rs h))
  stepped (step.Fold how names) rs h =
      fine_end (under rs) (fold_reading how (inames_in roles names) (no_iname_in roles names) (top rs)) (fine_under rs h)
      (folded how (inames_in roles names) (no_iname_in roles names) (top rs) (fine_top rs h))
  stepped (step.ExtremeOf which name) rs h =
      fine_end (under rs) (extreme_reading (roles name) which name (top rs)) (fine_under rs h) (extreme (roles name) which name (top rs) (fine_top rs h))

  all_stepped : (ss : List Step) (rs : List Reading) → AllFine rs → AllFine (steps_read roles ss rs)
  all_stepped [] rs h = h
  all_stepped (s ∷ ss) rs h = all_stepped ss (step_read roles s rs) (stepped s rs h)

  pub measured : (ss : List Step) → IsMeasured (untyped_of roles ss)
  measured ss =
      let fine = fine_top (steps_read roles ss []) (all_stepped ss [] tt) in
      record { depth = sym (ap (λ (m : Measure). m.depth) fine.measure); most = fine.most }
