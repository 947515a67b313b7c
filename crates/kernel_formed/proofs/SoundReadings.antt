-- What is read without faults is sound.
use Rattle.std.proofs.Common.{◌≡◌, ◌≤◌, ℕ, zero, suc, ◌+◌, ◌-◌, max, Bool, true, false, ◌&&◌, ◌||◌, cond, nat_lt, nat_le, nat_eq, pos, List, [], ◌∷◌, ◌++◌, length, take, drop, slice_index_or, Option, Some, None, arith, refl, sym, ap, ◌∙◌, length-append, length-drop}
use Rattle.std.proofs.lemmas.List.{length-take-le}
use Rattle.std.specs.List.{list_all, AllByRecursion}
use Rattle.std.specs.Option.{option_or}
use Rattle.std.specs.Prelude.{option_and_then}
use Rattle.std.proofs.lemmas.Bool.{true≢false, eqb-true, eq-eqb, leb-true}
use Rattle.std.proofs.lemmas.List.Folds.{list_all-append}
use Rattle.wrap_words.specs.declared.kind.Kind.{Kind}
use Rattle.affine_rows.specs.declared.quasi.Quasi.{Quasi}
use Rattle.affine_rows.specs.Forms.{affine}
use Rattle.expr_tree.specs.declared.tree.Cell.{Cell}
use Rattle.expr_tree.specs.Scenes.{each_var}
use Rattle.kernel_grammar.specs.declared.step.Step.{Step}
use Rattle.kernel_grammar.specs.declared.step.Step.TheVariants as step
use Rattle.kernel_grammar.specs.declared.step.Prefix.{Prefix}
use Rattle.kernel_grammar.specs.declared.step.Prefix.TheVariants.{Not, Negate, Invert}
use Rattle.kernel_grammar.specs.declared.step.Infix.{Infix}
use Rattle.kernel_grammar.specs.declared.step.Infix.TheVariants as infixed
use Rattle.kernel_grammar.specs.declared.step.Extreme.{Extreme}
use Rattle.kernel_grammar.specs.declared.step.Folding.{Folding}
use Rattle.kernel_grammar.specs.declared.step.Folding.TheVariants as folding
use Rattle.quasi_forms.specs.Collected.{constant_form}
use Rattle.quasi_forms.proofs.Likeness.{both, and_true}
use Rattle.untyped.specs.declared.tree.Term.{Term}
use Rattle.untyped.specs.declared.tree.Term.TheVariants as term
use Rattle.untyped.specs.declared.scope.Role.{Role}
use Rattle.untyped.specs.declared.scope.Role.TheVariants as role
use Rattle.untyped.specs.declared.index.Collected.{Collected}
use Rattle.untyped.specs.declared.faults.Faults.{Faults}
use Rattle.untyped.specs.declared.reading.Part.{Part}
use Rattle.untyped.specs.declared.reading.Part.TheVariants as part
use Rattle.untyped.specs.declared.reading.Reading.{Reading}
use Rattle.untyped.specs.Indexes.{one}
use Rattle.untyped.specs.Readings.{Roles, no_faults, joined, unknown_first, unknown_unless, form_in, forms_in, faults_behind, place_faults, is_index, tree_of, index_reading, refused_reading, tree_reading, index_or_tree, number_reading, variable_reading, read_reading, name_reading, place_reading, use_reading, negated_part, prefix_reading, operated_parts, below_of, infix_reading, shift_left_reading, shift_right_reading, cast_reading, choose_reading, fold_reading, extreme_reading, iname_in, inames_in, unless_iname, no_iname_in, top, under, before_last, last_parts, step_read, steps_read, untyped_of}
use Rattle.untyped.proofs.Layers.{at-Index, at-Literal, at-Read, at-Use, at-Prefix, at-Infix, at-ShiftLeft, at-ShiftRight, at-Cast, at-Choose, at-Fold}
use Rattle.kernel_formed.specs.Shapes.{operands, has_names, after_steps, is_one, is_whole}
use Rattle.kernel_formed.specs.Sound.{Meant, FitsRoles, IsFine, term_sound, sound}
use Rattle.kernel_formed.proofs.FormSums.{OptionPasses, constant_passes, affine_passes, negated_passes, operated_passes}

-- ---- faults

none_first : {X : Type 0} (f g : Option X) → option_or f g ≡ None → f ≡ None
none_first None g e = refl
none_first (Some x) g e = e

none_second : {X : Type 0} (f g : Option X) → option_or f g ≡ None → g ≡ None
none_second None g e = e
none_second (Some x) g e = absurd cc

false_first : (a b : Bool) → (a || b) ≡ false → a ≡ false
false_first true b e = e
false_first false b e = refl

false_second : (a b : Bool) → (a || b) ≡ false → b ≡ false
false_second true b e = absurd (true≢false e)
false_second false b e = e

fine_first : (a b : Faults) → IsFine (joined a b) → IsFine a
fine_first a b h = record {
  wide = false_first a.wide b.wide h.wide;
  number = false_first a.number b.number h.number;
  depth = false_first a.depth b.depth h.depth;
  form = false_first a.form b.form h.form;
  unknown = none_first a.unknown b.unknown h.unknown;
  shape = none_first a.shape b.shape h.shape;
}

fine_second : (a b : Faults) → IsFine (joined a b) → IsFine b
fine_second a b h = record {
  wide = false_second a.wide b.wide h.wide;
  number = false_second a.number b.number h.number;
  depth = false_second a.depth b.depth h.depth;
  form = false_second a.form b.form h.form;
  unknown = none_second a.unknown b.unknown h.unknown;
  shape = none_second a.shape b.shape h.shape;
}

fits_and_fine : (fits : Bool) (name : List ℕ) (f : Faults) → IsFine (unknown_unless fits name f) → (fits ≡ true) × IsFine f
fits_and_fine true name f h = (refl, h)
fits_and_fine false name f h = absurd (let e : Some name ≡ None = h.unknown in cc)

without_unknown : (name : Option (List ℕ)) (f : Faults) → IsFine (record f { unknown = option_or name f.unknown }) → IsFine f
without_unknown name f h = record {
  wide = h.wide;
  number = h.number;
  depth = h.depth;
  form = h.form;
  unknown = none_second name f.unknown h.unknown;
  shape = h.shape;
}

abbrev AllAreFine : List Reading → Type 0
AllAreFine rs = AllByRecursion (λ r. IsFine r.faults) rs

behind : (f : Faults) (rs : List Reading) → IsFine (faults_behind f rs) → IsFine f × AllAreFine rs
behind f [] h = (h, tt)
behind f (r ∷ rs) h = (let more = behind (joined f r.faults) rs h in (fine_first f r.faults more.0, (fine_second f r.faults more.0, more.1)))

shape_by : (b : Bool) (o : Option (List ℕ)) (name : List ℕ) → cond b o (Some name) ≡ None → (b ≡ true) × (o ≡ None)
shape_by true o name e = (refl, e)
shape_by false o name e = absurd cc

-- the operands of a name are index expressions, and nothing is at fault in them
record FineParts (rs : List Reading) : Type 0 where
  fine : AllAreFine rs
  indexes : list_all (λ r. is_index r.part) rs ≡ true

fine_parts : (name : List ℕ) (rs : List Reading) → IsFine (place_faults name rs) → FineParts rs
fine_parts name rs h =
    let f : Faults = faults_behind no_faults rs in
    let shape = shape_by (list_all (λ r. is_index r.part) rs) f.shape name h.shape in
    record {
      fine =
          (behind no_faults rs
          (record { wide = h.wide; number = false_first f.number f.large h.number; depth = h.depth; form = h.form; unknown = h.unknown; shape = shape.1 })).1;
      indexes = shape.0;
    }

-- ---- lists of parts

module _ {X : Type 0} (P : X → Type 0) where
  at_or : (xs : List X) (n : ℕ) (x : X) → AllByRecursion P xs → P x → P (slice_index_or xs n x)
  at_or [] n x h k = k
  at_or (y ∷ ys) zero x h k = h.0
  at_or (y ∷ ys) (suc n) x h k = at_or ys n x h.1 k

  front : (n : ℕ) (xs : List X) → AllByRecursion P xs → AllByRecursion P (take n xs)
  front zero xs h = tt
  front (suc n) [] h = tt
  front (suc n) (x ∷ xs) h = (h.0, front n xs h.1)

  back : (n : ℕ) (xs : List X) → AllByRecursion P xs → AllByRecursion P (drop n xs)
  back zero xs h = h
  back (suc n) [] h = h
  back (suc n) (x ∷ xs) h = back n xs h.1

  one_more : (xs : List X) (x : X) → AllByRecursion P xs → P x → AllByRecursion P (xs ++ x ∷ [])
  one_more [] x h k = (k, tt)
  one_more (y ∷ ys) x h k = (h.0, one_more ys x h.1 k)

-- as many parts as are kept and one more
ended : {X : Type 0} (n : ℕ) (xs : List X) (x : X) → n ≤ length xs → length (take n xs ++ x ∷ []) ≡ n + 1
ended n xs x le = length-append (take n xs) (x ∷ []) ∙ ap (λ (k : ℕ). k + 1) (length-take-le n xs le)

one_less : (rs : List Reading) → length (under rs) ≡ length rs - 1
one_less rs = length-take-le (length rs - 1) rs (omega arith)

-- ---- what is read

module _ (m : Meant) where
  -- sound where nothing is at fault
  record Good (r : Reading) : Type 0 where
    tree : IsFine r.faults → sound m (tree_of r.part) ≡ true

  abbrev Passing : Quasi → Type 0
  Passing q = each_var m.var q ≡ true

  pub index_passes : (f : Quasi) (c : Bool) → sound m (record { term = term.Index f c }) ≡ true → Passing f
  index_passes f c h = sym (at-Index (term_sound m) f c) ∙ h

  indexed_form : (c : Collected) (f : Faults) → (IsFine f → Passing c.form) → Good (index_reading c f)
  indexed_form c f h = record {
    tree = λ fine. at-Index (term_sound m) c.form c.constant
        ∙ h (record {
          wide = fine.wide;
          number = fine.number;
          depth = fine.depth;
          form = false_first f.form c.over fine.form;
          unknown = fine.unknown;
          shape = fine.shape;
        });
  }

  refused : (f : Faults) → Good (refused_reading f)
  refused f = record { tree = λ fine. at-Index (term_sound m) one false ∙ constant_passes m.var (pos 1) }

  abbrev SoundTerm : Term → Faults → Type 0
  SoundTerm t f = IsFine f → sound m (record { term = t }) ≡ true

  tree_by : (b : Bool) (n : ℕ) (t : Term) (f : Faults) → SoundTerm t f
      → Good (cond b (record { part = part.Tree (record { term = t }); depth = n + 1; faults = f }) (refused_reading (record f { depth = true })))
  tree_by true n t f h = record { tree = h }
  tree_by false n t f h = refused (record f { depth = true })

  treed : (n : ℕ) (t : Term) (f : Faults) → SoundTerm t f → Good (tree_reading n t f)
  treed n t f h = tree_by (nat_lt n 64) n t f h

  either : (c : Option Collected) (n : ℕ) (t : Term) (f : Faults) → (IsFine f → OptionPasses m.var c) → SoundTerm t f → Good (index_or_tree c n t f)
  either None n t f p h = treed n t f h
  either (Some c) n t f p h = indexed_form c f p

  -- ---- numbers and names

  numbered_by : (b : Bool) (n : ℕ) → Good (cond b (record { part = part.Index (constant_form (pos n)) true; depth = 1; faults = no_faults })
      (record { part = part.Tree (record { term = term.Literal n }); depth = 1; faults = record no_faults { large = true } }))
  numbered_by true n = record { tree = λ fine. at-Index (term_sound m) (constant_form (pos n)) true ∙ constant_passes m.var (pos n) }
  numbered_by false n = record { tree = λ fine. at-Literal (term_sound m) n }

  numbered : (n : Option ℕ) → Good (number_reading n)
  numbered None = refused (record no_faults { wide = true; large = true })
  numbered (Some n) = numbered_by (nat_le n 1048576) n

  varied : (v : ℕ) → m.var v ≡ true → Good (variable_reading v)
  varied v h =
      record { tree = λ fine. at-Index (term_sound m) (affine (pos 0) ((v, pos 1) ∷ [])) false ∙ affine_passes m.var (pos 0) ((v, pos 1) ∷ []) (h, tt) }

  read : (name : List ℕ) (cell : Cell) (fits : Bool) (place : List Quasi) (f : Faults)
      → (fits ≡ true → IsFine f → (m.cell cell (length place) ≡ true) × (list_all (each_var m.var) place ≡ true))
      → Good (read_reading name cell fits place f)
  read name cell fits place f h = record {
    tree = λ fine.
        let both_fine = fits_and_fine fits name f fine in
        let parts = h both_fine.0 both_fine.1 in
        at-Read (term_sound m) cell place ∙ and_true (m.cell cell (length place)) (list_all (each_var m.var) place) parts.0 parts.1;
  }

  same_count : (cell : Cell) (places n : ℕ) → nat_eq places n ≡ true → m.cell cell places ≡ true → m.cell cell n ≡ true
  same_count cell places n e h = ap (m.cell cell) (sym (eqb-true places n e)) ∙ h

  refused_name : (name : List ℕ) (f : Faults) → Good (refused_reading (unknown_first name f))
  refused_name name f = refused (unknown_first name f)

  module _ (roles : Roles) (fits : FitsRoles roles m) where
    named : (r : Role) (name : List ℕ) → roles name ≡ r → Good (name_reading r name)
    named (role.Parameter v) name e = varied v (fits.parameter name v e)
    named (role.Iname v) name e = varied v (fits.iname_var name v e)
    named (role.Cell cell places) name e =
        read name cell (nat_eq places 0) [] no_faults (λ none fine. (same_count cell places 0 none (fits.cell name cell places e), refl))
    named (role.Rule r) name e = refused_name name no_faults
    named role.Unknown name e = refused_name name no_faults

    -- ---- subscripts and arguments

    form_passes : (p : Part) → sound m (tree_of p) ≡ true → list_all (each_var m.var) (form_in p) ≡ true
    form_passes (part.Index f c) h = and_true (each_var m.var f) true (index_passes f c h) refl
    form_passes (part.Tree t) h = refl

    forms_pass : (rs : List Reading) → AllByRecursion Good rs → AllAreFine rs → list_all (each_var m.var) (forms_in rs) ≡ true
    forms_pass [] h fine = refl
    forms_pass (r ∷ rs) h fine =
        list_all-append (each_var m.var) (form_in r.part) (forms_in rs) ∙ and_true _ _ (form_passes r.part (h.0.tree fine.0)) (forms_pass rs h.1 fine.1)

    one_form : (p : Part) → is_index p ≡ true → length (form_in p) ≡ 1
    one_form (part.Index f c) h = refl
    one_form (part.Tree t) h = absurd (true≢false (sym h))

    as_many : (rs : List Reading) → list_all (λ r. is_index r.part) rs ≡ true → length (forms_in rs) ≡ length rs
    as_many [] h = refl
    as_many (r ∷ rs) h =
        let parts = both (is_index r.part) (list_all (λ r. is_index r.part) rs) h in
        omega (arith, length-append (form_in r.part) (forms_in rs), one_form r.part parts.0, as_many rs parts.1)

    placed : (r : Role) (name : List ℕ) (n : ℕ) (rs : List Reading) → roles name ≡ r → length rs ≡ n → AllByRecursion Good rs → Good (place_reading r name n rs)
    placed (role.Cell cell places) name n rs e long h =
        read name cell (nat_eq places n) (forms_in rs) (place_faults name rs)
        (λ same fine. let parts = fine_parts name rs fine in (
          same_count cell n (length (forms_in rs)) (eq-eqb n (length (forms_in rs)) (sym long ∙ sym (as_many rs parts.indexes)))
              (same_count cell places n same (fits.cell name cell places e)),
          forms_pass rs h parts.fine,
        ))
    placed (role.Parameter v) name n rs e long h = refused_name name (place_faults name rs)
    placed (role.Iname v) name n rs e long h = refused_name name (place_faults name rs)
    placed (role.Rule r) name n rs e long h = refused_name name (place_faults name rs)
    placed role.Unknown name n rs e long h = refused_name name (place_faults name rs)

    used : (r : Role) (name : List ℕ) (rs : List Reading) → roles name ≡ r → AllByRecursion Good rs → Good (use_reading r name rs)
    used (role.Rule rule) name rs e h = record {
      tree = λ fine. at-Use (term_sound m) rule (forms_in rs)
          ∙ and_true (m.rule rule) (list_all (each_var m.var) (forms_in rs)) (fits.rule name rule e) (forms_pass rs h (fine_parts name rs fine).fine);
    }
    used (role.Cell cell places) name rs e h = refused_name name (place_faults name rs)
    used (role.Parameter v) name rs e h = refused_name name (place_faults name rs)
    used (role.Iname v) name rs e h = refused_name name (place_faults name rs)
    used role.Unknown name rs e h = refused_name name (place_faults name rs)

    -- ---- operators

    negated_pass : (p : Prefix) (a : Part) → sound m (tree_of a) ≡ true → OptionPasses m.var (negated_part p a)
    negated_pass Negate (part.Index f c) h = negated_passes m.var f c (index_passes f c h)
    negated_pass Negate (part.Tree t) h = tt
    negated_pass Not a h = tt
    negated_pass Invert a h = tt

    prefixed : (p : Prefix) (a : Reading) → Good a → Good (prefix_reading p a)
    prefixed p a h =
        either (negated_part p a.part) a.depth (term.Prefix p (tree_of a.part)) a.faults (λ fine. negated_pass p a.part (h.tree fine))
        (λ fine. at-Prefix (term_sound m) p (tree_of a.part) ∙ h.tree fine)

    operated_pass : (op : Infix) (a b : Part) → sound m (tree_of a) ≡ true → sound m (tree_of b) ≡ true → OptionPasses m.var (operated_parts op a b)
    operated_pass op (part.Index f c) (part.Index g d) h k = operated_passes m.var op f c g d (index_passes f c h) (index_passes g d k)
    operated_pass op (part.Index f c) (part.Tree b) h k = tt
    operated_pass op (part.Tree a) b h k = tt

    joined_in : (op : Infix) (a b : Reading) → Good a → Good b → Good (infix_reading op a b)
    joined_in op a b h k =
        either (operated_parts op a.part b.part) (below_of op a b) (term.Infix op (tree_of a.part) (tree_of b.part)) (joined a.faults b.faults)
        (λ fine. operated_pass op a.part b.part (h.tree (fine_first a.faults b.faults fine)) (k.tree (fine_second a.faults b.faults fine)))
        (λ fine. at-Infix (term_sound m) op (tree_of a.part) (tree_of b.part) ∙ and_true _ _ (h.tree (fine_first a.faults b.faults fine))
        (k.tree (fine_second a.faults b.faults fine)))

    shifted_left : (by : Option ℕ) (a : Reading) → Good a → Good (shift_left_reading by a)
    shifted_left None a h = refused (record a.faults { wide = true })
    shifted_left (Some by) a h =
        treed a.depth (term.ShiftLeft (tree_of a.part) by) a.faults (λ fine. at-ShiftLeft (term_sound m) (tree_of a.part) by ∙ h.tree fine)

    shifted_right : (by : Option ℕ) (a : Reading) → Good a → Good (shift_right_reading by a)
    shifted_right None a h = refused (record a.faults { wide = true })
    shifted_right (Some by) a h =
        treed a.depth (term.ShiftRight (tree_of a.part) by) a.faults (λ fine. at-ShiftRight (term_sound m) (tree_of a.part) by ∙ h.tree fine)

    converted : (kind : Kind) (a : Reading) → Good a → Good (cast_reading kind a)
    converted kind a h = treed a.depth (term.Cast kind (tree_of a.part)) a.faults (λ fine. at-Cast (term_sound m) kind (tree_of a.part) ∙ h.tree fine)

    chosen : (a b c : Reading) → Good a → Good b → Good c → Good (choose_reading a b c)
    chosen a b c h k l =
        treed (max a.depth (max b.depth c.depth)) (term.Choose (tree_of a.part) (tree_of b.part) (tree_of c.part)) (joined a.faults (joined b.faults c.faults))
        (λ fine. let later = fine_second a.faults (joined b.faults c.faults) fine in
        at-Choose (term_sound m) (tree_of a.part) (tree_of b.part) (tree_of c.part)
        ∙ and_true _ _ (h.tree (fine_first a.faults (joined b.faults c.faults) fine))
        (and_true _ _ (k.tree (fine_first b.faults c.faults later)) (l.tree (fine_second b.faults c.faults later))))

    -- ---- reductions

    abbrev AreInames : List ℕ → ℕ → Type 0
    AreInames inames n = (list_all m.iname inames ≡ true) × (length inames ≡ n)

    iname_case : (r : Role) (name : List ℕ) (more : List ℕ) (later : Option (List ℕ)) (n : ℕ) → roles name ≡ r → option_or (unless_iname r name) later ≡ None
        → (later ≡ None → AreInames more n) → AreInames (iname_in r ++ more) (n + 1)
    iname_case (role.Iname v) name more later n e none h =
        let rest = h none in (and_true (m.iname v) (list_all m.iname more) (fits.iname name v e) rest.0, (let long = rest.1 in omega (arith, long)))
    iname_case (role.Parameter v) name more later n e none h = absurd (let f : Some name ≡ None = none in cc)
    iname_case (role.Cell cell places) name more later n e none h = absurd (let f : Some name ≡ None = none in cc)
    iname_case (role.Rule r) name more later n e none h = absurd (let f : Some name ≡ None = none in cc)
    iname_case role.Unknown name more later n e none h = absurd (let f : Some name ≡ None = none in cc)

    all_inames : (names : List (List ℕ)) → no_iname_in roles names ≡ None → AreInames (inames_in roles names) (length names)
    all_inames [] none = (refl, refl)
    all_inames (name ∷ names) none =
        let all = iname_case (roles name) name (inames_in roles names) (no_iname_in roles names) (length names) refl none (all_inames names) in
        (all.0, (let long = all.1 in omega (arith, long)))

    folded : (how : Folding) (inames : List ℕ) (unknown : Option (List ℕ)) (a : Reading)
        → (unknown ≡ None → (nat_lt 0 (length inames) ≡ true) × (list_all m.iname inames ≡ true)) → Good a → Good (fold_reading how inames unknown a)
    folded how inames unknown a known h =
        treed a.depth (term.Fold how inames (tree_of a.part)) (record a.faults { unknown = option_or unknown a.faults.unknown })
        (λ fine. let parts = known (none_first unknown a.faults.unknown fine.unknown) in
        at-Fold (term_sound m) how inames (tree_of a.part)
        ∙ and_true (nat_lt 0 (length inames)) (list_all m.iname inames && sound m (tree_of a.part)) parts.0
        (and_true (list_all m.iname inames) (sound m (tree_of a.part)) parts.1
        (h.tree (without_unknown unknown a.faults fine))))

    extreme : (r : Role) (which : Extreme) (name : List ℕ) (b : Reading) → roles name ≡ r → Good b → Good (extreme_reading r which name b)
    extreme (role.Iname v) which name b e h =
        folded (folding.Extreme which) (v ∷ []) None b (λ none. (refl, and_true (m.iname v) true (fits.iname name v e) refl)) h
    extreme (role.Parameter v) which name b e h = joined_in (infixed.Extreme which) (name_reading (role.Parameter v) name) b (named (role.Parameter v) name e) h
    extreme (role.Cell cell places) which name b e h =
        joined_in (infixed.Extreme which) (name_reading (role.Cell cell places) name) b (named (role.Cell cell places) name e) h
    extreme (role.Rule r) which name b e h = joined_in (infixed.Extreme which) (name_reading (role.Rule r) name) b (named (role.Rule r) name e) h
    extreme role.Unknown which name b e h = joined_in (infixed.Extreme which) (name_reading role.Unknown name) b (named role.Unknown name e) h

    -- ---- steps

    abbrev AllGood : List Reading → Type 0
    AllGood rs = AllByRecursion Good rs

    top_good : (rs : List Reading) → AllGood rs → Good (top rs)
    top_good rs h = at_or Good rs (length rs - 1) (refused_reading no_faults) h (refused no_faults)

    under_good : (rs : List Reading) → AllGood rs → AllGood (under rs)
    under_good rs h = front Good (length rs - 1) rs h

    -- behind a step there are as many parts as are said
    step_length : (s : Step) (rs : List Reading) → operands s ≤ length rs → length (step_read roles s rs) ≡ length rs - operands s + 1
    step_length (step.Number n) rs le = omega (arith, length-append rs (number_reading n ∷ []))
    step_length (step.Name name) rs le = omega (arith, length-append rs (name_reading (roles name) name ∷ []))
    step_length (step.Index name places) rs le = ended (length rs - places) rs _ (omega arith)
    step_length (step.Call name places) rs le = ended (length rs - places) rs _ (omega arith)
    step_length (step.Prefix p) rs le = ended (length rs - 1) rs _ (omega arith)
    step_length (step.Infix op) rs le = ended (length (under rs) - 1) (under rs) _ (omega arith) ∙ (let e = one_less rs in omega (arith, e))
    step_length (step.ShiftLeft by) rs le = ended (length rs - 1) rs _ (omega arith)
    step_length (step.ShiftRight by) rs le = ended (length rs - 1) rs _ (omega arith)
    step_length (step.Cast kind) rs le = ended (length rs - 1) rs _ (omega arith)
    step_length step.Choose rs le =
        ended (length (under (under rs)) - 1) (under (under rs)) _ (omega arith) ∙ (let e = one_less rs in let f = one_less (under rs) in omega (arith, e, f))
    step_length (step.Fold how names) rs le = ended (length rs - 1) rs _ (omega arith)
    step_length (step.ExtremeOf which name) rs le = ended (length rs - 1) rs _ (omega arith)

    step_good : (s : Step) (rs : List Reading) → has_names s ≡ true → operands s ≤ length rs → AllGood rs → AllGood (step_read roles s rs)
    step_good (step.Number n) rs some le h = one_more Good rs (number_reading n) h (numbered n)
    step_good (step.Name name) rs some le h = one_more Good rs (name_reading (roles name) name) h (named (roles name) name refl)
    step_good (step.Index name places) rs some le h =
        one_more Good (before_last places rs) (place_reading (roles name) name places (last_parts places rs)) (front Good (length rs - places) rs h)
        (placed (roles name) name places (last_parts places rs) refl (omega (arith, length-drop (length rs - places) rs, le))
        (back Good (length rs - places) rs h))
    step_good (step.Call name places) rs some le h =
        one_more Good (before_last places rs) (use_reading (roles name) name (last_parts places rs)) (front Good (length rs - places) rs h)
        (used (roles name) name (last_parts places rs) refl (back Good (length rs - places) rs h))
    step_good (step.Prefix p) rs some le h = one_more Good (under rs) (prefix_reading p (top rs)) (under_good rs h) (prefixed p (top rs) (top_good rs h))
    step_good (step.Infix op) rs some le h =
        let less = under_good rs h in
        one_more Good (under (under rs)) (infix_reading op (top (under rs)) (top rs)) (under_good (under rs) less)
        (joined_in op (top (under rs)) (top rs) (top_good (under rs) less) (top_good rs h))
    step_good (step.ShiftLeft by) rs some le h =
        one_more Good (under rs) (shift_left_reading by (top rs)) (under_good rs h) (shifted_left by (top rs) (top_good rs h))
    step_good (step.ShiftRight by) rs some le h =
        one_more Good (under rs) (shift_right_reading by (top rs)) (under_good rs h) (shifted_right by (top rs) (top_good rs h))
    step_good (step.Cast kind) rs some le h = one_more Good (under rs) (cast_reading kind (top rs)) (under_good rs h) (converted kind (top rs) (top_good rs h))
    step_good step.Choose rs some le h =
        let two = under_good rs h in
        let three = under_good (under rs) two in
        one_more Good (under (under (under rs))) (choose_reading (top (under (under rs))) (top (under rs)) (top rs)) (under_good (under (under rs)) three)
        (chosen (top (under (under rs))) (top (under rs)) (top rs) (top_good (under (under rs)) three) (top_good (under rs) two) (top_good rs h))
    step_good (step.Fold how names) rs some le h =
        one_more Good (under rs) (fold_reading how (inames_in roles names) (no_iname_in roles names) (top rs)) (under_good rs h)
        (folded how (inames_in roles names) (no_iname_in roles names) (top rs)
        (λ none. let all = all_inames names none in (ap (nat_lt 0) all.1 ∙ some, all.0)) (top_good rs h))
    step_good (step.ExtremeOf which name) rs some le h =
        one_more Good (under rs) (extreme_reading (roles name) which name (top rs)) (under_good rs h)
        (extreme (roles name) which name (top rs) refl (top_good rs h))

    next_case : (b : Bool) (s : Step) (ss : List Step) (rs : List Reading) (n : ℕ) → (has_names s && nat_le (operands s) (length rs)) ≡ b → AllGood rs
        → option_and_then (after_steps ss) (cond b (Some (length rs - operands s + 1)) None) ≡ Some n →
        ((qs : List Reading) → AllGood qs → after_steps ss (length qs) ≡ Some n → AllGood (steps_read roles ss qs))
        → AllGood (steps_read roles ss (step_read roles s rs))
    next_case true s ss rs n holds h e next =
        let parts = both (has_names s) (nat_le (operands s) (length rs)) holds in
        let le = leb-true (operands s) (length rs) parts.1 in
        next (step_read roles s rs) (step_good s rs parts.0 le h) (ap (after_steps ss) (step_length s rs le) ∙ e)
    next_case false s ss rs n holds h e next = absurd (let f : None ≡ Some n = e in cc)

    all_good : (ss : List Step) (rs : List Reading) (n : ℕ) → AllGood rs → after_steps ss (length rs) ≡ Some n → AllGood (steps_read roles ss rs)
    all_good [] rs n h e = h
    all_good (s ∷ ss) rs n h e = next_case (has_names s && nat_le (operands s) (length rs)) s ss rs n refl h e (λ qs g f. all_good ss qs n g f)

    some_left : (o : Option ℕ) → is_one o ≡ true → (n : ℕ) × (o ≡ Some n)
    some_left None h = absurd (true≢false (sym h))
    some_left (Some n) h = (n, refl)

    pub said_sound : (steps : List Step) → is_whole steps ≡ true → IsFine (untyped_of roles steps).faults
        → sound m (tree_of (untyped_of roles steps).part) ≡ true
    said_sound steps whole fine =
        let left = some_left (after_steps steps 0) whole in
        (top_good (steps_read roles steps []) (all_good steps [] left.0 tt left.1)).tree fine

    form_of_part : (p : Part) (f : Quasi) (c : Bool) → p ≡ part.Index f c → sound m (tree_of p) ≡ true → Passing f
    form_of_part p f c e h = index_passes f c (ap (λ (q : Part). sound m (tree_of q)) (sym e) ∙ h)

    -- the form of an index expression
    pub index_sound : (steps : List Step) → is_whole steps ≡ true → IsFine (untyped_of roles steps).faults → (f : Quasi) (c : Bool)
        → (untyped_of roles steps).part ≡ part.Index f c → each_var m.var f ≡ true
    index_sound steps whole fine f c e = form_of_part (untyped_of roles steps).part f c e (said_sound steps whole fine)
