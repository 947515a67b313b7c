-- The rows of a predicate and what is left of it.
use Rattle.std.proofs.Common.{◌≡◌, ℕ, Bool, true, ◌&&◌, List, [], ◌++◌, Option, Some, None, refl, sym, ap, ap₂, subst, ◌∙◌, append-nil}
use Rattle.std.specs.List.{list_all}
use Rattle.std.proofs.lemmas.Bool.{and_from, and_parts}
use Rattle.std.proofs.lemmas.List.Folds.{list_all-append}
use Rattle.affine_rows.specs.declared.quasi.Quasi.{Quasi}
use Rattle.expr_tree.specs.declared.row.QuasiRow.{QuasiRow}
use Rattle.expr_tree.specs.Scenes.{is_among, each_var}
use Rattle.kernel_grammar.specs.declared.item.Relation.{Relation}
use Rattle.kernel_grammar.specs.declared.step.Prefix.{Prefix}
use Rattle.kernel_grammar.specs.declared.step.Prefix.TheVariants.{Not, Negate, Invert}
use Rattle.kernel_grammar.specs.declared.step.Infix.{Infix}
use Rattle.kernel_grammar.specs.declared.step.Infix.TheVariants as infixed
use Rattle.untyped.specs.declared.tree.Term.{map-Term}
use Rattle.untyped.specs.declared.tree.Term.TheOpen.{Term-F}
use Rattle.untyped.specs.declared.tree.Term.TheVariants as term
use Rattle.untyped.specs.declared.tree.Untyped.{Untyped}
use Rattle.untyped.specs.Exprs.{Made, prefix_made, term_made, made_of, form_of}
use Rattle.untyped.proofs.Layers.{Linked, linked, at-Index, at-Literal, at-Read, at-Use, at-Prefix, at-Infix, at-ShiftLeft, at-ShiftRight, at-Cast, at-Choose, at-Fold}
use Rattle.untyped_parts.specs.declared.conjuncts.Split.{Split}
use Rattle.untyped_parts.specs.Mentions.{term_listed, vars_in, mentions, bound}
use Rattle.untyped_parts.specs.Rows.{row_of}
use Rattle.untyped_parts.specs.Conjuncts.{Parted, link_of, link_split, whole, both, joined, compared, parted, term_parted, parted_of}
use Rattle.kernel_formed.specs.Sound.{Meant, term_sound, sound}
use Rattle.kernel_formed.specs.ExpressionLaws.{IsRest, PredicatesSplit}
use Rattle.kernel_formed.proofs.FormSums.{vars_test, row_passes}
use Rattle.kernel_formed.proofs.BoundNames.{binding}
use Rattle.kernel_formed.proofs.AllowedTrees.{mentioning}
use Rattle.kernel_formed.proofs.TreeCases.{each}

-- ---- index expressions

-- an index expression binds nothing and mentions the variables of its form
abbrev IsIndex : Made → List ℕ → List ℕ → Type 0
IsIndex a names vars = (f : Quasi) → a.form ≡ Some f → (names ≡ []) × (vars ≡ vars_in f)

abbrev Part : Type 0
Part = Linked term_made (term_listed binding) (term_listed mentioning) IsIndex

no_form : (names vars : List ℕ) (f : Quasi) → None ≡ Some f → (names ≡ []) × (vars ≡ vars_in f)
no_form names vars f e = absurd cc

prefix_index : (o : Prefix) (a : Made) (names vars : List ℕ) → IsIndex (prefix_made o a) names vars
prefix_index Not a names vars f e = no_form names vars f e
prefix_index Negate a names vars f e = no_form names vars f e
prefix_index Invert a names vars f e = no_form names vars f e

index_step : (y : Term-F Part Part)
    → IsIndex (term_made (map-Term _ _ _ _ (λ p. p.a) (λ p. p.a) y)) (term_listed binding (map-Term _ _ _ _ (λ p. p.b) (λ p. p.b) y))
    (term_listed mentioning (map-Term _ _ _ _ (λ p. p.c) (λ p. p.c) y))
index_step (Term-F.Index form constant) f e = (refl, (let same : form ≡ f = cc in ap vars_in same))
index_step (Term-F.Prefix o p) f e = prefix_index o p.a p.b p.c f e
index_step _ f e = no_form _ _ f e

index_parts : (e : Untyped) → IsIndex (made_of e) (bound e) (mentions e)
index_parts = linked term_made (term_listed binding) (term_listed mentioning) IsIndex index_step

-- ---- predicates

module _ (m : Meant) where
  -- what is left of a predicate
  record IsLeft (e r : Untyped) : Type 0 where
    sound : sound m e ≡ true → sound m r ≡ true
    mentions : (test : ℕ → Bool) → list_all test (mentions e) ≡ true → list_all test (mentions r) ≡ true
    bound : bound r ≡ bound e

  record Splits (e : Untyped) (s : Split) : Type 0 where
    rows : (test : ℕ → Bool) → list_all test (mentions e) ≡ true → list_all (λ (r : QuasiRow). each_var test r.form) s.rows ≡ true
    rest : (r : Untyped) → s.rest ≡ Some r → IsLeft e r
    none : s.rest ≡ None → bound e ≡ []

  record Kept (e : Untyped) : Type 0 where
    tree : (parted_of e).tree ≡ e
    split : Splits e (parted_of e).split

  left_whole : (e : Untyped) → IsLeft e e
  left_whole e = record { sound = λ h. h; mentions = λ test h. h; bound = refl }

  whole_splits : (e : Untyped) → Splits e (whole e)
  whole_splits e = record {
    rows = λ test h. refl;
    rest = λ r is. (let same : e ≡ r = cc in subst (IsLeft e) same (left_whole e));
    none = λ is. absurd cc;
  }

  whole_kept : (e made : Untyped) → parted_of e ≡ parted made → made ≡ e → Kept e
  whole_kept e made is same = record {
    tree = ap (λ (p : Parted). p.tree) is ∙ same;
    split = subst (Splits e) (sym (ap (λ (p : Parted). p.split) is ∙ ap whole same)) (whole_splits e);
  }

  module _ (a b : Untyped) (op : Infix) where
    abbrev e : Untyped
    e = record { term = term.Infix op a b }

    mentioned : (test : ℕ → Bool) → list_all test (mentions e) ≡ true → (list_all test (mentions a) ≡ true) × (list_all test (mentions b) ≡ true)
    mentioned test h =
        and_parts _ _ (sym (list_all-append test (mentions a) (mentions b)) ∙ (ap (list_all test) (sym (at-Infix (term_listed mentioning) op a b)) ∙ h))

    bound-is : bound e ≡ bound a ++ bound b
    bound-is = at-Infix (term_listed binding) op a b

    sound-is : sound m e ≡ (sound m a && sound m b)
    sound-is = at-Infix (term_sound m) op a b

    compared_splits : (r : Relation) (f g : Option Quasi) → form_of a ≡ f → form_of b ≡ g → Splits e (compared r f g e)
    compared_splits r (Some f) (Some g) i j =
        let first = index_parts a f i in
        let second = index_parts b g j in
        record {
          rows = λ test h.
              let parts = mentioned test h in
              let left = vars_test test f ∙ (ap (list_all test) (sym first.1) ∙ parts.0) in
              let right = vars_test test g ∙ (ap (list_all test) (sym second.1) ∙ parts.1) in
              and_from (each_var test (row_of r f g).row.form) true (row_passes test r f g left right) refl;
          rest = λ x is. absurd cc;
          none = λ is. bound-is ∙ ap₂ (λ (xs ys : List ℕ). xs ++ ys) first.0 second.0;
        }
    compared_splits r (Some f) None i j = whole_splits e
    compared_splits r None g i j = whole_splits e

  -- both of two conjuncts
  module _ (a b : Untyped) (s t : Split) (h : Splits a s) (k : Splits b t) where
    abbrev conjunction : Untyped
    conjunction = record { term = term.Infix infixed.And a b }

    left_of_both : (o p : Option Untyped) (r : Untyped) → s.rest ≡ o → t.rest ≡ p → both o p ≡ Some r → IsLeft conjunction r
    left_of_both None (Some y) r i j is =
        let same : y ≡ r = cc in
        let right = k.rest y j in
        subst (IsLeft conjunction) same (record {
          sound = λ all. right.sound (and_parts (sound m a) (sound m b) (sym (sound-is a b infixed.And) ∙ all)).1;
          mentions = λ test all. right.mentions test (mentioned a b infixed.And test all).1;
          bound = right.bound ∙ sym (bound-is a b infixed.And ∙ ap (λ (xs : List ℕ). xs ++ bound b) (h.none i));
        })
    left_of_both (Some x) None r i j is =
        let same : x ≡ r = cc in
        let left = h.rest x i in
        subst (IsLeft conjunction) same (record {
          sound = λ all. left.sound (and_parts (sound m a) (sound m b) (sym (sound-is a b infixed.And) ∙ all)).0;
          mentions = λ test all. left.mentions test (mentioned a b infixed.And test all).0;
          bound = left.bound ∙ sym (bound-is a b infixed.And ∙ (ap (λ (xs : List ℕ). bound a ++ xs) (k.none j) ∙ append-nil (bound a)));
        })
    left_of_both (Some x) (Some y) r i j is =
        let same : record { term = term.Infix infixed.And x y } ≡ r = cc in
        let left = h.rest x i in
        let right = k.rest y j in
        subst (IsLeft conjunction) same (record {
          sound = λ all.
              let parts = and_parts (sound m a) (sound m b) (sym (sound-is a b infixed.And) ∙ all) in
              sound-is x y infixed.And ∙ and_from (sound m x) (sound m y) (left.sound parts.0) (right.sound parts.1);
          mentions = λ test all.
              let parts = mentioned a b infixed.And test all in
              ap (list_all test) (at-Infix (term_listed mentioning) infixed.And x y)
              ∙ (list_all-append test (mentions x) (mentions y) ∙ and_from (list_all test (mentions x)) (list_all test (mentions y))
              (left.mentions test parts.0) (right.mentions test parts.1));
          bound = bound-is x y infixed.And ∙ (ap₂ (λ (xs ys : List ℕ). xs ++ ys) left.bound right.bound ∙ sym (bound-is a b infixed.And));
        })
    left_of_both None None r i j is = absurd cc

    none_of_both : (o p : Option Untyped) → s.rest ≡ o → t.rest ≡ p → both o p ≡ None → bound conjunction ≡ []
    none_of_both None None i j is = bound-is a b infixed.And ∙ ap₂ (λ (xs ys : List ℕ). xs ++ ys) (h.none i) (k.none j)
    none_of_both None (Some y) i j is = absurd cc
    none_of_both (Some x) None i j is = absurd cc
    none_of_both (Some x) (Some y) i j is = absurd cc

    joined_splits : Splits conjunction (joined s t)
    joined_splits = record {
      rows = λ test all.
          let parts = mentioned a b infixed.And test all in
          list_all-append (λ (r : QuasiRow). each_var test r.form) s.rows t.rows ∙ and_from _ _ (h.rows test parts.0) (k.rows test parts.1);
      rest = λ r is. left_of_both s.rest t.rest r refl refl is;
      none = λ is. none_of_both s.rest t.rest refl refl is;
    }

  infix_splits : (op : Infix) (a b : Untyped) (p q : Parted) → p.tree ≡ a → q.tree ≡ b → Splits a p.split → Splits b q.split
      → Splits (record { term = term.Infix op a b }) (link_split (link_of op) p q (record { term = term.Infix op a b }))
  infix_splits infixed.And a b p q i j h k = joined_splits a b p.split q.split h k
  infix_splits (infixed.Compare r) a b p q i j h k =
      compared_splits a b (infixed.Compare r) r (form_of p.tree) (form_of q.tree) (ap form_of (sym i)) (ap form_of (sym j))
  infix_splits op a b p q i j h k = whole_splits (record { term = term.Infix op a b })

  between_kept : (op : Infix) (a b : Untyped) → Kept a → Kept b → Kept (record { term = term.Infix op a b })
  between_kept op a b h k =
      let e : Untyped = record { term = term.Infix op a b } in
      let same : record { term = term.Infix op (parted_of a).tree (parted_of b).tree } ≡ e =
      ap₂ (λ (x y : Untyped). let z : Untyped = record { term = term.Infix op x y } in z) h.tree k.tree in
      record {
        tree = ap (λ (p : Parted). p.tree) (at-Infix term_parted op a b) ∙ same;
        split =
            subst (Splits e) (sym (ap (λ (p : Parted). p.split) (at-Infix term_parted op a b) ∙ ap (link_split (link_of op) (parted_of a) (parted_of b)) same))
            (infix_splits op a b (parted_of a) (parted_of b) h.tree k.tree h.split k.split);
      }

  kept : (e : Untyped) → Kept e
  kept = each Kept (record {
    index = λ q c. whole_kept _ (record { term = term.Index q c }) (at-Index term_parted q c) refl;
    literal = λ n. whole_kept _ (record { term = term.Literal n }) (at-Literal term_parted n) refl;
    read = λ cell place. whole_kept _ (record { term = term.Read cell place }) (at-Read term_parted cell place) refl;
    uses = λ rule arguments. whole_kept _ (record { term = term.Use rule arguments }) (at-Use term_parted rule arguments) refl;
    before =
        λ op a h. whole_kept _ (record { term = term.Prefix op (parted_of a).tree }) (at-Prefix term_parted op a)
        (ap (λ (x : Untyped). let y : Untyped = record { term = term.Prefix op x } in y) h.tree);
    between = between_kept;
    shift_left =
        λ a by h. whole_kept _ (record { term = term.ShiftLeft (parted_of a).tree by }) (at-ShiftLeft term_parted a by)
        (ap (λ (x : Untyped). let y : Untyped = record { term = term.ShiftLeft x by } in y) h.tree);
    shift_right =
        λ a by h. whole_kept _ (record { term = term.ShiftRight (parted_of a).tree by }) (at-ShiftRight term_parted a by)
        (ap (λ (x : Untyped). let y : Untyped = record { term = term.ShiftRight x by } in y) h.tree);
    cast =
        λ kind a h. whole_kept _ (record { term = term.Cast kind (parted_of a).tree }) (at-Cast term_parted kind a)
        (ap (λ (x : Untyped). let y : Untyped = record { term = term.Cast kind x } in y) h.tree);
    choose = λ t a b g h k. whole_kept _ (record { term = term.Choose (parted_of t).tree (parted_of a).tree (parted_of b).tree }) (at-Choose term_parted t a b)
        (ap (λ (x : Untyped). let y : Untyped = record { term = term.Choose x (parted_of a).tree (parted_of b).tree } in y) g.tree
        ∙ ap₂ (λ (x z : Untyped). let y : Untyped = record { term = term.Choose t x z } in y) h.tree k.tree);
    fold =
        λ how inames a h. whole_kept _ (record { term = term.Fold how inames (parted_of a).tree }) (at-Fold term_parted how inames a)
        (ap (λ (x : Untyped). let y : Untyped = record { term = term.Fold how inames x } in y) h.tree);
  })

  rest_of : (e r : Untyped) → sound m e ≡ true → IsLeft e r → IsRest m e r
  rest_of e r h left = record { sound = left.sound h; mentions = left.mentions; bound = left.bound }

pub split : PredicatesSplit
split m scope e h only =
    let all = (kept m e).split in
    record { rows = all.rows (is_among scope) only; rest = λ r is. rest_of m e r h (all.rest r is); none = all.none }
