-- Where no fault of kinds is found in a tree, there is none in what is made of it, and what leads both is the same.
use Rattle.std.proofs.Common.{◌≡◌, ◌<◌, ℕ, Bool, true, false, ◌&&◌, cond, nat_lt, Option, Some, None, unwrap_or, arith, refl, sym, ap, ap₂, subst, ◌∙◌}
use Rattle.std.specs.Option.{option_or}
use Rattle.std.proofs.lemmas.Bool.{true≢false, lt-ltb}
use Rattle.wrap_words.specs.declared.kind.Kind.{Kind}
use Rattle.wrap_words.specs.declared.kind.Kind.TheVariants.{I32, I64, U32, U64}
use Rattle.wrap_words.specs.Words.{width_of}
use Rattle.affine_rows.specs.declared.quasi.Quasi.{Quasi}
use Rattle.expr_tree.specs.declared.tree.Cell.{Cell}
use Rattle.expr_tree.specs.declared.tree.Expr.{Expr}
use Rattle.expr_tree.specs.declared.tree.Op.{Op}
use Rattle.expr_tree.specs.declared.tree.Op.TheVariants as op
use Rattle.expr_tree.specs.declared.tree.Rel.{Rel}
use Rattle.expr_tree.specs.declared.tree.Rel.TheVariants as rel
use Rattle.expr_tree.specs.declared.tree.Node.TheVariants as node
use Rattle.expr_tree.specs.declared.tree.Test.{Test}
use Rattle.expr_tree.specs.declared.tree.Test.TheVariants as test
use Rattle.expr_tree.specs.Rewritten.{tree_of}
use Rattle.expr_tree.specs.Value.{same_kind, is_unsigned, first_of_two}
use Rattle.expr_tree.proofs.Layers.{left, right}
use Rattle.kernel_grammar.specs.declared.item.Relation.TheVariants as relation
use Rattle.kernel_grammar.specs.declared.step.Prefix.{Prefix}
use Rattle.kernel_grammar.specs.declared.step.Prefix.TheVariants.{Not, Negate, Invert}
use Rattle.kernel_grammar.specs.declared.step.Extreme.TheVariants.{Min, Max}
use Rattle.kernel_grammar.specs.declared.step.Infix.{Infix}
use Rattle.kernel_grammar.specs.declared.step.Infix.TheVariants as infixed
use Rattle.kind_faults.specs.declared.faults.Mismatch.{Mismatch}
use Rattle.kind_faults.specs.Faults.{Judged, kind_fault, read_fault}
use Rattle.untyped.specs.declared.tree.Term.{map-Term}
use Rattle.untyped.specs.declared.tree.Term.TheOpen.{Term-F}
use Rattle.untyped.specs.declared.tree.Untyped.{Untyped}
use Rattle.untyped.specs.Asked.{Asked, Known, sides, sort_of, infix_first, infix_value, infix_test, prefix_asked, term_asked, asked_of}
use Rattle.untyped.specs.Exprs.{Made, prefix_made, shift_by, folding_op, infix_expr, joint_test, op_of, joint_of, words_test, index_test, compared, term_made, made_of}
use Rattle.expr_tree.proofs.Made.{made-Literal, made-Leaf, made-Read, made-Call, made-Neg, made-Inv, made-Shl, made-Shr, made-Bin, made-Pick, made-Cast, made-Fold, made-Words, made-Index, made-All, made-Any, made-Not}
use Rattle.untyped.proofs.Layers.{Linked, linked}
use Rattle.untyped_parts.specs.Leads.{infix_leads, prefix_leads, term_leads, leading_of}
use Rattle.kind_faults.specs.declared.leads.Leading.{Leading}
use Rattle.kind_faults.specs.Faults.{unless}
use Rattle.type_infer.specs.Judged as judged
use Rattle.type_infer.specs.Judged.{node_judged, test_judged, judged_of, mismatch_of_test}
use Rattle.type_infer.specs.Leads as lead
use Rattle.type_infer.specs.Leads.{node_leads, test_leads}

-- It has no fault either, and what leads it is the same and has that kind.
pub record Fits (x j : Judged) (n l : Option Leading) (k : Kind) : Type 0 where
  pub fault : x.fault k ≡ None
  pub first : x.first ≡ j.first
  pub leads : unwrap_or j.first k ≡ k
  pub lead : n ≡ l

-- The kinds of cells are the same; a use of a rule without fault has none either and leads with the same, and is no test.
pub record Matches (v : judged.Known) (w : Known) (c d : ℕ → Option Leading) : Type 0 where
  pub cells : (cell : Cell) → v.cell cell ≡ w.cell cell
  pub uses : (rule : ℕ) (k : Kind) → (w.call rule).value.fault k ≡ None → Fits (v.call rule) (w.call rule).value (c rule) (d rule) k
  pub tests : (rule : ℕ) (k : Kind) → (w.call rule).test k ≡ None → ⊥

-- ---- where there is no fault

pub none_first : (f g : Option Mismatch) → option_or f g ≡ None → f ≡ None
none_first None g e = refl
none_first (Some m) g e = e

pub none_second : (f g : Option Mismatch) → option_or f g ≡ None → g ≡ None
none_second None g e = e
none_second (Some m) g e = cc

fine_of : (b : Bool) (m : Mismatch) → cond b None (Some m) ≡ None → b ≡ true
fine_of true m e = refl
fine_of false m e = cc

same_of : (a b : Kind) → same_kind a b ≡ true → a ≡ b
same_of I32 I32 e = refl
same_of I64 I64 e = refl
same_of U32 U32 e = refl
same_of U64 U64 e = refl
same_of I32 I64 e = absurd (true≢false (sym e))
same_of I32 U32 e = absurd (true≢false (sym e))
same_of I32 U64 e = absurd (true≢false (sym e))
same_of I64 I32 e = absurd (true≢false (sym e))
same_of I64 U32 e = absurd (true≢false (sym e))
same_of I64 U64 e = absurd (true≢false (sym e))
same_of U32 I32 e = absurd (true≢false (sym e))
same_of U32 I64 e = absurd (true≢false (sym e))
same_of U32 U64 e = absurd (true≢false (sym e))
same_of U64 I32 e = absurd (true≢false (sym e))
same_of U64 I64 e = absurd (true≢false (sym e))
same_of U64 U32 e = absurd (true≢false (sym e))

pub some_fault : (m : Mismatch) → Some m ≡ None → ⊥
some_fault m e = absurd cc

-- behind a part there is a fault
pub behind : (f : Option Mismatch) (m : Mismatch) → option_or f (Some m) ≡ None → ⊥
behind None m e = some_fault m e
behind (Some n) m e = some_fault n e

pub both_none : {X : Type 0} (f g : Option X) → f ≡ None → g ≡ None → option_or f g ≡ None
both_none f g h k = ap₂ option_or h k

read_leads : (o : Option Kind) (k : Kind) → read_fault o k ≡ None → unwrap_or o k ≡ k
read_leads None k e = refl
read_leads (Some found) k e = same_of found k (fine_of (same_kind found k) (record { wanted = k; found = Some found }) e)

leads_both : (o p : Option Kind) (k : Kind) → unwrap_or o k ≡ k → unwrap_or p k ≡ k → unwrap_or (first_of_two o p) k ≡ k
leads_both None p k h e = e
leads_both (Some f) p k h e = h

-- the kind of the sides of a comparison does not depend on their order, where both have it
sides_turned : (o p : Option Kind) (k s : Kind) → s ≡ unwrap_or (first_of_two o p) k → unwrap_or o s ≡ s → unwrap_or p s ≡ s
    → unwrap_or (first_of_two p o) k ≡ s
sides_turned None None k s e h i = sym e
sides_turned None (Some q) k s e h i = i
sides_turned (Some o) None k s e h i = h
sides_turned (Some o) (Some q) k s e h i = i

-- a shift by so many bits is one by as many where they are fewer than a kind has
shift_fits : (by : ℕ) (k : Kind) → nat_lt by (width_of k) ≡ true → nat_lt (shift_by by) (width_of k) ≡ true
shift_fits by k e = (let l : by < width_of k = grind (arith, e) in lt-ltb _ _ (omega (arith, l)))

fits_as : (x y j : Judged) (n p l : Option Leading) (k : Kind) → x ≡ y → n ≡ p → Fits y j p l k → Fits x j n l k
fits_as x y j n p l k e f h = subst (λ z. Fits z j n l k) (sym e) (subst (λ z. Fits y j z l k) (sym f) h)

module _ (v : judged.Known) (w : Known) (c d : ℕ → Option Leading) (same : Matches v w c d) where
  abbrev pub leads : Expr → Option Leading
  leads = lead.leading_of c

  -- what is made, where there is no fault
  pub record Typed (m : Made) (j : Asked) (l : Option Leading) : Type 0 where
    pub value : (k : Kind) → j.value.fault k ≡ None → Fits (judged_of v m.expr) j.value (leads m.expr) l k
    pub test : (k : Kind) → j.test k ≡ None → mismatch_of_test v m.test k ≡ None

  holds_as : (x : Test) (b : Kind → Option Mismatch) (k : Kind) → mismatch_of_test v x ≡ b → b k ≡ None → mismatch_of_test v x k ≡ None
  holds_as x b k e h = ap (λ (f : Kind → Option Mismatch). f k) e ∙ h

  module _ (a b : Made) (i j : Asked) (p q : Option Leading) (h : Typed a i p) (l : Typed b j q) where
    words_has : (o : Op) (u : Judged) (k : Kind) → u.first ≡ first_of_two i.value.first j.value.first → option_or (i.value.fault k) (j.value.fault k) ≡ None
        → Fits (judged_of v (tree_of (node.Bin o a.expr b.expr))) u (leads (tree_of (node.Bin o a.expr b.expr))) (option_or p q) k
    words_has o u k is e =
        let f = h.value k (none_first (i.value.fault k) (j.value.fault k) e) in
        let g = l.value k (none_second (i.value.fault k) (j.value.fault k) e) in
        fits_as _ _ u _ _ (option_or p q) k (made-Bin _ _ (node_judged v) test_judged o a.expr b.expr) (made-Bin _ _ (node_leads c) test_leads o a.expr b.expr)
        (record {
          fault = both_none _ _ f.fault g.fault;
          first = ap₂ first_of_two f.first g.first ∙ sym is;
          leads = ap (λ (x : Option Kind). unwrap_or x k) is ∙ leads_both i.value.first j.value.first k f.leads g.leads;
          lead = ap₂ option_or f.lead g.lead;
        })

    -- two sides of a kind may be compared, in either order
    sides_has : (r : Rel) (turned : Bool) (k s : Kind) → s ≡ sides i j k → Fits (judged_of v a.expr) i.value (leads a.expr) p s
        → Fits (judged_of v b.expr) j.value (leads b.expr) q s
        → mismatch_of_test v (words_test r turned a.expr b.expr) k ≡ None
    sides_has r false k s e f g =
        let side : unwrap_or (first_of_two (judged_of v a.expr).first (judged_of v b.expr).first) k ≡ s =
        ap₂ (λ (x y : Option Kind). unwrap_or (first_of_two x y) k) f.first g.first ∙ sym e in
        holds_as (test.Words r a.expr b.expr) _ k (made-Words _ _ (node_judged v) test_judged r a.expr b.expr)
        (ap (λ (z : Kind). option_or ((judged_of v a.expr).fault z) ((judged_of v b.expr).fault z)) side ∙ both_none _ _ f.fault g.fault)
    sides_has r true k s e f g =
        let side : unwrap_or (first_of_two (judged_of v b.expr).first (judged_of v a.expr).first) k ≡ s =
        ap₂ (λ (x y : Option Kind). unwrap_or (first_of_two x y) k) g.first f.first ∙ sides_turned i.value.first j.value.first k s e f.leads g.leads in
        holds_as (test.Words r b.expr a.expr) _ k (made-Words _ _ (node_judged v) test_judged r b.expr a.expr)
        (ap (λ (z : Kind). option_or ((judged_of v b.expr).fault z) ((judged_of v a.expr).fault z)) side ∙ both_none _ _ g.fault f.fault)

    index_has : (r : Rel) (turned : Bool) (f g : Quasi) (k : Kind) → mismatch_of_test v (index_test r turned f g) k ≡ None
    index_has r true f g k = holds_as (test.Index r g f) _ k (made-Index _ _ (node_judged v) test_judged r g f) refl
    index_has r false f g k = holds_as (test.Index r f g) _ k (made-Index _ _ (node_judged v) test_judged r f g) refl

    either_has : (r : Rel) (turned : Bool) (f g : Option Quasi) (k : Kind) → mismatch_of_test v (words_test r turned a.expr b.expr) k ≡ None
        → mismatch_of_test v (compared r turned f g a.expr b.expr) k ≡ None
    either_has r turned (Some f) (Some g) k e = index_has r turned f g k
    either_has r turned (Some f) None k e = e
    either_has r turned None g k e = e

    compared_has : (r : Rel) (turned : Bool) (k : Kind) → option_or (i.value.fault (sides i j k)) (j.value.fault (sides i j k)) ≡ None
        → mismatch_of_test v (compared r turned a.form b.form a.expr b.expr) k ≡ None
    compared_has r turned k e =
        let s : Kind = sides i j k in
        let f = h.value s (none_first (i.value.fault s) (j.value.fault s) e) in
        let g = l.value s (none_second (i.value.fault s) (j.value.fault s) e) in
        either_has r turned a.form b.form k (sides_has r turned k s refl f g)

    all_has : (k : Kind) → option_or (i.test k) (j.test k) ≡ None → mismatch_of_test v (test.All a.test b.test) k ≡ None
    all_has k e =
        holds_as (test.All a.test b.test) _ k (made-All _ _ (node_judged v) test_judged a.test b.test)
        (both_none _ _ (h.test k (none_first (i.test k) (j.test k) e)) (l.test k (none_second (i.test k) (j.test k) e)))

    any_has : (k : Kind) → option_or (i.test k) (j.test k) ≡ None → mismatch_of_test v (test.Any a.test b.test) k ≡ None
    any_has k e =
        holds_as (test.Any a.test b.test) _ k (made-Any _ _ (node_judged v) test_judged a.test b.test)
        (both_none _ _ (h.test k (none_first (i.test k) (j.test k) e)) (l.test k (none_second (i.test k) (j.test k) e)))

    infix_typed : (o : Infix) → Typed (record { expr = infix_expr (op_of o) a.expr b.expr; test = joint_test (joint_of o) a b; form = None })
        (record { value = record { first = infix_first (sort_of o) i j; fault = infix_value (sort_of o) i j }; test = infix_test (sort_of o) i j })
        (infix_leads o p q)
    infix_typed infixed.Or = record { value = λ k e. absurd (behind (i.test k) _ e); test = any_has }
    infix_typed infixed.And = record { value = λ k e. absurd (behind (i.test k) _ e); test = all_has }
    infix_typed (infixed.Compare relation.LessEqual) =
        record { value = λ k e. absurd (behind (i.value.fault (sides i j k)) _ e); test = compared_has rel.LessEqual false }
    infix_typed (infixed.Compare relation.Less) =
        record { value = λ k e. absurd (behind (i.value.fault (sides i j k)) _ e); test = compared_has rel.Less false }
    infix_typed (infixed.Compare relation.GreaterEqual) =
        record { value = λ k e. absurd (behind (i.value.fault (sides i j k)) _ e); test = compared_has rel.LessEqual true }
    infix_typed (infixed.Compare relation.Greater) =
        record { value = λ k e. absurd (behind (i.value.fault (sides i j k)) _ e); test = compared_has rel.Less true }
    infix_typed (infixed.Compare relation.Equal) =
        record { value = λ k e. absurd (behind (i.value.fault (sides i j k)) _ e); test = compared_has rel.Equal false }
    infix_typed infixed.NotEqual = record { value = λ k e. absurd (behind (i.value.fault (sides i j k)) _ e); test = compared_has rel.NotEqual false }
    infix_typed infixed.Divide = record { value = λ k e. absurd (behind (i.value.fault k) _ e); test = λ k e. absurd (behind (i.value.fault k) _ e) }
    infix_typed infixed.Remainder = record { value = λ k e. absurd (behind (i.value.fault k) _ e); test = λ k e. absurd (behind (i.value.fault k) _ e) }
    infix_typed infixed.Add = record { value = λ k e. words_has op.Add _ k refl e; test = λ k e. absurd (behind (i.value.fault k) _ e) }
    infix_typed infixed.Subtract = record { value = λ k e. words_has op.Sub _ k refl e; test = λ k e. absurd (behind (i.value.fault k) _ e) }
    infix_typed infixed.Multiply = record { value = λ k e. words_has op.Mul _ k refl e; test = λ k e. absurd (behind (i.value.fault k) _ e) }
    infix_typed infixed.BitOr = record { value = λ k e. words_has op.Or _ k refl e; test = λ k e. absurd (behind (i.value.fault k) _ e) }
    infix_typed infixed.BitXor = record { value = λ k e. words_has op.Xor _ k refl e; test = λ k e. absurd (behind (i.value.fault k) _ e) }
    infix_typed infixed.BitAnd = record { value = λ k e. words_has op.And _ k refl e; test = λ k e. absurd (behind (i.value.fault k) _ e) }
    infix_typed (infixed.Extreme Min) = record { value = λ k e. words_has op.Min _ k refl e; test = λ k e. absurd (some_fault _ e) }
    infix_typed (infixed.Extreme Max) = record { value = λ k e. words_has op.Max _ k refl e; test = λ k e. absurd (some_fault _ e) }

  prefix_typed : (o : Prefix) (a : Made) (i : Asked) (l : Option Leading) → Typed a i l → Typed (prefix_made o a) (prefix_asked o i) (prefix_leads o l)
  prefix_typed Not a i l h = record {
    value = λ k e. absurd (some_fault _ e);
    test = λ k e. holds_as (test.Not a.test) _ k (made-Not _ _ (node_judged v) test_judged a.test) (h.test k e);
  }
  prefix_typed Negate a i l h = record {
    value = λ k e. fits_as _ _ i.value _ _ l k (made-Neg _ _ (node_judged v) test_judged a.expr) (made-Neg _ _ (node_leads c) test_leads a.expr) (h.value k e);
    test = λ k e. absurd (some_fault _ e);
  }
  prefix_typed Invert a i l h = record {
    value = λ k e. fits_as _ _ i.value _ _ l k (made-Inv _ _ (node_judged v) test_judged a.expr) (made-Inv _ _ (node_leads c) test_leads a.expr) (h.value k e);
    test = λ k e. absurd (some_fault _ e);
  }

  abbrev Part : Type 0
  Part = Linked term_made (term_asked w) (term_leads d) Typed

  sound_step : (y : Term-F Part Part) → Typed (term_made (map-Term _ _ _ _ (λ p. p.a) (λ p. p.a) y)) (term_asked w (map-Term _ _ _ _ (λ p. p.b) (λ p. p.b) y))
      (term_leads d (map-Term _ _ _ _ (λ p. p.c) (λ p. p.c) y))
  sound_step (Term-F.Index form constant) = record {
    value = λ k e. fits_as _ _ _ _ _ _ k (made-Leaf _ _ (node_judged v) test_judged form) (made-Leaf _ _ (node_leads c) test_leads form)
        (record { fault = refl; first = refl; leads = refl; lead = refl });
    test = λ k e. absurd (some_fault _ e);
  }
  sound_step (Term-F.Literal n) = record {
    value = λ k e. fits_as _ _ _ _ _ _ k (made-Literal _ _ (node_judged v) test_judged n) (made-Literal _ _ (node_leads c) test_leads n)
        (record { fault = e; first = refl; leads = refl; lead = refl });
    test = λ k e. absurd (some_fault _ e);
  }
  sound_step (Term-F.Read cell place) = record {
    value = λ k e. fits_as _ _ _ _ _ _ k (made-Read _ _ (node_judged v) test_judged cell place) (made-Read _ _ (node_leads c) test_leads cell place)
        (record {
          fault = ap (λ (o : Option Kind). read_fault o k) (same.cells cell) ∙ e;
          first = same.cells cell;
          leads = read_leads (w.cell cell) k e;
          lead = refl;
        });
    test = λ k e. absurd (some_fault _ e);
  }
  sound_step (Term-F.Use rule arguments) = record {
    value = λ k e. fits_as _ _ _ _ _ _ k (made-Call _ _ (node_judged v) test_judged rule arguments) (made-Call _ _ (node_leads c) test_leads rule arguments)
        (same.uses rule k e);
    test = λ k e. absurd (same.tests rule k e);
  }
  sound_step (Term-F.Prefix o p) = prefix_typed o p.a p.b p.c p.is
  sound_step (Term-F.Infix o p q) = infix_typed p.a q.a p.b q.b p.c q.c p.is q.is o
  sound_step (Term-F.ShiftLeft p by) = record {
    value = λ k e.
        let f = p.is.value k (none_first (p.b.value.fault k) _ e) in
        let fits = fine_of (nat_lt by (width_of k)) _ (none_second (p.b.value.fault k) _ e) in
        fits_as _ _ _ _ _ _ k (made-Shl _ _ (node_judged v) test_judged p.a.expr (shift_by by)) (made-Shl _ _ (node_leads c) test_leads p.a.expr (shift_by by))
        (record { fault = both_none _ _ f.fault (ap (λ (b : Bool). unless b k) (shift_fits by k fits)); first = f.first; leads = f.leads; lead = f.lead });
    test = λ k e. absurd (behind (p.b.value.fault k) _ e);
  }
  sound_step (Term-F.ShiftRight p by) = record {
    value = λ k e.
        let f = p.is.value k (none_first (p.b.value.fault k) _ e) in
        let fits = fine_of (is_unsigned k && nat_lt by (width_of k)) _ (none_second (p.b.value.fault k) _ e) in
        fits_as _ _ _ _ _ _ k (made-Shr _ _ (node_judged v) test_judged p.a.expr (shift_by by)) (made-Shr _ _ (node_leads c) test_leads p.a.expr (shift_by by))
        (record {
          fault = both_none _ _ f.fault (ap₂ (λ (b b' : Bool). unless (b && b') k) (left (is_unsigned k) (nat_lt by (width_of k)) fits)
              (shift_fits by k (right (is_unsigned k) (nat_lt by (width_of k)) fits)));
          first = f.first;
          leads = f.leads;
          lead = f.lead;
        });
    test = λ k e. absurd (behind (p.b.value.fault k) _ e);
  }
  sound_step (Term-F.Cast to p) = record {
    value = λ k e.
        let from : Kind = unwrap_or p.b.value.first to in
        let f = p.is.value from (none_second (kind_fault to k) (p.b.value.fault from) e) in
        let right_kind = none_first (kind_fault to k) (p.b.value.fault from) e in
        fits_as _ _ _ _ _ _ k (made-Cast _ _ (node_judged v) test_judged to p.a.expr) (made-Cast _ _ (node_leads c) test_leads to p.a.expr)
        (record {
          fault = both_none _ _ right_kind (ap (λ (o : Option Kind). (judged_of v p.a.expr).fault (unwrap_or o to)) f.first ∙ f.fault);
          first = refl;
          leads = same_of to k (fine_of (same_kind to k) _ right_kind);
          lead = refl;
        });
    test = λ k e. absurd (some_fault _ e);
  }
  sound_step (Term-F.Choose t p q) = record {
    value = λ k e.
        let later = none_second (t.b.test k) (option_or (p.b.value.fault k) (q.b.value.fault k)) e in
        let truth = t.is.test k (none_first (t.b.test k) (option_or (p.b.value.fault k) (q.b.value.fault k)) e) in
        let f = p.is.value k (none_first (p.b.value.fault k) (q.b.value.fault k) later) in
        let g = q.is.value k (none_second (p.b.value.fault k) (q.b.value.fault k) later) in
        fits_as _ _ _ _ _ _ k (made-Pick _ _ (node_judged v) test_judged t.a.test p.a.expr q.a.expr)
        (made-Pick _ _ (node_leads c) test_leads t.a.test p.a.expr q.a.expr)
        (record {
          fault = both_none _ _ truth (both_none _ _ f.fault g.fault);
          first = ap₂ first_of_two f.first g.first;
          leads = leads_both p.b.value.first q.b.value.first k f.leads g.leads;
          lead = ap₂ option_or f.lead g.lead;
        });
    test = λ k e. absurd (some_fault _ e);
  }
  sound_step (Term-F.Fold how inames p) = record {
    value = λ k e. fits_as _ _ p.b.value _ _ p.c k (made-Fold _ _ (node_judged v) test_judged (folding_op how) inames p.a.expr)
        (made-Fold _ _ (node_leads c) test_leads (folding_op how) inames p.a.expr) (p.is.value k e);
    test = λ k e. absurd (some_fault _ e);
  }

  pub sound : (e : Untyped) → Typed (made_of e) (asked_of w e) (leading_of d e)
  sound = linked term_made (term_asked w) (term_leads d) Typed sound_step
