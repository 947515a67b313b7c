-- What is made of an expression depends only on what is made of the rules that it uses.
use Rattle.std.proofs.Common.{◌≡◌, ℕ, true, List, ◌++◌, Option, refl, sym, ap, ap₂, subst, ◌∙◌}
use Rattle.std.proofs.lemmas.List.{map-append}
use Rattle.expr_tree.specs.Scenes.{is_among}
use Rattle.expr_tree.specs.declared.tree.Cell.{Cell}
use Rattle.wrap_words.specs.declared.kind.Kind.{Kind}
use Rattle.kind_faults.specs.declared.leads.Leading.{Leading}
use Rattle.type_infer.proofs.Walks.{among_left, among_right, among_one}
use Rattle.untyped.specs.Asked.{Asked, term_asked, asked_of}
use Rattle.untyped.specs.declared.tree.Term.{map-Term}
use Rattle.untyped.specs.declared.tree.Term.TheOpen.{Term-F}
use Rattle.untyped.specs.declared.tree.Untyped.{Untyped}
use Rattle.untyped.proofs.Layers.{Linked, linked, of_tree}
use Rattle.untyped_parts.specs.Leads.{term_leads, leading_of}
use Rattle.kernel_kinds.specs.Asked.{known_with}
use Rattle.kernel_kinds.specs.Calls.{calls, rules_in, term_calls}

-- what is to be shown of a term's own use of a rule
abbrev Own : {A : Type 0} → (ℕ → Type 0) → Term-F A A → Type 0
Own same (Term-F.Use rule arguments) = same rule
Own same _ = Unit {0}

module _ {A : Type 0} (same : ℕ → Type 0) (f g : Term-F A A → A) (own : (n : Term-F A A) → Own same n → f n ≡ g n) where
  -- each rule that is listed is the same
  abbrev Good : List (ℕ × ℕ) → Type 0
  Good cs = (u : ℕ) → is_among (rules_in cs) u ≡ true → same u

  good_left : (cs ds : List (ℕ × ℕ)) → Good (cs ++ ds) → Good cs
  good_left cs ds h u e = h u (subst (λ z. is_among z u ≡ true) (sym (map-append (λ (c : ℕ × ℕ). c.0) cs ds)) (among_left (rules_in cs) (rules_in ds) u e))

  good_right : (cs ds : List (ℕ × ℕ)) → Good (cs ++ ds) → Good ds
  good_right cs ds h u e = h u (subst (λ z. is_among z u ≡ true) (sym (map-append (λ (c : ℕ × ℕ). c.0) cs ds)) (among_right (rules_in cs) (rules_in ds) u e))

  abbrev Same : A → A → List (ℕ × ℕ) → Type 0
  Same a b cs = Good cs → a ≡ b

  abbrev Part : Type 0
  Part = Linked f g term_calls Same

  step : (y : Term-F Part Part) → Same (f (map-Term _ _ _ _ (λ p. p.a) (λ p. p.a) y)) (g (map-Term _ _ _ _ (λ p. p.b) (λ p. p.b) y))
      (term_calls (map-Term _ _ _ _ (λ p. p.c) (λ p. p.c) y))
  step (Term-F.Index q c) good = own (Term-F.Index q c) tt
  step (Term-F.Literal n) good = own (Term-F.Literal n) tt
  step (Term-F.Read cell place) good = own (Term-F.Read cell place) tt
  step (Term-F.Use rule arguments) good = own (Term-F.Use rule arguments) (good rule (among_one rule))
  step (Term-F.Prefix op x) good = ap (λ z. f (Term-F.Prefix op z)) (x.is good) ∙ own (Term-F.Prefix op x.b) tt
  step (Term-F.Infix op x y) good =
      ap₂ (λ z w. f (Term-F.Infix op z w)) (x.is (good_left x.c y.c good)) (y.is (good_right x.c y.c good)) ∙ own (Term-F.Infix op x.b y.b) tt
  step (Term-F.ShiftLeft x by) good = ap (λ z. f (Term-F.ShiftLeft z by)) (x.is good) ∙ own (Term-F.ShiftLeft x.b by) tt
  step (Term-F.ShiftRight x by) good = ap (λ z. f (Term-F.ShiftRight z by)) (x.is good) ∙ own (Term-F.ShiftRight x.b by) tt
  step (Term-F.Cast kind x) good = ap (λ z. f (Term-F.Cast kind z)) (x.is good) ∙ own (Term-F.Cast kind x.b) tt
  step (Term-F.Choose t x y) good = let later = good_right t.c (x.c ++ y.c) good in
      ap (λ z. f (Term-F.Choose z x.a y.a)) (t.is (good_left t.c (x.c ++ y.c) good))
      ∙ (ap₂ (λ z w. f (Term-F.Choose t.b z w)) (x.is (good_left x.c y.c later)) (y.is (good_right x.c y.c later)) ∙ own (Term-F.Choose t.b x.b y.b) tt)
  step (Term-F.Fold how inames x) good = ap (λ z. f (Term-F.Fold how inames z)) (x.is good) ∙ own (Term-F.Fold how inames x.b) tt

  same_fold : (e : Untyped) → Good (calls e) → of_tree f e ≡ of_tree g e
  same_fold = linked f g term_calls Same step

own_leads : (c d : ℕ → Option Leading) (n : Term-F (Option Leading) (Option Leading)) → Own (λ u. c u ≡ d u) n → term_leads c n ≡ term_leads d n
own_leads c d (Term-F.Use rule arguments) h = h
own_leads c d _ h = refl

-- what an expression leads with
pub leading_by_used : (c d : ℕ → Option Leading) (e : Untyped) → ((u : ℕ) → is_among (rules_in (calls e)) u ≡ true → c u ≡ d u)
    → leading_of c e ≡ leading_of d e
leading_by_used c d = same_fold (λ u. c u ≡ d u) (term_leads c) (term_leads d) (own_leads c d)

module _ (cells : Cell → Option Kind) (c d : ℕ → Asked) where
  own_asked : (n : Term-F Asked Asked) → Own (λ u. c u ≡ d u) n → term_asked (known_with cells c) n ≡ term_asked (known_with cells d) n
  own_asked (Term-F.Use rule arguments) h = h
  own_asked _ h = refl

  -- what is asked of an expression
  pub asked_by_used : (e : Untyped) → ((u : ℕ) → is_among (rules_in (calls e)) u ≡ true → c u ≡ d u)
      → asked_of (known_with cells c) e ≡ asked_of (known_with cells d) e
  asked_by_used = same_fold (λ u. c u ≡ d u) (term_asked (known_with cells c)) (term_asked (known_with cells d)) own_asked
