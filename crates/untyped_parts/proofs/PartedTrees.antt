-- What is taken for a tree as a predicate is that tree.
use Rattle.std.specs.Prelude.{◌≡◌}
use Rattle.std.proofs.Common.{rules, ap, subst, ◌∙◌}
use Rattle.untyped.specs.declared.tree.Term.{Term, the_lemmas, roll-Term, map-Term, fold-Term}
use Rattle.untyped.specs.declared.tree.Term.TheOpen.{Term-F, Untyped-F}
use Rattle.untyped.specs.declared.tree.Untyped.{Untyped, roll-Untyped, map-Untyped, ind-Untyped, fold-roll-Untyped}
use Rattle.untyped_parts.specs.Conjuncts.{Parted, term_parted, tree_parted, parted_of}

abbrev part_of : Term → Parted
part_of = fold-Term Parted Parted term_parted tree_parted

abbrev IsTerm : Term → Type 0
IsTerm t = (part_of t).tree ≡ record { term = t }

abbrev IsTree : Untyped → Type 0
IsTree e = (parted_of e).tree ≡ e

term_case : (y : Term-F ((t : Term) × IsTerm t) ((e : Untyped) × IsTree e)) → IsTerm (roll-Term (map-Term _ _ _ _ (λ e. e.0) (λ e. e.0) y))
term_case (Term-F.Index q c) = search (rules, the_lemmas)
term_case (Term-F.Literal n) = search (rules, the_lemmas)
term_case (Term-F.Read cell place) = search (rules, the_lemmas)
term_case (Term-F.Use rule arguments) = search (rules, the_lemmas)
term_case (Term-F.Prefix op a) = let h = a.1 in search (rules, the_lemmas, h)
term_case (Term-F.Infix op a b) = let h = a.1 in let k = b.1 in search (rules, the_lemmas, h, k)
term_case (Term-F.ShiftLeft a by) = let h = a.1 in search (rules, the_lemmas, h)
term_case (Term-F.ShiftRight a by) = let h = a.1 in search (rules, the_lemmas, h)
term_case (Term-F.Cast kind a) = let h = a.1 in search (rules, the_lemmas, h)
term_case (Term-F.Choose t a b) = let g = t.1 in let h = a.1 in let k = b.1 in search (rules, the_lemmas, g, h, k)
term_case (Term-F.Fold how inames a) = let h = a.1 in search (rules, the_lemmas, h)

tree_case : (e : Untyped-F Term Untyped) → IsTerm e.term → IsTree (roll-Untyped e)
tree_case e h = ap (λ (p : Parted). p.tree) (fold-roll-Untyped Parted Parted term_parted tree_parted e) ∙ h

pub tree_kept : (e : Untyped) → (parted_of e).tree ≡ e
tree_kept = ind-Untyped IsTerm IsTree
    (λ n y is. subst (λ z. IsTerm (roll-Term z)) is (term_case y))
    (λ e y is. subst (λ z. IsTree (roll-Untyped z)) is (tree_case (map-Untyped _ _ _ _ (λ e. e.0) (λ e. e.0) y) y.term.1))
