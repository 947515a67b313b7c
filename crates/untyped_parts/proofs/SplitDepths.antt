-- What is left of a predicate is no deeper than the predicate.
use Rattle.std.proofs.Common.{◌≡◌, ◌≤◌, ℕ, ◌+◌, max, Option, Some, None, arith, refl, ap, ap₂, subst, ◌∙◌}
use Rattle.affine_rows.specs.declared.quasi.Quasi.{Quasi}
use Rattle.kernel_grammar.specs.declared.item.Relation.{Relation}
use Rattle.kernel_grammar.specs.declared.step.Infix.{Infix}
use Rattle.kernel_grammar.specs.declared.step.Infix.TheVariants as infixed
use Rattle.untyped.specs.declared.tree.Term.{map-Term}
use Rattle.untyped.specs.declared.tree.Term.TheOpen.{Term-F}
use Rattle.untyped.specs.declared.tree.Term.TheVariants as term
use Rattle.untyped.specs.declared.tree.Untyped.{Untyped}
use Rattle.untyped.specs.Exprs.{form_of}
use Rattle.untyped.specs.Depths.{Measure, below, no_index, term_measure, measure_of, tree_depth}
use Rattle.untyped.proofs.Layers.{Linked, linked, at-Index, at-Literal, at-Read, at-Use, at-Prefix, at-Infix, at-ShiftLeft, at-ShiftRight, at-Cast, at-Choose, at-Fold}
use Rattle.untyped_parts.specs.declared.conjuncts.Link.{Link}
use Rattle.untyped_parts.specs.declared.conjuncts.Link.TheVariants.{Conjunction, Compared, Other}
use Rattle.untyped_parts.specs.Conjuncts.{Parted, link_of, both, compared, link_split, parted, term_parted, parted_of, split_of}

-- what is left, if something is, is at most so deep
abbrev AtMost : ℕ → Option Untyped → Type 0
AtMost n None = Unit {0}
AtMost n (Some e) = tree_depth e ≤ n

at_most : (m n : ℕ) (rest : Option Untyped) → m ≤ n → AtMost m rest → AtMost n rest
at_most m n None le h = tt
at_most m n (Some e) le h = omega (arith, le, h)

-- a tree with this measure, of which no more is left than it is deep
record Kept (p : Parted) (d : Measure) : Type 0 where
  pub tree : measure_of p.tree ≡ d
  pub rest : AtMost d.depth p.split.rest

depth_of : (e : Untyped) (d : Measure) → measure_of e ≡ d → tree_depth e ≤ d.depth
depth_of e d is = omega (arith, ap (λ (m : Measure). m.depth) is)

whole_kept : (e : Untyped) (d : Measure) → measure_of e ≡ d → Kept (parted e) d
whole_kept e d is = record { tree = is; rest = depth_of e d is }

both_kept : (a b : Option Untyped) (m n : ℕ) → AtMost m a → AtMost n b → AtMost (max m n + 1) (both a b)
both_kept None b m n h k = at_most n (max m n + 1) b (omega arith) k
both_kept (Some x) None m n h k = omega (arith, h)
both_kept (Some x) (Some y) m n h k = omega (arith, ap (λ (d : Measure). d.depth) (at-Infix term_measure infixed.And x y), h, k)

compared_kept : (r : Relation) (f g : Option Quasi) (e : Untyped) (n : ℕ) → tree_depth e ≤ n → AtMost n (compared r f g e).rest
compared_kept r (Some f) (Some g) e n h = tt
compared_kept r (Some f) None e n h = h
compared_kept r None g e n h = h

-- one term over two parts
linked_kept : (link : Link) (a b : Parted) (e : Untyped) (m n d : ℕ) → AtMost m a.split.rest → AtMost n b.split.rest → tree_depth e ≤ d → (link ≡ Conjunction → max m n + 1 ≤ d)
    → AtMost d (link_split link a b e).rest
linked_kept Conjunction a b e m n d h k is le = at_most (max m n + 1) d (both a.split.rest b.split.rest) (le refl) (both_kept a.split.rest b.split.rest m n h k)
linked_kept (Compared r) a b e m n d h k is le = compared_kept r (form_of a.tree) (form_of b.tree) e d is
linked_kept Other a b e m n d h k is le = is

conjunction_depth : (o : Infix) (d e : Measure) → link_of o ≡ Conjunction → max d.depth e.depth + 1 ≤ below o d e + 1
conjunction_depth (infixed.Compare r) d e h = absurd (cc)
conjunction_depth infixed.NotEqual d e h = absurd (cc)
conjunction_depth o d e h = omega arith

infix_kept : (o : Infix) (a b : Parted) (d e : Measure) → Kept a d → Kept b e → Kept (term_parted (Term-F.Infix o a b)) (no_index (below o d e + 1))
infix_kept o a b d e h k =
    let is = at-Infix term_measure o a.tree b.tree ∙ ap₂ (λ (m n : Measure). no_index (below o m n + 1)) h.tree k.tree in
    record {
      tree = is;
      rest = linked_kept (link_of o) a b (record { term = term.Infix o a.tree b.tree }) d.depth e.depth (below o d e + 1) h.rest k.rest
          (depth_of (record { term = term.Infix o a.tree b.tree }) (no_index (below o d e + 1)) is) (conjunction_depth o d e);
    }

-- one part more
abbrev deeper : Measure → Measure
deeper m = no_index (m.depth + 1)

abbrev Part : Type 0
Part = Linked term_parted term_measure term_measure (λ p d c. Kept p d)

kept_step : (y : Term-F Part Part) → Kept (term_parted (map-Term _ _ _ _ (λ p. p.a) (λ p. p.a) y)) (term_measure (map-Term _ _ _ _ (λ p. p.b) (λ p. p.b) y))
kept_step (Term-F.Index form constant) = whole_kept (record { term = term.Index form constant }) _ (at-Index term_measure form constant)
kept_step (Term-F.Literal n) = whole_kept (record { term = term.Literal n }) _ (at-Literal term_measure n)
kept_step (Term-F.Read cell place) = whole_kept (record { term = term.Read cell place }) _ (at-Read term_measure cell place)
kept_step (Term-F.Use rule arguments) = whole_kept (record { term = term.Use rule arguments }) _ (at-Use term_measure rule arguments)
kept_step (Term-F.Prefix o p) = whole_kept (record { term = term.Prefix o p.a.tree }) _ (at-Prefix term_measure o p.a.tree ∙ ap deeper p.is.tree)
kept_step (Term-F.Infix o p q) = infix_kept o p.a q.a p.b q.b p.is q.is
kept_step (Term-F.ShiftLeft p by) = whole_kept (record { term = term.ShiftLeft p.a.tree by }) _ (at-ShiftLeft term_measure p.a.tree by ∙ ap deeper p.is.tree)
kept_step (Term-F.ShiftRight p by) = whole_kept (record { term = term.ShiftRight p.a.tree by }) _ (at-ShiftRight term_measure p.a.tree by ∙ ap deeper p.is.tree)
kept_step (Term-F.Cast kind p) = whole_kept (record { term = term.Cast kind p.a.tree }) _ (at-Cast term_measure kind p.a.tree ∙ ap deeper p.is.tree)
kept_step (Term-F.Choose t p q) =
    whole_kept (record { term = term.Choose t.a.tree p.a.tree q.a.tree }) _
    (at-Choose term_measure t.a.tree p.a.tree q.a.tree
    ∙ (ap (λ (m : Measure). no_index (max m.depth (max (measure_of p.a.tree).depth (measure_of q.a.tree).depth) + 1)) t.is.tree
    ∙ ap₂ (λ (m n : Measure). no_index (max t.b.depth (max m.depth n.depth) + 1)) p.is.tree q.is.tree))
kept_step (Term-F.Fold how inames p) = whole_kept (record { term = term.Fold how inames p.a.tree }) _ (at-Fold term_measure how inames p.a.tree ∙ ap deeper p.is.tree)

kept : (e : Untyped) → Kept (parted_of e) (measure_of e)
kept = linked term_parted term_measure term_measure (λ p d c. Kept p d) kept_step

pub rest_depth : (e rest : Untyped) → (split_of e).rest ≡ Some rest → tree_depth rest ≤ tree_depth e
rest_depth e rest is = subst (λ (o : Option Untyped). AtMost (tree_depth e) o) is (kept e).rest
