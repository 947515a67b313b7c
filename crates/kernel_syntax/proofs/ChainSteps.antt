-- Chains that are read list by list.
use Rattle.std.proofs.Common.{◌≡◌, ◌<◌, ◌≤◌, ◌+◌, ℕ, List, [], ◌∷◌, ◌++◌, map, ap, sym, refl, ◌∙◌, subst, append_assoc}
use Rattle.std.proofs.lemmas.List.{append-nil, map-append}
use Rattle.std.proofs.Common.{length, length-append, arith}
use Rattle.kernel_grammar.specs.declared.item.Relation.{Relation}
use Rattle.kernel_grammar.specs.declared.item.Chain as chained
use Rattle.kernel_grammar.specs.declared.step.Step.{Step}
use Rattle.kernel_grammar.specs.Lexicals.{Lexical}
use Rattle.kernel_grammar.specs.Trees.{Rel, Sums}
use Rattle.kernel_grammar.specs.Lines.{links_text, chain_text}
use Rattle.kernel_grammar.specs.Spelling.{rel_text, sums_text}
use Rattle.kernel_grammar.specs.Steps.{relation_of, sums_steps}
use Rattle.kernel_grammar.specs.Syntax.{chain_of}
use Rattle.kernel_expressions.specs.Levels.{IsRelation}
use Rattle.kernel_syntax.specs.Parts.{IsLinks}
use Rattle.kernel_expressions.specs.Reads.{Next, Reads, IsItem}
use Rattle.kernel_expressions.proofs.Join.{behind, around, nothing}

links-append : (links more : List (Rel × Sums)) → links_text (links ++ more) ≡ links_text links ++ links_text more
links-append [] more = refl
links-append (link ∷ links) more = ap (λ xs. rel_text link.0 ∷ sums_text link.1 ++ xs) (links-append links more) ∙ sym (append_assoc (rel_text link.0 ∷ sums_text link.1) (links_text links) (links_text more))

pub links_none : (S : Type 0) (rest : List (Relation × List (List Step))) (all : List Lexical) (at : ℕ) → at ≤ length all → rest ≡ [] → Reads all at at (IsLinks S rest)
links_none S rest all at within e = nothing all at (IsLinks S rest) within (record { links = []; spelled = refl; counted = ap (λ (xs : List (Relation × List (List Step))). length xs) (sym e); means = λ s. sym e })

link_push : (S : Type 0) (rest : List (Relation × List (List Step))) (relation : Relation) (next : List (List Step)) (x : Lexical) (t u : List Lexical) → IsRelation relation x → IsLinks S rest t → IsItem S sums_text sums_steps next u
    → IsLinks S (rest ++ (relation, next) ∷ []) (t ++ x ∷ u)
link_push S rest relation next x t u r h k = record {
  links = h.links ++ (r.rel, k.tree) ∷ [];
  spelled = links-append h.links ((r.rel, k.tree) ∷ []) ∙ ap (λ xs. xs ++ (rel_text r.rel ∷ sums_text k.tree ++ [])) h.spelled ∙ ap (λ xs. t ++ rel_text r.rel ∷ xs) (append-nil (sums_text k.tree) ∙ k.spelled) ∙ ap (λ y. t ++ y ∷ u) r.spelled;
  counted = omega (arith, h.counted, length-append h.links ((r.rel, k.tree) ∷ []), length-append rest ((relation, next) ∷ []));
  means = λ s. map-append (λ (link : Rel × Sums). (relation_of link.0, sums_steps link.1)) h.links ((r.rel, k.tree) ∷ []) ∙ ap (λ xs. xs ++ (relation_of r.rel, sums_steps k.tree) ∷ []) (h.means s)
      ∙ ap (λ (y : Relation). rest ++ (y, sums_steps k.tree) ∷ []) r.means ∙ ap (λ (y : List (List Step)). rest ++ (relation, y) ∷ []) (k.means s);
}

pub links_on : (S : Type 0) (rest new : List (Relation × List (List Step))) (relation : Relation) (next : List (List Step)) (all : List Lexical) (at b c : ℕ) → new ≡ rest ++ (relation, next) ∷ []
    → Reads all at b (IsLinks S rest) → ((x : Lexical) × Next all b x × IsRelation relation x) → Reads all (b + 1) c (IsItem S sums_text sums_steps next) → Reads all at c (IsLinks S new)
links_on S rest new relation next all at b c e h r k = subst (λ (xs : List (Relation × List (List Step))). Reads all at c (IsLinks S xs)) (sym e)
    (around all at b c r.0 (IsLinks S rest) (IsItem S sums_text sums_steps next) (IsLinks S (rest ++ (relation, next) ∷ [])) h r.1 k (λ t u p q. link_push S rest relation next r.0 t u r.2 p q))

chain : List (List Step) → List (Relation × List (List Step)) → chained.Chain
chain first rest = record { first = first; rest = rest }

a_chain : (S : Type 0) (first : List (List Step)) (rest : List (Relation × List (List Step))) (t : List Lexical) (head : Sums) (links : List (Rel × Sums)) → sums_text head ++ links_text links ≡ t → (S → sums_steps head ≡ first)
    → (S → map (λ (l : Rel × Sums). (relation_of l.0, sums_steps l.1)) links ≡ rest) → 0 < length links → IsItem S chain_text chain_of (chain first rest) t
unfolding chain
a_chain S first rest t head [] spelled means links_mean some = absurd (omega (arith, some))
a_chain S first rest t head (link ∷ links) spelled means links_mean some = record {
  tree = record { first = head; rel = link.0; second = link.1; more = links };
  spelled = spelled;
  means = λ s. ap (λ (x : List (List Step)). chain x (map (λ (l : Rel × Sums). (relation_of l.0, sums_steps l.1)) (link ∷ links))) (means s) ∙ ap (chain first) (links_mean s);
}

some_length : (n : ℕ) → (n ≡ 0 → ⊥) → 0 < n
some_length n h = omega (arith, h)

pub chain_whole : (S : Type 0) (first : List (List Step)) (rest : List (Relation × List (List Step))) (all : List Lexical) (at mid next n : ℕ) → n ≡ length rest → (n ≡ 0 → ⊥) → Reads all at mid (IsItem S sums_text sums_steps first) → Reads all mid next (IsLinks S rest)
    → Reads all at next (IsItem S chain_text chain_of (record { first = first; rest = rest }))
unfolding chain
chain_whole S first rest all at mid next n e some h k = behind all at mid next (IsItem S sums_text sums_steps first) (IsLinks S rest) (IsItem S chain_text chain_of (record { first = first; rest = rest })) h k
    (λ t u i j. a_chain S first rest (t ++ u) i.tree j.links (ap (λ xs. xs ++ links_text j.links) i.spelled ∙ ap (λ xs. t ++ xs) j.spelled) i.means j.means (let z : 0 < n = some_length n some in omega (arith, e, j.counted, z)))
