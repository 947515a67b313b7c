-- What expressions mention, in the order of the text.
use Rattle.std.specs.Prelude.{ℕ, not, List, [], ◌∷◌, ◌++◌, map, flat_map, filter}
use Rattle.affine_rows.specs.declared.quasi.Quasi.{Quasi, fold-Quasi}
use Rattle.expr_tree.specs.Scenes.{is_among}
use Rattle.untyped.specs.declared.tree.Term.TheOpen.{Term-F, Untyped-F}
use Rattle.untyped.specs.declared.tree.Untyped.{Untyped, fold-Untyped}

-- the variables of a form, those under floors last
abbrev pub vars_in : Quasi → List ℕ
vars_in = fold-Quasi (List ℕ) (List ℕ) (λ f. f.inner) (λ q. map (λ t. t.0) q.terms ++ flat_map (λ vs. vs) q.floors)

-- What is listed of the terms without parts, and of a reduction over inames with what its part lists.
pub record Listing : Type 0 where
  pub index : Quasi → List ℕ
  pub read : List Quasi → List ℕ
  pub call : ℕ → List Quasi → List ℕ
  pub fold : List ℕ → List ℕ → List ℕ

-- One term, with what is listed of each part in its place.
abbrev pub term_listed : Listing → Term-F (List ℕ) (List ℕ) → List ℕ
term_listed w (Term-F.Index form constant) = w.index form
term_listed w (Term-F.Literal n) = []
term_listed w (Term-F.Read cell place) = w.read place
term_listed w (Term-F.Use rule arguments) = w.call rule arguments
term_listed w (Term-F.Prefix op a) = a
term_listed w (Term-F.Infix op a b) = a ++ b
term_listed w (Term-F.ShiftLeft a by) = a
term_listed w (Term-F.ShiftRight a by) = a
term_listed w (Term-F.Cast kind a) = a
term_listed w (Term-F.Choose t a b) = t ++ (a ++ b)
term_listed w (Term-F.Fold how inames a) = w.fold inames a

abbrev pub tree_listed : Untyped-F (List ℕ) (List ℕ) → List ℕ
tree_listed e = e.term

abbrev pub listed : Listing → Untyped → List ℕ
listed w = fold-Untyped (List ℕ) (List ℕ) (term_listed w) tree_listed

-- the variables of subscripts and arguments
abbrev pub vars_in_all : List Quasi → List ℕ
vars_in_all fs = flat_map vars_in fs

-- those that are not among the inames of a reduction
abbrev pub without : List ℕ → List ℕ → List ℕ
without inames vs = filter (λ v. not (is_among inames v)) vs

-- The variables that an expression mentions, those aside that a reduction round the place binds.
abbrev pub mentions : Untyped → List ℕ
mentions = listed (record { index = vars_in; read = vars_in_all; call = λ rule arguments. vars_in_all arguments; fold = without })

-- The inames that reductions bind, an outer reduction before those in it.
abbrev pub bound : Untyped → List ℕ
bound = listed (record { index = λ form. []; read = λ place. []; call = λ rule arguments. []; fold = λ inames inner. inames ++ inner })
