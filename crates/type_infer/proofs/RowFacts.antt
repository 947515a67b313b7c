-- How small expressions and kernels are refused.
use Rattle.std.proofs.Common.{◌≡◌, ℕ, List, [], Option, None, unwrap_or, nat_lt, refl, ap, ap₂, ◌∙◌, rules}
use Rattle.std.specs.Option.{option_or}
use Rattle.wrap_words.specs.Words.{modulus_of}
use Rattle.expr_tree.specs.Value.{first_of_two}
use Rattle.wrap_words.specs.declared.kind.Kind.{Kind}
use Rattle.wrap_words.specs.declared.kind.Kind.TheVariants.{I32, I64}
use Rattle.affine_rows.specs.declared.quasi.Quasi.{Quasi}
use Rattle.expr_tree.specs.declared.tree.Cell.{Cell}
use Rattle.expr_tree.specs.declared.tree.Op.{Op}
use Rattle.expr_tree.specs.declared.tree.Op.TheVariants.{Add}
use Rattle.expr_tree.specs.declared.tree.Expr.{Expr}
use Rattle.expr_tree.specs.declared.tree.Node.{the_lemmas}
use Rattle.expr_tree.specs.declared.tree.Node.TheOpen.{Node-F}
use Rattle.expr_tree.specs.declared.tree.Node.TheVariants as node
use Rattle.expr_tree.specs.Rewritten.{tree_of}
use Rattle.kind_faults.specs.declared.leads.Leading.{Leading}
use Rattle.type_infer.specs.Leads.{leading_of}
use Rattle.kind_faults.specs.Faults.{Judged, unless, read_fault}
use Rattle.type_infer.specs.Judged.{Known, node_judged, judged_of}
use Rattle.type_infer.specs.Typing.{mismatch_at}
use Rattle.type_infer.specs.Rows.{CastIsNoInt32, LiteralIsTooLarge, RuleAtTwoKinds, FiveHasNoKind}

module _ (w : Known) where
  judged-Literal : (n : ℕ) → judged_of w (tree_of (node.Literal n)) ≡ node_judged w (Node-F.Literal n)
  judged-Literal n = search (rules, the_lemmas)

  judged-Read : (cell : Cell) (place : List Quasi) → judged_of w (tree_of (node.Read cell place)) ≡ node_judged w (Node-F.Read cell place)
  judged-Read cell place = search (rules, the_lemmas)

  judged-Call : (rule : ℕ) (arguments : List Quasi) → judged_of w (tree_of (node.Call rule arguments)) ≡ w.call rule
  judged-Call rule arguments = search (rules, the_lemmas)

  judged-Bin : (op : Op) (a b : Expr) → judged_of w (tree_of (node.Bin op a b)) ≡ node_judged w (Node-F.Bin op (judged_of w a) (judged_of w b))
  judged-Bin op a b = search (rules, the_lemmas)

  judged-Cast : (to : Kind) (a : Expr) → judged_of w (tree_of (node.Cast to a)) ≡ node_judged w (Node-F.Cast to (judged_of w a))
  judged-Cast to a = search (rules, the_lemmas)

pub cast_is_no_int32 : CastIsNoInt32
cast_is_no_int32 w cell place line = ap (λ (j : Judged). mismatch_at line (j.fault I32)) (judged-Cast w I64 (tree_of (node.Read cell place)))

pub literal_is_too_large : LiteralIsTooLarge
literal_is_too_large w line = ap (λ (j : Judged). mismatch_at line (j.fault I32)) (judged-Literal w 5000000000)

pub rule_at_two_kinds : RuleAtTwoKinds
rule_at_two_kinds w a place rule kind body =
    let seven = judged-Call w rule [] ∙ (body ∙ judged-Literal w 7) in
    let sum = judged-Bin w Add (tree_of (node.Read a place)) (tree_of (node.Call rule [])) ∙ ap₂ (λ (x y : Judged). node_judged w (Node-F.Bin Add x y)) (judged-Read w a place) seven in
    let cast = judged-Cast w I32 (tree_of (node.Bin Add (tree_of (node.Read a place)) (tree_of (node.Call rule [])))) ∙ ap (λ (x : Judged). node_judged w (Node-F.Cast I32 x)) sum in
    ap (λ (j : Judged). j.fault I32)
    (judged-Bin w Add (tree_of (node.Cast I32 (tree_of (node.Bin Add (tree_of (node.Read a place)) (tree_of (node.Call rule [])))))) (tree_of (node.Call rule []))
    ∙ ap₂ (λ (x y : Judged). node_judged w (Node-F.Bin Add x y)) cast seven)
    ∙ ap (λ (o : Option Kind). let k = unwrap_or (first_of_two o None) I32 in option_or (option_or (read_fault o k) (unless (nat_lt 7 (modulus_of k)) k)) None) kind

leads-Literal : (call : ℕ → Option Leading) (n : ℕ) → leading_of call (tree_of (node.Literal n)) ≡ None
leads-Literal call n = search (rules, the_lemmas)

pub five_has_no_kind : FiveHasNoKind
five_has_no_kind line = rw leads-Literal refl
