-- What never stands behind an operand, and what no expression begins with.
use Rattle.std.proofs.Common.{◌≡◌, ℕ, Bool, true, false, List, [], ◌∷◌, ◌++◌, sym, refl, ◌∙◌, subst, append_assoc}
use Rattle.kernel_grammar.specs.declared.step.Infix.{Infix}
use Rattle.kernel_grammar.specs.declared.step.Infix.TheVariants as infixed
use Rattle.kernel_grammar.specs.Lexicals.{Lexical, mark}
use Rattle.kernel_grammar.specs.Trees.{Rel, at_most, less, at_least, more, equal, equals}
use Rattle.kernel_grammar.specs.Spelling.{rel_text}
use Rattle.kernel_expressions.specs.declared.frame.Bracket as bracket
use Rattle.kernel_expressions.specs.declared.frame.Bracket.TheVariants as brackets
use Rattle.kernel_expressions.specs.declared.frame.Frame.{Frame}
use Rattle.kernel_expressions.specs.declared.frame.Frame.TheVariants as frame
use Rattle.kernel_expressions.specs.Levels.{IsInfix}
use Rattle.kernel_expressions.specs.Frames.{made_level, inner_level, closing}
use Rattle.kernel_expressions.specs.Turns.{shift_text}
use Rattle.kernel_expressions.specs.Settled.{glues}
use Rattle.kernel_expressions.specs.Tails.{Link, applied, shifted, tail_text, Extends, more_places, Closing, ClosesAll}

rel_apart : (rel : Rel) → glues (rel_text rel) ≡ false
rel_apart at_most = refl
rel_apart less = refl
rel_apart at_least = refl
rel_apart more = refl
rel_apart equal = refl
rel_apart equals = refl

op_apart : (op : Infix) (x : Lexical) → IsInfix op x → glues x ≡ false
op_apart infixed.Or x e = subst (λ y. glues y ≡ false) e refl
op_apart infixed.And x e = subst (λ y. glues y ≡ false) e refl
op_apart (infixed.Compare relation) x h = subst (λ y. glues y ≡ false) h.spelled (rel_apart h.rel)
op_apart infixed.NotEqual x e = subst (λ y. glues y ≡ false) e refl
op_apart infixed.BitOr x e = subst (λ y. glues y ≡ false) e refl
op_apart infixed.BitXor x e = subst (λ y. glues y ≡ false) e refl
op_apart infixed.BitAnd x e = subst (λ y. glues y ≡ false) e refl
op_apart infixed.Add x e = subst (λ y. glues y ≡ false) e refl
op_apart infixed.Subtract x e = subst (λ y. glues y ≡ false) e refl
op_apart infixed.Multiply x e = subst (λ y. glues y ≡ false) e refl
op_apart infixed.Divide x e = subst (λ y. glues y ≡ false) e refl
op_apart infixed.Remainder x e = subst (λ y. glues y ≡ false) e refl
op_apart (infixed.Extreme which) x h = absurd h

shift_apart : (b : Bool) → glues (shift_text b) ≡ false
shift_apart true = refl
shift_apart false = refl

-- The text begins with no such token.
pub record Apart (text : List Lexical) : Type 0 where
  pub first : (x : Lexical) (xs : List Lexical) → text ≡ x ∷ xs → glues x ≡ false

begins : (y : Lexical) (ys : List Lexical) → glues y ≡ false → Apart (y ∷ ys)
begins y ys h = record { first = λ x xs e. let same : y ≡ x = cc in subst (λ z. glues z ≡ false) same h }

places_apart : (texts : List (List Lexical)) (b : bracket.Bracket) (rest : List Lexical) → Apart (more_places texts (closing b) ++ rest)
places_apart [] brackets.Index rest = begins (mark "]") rest refl
places_apart [] brackets.Call rest = begins (mark ")") rest refl
places_apart (text ∷ texts) b rest = begins (mark ",") _ refl

close_apart : (f : Frame) (close rest : List Lexical) → Closing f close → Apart rest → Apart (close ++ rest)
close_apart (frame.Infix g) close rest c h = subst (λ xs. Apart (xs ++ rest)) (sym c) h
close_apart (frame.Prefix g) close rest c h = subst (λ xs. Apart (xs ++ rest)) (sym c) h
close_apart frame.Group close rest c h = subst (λ xs. Apart (xs ++ rest)) (sym c) (begins (mark ")") rest refl)
close_apart (frame.Body s) close rest c h = subst (λ xs. Apart (xs ++ rest)) (sym c) (begins (mark ")") rest refl)
close_apart (frame.Places name b count) close rest c h = subst (λ xs. Apart (xs ++ rest)) (sym c.2) (places_apart c.0 b rest)
close_apart (frame.First which start) close rest c h = subst (λ xs. Apart (xs ++ rest)) (sym c.2) (begins (mark ",") _ refl)
close_apart frame.Test close rest c h = subst (λ xs. Apart (xs ++ rest)) (sym c.4) (begins (mark ",") _ refl)
close_apart frame.Then close rest c h = subst (λ xs. Apart (xs ++ rest)) (sym c.2) (begins (mark ",") _ refl)

links_apart : (from to : ℕ) (links : List Link) (others : List Lexical) → Extends from to links → Apart others → Apart (tail_text links ++ others)
links_apart from to [] others e h = h
links_apart from to (applied op x u ∷ links) others e h = begins x _ (op_apart op x e.0)
links_apart from to (shifted b d ∷ links) others e h = begins (shift_text b) _ (shift_apart b)

-- Behind an operand what closes all, and then such a rest, begins with no such token.
pub closes_apart : (least cur : ℕ) (frames : List Frame) (text rest : List Lexical) → ClosesAll least frames cur text → Apart rest → Apart (text ++ rest)
closes_apart least cur [] text rest c h = subst (λ xs. Apart (xs ++ rest)) (sym c.2) (links_apart cur least c.0 rest c.1 h)
closes_apart least cur (f ∷ frames) text rest c h = subst (λ xs. Apart (xs ++ rest)) (sym c.6)
    (subst Apart (sym (append_assoc (tail_text c.0 ++ c.1) c.2 rest ∙ append_assoc (tail_text c.0) c.1 (c.2 ++ rest)))
    (links_apart cur (inner_level f) c.0 (c.1 ++ (c.2 ++ rest)) c.3 (close_apart f c.1 (c.2 ++ rest) c.4 (closes_apart least (made_level f) frames c.2 rest c.5 h))))
