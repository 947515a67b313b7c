-- The first place of `min` and `max`.
use Rattle.std.proofs.Common.{◌≡◌, ◌≤◌, ◌+◌, ◌-◌, ℕ, List, [], ◌∷◌, ◌++◌, drop, take, length, ap, sym, refl, ◌∙◌, subst, append_assoc, arith, Result, Ok, Err}
use Rattle.std.specs.Result.{IfOk}
use Rattle.std.proofs.lemmas.List.{append-nil}
use Rattle.std.proofs.lemmas.Grind.{common_steps}
use Rattle.kernel_grammar.specs.declared.step.Extreme.{Extreme}
use Rattle.kernel_grammar.specs.declared.step.Infix.TheVariants as infixed
use Rattle.kernel_grammar.specs.declared.step.Step.{Step}
use Rattle.kernel_grammar.specs.declared.step.Step.TheVariants as step
use Rattle.kernel_grammar.specs.declared.step.Folding.TheVariants as folding
use Rattle.kernel_grammar.specs.Lexicals.{Lexical, word, mark}
use Rattle.kernel_grammar.specs.Trees.{Or, extreme}
use Rattle.kernel_grammar.specs.Spelling.{extreme_text, of_two, or_text}
use Rattle.kernel_grammar.specs.Steps.{extreme_steps, or_steps, atom_steps}
use Rattle.kernel_grammar.specs.Laws.{LoneWordsAreNames, WordsInSignsAreNames}
use Rattle.kernel_expressions.specs.declared.lexeme.Lexeme.{Lexeme}
use Rattle.kernel_expressions.specs.declared.stop.Stop.{Stop}
use Rattle.kernel_expressions.specs.declared.partial.Partial.{Partial}
use Rattle.kernel_expressions.specs.declared.partial.Turn as turn
use Rattle.kernel_expressions.specs.declared.frame.Frame.{Frame}
use Rattle.kernel_expressions.specs.declared.frame.Frame.TheVariants as frame
use Rattle.kernel_expressions.specs.Texts.{texts, IsFit}
use Rattle.kernel_expressions.specs.Reads.{Next, IsItem}
use Rattle.kernel_expressions.specs.Frames.{Closes}
use Rattle.kernel_expressions.specs.FirstPlaces.{IsGrouped, IsValue}
use Rattle.kernel_expressions.specs.Turns.{IsOpen, MovesOut, OpensPart}
use Rattle.kernel_expressions.proofs.Trees.{looser, an_atom}
use Rattle.kernel_expressions.proofs.Heads.{closes_head}
use Rattle.kernel_expressions.proofs.Moving.{goes_on, opens_into}

last_taken : (xs : List Step) (x : Step) → take (length (xs ++ x ∷ []) - 1) (xs ++ x ∷ []) ≡ xs
last_taken xs x = grind (arith, common_steps)

-- what is before the last step
without_last : (old new before made under last : List Step) (x : Step) → new ≡ take (length old - 1) old → old ≡ before ++ last → before ≡ under ++ made → made ≡ [] → last ≡ x ∷ [] → new ≡ under ++ []
without_last old new before made under last x e f g h k =
    e ∙ ap (λ xs. take (length xs - 1) xs) (f ∙ ap (λ xs. xs ++ last) (g ∙ ap (λ xs. under ++ xs) h ∙ append-nil under) ∙ ap (λ xs. under ++ xs) k) ∙ last_taken under x ∙ sym (append-nil under)

pub first_popped : (lexemes : List Lexeme) (old mid new : Partial) (which : Extreme) (start at next : ℕ) (w : List ℕ) (last : Step) (P : List Lexical → Type 0) (r : Result turn.Turn Stop) → IfOk r (λ t. OpensPart mid (frame.Body last) next new t)
    → mid.frames ≡ old.frames → mid.steps.items ≡ take (length old.steps.items - 1) old.steps.items → next ≡ at + 1 → Next (texts lexemes) at (mark ",")
    → ((text : List Lexical) → drop start (texts lexemes) ≡ text ++ drop at (texts lexemes) → start ≤ at → at ≤ length (texts lexemes) → P text)
    → ((tree : Or) (text : List Lexical) → or_text tree ≡ text → P text → or_steps tree ≡ step.Name w ∷ [])
    → ((tree a : Or) (text : List Lexical) → or_text tree ≡ text → P text → atom_steps (extreme which tree a) ≡ or_steps a ++ last ∷ [])
    → IfOk r (λ t. MovesOut lexemes (frame.First which start) old at new t)
first_popped lexemes old mid new which start at next w last P (Err e) o same taken p n place single ends = tt
first_popped lexemes old mid new which start at next w last P (Ok t) o same taken p n place single ends = λ least l from within h.
    let text = h.operand.text in
    let has : P text = place text (ap (λ (m : ℕ). drop m (texts lexemes)) h.under.starts ∙ h.operand.ahead) (omega (arith, h.under.starts, h.operand.on)) h.operand.within in
    let tree : IsItem (IsFit (texts lexemes)) or_text or_steps h.made text = looser (IsFit (texts lexemes)) l 1 h.made text h.fits h.operand.is in
    opens_into lexemes mid new (frame.Body last) next t o least from
    (subst (λ (fs : List Frame). IsOpen (IsFit (texts lexemes)) (texts lexemes) least from (frame.Body last ∷ fs) mid.steps.items next) (sym same)
    (goes_on (IsFit (texts lexemes)) (texts lexemes) least from old.frames (frame.First which start) (frame.Body last) [] old.steps.items mid.steps.items l at next (mark ",") p n refl refl tt h
    (λ s. without_last old.steps.items mid.steps.items h.before h.under.made h.under.before h.made (step.Name w) taken (h.steps s) (h.under.steps s) h.under.part.is.nothing (sym (tree.means s) ∙ single tree.tree text tree.spelled has))
    (subst (λ (xs : List Lexical). Closes (IsFit (texts lexemes)) (last ∷ []) [] (xs ++ text ++ mark "," ∷ [])) (sym h.under.part.is.begins)
    (closes_head (IsFit (texts lexemes)) (extreme_text which) text last (λ a. extreme which tree.tree a) (λ a. ap (λ xs. extreme_text which ∷ of_two xs (or_text a)) tree.spelled) (λ a s. ends tree.tree a text tree.spelled has)))))

pub lone_single : LoneWordsAreNames → (w : List ℕ) (tree : Or) (text : List Lexical) → or_text tree ≡ text → text ≡ word w ∷ [] → or_steps tree ≡ step.Name w ∷ []
lone_single law w tree text e is = law w (or_steps tree) (record { tree = tree; spelled = e ∙ is; means = refl })

pub lone_ends : (which : Extreme) (w n : List ℕ) → n ≡ w → (tree a : Or) (text : List Lexical) → or_text tree ≡ text → text ≡ word w ∷ [] → atom_steps (extreme which tree a) ≡ or_steps a ++ step.ExtremeOf which n ∷ []
lone_ends which w n same tree a text e is = ap (λ xs. extreme_steps which xs (or_steps tree) (or_steps a)) (e ∙ is) ∙ ap (λ (v : List ℕ). or_steps a ++ step.ExtremeOf which v ∷ []) (sym same)

pub grouped_single : WordsInSignsAreNames → (w : List ℕ) (tree : Or) (text : List Lexical) → or_text tree ≡ text → IsGrouped w text → or_steps tree ≡ step.Name w ∷ []
grouped_single law w tree text e is = law is.before w is.behind (or_steps tree) (record { tree = tree; spelled = e ∙ is.is; means = refl })

pub grouped_ends : (which : Extreme) (w n : List ℕ) (ns : List (List ℕ)) → ns ≡ n ∷ [] → n ≡ w → (tree a : Or) (text : List Lexical) → or_text tree ≡ text → IsGrouped w text → atom_steps (extreme which tree a) ≡ or_steps a ++ step.Fold (folding.Extreme which) ns ∷ []
grouped_ends which w n ns one same tree a text e is = ap (λ xs. extreme_steps which xs (or_steps tree) (or_steps a)) (e ∙ is.is)
    ∙ ap (λ (v : List (List ℕ)). or_steps a ++ step.Fold (folding.Extreme which) v ∷ []) (ap (λ (v : List ℕ). v ∷ []) (sym same) ∙ sym one)

pub first_kept : (lexemes : List Lexeme) (old new : Partial) (which : Extreme) (start at next : ℕ) (r : Result turn.Turn Stop) → IfOk r (λ t. OpensPart old (frame.Body (step.Infix (infixed.Extreme which))) next new t)
    → next ≡ at + 1 → Next (texts lexemes) at (mark ",")
    → ((text : List Lexical) → drop start (texts lexemes) ≡ text ++ drop at (texts lexemes) → start ≤ at → at ≤ length (texts lexemes) → IsValue text)
    → IfOk r (λ t. MovesOut lexemes (frame.First which start) old at new t)
first_kept lexemes old new which start at next (Err e) o p n place = tt
first_kept lexemes old new which start at next (Ok t) o p n place = λ least l from within h.
    let text = h.operand.text in
    let has : IsValue text = place text (ap (λ (m : ℕ). drop m (texts lexemes)) h.under.starts ∙ h.operand.ahead) (omega (arith, h.under.starts, h.operand.on)) h.operand.within in
    let tree : IsItem (IsFit (texts lexemes)) or_text or_steps h.made text = looser (IsFit (texts lexemes)) l 1 h.made text h.fits h.operand.is in
    opens_into lexemes old new (frame.Body (step.Infix (infixed.Extreme which))) next t o least from
    (goes_on (IsFit (texts lexemes)) (texts lexemes) least from old.frames (frame.First which start) (frame.Body (step.Infix (infixed.Extreme which))) h.made old.steps.items old.steps.items l at next (mark ",") p n refl refl tt h
    (λ s. h.steps s ∙ ap (λ xs. xs ++ h.made) (h.under.steps s ∙ ap (λ xs. h.under.before ++ xs) h.under.part.is.nothing ∙ append-nil h.under.before))
    (subst (λ (xs : List Lexical). Closes (IsFit (texts lexemes)) (step.Infix (infixed.Extreme which) ∷ []) h.made (xs ++ text ++ mark "," ∷ [])) (sym h.under.part.is.begins)
    (record {
      ends = λ steps u b. an_atom (IsFit (texts lexemes)) (extreme which tree.tree b.tree) _ _
          (ap (λ xs. extreme_text which ∷ of_two xs (or_text b.tree)) tree.spelled ∙ ap (λ xs. extreme_text which ∷ of_two text xs) b.spelled ∙ ap (λ xs. extreme_text which ∷ mark "(" ∷ (xs ++ mark ")" ∷ [])) (sym (append_assoc text (mark "," ∷ []) u)))
          (λ s. (subst IsValue (sym tree.spelled) has).steps which (or_steps tree.tree) (or_steps b.tree) ∙ ap (λ xs. xs ++ or_steps b.tree ++ step.Infix (infixed.Extreme which) ∷ []) (tree.means s) ∙ ap (λ xs. h.made ++ xs ++ step.Infix (infixed.Extreme which) ∷ []) (b.means s));
    })))
