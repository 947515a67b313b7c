-- Places, shifts, and the ends of expressions.
use Rattle.std.proofs.Common.{◌≡◌, ◌<◌, ◌≤◌, ◌+◌, ◌-◌, ◌^◌, ℕ, Option, zero, suc, Bool, true, false, List, [], ◌∷◌, ◌++◌, length, min, ap, sym, refl, ◌∙◌, subst, append_assoc, arith, length-append, Result, Ok, Err}
use Rattle.std.specs.Result.{IfOk}
use Rattle.std.proofs.lemmas.List.{append-nil}
use Rattle.kernel_grammar.specs.declared.step.Infix.{Infix}
use Rattle.kernel_grammar.specs.declared.step.Infix.TheVariants as infixed
use Rattle.kernel_grammar.specs.declared.step.Step.{Step}
use Rattle.kernel_grammar.specs.Lexicals.{Lexical, number, number_in, mark}
use Rattle.kernel_grammar.specs.Trees.{one as one_sum, first}
use Rattle.kernel_grammar.specs.Spelling.{sums_text, sum_text}
use Rattle.kernel_grammar.specs.Steps.{joined, sums_steps, sum_steps}
use Rattle.kernel_expressions.specs.declared.lexeme.Lexeme.{Lexeme}
use Rattle.kernel_expressions.specs.declared.stop.Stop.{Stop}
use Rattle.kernel_expressions.specs.declared.partial.Partial.{Partial}
use Rattle.kernel_expressions.specs.declared.partial.Turn as turn
use Rattle.kernel_expressions.specs.declared.frame.Bracket as bracket
use Rattle.kernel_expressions.specs.declared.frame.Frame.{Frame}
use Rattle.kernel_expressions.specs.declared.frame.Frame.TheVariants as frame
use Rattle.kernel_expressions.specs.Texts.{texts, IsFit}
use Rattle.kernel_expressions.specs.Reads.{Next, Reads, IsItem}
use Rattle.kernel_expressions.specs.Levels.{level, first_level, IsInfix, Tree}
use Rattle.kernel_expressions.specs.Frames.{own_level, wanted_level, place_step, closing, HasPlaces, Part}
use Rattle.kernel_expressions.specs.Ended.{Held, ended}
use Rattle.kernel_expressions.specs.Turns.{IsOpen, IsBehind, MovesBehind, MovesOut, OpensPart, shift_text, shift_step}
use Rattle.kernel_expressions.proofs.Join.{and_token, as_well}
use Rattle.kernel_expressions.proofs.Trees.{looser, operates, shifted_left, shifted_right}
use Rattle.kernel_expressions.proofs.Moving.{ends_to, none_open, opens_into, closes}

revalued_item : (S : Type 0) {X : Type 0} (spell : X → List Lexical) (mean : X → List Step) (v w : List Step) (t u : List Lexical) → (S → v ≡ w) → t ≡ u → IsItem S spell mean v t → IsItem S spell mean w u
revalued_item S spell mean v w t u e f h = record { tree = h.tree; spelled = h.spelled ∙ f; means = λ s. h.means s ∙ e s }

-- a tree of an equal value
revalued : (S : Type 0) (l : ℕ) (v w : List Step) (t u : List Lexical) → (S → v ≡ w) → t ≡ u → Tree S l v t → Tree S l w u
revalued S zero v w t u e f h = revalued_item S _ _ v w t u e f h
revalued S (suc zero) v w t u e f h = revalued_item S _ _ v w t u e f h
revalued S (suc (suc zero)) v w t u e f h = revalued_item S _ _ v w t u e f h
revalued S (suc (suc (suc zero))) v w t u e f h = revalued_item S _ _ v w t u e f h
revalued S (suc (suc (suc (suc zero)))) v w t u e f h = revalued_item S _ _ v w t u e f h
revalued S (suc (suc (suc (suc (suc zero))))) v w t u e f h = revalued_item S _ _ v w t u e f h
revalued S (suc (suc (suc (suc (suc (suc zero)))))) v w t u e f h = revalued_item S _ _ v w t u e f h
revalued S (suc (suc (suc (suc (suc (suc (suc zero))))))) v w t u e f h = revalued_item S _ _ v w t u e f h
revalued S (suc (suc (suc (suc (suc (suc (suc (suc zero)))))))) v w t u e f h = revalued_item S _ _ v w t u e f h
revalued S (suc (suc (suc (suc (suc (suc (suc (suc (suc zero))))))))) v w t u e f h = revalued_item S _ _ v w t u e f h
revalued S (suc (suc (suc (suc (suc (suc (suc (suc (suc (suc zero)))))))))) v w t u e f h = revalued_item S _ _ v w t u e f h
revalued S (suc (suc (suc (suc (suc (suc (suc (suc (suc (suc (suc l))))))))))) v w t u e f h = revalued_item S _ _ v w t u e f h

counted_on : (before count n : ℕ) → count ≡ min (before + 1) (2 ^ 32 - 1) → before < n → n < 2 ^ 32 → count ≡ before + 1
counted_on before count n e h k = omega (arith, e, h, k)

placed : (t u : List Lexical) (c : Lexical) (r : List Lexical) (e : Lexical) → t ++ (u ++ c ∷ r) ++ e ∷ [] ≡ ((t ++ u ++ c ∷ []) ++ r ++ e ∷ [])
placed t u c r e = simp append_assoc

-- one place more
pub places_more : (all : List Lexical) (name : List ℕ) (b : bracket.Bracket) (before count l : ℕ) (made steps : List Step) (t u : List Lexical) → count ≡ min (before + 1) (2 ^ 32 - 1) → length t + length u ≤ length all
    → HasPlaces (IsFit all) name b before made t → Tree (IsFit all) l steps u → 9 ≤ l → HasPlaces (IsFit all) name b count (made ++ steps) (t ++ u ++ mark "," ∷ [])
places_more all name b before count l made steps t u e short part tree tight = record {
  counted = let c = part.counted in let k : count ≤ before + 1 = omega (arith, e) in omega (arith, k, c, length-append (t ++ u) (mark "," ∷ []), length-append t u);
  ends = λ rest more same. let sum : IsItem (IsFit all) sum_text sum_steps steps u = looser (IsFit all) l 9 steps u tight tree in
      let whole = part.ends (first sum.tree rest) (steps ++ more) (λ s. ap (λ xs. xs ++ joined (sums_steps rest)) (sum.means s) ∙ ap (λ xs. steps ++ xs) (same s)) in
      revalued (IsFit all) 11 _ _ _ _
      (λ s. let c : count ≡ before + 1 = counted_on before count (length all) e (omega (arith, part.counted, short)) s.short in
      ap (λ xs. xs ++ place_step b name (before + length (sums_steps (first sum.tree rest))) ∷ []) (sym (append_assoc made steps more))
      ∙ ap (λ (n : ℕ). ((made ++ steps) ++ more) ++ place_step b name n ∷ []) (let z : before + length (sums_steps (first sum.tree rest)) ≡ count + length (sums_steps rest) = omega (arith, c) in z))
      (ap (λ xs. t ++ (xs ++ mark "," ∷ sums_text rest) ++ closing b ∷ []) sum.spelled ∙ placed t u (mark ",") (sums_text rest) (closing b)) whole;
}

-- the last place
pub places_last : (all : List Lexical) (name : List ℕ) (b : bracket.Bracket) (before count l : ℕ) (made steps : List Step) (t u : List Lexical) → count ≡ min (before + 1) (2 ^ 32 - 1) → length t + length u ≤ length all
    → HasPlaces (IsFit all) name b before made t → Tree (IsFit all) l steps u → 9 ≤ l → Tree (IsFit all) 11 (made ++ steps ++ place_step b name count ∷ []) (t ++ u ++ closing b ∷ [])
places_last all name b before count l made steps t u e short part tree tight = let sum : IsItem (IsFit all) sum_text sum_steps steps u = looser (IsFit all) l 9 steps u tight tree in
    let whole = part.ends (one_sum sum.tree) steps (λ s. append-nil (sum_steps sum.tree) ∙ sum.means s) in
    revalued (IsFit all) 11 _ _ _ _
    (λ s. let c : count ≡ before + 1 = counted_on before count (length all) e (omega (arith, part.counted, short)) s.short in ap (λ (n : ℕ). made ++ steps ++ place_step b name n ∷ []) (sym c))
    (ap (λ xs. t ++ xs ++ closing b ∷ []) sum.spelled) whole

-- an operator behind its first operand
pub infix_opens : (S : Type 0) (all : List Lexical) (least from : ℕ) (frames : List Frame) (op : Infix) (done : List Step) (l at : ℕ) (x : Lexical) → Next all at x → IsInfix op x → first_level op ≤ l → wanted_level least frames ≤ level op
    → IsBehind S all least from frames l done at → IsOpen S all least from (frame.Infix op ∷ frames) done (at + 1)
infix_opens S all least from frames op done l at x n i tight fits h = record {
  mid = h.mid;
  before = h.before;
  made = h.made;
  under = h.under;
  part = and_token all h.mid at x (Tree S l h.made) (Part S (frame.Infix op) h.made) h.operand n (λ t tree. operates S op x i h.made t (looser S l (first_level op) h.made t tight tree));
  starts = tt;
  fits = fits;
  steps = h.steps;
}

first_level_some : (op : Infix) → 0 < first_level op
first_level_some infixed.Or = omega arith
first_level_some infixed.And = omega arith
first_level_some (infixed.Compare relation) = omega arith
first_level_some infixed.NotEqual = omega arith
first_level_some infixed.BitOr = omega arith
first_level_some infixed.BitXor = omega arith
first_level_some infixed.BitAnd = omega arith
first_level_some infixed.Add = omega arith
first_level_some infixed.Subtract = omega arith
first_level_some infixed.Multiply = omega arith
first_level_some infixed.Divide = omega arith
first_level_some infixed.Remainder = omega arith
first_level_some (infixed.Extreme which) = omega arith

pub infix_moves : (lexemes : List Lexeme) (old mid new : Partial) (least operand made at p : ℕ) (op : Infix) (r : Result turn.Turn Stop) → IfOk r (λ t. OpensPart mid (frame.Infix op) (at + 1) new t)
    → p ≡ first_level op → ended p old.frames old.steps.items operand ≡ record { frames = mid.frames; done = mid.steps.items; level = made }
    → ((x : Lexical) × Next (texts lexemes) at x × IsInfix op x) → first_level op ≤ made → wanted_level least mid.frames ≤ level op → IfOk r (λ t. MovesBehind lexemes least old operand at new t)
infix_moves lexemes old mid new least operand made at p op (Err e) o q k n tight fits = tt
infix_moves lexemes old mid new least operand made at p op (Ok t) o q k n tight fits = λ from within h. opens_into lexemes mid new (frame.Infix op) (at + 1) t o least from
    (infix_opens (IsFit (texts lexemes)) (texts lexemes) least from mid.frames op mid.steps.items made at n.0 n.1 n.2 tight fits
    (ends_to (IsFit (texts lexemes)) (texts lexemes) least from at p old.frames old.steps.items operand (record { frames = mid.frames; done = mid.steps.items; level = made }) (omega (arith, q, first_level_some op)) k h))

-- a move behind operators that are ended
pub ended_moves : (lexemes : List Lexeme) (old mid new : Partial) (least p operand made at : ℕ) (r : Result turn.Turn Stop) → IfOk r (λ t. (least : ℕ) → MovesBehind lexemes least mid made at new t)
    → ended p old.frames old.steps.items operand ≡ record { frames = mid.frames; done = mid.steps.items; level = made } → 0 < p → IfOk r (λ t. MovesBehind lexemes least old operand at new t)
ended_moves lexemes old mid new least p operand made at (Err e) o k some = tt
ended_moves lexemes old mid new least p operand made at (Ok t) o k some = λ from within h. o least from within
    (ends_to (IsFit (texts lexemes)) (texts lexemes) least from at p old.frames old.steps.items operand (record { frames = mid.frames; done = mid.steps.items; level = made }) some k h)

-- a move behind operators that are ended before an operator that may not stand there
pub ended_infix : (lexemes : List Lexeme) (old mid new : Partial) (least p operand made at : ℕ) (op : Infix) (r : Result turn.Turn Stop) → IfOk r (λ t. (least : ℕ) → MovesBehind lexemes least mid made at new t)
    → p ≡ first_level op → ended p old.frames old.steps.items operand ≡ record { frames = mid.frames; done = mid.steps.items; level = made } → IfOk r (λ t. MovesBehind lexemes least old operand at new t)
ended_infix lexemes old mid new least p operand made at op r o q k = ended_moves lexemes old mid new least p operand made at r o k (omega (arith, q, first_level_some op))

-- a move out of a part behind operators that are ended
pub end_moves : (lexemes : List Lexeme) (old out new : Partial) (inner : List Frame) (f : Frame) (operand made at : ℕ) (r : Result turn.Turn Stop) → IfOk r (λ t. MovesOut lexemes f out at new t)
    → ended 1 old.frames old.steps.items operand ≡ record { frames = inner; done = out.steps.items; level = made } → inner ≡ f ∷ out.frames → IfOk r (λ t. (least : ℕ) → MovesBehind lexemes least old operand at new t)
end_moves lexemes old out new inner f operand made at (Err e) o k q = tt
end_moves lexemes old out new inner f operand made at (Ok t) o k q = λ least from within h. o least made from within
    (subst (λ (fs : List Frame). IsBehind (IsFit (texts lexemes)) (texts lexemes) least from fs made out.steps.items at) q
    (ends_to (IsFit (texts lexemes)) (texts lexemes) least from at 1 old.frames old.steps.items operand (record { frames = inner; done = out.steps.items; level = made }) (omega arith) k h))

-- a shift
shift_tree : (S : Type 0) (is_left : Bool) (made : List Step) (t : List Lexical) (d : List ℕ) (n : Option ℕ) → n ≡ number_in d → Tree S 8 made t → Tree S 8 (made ++ shift_step is_left n ∷ []) (t ++ shift_text is_left ∷ number d ∷ [])
shift_tree S true made t d n e h = shifted_left S made t d n e h
shift_tree S false made t d n e h = shifted_right S made t d n e h

pub shift_behind : (S : Type 0) (all : List Lexical) (least from : ℕ) (frames outer : List Frame) (done new : List Step) (l at next : ℕ) (n : Option ℕ) (d : List ℕ) (is_left : Bool) → outer ≡ frames → new ≡ done ++ shift_step is_left n ∷ []
    → Next all at (shift_text is_left) → next ≡ (at + 1) + 1 → Next all (at + 1) (number d) → n ≡ number_in d → 8 ≤ l → wanted_level least frames ≤ 8
    → IsBehind S all least from frames l done at → IsBehind S all least from outer 8 new next
shift_behind S all least from frames outer done new l at next n d is_left e f p q r value tight fits h = subst (λ (fs : List Frame). IsBehind S all least from fs 8 new next) (sym e) (record {
  mid = h.mid;
  before = h.before;
  made = h.made ++ shift_step is_left n ∷ [];
  under = h.under;
  operand = subst (λ (c : ℕ). Reads all h.mid c (Tree S 8 (h.made ++ shift_step is_left n ∷ []))) (sym q)
      (and_token all h.mid (at + 1) (number d) (λ t. (u : List Lexical) × Tree S 8 h.made u × (t ≡ u ++ shift_text is_left ∷ [])) (Tree S 8 (h.made ++ shift_step is_left n ∷ []))
      (and_token all h.mid at (shift_text is_left) (Tree S l h.made) (λ t. (u : List Lexical) × Tree S 8 h.made u × (t ≡ u ++ shift_text is_left ∷ [])) h.operand p (λ t tree. (t, looser S l 8 h.made t tight tree, refl))) r
      (λ t i. subst (λ (xs : List Lexical). Tree S 8 (h.made ++ shift_step is_left n ∷ []) xs) (sym (append_assoc i.0 (shift_text is_left ∷ []) (number d ∷ [])) ∙ ap (λ xs. xs ++ number d ∷ []) (sym i.2)) (shift_tree S is_left h.made i.0 d n value i.1)));
  fits = fits;
  steps = λ s. f ∙ ap (λ xs. xs ++ shift_step is_left n ∷ []) (h.steps s) ∙ append_assoc h.before h.made (shift_step is_left n ∷ []);
})

-- the end of an expression
pub whole_read : (S : Type 0) (all : List Lexical) (least from l at : ℕ) (frames : List Frame) (done : List Step) → frames ≡ [] → IsBehind S all least from frames l done at → Reads all from at (Tree S least done)
whole_read S all least from l at frames done e k = let h : IsBehind S all least from [] l done at = subst (λ (fs : List Frame). IsBehind S all least from fs l done at) e k in
    subst (λ (m : ℕ). Reads all m at (Tree S least done)) h.under.at_front
    (as_well all h.mid at (Tree S l h.made) (Tree S least done) h.operand
    (λ t tree. revalued S least h.made done t t (λ s. sym (h.steps s ∙ ap (λ xs. xs ++ h.made) (h.under.nothing s))) refl (looser S l least h.made t h.fits tree)))

held : List Frame → List Step → ℕ → Held
held fs new m = record { frames = fs; done = new; level = m }

none_is : (n : ℕ) → (1 ≤ n → ⊥) → n ≡ 0
none_is zero h = refl
none_is (suc n) h = absurd (h (omega arith))

pub closed_level : (frames : List Frame) (done : List Step) (l : ℕ) (inner : List Frame) (f : Frame) (outer : List Frame) (new : List Step) (m : ℕ) → ended 1 frames done l ≡ record { frames = inner; done = new; level = m } → inner ≡ f ∷ outer → own_level f ≡ 0
unfolding held
closed_level frames done l inner f outer new m e k = none_is (own_level f) (λ some. none_open 1 frames done l f outer new m refl some (e ∙ ap (λ (fs : List Frame). held fs new m) k))

pub stepped : (done new : List Step) (s t : Step) → new ≡ done ++ s ∷ [] → s ≡ t → new ≡ done ++ t ∷ []
stepped done new s t e f = e ∙ ap (λ (x : Step). done ++ x ∷ []) f

-- a place that ends with its own sign
pub place_ends : (lexemes : List Lexeme) (old : Partial) (outer : List Frame) (name : List ℕ) (b c : bracket.Bracket) (before count at next : ℕ) (new : List Step) → b ≡ c → count ≡ min (before + 1) (2 ^ 32 - 1) → outer ≡ old.frames
    → new ≡ old.steps.items ++ place_step c name count ∷ [] → next ≡ at + 1 → Next (texts lexemes) at (closing c)
    → (least l from : ℕ) → least ≤ 11 → IsBehind (IsFit (texts lexemes)) (texts lexemes) least from (frame.Places name b before ∷ old.frames) l old.steps.items at → IsBehind (IsFit (texts lexemes)) (texts lexemes) least from outer 11 new next
place_ends lexemes old outer name b c before count at next new same e f g p n least l from within h =
    let k : IsBehind (IsFit (texts lexemes)) (texts lexemes) least from (frame.Places name c before ∷ old.frames) l old.steps.items at =
    subst (λ (d : bracket.Bracket). IsBehind (IsFit (texts lexemes)) (texts lexemes) least from (frame.Places name d before ∷ old.frames) l old.steps.items at) same h in
    closes (IsFit (texts lexemes)) (texts lexemes) least from old.frames outer (frame.Places name c before) (place_step c name count ∷ []) old.steps.items new l at next (closing c) f (λ s. g) p n refl
    (λ made steps t u short part tree tight. places_last (texts lexemes) name c before count l made steps t u e short part tree tight) k
