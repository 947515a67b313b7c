-- How an expression is read on.
use Rattle.std.proofs.Common.{◌≡◌, ◌<◌, ◌≤◌, ◌+◌, ℕ, Bool, true, false, List, [], ◌∷◌, ◌++◌, length, ap, sym, refl, ◌∙◌, subst, append_assoc, arith, nat_le, if◌then◌else◌, Result, Ok, Err}
use Rattle.std.specs.Result.{IfOk}
use Rattle.std.proofs.lemmas.List.{append-nil}
use Rattle.std.proofs.lemmas.Bool.Decides.{nat_tests}
use Rattle.kernel_grammar.specs.declared.step.Infix.{Infix}
use Rattle.kernel_grammar.specs.declared.step.Infix.TheVariants as infixed
use Rattle.kernel_grammar.specs.declared.step.Prefix.{Prefix}
use Rattle.kernel_grammar.specs.declared.step.Prefix.TheVariants as prefix
use Rattle.kernel_grammar.specs.declared.step.Step.{Step}
use Rattle.kernel_grammar.specs.declared.step.Step.TheVariants as step
use Rattle.kernel_grammar.specs.Lexicals.{Lexical, mark}
use Rattle.kernel_expressions.specs.declared.frame.Frame.{Frame}
use Rattle.kernel_expressions.specs.declared.frame.Frame.TheVariants as frame
use Rattle.kernel_expressions.specs.Reads.{Next, Reads}
use Rattle.kernel_expressions.specs.Levels.{level, prefix_level, Tree}
use Rattle.kernel_expressions.specs.Frames.{inner_level, own_level, made_level, wanted_level, Operates, Closes, GoesOn, Part, StartsAt}
use Rattle.kernel_expressions.specs.Ended.{Held, end_step, ended}
use Rattle.kernel_expressions.specs.declared.lexeme.Lexeme.{Lexeme}
use Rattle.kernel_expressions.specs.declared.partial.Partial.{Partial}
use Rattle.kernel_expressions.specs.declared.partial.Turn as turn
use Rattle.kernel_expressions.specs.declared.stop.Stop.{Stop}
use Rattle.kernel_expressions.specs.Texts.{texts, IsFit}
use Rattle.kernel_expressions.specs.Turns.{IsOpen, IsBehind, IsTurn, MovesAt, Moves, MovesOut, OpensPart}
use Rattle.kernel_expressions.proofs.Join.{behind, one, two_and_token, two_short}
use Rattle.kernel_expressions.proofs.Trees.{looser}

level_within : (op : Infix) → level op ≤ 10
level_within infixed.Or = omega arith
level_within infixed.And = omega arith
level_within (infixed.Compare relation) = omega arith
level_within infixed.NotEqual = omega arith
level_within infixed.BitOr = omega arith
level_within infixed.BitXor = omega arith
level_within infixed.BitAnd = omega arith
level_within infixed.Add = omega arith
level_within infixed.Subtract = omega arith
level_within infixed.Multiply = omega arith
level_within infixed.Divide = omega arith
level_within infixed.Remainder = omega arith
level_within (infixed.Extreme which) = omega arith

level_some : (op : Infix) → 1 ≤ level op
level_some infixed.Or = omega arith
level_some infixed.And = omega arith
level_some (infixed.Compare relation) = omega arith
level_some infixed.NotEqual = omega arith
level_some infixed.BitOr = omega arith
level_some infixed.BitXor = omega arith
level_some infixed.BitAnd = omega arith
level_some infixed.Add = omega arith
level_some infixed.Subtract = omega arith
level_some infixed.Multiply = omega arith
level_some infixed.Divide = omega arith
level_some infixed.Remainder = omega arith
level_some (infixed.Extreme which) = omega arith

-- an operand may follow at each place but for `not`
prefix_within : (op : Prefix) → prefix_level op ≤ 11
prefix_within prefix.Not = omega arith
prefix_within prefix.Negate = omega arith
prefix_within prefix.Invert = omega arith

-- a part is opened
pub opens : (S : Type 0) (all : List Lexical) (least from : ℕ) (frames : List Frame) (f : Frame) (done : List Step) (mid at : ℕ) → IsOpen S all least from frames done mid
    → Reads all mid at (Part S f []) → StartsAt f at → wanted_level least frames ≤ made_level f → IsOpen S all least from (f ∷ frames) done at
opens S all least from frames f done mid at h part starts fits = record {
  mid = mid;
  before = done;
  made = [];
  under = h;
  part = part;
  starts = starts;
  fits = fits;
  steps = λ s. sym (append-nil done);
}

-- an operand stands there
pub stands : (S : Type 0) (all : List Lexical) (least from : ℕ) (frames : List Frame) (done new made : List Step) (l mid at : ℕ) → IsOpen S all least from frames done mid
    → Reads all mid at (Tree S l made) → wanted_level least frames ≤ l → new ≡ done ++ made → IsBehind S all least from frames l new at
stands S all least from frames done new made l mid at h operand fits e = record {
  mid = mid;
  before = done;
  made = made;
  under = h;
  operand = operand;
  fits = fits;
  steps = λ s. e;
}

-- an operator ends
operator_ends : (S : Type 0) (all : List Lexical) (least from : ℕ) (frames : List Frame) (f : Frame) (inner outer : ℕ) (last : List Step) (done : List Step) (l at : ℕ)
    → (h : IsBehind S all least from (f ∷ frames) l done at) → ((made : List Step) (t : List Lexical) → Part S f made t → Operates S inner outer last made t) → inner ≤ l → wanted_level least frames ≤ outer → IsBehind S all least from frames outer (done ++ last) at
operator_ends S all least from frames f inner outer last done l at h as_operator tight fits = record {
  mid = h.under.mid;
  before = h.under.before;
  made = h.under.made ++ h.made ++ last;
  under = h.under.under;
  operand = behind all h.under.mid h.mid at (Part S f h.under.made) (Tree S l h.made) (Tree S outer (h.under.made ++ h.made ++ last)) h.under.part h.operand
      (λ t u p q. (as_operator h.under.made t p).ends h.made u (looser S l inner h.made u tight q));
  fits = fits;
  steps = λ s. ap (λ xs. xs ++ last) (h.steps s ∙ ap (λ xs. xs ++ h.made) (h.under.steps s) ∙ append_assoc h.under.before h.under.made h.made)
      ∙ append_assoc h.under.before (h.under.made ++ h.made) last;
}

-- the operators that are ended
record IsHeld (S : Type 0) (all : List Lexical) (least from at : ℕ) (held : Held) : Type 0 where
  behind : IsBehind S all least from held.frames held.level held.done at

low : (p : ℕ) → 0 < p → nat_le p 0 ≡ false
low p h = grind (arith, nat_tests, h)

ended_if : (S : Type 0) (all : List Lexical) (least from at : ℕ) (b : Bool) (x y : Held) → IsHeld S all least from at x → IsHeld S all least from at y → IsHeld S all least from at (if b then x else y)
ended_if S all least from at true x y h k = h
ended_if S all least from at false x y h k = k

ended_not : (S : Type 0) (all : List Lexical) (least from at : ℕ) (b : Bool) (x y : Held) → b ≡ false → IsHeld S all least from at y → IsHeld S all least from at (if b then x else y)
ended_not S all least from at true x y e k = absurd (cc)
ended_not S all least from at false x y e k = k

ends : (S : Type 0) (all : List Lexical) (least from at p : ℕ) (frames : List Frame) (done : List Step) (l : ℕ) → 0 < p → IsBehind S all least from frames l done at → IsHeld S all least from at (ended p frames done l)
ends S all least from at p [] done l h k = record { behind = k }
ends S all least from at p (frame.Infix op ∷ frames) done l h k = ended_if S all least from at (nat_le p (level op)) _ _
    (ends S all least from at p frames (done ++ step.Infix op ∷ []) (level op) h (operator_ends S all least from frames (frame.Infix op) (level op + 1) (level op) (step.Infix op ∷ []) done l at k (λ made t q. q) k.fits k.under.fits))
    (record { behind = k })
ends S all least from at p (frame.Prefix op ∷ frames) done l h k = ended_if S all least from at (nat_le p (prefix_level op)) _ _
    (ends S all least from at p frames (done ++ step.Prefix op ∷ []) (prefix_level op) h (operator_ends S all least from frames (frame.Prefix op) (prefix_level op) (prefix_level op) (step.Prefix op ∷ []) done l at k (λ made t q. q) k.fits k.under.fits))
    (record { behind = k })
ends S all least from at p (frame.Group ∷ frames) done l h k = ended_not S all least from at (nat_le p 0) _ _ (low p h) (record { behind = k })
ends S all least from at p (frame.Body last ∷ frames) done l h k = ended_not S all least from at (nat_le p 0) _ _ (low p h) (record { behind = k })
ends S all least from at p (frame.Places name b count ∷ frames) done l h k = ended_not S all least from at (nat_le p 0) _ _ (low p h) (record { behind = k })
ends S all least from at p (frame.First which start ∷ frames) done l h k = ended_not S all least from at (nat_le p 0) _ _ (low p h) (record { behind = k })
ends S all least from at p (frame.Test ∷ frames) done l h k = ended_not S all least from at (nat_le p 0) _ _ (low p h) (record { behind = k })
ends S all least from at p (frame.Then ∷ frames) done l h k = ended_not S all least from at (nat_le p 0) _ _ (low p h) (record { behind = k })

-- where operators are ended, an operand of the new level stands
pub ends_to : (S : Type 0) (all : List Lexical) (least from at p : ℕ) (frames : List Frame) (done : List Step) (l : ℕ) (held : Held) → 0 < p → ended p frames done l ≡ held → IsBehind S all least from frames l done at
    → IsBehind S all least from held.frames held.level held.done at
ends_to S all least from at p frames done l held h e k = (subst (IsHeld S all least from at) e (ends S all least from at p frames done l h k)).behind

none_if : (p : ℕ) (b : Bool) (g : Frame) (frames : List Frame) (done : List Step) (l : ℕ) (x : Held) (f : Frame) (outer : List Frame) (new : List Step) (m : ℕ) → nat_le p (own_level g) ≡ b → p ≡ 1 → 1 ≤ own_level f
    → (x ≡ record { frames = f ∷ outer; done = new; level = m } → ⊥) → (if b then x else record { frames = g ∷ frames; done = done; level = l }) ≡ record { frames = f ∷ outer; done = new; level = m } → ⊥
none_if p true g frames done l x f outer new m t one some below e = below e
none_if p false g frames done l x f outer new m t one some below e =
    let k : g ∷ frames ≡ f ∷ outer = ap (λ (h : Held). h.frames) e in
    let same : g ≡ f = cc in
    let high : 1 ≤ own_level g = subst (λ (x : Frame). 1 ≤ own_level x) (sym same) some in
    absurd (grind (arith, nat_tests, t, one, high))

-- no operator is open where all are ended
pub none_open : (p : ℕ) (frames : List Frame) (done : List Step) (l : ℕ) (f : Frame) (outer : List Frame) (new : List Step) (m : ℕ) → p ≡ 1 → 1 ≤ own_level f → ended p frames done l ≡ record { frames = f ∷ outer; done = new; level = m } → ⊥
none_open p [] done l f outer new m one some e = let k : [] ≡ f ∷ outer = ap (λ (h : Held). h.frames) e in cc
none_open p (g ∷ frames) done l f outer new m one some e = none_if p (nat_le p (own_level g)) g frames done l (ended p frames (done ++ end_step g) (own_level g)) f outer new m refl one some
    (none_open p frames (done ++ end_step g) (own_level g) f outer new m one some) e

-- an operand of the tightest level may stand at each place
pub wanted_within : (least : ℕ) (frames : List Frame) → least ≤ 11 → wanted_level least frames ≤ 11
wanted_within least [] h = h
wanted_within least (frame.Infix op ∷ frames) h = omega (arith, level_within op)
wanted_within least (frame.Prefix op ∷ frames) h = prefix_within op
wanted_within least (frame.Group ∷ frames) h = omega arith
wanted_within least (frame.Body last ∷ frames) h = omega arith
wanted_within least (frame.Places name b count ∷ frames) h = omega arith
wanted_within least (frame.First which start ∷ frames) h = omega arith
wanted_within least (frame.Test ∷ frames) h = omega arith
wanted_within least (frame.Then ∷ frames) h = omega arith

-- an opened part
pub opens_into : (lexemes : List Lexeme) (old new : Partial) (f : Frame) (at : ℕ) (next : turn.Turn) → OpensPart old f at new next → (least from : ℕ)
    → IsOpen (IsFit (texts lexemes)) (texts lexemes) least from (f ∷ old.frames) old.steps.items at → IsTurn (IsFit (texts lexemes)) (texts lexemes) least from new.frames new.steps.items next
opens_into lexemes old new f at next o least from h =
    subst (λ (t : turn.Turn). IsTurn (IsFit (texts lexemes)) (texts lexemes) least from new.frames new.steps.items t) (sym o.next_is)
    (subst (λ (fs : List Frame). IsOpen (IsFit (texts lexemes)) (texts lexemes) least from fs new.steps.items at) (sym o.frames)
    (subst (λ (ss : List Step). IsOpen (IsFit (texts lexemes)) (texts lexemes) least from (f ∷ old.frames) ss at) (sym o.steps) h))

-- a part that is opened
pub opened_turn : (lexemes : List Lexeme) (old new : Partial) (f : Frame) (mid at : ℕ) (next : turn.Turn) → OpensPart old f at new next → (least from : ℕ)
    → IsOpen (IsFit (texts lexemes)) (texts lexemes) least from old.frames old.steps.items mid → Reads (texts lexemes) mid at (Part (IsFit (texts lexemes)) f []) → StartsAt f at → wanted_level least old.frames ≤ made_level f
    → IsTurn (IsFit (texts lexemes)) (texts lexemes) least from new.frames new.steps.items next
opened_turn lexemes old new f mid at next o least from h part starts fits = opens_into lexemes old new f at next o least from
    (opens (IsFit (texts lexemes)) (texts lexemes) least from old.frames f old.steps.items mid at h part starts fits)

pub opened_moves : (lexemes : List Lexeme) (old new : Partial) (f : Frame) (mid at : ℕ) (r : Result turn.Turn Stop) → IfOk r (λ t. OpensPart old f at new t)
    → Reads (texts lexemes) mid at (Part (IsFit (texts lexemes)) f []) → StartsAt f at → made_level f ≡ 11 → IfOk r (λ t. Moves lexemes old mid new t)
opened_moves lexemes old new f mid at (Ok next) o part starts tight = λ least from h open_to. opened_turn lexemes old new f mid at next o least from open_to part starts (omega (arith, tight, wanted_within least old.frames h))
opened_moves lexemes old new f mid at (Err e) o part starts tight = tt

pub opened_moves_at : (lexemes : List Lexeme) (least wanted : ℕ) (old new : Partial) (f : Frame) (mid at : ℕ) (r : Result turn.Turn Stop) → wanted ≡ wanted_level least old.frames → wanted ≤ made_level f → IfOk r (λ t. OpensPart old f at new t)
    → Reads (texts lexemes) mid at (Part (IsFit (texts lexemes)) f []) → StartsAt f at → IfOk r (λ t. MovesAt lexemes least old mid new t)
opened_moves_at lexemes least wanted old new f mid at (Ok next) e tight o part starts = λ from h open_to. opened_turn lexemes old new f mid at next o least from open_to part starts (omega (arith, e, tight))
opened_moves_at lexemes least wanted old new f mid at (Err x) e tight o part starts = tt

-- an operand of the tightest level
pub operand_there : (S : Type 0) (all : List Lexical) (frames outer : List Frame) (done new made : List Step) (mid at : ℕ) → outer ≡ frames → new ≡ done ++ made → Reads all mid at (Tree S 11 made)
    → (least from : ℕ) → least ≤ 11 → IsOpen S all least from frames done mid → IsBehind S all least from outer 11 new at
operand_there S all frames outer done new made mid at e f h least from within is_open =
    subst (λ (fs : List Frame). IsBehind S all least from fs 11 new at) (sym e) (stands S all least from frames done new made 11 mid at is_open h (wanted_within least frames within) f)

pub three_steps : (done : List Step) (one two three : List Step) (a b c : Step) → one ≡ done ++ a ∷ [] → two ≡ one ++ b ∷ [] → three ≡ two ++ c ∷ [] → three ≡ done ++ a ∷ b ∷ c ∷ []
three_steps done one two three a b c e f g = g ∙ ap (λ xs. xs ++ c ∷ []) f ∙ ap (λ xs. (xs ++ b ∷ []) ++ c ∷ []) e ∙ simp append_assoc

-- a part ends with a token
pub closes : (S : Type 0) (all : List Lexical) (least from : ℕ) (frames outer : List Frame) (f : Frame) (last done new : List Step) (l at next : ℕ) (x : Lexical)
    → outer ≡ frames → (S → new ≡ done ++ last) → next ≡ at + 1 → Next all at x → made_level f ≡ 11
    → ((made steps : List Step) (t u : List Lexical) → length t + length u ≤ length all → Part S f made t → Tree S l steps u → inner_level f ≤ l → Tree S 11 (made ++ steps ++ last) (t ++ u ++ x ∷ []))
    → IsBehind S all least from (f ∷ frames) l done at → IsBehind S all least from outer 11 new next
closes S all least from frames outer f last done new l at next x e g p n tight ends h =
    subst (λ (fs : List Frame). IsBehind S all least from fs 11 new next) (sym e) (record {
      mid = h.under.mid;
      before = h.under.before;
      made = h.under.made ++ h.made ++ last;
      under = h.under.under;
      operand = two_and_token all h.under.mid h.mid at next x (Part S f h.under.made) (Tree S l h.made) (Tree S 11 (h.under.made ++ h.made ++ last)) h.under.part h.operand p n
          (ends h.under.made h.made h.under.part.text h.operand.text (two_short all h.under.mid h.mid at (Part S f h.under.made) (Tree S l h.made) h.under.part h.operand) h.under.part.is h.operand.is h.fits);
      fits = subst (λ (m : ℕ). wanted_level least frames ≤ m) tight h.under.fits;
      steps = λ s. g s ∙ ap (λ xs. xs ++ last) (h.steps s ∙ ap (λ xs. xs ++ h.made) (h.under.steps s) ∙ append_assoc h.under.before h.under.made h.made) ∙ append_assoc h.under.before (h.under.made ++ h.made) last;
    })

-- a part goes on with a token
pub goes_on : (S : Type 0) (all : List Lexical) (least from : ℕ) (frames : List Frame) (f g : Frame) (keep done new : List Step) (l at next : ℕ) (x : Lexical)
    → next ≡ at + 1 → Next all at x → made_level f ≡ 11 → made_level g ≡ 11 → StartsAt g next
    → (h : IsBehind S all least from (f ∷ frames) l done at) → (S → new ≡ h.under.before ++ keep) → Part S g keep (h.under.part.text ++ h.operand.text ++ x ∷ [])
    → IsOpen S all least from (g ∷ frames) new next
goes_on S all least from frames f g keep done new l at next x p n tight tight_on starts h w part = record {
  mid = h.under.mid;
  before = h.under.before;
  made = keep;
  under = h.under.under;
  part = two_and_token all h.under.mid h.mid at next x (Part S f h.under.made) (Tree S l h.made) (Part S g keep) h.under.part h.operand p n part;
  starts = starts;
  fits = subst (λ (m : ℕ). wanted_level least frames ≤ m) (tight ∙ sym tight_on) h.under.fits;
  steps = w;
}

-- it goes on with all of its steps
pub goes_on_whole : (lexemes : List Lexeme) (old new : Partial) (f g : Frame) (at next : ℕ) (x : Lexical) (r : Result turn.Turn Stop) → IfOk r (λ t. OpensPart old g next new t)
    → next ≡ at + 1 → Next (texts lexemes) at x → made_level f ≡ 11 → made_level g ≡ 11 → StartsAt g next
    → ((l : ℕ) (made steps : List Step) (t u : List Lexical) → length t + length u ≤ length (texts lexemes) → Part (IsFit (texts lexemes)) f made t → Tree (IsFit (texts lexemes)) l steps u → inner_level f ≤ l
    → Part (IsFit (texts lexemes)) g (made ++ steps) (t ++ u ++ x ∷ []))
    → IfOk r (λ t. MovesOut lexemes f old at new t)
goes_on_whole lexemes old new f g at next x (Err e) o p n tight tight_on starts ends = tt
goes_on_whole lexemes old new f g at next x (Ok t) o p n tight tight_on starts ends = λ least level from within h. opens_into lexemes old new g next t o least from
    (goes_on (IsFit (texts lexemes)) (texts lexemes) least from old.frames f g (h.under.made ++ h.made) old.steps.items old.steps.items level at next x p n tight tight_on starts h
    (λ s. h.steps s ∙ ap (λ xs. xs ++ h.made) (h.under.steps s) ∙ append_assoc h.under.before h.under.made h.made)
    (ends level h.under.made h.made h.under.part.text h.operand.text (two_short (texts lexemes) h.under.mid h.mid at (Part (IsFit (texts lexemes)) f h.under.made) (Tree (IsFit (texts lexemes)) level h.made) h.under.part h.operand) h.under.part.is h.operand.is h.fits))

-- a closed parenthesis or body
pub body_closes : (S : Type 0) (l : ℕ) (last made steps : List Step) (t u : List Lexical) → Closes S last made t → Tree S l steps u → 1 ≤ l → Tree S 11 (made ++ steps ++ last) (t ++ u ++ mark ")" ∷ [])
body_closes S l last made steps t u part tree tight = part.ends steps u (looser S l 1 steps u tight tree)

-- a part before a comma
pub part_goes : (S : Type 0) (P : List Step → List Lexical → Type 0) (l : ℕ) (made steps : List Step) (t u : List Lexical) → GoesOn S P made t → Tree S l steps u → 1 ≤ l → P (made ++ steps) (t ++ u ++ mark "," ∷ [])
part_goes S P l made steps t u part tree tight = part.on steps u (looser S l 1 steps u tight tree)

-- nothing is read yet
pub begins : (S : Type 0) (all : List Lexical) (least at : ℕ) (frames : List Frame) (done : List Step) → frames ≡ [] → done ≡ [] → IsOpen S all least at frames done at
begins S all least at frames done e f = subst (λ (fs : List Frame). IsOpen S all least at fs done at) (sym e) (record { at_front = refl; nothing = λ s. f })
