-- Operators that are ended where no operator goes on, or before a shift.
use Rattle.std.proofs.Common.{◌≡◌, ◌<◌, ◌≤◌, ℕ, Bool, true, false, List, [], ◌∷◌, ◌++◌, ap, sym, refl, ◌∙◌, subst, append_assoc, arith, nat_le, inl, inr, ◌⊎◌}
use Rattle.std.proofs.lemmas.List.{append-nil}
use Rattle.kernel_grammar.specs.declared.step.Prefix.TheVariants as prefix
use Rattle.kernel_grammar.specs.declared.step.Step.{Step}
use Rattle.kernel_grammar.specs.Lexicals.{Lexical, number, mark}
use Rattle.kernel_expressions.specs.declared.frame.Bracket as bracket
use Rattle.kernel_expressions.specs.declared.frame.Bracket.TheVariants as brackets
use Rattle.kernel_expressions.specs.declared.frame.Frame.{Frame}
use Rattle.kernel_expressions.specs.declared.frame.Frame.TheVariants as frame
use Rattle.kernel_expressions.specs.Levels.{level}
use Rattle.kernel_expressions.specs.Frames.{inner_level, own_level, made_level, wanted_level, closing}
use Rattle.kernel_expressions.specs.Turns.{shift_text}
use Rattle.kernel_expressions.specs.Ended.{Held, end_step, ended}
use Rattle.kernel_expressions.specs.Tails.{Link, applied, shifted, tail_text, Extends, more_places, Closing, ClosesAll}
use Rattle.kernel_expressions.specs.Settled.{level_at}
use Rattle.kernel_expressions.proofs.Closings.{level_is, bounds, low, if_true, if_false, within, past}

-- The text does not go on with an operator or a shift.
pub record GoesOnWithNone (text : List Lexical) : Type 0 where
  pub operator : (x : Lexical) (xs : List Lexical) → text ≡ x ∷ xs → level_at x ≡ 0

-- the signs of shifts
pub shift_level : (is_left : Bool) → level_at (shift_text is_left) ≡ 8
shift_level true = refl
shift_level false = refl

-- What is open is closed by the text.
abbrev pub ClosesHeld : ℕ → List Frame → List Lexical → Type 0
ClosesHeld least [] text = text ≡ []
ClosesHeld least (f ∷ frames) text = (own_level f ≡ 0) × (close : List Lexical) × (rest : List Lexical) × Closing f close × ClosesAll least frames (made_level f) rest × (text ≡ close ++ rest)

pub record Closed (least : ℕ) (text : List Lexical) (held : Held) : Type 0 where
  pub is : ClosesHeld least held.frames text

-- there are no links
no_links : (cur to : ℕ) (text others : List Lexical) (links : List Link) → GoesOnWithNone text → Extends cur to links → text ≡ tail_text links ++ others → (to ≤ cur) × (text ≡ others)
no_links cur to text others [] h e k = (e, k)
no_links cur to text others (applied op y u ∷ links) h e k = absurd (omega (arith, (bounds op).some, sym (level_is op y e.0) ∙ h.operator y ((u ++ tail_text links) ++ others) k))
no_links cur to text others (shifted is_left d ∷ links) h e k = absurd (omega (arith, shift_level is_left, h.operator (shift_text is_left) (number d ∷ tail_text links ++ others) k))

closes_part : (least : ℕ) (text : List Lexical) (f : Frame) (frames : List Frame) (done : List Step) (cur : ℕ) (close rest : List Lexical) → inner_level f ≤ cur → Closing f close → ClosesAll least frames (made_level f) rest → text ≡ close ++ rest
    → ((next : List Step) → ClosesAll least frames (own_level f) text → Closed least text (ended 1 frames next (own_level f))) → Closed least text (ended 1 (f ∷ frames) done cur)
closes_part least text (frame.Infix g) frames done cur close rest l c k e ih =
    if_true (Closed least text) (nat_le 1 (level g)) _ _ (within 1 (level g) (bounds g).some) (ih (done ++ end_step (frame.Infix g)) (subst (ClosesAll least frames (level g)) (sym (e ∙ ap (λ xs. xs ++ rest) c)) k))
closes_part least text (frame.Prefix prefix.Not) frames done cur close rest l c k e ih = ih (done ++ end_step (frame.Prefix prefix.Not)) (subst (ClosesAll least frames 3) (sym (e ∙ ap (λ xs. xs ++ rest) c)) k)
closes_part least text (frame.Prefix prefix.Negate) frames done cur close rest l c k e ih = ih (done ++ end_step (frame.Prefix prefix.Negate)) (subst (ClosesAll least frames 11) (sym (e ∙ ap (λ xs. xs ++ rest) c)) k)
closes_part least text (frame.Prefix prefix.Invert) frames done cur close rest l c k e ih = ih (done ++ end_step (frame.Prefix prefix.Invert)) (subst (ClosesAll least frames 11) (sym (e ∙ ap (λ xs. xs ++ rest) c)) k)
closes_part least text frame.Group frames done cur close rest l c k e ih = record { is = (refl, close, rest, c, k, e) }
closes_part least text (frame.Body s) frames done cur close rest l c k e ih = record { is = (refl, close, rest, c, k, e) }
closes_part least text (frame.Places name b count) frames done cur close rest l c k e ih = record { is = (refl, close, rest, c, k, e) }
closes_part least text (frame.First which start) frames done cur close rest l c k e ih = record { is = (refl, close, rest, c, k, e) }
closes_part least text frame.Test frames done cur close rest l c k e ih = record { is = (refl, close, rest, c, k, e) }
closes_part least text frame.Then frames done cur close rest l c k e ih = record { is = (refl, close, rest, c, k, e) }

-- Where all operators are ended, the text closes the innermost part, or nothing is open and no text is left.
pub ended_closes : (least cur : ℕ) (text : List Lexical) (frames : List Frame) (done : List Step) → GoesOnWithNone text → ClosesAll least frames cur text → Closed least text (ended 1 frames done cur)
ended_closes least cur text [] done h c = record { is = (no_links cur least text [] c.0 h c.1 (c.2 ∙ sym (append-nil (tail_text c.0)))).1 }
ended_closes least cur text (f ∷ frames) done h c =
    let none = no_links cur (inner_level f) text (c.1 ++ c.2) c.0 h c.3 (c.6 ∙ append_assoc (tail_text c.0) c.1 c.2) in
    closes_part least text f frames done cur c.1 c.2 none.0 c.4 c.5 none.1 (λ next k. ended_closes least (own_level f) text frames next h k)

-- no text is left
pub nothing_left : GoesOnWithNone []
nothing_left = record { operator = λ x xs e. absurd (cc) }

some_places : (texts : List (List Lexical)) (close : Lexical) (rest : List Lexical) → [] ≡ more_places texts close ++ rest → ⊥
some_places [] close rest e = cc
some_places (text ∷ texts) close rest e = cc

-- where no text is left, only operators are open
only_operators : (f : Frame) (close rest : List Lexical) → Closing f close → [] ≡ close ++ rest → (made_level f ≡ own_level f) × (own_level f ≤ inner_level f) × ([] ≡ rest)
only_operators (frame.Infix g) close rest c e = (refl, omega arith, e ∙ ap (λ xs. xs ++ rest) c)
only_operators (frame.Prefix g) close rest c e = (refl, omega arith, e ∙ ap (λ xs. xs ++ rest) c)
only_operators frame.Group close rest c e = let k : [] ≡ mark ")" ∷ rest = e ∙ ap (λ xs. xs ++ rest) c in absurd (cc)
only_operators (frame.Body s) close rest c e = let k : [] ≡ mark ")" ∷ rest = e ∙ ap (λ xs. xs ++ rest) c in absurd (cc)
only_operators (frame.Places name b count) close rest c e = absurd (some_places c.0 (closing b) rest (e ∙ ap (λ xs. xs ++ rest) c.2))
only_operators (frame.First which start) close rest c e = let k : [] ≡ mark "," ∷ ((c.0 ++ mark ")" ∷ []) ++ rest) = e ∙ ap (λ xs. xs ++ rest) c.2 in absurd (cc)
only_operators frame.Test close rest c e = let k : [] ≡ mark "," ∷ (((c.0 ++ mark "," ∷ c.1) ++ mark ")" ∷ []) ++ rest) = e ∙ ap (λ xs. xs ++ rest) c.4 in absurd (cc)
only_operators frame.Then close rest c e = let k : [] ≡ mark "," ∷ ((c.0 ++ mark ")" ∷ []) ++ rest) = e ∙ ap (λ xs. xs ++ rest) c.2 in absurd (cc)

-- The operators are all ended, and the operand is tight enough.
pub record Whole (least cur : ℕ) (held : Held) : Type 0 where
  pub none : held.frames ≡ []
  pub tight : least ≤ cur
  pub made : least ≤ held.level

whole_if : (least p : ℕ) (f : Frame) (frames : List Frame) (done : List Step) (cur : ℕ) → p ≤ least → own_level f ≤ cur → Whole least (own_level f) (ended p frames (done ++ end_step f) (own_level f)) → Whole least cur (ended p (f ∷ frames) done cur)
whole_if least p f frames done cur h k w =
    let tight : least ≤ cur = omega (arith, w.tight, k) in
    if_true (Whole least cur) (nat_le p (own_level f)) _ _ (within p (own_level f) (omega (arith, h, w.tight))) (record { none = w.none; tight = tight; made = w.made })

-- Where no text is left, all operators are ended by an operator that is loose enough.
pub ended_whole : (least p cur : ℕ) (frames : List Frame) (done : List Step) → p ≤ least → ClosesAll least frames cur [] → Whole least cur (ended p frames done cur)
ended_whole least p cur [] done h c = let k = (no_links cur least [] [] c.0 nothing_left c.1 (c.2 ∙ sym (append-nil (tail_text c.0)))).0 in record { none = refl; tight = k; made = k }
ended_whole least p cur (f ∷ frames) done h c =
    let none = no_links cur (inner_level f) [] (c.1 ++ c.2) c.0 nothing_left c.3 (c.6 ∙ append_assoc (tail_text c.0) c.1 c.2) in
    let part = only_operators f c.1 c.2 c.4 none.1 in
    whole_if least p f frames done cur h (omega (arith, part.1, none.0))
    (ended_whole least p (own_level f) frames (done ++ end_step f) h (subst (λ (l : ℕ). ClosesAll least frames l []) part.0 (subst (ClosesAll least frames (made_level f)) (sym part.2) c.5)))

-- A shift goes on, and its number stands behind its sign.
pub record Shifts (least : ℕ) (w : List Lexical) (held : Held) : Type 0 where
  pub digits : List ℕ
  pub left : List Lexical
  pub tight : 8 ≤ held.level
  pub loose : wanted_level least held.frames ≤ 8
  pub closes : ClosesAll least held.frames 8 left
  pub whole : w ≡ number digits ∷ left

same_shift : (a b : Bool) (w v : List Lexical) → shift_text a ∷ w ≡ shift_text b ∷ v → w ≡ v
same_shift a b w v e = cc

first_shift : (least cur : ℕ) (b : Bool) (w : List Lexical) (done : List Step) (links : List Link) → Extends cur least links → shift_text b ∷ w ≡ tail_text links → Shifts least w (record { frames = []; done = done; level = cur })
first_shift least cur b w done [] e k = absurd (cc)
first_shift least cur b w done (applied op y u ∷ links) e k = let same : shift_text b ≡ y = cc in absurd ((bounds op).shift (sym (level_is op y e.0) ∙ ap level_at (sym same) ∙ shift_level b))
first_shift least cur b w done (shifted a d ∷ links) e k = record {
  digits = d;
  left = tail_text links;
  tight = e.0;
  loose = low 8 least links e.1;
  closes = (links, e.1, refl);
  whole = same_shift b a w (number d ∷ tail_text links) k;
}

inner_shift : (f : Frame) → inner_level f ≤ 8 → own_level f < 8
inner_shift (frame.Infix g) h = omega (arith, h)
inner_shift (frame.Prefix prefix.Not) h = omega arith
inner_shift (frame.Prefix prefix.Negate) h = absurd (omega (arith, h))
inner_shift (frame.Prefix prefix.Invert) h = absurd (omega (arith, h))
inner_shift frame.Group h = omega arith
inner_shift (frame.Body s) h = omega arith
inner_shift (frame.Places name b count) h = omega arith
inner_shift (frame.First which start) h = omega arith
inner_shift frame.Test h = omega arith
inner_shift frame.Then h = omega arith

-- a sign of a shift closes nothing
not_close : (b : Bool) (y : Lexical) (w v : List Lexical) → (y ≡ mark "<<" → ⊥) → (y ≡ mark ">>" → ⊥) → shift_text b ∷ w ≡ y ∷ v → ⊥
not_close true y w v h k e = h (cc)
not_close false y w v h k e = k (cc)

shift_places : (b : Bool) (texts : List (List Lexical)) (c : bracket.Bracket) (rest w : List Lexical) → shift_text b ∷ w ≡ more_places texts (closing c) ++ rest → ⊥
shift_places b [] brackets.Index rest w e = not_close b (mark "]") w rest (λ k. cc) (λ k. cc) e
shift_places b [] brackets.Call rest w e = not_close b (mark ")") w rest (λ k. cc) (λ k. cc) e
shift_places b (text ∷ texts) c rest w e = not_close b (mark ",") w _ (λ k. cc) (λ k. cc) e

shift_part : (b : Bool) (w : List Lexical) (f : Frame) (close rest : List Lexical) → Closing f close → shift_text b ∷ w ≡ close ++ rest → (made_level f ≡ own_level f) × (own_level f ≤ inner_level f) × (shift_text b ∷ w ≡ rest)
shift_part b w (frame.Infix g) close rest c e = (refl, omega arith, e ∙ ap (λ xs. xs ++ rest) c)
shift_part b w (frame.Prefix g) close rest c e = (refl, omega arith, e ∙ ap (λ xs. xs ++ rest) c)
shift_part b w frame.Group close rest c e = absurd (not_close b (mark ")") w rest (λ k. cc) (λ k. cc) (e ∙ ap (λ xs. xs ++ rest) c))
shift_part b w (frame.Body s) close rest c e = absurd (not_close b (mark ")") w rest (λ k. cc) (λ k. cc) (e ∙ ap (λ xs. xs ++ rest) c))
shift_part b w (frame.Places name d count) close rest c e = absurd (shift_places b c.0 d rest w (e ∙ ap (λ xs. xs ++ rest) c.2))
shift_part b w (frame.First which start) close rest c e = absurd (not_close b (mark ",") w _ (λ k. cc) (λ k. cc) (e ∙ ap (λ xs. xs ++ rest) c.2))
shift_part b w frame.Test close rest c e = absurd (not_close b (mark ",") w _ (λ k. cc) (λ k. cc) (e ∙ ap (λ xs. xs ++ rest) c.4))
shift_part b w frame.Then close rest c e = absurd (not_close b (mark ",") w _ (λ k. cc) (λ k. cc) (e ∙ ap (λ xs. xs ++ rest) c.2))

top_shift : (cur to : ℕ) (b : Bool) (w others : List Lexical) (links : List Link) → Extends cur to links → shift_text b ∷ w ≡ tail_text links ++ others → (8 ≤ cur) ⊎ ((to ≤ cur) × (shift_text b ∷ w ≡ others))
top_shift cur to b w others [] e k = inr (e, k)
top_shift cur to b w others (applied op y u ∷ links) e k = let same : shift_text b ≡ y = cc in absurd ((bounds op).shift (sym (level_is op y e.0) ∙ ap level_at (sym same) ∙ shift_level b))
top_shift cur to b w others (shifted a d ∷ links) e k = inl e.0

above_none : (cur to : ℕ) (b : Bool) (w : List Lexical) → (8 ≤ cur) ⊎ ((to ≤ cur) × (shift_text b ∷ w ≡ [])) → 8 ≤ cur
above_none cur to b w (inl h) = h
above_none cur to b w (inr h) = let e : shift_text b ∷ w ≡ [] = h.1 in absurd (cc)

above_some : (least cur : ℕ) (b : Bool) (w : List Lexical) (f : Frame) (frames : List Frame) (close rest : List Lexical) → Closing f close → ClosesAll least frames (made_level f) rest
    → (ClosesAll least frames (made_level f) (shift_text b ∷ w) → 8 ≤ made_level f) → (8 ≤ cur) ⊎ ((inner_level f ≤ cur) × (shift_text b ∷ w ≡ close ++ rest)) → 8 ≤ cur
above_some least cur b w f frames close rest c k ih (inl l) = l
above_some least cur b w f frames close rest c k ih (inr l) = let part = shift_part b w f close rest c l.1 in omega (arith, l.0, part.0, part.1, ih (subst (ClosesAll least frames (made_level f)) (sym part.2) k))

above : (least cur : ℕ) (b : Bool) (w : List Lexical) (frames : List Frame) → ClosesAll least frames cur (shift_text b ∷ w) → 8 ≤ cur
above least cur b w [] c = above_none cur least b w (top_shift cur least b w [] c.0 c.1 (c.2 ∙ sym (append-nil (tail_text c.0))))
above least cur b w (f ∷ frames) c = above_some least cur b w f frames c.1 c.2 c.4 c.5 (λ k. above least (made_level f) b w frames k) (top_shift cur (inner_level f) b w (c.1 ++ c.2) c.0 c.3 (c.6 ∙ append_assoc (tail_text c.0) c.1 c.2))

shifts_if : (least cur : ℕ) (b : Bool) (w : List Lexical) (f : Frame) (frames : List Frame) (done : List Step) (links : List Link) (close rest : List Lexical) → Extends cur (inner_level f) links → Closing f close
    → ClosesAll least frames (made_level f) rest → shift_text b ∷ w ≡ (tail_text links ++ close) ++ rest → ((next : List Step) → ClosesAll least frames (own_level f) (shift_text b ∷ w) → Shifts least w (ended 8 frames next (own_level f)))
    → Shifts least w (ended 8 (f ∷ frames) done cur)
shifts_if least cur b w f frames done [] close rest e c k whole ih =
    let part = shift_part b w f close rest c whole in
    let closes : ClosesAll least frames (own_level f) (shift_text b ∷ w) = subst (λ (l : ℕ). ClosesAll least frames l (shift_text b ∷ w)) part.0 (subst (ClosesAll least frames (made_level f)) (sym part.2) k) in
    if_true (Shifts least w) (nat_le 8 (own_level f)) _ _ (within 8 (own_level f) (above least (own_level f) b w frames closes)) (ih (done ++ end_step f) closes)
shifts_if least cur b w f frames done (applied op y u ∷ links) close rest e c k whole ih = let same : shift_text b ≡ y = cc in absurd ((bounds op).shift (sym (level_is op y e.0) ∙ ap level_at (sym same) ∙ shift_level b))
shifts_if least cur b w f frames done (shifted a d ∷ links) close rest e c k whole ih =
    let inner : inner_level f ≤ 8 = low 8 (inner_level f) links e.1 in
    if_false (Shifts least w) (nat_le 8 (own_level f)) _ _ (past 8 (own_level f) (inner_shift f inner)) (record {
      digits = d;
      left = (tail_text links ++ close) ++ rest;
      tight = e.0;
      loose = inner;
      closes = (links, close, rest, e.1, c, k, refl);
      whole = same_shift b a w (number d ∷ ((tail_text links ++ close) ++ rest)) whole;
    })

-- Where operators are ended before a shift that goes on, its number stands there, and what closes all behind it.
pub ended_shifts : (least cur : ℕ) (b : Bool) (w : List Lexical) (frames : List Frame) (done : List Step) → ClosesAll least frames cur (shift_text b ∷ w) → Shifts least w (ended 8 frames done cur)
ended_shifts least cur b w [] done c = first_shift least cur b w done c.0 c.1 c.2
ended_shifts least cur b w (f ∷ frames) done c = shifts_if least cur b w f frames done c.0 c.1 c.2 c.3 c.4 c.5 c.6 (λ next k. ended_shifts least (own_level f) b w frames next k)
