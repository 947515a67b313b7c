-- Operators that are ended before a token.
use Rattle.std.proofs.Common.{◌≡◌, ◌<◌, ◌≤◌, ◌+◌, ℕ, Bool, true, false, List, [], ◌∷◌, ◌++◌, ap, sym, refl, ◌∙◌, subst, append_assoc, arith, nat_le, if◌then◌else◌, ◌==◌, inl, inr, ◌⊎◌}
use Rattle.std.proofs.lemmas.List.{append-nil}
use Rattle.std.proofs.lemmas.Bool.Decides.{nat_tests}
use Rattle.kernel_grammar.specs.declared.step.Infix.{Infix}
use Rattle.kernel_grammar.specs.declared.step.Infix.TheVariants as infixed
use Rattle.kernel_grammar.specs.declared.step.Step.{Step}
use Rattle.kernel_grammar.specs.declared.step.Prefix.TheVariants as prefix
use Rattle.kernel_expressions.specs.declared.frame.Bracket as bracket
use Rattle.kernel_expressions.specs.declared.frame.Bracket.TheVariants as brackets
use Rattle.kernel_expressions.specs.Frames.{closing}
use Rattle.kernel_grammar.specs.Lexicals.{Lexical, mark}
use Rattle.kernel_grammar.specs.Trees.{Rel, at_most, less, at_least, more, equal, equals}
use Rattle.kernel_grammar.specs.Spelling.{rel_text}
use Rattle.kernel_expressions.specs.declared.frame.Frame.{Frame}
use Rattle.kernel_expressions.specs.declared.frame.Frame.TheVariants as frame
use Rattle.kernel_expressions.specs.Levels.{level, first_level, IsInfix}
use Rattle.kernel_expressions.specs.Frames.{inner_level, own_level, made_level, wanted_level}
use Rattle.kernel_expressions.specs.Turns.{shift_text}
use Rattle.kernel_expressions.specs.Ended.{Held, end_step, ended}
use Rattle.kernel_expressions.specs.Tails.{IsText, Link, applied, shifted, tail_text, Extends, more_places, Closing, ClosesAll, IsWanted}
use Rattle.kernel_expressions.specs.Settled.{level_at}
use Rattle.kernel_expressions.proofs.Tails.{tail-append, extends-append}

rel_level : (rel : Rel) → level_at (rel_text rel) ≡ 4
rel_level at_most = refl
rel_level less = refl
rel_level at_least = refl
rel_level more = refl
rel_level equal = refl
rel_level equals = refl

pub level_is : (op : Infix) (x : Lexical) → IsInfix op x → level_at x ≡ level op
level_is infixed.Or x e = subst (λ y. level_at y ≡ 1) e refl
level_is infixed.And x e = subst (λ y. level_at y ≡ 2) e refl
level_is (infixed.Compare relation) x h = subst (λ y. level_at y ≡ 4) h.spelled (rel_level h.rel)
level_is infixed.NotEqual x e = subst (λ y. level_at y ≡ 4) e refl
level_is infixed.BitOr x e = subst (λ y. level_at y ≡ 5) e refl
level_is infixed.BitXor x e = subst (λ y. level_at y ≡ 6) e refl
level_is infixed.BitAnd x e = subst (λ y. level_at y ≡ 7) e refl
level_is infixed.Add x e = subst (λ y. level_at y ≡ 9) e refl
level_is infixed.Subtract x e = subst (λ y. level_at y ≡ 9) e refl
level_is infixed.Multiply x e = subst (λ y. level_at y ≡ 10) e refl
level_is infixed.Divide x e = subst (λ y. level_at y ≡ 10) e refl
level_is infixed.Remainder x e = subst (λ y. level_at y ≡ 10) e refl
level_is (infixed.Extreme which) x h = absurd h

-- only comparisons have a tighter first operand
abbrev pub first_of : ℕ → ℕ
first_of l = if l == 4 then 5 else l

first_is : (op : Infix) → first_level op ≡ first_of (level op)
first_is infixed.Or = refl
first_is infixed.And = refl
first_is (infixed.Compare relation) = refl
first_is infixed.NotEqual = refl
first_is infixed.BitOr = refl
first_is infixed.BitXor = refl
first_is infixed.BitAnd = refl
first_is infixed.Add = refl
first_is infixed.Subtract = refl
first_is infixed.Multiply = refl
first_is infixed.Divide = refl
first_is infixed.Remainder = refl
first_is (infixed.Extreme which) = refl

-- two operators that one token writes bind alike
pub same_level : (op other : Infix) (x : Lexical) → IsInfix op x → IsInfix other x → level op ≡ level other
same_level op other x h k = sym (level_is op x h) ∙ level_is other x k

pub same_first : (op other : Infix) (x : Lexical) → IsInfix op x → IsInfix other x → first_level op ≡ first_level other
same_first op other x h k = first_is op ∙ ap first_of (same_level op other x h k) ∙ sym (first_is other)

loose : (op : Infix) → level op ≤ first_level op
loose infixed.Or = omega arith
loose infixed.And = omega arith
loose (infixed.Compare relation) = omega arith
loose infixed.NotEqual = omega arith
loose infixed.BitOr = omega arith
loose infixed.BitXor = omega arith
loose infixed.BitAnd = omega arith
loose infixed.Add = omega arith
loose infixed.Subtract = omega arith
loose infixed.Multiply = omega arith
loose infixed.Divide = omega arith
loose infixed.Remainder = omega arith
loose (infixed.Extreme which) = omega arith

-- an operator is at least of level 1, at most of level 10, and not of the level of `not` or of shifts
pub record Bounds (l : ℕ) : Type 0 where
  pub some : 1 ≤ l
  pub most : l ≤ 10
  pub other : l ≡ 3 → ⊥
  pub shift : l ≡ 8 → ⊥

pub bounds : (op : Infix) → Bounds (level op)
bounds infixed.Or = record { some = omega arith; most = omega arith; other = λ e. omega (arith, e); shift = λ e. omega (arith, e) }
bounds infixed.And = record { some = omega arith; most = omega arith; other = λ e. omega (arith, e); shift = λ e. omega (arith, e) }
bounds (infixed.Compare relation) = record { some = omega arith; most = omega arith; other = λ e. omega (arith, e); shift = λ e. omega (arith, e) }
bounds infixed.NotEqual = record { some = omega arith; most = omega arith; other = λ e. omega (arith, e); shift = λ e. omega (arith, e) }
bounds infixed.BitOr = record { some = omega arith; most = omega arith; other = λ e. omega (arith, e); shift = λ e. omega (arith, e) }
bounds infixed.BitXor = record { some = omega arith; most = omega arith; other = λ e. omega (arith, e); shift = λ e. omega (arith, e) }
bounds infixed.BitAnd = record { some = omega arith; most = omega arith; other = λ e. omega (arith, e); shift = λ e. omega (arith, e) }
bounds infixed.Add = record { some = omega arith; most = omega arith; other = λ e. omega (arith, e); shift = λ e. omega (arith, e) }
bounds infixed.Subtract = record { some = omega arith; most = omega arith; other = λ e. omega (arith, e); shift = λ e. omega (arith, e) }
bounds infixed.Multiply = record { some = omega arith; most = omega arith; other = λ e. omega (arith, e); shift = λ e. omega (arith, e) }
bounds infixed.Divide = record { some = omega arith; most = omega arith; other = λ e. omega (arith, e); shift = λ e. omega (arith, e) }
bounds infixed.Remainder = record { some = omega arith; most = omega arith; other = λ e. omega (arith, e); shift = λ e. omega (arith, e) }
bounds (infixed.Extreme which) = record { some = omega arith; most = omega arith; other = λ e. omega (arith, e); shift = λ e. omega (arith, e) }

-- the links of an operand make a looser one
pub low : (from to : ℕ) (links : List Link) → Extends from to links → to ≤ from
low from to [] e = e
low from to (applied op x operand ∷ links) e = omega (arith, low (level op) to links e.3, e.1, loose op)
low from to (shifted is_left digits ∷ links) e = omega (arith, low 8 to links e.1, e.0)

-- operands with links before what closes all
pub before_all : (least : ℕ) (frames : List Frame) (from mid : ℕ) (links : List Link) (text : List Lexical) → Extends from mid links → ClosesAll least frames mid text → ClosesAll least frames from (tail_text links ++ text)
before_all least [] from mid links text e h = (links ++ h.0, extends-append from mid least links h.0 e h.1, ap (λ xs. tail_text links ++ xs) h.2 ∙ sym (tail-append links h.0))
before_all least (f ∷ frames) from mid links text e h = (
  links ++ h.0,
  h.1,
  h.2,
  extends-append from mid (inner_level f) links h.0 e h.3,
  h.4,
  h.5,
  ap (λ xs. tail_text links ++ xs) h.6 ∙ sym (append_assoc (tail_text links) (tail_text h.0 ++ h.1) h.2) ∙ ap (λ xs. xs ++ h.2) (sym (append_assoc (tail_text links) (tail_text h.0) h.1)) ∙ ap (λ xs. (xs ++ h.1) ++ h.2) (sym (tail-append links h.0)),
)

-- no operator is the sign of a shifted
pub no_shift : (op : Infix) (is_left : Bool) (x : Lexical) → IsInfix op x → x ≡ shift_text is_left → ⊥
no_shift op true x h e = (bounds op).shift (sym (level_is op x h) ∙ ap level_at e)
no_shift op false x h e = (bounds op).shift (sym (level_is op x h) ∙ ap level_at e)

-- no operator closes a part
pub no_close : (op : Infix) (x y : Lexical) → IsInfix op x → level_at y ≡ 0 → x ≡ y → ⊥
no_close op x y h none e = omega (arith, (bounds op).some, sym (level_is op x h) ∙ ap level_at e ∙ none)

-- An operator is opened with the parts that are still open.
pub record Opens (least : ℕ) (op : Infix) (w : List Lexical) (held : Held) : Type 0 where
  pub tight : first_level op ≤ held.level
  pub loose : wanted_level least held.frames ≤ level op
  pub wanted : IsWanted least (frame.Infix op ∷ held.frames) w

opened_here : (least : ℕ) (op : Infix) (frames : List Frame) (u v w : List Lexical) → IsText (level op + 1) u → ClosesAll least frames (level op) v → w ≡ u ++ v → IsWanted least (frame.Infix op ∷ frames) w
opened_here least op frames u v w is closes whole = record { operand = u; rest = v; is = is; closes = ([], [], v, omega arith, refl, closes, refl); whole = whole }

same_text : (op other : Infix) (x : Lexical) (u : List Lexical) → IsInfix op x → IsInfix other x → IsText (level other + 1) u → IsText (level op + 1) u
same_text op other x u h k is = subst (λ (l : ℕ). IsText (l + 1) u) (same_level other op x k h) is

-- the operator is the first link of an operand, and no part is open
first_link : (least cur : ℕ) (op : Infix) (x : Lexical) (w : List Lexical) (done : List Step) (links : List Link) → IsInfix op x → Extends cur least links → x ∷ w ≡ tail_text links → Opens least op w (record { frames = []; done = done; level = cur })
first_link least cur op x w done [] h e k = absurd (cc)
first_link least cur op x w done (applied other y u ∷ links) h e k =
    let same : x ≡ y = cc in
    let there : IsInfix other x = subst (IsInfix other) (sym same) e.0 in
    let l : level op ≡ level other = same_level op other x h there in
    record {
      tight = omega (arith, same_first op other x h there, e.1);
      loose = omega (arith, l, low (level other) least links e.3);
      wanted = opened_here least op [] u (tail_text links) w (same_text op other x u h there e.2) (links, subst (λ (m : ℕ). Extends m least links) (sym l) e.3, refl) (cc);
    }
first_link least cur op x w done (shifted is_left d ∷ links) h e k = absurd (no_shift op is_left x h (cc))

pub three_less : (l : ℕ) → 3 ≤ l → (l ≡ 3 → ⊥) → 3 < l
three_less l h k = omega (arith, h, k)

-- an operand that an operator takes is tighter than what is open round it
inner_low : (f : Frame) (op : Infix) → inner_level f ≤ level op → own_level f < first_level op
inner_low (frame.Infix g) op h = omega (arith, h, loose op)
inner_low (frame.Prefix prefix.Not) op h = omega (arith, h, loose op, three_less (level op) h (bounds op).other)
inner_low (frame.Prefix prefix.Negate) op h = absurd (omega (arith, h, (bounds op).most))
inner_low (frame.Prefix prefix.Invert) op h = absurd (omega (arith, h, (bounds op).most))
inner_low frame.Group op h = omega (arith, loose op, (bounds op).some)
inner_low (frame.Body s) op h = omega (arith, loose op, (bounds op).some)
inner_low (frame.Places name b count) op h = omega (arith, loose op, (bounds op).some)
inner_low (frame.First which start) op h = omega (arith, loose op, (bounds op).some)
inner_low frame.Test op h = omega (arith, loose op, (bounds op).some)
inner_low frame.Then op h = omega (arith, loose op, (bounds op).some)

-- what closes a part begins with no operator
places_first : (texts : List (List Lexical)) (b : bracket.Bracket) (rest w : List Lexical) (op : Infix) (x : Lexical) → IsInfix op x → x ∷ w ≡ more_places texts (closing b) ++ rest → ⊥
places_first [] brackets.Index rest w op x h e = no_close op x (mark "]") h refl (cc)
places_first [] brackets.Call rest w op x h e = no_close op x (mark ")") h refl (cc)
places_first (text ∷ texts) b rest w op x h e = no_close op x (mark ",") h refl (cc)

-- the part is an operator
part_is : (op : Infix) (x : Lexical) (w : List Lexical) (f : Frame) (close rest : List Lexical) → IsInfix op x → Closing f close → x ∷ w ≡ close ++ rest → (made_level f ≡ own_level f) × (own_level f ≤ inner_level f) × (x ∷ w ≡ rest)
part_is op x w (frame.Infix g) close rest h c e = (refl, omega arith, e ∙ ap (λ xs. xs ++ rest) c)
part_is op x w (frame.Prefix g) close rest h c e = (refl, omega arith, e ∙ ap (λ xs. xs ++ rest) c)
part_is op x w frame.Group close rest h c e = absurd (no_close op x (mark ")") h refl (let k : x ∷ w ≡ mark ")" ∷ rest = e ∙ ap (λ xs. xs ++ rest) c in cc))
part_is op x w (frame.Body s) close rest h c e = absurd (no_close op x (mark ")") h refl (let k : x ∷ w ≡ mark ")" ∷ rest = e ∙ ap (λ xs. xs ++ rest) c in cc))
part_is op x w (frame.Places name b count) close rest h c e = absurd (places_first c.0 b rest w op x h (e ∙ ap (λ xs. xs ++ rest) c.2))
part_is op x w (frame.First which start) close rest h c e = absurd (no_close op x (mark ",") h refl (let k : x ∷ w ≡ mark "," ∷ ((c.0 ++ mark ")" ∷ []) ++ rest) = e ∙ ap (λ xs. xs ++ rest) c.2 in cc))
part_is op x w frame.Test close rest h c e = absurd (no_close op x (mark ",") h refl (let k : x ∷ w ≡ mark "," ∷ (((c.0 ++ mark "," ∷ c.1) ++ mark ")" ∷ []) ++ rest) = e ∙ ap (λ xs. xs ++ rest) c.4 in cc))
part_is op x w frame.Then close rest h c e = absurd (no_close op x (mark ",") h refl (let k : x ∷ w ≡ mark "," ∷ ((c.0 ++ mark ")" ∷ []) ++ rest) = e ∙ ap (λ xs. xs ++ rest) c.2 in cc))

-- an operator binds no tighter than the operand before it
top_link : (cur to : ℕ) (op : Infix) (x : Lexical) (w others : List Lexical) (links : List Link) → IsInfix op x → Extends cur to links → x ∷ w ≡ tail_text links ++ others → (first_level op ≤ cur) ⊎ ((to ≤ cur) × (x ∷ w ≡ others))
top_link cur to op x w others [] h e k = inr (e, k)
top_link cur to op x w others (applied other y u ∷ links) h e k =
    let same : x ≡ y = cc in
    inl (omega (arith, same_first op other x h (subst (IsInfix other) (sym same) e.0), e.1))
top_link cur to op x w others (shifted is_left d ∷ links) h e k = absurd (no_shift op is_left x h (cc))

top_none : (cur to : ℕ) (op : Infix) (x : Lexical) (w : List Lexical) → (first_level op ≤ cur) ⊎ ((to ≤ cur) × (x ∷ w ≡ [])) → first_level op ≤ cur
top_none cur to op x w (inl h) = h
top_none cur to op x w (inr h) = let e : x ∷ w ≡ [] = h.1 in absurd (cc)

top_some : (least cur : ℕ) (op : Infix) (x : Lexical) (w : List Lexical) (f : Frame) (frames : List Frame) (close rest : List Lexical) → IsInfix op x → Closing f close → ClosesAll least frames (made_level f) rest
    → (ClosesAll least frames (made_level f) (x ∷ w) → first_level op ≤ made_level f) → (first_level op ≤ cur) ⊎ ((inner_level f ≤ cur) × (x ∷ w ≡ close ++ rest)) → first_level op ≤ cur
top_some least cur op x w f frames close rest h c k ih (inl l) = l
top_some least cur op x w f frames close rest h c k ih (inr l) =
    let part = part_is op x w f close rest h c l.1 in
    omega (arith, l.0, part.0, part.1, ih (subst (ClosesAll least frames (made_level f)) (sym part.2) k))

pub top : (least cur : ℕ) (op : Infix) (x : Lexical) (w : List Lexical) (frames : List Frame) → IsInfix op x → ClosesAll least frames cur (x ∷ w) → first_level op ≤ cur
top least cur op x w [] h c = top_none cur least op x w (top_link cur least op x w [] c.0 h c.1 (c.2 ∙ sym (append-nil (tail_text c.0))))
top least cur op x w (f ∷ frames) h c = top_some least cur op x w f frames c.1 c.2 h c.4 c.5 (λ k. top least (made_level f) op x w frames h k)
    (top_link cur (inner_level f) op x w (c.1 ++ c.2) c.0 h c.3 (c.6 ∙ append_assoc (tail_text c.0) c.1 c.2))

-- one of two by a test
pub if_true : (P : Held → Type 0) (b : Bool) (x y : Held) → b ≡ true → P x → P (if b then x else y)
if_true P true x y e h = h
if_true P false x y e h = absurd (cc)

pub if_false : (P : Held → Type 0) (b : Bool) (x y : Held) → b ≡ false → P y → P (if b then x else y)
if_false P true x y e h = absurd (cc)
if_false P false x y e h = h

pub within : (p q : ℕ) → p ≤ q → nat_le p q ≡ true
within p q h = grind (arith, nat_tests, h)

pub past : (p q : ℕ) → q < p → nat_le p q ≡ false
past p q h = grind (arith, nat_tests, h)

opens_if : (least cur : ℕ) (op : Infix) (x : Lexical) (w : List Lexical) (f : Frame) (frames : List Frame) (done : List Step) (links : List Link) (close rest : List Lexical) → IsInfix op x → Extends cur (inner_level f) links → Closing f close
    → ClosesAll least frames (made_level f) rest → x ∷ w ≡ (tail_text links ++ close) ++ rest → ((next : List Step) → ClosesAll least frames (own_level f) (x ∷ w) → Opens least op w (ended (first_level op) frames next (own_level f)))
    → Opens least op w (ended (first_level op) (f ∷ frames) done cur)
opens_if least cur op x w f frames done [] close rest h e c k whole ih =
    let part = part_is op x w f close rest h c whole in
    let closes : ClosesAll least frames (own_level f) (x ∷ w) = subst (λ (l : ℕ). ClosesAll least frames l (x ∷ w)) part.0 (subst (ClosesAll least frames (made_level f)) (sym part.2) k) in
    if_true (Opens least op w) (nat_le (first_level op) (own_level f)) _ _ (within (first_level op) (own_level f) (top least (own_level f) op x w frames h closes)) (ih (done ++ end_step f) closes)
opens_if least cur op x w f frames done (applied other y u ∷ links) close rest h e c k whole ih =
    let same : x ≡ y = cc in
    let there : IsInfix other x = subst (IsInfix other) (sym same) e.0 in
    let l : level op ≡ level other = same_level op other x h there in
    let inner : inner_level f ≤ level op = omega (arith, l, low (level other) (inner_level f) links e.3) in
    let left : w ≡ ((u ++ tail_text links) ++ close) ++ rest = cc in
    if_false (Opens least op w) (nat_le (first_level op) (own_level f)) _ _ (past (first_level op) (own_level f) (inner_low f op inner)) (record {
      tight = omega (arith, same_first op other x h there, e.1);
      loose = inner;
      wanted = opened_here least op (f ∷ frames) u ((tail_text links ++ close) ++ rest) w (same_text op other x u h there e.2)
          (links, close, rest, subst (λ (m : ℕ). Extends m (inner_level f) links) (sym l) e.3, c, k, refl)
          (left ∙ ap (λ xs. xs ++ rest) (append_assoc u (tail_text links) close) ∙ append_assoc u (tail_text links ++ close) rest);
    })
opens_if least cur op x w f frames done (shifted is_left d ∷ links) close rest h e c k whole ih = absurd (no_shift op is_left x h (cc))

-- Where operators are ended before an operator that goes on, it may be opened.
pub ended_opens : (least cur : ℕ) (op : Infix) (x : Lexical) (w : List Lexical) (frames : List Frame) (done : List Step) → IsInfix op x → ClosesAll least frames cur (x ∷ w) → Opens least op w (ended (first_level op) frames done cur)
ended_opens least cur op x w [] done h c = first_link least cur op x w done c.0 h c.1 c.2
ended_opens least cur op x w (f ∷ frames) done h c = opens_if least cur op x w f frames done c.0 c.1 c.2 h c.3 c.4 c.5 c.6 (λ next k. ended_opens least (own_level f) op x w frames next h k)
