-- What was read of an operand before a token was refused.
use Rattle.std.proofs.Common.{◌≡◌, ◌≤◌, ◌+◌, ℕ, Bool, true, false, List, [], ◌∷◌, ◌++◌, drop, take, length, codes, sym, refl, subst, append_assoc, arith, Result, Ok, Err}
use Rattle.std.specs.Result.{IfErr}
use Rattle.wrap_words.specs.declared.kind.Kind.{Kind}
use Rattle.wrap_words.specs.declared.kind.Kind.TheVariants.{I32}
use Rattle.kernel_grammar.specs.declared.step.Extreme.{Extreme}
use Rattle.kernel_grammar.specs.declared.step.Folding.TheVariants as folding
use Rattle.kernel_grammar.specs.declared.step.Step.{Step}
use Rattle.kernel_grammar.specs.declared.step.Step.TheVariants as step
use Rattle.kernel_grammar.specs.Lexicals.{Lexical, number, key, mark, word}
use Rattle.kernel_grammar.specs.Trees.{bare, cast, choice, extreme}
use Rattle.kernel_grammar.specs.Spelling.{extreme_text, over_text}
use Rattle.kind_faults.specs.Words.{kind_word}
use Rattle.kernel_expressions.specs.declared.frame.Frame.{Frame}
use Rattle.kernel_expressions.specs.declared.lexeme.Lexeme.{Lexeme}
use Rattle.kernel_expressions.specs.declared.partial.Partial.{Partial}
use Rattle.kernel_expressions.specs.declared.partial.Turn as turn
use Rattle.kernel_expressions.specs.declared.partial.Turn.TheVariants.{Operand, Operator}
use Rattle.kernel_expressions.specs.declared.stop.Stop.{Stop}
use Rattle.kernel_expressions.specs.declared.stop.Stop.TheVariants.{OutOfMemory, Refused}
use Rattle.kernel_expressions.specs.Ended.{Held, ended}
use Rattle.kernel_expressions.specs.Texts.{texts, IsFit}
use Rattle.kernel_expressions.specs.Reads.{Next, Reads}
use Rattle.kernel_expressions.specs.Frames.{Closes, wanted_level}
use Rattle.kernel_expressions.specs.Turns.{IsOpen, IsTurn, IsOver, AreInames, inames_text, fold_text, folding_of, shift_text}
use Rattle.kernel_expressions.specs.Tails.{IsText}
use Rattle.kernel_expressions.specs.Settled.{AnyRest, Begins, Ends, Halts, NoneNext, Spells, Stops}
use Rattle.kernel_expressions.specs.Follows.{Never}
use Rattle.kernel_expressions.specs.Leads.{Begun, Leads, LeadsBehind}
use Rattle.kernel_expressions.proofs.Join.{as_well, nothing}
use Rattle.kernel_expressions.proofs.Trees.{an_atom, looser, shifted_left, shifted_right}
use Rattle.kernel_expressions.proofs.ListSteps.{lone, begun, ended as ended_by}
use Rattle.kernel_expressions.proofs.Heads.{fold_head, extreme_head}
use Rattle.kernel_expressions.proofs.Moving.{ends_to, wanted_within}
use Rattle.kernel_expressions.proofs.Leading.{whole, front, some_name, some_text, some_steps, some_or, some_operand, some_expression, as_text, awaits, operand_leads, here_leads, behind_leads, begun_of, leads_of}

-- a stop that is handed on
pub if_stop : {A : Type 0} (P Q : ℕ → Type 0) (r : Result A Stop) → IfErr r (Halts P) → ((last : ℕ) → P last → Q last) → IfErr r (Halts Q)
if_stop P Q (Ok x) h on = tt
if_stop P Q (Err OutOfMemory) h on = tt
if_stop P Q (Err (Refused last)) h on = on last h

pub hand_on : {A : Type 0} (P Q : ℕ → Type 0) (stop : Stop) (r : Result A Stop) → r ≡ Err stop → Halts P stop → ((last : ℕ) → P last → Q last) → IfErr r (Halts Q)
hand_on {A} P Q stop r e h on = if_stop P Q r (subst (λ (x : Result A Stop). IfErr x (Halts P)) (sym e) h) on

-- what is begun and stands nowhere stops
stops_case : (all : List Lexical) (P Q E : List Lexical → Type 0) (at last : ℕ) → ((t : List Lexical) → Q t → P t) → ((t : List Lexical) → P t → Q t) → Never all E at P last → Begun all P at last → Stops all Q E at last
stops_case all P Q E at last to of h k = record {
  on = k.on;
  within = k.within;
  none = λ others rest same s. h.none others rest same (record { text = s.text; here = s.here; is = to s.text s.is; behind = s.behind });
  begun = record { more = k.begun.more; is = of (drop at (take last all) ++ k.begun.more) k.begun.is };
}

pub stops_as : {A : Type 0} (all : List Lexical) (P Q E : List Lexical → Type 0) (at : ℕ) (r : Result A Stop) → ((t : List Lexical) → Q t → P t) → ((t : List Lexical) → P t → Q t) → IfErr r (Halts (Never all E at P)) → IfErr r (Halts (Begun all P at)) → IfErr r (Halts (Stops all Q E at))
stops_as all P Q E at (Ok x) to of h k = tt
stops_as all P Q E at (Err OutOfMemory) to of h k = tt
stops_as all P Q E at (Err (Refused last)) to of h k = stops_case all P Q E at last to of h k

-- a token is refused behind what begins a text
pub refused : {A : Type 0} (all : List Lexical) (P : List Lexical → Type 0) (at mid : ℕ) (Q : Lexical → Type 0) (stop : Stop) (r : Result A Stop) → r ≡ Err stop → Halts (NoneNext all mid Q) stop → Leads all P at mid → IfErr r (Halts (Leads all P at))
refused all P at mid Q stop r e h k = hand_on (NoneNext all mid Q) (Leads all P at) stop r e h (λ last n. subst (Leads all P at) (sym n.same) k)

-- tokens
two : (all : List Lexical) (at a : ℕ) (x y : Lexical) (R : List Lexical → Type 0) → Next all at x → a ≡ (at + 1) + 1 → Next all (at + 1) y → R (x ∷ y ∷ []) → Reads all at a R
two all at a x y R n e p is = begun all at (at + 1) a x (λ u. u ≡ y ∷ []) R refl n (lone all (at + 1) a y (λ u. u ≡ y ∷ []) e p refl) (λ u i. subst (λ (xs : List Lexical). R (x ∷ xs)) (sym i) is)

three : (all : List Lexical) (at a b : ℕ) (x y z : Lexical) (R : List Lexical → Type 0) → Next all at x → a ≡ (at + 1) + 1 → Next all (at + 1) y → b ≡ a + 1 → Next all a z → R (x ∷ y ∷ z ∷ []) → Reads all at b R
three all at a b x y z R n e p f q is = ended_by all at a b z (λ t. t ≡ x ∷ y ∷ []) R (two all at a x y (λ t. t ≡ x ∷ y ∷ []) n e p refl) f q (λ t i. subst (λ (xs : List Lexical). R (xs ++ z ∷ [])) (sym i) is)

-- nothing is read of an operand
pub none_read : (all : List Lexical) (at : ℕ) → at ≤ length all → Leads all (IsText 11) at at
none_read all at within = nothing all at (Begins (IsText 11)) within (record { more = some_text; is = as_text ⊥ 11 some_steps some_text (some_operand ⊥) })

-- the first token is refused
pub none_begun : {A : Type 0} (all : List Lexical) (at : ℕ) (r : Result A Stop) → at ≤ length all → IfErr r (Halts (λ last. last ≡ at)) → IfErr r (Halts (Leads all (IsText 11) at))
none_begun all at r within h = if_stop (λ last. last ≡ at) (Leads all (IsText 11) at) r h (λ last e. subst (Leads all (IsText 11) at) (sym e) (none_read all at within))

-- a cast
cast_begins : (kind : Kind) → Begins (IsText 11) (key "cast" ∷ mark "(" ∷ word (kind_word kind) ∷ [])
cast_begins kind = record { more = mark "," ∷ word some_name.word ∷ mark ")" ∷ []; is = an_atom ⊥ (cast kind some_or) [] _ refl (λ s. absurd s) }

pub cast_one : (all : List Lexical) (at : ℕ) → Next all at (key "cast") → Leads all (IsText 11) at (at + 1)
cast_one all at n = lone all at (at + 1) (key "cast") (Begins (IsText 11)) refl n (front (IsText 11) (key "cast" ∷ []) (mark "(" ∷ word (kind_word I32) ∷ []) (cast_begins I32))

pub cast_two : (all : List Lexical) (at a : ℕ) → Next all at (key "cast") → a ≡ (at + 1) + 1 → Next all (at + 1) (mark "(") → Leads all (IsText 11) at a
cast_two all at a n e p = two all at a (key "cast") (mark "(") (Begins (IsText 11)) n e p (front (IsText 11) (key "cast" ∷ mark "(" ∷ []) (word (kind_word I32) ∷ []) (cast_begins I32))

pub cast_three : (all : List Lexical) (at a b : ℕ) (kind : Kind) → Next all at (key "cast") → a ≡ (at + 1) + 1 → Next all (at + 1) (mark "(") → b ≡ a + 1 → Next all a (word (kind_word kind)) → Leads all (IsText 11) at b
cast_three all at a b kind n e p f q = three all at a b (key "cast") (mark "(") (word (kind_word kind)) (Begins (IsText 11)) n e p f q (cast_begins kind)

-- a choice
pub choice_one : (all : List Lexical) (at : ℕ) → Next all at (key "if") → Leads all (IsText 11) at (at + 1)
choice_one all at n = lone all at (at + 1) (key "if") (Begins (IsText 11)) refl n (record {
  more = mark "(" ∷ word some_name.word ∷ mark "," ∷ word some_name.word ∷ mark "," ∷ word some_name.word ∷ mark ")" ∷ [];
  is = an_atom ⊥ (choice some_or some_or some_or) [] _ refl (λ s. absurd s);
})

-- the inames of reductions
pub stops_lead : {X : Type 0} (P : List Lexical → Type 0) (spell : X → List Lexical) (E : List Lexical → Type 0) (all : List Lexical) (at last : ℕ) → ((t : List Lexical) → Spells spell t → P t) → Stops all (Spells spell) E at last → Leads all P at last
stops_lead P spell E all at last on h = leads_of all P at last (record { on = h.on; within = h.within; begun = record { more = h.begun.more; is = on (drop at (take last all) ++ h.begun.more) h.begun.is } })

pub inames_lead : (all : List Lexical) (at last : ℕ) → Stops all (Spells inames_text) AnyRest at last → Leads all (AreInames ⊥ []) at last
inames_lead all at last h = stops_lead (AreInames ⊥ []) inames_text AnyRest all at last (λ t i. record { tree = i.tree; spelled = i.spelled; means = λ s. absurd s }) h

pub over_lead : (all : List Lexical) (at last : ℕ) → Stops all (Spells over_text) AnyRest at last → Leads all (IsOver ⊥ []) at last
over_lead all at last h = stops_lead (IsOver ⊥ []) over_text AnyRest all at last (λ t i. record { tree = i.tree; spelled = i.spelled; means = λ s. absurd s }) h

-- the same ends and stops, of texts whose steps do not matter
as_ends : (P Q E : List Lexical → Type 0) (all : List Lexical) (at next : ℕ) → ((t : List Lexical) → Q t → P t) → Ends all P E at next → Ends all Q E at next
as_ends P Q E all at next on h = record { ends = λ others rest same s. h.ends others rest same (record { text = s.text; here = s.here; is = on s.text s.is; behind = s.behind }) }

as_never : (P Q E : List Lexical → Type 0) (all : List Lexical) (at : ℕ) (stop : Stop) → ((t : List Lexical) → Q t → P t) → Halts (Stops all P E at) stop → Halts (Never all E at Q) stop
as_never P Q E all at OutOfMemory on h = tt
as_never P Q E all at (Refused last) on h = record { on = h.on; none = λ others rest same s. h.none others rest same (record { text = s.text; here = s.here; is = on s.text s.is; behind = s.behind }) }

pub inames_ends : (all : List Lexical) (at next : ℕ) → Ends all (Spells inames_text) AnyRest at next → Ends all (AreInames ⊥ []) AnyRest at next
inames_ends all at next h = as_ends (Spells inames_text) (AreInames ⊥ []) AnyRest all at next (λ t i. record { tree = i.tree; spelled = i.spelled }) h

pub inames_never : (all : List Lexical) (at : ℕ) (stop : Stop) → Halts (Stops all (Spells inames_text) AnyRest at) stop → Halts (Never all AnyRest at (AreInames ⊥ [])) stop
inames_never all at stop h = as_never (Spells inames_text) (AreInames ⊥ []) AnyRest all at stop (λ t i. record { tree = i.tree; spelled = i.spelled }) h

pub over_ends : (all : List Lexical) (at next : ℕ) → Ends all (Spells over_text) AnyRest at next → Ends all (IsOver ⊥ []) AnyRest at next
over_ends all at next h = as_ends (Spells over_text) (IsOver ⊥ []) AnyRest all at next (λ t i. record { tree = i.tree; spelled = i.spelled }) h

pub over_never : (all : List Lexical) (at : ℕ) (stop : Stop) → Halts (Stops all (Spells over_text) AnyRest at) stop → Halts (Never all AnyRest at (IsOver ⊥ [])) stop
over_never all at stop h = as_never (Spells over_text) (IsOver ⊥ []) AnyRest all at stop (λ t i. record { tree = i.tree; spelled = i.spelled }) h

over_begins : Begins (IsOver ⊥ []) []
over_begins = record { more = some_text; is = record { tree = bare some_name; spelled = refl; means = λ s. absurd s } }

-- what stands behind a word and a parenthesis
pub head_within : (all : List Lexical) (at a last : ℕ) (k : Lexical) (P : List Lexical → Type 0) → Next all at k → a ≡ (at + 1) + 1 → Next all (at + 1) (mark "(") → Leads all P a last → ((t : List Lexical) → Begins P t → Begins (IsText 11) (k ∷ mark "(" ∷ t)) → Leads all (IsText 11) at last
head_within all at a last k P n e p h made = begun all at (at + 1) last k (λ t. (o : List Lexical) × Begins P o × (t ≡ mark "(" ∷ o)) (Begins (IsText 11)) refl n
    (begun all (at + 1) a last (mark "(") (Begins P) (λ t. (o : List Lexical) × Begins P o × (t ≡ mark "(" ∷ o)) e p h (λ o b. (o, b, refl)))
    (λ t i. subst (λ (xs : List Lexical). Begins (IsText 11) (k ∷ xs)) (sym i.2) (made i.0 i.1))

-- what closes begins an operand
close_begins : (S : Type 0) (last made : List Step) (t : List Lexical) → Closes S last made t → Begins (IsText 11) t
close_begins S last made t h = record {
  more = word some_name.word ∷ mark ")" ∷ [];
  is = subst (IsText 11) (append_assoc t some_text (mark ")" ∷ [])) (as_text S 11 _ _ (h.ends some_steps some_text (some_expression S)));
}

pub fold_begins : (is_sum : Bool) (t : List Lexical) → Begins (IsOver ⊥ []) t → Begins (IsText 11) (fold_text is_sum ∷ mark "(" ∷ t)
fold_begins is_sum t b = front (IsText 11) (fold_text is_sum ∷ mark "(" ∷ t) (b.more ++ mark "," ∷ [])
    (subst (λ (xs : List Lexical). Begins (IsText 11) (fold_text is_sum ∷ mark "(" ∷ xs)) (append_assoc t b.more (mark "," ∷ []))
    (close_begins ⊥ (step.Fold (folding_of is_sum) [] ∷ []) [] _ (fold_head ⊥ is_sum [] (t ++ b.more) b.is)))

pub fold_one : (all : List Lexical) (at : ℕ) (is_sum : Bool) → Next all at (fold_text is_sum) → Leads all (IsText 11) at (at + 1)
fold_one all at is_sum n = lone all at (at + 1) (fold_text is_sum) (Begins (IsText 11)) refl n (front (IsText 11) (fold_text is_sum ∷ []) (mark "(" ∷ []) (fold_begins is_sum [] over_begins))

pub fold_open : (S : Type 0) (list : List (List ℕ)) (all : List Lexical) (at a b : ℕ) (is_sum : Bool) → Next all at (fold_text is_sum) → a ≡ (at + 1) + 1 → Next all (at + 1) (mark "(") → Reads all a b (IsOver S list) → Leads all (IsText 11) at b
fold_open S list all at a b is_sum n e p h = head_within all at a b (fold_text is_sum) (IsOver ⊥ []) n e p
    (as_well all a b (IsOver S list) (Begins (IsOver ⊥ [])) h (λ t i. whole (IsOver ⊥ []) t (record { tree = i.tree; spelled = i.spelled; means = λ s. absurd s })))
    (fold_begins is_sum)

-- `min` and `max`
pub extreme_one : (all : List Lexical) (at : ℕ) (which : Extreme) → Next all at (extreme_text which) → Leads all (IsText 11) at (at + 1)
extreme_one all at which n = lone all at (at + 1) (extreme_text which) (Begins (IsText 11)) refl n (record {
  more = mark "(" ∷ word some_name.word ∷ mark "," ∷ word some_name.word ∷ mark ")" ∷ [];
  is = an_atom ⊥ (extreme which some_or some_or) [] _ refl (λ s. absurd s);
})

pub extreme_begins : (which : Extreme) (t : List Lexical) → Begins (AreInames ⊥ []) t → Begins (IsText 11) (extreme_text which ∷ mark "(" ∷ t)
extreme_begins which t b = front (IsText 11) (extreme_text which ∷ mark "(" ∷ t) b.more (close_begins ⊥ (step.Fold (folding.Extreme which) [] ∷ []) [] _ (extreme_head ⊥ which [] b.is.tree (t ++ b.more) b.is.spelled (λ s. absurd s)))

-- the token behind an operand is refused
pub behind_begun : {A : Type 0} (lexemes : List Lexeme) (least : ℕ) (old : Partial) (level at : ℕ) (r : Result A Stop) → IfErr r (Halts (λ last. last ≡ at)) → IfErr r (Halts (λ last. LeadsBehind lexemes least old level at last))
behind_begun lexemes least old level at r h = if_stop (λ last. last ≡ at) (λ last. LeadsBehind lexemes least old level at last) r h (λ last e. λ from most within k.
    subst (Leads (texts lexemes) (IsText least) from) (sym e) (here_leads (IsFit (texts lexemes)) (texts lexemes) least from level old.frames old.steps.items at within k))

-- the token behind the sign of a shift is refused
shift_begins : (is_left : Bool) (l : ℕ) (t : List Lexical) → 8 ≤ l → IsText l t → Begins (IsText 8) (t ++ shift_text is_left ∷ [])
shift_begins true l t tight h = record {
  more = number (codes "0") ∷ [];
  is = subst (IsText 8) (sym (append_assoc t (mark "<<" ∷ []) (number (codes "0") ∷ []))) (as_text ⊥ 8 _ _ (shifted_left ⊥ [] t (codes "0") _ refl (looser ⊥ l 8 [] t tight h)));
}
shift_begins false l t tight h = record {
  more = number (codes "0") ∷ [];
  is = subst (IsText 8) (sym (append_assoc t (mark ">>" ∷ []) (number (codes "0") ∷ []))) (as_text ⊥ 8 _ _ (shifted_right ⊥ [] t (codes "0") _ refl (looser ⊥ l 8 [] t tight h)));
}

pub shift_begun : {A : Type 0} (lexemes : List Lexeme) (least : ℕ) (old : Partial) (operand at : ℕ) (held : Held) (is_left : Bool) (Q : Lexical → Type 0) (stop : Stop) (r : Result A Stop) → r ≡ Err stop → Halts (NoneNext (texts lexemes) (at + 1) Q) stop
    → Next (texts lexemes) at (shift_text is_left) → ended 8 old.frames old.steps.items operand ≡ held → 8 ≤ held.level → wanted_level least held.frames ≤ 8 → IfErr r (Halts (λ last. LeadsBehind lexemes least old operand at last))
shift_begun lexemes least old operand at held is_left Q stop r e h n same tight loose = hand_on (NoneNext (texts lexemes) (at + 1) Q) (λ last. LeadsBehind lexemes least old operand at last) stop r e h (λ last o. λ from most within k.
    subst (Leads (texts lexemes) (IsText least) from) (sym o.same) (behind_leads (IsFit (texts lexemes)) (texts lexemes) least from held.level 8 held.frames held.done at (at + 1) (λ u. u ≡ shift_text is_left ∷ []) within loose
    (ends_to (IsFit (texts lexemes)) (texts lexemes) least from at 8 old.frames old.steps.items operand held (omega arith) same k)
    (lone (texts lexemes) at (at + 1) (shift_text is_left) (λ u. u ≡ shift_text is_left ∷ []) refl n refl)
    (λ t u p i. subst (λ (xs : List Lexical). Begins (IsText 8) (t ++ xs)) (sym i) (shift_begins is_left held.level t tight p))))

-- an expression is begun
pub operand_begun : {A : Type 0} (S : Type 0) (all : List Lexical) (least from : ℕ) (frames : List Frame) (done : List Step) (at : ℕ) (t : turn.Turn) (stop : Stop) (r : Result A Stop) → r ≡ Err stop → least ≤ 11 → from ≤ length all → t ≡ Operand at → IsTurn S all least from frames done t
    → (at ≤ length all → Halts (Leads all (IsText 11) at) stop) → IfErr r (Halts (Begun all (IsText least) from))
operand_begun S all least from frames done at t stop r e most within is h k =
    let opened : IsOpen S all least from frames done at = subst (IsTurn S all least from frames done) is h in
    hand_on (Leads all (IsText 11) at) (Begun all (IsText least) from) stop r e (k (awaits S all least from frames done at within opened).within)
    (λ last l. begun_of all (IsText least) from last (operand_leads S all least from 11 frames done at last within (wanted_within least frames most) opened l))

pub operator_begun : {A : Type 0} (lexemes : List Lexeme) (least : ℕ) (old : Partial) (from level at : ℕ) (t : turn.Turn) (stop : Stop) (r : Result A Stop) → r ≡ Err stop → least ≤ 11 → from ≤ length (texts lexemes) → t ≡ Operator at level
    → IsTurn (IsFit (texts lexemes)) (texts lexemes) least from old.frames old.steps.items t → Halts (λ last. LeadsBehind lexemes least old level at last) stop → IfErr r (Halts (Begun (texts lexemes) (IsText least) from))
operator_begun lexemes least old from level at t stop r e most within is h k = hand_on (λ last. LeadsBehind lexemes least old level at last) (Begun (texts lexemes) (IsText least) from) stop r e k
    (λ last l. begun_of (texts lexemes) (IsText least) from last (l from most within (subst (IsTurn (IsFit (texts lexemes)) (texts lexemes) least from old.frames old.steps.items) is h)))
