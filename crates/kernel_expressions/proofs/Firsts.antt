-- What is left where an operand is wanted, by the token that stands there.
use Rattle.std.proofs.Common.{◌≡◌, ◌<◌, ◌≤◌, ◌+◌, ℕ, Bool, true, false, not, nat_lt, codes, List, [], ◌∷◌, ◌++◌, inl, inr, ◌⊎◌, ap, sym, refl, ◌∙◌, subst, arith, length, Result}
use Rattle.std.specs.Result.{IfOk, IfErr}
use Rattle.std.proofs.lemmas.Bool.{false≢true, and_parts}
use Rattle.kernel_grammar.specs.declared.step.Extreme.{Extreme}
use Rattle.kernel_grammar.specs.declared.step.Extreme.TheVariants.{Min, Max}
use Rattle.kernel_grammar.specs.Spelling.{extreme_text}
use Rattle.kernel_expressions.specs.declared.lexeme.Lexeme.{Lexeme}
use Rattle.kernel_expressions.specs.declared.partial.Partial.{Partial}
use Rattle.kernel_expressions.specs.declared.partial.Turn as turn
use Rattle.kernel_expressions.specs.declared.stop.Stop.{Stop}
use Rattle.kernel_expressions.specs.Texts.{texts}
use Rattle.kernel_expressions.specs.Turns.{OpensPart}
use Rattle.wrap_words.specs.declared.kind.Kind.{Kind}
use Rattle.wrap_words.specs.declared.kind.Kind.TheVariants.{I32, I64, U32, U64}
use Rattle.kind_faults.specs.Words.{kind_word}
use Rattle.kernel_grammar.specs.Lexicals.{Lexical, word, number, sign, line_end, mark}
use Rattle.kernel_grammar.specs.Words.{Name, is_reserved}
use Rattle.kernel_expressions.specs.declared.frame.Bracket.TheVariants as brackets
use Rattle.kernel_expressions.specs.declared.frame.Frame.{Frame}
use Rattle.kernel_expressions.specs.declared.frame.Frame.TheVariants as frame
use Rattle.kernel_expressions.specs.declared.key.Key as keys
use Rattle.kernel_expressions.specs.declared.key.Key.TheVariants as key
use Rattle.kernel_expressions.specs.declared.sign.Sign.{Sign}
use Rattle.kernel_expressions.specs.declared.sign.Sign.TheVariants.{OpenBracket, CloseBracket, OpenBrace, CloseBrace, OpenParenthesis, CloseParenthesis, Comma, Colon, Equal, Less, Greater, Plus, Minus, Star, Percent, Bar, Caret, Ampersand, Tilde, ColonEqual, EqualEqual, PlusEqual, StarEqual, LessEqual, GreaterEqual, NotEqual, Arrow, ShiftRight, ShiftLeft, SlashSlash}
use Rattle.kernel_expressions.specs.Keys.{key_text}
use Rattle.kernel_expressions.specs.Signs.{sign_text}
use Rattle.kernel_expressions.specs.Reads.{Next}
use Rattle.kernel_expressions.specs.Settled.{Halts, NoneNext, glues, level_at, is_mark}
use Rattle.kernel_expressions.specs.Tails.{ClosesAll, IsWanted}
use Rattle.kernel_expressions.specs.Follows.{Looser, Leads, Never, Past, PastSome, word_start, start, NumberLeft, lone, times, NameLeft, alone, at_places, of_none, of_places, Shape, Shaped, OperandLeft, wanted, first_iname, second_iname, NamedLeft, shaped_name, of_iname, SignedLeft, shaped_sign, of_inames, Goes, Halted, GoesShaped, HaltsShaped}
use Rattle.kernel_expressions.proofs.Apart.{Apart, closes_apart}
use Rattle.kernel_expressions.proofs.Shapes.{Opening, opening_of}
use Rattle.kernel_expressions.proofs.Shutting.{WantsPlace, opens_left}
use Rattle.kernel_expressions.proofs.Operands.{from_shaped}
use Rattle.kernel_expressions.proofs.Agreeing.{Sees, one_token, leads_on, leads_never, leads_as, leads_here, never_here, past_on, some_on, some_halts, answers_as, refused_as}

not_glues : (b : Bool) → not b ≡ true → b ≡ false
not_glues true e = sym e
not_glues false e = refl

-- what stands behind an expression does not go on with its last operand
behind_if : (least : ℕ) (rest : List Lexical) → Looser least rest → Apart rest
behind_if least [] h = record { first = λ x xs e. absurd (cc) }
behind_if least (y ∷ ys) h = record { first = λ x xs e. let same : x ≡ y = cc in ap glues same ∙ not_glues (glues y) (and_parts (not (glues y)) (nat_lt (level_at y) least) h).0 }

-- behind an operand stands no such token
no_glue : (all : List Lexical) (least at : ℕ) (frames : List Frame) (t rest : List Lexical) (x : Lexical) → ClosesAll least frames 11 t → Looser least rest → Sees all at (t ++ rest) → Next all at x → glues x ≡ true → ⊥
no_glue all least at frames t rest x h b s n g = let f = s.found x n in false≢true (sym ((closes_apart least 11 frames t rest h (behind_if least rest b)).first x f.0 f.1) ∙ g)

-- ---- numbers

pub number_open : {all : List Lexical} {E : List Lexical → Type 0} {least at : ℕ} {frames : List Frame} → Leads all E at (Shaped least frames 1) at (PastSome (λ x. (d : List ℕ) × (x ≡ number d)) (NumberLeft least frames))
number_open {all} {E} {least} {at} {frames} = leads_as (λ t h. record { first = h.first; left = h.left; is = h.is; sort = h.shape.0; ends = h.shape.1 })

pub number_left : {all : List Lexical} {E : List Lexical → Type 0} {least at a : ℕ} {frames : List Frame} → a ≡ at + 1 → Leads all E at (Shaped least frames 1) a (NumberLeft least frames)
number_left {all} {E} {least} {at} {a} {frames} e = some_on (number_open) e

lone_there : (all : List Lexical) (a least : ℕ) (frames : List Frame) (t rest : List Lexical) → ((n : Name) → Next all a (word n.word) → ⊥) → Sees all a (t ++ rest) → NumberLeft least frames t → ClosesAll least frames 11 t
lone_there all a least frames t rest none s (lone h) = h
lone_there all a least frames t rest none s (times name p) = absurd (none name (s.token (word name.word) (p.left ++ rest) (ap (λ xs. xs ++ rest) p.is)))

pub number_ends : {all : List Lexical} {least at a : ℕ} {frames new : List Frame} → new ≡ frames → a ≡ at + 1 → ((n : Name) → Next all a (word n.word) → ⊥) → Leads all (Looser least) at (Shaped least frames 1) a (ClosesAll least new 11)
number_ends {all} {least} {at} {a} {frames} {new} same e none = subst (λ (fs : List Frame). Leads all (Looser least) at (Shaped least frames 1) a (ClosesAll least fs 11)) (sym same)
    (leads_on (number_left e)
    (leads_here (λ t rest p b s. lone_there all a least frames t rest none s p)))

times_there : (all : List Lexical) (a least : ℕ) (frames : List Frame) (t rest : List Lexical) (w : List ℕ) → is_reserved w ≡ false → Next all a (word w) → Looser least rest → Sees all a (t ++ rest) → NumberLeft least frames t → PastSome (λ x. Unit {0}) (ClosesAll least frames 11) t
times_there all a least frames t rest w free n b s (lone h) = absurd (no_glue all least a frames t rest (word w) h b s n (ap not free))
times_there all a least frames t rest w free n b s (times name p) = record { first = word name.word; left = p.left; is = p.is; sort = tt; ends = p.ends }

pub multiple_ends : {all : List Lexical} {least at a : ℕ} {frames new : List Frame} {w : List ℕ} → new ≡ frames → a ≡ at + 1 → is_reserved w ≡ false → Next all a (word w) → Leads all (Looser least) at (Shaped least frames 1) (a + 1) (ClosesAll least new 11)
multiple_ends {all} {least} {at} {a} {frames} {new} {w} same e free n = subst (λ (fs : List Frame). Leads all (Looser least) at (Shaped least frames 1) (a + 1) (ClosesAll least fs 11)) (sym same)
    (leads_on (number_left e)
    (some_on
    (leads_here (λ t rest p b s. times_there all a least frames t rest w free n b s p)) refl))

-- ---- names

-- a name is behind, and perhaps a comma that the tokens do not have
pub data NameThen : List Lexical → ℕ → List Frame → ℕ → List Lexical → Type 0 where
  then_left : {all : List Lexical} {least : ℕ} {frames : List Frame} {a : ℕ} {text : List Lexical} → NameLeft least frames text → NameThen all least frames a text
  then_comma : {all : List Lexical} {least : ℕ} {frames : List Frame} {a : ℕ} {text : List Lexical} → Past (mark ",") (λ u. Unit {0}) text → (Next all a (mark ",") → ⊥) → NameThen all least frames a text

name_past : (all : List Lexical) (least at : ℕ) (frames : List Frame) (t rest : List Lexical) → Sees all at (t ++ rest) → NamedLeft all least frames at t → PastSome (λ x. (n : Name) × (x ≡ word n.word)) (NameThen all least frames (at + 1)) t
name_past all least at frames t rest s (shaped_name h) = record { first = h.first; left = h.left; is = h.is; sort = h.shape.0; ends = then_left h.shape.1 }
name_past all least at frames t rest s (of_iname p) = record {
  first = word p.name.word;
  left = mark "," ∷ p.more;
  is = p.is;
  sort = (p.name, refl);
  ends = then_comma (record { left = p.more; is = refl; ends = tt }) (λ n. p.none (record {
    name = p.name;
    open_first = p.open_first;
    named = subst (λ (m : ℕ). Next all m (word p.name.word)) p.next_is (s.token (word p.name.word) (mark "," ∷ (p.more ++ rest)) (ap (λ xs. xs ++ rest) p.is));
    comma = subst (λ (m : ℕ). Next all (m + 1) (mark ",")) p.next_is n;
  }));
}

pub named_open : {all : List Lexical} {least at : ℕ} {frames : List Frame} → Leads all (Looser least) at (NamedLeft all least frames at) at (PastSome (λ x. (n : Name) × (x ≡ word n.word)) (NameThen all least frames (at + 1)))
named_open {all} {least} {at} {frames} = leads_here (λ t rest p b s. name_past all least at frames t rest s p)

pub named_never : {all : List Lexical} {least at last : ℕ} {frames : List Frame} → NoneNext all at (λ x. (n : Name) × (x ≡ word n.word)) last → Never all (Looser least) at (NamedLeft all least frames at) last
named_never {all} {least} {at} {last} {frames} h = some_halts (named_open) h

name_left : (all : List Lexical) (least a : ℕ) (frames : List Frame) (t rest : List Lexical) → Sees all a (t ++ rest) → NameThen all least frames a t → NameLeft least frames t
name_left all least a frames t rest s (then_left h) = h
name_left all least a frames t rest s (then_comma p none) = absurd (none (s.token (mark ",") (p.left ++ rest) (ap (λ xs. xs ++ rest) p.is)))

named_left : {all : List Lexical} {least at a : ℕ} {frames : List Frame} → a ≡ at + 1 → Leads all (Looser least) at (NamedLeft all least frames at) a (NameLeft least frames)
named_left {all} {least} {at} {a} {frames} e = subst (λ (m : ℕ). Leads all (Looser least) at (NamedLeft all least frames at) m (NameLeft least frames)) (sym e)
    (leads_on
    (some_on (named_open) refl)
    (leads_here (λ t rest p b s. name_left all least (at + 1) frames t rest s p)))

-- another sign stands there
not_both : (all : List Lexical) (at : ℕ) (a b : List ℕ) (Q : List Lexical → Type 0) (t rest : List Lexical) → Past (sign a) Q t → Sees all at (t ++ rest) → Next all at (sign b) → is_mark b (sign a) ≡ false → is_mark b (sign b) ≡ true → ⊥
not_both all at a b Q t rest p s n e f = false≢true (sym e ∙ ap (is_mark b) (one_token all at (sign a) (sign b) (s.token (sign a) (p.left ++ rest) (ap (λ xs. xs ++ rest) p.is)) n) ∙ f)

none_past : (all : List Lexical) (at : ℕ) (x : Lexical) (Q : List Lexical → Type 0) (t rest : List Lexical) → Past x Q t → Sees all at (t ++ rest) → (Next all at x → ⊥) → ⊥
none_past all at x Q t rest p s none = none (s.token x (p.left ++ rest) (ap (λ xs. xs ++ rest) p.is))

-- a bracket stands behind the name
index_there : (all : List Lexical) (least a : ℕ) (frames : List Frame) (t rest : List Lexical) → Next all a (mark "[") → Looser least rest → Sees all a (t ++ rest) → NameLeft least frames t → Past (mark "[") (WantsPlace brackets.Index least frames) t
index_there all least a frames t rest n b s (alone h) = absurd (no_glue all least a frames t rest (mark "[") h b s n refl)
index_there all least a frames t rest n b s (at_places p) = p
index_there all least a frames t rest n b s (of_none p) = absurd (not_both all a (codes "(") (codes "[") _ t rest p s n refl refl)
index_there all least a frames t rest n b s (of_places p) = absurd (not_both all a (codes "(") (codes "[") _ t rest p s n refl refl)

pub index_opens : {all : List Lexical} {least at a next count : ℕ} {frames : List Frame} {name : List ℕ} → a ≡ at + 1 → next ≡ a + 1 → Next all a (mark "[") → Leads all (Looser least) at (NamedLeft all least frames at) next (IsWanted least (frame.Places name brackets.Index count ∷ frames))
index_opens {all} {least} {at} {a} {next} {count} {frames} {name} e f n = leads_on (named_left e)
    (leads_on
    (past_on
    (leads_here (λ t rest p b s. index_there all least a frames t rest n b s p)) f)
    (leads_as (λ t h. h name count)))

-- nothing goes on behind the name
alone_there : (all : List Lexical) (least a : ℕ) (frames : List Frame) (t rest : List Lexical) → (Next all a (mark "[") → ⊥) → (Next all a (mark "(") → ⊥) → Sees all a (t ++ rest) → NameLeft least frames t → ClosesAll least frames 11 t
alone_there all least a frames t rest n m s (alone h) = h
alone_there all least a frames t rest n m s (at_places p) = absurd (none_past all a (mark "[") _ t rest p s n)
alone_there all least a frames t rest n m s (of_none p) = absurd (none_past all a (mark "(") _ t rest p s m)
alone_there all least a frames t rest n m s (of_places p) = absurd (none_past all a (mark "(") _ t rest p s m)

pub name_ends : {all : List Lexical} {least at a : ℕ} {frames new : List Frame} → new ≡ frames → a ≡ at + 1 → (Next all a (mark "[") → ⊥) → (Next all a (mark "(") → ⊥) → Leads all (Looser least) at (NamedLeft all least frames at) a (ClosesAll least new 11)
name_ends {all} {least} {at} {a} {frames} {new} same e n m = subst (λ (fs : List Frame). Leads all (Looser least) at (NamedLeft all least frames at) a (ClosesAll least fs 11)) (sym same)
    (leads_on (named_left e)
    (leads_here (λ t rest p b s. alone_there all least a frames t rest n m s p)))

-- a parenthesis stands behind the name
pub CallLeft : ℕ → List Frame → List Lexical → Type 0
CallLeft least frames t = Past (mark ")") (ClosesAll least frames 11) t ⊎ WantsPlace brackets.Call least frames t

call_there : (all : List Lexical) (least a : ℕ) (frames : List Frame) (t rest : List Lexical) → Next all a (mark "(") → Looser least rest → Sees all a (t ++ rest) → NameLeft least frames t → Past (mark "(") (CallLeft least frames) t
unfolding CallLeft
call_there all least a frames t rest n b s (alone h) = absurd (no_glue all least a frames t rest (mark "(") h b s n refl)
call_there all least a frames t rest n b s (at_places p) = absurd (not_both all a (codes "[") (codes "(") _ t rest p s n refl refl)
call_there all least a frames t rest n b s (of_none p) = record { left = p.left; is = p.is; ends = inl p.ends }
call_there all least a frames t rest n b s (of_places p) = record { left = p.left; is = p.is; ends = inr p.ends }

call_left : {all : List Lexical} {least at a f : ℕ} {frames : List Frame} → a ≡ at + 1 → f ≡ a + 1 → Next all a (mark "(") → Leads all (Looser least) at (NamedLeft all least frames at) f (CallLeft least frames)
call_left {all} {least} {at} {a} {f} {frames} e g n = leads_on (named_left e)
    (past_on
    (leads_here (λ t rest p b s. call_there all least a frames t rest n b s p)) g)

-- no expression begins with the end of a parenthesis
no_opening : (least : ℕ) (frames : List Frame) (t ys : List Lexical) (x : Lexical) → t ≡ x ∷ ys → start x ≡ 0 → Opening least frames t → ⊥
no_opening least frames t ys x e z h =
    let same : h.first ≡ x = let k : h.first ∷ h.left ≡ x ∷ ys = sym h.is ∙ e in cc in
    subst (λ (n : ℕ). Shape n least frames h.first h.left) (ap start same ∙ z) h.shape

first_of : (all : List Lexical) (at : ℕ) (x y : Lexical) (t ys rest : List Lexical) → Next all at x → Sees all at (t ++ rest) → t ≡ y ∷ ys → y ≡ x
first_of all at x y t ys rest n s e = one_token all at y x (s.token y (ys ++ rest) (ap (λ xs. xs ++ rest) e)) n

closed_there : (all : List Lexical) (least f : ℕ) (frames : List Frame) (t rest : List Lexical) → 0 < least → least ≤ 11 → Next all f (mark ")") → Sees all f (t ++ rest) → CallLeft least frames t → Past (mark ")") (ClosesAll least frames 11) t
unfolding CallLeft
closed_there all least f frames t rest some within n s (inl p) = p
closed_there all least f frames t rest some within n s (inr w) = let o = opening_of least (frame.Places [] brackets.Call 0 ∷ frames) t some within (w [] 0) in
    absurd (no_opening least (frame.Places [] brackets.Call 0 ∷ frames) t o.left (mark ")") (o.is ∙ ap (λ x. x ∷ o.left) (first_of all f (mark ")") o.first t o.left rest n s o.is)) refl o)

pub call_ends : {all : List Lexical} {least at a f next : ℕ} {frames new : List Frame} → 0 < least → least ≤ 11 → new ≡ frames → a ≡ at + 1 → f ≡ a + 1 → Next all a (mark "(") → next ≡ f + 1 → Next all f (mark ")") → Leads all (Looser least) at (NamedLeft all least frames at) next (ClosesAll least new 11)
call_ends {all} {least} {at} {a} {f} {next} {frames} {new} some within same e g n h m = subst (λ (fs : List Frame). Leads all (Looser least) at (NamedLeft all least frames at) next (ClosesAll least fs 11)) (sym same)
    (leads_on (call_left e g n)
    (past_on
    (leads_here (λ t rest p b s. closed_there all least f frames t rest some within m s p)) h))

place_there : (all : List Lexical) (least f : ℕ) (frames : List Frame) (t rest : List Lexical) → (Next all f (mark ")") → ⊥) → Sees all f (t ++ rest) → CallLeft least frames t → WantsPlace brackets.Call least frames t
unfolding CallLeft
place_there all least f frames t rest none s (inl p) = absurd (none_past all f (mark ")") _ t rest p s none)
place_there all least f frames t rest none s (inr w) = w

pub call_opens : {all : List Lexical} {least at a f count : ℕ} {frames : List Frame} {name : List ℕ} → a ≡ at + 1 → f ≡ a + 1 → Next all a (mark "(") → (Next all f (mark ")") → ⊥) → Leads all (Looser least) at (NamedLeft all least frames at) f (IsWanted least (frame.Places name brackets.Call count ∷ frames))
call_opens {all} {least} {at} {a} {f} {count} {frames} {name} e g n none = leads_on (call_left e g n)
    (leads_here (λ t rest p b s. place_there all least f frames t rest none s p name count))

-- ---- words of the grammar

pub extreme_word : (which : Extreme) → start (word (key_text (key.Extreme which))) ≡ start (extreme_text which)
extreme_word Min = refl
extreme_word Max = refl

pub keyed_goes : (lexemes : List Lexeme) (k : keys.Key) (n least : ℕ) (old new : Partial) (at : ℕ) (r : Result turn.Turn Stop) → start (word (key_text k)) ≡ n → IfOk r (λ t. GoesShaped lexemes n old at new t)
    → IfOk r (λ t. Goes (texts lexemes) least at (Shaped least old.frames (start (word (key_text k)))) new.frames t)
keyed_goes lexemes k n least old new at r e h = answers_as r h
    (λ t g. subst (λ (m : ℕ). Goes (texts lexemes) least at (Shaped least old.frames m) new.frames t) (sym e) (g least))

pub keyed_halts : (lexemes : List Lexeme) (k : keys.Key) (n least : ℕ) (old : Partial) (at : ℕ) (r : Result turn.Turn Stop) → start (word (key_text k)) ≡ n → IfErr r (Halts (HaltsShaped lexemes n old at))
    → IfErr r (Halts (Halted (texts lexemes) least at (Shaped least old.frames (start (word (key_text k))))))
keyed_halts lexemes k n least old at r e h = refused_as r h
    (λ last g. subst (λ (m : ℕ). Halted (texts lexemes) least at (Shaped least old.frames m) last) (sym e) (g least))

-- ---- signs

lone_shape : (all : List Lexical) (n least at : ℕ) (frames : List Frame) (t : List Lexical) → (n ≡ 5 → ⊥) → SignedLeft n all least frames at t → Shaped least frames n t
lone_shape all n least at frames t other (shaped_sign h) = h
lone_shape all n least at frames t other (of_inames e p) = absurd (other e)

-- the sign that tells is behind
pub prefix_signed : {all : List Lexical} {E Q : List Lexical → Type 0} {n least at : ℕ} {frames : List Frame} → (n ≡ 5 → ⊥) → ((x : Lexical) (left : List Lexical) → Shape n least frames x left → Q left) → Leads all E at (SignedLeft n all least frames at) (at + 1) Q
prefix_signed {all} {E} {Q} {n} {least} {at} {frames} other made = leads_on
    (leads_as (λ t h. lone_shape all n least at frames t other h)) (from_shaped made)

-- an opening parenthesis is behind
group_then : (all : List Lexical) (least at : ℕ) (frames : List Frame) (t : List Lexical) → Next all at (mark "(") → SignedLeft 5 all least frames at t → PastSome (λ x. Unit {0}) (OperandLeft all least (frame.Group ∷ frames) (at + 1)) t
group_then all least at frames t n (shaped_sign h) = record { first = h.first; left = h.left; is = h.is; sort = tt; ends = wanted h.shape }
group_then all least at frames t n (of_inames e p) = record { first = mark "("; left = word p.name.word ∷ mark "," ∷ p.more; is = p.is; sort = tt; ends = second_iname (record { begun = at; next_is = refl; open_first = n; name = p.name; more = p.more; is = refl; none = p.none }) }

pub group_signed : {all : List Lexical} {E : List Lexical → Type 0} {least at : ℕ} {frames : List Frame} → Next all at (mark "(") → Leads all E at (SignedLeft 5 all least frames at) (at + 1) (OperandLeft all least (frame.Group ∷ frames) (at + 1))
group_signed {all} {E} {least} {at} {frames} n = some_on
    (leads_as (λ t h. group_then all least at frames t n h)) refl

other_sign : (s : Sign) → (s ≡ Minus → ⊥) → (s ≡ Tilde → ⊥) → (s ≡ OpenParenthesis → ⊥) → start (sign (sign_text s)) ≡ 0
other_sign Minus h k l = absurd (h refl)
other_sign Tilde h k l = absurd (k refl)
other_sign OpenParenthesis h k l = absurd (l refl)
other_sign OpenBracket h k l = refl
other_sign CloseBracket h k l = refl
other_sign OpenBrace h k l = refl
other_sign CloseBrace h k l = refl
other_sign CloseParenthesis h k l = refl
other_sign Comma h k l = refl
other_sign Colon h k l = refl
other_sign Equal h k l = refl
other_sign Less h k l = refl
other_sign Greater h k l = refl
other_sign Plus h k l = refl
other_sign Star h k l = refl
other_sign Percent h k l = refl
other_sign Bar h k l = refl
other_sign Caret h k l = refl
other_sign Ampersand h k l = refl
other_sign ColonEqual h k l = refl
other_sign EqualEqual h k l = refl
other_sign PlusEqual h k l = refl
other_sign StarEqual h k l = refl
other_sign LessEqual h k l = refl
other_sign GreaterEqual h k l = refl
other_sign NotEqual h k l = refl
other_sign Arrow h k l = refl
other_sign ShiftRight h k l = refl
other_sign ShiftLeft h k l = refl
other_sign SlashSlash h k l = refl

no_signed : (all : List Lexical) (n least at : ℕ) (frames : List Frame) (t : List Lexical) → n ≡ 0 → SignedLeft n all least frames at t → ⊥
no_signed all n least at frames t e (shaped_sign h) = subst (λ (m : ℕ). Shape m least frames h.first h.left) e h.shape
no_signed all n least at frames t e (of_inames f p) = omega (arith, e, f)

-- nothing begins with another sign
pub signed_never : (all : List Lexical) (s : Sign) (least at : ℕ) (frames : List Frame) → (s ≡ Minus → ⊥) → (s ≡ Tilde → ⊥) → (s ≡ OpenParenthesis → ⊥) → Halted all least at (SignedLeft (start (sign (sign_text s))) all least frames at) at
signed_never all s least at frames h k l some within = record { on = omega arith; none = λ others rest same st. no_signed all (start (sign (sign_text s))) least at frames st.text (other_sign s h k l) st.is }

-- a part is opened behind the sign
pub signed_goes : (lexemes : List Lexeme) (s u : Sign) (old new : Partial) (g : Frame) (at : ℕ) (r : Result turn.Turn Stop) → s ≡ u → IfOk r (λ t. OpensPart old g (at + 1) new t)
    → ((least : ℕ) → Leads (texts lexemes) (Looser least) at (SignedLeft (start (sign (sign_text u))) (texts lexemes) least old.frames at) (at + 1) (OperandLeft (texts lexemes) least (g ∷ old.frames) (at + 1)))
    → IfOk r (λ t. (least : ℕ) → Goes (texts lexemes) least at (SignedLeft (start (sign (sign_text s))) (texts lexemes) least old.frames at) new.frames t)
signed_goes lexemes s u old new g at r e o h = answers_as r o
    (λ t k least some within. opens_left (texts lexemes) least at (at + 1) (SignedLeft (start (sign (sign_text s))) (texts lexemes) least old.frames at) old new g t k
    (subst (λ (v : Sign). Leads (texts lexemes) (Looser least) at (SignedLeft (start (sign (sign_text v))) (texts lexemes) least old.frames at) (at + 1) (OperandLeft (texts lexemes) least (g ∷ old.frames) (at + 1))) (sym e) (h least)))

-- ---- the token that stands where an operand is wanted

wanted_shaped : (all : List Lexical) (least at : ℕ) (frames : List Frame) (x : Lexical) (t rest : List Lexical) → 0 < least → least ≤ 11 → Next all at x → Sees all at (t ++ rest) → IsWanted least frames t → Shaped least frames (start x) t
wanted_shaped all least at frames x t rest some within n s w = let o = opening_of least frames t some within w in
    let same = first_of all at x o.first t o.left rest n s o.is in
    record { first = o.first; left = o.left; is = o.is; shape = subst (λ (m : ℕ). Shape m least frames o.first o.left) (ap start same) o.shape }

-- The token is no name and no opening parenthesis.
pub record NoIname (x : Lexical) : Type 0 where
  pub sign : x ≡ mark "(" → ⊥
  pub name : (n : Name) → x ≡ word n.word → ⊥

shaped_there : (all : List Lexical) (least at : ℕ) (frames : List Frame) (x : Lexical) (t rest : List Lexical) → 0 < least → least ≤ 11 → Next all at x → NoIname x → Sees all at (t ++ rest) → OperandLeft all least frames at t → Shaped least frames (start x) t
shaped_there all least at frames x t rest some within n none s (wanted w) = wanted_shaped all least at frames x t rest some within n s w
shaped_there all least at frames x t rest some within n none s (first_iname p) = absurd (none.sign (sym (first_of all at x (mark "(") t (word p.name.word ∷ mark "," ∷ p.more) rest n s p.is)))
shaped_there all least at frames x t rest some within n none s (second_iname p) = absurd (none.name p.name (sym (first_of all at x (word p.name.word) t (mark "," ∷ p.more) rest n s p.is)))

pub at_token : {all : List Lexical} {least at : ℕ} {frames : List Frame} {x : Lexical} → Next all at x → NoIname x → 0 < least → least ≤ 11 → Leads all (Looser least) at (OperandLeft all least frames at) at (Shaped least frames (start x))
at_token {all} {least} {at} {frames} {x} n none some within = leads_here (λ t rest p b s. shaped_there all least at frames x t rest some within n none s p)

pub no_number : (d : List ℕ) → NoIname (number d)
no_number d = record { sign = λ e. cc; name = λ n e. cc }

key_reserved : (k : keys.Key) → is_reserved (key_text k) ≡ true
key_reserved key.Kernel = refl
key_reserved key.Domain = refl
key_reserved key.Assume = refl
key_reserved key.Input = refl
key_reserved key.Output = refl
key_reserved key.Temp = refl
key_reserved key.Sum = refl
key_reserved key.Product = refl
key_reserved (key.Extreme Min) = refl
key_reserved (key.Extreme Max) = refl
key_reserved key.If = refl
key_reserved key.Cast = refl
key_reserved key.And = refl
key_reserved key.Or = refl
key_reserved key.Not = refl

same_word : (v w : List ℕ) → word v ≡ word w → v ≡ w
same_word v w e = cc

apart_words : (v w : List ℕ) → is_reserved v ≡ true → is_reserved w ≡ false → word v ≡ word w → ⊥
apart_words v w e f k = false≢true (sym f ∙ ap is_reserved (sym (same_word v w k)) ∙ e)

not_sign : (w s : List ℕ) → word w ≡ sign s → ⊥
not_sign w s e = cc

pub no_key : (k : keys.Key) → NoIname (word (key_text k))
no_key k = record { sign = λ e. not_sign (key_text k) (codes "(") e; name = λ n e. apart_words (key_text k) n.word (key_reserved k) n.free e }

-- a name
named_there : (all : List Lexical) (least at : ℕ) (frames : List Frame) (w : List ℕ) (t rest : List Lexical) → 0 < least → least ≤ 11 → is_reserved w ≡ false → Next all at (word w) → Sees all at (t ++ rest) → OperandLeft all least frames at t → NamedLeft all least frames at t
named_there all least at frames w t rest some within free n s (wanted h) = shaped_name (subst (λ (m : ℕ). Shaped least frames m t) (ap (word_start w) free) (wanted_shaped all least at frames (word w) t rest some within n s h))
named_there all least at frames w t rest some within free n s (first_iname p) = absurd (not_sign w (codes "(") (sym (first_of all at (word w) (mark "(") t (word p.name.word ∷ mark "," ∷ p.more) rest n s p.is)))
named_there all least at frames w t rest some within free n s (second_iname p) = of_iname p

pub at_name : {all : List Lexical} {least at : ℕ} {frames : List Frame} {w : List ℕ} → is_reserved w ≡ false → Next all at (word w) → 0 < least → least ≤ 11 → Leads all (Looser least) at (OperandLeft all least frames at) at (NamedLeft all least frames at)
at_name {all} {least} {at} {frames} {w} free n some within = leads_here (λ t rest p b s. named_there all least at frames w t rest some within free n s p)

-- a sign
signed_there : (all : List Lexical) (least at : ℕ) (frames : List Frame) (w : List ℕ) (t rest : List Lexical) → 0 < least → least ≤ 11 → Next all at (sign w) → Sees all at (t ++ rest) → OperandLeft all least frames at t → SignedLeft (start (sign w)) all least frames at t
signed_there all least at frames w t rest some within n s (wanted h) = shaped_sign (wanted_shaped all least at frames (sign w) t rest some within n s h)
signed_there all least at frames w t rest some within n s (first_iname p) = of_inames (ap start (sym (first_of all at (sign w) (mark "(") t (word p.name.word ∷ mark "," ∷ p.more) rest n s p.is))) p
signed_there all least at frames w t rest some within n s (second_iname p) = absurd (not_sign p.name.word w (first_of all at (sign w) (word p.name.word) t (mark "," ∷ p.more) rest n s p.is))

pub at_sign : (all : List Lexical) (least at : ℕ) (frames : List Frame) (w : List ℕ) → Next all at (sign w) → 0 < least → least ≤ 11 → Leads all (Looser least) at (OperandLeft all least frames at) at (SignedLeft (start (sign w)) all least frames at)
at_sign all least at frames w n some within = leads_here (λ t rest p b s. signed_there all least at frames w t rest some within n s p)

-- no operand begins with the token
pub token_never : {all : List Lexical} {least at : ℕ} {frames : List Frame} {x : Lexical} → Next all at x → NoIname x → start x ≡ 0 → Halted all least at (OperandLeft all least frames at) at
token_never {all} {least} {at} {frames} {x} n none e some within = never_here refl (λ t rest p b s.
    let h = shaped_there all least at frames x t rest some within n none s p in subst (λ (m : ℕ). Shape m least frames h.first h.left) e h.shape)

-- no token is left
left_token : (all : List Lexical) (least at : ℕ) (frames : List Frame) (t : List Lexical) → 0 < least → least ≤ 11 → OperandLeft all least frames at t → (x : Lexical) × (xs : List Lexical) × (t ≡ x ∷ xs)
left_token all least at frames t some within (wanted w) = let o = opening_of least frames t some within w in (o.first, o.left, o.is)
left_token all least at frames t some within (first_iname p) = (mark "(", word p.name.word ∷ mark "," ∷ p.more, p.is)
left_token all least at frames t some within (second_iname p) = (word p.name.word, mark "," ∷ p.more, p.is)

pub past_all : {all : List Lexical} {least at : ℕ} {frames : List Frame} → length all ≤ at → Halted all least at (OperandLeft all least frames at) at
past_all {all} {least} {at} {frames} h some within = never_here refl (λ t rest p b s.
    let k = left_token all least at frames t some within p in omega (arith, h, (s.token k.0 (k.1 ++ rest) (ap (λ xs. xs ++ rest) k.2)).within))

pub kind_none : (k : Kind) → start (word (kind_word k)) ≡ 0
kind_none I32 = refl
kind_none I64 = refl
kind_none U32 = refl
kind_none U64 = refl

kind_reserved : (k : Kind) → is_reserved (kind_word k) ≡ true
kind_reserved I32 = refl
kind_reserved I64 = refl
kind_reserved U32 = refl
kind_reserved U64 = refl

pub no_kind : (k : Kind) → NoIname (word (kind_word k))
no_kind k = record { sign = λ e. not_sign (kind_word k) (codes "(") e; name = λ n e. apart_words (kind_word k) n.word (kind_reserved k) n.free e }

pub no_end : NoIname line_end
no_end = record { sign = λ e. cc; name = λ n e. cc }

-- what the function for the token answers
pub goes_from : (all : List Lexical) (least at : ℕ) (P Q : List Lexical → Type 0) (new : List Frame) (r : Result turn.Turn Stop) → (0 < least → least ≤ 11 → Leads all (Looser least) at P at Q)
    → IfOk r (λ t. Goes all least at Q new t) → IfOk r (λ t. Goes all least at P new t)
goes_from all least at P Q new r h g = answers_as r g (λ t k some within. leads_on (h some within) (k some within))

pub halts_from : (all : List Lexical) (least at : ℕ) (P Q : List Lexical → Type 0) (r : Result turn.Turn Stop) → (0 < least → least ≤ 11 → Leads all (Looser least) at P at Q)
    → IfErr r (Halts (Halted all least at Q)) → IfErr r (Halts (Halted all least at P))
halts_from all least at P Q r h g = refused_as r g (λ last k some within. leads_never (h some within) (k some within))

pub goes_each : (all : List Lexical) (least at : ℕ) (P : List Lexical → Type 0) (Q : ℕ → List Lexical → Type 0) (new : List Frame) (r : Result turn.Turn Stop) → (0 < least → least ≤ 11 → Leads all (Looser least) at P at (Q least))
    → IfOk r (λ t. (l : ℕ) → Goes all l at (Q l) new t) → IfOk r (λ t. Goes all least at P new t)
goes_each all least at P Q new r h g = goes_from all least at P (Q least) new r h (answers_as r g (λ t k. k least))

pub halts_each : (all : List Lexical) (least at : ℕ) (P : List Lexical → Type 0) (Q : ℕ → List Lexical → Type 0) (r : Result turn.Turn Stop) → (0 < least → least ≤ 11 → Leads all (Looser least) at P at (Q least))
    → IfErr r (Halts (λ last. (l : ℕ) → Halted all l at (Q l) last)) → IfErr r (Halts (Halted all least at P))
halts_each all least at P Q r h g = halts_from all least at P (Q least) r h (refused_as r g (λ last k. k least))
