-- Names in parentheses.
use Rattle.std.proofs.Common.{◌≡◌, ◌<◌, ◌≤◌, ◌+◌, ℕ, Bool, true, false, nat_le, not, codes, List, [], ◌∷◌, ◌++◌, take, drop, length, length-append, map, ap, sym, refl, ◌∙◌, subst, append_assoc, arith, Result}
use Rattle.std.specs.Result.{IfOk}
use Rattle.std.proofs.lemmas.Bool.Decides.{nat_tests}
use Rattle.std.proofs.lemmas.List.{length-take-le}
use Rattle.std.proofs.Math.Seq.{drop-append_seam, take-append-add, take-add}
use Rattle.kernel_grammar.specs.Lexicals.{Lexical, word, mark, listed}
use Rattle.kernel_grammar.specs.Words.{Name, is_reserved}
use Rattle.kernel_grammar.specs.declared.step.Extreme.{Extreme}
use Rattle.kernel_grammar.specs.declared.step.Extreme.TheVariants.{Min, Max}
use Rattle.kernel_expressions.specs.declared.frame.Frame.{Frame}
use Rattle.kernel_expressions.specs.declared.frame.Frame.TheVariants as frame
use Rattle.kernel_expressions.specs.declared.lexeme.Lexeme.{Lexeme}
use Rattle.kernel_expressions.specs.declared.partial.Partial.{Partial}
use Rattle.kernel_expressions.specs.declared.partial.Turn as turn
use Rattle.kernel_expressions.specs.declared.stop.Stop.TheVariants.{OutOfMemory, Refused}
use Rattle.kernel_expressions.specs.Texts.{texts}
use Rattle.kernel_grammar.specs.Spelling.{extreme_text, name_text, names_text, in_parentheses}
use Rattle.kernel_expressions.specs.declared.stop.Stop.{Stop}
use Rattle.kernel_expressions.specs.Turns.{OpensPart, InParens, AreInames}
use Rattle.kernel_expressions.specs.Reads.{Next, Reads, IsList, word_of}
use Rattle.kernel_expressions.specs.Settled.{SpellsList, SameTo, Stands, Ends, Stops, Halts, Behind, AnyRest, is_mark}
use Rattle.kernel_expressions.specs.Follows.{Looser, Leads, Never, Past, Joins, BeginsInames, start, WantsBody, ExtremeLeft, of_two, over_names, Shaped, OperandLeft, wanted, first_iname, GoesShaped}
use Rattle.kernel_expressions.proofs.Join.{text_length}
use Rattle.kernel_expressions.proofs.Agreeing.{agrees, leads_as, leads_on, leads_never, past_on, answers_as}
use Rattle.kernel_expressions.proofs.NoNames.{no_names}
use Rattle.kernel_expressions.proofs.Shutting.{opens_left}
use Rattle.kernel_expressions.proofs.Operands.{from_shaped}

-- what stands behind names
abbrev pub NoComma : List Lexical → Type 0
NoComma = Behind (λ x. not (is_mark (codes ",") x))

-- ---- where inames begin, they are refused behind their first name

-- a name and a parenthesis, behind the first tokens
shorter : List Lexical → ℕ → Name → List Lexical
shorter all a name = take a all ++ word name.word ∷ mark ")" ∷ []

shorter_stands : (all : List Lexical) (a : ℕ) (name : Name) → Next all a (word name.word) → Stands (SpellsList name_text (mark ",")) NoComma (shorter all a name) a (mark ")" ∷ [])
unfolding shorter
shorter_stands all a name n = record {
  text = word name.word ∷ [];
  here = ap (λ (m : ℕ). drop m (take a all ++ word name.word ∷ mark ")" ∷ [])) (sym (length-take-le a all (omega (arith, n.within)))) ∙ drop-append_seam (take a all) (word name.word ∷ mark ")" ∷ []);
  is = record { first = name; more = []; spelled = refl };
  behind = refl;
}

shorter_same : (all : List Lexical) (a : ℕ) (name : Name) → Next all a (word name.word) → SameTo all (shorter all a name) a
unfolding shorter
shorter_same all a name n = ap (λ (m : ℕ). take (m + 1) (take a all ++ word name.word ∷ mark ")" ∷ [])) (sym (length-take-le a all (omega (arith, n.within)))) ∙ take-append-add (take a all) (word name.word ∷ mark ")" ∷ []) 1
    ∙ sym (take-add a 1 all ∙ ap (λ zs. take a all ++ take 1 zs) n.here)

past_name_if : (all : List Lexical) (a last : ℕ) (name : Name) (b : Bool) → nat_le (a + 1) last ≡ b → Next all a (word name.word) → Stops all (SpellsList name_text (mark ",")) NoComma a last → a + 1 ≤ last
past_name_if all a last name true t n h = grind (arith, nat_tests, t)
past_name_if all a last name false t n h =
    let same : last ≡ a = let k : last < a + 1 = grind (arith, nat_tests, t) in omega (arith, k, h.on) in
    absurd (h.none (shorter all a name) (mark ")" ∷ []) (subst (λ (m : ℕ). SameTo all (shorter all a name) m) (sym same) (shorter_same all a name n)) (shorter_stands all a name n))

pub past_name : (all : List Lexical) (at a last : ℕ) → a ≡ at + 1 → BeginsInames all at → Stops all (SpellsList name_text (mark ",")) NoComma a last → at + 2 ≤ last
past_name all at a last e b h = omega (arith, e, past_name_if all a last b.name (nat_le (a + 1) last) refl (subst (λ (m : ℕ). Next all m (word b.name.word)) (sym e) b.named) h)

some_names : (S : Type 0) (list : List (List ℕ)) (text : List Lexical) (first : Name) (more : List Name) → names_text (first ∷ more) ≡ text → 1 ≤ length text
some_names S list text first [] e = omega (arith, ap length e)
some_names S list text first (other ∷ more) e = omega (arith, ap length e)

pub names_long : (S : Type 0) (list : List (List ℕ)) (all : List Lexical) (a b : ℕ) → Reads all a b (IsList S name_text word_of (mark ",") list) → a + 1 ≤ b
names_long S list all a b h = omega (arith, text_length all a b (IsList S name_text word_of (mark ",") list) h, some_names S list h.text h.is.first h.is.more h.is.spelled)

pub parens_long : (S : Type 0) (list : List (List ℕ)) (all : List Lexical) (a b : ℕ) → Reads all a b (InParens S list) → a + 2 ≤ b
parens_long S list all a b h = omega (arith, text_length all a b (InParens S list) h, ap length h.is.spelled, length-append (names_text (h.is.first ∷ h.is.more)) (mark ")" ∷ []))

-- inames begin with a parenthesis, a name and a comma
pub inames_begin : (all : List Lexical) (at a : ℕ) (w : List ℕ) → is_reserved w ≡ false → a ≡ at + 1 → Next all at (mark "(") → Next all a (word w) → Next all (a + 1) (mark ",") → BeginsInames all at
inames_begin all at a w free e n k m = record {
  name = record { word = w; free = free };
  open_first = n;
  named = subst (λ (i : ℕ). Next all i (word w)) e k;
  comma = subst (λ (i : ℕ). Next all (i + 1) (mark ",")) e m;
}

-- they begin in each list with the same tokens as well
inames_same : (all others : List Lexical) (at n : ℕ) → at + 2 ≤ n → SameTo all others n → (b : BeginsInames all at) → drop at others ≡ mark "(" ∷ word b.name.word ∷ mark "," ∷ drop (((at + 1) + 1) + 1) others
inames_same all others at n h same b =
    (agrees others all (drop (at + 1) all) at n (mark "(") (omega (arith, h)) (sym same) b.open_first.here).here
    ∙ ap (λ xs. mark "(" ∷ xs) ((agrees others all (drop ((at + 1) + 1) all) (at + 1) n (word b.name.word) (omega (arith, h)) (sym same) b.named.here).here
    ∙ ap (λ xs. word b.name.word ∷ xs) (agrees others all (drop (((at + 1) + 1) + 1) all) ((at + 1) + 1) n (mark ",") (omega (arith, h)) (sym same) b.comma.here).here)

-- ---- `min` and `max`

pub extreme_open : (which : Extreme) (all : List Lexical) (E : List Lexical → Type 0) (least at : ℕ) (frames : List Frame) → Leads all E at (Shaped least frames (start (extreme_text which))) (at + 1) (Past (mark "(") (ExtremeLeft least frames))
extreme_open Min all E least at frames = from_shaped (λ x left s. s)
extreme_open Max all E least at frames = from_shaped (λ x left s. s)

pub extreme_start : (which : Extreme) (all : List Lexical) (E : List Lexical → Type 0) (least at a : ℕ) (frames : List Frame) → a ≡ (at + 1) + 1 → Leads all E at (Shaped least frames (start (extreme_text which))) a (ExtremeLeft least frames)
extreme_start which all E least at a frames e = past_on (extreme_open which all E least at frames) e

-- no inames stand there
operand_left : (all : List Lexical) (which : Extreme) (least a : ℕ) (frames : List Frame) (t : List Lexical) → (BeginsInames all a → ⊥) → ExtremeLeft least frames t → OperandLeft all least (frame.First which a ∷ frames) a t
operand_left all which least a frames t none (of_two h) = wanted (h which a)
operand_left all which least a frames t none (over_names j) = first_iname (record {
  name = j.begins.first;
  more = ((listed (mark ",") (map name_text (j.begins.second ∷ j.begins.more)) ++ mark ")" ∷ []) ++ mark "," ∷ []) ++ j.left;
  is = j.is ∙ ap (λ xs. xs ++ j.left) (sym j.begins.is);
  none = none;
})

pub extreme_first : (which : Extreme) (lexemes : List Lexeme) (old new : Partial) (at a : ℕ) (r : Result turn.Turn Stop) → IfOk r (λ t. OpensPart old (frame.First which a) a new t) → a ≡ (at + 1) + 1 → (BeginsInames (texts lexemes) a → ⊥)
    → IfOk r (λ t. GoesShaped lexemes (start (extreme_text which)) old at new t)
extreme_first which lexemes old new at a r o e none = answers_as r o (λ t k least some within.
    opens_left (texts lexemes) least at a (Shaped least old.frames (start (extreme_text which))) old new (frame.First which a) t k
    (leads_on
    (extreme_start which (texts lexemes) (Looser least) least at a old.frames e)
    (leads_as (λ u h. operand_left (texts lexemes) which least a old.frames u none h))))

-- inames stand there, so no expression does
inames_joined : (least : ℕ) (frames : List Frame) (t rest ys : List Lexical) (n : Name) → t ++ rest ≡ mark "(" ∷ word n.word ∷ mark "," ∷ ys → ExtremeLeft least frames t → Joins (AreInames ⊥ []) (WantsBody least frames) t
inames_joined least frames t rest ys n e (of_two h) = let w = h Min 0 in
    absurd (no_names 1 w.operand n (w.rest ++ rest) ys (omega arith) (omega arith) w.is (sym (append_assoc w.operand w.rest rest) ∙ ap (λ xs. xs ++ rest) (sym w.whole) ∙ e))
inames_joined least frames t rest ys n e (over_names j) = record { front = j.front; left = j.left; is = j.is; begins = record { tree = (j.begins.first, j.begins.second ∷ j.begins.more); spelled = j.begins.is; means = λ s. absurd s }; ends = j.ends }

pub extreme_body : (which : Extreme) (all : List Lexical) (E : List Lexical → Type 0) (least at a b : ℕ) (frames : List Frame) → a ≡ (at + 1) + 1 → BeginsInames all a → a + 2 ≤ b → Ends all (AreInames ⊥ []) AnyRest a b
    → Leads all E at (Shaped least frames (start (extreme_text which))) b (WantsBody least frames)
extreme_body which all E least at a b frames e begun le h = leads_on (extreme_start which all E least at a frames e) (record {
  on = omega (arith, le);
  left = λ others rest same s.
      let j = inames_joined least frames s.text rest (drop (((a + 1) + 1) + 1) others) begun.name (sym s.here ∙ inames_same all others a b le same begun) s.is in
      record { text = j.left; here = h.ends others (j.left ++ rest) same (record { text = j.front; here = s.here ∙ ap (λ xs. xs ++ rest) j.is ∙ append_assoc j.front j.left rest; is = j.begins; behind = tt }); is = j.ends; behind = s.behind };
})

pub extreme_never : (which : Extreme) (all : List Lexical) (E : List Lexical → Type 0) (least at a last : ℕ) (frames : List Frame) → a ≡ (at + 1) + 1 → BeginsInames all a → a + 2 ≤ last → Never all AnyRest a (AreInames ⊥ []) last
    → Never all E at (Shaped least frames (start (extreme_text which))) last
extreme_never which all E least at a last frames e begun le h = leads_never (extreme_start which all E least at a frames e) (record {
  on = h.on;
  none = λ others rest same s.
      let j = inames_joined least frames s.text rest (drop (((a + 1) + 1) + 1) others) begun.name (sym s.here ∙ inames_same all others a last le same begun) s.is in
      h.none others (j.left ++ rest) same (record { text = j.front; here = s.here ∙ ap (λ xs. xs ++ rest) j.is ∙ append_assoc j.front j.left rest; is = j.begins; behind = tt });
})

-- two sorts of refusals together
pub halts_both : (P Q : ℕ → Type 0) (stop : Stop) → Halts P stop → Halts Q stop → Halts (λ last. P last × Q last) stop
halts_both P Q OutOfMemory h k = tt
halts_both P Q (Refused at) h k = (h, k)

pub inames_long : (S : Type 0) (list : List (List ℕ)) (all : List Lexical) (a b : ℕ) → Reads all a b (AreInames S list) → a + 2 ≤ b
inames_long S list all a b h = omega (arith, text_length all a b (AreInames S list) h, ap length h.is.spelled, length-append (in_parentheses (names_text (h.is.tree.0 ∷ h.is.tree.1))) (mark "," ∷ []), length-append (names_text (h.is.tree.0 ∷ h.is.tree.1)) (mark ")" ∷ []))
